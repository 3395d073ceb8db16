-- Commands that are answered `fault`: a look at the disk failed, and the machine is as before. Commands are counted
-- from 1 here.
use Rattle.std.specs.List.{list_any}
use Rattle.std.specs.Prelude.{Bool, List, [], codes, drop, false, if◌then◌else◌, length, slice_get, Some, suc, take, ℕ, ⊤, ◌+◌, ◌++◌, ◌==◌, ◌<◌, ◌≡◌, ◌≢◌, ◌≤◌, ◌⊎◌, ◌∷◌}
use Rattle.std.specs.Str.{bytes_eq}
use Rattle.cache_theory.specs.Command.{Command, Reply}
use Rattle.cache_theory.specs.Machine.{Machine}
use Rattle.cache_theory.specs.Step.{after, step}
use Rattle.cache_theory.specs.Text.{AreSpoken, line, replies_text, reply_text}

-- the line that answers such a command
unfoldable pub fault_line : List ℕ
fault_line = line (codes "fault" ∷ [])

-- the number is among these
abbrev pub is_faulted : List ℕ → ℕ → Bool
is_faulted faults n = list_any (λ f. f == n) faults

-- numbers that rise, from the first one on and below the end
abbrev pub AreSortedIn : ℕ → ℕ → List ℕ → Type 0
AreSortedIn first end [] = ⊤
AreSortedIn first end (f ∷ faults) = (first ≤ f) × ((f < end) × AreSortedIn (suc f) end faults)

-- numbers of some of the first p commands, rising
abbrev pub AreFaults : ℕ → List ℕ → Type 0
AreFaults p faults = AreSortedIn 1 (suc p) faults

-- Where the first command has the number n.

-- the commands but for those with these numbers
abbrev pub unfaulted_from : ℕ → List ℕ → List Command → List Command
unfaulted_from n faults [] = []
unfaulted_from n faults (c ∷ cs) =
    if is_faulted faults n then unfaulted_from (suc n) faults cs
    else c ∷ unfaulted_from (suc n) faults cs

-- what is printed: the replies of the machine, and for each of those the line, with the machine as before
abbrev pub replies_from : ℕ → List ℕ → Machine → List Command → List ℕ
replies_from n faults m [] = []
replies_from n faults m (c ∷ cs) =
    if is_faulted faults n then fault_line ++ replies_from (suc n) faults m cs
    else reply_text (step m c).reply ++ replies_from (suc n) faults (step m c).next cs

-- From the first command on.

-- the commands but for those with these numbers
abbrev pub unfaulted : List ℕ → List Command → List Command
unfaulted faults cs = unfaulted_from 1 faults cs

-- what is printed for the commands, with the line for each of those
abbrev pub replies_but : Machine → List Command → List ℕ → List ℕ
replies_but m cs faults = replies_from 1 faults m cs

-- What an output tells of commands.

-- how many are answered, and the numbers of those that are answered `fault`
pub record Faulted : Type 0 where
  pub answered : ℕ
  pub faults : List ℕ

-- none is answered
abbrev pub none_answered : Faulted
none_answered = record { answered = 0; faults = [] }

-- one command more is, before the others, by `fault`
abbrev pub fault_before : ℕ → Faulted → Faulted
fault_before n more = record { answered = suc more.answered; faults = n ∷ more.faults }

-- one command more is, before the others, by its reply
abbrev pub reply_before : Faulted → Faulted
reply_before more = record { answered = suc more.answered; faults = more.faults }

-- the bytes begin with the text
abbrev pub begins_with : List ℕ → List ℕ → Bool
begins_with text bytes = bytes_eq (take (length text) bytes) text

-- the bytes are read against the commands, of which the first has the number n: where they go on with the line, the
-- command is answered `fault`, and the machine is as before; where they go on with its reply, the machine steps; and
-- otherwise the reading ends
abbrev pub faulted_from : ℕ → Machine → List Command → List ℕ → Faulted
faulted_from n m [] bytes = none_answered
faulted_from n m (c ∷ cs) bytes =
    let reply = reply_text (step m c).reply in
    if begins_with fault_line bytes then fault_before n (faulted_from (suc n) m cs (drop (length fault_line) bytes))
    else if begins_with reply bytes then reply_before (faulted_from (suc n) (step m c).next cs (drop (length reply) bytes))
    else none_answered

-- the bytes are read against all commands
abbrev pub faulted : Machine → List Command → List ℕ → Faulted
faulted m cs bytes = faulted_from 1 m cs bytes

-- Laws.

-- no reply of the machine begins with `fault`
abbrev pub NoReplyIsFault : Type 0
NoReplyIsFault = (r : Reply) (more : List ℕ) → reply_text r ≢ codes "fault" ++ more

-- a prefix of the text, and not all of it
abbrev pub IsCutOf : List ℕ → List ℕ → Type 0
IsCutOf text x = (n : ℕ) × ((n < length text) × (x ≡ take n text))

-- the reply to a command after the first p, in the state that those of them leave that are kept
abbrev pub reply_behind : Machine → List Command → ℕ → List ℕ → Command → List ℕ
reply_behind m cs p faults c = reply_text (step (after m (unfaulted faults (take p cs))) c).reply

-- what may have gone out of the answer to the next command, if there is one, after the answers to the first p:
-- nothing, or a cut of the line or of its reply. After the last command anything may follow
abbrev pub MayFollow : Machine → List Command → ℕ → List ℕ → List ℕ → Type 0
MayFollow m cs p faults x = (c : Command) → slice_get cs p ≡ Some c
    → (x ≡ []) ⊎ (IsCutOf fault_line x ⊎ IsCutOf (reply_behind m cs p faults c) x)

-- what went out tells how many are answered, and which by `fault`
abbrev pub FaultedIsTold : Type 0
FaultedIsTold = (m : Machine) (cs : List Command) (p : ℕ) (faults x : List ℕ)
    → AreSpoken cs → p ≤ length cs → AreFaults p faults → MayFollow m cs p faults x
    → faulted m cs (replies_but m (take p cs) faults ++ x) ≡ record { answered = p; faults = faults }

-- So it is where this went out.

-- the answers to all commands, whatever follows them
abbrev pub WholeIsTold : Type 0
WholeIsTold = (m : Machine) (cs : List Command) (faults x : List ℕ) → AreSpoken cs → AreFaults (length cs) faults
    → faulted m cs (replies_but m cs faults ++ x) ≡ record { answered = length cs; faults = faults }

-- the answers to the first commands
abbrev pub FrontIsTold : Type 0
FrontIsTold = (m : Machine) (cs more : List Command) (faults : List ℕ) → AreSpoken (cs ++ more) → AreFaults (length cs) faults
    → faulted m (cs ++ more) (replies_but m cs faults) ≡ record { answered = length cs; faults = faults }

-- these, and a part of the reply to the next one
abbrev pub CutIsTold : Type 0
CutIsTold = (m : Machine) (cs more : List Command) (c : Command) (faults : List ℕ) (n : ℕ) → AreSpoken (cs ++ c ∷ more) → AreFaults (length cs) faults
    → let text = reply_text (step (after m (unfaulted faults cs)) c).reply in
    n < length text
    → faulted m (cs ++ c ∷ more) (replies_but m cs faults ++ take n text) ≡ record { answered = length cs; faults = faults }

-- these, and a part of the line
abbrev pub FaultCutIsTold : Type 0
FaultCutIsTold = (m : Machine) (cs more : List Command) (c : Command) (faults : List ℕ) (n : ℕ) → AreSpoken (cs ++ c ∷ more) → AreFaults (length cs) faults
    → n < length fault_line
    → faulted m (cs ++ c ∷ more) (replies_but m cs faults ++ take n fault_line) ≡ record { answered = length cs; faults = faults }

-- And whatever went out, it begins with the answers to as many commands as are read, which are no more than there
-- are, and goes on with no answer to the next one.
pub record IsRead (m : Machine) (cs : List Command) (bytes : List ℕ) (r : Faulted) : Type 0 where
  pub within : r.answered ≤ length cs
  pub numbers : AreFaults r.answered r.faults
  pub left : List ℕ
  pub begins : bytes ≡ replies_but m (take r.answered cs) r.faults ++ left
  pub ends : (c : Command) → slice_get cs r.answered ≡ Some c
      → (begins_with fault_line left ≡ false)
      × (begins_with (reply_behind m cs r.answered r.faults c) left ≡ false)

-- so it is with what is read of any bytes
abbrev pub FaultedIsRead : Type 0
FaultedIsRead = (m : Machine) (cs : List Command) (bytes : List ℕ) → IsRead m cs bytes (faulted m cs bytes)

-- Commands one after the other.

-- the later commands see what was kept of the first
pub record GoesOn (m : Machine) (cs more : List Command) (faults : List ℕ) : Type 0 where
  pub replies : replies_but m (cs ++ more) faults
      ≡ replies_but m cs faults ++ replies_text (after m (unfaulted faults cs)) more
  pub kept : unfaulted faults (cs ++ more) ≡ unfaulted faults cs ++ more

-- where only some of the first are answered `fault`
abbrev pub FaultsAreInFront : Type 0
FaultsAreInFront = (m : Machine) (cs more : List Command) (faults : List ℕ) → AreFaults (length cs) faults → GoesOn m cs more faults

-- the numbers with that of the next command after so many
abbrev pub with_next : ℕ → List ℕ → List ℕ
with_next p faults = faults ++ suc p ∷ []

-- the number of one command more comes after those of the first
abbrev pub NextIsNumbered : Type 0
NextIsNumbered = (p : ℕ) (faults : List ℕ) → AreFaults p faults → AreFaults (suc p) (with_next p faults)

-- one command more is answered `fault`, and so is not kept
pub record FaultsNext (m : Machine) (cs : List Command) (c : Command) (faults : List ℕ)
    : Type 0 where
  pub replies : replies_but m (cs ++ c ∷ []) (with_next (length cs) faults)
      ≡ replies_but m cs faults ++ fault_line
  pub kept : unfaulted (with_next (length cs) faults) (cs ++ c ∷ []) ≡ unfaulted faults cs

-- so it may be with any command after any others
abbrev pub NextMayFault : Type 0
NextMayFault = (m : Machine) (cs : List Command) (c : Command) (faults : List ℕ) → AreFaults (length cs) faults → FaultsNext m cs c faults

-- each command is kept or answered `fault`
abbrev pub KeptAreCounted : Type 0
KeptAreCounted = (cs : List Command) (faults : List ℕ) → AreFaults (length cs) faults → length (unfaulted faults cs) + length faults ≡ length cs

-- numbers of some of the first commands are numbers of some of more commands
abbrev pub FaultsAreWithin : Type 0
FaultsAreWithin = (p q : ℕ) (faults : List ℕ) → p ≤ q → AreFaults p faults → AreFaults q faults
