-- What is read of a script.
use Rattle.std.proofs.Common.{◌≡◌, ℕ, ◌+◌, ◌<◌, List, [], ◌∷◌, ◌++◌, length, Option, None, Some, IfSome, sym, ap, subst, ◌∙◌, arith, append_assoc, append-nil, length-append}
use Rattle.std.specs.Io.KnownBytes.{IsAtEnd, prepend_known}
use Rattle.std.specs.List.{AllByRecursion}
use Rattle.std.proofs.KnownBytes.{Consumes-nil, Consumes-trans}
use Rattle.std.proofs.lemmas.Grind.{flat_map-append}
use Rattle.std.proofs.lemmas.List.{append_cancel_left}
use Rattle.cache_base.specs.declared.limits.TheConstants.{SCRIPT_MAX}
use Rattle.cache_script.specs.Reader.{BreaksOff, Gives, IsBadScript, held_in, used_in}
use Rattle.cache_script.specs.declared.reader.Reader.{Reader}
use Rattle.cache_theory.specs.Command.{Command}
use Rattle.cache_theory.specs.Text.{CommandsIn, IsCommand, ScriptSpells, SpellsFront, command_bytes, script_bytes}
use Rattle.cache_tool.specs.Script.{AreTaken}
use Rattle.cache_tool.specs.ScriptProgress.{AreRead}

-- nothing, at the beginning
pub nothing_read : (left : Option (List ℕ)) (held : List ℕ) → held ≡ [] → AreRead left left [] held
nothing_read left held none = record {
  commands = tt;
  short = omega arith;
  read = [];
  taken = Consumes-nil left;
  spelled = sym none;
}

all_more : (P : Command → Type 0) (cs : List Command) (c : Command) → AllByRecursion P cs → P c → AllByRecursion P (cs ++ c ∷ [])
all_more P [] c all one = (one, tt)
all_more P (d ∷ cs) c all one = (all.0, all_more P cs c all.1 one)

-- the bytes of one command more
more_bytes : (cs : List Command) (c : Command) → script_bytes (cs ++ c ∷ []) ≡ script_bytes cs ++ command_bytes c
more_bytes cs c = flat_map-append command_bytes cs (c ∷ []) ∙ ap (λ l. script_bytes cs ++ l) (append-nil (command_bytes c))

pub more_length : (cs : List Command) (c : Command) → length (script_bytes (cs ++ c ∷ [])) ≡ length (script_bytes cs) + length (command_bytes c)
more_length cs c = ap length (more_bytes cs c) ∙ length-append (script_bytes cs) (command_bytes c)

-- one command more
pub read_on : (old new : Reader) (left mid now : Option (List ℕ)) (cs : List Command) (c : Command) → AreRead left mid cs (held_in old) → used_in old ≡ length (script_bytes cs) → Gives old new mid now c
    → AreRead left now (cs ++ c ∷ []) (held_in new)
read_on old new left mid now cs c r used g = record {
  commands = all_more IsCommand cs c r.commands g.is;
  short = omega (arith, more_length cs c, used, g.used, g.short);
  read = r.read ++ g.read;
  taken = Consumes-trans left mid now r.read g.read r.taken g.taken;
  spelled =
      ap (λ l. l ++ g.read) r.spelled ∙ append_assoc (script_bytes cs) (held_in old) g.read ∙ ap (λ l. script_bytes cs ++ l) g.spelled
      ∙ sym (append_assoc (script_bytes cs) (command_bytes c) (held_in new)) ∙ ap (λ l. l ++ held_in new) (sym (more_bytes cs c));
}

-- what the source had, where it tells
read_of : (P : List ℕ → Type 0) (left now : Option (List ℕ)) (cs : List Command) (held : List ℕ) → AreRead left now cs held
    → IfSome now (λ rest. (bytes : List ℕ) → SpellsFront bytes cs (held ++ rest) → P bytes) → IfSome left P
read_of P None now cs held r h = tt
read_of P (Some xs) None cs held r h = absurd r.taken
read_of P (Some xs) (Some ys) cs held r h = h xs (record {
  commands = r.commands;
  spelled = r.taken ∙ ap (λ l. l ++ ys) r.spelled ∙ append_assoc (script_bytes cs) held ys;
  short = r.short;
})

always : {X : Type 0} (o : Option X) (P : X → Type 0) → ((x : X) → P x) → IfSome o P
always None P h = tt
always (Some x) P h = h x

-- of what is left after the bytes that are held
behind : (o : Option (List ℕ)) (held : List ℕ) (P Q : List ℕ → Type 0) → IfSome (prepend_known held o) P → ((rest : List ℕ) → P (held ++ rest) → Q rest) → IfSome o Q
behind None held P Q h f = tt
behind (Some xs) held P Q h f = f xs h

at_end : (o : Option (List ℕ)) → IsAtEnd o → IfSome o (λ xs. xs ≡ [])
at_end None h = tt
at_end (Some xs) h = h

pub read_front : (left now : Option (List ℕ)) (cs : List Command) (held : List ℕ) → AreRead left now cs held → IfSome left (λ bytes. (rest : List ℕ) × SpellsFront bytes cs rest)
read_front left now cs held r =
    read_of (λ bytes. (rest : List ℕ) × SpellsFront bytes cs rest) left now cs held r (always now _ (λ rest bytes front. (held ++ rest, front)))

-- nothing is left
pub read_whole : (left now : Option (List ℕ)) (cs : List Command) (held : List ℕ) → AreRead left now cs held → IsAtEnd (prepend_known held now) → IfSome left (λ bytes. ScriptSpells bytes cs)
read_whole left now cs held r end =
    read_of (λ bytes. ScriptSpells bytes cs) left now cs held r
    (behind now held (λ l. l ≡ []) (λ rest. (bytes : List ℕ) → SpellsFront bytes cs (held ++ rest) → ScriptSpells bytes cs) (at_end (prepend_known held now) end)
    (λ rest none bytes front. subst (λ (l : List ℕ). SpellsFront bytes cs l) none front))

-- the source failed in a command
pub read_taken : (old : Reader) (left mid now : Option (List ℕ)) (cs : List Command) → AreRead left mid cs (held_in old) → BreaksOff old mid now → AreTaken left now cs
read_taken old left mid now cs r b = (
  r.read ++ b.0,
  (
    Consumes-trans left mid now r.read b.0 r.taken b.1.0,
    record {
      rest = held_in old ++ b.0;
      front = record {
        commands = r.commands;
        spelled = ap (λ l. l ++ b.0) r.spelled ∙ append_assoc (script_bytes cs) (held_in old) b.0;
        short = r.short;
      };
      longest = λ c more is e. absurd (b.1.1 c more is e);
    },
  ),
)

-- a script that ends after its commands has nothing after them
more_is_none : (bytes : List ℕ) (cs : List Command) (rest : List ℕ) → SpellsFront bytes cs rest → ScriptSpells bytes cs → rest ≡ []
more_is_none bytes cs rest front whole = append_cancel_left (script_bytes cs) rest [] (sym front.spelled ∙ whole.spelled)

-- the next command is bad
pub read_bad : (left now : Option (List ℕ)) (cs : List Command) (held : List ℕ) (used : ℕ) → AreRead left now cs held → used ≡ length (script_bytes cs) → IsBadScript used (prepend_known held now)
    → IfSome left (λ bytes. CommandsIn bytes cs × ¬ (ScriptSpells bytes cs))
read_bad left now cs held used r same bad =
    read_of (λ bytes. CommandsIn bytes cs × ¬ (ScriptSpells bytes cs)) left now cs held r
    (behind now held _ (λ rest. (bytes : List ℕ) → SpellsFront bytes cs (held ++ rest) → CommandsIn bytes cs × ¬ (ScriptSpells bytes cs)) bad
    (λ rest is bytes front. (
      record { rest = held ++ rest; front = front; longest = λ c more command e. subst (λ (n : ℕ). SCRIPT_MAX < n + length (command_bytes c)) same (is.1 c more command e) },
      λ whole. is.0 (more_is_none bytes cs (held ++ rest) front whole),
    )))
