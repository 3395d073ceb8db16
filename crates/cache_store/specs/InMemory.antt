-- Replies that only what is in memory tells, on any disk, also on one that tells nothing.
use Rattle.std.specs.Io.KnownBytes.{Appends}
use Rattle.std.specs.Prelude.{List, OnErr, OnOk, Option, Result, codes, [], ℕ, ◌∷◌, ◌≡◌, ◌⊎◌}
use Rattle.cache_store.specs.Answering.{AnswersTo}
use Rattle.cache_replies.specs.Completing.{IsReplyCut}
use Rattle.cache_store.specs.Open.{Represents}
use Rattle.cache_store.specs.Records.{has_record}
use Rattle.cache_replies.specs.Said.{IsCut, Saying}
use Rattle.cache_store.specs.Session.{Open}
use Rattle.cache_replies.specs.declared.answered.Answered.{Answered}
use Rattle.cache_store.specs.declared.fault.StoreFault.{StoreFault}
use Rattle.cache_replies.specs.declared.verdict.Verdict.{Verdict}
use Rattle.memory_index.specs.declared.memory_index.MemoryIndex.{MemoryIndex}
use Rattle.cache_theory.specs.Command.{Command, Reply}
use Rattle.cache_theory.specs.Command.Command.{HasEntry, HasGiven}
use Rattle.cache_theory.specs.Machine.{Machine}
use Rattle.cache_theory.specs.Step.{step}
use Rattle.cache_theory.specs.Text.{line, refusal_words, reply_text}
use Rattle.cache_theory.specs.declared.refusal.Refusal.{Refusal}
use Rattle.disk_theory.specs.State.{State}

-- what is done for such a command
abbrev pub done_in_memory : MemoryIndex → Command → Command
done_in_memory index (HasEntry key) = HasGiven key (has_record index key)
done_in_memory index c = c

-- P of its reply, whatever machine the store stands for, over whatever disk
abbrev pub ForReply : Open → Command → (Reply → Type 0) → Type 0
ForReply o c P =
    (s : State) (m : Machine) → Represents (record { open_store = o; disk = s }) m
    → P (step m (done_in_memory o.index c)).reply

-- that is the answer, as far as it was said
abbrev pub AnswersInMemory : Open → Command → Result Answered StoreFault → Option (List ℕ) → Saying → Type 0
AnswersInMemory o c answer before now = ForReply o c (λ r. AnswersTo r answer before now)

-- the reply is out, or it was cut
pub record IsOutOrCut (answer : Result Verdict StoreFault) (before now : Option (List ℕ))
    (r : Reply) : Type 0 where
  pub out : OnOk answer (Appends before now (reply_text r))
  pub cut : OnErr answer (IsReplyCut r before now)

-- so it is with the reply that only what is in memory tells
abbrev pub RepliesInMemory : Open → Command → Result Verdict StoreFault → Option (List ℕ) → Option (List ℕ) → Type 0
RepliesInMemory o c answer before now = ForReply o c (IsOutOrCut answer before now)

-- the line is `ok` or a refusal
abbrev pub IsPlainLine : List ℕ → Type 0
IsPlainLine text = (text ≡ line (codes "ok" ∷ [])) ⊎ ((r : Refusal) × (text ≡ line (refusal_words r)))

-- a part of such a line went out, and not all of it
abbrev pub CutsPlainLine : Option (List ℕ) → Option (List ℕ) → Type 0
CutsPlainLine before now = (text : List ℕ) × (IsPlainLine text × IsCut before now text)
