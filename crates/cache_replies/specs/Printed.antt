-- What a command prints on any disk, by its outcome.
use Rattle.std.specs.Io.KnownBytes.{Appends}
use Rattle.std.specs.Prelude.{Bool, List, Option, [], codes, false, true, ℕ, ⊤, ◌∷◌, ◌≡◌}
use Rattle.cache_check.specs.declared.finding.Finding.{Finding}
use Rattle.cache_replies.specs.declared.answered.Answered.{Answered}
use Rattle.cache_replies.specs.declared.answered.Answered.TheVariants as answered
use Rattle.cache_replies.specs.declared.verdict.Verdict.{Verdict}
use Rattle.cache_replies.specs.declared.verdict.Verdict.TheVariants as outcome
use Rattle.cache_theory.specs.Command.{Command}
use Rattle.cache_theory.specs.Command.Command.{Create, UnsetElement, ElementOf, ReadPart, Get, GetAlt, MainBody, HasEntry, ListRecords, Evict, EvictNames, ClearOrigin, ClearNames, Resume, ResumeNames, StepUpdate, UpdateState, Verify, VerifyRecords, Rebuild, Dump}
use Rattle.cache_theory.specs.Text.{findings_text, line, refusal_words}
use Rattle.cache_theory.specs.declared.refusal.Refusal.{Refusal}
use Rattle.entry_key.specs.Writing.{may_write}

-- the reply to the command is `ok` or a refusal
abbrev pub is_plain : Command → Bool
is_plain (UnsetElement s name) = false
is_plain (ElementOf s name) = false
is_plain (ReadPart s from len) = false
is_plain (Get key) = false
is_plain (GetAlt key) = false
is_plain (MainBody key) = false
is_plain (HasEntry key) = false
is_plain ListRecords = false
is_plain (Evict kb) = false
is_plain (EvictNames names) = false
is_plain (ClearOrigin origin) = false
is_plain (ClearNames names) = false
is_plain Resume = false
is_plain (ResumeNames names) = false
is_plain (StepUpdate n) = false
is_plain UpdateState = false
is_plain Verify = false
is_plain (VerifyRecords records) = false
is_plain Rebuild = false
is_plain Dump = false
is_plain _ = true

-- such a reply, of which nothing is said yet
abbrev pub IsPlainAnswer : Answered → Type 0
IsPlainAnswer answered.Done = ⊤
IsPlainAnswer (answered.Refused r) = ⊤
IsPlainAnswer _ = ⊥

-- the line of some refusal goes out
abbrev pub PrintsRefusal : Option (List ℕ) → Option (List ℕ) → Type 0
PrintsRefusal before now = (r : Refusal) × Appends before now (line (refusal_words r))

-- the line `ok` does
abbrev pub PrintsOk : Option (List ℕ) → Option (List ℕ) → Type 0
PrintsOk before now = Appends before now (line (codes "ok" ∷ []))

-- findings go out, of which there are some
abbrev pub PrintsFindings : Option (List ℕ) → Option (List ℕ) → Type 0
PrintsFindings before now =
    (first : Finding) × ((more : List Finding) × Appends before now (findings_text (first ∷ more)))

-- whether an answer lists findings
abbrev pub lists_findings : Answered → Bool
lists_findings (answered.Checked findings) = true
lists_findings _ = false

-- whether a command asks for findings
abbrev pub is_check : Command → Bool
is_check Verify = true
is_check _ = false

-- what the outcome `Refused` means of a command: a refusal, or findings
abbrev pub PrintsNo : Command → Option (List ℕ) → Option (List ℕ) → Type 0
PrintsNo Verify before now = PrintsFindings before now
PrintsNo c before now = PrintsRefusal before now

-- what goes out tells the outcome
pub record Prints (c : Command) (o : Verdict) (before now : Option (List ℕ)) : Type 0 where
  pub refused : o ≡ outcome.Refused → PrintsNo c before now
  pub done : o ≡ outcome.Ok → is_plain c ≡ true → PrintsOk before now

-- the command makes an entry under a key that cannot be written
abbrev pub HasBadKey : Command → Type 0
HasBadKey (Create s key) = may_write key ≡ false
HasBadKey _ = ⊥
