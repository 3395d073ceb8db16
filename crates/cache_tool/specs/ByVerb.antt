-- What the program does, reads and prints, verb by verb.
use Rattle.std.specs.Io.KnownBytes.{Appends, IsAtEnd}
use Rattle.std.specs.Prelude.{List, None, Option, Some, false, suc, true, ℕ, ◌+◌, ◌≡◌, ◌≢◌}
use Rattle.cache_base.specs.declared.limits.TheConstants.{BODY_MAX, PIECE_MAX}
use Rattle.cache_base.specs.declared.status.Status.{Status}
use Rattle.cache_base.specs.declared.status.Status.TheVariants as status
use Rattle.cache_replies.specs.Printed.{PrintsNo, PrintsOk, PrintsRefusal, is_plain}
use Rattle.cache_theory.specs.Command.{Command}
use Rattle.cache_tool.specs.AnyDisk.{TakesAtMost}
use Rattle.cache_tool.specs.Filled.{FillsCache}
use Rattle.cache_tool.specs.Load.{HasDump, HasNoDump, IsDumpOf, LoadsDump, bad_dump_line, loaded_line}
use Rattle.cache_tool.specs.Script.{HasBadCommand, HasScript, IsScript}
use Rattle.cache_tool.specs.Verbs.{AnswersCommand, RunsScript, StoresEntry}
use Rattle.cache_tool.specs.Words.{Asked}
use Rattle.cache_tool.specs.World.{World, output_of}
use Rattle.entry_key.specs.Writing.{may_write}

-- what is printed, what stands afterwards, and what a crash may leave
abbrev pub Performs : Option Asked → Status → World → World → Type 0
Performs (Some (Asked.Run moment)) ended before now = RunsScript moment ended before now
Performs (Some (Asked.Put moment key)) ended before now = StoresEntry moment key ended before now
Performs (Some (Asked.One moment c)) ended before now =
    AnswersCommand moment c ended (output_of before) (output_of now)
Performs (Some (Asked.Fill moment count first)) ended before now =
    FillsCache moment count first ended (output_of before) (output_of now)
Performs (Some (Asked.Load moment)) ended before now = LoadsDump moment ended before now
Performs None ended before now = Unit {0}

-- A `run` that ended with 0 has read the source to its end, and its bytes spell a script. With 3 they are bad.
pub record ReadsScript (ended : Status) (left now : Option (List ℕ)) : Type 0 where
  pub read : ended ≡ status.Done → IsAtEnd now
  pub spelled : ended ≡ status.Done → HasScript left
  pub bad : ended ≡ status.Script → HasBadCommand left

-- A `put` that ended with 0 has read the source to its end. It reads nothing where the key may not be written, and at
-- most a piece more than a body in any case.
pub record ReadsBody (key : List ℕ) (same : Type 0) (ended : Status) (left now : Option (List ℕ))
    : Type 0 where
  pub unread : may_write key ≡ false → same
  pub taken : TakesAtMost (BODY_MAX + PIECE_MAX) left now
  pub read : ended ≡ status.Done → IsAtEnd now

-- A `load` that ended with 0 has read the source to its end, and its bytes are a dump. With 3 they are none.
pub record ReadsDump (ended : Status) (left now : Option (List ℕ)) : Type 0 where
  pub read : ended ≡ status.Done → IsAtEnd now
  pub spelled : ended ≡ status.Done → HasDump left
  pub bad : ended ≡ status.Script → HasNoDump left

-- what is read of a source that has this left before and now; the other verbs leave it the same
abbrev pub ReadsSource :
    Option Asked → (same : Type 0) → Status → Option (List ℕ) → Option (List ℕ) → Type 0
ReadsSource (Some (Asked.Run moment)) same ended left now = ReadsScript ended left now
ReadsSource (Some (Asked.Put moment key)) same ended left now = ReadsBody key same ended left now
ReadsSource (Some (Asked.One moment c)) same ended left now = same
ReadsSource (Some (Asked.Fill moment count first)) same ended left now = same
ReadsSource (Some (Asked.Load moment)) same ended left now = ReadsDump ended left now
ReadsSource None same ended left now = Unit {0}

-- A `put` that ended with 0 has printed `ok`, and with 7 a refusal.
pub record PrintsPut (ended : Status) (before now : Option (List ℕ)) : Type 0 where
  pub done : ended ≡ status.Done → PrintsOk before now
  pub refused : ended ≡ status.No → PrintsRefusal before now

-- So has a command whose reply is `ok` or a refusal. With 7 a `verify` has printed what it found.
pub record PrintsOne (c : Command) (ended : Status) (before now : Option (List ℕ)) : Type 0 where
  pub done : ended ≡ status.Done → is_plain c ≡ true → PrintsOk before now
  pub refused : ended ≡ status.No → PrintsNo c before now

-- A `load` has printed how many items there were with 0, and with 3 which one is bad.
pub record PrintsLoad (ended : Status) (before now : Option (List ℕ)) : Type 0 where
  pub done : ended ≡ status.Done → (n : ℕ) × Appends before now (loaded_line n)
  pub bad : ended ≡ status.Script → (n : ℕ) × Appends before now (bad_dump_line (suc n))

-- what a status tells of what was printed
abbrev pub PrintsBy : Option Asked → Status → Option (List ℕ) → Option (List ℕ) → Type 0
PrintsBy (Some (Asked.Put moment key)) ended before now = PrintsPut ended before now
PrintsBy (Some (Asked.One moment c)) ended before now = PrintsOne c ended before now
PrintsBy (Some (Asked.Load moment)) ended before now = PrintsLoad ended before now
PrintsBy _ ended before now = Unit {0}

-- whether a verb may end with a status: a script and a dump alone are bad and never refused, and a source fails for
-- them and a `put` alone
abbrev pub IsStatusOf : Option Asked → Status → Type 0
IsStatusOf (Some (Asked.Run moment)) ended = ended ≢ status.No
IsStatusOf (Some (Asked.Put moment key)) ended = ended ≢ status.Script
IsStatusOf (Some (Asked.One moment c)) ended = (ended ≢ status.Script) × (ended ≢ status.Source)
IsStatusOf (Some (Asked.Fill moment count first)) ended =
    (ended ≢ status.Script) × (ended ≢ status.Source)
IsStatusOf (Some (Asked.Load moment)) ended = ended ≢ status.No
IsStatusOf None ended = Unit {0}

-- for a run that did not end in a failure of the disk: no call of the disk failed; for `run`, whose looks may fail, no
-- change and no sync
abbrev pub WentOn : Option Asked → (no_call no_change : Type 0) → Type 0
WentOn (Some (Asked.Run moment)) no_call no_change = no_change
WentOn (Some _) no_call no_change = no_call
WentOn None no_call no_change = Unit {0}

-- what a verb asks for that reads its source whole: a script, or a dump
abbrev pub IsWhole : Option Asked → Option (List ℕ) → Type 0
IsWhole (Some (Asked.Run moment)) left = IsScript left
IsWhole (Some (Asked.Load moment)) left = IsDumpOf left
IsWhole _ left = Unit {0}
