-- In an honest directory what is done for commands equals the commands themselves.
use Rattle.std.specs.List.{AllByRecursion}
use Rattle.std.specs.Prelude.{List, Some, false, length, min, suc, take, true, ℕ, ◌+◌, ◌∷◌, ◌≡◌, ◌⊎◌}
use Rattle.cache_base.specs.declared.status.Status.{Status}
use Rattle.cache_store.specs.DoneFor.{IsResumedBy}
use Rattle.cache_theory.specs.Cleared.{IsClearedAt, IsCovered}
use Rattle.cache_theory.specs.Command.{Command}
use Rattle.cache_theory.specs.Command.Command.{Resume}
use Rattle.cache_theory.specs.Crash.{NoChance}
use Rattle.cache_theory.specs.Ever.{entries}
use Rattle.cache_theory.specs.Faulted.{replies_but, unfaulted}
use Rattle.cache_theory.specs.Given.{IsGiven}
use Rattle.cache_theory.specs.Machine.{Machine}
use Rattle.cache_theory.specs.Marks.{Marks, is_in_place, is_touched}
use Rattle.cache_theory.specs.Proper.{IsProper}
use Rattle.cache_theory.specs.Session.{marks_between}
use Rattle.cache_theory.specs.Step.{after, replies, step}
use Rattle.cache_theory.specs.Wording.{IsWrittenIn}
use Rattle.cache_tool.specs.Beginning.{AreAtOpening}
use Rattle.cache_tool.specs.DoneFor.{AreDoneFor}
use Rattle.cache_tool.specs.Verbs.{PrintsReplies, one_begun_after}
use Rattle.cache_tool.specs.World.{World}
use Rattle.context_clear.specs.Mark.{mark_of}
use Rattle.disk_theory.specs.Image.{Files, IsImage}
use Rattle.disk_theory.specs.Sound.{IsQuiet}
use Rattle.disk_theory.specs.State.{State, standing}
use Rattle.entry_file.specs.EntryFile.{found}
use Rattle.entry_file.specs.Version.{Version}
use Rattle.entry_name.specs.EntryName.{file_name}
use Rattle.index_theory.specs.Honest.{Honest}

-- the states and the replies are the same, and so are the marks, whatever numbers of commands are acknowledged and
-- have begun
pub record ComeToSame (m : Machine) (cs ds : List Command) : Type 0 where
  pub states : after m ds ≡ after m cs
  pub replies : replies m ds ≡ replies m cs
  pub marks : (a b : ℕ) → marks_between m ds a b ≡ marks_between m cs a b

-- what is done for commands is the same in an honest directory
abbrev pub DoneIsSame : Type 0
DoneIsSame = (s : State) (m : Machine) (cs ds : List Command) → Honest (standing s)
    → AreDoneFor (Honest (standing s)) m cs ds → ComeToSame m cs ds

-- So it is in a run of a script: this was done for `Resume`, and these for the commands of the script, of which those
-- with these numbers are left out.
pub record IsOfScript (m : Machine) (d : Command) (cs done : List Command) (with_last : List ℕ)
    (ended : Status)
    (acked : ℕ) : Type 0 where
  -- the marks are those of `Resume` and of the script's commands, and what was performed is the same
  pub marks : (one_begun_after m d acked with_last ended done).marks
      ≡ (one_begun_after m Resume acked with_last ended cs).marks
  pub states : after m (one_begun_after m d acked with_last ended done).done
      ≡ after m (one_begun_after m Resume acked with_last ended cs).done
  -- and the answers are those to the script's commands
  pub answers : replies_but (step m d).next done with_last
      ≡ replies_but (step m Resume).next cs with_last

-- in an honest directory
abbrev pub RunIsOfScript : Type 0
RunIsOfScript = (s : State) (m : Machine) (d : Command) (cs done : List Command) (with_last : List ℕ)
    → Honest (standing s) → IsResumedBy (AreAtOpening s m) (mark_of m.mark) m d
    → length done ≡ length cs
    → AreDoneFor (Honest (standing s)) (step m d).next (unfaulted with_last cs) (unfaulted with_last done)
    → (ended : Status) (acked : ℕ) → IsOfScript m d cs done with_last ended acked

-- ---- what a stop in a run may bring back of an origin

-- the script's commands that are acknowledged or may have begun, after `Resume`, without those with these numbers
abbrev pub begun_in : List Command → List ℕ → ℕ → List Command
begun_in cs with_last acked = Resume ∷ unfaulted with_last (take (min (acked + 1) (length cs)) cs)

-- so many of them are acknowledged
abbrev pub acked_in : List Command → List ℕ → ℕ → ℕ
acked_in cs with_last acked = suc (length (unfaulted with_last (take acked cs)))

-- a crash leaves the version under the key; by no chance, where metadata were rewritten in place under its name
pub record IsFoundAfter (s : State) (w : Marks) (key : List ℕ) (v : Version) : Type 0 where
  pub image : Files
  pub is_image : IsImage s image
  pub found : found (entries image) key ≡ Some v
  pub no_chance : is_touched w (file_name key) ≡ true
      → (is_in_place w (file_name key) ≡ false) ⊎ NoChance s image (file_name key)

-- Once a `clear` of a script is acknowledged, a stop at any time in the run, whatever its status, brings back a
-- covered version only where a later command of the script wrote it. The directory was honest, with nothing pending.
abbrev pub ClearedStayGoneInRun : Type 0
ClearedStayGoneInRun = (m : Machine) (d : Command) (bytes : List ℕ) (cs : List Command) (ended : Status)
    (before now : World)
    → IsProper m → AllByRecursion IsGiven cs → Honest (standing before.disk) → IsQuiet before.disk
    → IsResumedBy (AreAtOpening before.disk m) (mark_of m.mark) m d
    → (run : PrintsReplies m d bytes cs ended before now)
    → let begun = begun_in cs run.with_last run.acked in
    let a = acked_in cs run.with_last run.acked in
    (origin : List ℕ) (at : ℕ) → IsClearedAt begun a origin at
    → (key : List ℕ) (v : Version) → IsFoundAfter now.disk (marks_between m begun a (length begun)) key v
    → IsCovered origin v → IsWrittenIn m begun (suc at) (length begun) (file_name key) v
