-- The result of a `fill`.
use Rattle.std.specs.Prelude.{List, [], codes, ℕ, ◌++◌, ◌∷◌, ◌≡◌, ◌⊎◌}
use Rattle.cache_base.specs.Causes.{CountsFailure}
use Rattle.cache_base.specs.declared.status.Status.{Status}
use Rattle.cache_base.specs.declared.status.Status.TheVariants as status
use Rattle.cache_replies.specs.Answers.{outcome_of}
use Rattle.cache_store.specs.Open.{StartsOn}
use Rattle.cache_theory.specs.Command.{Command, Reply}
use Rattle.cache_theory.specs.Machine.{Machine}
use Rattle.cache_theory.specs.Step.{after, step}
use Rattle.cache_theory.specs.Text.{reply_text, with_number}
use Rattle.cache_tool.specs.Beginning.{DoneAtOpening}
use Rattle.cache_tool.specs.DoneFor.{AreDoneFor}
use Rattle.cache_tool.specs.Fill.{halving_commands, making_commands}
use Rattle.cache_tool.specs.FirstLine.{first_line}
use Rattle.cache_tool.specs.Statuses.{IsAnswer, status_of}
use Rattle.cache_tool.specs.Verbs.{HasNotBegun, LeavesDisk, PrintsText, all_begun_none_acked}
use Rattle.cache_tool.specs.World.{Output}
use Rattle.disk_theory.specs.Calls.{LastCallFails}
use Rattle.disk_theory.specs.State.{standing}
use Rattle.evictor.specs.Evict.{total_kb}
use Rattle.index_theory.specs.Honest.{Honest}
use Rattle.index_theory.specs.Scan.{scan}

-- the first lines of some replies, after the number of the entries
abbrev pub fill_lines : ℕ → Reply → Reply → Reply → List ℕ
fill_lines count evicted found listed =
    with_number (codes "made") count
    ++ (first_line (reply_text evicted) ++ (first_line (reply_text found) ++ first_line (reply_text listed)))

-- what is done for a machine: the entries are made and synced, half of all is evicted, and all is checked and listed.
-- The limit of the eviction follows from records, which are those of all entries where they are right; and so do the
-- eviction, the check and the list
pub record AreFilled (right : Type 0) (now count first : ℕ) (m : Machine) : Type 0 where
  pub kb : ℕ
  pub summed : right → kb ≡ total_kb (scan (after m (making_commands now count first)).shelf)
  pub evicts : Command
  pub checks : Command
  pub lists : Command
  pub are_done : AreDoneFor right (after m (making_commands now count first)) (halving_commands kb)
      (evicts ∷ (checks ∷ (lists ∷ [])))

-- the commands that are done, the lines that are printed, and the status, which is that of the check
module _ {right : Type 0} {now count first : ℕ} {m : Machine} (filled : AreFilled right now count first m) where
  abbrev pub done_in : List Command
  done_in = making_commands now count first ++ (filled.evicts ∷ (filled.checks ∷ (filled.lists ∷ [])))

  abbrev pub lines_in : List ℕ
  lines_in = let made = after m (making_commands now count first) in
      let evicted = step made filled.evicts in let checked = step evicted.next filled.checks in
      fill_lines count evicted.reply checked.reply (step checked.next filled.lists).reply

  abbrev pub status_in_check : Status
  status_in_check = let made = after m (making_commands now count first) in
      status_of (outcome_of (step (step made filled.evicts).next filled.checks).reply)

-- for a machine at an opening, and what was done for `Resume`: none of the commands after it is acknowledged, and
-- all may have begun
pub record PrintsFill (now count first : ℕ) (m : Machine) (d : Command) (ended : Status)
    (before after : Output)
    : Type 0 where
  pub filled : AreFilled (Honest (standing before.disk)) now count first (step m d).next
  -- with an answer the status is that of the check
  pub answer : IsAnswer ended → ended ≡ status_in_check filled
  pub text : PrintsText (lines_in filled) ended before after
  -- one call of the disk failed, or none did
  pub cause : CountsFailure (ended ≡ status.Disk) before.disk_faults after.disk_faults
  -- and no call follows one that failed
  pub last : ended ≡ status.Disk → LastCallFails after.disk_counts
  pub leaves : LeavesDisk m (all_begun_none_acked m d (done_in filled)) ended before.disk after.disk

-- `fill`: so many entries are made, half of all is evicted, and all is checked and listed; or the run did not begin
abbrev pub FillsCache : ℕ → ℕ → ℕ → Status → Output → Output → Type 0
FillsCache moment count first ended before now =
    (m : Machine) → StartsOn moment before.disk m
    → DoneAtOpening before.disk m (λ d. PrintsFill moment count first m d ended before now)
    ⊎ HasNotBegun m ended before now
