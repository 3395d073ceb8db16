-- What the calls on entries in use have in common: each record here is one clause of several of them.
use Rattle.std.specs.Prelude.{Err, IfOk, IsTrue, OnOk, Option, Result, Some, ℕ, ◌+◌, ◌≡◌, ◌≢◌, ◌≤◌, ◌⊎◌, IfSome}
use Rattle.cache_base.specs.declared.name.Name.{Name}
use Rattle.disk_theory.specs.Account.{Accounts, FailsInChange, OnlyChanges, no_sync}
use Rattle.disk_theory.specs.Told.{Told}
use Rattle.disk_theory.specs.declared.disk.Disk.{Ghosts}
use Rattle.index_theory.specs.Leaves.{LeavesBeside}
use Rattle.file_handles.specs.Answers.{OnRead, OnRefused, done_or, ending}
use Rattle.file_handles.specs.Cache.{cache_at}
use Rattle.file_handles.specs.Carries.{CarriesOut}
use Rattle.handle_table.specs.Aside.{number_in}
use Rattle.file_handles.specs.Dooming.{IsUnfinishedAt, LeavesMark, TakesEntry, TakesFirstFree}
use Rattle.file_handles.specs.Effects.{HasEffect, IsPlainEffect}
use Rattle.file_handles.specs.Failing.{LeavesAll}
use Rattle.file_handles.specs.Finishing.{finish_calls, finish_command, finish_syncs}
use Rattle.handle_table.specs.HeldChunks.{SameChunks}
use Rattle.handle_table.specs.Kept.{Kept, object_at, object_in}
use Rattle.file_handles.specs.PuttingAlt.{chunks_but_own}
use Rattle.file_handles.specs.Refuses.{TellsNoSlot}
use Rattle.file_handles.specs.Unsynced.{SyncsNothing}
use Rattle.file_handles.specs.declared.fault.Effect.{Effect}
use Rattle.file_handles.specs.declared.fault.HandleFault.{HandleFault}
use Rattle.file_handles.specs.declared.fault.HandleFault.TheVariants as fault
use Rattle.handle_table.specs.declared.object.Parts.{Parts}

-- the chunks in memory stay, `no slot` is refused just where the slot has no object, and no look at the disk fails
pub record KeepsHandles {T : Type 0} (slot : ℕ) (answer : Result T HandleFault) (k after : Kept)
    : Type 0 where
  pub chunks : SameChunks k after
  pub no_slot : TellsNoSlot k slot answer
  pub no_read : answer ≢ Err fault.Read

-- a refusal leaves the disk alone, the files of the index stay in any case, and there is no call but changes and so
-- many syncs at the most
pub record ChangesFiles {T : Type 0} {Self : _} (D : Ghosts Self) (most : ℕ)
    (answer : Result T HandleFault) (before now : Self)
    : Type 0 where
  pub unchanged : OnRefused answer (λ _. now ≡ before)
  pub index : Told D LeavesBeside before now
  pub disk : OnlyChanges D (ending answer) most before now

-- the entry of a slot is finished with the parts that are given, or else with its own
pub record FinishesEntry {Self : _} (D : Ghosts Self) (given : Option Parts) (slot : ℕ)
    (answer : Result Effect HandleFault) (k after : Kept) (before now : Self)
    : Type 0 where
  pub carried : IsTrue D.tells → CarriesOut (finish_command given slot) (done_or answer)
      (cache_at k (D.state before)) (cache_at after (D.state now))
  pub effect : IfOk answer (HasEffect k (finish_command given slot))
  pub plain : IfOk answer IsPlainEffect
  pub handles : KeepsHandles slot answer k after
  pub files : ChangesFiles D (finish_syncs (object_in k slot)) answer before now
  pub calls : OnOk answer (IsTrue D.tells → IfSome (object_in k slot)
      (λ x. (D.counts now).calls ≤ (D.counts before).calls + finish_calls x))

-- the disk is looked at first: where a look failed all is as it was, and else what failed was a change; nothing is
-- synced, and the files of the index stay
pub record LooksThenChanges {T : Type 0} {Self : _} (D : Ghosts Self)
    (answer : Result T HandleFault) (k after : Kept) (before now : Self)
    : Type 0 where
  pub read : OnRead answer (LeavesAll D k after before now)
  pub change : answer ≡ Err fault.Disk → FailsInChange D (ending answer) now
  pub unsynced : Told D SyncsNothing before now
  pub index : Told D LeavesBeside before now
  pub account : Accounts D (ending answer) no_sync before now

-- what stands under a name is doomed by one change at the most, which takes its file away. A file that is new among the
-- doomed has the least number that is free, and that of an unfinished entry keeps its own. The slots, the chunks in
-- memory, the mark and the files of the index stay. It fails only where a change of the disk failed
pub record DoomsAside {T : Type 0} {Self : _} (D : Ghosts Self) (name : Name)
    (answer : Result T HandleFault) (k after : Kept) (before now : Self)
    : Type 0 where
  pub takes : Told D (TakesEntry name) before now
  pub numbered : Told D TakesFirstFree before now
  pub unmoved : (place number : ℕ) → IsUnfinishedAt k name place number
      → (now ≡ before) × (number_in (object_at after place) ≡ Some number)
  pub slots : after.slots ≡ k.slots
  pub chunks : SameChunks k after
  pub mark : Told D LeavesMark before now
  pub index : Told D LeavesBeside before now
  pub unsynced : Told D SyncsNothing before now
  pub refused : OnRefused answer (λ _. ⊥)
  pub no_read : answer ≢ Err fault.Read
  pub disk : OnlyChanges D (ending answer) no_sync before now

-- the chunks of the slot's entry, and no others, leave the memory, at Ok in any case and at a refusal never
pub record DropsOwnChunks {T : Type 0} (slot : ℕ) (answer : Result T HandleFault) (k after : Kept)
    : Type 0 where
  pub done : OnOk answer (after.chunks ≡ chunks_but_own k slot)
  pub some : SameChunks k after ⊎ (after.chunks ≡ chunks_but_own k slot)
  pub refused : OnRefused answer (λ _. SameChunks k after)

-- one look and one change at the most, and where the look failed no change
pub record MakesTwoCalls {T : Type 0} {Self : _} (D : Ghosts Self) (answer : Result T HandleFault)
    (before now : Self)
    : Type 0 where
  pub done : OnOk answer (IsTrue D.tells → (D.counts now).calls ≤ (D.counts before).calls + 2)
  pub read : OnRead answer (IsTrue D.tells → (D.counts now).calls ≤ (D.counts before).calls + 1)
