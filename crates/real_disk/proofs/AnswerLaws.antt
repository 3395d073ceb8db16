-- What a call of the folder leaves, where its outcome is answered.
use Rattle.std.proofs.Common.{◌≡◌, sym, subst, IfOk, OnOk, None, Result, Ok, Err}
use Rattle.std.specs.BTreeSet.{btree_set_len}
use Rattle.real_disk.specs.declared.folder.Folder.{Folder}
use Rattle.real_disk.specs.declared.real_disk.RealDisk.{RealDisk}
use Rattle.real_disk.specs.Earlier.{IsSynced}
use Rattle.pending_syncs.specs.Folders.{NoneLeft}
use Rattle.real_disk.specs.Settled.{IsAllSynced}
use Rattle.real_disk.specs.Pending.{NothingPending}
use Rattle.disk_theory.specs.declared.place.Place.{Place}
use Rattle.machine_files.specs.declared.machine.Machine.{Ghosts}
use Rattle.real_disk.specs.Changes.{IsMoved, IsRemoved}
use Rattle.real_disk.specs.Handed.{RemovesAt, RenamesTo}
use Rattle.pending_syncs.specs.Kept.{opened_at, MovesKept}

pub synced_answer : {T E F R File Dir : Type 0} (answer : Result T E) (outcome : Result T F) (disk : RealDisk R File Dir) (folder : Folder R File Dir)
    → IfOk answer (λ value. outcome ≡ Ok value) → disk.folder ≡ folder
    → OnOk outcome (btree_set_len folder.files ≡ 0) → OnOk outcome (NoneLeft folder.tree.folders)
    → OnOk outcome (IsSynced folder.earlier) → OnOk answer (NothingPending disk)
synced_answer (Ok value) (Ok other) disk folder is same files names earlier = record {
  settled = subst (λ (f : Folder _ _ _). IsAllSynced f.files f.tree.folders f.earlier) (sym same) (record { no_file = files; no_name = names; no_earlier = earlier });
}
synced_answer (Ok value) (Err fault) disk folder is same files names earlier = cc
synced_answer (Err fault) outcome disk folder is same files names earlier = tt

-- what holds of the folder where the call succeeded holds where that is answered
pub on_answer : {T E F R File Dir : Type 0} (P : Folder R File Dir → Type 0) (answer : Result T E) (outcome : Result T F) (disk : RealDisk R File Dir) (folder : Folder R File Dir)
    → IfOk answer (λ value. outcome ≡ Ok value) → disk.folder ≡ folder → OnOk outcome (P folder) → OnOk answer (P disk.folder)
on_answer P (Ok value) (Ok other) disk folder is same holds = subst P (sym same) holds
on_answer P (Ok value) (Err fault) disk folder is same holds = absurd cc
on_answer P (Err fault) outcome disk folder is same holds = tt

module _ {T E F R File Dir : Type 0} (M : Ghosts R File Dir) where
  pub renamed_answer : (from to : Place) (answer : Result T E) (outcome : Result T F) (before disk : RealDisk R File Dir) (folder : Folder R File Dir)
      → IfOk answer (λ value. outcome ≡ Ok value) → disk.folder ≡ folder → OnOk outcome (IsMoved M before.folder.tree from to)
      → OnOk outcome (MovesKept from to before.folder.kept folder.kept) → OnOk answer (RenamesTo M from to before disk)
  renamed_answer from to (Ok value) (Ok other) before disk folder is same moved kept = record {
    moved = moved;
    kept = subst (λ (f : Folder R File Dir). MovesKept from to before.folder.kept f.kept) (sym same) kept;
  }
  renamed_answer from to (Ok value) (Err fault) before disk folder is same moved kept = absurd cc
  renamed_answer from to (Err fault) outcome before disk folder is same moved kept = tt

  pub removed_answer : (place : Place) (answer : Result T E) (outcome : Result T F) (before disk : RealDisk R File Dir) (folder : Folder R File Dir)
      → IfOk answer (λ value. outcome ≡ Ok value) → disk.folder ≡ folder → OnOk outcome (IsRemoved M before.folder.tree place)
      → OnOk outcome (opened_at folder.kept place ≡ None) → OnOk answer (RemovesAt M place before disk)
  removed_answer place (Ok value) (Ok other) before disk folder is same removed closed = record {
    removed = removed;
    closed = subst (λ (f : Folder R File Dir). opened_at f.kept place ≡ None) (sym same) closed;
  }
  removed_answer place (Ok value) (Err fault) before disk folder is same removed closed = absurd cc
  removed_answer place (Err fault) outcome before disk folder is same removed closed = tt
