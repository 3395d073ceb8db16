-- The file of an entry that no slot uses is removed, or the disk failed on the way.
use Rattle.std.proofs.Common.{◌≡◌, Bool, Result, Ok, Err, true, sym, subst}
use Rattle.cache_base.specs.declared.name.Name.{Name}
use Rattle.cache_theory.specs.History.{History}
use Rattle.cache_theory.specs.Marks.{is_touched}
use Rattle.cache_theory.specs.Step.{doomed_under}
use Rattle.cache_theory.proofs.ObjectLaws.Dooming.{unshelved_under}
use Rattle.disk_theory.specs.Calls.{if_done}
use Rattle.disk_theory.specs.State.{State, removed}
use Rattle.disk_theory.specs.declared.disk.DiskFault.{DiskFault}
use Rattle.disk_theory.specs.declared.place.Place.TheVariants.{Entry}
use Rattle.file_handles.specs.Cache.{cache_at}
use Rattle.file_handles.specs.Dooming.{DoomsUnder}
use Rattle.handle_table.specs.Kept.{Kept}
use Rattle.file_handles.specs.Stands.{KeepsWhere, ReachesHistory}
use Rattle.handle_table.specs.Users.{users_of}
use Rattle.file_handles.proofs.Dooming.DoomedBut.{removed_in, undoomed_but}
use Rattle.file_handles.proofs.Dooming.DoomedCommand.{removed_or_not}
use Rattle.file_handles.proofs.Histories.{history_of}
use Rattle.handle_table.proofs.SlotUsers.{unused_none}
use Rattle.handle_table.proofs.User.{no_user_there}

module _ (s : State) (k : Kept) (name : Name) (unused : users_of k name ≡ 0) (crash : Bool) (h : History)
    (touched : is_touched h.marks name.0 ≡ true) (keeps : KeepsWhere crash (cache_at k s) h) where
  abbrev next : History
  next = history_of (doomed_under h.machine name.0) h.marks

  gone : KeepsWhere crash (cache_at k (removed (Entry name) s)) next
  gone =
      let handles = keeps.stands.handles in
      let proper = keeps.stands.proper in
      let bare = unused_none k h.machine keeps.number proper handles name unused in
      let not_used = no_user_there k h.machine keeps.number proper handles name bare in
      removed_in name s k (doomed_under h.machine name.0) h.marks (unshelved_under h.machine name.0) touched
      (undoomed_but name.0 s k h.machine h.marks not_used keeps)

  leaves : (r : Result (Unit {0}) DiskFault) (t : State) → t ≡ if_done r (removed (Entry name) s) s
      → ReachesHistory crash next r (cache_at k t)
  leaves (Ok value) t is =
      let there : KeepsWhere crash (cache_at k t) next = subst (λ u. KeepsWhere crash (cache_at k u) next) (sym is) gone in
      record { safe = λ on. (there.crash_kept on).safe; next = there }
  leaves (Err f) t is = record {
    safe = λ on. removed_or_not s t h.marks name f is touched (keeps.crash_kept on).safe;
    next = tt;
  }

pub evicted : (s t : State) (k : Kept) (name : Name) (r : Result (Unit {0}) DiskFault) → users_of k name ≡ 0
    → t ≡ if_done r (removed (Entry name) s) s → DoomsUnder name.0 r (cache_at k s) (cache_at k t)
evicted s t k name r unused is =
    record { leaves = λ crash h touched keeps. leaves s k name unused crash h touched keeps r t is }
