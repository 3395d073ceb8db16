-- The changes of the files of entries leave the index alone.
use Rattle.std.proofs.Common.{◌≡◌, ⊎_elim, inl, inr, ℕ, List, [], ◌∷◌, Bool, true, false, Option, Some, None, Result, Ok, Err, refl, sym, subst}
use Rattle.cache_base.specs.declared.name.Name.{Name}
use Rattle.cache_theory.specs.Machine.{Object as MachineObject}
use Rattle.cache_theory.proofs.CrashImages.Reading.{some_of}
use Rattle.disk_theory.specs.Calls.{if_done, if_ok}
use Rattle.disk_theory.specs.Sound.{IsSound}
use Rattle.disk_theory.specs.State.{File, State, content_of, created, names_now, removed, renamed, settled}
use Rattle.disk_theory.specs.declared.disk.DiskFault.{DiskFault}
use Rattle.disk_theory.specs.declared.disk.DiskFault.TheVariants.{Failed, Memory}
use Rattle.disk_theory.specs.declared.place.Place.TheVariants.{Doomed, Entry}
use Rattle.doom_area.specs.DoomArea.{RemovesDoomed, removed_each}
use Rattle.index_theory.specs.Apart.{IsBeside}
use Rattle.index_theory.specs.Leaves.{LeavesBeside}
use Rattle.index_theory.proofs.LeavesLaws.{both_leave_beside, create_leaves_beside, nothing_leaves_beside, remove_leaves_beside, rename_leaves_beside, sync_leaves_beside, writes_leave_beside}
use Rattle.file_handles.specs.Cache.{cache_at}
use Rattle.file_handles.specs.Changes.{ChangesThere, IsFiledAt}
use Rattle.file_handles.specs.Closing.{let_go_by, without_doomed}
use Rattle.file_handles.specs.Creating.{MayHaveMade, MayHaveRemoved}
use Rattle.file_handles.specs.Dooming.{SetsAside}
use Rattle.handle_table.specs.Held.{object_place, place_of}
use Rattle.handle_table.specs.Kept.{Kept, object_at}
use Rattle.file_handles.specs.Publishing.{CompletesThere, IsAmidPublishing, published_by}
use Rattle.file_handles.specs.Publishing.IsAmidPublishing.{Published, Synced, Unsynced}
use Rattle.file_handles.specs.declared.fault.HandleFault.{HandleFault}
use Rattle.handle_table.specs.declared.object.Object.{Object}
use Rattle.file_handles.proofs.Changed.{writes_weaker}
use Rattle.file_handles.proofs.Dooming.DoomedUser.{least_free}
use Rattle.file_handles.proofs.Finishing.IndexPublished.{published_leaves_beside}

-- where nothing changed
pub same_left : {s t : State} → t ≡ s → LeavesBeside s t
same_left {s} {t} same = subst (LeavesBeside s) (sym same) (nothing_leaves_beside s)

-- a change that may have failed
pub done_left : {T : Type 0} (r : Result T DiskFault) (s t u : State) → LeavesBeside s t → u ≡ if_done r t s → LeavesBeside s u
done_left (Ok value) s t u left is = subst (LeavesBeside s) (sym is) left
done_left (Err Failed) s t u left is = subst (LeavesBeside s) (sym is) left
done_left (Err Memory) s t u left is = same_left is

-- one call after the other
pub then_left : (s t u : State) → LeavesBeside s t → LeavesBeside t u → LeavesBeside s u
then_left s t u one two = both_leave_beside s t u one two

-- no place of an object is the index's
no_index : (name : Name) (number : Option ℕ) → IsBeside (place_of name number) → ⊥
no_index name None of = of
no_index name (Some n) of = of

-- An object that is changed: its file alone is written to.

pub named_file : (files : ℕ → File) (name : Option ℕ) (c : List ℕ) → content_of files name ≡ Some c → (file : ℕ) × (name ≡ Some file)
named_file files None c is = absurd (let never : None ≡ Some c = is in cc)
named_file files (Some file) c is = (file, refl)

pub change_left : {T : Type 0} (s t : State) (k after : Kept) (p : ℕ) (x : Object) (change : MachineObject → MachineObject) (r : Result T HandleFault) → IsSound s → object_at k p ≡ Some x
    → IsFiledAt (cache_at k s) p → ChangesThere p change r (cache_at k s) (cache_at after t) → LeavesBeside s t
change_left s t k after p x change r sound at filed changes =
    let o = filed x at in
    let file = some_of (content_of s.files (names_now s (object_place x))) o.1.file in
    let there = named_file s.files (names_now s (object_place x)) file.0 file.1.0 in
    writes_leave_beside s t (object_place x) there.0 (no_index x.name x.aside) sound there.1
    (writes_weaker s t there.0 _ (λ c. Unit {0}) (λ c is. tt) ((changes x at).changes.writes o.0 o.1 there.0 there.1))

-- One that is finished: its file alone is written to, and then all is synced and the file moved.
pub completed_left : {T : Type 0} (s t : State) (k after : Kept) (p : ℕ) (x : Object) (change : MachineObject → MachineObject) (r : Result T HandleFault) → IsSound s → object_at k p ≡ Some x
    → IsFiledAt (cache_at k s) p → CompletesThere p change r (cache_at k s) (cache_at after t) → LeavesBeside s t
completed_left s t k after p x change r sound at filed completes =
    let o = filed x at in
    let file = some_of (content_of s.files (names_now s (object_place x))) o.1.file in
    let there = named_file s.files (names_now s (object_place x)) file.0 file.1.0 in
    let does = (completes x at).completes in
    let u : State = does.written in
    let written : LeavesBeside s u =
    writes_leave_beside s u (object_place x) there.0 (no_index x.name x.aside) sound there.1
    (writes_weaker s u there.0 _ (λ c. Unit {0}) (λ c is. tt) (does.writes o.0 o.1 there.0 there.1)) in
    elim does.amid [
      | inl same ↦ subst (LeavesBeside s) (sym same) written
      | inr amid ↦ then_left s u t written (amid_left x.name x.doomed x.aside u t does.sound amid.0)
    ]
  where
    published_left : (name : Name) (doomed : Bool) (aside : Option ℕ) (u : State) → IsSound u → LeavesBeside u (published_by name doomed aside u)
    published_left name true aside u sound = nothing_leaves_beside u
    published_left name false None u sound = nothing_leaves_beside u
    published_left name false (Some d) u sound = published_leaves_beside u d name sound

    amid_left : (name : Name) (doomed : Bool) (aside : Option ℕ) (u t : State) → IsSound u → IsAmidPublishing name doomed aside u t → LeavesBeside u t
    amid_left name doomed aside u t sound amid = elim amid [
      | Unsynced same ↦ same_left same
      | Synced undoomed same ↦ subst (LeavesBeside u) (sym same) (sync_leaves_beside u sound)
      | Published same ↦ subst (LeavesBeside u) (sym same) (published_left name doomed aside u sound)
    ]

-- An entry that is made, or doomed.

made_by : (s t : State) (d : ℕ) → IsSound s → t ≡ created (Doomed d) s → LeavesBeside s t
made_by s t d sound is = subst (LeavesBeside s) (sym is) (create_leaves_beside s (Doomed d) (λ of. of) sound)

pub made_left : {T : Type 0} (r : Result T HandleFault) (s t : State) (d : ℕ) → IsSound s → MayHaveMade (Doomed d) r s t → LeavesBeside s t
made_left (Ok value) s t d sound may = made_by s t d sound may.made
made_left (Err fault) s t d sound may = ⊎_elim (made_by s t d sound) (λ same. same_left same) may.either

gone_by : (s t : State) (name : Name) → t ≡ removed (Entry name) s → LeavesBeside s t
gone_by s t name is = subst (LeavesBeside s) (sym is) (remove_leaves_beside s (Entry name) (λ of. of))

-- or whose file is removed, where there is one
pub gone_left : {T : Type 0} (r : Result T HandleFault) (s t : State) (name : Name) → MayHaveRemoved (Entry name) r s t → LeavesBeside s t
gone_left (Ok value) s t name may = ⊎_elim (gone_by s t name) (λ same. same_left same.0) may.done
gone_left (Err fault) s t name may = ⊎_elim (gone_by s t name) (λ same. same_left same) may.either

pub doomed_left : (r : Result ℕ DiskFault) (s t : State) (name : Name) (aside : Option ℕ) (numbers : List ℕ) → IsSound s → SetsAside name aside numbers r s t → LeavesBeside s t
doomed_left r s t name None numbers sound sets =
    let l = least_free numbers in
    done_left r s (renamed (Entry name) (Doomed l.0) s) t (rename_leaves_beside s (Entry name) (Doomed l.0) (λ of. of) (λ of. of) (λ of. of) sound) (sets.moves refl l.0 l.1)
doomed_left r s t name (Some n) numbers sound sets = same_left (sets.stays n refl).1

pub removed_left : {T : Type 0} (r : Result T DiskFault) (s t : State) (name : Name) → t ≡ if_done r (removed (Entry name) s) s → LeavesBeside s t
removed_left r s t name is = done_left r s (removed (Entry name) s) t (remove_leaves_beside s (Entry name) (λ of. of)) is

-- An object that is given up.

pub let_go_left : {T : Type 0} (r : Result T DiskFault) (s t : State) (x : Object) → t ≡ if_done r (let_go_by x s) s → LeavesBeside s t
let_go_left r s t x is = done_left r s (let_go_by x s) t (go x.aside) is
  where
    go : (n : Option ℕ) → LeavesBeside s (without_doomed n s)
    go None = nothing_leaves_beside s
    go (Some n) = remove_leaves_beside s (Doomed n) (λ of. of)

-- The doomed files that an earlier run left, and a sync.

each_left : (numbers : List ℕ) (s : State) → LeavesBeside s (removed_each numbers s)
each_left [] s = nothing_leaves_beside s
each_left (n ∷ numbers) s = both_leave_beside s (removed (Doomed n) s) (removed_each numbers (removed (Doomed n) s)) (remove_leaves_beside s (Doomed n) (λ of. of)) (each_left numbers (removed (Doomed n) s))

pub cleared_left : (s t : State) → RemovesDoomed s t → LeavesBeside s t
cleared_left s t removes = subst (LeavesBeside s) (sym removes.1) (each_left removes.0 s)

pub synced_left : {T : Type 0} (r : Result T DiskFault) (s t : State) → IsSound s → t ≡ if_ok r (settled s) s → LeavesBeside s t
synced_left (Ok value) s t sound is = subst (LeavesBeside s) (sym is) (sync_leaves_beside s sound)
synced_left (Err fault) s t sound is = same_left is
