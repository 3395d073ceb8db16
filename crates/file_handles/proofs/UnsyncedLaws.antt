-- What syncs nothing: one call, and one call after the other.
use Rattle.std.proofs.Common.{◌≡◌, ◌∙◌, ⊎_elim, inl, inr, ℕ, List, true, false, Option, Some, None, Result, Ok, Err, refl, sym, ap, subst, arith}
use Rattle.std.specs.Prelude.{option_map, unwrap_or, ◌&&◌}
use Rattle.std.proofs.lemmas.Bool.{cases_eq}
use Rattle.cache_base.specs.declared.name.Name.{Name}
use Rattle.cache_theory.specs.Machine.{Object as MachineObject}
use Rattle.cache_theory.proofs.CrashImages.Reading.{some_of}
use Rattle.disk_theory.specs.Calls.{if_done}
use Rattle.disk_theory.specs.State.{File, State, Write, add_write, content_of, created, empty_file, names_now, removed, renamed, write_to, wrote}
use Rattle.disk_theory.specs.Writes.{WritesTo}
use Rattle.disk_theory.specs.declared.disk.DiskFault.{DiskFault}
use Rattle.disk_theory.specs.declared.disk.DiskFault.TheVariants.{Failed, Memory}
use Rattle.disk_theory.specs.declared.place.Place.{Place}
use Rattle.disk_theory.specs.declared.place.Place.TheVariants.{Doomed, Entry}
use Rattle.disk_theory.proofs.Files.{with_file-below, with_file-cases}
use Rattle.file_handles.specs.Cache.{cache_at}
use Rattle.file_handles.specs.Changes.{ChangesThere, IsFiledAt}
use Rattle.file_handles.specs.Closing.{is_some_draft, let_go_by, without_doomed, writes_draft}
use Rattle.file_handles.specs.Creating.{MayHaveMade, MayHaveRemoved}
use Rattle.file_handles.specs.Dooming.{SetsAside}
use Rattle.handle_table.specs.Held.{object_place}
use Rattle.handle_table.specs.Kept.{Kept, object_at, use_at}
use Rattle.file_handles.specs.Unsynced.{SyncsNothing}
use Rattle.file_handles.specs.declared.fault.HandleFault.{HandleFault}
use Rattle.handle_table.specs.declared.object.Object.{Object}
use Rattle.handle_table.specs.declared.object.Use.{Use}
use Rattle.file_handles.proofs.Dooming.DoomedUser.{least_free}
use Rattle.file_handles.proofs.IndexLeft.{named_file}

-- where nothing changed
pub same_unsynced : {s t : State} → t ≡ s → SyncsNothing s t
same_unsynced {s} {t} same = subst (SyncsNothing s) (sym same) (record { names = refl; made = omega arith; contents = λ file lt. refl })

-- one call after the other
pub then_unsynced : (s t u : State) → SyncsNothing s t → SyncsNothing t u → SyncsNothing s u
then_unsynced s t u one two = record {
  names = two.names ∙ one.names;
  made = (let le = one.made in let next = two.made in omega (arith, le, next));
  contents = λ file lt. two.contents file (let le = one.made in omega (arith, lt, le)) ∙ one.contents file lt;
}

-- a file that is made
pub create_unsynced : (s : State) (place : Place) → SyncsNothing s (created place s)
create_unsynced s place = record {
  names = refl;
  made = omega arith;
  contents = λ file lt. ap (λ (f : File). f.synced) (with_file-below s.made file empty_file s.files lt);
}

-- a file that is written to
write_keeps : (o : Option ℕ) (write : Write) (files : ℕ → File) (file : ℕ) → (write_to o write files file).synced ≡ (files file).synced
write_keeps None write files file = refl
write_keeps (Some f) write files file = elim (with_file-cases f file (add_write write (files f)) files) [
  | inl here ↦ ap (λ (g : File). g.synced) here.1 ∙ ap (λ (n : ℕ). (files n).synced) (sym here.0)
  | inr there ↦ ap (λ (g : File). g.synced) there
]

pub write_unsynced : (s : State) (place : Place) (write : Write) → SyncsNothing s (wrote place write s)
write_unsynced s place write = record { names = refl; made = omega arith; contents = λ file lt. write_keeps (names_now s place) write s.files file }

-- or by several writes
pub writes_unsynced : (s t : State) (file : ℕ) (P : List ℕ → Type 0) → WritesTo file P s t → SyncsNothing s t
writes_unsynced s t file P writes = record {
  names = writes.names;
  made = (let same = writes.made in omega (arith, same));
  contents = λ n lt. elim (cases_eq n file) [
    | inl same ↦ subst (λ (i : ℕ). (t.files i).synced ≡ (s.files i).synced) (sym same) writes.synced
    | inr apart ↦ ap (λ (f : File). f.synced) (writes.others n apart)
  ];
}

-- a file that is moved, and one that is removed
pub rename_unsynced : (s : State) (from to : Place) → SyncsNothing s (renamed from to s)
rename_unsynced s from to = record { names = refl; made = omega arith; contents = λ file lt. refl }

pub remove_unsynced : (s : State) (place : Place) → SyncsNothing s (removed place s)
remove_unsynced s place = record { names = refl; made = omega arith; contents = λ file lt. refl }

-- a change that may have failed
pub done_unsynced : {T : Type 0} (r : Result T DiskFault) (s t u : State) → SyncsNothing s t → u ≡ if_done r t s → SyncsNothing s u
done_unsynced (Ok value) s t u unsynced is = subst (SyncsNothing s) (sym is) unsynced
done_unsynced (Err Failed) s t u unsynced is = subst (SyncsNothing s) (sym is) unsynced
done_unsynced (Err Memory) s t u unsynced is = same_unsynced is

pub removed_unsynced : {T : Type 0} (r : Result T DiskFault) (s t : State) (name : Name) → t ≡ if_done r (removed (Entry name) s) s → SyncsNothing s t
removed_unsynced r s t name is = done_unsynced r s (removed (Entry name) s) t (remove_unsynced s (Entry name)) is

-- an object that is changed: its file alone is written to
pub change_unsynced : {T : Type 0} (s t : State) (k after : Kept) (p : ℕ) (x : Object) (change : MachineObject → MachineObject) (r : Result T HandleFault) → object_at k p ≡ Some x
    → IsFiledAt (cache_at k s) p → ChangesThere p change r (cache_at k s) (cache_at after t) → SyncsNothing s t
change_unsynced s t k after p x change r at filed changes =
    let o = filed x at in
    let file = some_of (content_of s.files (names_now s (object_place x))) o.1.file in
    let there = named_file s.files (names_now s (object_place x)) file.0 file.1.0 in
    writes_unsynced s t there.0 _ ((changes x at).changes.writes o.0 o.1 there.0 there.1)

-- an entry that is made
made_by : (s t : State) (d : ℕ) → t ≡ created (Doomed d) s → SyncsNothing s t
made_by s t d is = subst (SyncsNothing s) (sym is) (create_unsynced s (Doomed d))

pub made_unsynced : {T : Type 0} (r : Result T HandleFault) (s t : State) (d : ℕ) → MayHaveMade (Doomed d) r s t → SyncsNothing s t
made_unsynced (Ok value) s t d may = made_by s t d may.made
made_unsynced (Err fault) s t d may = ⊎_elim (made_by s t d) (λ same. same_unsynced same) may.either

-- one whose file is removed, where there is one
gone_by : (s t : State) (name : Name) → t ≡ removed (Entry name) s → SyncsNothing s t
gone_by s t name is = subst (SyncsNothing s) (sym is) (remove_unsynced s (Entry name))

pub gone_unsynced : {T : Type 0} (r : Result T HandleFault) (s t : State) (name : Name) → MayHaveRemoved (Entry name) r s t → SyncsNothing s t
gone_unsynced (Ok value) s t name may = ⊎_elim (gone_by s t name) (λ same. same_unsynced same.0) may.done
gone_unsynced (Err fault) s t name may = ⊎_elim (gone_by s t name) (λ same. same_unsynced same) may.either

-- one that is doomed
pub doomed_unsynced : (r : Result ℕ DiskFault) (s t : State) (name : Name) (aside : Option ℕ) (numbers : List ℕ) → SetsAside name aside numbers r s t → SyncsNothing s t
doomed_unsynced r s t name None numbers sets =
    let l = least_free numbers in
    done_unsynced r s (renamed (Entry name) (Doomed l.0) s) t (rename_unsynced s (Entry name) (Doomed l.0)) (sets.moves refl l.0 l.1)
doomed_unsynced r s t name (Some n) numbers sets = same_unsynced (sets.stays n refl).1

-- and one that is given up
pub let_go_unsynced : {T : Type 0} (r : Result T DiskFault) (s t : State) (x : Object) → t ≡ if_done r (let_go_by x s) s → SyncsNothing s t
let_go_unsynced r s t x is = done_unsynced r s (let_go_by x s) t (go x.aside) is
  where
    go : (n : Option ℕ) → SyncsNothing s (without_doomed n s)
    go None = same_unsynced refl
    go (Some n) = remove_unsynced s (Doomed n)

-- a slot that writes an unfinished entry
pub writes_or_not : (k : Kept) (slot : ℕ) (u : Use) → use_at k slot ≡ Some u → writes_draft k slot ≡ false → (u.writes && is_some_draft (object_at k u.place)) ≡ true → ⊥
writes_or_not k slot u used none finishes =
    let own : writes_draft k slot ≡ (u.writes && is_some_draft (object_at k u.place)) = ap (λ (o : Option Use). unwrap_or (option_map (λ u. u.writes && is_some_draft (object_at k u.place)) o) false) used in
    let never : false ≡ true = sym none ∙ own ∙ finishes in cc
