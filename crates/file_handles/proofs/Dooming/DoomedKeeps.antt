-- What the disk keeps is kept when the object in use of a name is doomed.
use Rattle.std.proofs.Common.{◌≡◌, ◌≢◌, inl, inr, ℕ, ◌<◌, ◌≤◌, List, length, Some, None, Contains, Bool, IsTrue, true, false, refl, sym, ap, subst, ◌∙◌, arith}
use Rattle.std.specs.Prelude.{if◌then◌else◌, slice_get}
use Rattle.std.specs.List.{position}
use Rattle.std.proofs.lemmas.Bool.{cases_eq}
use Rattle.std.proofs.lemmas.Option.{slice_get_within}
use Rattle.cache_base.specs.declared.name.Name.{Name}
use Rattle.cache_theory.specs.Crash.{IsCrashKept, WasUnder}
use Rattle.cache_theory.specs.Ever.{EverAt, entry_place}
use Rattle.cache_theory.specs.Machine.{Machine, Object as MachineObject, object}
use Rattle.cache_theory.specs.Marks.{Marks, is_buried, is_touched}
use Rattle.cache_theory.specs.Stands.{HasObjectFile, IsHeldAside}
use Rattle.cache_theory.specs.Step.{doomed_under}
use Rattle.cache_theory.specs.Table.{get}
use Rattle.cache_theory.proofs.CrashImages.DiskChanges.{rename_keeps}
use Rattle.cache_theory.proofs.ObjectLaws.Dooming.{doomed_length}
use Rattle.cache_theory.proofs.EntryFiles.{entry_used}
use Rattle.cache_theory.proofs.CrashImages.FiledOnce.{entry_stays, one_name as one_place, rename_files_once}
use Rattle.cache_theory.proofs.ObjectLaws.HeldAside.{held_before_doomed, undoomed_unfinished}
use Rattle.cache_theory.proofs.ObjectLaws.Objects.{nth_is, nth_there}
use Rattle.cache_theory.proofs.ObjectLaws.Users.{same_number}
use Rattle.disk_theory.specs.declared.place.Place.TheVariants.{Doomed, Entry}
use Rattle.disk_theory.specs.Sound.{IsSound}
use Rattle.disk_theory.specs.State.{State, names_now, renamed, standing}
use Rattle.disk_theory.proofs.Places.{is_same-apart, is_same-refl}
use Rattle.disk_theory.proofs.Standing.{renamed_moves}
use Rattle.doom_area.specs.DoomArea.{IsLeastFree}
use Rattle.entry_name.specs.EntryName.{file_name}
use Rattle.file_handles.specs.Cache.{cache_at}
use Rattle.handle_table.specs.Aside.{number_in, numbers_in}
use Rattle.handle_table.specs.Finding.{is_user}
use Rattle.handle_table.specs.Held.{place_of}
use Rattle.handle_table.specs.Kept.{Kept, object_at, with_object}
use Rattle.file_handles.specs.Stands.{IsAt, KeepsWhere}
use Rattle.handle_table.specs.declared.object.Object.{Object}
use Rattle.file_handles.proofs.Dooming.AsidePlaces.{one_doomed}
use Rattle.handle_table.proofs.AsideNumbers.{number_of_doomed}
use Rattle.file_handles.proofs.Dooming.DoomedStands.{MayDoom, doomed_as, other_next, stands_next, user_next, was_doomed}
use Rattle.file_handles.proofs.Histories.{history_of}
use Rattle.file_handles.proofs.Places.{aside_at, aside_is, file_stands, published_there}
use Rattle.handle_table.proofs.User.{user_found, user_is_used}

module _ (s t : State) (k : Kept) (m : Machine) (number : ℕ → ℕ) (name : Name) (p : ℕ) (x : Object) (n : ℕ) (may : MayDoom s t k m number name p x n) where
  user_object : slice_get m.objects (number p) ≡ Some (object m (number p))
  user_object = nth_there m.objects (number p) (may.stands.proper.user name.0 (number p) may.used).in_use.number

  was_held : (i : ℕ) → i ≢ number p → IsHeldAside (doomed_under m name.0) i → IsHeldAside m i
  was_held i apart h = elim (held_before_doomed m name.0 i h) [
    | inl at ↦ absurd (apart (same_number i (number p) (sym at ∙ may.used)))
    | inr old ↦ old
  ]

  module _ (w : Marks) (kept : IsCrashKept s m w (IsAt k number)) where
    user_unburied : is_buried w (number p) ≡ false
    user_unburied = kept.unburied (number p) (object m (number p)) user_object (may.stands.proper.user name.0 (number p) may.used).undoomed

    still_unburied : (i : ℕ) (o : MachineObject) → slice_get (doomed_under m name.0).objects i ≡ Some o → o.doomed ≡ false → is_buried w i ≡ false
    still_unburied i o at un = elim (cases_eq i (number p)) [
      | inl e ↦ ap (is_buried w) e ∙ user_unburied
      | inr apart ↦
          let within : i < length m.objects =
          let lt = slice_get_within (doomed_under m name.0).objects i o at in let l = doomed_length m name.0 in omega (arith, lt, l)
          in
          let same : object m i ≡ o = sym (other_next s t k m number name p x n may i apart) ∙ nth_is (doomed_under m name.0).objects i o at in
          kept.unburied i o (nth_there m.objects i within ∙ ap (λ y. Some y) same) un
    ]

    still_young : length w.marked.objects ≤ length (doomed_under m name.0).objects
    still_young = let l = doomed_length m name.0 in let y = kept.young in omega (arith, l, y)

    -- another object, whose file stood where it stands
    other_under : (d i file : ℕ) (q : List ℕ) → i ≢ number p → IsAt k number d i → IsHeldAside (doomed_under m name.0) i → names_now s (Doomed d) ≡ Some file → EverAt s (entry_place q) file
        → WasUnder w i (object (doomed_under m name.0) i) q
    other_under d i file q apart at held names ever =
        subst (λ o. WasUnder w i o q) (sym (other_next s t k m number name p x n may i apart))
        (kept.aside d i file q at (was_held i apart held) names ever)

-- Its file moves among the doomed.

module _ (s : State) (k : Kept) (m : Machine) (number : ℕ → ℕ) (name : Name) (p : ℕ) (x : Object) (n : ℕ) (may : MayDoom s (renamed (Entry name) (Doomed n) s) k m number name p x n) (none : x.aside ≡ None) where
  t : State
  t = renamed (Entry name) (Doomed n) s

  names_moved : names_now (renamed (Entry name) (Doomed n) s) (Doomed n) ≡ names_now s (Entry name)
  names_moved = ap (λ (b : Bool). if b then names_now s (Entry name) else names_now s (Doomed n)) (is_same-refl (Doomed n))

  names_stay : (d : ℕ) → d ≢ n → names_now (renamed (Entry name) (Doomed n) s) (Doomed d) ≡ names_now s (Doomed d)
  names_stay d apart = ap (λ (b : Bool). if b then names_now s (Entry name) else names_now s (Doomed d)) (is_same-apart (Doomed d) (Doomed n) (λ e. apart (one_doomed d n e)))

  module _ (w : Marks) (touched : is_touched w name.0 ≡ true) (kept : IsCrashKept s m w (IsAt k number)) where
    -- the user's file stood under its name alone
    user_under : (d i file : ℕ) (q : List ℕ) → d ≡ n → i ≡ number p → names_now (renamed (Entry name) (Doomed n) s) (Doomed d) ≡ Some file → EverAt s (entry_place q) file
        → WasUnder w i (object (doomed_under m name.0) i) q
    user_under d i file q e f names ever =
        let stood : names_now s (Entry name) ≡ Some file = sym names_moved ∙ ap (λ a. names_now (renamed (Entry name) (Doomed n) s) (Doomed a)) (sym e) ∙ names in
        let same : name.0 ≡ q = kept.once name.0 q file (0, stood) ever in
        let next = user_next s (renamed (Entry name) (Doomed n) s) k m number name p x n may in
        record {
          finished =
              ap (λ j. (object (doomed_under m name.0) j).finished) f ∙ ap (λ (o : MachineObject). o.finished) next
              ∙ (published_there s k m number may.stands p x may.at_place none).0;
          unburied = ap (is_buried w) f ∙ user_unburied s (renamed (Entry name) (Doomed n) s) k m number name p x n may w kept;
          named =
              ap (λ j. file_name (object (doomed_under m name.0) j).version.key) f
              ∙ ap (λ (o : MachineObject). file_name o.version.key) next
              ∙ (may.stands.proper.user name.0 (number p) may.used).named ∙ same;
          touched = ap (is_touched w) (sym same) ∙ touched;
        }

    pub crash_kept_moved : IsCrashKept (renamed (Entry name) (Doomed n) s) (doomed_under m name.0) w (IsAt (with_object k p (Some (doomed_as x n))) number)
    crash_kept_moved = record {
      safe = rename_keeps s w name.0 n touched kept.safe;
      once = rename_files_once s name.0 n kept.once;
      aside = λ d i file q at held names ever.
          let stood = entry_stays s name.0 n q file ever in
          elim (was_doomed s (renamed (Entry name) (Doomed n) s) k m number name p x n may d i at) [
            | inl new ↦ user_under d i file q new.0 new.1 names stood
            | inr old ↦
                other_under s (renamed (Entry name) (Doomed n) s) k m number name p x n may w kept d i file q old.0 old.1 held
                (sym (names_stay d (may.others d i old.1 old.0)) ∙ names) stood
          ];
      unburied = still_unburied s (renamed (Entry name) (Doomed n) s) k m number name p x n may w kept;
      young = still_young s (renamed (Entry name) (Doomed n) s) k m number name p x n may w kept;
    }

-- the free number is no object's
free_of_all : (k : Kept) (number : ℕ → ℕ) (n : ℕ) → ¬ Contains (numbers_in k.objects) n → (d i : ℕ) → IsAt k number d i → d ≢ n
free_of_all k number n free d i at e =
    let some = number_of_doomed k.objects at.place d (ap number_in at.at_place ∙ at.set_aside) in
    free (subst (λ a. Contains (numbers_in k.objects) a) e some)

-- after the move all stands for the machine in which it is doomed
pub dooms_user : {b : Bool} (s : State) (k : Kept) (name : Name) (p : ℕ) (x : Object) (n : ℕ) → IsSound s → position (is_user name) k.objects ≡ Some p → object_at k p ≡ Some x → x.aside ≡ None → IsLeastFree (numbers_in k.objects) n
    → (m : Machine) (w : Marks) → is_touched w name.0 ≡ true → KeepsWhere b (cache_at k s) (history_of m w) → KeepsWhere b (cache_at (with_object k p (Some (doomed_as x n))) (renamed (Entry name) (Doomed n) s)) (history_of (doomed_under m name.0) w)
dooms_user s k name p x n sound is at none free m w touched stand =
    let there = user_found k name p is in
    let one : Some there.object ≡ Some x = sym there.at_place ∙ at in
    let same : there.object ≡ x = cc in
    let used = user_is_used k m stand.number stand.stands.proper stand.stands.handles name p is in
    let moves = renamed_moves (Entry name) (Doomed n) s (λ e. cc) sound in
    let may : MayDoom s (renamed (Entry name) (Doomed n) s) k m stand.number name p x n = record {
      stands = stand.stands;
      ranged = there.ranged;
      at_place = at;
      undoomed = ap (λ (y : Object). y.doomed) (sym same) ∙ there.undoomed;
      used = used;
      others = λ d i at_d apart. free_of_all k stand.number n free.free d i at_d;
      own = λ d e. let both : None ≡ Some d = sym none ∙ e in cc;
      gone = moves.gone;
      stay = λ q apart. moves.others (entry_place q) (λ e. apart (sym (one_place q name.0 e))) (λ e. cc);
      moved =
          subst (HasObjectFile (object m (stand.number p))) (sym (moves.moved ∙ stand.stands.entries name.0))
          (entry_used m name.0 (stand.number p) stand.stands.proper used (published_there s k m stand.number stand.stands p x at none).0);
      same = λ d apart. moves.others (Doomed d) (λ e. cc) (λ e. apart (one_doomed d n e));
    }
    in
    record {
      number = stand.number;
      stands = stands_next s (renamed (Entry name) (Doomed n) s) k m stand.number name p x n may;
      crash_kept = λ on. crash_kept_moved s k m stand.number name p x n may none w touched (stand.crash_kept on);
    }

-- Its file stands there already.

pub dooms_aside : {b : Bool} (s : State) (k : Kept) (name : Name) (p : ℕ) (x : Object) (n : ℕ) → position (is_user name) k.objects ≡ Some p → object_at k p ≡ Some x → x.aside ≡ Some n
    → (m : Machine) (w : Marks) → KeepsWhere b (cache_at k s) (history_of m w) → KeepsWhere b (cache_at (with_object k p (Some (doomed_as x n))) s) (history_of (doomed_under m name.0) w)
dooms_aside {b} s k name p x n is at numbered m w stand =
    record { number = stand.number; stands = stands_next s s k m stand.number name p x n may; crash_kept = λ on. crash_kept on }
  where
    number : ℕ → ℕ
    number = stand.number

    at_n : IsAt k stand.number n (stand.number p)
    at_n = aside_at s k m stand.number stand.stands p x at n numbered

    held_n : IsHeldAside m (stand.number p)
    held_n = aside_is s k m stand.number stand.stands p x at n numbered

    used : get m.in_use name.0 ≡ Some (stand.number p)
    used = user_is_used k m stand.number stand.stands.proper stand.stands.handles name p is

    unfinished : (object m (stand.number p)).finished ≡ false
    unfinished = undoomed_unfinished (object m (stand.number p)) (stand.stands.proper.user name.0 (stand.number p) used).undoomed held_n.aside

    may : MayDoom s s k m stand.number name p x n
    may =
        let there = user_found k name p is in
        let one : Some there.object ≡ Some x = sym there.at_place ∙ at in
        let same : there.object ≡ x = cc in
        record {
          stands = stand.stands;
          ranged = there.ranged;
          at_place = at;
          undoomed = ap (λ (y : Object). y.doomed) (sym same) ∙ there.undoomed;
          used = used;
          others = λ d i at_d apart e. apart (stand.stands.aside.one_object n i (stand.number p) (subst (λ a. IsAt k stand.number a i) e at_d) at_n);
          own = λ d e. let both : Some d ≡ Some n = sym e ∙ numbered in cc;
          gone = stand.stands.entries name.0 ∙ stand.stands.proper.unstored name.0 (stand.number p) used unfinished;
          stay = λ q apart. refl;
          moved = subst (HasObjectFile (object m (stand.number p))) (ap (λ a. standing s (place_of x.name a)) numbered) (file_stands s k m stand.number stand.stands p x at);
          same = λ d apart. refl;
        }

    crash_kept : IsTrue b → IsCrashKept s (doomed_under m name.0) w (IsAt (with_object k p (Some (doomed_as x n))) stand.number)
    crash_kept on =
        let kept = stand.crash_kept on in
        record {
          safe = kept.safe;
          once = kept.once;
          aside = λ d i file q at_d held names ever. elim (was_doomed s s k m stand.number name p x n may d i at_d) [
            | inl new ↦
                let was = kept.aside n (stand.number p) file q at_n held_n (ap (λ a. names_now s (Doomed a)) (sym new.0) ∙ names) ever in
                absurd (let both : true ≡ false = sym was.finished ∙ unfinished in cc)
            | inr old ↦ other_under s s k m stand.number name p x n may w kept d i file q old.0 old.1 held names ever
          ];
          unburied = still_unburied s s k m stand.number name p x n may w kept;
          young = still_young s s k m stand.number name p x n may w kept;
        }
