-- A call that changes one object and writes to its file alone.
use Rattle.std.proofs.Common.{◌≡◌, ◌≢◌, inl, inr, ℕ, List, Option, Some, None, Result, Ok, is_some, true, false, refl, sym, ap, subst, ◌∙◌, arith, length-set, Bool, IsTrue}
use Rattle.std.specs.Prelude.{IfOk}
use Rattle.std.proofs.lemmas.Bool.{cases_Bool, cases_eq}
use Rattle.cache_theory.specs.Crash.{IsCrashKept, IsFine, IsSafe, WasUnder}
use Rattle.cache_theory.specs.Ever.{EverAt, IsFiledOnce, entry_place}
use Rattle.cache_theory.specs.Keeps.{IsFineAll, MayTear}
use Rattle.cache_theory.specs.Machine.{Machine, Object as MachineObject, object}
use Rattle.cache_theory.specs.Marks.{IsSince, Marks, is_buried, is_in_place, is_touched}
use Rattle.cache_theory.specs.Stands.{AsideStand, EntriesStand, HasObjectFile, IsHeldAside, IsObjectFile, is_aside, object_file}
use Rattle.cache_theory.specs.Step.{stored}
use Rattle.cache_theory.specs.Table.{get}
use Rattle.cache_theory.proofs.CrashImages.DiskChanges.{whole_is_fine, write_keeps}
use Rattle.cache_theory.proofs.EntryFiles.{entry_stored, entry_stored_aside, entry_stored_other, no_file_there, other_name, written_is_file}
use Rattle.cache_theory.proofs.CrashImages.EverSteps.{ever_wrote, wrote_names}
use Rattle.cache_theory.proofs.CrashImages.FiledOnce.{one_name as one_place_name, write_files_once}
use Rattle.cache_theory.proofs.ObjectLaws.HeldAside.{held_before_stored, held_stored}
use Rattle.cache_theory.proofs.Names.{one_name}
use Rattle.cache_theory.proofs.ObjectLaws.Objects.{nth_there, object_at as machine_object_at}
use Rattle.cache_theory.proofs.CrashImages.Reading.{some_of}
use Rattle.cache_theory.proofs.CrashImages.Readings.{reads_whole}
use Rattle.cache_theory.proofs.ObjectLaws.Storing.{MayStand, proper_stored, stored_here, stored_there}
use Rattle.disk_theory.specs.Sound.{IsSound}
use Rattle.disk_theory.specs.Standing.{PutsContent}
use Rattle.disk_theory.specs.State.{State, content, content_of, names_now, standing}
use Rattle.disk_theory.specs.Writes.{WritesAt, WritesTo}
use Rattle.disk_theory.specs.declared.place.Place.TheVariants.{Doomed}
use Rattle.disk_theory.proofs.Written.{writes_puts}
use Rattle.entry_file.specs.Version.{IsFileOf}
use Rattle.entry_file.proofs.EntryLaws.{is_file_of}
use Rattle.entry_name.specs.EntryName.{file_name}
use Rattle.file_handles.specs.Cache.{cache_at}
use Rattle.file_handles.specs.Changes.{Becomes, Changes, IsFiledAs, IsMomentOf}
use Rattle.handle_table.specs.Held.{object_place, place_of}
use Rattle.handle_table.specs.Kept.{Kept, object_at, with_object}
use Rattle.file_handles.specs.Stands.{IsAt, KeepsWhere}
use Rattle.file_handles.specs.declared.fault.HandleFault.{HandleFault}
use Rattle.handle_table.specs.declared.object.Object.{Object}
use Rattle.file_handles.proofs.ChangedHandles.{IsChangedTo, handles_on, new_at, other_at, own_at, own_now, unburied_on, under_on, was_other}
use Rattle.file_handles.proofs.Histories.{history_of}
use Rattle.file_handles.proofs.Places.{aside_at, aside_is, file_stands, is_filed, published_place, published_there}

-- the object of this number may become `o`, and its file be written to. Where it is finished, its metadata are
-- rewritten in place since the mark, unless it was doomed then, and that version is written; and the name of an
-- undoomed one is touched
pub record MayGoOut (w : Marks) (i : ℕ) (o : MachineObject) : Type 0 where
  pub touched : o.doomed ≡ false → is_touched w (file_name o.version.key) ≡ true
  pub since : o.finished ≡ true → is_buried w i ≡ false → IsSince w (file_name o.version.key) o.version
  pub in_place : o.finished ≡ true → is_buried w i ≡ false → is_in_place w (file_name o.version.key) ≡ true

-- more moments may have a weaker property
pub writes_weaker : (s t : State) (file : ℕ) (P Q : List ℕ → Type 0) → ((c : List ℕ) → P c → Q c) → WritesTo file P s t → WritesTo file Q s t
writes_weaker s t file P Q all writes = record {
  names = writes.names;
  steps = writes.steps;
  made = writes.made;
  others = writes.others;
  synced = writes.synced;
  added = writes.added;
  writes = writes.writes;
  moments = λ left lt. all _ (writes.moments left lt);
}

module _ {b : Bool} (s : State) (k : Kept) (m : Machine) (w : Marks) (is : KeepsWhere b (cache_at k s) (history_of m w)) (p : ℕ) (x : Object) (at : object_at k p ≡ Some x) (o : MachineObject) (may : MayStand m (is.number p) o) where
  -- the file stands
  pub file_of_it : (file : ℕ) × (names_now s (object_place x) ≡ Some file)
  file_of_it = go (names_now s (object_place x)) refl
    where
      go : (f : Option ℕ) → names_now s (object_place x) ≡ f → (file : ℕ) × (names_now s (object_place x) ≡ Some file)
      go None none = absurd (no_file_there (object m (is.number p)) _ (file_stands s k m is.number is.stands p x at) (ap (content_of s.files) none))
      go (Some file) now = (file, now)

  module _ (on : IsTrue b) (out : MayGoOut w (is.number p) o) where
    -- where the object's file ever stood as an entry
    stood : (file : ℕ) → names_now s (object_place x) ≡ Some file → (name : List ℕ) → EverAt s (entry_place name) file → WasUnder w (is.number p) (object m (is.number p)) name
    stood file now name ever = go x.aside refl
      where
        go : (d : Option ℕ) → x.aside ≡ d → WasUnder w (is.number p) (object m (is.number p)) name
        go None none =
            let own : List ℕ = file_name (object m (is.number p)).version.key in
            let here : EverAt s (entry_place own) file = (0, ap (names_now s) (sym (published_place s k m is.number is.stands p x at none)) ∙ now) in
            let same : own ≡ name = (is.crash_kept on).once own name file here ever in
            let there = published_there s k m is.number is.stands p x at none in
            record {
              finished = there.0;
              unburied = (is.crash_kept on).unburied (is.number p) (object m (is.number p)) (nth_there m.objects (is.number p) may.in_use.number) there.1;
              named = same;
              touched = ap (is_touched w) (sym same ∙ ap file_name (sym may.key)) ∙ out.touched (may.doomed ∙ there.1);
            }
        go (Some d) e =
            (is.crash_kept on).aside d (is.number p) file name (aside_at s k m is.number is.stands p x at d e) (aside_is s k m is.number is.stands p x at d e)
            (ap (λ n. names_now s (place_of x.name n)) (sym e) ∙ now) ever

    still_finished : (name : List ℕ) → WasUnder w (is.number p) (object m (is.number p)) name → o.finished ≡ true
    still_finished name was = elim (cases_Bool o.finished) [
      | inl done ↦ done
      | inr un ↦ absurd (let both : true ≡ false = sym was.finished ∙ may.unfinished un in cc)
    ]

    own_name : (name : List ℕ) → WasUnder w (is.number p) (object m (is.number p)) name → file_name o.version.key ≡ name
    own_name name was = ap file_name may.key ∙ was.named

    -- what it gets is fine there, and may be torn
    moment_fine : (name c : List ℕ) → WasUnder w (is.number p) (object m (is.number p)) name → IsMomentOf o c → IsFine w name c
    moment_fine name c was moment = elim moment [
      | inl unfit ↦ inl (unfit name)
      | inr whole ↦
          let since : IsSince w name o.version = subst (λ n. IsSince w n o.version) (own_name name was) (out.since whole.0 was.unburied) in
          inr (o.version, (inr since, reads_whole name c o.version (may.is.version whole.0) (own_name name was) (subst (IsFileOf o.version) (sym whole.1) (is_file_of o.version))))
    ]

    may_tear : (name : List ℕ) → WasUnder w (is.number p) (object m (is.number p)) name → MayTear w name
    may_tear name was = record {
      touched = was.touched;
      in_place = ap (is_in_place w) (sym (own_name name was)) ∙ out.in_place (still_finished name was) was.unburied;
    }

    -- and so is what it holds
    held_fine : (file : ℕ) → names_now s (object_place x) ≡ Some file → IsFineAll s w file (content (s.files file))
    held_fine file now name ever =
        let was = stood file now name ever in
        let holds : IsObjectFile (object m (is.number p)) (content (s.files file)) =
        subst (HasObjectFile (object m (is.number p))) (ap (content_of s.files) now) (file_stands s k m is.number is.stands p x at) in
        let version = (machine_object_at m.objects is.stands.proper.objects (is.number p) may.in_use.number).version was.finished in
        whole_is_fine s w name file (object m (is.number p)).version (is.crash_kept on).safe was.touched ever
        (reads_whole name (content (s.files file)) (object m (is.number p)).version version was.named (holds.finished was.finished))

  module _ (t : State) (writes : WritesAt (object_place x) (IsMomentOf o) s t) where
    wrote_safe : MayGoOut w (is.number p) o → IsTrue b → IsSafe t w
    wrote_safe out on =
        let file = file_of_it in
        write_keeps s t w file.0 (writes_weaker s t file.0 (IsMomentOf o) (IsFineAll s w file.0) (λ c moment name ever. moment_fine on out name c (stood on out file.0 file.1 name ever) moment) (writes file.0 file.1))
        (λ name ever. may_tear on out name (stood on out file.0 file.1 name ever)) (held_fine on out file.0 file.1) (is.crash_kept on).safe

    wrote_once : IsTrue b → IsFiledOnce t
    wrote_once on = let file = file_of_it in write_files_once s t file.0 (writes_weaker s t file.0 (IsMomentOf o) (λ c. Unit {0}) (λ c moment. tt) (writes file.0 file.1)) (is.crash_kept on).once

    -- the call changed the object to y
    module _ (y : Object) (sound : IsSound s) (becomes : Becomes k.chunks x y (object m (is.number p)) o t) where
      changed_to : IsChangedTo k.chunks x y (object m (is.number p)) o
      changed_to = record { same_object = becomes.same_object; keeps_chunks = becomes.keeps_chunks; as_held = becomes.as_held }

      same_aside : is_aside o ≡ is_aside (object m (is.number p))
      same_aside = sym becomes.as_held.aside ∙ ap is_some becomes.same_number ∙ (is.stands.handles.objects p x at).as_held.aside

      puts : PutsContent (object_place x) (Some (object_file o)) s t
      puts =
          let there = some_of (standing s (object_place x)) (file_stands s k m is.number is.stands p x at) in
          writes_puts (object_place x) (IsMomentOf o) s t there.0 (object_file o) sound there.1.0 writes becomes.file

      entries_stand : EntriesStand (standing t) (stored m (is.number p) o)
      entries_stand name = go x.aside refl
        where
          go : (d : Option ℕ) → x.aside ≡ d → standing t (entry_place name) ≡ get (stored m (is.number p) o).shelf name
          go None none =
              let own : List ℕ = file_name o.version.key in
              let place : object_place x ≡ entry_place own = published_place s k m is.number is.stands p x at none ∙ ap (λ key. entry_place (file_name key)) (sym may.key) in
              let out : is_aside o ≡ false = sym becomes.as_held.aside ∙ ap is_some (becomes.same_number ∙ none) in
              elim (one_name name own) [
                | inl same ↦
                    ap (λ n. standing t (entry_place n)) same ∙ ap (standing t) (sym place) ∙ becomes.file
                    ∙ sym (entry_stored m (is.number p) o out)
                    ∙ ap (get (stored m (is.number p) o).shelf) (sym same)
                | inr apart ↦
                    puts.others (entry_place name) (λ e. apart (one_place_name name own (e ∙ place))) ∙ is.stands.entries name
                    ∙ sym (entry_stored_other m (is.number p) o is.stands.proper may name (other_name m (is.number p) name is.stands.proper (λ e. apart (e ∙ ap file_name (sym may.key)))))
              ]
          go (Some d) e =
              puts.others (entry_place name) (λ same. let both : entry_place name ≡ Doomed d = same ∙ ap (place_of x.name) e in cc) ∙ is.stands.entries name
              ∙ sym (entry_stored_aside m (is.number p) o (sym becomes.as_held.aside ∙ ap is_some (becomes.same_number ∙ e)) name)

      -- those that stand aside have the same numbers
      numbered : (d j : ℕ) → IsAt k is.number d j → IsAt (with_object k p (Some y)) is.number d j
      numbered d j a = elim (cases_eq j (is.number p)) [
        | inl same ↦
            let own = own_at k m is.number is.stands.proper is.stands.handles p x at o may y changed_to d (subst (IsAt k is.number d) same a) in
            subst (IsAt (with_object k p (Some y)) is.number d) (sym same) (new_at k m is.number is.stands.proper is.stands.handles p x at o may y changed_to d (becomes.same_number ∙ own))
        | inr apart ↦ other_at k m is.number is.stands.proper is.stands.handles p x at o may y changed_to d j a apart
      ]

      was_numbered : (d j : ℕ) → IsAt (with_object k p (Some y)) is.number d j → IsAt k is.number d j
      was_numbered d j a = elim (cases_eq j (is.number p)) [
        | inl same ↦
            let own = own_now k m is.number is.stands.proper is.stands.handles p x at o may y changed_to d (subst (IsAt (with_object k p (Some y)) is.number d) same a) in
            subst (IsAt k is.number d) (sym same) (aside_at s k m is.number is.stands p x at d (sym becomes.same_number ∙ own))
        | inr apart ↦ was_other k m is.number is.stands.proper is.stands.handles p x at o may y changed_to d j a apart
      ]

      -- the place of x, where it has this number
      its_place : (d : ℕ) → IsAt k is.number d (is.number p) → object_place x ≡ Doomed d
      its_place d a = ap (place_of x.name) (own_at k m is.number is.stands.proper is.stands.handles p x at o may y changed_to d a)

      other_place : (d j : ℕ) → IsAt k is.number d j → j ≢ is.number p → Doomed d ≢ object_place x
      other_place d j a apart same = go x.aside refl
        where
          go : (n : Option ℕ) → x.aside ≡ n → ⊥
          go None none = let both : Doomed d ≡ place_of x.name None = same ∙ ap (place_of x.name) none in cc
          go (Some n) e =
              let both : Doomed d ≡ Doomed n = same ∙ ap (place_of x.name) e in
              let one : d ≡ n = cc in
              apart (is.stands.aside.one_object d j (is.number p) a (aside_at s k m is.number is.stands p x at d (e ∙ ap (λ r. Some r) (sym one))))

      aside_file : (d j : ℕ) → IsAt k is.number d j → HasObjectFile (object m j) (standing s (Doomed d)) → HasObjectFile (object (stored m (is.number p) o) j) (standing t (Doomed d))
      aside_file d j a stands = elim (cases_eq j (is.number p)) [
        | inl same ↦
            subst (HasObjectFile (object (stored m (is.number p) o) j)) (sym (ap (standing t) (sym (its_place d (subst (IsAt k is.number d) same a))) ∙ becomes.file))
            (subst (λ z. IsObjectFile z (object_file o)) (sym (stored_here m (is.number p) o is.stands.proper may j same)) (written_is_file o))
        | inr apart ↦
            subst (HasObjectFile (object (stored m (is.number p) o) j)) (sym (puts.others (Doomed d) (other_place d j a apart)))
            (subst (λ z. HasObjectFile z (standing s (Doomed d))) (sym (stored_there m (is.number p) o is.stands.proper may j apart)) stands)
      ]

      aside_stand : AsideStand (standing t) (stored m (is.number p) o) (IsAt (with_object k p (Some y)) is.number)
      aside_stand = record {
        held = λ j h.
            let old = is.stands.aside.held j (held_before_stored m (is.number p) o is.stands.proper may same_aside j h) in
            (old.0, (numbered old.0 j old.1.0, aside_file old.0 j old.1.0 old.1.1));
        only = λ d some.
            let old = is.stands.aside.only d (λ none. some (puts.others (Doomed d) (λ same.
            no_file_there (object m (is.number p)) _ (file_stands s k m is.number is.stands p x at) (sym (ap (standing s) same) ∙ none)) ∙ none)) in
            (old.0, (numbered d old.0 old.1.0, held_stored m (is.number p) o is.stands.proper may same_aside old.0 old.1.1));
        one_object = λ d j l a b. is.stands.aside.one_object d j l (was_numbered d j a) (was_numbered d l b);
        one_number = λ d e j a b. is.stands.aside.one_number d e j (was_numbered d j a) (was_numbered e j b);
      }

      -- each file stood where it stood, under the same name
      was_under : IsTrue b → (d j file : ℕ) (name : List ℕ) → IsAt (with_object k p (Some y)) is.number d j → IsHeldAside (stored m (is.number p) o) j → names_now t (Doomed d) ≡ Some file
          → EverAt t (entry_place name) file → WasUnder w j (object (stored m (is.number p) o) j) name
      was_under on d j file name a held now ever =
          let wrote = writes file_of_it.0 file_of_it.1 in
          under_on k m is.number is.stands.proper is.stands.handles p x at o may w j name
          ((is.crash_kept on).aside d j file name (was_numbered d j a) (held_before_stored m (is.number p) o is.stands.proper may same_aside j held)
          (sym (wrote_names s t file_of_it.0 0 (IsMomentOf o) wrote (Doomed d)) ∙ now) (ever_wrote s t file_of_it.0 (IsMomentOf o) wrote (entry_place name) file ever))

      wrote_kept : IsTrue b → IsSafe t w → IsCrashKept t (stored m (is.number p) o) w (IsAt (with_object k p (Some y)) is.number)
      wrote_kept on safe = record {
        safe = safe;
        once = wrote_once on;
        aside = was_under on;
        unburied = unburied_on k m is.number is.stands.proper is.stands.handles p x at o may w s (IsAt k is.number) (is.crash_kept on);
        young = let l = length-set m.objects (is.number p) o in let young = (is.crash_kept on).young in omega (arith, l, young);
      }

      pub wrote_in : (IsTrue b → IsSafe t w) → KeepsWhere b (cache_at (with_object k p (Some y)) t) (history_of (stored m (is.number p) o) w)
      wrote_in safe = record {
        number = is.number;
        stands = record {
          proper = proper_stored m (is.number p) o is.stands.proper may;
          handles = handles_on k m is.number is.stands.proper is.stands.handles p x at o may y changed_to;
          entries = entries_stand;
          aside = aside_stand;
        };
        crash_kept = λ on. wrote_kept on (safe on);
      }

-- at every exit a crash may lose no more than the marks allow
pub changed_safe : {b : Bool} (s t : State) (k : Kept) (m : Machine) (w : Marks) (is : KeepsWhere b (cache_at k s) (history_of m w)) (p : ℕ) (x : Object) (change : MachineObject → MachineObject) (changed : Result Object HandleFault)
    → object_at k p ≡ Some x → Changes k.chunks x change changed s t → MayStand m (is.number p) (change (object m (is.number p))) → MayGoOut w (is.number p) (change (object m (is.number p))) → IsTrue b → IsSafe t w
changed_safe s t k m w is p x change changed at changes may out =
    wrote_safe s k m w is p x at (change (object m (is.number p))) may t (changes.writes (object m (is.number p)) (is_filed s k m is.number is.stands p x at)) out

-- and after an Ok all stands for the machine with the object changed, where that is safe
pub changed_in_safe : {b : Bool} (s t : State) (k : Kept) (m : Machine) (w : Marks) (is : KeepsWhere b (cache_at k s) (history_of m w)) (p : ℕ) (x y : Object) (change : MachineObject → MachineObject) (changed : Result Object HandleFault)
    → IsSound s → object_at k p ≡ Some x → Changes k.chunks x change changed s t → changed ≡ Ok y → MayStand m (is.number p) (change (object m (is.number p)))
    → (IsTrue b → IsSafe t w) → KeepsWhere b (cache_at (with_object k p (Some y)) t) (history_of (stored m (is.number p) (change (object m (is.number p)))) w)
changed_in_safe s t k m w is p x y change changed sound at changes ok may safe =
    let o : MachineObject = object m (is.number p) in
    let filed = is_filed s k m is.number is.stands p x at in
    let at_ok : IfOk {E = HandleFault} (Ok y) (λ y. (o : MachineObject) → IsFiledAs x o s → Becomes k.chunks x y o (change o) t) = subst (λ (r : Result Object HandleFault). IfOk r (λ y. (o : MachineObject) → IsFiledAs x o s → Becomes k.chunks x y o (change o) t)) ok changes.becomes in
    wrote_in s k m w is p x at (change o) may t (changes.writes o filed) y sound (at_ok o filed) safe

pub changed_in : {b : Bool} (s t : State) (k : Kept) (m : Machine) (w : Marks) (is : KeepsWhere b (cache_at k s) (history_of m w)) (p : ℕ) (x y : Object) (change : MachineObject → MachineObject) (changed : Result Object HandleFault)
    → IsSound s → object_at k p ≡ Some x → Changes k.chunks x change changed s t → changed ≡ Ok y → MayStand m (is.number p) (change (object m (is.number p)))
    → MayGoOut w (is.number p) (change (object m (is.number p))) → KeepsWhere b (cache_at (with_object k p (Some y)) t) (history_of (stored m (is.number p) (change (object m (is.number p)))) w)
changed_in s t k m w is p x y change changed sound at changes ok may out =
    changed_in_safe s t k m w is p x y change changed sound at changes ok may (changed_safe s t k m w is p x change changed at changes may out)
