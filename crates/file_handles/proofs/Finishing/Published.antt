-- An unfinished object is finished: its file is written whole, and published where the object is undoomed.
use Rattle.std.proofs.Common.{◌≡◌, ◌≢◌, inl, inr, ℕ, List, Option, Some, None, is_some, true, false, refl, sym, ap, subst, ◌∙◌, arith, length-set, Bool, IsTrue}
use Rattle.std.specs.Prelude.{if◌then◌else◌}
use Rattle.std.proofs.lemmas.Bool.{cases_eq}
use Rattle.cache_theory.specs.Crash.{IsCrashKept, IsFine, IsSafe, WasUnder}
use Rattle.cache_theory.specs.Ever.{EverAt, IsFiledOnce, IsUnpublished, entry_place}
use Rattle.cache_theory.specs.Machine.{Machine, Object as MachineObject, object}
use Rattle.cache_theory.specs.Marks.{IsSince, Marks, is_buried, is_touched}
use Rattle.cache_theory.specs.Stands.{AsideStand, EntriesStand, HasObjectFile, IsHeldAside, is_aside, object_file}
use Rattle.cache_theory.specs.Step.{stored}
use Rattle.cache_theory.specs.Table.{get}
use Rattle.cache_theory.proofs.CrashImages.DiskChanges.{publish_keeps, sync_keeps, write_aside_keeps}
use Rattle.cache_theory.proofs.EntryFiles.{entry_stored, entry_stored_other, finished_file_is, other_name}
use Rattle.cache_theory.proofs.CrashImages.EverSteps.{ever_renamed, ever_settled, ever_wrote, wrote_names}
use Rattle.cache_theory.proofs.CrashImages.FiledOnce.{one_name as one_place_name, publish_files_once, sync_files_once, write_files_once}
use Rattle.cache_theory.proofs.ObjectLaws.HeldAside.{held_before_stored_other, held_stored_other, not_held_published, unfinished_aside}
use Rattle.cache_theory.proofs.Names.{one_name}
use Rattle.cache_theory.proofs.ObjectLaws.Objects.{nth_there}
use Rattle.cache_theory.proofs.CrashImages.Reading.{some_of}
use Rattle.cache_theory.proofs.CrashImages.Readings.{reads_whole}
use Rattle.cache_theory.proofs.ObjectLaws.Storing.{MayStand, proper_stored, stored_there}
use Rattle.cache_theory.proofs.CrashImages.Unpublished.{sync_leaves_unpublished, write_leaves_unpublished}
use Rattle.disk_theory.specs.Sound.{IsSound}
use Rattle.disk_theory.specs.Standing.{Moves, PutsContent}
use Rattle.disk_theory.specs.State.{State, content, content_of, names_now, settled, standing}
use Rattle.disk_theory.specs.Writes.{WritesAt, WritesTo}
use Rattle.disk_theory.specs.declared.place.Place.TheVariants.{Doomed, Entry}
use Rattle.disk_theory.proofs.Places.{is_same-apart}
use Rattle.disk_theory.proofs.Sound.{sound_settled}
use Rattle.disk_theory.proofs.Standing.{renamed_moves, settled_same}
use Rattle.disk_theory.proofs.Written.{writes_puts}
use Rattle.entry_file.specs.Version.{IsFileOf, file_of}
use Rattle.entry_file.proofs.EntryLaws.{is_file_of}
use Rattle.entry_name.specs.EntryName.{file_name}
use Rattle.file_handles.specs.Cache.{cache_at}
use Rattle.file_handles.specs.Changes.{IsMomentOf}
use Rattle.handle_table.specs.Held.{IsHeldAs, object_place, place_of}
use Rattle.handle_table.specs.HeldChunks.{KeepsChunks}
use Rattle.handle_table.specs.Kept.{Kept, object_at, with_object}
use Rattle.file_handles.specs.Publishing.{BecomesWhole, IsAmidPublishing, aside_by, published, published_by}
use Rattle.file_handles.specs.Publishing.IsAmidPublishing.{Published, Synced, Unsynced}
use Rattle.file_handles.specs.Stands.{IsAt, KeepsWhere}
use Rattle.handle_table.specs.declared.object.Object.{Object}
use Rattle.file_handles.proofs.Dooming.AsidePlaces.{one_doomed}
use Rattle.file_handles.proofs.Changed.{file_of_it, wrote_in, writes_weaker}
use Rattle.file_handles.proofs.ChangedHandles.{IsChangedTo, handles_on, other_at, own_at, own_now, unburied_on, under_on, was_other}
use Rattle.file_handles.proofs.Histories.{history_of}
use Rattle.file_handles.proofs.Places.{aside_at, aside_is, file_stands}

-- the object of this number may become `o`, finished: the name of an undoomed one is touched, and its version is
-- written since the mark, unless it was doomed then
pub record MayFinish (w : Marks) (i : ℕ) (o : MachineObject) : Type 0 where
  pub touched : o.doomed ≡ false → is_touched w (file_name o.version.key) ≡ true
  pub since : is_buried w i ≡ false → IsSince w (file_name o.version.key) o.version

module _ {b : Bool} (s : State) (k : Kept) (m : Machine) (w : Marks) (is : KeepsWhere b (cache_at k s) (history_of m w)) (p : ℕ) (x : Object) (at : object_at k p ≡ Some x) (un : (object m (is.number p)).finished ≡ false)
    (o : MachineObject) (done : o.finished ≡ true) (may : MayStand m (is.number p) o) (u : State) (writes : WritesAt (object_place x) (IsMomentOf o) s u) where
  file : ℕ
  file = (file_of_it s k m w is p x at o may).0

  file_now : names_now s (object_place x) ≡ Some file
  unfolding file
  file_now = (file_of_it s k m w is p x at o may).1

  wrote : WritesTo file (λ c. Unit {0}) s u
  wrote = writes_weaker s u file (IsMomentOf o) (λ c. Unit {0}) (λ c moment. tt) (writes file file_now)

  -- it stands aside
  stands_aside : is_some x.aside ≡ true
  stands_aside = (is.stands.handles.objects p x at).as_held.aside ∙ unfinished_aside (object m (is.number p)) un

  some_number : (n : Option ℕ) → x.aside ≡ n → is_some n ≡ true → (d : ℕ) × (x.aside ≡ Some d)
  some_number None e some = absurd (cc)
  some_number (Some d) e some = (d, e)

  its_number : (d : ℕ) × (x.aside ≡ Some d)
  its_number = some_number x.aside refl stands_aside

  module _ (on : IsTrue b) where
    kept : IsCrashKept s m w (IsAt k is.number)
    kept = is.crash_kept on

    -- so its file stood at no entry place
    aside_s : IsUnpublished s file
    unfolding file
    aside_s name ever =
        let d : ℕ = its_number.0 in
        let e : x.aside ≡ Some d = its_number.1 in
        let was = kept.aside d (is.number p) file name (aside_at s k m is.number is.stands p x at d e) (aside_is s k m is.number is.stands p x at d e)
        (ap (λ n. names_now s (place_of x.name n)) (sym e) ∙ file_now) ever in
        let both : true ≡ false = sym was.finished ∙ un in
        cc

    aside_u : IsUnpublished u file
    aside_u = write_leaves_unpublished s u file file wrote aside_s

    -- whatever it is written, and synced
    safe_u : IsSafe u w
    safe_u = write_aside_keeps s u w file wrote aside_s kept.safe

    once_u : IsFiledOnce u
    once_u = write_files_once s u file wrote kept.once

  -- It is undoomed, written whole and then published.
  module _ (d : ℕ) (numbered : x.aside ≡ Some d) (undoomed : o.doomed ≡ false) (whole : standing u (object_place x) ≡ Some (object_file o)) where
    v : State
    v = settled u

    t : State
    t = published d x.name u

    own : List ℕ
    own = file_name o.version.key

    place_is : object_place x ≡ Doomed d
    place_is = ap (place_of x.name) numbered

    named : x.name.0 ≡ own
    unfolding own
    named = (is.stands.handles.objects p x at).as_held.named ∙ ap file_name (sym may.key)

    now_u : names_now u (Doomed d) ≡ Some file
    now_u = wrote_names s u file 0 (λ c. Unit {0}) wrote (Doomed d) ∙ ap (names_now s) (sym place_is) ∙ file_now

    holds : content (u.files file) ≡ file_of o.version
    holds =
        let both : Some (content (u.files file)) ≡ Some (object_file o) = ap (content_of u.files) (sym now_u) ∙ ap (standing u) (sym place_is) ∙ whole in
        let one : content (u.files file) ≡ object_file o = cc in
        one ∙ finished_file_is o done

    module _ (on : IsTrue b) (out : MayFinish w (is.number p) o) where
      unburied : is_buried w (is.number p) ≡ false
      unburied = (is.crash_kept on).unburied (is.number p) (object m (is.number p)) (nth_there m.objects (is.number p) may.in_use.number) (sym may.doomed ∙ undoomed)

      fine : IsFine w x.name.0 (content ((settled u).files file))
      unfolding own
      fine = inr (
        o.version,
        (
          inr (subst (λ n. IsSince w n o.version) (sym named) (out.since unburied)),
          reads_whole x.name.0 (content (u.files file)) o.version (may.is.version done) (sym named) (subst (IsFileOf o.version) (sym holds) (is_file_of o.version)),
        ),
      )

      touched : is_touched w x.name.0 ≡ true
      unfolding own
      touched = ap (is_touched w) named ∙ out.touched undoomed

      pub safe_published : IsSafe (published d x.name u) w
      safe_published = publish_keeps (settled u) w d x.name.0 file now_u refl fine touched (sync_keeps u w (safe_u on))

    once_t : (on : IsTrue b) → IsFiledOnce (published d x.name u)
    once_t on = publish_files_once (settled u) d x.name.0 file now_u (sync_leaves_unpublished u file (aside_u on)) (sync_files_once u (once_u on))

    -- what stands then
    module _ (sound : IsSound u) (sound_s : IsSound s) where
      moves : Moves (Doomed d) (Entry x.name) (settled u) (published d x.name u)
      moves = renamed_moves (Doomed d) (Entry x.name) (settled u) (λ e. cc) (sound_settled u sound)

      puts : PutsContent (object_place x) (Some (object_file o)) s u
      puts =
          let there = some_of (standing s (object_place x)) (file_stands s k m is.number is.stands p x at) in
          writes_puts (object_place x) (IsMomentOf o) s u there.0 (object_file o) sound_s there.1.0 writes whole

      entry_own : (q : List ℕ) → q ≡ x.name.0 → standing (published d x.name u) (entry_place q) ≡ Some (object_file o)
      entry_own q e = ap (λ n. standing (published d x.name u) (entry_place n)) e ∙ moves.moved ∙ settled_same u (Doomed d) ∙ ap (standing u) (sym place_is) ∙ whole

      entry_other : (q : List ℕ) → q ≢ x.name.0 → standing (published d x.name u) (entry_place q) ≡ standing s (entry_place q)
      entry_other q apart =
          moves.others (entry_place q) (λ e. cc) (λ e. apart (one_place_name q x.name.0 e)) ∙ settled_same u (entry_place q)
          ∙ puts.others (entry_place q) (λ e. let both : entry_place q ≡ Doomed d = e ∙ place_is in cc)

      aside_other : (e : ℕ) → e ≢ d → standing (published d x.name u) (Doomed e) ≡ standing s (Doomed e)
      aside_other e apart =
          moves.others (Doomed e) (λ same. apart (one_doomed e d same)) (λ same. cc) ∙ settled_same u (Doomed e)
          ∙ puts.others (Doomed e) (λ same. apart (one_doomed e d (same ∙ place_is)))

      -- the object becomes y
      module _ (y : Object) (becomes : IsChangedTo k.chunks x y (object m (is.number p)) o) (no_more : y.aside ≡ None) where
        out_o : is_aside o ≡ false
        out_o = sym becomes.as_held.aside ∙ ap is_some no_more

        entries_stand : EntriesStand (standing (published d x.name u)) (stored m (is.number p) o)
        unfolding own
        entries_stand q = elim (one_name q x.name.0) [
          | inl same ↦ entry_own q same ∙ sym (entry_stored m (is.number p) o out_o) ∙ ap (get (stored m (is.number p) o).shelf) (sym (same ∙ named))
          | inr apart ↦
              entry_other q apart ∙ is.stands.entries q
              ∙ sym (entry_stored_other m (is.number p) o is.stands.proper may q (other_name m (is.number p) q is.stands.proper (λ e. apart (e ∙ ap file_name (sym may.key) ∙ sym named))))
        ]

        -- the others keep their numbers, and x has none
        not_own : (e : ℕ) → IsAt (with_object k p (Some y)) is.number e (is.number p) → ⊥
        not_own e a = let both : Some e ≡ None = sym (own_now k m is.number is.stands.proper is.stands.handles p x at o may y becomes e a) ∙ no_more in cc

        apart_now : (e j : ℕ) → IsAt (with_object k p (Some y)) is.number e j → j ≢ is.number p
        apart_now e j a same = not_own e (subst (IsAt (with_object k p (Some y)) is.number e) same a)

        was_at : (e j : ℕ) → IsAt (with_object k p (Some y)) is.number e j → IsAt k is.number e j
        was_at e j a = was_other k m is.number is.stands.proper is.stands.handles p x at o may y becomes e j a (apart_now e j a)

        -- and other numbers than d
        other_number : (e j : ℕ) → IsAt k is.number e j → j ≢ is.number p → e ≢ d
        other_number e j a apart same =
            apart (is.stands.aside.one_object d j (is.number p) (subst (λ n. IsAt k is.number n j) same a) (aside_at s k m is.number is.stands p x at d numbered))

        still_apart : (e j : ℕ) → IsAt k is.number e j → e ≢ d → j ≢ is.number p
        still_apart e j a apart same =
            let own_is = own_at k m is.number is.stands.proper is.stands.handles p x at o may y becomes e (subst (IsAt k is.number e) same a) in
            apart (let both : Some e ≡ Some d = sym own_is ∙ numbered in cc)

        aside_stand : AsideStand (standing (published d x.name u)) (stored m (is.number p) o) (IsAt (with_object k p (Some y)) is.number)
        aside_stand = record {
          held = λ j h. elim (cases_eq j (is.number p)) [
            | inl same ↦ absurd (not_held_published m (is.number p) o is.stands.proper may done undoomed (subst (IsHeldAside (stored m (is.number p) o)) same h))
            | inr apart ↦
                let old = is.stands.aside.held j (held_before_stored_other m (is.number p) o is.stands.proper may j apart h) in (
                  old.0,
                  (
                    other_at k m is.number is.stands.proper is.stands.handles p x at o may y becomes old.0 j old.1.0 apart,
                    subst (HasObjectFile (object (stored m (is.number p) o) j)) (sym (aside_other old.0 (other_number old.0 j old.1.0 apart)))
                        (subst (λ z. HasObjectFile z (standing s (Doomed old.0))) (sym (stored_there m (is.number p) o is.stands.proper may j apart)) old.1.1),
                  ),
                )
          ];
          only = λ e some. elim (cases_eq e d) [
            | inl same ↦ absurd (some (ap (λ n. standing (published d x.name u) (Doomed n)) same ∙ moves.gone))
            | inr apart ↦
                let old = is.stands.aside.only e (λ none. some (aside_other e apart ∙ none)) in
                let other = still_apart e old.0 old.1.0 apart in (
                  old.0,
                  (
                    other_at k m is.number is.stands.proper is.stands.handles p x at o may y becomes e old.0 old.1.0 other,
                    held_stored_other m (is.number p) o is.stands.proper may old.0 other old.1.1,
                  ),
                )
          ];
          one_object = λ e i j a c. is.stands.aside.one_object e i j (was_at e i a) (was_at e j c);
          one_number = λ e f j a c. is.stands.aside.one_number e f j (was_at e j a) (was_at f j c);
        }

        names_there : (e : ℕ) → e ≢ d → names_now (published d x.name u) (Doomed e) ≡ names_now u (Doomed e)
        names_there e apart =
            ap (λ (b : Bool). if b then None else names_now u (Doomed e)) (is_same-apart (Doomed e) (Doomed d) (λ same. apart (one_doomed e d same)))

        was_under : (on : IsTrue b) → (e j f : ℕ) (name : List ℕ) → IsAt (with_object k p (Some y)) is.number e j → IsHeldAside (stored m (is.number p) o) j
            → names_now (published d x.name u) (Doomed e) ≡ Some f → EverAt (published d x.name u) (entry_place name) f → WasUnder w j (object (stored m (is.number p) o) j) name
        was_under on e j f name a h now ever =
            let apart = apart_now e j a in
            let old = was_at e j a in
            let other = other_number e j old apart in
            let stood : names_now u (Doomed e) ≡ Some f = sym (names_there e other) ∙ now in
            let before : EverAt u (entry_place name) f = elim (ever_renamed (settled u) (Doomed d) (Entry x.name) (entry_place name) f ever) [
              | inl new ↦ absurd (other (one_doomed e d (sound.one_place 0 (Doomed e) (Doomed d) f stood new.1)))
              | inr earlier ↦ (0, ever_settled u (entry_place name) f earlier)
            ] in
            under_on k m is.number is.stands.proper is.stands.handles p x at o may w j name
            ((is.crash_kept on).aside e j f name old (held_before_stored_other m (is.number p) o is.stands.proper may j apart h)
            (sym (wrote_names s u file 0 (λ c. Unit {0}) wrote (Doomed e)) ∙ stood) (ever_wrote s u file (λ c. Unit {0}) wrote (entry_place name) f before))

        pub published_in : (IsTrue b → MayFinish w (is.number p) o) → KeepsWhere b (cache_at (with_object k p (Some y)) (published d x.name u)) (history_of (stored m (is.number p) o) w)
        published_in out = record {
          number = is.number;
          stands = record {
            proper = proper_stored m (is.number p) o is.stands.proper may;
            handles = handles_on k m is.number is.stands.proper is.stands.handles p x at o may y becomes;
            entries = entries_stand;
            aside = aside_stand;
          };
          crash_kept = λ on. record {
            safe = safe_published on (out on);
            once = once_t on;
            aside = was_under on;
            unburied = unburied_on k m is.number is.stands.proper is.stands.handles p x at o may w s (IsAt k is.number) (is.crash_kept on);
            young = let l = length-set m.objects (is.number p) o in let young = (is.crash_kept on).young in omega (arith, l, young);
          };
        }

  -- At every exit a crash may lose no more than the marks allow.

  same_doomed : x.doomed ≡ o.doomed
  same_doomed = (is.stands.handles.objects p x at).as_held.doomed ∙ sym may.doomed

  pub amid_safe : (t : State) → standing u (object_place x) ≡ Some (object_file o) → MayFinish w (is.number p) o → IsAmidPublishing x.name x.doomed x.aside u t → IsTrue b → IsSafe t w
  amid_safe t whole out amid on = elim amid [
    | Unsynced same ↦ subst (λ z. IsSafe z w) (sym same) (safe_u on)
    | Synced undoomed same ↦ subst (λ z. IsSafe z w) (sym same) (sync_keeps u w (safe_u on))
    | Published same ↦ subst (λ z. IsSafe z w) (sym same) (go x.doomed x.aside refl refl)
  ]
    where
      go : (doomed : Bool) (aside : Option ℕ) → x.doomed ≡ doomed → x.aside ≡ aside → IsSafe (published_by x.name doomed aside u) w
      go true aside e f = safe_u on
      go false None e f = safe_u on
      go false (Some d) e f = safe_published d f (sym same_doomed ∙ e) whole on out

  pub written_safe : IsTrue b → IsSafe u w
  written_safe on = safe_u on

  -- and after an Ok all stands for the machine with the object finished
  pub whole_in : (change : MachineObject → MachineObject) (y : Object) → IsSound s → IsSound u → BecomesWhole change x y (object m (is.number p)) u → o ≡ change (object m (is.number p)) → (IsTrue b → MayFinish w (is.number p) o)
      → KeepsWhere b (cache_at (with_object k p (Some y)) (published_by x.name x.doomed x.aside u)) (history_of (stored m (is.number p) o) w)
  whole_in change y sound_s sound becomes_whole is_o out = go x.doomed x.aside refl refl
    where
      changed_to : IsChangedTo k.chunks x y (object m (is.number p)) o
      changed_to = record {
        same_object = becomes_whole.same_object;
        keeps_chunks = inr (subst (λ z. KeepsChunks (object m (is.number p)) z) (sym is_o) becomes_whole.keeps_chunks);
        as_held = subst (IsHeldAs y) (sym is_o) becomes_whole.as_held;
      }

      whole : standing u (object_place x) ≡ Some (object_file o)
      whole = becomes_whole.file ∙ ap (λ z. Some (object_file z)) (sym is_o)

      go : (doomed : Bool) (aside : Option ℕ) → x.doomed ≡ doomed → x.aside ≡ aside
          → KeepsWhere b (cache_at (with_object k p (Some y)) (published_by x.name doomed aside u)) (history_of (stored m (is.number p) o) w)
      go true aside e f =
          let same : y.aside ≡ x.aside = becomes_whole.aside ∙ ap (λ c. aside_by c x.aside) e in
          wrote_in s k m w is p x at o may u writes y sound_s (record {
            same_object = changed_to.same_object;
            keeps_chunks = changed_to.keeps_chunks;
            same_place = (λ i. place_of (becomes_whole.same_name i) (same i));
            same_name = becomes_whole.same_name;
            same_number = same;
            as_held = changed_to.as_held;
            file = whole;
          }) (λ on. safe_u on)
      go false None e f = absurd (let both : true ≡ false = sym stands_aside ∙ ap is_some f in cc)
      go false (Some d) e f =
          published_in d f (sym same_doomed ∙ e) whole sound sound_s y changed_to (becomes_whole.aside ∙ ap (λ c. aside_by c x.aside) e) out
