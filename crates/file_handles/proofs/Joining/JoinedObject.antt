-- An object more, at a place that was free, and the slot that uses it.
use Rattle.std.proofs.Common.{◌≡◌, ◌≢◌, ◌⊎◌, inl, inr, ℕ, ◌<◌, List, [], ◌∷◌, ◌++◌, length, Option, Some, None, is_some, Bool, true, false, not, ◌||◌, cond, IsSome, refl, sym, ap, subst, ◌∙◌, arith, eq-eqb}
use Rattle.std.specs.Prelude.{◌==◌, if◌then◌else◌, option_map, slice_get, unwrap_or}
use Rattle.std.proofs.lemmas.Bool.{cases_eq, ne_eqb}
use Rattle.std.proofs.lemmas.Option.{slice_get_past, slice_get_within}
use Rattle.std.proofs.lemmas.List.Elements.{All-weaker}
use Rattle.cache_theory.specs.Crash.{IsCrashKept, WasUnder}
use Rattle.cache_theory.specs.Ever.{EverAt, entry_place}
use Rattle.cache_theory.specs.Machine.{Machine, Object as MachineObject, object}
use Rattle.cache_theory.specs.Marks.{Marks, is_buried}
use Rattle.cache_theory.specs.Proper.{IsProper}
use Rattle.cache_theory.specs.Stands.{AsideStand, HasObjectFile, IsHeldAside, IsObjectFile, is_aside, object_file}
use Rattle.cache_theory.specs.Step.{entered}
use Rattle.cache_theory.proofs.CrashImages.DiskChanges.{create_keeps}
use Rattle.cache_theory.proofs.ObjectLaws.Entering.{MayEnter, entered_here, entered_there}
use Rattle.cache_theory.proofs.EntryFiles.{written_is_file}
use Rattle.cache_theory.proofs.CrashImages.EverSteps.{ever_created}
use Rattle.cache_theory.proofs.CrashImages.FiledOnce.{create_files_once}
use Rattle.cache_theory.proofs.ObjectLaws.HeldAside.{held_before_entered, held_before_entered_finished, held_entered, held_fresh, held_number}
use Rattle.cache_theory.proofs.ObjectLaws.Objects.{length_more, nth, nth-append_old, nth_is, nth_there}
use Rattle.cache_theory.proofs.ObjectLaws.Slots.{free_is_none, has_slots_of, slot_kept, slot_of as slot_with, use_of, with_slot_other, with_slot_same}
use Rattle.cache_theory.proofs.CrashImages.Unpublished.{create_unpublished}
use Rattle.cache_theory.proofs.ObjectLaws.Users.{in_use_along}
use Rattle.chunk_cache.specs.Cached.{CachedChunk}
use Rattle.disk_theory.specs.declared.place.Place.TheVariants.{Doomed}
use Rattle.disk_theory.specs.Image.{Files}
use Rattle.disk_theory.specs.Sound.{IsSound}
use Rattle.disk_theory.specs.Standing.{PutsContent}
use Rattle.disk_theory.specs.State.{State, created, names_now, standing}
use Rattle.disk_theory.specs.declared.place.Place.TheVariants.{Doomed}
use Rattle.disk_theory.proofs.Places.{is_same-apart, is_same-refl}
use Rattle.handle_table.specs.Held.{IsHeldAs}
use Rattle.handle_table.specs.HeldChunks.{ChunksStand, IsChunkInUse}
use Rattle.handle_table.specs.Kept.{Kept, object_at, use_at, with_new, with_use}
use Rattle.handle_table.specs.Standing.{HandlesStand, IsObjectOf, slot_of}
use Rattle.file_handles.specs.Stands.{IsAt}
use Rattle.handle_table.specs.declared.object.Object.{Object}
use Rattle.handle_table.specs.declared.object.Use.{Use}
use Rattle.file_handles.proofs.Dooming.AsidePlaces.{one_doomed}
use Rattle.file_handles.proofs.Reading.HeldChunkLaws.{chunk_on, keeps_own}
use Rattle.file_handles.proofs.Joining.JoinedSlots.{same_place, use_set_here, use_set_other}
use Rattle.handle_table.proofs.KeptLaws.{object_set_here, object_set_other}

-- the object x that is the machine's new one may be added there
pub record MayAdd (k : Kept) (m : Machine) (slot : ℕ) (writes : Bool) (o : MachineObject) (x : Object) (p : ℕ) (u : Use) : Type 0 where
  pub enters : MayEnter m slot writes o
  pub as_held : IsHeldAs x o
  pub numbered : x.number ≡ k.made
  pub free : object_at k p ≡ None
  pub ranged : p < length k.objects
  pub within : slot < length k.slots
  pub placed : u.place ≡ p
  pub writing : u.writes ≡ writes

module _ (k : Kept) (m : Machine) (number : ℕ → ℕ) (proper : IsProper m) (stand : HandlesStand k m number) (slot : ℕ) (writes : Bool) (o : MachineObject) (x : Object) (p : ℕ) (u : Use) (may : MayAdd k m slot writes o x p u) where
  abbrev pub next : Machine
  next = entered m slot writes o

  abbrev pub after : Kept
  after = with_use (with_new k p x) slot (Some u)

  abbrev pub numbers : ℕ → ℕ
  numbers q = if q == p then length m.objects else number q

  new_number : (q : ℕ) → q ≡ p → numbers q ≡ length m.objects
  new_number q e = ap (λ b. cond b (length m.objects) (number q)) (eq-eqb q p e)

  old_number : (q : ℕ) → q ≢ p → numbers q ≡ number q
  old_number q apart = ap (λ b. cond b (length m.objects) (number q)) (ne_eqb q p apart)

  here : (q : ℕ) → q ≡ p → object_at after q ≡ Some x
  here q e = object_set_here k p q (Some x) may.ranged e

  there : (q : ℕ) → q ≢ p → object_at after q ≡ object_at k q
  there q apart = object_set_other k p q (Some x) apart

  not_free : (q : ℕ) (y : Object) → object_at k q ≡ Some y → q ≢ p
  not_free q y at e = let never : None ≡ Some y = sym may.free ∙ ap (object_at k) (sym e) ∙ at in cc

  place_taken : (t : ℕ) (v : Use) → use_at k t ≡ Some v → v.place ≢ p
  place_taken t v at e = go (object_at k v.place) (ap (object_at k) e ∙ may.free) (stand.used t v at)
    where
      go : (y : Option Object) → y ≡ None → IsSome y → ⊥
      go None none some = cc
      go (Some y) none some = cc

  same_slot : (t : ℕ) (v : Option Use) → use_at k t ≡ v → option_map (slot_of number) v ≡ option_map (slot_of numbers) v
  same_slot t None at = refl
  same_slot t (Some v) at = ap (λ n. use_of n v.writes) (sym (old_number v.place (place_taken t v at)))

  -- the objects
  new_object : IsObjectOf next (length m.objects) x
  new_object = record {
    in_use = record {
      number = (let l = length_more m.objects o in omega (arith, l));
      slots = has_slots_of next (length m.objects) (record { slot = slot; small = may.enters.small; writes = writes; at = with_slot_same m.slots slot slot (use_of (length m.objects) writes) refl });
    };
    as_held = subst (λ y. IsHeldAs x y) (sym (entered_here m slot writes o proper may.enters (length m.objects) refl)) may.as_held;
  }

  old_object : (q : ℕ) (y : Object) → object_at k q ≡ Some y → IsObjectOf next (number q) y
  old_object q y at =
      let old = stand.objects q y at in
      record {
        in_use = in_use_along m next (number q) (let l = length_more m.objects o in omega (arith, l))
            (slot_kept m.slots slot (use_of (length m.objects) writes) (number q) (free_is_none m.slots slot (number q) may.enters.free)) old.in_use;
        as_held = subst (λ z. IsHeldAs y z) (sym (entered_there m slot writes o proper may.enters (number q) old.in_use.number)) old.as_held;
      }

  same_object : (i j : ℕ) (y z : Object) → i ≡ j → y ≡ z → IsObjectOf next j z → IsObjectOf next i y
  same_object i j y z e f h = subst (λ a. IsObjectOf next i a) (sym f) (subst (λ a. IsObjectOf next a z) (sym e) h)

  one_object_there : (q : ℕ) (y : Object) → object_at after q ≡ Some y → q ≡ p → y ≡ x
  one_object_there q y at e = let same : Some y ≡ Some x = sym at ∙ here q e in cc

  objects_next : (q : ℕ) (y : Object) → object_at after q ≡ Some y → IsObjectOf next (numbers q) y
  objects_next q y at = elim (cases_eq q p) [
    | inl e ↦ same_object (numbers q) (length m.objects) y x (new_number q e) (one_object_there q y at e) new_object
    | inr apart ↦ same_object (numbers q) (number q) y y (old_number q apart) refl (old_object q y (sym (there q apart) ∙ at))
  ]

  number_below : (q : ℕ) (y : Object) → object_at k q ≡ Some y → number q < length m.objects
  number_below q y at = (stand.objects q y at).in_use.number

  apart_next : (q r : ℕ) (y z : Object) → object_at after q ≡ Some y → object_at after r ≡ Some z → numbers q ≡ numbers r → q ≡ r
  apart_next q r y z at_q at_r same = elim (cases_eq q p) [
    | inl e ↦ elim (cases_eq r p) [
      | inl f ↦ e ∙ sym f
      | inr f ↦
          let lt = number_below r z (sym (there r f) ∙ at_r) in
          let equal : length m.objects ≡ number r = sym (new_number q e) ∙ same ∙ old_number r f in
          absurd (omega (arith, lt, equal))
    ]
    | inr e ↦ elim (cases_eq r p) [
      | inl f ↦
          let lt = number_below q y (sym (there q e) ∙ at_q) in
          let equal : number q ≡ length m.objects = sym (old_number q e) ∙ same ∙ new_number r f in
          absurd (omega (arith, lt, equal))
      | inr f ↦ stand.apart q r y z (sym (there q e) ∙ at_q) (sym (there r f) ∙ at_r) (sym (old_number q e) ∙ same ∙ old_number r f)
    ]
  ]

  chunk_next : (c : CachedChunk) → IsChunkInUse k m c → IsChunkInUse after next c
  chunk_next c is =
      let below = number_below is.place is.object is.at_place in
      let numbered = stand.chunks.numbered is.place is.object is.at_place ∙ is.numbered in
      chunk_on k after m next c is.place is.object (there is.place (not_free is.place is.object is.at_place) ∙ is.at_place) is.numbered
      (keeps_own _ _ (entered_there m slot writes o proper may.enters c.entry (omega (arith, below, numbered)))) is

  chunks_next : ChunksStand after next numbers
  chunks_next = record {
    numbered = λ q y at. elim (cases_eq q p) [
      | inl e ↦ new_number q e ∙ sym stand.chunks.made ∙ sym may.numbered ∙ ap (λ (z : Object). z.number) (sym (one_object_there q y at e))
      | inr apart ↦ old_number q apart ∙ stand.chunks.numbered q y (sym (there q apart) ∙ at)
    ];
    made = (let l = length_more m.objects o in let made = stand.chunks.made in omega (arith, l, made));
    held = All-weaker (IsChunkInUse k m) (IsChunkInUse after next) chunk_next k.chunks stand.chunks.held;
  }

  pub handles_added : HandlesStand after next numbers
  handles_added = record {
    slots = λ t lt. elim (cases_eq t slot) [
      | inl e ↦
          let n : length m.objects ≡ numbers u.place = sym (new_number u.place may.placed) in
          with_slot_same m.slots slot t (use_of (length m.objects) writes) e ∙ (λ i. use_of (n i) (sym may.writing i))
          ∙ sym (ap (option_map (slot_of numbers)) (use_set_here (with_new k p x) slot t (Some u) may.within e))
      | inr apart ↦
          with_slot_other m.slots slot t (use_of (length m.objects) writes) apart ∙ stand.slots t lt ∙ same_slot t (use_at k t) refl
          ∙ sym (ap (option_map (slot_of numbers)) (use_set_other (with_new k p x) slot t (Some u) apart))
    ];
    used = λ t v at. elim (cases_eq t slot) [
      | inl e ↦
          let same = same_place u v (sym (use_set_here (with_new k p x) slot t (Some u) may.within e) ∙ at) in
          subst (λ (y : Option Object). IsSome y) (sym (here v.place (sym same ∙ may.placed))) refl
      | inr apart ↦
          let old : use_at k t ≡ Some v = sym (use_set_other (with_new k p x) slot t (Some u) apart) ∙ at in
          subst (λ (y : Option Object). IsSome y) (sym (there v.place (place_taken t v old))) (stand.used t v old)
    ];
    objects = objects_next;
    apart = apart_next;
    chunks = chunks_next;
  }

  -- The objects whose files stand aside.

  at_on : (d i : ℕ) → IsAt k number d i → IsAt after numbers d i
  at_on d i a =
      let apart = not_free a.place a.object a.at_place in
      record { place = a.place; object = a.object; at_place = there a.place apart ∙ a.at_place; set_aside = a.set_aside; numbered = old_number a.place apart ∙ a.numbered }

  -- they are those before, and the new one
  was_at : (d i : ℕ) → IsAt after numbers d i → ((x.aside ≡ Some d) × (i ≡ length m.objects)) ⊎ IsAt k number d i
  was_at d i a = elim (cases_eq a.place p) [
    | inl e ↦
        let same = one_object_there a.place a.object a.at_place e in
        inl (ap (λ (y : Object). y.aside) (sym same) ∙ a.set_aside, sym a.numbered ∙ new_number a.place e)
    | inr apart ↦ inr (record { place = a.place; object = a.object; at_place = sym (there a.place apart) ∙ a.at_place; set_aside = a.set_aside; numbered = sym (old_number a.place apart) ∙ a.numbered })
  ]

  at_below : (d i : ℕ) → IsAt k number d i → i < length m.objects
  at_below d i a = let lt = number_below a.place a.object a.at_place in let e = a.numbered in omega (arith, lt, e)

  held_below : (i : ℕ) → IsHeldAside m i → i < length m.objects
  held_below i h = held_number m i proper (slot_with m i h.slots)

  same_file : (i : ℕ) → IsHeldAside m i → (c : Option (List ℕ)) → HasObjectFile (object m i) c → HasObjectFile (object next i) c
  same_file i h c = subst (λ (y : MachineObject). HasObjectFile y c) (sym (entered_there m slot writes o proper may.enters i (held_below i h)))

  -- What a crash may leave.

  unburied_next : (w : Marks) (s : State) → IsCrashKept s m w (IsAt k number) → (i : ℕ) (y : MachineObject) → slice_get (m.objects ++ o ∷ []) i ≡ Some y → y.doomed ≡ false → is_buried w i ≡ false
  unburied_next w s kept i y at un = elim (cases_eq i (length m.objects)) [
    | inl e ↦
        let young = kept.young in
        ap (λ z. unwrap_or (option_map (λ (a : MachineObject). a.doomed) z) false) (slice_get_past w.marked.objects i (omega (arith, young, e)))
    | inr apart ↦
        let within = slice_get_within (m.objects ++ o ∷ []) i y at in
        let long = length_more m.objects o in
        let lt : i < length m.objects = omega (arith, within, long, apart) in
        let same : nth m.objects i ≡ y = sym (nth-append_old m.objects o i lt) ∙ nth_is (m.objects ++ o ∷ []) i y at in
        kept.unburied i (nth m.objects i) (nth_there m.objects i lt) (ap (λ (a : MachineObject). a.doomed) same ∙ un)
  ]

  under_next : (w : Marks) (i : ℕ) (name : List ℕ) → IsHeldAside m i → WasUnder w i (object m i) name → WasUnder w i (object next i) name
  under_next w i name h was = subst (λ y. WasUnder w i y name) (sym (entered_there m slot writes o proper may.enters i (held_below i h))) was

  -- One that is finished is read from its file: those that stand aside are the same.
  module _ (done : o.finished ≡ true) where
    none_aside : (d : ℕ) → x.aside ≡ Some d → ⊥
    none_aside d e =
        let out : is_aside o ≡ false = λ i. may.enters.undoomed i || not (done i) in
        let both : true ≡ false = sym (ap is_some e) ∙ may.as_held.aside ∙ out in
        cc

    at_off : (d i : ℕ) → IsAt after numbers d i → IsAt k number d i
    at_off d i a = elim (was_at d i a) [ inl new ↦ absurd (none_aside d new.0) | inr old ↦ old ]

    was_held : (i : ℕ) → IsHeldAside next i → IsHeldAside m i
    was_held i h = held_before_entered_finished m slot writes o proper may.enters done i h

    pub aside_added : (files : Files) → AsideStand files m (IsAt k number) → AsideStand files next (IsAt after numbers)
    aside_added files aside = record {
      held = λ i h.
          let was = was_held i h in
          let old = aside.held i was in
          (old.0, (at_on old.0 i old.1.0, same_file i was (files (Doomed old.0)) old.1.1));
      only = λ d some. let old = aside.only d some in (old.0, (at_on d old.0 old.1.0, held_entered m slot writes o proper may.enters old.0 old.1.1));
      one_object = λ d i j a b. aside.one_object d i j (at_off d i a) (at_off d j b);
      one_number = λ d e i a b. aside.one_number d e i (at_off d i a) (at_off e i b);
    }

    pub crash_added : (w : Marks) (s : State) → IsCrashKept s m w (IsAt k number) → IsCrashKept s next w (IsAt after numbers)
    crash_added w s kept = record {
      safe = kept.safe;
      once = kept.once;
      aside = λ d i file name a h now ever. let was = was_held i h in under_next w i name was (kept.aside d i file name (at_off d i a) was now ever);
      unburied = unburied_next w s kept;
      young = (let young = kept.young in let long = length_more m.objects o in omega (arith, young, long));
    }

  -- One that is not gets a file, under a number that was free.
  module _ (un : o.finished ≡ false) (d : ℕ) (is_at : x.aside ≡ Some d) (free : (i : ℕ) → IsAt k number d i → ⊥) where
    new_at : IsAt after numbers d (length m.objects)
    new_at = record { place = p; object = x; at_place = here p refl; set_aside = is_at; numbered = new_number p refl }

    its_number : (e : ℕ) → x.aside ≡ Some e → e ≡ d
    its_number e at = let both : Some e ≡ Some d = sym at ∙ is_at in cc

    other_number : (e i : ℕ) → IsAt k number e i → e ≢ d
    other_number e i a same = free i (subst (λ c. IsAt k number c i) same a)

    aside_apart : (e : ℕ) → e ≢ d → Doomed e ≢ Doomed d
    aside_apart e apart same = apart (one_doomed e d same)

    pub aside_created : (s t : State) → PutsContent (Doomed d) (Some (object_file o)) s t → AsideStand (standing s) m (IsAt k number) → AsideStand (standing t) next (IsAt after numbers)
    aside_created s t puts aside = record {
      held = λ i h. elim (held_before_entered m slot writes o proper may.enters i h) [
        | inl new ↦
            let at : IsAt after numbers d i = subst (λ j. IsAt after numbers d j) (sym new.0) new_at in
            let file : HasObjectFile (object next i) (Some (object_file o)) =
            subst (λ (y : MachineObject). IsObjectFile y (object_file o)) (sym (entered_here m slot writes o proper may.enters i new.0)) (written_is_file o) in
            (d, (at, subst (HasObjectFile (object next i)) (sym puts.here) file))
        | inr was ↦
            let old = aside.held i was in (
              old.0,
              (
                at_on old.0 i old.1.0,
                subst (HasObjectFile (object next i)) (sym (puts.others (Doomed old.0) (aside_apart old.0 (other_number old.0 i old.1.0)))) (same_file i was (standing s (Doomed old.0)) old.1.1),
              ),
            )
      ];
      only = λ e some. elim (cases_eq e d) [
        | inl same ↦ (length m.objects, (subst (λ c. IsAt after numbers c (length m.objects)) (sym same) new_at, held_fresh m slot writes o proper may.enters un))
        | inr apart ↦
            let old = aside.only e (λ none. some (puts.others (Doomed e) (aside_apart e apart) ∙ none)) in
            (old.0, (at_on e old.0 old.1.0, held_entered m slot writes o proper may.enters old.0 old.1.1))
      ];
      one_object = λ e i j a b. elim (was_at e i a) [
        | inl new ↦ elim (was_at e j b) [ inl too ↦ new.1 ∙ sym too.1 | inr old ↦ absurd (other_number e j old (its_number e new.0)) ]
        | inr old ↦ elim (was_at e j b) [ inl new ↦ absurd (other_number e i old (its_number e new.0)) | inr too ↦ aside.one_object e i j old too ]
      ];
      one_number = λ e f i a b. elim (was_at e i a) [
        | inl new ↦ elim (was_at f i b) [
          | inl too ↦ its_number e new.0 ∙ sym (its_number f too.0)
          | inr old ↦ let lt = at_below f i old in let at = new.1 in absurd (omega (arith, lt, at))
        ]
        | inr old ↦ elim (was_at f i b) [
          | inl new ↦ let lt = at_below e i old in let at = new.1 in absurd (omega (arith, lt, at))
          | inr too ↦ aside.one_number e f i old too
        ]
      ];
    }

    names_here : (s : State) → names_now (created (Doomed d) s) (Doomed d) ≡ Some s.made
    names_here s = ap (λ (b : Bool). if b then Some s.made else names_now s (Doomed d)) (is_same-refl (Doomed d))

    names_there : (s : State) (e : ℕ) → e ≢ d → names_now (created (Doomed d) s) (Doomed e) ≡ names_now s (Doomed e)
    names_there s e apart = ap (λ (b : Bool). if b then Some s.made else names_now s (Doomed e)) (is_same-apart (Doomed e) (Doomed d) (aside_apart e apart))

    pub crash_created : (w : Marks) (s : State) → IsSound s → IsCrashKept s m w (IsAt k number) → IsCrashKept (created (Doomed d) s) next w (IsAt after numbers)
    crash_created w s sound kept = record {
      safe = create_keeps s w d sound kept.safe;
      once = create_files_once s (Doomed d) sound kept.once;
      aside = λ e i file name a h now ever. elim (was_at e i a) [
        | inl new ↦
            let both : Some s.made ≡ Some file = sym (names_here s) ∙ ap (λ c. names_now (created (Doomed d) s) (Doomed c)) (sym (its_number e new.0)) ∙ now in
            let one : file ≡ s.made = cc in
            absurd (create_unpublished s d sound name (subst (EverAt (created (Doomed d) s) (entry_place name)) one ever))
        | inr old ↦ elim (held_before_entered m slot writes o proper may.enters i h) [
          | inl new ↦ let lt = at_below e i old in let at = new.0 in absurd (omega (arith, lt, at))
          | inr was ↦
              let stood : EverAt s (entry_place name) file = elim (ever_created s (Doomed d) (entry_place name) file ever) [ inl fresh ↦ absurd (cc fresh.0) | inr before ↦ before ] in
              under_next w i name was (kept.aside e i file name old was (sym (names_there s e (other_number e i old)) ∙ now) stood)
        ]
      ];
      unburied = unburied_next w s kept;
      young = (let young = kept.young in let long = length_more m.objects o in omega (arith, young, long));
    }
