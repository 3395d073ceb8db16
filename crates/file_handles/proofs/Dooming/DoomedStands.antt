-- The handles stand for the machine in which the object in use of a name is doomed, once its file stands aside.
use Rattle.std.proofs.Common.{◌≡◌, ◌≢◌, ◌⊎◌, inl, inr, ℕ, ◌<◌, List, length, Option, Some, None, IsSome, true, false, refl, sym, ap, subst, ◌∙◌, arith}
use Rattle.std.proofs.lemmas.Bool.{cases_eq}
use Rattle.std.proofs.lemmas.List.Elements.{All-weaker}
use Rattle.cache_base.specs.declared.name.Name.{Name}
use Rattle.cache_theory.specs.Ever.{entries}
use Rattle.cache_theory.specs.Machine.{Machine, Object as MachineObject, object}
use Rattle.cache_theory.specs.Proper.{IsInUse, IsProper}
use Rattle.cache_theory.specs.Stands.{AsideStand, EntriesStand, HasObjectFile, IsHeldAside}
use Rattle.cache_theory.specs.Step.{doomed_under}
use Rattle.cache_theory.specs.Table.{get}
use Rattle.cache_theory.proofs.ObjectLaws.Dooming.{doomed_here, doomed_length, doomed_there, proper_doomed_under, unshelved_under}
use Rattle.cache_theory.proofs.ObjectLaws.HeldAside.{held_before_doomed, held_doomed, held_new}
use Rattle.cache_theory.proofs.Names.{get-remove_other, one_name}
use Rattle.cache_theory.proofs.ObjectLaws.Users.{in_use_along, same_number}
use Rattle.chunk_cache.specs.Cached.{CachedChunk}
use Rattle.disk_theory.specs.declared.place.Place.TheVariants.{Doomed}
use Rattle.disk_theory.specs.State.{State, standing}
use Rattle.handle_table.specs.Held.{IsEntryOf, IsHeldAs}
use Rattle.handle_table.specs.HeldChunks.{ChunksStand, IsChunkInUse, KeepsChunks}
use Rattle.handle_table.specs.Kept.{Kept, object_at, with_object}
use Rattle.handle_table.specs.Standing.{HandlesStand, IsObjectOf}
use Rattle.file_handles.specs.Stands.{IsAt, Stands}
use Rattle.handle_table.specs.declared.object.Entry.{Entry as HeldEntry}
use Rattle.handle_table.specs.declared.object.Entry.TheVariants as entry
use Rattle.handle_table.specs.declared.object.Object.{Object}
use Rattle.file_handles.proofs.Reading.HeldChunkLaws.{chunk_on, keeps_own}
use Rattle.handle_table.proofs.KeptLaws.{object_set_here, object_set_other}

-- the object doomed, with this number among the doomed
abbrev pub doomed_as : Object → ℕ → Object
doomed_as x n = record x { doomed = true; aside = Some n }

-- its file is the same
doomed_file_there : (o : MachineObject) (c : Option (List ℕ)) → HasObjectFile o c → HasObjectFile (record o { doomed = true }) c
doomed_file_there o None h = absurd h
doomed_file_there o (Some c) h = record { finished = h.finished; unfinished = h.unfinished }

doomed_entry : (e : HeldEntry) (o : MachineObject) → IsEntryOf e o → IsEntryOf e (record o { doomed = true })
doomed_entry (entry.Draft d) o h = h
doomed_entry (entry.Finished meta) o h = h

-- the undoomed object in use of a name is at a place, and its file has a number of its own among the doomed then, and
-- no name any more
pub record MayDoom (s t : State) (k : Kept) (m : Machine) (number : ℕ → ℕ) (name : Name) (p : ℕ) (x : Object) (n : ℕ) : Type 0 where
  pub stands : Stands (standing s) k m number
  pub ranged : p < length k.objects
  pub at_place : object_at k p ≡ Some x
  pub undoomed : x.doomed ≡ false
  pub used : get m.in_use name.0 ≡ Some (number p)
  pub others : (d i : ℕ) → IsAt k number d i → i ≢ number p → d ≢ n
  pub own : (d : ℕ) → x.aside ≡ Some d → d ≡ n
  pub gone : entries (standing t) name.0 ≡ None
  pub stay : (q : List ℕ) → name.0 ≢ q → entries (standing t) q ≡ entries (standing s) q
  pub moved : HasObjectFile (object m (number p)) (standing t (Doomed n))
  pub same : (d : ℕ) → d ≢ n → standing t (Doomed d) ≡ standing s (Doomed d)

module _ (s t : State) (k : Kept) (m : Machine) (number : ℕ → ℕ) (name : Name) (p : ℕ) (x : Object) (n : ℕ) (may : MayDoom s t k m number name p x n) where
  abbrev pub after : Kept
  after = with_object k p (Some (doomed_as x n))

  abbrev pub next : Machine
  next = doomed_under m name.0

  proper : IsProper m
  proper = may.stands.proper

  here : object_at after p ≡ Some (doomed_as x n)
  here = object_set_here k p p (Some (doomed_as x n)) may.ranged refl

  there : (q : ℕ) → q ≢ p → object_at after q ≡ object_at k q
  there q apart = object_set_other k p q (Some (doomed_as x n)) apart

  pub user_next : object next (number p) ≡ record (object m (number p)) { doomed = true }
  user_next = doomed_here m name.0 (number p) proper may.used

  pub other_next : (i : ℕ) → i ≢ number p → object next i ≡ object m i
  other_next i apart = doomed_there m name.0 i (λ e. apart (sym (same_number (number p) i (sym may.used ∙ e))))

  -- the object there before, and now
  was_at : (q : ℕ) (y : Object) → object_at after q ≡ Some y → (z : Object) × ((object_at k q ≡ Some z) × (((q ≡ p) × (y ≡ doomed_as x n)) ⊎ ((q ≢ p) × (y ≡ z))))
  was_at q y at = elim (cases_eq q p) [
    | inl e ↦ (x, (ap (object_at k) e ∙ may.at_place, inl (e, (let same : Some (doomed_as x n) ≡ Some y = sym here ∙ ap (object_at after) (sym e) ∙ at in cc))))
    | inr apart ↦ (y, (sym (there q apart) ∙ at, inr (apart, refl)))
  ]

  in_use_next : (i : ℕ) → IsInUse m i → IsInUse next i
  in_use_next i = in_use_along m next i (let l = doomed_length m name.0 in omega (arith, l)) (λ h. h)

  apart_numbers : (q : ℕ) (z : Object) → object_at k q ≡ Some z → q ≢ p → number q ≢ number p
  apart_numbers q z at apart same = apart (may.stands.handles.apart q p z x at may.at_place same)

  entry_is : (o : MachineObject) → IsHeldAs x o → IsHeldAs (doomed_as x n) (record o { doomed = true })
  entry_is o held = record { named = held.named; doomed = refl; aside = refl; held_entry = doomed_entry x.entry o held.held_entry }

  object_p : IsObjectOf next (number p) (doomed_as x n)
  object_p =
      let old = may.stands.handles.objects p x may.at_place in
      record { in_use = in_use_next (number p) old.in_use; as_held = subst (λ o. IsHeldAs (doomed_as x n) o) (sym user_next) (entry_is (object m (number p)) old.as_held) }

  object_q : (q : ℕ) (z : Object) → object_at k q ≡ Some z → q ≢ p → IsObjectOf next (number q) z
  object_q q z at apart =
      let old = may.stands.handles.objects q z at in
      record { in_use = in_use_next (number q) old.in_use; as_held = subst (λ o. IsHeldAs z o) (sym (other_next (number q) (apart_numbers q z at apart))) old.as_held }

  is_same_object : (q r : ℕ) (y z : Object) → q ≡ r → y ≡ z → IsObjectOf next (number r) z → IsObjectOf next (number q) y
  is_same_object q r y z e f h = subst (λ a. IsObjectOf next (number q) a) (sym f) (subst (λ a. IsObjectOf next (number a) z) (sym e) h)

  chunk_next : (c : CachedChunk) → IsChunkInUse k m c → IsChunkInUse after next c
  chunk_next c is =
      let own : number is.place ≡ c.entry = may.stands.handles.chunks.numbered is.place is.object is.at_place ∙ is.numbered in
      elim (cases_eq is.place p) [
        | inl e ↦
            let both : Some x ≡ Some is.object = sym may.at_place ∙ ap (object_at k) (sym e) ∙ is.at_place in
            let one : x ≡ is.object = cc in
            chunk_on k after m next c p (doomed_as x n) here (ap (λ (y : Object). y.number) one ∙ is.numbered)
            (subst (λ (i : ℕ). KeepsChunks (object m i) (object next i)) (ap number (sym e) ∙ own)
            (subst (KeepsChunks (object m (number p))) (sym user_next) (record { more = omega arith; same = λ i lt. refl })))
            is
        | inr apart ↦
            chunk_on k after m next c is.place is.object (there is.place apart ∙ is.at_place) is.numbered
            (keeps_own _ _ (ap (object next) (sym own) ∙ other_next (number is.place) (apart_numbers is.place is.object is.at_place apart) ∙ ap (object m) own)) is
      ]

  chunks_next : ChunksStand after next number
  chunks_next = record {
    numbered = λ q y at.
        let was = was_at q y at in
        may.stands.handles.chunks.numbered q was.0 was.1.0 ∙ elim was.1.1 [
          | inl new ↦
              let both : Some x ≡ Some was.0 = sym may.at_place ∙ ap (object_at k) (sym new.0) ∙ was.1.0 in
              let one : x ≡ was.0 = cc in
              ap (λ (z : Object). z.number) (sym one) ∙ ap (λ (z : Object). z.number) (sym new.1)
          | inr same ↦ ap (λ (z : Object). z.number) (sym same.1)
        ];
    made = may.stands.handles.chunks.made ∙ sym (doomed_length m name.0);
    held = All-weaker (IsChunkInUse k m) (IsChunkInUse after next) chunk_next k.chunks may.stands.handles.chunks.held;
  }

  handles_next : HandlesStand after next number
  handles_next = record {
    slots = may.stands.handles.slots;
    used = λ s u at. elim (cases_eq u.place p) [
      | inl e ↦ subst (λ (o : Option Object). IsSome o) (sym (ap (object_at after) e ∙ here)) refl
      | inr apart ↦ subst (λ (o : Option Object). IsSome o) (sym (there u.place apart)) (may.stands.handles.used s u at)
    ];
    objects = λ q y at.
        let was = was_at q y at in
        elim was.1.1 [
          | inl new ↦ is_same_object q p y (doomed_as x n) new.0 new.1 object_p
          | inr same ↦ is_same_object q q y was.0 refl same.1 (object_q q was.0 was.1.0 same.0)
        ];
    apart = λ q r y z at_q at_r same. let a = was_at q y at_q in let b = was_at r z at_r in may.stands.handles.apart q r a.0 b.0 a.1.0 b.1.0 same;
    chunks = chunks_next;
  }

  entries_next : EntriesStand (standing t) next
  entries_next q = elim (one_name name.0 q) [
    | inl e ↦ ap (entries (standing t)) (sym e) ∙ may.gone ∙ sym (unshelved_under m name.0) ∙ ap (get next.shelf) e
    | inr apart ↦ may.stay q apart ∙ may.stands.entries q ∙ sym (get-remove_other m.shelf name.0 q apart)
  ]

  -- what has a number among the doomed had it before, or is the user
  pub was_doomed : (d i : ℕ) → IsAt after number d i → ((d ≡ n) × (i ≡ number p)) ⊎ ((i ≢ number p) × IsAt k number d i)
  was_doomed d i at =
      let was = was_at at.place at.object at.at_place in
      elim was.1.1 [
        | inl new ↦ inl (same_number d n (sym at.set_aside ∙ ap (λ (y : Object). y.aside) new.1), sym at.numbered ∙ ap number new.0)
        | inr same ↦ inr (
          λ e. apart_numbers at.place was.0 was.1.0 same.0 (at.numbered ∙ e),
          record { place = at.place; object = was.0; at_place = was.1.0; set_aside = ap (λ (y : Object). y.aside) (sym same.1) ∙ at.set_aside; numbered = at.numbered },
        )
      ]

  pub still_at : (d i : ℕ) → IsAt k number d i → i ≢ number p → IsAt after number d i
  still_at d i at apart = record {
    place = at.place;
    object = at.object;
    at_place = there at.place (λ e. apart (sym at.numbered ∙ ap number e)) ∙ at.at_place;
    set_aside = at.set_aside;
    numbered = at.numbered;
  }

  pub user_at_n : IsAt after number n (number p)
  user_at_n = record { place = p; object = doomed_as x n; at_place = here; set_aside = refl; numbered = refl }

  -- a number of the user is that one
  own_number : (d : ℕ) → IsAt k number d (number p) → d ≡ n
  own_number d at =
      let place : at.place ≡ p = may.stands.handles.apart at.place p at.object x at.at_place may.at_place at.numbered in
      let both : Some at.object ≡ Some x = sym at.at_place ∙ ap (object_at k) place ∙ may.at_place in
      let one : at.object ≡ x = cc in
      may.own d (sym (ap (λ (y : Object). y.aside) one) ∙ at.set_aside)

  -- the file of the user has the number now
  held_user : (i : ℕ) → i ≡ number p → (d : ℕ) × (IsAt after number d i × HasObjectFile (object next i) (standing t (Doomed d)))
  held_user i e =
      let file : HasObjectFile (object next (number p)) (standing t (Doomed n)) =
      subst (λ o. HasObjectFile o (standing t (Doomed n))) (sym user_next) (doomed_file_there (object m (number p)) (standing t (Doomed n)) may.moved) in
      (n, (subst (λ a. IsAt after number n a) (sym e) user_at_n, subst (λ a. HasObjectFile (object next a) (standing t (Doomed n))) (sym e) file))

  held_other : (i : ℕ) → IsHeldAside m i → i ≢ number p → (d : ℕ) × (IsAt after number d i × HasObjectFile (object next i) (standing t (Doomed d)))
  held_other i h apart =
      let is = may.stands.aside.held i h in
      let file =
      subst (HasObjectFile (object next i)) (sym (may.same is.0 (may.others is.0 i is.1.0 apart)))
      (subst (λ o. HasObjectFile o (standing s (Doomed is.0))) (sym (other_next i apart)) is.1.1) in
      (is.0, (still_at is.0 i is.1.0 apart, file))

  aside_next : AsideStand (standing t) next (IsAt after number)
  aside_next = record {
    held = λ i h. elim (cases_eq i (number p)) [
      | inl e ↦ held_user i e
      | inr apart ↦ elim (held_before_doomed m name.0 i h) [
        | inl at ↦ absurd (apart (same_number i (number p) (sym at ∙ may.used)))
        | inr old ↦ held_other i old apart
      ]
    ];
    only = λ d some. elim (cases_eq d n) [
      | inl e ↦ (number p, (subst (λ a. IsAt after number a (number p)) (sym e) user_at_n, held_new m name.0 (number p) proper may.used))
      | inr apart ↦
          let old = may.stands.aside.only d (λ none. some (may.same d apart ∙ none)) in
          let other : old.0 ≢ number p = λ e. apart (own_number d (subst (λ a. IsAt k number d a) e old.1.0)) in
          (old.0, (still_at d old.0 old.1.0 other, held_doomed m name.0 proper old.0 old.1.1))
    ];
    one_object = λ d i j at_i at_j. elim (was_doomed d i at_i) [
      | inl a ↦ elim (was_doomed d j at_j) [ inl b ↦ a.1 ∙ sym b.1 | inr b ↦ absurd (may.others d j b.1 b.0 a.0) ]
      | inr a ↦ elim (was_doomed d j at_j) [ inl b ↦ absurd (may.others d i a.1 a.0 b.0) | inr b ↦ may.stands.aside.one_object d i j a.1 b.1 ]
    ];
    one_number = λ d e i at_d at_e. elim (was_doomed d i at_d) [
      | inl a ↦ elim (was_doomed e i at_e) [ inl b ↦ a.0 ∙ sym b.0 | inr b ↦ absurd (b.0 a.1) ]
      | inr a ↦ elim (was_doomed e i at_e) [ inl b ↦ absurd (a.0 b.1) | inr b ↦ may.stands.aside.one_number d e i a.1 b.1 ]
    ];
  }

  pub stands_next : Stands (standing t) after next number
  stands_next = record {
    proper = proper_doomed_under m name.0 proper;
    handles = handles_next;
    entries = entries_next;
    aside = aside_next;
  }
