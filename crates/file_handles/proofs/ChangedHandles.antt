-- The handles stand for the machine with an object changed.
use Rattle.std.proofs.Common.{◌≡◌, ◌≢◌, ◌⊎◌, inl, inr, ℕ, List, get_or, Some, true, false, refl, sym, ap, subst, ◌∙◌, arith, length-set}
use Rattle.std.specs.List.{All}
use Rattle.std.specs.Prelude.{IsSome, slice_get, slice_set}
use Rattle.std.proofs.lemmas.Bool.{cases_Bool, cases_eq}
use Rattle.std.proofs.lemmas.Option.{slice_get_within}
use Rattle.cache_theory.specs.Crash.{IsCrashKept, WasUnder}
use Rattle.cache_theory.specs.Machine.{Machine, Object as MachineObject, object}
use Rattle.cache_theory.specs.Marks.{Marks, is_buried}
use Rattle.cache_theory.specs.Proper.{IsInUse, IsProper}
use Rattle.cache_theory.specs.Step.{stored}
use Rattle.cache_theory.proofs.ObjectLaws.Objects.{nth_is, nth_there}
use Rattle.cache_theory.proofs.ObjectLaws.Storing.{MayStand, stored_here, stored_like, stored_there}
use Rattle.cache_theory.proofs.ObjectLaws.Users.{in_use_along}
use Rattle.chunk_cache.specs.Cached.{CachedChunk}
use Rattle.disk_theory.specs.State.{State}
use Rattle.entry_name.specs.EntryName.{file_name}
use Rattle.handle_table.specs.Held.{IsHeldAs}
use Rattle.handle_table.specs.HeldChunks.{ChunksStand, HasNoneOf, IsChunkInUse, KeepsChunks}
use Rattle.handle_table.specs.Kept.{Kept, object_at, with_object}
use Rattle.handle_table.specs.Standing.{HandlesStand, IsObjectOf}
use Rattle.file_handles.specs.Stands.{IsAt}
use Rattle.handle_table.specs.declared.object.Object.{Object}
use Rattle.file_handles.proofs.Reading.HeldChunkLaws.{chunk_on, keeps_own}
use Rattle.handle_table.proofs.KeptLaws.{object_set_here, object_set_other, place_within}

-- the object x becomes y, which is the machine's object changed to o, where these chunks are held
pub record IsChangedTo (held : List CachedChunk) (x y : Object) (was o : MachineObject) : Type 0 where
  pub same_object : y.number ≡ x.number
  pub keeps_chunks : HasNoneOf x.number held ⊎ KeepsChunks was o
  pub as_held : IsHeldAs y o

module _ (k : Kept) (m : Machine) (number : ℕ → ℕ) (proper : IsProper m) (stand : HandlesStand k m number) (p : ℕ) (x : Object) (at : object_at k p ≡ Some x) (o : MachineObject) (may : MayStand m (number p) o) where
  -- what a crash may leave of the objects
  finished_on : (object m (number p)).finished ≡ true → o.finished ≡ true
  finished_on done = elim (cases_Bool o.finished) [
    | inl yes_it_is ↦ yes_it_is
    | inr un ↦ absurd (let both : true ≡ false = sym done ∙ may.unfinished un in cc)
  ]

  pub under_on : (w : Marks) (j : ℕ) (name : List ℕ) → WasUnder w j (object m j) name → WasUnder w j (object (stored m (number p) o) j) name
  under_on w j name was = record {
    finished = elim (cases_eq j (number p)) [
      | inl same ↦ ap (λ (z : MachineObject). z.finished) (stored_here m (number p) o proper may j same) ∙ finished_on (ap (λ i. (object m i).finished) (sym same) ∙ was.finished)
      | inr apart ↦ ap (λ (z : MachineObject). z.finished) (stored_there m (number p) o proper may j apart) ∙ was.finished
    ];
    unburied = was.unburied;
    named = ap file_name (stored_like m (number p) o proper may (λ (z : MachineObject). z.version.key) may.key j) ∙ was.named;
    touched = was.touched;
  }

  pub unburied_on : (w : Marks) (s : State) (At : ℕ → ℕ → Type 0) → IsCrashKept s m w At → (j : ℕ) (z : MachineObject) → slice_get (slice_set m.objects (number p) o) j ≡ Some z → z.doomed ≡ false → is_buried w j ≡ false
  unburied_on w s At kept j z at_j un =
      let lt = slice_get_within (slice_set m.objects (number p) o) j z at_j in
      let l = length-set m.objects (number p) o in
      let was : (object m j).doomed ≡ false =
      sym (stored_like m (number p) o proper may (λ (z : MachineObject). z.doomed) may.doomed j)
      ∙ ap (λ (z : MachineObject). z.doomed) (nth_is (slice_set m.objects (number p) o) j z at_j) ∙ un in
      kept.unburied j (object m j) (nth_there m.objects j (omega (arith, lt, l))) was

  -- the handles
  module _ (y : Object) (becomes : IsChangedTo k.chunks x y (object m (number p)) o) where
    -- what is at the places then, and was before
    pub here : (q : ℕ) → q ≡ p → object_at (with_object k p (Some y)) q ≡ Some y
    here q same = object_set_here k p q (Some y) (place_within k p x at) same

    pub there : (q : ℕ) → q ≢ p → object_at (with_object k p (Some y)) q ≡ object_at k q
    there q apart = object_set_other k p q (Some y) apart

    was_there : (q : ℕ) (z : Object) → object_at (with_object k p (Some y)) q ≡ Some z → (a : Object) × (object_at k q ≡ Some a)
    was_there q z at_q = elim (cases_eq q p) [
      | inl same ↦ (x, ap (object_at k) same ∙ at)
      | inr apart ↦ (z, sym (there q apart) ∙ at_q)
    ]

    in_use_on : (j : ℕ) → IsInUse m j → IsInUse (stored m (number p) o) j
    in_use_on j u = in_use_along m (stored m (number p) o) j (let l = length-set m.objects (number p) o in omega (arith, l)) (λ h. h) u

    new_object : IsObjectOf (stored m (number p) o) (number p) y
    new_object = record {
      in_use = in_use_on (number p) may.in_use;
      as_held = subst (IsHeldAs y) (sym (stored_here m (number p) o proper may (number p) refl)) becomes.as_held;
    }

    objects : (q : ℕ) (z : Object) → object_at (with_object k p (Some y)) q ≡ Some z → IsObjectOf (stored m (number p) o) (number q) z
    objects q z at_q = elim (cases_eq q p) [
      | inl same ↦
          let both : Some y ≡ Some z = sym (here q same) ∙ at_q in
          let one : y ≡ z = cc in
          subst (λ r. IsObjectOf (stored m (number p) o) (number r) z) (sym same) (subst (IsObjectOf (stored m (number p) o) (number p)) one new_object)
      | inr apart ↦
          let old_at : object_at k q ≡ Some z = sym (there q apart) ∙ at_q in
          let old = stand.objects q z old_at in
          let other : number q ≢ number p = λ e. apart (stand.apart q p z x old_at at e) in
          record { in_use = in_use_on (number q) old.in_use; as_held = subst (IsHeldAs z) (sym (stored_there m (number p) o proper may (number q) other)) old.as_held }
    ]

    numbered_at : (q : ℕ) (z : Object) → object_at k q ≡ Some z → number q ≡ z.number
    numbered_at = stand.chunks.numbered

    chunk_next : (c : CachedChunk) → (c.entry ≡ x.number → KeepsChunks (object m (number p)) o) → IsChunkInUse k m c → IsChunkInUse (with_object k p (Some y)) (stored m (number p) o) c
    chunk_next c keeps in_use = elim (cases_eq in_use.place p) [
      | inl same ↦
          let own : c.entry ≡ number p = sym (numbered_at in_use.place in_use.object in_use.at_place ∙ in_use.numbered) ∙ ap number same in
          chunk_on k (with_object k p (Some y)) m (stored m (number p) o) c in_use.place y (here in_use.place same) (becomes.same_object ∙ sym (numbered_at p x at) ∙ sym own)
          (subst (λ (i : ℕ). KeepsChunks (object m i) (object (stored m (number p) o) i)) (sym own)
          (subst (KeepsChunks (object m (number p))) (sym (stored_here m (number p) o proper may (number p) refl)) (keeps (own ∙ numbered_at p x at))))
          in_use
      | inr apart ↦
          let other : c.entry ≢ number p =
          λ e. apart (stand.apart in_use.place p in_use.object x in_use.at_place at (numbered_at in_use.place in_use.object in_use.at_place ∙ in_use.numbered ∙ e)) in
          chunk_on k (with_object k p (Some y)) m (stored m (number p) o) c in_use.place in_use.object (there in_use.place apart ∙ in_use.at_place) in_use.numbered
          (keeps_own _ _ (stored_there m (number p) o proper may c.entry other)) in_use
    ]

    chunks_held : All (IsChunkInUse (with_object k p (Some y)) (stored m (number p) o)) k.chunks
    chunks_held i d lt = elim becomes.keeps_chunks [
      | inl none ↦ chunk_next (get_or k.chunks i d) (λ own. absurd (none i d lt own)) (stand.chunks.held i d lt)
      | inr keeps ↦ chunk_next (get_or k.chunks i d) (λ own. keeps) (stand.chunks.held i d lt)
    ]

    chunks_next : ChunksStand (with_object k p (Some y)) (stored m (number p) o) number
    chunks_next = record {
      numbered = λ q z at_q. elim (cases_eq q p) [
        | inl same ↦
            let both : Some y ≡ Some z = sym (here q same) ∙ at_q in
            let one : y ≡ z = cc in
            ap number same ∙ numbered_at p x at ∙ sym becomes.same_object ∙ ap (λ (w : Object). w.number) one
        | inr apart ↦ numbered_at q z (sym (there q apart) ∙ at_q)
      ];
      made = (let l = length-set m.objects (number p) o in let made = stand.chunks.made in omega (arith, l, made));
      held = chunks_held;
    }

    pub handles_on : HandlesStand (with_object k p (Some y)) (stored m (number p) o) number
    handles_on = record {
      slots = stand.slots;
      used = λ u v has. elim (cases_eq v.place p) [
        | inl same ↦ subst IsSome (sym (here v.place same)) refl
        | inr apart ↦ subst IsSome (sym (there v.place apart)) (stand.used u v has)
      ];
      objects = objects;
      apart = λ q r a b at_q at_r e. let q_was = was_there q a at_q in let r_was = was_there r b at_r in stand.apart q r q_was.0 r_was.0 q_was.1 r_was.1 e;
      chunks = chunks_next;
    }

    -- a number that stands aside is that of x, or of another object
    pub other_at : (d j : ℕ) → IsAt k number d j → j ≢ number p → IsAt (with_object k p (Some y)) number d j
    other_at d j a apart = record {
      place = a.place;
      object = a.object;
      at_place = there a.place (λ same. apart (sym a.numbered ∙ ap number same)) ∙ a.at_place;
      set_aside = a.set_aside;
      numbered = a.numbered;
    }

    pub was_other : (d j : ℕ) → IsAt (with_object k p (Some y)) number d j → j ≢ number p → IsAt k number d j
    was_other d j a apart = record {
      place = a.place;
      object = a.object;
      at_place = sym (there a.place (λ same. apart (sym a.numbered ∙ ap number same))) ∙ a.at_place;
      set_aside = a.set_aside;
      numbered = a.numbered;
    }

    pub new_at : (d : ℕ) → y.aside ≡ Some d → IsAt (with_object k p (Some y)) number d (number p)
    new_at d e = record { place = p; object = y; at_place = here p refl; set_aside = e; numbered = refl }

    -- the object of the number is at its place
    pub own_at : (d : ℕ) → IsAt k number d (number p) → x.aside ≡ Some d
    own_at d a =
        let same : a.place ≡ p = stand.apart a.place p a.object x a.at_place at a.numbered in
        let both : Some a.object ≡ Some x = sym a.at_place ∙ ap (object_at k) same ∙ at in
        let one : a.object ≡ x = cc in
        sym (ap (λ (z : Object). z.aside) one) ∙ a.set_aside

    pub own_now : (d : ℕ) → IsAt (with_object k p (Some y)) number d (number p) → y.aside ≡ Some d
    own_now d a =
        let was = was_there a.place a.object a.at_place in
        let same : a.place ≡ p = stand.apart a.place p was.0 x was.1 at a.numbered in
        let both : Some y ≡ Some a.object = sym (here a.place same) ∙ a.at_place in
        let one : y ≡ a.object = cc in
        ap (λ (z : Object). z.aside) one ∙ a.set_aside
