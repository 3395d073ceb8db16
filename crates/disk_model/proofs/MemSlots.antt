-- The names in a map of slots, one of which is changed.
use Rattle.std.proofs.Common.{◌≡◌, ◌⊎◌, inl, inr, ⊎_elim, ℕ, suc, ◌+◌, ◌<◌, ◌≤◌, List, ◌∷◌, length, drop, get_or, Bool, true, false, Option, Some, None, IsSome, if◌then◌else◌, refl, sym, ◌∙◌, ap, subst, arith}
use Rattle.std.proofs.Math.Seq.{drop-cons}
use Rattle.std.proofs.lemmas.List.{drop_all}
use Rattle.std.specs.BTreeMap.{Updates}
use Rattle.disk_theory.specs.declared.place.Place.{Place}
use Rattle.disk_theory.specs.contracts.place.PlaceOrd.TheImpl as place_ord
use Rattle.disk_theory.specs.Place.{is_same}
use Rattle.disk_theory.specs.State.{Names, with_name}
use Rattle.disk_model.specs.MemSlots.{Slots, slot_at, now_of, synced_of, names_in, synced_names_in, HasSlot, SameNames, IsNamedBy, AreSettled}
use Rattle.disk_model.specs.declared.mem_slots.Slot.{Slot}
use Rattle.disk_theory.specs.declared.place.NameStep.{NameStep}
use Rattle.disk_theory.proofs.Places.{same_test, one_same, never}

-- equal at each place
pub names_from : (f g : Names) → ((p : Place) → f p ≡ g p) → f ≡ g
names_from f g same = λ i p. same p i

pub with_name-same : (p : Place) (names : Names) → with_name p (names p) names ≡ names
with_name-same p names = names_from _ _ each
  where
    each : (q : Place) → with_name p (names p) names q ≡ names q
    each q = go (is_same q p) refl
      where
        go : (same : Bool) → is_same q p ≡ same → (if same then names p else names q) ≡ names q
        go true is = ap names (sym (one_same q p is))
        go false is = refl

-- another slot at one place
module _ (m n : Slots) (p : Place) (new : Slot) (put : Updates place_ord.ghosts.cmp m n p (Some new)) where
  pub slot_put : (q : Place) → slot_at n q ≡ (if is_same q p then Some new else slot_at m q)
  slot_put q = put.0 q ∙ ap (λ (b : Bool). if b then Some new else slot_at m q) (same_test p q)

  pub now_put : names_in n ≡ with_name p new.now (names_in m)
  now_put = names_from _ _ each
    where
      each : (q : Place) → names_in n q ≡ with_name p new.now (names_in m) q
      each q = ap now_of (slot_put q) ∙ go (is_same q p)
        where
          go : (same : Bool) → now_of (if same then Some new else slot_at m q) ≡ (if same then new.now else now_of (slot_at m q))
          go true = refl
          go false = refl

  pub synced_put : synced_names_in n ≡ with_name p new.synced (synced_names_in m)
  synced_put = names_from _ _ each
    where
      each : (q : Place) → synced_names_in n q ≡ with_name p new.synced (synced_names_in m) q
      each q = ap synced_of (slot_put q) ∙ go (is_same q p)
        where
          go : (same : Bool) → synced_of (if same then Some new else slot_at m q) ≡ (if same then new.synced else synced_of (slot_at m q))
          go true = refl
          go false = refl

  -- what stands there is as before
  pub now_kept : new.now ≡ now_of (slot_at m p) → names_in n ≡ names_in m
  now_kept is = now_put ∙ ap (λ file. with_name p file (names_in m)) is ∙ with_name-same p (names_in m)

  pub synced_kept : new.synced ≡ synced_of (slot_at m p) → synced_names_in n ≡ synced_names_in m
  synced_kept is = synced_put ∙ ap (λ file. with_name p file (synced_names_in m)) is ∙ with_name-same p (synced_names_in m)

  pub has_kept : (q : Place) → HasSlot m q → HasSlot n q
  has_kept q has = subst IsSome (sym (slot_put q)) (go (is_same q p))
    where
      go : (same : Bool) → IsSome (if same then Some new else slot_at m q)
      go true = refl
      go false = has

-- where there is no slot, nothing is settled
pub nothing_settled : (m n : Slots) (p : Place) → n ≡ m → slot_at m p ≡ None → synced_names_in n ≡ with_name p (names_in m p) (synced_names_in m)
nothing_settled m n p same none =
    ap synced_names_in same
    ∙ sym (with_name-same p (synced_names_in m))
    ∙ ap (λ file. with_name p file (synced_names_in m)) (ap synced_of none ∙ sym (ap now_of none))

pub none_stands : (file : Option ℕ) → file ≡ None → IsSome file → ⊥
none_stands None is some = cc
none_stands (Some f) is some = cc

-- a new slot in which no file stands
pub new_slot : (m n : Slots) (p : Place) → Updates place_ord.ghosts.cmp m n p (Some (record { synced = None; now = None })) → slot_at m p ≡ None → SameNames m n
new_slot m n p put none = record {
  current = now_kept m n p (record { synced = None; now = None }) put (sym (ap now_of none));
  synced = synced_kept m n p (record { synced = None; now = None }) put (sym (ap synced_of none));
}

-- after a place was settled
pub settled_at : (m n : Slots) (p q : Place) → synced_names_in n ≡ with_name p (names_in m p) (synced_names_in m)
    → (synced_names_in n q ≡ names_in m q) ⊎ ((synced_names_in n q ≡ synced_names_in m q) × (q ≡ p → ⊥))
settled_at m n p q is = go (is_same q p) refl
  where
    go : (same : Bool) → is_same q p ≡ same → (synced_names_in n q ≡ names_in m q) ⊎ ((synced_names_in n q ≡ synced_names_in m q) × (q ≡ p → ⊥))
    go true same =
        inl (ap (λ (names : Names). names q) is ∙ ap (λ (b : Bool). if b then names_in m p else synced_names_in m q) same ∙ ap (names_in m) (sym (one_same q p same)))
    go false apart =
        inr (ap (λ (names : Names). names q) is ∙ ap (λ (b : Bool). if b then names_in m p else synced_names_in m q) apart, λ e. never p q e apart)

-- after both places of a move were
pub both_settled : (m n o : Slots) (from to q : Place) → names_in n ≡ names_in m
    → synced_names_in n ≡ with_name from (names_in m from) (synced_names_in m) → synced_names_in o ≡ with_name to (names_in n to) (synced_names_in n)
    → (synced_names_in o q ≡ names_in m q) ⊎ ((synced_names_in o q ≡ synced_names_in m q) × ((q ≡ from) ⊎ (q ≡ to) → ⊥))
both_settled m n o from to q same one two =
    elim (settled_at n o to q two) [
      | inl here ↦ inl (here ∙ ap (λ (names : Names). names q) same)
      | inr kept ↦ elim (settled_at m n from q one) [
        | inl here ↦ inl (kept.0 ∙ here)
        | inr both ↦ inr (kept.0 ∙ both.0, λ is. ⊎_elim both.1 kept.1 is)
      ]
    ]

-- one step of the loop
pub more_settled : (m n : Slots) (rest : List NameStep) (step : NameStep) → names_in n ≡ names_in m → AreSettled m n step
    → ((p : Place) → IsNamedBy p (step ∷ rest) ⊎ (synced_names_in m p ≡ names_in m p)) → (p : Place) → IsNamedBy p rest ⊎ (synced_names_in n p ≡ names_in n p)
more_settled m n rest step same settled before p =
    let now : names_in m p ≡ names_in n p = ap (λ (names : Names). names p) (sym same) in
    elim (settled p) [
      | inl here ↦ inr (here ∙ now)
      | inr kept ↦ elim (before p) [
        | inl named ↦ elim named [ inl this ↦ absurd (kept.1 this) | inr later ↦ inl later ]
        | inr done ↦ inr (kept.0 ∙ done ∙ now)
      ]
    ]

pub loop_settled : (m n : Slots) (steps : List NameStep) (i : ℕ) (d : NameStep) → i < length steps → names_in n ≡ names_in m → AreSettled m n (get_or steps i d)
    → ((p : Place) → IsNamedBy p (drop i steps) ⊎ (synced_names_in m p ≡ names_in m p)) → (p : Place) → IsNamedBy p (drop (i + 1) steps) ⊎ (synced_names_in n p ≡ names_in n p)
loop_settled m n steps i d lt same settled before =
    let cut : drop i steps ≡ get_or steps i d ∷ drop (i + 1) steps = drop-cons steps i d lt ∙ ap (λ j. get_or steps i d ∷ drop j steps) (let one : suc i ≡ i + 1 = omega arith in one) in
    more_settled m n (drop (i + 1) steps) (get_or steps i d) same settled
    (subst (λ (rest : List NameStep). (p : Place) → IsNamedBy p rest ⊎ (synced_names_in m p ≡ names_in m p)) cut before)

-- after the loop
pub all_settled : (m : Slots) (steps : List NameStep) (i : ℕ) → length steps ≤ i
    → ((p : Place) → IsNamedBy p (drop i steps) ⊎ (synced_names_in m p ≡ names_in m p)) → synced_names_in m ≡ names_in m
all_settled m steps i le done = names_from _ _ each
  where
    each : (p : Place) → synced_names_in m p ≡ names_in m p
    each p = elim (done p) [ inl named ↦ absurd (subst (IsNamedBy p) (drop_all i steps le) named) | inr same ↦ same ]
