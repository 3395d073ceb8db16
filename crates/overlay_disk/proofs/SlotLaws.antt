-- What is known of places in a map of slots, one of which is changed.
use Rattle.std.proofs.Common.{◌≡◌, Bool, true, false, Some, IsSome, if◌then◌else◌, refl, sym, ◌∙◌, ap, subst}
use Rattle.std.specs.BTreeMap.{Updates}
use Rattle.disk_theory.specs.declared.place.Place.{Place}
use Rattle.disk_theory.specs.contracts.place.PlaceOrd.TheImpl as place_ord
use Rattle.disk_theory.specs.Place.{is_same}
use Rattle.disk_theory.proofs.Places.{same_test, one_same}
use Rattle.overlay_disk.specs.Seen.{Overs, Slots, slot_at, over_of, overs_in, with_over, HasSlot}
use Rattle.overlay_disk.specs.declared.over.Over.{Over}

-- equal at each place
pub overs_from : (f g : Overs) → ((p : Place) → f p ≡ g p) → f ≡ g
overs_from f g same = λ i p. same p i

pub with_over-same : (p : Place) (overs : Overs) → with_over p (overs p) overs ≡ overs
with_over-same p overs = overs_from _ _ each
  where
    each : (q : Place) → with_over p (overs p) overs q ≡ overs q
    each q = go (is_same q p) refl
      where
        go : (same : Bool) → is_same q p ≡ same → (if same then overs p else overs q) ≡ overs q
        go true is = ap overs (sym (one_same q p is))
        go false is = refl

-- of two at one place the second counts
pub with_over-twice : (p : Place) (first second : Over) (overs : Overs) → with_over p second (with_over p first overs) ≡ with_over p second overs
with_over-twice p first second overs = overs_from _ _ each
  where
    each : (q : Place) → with_over p second (with_over p first overs) q ≡ with_over p second overs q
    each q = go (is_same q p)
      where
        go : (same : Bool) → (if same then second else if same then first else overs q) ≡ (if same then second else overs q)
        go true = refl
        go false = refl

-- another slot at one place
module _ (m n : Slots) (p : Place) (new : Over) (put : Updates place_ord.ghosts.cmp m n p (Some new)) where
  pub slot_put : (q : Place) → slot_at n q ≡ (if is_same q p then Some new else slot_at m q)
  slot_put q = put.0 q ∙ ap (λ (b : Bool). if b then Some new else slot_at m q) (same_test p q)

  pub over_put : overs_in n ≡ with_over p new (overs_in m)
  over_put = overs_from _ _ each
    where
      each : (q : Place) → overs_in n q ≡ with_over p new (overs_in m) q
      each q = ap over_of (slot_put q) ∙ go (is_same q p)
        where
          go : (same : Bool) → over_of (if same then Some new else slot_at m q) ≡ (if same then new else over_of (slot_at m q))
          go true = refl
          go false = refl

  -- what is known there is as before
  pub over_kept : new ≡ over_of (slot_at m p) → overs_in n ≡ overs_in m
  over_kept is = over_put ∙ ap (λ over. with_over p over (overs_in m)) is ∙ with_over-same p (overs_in m)

  pub has_kept : (q : Place) → HasSlot m q → HasSlot n q
  has_kept q has = subst IsSome (sym (slot_put q)) (go (is_same q p))
    where
      go : (same : Bool) → IsSome (if same then Some new else slot_at m q)
      go true = refl
      go false = has
