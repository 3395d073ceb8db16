-- Where no slot uses the undoomed entry of a name, none is in use.
use Rattle.std.proofs.Common.{◌≡◌, ℕ, List, [], ◌∷◌, length, filter, Bool, true, false, cond, Option, Some, None, refl, sym, ap, ◌∙◌, arith}
use Rattle.std.specs.Prelude.{option_map, ◌||◌}
use Rattle.std.specs.List.{list_any, position}
use Rattle.std.proofs.lemmas.Bool.{eq-eqb}
use Rattle.std.proofs.lemmas.List.Folds.{list_any_at}
use Rattle.std.proofs.lemmas.Option.{unwrap_or-slice_get}
use Rattle.cache_base.specs.declared.name.Name.{Name}
use Rattle.cache_theory.specs.Machine.{Machine}
use Rattle.cache_theory.specs.Proper.{IsProper}
use Rattle.cache_theory.proofs.ObjectLaws.Slots.{HasSlot, same_use, slot_of as slot_with, use_of}
use Rattle.handle_table.specs.Seats.{is_use_of}
use Rattle.handle_table.specs.Finding.{is_user}
use Rattle.handle_table.specs.Kept.{Kept, object_at, use_at}
use Rattle.handle_table.specs.Standing.{HandlesStand, slot_of}
use Rattle.handle_table.specs.Users.{users_at, users_of}
use Rattle.handle_table.specs.declared.object.Object.{Object}
use Rattle.handle_table.specs.declared.object.Use.{Use}
use Rattle.handle_table.proofs.Released.{some_object, use_within}
use Rattle.handle_table.proofs.User.{user_found}

-- what some items pass has a length
some_pass : {X : Type 0} (p : X → Bool) (xs : List X) → list_any p xs ≡ true → length (filter p xs) ≡ 0 → ⊥
some_pass p [] any none = cc
some_pass p (x ∷ xs) any none = go (p x) any none (some_pass p xs)
  where
    go : (b : Bool) → (b || list_any p xs) ≡ true → length (cond b (x ∷ filter p xs) (filter p xs)) ≡ 0
        → (list_any p xs ≡ true → length (filter p xs) ≡ 0 → ⊥) → ⊥
    go true any none more = absurd (omega (arith, none))
    go false any none more = more any none

module _ (k : Kept) (m : Machine) (number : ℕ → ℕ) (proper : IsProper m) (stand : HandlesStand k m number) where
  -- a place with an object has a use
  place_used : (p : ℕ) (x : Object) → object_at k p ≡ Some x → list_any (is_use_of p) k.slots ≡ true
  place_used p x at = go (use_at k has.slot) refl
    where
      has : HasSlot m.slots (number p)
      has = slot_with m (number p) (stand.objects p x at).in_use.slots

      go : (o : Option Use) → use_at k has.slot ≡ o → list_any (is_use_of p) k.slots ≡ true
      go None none = absurd (let never : None ≡ use_of (number p) has.writes = sym (ap (option_map (slot_of number)) none) ∙ sym (stand.slots has.slot has.small) ∙ has.at in cc)
      go (Some u) used =
          let same : number u.place ≡ number p =
          (same_use (number u.place) (number p) u.writes has.writes (sym (ap (option_map (slot_of number)) used) ∙ sym (stand.slots has.slot has.small) ∙ has.at)).0 in
          let there = some_object (object_at k u.place) (stand.used has.slot u used) in
          let one : u.place ≡ p = stand.apart u.place p there.0 x there.1 at same in
          list_any_at (is_use_of p) k.slots has.slot None (use_within k has.slot u used)
          (ap (is_use_of p) (sym (unwrap_or-slice_get k.slots has.slot None) ∙ used) ∙ eq-eqb u.place p one)

  pub unused_none : (name : Name) → users_of k name ≡ 0 → position (is_user name) k.objects ≡ None
  unused_none name unused = go (position (is_user name) k.objects) refl unused
    where
      go : (o : Option ℕ) → position (is_user name) k.objects ≡ o → users_at k o ≡ 0 → o ≡ None
      go None at none = refl
      go (Some p) at none =
          let there = user_found k name p at in
          absurd (some_pass (is_use_of p) k.slots (place_used p there.object there.at_place) none)
