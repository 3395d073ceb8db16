-- Where the undoomed object in use of a name is.
use Rattle.std.proofs.Common.{◌≡◌, ◌≢◌, inl, inr, ℕ, ◌<◌, length, get_or, Bool, true, false, cond, Option, Some, None, IsSome, refl, sym, ap, subst, ◌∙◌, arith, ltb}
use Rattle.std.specs.List.{position, position_or_len}
use Rattle.std.specs.Prelude.{is_some, not, option_map}
use Rattle.std.specs.Str.{bytes_eq}
use Rattle.std.proofs.lemmas.Bool.{and_from, and_parts, cases_Bool, ltb-false, not-true}
use Rattle.std.proofs.lemmas.List.Sums.{fails_before_first}
use Rattle.std.proofs.lemmas.List.Quantifiers.{position-Some}
use Rattle.std.proofs.lemmas.Option.{unwrap_or-slice_get}
use Rattle.std.proofs.lemmas.Slice.Eq.{bytes_eq-Decides}
use Rattle.cache_base.specs.declared.name.Name.{Name}
use Rattle.cache_theory.specs.Machine.{Machine, object}
use Rattle.cache_theory.specs.Proper.{IsProper, IsUser}
use Rattle.cache_theory.specs.Table.{get}
use Rattle.cache_theory.proofs.Names.{same_bytes}
use Rattle.cache_theory.proofs.ObjectLaws.Slots.{same_use, slot_of as slot_with, use_of}
use Rattle.cache_theory.proofs.ObjectLaws.Users.{same_number}
use Rattle.entry_name.specs.EntryName.{file_name}
use Rattle.handle_table.specs.Finding.{is_user}
use Rattle.handle_table.specs.Kept.{Kept, object_at, use_at}
use Rattle.handle_table.specs.Standing.{HandlesStand, slot_of}
use Rattle.handle_table.specs.declared.object.Object.{Object}
use Rattle.handle_table.specs.declared.object.Use.{Use}
use Rattle.handle_table.proofs.KeptLaws.{place_within}

-- an undoomed object of the name is at the place
pub record IsUserAt (k : Kept) (name : Name) (p : ℕ) : Type 0 where
  pub object : Object
  pub ranged : p < length k.objects
  pub at_place : object_at k p ≡ Some object
  pub undoomed : object.doomed ≡ false
  pub named : object.name.0 ≡ name.0

pub no_one : {X : Type 0} (o : Option X) → is_some o ≡ false → o ≡ None
no_one None h = refl
no_one (Some x) h = cc

pub user_at : (k : Kept) (name : Name) (p : ℕ) (x : Option Object) → p < length k.objects → object_at k p ≡ x → is_user name x ≡ true → IsUserAt k name p
user_at k name p None lt at is = absurd (cc)
user_at k name p (Some x) lt at is =
    let parts = and_parts (not x.doomed) (bytes_eq x.name.0 name.0) is in
    record { object = x; ranged = lt; at_place = at; undoomed = not-true x.doomed parts.0; named = same_bytes x.name.0 name.0 parts.1 }

-- where the search for it ends it is
pub user_found : (k : Kept) (name : Name) (p : ℕ) → position (is_user name) k.objects ≡ Some p → IsUserAt k name p
user_found k name p is =
    let here = position-Some (is_user name) k.objects p None is in
    user_at k name p (get_or k.objects p None) here.0 (unwrap_or-slice_get k.objects p None) here.1

pub user_is_there : (k : Kept) (name : Name) (p : ℕ) → position (is_user name) k.objects ≡ Some p → IsSome (object_at k p)
user_is_there k name p is = subst IsSome (sym (user_found k name p is).at_place) refl

passes : (k : Kept) (name : Name) (p : ℕ) → IsUserAt k name p → is_user name (get_or k.objects p None) ≡ true
passes k name p there =
    ap (is_user name) (sym (unwrap_or-slice_get k.objects p None) ∙ there.at_place)
    ∙ and_from (not there.object.doomed) (bytes_eq there.object.name.0 name.0) (ap not there.undoomed) ((bytes_eq-Decides there.object.name.0 name.0).1 there.named)

-- and it ends at one, where there is one
pub user_somewhere : (k : Kept) (name : Name) (p : ℕ) → IsUserAt k name p → position (is_user name) k.objects ≢ None
user_somewhere k name p there none = elim (cases_Bool (ltb (position_or_len (is_user name) k.objects) (length k.objects))) [
  | inl found ↦ let some : None ≡ Some (position_or_len (is_user name) k.objects) = sym none ∙ ap (λ b. cond b (Some (position_or_len (is_user name) k.objects)) None) found in cc
  | inr past ↦
      let lt = there.ranged in
      let le = ltb-false (position_or_len (is_user name) k.objects) (length k.objects) past in
      let fails = fails_before_first (is_user name) k.objects p None (omega (arith, lt, le)) in
      let never : false ≡ true = sym fails ∙ passes k name p there in
      cc
]

module _ (k : Kept) (m : Machine) (number : ℕ → ℕ) (proper : IsProper m) (stand : HandlesStand k m number) where
  -- the object there is the machine's in use under the name
  pub user_there : (name : Name) (p : ℕ) → IsUserAt k name p → get m.in_use name.0 ≡ Some (number p)
  user_there name p there =
      let is = stand.objects p there.object there.at_place in
      proper.only_user name.0 (number p) (record {
        in_use = is.in_use;
        undoomed = sym is.as_held.doomed ∙ there.undoomed;
        named = sym is.as_held.named ∙ there.named;
      })

  at_use : (name : Name) (i : ℕ) (u : Use) (x : Option Object) → IsUser m name.0 i → number u.place ≡ i → object_at k u.place ≡ x → IsSome x → (p : ℕ) × (IsUserAt k name p × (number p ≡ i))
  at_use name i u None used same at some = absurd (cc)
  at_use name i u (Some x) used same at some =
      let is = (stand.objects u.place x at).as_held in
      let there : IsUserAt k name u.place = record {
        object = x;
        ranged = place_within k u.place x at;
        at_place = at;
        undoomed = is.doomed ∙ ap (λ j. (object m j).doomed) same ∙ used.undoomed;
        named = is.named ∙ ap (λ j. file_name (object m j).version.key) same ∙ used.named;
      } in
      (u.place, (there, same))

  of_slot : (name : Name) (i s : ℕ) (w : Bool) (u : Option Use) → IsUser m name.0 i → use_at k s ≡ u → option_map (slot_of number) u ≡ use_of i w → (p : ℕ) × (IsUserAt k name p × (number p ≡ i))
  of_slot name i s w None used at is = absurd (let never : None ≡ use_of i w = is in cc)
  of_slot name i s w (Some u) used at is = at_use name i u (object_at k u.place) used (same_use (number u.place) i u.writes w is).0 refl (stand.used s u at)

  -- the machine's is somewhere
  pub user_of : (name : Name) (i : ℕ) → get m.in_use name.0 ≡ Some i → (p : ℕ) × (IsUserAt k name p × (number p ≡ i))
  user_of name i at =
      let used = proper.user name.0 i at in
      let slot = slot_with m i used.in_use.slots in
      of_slot name i slot.slot slot.writes (use_at k slot.slot) used refl (sym (stand.slots slot.slot slot.small) ∙ slot.at)

  -- the search ends at the machine's, and at none where the machine has none
  pub user_is_used : (name : Name) (p : ℕ) → position (is_user name) k.objects ≡ Some p → get m.in_use name.0 ≡ Some (number p)
  user_is_used name p is = user_there name p (user_found k name p is)

  pub no_user_there : (name : Name) → position (is_user name) k.objects ≡ None → get m.in_use name.0 ≡ None
  no_user_there name none = go (get m.in_use name.0) refl
    where
      go : (o : Option ℕ) → get m.in_use name.0 ≡ o → o ≡ None
      go None at = refl
      go (Some i) at = let there = user_of name i at in absurd (user_somewhere k name there.0 there.1.0 none)

  pub used_is_user : (name : Name) (i : ℕ) → get m.in_use name.0 ≡ Some i → (p : ℕ) × ((position (is_user name) k.objects ≡ Some p) × (number p ≡ i))
  used_is_user name i at = go (position (is_user name) k.objects) refl
    where
      go : (o : Option ℕ) → position (is_user name) k.objects ≡ o → (p : ℕ) × ((o ≡ Some p) × (number p ≡ i))
      go None is = absurd (let never : Some i ≡ None = sym at ∙ no_user_there name is in cc)
      go (Some p) is = (p, (refl, same_number (number p) i (sym (user_is_used name p is) ∙ at)))
