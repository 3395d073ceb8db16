-- Who is in use in a proper machine.
use Rattle.std.proofs.Common.{◌≡◌, ℕ, ◌≤◌, List, length, Bool, true, false, refl, Option, Some, None, sym, ap, subst, ◌∙◌, arith}
use Rattle.std.specs.Prelude.{IsSomeAnd}
use Rattle.cache_theory.specs.Machine.{Machine, Object, is_slot, is_writer, number_of, object}
use Rattle.cache_theory.specs.Proper.{IsInUse, IsProper, IsUser}
use Rattle.cache_theory.specs.Table.{get}
use Rattle.cache_theory.proofs.ObjectLaws.Slots.{HasSlot, has_slots_of, slot_at, slot_of, use_of}
use Rattle.entry_file.specs.Version.{IsFileOf}
use Rattle.entry_name.specs.EntryName.{file_name}

-- an object stays in use where it keeps a slot, and a user where it keeps its key too
pub in_use_along : (m t : Machine) (i : ℕ) → length m.objects ≤ length t.objects → (HasSlot m.slots i → HasSlot t.slots i) → IsInUse m i → IsInUse t i
in_use_along m t i long slots u = record { number = (let lt = u.number in omega (arith, lt, long)); slots = has_slots_of t i (slots (slot_of m i u.slots)) }

pub user_along : (m t : Machine) (name : List ℕ) (i : ℕ) → (IsInUse m i → IsInUse t i) → (object t i).doomed ≡ (object m i).doomed → (object t i).version.key ≡ (object m i).version.key → IsUser m name i → IsUser t name i
user_along m t name i along doomed key u = record { in_use = along u.in_use; undoomed = doomed ∙ u.undoomed; named = ap file_name key ∙ u.named }

-- a file of an object's version, under other names for both
pub has_along : {a b : Option (List ℕ)} {x y : Object} → a ≡ b → x ≡ y → IsSomeAnd a (IsFileOf x.version) → IsSomeAnd b (IsFileOf y.version)
has_along {a} {b} {x} {y} content same h = subst (λ (z : Object). IsSomeAnd b (IsFileOf z.version)) same (subst (λ c. IsSomeAnd c (IsFileOf x.version)) content h)

pub same_number : (i j : ℕ) → Some i ≡ Some j → i ≡ j
same_number i j e = cc

module _ (m : Machine) (proper : IsProper m) where
  -- one object under a name, and one name for an object
  pub user_is : (name : List ℕ) (i j : ℕ) → get m.in_use name ≡ Some i → IsUser m name j → j ≡ i
  user_is name i j at u = same_number j i (sym (proper.only_user name j u) ∙ at)

  pub one_name_of : (a b : List ℕ) (i : ℕ) → get m.in_use a ≡ Some i → get m.in_use b ≡ Some i → a ≡ b
  one_name_of a b i at_a at_b = sym (proper.user a i at_a).named ∙ (proper.user b i at_b).named

  pub name_of_user : (name : List ℕ) (i : ℕ) → get m.in_use name ≡ Some i → file_name (object m i).version.key ≡ name
  name_of_user name i at = (proper.user name i at).named

  pub no_user : (name : List ℕ) (i : ℕ) → get m.in_use name ≡ None → IsUser m name i → ⊥
  no_user name i none u = let some = proper.only_user name i u in cc

  -- the object of a slot is in use
  pub use_in_use : (s i : ℕ) (w : Bool) → m.slots s ≡ use_of i w → IsInUse m i
  use_in_use s i w at =
      let limits = proper.slots s (record { object = i; writes = w }) at in
      record { number = limits.1; slots = has_slots_of m i (record { slot = s; small = limits.0; writes = w; at = at }) }

  pub slot_in_use : (s : ℕ) → is_slot m s ≡ true → IsInUse m (number_of m s)
  slot_in_use s is = use_in_use s (number_of m s) (is_writer m s) (slot_at m s is)

  -- an undoomed object in use is the one under the name of its key
  pub undoomed_user : (i : ℕ) → IsInUse m i → (object m i).doomed ≡ false → get m.in_use (file_name (object m i).version.key) ≡ Some i
  undoomed_user i used undoomed = proper.only_user (file_name (object m i).version.key) i (record { in_use = used; undoomed = undoomed; named = refl })
