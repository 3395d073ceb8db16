-- The chunks that are held once a slot is given up.
use Rattle.std.proofs.Common.{◌≡◌, ◌∙◌, ℕ, ◌<◌, List, length, Bool, true, false, cond, Option, Some, None, refl, sym, ap, arith, get_or-set_same, length-set}
use Rattle.std.specs.List.{list_any}
use Rattle.std.specs.Option.{option_map_or}
use Rattle.std.specs.Prelude.{is_some, option_map, slice_get, slice_set, unwrap_or}
use Rattle.std.proofs.lemmas.Option.{unwrap_or-slice_get}
use Rattle.cache_base.specs.declared.limits.TheConstants.{SLOTS}
use Rattle.chunk_cache.specs.Cached.{without_entry}
use Rattle.file_handles.specs.Closing.{chunks_closed, chunks_left, without_object}
use Rattle.handle_table.specs.Seats.{is_use_of}
use Rattle.handle_table.specs.HeldChunks.{SameChunks}
use Rattle.handle_table.specs.Kept.{Kept, number_at, object_at, use_at, with_object, with_use}
use Rattle.handle_table.specs.declared.object.Object.{Object}
use Rattle.handle_table.specs.declared.object.Use.{Use}
use Rattle.handle_table.proofs.KeptLaws.{object_set_here, place_within}

-- a slot that is given up is not in use
pub given_up : (k : Kept) (slot s : ℕ) → s ≡ slot → slot < length k.slots → use_at (with_use k s None) slot ≡ None
given_up k slot s same within =
    ap (λ t. use_at (with_use k t None) slot) same ∙ unwrap_or-slice_get (slice_set k.slots slot None) slot None ∙ get_or-set_same k.slots slot None None within

-- the table has a row for each slot
pub slot_there : (k : Kept) (slot s : ℕ) → slot < SLOTS → length (slice_set k.slots s None) ≡ SLOTS → slot < length k.slots
slot_there k slot s small room = let same = length-set k.slots s None in omega (arith, small, room, same)

-- an object that is put where one was keeps its number
pub same_number : (k after : Kept) (p : ℕ) (x y : Object) → object_at k p ≡ Some x → after ≡ with_object k p (Some y) → y.number ≡ x.number → number_at after p ≡ number_at k p
same_number k after p x y at put numbered =
    ap (λ j. number_at j p) put
    ∙ ap (λ o. option_map (λ (z : Object). z.number) o) (object_set_here k p p (Some y) (place_within k p x at) refl)
    ∙ ap (λ (n : ℕ). Some n) numbered
    ∙ sym (ap (λ o. option_map (λ (z : Object). z.number) o) at)

-- The chunks once a slot has left its place.
module _ (k : Kept) (slot s place : ℕ) (same : s ≡ slot) where
  others_are : (b : Bool) → list_any (is_use_of place) (slice_set k.slots s None) ≡ b → list_any (is_use_of place) (slice_set k.slots slot None) ≡ b
  others_are b is = ap (λ t. list_any (is_use_of place) (slice_set k.slots t None)) (sym same) ∙ is

  pub left_shared : list_any (is_use_of place) (slice_set k.slots s None) ≡ true → k.chunks ≡ chunks_left k slot place
  left_shared used = sym (ap (λ b. cond b k.chunks (without_object (number_at k place) k.chunks)) (others_are true used))

  pub left_last : list_any (is_use_of place) (slice_set k.slots s None) ≡ false → (x : Object) → object_at k place ≡ Some x → without_entry x.number k.chunks ≡ chunks_left k slot place
  left_last free x at =
      sym (ap (λ b. cond b k.chunks (without_object (number_at k place) k.chunks)) (others_are false free)
      ∙ ap (λ o. without_object (option_map (λ (z : Object). z.number) o) k.chunks) at)

-- Before a slot is given up no chunk goes.

nothing_closed : (k : Kept) (slot : ℕ) (o : Option Use) → k.chunks ≡ cond (is_some o) k.chunks (option_map_or (λ u. chunks_left k slot u.place) o k.chunks)
nothing_closed k slot None = refl
nothing_closed k slot (Some u) = refl

pub unclosed : (k after : Kept) (slot : ℕ) → after.slots ≡ k.slots → SameChunks k after → after.chunks ≡ cond (is_some (use_at after slot)) k.chunks (chunks_closed k slot)
unclosed k after slot slots chunks =
    chunks ∙ nothing_closed k slot (use_at k slot)
    ∙ sym (ap (λ (uses : List (Option Use)). cond (is_some (unwrap_or (slice_get uses slot) None)) k.chunks (chunks_closed k slot)) slots)

-- And then those of its object go, if it was the last slot that used it.
pub closed : (k mid after : Kept) (slot : ℕ) (u : Use) → use_at k slot ≡ Some u → mid.slots ≡ k.slots → number_at mid u.place ≡ number_at k u.place → SameChunks k mid
    → use_at after slot ≡ None → after.chunks ≡ chunks_left mid slot u.place → after.chunks ≡ cond (is_some (use_at after slot)) k.chunks (chunks_closed k slot)
closed k mid after slot u used slots numbered chunks none left =
    left
    ∙ (λ i. cond (list_any (is_use_of u.place) (slice_set (slots i) slot None)) (chunks i) (without_object (numbered i) (chunks i)))
    ∙ sym (ap (λ (o : Option Use). option_map_or (λ u. chunks_left k slot u.place) o k.chunks) used)
    ∙ sym (ap (λ (o : Option Use). cond (is_some o) k.chunks (chunks_closed k slot)) none)
