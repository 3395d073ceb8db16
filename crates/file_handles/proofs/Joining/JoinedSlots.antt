-- The uses of the slots, after one of them is set.
use Rattle.std.proofs.Common.{◌≡◌, ◌≢◌, ℕ, ◌<◌, length, Option, Some, None, sym, ap, ◌∙◌, get_or-set_same, get_or-set_other}
use Rattle.std.specs.Prelude.{option_map, slice_set, unwrap_or}
use Rattle.std.proofs.lemmas.Option.{unwrap_or-slice_get}
use Rattle.handle_table.specs.Kept.{Kept, use_at, with_use}
use Rattle.handle_table.specs.declared.object.Use.{Use}

pub use_set_here : (k : Kept) (s t : ℕ) (u : Option Use) → s < length k.slots → t ≡ s → use_at (with_use k s u) t ≡ u
use_set_here k s t u within same = ap (use_at (with_use k s u)) same ∙ unwrap_or-slice_get (slice_set k.slots s u) s None ∙ get_or-set_same k.slots s u None within

pub use_set_other : (k : Kept) (s t : ℕ) (u : Option Use) → t ≢ s → use_at (with_use k s u) t ≡ use_at k t
use_set_other k s t u apart = unwrap_or-slice_get (slice_set k.slots s u) t None ∙ get_or-set_other k.slots s t u None apart ∙ sym (unwrap_or-slice_get k.slots t None)

-- one use has one place
pub same_place : (u v : Use) → Some u ≡ Some v → u.place ≡ v.place
same_place u v same = ap (λ o. unwrap_or (option_map (λ (z : Use). z.place) o) 0) same
