-- The objects of the handles by their places, after one of them is set.
use Rattle.std.proofs.Common.{◌≡◌, ◌≢◌, ℕ, ◌<◌, length, Option, Some, None, refl, sym, ap, ◌∙◌, get_or-set_same, get_or-set_other}
use Rattle.std.specs.Prelude.{slice_get, slice_set, unwrap_or}
use Rattle.std.proofs.lemmas.Option.{slice_get_within, unwrap_or-slice_get}
use Rattle.handle_table.specs.Kept.{Kept, object_at, with_object}
use Rattle.handle_table.specs.declared.object.Object.{Object}

-- an object is at a place of the table
pub place_within : (k : Kept) (p : ℕ) (x : Object) → object_at k p ≡ Some x → p < length k.objects
place_within k p x at = go (slice_get k.objects p) refl
  where
    go : (o : Option (Option Object)) → slice_get k.objects p ≡ o → p < length k.objects
    go None none = absurd (let both : None ≡ Some x = ap (λ (o : Option (Option Object)). unwrap_or o None) (sym none) ∙ at in cc)
    go (Some y) some = slice_get_within k.objects p y some

pub object_set_here : (k : Kept) (p q : ℕ) (x : Option Object) → p < length k.objects → q ≡ p → object_at (with_object k p x) q ≡ x
object_set_here k p q x within same = ap (object_at (with_object k p x)) same ∙ unwrap_or-slice_get (slice_set k.objects p x) p None ∙ get_or-set_same k.objects p x None within

pub object_set_other : (k : Kept) (p q : ℕ) (x : Option Object) → q ≢ p → object_at (with_object k p x) q ≡ object_at k q
object_set_other k p q x apart = unwrap_or-slice_get (slice_set k.objects p x) q None ∙ get_or-set_other k.objects p q x None apart ∙ sym (unwrap_or-slice_get k.objects q None)
