-- A slot that begins to use an object, and the place that is free.
use Rattle.std.proofs.Common.{◌≡◌, ◌∙◌, ℕ, ◌<◌, ◌+◌, Bool, true, List, length, Option, Some, None, get_or, refl, sym, ap}
use Rattle.std.specs.List.{position}
use Rattle.std.specs.Prelude.{Ok, is_none, slice_set}
use Rattle.std.proofs.lemmas.List.Quantifiers.{position-Some}
use Rattle.std.proofs.lemmas.Option.{unwrap_or-slice_get}
use Rattle.cache_base.specs.declared.limits.TheConstants.{SLOTS}
use Rattle.handle_table.specs.Finding.{is_free}
use Rattle.handle_table.specs.Joining.{AddsOrIsFull, JoinsAt}
use Rattle.handle_table.specs.Kept.{Kept, object_at, with_object, with_use}
use Rattle.handle_table.specs.declared.object.Object.{Object}
use Rattle.handle_table.specs.declared.object.Use.{Use}

pub joins_at : (slot s : ℕ) (k : Kept) (u : Use) {place : ℕ} {writes : Bool} → u.place ≡ place → u.writes ≡ writes → s ≡ slot → JoinsAt slot place writes k (record k { slots = slice_set k.slots s (Some u) })
joins_at slot s k u placed writing same = record { use_ = u; placed = placed; writing = writing; same = ap (λ t. with_use k t (Some u)) same }

-- the place that is free
pub free_is_none : (k : Kept) (p : ℕ) → position is_free k.objects ≡ Some p → object_at k p ≡ None
free_is_none k p is = go (object_at k p) refl
  where
    here : is_none (get_or k.objects p None) ≡ true
    here = (position-Some is_free k.objects p None is).1

    go : (o : Option Object) → object_at k p ≡ o → o ≡ None
    go None at = refl
    go (Some x) at = absurd (let e : get_or k.objects p None ≡ Some x = sym (unwrap_or-slice_get k.objects p None) ∙ at in let n = sym (ap (λ (o : Option Object). is_none o) e) ∙ here in cc)

-- a place that a search found is one of the list
pub found_within : (test : Option Object → Bool) (objects : List (Option Object)) (p : ℕ) → position test objects ≡ Some p → p < length objects
found_within test objects p is = (position-Some test objects p None is).0

-- an object that is put at the place that was found free, for a slot that has joined it
pub added : (slot : ℕ) (x : Object) (writes : Bool) (before joined after : Kept) (made p : ℕ) → made ≡ before.made + 1 → p < SLOTS → position is_free before.objects ≡ Some p → x.number ≡ before.made
    → JoinsAt slot p writes (record before { made = made }) joined → after ≡ with_object joined p (Some x)
    → {E : Type 0} → AddsOrIsFull {E = E} slot x writes (Ok tt) before after
added slot x writes before joined after made p more ranged found numbered joins put = record {
  added = record {
    place = p;
    ranged = ranged;
    free = free_is_none before p found;
    numbered = numbered;
    joins = record {
      use_ = joins.use_;
      placed = joins.placed;
      writing = joins.writing;
      same = put ∙ ap (λ k. with_object k p (Some x)) joins.same ∙ ap (λ n. record (with_use (with_object before p (Some x)) slot (Some joins.use_)) { made = n }) more;
    };
  };
  all_made = tt;
}
