-- How a slot begins to use an object.
use Rattle.std.specs.Prelude.{Bool, None, OnErr, OnOk, Result, Some, ℕ, ◌-◌, ◌<◌, ◌^◌, ◌≡◌}
use Rattle.cache_base.specs.declared.limits.TheConstants.{SLOTS}
use Rattle.handle_table.specs.Kept.{Kept, object_at, with_new, with_use}
use Rattle.handle_table.specs.declared.object.Object.{Object}
use Rattle.handle_table.specs.declared.object.Use.{Use}

-- the slot has this use now
pub record JoinsAt (slot place : ℕ) (writes : Bool) (before after : Kept) : Type 0 where
  pub use_ : Use
  pub placed : use_.place ≡ place
  pub writing : use_.writes ≡ writes
  pub same : after ≡ with_use before slot (Some use_)

-- the object is at a place that was free, and the slot uses it
pub record AddsObject (slot : ℕ) (object : Object) (writes : Bool) (before after : Kept)
    : Type 0 where
  pub place : ℕ
  pub ranged : place < SLOTS
  pub free : object_at before place ≡ None
  pub numbered : object.number ≡ before.made
  pub joins : JoinsAt slot place writes (with_new before place object) after

-- after an Ok the object is added; it is not only where so many objects were made that there is no number for one more
pub record AddsOrIsFull {E : Type 0} (slot : ℕ) (object : Object) (writes : Bool)
    (answer : Result (Unit {0}) E) (before after : Kept) : Type 0 where
  pub added : OnOk answer (AddsObject slot object writes before after)
  pub all_made : OnErr answer (before.made ≡ 2 ^ 64 - 1)
