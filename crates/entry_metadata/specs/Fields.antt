-- Numbers that fit their fields.
use Rattle.std.specs.Prelude.{ℕ, ◌<◌, ◌^◌, List}
use Rattle.std.specs.List.{AllByRecursion}
use Rattle.cache_base.specs.Bytes.{AreBytes}

-- each hash fits two bytes, and the key and the elements are bytes
pub record FieldsFit (hs k es : List ℕ) : Type 0 where
  pub hashes : AllByRecursion (λ h. h < 2 ^ 16) hs
  pub key : AreBytes k
  pub elements : AreBytes es
