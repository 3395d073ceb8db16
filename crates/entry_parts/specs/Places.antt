-- Where an element stands in the bytes of elements.
use Rattle.std.specs.Prelude.{ℕ, ◌≡◌, ◌≤◌, List, ◌++◌, length, take, drop, is_some, nat_lt}
use Rattle.entry_parts.specs.Elements.{element, element_bytes, elements_bytes, elements_of}
use Rattle.entry_parts.specs.Setting.{with_element, without_element}

-- from start to end stand the bytes of the first element of this name, or none at the end where no element has it
pub record IsPlace (name bytes : List ℕ) (start end : ℕ) : Type 0 where
  pub in_order : start ≤ end
  pub inside : end ≤ length bytes
  pub replaced : (value : List ℕ)
      → elements_bytes (with_element name value (elements_of bytes))
      ≡ take start bytes
      ++ (element_bytes (record { name = name; value = value }) ++ drop end bytes)
  pub removed : elements_bytes (without_element name (elements_of bytes))
      ≡ take start bytes ++ drop end bytes
  pub found : nat_lt start end ≡ is_some (element name (elements_of bytes))
