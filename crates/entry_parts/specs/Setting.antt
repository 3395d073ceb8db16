-- Elements of which one is set or removed, and why one is not set.
use Rattle.std.specs.Prelude.{ℕ, ◌==◌, Bool, ◌&&◌, if◌then◌else◌, not, nat_le, nat_lt, List, [], ◌∷◌, length, Option}
use Rattle.std.specs.List.{list_any}
use Rattle.std.specs.Str.{bytes_eq}
use Rattle.cache_base.specs.Checks.{first_failing}
use Rattle.cache_base.specs.declared.limits.TheConstants.{ELEMENTS_MAX}
use Rattle.entry_parts.specs.Elements.{Element, elements_bytes}
use Rattle.entry_parts.specs.declared.fault.PartsFault.{PartsFault}
use Rattle.entry_parts.specs.declared.fault.PartsFault.TheVariants as bad

-- the elements with this value for the first of the name in its place, or after them where none has the name
abbrev pub with_element : List ℕ → List ℕ → List Element → List Element
with_element name value [] = record { name = name; value = value } ∷ []
with_element name value (e ∷ es) = if bytes_eq e.name name then record { name = name; value = value } ∷ es else e ∷ with_element name value es

-- the elements without the first of this name
abbrev pub without_element : List ℕ → List Element → List Element
without_element name [] = []
without_element name (e ∷ es) = if bytes_eq e.name name then es else e ∷ without_element name es

-- some byte is zero
abbrev pub has_zero : List ℕ → Bool
has_zero xs = list_any (λ x. x == 0) xs

-- the first failing check of a name and a value that are to be set: the name is not empty and has no zero byte, the
-- value has none, and the elements are not too large afterwards
abbrev pub set_fault : List ℕ → List ℕ → List Element → Option PartsFault
set_fault name value es = first_failing (
    (nat_lt 0 (length name) && not (has_zero name), bad.BadName)
    ∷ (not (has_zero value), bad.BadBytes)
    ∷ (nat_le (length (elements_bytes (with_element name value es))) ELEMENTS_MAX, bad.TooLarge)
    ∷ [])
