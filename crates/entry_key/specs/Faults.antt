-- Faults of a key: what is wrong after the tags that can be read. Places count from 0.
use Rattle.std.specs.Prelude.{ℕ, ◌≡◌, ◌≢◌, ◌+◌, ◌<◌, ◌≤◌, true, false, List, [], ◌∷◌, ◌++◌, length, slice_index}
use Rattle.entry_key.specs.declared.key_fault.KeyFault.{KeyFault}
use Rattle.entry_key.specs.declared.key_fault.KeyFault.TheVariants.{NoAddress, NoComma, Order}
use Rattle.entry_key.specs.Key.{Tag, MayFollow, doubled, is_bare, tag_bytes}

-- in these bytes after a letter, from the place `at` on, no comma ends its value, and `place` is where one lacks
pub record LacksComma (letter at : ℕ) (rest : List ℕ) (place : ℕ) : Type 0 where
  pub bare : is_bare letter ≡ true → (slice_index rest 0 ≢ 44) × (place ≡ at)
  pub other : is_bare letter ≡ false
      → (value : List ℕ) × (rest ≡ doubled value) × (place ≡ at + length rest)

-- a letter above `last` is due at the place `at`, and these bytes have the fault there
abbrev pub FaultAt : ℕ → ℕ → List ℕ → KeyFault → Type 0
FaultAt last at bytes NoAddress = bytes ≡ []
FaultAt last at bytes (Order place) = (x : ℕ) × (rest : List ℕ) × (bytes ≡ x ∷ rest) × (x ≢ 58) × (x ≤ last) × (place ≡ at)
FaultAt last at bytes (NoComma place) =
    (x : ℕ) × (rest : List ℕ) × (bytes ≡ x ∷ rest) × (x ≢ 58) × (last < x) × LacksComma x (at + 1) rest place

-- a tag's comma has no second one after it, which would make it a part of the value
abbrev pub EndsTag : Tag → List ℕ → Type 0
EndsTag t rest = is_bare t.letter ≡ false → slice_index rest 0 ≢ 44

-- from the place `at` on these bytes begin with these tags, with letters above `last`, and have the fault after them
abbrev pub FaultAbove : ℕ → ℕ → List ℕ → List Tag → KeyFault → Type 0
FaultAbove last at bytes [] f = FaultAt last at bytes f
FaultAbove last at bytes (t ∷ tags) f =
    MayFollow last t
    × ((rest : List ℕ) × (bytes ≡ tag_bytes t ++ rest) × EndsTag t rest × FaultAbove t.letter (at + length (tag_bytes t)) rest tags f)

-- the key has this fault
abbrev pub HasFault : List ℕ → KeyFault → Type 0
HasFault key f = (tags : List Tag) × FaultAbove 44 0 key tags f
