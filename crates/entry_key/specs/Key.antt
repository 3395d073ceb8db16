-- Keys: tags with rising letters, then a colon and the address. Bytes: 44 is the comma, 58 the colon.
use Rattle.std.specs.Prelude.{ℕ, ◌≡◌, ◌≢◌, ◌<◌, ◌==◌, Bool, true, ◌||◌, if◌then◌else◌, List, [], ◌∷◌, ◌++◌, flat_map}

-- a tag: its letter, and its value with single commas
pub record Tag : Type 0 where
  pub letter : ℕ
  pub value : List ℕ

-- a value as it is spelled, each comma doubled
abbrev pub doubled : List ℕ → List ℕ
doubled value = flat_map (λ x. if x == 44 then 44 ∷ 44 ∷ [] else x ∷ []) value

-- a tag's bytes
abbrev pub tag_bytes : Tag → List ℕ
tag_bytes t = t.letter ∷ doubled t.value ++ 44 ∷ []

-- whether a tag of this letter has an empty value: `a`, `b` and `p`
abbrev pub is_bare : ℕ → Bool
is_bare letter = letter == 97 || letter == 98 || letter == 112

-- a tag that may follow a tag of the letter `last`
pub record MayFollow (last : ℕ) (t : Tag) : Type 0 where
  pub rising : last < t.letter
  pub letter : t.letter ≢ 58
  pub bare : is_bare t.letter ≡ true → t.value ≡ []

-- these bytes read as these tags, with letters above `last`, and this address
abbrev pub KeyReadsAbove : ℕ → List ℕ → List Tag → List ℕ → Type 0
KeyReadsAbove last key [] address = key ≡ 58 ∷ address
KeyReadsAbove last key (t ∷ tags) address =
    MayFollow last t × ((rest : List ℕ) × (key ≡ tag_bytes t ++ rest) × KeyReadsAbove t.letter rest tags address)

-- the key reads as these tags and this address
abbrev pub KeyReads : List ℕ → List Tag → List ℕ → Type 0
KeyReads key tags address = KeyReadsAbove 44 key tags address
