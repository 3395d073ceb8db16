-- Elements: names with values, and the bytes that spell them.
use Rattle.std.specs.Prelude.{ℕ, ◌≡◌, ◌≢◌, ◌==◌, ◌-◌, ◌%◌, Bool, true, ◌&&◌, ◌||◌, if◌then◌else◌, List, [], ◌∷◌, ◌++◌, length, filter, find, flat_map, slice_index, Option, option_map}
use Rattle.std.specs.List.{AllByRecursion}
use Rattle.std.specs.Str.{bytes_eq}

-- a name and a value
pub record Element : Type 0 where
  pub name : List ℕ
  pub value : List ℕ

-- the bytes of an element: its name and its value, each with a zero byte after it
abbrev pub element_bytes : Element → List ℕ
element_bytes e = e.name ++ 0 ∷ (e.value ++ 0 ∷ [])

-- the bytes of elements, one after the other
abbrev pub elements_bytes : List Element → List ℕ
elements_bytes es = flat_map element_bytes es

-- no byte is zero
abbrev pub HasNoZero : List ℕ → Type 0
HasNoZero xs = AllByRecursion (λ x. x ≢ 0) xs

-- no name and no value has a zero byte
abbrev pub AreElements : List Element → Type 0
AreElements es = AllByRecursion (λ e. HasNoZero e.name × HasNoZero e.value) es

-- the bytes have the form of elements: they are empty, or the last is zero and the number of zeros is even
abbrev pub have_form : List ℕ → Bool
have_form xs = length xs == 0 || (slice_index xs (length xs - 1) == 0 && length (filter (λ x. x == 0) xs) % 2 == 0)

-- the byte x before the first field
abbrev pub onto_first : ℕ → List (List ℕ) → List (List ℕ)
onto_first x [] = []
onto_first x (field ∷ fields) = (x ∷ field) ∷ fields

-- the fields, each of which stands before a zero byte
abbrev pub fields_of : List ℕ → List (List ℕ)
fields_of [] = []
fields_of (x ∷ xs) = if x == 0 then [] ∷ fields_of xs else onto_first x (fields_of xs)

-- the fields two by two, as names and values
abbrev pub in_pairs : List (List ℕ) → List Element
in_pairs [] = []
in_pairs (name ∷ []) = []
in_pairs (name ∷ value ∷ rest) = record { name = name; value = value } ∷ in_pairs rest

-- the elements that the bytes spell
abbrev pub elements_of : List ℕ → List Element
elements_of xs = in_pairs (fields_of xs)

-- the value of the first element of this name, or none where no element has it
abbrev pub element : List ℕ → List Element → Option (List ℕ)
element name es = option_map (λ e. e.value) (find (λ e. bytes_eq e.name name) es)

-- elements that are written have the form, and are read back
abbrev pub ElementsReadBack : Type 0
ElementsReadBack = (es : List Element) → AreElements es → (have_form (elements_bytes es) ≡ true) × (elements_of (elements_bytes es) ≡ es)

-- bytes that have the form are the bytes of the elements in them
abbrev pub ElementsSpell : Type 0
ElementsSpell = (xs : List ℕ) → have_form xs ≡ true → AreElements (elements_of xs) × (elements_bytes (elements_of xs) ≡ xs)
