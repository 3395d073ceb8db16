-- Alternative data after the main body of an entry, as the element `alt-data` tells of them.
use Rattle.std.specs.Prelude.{ℕ, ◌≡◌, ◌+◌, ◌<◌, ◌≤◌, ◌^◌, ◌==◌, ◌&&◌, Bool, true, not, if◌then◌else◌, nat_le, nat_lt, List, [], ◌∷◌, ◌++◌, length, take, drop, Option, None, Some, IfSome, option_map, option_and_then, codes, decimal}
use Rattle.std.specs.Str.{bytes_eq}
use Rattle.cache_base.specs.Numbers.{number_in}
use Rattle.entry_parts.specs.Elements.{Element, element}
use Rattle.entry_parts.specs.Setting.{has_zero, with_element}
use Rattle.alt_data.specs.declared.element.AltInfo.{AltInfo}

-- where alternative data begin, and of which kind they are
pub record Alt : Type 0 where
  pub offset : ℕ
  pub kind : List ℕ

-- what a value of `AltInfo` says
abbrev pub alt_told : AltInfo → Alt
alt_told info = record { offset = info.offset; kind = info.kind.now }

-- a kind is one or more bytes, none of them zero
abbrev pub is_kind : List ℕ → Bool
is_kind kind = nat_lt 0 (length kind) && not (has_zero kind)

-- the element's value: `1;`, the offset in decimal, a comma, and the kind
abbrev pub alt_value : ℕ → List ℕ → List ℕ
alt_value offset kind = codes "1;" ++ (decimal offset ++ 44 ∷ kind)

-- the bytes before the first comma, or all where there is none
abbrev pub before_comma : List ℕ → List ℕ
before_comma [] = []
before_comma (x ∷ xs) = if x == 44 then [] else x ∷ before_comma xs

-- the bytes after the first comma, or none where there is none
abbrev pub after_comma : List ℕ → List ℕ
after_comma xs = drop (length (before_comma xs) + 1) xs

-- what a value of the form `1;OFFSET,TYPE` says, where OFFSET is a number as in scripts and TYPE a kind
abbrev pub alt_in : List ℕ → Option Alt
alt_in value =
    let rest = drop 2 value in
    if bytes_eq (take 2 value) (codes "1;") && is_kind (after_comma rest)
    then option_map (λ offset. record { offset = offset; kind = after_comma rest })
    (number_in (before_comma rest))
    else None

-- nothing where the offset is past the end of a body of this length
abbrev pub within : ℕ → Alt → Option Alt
within len alt = if nat_le alt.offset len then Some alt else None

-- the alternative data in a body of this length, by the first element `alt-data`
abbrev pub alt_of : List Element → ℕ → Option Alt
alt_of es len =
    option_and_then (within len) (option_and_then alt_in (element (codes "alt-data") es))

-- the main body: what stands before the alternative data, or the whole body where there are none
abbrev pub main_body : Option Alt → List ℕ → List ℕ
main_body None body = body
main_body (Some alt) body = take alt.offset body

-- the bytes of the alternative data: the rest of the body
abbrev pub alt_bytes : Option Alt → List ℕ → List ℕ
alt_bytes None body = []
alt_bytes (Some alt) body = drop alt.offset body

-- an element that was spelled is read: it gives this offset and this kind for every body that is long enough
abbrev pub AltIsRead : Type 0
AltIsRead = (es : List Element) (offset : ℕ) (kind : List ℕ) (len : ℕ)
    → offset < 2 ^ 32 → is_kind kind ≡ true → offset ≤ len
    → element (codes "alt-data") es ≡ Some (alt_value offset kind)
    → alt_of es len ≡ Some (record { offset = offset; kind = kind })

-- the element spells these alternative data, and they fit a body of this length
pub record IsSpelled (es : List Element) (len : ℕ) (alt : Alt) : Type 0 where
  pub value : element (codes "alt-data") es ≡ Some (alt_value alt.offset alt.kind)
  pub number : alt.offset < 2 ^ 32
  pub kind : is_kind alt.kind ≡ true
  pub inside : alt.offset ≤ len

-- what is read was spelled
abbrev pub AltIsSpelled : Type 0
AltIsSpelled = (es : List Element) (len : ℕ) → IfSome (alt_of es len) (IsSpelled es len)

-- the elements of an entry after data of this kind are put after its body
abbrev pub with_alt : List ℕ → List ℕ → List Element → List Element
with_alt body kind es = with_element (codes "alt-data") (alt_value (length body) kind) es

-- the alternative data that are then told of in the longer body
abbrev pub alt_after : List Element → List ℕ → List ℕ → List ℕ → Option Alt
alt_after es body kind put = alt_of (with_alt body kind es) (length (body ++ put))

-- they are those that were put, and the main body is the body of before
pub record IsPut (es : List Element) (body kind put : List ℕ) : Type 0 where
  pub told : alt_after es body kind put ≡ Some (record { offset = length body; kind = kind })
  pub main : main_body (alt_after es body kind put) (body ++ put) ≡ body
  pub bytes : alt_bytes (alt_after es body kind put) (body ++ put) ≡ put

-- so it is for all elements, bodies, kinds and data
abbrev pub AltIsPut : Type 0
AltIsPut = (es : List Element) (body kind put : List ℕ)
    → length body < 2 ^ 32 → is_kind kind ≡ true → IsPut es body kind put
