-- Reading a key byte by byte, up to its address or its first fault.
use Rattle.std.specs.Prelude.{ℕ, suc, nat_lt, ◌==◌, Bool, true, false, if◌then◌else◌, List, [], ◌∷◌, Result, Ok, Err}
use Rattle.entry_key.specs.declared.key_fault.KeyFault.{KeyFault}
use Rattle.entry_key.specs.declared.key_fault.KeyFault.TheVariants.{NoAddress, NoComma, Order}
use Rattle.entry_key.specs.Key.{Tag, is_bare}

-- what is due at a place, after a tag of this letter or within it
pub data Due : Type 0 where
  -- a greater letter, or the colon
  Letter : ℕ → Due
  -- the comma of an empty value
  Comma : ℕ → Due
  -- more of the value, or its comma
  Value : ℕ → Due
  -- after a comma: its second one, or else what follows the tag
  Second : ℕ → Due

-- what is due after a letter
abbrev pub behind_letter : ℕ → Due
behind_letter x = if is_bare x then Comma x else Value x

-- what is due after the byte x
abbrev pub next_due : Due → ℕ → Due
next_due (Letter last) x = behind_letter x
next_due (Comma last) x = Letter last
next_due (Value last) x = if x == 44 then Second last else Value last
next_due (Second last) x = if x == 44 then Value last else behind_letter x

-- what was read from some place on: the rest of a value, the tags after it, and the address
pub record Parts : Type 0 where
  pub value : List ℕ
  pub tags : List Tag
  pub address : List ℕ

-- the fault where the key ends
abbrev pub end_fault : Due → ℕ → KeyFault
end_fault (Letter last) at = NoAddress
end_fault (Comma last) at = NoComma at
end_fault (Value last) at = NoComma at
end_fault (Second last) at = NoAddress

-- what was read after a byte, with that byte before the value
abbrev pub with_value : ℕ → Result Parts KeyFault → Result Parts KeyFault
with_value x (Ok p) = Ok (record p { value = x ∷ p.value })
with_value x (Err f) = Err f

-- what was read after a letter, as its tag
abbrev pub with_tag : ℕ → Result Parts KeyFault → Result Parts KeyFault
with_tag x (Ok p) = Ok (record { value = []; tags = record { letter = x; value = p.value } ∷ p.tags; address = p.address })
with_tag x (Err f) = Err f

-- x where a letter or the colon is due: `behind` is what was read after it, `rest` the bytes there
abbrev pub at_letter : ℕ → ℕ → ℕ → List ℕ → Result Parts KeyFault → Result Parts KeyFault
at_letter last at x rest behind =
    if x == 58 then Ok (record { value = []; tags = []; address = rest })
    else if nat_lt last x then with_tag x behind
    else Err (Order at)

-- the byte x at the place `at`
abbrev pub at_byte : Due → ℕ → ℕ → List ℕ → Result Parts KeyFault → Result Parts KeyFault
at_byte (Letter last) at x rest behind = at_letter last at x rest behind
at_byte (Comma last) at x rest behind = if x == 44 then behind else Err (NoComma at)
at_byte (Value last) at x rest behind = if x == 44 then behind else with_value x behind
at_byte (Second last) at x rest behind = if x == 44 then with_value 44 behind else at_letter last at x rest behind

-- what the bytes from the place `at` on read as, or the first fault
unfoldable pub read_from : Due → ℕ → List ℕ → Result Parts KeyFault
read_from due at [] = Err (end_fault due at)
read_from due at (x ∷ xs) = at_byte due at x xs (read_from (next_due due x) (suc at) xs)

-- the tags and the address of a key, or its first fault
abbrev pub read_key : List ℕ → Result Parts KeyFault
read_key key = read_from (Letter 44) 0 key

-- whether a key has no fault
abbrev pub reads : Result Parts KeyFault → Bool
reads (Ok p) = true
reads (Err f) = false
