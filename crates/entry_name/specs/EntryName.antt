-- Names of entries, and their text.
use Rattle.std.specs.Prelude.{ℕ, ◌≡◌, Bool, ◌&&◌, ◌||◌, nat_le, List, length}
use Rattle.std.specs.List.{AllPass}
use Rattle.sha1.specs.Sha1.{sha1}
use Rattle.hex.specs.Hex.{encode_upper, IsBytes}

-- the name of a key's file: the SHA-1 of the key
abbrev pub file_name : List ℕ → List ℕ
file_name key = sha1 key

-- the text of a name of 20 bytes: each byte as two upper-case digits
pub record IsTextOf (name text : List ℕ) : Type 0 where
  pub long : length name ≡ 20
  pub bytes : IsBytes name
  pub spelled : text ≡ encode_upper name

-- `0` to `9` and `A` to `F`
abbrev pub is_upper_digit : ℕ → Bool
is_upper_digit c = (nat_le 48 c && nat_le c 57) || (nat_le 65 c && nat_le c 70)

-- a text of 40 such digits
pub record IsNameText (text : List ℕ) : Type 0 where
  pub long : length text ≡ 40
  pub digits : AllPass is_upper_digit text
