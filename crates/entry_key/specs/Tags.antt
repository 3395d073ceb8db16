-- What the tags of a key say. Letters: 79 is `O`, the origin; 97 is `a`, anonymous; 126 is `~`, an extra id.
use Rattle.std.specs.Prelude.{ℕ, ◌==◌, Bool, List, [], Result, Ok, Err, find, option_map, unwrap_or}
use Rattle.std.specs.List.{list_any}
use Rattle.std.specs.Int.{from_be_bytes, w64}
use Rattle.sha1.specs.Sha1.{sha1}
use Rattle.entry_key.specs.declared.key_fault.KeyFault.{KeyFault}
use Rattle.entry_key.specs.Key.{Tag}
use Rattle.entry_key.specs.Walk.{Parts, read_key}

-- the tags that were read, none where there is a fault
abbrev pub tags_in : Result Parts KeyFault → List Tag
tags_in (Ok p) = p.tags
tags_in (Err f) = []

-- the tags of a key
abbrev pub tags_of : List ℕ → List Tag
tags_of key = tags_in (read_key key)

-- whether there is a tag of this letter
abbrev pub has_tag : ℕ → List Tag → Bool
has_tag letter tags = list_any (λ t. t.letter == letter) tags

-- the value of the tag of this letter, or no bytes
abbrev pub tag_value : ℕ → List Tag → List ℕ
tag_value letter tags = unwrap_or (option_map (λ t. t.value) (find (λ t. t.letter == letter) tags)) []

-- the first eight bytes of a value's SHA-1, as a big-endian number
unfoldable pub value_hash : List ℕ → ℕ
value_hash value = from_be_bytes w64 (sha1 value)

-- the hash of the origin, which is no bytes where the tag is not there
abbrev pub origin_hash : List Tag → ℕ
origin_hash tags = value_hash (tag_value 79 tags)
