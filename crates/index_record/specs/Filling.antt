-- The record of an entry's metadata.
use Rattle.std.specs.Char.{is_ascii_digit}
use Rattle.std.specs.List.{list_all}
use Rattle.std.specs.Str.Parse.{digits_value}
use Rattle.std.specs.Prelude.{Bool, List, Option, Some, None, codes, if◌then◌else◌, is_some, length, min, nat_le, nat_lt, option_and_then, option_map, unwrap_or, ℕ, ◌&&◌, ◌+◌, ◌/◌, ◌^◌}
use Rattle.cache_base.specs.declared.name.Name.{Name}
use Rattle.entry_key.specs.Tags.{has_tag, origin_hash, tags_of}
use Rattle.entry_metadata.specs.Metadata.{Meta}
use Rattle.entry_parts.specs.Elements.{Element, element}
use Rattle.index_record.specs.Record.{has_bit}
use Rattle.index_record.specs.declared.record.IndexRecord.{IndexRecord}

-- the number that one or more decimal digits spell; leading zeros are digits
abbrev pub number_in : List ℕ → Option ℕ
number_in text = if nat_lt 0 (length text) && list_all is_ascii_digit text then Some (digits_value 10 text) else None

-- the number in the first element of this name
abbrev pub number_of : List ℕ → List Element → Option ℕ
number_of name elements = option_and_then number_in (element name elements)

-- a response time, at most 0xFFFE, or 0xFFFF where there is none
abbrev pub time_of : List ℕ → List Element → ℕ
time_of name elements = unwrap_or (option_map (λ n. min n 0xFFFE) (number_of name elements)) 0xFFFF

-- a content type, or 0 where the number is no byte
abbrev pub small_or_zero : ℕ → ℕ
small_or_zero n = if nat_le n 255 then n else 0

-- the content type that the elements give, or 0 where they give none
abbrev pub content_of : List Element → ℕ
content_of elements = unwrap_or (option_map small_or_zero (number_of (codes "ctid") elements)) 0

-- bit k, where the test holds
abbrev pub bit_if : Bool → ℕ → ℕ
bit_if test k = if test then 2 ^ k else 0

-- the record under a name of metadata, whose file has `size` bytes
unfoldable pub record_of_meta : Name → Meta → ℕ → IndexRecord
record_of_meta name m size =
    let tags = tags_of m.key in
    record {
      name = name;
      frecency = m.header.frecency;
      origin = origin_hash tags;
      on_start = time_of (codes "net-response-time-onstart") m.elements;
      on_stop = time_of (codes "net-response-time-onstop") m.elements;
      content = content_of m.elements;
      flags = 2 ^ 31 + bit_if (has_tag 97 tags) 30 + bit_if (has_bit 0 m.header.flags) 26
          + bit_if (is_some (element (codes "alt-data") m.elements)) 25 + min ((size + 1023) / 1024) 0xFFFFFF;
    }
