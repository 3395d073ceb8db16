-- Where the value of a tag ends.
use Rattle.std.specs.Prelude.{ℕ, ◌≡◌, ◌+◌, ◌<◌, ◌≤◌, List, ◌++◌, length, drop, slice_range, Result, Ok, Err}
use Rattle.entry_key.specs.declared.key_fault.KeyFault.{KeyFault}
use Rattle.entry_key.specs.Key.{doubled}
use Rattle.entry_key.specs.Walk.{Letter, Parts, behind_letter, read_from}

-- what was read, with some bytes before the value
abbrev pub put_value : List ℕ → Result Parts KeyFault → Result Parts KeyFault
put_value value (Ok p) = Ok (record p { value = value ++ p.value })
put_value value (Err f) = Err f

-- after this letter a value is spelled from the place `from` up to a comma at `end`, and then a letter is due
pub record ValueEnds (key : List ℕ) (letter from end : ℕ) : Type 0 where
  pub value : List ℕ
  pub from_first : from ≤ end
  pub within : end < length key
  pub spelled : slice_range key from end ≡ doubled value
  pub reads : read_from (behind_letter letter) from (drop from key)
      ≡ put_value value (read_from (Letter letter) (end + 1) (drop (end + 1) key))
