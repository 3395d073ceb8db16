-- What is shown of an entry that is found.
use Rattle.std.specs.Prelude.{List, None, Option, Some, codes, option_map, ℕ, ◌-◌}
use Rattle.alt_data.specs.AltData.{Alt, alt_of}
use Rattle.cache_replies.specs.EntryText.{head_text}
use Rattle.cache_replies.specs.declared.shown.Part.{Part}
use Rattle.cache_replies.specs.declared.shown.Shown.{Shown}
use Rattle.cache_replies.specs.declared.shown.Shown.TheVariants as shown
use Rattle.cache_theory.specs.Command.{Command}
use Rattle.cache_theory.specs.Command.Command.{Get, GetAlt, MainBody}
use Rattle.cache_theory.specs.Text.{alt_line, with_number}
use Rattle.entry_metadata.specs.Metadata.{Meta}

-- the command that shows this of the entry of a key
abbrev pub showing : Shown → List ℕ → Command
showing shown.Whole key = Get key
showing shown.Main key = MainBody key
showing shown.Alt key = GetAlt key

-- a text, and bytes of a body after it: from a place on, up to another
pub record ShownPart : Type 0 where
  pub head : List ℕ
  pub from : ℕ
  pub to : ℕ

-- the text and the bytes that a part of the code stands for
abbrev pub part_said : Part → ShownPart
part_said p = record { head = p.head; from = p.from; to = p.to }

-- the alternative data of an entry of these metadata
abbrev pub alt_in_meta : Meta → Option Alt
alt_in_meta m = alt_of m.elements m.offset

-- how much of a body of this length comes before its alternative data, or all of it where there are none
abbrev pub length_before : ℕ → Option Alt → ℕ
length_before len None = len
length_before len (Some alt) = alt.offset

-- the length of its main body
abbrev pub main_length : Meta → ℕ
main_length m = length_before m.offset (alt_in_meta m)

-- its main body
abbrev pub main_shown : Meta → ShownPart
main_shown m = record {
  head = with_number (codes "main") (main_length m);
  from = 0;
  to = main_length m;
}

-- its alternative data
abbrev pub alt_shown : Meta → Option ShownPart
alt_shown m = option_map (λ alt. record {
  head = alt_line alt.kind (m.offset - alt.offset);
  from = alt.offset;
  to = m.offset;
}) (alt_in_meta m)

-- what is shown of it, if it has that
abbrev pub part_shown : Shown → Meta → Option ShownPart
part_shown shown.Whole m = Some (record { head = head_text m; from = 0; to = m.offset })
part_shown shown.Main m = Some (main_shown m)
part_shown shown.Alt m = alt_shown m
