-- What a `load` tells of a dump.
use Rattle.std.proofs.Common.{◌≡◌, inl, inr, List, ℕ, None, subst}
use Rattle.cache_export.specs.Dump.{IsDump}
use Rattle.cache_export.proofs.FieldLaws.{dumps_are_one}
use Rattle.cache_replies.specs.Saying.{IsPart}
use Rattle.cache_tool.specs.Load.{BeginsLoaded, IsLoadLine, Loaded, loaded_line}
use Rattle.cache_tool.specs.Load.IsLoadLine.{TellsBad, TellsDump}
use Rattle.cache_tool.specs.LoadTells.{LoadTellsTrue}
use Rattle.entry_file.specs.Version.{Version}
use Rattle.std.specs.Prelude.{length}

line_of_dump : (bytes : List ℕ) (vs : List Version) (l : Loaded) (read : BeginsLoaded bytes l) (text : List ℕ) → IsDump bytes vs → IsLoadLine bytes l read text
    → (text ≡ loaded_line (length vs)) × ((l.items ≡ vs) × (l.begun ≡ None))
line_of_dump bytes vs l read text is (TellsDump line dump none) =
    let same = dumps_are_one bytes l.items vs dump is in
    (subst (λ xs. text ≡ loaded_line (length xs)) same line, (same, none))
line_of_dump bytes vs l read text is (TellsBad line bad behind) = absurd (bad vs is)

pub load_tells_true : LoadTellsTrue
load_tells_true bytes vs l read ended before now is prints = record {
  part = elim prints.part [
    | inl none ↦ inl none
    | inr (text, (line, part)) ↦ inr (subst (IsPart before now) (line_of_dump bytes vs l read text is line).0 part)
  ];
  sink = λ e. let cut = prints.cut e in (line_of_dump bytes vs l read cut.0 is cut.1.0).1;
}
