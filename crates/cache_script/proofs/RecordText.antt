-- The line of a record is text.
use Rattle.std.proofs.Common.{◌<◌, ◌^◌, ℕ, List, [], ◌∷◌, arith}
use Rattle.std.specs.Prelude.{decimal}
use Rattle.std.specs.List.{AllByRecursion}
use Rattle.std.specs.Str.{IsUtf8}
use Rattle.std.proofs.lemmas.Fmt.{IsAscii-decimal}
use Rattle.std.proofs.lemmas.Str.{IsUtf8-append, IsUtf8-from_ascii, IsUtf8-nil}
use Rattle.cache_theory.specs.Text.{record_words, spaced}
use Rattle.index_record.specs.declared.record.IndexRecord.{IndexRecord}
use Rattle.cache_script.specs.Numbers.{NumbersFit}
use Rattle.cache_script.proofs.HexCase.{ascii_then, capitals_are_text}

number_is_text : (n : ℕ) → n < 2 ^ 32 → IsUtf8 (decimal n)
number_is_text n small = IsUtf8-from_ascii (decimal n) (IsAscii-decimal n (omega (arith, small)))

-- words with spaces between them
spaced_is_text : (words : List (List ℕ)) → AllByRecursion IsUtf8 words → IsUtf8 (spaced words)
spaced_is_text [] all = IsUtf8-nil
spaced_is_text (word ∷ []) all = all.0
spaced_is_text (word ∷ (next ∷ more)) all =
    IsUtf8-append word (32 ∷ spaced (next ∷ more)) all.0 (ascii_then 32 (spaced (next ∷ more)) (omega arith) (spaced_is_text (next ∷ more) all.1))

pub record_is_text : (r : IndexRecord) → NumbersFit r → IsUtf8 (spaced (record_words r))
record_is_text r fit =
    spaced_is_text (record_words r) (
      capitals_are_text r.name.0,
      (
        number_is_text r.frecency fit.frecency,
        (
          capitals_are_text _,
          (
            number_is_text r.on_start fit.on_start,
            (number_is_text r.on_stop fit.on_stop, (number_is_text r.content fit.content, (capitals_are_text _, tt))),
          ),
        ),
      ),
    )
