use Rattle.std.proofs.Common.{◌∙◌, ◌++◌, ap, subst, sym}
use Rattle.std.specs.Str.{IsUtf8}
use Rattle.cache_theory.specs.Text.{record_words, spaced}
use Rattle.cache_script.proofs.RecordText.{record_is_text}
use Rattle.cache_script.proofs.records.record_text.Goals as goal

pub unreachable-requires : goal.unreachable-requires
unreachable-requires c =
    c.in-Err.ensures.cases.0
    (subst IsUtf8 (sym (c.as_slice.ensures ∙ c.in_ok-extend_record.ensures ∙ ap (λ front. front ++ spaced (record_words c.args.r.now)) c.in_ok-line.ensures)) (record_is_text c.args.r.now c.numbers_fit.ensures))
