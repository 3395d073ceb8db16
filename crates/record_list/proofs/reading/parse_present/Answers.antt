use Rattle.std.proofs.Common.{ap, ◌∙◌, rules, subst, sym}
use Rattle.std.proofs.lemmas.Fn.{filter_same}
use Rattle.std.specs.Prelude.{not}
use Rattle.index_record.specs.Record.{is_removed}
use Rattle.record_list.specs.Change.{HasNoRemoved}
use Rattle.record_list.specs.Lists.{HasNames}
use Rattle.record_list.specs.Stored.{AreClean, present, stored_in}
use Rattle.record_list.proofs.Present.{present_read}
use Rattle.record_list.proofs.ReadingLaws.{filter_distinct, fits_distinct, read_clean, read_distinct, read_present}
use Rattle.record_list.proofs.reading.parse_present.Goals as goal

pub returns-clause-records : goal.returns-clause-records
returns-clause-records c =
    c.from_vec.ensures ∙ filter_same _ _ _ (λ x b f' k. search rules) _ _ c.retain.ensures.filtered
    ∙ ap present (c.into_vec-records.ensures ∙ c.in_ok-parse.ensures.records)
    ∙ present_read (stored_in c.args.part.now)

pub returns-clause-distinct : goal.returns-clause-distinct
returns-clause-distinct c =
    subst HasNames (sym (returns-clause-records c))
    (read_distinct _ (filter_distinct (λ r. not (is_removed r)) (stored_in c.args.part.now) (fits_distinct c.args.part.now c.in_ok-parse.ensures.passes)))

pub returns-clause-clean : goal.returns-clause-clean
returns-clause-clean c = subst AreClean (sym (returns-clause-records c)) (read_clean (present (stored_in c.args.part.now)))

pub returns-clause-present : goal.returns-clause-present
returns-clause-present c = subst HasNoRemoved (sym (returns-clause-records c)) (read_present (stored_in c.args.part.now))
