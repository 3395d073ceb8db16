use Rattle.index_journal.proofs.AppliedLaws.{applied_answer, clean_answer, items_distinct, merged_is, present_answer}
use Rattle.index_journal.proofs.applying.apply.Goals as goal

pub by_name-requires : goal.by_name-requires
by_name-requires c =
    items_distinct c.args.index.now c.args.journal.now c.requires.index c.requires.journal c.in_ok-records.records.items
    (merged_is _ c.in_ok-records.ensures c.as_slice.ensures c.as_slice-2.ensures)

pub returns-clause-applied : goal.returns-clause-applied
returns-clause-applied c =
    applied_answer c.args.index.now c.args.journal.now c.requires.index c.requires.journal c.in_ok-records.records.items
    (merged_is _ c.in_ok-records.ensures c.as_slice.ensures c.as_slice-2.ensures) c.by_name.result c.by_name.ensures

pub returns-clause-clean : goal.returns-clause-clean
returns-clause-clean c =
    clean_answer c.args.index.now c.args.journal.now c.requires.index c.requires.journal c.in_ok-records.records.items
    (merged_is _ c.in_ok-records.ensures c.as_slice.ensures c.as_slice-2.ensures) c.by_name.result c.by_name.ensures

pub returns-clause-present : goal.returns-clause-present
returns-clause-present c =
    present_answer c.args.index.now c.args.journal.now c.requires.index c.requires.journal c.in_ok-records.records.items
    (merged_is _ c.in_ok-records.ensures c.as_slice.ensures c.as_slice-2.ensures) c.by_name.result c.by_name.ensures
