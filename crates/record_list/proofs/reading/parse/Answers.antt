use Rattle.std.proofs.Common.{◌≡◌, ap, ◌∙◌, subst, sym, true}
use Rattle.std.specs.Prelude.{None, Some, if◌then◌else◌}
use Rattle.record_list.specs.Lists.{AreSorted, HasNames, names_of}
use Rattle.record_list.specs.Stored.{AreClean, are_distinct, read_as, stored_in}
use Rattle.record_list.specs.declared.fault.RecordsFault.TheVariants as faults
use Rattle.record_list.proofs.ReadingLaws.{fits_distinct, names_read, read_clean, read_distinct, read_rising}
use Rattle.record_list.proofs.reading.parse.Goals as goal
use Rattle.record_list.proofs.reading.parse.Goals.{else-not-rise, then-not-rise+else-not-all_distinct+in_ok-read_into}

pub returns-then-not-all_distinct-clause-fault : goal.returns-then-not-all_distinct-clause-fault
returns-then-not-all_distinct-clause-fault c =
    let read = c.in_ok-records.ensures ∙ ap read_as c.in_ok-groups.ensures.groups in
    let names = ap names_of read ∙ names_read (stored_in c.args.part.now) in
    c.in_ok-groups.ensures.names
    ∙ ap (λ t. if t then None else Some faults.Repeated) (ap are_distinct (sym names) ∙ sym c.all_distinct.ensures ∙ c.if-not-all_distinct.true)

pub returns-clause-records : goal.returns-clause-records
returns-clause-records c =
    c.from_vec.ensures
    ∙ elim c.if-not-rise.branch [
      | then-not-rise+else-not-all_distinct+in_ok-read_into w ↦ ap (λ v. v.items) w.records-is ∙ w.in_ok-read_into.ensures
      | else-not-rise w ↦ ap (λ v. v.items) w.records-is ∙ c.in_ok-records.ensures
    ]
    ∙ ap read_as c.in_ok-groups.ensures.groups

pub returns-clause-passes : goal.returns-clause-passes
returns-clause-passes c =
    let read = c.in_ok-records.ensures ∙ ap read_as c.in_ok-groups.ensures.groups in
    let distinct : are_distinct (names_of (stored_in c.args.part.now)) ≡ true = elim c.if-not-rise.branch [
      | then-not-rise+else-not-all_distinct+in_ok-read_into w ↦
          ap are_distinct (sym (ap names_of read ∙ names_read (stored_in c.args.part.now))) ∙ sym w.all_distinct.ensures ∙ w.if-not-all_distinct.false
      | else-not-rise w ↦
          read_rising (stored_in c.args.part.now) _ (c.as_slice.ensures.value ∙ read) (c.rise.ensures.0 w.if-not-rise.false)
    ] in
    c.in_ok-groups.ensures.names ∙ ap (λ t. if t then None else Some faults.Repeated) distinct

pub returns-clause-distinct : goal.returns-clause-distinct
returns-clause-distinct c =
    subst HasNames (sym (returns-clause-records c))
    (read_distinct (stored_in c.args.part.now) (fits_distinct c.args.part.now (returns-clause-passes c)))

pub returns-clause-clean : goal.returns-clause-clean
returns-clause-clean c = subst AreClean (sym (returns-clause-records c)) (read_clean (stored_in c.args.part.now))
