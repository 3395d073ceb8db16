use Rattle.disk_theory.specs.State.{standing}
use Rattle.disk_theory.specs.declared.place.Place.TheVariants.{Index}
use Rattle.std.proofs.Common.{◌∙◌, sym}
use Rattle.startup_read.proofs.ReadKinds.{odd_index}
use Rattle.startup_read.proofs.records.read_index.Goals as goal

pub returns-then-not-has_whole_records-clause-reads : goal.returns-then-not-has_whole_records-clause-reads
returns-then-not-has_whole_records-clause-reads g c = λ told.
    let answer = c.no_index-then-not-has_whole_records in
    odd_index (standing (g.D.Disk.state c.args.disk.now) Index) c.in-Some.size answer.result.kind answer.result.records answer.ensures.kind
    (sym c.in-Some.is ∙ c.in_ok-size.ensures.size told) (sym c.has_whole_records.ensures ∙ c.if-not-has_whole_records.true)
