use Rattle.std.proofs.Common.{subst}
use Rattle.disk_theory.specs.State.{standing}
use Rattle.disk_theory.specs.declared.place.Place.TheVariants.{Entry}
use Rattle.entry_file.specs.EntryRead.{ReadsAs}
use Rattle.entry_file.specs.declared.entry_read.EntryRead.{EntryRead}
use Rattle.index_update.proofs.EntryRecord.{record_read}
use Rattle.index_update.proofs.entry_records.read_record.Goals as goal

pub returns-in-Fits-clause-record : goal.returns-in-Fits-clause-record
returns-in-Fits-clause-record g c = λ told.
    let name = c.args.name.now in
    let file = standing (g.D.Disk.state c.args.disk.now) (Entry name) in
    record_read name file c.in-Fits.meta c.in-Fits.size c.record_of.result
    (subst (λ (read : EntryRead). ReadsAs name.0 file read) c.in-Fits.is (c.in_ok-read_meta.ensures.reads told)) c.record_of.ensures.record
