use Rattle.std.proofs.Common.{◌≡◌, false, subst}
use Rattle.std.specs.Bool.{IsTrue}
use Rattle.cache_theory.specs.Machine.{is_entry}
use Rattle.disk_theory.specs.State.{standing}
use Rattle.disk_theory.specs.declared.place.Place.TheVariants.{Entry}
use Rattle.entry_file.specs.EntryFile.{read_for}
use Rattle.entry_file.specs.EntryRead.{ReadsAs}
use Rattle.entry_file.specs.declared.entry_read.EntryRead.{EntryRead}
use Rattle.file_handles.proofs.Finding.FoundFile.{absent_with, keys_apart, not_fits_is_none, other_is_none, reads_none}
use Rattle.file_handles.proofs.find.read_metadata.Goals as goal
use Rattle.file_handles.proofs.find.read_metadata.Goals.{in_default-via-in-Fits+else-eq, in_default-via-in_default}

pub returns-in_default-clause-refused : goal.returns-in_default-clause-refused
returns-in_default-clause-refused g c =
    let content = standing (g.D.Disk.state c.args.disk.now) (Entry c.args.name.now) in
    absent_with (IsTrue g.D.Disk.tells → is_entry (read_for c.args.key.now content) ≡ false)
    (λ told. reads_none c.args.key.now content
    (elim c.in_default.branch [
      | in_default-via-in-Fits+else-eq w ↦
          let reads = subst (λ (r : EntryRead). ReadsAs c.args.name.now.0 content r) w.in-Fits.is (c.in_ok-meta.ensures.reads told) in
          let other = keys_apart w.as_slice.result.now c.args.key.now w.in-Fits.meta.key w.eq.result w.eq.ensures w.if-eq.false w.as_slice.ensures in
          other_is_none c.args.key.now c.args.name.now.0 content c.requires w.in-Fits.meta w.in-Fits.size reads other
      | in_default-via-in_default w ↦ not_fits_is_none c.args.key.now c.args.name.now.0 content c.requires c.in_ok-meta.field-0 w.in_default.not-Fits (c.in_ok-meta.ensures.reads told)
    ]))
