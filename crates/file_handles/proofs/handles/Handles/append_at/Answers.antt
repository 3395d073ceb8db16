use Rattle.std.proofs.Common.{Ok, Some, refl}
use Rattle.file_handles.specs.Changes.{appended}
use Rattle.handle_table.specs.Held.{labelled}
use Rattle.handle_table.specs.Kept.{kept_in}
use Rattle.file_handles.specs.Kept.{kept}
use Rattle.file_handles.proofs.Setting.ElementChecks.{is_there}
use Rattle.file_handles.proofs.Finishing.Grown.{grown_becomes, grown_writes}
use Rattle.file_handles.proofs.PutBack.{changes_done, changes_failed, put_back}
use Rattle.file_handles.proofs.handles.Handles.append_at.Goals as goal

pub take_apart-entry-requires-clause-there : goal.take_apart-entry-requires-clause-there
take_apart-entry-requires-clause-there g c = is_there _ _ c.requires.limit

pub returns-in_err-append-clause-changes : goal.returns-in_err-append-clause-changes
returns-in_err-append-clause-changes g c tells =
    let x = labelled c.take_apart-entry.result.0 c.take_apart-entry.result.1 in
    let b = c.args.b.now in
    let s = g.D.Disk.state c.args.disk.now in
    let t = g.D.Disk.state c.append.new.disk in
    changes_failed c.args.place (appended b) c.from_residual.result s t (kept c.args.self.now) (kept_in c.take_apart-entry.new.self) x c.take_apart-entry.ensures.found
    (grown_writes x c.in-Draft.draft c.in-Draft.is b s t c.file_place-file.result c.file_place-file.ensures (c.in_err-append.ensures.writes tells))
    c.from_residual.ensures.0

pub returns-clause-changes : goal.returns-clause-changes
returns-clause-changes g c tells =
    let x = labelled c.take_apart-entry.result.0 c.take_apart-entry.result.1 in
    let b = c.args.b.now in
    let s = g.D.Disk.state c.args.disk.now in
    let t = g.D.Disk.state c.append.new.disk in
    changes_done c.args.place (appended b) (Ok tt) s t (kept c.args.self.now) (kept_in c.put_entry.new.self) x c.take_apart-entry.ensures.found
    (grown_writes x c.in-Draft.draft c.in-Draft.is b s t c.file_place-file.result c.file_place-file.ensures (c.in_ok-append.ensures.writes tells))
    _
    (grown_becomes x c.in-Draft.draft c.in-Draft.is b s t c.file_place-file.result c.file_place-file.ensures _ refl refl refl c.in_ok-append.ensures.body (c.in_ok-append.ensures.stands tells))
    (put_back (kept c.args.self.now) (kept_in c.take_apart-entry.new.self) (kept_in c.put_entry.new.self) c.args.place (Some _) c.take_apart-entry.ensures.kept c.put_entry.ensures)
