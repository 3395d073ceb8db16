use Rattle.std.proofs.Common.{ℕ, List, subst}
use Rattle.std.specs.Prelude.{IsTrue}
use Rattle.context_clear.specs.MarkFile.{IsAmidStoring}
use Rattle.context_clear.proofs.MarkStored.{leaves_whole, on_placed}
use Rattle.context_clear.proofs.mark_file.store.Goals as goal

pub returns-clause-whole : goal.returns-clause-whole
returns-clause-whole g c = λ tells.
    let s = g.D.Disk.state c.args.disk.now in
    let t = g.D.Disk.state c.place_mark.new.disk in
    leaves_whole s t c.args.number c.args.origin (g.met.D.Disk.sound c.args.disk.now tells)
    (subst (λ (bytes : List ℕ). IsAmidStoring c.args.number bytes s t) c.write_mark.ensures (c.place_mark.ensures.amid tells))

pub returns-clause-stands : goal.returns-clause-stands
returns-clause-stands g c =
    let s = g.D.Disk.state c.args.disk.now in
    let t = g.D.Disk.state c.place_mark.new.disk in
    on_placed (IsTrue g.D.Disk.tells) s t c.args.number c.args.origin c.write_mark.result c.place_mark.result (λ tells. g.met.D.Disk.sound c.args.disk.now tells) c.write_mark.ensures c.requires c.place_mark.ensures.placed
