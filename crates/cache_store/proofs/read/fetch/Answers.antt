use Rattle.file_handles.specs.Kept.{kept}
use Rattle.cache_store.proofs.Reading.ReadsHeld.{read_is_held}
use Rattle.cache_store.proofs.read.fetch.Goals as goal

pub returns-in-Ok-clause-fetched : goal.returns-in-Ok-clause-fetched
returns-in-Ok-clause-fetched g c =
    read_is_held c.read_part.result _ c.in-Ok.is (kept c.args.handles.now) (kept c.read_part.follows.lender-at-none) (g.D.Disk.state c.args.disk.now) c.args.span.slot c.args.span.from c.args.span.len
    c.read_part.follows.holds-at-none
