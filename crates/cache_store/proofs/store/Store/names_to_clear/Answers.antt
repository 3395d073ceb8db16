use Rattle.file_handles.specs.Kept.{kept}
use Rattle.cache_store.proofs.Clearing.ClearNames.{clears_those}
use Rattle.cache_store.proofs.store.Store.names_to_clear.Goals as goal

pub returns : goal.returns
returns c =
    clears_those c.args.self.now.index.map (kept c.args.self.now.handles) c.args.origin c.in_ok-records.records c.in_ok-in_use.in_use c.in_ok-there.there
    c.in_ok-records.ensures.known c.in_ok-records.ensures.by_name c.in_ok-in_use.ensures.names
    c.as_slice.result.now c.as_slice.ensures c.in_ok-there.ensures c.as_slice-2.result.now c.as_slice-2.ensures c.as_slice-3.result.now c.as_slice-3.ensures
    c.joined.result c.joined.ensures.names c.joined.ensures.sorted
