use Rattle.std.proofs.Common.{◌≡◌, ℕ, List, IfOk, subst}
use Rattle.cache_base.specs.declared.name.Name.{Name}
use Rattle.evictor.specs.Evict.{victims}
use Rattle.file_handles.specs.Kept.{kept}
use Rattle.cache_store.proofs.Evicting.VictimsApart.{chooses}
use Rattle.cache_store.proofs.store.Store.names_to_evict.Goals as goal

pub returns : goal.returns
returns c =
    let records = c.in_ok-records.records in
    let in_use = c.in_ok-in_use.in_use in
    chooses c.args.self.now.index.map (kept c.args.self.now.handles) c.args.kb records in_use c.in_ok-records.ensures.known c.in_ok-records.ensures.records
    c.in_ok-in_use.ensures.names c.in_ok-in_use.ensures.unused c.victims_of.result
    (subst (λ (n : ℕ). IfOk c.victims_of.result (λ (names : List Name). names ≡ victims records in_use n)) c.from.ensures c.victims_of.ensures)
