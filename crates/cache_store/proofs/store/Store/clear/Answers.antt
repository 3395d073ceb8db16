use Rattle.std.proofs.Common.{Some, subst}
use Rattle.cache_store.specs.Clearing.{LeavesUncleared}
use Rattle.cache_store.specs.Session.{session}
use Rattle.cache_store.specs.StoppedClearing.{ClearsUnderMark}
use Rattle.cache_store.proofs.Clearing.ClearCommands.{origin_cleared, origin_not_cleared}
use Rattle.cache_store.specs.AtClear.{ClearsAt, ClearsInOrder}
use Rattle.cache_store.proofs.store.Store.clear.Goals as goal

pub returns-in_err-names-clause-does : goal.returns-in_err-names-clause-does
returns-in_err-names-clause-does g c = λ told.
    origin_not_cleared c.args.origin.now c.hash_of_origin.result c.hash_of_origin.ensures (session g.D.Disk c.args.self.now c.args.disk.now) _ c.in_err-names.field-0.0 c.from_residual.result _
    c.from_residual.ensures.1 (c.in_err-names.ensures.does told)

pub returns-clause-does : goal.returns-clause-does
returns-clause-does g c = λ told.
    origin_cleared c.args.origin.now c.hash_of_origin.result c.hash_of_origin.ensures (session g.D.Disk c.args.self.now c.args.disk.now) _ c.in_ok-names.names (c.in_ok-names.ensures.does told)

pub returns-clause-clears : goal.returns-clause-clears
returns-clause-clears g c = λ had told.
    subst (λ n. LeavesUncleared (session g.D.Disk c.args.self.now c.args.disk.now) n c.clear_origin.new.self.index.map) c.hash_of_origin.ensures (c.in_ok-names.ensures.clears told)

pub returns-in_err-names-clause-stopped : goal.returns-in_err-names-clause-stopped
returns-in_err-names-clause-stopped g c = λ told.
    subst (λ n. ClearsUnderMark n (session g.D.Disk c.args.self.now c.args.disk.now) (g.D.Disk.state c.clear_origin.new.disk)) c.hash_of_origin.ensures (c.clear_origin.ensures.stopped told)

pub returns-clause-stopped : goal.returns-clause-stopped
returns-clause-stopped g c = λ told.
    subst (λ n. ClearsUnderMark n (session g.D.Disk c.args.self.now c.args.disk.now) (g.D.Disk.state c.clear_origin.new.disk)) c.hash_of_origin.ensures (c.clear_origin.ensures.stopped told)

pub returns-in_err-names-clause-ordered : goal.returns-in_err-names-clause-ordered
returns-in_err-names-clause-ordered g c = λ told. subst (λ n. ClearsInOrder n (g.D.Disk.state c.args.disk.now) (g.D.Disk.state c.clear_origin.new.disk)) c.hash_of_origin.ensures (c.clear_origin.ensures.ordered told)

pub returns-in_err-names-clause-at_clear : goal.returns-in_err-names-clause-at_clear
returns-in_err-names-clause-at_clear g c = λ told. subst (λ n. ClearsAt (Some n) (g.D.Disk.state c.args.disk.now) (g.D.Disk.state c.clear_origin.new.disk)) c.hash_of_origin.ensures (c.clear_origin.ensures.at_clear told)

pub returns-clause-ordered : goal.returns-clause-ordered
returns-clause-ordered g c = λ told. subst (λ n. ClearsInOrder n (g.D.Disk.state c.args.disk.now) (g.D.Disk.state c.clear_origin.new.disk)) c.hash_of_origin.ensures (c.clear_origin.ensures.ordered told)

pub returns-clause-at_clear : goal.returns-clause-at_clear
returns-clause-at_clear g c = λ told. subst (λ n. ClearsAt (Some n) (g.D.Disk.state c.args.disk.now) (g.D.Disk.state c.clear_origin.new.disk)) c.hash_of_origin.ensures (c.clear_origin.ensures.at_clear told)
