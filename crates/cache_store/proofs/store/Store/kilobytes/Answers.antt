use Rattle.std.proofs.Common.{ℕ}
use Rattle.file_handles.specs.Kept.{kept}
use Rattle.cache_store.proofs.Records.UpdateOver.{ends_update, is_total, look_leaves_honest, stays_open, update_fails}
use Rattle.cache_store.proofs.store.Store.kilobytes.Goals as goal

pub returns-in_err-finish-clause-ends : goal.returns-in_err-finish-clause-ends
returns-in_err-finish-clause-ends g c = λ told.
    update_fails c.from_residual.result _ c.from_residual.ensures.1 (kept c.args.self.now.handles) c.args.self.now.moment
    (g.D.Disk.state c.args.disk.now) (g.D.Disk.state c.finish.new.disk) c.args.self.now.index c.finish.new.self (c.in_err-finish.ensures.looks.state told)

pub returns-in_err-finish-clause-honest : goal.returns-in_err-finish-clause-honest
returns-in_err-finish-clause-honest g c = λ told.
    look_leaves_honest (kept c.args.self.now.handles) c.args.self.now.moment (g.D.Disk.state c.args.disk.now) (g.D.Disk.state c.finish.new.disk) c.args.self.now.index
    (c.in_err-finish.ensures.looks.state told) (c.requires.told told)

pub returns-clause-ends : goal.returns-clause-ends
returns-clause-ends g c = λ told.
    ends_update (kept c.args.self.now.handles) c.args.self.now.moment (g.D.Disk.state c.args.disk.now) (g.D.Disk.state c.finish.new.disk) c.args.self.now.index c.finish.new.self
    (record {
      same = c.in_ok-finish.ensures.looks.state told;
      ended = c.in_ok-finish.ensures.rest;
      base = c.in_ok-finish.ensures.base;
      records = c.in_ok-finish.ensures.records told;
      tells = c.in_ok-finish.ensures.tells told;
    }) _

pub returns-clause-open : goal.returns-clause-open
returns-clause-open g c = λ told.
    stays_open (kept c.args.self.now.handles) c.args.self.now.moment (g.D.Disk.state c.args.disk.now) (g.D.Disk.state c.finish.new.disk) c.args.self.now.index c.finish.new.self
    (record {
      same = c.in_ok-finish.ensures.looks.state told;
      ended = c.in_ok-finish.ensures.rest;
      base = c.in_ok-finish.ensures.base;
      records = c.in_ok-finish.ensures.records told;
      tells = c.in_ok-finish.ensures.tells told;
    }) {T = ℕ} c.total_of.result (c.requires.told told)

pub returns-clause-honest : goal.returns-clause-honest
returns-clause-honest g c = λ told.
    look_leaves_honest (kept c.args.self.now.handles) c.args.self.now.moment (g.D.Disk.state c.args.disk.now) (g.D.Disk.state c.finish.new.disk) c.args.self.now.index
    (c.in_ok-finish.ensures.looks.state told) (c.requires.told told)

pub returns-clause-total : goal.returns-clause-total
returns-clause-total g c = λ told.
    is_total (kept c.args.self.now.handles) c.args.self.now.moment (g.D.Disk.state c.args.disk.now) (g.D.Disk.state c.finish.new.disk) c.args.self.now.index c.finish.new.self
    (record {
      same = c.in_ok-finish.ensures.looks.state told;
      ended = c.in_ok-finish.ensures.rest;
      base = c.in_ok-finish.ensures.base;
      records = c.in_ok-finish.ensures.records told;
      tells = c.in_ok-finish.ensures.tells told;
    }) c.total_of.result c.total_of.ensures.known c.total_of.ensures.sum
