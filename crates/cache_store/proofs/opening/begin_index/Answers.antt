use Rattle.std.proofs.Common.{◌∙◌, ap, arith, inr, sym, IsTrue}
use Rattle.disk_theory.specs.State.{standing}
use Rattle.index_theory.specs.Start.{start_of}
use Rattle.startup_read.proofs.KeptLaws.{unready_sees_none}
use Rattle.startup_read.proofs.OpeningSteps.{on_ok}
use Rattle.cache_store.proofs.Sessions.BasedIndex.{begins_on, begun_based, begun_on, opens_based}
use Rattle.cache_store.specs.Open.{listings}
use Rattle.cache_store.proofs.Sessions.BehindOpening.{behind_start}
use Rattle.cache_store.proofs.Sessions.BegunIndex.{begun_holds, begun_rest, begun_tells, build_unready, ready_rest, same_opens_honest, update_unready}
use Rattle.cache_store.proofs.Sessions.OpenedIndex.{opened_entries}
use Rattle.cache_store.proofs.opening.begin_index.Goals as goal

pub returns-in-Ready-clause-rest : goal.returns-in-Ready-clause-rest
returns-in-Ready-clause-rest g c = λ told. ready_rest (g.D.Disk.state c.args.disk.now) c.none.result (sym (c.in_ok-start.ensures.start told) ∙ c.in-Ready.is) c.none.ensures

pub returns-in-Update-clause-rest : goal.returns-in-Update-clause-rest
returns-in-Update-clause-rest g c =
    let s = g.D.Disk.state c.args.disk.now in
    let t = g.D.Disk.state c.open_index.new.disk in
    begun_rest c.begin_update.result (IsTrue g.D.Disk.tells) s t (λ told. opened_entries s t (g.met.D.Disk.sound c.args.disk.now told) (c.in_ok-start.ensures.opened told))
    (λ told. update_unready c.in_ok-start.field-0.start (start_of (standing s)) c.in-Update.is (c.in_ok-start.ensures.start told)) c.begin_update.ensures.rest c.begin_update.ensures.sorted

pub returns-in-Update-clause-tells : goal.returns-in-Update-clause-tells
returns-in-Update-clause-tells g c =
    let s = g.D.Disk.state c.args.disk.now in
    let t = g.D.Disk.state c.open_index.new.disk in
    begun_tells c.begin_update.result (IsTrue g.D.Disk.tells) s t (λ told. opened_entries s t (g.met.D.Disk.sound c.args.disk.now told) (c.in_ok-start.ensures.opened told))
    c.in_ok-start.field-0.map
    (λ told. unready_sees_none (standing s) c.in_ok-start.field-0.map
    (update_unready c.in_ok-start.field-0.start (start_of (standing s)) c.in-Update.is (c.in_ok-start.ensures.start told)) (c.in_ok-start.ensures.map told))
    c.begin_update.ensures.tells

pub returns-in-Update-clause-holds : goal.returns-in-Update-clause-holds
returns-in-Update-clause-holds g c =
    begun_holds c.begin_update.result (IsTrue g.D.Disk.tells) (g.D.Disk.state c.open_index.new.disk) (g.D.Disk.state c.begin_update.new.disk) c.in_ok-start.field-0.map
    c.begin_update.ensures.looks.state c.in_ok-start.ensures.keeps c.in_ok-start.ensures.apart c.in_ok-start.ensures.unclean c.begin_update.ensures.base

pub returns-in-Update-clause-honest : goal.returns-in-Update-clause-honest
returns-in-Update-clause-honest g c = λ told.
    same_opens_honest (g.D.Disk.state c.args.disk.now) (g.D.Disk.state c.open_index.new.disk) (g.D.Disk.state c.begin_update.new.disk)
    (c.begin_update.ensures.looks.state told) (c.in_ok-start.ensures.honest told)

pub returns-in-Build-clause-rest : goal.returns-in-Build-clause-rest
returns-in-Build-clause-rest g c =
    let s = g.D.Disk.state c.args.disk.now in
    let t = g.D.Disk.state c.open_index.new.disk in
    begun_rest c.begin_update-in-Build.result (IsTrue g.D.Disk.tells) s t (λ told. opened_entries s t (g.met.D.Disk.sound c.args.disk.now told) (c.in_ok-start.ensures.opened told))
    (λ told. build_unready c.in_ok-start.field-0.start (start_of (standing s)) c.in-Build.is (c.in_ok-start.ensures.start told)) c.begin_update-in-Build.ensures.rest
    c.begin_update-in-Build.ensures.sorted

pub returns-in-Build-clause-tells : goal.returns-in-Build-clause-tells
returns-in-Build-clause-tells g c =
    let s = g.D.Disk.state c.args.disk.now in
    let t = g.D.Disk.state c.open_index.new.disk in
    begun_tells c.begin_update-in-Build.result (IsTrue g.D.Disk.tells) s t (λ told. opened_entries s t (g.met.D.Disk.sound c.args.disk.now told) (c.in_ok-start.ensures.opened told))
    c.in_ok-start.field-0.map
    (λ told. unready_sees_none (standing s) c.in_ok-start.field-0.map
    (build_unready c.in_ok-start.field-0.start (start_of (standing s)) c.in-Build.is (c.in_ok-start.ensures.start told)) (c.in_ok-start.ensures.map told))
    c.begin_update-in-Build.ensures.tells

pub returns-in-Build-clause-honest : goal.returns-in-Build-clause-honest
returns-in-Build-clause-honest g c = λ told.
    same_opens_honest (g.D.Disk.state c.args.disk.now) (g.D.Disk.state c.open_index.new.disk) (g.D.Disk.state c.begin_update-in-Build.new.disk)
    (c.begin_update-in-Build.ensures.looks.state told) (c.in_ok-start.ensures.honest told)

pub returns-in-Ready-clause-based : goal.returns-in-Ready-clause-based
returns-in-Ready-clause-based g c = λ told.
    opens_based (g.D.Disk.state c.args.disk.now) (g.D.Disk.state c.open_index.new.disk) c.in_ok-start.field-0.map (c.in_ok-start.ensures.map told) (c.in_ok-start.ensures.opened told)

pub returns-in-Update-clause-based : goal.returns-in-Update-clause-based
returns-in-Update-clause-based g c =
    let s = g.D.Disk.state c.args.disk.now in
    let t = g.D.Disk.state c.open_index.new.disk in
    begun_based c.begin_update.result (IsTrue g.D.Disk.tells) s t (g.D.Disk.state c.begin_update.new.disk) c.in_ok-start.field-0.map c.begin_update.ensures.looks.state
    (λ told. opens_based s t c.in_ok-start.field-0.map (c.in_ok-start.ensures.map told) (c.in_ok-start.ensures.opened told)) c.begin_update.ensures.base

pub returns-in-Build-clause-based : goal.returns-in-Build-clause-based
returns-in-Build-clause-based g c =
    let s = g.D.Disk.state c.args.disk.now in
    let t = g.D.Disk.state c.open_index.new.disk in
    begun_based c.begin_update-in-Build.result (IsTrue g.D.Disk.tells) s t (g.D.Disk.state c.begin_update-in-Build.new.disk) c.in_ok-start.field-0.map c.begin_update-in-Build.ensures.looks.state
    (λ told. opens_based s t c.in_ok-start.field-0.map (c.in_ok-start.ensures.map told) (c.in_ok-start.ensures.opened told)) c.begin_update-in-Build.ensures.base

pub returns-in-Ready-clause-begins : goal.returns-in-Ready-clause-begins
returns-in-Ready-clause-begins g c = λ told. begins_on (standing (g.D.Disk.state c.args.disk.now)) c.in_ok-start.field-0.map (c.in_ok-start.ensures.map told)

pub returns-in-Update-clause-begins : goal.returns-in-Update-clause-begins
returns-in-Update-clause-begins g c =
    let files = standing (g.D.Disk.state c.args.disk.now) in
    begun_on c.begin_update.result (IsTrue g.D.Disk.tells) files c.in_ok-start.field-0.map
    (λ told. update_unready c.in_ok-start.field-0.start (start_of files) c.in-Update.is (c.in_ok-start.ensures.start told)) c.in_ok-start.ensures.map c.begin_update.ensures.base

pub returns-in-Build-clause-begins : goal.returns-in-Build-clause-begins
returns-in-Build-clause-begins g c =
    let files = standing (g.D.Disk.state c.args.disk.now) in
    begun_on c.begin_update-in-Build.result (IsTrue g.D.Disk.tells) files c.in_ok-start.field-0.map
    (λ told. build_unready c.in_ok-start.field-0.start (start_of files) c.in-Build.is (c.in_ok-start.ensures.start told)) c.in_ok-start.ensures.map c.begin_update-in-Build.ensures.base

-- ---- the calls behind the sync

pub returns-in-Ready-clause-behind : goal.returns-in-Ready-clause-behind
returns-in-Ready-clause-behind g c = λ told.
    let few = c.in_ok-start.ensures.behind told in
    behind_start (g.D.Disk.state c.args.disk.now) c.in_ok-start.field-0.start 0 (g.D.Disk.counts c.open_index.new.disk) (c.in_ok-start.ensures.start told) (ap listings c.in-Ready.is) (omega (arith, few))

pub returns-in-Update-clause-behind : goal.returns-in-Update-clause-behind
returns-in-Update-clause-behind g c = on_ok c.begin_update.result (λ told.
    behind_start (g.D.Disk.state c.args.disk.now) c.in_ok-start.field-0.start 1 (g.D.Disk.counts c.begin_update.new.disk) (c.in_ok-start.ensures.start told) (ap listings c.in-Update.is)
    (c.begin_update.ensures.once told _ (c.in_ok-start.ensures.behind told)))

pub returns-in-Update-clause-fails : goal.returns-in-Update-clause-fails
returns-in-Update-clause-fails g c = λ failed told. inr (inr (
    behind_start (g.D.Disk.state c.args.disk.now) c.in_ok-start.field-0.start 1 (g.D.Disk.counts c.begin_update.new.disk) (c.in_ok-start.ensures.start told) (ap listings c.in-Update.is)
    (c.begin_update.ensures.once told _ (c.in_ok-start.ensures.behind told))))

pub returns-in-Build-clause-behind : goal.returns-in-Build-clause-behind
returns-in-Build-clause-behind g c = on_ok c.begin_update-in-Build.result (λ told.
    behind_start (g.D.Disk.state c.args.disk.now) c.in_ok-start.field-0.start 1 (g.D.Disk.counts c.begin_update-in-Build.new.disk) (c.in_ok-start.ensures.start told) (ap listings c.in-Build.is)
    (c.begin_update-in-Build.ensures.once told _ (c.in_ok-start.ensures.behind told)))

pub returns-in-Build-clause-fails : goal.returns-in-Build-clause-fails
returns-in-Build-clause-fails g c = λ failed told. inr (inr (
    behind_start (g.D.Disk.state c.args.disk.now) c.in_ok-start.field-0.start 1 (g.D.Disk.counts c.begin_update-in-Build.new.disk) (c.in_ok-start.ensures.start told) (ap listings c.in-Build.is)
    (c.begin_update-in-Build.ensures.once told _ (c.in_ok-start.ensures.behind told))))
