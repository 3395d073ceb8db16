-- A run began: the store was opened, and what is done for `Resume` was done; or one of them failed.
use Rattle.std.proofs.Common.{Ok, ap, arith, refl, subst, sym, ◌∙◌}
use Rattle.cache_store.specs.Faults.{ending, fault_ending}
use Rattle.cache_store.specs.IndexCalls.{ReadsEntriesOf}
use Rattle.cache_store.specs.Session.{session}
use Rattle.cache_theory.specs.Command.Command.{Resume}
use Rattle.cache_tool.proofs.BeforeCommands.{unopened_before, unresumed_before}
use Rattle.cache_tool.proofs.Clearings.{with_told}
use Rattle.cache_tool.proofs.Dated.{opens_same, dated_by}
use Rattle.cache_tool.proofs.EntryLooks.{resume_reads}
use Rattle.cache_tool.proofs.Handed.{handed_on}
use Rattle.cache_tool.proofs.RunBegins.{never_opened, on_err, resume_done, resume_fails}
use Rattle.cache_tool.proofs.StayingLaws.{stays_for}
use Rattle.file_handles.proofs.Accounting.{accounts_sum}
use Rattle.cache_tool.specs.Syncs.{opening_syncs}
use Rattle.cache_tool.proofs.session.begin.Goals as goal
use Rattle.context_clear.specs.Mark.{mark_of}
use Rattle.disk_theory.specs.Account.{Accounts}
use Rattle.disk_theory.specs.State.{standing}
use Rattle.disk_theory.specs.declared.place.Place.TheVariants.{Clear}

pub returns-in_err-store-clause-fails : goal.returns-in_err-store-clause-fails
returns-in_err-store-clause-fails g c = on_err c.from_residual.result _ (λ told.
    never_opened c.args.now (g.D.Disk.state c.args.disk.now) (g.D.Disk.state c.open.new.disk) (c.open.ensures.honest told) (c.open.ensures.at_clear told) (c.open.ensures.safe told))

pub returns-in_err-attempt-clause-fails : goal.returns-in_err-attempt-clause-fails
returns-in_err-attempt-clause-fails g c = on_err c.from_residual-in_err-attempt.result _ (λ told.
    resume_fails c.args.now (g.D.Disk.state c.args.disk.now) (session g.D.Disk c.in_ok-store.store c.open.new.disk) (session g.D.Disk c.attempt.new.self c.attempt.new.disk)
    (g.met.D.Disk.finite c.args.disk.now told) (c.in_ok-store.ensures.opens told) (c.in_ok-store.ensures.begins told) _ _ (c.open.ensures.at_clear told) (c.attempt.ensures.always.at_clear told) c.attempt.result (c.attempt.ensures.does.reply.performs told) (c.attempt.ensures.always.honest told)
    (with_told (mark_of (standing (g.D.Disk.state c.open.new.disk) Clear)) _ told c.attempt.ensures.always.stopped))

pub returns-in_err-attempt-clause-looks : goal.returns-in_err-attempt-clause-looks
returns-in_err-attempt-clause-looks g c = λ told none again.
    let opened = c.open.ensures.disk.no_entry told in
    let performed = resume_reads c.args.now (g.D.Disk.state c.args.disk.now) (session g.D.Disk c.in_ok-store.store c.open.new.disk) (λ names. ReadsEntriesOf g.D.Disk names c.open.new.disk c.attempt.new.disk)
    (g.met.D.Disk.finite c.args.disk.now told) (c.in_ok-store.ensures.opens told) none c.attempt.ensures.always.looks told in
    omega (arith, opened, performed)

pub returns-in_err-attempt-clause-account : goal.returns-in_err-attempt-clause-account
returns-in_err-attempt-clause-account g c =
    let f = c.in_err-attempt.field-0.0 in
    subst (λ e. Accounts g.D.Disk e opening_syncs c.args.disk.now c.attempt.new.disk) (sym (ap (λ r. ending r) (handed_on c.from_residual-in_err-attempt.result f c.from_residual-in_err-attempt.ensures.1)))
    (accounts_sum g.D.Disk (fault_ending f) opening_syncs c.args.disk.now c.open.new.disk c.attempt.new.disk (omega arith) c.in_ok-store.ensures.disk.account c.in_err-attempt.ensures.does.calls.account)

pub returns-clause-looks : goal.returns-clause-looks
returns-clause-looks g c = λ told none again.
    let opened = c.open.ensures.disk.no_entry told in
    let performed = resume_reads c.args.now (g.D.Disk.state c.args.disk.now) (session g.D.Disk c.in_ok-store.store c.open.new.disk) (λ names. ReadsEntriesOf g.D.Disk names c.open.new.disk c.attempt.new.disk)
    (g.met.D.Disk.finite c.args.disk.now told) (c.in_ok-store.ensures.opens told) none c.attempt.ensures.always.looks told in
    omega (arith, opened, performed)

pub returns-clause-begins : goal.returns-clause-begins
returns-clause-begins g c = λ told.
    let first = session g.D.Disk c.in_ok-store.store c.open.new.disk in
    let now = session g.D.Disk c.attempt.new.self c.attempt.new.disk in
    let resume = c.in_ok-attempt.ensures in
    resume_done c.args.now (g.D.Disk.state c.args.disk.now) first now (g.met.D.Disk.finite c.args.disk.now told) (c.in_ok-store.ensures.opens told) (c.in_ok-store.ensures.begins told) _ _
    (c.open.ensures.at_clear told) (c.attempt.ensures.always.at_clear told) c.in_ok-attempt.field-0 (c.in_ok-store.ensures.based told) (opens_same _ _ (c.in_ok-store.ensures.ordered told)) (resume.does.reply.performs told)
    (stays_for Resume (Ok c.in_ok-attempt.field-0) first now (λ spares. resume.does.files.index spares told) resume.does.files.base
    (λ had. dated_by g.D.Disk Resume (Ok c.in_ok-attempt.field-0) c.in_ok-store.store c.attempt.new.self c.open.new.disk c.attempt.new.disk resume.does.files had told (g.met.D.Disk.sound c.open.new.disk told))) (resume.does.others.resumes refl tt told)

-- ---- the disk failed before any command

pub returns-in_err-store-clause-before : goal.returns-in_err-store-clause-before
returns-in_err-store-clause-before g c = λ failed told.
    let f = c.in_err-store.field-0.0 in
    let one = c.open.ensures.disk.account.syncs told in
    let same = ap (λ r. ending r) (handed_on c.from_residual.result f c.from_residual.ensures.1) in
    unopened_before (g.D.Disk.state c.args.disk.now) (g.D.Disk.state c.open.new.disk) (g.D.Disk.counts c.args.disk.now) (g.D.Disk.counts c.open.new.disk) one
    (c.in_err-store.ensures.fails (sym same ∙ failed) told)

pub returns-in_err-attempt-clause-before : goal.returns-in_err-attempt-clause-before
returns-in_err-attempt-clause-before g c = λ failed told.
    let f = c.in_err-attempt.field-0.0 in
    let calls = c.in_err-attempt.ensures.does.calls in
    let same = ap (λ r. ending r) (handed_on c.from_residual-in_err-attempt.result f c.from_residual-in_err-attempt.ensures.1) in
    unresumed_before g.D.Disk (g.D.Disk.state c.args.disk.now) (g.D.Disk.counts c.args.disk.now) c.open.new.disk c.attempt.new.disk (c.in_ok-store.ensures.disk.account.syncs told) (c.in_ok-store.ensures.behind told)
    (calls.once refl told) (calls.resumes_first refl (sym same ∙ failed) told)
