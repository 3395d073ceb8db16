use Rattle.std.proofs.Common.{Err, Ok, ap, arith, refl}
use Rattle.cache_script.specs.Command.{command_of}
use Rattle.cache_store.specs.Outcomes.{verdict_of}
use Rattle.cache_store.specs.Clearing.{origin_cleared}
use Rattle.cache_store.proofs.SyncLaws.{of_most}
use Rattle.cache_store.specs.Session.{open_of, session}
use Rattle.cache_store.specs.StoppedClearing.{ClearsUnderMark}
use Rattle.cache_replies.specs.declared.verdict.Verdict.{Verdict}
use Rattle.cache_tool.specs.Tally.{tally}
use Rattle.cache_tool.specs.World.{progress, supply}
use Rattle.cache_tool.proofs.Accounted.{answer_accounted, command_accounted}
use Rattle.cache_tool.proofs.Answering.{answer_later, answer_rose, answer_stops, answer_went_on, answers_next}
use Rattle.cache_tool.proofs.Clearings.{with_told}
use Rattle.cache_tool.proofs.Dated.{dated_by}
use Rattle.cache_tool.proofs.Handed.{handed_open}
use Rattle.cache_tool.proofs.RightLaws.{open_leaves_honest}
use Rattle.cache_tool.proofs.Scripts.ScriptTurns.{gives_none, gives_one, turn_bad, turn_err, turn_failed, turn_on, turn_whole}
use Rattle.cache_tool.proofs.StayingLaws.{stays_for}
use Rattle.disk_theory.specs.State.{standing}
use Rattle.disk_theory.specs.declared.place.Place.TheVariants.{Clear}
use Rattle.cache_tool.proofs.script.perform_next.Goals as goal

pub returns-in_err-command-in-Ok-Some-clause-performs : goal.returns-in_err-command-in-Ok-Some-clause-performs
returns-in_err-command-in-Ok-Some-clause-performs g c =
    let gives = gives_one c.args.reader.now c.next_command.follows.lender-at-none (g.S.Source.left c.args.source.now) (g.S.Source.left c.next_command.new.source) c.next_command.result c.in-Ok-Some.field-0 c.in-Ok-Some.command
    c.in-Ok-Some.is c.in-Ok-Some.field-0-is c.next_command.follows.holds-at-none in
    let command = c.in_err-command-in-Ok-Some.ensures in
    let answers = answers_next g.D.Disk (Err c.in_err-command-in-Ok-Some.field-0.0) c.args.store.now c.command.new.self c.args.disk.now c.command.new.disk (g.K.Sink.taken c.args.sink.now) (g.K.Sink.taken c.command.new.sink)
    command.faults (λ calm. (command.does calm).calls.account) (command_of c.in-Ok-Some.command) (λ calm told. (command.does calm).reply.performs told)
    (λ calm told. stays_for {T = Verdict} (command_of c.in-Ok-Some.command) (Err c.in_err-command-in-Ok-Some.field-0.0) (session g.D.Disk c.args.store.now c.args.disk.now) (session g.D.Disk c.command.new.self c.command.new.disk)
    (λ spares. (command.does calm).files.index spares told) (command.does calm).files.base
    (λ had. dated_by g.D.Disk (command_of c.in-Ok-Some.command) (Err c.in_err-command-in-Ok-Some.field-0.0) c.args.store.now c.command.new.self c.args.disk.now c.command.new.disk (command.does calm).files had told (g.met.D.Disk.sound c.args.disk.now told))) command.fails in
    turn_err g.D.Disk.tells c.args.reader.now c.next_command.follows.lender-at-none _ _ (command_of c.in-Ok-Some.command) gives command.always.at_clear (λ told. with_told (origin_cleared (command_of c.in-Ok-Some.command) (standing (g.D.Disk.state c.args.disk.now) Clear)) (λ origin. ClearsUnderMark origin (session g.D.Disk c.args.store.now c.args.disk.now) (g.D.Disk.state c.command.new.disk)) told command.always.stopped)
    (λ told. let made = command.always.syncs told in let most = of_most (open_of c.args.store.now).handles (command_of c.in-Ok-Some.command) in omega (arith, made, most)) c.in_err-command-in-Ok-Some.field-0.0
    c.from_residual.result c.from_residual.ensures.1 answers

pub returns-in_ok-command-in-Ok-Some-clause-performs : goal.returns-in_ok-command-in-Ok-Some-clause-performs
returns-in_ok-command-in-Ok-Some-clause-performs g c =
    let gives = gives_one c.args.reader.now c.next_command.follows.lender-at-none (g.S.Source.left c.args.source.now) (g.S.Source.left c.next_command.new.source) c.next_command.result c.in-Ok-Some.field-0 c.in-Ok-Some.command
    c.in-Ok-Some.is c.in-Ok-Some.field-0-is c.next_command.follows.holds-at-none in
    let command = c.in_ok-command-in-Ok-Some.ensures in
    let v = verdict_of c.in_ok-command-in-Ok-Some.field-0 in
    let answers = answers_next g.D.Disk (Ok c.in_ok-command-in-Ok-Some.field-0) c.args.store.now c.command.new.self c.args.disk.now c.command.new.disk (g.K.Sink.taken c.args.sink.now) (g.K.Sink.taken c.command.new.sink)
    command.faults (λ calm. (command.does calm).calls.account) (command_of c.in-Ok-Some.command) (λ calm told. (command.does calm).reply.performs told)
    (λ calm told. stays_for {T = Verdict} (command_of c.in-Ok-Some.command) (Ok v) (session g.D.Disk c.args.store.now c.args.disk.now) (session g.D.Disk c.command.new.self c.command.new.disk)
    (λ spares. (command.does calm).files.index spares told) (command.does calm).files.base
    (λ had. dated_by g.D.Disk (command_of c.in-Ok-Some.command) (Ok v) c.args.store.now c.command.new.self c.args.disk.now c.command.new.disk (command.does calm).files had told (g.met.D.Disk.sound c.args.disk.now told))) command.fails in
    turn_on g.D.Disk.tells c.args.reader.now c.next_command.follows.lender-at-none _ _ (command_of c.in-Ok-Some.command) gives command.always.at_clear (λ told. with_told (origin_cleared (command_of c.in-Ok-Some.command) (standing (g.D.Disk.state c.args.disk.now) Clear)) (λ origin. ClearsUnderMark origin (session g.D.Disk c.args.store.now c.args.disk.now) (g.D.Disk.state c.command.new.disk)) told command.always.stopped)
    (λ told. let made = command.always.syncs told in let most = of_most (open_of c.args.store.now).handles (command_of c.in-Ok-Some.command) in omega (arith, made, most)) v answers

pub returns-in-Ok-None-clause-performs : goal.returns-in-Ok-None-clause-performs
returns-in-Ok-None-clause-performs g c =
    turn_whole g.D.Disk.tells c.args.reader.now c.next_command.follows.lender-at-none (progress g.S.Source g.K.Sink g.D.Disk c.args.store.now c.args.source.now c.args.sink.now c.args.disk.now)
    (supply g.S.Source c.next_command.new.source)
    (gives_none c.args.reader.now c.next_command.follows.lender-at-none _ _ c.next_command.result c.in-Ok-None.field-0 c.in-Ok-None.is c.in-Ok-None.field-0-is c.next_command.follows.holds-at-none)

pub returns-in-Err-Source-clause-performs : goal.returns-in-Err-Source-clause-performs
returns-in-Err-Source-clause-performs g c =
    turn_failed g.D.Disk.tells c.args.reader.now c.next_command.follows.lender-at-none (progress g.S.Source g.K.Sink g.D.Disk c.args.store.now c.args.source.now c.args.sink.now c.args.disk.now)
    (supply g.S.Source c.next_command.new.source) (c.in-Err-Source.ensures.failed (ap Err c.in-Err-Source.field-0-is))

pub returns-in-Err-Script-clause-performs : goal.returns-in-Err-Script-clause-performs
returns-in-Err-Script-clause-performs g c =
    let bad = rw c.in-Err-Script.field-0-is at c.in-Err-Script.ensures.bad in
    rw c.in-Err-Script.field-0-is
    (turn_bad g.D.Disk.tells c.args.reader.now c.next_command.follows.lender-at-none (progress g.S.Source g.K.Sink g.D.Disk c.args.store.now c.args.source.now c.args.sink.now c.args.disk.now)
    (supply g.S.Source c.next_command.new.source) c.in-Err-Script.number bad.0 bad.1)

pub returns-in_err-command-in-Ok-Some-clause-open : goal.returns-in_err-command-in-Ok-Some-clause-open
returns-in_err-command-in-Ok-Some-clause-open g c = λ told.
    handed_open c.from_residual.result c.in_err-command-in-Ok-Some.field-0.0 (session g.D.Disk c.command.new.self c.command.new.disk) c.from_residual.ensures.1 (c.in_err-command-in-Ok-Some.ensures.always.stays_open told)

-- the faults are accounted for
pub returns-in_err-command-in-Ok-Some-clause-account : goal.returns-in_err-command-in-Ok-Some-clause-account
returns-in_err-command-in-Ok-Some-clause-account g c =
    let at = tally g.S.Source g.K.Sink g.D.Disk in
    let command = c.in_err-command-in-Ok-Some.ensures in
    let f = c.in_err-command-in-Ok-Some.field-0.0 in
    let taken = g.K.Sink.taken c.args.sink.now in
    let later = g.K.Sink.taken c.command.new.sink in
    command_accounted c.from_residual.result f (at c.args.source.now c.args.sink.now c.args.disk.now) (at c.next_command.new.source c.command.new.sink c.command.new.disk)
    c.from_residual.ensures.1 (c.in-Ok-Some.ensures.cause.kept (λ failed. cc)) command.always.sink
    (answer_later g.D.Disk (Err f) c.args.store.now c.command.new.self c.args.disk.now c.command.new.disk taken later command.faults (λ calm. (command.does calm).calls.account))
    (answer_rose g.D.Disk f c.args.store.now c.command.new.self c.args.disk.now c.command.new.disk taken later command.faults (λ calm. (command.does calm).calls.account))
    (answer_went_on g.D.Disk (Err f) c.args.store.now c.command.new.self c.args.disk.now c.command.new.disk taken later command.faults (λ calm. (command.does calm).calls.account))
    (answer_stops g.D.Disk (Err f) c.args.store.now c.command.new.self c.args.disk.now c.command.new.disk taken later command.faults (λ calm. (command.does calm).calls.account))

pub returns-in_ok-command-in-Ok-Some-clause-account : goal.returns-in_ok-command-in-Ok-Some-clause-account
returns-in_ok-command-in-Ok-Some-clause-account g c =
    let at = tally g.S.Source g.K.Sink g.D.Disk in
    let command = c.in_ok-command-in-Ok-Some.ensures in
    let o = c.in_ok-command-in-Ok-Some.field-0 in
    let taken = g.K.Sink.taken c.args.sink.now in
    let later = g.K.Sink.taken c.command.new.sink in
    answer_accounted o (at c.args.source.now c.args.sink.now c.args.disk.now) (at c.next_command.new.source c.command.new.sink c.command.new.disk)
    (c.in-Ok-Some.ensures.cause.kept (λ failed. cc)) command.always.sink
    (answer_later g.D.Disk (Ok o) c.args.store.now c.command.new.self c.args.disk.now c.command.new.disk taken later command.faults (λ calm. (command.does calm).calls.account))
    (answer_went_on g.D.Disk (Ok o) c.args.store.now c.command.new.self c.args.disk.now c.command.new.disk taken later command.faults (λ calm. (command.does calm).calls.account) refl)
    (answer_stops g.D.Disk (Ok o) c.args.store.now c.command.new.self c.args.disk.now c.command.new.disk taken later command.faults (λ calm. (command.does calm).calls.account))

pub returns-in-Ok-None-clause-honest : goal.returns-in-Ok-None-clause-honest
returns-in-Ok-None-clause-honest g c = λ told. open_leaves_honest (session g.D.Disk c.args.store.now c.args.disk.now) (c.requires.told told)

pub returns-in-Err-Source-clause-honest : goal.returns-in-Err-Source-clause-honest
returns-in-Err-Source-clause-honest g c = λ told. open_leaves_honest (session g.D.Disk c.args.store.now c.args.disk.now) (c.requires.told told)

pub returns-in-Err-Script-clause-honest : goal.returns-in-Err-Script-clause-honest
returns-in-Err-Script-clause-honest g c = λ told. open_leaves_honest (session g.D.Disk c.args.store.now c.args.disk.now) (c.requires.told told)
