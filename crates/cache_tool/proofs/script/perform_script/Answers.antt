use Rattle.std.proofs.Common.{Err, ap}
use Rattle.cache_store.specs.Session.{session}
use Rattle.cache_tool.specs.Script.{bad_line}
use Rattle.cache_tool.specs.World.{progress}
use Rattle.cache_tool.proofs.Growing.{takes_cut, takes_on, takes_text}
use Rattle.cache_tool.proofs.Handed.{handed_open}
use Rattle.cache_tool.proofs.RightLaws.{open_leaves_honest}
use Rattle.cache_tool.proofs.Scripts.ScriptWhole.{ran_bad, ran_bad_cut, ran_broke, ran_failed, ran_nothing, ran_whole}
use Rattle.cache_tool.proofs.script.perform_script.Goals as goal

pub returns-in_err-reader-clause-performs : goal.returns-in_err-reader-clause-performs
returns-in_err-reader-clause-performs g c = λ told. ran_nothing c.from_residual.result _ c.from_residual.ensures.1

pub returns-in_err-perform_commands-clause-performs : goal.returns-in_err-perform_commands-clause-performs
returns-in_err-perform_commands-clause-performs g c = λ told.
    ran_broke _ _ c.from_residual-in_err-perform_commands.result c.in_err-perform_commands.field-0.0 c.from_residual-in_err-perform_commands.ensures.1 (rw told at c.in_err-perform_commands.ensures.performs)

pub returns-in-Whole-clause-performs : goal.returns-in-Whole-clause-performs
returns-in-Whole-clause-performs g c = λ told. ran_whole _ _ (rw told at (rw c.in-Whole.is at c.in_ok-perform_commands.ensures.performs))

pub returns-in-Failed-clause-performs : goal.returns-in-Failed-clause-performs
returns-in-Failed-clause-performs g c = λ told. ran_failed _ _ (rw told at (rw c.in-Failed.is at c.in_ok-perform_commands.ensures.performs))

pub returns-in_err-say_bad-in-Bad-clause-performs : goal.returns-in_err-say_bad-in-Bad-clause-performs
returns-in_err-say_bad-in-Bad-clause-performs g c = λ told.
    let mid = c.perform_commands.new in
    ran_bad_cut _ (progress g.S.Source g.K.Sink g.D.Disk mid.store mid.source mid.sink mid.disk) _ c.in-Bad.number c.from_residual-in_err-say_bad-in-Bad.result c.in_err-say_bad-in-Bad.field-0.0
    c.from_residual-in_err-say_bad-in-Bad.ensures.1 (rw told at (rw c.in-Bad.is at c.in_ok-perform_commands.ensures.performs)) c.in_err-say_bad-in-Bad.ensures.cut
    (λ e. c.in_err-say_bad-in-Bad.ensures.no_disk (ap (λ x. Err x) e))

pub returns-clause-performs : goal.returns-clause-performs
returns-clause-performs g c = λ told.
    let mid = c.perform_commands.new in
    ran_bad _ (progress g.S.Source g.K.Sink g.D.Disk mid.store mid.source mid.sink mid.disk) _ c.in-Bad.number (rw told at (rw c.in-Bad.is at c.in_ok-perform_commands.ensures.performs)) c.in_ok-say_bad-in-Bad.ensures.said

pub returns-in_err-perform_commands-clause-open : goal.returns-in_err-perform_commands-clause-open
returns-in_err-perform_commands-clause-open g c = λ told.
    handed_open c.from_residual-in_err-perform_commands.result c.in_err-perform_commands.field-0.0 (session g.D.Disk c.perform_commands.new.store c.perform_commands.new.disk) c.from_residual-in_err-perform_commands.ensures.1
    (c.in_err-perform_commands.ensures.open told)

pub returns-in_err-reader-clause-honest : goal.returns-in_err-reader-clause-honest
returns-in_err-reader-clause-honest g c = λ told. open_leaves_honest (session g.D.Disk c.args.store.now c.args.disk.now) (c.requires.told told)

pub returns-in_err-say_bad-in-Bad-clause-grows : goal.returns-in_err-say_bad-in-Bad-clause-grows
returns-in_err-say_bad-in-Bad-clause-grows g c = λ told.
    let mid = g.K.Sink.taken c.perform_commands.new.sink in
    let now = g.K.Sink.taken c.say_bad.new.sink in
    takes_on (g.K.Sink.taken c.args.sink.now) mid now (c.perform_commands.ensures.grows told) (takes_cut mid now (bad_line c.in-Bad.number) c.in_err-say_bad-in-Bad.ensures.cut)

pub returns-clause-grows : goal.returns-clause-grows
returns-clause-grows g c = λ told.
    let mid = g.K.Sink.taken c.perform_commands.new.sink in
    let now = g.K.Sink.taken c.say_bad.new.sink in
    takes_on (g.K.Sink.taken c.args.sink.now) mid now (c.perform_commands.ensures.grows told) (takes_text mid now (bad_line c.in-Bad.number) c.in_ok-say_bad-in-Bad.ensures.said)
