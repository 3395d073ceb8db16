use Rattle.std.proofs.Common.{sym, ap, ◌∙◌, ◌&&◌}
use Rattle.std.specs.Str.{bytes_eq}
use Rattle.cache_base.specs.Names.{has_name}
use Rattle.handle_table.specs.Users.{is_counted}
use Rattle.handle_table.proofs.OpenNames.{added, skipped}
use Rattle.handle_table.proofs.users.asked_names.Goals as goal
use Rattle.handle_table.proofs.users.asked_names.Goals.{in-Some+then-is_asked+in_ok-push-in-Some, in-Some+else-is_asked, in-None}

pub loop-object-preserved : goal.loop-object-preserved
loop-object-preserved c = λ q.
    let which = c.args.asked in
    let objects = c.args.objects.now in
    let i = c.loop-object.object-index in
    let within = c.loop-object-test.true in
    elim c.match-object.branch [
      | in-Some+then-is_asked+in_ok-push-in-Some w ↦
          ap (λ ns. has_name ns q) (w.names-is ∙ w.in_ok-push-in-Some.ensures.ok)
          ∙ added which objects i c.object-item.result q within c.loop-object.names w.in-Some.object
          (sym c.object-item.is ∙ w.in-Some.is) (sym w.if-is_asked.ensures) (c.loop-object.invariant q)
      | in-Some+else-is_asked w ↦
          ap (λ ns. has_name ns q) w.names-is ∙ c.loop-object.invariant q
          ∙ skipped which objects i c.object-item.result q within
          (ap (is_counted which q) (sym c.object-item.is ∙ w.in-Some.is) ∙ ap (λ b. b && bytes_eq w.in-Some.object.name.0 q.0) (sym w.if-is_asked.ensures))
      | in-None w ↦
          ap (λ ns. has_name ns q) w.names-is ∙ c.loop-object.invariant q
          ∙ skipped which objects i c.object-item.result q within (ap (is_counted which q) (sym c.object-item.is ∙ w.in-None.is))
    ]
