use Rattle.cache_script.specs.Command.{command_of}
use Rattle.cache_store.specs.Open.{Tells}
use Rattle.cache_store.specs.Session.{session}
use Rattle.cache_store.proofs.Performing.Represented.{represents}
use Rattle.cache_tool.specs.HeldReply.{said_in}
use Rattle.cache_tool.proofs.Dated.{dated_by}
use Rattle.cache_tool.proofs.DoneLaws.{done_right}
use Rattle.cache_tool.proofs.ForGood.{disk_of, no_front}
use Rattle.cache_tool.proofs.MarkLeft.{may_mark}
use Rattle.cache_tool.proofs.Puts.PutReplies.{sends_of}
use Rattle.cache_tool.proofs.StayingLaws.{stays_done, stays_for}
use Rattle.cache_tool.proofs.put.send.Goals as goal

pub returns-clause-sends : goal.returns-clause-sends
returns-clause-sends g c = λ told. record {
  each = λ h keeps.
      let before = session g.D.Disk c.args.store.now c.args.disk.now in
      let now = session g.D.Disk c.attempt.new.self c.attempt.new.disk in
      let does = (c.attempt.ensures.does.reply.performs told).crash h keeps in
      let done = done_right before (command_of c.args.c.now) h.machine does.0 does.1.0 in
      let stays = stays_for (command_of c.args.c.now) c.attempt.result before now (λ spares. c.attempt.ensures.does.files.index spares told) c.attempt.ensures.does.files.base
      (λ had. dated_by g.D.Disk (command_of c.args.c.now) c.attempt.result c.args.store.now c.attempt.new.self c.args.disk.now c.attempt.new.disk c.attempt.ensures.does.files had told (g.met.D.Disk.sound c.args.disk.now told)) in (
        does.0,
        (
          done,
          sends_of does.0 h _ _ _ (said_in c.clear.new.self) (said_in c.attempt.new.sink) c.clear.ensures does.1.1.performs does.1.1.keeps
              (λ had. stays_done (Tells before h.machine) (command_of c.args.c.now) before h.machine now does.0 done (stays h.machine (represents keeps) had)),
        ),
      );
  mark = may_mark (command_of c.args.c.now) _ _ (c.attempt.ensures.always.at_clear told);
}

pub returns-clause-change : goal.returns-clause-change
returns-clause-change g c = λ calm bare other failed told.
    no_front (g.D.Disk.counts c.attempt.new.disk) (command_of c.args.c.now) (session g.D.Disk c.args.store.now c.args.disk.now) _ _ bare (c.requires.told told)
    (c.attempt.ensures.fails calm other (disk_of c.attempt.result failed) told)
