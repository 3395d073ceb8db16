use Rattle.std.proofs.Common.{◌-◌, ◌≡◌, ◌<◌, ◌≤◌, [], IsTrue, drop, length, take}
use Rattle.disk_theory.specs.Account.{IsCalm, no_sync}
use Rattle.file_handles.specs.Cache.{cache}
use Rattle.file_handles.specs.Kept.{kept}
use Rattle.file_handles.specs.Reading.{ForBody, HoldsAsBefore, LosesNone, SameButChunks, part_of_body}
use Rattle.cache_store.specs.Reads.{AreHeld, LastIsFirst}
use Rattle.cache_replies.specs.Said.{saying}
use Rattle.cache_replies.specs.Saying.{SaysMore}
use Rattle.cache_store.proofs.read.say_parts.Given as goal

-- the bytes so far were said, of them the first part at least, and nothing else was done; before more is said all is
-- out
abbrev pub invariant-loop-done : goal.invariant-loop-done
invariant-loop-done g l = record {
  bound : l.done ≤ l.span.len;
  says : IsTrue g.D.Disk.tells → ForBody (cache g.D.Disk l.fn.handles l.fn.disk) l.span.slot (λ body.
      SaysMore (saying g.K.Sink l.fn.reply l.fn.sink) (saying g.K.Sink l.reply l.sink) (take l.done (drop l.span.from body)));
  start : l.done ≡ 0 → kept l.handles ≡ kept l.fn.handles;
  out : 0 < l.done → l.done < l.span.len → l.reply.held ≡ [];
  long : IsTrue g.D.Disk.tells → ForBody (cache g.D.Disk l.fn.handles l.fn.disk) l.span.slot (λ body. 0 < l.done → length (part_of_body body l.span.from l.span.len) ≤ l.done);
  same : SameButChunks (kept l.fn.handles) (kept l.handles);
  holds : IsTrue g.D.Disk.tells → HoldsAsBefore (cache g.D.Disk l.fn.handles l.fn.disk) (kept l.handles);
  held : AreHeld (kept l.fn.handles) l.span.slot l.span.from l.span.len → (l.disk ≡ l.fn.disk) × LosesNone (kept l.fn.handles) (kept l.handles);
  recent : IsTrue g.D.Disk.tells → LastIsFirst (kept l.fn.handles) l.span.slot l.span.from l.done (kept l.handles);
  state : IsTrue g.D.Disk.tells → g.D.Disk.state l.disk ≡ g.D.Disk.state l.fn.disk;
  calm : IsCalm g.D.Disk no_sync l.fn.disk l.disk;
  unsynced : IsTrue g.D.Disk.tells → (g.D.Disk.counts l.disk).syncs ≡ (g.D.Disk.counts l.fn.disk).syncs;
  sink : g.K.Sink.faults l.sink ≡ g.K.Sink.faults l.fn.sink;
}

abbrev pub decreases-loop-done : goal.decreases-loop-done
decreases-loop-done g l = l.span.len - l.done
