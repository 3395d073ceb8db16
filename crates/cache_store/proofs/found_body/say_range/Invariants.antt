use Rattle.std.proofs.Common.{◌≡◌, ◌-◌, ◌<◌, ◌≤◌, ◌/◌}
use Rattle.std.specs.Bool.{IsTrue}
use Rattle.cache_base.specs.Limits.{chunk_size}
use Rattle.disk_theory.specs.Account.{IsCalm, no_sync}
use Rattle.disk_theory.specs.State.{standing}
use Rattle.file_handles.specs.Kept.{kept}
use Rattle.cache_store.specs.Prefix.{ForPrefix, HasChunkAt, range_of}
use Rattle.cache_replies.specs.Said.{saying}
use Rattle.cache_replies.specs.Saying.{SaysMore}
use Rattle.cache_store.proofs.Reading.BodyRanges.{next_at}
use Rattle.cache_store.proofs.found_body.say_range.Given as goal

-- the bytes so far were said, the chunk of the first is held until then, and nothing else was done
abbrev pub invariant-loop-at : goal.invariant-loop-at
invariant-loop-at g l = record {
  says : IsTrue g.D.Disk.tells → ForPrefix (g.D.Disk.state l.fn.disk) l.range.place.now l.range.len (λ body.
      SaysMore (saying g.K.Sink l.fn.reply l.fn.sink) (saying g.K.Sink l.reply l.sink) (range_of l.range.from l.at body));
  behind : l.range.from ≤ l.at;
  before : l.at ≤ l.range.to;
  done : l.range.from < l.at → next_at l.range.from l.range.to ≤ l.at;
  later : l.range.from < l.at → l.at < l.range.to → 0 < l.at / chunk_size;
  kept : kept l.handles ≡ kept l.fn.handles;
  first : IsTrue g.D.Disk.tells → l.at ≡ l.range.from → l.range.from < l.range.to → HasChunkAt (standing (g.D.Disk.state l.fn.disk) l.range.place.now) l.range.len (l.at / chunk_size) l.handles.chunk;
  state : IsTrue g.D.Disk.tells → g.D.Disk.state l.disk ≡ g.D.Disk.state l.fn.disk;
  calm : IsCalm g.D.Disk no_sync l.fn.disk l.disk;
  unsynced : IsTrue g.D.Disk.tells → (g.D.Disk.counts l.disk).syncs ≡ (g.D.Disk.counts l.fn.disk).syncs;
  sink : g.K.Sink.faults l.sink ≡ g.K.Sink.faults l.fn.sink;
}

abbrev pub decreases-loop-at : goal.decreases-loop-at
decreases-loop-at g l = l.range.to - l.at
