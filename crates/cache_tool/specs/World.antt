-- What the program has of the outside at a moment.
use Rattle.std.specs.Prelude.{List, Option, ℕ}
use Rattle.cache_io.specs.declared.sink.Sink.{Ghosts as OfSink}
use Rattle.cache_io.specs.declared.source.Source.{Ghosts as OfSource}
use Rattle.cache_store.specs.Session.{Session, open_of}
use Rattle.cache_store.specs.declared.store.Store.{Store}
use Rattle.disk_theory.specs.Calls.{Counts}
use Rattle.disk_theory.specs.State.{State}
use Rattle.disk_theory.specs.declared.disk.Disk.{Ghosts as OfDisk}

-- what a source has left, and how often it has failed
pub record Supply : Type 0 where
  pub left : Option (List ℕ)
  pub faults : ℕ

-- that of a source as it is now
abbrev pub supply : {A : _} → OfSource A → A → Supply
supply S source = record { left = S.left source; faults = S.faults source }

-- what a sink took, and how often it has failed; what a disk holds, how often it has failed, and its counts
pub record Output : Type 0 where
  pub taken : Option (List ℕ)
  pub sink_faults : ℕ
  pub disk : State
  pub disk_faults : ℕ
  pub disk_counts : Counts

-- that of a sink and a disk as they are now
abbrev pub output : {A B : _} → OfSink A → OfDisk B → A → B → Output
output K D sink disk = record {
  taken = K.taken sink;
  sink_faults = K.faults sink;
  disk = D.state disk;
  disk_faults = D.faults disk;
  disk_counts = D.counts disk;
}

-- a source, a sink and a disk
pub record World : Type 0 where
  pub source : Supply
  pub taken : Option (List ℕ)
  pub sink_faults : ℕ
  pub disk : State
  pub disk_faults : ℕ
  pub disk_counts : Counts

-- that of these three as they are now
abbrev pub world : {A B C : _} → OfSource A → OfSink B → OfDisk C → A → B → C → World
world S K D source sink disk = record {
  source = supply S source;
  taken = K.taken sink;
  sink_faults = K.faults sink;
  disk = D.state disk;
  disk_faults = D.faults disk;
  disk_counts = D.counts disk;
}

-- it without its source
abbrev pub output_of : World → Output
output_of w = record {
  taken = w.taken;
  sink_faults = w.sink_faults;
  disk = w.disk;
  disk_faults = w.disk_faults;
  disk_counts = w.disk_counts;
}

-- the same in a session: a store is open over the disk
pub record Progress : Type 0 where
  pub source : Supply
  pub taken : Option (List ℕ)
  pub session : Session
  pub disk_faults : ℕ
  pub disk_counts : Counts

-- that of a store over these three as they are now
abbrev pub progress : {A B C : _} → OfSource A → OfSink B → OfDisk C → Store → A → B → C → Progress
progress S K D store source sink disk = record {
  source = supply S source;
  taken = K.taken sink;
  session = record { open_store = open_of store; disk = D.state disk };
  disk_faults = D.faults disk;
  disk_counts = D.counts disk;
}

-- it without what the store is, where the sink has failed so often and the disk has these counts
abbrev pub world_of : Progress → ℕ → Counts → World
world_of p faults counts = record {
  source = p.source;
  taken = p.taken;
  sink_faults = faults;
  disk = p.session.disk;
  disk_faults = p.disk_faults;
  disk_counts = counts;
}

-- the same without a source
pub record Sitting : Type 0 where
  pub taken : Option (List ℕ)
  pub session : Session
  pub disk_faults : ℕ
  pub disk_counts : Counts

-- progress without its source
abbrev pub sitting_of : Progress → Sitting
sitting_of p = record {
  taken = p.taken;
  session = p.session;
  disk_faults = p.disk_faults;
  disk_counts = p.disk_counts;
}
