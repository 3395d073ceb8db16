-- An index that stays in use over the commands of a session.
use Rattle.std.specs.Prelude.{List, None, Result, [], ⊤, ◌∷◌, ◌≡◌, ◌≢◌}
use Rattle.cache_store.specs.InUse.{FewDiffer, HoldsBase, IsSameIndex, StaysOver}
use Rattle.cache_store.specs.Open.{Represents, Tells}
use Rattle.cache_store.specs.Performing.{HadEffect}
use Rattle.cache_store.specs.Session.{Session}
use Rattle.cache_store.specs.declared.fault.StoreFault.{StoreFault}
use Rattle.cache_theory.specs.Command.{Command}
use Rattle.cache_theory.specs.Command.Command.{Flush, Rebuild}
use Rattle.cache_theory.specs.Machine.{Machine}
use Rattle.cache_theory.specs.Step.{step}
use Rattle.cache_tool.specs.Dated.{IsWrittenBy}
use Rattle.disk_theory.specs.State.{State, standing}
use Rattle.disk_theory.specs.declared.place.Place.TheVariants.{Log, Tmp}
use Rattle.index_record.specs.declared.record.IndexRecord.{IndexRecord}
use Rattle.index_theory.specs.Unclean.{IsUnclean}

-- an index of these records stays in use over all of the commands
abbrev pub StaysOverAll : List IndexRecord → Machine → List Command → Type 0
StaysOverAll records m [] = ⊤
StaysOverAll records m (c ∷ cs) = StaysOver records m c × StaysOverAll records (step m c).next cs

-- before the update has ended no command writes the index but a `rebuild`, which ends it
abbrev pub IsSpared : Machine → Command → Type 0
IsSpared m Flush = m.rest ≢ []
IsSpared m Rebuild = ⊥
IsSpared m _ = ⊤

-- so for each of the commands, by the machine before it
abbrev pub AreSpared : Machine → List Command → Type 0
AreSpared m [] = ⊤
AreSpared m (c ∷ cs) = IsSpared m c × AreSpared (step m c).next cs

-- the update has ended, and few records of the scan differ from these
pub record EndsInUse (records : List IndexRecord) (m : Machine) : Type 0 where
  pub ended : m.rest ≡ []
  pub few : FewDiffer records m

-- no index is trusted, now or after a crash, and neither a journal nor a half-written index stands
pub record IsLeftUntrusted (t : State) : Type 0 where
  pub unclean : IsUnclean t
  pub no_log : standing t Log ≡ None
  pub no_tmp : standing t Tmp ≡ None

-- in a session the index of these records is in use still, and the same but for its flag
pub record IsInUse (records : List IndexRecord) (before now : Session) : Type 0 where
  pub base : HoldsBase records now.open_store.index.map
  pub same : IsSameIndex before.disk now.disk

-- so it is after one command, for a machine; and before the update has ended, whatever the records are
pub record StaysOnce (c : Command) (before : Session) (m : Machine) (now : Session) : Type 0 where
  pub in_use : (records : List IndexRecord) → Tells before m
      → HoldsBase records before.open_store.index.map → StaysOver records m c
      → IsInUse records before now
  pub unended : IsSpared m c → IsSameIndex before.disk now.disk
  -- and an index that was written has the moment of the machine
  pub dated : IsWrittenBy c (m.rest ≡ []) m.moment before.disk now.disk

-- and whatever machine the store stands for, once the command has had its effect
abbrev pub StaysFor : {T : Type 0} → Command → Result T StoreFault → Session → Session → Type 0
StaysFor c answer before now =
    (m : Machine) → Represents before m → HadEffect answer → StaysOnce c before m now
