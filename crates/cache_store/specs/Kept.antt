-- What an open store keeps of the machine, of the files of the index, and of the mark of a clearing.
use Rattle.std.specs.Prelude.{◌≡◌}
use Rattle.cache_store.specs.Session.{Session}
use Rattle.cache_theory.specs.Machine.{Machine}
use Rattle.disk_theory.specs.State.{State, standing}
use Rattle.disk_theory.specs.declared.place.Place.TheVariants.{Clear}
use Rattle.index_map.specs.Known.{Known}
use Rattle.index_theory.specs.Apart.{IsApart}
use Rattle.index_theory.specs.Unclean.{IsUnclean}
use Rattle.index_update.specs.Rest.{name_bytes}
use Rattle.startup_read.specs.Kept.{KeepsIndex}

-- neither a journal nor a half-written index stands, `index` spells the base of the map, if it has one, and no crash
-- leaves an index that is trusted
pub record HoldsIndex (s : State) (map : Known) : Type 0 where
  pub files : KeepsIndex s map
  pub apart : IsApart s
  pub unclean : IsUnclean s

-- the moment and the rest of the update are the machine's, as is what stands at `clear`, and the disk holds the index
pub record Matches (now : Session) (m : Machine) : Type 0 where
  pub moment : m.moment ≡ now.open_store.moment
  pub rest : m.rest ≡ name_bytes now.open_store.index.update
  pub mark : m.mark ≡ standing now.disk Clear
  pub holds : HoldsIndex now.disk now.open_store.index.map
