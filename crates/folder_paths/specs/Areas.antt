-- The folders that places lie in.
use Rattle.disk_theory.specs.declared.place.Place.{Place}
use Rattle.disk_theory.specs.declared.place.Place.TheVariants.{Entry, Doomed as InDoomed, Index, Log, Tmp, Clear}
use Rattle.folder_paths.specs.declared.paths.Area.{Area}
use Rattle.folder_paths.specs.declared.paths.Area.TheVariants.{Top, Entries, Doomed}

-- the folder that the file of a place lies in
abbrev pub area_in : Place → Area
area_in (Entry name) = Entries
area_in (InDoomed number) = Doomed
area_in Index = Top
area_in Log = Top
area_in Tmp = Top
area_in Clear = Top
