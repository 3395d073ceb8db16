-- Whether two places are one.
use Rattle.std.specs.Prelude.{Bool, true, false, ◌==◌, bytes_eq}
use Rattle.disk_theory.specs.declared.place.Place.{Place}
use Rattle.disk_theory.specs.declared.place.Place.TheVariants.{Entry, Doomed, Index, Log, Tmp, Clear}

-- whether the two are one place
abbrev pub is_same : Place → Place → Bool
is_same (Entry a) (Entry b) = bytes_eq a.0 b.0
is_same (Doomed a) (Doomed b) = a == b
is_same Index Index = true
is_same Log Log = true
is_same Tmp Tmp = true
is_same Clear Clear = true
is_same _ _ = false
