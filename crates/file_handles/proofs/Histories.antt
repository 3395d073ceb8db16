-- A history of a machine and its marks.
use Rattle.cache_theory.specs.History.{History}
use Rattle.cache_theory.specs.Machine.{Machine}
use Rattle.cache_theory.specs.Marks.{Marks}

abbrev pub history_of : Machine → Marks → History
history_of m w = record { machine = m; marks = w }
