-- The names and files of a disk in memory as a state.
use Rattle.std.specs.Prelude.{◌≡◌, ◌==◌, ℕ, Bool, false, List, ◌∷◌, reverse, length}
use Rattle.std.specs.List.{list_any}
use Rattle.disk_theory.specs.declared.place.NameStep.{NameStep}
use Rattle.disk_theory.specs.State.{State}
use Rattle.disk_model.specs.MemFile.{nth_file}
use Rattle.disk_model.specs.MemSlots.{Slots, synced_names_in}
use Rattle.disk_model.specs.declared.mem_file.MemFile.{MemFile}

-- the names at the last sync, the name steps since, of which the oldest comes first, and all files ever made
abbrev pub state_from : Slots → List NameStep → List MemFile → State
state_from slots steps files =
    record { names = synced_names_in slots; steps = reverse steps; files = nth_file files; made = length files }

-- the number is in the list
abbrev pub is_in : ℕ → List ℕ → Bool
is_in k numbers = list_any (λ n. n == k) numbers

-- a file that is not among these numbers has no writes
abbrev pub ArePending : List MemFile → List ℕ → Type 0
ArePending files written = (k : ℕ) → is_in k written ≡ false → length (nth_file files k).writes ≡ 0

-- one name step more
abbrev pub stepped : NameStep → State → State
stepped step s = record s { steps = step ∷ s.steps }
