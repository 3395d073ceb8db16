-- Writes in memory, as the definitions see them.
use Rattle.std.specs.Prelude.{◌⊎◌, ℕ, ◌+◌, ◌-◌, ◌^◌, ◌≤◌, ◌<◌, List, [], ◌∷◌, map, reverse, length, min, Option, Some, None, Vec}
use Rattle.std.specs.declared.alloc.Global.{Global}
use Rattle.disk_theory.specs.State.{Write, File}
use Rattle.disk_theory.specs.State.Write.{End, Patch}
use Rattle.disk_model.specs.declared.mem_file.MemWrite.{MemWrite}
use Rattle.disk_model.specs.declared.mem_file.MemWrite.TheVariants.{AtEnd, Inside}

-- the write step that a write in memory stands for
abbrev pub write_of : MemWrite → Write
write_of (AtEnd from bytes) = End from bytes.items
write_of (Inside from bytes) = Patch from bytes.items

-- the write steps of writes of which the oldest comes first
abbrev pub newest_first : List MemWrite → List Write
newest_first writes = reverse (map write_of writes)

-- what was synced, and the writes since, of which the oldest comes first
abbrev pub history : List ℕ → List MemWrite → File
history synced writes = record { synced = synced; writes = newest_first writes }

-- what was synced, where a copy is kept only of what may differ
abbrev pub synced_in : List ℕ → Option (Vec ℕ Global) → List ℕ
synced_in current None = current
synced_in current (Some synced) = synced.items

-- the least offset of a write at the end, or the greatest number where there is none
abbrev pub least_end : List Write → ℕ
least_end [] = 2 ^ 64 - 1
least_end (End from bytes ∷ earlier) = min from (least_end earlier)
least_end (Patch from bytes ∷ earlier) = least_end earlier

-- it is a write inside the file that reaches the position
abbrev pub Patches : ℕ → Write → Type 0
Patches i (End from bytes) = ⊥
Patches i (Patch from bytes) = (from ≤ i) × (i < from + length bytes)

-- one of these is
abbrev pub IsPatched : ℕ → List Write → Type 0
IsPatched i [] = ⊥
IsPatched i (write ∷ earlier) = Patches i write ⊎ IsPatched i earlier
