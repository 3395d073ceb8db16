use Rattle.std.proofs.Common.{◌≡◌, ◌⊎◌, ℕ, true, length, drop}
use Rattle.disk_model.specs.MemFile.{nth_file, at_rest}
use Rattle.disk_model.specs.MemState.{is_in}
use Rattle.disk_model.proofs.mem_table.settle_files.Given as goal

abbrev pub invariant-loop-number : goal.invariant-loop-number
invariant-loop-number l =
    (length l.files ≡ length l.fn.files)
    × ((k : ℕ) → (nth_file l.files k ≡ at_rest (nth_file l.fn.files k)) ⊎ ((nth_file l.files k ≡ nth_file l.fn.files k) × (is_in k (drop l.number-index l.written) ≡ true)))
