use Rattle.std.proofs.Common.{◌≡◌, ◌⊎◌, ℕ, ◌<◌, get_or}
use Rattle.disk_theory.specs.Image.{IsReached}
use Rattle.disk_model.specs.MemFile.{file_of}
use Rattle.disk_model.proofs.mem_file.MemFile.may_hold.Given as goal

abbrev pub invariant-loop-at : goal.invariant-loop-at
invariant-loop-at l = (i : ℕ) → i < l.at → IsReached i (file_of l.self).writes ⊎ (get_or l.content i 0 ≡ get_or (file_of l.self).synced i 0)
