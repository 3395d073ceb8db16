use Rattle.std.proofs.Common.{◌≡◌, take}
use Rattle.std.specs.Prelude.{IfSome}
use Rattle.std.specs.Bool.{IsTrue}
use Rattle.cache_base.specs.Limits.{chunks}
use Rattle.chunk_store.specs.Chunks.{damage_at}
use Rattle.disk_theory.specs.State.{standing}
use Rattle.entry_file.specs.Damages.{first_damage}
use Rattle.entry_file.specs.Held.{IsLastOf}
use Rattle.entry_file.specs.Looks.{LooksAtMost}
use Rattle.entry_metadata.specs.Meta.{meta_of}
use Rattle.entry_file.proofs.Damaged.{first_from}
use Rattle.entry_file.proofs.body.check_body.Given as goal

-- no chunk so far differs, the last of them is in the buffer, and nothing has changed
abbrev pub invariant-loop-index : goal.invariant-loop-index
invariant-loop-index g l =
    (IsTrue g.D.Disk.tells → IfSome (standing (g.D.Disk.state l.fn.disk) l.place) (λ content.
    first_damage (meta_of l.meta) content ≡ first_from (damage_at l.meta.hashes (take l.meta.offset content)) l.index (chunks l.meta.offset)))
    × (IsTrue g.D.Disk.tells → IsLastOf l.index (standing (g.D.Disk.state l.fn.disk) l.place) l.meta.offset l.buf)
    × (IsTrue g.D.Disk.tells → g.D.Disk.state l.disk ≡ g.D.Disk.state l.fn.disk)
    × (IsTrue g.D.Disk.tells → LooksAtMost l.index (g.D.Disk.counts l.fn.disk) (g.D.Disk.counts l.disk))
    × (g.D.Disk.faults l.disk ≡ g.D.Disk.faults l.fn.disk)
