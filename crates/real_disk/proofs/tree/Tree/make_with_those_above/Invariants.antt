use Rattle.pending_syncs.specs.Folders.{NoneLost}
use Rattle.real_disk.specs.Roots.{HasSameRoot}
use Rattle.real_disk.proofs.tree.Tree.make_with_those_above.Given as goal

abbrev pub invariant-above : goal.invariant-above
invariant-above g l = (goal.iterator-above g).can_next l.end-iterator × (goal.iterator-above g).is_finite l.end-iterator × NoneLost l.initial.self.folders l.self.folders × HasSameRoot l.initial.self l.self
