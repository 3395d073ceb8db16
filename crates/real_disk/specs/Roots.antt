-- Where the folder of the cache is.
use Rattle.std.specs.Prelude.{◌≡◌}
use Rattle.real_disk.specs.declared.tree.Tree.{Tree}

-- it is the folder of the same machine, with the same numbers passed over
pub record HasSameRoot {R File Dir : Type 0} (before now : Tree R File Dir) : Type 0 where
  pub rt : now.rt ≡ before.rt
  pub dir : now.dir ≡ before.dir
  pub numbers : now.numbers ≡ before.numbers
