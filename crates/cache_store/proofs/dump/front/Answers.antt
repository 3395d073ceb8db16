use Rattle.std.proofs.Common.{ap, arith}
use Rattle.std.specs.Prelude.{length}
use Rattle.cache_theory.proofs.Versions.{is_key}
use Rattle.cache_store.proofs.dump.front.Goals as goal

pub item_front-requires : goal.item_front-requires
item_front-requires c =
    let short = (is_key c.args.meta.now.key c.requires).short in
    let same = ap length c.as_slice.ensures in
    omega (arith, short, same)
