use Rattle.cache_base.proofs.NameLaws.{rising_sorted}
use Rattle.cache_store.proofs.clear.is_held.Goals as goal

pub has_name-requires : goal.has_name-requires
has_name-requires c = rising_sorted c.args.rising.now c.requires
