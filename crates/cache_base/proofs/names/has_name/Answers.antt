use Rattle.std.proofs.Common.{◌∙◌}
use Rattle.cache_base.proofs.NameLaws.{searched}
use Rattle.cache_base.proofs.names.has_name.Goals as goal

pub returns : goal.returns
returns c =
    c.is_ok.ensures.value
    ∙ searched c.args.sorted.now c.args.name.now c.requires c.binary_search.result
    c.binary_search.ensures.bound c.binary_search.ensures.position
