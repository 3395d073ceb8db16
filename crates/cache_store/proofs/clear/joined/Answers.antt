use Rattle.std.proofs.Common.{ap, ◌∙◌, ◌||◌}
use Rattle.cache_base.specs.Names.{has_name}
use Rattle.cache_store.proofs.Clearing.JoinedNames.{joined_is}
use Rattle.cache_store.proofs.clear.joined.Goals as goal

pub returns-clause-names : goal.returns-clause-names
returns-clause-names c =
    let first = c.args.first.now in
    let second = c.args.second.now in
    joined_is first second c.add_all.new.set.keys
    (λ q. c.in_ok-add_all.ensures q ∙ ap (λ b. b || has_name second q) (c.in_ok-set.ensures.has q))
    c.listed.result c.listed.ensures.names c.listed.ensures.sorted
