use Rattle.cache_base.proofs.ByteLaws.{two, four, eight}
use Rattle.entry_parts.proofs.laws.numbers_spell.Goals as goal

pub returns-clause-two : goal.returns-clause-two
returns-clause-two c = two

pub returns-clause-four : goal.returns-clause-four
returns-clause-four c = four

pub returns-clause-eight : goal.returns-clause-eight
returns-clause-eight c = eight
