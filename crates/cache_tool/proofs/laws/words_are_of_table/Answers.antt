use Rattle.cache_tool.proofs.WordsTable as table
use Rattle.cache_tool.proofs.laws.words_are_of_table.Goals as goal

pub returns : goal.returns
returns c = table.words_are_of_table
