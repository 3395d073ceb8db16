use Rattle.record_list.specs.Lists.{names_of}
use Rattle.record_list.proofs.NameLaws.{rising_distinct}
use Rattle.record_list.proofs.laws.rising_has_names.Goals as goal

pub returns : goal.returns
returns c = λ rs rising. rising_distinct (names_of rs) rising
