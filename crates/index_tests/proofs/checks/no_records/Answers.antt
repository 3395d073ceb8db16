use Rattle.std.proofs.Common.{[], subst, sym}
use Rattle.std.specs.List.{IsDistinct}
use Rattle.record_list.specs.Lists.{HasNames}
use Rattle.index_tests.proofs.checks.no_records.Goals as goal

no_names : HasNames []
unfolding IsDistinct
no_names = tt

pub returns : goal.returns
returns c = subst HasNames (sym c.new.ensures) no_names
