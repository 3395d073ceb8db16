use Rattle.std.proofs.Common.{subst, sym, []}
use Rattle.index_map.specs.Slots.{IsBase}
use Rattle.index_map.specs.declared.counts.Counts.{Counts}
use Rattle.index_map.proofs.Marked.{no_base}
use Rattle.index_map.proofs.base.Base.new.Goals as goal

abbrev none : Counts
none = record { records = 0; kilobytes = 0; changed = 0 }

pub invariant_of-result : goal.invariant_of-result
invariant_of-result c = subst (λ rs. IsBase rs c.new-2.result.items none) (sym c.new.ensures) (subst (λ ms. IsBase [] ms none) (sym c.new-2.ensures.items) no_base)
