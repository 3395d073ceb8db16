use Rattle.std.proofs.Common.{ap, sym, subst, ◌∙◌, ◌++◌}
use Rattle.std.specs.Map.{lookup}
use Rattle.std.proofs.lemmas.List.{append-nil}
use Rattle.record_list.specs.Lists.{same_name}
use Rattle.index_map.specs.Slots.{IsTable}
use Rattle.index_map.proofs.all_slots.AllSlots.over.Goals as goal

pub returns-clause-slots : goal.returns-clause-slots
returns-clause-slots c = λ q.
    let l = c.in_ok-over.field-0 in
    ap (lookup (same_name q)) (ap (λ b. l ++ b) c.requires.unused ∙ append-nil l) ∙ c.in_ok-over.ensures.slots q

pub returns-clause-table : goal.returns-clause-table
returns-clause-table c =
    let l = c.in_ok-over.field-0 in
    subst IsTable (sym (ap (λ b. l ++ b) c.requires.unused ∙ append-nil l)) c.in_ok-over.ensures.table
