use Rattle.std.proofs.Common.{◌∙◌, sym, ap, length}
use Rattle.disk_theory.specs.State.{Names}
use Rattle.disk_model.specs.MemState.{state_from}
use Rattle.disk_model.proofs.MemState.{is_made, all_before}
use Rattle.disk_model.proofs.mem_table.Table.find_synced.Goals as goal

pub returns-clause-made : goal.returns-clause-made
returns-clause-made c =
    let t = c.args.self.now in
    let s = state_from t.slots t.steps.items t.files.items in
    is_made t.slots t.steps.items t.files.items (length s.steps) c.args.place.now c.synced_at.result t.sound
    (c.synced_at.ensures ∙ sym (ap (λ (names : Names). names c.args.place.now) (all_before s)))
