use Rattle.std.proofs.Common.{◌≡◌, ◌⊎◌, ℕ, List, length, reverse, sym, ◌∙◌, ap, subst}
use Rattle.std.specs.Vec.{with_items}
use Rattle.disk_theory.specs.declared.place.Place.{Place}
use Rattle.disk_theory.specs.declared.place.NameStep.{NameStep}
use Rattle.disk_theory.specs.State.{File, names_after, settled}
use Rattle.disk_theory.specs.Sound.{IsSound}
use Rattle.disk_model.specs.MemFile.{nth_file, at_rest}
use Rattle.disk_model.specs.MemSlots.{names_in, synced_names_in, IsNamedBy}
use Rattle.disk_model.specs.MemState.{state_from, ArePending}
use Rattle.disk_model.specs.declared.mem_file.MemFile.{MemFile}
use Rattle.disk_theory.proofs.Sound.{sound_settled}
use Rattle.disk_model.proofs.MemState.{unnamed, lent_items, settled_state}
use Rattle.disk_model.proofs.mem_table.Table.sync.Goals as goal

pub settle_names-requires : goal.settle_names-requires
settle_names-requires c =
    let t = c.args.self.now in
    subst (λ (steps : List NameStep). (p : Place) → IsNamedBy p steps ⊎ (synced_names_in t.slots p ≡ names_in t.slots p)) (sym c.deref.ensures.value) (unnamed t.slots t.steps.items t.names)

pub settle_files-requires : goal.settle_files-requires
settle_files-requires c =
    let t = c.args.self.now in
    subst (λ (fs : List MemFile). ArePending fs c.deref-2.result.now) (sym c.deref_mut.ensures.value) (subst (ArePending t.files.items) (sym c.deref-2.ensures.value) t.pending)

pub invariant_of-self : goal.invariant_of-self
invariant_of-self c =
    let t = c.args.self.now in
    let n = c.settle_names.new.slots in
    let new = c.settle_files.new.files in
    let rest : (k : ℕ) → nth_file new k ≡ at_rest (nth_file t.files.items k) = λ k. c.settle_files.ensures.files k ∙ ap (λ (fs : List MemFile). at_rest (nth_file fs k)) c.deref_mut.ensures.value in
    let count : length new ≡ length t.files.items = c.settle_files.ensures.len ∙ ap length c.deref_mut.ensures.value in
    let lent : (with_items t.files new).items ≡ new = lent_items t.files new count in
    let after : state_from n c.clear.new.self.items (with_items t.files new).items ≡ settled (state_from t.slots t.steps.items t.files.items) =
    ap (λ (fs : List MemFile). state_from n c.clear.new.self.items fs) lent
    ∙ ap (λ (steps : List NameStep). state_from n steps new) c.clear.ensures.items ∙ settled_state t.slots n t.steps.items t.files.items new c.settle_names.ensures.synced t.names count rest in
    record {
      names = c.settle_names.ensures.now ∙ sym c.settle_names.ensures.synced ∙ ap (λ (steps : List NameStep). names_after (synced_names_in n) (reverse steps)) (sym c.clear.ensures.items);
      pending = λ k out. ap (λ (fs : List MemFile). length (nth_file fs k).writes) lent ∙ ap (λ (f : File). length f.writes) (rest k);
      sound = subst IsSound (sym after) (sound_settled (state_from t.slots t.steps.items t.files.items) t.sound);
    }

pub returns : goal.returns
returns c =
    let t = c.args.self.now in
    let n = c.settle_names.new.slots in
    let new = c.settle_files.new.files in
    let rest : (k : ℕ) → nth_file new k ≡ at_rest (nth_file t.files.items k) = λ k. c.settle_files.ensures.files k ∙ ap (λ (fs : List MemFile). at_rest (nth_file fs k)) c.deref_mut.ensures.value in
    let count : length new ≡ length t.files.items = c.settle_files.ensures.len ∙ ap length c.deref_mut.ensures.value in
    ap (λ (fs : List MemFile). state_from n c.clear.new.self.items fs) (lent_items t.files new count)
    ∙ ap (λ (steps : List NameStep). state_from n steps new) c.clear.ensures.items ∙ settled_state t.slots n t.steps.items t.files.items new c.settle_names.ensures.synced t.names count rest
