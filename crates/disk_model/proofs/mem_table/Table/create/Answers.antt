use Rattle.std.proofs.Common.{◌≡◌, List, [], ◌∷◌, ◌++◌, length, reverse, rules, sym, ◌∙◌, ap, subst}
use Rattle.disk_theory.specs.declared.place.NameStep.TheVariants.{Create}
use Rattle.disk_theory.specs.State.{File, named, names_after, added}
use Rattle.disk_theory.specs.Sound.{IsSound, AreInside}
use Rattle.disk_model.specs.MemFile.{file_of}
use Rattle.disk_theory.specs.declared.place.NameStep.{NameStep}
use Rattle.disk_model.specs.MemSlots.{names_in, synced_names_in}
use Rattle.disk_model.specs.declared.mem_file.MemFile.{MemFile}
use Rattle.disk_model.specs.MemState.{state_from, ArePending}
use Rattle.disk_theory.proofs.Sound.{sound_added, no_writes}
use Rattle.disk_model.proofs.MemState.{added_state, stepped_names}
use Rattle.disk_model.proofs.MemPending.{pending_pushed}
use Rattle.disk_model.proofs.mem_table.Table.create.Goals as goal

pub invariant_of-self-2 : goal.invariant_of-self-2
invariant_of-self-2 c =
    let t = c.args.self.now in
    let place = c.args.place in
    let new = c.new.result in
    let number : c.len-number.result ≡ length t.files.items = search rules in
    let steps : c.push_reserved.new.self.items ≡ t.steps.items ++ Create place (length t.files.items) ∷ [] =
    c.push_reserved.ensures.items ∙ (λ i. c.reserve.ensures.items i ++ Create place (number i) ∷ []) in
    let files : c.push.new.self.items ≡ t.files.items ++ new ∷ [] = c.in_ok-push.ensures.items in
    let none : (file_of new).writes ≡ [] = ap (λ (f : File). f.writes) c.new.ensures in
    let same = c.in_ok-make_slots.ensures.same in
    let after : state_from c.take_step.new.slots c.push_reserved.new.self.items c.push.new.self.items ≡ added place (file_of new) (state_from t.slots t.steps.items t.files.items) =
    (λ i. state_from c.take_step.new.slots (steps i) (files i)) ∙ added_state t.slots c.make_slots.new.slots c.take_step.new.slots t.steps.items t.files.items place new same c.take_step.ensures.synced in
    record {
      names = subst (λ (xs : List NameStep). names_in c.take_step.new.slots ≡ names_after (synced_names_in c.take_step.new.slots) (reverse xs)) (sym steps)
          (stepped_names t.slots c.make_slots.new.slots c.take_step.new.slots t.steps.items (Create place (length t.files.items)) same c.take_step.ensures.synced
          (c.take_step.ensures.now ∙ ap (λ n. named (Create place n) (names_in c.make_slots.new.slots)) number) t.names);
      pending = subst (λ (fs : List MemFile). ArePending fs t.written.items) (sym files) (pending_pushed t.files.items new t.written.items none t.pending);
      sound = subst IsSound (sym after) (sound_added place (file_of new) (state_from t.slots t.steps.items t.files.items) (subst (AreInside (file_of new).synced) (sym none) (no_writes (file_of new).synced)) t.sound);
    }
