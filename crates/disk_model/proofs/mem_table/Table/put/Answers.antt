use Rattle.std.proofs.Common.{◌≡◌, List, [], ◌∷◌, ◌++◌, Some, length, rules, sym, ◌∙◌, ap, subst}
use Rattle.disk_theory.specs.State.{File, content, added, with_name}
use Rattle.disk_theory.specs.Sound.{IsSound, AreInside}
use Rattle.disk_model.specs.MemFile.{file_of}
use Rattle.disk_model.specs.MemSlots.{names_in, synced_names_in}
use Rattle.disk_model.specs.MemState.{state_from, ArePending}
use Rattle.disk_model.specs.declared.mem_file.MemFile.{MemFile}
use Rattle.disk_theory.proofs.Sound.{names_settled, sound_added, sound_names_settled, no_writes}
use Rattle.disk_theory.proofs.Standing.{put_puts}
use Rattle.disk_model.proofs.MemState.{put_state, put_names}
use Rattle.disk_model.proofs.MemPending.{pending_pushed}
use Rattle.disk_model.proofs.mem_table.Table.put.Goals as goal

pub invariant_of-self-2 : goal.invariant_of-self-2
invariant_of-self-2 c =
    let t = c.args.self.now in
    let place = c.args.place in
    let new = c.in_ok-file.file in
    let s = state_from t.slots t.steps.items t.files.items in
    let number : c.len-number.result ≡ length t.files.items = search rules in
    let files : c.push.new.self.items ≡ t.files.items ++ new ∷ [] = c.in_ok-push.ensures.items in
    let none : (file_of new).writes ≡ [] = ap (λ (f : File). f.writes) c.in_ok-file.ensures in
    let same = c.in_ok-make_slot.ensures.same in
    let synced : synced_names_in c.put_file.new.slots ≡ with_name place (Some (length t.files.items)) (synced_names_in c.make_slot.new.slots) =
    c.put_file.ensures.synced ∙ ap (λ n. with_name place (Some n) (synced_names_in c.make_slot.new.slots)) number in
    let now : names_in c.put_file.new.slots ≡ with_name place (Some (length t.files.items)) (names_in c.make_slot.new.slots) =
    c.put_file.ensures.now ∙ ap (λ n. with_name place (Some n) (names_in c.make_slot.new.slots)) number in
    let after : state_from c.put_file.new.slots t.steps.items c.push.new.self.items ≡ names_settled (added place (file_of new) s) =
    ap (state_from c.put_file.new.slots t.steps.items) files ∙ put_state t.slots c.make_slot.new.slots c.put_file.new.slots t.steps.items t.files.items place new same synced c.requires.steps in
    record {
      names = put_names t.slots c.make_slot.new.slots c.put_file.new.slots t.steps.items place (length t.files.items) same now synced c.requires.steps t.names;
      pending = subst (λ (fs : List MemFile). ArePending fs t.written.items) (sym files) (pending_pushed t.files.items new t.written.items none t.pending);
      sound = subst IsSound (sym after) (sound_names_settled (added place (file_of new) s) (sound_added place (file_of new) s (subst (AreInside (file_of new).synced) (sym none) (no_writes (file_of new).synced)) t.sound));
    }

pub returns-clause-ok : goal.returns-clause-ok
returns-clause-ok c =
    let t = c.args.self.now in
    let place = c.args.place in
    let new = c.in_ok-file.file in
    let s = state_from t.slots t.steps.items t.files.items in
    let number : c.len-number.result ≡ length t.files.items = search rules in
    let files : c.push.new.self.items ≡ t.files.items ++ new ∷ [] = c.in_ok-push.ensures.items in
    let synced : synced_names_in c.put_file.new.slots ≡ with_name place (Some (length t.files.items)) (synced_names_in c.make_slot.new.slots) =
    c.put_file.ensures.synced ∙ ap (λ n. with_name place (Some n) (synced_names_in c.make_slot.new.slots)) number in
    let after : state_from c.put_file.new.slots t.steps.items c.push.new.self.items ≡ names_settled (added place (file_of new) s) =
    ap (state_from c.put_file.new.slots t.steps.items) files ∙ put_state t.slots c.make_slot.new.slots c.put_file.new.slots t.steps.items t.files.items place new c.in_ok-make_slot.ensures.same synced c.requires.steps in
    put_puts place (file_of new) s (state_from c.put_file.new.slots t.steps.items c.push.new.self.items) c.args.bytes.now after (ap content c.in_ok-file.ensures) t.sound
