-- A write to a file of a table, whether it was done or not.
use Rattle.std.proofs.Common.{◌≡◌, ℕ, ◌<◌, ◌≤◌, List, length, get_or, set, Result, Ok, Err, OnOk, OnErr, sym, ◌∙◌, ap, subst}
use Rattle.disk_theory.specs.declared.place.NameStep.{NameStep}
use Rattle.disk_theory.specs.State.{Write, content, add_write}
use Rattle.disk_theory.specs.Sound.{IsSound, room}
use Rattle.disk_model.specs.MemFile.{file_of, nth_file}
use Rattle.disk_model.specs.MemSlots.{Slots}
use Rattle.disk_model.specs.MemState.{state_from}
use Rattle.disk_theory.specs.State.{written_to}
use Rattle.disk_model.specs.declared.mem_file.MemFile.{MemFile}
use Rattle.disk_theory.proofs.Sound.{sound_written}
use Rattle.disk_model.proofs.MemState.{here_file, wrote_state, unwritten_state}

module _ {E : Type 0} (slots : Slots) (steps : List NameStep) (fs : List MemFile) (i : ℕ) (old f : MemFile) (w : Write) (lt : i < length fs) (was : old ≡ get_or fs i old) where
  pub write_ok : (r : Result (Unit {0}) E) → OnOk r (file_of f ≡ add_write w (file_of old)) → OnOk r (state_from slots steps (set fs i f) ≡ written_to i w (state_from slots steps fs))
  write_ok (Ok u) is = wrote_state slots steps fs i f w lt (is ∙ ap (add_write w) (here_file fs i old lt was))
  write_ok (Err e) is = tt

  pub write_err : (r : Result (Unit {0}) E) → OnErr r (file_of f ≡ file_of old) → OnErr r (state_from slots steps (set fs i f) ≡ state_from slots steps fs)
  write_err (Ok u) is = tt
  write_err (Err e) is = unwritten_state slots steps fs i f lt (is ∙ here_file fs i old lt was)

  pub write_sound : (r : Result (Unit {0}) E) → OnOk r (file_of f ≡ add_write w (file_of old)) → OnErr r (file_of f ≡ file_of old)
      → room w ≤ length (content (nth_file fs i)) → IsSound (state_from slots steps fs) → IsSound (state_from slots steps (set fs i f))
  write_sound (Ok u) ok err fits sound = subst IsSound (sym (write_ok (let r : Result (Unit {0}) E = Ok u in r) ok)) (sound_written i w (state_from slots steps fs) fits sound)
  write_sound (Err e) ok err fits sound = subst IsSound (sym (write_err (let r : Result (Unit {0}) E = Err e in r) err)) sound
