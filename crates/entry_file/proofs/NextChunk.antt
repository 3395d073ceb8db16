-- What one chunk more does to an entry and to its file.
use Rattle.std.proofs.Common.{◌≡◌, ℕ, ◌+◌, List, [], ◌∷◌, ◌++◌, length, Some, Result, Ok, Err, OnOk, sym, ap, subst, ◌∙◌}
use Rattle.chunk_store.specs.Stored.{chunk_write, unfinished_file}
use Rattle.disk_theory.specs.declared.disk.DiskFault.{DiskFault}
use Rattle.disk_theory.specs.declared.place.Place.{Place}
use Rattle.disk_theory.specs.Calls.{if_done}
use Rattle.disk_theory.specs.Sound.{IsSound}
use Rattle.disk_theory.specs.State.{State, standing, written, wrote}
use Rattle.disk_theory.proofs.Standing.{wrote_puts}
use Rattle.entry_file.specs.NewEntry.{Growing, HasBody}
use Rattle.entry_file.proofs.Bodies.{chunk_written, has_chunk}
use Rattle.jenkins_hash.specs.Hash.{hash16_of}

-- a whole chunk, made of what is held and of these bytes
module _ (e : Growing) (b chunk : List ℕ) (is : chunk ≡ e.rest ++ b) (full : length e.rest + length b ≡ 262144) where
  pub has_taken : (r : Result (Unit {0}) DiskFault) (hashes rest : List ℕ) → rest ≡ [] → hashes ≡ e.hashes ++ hash16_of chunk ∷ []
      → OnOk r ((body : List ℕ) → HasBody e body → HasBody (record { hashes = hashes; rest = rest }) (body ++ b))
  has_taken (Ok value) hashes rest none h = λ body has.
      subst (λ (new : Growing). HasBody new (body ++ b)) (λ i. record { hashes = sym (h ∙ ap (λ xs. e.hashes ++ hash16_of xs ∷ []) is) i; rest = sym none i }) (has_chunk e body has b full)
  has_taken (Err fault) hashes rest none h = tt

  pub stands_taken : (tells : Type 0) (place : Place) (s t : State) (r : Result (Unit {0}) DiskFault) → (tells → IsSound s) → (tells → t ≡ if_done r (wrote place (chunk_write (length e.hashes) chunk) s) s)
      → OnOk r (tells → (body : List ℕ) → HasBody e body → standing s place ≡ Some (unfinished_file body) → standing t place ≡ Some (unfinished_file (body ++ b)))
  stands_taken tells place s t (Ok value) sound state = λ told body has stands.
      ap (λ (u : State). standing u place) (state told) ∙ (wrote_puts place (chunk_write (length e.hashes) chunk) s (unfinished_file body) (sound told) stands).here
      ∙ ap Some (ap (λ xs. written (chunk_write (length e.hashes) xs) (unfinished_file body)) is ∙ chunk_written e body has b full)
  stands_taken tells place s t (Err fault) sound state = tt
