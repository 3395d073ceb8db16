-- What leaves the entries alone keeps what a crash may leave of them.
use Rattle.std.proofs.Common.{◌≡◌, ℕ, zero, suc, List, [], Option, Some, sym, ◌∙◌, subst}
use Rattle.cache_theory.specs.Crash.{IsCrashKept, IsSafe, MayBeFiled}
use Rattle.cache_theory.specs.Ever.{IsFiledOnce, IsKept, entry_place}
use Rattle.cache_theory.specs.Machine.{Machine}
use Rattle.cache_theory.specs.Marks.{Marks}
use Rattle.disk_theory.specs.State.{File, State, settled}
use Rattle.index_keeps.specs.Keeps.{LeftIsFiledOnce, LeftIsSafe, SparedIsFiledOnce, SparedIsSafe}
use Rattle.index_theory.specs.Leaves.{LeavesEntries}
use Rattle.startup_read.specs.Spares.{LeavesOverSyncs, SparesEntries}
use Rattle.cache_theory.proofs.CrashImages.DiskChanges.{sync_keeps}
use Rattle.cache_theory.proofs.CrashImages.EverSteps.{ever_settled}
use Rattle.cache_theory.proofs.CrashImages.FiledOnce.{sync_files_once}

-- what is kept at the place of an entry
left_kept : (s t : State) (name : List ℕ) (P : Option (List ℕ) → Type 0) → LeavesEntries s t → IsKept s (entry_place name) P → IsKept t (entry_place name) P
left_kept s t name P left kept = record {
  none = λ gone. kept.none (left.none (entry_place name) tt gone);
  unwritten = λ f at. subst (λ (file : File). file.writes ≡ []) (sym (left.files (entry_place name) f tt at)) (kept.unwritten f (left.ever (entry_place name) f tt at));
  some = λ f at. subst (λ (file : File). P (Some file.synced)) (sym (left.files (entry_place name) f tt at)) (kept.some f (left.ever (entry_place name) f tt at));
}

pub left_is_safe : LeftIsSafe
left_is_safe s t w left safe = record {
  untouched = λ name un. left_kept s t name _ left (safe.untouched name un);
  touched = λ name is f at. subst (λ (file : File). MayBeFiled w name file) (sym (left.files (entry_place name) f tt at)) (safe.touched name is f (left.ever (entry_place name) f tt at));
  published = λ name is out f at. subst (λ (file : File). file.writes ≡ []) (sym (left.files (entry_place name) f tt at)) (safe.published name is out f (left.ever (entry_place name) f tt at));
}

pub left_is_filed_once : LeftIsFiledOnce
left_is_filed_once s t left once m n file at also = once m n file (left.ever (entry_place m) file tt at) (left.ever (entry_place n) file tt also)

over_safe : (n : ℕ) (s t : State) (w : Marks) → LeavesOverSyncs n s t → IsSafe s w → IsSafe t w
over_safe zero s t w leaves safe = left_is_safe s t w leaves safe
over_safe (suc n) s t w (u, (leaves, rest)) safe = over_safe n (settled u) t w rest (sync_keeps u w (left_is_safe s u w leaves safe))

pub spared_is_safe : SparedIsSafe
spared_is_safe s t w (n, over) safe = over_safe n s t w over safe

over_filed_once : (n : ℕ) (s t : State) → LeavesOverSyncs n s t → IsFiledOnce s → IsFiledOnce t
over_filed_once zero s t leaves once = left_is_filed_once s t leaves once
over_filed_once (suc n) s t (u, (leaves, rest)) once = over_filed_once n (settled u) t rest (sync_files_once u (left_is_filed_once s u leaves once))

pub spared_is_filed_once : SparedIsFiledOnce
spared_is_filed_once s t (n, over) once = over_filed_once n s t over once

-- the same of all that every step keeps; it speaks of any relation between numbers and objects, and so is no clause
pub left_is_crash_kept : (s t : State) (m : Machine) (w : Marks) (IsAt : ℕ → ℕ → Type 0) → LeavesEntries s t → IsCrashKept s m w IsAt → IsCrashKept t m w IsAt
left_is_crash_kept s t m w IsAt left kept = record {
  safe = left_is_safe s t w left kept.safe;
  once = left_is_filed_once s t left kept.once;
  aside = λ k i file name at held now stood. kept.aside k i file name at held (sym (left.doomed k) ∙ now) (left.ever (entry_place name) file tt stood);
  unburied = kept.unburied;
  young = kept.young;
}

sync_is_crash_kept : (s : State) (m : Machine) (w : Marks) (IsAt : ℕ → ℕ → Type 0) → IsCrashKept s m w IsAt → IsCrashKept (settled s) m w IsAt
sync_is_crash_kept s m w IsAt kept = record {
  safe = sync_keeps s w kept.safe;
  once = sync_files_once s kept.once;
  aside = λ k i file name at held now stood. kept.aside k i file name at held now (0, ever_settled s (entry_place name) file stood);
  unburied = kept.unburied;
  young = kept.young;
}

over_crash_kept : (n : ℕ) (s t : State) (m : Machine) (w : Marks) (IsAt : ℕ → ℕ → Type 0) → LeavesOverSyncs n s t → IsCrashKept s m w IsAt → IsCrashKept t m w IsAt
over_crash_kept zero s t m w IsAt leaves kept = left_is_crash_kept s t m w IsAt leaves kept
over_crash_kept (suc n) s t m w IsAt (u, (leaves, rest)) kept =
    over_crash_kept n (settled u) t m w IsAt rest (sync_is_crash_kept u m w IsAt (left_is_crash_kept s u m w IsAt leaves kept))

pub spared_is_crash_kept : (s t : State) (m : Machine) (w : Marks) (IsAt : ℕ → ℕ → Type 0) → SparesEntries s t → IsCrashKept s m w IsAt → IsCrashKept t m w IsAt
spared_is_crash_kept s t m w IsAt (n, over) kept = over_crash_kept n s t m w IsAt over kept
