-- A new entry: all stands once its file is made among the doomed and its object is added.
use Rattle.std.proofs.Common.{◌≡◌, ◌⊎◌, inl, inr, ℕ, List, [], Some, true, refl, sym, ap, subst, ◌∙◌, Bool}
use Rattle.std.specs.List.{Contains}
use Rattle.cache_theory.specs.Crash.{IsSafe}
use Rattle.cache_theory.specs.Ever.{entry_place}
use Rattle.cache_theory.specs.Machine.{Machine}
use Rattle.cache_theory.specs.Marks.{Marks}
use Rattle.cache_theory.specs.Step.{entered, fresh}
use Rattle.cache_theory.proofs.CrashImages.DiskChanges.{create_keeps}
use Rattle.cache_theory.proofs.ObjectLaws.Entering.{proper_entered}
use Rattle.disk_theory.specs.declared.place.Place.TheVariants.{Doomed}
use Rattle.disk_theory.specs.Sound.{IsSound}
use Rattle.disk_theory.specs.Standing.{PutsContent}
use Rattle.disk_theory.specs.State.{State, created, empty_file}
use Rattle.disk_theory.proofs.Standing.{added_puts}
use Rattle.file_handles.specs.Cache.{cache_at}
use Rattle.handle_table.specs.Aside.{number_in, numbers_in}
use Rattle.handle_table.specs.Kept.{Kept, with_new, with_use}
use Rattle.file_handles.specs.Stands.{IsAt, KeepsWhere}
use Rattle.handle_table.specs.declared.object.Object.{Object}
use Rattle.handle_table.specs.declared.object.Use.{Use}
use Rattle.handle_table.proofs.AsideNumbers.{number_of_doomed}
use Rattle.file_handles.proofs.Histories.{history_of}
use Rattle.file_handles.proofs.Joining.JoinedObject.{MayAdd, aside_created, crash_created, handles_added, numbers}

-- whether it was made or not
pub made_safe : (s t : State) (d : ℕ) (w : Marks) → IsSound s → (t ≡ created (Doomed d) s) ⊎ (t ≡ s) → IsSafe s w → IsSafe t w
made_safe s t d w sound either safe = elim either [
  | inl is ↦ subst (λ u. IsSafe u w) (sym is) (create_keeps s w d sound safe)
  | inr is ↦ subst (λ u. IsSafe u w) (sym is) safe
]

module _ (s : State) (d : ℕ) (sound : IsSound s) (k : Kept) (m : Machine) (w : Marks) (slot now : ℕ) (key : List ℕ) (x : Object) (p : ℕ) (u : Use) (may : MayAdd k m slot true (fresh now key) x p u) (numbered : x.aside ≡ Some d)
    (free : ¬ Contains (numbers_in k.objects) d) {b : Bool} (is : KeepsWhere b (cache_at k s) (history_of m w)) where
  made : PutsContent (Doomed d) (Some []) s (created (Doomed d) s)
  made = added_puts (Doomed d) empty_file s sound

  no_one : (i : ℕ) → IsAt k is.number d i → ⊥
  no_one i a = free (number_of_doomed k.objects a.place d (ap number_in a.at_place ∙ a.set_aside))

  pub created_in : KeepsWhere b (cache_at (with_use (with_new k p x) slot (Some u)) (created (Doomed d) s)) (history_of (entered m slot true (fresh now key)) w)
  created_in =
      let proper = is.stands.proper in
      let stand = is.stands.handles in
      record {
        number = numbers k m is.number proper stand slot true (fresh now key) x p u may;
        stands = record {
          proper = proper_entered m slot true (fresh now key) proper may.enters;
          handles = handles_added k m is.number proper stand slot true (fresh now key) x p u may;
          entries = λ q. made.others (entry_place q) (λ e. cc) ∙ is.stands.entries q;
          aside = aside_created k m is.number proper stand slot true (fresh now key) x p u may refl d numbered no_one s (created (Doomed d) s) made is.stands.aside;
        };
        crash_kept = λ on. crash_created k m is.number proper stand slot true (fresh now key) x p u may refl d numbered no_one w s sound (is.crash_kept on);
      }
