-- What a command leaves under a name: what stood there, nothing, or the file of the object that it writes.
use Rattle.std.proofs.Common.{◌≡◌, inl, inr, ℕ, List, Bool, true, false, cond, Option, Some, None, refl, sym, ap, subst, ◌∙◌}
use Rattle.std.specs.Prelude.{if◌then◌else◌, is_some, option_and_then}
use Rattle.std.specs.Str.{bytes_eq}
use Rattle.std.proofs.lemmas.Bool.{cases_Bool, cond_both}
use Rattle.cache_base.specs.Checks.{first_failing}
use Rattle.cache_base.specs.declared.name.Name.{Name}
use Rattle.cache_theory.specs.Checks.{checks}
use Rattle.cache_theory.specs.Command.{Command}
use Rattle.cache_theory.specs.Command.Command.{Create, Doom, ListRecords, ListGiven, Evict, EvictNames, ClearOrigin, ClearNames, Resume, ResumeNames, StepUpdate, Verify, VerifyRecords, Rebuild, Dump}
use Rattle.cache_theory.specs.Covers.{cleared, resumed}
use Rattle.cache_theory.specs.Laws.{AreLost, is_among}
use Rattle.cache_theory.specs.Machine.{Machine, Object, object}
use Rattle.cache_theory.specs.Marks.{rewritten}
use Rattle.cache_theory.specs.Proper.{IsProper}
use Rattle.cache_theory.specs.Refiled.{IsOfEntries, IsRefiled, refiled, refiled_by}
use Rattle.cache_theory.specs.Step.{cleared_of, effect, evicted, step, stepped, unmarked}
use Rattle.cache_theory.specs.Table.{get}
use Rattle.cache_theory.specs.declared.refusal.Refusal.{Refusal}
use Rattle.cache_theory.proofs.Evictions.Evicting.{cleared_are_lost, doomed_are_lost}
use Rattle.cache_theory.proofs.Names.{same_bytes}
use Rattle.cache_theory.proofs.Refiling.{entries_are_refiled}
use Rattle.cache_theory.proofs.ObjectLaws.WrittenObjects.{rewritten_finished}
use Rattle.context_clear.specs.Mark.{mark_of}
use Rattle.entry_file.specs.Version.{file_of}
use Rattle.entry_name.specs.EntryName.{file_name}

-- the file of an object of the name, which is finished and undoomed then
pub record IsFiled (next : Machine) (i : ℕ) (name : List ℕ) : Type 0 where
  pub finished : (object next i).finished ≡ true
  pub undoomed : (object next i).doomed ≡ false
  pub named : file_name (object next i).version.key ≡ name
  pub content : get next.shelf name ≡ Some (file_of (object next i).version)

-- what is under a name after a command
pub data IsShelvedBy (m : Machine) (c : Command) (next : Machine) (name : List ℕ) : Type 0 where
  Stays : get next.shelf name ≡ get m.shelf name → IsShelvedBy m c next name
  Goes : get next.shelf name ≡ None → IsShelvedBy m c next name
  Comes : (i : ℕ) → first_failing (checks m c) ≡ None → rewritten m c ≡ Some i → IsFiled next i name → IsShelvedBy m c next name

module _ (m : Machine) (c : Command) (next : Machine) (name : List ℕ) where
  gone : (n : List ℕ) → IsRefiled m next (Some (record { name = n; content = None })) → IsShelvedBy m c next name
  gone n is = elim (cases_Bool (bytes_eq name n)) [
    | inl here ↦ Goes (is.0 name ∙ ap (λ b. cond b None (get m.shelf name)) here)
    | inr other ↦ Stays (is.0 name ∙ ap (λ b. cond b None (get m.shelf name)) other)
  ]

  lost : (names : List Name) → AreLost m next names → IsShelvedBy m c next name
  lost names are = elim (cases_Bool (is_among name names)) [
    | inl here ↦ Goes (are.shelf name ∙ ap (λ b. cond b None (get m.shelf name)) here)
    | inr other ↦ Stays (are.shelf name ∙ ap (λ b. cond b None (get m.shelf name)) other)
  ]

  by_object : (i : ℕ) (o : Object) → object next i ≡ o → first_failing (checks m c) ≡ None → rewritten m c ≡ Some i → o.finished ≡ true → (b : Bool) → o.doomed ≡ b
      → IsRefiled m next (if b then None else Some (record { name = file_name o.version.key; content = Some (file_of o.version) }))
      → IsShelvedBy m c next name
  by_object i o same passes writes done true doomed is = Stays (is.0 name)
  by_object i o same passes writes done false undoomed is = elim (cases_Bool (bytes_eq name (file_name o.version.key))) [
    | inl here ↦
        let content = is.0 name ∙ ap (λ b. cond b (Some (file_of o.version)) (get m.shelf name)) here in
        Comes i passes writes (record {
          finished = ap (λ (p : Object). p.finished) same ∙ done;
          undoomed = ap (λ (p : Object). p.doomed) same ∙ undoomed;
          named = ap (λ (p : Object). file_name p.version.key) same ∙ sym (same_bytes name (file_name o.version.key) here);
          content = content ∙ ap (λ (p : Object). Some (file_of p.version)) (sym same);
        })
    | inr other ↦ Stays (is.0 name ∙ ap (λ b. cond b (Some (file_of o.version)) (get m.shelf name)) other)
  ]

  by_number : (o : Option ℕ) → rewritten m c ≡ o → first_failing (checks m c) ≡ None
      → ((i : ℕ) → rewritten m c ≡ Some i → (object next i).finished ≡ true)
      → IsRefiled m next (option_and_then (λ i. refiled_by (object next i)) o) → IsShelvedBy m c next name
  by_number None writes passes done is = Stays (is.0 name)
  by_number (Some i) writes passes done is = by_object i (object next i) refl passes writes (done i writes) (object next i).doomed refl is

of_entries : (m : Machine) (c : Command) (name : List ℕ) → IsProper m → first_failing (checks m c) ≡ None
    → IsRefiled m (effect m c).next (refiled m c) → IsShelvedBy m c (effect m c).next name
of_entries m (Create s key) name proper passes is = gone m (Create s key) (effect m (Create s key)).next name (file_name key) is
of_entries m (Doom key) name proper passes is = gone m (Doom key) (effect m (Doom key)).next name (file_name key) is
of_entries m c name proper passes is =
    by_number m c (effect m c).next name (rewritten m c) refl passes (λ i. rewritten_finished m c i proper passes) is

entries_passed : (m : Machine) (c : Command) (name : List ℕ) → IsOfEntries c → IsProper m → first_failing (checks m c) ≡ None
    → IsShelvedBy m c (effect m c).next name
entries_passed m c name of proper passes =
    of_entries m c name proper passes
    (subst (λ r. IsRefiled m (stepped m c r).next (refiled m c)) passes (entries_are_refiled m c of proper passes))

passed : (m : Machine) (c : Command) (name : List ℕ) → IsProper m → first_failing (checks m c) ≡ None → IsShelvedBy m c (effect m c).next name
unfolding effect
passed m ListRecords name proper passes = Stays refl
passed m (ListGiven records) name proper passes = Stays refl
passed m (Evict kb) name proper passes =
    lost m (Evict kb) (effect m (Evict kb)).next name (evicted m kb) (doomed_are_lost m (evicted m kb))
passed m (EvictNames names) name proper passes =
    lost m (EvictNames names) (effect m (EvictNames names)).next name names (doomed_are_lost m names)
passed m (ClearOrigin origin) name proper passes =
    lost m (ClearOrigin origin) (effect m (ClearOrigin origin)).next name (cleared m origin) (cleared_are_lost m (cleared m origin))
passed m (ClearNames names) name proper passes =
    lost m (ClearNames names) (effect m (ClearNames names)).next name names (cleared_are_lost m names)
passed m Resume name proper passes =
    cond_both (is_some (mark_of m.mark)) (cleared_of m (resumed m)) (unmarked m) (λ next. IsShelvedBy m Resume next name)
    (λ some. lost m Resume (cleared_of m (resumed m)) name (resumed m) (cleared_are_lost m (resumed m)))
    (λ none. Stays refl)
passed m (ResumeNames names) name proper passes =
    lost m (ResumeNames names) (effect m (ResumeNames names)).next name names (cleared_are_lost m names)
passed m (StepUpdate n) name proper passes = Stays refl
passed m Verify name proper passes = Stays refl
passed m Dump name proper passes = Stays refl
passed m (VerifyRecords records) name proper passes = Stays refl
passed m Rebuild name proper passes = Stays refl
passed m c name proper passes = entries_passed m c name tt proper passes

pub shelved_by : (m : Machine) (c : Command) (name : List ℕ) → IsProper m → IsShelvedBy m c (step m c).next name
shelved_by m c name proper = go (first_failing (checks m c)) refl
  where
    go : (r : Option Refusal) → first_failing (checks m c) ≡ r → IsShelvedBy m c (stepped m c r).next name
    go None passes = passed m c name proper passes
    go (Some r) refused = Stays refl
