-- What a `get` finds.
use Rattle.std.proofs.Common.{◌≡◌, ◌∙◌, ℕ, List, [], ◌∷◌, Bool, true, false, not, Option, Some, None, Result, Ok, Err, is_some, refl, sym, ap, subst}
use Rattle.std.specs.Prelude.{IsSomeAnd, option_map, unwrap_or, ◌||◌}
use Rattle.std.proofs.lemmas.Bool.{or_right}
use Rattle.cache_base.specs.Checks.{first_failing}
use Rattle.cache_base.specs.declared.name.Name.{Name}
use Rattle.cache_theory.specs.Checks.{checks, undamaged}
use Rattle.cache_theory.specs.Command.Command.{Get}
use Rattle.cache_theory.specs.Command.Reply.{Refused}
use Rattle.cache_theory.specs.Ever.{entries}
use Rattle.cache_theory.specs.Machine.{Machine, is_entry, object, on_shelf, used_by}
use Rattle.cache_theory.specs.Table.{get}
use Rattle.cache_theory.specs.Step.{effect, found_reply, step, stepped}
use Rattle.cache_theory.specs.declared.refusal.Refusal.{Refusal}
use Rattle.cache_theory.specs.declared.refusal.Refusal.TheVariants as refused
use Rattle.cache_theory.proofs.CrashImages.Reading.{some_of, whole_is_shelved}
use Rattle.disk_theory.specs.State.{State, standing}
use Rattle.disk_theory.specs.declared.place.Place.TheVariants.{Entry}
use Rattle.entry_file.specs.EntryFile.{Reading, read_for}
use Rattle.entry_file.specs.EntryFile.Reading.{Whole, Damaged, Nothing}
use Rattle.entry_file.specs.Version.{IsFileOf}
use Rattle.entry_key.specs.Writing.{may_write}
use Rattle.entry_metadata.specs.declared.meta.Meta.{Meta}
use Rattle.entry_name.specs.EntryName.{file_name}
use Rattle.file_handles.specs.Cache.{cache_at}
use Rattle.file_handles.specs.Found.{Finds, FindsIn}
use Rattle.handle_table.specs.Kept.{Kept}
use Rattle.handle_table.specs.Finding.{is_writing}
use Rattle.file_handles.specs.Loading.{LoadsAs}
use Rattle.file_handles.specs.Stands.{Stands}
use Rattle.file_handles.specs.declared.fault.HandleFault.{HandleFault}
use Rattle.file_handles.specs.declared.fault.HandleFault.TheVariants as fault
use Rattle.file_handles.proofs.Finding.FoundShelf.{shelf_read, shelf_stands, used_on_shelf}
use Rattle.file_handles.proofs.Finding.FoundUser.{writing_same}

-- the key may not be written
finished_use : Machine → List ℕ → Bool
finished_use m key = unwrap_or (option_map (λ i. (object m i).finished) (used_by m key)) true

-- the checks of a `get`, with what they test
checked : Bool → Bool → Bool → Reading → Option Refusal
checked good done some r = first_failing ((good, refused.BadKey) ∷ (done, refused.Unfinished) ∷ (some, refused.Absent) ∷ undamaged r ∷ [])

get_checks : (m : Machine) (key : List ℕ) → first_failing (checks m (Get key)) ≡ checked (may_write key) (finished_use m key) (is_some (used_by m key) || is_entry (on_shelf m key)) (on_shelf m key)
unfolding checks finished_use checked
get_checks m key = refl

-- a check that fails is the reply
replies_refused : (m : Machine) (key : List ℕ) (r : Refusal) → first_failing (checks m (Get key)) ≡ Some r → (step m (Get key)).reply ≡ Refused r
replies_refused m key r is = ap (λ o. (stepped m (Get key) o).reply) is

refuses : (m : Machine) (key : List ℕ) (r : Refusal) (s : State) → first_failing (checks m (Get key)) ≡ Some r → FindsIn key (Err (fault.Refused r)) s m
refuses m key r s is = record {
  some = tt;
  none = λ q same. replies_refused m key r is ∙ ap Refused (let e : r ≡ q = cc in e);
}

pub finds_bad_key : (key : List ℕ) (s : State) (k : Kept) → may_write key ≡ false → Finds key (Err (fault.Refused refused.BadKey)) (cache_at k s)
unfolding checked
finds_bad_key key s k bad = record {
  finds = λ m stand.
      refuses m key refused.BadKey s (get_checks m key ∙ ap (λ b. checked b (finished_use m key) (is_some (used_by m key) || is_entry (on_shelf m key)) (on_shelf m key)) bad);
}

module _ (key : List ℕ) (s : State) (k : Kept) (name : Name) (named : name.0 ≡ file_name key) (good : may_write key ≡ true) where
  pub finds_unfinished : is_writing k name key ≡ true → Finds key (Err (fault.Refused refused.Unfinished)) (cache_at k s)
  unfolding checked finished_use
  finds_unfinished writing = record {
    finds = λ m stand.
        let un : finished_use m key ≡ false = writing_same k name key m stand.0 stand.1.proper stand.1.handles named ∙ ap not writing in
        refuses m key refused.Unfinished s
        (get_checks m key ∙ (λ i. checked (good i) (un i) (is_some (used_by m key) || is_entry (on_shelf m key)) (on_shelf m key)));
  }

  module _ (idle : is_writing k name key ≡ false) (m : Machine) (number : ℕ → ℕ) (stands : Stands (standing s) k m number) where
    done : finished_use m key ≡ true
    unfolding finished_use
    done = writing_same k name key m number stands.proper stands.handles named ∙ ap not idle

    -- what stands reads as the shelf does
    read_same : read_for key (standing s (Entry name)) ≡ on_shelf m key
    read_same = ap (λ n. read_for key (entries (standing s) n)) named ∙ shelf_read (standing s) m stands.entries key

    passes : (r : Reading) → on_shelf m key ≡ r → first_failing (checks m (Get key)) ≡ checked true true (is_some (used_by m key) || is_entry r) r
    passes r is = get_checks m key ∙ (λ i. checked (good i) (done i) (is_some (used_by m key) || is_entry (is i)) (is i))

    there : (r : Reading) → is_entry r ≡ true → (is_some (used_by m key) || is_entry r) ≡ true
    there r is = or_right (is_some (used_by m key)) (is_entry r) is

    unused : on_shelf m key ≡ Nothing → is_some (used_by m key) ≡ false
    unfolding finished_use
    unused nothing = go (used_by m key) refl
      where
        go : (o : Option ℕ) → used_by m key ≡ o → is_some o ≡ false
        go None used = refl
        go (Some i) used =
            let fin : (object m i).finished ≡ true = sym (ap (λ o. unwrap_or (option_map (λ i. (object m i).finished) o) true) used) ∙ done in
            absurd (let never : Nothing ≡ Whole (object m i).version = sym nothing ∙ used_on_shelf m key i stands.proper used fin in cc)

    by_reading : (r : Reading) (answer : Result Meta HandleFault) → on_shelf m key ≡ r → LoadsAs r answer → FindsIn key answer s m
    unfolding effect checked
    by_reading (Whole v) (Ok meta) is loads =
        let shelved = whole_is_shelved m key v stands.proper is in
        record {
          some = record {
            version = v;
            fits = shelved.version;
            reply =
                ap (λ o. (stepped m (Get key) o).reply) (passes (Whole v) is ∙ ap (λ b. checked true true b (Whole v)) (there (Whole v) refl))
                ∙ ap found_reply is;
            of_meta = loads;
            file =
                let there = some_of (get m.shelf (file_name key)) shelved.file in
                subst (λ c. IsSomeAnd c (IsFileOf v)) (sym (shelf_stands (standing s) m stands.entries (file_name key) there.0 there.1.0)) there.1.1;
          };
          none = tt;
        }
    by_reading (Damaged d) (Ok meta) is loads = absurd loads
    by_reading Nothing (Ok meta) is loads = absurd loads
    by_reading (Whole v) (Err (fault.Refused r)) is loads = absurd loads
    by_reading (Damaged d) (Err (fault.Refused r)) is loads =
        refuses m key r s (passes (Damaged d) is ∙ ap (λ b. checked true true b (Damaged d)) (there (Damaged d) refl) ∙ ap Some (sym loads))
    by_reading Nothing (Err (fault.Refused r)) is loads =
        refuses m key r s (passes Nothing is ∙ ap (λ b. checked true true (b || false) Nothing) (unused is) ∙ ap Some (sym loads))
    by_reading r (Err fault.Read) is loads = record { some = tt; none = λ q same. absurd (cc) }
    by_reading r (Err fault.Disk) is loads = record { some = tt; none = λ q same. absurd (cc) }
    by_reading r (Err fault.Memory) is loads = record { some = tt; none = λ q same. absurd (cc) }

  pub finds_loaded : is_writing k name key ≡ false → (answer : Result Meta HandleFault) → LoadsAs (read_for key (standing s (Entry name))) answer → Finds key answer (cache_at k s)
  finds_loaded idle answer loads = record {
    finds = λ m stand.
        by_reading idle m stand.0 stand.1 (on_shelf m key) answer refl
        (let P : Reading → Type 0 = λ r. LoadsAs r answer in subst P (read_same idle m stand.0 stand.1) loads);
  }
