-- How the scan of the shelf changes by a command.
use Rattle.std.proofs.Common.{◌≡◌, ◌≢◌, inl, inr, ℕ, ◌<◌, List, length, Bool, true, false, not, ◌&&◌, Option, Some, None, is_some, refl, sym, ap, subst, ◌∙◌}
use Rattle.std.specs.Prelude.{if◌then◌else◌, is_none, option_and_then}
use Rattle.std.specs.Str.{bytes_eq}
use Rattle.std.specs.Cmp.Lexicographic.{bytes_decides}
use Rattle.std.proofs.lemmas.Bool.{cases_Bool, not-true}
use Rattle.cache_base.specs.Checks.{first_failing}
use Rattle.cache_base.specs.declared.name.Name.{Name}
use Rattle.cache_base.proofs.CheckLaws.{all_hold}
use Rattle.cache_theory.specs.Checks.{checks, with_alt_data, with_value}
use Rattle.cache_theory.specs.Command.{Command}
use Rattle.cache_theory.specs.Command.Command.{At, Create, OpenKey, Append, Finish, FinishAs, SetElement, UnsetElement, ElementOf, UseEntry, Pin, Unpin, PutAlt, ReadPart, Close, Doom, Get, GetAlt, MainBody, Flush, HasEntry, HasGiven, ListRecords, ListGiven, Evict, EvictNames, ClearOrigin, ClearNames, Resume, ResumeNames, StepUpdate, UpdateState, Verify, VerifyRecords, Rebuild, Dump}
use Rattle.cache_theory.specs.Command.Reply.{Done, NoneThere}
use Rattle.cache_theory.specs.Machine.{Machine, Object as MachineObject, is_slot, is_writer, number_of, object_of, on_shelf, used_by}
use Rattle.cache_theory.specs.Marks.{rewritten}
use Rattle.cache_theory.specs.Proper.{IsProper}
use Rattle.cache_theory.specs.Step.{Answer, answer, changed, effect, finished_as, finished_by, joined, released, step, stepped, stored, used, with_pin}
use Rattle.cache_theory.specs.Table.{Table, get, insert, remove}
use Rattle.cache_theory.proofs.Names.{get-insert_other, get-insert_same, get-remove_other, get-remove_same, same_bytes}
use Rattle.cache_theory.proofs.ObjectLaws.Objects.{nth, nth-set_same}
use Rattle.cache_theory.proofs.ObjectLaws.Users.{slot_in_use}
use Rattle.entry_file.specs.EntryFile.{Reading, file_meta, fits}
use Rattle.entry_file.specs.EntryFile.Reading.{Whole, Damaged, Nothing}
use Rattle.entry_file.specs.Version.{file_of}
use Rattle.entry_metadata.specs.Metadata.{Meta as Said}
use Rattle.entry_name.specs.EntryName.{file_name}
use Rattle.entry_parts.specs.Elements.{Element, element}
use Rattle.entry_parts.specs.Setting.{without_element}
use Rattle.entry_parts.specs.declared.header.Header.{Header}
use Rattle.index_record.specs.Filling.{record_of_meta}
use Rattle.index_record.specs.declared.record.IndexRecord.{IndexRecord}
use Rattle.index_theory.specs.Scan.{record_of, scanned}
use Rattle.record_list.specs.Lists.{same_name}
use Rattle.file_handles.specs.Changes.{appended, completed, with_version}
use Rattle.file_handles.specs.Effects.{LearntIsScanned, learnt_at, learnt_of, learnt_under, name_of, object_name, once}
use Rattle.file_handles.specs.declared.fault.Effect.{Effect}
use Rattle.file_handles.specs.declared.fault.Effect.TheVariants as effects
use Rattle.file_handles.proofs.EffectLaws.{and_false, and_true, at_finished, learnt_unfinished}
use Rattle.handle_table.proofs.Released.{released_objects, released_shelf}

-- What a scan says under each name of a table in which one name is removed, or has another content.

other_bytes : (a b : List ℕ) → bytes_eq a b ≡ false → a ≢ b
other_bytes a b other e = let same : bytes_eq a b ≡ true = (bytes_decides a b).1 e in cc

one_of : (a b : Name) → a.0 ≡ b.0 → a ≡ b
one_of a b e = λ i. record { 0 = e i }

module _ (t : Table (List ℕ)) (name q : Name) where
  pub removed_scanned : scanned (get (remove t name.0)) q ≡ once (effects.Gone name) (scanned (get t)) q
  removed_scanned = elim (cases_Bool (bytes_eq name.0 q.0)) [
    | inl same ↦
        ap (option_and_then (record_of q)) (get-remove_same t name.0 q.0 (same_bytes name.0 q.0 same))
        ∙ sym (ap (λ (b : Bool). if b then None else scanned (get t) q) same)
    | inr other ↦
        ap (option_and_then (record_of q)) (get-remove_other t name.0 q.0 (other_bytes name.0 q.0 other))
        ∙ sym (ap (λ (b : Bool). if b then None else scanned (get t) q) other)
  ]

  -- what is said once a record, or that there is none, is learnt of a name
  said_under : (said : Name → Option IndexRecord) (m : Said) (size : ℕ) (b : Bool)
      → once (learnt_under name (if b then Some (record_of_meta name m size) else None)) said q ≡ (if same_name name q then (if b then Some (record_of_meta name m size) else None) else said q)
  unfolding record_of_meta
  said_under said m size true = refl
  said_under said m size false = refl

  pub inserted_scanned : (c : List ℕ) → scanned (get (insert t name.0 c)) q ≡ once (learnt_under name (record_of name c)) (scanned (get t)) q
  inserted_scanned c = by_name ∙ sym (said_under (scanned (get t)) (file_meta c) (length c) (fits name.0 c))
    where
      by_name : scanned (get (insert t name.0 c)) q ≡ (if same_name name q then record_of name c else scanned (get t) q)
      by_name = elim (cases_Bool (bytes_eq name.0 q.0)) [
        | inl same ↦
            ap (option_and_then (record_of q)) (get-insert_same t name.0 c q.0 (sym (same_bytes name.0 q.0 same)))
            ∙ ap (λ (n : Name). record_of n c) (sym (one_of name q (same_bytes name.0 q.0 same)))
            ∙ sym (ap (λ (b : Bool). if b then record_of name c else scanned (get t) q) same)
        | inr other ↦
            ap (option_and_then (record_of q)) (get-insert_other t name.0 c q.0 (λ e. other_bytes name.0 q.0 other (sym e)))
            ∙ sym (ap (λ (b : Bool). if b then record_of name c else scanned (get t) q) other)
      ]

-- The machine with another object of a number.

module _ (m : Machine) (i : ℕ) (o : MachineObject) (q : Name) where
  stored_scanned : scanned (get (stored m i o).shelf) q ≡ once (learnt_of o) (scanned (get m.shelf)) q
  stored_scanned = go (o.finished && not o.doomed)
    where
      go : (b : Bool) → scanned (get (if b then insert m.shelf (file_name o.version.key) (file_of o.version) else m.shelf)) q
          ≡ once (if b then learnt_under (object_name o) (record_of (object_name o) (file_of o.version)) else effects.Same) (scanned (get m.shelf)) q
      go true = inserted_scanned m.shelf (object_name o) q (file_of o.version)
      go false = refl

  -- and a machine with the same objects and the same shelf
  stored_learnt : i < length m.objects → (n : Machine) → n.objects ≡ (stored m i o).objects → n.shelf ≡ (stored m i o).shelf
      → scanned (get n.shelf) q ≡ once (learnt_at n (if o.finished then Some i else None)) (scanned (get m.shelf)) q
  stored_learnt within n objects shelf =
      ap (λ (t : Table (List ℕ)). scanned (get t) q) shelf
      ∙ stored_scanned
      ∙ sym (ap (λ (e : Effect). once e (scanned (get m.shelf)) q) (at_finished n i o (ap (λ objects. nth objects i) objects ∙ nth-set_same m.objects i i o within refl)))

-- The scan after a command is the one before with what is learnt of the object that the command writes.
abbrev Scans : Machine → Command → Name → Machine → Type 0
Scans m c q n = scanned (get n.shelf) q ≡ once (learnt_at n (rewritten m c)) (scanned (get m.shelf)) q

joined_scanned : (m : Machine) (s : ℕ) (o : Option ℕ) (r : Reading) → (joined m s o r).shelf ≡ m.shelf
joined_scanned m s (Some i) r = refl
joined_scanned m s None (Whole v) = refl
joined_scanned m s None (Damaged d) = refl
joined_scanned m s None Nothing = refl

module _ (m : Machine) (proper : IsProper m) (q : Name) where
  -- it is enough that it is so after what the command does
  by_effect : (c : Command) → first_failing (checks m c) ≡ None → Scans m c q (effect m c).next → Scans m c q (step m c).next
  by_effect c fine is = subst (λ (a : Answer). Scans m c q a.next) (sym (ap (stepped m c) fine)) is

  module _ (s : ℕ) where
    within : is_slot m s ≡ true → number_of m s < length m.objects
    within is = (slot_in_use m proper s is).number

    appends : (bytes : List ℕ) → first_failing (checks m (Append s bytes)) ≡ None → Scans m (Append s bytes) q (effect m (Append s bytes)).next
    unfolding checks effect
    appends bytes fine =
        let all = all_hold (checks m (Append s bytes)) fine in
        stored_scanned m (number_of m s) (appended bytes (object_of m s)) q
        ∙ ap (λ (e : Effect). once e (scanned (get m.shelf)) q) (learnt_unfinished (appended bytes (object_of m s)) (not-true (object_of m s).finished all.1.1.0))

    finishes : first_failing (checks m (Finish s)) ≡ None → Scans m (Finish s) q (effect m (Finish s)).next
    unfolding checks effect
    finishes fine =
        let all = all_hold (checks m (Finish s)) fine in
        let next : finished_by m s ≡ stored m (number_of m s) (completed (object_of m s)) =
        λ i. if all.1.0 i && all.1.1.0 i then stored m (number_of m s) (completed (object_of m s)) else m
        in
        stored_learnt m (number_of m s) (completed (object_of m s)) q (within all.0) (finished_by m s) (ap (λ (n : Machine). n.objects) next) (ap (λ (n : Machine). n.shelf) next)

    finishes_as : (header : Header) (elements : List Element) → first_failing (checks m (FinishAs s header elements)) ≡ None → Scans m (FinishAs s header elements) q (effect m (FinishAs s header elements)).next
    unfolding checks effect
    finishes_as header elements fine =
        let all = all_hold (checks m (FinishAs s header elements)) fine in
        let next : Machine = stored m (number_of m s) (finished_as header elements (object_of m s)) in
        stored_learnt m (number_of m s) (finished_as header elements (object_of m s)) q (within all.0) next refl refl

    sets : (name value : List ℕ) → first_failing (checks m (SetElement s name value)) ≡ None → Scans m (SetElement s name value) q (effect m (SetElement s name value)).next
    unfolding checks effect
    sets name value fine =
        let all = all_hold (checks m (SetElement s name value)) fine in
        stored_learnt m (number_of m s) (with_version (with_value name value) (object_of m s)) q (within all.0) (changed m s (with_value name value)) refl refl

    -- where there is no such element nothing is written
    unsets : (name : List ℕ) → first_failing (checks m (UnsetElement s name)) ≡ None → Scans m (UnsetElement s name) q (effect m (UnsetElement s name)).next
    unfolding checks effect
    unsets name fine = go (element name (object_of m s).version.elements)
      where
        without : Machine
        without = changed m s (λ v. record v { elements = without_element name v.elements })

        go : (found : Option (List ℕ))
            → scanned (get (if is_none found then answer m NoneThere else answer without Done).next.shelf) q
            ≡ once (learnt_at (if is_none found then answer m NoneThere else answer without Done).next (if (object_of m s).finished && is_some found then Some (number_of m s) else None)) (scanned (get m.shelf)) q
        go None = ap (λ (b : Bool). once (learnt_at m (if b then Some (number_of m s) else None)) (scanned (get m.shelf)) q) (sym (and_false (object_of m s).finished))
        go (Some value) =
            let all = all_hold (checks m (UnsetElement s name)) fine in
            stored_learnt m (number_of m s) (with_version (λ v. record v { elements = without_element name v.elements }) (object_of m s)) q (within all.0) without refl refl
            ∙ ap (λ (b : Bool). once (learnt_at without (if b then Some (number_of m s) else None)) (scanned (get m.shelf)) q) (sym (and_true (object_of m s).finished))

    uses : first_failing (checks m (UseEntry s)) ≡ None → Scans m (UseEntry s) q (effect m (UseEntry s)).next
    unfolding checks effect
    uses fine =
        let all = all_hold (checks m (UseEntry s)) fine in
        stored_learnt m (number_of m s) (with_version (used m.moment) (object_of m s)) q (within all.0) (changed m s (used m.moment)) refl refl

    pins : first_failing (checks m (Pin s)) ≡ None → Scans m (Pin s) q (effect m (Pin s)).next
    unfolding checks effect
    pins fine =
        let all = all_hold (checks m (Pin s)) fine in
        stored_learnt m (number_of m s) (with_version (with_pin true) (object_of m s)) q (within all.0) (changed m s (with_pin true)) refl refl

    unpins : first_failing (checks m (Unpin s)) ≡ None → Scans m (Unpin s) q (effect m (Unpin s)).next
    unfolding checks effect
    unpins fine =
        let all = all_hold (checks m (Unpin s)) fine in
        stored_learnt m (number_of m s) (with_version (with_pin false) (object_of m s)) q (within all.0) (changed m s (with_pin false)) refl refl

    puts : (kind bytes : List ℕ) → first_failing (checks m (PutAlt s kind bytes)) ≡ None → Scans m (PutAlt s kind bytes) q (effect m (PutAlt s kind bytes)).next
    unfolding checks effect
    puts kind bytes fine =
        let all = all_hold (checks m (PutAlt s kind bytes)) fine in
        stored_learnt m (number_of m s) (with_version (with_alt_data kind bytes) (object_of m s)) q (within all.0) (changed m s (with_alt_data kind bytes)) refl refl

    closes : first_failing (checks m (Close s)) ≡ None → Scans m (Close s) q (effect m (Close s)).next
    unfolding checks effect
    closes fine = go (is_writer m s && not (object_of m s).finished)
      where
        next : Bool → Machine
        next b = if b then stored m (number_of m s) (completed (object_of m s)) else m

        go : (b : Bool) → scanned (get (released (next b) s).shelf) q ≡ once (learnt_at (released (next b) s) (if b then Some (number_of m s) else None)) (scanned (get m.shelf)) q
        go true =
            let all = all_hold (checks m (Close s)) fine in
            stored_learnt m (number_of m s) (completed (object_of m s)) q (within all.0) (released (next true) s) (released_objects (next true) s) (released_shelf (next true) s)
        go false = ap (λ (t : Table (List ℕ)). scanned (get t) q) (released_shelf m s)

  -- a name that is gone
  gone : (c : Command) (key : List ℕ) → first_failing (checks m c) ≡ None → (effect m c).next.shelf ≡ remove m.shelf (file_name key)
      → scanned (get (step m c).next.shelf) q ≡ once (effects.Gone (name_of key)) (scanned (get m.shelf)) q
  gone c key fine is =
      ap (λ (a : Answer). scanned (get a.next.shelf) q) (ap (stepped m c) fine)
      ∙ ap (λ (t : Table (List ℕ)). scanned (get t) q) is
      ∙ removed_scanned m.shelf (name_of key) q

pub learnt_scanned : LearntIsScanned
unfolding effect
learnt_scanned m (At now) of proper fine q = by_effect m proper q (At now) fine refl
learnt_scanned m (Create s key) of proper fine q = gone m proper q (Create s key) key fine refl
learnt_scanned m (OpenKey s key) of proper fine q = by_effect m proper q (OpenKey s key) fine (ap (λ (t : Table (List ℕ)). scanned (get t) q) (joined_scanned m s (used_by m key) (on_shelf m key)))
learnt_scanned m (Append s bytes) of proper fine q = by_effect m proper q (Append s bytes) fine (appends m proper q s bytes fine)
learnt_scanned m (Finish s) of proper fine q = by_effect m proper q (Finish s) fine (finishes m proper q s fine)
learnt_scanned m (FinishAs s header elements) of proper fine q = by_effect m proper q (FinishAs s header elements) fine (finishes_as m proper q s header elements fine)
learnt_scanned m (SetElement s name value) of proper fine q = by_effect m proper q (SetElement s name value) fine (sets m proper q s name value fine)
learnt_scanned m (UnsetElement s name) of proper fine q = by_effect m proper q (UnsetElement s name) fine (unsets m proper q s name fine)
learnt_scanned m (ElementOf s name) of proper fine q = by_effect m proper q (ElementOf s name) fine refl
learnt_scanned m (UseEntry s) of proper fine q = by_effect m proper q (UseEntry s) fine (uses m proper q s fine)
learnt_scanned m (Pin s) of proper fine q = by_effect m proper q (Pin s) fine (pins m proper q s fine)
learnt_scanned m (Unpin s) of proper fine q = by_effect m proper q (Unpin s) fine (unpins m proper q s fine)
learnt_scanned m (PutAlt s kind bytes) of proper fine q = by_effect m proper q (PutAlt s kind bytes) fine (puts m proper q s kind bytes fine)
learnt_scanned m (ReadPart s from len) of proper fine q = by_effect m proper q (ReadPart s from len) fine refl
learnt_scanned m (Close s) of proper fine q = by_effect m proper q (Close s) fine (closes m proper q s fine)
learnt_scanned m (Doom key) of proper fine q = gone m proper q (Doom key) key fine refl
learnt_scanned m (Get key) of proper fine q = by_effect m proper q (Get key) fine refl
learnt_scanned m (GetAlt key) of proper fine q = by_effect m proper q (GetAlt key) fine refl
learnt_scanned m (MainBody key) of proper fine q = by_effect m proper q (MainBody key) fine refl
learnt_scanned m Flush of proper fine q = by_effect m proper q Flush fine refl
learnt_scanned m (HasEntry key) of proper fine q = by_effect m proper q (HasEntry key) fine refl
learnt_scanned m (HasGiven key there) of proper fine q = by_effect m proper q (HasGiven key there) fine refl
learnt_scanned m ListRecords of proper fine q = absurd of
learnt_scanned m (ListGiven records) of proper fine q = absurd of
learnt_scanned m (Evict kb) of proper fine q = absurd of
learnt_scanned m (EvictNames names) of proper fine q = absurd of
learnt_scanned m (ClearOrigin origin) of proper fine q = absurd of
learnt_scanned m (ClearNames names) of proper fine q = absurd of
learnt_scanned m Resume of proper fine q = absurd of
learnt_scanned m (ResumeNames names) of proper fine q = absurd of
learnt_scanned m (StepUpdate n) of proper fine q = absurd of
learnt_scanned m UpdateState of proper fine q = by_effect m proper q UpdateState fine refl
learnt_scanned m Verify of proper fine q = absurd of
learnt_scanned m (VerifyRecords records) of proper fine q = absurd of
learnt_scanned m Rebuild of proper fine q = absurd of
learnt_scanned m Dump of proper fine q = absurd of
