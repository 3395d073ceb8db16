-- The names of the undoomed objects in use that are asked for, by a test of the machine's objects.
use Rattle.std.proofs.Common.{◌≡◌, ℕ, ◌<◌, List, length, map, Bool, true, false, not, ◌&&◌, Option, Some, None, Result, Ok, Err, IfOk, refl, sym, ap, ◌∙◌}
use Rattle.std.specs.Prelude.{unwrap_or}
use Rattle.std.specs.List.{list_any}
use Rattle.std.specs.Str.{bytes_eq}
use Rattle.std.proofs.lemmas.Bool.{and_from, and_parts}
use Rattle.std.proofs.lemmas.List.Folds.{Any-from_list_any, list_any_at}
use Rattle.std.proofs.lemmas.Option.{slice_get-get_or, unwrap_or-slice_get}
use Rattle.std.proofs.lemmas.Slice.Eq.{bytes_eq-Decides}
use Rattle.cache_base.specs.Names.{AreSorted, has_name}
use Rattle.cache_base.specs.declared.name.Name.{Name}
use Rattle.cache_theory.specs.Covers.{covers, covers_object}
use Rattle.cache_theory.specs.Machine.{Machine, object}
use Rattle.cache_theory.specs.Machine.{Object as MachineObject}
use Rattle.cache_theory.specs.Proper.{IsProper}
use Rattle.cache_theory.specs.Table.{get, keys, name_of}
use Rattle.cache_theory.proofs.ObjectLaws.WritingNames.{passes_there, passing, passing_is_table}
use Rattle.entry_metadata.specs.Metadata.{Meta as Said}
use Rattle.handle_table.specs.Held.{IsEntryOf, header_in, is_draft, key_in}
use Rattle.handle_table.specs.Kept.{Kept, object_at}
use Rattle.handle_table.specs.Standing.{HandlesStand}
use Rattle.handle_table.specs.Users.{AreCoveredNames, AreWritingNames, asks, is_counted}
use Rattle.handle_table.specs.declared.object.Entry.{Entry}
use Rattle.handle_table.specs.declared.object.Entry.TheVariants as entry
use Rattle.handle_table.specs.declared.object.Object.{Object}
use Rattle.handle_table.specs.declared.users.Asked.{Asked}
use Rattle.handle_table.specs.declared.users.Asked.TheVariants as asked
use Rattle.handle_table.proofs.OpenNames.{names_of_table}
use Rattle.handle_table.proofs.PassingNames.{has_passing}
use Rattle.handle_table.proofs.User.{user_at, user_of, user_there}

same_test : (a b : Bool) → (a ≡ true → b ≡ true) → (b ≡ true → a ≡ true) → a ≡ b
same_test true b to from = sym (to refl)
same_test false true to from = from refl
same_test false false to from = refl

-- An entry is asked for where the machine's object passes the test.
module _ (which : Asked) (test : MachineObject → Bool) (alike : (e : Entry) (o : MachineObject) → IsEntryOf e o → asks which e ≡ test o) where
  abbrev passes : Machine → ℕ → Bool
  passes m i = test (object m i)

  module _ (k : Kept) (m : Machine) (number : ℕ → ℕ) (proper : IsProper m) (stand : HandlesStand k m number) where
    -- one that counts is the machine's object under the name
    counts_there : (q : Name) (p : ℕ) (o : Option Object) → p < length k.objects → object_at k p ≡ o
        → is_counted which q o ≡ true → passes_there (passes m) (get m.in_use q.0) ≡ true
    counts_there q p None lt at is = absurd (cc)
    counts_there q p (Some x) lt at is =
        let parts = and_parts (asks which x.entry && not x.doomed) (bytes_eq x.name.0 q.0) is in
        let kinds = and_parts (asks which x.entry) (not x.doomed) parts.0 in
        let user = and_from (not x.doomed) (bytes_eq x.name.0 q.0) kinds.1 parts.1 in
        ap (passes_there (passes m)) (user_there k m number proper stand q p (user_at k q p (Some x) lt at user))
        ∙ sym (alike x.entry (object m (number p)) (stand.objects p x at).as_held.held_entry)
        ∙ kinds.0

    counted_there : (q : Name) → list_any (is_counted which q) k.objects ≡ true
        → passes_there (passes m) (get m.in_use q.0) ≡ true
    counted_there q any =
        let found = Any-from_list_any (is_counted which q) k.objects any in
        let at = unwrap_or-slice_get k.objects found.0 None in
        let there = ap (λ o. unwrap_or o None) (slice_get-get_or k.objects found.0 found.1 found.2) ∙ found.3 in
        counts_there q found.0 found.1 found.2 there found.4

    -- and the machine's is one that counts
    there_counted : (q : Name) (o : Option ℕ) → get m.in_use q.0 ≡ o → passes_there (passes m) o ≡ true
        → list_any (is_counted which q) k.objects ≡ true
    there_counted q None at passed = absurd (cc)
    there_counted q (Some i) at passed =
        let found = user_of k m number proper stand q i at in
        let p = found.0 in
        let there = found.1.0 in
        let x = there.object in
        let held = (stand.objects p x there.at_place).as_held.held_entry in
        let asked_for : asks which x.entry ≡ true =
        alike x.entry (object m (number p)) held ∙ ap (passes m) found.1.1 ∙ passed in
        let undoomed : not x.doomed ≡ true = ap not there.undoomed in
        let counted : is_counted which q (Some x) ≡ true =
        and_from (asks which x.entry && not x.doomed) (bytes_eq x.name.0 q.0)
        (and_from (asks which x.entry) (not x.doomed) asked_for undoomed)
        ((bytes_eq-Decides x.name.0 q.0).1 there.named) in
        list_any_at (is_counted which q) k.objects p None there.ranged
        (ap (is_counted which q) (sym (unwrap_or-slice_get k.objects p None) ∙ there.at_place) ∙ counted)

    asked_same : (q : Name)
        → list_any (is_counted which q) k.objects ≡ passes_there (passes m) (get m.in_use q.0)
    asked_same q = same_test _ _ (counted_there q) (there_counted q (get m.in_use q.0) refl)

    -- rising names of those that are asked for are the machine's
    asked_is : (names : List Name) → AreSorted names
        → ((q : Name) → has_name names q ≡ list_any (is_counted which q) k.objects) → names ≡ map name_of (keys (passing (passes m) m.in_use))
    asked_is names rising has =
        names_of_table (passing (passes m) m.in_use) (passing_is_table (passes m) m.in_use proper.users) names rising
        (λ q. has q ∙ asked_same q ∙ sym (has_passing (passes m) q m.in_use proper.users))

  -- the names of them, listed in their order
  listed_asked : {E : Type 0} (k : Kept) (r : Result (List Name) E)
      → IfOk r (λ names. (q : Name) → has_name names q ≡ list_any (is_counted which q) k.objects) → IfOk r AreSorted
      → IfOk r (λ names. (m : Machine) (number : ℕ → ℕ) → IsProper m → HandlesStand k m number → names ≡ map name_of (keys (passing (passes m) m.in_use)))
  listed_asked k (Err e) has rising = tt
  listed_asked k (Ok names) has rising = λ m number proper stand. asked_is k m number proper stand names rising has

-- An entry is a draft where the machine's object is not finished.
draft_is : (e : Entry) (o : MachineObject) → IsEntryOf e o → is_draft e ≡ not o.finished
draft_is (entry.Draft d) o is = sym (ap not is.0)
draft_is (entry.Finished meta) o is = sym (ap not is.0)

pub listed_writing : {E : Type 0} (k : Kept) (r : Result (List Name) E)
    → IfOk r (λ names. (q : Name) → has_name names q ≡ list_any (is_counted asked.Drafts q) k.objects)
    → IfOk r AreSorted → IfOk r (AreWritingNames k)
listed_writing k r has rising = listed_asked asked.Drafts (λ o. not o.finished) draft_is k r has rising

-- It is covered where the machine's object is.
covered_is : (origin : ℕ) (e : Entry) (o : MachineObject) → IsEntryOf e o → covers origin (key_in e) (header_in e) ≡ covers_object origin o
covered_is origin (entry.Draft d) o is = λ i. covers origin (is.1.key i) (is.1.header i)
covered_is origin (entry.Finished meta) o is = ap (λ (m : Said). covers origin m.key m.header) is.1

pub listed_covered : {E : Type 0} (k : Kept) (origin : ℕ) (r : Result (List Name) E)
    → IfOk r (λ names. (q : Name) → has_name names q ≡ list_any (is_counted (asked.Of origin) q) k.objects)
    → IfOk r AreSorted → IfOk r (AreCoveredNames k origin)
listed_covered k origin r has rising =
    listed_asked (asked.Of origin) (covers_object origin) (covered_is origin) k r has rising
