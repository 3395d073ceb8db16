-- Eviction takes entries that stand and are not in use off the shelf, and does nothing else.
use Rattle.std.proofs.Common.{◌≡◌, inl, inr, ℕ, ◌-◌, length, List, [], ◌∷◌, map, filter, Bool, true, false, cond, not, ◌||◌, Option, Some, None, refl, sym, ap, subst, ◌∙◌}
use Rattle.std.specs.List.{AllByRecursion, cons_option}
use Rattle.std.specs.Ordering.{eq_by_cmp}
use Rattle.std.specs.Prelude.{is_some, nat_le}
use Rattle.std.specs.Str.{bytes_eq}
use Rattle.std.proofs.lemmas.Bool.{and_parts, cond_both, not-true, false_from_ne_true, or_cases, or_left, or_right}
use Rattle.std.proofs.lemmas.List.Elements.{All-from_recursion, recursion_from_All}
use Rattle.std.proofs.lemmas.List.Sorted.{All-permutation}
use Rattle.std.proofs.lemmas.Map.Text.{is_eq-slice_cmp}
use Rattle.std.proofs.lemmas.Slice.Eq.{bytes_eq-Decides}
use Rattle.cache_base.specs.Names.{has_name}
use Rattle.cache_base.specs.declared.name.Name.{Name}
use Rattle.cache_theory.specs.Checks.{checks}
use Rattle.cache_theory.specs.Laws.{DoomedAreLost, EvictTakesOff, EvictedMayGo, MayGo, UnusedAreTakenOff, is_among, AreLost}
use Rattle.cache_theory.specs.Machine.{Machine, open_names}
use Rattle.cache_theory.specs.Step.{all_doomed, doomed_at, doomed_under, effect, evicted, update_ended, without, cleared_of, unmarked}
use Rattle.cache_theory.specs.Table.{Table, bytes_cmp, get, name_of, remove}
use Rattle.cache_check.proofs.FoundExactly.{has_key}
use Rattle.cache_theory.proofs.Names.{get-remove_other, get-remove_same, one_name, same_bytes}
use Rattle.entry_file.specs.EntryFile.{file_meta, fits}
use Rattle.entry_metadata.specs.Metadata.{Meta}
use Rattle.evictor.specs.Evict.{candidates, down_to, in_order, may_evict, total_kb}
use Rattle.evictor.proofs.Sorting.{moved_in_order}
use Rattle.index_record.specs.Filling.{record_of_meta}
use Rattle.index_record.specs.Record.{is_pinned, size_kb}
use Rattle.index_record.specs.declared.record.IndexRecord.{IndexRecord}
use Rattle.index_theory.specs.Scan.{scan}

-- What holds of records holds of those that are evicted.

module _ (P : IndexRecord → Type 0) where
  all_ordered : (rs : List IndexRecord) → AllByRecursion P rs → AllByRecursion P (in_order rs)
  all_ordered rs h =
      recursion_from_All P (in_order rs)
      (All-permutation P rs (in_order rs) (moved_in_order rs) (All-from_recursion P rs h))

  all_down : (total limit : ℕ) (rs : List IndexRecord) → AllByRecursion P rs
      → AllByRecursion P (down_to total limit rs)
  all_down total limit [] h = tt
  all_down total limit (r ∷ rs) h =
      let later = all_down (total - size_kb r) limit rs h.1 in
      cond_both (nat_le total limit) [] (r ∷ down_to (total - size_kb r) limit rs)
      (AllByRecursion P) (λ enough. tt) (λ more. (h.0, later))

  -- of those that pass a test it holds with the test
  all_passing : (test : IndexRecord → Bool) (rs : List IndexRecord) → AllByRecursion P rs
      → AllByRecursion (λ r. P r × (test r ≡ true)) (filter test rs)
  all_passing test [] h = tt
  all_passing test (r ∷ rs) h =
      let later = all_passing test rs h.1 in
      let Passing : List IndexRecord → Type 0 = AllByRecursion (λ s. P s × (test s ≡ true)) in
      elim (test r) as (λ b. test r ≡ b → Passing (cond b (r ∷ filter test rs) (filter test rs))) [
        | true ↦ λ passes. ((h.0, passes), later)
        | false ↦ λ fails. later
      ] refl

pub all_weaker : {X : Type 0} (P Q : X → Type 0) (xs : List X) → ((x : X) → P x → Q x)
    → AllByRecursion P xs → AllByRecursion Q xs
all_weaker P Q [] weaker h = tt
all_weaker P Q (x ∷ xs) weaker h = (weaker x h.0, all_weaker P Q xs weaker h.1)

-- The records of a scan have names that stand.

own_name : (n : List ℕ) → eq_by_cmp bytes_cmp n n ≡ true
own_name n = is_eq-slice_cmp n n ∙ (bytes_eq-Decides n n).1 refl

pub later_some : {X : Type 0} (b : Bool) (x : X) (o : Option X) → is_some o ≡ true
    → is_some (cond b (Some x) o) ≡ true
later_some true x o h = refl
later_some false x o h = h

-- each name of a table has something in it
own_names : {X : Type 0} (t : Table X) → AllByRecursion (λ e. is_some (get t e.0) ≡ true) t
own_names [] = tt
own_names (e ∷ es) = (
  ap (λ b. is_some (cond b (Some e.1) (get es e.0))) (own_name e.0),
  all_weaker (λ f. is_some (get es f.0) ≡ true) (λ f. is_some (get (e ∷ es) f.0) ≡ true) es
      (λ f h. later_some (eq_by_cmp bytes_cmp f.0 e.0) e.1 (get es f.0) h) (own_names es),
)

pub record_named : (name : Name) (m : Meta) (size : ℕ) → (record_of_meta name m size).name ≡ name
unfolding record_of_meta
record_named name m size = refl

module _ (P : List ℕ → Type 0) where
  all_scanned : (t : Table (List ℕ)) → AllByRecursion (λ e. P e.0) t
      → AllByRecursion (λ r. P r.name.0) (scan t)
  all_scanned [] h = tt
  all_scanned (e ∷ es) h =
      go (fits e.0 e.1) (all_scanned es h.1)
    where
      new : IndexRecord
      new = record_of_meta (name_of e.0) (file_meta e.1) (length e.1)

      go : (b : Bool) → AllByRecursion (λ r. P r.name.0) (scan es)
          → AllByRecursion (λ r. P r.name.0) (cons_option (cond b (Some new) None) (scan es))
      go true later =
          (subst (λ (n : Name). P n.0) (sym (record_named (name_of e.0) (file_meta e.1) (length e.1))) h.0, later)
      go false later = later

none_of : {X : Type 0} (o : Option X) → is_some o ≡ false → o ≡ None
none_of None none = refl
none_of (Some x) none = absurd (cc)

may_go_of : (m : Machine) (r : IndexRecord)
    → (is_some (get m.shelf r.name.0) ≡ true) × (may_evict (open_names m) r ≡ true)
    → MayGo m r.name.0
may_go_of m r h =
    let parts = and_parts (not (is_pinned r)) (not (has_name (open_names m) r.name)) h.1 in
    record {
      stands = h.0;
      unused =
          none_of (get m.in_use r.name.0)
          (sym (has_key m.in_use r.name) ∙ not-true (has_name (open_names m) r.name) parts.1);
    }

evicted_records : Machine → ℕ → List IndexRecord
evicted_records m kb =
    down_to (total_kb (scan m.shelf)) kb (candidates (scan m.shelf) (open_names m))

all_may_go : (m : Machine) (kb : ℕ) → AllByRecursion (λ r. MayGo m r.name.0) (evicted_records m kb)
unfolding evicted_records
all_may_go m kb =
    let stands : List ℕ → Type 0 = λ n. is_some (get m.shelf n) ≡ true in
    let may : IndexRecord → Bool = may_evict (open_names m) in
    let P : IndexRecord → Type 0 = λ r. MayGo m r.name.0 in
    let standing = all_scanned stands m.shelf (own_names m.shelf) in
    let passing = all_passing (λ r. stands r.name.0) may (scan m.shelf) standing in
    let going =
    all_weaker (λ r. stands r.name.0 × (may r ≡ true)) P (filter may (scan m.shelf)) (may_go_of m)
    passing in
    all_down P (total_kb (scan m.shelf)) kb (candidates (scan m.shelf) (open_names m))
    (all_ordered P (filter may (scan m.shelf)) going)

-- what holds of each name holds of one among them
among_all : (P : List ℕ → Type 0) (rs : List IndexRecord) (name : List ℕ)
    → AllByRecursion (λ r. P r.name.0) rs → is_among name (map (λ r. r.name) rs) ≡ true → P name
among_all P [] name h among = absurd (cc)
among_all P (r ∷ rs) name h among =
    elim (or_cases (bytes_eq name r.name.0) (is_among name (map (λ s. s.name) rs)) among) [
      | inl here ↦ subst P (sym (same_bytes name r.name.0 here)) h.0
      | inr there ↦ among_all P rs name h.1 there
    ]

pub evicted_may_go : EvictedMayGo
unfolding evicted evicted_records
evicted_may_go m kb name among =
    among_all (MayGo m) (evicted_records m kb) name (all_may_go m kb) among

-- Names with no object in use are taken off the shelf.

abbrev AreUnused : Machine → List Name → Type 0
AreUnused m names = AllByRecursion (λ n. get m.in_use n.0 ≡ None) names

pub none_after : {X : Type 0} (t : Table X) (gone q : List ℕ) → get t q ≡ None
    → get (remove t gone) q ≡ None
none_after t gone q none = elim (one_name gone q) [
  | inl same ↦ get-remove_same t gone q same
  | inr other ↦ get-remove_other t gone q other ∙ none
]

pub same_after : {X : Type 0} (t : Table X) (gone q : List ℕ) → get t gone ≡ None
    → get (remove t gone) q ≡ get t q
same_after t gone q none = elim (one_name gone q) [
  | inl same ↦ get-remove_same t gone q same ∙ sym none ∙ ap (get t) same
  | inr other ↦ get-remove_other t gone q other
]

unused_on : (m : Machine) (gone : List ℕ) (names : List Name) → AreUnused m names
    → AreUnused (doomed_under m gone) names
unused_on m gone names h =
    all_weaker (λ n. get m.in_use n.0 ≡ None) (λ n. get (remove m.in_use gone) n.0 ≡ None) names
    (λ n none. none_after m.in_use gone n.0 none) h

objects_stay : (m : Machine) (names : List Name) → AreUnused m names
    → (all_doomed m names).objects ≡ m.objects
objects_stay m [] h = refl
objects_stay m (n ∷ names) h =
    objects_stay (doomed_under m n.0) names (unused_on m n.0 names h.1)
    ∙ ap (doomed_at m.objects) h.0

users_stay : (m : Machine) (names : List Name) (q : List ℕ) → AreUnused m names
    → get (all_doomed m names).in_use q ≡ get m.in_use q
users_stay m [] q h = refl
users_stay m (n ∷ names) q h =
    users_stay (doomed_under m n.0) names q (unused_on m n.0 names h.1)
    ∙ same_after m.in_use n.0 q h.0

slots_stay : (m : Machine) (names : List Name) → (all_doomed m names).slots ≡ m.slots
slots_stay m [] = refl
slots_stay m (n ∷ names) = slots_stay (doomed_under m n.0) names

moment_stays : (m : Machine) (names : List Name) → (all_doomed m names).moment ≡ m.moment
moment_stays m [] = refl
moment_stays m (n ∷ names) = moment_stays (doomed_under m n.0) names

rest_stays : (m : Machine) (names : List Name) → m.rest ≡ [] → (all_doomed m names).rest ≡ []
rest_stays m [] ended = ended
rest_stays m (n ∷ names) ended = rest_stays (doomed_under m n.0) names (ap (without n.0) ended)

pub off_either : {X : Type 0} (a b : Bool) (o : Option X)
    → cond b None (cond a None o) ≡ cond (a || b) None o
off_either true true o = refl
off_either true false o = refl
off_either false true o = refl
off_either false false o = refl

pub get_removed_or : {X : Type 0} (t : Table X) (gone q : List ℕ)
    → get (remove t gone) q ≡ cond (bytes_eq q gone) None (get t q)
get_removed_or t gone q = elim (one_name gone q) [
  | inl same ↦ get-remove_same t gone q same
      ∙ ap (λ b. cond b None (get t q)) (sym ((bytes_eq-Decides q gone).1 (sym same)))
  | inr other ↦ get-remove_other t gone q other
      ∙ ap (λ b. cond b None (get t q))
      (sym (false_from_ne_true (bytes_eq q gone) (λ e. other (sym (same_bytes q gone e)))))
]

shelf_without : (m : Machine) (names : List Name) (q : List ℕ)
    → get (all_doomed m names).shelf q ≡ cond (is_among q names) None (get m.shelf q)
shelf_without m [] q = refl
shelf_without m (n ∷ names) q =
    shelf_without (doomed_under m n.0) names q
    ∙ ap (λ o. cond (is_among q names) None o) (get_removed_or m.shelf n.0 q)
    ∙ off_either (bytes_eq q n.0) (is_among q names) (get m.shelf q)

unused_each : (m : Machine) (names : List Name)
    → ((name : List ℕ) → is_among name names ≡ true → get m.in_use name ≡ None) → AreUnused m names
unused_each m [] each = tt
unused_each m (n ∷ names) each = (
  each n.0 (or_left (bytes_eq n.0 n.0) (is_among n.0 names) ((bytes_eq-Decides n.0 n.0).1 refl)),
  unused_each m names (λ q among. each q (or_right (bytes_eq q n.0) (is_among q names) among)),
)

pub doomed_are_lost : DoomedAreLost
doomed_are_lost m names = record {
  shelf = shelf_without (update_ended m) names;
  rest = rest_stays (update_ended m) names refl;
  slots = slots_stay (update_ended m) names;
  moment = moment_stays (update_ended m) names;
}

-- so it is by a clearing
pub cleared_are_lost : (m : Machine) (names : List Name) → AreLost m (cleared_of m names) names
cleared_are_lost m names = let lost = doomed_are_lost (unmarked m) names in record {
  shelf = lost.shelf;
  rest = lost.rest;
  slots = lost.slots;
  moment = lost.moment;
}

pub unused_are_taken_off : UnusedAreTakenOff
unused_are_taken_off m names each =
    let unused : AreUnused m names = unused_each m names each in
    record {
      lost = doomed_are_lost m names;
      objects = objects_stay (update_ended m) names unused;
      users = λ q. users_stay (update_ended m) names q unused;
    }

pub evict_takes_off : EvictTakesOff
unfolding effect checks
evict_takes_off m kb =
    unused_are_taken_off m (evicted m kb) (λ name among. (evicted_may_go m kb name among).unused)
