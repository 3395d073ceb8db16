-- A clearing takes each covered content off the shelf.
use Rattle.std.proofs.Common.{◌≡◌, inl, inr, filter, ℕ, List, [], ◌∷◌, ◌++◌, map, Bool, true, false, cond, ◌||◌, Option, Some, None, refl, sym, ap, subst, ◌∙◌}
use Rattle.std.specs.List.{list_any}
use Rattle.std.specs.Ordering.{eq_by_cmp}
use Rattle.std.specs.Prelude.{if◌then◌else◌, is_none, is_some}
use Rattle.std.specs.Str.{bytes_eq}
use Rattle.std.proofs.lemmas.Bool.{and_from, cases_Bool, false_from_ne_true, or_cases, or_left, or_right}
use Rattle.std.proofs.lemmas.List.Folds.{list_any-append}
use Rattle.std.proofs.lemmas.Map.Text.{is_eq-slice_cmp}
use Rattle.cache_theory.specs.Checks.{checks}
use Rattle.cache_theory.specs.Cleared.{ResumedLeavesNone}
use Rattle.cache_theory.specs.Command.Command.{ClearOrigin}
use Rattle.cache_theory.specs.Covers.{as_table, cleared, covered, covered_open, covered_there, covers, covers_content, covers_object, joined_names, resumed, taken_for}
use Rattle.cache_theory.specs.Laws.{is_among}
use Rattle.cache_theory.specs.Machine.{Machine, object}
use Rattle.cache_theory.specs.Step.{cleared_of, effect, step, unmarked}
use Rattle.cache_theory.specs.Table.{Table, bytes_cmp, get, keys, name_of}
use Rattle.cache_theory.proofs.Evictions.Evicting.{cleared_are_lost, later_some}
use Rattle.cache_theory.proofs.Names.{same_bytes}
use Rattle.cache_theory.proofs.CrashImages.Readings.{whole_made}
use Rattle.cache_theory.proofs.TableLaws.{get-insert}
use Rattle.entry_file.specs.EntryFile.{Reading, file_meta, fits, found, read, read_for, whole_in}
use Rattle.entry_file.specs.EntryFile.Reading.{Whole, Damaged, Nothing}
use Rattle.entry_file.specs.Version.{Version}
use Rattle.entry_key.specs.Tags.{value_hash}
use Rattle.entry_name.specs.EntryName.{file_name}

-- a name among some is among one more, and them
first_or : (name n : List ℕ) (taken : Bool) (names : List (List ℕ)) → list_any (bytes_eq name) names ≡ true
    → list_any (bytes_eq name) (cond taken (n ∷ names) names) ≡ true
first_or name n true names more = or_right (bytes_eq name n) (list_any (bytes_eq name) names) more
first_or name n false names more = more

module _ {X : Type 0} (test : List ℕ → X → Bool) where
  -- the entries of a table that pass a test
  abbrev passing : Table X → Table X
  passing t = filter (λ e. test e.0 e.1) t

  keys_or : (e : List ℕ × X) (es : Table X) (taken : Bool) → cond taken (e.0 ∷ keys es) (keys es) ≡ keys (cond taken (e ∷ es) es)
  keys_or e es true = refl
  keys_or e es false = refl

  -- their names
  named_passing : (t : Table X) (name : List ℕ) (x : X) → get t name ≡ Some x → test name x ≡ true → list_any (bytes_eq name) (keys (passing t)) ≡ true
  named_passing [] name x at passes = absurd (cc)
  named_passing (e ∷ es) name x at passes =
      subst (λ names. list_any (bytes_eq name) names ≡ true) (keys_or e (passing es) (test e.0 e.1))
      (go (eq_by_cmp bytes_cmp name e.0) refl at (λ there. named_passing es name x there passes))
    where
      go : (b : Bool) → eq_by_cmp bytes_cmp name e.0 ≡ b → cond b (Some e.1) (get es name) ≡ Some x
          → (get es name ≡ Some x → list_any (bytes_eq name) (keys (passing es)) ≡ true)
          → list_any (bytes_eq name) (cond (test e.0 e.1) (e.0 ∷ keys (passing es)) (keys (passing es))) ≡ true
      go true same here later =
          let equal : bytes_eq name e.0 ≡ true = sym (is_eq-slice_cmp name e.0) ∙ same in
          let value : e.1 ≡ x = cc in
          let this : test e.0 e.1 ≡ true = (λ i. test (sym (same_bytes name e.0 equal) i) (value i)) ∙ passes in
          ap (λ b. list_any (bytes_eq name) (cond b (e.0 ∷ keys (passing es)) (keys (passing es)))) this
          ∙ or_left (bytes_eq name e.0) (list_any (bytes_eq name) (keys (passing es))) equal
      go false other there later = first_or name e.0 (test e.0 e.1) (keys (passing es)) (later there)

abbrev one : Unit {0}
one = tt

-- a name of a list is in its table
in_table : (name : List ℕ) (names : List (List ℕ)) → list_any (bytes_eq name) names ≡ true → is_some (get (as_table names) name) ≡ true
in_table name [] has = absurd (cc)
in_table name (n ∷ names) has =
    ap is_some (get-insert (as_table names) n tt name)
    ∙ ap (λ b. is_some (cond b (Some one) (get (as_table names) name))) (is_eq-slice_cmp name n)
    ∙ elim (or_cases (bytes_eq name n) (list_any (bytes_eq name) names) has) [
      | inl here ↦ ap (λ b. is_some (cond b (Some one) (get (as_table names) name))) here
      | inr there ↦ later_some (bytes_eq name n) one (get (as_table names) name) (in_table name names there)
    ]

-- a name under which a table has something is among its keys
among_keys : {X : Type 0} (t : Table X) (name : List ℕ) → is_some (get t name) ≡ true → is_among name (map name_of (keys t)) ≡ true
among_keys [] name has = absurd (cc)
among_keys (e ∷ es) name has = elim (cases_Bool (eq_by_cmp bytes_cmp name e.0)) [
  | inl here ↦ or_left (bytes_eq name e.0) (is_among name (map name_of (keys es))) (sym (is_eq-slice_cmp name e.0) ∙ here)
  | inr other ↦
      or_right (bytes_eq name e.0) (is_among name (map name_of (keys es)))
      (among_keys es name (sym (ap (λ b. is_some (cond b (Some e.1) (get es name))) other) ∙ has))
]

-- a clearing takes the names of the covered contents on the shelf, and those of the covered objects in use
among_joined : (name : List ℕ) (first second : List (List ℕ)) → (list_any (bytes_eq name) first || list_any (bytes_eq name) second) ≡ true
    → is_among name (joined_names first second) ≡ true
among_joined name first second has =
    among_keys (as_table (first ++ second)) name (in_table name (first ++ second) (list_any-append (bytes_eq name) first second ∙ has))

content_among : (m : Machine) (hash : ℕ) (name c : List ℕ) → get m.shelf name ≡ Some c → covers_content hash name c ≡ true
    → is_among name (covered m hash) ≡ true
content_among m hash name c at covers =
    let has = named_passing (covers_content hash) m.shelf name c at covers in
    among_joined name (covered_open m hash) (covered_there m.shelf hash)
    (or_right (list_any (bytes_eq name) (covered_open m hash)) (list_any (bytes_eq name) (covered_there m.shelf hash)) has)

pub object_among : (m : Machine) (origin name : List ℕ) (i : ℕ) → get m.in_use name ≡ Some i → covers_object (value_hash origin) (object m i) ≡ true
    → is_among name (cleared m origin) ≡ true
unfolding cleared
object_among m origin name i at covered =
    let hash : ℕ = value_hash origin in
    let has = named_passing (λ n j. covers_object hash (object m j)) m.in_use name i at covered in
    among_joined name (covered_open m hash) (covered_there m.shelf hash)
    (or_left (list_any (bytes_eq name) (covered_open m hash)) (list_any (bytes_eq name) (covered_there m.shelf hash)) has)

-- what reads as a covered version is covered
covered_content : (origin : ℕ) (name c : List ℕ) (v : Version) → read name c ≡ Whole v → covers origin v.key v.header ≡ true
    → covers_content origin name c ≡ true
covered_content origin name c v whole covered =
    let parts = whole_made name c v whole in
    let same : covers origin (file_meta c).key (file_meta c).header ≡ covers origin v.key v.header = ap (λ (u : Version). covers origin u.key u.header) parts.1 in
    and_from (fits name c) (covers origin (file_meta c).key (file_meta c).header) (ap is_none parts.0) (same ∙ covered)

-- what is found for a key is the version that the content under its name reads as
pub record IsFoundBy (key : List ℕ) (v : Version) (o : Option (List ℕ)) : Type 0 where
  pub content : List ℕ
  pub is : o ≡ Some content
  pub whole : read (file_name key) content ≡ Whole v

whole_of : (r : Reading) (v : Version) → whole_in r ≡ Some v → r ≡ Whole v
whole_of (Whole u) v is = let same : u ≡ v = cc in ap (λ x. Whole x) same
whole_of (Damaged d) v is = absurd (cc)
whole_of Nothing v is = absurd (cc)

pub found_by : (o : Option (List ℕ)) (key : List ℕ) (v : Version) → whole_in (read_for key o) ≡ Some v → IsFoundBy key v o
found_by None key v is = absurd (cc)
found_by (Some c) key v is = record { content = c; is = refl; whole = go (bytes_eq (file_meta c).key key) is }
  where
    go : (b : Bool) → whole_in (cond b (read (file_name key) c) Nothing) ≡ Some v → read (file_name key) c ≡ Whole v
    go true is = whole_of (read (file_name key) c) v is
    go false is = absurd (cc)

-- so nothing that is covered is found once these names are cleared
none_of_left : (m : Machine) (hash : ℕ) (key : List ℕ) (v : Version) → found (get (cleared_of m (covered m hash)).shelf) key ≡ Some v
    → covers hash v.key v.header ≡ true → ⊥
none_of_left m hash key v is covers =
    let name : List ℕ = file_name key in
    let shelf = (cleared_are_lost m (covered m hash)).shelf name in
    let by = found_by (get (cleared_of m (covered m hash)).shelf name) key v is in
    elim (cases_Bool (is_among name (covered m hash))) [
      | inl among ↦
          let none : None ≡ Some by.content = sym (ap (λ b. cond b None (get m.shelf name)) among) ∙ sym shelf ∙ by.is in absurd (cc)
      | inr other ↦
          let there : get m.shelf name ≡ Some by.content = sym (ap (λ b. cond b None (get m.shelf name)) other) ∙ sym shelf ∙ by.is in
          let among = content_among m hash name by.content there (covered_content hash name by.content v by.whole covers) in
          absurd (cc)
    ]

-- right after a clearing
pub none_left : (m : Machine) (origin key : List ℕ) (v : Version) → found (get (step m (ClearOrigin origin)).next.shelf) key ≡ Some v
    → covers (value_hash origin) v.key v.header ≡ true → ⊥
unfolding checks effect cleared
none_left m origin key v is covers = none_of_left m (value_hash origin) key v is covers

-- and right after one that was resumed
pub resumed_leaves_none : ResumedLeavesNone
unfolding checks effect resumed
resumed_leaves_none m hash key v mark is =
    false_from_ne_true (covers hash v.key v.header)
    (none_of_left m hash key v
    (subst (λ (o : Option ℕ). found (get (if is_some o then cleared_of m (taken_for m o) else unmarked m).shelf) key ≡ Some v) mark is))
