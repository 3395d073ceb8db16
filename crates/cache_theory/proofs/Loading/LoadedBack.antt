-- A dump that leaves nothing out brings back what may be dumped, and nothing else.
use Rattle.std.proofs.Common.{◌≡◌, ◌≢◌, ◌⊎◌, inl, inr, ℕ, List, [], ◌∷◌, Bool, true, false, cond, refl, sym, ap, subst, ◌∙◌}
use Rattle.std.specs.Cmp.{tied_itself}
use Rattle.std.specs.Cmp.Lexicographic.{nat_list_cmp_total}
use Rattle.std.specs.FinMap.{is_sorted}
use Rattle.std.specs.FinMap.Entries.{below_all}
use Rattle.std.specs.List.{AllByRecursion, cons_option}
use Rattle.std.specs.Ordering.{eq_by_cmp, is_eq, is_lt}
use Rattle.std.specs.Prelude.{Option, None, Some, T, filter, unwrap_or}
use Rattle.std.specs.Str.{bytes_eq}
use Rattle.std.specs.declared.cmp.Ordering.{Ordering}
use Rattle.std.proofs.lemmas.Bool.{cases_Bool, false_from_ne_true}
use Rattle.std.proofs.lemmas.Map.Text.{is_eq-slice_cmp}
use Rattle.cache_base.specs.Bytes.{AreBytes}
use Rattle.cache_export.proofs.DumpedLaws.{dump_of_is_dump, first, less, second}
use Rattle.cache_export.specs.Dump.{AreItems}
use Rattle.cache_export.specs.Dumped.{AreFiles, dumped, may_dump, versions_in}
use Rattle.cache_theory.specs.Loading.{DumpLoadsBack, stocked}
use Rattle.cache_theory.specs.Table.{Table, bytes_cmp, get, insert}
use Rattle.cache_theory.proofs.Names.{get-insert_other, get-insert_same, one_name, same_bytes}
use Rattle.cache_theory.proofs.CrashImages.Reading.{other_key, same_key}
use Rattle.cache_theory.proofs.CrashImages.Readings.{whole_found, whole_key, whole_named}
use Rattle.cache_theory.proofs.Loading.StockedShelf.{IsOneOf, item_is_found, item_is_version}
use Rattle.entry_file.proofs.EntryLaws.{read-file_of}
use Rattle.entry_file.specs.EntryFile.{Reading, file_meta, found, read, read_for, whole_in}
use Rattle.entry_file.specs.EntryFile.Reading.{Whole, Damaged, Nothing}
use Rattle.entry_file.specs.Version.{Version, file_of}
use Rattle.entry_name.specs.EntryName.{file_name}

-- Tables, entry by entry.

other_test : (q n : List ℕ) → q ≢ n → eq_by_cmp bytes_cmp q n ≡ false
other_test q n apart = is_eq-slice_cmp q n ∙ false_from_ne_true (bytes_eq q n) (λ e. apart (same_bytes q n e))

get_first : (e : List ℕ × List ℕ) (es : Table (List ℕ)) (q : List ℕ) → q ≡ e.0 → get (e ∷ es) q ≡ Some e.1
get_first e es q same =
    ap (get (e ∷ es)) same ∙ ap (λ (r : Ordering). cond (is_eq r) (Some e.1) (get es e.0)) (tied_itself nat_list_cmp_total e.0)

get_rest : (e : List ℕ × List ℕ) (es : Table (List ℕ)) (q : List ℕ) → q ≢ e.0 → get (e ∷ es) q ≡ get es q
get_rest e es q apart = ap (λ (b : Bool). cond b (Some e.1) (get es q)) (other_test q e.0 apart)

none_before : (name : List ℕ) (es : Table (List ℕ)) → T (below_all bytes_cmp name es) → get es name ≡ None
none_before name [] below = refl
none_before name (e ∷ es) below =
    ap (λ (r : Ordering). cond (is_eq r) (Some e.1) (get es name)) (less (bytes_cmp name e.0) (first (is_lt (bytes_cmp name e.0)) (below_all bytes_cmp name es) below))
    ∙ none_before name es (second (is_lt (bytes_cmp name e.0)) (below_all bytes_cmp name es) below)

-- what the rest of a table has under a name, the table has
get_later : (e : List ℕ × List ℕ) (es : Table (List ℕ)) (q c : List ℕ) → T (below_all bytes_cmp e.0 es) → get es q ≡ Some c → get (e ∷ es) q ≡ Some c
get_later e es q c below at = elim (one_name q e.0) [
  | inl same ↦ absurd (let never : Some c ≡ None = sym at ∙ ap (get es) same ∙ none_before e.0 es below in cc)
  | inr apart ↦ get_rest e es q apart ∙ at
]

all_bytes : (t : Table (List ℕ)) → T (is_sorted bytes_cmp t) → ((name c : List ℕ) → get t name ≡ Some c → AreBytes c) → AllByRecursion (λ e. AreBytes e.1) t
all_bytes [] sorted are = tt
all_bytes (e ∷ es) sorted are = (
  are e.0 e.1 (get_first e es e.0 refl),
  all_bytes es (second (below_all bytes_cmp e.0 es) (is_sorted bytes_cmp es) sorted)
      (λ name c at. are name c (get_later e es name c (first (below_all bytes_cmp e.0 es) (is_sorted bytes_cmp es) sorted) at)),
)

-- Versions in files.

one_past : (v : Version) (o : Option Version) (vs : List Version) → IsOneOf v vs → IsOneOf v (cons_option o vs)
one_past v None vs one = one
one_past v (Some w) vs one = inr one

-- what a file reads as is one of the versions in the files
in_versions : (t : Table (List ℕ)) (name c : List ℕ) (v : Version) → get t name ≡ Some c → read name c ≡ Whole v → IsOneOf v (versions_in t)
in_versions [] name c v at whole = absurd (cc)
in_versions (e ∷ es) name c v at whole = elim (one_name name e.0) [
  | inl same ↦
      let content : Some e.1 ≡ Some c = sym (get_first e es name same) ∙ at in
      let content_is : e.1 ≡ c = cc in
      let reads : read e.0 e.1 ≡ Whole v = (λ i. read (sym same i) (content_is i)) ∙ whole in
      subst (λ (r : Reading). IsOneOf v (cons_option (whole_in r) (versions_in es))) (sym reads) (inl refl)
  | inr apart ↦ one_past v (whole_in (read e.0 e.1)) (versions_in es) (in_versions es name c v (sym (get_rest e es name apart) ∙ at) whole)
]

-- a file in a table reads as the version
record HasFile (t : Table (List ℕ)) (v : Version) : Type 0 where
  name : List ℕ
  content : List ℕ
  at : get t name ≡ Some content
  whole : read name content ≡ Whole v

has_later : (e : List ℕ × List ℕ) (es : Table (List ℕ)) (v : Version) → T (below_all bytes_cmp e.0 es) → HasFile es v → HasFile (e ∷ es) v
has_later e es v below h = record { name = h.name; content = h.content; at = get_later e es h.name h.content below h.at; whole = h.whole }

by_reading : (e : List ℕ × List ℕ) (es : Table (List ℕ)) (v : Version) (r : Reading) → read e.0 e.1 ≡ r → T (below_all bytes_cmp e.0 es) → (IsOneOf v (versions_in es) → HasFile es v)
    → IsOneOf v (cons_option (whole_in r) (versions_in es)) → HasFile (e ∷ es) v
by_reading e es v (Whole w) is below rest (inl here) = record { name = e.0; content = e.1; at = get_first e es e.0 refl; whole = is ∙ ap Whole here }
by_reading e es v (Whole w) is below rest (inr later) = has_later e es v below (rest later)
by_reading e es v (Damaged d) is below rest one = has_later e es v below (rest one)
by_reading e es v Nothing is below rest one = has_later e es v below (rest one)

-- and each of those versions has its file
from_versions : (t : Table (List ℕ)) (v : Version) → T (is_sorted bytes_cmp t) → IsOneOf v (versions_in t) → HasFile t v
from_versions [] v sorted one = absurd one
from_versions (e ∷ es) v sorted one =
    by_reading e es v (read e.0 e.1) refl (first (below_all bytes_cmp e.0 es) (is_sorted bytes_cmp es) sorted)
    (from_versions es v (second (below_all bytes_cmp e.0 es) (is_sorted bytes_cmp es) sorted)) one

-- Those that may be dumped.

past_choice : (b : Bool) (w v : Version) (vs : List Version) → IsOneOf v vs → IsOneOf v (cond b (w ∷ vs) vs)
past_choice true w v vs one = inr one
past_choice false w v vs one = one

in_filtered : (p : Version → Bool) (v : Version) (vs : List Version) → p v ≡ true → IsOneOf v vs → IsOneOf v (filter p vs)
in_filtered p v [] may one = absurd one
in_filtered p v (w ∷ ws) may (inl here) =
    subst (λ (b : Bool). IsOneOf v (cond b (w ∷ filter p ws) (filter p ws))) (sym (ap p here ∙ may)) (inl here)
in_filtered p v (w ∷ ws) may (inr later) = past_choice (p w) w v (filter p ws) (in_filtered p v ws may later)

of_choice : (b : Bool) (w v : Version) (vs ws : List Version) → (IsOneOf v vs → IsOneOf v ws) → IsOneOf v (cond b (w ∷ vs) vs) → IsOneOf v (w ∷ ws)
of_choice true w v vs ws rest (inl here) = inl here
of_choice true w v vs ws rest (inr later) = inr (rest later)
of_choice false w v vs ws rest one = inr (rest one)

from_filtered : (p : Version → Bool) (v : Version) (vs : List Version) → IsOneOf v (filter p vs) → IsOneOf v vs
from_filtered p v [] one = absurd one
from_filtered p v (w ∷ ws) one = of_choice (p w) w v (filter p ws) ws (from_filtered p v ws) one

-- What is found.

-- the file under the key's name reads as the version, and has the key
record IsFoundIn (t : Table (List ℕ)) (key : List ℕ) (v : Version) : Type 0 where
  content : List ℕ
  at : get t (file_name key) ≡ Some content
  whole : read (file_name key) content ≡ Whole v
  key_is : v.key ≡ key

of_whole : (r : Reading) (v : Version) → whole_in r ≡ Some v → r ≡ Whole v
of_whole (Whole w) v is = ap Whole (ap (λ (o : Option Version). unwrap_or o w) is)
of_whole (Damaged d) v is = absurd (cc)
of_whole Nothing v is = absurd (cc)

is_found_in : (t : Table (List ℕ)) (key : List ℕ) (v : Version) → found (get t) key ≡ Some v → IsFoundIn t key v
is_found_in t key v is = go (get t (file_name key)) refl
  where
    there : (o : Option (List ℕ)) → get t (file_name key) ≡ o → read_for key o ≡ Whole v
    there o at = of_whole (read_for key o) v (ap (λ (x : Option (List ℕ)). whole_in (read_for key x)) (sym at) ∙ is)

    go : (o : Option (List ℕ)) → get t (file_name key) ≡ o → IsFoundIn t key v
    go None at = absurd (let never : Nothing ≡ Whole v = there None at in cc)
    go (Some c) at = elim (cases_Bool (bytes_eq (file_meta c).key key)) [
      | inl same ↦
          let whole : read (file_name key) c ≡ Whole v = sym (same_key key c same) ∙ there (Some c) at in
          record { content = c; at = at; whole = whole; key_is = sym (whole_key (file_name key) c v whole) ∙ same_bytes (file_meta c).key key same }
      | inr other ↦ absurd (let never : Nothing ≡ Whole v = sym (other_key key c other) ∙ there (Some c) at in cc)
    ]

-- a version whose file stands in a table is found
file_is_found : (t : Table (List ℕ)) (v : Version) → HasFile t v → found (get t) v.key ≡ Some v
file_is_found t v h =
    let at : get t (file_name v.key) ≡ Some h.content = ap (get t) (whole_named h.name h.content v h.whole) ∙ h.at in
    ap (λ (o : Option (List ℕ)). whole_in (read_for v.key o)) at ∙ whole_found h.name h.content v h.whole

-- What the stocked shelf has is the file of an item, or what it had.

record IsOfItem (vs : List Version) (name c : List ℕ) : Type 0 where
  version : Version
  one : IsOneOf version vs
  named : file_name version.key ≡ name
  file : c ≡ file_of version

stocked_content : (shelf : Table (List ℕ)) (vs : List Version) (name c : List ℕ) → get (stocked shelf vs) name ≡ Some c → IsOfItem vs name c ⊎ (get shelf name ≡ Some c)
stocked_content shelf [] name c at = inr at
stocked_content shelf (v ∷ vs) name c at =
    elim (stocked_content (insert shelf (file_name v.key) (file_of v)) vs name c at) [
      | inl of ↦ inl (record { version = of.version; one = inr of.one; named = of.named; file = of.file })
      | inr there ↦ elim (one_name name (file_name v.key)) [
        | inl same ↦
            let content : Some (file_of v) ≡ Some c = sym (get-insert_same shelf (file_name v.key) (file_of v) name same) ∙ there in
            let file : c ≡ file_of v = cc in
            inl (record { version = v; one = inl refl; named = sym same; file = file })
        | inr apart ↦ inr (sym (get-insert_other shelf (file_name v.key) (file_of v) name apart) ∙ there)
      ]
    ]

same_whole : (v w : Version) → Whole v ≡ Whole w → v ≡ w
same_whole v w e = let same : Some v ≡ Some w = ap whole_in e in ap (λ (o : Option Version). unwrap_or o v) same

-- so what is found of items alone is one of them
found_is_item : (vs : List Version) (key : List ℕ) (v : Version) → AreItems None vs → found (get (stocked [] vs)) key ≡ Some v → IsOneOf v vs
found_is_item vs key v are is =
    let f = is_found_in (stocked [] vs) key v is in
    elim (stocked_content [] vs (file_name key) f.content f.at) [
      | inl of ↦
          let w = of.version in
          let reads : read (file_name key) f.content ≡ Whole w =
          (λ i. read (sym of.named i) (of.file i)) ∙ read-file_of w (item_is_version None vs w are of.one) in
          let same : w ≡ v = same_whole w v (sym reads ∙ f.whole) in
          subst (λ (x : Version). IsOneOf x vs) same of.one
      | inr none ↦ absurd (let never : None ≡ Some f.content = none in cc)
    ]

pub dump_loads_back : DumpLoadsBack
dump_loads_back shelf table contents all =
    let files : AreFiles shelf = record { sorted = table.rising; bytes = all_bytes shelf table.rising contents } in
    let items : AreItems None (dumped shelf) = (dump_of_is_dump shelf files).items in
    record {
      found_again = λ key v is may.
          let f = is_found_in shelf key v is in
          let one : IsOneOf v (dumped shelf) =
          subst (IsOneOf v) (sym all) (in_filtered may_dump v (versions_in shelf) may (in_versions shelf (file_name key) f.content v f.at f.whole)) in
          subst (λ (k : List ℕ). found (get (stocked [] (dumped shelf))) k ≡ Some v) f.key_is (item_is_found [] (dumped shelf) v items one);
      nothing_else = λ key v is.
          let f = is_found_in (stocked [] (dumped shelf)) key v is in
          let one : IsOneOf v (filter may_dump (versions_in shelf)) = subst (IsOneOf v) all (found_is_item (dumped shelf) key v items is) in
          let file = from_versions shelf v table.rising (from_filtered may_dump v (versions_in shelf) one) in
          subst (λ (k : List ℕ). found (get shelf) k ≡ Some v) f.key_is (file_is_found shelf v file);
    }
