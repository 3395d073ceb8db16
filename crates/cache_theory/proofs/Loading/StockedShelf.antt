-- What is stocked is found, and keys of other names are found as before.
use Rattle.std.proofs.Common.{◌≡◌, ◌≢◌, ◌⊎◌, inl, inr, ℕ, zero, suc, ◌<◌, List, [], ◌∷◌, length, refl, sym, ap, subst, ◌∙◌, arith}
use Rattle.std.specs.Cmp.{tied_itself}
use Rattle.std.specs.Cmp.Lexicographic.{nat_list_cmp_total}
use Rattle.std.specs.List.{AllByRecursion, Any, slice_index_or}
use Rattle.std.specs.Prelude.{Option, None, Some}
use Rattle.std.specs.declared.cmp.Ordering.TheVariants.{Less, Equal}
use Rattle.cache_export.specs.Dump.{AreItems}
use Rattle.cache_theory.specs.Loading.{IsNoneNamed, StockIsFound, stocked}
use Rattle.cache_theory.specs.Table.{Table, bytes_cmp, get, insert}
use Rattle.cache_theory.proofs.Names.{get-insert_other, get-insert_same}
use Rattle.cache_theory.proofs.CrashImages.Readings.{whole_found}
use Rattle.entry_file.proofs.EntryLaws.{read-file_of}
use Rattle.entry_file.specs.EntryFile.{found, read_for, whole_in}
use Rattle.entry_file.specs.Version.{IsVersion, Version, file_of}
use Rattle.entry_name.specs.EntryName.{file_name}

-- One of versions.

-- it is the first, or one of the others
abbrev pub IsOneOf : Version → List Version → Type 0
IsOneOf v [] = ⊥
IsOneOf v (w ∷ ws) = (w ≡ v) ⊎ IsOneOf v ws

none_below : (k : ℕ) → k < 0 → ⊥
none_below k lt = omega (arith, lt)

less_by_one : (k n : ℕ) → suc k < suc n → k < n
less_by_one k n lt = omega (arith, lt)

at_place : (v : Version) (vs : List Version) (k : ℕ) (x : Version) → k < length vs → slice_index_or vs k x ≡ x → x ≡ v → IsOneOf v vs
at_place v [] k x lt at is = absurd (none_below k lt)
at_place v (w ∷ ws) zero x lt at is = inl (at ∙ is)
at_place v (w ∷ ws) (suc k) x lt at is = inr (at_place v ws k x (less_by_one k (length ws) lt) at is)

pub one_of : (v : Version) (vs : List Version) → Any (λ w. w ≡ v) vs → IsOneOf v vs
one_of v vs any = at_place v vs any.0 any.1 any.2 any.3 any.4

-- The names of items rise.

-- the names of these come after that of the key
abbrev AreAbove : List ℕ → List Version → Type 0
AreAbove key vs = AllByRecursion (λ v. bytes_cmp (file_name key) (file_name v.key) ≡ Less) vs

still_above : (low high : List ℕ) (vs : List Version) → bytes_cmp (file_name low) (file_name high) ≡ Less → AreAbove high vs → AreAbove low vs
still_above low high [] less above = tt
still_above low high (v ∷ vs) less above =
    (nat_list_cmp_total.trans (file_name low) (file_name high) (file_name v.key) less above.0, still_above low high vs less above.1)

are_above : (key : List ℕ) (vs : List Version) → AreItems (Some key) vs → AreAbove key vs
are_above key [] are = tt
are_above key (v ∷ vs) are = (are.1.0, still_above key v.key vs are.1.0 (are_above v.key vs are.1.1))

-- a name that comes after another is not that one
above_is_other : (a b : List ℕ) → bytes_cmp a b ≡ Less → b ≢ a
above_is_other a b less same =
    let tied : bytes_cmp a a ≡ Equal = tied_itself nat_list_cmp_total a in
    let both : Less ≡ Equal = sym less ∙ ap (bytes_cmp a) same ∙ tied in
    absurd (cc)

none_named : (key : List ℕ) (vs : List Version) → AreAbove key vs → IsNoneNamed key vs
none_named key [] above = tt
none_named key (v ∷ vs) above = (above_is_other (file_name key) (file_name v.key) above.0, none_named key vs above.1)

-- What the stocked shelf has.

-- other names have what they had
pub stocked_other : (shelf : Table (List ℕ)) (vs : List Version) (key : List ℕ) → IsNoneNamed key vs → get (stocked shelf vs) (file_name key) ≡ get shelf (file_name key)
stocked_other shelf [] key none = refl
stocked_other shelf (v ∷ vs) key none =
    stocked_other (insert shelf (file_name v.key) (file_of v)) vs key none.1
    ∙ get-insert_other shelf (file_name v.key) (file_of v) (file_name key) (λ e. none.0 (sym e))

-- and each item has its file
pub stocked_item : (before : Option (List ℕ)) (shelf : Table (List ℕ)) (vs : List Version) (v : Version) → AreItems before vs → IsOneOf v vs
    → get (stocked shelf vs) (file_name v.key) ≡ Some (file_of v)
stocked_item before shelf [] v are one = absurd one
stocked_item before shelf (w ∷ ws) v are (inl here) =
    let own : get (stocked shelf (w ∷ ws)) (file_name w.key) ≡ Some (file_of w) =
    stocked_other (insert shelf (file_name w.key) (file_of w)) ws w.key (none_named w.key ws (are_above w.key ws are.1.1))
    ∙ get-insert_same shelf (file_name w.key) (file_of w) (file_name w.key) refl in
    subst (λ (x : Version). get (stocked shelf (w ∷ ws)) (file_name x.key) ≡ Some (file_of x)) here own
stocked_item before shelf (w ∷ ws) v are (inr later) = stocked_item (Some w.key) (insert shelf (file_name w.key) (file_of w)) ws v are.1.1 later

pub item_is_version : (before : Option (List ℕ)) (vs : List Version) (v : Version) → AreItems before vs → IsOneOf v vs → IsVersion v
item_is_version before [] v are one = absurd one
item_is_version before (w ∷ ws) v are (inl here) = subst IsVersion here are.0.version
item_is_version before (w ∷ ws) v are (inr later) = item_is_version (Some w.key) ws v are.1.1 later

-- so each item is found
pub item_is_found : (shelf : Table (List ℕ)) (vs : List Version) (v : Version) → AreItems None vs → IsOneOf v vs → found (get (stocked shelf vs)) v.key ≡ Some v
item_is_found shelf vs v are one =
    ap (λ (o : Option (List ℕ)). whole_in (read_for v.key o)) (stocked_item None shelf vs v are one)
    ∙ whole_found (file_name v.key) (file_of v) v (read-file_of v (item_is_version None vs v are one))

pub stock_is_found : StockIsFound
stock_is_found shelf vs table are = record {
  items = λ v any. item_is_found shelf vs v are (one_of v vs any);
  others = λ key none. ap (λ (o : Option (List ℕ)). whole_in (read_for key o)) (stocked_other shelf vs key none);
}
