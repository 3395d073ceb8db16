-- A table of the entry files that stand.
use Rattle.std.proofs.Common.{◌≡◌, ◌⊎◌, inl, inr, ⊎_elim, ℕ, List, [], ◌∷◌, true, false, cond, Option, Some, None, IsSome, Contains, refl, sym, ◌∙◌, ap, subst, arith}
use Rattle.std.specs.Cmp.{Equal-is, eq_by_cmp_equiv}
use Rattle.std.specs.Cmp.Lexicographic.{nat_list_cmp_total}
use Rattle.std.specs.FinMap.{nat_cmp-IsAntisymmetric, slice_cmp-IsAntisymmetric}
use Rattle.std.specs.FinMap.Entries.{find-put, is_sorted-put}
use Rattle.std.specs.Ordering.{eq_by_cmp}
use Rattle.std.proofs.lemmas.Bool.{cases_Bool, false≢true}
use Rattle.std.proofs.lemmas.List.Elements.{Contains-append_cases}
use Rattle.cache_base.specs.declared.name.Name.{Name}
use Rattle.cache_theory.specs.Ever.{entries}
use Rattle.cache_theory.specs.Table.{IsTable, Table, bytes_cmp, get, insert}
use Rattle.disk_theory.specs.Listing.{IsFinite}
use Rattle.disk_theory.specs.State.{State, standing}
use Rattle.file_handles.specs.Carries.{IsShelf}

-- names that the order takes for one are one
one_name : (q n : List ℕ) → eq_by_cmp bytes_cmp q n ≡ true → q ≡ n
one_name q n same = slice_cmp-IsAntisymmetric nat_cmp-IsAntisymmetric q n ((Equal-is (bytes_cmp q n)).0 same)

-- a table with a content under a name too, if there is one
with_some : List ℕ → Option (List ℕ) → Table (List ℕ) → Table (List ℕ)
with_some name None t = t
with_some name (Some c) t = insert t name c

with_some_is_table : (name : List ℕ) (o : Option (List ℕ)) (t : Table (List ℕ)) → IsTable t → IsTable (with_some name o t)
unfolding with_some
with_some_is_table name None t is = is
with_some_is_table name (Some c) t is = record { rising = is_sorted-put bytes_cmp nat_list_cmp_total name c t is.rising }

-- it is as it was under each other name
with_other : (name : List ℕ) (o : Option (List ℕ)) (t : Table (List ℕ)) (q : List ℕ) → eq_by_cmp bytes_cmp q name ≡ false → get (with_some name o t) q ≡ get t q
unfolding with_some
with_other name None t q other = refl
with_other name (Some c) t q other = find-put bytes_cmp nat_list_cmp_total q name c t ∙ ap (λ b. cond b (Some c) (get t q)) other

with_same : (name c : List ℕ) (t : Table (List ℕ)) (q : List ℕ) → eq_by_cmp bytes_cmp q name ≡ true → get (with_some name (Some c) t) q ≡ Some c
unfolding with_some
with_same name c t q same = find-put bytes_cmp nat_list_cmp_total q name c t ∙ ap (λ b. cond b (Some c) (get t q)) same

with_none : (name : List ℕ) (t : Table (List ℕ)) (q : List ℕ) → get (with_some name None t) q ≡ get t q
unfolding with_some
with_none name t q = refl

-- a name among these that differs from the first is among the others
later_name : (n : Name) (ns : List Name) (q : List ℕ) → eq_by_cmp bytes_cmp q n.0 ≡ false → Contains (n ∷ ns) (record { 0 = q }) → Contains ns (record { 0 = q })
later_name n ns q other has =
    ⊎_elim (λ (first : Contains (n ∷ []) (record { 0 = q })). absurd (false≢true (sym other ∙ itself (only n (record { 0 = q }) first)))) (λ later. later)
    (Contains-append_cases (n ∷ []) ns (record { 0 = q }) has)
  where
    only : (p r : Name) → Contains (p ∷ []) r → r ≡ p
    only p r first = grind (arith)

    itself : record { 0 = q } ≡ n → eq_by_cmp bytes_cmp q n.0 ≡ true
    itself same = subst (λ (p : Name). eq_by_cmp bytes_cmp q p.0 ≡ true) same ((eq_by_cmp_equiv nat_list_cmp_total).refl q)

-- the table has what stands under the name, or the name is none of these
abbrev IsTabled : (List ℕ → Option (List ℕ)) → Table (List ℕ) → List Name → List ℕ → Type 0
IsTabled stands t names q = (get t q ≡ stands q) ⊎ ((get t q ≡ None) × (Contains names (record { 0 = q }) → ⊥))

tabled_same : (stands : List ℕ → Option (List ℕ)) (n : Name) (ns : List Name) (t : Table (List ℕ)) (q : List ℕ) (o : Option (List ℕ)) → stands n.0 ≡ o → eq_by_cmp bytes_cmp q n.0 ≡ true
    → IsTabled stands t ns q → IsTabled stands (with_some n.0 o t) (n ∷ ns) q
tabled_same stands n ns t q None is same was =
    let none : stands q ≡ None = ap stands (one_name q n.0 same) ∙ is in
    elim was [
      | inl has ↦ inl (with_none n.0 t q ∙ has)
      | inr not ↦ inl (with_none n.0 t q ∙ not.0 ∙ sym none)
    ]
tabled_same stands n ns t q (Some c) is same was = inl (with_same n.0 c t q same ∙ sym (ap stands (one_name q n.0 same) ∙ is))

tabled_other : (stands : List ℕ → Option (List ℕ)) (n : Name) (ns : List Name) (t : Table (List ℕ)) (q : List ℕ) (o : Option (List ℕ)) → eq_by_cmp bytes_cmp q n.0 ≡ false
    → IsTabled stands t ns q → IsTabled stands (with_some n.0 o t) (n ∷ ns) q
tabled_other stands n ns t q o other was =
    elim was [
      | inl has ↦ inl (with_other n.0 o t q other ∙ has)
      | inr not ↦ inr (with_other n.0 o t q other ∙ not.0, λ has. not.1 (later_name n ns q other has))
    ]

tabled_more : (stands : List ℕ → Option (List ℕ)) (n : Name) (ns : List Name) (t : Table (List ℕ)) (q : List ℕ) → IsTabled stands t ns q → IsTabled stands (with_some n.0 (stands n.0) t) (n ∷ ns) q
tabled_more stands n ns t q was =
    elim (cases_Bool (eq_by_cmp bytes_cmp q n.0)) [
      | inl same ↦ tabled_same stands n ns t q (stands n.0) refl same was
      | inr other ↦ tabled_other stands n ns t q (stands n.0) other was
    ]

-- the table of what stands under these names
table_of : (List ℕ → Option (List ℕ)) → List Name → Table (List ℕ)
table_of stands [] = []
table_of stands (n ∷ ns) = with_some n.0 (stands n.0) (table_of stands ns)

table_is_table : (stands : List ℕ → Option (List ℕ)) (names : List Name) → IsTable (table_of stands names)
unfolding table_of
table_is_table stands [] = record { rising = tt }
table_is_table stands (n ∷ ns) = with_some_is_table n.0 (stands n.0) (table_of stands ns) (table_is_table stands ns)

table_tabled : (stands : List ℕ → Option (List ℕ)) (names : List Name) (q : List ℕ) → IsTabled stands (table_of stands names) names q
unfolding table_of
table_tabled stands [] q = inr (refl, λ has. absurd (omega (arith, has.1)))
table_tabled stands (n ∷ ns) q = tabled_more stands n ns (table_of stands ns) q (table_tabled stands ns q)

-- where these are all names under which a file stands, it has all that stands
table_whole : (stands : List ℕ → Option (List ℕ)) (names : List Name) (t : Table (List ℕ)) (q : List ℕ) → (IsSome (stands q) → Contains names (record { 0 = q })) → IsTabled stands t names q
    → stands q ≡ get t q
table_whole stands names t q among was = elim was [ inl has ↦ sym has | inr not ↦ go (stands q) refl not.0 not.1 ]
  where
    go : (o : Option (List ℕ)) → stands q ≡ o → get t q ≡ None → (Contains names (record { 0 = q }) → ⊥) → stands q ≡ get t q
    go None is none out = is ∙ sym none
    go (Some c) is none out = absurd (out (among (subst IsSome (sym is) refl)))

-- entry files that stand under finitely many names have a table
pub shelf_exists : (s : State) → IsFinite s → (shelf : Table (List ℕ)) × IsShelf s shelf
shelf_exists s finite =
    let stands : List ℕ → Option (List ℕ) = entries (standing s) in
    let shelf : Table (List ℕ) = table_of stands finite.names in
    let are : (name : List ℕ) → stands name ≡ get shelf name = λ name. table_whole stands finite.names shelf name ((finite.entries (record { 0 = name })).1) (table_tabled stands finite.names name) in (
      shelf,
      record {
        table = table_is_table stands finite.names;
        bytes = λ name c has. finite.bytes (record { 0 = name }) c (are name ∙ has);
        entries_are = are;
      },
    )
