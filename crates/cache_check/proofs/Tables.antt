-- The table of the entry files that stand, made from their names.
use Rattle.std.proofs.Common.{◌≡◌, ℕ, suc, List, [], ◌∷◌, Bool, true, false, cond, ◌&&◌, ◌||◌, Option, Some, None, refl, sym, ap, subst, ◌∙◌, T, arith}
use Rattle.std.proofs.lemmas.Cmp.{eq_by_cmp_equiv}
use Rattle.std.proofs.lemmas.Map.Text.{is_eq-slice_cmp}
use Rattle.std.proofs.lemmas.Map.Views.{list_any-from_Contains}
use Rattle.std.proofs.lemmas.Slice.Eq.{bytes_eq-Decides}
use Rattle.std.specs.FinMap.Entries.{below_all, is_sorted}
use Rattle.std.specs.List.Sorted.{IsStrictlySortedBy}
use Rattle.std.specs.List.{AllByRecursion, Contains}
use Rattle.std.specs.Ordering.{is_eq, is_lt}
use Rattle.std.specs.Prelude.{IsSome, unwrap_or}
use Rattle.cache_base.specs.Names.{AreSorted, has_name, name_cmp}
use Rattle.cache_base.specs.declared.name.Name.{Name}
use Rattle.cache_base.proofs.NameLaws.{name_cmp_total}
use Rattle.cache_check.proofs.TableLaws.{same_table}
use Rattle.cache_check.specs.Table.{Table, bytes_cmp, get, name_of}
use Rattle.disk_theory.specs.Image.{Files}
use Rattle.disk_theory.specs.Listing.{AreEntries}
use Rattle.disk_theory.specs.State.{State, standing}
use Rattle.disk_theory.specs.declared.place.Place.TheVariants.{Entry}
use Rattle.index_theory.specs.Ever.{entries_on}
use Rattle.cache_check.specs.Checks.{table_of}
use Rattle.cache_check.specs.Findings.{IsTableOf}
use Rattle.cache_check.specs.Laws.{OnlyOneTable}
use Rattle.cache_check.proofs.RowLaws.{Under, under_table}
use Rattle.cache_check.proofs.RowSteps.{Stand, own}

all_of : (P : Name → Type 0) (names : List Name) → ((n : Name) → Contains names n → P n) → AllByRecursion P names
all_of P [] each = tt
all_of P (n ∷ names) each =
    (each n (0, omega arith, refl), all_of P names (λ m has. each m (suc has.0, (let lt = has.1 in omega (arith, lt)), has.2)))

-- a file stands under each of the names of the files
pub entries_stand : (s : State) (names : List Name) → AreEntries s names → Stand (standing s) names
entries_stand s names entries = all_of (λ n. IsSome (standing s (Entry n))) names (λ n has. (entries n).0 has)

both : (a b : Bool) → T a → T b → T (a && b)
both true b p q = q
both false b p q = p

below_each : (k : Name) (t : Table (List ℕ)) → Under k t → T (below_all bytes_cmp k.0 t)
below_each k [] h = tt
below_each k (e ∷ es) h = both (is_lt (bytes_cmp k.0 e.0)) (below_all bytes_cmp k.0 es) (subst (λ o. T (is_lt o)) (sym h.0) tt) (below_each k es h.1)

pub table_rises : (files : Files) (names : List Name) → AreSorted names → T (is_sorted bytes_cmp (table_of files names))
unfolding IsStrictlySortedBy
table_rises files [] h = tt
table_rises files (n ∷ names) h =
    both (below_all bytes_cmp n.0 (table_of files names)) (is_sorted bytes_cmp (table_of files names))
    (below_each n (table_of files names) (under_table files n names h.0)) (table_rises files names h.1)

tied_is : (q n : Name) → is_eq (name_cmp q n) ≡ true → n ≡ q
tied_is q n e = let same : q.0 ≡ n.0 = (bytes_eq-Decides q.0 n.0).0 (sym (is_eq-slice_cmp q.0 n.0) ∙ e) in λ i. record { 0 = sym same i }

get_table : (files : Files) (names : List Name) (q : Name) → Stand files names → get (table_of files names) q.0 ≡ cond (has_name names q) (files (Entry q)) None
get_table files [] q s = refl
get_table files (n ∷ names) q s = go (is_eq (name_cmp q n)) refl (get_table files names q s.1)
  where
    go : (b : Bool) → is_eq (name_cmp q n) ≡ b → get (table_of files names) q.0 ≡ cond (has_name names q) (files (Entry q)) None
        → cond b (Some (unwrap_or (files (Entry n)) [])) (get (table_of files names) q.0) ≡ cond (b || has_name names q) (files (Entry q)) None
    go true e more = own (files (Entry n)) s.0 ∙ ap (λ m. files (Entry m)) (tied_is q n e)
    go false e more = more

module _ (s : State) (names : List Name) (rising : AreSorted names) (entries : AreEntries s names) where
  stands_there : (q : Name) → standing s (Entry q) ≡ cond (has_name names q) (standing s (Entry q)) None
  stands_there q = go (has_name names q) (standing s (Entry q)) refl refl
    where
      go : (b : Bool) (o : Option (List ℕ)) → has_name names q ≡ b → standing s (Entry q) ≡ o → o ≡ cond b o None
      go true o has is = refl
      go false None has is = refl
      go false (Some c) has is =
          let stands : IsSome (standing s (Entry q)) = subst (λ (p : Option (List ℕ)). IsSome p) (sym is) refl in
          let found : has_name names q ≡ true = list_any-from_Contains (eq_by_cmp_equiv name_cmp_total) q names ((entries q).1 stands) in
          absurd (cc)

  pub is_table_of : IsTableOf (entries_on s) (table_of (standing s) names)
  is_table_of = record {
    table = record { rising = table_rises (standing s) names rising };
    stands = λ q. stands_there (name_of q) ∙ sym (get_table (standing s) names (name_of q) (entries_stand s names entries));
  }

pub only_one_table : OnlyOneTable
only_one_table es one two h k = same_table one two h.table k.table (λ q. sym (h.stands q) ∙ k.stands q)
