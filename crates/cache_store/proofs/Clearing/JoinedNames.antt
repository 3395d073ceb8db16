-- Names of two lists, each once and in their order.
use Rattle.std.proofs.Common.{◌≡◌, ◌∙◌, ℕ, ◌+◌, ◌<◌, Bool, true, false, cond, ◌||◌, List, [], ◌∷◌, ◌++◌, Option, Some, Result, Ok, Err, IfOk, get_or, is_some, length, map, take, refl, sym, ap}
use Rattle.std.specs.Ordering.{is_eq}
use Rattle.std.proofs.lemmas.Cmp.{eq_by_cmp_equiv}
use Rattle.std.proofs.lemmas.List.Folds.{list_any_more}
use Rattle.cache_base.specs.Names.{AreSorted, has_name, name_cmp}
use Rattle.cache_base.specs.declared.name.Name.{Name}
use Rattle.cache_base.proofs.NameLaws.{name_cmp_total}
use Rattle.cache_check.proofs.FoundExactly.{has_key}
use Rattle.cache_theory.specs.Covers.{as_table, joined_names}
use Rattle.cache_theory.specs.Table.{IsTable, get}
use Rattle.cache_theory.proofs.TableLaws.{get-insert, insert_is_table}
use Rattle.handle_table.proofs.OpenNames.{names_of_table}

-- one name more in a set, after those that were in it
with_one : (b old had : Bool) → cond b true (old || had) ≡ (old || (had || b))
with_one true true had = refl
with_one true false true = refl
with_one true false false = refl
with_one false true had = refl
with_one false false true = refl
with_one false false false = refl

pub one_more : (names : List Name) (i : ℕ) (d n q : Name) (old : Bool) → i < length names → get_or names i d ≡ n
    → cond (is_eq (name_cmp n q)) true (old || has_name (take i names) q) ≡ (old || has_name (take (i + 1) names) q)
one_more names i d n q old within at =
    ap (λ b. cond b true (old || has_name (take i names) q)) ((eq_by_cmp_equiv name_cmp_total).symm n q)
    ∙ with_one (is_eq (name_cmp q n)) old (has_name (take i names) q)
    ∙ ap (λ m. old || (has_name (take i names) q || is_eq (name_cmp q m))) (sym at)
    ∙ ap (λ b. old || b) (sym (list_any_more (λ one. is_eq (name_cmp q one)) names i d within))

-- the table of names has something under each of them

table_of_names : (names : List (List ℕ)) → IsTable (as_table names)
table_of_names [] = record { rising = tt }
table_of_names (name ∷ names) = insert_is_table (as_table names) name tt (table_of_names names)

some_or : (b : Bool) (o : Option (Unit {0})) → is_some (cond b (Some tt) o) ≡ (b || is_some o)
some_or true o = refl
some_or false o = refl

either_more : (a b c : Bool) → (a || (b || c)) ≡ ((a || b) || c)
either_more true b c = refl
either_more false b c = refl

table_has : (first second : List Name) (q : Name) → is_some (get (as_table (map (λ n. n.0) first ++ map (λ n. n.0) second)) q.0) ≡ (has_name first q || has_name second q)
table_has [] [] q = refl
table_has [] (n ∷ second) q =
    ap is_some (get-insert (as_table (map (λ (k : Name). k.0) second)) n.0 tt q.0)
    ∙ some_or (is_eq (name_cmp q n)) (get (as_table (map (λ (k : Name). k.0) second)) q.0)
    ∙ ap (λ b. is_eq (name_cmp q n) || b) (table_has [] second q)
table_has (n ∷ first) second q =
    let more : List (List ℕ) = map (λ (k : Name). k.0) first ++ map (λ (k : Name). k.0) second in
    ap is_some (get-insert (as_table more) n.0 tt q.0)
    ∙ some_or (is_eq (name_cmp q n)) (get (as_table more) q.0)
    ∙ ap (λ b. is_eq (name_cmp q n) || b) (table_has first second q)
    ∙ either_more (is_eq (name_cmp q n)) (has_name first q) (has_name second q)

-- so names that rise and are those of both lists are these
pub joined_is : {E : Type 0} (first second set : List Name) → ((q : Name) → has_name set q ≡ (has_name first q || has_name second q))
    → (r : Result (List Name) E) → IfOk r (λ names. names ≡ set) → IfOk r AreSorted → IfOk r (λ names. names ≡ joined_names (map (λ n. n.0) first) (map (λ n. n.0) second))
joined_is first second set has (Err e) is rising = tt
joined_is first second set has (Ok names) is rising =
    let both : List (List ℕ) = map (λ (n : Name). n.0) first ++ map (λ (n : Name). n.0) second in
    names_of_table (as_table both) (table_of_names both) names rising
    (λ q. ap (λ ns. has_name ns q) is ∙ has q ∙ sym (table_has first second q) ∙ sym (has_key (as_table both) q))
