-- The counts of a table are those of the lists that its map shows.
use Rattle.std.proofs.Common.{◌≡◌, ℕ, ◌+◌, Bool, true, false, cond, not, List, [], ◌∷◌, length, get_or, refl, sym, ap, ◌∙◌, arith}
use Rattle.std.specs.List.{All, cons_option, count_by, filter_map, sum_by}
use Rattle.std.specs.Map.{lookup, values_of}
use Rattle.std.specs.Option.{option_eq, option_map_or}
use Rattle.std.specs.Prelude.{IfSome, None, Option, Some, is_none, is_some, option_and_then}
use Rattle.std.proofs.lemmas.List.Elements.{All-head, All-tail}
use Rattle.std.proofs.lemmas.List.Sums.{sum_by-cons}
use Rattle.std.proofs.lemmas.Map.Entries.{lookup_from_place}
use Rattle.std.proofs.lemmas.Option.{slice_get-get_or}
use Rattle.cache_base.specs.Numbers.{one_if}
use Rattle.cache_base.specs.declared.name.Name.{Name}
use Rattle.index_record.specs.Record.{size_kb}
use Rattle.index_record.specs.declared.record.IndexRecord.{IndexRecord}
use Rattle.record_list.specs.Change.{change, record_eq}
use Rattle.record_list.specs.Lists.{record_at, same_name}
use Rattle.index_map.specs.Known.{changed}
use Rattle.index_map.specs.Slots.{IsTable, base_in, change_in, change_of, changed_of, current_in, kilobytes_of, records_of, Slot}
use Rattle.index_map.proofs.Lookups.{same_name_equiv}
use Rattle.index_map.proofs.Shown.{base_at, base_of, current_at, current_of, own_base, own_current}
use Rattle.index_map.proofs.Tables.{sum_values}

pub records_counted : (slots : List Slot) → sum_by records_of slots ≡ length (current_in slots)
records_counted [] = refl
records_counted (s ∷ slots) = sum_by-cons records_of s slots ∙ ap (λ n. records_of s + n) (records_counted slots) ∙ go s.current
  where
    go : (o : Option IndexRecord) → one_if (is_some o) + length (current_in slots) ≡ length (cons_option o (current_in slots))
    go None = omega arith
    go (Some r) = omega arith

sum_option : {X : Type 0} (f : X → ℕ) (o : Option X) (xs : List X) → sum_by f (cons_option o xs) ≡ option_map_or f o 0 + sum_by f xs
sum_option f None xs = omega arith
sum_option f (Some x) xs = sum_by-cons f x xs

pub kilobytes_counted : (slots : List Slot) → sum_by kilobytes_of slots ≡ sum_by size_kb (current_in slots)
kilobytes_counted [] = refl
kilobytes_counted (s ∷ slots) =
    sum_by-cons kilobytes_of s slots ∙ ap (λ n. kilobytes_of s + n) (kilobytes_counted slots) ∙ sym (sum_option size_kb s.current (current_in slots))

-- ---- the names that changed

change_said : (base current : Option IndexRecord) → is_some (change_of base current) ≡ not (option_eq record_eq base current)
change_said None None = refl
change_said (Some b) None = refl
change_said None (Some r) = refl
change_said (Some b) (Some r) = go (record_eq b r)
  where
    go : (t : Bool) → is_some (cond t None (Some r)) ≡ not t
    go true = refl
    go false = refl

pub changes_counted : (slots : List Slot) → sum_by changed_of slots ≡ length (filter_map change_in slots)
changes_counted [] = refl
changes_counted (s ∷ slots) =
    sum_by-cons changed_of s slots ∙ (λ i. one_if (sym (change_said s.base s.current) i) + changes_counted slots i) ∙ go (change_in s)
  where
    go : (o : Option IndexRecord) → one_if (is_some o) + length (filter_map change_in slots) ≡ length (cons_option o (filter_map change_in slots))
    go None = omega arith
    go (Some r) = omega arith

-- what a record adds where it passes a test
abbrev weigh : (IndexRecord → Bool) → Option IndexRecord → ℕ
weigh p o = option_map_or (λ r. cond (p r) 1 0) o 0

spread : (p q : IndexRecord → Bool) (table : List (Name × Slot))
    → count_by p (current_in (values_of table)) + count_by q (base_in (values_of table)) ≡ sum_by (λ e. weigh p e.1.current + weigh q e.1.base) table
spread p q [] = refl
spread p q (e ∷ table) =
    let c = sum_option (λ r. cond (p r) 1 0) e.1.current (current_in (values_of table)) in
    let b = sum_option (λ r. cond (q r) 1 0) e.1.base (base_in (values_of table)) in
    let s = sum_by-cons (λ e. weigh p e.1.current + weigh q e.1.base) e table in
    omega (arith, c, b, s, spread p q table)

agree : (f g : Name × Slot → ℕ) (table : List (Name × Slot)) → All (λ e. f e ≡ g e) table → sum_by f table ≡ sum_by g table
agree f g [] all = refl
agree f g (e ∷ table) all =
    sum_by-cons f e table ∙ (λ i. All-head (λ e. f e ≡ g e) e table all i + agree f g table (All-tail (λ e. f e ≡ g e) e table all) i) ∙ sym (sum_by-cons g e table)

module _ (base current : List IndexRecord) where
  -- a record now that is new or differs, and a record of the base that is gone
  abbrev is_other : IndexRecord → Bool
  is_other r = is_some (change r.name (record_at base r.name) (Some r))

  abbrev is_gone : IndexRecord → Bool
  is_gone b = is_none (record_at current b.name)

  one_name : (name : Name) (b c : Option IndexRecord) → record_at base name ≡ b → record_at current name ≡ c → IfSome b (λ r. r.name ≡ name)
      → IfSome c (λ r. r.name ≡ name) → weigh is_other c + weigh is_gone b ≡ one_if (not (option_eq record_eq b c))
  one_name name None None b c own_b own_c = refl
  one_name name (Some x) None b c own_b own_c =
      let gone : is_gone x ≡ true = ap (λ n. is_none (record_at current n)) own_b ∙ ap is_none c in
      ap (λ t. 0 + cond t 1 0) gone
  one_name name None (Some y) b c own_b own_c =
      let other : is_other y ≡ true = ap (λ o. is_some (change y.name o (Some y))) (ap (record_at base) own_c ∙ b) in
      ap (λ t. cond t 1 0 + 0) other
  one_name name (Some x) (Some y) b c own_b own_c =
      let gone : is_gone x ≡ false = ap (λ n. is_none (record_at current n)) own_b ∙ ap is_none c in
      let other : is_other y ≡ not (record_eq x y) = ap (λ o. is_some (change y.name o (Some y))) (ap (record_at base) own_c ∙ b) ∙ go (record_eq x y) in
      (λ i. cond (other i) 1 0 + cond (gone i) 1 0) ∙ last (not (record_eq x y))
    where
      go : (t : Bool) → is_some (cond t None (Some y)) ≡ not t
      go true = refl
      go false = refl

      last : (t : Bool) → cond t 1 0 + 0 ≡ one_if t
      last true = refl
      last false = refl

pub changed_counted : (table : List (Name × Slot)) → IsTable table → sum_by changed_of (values_of table) ≡ changed (base_in (values_of table)) (current_in (values_of table))
changed_counted table is =
    let base = base_in (values_of table) in
    let current = current_in (values_of table) in
    let found : All (λ e. lookup (same_name e.0) table ≡ Some e.1) table =
    λ k d low. lookup_from_place same_name_equiv table k (get_or table k d).0 (get_or table k d).1 is.distinct (slice_get-get_or table k d low) in
    let same : All (λ e. changed_of e.1 ≡ weigh (is_other base current) e.1.current + weigh (is_gone base current) e.1.base) table =
    λ k d low.
    let e = get_or table k d in
    sym (one_name base current e.0 e.1.base e.1.current
    (base_at table is e.0 ∙ ap (option_and_then base_of) (found k d low))
    (current_at table is e.0 ∙ ap (option_and_then current_of) (found k d low))
    (own_base table is k d low) (own_current table is k d low)) in
    sum_values changed_of table
    ∙ agree (λ e. changed_of e.1) (λ e. weigh (is_other base current) e.1.current + weigh (is_gone base current) e.1.base) table same
    ∙ sym (spread (is_other base current) (is_gone base current) table)
