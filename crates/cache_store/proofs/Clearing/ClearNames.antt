-- The names that a clearing takes, by the records and the entries in use.
use Rattle.std.proofs.Common.{◌≡◌, ◌∙◌, ℕ, List, [], ◌∷◌, Result, Ok, Err, IfOk, filter, map, refl, ap}
use Rattle.cache_base.specs.Names.{AreSorted}
use Rattle.cache_base.specs.declared.name.Name.{Name}
use Rattle.cache_store.specs.Clearing.{AreCleared}
use Rattle.cache_theory.specs.Covers.{covered_by, covered_open, covered_records, joined_names}
use Rattle.cache_theory.specs.Machine.{Machine}
use Rattle.cache_theory.specs.Proper.{IsProper}
use Rattle.cache_theory.specs.Table.{name_of}
use Rattle.context_clear.specs.Covered.{covers_record}
use Rattle.handle_table.specs.Kept.{Kept}
use Rattle.handle_table.specs.Standing.{HandlesStand}
use Rattle.handle_table.specs.Users.{AreCoveredNames}
use Rattle.index_map.specs.Known.{IsKnown, Known}
use Rattle.index_record.specs.declared.record.IndexRecord.{IndexRecord}
use Rattle.record_list.specs.Lists.{IsByName}

-- names of a table as records have them, and back
back_again : (names : List (List ℕ)) → map (λ (n : Name). n.0) (map name_of names) ≡ names
back_again [] = refl
back_again (n ∷ names) = ap (λ ns. n ∷ ns) (back_again names)

names_of_records : (rs : List IndexRecord) → map (λ (n : Name). n.0) (map (λ (r : IndexRecord). r.name) rs) ≡ map (λ (r : IndexRecord). r.name.0) rs
names_of_records [] = refl
names_of_records (r ∷ rs) = ap (λ ns. r.name.0 ∷ ns) (names_of_records rs)

pub clears_those : {E : Type 0} (map_now : Known) (k : Kept) (hash : ℕ) (records : List IndexRecord) (in_use there : List Name)
    → IsKnown map_now → IsByName map_now.records records → AreCoveredNames k hash in_use
    → (slice : List IndexRecord) → slice ≡ records → there ≡ map (λ (r : IndexRecord). r.name) (filter (covers_record hash) slice)
    → (first : List Name) → first ≡ in_use → (second : List Name) → second ≡ there
    → (r : Result (List Name) E) → IfOk r (λ names. names ≡ joined_names (map (λ n. n.0) first) (map (λ n. n.0) second)) → IfOk r AreSorted → IfOk r (AreCleared map_now k hash)
clears_those map_now k hash records in_use there known by covered slice same_slice taken first same_first second same_second (Err e) names rising = tt
clears_those map_now k hash records in_use there known by covered slice same_slice taken first same_first second same_second (Ok names) are rising = record {
  records = records;
  known = known;
  by_name = by;
  rising = rising;
  chosen = chosen;
}
  where
    chosen : (m : Machine) (number : ℕ → ℕ) → IsProper m → HandlesStand k m number → names ≡ covered_by records m hash
    chosen m number proper stand =
        let open_is : map (λ (n : Name). n.0) first ≡ covered_open m hash =
        ap (map (λ (n : Name). n.0)) (same_first ∙ covered m number proper stand) ∙ back_again (covered_open m hash) in
        let there_is : map (λ (n : Name). n.0) second ≡ covered_records hash records =
        ap (map (λ (n : Name). n.0)) (same_second ∙ taken) ∙ names_of_records (filter (covers_record hash) slice) ∙ ap (covered_records hash) same_slice in
        are ∙ ap (λ ns. joined_names ns (map (λ (n : Name). n.0) second)) open_is ∙ ap (joined_names (covered_open m hash)) there_is
