-- The first row of files and records that rise, and what is left after it.
use Rattle.std.proofs.Common.{◌≡◌, ◌++◌, ◌<◌, ◌+◌, ℕ, List, [], ◌∷◌, Bool, true, false, cond, length, Option, Some, None, refl, sym, ap, subst, ◌∙◌, append-nil, arith}
use Rattle.std.proofs.lemmas.List.Sums.{sum_by-cons}
use Rattle.std.specs.FinMap.Entries.{by_order}
use Rattle.std.specs.List.Sorted.{IsStrictlySortedBy}
use Rattle.std.specs.List.{AllByRecursion}
use Rattle.std.specs.Prelude.{IfSome, IsSome, is_some, unwrap_or}
use Rattle.std.specs.declared.cmp.Ordering.{Ordering}
use Rattle.std.specs.declared.cmp.Ordering.TheVariants.{Less, Equal, Greater}
use Rattle.cache_base.specs.Names.{AreSorted, has_name, name_cmp}
use Rattle.cache_base.specs.declared.name.Name.{Name}
use Rattle.cache_check.specs.Findings.{findings, findings_of}
use Rattle.cache_check.specs.Table.{name_of}
use Rattle.cache_check.specs.declared.finding.Finding.{Finding}
use Rattle.disk_theory.specs.Image.{Files}
use Rattle.disk_theory.specs.declared.place.Place.TheVariants.{Entry}
use Rattle.index_record.specs.declared.record.IndexRecord.{IndexRecord}
use Rattle.record_list.proofs.NameLaws.{above_below}
use Rattle.record_list.specs.Lists.{AreSorted as AreByName, names_of}
use Rattle.cache_check.specs.Checks.{looks_at, looks_over, named, table_of}
use Rattle.cache_check.specs.Rows.{first_row, of_file, of_record, without_first, turn_findings, turn_looks}
use Rattle.cache_check.specs.declared.rows.Row.{Row}
use Rattle.cache_check.proofs.RowLaws.{Above, still_above, takes_both, takes_file, takes_findings, takes_record, under_table}

-- a file stands under each name
abbrev pub Stand : Files → List Name → Type 0
Stand files names = AllByRecursion (λ (n : Name). IsSome (files (Entry n))) names

-- the lists that are left after a row rise, and are shorter
pub record LeavesRows (names : List Name) (rs : List IndexRecord) (row : Row) : Type 0 where
  pub rising : AreSorted (without_first names row.filed)
  pub by_name : AreByName (without_first rs (is_some row.known))
  pub fewer : length (without_first names row.filed) + length (without_first rs (is_some row.known)) < length names + length rs

-- what a row adds, and what is left after it, come to what is wrong in all
pub record AddsRow (files : Files) (writing : List Name) (names : List Name) (rs : List IndexRecord) (row : Row) : Type 0 where
  pub found : findings (table_of files names) rs writing
      ≡ turn_findings files (has_name writing row.name) row ++ findings (table_of files (without_first names row.filed)) (without_first rs (is_some row.known)) writing
  pub looks : looks_over (table_of files names) writing
      ≡ turn_looks files (has_name writing row.name) row + looks_over (table_of files (without_first names row.filed)) writing
  pub stand : Stand files (without_first names row.filed)

leaves_either : (n : Name) (names : List Name) (r : IndexRecord) (rs : List IndexRecord) → AreSorted (n ∷ names) → AreByName (r ∷ rs) → (o : Ordering)
    → LeavesRows (n ∷ names) (r ∷ rs) (by_order o (of_file n None) (of_file n (Some r)) (of_record r))
unfolding IsStrictlySortedBy
leaves_either n names r rs h b Less = record { rising = h.1; by_name = b; fewer = omega arith }
leaves_either n names r rs h b Equal = record { rising = h.1; by_name = b.1; fewer = omega arith }
leaves_either n names r rs h b Greater = record { rising = h; by_name = b.1; fewer = omega arith }

leaves_some : (names : List Name) (rs : List IndexRecord) → AreSorted names → AreByName rs → IfSome (first_row names rs) (λ row. LeavesRows names rs row)
unfolding IsStrictlySortedBy
leaves_some [] [] h b = tt
leaves_some (n ∷ names) [] h b = record { rising = h.1; by_name = b; fewer = omega arith }
leaves_some [] (r ∷ rs) h b = record { rising = h; by_name = b.1; fewer = omega arith }
leaves_some (n ∷ names) (r ∷ rs) h b = leaves_either n names r rs h b (name_cmp n r.name)

pub leaves : (names : List Name) (rs : List IndexRecord) (row : Row) → AreSorted names → AreByName rs → Some row ≡ first_row names rs → LeavesRows names rs row
leaves names rs row h b is = subst (λ (o : Option Row). IfSome o (λ row. LeavesRows names rs row)) (sym is) (leaves_some names rs h b)

-- A content that stands is what a table of it has.
pub own : (o : Option (List ℕ)) → IsSome o → Some (unwrap_or o []) ≡ o
own None h = absurd (cc)
own (Some c) h = refl

module _ (files : Files) (writing : List Name) where
  abbrev file_looks : List ℕ × List ℕ → ℕ
  file_looks file = cond (has_name writing (name_of file.0)) 0 (looks_at (name_of file.0) (Some file.1))

  adds_file : (n : Name) (names : List Name) (rs : List IndexRecord) → Above n names → Above n (names_of rs) → Stand files (n ∷ names) → AddsRow files writing (n ∷ names) rs (of_file n None)
  adds_file n names rs h a s =
      let x = unwrap_or (files (Entry n)) [] in
      let t = table_of files names in
      record {
        found =
            takes_findings n (Some x) None ((n.0, x) ∷ t) t rs rs writing (takes_file n x t rs (under_table files n names h) a)
            ∙ ap (λ c. cond (has_name writing n) [] (named n (findings_of n c None)) ++ findings t rs writing) (own (files (Entry n)) s.0);
        looks =
            sum_by-cons file_looks (n.0, x) t
            ∙ ap (λ c. cond (has_name writing n) 0 (looks_at n c) + looks_over t writing) (own (files (Entry n)) s.0);
        stand = s.1;
      }

  adds_both : (n : Name) (names : List Name) (r : IndexRecord) (rs : List IndexRecord) → name_cmp n r.name ≡ Equal → Above n names → Above r.name (names_of rs) → Stand files (n ∷ names)
      → AddsRow files writing (n ∷ names) (r ∷ rs) (of_file n (Some r))
  adds_both n names r rs tied h a s =
      let x = unwrap_or (files (Entry n)) [] in
      let t = table_of files names in
      record {
        found =
            takes_findings n (Some x) (Some r) ((n.0, x) ∷ t) t (r ∷ rs) rs writing (takes_both n x t r rs tied (under_table files n names h) a)
            ∙ ap (λ c. cond (has_name writing n) [] (named n (findings_of n c (Some r))) ++ findings t rs writing) (own (files (Entry n)) s.0);
        looks =
            sum_by-cons file_looks (n.0, x) t
            ∙ ap (λ c. cond (has_name writing n) 0 (looks_at n c) + looks_over t writing) (own (files (Entry n)) s.0);
        stand = s.1;
      }

  no_looks : (b : Bool) (n : ℕ) → n ≡ cond b 0 0 + n
  no_looks true n = omega arith
  no_looks false n = omega arith

  adds_record : (names : List Name) (r : IndexRecord) (rs : List IndexRecord) → Above r.name names → Above r.name (names_of rs) → Stand files names → AddsRow files writing names (r ∷ rs) (of_record r)
  adds_record names r rs h a s =
      let t = table_of files names in
      record {
        found = takes_findings r.name None (Some r) t t (r ∷ rs) rs writing (takes_record t r rs (under_table files r.name names h) a);
        looks = no_looks (has_name writing r.name) (looks_over t writing);
        stand = s;
      }

  adds_either : (n : Name) (names : List Name) (r : IndexRecord) (rs : List IndexRecord) → Above n names → Above r.name (names_of rs) → Stand files (n ∷ names) → (o : Ordering) → name_cmp n r.name ≡ o
      → AddsRow files writing (n ∷ names) (r ∷ rs) (by_order o (of_file n None) (of_file n (Some r)) (of_record r))
  adds_either n names r rs h a s Less is = adds_file n names (r ∷ rs) h (is, still_above n r.name (names_of rs) is a) s
  adds_either n names r rs h a s Equal is = adds_both n names r rs is h a s
  adds_either n names r rs h a s Greater is =
      let less = above_below n r.name is in
      adds_record (n ∷ names) r rs (less, still_above r.name n names less h) a s

  adds_some : (names : List Name) (rs : List IndexRecord) → AreSorted names → AreByName rs → Stand files names → IfSome (first_row names rs) (λ row. AddsRow files writing names rs row)
  unfolding IsStrictlySortedBy
  adds_some [] [] h b s = tt
  adds_some (n ∷ names) [] h b s = adds_file n names [] h.0 tt s
  adds_some [] (r ∷ rs) h b s = adds_record [] r rs tt b.0 s
  adds_some (n ∷ names) (r ∷ rs) h b s = adds_either n names r rs h.0 b.0 s (name_cmp n r.name) refl

  pub adds : (names : List Name) (rs : List IndexRecord) (row : Row) → AreSorted names → AreByName rs → Stand files names → Some row ≡ first_row names rs → AddsRow files writing names rs row
  adds names rs row h b s is = subst (λ (o : Option Row). IfSome o (λ row. AddsRow files writing names rs row)) (sym is) (adds_some names rs h b s)

-- where there is no row, nothing is left
no_rows : (names : List Name) (rs : List IndexRecord) → None ≡ first_row names rs → (names ≡ []) × (rs ≡ [])
no_rows [] [] is = (refl, refl)
no_rows (n ∷ names) [] is = absurd (cc)
no_rows [] (r ∷ rs) is = absurd (cc)
no_rows (n ∷ names) (r ∷ rs) is = absurd (cc)

no_findings : (writing : List Name) → findings [] [] writing ≡ []
unfolding findings
no_findings writing = refl

nothing_left : (files : Files) (writing names : List Name) (rs : List IndexRecord) → None ≡ first_row names rs → findings (table_of files names) rs writing ≡ []
nothing_left files writing names rs is =
    let none = no_rows names rs is in
    ap (λ ns. findings (table_of files ns) rs writing) none.0 ∙ ap (λ ss. findings [] ss writing) none.1 ∙ no_findings writing

-- and what was found is all
pub all_found : (files : Files) (writing names : List Name) (rs : List IndexRecord) (out whole : List Finding) → None ≡ first_row names rs
    → out ++ findings (table_of files names) rs writing ≡ whole → out ≡ whole
all_found files writing names rs out whole is so_far =
    sym (append-nil out) ∙ ap (λ fs. out ++ fs) (sym (nothing_left files writing names rs is)) ∙ so_far
