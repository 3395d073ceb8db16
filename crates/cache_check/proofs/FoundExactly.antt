-- A finding is in the list exactly where it is found under its name.
use Rattle.std.proofs.Common.{◌≡◌, ◌⊎◌, inl, inr, ℕ, zero, suc, ◌<◌, List, [], ◌∷◌, ◌++◌, map, filter, flat_map, length, get_or, Bool, true, false, cond, not, ◌&&◌, ◌||◌, ◌==◌, append-nil, Option, Some, None, refl, sym, ap, subst, ◌∙◌, arith}
use Rattle.std.specs.List.{AllByRecursion, Any}
use Rattle.std.specs.FinMap.{is_sorted}
use Rattle.std.specs.FinMap.Entries.{below_all}
use Rattle.std.specs.List.Sorted.{IsStrictlySortedBy}
use Rattle.std.specs.declared.cmp.Ordering.{Ordering}
use Rattle.std.specs.declared.cmp.Ordering.TheVariants.{Less, Equal, Greater}
use Rattle.std.specs.Ordering.{is_lt, eq_by_cmp, is_eq}
use Rattle.std.specs.Prelude.{T, is_some}
use Rattle.std.specs.Str.{bytes_eq}
use Rattle.std.proofs.lemmas.Bool.{not-true, or_cases}
use Rattle.std.proofs.lemmas.Bool.Decides.{Decides-eqb}
use Rattle.std.proofs.lemmas.Map.Text.{is_eq-slice_cmp}
use Rattle.std.proofs.lemmas.Slice.Eq.{bytes_eq-Decides}
use Rattle.cache_base.specs.Names.{AreSorted, has_name, name_cmp}
use Rattle.cache_base.specs.declared.name.Name.{Name}
use Rattle.cache_check.specs.Findings.{file_findings, findings, findings_at, names_alone, names_of_both, record_findings, with_names}
use Rattle.cache_check.specs.Laws.{FindingsAreExact, ListedNamesRise, RightRecordsAreSilent}
use Rattle.index_theory.specs.Scan.{scanned}
use Rattle.cache_check.specs.Table.{Table, bytes_cmp, get, insert, keys, name_of}
use Rattle.cache_check.specs.declared.finding.Finding.{Finding}
use Rattle.cache_check.specs.declared.finding.What.{What}
use Rattle.cache_check.specs.declared.finding.What.TheVariants as what
use Rattle.cache_check.proofs.Agreement.{alone_is_table, with_is_table}
use Rattle.cache_check.proofs.TableLaws.{get-insert}
use Rattle.index_record.specs.declared.record.IndexRecord.{IndexRecord}
use Rattle.record_list.specs.Change.{record_eq}
use Rattle.record_list.specs.Lists.{record_at, same_name}

same_bytes : (a b : List ℕ) → bytes_eq a b ≡ true → a ≡ b
same_bytes a b e = (bytes_eq-Decides a b).0 e

-- a name is among the keys of a table exactly where the table has something under it
pub has_key : {X : Type 0} (t : Table X) (name : Name) → has_name (map name_of (keys t)) name ≡ is_some (get t name.0)
has_key [] name = refl
has_key (e ∷ es) name = elim (eq_by_cmp bytes_cmp name.0 e.0) as (λ b. (b || has_name (map name_of (keys es)) name) ≡ is_some (cond b (Some e.1) (get es name.0))) [ true ↦ refl | false ↦ has_key es name ]

-- Whether a value is in a list, by recursion.

abbrev Among : {X : Type 0} → X → List X → Type 0
Among y [] = ⊥
Among y (x ∷ xs) = (x ≡ y) ⊎ Among y xs

module _ {X : Type 0} (y : X) where
  to_any : (xs : List X) → Among y xs → Any (λ x. x ≡ y) xs
  to_any [] at = absurd at
  to_any (x ∷ xs) (inl e) = (0, x, omega arith, refl, e)
  to_any (x ∷ xs) (inr at) = let more = to_any xs at in (suc more.0, more.1, (let lt = more.2 in omega (arith, lt)), more.3, more.4)

  by_place : (xs : List X) (k : ℕ) (z : X) → k < length xs → get_or xs k z ≡ z → z ≡ y → Among y xs
  by_place [] k z lt is e = absurd (omega arith)
  by_place (x ∷ xs) zero z lt is e = inl (is ∙ e)
  by_place (x ∷ xs) (suc k) z lt is e = inr (by_place xs k z (omega arith) is e)

  from_any : (xs : List X) → Any (λ x. x ≡ y) xs → Among y xs
  from_any xs any = by_place xs any.0 any.1 any.2 any.3 any.4

  among_left : (xs ys : List X) → Among y xs → Among y (xs ++ ys)
  among_left [] ys at = absurd at
  among_left (x ∷ xs) ys (inl e) = inl e
  among_left (x ∷ xs) ys (inr at) = inr (among_left xs ys at)

  among_right : (xs ys : List X) → Among y ys → Among y (xs ++ ys)
  among_right [] ys at = at
  among_right (x ∷ xs) ys at = inr (among_right xs ys at)

  among_either : (xs ys : List X) → Among y (xs ++ ys) → Among y xs ⊎ Among y ys
  among_either [] ys at = inr at
  among_either (x ∷ xs) ys (inl e) = inl (inl e)
  among_either (x ∷ xs) ys (inr at) = elim (among_either xs ys at) [ inl here ↦ inl (inr here) | inr there ↦ inr there ]

  in_filter : (p : X → Bool) (xs : List X) → Among y xs → p y ≡ true → Among y (filter p xs)
  in_filter p [] at passes = absurd at
  in_filter p (x ∷ xs) (inl e) passes = subst (λ b. Among y (cond b (x ∷ filter p xs) (filter p xs))) (sym (ap p e ∙ passes)) (inl e)
  in_filter p (x ∷ xs) (inr at) passes =
      let more = in_filter p xs at passes in
      elim (p x) as (λ b. Among y (cond b (x ∷ filter p xs) (filter p xs))) [ true ↦ inr more | false ↦ more ]

  out_filter : (p : X → Bool) (xs : List X) → Among y (filter p xs) → Among y xs × (p y ≡ true)
  out_filter p [] at = absurd at
  out_filter p (x ∷ xs) at = go (p x) refl (out_filter p xs) at
    where
      go : (b : Bool) → p x ≡ b → (Among y (filter p xs) → Among y xs × (p y ≡ true)) → Among y (cond b (x ∷ filter p xs) (filter p xs)) → Among y (x ∷ xs) × (p y ≡ true)
      go true passes rest (inl e) = (inl e, ap p (sym e) ∙ passes)
      go true passes rest (inr there) = let more = rest there in (inr more.0, more.1)
      go false fails rest there = let more = rest there in (inr more.0, more.1)

module _ {X Y : Type 0} (h : X → List Y) (y : Y) where
  in_flat : (xs : List X) (x : X) → Among x xs → Among y (h x) → Among y (flat_map h xs)
  in_flat [] x at here = absurd at
  in_flat (z ∷ xs) x (inl e) here = among_left y (h z) (flat_map h xs) (subst (λ k. Among y (h k)) (sym e) here)
  in_flat (z ∷ xs) x (inr at) here = among_right y (h z) (flat_map h xs) (in_flat xs x at here)

  out_flat : (xs : List X) → Among y (flat_map h xs) → (x : X) × (Among x xs × Among y (h x))
  out_flat [] at = absurd at
  out_flat (z ∷ xs) at = elim (among_either y (h z) (flat_map h xs) at) [
    | inl here ↦ (z, (inl refl, here))
    | inr there ↦ let more = out_flat xs there in (more.0, (inr more.1.0, more.1.1))
  ]

-- Findings with their name.

abbrev named : Name → What → Finding
named name w = record { name = name; what = w }

in_named : (name : Name) (f : Finding) (ws : List What) → name ≡ f.name → Among f.what ws → Among f (map (named name) ws)
in_named name f [] same at = absurd at
in_named name f (w ∷ ws) same (inl e) = inl (λ i. record { name = same i; what = e i })
in_named name f (w ∷ ws) same (inr at) = inr (in_named name f ws same at)

out_named : (name : Name) (f : Finding) (ws : List What) → Among f (map (named name) ws) → (name ≡ f.name) × Among f.what ws
out_named name f [] at = absurd at
out_named name f (w ∷ ws) (inl e) = (ap (λ (g : Finding). g.name) e, inl (ap (λ (g : Finding). g.what) e))
out_named name f (w ∷ ws) (inr at) = let more = out_named name f ws at in (more.0, inr more.1)

-- The names that have a file or a record.

among_named : (names : List Name) (n : Name) → has_name names n ≡ true → Among n names
among_named [] n has = absurd (cc)
among_named (m ∷ names) n has = elim (or_cases (is_eq (name_cmp n m)) (has_name names n) has) [
  | inl here ↦ let same : n.0 ≡ m.0 = same_bytes n.0 m.0 (sym (is_eq-slice_cmp n.0 m.0) ∙ here) in inl (λ i. record { 0 = sym same i })
  | inr there ↦ inr (among_named names n there)
]

has_with : {X : Type 0} (t : Table X) (k q : List ℕ) (x : X) → is_some (get t q) ≡ true → is_some (get (insert t k x) q) ≡ true
has_with t k q x has = ap is_some (get-insert t k x q) ∙ go (eq_by_cmp bytes_cmp q k)
  where
    go : (b : Bool) → is_some (cond b (Some x) (get t q)) ≡ true
    go true = refl
    go false = has

keeps_names : (t : Table (Unit {0})) (rs : List IndexRecord) (q : List ℕ) → is_some (get t q) ≡ true → is_some (get (with_names t rs) q) ≡ true
keeps_names t [] q has = has
keeps_names t (r ∷ rs) q has = has_with (with_names t rs) r.name.0 q tt (keeps_names t rs q has)

abbrev one : Unit {0}
one = tt

file_name_of : (files : Table (List ℕ)) (q : List ℕ) → is_some (get (names_alone files) q) ≡ is_some (get files q)
file_name_of [] q = refl
file_name_of (e ∷ es) q =
    elim (eq_by_cmp bytes_cmp q e.0) as (λ b. is_some (cond b (Some one) (get (names_alone es) q)) ≡ is_some (cond b (Some e.1) (get es q))) [ true ↦ refl | false ↦ file_name_of es q ]

record_name_of : (t : Table (Unit {0})) (rs : List IndexRecord) (name : Name) → is_some (record_at rs name) ≡ true → is_some (get (with_names t rs) name.0) ≡ true
record_name_of t [] name has = absurd (cc)
record_name_of t (r ∷ rs) name has = go (same_name r.name name) refl has (record_name_of t rs name)
  where
    go : (b : Bool) → same_name r.name name ≡ b → is_some (cond b (Some r) (record_at rs name)) ≡ true → (is_some (record_at rs name) ≡ true → is_some (get (with_names t rs) name.0) ≡ true)
        → is_some (get (insert (with_names t rs) r.name.0 tt) name.0) ≡ true
    go true same has more =
        let e : eq_by_cmp bytes_cmp name.0 r.name.0 ≡ true = is_eq-slice_cmp name.0 r.name.0 ∙ (bytes_eq-Decides name.0 r.name.0).1 (sym (same_bytes r.name.0 name.0 same)) in
        ap is_some (get-insert (with_names t rs) r.name.0 tt name.0) ∙ ap (λ b. is_some (cond b (Some tt) (get (with_names t rs) name.0))) e
    go false other has more = has_with (with_names t rs) r.name.0 name.0 tt (more has)

module _ (files : Table (List ℕ)) (records : List IndexRecord) where
  file_is_named : (name : Name) → is_some (get files name.0) ≡ true → has_name (names_of_both files records) name ≡ true
  file_is_named name has =
      has_key (with_names (names_alone files) records) name
      ∙ keeps_names (names_alone files) records name.0 (file_name_of files name.0 ∙ has)

  record_is_named : (name : Name) → is_some (record_at records name) ≡ true → has_name (names_of_both files records) name ≡ true
  record_is_named name has =
      has_key (with_names (names_alone files) records) name
      ∙ record_name_of (names_alone files) records name has

  -- something is wrong only under such a name
  found_is_named : (name : Name) (w : What) → Among w (findings_at files records name) → has_name (names_of_both files records) name ≡ true
  unfolding findings_at
  found_is_named name w at = go (get files name.0) (record_at records name) refl refl at
    where
      go : (o : Option (List ℕ)) (r : Option IndexRecord) → get files name.0 ≡ o → record_at records name ≡ r
          → Among w (file_findings name o ++ record_findings (scanned (λ n. o) name) r) → has_name (names_of_both files records) name ≡ true
      go (Some c) r file known here = file_is_named name (ap is_some file)
      go None (Some s) file known here = record_is_named name (ap is_some known)
      go None None file known here = absurd here

module _ (files : Table (List ℕ)) (records : List IndexRecord) (writing : List Name) (f : Finding) where
  abbrev at_name : Name → List Finding
  at_name name = map (named name) (findings_at files records name)

  abbrev is_read : Name → Bool
  is_read name = not (has_name writing name)

  listed_found : Any (λ g. g ≡ f) (findings files records writing) → (has_name writing f.name ≡ false) × Any (λ w. w ≡ f.what) (findings_at files records f.name)
  unfolding findings
  listed_found any =
      let found = out_flat at_name f (filter is_read (names_of_both files records)) (from_any f (findings files records writing) any) in
      let read = (out_filter found.0 is_read (names_of_both files records) found.1.0).1 in
      let here = out_named found.0 f (findings_at files records found.0) found.1.1 in
      subst (λ (n : Name). (has_name writing n ≡ false) × Any (λ w. w ≡ f.what) (findings_at files records n)) here.0
      (not-true (has_name writing found.0) read, to_any f.what (findings_at files records found.0) here.1)

  found_listed : (has_name writing f.name ≡ false) × Any (λ w. w ≡ f.what) (findings_at files records f.name) → Any (λ g. g ≡ f) (findings files records writing)
  unfolding findings
  found_listed h =
      let here = from_any f.what (findings_at files records f.name) h.1 in
      let name = among_named (names_of_both files records) f.name (found_is_named files records f.name f.what here) in
      to_any f (findings files records writing)
      (in_flat at_name f (filter is_read (names_of_both files records)) f.name (in_filter f.name is_read (names_of_both files records) name (ap not h.0))
      (in_named f.name f (findings_at files records f.name) refl here))

pub findings_are_exact : FindingsAreExact
findings_are_exact files records writing f = (listed_found files records writing f, found_listed files records writing f)

-- The names of a table rise.

less : (o : Ordering) → T (is_lt o) → o ≡ Less
less Less t = refl
less Equal t = absurd t
less Greater t = absurd t

both_true : (a b : Bool) → T (a && b) → T a × T b
both_true true b t = (tt, t)
both_true false b t = absurd t

names_above : {X : Type 0} (m : Name) (es : Table X) → T (below_all bytes_cmp m.0 es) → AllByRecursion (λ n. name_cmp m n ≡ Less) (map name_of (keys es))
names_above m [] t = tt
names_above m (e ∷ es) t =
    let two = both_true (is_lt (bytes_cmp m.0 e.0)) (below_all bytes_cmp m.0 es) t in
    (less (bytes_cmp m.0 e.0) two.0, names_above m es two.1)

names_rise : {X : Type 0} (es : Table X) → T (is_sorted bytes_cmp es) → AreSorted (map name_of (keys es))
unfolding IsStrictlySortedBy
names_rise [] t = tt
names_rise (e ∷ es) t =
    let two = both_true (below_all bytes_cmp e.0 es) (is_sorted bytes_cmp es) t in
    (names_above (name_of e.0) es two.0, names_rise es two.1)

pub listed_names_rise : ListedNamesRise
listed_names_rise files records table =
    names_rise (with_names (names_alone files) records) (with_is_table (names_alone files) records (alone_is_table files table)).rising

-- A record that is that of its file.

same_number_test : (n : ℕ) → (n == n) ≡ true
same_number_test n = (Decides-eqb n n).1 refl

record_eq_self : (r : IndexRecord) → record_eq r r ≡ true
record_eq_self r =
    let name = (bytes_eq-Decides r.name.0 r.name.0).1 refl in
    let frecency = same_number_test r.frecency in
    let origin = same_number_test r.origin in
    let on_start = same_number_test r.on_start in
    let on_stop = same_number_test r.on_stop in
    let content = same_number_test r.content in
    let flags = same_number_test r.flags in
    λ i. name i && frecency i && origin i && on_start i && on_stop i && content i && flags i

silent : (o : Option IndexRecord) → record_findings o o ≡ []
silent None = refl
silent (Some r) = ap (λ b. cond b [] (what.Differs ∷ [])) (record_eq_self r)

pub right_records_are_silent : RightRecordsAreSilent
unfolding findings_at
right_records_are_silent files records name right =
    ap (λ o. file_findings name (get files name.0) ++ record_findings (scanned (get files) name) o) right
    ∙ ap (λ ws. file_findings name (get files name.0) ++ ws) (silent (scanned (get files) name))
    ∙ append-nil (file_findings name (get files name.0))
