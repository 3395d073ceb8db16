-- What is wrong by a table of files and by records that rise, one name after another.
use Rattle.std.proofs.Common.{◌≡◌, ◌++◌, ℕ, List, [], ◌∷◌, Bool, true, false, cond, not, map, filter, flat_map, Option, Some, None, refl, sym, ap, subst, ◌∙◌}
use Rattle.std.specs.Cmp.Lexicographic.{nat_list_cmp_total}
use Rattle.std.specs.Cmp.{tied_itself}
use Rattle.std.specs.FinMap.Entries.{by_order}
use Rattle.std.specs.List.{AllByRecursion}
use Rattle.std.specs.Ordering.{is_eq, ordering_reverse}
use Rattle.std.specs.declared.cmp.Ordering.TheVariants.{Less, Equal, Greater}
use Rattle.cache_base.specs.Names.{has_name, name_cmp}
use Rattle.cache_base.specs.declared.name.Name.{Name}
use Rattle.cache_check.specs.Findings.{findings, findings_at, findings_of, names_alone, names_of_both, with_names}
use Rattle.cache_check.specs.Table.{Table, bytes_cmp, get, insert, keys, name_of}
use Rattle.cache_check.specs.declared.finding.Finding.{Finding}
use Rattle.disk_theory.specs.Image.{Files}
use Rattle.index_record.specs.declared.record.IndexRecord.{IndexRecord}
use Rattle.record_list.proofs.ChangeLaws.{below_all}
use Rattle.record_list.proofs.NameLaws.{below_apart, below_trans, same_itself, tied_same}
use Rattle.record_list.specs.Lists.{names_of, record_at}
use Rattle.cache_check.specs.Checks.{named, table_of}

-- all these names are above the first
abbrev pub Above : Name → List Name → Type 0
Above k names = AllByRecursion (λ (n : Name). name_cmp k n ≡ Less) names

-- all names of the table are above it
abbrev pub Under : {X : Type 0} → Name → Table X → Type 0
Under {X} k t = AllByRecursion (λ (e : List ℕ × X). bytes_cmp k.0 e.0 ≡ Less) t

abbrev pub one : Unit {0}
one = tt

greater : (a b : Name) → name_cmp a b ≡ Less → name_cmp b a ≡ Greater
greater a b e = nat_list_cmp_total.antisymm b.0 a.0 ∙ ap ordering_reverse e

tied_back : (a b : Name) → name_cmp a b ≡ Equal → name_cmp b a ≡ Equal
tied_back a b e = nat_list_cmp_total.antisymm b.0 a.0 ∙ ap ordering_reverse e

pub still_above : (a b : Name) (names : List Name) → name_cmp a b ≡ Less → Above b names → Above a names
still_above a b [] less h = tt
still_above a b (n ∷ names) less h = (below_trans a b n less h.0, still_above a b names less h.1)

-- A table of names, with a name put first, or over the first.

put_first : (k : Name) (t : Table (Unit {0})) → Under k t → insert t k.0 one ≡ (k.0, one) ∷ t
put_first k [] h = refl
put_first k (e ∷ es) h = ap (λ o. by_order o ((k.0, one) ∷ e ∷ es) ((e.0, one) ∷ es) (e ∷ insert es k.0 one)) h.0

put_over : (k q : Name) (t : Table (Unit {0})) → name_cmp k q ≡ Less → insert ((k.0, one) ∷ t) q.0 one ≡ (k.0, one) ∷ insert t q.0 one
put_over k q t less = ap (λ o. by_order o ((q.0, one) ∷ (k.0, one) ∷ t) ((k.0, one) ∷ t) ((k.0, one) ∷ insert t q.0 one)) (greater k q less)

put_same : (k q : Name) (t : Table (Unit {0})) → name_cmp k q ≡ Equal → insert ((k.0, one) ∷ t) q.0 one ≡ (k.0, one) ∷ t
put_same k q t tied = ap (λ o. by_order o ((q.0, one) ∷ (k.0, one) ∷ t) ((k.0, one) ∷ t) ((k.0, one) ∷ insert t q.0 one)) (tied_back k q tied)

under_put : (k q : Name) (t : Table (Unit {0})) → name_cmp k q ≡ Less → Under k t → Under k (insert t q.0 one)
under_put k q [] less h = (less, tt)
under_put k q (e ∷ es) less h =
    let more = under_put k q es less h.1 in
    elim (bytes_cmp q.0 e.0) as (λ o. Under k (by_order o ((q.0, one) ∷ e ∷ es) ((e.0, one) ∷ es) (e ∷ insert es q.0 one))) [
      | Less ↦ (less, h)
      | Equal ↦ h
      | Greater ↦ (h.0, more)
    ]

under_with : (k : Name) (t : Table (Unit {0})) (rs : List IndexRecord) → Under k t → Above k (names_of rs) → Under k (with_names t rs)
under_with k t [] h a = h
under_with k t (r ∷ rs) h a = under_put k r.name (with_names t rs) a.0 (under_with k t rs h a.1)

with_first : (k : Name) (t : Table (Unit {0})) (rs : List IndexRecord) → Above k (names_of rs) → with_names ((k.0, one) ∷ t) rs ≡ (k.0, one) ∷ with_names t rs
with_first k t [] a = refl
with_first k t (r ∷ rs) a = ap (λ u. insert u r.name.0 one) (with_first k t rs a.1) ∙ put_over k r.name (with_names t rs) a.0

under_alone : (k : Name) (t : Table (List ℕ)) → Under k t → Under k (names_alone t)
under_alone k [] h = tt
under_alone k (e ∷ es) h = (h.0, under_alone k es h.1)

pub under_table : (files : Files) (k : Name) (names : List Name) → Above k names → Under k (table_of files names)
under_table files k [] h = tt
under_table files k (n ∷ names) h = (h.0, under_table files k names h.1)

above_names : (k : Name) (t : Table (Unit {0})) → Under k t → Above k (map name_of (keys t))
above_names k [] h = tt
above_names k (e ∷ es) h = (h.0, above_names k es h.1)

-- the names that have a file or a record are above a name below all
above_both : (k : Name) (t : Table (List ℕ)) (rs : List IndexRecord) → Under k t → Above k (names_of rs) → Above k (names_of_both t rs)
above_both k t rs h a = above_names k (with_names (names_alone t) rs) (under_with k (names_alone t) rs (under_alone k t h) a)

-- What stands under a name.

get_first : (k : Name) (x : List ℕ) (t : Table (List ℕ)) → get ((k.0, x) ∷ t) k.0 ≡ Some x
get_first k x t = ap (λ o. cond (is_eq o) (Some x) (get t k.0)) (tied_itself nat_list_cmp_total k.0)

get_over : (k q : Name) (x : List ℕ) (t : Table (List ℕ)) → name_cmp k q ≡ Less → get ((k.0, x) ∷ t) q.0 ≡ get t q.0
get_over k q x t less = ap (λ o. cond (is_eq o) (Some x) (get t q.0)) (greater k q less)

get_under : (k : Name) (t : Table (List ℕ)) → Under k t → get t k.0 ≡ None
get_under k [] h = refl
get_under k (e ∷ es) h = ap (λ o. cond (is_eq o) (Some e.1) (get es k.0)) h.0 ∙ get_under k es h.1

record_over : (r : IndexRecord) (rs : List IndexRecord) (q : Name) → name_cmp r.name q ≡ Less → record_at (r ∷ rs) q ≡ record_at rs q
record_over r rs q less = ap (λ b. cond b (Some r) (record_at rs q)) (below_apart r.name q less)

record_first : (r : IndexRecord) (rs : List IndexRecord) (q : Name) → r.name ≡ q → record_at (r ∷ rs) q ≡ Some r
record_first r rs q same =
    subst (λ (n : Name). record_at (r ∷ rs) n ≡ Some r) same (ap (λ b. cond b (Some r) (record_at rs r.name)) (same_itself r.name))

-- One name is taken off: it is the least of those that have a file or a record.
pub record Takes (k : Name) (content : Option (List ℕ)) (known : Option IndexRecord) (t u : Table (List ℕ)) (rs ss : List IndexRecord) : Type 0 where
  pub names : names_of_both t rs ≡ k ∷ names_of_both u ss
  pub above : Above k (names_of_both u ss)
  pub content_here : get t k.0 ≡ content
  pub known_here : record_at rs k ≡ known
  pub contents : (n : Name) → name_cmp k n ≡ Less → get t n.0 ≡ get u n.0
  pub records : (n : Name) → name_cmp k n ≡ Less → record_at rs n ≡ record_at ss n

pub takes_file : (k : Name) (x : List ℕ) (t : Table (List ℕ)) (rs : List IndexRecord) → Under k t → Above k (names_of rs)
    → Takes k (Some x) None ((k.0, x) ∷ t) t rs rs
takes_file k x t rs h a = record {
  names = ap (λ u. map name_of (keys u)) (with_first k (names_alone t) rs a);
  above = above_both k t rs h a;
  content_here = get_first k x t;
  known_here = below_all k rs a;
  contents = λ n less. get_over k n x t less;
  records = λ n less. refl;
}

pub takes_both : (k : Name) (x : List ℕ) (t : Table (List ℕ)) (r : IndexRecord) (rs : List IndexRecord) → name_cmp k r.name ≡ Equal → Under k t → Above r.name (names_of rs)
    → Takes k (Some x) (Some r) ((k.0, x) ∷ t) t (r ∷ rs) rs
takes_both k x t r rs tied h a =
    let same : r.name ≡ k = sym (tied_same k r.name tied) in
    let b : Above k (names_of rs) = subst (λ (n : Name). Above n (names_of rs)) same a in
    record {
      names =
          ap (λ u. map name_of (keys (insert u r.name.0 one))) (with_first k (names_alone t) rs b)
          ∙ ap (λ u. map name_of (keys u)) (put_same k r.name (with_names (names_alone t) rs) tied);
      above = above_both k t rs h b;
      content_here = get_first k x t;
      known_here = record_first r rs k same;
      contents = λ n less. get_over k n x t less;
      records = λ n less. record_over r rs n (subst (λ (m : Name). name_cmp m n ≡ Less) (sym same) less);
    }

pub takes_record : (t : Table (List ℕ)) (r : IndexRecord) (rs : List IndexRecord) → Under r.name t → Above r.name (names_of rs)
    → Takes r.name None (Some r) t t (r ∷ rs) rs
takes_record t r rs h a = record {
  names = ap (λ u. map name_of (keys u)) (put_first r.name (with_names (names_alone t) rs) (under_with r.name (names_alone t) rs (under_alone r.name t h) a));
  above = above_both r.name t rs h a;
  content_here = get_under r.name t h;
  known_here = record_first r rs r.name refl;
  contents = λ n less. refl;
  records = λ n less. record_over r rs n less;
}

-- What is wrong under names, by a table and records.
abbrev listed : Table (List ℕ) → List IndexRecord → List Name → List Name → List Finding
listed t rs writing names = flat_map (λ n. named n (findings_at t rs n)) (filter (λ n. not (has_name writing n)) names)

-- under one name, unless it is being written
abbrev pub unless : Bool → List Finding → List Finding
unless b fs = cond b [] fs

listed_first : (t : Table (List ℕ)) (rs : List IndexRecord) (writing : List Name) (k : Name) (names : List Name)
    → listed t rs writing (k ∷ names) ≡ unless (has_name writing k) (named k (findings_at t rs k)) ++ listed t rs writing names
listed_first t rs writing k names =
    elim (has_name writing k) as (λ b. flat_map (λ n. named n (findings_at t rs n)) (cond (not b) (k ∷ filter (λ n. not (has_name writing n)) names) (filter (λ n. not (has_name writing n)) names))
    ≡ unless b (named k (findings_at t rs k)) ++ listed t rs writing names) [ true ↦ refl | false ↦ refl ]

pub at_parts : (t : Table (List ℕ)) (rs : List IndexRecord) (n : Name) → findings_at t rs n ≡ findings_of n (get t n.0) (record_at rs n)
unfolding findings_at
at_parts t rs n = refl

module _ (k : Name) (content : Option (List ℕ)) (known : Option IndexRecord) (t u : Table (List ℕ)) (rs ss : List IndexRecord) (writing : List Name) (takes : Takes k content known t u rs ss) where
  at_others : (n : Name) → name_cmp k n ≡ Less → findings_at t rs n ≡ findings_at u ss n
  at_others n less =
      at_parts t rs n
      ∙ ap (λ c. findings_of n c (record_at rs n)) (takes.contents n less)
      ∙ ap (λ r. findings_of n (get u n.0) r) (takes.records n less)
      ∙ sym (at_parts u ss n)

  at_own : findings_at t rs k ≡ findings_of k content known
  at_own =
      at_parts t rs k
      ∙ ap (λ c. findings_of k c (record_at rs k)) takes.content_here
      ∙ ap (λ r. findings_of k content r) takes.known_here

  listed_others : (names : List Name) → Above k names → listed t rs writing names ≡ listed u ss writing names
  listed_others [] h = refl
  listed_others (n ∷ names) h =
      listed_first t rs writing n names
      ∙ ap (λ ws. unless (has_name writing n) (named n ws) ++ listed t rs writing names) (at_others n h.0)
      ∙ ap (λ fs. unless (has_name writing n) (named n (findings_at u ss n)) ++ fs) (listed_others names h.1)
      ∙ sym (listed_first u ss writing n names)

  pub takes_findings : findings t rs writing ≡ unless (has_name writing k) (named k (findings_of k content known)) ++ findings u ss writing
  unfolding findings
  takes_findings =
      ap (λ names. listed t rs writing names) takes.names
      ∙ listed_first t rs writing k (names_of_both u ss)
      ∙ ap (λ ws. unless (has_name writing k) (named k ws) ++ listed t rs writing (names_of_both u ss)) at_own
      ∙ ap (λ fs. unless (has_name writing k) (named k (findings_of k content known)) ++ fs) (listed_others (names_of_both u ss) takes.above)
