-- After an eviction the files that fit take no more than the limit, or none that may go is left.
use Rattle.std.proofs.Common.{◌≡◌, ◌⊎◌, inl, inr, ℕ, ◌+◌, ◌<◌, ◌≤◌, List, [], ◌∷◌, ◌++◌, map, filter, length, Bool, true, false, cond, not, ◌&&◌, ◌||◌, append-nil, Some, None, refl, sym, ap, subst, ◌∙◌, arith}
use Rattle.std.specs.List.{AllByRecursion, cons_option}
use Rattle.std.specs.Prelude.{sum_by}
use Rattle.std.specs.Ordering.{eq_by_cmp}
use Rattle.std.specs.Str.{bytes_eq}
use Rattle.std.proofs.lemmas.Bool.{cases_lt, cond_both, false_from_ne_true, or_left, or_right}
use Rattle.std.proofs.lemmas.List.Elements.{All-from_recursion, recursion_from_All}
use Rattle.std.proofs.lemmas.List.Sorted.{All-permutation, IsPermutation-sym, sum_by-IsPermutation}
use Rattle.std.proofs.lemmas.List.Sums.{sum_by-cons}
use Rattle.std.proofs.lemmas.Map.Text.{is_eq-slice_cmp}
use Rattle.std.proofs.lemmas.Slice.Eq.{bytes_eq-Decides}
use Rattle.cache_base.specs.declared.name.Name.{Name}
use Rattle.cache_theory.specs.Command.Command.{Evict}
use Rattle.cache_theory.specs.Laws.{EvictMeetsLimit, is_among}
use Rattle.cache_theory.specs.Machine.{Machine, open_names}
use Rattle.cache_theory.specs.Checks.{checks}
use Rattle.cache_theory.specs.Step.{all_doomed, doomed_under, effect, evicted, update_ended}
use Rattle.cache_theory.specs.Table.{Table, bytes_cmp, name_of, remove}
use Rattle.cache_theory.proofs.Evictions.Evicting.{all_weaker, record_named}
use Rattle.cache_theory.proofs.Names.{same_bytes}
use Rattle.entry_file.specs.EntryFile.{file_meta, fits}
use Rattle.evictor.specs.Evict.{candidates, in_order, may_evict, total_kb}
use Rattle.evictor.proofs.Prefix.{split}
use Rattle.evictor.proofs.Sorting.{moved_in_order}
use Rattle.index_record.specs.Filling.{record_of_meta}
use Rattle.index_record.specs.Record.{size_kb}
use Rattle.index_record.specs.declared.record.IndexRecord.{IndexRecord}
use Rattle.index_theory.specs.Scan.{scan}

-- The KB of the records that pass a test.

module _ (p : IndexRecord → Bool) where
  abbrev pub kb_of : List IndexRecord → ℕ
  kb_of rs = total_kb (filter p rs)

  own_kb : IndexRecord → ℕ
  own_kb r = cond (p r) (size_kb r) 0

  kb_cons : (r : IndexRecord) (rs : List IndexRecord) → kb_of (r ∷ rs) ≡ own_kb r + kb_of rs
  unfolding own_kb
  kb_cons r rs =
      let more : List IndexRecord = filter p rs in
      elim (p r) as (λ b. total_kb (cond b (r ∷ more) more) ≡ cond b (size_kb r) 0 + total_kb more) [
        | true ↦ sum_by-cons size_kb r (filter p rs)
        | false ↦ omega arith
      ]

  kb_sum : (rs : List IndexRecord) → kb_of rs ≡ sum_by own_kb rs
  kb_sum [] = refl
  kb_sum (r ∷ rs) = kb_cons r rs ∙ ap (λ n. own_kb r + n) (kb_sum rs) ∙ sym (sum_by-cons own_kb r rs)

  -- another order changes nothing
  kb_order : (rs : List IndexRecord) → kb_of (in_order rs) ≡ kb_of rs
  kb_order rs =
      kb_sum (in_order rs) ∙ sum_by-IsPermutation own_kb rs (in_order rs) (moved_in_order rs) ∙ sym (kb_sum rs)

  kb_fewer : (q : IndexRecord → Bool) (rs : List IndexRecord) → kb_of (filter q rs) ≤ kb_of rs
  kb_fewer q [] = omega arith
  kb_fewer q (r ∷ rs) =
      let more = kb_fewer q rs in
      let a = kb_cons r rs in
      let b = kb_cons r (filter q rs) in
      cond_both (q r) (r ∷ filter q rs) (filter q rs) (λ ss. kb_of ss ≤ kb_of (r ∷ rs))
      (λ passes. omega (arith, more, a, b)) (λ fails. omega (arith, more, a))

  kb_joined : (rs ss : List IndexRecord) → kb_of (rs ++ ss) ≡ kb_of rs + kb_of ss
  kb_joined [] ss = omega arith
  kb_joined (r ∷ rs) ss =
      let more = kb_joined rs ss in let a = kb_cons r (rs ++ ss) in let b = kb_cons r rs in omega (arith, more, a, b)

  kb_all : (rs : List IndexRecord) → AllByRecursion (λ r. p r ≡ true) rs → kb_of rs ≡ total_kb rs
  kb_all [] h = refl
  kb_all (r ∷ rs) h =
      ap (λ b. total_kb (cond b (r ∷ filter p rs) (filter p rs))) h.0
      ∙ sum_by-cons size_kb r (filter p rs) ∙ ap (λ n. size_kb r + n) (kb_all rs h.1)
      ∙ sym (sum_by-cons size_kb r rs)

-- and of those that do not
kb_split : (p : IndexRecord → Bool) (rs : List IndexRecord)
    → total_kb rs ≡ kb_of p rs + kb_of (λ r. not (p r)) rs
kb_split p [] = refl
kb_split p (r ∷ rs) =
    let more = kb_split p rs in
    let whole = sum_by-cons size_kb r rs in
    let ins : List IndexRecord = filter p rs in
    let outs : List IndexRecord = filter (λ s. not (p s)) rs in
    elim (p r) as (λ b. total_kb (r ∷ rs) ≡ total_kb (cond b (r ∷ ins) ins) + total_kb (cond (not b) (r ∷ outs) outs)) [
      | true ↦ let a = sum_by-cons size_kb r (filter p rs) in omega (arith, more, whole, a)
      | false ↦ let a = sum_by-cons size_kb r (filter (λ s. not (p s)) rs) in omega (arith, more, whole, a)
    ]

-- The scan of a shelf off which names were taken.

filter_same : (p : IndexRecord → Bool) (rs : List IndexRecord) → ((r : IndexRecord) → p r ≡ true)
    → rs ≡ filter p rs
filter_same p [] all = refl
filter_same p (r ∷ rs) all =
    ap (λ ss. r ∷ ss) (filter_same p rs all)
    ∙ ap (λ b. cond b (r ∷ filter p rs) (filter p rs)) (sym (all r))

filter_twice : (p q both : IndexRecord → Bool) (rs : List IndexRecord)
    → ((r : IndexRecord) → both r ≡ (q r && p r)) → filter p (filter q rs) ≡ filter both rs
filter_twice p q both [] same = refl
filter_twice p q both (r ∷ rs) same =
    let more = filter_twice p q both rs same in
    let once : List IndexRecord = filter q rs in
    let twice : List IndexRecord = filter both rs in
    subst
    (λ b. filter p (cond (q r) (r ∷ once) once) ≡ cond b (r ∷ twice) twice) (sym (same r))
    (elim (q r) as (λ b. filter p (cond b (r ∷ once) once) ≡ cond (b && p r) (r ∷ twice) twice) [
      | true ↦ ap (λ ss. cond (p r) (r ∷ ss) ss) more
      | false ↦ more
    ])

abbrev is_other : List ℕ → IndexRecord → Bool
is_other gone r = not (eq_by_cmp bytes_cmp gone r.name.0)

scan_removed : (t : Table (List ℕ)) (gone : List ℕ)
    → scan (remove t gone) ≡ filter (is_other gone) (scan t)
scan_removed [] gone = refl
scan_removed (e ∷ es) gone = go (eq_by_cmp bytes_cmp gone e.0) refl (scan_removed es gone)
  where
    new : IndexRecord
    new = record_of_meta (name_of e.0) (file_meta e.1) (length e.1)

    out : (k : Bool) → eq_by_cmp bytes_cmp gone e.0 ≡ k → not k ≡ is_other gone new
    out k same =
        sym
        (ap (λ (n : Name). not (eq_by_cmp bytes_cmp gone n.0))
        (record_named (name_of e.0) (file_meta e.1) (length e.1))
        ∙ ap not same)

    go : (k : Bool) → eq_by_cmp bytes_cmp gone e.0 ≡ k
        → scan (remove es gone) ≡ filter (is_other gone) (scan es)
        → scan (cond (not k) (e ∷ remove es gone) (remove es gone)) ≡ filter (is_other gone)
        (cons_option (cond (fits e.0 e.1) (Some new) None) (scan es))
    go true same more =
        let all : Bool → List IndexRecord = λ f. cons_option (cond f (Some new) None) (scan es) in
        elim (fits e.0 e.1) as (λ f. scan (remove es gone) ≡ filter (is_other gone) (all f)) [
          | true ↦ more
              ∙ ap
              (λ b. cond b (new ∷ filter (is_other gone) (scan es)) (filter (is_other gone) (scan es)))
              (out true same)
          | false ↦ more
        ]
    go false same more =
        let all : Bool → List IndexRecord → List IndexRecord =
        λ f rs. cons_option (cond f (Some new) None) rs in
        elim (fits e.0 e.1) as (λ f. all f (scan (remove es gone)) ≡ filter (is_other gone) (all f (scan es))) [
          | true ↦ ap (λ ss. new ∷ ss) more
              ∙ ap
              (λ b. cond b (new ∷ filter (is_other gone) (scan es)) (filter (is_other gone) (scan es)))
              (out false same)
          | false ↦ more
        ]

abbrev stays : List Name → IndexRecord → Bool
stays names r = not (is_among r.name.0 names)

same_test : (a b : List ℕ) → eq_by_cmp bytes_cmp a b ≡ bytes_eq b a
same_test a b = is_eq-slice_cmp a b ∙ go (bytes_eq a b) refl
  where
    go : (t : Bool) → bytes_eq a b ≡ t → t ≡ bytes_eq b a
    go true same = sym ((bytes_eq-Decides b a).1 (sym (same_bytes a b same)))
    go false other =
        sym
        (false_from_ne_true (bytes_eq b a)
        (λ e. let same : bytes_eq a b ≡ true = (bytes_eq-Decides a b).1 (sym (same_bytes b a e)) in cc))

neither : (a b : Bool) → not (a || b) ≡ (not a && not b)
neither true b = refl
neither false b = refl

scan_without : (m : Machine) (names : List Name)
    → scan (all_doomed m names).shelf ≡ filter (stays names) (scan m.shelf)
scan_without m [] = filter_same (stays []) (scan m.shelf) (λ r. refl)
scan_without m (n ∷ names) =
    scan_without (doomed_under m n.0) names
    ∙ ap (filter (stays names)) (scan_removed m.shelf n.0)
    ∙ filter_twice (stays names) (is_other n.0) (stays (n ∷ names)) (scan m.shelf)
    (λ r. neither (bytes_eq r.name.0 n.0) (is_among r.name.0 names)
    ∙ ap (λ b. not b && not (is_among r.name.0 names)) (sym (same_test n.0 r.name.0)))

-- The records that go.

abbrev goes : List IndexRecord → IndexRecord → Bool
goes rs r = is_among r.name.0 (map (λ s. s.name) rs)

among_own : (rs : List IndexRecord) → AllByRecursion (λ r. goes rs r ≡ true) rs
among_own [] = tt
among_own (r ∷ rs) = (
  or_left (bytes_eq r.name.0 r.name.0) (goes rs r) ((bytes_eq-Decides r.name.0 r.name.0).1 refl),
  all_weaker (λ s. goes rs s ≡ true) (λ s. goes (r ∷ rs) s ≡ true) rs
      (λ s among. or_right (bytes_eq s.name.0 r.name.0) (goes rs s) among) (among_own rs),
)

-- what holds of records in order holds of them
unorder : (P : IndexRecord → Type 0) (rs : List IndexRecord) → AllByRecursion P (in_order rs)
    → AllByRecursion P rs
unorder P rs h =
    recursion_from_All P rs
    (All-permutation P (in_order rs) rs (IsPermutation-sym rs (in_order rs) (moved_in_order rs))
    (All-from_recursion P (in_order rs) h))

-- of records off which those were taken that may go, none may
none_left : (may out : IndexRecord → Bool) (rs : List IndexRecord)
    → AllByRecursion (λ r. out r ≡ true) (filter may rs)
    → AllByRecursion (λ r. may r ≡ false) (filter (λ r. not (out r)) rs)
none_left may out [] h = tt
none_left may out (r ∷ rs) h = go (may r) (out r) refl refl h (none_left may out rs)
  where
    go : (a b : Bool) → may r ≡ a → out r ≡ b
        → AllByRecursion (λ s. out s ≡ true) (cond a (r ∷ filter may rs) (filter may rs))
        → (AllByRecursion (λ s. out s ≡ true) (filter may rs)
        → AllByRecursion (λ s. may s ≡ false) (filter (λ s. not (out s)) rs))
        → AllByRecursion (λ s. may s ≡ false)
        (cond (not b) (r ∷ filter (λ s. not (out s)) rs) (filter (λ s. not (out s)) rs))
    go true true is goes h more = more h.1
    go true false is goes h more = absurd (let never = h.0 in cc)
    go false true is goes h more = more h
    go false false is goes h more = (is, more h)

no_rest : (xs ys : List IndexRecord) → length ys ≤ 0 → xs ++ ys ≡ xs
no_rest xs [] none = append-nil xs
no_rest xs (y ∷ ys) none = absurd (omega arith)

module _ (m : Machine) (kb : ℕ) where
  abbrev all_records : List IndexRecord
  all_records = scan m.shelf

  abbrev may : IndexRecord → Bool
  may = may_evict (open_names m)

  left_is : (first : List IndexRecord) → evicted m kb ≡ map (λ r. r.name) first
      → scan (effect m (Evict kb)).next.shelf ≡ filter (λ r. not (goes first r)) all_records
  unfolding effect
  left_is first named =
      scan_without (update_ended m) (evicted m kb)
      ∙ ap (λ names. filter (stays names) all_records) named

  meets : (first rest : List IndexRecord) → candidates all_records (open_names m) ≡ first ++ rest
      → (0 < length rest → total_kb all_records ≤ kb + total_kb first)
      → (total_kb (filter (λ r. not (goes first r)) all_records) ≤ kb) ⊎ AllByRecursion
      (λ r. may r ≡ false) (filter (λ r. not (goes first r)) all_records)
  meets first rest prefix enough = elim (cases_lt 0 (length rest)) [
    | inl some ↦ inl (
        let most = enough some in
        let parts = kb_split (goes first) all_records in
        let own = kb_all (goes first) first (among_own first) in
        let joined = kb_joined (goes first) first rest in
        let moved = kb_order (goes first) (filter may all_records) in
        let fewer = kb_fewer (goes first) may all_records in
        let same : kb_of (goes first) (candidates all_records (open_names m)) ≡ kb_of (goes first) (first ++ rest) =
        ap (kb_of (goes first)) prefix in
        omega (arith, most, parts, own, joined, moved, fewer, same))
    | inr none ↦ inr (
        let all : candidates all_records (open_names m) ≡ first = prefix ∙ no_rest first rest none in
        none_left may (goes first) all_records
        (unorder (λ r. goes first r ≡ true) (filter may all_records)
        (subst (AllByRecursion (λ r. goes first r ≡ true)) (sym all) (among_own first))))
  ]

pub evict_meets_limit : EvictMeetsLimit
unfolding checks evicted
evict_meets_limit m kb =
    let parts = split (total_kb (scan m.shelf)) kb (candidates (scan m.shelf) (open_names m)) in
    let left = left_is m kb parts.0 (ap (map (λ (r : IndexRecord). r.name)) parts.2.found) in
    subst
    (λ (rs : List IndexRecord).
    (total_kb rs ≤ kb) ⊎ AllByRecursion (λ r. may_evict (open_names m) r ≡ false) rs) (sym left)
    (meets m kb parts.0 parts.1 parts.2.joined parts.2.enough)
