-- The records of an index and of its journal, in one list: no name stands twice, and each name has its record.
use Rattle.std.proofs.Common.{◌≡◌, List, [], ◌∷◌, ◌++◌, Bool, true, false, not, ◌||◌, cond, refl, sym, ap, subst, ◌∙◌}
use Rattle.std.specs.Prelude.{Option, None, Some, filter, is_some}
use Rattle.std.specs.Option.{option_or}
use Rattle.std.specs.List.{AllByRecursion, IsDistinct}
use Rattle.std.proofs.lemmas.List.Folds.{find-append}
use Rattle.cache_base.specs.Names.{has_name}
use Rattle.cache_base.specs.declared.name.Name.{Name}
use Rattle.index_record.specs.declared.record.IndexRecord.{IndexRecord}
use Rattle.index_record.specs.Record.{is_removed}
use Rattle.record_list.specs.Change.{applied, journal_or}
use Rattle.record_list.specs.Lists.{HasNames, names_of, record_at, same_name}
use Rattle.record_list.specs.Stored.{present}
use Rattle.record_list.proofs.NameLaws.{equal_same, found_same, same_back, same_is}
use Rattle.record_list.proofs.OrderLaws.{all_unlike}
use Rattle.record_list.proofs.ReadingLaws.{all_left, filter_distinct}
use Rattle.index_journal.specs.Merged.{merged}

-- the record under a name of a list with one more before it
at_front : (r : IndexRecord) (rs : List IndexRecord) (name : Name) (s : Bool) → same_name r.name name ≡ s → record_at (r ∷ rs) name ≡ cond s (Some r) (record_at rs name)
at_front r rs name s e = ap (λ b. cond b (Some r) (record_at rs name)) e

filter_step : (p : IndexRecord → Bool) (name : Name) (b : Bool) → ((r : IndexRecord) → same_name r.name name ≡ true → p r ≡ b)
    → (r : IndexRecord) (rs : List IndexRecord) → record_at (filter p rs) name ≡ cond b (record_at rs name) None
    → (s t : Bool) → same_name r.name name ≡ s → p r ≡ t
    → record_at (cond t (r ∷ filter p rs) (filter p rs)) name ≡ cond b (cond s (Some r) (record_at rs name)) None
filter_step p name b h r rs more true true es et = at_front r (filter p rs) name true es ∙ ap (λ c. cond c (Some r) None) (sym et ∙ h r es)
filter_step p name b h r rs more true false es et =
    let is : false ≡ b = sym et ∙ h r es in
    more ∙ ap (λ c. cond c (record_at rs name) None) (sym is) ∙ ap (λ c. cond c (Some r) None) is
filter_step p name b h r rs more false true es et = at_front r (filter p rs) name false es ∙ more
filter_step p name b h r rs more false false es et = more

none_or_none : (b : Bool) → ◌≡◌ {A = Option IndexRecord} None (cond b None None)
none_or_none true = refl
none_or_none false = refl

-- a test that answers alike for all records of a name keeps the record under this name, or leaves none
filter_at : (p : IndexRecord → Bool) (name : Name) (b : Bool) → ((r : IndexRecord) → same_name r.name name ≡ true → p r ≡ b)
    → (rs : List IndexRecord) → record_at (filter p rs) name ≡ cond b (record_at rs name) None
filter_at p name b h [] = none_or_none b
filter_at p name b h (r ∷ rs) = filter_step p name b h r rs (filter_at p name b h rs) (same_name r.name name) (p r) refl refl

none_at : (rs : List IndexRecord) (name : Name) → AllByRecursion (λ n. same_name name n ≡ false) (names_of rs) → record_at rs name ≡ None
none_at [] name h = refl
none_at (r ∷ rs) name h = at_front r rs name false (same_back r.name name ∙ h.0) ∙ none_at rs name h.1

present_step : (j : IndexRecord) (js : List IndexRecord) (name : Name) → AllByRecursion (λ n. same_name j.name n ≡ false) (names_of js)
    → record_at (present js) name ≡ journal_or (record_at js name) None
    → (s t : Bool) → same_name j.name name ≡ s → is_removed j ≡ t
    → record_at (cond (not t) (j ∷ present js) (present js)) name ≡ journal_or (cond s (Some j) (record_at js name)) None
present_step j js name apart more true true es et =
    let gone : record_at js name ≡ None = subst (λ n. record_at js n ≡ None) (same_is j.name name es) (none_at js j.name apart) in
    more ∙ ap (λ o. journal_or o None) gone ∙ sym (ap (λ b. cond b None (Some j)) et)
present_step j js name apart more true false es et = at_front j (present js) name true es ∙ sym (ap (λ b. cond b None (Some j)) et)
present_step j js name apart more false true es et = more
present_step j js name apart more false false es et = at_front j (present js) name false es ∙ more

-- what is not removed of a journal has a record under the names that it sets
present_at : (js : List IndexRecord) (name : Name) → HasNames js → record_at (present js) name ≡ journal_or (record_at js name) None
unfolding IsDistinct
present_at [] name h = refl
present_at (j ∷ js) name h = present_step j js name h.0 (present_at js name h.1) (same_name j.name name) (is_removed j) refl refl

or_some : (j : IndexRecord) (o : Option IndexRecord) (x s : Bool) → x ≡ is_some o → (s || x) ≡ is_some (cond s (Some j) o)
or_some j o x true e = refl
or_some j o x false e = e

-- a name is among those of a journal exactly where the journal has a record of it
among_is : (js : List IndexRecord) (name : Name) → has_name (names_of js) name ≡ is_some (record_at js name)
among_is [] name = refl
among_is (j ∷ js) name =
    ap (λ b. b || has_name (names_of js) name) (equal_same name j.name ∙ same_back name j.name)
    ∙ or_some j (record_at js name) (has_name (names_of js) name) (same_name j.name name) (among_is js name)

either_of : (o q : Option IndexRecord) → option_or (cond (not (is_some o)) q None) (journal_or o None) ≡ journal_or o q
either_of None None = refl
either_of None (Some r) = refl
either_of (Some j) q = refl

-- each name has its record in the list
pub merged_at : (rs js : List IndexRecord) → HasNames js → (name : Name) → record_at (merged rs js) name ≡ applied rs js name
merged_at rs js distinct name =
    let p : IndexRecord → Bool = λ r. not (has_name (names_of js) r.name) in
    let alike : (r : IndexRecord) → same_name r.name name ≡ true → p r ≡ not (is_some (record_at js name)) =
    λ r e. ap (λ n. not (has_name (names_of js) n)) (same_is r.name name e) ∙ ap not (among_is js name) in
    find-append (λ r. same_name r.name name) (filter p rs) (present js)
    ∙ (λ i. option_or (filter_at p name (not (is_some (record_at js name))) alike rs i) (present_at js name distinct i))
    ∙ either_of (record_at js name) (record_at rs name)

all_append : (P : Name → Type 0) (xs ys : List IndexRecord) → AllByRecursion P (names_of xs) → AllByRecursion P (names_of ys) → AllByRecursion P (names_of (xs ++ ys))
all_append P [] ys hx hy = hy
all_append P (x ∷ xs) ys hx hy = (hx.0, all_append P xs ys hx.1 hy)

distinct_append : (xs ys : List IndexRecord) → HasNames xs → HasNames ys → AllByRecursion (λ n. AllByRecursion (λ m. same_name n m ≡ false) (names_of ys)) (names_of xs)
    → HasNames (xs ++ ys)
unfolding IsDistinct
distinct_append [] ys hx hy apart = hy
distinct_append (x ∷ xs) ys hx hy apart = (all_append (λ m. same_name x.name m ≡ false) xs ys hx.0 apart.0, distinct_append xs ys hx.1 hy apart.1)

passed_step : (q : Name → Bool) (P : Name → Type 0) → ((n : Name) → q n ≡ true → P n) → (r : IndexRecord) (rs : List IndexRecord)
    → AllByRecursion P (names_of (filter (λ s. q s.name) rs)) → (b : Bool) → q r.name ≡ b
    → AllByRecursion P (names_of (cond b (r ∷ filter (λ s. q s.name) rs) (filter (λ s. q s.name) rs)))
passed_step q P h r rs more true e = (h r.name e, more)
passed_step q P h r rs more false e = more

-- what holds of the names that pass a test holds of the names of the records that pass it
passed : (q : Name → Bool) (P : Name → Type 0) → ((n : Name) → q n ≡ true → P n) → (rs : List IndexRecord) → AllByRecursion P (names_of (filter (λ r. q r.name) rs))
passed q P h [] = tt
passed q P h (r ∷ rs) = passed_step q P h r rs (passed q P h rs) (q r.name) refl

not_true : (b : Bool) → not b ≡ true → b ≡ false
not_true true h = absurd (cc)
not_true false h = refl

-- no name stands twice in the list
pub merged_distinct : (rs js : List IndexRecord) → HasNames rs → HasNames js → HasNames (merged rs js)
merged_distinct rs js hr hj =
    distinct_append (filter (λ r. not (has_name (names_of js) r.name)) rs) (present js)
    (filter_distinct (λ r. not (has_name (names_of js) r.name)) rs hr)
    (filter_distinct (λ r. not (is_removed r)) js hj)
    (passed (λ n. not (has_name (names_of js) n)) (λ n. AllByRecursion (λ m. same_name n m ≡ false) (names_of (present js)))
    (λ n e. all_left (λ m. same_name n m ≡ false) (λ r. not (is_removed r)) js (all_unlike n (names_of js) (sym (found_same n (names_of js)) ∙ not_true _ e))) rs)
