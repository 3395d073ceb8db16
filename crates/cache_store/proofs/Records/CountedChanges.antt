-- The names whose records differ are as many as the records of the difference.
use Rattle.std.proofs.Common.{◌≡◌, ◌∙◌, ◌+◌, Bool, true, false, cond, not, ◌&&◌, ◌||◌, List, [], ◌∷◌, length, filter, refl, sym, ap, arith}
use Rattle.std.specs.Cmp.{IsEquivalence}
use Rattle.std.specs.Cmp.Lexicographic.{nat_list_eq_equiv}
use Rattle.std.specs.List.{AllByRecursion, IsDistinct}
use Rattle.std.specs.Prelude.{None, Option, Some, count_by, is_none, is_some}
use Rattle.std.specs.Set.{is_member}
use Rattle.std.proofs.lemmas.Cmp.{on_equiv}
use Rattle.std.proofs.lemmas.List.{length-map}
use Rattle.std.proofs.lemmas.List.Filters.{length-filter_both}
use Rattle.std.proofs.lemmas.List.Sums.{length-filter}
use Rattle.std.proofs.lemmas.Map.Keys.{IsDistinct-cons, IsDistinct-head, IsDistinct-tail}
use Rattle.std.proofs.lemmas.Map.Made.{is_member-filter, length-from_same_keys}
use Rattle.std.proofs.lemmas.Slice.Eq.{bytes_eq-Decides}
use Rattle.cache_base.specs.declared.name.Name.{Name}
use Rattle.index_map.specs.Known.{changed}
use Rattle.index_record.specs.declared.record.IndexRecord.{IndexRecord}
use Rattle.record_list.specs.Change.{IsDiff, change, record_eq}
use Rattle.record_list.specs.Lists.{HasNames, names_of, record_at, same_name}
use Rattle.record_list.proofs.NameLaws.{rising_distinct}

same_equiv : IsEquivalence same_name
same_equiv = on_equiv (λ (n : Name). n.0) nat_list_eq_equiv

-- a test answers alike at the same name
alike : (test : Name → Bool) (a b : Name) → same_name a b ≡ true → test a ≡ test b
alike test a b e = ap test (λ i. record { 0 = (bytes_eq-Decides a.0 b.0).0 e i })

-- ---- the names of records

-- a list has a name where it has a record under it
named : (rs : List IndexRecord) (q : Name) → is_member same_name (names_of rs) q ≡ is_some (record_at rs q)
named [] q = refl
named (x ∷ rs) q =
    ap (λ b. b || is_member same_name (names_of rs) q) (same_equiv.symm q x.name)
    ∙ ap (λ b. same_name x.name q || b) (named rs q)
    ∙ go (same_name x.name q) (record_at rs q)
  where
    go : (b : Bool) (o : Option IndexRecord) → (b || is_some o) ≡ is_some (cond b (Some x) o)
    go true o = refl
    go false o = refl

-- each of these is the record under its name
abbrev AreFoundIn : List IndexRecord → List IndexRecord → Type 0
AreFoundIn all rs = AllByRecursion (λ r. record_at all r.name ≡ Some r) rs

found_later : (x : IndexRecord) (all rs : List IndexRecord) → AllByRecursion (λ n. same_name x.name n ≡ false) (names_of rs) → AreFoundIn all rs → AreFoundIn (x ∷ all) rs
found_later x all [] apart found = tt
found_later x all (r ∷ rs) apart found = (ap (λ b. cond b (Some x) (record_at all r.name)) apart.0 ∙ found.0, found_later x all rs apart.1 found.1)

are_found : (rs : List IndexRecord) → HasNames rs → AreFoundIn rs rs
are_found [] names = tt
are_found (x ∷ rs) names = (
  ap (λ b. cond b (Some x) (record_at rs x.name)) (same_equiv.refl x.name),
  found_later x rs rs (IsDistinct-head same_name x.name (names_of rs) names) (are_found rs (IsDistinct-tail same_name x.name (names_of rs) names)),
)

-- ---- the names that pass a test

module _ (test : Name → Bool) where
  filtered : (p : IndexRecord → Bool) (rs : List IndexRecord) → AllByRecursion (λ r. p r ≡ test r.name) rs → length (filter p rs) ≡ length (filter test (names_of rs))
  filtered p [] same = refl
  filtered p (r ∷ rs) same = ap (λ b. length (cond b (r ∷ filter p rs) (filter p rs))) same.0 ∙ go (test r.name) (filtered p rs same.1)
    where
      go : (b : Bool) → length (filter p rs) ≡ length (filter test (names_of rs))
          → length (cond b (r ∷ filter p rs) (filter p rs)) ≡ length (cond b (r.name ∷ filter test (names_of rs)) (filter test (names_of rs)))
      go true h = omega (arith, h)
      go false h = h

  -- records are counted by their names
  counted : (p : IndexRecord → Bool) (rs : List IndexRecord) → AllByRecursion (λ r. p r ≡ test r.name) rs → count_by p rs ≡ length (filter test (names_of rs))
  counted p rs same = sym (length-filter p rs) ∙ filtered p rs same

  still_apart : (name : Name) (names : List Name) → AllByRecursion (λ n. same_name name n ≡ false) names → AllByRecursion (λ n. same_name name n ≡ false) (filter test names)
  still_apart name [] apart = tt
  still_apart name (n ∷ names) apart = go (test n) (still_apart name names apart.1)
    where
      go : (b : Bool) → AllByRecursion (λ n. same_name name n ≡ false) (filter test names)
          → AllByRecursion (λ n. same_name name n ≡ false) (cond b (n ∷ filter test names) (filter test names))
      go true h = (apart.0, h)
      go false h = h

  -- no name stands twice among them
  still_distinct : (names : List Name) → IsDistinct same_name names → IsDistinct same_name (filter test names)
  still_distinct [] distinct = distinct
  still_distinct (n ∷ names) distinct = go (test n) (still_distinct names (IsDistinct-tail same_name n names distinct))
    where
      go : (b : Bool) → IsDistinct same_name (filter test names) → IsDistinct same_name (cond b (n ∷ filter test names) (filter test names))
      go true h = IsDistinct-cons same_name n (filter test names) (still_apart n names (IsDistinct-head same_name n names distinct)) h
      go false h = h

-- two lists have equally many names that pass, where the same names do
as_many : (rs js : List IndexRecord) (test other : Name → Bool) → HasNames rs → HasNames js
    → ((q : Name) → (is_some (record_at rs q) && test q) ≡ (is_some (record_at js q) && other q))
    → length (filter test (names_of rs)) ≡ length (filter other (names_of js))
as_many rs js test other names distinct same =
    length-from_same_keys same_equiv (filter test (names_of rs)) (filter other (names_of js))
    (still_distinct test (names_of rs) names)
    (still_distinct other (names_of js) distinct)
    (λ q.
    is_member-filter same_equiv test q (alike test q) (names_of rs)
    ∙ ap (λ b. b && test q) (named rs q)
    ∙ same q
    ∙ sym (ap (λ b. b && other q) (named js q))
    ∙ sym (is_member-filter same_equiv other q (alike other q) (names_of js)))

-- ---- the names whose record changed

and_false : (b : Bool) → (b && false) ≡ false
and_false true = refl
and_false false = refl

none_is_not_some : (o : Option IndexRecord) → is_none o ≡ not (is_some o)
none_is_not_some None = refl
none_is_not_some (Some r) = refl

-- of a record now, that it changed is what the difference says
said_now : (name : Name) (old new : Option IndexRecord) → (is_some new && is_some (change name old new)) ≡ (is_some (change name old new) && is_some new)
said_now name None None = refl
said_now name (Some r) None = refl
said_now name None (Some s) = refl
said_now name (Some r) (Some s) = go (record_eq r s)
  where
    go : (b : Bool) → (true && is_some (cond b None (Some s))) ≡ (is_some (cond b None (Some s)) && true)
    go true = refl
    go false = refl

-- of a record that is gone the difference says so
said_gone : (name : Name) (old new : Option IndexRecord) → (is_some old && is_none new) ≡ (is_some (change name old new) && is_none new)
said_gone name None None = refl
said_gone name (Some r) None = refl
said_gone name None (Some s) = refl
said_gone name (Some r) (Some s) = sym (and_false (is_some (change name (Some r) (Some s))))

module _ (base now diff : List IndexRecord) (base_names : HasNames base) (names : HasNames now) (is : IsDiff base now diff) where
  abbrev is_changed : Name → Bool
  is_changed name = is_some (change name (record_at base name) (record_at now name))

  abbrev is_kept : Name → Bool
  is_kept name = is_some (record_at now name)

  abbrev is_gone : Name → Bool
  is_gone name = is_none (record_at now name)

  diff_names : HasNames diff
  diff_names = rising_distinct (names_of diff) is.rising

  tested : (rs : List IndexRecord) → AreFoundIn now rs → AllByRecursion (λ r. is_some (change r.name (record_at base r.name) (Some r)) ≡ is_changed r.name) rs
  tested [] found = tt
  tested (r ∷ rs) found = (ap (λ o. is_some (change r.name (record_at base r.name) o)) (sym found.0), tested rs found.1)

  tested_gone : (rs : List IndexRecord) → AllByRecursion (λ b. is_none (record_at now b.name) ≡ is_gone b.name) rs
  tested_gone [] = tt
  tested_gone (b ∷ rs) = (refl, tested_gone rs)

  -- the names in the difference that have a record now
  now_counted : count_by (λ r. is_some (change r.name (record_at base r.name) (Some r))) now ≡ length (filter is_kept (names_of diff))
  now_counted =
      counted is_changed (λ r. is_some (change r.name (record_at base r.name) (Some r))) now (tested now (are_found now names))
      ∙ as_many now diff is_changed is_kept names diff_names
      (λ q. said_now q (record_at base q) (record_at now q) ∙ ap (λ o. is_some o && is_kept q) (sym (is.same q)))

  -- and those that have none
  gone_counted : count_by (λ b. is_none (record_at now b.name)) base ≡ length (filter is_gone (names_of diff))
  gone_counted =
      counted is_gone (λ b. is_none (record_at now b.name)) base (tested_gone base)
      ∙ as_many base diff is_gone is_gone base_names diff_names
      (λ q. said_gone q (record_at base q) (record_at now q) ∙ ap (λ o. is_some o && is_gone q) (sym (is.same q)))

  pub changed_is_diff : changed base now ≡ length diff
  changed_is_diff =
      (λ i. now_counted i + gone_counted i)
      ∙ length-filter_both is_kept is_gone (λ name. none_is_not_some (record_at now name)) (names_of diff)
      ∙ length-map diff (λ r. r.name)
