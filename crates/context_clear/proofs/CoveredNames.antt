-- The names of the records that a clearing takes.
use Rattle.std.proofs.Common.{◌≡◌, ℕ, zero, suc, ◌+◌, ◌<◌, Bool, true, false, cond, List, [], ◌∷◌, ◌++◌, length, take, get_or, Option, Some, None, refl, sym, ap, subst, ◌∙◌, arith}
use Rattle.std.specs.Prelude.{IfOk, IfSome, Result, Ok, Err, filter}
use Rattle.std.specs.List.{Contains}
use Rattle.std.proofs.lemmas.List.{append-nil, length-map}
use Rattle.std.proofs.lemmas.List.Elements.{filter_more}
use Rattle.std.proofs.lemmas.List.Kept.{IsStrictlySortedBy-filter}
use Rattle.std.proofs.Math.ListN.{get_or-map}
use Rattle.cache_base.specs.Names.{name_cmp}
use Rattle.cache_base.specs.declared.items.NoMemory.{NoMemory}
use Rattle.cache_base.specs.declared.name.Name.{Name}
use Rattle.index_map.specs.Known.{IsKnown, Known}
use Rattle.index_record.specs.declared.record.IndexRecord.{IndexRecord}
use Rattle.record_list.specs.Lists.{IsByName, names_of, record_at, same_name}
use Rattle.record_list.proofs.NameLaws.{same_is}
use Rattle.record_list.proofs.SortedLaws.{by_name_keeps}
use Rattle.context_clear.specs.Covered.{AreCovered, covers_found, covers_name}

later : {X : Type 0} (y : X) (xs : List X) (x : X) → Contains xs x → Contains (y ∷ xs) x
later y xs x h = (suc h.0, omega (arith, h.1), h.2)

-- what passes a test in a list
module _ (p : Name → Bool) (x : Name) where
  picked_more : (y : Name) (xs : List Name) (b : Bool) → p y ≡ b → (Contains (filter p xs) x → Contains xs x × (p x ≡ true)) → Contains (cond b (y ∷ filter p xs) (filter p xs)) x → Contains (y ∷ xs) x × (p x ≡ true)
  picked_more y xs true e h (zero, lt, is) = ((0, omega arith, is), ap p (sym is) ∙ e)
  picked_more y xs true e h (suc k, lt, is) = let rest = h (k, omega (arith, lt), is) in (later y xs x rest.0, rest.1)
  picked_more y xs false e h has = let rest = h has in (later y xs x rest.0, rest.1)

  picked : (xs : List Name) → Contains (filter p xs) x → Contains xs x × (p x ≡ true)
  picked [] has = absurd (omega (arith, has.1))
  picked (y ∷ xs) has = picked_more y xs (p y) refl (picked xs) has

  kept_more : (y : Name) (xs : List Name) (b : Bool) → p y ≡ b → p x ≡ true → (Contains xs x → Contains (filter p xs) x) → Contains (y ∷ xs) x → Contains (cond b (y ∷ filter p xs) (filter p xs)) x
  kept_more y xs true e some h (zero, lt, is) = (0, omega arith, is)
  kept_more y xs true e some h (suc k, lt, is) = later y (filter p xs) x (h (k, omega (arith, lt), is))
  kept_more y xs false e some h (zero, lt, is) = let both : p y ≡ true = ap p is ∙ some in absurd (cc)
  kept_more y xs false e some h (suc k, lt, is) = h (k, omega (arith, lt), is)

  kept : (xs : List Name) → p x ≡ true → Contains xs x → Contains (filter p xs) x
  kept [] some has = absurd (omega (arith, has.1))
  kept (y ∷ xs) some has = kept_more y xs (p y) refl some (kept xs some) has

-- a name with a record is in the list
named : (rs : List IndexRecord) (name : Name) (r : IndexRecord) → record_at rs name ≡ Some r → Contains (names_of rs) name
named [] name r h = absurd (cc)
named (x ∷ rs) name r h = go (same_name x.name name) refl h (named rs name r)
  where
    go : (b : Bool) → same_name x.name name ≡ b → cond b (Some x) (record_at rs name) ≡ Some r → (record_at rs name ≡ Some r → Contains (names_of rs) name) → Contains (x.name ∷ names_of rs) name
    go true e h more = (0, omega arith, same_is x.name name e)
    go false e h more = later x.name (names_of rs) name (more h)

-- the names among all records, in name order, that pass the test are those of the seen records that are covered
pub all_covered : (m : Known) (origin : ℕ) (out : List IndexRecord) (names : List Name) → IsKnown m → IsByName m.records out → names ≡ filter (covers_name m origin) (names_of out) → AreCovered m origin names
all_covered m origin out names known by is =
    subst (AreCovered m origin) (sym is) (record {
      rising = IsStrictlySortedBy-filter name_cmp (covers_name m origin) (names_of out) by.rising;
      each = λ name. ((λ has. (picked (covers_name m origin) name (names_of out) has).1), (λ some. kept (covers_name m origin) name (names_of out) some (there name (record_at m.seen name) refl some)));
    })
  where
    there : (name : Name) (o : Option IndexRecord) → record_at m.seen name ≡ o → covers_found origin o ≡ true → Contains (names_of out) name
    there name None seen some = cc
    there name (Some r) seen some =
        let now : record_at m.records name ≡ Some r = subst (λ (o : Option IndexRecord). IfSome o (λ r. record_at m.records name ≡ Some r)) seen (known.seen name) in
        named out name r (by_name_keeps m.records out known.names by name ∙ now)

-- one record more was looked at
pub covered_more : (p : Name → Bool) (rs : List IndexRecord) (i : ℕ) (d : IndexRecord) (names : List Name) (b : Bool) → i < length rs → names ≡ filter p (take i (names_of rs)) → p (get_or rs i d).name ≡ b
    → names ++ cond b ((get_or rs i d).name ∷ []) [] ≡ filter p (take (i + 1) (names_of rs))
covered_more p rs i d names b lt before test =
    let here : get_or (names_of rs) i d.name ≡ (get_or rs i d).name = get_or-map (λ r. r.name) rs i d in
    let long : i < length (names_of rs) = subst (λ (n : ℕ). i < n) (sym (length-map rs (λ r. r.name))) lt in
    (λ k. before k ++ cond (sym test k) ((get_or rs i d).name ∷ []) [])
    ∙ ap (λ (n : Name). filter p (take i (names_of rs)) ++ cond (p n) (n ∷ []) []) (sym here)
    ∙ sym (filter_more p (names_of rs) i d.name long)

pub covered_one : (p : Name → Bool) (rs : List IndexRecord) (i : ℕ) (d : IndexRecord) (names now : List Name) → i < length rs → names ≡ filter p (take i (names_of rs)) → p (get_or rs i d).name ≡ true
    → now ≡ names ++ (get_or rs i d).name ∷ [] → now ≡ filter p (take (i + 1) (names_of rs))
covered_one p rs i d names now lt before test is = is ∙ covered_more p rs i d names true lt before test

pub covered_none : (p : Name → Bool) (rs : List IndexRecord) (i : ℕ) (d : IndexRecord) (names now : List Name) → i < length rs → names ≡ filter p (take i (names_of rs)) → p (get_or rs i d).name ≡ false
    → now ≡ names → now ≡ filter p (take (i + 1) (names_of rs))
covered_none p rs i d names now lt before test is = is ∙ sym (append-nil names) ∙ covered_more p rs i d names false lt before test

-- what is known of an answer that was done
pub covered_from : (m : Known) (origin : ℕ) (out : List IndexRecord) (answer : Result (List Name) NoMemory) → IsKnown m → IsByName m.records out
    → IfOk answer (λ names. names ≡ filter (covers_name m origin) (names_of out)) → IfOk answer (AreCovered m origin)
covered_from m origin out (Ok names) known by is = all_covered m origin out names known by is
covered_from m origin out (Err fault) known by is = tt
