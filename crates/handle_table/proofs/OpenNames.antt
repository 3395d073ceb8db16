-- The names of the undoomed objects in use, and of those that are being written, and the machine's.
use Rattle.std.proofs.Common.{◌≡◌, ℕ, ◌+◌, ◌<◌, List, [], ◌∷◌, ◌++◌, length, map, get_or, take, Bool, true, false, cond, ◌&&◌, Option, Some, None, Result, Ok, Err, IfOk, is_some, T, refl, sym, ap, subst, ◌∙◌}
use Rattle.std.specs.Prelude.{unwrap_or, ◌||◌}
use Rattle.std.specs.FinMap.{is_sorted}
use Rattle.std.specs.FinMap.Entries.{below_all}
use Rattle.std.specs.List.{AllByRecursion, list_any, position}
use Rattle.std.specs.List.Sorted.{IsStrictlySortedBy}
use Rattle.std.specs.Ordering.{eq_by_cmp, is_eq, is_lt}
use Rattle.std.specs.Str.{bytes_eq}
use Rattle.std.specs.declared.cmp.Ordering.TheVariants.{Less}
use Rattle.std.proofs.lemmas.Bool.{and_from}
use Rattle.std.proofs.lemmas.List.Folds.{Any-from_list_any, list_any-append, list_any_at, list_any_more}
use Rattle.std.proofs.lemmas.List.Quantifiers.{position-Some}
use Rattle.std.proofs.lemmas.Option.{slice_get-get_or, unwrap_or-slice_get}
use Rattle.cache_base.specs.Names.{AreSorted, has_name, name_cmp}
use Rattle.cache_base.specs.declared.name.Name.{Name}
use Rattle.cache_theory.specs.Machine.{Machine, open_names}
use Rattle.cache_theory.specs.Proper.{IsProper}
use Rattle.cache_theory.specs.Table.{IsTable, Table, bytes_cmp, get, keys, name_of}
use Rattle.cache_check.proofs.FoundExactly.{has_key}
use Rattle.cache_theory.proofs.TableLaws.{same_table}
use Rattle.record_list.proofs.NameLaws.{equal_same, same_back}
use Rattle.handle_table.specs.Finding.{is_user}
use Rattle.handle_table.specs.Kept.{Kept}
use Rattle.handle_table.specs.Standing.{HandlesStand}
use Rattle.handle_table.specs.Users.{AreOpenNames, counts, is_counted, users_at, users_of}
use Rattle.handle_table.specs.declared.object.Object.{Object}
use Rattle.handle_table.specs.declared.users.Asked.{Asked}
use Rattle.handle_table.specs.declared.users.Asked.TheVariants as asked
use Rattle.handle_table.proofs.User.{no_one, no_user_there, user_at, user_is_used, user_somewhere}

-- One object more in a list of names.

or_false : (b : Bool) → b ≡ (b || false)
or_false true = refl
or_false false = refl

module _ (which : Asked) (objects : List (Option Object)) (i : ℕ) (d : Option Object) (q : Name) (within : i < length objects) where
  with_next : (b : Bool) → is_counted which q (get_or objects i d) ≡ b
      → (list_any (is_counted which q) (take i objects) || b) ≡ list_any (is_counted which q) (take (i + 1) objects)
  with_next b is =
      ap (λ c. list_any (is_counted which q) (take i objects) || c) (sym is)
      ∙ sym (list_any_more (is_counted which q) objects i d within)

  -- one that does not count
  pub skipped : is_counted which q (get_or objects i d) ≡ false
      → list_any (is_counted which q) (take i objects) ≡ list_any (is_counted which q) (take (i + 1) objects)
  skipped is = or_false (list_any (is_counted which q) (take i objects)) ∙ with_next false is

  -- one that counts
  pub added : (names : List Name) (x : Object) → get_or objects i d ≡ Some x → counts which x ≡ true
      → has_name names q ≡ list_any (is_counted which q) (take i objects)
      → has_name (names ++ x.name ∷ []) q ≡ list_any (is_counted which q) (take (i + 1) objects)
  added names x at asked same =
      list_any-append (λ one. is_eq (name_cmp q one)) names (x.name ∷ [])
      ∙ (λ j. same j || sym (or_false (is_eq (name_cmp q x.name))) j)
      ∙ with_next (is_eq (name_cmp q x.name))
      (ap (is_counted which q) at ∙ ap (λ b. b && bytes_eq x.name.0 q.0) asked
      ∙ same_back x.name q ∙ sym (equal_same q x.name))

-- Rising names with the same members are the same: as tables that have nothing under their names.

nothings : List Name → Table (Unit {0})
nothings names = map (λ n. (n.0, tt)) names

same_nothing : (a b : Option (Unit {0})) → is_some a ≡ is_some b → a ≡ b
same_nothing None None is = refl
same_nothing (Some a) (Some b) is = refl
same_nothing None (Some b) is = absurd (cc)
same_nothing (Some a) None is = absurd (cc)

member_is : (names : List Name) (q : List ℕ) → is_some (get (nothings names) q) ≡ has_name names (name_of q)
unfolding nothings
member_is [] q = refl
member_is (n ∷ names) q =
    elim (eq_by_cmp bytes_cmp q n.0) as (λ b. is_some (cond b (Some tt) (get (nothings names) q)) ≡ (b || has_name names (name_of q))) [
      | true ↦ refl
      | false ↦ member_is names q
    ]

names_back : (names : List Name) → map name_of (keys (nothings names)) ≡ names
unfolding nothings
names_back [] = refl
names_back (n ∷ names) = ap (λ ns. n ∷ ns) (names_back names)

same_names : (a b : List Name) → IsTable (nothings a) → IsTable (nothings b)
    → ((q : List ℕ) → has_name a (name_of q) ≡ has_name b (name_of q)) → a ≡ b
same_names a b ra rb same =
    let tables : nothings a ≡ nothings b =
    same_table (nothings a) (nothings b) ra rb (λ q.
    same_nothing (get (nothings a) q) (get (nothings b) q) (member_is a q ∙ same q ∙ sym (member_is b q))) in
    sym (names_back a) ∙ ap (λ (t : Table (Unit {0})). map name_of (keys t)) tables ∙ names_back b

-- names that rise

below_is : (n : Name) (names : List Name) → AllByRecursion (λ y. name_cmp n y ≡ Less) names
    → below_all bytes_cmp n.0 (nothings names) ≡ true
unfolding nothings
below_is n [] h = refl
below_is n (y ∷ names) h =
    and_from (is_lt (name_cmp n y)) (below_all bytes_cmp n.0 (nothings names)) (ap is_lt h.0) (below_is n names h.1)

sorted_is : (names : List Name) → AreSorted names → is_sorted bytes_cmp (nothings names) ≡ true
unfolding nothings IsStrictlySortedBy
sorted_is [] h = refl
sorted_is (n ∷ names) h =
    and_from (below_all bytes_cmp n.0 (nothings names)) (is_sorted bytes_cmp (nothings names)) (below_is n names h.0)
    (sorted_is names h.1)

rising_table : (names : List Name) → AreSorted names → IsTable (nothings names)
rising_table names rising = record { rising = subst T (sym (sorted_is names rising)) tt }

-- and the names of a table

below_keys : {X : Type 0} (n : List ℕ) (t : Table X)
    → below_all bytes_cmp n (nothings (map name_of (keys t))) ≡ below_all bytes_cmp n t
unfolding nothings
below_keys n [] = refl
below_keys n (e ∷ es) = ap (λ b. is_lt (bytes_cmp n e.0) && b) (below_keys n es)

sorted_keys : {X : Type 0} (t : Table X)
    → is_sorted bytes_cmp (nothings (map name_of (keys t))) ≡ is_sorted bytes_cmp t
unfolding nothings
sorted_keys [] = refl
sorted_keys (e ∷ es) = λ i. below_keys e.0 es i && sorted_keys es i

keys_table : {X : Type 0} (t : Table X) → IsTable t → IsTable (nothings (map name_of (keys t)))
keys_table t is = record { rising = subst T (sym (sorted_keys t)) is.rising }

-- so names that rise and are those of a table are its names in their order
pub names_of_table : {X : Type 0} (t : Table X) → IsTable t → (names : List Name) → AreSorted names
    → ((q : Name) → has_name names q ≡ has_name (map name_of (keys t)) q) → names ≡ map name_of (keys t)
names_of_table t table names rising has =
    same_names names (map name_of (keys t)) (rising_table names rising) (keys_table t table) (λ q. has (name_of q))

-- Where all are asked for, users count.
user_counts : (q : Name) (o : Option Object) → is_counted asked.All q o ≡ is_user q o
user_counts q None = refl
user_counts q (Some x) = refl

users_count : (q : Name) (objects : List (Option Object))
    → list_any (is_counted asked.All q) objects ≡ list_any (is_user q) objects
users_count q objects = λ i. list_any (λ o. user_counts q o i) objects

-- A name has a user exactly where one is found.
user_or_none : (k : Kept) (q : Name) → list_any (is_user q) k.objects ≡ is_some (position (is_user q) k.objects)
user_or_none k q = go (list_any (is_user q) k.objects) refl (position (is_user q) k.objects) refl
  where
    go : (b : Bool) → list_any (is_user q) k.objects ≡ b → (o : Option ℕ) → position (is_user q) k.objects ≡ o → b ≡ is_some o
    go true any None none =
        let found = Any-from_list_any (is_user q) k.objects any in
        let at = unwrap_or-slice_get k.objects found.0 None in
        let there = ap (λ o. unwrap_or o None) (slice_get-get_or k.objects found.0 found.1 found.2) ∙ found.3 in
        absurd (user_somewhere k q found.0 (user_at k q found.0 found.1 found.2 there found.4) none)
    go true any (Some p) at = refl
    go false no_user None at = refl
    go false no_user (Some p) at =
        let here = position-Some (is_user q) k.objects p None at in
        let some = list_any_at (is_user q) k.objects p None here.0 here.1 in
        absurd (let never : true ≡ false = sym some ∙ no_user in cc)

-- a name that is not among these has no slot
not_among : (k : Kept) (names : List Name) → ((q : Name) → has_name names q ≡ list_any (is_user q) k.objects)
    → (q : Name) → has_name names q ≡ false → users_of k q ≡ 0
not_among k names has q lacks =
    ap (users_at k) (no_one (position (is_user q) k.objects) (sym (user_or_none k q) ∙ sym (has q) ∙ lacks))

module _ (k : Kept) (m : Machine) (number : ℕ → ℕ) (proper : IsProper m) (stand : HandlesStand k m number) where
  open_same : (q : Name) → list_any (is_user q) k.objects ≡ is_some (get m.in_use q.0)
  open_same q = user_or_none k q ∙ go (position (is_user q) k.objects) refl
    where
      go : (o : Option ℕ) → position (is_user q) k.objects ≡ o → is_some o ≡ is_some (get m.in_use q.0)
      go None none = ap is_some (sym (no_user_there k m number proper stand q none))
      go (Some p) at = ap is_some (sym (user_is_used k m number proper stand q p at))

  -- rising names of undoomed objects are the machine's
  open_is : (names : List Name) → AreSorted names → ((q : Name) → has_name names q ≡ list_any (is_user q) k.objects)
      → names ≡ open_names m
  open_is names rising has =
      names_of_table m.in_use proper.users names rising (λ q. has q ∙ open_same q ∙ sym (has_key m.in_use q))

-- The names of a set, listed in their order.
pub listed_has : {E : Type 0} (test : Name → Bool) (set : List Name) → ((q : Name) → has_name set q ≡ test q)
    → (r : Result (List Name) E) → IfOk r (λ names. names ≡ set)
    → IfOk r (λ names. (q : Name) → has_name names q ≡ test q)
listed_has test set has (Err e) is = tt
listed_has test set has (Ok names) is = λ q. ap (λ ns. has_name ns q) is ∙ has q

module _ {E : Type 0} (k : Kept) where
  pub listed_open : (r : Result (List Name) E)
      → IfOk r (λ names. (q : Name) → has_name names q ≡ list_any (is_counted asked.All q) k.objects)
      → IfOk r AreSorted → IfOk r (AreOpenNames k)
  listed_open (Err e) has rising = tt
  listed_open (Ok names) has rising = λ m number proper stand.
      open_is k m number proper stand names rising (λ q. has q ∙ users_count q k.objects)

  pub listed_unused : (r : Result (List Name) E)
      → IfOk r (λ names. (q : Name) → has_name names q ≡ list_any (is_counted asked.All q) k.objects)
      → IfOk r (λ names. (q : Name) → has_name names q ≡ false → users_of k q ≡ 0)
  listed_unused (Err e) has = tt
  listed_unused (Ok names) has = not_among k names (λ q. has q ∙ users_count q k.objects)
