-- An object in use is changed.
use Rattle.std.proofs.Common.{◌≡◌, ◌≢◌, inl, inr, ℕ, ◌<◌, List, length, Bool, true, false, not, ◌&&◌, Some, None, refl, sym, ap, subst, ◌∙◌, arith, length-set}
use Rattle.std.specs.Prelude.{IsSomeAnd, if◌then◌else◌, slice_set, option_map, unwrap_or}
use Rattle.std.proofs.lemmas.Bool.{and_parts, cases_Bool, cases_eq, not-true}
use Rattle.cache_base.specs.Bytes.{AreBytes}
use Rattle.cache_theory.specs.Machine.{Machine, Object, Slot, number_of, object, object_of}
use Rattle.cache_theory.specs.Proper.{IsInUse, IsObject, IsProper, IsUser}
use Rattle.cache_theory.specs.Step.{stored, without}
use Rattle.cache_theory.specs.Table.{IsTable, Table, get, insert}
use Rattle.cache_theory.proofs.CrashImages.FileBytes.{bytes_file}
use Rattle.cache_theory.proofs.Names.{get-insert_other, get-insert_same, one_name}
use Rattle.cache_theory.proofs.ObjectLaws.Objects.{nth-set_other, nth-set_same, objects_set}
use Rattle.cache_theory.proofs.TableLaws.{insert_is_table}
use Rattle.cache_theory.proofs.ObjectLaws.Users.{has_along, in_use_along, one_name_of, same_number, user_along}
use Rattle.entry_file.specs.Version.{IsFileOf, file_of}
use Rattle.entry_file.proofs.EntryLaws.{is_file_of}
use Rattle.entry_name.specs.EntryName.{file_name}

-- the machine with another object of this number, and another shelf
abbrev set_object : Machine → ℕ → Object → Table (List ℕ) → List (List ℕ) → Machine
set_object m i o shelf rest = record m { objects = slice_set m.objects i o; shelf = shelf; rest = rest }

-- the object o may take the place of one in use
pub record MayStand (m : Machine) (i : ℕ) (o : Object) : Type 0 where
  pub in_use : IsInUse m i
  pub is : IsObject o
  pub key : o.version.key ≡ (object m i).version.key
  pub doomed : o.doomed ≡ (object m i).doomed
  pub unfinished : o.finished ≡ false → (object m i).finished ≡ false

-- what the shelf has afterwards
record ShelfStands (m : Machine) (i : ℕ) (o : Object) (shelf : Table (List ℕ)) : Type 0 where
  table : IsTable shelf
  contents : (name c : List ℕ) → get shelf name ≡ Some c → AreBytes c
  others : (name : List ℕ) (j : ℕ) → get m.in_use name ≡ Some j → j ≢ i → get shelf name ≡ get m.shelf name
  stored : (name : List ℕ) → get m.in_use name ≡ Some i → o.finished ≡ true → IsSomeAnd (get shelf name) (IsFileOf o.version)
  unstored : (name : List ℕ) → get m.in_use name ≡ Some i → o.finished ≡ false → get shelf name ≡ None

module _ (m : Machine) (i : ℕ) (o : Object) (proper : IsProper m) (may : MayStand m i o) where
  within : i < length m.objects
  within = may.in_use.number

  pub stored_here : (j : ℕ) → j ≡ i → object (stored m i o) j ≡ o
  stored_here j e = nth-set_same m.objects i j o within e

  pub stored_there : (j : ℕ) → j ≢ i → object (stored m i o) j ≡ object m j
  stored_there j apart = nth-set_other m.objects i j o apart

  -- what is the same of both is so of each object
  pub stored_like : {X : Type 0} (f : Object → X) → f o ≡ f (object m i) → (j : ℕ) → f (object (stored m i o) j) ≡ f (object m j)
  stored_like f same j = elim (cases_eq j i) [
    | inl e ↦ ap f (stored_here j e) ∙ same ∙ ap (λ k. f (object m k)) (sym e)
    | inr apart ↦ ap f (stored_there j apart)
  ]

  module _ (shelf : Table (List ℕ)) (rest : List (List ℕ)) (stands : ShelfStands m i o shelf) where
    t : Machine
    t = set_object m i o shelf rest

    use_on : (j : ℕ) → IsInUse m j → IsInUse t j
    unfolding t
    use_on j u = in_use_along m t j (let l = length-set m.objects i o in omega (arith, l)) (λ h. h) u

    use_off : (j : ℕ) → IsInUse t j → IsInUse m j
    unfolding t
    use_off j u = in_use_along t m j (let l = length-set m.objects i o in omega (arith, l)) (λ h. h) u

    user_on : (name : List ℕ) (j : ℕ) → IsUser m name j → IsUser t name j
    unfolding t
    user_on name j u = user_along m t name j (use_on j) (stored_like (λ x. x.doomed) may.doomed j) (stored_like (λ x. x.version.key) may.key j) u

    user_off : (name : List ℕ) (j : ℕ) → IsUser t name j → IsUser m name j
    unfolding t
    user_off name j u = user_along t m name j (use_off j) (sym (stored_like (λ x. x.doomed) may.doomed j)) (sym (stored_like (λ x. x.version.key) may.key j)) u

    proper_set : IsProper (set_object m i o shelf rest)
    unfolding t
    proper_set = record {
      moment = proper.moment;
      shelf = stands.table;
      users = proper.users;
      contents = stands.contents;
      objects = objects_set m.objects i o within proper.objects may.is;
      slots = λ s slot at. let limits = proper.slots s slot at in let l = length-set m.objects i o in (limits.0, (let lt = limits.1 in omega (arith, lt, l)));
      user = λ name j at. user_on name j (proper.user name j at);
      only_user = λ name j u. proper.only_user name j (user_off name j u);
      stored = λ name j at done. elim (cases_eq j i) [
        | inl e ↦
            let at_i : get m.in_use name ≡ Some i = at ∙ ap (λ k. Some k) e in
            has_along refl (sym (stored_here j e)) (stands.stored name at_i (sym (ap (λ (x : Object). x.finished) (stored_here j e)) ∙ done))
        | inr apart ↦ has_along (sym (stands.others name j at apart)) (sym (stored_there j apart)) (proper.stored name j at (sym (ap (λ (x : Object). x.finished) (stored_there j apart)) ∙ done))
      ];
      unstored = λ name j at un. elim (cases_eq j i) [
        | inl e ↦ stands.unstored name (at ∙ ap (λ k. Some k) e) (sym (ap (λ (x : Object). x.finished) (stored_here j e)) ∙ un)
        | inr apart ↦ stands.others name j at apart ∙ proper.unstored name j at (sym (ap (λ (x : Object). x.finished) (stored_there j apart)) ∙ un)
      ];
      writer = λ j u un. elim (cases_eq j i) [
        | inl e ↦ proper.writer j (use_off j u) (ap (λ k. (object m k).finished) e ∙ may.unfinished (sym (ap (λ (x : Object). x.finished) (stored_here j e)) ∙ un))
        | inr apart ↦ proper.writer j (use_off j u) (sym (ap (λ (x : Object). x.finished) (stored_there j apart)) ∙ un)
      ];
    }

  -- one that has no file on the shelf
  kept_shelf : (o.finished && not o.doomed) ≡ false → ShelfStands m i o m.shelf
  kept_shelf no_file = record {
    table = proper.shelf;
    contents = proper.contents;
    others = λ name j at apart. refl;
    stored = λ name at done.
        let undoomed : o.doomed ≡ false = may.doomed ∙ (proper.user name i at).undoomed in
        let both : (o.finished && not o.doomed) ≡ true = λ k. done k && not (undoomed k) in
        absurd (cc);
    unstored = λ name at un. proper.unstored name i at (may.unfinished un);
  }

  -- an undoomed one is in use under its name
  pub stored_user : o.doomed ≡ false → get m.in_use (file_name o.version.key) ≡ Some i
  stored_user undoomed = proper.only_user (file_name o.version.key) i (record { in_use = may.in_use; undoomed = sym may.doomed ∙ undoomed; named = ap file_name (sym may.key) })

  -- one that has its file there
  module _ (done : o.finished ≡ true) (undoomed : o.doomed ≡ false) where
    new_shelf : ShelfStands m i o (insert m.shelf (file_name o.version.key) (file_of o.version))
    new_shelf =
        let name : List ℕ = file_name o.version.key in
        record {
          table = insert_is_table m.shelf name (file_of o.version) proper.shelf;
          contents = λ q c at. elim (one_name q name) [
            | inl e ↦
                let same : Some (file_of o.version) ≡ Some c = sym (get-insert_same m.shelf name (file_of o.version) q e) ∙ at in
                let file : file_of o.version ≡ c = cc in
                subst AreBytes file (bytes_file o.version (may.is.version done))
            | inr apart ↦ proper.contents q c (sym (get-insert_other m.shelf name (file_of o.version) q apart) ∙ at)
          ];
          others = λ q j at apart. get-insert_other m.shelf name (file_of o.version) q (λ e. apart (same_number j i (sym at ∙ ap (λ n. get m.in_use n) e ∙ (stored_user undoomed))));
          stored = λ q at finished.
              subst (λ c. IsSomeAnd c (IsFileOf o.version)) (sym (get-insert_same m.shelf name (file_of o.version) q (one_name_of m proper q name i at (stored_user undoomed)))) (is_file_of o.version);
          unstored = λ q at un. absurd (cc);
        }

  pub proper_stored : IsProper (stored m i o)
  proper_stored = elim (cases_Bool (o.finished && not o.doomed)) [
    | inl file ↦
        let parts = and_parts o.finished (not o.doomed) file in
        let name : List ℕ = file_name o.version.key in
        let goes : set_object m i o (insert m.shelf name (file_of o.version)) (without name m.rest) ≡ stored m i o =
        ap (λ (b : Bool). set_object m i o (if b then insert m.shelf name (file_of o.version) else m.shelf) (if b then without name m.rest else m.rest)) (sym file) in
        subst IsProper goes (proper_set (insert m.shelf name (file_of o.version)) (without name m.rest) (new_shelf parts.0 (not-true o.doomed parts.1)))
    | inr none ↦
        let name : List ℕ = file_name o.version.key in
        let goes : set_object m i o m.shelf m.rest ≡ stored m i o =
        ap (λ (b : Bool). set_object m i o (if b then insert m.shelf name (file_of o.version) else m.shelf) (if b then without name m.rest else m.rest)) (sym none) in
        subst IsProper goes (proper_set m.shelf m.rest (kept_shelf none))
  ]

-- the slots have the same objects
pub number_stored : (m : Machine) (i : ℕ) (o : Object) (s : ℕ) → number_of (stored m i o) s ≡ number_of m s
number_stored m i o s = ap (λ n. unwrap_or (option_map (λ (slot : Slot). slot.object) (m.slots s)) n) (length-set m.objects i o)

pub object_of_stored : (m : Machine) (s : ℕ) (o : Object) → number_of m s < length m.objects → object_of (stored m (number_of m s) o) s ≡ o
object_of_stored m s o within = nth-set_same m.objects (number_of m s) (number_of (stored m (number_of m s) o) s) o within (number_stored m (number_of m s) o s)
