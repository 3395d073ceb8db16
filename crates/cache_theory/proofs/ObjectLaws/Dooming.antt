-- What stands under a name is doomed.
use Rattle.std.proofs.Common.{◌≡◌, ◌≢◌, inl, inr, ℕ, ◌<◌, List, length, true, false, Option, Some, None, refl, sym, ap, subst, ◌∙◌, arith, length-set}
use Rattle.std.specs.Prelude.{slice_set}
use Rattle.std.proofs.lemmas.Bool.{cases_eq}
use Rattle.cache_theory.specs.Machine.{Machine, Object, object}
use Rattle.cache_theory.specs.Proper.{IsInUse, IsObject, IsProper, IsUser}
use Rattle.cache_theory.specs.Step.{doomed_at, doomed_under, without}
use Rattle.cache_theory.specs.Table.{get, remove}
use Rattle.cache_theory.proofs.Names.{get-remove_other, get-remove_same, get_removed}
use Rattle.cache_theory.proofs.ObjectLaws.Objects.{nth, nth-set_other, nth-set_same, object_at, objects_set}
use Rattle.cache_theory.proofs.TableLaws.{remove_is_table}
use Rattle.cache_theory.proofs.ObjectLaws.Users.{has_along, in_use_along, one_name_of, same_number, user_along}

-- the machine afterwards, with these objects
abbrev cleared : Machine → List ℕ → List Object → Machine
cleared m name objects = record m { shelf = remove m.shelf name; in_use = remove m.in_use name; objects = objects; rest = without name m.rest }

-- no object is in use there
module _ (m : Machine) (name : List ℕ) (proper : IsProper m) (none : get m.in_use name ≡ None) where
  bare : Machine
  bare = cleared m name m.objects

  proper_bare : IsProper (cleared m name m.objects)
  unfolding bare
  proper_bare = record {
    moment = proper.moment;
    shelf = remove_is_table m.shelf name proper.shelf;
    users = remove_is_table m.in_use name proper.users;
    contents = λ q c at. proper.contents q c (get_removed m.shelf name q c at).1;
    objects = proper.objects;
    slots = proper.slots;
    user = λ q j at. user_along m bare q j (in_use_along m bare j (omega arith) (λ h. h)) refl refl (proper.user q j (get_removed m.in_use name q j at).1);
    only_user = λ q j u.
        let old : get m.in_use q ≡ Some j = proper.only_user q j (user_along bare m q j (in_use_along bare m j (omega arith) (λ h. h)) refl refl u) in
        get-remove_other m.in_use name q (λ e. let gone = sym none ∙ ap (λ n. get m.in_use n) e ∙ old in cc) ∙ old;
    stored = λ q j at done. let old = get_removed m.in_use name q j at in has_along {x = object m j} {y = object m j} (sym (get-remove_other m.shelf name q old.0)) refl (proper.stored q j old.1 done);
    unstored = λ q j at un. let old = get_removed m.in_use name q j at in get-remove_other m.shelf name q old.0 ∙ proper.unstored q j old.1 un;
    writer = λ j u un. proper.writer j (in_use_along bare m j (omega arith) (λ h. h) u) un;
  }

-- an object is
module _ (m : Machine) (name : List ℕ) (i : ℕ) (proper : IsProper m) (at_name : get m.in_use name ≡ Some i) where
  doomed : Object
  doomed = record (object m i) { doomed = true }

  t : Machine
  unfolding doomed
  t = cleared m name (slice_set m.objects i doomed)

  within : i < length m.objects
  within = (proper.user name i at_name).in_use.number

  here : (j : ℕ) → j ≡ i → object t j ≡ record (object m i) { doomed = true }
  unfolding t doomed
  here j e = nth-set_same m.objects i j doomed within e

  there : (j : ℕ) → j ≢ i → object t j ≡ object m j
  unfolding t doomed
  there j apart = nth-set_other m.objects i j doomed apart

  finished_like : (j : ℕ) → (object t j).finished ≡ (object m j).finished
  finished_like j = elim (cases_eq j i) [
    | inl e ↦ ap (λ (x : Object). x.finished) (here j e) ∙ ap (λ k. (object m k).finished) (sym e)
    | inr apart ↦ ap (λ (x : Object). x.finished) (there j apart)
  ]

  use_on : (j : ℕ) → IsInUse m j → IsInUse t j
  unfolding t doomed
  use_on j u = in_use_along m t j (let l = length-set m.objects i doomed in omega (arith, l)) (λ h. h) u

  use_off : (j : ℕ) → IsInUse t j → IsInUse m j
  unfolding t doomed
  use_off j u = in_use_along t m j (let l = length-set m.objects i doomed in omega (arith, l)) (λ h. h) u

  -- who is in use under another name is another object
  other_user : (q : List ℕ) (j : ℕ) → name ≢ q → get m.in_use q ≡ Some j → j ≢ i
  other_user q j apart at e = apart (one_name_of m proper name q i at_name (at ∙ ap (λ k. Some k) e))

  is_object : IsObject (record (object m i) { doomed = true })
  is_object = let old = object_at m.objects proper.objects i within in record { draft = old.draft; version = old.version }

  user_kept : (q : List ℕ) (j : ℕ) → get (remove m.in_use name) q ≡ Some j → IsUser t q j
  user_kept q j at =
      let old = get_removed m.in_use name q j at in
      let same = there j (other_user q j old.0 old.1) in
      user_along m t q j (use_on j) (ap (λ (x : Object). x.doomed) same) (ap (λ (x : Object). x.version.key) same) (proper.user q j old.1)

  only_kept : (q : List ℕ) (j : ℕ) → IsUser t q j → get (remove m.in_use name) q ≡ Some j
  only_kept q j u = elim (cases_eq j i) [
    | inl e ↦ let never : true ≡ false = sym (ap (λ (x : Object). x.doomed) (here j e)) ∙ u.undoomed in absurd (cc)
    | inr apart ↦
        let same = there j apart in
        let was = user_along t m q j (use_off j) (sym (ap (λ (x : Object). x.doomed) same)) (sym (ap (λ (x : Object). x.version.key) same)) u in
        let old = proper.only_user q j was in
        get-remove_other m.in_use name q (λ e. apart (same_number j i (sym old ∙ ap (λ n. get m.in_use n) (sym e) ∙ at_name))) ∙ old
  ]

  proper_t : IsProper (cleared m name (slice_set m.objects i (record (object m i) { doomed = true })))
  unfolding t doomed
  proper_t = record {
    moment = proper.moment;
    shelf = remove_is_table m.shelf name proper.shelf;
    users = remove_is_table m.in_use name proper.users;
    contents = λ q c at. proper.contents q c (get_removed m.shelf name q c at).1;
    objects = objects_set m.objects i doomed within proper.objects is_object;
    slots = λ s slot at. let limits = proper.slots s slot at in let l = length-set m.objects i doomed in (limits.0, (let lt = limits.1 in omega (arith, lt, l)));
    user = user_kept;
    only_user = only_kept;
    stored = λ q j at done.
        let old = get_removed m.in_use name q j at in
        has_along (sym (get-remove_other m.shelf name q old.0)) (sym (there j (other_user q j old.0 old.1))) (proper.stored q j old.1 (sym (finished_like j) ∙ done));
    unstored = λ q j at un. let old = get_removed m.in_use name q j at in get-remove_other m.shelf name q old.0 ∙ proper.unstored q j old.1 (sym (finished_like j) ∙ un);
    writer = λ j u un. proper.writer j (use_off j u) (sym (finished_like j) ∙ un);
  }

pub proper_doomed_under : (m : Machine) (name : List ℕ) → IsProper m → IsProper (doomed_under m name)
proper_doomed_under m name proper = go (get m.in_use name) refl
  where
    go : (o : Option ℕ) → get m.in_use name ≡ o → IsProper (doomed_under m name)
    go None at = subst (λ o. IsProper (cleared m name (doomed_at m.objects o))) (sym at) (proper_bare m name proper at)
    go (Some i) at = subst (λ o. IsProper (cleared m name (doomed_at m.objects o))) (sym at) (proper_t m name i proper at)

-- afterwards nothing is in use under the name, and nothing on the shelf
pub unused_under : (m : Machine) (name : List ℕ) → get (doomed_under m name).in_use name ≡ None
unused_under m name = get-remove_same m.in_use name name refl

pub unshelved_under : (m : Machine) (name : List ℕ) → get (doomed_under m name).shelf name ≡ None
unshelved_under m name = get-remove_same m.shelf name name refl

-- The objects afterwards: the one that was in use is doomed, and the others are as they were.

pub doomed_here : (m : Machine) (name : List ℕ) (i : ℕ) → IsProper m → get m.in_use name ≡ Some i → object (doomed_under m name) i ≡ record (object m i) { doomed = true }
doomed_here m name i proper at =
    ap (λ o. nth (doomed_at m.objects o) i) at ∙ nth-set_same m.objects i i (record (object m i) { doomed = true }) (proper.user name i at).in_use.number refl

pub doomed_there : (m : Machine) (name : List ℕ) (j : ℕ) → get m.in_use name ≢ Some j → object (doomed_under m name) j ≡ object m j
doomed_there m name j apart = go (get m.in_use name) refl
  where
    go : (o : Option ℕ) → get m.in_use name ≡ o → object (doomed_under m name) j ≡ object m j
    go None at = ap (λ o. nth (doomed_at m.objects o) j) at
    go (Some i) at = ap (λ o. nth (doomed_at m.objects o) j) at ∙ nth-set_other m.objects i j (record (object m i) { doomed = true }) (λ e. apart (at ∙ ap (λ k. Some k) (sym e)))

pub doomed_length : (m : Machine) (name : List ℕ) → length (doomed_under m name).objects ≡ length m.objects
doomed_length m name = go (get m.in_use name)
  where
    go : (o : Option ℕ) → length (doomed_at m.objects o) ≡ length m.objects
    go None = refl
    go (Some i) = length-set m.objects i (record (object m i) { doomed = true })
