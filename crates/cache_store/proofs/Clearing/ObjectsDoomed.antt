-- The objects that are undoomed after names were doomed are those of before, and there are as many.
use Rattle.std.proofs.Common.{◌≡◌, inl, inr, ℕ, ◌<◌, List, [], ◌∷◌, length, Option, None, Some, true, false, refl, sym, ap, ◌∙◌, arith, length-set}
use Rattle.std.specs.Prelude.{slice_get, slice_set, unwrap_or}
use Rattle.std.proofs.lemmas.Bool.{cases_eq}
use Rattle.std.proofs.lemmas.Option.{slice_get_within}
use Rattle.cache_base.specs.declared.name.Name.{Name}
use Rattle.cache_theory.specs.Machine.{Machine, Object, nobody}
use Rattle.cache_theory.specs.Step.{all_doomed, doomed_at, doomed_under}
use Rattle.cache_theory.specs.Table.{get}
use Rattle.cache_theory.proofs.ObjectLaws.Objects.{nth-set_other, nth-set_same, nth_is, nth_there}

-- the object of this number, doomed
abbrev doomed_one : List Object → ℕ → Object
doomed_one objects j = record (unwrap_or (slice_get objects j) nobody) { doomed = true }

one_before : (objects : List Object) (user : Option ℕ) (i : ℕ) (o : Object) → slice_get (doomed_at objects user) i ≡ Some o → o.doomed ≡ false → slice_get objects i ≡ Some o
one_before objects None i o at un = at
one_before objects (Some j) i o at un =
    let x : Object = doomed_one objects j in
    let within : i < length objects = let l = slice_get_within (slice_set objects j x) i o at in let e = length-set objects j x in omega (arith, l, e) in
    let is = nth_is (slice_set objects j x) i o at in
    elim (cases_eq i j) [
      | inl e ↦
          let same : x ≡ o = sym (nth-set_same objects j i x (omega (arith, within, e)) e) ∙ is in
          let doomed : true ≡ o.doomed = ap (λ (y : Object). y.doomed) same in
          absurd (let never : true ≡ false = doomed ∙ un in cc)
      | inr apart ↦ nth_there objects i within ∙ ap (λ y. Some y) (sym (nth-set_other objects j i x apart) ∙ is)
    ]

pub undoomed_before : (m : Machine) (names : List Name) (i : ℕ) (o : Object) → slice_get (all_doomed m names).objects i ≡ Some o → o.doomed ≡ false → slice_get m.objects i ≡ Some o
undoomed_before m [] i o at un = at
undoomed_before m (n ∷ names) i o at un =
    one_before m.objects (get m.in_use n.0) i o (undoomed_before (doomed_under m n.0) names i o at un) un

one_as_many : (objects : List Object) (user : Option ℕ) → length (doomed_at objects user) ≡ length objects
one_as_many objects None = refl
one_as_many objects (Some j) = length-set objects j (doomed_one objects j)

pub as_many : (m : Machine) (names : List Name) → length (all_doomed m names).objects ≡ length m.objects
as_many m [] = refl
as_many m (n ∷ names) = as_many (doomed_under m n.0) names ∙ one_as_many m.objects (get m.in_use n.0)
