-- The number of a file that is new among the doomed.
use Rattle.std.proofs.Common.{◌≡◌, ◌≢◌, ◌⊎◌, inl, inr, ℕ, zero, suc, ◌<◌, ◌==◌, List, [], ◌∷◌, length, take, Bool, true, false, Option, Some, None, IsSome, Result, Ok, Err, refl, sym, ap, subst, ◌∙◌, arith}
use Rattle.std.specs.List.{Contains, cons_option}
use Rattle.std.specs.Prelude.{if◌then◌else◌, slice_get, unwrap_or}
use Rattle.std.proofs.lemmas.Bool.{cases_eq, eqb-true}
use Rattle.std.proofs.lemmas.List.{length-take}
use Rattle.std.proofs.lemmas.List.Elements.{Contains-append_cases}
use Rattle.cache_base.specs.declared.limits.TheConstants.{SLOTS}
use Rattle.cache_base.specs.declared.name.Name.{Name}
use Rattle.cache_theory.specs.Machine.{object}
use Rattle.cache_theory.proofs.EntryFiles.{file_there}
use Rattle.disk_theory.specs.Calls.{if_done}
use Rattle.disk_theory.specs.declared.disk.DiskFault.{DiskFault}
use Rattle.disk_theory.specs.declared.disk.DiskFault.TheVariants.{Failed, Memory}
use Rattle.disk_theory.specs.declared.place.Place.TheVariants.{Doomed, Entry}
use Rattle.disk_theory.specs.Sound.{IsSound}
use Rattle.disk_theory.specs.Standing.{PutsContent}
use Rattle.disk_theory.specs.State.{State, content_of, created, empty_file, names_now, renamed, standing}
use Rattle.disk_theory.proofs.Standing.{added_puts}
use Rattle.doom_area.specs.DoomArea.{IsLeastFree}
use Rattle.doom_area.proofs.LeastFree.{long_enough}
use Rattle.file_handles.specs.Cache.{cache_at}
use Rattle.handle_table.specs.Aside.{number_in, numbers_in}
use Rattle.file_handles.specs.Dooming.{IsFirstFree, SetsAside, TakesFirstFree}
use Rattle.handle_table.specs.Held.{place_of}
use Rattle.handle_table.specs.Kept.{Kept, object_at}
use Rattle.file_handles.specs.Stands.{RepresentsSome}
use Rattle.handle_table.specs.declared.object.Object.{Object}
use Rattle.file_handles.proofs.Dooming.AsidePlaces.{one_doomed}
use Rattle.file_handles.proofs.Dooming.DoomedUser.{least_free}
use Rattle.file_handles.proofs.Places.{file_stands}

-- each of the numbers is that of an object whose file stands aside
one_of : (n d : ℕ) → Contains (n ∷ []) d → n ≡ d
one_of n d (zero, lt, is) = is
one_of n d (suc i, lt, is) = absurd (omega (arith, lt))

first_or_more : (o : Option ℕ) (rest : List ℕ) (d : ℕ) → Contains (cons_option o rest) d → (o ≡ Some d) ⊎ Contains rest d
first_or_more None rest d has = inr has
first_or_more (Some n) rest d has = elim (Contains-append_cases (n ∷ []) rest d has) [
  | inl here ↦ inl (ap (λ k. Some k) (one_of n d here))
  | inr there ↦ inr there
]

doomed_in : (objects : List (Option Object)) (d : ℕ) → Contains (numbers_in objects) d → (p : ℕ) × (number_in (unwrap_or (slice_get objects p) None) ≡ Some d)
doomed_in [] d (i, lt, is) = absurd (omega (arith, lt))
doomed_in (x ∷ xs) d has = elim (first_or_more (number_in x) (numbers_in xs) d has) [
  | inl here ↦ (0, here)
  | inr there ↦ let rest = doomed_in xs d there in (suc rest.0, rest.1)
]

-- so its file stands
doomed_stands : (s : State) (k : Kept) (d : ℕ) → RepresentsSome (cache_at k s) → Contains (numbers_in k.objects) d → IsSome (standing s (Doomed d))
doomed_stands s k d (m, (number, stands)) has = let at = doomed_in k.objects d has in go at.0 (object_at k at.0) refl at.1
  where
    go : (p : ℕ) (o : Option Object) → object_at k p ≡ o → number_in o ≡ Some d → IsSome (standing s (Doomed d))
    go p None at is = absurd (cc)
    go p (Some x) at is =
        subst (λ (o : Option (List ℕ)). IsSome o) (ap (λ n. standing s (place_of x.name n)) is) (file_there (object m (number p)) _ (file_stands s k m number stands p x at))

-- a prefix of an array has no more numbers than it was cut to
pub few_numbers : (count : ℕ) (xs ys : List ℕ) → take count xs ≡ ys → count < SLOTS → length ys < SLOTS
few_numbers count xs ys is few = let same = ap length is in let le = length-take count xs in omega (arith, few, same, le)

none_some : {T X : Type 0} (o : Option X) → o ≡ None → IsSome o → T
none_some None none some = absurd (cc)
none_some (Some x) none some = absurd (cc)

-- where nothing changes among the doomed
pub takes_none : (s t : State) → ((number : ℕ) → standing t (Doomed number) ≡ standing s (Doomed number)) → TakesFirstFree s t
takes_none s t same number none some = none_some (standing t (Doomed number)) (same number ∙ none) some

-- and where a new file takes the least number that no object has, after another change
pub takes_created : (s t : State) (k : Kept) (n : ℕ) → IsSound t → RepresentsSome (cache_at k t) → IsLeastFree (numbers_in k.objects) n → length (numbers_in k.objects) < SLOTS → TakesFirstFree s t
    → TakesFirstFree s (created (Doomed n) t)
takes_created s t k n sound somehow free few before number none some = elim (cases_eq number n) [
  | inl e ↦ (λ lesser lt. still lesser (doomed_stands t k lesser somehow (free.lesser lesser (omega (arith, lt, e)))), (let le = long_enough (numbers_in k.objects) n free.lesser in omega (arith, le, few, e)))
  | inr apart ↦
      let first = before number none (subst (λ (o : Option (List ℕ)). IsSome o) (there number apart) some) in
      (λ lesser lt. still lesser (first.0 lesser lt), first.1)
]
  where
    puts : PutsContent (Doomed n) (Some []) t (created (Doomed n) t)
    puts = added_puts (Doomed n) empty_file t sound

    there : (d : ℕ) → d ≢ n → standing (created (Doomed n) t) (Doomed d) ≡ standing t (Doomed d)
    there d apart = puts.others (Doomed d) (λ same. apart (one_doomed d n same))

    still : (d : ℕ) → IsSome (standing t (Doomed d)) → IsSome (standing (created (Doomed n) t) (Doomed d))
    still d some = elim (cases_eq d n) [
      | inl e ↦ subst (λ (o : Option (List ℕ)). IsSome o) (sym (ap (λ c. standing (created (Doomed n) t) (Doomed c)) e ∙ puts.here)) refl
      | inr apart ↦ subst (λ (o : Option (List ℕ)). IsSome o) (sym (there d apart)) some
    ]

-- whether it was made or not
pub may_take : (s t u : State) (k : Kept) (n : ℕ) → IsSound t → RepresentsSome (cache_at k t) → IsLeastFree (numbers_in k.objects) n → length (numbers_in k.objects) < SLOTS → TakesFirstFree s t
    → (u ≡ created (Doomed n) t) ⊎ (u ≡ t) → TakesFirstFree s u
may_take s t u k n sound somehow free few before either = elim either [
  | inl made ↦ subst (TakesFirstFree s) (sym made) (takes_created s t k n sound somehow free few before)
  | inr same ↦ subst (TakesFirstFree s) (sym same) before
]

-- the least number that no object has, of a list that is short
module _ (s : State) (k : Kept) (somehow : RepresentsSome (cache_at k s)) (name : Name) (n : ℕ) (free : IsLeastFree (numbers_in k.objects) n) (few : length (numbers_in k.objects) < SLOTS) where
  small : n < SLOTS
  small = let le = long_enough (numbers_in k.objects) n free.lesser in omega (arith, le, few)

  lesser_stands : (lesser : ℕ) → lesser < n → (b : Bool) → (lesser == n) ≡ b → IsSome (content_of s.files (if b then names_now s (Entry name) else names_now s (Doomed lesser)))
  lesser_stands lesser lt true same = let e = eqb-true lesser n same in absurd (omega (arith, lt, e))
  lesser_stands lesser lt false other = doomed_stands s k lesser somehow (free.lesser lesser lt)

  moved : TakesFirstFree s (renamed (Entry name) (Doomed n) s)
  moved number none some = go (number == n) refl some
    where
      go : (b : Bool) → (number == n) ≡ b → IsSome (content_of s.files (if b then names_now s (Entry name) else names_now s (Doomed number))) → IsFirstFree (renamed (Entry name) (Doomed n) s) number × (number < SLOTS)
      go true same some =
          let e = eqb-true number n same in (
            λ lesser lt. lesser_stands lesser (omega (arith, lt, e)) (lesser == n) refl,
            omega (arith, small, e),
          )
      go false other some = none_some _ none some

  not_moved : TakesFirstFree s s
  not_moved number none some = none_some _ none some

  -- whatever the move answers
  pub takes_first : {T : Type 0} (t : State) (r : Result T DiskFault) → t ≡ if_done r (renamed (Entry name) (Doomed n) s) s → TakesFirstFree s t
  takes_first t (Ok value) is = subst (TakesFirstFree s) (sym is) moved
  takes_first t (Err Failed) is = subst (TakesFirstFree s) (sym is) moved
  takes_first t (Err Memory) is = subst (TakesFirstFree s) (sym is) not_moved

-- or whether it moved at all
pub takes_aside : (s t : State) (k : Kept) → RepresentsSome (cache_at k s) → (name : Name) (aside : Option ℕ) (xs : List ℕ) → (aside ≡ None → xs ≡ numbers_in k.objects) → length xs < SLOTS → (r : Result ℕ DiskFault) → SetsAside name aside xs r s t → TakesFirstFree s t
takes_aside s t k somehow name None xs same few r sets =
    let l = least_free (numbers_in k.objects) in
    takes_first s k somehow name l.0 l.1 (subst (λ ys. length ys < SLOTS) (same refl) few) t r (sets.moves refl l.0 (subst (λ ys. IsLeastFree ys l.0) (sym (same refl)) l.1))
takes_aside s t k somehow name (Some n) xs same few r sets = takes_none s t (λ d. ap (λ u. standing u (Doomed d)) (sets.stays n refl).1)
