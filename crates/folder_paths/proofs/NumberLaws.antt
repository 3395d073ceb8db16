-- The numbers in the names of doomed files.
use Rattle.std.proofs.Common.{arith, refl, subst, Less, ◌+◌, IfSome, IsNone, Option, Some, None, ◌≡◌, ◌≤◌, ◌<◌, ℕ, suc, List, [], ◌∷◌, inl, inr, ap, ◌∙◌, sym}
use Rattle.std.specs.Prelude.{◌-◌, if◌then◌else◌, nat_lt}
use Rattle.std.specs.List.{AllByRecursion}
use Rattle.std.specs.List.Sorted.{IsStrictlySortedBy}
use Rattle.std.specs.Ordering.{nat_cmp}
use Rattle.std.proofs.lemmas.Cmp.{ranked}
use Rattle.std.proofs.lemmas.List.Elements.{All-cons, All-head, All-nil, All-tail}
use Rattle.std.specs.Option.{SomeIff}
use Rattle.std.proofs.lemmas.Bool.{cases_lt, lt-ltb, le-ltb}
use Rattle.std.proofs.lemmas.Bool.Decides.{leb_tells}
use Rattle.folder_paths.specs.Numbers.{IsFree, named, past}

pub past_next : (folder number : ℕ) → folder ≤ number → past folder number ≡ suc number
past_next folder number le = elim (leb_tells folder number) [
  | inl t ↦ ap (λ b. if b then suc number else number) t.0
  | inr t ↦ omega (arith, le, t.1)
]

pub past_same : (folder number : ℕ) → number < folder → past folder number ≡ number
past_same folder number lt = elim (leb_tells folder number) [
  | inl t ↦ omega (arith, lt, t.1)
  | inr t ↦ ap (λ b. if b then suc number else number) t.0
]

past_grows : (folder number : ℕ) → number ≤ past folder number
past_grows folder number = elim (leb_tells folder number) [
  | inl t ↦ omega (arith, past_next folder number t.1)
  | inr t ↦ omega (arith, past_same folder number t.1)
]

past_rises : (folder a b : ℕ) → a < b → past folder a < past folder b
past_rises folder a b lt = elim (leb_tells folder a) [
  | inl t ↦ omega (arith, lt, past_next folder a t.1, past_next folder b (omega (arith, lt, t.1)))
  | inr t ↦ omega (arith, lt, past_same folder a t.1, past_grows folder b)
]

-- the name's number is not below the file's
pub named_grows : (folders : List ℕ) (number : ℕ) → number ≤ named folders number
named_grows [] number = omega arith
named_grows (folder ∷ folders) number = omega (arith, past_grows folder number, named_grows folders (past folder number))

named_rises : (folders : List ℕ) (a b : ℕ) → a < b → named folders a < named folders b
named_rises [] a b lt = lt
named_rises (folder ∷ folders) a b lt = named_rises folders (past folder a) (past folder b) (past_rises folder a b lt)

-- no two files have one number in their names
pub named_apart : (folders : List ℕ) (a b : ℕ) → named folders a ≡ named folders b → a ≡ b
named_apart folders a b same = elim (cases_lt a b) [
  | inl lt ↦ omega (arith, same, named_rises folders a b lt)
  | inr ge ↦ elim (cases_lt b a) [
    | inl lt ↦ omega (arith, same, named_rises folders b a lt)
    | inr le ↦ omega (arith, ge, le)
  ]
]

-- the next number, where it is one of 32 bits
pub past_some : (result : Option ℕ) (folder number : ℕ) → folder ≤ number → SomeIff result (number + 1 < 4294967296) (number + 1)
    → IfSome result (λ next. next ≡ past folder number)
past_some (Some next) folder number le is = is.1 ∙ omega (arith, past_next folder number le)
past_some None folder number le is = tt

pub past_none : (result : Option ℕ) (folder number : ℕ) → folder ≤ number → SomeIff result (number + 1 < 4294967296) (number + 1)
    → IsNone result → 4294967296 ≤ past folder number
past_none (Some next) folder number le is none = absurd cc
past_none None folder number le is none = omega (arith, past_next folder number le, is)

-- past the last number the names only rise
pub past_end : (folders iterator rest : List ℕ) (folder current number : ℕ) → named iterator current ≡ named folders number → iterator ≡ folder ∷ rest
    → 4294967296 ≤ past folder current → 4294967296 ≤ named folders number
past_end folders iterator rest folder current number whole steps over =
    let now : named rest (past folder current) ≡ named folders number = ap (λ left. named left current) (sym steps) ∙ whole in
    omega (arith, now, over, named_grows rest (past folder current))

-- a number below the folder stays where the others are above it
named_below : (folder number : ℕ) (folders : List ℕ) → number < folder → AllByRecursion (λ other. nat_cmp folder other ≡ Less) folders → named folders number ≡ number
named_below folder number [] lt above = refl
named_below folder number (other ∷ folders) lt (first, above) =
    let next : folder < other = ranked folder other Less (sym first) in
    ap (named folders) (past_same other number (omega (arith, lt, next))) ∙ named_below folder number folders lt above

-- the first folder has another number than the name
first_free : (folder number : ℕ) (folders : List ℕ) → AllByRecursion (λ other. nat_cmp folder other ≡ Less) folders → folder ≡ named folders (past folder number) → ⊥
first_free folder number folders above same = elim (leb_tells folder number) [
  | inl t ↦ omega (arith, same, past_next folder number t.1, named_grows folders (past folder number))
  | inr t ↦
      let stays : named folders (past folder number) ≡ number = ap (named folders) (past_same folder number t.1) ∙ named_below folder number folders t.1 above in
      omega (arith, same, stays, t.1)
]

-- no folder stands under the number in a name
pub named_free : (folders : List ℕ) (number : ℕ) → IsStrictlySortedBy nat_cmp folders → IsFree folders (named folders number)
unfolding IsStrictlySortedBy
named_free [] number rising = All-nil (λ folder. folder ≡ number → ⊥)
named_free (folder ∷ folders) number (above, rising) =
    All-cons (λ other. other ≡ named folders (past folder number) → ⊥) folder folders (first_free folder number folders above) (named_free folders (past folder number) rising)

-- so it is of the number once every folder was passed
pub passed_free : (folders iterator : List ℕ) (current number : ℕ) → iterator ≡ [] → named iterator current ≡ named folders number
    → IsStrictlySortedBy nat_cmp folders → IsFree folders current
passed_free folders iterator current number passed whole rising =
    subst (IsFree folders) (sym whole ∙ ap (λ left. named left current) passed) (named_free folders number rising)

-- so many folders are below the number in a name
abbrev pub below_it : List ℕ → ℕ → ℕ
below_it [] target = 0
below_it (folder ∷ folders) target = if nat_lt folder target then suc (below_it folders target) else below_it folders target

below_it_one : (folder : ℕ) (folders : List ℕ) (target : ℕ) → folder < target → below_it (folder ∷ folders) target ≡ suc (below_it folders target)
below_it_one folder folders target lt = ap (λ b. if b then suc (below_it folders target) else below_it folders target) (lt-ltb folder target lt)

below_it_none : (folder : ℕ) (folders : List ℕ) (target : ℕ) → target ≤ folder → below_it (folder ∷ folders) target ≡ below_it folders target
below_it_none folder folders target le = ap (λ b. if b then suc (below_it folders target) else below_it folders target) (le-ltb folder target le)

-- those above a folder lie between it and the number
between : (folder target : ℕ) (folders : List ℕ) → IsStrictlySortedBy nat_cmp folders → AllByRecursion (λ other. nat_cmp folder other ≡ Less) folders → folder < target
    → below_it folders target + folder < target
unfolding IsStrictlySortedBy
between folder target [] rising above lt = omega (arith, lt)
between folder target (other ∷ folders) (over, rising) (first, above) lt =
    let next : folder < other = ranked folder other Less (sym first) in
    elim (cases_lt other target) [
      | inl under ↦ omega (arith, next, below_it_one other folders target under, between other target folders rising over under)
      | inr past ↦ omega (arith, below_it_none other folders target past, between folder target folders rising above lt)
    ]

-- the number that passes over the folders to a free one
back_to : (folders : List ℕ) (target : ℕ) → IsStrictlySortedBy nat_cmp folders → IsFree folders target → named folders (target - below_it folders target) ≡ target
unfolding IsStrictlySortedBy
back_to [] target rising free = omega arith
back_to (folder ∷ folders) target (above, rising) free =
    let rest : named folders (target - below_it folders target) ≡ target = back_to folders target rising (All-tail (λ other. other ≡ target → ⊥) folder folders free) in
    elim (cases_lt folder target) [
      | inl lt ↦
          let steps : below_it (folder ∷ folders) target ≡ suc (below_it folders target) = below_it_one folder folders target lt in
          let room : below_it folders target + folder < target = between folder target folders rising above lt in
          let next : past folder (target - below_it (folder ∷ folders) target) ≡ target - below_it folders target =
          past_next folder (target - below_it (folder ∷ folders) target) (omega (arith, steps, room)) ∙ omega (arith, steps, room) in
          ap (named folders) next ∙ rest
      | inr le ↦
          let steps : below_it (folder ∷ folders) target ≡ below_it folders target = below_it_none folder folders target le in
          let apart : folder ≡ target → ⊥ = All-head (λ other. other ≡ target → ⊥) folder folders free in
          let next : past folder (target - below_it (folder ∷ folders) target) ≡ target - below_it folders target =
          past_same folder (target - below_it (folder ∷ folders) target) (strictly folder target (below_it (folder ∷ folders) target) le apart) ∙ ap (λ n. target - n) steps in
          ap (named folders) next ∙ rest
    ]
  where
    strictly : (folder target less : ℕ) → target ≤ folder → (folder ≡ target → ⊥) → target - less < folder
    strictly folder target less le apart = elim (cases_lt target folder) [
      | inl lt ↦ omega (arith, lt)
      | inr ge ↦ absurd (apart (omega (arith, le, ge)))
    ]

-- one folder more was passed
pub back_step : (folders iterator rest : List ℕ) (folder target number next : ℕ) → iterator ≡ folder ∷ rest → (folder ≡ target → ⊥)
    → next ≡ (if nat_lt folder target then number - 1 else number)
    → number - below_it iterator target ≡ target - below_it folders target
    → (IsFree iterator target → IsFree folders target) × (IsFree folders target → IsFree iterator target)
    → (next - below_it rest target ≡ target - below_it folders target) × (IsFree rest target → IsFree folders target) × (IsFree folders target → IsFree rest target)
back_step folders iterator rest folder target number next steps apart is whole free =
    let here : below_it iterator target ≡ below_it (folder ∷ rest) target = ap (λ xs. below_it xs target) steps in (
      elim (cases_lt folder target) [
        | inl lt ↦
            let lower : next ≡ number - 1 = is ∙ ap (λ b. if b then number - 1 else number) (lt-ltb folder target lt) in
            omega (arith, whole, lower, here, below_it_one folder rest target lt)
        | inr le ↦
            let same : next ≡ number = is ∙ ap (λ b. if b then number - 1 else number) (le-ltb folder target le) in
            omega (arith, whole, same, here, below_it_none folder rest target le)
      ],
      λ left. free.0 (subst (λ xs. IsFree xs target) (sym steps) (All-cons (λ other. other ≡ target → ⊥) folder rest apart left)),
      λ all. All-tail (λ other. other ≡ target → ⊥) folder rest (subst (λ xs. IsFree xs target) steps (free.1 all)),
    )

-- all were
pub back_end : (folders iterator : List ℕ) (target number : ℕ) → iterator ≡ [] → number - below_it iterator target ≡ target - below_it folders target
    → (IsFree iterator target → IsFree folders target) → IsStrictlySortedBy nat_cmp folders → named folders number ≡ target
back_end folders iterator target number passed whole free rising =
    let none : below_it iterator target ≡ 0 = ap (λ xs. below_it xs target) passed in
    let is : number ≡ target - below_it folders target = omega (arith, whole, none) in
    ap (named folders) is ∙ back_to folders target rising (free (subst (λ xs. IsFree xs target) (sym passed) (All-nil (λ other. other ≡ target → ⊥))))
