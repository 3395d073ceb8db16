-- What the update has to read at an opening is one list of names, and there is such a list.
use Rattle.std.proofs.Common.{◌≡◌, ◌⊎◌, inl, inr, zero, suc, true, false, Contains, List, [], ◌∷◌, refl, sym, ap, subst, ◌∙◌, arith}
use Rattle.std.specs.List.Sorted.{IsStrictlySortedBy}
use Rattle.std.specs.Prelude.{◌↔◌}
use Rattle.std.specs.declared.cmp.Ordering.{Ordering}
use Rattle.std.specs.declared.cmp.Ordering.TheVariants.{Less, Equal, Greater}
use Rattle.std.proofs.lemmas.List.Elements.{All-contains, All-from_recursion}
use Rattle.cache_base.specs.Names.{AreSorted, name_cmp}
use Rattle.cache_base.specs.declared.name.Name.{Name}
use Rattle.disk_theory.specs.Listing.{IsFinite}
use Rattle.disk_theory.specs.State.{State, standing}
use Rattle.index_theory.specs.Start.{start_of}
use Rattle.index_theory.specs.declared.kinds.Start.{Start}
use Rattle.index_theory.specs.declared.kinds.Start.TheVariants.{Ready, Update, Build}
use Rattle.record_list.proofs.NameLaws.{above_below, below_apart, below_trans, same_itself, tied_same}
use Rattle.cache_store.specs.Open.{IsRest}

-- ---- lists of rising names with the same members

never_below : (n : Name) → name_cmp n n ≡ Less → ⊥
never_below n less = let both : true ≡ false = sym (same_itself n) ∙ below_apart n n less in cc

first : (n : Name) (names : List Name) → Contains (n ∷ names) n
first n names = (zero, omega arith, refl)

push : (n q : Name) (names : List Name) → Contains names q → Contains (n ∷ names) q
push n q names (k, low, is) = (suc k, omega (arith, low), is)

first_or_later : (n q : Name) (names : List Name) → Contains (n ∷ names) q → (n ≡ q) ⊎ Contains names q
first_or_later n q names (zero, low, is) = inl is
first_or_later n q names (suc k, low, is) = inr (k, omega (arith, low), is)

-- a name is below each that comes after it
above : (n q : Name) (names : List Name) → AreSorted (n ∷ names) → Contains names q → name_cmp n q ≡ Less
unfolding IsStrictlySortedBy
above n q names rising has = All-contains (λ m. name_cmp n m ≡ Less) names q (All-from_recursion (λ m. name_cmp n m ≡ Less) names rising.0) has

-- what is in a list is not below its first name
not_below : (n q : Name) (names : List Name) → AreSorted (n ∷ names) → Contains (n ∷ names) q → name_cmp q n ≡ Less → ⊥
not_below n q names rising has less = elim (first_or_later n q names has) [
  | inl same ↦ never_below q (ap (name_cmp q) (sym same) ∙ less)
  | inr later ↦ never_below q (below_trans q n q less (above n q names rising later))
]

first_is : (x y : Name) (xs ys : List Name) → AreSorted (x ∷ xs) → AreSorted (y ∷ ys) → Contains (y ∷ ys) x → Contains (x ∷ xs) y → (o : Ordering) → name_cmp x y ≡ o → x ≡ y
first_is x y xs ys rx ry has also Less e = absurd (not_below y x ys ry has e)
first_is x y xs ys rx ry has also Equal e = tied_same x y e
first_is x y xs ys rx ry has also Greater e = absurd (not_below x y xs rx also (above_below x y e))

-- with the same first name, the others are in the other list too
others_in : (n q : Name) (xs ys : List Name) → AreSorted (n ∷ xs) → (Contains (n ∷ xs) q → Contains (n ∷ ys) q) → Contains xs q → Contains ys q
others_in n q xs ys rising same has = elim (first_or_later n q ys (same (push n q xs has))) [
  | inl is ↦ absurd (never_below n (ap (name_cmp n) is ∙ above n q xs rising has))
  | inr later ↦ later
]

one_list : (xs ys : List Name) → AreSorted xs → AreSorted ys → ((name : Name) → Contains xs name ↔ Contains ys name) → xs ≡ ys
unfolding IsStrictlySortedBy
one_list [] [] rx ry same = refl
one_list [] (y ∷ ys) rx ry same = absurd (let low = ((same y).1 (first y ys)).1 in omega (arith, low))
one_list (x ∷ xs) [] rx ry same = absurd (let low = ((same x).0 (first x xs)).1 in omega (arith, low))
one_list (x ∷ xs) (y ∷ ys) rx ry same =
    let head : x ≡ y = first_is x y xs ys rx ry ((same x).0 (first x xs)) ((same y).1 (first y ys)) (name_cmp x y) refl in
    let tail : xs ≡ ys = one_list xs ys rx.1 ry.1 (λ n. (
      others_in x n xs ys rx (λ has. subst (λ z. Contains (z ∷ ys) n) (sym head) ((same n).0 has)),
      others_in y n ys xs ry (λ has. subst (λ z. Contains (z ∷ xs) n) head ((same n).1 has)),
    )) in
    λ i. head i ∷ tail i

-- ---- the rest

pub rest_is_one : (s : State) (rest more : List Name) → IsRest s rest → IsRest s more → rest ≡ more
rest_is_one s rest more one other = go (start_of (standing s)) refl
  where
    listed : (start_of (standing s) ≡ Ready → ⊥) → rest ≡ more
    listed unready = one_list rest more one.rising other.rising (λ n. (
      λ has. (other.unready unready n).1 ((one.unready unready n).0 has),
      λ has. (one.unready unready n).1 ((other.unready unready n).0 has),
    ))

    go : (start : Start) → start_of (standing s) ≡ start → rest ≡ more
    go Ready e = one.ready e ∙ sym (other.ready e)
    go Update e = listed (λ ready. let both : Update ≡ Ready = sym e ∙ ready in cc)
    go Build e = listed (λ ready. let both : Build ≡ Ready = sym e ∙ ready in cc)

pub no_names : AreSorted []
unfolding IsStrictlySortedBy
no_names = tt

pub rest_exists : (s : State) → IsFinite s → (rest : List Name) × IsRest s rest
rest_exists s finite = go (start_of (standing s)) refl
  where
    all : (start_of (standing s) ≡ Ready → ⊥) → (rest : List Name) × IsRest s rest
    all unready = (finite.names, record { ready = λ ready. absurd (unready ready); unready = λ no. finite.entries; rising = finite.rising })

    go : (start : Start) → start_of (standing s) ≡ start → (rest : List Name) × IsRest s rest
    go Ready e = ([], record { ready = λ ready. refl; unready = λ no. absurd (no e); rising = no_names })
    go Update e = all (λ ready. let both : Update ≡ Ready = sym e ∙ ready in cc)
    go Build e = all (λ ready. let both : Build ≡ Ready = sym e ∙ ready in cc)
