-- Which files of a table have writes, and the loop that settles them.
use Rattle.std.proofs.Common.{◌≡◌, ◌⊎◌, inl, inr, ℕ, suc, ◌+◌, ◌<◌, ◌≤◌, ◌==◌, List, [], ◌∷◌, ◌++◌, length, drop, get_or, set, Bool, true, false, ◌||◌, refl, sym, ◌∙◌, ap, subst, arith, ⊎_elim}
use Rattle.std.proofs.Math.Seq.{drop-cons}
use Rattle.std.proofs.lemmas.List.{drop_all}
use Rattle.std.proofs.lemmas.Bool.{cases_eq}
use Rattle.std.proofs.lemmas.Bool.Decides.{nat_tests}
use Rattle.disk_theory.specs.State.{File, with_file}
use Rattle.disk_model.specs.MemFile.{file_of, nth_file, at_rest}
use Rattle.disk_model.specs.MemState.{is_in, ArePending}
use Rattle.disk_model.specs.declared.mem_file.MemFile.{MemFile}
use Rattle.disk_theory.proofs.Files.{with_file-cases, with_file-same, with_file-apart}
use Rattle.disk_model.proofs.MemState.{nth_pushed, nth_set}

-- a new file with no writes
pub pending_pushed : (fs : List MemFile) (f : MemFile) (written : List ℕ) → (file_of f).writes ≡ [] → ArePending fs written → ArePending (fs ++ f ∷ []) written
pending_pushed fs f written none pending k out =
    ap (λ (files : ℕ → File). length (files k).writes) (nth_pushed fs f)
    ∙ ⊎_elim (λ new. ap (λ (file : File). length file.writes) new.1 ∙ ap length none) (λ old. ap (λ (file : File). length file.writes) old ∙ pending k out)
    (with_file-cases (length fs) k (file_of f) (nth_file fs))

more_out : (k i x : ℕ) (xs : List ℕ) → is_in k ((x ∷ xs) ++ i ∷ []) ≡ false → (is_in k (xs ++ i ∷ []) ≡ false → (k ≡ i → ⊥) × (is_in k xs ≡ false)) → (k ≡ i → ⊥) × (is_in k (x ∷ xs) ≡ false)
more_out k i x xs out rest = both (x == k) refl
  where
    both : (b : Bool) → (x == k) ≡ b → (k ≡ i → ⊥) × (is_in k (x ∷ xs) ≡ false)
    both true is = absurd (let all : is_in k ((x ∷ xs) ++ i ∷ []) ≡ true = ap (λ (b : Bool). b || is_in k (xs ++ i ∷ [])) is in cc)
    both false is =
        let both_out = rest (sym (ap (λ (b : Bool). b || is_in k (xs ++ i ∷ [])) is) ∙ out) in
        (both_out.0, ap (λ (b : Bool). b || is_in k xs) is ∙ both_out.1)

is_in_pushed : (k i : ℕ) (xs : List ℕ) → is_in k (xs ++ i ∷ []) ≡ false → (k ≡ i → ⊥) × (is_in k xs ≡ false)
is_in_pushed k i [] out = (λ e. let here : is_in k (i ∷ []) ≡ true = grind (arith, nat_tests) in cc, refl)
is_in_pushed k i (x ∷ xs) out = more_out k i x xs out (λ less. is_in_pushed k i xs less)

-- a file that was written to, with its number in the list
pub pending_written : (fs : List MemFile) (now written : List ℕ) (i : ℕ) (f : MemFile) → i < length fs → now ≡ written ++ i ∷ [] → ArePending fs written → ArePending (set fs i f) now
pending_written fs now written i f lt is pending k out =
    let apart = is_in_pushed k i written (sym (ap (is_in k) is) ∙ out) in
    ap (λ (files : ℕ → File). length (files k).writes) (nth_set fs i f lt)
    ∙ ap (λ (file : File). length file.writes) (with_file-apart i k (file_of f) (nth_file fs) apart.0) ∙ pending k apart.1

-- at rest, or as before with its number still to come
abbrev pub IsOnTheWay : List MemFile → List MemFile → List ℕ → ℕ → Type 0
IsOnTheWay old now rest k = (nth_file now k ≡ at_rest (nth_file old k)) ⊎ ((nth_file now k ≡ nth_file old k) × (is_in k rest ≡ true))

one_settled : (old m n : List MemFile) (w : ℕ) (rest : List ℕ) → nth_file n ≡ with_file w (at_rest (nth_file m w)) (nth_file m)
    → ((k : ℕ) → IsOnTheWay old m (w ∷ rest) k) → (k : ℕ) → IsOnTheWay old n rest k
one_settled old m n w rest is before k = ⊎_elim here elsewhere (cases_eq k w)
  where
    here : k ≡ w → IsOnTheWay old n rest k
    here e =
        let now : nth_file n k ≡ at_rest (nth_file m k) =
        ap (λ (files : ℕ → File). files k) is ∙ ap (with_file w (at_rest (nth_file m w)) (nth_file m)) e ∙ with_file-same w (at_rest (nth_file m w)) (nth_file m) ∙ ap (λ j. at_rest (nth_file m j)) (sym e) in
        inl (now ∙ ⊎_elim (λ (done : nth_file m k ≡ at_rest (nth_file old k)). ap at_rest done) (λ kept. ap at_rest kept.0) (before k))

    elsewhere : (k ≡ w → ⊥) → IsOnTheWay old n rest k
    elsewhere apart =
        let now : nth_file n k ≡ nth_file m k = ap (λ (files : ℕ → File). files k) is ∙ with_file-apart w k (at_rest (nth_file m w)) (nth_file m) apart in
        elim (before k) [
          | inl done ↦ inl (now ∙ done)
          | inr kept ↦ inr (now ∙ kept.0, later (w == k) refl kept.1)
        ]
      where
        later : (b : Bool) → (w == k) ≡ b → is_in k (w ∷ rest) ≡ true → is_in k rest ≡ true
        later true same found = absurd (apart (let e : k ≡ w = grind (arith, nat_tests) in e))
        later false other found = sym (ap (λ (b : Bool). b || is_in k rest) other) ∙ found

pub loop_settled : (old m n : List MemFile) (written : List ℕ) (i : ℕ) → i < length written
    → nth_file n ≡ with_file (get_or written i 0) (at_rest (nth_file m (get_or written i 0))) (nth_file m)
    → ((k : ℕ) → IsOnTheWay old m (drop i written) k) → (k : ℕ) → IsOnTheWay old n (drop (i + 1) written) k
loop_settled old m n written i lt is before =
    let cut : drop i written ≡ get_or written i 0 ∷ drop (i + 1) written = drop-cons written i 0 lt ∙ ap (λ j. get_or written i 0 ∷ drop j written) (let one : suc i ≡ i + 1 = omega arith in one) in
    one_settled old m n (get_or written i 0) (drop (i + 1) written) is (subst (λ (rest : List ℕ). (k : ℕ) → IsOnTheWay old m rest k) cut before)

pub all_settled : (old now : List MemFile) (written : List ℕ) (i : ℕ) → length written ≤ i → ((k : ℕ) → IsOnTheWay old now (drop i written) k) → (k : ℕ) → nth_file now k ≡ at_rest (nth_file old k)
all_settled old now written i le done k =
    elim (subst (λ (rest : List ℕ). IsOnTheWay old now rest k) (drop_all i written le) (done k)) [ inl settled ↦ settled | inr kept ↦ cc ]
