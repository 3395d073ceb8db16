-- What the walk over the bytes reads of a value and of a letter.
use Rattle.std.proofs.Common.{◌≡◌, ◌≢◌, ℕ, suc, ◌+◌, ◌<◌, ◌≤◌, List, [], ◌∷◌, ◌++◌, length, length-append, append_assoc, Bool, true, false, cond, refl, sym, ap, ◌∙◌, arith}
use Rattle.std.specs.Prelude.{Result, Ok, Err, ◌==◌, slice_index}
use Rattle.std.proofs.lemmas.Bool.{eqb-true, le-ltb, lt-ltb, ne_eqb}
use Rattle.entry_key.specs.declared.key_fault.KeyFault.{KeyFault}
use Rattle.entry_key.specs.declared.key_fault.KeyFault.TheVariants.{NoComma, Order}
use Rattle.entry_key.specs.Key.{doubled}
use Rattle.entry_key.specs.Walk.{Comma, Letter, Parts, Second, Value, behind_letter, read_from, with_tag, with_value}
use Rattle.entry_key.specs.ValueEnds.{put_value}

pub put_nothing : (r : Result Parts KeyFault) → put_value [] r ≡ r
put_nothing (Ok p) = refl
put_nothing (Err f) = refl

put_one : (x : ℕ) (value : List ℕ) (r : Result Parts KeyFault) → with_value x (put_value value r) ≡ put_value (x ∷ value) r
put_one x value (Ok p) = refl
put_one x value (Err f) = refl

-- after a comma that has no second one, a letter is due
second_is_letter : (l at : ℕ) (rest : List ℕ) → slice_index rest 0 ≢ 44 → read_from (Second l) at rest ≡ read_from (Letter l) at rest
unfolding read_from
second_is_letter l at [] n = refl
second_is_letter l at (x ∷ xs) n = rw (ne_eqb x 44 n) refl

-- one byte of a value, spelled, and the more that is read after it
value_byte : (l at x : ℕ) (value more : List ℕ) (r : Result Parts KeyFault) (t : Bool) → (x == 44) ≡ t
    → read_from (Value l) (at + length (cond t (44 ∷ 44 ∷ []) (x ∷ []))) more ≡ put_value value r
    → read_from (Value l) at (cond t (44 ∷ 44 ∷ []) (x ∷ []) ++ more) ≡ put_value (x ∷ value) r
unfolding read_from
value_byte l at x value more r true e h =
    let next : suc (suc at) ≡ at + 2 = omega arith in
    ap (λ n. with_value 44 (read_from (Value l) n more)) next ∙ ap (with_value 44) h ∙ put_one 44 value r
    ∙ ap (λ y. put_value (y ∷ value) r) (sym (eqb-true x 44 e))
value_byte l at x value more r false e h =
    let next : suc at ≡ at + 1 = omega arith in
    rw e (ap (λ n. with_value x (read_from (Value l) n more)) next ∙ ap (with_value x) h ∙ put_one x value r)

-- one byte as it is spelled
abbrev pub spelled : ℕ → List ℕ
spelled x = cond (x == 44) (44 ∷ 44 ∷ []) (x ∷ [])

behind_byte : (at x : ℕ) (xs : List ℕ) → at + length (doubled (x ∷ xs)) ≡ at + length (spelled x) + length (doubled xs)
behind_byte at x xs = let long = length-append (spelled x) (doubled xs) in omega (arith, long)

-- a value that is spelled, and its comma, are read, and then a letter is due
pub value_reads : (l at next : ℕ) (value rest : List ℕ) → slice_index rest 0 ≢ 44 → next ≡ at + length (doubled value) + 1
    → read_from (Value l) at (doubled value ++ 44 ∷ rest) ≡ put_value value (read_from (Letter l) next rest)
unfolding read_from
value_reads l at next [] rest n e =
    let behind : suc at ≡ next = omega (arith, e) in
    second_is_letter l (suc at) rest n ∙ ap (λ k. read_from (Letter l) k rest) behind ∙ sym (put_nothing _)
value_reads l at next (x ∷ xs) rest n e =
    ap (read_from (Value l) at) (append_assoc (spelled x) (doubled xs) (44 ∷ rest))
    ∙ value_byte l at x xs (doubled xs ++ 44 ∷ rest) (read_from (Letter l) next rest) (x == 44) refl
    (value_reads l (at + length (spelled x)) next xs rest n (e ∙ ap (λ n. n + 1) (behind_byte at x xs)))

-- a value that runs to the end
pub value_runs_on : (l at end : ℕ) (value : List ℕ) → end ≡ at + length (doubled value) → read_from (Value l) at (doubled value) ≡ Err (NoComma end)
unfolding read_from
value_runs_on l at end [] e =
    let here : at ≡ end = omega (arith, e) in
    ap (λ n. Err (NoComma n)) here
value_runs_on l at end (x ∷ xs) e =
    value_byte l at x xs (doubled xs) (Err (NoComma end)) (x == 44) refl
    (value_runs_on l (at + length (spelled x)) end xs (e ∙ behind_byte at x xs))

-- no comma where the comma of an empty value is due
pub comma_lacks : (l at : ℕ) (rest : List ℕ) → slice_index rest 0 ≢ 44 → read_from (Comma l) at rest ≡ Err (NoComma at)
unfolding read_from
comma_lacks l at [] n = refl
comma_lacks l at (x ∷ xs) n = rw (ne_eqb x 44 n) refl

-- a letter that may stand there is read, and then its value is due
pub letter_reads : (last at x : ℕ) (xs : List ℕ) → x ≢ 58 → last < x
    → read_from (Letter last) at (x ∷ xs) ≡ with_tag x (read_from (behind_letter x) (suc at) xs)
unfolding read_from
letter_reads last at x xs n above = rw (ne_eqb x 58 n, lt-ltb last x above) refl

-- a byte that may not stand there
pub order_reads : (last at x : ℕ) (xs : List ℕ) → x ≢ 58 → x ≤ last → read_from (Letter last) at (x ∷ xs) ≡ Err (Order at)
unfolding read_from
order_reads last at x xs n le = rw (ne_eqb x 58 n, le-ltb last x le) refl
