-- Going over a value.
use Rattle.std.proofs.Common.{◌≡◌, ◌≢◌, ℕ, suc, ◌+◌, ◌-◌, ◌<◌, ◌≤◌, List, [], ◌∷◌, ◌++◌, length, length-append, length-drop, take, drop, Bool, true, false, cond, refl, sym, ap, ◌∙◌, arith, add-zero, append_assoc}
use Rattle.std.specs.Prelude.{Err, slice_index}
use Rattle.std.proofs.lemmas.Bool.{ne_eqb}
use Rattle.std.proofs.lemmas.List.{append-nil, drop_all, drop_more, get_or-drop, get_or_past, take_at}
use Rattle.std.proofs.lemmas.Grind.{flat_map-append}
use Rattle.entry_key.specs.declared.key_fault.KeyFault.TheVariants.{NoComma}
use Rattle.entry_key.specs.Key.{doubled, is_bare}
use Rattle.entry_key.specs.Walk.{Letter, Comma, Value, behind_letter, read_from}
use Rattle.entry_key.specs.ValueEnds.{ValueEnds}
use Rattle.entry_key.proofs.Walking.{comma_lacks, put_nothing, value_reads, value_runs_on}

-- past the end there is no comma
pub no_comma_past : (key : List ℕ) (n : ℕ) → length key ≤ n → slice_index key n ≢ 44
no_comma_past key n h e = let none : 0 ≡ 44 = sym (get_or_past key n 0 h) ∙ e in absurd (omega (arith, none))

-- the first byte of what follows
first_of_rest : (key : List ℕ) (n : ℕ) → slice_index key n ≢ 44 → slice_index (drop n key) 0 ≢ 44
first_of_rest key n h e =
    let same : slice_index key (n + 0) ≡ slice_index key n = ap (slice_index key) (add-zero n) in
    h (sym same ∙ sym (get_or-drop n key 0 0) ∙ e)

-- ---- a letter with a value

-- from the place `from` up to `at` the bytes spell a value
pub record Spelled (key : List ℕ) (from at : ℕ) : Type 0 where
  pub value : List ℕ
  pub from_first : from ≤ at
  pub within : at ≤ length key
  pub bytes : drop from key ≡ doubled value ++ drop at key

pub none_spelled : (key : List ℕ) (from : ℕ) → from ≤ length key → Spelled key from from
none_spelled key from h = record { value = []; from_first = omega arith; within = h; bytes = refl }

-- the bytes of the value `more` follow
more_spelled : (key : List ℕ) (from at next : ℕ) (more : List ℕ) (s : Spelled key from at) → at ≤ next → next ≤ length key
    → drop at key ≡ doubled more ++ drop next key → Spelled key from next
more_spelled key from at next more s le long cut = record {
  value = s.value ++ more;
  from_first = let f = s.from_first in omega (arith, f);
  within = long;
  bytes =
      s.bytes ∙ ap (λ ys. doubled s.value ++ ys) cut ∙ sym (append_assoc (doubled s.value) (doubled more) (drop next key))
      ∙ ap (λ ys. ys ++ drop next key) (sym (flat_map-append _ s.value more));
}

pub byte_spelled : (key : List ℕ) (from at : ℕ) → Spelled key from at → at < length key → slice_index key at ≢ 44 → Spelled key from (at + 1)
byte_spelled key from at s lt n =
    let byte : slice_index key at ∷ [] ≡ doubled (slice_index key at ∷ []) =
    ap (λ (b : Bool). cond b (44 ∷ 44 ∷ []) (slice_index key at ∷ []) ++ []) (sym (ne_eqb _ 44 n)) in
    more_spelled key from at (at + 1) (slice_index key at ∷ []) s (omega arith) (omega arith)
    (drop_more key at 0 lt ∙ ap (λ ys. ys ++ drop (at + 1) key) byte)

pub pair_spelled : (key : List ℕ) (from at : ℕ) → Spelled key from at → at + 1 < length key → slice_index key at ≡ 44 → slice_index key (at + 1) ≡ 44 → Spelled key from (at + 2)
pair_spelled key from at s lt first second =
    let next : at + 1 + 1 ≡ at + 2 = omega arith in
    more_spelled key from at (at + 2) (44 ∷ []) s (omega arith) (omega arith)
    (drop_more key at 0 (omega arith) ∙ (λ i. first i ∷ (drop_more key (at + 1) 0 lt ∙ (λ j. second j ∷ drop (next j) key)) i))

-- how long the spelled value is
length_spelled : (key : List ℕ) (from at : ℕ) (s : Spelled key from at) → at ≡ from + length (doubled s.value)
length_spelled key from at s =
    let a = length-drop from key in
    let b = length-drop at key in
    let c = ap length s.bytes ∙ length-append (doubled s.value) (drop at key) in
    let f = s.from_first in
    let w = s.within in
    omega (arith, a, b, c, f, w)

pub value_ends : (key : List ℕ) (letter from at : ℕ) → is_bare letter ≡ false → Spelled key from at → at < length key → slice_index key at ≡ 44 → slice_index key (at + 1) ≢ 44
    → ValueEnds key letter from at
value_ends key letter from at bare s lt comma n =
    let cut : drop at key ≡ 44 ∷ drop (at + 1) key = drop_more key at 0 lt ∙ (λ i. comma i ∷ drop (at + 1) key) in
    let long = length_spelled key from at s in
    record {
      value = s.value;
      from_first = s.from_first;
      within = lt;
      spelled = ap (take (at - from)) s.bytes ∙ take_at (doubled s.value) (drop at key) (at - from) (omega (arith, long));
      reads =
          ap (λ (b : Bool). read_from (cond b (Comma letter) (Value letter)) from (drop from key)) bare
          ∙ ap (read_from (Value letter) from) (s.bytes ∙ ap (λ ys. doubled s.value ++ ys) cut)
          ∙ value_reads letter from (at + 1) s.value (drop (at + 1) key) (first_of_rest key (at + 1) n) (omega (arith, long));
    }

pub value_no_comma : (key : List ℕ) (letter from at : ℕ) → is_bare letter ≡ false → Spelled key from at → length key ≤ at
    → read_from (behind_letter letter) from (drop from key) ≡ Err (NoComma at)
value_no_comma key letter from at bare s le =
    ap (λ (b : Bool). read_from (cond b (Comma letter) (Value letter)) from (drop from key)) bare
    ∙ ap (read_from (Value letter) from) (s.bytes ∙ ap (λ ys. doubled s.value ++ ys) (drop_all at key le) ∙ append-nil (doubled s.value))
    ∙ value_runs_on letter from at s.value (length_spelled key from at s)

-- ---- a letter without a value

pub bare_ends : (key : List ℕ) (letter from : ℕ) → is_bare letter ≡ true → from < length key → slice_index key from ≡ 44 → ValueEnds key letter from from
unfolding read_from
bare_ends key letter from bare lt comma =
    let next : suc from ≡ from + 1 = omega arith in
    record {
      value = [];
      from_first = omega arith;
      within = lt;
      spelled = let e : from - from ≡ 0 = omega arith in ap (λ n. take n (drop from key)) e;
      reads =
          ap (λ (b : Bool). read_from (cond b (Comma letter) (Value letter)) from (drop from key)) bare
          ∙ ap (read_from (Comma letter) from) (drop_more key from 0 lt ∙ (λ i. comma i ∷ drop (from + 1) key))
          ∙ ap (λ k. read_from (Letter letter) k (drop (from + 1) key)) next
          ∙ sym (put_nothing _);
    }

pub bare_no_comma : (key : List ℕ) (letter from : ℕ) → is_bare letter ≡ true → slice_index key from ≢ 44 → read_from (behind_letter letter) from (drop from key) ≡ Err (NoComma from)
bare_no_comma key letter from bare n =
    ap (λ (b : Bool). read_from (cond b (Comma letter) (Value letter)) from (drop from key)) bare
    ∙ comma_lacks letter from (drop from key) (first_of_rest key from n)
