-- What reads is found by the walk over the bytes, and so is a fault.
use Rattle.std.proofs.Common.{◌≡◌, ◌≢◌, ℕ, suc, ◌+◌, ◌<◌, ◌≤◌, List, [], ◌∷◌, ◌++◌, length, length-append, Bool, true, false, cond, refl, sym, ap, ◌∙◌, arith, append_assoc}
use Rattle.std.proofs.lemmas.List.{append-nil}
use Rattle.std.specs.Prelude.{Ok, Err, slice_index}
use Rattle.entry_key.specs.declared.key_fault.KeyFault.{KeyFault}
use Rattle.entry_key.specs.declared.key_fault.KeyFault.TheVariants.{NoAddress, NoComma, Order}
use Rattle.entry_key.specs.Key.{Tag, doubled, tag_bytes, is_bare, MayFollow, KeyReadsAbove, KeyReads}
use Rattle.entry_key.specs.Faults.{LacksComma, FaultAt, EndsTag, FaultAbove, HasFault}
use Rattle.entry_key.specs.Walk.{Letter, Comma, Value, read_from, read_key, with_tag, behind_letter}
use Rattle.entry_key.specs.ValueEnds.{put_value}
use Rattle.entry_key.proofs.Walking.{put_nothing, value_reads, value_runs_on, comma_lacks, letter_reads, order_reads}

-- after a letter its value is read, and then a letter is due
behind_reads : (x at next : ℕ) (value rest : List ℕ) (b : Bool) → is_bare x ≡ b → (b ≡ true → value ≡ []) → (b ≡ false → slice_index rest 0 ≢ 44)
    → next ≡ at + length (doubled value) + 1
    → read_from (cond b (Comma x) (Value x)) at (doubled value ++ 44 ∷ rest) ≡ put_value value (read_from (Letter x) next rest)
unfolding read_from
behind_reads x at next value rest true e bare ends here =
    let behind : suc at ≡ next = let none = ap (λ v. length (doubled v)) (bare refl) in omega (arith, here, none) in
    ap (λ v. read_from (Comma x) at (doubled v ++ 44 ∷ rest)) (bare refl) ∙ ap (λ n. read_from (Letter x) n rest) behind
    ∙ sym (put_nothing _) ∙ ap (λ v. put_value v (read_from (Letter x) next rest)) (sym (bare refl))
behind_reads x at next value rest false e bare ends here = value_reads x at next value rest (ends refl) here

-- a tag is read, and then a letter is due
tag_reads : (last at : ℕ) (t : Tag) (rest : List ℕ) → MayFollow last t → EndsTag t rest
    → read_from (Letter last) at (tag_bytes t ++ rest) ≡ with_tag t.letter (put_value t.value (read_from (Letter t.letter) (at + length (tag_bytes t)) rest))
tag_reads last at t rest may ends =
    let long = length-append (doubled t.value) (44 ∷ []) in
    ap (λ ys. read_from (Letter last) at (t.letter ∷ ys)) (append_assoc (doubled t.value) (44 ∷ []) rest)
    ∙ letter_reads last at t.letter (doubled t.value ++ 44 ∷ rest) may.letter may.rising
    ∙ ap (with_tag t.letter) (behind_reads t.letter (suc at) (at + length (tag_bytes t)) t.value rest (is_bare t.letter) refl may.bare ends (omega (arith, long)))

-- what reads does not begin with a comma
first_is_no_comma : (last : ℕ) (key : List ℕ) (tags : List Tag) (address : List ℕ) → 44 ≤ last → KeyReadsAbove last key tags address → slice_index key 0 ≢ 44
first_is_no_comma last key [] address low h e = let first : 58 ≡ 44 = ap (λ ys. slice_index ys 0) (sym h) ∙ e in absurd (omega (arith, first))
first_is_no_comma last key (t ∷ tags) address low h e =
    let above : last < t.letter = h.0.rising in
    let first : t.letter ≡ 44 = ap (λ ys. slice_index ys 0) (sym h.1.1) ∙ e in
    omega (arith, above, first, low)

reads_above : (last at : ℕ) (key : List ℕ) (tags : List Tag) (address : List ℕ) → 44 ≤ last → KeyReadsAbove last key tags address
    → read_from (Letter last) at key ≡ Ok (record { value = []; tags = tags; address = address })
unfolding read_from
reads_above last at key [] address low h = ap (read_from (Letter last) at) h
reads_above last at key (t ∷ tags) address low h =
    let above : last < t.letter = h.0.rising in
    let low_too : 44 ≤ t.letter = omega arith in
    let rest : List ℕ = h.1.0 in
    ap (read_from (Letter last) at) h.1.1
    ∙ tag_reads last at t rest h.0 (λ _. first_is_no_comma t.letter rest tags address low_too h.1.2)
    ∙ ap (λ r. with_tag t.letter (put_value t.value r)) (reads_above t.letter (at + length (tag_bytes t)) rest tags address low_too h.1.2)
    ∙ ap (λ v. Ok (record { value = []; tags = record { letter = t.letter; value = v } ∷ tags; address = address })) (append-nil t.value)

pub read_key-KeyReads : (key : List ℕ) (tags : List Tag) (address : List ℕ) → KeyReads key tags address
    → read_key key ≡ Ok (record { value = []; tags = tags; address = address })
read_key-KeyReads key tags address h = reads_above 44 0 key tags address (omega arith) h

comma_fault : (x at place : ℕ) (rest : List ℕ) (b : Bool) → is_bare x ≡ b → LacksComma x at rest place
    → read_from (cond b (Comma x) (Value x)) at rest ≡ Err (NoComma place)
comma_fault x at place rest true e h = let lacks = h.bare e in comma_lacks x at rest lacks.0 ∙ ap (λ n. Err (NoComma n)) (sym lacks.1)
comma_fault x at place rest false e h =
    let lacks = h.other e in
    ap (read_from (Value x) at) lacks.1 ∙ value_runs_on x at place lacks.0 (lacks.2 ∙ ap (λ ys. at + length ys) lacks.1)

fault_at : (last at : ℕ) (bytes : List ℕ) (f : KeyFault) → FaultAt last at bytes f → read_from (Letter last) at bytes ≡ Err f
unfolding read_from
fault_at last at bytes NoAddress h = ap (read_from (Letter last) at) h
fault_at last at bytes (Order place) h =
    ap (read_from (Letter last) at) h.2 ∙ order_reads last at h.0 h.1 h.3 h.4 ∙ ap (λ n. Err (Order n)) (sym h.5)
fault_at last at bytes (NoComma place) h =
    let next : suc at ≡ at + 1 = omega arith in
    ap (read_from (Letter last) at) h.2 ∙ letter_reads last at h.0 h.1 h.3 h.4
    ∙ ap (λ n. with_tag h.0 (read_from (behind_letter h.0) n h.1)) next
    ∙ ap (with_tag h.0) (comma_fault h.0 (at + 1) place h.1 (is_bare h.0) refl h.5)

fault_above : (last at : ℕ) (bytes : List ℕ) (tags : List Tag) (f : KeyFault) → FaultAbove last at bytes tags f → read_from (Letter last) at bytes ≡ Err f
fault_above last at bytes [] f h = fault_at last at bytes f h
fault_above last at bytes (t ∷ tags) f h =
    ap (read_from (Letter last) at) h.1.1 ∙ tag_reads last at t h.1.0 h.0 h.1.2
    ∙ ap (λ r. with_tag t.letter (put_value t.value r)) (fault_above t.letter (at + length (tag_bytes t)) h.1.0 tags f h.1.3)

pub read_key-HasFault : (key : List ℕ) (f : KeyFault) → HasFault key f → read_key key ≡ Err f
read_key-HasFault key f h = fault_above 44 0 key h.0 f h.1
