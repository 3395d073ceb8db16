-- The parts of a body that are read one after the other.
use Rattle.std.proofs.Common.{◌≡◌, ◌⊎◌, inl, inr, ◌∙◌, ℕ, zero, suc, ◌+◌, ◌-◌, ◌%◌, ◌<◌, ◌≤◌, List, [], ◌++◌, length, length-drop, min, take, drop, refl, sym, ap, subst, arith, append-nil, append_assoc}
use Rattle.std.specs.Io.KnownBytes.{Appends}
use Rattle.std.proofs.lemmas.List.{drop-drop, length-take, take_all, take_min}
use Rattle.std.proofs.Math.Seq.{take-add}
use Rattle.std.specs.declared.option.Option.{Option}
use Rattle.file_handles.specs.Reading.{part_of_body}
use Rattle.cache_replies.specs.Said.{Saying}
use Rattle.cache_replies.specs.Saying.{SaysMore, SendsFront, StopsIn}
use Rattle.cache_replies.proofs.SayingLaws.{says_then, stops_front, stops_then}

-- a part is no longer than was asked for
pub part_short : (body : List ℕ) (from len : ℕ) → length (part_of_body body from len) ≤ len
part_short body from len = let long = length-take (min len (262144 - from % 262144)) (drop from body) in omega (arith, long)

module _ (body : List ℕ) (from len done : ℕ) where
  -- the bytes so far, and the next part
  abbrev pub so_far : List ℕ
  so_far = take done (drop from body)

  abbrev pub part : List ℕ
  part = part_of_body body (from + done) (len - done)

  rest_is : drop done (drop from body) ≡ drop (from + done) body
  rest_is = drop-drop done from body

  part_is : (n : ℕ) → n ≡ length part → take n (drop done (drop from body)) ≡ part
  part_is n is =
      let k : ℕ = min (len - done) (262144 - (from + done) % 262144) in
      let rest : List ℕ = drop (from + done) body in
      ap (take n) rest_is ∙ ap (λ j. take j rest) (is ∙ length-take k rest) ∙ take_min k rest

  -- with the next part
  pub more_is : (n : ℕ) → n ≡ length part → so_far ++ part ≡ take (done + n) (drop from body)
  more_is n is = sym (take-add done n (drop from body) ∙ ap (λ l. so_far ++ l) (part_is n is))

  -- there is none but at the end
  pub all_is : done < len → 0 ≡ length part → so_far ≡ take len (drop from body)
  all_is lt none =
      let k : ℕ = min (len - done) (262144 - (from + done) % 262144) in
      let long = length-take k (drop (from + done) body) in
      let rest = length-drop (from + done) body in
      let whole = length-drop from body in
      let short : length (drop from body) ≤ done = omega (arith, long, rest, whole, lt, none) in
      take_all done (drop from body) short ∙ sym (take_all len (drop from body) (omega (arith, short, lt)))

  -- and all the bytes begin so
  pub begins_so : done ≤ len → so_far ++ (part ++ take (len - (done + length part)) (drop (done + length part) (drop from body))) ≡ take len (drop from body)
  begins_so le =
      let n : ℕ = length part in
      let short = part_short body (from + done) (len - done) in
      let X : List ℕ = drop from body in
      sym (append_assoc so_far part (take (len - (done + n)) (drop (done + n) X)))
      ∙ ap (λ l. l ++ take (len - (done + n)) (drop (done + n) X)) (more_is n refl)
      ∙ sym (take-add (done + n) (len - (done + n)) X)
      ∙ ap (λ j. take j X) (let e : done + n + (len - (done + n)) ≡ len = omega (arith, short, le) in e)

  pub stops_in_part : done ≤ len → (a b : Saying) (now : Option (List ℕ)) → SaysMore a b so_far → StopsIn b now part → StopsIn a now (take len (drop from body))
  stops_in_part le a b now says stops =
      let n : ℕ = length part in
      let more = take (len - (done + n)) (drop (done + n) (drop from body)) in
      subst (λ (t : List ℕ). StopsIn a now t) (begins_so le) (stops_then a b now so_far (part ++ more) says (stops_front b now part more stops))

  pub says_with_part : (n : ℕ) → n ≡ length part → (a b c : Saying) → SaysMore a b so_far → SaysMore b c part → SaysMore a c (take (done + n) (drop from body))
  says_with_part n is a b c says more = subst (λ (t : List ℕ). SaysMore a c t) (more_is n is) (says_then a b c so_far part says more)

-- ---- the first part

nothing_done : (done : ℕ) → (done ≡ 0) ⊎ (0 < done)
nothing_done zero = inl refl
nothing_done (suc n) = inr (omega arith)

-- a place after the first
pub not_first : (done : ℕ) → (done ≡ 0 → ⊥) → 0 < done
not_first zero other = absurd (other refl)
not_first (suc n) other = omega arith

module _ (body : List ℕ) (from len : ℕ) where
  -- it is no longer than what was said after a turn
  pub part_longer : (done n : ℕ) → n ≡ length (part_of_body body (from + done) (len - done)) → (0 < done → length (part_of_body body from len) ≤ done)
      → 0 < done + n → length (part_of_body body from len) ≤ done + n
  part_longer done n is before some = elim (nothing_done done) [
    | inl none ↦
        let whole : length (part_of_body body (from + done) (len - done)) ≡ length (part_of_body body from len) =
        let there : from + done ≡ from = omega (arith, none) in let left : len - done ≡ len = omega (arith, none) in
        ap (λ at. length (part_of_body body at (len - done))) there ∙ ap (λ l. length (part_of_body body from l)) left in
        omega (arith, is, whole)
    | inr later ↦ let le = before later in omega (arith, le)
  ]

  first_is : (done : ℕ) → length (part_of_body body from len) ≤ done
      → part_of_body body from len ++ take (done - length (part_of_body body from len)) (drop (length (part_of_body body from len)) (drop from body)) ≡ take done (drop from body)
  first_is done le =
      let X : List ℕ = drop from body in
      let k : ℕ = min len (262144 - from % 262144) in
      let n : ℕ = length (part_of_body body from len) in
      let same : part_of_body body from len ≡ take n X = sym (ap (λ j. take j X) (length-take k X) ∙ take_min k X) in
      let sum : done ≡ n + (done - n) = omega (arith, le) in
      ap (λ l. l ++ take (done - n) (drop n X)) same ∙ sym (ap (λ j. take j X) sum ∙ take-add n (done - n) X)

  -- where what was said is out whole, so is the first part
  pub front_sent : (done : ℕ) (a b : Saying) (now : Option (List ℕ)) → SaysMore a b (take done (drop from body)) → b.held ≡ [] → now ≡ b.taken
      → length (part_of_body body from len) ≤ done → SendsFront a now (part_of_body body from len)
  front_sent done a b now says none same le before text said =
      let X : List ℕ = drop from body in
      let first : List ℕ = part_of_body body from len in
      let more : List ℕ = take (done - length first) (drop (length first) X) in
      let all = says before text said in
      let whole : text ++ take done X ≡ all.front = all.is ∙ ap (λ h. all.front ++ h) none ∙ append-nil all.front in (
        more,
        subst (λ (o : Option (List ℕ)). Appends before o ((text ++ first) ++ more)) (sym same)
            (subst (Appends before b.taken) (sym whole ∙ ap (λ l. text ++ l) (sym (first_is done le)) ∙ sym (append_assoc text first more)) all.out),
      )
