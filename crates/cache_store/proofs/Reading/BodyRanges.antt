-- Bytes of a body that are said chunk by chunk.
use Rattle.std.proofs.Common.{◌≡◌, inl, inr, ◌≤◌, ◌<◌, ◌+◌, ◌-◌, ◌%◌, ◌/◌, ◌++◌, ◌∙◌, ℕ, List, [], length, min, take, drop, subst, sym, ap, arith, append-nil, append_assoc}
use Rattle.std.specs.Io.KnownBytes.{Appends}
use Rattle.std.specs.Prelude.{IfSome}
use Rattle.std.specs.declared.option.Option.{Option}
use Rattle.std.proofs.Math.Seq.{take-add}
use Rattle.std.proofs.lemmas.List.{drop-drop, length-drop, length-take}
use Rattle.std.proofs.lemmas.Bool.{cases_eq}
use Rattle.chunk_store.specs.Chunks.{chunk}
use Rattle.cache_store.specs.Prefix.{range_of}
use Rattle.cache_replies.specs.Said.{Saying}
use Rattle.cache_replies.specs.Saying.{CutsIn, SaysMore, SendsFront}
use Rattle.cache_replies.proofs.SayingLaws.{cuts_front, cuts_then, says_then}
use Rattle.file_handles.specs.Reading.{part_of_body}
use Rattle.file_handles.proofs.Reading.Parts.{chunk_part}

-- where the next part ends
abbrev pub next_at : ℕ → ℕ → ℕ
next_at at to = at + min (to - at) (262144 - at % 262144)

-- it is after where the part begins, and no further than all goes
pub next_on : (at to : ℕ) → at < to → at < next_at at to
next_on at to some = omega (arith, some)

pub next_before : (at to : ℕ) → at < to → next_at at to ≤ to
next_before at to some = omega (arith, some)

-- where more is left there, it is in a chunk that is not the first
pub next_turned : (at to : ℕ) → next_at at to < to → 0 < next_at at to / 262144
next_turned at to left = omega (arith, left)

-- the first part is done after it
pub next_done : (from at to : ℕ) → from ≤ at → (from < at → next_at from to ≤ at) → next_at from to ≤ next_at at to
next_done from at to behind done = elim (cases_eq from at) [
  | inl here ↦ subst (λ n. next_at from to ≤ next_at n to) here (omega arith)
  | inr apart ↦ let before = done (omega (arith, behind, apart)) in omega (arith, before)
]

-- what was said up to a place, and the part from there on
pub range_more : (body : List ℕ) (from at to : ℕ) → from ≤ at → range_of from at body ++ part_of_body body at (to - at) ≡ range_of from (next_at at to) body
range_more body from at to behind =
    let n = min (to - at) (262144 - at % 262144) in
    let there : drop (at - from) (drop from body) ≡ drop at body = drop-drop (at - from) from body ∙ ap (λ k. drop k body) (let e : from + (at - from) ≡ at = omega (arith, behind) in e) in
    ap (λ (xs : List ℕ). take (at - from) (drop from body) ++ take n xs) (sym there)
    ∙ sym (take-add (at - from) n (drop from body))
    ∙ ap (λ k. take k (drop from body)) (let e : (at - from) + n ≡ (at + n) - from = omega (arith, behind) in e)

-- and all that is after it
pub range_rest : (body : List ℕ) (from at to : ℕ) → from ≤ at → at ≤ to → range_of from at body ++ range_of at to body ≡ range_of from to body
range_rest body from at to behind before =
    let there : drop (at - from) (drop from body) ≡ drop at body = drop-drop (at - from) from body ∙ ap (λ k. drop k body) (let e : from + (at - from) ≡ at = omega (arith, behind) in e) in
    ap (λ (xs : List ℕ). take (at - from) (drop from body) ++ take (to - at) xs) (sym there)
    ∙ sym (take-add (at - from) (to - at) (drop from body))
    ∙ ap (λ k. take k (drop from body)) (let e : (at - from) + (to - at) ≡ to - from = omega (arith, behind, before) in e)

-- what was read is a chunk of the body, and of it this part is said
pub part_read : (o : Option (List ℕ)) (content : List ℕ) (len at left : ℕ) (bytes : List ℕ) → o ≡ Option.Some content → len ≤ length content
    → IfSome o (λ c. len ≤ length c → bytes ≡ chunk (take len c) (at / 262144)) → take left (drop (at % 262144) bytes) ≡ part_of_body (take len content) at left
part_read o content len at left bytes is fits read =
    let whole : bytes ≡ chunk (take len content) (at / 262144) = subst (λ (p : Option (List ℕ)). IfSome p (λ c. len ≤ length c → bytes ≡ chunk (take len c) (at / 262144))) is read fits in
    ap (λ (xs : List ℕ). take left (drop (at % 262144) xs)) whole ∙ chunk_part (take len content) at left

-- the bytes that are left are some
pub rest_long : (body : List ℕ) (at to : ℕ) → at < to → to ≤ length body → 0 < length (range_of at to body)
rest_long body at to some inside =
    let long = length-take (to - at) (drop at body) in
    let from = length-drop at body in
    omega (arith, long, from, some, inside)

-- where what was said goes up to the end of the first part or after it, and is out, that part is out
pub first_out : (body : List ℕ) (from to at : ℕ) (was mid : Saying) (now : Option (List ℕ)) → next_at from to ≤ at
    → SaysMore was mid (range_of from at body) → SendsFront mid now [] → SendsFront was now (part_of_body body from (to - from))
first_out body from to at was mid now done says out before text said =
    let n = min (to - from) (262144 - from % 262144) in
    let first : List ℕ = take n (drop from body) in
    let rest : List ℕ = take ((at - from) - n) (drop n (drop from body)) in
    let parts : range_of from at body ≡ first ++ rest =
    ap (λ k. take k (drop from body)) (let e : at - from ≡ n + ((at - from) - n) = omega (arith, done) in e) ∙ take-add n ((at - from) - n) (drop from body) in
    let sent = out before (text ++ range_of from at body) (says before text said) in (
      rest ++ sent.0,
      subst (Appends before now)
          (ap (λ t. t ++ sent.0) (append-nil (text ++ range_of from at body) ∙ ap (λ t. text ++ t) parts ∙ sym (append_assoc text first rest))
          ∙ append_assoc (text ++ first) rest sent.0)
          sent.1,
    )

-- what is said after a part of the bytes, and what is cut
module _ (body : List ℕ) (from at to : ℕ) (behind : from ≤ at) (was mid : Saying) (front : SaysMore was mid (range_of from at body)) where
  pub part_more : (now : Saying) (bytes : List ℕ) → bytes ≡ part_of_body body at (to - at) → SaysMore mid now bytes → SaysMore was now (range_of from (next_at at to) body)
  part_more now bytes is says =
      subst (λ (t : List ℕ). SaysMore was now t) (ap (λ (b : List ℕ). range_of from at body ++ b) is ∙ range_more body from at to behind)
      (says_then was mid now (range_of from at body) bytes front says)

  pub part_cut : (now : Option (List ℕ)) (bytes : List ℕ) → at ≤ to → bytes ≡ part_of_body body at (to - at) → CutsIn mid now bytes → CutsIn was now (range_of from to body)
  part_cut now bytes before is cuts =
      let end : ℕ = next_at at to in
      let whole : range_of from at body ++ (bytes ++ range_of end to body) ≡ range_of from to body =
      sym (append_assoc (range_of from at body) bytes (range_of end to body))
      ∙ ap (λ (b : List ℕ). (range_of from at body ++ b) ++ range_of end to body) is
      ∙ ap (λ (b : List ℕ). b ++ range_of end to body) (range_more body from at to behind)
      ∙ range_rest body from end to (omega (arith, behind)) (omega (arith, before)) in
      subst (λ (t : List ℕ). CutsIn was now t) whole
      (cuts_then was mid now (range_of from at body) (bytes ++ range_of end to body) front (cuts_front mid now bytes (range_of end to body) cuts))

  pub range_stop : (now : Option (List ℕ)) → at < to → to ≤ length body → ((rest : List ℕ) → 0 < length rest → CutsIn mid now rest) → CutsIn was now (range_of from to body)
  range_stop now some inside cuts =
      subst (λ (t : List ℕ). CutsIn was now t) (range_rest body from at to behind (omega (arith, some)))
      (cuts_then was mid now (range_of from at body) (range_of at to body) front (cuts (range_of at to body) (rest_long body at to some inside)))
