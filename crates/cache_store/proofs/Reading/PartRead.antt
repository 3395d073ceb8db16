-- What the machine replies to a read, and how many bytes that is.
use Rattle.std.proofs.Common.{Bool, true, false, ◌≡◌, ◌∙◌, ℕ, ◌+◌, ◌-◌, ◌%◌, ◌≤◌, List, [], ◌++◌, length, length-drop, min, take, drop, None, Option, Some, refl, sym, ap, subst, arith}
use Rattle.std.specs.Io.KnownBytes.{Appends}
use Rattle.std.specs.Prelude.{codes, nat_lt}
use Rattle.std.proofs.Math.Seq.{take-add, take-append_seam}
use Rattle.std.proofs.lemmas.Bool.{ltb-false, ltb-true}
use Rattle.cache_base.specs.Checks.{first_failing}
use Rattle.cache_theory.specs.Checks.{checks}
use Rattle.cache_theory.specs.Command.{Command}
use Rattle.cache_theory.specs.Command.Command.{ReadPart}
use Rattle.cache_theory.specs.Command.Reply.{Part, Refused}
use Rattle.cache_theory.specs.Machine.{Machine, object_of}
use Rattle.cache_theory.specs.Step.{step, stepped}
use Rattle.cache_theory.specs.declared.refusal.Refusal.{Refusal}
use Rattle.std.proofs.lemmas.List.{length-take, take_all, take_min}
use Rattle.cache_theory.specs.Text.{with_number}
use Rattle.file_handles.specs.Reading.{part_of_body}
use Rattle.cache_store.specs.Faulting.{SendsReplyFront, reply_front}
use Rattle.cache_replies.specs.Said.{Saying}
use Rattle.cache_replies.specs.Saying.{SendsFront}
use Rattle.cache_replies.proofs.SayingLaws.{said_nothing}

-- where the slot is in use
pub read_reply : (m : Machine) (slot from len : ℕ) → first_failing (checks m (ReadPart slot from len)) ≡ None → Part (take len (drop from (object_of m slot).version.body)) ≡ (step m (ReadPart slot from len)).reply
unfolding Rattle.cache_theory.specs.Step.effect
read_reply m slot from len passes = ap (λ o. (stepped m (ReadPart slot from len) o).reply) (sym passes)

-- and where it is not
pub refused_reply : (m : Machine) (c : Command) (r : Refusal) → first_failing (checks m c) ≡ Some r → Refused r ≡ (step m c).reply
refused_reply m c r fails = ap (λ o. (stepped m c o).reply) (sym fails)

module _ (body : List ℕ) (from len count : ℕ) (is : count ≡ min len (length body - from)) where
  pub count_is : count ≡ length (take count (drop from body))
  count_is = let long = length-take count (drop from body) in let rest = length-drop from body in omega (arith, is, long, rest)

  pub all_of : take count (drop from body) ≡ take len (drop from body)
  all_of =
      let rest = length-drop from body in
      let least : count ≡ min len (length (drop from body)) = omega (arith, is, rest) in
      ap (λ n. take n (drop from body)) least ∙ take_min len (drop from body)

-- the first of some bytes that are there
front_of_bytes : (xs : List ℕ) (count room : ℕ) → count ≤ length xs → take room (take count xs) ≡ take (min count room) xs
front_of_bytes xs count room there = go (nat_lt count room) refl
  where
    go : (b : Bool) → nat_lt count room ≡ b → take room (take count xs) ≡ take (min count room) xs
    go true lt =
        let less = ltb-true count room lt in
        let long = length-take count xs in
        take_all room (take count xs) (omega (arith, less, long)) ∙ ap (λ n. take n xs) (let e : count ≡ min count room = omega (arith, less) in e)
    go false lt =
        let more = ltb-false count room lt in
        let long = length-take room xs in
        let own : length (take room xs) ≡ room = omega (arith, more, long, there) in
        let sum : count ≡ room + (count - room) = omega (arith, more) in
        ap (λ n. take room (take n xs)) sum ∙ ap (take room) (take-add room (count - room) xs)
        ∙ ap (λ n. take n (take room xs ++ take (count - room) (drop room xs))) (sym own)
        ∙ take-append_seam (take room xs) (take (count - room) (drop room xs))
        ∙ ap (λ n. take n xs) (let e : room ≡ min count room = omega (arith, more) in e)

-- where the line and the first part are out, the reply is out up to its first chunk
pub read_front : (m : Machine) (slot from len at count : ℕ) → at ≡ from → count ≡ min len (length (object_of m slot).version.body - at) → first_failing (checks m (ReadPart slot from len)) ≡ None
    → (was : Saying) → was.held ≡ [] → (now : Option (List ℕ))
    → SendsFront was now (with_number (codes "data") count ++ part_of_body (object_of m slot).version.body at count) → SendsReplyFront (ReadPart slot from len) m was.taken now
read_front m slot from len at count same is passes was none now out =
    let body : List ℕ = (object_of m slot).version.body in
    let bytes : List ℕ = take len (drop from body) in
    let room : ℕ = 262144 - from % 262144 in
    let whole : take count (drop at body) ≡ bytes = all_of body at len count is ∙ ap (λ n. take len (drop n body)) same in
    let long : count ≡ length bytes = count_is body at len count is ∙ ap length whole in
    let part : part_of_body body at count ≡ take room bytes =
    ap (λ n. take (min count (262144 - n % 262144)) (drop n body)) same
    ∙ sym (front_of_bytes (drop from body) count room (let rest = length-drop from body in omega (arith, is, same, rest)))
    ∙ ap (take room) (ap (λ n. take count (drop n body)) (sym same) ∙ whole) in
    let front : with_number (codes "data") count ++ part_of_body body at count ≡ with_number (codes "data") (length bytes) ++ take room bytes =
    ap (λ n. with_number (codes "data") n ++ part_of_body body at count) long ∙ ap (λ l. with_number (codes "data") (length bytes) ++ l) part in
    let sent = out was.taken [] (said_nothing was none) in
    record {
      front = with_number (codes "data") (length bytes) ++ take room bytes;
      is_front = ap (reply_front (ReadPart slot from len)) (sym (read_reply m slot from len passes));
      more = sent.0;
      out = subst (λ (l : List ℕ). Appends was.taken now (l ++ sent.0)) front sent.1;
    }
