-- The texts of some items, which are said one after the other.
use Rattle.std.proofs.Common.{◌≡◌, ◌<◌, ◌∙◌, ◌++◌, ℕ, arith, length, List, [], ◌∷◌, Option, refl, sym, ap, subst, append_assoc}
use Rattle.std.specs.Prelude.{flat_map}
use Rattle.std.proofs.lemmas.List.{append-nil}
use Rattle.std.proofs.lemmas.List.Concat.{flat_map-append}
use Rattle.cache_replies.specs.Said.{Said, Saying}
use Rattle.cache_replies.specs.Saying.{CutsIn, SaysMore}
use Rattle.cache_replies.proofs.SayingLaws.{cuts_front, cuts_line, cuts_then, says_then}

-- the texts of the first items were said, and those of the others complete the whole
pub record SaysFront {X : Type 0} (text : X → List ℕ) (xs left : List X) (was now : Saying) : Type 0 where
  pub front : List ℕ
  pub says : SaysMore was now front
  pub whole : front ++ flat_map text left ≡ flat_map text xs

-- some next ones too, or they were cut
module _ {X : Type 0} (text : X → List ℕ) (xs left part rest : List X) (was now : Saying) (front : SaysFront text xs left was now) (first : left ≡ part ++ rest) where
  with_part : (front.front ++ flat_map text part) ++ flat_map text rest ≡ flat_map text xs
  with_part =
      append_assoc front.front (flat_map text part) (flat_map text rest)
      ∙ ap (λ ys. front.front ++ ys) (sym (flat_map-append text part rest)) ∙ ap (λ ys. front.front ++ flat_map text ys) (sym first) ∙ front.whole

  pub says_part : (later : Saying) → SaysMore now later (flat_map text part) → SaysFront text xs rest was later
  says_part later says = record { front = front.front ++ flat_map text part; says = says_then was now later front.front (flat_map text part) front.says says; whole = with_part }

  pub cuts_part : (out : Option (List ℕ)) → CutsIn now out (flat_map text part) → CutsIn was out (flat_map text xs)
  cuts_part out cuts =
      subst (λ (t : List ℕ). CutsIn was out t) with_part
      (cuts_front was out (front.front ++ flat_map text part) (flat_map text rest) (cuts_then was now out front.front (flat_map text part) front.says cuts))

-- none was said yet
pub says_begin : {X : Type 0} (text : X → List ℕ) (xs : List X) (was : Saying) → SaysFront text xs xs was was
says_begin text xs was = record { front = []; says = λ before said is. subst (Said before was) (sym (append-nil said)) is; whole = refl }

-- and all
pub says_all : {X : Type 0} (text : X → List ℕ) (xs left : List X) (was now : Saying) → left ≡ [] → SaysFront text xs left was now → SaysMore was now (flat_map text xs)
says_all text xs left was now none front =
    subst (λ (t : List ℕ). SaysMore was now t) (sym (append-nil front.front) ∙ ap (λ ys. front.front ++ flat_map text ys) (sym none) ∙ front.whole) front.says

-- where some are left, nothing more went out
pub cuts_before : {X : Type 0} (text words : X → List ℕ) (xs left : List X) (was now : Saying) → ((x : X) → text x ≡ words x ++ 10 ∷ []) → 0 < length left → SaysFront text xs left was now
    → CutsIn was now.taken (flat_map text xs)
cuts_before text words xs [] was now is_line some front = absurd (omega (arith, some))
cuts_before text words xs (x ∷ more) was now is_line some front =
    cuts_part text xs (x ∷ more) (x ∷ more) [] was now front (sym (append-nil (x ∷ more))) now.taken
    (cuts_front now now.taken (text x) (flat_map text more) (subst (λ (t : List ℕ). CutsIn now now.taken t) (sym (is_line x)) (cuts_line now (words x))))
