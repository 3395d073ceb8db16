-- What was said, and more after it.
use Rattle.std.proofs.Common.{◌≡◌, ◌+◌, ◌++◌, ◌∙◌, ℕ, List, [], length, take, Result, Ok, Err, OnOk, OnErr, subst, sym, ap, arith, length-append, refl}
use Rattle.std.specs.declared.option.Option.{Option}
use Rattle.std.specs.Io.KnownBytes.{Appends}
use Rattle.std.proofs.KnownBytes.{Appends-trans}
use Rattle.std.proofs.lemmas.List.{append-nil, take-append-le}
use Rattle.std.proofs.Math.Seq.{take-append-add}
use Rattle.cache_replies.specs.Said.{IsCut, Said, Saying}

-- all that was held went out
pub said_sent : (before : Option (List ℕ)) (was : Saying) (now : Option (List ℕ)) (text : List ℕ) → Said before was text → Appends was.taken now was.held → Appends before now text
said_sent before was now text said all =
    subst (Appends before now) (sym said.is) (Appends-trans before was.taken now said.front was.held said.out all)

-- a part of it did
pub said_cut : (before : Option (List ℕ)) (was : Saying) (now : Option (List ℕ)) (text : List ℕ) → Said before was text → IsCut was.taken now was.held → IsCut before now text
said_cut before was now text said cut =
    let n = cut.0 in
    let is : take (length said.front + n) text ≡ said.front ++ take n was.held = ap (take (length said.front + n)) said.is ∙ take-append-add said.front was.held n in (
      length said.front + n,
      (omega (arith, cut.1.0, ap length said.is, length-append said.front was.held), subst (Appends before now) (sym is) (Appends-trans before was.taken now said.front (take n was.held) said.out cut.1.1)),
    )

-- of a longer text a part went out, too
pub cut_more : (before now : Option (List ℕ)) (text more : List ℕ) → IsCut before now text → IsCut before now (text ++ more)
cut_more before now text more cut = (
  cut.0,
  (omega (arith, cut.1.0, length-append text more), subst (Appends before now) (sym (take-append-le cut.0 text more (omega (arith, cut.1.0)))) cut.1.1),
)

-- all went out, and more after it
pub said_after : (before mid now : Option (List ℕ)) (text more : List ℕ) → Appends before mid text → Appends mid now more → Said before (record { taken = now; held = [] }) (text ++ more)
said_after before mid now text more all out = record {
  front = text ++ more;
  out = Appends-trans before mid now text more all out;
  is = sym (append-nil (text ++ more));
}

-- and a part of more
pub cut_after : (before mid now : Option (List ℕ)) (text more : List ℕ) → Appends before mid text → IsCut mid now more → IsCut before now (text ++ more)
cut_after before mid now text more all cut =
    said_cut before (record { taken = mid; held = more }) now (text ++ more) (record { front = text; out = all; is = refl }) cut

-- what holds in any case holds with an answer, and after a failure
pub when_ok : {A E : Type 0} (r : Result A E) (P : Type 0) → P → OnOk r P
when_ok (Ok a) P h = h
when_ok (Err e) P h = tt

pub when_err : {A E : Type 0} (r : Result A E) (P : Type 0) → P → OnErr r P
when_err (Ok a) P h = tt
when_err (Err e) P h = h

-- what follows from it
pub of_ok : {A E : Type 0} (r : Result A E) (P Q : Type 0) → (P → Q) → OnOk r P → OnOk r Q
of_ok (Ok a) P Q f h = f h
of_ok (Err e) P Q f h = tt

pub of_err : {A E : Type 0} (r : Result A E) (P Q : Type 0) → (P → Q) → OnErr r P → OnErr r Q
of_err (Ok a) P Q f h = tt
of_err (Err e) P Q f h = f h
