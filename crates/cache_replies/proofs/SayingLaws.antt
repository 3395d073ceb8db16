-- What is said of a reply, piece by piece.
use Rattle.std.proofs.Common.{◌≡◌, ◌∙◌, ℕ, ◌<◌, List, [], ◌∷◌, ◌++◌, length, length-append, take, Option, sym, ap, subst, arith, append_assoc}
use Rattle.std.specs.Io.KnownBytes.{Appends}
use Rattle.std.proofs.KnownBytes.{Appends-nil}
use Rattle.std.proofs.lemmas.List.{take-append-le}
use Rattle.std.proofs.Math.Seq.{take-append_seam}
use Rattle.cache_replies.specs.Said.{IsCut, Said, Saying}
use Rattle.cache_replies.specs.Saying.{CutsIn, IsPart, SaysMore, StopsIn}

-- nothing was said so far
pub said_nothing : (now : Saying) → now.held ≡ [] → Said now.taken now []
said_nothing now none = record { front = []; out = Appends-nil now.taken; is = sym none }

-- what was said went out in part
pub said_part : (before : Option (List ℕ)) (now : Saying) (text : List ℕ) → Said before now text → IsPart before now.taken text
said_part before now text said = (
  length said.front,
  (
    (let long = ap length said.is ∙ length-append said.front now.held in omega (arith, long)),
    subst (Appends before now.taken) (sym (ap (take (length said.front)) said.is ∙ take-append_seam said.front now.held)) said.out,
  ),
)

pub cut_part : (before now : Option (List ℕ)) (text : List ℕ) → IsCut before now text → IsPart before now text
cut_part before now text cut = (cut.0, (let lt = cut.1.0 in omega (arith, lt), cut.1.1))

-- so does it with more after it
pub part_more : (before now : Option (List ℕ)) (text more : List ℕ) → IsPart before now text → IsPart before now (text ++ more)
part_more before now text more part = (
  part.0,
  (
    (let le = part.1.0 in let long = length-append text more in omega (arith, le, long)),
    subst (Appends before now) (sym (take-append-le part.0 text more part.1.0)) part.1.1,
  ),
)

pub part_cut : (before now : Option (List ℕ)) (text more : List ℕ) → 0 < length more → IsPart before now text → IsCut before now (text ++ more)
part_cut before now text more some part = (
  part.0,
  (
    (let le = part.1.0 in let long = length-append text more in omega (arith, le, long, some)),
    subst (Appends before now) (sym (take-append-le part.0 text more part.1.0)) part.1.1,
  ),
)

module _ (was : Saying) (now : Option (List ℕ)) where
  -- a cut in what comes before more
  pub cuts_front : (first more : List ℕ) → CutsIn was now first → CutsIn was now (first ++ more)
  cuts_front first more cuts before text said =
      let cut = cuts before text said in
      subst (IsCut before now) (append_assoc text first more) (
        cut.0,
        (
          (let lt = cut.1.0 in let long = length-append (text ++ first) more in omega (arith, lt, long)),
          subst (Appends before now) (sym (take-append-le cut.0 (text ++ first) more (let lt = cut.1.0 in omega (arith, lt)))) cut.1.1,
        ),
      )

  pub cuts_stop : (more : List ℕ) → CutsIn was now more → StopsIn was now more
  cuts_stop more cuts before text said = cut_part before now (text ++ more) (cuts before text said)

  pub stops_front : (first more : List ℕ) → StopsIn was now first → StopsIn was now (first ++ more)
  stops_front first more stops before text said = subst (IsPart before now) (append_assoc text first more) (part_more before now (text ++ first) more (stops before text said))

  -- a stop with something left to say
  pub stops_cut : (first more : List ℕ) → 0 < length more → StopsIn was now first → CutsIn was now (first ++ more)
  stops_cut first more some stops before text said = subst (IsCut before now) (append_assoc text first more) (part_cut before now (text ++ first) more some (stops before text said))

-- a stop with nothing more out
pub stops_here : (was : Saying) (more : List ℕ) → StopsIn was was.taken more
stops_here was more before text said = part_more before was.taken text more (said_part before was text said)

pub cuts_here : (was : Saying) (more : List ℕ) → 0 < length more → CutsIn was was.taken more
cuts_here was more some before text said = part_cut before was.taken text more some (said_part before was text said)

-- a line is left
pub cuts_line : (was : Saying) (words : List ℕ) → CutsIn was was.taken (words ++ 10 ∷ [])
cuts_line was words = cuts_here was (words ++ 10 ∷ []) (let long = length-append words (10 ∷ []) in omega (arith, long))

pub cuts_first : (was : Saying) (x : ℕ) (xs : List ℕ) → CutsIn was was.taken (x ∷ xs)
cuts_first was x xs = cuts_here was (x ∷ xs) (omega arith)

-- one piece after the other
pub says_then : (a b c : Saying) (first second : List ℕ) → SaysMore a b first → SaysMore b c second → SaysMore a c (first ++ second)
says_then a b c first second says more before text said = subst (Said before c) (append_assoc text first second) (more before (text ++ first) (says before text said))

pub cuts_then : (a b : Saying) (now : Option (List ℕ)) (first second : List ℕ) → SaysMore a b first → CutsIn b now second → CutsIn a now (first ++ second)
cuts_then a b now first second says more before text said = subst (IsCut before now) (append_assoc text first second) (more before (text ++ first) (says before text said))

pub stops_then : (a b : Saying) (now : Option (List ℕ)) (first second : List ℕ) → SaysMore a b first → StopsIn b now second → StopsIn a now (first ++ second)
stops_then a b now first second says more before text said = subst (IsPart before now) (append_assoc text first second) (more before (text ++ first) (says before text said))
