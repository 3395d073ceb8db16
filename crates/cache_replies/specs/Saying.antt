-- What a call adds to a reply, whatever was said of it before.
use Rattle.std.specs.Prelude.{List, Option, length, take, ℕ, ◌++◌, ◌≡◌, ◌≤◌}
use Rattle.std.specs.Io.KnownBytes.{Appends}
use Rattle.cache_replies.specs.Said.{IsCut, Said, Saying}

-- a part of the text went out, or all of it
abbrev pub IsPart : Option (List ℕ) → Option (List ℕ) → List ℕ → Type 0
IsPart before now text = (n : ℕ) × ((n ≤ length text) × Appends before now (take n text))

-- the sink took more bytes, or none
abbrev pub TakesMore : Option (List ℕ) → Option (List ℕ) → Type 0
TakesMore before now = (out : List ℕ) × Appends before now out

-- after what was said, this was said too
abbrev pub SaysMore : Saying → Saying → List ℕ → Type 0
SaysMore was now more =
    (before : Option (List ℕ)) (text : List ℕ) → Said before was text
    → Said before now (text ++ more)

-- what was said, with this after it, was cut: of the two together a part went out, and not all
abbrev pub CutsIn : Saying → Option (List ℕ) → List ℕ → Type 0
CutsIn was now more =
    (before : Option (List ℕ)) (text : List ℕ) → Said before was text
    → IsCut before now (text ++ more)

-- of the two together a part went out, or all
abbrev pub StopsIn : Saying → Option (List ℕ) → List ℕ → Type 0
StopsIn was now more =
    (before : Option (List ℕ)) (text : List ℕ) → Said before was text
    → IsPart before now (text ++ more)

-- this part was said, and this is its length
pub record SaysPart (n : ℕ) (was now : Saying) (part : List ℕ) : Type 0 where
  pub len : n ≡ length part
  pub says : SaysMore was now part

-- what was said went out whole
abbrev pub SendsAll : Saying → Option (List ℕ) → Type 0
SendsAll was now =
    (before : Option (List ℕ)) (text : List ℕ) → Said before was text → Appends before now text

-- it did, with this after it, and maybe more
abbrev pub SendsFront : Saying → Option (List ℕ) → List ℕ → Type 0
SendsFront was now front =
    (before : Option (List ℕ)) (text : List ℕ) → Said before was text
    → (more : List ℕ) × Appends before now ((text ++ front) ++ more)

-- or was cut
abbrev pub CutsAll : Saying → Option (List ℕ) → Type 0
CutsAll was now =
    (before : Option (List ℕ)) (text : List ℕ) → Said before was text → IsCut before now text
