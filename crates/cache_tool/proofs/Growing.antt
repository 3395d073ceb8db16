-- What a sink took only grows.
use Rattle.std.proofs.Common.{List, [], ◌++◌, Option, ℕ, take}
use Rattle.std.specs.Io.KnownBytes.{Appends}
use Rattle.std.proofs.KnownBytes.{Appends-nil, Appends-trans}
use Rattle.cache_replies.specs.Said.{IsCut}
use Rattle.cache_replies.specs.Saying.{IsPart, TakesMore}

pub takes_none : (now : Option (List ℕ)) → TakesMore now now
takes_none now = ([], Appends-nil now)

pub takes_on : (before mid now : Option (List ℕ)) → TakesMore before mid → TakesMore mid now → TakesMore before now
takes_on before mid now first second = (first.0 ++ second.0, Appends-trans before mid now first.0 second.0 first.1 second.1)

-- a text, or a part of it
pub takes_text : (before now : Option (List ℕ)) (text : List ℕ) → Appends before now text → TakesMore before now
takes_text before now text out = (text, out)

pub takes_part : (before now : Option (List ℕ)) (text : List ℕ) → IsPart before now text → TakesMore before now
takes_part before now text (n, (within, out)) = (take n text, out)

pub takes_cut : (before now : Option (List ℕ)) (text : List ℕ) → IsCut before now text → TakesMore before now
takes_cut before now text (n, (short, out)) = (take n text, out)
