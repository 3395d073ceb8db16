-- A part of a reply that was said, and what completes it.
use Rattle.std.specs.Prelude.{List, Option, ℕ, ◌++◌, ◌≡◌, ◌≢◌}
use Rattle.std.specs.Io.KnownBytes.{Appends}
use Rattle.cache_replies.specs.Said.{IsCut, Said, Saying}
use Rattle.cache_theory.specs.Command.{Reply}
use Rattle.cache_theory.specs.Command.Reply.{Resumed}
use Rattle.cache_theory.specs.Text.{reply_text}

-- a part of the text was said, and the rest of the answer completes it
pub record SaysOf (text rest : List ℕ) (before : Option (List ℕ)) (now : Saying) : Type 0 where
  pub front : List ℕ
  pub said : Said before now front
  pub whole : front ++ rest ≡ text

-- of the reply's text a part went out, and not all; an empty one cannot be cut
abbrev pub IsReplyCut : Reply → Option (List ℕ) → Option (List ℕ) → Type 0
IsReplyCut r before now = r ≢ Resumed → IsCut before now (reply_text r)

-- the rest of an answer goes out after what was said, whatever the text that the two make up
abbrev pub SendsRest : List ℕ → Saying → Option (List ℕ) → Type 0
SendsRest rest was now =
    (text : List ℕ) (before : Option (List ℕ)) → SaysOf text rest before was → Appends before now text

-- of the two together a part goes out, and not all
abbrev pub CutsRest : List ℕ → Saying → Option (List ℕ) → Type 0
CutsRest rest was now =
    (text : List ℕ) (before : Option (List ℕ)) → SaysOf text rest before was → IsCut before now text
