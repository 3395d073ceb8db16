-- The text of an entry.
use Rattle.std.specs.Prelude.{List, [], ℕ, ◌++◌, ◌∷◌}
use Rattle.cache_replies.specs.Texts.{found_line}
use Rattle.entry_metadata.specs.Metadata.{Meta}
use Rattle.entry_parts.specs.Elements.{elements_bytes}

-- of an entry of these metadata, but for its body
abbrev pub head_text : Meta → List ℕ
head_text m = found_line m ++ (elements_bytes m.elements ++ 10 ∷ [])

-- the whole, with this body
abbrev pub entry_text : Meta → List ℕ → List ℕ
entry_text m body = head_text m ++ (body ++ 10 ∷ [])
