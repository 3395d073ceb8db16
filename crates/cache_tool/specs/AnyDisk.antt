-- What is known of a put and of a single command on any disk, also on one that tells nothing.
use Rattle.std.specs.Io.KnownBytes.{Consumes}
use Rattle.std.specs.Prelude.{List, Option, [], codes, length, ℕ, ◌∷◌, ◌≡◌, ◌≤◌}
use Rattle.cache_theory.specs.Text.{line, refusal_words}
use Rattle.cache_theory.specs.declared.refusal.Refusal.{Refusal}
use Rattle.cache_theory.specs.declared.refusal.Refusal.TheVariants as refused

-- at most so many bytes were taken from the source, where it tells what it has left
abbrev pub TakesAtMost : ℕ → Option (List ℕ) → Option (List ℕ) → Type 0
TakesAtMost n left now = (taken : List ℕ) × (Consumes left now taken × (length taken ≤ n))

-- the line `ok`
abbrev pub ok_line : List ℕ
ok_line = line (codes "ok" ∷ [])

-- the line of some refusal
abbrev pub IsRefusalLine : List ℕ → Type 0
IsRefusalLine text = (r : Refusal) × (text ≡ line (refusal_words r))

-- the line of a body that is too long
abbrev pub too_large_line : List ℕ
too_large_line = line (refusal_words refused.TooLarge)
