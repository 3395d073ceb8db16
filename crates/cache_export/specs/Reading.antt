-- What is reached in a dump by reading on.
use Rattle.std.specs.Prelude.{◌≡◌, ℕ, List, [], ◌∷◌, ◌++◌}
use Rattle.std.specs.declared.option.Option.{Option}
use Rattle.std.specs.Io.KnownBytes.{IsAtEnd}
use Rattle.cache_export.specs.Dump.{head}
use Rattle.cache_export.specs.Front.{front_at}
use Rattle.cache_export.specs.declared.front.Due.{Due}
use Rattle.cache_export.specs.declared.front.Due.TheVariants as due
use Rattle.cache_export.specs.declared.front.Front.TheVariants.{Whole, More, Bad}
use Rattle.cache_export.specs.declared.reading.Next.{Next}
use Rattle.cache_export.specs.declared.reading.Next.TheVariants as next

-- the bytes end a dump, where this is due
abbrev pub IsEnd : Due → List ℕ → Type 0
IsEnd due.Head bytes = bytes ≡ head ++ 0 ∷ []
IsEnd due.Item bytes = bytes ≡ 0 ∷ []
IsEnd due.Length bytes = ⊥
IsEnd due.Body bytes = ⊥

-- The dump is bad: the bytes that are held show it, or the source ends after them, within a part.
pub data IsStuck (d : Due) (left used : ℕ) (bytes : List ℕ) (rest : Option (List ℕ)) : Type 0 where
  Shown : front_at d left used bytes ≡ Bad → IsStuck d left used bytes rest
  Cut : front_at d left used bytes ≡ More → IsAtEnd rest → ¬ (IsEnd d bytes) → IsStuck d left used bytes rest

-- what comes next, with these bytes held and these left in the source
abbrev pub Reached : Due → ℕ → ℕ → Next → List ℕ → Option (List ℕ) → Type 0
Reached d left used (next.Part n) bytes rest = front_at d left used bytes ≡ Whole n
Reached d left used next.End bytes rest = (front_at d left used bytes ≡ More) × (IsEnd d bytes × IsAtEnd rest)
Reached d left used next.Bad bytes rest = IsStuck d left used bytes rest
