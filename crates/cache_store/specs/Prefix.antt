-- What a file begins with.
use Rattle.std.specs.Prelude.{IfSome, List, Option, Some, drop, length, take, ℕ, ◌-◌, ◌≡◌, ◌≤◌}
use Rattle.chunk_store.specs.Chunks.{chunk}
use Rattle.disk_theory.specs.State.{State, standing}
use Rattle.disk_theory.specs.declared.place.Place.{Place}

-- the bytes are this chunk of the body of so many bytes at the beginning of the file, if there is one that has so many
abbrev pub HasChunkAt : Option (List ℕ) → ℕ → ℕ → List ℕ → Type 0
HasChunkAt file len index bytes =
    IfSome file (λ content. len ≤ length content → bytes ≡ chunk (take len content) index)

-- P of the first bytes of the file at the place, if one stands there that has so many
abbrev pub ForPrefix : State → Place → ℕ → (List ℕ → Type 0) → Type 0
ForPrefix s place len P =
    (content : List ℕ) → standing s place ≡ Some content → len ≤ length content → P (take len content)

-- the bytes of a body from a place on, up to another
abbrev pub range_of : ℕ → ℕ → List ℕ → List ℕ
range_of from to body = take (to - from) (drop from body)
