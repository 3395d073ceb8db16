-- A chunk that is put first in the list of those that are held.
use Rattle.std.proofs.Common.{◌≡◌, ◌∙◌, ℕ, zero, suc, Bool, true, false, cond, List, [], ◌∷◌, take, Option, Some, None, IsSome, refl, ap}
use Rattle.std.specs.Option.{option_map_or}
use Rattle.chunk_cache.specs.Cached.{CachedChunk, bytes_of, cached, first_with, is_chunk, looked_at, others, with_chunk, with_room}
use Rattle.chunk_cache.proofs.Chunks.{is_own, others-none}
use Rattle.chunk_cache.proofs.Lookups.{keep_after}
use Rattle.handle_table.specs.HeldChunks.{PutsFirst}

module _ (number index : ℕ) where
  -- the chunk is not among the others, nor among some of them
  not_among : (chunks : List CachedChunk) → bytes_of number index (others number index chunks) ≡ None
  not_among [] = refl
  not_among (chunk ∷ chunks) = here (not_among chunks) (is_chunk number index chunk) refl
    where
      here : bytes_of number index (others number index chunks) ≡ None → (b : Bool) → is_chunk number index chunk ≡ b
          → bytes_of number index (others number index (chunk ∷ chunks)) ≡ None
      here later true t = rw t later
      here later false t = rw (t, t) later

  not_in_some : (n : ℕ) (chunks : List CachedChunk) → bytes_of number index chunks ≡ None → bytes_of number index (take n chunks) ≡ None
  not_in_some zero chunks h = refl
  not_in_some (suc n) [] h = refl
  not_in_some (suc n) (chunk ∷ chunks) h = here (not_in_some n chunks) (is_chunk number index chunk) refl h
    where
      here : (bytes_of number index chunks ≡ None → bytes_of number index (take n chunks) ≡ None) → (b : Bool) → is_chunk number index chunk ≡ b
          → cond b (Some chunk.bytes) (bytes_of number index chunks) ≡ None → bytes_of number index (chunk ∷ take n chunks) ≡ None
      here later true t g = cc
      here later false t g = rw t (later g)

  -- a look at the first chunk changes nothing
  first_again : (bytes : List ℕ) (rest : List CachedChunk) → bytes_of number index rest ≡ None → looked_at number index (cached number index bytes ∷ rest) ≡ cached number index bytes ∷ rest
  first_again bytes rest none = rw (is_own number index bytes) (ap (λ chunks. cached number index bytes ∷ chunks) (others-none number index rest none))

  looked_again : (chunks : List CachedChunk) → looked_at number index (looked_at number index chunks) ≡ looked_at number index chunks
  looked_again chunks = by_found (bytes_of number index chunks) refl
    where
      by_found : (o : Option (List ℕ)) → bytes_of number index chunks ≡ o
          → looked_at number index (option_map_or (λ bytes. first_with number index bytes chunks) o chunks) ≡ option_map_or (λ bytes. first_with number index bytes chunks) o chunks
      by_found None h = rw h refl
      by_found (Some bytes) h = first_again bytes (others number index chunks) (not_among chunks)

  kept_again : (bytes : List ℕ) (chunks : List CachedChunk) → looked_at number index (with_chunk number index bytes chunks) ≡ with_chunk number index bytes chunks
  kept_again bytes chunks = first_again bytes (take 31 (others number index chunks)) (not_in_some 31 (others number index chunks) (not_among chunks))

  -- a look at a chunk that is not held changes nothing
  pub unlooked : (chunks : List CachedChunk) → bytes_of number index chunks ≡ None → looked_at number index chunks ≡ chunks
  unlooked chunks none = rw none refl

  -- held or not
  never_both : (chunks : List CachedChunk) → IsSome (bytes_of number index chunks) → bytes_of number index chunks ≡ None → ⊥
  never_both chunks some none = go (bytes_of number index chunks) some none
    where
      go : (o : Option (List ℕ)) → IsSome o → o ≡ None → ⊥
      go None some none = cc
      go (Some bytes) some none = cc

  -- a chunk that was held is put first by a look
  pub looked_put : (before after : List CachedChunk) → IsSome (bytes_of number index before) → after ≡ looked_at number index before → PutsFirst number index before after
  looked_put before after some is = record { held = λ held. is; bytes = []; read = λ none. absurd (never_both before some none) }

  -- and one that was read when it is kept
  pub kept_put : (before after : List CachedChunk) (bytes : List ℕ) → bytes_of number index before ≡ None → after ≡ with_chunk number index bytes (with_room (looked_at number index before)) → PutsFirst number index before after
  kept_put before after bytes none is = record {
    held = λ some. absurd (never_both before some none);
    bytes = bytes;
    read = λ none. is ∙ ap (λ chunks. with_chunk number index bytes (with_room chunks)) (unlooked before none) ∙ keep_after number index bytes before none;
  }

  -- another look changes nothing then
  pub put_again : (before mid after : List CachedChunk) → PutsFirst number index before mid → after ≡ looked_at number index mid → PutsFirst number index before after
  put_again before mid after put is = record {
    held = λ some. is ∙ ap (looked_at number index) (put.held some) ∙ looked_again before;
    bytes = put.bytes;
    read = λ none. is ∙ ap (looked_at number index) (put.read none) ∙ kept_again put.bytes before;
  }
