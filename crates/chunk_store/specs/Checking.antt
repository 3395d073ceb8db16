-- The check of a chunk by its hash.
use Rattle.std.specs.Prelude.{ℕ, List, ◌==◌, if◌then◌else◌}
use Rattle.chunk_store.specs.declared.checking.ChunkAnswer.{ChunkAnswer}
use Rattle.chunk_store.specs.declared.checking.ChunkAnswer.TheVariants.{Fits, Differs}
use Rattle.chunk_store.specs.Chunks.{chunk_hash_of}

-- a chunk of these bytes fits where its hash is the stored one, and else differs, with both hashes
abbrev pub answer_to : ℕ → List ℕ → ChunkAnswer
answer_to stored bytes = if chunk_hash_of bytes == stored then Fits else Differs stored (chunk_hash_of bytes)
