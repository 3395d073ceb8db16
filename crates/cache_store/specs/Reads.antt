-- What a `read` finds held, and what it leaves so.
use Rattle.std.specs.Prelude.{Some, if◌then◌else◌, is_some, min, ℕ, ⊤, ◌+◌, ◌<◌, ◌≡◌, ◌≤◌, ◌⊎◌}
use Rattle.chunk_cache.specs.Cached.{StandsFirst}
use Rattle.cache_replies.specs.declared.verdict.Verdict.{Verdict}
use Rattle.cache_replies.specs.declared.verdict.Verdict.TheVariants as outcome
use Rattle.cache_theory.specs.Command.{Command}
use Rattle.cache_theory.specs.Command.Command.{Close, PutAlt, ReadPart}
use Rattle.file_handles.specs.Closing.{chunks_closed}
use Rattle.handle_table.specs.Held.{body_len_in}
use Rattle.handle_table.specs.HeldChunks.{SameChunks}
use Rattle.handle_table.specs.Kept.{Kept, object_in, use_at}
use Rattle.file_handles.specs.PuttingAlt.{chunks_but_own}
use Rattle.file_handles.specs.Reading.{IsOfChunk, IsPartHeld}
use Rattle.handle_table.specs.declared.object.Object.{Object}

-- of these bytes of the body each that is on the disk is in a chunk that is held
abbrev pub AreHeld : Kept → ℕ → ℕ → ℕ → Type 0
AreHeld k slot from len = (at : ℕ) → from ≤ at → at < from + len → IsPartHeld k slot at 1

-- the last of these bytes, as far as the body goes, is in the chunk that is the most recent, if it is on the disk
abbrev pub LastIsFirst : Kept → ℕ → ℕ → ℕ → Kept → Type 0
LastIsFirst before slot from len after =
    (x : Object) (at number index : ℕ) → object_in before slot ≡ Some x → from ≤ at
    → at + 1 ≡ min (from + len) (body_len_in x.entry) → IsOfChunk x at 1 number index
    → StandsFirst number index after.chunks

-- a `putalt` with this outcome drops the chunks of its own entry alone, and one that is refused drops none
abbrev pub PutsChunks : Verdict → ℕ → Kept → Kept → Type 0
PutsChunks outcome.Ok slot before after = after.chunks ≡ chunks_but_own before slot
PutsChunks outcome.Refused slot before after = SameChunks before after

-- the chunks that are held after a command: those of before, but for a `read`; a `close` drops those of its own entry
-- alone, with the last slot of the entry; and a `putalt` those of its own entry alone, or none
abbrev pub LeavesChunks : Command → Kept → Kept → Type 0
LeavesChunks (ReadPart slot from len) before after = ⊤
LeavesChunks (Close slot) before after =
    after.chunks ≡ (if is_some (use_at after slot) then before.chunks else chunks_closed before slot)
LeavesChunks (PutAlt slot kind bytes) before after =
    SameChunks before after ⊎ (after.chunks ≡ chunks_but_own before slot)
LeavesChunks c before after = SameChunks before after
