use Rattle.std.proofs.Common.{ℕ, List, ◌++◌, ◌-◌, length, take, ap, ◌∙◌}
use Rattle.std.specs.Prelude.{replicate}
use Rattle.chunk_store.specs.Stored.{stop_tail}
use Rattle.chunk_store.proofs.Filled.{cut_back}
use Rattle.chunk_store.proofs.appending.append_chunk.Goals as goal

pub returns-clause-buf : goal.returns-clause-buf
returns-clause-buf g c =
    c.set_len.ensures
    ∙ ap (λ (bytes : List ℕ). take 262144 bytes ++ replicate (262144 - length bytes) 0) c.push_tail.ensures
    ∙ cut_back 262144 c.args.buf.now stop_tail c.requires.full
