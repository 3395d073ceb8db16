use Rattle.std.proofs.Common.{rules}
use Rattle.alt_data.proofs.GrownHashes.{next_hash}
use Rattle.alt_data.proofs.hashes.push_hashes.Goals as goal

pub loop-rest-preserved : goal.loop-rest-preserved
loop-rest-preserved c =
    next_hash c.loop-rest.hashes c.push.new.self c.loop-rest.rest.now c.split_at.result.0.now c.split_at.result.1.now _ _ _
    (search rules) (search rules) c.split_at.ensures.front c.split_at.ensures.back c.chunk_hash.ensures c.in_ok-push.ensures.ok c.loop-rest.invariant
