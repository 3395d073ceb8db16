use Rattle.std.proofs.Common.{rules}
use Rattle.alt_data.proofs.GrownHashes.{if_pushed, joined_pushed}
use Rattle.alt_data.proofs.hashes.push_joined.Goals as goal

pub returns : goal.returns
returns c =
    if_pushed c.push_hashes.result
    (λ done. joined_pushed c.args.hashes.now c.push.new.self c.push_hashes.new.hashes c.args.part.now c.split_at.result.0.now c.as_slice-2.result.now c.args.more.now c.split_at.result.1.now _ _
    c.requires.some c.requires.short (search rules) c.split_at.ensures.front c.split_at.ensures.back (search rules) c.chunk_hash.ensures c.in_ok-push.ensures.ok done)
    c.push_hashes.ensures
