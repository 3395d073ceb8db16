use Rattle.std.proofs.Common.{ap, ◌∙◌}
use Rattle.cache_base.specs.Bytes.{be32_at}
use Rattle.record_list.proofs.FirstFault as fault
use Rattle.record_list.proofs.reading.groups_of.Goals as goal

pub returns-then-not-is_empty-clause-fault : goal.returns-then-not-is_empty-clause-fault
returns-then-not-is_empty-clause-fault c =
    fault.other_length c.args.part.now _ _ _ c.split_at.ensures.front c.as_chunks.ensures.back_len c.is_empty.ensures c.if-not-is_empty.true

pub returns-then-u32_at-hash-clause-fault : goal.returns-then-u32_at-hash-clause-fault
returns-then-u32_at-hash-clause-fault c =
    fault.other_hash c.args.part.now _ _ _ c.split_at.ensures.front c.as_chunks.ensures.back_len c.is_empty.ensures c.if-not-is_empty.false
    c.u32_at.result c.hash.result (c.u32_at.ensures ∙ ap (λ xs. be32_at xs 0) c.split_at.ensures.back) c.hash.ensures
    c.if-u32_at-hash.true

pub returns-clause-names : goal.returns-clause-names
returns-clause-names c =
    fault.names_left c.args.part.now _ _ _ c.split_at.ensures.front c.as_chunks.ensures.back_len c.is_empty.ensures c.if-not-is_empty.false
    c.u32_at.result c.hash.result (c.u32_at.ensures ∙ ap (λ xs. be32_at xs 0) c.split_at.ensures.back) c.hash.ensures
    c.if-u32_at-hash.false
