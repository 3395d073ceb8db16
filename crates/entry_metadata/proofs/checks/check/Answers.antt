use Rattle.std.proofs.Common.{sym, ap, ◌∙◌}
use Rattle.jenkins_hash.specs.Hash.{hash_of}
use Rattle.entry_metadata.proofs.FirstFault.{short, too_big, version, key_end_short, key_end_out, key_end_other, other_hash, key_form, passed, all_behind, is_err-reads, above, below}
use Rattle.entry_metadata.proofs.checks.check.Goals as goal

pub returns-then-block-header_place-clause-fault : goal.returns-then-block-header_place-clause-fault
returns-then-block-header_place-clause-fault c =
    short c.args.block.now c.args.offset c.hash_count.result c.hash_count.ensures c.if-block-header_place.true

pub returns-then-block-block_max-clause-fault : goal.returns-then-block-block_max-clause-fault
returns-then-block-block_max-clause-fault c =
    too_big c.args.block.now c.args.offset c.hash_count.result c.hash_count.ensures
    c.u32_at-version.result c.u32_at-version.ensures c.if-block-header_place.false (above c.block_max.ensures c.if-block-block_max.true)

pub returns-then-not-is_version-clause-fault : goal.returns-then-not-is_version-clause-fault
returns-then-not-is_version-clause-fault c =
    version c.args.block.now c.args.offset c.hash_count.result c.hash_count.ensures
    c.u32_at-version.result c.u32_at-version.ensures c.if-block-header_place.false (below c.block_max.ensures c.if-block-block_max.false) (sym c.if-not-is_version.ensures)

pub returns-then-block-key_place-clause-fault : goal.returns-then-block-key_place-clause-fault
returns-then-block-key_place-clause-fault c =
    key_end_short c.args.block.now c.args.offset c.hash_count.result c.hash_count.ensures
    c.u32_at-version.result c.u32_at-version.ensures c.if-block-header_place.false (below c.block_max.ensures c.if-block-block_max.false) (sym c.if-not-is_version.ensures)
    c.header_len.result c.header_len.ensures.number c.if-block-key_place.true

pub returns-then-key_end-block-clause-fault : goal.returns-then-key_end-block-clause-fault
returns-then-key_end-block-clause-fault c =
    key_end_out c.args.block.now c.args.offset c.hash_count.result c.hash_count.ensures
    c.u32_at-version.result c.u32_at-version.ensures c.if-block-header_place.false (below c.block_max.ensures c.if-block-block_max.false) (sym c.if-not-is_version.ensures)
    c.header_len.result c.header_len.ensures.number c.header_at-header.result c.header_at-header.ensures c.if-key_end-block.true

pub returns-then-block-key_end-ne0-clause-fault : goal.returns-then-block-key_end-ne0-clause-fault
returns-then-block-key_end-ne0-clause-fault c =
    key_end_other c.args.block.now c.args.offset c.hash_count.result c.hash_count.ensures
    c.u32_at-version.result c.u32_at-version.ensures c.if-block-header_place.false (below c.block_max.ensures c.if-block-block_max.false) (sym c.if-not-is_version.ensures)
    c.header_len.result c.header_len.ensures.number c.header_at-header.result c.header_at-header.ensures c.if-key_end-block.false c.if-block-key_end-ne0.true

pub returns-then-u32_at-hash-clause-fault : goal.returns-then-u32_at-hash-clause-fault
returns-then-u32_at-hash-clause-fault c =
    other_hash c.args.block.now c.args.offset c.hash_count.result c.hash_count.ensures
    c.u32_at-version.result c.u32_at-version.ensures c.if-block-header_place.false (below c.block_max.ensures c.if-block-block_max.false) (sym c.if-not-is_version.ensures)
    c.header_len.result c.header_len.ensures.number c.header_at-header.result c.header_at-header.ensures c.if-key_end-block.false c.if-block-key_end-ne0.false
    (λ e. c.if-u32_at-hash.true (c.u32_at.ensures ∙ e ∙ sym (c.hash.ensures ∙ ap hash_of (all_behind c.args.block.now 4))))

pub returns-then-is_err-clause-fault : goal.returns-then-is_err-clause-fault
returns-then-is_err-clause-fault c =
    key_form c.args.block.now c.args.offset c.hash_count.result c.hash_count.ensures
    c.u32_at-version.result c.u32_at-version.ensures c.if-block-header_place.false (below c.block_max.ensures c.if-block-block_max.false) (sym c.if-not-is_version.ensures)
    c.header_len.result c.header_len.ensures.number c.header_at-header.result c.header_at-header.ensures c.if-key_end-block.false c.if-block-key_end-ne0.false
    (sym c.u32_at.ensures ∙ c.if-u32_at-hash.false ∙ c.hash.ensures ∙ ap hash_of (all_behind c.args.block.now 4))
    (is_err-reads _ c.parse.result _ (sym c.if-is_err.true ∙ c.is_err.ensures.value) c.parse.ensures.tags c.parse.ensures.fault)

pub returns-clause-passed : goal.returns-clause-passed
returns-clause-passed c =
    passed c.args.block.now c.args.offset c.hash_count.result c.hash_count.ensures
    c.u32_at-version.result c.u32_at-version.ensures c.if-block-header_place.false (below c.block_max.ensures c.if-block-block_max.false) (sym c.if-not-is_version.ensures)
    c.header_len.result c.header_len.ensures.number c.header_at-header.result c.header_at-header.ensures c.if-key_end-block.false c.if-block-key_end-ne0.false
    (sym c.u32_at.ensures ∙ c.if-u32_at-hash.false ∙ c.hash.ensures ∙ ap hash_of (all_behind c.args.block.now 4))
    (is_err-reads _ c.parse.result _ (sym c.if-is_err.false ∙ c.is_err.ensures.value) c.parse.ensures.tags c.parse.ensures.fault)
