use Rattle.std.proofs.Common.{ℕ, ◌++◌, take, refl, ap, ◌∙◌}
use Rattle.std.proofs.lemmas.Result.{err_from_is_err_and}
use Rattle.std.proofs.Math.Seq.{take-append_seam}
use Rattle.cache_base.specs.Bytes.{be32}
use Rattle.cache_export.specs.Dump.{back_bytes}
use Rattle.cache_export.proofs.WritingLaws.{back_cut, back_some, first_cut, last_out, no_cut}
use Rattle.entry_metadata.specs.Meta.{meta_of}
use Rattle.entry_metadata.specs.Metadata.{block_bytes}
use Rattle.cache_export.proofs.writing.item_back.Goals as goal

pub returns-in_default-clause-out : goal.returns-in_default-clause-out
returns-in_default-clause-out g c = no_cut _ _ (back_some (block_bytes (meta_of c.args.meta.now)))

pub returns-in_err-write_whole-clause-out : goal.returns-in_err-write_whole-clause-out
returns-in_err-write_whole-clause-out g c =
    let block = block_bytes (meta_of c.args.meta.now) in
    let failed = err_from_is_err_and c.from_residual.result c.from_residual.ensures.1 in
    rw failed.1 (first_cut _ _ (back_bytes block) c.to_be_bytes-lead.result block (back_cut block c.to_be_bytes-lead.result block (c.to_be_bytes-lead.ensures ∙ ap be32 c.block_len-len.ensures) refl) c.in_err-write_whole.ensures.part)

pub returns-clause-out : goal.returns-clause-out
returns-clause-out g c =
    let block = block_bytes (meta_of c.args.meta.now) in
    let out = ap (take c.block_len-len.result) (c.as_slice.ensures ∙ c.in-Ok.ensures.bytes) ∙ ap (λ (n : ℕ). take n (block ++ be32 c.args.meta.now.offset)) c.block_len-len.ensures ∙ take-append_seam block (be32 c.args.meta.now.offset) in
    last_out c.write_whole-2.result _ _ _ (back_bytes block) c.to_be_bytes-lead.result c.split_at.result.0.now (back_cut block c.to_be_bytes-lead.result c.split_at.result.0.now (c.to_be_bytes-lead.ensures ∙ ap be32 c.block_len-len.ensures) (c.split_at.ensures.front ∙ out))
    c.in_ok-write_whole.ensures.all c.write_whole-2.ensures.all c.write_whole-2.ensures.part
