use Rattle.std.proofs.Common.{length, ap, arith}
use Rattle.entry_metadata.specs.Meta.{meta_of}
use Rattle.entry_metadata.proofs.PrintedBlock.{length-block}
use Rattle.entry_metadata.proofs.printing.block_len.Goals as goal

pub block_len_of-requires : goal.block_len_of-requires
block_len_of-requires c =
    let m = c.args.meta.now in
    let b = ap length c.as_slice-key.ensures in
    let d = c.len.ensures in
    let h = m.hash_count in
    let s = m.small in
    omega (arith, b, d, h, s)

pub returns : goal.returns
returns c =
    let l = length-block (meta_of c.args.meta.now) in
    let h = c.args.meta.now.hash_count in
    let b = ap length c.as_slice-key.ensures in
    let d = c.len.ensures in
    let e = c.block_len_of.ensures in
    omega (arith, l, h, b, d, e)
