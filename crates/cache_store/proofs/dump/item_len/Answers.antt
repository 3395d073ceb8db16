use Rattle.std.proofs.Common.{ap, arith}
use Rattle.std.specs.Prelude.{length}
use Rattle.entry_metadata.specs.Meta.{meta_of}
use Rattle.entry_metadata.specs.Metadata.{block_bytes}
use Rattle.entry_metadata.proofs.PrintedBlock.{length-block}
use Rattle.cache_theory.proofs.Versions.{is_key}
use Rattle.cache_store.proofs.Dumping.DumpedItems.{back_long, front_long}
use Rattle.cache_store.proofs.dump.item_len.Goals as goal

pub overflow_add-result-3 : goal.overflow_add-result-3
overflow_add-result-3 c =
    let long = length-block (meta_of c.args.meta.now) in
    let small = c.args.meta.now.small in
    let offset = c.args.meta.now.finished in
    let block = c.block_len.ensures in
    let before = c.from.ensures in
    let short = (is_key c.args.meta.now.key c.requires).short in
    let same = ap length c.as_slice.ensures in
    omega (arith, long, small, offset, block, before, short, same)

pub returns : goal.returns
returns c =
    let front = front_long c.args.meta.now.key c.args.meta.now.offset in
    let back = back_long (block_bytes (meta_of c.args.meta.now)) in
    let block = c.block_len.ensures in
    let before = c.from.ensures in
    let same = ap length c.as_slice.ensures in
    omega (arith, front, back, block, before, same)
