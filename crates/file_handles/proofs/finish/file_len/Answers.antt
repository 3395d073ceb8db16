use Rattle.std.proofs.Common.{arith}
use Rattle.entry_metadata.specs.Meta.{meta_of}
use Rattle.entry_metadata.proofs.PrintedBlock.{length-block}
use Rattle.file_handles.proofs.finish.file_len.Goals as goal

pub overflow_add-result : goal.overflow_add-result
overflow_add-result c =
    let long = length-block (meta_of c.args.meta.now) in
    let small = c.args.meta.now.small in
    let offset = c.args.meta.now.finished in
    let block = c.block_len.ensures in
    let before = c.from.ensures in
    omega (arith, long, small, offset, block, before)

pub overflow_add-result-2 : goal.overflow_add-result-2
overflow_add-result-2 c =
    let long = length-block (meta_of c.args.meta.now) in
    let small = c.args.meta.now.small in
    let offset = c.args.meta.now.finished in
    let block = c.block_len.ensures in
    let before = c.from.ensures in
    omega (arith, long, small, offset, block, before)
