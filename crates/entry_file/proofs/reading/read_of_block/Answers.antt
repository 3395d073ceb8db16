use Rattle.entry_metadata.specs.Meta.{meta_of}
use Rattle.entry_file.proofs.ReadBlock.{decided, fits_block, other_name}
use Rattle.entry_file.proofs.reading.read_of_block.Goals as goal

pub returns-then-eq-clause-reads : goal.returns-then-eq-clause-reads
returns-then-eq-clause-reads c =
    fits_block c.args.name.now.0 c.args.block.now c.args.offset c.args.size c.in-Ok.meta c.in-Ok.ensures.spelled
    (decided c.in-Ok.meta.key c.args.name.now.0 c.as_slice.ensures c.name_of.ensures c.eq.ensures c.if-eq.true)

pub returns-else-eq-clause-reads : goal.returns-else-eq-clause-reads
returns-else-eq-clause-reads c =
    other_name c.args.name.now.0 c.args.block.now c.args.offset c.args.size (meta_of c.in-Ok.meta) c.in-Ok.ensures.spelled
    (decided c.in-Ok.meta.key c.args.name.now.0 c.as_slice.ensures c.name_of.ensures c.eq.ensures c.if-eq.false)
