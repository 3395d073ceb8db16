use Rattle.std.proofs.Common.{◌-◌, arith}
use Rattle.std.specs.Prelude.{IsTrue}
use Rattle.disk_theory.specs.State.{standing}
use Rattle.entry_metadata.specs.Metadata.{Spells}
use Rattle.entry_file.specs.Damages.{HasMeta}
use Rattle.entry_file.specs.declared.entry_read.EntryRead.{EntryRead}
use Rattle.entry_file.specs.EntryRead.{IfFits, Joins, ReadsAs}
use Rattle.entry_file.specs.BlockRead.{BlockReadsAs}
use Rattle.entry_file.proofs.ReadFile.{as_block, as_join, large, no_offset, not_large, of_answer, of_answers, outside, part_along, small}
use Rattle.entry_file.proofs.ReadJoin.{has_meta}
use Rattle.entry_file.proofs.reading.read_sized.Goals as goal
use Rattle.entry_file.proofs.reading.read_sized.Goals.{then-offset-via-then-offset, then-offset-via-else-offset+then-from-end}

pub returns-then-size-lt4-clause-reads : goal.returns-then-size-lt4-clause-reads
returns-then-size-lt4-clause-reads g c = λ told.
    small c.args.name.now.0 (standing (g.D.Disk.state c.args.disk.now) c.args.place.now) c.args.size (c.requires told) c.if-size-lt4.true

pub returns-then-offset-clause-reads : goal.returns-then-offset-clause-reads
returns-then-offset-clause-reads g c = λ told.
    let o = standing (g.D.Disk.state c.args.disk.now) c.args.place.now in
    elim c.then-offset.branch [
      | then-offset-via-then-offset w ↦
          no_offset c.args.name.now.0 o c.args.size (c.requires told) (omega arith) c.in_ok-bytes.field-0.offset (c.in_ok-bytes.ensures.offset told) w.if-offset.true
      | then-offset-via-else-offset+then-from-end w ↦
          outside c.args.name.now.0 o c.args.size (c.requires told) (omega arith) c.in_ok-bytes.field-0.offset (c.in_ok-bytes.ensures.offset told) (omega arith)
    ]

pub returns-then-len-gt-BLOCK_MAX-clause-reads : goal.returns-then-len-gt-BLOCK_MAX-clause-reads
returns-then-len-gt-BLOCK_MAX-clause-reads g c = λ told.
    let o = standing (g.D.Disk.state c.args.disk.now) c.args.place.now in
    large c.args.name.now.0 o c.args.size (c.requires told) (omega arith) c.in_ok-bytes.field-0.offset (c.in_ok-bytes.ensures.offset told)
    c.if-offset.false (omega arith) (omega arith) (omega arith)

pub returns-in_err-block-clause-large : goal.returns-in_err-block-clause-large
returns-in_err-block-clause-large g c = λ told content at big.
    let o = standing (g.D.Disk.state c.args.disk.now) c.args.place.now in
    absurd (not_large c.args.name.now.0 o c.args.size (c.requires told) (omega arith) c.in_ok-bytes.field-0.offset (c.in_ok-bytes.ensures.offset told)
    c.if-offset.false (omega arith) (omega arith) content at big)

pub returns-clause-large : goal.returns-clause-large
returns-clause-large g c = λ told content at big.
    let o = standing (g.D.Disk.state c.args.disk.now) c.args.place.now in
    absurd (not_large c.args.name.now.0 o c.args.size (c.requires told) (omega arith) c.in_ok-bytes.field-0.offset (c.in_ok-bytes.ensures.offset told)
    c.if-offset.false (omega arith) (omega arith) content at big)

pub returns-clause-reads : goal.returns-clause-reads
returns-clause-reads g c =
    let name = c.args.name.now.0 in
    let o = standing (g.D.Disk.state c.args.disk.now) c.args.place.now in
    let block = c.as_slice-2.result.now in
    let offset = c.in_ok-bytes.field-0.offset in
    of_answer (IsTrue g.D.Disk.tells) (BlockReadsAs name block offset c.args.size) (ReadsAs name o) c.read_of_block.result
    (λ told. as_block name o c.args.size (c.requires told) (omega arith) offset (c.in_ok-bytes.ensures.offset told) c.if-offset.false (omega arith)
    (c.args.size - 4 - c.from-from.result) (omega arith) block
    (part_along _ _ c.args.place.now c.in_ok-block.block.items block c.from-from.result offset _ (c.in_ok-bytes.ensures.looks.state told) c.from-from.ensures c.as_slice-2.ensures.value
    (c.in_ok-block.ensures.bytes told)))
    c.read_of_block.ensures.reads

pub returns-clause-has_meta : goal.returns-clause-has_meta
returns-clause-has_meta g c =
    let name = c.args.name.now.0 in
    let o = standing (g.D.Disk.state c.args.disk.now) c.args.place.now in
    let Reads = λ (read : EntryRead). IsTrue g.D.Disk.tells → ReadsAs name o read in
    of_answer (IsTrue g.D.Disk.tells) Reads (λ read. IfFits read (HasMeta o)) c.read_of_block.result
    (λ told read reads. has_meta name o read (reads told)) (returns-clause-reads g c)

pub returns-clause-join : goal.returns-clause-join
returns-clause-join g c =
    let name = c.args.name.now.0 in
    let o = standing (g.D.Disk.state c.args.disk.now) c.args.place.now in
    let block = c.as_slice-2.result.now in
    let offset = c.in_ok-bytes.field-0.offset in
    of_answers (IsTrue g.D.Disk.tells) (BlockReadsAs name block offset c.args.size) (λ read. IfFits read (Spells block offset)) (λ read. IfFits read (Joins name o)) c.read_of_block.result
    (λ told. as_join name o c.args.size (c.requires told) (omega arith) offset (c.in_ok-bytes.ensures.offset told) c.if-offset.false (omega arith)
    (c.args.size - 4 - c.from-from.result) (omega arith) block
    (part_along _ _ c.args.place.now c.in_ok-block.block.items block c.from-from.result offset _ (c.in_ok-bytes.ensures.looks.state told) c.from-from.ensures c.as_slice-2.ensures.value
    (c.in_ok-block.ensures.bytes told))
    (c.in_ok-bytes.ensures.bytes told))
    c.read_of_block.ensures.reads c.read_of_block.ensures.spelled
