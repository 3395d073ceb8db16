use Rattle.std.proofs.Common.{refl}
use Rattle.entry_metadata.proofs.ReadBlock.{read}
use Rattle.entry_metadata.proofs.reading.read_all.Goals as goal

pub invariant_of-result : goal.invariant_of-result
invariant_of-result c =
    let r = read c.args.block.now c.args.offset c.hash_count-count.result c.header_len.result c.in_ok-header.header c.hash_count-count.ensures c.header_len.ensures.number c.in_ok-header.ensures.passed
    c.in_ok-key.key c.in_ok-elements.elements c.in_ok-hashes.hashes c.in_ok-key.ensures c.in_ok-elements.ensures.spelled c.in_ok-elements.ensures.bad_form.1 c.in_ok-hashes.ensures in
    record {
      version = refl;
      key_size = r.key_size;
      grammar = r.grammar;
      hash_count = r.hash_count;
      finished = c.requires;
      small = r.small;
    }

pub returns-clause-passes : goal.returns-clause-passes
returns-clause-passes c =
    let r = read c.args.block.now c.args.offset c.hash_count-count.result c.header_len.result c.in_ok-header.header c.hash_count-count.ensures c.header_len.ensures.number c.in_ok-header.ensures.passed
    c.in_ok-key.key c.in_ok-elements.elements c.in_ok-hashes.hashes c.in_ok-key.ensures c.in_ok-elements.ensures.spelled c.in_ok-elements.ensures.bad_form.1 c.in_ok-hashes.ensures in
    r.passes

pub returns-clause-says : goal.returns-clause-says
returns-clause-says c =
    let r = read c.args.block.now c.args.offset c.hash_count-count.result c.header_len.result c.in_ok-header.header c.hash_count-count.ensures c.header_len.ensures.number c.in_ok-header.ensures.passed
    c.in_ok-key.key c.in_ok-elements.elements c.in_ok-hashes.hashes c.in_ok-key.ensures c.in_ok-elements.ensures.spelled c.in_ok-elements.ensures.bad_form.1 c.in_ok-hashes.ensures in
    r.says
