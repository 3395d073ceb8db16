use Rattle.entry_metadata.specs.Meta.{meta_of}
use Rattle.entry_metadata.proofs.PrintedBlock.{fit_along, is_meta, is_rest}
use Rattle.entry_metadata.proofs.printing.past_hash.Goals as goal

pub returns-clause-meta : goal.returns-clause-meta
returns-clause-meta c =
    let m = c.args.meta.now in
    let fit = fit_along c.as_slice-hashes.ensures c.as_slice-key.ensures c.print-elements.ensures.bytes c.fields_fit.ensures in
    is_meta (meta_of m) c.write-header.ensures.numbers m.version m.key_size m.grammar fit c.print-elements.ensures.elements m.hash_count m.finished m.small

pub returns-clause-bytes : goal.returns-clause-bytes
returns-clause-bytes c = is_rest (meta_of c.args.meta.now) c.joined.result c.as_slice-hashes.ensures c.write-header.ensures.bytes c.as_slice-key.ensures c.print-elements.ensures.bytes c.joined.ensures
