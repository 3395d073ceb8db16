use Rattle.std.proofs.Common.{◌∙◌, ap}
use Rattle.disk_theory.specs.State.{File, with_file}
use Rattle.disk_model.specs.MemFile.{nth_file, at_rest}
use Rattle.disk_model.proofs.MemState.{nth_set, nth_beyond, read_file}
use Rattle.disk_model.proofs.mem_table.settle_file.Goals as goal

pub returns-then-number-files-clause-files : goal.returns-then-number-files-clause-files
returns-then-number-files-clause-files c =
    let fs = c.args.files.now in
    nth_set fs c.args.number c.settle.new.self c.if-number-files.true
    ∙ ap (λ (f : File). with_file c.args.number f (nth_file fs)) (c.settle.ensures ∙ ap at_rest (read_file fs c.args.number c.index-files-number.result c.if-number-files.true))

pub returns-else-number-files-clause-files : goal.returns-else-number-files-clause-files
returns-else-number-files-clause-files c = nth_beyond c.args.files.now c.args.number c.if-number-files.false
