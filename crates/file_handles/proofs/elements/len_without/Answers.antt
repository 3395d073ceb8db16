use Rattle.std.proofs.Common.{arith, sym}
use Rattle.file_handles.proofs.Setting.ElementLengths.{added_length, set_length}
use Rattle.file_handles.proofs.elements.len_without.Goals as goal

pub overflow_sub-result : goal.overflow_sub-result
overflow_sub-result c =
    let more = set_length c.args.name.now c.args.name.now c.in-Some.old.now c.args.elements.now (sym c.in-Some.ensures) in
    omega arith

pub overflow_sub-result-in-Some : goal.overflow_sub-result-in-Some
overflow_sub-result-in-Some c =
    let more = set_length c.args.name.now c.args.name.now c.in-Some.old.now c.args.elements.now (sym c.in-Some.ensures) in
    omega arith

pub overflow_sub-result-in-Some-2 : goal.overflow_sub-result-in-Some-2
overflow_sub-result-in-Some-2 c =
    let more = set_length c.args.name.now c.args.name.now c.in-Some.old.now c.args.elements.now (sym c.in-Some.ensures) in
    omega arith

pub returns-in-Some : goal.returns-in-Some
returns-in-Some c value =
    let more = set_length c.args.name.now value c.in-Some.old.now c.args.elements.now (sym c.in-Some.ensures) in
    omega arith

pub returns-in-None : goal.returns-in-None
returns-in-None c value =
    let more = added_length c.args.name.now value c.args.elements.now (sym c.in-None.ensures) in
    omega arith
