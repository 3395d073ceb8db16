use Rattle.std.proofs.Common.{arith, sym}
use Rattle.file_handles.proofs.Setting.ElementLengths.{large_is, small_is}
use Rattle.file_handles.proofs.elements.len_with.Goals as goal

pub returns-then-kept-gt-ELEMENTS_MAX : goal.returns-then-kept-gt-ELEMENTS_MAX
returns-then-kept-gt-ELEMENTS_MAX c =
    let long = c.len_without-kept.ensures c.args.value.now in
    let some = c.then-kept-gt-ELEMENTS_MAX.either in
    large_is _ (omega arith)

pub returns-then-len-le-ELEMENTS_MAX : goal.returns-then-len-le-ELEMENTS_MAX
returns-then-len-le-ELEMENTS_MAX c = small_is _ _ (sym (c.len_without-kept.ensures c.args.value.now)) c.if-len-le-ELEMENTS_MAX.true

pub returns-else-len-le-ELEMENTS_MAX : goal.returns-else-len-le-ELEMENTS_MAX
returns-else-len-le-ELEMENTS_MAX c =
    let long = c.len_without-kept.ensures c.args.value.now in
    let some = c.if-len-le-ELEMENTS_MAX.false in
    large_is _ (omega arith)
