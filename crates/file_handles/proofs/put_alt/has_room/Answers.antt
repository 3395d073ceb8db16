use Rattle.std.proofs.Common.{◌+◌, sym}
use Rattle.file_handles.proofs.PuttingAlt.AltChecks.{long_kind}
use Rattle.file_handles.proofs.put_alt.has_room.Goals as goal

pub returns-then-kind-gt-ELEMENTS_MAX : goal.returns-then-kind-gt-ELEMENTS_MAX
returns-then-kind-gt-ELEMENTS_MAX c = sym (long_kind c.args.meta.now c.args.kind.now (c.args.meta.now.offset + c.args.len) c.requires.none c.if-kind-gt-ELEMENTS_MAX.true)
