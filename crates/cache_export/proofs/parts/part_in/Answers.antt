use Rattle.std.proofs.Common.{sym, subst}
use Rattle.std.specs.Prelude.{IfErr}
use Rattle.cache_export.specs.PartRead.{IsItemDue, SpellsNone}
use Rattle.cache_export.specs.Parts.{Stage}
use Rattle.cache_export.proofs.PartLaws.{item_stage, lengths_none}
use Rattle.cache_export.proofs.parts.part_in.Goals as goal

pub returns-in-Head-clause-bad : goal.returns-in-Head-clause-bad
returns-in-Head-clause-bad c =
    subst (λ (s : Stage). IfErr c.key_in.result (SpellsNone s c.args.part.now))
    (item_stage c.args.due c.args.last.now c.args.len c.args.hashes.now (subst IsItemDue (sym c.in-Head.is) tt)) c.key_in.ensures.bad

pub returns-in-Item-clause-bad : goal.returns-in-Item-clause-bad
returns-in-Item-clause-bad c =
    subst (λ (s : Stage). IfErr c.key_in-in-Item.result (SpellsNone s c.args.part.now))
    (item_stage c.args.due c.args.last.now c.args.len c.args.hashes.now (subst IsItemDue (sym c.in-Item.is) tt)) c.key_in-in-Item.ensures.bad

pub returns-in-Length-clause-bad : goal.returns-in-Length-clause-bad
returns-in-Length-clause-bad c = rw c.in-Length.is (lengths_none c.rest_in.result c.args.last.now c.args.part.now _ c.u32_at.result c.u32_at.ensures c.bytes_after.ensures c.rest_in.ensures.bad)
