use Rattle.std.proofs.Common.{◌≡◌, ℕ, List, refl, sym, subst, ◌∙◌, arith}
use Rattle.std.proofs.lemmas.Bool.{false≢true}
use Rattle.cache_export.proofs.PartLaws.{block_spelled, is_third, none_other, none_refused, version_there}
use Rattle.entry_metadata.specs.Meta.{meta_of}
use Rattle.entry_metadata.specs.Metadata.{Meta, Spells}
use Rattle.entry_metadata.specs.declared.fault.MetaFault.TheVariants.{Memory}
use Rattle.cache_export.specs.PartRead.{IsBlockOf, SpellsNoRest}
use Rattle.cache_export.specs.declared.parts.PartFault.{PartFault}
use Rattle.cache_export.proofs.parts.block_in.Goals as goal

pub returns-in-Err-clause-bad : goal.returns-in-Err-clause-bad
returns-in-Err-clause-bad c =
    let refused = subst (λ (l : List ℕ). (said : Meta) → Spells l c.args.len said → c.in-Err.fault ≡ Memory) c.bytes_after-block.ensures c.in-Err.ensures.refused in
    subst (λ (f : PartFault). SpellsNoRest c.args.key.now c.args.len c.args.hashes.now c.args.part.now f) (sym c.part_fault.ensures)
    (none_refused c.args.key.now c.args.len c.args.hashes.now c.args.part.now c.in-Err.fault c.requires.left refused)

pub is_of-requires : goal.is_of-requires
is_of-requires c = λ same.
    let there = version_there c.bytes_after-block.result.now c.args.hashes.now c.args.len (meta_of c.in-Ok.meta) c.in-Ok.ensures.spelled same in
    omega (arith, there)

pub returns-then-is_of-clause-ok : goal.returns-then-is_of-clause-ok
returns-then-is_of-clause-ok c =
    let block = c.bytes_after-block.result.now in
    let s = c.in-Ok.ensures.spelled in
    let same = c.if-is_of.ensures.0 refl in
    let third = is_third block c.args.hashes.now c.args.len (meta_of c.in-Ok.meta) s same.1.0 same.1.1 in
    (c.requires.left, (s.meta, (same.0, (s.at, (same.1.0, block_spelled c.args.part.now _ c.bytes_fit.ensures c.requires.part (sym c.bytes_after-block.ensures ∙ third))))))

pub returns-else-is_of-clause-bad : goal.returns-else-is_of-clause-bad
returns-else-is_of-clause-bad c =
    let m = meta_of c.in-Ok.meta in
    let place = c.bytes_after-block.ensures in
    none_other c.args.key.now c.args.len c.args.hashes.now c.args.part.now m c.requires.left
    (subst (λ (l : List ℕ). Spells l c.args.len m) place c.in-Ok.ensures.spelled)
    (λ both. false≢true (c.if-is_of.ensures.1 (subst (λ (l : List ℕ). IsBlockOf m l c.args.key.now c.args.hashes.now) (sym place) both)))
