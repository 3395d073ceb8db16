use Rattle.std.proofs.Common.{arith, ◌∙◌, sym, length, ◌<◌}
use Rattle.std.proofs.lemmas.Bool.{eqb-false}
use Rattle.entry_key.proofs.Written.{is_ok-reads, may_write-reads}
use Rattle.entry_key.proofs.writing.may_write.Goals as goal

pub returns : goal.returns
returns c =
    let other = eqb-false _ _ (sym c.is_empty.ensures ∙ c.if-is_empty.false) in
    let some : 0 < length c.args.key.now = omega (arith, other) in
    c.is_ok.ensures.value
    ∙ is_ok-reads c.args.key.now c.parse.result c.parse.ensures.tags c.parse.ensures.fault
    ∙ sym (may_write-reads c.args.key.now some c.if-key-gt-KEY_MAX.false (sym c.all_plain.ensures ∙ c.if-not-all_plain.false))
