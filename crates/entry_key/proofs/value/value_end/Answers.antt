use Rattle.std.proofs.Common.{◌+◌, sym, ◌∙◌}
use Rattle.entry_key.proofs.Values.{no_comma_past, none_spelled, byte_spelled, pair_spelled, value_ends, value_no_comma, bare_ends, bare_no_comma}
use Rattle.entry_key.proofs.value.value_end.Goals.{else-from-key-via-then-from-key+else-key-from-eq44, else-from-key-via-else-from-key, else-at-key-via-then-at-key+else-key-at-eq44, else-at-key-via-else-at-key}
use Rattle.entry_key.proofs.value.value_end.Goals as goal

pub returns-then-key-from-eq44-clause-end : goal.returns-then-key-from-eq44-clause-end
returns-then-key-from-eq44-clause-end c = bare_ends c.args.key.now c.args.letter c.args.from (sym c.is_bare.ensures ∙ c.if-is_bare.true) c.if-from-key.true c.if-key-from-eq44.true

pub returns-then-is_bare-clause-fault : goal.returns-then-is_bare-clause-fault
returns-then-is_bare-clause-fault c =
    bare_no_comma c.args.key.now c.args.letter c.args.from (sym c.is_bare.ensures ∙ c.if-is_bare.true)
    (elim c.else-from-key.branch [
      | else-from-key-via-then-from-key+else-key-from-eq44 w ↦ w.if-key-from-eq44.false
      | else-from-key-via-else-from-key w ↦ no_comma_past c.args.key.now c.args.from w.if-from-key.false
    ])

pub loop-at-init : goal.loop-at-init
loop-at-init c = none_spelled c.args.key.now c.args.from c.requires

pub loop-at-preserved-then-key-at-ne44 : goal.loop-at-preserved-then-key-at-ne44
loop-at-preserved-then-key-at-ne44 c = byte_spelled c.args.key.now c.args.from c.loop-at.at c.loop-at.invariant c.loop-at-test.true c.if-key-at-ne44.true

pub loop-at-preserved : goal.loop-at-preserved
loop-at-preserved c = pair_spelled c.args.key.now c.args.from c.loop-at.at c.loop-at.invariant c.if-at-key.true c.if-key-at-ne44.false c.if-key-at-eq44.true

pub returns-else-at-key-clause-end : goal.returns-else-at-key-clause-end
returns-else-at-key-clause-end c =
    value_ends c.args.key.now c.args.letter c.args.from c.loop-at.at (sym c.is_bare.ensures ∙ c.if-is_bare.false) c.loop-at.invariant c.loop-at-test.true c.if-key-at-ne44.false
    (elim c.else-at-key.branch [
      | else-at-key-via-then-at-key+else-key-at-eq44 w ↦ w.if-key-at-eq44.false
      | else-at-key-via-else-at-key w ↦ no_comma_past c.args.key.now (c.loop-at.at + 1) w.if-at-key.false
    ])

pub returns-clause-fault : goal.returns-clause-fault
returns-clause-fault c = value_no_comma c.args.key.now c.args.letter c.args.from c.loop-at.at (sym c.is_bare.ensures ∙ c.if-is_bare.false) c.loop-at.invariant c.loop-at-test.false
