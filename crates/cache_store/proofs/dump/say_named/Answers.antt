use Rattle.std.proofs.Common.{◌∙◌, [], None, Some, ap, arith, refl, subst, sym}
use Rattle.std.proofs.lemmas.Bool.{and_parts, le-ltb, lt-ltb}
use Rattle.std.specs.Prelude.{nat_le, take}
use Rattle.cache_base.specs.declared.limits.TheConstants.{BODY_MAX}
use Rattle.disk_theory.specs.State.{standing}
use Rattle.disk_theory.specs.declared.place.Place.TheVariants.{Entry}
use Rattle.entry_key.specs.Writing.{may_write}
use Rattle.entry_metadata.specs.Meta.{meta_of}
use Rattle.file_handles.specs.Found.{IsFoundUnder}
use Rattle.cache_export.specs.declared.limits.TheConstants.{DUMP_MAX}
use Rattle.cache_store.specs.Dumping.{adds_nothing, item_length, item_with, turn_at}
use Rattle.cache_replies.specs.Said.{saying}
use Rattle.cache_replies.specs.Saying.{StopsIn}
use Rattle.cache_store.proofs.Dumping.DumpedItems.{found_file, item_added, item_short, not_dumped, says_nothing, takes_turn, too_long}
use Rattle.cache_replies.proofs.SaidMore.{when_err}
use Rattle.cache_replies.proofs.SayingLaws.{stops_here}
use Rattle.cache_store.proofs.dump.say_named.Goals as goal

pub returns-in_err-meta-clause-stops : goal.returns-in_err-meta-clause-stops
returns-in_err-meta-clause-stops g c =
    when_err c.from_residual.result _ (λ told. stops_here (saying g.K.Sink c.args.reply.now c.args.sink.now) _)

pub returns-then-not-may_dump-clause-turn : goal.returns-then-not-may_dump-clause-turn
returns-then-not-may_dump-clause-turn g c = λ told.
    let was = saying g.K.Sink c.args.reply.now c.args.sink.now in
    let name = c.args.turn.name.now.0 in
    let file = standing (g.D.Disk.state c.args.disk.now) (Entry c.args.turn.name.now) in
    let f = found_file name file c.in-Some.meta (subst (IsFoundUnder name file) c.in-Some.is (c.in_ok-meta.ensures.found told)) in
    takes_turn _ adds_nothing (Some 0) was was
    (ap (turn_at c.args.turn.used name) f.1.0 ∙ not_dumped c.args.turn.used name f.0 c.in-Some.meta f.1.1 (sym c.may_dump.ensures ∙ c.if-not-may_dump.true))
    refl (says_nothing was)

pub overflow_add-turn : goal.overflow_add-turn
overflow_add-turn g c =
    let may = and_parts (may_write c.in-Some.meta.key) (nat_le c.in-Some.meta.offset BODY_MAX) (sym c.may_dump.ensures ∙ c.if-not-may_dump.false) in
    let short = item_short c.in-Some.meta may.0 in
    let is = c.item_len-len.ensures in
    let used = c.requires in
    omega (arith, short, is, used)

pub overflow_add-turn-2 : goal.overflow_add-turn-2
overflow_add-turn-2 g c =
    let may = and_parts (may_write c.in-Some.meta.key) (nat_le c.in-Some.meta.offset BODY_MAX) (sym c.may_dump.ensures ∙ c.if-not-may_dump.false) in
    let short = item_short c.in-Some.meta may.0 in
    let is = c.item_len-len.ensures in
    let used = c.requires in
    omega (arith, short, is, used)

pub returns-then-turn-len-gt-DUMP_MAX-clause-turn : goal.returns-then-turn-len-gt-DUMP_MAX-clause-turn
returns-then-turn-len-gt-DUMP_MAX-clause-turn g c = λ told.
    let was = saying g.K.Sink c.args.reply.now c.args.sink.now in
    let name = c.args.turn.name.now.0 in
    let file = standing (g.D.Disk.state c.args.disk.now) (Entry c.args.turn.name.now) in
    let f = found_file name file c.in-Some.meta (subst (IsFoundUnder name file) c.in-Some.is (c.in_ok-meta.ensures.found told)) in
    let is = c.item_len-len.ensures in
    let past = c.if-turn-len-gt-DUMP_MAX.true in
    takes_turn _ (record { len = None; text = [] }) None was was
    (ap (turn_at c.args.turn.used name) f.1.0 ∙ too_long c.args.turn.used name f.0 c.in-Some.meta f.1.1 (sym c.may_dump.ensures ∙ c.if-not-may_dump.false) (lt-ltb DUMP_MAX _ (omega (arith, is, past))))
    refl (says_nothing was)

pub returns-in_err-say_item-clause-stops : goal.returns-in_err-say_item-clause-stops
returns-in_err-say_item-clause-stops g c =
    let was = saying g.K.Sink c.args.reply.now c.args.sink.now in
    let out = g.K.Sink.taken c.say_item.new.sink in
    let name = c.args.turn.name.now.0 in
    let m = meta_of c.in-Some.meta in
    let file = standing (g.D.Disk.state c.args.disk.now) (Entry c.args.turn.name.now) in
    let is = c.item_len-len.ensures in
    let within = c.if-turn-len-gt-DUMP_MAX.false in
    when_err c.from_residual-in_err-say_item.result _ (λ told.
    let f = found_file name file c.in-Some.meta (subst (IsFoundUnder name file) c.in-Some.is (c.in_ok-meta.ensures.found told)) in
    let added = ap (turn_at c.args.turn.used name) f.1.0 ∙ item_added c.args.turn.used name f.0 c.in-Some.meta f.1.1 (sym c.may_dump.ensures ∙ c.if-not-may_dump.false) (le-ltb DUMP_MAX _ (omega (arith, is, within))) in
    subst (StopsIn was out) (ap (λ t. t.text) (sym added))
    (c.in_err-say_item.ensures.stops told f.0 (ap (λ s. standing s (Entry c.args.turn.name.now)) (c.in_ok-meta.ensures.looks.state told) ∙ f.1.0) f.1.1.long))

pub returns-clause-turn : goal.returns-clause-turn
returns-clause-turn g c = λ told.
    let was = saying g.K.Sink c.args.reply.now c.args.sink.now in
    let now = saying g.K.Sink c.say_item.new.reply c.say_item.new.sink in
    let name = c.args.turn.name.now.0 in
    let file = standing (g.D.Disk.state c.args.disk.now) (Entry c.args.turn.name.now) in
    let is = c.item_len-len.ensures in
    let within = c.if-turn-len-gt-DUMP_MAX.false in
    let f = found_file name file c.in-Some.meta (subst (IsFoundUnder name file) c.in-Some.is (c.in_ok-meta.ensures.found told)) in
    takes_turn _ (record { len = Some (item_length (meta_of c.in-Some.meta)); text = item_with (meta_of c.in-Some.meta) (take c.in-Some.meta.offset f.0) }) (Some c.item_len-len.result) was now
    (ap (turn_at c.args.turn.used name) f.1.0 ∙ item_added c.args.turn.used name f.0 c.in-Some.meta f.1.1 (sym c.may_dump.ensures ∙ c.if-not-may_dump.false) (le-ltb DUMP_MAX _ (omega (arith, is, within))))
    (ap (λ n. Some n) is)
    (c.in_ok-say_item.ensures.said told f.0 (ap (λ s. standing s (Entry c.args.turn.name.now)) (c.in_ok-meta.ensures.looks.state told) ∙ f.1.0) f.1.1.long)
