use Rattle.std.proofs.Common.{◌≤◌, ◌+◌, List, drop, rules, subst, sym}
use Rattle.std.specs.Prelude.{IfSome}
use Rattle.std.proofs.lemmas.List.{drop_more}
use Rattle.cache_base.specs.declared.name.Name.{Name}
use Rattle.cache_check.specs.Checks.{AllStand, files_of}
use Rattle.cache_export.specs.declared.limits.TheConstants.{DUMP_MAX}
use Rattle.disk_theory.specs.State.{State}
use Rattle.cache_store.specs.Dumping.{items_from}
use Rattle.cache_replies.specs.Said.{saying}
use Rattle.cache_store.proofs.Dumping.DumpedItems.{IsLeft, after_turn, cut_turn, stops_on, takes_on, took_turn}
use Rattle.cache_replies.proofs.SaidMore.{when_err}
use Rattle.cache_store.proofs.dump.say_items.Goals as goal

pub returns-in_err-len-clause-stops : goal.returns-in_err-len-clause-stops
returns-in_err-len-clause-stops g c =
    let names = c.args.names.now in
    let i = c.loop-name.name-index in
    let s = g.D.Disk.state c.args.disk.now in
    let first = drop_more names i _ c.loop-name-test.true in
    let was = saying g.K.Sink c.args.reply.now c.args.sink.now in
    let now = saying g.K.Sink c.loop-name.reply c.loop-name.sink in
    when_err c.from_residual.result _ (λ told.
    cut_turn s c.loop-name.used _ (drop (i + 1) names) was now (items_from 8 (files_of s names))
    (subst (AllStand s) first (subst (λ (t : State). AllStand t (drop i names)) (c.loop-name.invariant.state told) (c.loop-name.invariant.told told)))
    (subst (λ (ns : List Name). IsLeft was now (items_from c.loop-name.used (files_of s ns)) (items_from 8 (files_of s names))) first (c.loop-name.invariant.left told))
    (g.K.Sink.taken c.say_named.new.sink)
    (stops_on c.loop-name.used _ now (g.K.Sink.taken c.say_named.new.sink) (c.loop-name.invariant.state told) (c.in_err-len.ensures.stops told)))

pub loop-name-preserved : goal.loop-name-preserved
loop-name-preserved g c =
    let names = c.args.names.now in
    let i = c.loop-name.name-index in
    let s = g.D.Disk.state c.args.disk.now in
    let first = drop_more names i _ c.loop-name-test.true in
    let was = saying g.K.Sink c.args.reply.now c.args.sink.now in
    let now = saying g.K.Sink c.loop-name.reply c.loop-name.sink in
    let next = saying g.K.Sink c.say_named.new.reply c.say_named.new.sink in
    let whole = items_from 8 (files_of s names) in
    record {
      used = subst (λ o. IfSome o (λ n. c.loop-name.used + n ≤ DUMP_MAX)) c.in-Some.is c.in_ok-len.ensures.short;
      told = λ told. (subst (AllStand (g.D.Disk.state c.say_named.new.disk)) first (subst (λ (t : State). AllStand t (drop i names)) (sym (c.in_ok-len.ensures.looks.state told)) (c.loop-name.invariant.told told))).1;
      left = λ told.
          subst (λ o. IsLeft was next (after_turn o c.loop-name.used (files_of s (drop (i + 1) names))) whole) c.in-Some.is
          (took_turn s c.loop-name.used _ (drop (i + 1) names) was now whole
          (subst (AllStand s) first (subst (λ (t : State). AllStand t (drop i names)) (c.loop-name.invariant.state told) (c.loop-name.invariant.told told)))
          (subst (λ (ns : List Name). IsLeft was now (items_from c.loop-name.used (files_of s ns)) whole) first (c.loop-name.invariant.left told))
          c.in_ok-len.field-0 next
          (takes_on c.loop-name.used _ c.in_ok-len.field-0 now next (c.loop-name.invariant.state told) (c.in_ok-len.ensures.turn told)));
      kept = search rules;
      state = search rules;
      calm = search rules;
      unsynced = search rules;
      sink = search rules;
    }
