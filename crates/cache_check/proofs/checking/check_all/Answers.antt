use Rattle.std.proofs.Common.{ap, rules, ◌∙◌}
use Rattle.std.specs.BTreeSet.{contains}
use Rattle.std.specs.Prelude.{is_some}
use Rattle.cache_base.specs.Names.{name_cmp}
use Rattle.cache_check.specs.Findings.{findings}
use Rattle.disk_theory.specs.State.{standing}
use Rattle.cache_check.specs.Checks.{looks_over, table_of}
use Rattle.cache_check.specs.Rows.{without_first, turn_looks}
use Rattle.cache_check.proofs.LooksLeft.{looks_done, looks_more}
use Rattle.cache_check.proofs.RowSteps.{all_found}
use Rattle.cache_check.proofs.Turns.{Turns, looks_parts, still_by_name, still_complete, still_rising, still_stand}
use Rattle.cache_check.proofs.checking.check_all.Goals as goal

pub returns-in_err-check_turn-clause-calls : goal.returns-in_err-check_turn-clause-calls
returns-in_err-check_turn-clause-calls g c = λ told.
    let s = g.D.Disk.state c.args.disk.now in
    let names = c.rows.filed.now in
    let rs = c.rows.known.now in
    let row = c.in-Some.row in
    let w = c.args.writing.now in
    let b = contains name_cmp c.in_ok-set.set row.name in
    let more = without_first names row.filed in
    let ss = without_first rs (is_some row.known) in
    let turns : Turns names rs row more ss = record { first = c.in-Some.ensures; names_left = search rules; records_left = search rules } in
    let all = looks_over (table_of (standing s) c.args.names.now) w in
    let left = looks_over (table_of (standing s) more) w in
    looks_done left all (g.D.Disk.counts c.args.disk.now) (g.D.Disk.counts c.check_turn.new.disk)
    (looks_more (turn_looks (standing (g.D.Disk.state c.rows.disk)) b row) (looks_over (table_of (standing s) names) w) left all (g.D.Disk.counts c.args.disk.now) (g.D.Disk.counts c.rows.disk) (g.D.Disk.counts c.check_turn.new.disk)
    (looks_parts names rs row more ss turns c.rows.invariant.rising c.rows.invariant.by_name s (g.D.Disk.state c.rows.disk) w (c.rows.invariant.stand told) b (c.rows.invariant.state told) (c.in_ok-set.ensures.has row.name))
    (c.rows.invariant.looks told) (c.in_err-check_turn.ensures.calls told))

pub rows-preserved : goal.rows-preserved
rows-preserved g c =
    let s = g.D.Disk.state c.args.disk.now in
    let t = g.D.Disk.state c.rows.disk in
    let names = c.rows.filed.now in
    let rs = c.rows.known.now in
    let row = c.in-Some.row in
    let w = c.args.writing.now in
    let b = contains name_cmp c.in_ok-set.set row.name in
    let more = c.without_first-filed.result.now in
    let ss = c.without_first-known.result.now in
    let turns : Turns names rs row more ss = record {
      first = c.in-Some.ensures;
      names_left = c.without_first-filed.ensures;
      records_left = c.without_first-known.ensures ∙ ap (λ t. without_first rs t) c.is_some.ensures;
    } in
    let rising = c.rows.invariant.rising in
    let by_name = c.rows.invariant.by_name in
    let whole = findings (table_of (standing s) c.args.names.now) c.args.records.now w in
    let all = looks_over (table_of (standing s) c.args.names.now) w in
    record {
      rising = still_rising names rs row more ss turns rising by_name;
      by_name = still_by_name names rs row more ss turns rising by_name;
      stand = λ told. still_stand names rs row more ss turns rising by_name s t w (c.rows.invariant.stand told) b (c.rows.invariant.state told) (c.in_ok-set.ensures.has row.name);
      completes = λ told. still_complete names rs row more ss turns rising by_name s t w (c.rows.invariant.stand told) b (c.rows.invariant.state told) (c.in_ok-set.ensures.has row.name)
          c.rows.out c.check_turn.new.out whole (c.in_ok-check_turn.ensures.adds told) (c.rows.invariant.completes told);
      looks = λ told. looks_more (turn_looks (standing t) b row) (looks_over (table_of (standing s) names) w) (looks_over (table_of (standing s) more) w) all (g.D.Disk.counts c.args.disk.now) (g.D.Disk.counts c.rows.disk) (g.D.Disk.counts c.check_turn.new.disk)
          (looks_parts names rs row more ss turns rising by_name s t w (c.rows.invariant.stand told) b (c.rows.invariant.state told) (c.in_ok-set.ensures.has row.name))
          (c.rows.invariant.looks told) (c.in_ok-check_turn.ensures.calls told);
      state = search rules;
      faults = search rules;
    }

pub returns-clause-findings : goal.returns-clause-findings
returns-clause-findings g c = λ told.
    let files = standing (g.D.Disk.state c.args.disk.now) in
    let whole = findings (table_of files c.args.names.now) c.args.records.now c.args.writing.now in
    all_found files c.args.writing.now c.rows.filed.now c.rows.known.now c.rows.out whole (search rules) (c.rows.invariant.completes told)
