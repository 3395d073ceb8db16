use Rattle.std.proofs.Common.{refl, subst, sym, ◌∙◌}
use Rattle.std.specs.Prelude.{IsTrue}
use Rattle.cache_base.specs.Names.{AreSorted}
use Rattle.disk_theory.specs.State.{standing}
use Rattle.cache_check.proofs.Found.{Listed, found_all, listed_by, listed_stand, looked_once}
use Rattle.cache_check.proofs.Rising.{Sorts, found_in_order}
use Rattle.cache_check.proofs.checking.findings.Goals as goal

pub returns-then-rise-clause-findings : goal.returns-then-rise-clause-findings
returns-then-rise-clause-findings g c =
    let s = g.D.Disk.state c.args.disk.now in
    let t = g.D.Disk.state c.entries.new.self in
    let names = c.entries.new.out in
    let es = c.as_slice-listed.result.now in
    let listed : IsTrue g.D.Disk.tells → Listed s t names es = λ told. listed_by s t names es (c.in_ok-entries.ensures.state told) c.as_slice-listed.ensures c.in_ok-entries.ensures.sorted (c.in_ok-entries.ensures.names told) in
    found_all (IsTrue g.D.Disk.tells) s t names es c.args.records.now c.as_slice-then-rise.result.now c.args.writing.now c.as_slice-skipped.result.now c.check_all.result
    listed c.as_slice-then-rise.ensures c.as_slice-skipped.ensures c.check_all.ensures.findings

pub returns-then-rise-clause-once : goal.returns-then-rise-clause-once
returns-then-rise-clause-once g c = λ told.
    let s = g.D.Disk.state c.args.disk.now in
    let t = g.D.Disk.state c.entries.new.self in
    let names = c.entries.new.out in
    let es = c.as_slice-listed.result.now in
    let listed : Listed s t names es = listed_by s t names es (c.in_ok-entries.ensures.state told) c.as_slice-listed.ensures c.in_ok-entries.ensures.sorted (c.in_ok-entries.ensures.names told) in
    looked_once s t names es c.args.writing.now c.as_slice-skipped.result.now (g.D.Disk.counts c.args.disk.now) (g.D.Disk.counts c.entries.new.self) (g.D.Disk.counts c.check_all.new.disk)
    listed c.as_slice-skipped.ensures c.entries.result (c.entries.ensures.counts told) (c.check_all.ensures.calls told)

pub check_all-requires-2-clause-told : goal.check_all-requires-2-clause-told
check_all-requires-2-clause-told g c = λ told.
    let s = g.D.Disk.state c.args.disk.now in
    let t = g.D.Disk.state c.entries.new.self in
    let names = c.entries.new.out in
    let es = c.as_slice-listed.result.now in
    let listed : Listed s t names es = listed_by s t names es (c.in_ok-entries.ensures.state told) c.as_slice-listed.ensures c.in_ok-entries.ensures.sorted (c.in_ok-entries.ensures.names told) in
    listed_stand s t names es listed

pub returns-clause-findings : goal.returns-clause-findings
returns-clause-findings g c =
    let s = g.D.Disk.state c.args.disk.now in
    let t = g.D.Disk.state c.entries.new.self in
    let names = c.entries.new.out in
    let es = c.as_slice-listed.result.now in
    let rs = c.args.records.now in
    let v = c.as_slice-skipped.result.now in
    let copy = c.in_ok-from_slice.field-0.items in
    let sorted = c.by_name-sorted.result in
    let qs = c.as_slice-3.result.now in
    let listed : IsTrue g.D.Disk.tells → Listed s t names es = λ told. listed_by s t names es (c.in_ok-entries.ensures.state told) c.as_slice-listed.ensures c.in_ok-entries.ensures.sorted (c.in_ok-entries.ensures.names told) in
    let rising : AreSorted es = subst AreSorted (sym c.as_slice-listed.ensures) c.in_ok-entries.ensures.sorted in
    let sorts : Sorts rs copy sorted qs = record {
      distinct = c.requires;
      copied = c.in_ok-from_slice.ensures.items ∙ c.as_slice-2.ensures;
      by_name = c.by_name-sorted.ensures;
      given = c.as_slice-3.ensures;
    } in
    found_all (IsTrue g.D.Disk.tells) s t names es rs rs c.args.writing.now v c.check_all-2.result
    listed refl c.as_slice-skipped.ensures
    (found_in_order (IsTrue g.D.Disk.tells) (standing t) es v rs copy sorted qs c.check_all-2.result rising sorts c.check_all-2.ensures.findings)

pub returns-clause-once : goal.returns-clause-once
returns-clause-once g c = λ told.
    let s = g.D.Disk.state c.args.disk.now in
    let t = g.D.Disk.state c.entries.new.self in
    let names = c.entries.new.out in
    let es = c.as_slice-listed.result.now in
    let listed : Listed s t names es = listed_by s t names es (c.in_ok-entries.ensures.state told) c.as_slice-listed.ensures c.in_ok-entries.ensures.sorted (c.in_ok-entries.ensures.names told) in
    looked_once s t names es c.args.writing.now c.as_slice-skipped.result.now (g.D.Disk.counts c.args.disk.now) (g.D.Disk.counts c.entries.new.self) (g.D.Disk.counts c.check_all-2.new.disk)
    listed c.as_slice-skipped.ensures c.entries.result (c.entries.ensures.counts told) (c.check_all-2.ensures.calls told)
