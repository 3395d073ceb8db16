use Rattle.std.proofs.Common.{◌≡◌, ◌++◌, [], length-append, Some, ap, ◌∙◌, arith}
use Rattle.chunk_store.specs.Stored.{unfinished_file}
use Rattle.disk_theory.specs.declared.place.Place.{Place}
use Rattle.disk_theory.specs.Sound.{IsSound}
use Rattle.disk_theory.specs.State.{State, created, empty_file, standing}
use Rattle.disk_theory.proofs.Standing.{added_puts}
use Rattle.entry_file.proofs.Bodies.{grown}
use Rattle.entry_tests.proofs.files.new_entry.grow.Goals as goal

begun : (place : Place) (s t : State) → IsSound s → t ≡ created place s → standing t place ≡ Some (unfinished_file [])
begun place s t sound is = ap (λ (u : State). standing u place) is ∙ (added_puts place empty_file s sound).here

pub append-requires-2-clause-limit : goal.append-requires-2-clause-limit
append-requires-2-clause-limit g c =
    let one = grown _ _ (c.in_ok-append.ensures.body [] c.in_ok-entry.ensures.body) in
    omega (arith, one, c.requires)

pub append-requires-2-clause-told : goal.append-requires-2-clause-told
append-requires-2-clause-told g c = λ told.
    let stood = begun c.args.place.now _ _ (g.met.D.Disk.sound c.args.disk.now told) (c.in_ok-entry.ensures.state told) in
    (c.args.first.now, c.in_ok-append.ensures.body [] c.in_ok-entry.ensures.body, c.in_ok-append.ensures.stands told [] c.in_ok-entry.ensures.body stood)

pub append-requires-3-clause-limit : goal.append-requires-3-clause-limit
append-requires-3-clause-limit g c =
    let two = grown _ _ (c.in_ok-append-2.ensures.body c.args.first.now (c.in_ok-append.ensures.body [] c.in_ok-entry.ensures.body)) in
    let long = length-append c.args.first.now c.args.second.now in
    omega (arith, two, long, c.requires)

pub append-requires-3-clause-told : goal.append-requires-3-clause-told
append-requires-3-clause-told g c = λ told.
    let stood = begun c.args.place.now _ _ (g.met.D.Disk.sound c.args.disk.now told) (c.in_ok-entry.ensures.state told) in
    let one = c.in_ok-append.ensures.body [] c.in_ok-entry.ensures.body in (
      c.args.first.now ++ c.args.second.now,
      c.in_ok-append-2.ensures.body c.args.first.now one,
      c.in_ok-append-2.ensures.stands told c.args.first.now one (c.in_ok-append.ensures.stands told [] c.in_ok-entry.ensures.body stood),
    )

pub returns : goal.returns
returns g c = λ told.
    let stood = begun c.args.place.now _ _ (g.met.D.Disk.sound c.args.disk.now told) (c.in_ok-entry.ensures.state told) in
    let one = c.in_ok-append.ensures.body [] c.in_ok-entry.ensures.body in
    let two = c.in_ok-append-2.ensures.body c.args.first.now one in (
      (c.args.first.now ++ c.args.second.now) ++ c.args.third.now,
      c.in_ok-append-3.ensures.body (c.args.first.now ++ c.args.second.now) two,
      c.in_ok-append-3.ensures.stands told (c.args.first.now ++ c.args.second.now) two
          (c.in_ok-append-2.ensures.stands told c.args.first.now one (c.in_ok-append.ensures.stands told [] c.in_ok-entry.ensures.body stood)),
    )
