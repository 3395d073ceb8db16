use Rattle.std.proofs.Common.{◌≡◌, List, ℕ, Some, take, sym, ◌∙◌, subst}
use Rattle.std.proofs.lemmas.List.{take_all}
use Rattle.std.proofs.lemmas.Bool.{true≢false}
use Rattle.disk_theory.specs.Image.{MayStand}
use Rattle.disk_theory.specs.Standing.{PutsContent}
use Rattle.disk_model.specs.MemFile.{nth_file}
use Rattle.disk_model.specs.MemSlots.{names_in}
use Rattle.disk_model.specs.MemTable.{state_of}
use Rattle.disk_model.specs.MemImage.{ArePlacesApart}
use Rattle.disk_model.specs.MemFill.{AreTaken}
use Rattle.disk_model.proofs.MemFill.{made_still, loop_refused, loop_apart, loop_taken, loop_stands}
use Rattle.disk_model.proofs.mem_image.fill.Goals as goal

pub may_stand-requires : goal.may_stand-requires
may_stand-requires c =
    made_still c.args.files.now (names_in c.args.stands.now) (names_in c.loop-place.stands) (take c.loop-place.place-index c.args.contents.now) c.loop-place.invariant.1 c.requires

pub returns-then-not-may_stand-clause-refused : goal.returns-then-not-may_stand-clause-refused
returns-then-not-may_stand-clause-refused c = λ _.
    let e = c.loop-place-item.result in
    let now = names_in c.loop-place.stands in
    loop_refused c.args.files.now (names_in c.args.stands.now) now c.args.contents.now c.loop-place.place-index e c.loop-place-test.true c.loop-place-item.is c.loop-place.invariant.1
    (λ may. let stands = c.may_stand.ensures.1 (subst (λ (bytes : List ℕ). MayStand (nth_file c.args.files.now) (now e.0) (Some bytes)) (sym c.as_slice.ensures) may) in true≢false (sym stands ∙ c.if-not-may_stand.true))

pub loop-place-preserved : goal.loop-place-preserved
loop-place-preserved c =
    let e = c.loop-place-item.result in
    let now = names_in c.loop-place.stands in
    let taken = c.loop-place.invariant.1 in
    let may : MayStand (nth_file c.args.files.now) (now e.0) (Some e.1) =
    subst (λ (bytes : List ℕ). MayStand (nth_file c.args.files.now) (now e.0) (Some bytes)) c.as_slice.ensures (c.may_stand.ensures.0 c.if-not-may_stand.false) in
    let puts : PutsContent e.0 (Some e.1) (state_of c.loop-place.table) (state_of c.put.new.self) =
    subst (λ (bytes : List ℕ). PutsContent e.0 (Some bytes) (state_of c.loop-place.table) (state_of c.put.new.self)) c.as_slice-in-loop-place.ensures c.in_ok-put.ensures.ok in (
      loop_apart c.args.files.now (names_in c.args.stands.now) now c.args.contents.now c.loop-place.place-index e c.loop-place-test.true c.loop-place-item.is taken may c.loop-place.invariant.0,
      loop_taken c.args.files.now (names_in c.args.stands.now) now c.args.contents.now c.loop-place.place-index e c.loop-place-test.true c.loop-place-item.is taken may (names_in c.set_file.new.slots) c.set_file.ensures.now,
      c.put.ensures.quiet,
      loop_stands c.args.files.now (names_in c.args.stands.now) now c.args.contents.now c.loop-place.place-index e c.loop-place-test.true c.loop-place-item.is taken may (state_of c.loop-place.table) (state_of c.put.new.self) puts
          c.loop-place.invariant.3,
    )

pub returns-clause-apart : goal.returns-clause-apart
returns-clause-apart c =
    let whole : take c.loop-place.place-index c.args.contents.now ≡ c.args.contents.now = take_all c.loop-place.place-index c.args.contents.now c.loop-place-test.false in
    subst ArePlacesApart whole c.loop-place.invariant.0

pub returns-clause-taken : goal.returns-clause-taken
returns-clause-taken c =
    let whole : take c.loop-place.place-index c.args.contents.now ≡ c.args.contents.now = take_all c.loop-place.place-index c.args.contents.now c.loop-place-test.false in
    subst (AreTaken c.args.files.now (names_in c.args.stands.now) (names_in c.loop-place.stands)) whole c.loop-place.invariant.1
