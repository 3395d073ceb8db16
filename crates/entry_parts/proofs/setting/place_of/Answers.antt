use Rattle.std.proofs.Common.{◌≡◌, true, false, sym, ap, ◌∙◌, arith}
use Rattle.std.specs.Str.{bytes_eq}
use Rattle.std.proofs.lemmas.Bool.{eqb-true}
use Rattle.entry_parts.proofs.Cuts.{first_of, some_left}
use Rattle.entry_parts.proofs.Places.{at_start, goes_past, stands_here, stands_nowhere, after_shorter, rest_within}
use Rattle.entry_parts.proofs.setting.place_of.Goals as goal

pub loop-name-init : goal.loop-name-init
loop-name-init c = at_start c.args.name.now c.args.b.now c.requires

pub cut-requires : goal.cut-requires
cut-requires c =
    let h = c.loop-name.invariant in
    let f = first_of h.left c.loop-name.rest.now h.fine h.spelled (some_left _ _ c.is_empty.ensures c.loop-name-test.true) in
    (f.first.name, _, f.fine.0.0, f.spelled)

pub cut-requires-in-loop-name : goal.cut-requires-in-loop-name
cut-requires-in-loop-name c =
    let h = c.loop-name.invariant in
    let f = first_of h.left c.loop-name.rest.now h.fine h.spelled (some_left _ _ c.is_empty.ensures c.loop-name-test.true) in
    let first = c.cut.ensures f.first.name _ f.fine.0.0 f.spelled in
    (f.first.value, _, f.fine.0.1, first.1)

pub overflow_sub-result-then-eq : goal.overflow_sub-result-then-eq
overflow_sub-result-then-eq c =
    let h = c.loop-name.invariant in
    let f = first_of h.left c.loop-name.rest.now h.fine h.spelled (some_left _ _ c.is_empty.ensures c.loop-name-test.true) in
    let first = c.cut.ensures f.first.name _ f.fine.0.0 f.spelled in
    let after = c.cut-in-loop-name.ensures f.first.value _ f.fine.0.1 first.1 in
    let shorter = after_shorter h.left c.loop-name.rest.now _ f after.1 in
    let within = rest_within c.args.b.now h.front c.loop-name.rest.now h.joined in
    omega (arith, shorter, within)

pub returns-then-eq : goal.returns-then-eq
returns-then-eq c =
    let h = c.loop-name.invariant in
    let f = first_of h.left c.loop-name.rest.now h.fine h.spelled (some_left _ _ c.is_empty.ensures c.loop-name-test.true) in
    let first = c.cut.ensures f.first.name _ f.fine.0.0 f.spelled in
    let after = c.cut-in-loop-name.ensures f.first.value _ f.fine.0.1 first.1 in
    let same : bytes_eq f.first.name c.args.name.now ≡ true = sym (ap (λ ys. bytes_eq ys c.args.name.now) first.0) ∙ sym c.eq.ensures ∙ c.if-eq.true in
    stands_here c.args.name.now c.args.b.now c.loop-name.rest.now _ h f same after.1

pub loop-name-smaller : goal.loop-name-smaller
loop-name-smaller c =
    let h = c.loop-name.invariant in
    let f = first_of h.left c.loop-name.rest.now h.fine h.spelled (some_left _ _ c.is_empty.ensures c.loop-name-test.true) in
    let first = c.cut.ensures f.first.name _ f.fine.0.0 f.spelled in
    let after = c.cut-in-loop-name.ensures f.first.value _ f.fine.0.1 first.1 in
    after_shorter h.left c.loop-name.rest.now _ f after.1

pub loop-name-preserved : goal.loop-name-preserved
loop-name-preserved c =
    let h = c.loop-name.invariant in
    let f = first_of h.left c.loop-name.rest.now h.fine h.spelled (some_left _ _ c.is_empty.ensures c.loop-name-test.true) in
    let first = c.cut.ensures f.first.name _ f.fine.0.0 f.spelled in
    let after = c.cut-in-loop-name.ensures f.first.value _ f.fine.0.1 first.1 in
    let other : bytes_eq f.first.name c.args.name.now ≡ false = sym (ap (λ ys. bytes_eq ys c.args.name.now) first.0) ∙ sym c.eq.ensures ∙ c.if-eq.false in
    goes_past c.args.name.now c.args.b.now c.loop-name.rest.now _ h f other after.1

pub returns : goal.returns
returns c =
    let none_left = eqb-true _ _ (sym c.is_empty.ensures ∙ c.loop-name-test.false) in
    stands_nowhere c.args.name.now c.args.b.now c.loop-name.rest.now c.loop-name.invariant none_left
