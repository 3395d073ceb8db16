use Rattle.std.proofs.Common.{◌≡◌, ◌∷◌, true, false, length, sym, ap, ◌∙◌, arith, length-append}
use Rattle.std.specs.Prelude.{Some}
use Rattle.std.specs.Str.{bytes_eq}
use Rattle.std.proofs.lemmas.Bool.{eqb-true}
use Rattle.entry_parts.specs.Elements.{element, elements_bytes}
use Rattle.entry_parts.proofs.Cuts.{first_of, none_left, found, not_found, some_left}
use Rattle.entry_parts.proofs.elements.Elements.get.Goals as goal

pub cut-requires : goal.cut-requires
cut-requires c =
    let i = c.loop-name.invariant in
    let f = first_of i.0 c.loop-name.rest.now i.1 i.2 (some_left _ _ c.is_empty.ensures c.loop-name-test.true) in
    (f.first.name, _, f.fine.0.0, f.spelled)

pub cut-requires-in-loop-name : goal.cut-requires-in-loop-name
cut-requires-in-loop-name c =
    let i = c.loop-name.invariant in
    let f = first_of i.0 c.loop-name.rest.now i.1 i.2 (some_left _ _ c.is_empty.ensures c.loop-name-test.true) in
    let name = c.cut.ensures f.first.name _ f.fine.0.0 f.spelled in
    (f.first.value, _, f.fine.0.1, name.1)

pub returns-then-eq : goal.returns-then-eq
returns-then-eq c =
    let i = c.loop-name.invariant in
    let f = first_of i.0 c.loop-name.rest.now i.1 i.2 (some_left _ _ c.is_empty.ensures c.loop-name-test.true) in
    let name = c.cut.ensures f.first.name _ f.fine.0.0 f.spelled in
    let value = c.cut-in-loop-name.ensures f.first.value _ f.fine.0.1 name.1 in
    let same : bytes_eq f.first.name c.args.name.now ≡ true = sym (ap (λ ys. bytes_eq ys c.args.name.now) name.0) ∙ sym c.eq.ensures ∙ c.if-eq.true in
    ap Some value.0 ∙ sym (i.3 ∙ found c.args.name.now i.0 f.others f.first f.all same)

pub loop-name-smaller : goal.loop-name-smaller
loop-name-smaller c =
    let i = c.loop-name.invariant in
    let f = first_of i.0 c.loop-name.rest.now i.1 i.2 (some_left _ _ c.is_empty.ensures c.loop-name-test.true) in
    let name = c.cut.ensures f.first.name _ f.fine.0.0 f.spelled in
    let value = c.cut-in-loop-name.ensures f.first.value _ f.fine.0.1 name.1 in
    let a = ap length value.1 in
    let b = ap length f.spelled ∙ length-append f.first.name _ in
    let d = length-append f.first.value (0 ∷ elements_bytes f.others) in
    omega (arith, a, b, d)

pub loop-name-preserved : goal.loop-name-preserved
loop-name-preserved c =
    let i = c.loop-name.invariant in
    let f = first_of i.0 c.loop-name.rest.now i.1 i.2 (some_left _ _ c.is_empty.ensures c.loop-name-test.true) in
    let name = c.cut.ensures f.first.name _ f.fine.0.0 f.spelled in
    let value = c.cut-in-loop-name.ensures f.first.value _ f.fine.0.1 name.1 in
    let other : bytes_eq f.first.name c.args.name.now ≡ false = sym (ap (λ ys. bytes_eq ys c.args.name.now) name.0) ∙ sym c.eq.ensures ∙ c.if-eq.false in
    (f.others, f.fine.1, value.1, i.3 ∙ not_found c.args.name.now i.0 f.others f.first f.all other)

pub returns : goal.returns
returns c =
    let i = c.loop-name.invariant in
    sym (i.3 ∙ ap (element c.args.name.now) (none_left i.0 c.loop-name.rest.now i.2 (eqb-true _ _ (sym c.is_empty.ensures ∙ c.loop-name-test.false))))
