use Rattle.std.proofs.Common.{◌≡◌, ◌+◌, ◌<◌, ℕ, List, [], ◌∷◌, ◌++◌, None, Some, arith, ap, sym, ◌∙◌, length, length-set, take}
use Rattle.std.proofs.lemmas.List.{take_more_set}
use Rattle.handle_table.specs.Aside.{number_in}
use Rattle.handle_table.proofs.AsideNumbers.{numbers_more, numbers_same}
use Rattle.handle_table.proofs.aside.doomed_numbers.Goals as goal
use Rattle.handle_table.proofs.aside.doomed_numbers.Goals.{in-Some+in-Some-aside, in-Some+in_default-aside, in_default}

-- the prefix of an array is as before where array and count are
same_front : (numbers numbers' : List ℕ) (count count' : ℕ) → count' ≡ count → numbers' ≡ numbers → take count' numbers' ≡ take count numbers
same_front numbers numbers' count count' e f = ap (λ n. take n numbers') e ∙ ap (take count) f

pub loop-object-preserved : goal.loop-object-preserved
loop-object-preserved c =
    let i : ℕ = c.loop-object.object-index in
    let before = c.loop-object.invariant in
    let objects = c.args.objects.now in
    let few = before.few in
    let same = c.object-item.is in
    let within : i < length objects = let lt = c.loop-object-test.true in let l = c.type_inv.objects in omega (arith, lt, l) in
    elim c.match-object.branch [
      | in-Some+in-Some-aside w ↦
          let number : ℕ = w.in-Some-aside.number in
          let doomed : number_in c.object-item.result ≡ Some number = ap number_in (same ∙ w.in-Some.is) ∙ w.in-Some-aside.is in
          record {
            few = (let e = w.count-is in omega (arith, e, few));
            long = ap length w.numbers-is ∙ length-set c.loop-object.numbers c.loop-object.count number ∙ before.long;
            so_far =
                ap (λ n. take n c.match-object.numbers) w.count-is ∙ ap (take (c.loop-object.count + 1)) w.numbers-is
                ∙ take_more_set c.loop-object.numbers c.loop-object.count number (let lt = c.loop-object-test.true in let l = c.type_inv.objects in let rows = before.long in omega (arith, lt, l, rows, few))
                ∙ ap (λ l. l ++ number ∷ []) before.so_far
                ∙ sym (numbers_more objects i c.object-item.result number within same doomed);
          }
      | in-Some+in_default-aside w ↦
          let none : number_in c.object-item.result ≡ None = ap number_in (same ∙ w.in-Some.is) ∙ w.in_default-aside.is in
          record {
            few = (let e = w.count-is in omega (arith, e, few));
            long = ap length w.numbers-is ∙ before.long;
            so_far =
                same_front c.loop-object.numbers c.match-object.numbers c.loop-object.count c.match-object.count w.count-is w.numbers-is ∙ before.so_far
                ∙ sym (numbers_same objects i c.object-item.result within same none);
          }
      | in_default w ↦
          let none : number_in c.object-item.result ≡ None = ap number_in (same ∙ w.in_default.is) in
          record {
            few = (let e = w.count-is in omega (arith, e, few));
            long = ap length w.numbers-is ∙ before.long;
            so_far =
                same_front c.loop-object.numbers c.match-object.numbers c.loop-object.count c.match-object.count w.count-is w.numbers-is ∙ before.so_far
                ∙ sym (numbers_same objects i c.object-item.result within same none);
          }
    ]
