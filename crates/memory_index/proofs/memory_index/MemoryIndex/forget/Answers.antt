use Rattle.std.proofs.Common.{arith, drop, drop_of_length-le, rules}
use Rattle.std.proofs.lemmas.List.{drop_more}
use Rattle.memory_index.proofs.Forgotten.{forgets_next, forgets_whole}
use Rattle.memory_index.proofs.memory_index.MemoryIndex.forget.Goals as goal

pub loop-name-preserved : goal.loop-name-preserved
loop-name-preserved c =
    let names = c.args.names.now in
    let i = c.loop-name.name-index in
    record {
      rest = search rules;
      forgets = forgets_next _ _ names (drop i names) c.args.self.now.map c.loop-name.self.map _ (drop_more names i _ c.loop-name-test.true) c.remove.ensures c.loop-name.invariant.forgets;
    }

pub returns-clause-forgets : goal.returns-clause-forgets
returns-clause-forgets c =
    let names = c.args.names.now in
    let i = c.loop-name.name-index in
    forgets_whole names (drop i names) c.args.self.now.map c.loop-name.self.map (drop_of_length-le names (let past = c.loop-name-test.false in omega (arith, past))) c.loop-name.invariant.forgets
