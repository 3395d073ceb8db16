use Rattle.std.proofs.Common.{refl}
use Rattle.folder_paths.proofs.NumberLaws.{passed_free, past_end}
use Rattle.folder_paths.proofs.numbers.past_all.Goals as goal

pub returns-in_err-named-clause-none : goal.returns-in_err-named-clause-none
returns-in_err-named-clause-none c = λ none.
    past_end c.args.folders.now.keys c.folders.folder-iterator c.next.new.self c.in-Some.folder.now c.folders.named c.args.number
    c.folders.invariant.2 c.in-Some.ensures.steps (c.in_err-named.ensures.none refl)

pub returns-clause-free : goal.returns-clause-free
returns-clause-free c =
    passed_free c.args.folders.now.keys c.folders.folder-iterator c.folders.named c.args.number
    c.in-None.ensures.steps.0 c.folders.invariant.2 c.into_iter-folder-iterator.ensures.into_iter_gives.4
