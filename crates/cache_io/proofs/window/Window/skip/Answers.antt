use Rattle.std.proofs.Common.{ℕ, arith}
use Rattle.std.proofs.lemmas.List.{length-take, length-drop}
use Rattle.cache_io.proofs.WindowLaws.{cut_off}
use Rattle.cache_io.proofs.window.Window.skip.Goals as goal

pub returns-clause-items : goal.returns-clause-items
returns-clause-items c =
    let w = c.args.self.now in
    cut_off w.room.items w.start w.end c.args.count (omega (arith, c.requires, length-take {A = ℕ}, length-drop {A = ℕ}))
