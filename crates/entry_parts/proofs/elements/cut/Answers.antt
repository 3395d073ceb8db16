use Rattle.entry_parts.proofs.Cuts.{front_is, rest_is}
use Rattle.entry_parts.proofs.elements.cut.Goals as goal

pub returns : goal.returns
returns c = λ field rest h e.
    (front_is c.args.b.now field rest _ e (c.first_zero-end.ensures field rest h e), rest_is c.args.b.now field rest _ e (c.first_zero-end.ensures field rest h e))
