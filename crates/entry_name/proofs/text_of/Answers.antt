use Rattle.std.proofs.Common.{rules, subst}
use Rattle.hex.specs.Hex.{IsBytes}
use Rattle.entry_name.proofs.text_of.Goals as goal

pub returns : goal.returns
returns c =
    let fit : IsBytes c.as_slice-bytes.result.now = search rules in
    record { long = search rules; bytes = subst IsBytes c.as_slice-bytes.ensures fit; spelled = search rules }
