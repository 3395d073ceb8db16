use Rattle.std.proofs.Common.{subst}
use Rattle.cache_base.specs.Bytes.{AreBytes}
use Rattle.entry_file.specs.Held.{held}
use Rattle.entry_file.proofs.FinishedBody.{is_version}
use Rattle.entry_file.proofs.new_entry.NewEntry.makes_version.Goals as goal

pub returns : goal.returns
returns c = λ body has bytes.
    is_version (held c.args.self.now) body has c.args.self.now.short c.args.header c.args.key.now c.args.elements.now c.parts_fit.ensures.header c.requires.version c.requires.key_size c.requires.grammar
    (subst AreBytes c.as_slice.ensures c.bytes_fit.ensures) c.parts_fit.ensures.elements c.parts_fit.ensures.bytes c.requires.small c.args.self.now.bounded bytes
