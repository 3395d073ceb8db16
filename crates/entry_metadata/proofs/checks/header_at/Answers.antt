use Rattle.std.proofs.Common.{sym, ◌∙◌, arith, drop}
use Rattle.entry_metadata.proofs.FormatLaws.{first_len, first_stored, other_len, other_stored}
use Rattle.entry_metadata.proofs.checks.header_at.Goals as goal

pub short_header_at-requires : goal.short_header_at-requires
short_header_at-requires c = let k = first_len c.args.version c.if-version-eq1.true in let l = c.requires.long in omega (arith, k, l)

pub returns-then-version-eq1 : goal.returns-then-version-eq1
returns-then-version-eq1 c = c.short_header_at.ensures ∙ first_stored (drop c.args.at c.args.b.now) (sym c.requires.version ∙ c.if-version-eq1.true)

pub full_header_at-requires : goal.full_header_at-requires
full_header_at-requires c = let k = other_len c.args.version c.if-version-eq1.false in let l = c.requires.long in omega (arith, k, l)

pub returns-else-version-eq1 : goal.returns-else-version-eq1
returns-else-version-eq1 c = c.full_header_at.ensures ∙ other_stored (drop c.args.at c.args.b.now) (λ e. c.if-version-eq1.false (c.requires.version ∙ e))
