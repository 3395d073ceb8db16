use Rattle.std.proofs.Common.{◌≡◌, ◌++◌, drop}
use Rattle.cache_replies.specs.Texts.{fields}
use Rattle.cache_replies.proofs.entry_text.extend_fields.Given as goal

-- what is left of the numbers completes them
abbrev pub invariant-loop-n : goal.invariant-loop-n
invariant-loop-n l = l.to ++ fields (drop l.n-index l.numbers) ≡ l.fn.to ++ fields l.numbers
