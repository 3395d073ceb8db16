use Rattle.cache_replies.proofs.SaidMore.{when_err}
use Rattle.cache_replies.proofs.saying.say_findings.Goals as goal

pub returns-in_err-say_listing-clause-cut : goal.returns-in_err-say_listing-clause-cut
returns-in_err-say_listing-clause-cut g c = when_err c.from_residual.result _ c.in_err-say_listing.ensures.cut
