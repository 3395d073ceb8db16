-- The replies of which nothing is said yet.
use Rattle.std.specs.Prelude.{Err, None, Ok, Option, Result}
use Rattle.cache_replies.specs.declared.answered.Answered.{Answered}
use Rattle.cache_store.specs.declared.fault.StoreFault.{StoreFault}
use Rattle.cache_theory.specs.Command.{Reply}
use Rattle.cache_replies.specs.Answers.{reply_of}

-- the same of a call that may fail
abbrev pub replied : Result Answered StoreFault → Option Reply
replied (Ok a) = reply_of a
replied (Err f) = None
