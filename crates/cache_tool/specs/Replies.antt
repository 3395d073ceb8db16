-- The replies of the machine to some commands.
use Rattle.std.specs.Prelude.{Bool, List, [], false, if◌then◌else◌, true, ◌∷◌}
use Rattle.cache_theory.specs.Command.{Command, Reply}
use Rattle.cache_theory.specs.Command.Reply.{Done}
use Rattle.cache_theory.specs.Machine.{Machine}
use Rattle.cache_theory.specs.Step.{step}

-- the reply to the last of them
abbrev pub last_reply : Machine → List Command → Reply
last_reply m [] = Done
last_reply m (c ∷ []) = (step m c).reply
last_reply m (c ∷ (d ∷ cs)) = last_reply (step m c).next (d ∷ cs)

-- a reply is `ok`
abbrev pub is_done : Reply → Bool
is_done Done = true
is_done _ = false

-- the commands up to the first whose reply is not `ok`, itself included
abbrev pub until_refused : Machine → List Command → List Command
until_refused m [] = []
until_refused m (c ∷ cs) =
    c ∷ (if is_done (step m c).reply then until_refused (step m c).next cs else [])
