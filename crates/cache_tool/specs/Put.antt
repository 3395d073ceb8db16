-- The commands of a `put`.
use Rattle.std.specs.Io.KnownBytes.{Consumes}
use Rattle.std.specs.Prelude.{List, Some, [], length, map, ℕ, ◌++◌, ◌∷◌, ◌≡◌}
use Rattle.cache_base.specs.Causes.{Rose}
use Rattle.cache_base.specs.declared.limits.TheConstants.{PIECE_MAX}
use Rattle.cache_base.specs.declared.status.Status.{Status}
use Rattle.cache_theory.specs.Command.{Command}
use Rattle.cache_theory.specs.Command.Command.{Append, Close, Create}
use Rattle.cache_theory.specs.Machine.{Machine}
use Rattle.cache_tool.specs.Pieces.{pieces_of}
use Rattle.cache_tool.specs.Replies.{until_refused}
use Rattle.cache_tool.specs.Statuses.{IsAnswer}
use Rattle.cache_tool.specs.World.{Supply}

-- the body is appended in pieces, of which each but the last is as long as a piece may be
abbrev pub appends : List ℕ → List Command
appends body = map (λ piece. Append 0 piece) (pieces_of PIECE_MAX (length body) body)

-- an entry is made, gets the body and is closed
abbrev pub put_commands : Machine → List ℕ → List ℕ → List Command
put_commands m key body = until_refused m (Create 0 key ∷ (appends body ++ Close 0 ∷ []))

-- an entry is made and gets what came of the body, and is left open where its source failed
abbrev pub broken_commands : Machine → List ℕ → List ℕ → List Command
broken_commands m key body = until_refused m (Create 0 key ∷ appends body)

-- the source has not failed since, and this body is what it had
pub record GivesWhole (before now : Supply) (body : List ℕ) : Type 0 where
  pub calm : now.faults ≡ before.faults
  pub whole : before.left ≡ Some body

-- it has failed, and this body is what it gave before
pub record GivesPart (before now : Supply) (body : List ℕ) : Type 0 where
  pub failed : Rose before.faults now.faults
  pub given : Consumes before.left now.left body

-- the commands, by what the source has at the call where it did not fail, or by what it gave before it failed: so there
-- is no `close` among them where the source failed
pub data ArePut (m : Machine) (key : List ℕ) (before now : Supply) (ended : Status)
    (cs : List Command) : Type 0 where
  Whole : (body : List ℕ) → GivesWhole before now body → cs ≡ put_commands m key body
      → ArePut m key before now ended cs
  Broken : (body : List ℕ) → GivesPart before now body → ¬ (IsAnswer ended)
      → cs ≡ broken_commands m key body → ArePut m key before now ended cs
