-- A reply that goes out piece by piece.
use Rattle.std.specs.Prelude.{List, Option, length, take, ℕ, ◌++◌, ◌<◌, ◌≡◌}
use Rattle.std.specs.Io.KnownBytes.{Appends}
use Rattle.cache_io.specs.declared.sink.Sink.{Ghosts}
use Rattle.cache_replies.specs.declared.pending.Pending.{Pending}

-- how far it is said at a moment: what the sink took, and what is held
pub record Saying : Type 0 where
  pub taken : Option (List ℕ)
  pub held : List ℕ

-- how far this reply is said, with the sink as it is now
abbrev pub saying : {C : _} → Ghosts C → Pending → C → Saying
saying K reply sink = record { taken = K.taken sink; held = reply.held }

-- so far this was said: a prefix of it went out since `before`, and the rest is held
pub record Said (before : Option (List ℕ)) (now : Saying) (text : List ℕ) : Type 0 where
  pub front : List ℕ
  pub out : Appends before now.taken front
  pub is : text ≡ front ++ now.held

-- a part of the text went out, and not all of it
abbrev pub IsCut : Option (List ℕ) → Option (List ℕ) → List ℕ → Type 0
IsCut before now text = (n : ℕ) × ((n < length text) × Appends before now (take n text))
