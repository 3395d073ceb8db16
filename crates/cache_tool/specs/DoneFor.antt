-- What is done for commands, one after the other.
use Rattle.std.specs.Prelude.{IsTrue, List, [], ⊤, ◌∷◌, ◌⊎◌}
use Rattle.cache_store.specs.DoneFor.{IsDoneFor}
use Rattle.cache_theory.specs.Command.{Command}
use Rattle.cache_theory.specs.Machine.{Machine}
use Rattle.cache_theory.specs.Step.{step}
use Rattle.cache_tool.specs.Right.{is_rebuild}

-- each for its command, where the records are right from the start, or from a `rebuild` on
abbrev pub AreDoneFor : (right : Type 0) → Machine → List Command → List Command → Type 0
AreDoneFor right m [] [] = ⊤
AreDoneFor right m (c ∷ cs) (d ∷ ds) =
    IsDoneFor right c m d × AreDoneFor (right ⊎ IsTrue (is_rebuild c)) (step m d).next cs ds
AreDoneFor right m cs ds = ⊥
