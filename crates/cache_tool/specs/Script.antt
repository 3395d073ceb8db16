-- The bytes of a script, and the line that names a bad command.
use Rattle.std.specs.Io.KnownBytes.{Consumes}
use Rattle.std.specs.Prelude.{IfSome, IsSomeAnd, List, Option, codes, decimal, min, ℕ, [], ◌+◌, ◌∷◌}
use Rattle.cache_base.specs.declared.status.Status.{Status}
use Rattle.cache_base.specs.declared.status.Status.TheVariants as status
use Rattle.cache_theory.specs.Command.{Command}
use Rattle.cache_theory.specs.Text.{CommandsIn, ScriptSpells, line}

-- the line that names a bad command by its number, counted from 1
abbrev pub bad_line : ℕ → List ℕ
bad_line number = line (codes "script" ∷ decimal number ∷ [])

-- the bytes that were taken from a source spell these commands, and no command more
abbrev pub AreTaken : Option (List ℕ) → Option (List ℕ) → List Command → Type 0
AreTaken left now cs = (taken : List ℕ) × (Consumes left now taken × CommandsIn taken cs)

-- so many of the commands were performed: those that are acknowledged, and one more where the sink failed
abbrev pub performed : Status → ℕ → ℕ → ℕ
performed status.Sink acked all = min (acked + 1) all
performed status.Done acked all = acked
performed status.Script acked all = acked
performed status.Source acked all = acked
performed status.No acked all = acked
performed status.Disk acked all = acked
performed status.Memory acked all = acked
performed status.Words acked all = acked

-- the source tells its bytes, and these spell a script
abbrev pub IsScript : Option (List ℕ) → Type 0
IsScript left = IsSomeAnd left (λ bytes. (cs : List Command) × ScriptSpells bytes cs)

-- where the bytes are told, they spell commands to their end
abbrev pub HasScript : Option (List ℕ) → Type 0
HasScript left = IfSome left (λ bytes. (cs : List Command) × ScriptSpells bytes cs)

-- where they are told, there is a bad command after those that they spell
abbrev pub HasBadCommand : Option (List ℕ) → Type 0
HasBadCommand left =
    IfSome left (λ bytes. (cs : List Command) × (CommandsIn bytes cs × ¬ (ScriptSpells bytes cs)))
