-- A source whose bytes spell a script has no bad command.
use Rattle.std.proofs.Common.{◌≡◌, ◌≢◌, ◌⊎◌, inl, inr, ℕ, List, Option, None, Some, refl, subst}
use Rattle.cache_base.specs.declared.status.Status.{Status}
use Rattle.cache_base.specs.declared.status.Status.TheVariants as status
use Rattle.cache_script.proofs.ListLaws.{commands_are_one}
use Rattle.cache_theory.specs.Text.{ScriptSpells}
use Rattle.cache_tool.specs.Script.{HasBadCommand, IsScript}
use Rattle.cache_tool.specs.Statuses.{IsAnswer}
use Rattle.cache_tool.proofs.Scripts.ScriptWhole.{whole_is_longest}

pub script_is_not_bad : (left : Option (List ℕ)) → IsScript left → HasBadCommand left → ⊥
script_is_not_bad None script bad = script
script_is_not_bad (Some bytes) (cs, spells) (ds, (found, none)) =
    none (subst (ScriptSpells bytes) (commands_are_one bytes cs ds (whole_is_longest bytes cs spells) found) spells)

-- the statuses that are left where nothing fails
pub nothing_failed : (ended : Status) → ended ≢ status.Words → ended ≢ status.Script → ended ≢ status.Source → ended ≢ status.Sink → ended ≢ status.Disk → IsAnswer ended ⊎ (ended ≡ status.Memory)
nothing_failed status.Done words script source sink disk = inl (inl refl)
nothing_failed status.No words script source sink disk = inl (inr refl)
nothing_failed status.Memory words script source sink disk = inr refl
nothing_failed status.Words words script source sink disk = absurd (words refl)
nothing_failed status.Script words script source sink disk = absurd (script refl)
nothing_failed status.Source words script source sink disk = absurd (source refl)
nothing_failed status.Sink words script source sink disk = absurd (sink refl)
nothing_failed status.Disk words script source sink disk = absurd (disk refl)
