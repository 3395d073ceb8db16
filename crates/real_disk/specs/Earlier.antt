-- What is known of an earlier process.
use Rattle.std.specs.Prelude.{◌≡◌}
use Rattle.real_disk.specs.declared.earlier.Earlier.{Earlier}
use Rattle.real_disk.specs.declared.earlier.Earlier.TheVariants.{Unknown, Unsynced, Synced}

-- somebody has looked
abbrev pub IsKnown : Earlier → Type 0
IsKnown Unknown = ⊥
IsKnown Unsynced = Unit {0}
IsKnown (Synced covered) = Unit {0}

-- no change of an earlier process waits
abbrev pub IsSynced : Earlier → Type 0
IsSynced Unknown = ⊥
IsSynced Unsynced = ⊥
IsSynced (Synced covered) = Unit {0}

-- it is known now, and what was known before stays
pub record HasLooked (before now : Earlier) : Type 0 where
  pub known : IsKnown now
  pub once : IsKnown before → now ≡ before
