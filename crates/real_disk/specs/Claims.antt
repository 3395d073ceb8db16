-- Whether a run has the folder of the cache to itself.
use Rattle.real_disk.specs.declared.claim.Claim.{Claim}
use Rattle.real_disk.specs.declared.claim.Claim.TheVariants.{Unasked, Missing, Held}

-- it has, or the file system has no locks
abbrev pub IsClaimed : {F : Type 0} → Claim F → Type 0
IsClaimed Unasked = ⊥
IsClaimed (Missing above) = ⊥
IsClaimed (Held folder) = Unit {0}

-- it has asked: it has the folder, or found it missing
abbrev pub IsAsked : {F : Type 0} → Claim F → Type 0
IsAsked Unasked = ⊥
IsAsked (Missing above) = Unit {0}
IsAsked (Held folder) = Unit {0}
