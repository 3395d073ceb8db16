-- What is due, by what a reader keeps of it.
use Rattle.std.specs.Prelude.{ℕ, ◌≤◌, List, [], length}
use Rattle.cache_base.specs.Bytes.{be32_at}
use Rattle.cache_base.specs.declared.limits.TheConstants.{BODY_MAX}
use Rattle.cache_export.specs.Parts.{Stage}
use Rattle.cache_export.specs.Stages.{stage_at}
use Rattle.cache_export.specs.declared.front.Due.{Due}
use Rattle.cache_export.specs.declared.front.Due.TheVariants as due
use Rattle.cache_export.specs.declared.progress.Progress.{Progress}

-- what is due
abbrev pub stage_of : Progress → Stage
stage_of p = stage_at p.due p.key p.len p.hashes

-- the body that is read
abbrev pub body_of : Progress → Stage
body_of p = Stage.InBody p.key p.len p.hashes

-- a part of a body is due, and before the first one the bytes have the length of a body that may be dumped
abbrev pub IsBodyPart : Due → List ℕ → Type 0
IsBodyPart due.Head bytes = ⊥
IsBodyPart due.Item bytes = ⊥
IsBodyPart due.Length bytes = (4 ≤ length bytes) × (be32_at bytes 0 ≤ BODY_MAX)
IsBodyPart due.Body bytes = Unit {0}

-- the body that is read after its length
abbrev pub begun : Stage → List ℕ → Stage
begun (Stage.AtLength key) bytes = Stage.InBody key (be32_at bytes 0) []
begun stage bytes = stage
