-- Calls that sync nothing.
use Rattle.std.specs.Prelude.{ℕ, ◌<◌, ◌≡◌, ◌≤◌}
use Rattle.disk_theory.specs.State.{State}

-- what the last sync covered is the same: the names, and the contents of the files made before
pub record SyncsNothing (s t : State) : Type 0 where
  pub names : t.names ≡ s.names
  pub made : s.made ≤ t.made
  pub contents : (file : ℕ) → file < s.made → (t.files file).synced ≡ (s.files file).synced
