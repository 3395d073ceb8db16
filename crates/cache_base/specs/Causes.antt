-- How an answer is tied to a count of faults.
use Rattle.std.specs.Prelude.{ℕ, suc, zero, ◌≡◌, ◌≤◌, ◌+◌, ◌-◌, ◌^◌, min}

-- a count that is raised by one; at 2 ^ 64 - 1 it stays
abbrev pub one_more : ℕ → ℕ
one_more n = min (n + 1) (2 ^ 64 - 1)

-- raised by one so many times
abbrev pub raised_by : ℕ → ℕ → ℕ
raised_by zero n = n
raised_by (suc times) n = one_more (raised_by times n)

-- the count rose, or stands at its end
abbrev pub Rose : ℕ → ℕ → Type 0
Rose before now = one_more before ≤ now

-- the count rose by one, or stands at its end
abbrev pub RoseOnce : ℕ → ℕ → Type 0
RoseOnce before now = now ≡ one_more before

-- a call fails only where the count rose, and a call that does not fail leaves the count
pub record HasCause (fails : Type 0) (before now : ℕ) : Type 0 where
  pub later : before ≤ now
  pub rose : fails → Rose before now
  pub kept : ¬ fails → now ≡ before

-- a call that fails raises the count by one, and a call that does not fail leaves it
pub record CountsFailure (fails : Type 0) (before now : ℕ) : Type 0 where
  pub later : before ≤ now
  pub rose : fails → RoseOnce before now
  pub kept : ¬ fails → now ≡ before
