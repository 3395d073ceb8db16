-- The places of files that stand aside.
use Rattle.std.proofs.Common.{◌≡◌, ℕ, ap}
use Rattle.disk_theory.specs.declared.place.Place.{Place}
use Rattle.disk_theory.specs.declared.place.Place.TheVariants.{Clear, Doomed, Entry, Index, Log, Tmp}

number_at : Place → ℕ
number_at (Entry name) = 0
number_at (Doomed k) = k
number_at Index = 0
number_at Log = 0
number_at Tmp = 0
number_at Clear = 0

-- the place of such a file is one number's
pub one_doomed : (d e : ℕ) → Doomed d ≡ Doomed e → d ≡ e
unfolding number_at
one_doomed d e same = ap number_at same
