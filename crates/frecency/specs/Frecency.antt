-- Frecency in whole numbers.
use Rattle.std.specs.Prelude.{List, [], if◌then◌else◌, min, nat_lt, slice_index, ℕ, ◌%◌, ◌*◌, ◌+◌, ◌-◌, ◌/◌, ◌==◌, ◌∷◌}

-- the seconds from one place of the table to the next
abbrev pub step : ℕ
step = 21600

-- the seconds from the middle of the table to either end
abbrev pub reach : ℕ
reach = 172800

-- the table of points, at every step from a frecency a reach before now to one a reach after it
abbrev pub points : List ℕ
points = 121 ∷ 243 ∷ 483 ∷ 959 ∷ 1889 ∷ 3670 ∷ 6954 ∷ 12635 ∷ 21600 ∷ 34235 ∷ 50154 ∷ 68470 ∷ 88289 ∷ 108959 ∷ 130083 ∷ 151443 ∷ 172921 ∷ []

-- the points at `e` seconds from the table's start, by proportion between two places; at the last place the
-- difference is 0
abbrev pub points_at : ℕ → ℕ
points_at e =
    let i = e / step in
    slice_index points i + (slice_index points (i + 1) - slice_index points i) * (e % step) / step

-- the frecency after a use at the moment `now`
unfoldable pub next : ℕ → ℕ → ℕ
next f now = min 0xFFFFFFFF (
    if f == 0 then now
    else if nat_lt (f + reach) now then now + 121
    else if nat_lt (now + reach) f then f + 121
    else now + points_at (f + reach - now))
