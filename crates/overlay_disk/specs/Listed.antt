-- Which files are listed, by what was changed.
use Rattle.std.specs.Prelude.{Bool, true, false, if◌then◌else◌}
use Rattle.overlay_disk.specs.declared.over.Over.{Over}
use Rattle.overlay_disk.specs.declared.over.Over.TheVariants.{Below, Gone, File}

-- whether a file stands at a place, where this is known of it and a file stands there below or not
abbrev pub stands_after : Over → Bool → Bool
stands_after Below below = below
stands_after Gone below = false
stands_after (File file) below = true

-- the same of any place, where this is known of one, which is the place or not
abbrev pub followed : Over → Bool → Bool → Bool
followed over same stands = if same then stands_after over stands else stands
