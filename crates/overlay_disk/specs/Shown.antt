-- What a disk over another one shows.
use Rattle.std.specs.Prelude.{IsTrue}
use Rattle.disk_theory.specs.Image.{Files}
use Rattle.disk_theory.specs.State.{standing}
use Rattle.disk_theory.specs.declared.disk.Disk.{Ghosts}
use Rattle.overlay_disk.specs.OnlySeen.{IsOnlySeen}
use Rattle.overlay_disk.specs.Seen.{overs_in, seen}
use Rattle.overlay_disk.specs.declared.layer.Layer.{Layer}
use Rattle.overlay_disk.specs.declared.overlay_disk.OverlayDisk.{OverlayDisk}

-- what stands below
abbrev pub files_below : {Self : Type 0} → Ghosts Self → Layer Self → Files
files_below D layer = standing (D.state layer.below.disk)

-- what stands over it
abbrev pub shown_in : {Self : Type 0} → Ghosts Self → Layer Self → Files
shown_in D layer = seen (files_below D layer) (overs_in layer.slots)

-- the relation holds between what stood before and what stands now, where the disk below tells
abbrev pub Shows : {Self : Type 0} → Ghosts Self → (Files → Files → Type 0) → Layer Self
    → Layer Self → Type 0
Shows D R before now = IsTrue D.tells → R (shown_in D before) (shown_in D now)

-- no change and no sync of the disk below was made
abbrev pub LooksBelow : {Self : Type 0} → Ghosts Self → Layer Self → Layer Self → Type 0
LooksBelow D before now = IsOnlySeen D before.below.disk now.below.disk

-- what stands on a disk over another one
abbrev pub shown : {Self : Type 0} → Ghosts Self → OverlayDisk Self → Files
shown D disk = shown_in D disk.layer

-- the disk below
abbrev pub below : {Self : Type 0} → OverlayDisk Self → Self
below disk = disk.layer.below.disk

-- the relation holds between what stood before and what stands now, where the disk below tells
abbrev pub Changes : {Self : Type 0} → Ghosts Self → (Files → Files → Type 0)
    → OverlayDisk Self → OverlayDisk Self → Type 0
Changes D R before now = IsTrue D.tells → R (shown D before) (shown D now)

-- no change and no sync of the disk below was made
abbrev pub OnlyLooks : {Self : Type 0} → Ghosts Self → OverlayDisk Self → OverlayDisk Self → Type 0
OnlyLooks D before now = IsOnlySeen D (below before) (below now)
