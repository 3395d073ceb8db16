use Rattle.std.proofs.Common.{◌≡◌, take}
use Rattle.disk_theory.specs.declared.place.Place.{Place}
use Rattle.disk_theory.specs.State.{standing}
use Rattle.disk_theory.specs.Sound.{IsQuiet}
use Rattle.disk_model.specs.MemSlots.{names_in}
use Rattle.disk_model.specs.MemTable.{state_of}
use Rattle.disk_model.specs.MemImage.{image_of, ArePlacesApart}
use Rattle.disk_model.specs.MemFill.{AreTaken}
use Rattle.disk_model.proofs.mem_image.fill.Given as goal

abbrev pub invariant-loop-place : goal.invariant-loop-place
invariant-loop-place l =
    ArePlacesApart (take l.place-index l.contents) × AreTaken l.files (names_in l.fn.stands) (names_in l.stands) (take l.place-index l.contents)
    × IsQuiet (state_of l.table) × ((place : Place) → standing (state_of l.table) place ≡ image_of (take l.place-index l.contents) place)
