-- Contents that are laid over names, one after another.
use Rattle.std.specs.Prelude.{◌≡◌, ℕ, ◌<◌, List, length, Option, Some, None, IsSome}
use Rattle.disk_theory.specs.declared.place.Place.{Place}
use Rattle.disk_theory.specs.State.{File, Names}
use Rattle.disk_theory.specs.Image.{MayStand}
use Rattle.disk_model.specs.MemFile.{nth_file}
use Rattle.disk_model.specs.MemImage.{Given, image_of}
use Rattle.disk_model.specs.declared.mem_file.MemFile.{MemFile}

-- a file stands somewhere
abbrev pub IsAnywhere : Names → Type 0
IsAnywhere names = (place : Place) × IsSome (names place)

-- no file stands anywhere
abbrev pub IsNowhere : Names → Type 0
IsNowhere names = (place : Place) → names place ≡ None

-- each file that stands is one of these
abbrev pub AreMade : List MemFile → Names → Type 0
AreMade files names = (place : Place) (file : ℕ) → names place ≡ Some file → file < length files

-- the contents, and no others, may stand where the files have these names
abbrev pub MayStandAll : List MemFile → Names → Given → Type 0
MayStandAll files names given = (place : Place) → MayStand (nth_file files) (names place) (image_of given place)

-- the name is taken off where a content is given, which may stand there
abbrev pub IsTaken : (ℕ → File) → Option ℕ → Option ℕ → Option (List ℕ) → Type 0
IsTaken files before now None = now ≡ before
IsTaken files before now (Some content) = (now ≡ None) × MayStand files before (Some content)

-- so is each name
abbrev pub AreTaken : List MemFile → Names → Names → Given → Type 0
AreTaken files before now given = (place : Place) → IsTaken (nth_file files) (before place) (now place) (image_of given place)
