-- The paths of folders and of places, below the folder of the cache.
use Rattle.std.specs.Prelude.{◌≡◌, ◌≢◌, ◌<◌, ◌^◌, ◌==◌, if◌then◌else◌, ℕ, List, [], ◌∷◌, ◌++◌, codes, decimal}
use Rattle.hex.specs.Hex.{encode_upper, IsBytes}
use Rattle.folder_paths.specs.declared.numbers.Folders.{Folders}
use Rattle.folder_paths.specs.Numbers.{folder_numbers, named}
use Rattle.disk_theory.specs.declared.place.Place.{Place}
use Rattle.disk_theory.specs.declared.place.Place.TheVariants.{Entry, Doomed as InDoomed, Index, Log, Tmp, Clear}
use Rattle.folder_paths.specs.declared.paths.Area.{Area}
use Rattle.folder_paths.specs.declared.paths.Area.TheVariants.{Top, Entries, Doomed}

-- the name in the folder
abbrev pub below : List ℕ → List ℕ → List ℕ
below folder name = folder ++ (47 ∷ name)

-- a byte before a text that has no slash at its end
abbrev pub before_trimmed : ℕ → List ℕ → List ℕ
before_trimmed byte [] = if byte == 47 then [] else byte ∷ []
before_trimmed byte (next ∷ rest) = byte ∷ next ∷ rest

-- the text without the slashes at its end
abbrev pub trimmed : List ℕ → List ℕ
trimmed [] = []
trimmed (byte ∷ rest) = before_trimmed byte (trimmed rest)

-- how paths in the folder dir begin: an empty one is the current folder
abbrev pub base_text : List ℕ → List ℕ
base_text [] = codes "."
base_text (byte ∷ rest) = trimmed (byte ∷ rest)

-- such a path, and what comes after
pub record IsIn (dir name path : List ℕ) : Type 0 where
  pub base : List ℕ
  pub is_base : base ≡ base_text dir
  pub path_is : path ≡ below base name

-- the path of the folder dir itself: without its last slashes, and that of the root has one
pub record IsTop (dir path : List ℕ) : Type 0 where
  pub base : List ℕ
  pub is_base : base ≡ base_text dir
  pub root : base ≡ [] → path ≡ codes "/"
  pub other : base ≢ [] → path ≡ base

-- the path of a folder of the cache
abbrev pub IsPathOfArea : List ℕ → Area → List ℕ → Type 0
IsPathOfArea dir Top path = IsTop dir path
IsPathOfArea dir Entries path = IsIn dir (codes "entries") path
IsPathOfArea dir Doomed path = IsIn dir (codes "doomed") path

-- the name of the place's file below the folder of the cache
abbrev pub name_of : Folders → Place → List ℕ
name_of numbers (Entry name) = below (codes "entries") (encode_upper name.0)
name_of numbers (InDoomed number) = below (codes "doomed") (decimal (named (folder_numbers numbers) number))
name_of numbers Index = codes "index"
name_of numbers Log = codes "index.log"
name_of numbers Tmp = codes "index.tmp"
name_of numbers Clear = codes "clear"

-- a place that has a name: that of an entry is bytes, and the number in the name of a doomed file is one of 32 bits
abbrev pub HasName : Folders → Place → Type 0
HasName numbers (Entry name) = IsBytes name.0
HasName numbers (InDoomed number) = named (folder_numbers numbers) number < 2 ^ 32
HasName numbers Index = Unit {0}
HasName numbers Log = Unit {0}
HasName numbers Tmp = Unit {0}
HasName numbers Clear = Unit {0}

-- the path of a place
pub record IsPathOf (dir : List ℕ) (numbers : Folders) (place : Place) (path : List ℕ) : Type 0 where
  pub has_name : HasName numbers place
  pub is_in : IsIn dir (name_of numbers place) path

-- two places with one path are one place
abbrev pub HaveOwnPaths : Place → Place → Type 0
HaveOwnPaths a b = (dir : List ℕ) (numbers : Folders) (path : List ℕ) → IsPathOf dir numbers a path → IsPathOf dir numbers b path → a ≡ b
