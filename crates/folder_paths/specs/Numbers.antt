-- The numbers in the names of doomed files.
use Rattle.std.specs.Prelude.{◌≡◌, ◌≢◌, ℕ, suc, IsSome, List, [], ◌∷◌, Option, Some, None, nat_le, if◌then◌else◌}
use Rattle.std.specs.BTreeSet.{BTreeSet}
use Rattle.std.specs.List.{All}
use Rattle.folder_paths.specs.declared.numbers.Folders.{Folders}

abbrev keys_of : Option (BTreeSet ℕ) → List ℕ
keys_of None = []
keys_of (Some set) = set.keys

-- the numbers under which folders stand, in order, as far as they are known
abbrev pub folder_numbers : Folders → List ℕ
folder_numbers folders = keys_of folders.numbers

-- the number, or the next one where it is not below that of the folder
abbrev pub past : ℕ → ℕ → ℕ
past folder number = if nat_le folder number then suc number else number

-- the number in the name of the file with this number, which passes over those of folders in order
abbrev pub named : List ℕ → ℕ → ℕ
named [] number = number
named (folder ∷ folders) number = named folders (past folder number)

-- no folder stands under the number
abbrev pub IsFree : List ℕ → ℕ → Type 0
IsFree folders number = All (λ folder. folder ≢ number) folders

-- a listing has told them
abbrev pub AreKnown : Folders → Type 0
AreKnown folders = IsSome folders.numbers

-- none has yet
abbrev pub AreUnknown : Folders → Type 0
AreUnknown folders = folders.numbers ≡ None

-- they are those of the listing
abbrev pub HasLearned : Folders → BTreeSet ℕ → Type 0
HasLearned folders numbers = folders.numbers ≡ Some numbers

-- once they are known they stay
abbrev pub KeepsNumbers : Folders → Folders → Type 0
KeepsNumbers before now = IsSome before.numbers → now.numbers ≡ before.numbers
