-- The first bytes of a file that no write reached since the last sync.
use Rattle.std.specs.Prelude.{ℕ, ◌≡◌, ◌≤◌, ◌<◌, List, length, take, IfSome, Some}
use Rattle.disk_theory.specs.declared.place.Place.{Place}
use Rattle.disk_theory.specs.Image.{Files, IsImageAt, IsReached}
use Rattle.disk_theory.specs.Sound.{names_before}
use Rattle.disk_theory.specs.State.{File, State, content, names_now, standing}

-- no write of the file since the last sync reaches one of its first n bytes
abbrev pub IsUnreachedBelow : ℕ → File → Type 0
IsUnreachedBelow n file = (i : ℕ) → i < n → IsReached i file.writes → ⊥

-- in each image, wherever the file of this number stands, it begins with these bytes
abbrev pub BeginsInImages : ℕ → List ℕ → State → Type 0
BeginsInImages file prefix s = (image : Files) (left : ℕ) (place : Place) → IsImageAt s left image
    → names_before s left place ≡ Some file
    → IfSome (image place) (λ c. take (length prefix) c ≡ prefix)

-- where no write reached the first n bytes of the file at the place, each image of now has them as they were before,
-- wherever that file stands
abbrev pub KeepsPrefix : Place → ℕ → State → State → Type 0
KeepsPrefix place n before now = (file : ℕ) → names_now before place ≡ Some file
    → IsUnreachedBelow n (before.files file)
    → BeginsInImages file (take n (content (before.files file))) now

-- the first n bytes of a file are the same in each image, where no write reached them since the last sync
abbrev pub UnreachedIsKept : State → Type 0
UnreachedIsKept s = (place : Place) (c : List ℕ) (n : ℕ) → standing s place ≡ Some c → n ≤ length c
    → KeepsPrefix place n s s
