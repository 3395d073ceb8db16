-- Changes that leave an index as it is, but for its flag.
use Rattle.std.proofs.Common.{◌≡◌, ◌≤◌, ◌+◌, ℕ, Bool, true, false, cond, List, ◌++◌, length, take, drop, Option, None, Some, refl, ap, ◌∙◌, arith, append_assoc, length-append, length-take}
use Rattle.std.proofs.lemmas.List.{take_at}
use Rattle.std.proofs.lemmas.Slice.{drop-append-drop}
use Rattle.disk_theory.specs.Calls.{HoldsPart}
use Rattle.disk_theory.specs.State.{State, add_write, content, content_of, names_now, standing, write_to, written}
use Rattle.disk_theory.specs.State.Write.{Patch}
use Rattle.disk_theory.specs.declared.place.Place.TheVariants.{Index}
use Rattle.disk_theory.proofs.Files.{with_file-same}
use Rattle.index_theory.specs.Closing.{flagged}
use Rattle.cache_store.specs.InUse.{IsSameIndex, before_flag, behind_flag}

pub is_same : (s t : State) → standing t Index ≡ standing s Index → IsSameIndex s t
is_same s t same = record { front = ap before_flag same; behind = ap behind_flag same }

pub same_then : (s t u : State) → IsSameIndex s t → IsSameIndex t u → IsSameIndex s u
same_then s t u one two = record { front = two.front ∙ one.front; behind = two.behind ∙ one.behind }

pub either_same : (b : Bool) (s x y : State) → IsSameIndex s x → IsSameIndex s y → IsSameIndex s (cond b x y)
either_same true s x y one other = one
either_same false s x y one other = other

-- the four bytes of a flag leave those around it
module _ (c flag : List ℕ) (four : length flag ≡ 4) (long : 12 ≤ length c) where
  patched_front : take 8 (written (Patch 8 flag) c) ≡ take 8 c
  patched_front =
      let taken = length-take 8 c in
      ap (take 8) (append_assoc (take 8 c) flag (drop (8 + length flag) c)) ∙ take_at (take 8 c) (flag ++ drop (8 + length flag) c) 8 (omega (arith, taken, long))

  patched_behind : drop 12 (written (Patch 8 flag) c) ≡ drop 12 c
  patched_behind =
      let taken = length-take 8 c in
      let front = length-append (take 8 c) flag in
      drop-append-drop (8 + length flag) c (take 8 c ++ flag) 12 (omega (arith, four)) (omega (arith, front, taken, long))

-- so a flag that is written leaves an index that has room for it
module _ (s : State) (flag : List ℕ) (four : length flag ≡ 4) (holds : HoldsPart (standing s Index) 8 4) where
  flagged_front : before_flag (standing (flagged flag s) Index) ≡ before_flag (standing s Index)
  flagged_front = go (names_now s Index) holds
    where
      go : (at : Option ℕ) → HoldsPart (content_of s.files at) 8 4 → before_flag (content_of (write_to at (Patch 8 flag) s.files) at) ≡ before_flag (content_of s.files at)
      go None none = refl
      go (Some f) long =
          ap (λ file. Some (take 8 (content file))) (with_file-same f (add_write (Patch 8 flag) (s.files f)) s.files) ∙ ap Some (patched_front (content (s.files f)) flag four long)

  flagged_behind : behind_flag (standing (flagged flag s) Index) ≡ behind_flag (standing s Index)
  flagged_behind = go (names_now s Index) holds
    where
      go : (at : Option ℕ) → HoldsPart (content_of s.files at) 8 4 → behind_flag (content_of (write_to at (Patch 8 flag) s.files) at) ≡ behind_flag (content_of s.files at)
      go None none = refl
      go (Some f) long =
          ap (λ file. Some (drop 12 (content file))) (with_file-same f (add_write (Patch 8 flag) (s.files f)) s.files) ∙ ap Some (patched_behind (content (s.files f)) flag four long)

  pub flagged_same : IsSameIndex s (flagged flag s)
  flagged_same = record { front = flagged_front; behind = flagged_behind }
