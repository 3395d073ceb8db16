-- Whether one of a file's writes reached a position.
use Rattle.std.proofs.Common.{◌≡◌, ◌⊎◌, inl, inr, ⊎_elim, ℕ, ◌+◌, ◌^◌, ◌<◌, ◌≤◌, List, [], ◌∷◌, ◌++◌, length, map, take, drop, reverse, get_or, sym, ◌∙◌, ap, subst, arith}
use Rattle.std.proofs.lemmas.List.{take_more, take-append-drop, map_push, map-append, reverse-append, take_all}
use Rattle.std.proofs.lemmas.Bool.{cases_lt}
use Rattle.disk_theory.specs.State.{Write}
use Rattle.disk_theory.specs.State.Write.{End, Patch}
use Rattle.disk_theory.specs.Image.{IsReached}
use Rattle.disk_model.specs.MemWrite.{write_of, newest_first, least_end, Patches, IsPatched}
use Rattle.disk_model.specs.declared.mem_file.MemWrite.{MemWrite}

-- A look through the writes from the oldest on.

later : (i : ℕ) (xs ys : List Write) → IsPatched i ys → IsPatched i (xs ++ ys)
later i [] ys is = is
later i (x ∷ xs) ys is = inr (later i xs ys is)

one_more : (ws : List MemWrite) (k : ℕ) (w : MemWrite) → k < length ws → w ≡ get_or ws k w → newest_first (take (k + 1) ws) ≡ write_of w ∷ newest_first (take k ws)
one_more ws k w lt is =
    ap newest_first (take_more ws k w lt) ∙ ap reverse (map_push write_of (take k ws) (get_or ws k w)) ∙ reverse-append (map write_of (take k ws)) (write_of (get_or ws k w) ∷ [])
    ∙ ap (λ (x : MemWrite). write_of x ∷ newest_first (take k ws)) (sym is)

whole : (ws : List MemWrite) (k : ℕ) → newest_first (drop k ws) ++ newest_first (take k ws) ≡ newest_first ws
whole ws k = sym (reverse-append (map write_of (take k ws)) (map write_of (drop k ws))) ∙ ap reverse (sym (map-append write_of (take k ws) (drop k ws))) ∙ ap newest_first (take-append-drop k ws)

pub found_one : (i : ℕ) (ws : List MemWrite) (k : ℕ) (w : MemWrite) → k < length ws → w ≡ get_or ws k w → Patches i (write_of w) → IsPatched i (newest_first ws)
found_one i ws k w lt is patches =
    subst (IsPatched i) (whole ws (k + 1)) (later i (newest_first (drop (k + 1) ws)) (newest_first (take (k + 1) ws)) (subst (IsPatched i) (sym (one_more ws k w lt is)) (inl patches)))

pub none_so_far : (i : ℕ) (ws : List MemWrite) (k : ℕ) (w : MemWrite) → k < length ws → w ≡ get_or ws k w → (Patches i (write_of w) → ⊥) → (IsPatched i (newest_first (take k ws)) → ⊥) → IsPatched i (newest_first (take (k + 1) ws)) → ⊥
none_so_far i ws k w lt is misses none patched = ⊎_elim misses none (subst (IsPatched i) (one_more ws k w lt is) patched)

pub none_at_all : (i : ℕ) (ws : List MemWrite) (k : ℕ) → length ws ≤ k → (IsPatched i (newest_first (take k ws)) → ⊥) → IsPatched i (newest_first ws) → ⊥
none_at_all i ws k le none patched = none (subst (λ (xs : List MemWrite). IsPatched i (newest_first xs)) (sym (take_all k ws le)) patched)

-- Writes at the end by the least of their offsets.

pub reached_from_least : (i : ℕ) → i < 2 ^ 63 → (ws : List Write) → least_end ws ≤ i → IsReached i ws
reached_from_least i small [] le = absurd (omega (arith, small, le))
reached_from_least i small (End from bytes ∷ earlier) le =
    ⊎_elim (λ lt. inr (reached_from_least i small earlier (omega (arith, le, lt)))) (λ here. inl here) (cases_lt i from)
reached_from_least i small (Patch from bytes ∷ earlier) le = inr (reached_from_least i small earlier le)

pub reached_from_patched : (i : ℕ) (ws : List Write) → IsPatched i ws → IsReached i ws
reached_from_patched i [] is = is
reached_from_patched i (End from bytes ∷ earlier) is = ⊎_elim (λ never. absurd never) (λ old. inr (reached_from_patched i earlier old)) is
reached_from_patched i (Patch from bytes ∷ earlier) is = ⊎_elim (λ here. inl here) (λ old. inr (reached_from_patched i earlier old)) is

pub least_or_patched : (i : ℕ) (ws : List Write) → IsReached i ws → (least_end ws ≤ i) ⊎ IsPatched i ws
least_or_patched i [] is = absurd is
least_or_patched i (End from bytes ∷ earlier) is =
    ⊎_elim (λ here. inl (omega (arith, here))) (λ old. ⊎_elim (λ le. inl (omega (arith, le))) (λ patched. inr (inr patched)) (least_or_patched i earlier old)) is
least_or_patched i (Patch from bytes ∷ earlier) is =
    ⊎_elim (λ here. inr (inl here)) (λ old. ⊎_elim (λ le. inl le) (λ patched. inr (inr patched)) (least_or_patched i earlier old)) is
