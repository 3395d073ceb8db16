-- The first bytes of a file that no write reached since the last sync.
use Rattle.std.proofs.Common.{◌≡◌, inl, inr, ℕ, zero, suc, ◌<◌, ◌≤◌, List, [], ◌∷◌, ◌++◌, length, length-append, take, get_or, Option, Some, None, refl, sym, ◌∙◌, ap, subst, arith, get_or-take}
use Rattle.std.specs.Prelude.{IfSome}
use Rattle.std.proofs.lemmas.List.{ext_get_or, length-take-le, take_at}
use Rattle.disk_theory.specs.declared.place.Place.{Place}
use Rattle.disk_theory.specs.Image.{IsReached, MayHold, MayStand, Reaches, shortest}
use Rattle.disk_theory.specs.Prefixes.{BeginsInImages, IsUnreachedBelow, KeepsPrefix, UnreachedIsKept}
use Rattle.disk_theory.specs.Sound.{AreInside, IsSound, names_before, room}
use Rattle.disk_theory.specs.State.{File, State, Write, add_write, content, content_after, content_of, names_now, standing, write_to, written, wrote}
use Rattle.disk_theory.specs.State.Write.{End}
use Rattle.disk_theory.proofs.Files.{with_file-same}
use Rattle.disk_theory.proofs.Images.{content-kept, written-kept}

-- before a write that does not reach below n, the content was no shorter than n
long_before : (n : ℕ) (w : Write) (c : List ℕ) → room w ≤ length c → ((i : ℕ) → i < n → Reaches i w → ⊥) → n ≤ length (written w c) → n ≤ length c
long_before zero w c inside unreached long = omega arith
long_before (suc k) w c inside unreached long = elim (written-kept w c k inside (omega (arith, long))) [
  | inl reached ↦ absurd (unreached k (omega arith) reached)
  | inr kept ↦ let below = kept.0 in omega (arith, below)
]

-- so no moment is shorter than n
all_long : (n : ℕ) (synced : List ℕ) (ws : List Write) → AreInside synced ws → ((i : ℕ) → i < n → IsReached i ws → ⊥) → n ≤ length (content_after synced ws) → n ≤ shortest synced ws
all_long n synced [] inside unreached long = long
all_long n synced (w ∷ ws) inside unreached long =
    let before = long_before n w (content_after synced ws) (inside 0 w refl) (λ i below reached. unreached i below (inl reached)) long in
    let least = all_long n synced ws (λ left write is. inside (suc left) write is) (λ i below reached. unreached i below (inr reached)) before in
    omega (arith, long, least)

-- what a crash may leave of the file begins as the file does now
pub prefix_held : (n : ℕ) (file : File) → AreInside file.synced file.writes → IsUnreachedBelow n file → n ≤ length (content file)
    → (c : List ℕ) → MayHold file c → take n c ≡ take n (content file)
prefix_held n file inside unreached long c may =
    let least = all_long n file.synced file.writes inside unreached long in
    let shorter = may.no_shorter in
    let fits : n ≤ length c = omega (arith, least, shorter) in
    let now : (i : ℕ) → i < n → get_or (content file) i 0 ≡ get_or file.synced i 0 =
    λ i below. elim (content-kept file.synced file.writes i inside (omega (arith, below, long))) [ inl reached ↦ absurd (unreached i below reached) | inr same ↦ same ] in
    let left : (i : ℕ) → i < n → get_or c i 0 ≡ get_or file.synced i 0 =
    λ i below. elim (may.kept i (omega (arith, below, fits))) [ inl reached ↦ absurd (unreached i below reached) | inr same ↦ same ] in
    let a = length-take-le n c fits in
    let b = length-take-le n (content file) long in
    ext_get_or 0 (take n c) (take n (content file)) (omega (arith, a, b)) (λ i lt.
    let below : i < n = omega (arith, a, lt) in
    get_or-take n c i 0 below ∙ left i below ∙ sym (now i below) ∙ sym (get_or-take n (content file) i 0 below))

-- at one place of an image
at_image : (files : ℕ → File) (file : ℕ) (prefix : List ℕ) → AreInside (files file).synced (files file).writes → IsUnreachedBelow (length prefix) (files file)
    → length prefix ≤ length (content (files file)) → take (length prefix) (content (files file)) ≡ prefix
    → (at : Option ℕ) (found : Option (List ℕ)) → at ≡ Some file → MayStand files at found → IfSome found (λ c. take (length prefix) c ≡ prefix)
at_image files file prefix inside unreached long begins at None is may = tt
at_image files file prefix inside unreached long begins None (Some c) is may = absurd may
at_image files file prefix inside unreached long begins (Some f) (Some c) is may =
    let same : f ≡ file = cc in
    prefix_held (length prefix) (files file) inside unreached long c (subst (λ (k : ℕ). MayHold (files k) c) same may) ∙ begins

-- a file that begins with these bytes, which no write reached, begins with them in each image
pub begins_in_images : (s : State) → IsSound s → (file : ℕ) (prefix : List ℕ) → IsUnreachedBelow (length prefix) (s.files file)
    → length prefix ≤ length (content (s.files file)) → take (length prefix) (content (s.files file)) ≡ prefix → BeginsInImages file prefix s
begins_in_images s sound file prefix unreached long begins image left place is at =
    at_image s.files file prefix (sound.inside file) unreached long begins (names_before s left place) (image place) at (is place)

-- what the file of a place holds
content_at : (files : ℕ → File) (at : Option ℕ) (file : ℕ) (c : List ℕ) → at ≡ Some file → content_of files at ≡ Some c → content (files file) ≡ c
content_at files None file c is holds = cc
content_at files (Some f) file c is holds =
    let same : f ≡ file = cc in
    let one : content (files f) ≡ c = cc in
    ap (λ (k : ℕ). content (files k)) (sym same) ∙ one

pub unreached_is_kept : (s : State) → IsSound s → UnreachedIsKept s
unreached_is_kept s sound place c n stands long file at unreached =
    let holds : content (s.files file) ≡ c = content_at s.files (names_now s place) file c at stands in
    let fits : n ≤ length (content (s.files file)) = let e = ap length holds in omega (arith, e, long) in
    let size : length (take n (content (s.files file))) ≡ n = length-take-le n (content (s.files file)) fits in
    begins_in_images s sound file (take n (content (s.files file)))
    (λ i below. unreached i (omega (arith, size, below))) (omega (arith, size, fits)) (ap (λ (k : ℕ). take k (content (s.files file))) size)

-- a write at n keeps the first n bytes
written_keeps : (n : ℕ) (bytes : List ℕ) (f : File) (t : State) (file : ℕ) → IsSound t → t.files file ≡ add_write (End n bytes) f → IsUnreachedBelow n f → n ≤ length (content f)
    → BeginsInImages file (take n (content f)) t
written_keeps n bytes f t file sound is unreached long =
    let size : length (take n (content f)) ≡ n = length-take-le n (content f) long in
    let now : content (t.files file) ≡ take n (content f) ++ bytes = ap content is in
    begins_in_images t sound file (take n (content f))
    (subst (λ (g : File). IsUnreachedBelow (length (take n (content f))) g) (sym is)
    (λ i below reached. elim reached [ inl here ↦ absurd (omega (arith, here, below, size)) | inr earlier ↦ unreached i (omega (arith, below, size)) earlier ]))
    (let e = ap length now in let l = length-append (take n (content f)) bytes in omega (arith, e, l))
    (ap (λ (c : List ℕ). take (length (take n (content f))) c) now ∙ take_at (take n (content f)) bytes (length (take n (content f))) refl)

pub end_keeps_prefix : (place : Place) (n : ℕ) (bytes : List ℕ) (s : State) (c : List ℕ) → IsSound (wrote place (End n bytes) s) → standing s place ≡ Some c → n ≤ length c
    → KeepsPrefix place n s (wrote place (End n bytes) s)
end_keeps_prefix place n bytes s c sound stands long file at unreached =
    let here : (wrote place (End n bytes) s).files file ≡ add_write (End n bytes) (s.files file) =
    ap (λ (o : Option ℕ). write_to o (End n bytes) s.files file) at ∙ with_file-same file (add_write (End n bytes) (s.files file)) s.files in
    let holds : content (s.files file) ≡ c = content_at s.files (names_now s place) file c at stands in
    written_keeps n bytes (s.files file) (wrote place (End n bytes) s) file sound here unreached (let e = ap length holds in omega (arith, e, long))
