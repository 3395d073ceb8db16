-- A disk as it reads is one of its images, and with nothing pending the only one.
use Rattle.std.proofs.Common.{◌≡◌, ◌⊎◌, inl, inr, ℕ, zero, suc, ◌-◌, ◌<◌, ◌≤◌, List, [], ◌∷◌, length, drop, get_or, Option, Some, None, refl, sym, ◌∙◌, ap, subst, arith}
use Rattle.std.proofs.lemmas.List.{ext_get_or}
use Rattle.std.proofs.lemmas.Grind.{common_steps}
use Rattle.disk_theory.specs.declared.place.Place.{Place}
use Rattle.disk_theory.specs.declared.place.NameStep.{NameStep}
use Rattle.disk_theory.specs.State.{Write, File, State, content, content_after, written, names_after, names_now, standing, content_of}
use Rattle.disk_theory.specs.State.Write.{End, Patch}
use Rattle.disk_theory.specs.Sound.{room, AreInside, IsSound, IsQuiet}
use Rattle.disk_theory.specs.Image.{Files, Reaches, IsReached, shortest, longest, MayHold, MayStand, IsImageAt, IsImage}

-- where a write does not reach, it changes nothing
pub written-kept : (w : Write) (c : List ℕ) (i : ℕ) → room w ≤ length c → i < length (written w c) → Reaches i w ⊎ ((i < length c) × (get_or (written w c) i 0 ≡ get_or c i 0))
written-kept (End from bytes) c i inside lt = grind (arith, common_steps)
written-kept (Patch from bytes) c i inside lt = grind (arith, common_steps)

pub content-kept : (synced : List ℕ) (writes : List Write) (i : ℕ) → AreInside synced writes → i < length (content_after synced writes) → IsReached i writes ⊎ (get_or (content_after synced writes) i 0 ≡ get_or synced i 0)
content-kept synced [] i inside lt = inr refl
content-kept synced (w ∷ earlier) i inside lt =
    elim (written-kept w (content_after synced earlier) i (inside 0 w refl) lt) [
      | inl reached ↦ inl (inl reached)
      | inr kept ↦ elim (content-kept synced earlier i (λ left write is. inside (suc left) write is) kept.0) [
        | inl reached ↦ inl (inr reached)
        | inr same ↦ inr (kept.1 ∙ same)
      ]
    ]

now_range : (synced : List ℕ) (writes : List Write) → (shortest synced writes ≤ length (content_after synced writes)) × (length (content_after synced writes) ≤ longest synced writes)
now_range synced [] = (omega arith, omega arith)
now_range synced (w ∷ earlier) = (omega arith, omega arith)

pub now_may_hold : (file : File) → AreInside file.synced file.writes → MayHold file (content file)
now_may_hold file inside = record { no_shorter = (now_range file.synced file.writes).0; no_longer = (now_range file.synced file.writes).1; kept = λ i lt. content-kept file.synced file.writes i inside lt }

pub now_may_stand : (files : ℕ → File) (at : Option ℕ) → ((file : ℕ) → AreInside (files file).synced (files file).writes) → MayStand files at (content_of files at)
now_may_stand files None inside = tt
now_may_stand files (Some file) inside = now_may_hold (files file) (inside file)

pub now_is_image : (s : State) → IsSound s → IsImage s (standing s)
now_is_image s sound =
    let none : 0 ≡ length s.steps - length s.steps = omega arith in
    (length s.steps, (omega arith, subst (λ left. IsImageAt s left (standing s)) none (λ place. now_may_stand s.files (names_now s place) sound.inside)))

pub drop-nil : {X : Type 0} (n : ℕ) → ◌≡◌ {A = List X} (drop n []) []
drop-nil zero = refl
drop-nil (suc n) = refl

-- a file with no write holds what was synced
pub holds_synced : (file : File) (c : List ℕ) → file.writes ≡ [] → MayHold file c → c ≡ file.synced
holds_synced file c none may = held file.synced file.writes c none may
  where
    only : (synced c : List ℕ) → MayHold (record { synced = synced; writes = [] }) c → c ≡ synced
    only synced c may =
        ext_get_or 0 c synced (omega (arith, may.no_shorter, may.no_longer)) (λ i lt. elim (may.kept i lt) [ inl never ↦ absurd never | inr same ↦ same ])

    held : (synced : List ℕ) (writes : List Write) (c : List ℕ) → writes ≡ [] → MayHold (record { synced = synced; writes = writes }) c → c ≡ synced
    held synced [] c none may = only synced c may
    held synced (w ∷ ws) c none may = cc

pub only_stands : (files : ℕ → File) (at : Option ℕ) (c : Option (List ℕ)) → ((file : ℕ) → (files file).writes ≡ []) → MayStand files at c → c ≡ content_of files at
only_stands files None None quiet may = refl
only_stands files None (Some c) quiet may = absurd may
only_stands files (Some file) None quiet may = absurd may
only_stands files (Some file) (Some c) quiet may = ap Some (holds_synced (files file) c (quiet file) may ∙ ap (λ ws. content_after (files file).synced ws) (sym (quiet file)))

pub only_now : (s : State) (image : Files) → IsQuiet s → IsImage s image → (place : Place) → image place ≡ standing s place
only_now s image quiet is place =
    let left = length s.steps - is.0 in
    let none : drop left s.steps ≡ s.steps = ap (drop left) quiet.steps ∙ drop-nil left ∙ sym quiet.steps in
    only_stands s.files (names_now s place) (image place) quiet.writes (subst (λ (steps : List NameStep). MayStand s.files (names_after s.names steps place) (image place)) none (is.1.1 place))
