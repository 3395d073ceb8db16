-- The names after some of the name steps, taken anew.
use Rattle.std.proofs.Common.{◌≡◌, ◌⊎◌, inl, inr, ⊎_elim, ℕ, ◌-◌, ◌≤◌, List, [], ◌∷◌, ◌++◌, length, take, drop, reverse, Option, Some, None, IsSome, Bool, true, false, Contains, refl, sym, ◌∙◌, ap, subst, arith, if◌then◌else◌, cond}
use Rattle.std.specs.Map.{keys_of, lookup}
use Rattle.std.specs.BTreeMap.{is_at}
use Rattle.std.proofs.lemmas.Bool.{cases_Bool}
use Rattle.std.proofs.lemmas.List.{take-append-drop, reverse-append, length-reverse, length-drop}
use Rattle.std.proofs.lemmas.List.Elements.{Contains-append_left, Contains-append_right, Contains-append_cases, Contains-push}
use Rattle.std.proofs.lemmas.Map.Views.{tells_apart}
use Rattle.disk_theory.specs.declared.place.Place.{Place}
use Rattle.disk_theory.specs.declared.place.NameStep.{NameStep}
use Rattle.disk_theory.specs.contracts.place.PlaceOrd.TheImpl as place_ord
use Rattle.disk_theory.specs.Place.{is_same}
use Rattle.disk_theory.specs.State.{Names, with_name, names_after}
use Rattle.disk_theory.specs.Sound.{IsSound, names_before}
use Rattle.disk_model.specs.MemSlots.{Slots, slot_at, now_of, synced_of, names_in, synced_names_in}
use Rattle.disk_model.specs.MemState.{state_from}
use Rattle.disk_model.specs.MemFill.{AreMade}
use Rattle.disk_model.specs.declared.mem_slots.Slot.{Slot}
use Rattle.disk_model.specs.declared.mem_file.MemFile.{MemFile}
use Rattle.disk_theory.proofs.Places.{one_same, never, places_apart}

-- The keys of a map.

has_key : (place : Place) (es : List (Place × Slot)) → IsSome (lookup (is_at (place_ord.ghosts.cmp place)) es) → Contains (keys_of es) place
has_key place [] some = cc
has_key place (e ∷ es) some =
    elim (cases_Bool (is_at (place_ord.ghosts.cmp place) e.0)) [
      | inl same ↦ subst (λ (q : Place). Contains (e.0 ∷ keys_of es) q) (sym (tells_apart places_apart place e.0 same)) (Contains-append_left (e.0 ∷ []) (keys_of es) e.0 (Contains-push [] e.0))
      | inr other ↦
          Contains-append_right (e.0 ∷ []) (keys_of es) place
          (has_key place es (subst (λ (b : Bool). IsSome (cond b (Some e.1) (lookup (is_at (place_ord.ghosts.cmp place)) es))) other some))
    ]

-- a place with no key has no slot
pub key_or_none : (slots : Slots) (place : Place) → (slot_at slots place ≡ None) ⊎ Contains (keys_of slots.entries) place
key_or_none slots place = go (slot_at slots place) refl
  where
    go : (o : Option Slot) → slot_at slots place ≡ o → (slot_at slots place ≡ None) ⊎ Contains (keys_of slots.entries) place
    go None is = inl is
    go (Some slot) is = inr (has_key place slots.entries (subst IsSome (sym is) refl))

pub later_key : (keys rest : List Place) (place q : Place) → keys ≡ place ∷ rest → (q ≡ place → ⊥) → Contains keys q → Contains rest q
later_key keys rest place q is apart has =
    ⊎_elim (λ (first : Contains (place ∷ []) q). absurd (apart (only place q first))) (λ later. later) (Contains-append_cases (place ∷ []) rest q (subst (λ (ks : List Place). Contains ks q) is has))
  where
    only : (p r : Place) → Contains (p ∷ []) r → r ≡ p
    only p r first = grind (arith)

-- Each place gets the file that stood there.

-- done, or still to come
abbrev pub IsCopied : Slots → Slots → List Place → Place → Type 0
IsCopied from copy rest place = (names_in copy place ≡ synced_names_in from place) ⊎ (Contains rest place × (names_in copy place ≡ None))

pub copied_none : (from copy : Slots) (rest : List Place) → rest ≡ keys_of from.entries → copy.entries ≡ [] → (place : Place) → IsCopied from copy rest place
copied_none from copy rest is none place =
    let empty : slot_at copy place ≡ None = ap (lookup (is_at (place_ord.ghosts.cmp place))) none in
    ⊎_elim (λ no_slot. inl (ap now_of empty ∙ sym (ap synced_of no_slot))) (λ has. inr (subst (λ (ks : List Place). Contains ks place) (sym is) has, ap now_of empty)) (key_or_none from place)

pub copied_more : (from m n : Slots) (keys rest : List Place) (place : Place) → keys ≡ place ∷ rest → names_in n ≡ with_name place (synced_names_in from place) (names_in m)
    → ((q : Place) → IsCopied from m keys q) → (q : Place) → IsCopied from n rest q
copied_more from m n keys rest place is now before q = go (is_same q place) refl
  where
    read : (b : Bool) → is_same q place ≡ b → names_in n q ≡ (if b then synced_names_in from place else names_in m q)
    read b same = ap (λ (names : Names). names q) now ∙ ap (λ (c : Bool). if c then synced_names_in from place else names_in m q) same

    go : (b : Bool) → is_same q place ≡ b → IsCopied from n rest q
    go true same = inl (read true same ∙ ap (synced_names_in from) (sym (one_same q place same)))
    go false other =
        elim (before q) [
          | inl done ↦ inl (read false other ∙ done)
          | inr later ↦ inr (later_key keys rest place q is (λ e. never place q e other) later.0, read false other ∙ later.1)
        ]

-- The names after the first of the steps.

past : (xs ys : List NameStep) → drop (length xs) (xs ++ ys) ≡ ys
past [] ys = refl
past (x ∷ xs) ys = past xs ys

dropped : (steps : List NameStep) (n : ℕ) → n ≤ length steps → drop (length (reverse steps) - n) (reverse steps) ≡ reverse (take n steps)
dropped steps n le =
    let count : length (reverse steps) - n ≡ length (reverse (drop n steps)) = omega (arith, length-reverse steps, length-reverse (drop n steps), length-drop n steps, le) in
    let cut : reverse steps ≡ reverse (drop n steps) ++ reverse (take n steps) = ap reverse (sym (take-append-drop n steps)) ∙ reverse-append (take n steps) (drop n steps) in
    (λ i. drop (count i) (cut i)) ∙ past (reverse (drop n steps)) (reverse (take n steps))

-- the files whose names were set anew and then changed by so many steps
pub replayed : (slots : Slots) (steps first : List NameStep) (files : List MemFile) (n : ℕ) (synced stands : Names) → n ≤ length steps → first ≡ take n steps → synced ≡ synced_names_in slots
    → stands ≡ names_after synced (reverse first) → stands ≡ names_before (state_from slots steps files) (length (reverse steps) - n)
replayed slots steps first files n synced stands le is same now =
    now ∙ (λ i. names_after (same i) (reverse (is i))) ∙ ap (names_after (synced_names_in slots)) (sym (dropped steps n le))

pub replayed_made : (slots : Slots) (steps : List NameStep) (files : List MemFile) (left : ℕ) (stands : Names) → stands ≡ names_before (state_from slots steps files) left
    → IsSound (state_from slots steps files) → AreMade files stands
replayed_made slots steps files left stands is sound place file at = sound.made left place file (sym (ap (λ (names : Names). names place) is) ∙ at)
