-- Each change keeps a state sound.
use Rattle.std.proofs.Common.{◌≡◌, ◌⊎◌, inl, inr, ℕ, List, zero, suc, ◌+◌, ◌<◌, ◌≤◌, [], length, Option, Some, None, Bool, true, false, sym, ◌∙◌, ap, subst, arith, ⊎_elim, if◌then◌else◌}
use Rattle.std.proofs.lemmas.Bool.{cases_Bool}
use Rattle.disk_theory.specs.declared.place.Place.{Place}
use Rattle.disk_theory.specs.Place.{is_same}
use Rattle.disk_theory.specs.State.{Write, File, Names, State, with_name, content, names_now, with_file, added, settled, removed, renamed, add_write}
use Rattle.disk_theory.specs.Sound.{names_before, room, AreInside, IsSound}
use Rattle.disk_theory.specs.State.{written_to}
use Rattle.disk_theory.proofs.Places.{one_same, never}
use Rattle.disk_theory.proofs.Files.{with_file-cases}

-- no file at two places
abbrev IsApart : Names → Type 0
IsApart names = (p q : Place) (file : ℕ) → names p ≡ Some file → names q ≡ Some file → p ≡ q

-- files below n alone
abbrev IsBelow : ℕ → Names → Type 0
IsBelow n names = (p : Place) (file : ℕ) → names p ≡ Some file → file < n

here : (p q : Place) (f : Option ℕ) (names : Names) → is_same q p ≡ true → with_name p f names q ≡ f
here p q f names same = ap (λ (b : Bool). if b then f else names q) same

there : (p q : Place) (f : Option ℕ) (names : Names) → is_same q p ≡ false → with_name p f names q ≡ names q
there p q f names apart = ap (λ (b : Bool). if b then f else names q) apart

-- what stands at a place after a change: the new one there, or what stood at another place
pub found : (p q : Place) (f o : Option ℕ) (names : Names) → with_name p f names q ≡ o → ((q ≡ p) × (f ≡ o)) ⊎ ((names q ≡ o) × (is_same q p ≡ false))
found p q f o names is =
    ⊎_elim (λ same. inl (one_same q p same, sym (here p q f names same) ∙ is)) (λ apart. inr (sym (there p q f names apart) ∙ is, apart)) (cases_Bool (is_same q p))

apart_made : (p : Place) (n : ℕ) (names : Names) → IsApart names → IsBelow n names → IsApart (with_name p (Some n) names)
apart_made p n names apart below a b file at bt =
    elim (found p a (Some n) (Some file) names at) [
      | inl new ↦ elim (found p b (Some n) (Some file) names bt) [
        | inl also ↦ new.0 ∙ sym also.0
        | inr old ↦ let lt : file < n = below b file old.0 in let same : n ≡ file = cc in absurd (omega arith)
      ]
      | inr old ↦ elim (found p b (Some n) (Some file) names bt) [
        | inl also ↦ let lt : file < n = below a file old.0 in let same : n ≡ file = cc in absurd (omega arith)
        | inr both ↦ apart a b file old.0 both.0
      ]
    ]

apart_without : (p : Place) (names : Names) → IsApart names → IsApart (with_name p None names)
apart_without p names apart a b file at bt =
    elim (found p a None (Some file) names at) [
      | inl none ↦ cc
      | inr one ↦ elim (found p b None (Some file) names bt) [ inl none ↦ cc | inr two ↦ apart a b file one.0 two.0 ]
    ]

below_with : (p : Place) (f : Option ℕ) (n : ℕ) (names : Names) → ((file : ℕ) → f ≡ Some file → file < n) → IsBelow n names → IsBelow n (with_name p f names)
below_with p f n names new below a file at = ⊎_elim (λ is. new file is.1) (λ old. below a file old.0) (found p a f (Some file) names at)

-- each write to a file lay within it
abbrev pub IsInside : File → Type 0
IsInside file = AreInside file.synced file.writes

inside_at : (n : ℕ) (file : File) (files : ℕ → File) (k : ℕ) → IsInside file → IsInside (files k) → IsInside (with_file n file files k)
inside_at n file files k new old =
    ⊎_elim (λ is. subst IsInside (sym is.1) new) (λ is. subst IsInside (sym is) old) (with_file-cases n k file files)

-- a file with nothing pending
pub no_writes : (synced : List ℕ) → AreInside synced []
no_writes synced zero write is = cc
no_writes synced (suc left) write is = cc

one_write : (w : Write) (file : File) → room w ≤ length (content file) → IsInside file → IsInside (add_write w file)
one_write w file fits inside zero write is = let same : w ≡ write = cc in subst (λ (v : Write). room v ≤ length (content file)) same fits
one_write w file fits inside (suc left) write is = inside left write is

pub sound_added : (p : Place) (new : File) (s : State) → IsInside new → IsSound s → IsSound (added p new s)
sound_added p new s fits sound = record { one_place = one; made = below; inside = λ file. inside_at s.made new s.files file fits (sound.inside file) }
  where
    one : (left : ℕ) → IsApart (names_before (added p new s) left)
    one zero = apart_made p s.made (names_now s) (sound.one_place 0) (sound.made 0)
    one (suc left) = sound.one_place left

    below : (left : ℕ) → IsBelow (s.made + 1) (names_before (added p new s) left)
    below zero = below_with p (Some s.made) (s.made + 1) (names_now s) (λ file is. let same : s.made ≡ file = cc in omega arith) (λ a file at. let lt = sound.made 0 a file at in omega (arith, lt))
    below (suc left) = λ a file at. let lt = sound.made left a file at in omega (arith, lt)

apart_moved : (from to : Place) (names : Names) → IsApart names → IsApart (with_name from None (with_name to (names from) names))
apart_moved from to names apart a b file at bt =
    elim (stays a at) [
      | inl here ↦ elim (stays b bt) [
        | inl also ↦ here.0 ∙ sym also.0
        | inr old ↦ absurd (old.1 (apart b from file old.0 here.1))
      ]
      | inr one ↦ elim (stays b bt) [
        | inl also ↦ absurd (one.1 (apart a from file one.0 also.1))
        | inr two ↦ apart a b file one.0 two.0
      ]
    ]
  where
    -- what stands after the move came from the first place, or stood there before
    stays : (p : Place) → with_name from None (with_name to (names from) names) p ≡ Some file → ((p ≡ to) × (names from ≡ Some file)) ⊎ ((names p ≡ Some file) × (p ≡ from → ⊥))
    stays p is =
        elim (found from p None (Some file) (with_name to (names from) names) is) [
          | inl gone ↦ cc
          | inr kept ↦ elim (found to p (names from) (Some file) names kept.0) [
            | inl here ↦ inl here
            | inr old ↦ inr (old.0, λ e. never from p e kept.1)
          ]
        ]

pub sound_renamed : (from to : Place) (s : State) → IsSound s → IsSound (renamed from to s)
sound_renamed from to s sound = record { one_place = one; made = below; inside = sound.inside }
  where
    one : (left : ℕ) → IsApart (names_before (renamed from to s) left)
    one zero = apart_moved from to (names_now s) (sound.one_place 0)
    one (suc left) = sound.one_place left

    below : (left : ℕ) → IsBelow s.made (names_before (renamed from to s) left)
    below zero =
        below_with from None s.made (with_name to (names_now s from) (names_now s)) (λ file is. cc)
        (below_with to (names_now s from) s.made (names_now s) (sound.made 0 from) (sound.made 0))
    below (suc left) = sound.made left

pub sound_removed : (p : Place) (s : State) → IsSound s → IsSound (removed p s)
sound_removed p s sound = record { one_place = one; made = below; inside = sound.inside }
  where
    one : (left : ℕ) → IsApart (names_before (removed p s) left)
    one zero = apart_without p (names_now s) (sound.one_place 0)
    one (suc left) = sound.one_place left

    below : (left : ℕ) → IsBelow s.made (names_before (removed p s) left)
    below zero = below_with p None s.made (names_now s) (λ file is. cc) (sound.made 0)
    below (suc left) = sound.made left

-- the names of now are those of the last sync
abbrev pub names_settled : State → State
names_settled s = record s { names = names_now s; steps = [] }

pub sound_names_settled : (s : State) → IsSound s → IsSound (names_settled s)
sound_names_settled s sound = record { one_place = one; made = below; inside = sound.inside }
  where
    one : (left : ℕ) → IsApart (names_before (names_settled s) left)
    one zero = sound.one_place 0
    one (suc left) = sound.one_place 0

    below : (left : ℕ) → IsBelow s.made (names_before (names_settled s) left)
    below zero = sound.made 0
    below (suc left) = sound.made 0

pub sound_settled : (s : State) → IsSound s → IsSound (settled s)
sound_settled s sound =
    let names = sound_names_settled s sound in
    record { one_place = names.one_place; made = names.made; inside = λ file. no_writes (content (s.files file)) }

pub sound_written : (f : ℕ) (w : Write) (s : State) → room w ≤ length (content (s.files f)) → IsSound s → IsSound (written_to f w s)
sound_written f w s fits sound = record {
  one_place = sound.one_place;
  made = sound.made;
  inside = λ file. inside_at f (add_write w (s.files f)) s.files file (one_write w (s.files f) fits (sound.inside f)) (sound.inside file);
}
