-- What stands after each change.
use Rattle.std.proofs.Common.{◌≡◌, ◌≢◌, ℕ, List, Option, Some, None, Bool, refl, sym, ◌∙◌, ap, subst, if◌then◌else◌}
use Rattle.disk_theory.specs.declared.place.Place.{Place}
use Rattle.disk_theory.specs.State.{Write, File, Names, State, with_name, content, content_of, written, add_write, write_to, names_now, standing, added, wrote, renamed, removed, settled}
use Rattle.disk_theory.specs.Sound.{IsSound}
use Rattle.disk_theory.specs.Standing.{PutsContent, Moves, SameStanding}
use Rattle.disk_theory.proofs.Places.{is_same-refl, is_same-apart}
use Rattle.disk_theory.proofs.Sound.{names_settled}
use Rattle.disk_theory.proofs.Files.{with_file-same, with_file-apart, with_file-below, content_of-same}

-- a new file
pub added_puts : (place : Place) (new : File) (s : State) → IsSound s → PutsContent place (Some (content new)) s (added place new s)
added_puts place new s sound = record { here = here; others = others }
  where
    here : standing (added place new s) place ≡ Some (content new)
    here =
        ap (λ (b : Bool). content_of (added place new s).files (if b then Some s.made else names_now s place)) (is_same-refl place)
        ∙ ap (λ (file : File). Some (content file)) (with_file-same s.made new s.files)

    others : (other : Place) → other ≢ place → standing (added place new s) other ≡ standing s other
    others other apart =
        ap (λ (b : Bool). content_of (added place new s).files (if b then Some s.made else names_now s other)) (is_same-apart other place apart)
        ∙ content_of-same s.files (added place new s).files (names_now s other) (λ f at. with_file-below s.made f new s.files (sound.made 0 other f at))

-- the same where the names are then settled
pub put_puts : (place : Place) (new : File) (s t : State) (bytes : List ℕ) → t ≡ names_settled (added place new s) → content new ≡ bytes → IsSound s → PutsContent place (Some bytes) s t
put_puts place new s t bytes is holds sound =
    subst (λ (u : State). PutsContent place (Some bytes) s u) (sym is)
    (subst (λ (c : List ℕ). PutsContent place (Some c) s (names_settled (added place new s))) holds (let one = added_puts place new s sound in record { here = one.here; others = one.others }))

-- a write into the file that stands there
pub wrote_puts : (place : Place) (write : Write) (s : State) (c : List ℕ) → IsSound s → standing s place ≡ Some c → PutsContent place (Some (written write c)) s (wrote place write s)
wrote_puts place write s c sound stands = record { here = here (names_now s place) stands; others = others }
  where
    here : (at : Option ℕ) → content_of s.files at ≡ Some c → content_of (write_to at write s.files) at ≡ Some (written write c)
    here None is = cc
    here (Some f) is =
        let same : content (s.files f) ≡ c = cc in
        ap (λ (file : File). Some (content file)) (with_file-same f (add_write write (s.files f)) s.files) ∙ ap (λ (d : List ℕ). Some (written write d)) same

    untouched : (f : ℕ) (at : Option ℕ) → (at ≡ Some f → ⊥) → write_to at write s.files f ≡ s.files f
    untouched f None elsewhere = refl
    untouched f (Some g) elsewhere = with_file-apart g f (add_write write (s.files g)) s.files (λ e. elsewhere (ap Some (sym e)))

    others : (other : Place) → other ≢ place → standing (wrote place write s) other ≡ standing s other
    others other apart =
        content_of-same s.files (wrote place write s).files (names_now s other) (λ f at. untouched f (names_now s place) (λ there. apart (sound.one_place 0 other place f at there)))

pub removed_puts : (place : Place) (s : State) → PutsContent place None s (removed place s)
removed_puts place s = record { here = here; others = others }
  where
    here : standing (removed place s) place ≡ None
    here = ap (λ (b : Bool). content_of s.files (if b then None else names_now s place)) (is_same-refl place)

    others : (other : Place) → other ≢ place → standing (removed place s) other ≡ standing s other
    others other apart = ap (λ (b : Bool). content_of s.files (if b then None else names_now s other)) (is_same-apart other place apart)

pub renamed_moves : (from to : Place) (s : State) → from ≢ to → IsSound s → Moves from to s (renamed from to s)
renamed_moves from to s apart sound = record { moved = moved; gone = gone; others = others }
  where
    now : Names
    now = names_now s

    moved : standing (renamed from to s) to ≡ standing s from
    moved =
        ap (λ (b : Bool). content_of s.files (if b then None else with_name to (now from) now to)) (is_same-apart to from (λ e. apart (sym e)))
        ∙ ap (λ (b : Bool). content_of s.files (if b then now from else now to)) (is_same-refl to)

    gone : standing (renamed from to s) from ≡ None
    gone = ap (λ (b : Bool). content_of s.files (if b then None else with_name to (now from) now from)) (is_same-refl from)

    others : (other : Place) → other ≢ from → other ≢ to → standing (renamed from to s) other ≡ standing s other
    others other not_from not_to =
        ap (λ (b : Bool). content_of s.files (if b then None else with_name to (now from) now other)) (is_same-apart other from not_from)
        ∙ ap (λ (b : Bool). content_of s.files (if b then now from else now other)) (is_same-apart other to not_to)

pub settled_same : (s : State) → SameStanding s (settled s)
settled_same s place = there (names_now s place)
  where
    there : (at : Option ℕ) → content_of (settled s).files at ≡ content_of s.files at
    there None = refl
    there (Some f) = refl

-- Two changes in a row.

pub puts_again : (place : Place) (first second : Option (List ℕ)) (s t u : State) → PutsContent place first s t → PutsContent place second t u → PutsContent place second s u
puts_again place first second s t u one two = record { here = two.here; others = λ other apart. two.others other apart ∙ one.others other apart }

pub puts_kept : (place : Place) (c : Option (List ℕ)) (s t u : State) → PutsContent place c s t → SameStanding t u → PutsContent place c s u
puts_kept place c s t u puts same = record { here = same place ∙ puts.here; others = λ other apart. same other ∙ puts.others other apart }
