-- A `getalt` and a `main` answer as a `get` does, but for what they show of the entry.
use Rattle.std.proofs.Common.{◌≡◌, List, [], ◌∷◌, ◌++◌, ℕ, Bool, true, false, Option, Some, None, is_some, refl, ap, ◌∙◌}
use Rattle.std.specs.Prelude.{if◌then◌else◌}
use Rattle.alt_data.specs.AltData.{Alt}
use Rattle.cache_base.specs.Checks.{first_failing}
use Rattle.cache_theory.specs.Checks.{Check, alt_in_version, checks, good_key, has_alt, not_writing, there, undamaged}
use Rattle.cache_theory.specs.Command.{Reply}
use Rattle.cache_theory.specs.Command.Command.{Get, GetAlt, MainBody}
use Rattle.cache_theory.specs.Command.Reply.{Refused}
use Rattle.cache_theory.specs.Laws.{AltIsOfGet, AltStays, alt_reply_by, main_reply_by}
use Rattle.cache_theory.specs.Machine.{Machine, on_shelf}
use Rattle.cache_theory.specs.Step.{alt_reply, alt_reply_of, effect, found_reply, main_reply, stepped}
use Rattle.cache_theory.specs.declared.refusal.Refusal.{Refusal}
use Rattle.cache_theory.specs.declared.refusal.Refusal.TheVariants.{NoAlt}
use Rattle.entry_file.specs.EntryFile.{Reading}
use Rattle.entry_file.specs.EntryFile.Reading.{Whole, Damaged, Nothing}
use Rattle.entry_file.specs.Version.{Version}

-- one check more, after others
abbrev then_check : Option Refusal → Check → Option Refusal
then_check None h = if h.0 then None else Some h.1
then_check (Some r) h = Some r

behind_one : (b : Bool) (all front : Option Refusal) (r : Refusal) (h : Check) → all ≡ then_check front h → (if b then all else Some r) ≡ then_check (if b then front else Some r) h
behind_one true all front r h is = is
behind_one false all front r h is = refl

more_checks : (cs : List Check) (h : Check) → first_failing (cs ++ h ∷ []) ≡ then_check (first_failing cs) h
more_checks [] h = refl
more_checks (c ∷ cs) h = behind_one c.0 (first_failing (cs ++ h ∷ [])) (first_failing cs) c.1 h (more_checks cs h)

-- the reply to a `getalt`, by what stands and the check that fails
abbrev replied : Reading → Option Refusal → Reply
replied r None = alt_reply r
replied r (Some x) = Refused x

alt_replied : (m : Machine) (key : List ℕ) (f : Option Refusal) → (stepped m (GetAlt key) f).reply ≡ replied (on_shelf m key) f
unfolding effect
alt_replied m key None = refl
alt_replied m key (Some x) = refl

whole_replied : (v : Version) (b : Bool) → replied (Whole v) (if b then None else Some NoAlt) ≡ (if b then alt_reply_of v (alt_in_version v) else Refused NoAlt)
whole_replied v true = refl
whole_replied v false = refl

either_alt : (v : Version) (a : Option Alt) → (if is_some a then alt_reply_of v a else Refused NoAlt) ≡ alt_reply_of v a
either_alt v None = refl
either_alt v (Some alt) = refl

by_reading : (r : Reading) → replied r (then_check None (has_alt r)) ≡ alt_reply_by (found_reply r)
by_reading (Whole v) = whole_replied v (is_some (alt_in_version v)) ∙ either_alt v (alt_in_version v)
by_reading (Damaged d) = refl
by_reading Nothing = refl

module _ (m : Machine) (key : List ℕ) where
  -- the checks of a `get`
  abbrev gets : Option Refusal
  gets = first_failing (checks m (Get key))

  alt_by : (f : Option Refusal) → replied (on_shelf m key) (then_check f (has_alt (on_shelf m key))) ≡ alt_reply_by (stepped m (Get key) f).reply
  unfolding effect
  alt_by None = by_reading (on_shelf m key)
  alt_by (Some r) = refl

  alt_checks : first_failing (checks m (GetAlt key)) ≡ then_check gets (has_alt (on_shelf m key))
  unfolding checks
  alt_checks = more_checks (good_key key ∷ not_writing m key ∷ there m key ∷ undamaged (on_shelf m key) ∷ []) (has_alt (on_shelf m key))

  main_read : (r : Reading) → main_reply r ≡ main_reply_by (found_reply r)
  main_read (Whole v) = refl
  main_read (Damaged d) = refl
  main_read Nothing = refl

  main_by : (f : Option Refusal) → (stepped m (MainBody key) f).reply ≡ main_reply_by (stepped m (Get key) f).reply
  unfolding effect
  main_by None = main_read (on_shelf m key)
  main_by (Some r) = refl

  main_checks : first_failing (checks m (MainBody key)) ≡ gets
  unfolding checks
  main_checks = refl

  alt_stays_by : (f : Option Refusal) → (stepped m (GetAlt key) f).next ≡ m
  unfolding effect
  alt_stays_by None = refl
  alt_stays_by (Some r) = refl

  main_stays_by : (f : Option Refusal) → (stepped m (MainBody key) f).next ≡ m
  unfolding effect
  main_stays_by None = refl
  main_stays_by (Some r) = refl

pub alt_is_of_get : AltIsOfGet
alt_is_of_get m key =
    let f = first_failing (checks m (Get key)) in (
      ap (λ g. (stepped m (GetAlt key) g).reply) (alt_checks m key) ∙ alt_replied m key (then_check f (has_alt (on_shelf m key))) ∙ alt_by m key f,
      ap (λ g. (stepped m (MainBody key) g).reply) (main_checks m key) ∙ main_by m key f,
    )

pub alt_stays : AltStays
alt_stays m key = (alt_stays_by m key (first_failing (checks m (GetAlt key))), main_stays_by m key (first_failing (checks m (MainBody key))))
