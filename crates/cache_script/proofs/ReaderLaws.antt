-- What a step of a reader leaves and why it stops.
use Rattle.std.proofs.Common.{◌≡◌, ℕ, ◌+◌, ◌<◌, ◌≤◌, List, [], ◌++◌, length, drop, Option, None, Some, IfSome, Result, Ok, Err, sym, ap, ◌∙◌, subst, arith}
use Rattle.std.proofs.lemmas.List.{append_assoc, length-append}
use Rattle.std.specs.Io.KnownBytes.{Consumes, IsAtEnd, prepend_known}
use Rattle.cache_base.specs.declared.limits.TheConstants.{SCRIPT_MAX}
use Rattle.cache_theory.specs.Command.{Command}
use Rattle.cache_theory.specs.Command.Command.{At, Create, OpenKey, Append, Finish, SetElement, UnsetElement, ElementOf, PutAlt, UseEntry, Pin, Unpin, ReadPart, Close, Doom, Get, GetAlt, MainBody, HasEntry, Evict, EvictNames, ClearOrigin, ClearNames, StepUpdate, FinishAs}
use Rattle.cache_theory.specs.Given.{IsGiven}
use Rattle.cache_theory.specs.Text.{FieldsFit, command_bytes}
use Rattle.cache_script.specs.Front.{BeginsWithCommand, HasNoCommand, IsBadFront, IsPart}
use Rattle.cache_script.specs.Reader.{IsBadScript}
use Rattle.cache_script.specs.Reading.{IsStuck}
use Rattle.cache_io.specs.Window.{Grew}
use Rattle.cache_io.proofs.WindowLaws.{of_rest}
use Rattle.cache_script.proofs.BadFrontLaws.{bad_has_none, bad_is_some, some_bytes}
use Rattle.cache_script.proofs.ReadingLaws.{part_before}

pub stuck_is_bad : (used : ℕ) (held new : List ℕ) (left now : Option (List ℕ)) → Grew held new left now → IfSome now (λ rest. IsStuck used (new ++ rest)) → IsBadScript used (prepend_known held left)
stuck_is_bad used held new left now g h = of_rest (IsStuck used) held new left now g h

-- what was held and what was read, where it is a part
pub breaks_off : (used : ℕ) (held new : List ℕ) (left now : Option (List ℕ)) → Grew held new left now → IsPart used new
    → (read : List ℕ) × (Consumes left now read × HasNoCommand (held ++ read) × ¬ (IsBadFront used (held ++ read)))
breaks_off used held new left now g part = (g.piece, (g.read, subst HasNoCommand g.grown part.none, λ bad. part.good (subst (IsBadFront used) (sym g.grown) bad)))

-- a command of a script can be given by a program
pub is_given : (c : Command) → FieldsFit c → IsGiven c
is_given (At now) fits = fits
is_given (Create s key) fits = (fits.0, fits.1.0)
is_given (OpenKey s key) fits = (fits.0, fits.1.0)
is_given (Append s bytes) fits = (fits.0, fits.1.0)
is_given (Finish s) fits = fits
is_given (FinishAs s header elements) fits = absurd fits
is_given (SetElement s name value) fits = (fits.0, (fits.1.0.0, fits.1.1.0))
is_given (UnsetElement s name) fits = (fits.0, fits.1.0)
is_given (ElementOf s name) fits = (fits.0, fits.1.0)
is_given (PutAlt s kind bytes) fits = (fits.0, (fits.1.0.0, fits.1.1.0))
is_given (UseEntry s) fits = fits
is_given (Pin s) fits = fits
is_given (Unpin s) fits = fits
is_given (ReadPart s from len) fits = fits.0
is_given (Close s) fits = fits
is_given (Doom key) fits = fits.0
is_given (Get key) fits = fits.0
is_given (GetAlt key) fits = fits.0
is_given (MainBody key) fits = fits.0
is_given (HasEntry key) fits = fits.0
is_given (Evict kb) fits = fits
is_given (EvictNames names) fits = absurd fits
is_given (ClearOrigin origin) fits = fits.0
is_given (ClearNames names) fits = absurd fits
is_given (StepUpdate n) fits = fits
is_given c fits = tt

pub bad_is_no_part : (used : ℕ) (held there : List ℕ) → there ≡ held → IsBadFront used held → ¬ (IsPart used there)
bad_is_no_part used held there same bad = λ part. part.good (subst (IsBadFront used) (sym same) bad)

-- where a bad prefix was held, no part is there after reads, no command that fits, and some bytes
pub no_part : (used : ℕ) (held new : List ℕ) (left now : Option (List ℕ)) → Grew held new left now → IsBadFront used held → IsPart used new → ⊥
no_part used held new left now g bad part = (part_before used held new left now g part).good bad

pub no_command : (used n : ℕ) (held new : List ℕ) (left now : Option (List ℕ)) → Grew held new left now → IsBadFront used held → BeginsWithCommand new n → used + n ≤ SCRIPT_MAX → ⊥
no_command used n held new left now g bad begins fits = bad_has_none used n held g.piece bad (subst (λ (l : List ℕ). BeginsWithCommand l n) g.grown begins) fits

pub no_end : (used : ℕ) (held new : List ℕ) (left now : Option (List ℕ)) → Grew held new left now → IsBadFront used held → new ≡ [] → ⊥
no_end used held new left now g bad none = bad_is_some used held g.piece bad (sym g.grown ∙ none)

-- the end is reached after what was held
pub ended : (held new : List ℕ) (left now : Option (List ℕ)) → Grew held new left now → new ≡ [] → IsAtEnd now → IsAtEnd (prepend_known held left)
ended held new left now g none end = go left now g.read end
  where
    go : (left now : Option (List ℕ)) → Consumes left now g.piece → IsAtEnd now → IsAtEnd (prepend_known held left)
    go None now read end = tt
    go (Some xs) None read end = absurd read
    go (Some xs) (Some ys) read end = ap (λ l. held ++ l) read ∙ sym (append_assoc held g.piece ys) ∙ ap (λ l. l ++ ys) (sym g.grown ∙ none) ∙ end

pub begun_is_some : (bytes : List ℕ) (n : ℕ) → BeginsWithCommand bytes n → (0 < n) × (n ≤ length bytes)
begun_is_some bytes n b = (
  omega (arith, some_bytes b.command, b.len),
  omega (arith, b.len, ap length b.spelled, length-append (command_bytes b.command) (drop n bytes)),
)

-- bytes that were held and read are a command's and others: so it is with all that is left
pub told_rest : (held bytes rest piece : List ℕ) (left now : Option (List ℕ)) → Consumes left now piece → held ++ piece ≡ bytes ++ rest → Consumes (prepend_known held left) (prepend_known rest now) bytes
told_rest held bytes rest piece None now read e = tt
told_rest held bytes rest piece (Some xs) None read e = absurd read
told_rest held bytes rest piece (Some xs) (Some ys) read e =
    ap (λ l. held ++ l) read ∙ sym (append_assoc held piece ys) ∙ ap (λ l. l ++ ys) e ∙ append_assoc bytes rest ys

pub rest_begins : (rest after : Option (List ℕ)) (c : Command) → Consumes rest after (command_bytes c) → IfSome rest (λ bytes. (more : List ℕ) × (bytes ≡ command_bytes c ++ more))
rest_begins None after c h = tt
rest_begins (Some xs) None c h = absurd h
rest_begins (Some xs) (Some ys) c h = (ys, h)

pub ok_is_err : {X Y : Type 0} {x : X} {y : Y} → Ok x ≡ Err y → ⊥
ok_is_err e = cc

abbrev error : (X : Type 0) {E : Type 0} → E → Result X E
error X e = Err e

-- an error that is handed on beside a value of another type
pub same_err : {X Y E : Type 0} {e f : E} → error X e ≡ error X f → error Y e ≡ error Y f
same_err {X} {Y} {E} {e} {f} h = let same : e ≡ f = cc in ap (error Y) same
