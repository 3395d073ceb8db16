-- The line of a command is read as what it tells, and no other line is read.
use Rattle.std.proofs.Common.{◌≡◌, ℕ, ◌+◌, ◌<◌, ◌≤◌, ◌^◌, true, cond, List, [], ◌∷◌, ◌++◌, length, codes, decimal, Option, None, Some, refl, ap, ◌∙◌, arith, nat_lt}
use Rattle.std.specs.List.{AllByRecursion}
use Rattle.std.specs.Option.{option_map, option_and_then}
use Rattle.std.specs.Str.Parse.{AllDigits}
use Rattle.std.proofs.lemmas.Bool.Decides.{nat_tests}
use Rattle.std.proofs.lemmas.Str.Parse.{digit_from_value}
use Rattle.std.proofs.lemmas.Fmt.{digits_decimal}
use Rattle.cache_base.specs.declared.limits.TheConstants.{ALT_MAX, ELEMENTS_MAX, PIECE_MAX, SLOTS}
use Rattle.cache_theory.specs.Command.{Command}
use Rattle.cache_theory.specs.Command.Command.{At, Create, OpenKey, Append, Finish, SetElement, UnsetElement, ElementOf, PutAlt, UseEntry, Pin, Unpin, ReadPart, Close, Doom, Get, GetAlt, MainBody, HasEntry, HasGiven, ListRecords, ListGiven, Evict, EvictNames, ClearOrigin, ClearNames, Resume, ResumeNames, Flush, StepUpdate, UpdateState, Verify, VerifyRecords, Rebuild, FinishAs, Dump}
use Rattle.cache_theory.specs.Text.{FieldsFit, command_words, spaced}
use Rattle.cache_script.specs.Lines.{Form, form_of, cut, number_below, slot_in, len_in, read_in, slot_form, first_slot_form, number_form, verb_form, form_in}
use Rattle.cache_base.specs.Numbers.{number_in}
use Rattle.cache_script.proofs.CutLaws.{Lacks, cut_at}
use Rattle.cache_base.proofs.NumberLaws.{own, number_read}

pub all_behind : {X : Type 0} (P : X → Type 0) (xs ys : List X) → AllByRecursion P (xs ++ ys) → AllByRecursion P ys
all_behind P [] ys h = h
all_behind P (x ∷ xs) ys h = all_behind P xs ys h.1

pub all_joined : {X : Type 0} (P : X → Type 0) (xs ys : List X) → AllByRecursion P xs → AllByRecursion P ys → AllByRecursion P (xs ++ ys)
all_joined P [] ys h k = k
all_joined P (x ∷ xs) ys h k = (h.0, all_joined P xs ys h.1 k)

pub lacks_digits : (b : ℕ) (ds : List ℕ) → b < 48 → AllDigits 10 ds → Lacks b ds
lacks_digits b [] low h = tt
lacks_digits b (d ∷ ds) low h = let range = digit_from_value d h.0 in ((λ same. omega arith), lacks_digits b ds low h.1)

pub lacks_decimal : (b n : ℕ) → b < 48 → n < 2 ^ 64 → Lacks b (decimal n)
lacks_decimal b n low small = lacks_digits b (decimal n) low (digits_decimal own n small)

-- ---- the line of a command is read

pub below_read : (limit n : ℕ) → n < limit → limit ≤ 2 ^ 32 → number_below limit (decimal n) ≡ Some n
below_read limit n less most =
    let test : nat_lt n limit ≡ true = grind (arith, nat_tests) in
    ap (λ r. option_and_then (λ (m : ℕ). cond (nat_lt m limit) (Some m) None) r) (number_read n (omega arith)) ∙ ap (λ t. cond t (Some n) None) test

with_slot : (verb : List ℕ) (s : ℕ) (rest : List ℕ) (r : Option Form) → s < SLOTS → slot_form verb s rest ≡ r
    → option_and_then (λ (parts : List ℕ × List ℕ). option_and_then (λ (t : ℕ). slot_form verb t parts.1) (slot_in parts.0)) (cut 32 (decimal s ++ 32 ∷ rest)) ≡ r
with_slot verb s rest r small here =
    ap (λ o. option_and_then (λ (parts : List ℕ × List ℕ). option_and_then (λ (t : ℕ). slot_form verb t parts.1) (slot_in parts.0)) o)
    (cut_at 32 (decimal s) rest (lacks_decimal 32 s (omega arith) (omega arith)))
    ∙ ap (λ o. option_and_then (λ (t : ℕ). slot_form verb t rest) o) (below_read SLOTS s small (omega arith)) ∙ here

len_read : (limit len : ℕ) (more : List ℕ) → len < limit → limit ≤ 2 ^ 32 → len_in limit (decimal len ++ 32 ∷ more) ≡ Some (len, more)
len_read limit len more less most =
    ap (λ o. option_and_then (λ (parts : List ℕ × List ℕ). option_map (λ (n : ℕ). (n, parts.1)) (number_below limit parts.0)) o)
    (cut_at 32 (decimal len) more (lacks_decimal 32 len (omega arith) (omega arith)))
    ∙ ap (λ o. option_map (λ (n : ℕ). (n, more)) o) (below_read limit len less most)

set_read : (s len : ℕ) (name : List ℕ) → len ≤ ELEMENTS_MAX → slot_form (codes "set") s (decimal len ++ 32 ∷ name) ≡ Some (Form.SetLine s len name)
unfolding slot_form
set_read s len name small =
    ap (λ o. option_map (λ (parts : ℕ × List ℕ). Form.SetLine s parts.0 parts.1) o) (len_read (ELEMENTS_MAX + 1) len name (omega arith) (omega arith))

alt_read : (s len : ℕ) (kind : List ℕ) → len ≤ ALT_MAX → slot_form (codes "putalt") s (decimal len ++ 32 ∷ kind) ≡ Some (Form.AltLine s len kind)
unfolding slot_form
alt_read s len kind small =
    ap (λ o. option_map (λ (parts : ℕ × List ℕ). Form.AltLine s parts.0 parts.1) o) (len_read (ALT_MAX + 1) len kind (omega arith) (omega arith))

part_read : (s from len : ℕ) → from < 2 ^ 32 → len < 2 ^ 32 → slot_form (codes "read") s (decimal from ++ 32 ∷ decimal len) ≡ Some (Form.WholeLine (ReadPart s from len))
unfolding slot_form
part_read s from len small less =
    ap (λ o. option_and_then (λ (parts : List ℕ × List ℕ). read_in s parts.0 parts.1) o) (cut_at 32 (decimal from) (decimal len) (lacks_decimal 32 from (omega arith) (omega arith)))
    ∙ ap (λ o. option_and_then (λ f. option_map (λ n. Form.WholeLine (ReadPart s f n)) (number_in (decimal len))) o) (number_read from small)
    ∙ ap (λ o. option_map (λ n. Form.WholeLine (ReadPart s from n)) o) (number_read len less)

append_read : (s len : ℕ) → len ≤ PIECE_MAX → slot_form (codes "append") s (decimal len) ≡ Some (Form.AppendLine s len)
unfolding slot_form
append_read s len small = ap (λ o. option_map (λ n. Form.AppendLine s n) o) (below_read (PIECE_MAX + 1) len (omega arith) (omega arith))

pub line_read : (c : Command) → FieldsFit c → form_in (spaced (command_words c)) ≡ Some (form_of c)
unfolding form_in verb_form number_form first_slot_form slot_form
line_read (At now) fits = ap (λ o. option_map (λ n. Form.WholeLine (At n)) o) (number_read now fits)
line_read (Create s key) fits = with_slot (codes "create") s key _ fits.0 refl
line_read (OpenKey s key) fits = with_slot (codes "open") s key _ fits.0 refl
line_read (Append s bytes) fits = with_slot (codes "append") s (decimal (length bytes)) _ fits.0 (append_read s (length bytes) fits.1.1)
line_read (Finish s) fits = ap (λ o. option_map (λ n. Form.WholeLine (Finish n)) o) (below_read SLOTS s fits (omega arith))
line_read (SetElement s name value) fits = with_slot (codes "set") s (decimal (length value) ++ 32 ∷ name) _ fits.0 (set_read s (length value) name fits.1.1.1)
line_read (UnsetElement s name) fits = with_slot (codes "unset") s name _ fits.0 refl
line_read (ElementOf s name) fits = with_slot (codes "element") s name _ fits.0 refl
line_read (PutAlt s kind bytes) fits = with_slot (codes "putalt") s (decimal (length bytes) ++ 32 ∷ kind) _ fits.0 (alt_read s (length bytes) kind fits.1.1.1)
line_read (UseEntry s) fits =
    ap (λ o. option_map (λ n. Form.WholeLine (UseEntry n)) o) (below_read SLOTS s fits (omega arith))
line_read (Pin s) fits = ap (λ o. option_map (λ n. Form.WholeLine (Pin n)) o) (below_read SLOTS s fits (omega arith))
line_read (Unpin s) fits = ap (λ o. option_map (λ n. Form.WholeLine (Unpin n)) o) (below_read SLOTS s fits (omega arith))
line_read (ReadPart s from len) fits = with_slot (codes "read") s (decimal from ++ 32 ∷ decimal len) _ fits.0 (part_read s from len fits.1.0 fits.1.1)
line_read (Close s) fits = ap (λ o. option_map (λ n. Form.WholeLine (Close n)) o) (below_read SLOTS s fits (omega arith))
line_read (Doom key) fits = refl
line_read (Get key) fits = refl
line_read (GetAlt key) fits = refl
line_read (MainBody key) fits = refl
line_read (HasEntry key) fits = refl
line_read (HasGiven key there) fits = absurd fits
line_read (FinishAs s header elements) fits = absurd fits
line_read ListRecords fits = refl
line_read (ListGiven records) fits = absurd fits
line_read (Evict kb) fits =
    ap (λ o. option_map (λ n. Form.WholeLine (Evict n)) o) (number_read kb fits)
line_read (EvictNames names) fits = absurd fits
line_read (ClearOrigin origin) fits = refl
line_read (ClearNames names) fits = absurd fits
line_read Resume fits = absurd fits
line_read (ResumeNames names) fits = absurd fits
line_read Flush fits = refl
line_read (StepUpdate n) fits =
    ap (λ o. option_map (λ k. Form.WholeLine (StepUpdate k)) o) (number_read n fits)
line_read UpdateState fits = refl
line_read Verify fits = refl
line_read (VerifyRecords records) fits = absurd fits
line_read Rebuild fits = refl
line_read Dump fits = absurd fits
