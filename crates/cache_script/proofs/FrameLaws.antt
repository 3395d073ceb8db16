-- Where the bytes of a command end.
use Rattle.std.proofs.Common.{◌≡◌, ◌≢◌, ℕ, ◌<◌, ◌^◌, Bool, true, false, cond, eqb, List, [], ◌∷◌, ◌++◌, length, take, codes, decimal, Some, refl, sym, ap, ◌∙◌, arith}
use Rattle.std.proofs.lemmas.Bool.{false≢true}
use Rattle.std.proofs.lemmas.Bool.Decides.{Decides-eqb}
use Rattle.std.proofs.lemmas.List.{append_assoc, take_at}
use Rattle.cache_base.specs.declared.limits.TheConstants.{SLOTS}
use Rattle.cache_theory.specs.Command.{Command}
use Rattle.cache_theory.specs.Command.Command.{At, Create, OpenKey, Append, Finish, SetElement, UnsetElement, ElementOf, PutAlt, UseEntry, Pin, Unpin, ReadPart, Close, Doom, Get, GetAlt, MainBody, HasEntry, HasGiven, ListRecords, ListGiven, Evict, EvictNames, ClearOrigin, ClearNames, Resume, ResumeNames, Flush, StepUpdate, UpdateState, Verify, VerifyRecords, Rebuild, FinishAs, Dump}
use Rattle.cache_theory.specs.Text.{FieldsFit, IsOneLine, command_words, command_data, command_bytes, spaced, NoneBeginsAnother}
use Rattle.cache_script.specs.Lines.{Form, form_of, cut, form_in}
use Rattle.cache_script.proofs.CutLaws.{Lacks, cut_at}
use Rattle.cache_script.proofs.LineLaws.{all_joined, lacks_decimal, line_read}

-- ---- the line of a command is one line

lacks_test : ℕ → List ℕ → Bool
lacks_test b [] = true
lacks_test b (x ∷ xs) = cond (eqb x b) false (lacks_test b xs)

lacks_step : (b x : ℕ) (xs : List ℕ) → (lacks_test b xs ≡ true → Lacks b xs) → (t : Bool) → eqb x b ≡ t → cond t false (lacks_test b xs) ≡ true → Lacks b (x ∷ xs)
lacks_step b x xs more true e h = absurd (false≢true h)
lacks_step b x xs more false e h = (λ same. false≢true (sym e ∙ (Decides-eqb x b).1 same), more h)

-- computed on a literal
lacks_by : (b : ℕ) (xs : List ℕ) → lacks_test b xs ≡ true → Lacks b xs
unfolding lacks_test
lacks_by b [] h = tt
lacks_by b (x ∷ xs) h = lacks_step b x xs (lacks_by b xs) (eqb x b) refl h

-- two words with a space between
one_line_pair : (v w : List ℕ) → Lacks 10 v → Lacks 10 w → Lacks 10 (v ++ 32 ∷ w)
one_line_pair v w h k = all_joined (λ x. x ≢ 10) v (32 ∷ w) h ((λ e. absurd (omega arith)), k)

one_line_slot : (v : List ℕ) (s : ℕ) (w : List ℕ) → s < SLOTS → Lacks 10 v → Lacks 10 w → Lacks 10 (v ++ 32 ∷ (decimal s ++ 32 ∷ w))
one_line_slot v s w small h k = one_line_pair v (decimal s ++ 32 ∷ w) h (one_line_pair (decimal s) w (lacks_decimal 10 s (omega arith) (omega arith)) k)

one_line_number : (n : ℕ) → n < 2 ^ 32 → Lacks 10 (decimal n)
one_line_number n small = lacks_decimal 10 n (omega arith) (omega arith)

pub one_line : (c : Command) → FieldsFit c → IsOneLine (spaced (command_words c))
unfolding lacks_test
one_line (At now) fits = one_line_pair (codes "at") (decimal now) (lacks_by 10 (codes "at") refl) (one_line_number now fits)
one_line (Create s key) fits = one_line_slot (codes "create") s key fits.0 (lacks_by 10 (codes "create") refl) fits.1.1
one_line (OpenKey s key) fits = one_line_slot (codes "open") s key fits.0 (lacks_by 10 (codes "open") refl) fits.1.1
one_line (Append s bytes) fits = one_line_slot (codes "append") s (decimal (length bytes)) fits.0 (lacks_by 10 (codes "append") refl) (one_line_number (length bytes) (omega (arith, fits.1.1)))
one_line (Finish s) fits = one_line_pair (codes "finish") (decimal s) (lacks_by 10 (codes "finish") refl) (one_line_number s (omega arith))
one_line (SetElement s name value) fits =
    one_line_slot (codes "set") s (decimal (length value) ++ 32 ∷ name) fits.0 (lacks_by 10 (codes "set") refl)
    (one_line_pair (decimal (length value)) name (one_line_number (length value) (omega (arith, fits.1.1.1))) fits.1.0.1)
one_line (UnsetElement s name) fits = one_line_slot (codes "unset") s name fits.0 (lacks_by 10 (codes "unset") refl) fits.1.1
one_line (ElementOf s name) fits = one_line_slot (codes "element") s name fits.0 (lacks_by 10 (codes "element") refl) fits.1.1
one_line (PutAlt s kind bytes) fits =
    one_line_slot (codes "putalt") s (decimal (length bytes) ++ 32 ∷ kind) fits.0 (lacks_by 10 (codes "putalt") refl)
    (one_line_pair (decimal (length bytes)) kind (one_line_number (length bytes) (omega (arith, fits.1.1.1))) fits.1.0.1)
one_line (UseEntry s) fits =
    one_line_pair (codes "use") (decimal s) (lacks_by 10 (codes "use") refl)
    (one_line_number s (omega arith))
one_line (Pin s) fits = one_line_pair (codes "pin") (decimal s) (lacks_by 10 (codes "pin") refl) (one_line_number s (omega arith))
one_line (Unpin s) fits = one_line_pair (codes "unpin") (decimal s) (lacks_by 10 (codes "unpin") refl) (one_line_number s (omega arith))
one_line (ReadPart s from len) fits =
    one_line_slot (codes "read") s (decimal from ++ 32 ∷ decimal len) fits.0 (lacks_by 10 (codes "read") refl)
    (one_line_pair (decimal from) (decimal len) (one_line_number from fits.1.0) (one_line_number len fits.1.1))
one_line (Close s) fits = one_line_pair (codes "close") (decimal s) (lacks_by 10 (codes "close") refl) (one_line_number s (omega arith))
one_line (Doom key) fits = one_line_pair (codes "doom") key (lacks_by 10 (codes "doom") refl) fits.1
one_line (Get key) fits = one_line_pair (codes "get") key (lacks_by 10 (codes "get") refl) fits.1
one_line (GetAlt key) fits = one_line_pair (codes "getalt") key (lacks_by 10 (codes "getalt") refl) fits.1
one_line (MainBody key) fits = one_line_pair (codes "main") key (lacks_by 10 (codes "main") refl) fits.1
one_line (HasEntry key) fits =
    one_line_pair (codes "has") key (lacks_by 10 (codes "has") refl) fits.1
one_line (HasGiven key there) fits = absurd fits
one_line (FinishAs s header elements) fits = absurd fits
one_line ListRecords fits = lacks_by 10 (codes "list") refl
one_line (ListGiven records) fits = absurd fits
one_line (Evict kb) fits =
    one_line_pair (codes "evict") (decimal kb) (lacks_by 10 (codes "evict") refl)
    (one_line_number kb fits)
one_line (EvictNames names) fits = absurd fits
one_line (ClearOrigin origin) fits = one_line_pair (codes "clear") origin (lacks_by 10 (codes "clear") refl) fits.1
one_line (ClearNames names) fits = absurd fits
one_line Resume fits = absurd fits
one_line (ResumeNames names) fits = absurd fits
one_line Flush fits = lacks_by 10 (codes "flush") refl
one_line (StepUpdate n) fits =
    one_line_pair (codes "step") (decimal n) (lacks_by 10 (codes "step") refl)
    (one_line_number n fits)
one_line UpdateState fits = lacks_by 10 (codes "state") refl
one_line Verify fits = lacks_by 10 (codes "verify") refl
one_line (VerifyRecords records) fits = absurd fits
one_line Rebuild fits = lacks_by 10 (codes "rebuild") refl
one_line Dump fits = absurd fits

-- ---- and so it is what stands before the first newline

regrouped : (w d after : List ℕ) → ((w ++ 10 ∷ []) ++ d) ++ after ≡ w ++ 10 ∷ (d ++ after)
regrouped w d after = append_assoc (w ++ 10 ∷ []) d after ∙ append_assoc w (10 ∷ []) (d ++ after)

pub first_line : (c : Command) (after : List ℕ) → FieldsFit c → cut 10 (command_bytes c ++ after) ≡ Some (spaced (command_words c), command_data c ++ after)
unfolding command_bytes
first_line c after fits =
    ap (cut 10) (regrouped (spaced (command_words c)) (command_data c) after) ∙ cut_at 10 (spaced (command_words c)) (command_data c ++ after) (one_line c fits)

pub some_same : {X : Type 0} (x y : X) → Some x ≡ Some y → x ≡ y
some_same x y e = cc

-- what the first line of bytes that begin with a command tells of it, and what stands after the line
pub record LineOf (c : Command) (text rest after : List ℕ) : Type 0 where
  pub line : text ≡ spaced (command_words c)
  pub tells : form_in text ≡ Some (form_of c)
  pub behind : rest ≡ command_data c ++ after

pub line_of : (c : Command) (xs text rest after : List ℕ) → FieldsFit c → xs ≡ command_bytes c ++ after → cut 10 xs ≡ Some (text, rest) → LineOf c text rest after
line_of c xs text rest after fits spelled cutting =
    let same : (text, rest) ≡ (spaced (command_words c), command_data c ++ after) = some_same _ _ (sym cutting ∙ ap (cut 10) spelled ∙ first_line c after fits) in
    let line : text ≡ spaced (command_words c) = ap (λ p. p.0) same in
    record { line = line; tells = ap form_in line ∙ line_read c fits; behind = ap (λ p. p.1) same }

-- ---- what a line tells and the bytes after it make the command

abbrev pub completed : Form → List ℕ → Command
completed (Form.WholeLine c) rest = c
completed (Form.AppendLine s len) rest = Append s (take len rest)
completed (Form.SetLine s len name) rest = SetElement s name (take len rest)
completed (Form.AltLine s len kind) rest = PutAlt s kind (take len rest)

taken_back : (bytes after : List ℕ) → take (length bytes) ((bytes ++ 10 ∷ []) ++ after) ≡ bytes
taken_back bytes after = ap (take (length bytes)) (append_assoc bytes (10 ∷ []) after) ∙ take_at bytes (10 ∷ after) (length bytes) refl

pub completed_is : (c : Command) (after : List ℕ) → completed (form_of c) (command_data c ++ after) ≡ c
completed_is (Append s bytes) after = ap (λ b. Append s b) (taken_back bytes after)
completed_is (SetElement s name value) after = ap (λ v. SetElement s name v) (taken_back value after)
completed_is (PutAlt s kind bytes) after = ap (λ b. PutAlt s kind b) (taken_back bytes after)
completed_is c after = refl

-- the command with a line that is read so is known from what stands after the line
pub command_is : (c : Command) (form : Form) (text rest after : List ℕ) → LineOf c text rest after → form_in text ≡ Some form → c ≡ completed form rest
command_is c form text rest after of tells =
    sym (completed_is c after) ∙ ap (completed (form_of c)) (sym of.behind) ∙ ap (λ f. completed f rest) (some_same _ _ (sym of.tells ∙ tells))

pub none_begins_another : NoneBeginsAnother
none_begins_another c d more after is other same =
    let text = spaced (command_words d) in
    let rest = command_data d ++ after in
    let cutting : cut 10 (command_bytes d ++ after) ≡ Some (text, rest) = first_line d after other.fields in
    let of = line_of c (command_bytes d ++ after) text rest more is.fields (sym same) cutting in
    command_is c (form_of d) text rest more of (line_read d other.fields) ∙ completed_is d after
