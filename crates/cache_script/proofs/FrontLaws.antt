-- Which command stands at the beginning of bytes, by their first line.
use Rattle.std.proofs.Common.{◌≡◌, ◌≢◌, ℕ, zero, suc, ◌+◌, ◌-◌, ◌<◌, ◌≤◌, List, [], ◌∷◌, ◌++◌, length, take, drop, replicate, get_or, codes, decimal, Option, None, Some, IfSome, MatchOption, refl, sym, ap, ◌∙◌, subst, arith}
use Rattle.memchr.specs.Find.{IsFirstByte, is_byte}
use Rattle.std.proofs.Math.Seq.{take-add}
use Rattle.std.specs.Option.{option_map}
use Rattle.std.proofs.lemmas.List.{append_assoc, take_rest, take_more, drop_at, drop-drop, take-append-drop, length-append, length-take-le, length-replicate, get_or_append_left, get_or_at}
use Rattle.cache_base.proofs.ByteLaws.{bytes_take}
use Rattle.cache_base.specs.Bytes.{AreBytes}
use Rattle.cache_base.specs.declared.limits.TheConstants.{ALT_MAX, LINE_MAX}
use Rattle.cache_theory.specs.Command.{Command}
use Rattle.cache_theory.specs.Command.Command.{Append, SetElement, PutAlt}
use Rattle.cache_theory.specs.Text.{FieldsFit, IsCommand, command_words, command_data, command_bytes, spaced}
use Rattle.cache_script.specs.Front.{BeginsWithCommand, HasNoCommand, cut_by}
use Rattle.cache_script.specs.Lines.{Form, FormFits, Tells, form_of, form_words, cut, data_len, form_in}
use Rattle.cache_script.proofs.CutLaws.{Lacks, IsCut, cut_at, cut_is, cut_none, cut_first}
use Rattle.cache_script.proofs.FormLaws.{IsLine, form_spelled}
use Rattle.cache_script.proofs.FrameLaws.{LineOf, line_of, first_line, completed, command_is, some_same}
use Rattle.cache_script.proofs.LineLaws.{all_behind, all_joined}

-- no command begins the bytes, whatever bytes follow
abbrev pub IsBad : List ℕ → Type 0
IsBad bytes = (more : List ℕ) → HasNoCommand (bytes ++ more)

pub lacks_at : (b : ℕ) (xs : List ℕ) (k : ℕ) → Lacks b xs → k < length xs → get_or xs k 0 ≢ b
lacks_at b [] k h low = absurd (omega arith)
lacks_at b (x ∷ xs) zero h low = h.0
lacks_at b (x ∷ xs) (suc k) h low = lacks_at b xs k h.1 (omega arith)

-- the byte stands where a list is cut
pub cut_place : (b : ℕ) (xs text rest : List ℕ) → xs ≡ text ++ b ∷ rest → (length text < length xs) × (get_or xs (length text) 0 ≡ b)
cut_place b xs text rest e = (omega (arith, length-append text (b ∷ rest), ap length e), ap (λ l. get_or l (length text) 0) e ∙ get_or_at text b rest 0 (length text) refl)

pub cut_parts : (b : ℕ) (xs text rest : List ℕ) → cut b xs ≡ Some (text, rest) → IsCut b xs (text, rest)
cut_parts b xs text rest e = subst (λ (o : Option (List ℕ × List ℕ)). MatchOption o (Lacks b xs) (IsCut b xs)) e (cut_is b xs)

-- more bytes leave the first line
pub cut_on : (b : ℕ) (xs text rest more : List ℕ) → cut b xs ≡ Some (text, rest) → cut b (xs ++ more) ≡ Some (text, rest ++ more)
cut_on b xs text rest more e =
    let parts = cut_parts b xs text rest e in
    ap (λ l. cut b (l ++ more)) parts.0 ∙ ap (cut b) (append_assoc text (b ∷ rest) more) ∙ cut_at b text (rest ++ more) parts.1

-- a newline stands within the longest line
pub newline_of : (c : Command) (xs after : List ℕ) → IsCommand c → xs ≡ command_bytes c ++ after
    → (k : ℕ) × (k ≤ LINE_MAX) × (k < length xs) × (get_or xs k 0 ≡ 10)
newline_of c xs after is e =
    let text = spaced (command_words c) in
    let parts = cut_parts 10 xs text (command_data c ++ after) (ap (cut 10) e ∙ first_line c after is.fields) in
    let place = cut_place 10 xs text (command_data c ++ after) parts.0 in
    (length text, is.line, place.0, place.1)

pub long_line_is_bad : (bytes text rest : List ℕ) → cut 10 bytes ≡ Some (text, rest) → LINE_MAX < length text → IsBad bytes
long_line_is_bad bytes text rest cutting long = λ more c after is e.
    let of = line_of c (bytes ++ more) text (rest ++ more) after is.fields e (cut_on 10 bytes text rest more cutting) in
    omega (arith, is.line, ap length of.line)

pub none_or_some : {X : Type 0} {x : X} {o : Option X} → o ≡ None → o ≡ Some x → ⊥
none_or_some e f = cc

pub bad_line_is_bad : (bytes text rest : List ℕ) → cut 10 bytes ≡ Some (text, rest) → form_in text ≡ None → IsBad bytes
bad_line_is_bad bytes text rest cutting none = λ more c after is e.
    none_or_some none (line_of c (bytes ++ more) text (rest ++ more) after is.fields e (cut_on 10 bytes text rest more cutting)).tells

pub no_command_line : (bytes : List ℕ) → cut 10 bytes ≡ None → HasNoCommand bytes
no_command_line bytes none = λ c after is e. none_or_some none (ap (cut 10) e ∙ first_line c after is.fields)

-- ---- what stands after the line

pub length_data : (c : Command) → length (command_data c) ≡ data_len (form_of c)
length_data (Append s bytes) = length-append bytes (10 ∷ [])
length_data (SetElement s name value) = length-append value (10 ∷ [])
length_data (PutAlt s kind bytes) = length-append bytes (10 ∷ [])
length_data c = refl

-- the last byte after the line is a newline
newline_behind : (bytes after : List ℕ) → get_or ((bytes ++ 10 ∷ []) ++ after) (length bytes + 1 - 1) 0 ≡ 10
newline_behind bytes after = ap (λ l. get_or l (length bytes + 1 - 1) 0) (append_assoc bytes (10 ∷ []) after) ∙ get_or_at bytes 10 after 0 (length bytes + 1 - 1) (omega arith)

data_ends : (c : Command) (after : List ℕ) → 0 < data_len (form_of c) → get_or (command_data c ++ after) (data_len (form_of c) - 1) 0 ≡ 10
data_ends (Append s bytes) after some = newline_behind bytes after
data_ends (SetElement s name value) after some = newline_behind value after
data_ends (PutAlt s kind bytes) after some = newline_behind bytes after
data_ends c after some = absurd (omega arith)

-- the form of the line is the command's
form_same : (c : Command) (form : Form) (text rest after : List ℕ) → LineOf c text rest after → form_in text ≡ Some form → form_of c ≡ form
form_same c form text rest after of tells = some_same _ _ (sym of.tells ∙ tells)

pub no_newline_is_bad : (bytes text rest : List ℕ) (form : Form) → cut 10 bytes ≡ Some (text, rest) → form_in text ≡ Some form → 0 < data_len form → data_len form ≤ length rest → get_or rest (data_len form - 1) 0 ≢ 10 → IsBad bytes
no_newline_is_bad bytes text rest form cutting tells some enough other = λ more c after is e.
    let of = line_of c (bytes ++ more) text (rest ++ more) after is.fields e (cut_on 10 bytes text rest more cutting) in
    let same = form_same c form text (rest ++ more) after of tells in
    let here = subst (λ (f : Form). 0 < data_len f → get_or (command_data c ++ after) (data_len f - 1) 0 ≡ 10) same (data_ends c after) some in
    other (sym (get_or_append_left rest more 0 (data_len form - 1) (omega arith)) ∙ ap (λ l. get_or l (data_len form - 1) 0) of.behind ∙ here)

-- ---- the first line of bytes that begin with a command

pub begun_line : (bytes : List ℕ) (n : ℕ) → BeginsWithCommand bytes n → cut 10 bytes ≡ None → ⊥
begun_line bytes n b none = no_command_line bytes none b.command (drop n bytes) b.is b.spelled

pub begun_form : (bytes text rest : List ℕ) (n : ℕ) → BeginsWithCommand bytes n → cut 10 bytes ≡ Some (text, rest) → form_in text ≡ None → ⊥
begun_form bytes text rest n b cutting none = none_or_some none (line_of b.command bytes text rest (drop n bytes) b.is.fields b.spelled cutting).tells

-- the bytes after the line are whole
pub begun_data : (bytes text rest : List ℕ) (form : Form) (n : ℕ) → BeginsWithCommand bytes n → cut 10 bytes ≡ Some (text, rest) → form_in text ≡ Some form → data_len form ≤ length rest
begun_data bytes text rest form n b cutting tells =
    let of = line_of b.command bytes text rest (drop n bytes) b.is.fields b.spelled cutting in
    omega (arith, length_data b.command, ap data_len (form_same b.command form text rest (drop n bytes) of tells), ap length of.behind, length-append (command_data b.command) (drop n bytes))

-- the command is known from the line and what stands after it
pub begun_command : (bytes text rest : List ℕ) (form : Form) → cut 10 bytes ≡ Some (text, rest) → form_in text ≡ Some form
    → (c : Command) (after : List ℕ) → IsCommand c → bytes ≡ command_bytes c ++ after → completed form rest ≡ c
begun_command bytes text rest form cutting tells = λ c after is e. sym (command_is c form text rest after (line_of c bytes text rest after is.fields e cutting) tells)

-- ---- a line and enough bytes make a command

completed_words : (form : Form) (rest : List ℕ) → FormFits form → data_len form ≤ length rest → command_words (completed form rest) ≡ form_words form
completed_words (Form.WholeLine c) rest fits enough = refl
completed_words (Form.AppendLine s len) rest fits enough = ap (λ n. codes "append" ∷ decimal s ∷ decimal n ∷ []) (length-take-le len rest (omega arith))
completed_words (Form.SetLine s len name) rest fits enough = ap (λ n. codes "set" ∷ decimal s ∷ decimal n ∷ name ∷ []) (length-take-le len rest (omega arith))
completed_words (Form.AltLine s len kind) rest fits enough = ap (λ n. codes "putalt" ∷ decimal s ∷ decimal n ∷ kind ∷ []) (length-take-le len rest (omega arith))

-- bytes, and the newline after them
taken_more : (len : ℕ) (rest : List ℕ) → len + 1 ≤ length rest → get_or rest (len + 1 - 1) 0 ≡ 10 → take len rest ++ 10 ∷ [] ≡ take (len + 1) rest
taken_more len rest enough newline =
    let place : len + 1 - 1 ≡ len = omega arith in
    ap (λ x. take len rest ++ x ∷ []) (sym newline ∙ ap (λ n. get_or rest n 0) place) ∙ sym (take_more rest len 0 (omega arith))

completed_data : (form : Form) (rest : List ℕ) → FormFits form → data_len form ≤ length rest → (0 < data_len form → get_or rest (data_len form - 1) 0 ≡ 10)
    → command_data (completed form rest) ≡ take (data_len form) rest
completed_data (Form.WholeLine c) rest fits enough newline = fits.1
completed_data (Form.AppendLine s len) rest fits enough newline = taken_more len rest enough (newline (omega arith))
completed_data (Form.SetLine s len name) rest fits enough newline = taken_more len rest enough (newline (omega arith))
completed_data (Form.AltLine s len kind) rest fits enough newline = taken_more len rest enough (newline (omega arith))

completed_fits : (form : Form) (rest : List ℕ) → FormFits form → AreBytes rest → data_len form ≤ length rest → FieldsFit (completed form rest)
completed_fits (Form.WholeLine c) rest fits bytes enough = fits.0
completed_fits (Form.AppendLine s len) rest fits bytes enough = (fits.0, (bytes_take len rest bytes, omega (arith, fits.1, length-take-le len rest (omega arith))))
completed_fits (Form.SetLine s len name) rest fits bytes enough = (fits.0, (fits.1.0, (bytes_take len rest bytes, omega (arith, fits.1.1, length-take-le len rest (omega arith)))))
completed_fits (Form.AltLine s len kind) rest fits bytes enough = (fits.0, (fits.1.0, (bytes_take len rest bytes, omega (arith, fits.1.1, length-take-le len rest (omega arith)))))

pub bytes_front : (xs ys : List ℕ) → AreBytes (xs ++ ys) → AreBytes xs
bytes_front [] ys h = tt
bytes_front (x ∷ xs) ys h = (h.0, bytes_front xs ys h.1)

pub told : (text : List ℕ) (form : Form) → IsLine text → form_in text ≡ Some form → Tells text form
told text form line e = subst (λ (o : Option Form). IfSome o (Tells text)) e (form_spelled text line)

-- the command with this line and these bytes
pub record Makes (text rest : List ℕ) (form : Form) (c : Command) : Type 0 where
  pub is : IsCommand c
  pub line : text ≡ spaced (command_words c)
  pub spelled : command_bytes c ≡ text ++ 10 ∷ take (data_len form) rest

pub makes : (text rest : List ℕ) (form : Form) → IsLine text → AreBytes rest → length text ≤ LINE_MAX → form_in text ≡ Some form → data_len form ≤ length rest
    → (0 < data_len form → get_or rest (data_len form - 1) 0 ≡ 10) → Makes text rest form (completed form rest)
unfolding command_bytes
makes text rest form line bytes short tells enough newline =
    let tell = told text form line tells in
    let words : command_words (completed form rest) ≡ form_words form = completed_words form rest tell.1 enough in
    let same : text ≡ spaced (command_words (completed form rest)) = tell.0 ∙ ap (λ w. spaced w) (sym words) in
    record {
      is = record { fields = completed_fits form rest tell.1 bytes enough; line = omega (arith, ap length same) };
      line = same;
      spelled =
          ap (λ d. (spaced (command_words (completed form rest)) ++ 10 ∷ []) ++ d) (completed_data form rest tell.1 enough newline)
          ∙ ap (λ t. (t ++ 10 ∷ []) ++ take (data_len form) rest) (sym same)
          ∙ append_assoc text (10 ∷ []) (take (data_len form) rest);
    }

pub begins : (bytes text rest : List ℕ) (form : Form) (n : ℕ) → AreBytes bytes → cut 10 bytes ≡ Some (text, rest) → length text ≤ LINE_MAX → form_in text ≡ Some form → data_len form ≤ length rest
    → (0 < data_len form → get_or rest (data_len form - 1) 0 ≡ 10) → n ≡ length text + 1 + data_len form → BeginsWithCommand bytes n
begins bytes text rest form n are cutting short tells enough newline total =
    let parts = cut_parts 10 bytes text rest cutting in
    let both : AreBytes (text ++ 10 ∷ rest) = subst AreBytes parts.0 are in
    let made = makes text rest form (bytes_front text (10 ∷ rest) both, parts.1) ((all_behind (λ x. x < 256) text (10 ∷ rest) both).1) short tells enough newline in
    let len : length (command_bytes (completed form rest)) ≡ n =
    ap length made.spelled ∙ length-append text (10 ∷ take (data_len form) rest) ∙ omega (arith, length-take-le (data_len form) rest enough) in
    let split : bytes ≡ command_bytes (completed form rest) ++ drop (data_len form) rest =
    parts.0 ∙ ap (λ r. text ++ 10 ∷ r) (sym (take-append-drop (data_len form) rest)) ∙ sym (append_assoc text (10 ∷ take (data_len form) rest) (drop (data_len form) rest))
    ∙ ap (λ l. l ++ drop (data_len form) rest) (sym made.spelled) in
    record {
      command = completed form rest;
      is = made.is;
      len = len;
      spelled = split ∙ ap (λ l. command_bytes (completed form rest) ++ l) (sym (ap (drop n) split ∙ drop_at (command_bytes (completed form rest)) (drop (data_len form) rest) n len));
    }

-- so many zero bytes and a newline
padding : ℕ → List ℕ
padding n = replicate n 0 ++ 10 ∷ []

padding_bytes : (n : ℕ) → AreBytes (replicate n 0)
padding_bytes zero = tt
padding_bytes (suc n) = (omega arith, padding_bytes n)

-- a line that is read is that of some command
pub line_makes : (text : List ℕ) (form : Form) → IsLine text → length text ≤ LINE_MAX → form_in text ≡ Some form → (c : Command) × IsCommand c × (text ≡ spaced (command_words c))
unfolding padding
line_makes text form line short tells =
    let n = data_len form in
    let rest = padding (n - 1) in
    let len : length rest ≡ n - 1 + 1 = length-append (replicate (n - 1) 0) (10 ∷ []) ∙ ap (λ k. k + 1) (length-replicate (n - 1) 0) in
    let made = makes text rest form line (all_joined (λ x. x < 256) (replicate (n - 1) 0) (10 ∷ []) (padding_bytes (n - 1)) ((omega arith), tt)) short tells (omega (arith, len))
    (λ some. get_or_at (replicate (n - 1) 0) 10 [] 0 (n - 1) (length-replicate (n - 1) 0)) in
    (completed form rest, made.is, made.line)

pub data_most : (form : Form) → FormFits form → data_len form ≤ ALT_MAX + 1
data_most (Form.WholeLine c) fits = omega arith
data_most (Form.AppendLine s len) fits = omega (arith, fits.1)
data_most (Form.SetLine s len name) fits = omega (arith, fits.1.1)
data_most (Form.AltLine s len kind) fits = omega (arith, fits.1.1)

-- fewer bytes stand after the line than the command has there
pub data_begun : (bytes text rest : List ℕ) (form : Form) → cut 10 bytes ≡ Some (text, rest) → form_in text ≡ Some form → length rest < data_len form → HasNoCommand bytes
data_begun bytes text rest form cutting tells few = λ c after is e.
    let of = line_of c bytes text rest after is.fields e cutting in
    omega (arith, length_data c, ap data_len (form_same c form text rest after of tells), ap length of.behind, length-append (command_data c) after)

-- ---- the first line by its end

pub lacks_of : (b : ℕ) (xs : List ℕ) → cut b xs ≡ None → Lacks b xs
lacks_of b xs e = subst (λ (o : Option (List ℕ × List ℕ)). MatchOption o (Lacks b xs) (IsCut b xs)) e (cut_is b xs)

-- a search that begins after bytes without it
pub cut_from : (b : ℕ) (xs : List ℕ) (from : ℕ) (r : Option ℕ) → from ≤ length xs → Lacks b (take from xs) → IsFirstByte (is_byte b) (take (length xs - from) (drop from xs)) r
    → cut b xs ≡ cut_by (option_map (λ k. from + k) r) xs
cut_from b xs from None within lacks first =
    let none : cut b (drop from xs) ≡ None = ap (cut b) (sym (take_rest xs from)) ∙ cut_first b (take (length xs - from) (drop from xs)) None first in
    ap (cut b) (sym (take-append-drop from xs)) ∙ cut_none b (take from xs ++ drop from xs) (all_joined (λ x. x ≢ b) (take from xs) (drop from xs) lacks (lacks_of b (drop from xs) none))
cut_from b xs from (Some k) within lacks first =
    let rest = drop from xs in
    let some : cut b rest ≡ Some (take k rest, drop (k + 1) rest) =
    ap (cut b) (sym (take_rest xs from)) ∙ cut_first b (take (length xs - from) rest) (Some k) first ∙ ap (λ (l : List ℕ). Some (take k l, drop (k + 1) l)) (take_rest xs from) in
    let parts = cut_parts b rest (take k rest) (drop (k + 1) rest) some in
    let front : take from xs ++ take k rest ≡ take (from + k) xs = sym (take-add from k xs) in
    let back : drop (k + 1) rest ≡ drop (from + k + 1) xs = drop-drop (k + 1) from xs ∙ ap (λ n. drop n xs) (omega arith) in
    let whole : xs ≡ (take from xs ++ take k rest) ++ b ∷ drop (k + 1) rest =
    sym (take-append-drop from xs) ∙ ap (λ l. take from xs ++ l) parts.0 ∙ sym (append_assoc (take from xs) (take k rest) (b ∷ drop (k + 1) rest)) in
    ap (cut b) whole ∙ cut_at b (take from xs ++ take k rest) (drop (k + 1) rest) (all_joined (λ x. x ≢ b) (take from xs) (take k rest) lacks parts.1)
    ∙ ap (λ (l : List ℕ). Some (l, drop (k + 1) rest)) front ∙ ap (λ (l : List ℕ). Some (take (from + k) xs, l)) back
