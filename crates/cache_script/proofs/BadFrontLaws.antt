-- Bad prefixes: what the code finds makes them, more bytes leave them bad, and no command that fits begins one.
use Rattle.std.proofs.Common.{◌≡◌, ◌≢◌, ℕ, ◌+◌, ◌-◌, ◌<◌, ◌≤◌, Bool, true, false, List, [], ◌∷◌, ◌++◌, length, take, drop, get_or, Option, None, Some, IfSome, ltb, refl, sym, ap, ◌∙◌, subst, arith}
use Rattle.std.proofs.lemmas.Bool.{ltb-true, ltb-false}
use Rattle.std.proofs.lemmas.List.{append_assoc, append-nil, take-append-le, take-append-drop, take_at, length-append, length-drop, length-take-le, get_or_append_left, get_or_at, get_or-take, get_or-drop}
use Rattle.cache_base.specs.Bytes.{AreBytes}
use Rattle.cache_base.specs.declared.limits.TheConstants.{ALT_MAX, LINE_MAX, SCRIPT_MAX}
use Rattle.cache_theory.specs.Command.{Command}
use Rattle.cache_theory.specs.Command.Command.{Append, SetElement, PutAlt}
use Rattle.cache_theory.specs.Text.{IsCommand, IsOneLine, NoMore, command_words, command_data, command_bytes, line, spaced}
use Rattle.cache_script.specs.Front.{BeginsWithCommand, HasLine, HasLineOf, HasNoCommand, IsBadFront, IsPart, IsSearched}
use Rattle.cache_script.specs.Front.IsBadFront.{BadLine, LongLine, NoNewline, TooLong, CutAtLimit}
use Rattle.cache_script.specs.Lines.{Form, form_of, cut, data_len, form_in}
use Rattle.cache_script.specs.Reading.{IsStuck}
use Rattle.cache_script.proofs.CutLaws.{Lacks, cut_at}
use Rattle.cache_script.proofs.FormLaws.{IsLine}
use Rattle.cache_script.proofs.FrameLaws.{one_line, some_same}
use Rattle.cache_script.proofs.FrontLaws.{begins, bytes_front, cut_on, cut_parts, cut_place, data_most, lacks_at, lacks_of, length_data, line_makes, newline_of, no_command_line, none_or_some, told}
use Rattle.cache_script.proofs.LineLaws.{line_read}

-- ---- the line of a command

line_cut : (c : Command) (bytes : List ℕ) (h : HasLineOf bytes c) → cut 10 bytes ≡ Some (spaced (command_words c), h.rest)
line_cut c bytes h =
    ap (cut 10) (h.spelled ∙ append_assoc (spaced (command_words c)) (10 ∷ []) h.rest) ∙ cut_at 10 (spaced (command_words c)) h.rest (one_line c h.is.fields)

line_there : (c : Command) (bytes after : List ℕ) → IsCommand c → bytes ≡ command_bytes c ++ after → HasLineOf bytes c
unfolding command_bytes
line_there c bytes after is e = record {
  is = is;
  rest = command_data c ++ after;
  spelled = e ∙ append_assoc (line (command_words c)) (command_data c) after;
}

line_on : (c : Command) (bytes more : List ℕ) → HasLineOf bytes c → HasLineOf (bytes ++ more) c
line_on c bytes more h = record {
  is = h.is;
  rest = h.rest ++ more;
  spelled = ap (λ l. l ++ more) h.spelled ∙ append_assoc (line (command_words c)) h.rest more;
}

length_lined : (c : Command) → length (command_bytes c) ≡ length (spaced (command_words c)) + 1 + data_len (form_of c)
unfolding command_bytes
length_lined c =
    let text = spaced (command_words c) in
    omega (arith, length_data c, length-append (text ++ 10 ∷ []) (command_data c), length-append text (10 ∷ []))

pub some_bytes : (c : Command) → 0 < length (command_bytes c)
some_bytes c = omega (arith, length_lined c)

-- the line tells how long the command is
length_by : (c : Command) (bytes text rest : List ℕ) (form : Form) → cut 10 bytes ≡ Some (text, rest) → form_in text ≡ Some form → HasLineOf bytes c → length (command_bytes c) ≡ length text + 1 + data_len form
length_by c bytes text rest form cutting tells h =
    let same : text ≡ spaced (command_words c) = ap (λ p. p.0) (some_same _ _ (sym cutting ∙ line_cut c bytes h)) in
    let formed : form_of c ≡ form = some_same _ _ (sym (line_read c h.is.fields) ∙ ap form_in (sym same) ∙ tells) in
    omega (arith, length_lined c, ap length same, ap data_len formed)

same_length : (c d : Command) (bytes : List ℕ) → HasLineOf bytes c → HasLineOf bytes d → length (command_bytes c) ≡ length (command_bytes d)
same_length c d bytes h k = length_by c bytes (spaced (command_words d)) k.rest (form_of d) (line_cut d bytes k) (line_read d k.is.fields) h ∙ sym (length_lined d)

-- a command ends in a newline
ends : (c : Command) → (front : List ℕ) × (command_bytes c ≡ front ++ 10 ∷ [])
unfolding command_bytes
ends (Append s bytes) = (line (command_words (Append s bytes)) ++ bytes, sym (append_assoc (line (command_words (Append s bytes))) bytes (10 ∷ [])))
ends (SetElement s name value) = (line (command_words (SetElement s name value)) ++ value, sym (append_assoc (line (command_words (SetElement s name value))) value (10 ∷ [])))
ends (PutAlt s kind bytes) = (line (command_words (PutAlt s kind bytes)) ++ bytes, sym (append_assoc (line (command_words (PutAlt s kind bytes))) bytes (10 ∷ [])))
ends c = (spaced (command_words c), append-nil (line (command_words c)))

last_is_newline : (c : Command) → get_or (command_bytes c) (length (command_bytes c) - 1) 0 ≡ 10
last_is_newline c =
    let e = ends c in
    ap (λ l. get_or l (length l - 1) 0) e.1 ∙ get_or_at e.0 10 [] 0 (length (e.0 ++ 10 ∷ []) - 1) (omega (arith, length-append e.0 (10 ∷ [])))

-- ---- no command that fits begins a bad prefix

length_some : (xs : List ℕ) → xs ≢ [] → 0 < length xs
length_some [] some = absurd (some refl)
length_some (x ∷ xs) some = omega arith

-- what begins a list and is no longer than its prefix begins the prefix
whole_front : (w bytes more after : List ℕ) → bytes ++ more ≡ w ++ after → length w ≤ length bytes → bytes ≡ w ++ drop (length w) bytes
whole_front w bytes more after e few =
    let same : take (length w) bytes ≡ w = sym (take-append-le (length w) bytes more few) ∙ ap (take (length w)) e ∙ take_at w after (length w) refl in
    sym (take-append-drop (length w) bytes) ∙ ap (λ l. l ++ drop (length w) bytes) same

cut_short : (used : ℕ) (bytes more : List ℕ) → HasNoCommand bytes → SCRIPT_MAX ≤ used + length bytes → NoMore used (bytes ++ more)
cut_short used bytes more none reached = λ c after is e. go c after is e (ltb SCRIPT_MAX (used + length (command_bytes c))) refl
  where
    go : (c : Command) (after : List ℕ) → IsCommand c → bytes ++ more ≡ command_bytes c ++ after → (t : Bool) → ltb SCRIPT_MAX (used + length (command_bytes c)) ≡ t → SCRIPT_MAX < used + length (command_bytes c)
    go c after is e true long = ltb-true SCRIPT_MAX (used + length (command_bytes c)) long
    go c after is e false fits =
        let short : used + length (command_bytes c) ≤ SCRIPT_MAX = ltb-false SCRIPT_MAX (used + length (command_bytes c)) fits in
        absurd (none c (drop (length (command_bytes c)) bytes) is (whole_front (command_bytes c) bytes more after e (omega arith)))

no_more : (used : ℕ) (bytes more : List ℕ) → IsBadFront used bytes → NoMore used (bytes ++ more)
no_more used bytes more (BadLine bad) = λ c after is e.
    let there = line_there c (bytes ++ more) after is e in
    let cutting = cut_on 10 bytes bad.0 bad.1 more (ap (cut 10) bad.2 ∙ cut_at 10 bad.0 bad.1 bad.3) in
    absurd (bad.4 c is (ap (λ p. p.0) (some_same _ _ (sym cutting ∙ line_cut c (bytes ++ more) there))))
no_more used bytes more (LongLine long lacks) = λ c after is e.
    let n = newline_of c (bytes ++ more) after is e in
    let here : n.0 < length (take (LINE_MAX + 1) bytes) = omega (arith, n.1, long, length-take-le (LINE_MAX + 1) bytes (omega (arith, long))) in
    absurd (lacks_at 10 (take (LINE_MAX + 1) bytes) n.0 lacks here
    (get_or-take (LINE_MAX + 1) bytes n.0 0 (omega (arith, n.1)) ∙ sym (get_or_append_left bytes more 0 n.0 (omega (arith, n.1, long))) ∙ n.3))
no_more used bytes more (NoNewline d h enough other) = λ c after is e.
    let len = same_length c d (bytes ++ more) (line_there c (bytes ++ more) after is e) (line_on d bytes more h) in
    let at = length (command_bytes d) - 1 in
    absurd (other (sym (get_or_append_left bytes more 0 at (omega (arith, enough, some_bytes d))) ∙ ap (λ l. get_or l at 0) e
    ∙ get_or_append_left (command_bytes c) after 0 at (omega (arith, len, some_bytes d)) ∙ ap (λ n. get_or (command_bytes c) (n - 1) 0) (sym len) ∙ last_is_newline c))
no_more used bytes more (TooLong d h long) = λ c after is e.
    omega (arith, long, same_length c d (bytes ++ more) (line_there c (bytes ++ more) after is e) (line_on d bytes more h))
no_more used bytes more (CutAtLimit some none reached) = cut_short used bytes more none reached

some_held : (used : ℕ) (bytes : List ℕ) → IsBadFront used bytes → 0 < length bytes
some_held used bytes (BadLine bad) = omega (arith, ap length bad.2, length-append bad.0 (10 ∷ bad.1))
some_held used bytes (LongLine long lacks) = omega (arith, long)
some_held used bytes (NoNewline d h enough other) = omega (arith, enough, some_bytes d)
some_held used bytes (TooLong d h long) =
    let text = spaced (command_words d) in
    omega (arith, ap length h.spelled, length-append (text ++ 10 ∷ []) h.rest, length-append text (10 ∷ []))
some_held used bytes (CutAtLimit some none reached) = length_some bytes some

stuck : (used : ℕ) (bytes rest : List ℕ) → IsBadFront used bytes → IsStuck used (bytes ++ rest)
stuck used bytes rest bad = ((λ e. absurd (omega (arith, some_held used bytes bad, ap length e, length-append bytes rest))), no_more used bytes rest bad)

pub bad_is_stuck : (used : ℕ) (bytes : List ℕ) (left : Option (List ℕ)) → IsBadFront used bytes → IfSome left (λ rest. IsStuck used (bytes ++ rest))
bad_is_stuck used bytes None bad = tt
bad_is_stuck used bytes (Some rest) bad = stuck used bytes rest bad

-- so neither a command nor the end can be reached from one
pub bad_has_none : (used n : ℕ) (bytes more : List ℕ) → IsBadFront used bytes → BeginsWithCommand (bytes ++ more) n → used + n ≤ SCRIPT_MAX → ⊥
bad_has_none used n bytes more bad b fits = omega (arith, b.len, no_more used bytes more bad b.command (drop n (bytes ++ more)) b.is b.spelled)

pub bad_is_some : (used : ℕ) (bytes more : List ℕ) → IsBadFront used bytes → bytes ++ more ≢ []
bad_is_some used bytes more bad = (stuck used bytes more bad).0

-- ---- more bytes leave it bad, where they complete no command

pub still_bad : (used : ℕ) (bytes more : List ℕ) → HasNoCommand (bytes ++ more) → IsBadFront used bytes → IsBadFront used (bytes ++ more)
still_bad used bytes more none (BadLine bad) = BadLine (bad.0, bad.1 ++ more, ap (λ l. l ++ more) bad.2 ∙ append_assoc bad.0 (10 ∷ bad.1) more, bad.3, bad.4)
still_bad used bytes more none (LongLine long lacks) =
    LongLine (omega (arith, long, length-append bytes more)) (subst IsOneLine (sym (take-append-le (LINE_MAX + 1) bytes more (omega (arith, long)))) lacks)
still_bad used bytes more none (NoNewline d h enough other) =
    NoNewline d (line_on d bytes more h) (omega (arith, enough, length-append bytes more))
    (λ same. other (sym (get_or_append_left bytes more 0 (length (command_bytes d) - 1) (omega (arith, enough, some_bytes d))) ∙ same))
still_bad used bytes more none (TooLong d h long) = TooLong d (line_on d bytes more h) long
still_bad used bytes more none (CutAtLimit some old reached) =
    CutAtLimit (λ e. absurd (omega (arith, length_some bytes some, ap length e, length-append bytes more))) none (omega (arith, reached, length-append bytes more))

-- ---- there is no newline

front_lacks : (b : ℕ) (xs ys : List ℕ) → Lacks b (xs ++ ys) → Lacks b xs
front_lacks b [] ys h = tt
front_lacks b (x ∷ xs) ys h = (h.0, front_lacks b xs ys h.1)

module _ (used : ℕ) (bytes : List ℕ) (none : cut 10 bytes ≡ None) where
  lacks_front : (n : ℕ) → Lacks 10 (take n bytes)
  lacks_front n = front_lacks 10 (take n bytes) (drop n bytes) (subst (Lacks 10) (sym (take-append-drop n bytes)) (lacks_of 10 bytes none))

  pub long_begun : LINE_MAX < length bytes → IsBadFront used bytes
  long_begun long = LongLine long (lacks_front (LINE_MAX + 1))

  pub cut_at_limit : 0 < length bytes → SCRIPT_MAX ≤ used + length bytes → IsBadFront used bytes
  cut_at_limit some reached = CutAtLimit (λ e. absurd (omega (arith, some, ap length e))) (no_command_line bytes none) reached

  not_bad : length bytes ≤ LINE_MAX → (0 < length bytes → used + length bytes < SCRIPT_MAX) → IsBadFront used bytes → ⊥
  not_bad short fits (BadLine bad) = none_or_some none (ap (cut 10) bad.2 ∙ cut_at 10 bad.0 bad.1 bad.3)
  not_bad short fits (LongLine long lacks) = omega (arith, short, long)
  not_bad short fits (NoNewline d h enough other) = none_or_some none (line_cut d bytes h)
  not_bad short fits (TooLong d h long) = none_or_some none (line_cut d bytes h)
  not_bad short fits (CutAtLimit some old reached) = omega (arith, reached, fits (length_some bytes some))

  pub line_part : length bytes ≤ LINE_MAX → (0 < length bytes → used + length bytes < SCRIPT_MAX) → IsPart used bytes × IsSearched bytes (length bytes)
  line_part short fits = (
    record { none = no_command_line bytes none; good = not_bad short fits; short = omega (arith, short) },
    record { within = omega arith; none = lacks_front (length bytes) },
  )

-- ---- the first line ends at a place

module _ (used : ℕ) (bytes : List ℕ) (end : ℕ) (within : end < length bytes) (cutting : cut 10 bytes ≡ Some (take end bytes, drop (end + 1) bytes)) where
  no_line : ((c : Command) → IsCommand c → take end bytes ≢ spaced (command_words c)) → IsBadFront used bytes
  no_line other = let parts = cut_parts 10 bytes (take end bytes) (drop (end + 1) bytes) cutting in BadLine (take end bytes, drop (end + 1) bytes, parts.0, parts.1, other)

  pub long_line : LINE_MAX < end → IsBadFront used bytes
  long_line long = no_line (λ c is e. absurd (omega (arith, long, is.line, ap length e, length-take-le end bytes (omega (arith, within)))))

  pub other_line : form_in (take end bytes) ≡ None → IsBadFront used bytes
  other_line none = no_line (λ c is e. none_or_some none (ap form_in e ∙ line_read c is.fields))

module _ (used : ℕ) (bytes : List ℕ) (end : ℕ) (form : Form) (are : AreBytes bytes) (has : HasLine bytes end form) (n : ℕ) (counted : n ≡ end + 1 + data_len form) where
  len_text : length (take end bytes) ≡ end
  len_text = length-take-le end bytes (omega (arith, has.within))

  one : IsLine (take end bytes)
  one =
      let parts = cut_parts 10 bytes (take end bytes) (drop (end + 1) bytes) has.cutting in
      (bytes_front (take end bytes) (10 ∷ drop (end + 1) bytes) (subst AreBytes parts.0 are), parts.1)

  pub len_short : n ≤ LINE_MAX + ALT_MAX + 2
  len_short = omega (arith, counted, has.short, data_most form (told (take end bytes) form one has.tells).1)

  -- a command has the line
  lined : (c : Command) × HasLineOf bytes c
  lined =
      let parts = cut_parts 10 bytes (take end bytes) (drop (end + 1) bytes) has.cutting in
      let some = line_makes (take end bytes) form one (omega (arith, len_text, has.short)) has.tells in (
        some.0,
        record {
          is = some.1;
          rest = drop (end + 1) bytes;
          spelled = parts.0 ∙ ap (λ t. t ++ 10 ∷ drop (end + 1) bytes) some.2 ∙ sym (append_assoc (spaced (command_words some.0)) (10 ∷ []) (drop (end + 1) bytes));
        },
      )

  len_lined : (c : Command) → HasLineOf bytes c → length (command_bytes c) ≡ n
  len_lined c h = omega (arith, counted, len_text, length_by c bytes (take end bytes) (drop (end + 1) bytes) form has.cutting has.tells h)

  pub too_long : SCRIPT_MAX < used + n → IsBadFront used bytes
  too_long long = TooLong lined.0 lined.1 (omega (arith, long, len_lined lined.0 lined.1))

  pub no_newline : n ≤ length bytes → get_or bytes (n - 1) 0 ≢ 10 → IsBadFront used bytes
  no_newline enough other =
      let len = len_lined lined.0 lined.1 in
      NoNewline lined.0 lined.1 (omega (arith, len, enough)) (λ same. other (ap (λ k. get_or bytes (k - 1) 0) (sym len) ∙ same))

  none_yet : length bytes < n → HasNoCommand bytes
  none_yet few = λ c after is e. omega (arith, few, len_lined c (line_there c bytes after is e), ap length e, length-append (command_bytes c) after)

  good_yet : used + n ≤ SCRIPT_MAX → length bytes < n → IsBadFront used bytes → ⊥
  good_yet fits few (BadLine bad) = bad.4 lined.0 lined.1.is (ap (λ p. p.0) (some_same _ _ (sym (ap (cut 10) bad.2 ∙ cut_at 10 bad.0 bad.1 bad.3) ∙ line_cut lined.0 bytes lined.1)))
  good_yet fits few (LongLine long lacks) =
      let parts = cut_parts 10 bytes (take end bytes) (drop (end + 1) bytes) has.cutting in
      let place = cut_place 10 bytes (take end bytes) (drop (end + 1) bytes) parts.0 in
      lacks_at 10 (take (LINE_MAX + 1) bytes) end lacks (omega (arith, has.short, long, length-take-le (LINE_MAX + 1) bytes (omega (arith, long))))
      (get_or-take (LINE_MAX + 1) bytes end 0 (omega (arith, has.short)) ∙ ap (λ k. get_or bytes k 0) (sym len_text) ∙ place.1)
  good_yet fits few (NoNewline d h enough other) = omega (arith, few, enough, len_lined d h)
  good_yet fits few (TooLong d h long) = omega (arith, fits, long, len_lined d h)
  good_yet fits few (CutAtLimit some none reached) = omega (arith, fits, few, reached)

  pub data_part : used + n ≤ SCRIPT_MAX → length bytes < n → IsPart used bytes × IsSearched bytes end
  data_part fits few = (
    record {
      none = none_yet few;
      good = good_yet fits few;
      short = omega (arith, few, len_short);
    },
    record { within = omega (arith, has.within); none = (cut_parts 10 bytes (take end bytes) (drop (end + 1) bytes) has.cutting).1 },
  )

  pub line_whole : n ≤ length bytes → get_or bytes (n - 1) 0 ≡ 10 → BeginsWithCommand bytes n
  line_whole enough newline =
      let rest = drop (end + 1) bytes in
      begins bytes (take end bytes) rest form n are has.cutting (omega (arith, len_text, has.short)) has.tells (omega (arith, counted, enough, length-drop (end + 1) bytes))
      (λ some. get_or-drop (end + 1) bytes (data_len form - 1) 0 ∙ ap (λ k. get_or bytes k 0) (let place : end + 1 + (data_len form - 1) ≡ n - 1 = omega (arith, counted, some) in place) ∙ newline)
      (omega (arith, len_text, counted))
