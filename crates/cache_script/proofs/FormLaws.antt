-- A line that is read is the line of what it tells.
use Rattle.std.proofs.Common.{◌≡◌, ◌≢◌, ℕ, ◌+◌, ◌<◌, ◌^◌, Bool, true, false, cond, List, ◌∷◌, ◌++◌, codes, decimal, Option, None, Some, IfSome, IfNone, MatchOption, refl, sym, ap, ◌∙◌, subst, arith, nat_lt, nat_eq}
use Rattle.std.specs.Cmp.Lexicographic.{pointwise}
use Rattle.std.specs.Option.{option_map, option_and_then}
use Rattle.std.proofs.lemmas.Bool.Decides.{nat_tests}
use Rattle.std.proofs.lemmas.Slice.Eq.{bytes_eq-Decides}
use Rattle.cache_base.specs.Bytes.{AreBytes}
use Rattle.cache_base.specs.declared.limits.TheConstants.{ALT_MAX, ELEMENTS_MAX, PIECE_MAX, SLOTS}
use Rattle.cache_theory.specs.Command.Command.{At, Finish, UseEntry, Pin, Unpin, ReadPart, Close, Evict, StepUpdate}
use Rattle.cache_theory.specs.Command.{Command}
use Rattle.cache_theory.specs.Text.{FieldsFit, IsOneLine, command_words, spaced}
use Rattle.cache_script.specs.Lines.{Form, Tells, cut, number_below, slot_in, len_in, read_in, slot_form, first_slot_form, number_form, verb_form, form_in}
use Rattle.cache_base.specs.Numbers.{number_in}
use Rattle.cache_script.proofs.CutLaws.{Lacks, IsCut, cut_is}
use Rattle.cache_script.proofs.LineLaws.{all_behind, line_read}
use Rattle.cache_base.proofs.NumberLaws.{number_spelled}

-- bytes with no newline among them
abbrev pub IsLine : List ℕ → Type 0
IsLine text = AreBytes text × IsOneLine text

mapped : {X Y : Type 0} (f : X → Y) (o : Option X) (P : X → Type 0) (Q : Y → Type 0) → ((x : X) → P x → Q (f x)) → IfSome o P → IfSome (option_map f o) Q
mapped f None P Q step h = tt
mapped f (Some x) P Q step h = step x h

chained : {X Y : Type 0} (f : X → Option Y) (o : Option X) (A : Type 0) (P : X → Type 0) (Q : Y → Type 0) → ((x : X) → P x → IfSome (f x) Q) → MatchOption o A P → IfSome (option_and_then f o) Q
chained f None A P Q step h = tt
chained f (Some x) A P Q step h = step x h

-- the same, where nothing is known of `None`
linked : {X Y : Type 0} (f : X → Option Y) (o : Option X) (P : X → Type 0) (Q : Y → Type 0) → ((x : X) → P x → IfSome (f x) Q) → IfSome o P → IfSome (option_and_then f o) Q
linked f None P Q step h = tt
linked f (Some x) P Q step h = step x h

verb_case : (verb w : List ℕ) (x y : Option Form) (P : Form → Type 0) → (verb ≡ w → IfSome x P) → IfSome y P → IfSome (cond (pointwise nat_eq verb w) x y) P
verb_case verb w x y P here there = go (pointwise nat_eq verb w) refl
  where
    go : (t : Bool) → pointwise nat_eq verb w ≡ t → IfSome (cond t x y) P
    go true e = here ((bytes_eq-Decides verb w).0 e)
    go false e = there

below_case : (limit n : ℕ) (P : ℕ → Type 0) → (n < limit → P n) → IfSome (cond (nat_lt n limit) (Some n) None) P
below_case limit n P h = go (nat_lt n limit) refl
  where
    go : (t : Bool) → nat_lt n limit ≡ t → IfSome (cond t (Some n) None) P
    go true e = h (grind (arith, nat_tests))
    go false e = tt

-- the word is a number below the limit
abbrev IsBelow : ℕ → List ℕ → ℕ → Type 0
IsBelow limit word n = (word ≡ decimal n) × (n < limit)

below_spelled : (limit : ℕ) (word : List ℕ) → IfSome (number_below limit word) (IsBelow limit word)
below_spelled limit word =
    linked (λ n. cond (nat_lt n limit) (Some n) None) (number_in word) (λ n. (word ≡ decimal n) × (n < 2 ^ 32)) (IsBelow limit word)
    (λ n h. below_case limit n (IsBelow limit word) (λ less. (h.0, less))) (number_spelled word)

line_behind : (b : ℕ) (xs ys : List ℕ) → IsLine (xs ++ b ∷ ys) → IsLine ys
line_behind b xs ys h = ((all_behind (λ x. x < 256) xs (b ∷ ys) h.0).1, (all_behind (λ x. x ≢ 10) xs (b ∷ ys) h.1).1)

-- a verb, a slot and what follows them as one text
abbrev slot_text : List ℕ → ℕ → List ℕ → List ℕ
slot_text verb s rest = verb ++ 32 ∷ (decimal s ++ 32 ∷ rest)

-- the text is a length below the limit, a space and one line
abbrev IsMeasured : ℕ → List ℕ → ℕ × List ℕ → Type 0
IsMeasured limit text parts = (text ≡ decimal parts.0 ++ 32 ∷ parts.1) × ((parts.0 < limit) × IsLine parts.1)

len_spelled : (limit : ℕ) (text : List ℕ) → IsLine text → IfSome (len_in limit text) (IsMeasured limit text)
len_spelled limit text line =
    chained (λ (parts : List ℕ × List ℕ). option_map (λ (n : ℕ). (n, parts.1)) (number_below limit parts.0)) (cut 32 text) (Lacks 32 text) (IsCut 32 text) (IsMeasured limit text)
    (λ parts h. mapped (λ (n : ℕ). (n, parts.1)) (number_below limit parts.0) (IsBelow limit parts.0) (IsMeasured limit text)
    (λ n k. (h.0 ∙ ap (λ d. d ++ 32 ∷ parts.1) k.0, (k.1, line_behind 32 parts.0 parts.1 (subst IsLine h.0 line))))
    (below_spelled limit parts.0)) (cut_is 32 text)

read_spelled : (verb : List ℕ) (s : ℕ) (rest : List ℕ) → s < SLOTS → verb ≡ codes "read"
    → IfSome (option_and_then (λ (parts : List ℕ × List ℕ). read_in s parts.0 parts.1) (cut 32 rest)) (Tells (slot_text verb s rest))
read_spelled verb s rest small is =
    chained (λ (parts : List ℕ × List ℕ). read_in s parts.0 parts.1) (cut 32 rest) (Lacks 32 rest) (IsCut 32 rest) (Tells (slot_text verb s rest))
    (λ parts h. linked (λ f. option_map (λ n. Form.WholeLine (ReadPart s f n)) (number_in parts.1)) (number_in parts.0) (λ n. (parts.0 ≡ decimal n) × (n < 2 ^ 32)) (Tells (slot_text verb s rest))
    (λ from k. mapped (λ n. Form.WholeLine (ReadPart s from n)) (number_in parts.1) (λ n. (parts.1 ≡ decimal n) × (n < 2 ^ 32)) (Tells (slot_text verb s rest))
    (λ len m. (
      ap (λ v. slot_text v s rest) is ∙ ap (λ r. slot_text (codes "read") s r) (h.0 ∙ ap (λ d. d ++ 32 ∷ parts.1) k.0 ∙ ap (λ d. decimal from ++ 32 ∷ d) m.0),
      ((small, (k.1, m.1)), refl),
    ))
    (number_spelled parts.1)) (number_spelled parts.0)) (cut_is 32 rest)

slot_spelled : (verb : List ℕ) (s : ℕ) (rest : List ℕ) → s < SLOTS → IsLine rest → IfSome (slot_form verb s rest) (Tells (slot_text verb s rest))
unfolding slot_form
slot_spelled verb s rest small line =
    let P : Form → Type 0 = Tells (slot_text verb s rest) in
    let same = λ (w : List ℕ) (is : verb ≡ w). ap (λ v. slot_text v s rest) is in
    verb_case verb (codes "create") _ _ P (λ is. (same (codes "create") is, ((small, line), refl)))
    (verb_case verb (codes "open") _ _ P (λ is. (same (codes "open") is, ((small, line), refl)))
    (verb_case verb (codes "unset") _ _ P (λ is. (same (codes "unset") is, ((small, line), refl)))
    (verb_case verb (codes "element") _ _ P (λ is. (same (codes "element") is, ((small, line), refl)))
    (verb_case verb (codes "append") _ _ P
    (λ is. mapped (λ n. Form.AppendLine s n) (number_below (PIECE_MAX + 1) rest) (IsBelow (PIECE_MAX + 1) rest) P
    (λ n h. (same (codes "append") is ∙ ap (λ r. slot_text (codes "append") s r) h.0, (small, omega (arith, h.1)))) (below_spelled (PIECE_MAX + 1) rest))
    (verb_case verb (codes "set") _ _ P
    (λ is. mapped (λ (parts : ℕ × List ℕ). Form.SetLine s parts.0 parts.1) (len_in (ELEMENTS_MAX + 1) rest) (IsMeasured (ELEMENTS_MAX + 1) rest) P
    (λ parts h. (same (codes "set") is ∙ ap (λ r. slot_text (codes "set") s r) h.0, (small, (h.1.1, omega (arith, h.1.0))))) (len_spelled (ELEMENTS_MAX + 1) rest line))
    (verb_case verb (codes "putalt") _ _ P
    (λ is. mapped (λ (parts : ℕ × List ℕ). Form.AltLine s parts.0 parts.1) (len_in (ALT_MAX + 1) rest) (IsMeasured (ALT_MAX + 1) rest) P
    (λ parts h. (same (codes "putalt") is ∙ ap (λ r. slot_text (codes "putalt") s r) h.0, (small, (h.1.1, omega (arith, h.1.0))))) (len_spelled (ALT_MAX + 1) rest line))
    (verb_case verb (codes "read") _ _ P (read_spelled verb s rest small) tt)))))))

-- a verb and what follows it as one text
abbrev verb_text : List ℕ → List ℕ → List ℕ
verb_text verb rest = verb ++ 32 ∷ rest

more_spelled : (verb rest : List ℕ) → IsLine rest
    → IfSome (option_and_then (λ (parts : List ℕ × List ℕ). option_and_then (λ (s : ℕ). slot_form verb s parts.1) (slot_in parts.0)) (cut 32 rest)) (Tells (verb_text verb rest))
more_spelled verb rest line =
    chained (λ (parts : List ℕ × List ℕ). option_and_then (λ (s : ℕ). slot_form verb s parts.1) (slot_in parts.0)) (cut 32 rest) (Lacks 32 rest) (IsCut 32 rest) (Tells (verb_text verb rest))
    (λ parts h. linked (λ (s : ℕ). slot_form verb s parts.1) (slot_in parts.0) (IsBelow SLOTS parts.0) (Tells (verb_text verb rest))
    (λ s k. let same : verb_text verb rest ≡ slot_text verb s parts.1 = ap (λ r. verb_text verb r) (h.0 ∙ ap (λ d. d ++ 32 ∷ parts.1) k.0) in
    subst (λ (t : List ℕ). IfSome (slot_form verb s parts.1) (Tells t)) (sym same)
    (slot_spelled verb s parts.1 k.1 (line_behind 32 parts.0 parts.1 (subst IsLine h.0 line))))
    (below_spelled SLOTS parts.0)) (cut_is 32 rest)

-- a verb with a slot and no more
lone_slot_spelled : (word verb rest : List ℕ) (command : ℕ → Command) → ((s : ℕ) → s < SLOTS → Tells (verb_text word (decimal s)) (Form.WholeLine (command s))) → verb ≡ word
    → IfSome (option_map (λ s. Form.WholeLine (command s)) (slot_in rest)) (Tells (verb_text verb rest))
lone_slot_spelled word verb rest command tells is =
    mapped (λ s. Form.WholeLine (command s)) (slot_in rest) (IsBelow SLOTS rest) (Tells (verb_text verb rest))
    (λ s h. (ap (λ v. verb_text v rest) is ∙ ap (λ r. verb_text word r) h.0 ∙ (tells s h.1).0, (tells s h.1).1)) (below_spelled SLOTS rest)

first_slot_spelled : (verb rest : List ℕ) → IsLine rest → IfSome (first_slot_form verb rest) (Tells (verb_text verb rest))
unfolding first_slot_form
first_slot_spelled verb rest line =
    let P : Form → Type 0 = Tells (verb_text verb rest) in
    verb_case verb (codes "finish") _ _ P (lone_slot_spelled (codes "finish") verb rest (λ s. Finish s) (λ s small. (refl, (small, refl))))
    (verb_case verb (codes "close") _ _ P (lone_slot_spelled (codes "close") verb rest (λ s. Close s) (λ s small. (refl, (small, refl))))
    (verb_case verb (codes "use") _ _ P (lone_slot_spelled (codes "use") verb rest (λ s. UseEntry s) (λ s small. (refl, (small, refl))))
    (verb_case verb (codes "pin") _ _ P (lone_slot_spelled (codes "pin") verb rest (λ s. Pin s) (λ s small. (refl, (small, refl))))
    (verb_case verb (codes "unpin") _ _ P (lone_slot_spelled (codes "unpin") verb rest (λ s. Unpin s) (λ s small. (refl, (small, refl))))
    (more_spelled verb rest line)))))

number_form_spelled : (verb rest : List ℕ) → IsLine rest → IfSome (number_form verb rest) (Tells (verb_text verb rest))
unfolding number_form
number_form_spelled verb rest line =
    let P : Form → Type 0 = Tells (verb_text verb rest) in
    let same = λ (w : List ℕ) (is : verb ≡ w). ap (λ v. verb_text v rest) is in
    verb_case verb (codes "at") _ _ P
    (λ is. mapped (λ n. Form.WholeLine (At n)) (number_in rest) (λ n. (rest ≡ decimal n) × (n < 2 ^ 32)) P
    (λ n h. (same (codes "at") is ∙ ap (λ r. verb_text (codes "at") r) h.0, (h.1, refl))) (number_spelled rest))
    (verb_case verb (codes "evict") _ _ P
    (λ is. mapped (λ n. Form.WholeLine (Evict n)) (number_in rest)
    (λ n. (rest ≡ decimal n) × (n < 2 ^ 32)) P
    (λ n h. (same (codes "evict") is ∙ ap (λ r. verb_text (codes "evict") r) h.0, (h.1, refl)))
    (number_spelled rest))
    (verb_case verb (codes "step") _ _ P
    (λ is. mapped (λ n. Form.WholeLine (StepUpdate n)) (number_in rest)
    (λ n. (rest ≡ decimal n) × (n < 2 ^ 32)) P
    (λ n h. (same (codes "step") is ∙ ap (λ r. verb_text (codes "step") r) h.0, (h.1, refl)))
    (number_spelled rest))
    (first_slot_spelled verb rest line)))

verb_spelled : (verb rest : List ℕ) → IsLine rest → IfSome (verb_form verb rest) (Tells (verb_text verb rest))
unfolding verb_form
verb_spelled verb rest line =
    let P : Form → Type 0 = Tells (verb_text verb rest) in
    let same = λ (w : List ℕ) (is : verb ≡ w). ap (λ v. verb_text v rest) is in
    verb_case verb (codes "doom") _ _ P (λ is. (same (codes "doom") is, (line, refl)))
    (verb_case verb (codes "get") _ _ P (λ is. (same (codes "get") is, (line, refl)))
    (verb_case verb (codes "getalt") _ _ P (λ is. (same (codes "getalt") is, (line, refl)))
    (verb_case verb (codes "main") _ _ P (λ is. (same (codes "main") is, (line, refl)))
    (verb_case verb (codes "has") _ _ P (λ is. (same (codes "has") is, (line, refl)))
    (verb_case verb (codes "clear") _ _ P (λ is. (same (codes "clear") is, (line, refl)))
    (number_form_spelled verb rest line))))))

pub form_spelled : (text : List ℕ) → IsLine text → IfSome (form_in text) (Tells text)
unfolding form_in
form_spelled text line =
    verb_case text (codes "flush") _ _ (Tells text) (λ is. (is, (tt, refl)))
    (verb_case text (codes "list") _ _ (Tells text) (λ is. (is, (tt, refl)))
    (verb_case text (codes "state") _ _ (Tells text) (λ is. (is, (tt, refl)))
    (verb_case text (codes "verify") _ _ (Tells text) (λ is. (is, (tt, refl)))
    (verb_case text (codes "rebuild") _ _ (Tells text) (λ is. (is, (tt, refl)))
    (chained (λ (parts : List ℕ × List ℕ). verb_form parts.0 parts.1) (cut 32 text) (Lacks 32 text) (IsCut 32 text) (Tells text)
    (λ parts h. subst (λ (t : List ℕ). IfSome (verb_form parts.0 parts.1) (Tells t)) (sym h.0)
    (verb_spelled parts.0 parts.1 (line_behind 32 parts.0 parts.1 (subst IsLine h.0 line)))) (cut_is 32 text))))))

none_or_some : {X : Type 0} {x : X} → None ≡ Some x → ⊥
none_or_some e = cc

pub told_by : {X : Type 0} (text : List ℕ) (r : Option X) (form : X → Form) → IsLine text → option_map form r ≡ form_in text → IfSome r (λ x. Tells text (form x))
told_by text None form line e = tt
told_by text (Some x) form line e = subst (λ (o : Option Form). IfSome o (Tells text)) (sym e) (form_spelled text line)

pub told_none : {X : Type 0} (text : List ℕ) (r : Option X) (form : X → Form) → option_map form r ≡ form_in text → IfNone r ((c : Command) → FieldsFit c → text ≢ spaced (command_words c))
told_none text (Some x) form e = tt
told_none text None form e = λ c fits is. none_or_some (e ∙ ap form_in is ∙ line_read c fits)
