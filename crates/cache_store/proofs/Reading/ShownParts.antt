-- What is shown of an entry is the machine's reply.
use Rattle.std.proofs.Common.{◌≡◌, inl, inr, ◌≤◌, ◌-◌, ◌++◌, ◌∷◌, ◌∙◌, [], ℕ, List, Option, None, Some, IfSome, codes, false, drop, length, min, take, refl, sym, ap, subst, arith}
use Rattle.std.specs.Prelude.{option_map, IfOk, Result, Err, ◌%◌}
use Rattle.std.proofs.lemmas.Bool.{cases_Bool, leb-false, leb-true}
use Rattle.std.proofs.Common.{leb}
use Rattle.std.proofs.lemmas.List.{append_assoc, length-drop, length-take, length-take-le, take_all, take-take}
use Rattle.cache_base.proofs.CheckLaws.{none_from_map}
use Rattle.alt_data.specs.AltData.{Alt, IsSpelled, main_body}
use Rattle.alt_data.proofs.AltValue.{alt_spelled}
use Rattle.cache_replies.specs.Answers.{outcome_of}
use Rattle.cache_replies.specs.EntryText.{entry_text, head_text}
use Rattle.cache_store.specs.Faulting.{reply_front}
use Rattle.cache_store.specs.Prefix.{range_of}
use Rattle.cache_replies.specs.Printed.{is_check, lists_findings}
use Rattle.cache_replies.specs.Showing.{ShownPart, alt_in_meta, length_before, part_said, part_shown, showing}
use Rattle.cache_replies.specs.Texts.{found_line}
use Rattle.cache_replies.specs.declared.verdict.Verdict.TheVariants as outcome
use Rattle.cache_store.specs.Replied.{replied}
use Rattle.cache_replies.specs.declared.answered.Answered.{Answered}
use Rattle.cache_store.specs.declared.fault.StoreFault.{StoreFault}
use Rattle.cache_replies.specs.declared.shown.Part.{Part}
use Rattle.cache_replies.specs.declared.shown.Shown.{Shown}
use Rattle.cache_replies.specs.declared.shown.Shown.TheVariants as shown
use Rattle.cache_theory.specs.Checks.{alt_in_version}
use Rattle.cache_theory.specs.Command.{Command, Reply}
use Rattle.cache_theory.specs.Command.Command.{Get, GetAlt, MainBody}
use Rattle.cache_theory.specs.Command.Reply.{AltData, Found, Main, Refused}
use Rattle.cache_theory.specs.Laws.{alt_reply_by, main_reply_by}
use Rattle.cache_theory.specs.Machine.{Machine}
use Rattle.cache_theory.specs.Step.{alt_reply_of, step}
use Rattle.cache_theory.specs.Text.{alt_line, reply_text, with_number}
use Rattle.cache_theory.specs.declared.refusal.Refusal.{Refusal}
use Rattle.cache_theory.specs.declared.refusal.Refusal.TheVariants.{NoAlt}
use Rattle.cache_theory.proofs.AltReplies.{alt_is_of_get}
use Rattle.disk_theory.specs.State.{State}
use Rattle.entry_file.specs.Version.{Version, version_meta}
use Rattle.entry_metadata.specs.Metadata.{Meta as MetaSaid}
use Rattle.entry_parts.specs.Elements.{Element, elements_bytes}
use Rattle.file_handles.specs.Answers.{reply_in}
use Rattle.file_handles.specs.Found.{FindsIn}
use Rattle.file_handles.specs.declared.fault.HandleFault.{HandleFault}
use Rattle.file_handles.specs.declared.fault.HandleFault.TheVariants as handle
use Rattle.file_handles.specs.Reading.{part_of_body}

-- showing lists no findings
pub no_findings : (s : Shown) (key : List ℕ) (answer : Result Answered StoreFault) → IfOk answer (λ a. lists_findings a ≡ false) → IfOk answer (λ a. lists_findings a ≡ is_check (showing s key))
no_findings shown.Whole key answer none = none
no_findings shown.Main key answer none = none
no_findings shown.Alt key answer none = none

-- the reply to the command has this head, these bytes of the body after it, and a newline
pub record Shows (c : Command) (m : Machine) (body : List ℕ) (p : ShownPart) : Type 0 where
  pub reply : Reply
  pub is : (step m c).reply ≡ reply
  pub text : p.head ++ (range_of p.from p.to body ++ 10 ∷ []) ≡ reply_text reply
  pub front : reply_front c reply ≡ Some (p.head ++ part_of_body body p.from (p.to - p.from))
  pub outcome : outcome_of reply ≡ outcome.Ok

regrouped : (numbers elements rest : List ℕ) → numbers ++ (elements ++ 10 ∷ []) ++ rest ≡ numbers ++ (elements ++ 10 ∷ rest)
regrouped numbers elements rest = append_assoc numbers (elements ++ 10 ∷ []) rest ∙ ap (λ (t : List ℕ). numbers ++ t) (append_assoc elements (10 ∷ []) rest)

found_text_is : (v : Version) → entry_text (version_meta v) v.body ≡ reply_text (Found v)
unfolding reply_text
found_text_is v = regrouped (found_line (version_meta v)) (elements_bytes v.elements) (v.body ++ 10 ∷ [])

-- bytes up to a place are the beginning of the body
to_front : (n : ℕ) (body : List ℕ) → range_of 0 n body ≡ take n body
to_front n body = ap (λ k. take k body) (let e : n - 0 ≡ n = omega arith in e)

-- and their first part
front_part : (n : ℕ) (body : List ℕ) → n ≤ length body → take 262144 (take n body) ≡ part_of_body body 0 (n - 0)
front_part n body inside = elim (cases_Bool (leb n 262144)) [
  | inl le ↦
      let small = leb-true n 262144 le in
      take_all 262144 (take n body) (omega (arith, small, length-take-le n body)) ∙ ap (λ k. take k body) (let e : n ≡ min (n - 0) (262144 - 0) = omega (arith, small) in e)
  | inr past ↦
      let large = leb-false n 262144 past in
      take-take 262144 n body (omega (arith, large)) ∙ ap (λ k. take k body) (let e : 262144 ≡ min (n - 0) (262144 - 0) = omega (arith, large) in e)
]

-- what is no longer than a length has the same first bytes
first_of : (k n : ℕ) (z : List ℕ) → length z ≤ n → take k z ≡ take (min n k) z
first_of k n z short = elim (cases_Bool (leb k n)) [
  | inl le ↦ let small = leb-true k n le in ap (λ j. take j z) (let e : k ≡ min n k = omega (arith, small) in e)
  | inr past ↦
      let large = leb-false k n past in
      take_all k z (omega (arith, short, large)) ∙ sym (take_all (min n k) z (omega (arith, short, large)))
]

some_inside : (es : List Element) (len : ℕ) (o : Option Alt) → IfSome o (IsSpelled es len) → IfSome o (λ alt. alt.offset ≤ len)
some_inside es len None h = tt
some_inside es len (Some alt) h = h.inside

before_inside : (body : List ℕ) (o : Option Alt) → IfSome o (λ alt. alt.offset ≤ length body) → length_before (length body) o ≤ length body
before_inside body None h = omega arith
before_inside body (Some alt) h = h

main_is : (body : List ℕ) (o : Option Alt) → take (length_before (length body) o) body ≡ main_body o body
main_is body None = take_all (length body) body (omega arith)
main_is body (Some alt) = refl

module _ (m : Machine) (key : List ℕ) (v : Version) (found : (step m (Get key)).reply ≡ Found v) where
  whole_shows : Shows (Get key) m v.body (record { head = head_text (version_meta v); from = 0; to = length v.body })
  whole_shows =
      let all : take (length v.body) v.body ≡ v.body = take_all (length v.body) v.body (omega arith) in
      record {
        reply = Found v;
        is = found;
        text = ap (λ (b : List ℕ). entry_text (version_meta v) b) (to_front (length v.body) v.body ∙ all) ∙ found_text_is v;
        front = ap (λ (b : List ℕ). Some (head_text (version_meta v) ++ b)) (ap (take 262144) (sym all) ∙ front_part (length v.body) v.body (omega arith));
        outcome = refl;
      }

  -- alternative data begin within the body
  alt_inside : IfSome (alt_in_version v) (λ alt. alt.offset ≤ length v.body)
  alt_inside = some_inside v.elements (length v.body) (alt_in_version v) (alt_spelled v.elements (length v.body))

  main_shows : (o : Option Alt) → alt_in_version v ≡ o → IfSome o (λ alt. alt.offset ≤ length v.body)
      → Shows (MainBody key) m v.body (record { head = with_number (codes "main") (length_before (length v.body) o); from = 0; to = length_before (length v.body) o })
  unfolding reply_text
  main_shows o is inside =
      let n : ℕ = length_before (length v.body) o in
      let bytes : List ℕ = main_body o v.body in
      let fits : n ≤ length v.body = before_inside v.body o inside in
      let front_is : take n v.body ≡ bytes = main_is v.body o in
      let len_is : n ≡ length bytes = let long = length-take n v.body in let e : n ≡ length (take n v.body) = omega (arith, long, fits) in e ∙ ap length front_is in
      record {
        reply = Main bytes;
        is = (alt_is_of_get m key).1 ∙ ap main_reply_by found ∙ ap (λ (a : Option Alt). Main (main_body a v.body)) is;
        text = (λ i. with_number (codes "main") (len_is i) ++ ((to_front n v.body ∙ front_is) i ++ 10 ∷ []));
        front = (λ i. Some (with_number (codes "main") (sym len_is i) ++ (ap (take 262144) (sym front_is) ∙ front_part n v.body fits) i));
        outcome = refl;
      }

  alt_shows : (alt : Alt) → alt_in_version v ≡ Some alt → alt.offset ≤ length v.body
      → Shows (GetAlt key) m v.body (record { head = alt_line alt.kind (length v.body - alt.offset); from = alt.offset; to = length v.body })
  unfolding reply_text
  alt_shows alt is inside =
      let bytes : List ℕ = drop alt.offset v.body in
      let long = length-drop alt.offset v.body in
      let len_is : length v.body - alt.offset ≡ length bytes = sym long in
      let all : take (length v.body - alt.offset) bytes ≡ bytes = take_all (length v.body - alt.offset) bytes (omega (arith, long)) in
      record {
        reply = AltData alt bytes;
        is = (alt_is_of_get m key).0 ∙ ap alt_reply_by found ∙ ap (alt_reply_of v) is;
        text = (λ i. alt_line alt.kind (len_is i) ++ (all i ++ 10 ∷ []));
        front = (λ i. Some (alt_line alt.kind (sym len_is i) ++ first_of (262144 - alt.offset % 262144) (length v.body - alt.offset) bytes (omega (arith, long)) i));
        outcome = refl;
      }

  pub shown_shows : (what : Shown) → IfSome (part_shown what (version_meta v)) (Shows (showing what key) m v.body)
  shown_shows shown.Whole = whole_shows
  shown_shows shown.Main = main_shows (alt_in_version v) refl alt_inside
  shown_shows shown.Alt = go (alt_in_version v) refl alt_inside
    where
      go : (o : Option Alt) → alt_in_version v ≡ o → IfSome o (λ alt. alt.offset ≤ length v.body)
          → IfSome (option_map (λ alt. record { head = alt_line alt.kind (length v.body - alt.offset); from = alt.offset; to = length v.body }) o) (Shows (GetAlt key) m v.body)
      go None is inside = tt
      go (Some alt) is inside = alt_shows alt is inside

  pub shown_none : (what : Shown) → part_shown what (version_meta v) ≡ None → (step m (showing what key)).reply ≡ Refused NoAlt
  shown_none shown.Whole none = absurd (cc)
  shown_none shown.Main none = absurd (cc)
  shown_none shown.Alt none = (alt_is_of_get m key).0 ∙ ap alt_reply_by found ∙ ap (alt_reply_of v) (none_from_map _ (alt_in_version v) none)

-- where a `get` is refused, so is what shows something else
pub shown_refused : (what : Shown) (m : Machine) (key : List ℕ) (r : Refusal) → (step m (Get key)).reply ≡ Refused r → (step m (showing what key)).reply ≡ Refused r
shown_refused shown.Whole m key r refused = refused
shown_refused shown.Main m key r refused = (alt_is_of_get m key).1 ∙ ap main_reply_by refused
shown_refused shown.Alt m key r refused = (alt_is_of_get m key).0 ∙ ap alt_reply_by refused

-- what the machine replies where the handles find nothing
pub finds_reply : (what : Shown) (key : List ℕ) (f : HandleFault) (s : State) (m : Machine) → FindsIn key (Err f) s m → (answer : Result Answered StoreFault) → replied answer ≡ reply_in f
    → IfSome (replied answer) (λ q. q ≡ (step m (showing what key)).reply)
finds_reply what key (handle.Refused r) s m finds answer is =
    subst (λ (o : Option Reply). IfSome o (λ q. q ≡ (step m (showing what key)).reply)) (sym is) (sym (shown_refused what m key r (finds.none r refl)))
finds_reply what key handle.Disk s m finds answer is = subst (λ (o : Option Reply). IfSome o (λ q. q ≡ (step m (showing what key)).reply)) (sym is) tt
finds_reply what key handle.Read s m finds answer is = subst (λ (o : Option Reply). IfSome o (λ q. q ≡ (step m (showing what key)).reply)) (sym is) tt
finds_reply what key handle.Memory s m finds answer is = subst (λ (o : Option Reply). IfSome o (λ q. q ≡ (step m (showing what key)).reply)) (sym is) tt

-- the part lies within the body
alt_within : (m : MetaSaid) (o : Option Alt) → IfSome o (λ alt. alt.offset ≤ m.offset)
    → IfSome (option_map (λ alt. record { head = alt_line alt.kind (m.offset - alt.offset); from = alt.offset; to = m.offset }) o) (λ (p : ShownPart). (p.from ≤ p.to) × (p.to ≤ m.offset))
alt_within m None h = tt
alt_within m (Some alt) h = (h, omega arith)

length_within : (len : ℕ) (o : Option Alt) → IfSome o (λ alt. alt.offset ≤ len) → (0 ≤ length_before len o) × (length_before len o ≤ len)
length_within len None h = (omega arith, omega arith)
length_within len (Some alt) h = (omega arith, h)

inside_meta : (m : MetaSaid) → IfSome (alt_in_meta m) (λ alt. alt.offset ≤ m.offset)
inside_meta m = some_inside m.elements m.offset (alt_in_meta m) (alt_spelled m.elements m.offset)

parts_within : (what : Shown) (m : MetaSaid) → IfSome (part_shown what m) (λ p. (p.from ≤ p.to) × (p.to ≤ m.offset))
parts_within shown.Whole m = (omega arith, omega arith)
parts_within shown.Main m = length_within m.offset (alt_in_meta m) (inside_meta m)
parts_within shown.Alt m = alt_within m (alt_in_meta m) (inside_meta m)

-- what holds of the part that is shown holds of the one that is given
of_part : (P : ShownPart → Type 0) (o : Option Part) (p : Part) (q : Option ShownPart) → o ≡ Some p → option_map part_said o ≡ q → IfSome q P → P (part_said p)
of_part P o p q is said all =
    let one : q ≡ Some (part_said p) = sym said ∙ ap (option_map part_said) is in
    subst (λ (r : Option ShownPart). IfSome r P) one all

pub part_within : (what : Shown) (m : MetaSaid) (o : Option Part) (p : Part) → o ≡ Some p → option_map part_said o ≡ part_shown what m → (p.from ≤ p.to) × (p.to ≤ m.offset)
part_within what m o p is said = of_part (λ p. (p.from ≤ p.to) × (p.to ≤ m.offset)) o p (part_shown what m) is said (parts_within what m)

module _ (what : Shown) (m : Machine) (key : List ℕ) (v : Version) (found : (step m (Get key)).reply ≡ Found v) (meta : MetaSaid) (of : meta ≡ version_meta v) (o : Option Part) (said : option_map part_said o ≡ part_shown what meta) where
  pub part_shows : (p : Part) → o ≡ Some p → Shows (showing what key) m v.body (part_said p)
  part_shows p is = of_part (Shows (showing what key) m v.body) o p (part_shown what (version_meta v)) is (said ∙ ap (part_shown what) of) (shown_shows m key v found what)

  pub part_none : o ≡ None → (step m (showing what key)).reply ≡ Refused NoAlt
  part_none none = shown_none m key v found what (sym (said ∙ ap (part_shown what) of) ∙ ap (option_map part_said) none)
