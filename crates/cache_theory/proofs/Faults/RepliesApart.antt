-- No reply begins as the line `fault` does.
use Rattle.std.proofs.Common.{◌≡◌, ◌≢◌, ℕ, ◌≤◌, List, [], ◌∷◌, ◌++◌, codes, take, sym, ap, ◌∙◌, arith, Bool, true, false, Option, Some, None, refl, if◌then◌else◌}
use Rattle.std.proofs.Math.Seq.{take-append-le}
use Rattle.cache_theory.specs.Command.{Reply, Command}
use Rattle.cache_theory.specs.declared.refusal.Refusal.{Refusal}
use Rattle.cache_theory.specs.declared.refusal.Refusal.TheVariants as refused
use Rattle.cache_theory.specs.Command.Reply.{Done, Refused, NoneThere, Value, Part, Found, AltData, Main, Yes, No, Unknown, Records, Evicted, Cleared, Resumed, Ready, Updating, Findings, Rebuilt, Dumped}
use Rattle.cache_theory.specs.Faulted.{NoReplyIsFault, fault_line}
use Rattle.cache_theory.specs.Text.{found_line, line, reply_text, refusal_words, IsSpoken}
use Rattle.cache_theory.proofs.Faults.TextsApart.{Differ}
use Rattle.std.specs.Prelude.{drop, is_none}
use Rattle.alt_data.specs.AltData.{Alt}
use Rattle.cache_base.specs.Checks.{first_failing}
use Rattle.cache_theory.specs.Checks.{alt_in_version, checks}
use Rattle.cache_theory.specs.Command.Command.{UnsetElement, ElementOf, Get, GetAlt, MainBody, HasEntry, HasGiven, StepUpdate, UpdateState, Resume, ResumeNames}
use Rattle.cache_theory.specs.Machine.{Machine, object_of, on_shelf, waits_for}
use Rattle.cache_theory.specs.Step.{alt_reply, alt_reply_of, answer, effect, element_reply, fits_there, found_reply, main_reply, state_reply, step, stepped}
use Rattle.cache_theory.specs.Table.{get}
use Rattle.entry_file.specs.EntryFile.{Reading}
use Rattle.entry_file.specs.EntryFile.Reading.{Whole, Damaged, Nothing}
use Rattle.entry_file.specs.Version.{Version}
use Rattle.entry_name.specs.EntryName.{file_name}
use Rattle.entry_parts.specs.Elements.{element}

-- texts whose first byte differs, or the second
first_differs : (x y : ℕ) (xs ys : List ℕ) → x ≢ y → Differ (x ∷ xs) (y ∷ ys)
first_differs x y xs ys apart = record { at = 1; early = omega arith; in_first = omega arith; in_second = omega arith; apart = λ e. apart (let is : x ∷ [] ≡ y ∷ [] = e in cc) }

second_differs : (x a b : ℕ) (xs ys : List ℕ) → a ≢ b → Differ (x ∷ a ∷ xs) (x ∷ b ∷ ys)
second_differs x a b xs ys apart = record { at = 2; early = omega arith; in_first = omega arith; in_second = omega arith; apart = λ e. apart (let is : x ∷ a ∷ [] ≡ x ∷ b ∷ [] = e in cc) }

refusal_differs : (r : Refusal) → Differ (line (refusal_words r)) fault_line
unfolding fault_line
refusal_differs refused.SlotTaken = first_differs 115 102 _ _ (λ e. omega (arith, e))
refusal_differs refused.NoSlot = first_differs 110 102 _ _ (λ e. omega (arith, e))
refusal_differs refused.Absent = first_differs 97 102 _ _ (λ e. omega (arith, e))
refusal_differs refused.Unfinished = first_differs 117 102 _ _ (λ e. omega (arith, e))
refusal_differs (refused.Damaged d) = first_differs 100 102 _ _ (λ e. omega (arith, e))
refusal_differs refused.NotWriter = first_differs 110 102 _ _ (λ e. omega (arith, e))
refusal_differs refused.Finished = second_differs 102 105 97 _ _ (λ e. omega (arith, e))
refusal_differs refused.TooLarge = first_differs 116 102 _ _ (λ e. omega (arith, e))
refusal_differs refused.BadKey = first_differs 98 102 _ _ (λ e. omega (arith, e))
refusal_differs refused.BadElement = first_differs 98 102 _ _ (λ e. omega (arith, e))
refusal_differs refused.HasAlt = first_differs 104 102 _ _ (λ e. omega (arith, e))
refusal_differs refused.NoAlt = first_differs 110 102 _ _ (λ e. omega (arith, e))

pub reply_differs : (r : Reply) → r ≢ Resumed → Differ (reply_text r) fault_line
unfolding reply_text found_line fault_line
reply_differs Done some = first_differs 111 102 _ _ (λ e. omega (arith, e))
reply_differs (Refused r) some = refusal_differs r
reply_differs NoneThere some = first_differs 110 102 _ _ (λ e. omega (arith, e))
reply_differs (Value value) some = first_differs 118 102 _ _ (λ e. omega (arith, e))
reply_differs (Part bytes) some = first_differs 100 102 _ _ (λ e. omega (arith, e))
reply_differs (Found v) some = second_differs 102 111 97 _ _ (λ e. omega (arith, e))
reply_differs (AltData alt bytes) some = first_differs 97 102 _ _ (λ e. omega (arith, e))
reply_differs (Main bytes) some = first_differs 109 102 _ _ (λ e. omega (arith, e))
reply_differs Yes some = first_differs 121 102 _ _ (λ e. omega (arith, e))
reply_differs No some = first_differs 110 102 _ _ (λ e. omega (arith, e))
reply_differs Unknown some = first_differs 117 102 _ _ (λ e. omega (arith, e))
reply_differs (Records records) some = first_differs 114 102 _ _ (λ e. omega (arith, e))
reply_differs (Evicted names) some = first_differs 101 102 _ _ (λ e. omega (arith, e))
reply_differs (Cleared names) some = first_differs 99 102 _ _ (λ e. omega (arith, e))
reply_differs Resumed some = absurd (some refl)
reply_differs Ready some = first_differs 114 102 _ _ (λ e. omega (arith, e))
reply_differs (Updating names) some = first_differs 117 102 _ _ (λ e. omega (arith, e))
reply_differs (Findings findings) some = second_differs 102 105 97 _ _ (λ e. omega (arith, e))
reply_differs (Rebuilt records) some = first_differs 114 102 _ _ (λ e. omega (arith, e))
reply_differs (Dumped versions) some = first_differs 67 102 _ _ (λ e. omega (arith, e))

-- a command whose reply is printed has another reply
found_spoken : (r : Reading) → found_reply r ≢ Resumed
found_spoken (Whole v) is = cc
found_spoken (Damaged d) is = cc
found_spoken Nothing is = cc

alt_of_spoken : (v : Version) (alt : Option Alt) → alt_reply_of v alt ≢ Resumed
alt_of_spoken v None is = cc
alt_of_spoken v (Some alt) is = cc

alt_spoken : (r : Reading) → alt_reply r ≢ Resumed
alt_spoken (Whole v) is = alt_of_spoken v (alt_in_version v) is
alt_spoken (Damaged d) is = cc
alt_spoken Nothing is = cc

main_spoken : (r : Reading) → main_reply r ≢ Resumed
main_spoken (Whole v) is = cc
main_spoken (Damaged d) is = cc
main_spoken Nothing is = cc

element_spoken : (value : Option (List ℕ)) → element_reply value ≢ Resumed
element_spoken None is = cc
element_spoken (Some value) is = cc

has_spoken : (waits there : Bool) → (if waits then Unknown else if there then Yes else No) ≢ Resumed
has_spoken true there is = cc
has_spoken false true is = cc
has_spoken false false is = cc

state_spoken : (names : List (List ℕ)) → state_reply names ≢ Resumed
state_spoken [] is = cc
state_spoken (n ∷ names) is = cc

unset_spoken : (m : Machine) (next : Machine) (absent : Bool) → (if absent then answer m NoneThere else answer next Done).reply ≢ Resumed
unset_spoken m next true is = cc
unset_spoken m next false is = cc

effect_spoken : (m : Machine) (c : Command) → IsSpoken c → (effect m c).reply ≢ Resumed
unfolding effect
effect_spoken m (UnsetElement s name) spoken = unset_spoken m _ (is_none (element name (object_of m s).version.elements))
effect_spoken m (ElementOf s name) spoken = element_spoken (element name (object_of m s).version.elements)
effect_spoken m (Get key) spoken = found_spoken (on_shelf m key)
effect_spoken m (GetAlt key) spoken = alt_spoken (on_shelf m key)
effect_spoken m (MainBody key) spoken = main_spoken (on_shelf m key)
effect_spoken m (HasEntry key) spoken = has_spoken (waits_for m (file_name key)) (fits_there (file_name key) (get m.shelf (file_name key)))
effect_spoken m (HasGiven key there) spoken = has_spoken (waits_for m (file_name key)) there
effect_spoken m (StepUpdate n) spoken = state_spoken (drop n m.rest)
effect_spoken m UpdateState spoken = state_spoken m.rest
effect_spoken m Resume spoken = absurd spoken
effect_spoken m (ResumeNames names) spoken = absurd spoken
effect_spoken m c spoken = λ is. cc

pub step_spoken : (m : Machine) (c : Command) → IsSpoken c → (step m c).reply ≢ Resumed
step_spoken m c spoken = go (first_failing (checks m c))
  where
    go : (r : Option Refusal) → (stepped m c r).reply ≢ Resumed
    go None = effect_spoken m c spoken
    go (Some r) = λ is. cc

-- so none begins with `fault`
begins_otherwise : (xs more : List ℕ) → Differ xs fault_line → xs ≢ codes "fault" ++ more
unfolding fault_line
begins_otherwise xs more d is =
    let within : d.at ≤ 5 = let early = d.early in omega (arith, early) in
    d.apart (ap (take d.at) is ∙ take-append-le d.at (codes "fault") more within ∙ sym (take-append-le d.at (codes "fault") (10 ∷ []) within))

pub no_reply_is_fault : NoReplyIsFault
unfolding reply_text
no_reply_is_fault Resumed more = λ is. cc
no_reply_is_fault r more = begins_otherwise (reply_text r) more (reply_differs r (λ is. cc))
