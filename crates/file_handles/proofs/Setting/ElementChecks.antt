-- The checks of the commands on elements, by what the handles have.
use Rattle.std.proofs.Common.{◌≡◌, ℕ, ◌<◌, List, length, ◌&&◌, arith, eqb-true, IfSome, IsSome, IsSomeAnd, [], ◌∷◌, Bool, true, false, cond, not, Option, Some, None, Result, Ok, Err, IfErr, IsErrAnd, refl, sym, ap, subst, ◌∙◌}
use Rattle.std.specs.Prelude.{◌||◌, ◌==◌, nat_le, nat_lt}
use Rattle.std.proofs.lemmas.Bool.{and_from, and_left, and_parts, and_right, eqb-false, le-ltb, lt-ltb}
use Rattle.cache_base.specs.Checks.{first_failing}
use Rattle.cache_base.specs.declared.limits.TheConstants.{ELEMENTS_MAX, SLOTS}
use Rattle.cache_base.proofs.CheckLaws.{all_hold}
use Rattle.cache_theory.specs.Checks.{checks, good_element, small_parts, with_value}
use Rattle.cache_theory.specs.Command.Command.{ElementOf, SetElement, UnsetElement}
use Rattle.cache_theory.specs.Machine.{Machine, Object as MachineObject, is_slot, is_writer, object, object_of}
use Rattle.cache_theory.specs.declared.refusal.Refusal.{Refusal}
use Rattle.cache_theory.specs.declared.refusal.Refusal.TheVariants.{BadElement, NoSlot, NotWriter, TooLarge}
use Rattle.entry_parts.specs.Elements.{Element, elements_bytes}
use Rattle.entry_parts.specs.Setting.{has_zero, set_fault, with_element}
use Rattle.entry_parts.specs.declared.fault.PartsFault.TheVariants as bad
use Rattle.handle_table.specs.Held.{elements_in, is_draft}
use Rattle.handle_table.specs.Kept.{Kept, object_at, use_at, used}
use Rattle.handle_table.specs.Refuses.{EndsIn, HasAt, Passes, Refuses}
use Rattle.file_handles.specs.Setting.{are_small}
use Rattle.handle_table.specs.Standing.{HandlesStand}
use Rattle.handle_table.specs.declared.object.Entry.{Entry}
use Rattle.handle_table.specs.declared.object.Object.{Object}
use Rattle.handle_table.specs.declared.object.Use.{Use}
use Rattle.file_handles.proofs.Setting.ElementEntries.{finished_is, small_is}
use Rattle.file_handles.proofs.Setting.ElementSlots.{no_slot, no_use_found, slot_is, slot_number, slot_writes, there_held, there_object}

-- a refusal that is handed on
pub handed_on : {T : Type 0} (r : Result T Refusal) (f : Refusal) (P : Refusal → Type 0) → IsErrAnd r (λ e. e ≡ f) → P f → IfErr r P
handed_on (Ok x) f P is p = tt
handed_on (Err e) f P is p = subst P (sym is) p

-- a check that fails, and one that holds
pub fails : {F : Type 0} (b : Bool) (f : F) (rest : Option F) → b ≡ false → cond b rest (Some f) ≡ Some f
fails b f rest e = ap (λ c. cond c rest (Some f)) e

pub holds : {F : Type 0} (b : Bool) (f : F) (rest : Option F) → b ≡ true → cond b rest (Some f) ≡ rest
holds b f rest e = ap (λ c. cond c rest (Some f)) e

module _ (k : Kept) (s : ℕ) (small : s < SLOTS) where
  -- a slot that is not in use
  pub unset_no_slot : (r : Refusal) → used (use_at k s) ≡ Err r → (name : List ℕ) → Refuses k (UnsetElement s name) r
  unfolding checks
  unset_no_slot r is name m number proper stand =
      let parts = no_use_found (use_at k s) r is in
      fails (is_slot m s) NoSlot _ (no_slot k m number stand s small parts.0) ∙ ap Some (sym parts.1)

  pub set_no_slot : (r : Refusal) → used (use_at k s) ≡ Err r → (name value : List ℕ) → Refuses k (SetElement s name value) r
  unfolding checks
  set_no_slot r is name value m number proper stand =
      let parts = no_use_found (use_at k s) r is in
      fails (is_slot m s) NoSlot _ (no_slot k m number stand s small parts.0) ∙ ap Some (sym parts.1)

  pub element_no_slot : (r : Refusal) → used (use_at k s) ≡ Err r → (name : List ℕ) → Refuses k (ElementOf s name) r
  unfolding checks
  element_no_slot r is name m number proper stand =
      let parts = no_use_found (use_at k s) r is in
      fails (is_slot m s) NoSlot _ (no_slot k m number stand s small parts.0) ∙ ap Some (sym parts.1)

  -- whether a slot may change elements
  module _ (u : Use) (x : Object) (at : use_at k s ≡ Some u) (found : object_at k u.place ≡ Some x) (may : Bool) (may_is : (u.writes || not (is_draft x.entry)) ≡ may) where
    slot_may : (m : Machine) (number : ℕ → ℕ) → HandlesStand k m number → (is_writer m s || (object_of m s).finished) ≡ may
    slot_may m number stand =
        let o : MachineObject = object m (number u.place) in
        let done : (object_of m s).finished ≡ not (is_draft x.entry) =
        ap (λ i. (object m i).finished) (slot_number k m number stand s small u at) ∙ finished_is x.entry o (stand.objects u.place x found).as_held.held_entry in
        (λ i. slot_writes k m number stand s small u at i || done i) ∙ may_is

    pub unset_ends : (name : List ℕ) → EndsIn k (UnsetElement s name) (cond may None (Some NotWriter))
    unfolding checks
    unset_ends name m number proper stand =
        holds (is_slot m s) NoSlot _ (slot_is k m number stand s small u at) ∙ ap (λ b. cond b None (Some NotWriter)) (slot_may m number stand)

    pub set_ends : (name value : List ℕ) → may ≡ false → Refuses k (SetElement s name value) NotWriter
    unfolding checks
    set_ends name value no_may m number proper stand =
        holds (is_slot m s) NoSlot _ (slot_is k m number stand s small u at) ∙ fails (is_writer m s || (object_of m s).finished) NotWriter _ (slot_may m number stand ∙ no_may)

  -- what is checked after that
  pub set_rest : (name value other : List ℕ) → Passes k (UnsetElement s other) → (end : Option Refusal)
      → ((m : Machine) (number : ℕ → ℕ) → HandlesStand k m number → first_failing (good_element name value ∷ small_parts (with_value name value (object_of m s).version) ∷ []) ≡ end)
      → EndsIn k (SetElement s name value) end
  unfolding checks
  set_rest name value other passes end rest m number proper stand =
      let all = all_hold (checks m (UnsetElement s other)) (passes m number proper stand) in
      holds (is_slot m s) NoSlot _ all.0 ∙ holds (is_writer m s || (object_of m s).finished) NotWriter _ all.1.0 ∙ rest m number stand

  pub set_bad : (name value : List ℕ) → ((name : List ℕ) → Passes k (UnsetElement s name)) → (good_element name value).0 ≡ false → Refuses k (SetElement s name value) BadElement
  set_bad name value passes bad = set_rest name value name (passes name) (Some BadElement) (λ m number stand. fails (good_element name value).0 BadElement _ bad)

-- what an element may be called and say
pub empty_name : (name value : List ℕ) → (length name == 0) ≡ true → (good_element name value).0 ≡ false
empty_name name value e =
    let none = eqb-true (length name) 0 e in
    and_left (nat_lt 0 (length name) && not (has_zero name)) (not (has_zero value)) (and_left (nat_lt 0 (length name)) (not (has_zero name)) (le-ltb 0 (length name) (omega (arith, none))))

pub bad_name : (name value : List ℕ) → has_zero name ≡ true → (good_element name value).0 ≡ false
bad_name name value e = and_left (nat_lt 0 (length name) && not (has_zero name)) (not (has_zero value)) (and_right (nat_lt 0 (length name)) (not (has_zero name)) (ap not e))

pub bad_value : (name value : List ℕ) → has_zero value ≡ true → (good_element name value).0 ≡ false
bad_value name value e = and_right (nat_lt 0 (length name) && not (has_zero name)) (not (has_zero value)) (ap not e)

pub good : (name value : List ℕ) → (length name == 0) ≡ false → has_zero name ≡ false → has_zero value ≡ false → (good_element name value).0 ≡ true
good name value some name_good value_good =
    let other = eqb-false (length name) 0 some in
    and_from (nat_lt 0 (length name) && not (has_zero name)) (not (has_zero value))
    (and_from (nat_lt 0 (length name)) (not (has_zero name)) (lt-ltb 0 (length name) (omega (arith, other))) (ap not name_good)) (ap not value_good)

-- what holds of the object there
pub at_object : (o : Option Object) (x : Object) (P : Object → Type 0) → o ≡ Some x → IsSomeAnd o P → P x
at_object o x P e is = subst (λ y. IsSomeAnd y P) e is

pub the_object : (o : Option Object) (P : Object → Type 0) → IsSomeAnd o P → (x : Object) × ((o ≡ Some x) × P x)
the_object None P is = absurd is
the_object (Some x) P is = (x, (refl, is))

pub is_there : (o : Option Object) (P : Object → Type 0) → IsSomeAnd o P → IsSome o
is_there None P is = absurd is
is_there (Some x) P is = refl

-- what is known of it beside
pub both_right : (o : Option Object) (P Q : Object → Type 0) → IsSomeAnd o (λ x. P x × Q x) → IsSomeAnd o Q
both_right None P Q is = absurd is
both_right (Some x) P Q is = is.1

pub if_object : (o : Option Object) (x : Object) (P : Object → Type 0) → o ≡ Some x → IfSome o P → P x
if_object o x P e is = subst (λ y. IfSome y P) e is

pub some_object : (o : Option Object) (x : Object) (P : Object → Type 0) → o ≡ Some x → P x → IsSomeAnd o P
some_object o x P e is = subst (λ y. IsSomeAnd y P) (sym e) is

-- how the checks of a set end where the name and the value are good: by the size
pub set_ends_by : (k : Kept) (s : ℕ) → s < SLOTS → (name value : List ℕ) → ((other : List ℕ) → Passes k (UnsetElement s other)) → (length name == 0) ≡ false → has_zero name ≡ false → has_zero value ≡ false
    → (p : ℕ) (x : Object) → object_at k p ≡ Some x → IsSomeAnd (object_at k p) (HasAt k s p) → (es : List Element) → es ≡ elements_in x.entry
    → (fits : Bool) → fits ≡ are_small x.entry (with_element name value es) → EndsIn k (SetElement s name value) (cond fits None (Some TooLarge))
set_ends_by k s small name value passes some name_good value_good p x found there es same fits fits_is =
    let has = at_object (object_at k p) x (HasAt k s p) found there in
    set_rest k s small name value name (passes name) (cond fits None (Some TooLarge)) (λ m number stand.
    holds (good_element name value).0 BadElement _ (good name value some name_good value_good)
    ∙ ap (λ b. cond b None (Some TooLarge)) (sym (
    fits_is ∙ ap (λ es. are_small x.entry (with_element name value es)) same
    ∙ small_is x.entry (object m (number p)) name value (there_held k m number stand s small p x has).held_entry
    ∙ ap (λ (o : MachineObject). (small_parts (with_value name value o.version)).0) (sym (there_object k m number stand s small p x has)))))

-- an element that an entry has room for may be set
pub settable : (name value : List ℕ) (e : Entry) (es : List Element) → (length name == 0) ≡ false → has_zero name ≡ false → has_zero value ≡ false → are_small e (with_element name value es) ≡ true
    → set_fault name value es ≡ None
settable name value e es some name_good value_good small =
    let parts = and_parts (nat_lt 0 (length name) && not (has_zero name)) (not (has_zero value)) (good name value some name_good value_good) in
    holds (nat_lt 0 (length name) && not (has_zero name)) bad.BadName _ parts.0
    ∙ holds (not (has_zero value)) bad.BadBytes _ parts.1
    ∙ holds (nat_le (length (elements_bytes (with_element name value es))) ELEMENTS_MAX) bad.TooLarge None (and_parts (nat_le (length (elements_bytes (with_element name value es))) ELEMENTS_MAX) _ small).0

-- of any object
pub of_any : (o : Option Object) → IfSome o (λ x. Unit {0})
of_any None = tt
of_any (Some x) = tt
