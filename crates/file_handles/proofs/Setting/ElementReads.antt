-- Commands that pass, and change nothing.
use Rattle.std.proofs.Common.{◌≡◌, ℕ, ◌<◌, List, true, false, cond, Option, Some, None, is_some, refl, sym, ap, subst, ◌∙◌}
use Rattle.std.specs.Prelude.{is_none, option_map}
use Rattle.cache_base.specs.declared.limits.TheConstants.{SLOTS}
use Rattle.cache_theory.specs.Checks.{checks}
use Rattle.cache_theory.specs.Command.{Command, Reply}
use Rattle.cache_theory.specs.Command.Command.{ElementOf, UnsetElement}
use Rattle.cache_theory.specs.Command.Reply.{Done, NoneThere}
use Rattle.cache_theory.specs.Machine.{Machine, Object as MachineObject, object, object_of}
use Rattle.cache_theory.specs.Marks.{Marks, acked, begun}
use Rattle.cache_theory.specs.Step.{Answer, answer, changed, effect, element_reply, step, stepped}
use Rattle.cache_theory.specs.declared.refusal.Refusal.TheVariants.{NoSlot}
use Rattle.disk_theory.specs.State.{State}
use Rattle.entry_parts.specs.Elements.{element}
use Rattle.entry_parts.specs.Setting.{without_element}
use Rattle.file_handles.specs.Cache.{cache_at}
use Rattle.file_handles.specs.Carries.{CarriesOut}
use Rattle.handle_table.specs.Held.{elements_in}
use Rattle.handle_table.specs.Kept.{Kept}
use Rattle.handle_table.specs.Refuses.{HasAt, Passes}
use Rattle.handle_table.specs.Standing.{HandlesStand}
use Rattle.file_handles.specs.Stands.{KeepsWhere}
use Rattle.handle_table.specs.declared.object.Object.{Object}
use Rattle.file_handles.proofs.Begun.{begun_in}
use Rattle.file_handles.proofs.Setting.ElementChecks.{holds}
use Rattle.file_handles.proofs.Setting.ElementEntries.{elements_are}
use Rattle.file_handles.proofs.Setting.ElementSlots.{there_held, there_is_slot, there_object}
use Rattle.file_handles.proofs.Histories.{history_of}
use Rattle.file_handles.proofs.Where.{CarriesOutWhere, carries_out}

-- a command that passes and answers from the machine as it is
quiet_where : (s : State) (k : Kept) (c : Command) (reply : Reply) → Passes k c → ((m : Machine) (w : Marks) → acked m c w ≡ begun m c w)
    → ((m : Machine) (number : ℕ → ℕ) → HandlesStand k m number → effect m c ≡ answer m reply) → CarriesOutWhere c (Some reply) (cache_at k s) (cache_at k s)
quiet_where s k c reply passes acked_is effect_is b m w is =
    let begun_is = begun_in s k m c w is in
    let step_is : step m c ≡ answer m reply = ap (stepped m c) (passes m is.number is.stands.proper is.stands.handles) ∙ effect_is m is.number is.stands.handles in
    record {
      safe = λ on. (begun_is.crash_kept on).safe;
      replies = ap (λ (a : Answer). a.reply) (sym step_is);
      next = subst (λ (v : Marks). KeepsWhere b (cache_at k s) (history_of (step m c).next v)) (sym (acked_is m w)) (subst (λ (n : Machine). KeepsWhere b (cache_at k s) (history_of n (begun m c w))) (ap (λ (a : Answer). a.next) (sym step_is)) begun_is);
    }

pub quiet_leaves : (s : State) (k : Kept) (c : Command) (reply : Reply) → Passes k c → ((m : Machine) (w : Marks) → acked m c w ≡ begun m c w)
    → ((m : Machine) (number : ℕ → ℕ) → HandlesStand k m number → effect m c ≡ answer m reply) → CarriesOut c (Some reply) (cache_at k s) (cache_at k s)
quiet_leaves s k c reply passes acked_is effect_is = carries_out (quiet_where s k c reply passes acked_is effect_is)

-- the elements of a slot's object
pub there_elements : (k : Kept) (slot : ℕ) → slot < SLOTS → (p : ℕ) (x : Object) → HasAt k slot p x → (m : Machine) (number : ℕ → ℕ) → HandlesStand k m number → (object_of m slot).version.elements ≡ elements_in x.entry
there_elements k slot small p x has m number stand =
    ap (λ (o : MachineObject). o.version.elements) (there_object k m number stand slot small p x has)
    ∙ sym (elements_are x.entry (object m (number p)) (there_held k m number stand slot small p x has).held_entry)

module _ (s : State) (k : Kept) (slot : ℕ) (small : slot < SLOTS) (p : ℕ) (x : Object) (has : HasAt k slot p x) (name : List ℕ) where
  element_passes : Passes k (ElementOf slot name)
  unfolding checks
  element_passes m number proper stand = holds _ NoSlot _ (there_is_slot k m number stand slot small p x has)

  -- an element is read
  pub element_leaves : (value : Option (List ℕ)) → value ≡ element name (elements_in x.entry) → CarriesOut (ElementOf slot name) (Some (element_reply value)) (cache_at k s) (cache_at k s)
  unfolding effect
  element_leaves value is =
      quiet_leaves s k (ElementOf slot name) (element_reply value) element_passes (λ m w. refl)
      (λ m number stand. ap (λ v. answer m (element_reply v)) (ap (element name) (there_elements k slot small p x has m number stand) ∙ sym is))

  -- one is not there
  pub unset_none_leaves : Passes k (UnsetElement slot name) → element name (elements_in x.entry) ≡ None → CarriesOut (UnsetElement slot name) (Some NoneThere) (cache_at k s) (cache_at k s)
  unfolding effect
  unset_none_leaves passes none =
      quiet_leaves s k (UnsetElement slot name) NoneThere passes (λ m w. refl)
      (λ m number stand. ap (λ (o : Option (List ℕ)). cond (is_none o) (answer m NoneThere) (answer (changed m slot (λ v. record v { elements = without_element name v.elements })) Done))
      (ap (element name) (there_elements k slot small p x has m number stand) ∙ none))

-- what was looked for
pub mapped_none : {A B : Type 0} (f : A → B) (o : Option A) (r : Option B) → option_map f o ≡ r → is_some o ≡ false → r ≡ None
mapped_none f None r is none = sym is
mapped_none f (Some a) r is none = absurd (cc)

pub mapped_some : {A B : Type 0} (f : A → B) (o : Option A) (r : Option B) → option_map f o ≡ r → is_some o ≡ true → (b : B) × (r ≡ Some b)
mapped_some f None r is some = absurd (cc)
mapped_some f (Some a) r is some = (f a, sym is)
