-- What an index learns of a command, by the object of the slot that is held.
use Rattle.std.proofs.Common.{◌≡◌, ℕ, ◌<◌, List, ◌++◌, length, length-append, Bool, true, false, not, ◌&&◌, Option, Some, None, is_some, refl, sym, ap, subst, ◌∙◌, arith}
use Rattle.std.specs.Prelude.{if◌then◌else◌}
use Rattle.std.proofs.lemmas.Bool.{and_parts, not-true}
use Rattle.cache_base.specs.Bytes.{be32}
use Rattle.cache_base.specs.declared.limits.TheConstants.{SLOTS}
use Rattle.cache_base.specs.declared.name.Name.{Name}
use Rattle.cache_theory.specs.Command.{Command}
use Rattle.cache_theory.specs.Command.Command.{Close}
use Rattle.cache_theory.specs.Machine.{Machine, Object as MachineObject, is_writer, number_of, object, object_of}
use Rattle.cache_theory.specs.Marks.{Marks, rewritten}
use Rattle.cache_theory.specs.Proper.{IsObject, IsProper}
use Rattle.cache_theory.specs.Step.{Answer, finished_by, step, stepped, stored}
use Rattle.cache_theory.proofs.Changes.{object_is}
use Rattle.cache_theory.proofs.ObjectLaws.Objects.{nth, nth-set_same}
use Rattle.cache_theory.proofs.Versions.{object_finished}
use Rattle.entry_file.specs.EntryFile.{Fits, file_meta}
use Rattle.entry_file.specs.Version.{IsVersion, Version, file_of, version_meta}
use Rattle.entry_file.proofs.EntryLaws.{fits-Fits, fits_meta, is_file_of, joined_file}
use Rattle.entry_metadata.specs.Metadata.{block_bytes}
use Rattle.entry_name.specs.EntryName.{file_name}
use Rattle.entry_parts.specs.Elements.{element}
use Rattle.index_record.specs.Filling.{record_of_meta}
use Rattle.index_theory.specs.Scan.{record_of}
use Rattle.file_handles.specs.Changes.{completed}
use Rattle.file_handles.specs.Closing.{is_some_draft}
use Rattle.file_handles.specs.Effects.{HasEffect, HasEffectAt, IsLearntOf, file_len, learnt, learnt_at, learnt_of, learnt_of_held, learnt_under, name_of, object_name}
use Rattle.handle_table.specs.Held.{IsHeldAs, elements_in, object_with}
use Rattle.handle_table.specs.Kept.{Kept, object_at, use_at}
use Rattle.handle_table.specs.Refuses.{HasAt}
use Rattle.handle_table.specs.Standing.{HandlesStand}
use Rattle.file_handles.specs.declared.fault.Effect.{Effect}
use Rattle.file_handles.specs.declared.fault.Effect.TheVariants as effect
use Rattle.handle_table.specs.declared.object.Entry.{Entry}
use Rattle.handle_table.specs.declared.object.Entry.TheVariants as entry
use Rattle.handle_table.specs.declared.object.Object.{Object}
use Rattle.handle_table.specs.declared.object.Use.{Use}
use Rattle.file_handles.proofs.Carried.{MakesChangeAt}
use Rattle.file_handles.proofs.Closing.ClosedSlot.{close_step, finishes, has_slot, numbered, object_there}
use Rattle.file_handles.proofs.Setting.ElementChecks.{if_object}
use Rattle.file_handles.proofs.Setting.ElementReads.{there_elements}
use Rattle.file_handles.proofs.Setting.ElementSlots.{there_held, there_number, there_object}
use Rattle.handle_table.proofs.Released.{released_objects}

-- The record of the file of a version.

module _ (v : Version) where
  file_length : length (file_of v) ≡ file_len (version_meta v)
  unfolding file_of
  file_length =
      let whole = length-append v.body (block_bytes (version_meta v) ++ be32 (length v.body)) in
      let tail = length-append (block_bytes (version_meta v)) (be32 (length v.body)) in
      omega (arith, whole, tail)

  joined : IsVersion v → Fits (file_name v.key) (file_of v) (version_meta v)
  joined is = joined_file v (file_of v) is (is_file_of v)

  record_is : IsVersion v → record_of (name_of v.key) (file_of v) ≡ Some (record_of_meta (name_of v.key) (version_meta v) (file_len (version_meta v)))
  record_is is =
      ap (λ (b : Bool). if b then Some (record_of_meta (name_of v.key) (file_meta (file_of v)) (length (file_of v))) else None) (fits-Fits (file_name v.key) (file_of v) (version_meta v) (joined is))
      ∙ (λ i. Some (record_of_meta (name_of v.key) (fits_meta (file_name v.key) (file_of v) (version_meta v) (joined is) i) (file_length i)))

-- What is learnt of an object, by what is held of it.

learnt_if : MachineObject → Bool → Effect
learnt_if o b = if b then learnt_under (object_name o) (record_of (object_name o) (file_of o.version)) else effect.Same

pub and_false : (b : Bool) → (b && false) ≡ false
and_false true = refl
and_false false = refl

pub and_true : (b : Bool) → (b && true) ≡ b
and_true true = refl
and_true false = refl

pub learnt_unfinished : (o : MachineObject) → o.finished ≡ false → learnt_of o ≡ effect.Same
unfolding learnt_if
learnt_unfinished o un = ap (λ b. learnt_if o (b && not o.doomed)) un

pub learnt_doomed : (o : MachineObject) → o.doomed ≡ true → learnt_of o ≡ effect.Same
unfolding learnt_if
learnt_doomed o doomed = ap (λ b. learnt_if o (o.finished && not b)) doomed ∙ ap (learnt_if o) (and_false o.finished)

pub learnt_whole : (o : MachineObject) → o.finished ≡ true → o.doomed ≡ false → IsVersion o.version
    → learnt_of o ≡ effect.Wrote (record_of_meta (object_name o) (version_meta o.version) (file_len (version_meta o.version)))
unfolding learnt_if
learnt_whole o done undoomed is = (λ i. learnt_if o (done i && not (undoomed i))) ∙ ap (learnt_under (object_name o)) (record_is o.version is)

pub held_is_learnt : (n : ℕ) (name : Name) (doomed : Bool) (aside : Option ℕ) (e : Entry) (o : MachineObject) → IsHeldAs (object_with n name doomed aside e) o → IsObject o → learnt_of_held name doomed e ≡ learnt_of o
held_is_learnt n name true aside e o held is = sym (learnt_doomed o (sym held.doomed))
held_is_learnt n name false aside (entry.Draft d) o held is = sym (learnt_unfinished o held.held_entry.0)
held_is_learnt n name false aside (entry.Finished meta) o held is =
    (λ i. effect.Wrote (record_of_meta (record { 0 = held.named i }) (held.held_entry.1 i) (file_len (held.held_entry.1 i))))
    ∙ sym (learnt_whole o held.held_entry.0 (sym held.doomed) (is.version held.held_entry.0))

-- What is learnt of a number whose object is this one, where that is finished.
pub at_finished : (m : Machine) (i : ℕ) (o : MachineObject) → object m i ≡ o → learnt_at m (if o.finished then Some i else None) ≡ learnt_of o
at_finished m i o there = go o.finished refl
  where
    go : (b : Bool) → o.finished ≡ b → learnt_at m (if b then Some i else None) ≡ learnt_of o
    go true e = ap learnt_of there
    go false e = sym (learnt_unfinished o e)

-- The effect of a command that changes the object of a slot.

module _ (At : Machine → Type 0) {Out : Marks → ℕ → MachineObject → Type 0} (k : Kept) (c : Command) (slot : ℕ) (small : slot < SLOTS) (p : ℕ) (x : Object) (has : HasAt k slot p x) (change : MachineObject → MachineObject) (Writes : MachineObject → Type 0)
    (makes : MakesChangeAt At Out k c slot change Writes) where
  effect_where : (e : Effect) → ((m : Machine) → learnt m c ≡ learnt_at (step m c).next (rewritten m c))
      → ((m : Machine) (number : ℕ → ℕ) → HandlesStand k m number → rewritten m c ≡ (if (change (object_of m slot)).finished then Some (number_of m slot) else None))
      → IsLearntOf change (object_at k p) e → (m : Machine) (number : ℕ → ℕ) → At m → IsProper m → HandlesStand k m number → e ≡ learnt m c
  effect_where e by_step writes is m number at proper stand =
      let fine = makes.passes m number proper stand at in
      let i : ℕ = number_of m slot in
      let o : MachineObject = change (object_of m slot) in
      let held : IsHeldAs x (object_of m slot) = subst (λ (o : MachineObject). IsHeldAs x o) (sym (there_object k m number stand slot small p x has)) (there_held k m number stand slot small p x has) in
      let within : i < length m.objects = subst (λ j. j < length m.objects) (sym (there_number k m number stand slot small p x has)) (stand.objects p x has.found).in_use.number in
      let there : object (step m c).next i ≡ o =
      ap (λ (a : Answer). object a.next i) (ap (stepped m c) fine ∙ makes.effects m number stand at fine)
      ∙ nth-set_same m.objects i i o within refl
      in
      if_object (object_at k p) x (λ x. (o : MachineObject) → IsHeldAs x o → IsObject (change o) → e ≡ learnt_of (change o)) has.found is (object_of m slot) held (makes.objects m proper fine)
      ∙ sym (by_step m ∙ ap (learnt_at (step m c).next) (writes m number stand) ∙ at_finished (step m c).next i o there)

-- in every machine, and in those of a moment
pub change_effect : {Out : Marks → ℕ → MachineObject → Type 0} (k : Kept) (c : Command) (slot : ℕ) → slot < SLOTS → (p : ℕ) (x : Object) → HasAt k slot p x → (change : MachineObject → MachineObject) (Writes : MachineObject → Type 0)
    → MakesChangeAt (λ m. Unit {0}) Out k c slot change Writes → (e : Effect) → ((m : Machine) → learnt m c ≡ learnt_at (step m c).next (rewritten m c))
    → ((m : Machine) (number : ℕ → ℕ) → HandlesStand k m number → rewritten m c ≡ (if (change (object_of m slot)).finished then Some (number_of m slot) else None))
    → IsLearntOf change (object_at k p) e → HasEffect k c e
change_effect k c slot small p x has change Writes makes e by_step writes is m number proper stand =
    effect_where (λ m. Unit {0}) k c slot small p x has change Writes makes e by_step writes is m number tt proper stand

pub change_effect_at : {Out : Marks → ℕ → MachineObject → Type 0} (now : ℕ) (k : Kept) (c : Command) (slot : ℕ) → slot < SLOTS → (p : ℕ) (x : Object) → HasAt k slot p x → (change : MachineObject → MachineObject) (Writes : MachineObject → Type 0)
    → MakesChangeAt (λ m. m.moment ≡ now) Out k c slot change Writes → (e : Effect) → ((m : Machine) → learnt m c ≡ learnt_at (step m c).next (rewritten m c))
    → ((m : Machine) (number : ℕ → ℕ) → HandlesStand k m number → rewritten m c ≡ (if (change (object_of m slot)).finished then Some (number_of m slot) else None))
    → IsLearntOf change (object_at k p) e → HasEffectAt now k c e
change_effect_at now k c slot small p x has change Writes makes = effect_where (λ m. m.moment ≡ now) k c slot small p x has change Writes makes

-- The file of an object is rewritten when an element is removed that is there.
pub unsets_rewrite : (k : Kept) (slot : ℕ) → slot < SLOTS → (p : ℕ) (x : Object) → HasAt k slot p x → (name value : List ℕ) → element name (elements_in x.entry) ≡ Some value
    → (m : Machine) (number : ℕ → ℕ) → HandlesStand k m number
    → (if (object_of m slot).finished && is_some (element name (object_of m slot).version.elements) then Some (number_of m slot) else None) ≡ (if (object_of m slot).finished then Some (number_of m slot) else None)
unsets_rewrite k slot small p x has name value some m number stand =
    ap (λ es. if (object_of m slot).finished && is_some (element name es) then Some (number_of m slot) else None) (there_elements k slot small p x has m number stand)
    ∙ ap (λ o. if (object_of m slot).finished && is_some o then Some (number_of m slot) else None) some
    ∙ ap (λ (b : Bool). if b then Some (number_of m slot) else None) (and_true (object_of m slot).finished)

-- The effect of giving up a slot, which finishes the object that the slot writes.

module _ (k : Kept) (slot : ℕ) (small : slot < SLOTS) (u : Use) (at : use_at k slot ≡ Some u) where
  rewrites : (m : Machine) (number : ℕ → ℕ) → HandlesStand k m number
      → rewritten m (Close slot) ≡ (if u.writes && is_some_draft (object_at k u.place) then Some (number_of m slot) else None)
  rewrites m number stand = ap (λ (b : Bool). if b then Some (number_of m slot) else None) (finishes k slot small u at m number stand)

  pub kept_effect : (u.writes && is_some_draft (object_at k u.place)) ≡ false → HasEffect k (Close slot) effect.Same
  kept_effect not_finishes m number proper stand =
      sym (ap (learnt_at (step m (Close slot)).next) (rewrites m number stand ∙ ap (λ (b : Bool). if b then Some (number_of m slot) else None) not_finishes))

  pub finished_effect : (u.writes && is_some_draft (object_at k u.place)) ≡ true → (e : Effect) → IsLearntOf completed (object_at k u.place) e → HasEffect k (Close slot) e
  finished_effect to_finish e is m number proper stand =
      let i : ℕ = number_of m slot in
      let o : MachineObject = object_of m slot in
      let x = object_there k slot small u at m number stand in
      let writes : (is_writer m slot && not o.finished) ≡ true = finishes k slot small u at m number stand ∙ to_finish in
      let un : o.finished ≡ false = not-true o.finished (and_parts (is_writer m slot) (not o.finished) writes).1 in
      let here : i ≡ number u.place = numbered k slot small u at m number stand in
      let held : IsHeldAs x.0 o = subst (λ j. IsHeldAs x.0 (object m j)) (sym here) (stand.objects u.place x.0 x.1).as_held in
      let within : i < length m.objects = subst (λ j. j < length m.objects) (sym here) (stand.objects u.place x.0 x.1).in_use.number in
      let new : IsObject (completed o) = object_finished o un (object_is m slot proper (has_slot k slot small u at m number stand)) in
      let there : object (step m (Close slot)).next i ≡ completed o =
      ap (λ (a : Answer). object a.next i) (close_step k slot small u at m number stand)
      ∙ ap (λ objects. nth objects i) (released_objects (finished_by m slot) slot)
      ∙ ap (λ (b : Bool). object (if b then stored m i (completed o) else m) i) writes
      ∙ nth-set_same m.objects i i (completed o) within refl
      in
      if_object (object_at k u.place) x.0 (λ x. (o : MachineObject) → IsHeldAs x o → IsObject (completed o) → e ≡ learnt_of (completed o)) x.1 is o held new
      ∙ sym (
      ap (learnt_at (step m (Close slot)).next) (rewrites m number stand ∙ ap (λ (b : Bool). if b then Some i else None) to_finish)
      ∙ ap learnt_of there)
