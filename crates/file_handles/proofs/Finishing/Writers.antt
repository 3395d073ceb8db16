-- The checks of the commands of a writer, by what the handles have.
use Rattle.std.proofs.Common.{◌≡◌, ℕ, ◌+◌, ◌<◌, List, length, [], ◌∷◌, Bool, true, false, cond, not, Option, Some, None, Result, Ok, Err, refl, sym, ap, ◌∙◌}
use Rattle.std.specs.Prelude.{IsSomeAnd, nat_le}
use Rattle.std.proofs.lemmas.Bool.{cond-false, cond-true}
use Rattle.cache_base.specs.Checks.{first_failing}
use Rattle.cache_base.specs.Limits.{chunks}
use Rattle.cache_base.specs.declared.limits.TheConstants.{BLOCK_MAX, BODY_MAX, SLOTS}
use Rattle.cache_theory.specs.Checks.{Check, checks, room_for, slot_used, small_block, unfinished, with_parts, writer}
use Rattle.cache_theory.specs.Command.Command.{Append}
use Rattle.cache_theory.specs.Machine.{Machine, Object as MachineObject, is_slot, is_writer, object, object_of}
use Rattle.cache_theory.specs.declared.refusal.Refusal.{Refusal}
use Rattle.cache_theory.specs.declared.refusal.Refusal.TheVariants as refused
use Rattle.entry_file.specs.Held.{held}
use Rattle.entry_file.specs.NewEntry.{grown_len}
use Rattle.entry_file.proofs.Bodies.{grown}
use Rattle.entry_metadata.specs.Metadata.{block_length}
use Rattle.entry_parts.specs.Elements.{elements_bytes}
use Rattle.file_handles.specs.Finishing.{finish_command, finish_fault, size_fault}
use Rattle.file_handles.specs.Growing.{grow_fault}
use Rattle.handle_table.specs.Held.{IsEntryOf, is_draft}
use Rattle.handle_table.specs.Kept.{Kept, object_at, use_at, writing}
use Rattle.handle_table.specs.Refuses.{EndsIn, Refuses}
use Rattle.handle_table.specs.Standing.{HandlesStand}
use Rattle.handle_table.specs.declared.object.Entry.{Entry}
use Rattle.handle_table.specs.declared.object.Entry.TheVariants as entry
use Rattle.handle_table.specs.declared.object.Object.{Object}
use Rattle.handle_table.specs.declared.object.Parts.{Parts}
use Rattle.handle_table.specs.declared.object.Use.{Use}
use Rattle.file_handles.proofs.Setting.ElementEntries.{body_len_is, key_is}
use Rattle.file_handles.proofs.Setting.ElementSlots.{no_slot, slot_is, slot_number, slot_writes}

-- how a check by a result ends
abbrev pub ending : Result (Unit {0}) Refusal → Option Refusal
ending (Ok value) = None
ending (Err r) = Some r

-- whether a use that writes was found
pub writer_found : (o : Option Use) (u : Use) → writing o ≡ Ok u → (o ≡ Some u) × (u.writes ≡ true)
writer_found None u is = absurd (let never : ◌≡◌ {A = Result Use Refusal} (Err refused.NoSlot) (Ok u) = is in cc)
writer_found (Some v) u is = go v.writes refl is
  where
    go : (b : Bool) → v.writes ≡ b → cond b (Ok v) (Err refused.NotWriter) ≡ Ok u → (Some v ≡ Some u) × (u.writes ≡ true)
    go true e is = let same : ◌≡◌ {A = Result Use Refusal} (Ok v) (Ok u) = is in let one : v ≡ u = cc in (ap Some one, ap (λ (w : Use). w.writes) (sym one) ∙ e)
    go false e is = absurd (let never : ◌≡◌ {A = Result Use Refusal} (Err refused.NotWriter) (Ok u) = is in cc)

-- whether a body may grow
grow_ends : (x : Entry) (o : MachineObject) (more : ℕ) → IsEntryOf x o
    → cond (not o.finished) (cond (nat_le (length o.version.body + more) BODY_MAX) None (Some refused.TooLarge)) (Some refused.Finished) ≡ ending (grow_fault x more)
grow_ends (entry.Finished meta) o more is = ap (λ b. cond (not b) (cond (nat_le (length o.version.body + more) BODY_MAX) None (Some refused.TooLarge)) (Some refused.Finished)) is.0
grow_ends (entry.Draft d) o more is =
    ap (λ b. cond (not b) (cond (nat_le (length o.version.body + more) BODY_MAX) None (Some refused.TooLarge)) (Some refused.Finished)) is.0
    ∙ ap (λ n. cond (nat_le (n + more) BODY_MAX) None (Some refused.TooLarge)) (sym (grown (held d.body) o.version.body is.1.body))
    ∙ go (nat_le (grown_len (held d.body) + more) BODY_MAX)
  where
    go : (b : Bool) → cond b None (Some refused.TooLarge) ≡ ending (cond b (Ok tt) (Err refused.TooLarge))
    go true = refl
    go false = refl

-- whether an entry may be finished, and whether its block is small with the parts that are given
finish_ends_by : (x : Entry) (o : MachineObject) (size : Option Refusal) → IsEntryOf x o → cond (not o.finished) size (Some refused.Finished) ≡ cond (is_draft x) size (Some refused.Finished)
finish_ends_by (entry.Finished meta) o size is = ap (λ b. cond (not b) size (Some refused.Finished)) is.0
finish_ends_by (entry.Draft d) o size is = ap (λ b. cond (not b) size (Some refused.Finished)) is.0

size_ends_by : (x : Entry) (o : MachineObject) (parts : Parts) → IsEntryOf x o
    → cond (small_block (with_parts parts.header parts.elements o.version)).0 None (Some refused.TooLarge) ≡ size_fault x (Some parts)
size_ends_by x o parts is = λ i.
    cond (nat_le (block_length (chunks (sym (body_len_is x o is) i)) (length (sym (key_is x o is) i)) (length (elements_bytes parts.elements))) BLOCK_MAX) None (Some refused.TooLarge)

-- an entry that may be finished is a draft
pub may_is_draft : (x : Entry) (given : Option Parts) → finish_fault x given ≡ None → is_draft x ≡ true
may_is_draft (entry.Draft d) given may = refl
may_is_draft (entry.Finished meta) given may = absurd (cc)

-- and a draft may be finished with its own parts
pub draft_may : (o : Option Object) → IsSomeAnd o (λ x. is_draft x.entry ≡ true) → IsSomeAnd o (λ x. finish_fault x.entry None ≡ None)
draft_may None draft = draft
draft_may (Some x) draft = ap (λ b. cond b None (Some refused.Finished)) draft

module _ (k : Kept) (s : ℕ) (small : s < SLOTS) where
  -- no slot that writes
  pub no_writer : (r : Refusal) → writing (use_at k s) ≡ Err r → (m : Machine) (number : ℕ → ℕ) → HandlesStand k m number → (rest : List Check) → first_failing (slot_used m s ∷ writer m s ∷ rest) ≡ Some r
  no_writer r is m number stand rest = go (use_at k s) refl is
    where
      unused : use_at k s ≡ None → refused.NoSlot ≡ r → first_failing (slot_used m s ∷ writer m s ∷ rest) ≡ Some r
      unused none same = cond-false (is_slot m s) _ (Some refused.NoSlot) (no_slot k m number stand s small none) ∙ ap Some same

      reads : (u : Use) → use_at k s ≡ Some u → u.writes ≡ false → refused.NotWriter ≡ r → first_failing (slot_used m s ∷ writer m s ∷ rest) ≡ Some r
      reads u at only same =
          cond-true (is_slot m s) _ (Some refused.NoSlot) (slot_is k m number stand s small u at)
          ∙ cond-false (is_writer m s) _ (Some refused.NotWriter) (slot_writes k m number stand s small u at ∙ only) ∙ ap Some same

      by_use : (u : Use) → use_at k s ≡ Some u → (b : Bool) → u.writes ≡ b → cond b (Ok u) (Err refused.NotWriter) ≡ Err r → first_failing (slot_used m s ∷ writer m s ∷ rest) ≡ Some r
      by_use u at true e is = absurd (let never : ◌≡◌ {A = Result Use Refusal} (Ok u) (Err r) = is in cc)
      by_use u at false e is = reads u at e (let same : ◌≡◌ {A = Result Use Refusal} (Err refused.NotWriter) (Err r) = is in cc)

      go : (o : Option Use) → use_at k s ≡ o → writing o ≡ Err r → first_failing (slot_used m s ∷ writer m s ∷ rest) ≡ Some r
      go None at is = unused at (let same : ◌≡◌ {A = Result Use Refusal} (Err refused.NoSlot) (Err r) = is in cc)
      go (Some u) at is = by_use u at u.writes refl is

  pub append_no_writer : (r : Refusal) → writing (use_at k s) ≡ Err r → (bytes : List ℕ) → Refuses k (Append s bytes) r
  unfolding checks
  append_no_writer r is bytes m number proper stand = no_writer r is m number stand (unfinished m s ∷ room_for m s (length bytes) ∷ [])

  pub finish_no_writer : (r : Refusal) → writing (use_at k s) ≡ Err r → (given : Option Parts) → Refuses k (finish_command given s) r
  unfolding checks
  finish_no_writer r is None m number proper stand = no_writer r is m number stand (unfinished m s ∷ [])
  finish_no_writer r is (Some parts) m number proper stand =
      no_writer r is m number stand (unfinished m s ∷ small_block (with_parts parts.header parts.elements (object_of m s).version) ∷ [])

  module _ (u : Use) (x : Object) (is : writing (use_at k s) ≡ Ok u) (found : object_at k u.place ≡ Some x) where
    pub is_writing : (m : Machine) (number : ℕ → ℕ) → HandlesStand k m number → (rest : List Check) → first_failing (slot_used m s ∷ writer m s ∷ rest) ≡ first_failing rest
    is_writing m number stand rest =
        let parts = writer_found (use_at k s) u is in
        cond-true (is_slot m s) _ (Some refused.NoSlot) (slot_is k m number stand s small u parts.0)
        ∙ cond-true (is_writer m s) _ (Some refused.NotWriter) (slot_writes k m number stand s small u parts.0 ∙ parts.1)

    pub object_is : (m : Machine) (number : ℕ → ℕ) → HandlesStand k m number → object_of m s ≡ object m (number u.place)
    object_is m number stand = ap (object m) (slot_number k m number stand s small u (writer_found (use_at k s) u is).0)

    pub append_ends : (bytes : List ℕ) (more : ℕ) → length bytes ≡ more → EndsIn k (Append s bytes) (ending (grow_fault x.entry more))
    unfolding checks
    append_ends bytes more long m number proper stand =
        is_writing m number stand (unfinished m s ∷ room_for m s (length bytes) ∷ [])
        ∙ ap (λ (o : MachineObject). cond (not o.finished) (cond (nat_le (length o.version.body + length bytes) BODY_MAX) None (Some refused.TooLarge)) (Some refused.Finished)) (object_is m number stand)
        ∙ grow_ends x.entry (object m (number u.place)) (length bytes) (stand.objects u.place x found).as_held.held_entry
        ∙ ap (λ n. ending (grow_fault x.entry n)) long

    pub finish_ends : (given : Option Parts) → EndsIn k (finish_command given s) (finish_fault x.entry given)
    unfolding checks
    finish_ends None m number proper stand =
        is_writing m number stand (unfinished m s ∷ [])
        ∙ ap (λ (o : MachineObject). cond (not o.finished) None (Some refused.Finished)) (object_is m number stand)
        ∙ finish_ends_by x.entry (object m (number u.place)) None (stand.objects u.place x found).as_held.held_entry
    finish_ends (Some parts) m number proper stand =
        let held = (stand.objects u.place x found).as_held.held_entry in
        is_writing m number stand (unfinished m s ∷ small_block (with_parts parts.header parts.elements (object_of m s).version) ∷ [])
        ∙ ap (λ (o : MachineObject). cond (not o.finished) (cond (small_block (with_parts parts.header parts.elements o.version)).0 None (Some refused.TooLarge)) (Some refused.Finished)) (object_is m number stand)
        ∙ ap (λ size. cond (not (object m (number u.place)).finished) size (Some refused.Finished)) (size_ends_by x.entry (object m (number u.place)) parts held)
        ∙ finish_ends_by x.entry (object m (number u.place)) (size_fault x.entry (Some parts)) held
