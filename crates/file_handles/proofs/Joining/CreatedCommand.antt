-- What a `create` leaves at each exit.
use Rattle.std.proofs.Common.{◌≡◌, ◌⊎◌, ℕ, ◌<◌, List, [], ◌∷◌, length, Bool, true, false, not, Option, Some, None, Result, Ok, Err, is_ok, refl, sym, ap, subst, ◌∙◌, IsTrue}
use Rattle.std.specs.List.{Contains}
use Rattle.cache_base.specs.Bytes.{AreBytes}
use Rattle.cache_base.specs.Checks.{first_failing}
use Rattle.cache_base.specs.declared.limits.TheConstants.{SLOTS}
use Rattle.cache_base.specs.declared.name.Name.{Name}
use Rattle.cache_theory.specs.Checks.{checks}
use Rattle.cache_theory.specs.Command.Command.{Create}
use Rattle.cache_theory.specs.Command.Reply.{Done, Refused}
use Rattle.cache_theory.specs.Crash.{IsSafe}
use Rattle.cache_theory.specs.Machine.{Machine, is_slot}
use Rattle.cache_theory.specs.Marks.{Marks, begun, is_touched}
use Rattle.cache_theory.specs.Step.{doomed_under, effect, entered, fresh}
use Rattle.cache_theory.specs.declared.refusal.Refusal.{Refusal}
use Rattle.cache_theory.specs.declared.refusal.Refusal.TheVariants as refused
use Rattle.cache_theory.proofs.Changes.{may_create}
use Rattle.disk_theory.specs.declared.place.Place.TheVariants.{Doomed}
use Rattle.disk_theory.specs.Sound.{IsSound}
use Rattle.disk_theory.specs.State.{State, created}
use Rattle.entry_key.specs.Writing.{may_write}
use Rattle.entry_name.specs.EntryName.{file_name}
use Rattle.file_handles.specs.Cache.{cache_at}
use Rattle.file_handles.specs.Carries.{CarriesOutAt}
use Rattle.handle_table.specs.Aside.{numbers_in}
use Rattle.file_handles.specs.Dooming.{DoomsUnder}
use Rattle.handle_table.specs.Held.{IsHeldAs}
use Rattle.handle_table.specs.Joining.{AddsObject}
use Rattle.handle_table.specs.Kept.{Kept, use_at, used}
use Rattle.file_handles.specs.Stands.{KeepsWhere, RepresentsSome}
use Rattle.file_handles.specs.declared.fault.HandleFault.{HandleFault}
use Rattle.handle_table.specs.declared.object.Object.{Object}
use Rattle.handle_table.specs.declared.object.Use.{Use}
use Rattle.file_handles.proofs.Begun.{begun_in}
use Rattle.file_handles.proofs.Joining.CreatedIn.{created_in, made_safe}
use Rattle.file_handles.proofs.Dooming.DoomedCarried.{done_in, touched_first, touches_name}
use Rattle.file_handles.proofs.Setting.ElementSlots.{no_slot, slot_is}
use Rattle.file_handles.proofs.Histories.{history_of}
use Rattle.file_handles.proofs.Joining.JoinedObject.{MayAdd}
use Rattle.file_handles.proofs.Joining.JoinedOpen.{used_none}
use Rattle.file_handles.proofs.Refused.{refused_where}
use Rattle.file_handles.proofs.Where.{LeavesWhere, bare_in, carries_out_at}

-- The checks, with what they test.

checked : Bool → Bool → Option Refusal
checked free good = first_failing ((free, refused.SlotTaken) ∷ (good, refused.BadKey) ∷ [])

create_checks : (m : Machine) (s : ℕ) (key : List ℕ) → first_failing (checks m (Create s key)) ≡ checked (not (is_slot m s)) (may_write key)
unfolding checks checked
create_checks m s key = refl

used_some : (o : Option Use) → is_ok (used o) ≡ true → (u : Use) × (o ≡ Some u)
used_some None ok = absurd (let never : false ≡ true = ok in cc)
used_some (Some u) ok = (u, refl)

module _ (s : State) (k : Kept) (slot : ℕ) (key : List ℕ) (small : slot < SLOTS) where
  pub taken_leaves : (r : Result Use Refusal) → r ≡ used (use_at k slot) → is_ok r ≡ true → (now : ℕ) → CarriesOutAt now (Create slot key) (Some (Refused refused.SlotTaken)) (cache_at k s) (cache_at k s)
  unfolding checked
  taken_leaves r is ok now =
      let at = used_some (use_at k slot) (ap (λ o. is_ok o) (sym is) ∙ ok) in
      carries_out_at (λ b m w moment. refused_where s k (Create slot key) refused.SlotTaken
      (λ n number proper stand. create_checks n slot key ∙ ap (λ b. checked (not b) (may_write key)) (slot_is k n number stand slot small at.0 at.1)) b m w)

  pub bad_key_leaves : use_at k slot ≡ None → may_write key ≡ false → (now : ℕ) → CarriesOutAt now (Create slot key) (Some (Refused refused.BadKey)) (cache_at k s) (cache_at k s)
  unfolding checked
  bad_key_leaves unused bad now =
      carries_out_at (λ b m w moment. refused_where s k (Create slot key) refused.BadKey (λ n number proper stand. create_checks n slot key ∙ (λ i. checked (not (no_slot k n number stand slot small unused i)) (bad i))) b m w)

-- The checks hold.

pub record MayCreate (k : Kept) (slot : ℕ) (key : List ℕ) (name : Name) : Type 0 where
  pub small : slot < SLOTS
  pub unused : use_at k slot ≡ None
  pub good : may_write key ≡ true
  pub named : name.0 ≡ file_name key

pub may_create_by : (k : Kept) (slot : ℕ) (key : List ℕ) (name : Name) → slot < SLOTS → (r : Result Use Refusal) → r ≡ used (use_at k slot) → (free good : Bool) → free ≡ is_ok r → free ≡ false → good ≡ may_write key → good ≡ true
    → name.0 ≡ file_name key → MayCreate k slot key name
may_create_by k slot key name small r is free good ok unused writes fine named =
    record { small = small; unused = used_none (use_at k slot) r is (sym ok ∙ unused); good = sym writes ∙ fine; named = named }

module _ (s : State) (k : Kept) (slot : ℕ) (key : List ℕ) (name : Name) (may : MayCreate k slot key name) {b : Bool} (m : Machine) (w : Marks) (stand : KeepsWhere b (cache_at k s) (history_of m w)) where
  slot_free : is_slot m slot ≡ false
  slot_free = no_slot k m stand.number stand.stands.handles slot may.small may.unused

  passes : first_failing (checks m (Create slot key)) ≡ None
  unfolding checked
  passes = create_checks m slot key ∙ (λ i. checked (not (slot_free i)) (may.good i))

  touched : is_touched (begun m (Create slot key) w) name.0 ≡ true
  touched = touches_name m (Create slot key) w name.0 passes (ap (λ n. n ∷ []) (sym may.named))

  here : KeepsWhere b (cache_at k s) (history_of m (begun m (Create slot key) w))
  here = begun_in s k m (Create slot key) w stand

  -- what stood there could not be doomed
  pub doom_fails : (u : State) (after : Kept) (f : HandleFault) → DoomsUnder {T = Unit {0}} name.0 (Err f) (cache_at k s) (cache_at after u) → IsTrue b → IsSafe u (begun m (Create slot key) w)
  doom_fails u after f dooms = (dooms.leaves b (history_of m (begun m (Create slot key) w)) touched here).safe

  -- or is doomed
  pub doom_done : (u : State) (after : Kept) → DoomsUnder {T = Unit {0}} {E = HandleFault} name.0 (Ok tt) (cache_at k s) (cache_at after u)
      → KeepsWhere b (cache_at after u) (history_of (doomed_under m name.0) (begun m (Create slot key) w))
  doom_done u after dooms = (dooms.leaves b (history_of m (begun m (Create slot key) w)) touched here).next

  module _ (u t : State) (before : Kept) (d : ℕ) (sound : IsSound u) (stands : KeepsWhere b (cache_at before u) (history_of (doomed_under m name.0) (begun m (Create slot key) w))) where
    -- its file may be made
    pub draft_safe : (t ≡ created (Doomed d) u) ⊎ (t ≡ u) → IsTrue b → IsSafe t (begun m (Create slot key) w)
    draft_safe either on = made_safe u t d (begun m (Create slot key) w) sound either (stands.crash_kept on).safe

    -- and its object is added
    pub added_leaves : (after : Kept) (x : Object) → AreBytes key → t ≡ created (Doomed d) u → x.aside ≡ Some d → ¬ Contains (numbers_in before.objects) d → IsHeldAs x (fresh m.moment key) → AddsObject slot x true before after → slot < length before.slots
        → ((p : ℕ) → p < SLOTS → p < length before.objects) → LeavesWhere b (Create slot key) (history_of m w) (Some Done) (cache_at after t)
    unfolding effect
    added_leaves after x bytes is numbered free held adds within places =
        let v : Marks = begun m (Create slot key) w in
        let use_ : Use = adds.joins.use_ in
        let next : Machine = doomed_under m (file_name key) in
        let last : Machine = entered next slot true (fresh m.moment key) in
        let add : MayAdd before next slot true (fresh m.moment key) x adds.place use_ = record {
          enters = may_create m slot key stand.stands.proper may.small bytes (ap not slot_free) may.good;
          as_held = held;
          numbered = adds.numbered;
          free = adds.free;
          ranged = places adds.place adds.ranged;
          within = within;
          placed = adds.joins.placed;
          writing = adds.joins.writing;
        }
        in
        let stands_key : KeepsWhere b (cache_at before u) (history_of next v) = subst (λ n. KeepsWhere b (cache_at before u) (history_of (doomed_under m n) v)) may.named stands in
        let done = created_in u d sound before next v slot m.moment key x adds.place use_ add numbered free stands_key in
        let kept_so : KeepsWhere b (cache_at after (created (Doomed d) u)) (history_of last v) = subst (λ (a : Kept). KeepsWhere b (cache_at a (created (Doomed d) u)) (history_of last v)) (sym adds.joins.same) done in
        done_in t after (Create slot key) m w passes refl refl (subst (λ z. KeepsWhere b (cache_at after z) (history_of last v)) (sym is) kept_so)

-- the number is that of a machine, whatever the history
pub doom_numbered : (s u : State) (k after : Kept) (name : Name) → RepresentsSome (cache_at k s) → DoomsUnder {T = Unit {0}} {E = HandleFault} name.0 (Ok tt) (cache_at k s) (cache_at after u) → RepresentsSome (cache_at after u)
doom_numbered s u k after name (m, stands) dooms =
    let h = history_of m (record { marked = m; touched = name.0 ∷ []; since = []; in_place = [] }) in
    let next = (dooms.leaves false h (touched_first name.0 []) (bare_in {h = h} stands)).next in
    (doomed_under m name.0, (next.number, next.stands))
