-- A command on entries changes one name at most.
use Rattle.std.proofs.Common.{◌≡◌, ℕ, ◌<◌, List, ◌++◌, length, Bool, true, false, cond, not, ◌&&◌, ◌||◌, Option, Some, None, refl, sym, ap, subst, ◌∙◌}
use Rattle.std.specs.Prelude.{is_none, is_some, option_and_then, slice_set}
use Rattle.std.specs.Str.{bytes_eq}
use Rattle.std.proofs.lemmas.Bool.{cond_both, not-true}
use Rattle.std.proofs.lemmas.Slice.Eq.{bytes_eq-Decides}
use Rattle.std.proofs.lemmas.Map.Text.{is_eq-slice_cmp}
use Rattle.cache_base.proofs.CheckLaws.{AllHold, all_hold}
use Rattle.cache_theory.specs.Checks.{checks, with_alt_data, with_value}
use Rattle.cache_theory.specs.Command.{Command}
use Rattle.cache_theory.specs.Command.Command.{Create, OpenKey, Append, Finish, SetElement, UnsetElement, UseEntry, Pin, Unpin, PutAlt, Close, Doom, ListRecords, ListGiven, Evict, EvictNames, ClearOrigin, ClearNames, Resume, ResumeNames, StepUpdate, Verify, VerifyRecords, Rebuild, FinishAs, Dump}
use Rattle.cache_theory.specs.Command.Reply.{Done, NoneThere}
use Rattle.cache_theory.specs.Laws.{EntriesHaveRecords}
use Rattle.cache_theory.specs.Machine.{Machine, Object, has_slots, is_writer, number_of, object, object_of, on_shelf, used_by}
use Rattle.cache_theory.specs.Proper.{IsProper}
use Rattle.cache_theory.specs.Refiled.{EntriesAreRefiled, IsOfEntries, IsRefiled, Refiled, refiled, refiled_by}
use Rattle.cache_theory.specs.Step.{answer, changed, effect, finished_by, fits_there, joined, released, stepped, stored, used, with_pin, with_slot, without, finished_as}
use Rattle.cache_theory.specs.Table.{Table, get, insert, remove}
use Rattle.cache_theory.proofs.Names.{get-remove_other, get-remove_same, same_bytes}
use Rattle.cache_theory.proofs.ObjectLaws.Objects.{nth, nth-set_same}
use Rattle.cache_theory.proofs.TableLaws.{get-insert}
use Rattle.cache_theory.proofs.ObjectLaws.Users.{slot_in_use}
use Rattle.entry_file.specs.EntryFile.{Reading, file_meta, fits}
use Rattle.entry_file.specs.EntryFile.Reading.{Whole, Damaged, Nothing}
use Rattle.entry_file.specs.Version.{Version, file_of}
use Rattle.entry_name.specs.EntryName.{file_name}
use Rattle.entry_parts.specs.Elements.{element}
use Rattle.entry_parts.specs.Setting.{without_element}
use Rattle.index_record.specs.Filling.{record_of_meta}
use Rattle.index_theory.specs.Scan.{record_of}

inserted_or : {X : Type 0} (t : Table X) (n : List ℕ) (x : X) (q : List ℕ)
    → get (insert t n x) q ≡ cond (bytes_eq q n) (Some x) (get t q)
inserted_or t n x q =
    get-insert t n x q ∙ ap (λ b. cond b (Some x) (get t q)) (is_eq-slice_cmp q n)

removed_or : {X : Type 0} (t : Table X) (n q : List ℕ)
    → get (remove t n) q ≡ cond (bytes_eq q n) None (get t q)
removed_or t n q = go (bytes_eq q n) refl
  where
    go : (b : Bool) → bytes_eq q n ≡ b → get (remove t n) q ≡ cond b None (get t q)
    go true same = get-remove_same t n q (sym (same_bytes q n same))
    go false apart =
        get-remove_other t n q
        (λ e. let never : bytes_eq q n ≡ true = (bytes_eq-Decides q n).1 (sym e) in cc)

-- an object that has a file now, on the shelf where it is not doomed
filed : (m : Machine) (i : ℕ) (o : Object) (done doomed : Bool) → done ≡ true
    → let name : List ℕ = file_name o.version.key in
    let stands : Bool = done && not doomed in
    IsRefiled m
    (record m {
      objects = slice_set m.objects i o;
      shelf = cond stands (insert m.shelf name (file_of o.version)) m.shelf;
      rest = cond stands (without name m.rest) m.rest;
    })
    (cond doomed None (Some (record { name = name; content = Some (file_of o.version) })))
filed m i o true true is = (λ q. refl, refl)
filed m i o true false is =
    (λ q. inserted_or m.shelf (file_name o.version.key) (file_of o.version) q, refl)
filed m i o false doomed is = absurd (cc)

-- one that has none
unfiled : (m : Machine) (i : ℕ) (o : Object) → o.finished ≡ false → IsRefiled m (stored m i o) None
unfiled m i o un =
    let name : List ℕ = file_name o.version.key in
    let shelved : Table (List ℕ) = insert m.shelf name (file_of o.version) in (
      λ q. ap (λ b. get (cond (b && not o.doomed) shelved m.shelf) q) un,
      ap (λ b. cond (b && not o.doomed) (without name m.rest) m.rest) un,
    )

refiled_stored : (m : Machine) (i : ℕ) (o : Object) → i < length m.objects → o.finished ≡ true
    → IsRefiled m (stored m i o) (refiled_by (object (stored m i o) i))
refiled_stored m i o within done =
    subst (λ (p : Object). IsRefiled m (stored m i o) (refiled_by p))
    (sym (nth-set_same m.objects i i o within refl)) (filed m i o o.finished o.doomed done)

-- what is refiled where the test holds, by the object of this number afterwards
abbrev refiled_where : Machine → ℕ → Bool → Option Refiled
refiled_where next i b = option_and_then (λ k. refiled_by (object next k)) (cond b (Some i) None)

refiled_changed : (m : Machine) (s : ℕ) (f : Version → Version) → number_of m s < length m.objects
    → IsRefiled m (changed m s f)
    (refiled_where (changed m s f) (number_of m s) (object_of m s).finished)
refiled_changed m s f within = go (object_of m s).finished refl
  where
    new : Object
    new = record (object_of m s) { version = f (object_of m s).version }

    go : (b : Bool) → (object_of m s).finished ≡ b
        → IsRefiled m (changed m s f) (refiled_where (changed m s f) (number_of m s) b)
    go true done = refiled_stored m (number_of m s) new within done
    go false un = unfiled m (number_of m s) new un

refiled_finished : (m : Machine) (s : ℕ) → number_of m s < length m.objects
    → let writes : Bool = is_writer m s && not (object_of m s).finished in
    IsRefiled m (finished_by m s) (refiled_where (finished_by m s) (number_of m s) writes)
refiled_finished m s within = go (is_writer m s && not (object_of m s).finished)
  where
    done : Machine
    done = stored m (number_of m s) (record (object_of m s) { finished = true })

    go : (b : Bool) → IsRefiled m (cond b done m) (refiled_where (cond b done m) (number_of m s) b)
    go true =
        refiled_stored m (number_of m s) (record (object_of m s) { finished = true }) within refl
    go false = (λ q. refl, refl)

-- a machine with the same shelf and the same rest
refiled_along : (m t next : Machine) (r : Option Refiled) → next.shelf ≡ t.shelf
    → next.rest ≡ t.rest → IsRefiled m t r → IsRefiled m next r
refiled_along m t next None shelf rest is =
    (λ q. ap (λ x. get x q) shelf ∙ is.0 q, rest ∙ is.1)
refiled_along m t next (Some r) shelf rest is =
    (λ q. ap (λ x. get x q) shelf ∙ is.0 q, rest ∙ is.1)

-- giving up a slot changes neither, nor an object
pub record IsReleased (m next : Machine) : Type 0 where
  pub shelf : next.shelf ≡ m.shelf
  pub rest : next.rest ≡ m.rest
  pub objects : next.objects ≡ m.objects

pub is_released : (m : Machine) (s : ℕ) → IsReleased m (released m s)
is_released m s =
    let o : Object = object_of m s in
    let after : Machine = record m { slots = with_slot s None m.slots } in
    let unused : Machine = record after { in_use = remove m.in_use (file_name o.version.key) } in
    cond_both (has_slots after (number_of m s) || o.doomed) after unused (IsReleased m)
    (λ used. record { shelf = refl; rest = refl; objects = refl })
    (λ gone. record { shelf = refl; rest = refl; objects = refl })

refiled_closed : (m : Machine) (s : ℕ) → number_of m s < length m.objects
    → let writes : Bool = is_writer m s && not (object_of m s).finished in
    let next : Machine = released (finished_by m s) s in
    IsRefiled m next (refiled_where next (number_of m s) writes)
refiled_closed m s within =
    let t : Machine = finished_by m s in
    let same = is_released t s in
    let writes : Option ℕ =
    cond (is_writer m s && not (object_of m s).finished) (Some (number_of m s)) None in
    subst
    (λ (os : List Object). IsRefiled m (released t s)
    (option_and_then (λ i. refiled_by (nth os i)) writes))
    (sym same.objects)
    (refiled_along m t (released t s) (option_and_then (λ i. refiled_by (nth t.objects i)) writes)
    same.shelf same.rest (refiled_finished m s within))

refiled_joined : (m : Machine) (s : ℕ) (user : Option ℕ) (r : Reading)
    → IsRefiled m (joined m s user r) None
refiled_joined m s (Some i) r = (λ q. refl, refl)
refiled_joined m s None (Whole v) = (λ q. refl, refl)
refiled_joined m s None (Damaged d) = (λ q. refl, refl)
refiled_joined m s None Nothing = (λ q. refl, refl)

and_false : (b : Bool) → false ≡ (b && false)
and_false true = refl
and_false false = refl

and_true : (b : Bool) → b ≡ (b && true)
and_true true = refl
and_true false = refl

refiled_unset : (m : Machine) (s : ℕ) (f : Version → Version) (value : Option (List ℕ))
    → number_of m s < length m.objects
    → let next : Machine =
    (cond (is_none value) (answer m NoneThere) (answer (changed m s f) Done)).next in
    IsRefiled m next
    (refiled_where next (number_of m s) ((object_of m s).finished && is_some value))
refiled_unset m s f None within =
    subst (λ b. IsRefiled m m (refiled_where m (number_of m s) b))
    (and_false (object_of m s).finished) (λ q. refl, refl)
refiled_unset m s f (Some value) within =
    subst (λ b. IsRefiled m (changed m s f) (refiled_where (changed m s f) (number_of m s) b))
    (and_true (object_of m s).finished) (refiled_changed m s f within)

both_hold : (a b : Bool) → a ≡ true → b ≡ true → true ≡ (a && b)
both_hold a b x y = sym (λ k. x k && y k)

effect_refiled : (m : Machine) (c : Command) → IsOfEntries c → IsProper m → AllHold (checks m c)
    → IsRefiled m (effect m c).next (refiled m c)
unfolding checks effect
effect_refiled m (Create s key) of proper hold =
    (λ q. removed_or m.shelf (file_name key) q, refl)
effect_refiled m (OpenKey s key) of proper hold =
    refiled_joined m s (used_by m key) (on_shelf m key)
effect_refiled m (Append s bytes) of proper hold =
    let o : Object = object_of m s in
    unfiled m (number_of m s)
    (record o { version = record o.version { body = o.version.body ++ bytes } })
    (not-true o.finished hold.1.1.0)
effect_refiled m (Finish s) of proper hold =
    subst (λ b. IsRefiled m (finished_by m s) (refiled_where (finished_by m s) (number_of m s) b))
    (sym (both_hold (is_writer m s) (not (object_of m s).finished) hold.1.0 hold.1.1.0))
    (refiled_finished m s (slot_in_use m proper s hold.0).number)
effect_refiled m (FinishAs s header elements) of proper hold =
    refiled_stored m (number_of m s) (finished_as header elements (object_of m s)) (slot_in_use m proper s hold.0).number refl
effect_refiled m (SetElement s key value) of proper hold =
    refiled_changed m s (with_value key value) (slot_in_use m proper s hold.0).number
effect_refiled m (UnsetElement s key) of proper hold =
    refiled_unset m s (λ v. record v { elements = without_element key v.elements })
    (element key (object_of m s).version.elements) (slot_in_use m proper s hold.0).number
effect_refiled m (UseEntry s) of proper hold =
    refiled_changed m s (used m.moment) (slot_in_use m proper s hold.0).number
effect_refiled m (Pin s) of proper hold =
    refiled_changed m s (with_pin true) (slot_in_use m proper s hold.0).number
effect_refiled m (Unpin s) of proper hold =
    refiled_changed m s (with_pin false) (slot_in_use m proper s hold.0).number
effect_refiled m (PutAlt s kind bytes) of proper hold =
    refiled_changed m s (with_alt_data kind bytes) (slot_in_use m proper s hold.0).number
effect_refiled m (Close s) of proper hold =
    refiled_closed m s (slot_in_use m proper s hold.0).number
effect_refiled m (Doom key) of proper hold = (λ q. removed_or m.shelf (file_name key) q, refl)
effect_refiled m ListRecords of proper hold = absurd of
effect_refiled m (ListGiven records) of proper hold = absurd of
effect_refiled m (Evict kb) of proper hold = absurd of
effect_refiled m (EvictNames names) of proper hold = absurd of
effect_refiled m (ClearOrigin origin) of proper hold = absurd of
effect_refiled m (ClearNames names) of proper hold = absurd of
effect_refiled m Resume of proper hold = absurd of
effect_refiled m (ResumeNames names) of proper hold = absurd of
effect_refiled m (StepUpdate n) of proper hold = absurd of
effect_refiled m Verify of proper hold = absurd of
effect_refiled m (VerifyRecords records) of proper hold = absurd of
effect_refiled m Rebuild of proper hold = absurd of
effect_refiled m Dump of proper hold = absurd of
effect_refiled m c of proper hold = (λ q. refl, refl)

pub entries_are_refiled : EntriesAreRefiled
entries_are_refiled m c of proper passes =
    subst (λ r. IsRefiled m (stepped m c r).next (refiled m c)) (sym passes)
    (effect_refiled m c of proper (all_hold (checks m c) passes))

-- A name that has an entry has a record.

pub entries_have_records : EntriesHaveRecords
entries_have_records m name = go (get m.shelf name.0)
  where
    go : (o : Option (List ℕ)) → is_some (option_and_then (record_of name) o) ≡ fits_there name.0 o
    go None = refl
    go (Some c) =
        let r = record_of_meta name (file_meta c) (length c) in
        elim (fits name.0 c) as (λ b. is_some (cond b (Some r) None) ≡ b) [
          | true ↦ refl
          | false ↦ refl
        ]
