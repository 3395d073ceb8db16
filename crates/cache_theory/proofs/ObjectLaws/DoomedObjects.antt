-- Objects are never taken away, and one that is doomed stays doomed.
use Rattle.std.proofs.Common.{◌≡◌, inl, inr, ℕ, zero, suc, ◌≤◌, length, arith, length-set, List, [], ◌∷◌, ◌++◌, Bool, true, false, not, ◌&&◌, Option, Some, None, refl, sym, subst}
use Rattle.std.specs.Prelude.{is_none, option_map, slice_get, slice_set, unwrap_or, is_some}
use Rattle.std.proofs.lemmas.Bool.{cases_Bool, cond_both}
use Rattle.cache_base.specs.Checks.{first_failing}
use Rattle.cache_base.specs.declared.name.Name.{Name}
use Rattle.cache_theory.specs.Checks.{checks, with_alt_data, with_value}
use Rattle.cache_theory.specs.Command.{Command}
use Rattle.cache_theory.specs.Command.Command.{Create, OpenKey, Append, Finish, SetElement, UnsetElement, UseEntry, Pin, Unpin, PutAlt, Close, Doom, Evict, EvictNames, ClearOrigin, ClearNames, Resume, ResumeNames, FinishAs}
use Rattle.cache_theory.specs.Command.Reply.{Done, NoneThere}
use Rattle.cache_theory.specs.Covers.{cleared, resumed}
use Rattle.cache_theory.specs.Machine.{Machine, Object, is_writer, nobody, number_of, object_of, on_shelf, used_by}
use Rattle.cache_theory.specs.Step.{after, all_doomed, answer, changed, doomed_at, doomed_under, effect, entered, evicted, finished_by, fresh, joined, step, stepped, stored, update_ended, used, with_pin, cleared_of, unmarked, finished_as}
use Rattle.cache_theory.specs.Table.{get}
use Rattle.cache_theory.specs.declared.refusal.Refusal.{Refusal}
use Rattle.cache_theory.proofs.ObjectLaws.Objects.{length_more}
use Rattle.cache_theory.proofs.Refiling.{is_released}
use Rattle.entry_file.specs.EntryFile.{Reading}
use Rattle.entry_file.specs.EntryFile.Reading.{Whole, Damaged, Nothing}
use Rattle.entry_file.specs.Version.{Version}
use Rattle.entry_name.specs.EntryName.{file_name}
use Rattle.entry_parts.specs.Elements.{element}
use Rattle.entry_parts.specs.Setting.{without_element}
use Rattle.context_clear.specs.Mark.{mark_of}

-- an object is there, and doomed
abbrev pub is_doomed_in : List Object → ℕ → Bool
is_doomed_in objects i = unwrap_or (option_map (λ o. o.doomed) (slice_get objects i)) false

-- these objects became those: each is still there, and doomed if it was
pub record Grow (before objects : List Object) : Type 0 where
  pub long : length before ≤ length objects
  pub doomed : (i : ℕ) → is_doomed_in before i ≡ true → is_doomed_in objects i ≡ true

grow_same : (objects : List Object) → Grow objects objects
grow_same objects = record { long = omega arith; doomed = λ i is. is }

grow_then : (a b c : List Object) → Grow a b → Grow b c → Grow a c
grow_then a b c first second = record {
  long = (let l = first.long in let k = second.long in omega (arith, l, k));
  doomed = λ i is. second.doomed i (first.doomed i is);
}

-- one of them is another object now, which is doomed where it was
set_doomed : (objects : List Object) (i : ℕ) (o : Object) → (is_doomed_in objects i ≡ true → o.doomed ≡ true)
    → (j : ℕ) → is_doomed_in objects j ≡ true → is_doomed_in (slice_set objects i o) j ≡ true
set_doomed [] i o along j is = absurd (cc)
set_doomed (x ∷ xs) zero o along zero is = along is
set_doomed (x ∷ xs) zero o along (suc j) is = is
set_doomed (x ∷ xs) (suc i) o along zero is = is
set_doomed (x ∷ xs) (suc i) o along (suc j) is = set_doomed xs i o along j is

grow_set : (objects : List Object) (i : ℕ) (o : Object) → (is_doomed_in objects i ≡ true → o.doomed ≡ true) → Grow objects (slice_set objects i o)
grow_set objects i o along = record {
  long = (let l = length-set objects i o in omega (arith, l));
  doomed = set_doomed objects i o along;
}

-- there is one more
more_doomed : (objects : List Object) (o : Object) (j : ℕ) → is_doomed_in objects j ≡ true → is_doomed_in (objects ++ o ∷ []) j ≡ true
more_doomed [] o j is = absurd (cc)
more_doomed (x ∷ xs) o zero is = is
more_doomed (x ∷ xs) o (suc j) is = more_doomed xs o j is

grow_more : (objects : List Object) (o : Object) → Grow objects (objects ++ o ∷ [])
grow_more objects o = record { long = (let l = length_more objects o in omega (arith, l)); doomed = more_doomed objects o }

-- what is doomed by its number is doomed as it stands there
doomed_object : (objects : List Object) (i : ℕ) → is_doomed_in objects i ≡ true → (unwrap_or (slice_get objects i) nobody).doomed ≡ true
doomed_object objects i = go (slice_get objects i)
  where
    go : (o : Option Object) → unwrap_or (option_map (λ (x : Object). x.doomed) o) false ≡ true → (unwrap_or o nobody).doomed ≡ true
    go None is = refl
    go (Some x) is = is

-- what is not doomed as it stands there is not doomed by its number
pub undoomed_object : (objects : List Object) (i : ℕ) → (unwrap_or (slice_get objects i) nobody).doomed ≡ false → is_doomed_in objects i ≡ false
undoomed_object objects i = go (slice_get objects i)
  where
    go : (o : Option Object) → (unwrap_or o nobody).doomed ≡ false → unwrap_or (option_map (λ (x : Object). x.doomed) o) false ≡ false
    go None is = refl
    go (Some x) is = is

-- so an object that is undoomed later was not doomed before
pub undoomed_before : (before objects : List Object) → Grow before objects → (i : ℕ) → is_doomed_in objects i ≡ false → is_doomed_in before i ≡ false
undoomed_before before objects grow i un = elim (cases_Bool (is_doomed_in before i)) [
  | inl is ↦ absurd (let later = grow.doomed i is in cc)
  | inr is ↦ is
]

doomed_at_grows : (objects : List Object) (user : Option ℕ) → Grow objects (doomed_at objects user)
doomed_at_grows objects None = grow_same objects
doomed_at_grows objects (Some j) = grow_set objects j (record (unwrap_or (slice_get objects j) nobody) { doomed = true }) (λ was. refl)

doomed_under_grows : (m : Machine) (name : List ℕ) → Grow m.objects (doomed_under m name).objects
doomed_under_grows m name = doomed_at_grows m.objects (get m.in_use name)

all_doomed_grow : (m : Machine) (names : List Name) → Grow m.objects (all_doomed m names).objects
all_doomed_grow m [] = grow_same m.objects
all_doomed_grow m (n ∷ names) =
    grow_then m.objects (doomed_under m n.0).objects (all_doomed (doomed_under m n.0) names).objects
    (doomed_under_grows m n.0) (all_doomed_grow (doomed_under m n.0) names)

changed_grows : (m : Machine) (s : ℕ) (f : Version → Version) → Grow m.objects (changed m s f).objects
changed_grows m s f =
    grow_set m.objects (number_of m s) (record (object_of m s) { version = f (object_of m s).version }) (doomed_object m.objects (number_of m s))

finished_grows : (m : Machine) (s : ℕ) → Grow m.objects (finished_by m s).objects
finished_grows m s =
    cond_both (is_writer m s && not (object_of m s).finished) (stored m (number_of m s) (record (object_of m s) { finished = true })) m
    (λ t. Grow m.objects t.objects)
    (λ goes. grow_set m.objects (number_of m s) (record (object_of m s) { finished = true }) (doomed_object m.objects (number_of m s)))
    (λ stays. grow_same m.objects)

joined_grows : (m : Machine) (s : ℕ) (user : Option ℕ) (r : Reading) → Grow m.objects (joined m s user r).objects
joined_grows m s (Some i) r = grow_same m.objects
joined_grows m s None (Whole v) = grow_more m.objects (record { version = v; finished = true; doomed = false })
joined_grows m s None (Damaged d) = grow_same m.objects
joined_grows m s None Nothing = grow_same m.objects

effect_grows : (m : Machine) (c : Command) → Grow m.objects (effect m c).next.objects
unfolding effect
effect_grows m (Create s key) =
    let t : Machine = doomed_under m (file_name key) in
    grow_then m.objects t.objects (entered t s true (fresh m.moment key)).objects
    (doomed_under_grows m (file_name key)) (grow_more t.objects (fresh m.moment key))
effect_grows m (OpenKey s key) = joined_grows m s (used_by m key) (on_shelf m key)
effect_grows m (Append s bytes) = changed_grows m s (λ v. record v { body = v.body ++ bytes })
effect_grows m (Finish s) = finished_grows m s
effect_grows m (FinishAs s header elements) =
    grow_set m.objects (number_of m s) (finished_as header elements (object_of m s)) (doomed_object m.objects (number_of m s))
effect_grows m (SetElement s key value) = changed_grows m s (with_value key value)
effect_grows m (UnsetElement s key) =
    cond_both (is_none (element key (object_of m s).version.elements)) (answer m NoneThere)
    (answer (changed m s (λ v. record v { elements = without_element key v.elements })) Done)
    (λ a. Grow m.objects a.next.objects)
    (λ absent. grow_same m.objects)
    (λ there. changed_grows m s (λ v. record v { elements = without_element key v.elements }))
effect_grows m (UseEntry s) = changed_grows m s (used m.moment)
effect_grows m (Pin s) = changed_grows m s (with_pin true)
effect_grows m (Unpin s) = changed_grows m s (with_pin false)
effect_grows m (PutAlt s kind bytes) = changed_grows m s (with_alt_data kind bytes)
effect_grows m (Close s) =
    subst (Grow m.objects) (sym (is_released (finished_by m s) s).objects) (finished_grows m s)
effect_grows m (Doom key) = doomed_under_grows m (file_name key)
effect_grows m (Evict kb) = all_doomed_grow (update_ended m) (evicted m kb)
effect_grows m (EvictNames names) = all_doomed_grow (update_ended m) names
effect_grows m (ClearOrigin origin) = all_doomed_grow (update_ended (unmarked m)) (cleared m origin)
effect_grows m (ClearNames names) = all_doomed_grow (update_ended (unmarked m)) names
effect_grows m Resume =
    cond_both (is_some (mark_of m.mark)) (cleared_of m (resumed m)) (unmarked m) (λ next. Grow m.objects next.objects)
    (λ some. all_doomed_grow (update_ended (unmarked m)) (resumed m)) (λ none. grow_same m.objects)
effect_grows m (ResumeNames names) = all_doomed_grow (update_ended (unmarked m)) names
effect_grows m c = grow_same m.objects

step_grows : (m : Machine) (c : Command) (r : Option Refusal) → Grow m.objects (stepped m c r).next.objects
step_grows m c None = effect_grows m c
step_grows m c (Some r) = grow_same m.objects

-- whatever commands come
pub objects_grow : (m : Machine) (cs : List Command) → Grow m.objects (after m cs).objects
objects_grow m [] = grow_same m.objects
objects_grow m (c ∷ cs) =
    grow_then m.objects (step m c).next.objects (after (step m c).next cs).objects
    (step_grows m c (first_failing (checks m c))) (objects_grow (step m c).next cs)
