-- The shelf changes only under names that are touched.
use Rattle.std.proofs.Common.{◌≡◌, ◌≢◌, ℕ, List, [], ◌∷◌, ◌++◌, Bool, true, false, cond, map, not, ◌&&◌, ◌||◌, Option, Some, None, refl, sym, ap, subst, ◌∙◌}
use Rattle.std.specs.List.{list_any}
use Rattle.std.specs.Prelude.{is_none, is_some}
use Rattle.std.specs.Str.{bytes_eq}
use Rattle.std.proofs.lemmas.Bool.{and_parts, cond_both, not-true, or_parts}
use Rattle.std.proofs.lemmas.Slice.Eq.{bytes_eq-Decides}
use Rattle.cache_base.specs.Checks.{first_failing}
use Rattle.cache_base.specs.declared.name.Name.{Name}
use Rattle.cache_base.proofs.CheckLaws.{AllHold, all_hold}
use Rattle.cache_theory.specs.Checks.{checks, with_alt_data, with_value}
use Rattle.cache_theory.specs.Command.{Command}
use Rattle.cache_theory.specs.Command.Command.{Create, OpenKey, Append, Finish, SetElement, UnsetElement, UseEntry, Pin, Unpin, PutAlt, Close, Doom, Evict, EvictNames, ClearOrigin, ClearNames, Resume, ResumeNames, FinishAs}
use Rattle.cache_theory.specs.Command.Reply.{Done, NoneThere}
use Rattle.cache_theory.specs.Covers.{cleared, resumed}
use Rattle.cache_theory.specs.Laws.{ChangesAreTouched}
use Rattle.cache_theory.specs.Machine.{Machine, Object, has_slots, is_writer, number_of, object, object_of, on_shelf, used_by}
use Rattle.cache_theory.specs.Marks.{name_of_some, touches}
use Rattle.cache_theory.specs.Step.{all_doomed, answer, changed, doomed_under, effect, evicted, finished_by, joined, released, stepped, stored, update_ended, used, with_pin, with_slot, cleared_of, unmarked, finished_as}
use Rattle.cache_theory.specs.Table.{get, insert, remove}
use Rattle.cache_theory.specs.declared.refusal.Refusal.{Refusal}
use Rattle.cache_theory.proofs.Names.{get-insert_other, get-remove_other}
use Rattle.entry_file.specs.EntryFile.{Reading}
use Rattle.entry_file.specs.EntryFile.Reading.{Whole, Damaged, Nothing}
use Rattle.entry_file.specs.Version.{Version, file_of}
use Rattle.entry_name.specs.EntryName.{file_name}
use Rattle.entry_parts.specs.Elements.{element}
use Rattle.entry_parts.specs.Setting.{without_element}
use Rattle.context_clear.specs.Mark.{mark_of}

-- the name is none of these
abbrev IsNone : List ℕ → List (List ℕ) → Type 0
IsNone name names = list_any (bytes_eq name) names ≡ false

-- the shelf has under the name what it had
abbrev Stays : Machine → Machine → List ℕ → Type 0
Stays m next name = get next.shelf name ≡ get m.shelf name

apart : (name n : List ℕ) → bytes_eq name n ≡ false → name ≢ n
apart name n differs same = let eq : bytes_eq name n ≡ true = (bytes_eq-Decides name n).1 same in cc

first_apart : (name n : List ℕ) (names : List (List ℕ)) → IsNone name (n ∷ names) → name ≢ n
first_apart name n names none =
    apart name n (or_parts (bytes_eq name n) (list_any (bytes_eq name) names) none).0

-- an object whose file is not written anew under the name
stays_stored : (m : Machine) (i : ℕ) (o : Object) (name : List ℕ)
    → (o.finished ≡ true → o.doomed ≡ false → name ≢ file_name o.version.key)
    → Stays m (stored m i o) name
stays_stored m i o name elsewhere = go (o.finished && not o.doomed) refl
  where
    at : List ℕ
    at = file_name o.version.key

    go : (b : Bool) → (o.finished && not o.doomed) ≡ b
        → get (cond b (insert m.shelf at (file_of o.version)) m.shelf) name ≡ get m.shelf name
    go true stands =
        let parts = and_parts o.finished (not o.doomed) stands in
        get-insert_other m.shelf at (file_of o.version) name
        (elsewhere parts.0 (not-true o.doomed parts.1))
    go false none = refl

-- what the names of an object that is rewritten leave out
not_rewritten : (m : Machine) (i : ℕ) (name : List ℕ) (writes : Bool)
    → IsNone name (name_of_some m (cond writes (Some i) None)) → writes ≡ true
    → (object m i).doomed ≡ false
    → name ≢ file_name (object m i).version.key
not_rewritten m i name writes none does undoomed =
    first_apart name (file_name (object m i).version.key) []
    (subst (λ b. IsNone name (cond b [] (file_name (object m i).version.key ∷ []))) undoomed
    (subst (λ b. IsNone name (name_of_some m (cond b (Some i) None))) does none))

-- a change of a finished object, or of one that is still written
stays_changed : (m : Machine) (s : ℕ) (f : Version → Version) (name : List ℕ)
    → (f (object_of m s).version).key ≡ (object_of m s).version.key
    → IsNone name (name_of_some m (cond (object_of m s).finished (Some (number_of m s)) None))
    → Stays m (changed m s f) name
stays_changed m s f name key none =
    stays_stored m (number_of m s)
    (record (object_of m s) { version = f (object_of m s).version }) name
    (λ done undoomed. subst (λ k. name ≢ file_name k) (sym key)
    (not_rewritten m (number_of m s) name (object_of m s).finished none done undoomed))

stays_finished : (m : Machine) (s : ℕ) (name : List ℕ)
    → IsNone name
    (name_of_some m
    (cond (is_writer m s && not (object_of m s).finished) (Some (number_of m s)) None))
    → Stays m (finished_by m s) name
stays_finished m s name none =
    cond_both (is_writer m s && not (object_of m s).finished)
    (stored m (number_of m s) (record (object_of m s) { finished = true })) m (λ t. Stays m t name)
    (λ goes. stays_stored m (number_of m s) (record (object_of m s) { finished = true }) name
    (λ done undoomed. not_rewritten m (number_of m s) name
    (is_writer m s && not (object_of m s).finished) none goes undoomed))
    (λ stays. refl)

-- the shelf of a machine whose slot is given up
released_shelf : (m : Machine) (s : ℕ) → (released m s).shelf ≡ m.shelf
released_shelf m s =
    let after : Machine = record m { slots = with_slot s None m.slots } in
    cond_both (has_slots after (number_of m s) || (object_of m s).doomed) after
    (record after { in_use = remove m.in_use (file_name (object_of m s).version.key) })
    (λ t. t.shelf ≡ m.shelf)
    (λ used. refl) (λ unused. refl)

stays_joined : (m : Machine) (s : ℕ) (user : Option ℕ) (r : Reading) (name : List ℕ)
    → Stays m (joined m s user r) name
stays_joined m s (Some i) r name = refl
stays_joined m s None (Whole v) name = refl
stays_joined m s None (Damaged d) name = refl
stays_joined m s None Nothing name = refl

stays_doomed : (m : Machine) (gone name : List ℕ) → name ≢ gone → Stays m (doomed_under m gone) name
stays_doomed m gone name other = get-remove_other m.shelf gone name (λ e. other (sym e))

stays_all_doomed : (m : Machine) (names : List Name) (name : List ℕ)
    → IsNone name (map (λ n. n.0) names) → Stays m (all_doomed m names) name
stays_all_doomed m [] name none = refl
stays_all_doomed m (n ∷ names) name none =
    let parts = or_parts (bytes_eq name n.0) (list_any (bytes_eq name) (map (λ k. k.0) names)) none in
    stays_all_doomed (doomed_under m n.0) names name parts.1
    ∙ stays_doomed m n.0 name (apart name n.0 parts.0)

both_hold : (a b : Bool) → a ≡ true → b ≡ true → (a && b) ≡ true
both_hold a b x y = λ k. x k && y k

there_is : {X : Type 0} (o : Option X) → is_none o ≡ false → is_some o ≡ true
there_is None some = absurd (cc)
there_is (Some x) some = refl

and_then : (a b : Bool) → b ≡ true → (a && b) ≡ a
and_then true b is = is
and_then false b is = refl

-- an element that is there is unset in a finished entry
unset_none : (m : Machine) (s : ℕ) (key name : List ℕ)
    → is_none (element key (object_of m s).version.elements) ≡ false
    → IsNone name (touches m (UnsetElement s key))
    → IsNone name (name_of_some m (cond (object_of m s).finished (Some (number_of m s)) None))
unset_none m s key name there none =
    let o : Object = object_of m s in
    subst (λ b. IsNone name (name_of_some m (cond b (Some (number_of m s)) None)))
    (and_then o.finished (is_some (element key o.version.elements))
    (there_is (element key o.version.elements) there)) none

effect_stays : (m : Machine) (c : Command) (name : List ℕ) → AllHold (checks m c)
    → IsNone name (touches m c) → Stays m (effect m c).next name
unfolding checks effect
effect_stays m (Create s key) name hold none =
    stays_doomed m (file_name key) name (first_apart name (file_name key) [] none)
effect_stays m (OpenKey s key) name hold none =
    stays_joined m s (used_by m key) (on_shelf m key) name
effect_stays m (Append s bytes) name hold none =
    let o : Object = object_of m s in
    stays_stored m (number_of m s)
    (record o { version = record o.version { body = o.version.body ++ bytes } }) name
    (λ done undoomed. absurd (let un = not-true (object_of m s).finished hold.1.1.0 in cc))
effect_stays m (Finish s) name hold none =
    stays_finished m s name
    (subst (λ b. IsNone name (name_of_some m (cond b (Some (number_of m s)) None)))
    (sym (both_hold (is_writer m s) (not (object_of m s).finished) hold.1.0 hold.1.1.0)) none)
effect_stays m (FinishAs s header elements) name hold none =
    stays_stored m (number_of m s) (finished_as header elements (object_of m s)) name
    (λ done undoomed. not_rewritten m (number_of m s) name true none refl undoomed)
effect_stays m (SetElement s key value) name hold none =
    stays_changed m s (with_value key value) name refl none
effect_stays m (UnsetElement s key) name hold none =
    cond_both (is_none (element key (object_of m s).version.elements)) (answer m NoneThere)
    (answer (changed m s (λ v. record v { elements = without_element key v.elements })) Done)
    (λ a. Stays m a.next name)
    (λ absent. refl)
    (λ there. stays_changed m s (λ v. record v { elements = without_element key v.elements }) name
    refl (unset_none m s key name there none))
effect_stays m (UseEntry s) name hold none = stays_changed m s (used m.moment) name refl none
effect_stays m (Pin s) name hold none = stays_changed m s (with_pin true) name refl none
effect_stays m (Unpin s) name hold none = stays_changed m s (with_pin false) name refl none
effect_stays m (PutAlt s kind bytes) name hold none =
    stays_changed m s (with_alt_data kind bytes) name refl none
effect_stays m (Close s) name hold none =
    ap (λ t. get t name) (released_shelf (finished_by m s) s) ∙ stays_finished m s name none
effect_stays m (Doom key) name hold none =
    stays_doomed m (file_name key) name (first_apart name (file_name key) [] none)
effect_stays m (Evict kb) name hold none =
    stays_all_doomed (update_ended m) (evicted m kb) name none
effect_stays m (EvictNames names) name hold none =
    stays_all_doomed (update_ended m) names name none
effect_stays m (ClearOrigin origin) name hold none =
    stays_all_doomed (update_ended (unmarked m)) (cleared m origin) name none
effect_stays m (ClearNames names) name hold none =
    stays_all_doomed (update_ended (unmarked m)) names name none
effect_stays m Resume name hold none =
    cond_both (is_some (mark_of m.mark)) (cleared_of m (resumed m)) (unmarked m) (λ next. Stays m next name)
    (λ some. stays_all_doomed (update_ended (unmarked m)) (resumed m) name none) (λ gone. refl)
effect_stays m (ResumeNames names) name hold none =
    stays_all_doomed (update_ended (unmarked m)) names name none
effect_stays m c name hold none = refl

pub changes_are_touched : ChangesAreTouched
changes_are_touched m c name none = go (first_failing (checks m c)) refl
  where
    go : (r : Option Refusal) → first_failing (checks m c) ≡ r → Stays m (stepped m c r).next name
    go None fine = effect_stays m c name (all_hold (checks m c) fine) none
    go (Some r) refused = refl
