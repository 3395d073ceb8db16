-- What a clearing leaves of the origin.
use Rattle.std.proofs.Common.{◌≡◌, ◌∙◌, ◌⊎◌, inl, inr, cond, ℕ, true, false, List, None, Option, Some, Result, Ok, Err, ap, subst, sym}
use Rattle.std.specs.Prelude.{is_some}
use Rattle.std.proofs.lemmas.Bool.{cases_Bool, cond_both, false_from_ne_true}
use Rattle.cache_base.specs.declared.name.Name.{Name}
use Rattle.cache_store.specs.Clearing.{ClearingLeavesNone}
use Rattle.cache_store.specs.Open.{KeepsTo, Represents, StartsOn, Tells}
use Rattle.cache_store.specs.Performing.{HadEffect, Performs}
use Rattle.memory_index.specs.Records.{AreAtEnd}
use Rattle.cache_store.specs.Session.{Session, cache_of}
use Rattle.cache_store.specs.StoppedClearing.{ClearsUnderMark, CouldBeBefore, FindsNoneOrAll, HasNoneOf, IsLeftByClearing, IsNoneOrAll, LeavesNoMark, ResumedClearingIsNoneOrAll, StoppedClearingIsNoneOrAll}
use Rattle.cache_store.specs.StoppedClearing.FindsNoneOrAll.{AllAsBefore, NoneFound}
use Rattle.cache_store.specs.StoppedClearing.IsLeftByClearing.{Marked, Unbegun, Whole}
use Rattle.cache_store.specs.StoppedClearing.IsNoneOrAll.{AsBefore, MarkStands, NoneIsLeft}
use Rattle.cache_store.specs.declared.fault.StoreFault.{StoreFault}
use Rattle.cache_replies.specs.declared.verdict.Verdict.{Verdict}
use Rattle.cache_theory.specs.Command.{Command}
use Rattle.cache_theory.specs.Command.Command.{ClearNames, ClearOrigin, Resume}
use Rattle.cache_theory.specs.Covers.{cleared, cleared_by, covered_by, covers, resumed}
use Rattle.cache_theory.specs.Crash.{IsLeft}
use Rattle.cache_theory.specs.History.{History}
use Rattle.cache_theory.specs.Ever.{entries, entry_place}
use Rattle.cache_theory.specs.Laws.{AreLost, is_among}
use Rattle.cache_theory.specs.Machine.{Machine}
use Rattle.cache_theory.specs.Step.{Answer, cleared_of, effect, step, unmarked}
use Rattle.cache_theory.specs.Table.{get, name_of}
use Rattle.cache_theory.specs.Checks.{checks}
use Rattle.cache_theory.proofs.Clears.ClearedNames.{none_left, resumed_leaves_none}
use Rattle.cache_theory.proofs.Clears.Clearing.{clear_goes_by_scan, clear_is_of_names, resume_without_mark}
use Rattle.cache_theory.proofs.CrashImages.Crashes.{safe_is_crash_safe}
use Rattle.cache_theory.proofs.Evictions.Evicting.{cleared_are_lost}
use Rattle.context_clear.specs.Mark.{mark_of}
use Rattle.context_clear.proofs.MarkLaws.{mark_read}
use Rattle.cache_store.proofs.Clearing.ClearCommands.{clear_next_is}
use Rattle.cache_store.proofs.Evicting.EvictDoes.{among_all}
use Rattle.cache_store.proofs.Clearing.OriginHash.{value_hash_small}
use Rattle.cache_store.proofs.Records.GoesBy.{goes_by}
use Rattle.cache_store.proofs.Performing.Represented.{represents}
use Rattle.disk_theory.proofs.Images.{only_now}
use Rattle.disk_theory.specs.Image.{Files, IsImage}
use Rattle.disk_theory.specs.State.{State, standing}
use Rattle.disk_theory.specs.declared.place.Place.TheVariants.{Clear, Entry}
use Rattle.entry_file.specs.EntryFile.{found, read_for, whole_in}
use Rattle.entry_file.specs.Version.{Version}
use Rattle.file_handles.specs.Stands.{Represents as CacheRepresents}
use Rattle.index_theory.specs.Ever.{entries_on}
use Rattle.entry_key.specs.Tags.{value_hash}
use Rattle.entry_name.specs.EntryName.{file_name}
use Rattle.index_record.specs.declared.record.IndexRecord.{IndexRecord}

-- a command that had its effect leaves the store for the next state of the machine
stands_next : (c : Command) (m : Machine) (answer : Result Verdict StoreFault) (before after : Session) (taken now : Option (List ℕ)) → Performs c m answer before after taken now → HadEffect answer
    → Represents after (step m c).next
stands_next c m (Ok o) before after taken now performs had = performs.next
stands_next c m (Err f) before after taken now performs had = performs.effect had

pub clearing_leaves_none : ClearingLeavesNone
clearing_leaves_none origin answer before after taken now m performs had quiet is tells image key v of at =
    let done = performs.answers m is in
    let records = done.1.0.0 in
    let names : done.0 ≡ ClearNames (cleared_by records m origin) = done.1.0.1.0 in
    let own : (step m done.0).next ≡ (step m (ClearOrigin origin)).next =
    ap (λ (d : Command). (step m d).next) (names ∙ ap (λ (rs : List IndexRecord). ClearNames (cleared_by rs m origin)) (done.1.0.1.1.right tells) ∙ ap ClearNames (sym (clear_goes_by_scan m origin)))
    ∙ sym (ap (λ (a : Answer). a.next) (clear_is_of_names m origin).0) in
    let next = subst (Represents after) own (stands_next done.0 m answer before after taken now done.1.1 had) in
    let there = only_now after.disk image quiet of (entry_place (file_name key)) ∙ next.stands.1.entries (file_name key) in
    false_from_ne_true (covers (value_hash origin) v.key v.header)
    (none_left m origin key v (sym (ap (λ (c : Option (List ℕ)). whole_in (read_for key c)) there) ∙ at))

-- ---- a clearing that is resumed

-- what is found once it is was found before
resumed_finds : (m : Machine) (key : List ℕ) (v : Version) → found (get (step m Resume).next.shelf) key ≡ Some v → found (get m.shelf) key ≡ Some v
unfolding checks effect
resumed_finds m key v at = cond_both (is_some (mark_of m.mark)) (cleared_of m (resumed m)) (unmarked m)
    (λ (n : Machine). found (get n.shelf) key ≡ Some v → found (get m.shelf) key ≡ Some v) (λ yes. after_clearing) (λ no. λ same. same) at
  where
    name : List ℕ
    name = file_name key

    after_clearing : found (get (cleared_of m (resumed m)).shelf) key ≡ Some v → found (get m.shelf) key ≡ Some v
    after_clearing is =
        let shelf = (cleared_are_lost m (resumed m)).shelf name in
        let in_it : (c : Option (List ℕ)) → get (cleared_of m (resumed m)).shelf name ≡ c → whole_in (read_for key c) ≡ Some v = λ c same. sym (ap (λ (x : Option (List ℕ)). whole_in (read_for key x)) same) ∙ is in
        elim (cases_Bool (is_among name (resumed m))) [
          | inl among ↦ absurd (let no : None ≡ Some v = in_it None (shelf ∙ ap (λ b. cond b None (get m.shelf name)) among) in cc)
          | inr apart ↦ in_it (get m.shelf name) (shelf ∙ ap (λ b. cond b None (get m.shelf name)) apart)
        ]

-- ---- a clearing that is stopped

-- what its whole leaves under a name is nothing, or what the machine has there afterwards
pub left_under : (s : State) (m next : Machine) (names : List Name) (image : Files) (name : Name) → HasNoneOf s names image → AreLost m next names → entries (standing s) name.0 ≡ get m.shelf name.0
    → (image (Entry name) ≡ None) ⊎ (image (Entry name) ≡ get next.shelf name.0)
left_under s m next names image name none lost there = elim (cases_Bool (is_among name.0 names)) [
  | inl among ↦ inl (among_all (λ n. image (entry_place n) ≡ None) names name.0 none.gone among)
  | inr apart ↦ elim (none.others name) [
    | inl gone ↦ inl gone
    | inr same ↦ inr (same ∙ there ∙ sym (lost.shelf name.0 ∙ ap (λ b. cond b None (get m.shelf name.0)) apart))
  ]
]

module _ (origin : List ℕ) (before : Session) (t : State) (h : History) (keeps : KeepsTo before h) (tells : Tells before h.machine) (stops : ClearsUnderMark (value_hash origin) before t) where
  abbrev pub m : Machine
  m = h.machine

  abbrev pub is : Represents before m
  is = represents keeps

  abbrev pub left : (records : List IndexRecord) × (AreAtEnd (entries_on before.disk) before.open_store.index records
      × ((i : Files) → IsImage t i → IsLeftByClearing before.disk (value_hash origin) (covered_by records m (value_hash origin)) i))
  left = stops m is

  abbrev pub names : List Name
  names = covered_by left.0 m (value_hash origin)

  abbrev pub next : Machine
  next = (step m (ClearOrigin origin)).next

  stand : CacheRepresents (cache_of before) m
  stand = is.stands

  own : names ≡ cleared m origin
  unfolding cleared_by
  own =
      ap (λ (rs : List IndexRecord). cleared_by rs m origin)
      ((goes_by before.open_store.handles before.open_store.moment before.disk before.open_store.index m stand left.0 left.1.0).right tells)
      ∙ sym (clear_goes_by_scan m origin)

  next_is : next ≡ cleared_of m names
  next_is =
      ap (λ (a : Answer). a.next) (clear_is_of_names m origin).0
      ∙ ap (λ (ns : List Name). (step m (ClearNames ns)).next) (sym own)
      ∙ clear_next_is m names

  lost : AreLost m next names
  lost = subst (λ (n : Machine). AreLost m n names) (sym next_is) (cleared_are_lost m names)

  module _ (image : Files) where
    found_there : (key : List ℕ) (v : Version) (o : Option (List ℕ)) → entries image (file_name key) ≡ o → found (entries image) key ≡ Some v → whole_in (read_for key o) ≡ Some v
    found_there key v o there at = sym (ap (λ (c : Option (List ℕ)). whole_in (read_for key c)) there) ∙ at

    none_covered : HasNoneOf before.disk names image → (key : List ℕ) (v : Version) → found (entries image) key ≡ Some v → covers (value_hash origin) v.key v.header ≡ true → ⊥
    none_covered none key v at covered = elim (left_under before.disk m next names image (name_of (file_name key)) none lost (stand.1.entries (file_name key))) [
      | inl gone ↦ (let no : None ≡ Some v = found_there key v None gone at in cc)
      | inr same ↦ none_left m origin key v (found_there key v (get next.shelf (file_name key)) same at) covered
    ]

    none_found : HasNoneOf before.disk names image → (key : List ℕ) (v : Version) → found (entries image) key ≡ Some v → covers (value_hash origin) v.key v.header ≡ false
    none_found none key v at = false_from_ne_true (covers (value_hash origin) v.key v.header) (none_covered none key v at)

    -- what could stand before is found so
    could_find : (could : CouldBeBefore before.disk image) (key : List ℕ) → found (entries image) key ≡ found (entries could.0) key
    could_find could key = ap (λ (c : Option (List ℕ)). whole_in (read_for key c)) (could.1.1 (entry_place (file_name key)) tt)

    could_be_left : (could : CouldBeBefore before.disk image) → IsLeft before.disk h.marks could.0
    could_be_left could = safe_is_crash_safe before.disk h.marks keeps.stands.crash_kept.safe could.0 could.1.0

    none_or_all : IsLeftByClearing before.disk (value_hash origin) names image → IsNoneOrAll (value_hash origin) before.disk h.marks image
    none_or_all (Unbegun could) = AsBefore could.0 (could_be_left could) (could_find could)
    none_or_all (Marked mark) = MarkStands mark
    none_or_all (Whole none) = NoneIsLeft (none_found none)

  -- ---- an opening of it, and the clearing that is resumed

  module _ (bare : LeavesNoMark before.disk) (now : ℕ) (s : State) (o : Machine) (of : IsImage t (standing s)) (starts : StartsOn now s o) where
    mark_is : mark_of o.mark ≡ mark_of (standing s Clear)
    mark_is = ap (λ (n : Machine). mark_of n.mark) starts.is_opened

    shelf_is : (key : List ℕ) → found (get o.shelf) key ≡ found (entries (standing s)) key
    shelf_is key =
        ap (λ (n : Machine). found (get n.shelf) key) starts.is_opened
        ∙ ap (λ (c : Option (List ℕ)). whole_in (read_for key c)) (sym (starts.is_shelf.entries_are (file_name key)))

    resolved : IsLeftByClearing before.disk (value_hash origin) names (standing s) → FindsNoneOrAll (value_hash origin) before.disk h.marks (step o Resume).next
    resolved (Unbegun could) =
        let none : mark_of o.mark ≡ None = mark_is ∙ ap mark_of (could.1.1 Clear tt) ∙ bare could.0 could.1.0 in
        AllAsBefore could.0 (could_be_left (standing s) could)
        (λ key. ap (λ (n : Machine). found (get n.shelf) key) (resume_without_mark o none).0 ∙ shelf_is key ∙ could_find (standing s) could key)
    resolved (Marked mark) =
        let there : mark_of o.mark ≡ Some (value_hash origin) = mark_is ∙ ap mark_of mark ∙ (mark_read (value_hash origin) (value_hash_small origin)).1 in
        NoneFound (λ key v at. resumed_leaves_none o (value_hash origin) key v there at)
    resolved (Whole none) = NoneFound (λ key v at. none_found (standing s) none key v (sym (shelf_is key) ∙ resumed_finds o key v at))

pub stopped_clearing_is_none_or_all : StoppedClearingIsNoneOrAll
stopped_clearing_is_none_or_all origin before t h keeps tells stops image of =
    none_or_all origin before t h keeps tells stops image ((left origin before t h keeps tells stops).1.1 image of)

pub resumed_clearing_is_none_or_all : ResumedClearingIsNoneOrAll
resumed_clearing_is_none_or_all origin before t h keeps tells stops bare now s o of starts =
    resolved origin before t h keeps tells stops bare now s o of starts ((left origin before t h keeps tells stops).1.1 (standing s) of)
