-- How the entries of an origin are cleared.
use Rattle.std.proofs.Common.{◌≡◌, ◌∙◌, inl, inr, Bool, false, true, ◌==◌, cond, ℕ, List, [], ◌∷◌, length, Result, Ok, Err, IsErrAnd, IsTrue, OnOk, None, Some, filter, is_some, not, refl, sym, ap, subst}
use Rattle.std.specs.List.{AllByRecursion}
use Rattle.std.specs.Str.{bytes_eq}
use Rattle.std.proofs.lemmas.Bool.{eq-eqb, eqb-true, not-false, or_cases, or_left, or_parts, or_right}
use Rattle.std.proofs.lemmas.List.Elements.{filter_passes, recursion_from_All}
use Rattle.cache_base.specs.declared.name.Name.{Name}
use Rattle.cache_store.specs.Clearing.{AreCleared, ClearsByRecords, ClearsNames, HoldsNames, IsHeld, LeavesUncleared, is_used_or_stands}
use Rattle.cache_store.specs.Evicting.{DoomsAll, has_file}
use Rattle.memory_index.specs.Forgetting.{Forgets}
use Rattle.cache_store.specs.Kept.{Matches}
use Rattle.cache_store.specs.Open.{KeepsWhere, Represents}
use Rattle.cache_store.specs.Performing.{GoesBy}
use Rattle.cache_store.specs.Session.{Session}
use Rattle.cache_store.specs.StoppedClearing.{ClearsUnderMark, IsLeftByClearing}
use Rattle.cache_store.specs.StoppedClearing.IsLeftByClearing.{Unbegun}
use Rattle.cache_store.specs.declared.fault.StoreFault.{StoreFault}
use Rattle.memory_index.specs.declared.memory_index.MemoryIndex.{MemoryIndex}
use Rattle.cache_store.proofs.Evicting.EvictDoes.{touched_first}
use Rattle.cache_store.proofs.Evicting.Forgotten.{forgotten_tells}
use Rattle.cache_store.proofs.Records.IndexAchieves.{begun_spared, goes_on_telling, session_at, spares_same}
use Rattle.cache_store.proofs.Records.LearntAchieves.{holds_on}
use Rattle.cache_store.proofs.Records.ListDoes.{Finishes}
use Rattle.cache_store.proofs.Clearing.StoppedImages.{stopped_dooming, stopped_ending, stopped_storing}
use Rattle.cache_store.proofs.Clearing.MarkKept.{amid_ending_safe, amid_storing_safe, ended_goes_on, ended_keeps, ended_stands, ending_index, mark_index, mark_kept}
use Rattle.cache_store.proofs.Clearing.NamesDoomed.{not_in_use}
use Rattle.cache_store.proofs.Clearing.NothingDoomed.{IsBare, those_standing}
use Rattle.cache_store.proofs.Records.GoesBy.{goes_by}
use Rattle.memory_index.proofs.RecordsAtEnd.{some_at_end, sorted_at_end}
use Rattle.cache_store.proofs.Spared.{ended_in}
use Rattle.cache_store.proofs.Evicting.VictimsApart.{all_filtered, filtered_distinct}
use Rattle.cache_theory.specs.Checks.{checks}
use Rattle.cache_theory.specs.Command.Command.{ClearNames}
use Rattle.cache_theory.specs.Covers.{covered_by}
use Rattle.cache_theory.specs.Crash.{IsSafe}
use Rattle.cache_theory.specs.History.{History, begun, settled_at}
use Rattle.cache_theory.specs.Laws.{AreLost, is_among}
use Rattle.cache_theory.specs.Machine.{Machine}
use Rattle.cache_theory.specs.Marks.{Marks, begun as begun_marks, is_touched}
use Rattle.cache_theory.specs.Step.{all_doomed, cleared_of, effect, unmarked, update_ended}
use Rattle.cache_theory.specs.Table.{get}
use Rattle.cache_theory.proofs.Evictions.Evicting.{all_weaker, cleared_are_lost}
use Rattle.cache_theory.proofs.Clears.MarkStays.{no_mark_is_left}
use Rattle.cache_theory.proofs.Rested.{proper_rested, proper_unmarked}
use Rattle.context_clear.specs.Mark.{mark_bytes}
use Rattle.context_clear.specs.MarkFile.{IsAmidEnding, IsAmidStoring, RemovesFile, StoresMark}
use Rattle.context_clear.proofs.MarkStored.{mark_puts}
use Rattle.disk_theory.specs.Image.{Files, IsImage}
use Rattle.disk_theory.specs.Sound.{IsSound}
use Rattle.disk_theory.specs.Standing.{PutsContent}
use Rattle.disk_theory.specs.State.{State, standing}
use Rattle.disk_theory.specs.declared.place.Place.TheVariants.{Clear, Doomed, Entry}
use Rattle.disk_theory.specs.declared.disk.DiskFault.{DiskFault}
use Rattle.file_handles.specs.Cache.{cache_at}
use Rattle.file_handles.specs.Dooming.{TakesEntries}
use Rattle.handle_table.specs.Kept.{Kept}
use Rattle.file_handles.specs.Stands.{KeepsWhere as CacheKeepsWhere, ReachesHistory, Represents as CacheRepresents, RepresentsSome}
use Rattle.handle_table.specs.Users.{users_of}
use Rattle.file_handles.proofs.Begun.{begun_in}
use Rattle.handle_table.proofs.User.{no_one}
use Rattle.file_handles.proofs.Where.{bare_in, stand_for}
use Rattle.index_theory.specs.Ever.{entries_on}
use Rattle.index_record.specs.declared.record.IndexRecord.{IndexRecord}
use Rattle.index_theory.specs.Leaves.{LeavesIndex}
use Rattle.index_theory.proofs.LeavesLaws.{both_leave_index}
use Rattle.index_update.specs.Rest.{name_bytes}
use Rattle.index_update.proofs.ReadMore.{base_then}
use Rattle.record_list.specs.Lists.{record_at}
use Rattle.record_list.proofs.NameLaws.{rising_distinct, same_itself}
use Rattle.record_list.proofs.SortedLaws.{by_name_keeps}

-- ---- a clearing of given names

all_touched : (m : Machine) (names : List Name) (w : Marks) → AllByRecursion (λ n. is_touched (begun_marks m (ClearNames names) w) n.0 ≡ true) names
unfolding checks effect
all_touched m names w = touched_first names w.touched

-- it leaves no mark
cleared_mark : (m : Machine) (names : List Name) → (cleared_of m names).mark ≡ None
unfolding checks effect
cleared_mark m names = no_mark_is_left m (ClearNames names) (λ keeps. keeps)

-- each name is among them
own_among : (names : List Name) → AllByRecursion (λ n. is_among n.0 names ≡ true) names
own_among [] = tt
own_among (n ∷ names) = (
  or_left (bytes_eq n.0 n.0) (is_among n.0 names) (same_itself n),
  all_weaker (λ k. is_among k.0 names ≡ true) (λ k. is_among k.0 (n ∷ names) ≡ true) names (λ k among. or_right (bytes_eq k.0 n.0) (is_among k.0 names) among) (own_among names),
)

-- it failed, after which a crash may lose no more than its marks allow
clears_not : (crash : Bool) (names : List Name) (h : History) (answer : Result ℕ StoreFault) (P : StoreFault → Type 0) → IsErrAnd answer P
    → (before after : Session) → (IsTrue crash → IsSafe after.disk (begun (ClearNames names) h).marks) → ClearsNames crash names h answer before after
clears_not crash names h (Ok n) P failed before after safe = absurd failed
clears_not crash names h (Err f) P failed before after safe = record { safe = safe; count = tt; settled = tt; begun_on = tt; tells = tt }

-- ---- nothing is changed yet

-- the disk was looked at
pub clear_looks : (origin : ℕ) (answer : Result ℕ StoreFault) (P : StoreFault → Type 0) → IsErrAnd answer P
    → (k : Kept) (now : ℕ) (s t : State) (old new : MemoryIndex) → t ≡ s
    → ClearsByRecords origin answer (session_at k now old s) (session_at k now new t)
clear_looks origin answer P failed k now s t old new same crash h is =
    let records = some_at_end (entries_on s) old in
    let names = covered_by records.0 h.machine origin in (
      records.0,
      (
        goes_by k now s old h.machine (stand_for is.stands) records.0 records.1,
        clears_not crash names h answer P failed (session_at k now old s) (session_at k now new t)
            (λ on. ((begun_spared (ClearNames names) (session_at k now old s) t h is (λ apart. spares_same s t same)).crash_kept on).safe),
      ),
    )

-- then a crash leaves what it could leave before
pub looks_stopped : (origin : ℕ) (k : Kept) (now : ℕ) (s t : State) (old : MemoryIndex) → t ≡ s → ClearsUnderMark origin (session_at k now old s) t
looks_stopped origin k now s t old same m is =
    let records = some_at_end (entries_on s) old in
    (records.0, (records.1, λ image of. Unbegun (image, (subst (λ (u : State). IsImage u image) same of, λ p lasting. refl))))

-- ---- the mark is stored, entries are doomed, and the mark is removed

module _ (origin : ℕ) (k l : Kept) (now : ℕ) (s t : State) (old mid : MemoryIndex) (names : List Name) (finishes : Finishes s t old mid)
    (are : AreCleared mid.map k origin names) where
  -- the records of the names are out afterwards, and the others are as they were
  pub clear_leaves : (new : MemoryIndex) → Forgets names mid.map new.map → LeavesUncleared (session_at k now old s) origin new.map
  clear_leaves new forgets m is =
      let stand = is.stands in
      let chosen : names ≡ covered_by are.records m origin = are.chosen m stand.0 stand.1.proper stand.1.handles in (
        are.records,
        (
          sorted_at_end (entries_on s) old mid.map are.records are.known are.by_name finishes.records,
          λ q. forgets.records q ∙ ap (λ ns. cond (is_among q.0 ns) None (record_at mid.map.records q)) chosen
              ∙ ap (λ o. cond (is_among q.0 (covered_by are.records m origin)) None o) (sym (by_name_keeps mid.map.records are.records are.known.names are.by_name q)),
        ),
      )

  -- what a crash leaves of the names it leaves of those that the records tell
  stopped_for : (u : State)
      → ((m : Machine) → Represents (session_at k now old s) m → (image : Files) → IsImage u image → IsLeftByClearing s origin names image)
      → ClearsUnderMark origin (session_at k now old s) u
  stopped_for u each m is =
      let stand = is.stands in (
        are.records,
        (
          sorted_at_end (entries_on s) old mid.map are.records are.known are.by_name finishes.records,
          λ image of. subst (λ (ns : List Name). IsLeftByClearing s origin ns image) (are.chosen m stand.0 stand.1.proper stand.1.handles) (each m is image of),
        ),
      )

  module _ (crash : Bool) (h : History) (is : KeepsWhere crash (session_at k now old s) h) where
    stand : CacheRepresents (cache_at k s) h.machine
    stand = stand_for is.stands

    -- the names are those that the records in memory tell
    by_records : (answer : Result ℕ StoreFault) (after : Session) → ClearsNames crash names h answer (session_at k now old s) after
        → (records : List IndexRecord) × (GoesBy (session_at k now old s) h.machine records × ClearsNames crash (covered_by records h.machine origin) h answer (session_at k now old s) after)
    by_records answer after clears = (
      are.records,
      (
        goes_by k now s old h.machine stand are.records (sorted_at_end (entries_on s) old mid.map are.records are.known are.by_name finishes.records),
        subst (λ (ns : List Name). ClearsNames crash ns h answer (session_at k now old s) after) (are.chosen h.machine stand.0 stand.1.proper stand.1.handles) clears,
      ),
    )

    -- the update has ended, no mark is left, and the clearing has begun
    abbrev pub ended : History
    ended = record { machine = update_ended (unmarked h.machine); marks = (begun (ClearNames names) h).marks }

    pub started : CacheKeepsWhere crash (cache_at k s) ended
    started = ended_in (cache_at k s) (begun (ClearNames names) h) (begun_in s k h.machine (ClearNames names) h.marks is.stands)

    -- those that are in use or stand are doomed
    abbrev pub reached : History
    reached = record { machine = all_doomed (update_ended (unmarked h.machine)) (filter (is_used_or_stands k s) names); marks = (begun (ClearNames names) h).marks }

    pub held_touched : AllByRecursion (λ n. is_touched ended.marks n.0 ≡ true) (filter (is_used_or_stands k s) names)
    held_touched = all_filtered (λ n. is_touched (begun (ClearNames names) h).marks n.0 ≡ true) (is_used_or_stands k s) names (all_touched h.machine names h.marks)

    -- the others are neither
    bare_name : (n : Name) → IsBare (is_used_or_stands k s) (update_ended (unmarked h.machine)) n
    bare_name n none =
        let parts = or_parts (not (users_of k n == 0)) (has_file s n) none in (
          no_one (get h.machine.shelf n.0) (ap is_some (sym (stand.1.entries n.0)) ∙ parts.1),
          not_in_use (cache_at k s) h.machine stand n (eqb-true (users_of k n) 0 (not-false (users_of k n == 0) parts.0)),
        )

    bare_all : (ns : List Name) → AllByRecursion (IsBare (is_used_or_stands k s) (update_ended (unmarked h.machine))) ns
    bare_all [] = tt
    bare_all (n ∷ ns) = (bare_name n, bare_all ns)

    all_gone : reached.machine ≡ cleared_of h.machine names
    all_gone = those_standing (is_used_or_stands k s) (update_ended (unmarked h.machine)) names
        (proper_rested (unmarked h.machine) [] (proper_unmarked h.machine stand.1.proper)) refl (bare_all names)

    lost : AreLost h.machine (cleared_of h.machine names) names
    lost = cleared_are_lost h.machine names

    pub clear_done : (u2 u : State) (new : MemoryIndex) (count : ℕ) → count ≡ length names → IsSound u2 → RemovesFile u2 u → LeavesIndex s u → Forgets names mid.map new.map → new.update ≡ mid.update
        → (IsTrue crash → IsSafe u (begun (ClearNames names) h).marks) → CacheKeepsWhere crash (cache_at l u2) reached
        → ClearsNames crash names h (Ok count) (session_at k now old s) (session_at l now new u)
    clear_done u2 u new count counted sound removes index forgets rest safe stands =
        let rest_is : (cleared_of h.machine names).rest ≡ name_bytes new.update = lost.rest ∙ ap name_bytes (sym (rest ∙ finishes.ended)) in
        let matches : Matches (session_at l now new u) (cleared_of h.machine names) = record {
          moment = lost.moment ∙ is.matches.moment;
          rest = rest_is;
          mark = cleared_mark h.machine names ∙ sym (ended_stands u2 u removes);
          holds = holds_on s u old.map new.map index (base_then old.map mid.map new.map finishes.base forgets.base) is.matches.holds;
        } in
        record {
          safe = safe;
          count = counted;
          settled = record {
            stands = subst (λ (n : Machine). CacheKeepsWhere crash (cache_at l u) (settled_at n)) all_gone (ended_keeps crash l u2 u reached sound stands removes);
            matches = matches;
          };
          begun_on = record {
            stands = subst (λ (n : Machine). CacheKeepsWhere crash (cache_at l u) (record { machine = n; marks = (begun (ClearNames names) h).marks })) all_gone
                (ended_goes_on crash l u2 u reached sound stands removes);
            matches = matches;
          };
          tells = λ told. record {
            rest = rest_is;
            tells = forgotten_tells h.machine (cleared_of h.machine names) names lost mid new forgets finishes.ended rest
                (goes_on_telling k s h.machine old mid stand finishes.tells told.tells);
          };
        }

    pub clear_stops : (answer : Result ℕ StoreFault) (P : StoreFault → Type 0) → IsErrAnd answer P → (u : State) (new : MemoryIndex)
        → (IsTrue crash → IsSafe u (begun (ClearNames names) h).marks)
        → ClearsNames crash names h answer (session_at k now old s) (session_at l now new u)
    clear_stops answer P failed u new safe = clears_not crash names h answer P failed (session_at k now old s) (session_at l now new u) safe

  module _ (number : ℕ) (bytes : List ℕ) (v : State) (same : v ≡ s) (sound : IsSound v) where
    begun_there : (crash : Bool) (h : History) (is : KeepsWhere crash (session_at k now old s) h) → CacheKeepsWhere crash (cache_at k v) (ended crash h is)
    begun_there crash h is = subst (λ (x : State). CacheKeepsWhere crash (cache_at k x) (ended crash h is)) (sym same) (started crash h is)

    -- the mark could not be stored
    pub store_fails : (answer : Result ℕ StoreFault) (P : StoreFault → Type 0) → IsErrAnd answer P → (u : State) (new : MemoryIndex) → IsAmidStoring number bytes v u
        → ClearsByRecords origin answer (session_at k now old s) (session_at l now new u)
    store_fails answer P failed u new amid crash h is =
        by_records crash h is answer (session_at l now new u)
        (clear_stops crash h is answer P failed u new (λ on. amid_storing_safe v u _ number bytes sound ((begun_there crash h is).crash_kept on).safe amid))

    -- a crash leaves what it could leave before, or the whole mark
    pub store_stopped : bytes ≡ mark_bytes origin → standing v (Doomed number) ≡ None → (u : State) → IsAmidStoring number bytes v u
        → ClearsUnderMark origin (session_at k now old s) u
    store_stopped mark free u amid = stopped_for u (λ m is image of.
        subst (λ (x : State). IsLeftByClearing x origin names image) same
        (stopped_storing v u number origin names sound free (subst (λ (bs : List ℕ). IsAmidStoring number bs v u) mark amid) image of))

    module _ (u1 : State) (free : standing v (Doomed number) ≡ None) (stored : StoresMark number bytes v u1) where
      -- and so it does while entries are doomed
      pub doom_stopped : bytes ≡ mark_bytes origin → (u : State) → TakesEntries u1 u → ClearsUnderMark origin (session_at k now old s) u
      doom_stopped mark u takes = stopped_for u (λ m is image of.
          subst (λ (x : State). IsLeftByClearing x origin names image) same
          (stopped_dooming v u1 u number origin names sound free (subst (λ (bs : List ℕ). StoresMark number bs v u1) mark stored) takes image of))

      marked : (crash : Bool) (h : History) (is : KeepsWhere crash (session_at k now old s) h) → CacheKeepsWhere crash (cache_at k u1) (ended crash h is)
      marked crash h is = mark_kept crash k v u1 (ended crash h is) number bytes sound free (begun_there crash h is) stored

      -- the names that are in use or stand may be doomed then
      pub names_held : (files : List Name) → files ≡ filter (is_used_or_stands k s) names → RepresentsSome (cache_at k s) → HoldsNames (cache_at k u1) files
      names_held files files_are (m, represents) = subst (HoldsNames (cache_at k u1)) (sym files_are) (record {
        stands = (m, stand_for (mark_kept false k v u1 (settled_at m) number bytes sound free (subst (λ (x : State). CacheKeepsWhere false (cache_at k x) (settled_at m)) (sym same) (bare_in {h = settled_at m} represents)) stored));
        distinct = filtered_distinct (is_used_or_stands k s) names (rising_distinct names are.rising);
        held = all_weaker (λ n. is_used_or_stands k s n ≡ true) (IsHeld (cache_at k u1)) (filter (is_used_or_stands k s) names) still_held
            (recursion_from_All (λ n. is_used_or_stands k s n ≡ true) (filter (is_used_or_stands k s) names) (filter_passes (is_used_or_stands k s) names));
      })
        where
          puts : PutsContent Clear (Some bytes) v u1
          puts = subst (PutsContent Clear (Some bytes) v) (sym stored) (mark_puts v number bytes sound free)

          still_held : (n : Name) → is_used_or_stands k s n ≡ true → IsHeld (cache_at k u1) n
          still_held n held unused = elim (or_cases (not (users_of k n == 0)) (has_file s n) held) [
            | inl used ↦ absurd (let none : (users_of k n == 0) ≡ true = eq-eqb (users_of k n) 0 unused in cc)
            | inr stands ↦ ap is_some (puts.others (Entry n) (λ e. cc) ∙ ap (λ (x : State). standing x (Entry n)) same) ∙ stands
          ]

      module _ (files : List Name) (files_are : files ≡ filter (is_used_or_stands k s) names) (r : Result (Unit {0}) DiskFault) (u2 : State)
          (dooms : DoomsAll files r (cache_at k u1) (cache_at l u2)) where
        reaches : (crash : Bool) (h : History) (is : KeepsWhere crash (session_at k now old s) h) → ReachesHistory crash (reached crash h is) r (cache_at l u2)
        reaches crash h is =
            (subst (λ (ns : List Name). DoomsAll ns r (cache_at k u1) (cache_at l u2)) files_are dooms).leaves crash (ended crash h is) (held_touched crash h is) (marked crash h is)

        -- an entry could not be doomed
        pub doom_fails : (answer : Result ℕ StoreFault) (P : StoreFault → Type 0) → IsErrAnd answer P → (new : MemoryIndex)
            → ClearsByRecords origin answer (session_at k now old s) (session_at l now new u2)
        doom_fails answer P failed new crash h is =
            by_records crash h is answer (session_at l now new u2) (clear_stops crash h is answer P failed u2 new (reaches crash h is).safe)

        module _ (x : Unit {0}) (ok : r ≡ Ok x) where
          doomed : (crash : Bool) (h : History) (is : KeepsWhere crash (session_at k now old s) h) → CacheKeepsWhere crash (cache_at l u2) (reached crash h is)
          doomed crash h is = subst (λ (q : Result (Unit {0}) DiskFault). OnOk q (CacheKeepsWhere crash (cache_at l u2) (reached crash h is))) ok (reaches crash h is).next

          ending_safe : (crash : Bool) (h : History) (is : KeepsWhere crash (session_at k now old s) h) (u3 : State) → IsAmidEnding u2 u3 → IsTrue crash → IsSafe u3 (begun (ClearNames names) h).marks
          ending_safe crash h is u3 amid on = amid_ending_safe u2 u3 _ ((doomed crash h is).crash_kept on).safe amid

          -- under none of the names a file stands then
          none_stands : (m : Machine) → Represents (session_at k now old s) m → AllByRecursion (λ n. standing u2 (Entry n) ≡ None) names
          none_stands m is =
              let keeps : KeepsWhere false (session_at k now old s) (settled_at m) = record { stands = bare_in {h = settled_at m} is.stands; matches = is.matches } in
              let there = stand_for (doomed false (settled_at m) keeps) in
              all_weaker (λ n. is_among n.0 names ≡ true) (λ n. standing u2 (Entry n) ≡ None) names
              (λ n among. there.1.entries n.0
              ∙ ap (λ (y : Machine). get y.shelf n.0) (all_gone false (settled_at m) keeps)
              ∙ (lost false (settled_at m) keeps).shelf n.0
              ∙ ap (λ b. cond b None (get m.shelf n.0)) among)
              (own_among names)

          -- so while the mark is removed a crash may also leave all of the clearing
          pub end_stopped : bytes ≡ mark_bytes origin → TakesEntries u1 u2 → (u3 : State) → IsAmidEnding u2 u3 → ClearsUnderMark origin (session_at k now old s) u3
          end_stopped mark takes u3 amid = stopped_for u3 (λ m is image of.
              subst (λ (y : State). IsLeftByClearing y origin names image) same
              (stopped_ending v u1 u2 u3 number origin names sound free (subst (λ (bs : List ℕ). StoresMark number bs v u1) mark stored) takes (none_stands m is) amid image of))

          -- the mark could not be removed
          pub end_fails : (answer : Result ℕ StoreFault) (P : StoreFault → Type 0) → IsErrAnd answer P → (u3 : State) (new : MemoryIndex) → IsAmidEnding u2 u3
              → ClearsByRecords origin answer (session_at k now old s) (session_at l now new u3)
          end_fails answer P failed u3 new amid crash h is =
              by_records crash h is answer (session_at l now new u3) (clear_stops crash h is answer P failed u3 new (ending_safe crash h is u3 amid))

          -- all is done
          pub clear_does : (u3 : State) (new : MemoryIndex) (count : ℕ) → count ≡ length names → IsSound u2 → RemovesFile u2 u3 → LeavesIndex s u3 → Forgets names mid.map new.map → new.update ≡ mid.update
              → ClearsByRecords origin (Ok count) (session_at k now old s) (session_at l now new u3)
          clear_does u3 new count counted sound2 removes index forgets rest crash h is =
              by_records crash h is (Ok count) (session_at l now new u3)
              (clear_done crash h is u2 u3 new count counted sound2 removes index forgets rest (ending_safe crash h is u3 (inr (inr removes))) (doomed crash h is))

-- ---- the index

-- the mark's storing, the dooming and the mark's removal leave it alone
pub index_stored : (s v u : State) (number : ℕ) (bytes : List ℕ) → v ≡ s → IsSound v → IsAmidStoring number bytes v u → LeavesIndex s u
index_stored s v u number bytes same sound amid = subst (λ (x : State). LeavesIndex x u) same (mark_index v u number bytes sound amid)

pub index_ended : (s u2 u3 : State) → LeavesIndex s u2 → IsSound u2 → IsAmidEnding u2 u3 → LeavesIndex s u3
index_ended s u2 u3 before sound amid = both_leave_index s u2 u3 before (ending_index u2 u3 sound amid)

-- ---- the names that are in use or stand, by slices

pub files_from : (k : Kept) (s t : State) (names given there files : List Name) → given ≡ names → files ≡ there → t ≡ s → there ≡ filter (is_used_or_stands k t) given
    → files ≡ filter (is_used_or_stands k s) names
files_from k s t names given there files same_names same_files same are =
    same_files ∙ are ∙ (λ i. filter (is_used_or_stands k (same i)) (same_names i))

-- ---- the number of the mark is free

pub number_free : (k : Kept) (s v : State) (number : ℕ) → v ≡ s → ((t : State) (m : Machine) → CacheRepresents (cache_at k t) m → standing t (Doomed number) ≡ None)
    → RepresentsSome (cache_at k s) → standing v (Doomed number) ≡ None
number_free k s v number same free (m, represents) = free v m (subst (λ (x : State). CacheRepresents (cache_at k x) m) (sym same) represents)
