-- How entries are evicted.
use Rattle.std.proofs.Common.{◌≡◌, ◌≢◌, ◌∙◌, inl, inr, Bool, true, cond, ◌++◌, ◌∷◌, ℕ, List, [], Result, Ok, Err, IsErrAnd, filter, is_some, map, refl, sym, ap, subst}
use Rattle.std.specs.List.{AllByRecursion, list_any}
use Rattle.std.specs.Prelude.{None, OnOk}
use Rattle.std.specs.Str.{bytes_eq}
use Rattle.std.proofs.lemmas.Bool.{or_cases, or_left, or_right}
use Rattle.cache_base.specs.declared.name.Name.{Name}
use Rattle.cache_store.specs.Answering.{AnswersTo}
use Rattle.cache_replies.specs.Answers.{outcome_of}
use Rattle.cache_store.specs.DoneFor.{IsDoneBy}
use Rattle.cache_store.specs.Evicting.{AreVictims, DoomsAll, LeavesOthers, has_file}
use Rattle.memory_index.specs.Forgetting.{Forgets}
use Rattle.cache_store.specs.Open.{KeepsWhere, Tells}
use Rattle.cache_store.specs.Performing.{GoesBy, SaysThere, DoesCommand, DoesWhatIsDone, HadEffect}
use Rattle.cache_replies.specs.Said.{Saying}
use Rattle.cache_replies.specs.Saying.{CutsIn, SaysMore}
use Rattle.cache_replies.specs.declared.answered.Answered.{Answered}
use Rattle.cache_replies.specs.declared.answered.Answered.TheVariants as answered
use Rattle.cache_store.specs.declared.fault.StoreFault.{StoreFault}
use Rattle.cache_store.specs.declared.fault.StoreFault.TheVariants as fault
use Rattle.memory_index.specs.declared.memory_index.MemoryIndex.{MemoryIndex}
use Rattle.cache_store.proofs.Evicting.Forgotten.{forgotten_tells}
use Rattle.cache_store.proofs.Records.IndexAchieves.{begun_spared, comes_from, goes_on_telling, session_at, spares_same}
use Rattle.cache_store.proofs.Records.LearntAchieves.{holds_on}
use Rattle.cache_store.proofs.Records.ListDoes.{Finishes}
use Rattle.cache_store.proofs.Clearing.NamesDoomed.{not_in_use, shelf_there}
use Rattle.cache_store.proofs.Clearing.NothingDoomed.{IsBare, those_standing}
use Rattle.cache_store.proofs.Records.GoesBy.{goes_by}
use Rattle.memory_index.proofs.RecordsAtEnd.{some_at_end, sorted_at_end}
use Rattle.cache_store.proofs.Saying.SaidWhole.{fails_unsaid, if_err, on_ok, whole_cut, whole_said}
use Rattle.cache_store.proofs.Spared.{rested_in}
use Rattle.cache_store.proofs.Evicting.VictimsApart.{all_filtered, victims_by_name, victims_unused}
use Rattle.cache_theory.specs.Checks.{checks}
use Rattle.cache_theory.specs.Command.{Command}
use Rattle.cache_theory.specs.Command.Command.{Evict, EvictNames}
use Rattle.cache_theory.specs.Command.Reply.{Evicted}
use Rattle.cache_theory.specs.History.{History, acked, begun}
use Rattle.cache_theory.specs.Laws.{AreTakenOff, is_among}
use Rattle.cache_theory.specs.Machine.{Machine, open_names}
use Rattle.cache_theory.specs.Marks.{Marks, begun as begun_marks, is_touched}
use Rattle.cache_theory.specs.Step.{all_doomed, effect, step, update_ended}
use Rattle.cache_theory.specs.Table.{get}
use Rattle.cache_theory.specs.Text.{names_text, reply_text}
use Rattle.cache_theory.proofs.Evictions.Evicting.{all_weaker, unused_are_taken_off}
use Rattle.cache_theory.proofs.Names.{same_bytes}
use Rattle.cache_theory.proofs.Clears.MarkStays.{mark_stays}
use Rattle.cache_theory.proofs.Rested.{proper_rested}
use Rattle.disk_theory.specs.State.{State}
use Rattle.disk_theory.specs.declared.disk.DiskFault.{DiskFault}
use Rattle.evictor.specs.Evict.{victims}
use Rattle.file_handles.specs.Cache.{cache_at}
use Rattle.handle_table.specs.Kept.{Kept}
use Rattle.file_handles.specs.Stands.{KeepsWhere as CacheKeepsWhere, ReachesHistory, Represents as CacheRepresents}
use Rattle.handle_table.specs.Users.{users_of}
use Rattle.file_handles.proofs.Begun.{begun_in}
use Rattle.handle_table.proofs.User.{no_one}
use Rattle.file_handles.proofs.Where.{stand_for}
use Rattle.index_map.proofs.Sorted.{sorted, sorted_by_name}
use Rattle.index_record.specs.declared.record.IndexRecord.{IndexRecord}
use Rattle.index_theory.specs.Ever.{entries_on}
use Rattle.index_theory.specs.Leaves.{LeavesBeside}
use Rattle.index_update.specs.Rest.{name_bytes}
use Rattle.index_update.proofs.ReadMore.{base_then}
use Rattle.record_list.specs.Lists.{IsByName, record_at}
use Rattle.record_list.proofs.NameLaws.{same_itself}
use Rattle.record_list.proofs.SortedLaws.{by_name_keeps}

-- ---- an eviction of given names

evict_reply_is : (m : Machine) (names : List Name) → (step m (EvictNames names)).reply ≡ Evicted names
unfolding checks effect
evict_reply_is m names = refl

evict_next_is : (m : Machine) (names : List Name) → (step m (EvictNames names)).next ≡ all_doomed (update_ended m) names
unfolding checks effect
evict_next_is m names = refl

evict_text_is : (m : Machine) (names : List Name) → names_text names ≡ reply_text (step m (EvictNames names)).reply
unfolding reply_text
evict_text_is m names = ap reply_text (sym (evict_reply_is m names))

-- it touches each of them
pub touched_first : (names : List Name) (more : List (List ℕ)) → AllByRecursion (λ n. list_any (bytes_eq n.0) (map (λ k. k.0) names ++ more) ≡ true) names
touched_first [] more = tt
touched_first (n ∷ names) more =
    let later : List (List ℕ) = map (λ k. k.0) names ++ more in (
      or_left (bytes_eq n.0 n.0) (list_any (bytes_eq n.0) later) (same_itself n),
      all_weaker (λ k. list_any (bytes_eq k.0) later ≡ true) (λ k. list_any (bytes_eq k.0) (n.0 ∷ later) ≡ true) names
          (λ k among. or_right (bytes_eq k.0 n.0) (list_any (bytes_eq k.0) later) among) (touched_first names more),
    )

all_touched : (m : Machine) (names : List Name) (w : Marks) → AllByRecursion (λ n. is_touched (begun_marks m (EvictNames names) w) n.0 ≡ true) names
unfolding checks effect
all_touched m names w = touched_first names w.touched

-- what holds of each name holds of one among them
pub among_all : (P : List ℕ → Type 0) (names : List Name) (name : List ℕ) → AllByRecursion (λ n. P n.0) names → is_among name names ≡ true → P name
among_all P [] name h among = absurd (cc)
among_all P (n ∷ names) name h among =
    elim (or_cases (bytes_eq name n.0) (is_among name names) among) [
      | inl here ↦ subst P (sym (same_bytes name n.0 here)) h.0
      | inr there ↦ among_all P names name h.1 there
    ]

-- ---- no file is removed yet

-- the disk was looked at, and the sink did not fail
pub evict_looks : (kb : ℕ) (answer : Result Answered StoreFault) (P : StoreFault → Type 0) → IsErrAnd answer P → ((f : StoreFault) → P f → f ≢ fault.Sink)
    → (k : Kept) (now : ℕ) (s t : State) (old new : MemoryIndex) (was : Saying) → t ≡ s
    → DoesWhatIsDone (Evict kb) answer (session_at k now old s) (session_at k now new t) was.taken was
evict_looks kb answer P failed other k now s t old new was same crash h is =
    let records = some_at_end (entries_on s) old in
    let done : Command = EvictNames (victims records.0 (open_names h.machine) kb) in (
      done,
      (
        (records.0, (refl, goes_by k now s old h.machine (stand_for is.stands) records.0 records.1)),
        fails_unsaid crash done h answer P failed other (session_at k now old s) (session_at k now new t) was
            (λ on. ((begun_spared done (session_at k now old s) t h is (λ apart. spares_same s t same)).crash_kept on).safe),
      ),
    )

-- ---- files are removed

-- the files of those of the names that stand are removed, or some first of them
pub record Removes (names : List Name) (r : Result (Unit {0}) DiskFault) (k l : Kept) (s u : State) : Type 0 where
  pub dooms : DoomsAll (filter (has_file s) names) r (cache_at k s) (cache_at l u)
  pub index : LeavesBeside s u

-- the same where the disk was looked at before, and the names and the files are slices
pub removes : (names given list files : List Name) (r : Result (Unit {0}) DiskFault) (k l : Kept) (s t v u : State) → given ≡ names → files ≡ list → list ≡ filter (has_file t) given
    → t ≡ s → v ≡ t → DoomsAll files r (cache_at k v) (cache_at l u) → LeavesBeside v u → Removes names r k l s u
removes names given list files r k l s t v u same_names same_files are first second dooms index =
    let stand : files ≡ filter (has_file s) names = same_files ∙ are ∙ (λ i. filter (has_file (first i)) (same_names i)) in
    let same : v ≡ s = second ∙ first in
    record {
      dooms = subst (λ (ns : List Name). DoomsAll ns r (cache_at k s) (cache_at l u)) stand (subst (λ (x : State). DoomsAll files r (cache_at k x) (cache_at l u)) same dooms);
      index = subst (λ (x : State). LeavesBeside x u) same index;
    }

module _ (kb : ℕ) (k l : Kept) (now : ℕ) (s t u : State) (old mid : MemoryIndex) (names : List Name) (r : Result (Unit {0}) DiskFault) (finishes : Finishes s t old mid)
    (are : AreVictims mid.map k kb names) (removed : Removes names r k l s u) where
  -- the records in name order
  abbrev records : List IndexRecord
  records = sorted mid.map.records

  by_name : IsByName mid.map.records records
  by_name = sorted_by_name mid.map.records are.known.names

  chosen_of : (m : Machine) → are.in_use ≡ open_names m → names ≡ victims records (open_names m) kb
  chosen_of m opened = victims_by_name mid.map k kb names are ∙ ap (λ ns. victims records ns kb) opened

  -- the records of the victims are out afterwards, and the others are as they were
  pub evict_leaves : (new : MemoryIndex) → Forgets names mid.map new.map → LeavesOthers (session_at k now old s) kb new.map
  evict_leaves new forgets m is =
      let stand = is.stands in
      let chosen = chosen_of m (are.opened m stand.0 stand.1.proper stand.1.handles) in (
        records,
        (
          sorted_at_end (entries_on s) old mid.map records are.known by_name finishes.records,
          λ q. forgets.records q ∙ ap (λ ns. cond (is_among q.0 ns) None (record_at mid.map.records q)) chosen
              ∙ ap (λ o. cond (is_among q.0 (victims records (open_names m) kb)) None o) (sym (by_name_keeps mid.map.records records are.known.names by_name q)),
        ),
      )

  module _ (crash : Bool) (h : History) (is : KeepsWhere crash (session_at k now old s) h) where
    stand : CacheRepresents (cache_at k s) h.machine
    stand = stand_for is.stands

    -- the names are the victims of the records in memory
    done_is : IsDoneBy (GoesBy (session_at k now old s) h.machine) (SaysThere (session_at k now old s) h.machine) (Evict kb) h.machine (EvictNames names)
    done_is =
        let opened : are.in_use ≡ open_names h.machine = are.opened h.machine stand.0 stand.1.proper stand.1.handles in (
          records,
          (
            ap EvictNames (chosen_of h.machine opened),
            goes_by k now s old h.machine stand records (sorted_at_end (entries_on s) old mid.map records are.known by_name finishes.records),
          ),
        )

    -- the update has ended, and the eviction has begun
    abbrev ended : History
    ended = record { machine = update_ended h.machine; marks = (begun (EvictNames names) h).marks }

    abbrev reached : History
    reached = record { machine = all_doomed (update_ended h.machine) (filter (has_file s) names); marks = (begun (EvictNames names) h).marks }

    reaches : ReachesHistory crash reached r (cache_at l u)
    reaches =
        removed.dooms.leaves crash ended
        (all_filtered (λ n. is_touched (begun (EvictNames names) h).marks n.0 ≡ true) (has_file s) names (all_touched h.machine names h.marks))
        (rested_in [] (cache_at k s) (begun (EvictNames names) h) (begun_in s k h.machine (EvictNames names) h.marks is.stands))

    unused : AllByRecursion (λ n. get h.machine.in_use n.0 ≡ None) names
    unused =
        all_weaker (λ n. users_of k n ≡ 0) (λ n. get h.machine.in_use n.0 ≡ None) names (λ n none. not_in_use (cache_at k s) h.machine stand n none)
        (victims_unused mid.map k kb names are)

    bare : AllByRecursion (IsBare (has_file s) (update_ended h.machine)) names
    bare =
        all_weaker (λ n. users_of k n ≡ 0) (IsBare (has_file s) (update_ended h.machine)) names
        (λ n none gone. (
          no_one (get h.machine.shelf n.0) (ap is_some (sym (shelf_there (cache_at k s) h.machine stand n none)) ∙ gone),
          not_in_use (cache_at k s) h.machine stand n none,
        ))
        (victims_unused mid.map k kb names are)

    off : AreTakenOff h.machine (step h.machine (EvictNames names)).next names
    off =
        subst (λ (n : Machine). AreTakenOff h.machine n names) (sym (evict_next_is h.machine names))
        (unused_are_taken_off h.machine names (λ name among. among_all (λ n. get h.machine.in_use n ≡ None) names name unused among))

    module _ (x : Unit {0}) (ok : r ≡ Ok x) (new : MemoryIndex) (forgets : Forgets names mid.map new.map) (rest : new.update ≡ mid.update) where
      stands_then : CacheKeepsWhere crash (cache_at l u) (acked (EvictNames names) h)
      stands_then =
          let all : (reached.machine) ≡ (step h.machine (EvictNames names)).next =
          those_standing (has_file s) (update_ended h.machine) names (proper_rested h.machine [] stand.1.proper) refl bare ∙ sym (evict_next_is h.machine names) in
          subst (λ (n : Machine). CacheKeepsWhere crash (cache_at l u) (record { machine = n; marks = (begun (EvictNames names) h).marks })) all
          (subst (λ (q : Result (Unit {0}) DiskFault). OnOk q (CacheKeepsWhere crash (cache_at l u) reached)) ok reaches.next)

      rest_is : (step h.machine (EvictNames names)).next.rest ≡ name_bytes new.update
      rest_is = off.lost.rest ∙ ap name_bytes (sym (rest ∙ finishes.ended))

      next : KeepsWhere crash (session_at l now new u) (acked (EvictNames names) h)
      next = record {
        stands = stands_then;
        matches = record {
          moment = off.lost.moment ∙ is.matches.moment;
          rest = rest_is;
          mark = mark_stays h.machine (EvictNames names) tt ∙ is.matches.mark ∙ sym removed.index.mark;
          holds = holds_on s u old.map new.map removed.index.index (base_then old.map mid.map new.map finishes.base forgets.base) is.matches.holds;
        };
      }

      tells_next : Tells (session_at k now old s) h.machine → Tells (session_at l now new u) (step h.machine (EvictNames names)).next
      tells_next told = record {
        rest = rest_is;
        tells = forgotten_tells h.machine (step h.machine (EvictNames names)).next names off.lost mid new forgets finishes.ended rest
            (goes_on_telling k s h.machine old mid stand finishes.tells told.tells);
      }

      does_by : (answer : Result Answered StoreFault) (was later : Saying) → AnswersTo (step h.machine (EvictNames names)).reply answer was.taken later
          → DoesCommand crash (EvictNames names) h answer (session_at k now old s) (session_at l now new u) was.taken later
      does_by answer was later answers = record {
        safe = reaches.safe;
        answers = answers;
        next = on_ok answer next;
        effect = if_err answer (λ f same. next);
        tells = λ had. comes_from (EvictNames names) (session_at k now old s) h.machine _ (λ e. cc) tells_next;
      }

  -- a removal failed, and nothing of the reply went out
  pub evict_fails : (answer : Result Answered StoreFault) (P : StoreFault → Type 0) → IsErrAnd answer P → ((f : StoreFault) → P f → f ≢ fault.Sink)
      → (new : MemoryIndex) (was : Saying) → DoesWhatIsDone (Evict kb) answer (session_at k now old s) (session_at l now new u) was.taken was
  evict_fails answer P failed other new was crash h is = (
    EvictNames names,
    (
      done_is crash h is,
      fails_unsaid crash (EvictNames names) h answer P failed other (session_at k now old s) (session_at l now new u) was (reaches crash h is).safe,
    ),
  )

  module _ (x : Unit {0}) (ok : r ≡ Ok x) (new : MemoryIndex) (forgets : Forgets names mid.map new.map) (rest : new.update ≡ mid.update) (was later : Saying) (empty : was.held ≡ []) where
    -- all is said
    pub evict_does : SaysMore was later (names_text names) → DoesWhatIsDone (Evict kb) (Ok answered.All) (session_at k now old s) (session_at l now new u) was.taken later
    evict_does says crash h is = (
      EvictNames names,
      (
        done_is crash h is,
        does_by crash h is x ok new forgets rest (Ok answered.All) was later
            (whole_said (step h.machine (EvictNames names)).reply (names_text names) (evict_text_is h.machine names) (ap outcome_of (evict_reply_is h.machine names)) was later empty says),
      ),
    )

    -- or it was cut
    pub evict_stops : (answer : Result Answered StoreFault) (P : StoreFault → Type 0) → IsErrAnd answer P → CutsIn was later.taken (names_text names)
        → DoesWhatIsDone (Evict kb) answer (session_at k now old s) (session_at l now new u) was.taken later
    evict_stops (Ok a) P failed cuts crash h is = absurd failed
    evict_stops (Err f) P failed cuts crash h is = (
      EvictNames names,
      (
        done_is crash h is,
        does_by crash h is x ok new forgets rest (Err f) was later
            (whole_cut (step h.machine (EvictNames names)).reply (names_text names) (evict_text_is h.machine names) (ap outcome_of (evict_reply_is h.machine names)) was later empty f cuts),
      ),
    )

-- ---- the command

-- how many KB an eviction leaves
abbrev pub kb_of : Command → ℕ
kb_of (Evict kb) = kb
kb_of c = 0

-- a fault that is handed on leaves the effect as it was
pub had_handed : {T : Type 0} (out : Result T StoreFault) (f : StoreFault) → IsErrAnd out (λ e. e ≡ f) → HadEffect out → f ≡ fault.Sink
had_handed (Ok v) f is had = absurd is
had_handed (Err e) f is had = sym is ∙ had
