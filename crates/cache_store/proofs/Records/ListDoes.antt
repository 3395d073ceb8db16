-- How the records of all entries are listed.
use Rattle.std.proofs.Common.{◌≡◌, ◌≢◌, ℕ, List, [], Result, Ok, Err, IsErrAnd, refl, sym, ap, subst}
use Rattle.cache_store.specs.Answering.{AnswersTo}
use Rattle.cache_replies.specs.Answers.{outcome_of}
use Rattle.cache_store.specs.Faults.{of_disk}
use Rattle.cache_store.specs.Kept.{HoldsIndex}
use Rattle.cache_store.specs.Open.{KeepsWhere}
use Rattle.cache_store.specs.Performing.{DoesWhatIsDone}
use Rattle.memory_index.specs.Records.{AreAtEnd, EndsWith, TellsOf}
use Rattle.cache_replies.specs.Said.{Saying}
use Rattle.cache_replies.specs.Saying.{CutsIn, SaysMore}
use Rattle.cache_replies.specs.declared.answered.Answered.{Answered}
use Rattle.cache_replies.specs.declared.answered.Answered.TheVariants as answered
use Rattle.cache_store.specs.declared.fault.StoreFault.{StoreFault}
use Rattle.cache_store.specs.declared.fault.StoreFault.TheVariants as fault
use Rattle.memory_index.specs.declared.memory_index.MemoryIndex.{MemoryIndex}
use Rattle.cache_store.proofs.Records.IndexAchieves.{begun_spared, comes_from, goes_on_telling, holds_same_base, list_rests, rests_next, rests_tells, session_at, spares_same}
use Rattle.cache_store.proofs.Records.GoesBy.{goes_by}
use Rattle.memory_index.proofs.RecordsAtEnd.{some_at_end, sorted_at_end}
use Rattle.cache_store.proofs.Saying.SaidWhole.{fails_unsaid, if_err, not_said, on_ok, whole_cut, whole_said}
use Rattle.cache_theory.specs.Checks.{checks}
use Rattle.cache_theory.specs.Command.{Command, Reply}
use Rattle.cache_theory.specs.Command.Command.{ListGiven, ListRecords}
use Rattle.cache_theory.specs.Command.Reply.{Records}
use Rattle.cache_theory.specs.History.{acked}
use Rattle.cache_theory.specs.Machine.{Machine}
use Rattle.cache_theory.specs.Step.{effect, step}
use Rattle.cache_theory.specs.Table.{get}
use Rattle.cache_theory.specs.Text.{records_text, reply_text}
use Rattle.disk_theory.specs.State.{State}
use Rattle.disk_theory.specs.declared.disk.DiskFault.{DiskFault}
use Rattle.disk_theory.specs.declared.disk.DiskFault.TheVariants as disk
use Rattle.file_handles.specs.Cache.{cache_at}
use Rattle.handle_table.specs.Kept.{Kept}
use Rattle.file_handles.specs.Stands.{Represents as CacheRepresents}
use Rattle.file_handles.proofs.Where.{stand_for}
use Rattle.index_map.specs.Known.{IsKnown, SameBase}
use Rattle.index_record.specs.declared.record.IndexRecord.{IndexRecord}
use Rattle.index_theory.specs.Ever.{entries_on}
use Rattle.index_update.specs.Rest.{name_bytes}
use Rattle.record_list.specs.Lists.{IsByName}

-- ---- the reply

list_reply_is : (m : Machine) (records : List IndexRecord) → (step m (ListGiven records)).reply ≡ Records records
unfolding checks effect
list_reply_is m records = refl

module _ (m : Machine) (sorted : List IndexRecord) (was now : Saying) where
  abbrev reply : Reply
  reply = (step m (ListGiven sorted)).reply

  text_is : records_text sorted ≡ reply_text reply
  unfolding reply_text
  text_is = ap reply_text (sym (list_reply_is m sorted))

  pub list_said : was.held ≡ [] → SaysMore was now (records_text sorted) → AnswersTo reply (Ok answered.All) was.taken now
  list_said empty says = whole_said reply (records_text sorted) text_is (ap outcome_of (list_reply_is m sorted)) was now empty says

  pub list_cut : was.held ≡ [] → (f : StoreFault) → CutsIn was now.taken (records_text sorted) → AnswersTo reply (Err f) was.taken now
  list_cut empty f cuts = whole_cut reply (records_text sorted) text_is (ap outcome_of (list_reply_is m sorted)) was now empty f cuts

-- ---- what the command does

-- all names that were left are read
pub record Finishes (s t : State) (old new : MemoryIndex) : Type 0 where
  pub same : t ≡ s
  pub ended : new.update ≡ []
  pub base : SameBase old.map new.map
  pub records : EndsWith (entries_on s) old new.map.records
  pub tells : TellsOf (entries_on s) old → TellsOf (entries_on s) new

module _ (k : Kept) (now : ℕ) (s t : State) (old new : MemoryIndex) (finishes : Finishes s t old new) where
  told : (m : Machine) → CacheRepresents (cache_at k s) m → TellsOf (get m.shelf) old → TellsOf (get m.shelf) new
  told m is = goes_on_telling k s m old new is finishes.tells

  -- the command has had its effect, and this is the answer to each machine
  list_by : (sorted : List IndexRecord) → AreAtEnd (entries_on s) old sorted → (answer : Result Answered StoreFault) (was later : Saying)
      → ((m : Machine) → AnswersTo (step m (ListGiven sorted)).reply answer was.taken later)
      → DoesWhatIsDone ListRecords answer (session_at k now old s) (session_at k now new t) was.taken later
  list_by sorted at_end answer was later answers b h is =
      let m = h.machine in
      let done : Command = ListGiven sorted in
      let ended : [] ≡ name_bytes new.update = ap name_bytes (sym finishes.ended) in
      let next : KeepsWhere b (session_at k now new t) (acked done h) =
      rests_next done (λ m. []) (list_rests sorted) k now s t old new h is (λ apart. spares_same s t finishes.same)
      (λ holds. subst (λ (u : State). HoldsIndex u new.map) (sym finishes.same) (holds_same_base s old.map new.map finishes.base holds)) ended in (
        done,
        (
          (sorted, (refl, goes_by k now s old m (stand_for is.stands) sorted at_end)),
          record {
            safe = λ on. ((begun_spared done (session_at k now old s) t h is (λ apart. spares_same s t finishes.same)).crash_kept on).safe;
            answers = answers m;
            next = on_ok answer next;
            effect = if_err answer (λ f same. next);
            tells = λ had. comes_from done (session_at k now old s) m _ (λ e. cc) (λ was_told.
                rests_tells done (λ m. []) (list_rests sorted) k now s t old new m ended (told m (stand_for is.stands) was_told.tells));
          },
        ),
      )

  module _ (sorted : List IndexRecord) (known : IsKnown new.map) (by : IsByName new.map.records sorted) (was later : Saying) (empty : was.held ≡ []) where
    at_end : AreAtEnd (entries_on s) old sorted
    at_end = sorted_at_end (entries_on s) old new.map sorted known by finishes.records

    pub list_does : SaysMore was later (records_text sorted)
        → DoesWhatIsDone ListRecords (Ok answered.All) (session_at k now old s) (session_at k now new t) was.taken later
    list_does says = list_by sorted at_end (Ok answered.All) was later (λ m. list_said m sorted was later empty says)

    -- the reply was cut
    pub list_stops : (answer : Result Answered StoreFault) (P : StoreFault → Type 0) → IsErrAnd answer P → CutsIn was later.taken (records_text sorted)
        → DoesWhatIsDone ListRecords answer (session_at k now old s) (session_at k now new t) was.taken later
    list_stops (Ok a) P failed cuts = absurd failed
    list_stops (Err f) P failed cuts = list_by sorted at_end (Err f) was later (λ m. list_cut m sorted was later empty f cuts)

  -- nothing of it went out
  pub list_unsaid : (answer : Result Answered StoreFault) (P : StoreFault → Type 0) (was : Saying) → IsErrAnd answer P
      → DoesWhatIsDone ListRecords answer (session_at k now old s) (session_at k now new t) was.taken was
  list_unsaid (Ok a) P was failed = absurd failed
  list_unsaid (Err f) P was failed =
      let records = some_at_end (entries_on s) old in
      list_by records.0 records.1 (Err f) was was (λ m. not_said (step m (ListGiven records.0)).reply f was)

-- no fault of the disk is one of the sink
pub no_sink : (d : DiskFault) → of_disk d ≢ fault.Sink
no_sink disk.Failed e = absurd (cc)
no_sink disk.Memory e = absurd (cc)

-- the names were not all read, and the sink did not fail
pub list_fails : (answer : Result Answered StoreFault) (P : StoreFault → Type 0) → IsErrAnd answer P → ((f : StoreFault) → P f → f ≢ fault.Sink)
    → (k : Kept) (now : ℕ) (s t : State) (old new : MemoryIndex) (was : Saying) → t ≡ s
    → DoesWhatIsDone ListRecords answer (session_at k now old s) (session_at k now new t) was.taken was
list_fails answer P failed other k now s t old new was same crash h is =
    let records = some_at_end (entries_on s) old in
    let done : Command = ListGiven records.0 in (
      done,
      (
        (records.0, (refl, goes_by k now s old h.machine (stand_for is.stands) records.0 records.1)),
        fails_unsaid crash done h answer P failed other (session_at k now old s) (session_at k now new t) was
            (λ on. ((begun_spared done (session_at k now old s) t h is (λ apart. spares_same s t same)).crash_kept on).safe),
      ),
    )
