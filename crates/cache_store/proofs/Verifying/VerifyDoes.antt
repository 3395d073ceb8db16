-- How all entries are checked.
use Rattle.std.proofs.Common.{◌≡◌, ◌∙◌, ℕ, List, [], Result, Ok, IsErrAnd, refl, sym, ap, subst}
use Rattle.cache_base.specs.declared.name.Name.{Name}
use Rattle.cache_check.specs.Findings.{AreFindings, IsTableOf, findings}
use Rattle.cache_check.specs.declared.finding.Finding.{Finding}
use Rattle.cache_store.specs.Kept.{HoldsIndex}
use Rattle.cache_store.specs.Performing.{AchievesWhatIsDone}
use Rattle.cache_store.specs.Verifying.{IsFoundIn}
use Rattle.cache_replies.specs.declared.answered.Answered.{Answered}
use Rattle.cache_replies.specs.declared.answered.Answered.TheVariants as answered
use Rattle.cache_store.specs.declared.fault.StoreFault.{StoreFault}
use Rattle.memory_index.specs.declared.memory_index.MemoryIndex.{MemoryIndex}
use Rattle.cache_store.proofs.Verifying.FoundOnShelf.{found_on_shelf}
use Rattle.cache_store.proofs.Records.IndexAchieves.{RestsWith, comes_from, fails_sparing, goes_on_telling, holds_same_base, rests_achieves, session_at, spares_same}
use Rattle.cache_store.proofs.Records.ListDoes.{Finishes}
use Rattle.cache_store.proofs.Records.GoesBy.{goes_by}
use Rattle.memory_index.proofs.RecordsAtEnd.{some_at_end, sorted_at_end}
use Rattle.cache_theory.specs.Checks.{checks}
use Rattle.cache_theory.specs.Command.Command.{Verify, VerifyRecords}
use Rattle.cache_theory.specs.Command.Reply.{Findings}
use Rattle.cache_theory.specs.Machine.{Machine, writing_names}
use Rattle.cache_theory.specs.Step.{effect, step}
use Rattle.cache_theory.specs.Table.{Table}
use Rattle.disk_theory.specs.State.{State}
use Rattle.file_handles.specs.Cache.{cache_at}
use Rattle.handle_table.specs.Kept.{Kept}
use Rattle.file_handles.specs.Stands.{Represents as CacheRepresents}
use Rattle.handle_table.specs.Users.{AreWritingNames}
use Rattle.file_handles.proofs.Where.{stand_for}
use Rattle.index_map.specs.Known.{IsKnown}
use Rattle.index_record.specs.declared.record.IndexRecord.{IndexRecord}
use Rattle.index_theory.specs.Ever.{entries_on}
use Rattle.index_update.specs.Rest.{name_bytes}
use Rattle.record_list.specs.Lists.{IsByName}

-- ---- a check against given records

verify_rests : (records : List IndexRecord) → RestsWith (VerifyRecords records) (λ m. [])
unfolding checks effect
verify_rests records = record { next = λ m. refl; marks = λ m w. refl }

verify_reply_is : (m : Machine) (records : List IndexRecord)
    → (step m (VerifyRecords records)).reply ≡ Findings (findings m.shelf records (writing_names m))
unfolding checks effect
verify_reply_is m records = refl

-- ---- the check was not made

-- the disk was only looked at
pub verify_fails : (answer : Result Answered StoreFault) (P : StoreFault → Type 0) → IsErrAnd answer P
    → (k : Kept) (now : ℕ) (s t : State) (old new : MemoryIndex) → t ≡ s
    → AchievesWhatIsDone Verify answer (session_at k now old s) (session_at k now new t)
verify_fails answer P failed k now s t old new same crash h is =
    let records = some_at_end (entries_on s) old in (
      VerifyRecords records.0,
      (
        (records.0, (refl, goes_by k now s old h.machine (stand_for is.stands) records.0 records.1)),
        fails_sparing (VerifyRecords records.0) answer P (session_at k now old s) (session_at k now new t) failed
            (λ apart. spares_same s t same) crash h is,
      ),
    )

-- ---- the check was made

module _ (k : Kept) (now : ℕ) (s t : State) (old new : MemoryIndex) (finishes : Finishes s t old new)
    (records : List IndexRecord) (known : IsKnown new.map) (by : IsByName new.map.records records)
    (writing : List Name) (are : AreWritingNames k writing) (files : Table (List ℕ)) (table : IsTableOf (entries_on s) files)
    (found : List Finding) (is_found : AreFindings (entries_on s) records writing found) where
  found_there : (m : Machine) → CacheRepresents (cache_at k s) m → found ≡ findings m.shelf records (writing_names m)
  found_there m is = found_on_shelf (cache_at k s) m is files table records writing are found is_found

  pub verify_finds : IsFoundIn (session_at k now old s) new.map (answered.Checked found)
  verify_finds = (found, (refl, λ m is. (records, (by, found_there m is.stands))))

  reply_is : (m : Machine) → CacheRepresents (cache_at k s) m → Findings found ≡ (step m (VerifyRecords records)).reply
  reply_is m is = ap Findings (found_there m is) ∙ sym (verify_reply_is m records)

  pub verify_does : AchievesWhatIsDone Verify (Ok (answered.Checked found)) (session_at k now old s) (session_at k now new t)
  verify_does crash h is = (
    VerifyRecords records,
    (
      (records, (refl, goes_by k now s old h.machine (stand_for is.stands) records (sorted_at_end (entries_on s) old new.map records known by finishes.records))),
      rests_achieves (VerifyRecords records) (λ m. []) (verify_rests records) k now s t old new (answered.Checked found)
          (λ apart. spares_same s t finishes.same)
          (λ holds. subst (λ (u : State). HoldsIndex u new.map) (sym finishes.same) (holds_same_base s old.map new.map finishes.base holds))
          (λ m rest. ap name_bytes (sym finishes.ended))
          (λ m there rest. reply_is m there)
          (λ m there. comes_from (VerifyRecords records) (session_at k now old s) m _ (λ e. cc) (λ told.
          goes_on_telling k s m old new there finishes.tells told.tells))
          crash h is,
    ),
  )
