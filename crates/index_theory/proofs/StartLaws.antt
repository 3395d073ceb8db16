-- How an opening starts, and what an index and a journal that stand say.
use Rattle.std.proofs.Common.{◌≡◌, ◌≢◌, ℕ, List, Bool, true, false, cond, Option, Some, None, refl, sym, ap, ◌∙◌, subst}
use Rattle.std.specs.Prelude.{is_none, is_some}
use Rattle.disk_theory.specs.Image.{Files}
use Rattle.disk_theory.proofs.Images.{only_now}
use Rattle.disk_theory.specs.declared.place.Place.TheVariants.{Index, Log}
use Rattle.index_file.specs.Checks.{index_fault, is_dirty_in}
use Rattle.index_file.specs.declared.fault.IndexFault.{IndexFault}
use Rattle.index_file.proofs.IndexLaws.{index_reads_back}
use Rattle.index_journal.specs.Checks.{journal_fault}
use Rattle.index_journal.proofs.JournalLaws.{journal_reads_back}
use Rattle.index_record.specs.declared.record.IndexRecord.{IndexRecord}
use Rattle.index_theory.specs.Ever.{entries}
use Rattle.index_theory.specs.Honest.{Agrees, AreSpelled, FaultyIndexIs, FaultyJournalIs, Honest, QuietLeavesHonest, ReadyIsScan, SpelledAgrees, SpelledIndexIs, SpelledIsReady, SpelledJournalIs, index_records, journal_records}
use Rattle.index_theory.specs.declared.kinds.IndexKind.{IndexKind}
use Rattle.index_theory.specs.IndexKind.{index_kind}
use Rattle.index_theory.specs.declared.kinds.IndexKind.TheVariants.{Missing as NoIndex, Invalid as BadIndex, Dirty, Clean}
use Rattle.index_theory.specs.declared.kinds.LogKind.{LogKind}
use Rattle.index_theory.specs.LogKind.{log_kind}
use Rattle.index_theory.specs.declared.kinds.LogKind.TheVariants.{Missing as NoLog, Invalid as BadLog, Valid}
use Rattle.index_theory.specs.Scan.{scanned}
use Rattle.index_theory.specs.Start.{decide}
use Rattle.index_theory.specs.declared.kinds.Start.TheVariants.{Ready}
use Rattle.record_list.specs.Change.{applied}

-- the start is Ready for one index, one journal and no file beside them
pub ready_parts : (k : IndexKind) (l : LogKind) (t : Bool) → decide k l t ≡ Ready → (k ≡ Clean) × (l ≡ Valid) × (t ≡ false)
ready_parts NoIndex l t e = absurd (cc)
ready_parts BadIndex l t e = absurd (cc)
ready_parts Dirty l t e = absurd (cc)
ready_parts Clean NoLog t e = absurd (cc)
ready_parts Clean BadLog t e = absurd (cc)
ready_parts Clean Valid true e = absurd (cc)
ready_parts Clean Valid false e = (refl, refl, refl)

-- a clean index passes its checks
pub clean_parts : (c : List ℕ) → index_kind (Some c) ≡ Clean → (index_fault c ≡ None) × (is_dirty_in c ≡ false)
clean_parts c e = go (index_fault c) (is_dirty_in c) refl refl e
  where
    go : (o : Option IndexFault) (d : Bool) → index_fault c ≡ o → is_dirty_in c ≡ d → cond (is_none o) (cond d Dirty Clean) BadIndex ≡ Clean → (index_fault c ≡ None) × (is_dirty_in c ≡ false)
    go None false p q e = (p, q)
    go None true p q e = absurd (cc)
    go (Some f) d p q e = absurd (cc)

pub kind_of : (c : List ℕ) (d : Bool) → index_fault c ≡ None → is_dirty_in c ≡ d → index_kind (Some c) ≡ cond d Dirty Clean
kind_of c d p q = λ i. cond (is_none (p i)) (cond (q i) Dirty Clean) BadIndex

-- a dirty index is not clean, whether it passes or not
pub dirty_unclean : (c : List ℕ) → is_dirty_in c ≡ true → index_kind (Some c) ≢ Clean
dirty_unclean c dirty clean = let both : true ≡ false = sym dirty ∙ (clean_parts c clean).1 in cc

pub valid_kind : (c : List ℕ) → journal_fault c ≡ None → log_kind (Some c) ≡ Valid
valid_kind c p = ap (λ o. cond (is_none o) Valid BadLog) p

pub quiet_leaves_honest : QuietLeavesHonest
quiet_leaves_honest s quiet honest image is = subst Honest (λ i place. sym (only_now s image quiet is place) i) honest

pub spelled_index_is : SpelledIndexIs
spelled_index_is c timestamp dirty rs s =
    let back = index_reads_back c timestamp dirty rs s in
    (kind_of c dirty back.0 back.2, back.3)

pub spelled_journal_is : SpelledJournalIs
spelled_journal_is c rs s =
    let back = journal_reads_back c rs s in
    (valid_kind c back.0, back.1)

pub faulty_index_is : FaultyIndexIs
faulty_index_is c f e = ap (λ o. cond (is_none o) (cond (is_dirty_in c) Dirty Clean) BadIndex) e

pub faulty_journal_is : FaultyJournalIs
faulty_journal_is c f e = ap (λ o. cond (is_none o) Valid BadLog) e

pub ready_is_scan : ReadyIsScan
ready_is_scan files out ready applied = (
  λ honest. record { rising = applied.rising; same = λ name. applied.same name ∙ honest ready name },
  λ scan started name. sym (applied.same name) ∙ scan.same name,
)

-- what agrees is told by the records and the entries
pub agrees_along : (a b : Files) → index_records (a Index) ≡ index_records (b Index) → journal_records (a Log) ≡ journal_records (b Log)
    → ((name : List ℕ) → entries a name ≡ entries b name) → Agrees b → Agrees a
agrees_along a b index log same agrees name =
    (λ i. applied (index i) (log i) name) ∙ agrees name ∙ sym (ap (λ c. scanned (λ n. c) name) (same name.0))

module _ (files : Files) (timestamp : ℕ) (dirty : Bool) (base js : List IndexRecord) (spelled : AreSpelled files timestamp dirty base js) where
  pub base_is : index_records (files Index) ≡ base
  base_is = ap index_records spelled.index_stands ∙ (index_reads_back spelled.index timestamp dirty base spelled.index_spells).3

  pub changes_are : journal_records (files Log) ≡ js
  changes_are = ap journal_records spelled.log_stands ∙ (journal_reads_back spelled.log js spelled.log_spells).1

pub spelled_agrees : SpelledAgrees
spelled_agrees files timestamp dirty base js spelled same name =
    (λ i. applied (base_is files timestamp dirty base js spelled i) (changes_are files timestamp dirty base js spelled i) name)
    ∙ same name

pub spelled_is_ready : SpelledIsReady
spelled_is_ready files timestamp base js spelled none =
    let index = index_reads_back spelled.index timestamp false base spelled.index_spells in
    let kind : index_kind (files Index) ≡ Clean = ap index_kind spelled.index_stands ∙ kind_of spelled.index false index.0 index.2 in
    let log : log_kind (files Log) ≡ Valid = ap log_kind spelled.log_stands ∙ valid_kind spelled.log (journal_reads_back spelled.log js spelled.log_spells).0 in
    λ i. decide (kind i) (log i) (is_some (none i))
