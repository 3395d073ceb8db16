-- A journal that is spelled is read back, and bytes that pass its checks spell one.
use Rattle.std.proofs.Common.{◌≡◌, ℕ, ◌<◌, ◌≤◌, List, [], length, Bool, true, false, cond, refl, sym, ap, subst, ◌∙◌, arith, length-append}
use Rattle.std.specs.Prelude.{IfErr, IfOk, None, OnOk, Ok, Err, Result, Some, nat_le, option_map}
use Rattle.std.proofs.lemmas.Bool.{le-leb, leb-true, lt-leb}
use Rattle.cache_base.specs.Bytes.{AreBytes, be32}
use Rattle.cache_base.proofs.CheckLaws.{none_from_map}
use Rattle.jenkins_hash.specs.Hash.{hash_of}
use Rattle.index_record.specs.declared.record.IndexRecord.{IndexRecord}
use Rattle.record_list.specs.Lists.{records_bytes}
use Rattle.record_list.specs.Stored as records
use Rattle.record_list.specs.declared.fault.RecordsFault.{RecordsFault}
use Rattle.record_list.specs.declared.fault.RecordsFault.TheVariants as parts
use Rattle.record_list.proofs.ReadingLaws.{clean_reads_same}
use Rattle.record_list.proofs.StoredLaws.{stored_fits_exactly, stored_reads_back}
use Rattle.index_journal.specs.Checks.{IsFirstFault, journal_fault, journal_in}
use Rattle.index_journal.specs.Journal.{IsPrinted, JournalSpells}
use Rattle.index_journal.specs.Laws.{JournalFitsExactly, JournalReadsBack}
use Rattle.index_journal.specs.RecordsFault.{fault_of}
use Rattle.index_journal.specs.declared.fault.JournalFault.{JournalFault}
use Rattle.index_journal.specs.declared.fault.JournalFault.TheVariants.{Hash, Length, Memory, Repeated, Short}

module _ (xs : List ℕ) where
  pub short : length xs < 4 → journal_fault xs ≡ Some Short
  short lt = ap (λ b. cond b (option_map fault_of (records.records_fault xs)) (Some Short)) (lt-leb _ _ lt)

  module _ (long : 4 ≤ length xs) where
    behind : journal_fault xs ≡ option_map fault_of (records.records_fault xs)
    behind = ap (λ b. cond b (option_map fault_of (records.records_fault xs)) (Some Short)) (le-leb _ _ long)

    pub of_records : (f : RecordsFault) → records.IsFirstFault xs f → IsFirstFault xs (fault_of f)
    of_records parts.Length h = behind ∙ ap (option_map fault_of) h
    of_records parts.Hash h = behind ∙ ap (option_map fault_of) h
    of_records parts.Repeated h = behind ∙ ap (option_map fault_of) h
    of_records parts.Memory h = tt

    pub fits : records.records_fault xs ≡ None → journal_fault xs ≡ None
    fits h = behind ∙ ap (option_map fault_of) h

long_enough : (rs : List IndexRecord) → 4 ≤ length (records.stored_bytes rs)
unfolding records.stored_bytes
long_enough rs = let n = length-append (records_bytes rs) (be32 (hash_of (records_bytes rs))) in omega (arith, n)

pub journal_reads_back : JournalReadsBack
journal_reads_back bytes rs s = (
  ap journal_fault s.spelled ∙ fits (records.stored_bytes s.stored) (long_enough s.stored) (stored_reads_back s.stored s.are_stored).0,
  ap journal_in s.spelled ∙ ap records.read_as (stored_reads_back s.stored s.are_stored).1 ∙ sym s.same,
)

passes_long : (xs : List ℕ) → journal_fault xs ≡ None → 4 ≤ length xs
passes_long xs passes = leb-true _ _ (go (nat_le 4 (length xs)) refl passes)
  where
    go : (b : Bool) → nat_le 4 (length xs) ≡ b → cond b (option_map fault_of (records.records_fault xs)) (Some Short) ≡ None → b ≡ true
    go true e h = refl
    go false e h = absurd (cc)

-- bytes that pass the checks spell what is read
pub spells : (xs : List ℕ) → AreBytes xs → journal_fault xs ≡ None → JournalSpells xs (journal_in xs)
spells xs bytes passes =
    let long = passes_long xs passes in
    let whole = (stored_fits_exactly xs bytes long).0 (none_from_map fault_of (records.records_fault xs) (sym (behind xs long) ∙ passes)) in
    record {
      stored = whole.0;
      are_stored = whole.1;
      same = ap (λ ys. records.read_as (records.stored_in ys)) whole.2 ∙ ap records.read_as (stored_reads_back whole.0 whole.1).1;
      spelled = whole.2;
    }

pub journal_fits_exactly : JournalFitsExactly
journal_fits_exactly xs bytes = (λ passes. (journal_in xs, spells xs bytes passes), λ s. (journal_reads_back xs s.0 s.1).0)

-- what is read is what the bytes spell
pub spelled : (xs : List ℕ) → AreBytes xs → (answer : Result (List IndexRecord) JournalFault) → OnOk answer (journal_fault xs ≡ None)
    → IfOk answer (λ rs. rs ≡ journal_in xs) → IfOk answer (JournalSpells xs)
spelled xs bytes (Ok rs) passes same = subst (JournalSpells xs) (sym same) (spells xs bytes passes)
spelled xs bytes (Err f) passes same = tt

pub refused : (xs : List ℕ) (answer : Result (List IndexRecord) JournalFault) (rs : List IndexRecord) → JournalSpells xs rs
    → IfErr answer (IsFirstFault xs) → IfErr answer (λ f. f ≡ Memory)
refused xs (Ok list) rs s h = tt
refused xs (Err f) rs s h = go f h
  where
    passes : journal_fault xs ≡ None
    passes = (journal_reads_back xs rs s).0

    go : (f : JournalFault) → IsFirstFault xs f → f ≡ Memory
    go Memory h = refl
    go Short h = absurd (let both = sym passes ∙ h in cc both)
    go Length h = absurd (let both = sym passes ∙ h in cc both)
    go Hash h = absurd (let both = sym passes ∙ h in cc both)
    go Repeated h = absurd (let both = sym passes ∙ h in cc both)

-- what is printed spells its records
printed : (rs : List IndexRecord) (bytes : List ℕ) → records.IsPrinted [] rs bytes → IsPrinted rs bytes
printed rs bytes h = record {
  sorted = h.sorted;
  by_name = h.by_name;
  printed = h.spelled;
  spelled = record { stored = h.sorted; are_stored = h.stored; same = sym (clean_reads_same h.sorted h.clean); spelled = h.spelled };
}

pub printed_answer : {F : Type 0} (rs : List IndexRecord) (answer : Result (List ℕ) F) → IfOk answer (records.IsPrinted [] rs) → IfOk answer (IsPrinted rs)
printed_answer rs (Ok bytes) h = printed rs bytes h
printed_answer rs (Err f) h = tt
