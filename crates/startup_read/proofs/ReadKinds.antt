-- Bytes that spell an index or a journal, and bytes that fail a check.
use Rattle.std.proofs.Common.{◌≡◌, ◌≢◌, ℕ, List, [], Bool, false, true, Some, ap, arith, length-drop, refl, sym, subst, ◌∙◌, ◌+◌, ◌∷◌}
use Rattle.std.proofs.lemmas.List.{length-take-le}
use Rattle.std.specs.List.{IsDistinct}
use Rattle.std.specs.Prelude.{None, Option, drop, if◌then◌else◌, length, nat_le, option_map, ⊤, ◌%◌, ◌&&◌, ◌-◌, ◌==◌}
use Rattle.std.specs.Option.{option_or}
use Rattle.index_file.specs.Checks.{IsFirstFault, index_fault}
use Rattle.index_file.specs.Index.{IndexSpells}
use Rattle.index_file.specs.declared.fault.IndexFault.{IndexFault}
use Rattle.index_file.specs.declared.fault.IndexFault.TheVariants as index_faults
use Rattle.index_journal.specs.Checks as journal
use Rattle.index_journal.specs.Journal.{JournalSpells}
use Rattle.index_journal.specs.declared.fault.JournalFault.{JournalFault}
use Rattle.index_journal.specs.declared.fault.JournalFault.TheVariants as journal_faults
use Rattle.index_record.specs.declared.record.IndexRecord.{IndexRecord}
use Rattle.index_theory.specs.declared.kinds.IndexKind.{IndexKind}
use Rattle.index_theory.specs.declared.kinds.IndexKind.TheVariants.{Invalid, Dirty, Clean}
use Rattle.index_theory.specs.declared.kinds.LogKind.{LogKind}
use Rattle.index_theory.specs.declared.kinds.LogKind.TheVariants.{Invalid as BadLog, Valid}
use Rattle.index_theory.proofs.StartLaws.{faulty_index_is, faulty_journal_is, spelled_index_is, spelled_journal_is}
use Rattle.record_list.specs.Lists.{HasNames, names_of}
use Rattle.record_list.specs.Stored.{are_distinct, body_of, records_checks, records_fault, stored_in}
use Rattle.record_list.specs.declared.fault.RecordsFault.TheVariants as records_faults
use Rattle.cache_base.specs.Bytes.{be32_at}
use Rattle.cache_base.specs.Checks.{first_failing}
use Rattle.jenkins_hash.specs.Hash.{hash_of}
use Rattle.index_file.specs.RecordsFault as index
use Rattle.index_journal.specs.RecordsFault as journals
use Rattle.index_file.specs.Checks.{header_checks}
use Rattle.index_theory.specs.Base.{BaseStands}
use Rattle.startup_read.specs.Reads.{ReadsIndex, ReadsJournal}

pub spelled_index : (c : List ℕ) (timestamp : ℕ) (dirty : Bool) (kind : IndexKind) (rs : List IndexRecord)
    → kind ≡ (if dirty then Dirty else Clean) → IndexSpells c timestamp dirty rs → ReadsIndex (Some c) kind rs
spelled_index c timestamp dirty kind rs same spells = subst (λ k. ReadsIndex (Some c) k rs) (sym same) (go dirty spells)
  where
    stands : (d : Bool) → IndexSpells c timestamp d rs → BaseStands (Some c) d rs
    stands d s = record { content = c; timestamp = timestamp; spelled = rs; stands = refl; spells = s; same = λ name. refl }

    go : (d : Bool) → IndexSpells c timestamp d rs → ReadsIndex (Some c) (if d then Dirty else Clean) rs
    go true s = let is = spelled_index_is c timestamp true rs s in record { is = sym is.0; has = λ an. sym is.1; stands = λ an. stands true s }
    go false s = let is = spelled_index_is c timestamp false rs s in record { is = sym is.0; has = λ an. sym is.1; stands = λ an. stands false s }

bad_index : (c : List ℕ) (f : IndexFault) (rs : List IndexRecord) → index_fault c ≡ Some f → ReadsIndex (Some c) Invalid rs
bad_index c f rs faulty = record { is = sym (faulty_index_is c f faulty); has = λ none. absurd none; stands = λ none. absurd none }

-- a fault other than that memory ran out
pub faulty_index : (c : List ℕ) (f : IndexFault) (rs : List IndexRecord) → f ≢ index_faults.Memory → IsFirstFault c f → ReadsIndex (Some c) Invalid rs
faulty_index c index_faults.Short rs check first = bad_index c index_faults.Short rs first
faulty_index c index_faults.Version rs check first = bad_index c index_faults.Version rs first
faulty_index c index_faults.Length rs check first = bad_index c index_faults.Length rs first
faulty_index c index_faults.Hash rs check first = bad_index c index_faults.Hash rs first
faulty_index c index_faults.Repeated rs check first = bad_index c index_faults.Repeated rs first
faulty_index c index_faults.Memory rs check first = absurd (check refl)

-- where the first of two checks fails, or both hold and what comes after them has a fault, there is a fault
pub a_check_fails : {F : Type 0} (x y : Bool) (f g : F) (more : Option F) → (x ≡ true → (h : F) × (more ≡ Some h))
    → (h : F) × (option_or (if x then (if y then None else Some g) else Some f) more ≡ Some h)
a_check_fails false y f g more rest = (f, refl)
a_check_fails true false f g more rest = (g, refl)
a_check_fails true true f g more rest = rest refl

-- what is no number of whole records
uneven : (rest n : ℕ) → (nat_le rest n && ((n - rest) % 41 == 0)) ≡ false → nat_le rest n ≡ true → ((n - rest) % 41 == 0) ≡ false
uneven rest n odd long = sym (ap (λ b. b && ((n - rest) % 41 == 0)) long) ∙ odd

-- the length of the records in the part of a file from `from` on
records_len : (from : ℕ) (c : List ℕ) → length (body_of (drop from c)) ≡ length c - (from + 4)
records_len from c =
    let d = length-drop from c in
    let t = length-take-le (length (drop from c) - 4) (drop from c) (omega arith) in
    omega (arith, d, t)

uneven_records : (part : List ℕ) → (length (body_of part) % 41 == 0) ≡ false → records_fault part ≡ Some records_faults.Length
unfolding records_checks
uneven_records part odd = ap (λ (b : Bool). if b then first_failing
    ((be32_at part (length part - 4) == hash_of (body_of part), records_faults.Hash) ∷ (are_distinct (names_of (stored_in part)), records_faults.Repeated) ∷ []) else Some records_faults.Length) odd

pub uneven_index : (c : List ℕ) (rs : List IndexRecord) → (nat_le 20 (length c) && ((length c - 20) % 41 == 0)) ≡ false → ReadsIndex (Some c) Invalid rs
unfolding header_checks
uneven_index c rs odd =
    let found = a_check_fails (nat_le 20 (length c)) (be32_at c 0 == 0xA) index_faults.Short index_faults.Version (option_map index.fault_of (records_fault (drop 16 c)))
    (λ long. (
      index_faults.Length,
      ap (option_map index.fault_of) (uneven_records (drop 16 c)
          (ap (λ n. n % 41 == 0) (records_len 16 c) ∙ uneven 20 (length c) odd long)),
    )) in
    bad_index c found.0 rs found.1

-- what there is, and what it is
abbrev IsThere : Option ℕ → Type 0
IsThere None = ⊥
IsThere (Some n) = ⊤

pub some_is_one : (n : ℕ) → Some n ≡ None → ⊥
some_is_one n e = subst IsThere e tt

abbrev pub inside : Option ℕ → ℕ
inside None = 0
inside (Some n) = n

-- a file of a size that is no index's
pub odd_index : (file : Option (List ℕ)) (size : ℕ) (kind : IndexKind) (rs : List IndexRecord) → kind ≡ Invalid → Some size ≡ option_map length file
    → (nat_le 20 size && ((size - 20) % 41 == 0)) ≡ false → ReadsIndex file kind rs
odd_index None size kind rs is has odd = absurd (some_is_one size has)
odd_index (Some c) size kind rs is has odd = subst (λ k. ReadsIndex (Some c) k rs) (sym is)
    (uneven_index c rs (subst (λ n. (nat_le 20 n && ((n - 20) % 41 == 0)) ≡ false) (ap (inside) has) odd))

pub spelled_journal : (c : List ℕ) (rs : List IndexRecord) → JournalSpells c rs → ReadsJournal (Some c) Valid rs
spelled_journal c rs spells =
    let is = spelled_journal_is c rs spells in
    record { is = sym is.0; has = λ an. sym is.1 }

bad_journal : (c : List ℕ) (f : JournalFault) (rs : List IndexRecord) → journal.journal_fault c ≡ Some f → ReadsJournal (Some c) BadLog rs
bad_journal c f rs faulty = record { is = sym (faulty_journal_is c f faulty); has = λ none. absurd none }

pub uneven_journal : (c : List ℕ) (rs : List IndexRecord) → (nat_le 4 (length c) && ((length c - 4) % 41 == 0)) ≡ false → ReadsJournal (Some c) BadLog rs
uneven_journal c rs odd = go (nat_le 4 (length c)) refl
  where
    go : (b : Bool) → nat_le 4 (length c) ≡ b → ReadsJournal (Some c) BadLog rs
    go false short = bad_journal c journal_faults.Short rs (ap (λ (b : Bool). if b then option_map journals.fault_of (records_fault c) else Some journal_faults.Short) short)
    go true long = bad_journal c journal_faults.Length rs
        (ap (λ (b : Bool). if b then option_map journals.fault_of (records_fault c) else Some journal_faults.Short) long
        ∙ ap (option_map journals.fault_of) (uneven_records c (ap (λ n. n % 41 == 0) (records_len 0 c) ∙ uneven 4 (length c) odd long)))

pub odd_journal : (file : Option (List ℕ)) (size : ℕ) (kind : LogKind) (rs : List IndexRecord) → kind ≡ BadLog → Some size ≡ option_map length file
    → (nat_le 4 size && ((size - 4) % 41 == 0)) ≡ false → ReadsJournal file kind rs
odd_journal None size kind rs is has odd = absurd (some_is_one size has)
odd_journal (Some c) size kind rs is has odd = subst (λ k. ReadsJournal (Some c) k rs) (sym is)
    (uneven_journal c rs (subst (λ n. (nat_le 4 n && ((n - 4) % 41 == 0)) ≡ false) (ap (inside) has) odd))

pub faulty_journal : (c : List ℕ) (f : JournalFault) (rs : List IndexRecord) → f ≢ journal_faults.Memory → journal.IsFirstFault c f → ReadsJournal (Some c) BadLog rs
faulty_journal c journal_faults.Short rs check first = bad_journal c journal_faults.Short rs first
faulty_journal c journal_faults.Length rs check first = bad_journal c journal_faults.Length rs first
faulty_journal c journal_faults.Hash rs check first = bad_journal c journal_faults.Hash rs first
faulty_journal c journal_faults.Repeated rs check first = bad_journal c journal_faults.Repeated rs first
faulty_journal c journal_faults.Memory rs check first = absurd (check refl)

none : HasNames []
unfolding IsDistinct
none = tt

pub no_names : (rs : List IndexRecord) → rs ≡ [] → HasNames rs
no_names rs empty = subst HasNames (sym empty) none
