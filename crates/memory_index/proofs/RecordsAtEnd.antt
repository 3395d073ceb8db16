-- The records in memory once the update has ended: there are such records, and where they were right they are those of
-- the entries.
use Rattle.std.proofs.Common.{◌≡◌, ◌≢◌, ◌∙◌, Contains, ℕ, zero, suc, ◌+◌, ◌≤◌, Bool, true, false, cond, List, [], ◌∷◌, Option, None, Some, option_and_then, Result, Ok, Err, OnOk, get_or, inl, inr, length, take, refl, sym, ap, subst, arith}
use Rattle.std.proofs.lemmas.List.{take_all}
use Rattle.cache_base.specs.declared.name.Name.{Name}
use Rattle.memory_index.specs.Records.{AreAtEnd, AtEndIsOne, EndsWith, TellsAtEnd, TellsOf}
use Rattle.memory_index.specs.declared.memory_index.MemoryIndex.{MemoryIndex}
use Rattle.disk_theory.specs.State.{State}
use Rattle.disk_theory.specs.declared.disk.DiskFault.{DiskFault}
use Rattle.index_map.specs.Known.{IsKnown, Known, Sets}
use Rattle.index_map.proofs.Sorted.{sorted, sorted_at, sorted_rises}
use Rattle.index_record.specs.declared.record.IndexRecord.{IndexRecord}
use Rattle.index_theory.specs.Ever.{Entries, entries_on}
use Rattle.index_theory.specs.Scan.{record_of, scan, scanned}
use Rattle.index_theory.proofs.ScanLaws.{record_named, scan_is_one, table_is_scanned}
use Rattle.index_update.specs.Reads.{Reads, ReadsIn}
use Rattle.index_update.specs.Rest.{name_bytes}
use Rattle.index_update.specs.Slices.{ReadsSlice}
use Rattle.index_update.specs.Tells.{TellsSeen}
use Rattle.index_update.proofs.ReadMore.{reads_more, reads_none}
use Rattle.index_update.proofs.Telling.{from_bytes, in_or_out}
use Rattle.record_list.specs.Lists.{IsByName, record_at, same_name}
use Rattle.record_list.proofs.ChangeLaws.{same_records}
use Rattle.record_list.proofs.NameLaws.{same_is}
use Rattle.record_list.proofs.SortedLaws.{by_name_keeps}

-- ---- records with another one under a name, or none

abbrev without_record : Name → List IndexRecord → List IndexRecord
without_record n [] = []
without_record n (r ∷ rs) = cond (same_name n r.name) (without_record n rs) (r ∷ without_record n rs)

module _ (n q : Name) (r : IndexRecord) (rest rs : List IndexRecord) where
  at_front : (u : Bool) → same_name r.name q ≡ u → record_at (r ∷ rest) q ≡ cond u (Some r) (record_at rest q)
  at_front u e = ap (λ b. cond b (Some r) (record_at rest q)) e

  gone_step : (s t u : Bool) → same_name n r.name ≡ s → same_name n q ≡ t → same_name r.name q ≡ u → record_at rest q ≡ cond t None (record_at rs q)
      → record_at (cond s rest (r ∷ rest)) q ≡ cond t None (cond u (Some r) (record_at rs q))
  gone_step true true u es et eu more = more
  gone_step true false true es et eu more = let own : same_name n q ≡ true = ap (λ k. same_name k q) (same_is n r.name es) ∙ eu in absurd (cc)
  gone_step true false false es et eu more = more
  gone_step false true true es et eu more = let own : same_name n r.name ≡ true = ap (same_name n) (same_is r.name q eu) ∙ et in absurd (cc)
  gone_step false false true es et eu more = at_front true eu
  gone_step false t false es et eu more = at_front false eu ∙ more

none_or_none : (b : Bool) → ◌≡◌ {A = Option IndexRecord} None (cond b None None)
none_or_none true = refl
none_or_none false = refl

gone_at : (n : Name) (rs : List IndexRecord) (q : Name) → record_at (without_record n rs) q ≡ cond (same_name n q) None (record_at rs q)
gone_at n [] q = none_or_none (same_name n q)
gone_at n (r ∷ rs) q = gone_step n q r (without_record n rs) rs (same_name n r.name) (same_name n q) (same_name r.name q) refl refl refl (gone_at n rs q)

abbrev with_record : Name → Option IndexRecord → List IndexRecord → List IndexRecord
with_record n None rs = without_record n rs
with_record n (Some r) rs = r ∷ rs

with_at : (n : Name) (o : Option IndexRecord) (rs : List IndexRecord) (q : Name) → ((r : IndexRecord) → o ≡ Some r → r.name ≡ n)
    → record_at (with_record n o rs) q ≡ cond (same_name n q) o (record_at rs q)
with_at n None rs q named = gone_at n rs q
with_at n (Some r) rs q named = ap (λ k. cond (same_name k q) (Some r) (record_at rs q)) (named r refl)

-- ---- names that are read one after the other

scanned_named : (es : Entries) (n : Name) (r : IndexRecord) → scanned es n ≡ Some r → r.name ≡ n
scanned_named es n r is = go (es n.0) refl
  where
    go : (o : Option (List ℕ)) → es n.0 ≡ o → r.name ≡ n
    go None e = let none : scanned es n ≡ None = ap (λ c. option_and_then (record_of n) c) e in absurd (cc)
    go (Some c) e = record_named n c r (sym (ap (λ x. option_and_then (record_of n) x) e) ∙ is)

module _ (es : Entries) (n : Name) (mid : Known) where
  abbrev one_read : Known
  one_read = record {
    records = with_record n (scanned es n) mid.records;
    seen = with_record n (scanned es n) mid.seen;
    base = mid.base;
    has_base = mid.has_base;
  }

  one_sets : Sets mid one_read n (scanned es n)
  one_sets = record {
    records = λ q. with_at n (scanned es n) mid.records q (scanned_named es n);
    seen = λ q. with_at n (scanned es n) mid.seen q (scanned_named es n);
    base = record { records = λ name. refl; has_base = refl };
  }

some_read : (es : Entries) (names : List Name) (d : Name) (old : Known) (i : ℕ) → i ≤ length names → (new : Known) × Reads es (take i names) old new
some_read es names d old zero low = (old, reads_none es names old)
some_read es names d old (suc i) low =
    let before = some_read es names d old i (omega (arith, low)) in
    let n : Name = get_or names i d in
    let next : i + 1 ≡ suc i = omega arith in (
      one_read es n before.0,
      subst (λ k. Reads es (take k names) old (one_read es n before.0)) next
          (reads_more es names i d old before.0 (one_read es n before.0) (omega (arith, low)) before.1 (one_sets es n before.0)),
    )

-- ---- there are such records

pub some_at_end : (es : Entries) (index : MemoryIndex) → (records : List IndexRecord) × AreAtEnd es index records
some_at_end es index = go index.update refl
  where
    go : (names : List Name) → index.update ≡ names → (records : List IndexRecord) × AreAtEnd es index records
    go [] e = (
      sorted index.map.records,
      record {
        rising = sorted_rises index.map.records;
        same = record { ended = λ over q. sorted_at index.map.records q; read = λ left. absurd (left e) };
      },
    )
    go (n ∷ ns) e =
        let all = some_read es index.update n index.map (length index.update) (omega arith) in
        let seen : List IndexRecord = all.0.seen in
        let read : ReadsIn es index.update index.map.seen seen =
        subst (λ names. ReadsIn es names index.map.seen seen) (take_all (length index.update) index.update (omega arith)) all.1.seen in (
          sorted seen,
          record {
            rising = sorted_rises seen;
            same = record {
              ended = λ over. absurd (let never : ◌≡◌ {A = List Name} (n ∷ ns) [] = sym e ∙ over in cc);
              read = λ left. record {
                here = λ q has. sorted_at seen q ∙ read.here q has;
                others = λ q out. sorted_at seen q ∙ read.others q out;
              };
            };
          },
        )

-- the records of a map, sorted by name, are such where its records are
pub sorted_at_end : (es : Entries) (index : MemoryIndex) (map : Known) (records : List IndexRecord) → IsKnown map → IsByName map.records records → EndsWith es index map.records
    → AreAtEnd es index records
sorted_at_end es index map records known by ends = record {
  rising = by.rising;
  same = record {
    ended = λ over q. keeps q ∙ ends.ended over q;
    read = λ left. record { here = λ q has. keeps q ∙ (ends.read left).here q has; others = λ q out. keeps q ∙ (ends.read left).others q out };
  };
}
  where
    keeps : (q : Name) → record_at records q ≡ record_at map.records q
    keeps q = by_name_keeps map.records records known.names by q

-- ---- there is one list of them

pub at_end_is_one : AtEndIsOne
at_end_is_one es index rs more one other = same_records rs more one.rising other.rising (λ q. go q index.update refl)
  where
    go : (q : Name) (names : List Name) → index.update ≡ names → record_at rs q ≡ record_at more q
    go q [] e = one.same.ended e q ∙ sym (other.same.ended e q)
    go q (n ∷ ns) e =
        let left : index.update ≢ [] = λ over. (let never : ◌≡◌ {A = List Name} (n ∷ ns) [] = sym e ∙ over in cc) in
        let first = one.same.read left in
        let second = other.same.read left in
        elim (in_or_out index.update q) [
          | inl has ↦ first.here q has ∙ sym (second.here q has)
          | inr out ↦ first.others q out ∙ sym (second.others q out)
        ]

-- ---- where the records in memory were right these are the scan

pub ends_told : (es : Entries) (index : MemoryIndex) (records : List IndexRecord) → EndsWith es index records → TellsOf es index → (q : Name) → record_at records q ≡ scanned es q
ends_told es index records ends told q = go index.update refl
  where
    go : (names : List Name) → index.update ≡ names → record_at records q ≡ scanned es q
    go [] e = ends.ended e q ∙ told.all e q
    go (n ∷ ns) e =
        let left : index.update ≢ [] = λ over. (let never : ◌≡◌ {A = List Name} (n ∷ ns) [] = sym e ∙ over in cc) in
        elim (in_or_out index.update q) [
          | inl has ↦ (ends.read left).here q has
          | inr out ↦ (ends.read left).others q out ∙ told.seen q (λ has. out (from_bytes index.update q has))
        ]

-- ---- the update is ended, and its names are left as they were

-- all names are read, of which some were left
at_end : (es : Entries) (old : MemoryIndex) (new : Known) → EndsWith es old new.records → new.records ≡ new.seen → TellsOf es old → TellsAtEnd es new
at_end es old new ends same told = record {
  seen = λ q out. sym (ap (λ rs. record_at rs q) same) ∙ ends_told es old new.records ends told q;
  all = λ q. ends_told es old new.records ends told q;
}

pub apart_ends : (es : Entries) (old : MemoryIndex) (copy left : List Name) (new : Known) → copy ≡ old.update → old.update ≢ [] → ReadsSlice es copy copy left old.map new → new.records ≡ new.seen
    → TellsOf es old → TellsAtEnd es new
apart_ends es old copy left new is some slice same told =
    let whole = subst (λ names. ReadsSlice es names names left old.map new) is slice in
    let ends : EndsWith es old new.records = record {
      ended = λ over. absurd (some over);
      read = λ l. subst (λ rs. ReadsIn es old.update old.map.seen rs) (sym same) whole.seen;
    } in
    at_end es old new ends same told

-- it goes on to tell, with whatever names
pub ended_stays : (es : Entries) (new : MemoryIndex) → TellsAtEnd es new.map → TellsOf es new
ended_stays es new at_end = record {
  seen = λ q out. at_end.seen q (λ has. absurd (none_has q.0 has));
  all = λ over. at_end.all;
}
  where
    none_has : (name : List ℕ) → Contains [] name → ⊥
    none_has name (i, lt, is) = omega (arith, lt)

-- and where reading broke off
pub broken_stays : (es : Entries) (old new : MemoryIndex) → old.update ≢ [] → new.update ≡ old.update → TellsSeen es new.map (name_bytes old.update) → TellsOf es new
broken_stays es old new some same seen = record {
  seen = subst (λ names. TellsSeen es new.map (name_bytes names)) (sym same) seen;
  all = λ over. absurd (some (sym same ∙ over));
}

-- ---- the update is ended

-- all names that were left are read
pub finish_ends : (tells : Type 0) (es : Entries) (old : MemoryIndex) (left : List Name) (new : Known) (r : Result (Unit {0}) DiskFault) → old.update ≢ []
    → OnOk r (tells → ReadsSlice es old.update old.update left old.map new) → OnOk r (new.records ≡ new.seen) → OnOk r (tells → EndsWith es old new.records)
finish_ends tells es old left new (Ok x) some slice same = λ told. record {
  ended = λ over. absurd (some over);
  read = λ left. subst (λ rs. ReadsIn es old.update old.map.seen rs) (sym same) (slice told).seen;
}
finish_ends tells es old left new (Err f) some slice same = tt
