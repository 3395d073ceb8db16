-- The counts of slots, and how they change with one slot.
use Rattle.std.proofs.Common.{◌≡◌, ◌+◌, ◌-◌, ◌*◌, ◌^◌, ◌<◌, ◌≤◌, Bool, true, false, List, length, get_or, ap, arith}
use Rattle.std.specs.List.{sum_by}
use Rattle.std.specs.Option.{option_map_or}
use Rattle.std.specs.Prelude.{Option, None, Some}
use Rattle.std.proofs.lemmas.List.Sums.{sum_by-le}
use Rattle.index_record.specs.Record.{size_kb}
use Rattle.index_record.specs.declared.record.IndexRecord.{IndexRecord}
use Rattle.cache_base.specs.Numbers.{one_if}
use Rattle.index_map.specs.Slots.{AreFew, AreSmall, changed_of, counts_of, kilobytes_of, records_of, Slot}
use Rattle.index_map.specs.declared.counts.Counts.{Counts}

one_if-le : (b : Bool) → one_if b ≤ 1
one_if-le true = omega arith
one_if-le false = omega arith

kb-le : (r : Option IndexRecord) → option_map_or size_kb r 0 ≤ 2 ^ 24
kb-le None = omega arith
kb-le (Some r) = omega arith

-- fewer than 2^63 slots have counts that fit
pub records-le : (slots : List Slot) → sum_by records_of slots ≤ length slots
records-le slots = let h = sum_by-le records_of 1 slots (λ k d low. one_if-le _) in omega (arith, h)

pub changed-le : (slots : List Slot) → sum_by changed_of slots ≤ length slots
changed-le slots = let h = sum_by-le changed_of 1 slots (λ k d low. one_if-le _) in omega (arith, h)

pub kilobytes-le : (slots : List Slot) → sum_by kilobytes_of slots ≤ length slots * 2 ^ 24
kilobytes-le slots = sum_by-le kilobytes_of (2 ^ 24) slots (λ k d low. kb-le (get_or slots k d).current)

abbrev pub empty : Slot
empty = record { current = None; seen = false; base = None }

-- one slot stands in place of another
pub record Exchanged (before after : List Slot) (old new : Slot) : Type 0 where
  pub records : sum_by records_of after + records_of old ≡ sum_by records_of before + records_of new
  pub kilobytes : sum_by kilobytes_of after + kilobytes_of old ≡ sum_by kilobytes_of before + kilobytes_of new
  pub changed : sum_by changed_of after + changed_of old ≡ sum_by changed_of before + changed_of new

-- the second counts are the first with one slot more, or less
pub record IsWith (n : Counts) (slot : Slot) (m : Counts) : Type 0 where
  pub records : m.records ≡ n.records + records_of slot
  pub kilobytes : m.kilobytes ≡ n.kilobytes + kilobytes_of slot
  pub changed : m.changed ≡ n.changed + changed_of slot

pub record IsWithout (n : Counts) (slot : Slot) (m : Counts) : Type 0 where
  pub records : m.records ≡ n.records - records_of slot
  pub kilobytes : m.kilobytes ≡ n.kilobytes - kilobytes_of slot
  pub changed : m.changed ≡ n.changed - changed_of slot

records_are : (n : Counts) (slots : List Slot) → n ≡ counts_of slots → n.records ≡ sum_by records_of slots
records_are n slots h = ap (λ (m : Counts). m.records) h

kilobytes_are : (n : Counts) (slots : List Slot) → n ≡ counts_of slots → n.kilobytes ≡ sum_by kilobytes_of slots
kilobytes_are n slots h = ap (λ (m : Counts). m.kilobytes) h

changed_are : (n : Counts) (slots : List Slot) → n ≡ counts_of slots → n.changed ≡ sum_by changed_of slots
changed_are n slots h = ap (λ (m : Counts). m.changed) h

-- the counts of fewer than 2^63 slots are small
pub small : (n : Counts) (slots : List Slot) → n ≡ counts_of slots → length slots < 2 ^ 63 → AreSmall n
small n slots h few = record {
  records = omega (arith, records_are n slots h, records-le slots);
  kilobytes = omega (arith, kilobytes_are n slots h, kilobytes-le slots);
  changed = omega (arith, changed_are n slots h, changed-le slots);
}

-- those of fewer than 2^62 are few
pub few : (n : Counts) (slots : List Slot) → n ≡ counts_of slots → length slots < 2 ^ 62 → AreFew n
few n slots h low = record {
  records = omega (arith, records_are n slots h, records-le slots);
  kilobytes = omega (arith, kilobytes_are n slots h, kilobytes-le slots);
  changed = omega (arith, changed_are n slots h, changed-le slots);
}

-- what is taken off is there
pub record AreThere (n : Counts) (slot : Slot) : Type 0 where
  pub records : records_of slot ≤ n.records
  pub kilobytes : kilobytes_of slot ≤ n.kilobytes
  pub changed : changed_of slot ≤ n.changed

pub there : (before after : List Slot) (old new : Slot) (n m : Counts) → n ≡ counts_of before → Exchanged before after old new → IsWith n new m → AreThere m old
there before after old new n m h e w = record {
  records = omega (arith, records_are n before h, e.records, w.records);
  kilobytes = omega (arith, kilobytes_are n before h, e.kilobytes, w.kilobytes);
  changed = omega (arith, changed_are n before h, e.changed, w.changed);
}

pub counts_after : (before after : List Slot) (old new : Slot) (n m l : Counts) → n ≡ counts_of before → Exchanged before after old new
    → IsWith n new m → IsWithout m old l → l ≡ counts_of after
counts_after before after old new n m l h e w o =
    let r : l.records ≡ sum_by records_of after = omega (arith, records_are n before h, e.records, w.records, o.records) in
    let k : l.kilobytes ≡ sum_by kilobytes_of after = omega (arith, kilobytes_are n before h, e.kilobytes, w.kilobytes, o.kilobytes) in
    let c : l.changed ≡ sum_by changed_of after = omega (arith, changed_are n before h, e.changed, w.changed, o.changed) in
    λ i. record { records = r i; kilobytes = k i; changed = c i }

pub with_empty : (n : Counts) → IsWith n empty n
with_empty n = record { records = omega arith; kilobytes = omega arith; changed = omega arith }
