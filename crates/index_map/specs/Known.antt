-- What a map of records shows.
use Rattle.std.specs.List.{AllByRecursion}
use Rattle.std.specs.Prelude.{Bool, List, None, Option, Some, [], count_by, false, if◌then◌else◌, is_none, is_some, true, ℕ, IfSome, ◌+◌, ◌≡◌}
use Rattle.cache_base.specs.declared.name.Name.{Name}
use Rattle.index_record.specs.Record.{is_removed}
use Rattle.index_record.specs.declared.record.IndexRecord.{IndexRecord}
use Rattle.record_list.specs.Change.{HasNoRemoved, IsApplied, applied, change}
use Rattle.record_list.specs.Lists.{HasNames, record_at, same_name}
use Rattle.record_list.specs.Stored.{AreClean, IsClean}

-- the records now, those of them that were seen, and the records of the base, in no fixed order; without a base it has
-- no records
pub record Known : Type 0 where
  pub records : List IndexRecord
  pub seen : List IndexRecord
  pub base : List IndexRecord
  pub has_base : Bool

-- a record without the removed bit 29, the dirty bit 28 and the fresh bit 27
pub record IsPlain (r : IndexRecord) : Type 0 where
  pub present : is_removed r ≡ false
  pub clean : IsClean r

-- each of these records is plain
abbrev pub ArePlain : List IndexRecord → Type 0
ArePlain rs = AllByRecursion IsPlain rs

-- what is true of every map: no name stands twice, no record is removed, dirty or fresh, what was seen is a record now,
-- and without a base there are no records of one
pub record IsKnown (m : Known) : Type 0 where
  pub names : HasNames m.records
  pub base_names : HasNames m.base
  pub present : HasNoRemoved m.records
  pub clean : AreClean m.records
  pub seen : (name : Name) → IfSome (record_at m.seen name) (λ r. record_at m.records name ≡ Some r)
  pub no_base : m.has_base ≡ false → m.base ≡ []

-- the number of names whose record now differs from the base's: records that are new or differ, and those that are gone
abbrev pub changed : List IndexRecord → List IndexRecord → ℕ
changed base records =
    count_by (λ r. is_some (change r.name (record_at base r.name) (Some r))) records
    + count_by (λ b. is_none (record_at records b.name)) base

-- the base holds the same records
pub record SameBase (old new : Known) : Type 0 where
  pub records : (name : Name) → record_at new.base name ≡ record_at old.base name
  pub has_base : new.has_base ≡ old.has_base

-- under this name stands this record now, or none, and it was seen; all else is as before
pub record Sets (old new : Known) (name : Name) (r : Option IndexRecord) : Type 0 where
  pub records : (q : Name)
      → record_at new.records q ≡ (if same_name name q then r else record_at old.records q)
  pub seen : (q : Name)
      → record_at new.seen q ≡ (if same_name name q then r else record_at old.seen q)
  pub base : SameBase old new

-- the map begins with these records, all of them seen or none, over this base
pub record BeginsOver (old_base now : List IndexRecord) (all_seen : Bool) (m : Known) : Type 0 where
  pub records : (name : Name) → record_at m.records name ≡ record_at now name
  pub seen : (name : Name) → record_at m.seen name ≡ (if all_seen then record_at now name else None)
  pub base : (name : Name) → record_at m.base name ≡ record_at old_base name
  pub has_base : m.has_base ≡ true

-- the map begins with a journal applied to the base, all of its records seen
abbrev pub BeginsAfter : List IndexRecord → List IndexRecord → Known → Type 0
BeginsAfter base changes m = (now : List IndexRecord) × (IsApplied base changes now × BeginsOver base now true m)

-- the changes of a journal are made to the records now, and these names are seen; the base stays
pub record Applies (changes : List IndexRecord) (old new : Known) : Type 0 where
  pub records : (name : Name) → record_at new.records name ≡ applied old.records changes name
  pub seen : (name : Name) → record_at new.seen name ≡ applied old.seen changes name
  pub base : SameBase old new

-- a map without records and without a base
abbrev pub no_records : Known
no_records = record { records = []; seen = []; base = []; has_base = false }
