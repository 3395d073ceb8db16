-- Which records a clearing of an origin takes.
use Rattle.std.specs.Prelude.{ℕ, Bool, true, false, ◌≡◌, ◌==◌, ◌&&◌, not, List, Option, None, Some, Contains, ◌↔◌}
use Rattle.cache_base.specs.Names.{AreSorted}
use Rattle.cache_base.specs.declared.name.Name.{Name}
use Rattle.index_map.specs.Known.{Known}
use Rattle.index_record.specs.Record.{is_pinned}
use Rattle.index_record.specs.declared.record.IndexRecord.{IndexRecord}
use Rattle.record_list.specs.Lists.{record_at}

-- a record is covered where it is of the origin with this hash and not pinned
abbrev pub covers_record : ℕ → IndexRecord → Bool
covers_record origin r = r.origin == origin && not (is_pinned r)

-- whether there is a record, and it is covered
abbrev pub covers_found : ℕ → Option IndexRecord → Bool
covers_found origin None = false
covers_found origin (Some r) = covers_record origin r

-- whether the record of a name was seen, and is covered
abbrev pub covers_name : Known → ℕ → Name → Bool
covers_name m origin name = covers_found origin (record_at m.seen name)

-- these are the names of the seen records that are covered, in name order, and none stands twice
pub record AreCovered (m : Known) (origin : ℕ) (names : List Name) : Type 0 where
  pub rising : AreSorted names
  pub each : (name : Name) → Contains names name ↔ (covers_name m origin name ≡ true)
