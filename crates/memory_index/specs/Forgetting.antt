-- Records that are taken out.
use Rattle.std.specs.Prelude.{List, None, if◌then◌else◌, ◌≡◌}
use Rattle.cache_base.specs.declared.name.Name.{Name}
use Rattle.cache_theory.specs.Laws.{is_among}
use Rattle.index_map.specs.Known.{Known, SameBase}
use Rattle.index_record.specs.declared.record.IndexRecord.{IndexRecord}
use Rattle.record_list.specs.Lists.{record_at}

-- these are the records but for those of some names
abbrev pub AreOthers : List IndexRecord → List Name → List IndexRecord → Type 0
AreOthers records names left =
    (q : Name) → record_at left q ≡ (if is_among q.0 names then None else record_at records q)

-- the records of these names are out, and the others and the base are as before
pub record Forgets (names : List Name) (old new : Known) : Type 0 where
  pub records : AreOthers old.records names new.records
  pub seen : (q : Name) → record_at new.seen q
      ≡ (if is_among q.0 names then None else record_at old.seen q)
  pub base : SameBase old new
