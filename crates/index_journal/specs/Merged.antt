-- The records of an index and of its journal, in one list.
use Rattle.std.specs.Prelude.{List, filter, not, ◌++◌}
use Rattle.cache_base.specs.Names.{has_name}
use Rattle.index_record.specs.declared.record.IndexRecord.{IndexRecord}
use Rattle.record_list.specs.Lists.{names_of}
use Rattle.record_list.specs.Stored.{present}

-- the records of the index of which the journal says nothing, and after them those that the journal sets
abbrev pub merged : List IndexRecord → List IndexRecord → List IndexRecord
merged rs js = filter (λ r. not (has_name (names_of js) r.name)) rs ++ present js
