-- What a check of all entries uses.
use Rattle.std.specs.Io.KnownBytes.{Appends}
use Rattle.std.specs.Prelude.{List, Option, ℕ, ◌≡◌}
use Rattle.cache_check.specs.Findings.{findings}
use Rattle.cache_check.specs.declared.finding.Finding.{Finding}
use Rattle.cache_store.specs.Open.{Represents}
use Rattle.cache_store.specs.Session.{Session}
use Rattle.cache_replies.specs.declared.answered.Answered.{Answered}
use Rattle.cache_replies.specs.declared.answered.Answered.TheVariants as answered
use Rattle.cache_theory.specs.Machine.{Machine, writing_names}
use Rattle.cache_theory.specs.Text.{findings_text}
use Rattle.index_map.specs.Known.{Known}
use Rattle.index_record.specs.declared.record.IndexRecord.{IndexRecord}
use Rattle.record_list.specs.Lists.{IsByName}

-- these are the findings by the files that stand, the records of the map, and the names that are being written
abbrev pub AreFound : Session → Known → List Finding → Type 0
AreFound before map found =
    (m : Machine) → Represents before m
    → (records : List IndexRecord)
    × (IsByName map.records records × (found ≡ findings m.shelf records (writing_names m)))

-- an answer has just those
abbrev pub IsFoundIn : Session → Known → Answered → Type 0
IsFoundIn before map a = (found : List Finding) × ((a ≡ answered.Checked found) × AreFound before map found)

-- just those go out
abbrev pub PrintsFound : Session → Known → Option (List ℕ) → Option (List ℕ) → Type 0
PrintsFound before map taken now =
    (found : List Finding) × (AreFound before map found × Appends taken now (findings_text found))
