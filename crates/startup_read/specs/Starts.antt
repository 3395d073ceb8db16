-- What an opening makes of the files that it reads.
use Rattle.std.specs.Prelude.{Bool, List, None, false, is_some, true, ◌≡◌, ◌≢◌}
use Rattle.cache_base.specs.declared.name.Name.{Name}
use Rattle.disk_theory.specs.Image.{Files}
use Rattle.disk_theory.specs.State.{State, standing}
use Rattle.disk_theory.specs.declared.place.Place.TheVariants.{Index, Log, Tmp}
use Rattle.index_map.specs.Known.{BeginsOver, BeginsAfter, Known, no_records}
use Rattle.index_record.specs.declared.record.IndexRecord.{IndexRecord}
use Rattle.index_theory.specs.Ever.{entries}
use Rattle.index_theory.specs.Honest.{Honest, index_records, journal_records}
use Rattle.index_theory.specs.declared.kinds.IndexKind.{IndexKind}
use Rattle.index_theory.specs.IndexKind.{index_kind}
use Rattle.index_theory.specs.declared.kinds.IndexKind.TheVariants.{Missing, Invalid, Dirty, Clean}
use Rattle.index_theory.specs.declared.kinds.Start.{Start}
use Rattle.index_theory.specs.Start.{start_of}
use Rattle.index_theory.specs.declared.kinds.Start.TheVariants.{Ready, Update, Build}
use Rattle.index_theory.specs.Scan.{TellsScan}
use Rattle.record_list.specs.Lists.{record_at}

-- the map of the records at the start, by those of the index and of its journal: the journal applied to the index, all
-- seen; or those of the index, unseen; or none, without a base
abbrev pub StartsWith : Start → List IndexRecord → List IndexRecord → Known → Type 0
StartsWith Ready base changes map = BeginsAfter base changes map
StartsWith Update base changes map = BeginsOver base base false map
StartsWith Build base changes map = map ≡ no_records

-- so it is made of the files that stand
abbrev pub StartsFrom : Files → Known → Type 0
StartsFrom files map = StartsWith (start_of files) (index_records (files Index)) (journal_records (files Log)) map

-- where the start is Ready in an honest directory, the records say what a scan would, and all of them were seen
abbrev pub ReadyTells : Type 0
ReadyTells = (files : Files) (map : Known) → Honest files → start_of files ≡ Ready → StartsFrom files map
    → TellsScan (entries files) map.records × TellsScan (entries files) map.seen

-- otherwise none was seen
abbrev pub UnreadySeesNone : Type 0
UnreadySeesNone = (files : Files) (map : Known) → start_of files ≢ Ready → StartsFrom files map
    → (name : Name) → record_at map.seen name ≡ None

-- the index is clean
abbrev pub is_clean : IndexKind → Bool
is_clean Missing = false
is_clean Invalid = false
is_clean Dirty = false
is_clean Clean = true

-- what decides on the changes of an opening: whether the index is clean, and whether files stand at the other two places
pub record IsSeen (s : State) (clean log tmp : Bool) : Type 0 where
  pub is_clean_there : clean ≡ is_clean (index_kind (standing s Index))
  pub has_log : log ≡ is_some (standing s Log)
  pub has_tmp : tmp ≡ is_some (standing s Tmp)
