-- What changes keep of the index on the disk, and what the records at the start say.
use Rattle.std.proofs.Common.{◌≡◌, ◌≢◌, List, None, true, refl, sym, ap, subst, ◌∙◌}
use Rattle.cache_base.specs.declared.name.Name.{Name}
use Rattle.disk_theory.specs.declared.place.Place.TheVariants.{Index, Log, Tmp}
use Rattle.disk_theory.specs.Image.{Files}
use Rattle.index_map.specs.Known.{Known}
use Rattle.index_record.specs.declared.record.IndexRecord.{IndexRecord}
use Rattle.index_theory.specs.Base.{BaseStands}
use Rattle.index_theory.specs.Ever.{entries}
use Rattle.index_theory.specs.Honest.{Honest, index_records, journal_records}
use Rattle.index_theory.specs.Scan.{TellsScan}
use Rattle.index_theory.specs.Start.{start_of}
use Rattle.index_theory.specs.declared.kinds.Start.{Start}
use Rattle.index_theory.specs.declared.kinds.Start.TheVariants.{Ready, Update, Build}
use Rattle.record_list.specs.Lists.{record_at}
use Rattle.startup_read.specs.Kept.{LeftKeepsIndex, SameBaseKeepsIndex}
use Rattle.startup_read.specs.Starts.{ReadyTells, StartsWith, UnreadySeesNone}

pub left_keeps_index : LeftKeepsIndex
left_keeps_index s t map left keeps = record {
  no_log = left.stands Log tt ∙ keeps.no_log;
  no_tmp = left.stands Tmp tt ∙ keeps.no_tmp;
  base = λ has. subst (λ file. BaseStands file true map.base) (sym (left.stands Index tt)) (keeps.base has);
}

pub same_base_keeps_index : SameBaseKeepsIndex
same_base_keeps_index s old new same keeps = record {
  no_log = keeps.no_log;
  no_tmp = keeps.no_tmp;
  base = λ has.
      let b = keeps.base (sym same.has_base ∙ has) in
      record {
        content = b.content;
        timestamp = b.timestamp;
        spelled = b.spelled;
        stands = b.stands;
        spells = b.spells;
        same = λ name. b.same name ∙ sym (same.records name);
      };
}

told_by : (files : Files) (map : Known) → Honest files → start_of files ≡ Ready
    → StartsWith Ready (index_records (files Index)) (journal_records (files Log)) map
    → TellsScan (entries files) map.records × TellsScan (entries files) map.seen
told_by files map honest ready (now, (is, begins)) = (λ name. begins.records name ∙ says name, λ name. begins.seen name ∙ says name)
  where
    says : TellsScan (entries files) now
    says name = is.same name ∙ honest ready name

pub ready_tells : ReadyTells
ready_tells files map honest ready starts =
    told_by files map honest ready (subst (λ start. StartsWith start (index_records (files Index)) (journal_records (files Log)) map) ready starts)

none_seen : (start : Start) (base changes : List IndexRecord) (map : Known) → start ≢ Ready → StartsWith start base changes map
    → (name : Name) → record_at map.seen name ≡ None
none_seen Ready base changes map unready starts name = absurd (unready refl)
none_seen Update base changes map unready starts name = starts.seen name
none_seen Build base changes map unready starts name = ap (λ (m : Known). record_at m.seen name) starts

pub unready_sees_none : UnreadySeesNone
unready_sees_none files map unready starts = none_seen (start_of files) (index_records (files Index)) (journal_records (files Log)) map unready starts
