-- The map of the records at the start.
use Rattle.std.proofs.Common.{◌≡◌, ℕ, List, [], ◌∷◌, Option, Bool, true, false, sym, ap, subst, ◌∙◌}
use Rattle.std.specs.Prelude.{is_some}
use Rattle.disk_theory.specs.Image.{Files}
use Rattle.disk_theory.specs.declared.place.Place.TheVariants.{Index, Log, Tmp}
use Rattle.index_map.specs.Known.{ArePlain, BeginsOver, Known, no_records}
use Rattle.index_record.specs.declared.record.IndexRecord.{IndexRecord}
use Rattle.index_theory.specs.Honest.{index_records, journal_records}
use Rattle.index_theory.specs.declared.kinds.IndexKind.{IndexKind}
use Rattle.index_theory.specs.declared.kinds.IndexKind.TheVariants.{Missing as NoIndex, Invalid as BadIndex, Dirty, Clean}
use Rattle.index_theory.specs.declared.kinds.LogKind.{LogKind}
use Rattle.index_theory.specs.declared.kinds.LogKind.TheVariants.{Missing as NoLog, Invalid as BadLog, Valid}
use Rattle.index_theory.specs.declared.kinds.Start.{Start}
use Rattle.index_theory.specs.Start.{decide, start_of}
use Rattle.record_list.specs.Change.{HasNoRemoved, IsApplied}
use Rattle.record_list.specs.Lists.{HasNames, names_of}
use Rattle.record_list.specs.Stored.{AreClean}
use Rattle.record_list.proofs.NameLaws.{rising_distinct}
use Rattle.index_theory.specs.Base.{BaseStands}
use Rattle.startup_read.specs.Kept.{HasBase}
use Rattle.startup_read.specs.Reads.{IsIndex, IsJournal, ReadsIndex, ReadsJournal, is_dirty}
use Rattle.startup_read.specs.Starts.{StartsFrom, StartsWith}

pub plain_both : (rs : List IndexRecord) → AreClean rs → HasNoRemoved rs → ArePlain rs
plain_both [] clean kept = tt
plain_both (r ∷ rs) clean kept = (record { present = kept.0; clean = clean.0 }, plain_both rs clean.1 kept.1)

pub applied_names : (base changes now : List IndexRecord) → IsApplied base changes now → HasNames now
applied_names base changes now is = rising_distinct (names_of now) is.rising

-- the records of an index and of a journal count only where they are one
with_read : (k : IndexKind) (j : LogKind) (t : Bool) (rs ir js jr : List IndexRecord) (map : Known) → (IsIndex k → rs ≡ ir) → (IsJournal j → js ≡ jr)
    → StartsWith (decide k j t) rs js map → StartsWith (decide k j t) ir jr map
with_read NoIndex j t rs ir js jr map index journal starts = starts
with_read BadIndex j t rs ir js jr map index journal starts = starts
with_read Dirty j t rs ir js jr map index journal starts = subst (λ r. BeginsOver r r false map) (index tt) starts
with_read Clean NoLog t rs ir js jr map index journal starts = subst (λ r. BeginsOver r r false map) (index tt) starts
with_read Clean BadLog t rs ir js jr map index journal starts = subst (λ r. BeginsOver r r false map) (index tt) starts
with_read Clean Valid true rs ir js jr map index journal starts = subst (λ r. BeginsOver r r false map) (index tt) starts
with_read Clean Valid false rs ir js jr map index journal (now, (applied, begins)) =
    (now, (subst (λ j. IsApplied ir j now) (journal tt) (subst (λ r. IsApplied r js now) (index tt) applied), subst (λ r. BeginsOver r now true map) (index tt) begins))

pub start_is : (files : Files) (start : Start) (k : IndexKind) (j : LogKind) (t : Bool) (rs js : List IndexRecord)
    → ReadsIndex (files Index) k rs → ReadsJournal (files Log) j js → t ≡ is_some (files Tmp) → start ≡ decide k j t → start ≡ start_of files
start_is files start k j t rs js index journal tmp is = is ∙ (λ i. decide (index.is i) (journal.is i) (tmp i))

pub starts_from : (files : Files) (start : Start) (k : IndexKind) (j : LogKind) (t : Bool) (rs js : List IndexRecord) (map : Known)
    → ReadsIndex (files Index) k rs → ReadsJournal (files Log) j js → t ≡ is_some (files Tmp) → start ≡ decide k j t
    → StartsWith start rs js map → StartsFrom files map
starts_from files start k j t rs js map index journal tmp is starts =
    let from = with_read k j t rs (index_records (files Index)) js (journal_records (files Log)) map index.has journal.has (subst (λ x. StartsWith x rs js map) is starts) in
    subst (λ x. StartsWith x (index_records (files Index)) (journal_records (files Log)) map) (λ i. decide (index.is i) (journal.is i) (tmp i)) from

-- the base of the map is what the index spells
based : (file : Option (List ℕ)) (dirty all_seen : Bool) (rs now : List IndexRecord) (map : Known) → BaseStands file dirty rs → BeginsOver rs now all_seen map → BaseStands file dirty map.base
based file dirty all_seen rs now map b begins =
    record { content = b.content; timestamp = b.timestamp; spelled = b.spelled; stands = b.stands; spells = b.spells; same = λ name. b.same name ∙ sym (begins.base name) }

no_base : (map : Known) → map ≡ no_records → map.has_base ≡ true → ⊥
no_base map is has = let both : false ≡ true = sym (ap (λ (m : Known). m.has_base) is) ∙ has in cc

with_base : (file : Option (List ℕ)) (k : IndexKind) (j : LogKind) (t : Bool) (rs js : List IndexRecord) (map : Known) → (IsIndex k → BaseStands file (is_dirty k) rs)
    → StartsWith (decide k j t) rs js map → HasBase file map
with_base file NoIndex j t rs js map stands starts has = absurd (no_base map starts has)
with_base file BadIndex j t rs js map stands starts has = absurd (no_base map starts has)
with_base file Dirty j t rs js map stands starts has = (true, based file true false rs rs map (stands tt) starts)
with_base file Clean NoLog t rs js map stands starts has = (false, based file false false rs rs map (stands tt) starts)
with_base file Clean BadLog t rs js map stands starts has = (false, based file false false rs rs map (stands tt) starts)
with_base file Clean Valid true rs js map stands starts has = (false, based file false false rs rs map (stands tt) starts)
with_base file Clean Valid false rs js map stands (now, (applied, begins)) has = (false, based file false true rs now map (stands tt) begins)

pub base_from : (file : Option (List ℕ)) (start : Start) (k : IndexKind) (j : LogKind) (t : Bool) (rs js : List IndexRecord) (map : Known) → ReadsIndex file k rs
    → start ≡ decide k j t → StartsWith start rs js map → HasBase file map
base_from file start k j t rs js map index is starts = with_base file k j t rs js map index.stands (subst (λ x. StartsWith x rs js map) is starts)
