-- Where few records differ from those of the index that stands, it stays in use.
use Rattle.std.proofs.Common.{◌≡◌, ◌∙◌, ◌<◌, ℕ, List, [], ◌∷◌, refl, sym, ap, subst}
use Rattle.cache_base.specs.declared.limits.TheConstants.{CHANGED_MAX}
use Rattle.cache_base.specs.declared.name.Name.{Name}
use Rattle.cache_store.specs.InUse.{FewAreSpared, FewDiffer, FewStayInUse, HasFewChanges, HasJournalOf, HoldsBase, StaysInUse}
use Rattle.cache_store.specs.Open.{Represents, Tells}
use Rattle.cache_store.specs.Session.{Session}
use Rattle.cache_store.proofs.Records.CountedChanges.{changed_is_diff}
use Rattle.cache_theory.specs.Command.Command.{Flush, Rebuild}
use Rattle.cache_theory.specs.Machine.{Machine}
use Rattle.disk_theory.specs.Image.{Files}
use Rattle.index_map.specs.Known.{Known}
use Rattle.index_record.specs.declared.record.IndexRecord.{IndexRecord}
use Rattle.index_theory.specs.Scan.{scan}
use Rattle.index_theory.proofs.ScanLaws.{table_is_scanned}
use Rattle.index_update.specs.Rest.{name_bytes}
use Rattle.record_list.specs.Change.{IsDiff, change}
use Rattle.record_list.specs.Lists.{record_at}

-- ---- records that are the same under each name

abbrev AreSame : List IndexRecord → List IndexRecord → Type 0
AreSame rs ts = (name : Name) → record_at rs name ≡ record_at ts name

-- they have the same difference
diff_along : (base base' now now' diff : List IndexRecord) → AreSame base base' → AreSame now now' → IsDiff base now diff → IsDiff base' now' diff
diff_along base base' now now' diff bases nows is = record {
  rising = is.rising;
  same = λ name. is.same name ∙ (λ i. change name (bases name i) (nows name i));
}

journal_along : (base base' now now' : List IndexRecord) (files : Files) → AreSame base base' → AreSame now now' → HasJournalOf base now files → HasJournalOf base' now' files
journal_along base base' now now' files bases nows has = record {
  bytes = has.bytes;
  changes = has.changes;
  stands = has.stands;
  spells = has.spells;
  diff = diff_along base base' now now' has.changes bases nows has.diff;
}

-- ---- the records in memory

none_left : (names : List Name) → [] ≡ name_bytes names → names ≡ []
none_left [] e = refl
none_left (n ∷ names) e = absurd (cc)

module _ (records : List IndexRecord) (now : Session) (m : Machine) (is : Represents now m) (tells : Tells now m)
    (holds : HoldsBase records now.open_store.index.map) (ended : now.open_store.index.update ≡ []) where
  -- are the machine's once the update has ended
  records_are : AreSame now.open_store.index.map.records (scan m.shelf)
  records_are name = tells.tells.all ended name ∙ sym ((table_is_scanned m.shelf is.stands.1.proper.shelf.rising).same name)

  -- so few differ from the base
  has_few : FewDiffer records m → HasFewChanges now.open_store.index.map
  has_few few =
      let map : Known = now.open_store.index.map in
      let diff : IsDiff map.base map.records few.changes =
      diff_along records map.base (scan m.shelf) map.records few.changes (λ name. sym (holds.same name)) (λ name. sym (records_are name)) few.diff in
      record {
        has_base = holds.has_base;
        few = λ known. subst (λ (n : ℕ). n < CHANGED_MAX) (sym (changed_is_diff map.base map.records few.changes known.base_names known.names diff)) few.few;
      }

-- ---- the laws

-- only a flush has something to show
pub few_are_spared : FewAreSpared
few_are_spared records now m Flush is tells holds few =
    λ ended. has_few records now m is tells holds ended (few (is.matches.rest ∙ ap name_bytes ended))
few_are_spared records now m Rebuild is tells holds few = few
few_are_spared records now m _ is tells holds few = tt

pub few_stay_in_use : FewStayInUse
few_stay_in_use records now m t is tells holds rest few closes =
    let map : Known = now.open_store.index.map in
    let ended : now.open_store.index.update ≡ [] = none_left now.open_store.index.update (sym rest ∙ is.matches.rest) in
    let stays : StaysInUse map.base map.records now.disk t = closes.in_use ended (has_few records now m is tells holds ended few) in
    record {
      same = stays.same;
      journal = journal_along map.base records map.records (scan m.shelf) _ holds.same (records_are records now m is tells holds ended) stays.journal;
    }
