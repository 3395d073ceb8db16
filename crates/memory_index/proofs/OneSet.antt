-- The record of one name is set, or taken out, and the name leaves the rest.
use Rattle.std.proofs.Common.{◌≡◌, ◌≢◌, ◌∙◌, Bool, true, false, cond, List, Option, refl, sym, ap}
use Rattle.std.specs.Prelude.{bytes_eq, option_and_then}
use Rattle.cache_base.specs.declared.name.Name.{Name}
use Rattle.index_map.specs.Known.{Known, Sets}
use Rattle.index_record.specs.declared.record.IndexRecord.{IndexRecord}
use Rattle.index_theory.specs.Ever.{Entries}
use Rattle.index_theory.specs.Scan.{record_of, scanned}
use Rattle.index_update.specs.Rest.{name_bytes, without}
use Rattle.index_update.specs.Tells.{SameBut, TellsAll, TellsSeen}
use Rattle.index_update.proofs.ReadMore.{base_then}
use Rattle.index_update.proofs.TellLaws.{seen_tells, set_tells_all}
use Rattle.memory_index.specs.Records.{ScanSets, SetsRecord, TakenOff}
use Rattle.memory_index.specs.declared.memory_index.MemoryIndex.{MemoryIndex}
use Rattle.record_list.specs.Lists.{same_name}
use Rattle.record_list.proofs.NameLaws.{same_is, same_itself}

-- another name has other bytes
other_bytes : (name q : Name) → q ≢ name → same_name name q ≡ false
other_bytes name q apart = go (same_name name q) refl
  where
    go : (b : Bool) → same_name name q ≡ b → b ≡ false
    go false e = refl
    go true e = absurd (apart (sym (same_is name q e)))

module _ (name : Name) (r : Option IndexRecord) (before now : Entries) (sets : ScanSets name r before now) where
  -- the entries before, with that of the name as it is now
  between : Entries
  between q = cond (bytes_eq name.0 q) (now q) (before q)

  between_same : SameBut name before between
  unfolding between
  between_same q apart = ap (λ b. cond b (now q.0) (before q.0)) (other_bytes name q apart)

  -- they are scanned as those now
  between_scans : (q : Name) → scanned between q ≡ scanned now q
  unfolding between
  between_scans q = go (same_name name q) refl
    where
      go : (b : Bool) → same_name name q ≡ b → option_and_then (record_of q) (cond (same_name name q) (now q.0) (before q.0)) ≡ scanned now q
      go true e = ap (λ b. option_and_then (record_of q) (cond b (now q.0) (before q.0))) e
      go false e = ap (λ b. option_and_then (record_of q) (cond b (now q.0) (before q.0))) e ∙ sym (sets q ∙ ap (λ b. cond b r (scanned before q)) e)

  scan_here : r ≡ scanned between name
  scan_here = sym (between_scans name ∙ sets name ∙ ap (λ b. cond b r (scanned before name)) (same_itself name))

  seen_on : (k l : Known) (rest : List Name) → Sets k l name r → TellsSeen before k (name_bytes rest) → TellsSeen now l (name_bytes (without name rest))
  seen_on k l rest set tells q out = seen_tells before between k l name r rest set scan_here between_same tells q out ∙ between_scans q

  all_on : (k l : Known) → Sets k l name r → TellsAll before k → TellsAll now l
  all_on k l set tells q = set_tells_all before between k l name r set scan_here between_same tells q ∙ between_scans q

pub sets_one : (name : Name) (r : Option IndexRecord) (old : MemoryIndex) (k : Known) (new : MemoryIndex) → Sets old.map k name r → TakenOff name k old.update new → SetsRecord name r old new
sets_one name r old k new sets taken = record {
  rest = taken.rest;
  base = base_then old.map k new.map sets.base taken.base;
  tells = λ before now scan tells.
      taken.tells now (seen_on name r before now scan old.map k old.update sets tells.seen) (λ none. all_on name r before now scan old.map k sets (tells.all none));
}
