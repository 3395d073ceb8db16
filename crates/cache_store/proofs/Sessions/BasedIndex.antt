-- The base of the index in memory, as the cache is opened.
use Rattle.std.proofs.Common.{◌≡◌, ◌≢◌, ◌∙◌, Bool, true, false, cond, List, Result, Ok, Err, refl, sym, ap, subst}
use Rattle.std.specs.Prelude.{IfOk, is_some}
use Rattle.cache_base.specs.Bytes.{be32}
use Rattle.disk_theory.specs.Image.{Files}
use Rattle.disk_theory.specs.State.{State, removed, renamed, settled, standing}
use Rattle.disk_theory.specs.declared.place.Place.TheVariants.{Index, Log, Tmp}
use Rattle.disk_theory.proofs.Standing.{settled_same}
use Rattle.index_map.specs.Known.{Known, SameBase}
use Rattle.index_record.specs.declared.record.IndexRecord.{IndexRecord}
use Rattle.index_theory.specs.Closing.{flagged}
use Rattle.index_theory.specs.Honest.{index_records, journal_records}
use Rattle.index_theory.specs.IndexKind.{index_kind}
use Rattle.index_theory.specs.Start.{start_of}
use Rattle.index_theory.specs.declared.kinds.Start.{Start}
use Rattle.index_theory.specs.declared.kinds.Start.TheVariants.{Ready, Update, Build}
use Rattle.startup_read.specs.Opening.{cleared, marked, opened, set_aside}
use Rattle.startup_read.specs.Starts.{StartsFrom, StartsWith, is_clean}
use Rattle.startup_read.proofs.OpeningSteps.{clean_holds}
use Rattle.cache_store.specs.InUse.{HoldsBase, IsBasedOn, IsSameIndex, OpensInUse}
use Rattle.cache_store.specs.Open.{BeginsOn}
use Rattle.memory_index.specs.declared.memory_index.MemoryIndex.{MemoryIndex}
use Rattle.cache_store.proofs.Records.SameIndex.{either_same, flagged_same, is_same, same_then}

-- the records of an index that is read are the base
starts_on_base : (start : Start) (base changes : List IndexRecord) (map : Known) → StartsWith start base changes map → start ≢ Build → HoldsBase base map
starts_on_base Ready base changes map starts found = record { has_base = starts.1.1.has_base; same = starts.1.1.base }
starts_on_base Update base changes map starts found = record { has_base = starts.has_base; same = starts.base }
starts_on_base Build base changes map starts found = absurd (found refl)

-- an opening writes no byte of it but its flag
marked_same : (s : State) → IsSameIndex s (marked s)
marked_same s = go (is_clean (index_kind (standing s Index))) refl
  where
    go : (b : Bool) → is_clean (index_kind (standing s Index)) ≡ b → IsSameIndex s (cond b (flagged (be32 1) s) s)
    go true clean = flagged_same s (be32 1) refl (clean_holds (standing s Index) 4 refl clean)
    go false clean = is_same s s refl

pub opened_same : (s : State) → IsSameIndex s (opened s)
opened_same s =
    let a : State = set_aside s in
    let m : State = marked a in
    let u : State = settled m in
    let aside : IsSameIndex s a = either_same (is_some (standing s Log)) s (renamed Log Tmp s) s (is_same s (renamed Log Tmp s) refl) (is_same s s refl) in
    let clear : IsSameIndex u (cleared u) = either_same (is_some (standing u Tmp)) u (removed Tmp u) u (is_same u (removed Tmp u) refl) (is_same u u refl) in
    same_then s a (cleared u) aside (same_then a m (cleared u) (marked_same a) (same_then m u (cleared u) (is_same m u (settled_same m Index)) clear))

pub opens_based : (s t : State) (map : Known) → StartsFrom (standing s) map → t ≡ opened s → OpensInUse s map t
opens_based s t map starts is found = record {
  base = starts_on_base (start_of (standing s)) (index_records (standing s Index)) (journal_records (standing s Log)) map starts found;
  same = subst (IsSameIndex s) (sym is) (opened_same s);
}

-- the same over the same base, on the same disk
pub begun_based : {E : Type 0} (r : Result MemoryIndex E) (A : Type 0) (s t u : State) (map : Known) → (A → u ≡ t) → (A → OpensInUse s map t)
    → IfOk r (λ index. SameBase map index.map) → IfOk r (λ index. A → OpensInUse s index.map u)
begun_based (Ok index) A s t u map same opens base = λ a found.
    let was = opens a found in
    subst (IsBasedOn s index.map) (sym (same a)) (record {
      base = record { has_base = base.has_base ∙ was.base.has_base; same = λ name. base.records name ∙ was.base.same name };
      same = was.same;
    })
begun_based (Err e) A s t u map same opens base = tt

-- the records that it begins with
pub begins_on : (files : Files) (map : Known) → StartsFrom files map → BeginsOn files map
begins_on files map starts = record {
  ready = λ is. subst (λ (start : Start). StartsWith start (index_records (files Index)) (journal_records (files Log)) map) is starts;
  build = λ is. ap (λ (m : Known). m.has_base) (subst (λ (start : Start). StartsWith start (index_records (files Index)) (journal_records (files Log)) map) is starts);
}

-- the same over the same base, where the index is not trusted
pub begun_on : {E : Type 0} (r : Result MemoryIndex E) (A : Type 0) (files : Files) (map : Known) → (A → start_of files ≢ Ready) → (A → StartsFrom files map)
    → IfOk r (λ index. SameBase map index.map) → IfOk r (λ index. A → BeginsOn files index.map)
begun_on (Ok index) A files map unready starts base = λ a. record {
  ready = λ is. absurd (unready a is);
  build = λ is. base.has_base ∙ (begins_on files map (starts a)).build is;
}
begun_on (Err e) A files map unready starts base = tt
