-- Which moment the index has: after an opening, a command, more of them, and a closing.
use Rattle.std.proofs.Common.{◌≡◌, ◌≤◌, inl, inr, ℕ, Bool, true, false, List, [], ◌∷◌, ◌++◌, length, take, Option, None, Some, refl, sym, ap, subst, ◌∙◌, arith}
use Rattle.std.specs.Prelude.{IsTrue, Result}
use Rattle.cache_base.specs.Bytes.{be32}
use Rattle.cache_base.specs.Numbers.{one_if}
use Rattle.cache_base.specs.declared.name.Name.{Name}
use Rattle.cache_store.specs.CommandCall.{LeavesIndexFiles}
use Rattle.cache_store.specs.IndexCalls.{Flushes, Rebuilds}
use Rattle.cache_store.specs.DoneFor.{AreOfShelf, IsDoneFor, IsResumedBy}
use Rattle.cache_store.specs.InUse.{ClosesWhole, IsSameIndex, before_flag}
use Rattle.cache_store.specs.Open.{OpensInOrder}
use Rattle.cache_store.specs.Performing.{HadEffect}
use Rattle.cache_store.specs.Session.{open_of}
use Rattle.cache_store.specs.declared.fault.StoreFault.{StoreFault}
use Rattle.cache_replies.specs.declared.verdict.Verdict.{Verdict}
use Rattle.cache_store.specs.declared.store.Store.{Store}
use Rattle.memory_index.specs.declared.memory_index.MemoryIndex.{MemoryIndex}
use Rattle.cache_store.proofs.Records.SameIndex.{is_same, same_then}
use Rattle.cache_store.proofs.Records.SparedIndex.{not_due_fresh}
use Rattle.cache_store.proofs.Sessions.BasedIndex.{opened_same}
use Rattle.cache_store.proofs.Sessions.ClosedInUse.{closed_same, refreshed_sound}
use Rattle.cache_theory.specs.Command.{Command}
use Rattle.cache_theory.specs.Command.Command.{ClearOrigin, Evict, Flush, HasEntry, ListRecords, Rebuild, Resume, Verify}
use Rattle.cache_theory.specs.Machine.{Machine}
use Rattle.cache_theory.specs.Step.{after, step}
use Rattle.cache_tool.specs.Dated.{AreDatedBy, HasMoment, IsDatedIn, IsWrittenBy, MayBeWritten}
use Rattle.context_clear.specs.Mark.{mark_of}
use Rattle.disk_theory.specs.Calls.{HoldsPart}
use Rattle.disk_theory.specs.Sound.{IsSound}
use Rattle.disk_theory.specs.State.{State, removed, settled, standing}
use Rattle.disk_theory.specs.declared.disk.Disk.{Ghosts}
use Rattle.disk_theory.specs.declared.place.Place.TheVariants.{Doomed, Index}
use Rattle.disk_theory.proofs.Sound.{sound_removed}
use Rattle.disk_theory.proofs.Standing.{settled_same}
use Rattle.doom_area.specs.DoomArea.{RemovesDoomed, removed_each}
use Rattle.file_handles.proofs.IndexLeft.{cleared_left}
use Rattle.index_file.specs.Index.{header_bytes, index_bytes}
use Rattle.index_file.specs.Printed.{IsPrinted}
use Rattle.index_file.specs.declared.TheConstants.{VERSION}
use Rattle.index_file.proofs.IndexLaws.{index_reads_back}
use Rattle.index_map.specs.Known.{Known}
use Rattle.index_record.specs.declared.record.IndexRecord.{IndexRecord}
use Rattle.index_theory.specs.Closing.{closed}
use Rattle.index_theory.proofs.FlagLaws.{long_index}
use Rattle.index_theory.proofs.WritingLaws.{whole_stands}
use Rattle.startup_read.specs.Kept.{KeepsIndex}
use Rattle.startup_read.specs.Opening.{opened}
use Rattle.startup_read.specs.Refreshing.{Refreshes, is_due}
use Rattle.startup_read.specs.Writing.{WritesIndex}
use Rattle.startup_read.proofs.ClosingLaws.{base_holds}

-- ---- an opening

removed_index : (s u : State) → RemovesDoomed s u → standing u Index ≡ standing s Index
removed_index s u removes = (cleared_left s u removes).index.stands Index tt

pub opens_same : (s t : State) → OpensInOrder s t → IsSameIndex s t
opens_same s t (u, (removes, is)) = subst (IsSameIndex s) (sym is) (same_then s u (opened u) (is_same s u (removed_index s u removes)) (opened_same u))

-- ---- a writing of the index

bytes_front : (t f kb : ℕ) (stored : List IndexRecord) → take 8 (index_bytes t f kb stored) ≡ be32 VERSION ++ be32 t
unfolding header_bytes
bytes_front t f kb stored = refl

printed_front : (rs : List IndexRecord) (now : ℕ) (dirty : Bool) (bytes : List ℕ) → IsPrinted rs now dirty bytes → take 8 bytes ≡ be32 VERSION ++ be32 now
printed_front rs now dirty bytes printed = ap (take 8) printed.printed ∙ bytes_front now (one_if dirty) 0 printed.sorted

printed_long : (rs : List IndexRecord) (now : ℕ) (dirty : Bool) (bytes : List ℕ) → IsPrinted rs now dirty bytes → 12 ≤ length bytes
printed_long rs now dirty bytes printed = let long = long_index bytes (index_reads_back bytes now dirty printed.sorted printed.spelled).0 in omega (arith, long)

module _ (records : List IndexRecord) (now : ℕ) (s u : State) (sound : IsSound s) (writes : WritesIndex records now s u) where
  written_stands : standing u Index ≡ Some writes.0
  written_stands = ap (λ (v : State). standing v Index) writes.1.1 ∙ (whole_stands s writes.0 sound).0

  written_moment : HasMoment now u
  written_moment = ap before_flag written_stands ∙ ap Some (printed_front records now true writes.0 writes.1.0)

  written_holds : HoldsPart (standing u Index) 8 4
  written_holds = subst (λ f. HoldsPart f 8 4) (sym written_stands) (printed_long records now true writes.0 writes.1.0)

-- where it is due
module _ (map : Known) (now : ℕ) (s u : State) (sound : IsSound s) (refreshes : Refreshes map now s u) where
  refreshed_at : {may : Type 0} → may → MayBeWritten may now s u
  refreshed_at {may = may} allowed = go (is_due map) refl
    where
      go : (b : Bool) → is_due map ≡ b → MayBeWritten may now s u
      go true due = inr (allowed, written_moment map.records now s u sound (refreshes.due due))
      go false due = inl (is_same s u (ap (λ (v : State). standing v Index) (refreshes.not_due due)))

  -- and then there is room for a flag
  refreshed_holds : (map.has_base ≡ true → HoldsPart (standing s Index) 8 4) → HoldsPart (standing u Index) 8 4
  refreshed_holds base = go (is_due map) refl
    where
      go : (b : Bool) → is_due map ≡ b → HoldsPart (standing u Index) 8 4
      go true due = written_holds map.records now s u sound (refreshes.due due)
      go false due = subst (λ (v : State). HoldsPart (standing v Index) 8 4) (sym (refreshes.not_due due)) (base (not_due_fresh map due).has_base)

-- what follows leaves the index
at_then : {may : Type 0} (now : ℕ) (s t u : State) → MayBeWritten may now s t → IsSameIndex t u → MayBeWritten may now s u
at_then now s t u (inl same) more = inl (same_then s t u same more)
at_then now s t u (inr at) more = inr (at.0, more.front ∙ at.1)

-- and after one
then_at : {may : Type 0} (now : ℕ) (s t u : State) → IsSameIndex s t → MayBeWritten may now t u → MayBeWritten may now s u
then_at now s t u same (inl more) = inl (same_then s t u same more)
then_at now s t u same (inr at) = inr at

-- where it may be written under a premise it may be under another that this one gives
pub at_where : {may more : Type 0} (now : ℕ) (s t : State) → (may → more) → MayBeWritten may now s t → MayBeWritten more now s t
at_where now s t gives (inl same) = inl same
at_where now s t gives (inr at) = inr (gives at.0, at.1)

-- ---- one command

pub flushes_at : (index : MemoryIndex) (now : ℕ) (s t : State) → IsSound s → Flushes index now s t → MayBeWritten (index.update ≡ []) now s t
flushes_at index now s t sound flushes = go index.update refl
  where
    go : (names : List Name) → index.update ≡ names → MayBeWritten (index.update ≡ []) now s t
    go [] none =
        let (u, (refreshes, is)) = flushes.ended none in
        at_then now s u t (refreshed_at index.map now s u sound refreshes none) (is_same u t (ap (λ (v : State). standing v Index) is ∙ settled_same u Index))
    go (name ∷ names) some =
        inl (is_same s t (ap (λ (v : State). standing v Index) (flushes.going_on (λ none. absurd (let both : name ∷ names ≡ [] = sym some ∙ none in cc))) ∙ settled_same s Index))

pub rebuilds_at : (map : Known) (now : ℕ) (s t : State) → IsSound s → Rebuilds map now s t → HasMoment now t
rebuilds_at map now s t sound (u, (writes, is)) =
    (is_same u t (ap (λ (v : State). standing v Index) is ∙ settled_same u Index)).front ∙ written_moment map.records now s u sound writes

-- each that had its effect, by what it did to the files of the index
pub dated_by : {A : _} (D : Ghosts A) (c : Command) (answer : Result Verdict StoreFault) (old new : Store) (before now : A) → LeavesIndexFiles D c answer old new before now → HadEffect answer → IsTrue D.tells
    → IsSound (D.state before) → IsWrittenBy c ((open_of old).index.update ≡ []) (open_of old).moment (D.state before) (D.state now)
dated_by D Flush answer old new before now files had told sound = flushes_at (open_of old).index (open_of old).moment (D.state before) (D.state now) sound (files.flushes refl had told)
dated_by D Rebuild answer old new before now files had told sound = rebuilds_at (open_of new).index.map (open_of old).moment (D.state before) (D.state now) sound (files.rebuilds refl had told)
dated_by D c answer old new before now files had told sound = is_same (D.state before) (D.state now) ((files.index tt told).stands Index tt)

-- the same under another premise
pub written_where : {may more : Type 0} (c : Command) (now : ℕ) (s t : State) → (may → more) → IsWrittenBy c may now s t → IsWrittenBy c more now s t
written_where Flush now s t gives at = at_where now s t gives at
written_where Rebuild now s t gives at = at
written_where c now s t gives at = at

-- after a moment at which the index was the same
then_written : (may : Type 0) (c : Command) (now : ℕ) (s t u : State) → IsSameIndex s t → IsWrittenBy c may now t u → IsWrittenBy c may now s u
then_written may Flush now s t u same at = then_at now s t u same at
then_written may Rebuild now s t u same at = at
then_written may c now s t u same at = same_then s t u same at

-- what is done for a command writes what it writes
pub written_done : (may right : Type 0) (c : Command) (m : Machine) (d : Command) (now : ℕ) (s t : State) → IsDoneFor right c m d → IsWrittenBy c may now s t → IsWrittenBy d may now s t
written_done may right (Evict kb) m d now s t is at = subst (λ x. IsWrittenBy x may now s t) (sym is.1.0) at
written_done may right (ClearOrigin origin) m d now s t is at = subst (λ x. IsWrittenBy x may now s t) (sym is.1.0) at
written_done may right Verify m d now s t is at = subst (λ x. IsWrittenBy x may now s t) (sym is.1.0) at
written_done may right ListRecords m d now s t is at = subst (λ x. IsWrittenBy x may now s t) (sym is.1.0) at
written_done may right (HasEntry key) m d now s t is at = subst (λ x. IsWrittenBy x may now s t) (sym is.1.0) at
written_done may right Resume m d now s t is at = go (mark_of m.mark) is
  where
    go : (mark : Option ℕ) → IsResumedBy (AreOfShelf right m) mark m d → IsWrittenBy d may now s t
    go None is = subst (λ x. IsWrittenBy x may now s t) (sym is) at
    go (Some origin) is = subst (λ x. IsWrittenBy x may now s t) (sym is.1.0) at
written_done may right c m d now s t is at = subst (λ x. IsWrittenBy x may now s t) (sym is) at

-- ---- more of them

pub none_dated : (m : Machine) (s : State) → AreDatedBy m [] s s
none_dated m s = is_same s s refl

pub one_dated : (m : Machine) (c : Command) (s t : State) → IsWrittenBy c (m.rest ≡ []) m.moment s t → AreDatedBy m (c ∷ []) s t
one_dated m c s t at = (t, (at, is_same t t refl))

-- after a moment at which the index was the same
then_dated : (m : Machine) (cs : List Command) (s t u : State) → IsSameIndex s t → AreDatedBy m cs t u → AreDatedBy m cs s u
then_dated m [] s t u same more = same_then s t u same more
then_dated m (c ∷ cs) s t u same (mid, (at, rest)) = (mid, (then_written (m.rest ≡ []) c m.moment s t mid same at, rest))

pub dated_on : (m n : Machine) (cs ds : List Command) (s t u : State) → n ≡ after m cs → AreDatedBy m cs s t → AreDatedBy n ds t u → AreDatedBy m (cs ++ ds) s u
dated_on m n [] ds s t u is first more = then_dated m ds s t u first (subst (λ x. AreDatedBy x ds t u) is more)
dated_on m n (c ∷ cs) ds s t u is (mid, (at, rest)) more = (mid, (at, dated_on (step m c).next n cs ds mid t u is rest more))

-- after an opening, and up to a closing
pub dated_whole : (m n : Machine) (cs : List Command) (s first last t : State) → n ≡ after m cs → IsSameIndex s first → AreDatedBy m cs first last → MayBeWritten (n.rest ≡ []) n.moment last t → IsDatedIn m cs s t
dated_whole m n cs s first last t is opened dated end = (last, (then_dated m cs s first last opened dated, subst (λ (x : Machine). MayBeWritten (x.rest ≡ []) x.moment last t) is end))

-- ---- a closing

each_sound : (numbers : List ℕ) (s : State) → IsSound s → IsSound (removed_each numbers s)
each_sound [] s sound = sound
each_sound (n ∷ numbers) s sound = each_sound numbers (removed (Doomed n) s) (sound_removed (Doomed n) s sound)

module _ (index : MemoryIndex) (now : ℕ) (s t : State) (sound : IsSound s) (keeps : KeepsIndex s index.map) (closes : ClosesWhole index now s t) where
  abbrev d : State
  d = closes.removed

  sound_d : IsSound d
  sound_d = subst IsSound (sym closes.removes.1) (each_sound closes.removes.0 s sound)

  pub closes_at : MayBeWritten (index.update ≡ []) now s t
  closes_at = go index.update refl
    where
      removed_first : IsSameIndex s d
      removed_first = is_same s d (removed_index s d closes.removes)

      base : index.map.has_base ≡ true → HoldsPart (standing d Index) 8 4
      base has = subst (λ f. HoldsPart f 8 4) (sym (removed_index s d closes.removes)) (base_holds (standing s Index) true index.map.base (keeps.base has))

      go : (names : List Name) → index.update ≡ names → MayBeWritten (index.update ≡ []) now s t
      go [] none =
          let whole = closes.whole none in
          let u : State = whole.0 in
          let bytes : List ℕ = whole.1.1.0 in
          let refreshes : Refreshes index.map now d u = whole.1.0 in
          let holds = refreshed_holds index.map now d u sound_d refreshes base in
          subst (MayBeWritten (index.update ≡ []) now s) (sym whole.1.1.1.1)
          (then_at now s d (closed bytes u) removed_first
          (at_then now d u (closed bytes u) (refreshed_at index.map now d u sound_d refreshes none) (closed_same u bytes (refreshed_sound index.map now d u sound_d refreshes) holds)))
      go (name ∷ names) some =
          let is = closes.synced (λ none. absurd (let both : name ∷ names ≡ [] = sym some ∙ none in cc)) in
          subst (MayBeWritten (index.update ≡ []) now s) (sym is) (then_at now s d (settled d) removed_first (inl (is_same d (settled d) (settled_same d Index))))
