-- What is done for commands, one after the other.
use Rattle.std.proofs.Common.{◌≡◌, ◌⊎◌, inl, inr, ℕ, IsTrue, List, [], ◌∷◌, ◌++◌, Option, None, Some, length, suc, refl, sym, ap, subst, ◌∙◌, false, true≢false}
use Rattle.std.specs.List.{AllByRecursion}
use Rattle.std.specs.Prelude.{◌||◌}
use Rattle.std.proofs.lemmas.Bool.{or_left, or_right}
use Rattle.cache_store.specs.Clearing.{LeavesResumed}
use Rattle.cache_store.specs.DoneFor.{AreOfShelf, IsDoneBy, IsDoneFor, IsOfShelf, IsResumedBy}
use Rattle.memory_index.specs.Forgetting.{AreOthers}
use Rattle.cache_store.specs.Open.{BeginsOn, Represents, Tells}
use Rattle.cache_store.specs.Performing.{GoesBy, SaysThere, goes_by_records}
use Rattle.memory_index.specs.Records.{AreAtEnd}
use Rattle.cache_store.specs.Session.{Session}
use Rattle.memory_index.specs.declared.memory_index.MemoryIndex.{MemoryIndex}
use Rattle.memory_index.proofs.RecordsAtEnd.{at_end_is_one}
use Rattle.cache_theory.specs.Command.{Command}
use Rattle.cache_theory.specs.Command.Command.{ClearNames, ClearOrigin, Evict, EvictNames, HasEntry, HasGiven, ListGiven, ListRecords, Resume, ResumeNames, Verify, VerifyRecords}
use Rattle.cache_theory.specs.Checks.{checks}
use Rattle.cache_theory.specs.Covers.{cleared_by, covered_by}
use Rattle.cache_theory.specs.Laws.{HasIsOfShelf}
use Rattle.cache_theory.specs.Machine.{Machine, open_names}
use Rattle.cache_theory.specs.Step.{after, effect, fits_there, step}
use Rattle.cache_theory.specs.Table.{get}
use Rattle.cache_theory.specs.Text.{AreSpoken, FieldsFit, IsCommand, IsSpoken}
use Rattle.cache_tool.specs.Beginning.{AreAtOpening, AreIndexed, AreOnResumed, names_cleared}
use Rattle.cache_tool.specs.DoneFor.{AreDoneFor}
use Rattle.cache_tool.specs.Right.{has_rebuild, is_rebuild}
use Rattle.context_clear.specs.Mark.{mark_of}
use Rattle.disk_theory.specs.State.{State, standing}
use Rattle.entry_name.specs.EntryName.{file_name}
use Rattle.evictor.specs.Evict.{victims}
use Rattle.index_record.specs.declared.record.IndexRecord.{IndexRecord}
use Rattle.index_theory.specs.Ever.{Entries, entries_on}
use Rattle.index_theory.specs.Honest.{Honest}
use Rattle.index_theory.specs.Scan.{scan}
use Rattle.index_theory.specs.Start.{start_of}
use Rattle.index_theory.specs.declared.kinds.Start.TheVariants.{Ready}

-- ---- for one command

-- a clearing that is resumed may go by more records
pub resumed_where : (Holds Others : List IndexRecord → Type 0) → ((records : List IndexRecord) → Holds records → Others records) → (mark : Option ℕ) (m : Machine) (d : Command) → IsResumedBy Holds mark m d → IsResumedBy Others mark m d
resumed_where Holds Others so None m d is = is
resumed_where Holds Others so (Some origin) m d is = (is.0, (is.1.0, so is.0 is.1.1))

-- what a store does goes by records that are right where those in memory were
pub done_right : (before : Session) (c : Command) (m : Machine) (d : Command) → IsDoneBy (GoesBy before m) (SaysThere before m) c m d → IsDoneFor (Tells before m) c m d
done_right before (Evict kb) m d is = (is.0, (is.1.0, is.1.1.right))
done_right before (ClearOrigin origin) m d is = (is.0, (is.1.0, is.1.1.right))
done_right before Verify m d is = (is.0, (is.1.0, is.1.1.right))
done_right before ListRecords m d is = (is.0, (is.1.0, is.1.1.right))
done_right before (HasEntry key) m d is = (is.0, (is.1.0, is.1.1.right))
done_right before Resume m d is = resumed_where (GoesBy before m) (AreOfShelf (Tells before m) m) (λ records goes. goes.right) (mark_of m.mark) m d is
done_right before c m d is = is

-- the records need not be right where another thing has to be
pub done_where : {right other : Type 0} → (other → right) → (c : Command) (m : Machine) (d : Command) → IsDoneFor right c m d → IsDoneFor other c m d
done_where so (Evict kb) m d is = (is.0, (is.1.0, λ here. is.1.1 (so here)))
done_where so (ClearOrigin origin) m d is = (is.0, (is.1.0, λ here. is.1.1 (so here)))
done_where so Verify m d is = (is.0, (is.1.0, λ here. is.1.1 (so here)))
done_where so ListRecords m d is = (is.0, (is.1.0, λ here. is.1.1 (so here)))
done_where so (HasEntry key) m d is = (is.0, (is.1.0, λ here. is.1.1 (so here)))
done_where {right} {other} so Resume m d is = resumed_where (AreOfShelf right m) (AreOfShelf other m) (λ records has here. has (so here)) (mark_of m.mark) m d is
done_where so c m d is = is

-- a command whose reply does not go by the records is done itself
pub done_itself : (right : Type 0) (c : Command) (m : Machine) (d : Command) → goes_by_records c ≡ false → IsDoneFor right c m d → d ≡ c
done_itself right (Evict kb) m d bare is = absurd (true≢false bare)
done_itself right (ClearOrigin origin) m d bare is = absurd (true≢false bare)
done_itself right Verify m d bare is = absurd (true≢false bare)
done_itself right ListRecords m d bare is = absurd (true≢false bare)
done_itself right (HasEntry key) m d bare is = absurd (true≢false bare)
done_itself right Resume m d bare is = absurd (true≢false bare)
done_itself right c m d bare is = is

resumed_rebuilds : (Holds : List IndexRecord → Type 0) (mark : Option ℕ) (m : Machine) (d : Command) → IsResumedBy Holds mark m d → is_rebuild d ≡ false
resumed_rebuilds Holds None m d is = ap is_rebuild is
resumed_rebuilds Holds (Some origin) m d is = ap is_rebuild is.1.0

-- what is done reads all entries anew where the command does
done_rebuilds : (right : Type 0) (c : Command) (m : Machine) (d : Command) → IsDoneFor right c m d → is_rebuild c ≡ is_rebuild d
done_rebuilds right (Evict kb) m d is = ap is_rebuild (sym is.1.0)
done_rebuilds right (ClearOrigin origin) m d is = ap is_rebuild (sym is.1.0)
done_rebuilds right Verify m d is = ap is_rebuild (sym is.1.0)
done_rebuilds right ListRecords m d is = ap is_rebuild (sym is.1.0)
done_rebuilds right (HasEntry key) m d is = ap is_rebuild (sym is.1.0)
done_rebuilds right Resume m d is = sym (resumed_rebuilds (AreOfShelf right m) (mark_of m.mark) m d is)
done_rebuilds right c m d is = ap is_rebuild (sym is)

-- whether there is an entry is as one fits on the shelf
has_is_of_shelf : HasIsOfShelf
unfolding checks effect
has_is_of_shelf m key = refl

-- where its reply is printed, so is the reply to what is done
pub done_spoken : (right : Type 0) (c : Command) (m : Machine) (d : Command) → IsDoneFor right c m d → IsSpoken c → IsSpoken d
done_spoken right (Evict kb) m d is spoken = subst IsSpoken (sym is.1.0) tt
done_spoken right (ClearOrigin origin) m d is spoken = subst IsSpoken (sym is.1.0) tt
done_spoken right Verify m d is spoken = subst IsSpoken (sym is.1.0) tt
done_spoken right ListRecords m d is spoken = subst IsSpoken (sym is.1.0) tt
done_spoken right (HasEntry key) m d is spoken = subst IsSpoken (sym is.1.0) tt
done_spoken right Resume m d is spoken = absurd spoken
done_spoken right c m d is spoken = subst IsSpoken (sym is) spoken

-- something can be done, whatever is right
some_resumed : (right : Type 0) (mark : Option ℕ) (m : Machine) → (d : Command) × IsResumedBy (AreOfShelf right m) mark m d
some_resumed right None m = (Resume, refl)
some_resumed right (Some origin) m = (ResumeNames (covered_by (scan m.shelf) m origin), (scan m.shelf, (refl, λ here. refl)))

pub some_done : (right : Type 0) (c : Command) (m : Machine) → (d : Command) × IsDoneFor right c m d
some_done right (Evict kb) m = (EvictNames (victims (scan m.shelf) (open_names m) kb), (scan m.shelf, (refl, λ here. refl)))
some_done right (ClearOrigin origin) m = (ClearNames (cleared_by (scan m.shelf) m origin), (scan m.shelf, (refl, λ here. refl)))
some_done right Verify m = (VerifyRecords (scan m.shelf), (scan m.shelf, (refl, λ here. refl)))
some_done right ListRecords m = (ListGiven (scan m.shelf), (scan m.shelf, (refl, λ here. refl)))
some_done right (HasEntry key) m =
    let there = fits_there (file_name key) (get m.shelf (file_name key)) in
    (HasGiven key there, (there, (refl, λ here. sym (has_is_of_shelf m key))))
some_done right Resume m = some_resumed right (mark_of m.mark) m
some_done right c m = (c, refl)

-- ---- for the first command, and for the one after it

-- where the index is trusted a store begins with the records of it with its journal applied
begun_records : (s : State) (first : Session) (es : Entries) → BeginsOn (standing s) first.open_store.index.map → first.open_store.index.update ≡ [] → start_of (standing s) ≡ Ready
    → (records : List IndexRecord) → AreAtEnd es first.open_store.index records → AreIndexed s records
begun_records s first es begins over ready records at_end =
    let (now, (applied, map)) = begins.ready ready in
    record { rising = at_end.rising; same = λ name. at_end.same.ended over name ∙ map.records name ∙ applied.same name }

module _ (s : State) (first : Session) (m : Machine) (tells : Honest (standing s) → Tells first m) (begins : BeginsOn (standing s) first.open_store.index.map)
    (over : start_of (standing s) ≡ Ready → first.open_store.index.update ≡ []) where
  at_opening : (records : List IndexRecord) → GoesBy first m records → AreAtOpening s m records
  at_opening records goes = record {
    honest = λ honest. goes.right (tells honest);
    trusted = λ ready. begun_records s first (entries_on first.disk) begins (over ready) ready records goes.in_memory;
  }

  pub resumed_at_opening : (d : Command) → IsResumedBy (GoesBy first m) (mark_of m.mark) m d → IsResumedBy (AreAtOpening s m) (mark_of m.mark) m d
  resumed_at_opening d is = resumed_where (GoesBy first m) (AreAtOpening s m) at_opening (mark_of m.mark) m d is

  -- after it the records are those, but for the names that were cleared
  module _ (mid : Session) (d : Command) (stands : Represents first m) (ended : start_of (standing s) ≡ Ready → mid.open_store.index.update ≡ []) where
    left_by : (mark : Option ℕ) → IsResumedBy (GoesBy first m) mark m d → LeavesResumed mark first mid.open_store.index → start_of (standing s) ≡ Ready
        → (records : List IndexRecord) → AreAtEnd (entries_on mid.disk) mid.open_store.index records
        → (indexed : List IndexRecord) × (AreIndexed s indexed × AreOthers indexed (names_cleared d) records)
    left_by None is same ready records at_end = (
      records,
      (
        begun_records s first (entries_on mid.disk) begins (over ready) ready records (subst (λ (x : MemoryIndex). AreAtEnd (entries_on mid.disk) x records) same at_end),
        subst (λ e. AreOthers records (names_cleared e) records) (sym is) (λ q. refl),
      ),
    )
    left_by (Some origin) is left ready records at_end =
        let by = left m stands in
        let one : by.0 ≡ is.0 = at_end_is_one (entries_on first.disk) first.open_store.index by.0 is.0 by.1.0 is.1.1.in_memory in (
          is.0,
          (
            begun_records s first (entries_on first.disk) begins (over ready) ready is.0 is.1.1.in_memory,
            subst (λ e. AreOthers is.0 (names_cleared e) records) (sym is.1.0)
                (λ q. at_end.same.ended (ended ready) q ∙ subst (λ rs. AreOthers rs (covered_by rs m origin) mid.open_store.index.map.records) one by.1.1 q),
          ),
        )

    module _ (is : IsResumedBy (GoesBy first m) (mark_of m.mark) m d) (left : LeavesResumed (mark_of m.mark) first mid.open_store.index) (right : Honest (standing s) → Tells mid (step m d).next) where
      on_resumed : (records : List IndexRecord) → GoesBy mid (step m d).next records → AreOnResumed s m d records
      on_resumed records goes = record {
        honest = λ honest. goes.right (right honest);
        trusted = λ ready. left_by (mark_of m.mark) is left ready records goes.in_memory;
      }

      pub done_on_resumed : (c e : Command) → IsDoneBy (GoesBy mid (step m d).next) (SaysThere mid (step m d).next) c (step m d).next e
          → IsDoneBy (AreOnResumed s m d) (IsOfShelf (Honest (standing s)) (step m d).next) c (step m d).next e
      done_on_resumed (Evict kb) e is = (is.0, (is.1.0, on_resumed is.0 is.1.1))
      done_on_resumed (ClearOrigin origin) e is = (is.0, (is.1.0, on_resumed is.0 is.1.1))
      done_on_resumed Verify e is = (is.0, (is.1.0, on_resumed is.0 is.1.1))
      done_on_resumed ListRecords e is = (is.0, (is.1.0, on_resumed is.0 is.1.1))
      done_on_resumed (HasEntry key) e is = (is.0, (is.1.0, λ honest. is.1.1.right (right honest)))
      done_on_resumed Resume e is = resumed_where (GoesBy mid (step m d).next) (AreOnResumed s m d) on_resumed (mark_of (step m d).next.mark) (step m d).next e is
      done_on_resumed c e is = is

-- ---- for commands

pub are_done_where : {right other : Type 0} → (other → right) → (m : Machine) (cs ds : List Command) → AreDoneFor right m cs ds → AreDoneFor other m cs ds
are_done_where so m [] [] are = tt
are_done_where so m [] (d ∷ ds) are = absurd are
are_done_where so m (c ∷ cs) [] are = absurd are
are_done_where so m (c ∷ cs) (d ∷ ds) are = (done_where so c m d are.0, are_done_where (either_where so) (step m d).next cs ds are.1)
  where
    either_where : {right other more : Type 0} → (other → right) → other ⊎ more → right ⊎ more
    either_where so (inl here) = inl (so here)
    either_where so (inr later) = inr later

pub done_as_long : (right : Type 0) (m : Machine) (cs ds : List Command) → AreDoneFor right m cs ds → length cs ≡ length ds
done_as_long right m [] [] are = refl
done_as_long right m [] (d ∷ ds) are = absurd are
done_as_long right m (c ∷ cs) [] are = absurd are
done_as_long right m (c ∷ cs) (d ∷ ds) are = ap suc (done_as_long (right ⊎ IsTrue (is_rebuild c)) (step m d).next cs ds are.1)

pub done_rebuild : (right : Type 0) (m : Machine) (cs ds : List Command) → AreDoneFor right m cs ds → has_rebuild cs ≡ has_rebuild ds
done_rebuild right m [] [] are = refl
done_rebuild right m [] (d ∷ ds) are = absurd are
done_rebuild right m (c ∷ cs) [] are = absurd are
done_rebuild right m (c ∷ cs) (d ∷ ds) are =
    ap (λ b. b || has_rebuild cs) (done_rebuilds right c m d are.0) ∙ ap (λ b. is_rebuild d || b) (done_rebuild (right ⊎ IsTrue (is_rebuild c)) (step m d).next cs ds are.1)

-- those of some commands, and then those of more
pub done_joined : (right : Type 0) (m : Machine) (cs ds more others : List Command) → AreDoneFor right m cs ds → AreDoneFor (right ⊎ IsTrue (has_rebuild cs)) (after m ds) more others
    → AreDoneFor right m (cs ++ more) (ds ++ others)
done_joined right m [] [] more others are rest = are_done_where (λ here. inl here) m more others rest
done_joined right m [] (d ∷ ds) more others are rest = absurd are
done_joined right m (c ∷ cs) [] more others are rest = absurd are
done_joined right m (c ∷ cs) (d ∷ ds) more others are rest =
    (are.0, done_joined (right ⊎ IsTrue (is_rebuild c)) (step m d).next cs ds more others are.1 (are_done_where (later c cs) (after (step m d).next ds) more others rest))
  where
    later : {right : Type 0} (c : Command) (cs : List Command) → (right ⊎ IsTrue (is_rebuild c)) ⊎ IsTrue (has_rebuild cs) → right ⊎ IsTrue (has_rebuild (c ∷ cs))
    later c cs (inl (inl here)) = inl here
    later c cs (inl (inr first)) = inr (or_left (is_rebuild c) (has_rebuild cs) first)
    later c cs (inr rest) = inr (or_right (is_rebuild c) (has_rebuild cs) rest)

-- something can be done for all of them
pub all_done : (right : Type 0) (m : Machine) (cs : List Command) → (ds : List Command) × AreDoneFor right m cs ds
all_done right m [] = ([], tt)
all_done right m (c ∷ cs) =
    let first = some_done right c m in
    let rest = all_done (right ⊎ IsTrue (is_rebuild c)) (step m first.0).next cs in
    (first.0 ∷ rest.0, (first.1, rest.1))

-- ---- the replies to commands are printed

pub spoken_joined : (cs ds : List Command) → AreSpoken cs → AreSpoken ds → AreSpoken (cs ++ ds)
spoken_joined [] ds first rest = rest
spoken_joined (c ∷ cs) ds first rest = (first.0, spoken_joined cs ds first.1 rest)

pub spoken_parts : (cs ds : List Command) → AreSpoken (cs ++ ds) → AreSpoken cs × AreSpoken ds
spoken_parts [] ds all = (tt, all)
spoken_parts (c ∷ cs) ds all = let rest = spoken_parts cs ds all.1 in ((all.0, rest.0), rest.1)

-- so are those to what is done for them
pub done_are_spoken : (right : Type 0) (m : Machine) (cs ds : List Command) → AreDoneFor right m cs ds → AreSpoken cs → AreSpoken ds
done_are_spoken right m [] [] are spoken = tt
done_are_spoken right m [] (d ∷ ds) are spoken = absurd are
done_are_spoken right m (c ∷ cs) [] are spoken = absurd are
done_are_spoken right m (c ∷ cs) (d ∷ ds) are spoken =
    (done_spoken right c m d are.0 spoken.0, done_are_spoken (right ⊎ IsTrue (is_rebuild c)) (step m d).next cs ds are.1 spoken.1)

-- and so are those to the commands of a script
script_speaks : (c : Command) → FieldsFit c → IsSpoken c
script_speaks Resume fit = fit
script_speaks (ResumeNames names) fit = fit
script_speaks c fit = tt

pub script_is_spoken : (cs : List Command) → AllByRecursion IsCommand cs → AreSpoken cs
script_is_spoken [] are = tt
script_is_spoken (c ∷ cs) are = (script_speaks c are.0.fields, script_is_spoken cs are.1)
