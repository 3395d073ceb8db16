-- How a load ends: the store is closed, and the line is printed.
use Rattle.std.proofs.Common.{◌≡◌, ◌≢◌, ◌⊎◌, ◌∙◌, inl, inr, false, ℕ, suc, List, [], ◌∷◌, length, Ok, Err, Option, None, Some, IfSome, Result, refl, sym, ap, subst}
use Rattle.std.specs.Prelude.{IfOk, OnOk, is_some}
use Rattle.std.specs.Io.KnownBytes.{Appends}
use Rattle.std.proofs.KnownBytes.{Keeps-refl}
use Rattle.std.proofs.lemmas.Bool.{cond_both}
use Rattle.cache_base.specs.Causes.{CountsFailure}
use Rattle.cache_base.specs.declared.name.Name.{Name}
use Rattle.cache_base.specs.declared.status.Status.{Status}
use Rattle.cache_base.specs.declared.status.Status.TheVariants as status
use Rattle.cache_store.specs.DoneFor.{IsResumedBy}
use Rattle.cache_store.specs.Open.{KeepsTo, StartsOn}
use Rattle.cache_store.specs.Performing.{GoesBy}
use Rattle.cache_replies.specs.Said.{IsCut}
use Rattle.cache_replies.specs.Saying.{IsPart}
use Rattle.cache_store.specs.Session.{Session}
use Rattle.cache_store.specs.declared.fault.StoreFault.{StoreFault}
use Rattle.cache_store.specs.declared.fault.StoreFault.TheVariants as fault
use Rattle.cache_theory.specs.Command.{Command}
use Rattle.cache_theory.specs.Command.Command.{Resume, ResumeNames}
use Rattle.cache_theory.specs.Covers.{resumed}
use Rattle.cache_theory.specs.Crash.{IsSafe}
use Rattle.cache_theory.specs.History.{History, acked, settled_at}
use Rattle.cache_theory.specs.Machine.{Machine, Slot, is_slot}
use Rattle.cache_theory.specs.Proper.{IsProper}
use Rattle.cache_theory.specs.Checks.{checks}
use Rattle.cache_theory.specs.Step.{all_doomed, cleared_of, doomed_under, effect, resumed_by_mark, step, unmarked, update_ended}
use Rattle.cache_theory.proofs.Loading.StockedShelf.{stock_is_found}
use Rattle.cache_theory.proofs.Loading.WrittenItems.{items_are_stocked}
use Rattle.cache_tool.specs.Beginning.{BeginsRun, DoneAtOpening}
use Rattle.cache_tool.specs.Ending.{EndsSession}
use Rattle.cache_tool.specs.Load.{BeginsLoaded, HasDump, HasNoDump, IsDumpOf, IsLoadLine, Loaded, LoadsDump, PrintsLoadLine, PrintsLoaded, bad_dump_line, loaded_commands, loaded_line}
use Rattle.cache_tool.specs.Load.IsLoadLine.{TellsBad, TellsDump}
use Rattle.cache_store.specs.Syncs.{all_syncs}
use Rattle.cache_tool.specs.Syncs.{SyncsWithin, ending_syncs, opening_syncs}
use Rattle.cache_tool.proofs.Counting.{calm_cause}
use Rattle.cache_tool.proofs.SyncLaws.{syncs_run}
use Rattle.cache_tool.specs.LoadProgress.{EndsLoaded, HoldsLine, IsLine, PerformsLoad, ReadsLoaded, TellsNumber, status_at_end}
use Rattle.cache_tool.specs.PutProgress.{all_unanswered}
use Rattle.cache_tool.specs.Right.{LeadTo}
use Rattle.cache_tool.specs.Statuses.{IsAnswer, IsClosing, IsSaid, status_in}
use Rattle.cache_tool.specs.Verbs.{HasNotBegun, LeavesDisk, all_begun_none_acked}
use Rattle.cache_tool.specs.World.{World, output_of}
use Rattle.cache_tool.specs.declared.load.LoadEnd.{LoadEnd}
use Rattle.cache_tool.specs.declared.load.LoadEnd.TheVariants as ended
use Rattle.cache_tool.proofs.Fills.FillRuns.{run_ok}
use Rattle.cache_tool.proofs.Loads.LoadTurns.{fault_ends}
use Rattle.cache_tool.proofs.SessionEnds.{begun_leave, leaves_at}
use Rattle.cache_tool.proofs.StatusLaws.{EndsAs, closing_same}
use Rattle.context_clear.specs.Mark.{mark_of}
use Rattle.disk_theory.specs.Calls.{Counts, LastCallFails}
use Rattle.disk_theory.specs.State.{State}
use Rattle.index_record.specs.declared.record.IndexRecord.{IndexRecord}
use Rattle.index_theory.specs.Honest.{LeavesHonest}

-- ---- the machine after `Resume`

slots_stay : (m : Machine) (names : List Name) → (all_doomed m names).slots ≡ m.slots
slots_stay m [] = refl
slots_stay m (n ∷ names) = slots_stay (doomed_under m n.0) names

resume_slots : (m : Machine) → (resumed_by_mark m).slots ≡ m.slots
resume_slots m = cond_both (is_some (mark_of m.mark)) (cleared_of m (resumed m)) (unmarked m) (λ (t : Machine). t.slots ≡ m.slots) (λ goes. slots_stay (update_ended (unmarked m)) (resumed m)) (λ stays. refl)

resumed_slots : (m : Machine) → (step m Resume).next.slots ≡ m.slots
unfolding checks effect
resumed_slots m = resume_slots m

named_slots : (m : Machine) (names : List Name) → (step m (ResumeNames names)).next.slots ≡ m.slots
unfolding checks effect
named_slots m names = slots_stay (update_ended (unmarked m)) names

done_slots : (Holds : List IndexRecord → Type 0) (mark : Option ℕ) (m : Machine) (d : Command) → IsResumedBy Holds mark m d → (step m d).next.slots ≡ m.slots
done_slots Holds None m d is = ap (λ c. (step m c).next.slots) is ∙ resumed_slots m
done_slots Holds (Some origin) m d (records, (is, holds)) = ap (λ c. (step m c).next.slots) is ∙ named_slots m _

no_slot : (moment : ℕ) (s : State) (m : Machine) (Holds : List IndexRecord → Type 0) (mark : Option ℕ) (d : Command) → StartsOn moment s m → IsResumedBy Holds mark m d → is_slot (step m d).next 0 ≡ false
no_slot moment s m Holds mark d is done =
    ap (λ (slots : ℕ → Option Slot). is_some (slots 0)) (done_slots Holds mark m d done ∙ ap (λ (t : Machine). t.slots) is.is_opened)

-- ---- what the parts came to

-- the line is held, and the status is that of the end
pub performs_load : (tells : Type 0) (e : LoadEnd) (from left : Option (List ℕ)) (before now : Session) (began counts : Counts) (s : Status) (text : List ℕ) → s ≡ status_at_end (Ok e)
    → ((n : ℕ) → e ≡ ended.Whole n → text ≡ loaded_line n) → ((n : ℕ) → e ≡ ended.Bad n → text ≡ bad_dump_line n)
    → EndsLoaded tells (Ok e) from left before now began counts → PerformsLoad tells (Ok s) from left before now began counts text
performs_load tells e from left before now began counts s text is whole bad ends = record {
  loaded = ends.loaded;
  reads = subst (λ x. IfSome from (ReadsLoaded x from left ends.loaded)) (sym is) ends.reads;
  over = λ done. ends.over (sym is ∙ done);
  line = line_of e is whole bad ends.number;
  runs = λ told. run_ok (loaded_commands ends.loaded) e s before now (ends.runs told);
  syncs = ends.syncs;
}
  where
    line_of : (e : LoadEnd) → s ≡ status_at_end (Ok e) → ((n : ℕ) → e ≡ ended.Whole n → text ≡ loaded_line n) → ((n : ℕ) → e ≡ ended.Bad n → text ≡ bad_dump_line n)
        → TellsNumber (Ok e) (length ends.loaded.items) → HoldsLine s (length ends.loaded.items) text
    line_of (ended.Whole n) is whole bad number = record {
      done = λ done. whole n refl ∙ ap loaded_line number;
      bad = λ script. absurd (let d : status.Done ≡ status.Script = sym is ∙ script in cc);
    }
    line_of (ended.Bad n) is whole bad number = record {
      done = λ done. absurd (let d : status.Script ≡ status.Done = sym is ∙ done in cc);
      bad = λ script. bad n refl ∙ ap bad_dump_line number;
    }
    line_of ended.Failed is whole bad number = record {
      done = λ done. absurd (let d : status.Source ≡ status.Done = sym is ∙ done in cc);
      bad = λ script. absurd (let d : status.Source ≡ status.Script = sym is ∙ script in cc);
    }

-- another end, which tells no more of what was read
reads_at : (ended came : Status) (from left : Option (List ℕ)) (l : Loaded) → (ended ≡ status.Done → came ≡ status.Done) → (ended ≡ status.Script → came ≡ status.Script)
    → (ended ≡ status.Source → came ≡ status.Source) → IfSome from (ReadsLoaded came from left l) → IfSome from (ReadsLoaded ended from left l)
reads_at ended came None left l done script source reads = tt
reads_at ended came (Some bytes) left l done script source reads = record {
  read = reads.read;
  whole = λ e. reads.whole (done e);
  bad = λ e. reads.bad (script e);
  broken = λ e. reads.broken (source e);
}

-- a fault, in what was done or in the line
pub load_fails : (tells : Type 0) (answer : Result LoadEnd StoreFault) (came : Result Status StoreFault) (f : StoreFault) (from left : Option (List ℕ)) (before now : Session) (began counts : Counts) (text : List ℕ) → came ≡ Err f
    → EndsLoaded tells answer from left before now began counts → PerformsLoad tells came from left before now began counts text
load_fails tells answer came f from left before now began counts text is ends =
    let none = fault_ends f in
    let failed : PerformsLoad tells (Err f) from left before now began counts text = record {
      loaded = ends.loaded;
      reads = reads_at (status_in (Err f)) (status_at_end answer) from left ends.loaded (λ e. absurd (none.0 e)) (λ e. absurd (none.1.0 e)) (λ e. absurd (none.1.1 e)) ends.reads;
      over = λ e. absurd (none.0 e);
      line = record { done = λ e. absurd (none.0 e); bad = λ e. absurd (none.1.0 e) };
      runs = λ told. record { each = λ h keeps. record { safe = ((ends.runs told).each h keeps).safe; stands = tt }; mark = (ends.runs told).mark };
      syncs = ends.syncs;
    } in
    subst (λ (r : Result Status StoreFault). PerformsLoad tells r from left before now began counts text) (sym is) failed

-- ---- the end of the session

-- what was printed, where a line was to be
pub record SaysLine (ended final : Status) (before now : Option (List ℕ)) (text : List ℕ) : Type 0 where
  pub same : (final ≡ ended) ⊎ ((final ≡ status.Sink) ⊎ (final ≡ status.Memory))
  pub all : IsAnswer final → Appends before now text
  pub bad : final ≡ status.Script → Appends before now text
  pub part : IsPart before now text
  pub cut : final ≡ status.Sink → IsCut before now text

-- where the store is closed the commands came to an answer
came_ok : (P : Type 0) (came : Result Status StoreFault) → came ≢ Err fault.Sink → OnOk came P → IsClosing (status_in came) → P
came_ok P (Ok s) other is closing = is
came_ok P (Err fault.Memory) other is closing = absurd closing
came_ok P (Err fault.Disk) other is closing = absurd closing
came_ok P (Err fault.Sink) other is closing = absurd (other refl)

-- what is printed ends as a line only where one was to be
pub same_end : (ended final x : Status) → x ≢ status.Sink → x ≢ status.Memory → (final ≡ ended) ⊎ ((final ≡ status.Sink) ⊎ (final ≡ status.Memory)) → final ≡ x → ended ≡ x
same_end ended final x sink memory (inl same) is = sym same ∙ is
same_end ended final x sink memory (inr (inl other)) is = absurd (sink (sym is ∙ other))
same_end ended final x sink memory (inr (inr other)) is = absurd (memory (sym is ∙ other))

pub came_end : (ended came x : Status) → x ≢ status.Disk → x ≢ status.Memory → EndsAs ended came → ended ≡ x → came ≡ x
came_end ended came x disk memory (inl same) is = sym same ∙ is
came_end ended came x disk memory (inr (inl other)) is = absurd (disk (sym is ∙ other))
came_end ended came x disk memory (inr (inr other)) is = absurd (memory (sym is ∙ other))

pub line_closes : (s : Status) → IsLine s → IsClosing s
line_closes s (inl done) = subst IsClosing (sym done) tt
line_closes s (inr script) = subst IsClosing (sym script) tt

never_silent : (ended final : Status) → IsLine ended → (final ≡ ended) ⊎ ((final ≡ status.Sink) ⊎ (final ≡ status.Memory)) → (final ≡ status.Source) ⊎ (final ≡ status.Disk) → ⊥
never_silent ended final (inl done) (inl same) (inl source) = let e : status.Done ≡ status.Source = sym done ∙ sym same ∙ source in cc
never_silent ended final (inl done) (inl same) (inr disk) = let e : status.Done ≡ status.Disk = sym done ∙ sym same ∙ disk in cc
never_silent ended final (inr script) (inl same) (inl source) = let e : status.Script ≡ status.Source = sym script ∙ sym same ∙ source in cc
never_silent ended final (inr script) (inl same) (inr disk) = let e : status.Script ≡ status.Disk = sym script ∙ sym same ∙ disk in cc
never_silent ended final line (inr (inl sink)) (inl source) = let e : status.Sink ≡ status.Source = sym sink ∙ source in cc
never_silent ended final line (inr (inl sink)) (inr disk) = let e : status.Sink ≡ status.Disk = sym sink ∙ disk in cc
never_silent ended final line (inr (inr memory)) (inl source) = let e : status.Memory ≡ status.Source = sym memory ∙ source in cc
never_silent ended final line (inr (inr memory)) (inr disk) = let e : status.Memory ≡ status.Disk = sym memory ∙ disk in cc

-- what a load ends with
abbrev pub IsLoadEnd : Status → Type 0
IsLoadEnd s = IsLine s ⊎ ((s ≡ status.Source) ⊎ ((s ≡ status.Disk) ⊎ (s ≡ status.Memory)))

pub load_ends : (came : Result Status StoreFault) (ended : Status) → IfOk came (λ s. IsLine s ⊎ (s ≡ status.Source)) → came ≢ Err fault.Sink → EndsAs ended (status_in came) → IsLoadEnd ended
load_ends came ended only other (inr (inl disk)) = inr (inr (inl disk))
load_ends came ended only other (inr (inr memory)) = inr (inr (inr memory))
load_ends (Ok s) ended (inl (inl done)) other (inl same) = inl (inl (same ∙ done))
load_ends (Ok s) ended (inl (inr script)) other (inl same) = inl (inr (same ∙ script))
load_ends (Ok s) ended (inr source) other (inl same) = inr (inl (same ∙ source))
load_ends (Err fault.Memory) ended only other (inl same) = inr (inr (inr same))
load_ends (Err fault.Disk) ended only other (inl same) = inr (inr (inl same))
load_ends (Err fault.Sink) ended only other (inl same) = absurd (other refl)

-- no line, and nothing of which one tells
pub no_line : (s : Status) → s ≢ status.Done → s ≢ status.Script → ¬ (IsLine s)
no_line s done script (inl e) = done e
no_line s done script (inr e) = script e

pub none_told : (s : Status) → s ≢ status.Done → s ≢ status.Script → s ≢ status.No → ¬ (IsSaid s)
none_told s done script refused (inl (inl e)) = done e
none_told s done script refused (inl (inr e)) = refused e
none_told s done script refused (inr e) = script e

-- the store is closed then, unless there is a fault
pub line_or_source_closes : (came : Result Status StoreFault) → IfOk came (λ s. IsLine s ⊎ (s ≡ status.Source)) → IfOk came IsClosing
line_or_source_closes (Ok s) (inl line) = line_closes s line
line_or_source_closes (Ok s) (inr source) = subst IsClosing (sym source) tt
line_or_source_closes (Err f) only = tt

-- and never does
pub never_ends : (ended x : Status) → x ≢ status.Done → x ≢ status.Script → x ≢ status.Source → x ≢ status.Disk → x ≢ status.Memory → IsLoadEnd ended → ended ≢ x
never_ends ended x done script source disk memory (inl (inl e)) is = done (sym is ∙ e)
never_ends ended x done script source disk memory (inl (inr e)) is = script (sym is ∙ e)
never_ends ended x done script source disk memory (inr (inl e)) is = source (sym is ∙ e)
never_ends ended x done script source disk memory (inr (inr (inl e))) is = disk (sym is ∙ e)
never_ends ended x done script source disk memory (inr (inr (inr e))) is = memory (sym is ∙ e)

pub never_words : (ended final : Status) → IsLine ended → (final ≡ ended) ⊎ ((final ≡ status.Sink) ⊎ (final ≡ status.Memory)) → final ≢ status.Words
never_words ended final (inl done) (inl same) is = let e : status.Done ≡ status.Words = sym done ∙ sym same ∙ is in cc
never_words ended final (inr script) (inl same) is = let e : status.Script ≡ status.Words = sym script ∙ sym same ∙ is in cc
never_words ended final line (inr (inl sink)) is = let e : status.Sink ≡ status.Words = sym sink ∙ is in cc
never_words ended final line (inr (inr memory)) is = let e : status.Memory ≡ status.Words = sym memory ∙ is in cc

pub never_no : (ended final : Status) → IsLine ended → (final ≡ ended) ⊎ ((final ≡ status.Sink) ⊎ (final ≡ status.Memory)) → final ≢ status.No
never_no ended final (inl done) (inl same) is = let e : status.Done ≡ status.No = sym done ∙ sym same ∙ is in cc
never_no ended final (inr script) (inl same) is = let e : status.Script ≡ status.No = sym script ∙ sym same ∙ is in cc
never_no ended final line (inr (inl sink)) is = let e : status.Sink ≡ status.No = sym sink ∙ is in cc
never_no ended final line (inr (inr memory)) is = let e : status.Memory ≡ status.No = sym memory ∙ is in cc

-- the line that is held tells what the bytes are
line_is : (bytes : List ℕ) (l : Loaded) (ended : Status) (from left : Option (List ℕ)) (reads : ReadsLoaded ended from left l bytes) (text : List ℕ) → IsLine ended → HoldsLine ended (length l.items) text
    → IsLoadLine bytes l reads.read text
line_is bytes l ended from left reads text (inl done) holds = let whole = reads.whole done in TellsDump (holds.done done) whole.0 whole.1.0
line_is bytes l ended from left reads text (inr script) holds = let bad = reads.bad script in TellsBad (holds.bad script) bad.0 bad.1

-- it is printed, or a part of it
line_printed : (bytes : List ℕ) (l : Loaded) (ended final : Status) (from left : Option (List ℕ)) (reads : ReadsLoaded ended from left l bytes) (before now : Option (List ℕ)) (text : List ℕ) → IsLine ended
    → HoldsLine ended (length l.items) text → SaysLine ended final before now text → PrintsLoadLine bytes l reads.read final before now
line_printed bytes l ended final from left reads before now text line holds says = record {
  part = inr (text, (line_is bytes l ended from left reads text line holds, says.part));
  done = λ e. subst (Appends before now) (holds.done (same_end ended final status.Done (λ x. cc) (λ x. cc) says.same e)) (says.all (inl e));
  bad = λ e. subst (Appends before now) (holds.bad (same_end ended final status.Script (λ x. cc) (λ x. cc) says.same e)) (says.bad e);
  cut = λ e. (text, (line_is bytes l ended from left reads text line holds, says.cut e));
  silent = λ e. absurd (never_silent ended final line says.same e);
}

-- no line
none_printed : (bytes : List ℕ) (l : Loaded) (read : BeginsLoaded bytes l) (ended : Status) (known : Option (List ℕ)) → ¬ (IsLine ended) → ended ≢ status.Sink → PrintsLoadLine bytes l read ended known known
none_printed bytes l read ended known other no_sink = record {
  part = inl (Keeps-refl known);
  done = λ e. absurd (other (inl e));
  bad = λ e. absurd (other (inr e));
  cut = λ e. absurd (no_sink e);
  silent = λ e. Keeps-refl known;
}

-- ---- what is known of the source and of the line on any disk

pub load_dump : (tells : Type 0) (came : Result Status StoreFault) (from left : Option (List ℕ)) {began counts : Counts} (before now : Session) (text : List ℕ) → PerformsLoad tells came from left before now began counts text
    → status_in came ≡ status.Done → HasDump from
load_dump tells came from left before now text load is = go from load.reads
  where
    go : (o : Option (List ℕ)) → IfSome o (ReadsLoaded (status_in came) from left load.loaded) → HasDump o
    go None reads = tt
    go (Some bytes) reads = (load.loaded.items, (reads.whole is).0)

pub load_no_dump : (tells : Type 0) (came : Result Status StoreFault) (from left : Option (List ℕ)) {began counts : Counts} (before now : Session) (text : List ℕ) → PerformsLoad tells came from left before now began counts text
    → status_in came ≡ status.Script → HasNoDump from
load_no_dump tells came from left before now text load is = go from load.reads
  where
    go : (o : Option (List ℕ)) → IfSome o (ReadsLoaded (status_in came) from left load.loaded) → HasNoDump o
    go None reads = tt
    go (Some bytes) reads = (reads.bad is).0

pub says_loaded : (tells : Type 0) (came : Result Status StoreFault) (from left : Option (List ℕ)) {began counts : Counts} (before now : Session) (text : List ℕ) (taken later : Option (List ℕ))
    → PerformsLoad tells came from left before now began counts text → status_in came ≡ status.Done → Appends taken later text → (n : ℕ) × Appends taken later (loaded_line n)
says_loaded tells came from left before now text taken later load is out = (length load.loaded.items, subst (Appends taken later) (load.line.done is) out)

pub says_bad : (tells : Type 0) (came : Result Status StoreFault) (from left : Option (List ℕ)) {began counts : Counts} (before now : Session) (text : List ℕ) (taken later : Option (List ℕ))
    → PerformsLoad tells came from left before now began counts text → status_in came ≡ status.Script → Appends taken later text → (n : ℕ) × Appends taken later (bad_dump_line (suc n))
says_bad tells came from left before now text taken later load is out = (length load.loaded.items, subst (Appends taken later) (load.line.bad is) out)

-- a dump is not bad
pub dump_is_not_bad : (left : Option (List ℕ)) → IsDumpOf left → HasNoDump left → ⊥
dump_is_not_bad None dump bad = dump
dump_is_not_bad (Some bytes) dump bad = bad dump.0 dump.1

if_told : (o : Option (List ℕ)) (P : List ℕ → Type 0) → ((bytes : List ℕ) → o ≡ Some bytes → P bytes) → IfSome o P
if_told None P h = tt
if_told (Some bytes) P h = h bytes refl

pub loads_told : (moment : ℕ) (ended : Status) (before now : World)
    → ((bytes : List ℕ) → before.source.left ≡ Some bytes → (m : Machine) → StartsOn moment before.disk m
    → DoneAtOpening before.disk m (λ d. PrintsLoaded m d bytes ended before now) ⊎ (HasNotBegun m ended (output_of before) (output_of now) × (now.source ≡ before.source)))
    → LoadsDump moment ended before now
loads_told moment ended before now h =
    if_told before.source.left (λ bytes. (m : Machine) → StartsOn moment before.disk m
    → DoneAtOpening before.disk m (λ d. PrintsLoaded m d bytes ended before now) ⊎ (HasNotBegun m ended (output_of before) (output_of now) × (now.source ≡ before.source))) h

-- the records in memory are those of a proper machine
proper_at : (now : Session) (h : History) → KeepsTo now h → IsProper h.machine
proper_at now h keeps = keeps.stands.stands.proper

module _ {moment : ℕ} (tells : Type 0) (told : tells) (bytes : List ℕ) (came : Result Status StoreFault) (ended : Status) (before : World) (left : Option (List ℕ)) (mid last : Session) {k0 k1 : Counts} (t : State) (text : List ℕ)
    (begins : BeginsRun moment before.disk mid) (m : Machine) (is_start : StartsOn moment before.disk m) (from : before.source.left ≡ Some bytes)
    (load : PerformsLoad tells came before.source.left left mid last k0 k1 text) (ends : EndsSession ended last t) (same : EndsAs ended (status_in came)) (no_sink : came ≢ Err fault.Sink)
    (kept : LeavesHonest last.disk) (dropped : ¬ (IsClosing (status_in came)) → t ≡ last.disk) (opened : SyncsWithin opening_syncs before.disk_counts k0) where
  abbrev done : Command
  done = (begins.resumed m is_start).done

  runs : (h : History) → KeepsTo mid h → IsSafe last.disk (all_unanswered (loaded_commands load.loaded) h).marks × OnOk came (LeadTo (loaded_commands load.loaded) mid h.machine last (all_unanswered (loaded_commands load.loaded) h))
  runs h keeps = let are = (load.runs told).each h keeps in (are.safe, are.stands)

  -- what the session left
  session_left : LeavesDisk m (all_begun_none_acked m (begins.resumed m is_start).done (loaded_commands load.loaded)) ended before.disk t
  session_left =
      let are = runs (acked (begins.resumed m is_start).done (settled_at m)) (begins.resumed m is_start).leads.keeps in
      begun_leave before.disk mid begins m is_start last t ended ends (loaded_commands load.loaded) (status_in came) same dropped kept are.0 (came_ok _ came no_sink are.1)

  reads_so : (final : Status) → (final ≡ status.Done → status_in came ≡ status.Done) → (final ≡ status.Script → status_in came ≡ status.Script) → (final ≡ status.Source → status_in came ≡ status.Source)
      → ReadsLoaded final before.source.left left load.loaded bytes
  reads_so final done_so script_so source_so =
      subst (λ o. IfSome o (ReadsLoaded final before.source.left left load.loaded)) from
      (reads_at final (status_in came) before.source.left left load.loaded done_so script_so source_so load.reads)

  loads_with : (final : Status) (now : World) (reads : ReadsLoaded final before.source.left now.source.left load.loaded bytes) → final ≢ status.No → CountsFailure (final ≡ status.Disk) before.disk_faults now.disk_faults → (final ≡ status.Disk → LastCallFails now.disk_counts) → SyncsWithin ending_syncs k1 now.disk_counts → PrintsLoadLine bytes load.loaded reads.read final before.taken now.taken
      → LeavesDisk m (all_begun_none_acked m (begins.resumed m is_start).done (loaded_commands load.loaded)) final before.disk now.disk
      → PrintsLoaded m (begins.resumed m is_start).done bytes final before now
  loads_with final now reads accepted cause last closed prints leaves =
      let proper : IsProper (step m (begins.resumed m is_start).done).next = proper_at mid (acked (begins.resumed m is_start).done (settled_at m)) (begins.resumed m is_start).leads.keeps in
      let free = no_slot moment before.disk m (GoesBy begins.first m) (mark_of m.mark) (begins.resumed m is_start).done is_start (begins.resumed m is_start).is_done in
      record {
        loaded = load.loaded;
        read = reads.read;
        whole = reads.whole;
        bad = reads.bad;
        broken = reads.broken;
        accepted = accepted;
        stocked = items_are_stocked (step m (begins.resumed m is_start).done).next load.loaded.items proper free reads.read.items;
        found = stock_is_found (step m (begins.resumed m is_start).done).next.shelf load.loaded.items proper.shelf reads.read.items;
        prints = prints;
        cause = cause;
        last = last;
        syncs = syncs_run (all_syncs (loaded_commands load.loaded)) before.disk_counts k0 k1 now.disk_counts opened (load.syncs told) closed;
        leaves = leaves;
      }

  -- a line is printed
  pub line_said : {faults source_faults sink_faults : ℕ} {counts : Counts} (final : Status) (taken : Option (List ℕ)) → CountsFailure (ended ≡ status.Disk) before.disk_faults faults → SyncsWithin ending_syncs k1 counts → IsLine ended → SaysLine ended final before.taken taken text
      → PrintsLoaded m (begins.resumed m is_start).done bytes final before (record { source = record { left = left; faults = source_faults }; taken = taken; sink_faults = sink_faults; disk = t; disk_faults = faults; disk_counts = counts })
  line_said final taken cause closed line says =
      let is : ended ≡ status_in came = closing_same ended (status_in came) same (line_closes ended line) in
      let holds : HoldsLine ended (length load.loaded.items) text = subst (λ s. HoldsLine s (length load.loaded.items) text) (sym is) load.line in
      let at_end : ReadsLoaded ended before.source.left left load.loaded bytes = reads_so ended (λ e. sym is ∙ e) (λ e. sym is ∙ e) (λ e. sym is ∙ e) in
      let reads : ReadsLoaded final before.source.left left load.loaded bytes = record {
        read = at_end.read;
        whole = λ e. at_end.whole (same_end ended final status.Done (λ x. cc) (λ x. cc) says.same e);
        bad = λ e. at_end.bad (same_end ended final status.Script (λ x. cc) (λ x. cc) says.same e);
        broken = λ e. at_end.broken (same_end ended final status.Source (λ x. cc) (λ x. cc) says.same e);
      } in
      loads_with final _ reads
      (never_no ended final line says.same) (calm_cause (λ disk. never_silent ended ended line (inl refl) (inr disk)) (λ disk. never_silent ended final line says.same (inr disk)) cause) (λ disk. absurd (never_silent ended final line says.same (inr disk))) closed (line_printed bytes load.loaded ended final before.source.left left at_end before.taken taken text line holds says)
      (leaves_at m (all_begun_none_acked m (begins.resumed m is_start).done (loaded_commands load.loaded)) ended final before.disk t (λ closing. line_closes ended line) session_left)

  -- none is
  pub none_said : {faults source_faults sink_faults : ℕ} {counts : Counts} → CountsFailure (ended ≡ status.Disk) before.disk_faults faults → (ended ≡ status.Disk → LastCallFails counts) → SyncsWithin ending_syncs k1 counts → ¬ (IsLine ended) → ended ≢ status.Sink → ended ≢ status.No
      → PrintsLoaded m (begins.resumed m is_start).done bytes ended before (record { source = record { left = left; faults = source_faults }; taken = before.taken; sink_faults = sink_faults; disk = t; disk_faults = faults; disk_counts = counts })
  none_said cause last closed other not_sink not_no =
      let reads : ReadsLoaded ended before.source.left left load.loaded bytes =
      reads_so ended (λ e. came_end ended (status_in came) status.Done (λ x. cc) (λ x. cc) same e) (λ e. came_end ended (status_in came) status.Script (λ x. cc) (λ x. cc) same e)
      (λ e. came_end ended (status_in came) status.Source (λ x. cc) (λ x. cc) same e) in
      loads_with ended _ reads not_no cause last closed (none_printed bytes load.loaded reads.read ended before.taken other not_sink) session_left
