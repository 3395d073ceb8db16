-- What the clearing of an origin comes to, where a command asks for it, and where it is resumed.
use Rattle.std.proofs.Common.{◌≡◌, ◌∙◌, Bool, false, true, ℕ, List, length, Option, Some, None, Result, Ok, Err, IsErrAnd, IsTrue, refl, sym, ap, subst}
use Rattle.std.specs.Prelude.{IfSome, is_some, option_map}
use Rattle.cache_base.specs.declared.name.Name.{Name}
use Rattle.cache_store.specs.Clearing.{ClearsByRecords, ClearsNames, LeavesResumed, LeavesUncleared}
use Rattle.cache_store.specs.DoneFor.{IsDoneBy, IsResumedBy}
use Rattle.cache_store.specs.Kept.{HoldsIndex}
use Rattle.cache_store.specs.Open.{KeepsWhere, Tells}
use Rattle.cache_store.specs.Performing.{Achieves, AchievesWhatIsDone, GoesBy, SaysThere}
use Rattle.cache_store.specs.Session.{Session}
use Rattle.cache_store.specs.StoppedClearing.{ClearsUnderMark}
use Rattle.cache_replies.specs.declared.answered.Answered.{Answered}
use Rattle.cache_replies.specs.declared.answered.Answered.TheVariants as answered
use Rattle.cache_store.specs.declared.fault.StoreFault.{StoreFault}
use Rattle.memory_index.specs.declared.memory_index.MemoryIndex.{MemoryIndex}
use Rattle.cache_store.proofs.Records.IndexAchieves.{comes_from, fails_sparing, session_at, spares_same}
use Rattle.cache_store.proofs.Records.LearntAchieves.{holds_on}
use Rattle.cache_store.proofs.Clearing.MarkKept.{amid_ending_safe, ended_goes_on, ended_stands, ending_index}
use Rattle.cache_store.proofs.Records.GoesBy.{goes_by}
use Rattle.memory_index.proofs.RecordsAtEnd.{some_at_end}
use Rattle.cache_store.proofs.Spared.{unmarked_in}
use Rattle.cache_theory.specs.Checks.{checks}
use Rattle.cache_theory.specs.Command.{Command}
use Rattle.cache_theory.specs.Command.Command.{ClearNames, ClearOrigin, Resume, ResumeNames}
use Rattle.cache_theory.specs.Command.Reply.{Cleared, Resumed}
use Rattle.cache_theory.specs.Covers.{cleared_by, covered_by}
use Rattle.cache_theory.specs.Crash.{IsSafe}
use Rattle.cache_theory.specs.History.{History, begun}
use Rattle.cache_theory.specs.Machine.{Machine}
use Rattle.cache_theory.specs.Step.{cleared_of, effect, step, unmarked}
use Rattle.cache_theory.proofs.Clears.Clearing.{resume_without_mark}
use Rattle.context_clear.specs.Mark.{mark_of}
use Rattle.context_clear.specs.MarkFile.{IsAmidEnding, RemovesFile}
use Rattle.disk_theory.specs.Sound.{IsSound}
use Rattle.disk_theory.specs.State.{State, standing}
use Rattle.disk_theory.specs.declared.place.Place.TheVariants.{Clear}
use Rattle.entry_key.specs.Tags.{value_hash}
use Rattle.file_handles.specs.Cache.{cache_at}
use Rattle.handle_table.specs.Kept.{Kept}
use Rattle.file_handles.specs.Stands.{KeepsWhere as CacheKeepsWhere}
use Rattle.file_handles.proofs.Begun.{begun_in}
use Rattle.file_handles.proofs.Where.{stand_for}
use Rattle.index_map.specs.Known.{Known}
use Rattle.index_record.specs.declared.record.IndexRecord.{IndexRecord}
use Rattle.index_theory.specs.Ever.{entries_on}
use Rattle.index_theory.specs.Leaves.{LeavesIndex}

-- ---- a clearing of given names

clear_reply_is : (m : Machine) (names : List Name) → (step m (ClearNames names)).reply ≡ Cleared (length names)
unfolding checks effect
clear_reply_is m names = refl

pub clear_next_is : (m : Machine) (names : List Name) → (step m (ClearNames names)).next ≡ cleared_of m names
unfolding checks effect
clear_next_is m names = refl

module _ (crash : Bool) (names : List Name) (h : History) (before after : Session) where
  -- it is answered as a flush
  names_cleared : (count : ℕ) → ClearsNames crash names h (Ok count) before after → Achieves crash (ClearNames names) h (Ok (answered.Cleared count)) before after
  unfolding checks effect
  names_cleared count clears = record {
    safe = clears.safe;
    replies = ap Cleared clears.count ∙ sym (clear_reply_is h.machine names);
    next = clears.settled;
    tells = comes_from (ClearNames names) before h.machine _ (λ e. cc) clears.tells;
  }

  -- and one that is resumed is not
  names_resumed : (count : ℕ) → ClearsNames crash names h (Ok count) before after → Achieves crash (ResumeNames names) h (Ok answered.Resumed) before after
  unfolding checks effect
  names_resumed count clears = record {
    safe = clears.safe;
    replies = refl;
    next = clears.begun_on;
    tells = comes_from (ResumeNames names) before h.machine _ (λ e. cc) clears.tells;
  }

  names_not_cleared : (f : StoreFault) (out : Result Answered StoreFault) (P : StoreFault → Type 0) → IsErrAnd out P → ClearsNames crash names h (Err f) before after
      → Achieves crash (ClearNames names) h out before after
  names_not_cleared f (Ok a) P failed clears = absurd failed
  names_not_cleared f (Err e) P failed clears = record { safe = clears.safe; replies = tt; next = tt; tells = tt }

  names_not_resumed : (f : StoreFault) (out : Result Answered StoreFault) (P : StoreFault → Type 0) → IsErrAnd out P → ClearsNames crash names h (Err f) before after
      → Achieves crash (ResumeNames names) h out before after
  unfolding checks effect
  names_not_resumed f (Ok a) P failed clears = absurd failed
  names_not_resumed f (Err e) P failed clears = record { safe = clears.safe; replies = tt; next = tt; tells = tt }

-- ---- the clearing of an origin

module _ (origin : List ℕ) (hash : ℕ) (same : hash ≡ value_hash origin) (before after : Session) where
  by_value : (m : Machine) (records : List IndexRecord) → GoesBy before m records
      → IsDoneBy (GoesBy before m) (SaysThere before m) (ClearOrigin origin) m (ClearNames (covered_by records m hash))
  unfolding cleared_by
  by_value m records goes = (records, (ap (λ n. ClearNames (covered_by records m n)) same, goes))

  pub origin_cleared : (count : ℕ) → ClearsByRecords hash (Ok count) before after → AchievesWhatIsDone (ClearOrigin origin) (Ok (answered.Cleared count)) before after
  origin_cleared count clears crash h is =
      let by = clears crash h is in
      let names = covered_by by.0 h.machine hash in
      (ClearNames names, (by_value h.machine by.0 by.1.0, names_cleared crash names h before after count by.1.1))

  pub origin_not_cleared : (f : StoreFault) (out : Result Answered StoreFault) (P : StoreFault → Type 0) → IsErrAnd out P → ClearsByRecords hash (Err f) before after
      → AchievesWhatIsDone (ClearOrigin origin) out before after
  origin_not_cleared f out P failed clears crash h is =
      let by = clears crash h is in
      let names = covered_by by.0 h.machine hash in
      (ClearNames names, (by_value h.machine by.0 by.1.0, names_not_cleared crash names h before after f out P failed by.1.1))

-- ---- one whose mark stands

module _ (origin : ℕ) (before after : Session) (marked : mark_of (standing before.disk Clear) ≡ Some origin) where
  by_mark : {crash : Bool} (h : History) → KeepsWhere crash before h → (records : List IndexRecord) → GoesBy before h.machine records
      → IsDoneBy (GoesBy before h.machine) (SaysThere before h.machine) Resume h.machine (ResumeNames (covered_by records h.machine origin))
  by_mark h is records goes =
      let m = h.machine in
      subst (λ (o : Option ℕ). IsResumedBy (GoesBy before m) o m (ResumeNames (covered_by records m origin))) (sym (ap mark_of is.matches.mark ∙ marked)) (records, (refl, goes))

  pub mark_resumed : (count : ℕ) → ClearsByRecords origin (Ok count) before after → AchievesWhatIsDone Resume (Ok answered.Resumed) before after
  mark_resumed count clears crash h is =
      let by = clears crash h is in
      let names = covered_by by.0 h.machine origin in
      (ResumeNames names, (by_mark h is by.0 by.1.0, names_resumed crash names h before after count by.1.1))

  pub mark_not_resumed : (f : StoreFault) (out : Result Answered StoreFault) (P : StoreFault → Type 0) → IsErrAnd out P → ClearsByRecords origin (Err f) before after
      → AchievesWhatIsDone Resume out before after
  mark_not_resumed f out P failed clears crash h is =
      let by = clears crash h is in
      let names = covered_by by.0 h.machine origin in
      (ResumeNames names, (by_mark h is by.0 by.1.0, names_not_resumed crash names h before after f out P failed by.1.1))

-- the records in memory are those after a clearing of the origin
pub resumed_clears : (mark : Option ℕ) (before : Session) (index : MemoryIndex) (P Q : Type 0) → (P → Q → LeavesResumed mark before index) → IfSome mark (λ origin. P → Q → LeavesUncleared before origin index.map)
resumed_clears None before index P Q leaves = tt
resumed_clears (Some origin) before index P Q leaves = leaves

-- ---- no mark stands, or it is not known yet whether one does

-- something is done for it, by the records in memory
some_resumed : (k : Kept) (now : ℕ) (s : State) (old : MemoryIndex) {crash : Bool} (h : History) → KeepsWhere crash (session_at k now old s) h
    → (d : Command) × IsDoneBy (GoesBy (session_at k now old s) h.machine) (SaysThere (session_at k now old s) h.machine) Resume h.machine d
some_resumed k now s old h is = go (mark_of h.machine.mark)
  where
    go : (o : Option ℕ) → (d : Command) × IsResumedBy (GoesBy (session_at k now old s) h.machine) o h.machine d
    go None = (Resume, refl)
    go (Some origin) =
        let records = some_at_end (entries_on s) old in
        (ResumeNames (covered_by records.0 h.machine origin), (records.0, (refl, goes_by k now s old h.machine (stand_for is.stands) records.0 records.1)))

-- the disk was looked at
pub resume_looks : (answer : Result Answered StoreFault) (P : StoreFault → Type 0) → IsErrAnd answer P → (k : Kept) (now : ℕ) (s t : State) (old new : MemoryIndex) → t ≡ s
    → AchievesWhatIsDone Resume answer (session_at k now old s) (session_at k now new t)
resume_looks answer P failed k now s t old new same crash h is =
    let done = some_resumed k now s old h is in
    (done.0, (done.1, fails_sparing done.0 answer P (session_at k now old s) (session_at k now new t) failed (λ apart. spares_same s t same) crash h is))

module _ (k : Kept) (now : ℕ) (s t : State) (old : MemoryIndex) (bare : mark_of (standing s Clear) ≡ None) where
  module _ (crash : Bool) (h : History) (is : KeepsWhere crash (session_at k now old s) h) where
    none_marked : mark_of h.machine.mark ≡ None
    none_marked = ap mark_of is.matches.mark ∙ bare

    own : IsDoneBy (GoesBy (session_at k now old s) h.machine) (SaysThere (session_at k now old s) h.machine) Resume h.machine Resume
    own = subst (λ (o : Option ℕ). IsResumedBy (GoesBy (session_at k now old s) h.machine) o h.machine Resume) (sym none_marked) refl

    started : CacheKeepsWhere crash (cache_at k s) (begun Resume h)
    started = begun_in s k h.machine Resume h.marks is.stands

    next_is : (step h.machine Resume).next ≡ unmarked h.machine
    next_is = (resume_without_mark h.machine none_marked).0

    reply_is : Resumed ≡ (step h.machine Resume).reply
    unfolding checks effect
    reply_is = refl

    bare_tells : Tells (session_at k now old s) h.machine → Tells (session_at k now old t) (step h.machine Resume).next
    bare_tells told = subst (Tells (session_at k now old t)) (sym next_is) (record { rest = told.rest; tells = told.tells })

    -- what stands at `clear` is gone
    bare_achieves : (IsTrue crash → IsSafe t (begun Resume h).marks) → CacheKeepsWhere crash (cache_at k t) (record { machine = unmarked h.machine; marks = (begun Resume h).marks })
        → standing t Clear ≡ None → HoldsIndex t old.map → Achieves crash Resume h (Ok answered.Resumed) (session_at k now old s) (session_at k now old t)
    bare_achieves safe stands gone holds = record {
      safe = safe;
      replies = reply_is;
      next = subst (λ (n : Machine). KeepsWhere crash (session_at k now old t) (record { machine = n; marks = (begun Resume h).marks })) (sym next_is) (record {
        stands = stands;
        matches = record { moment = is.matches.moment; rest = is.matches.rest; mark = sym gone; holds = holds };
      });
      tells = comes_from Resume (session_at k now old s) h.machine _ (λ e. cc) bare_tells;
    }

  -- no file stands there
  pub nothing_resumed : standing s Clear ≡ None → t ≡ s → AchievesWhatIsDone Resume (Ok answered.Resumed) (session_at k now old s) (session_at k now old t)
  nothing_resumed none same crash h is =
      let on : CacheKeepsWhere crash (cache_at k t) (begun Resume h) = subst (λ (u : State). CacheKeepsWhere crash (cache_at k u) (begun Resume h)) (sym same) (started crash h is) in (
        Resume,
        (
          own crash h is,
          bare_achieves crash h is (λ is_on. (on.crash_kept is_on).safe) (unmarked_in (cache_at k t) (begun Resume h) on)
              (ap (λ (u : State). standing u Clear) same ∙ none) (subst (λ (u : State). HoldsIndex u old.map) (sym same) is.matches.holds),
        ),
      )

  -- one that is no mark was removed, or could not be
  module _ (v : State) (same : v ≡ s) (sound : IsSound v) where
    there : (crash : Bool) (h : History) → KeepsWhere crash (session_at k now old s) h → CacheKeepsWhere crash (cache_at k v) (begun Resume h)
    there crash h is = subst (λ (u : State). CacheKeepsWhere crash (cache_at k u) (begun Resume h)) (sym same) (started crash h is)

    ending_safe : IsAmidEnding v t → (crash : Bool) (h : History) → KeepsWhere crash (session_at k now old s) h → IsTrue crash → IsSafe t (begun Resume h).marks
    ending_safe amid crash h is on = amid_ending_safe v t _ ((there crash h is).crash_kept on).safe amid

    pub other_removed : IsAmidEnding v t → RemovesFile v t → LeavesIndex s t → AchievesWhatIsDone Resume (Ok answered.Resumed) (session_at k now old s) (session_at k now old t)
    other_removed amid removes index crash h is = (
      Resume,
      (
        own crash h is,
        bare_achieves crash h is (ending_safe amid crash h is)
            (unmarked_in (cache_at k t) (begun Resume h) (ended_goes_on crash k v t (begun Resume h) sound (there crash h is) removes))
            (ended_stands v t removes) (holds_on s t old.map old.map index (record { has_base = refl; records = λ name. refl }) is.matches.holds),
      ),
    )

    pub other_stays : (answer : Result Answered StoreFault) (P : StoreFault → Type 0) → IsErrAnd answer P → IsAmidEnding v t
        → AchievesWhatIsDone Resume answer (session_at k now old s) (session_at k now old t)
    other_stays answer P failed amid crash h is = (Resume, (own crash h is, fails answer failed))
      where
        fails : (r : Result Answered StoreFault) → IsErrAnd r P → Achieves crash Resume h r (session_at k now old s) (session_at k now old t)
        fails (Ok a) not = absurd not
        fails (Err f) so = record { safe = ending_safe amid crash h is; replies = tt; next = tt; tells = tt }

-- ---- what the looks before tell

-- a file without a size is none
pub no_size : (file : Option (List ℕ)) (size : Option ℕ) → size ≡ option_map length file → is_some size ≡ false → file ≡ None
no_size None size is none = refl
no_size (Some bytes) size is none = absurd (let some : is_some size ≡ true = ap is_some is in let no : true ≡ false = sym some ∙ none in cc)

-- where none stands no length is told
pub none_told : (file : Option (List ℕ)) (size : Option ℕ) → size ≡ option_map length file → is_some size ≡ true → file ≡ None → ⊥
none_told None size is some none = let no : false ≡ true = sym (ap is_some is) ∙ some in cc
none_told (Some bytes) size is some none = cc

-- what holds of each origin holds of that of the mark, if one stands
pub of_each : (mark : Option ℕ) {P : ℕ → Type 0} → ((origin : ℕ) → P origin) → IfSome mark P
of_each None each = tt
of_each (Some origin) each = each origin

-- and so does what holds of this one, where it is that of the mark
pub of_marked : (mark : Option ℕ) (origin : ℕ) (T : Type 0) (P : ℕ → Type 0) → (T → mark ≡ Some origin) → (T → P origin) → IfSome mark (λ o. T → P o)
of_marked None origin T P is holds = tt
of_marked (Some o) origin T P is holds = λ t. let both : Some o ≡ Some origin = is t in let same : o ≡ origin = cc in subst P (sym same) (holds t)

module _ (k : Kept) (now : ℕ) (s v : State) (old : MemoryIndex) (same : v ≡ s) where
  pub cleared_from : (origin : ℕ) (answer : Result ℕ StoreFault) (after : Session) → ClearsByRecords origin answer (session_at k now old v) after → ClearsByRecords origin answer (session_at k now old s) after
  cleared_from origin answer after clears = subst (λ (x : State). ClearsByRecords origin answer (session_at k now old x) after) same clears

  pub stopped_from : (origin : ℕ) (t : State) → ClearsUnderMark origin (session_at k now old v) t → ClearsUnderMark origin (session_at k now old s) t
  stopped_from origin t stops = subst (λ (x : State). ClearsUnderMark origin (session_at k now old x) t) same stops

  pub uncleared_from : (origin : ℕ) (map : Known) → LeavesUncleared (session_at k now old v) origin map → LeavesUncleared (session_at k now old s) origin map
  uncleared_from origin map leaves = subst (λ (x : State). LeavesUncleared (session_at k now old x) origin map) same leaves

  -- what is found is the mark that stood
  pub found_mark : (found other : Option ℕ) → found ≡ mark_of (standing v Clear) → found ≡ other → mark_of (standing s Clear) ≡ other
  found_mark found other is so = ap (λ (x : State). mark_of (standing x Clear)) (sym same) ∙ sym is ∙ so

  pub ended_index : (t : State) → IsSound v → IsAmidEnding v t → LeavesIndex s t
  ended_index t sound amid = subst (λ (x : State). LeavesIndex x t) same (ending_index v t sound amid)
