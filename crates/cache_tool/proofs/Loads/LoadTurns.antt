-- The turns of a load: a part is read, and what it asks for is done.
use Rattle.std.proofs.Common.{◌≡◌, ◌≢◌, ◌∙◌, ℕ, ◌+◌, ◌<◌, ◌≤◌, List, [], ◌++◌, length, Option, None, Some, IfSome, IsErrAnd, Result, Ok, Err, refl, sym, ap, subst, arith}
use Rattle.std.specs.Io.KnownBytes.{Consumes, IsAtEnd, prepend_known}
use Rattle.std.proofs.KnownBytes.{Consumes-nil, Consumes-trans}
use Rattle.std.proofs.lemmas.List.{append_assoc, append-nil, length-append}
use Rattle.cache_base.specs.declared.status.Status.TheVariants as status
use Rattle.cache_export.proofs.FrontLaws.{key_size, part_found}
use Rattle.cache_export.proofs.NextLaws.{past}
use Rattle.cache_export.specs.Dump.{IsDump}
use Rattle.cache_export.specs.Front.{front_at}
use Rattle.cache_export.specs.Parts.{NoPart, Part, Spells, SpellsRest, Stage, key_bytes, lead, left_of}
use Rattle.cache_export.specs.Reader.{BreaksOff, Ends, Gives, Refuses, WantsMore, given_in, held_in, stage_in, used_in}
use Rattle.cache_export.specs.declared.item.DumpFault.TheVariants as faults
use Rattle.cache_export.specs.declared.limits.TheConstants.{DUMP_MAX}
use Rattle.cache_export.specs.declared.reader.DumpReader.{DumpReader}
use Rattle.cache_store.specs.Session.{Session}
use Rattle.cache_store.specs.declared.fault.StoreFault.{StoreFault}
use Rattle.cache_store.specs.declared.fault.StoreFault.TheVariants as fault
use Rattle.cache_theory.specs.Command.{Command}
use Rattle.cache_tool.specs.FillProgress.{RunsAll}
use Rattle.cache_tool.specs.Load.{Loaded, loaded_commands}
use Rattle.cache_tool.specs.Syncs.{SyncsFor}
use Rattle.cache_tool.proofs.SyncLaws.{syncs_then}
use Rattle.disk_theory.specs.Calls.{Counts}
use Rattle.cache_tool.specs.LoadProgress.{AreLoaded, EndsLoaded, HasLoaded, LoadsNext, ReadsLoaded, loading, part_commands}
use Rattle.cache_tool.specs.Statuses.{status_in}
use Rattle.cache_tool.specs.declared.load.LoadEnd.{LoadEnd}
use Rattle.cache_tool.specs.declared.load.LoadEnd.TheVariants as ended
use Rattle.cache_tool.proofs.Fills.FillRuns.{run_none, run_ok, run_same, run_then}
use Rattle.cache_tool.proofs.Handed.{handed_on}
use Rattle.cache_tool.proofs.Loads.LoadBytes.{begins, loaded_no_dump, whole_dump}
use Rattle.cache_tool.proofs.Loads.LoadParts.{adds_part, back_size, number_long, whole_by}
use Rattle.entry_metadata.specs.Metadata.{block_bytes}

-- ---- each part has some bytes

rest_some : (key : List ℕ) (len : ℕ) (hashes : List ℕ) (p : Part) (own : List ℕ) → SpellsRest key len hashes p own → 0 < length own
rest_some key len hashes (Part.KeyPart k) own s = absurd s
rest_some key len hashes (Part.PiecePart piece) own s = omega (arith, s.0, s.1.0, ap length s.1.1.1)
rest_some key len hashes (Part.BlockPart said) own s = omega (arith, ap length s.1.1.1.1.1, back_size (block_bytes said))

part_some : (s : Stage) (p : Part) (own : List ℕ) → Spells s p own → 0 < length own
part_some (Stage.AtItem before) (Part.KeyPart k) own s = omega (arith, ap length s.1.1, length-append (lead before) (key_bytes k), key_size k)
part_some (Stage.AtItem before) (Part.PiecePart piece) own s = absurd s
part_some (Stage.AtItem before) (Part.BlockPart said) own s = absurd s
part_some (Stage.AtLength key) p own s = omega (arith, ap length s.1.1.1.0, number_long s.0 s.1.0)
part_some (Stage.InBody key len hashes) p own s = rest_some key len hashes p own s

-- so a reader that gives one has used more, and more than there are items
pub part_further : (old new : DumpReader) (left now : Option (List ℕ)) (p : Part) (n count : ℕ) → Gives old new left now p n → n ≤ 1 → count ≤ used_in old
    → (used_in old < used_in new) × (count + n ≤ used_in new)
part_further old new left now p n count g few le =
    let some = part_some (stage_in old) p g.own g.part in
    let used = g.used in
    (omega (arith, some, used), omega (arith, some, used, few, le))

-- ---- the bytes of the source

-- a fault is none of the ends
pub fault_ends : (f : StoreFault) → (status_in (Err f) ≢ status.Done) × ((status_in (Err f) ≢ status.Script) × (status_in (Err f) ≢ status.Source))
fault_ends fault.Memory = ((λ e. cc), ((λ e. cc), (λ e. cc)))
fault_ends fault.Disk = ((λ e. cc), ((λ e. cc), (λ e. cc)))
fault_ends fault.Sink = ((λ e. cc), ((λ e. cc), (λ e. cc)))

-- what was read so far, and what a fault leaves of it
reads_fault : (f : StoreFault) (l : Loaded) (own held read : List ℕ) (stage : Stage) (from left now : Option (List ℕ)) → AreLoaded l own stage → Consumes from left read → read ≡ own ++ held
    → length own ≤ DUMP_MAX → IfSome from (ReadsLoaded (status_in (Err f)) from now l)
reads_fault f l own held read stage None left now are taken spelled short = tt
reads_fault f l own held read stage (Some bytes) None now are taken spelled short = absurd taken
reads_fault f l own held read stage (Some bytes) (Some rest) now are taken spelled short =
    let none = fault_ends f in
    record {
      read = begins l own (held ++ rest) bytes stage are (taken ∙ ap (λ x. x ++ rest) spelled ∙ append_assoc own held rest) short;
      whole = λ e. absurd (none.0 e);
      bad = λ e. absurd (none.1.0 e);
      broken = λ e. absurd (none.1.1 e);
    }

reads_whole : (l : Loaded) (own held read more : List ℕ) (stage : Stage) (from left now : Option (List ℕ)) → AreLoaded l own stage → Consumes from left read → read ≡ own ++ held
    → length own ≤ DUMP_MAX → Consumes left now more → IsAtEnd now → IsDump (own ++ (held ++ more)) l.items × (l.begun ≡ None) → IfSome from (ReadsLoaded status.Done from now l)
reads_whole l own held read more stage None left now are taken spelled short further over dump = tt
reads_whole l own held read more stage (Some bytes) None now are taken spelled short further over dump = absurd taken
reads_whole l own held read more stage (Some bytes) (Some rest) None are taken spelled short further over dump = absurd further
reads_whole l own held read more stage (Some bytes) (Some rest) (Some last) are taken spelled short further over dump =
    let is : bytes ≡ own ++ (held ++ more) =
    taken ∙ ap (λ x. x ++ rest) spelled ∙ append_assoc own held rest ∙ ap (λ x. own ++ (held ++ x)) (further ∙ ap (λ x. more ++ x) over ∙ append-nil more) in
    record {
      read = begins l own (held ++ more) bytes stage are is short;
      whole = λ e. (subst (λ (b : List ℕ). IsDump b l.items) (sym is) dump.0, (dump.1, over));
      bad = λ e. absurd (let d : status.Done ≡ status.Script = e in cc);
      broken = λ e. absurd (let d : status.Done ≡ status.Source = e in cc);
    }

reads_bad : (l : Loaded) (own held read : List ℕ) (stage : Stage) (used : ℕ) (from left now : Option (List ℕ)) → AreLoaded l own stage → Consumes from left read → read ≡ own ++ held → used ≡ length own
    → length own ≤ DUMP_MAX → IfSome (prepend_known held left) (NoPart stage used) → IfSome from (ReadsLoaded status.Script from now l)
reads_bad l own held read stage used None left now are taken spelled size short none = tt
reads_bad l own held read stage used (Some bytes) None now are taken spelled size short none = absurd taken
reads_bad l own held read stage used (Some bytes) (Some rest) now are taken spelled size short none =
    let is : bytes ≡ own ++ (held ++ rest) = taken ∙ ap (λ x. x ++ rest) spelled ∙ append_assoc own held rest in
    let no_part : NoPart stage (length own) (held ++ rest) = subst (λ (n : ℕ). NoPart stage n (held ++ rest)) size none in
    record {
      read = begins l own (held ++ rest) bytes stage are is short;
      whole = λ e. absurd (let d : status.Script ≡ status.Done = e in cc);
      bad = λ e. (loaded_no_dump l own (held ++ rest) bytes stage are is no_part, no_part);
      broken = λ e. absurd (let d : status.Script ≡ status.Source = e in cc);
    }

reads_broken : (l : Loaded) (own held read more : List ℕ) (stage : Stage) (from left now : Option (List ℕ)) → AreLoaded l own stage → Consumes from left read → read ≡ own ++ held
    → length own ≤ DUMP_MAX → Consumes left now more → ((p : Part) (mine rest : List ℕ) → Spells stage p mine → held ++ more ≡ mine ++ rest → DUMP_MAX < length own + length mine)
    → IfSome from (ReadsLoaded status.Source from now l)
reads_broken l own held read more stage None left now are taken spelled short further none = tt
reads_broken l own held read more stage (Some bytes) None now are taken spelled short further none = absurd taken
reads_broken l own held read more stage (Some bytes) (Some rest) now are taken spelled short further none =
    let is : bytes ≡ own ++ (held ++ rest) = taken ∙ ap (λ x. x ++ rest) spelled ∙ append_assoc own held rest in
    record {
      read = begins l own (held ++ rest) bytes stage are is short;
      whole = λ e. absurd (let d : status.Source ≡ status.Done = e in cc);
      bad = λ e. absurd (let d : status.Source ≡ status.Script = e in cc);
      broken = λ e. record {
        given = read ++ more;
        taken = Consumes-trans (Some bytes) (Some rest) now read more taken further;
        read = begins l own (held ++ more) (read ++ more) stage are (ap (λ x. x ++ more) spelled ∙ append_assoc own held more) short;
        no_more = none;
      };
    }

-- ---- one turn

-- no command follows
run_stops : {T U : Type 0} (f : StoreFault) (cs : List Command) (answer : Result T StoreFault) (before now : Session) → RunsAll cs answer before now → RunsAll {T = U} cs (Err f) before now
run_stops f cs answer before now runs = record { each = λ h keeps. record { safe = (runs.each h keeps).safe; stands = tt }; mark = runs.mark }

-- a reader that wants more after these bytes has no part that is due at their beginning
none_whole : (r : DumpReader) (bytes : List ℕ) → WantsMore r bytes → (p : Part) (mine rest : List ℕ) → Spells (stage_in r) p mine → bytes ≡ mine ++ rest → DUMP_MAX < used_in r + length mine
none_whole r bytes wants p mine rest s e = past (used_in r + length mine) (λ fits.
    let f = part_found r.progress.due r.progress.key r.progress.len r.progress.hashes r.used p mine rest s fits in
    let both = sym wants ∙ ap (front_at r.progress.due (left_of r.progress.len (length r.progress.hashes)) r.used) e ∙ f.found in
    absurd (cc))

module _ (tells : Type 0) (from : Option (List ℕ)) (before : Session) (began : Counts) (old : DumpReader) (count : ℕ) (left : Option (List ℕ)) (s1 : Session) (k1 : Counts) (so : HasLoaded tells from before began (loading old count left s1 k1)) where
  -- a part was read, and its commands were done
  module _ (new : DumpReader) (now : Option (List ℕ)) (s2 : Session) (k2 : Counts) (p : Part) (n : ℕ) (is : n ≡ whole_by p) (g : Gives old new left now p n) (syncs : tells → SyncsFor (part_commands p) k1 k2) where
    part_syncs : tells → SyncsFor (loaded_commands (adds_part so.loaded so.own (stage_in old) p g.own so.are g.part).next) began k2
    part_syncs told =
        subst (λ (cs : List Command). SyncsFor cs began k2) (sym (adds_part so.loaded so.own (stage_in old) p g.own so.are g.part).commands)
        (syncs_then (loaded_commands so.loaded) (part_commands p) began k1 k2 (so.syncs told) (syncs told))

    part_on : (tells → RunsAll {T = Unit {0}} (part_commands p) (Ok tt) s1 s2) → HasLoaded tells from before began (loading new (count + n) now s2 k2)
    part_on runs =
        let add = adds_part so.loaded so.own (stage_in old) p g.own so.are g.part in
        let used = g.used in
        let given = g.given in
        let short = g.short in
        let size = length-append so.own g.own in
        record {
          loaded = add.next;
          own = so.own ++ g.own;
          are = subst (AreLoaded add.next (so.own ++ g.own)) (sym g.stage) add.are;
          read = so.read ++ g.read;
          taken = Consumes-trans from left now so.read g.read so.taken g.taken;
          spelled = ap (λ l. l ++ g.read) so.spelled ∙ append_assoc so.own (held_in old) g.read ∙ ap (λ l. so.own ++ l) g.spelled ∙ sym (append_assoc so.own g.own (held_in new));
          used = omega (arith, used, so.used, size);
          short = omega (arith, used, so.used, size, short);
          given = omega (arith, given, so.given, add.counted, is);
          counted = omega (arith, so.counted, add.counted, is);
          runs = λ told. run_same (loaded_commands so.loaded ++ part_commands p) (loaded_commands add.next) (Ok tt) before s2 (sym add.commands)
              (run_then (loaded_commands so.loaded) (part_commands p) tt (Ok tt) before s1 s2 (so.runs told) (runs told));
          syncs = part_syncs;
        }

    -- or failed
    part_fails : (f : StoreFault) → (tells → RunsAll {T = Unit {0}} (part_commands p) (Err f) s1 s2) → EndsLoaded tells (Err f) from now before s2 began k2
    part_fails f runs =
        let add = adds_part so.loaded so.own (stage_in old) p g.own so.are g.part in
        let used = g.used in
        let short = g.short in
        let size = length-append so.own g.own in
        record {
          loaded = add.next;
          reads = reads_fault f add.next (so.own ++ g.own) (held_in new) (so.read ++ g.read) _ from now now add.are (Consumes-trans from left now so.read g.read so.taken g.taken)
              (ap (λ l. l ++ g.read) so.spelled ∙ append_assoc so.own (held_in old) g.read ∙ ap (λ l. so.own ++ l) g.spelled ∙ sym (append_assoc so.own g.own (held_in new)))
              (omega (arith, used, so.used, size, short));
          over = λ e. absurd ((fault_ends f).0 e);
          number = tt;
          runs = λ told. run_stops f (loaded_commands add.next) (Err f) before s2 (run_same {T = Unit {0}} (loaded_commands so.loaded ++ part_commands p) (loaded_commands add.next) (Err f) before s2 (sym add.commands)
              (run_then (loaded_commands so.loaded) (part_commands p) tt (Err f) before s1 s2 (so.runs told) (runs told)));
          syncs = part_syncs;
        }

  -- the dump has ended
  ends_on : (new : DumpReader) (now : Option (List ℕ)) → Ends old left now → EndsLoaded tells (Ok (ended.Whole count)) from now before s1 began k1
  ends_on new now e =
      let size = so.used in
      let short = e.short in
      let long = length-append so.own (held_in old ++ e.read) in
      record {
        loaded = so.loaded;
        reads = reads_whole so.loaded so.own (held_in old) so.read e.read (stage_in old) from left now so.are so.taken so.spelled so.short e.taken e.over
            (whole_dump so.loaded so.own (held_in old ++ e.read) (stage_in old) so.are e.ending (omega (arith, size, short, long)));
        over = λ is. e.over;
        number = so.counted;
        runs = λ told. run_ok (loaded_commands so.loaded) tt (ended.Whole count) before s1 (so.runs told);
        syncs = so.syncs;
      }

  -- the item is bad
  bad_on : (now : Option (List ℕ)) (number : ℕ) → Refuses old left (faults.Bad number) → EndsLoaded tells (Ok (ended.Bad number)) from now before s1 began k1
  bad_on now number bad =
      let of = bad.0 in
      let given = so.given in
      record {
        loaded = so.loaded;
        reads = reads_bad so.loaded so.own (held_in old) so.read (stage_in old) (used_in old) from left now so.are so.taken so.spelled so.used so.short bad.1;
        over = λ e. absurd (let d : status.Script ≡ status.Done = e in cc);
        number = omega (arith, of, given);
        runs = λ told. run_ok (loaded_commands so.loaded) tt (ended.Bad number) before s1 (so.runs told);
        syncs = so.syncs;
      }

  -- the source failed
  failed_on : (now : Option (List ℕ)) → BreaksOff old left now faults.Source → EndsLoaded tells (Ok ended.Failed) from now before s1 began k1
  failed_on now broken = record {
    loaded = so.loaded;
    reads = reads_broken so.loaded so.own (held_in old) so.read broken.0 (stage_in old) from left now so.are so.taken so.spelled so.short broken.1.0
        (λ p mine rest s e. subst (λ (n : ℕ). DUMP_MAX < n + length mine) so.used (none_whole old (held_in old ++ broken.0) broken.1.1 p mine rest s e));
    over = λ e. absurd (let d : status.Source ≡ status.Done = e in cc);
    number = tt;
    runs = λ told. run_ok (loaded_commands so.loaded) tt ended.Failed before s1 (so.runs told);
    syncs = so.syncs;
  }

  -- memory ran out
  stops_on : (now : Option (List ℕ)) (f : StoreFault) → EndsLoaded tells (Err f) from now before s1 began k1
  stops_on now f = record {
    loaded = so.loaded;
    reads = reads_fault f so.loaded so.own (held_in old) so.read (stage_in old) from left now so.are so.taken so.spelled so.short;
    over = λ e. absurd ((fault_ends f).0 e);
    number = tt;
    runs = λ told. run_stops f (loaded_commands so.loaded) (Ok tt) before s1 (so.runs told);
    syncs = so.syncs;
  }

-- the turns

module _ (tells : Type 0) (old new : DumpReader) (count : ℕ) (left now : Option (List ℕ)) (s1 : Session) (k1 : Counts) where
  module _ (s2 : Session) (k2 : Counts) (p : Part) (n : ℕ) (is : n ≡ whole_by p) (g : Gives old new left now p n) (syncs : tells → SyncsFor (part_commands p) k1 k2) where
    pub turn_on : (later : ℕ) → later ≡ count + n → (tells → RunsAll {T = Unit {0}} (part_commands p) (Ok tt) s1 s2) → LoadsNext tells (Ok None) (loading old count left s1 k1) (loading new later now s2 k2)
    turn_on later more runs = subst (λ k. LoadsNext tells (Ok None) (loading old count left s1 k1) (loading new k now s2 k2)) (sym more)
        (record { on = λ from before began so. part_on tells from before began old count left s1 k1 so new now s2 k2 p n is g syncs runs })

    -- a fault is handed on
    pub turn_fails : (f : StoreFault) (answer : Result (Option LoadEnd) StoreFault) (later : ℕ) → IsErrAnd answer (λ e. e ≡ f) → (tells → RunsAll {T = Unit {0}} (part_commands p) (Err f) s1 s2)
        → LoadsNext tells answer (loading old count left s1 k1) (loading new later now s2 k2)
    turn_fails f answer later failed runs = subst (λ r. LoadsNext tells r (loading old count left s1 k1) (loading new later now s2 k2)) (sym (handed_on answer f failed))
        (record { on = λ from before began so. part_fails tells from before began old count left s1 k1 so new now s2 k2 p n is g syncs f runs })

  pub turn_ends : Ends old left now → LoadsNext tells (Ok (Some (ended.Whole count))) (loading old count left s1 k1) (loading new count now s1 k1)
  turn_ends e = record { on = λ from before began so. ends_on tells from before began old count left s1 k1 so new now e }

  pub turn_bad : (number : ℕ) → Refuses old left (faults.Bad number) → LoadsNext tells (Ok (Some (ended.Bad number))) (loading old count left s1 k1) (loading new count now s1 k1)
  turn_bad number bad = record { on = λ from before began so. bad_on tells from before began old count left s1 k1 so now number bad }

  pub turn_failed : BreaksOff old left now faults.Source → LoadsNext tells (Ok (Some ended.Failed)) (loading old count left s1 k1) (loading new count now s1 k1)
  turn_failed broken = record { on = λ from before began so. failed_on tells from before began old count left s1 k1 so now broken }

  pub turn_stops : (f : StoreFault) → LoadsNext tells (Err f) (loading old count left s1 k1) (loading new count now s1 k1)
  turn_stops f = record { on = λ from before began so. stops_on tells from before began old count left s1 k1 so now f }

-- ---- the beginning

pub starts : (tells : Type 0) (r : DumpReader) (left : Option (List ℕ)) (now : Session) (counts : Counts) → held_in r ≡ [] → stage_in r ≡ Stage.AtItem None → given_in r ≡ 0 → used_in r ≡ 0
    → HasLoaded tells left now counts (loading r 0 left now counts)
starts tells r left now counts held stage given used = record {
  loaded = record { items = []; begun = None };
  own = [];
  are = record { front = []; tail = []; both = refl; items = tt; whole = (refl, refl); begun = (refl, stage); spelled = refl };
  read = [];
  taken = Consumes-nil left;
  spelled = sym held;
  used = used;
  short = omega arith;
  given = given;
  counted = refl;
  runs = λ told. run_none now;
  syncs = λ told. omega arith;
}
