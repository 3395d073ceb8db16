-- What the commands of a script come to, by how they ended.
use Rattle.std.proofs.Common.{◌≡◌, ◌≢◌, ◌⊎◌, inl, inr, ℕ, suc, ◌+◌, ◌<◌, List, [], ◌∷◌, ◌++◌, length, take, Option, None, Some, Result, Ok, Err, IsErrAnd, refl, sym, ap, subst, ◌∙◌, arith, append_assoc, append-nil, length-append}
use Rattle.std.specs.Io.KnownBytes.{Appends}
use Rattle.std.specs.Prelude.{true, Bool, slice_get}
use Rattle.std.proofs.KnownBytes.{Appends-nil, Appends-trans}
use Rattle.std.proofs.Math.Seq.{take-append_seam}
use Rattle.std.proofs.lemmas.List.{take_all}
use Rattle.cache_base.specs.declared.status.Status.{Status}
use Rattle.cache_base.specs.declared.status.Status.TheVariants as status
use Rattle.cache_script.proofs.ListLaws.{commands_are_one, front_is_first}
use Rattle.cache_replies.specs.Said.{IsCut}
use Rattle.cache_store.specs.declared.fault.StoreFault.{StoreFault}
use Rattle.cache_store.specs.declared.fault.StoreFault.TheVariants as fault
use Rattle.cache_theory.specs.Command.{Command}
use Rattle.cache_theory.specs.Command.Command.{ClearOrigin}
use Rattle.cache_theory.specs.Faulted.{AreFaults, replies_but, unfaulted, with_next}
use Rattle.cache_theory.specs.History.{History}
use Rattle.cache_theory.specs.Text.{AreSpoken, CommandsIn, ScriptSpells, SpellsFront, command_bytes, command_data, command_words, script_bytes, spaced}
use Rattle.cache_theory.proofs.Faults.FaultedOn.{faults_are_within}
use Rattle.cache_tool.specs.Clearings.{MayHaveCleared}
use Rattle.cache_tool.specs.MarkLeft.{ChangeMark}
use Rattle.cache_tool.specs.Syncs.{SyncsFor}
use Rattle.cache_tool.proofs.SyncLaws.{syncs_front}
use Rattle.cache_tool.specs.Right.{AreRight}
use Rattle.cache_tool.specs.Script.{AreTaken, bad_line, performed}
use Rattle.cache_tool.specs.ScriptProgress.{AreCounted, DoneForKept, FailedTimes, FailsInLine, FailsMidway, LeavesScript, PerformsScript, PerformsToEnd, ScriptIsRun, SomeCutOff, SomeFaultCut, SomePerformed, all_answered, marks_on, one_begun_on, ChangeMarkBut}
use Rattle.cache_tool.specs.Statuses.{status_in}
use Rattle.cache_tool.specs.Verbs.{begun_of}
use Rattle.cache_tool.specs.World.{Progress}
use Rattle.cache_tool.specs.declared.script.ScriptEnd.TheVariants as ended
use Rattle.cache_tool.proofs.Clearings.{not_cleared}
use Rattle.cache_tool.proofs.DoneKept.{done_kept_but, done_kept_rest}
use Rattle.cache_tool.proofs.DoneLaws.{script_is_spoken}
use Rattle.cache_tool.proofs.FaultedParts.{next_numbers, one_longer}
use Rattle.cache_tool.proofs.MarkLeft.{begun_but_next, begun_front, begun_next, none_change_mark}
use Rattle.cache_tool.proofs.Moments.{with_left, with_taken}
use Rattle.cache_tool.proofs.RightLaws.{leads_none}
use Rattle.cache_tool.proofs.Scripts.ScriptMarks.{acked_on, keeps_cut, keeps_fault_cut, keeps_front}
use Rattle.cache_tool.proofs.Scripts.ScriptTurns.{next_at}
use Rattle.cache_tool.proofs.Scripts.ScriptReplies.{tells_cut, tells_fault_cut, tells_front, tells_line}

-- ---- the commands that were read are the first of all that there are

command_some : (c : Command) → 0 < length (command_bytes c)
unfolding command_bytes
command_some c = omega (arith, length-append (spaced (command_words c) ++ 10 ∷ []) (command_data c), length-append (spaced (command_words c)) (10 ∷ []))

-- a script that ends has no command more
pub whole_is_longest : (bytes : List ℕ) (cs : List Command) → ScriptSpells bytes cs → CommandsIn bytes cs
whole_is_longest bytes cs whole = record {
  rest = [];
  front = whole;
  longest = λ c more is e. absurd (let long = command_some c in omega (arith, long, ap length e, length-append (command_bytes c) more));
}

-- a prefix of what was taken is a prefix of all
taken_front : (xs ys taken rest : List ℕ) (cs : List Command) → xs ≡ taken ++ ys → SpellsFront taken cs rest → SpellsFront xs cs (rest ++ ys)
taken_front xs ys taken rest cs e front = record {
  commands = front.commands;
  spelled = e ∙ ap (λ l. l ++ ys) front.spelled ∙ append_assoc (script_bytes cs) rest ys;
  short = front.short;
}

taken_first : (bytes : List ℕ) (now : Option (List ℕ)) (cs ds : List Command) → CommandsIn bytes cs → AreTaken (Some bytes) now ds → (more : List Command) × (cs ≡ ds ++ more)
taken_first bytes None cs ds found taken = absurd taken.1.0
taken_first bytes (Some ys) cs ds found taken =
    front_is_first bytes (taken.1.1.rest ++ ys) cs ds found (taken_front bytes ys taken.0 taken.1.1.rest ds taken.1.0 taken.1.1.front)

-- ---- a fault is no answer

not_done : (f : StoreFault) → status_in (Err f) ≢ status.Done
not_done fault.Memory e = cc
not_done fault.Disk e = cc
not_done fault.Sink e = cc

not_script : (f : StoreFault) → status_in (Err f) ≢ status.Script
not_script fault.Memory e = cc
not_script fault.Disk e = cc
not_script fault.Sink e = cc

not_source : (f : StoreFault) → status_in (Err f) ≢ status.Source
not_source fault.Memory e = cc
not_source fault.Disk e = cc
not_source fault.Sink e = cc

is_disk : (f : StoreFault) → status_in (Err f) ≡ status.Disk → f ≡ fault.Disk
is_disk fault.Memory e = absurd (cc e)
is_disk fault.Disk e = refl
is_disk fault.Sink e = absurd (cc e)

line_ends : (f : StoreFault) → f ≢ fault.Disk → (status_in (Err f) ≡ status.Memory) ⊎ (status_in (Err f) ≡ status.Sink)
line_ends fault.Memory other = inl refl
line_ends fault.Disk other = absurd (other refl)
line_ends fault.Sink other = inr refl

-- after all commands there is none to begin
none_more : (f : StoreFault) (n : ℕ) → performed (status_in (Err f)) n n ≡ n
none_more fault.Memory n = refl
none_more fault.Disk n = refl
none_more fault.Sink n = omega arith

-- the next command of those that were read
next_is : (read rest : List Command) (c : Command) (n : ℕ) → n ≡ length read → (e : Command) → slice_get ((read ++ c ∷ []) ++ rest) n ≡ Some e → c ≡ e
next_is read rest c n same e next =
    let is : Some c ≡ Some e = sym (next_at read c rest) ∙ ap (λ l. slice_get l (length read)) (sym (append_assoc read (c ∷ []) rest)) ∙ ap (λ k. slice_get ((read ++ c ∷ []) ++ rest) k) (sym same) ∙ next in
    cc

-- ---- for a history

module _ (bytes : List ℕ) (h : History) (start : Progress) where
  -- the source had these bytes
  abbrev before : Progress
  before = with_left start (Some bytes)

  -- the first commands were performed, and no more
  ran_front : (now : Progress) (cs read rest : List Command) (faults : List ℕ) (came : Status) → cs ≡ read ++ rest → AreSpoken cs → AreCounted (length read) faults before now → ChangeMarkBut faults read before now → SyncsFor read before.disk_counts now.disk_counts → SomePerformed read faults h before now
      → (came ≡ status.Done → rest ≡ []) → came ≢ status.Script → came ≢ status.Sink → came ≢ status.Disk
      → (came ≡ status.Source → AreTaken (Some bytes) now.source.left read) → ((a n : ℕ) → performed came a n ≡ a) → ScriptIsRun h bytes cs came before now
  ran_front now cs read rest faults came e spoken counts mark syncs some all unnamed unsunk sound taken same =
      let numbers = subst (λ n. AreFaults n faults) (sym some.is_done.as_many) counts.numbers in
      let others = done_kept_rest before.session h.machine read some.done faults some.is_done numbers rest in
      subst (λ l. ScriptIsRun h bytes l came before now) (sym e) (record {
        done = some.done ++ others.0;
        acked = length some.done;
        faults = faults;
        with_last = faults;
        counts = record { numbers = numbers; last = inl refl; counted = λ other. counts.counted; disk = λ is. absurd (sound is) };
        line_cut = λ other. absurd (other refl);
        for_good = λ is. absurd (sound is);
        is_done = others.1.0;
        tells = tells_front h.machine bytes before now read rest some.done others.0 faults came (others.1.0.spoken (subst AreSpoken e spoken)) some.is_done.as_many others.1.1 numbers some.performed.out all unnamed unsunk taken;
        leaves = keeps_front h some.done others.0 faults came before.session now.session numbers some.performed.stands (same (length some.done) (length (some.done ++ others.0)));
        clearing = λ origin next right.
            subst (λ w. MayHaveCleared origin w came now.session) (sym (acked_on h some.done others.0 faults numbers))
            (not_cleared origin (all_answered (unfaulted faults some.done) h) came now.session some.performed.stands.keeps);
        mark = begun_front read rest faults counts.numbers (length some.done) some.is_done.as_many before.session.disk now.session.disk mark;
        syncs = syncs_front read rest (length some.done + 1) before.disk_counts now.disk_counts (omega (arith, some.is_done.as_many)) syncs;
      })

  -- all were performed, and a part of the line that names a bad one went out
  ran_line : (mid : Progress) (taken : Option (List ℕ)) (cs read : List Command) (faults : List ℕ) (n : ℕ) (came : Status) → cs ≡ read → AreSpoken cs → AreCounted (length read) faults before mid → ChangeMarkBut faults read before mid → SyncsFor read before.disk_counts mid.disk_counts → SomePerformed read faults h before mid
      → Appends mid.taken taken (take n (bad_line (length read + 1)))
      → (came ≡ status.Script → take n (bad_line (length read + 1)) ≡ bad_line (length read + 1)) → (came ≡ status.Sink → n < length (bad_line (length read + 1))) → came ≢ status.Done → came ≢ status.Source → came ≢ status.Disk → ¬ (ScriptSpells bytes read)
      → ((a : ℕ) → performed came a a ≡ a) → ScriptIsRun h bytes cs came before (with_taken mid taken)
  ran_line mid taken cs read faults n came e spoken counts mark syncs some part all short undone unfailed sound unspelled same =
      let ds : List Command = some.done in
      let numbers = subst (λ n. AreFaults n faults) (sym some.is_done.as_many) counts.numbers in
      subst (λ l. ScriptIsRun h bytes l came before (with_taken mid taken)) (sym e) (record {
        done = ds;
        acked = length ds;
        faults = faults;
        with_last = faults;
        counts = record { numbers = numbers; last = inl refl; counted = λ other. counts.counted; disk = λ is. absurd (sound is) };
        line_cut = λ other. absurd (other refl);
        for_good = λ is. absurd (sound is);
        is_done = some.is_done;
        tells =
            tells_line h.machine bytes before (with_taken mid taken) read ds faults n came (some.is_done.spoken (subst AreSpoken e spoken)) some.is_done.as_many numbers
            (Appends-trans before.taken mid.taken taken (replies_but h.machine ds faults) (take n (bad_line (length read + 1))) some.performed.out part) all short undone unfailed unspelled;
        leaves =
            subst (λ l. LeavesScript h.machine (one_begun_on h (length ds) faults came l) came before.session mid.session) (append-nil ds)
            (keeps_front h ds [] faults came before.session mid.session numbers some.performed.stands (ap (λ l. performed came (length ds) (length l)) (append-nil ds) ∙ same (length ds)));
        clearing = λ origin next right.
            subst (λ w. MayHaveCleared origin w came mid.session) (sym (acked_on h ds [] faults numbers) ∙ ap (λ l. marks_on h l faults (length ds) (length ds)) (append-nil ds))
            (not_cleared origin (all_answered (unfaulted faults ds) h) came mid.session some.performed.stands.keeps);
        mark =
            subst (λ l. ChangeMark (begun_of (length ds) faults l) before.session.disk mid.session.disk) (append-nil read)
            (begun_front read [] faults counts.numbers (length ds) some.is_done.as_many before.session.disk mid.session.disk mark);
        syncs =
            subst (λ l. SyncsFor (take (length ds + 1) l) before.disk_counts mid.disk_counts) (append-nil read)
            (syncs_front read [] (length ds + 1) before.disk_counts mid.disk_counts (omega (arith, some.is_done.as_many)) syncs);
      })

  module _ (now : Progress) (cs read rest : List Command) (c : Command) (faults : List ℕ) (f : StoreFault) (e : cs ≡ (read ++ c ∷ []) ++ rest) (spoken : AreSpoken cs) (numbered : AreFaults (length read) faults) where
    -- one more was begun
    ran_cut : (f ≡ fault.Disk → FailedTimes (suc (length faults)) before now) → (f ≢ fault.Disk → FailedTimes (length faults) before now) → ChangeMarkBut faults (read ++ c ∷ []) before now → SyncsFor (read ++ c ∷ []) before.disk_counts now.disk_counts → SomeCutOff read faults c f h before now
        → ScriptIsRun h bytes cs (status_in (Err f)) before now
    ran_cut disk calm mark syncs some =
        let ds : List Command = some.done in
        let d : Command = some.last in
        let all : List Command = (read ++ c ∷ []) ++ rest in
        let numbers = subst (λ n. AreFaults n faults) (sym some.as_long) numbered in
        let numbers_on = faults_are_within (length ds) (length (ds ++ d ∷ [])) faults (omega (arith, length-append ds (d ∷ []))) numbers in
        let others = done_kept_rest before.session h.machine (read ++ c ∷ []) (ds ++ d ∷ []) faults some.is_done numbers_on rest in
        subst (λ l. ScriptIsRun h bytes l (status_in (Err f)) before now) (sym e) (record {
          done = ds ++ d ∷ others.0;
          acked = length ds;
          faults = faults;
          with_last = faults;
          counts = record {
            numbers = numbers;
            last = inl refl;
            counted = λ sound. calm (λ is. sound (ap (λ x. status_in (Err x)) is));
            disk = λ is. disk (is_disk f is);
          };
          line_cut = λ other. absurd (other refl);
          is_done = subst (λ l. DoneForKept before.session h.machine all l faults) (append_assoc ds (d ∷ []) others.0) others.1.0;
          tells = tells_cut h.machine bytes before now all ds others.0 d faults (status_in (Err f)) (subst AreSpoken (append_assoc ds (d ∷ []) others.0) (others.1.0.spoken (subst AreSpoken e spoken))) numbers some.cut_off.cut (not_done f) (not_script f) (not_source f);
          for_good = λ is. some.cut_off.for_good others.0 (is_disk f is);
          leaves = keeps_cut h ds others.0 d faults numbers f before.session now.session some.cut_off.safe some.cut_off.effect;
          clearing = λ origin next right.
              subst (λ w. MayHaveCleared origin w (status_in (Err f)) now.session) (sym (acked_on h ds (d ∷ others.0) faults numbers))
              (some.clearing origin (next_is read rest c (length ds) some.as_long (ClearOrigin origin) next)
              (subst (λ l. AreRight (unfaulted faults l) before.session h.machine) (take-append_seam ds (d ∷ others.0)) right));
          mark = begun_next read rest faults numbered (length ds) some.as_long before.session.disk now.session.disk c mark;
          syncs = syncs_front (read ++ c ∷ []) rest (length ds + 1) before.disk_counts now.disk_counts (omega (arith, some.as_long, length-append read (c ∷ []))) syncs;
        })

    -- one more was to be answered `fault`
    ran_fault_cut : {tells : Bool} → FailsInLine tells read faults f before now → ChangeMarkBut faults read before now → SyncsFor (read ++ c ∷ []) before.disk_counts now.disk_counts → SomeFaultCut read faults h before now → ScriptIsRun h bytes cs (status_in (Err f)) before now
    ran_fault_cut line mark syncs some =
        let ds : List Command = some.done in
        let all : List Command = (read ++ c ∷ []) ++ rest in
        let numbers = subst (λ n. AreFaults n faults) (sym some.is_done.as_many) numbered in
        let with_c : List ℕ = with_next (length ds) faults in
        let others = done_kept_rest before.session h.machine (read ++ c ∷ []) (ds ++ c ∷ []) with_c (done_kept_but before.session h.machine read ds faults some.is_done numbers c) (next_numbers ds c faults numbers) rest in
        subst (λ l. ScriptIsRun h bytes l (status_in (Err f)) before now) (sym e) (record {
          done = ds ++ c ∷ others.0;
          acked = length ds;
          faults = faults;
          with_last = with_c;
          counts = record {
            numbers = numbers;
            last = inr refl;
            counted = λ other. subst (λ k. FailedTimes k before now) (one_longer faults (suc (length ds))) line.counted;
            disk = λ is. absurd (line.no_disk (is_disk f is));
          };
          line_cut = λ other. (omega (arith, some.is_done.as_many, length-append read (c ∷ []), length-append (read ++ c ∷ []) rest), line_ends f line.no_disk);
          is_done = subst (λ l. DoneForKept before.session h.machine all l with_c) (append_assoc ds (c ∷ []) others.0) others.1.0;
          tells = tells_fault_cut h.machine bytes before now all ds others.0 c faults (status_in (Err f)) (subst AreSpoken (append_assoc ds (c ∷ []) others.0) (others.1.0.spoken (subst AreSpoken e spoken))) numbers some.cut (not_done f) (not_script f) (not_source f);
          for_good = λ is. absurd (line.no_disk (is_disk f is));
          leaves = keeps_fault_cut h ds others.0 c faults numbers f before.session now.session some.stands;
          clearing = λ origin next right.
              subst (λ w. MayHaveCleared origin w (status_in (Err f)) now.session) (sym (acked_on h ds (c ∷ others.0) faults numbers))
              (not_cleared origin (all_answered (unfaulted faults ds) h) (status_in (Err f)) now.session some.stands.keeps);
          mark = begun_but_next read rest faults numbered (length ds) some.is_done.as_many before.session.disk now.session.disk c mark;
          syncs = syncs_front (read ++ c ∷ []) rest (length ds + 1) before.disk_counts now.disk_counts (omega (arith, some.is_done.as_many, length-append read (c ∷ []))) syncs;
        })

-- ---- by how they ended

-- no command was read
pub ran_nothing : (came : Result Status StoreFault) (before : Progress) → IsErrAnd came (λ f. f ≡ fault.Memory) → PerformsScript came before before
ran_nothing (Ok e) before is = absurd is
ran_nothing (Err f) before is = subst (λ x. PerformsScript (Err x) before before) (sym is) (go before.source.left)
  where
    go : (left : Option (List ℕ)) → PerformsScript (Err fault.Memory) (with_left before left) (with_left before left)
    go None = record { each = tt }
    go (Some bytes) = record {
      each = λ h cs keeps found.
          ran_front bytes h before (with_left before (Some bytes)) cs [] cs [] status.Memory refl (script_is_spoken cs found.front.commands) (record { numbers = tt; counted = refl })
          (none_change_mark [] before.session.disk before.session.disk refl) (omega arith) (record {
            done = [];
            is_done = record { as_many = refl; spoken = λ spoken. spoken; are_done = tt };
            performed = record { stands = leads_none before.session h keeps; out = Appends-nil before.taken };
          }) (λ e. absurd (cc e)) (λ e. absurd (cc e)) (λ e. absurd (cc e)) (λ e. absurd (cc e)) (λ e. absurd (cc e)) (λ a n. refl);
    }

module _ (before : Progress) where
  pub ran_whole : (now : Progress) → PerformsToEnd true ended.Whole before now → PerformsScript (Ok status.Done) before now
  ran_whole now = go before.source.left
    where
      go : (left : Option (List ℕ)) → PerformsToEnd true ended.Whole (with_left before left) now → PerformsScript (Ok status.Done) (with_left before left) now
      go None p = record { each = tt }
      go (Some bytes) p = record {
        each = λ h cs keeps found.
            let ds : List Command = p.commands in
            ran_front bytes h before now cs ds [] p.faults status.Done (commands_are_one bytes cs ds found (whole_is_longest bytes ds p.ends.1) ∙ sym (append-nil ds)) (script_is_spoken cs found.front.commands) p.counts
            (p.mark refl) (p.syncs refl) ((p.performs refl).each h keeps) (λ e. refl) (λ e. absurd (cc e)) (λ e. absurd (cc e)) (λ e. absurd (cc e)) (λ e. absurd (cc e)) (λ a n. refl);
      }

  pub ran_failed : (now : Progress) → PerformsToEnd true ended.Failed before now → PerformsScript (Ok status.Source) before now
  ran_failed now = go before.source.left
    where
      go : (left : Option (List ℕ)) → PerformsToEnd true ended.Failed (with_left before left) now → PerformsScript (Ok status.Source) (with_left before left) now
      go None p = record { each = tt }
      go (Some bytes) p = record {
        each = λ h cs keeps found.
            let first = taken_first bytes now.source.left cs p.commands found p.ends in
            ran_front bytes h before now cs p.commands first.0 p.faults status.Source first.1 (script_is_spoken cs found.front.commands) p.counts (p.mark refl) (p.syncs refl) ((p.performs refl).each h keeps) (λ e. absurd (cc e)) (λ e. absurd (cc e)) (λ e. absurd (cc e))
            (λ e. absurd (cc e)) (λ e. p.ends) (λ a n. refl);
      }

  pub ran_bad : (mid : Progress) (taken : Option (List ℕ)) (n : ℕ) → PerformsToEnd true (ended.Bad n) before mid → Appends mid.taken taken (bad_line n) → PerformsScript (Ok status.Script) before (with_taken mid taken)
  ran_bad mid taken n p said = go before.source.left p
    where
      go : (left : Option (List ℕ)) → PerformsToEnd true (ended.Bad n) (with_left before left) mid → PerformsScript (Ok status.Script) (with_left before left) (with_taken mid taken)
      go None p = record { each = tt }
      go (Some bytes) p = record {
        each = λ h cs keeps found.
            let ds : List Command = p.commands in
            let text : List ℕ = bad_line (length ds + 1) in
            let whole : take (length text) text ≡ text = take_all (length text) text (omega arith) in
            ran_line bytes h before mid taken cs ds p.faults (length text) status.Script (commands_are_one bytes cs ds found p.ends.1.0) (script_is_spoken cs found.front.commands) p.counts (p.mark refl) (p.syncs refl) ((p.performs refl).each h keeps)
            (subst (Appends mid.taken taken) (ap bad_line p.ends.0 ∙ sym whole) said) (λ e. whole) (λ e. absurd (cc e)) (λ e. absurd (cc e)) (λ e. absurd (cc e)) (λ e. absurd (cc e)) p.ends.1.1 (λ a. refl);
      }

  -- the line was cut
  pub ran_bad_cut : (mid : Progress) (taken : Option (List ℕ)) (n : ℕ) (came : Result Status StoreFault) (f : StoreFault) → IsErrAnd came (λ x. x ≡ f) → PerformsToEnd true (ended.Bad n) before mid
      → IsCut mid.taken taken (bad_line n) → f ≢ fault.Disk → PerformsScript came before (with_taken mid taken)
  ran_bad_cut mid taken n (Ok x) f is p cut sound = absurd is
  ran_bad_cut mid taken n (Err x) f is p cut sound = go before.source.left p
    where
      go : (left : Option (List ℕ)) → PerformsToEnd true (ended.Bad n) (with_left before left) mid → PerformsScript (Err x) (with_left before left) (with_taken mid taken)
      go None p = record { each = tt }
      go (Some bytes) p = record {
        each = λ h cs keeps found.
            let ds : List Command = p.commands in
            ran_line bytes h before mid taken cs ds p.faults cut.0 (status_in (Err x)) (commands_are_one bytes cs ds found p.ends.1.0) (script_is_spoken cs found.front.commands) p.counts (p.mark refl) (p.syncs refl) ((p.performs refl).each h keeps)
            (subst (λ k. Appends mid.taken taken (take cut.0 (bad_line k))) p.ends.0 cut.1.1) (λ e. absurd (not_script x e)) (λ e. subst (λ k. cut.0 < length (bad_line k)) p.ends.0 cut.1.0) (not_done x) (not_source x) (λ e. sound (sym is ∙ is_disk x e)) p.ends.1.1 (none_more x);
      }

  pub ran_broke : (now : Progress) (came : Result Status StoreFault) (fault : StoreFault) → IsErrAnd came (λ f. f ≡ fault) → FailsMidway true fault before now → PerformsScript came before now
  ran_broke now (Ok x) fault is b = absurd is
  ran_broke now (Err x) fault is b = go before.source.left (subst (λ y. FailsMidway true y before now) (sym is) b)
    where
      go : (left : Option (List ℕ)) → FailsMidway true x (with_left before left) now → PerformsScript (Err x) (with_left before left) now
      go None b = record { each = tt }
      go (Some bytes) b = record {
        each = λ h cs keeps found.
            let first = front_is_first bytes b.front.0 cs (b.commands ++ b.last ∷ []) found b.front.1 in
            elim b.fails [
              | inl fails ↦ ran_cut bytes h before now cs b.commands first.0 b.last b.faults x first.1 (script_is_spoken cs found.front.commands) b.numbers fails.disk fails.calm (fails.mark refl) (b.syncs refl) ((fails.each refl).each h keeps)
              | inr line ↦ ran_fault_cut bytes h before now cs b.commands first.0 b.last b.faults x first.1 (script_is_spoken cs found.front.commands) b.numbers line (line.mark refl) (b.syncs refl) ((line.each refl).each h keeps)
            ];
      }
