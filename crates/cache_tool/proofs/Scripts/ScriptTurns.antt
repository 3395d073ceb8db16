-- What is performed of a script, turn by turn.
use Rattle.std.proofs.Common.{◌≡◌, ◌⊎◌, inl, inr, ⊎_elim, ℕ, suc, ◌+◌, ◌<◌, List, [], ◌∷◌, ◌++◌, length, take, Option, None, Some, Result, Ok, Err, IsErrAnd, refl, sym, ap, subst, ◌∙◌, arith, append-nil, length-append}
use Rattle.std.specs.Io.KnownBytes.{Appends}
use Rattle.std.specs.Prelude.{Bool, IfSome, IsTrue, slice_get}
use Rattle.std.proofs.KnownBytes.{Appends-nil, Appends-trans}
use Rattle.std.proofs.Math.Seq.{take-append_seam}
use Rattle.cache_script.specs.Command.{command_of}
use Rattle.cache_script.specs.Reader.{BreaksOff, Ends, Gives, IsBadScript, LeavesReader, given_in, held_in, rest_of, used_in}
use Rattle.cache_script.specs.declared.command.Command.{Command as Given}
use Rattle.cache_script.specs.declared.reader.Reader.{Reader}
use Rattle.cache_script.specs.declared.reader.ScriptFault.{ScriptFault}
use Rattle.cache_base.specs.Causes.{RoseOnce}
use Rattle.cache_store.specs.AtClear.{ChangesAtClear}
use Rattle.cache_store.specs.Clearing.{origin_cleared}
use Rattle.cache_store.specs.DoneFor.{IsDoneFor}
use Rattle.cache_store.specs.Faulting.{FailsForGood, SendsReplyFront, StaysAs}
use Rattle.cache_store.specs.Open.{KeepsTo, Tells}
use Rattle.cache_store.specs.Performing.{ComesToTell, PerformsAndKeeps, PerformsFor}
use Rattle.cache_replies.specs.Said.{IsCut}
use Rattle.cache_store.specs.Session.{cache_of}
use Rattle.cache_replies.specs.declared.verdict.Verdict.{Verdict}
use Rattle.cache_store.specs.StoppedClearing.{ClearsUnderMark}
use Rattle.cache_store.specs.declared.fault.StoreFault.{StoreFault}
use Rattle.cache_store.specs.declared.fault.StoreFault.TheVariants as fault
use Rattle.cache_store.proofs.Performing.Represented.{represents}
use Rattle.cache_theory.specs.Command.{Command}
use Rattle.cache_theory.specs.Faulted.{AreFaults, fault_line, replies_but, unfaulted, with_next}
use Rattle.cache_theory.specs.History.{History, acked, unanswered}
use Rattle.cache_theory.specs.Machine.{Machine}
use Rattle.cache_theory.specs.Step.{after, step}
use Rattle.cache_theory.specs.Text.{IsSpoken, reply_text, script_bytes}
use Rattle.cache_theory.proofs.Faults.RepliesApart.{step_spoken}
use Rattle.cache_theory.proofs.Faults.FaultedOn.{faults_are_in_front, faults_are_within, next_may_fault}
use Rattle.cache_tool.specs.MarkLeft.{ChangeMark}
use Rattle.cache_tool.specs.Syncs.{SyncsFor, SyncsWithin}
use Rattle.cache_tool.proofs.SyncLaws.{syncs_next}
use Rattle.cache_store.specs.Syncs.{most_syncs}
use Rattle.cache_tool.specs.Right.{LeadTo, has_rebuild}
use Rattle.cache_tool.specs.ScriptProgress.{AreRead, ArePerformed, DoneForKept, EndsScript, FailsAfter, FailsInLine, FailsInReply, FailedTimes, FaultsAfter, HasPerformed, IsCutOff, PerformsAll, PerformsNext, all_answered, ChangeMarkBut}
use Rattle.cache_tool.specs.Staying.{StaysFor, StaysOnce}
use Rattle.cache_tool.specs.Statuses.{status_in}
use Rattle.cache_tool.specs.Verbs.{SendsNextFront}
use Rattle.cache_tool.specs.World.{Progress, Supply, sitting_of}
use Rattle.cache_tool.specs.declared.script.ScriptEnd.{ScriptEnd}
use Rattle.cache_tool.specs.declared.script.ScriptEnd.TheVariants as ended
use Rattle.cache_tool.proofs.Answering.{AnswersByFault, AnswersByReply, AnswersNext}
use Rattle.cache_tool.proofs.Clearings.{cleared_by, closes_after}
use Rattle.cache_tool.proofs.Counting.{raised_more}
use Rattle.cache_tool.proofs.DoneKept.{done_kept_but, done_kept_on}
use Rattle.cache_tool.proofs.DoneLaws.{done_rebuild, done_right, done_spoken, done_where, script_is_spoken, spoken_parts}
use Rattle.cache_tool.proofs.FaultedParts.{next_numbers, one_longer}
use Rattle.cache_tool.proofs.ForGood.{no_resume, stops_for_good}
use Rattle.cache_tool.proofs.MarkLeft.{but_next, kept_next, next_changes_mark, none_change_mark, same_changes_mark, may_mark}
use Rattle.cache_tool.proofs.Moments.{with_source}
use Rattle.cache_tool.proofs.RightLaws.{leads_none, leads_on, leads_one, leads_still}
use Rattle.cache_tool.proofs.StayingLaws.{stays_done}
use Rattle.cache_tool.proofs.Scripts.ScriptBytes.{more_length, nothing_read, read_bad, read_front, read_on, read_taken, read_whole}
use Rattle.disk_theory.specs.Calls.{LastCallFails, LastFails, LastLookFails}
use Rattle.disk_theory.specs.State.{standing}
use Rattle.disk_theory.specs.declared.place.Place.TheVariants.{Clear}
use Rattle.index_map.specs.Known.{SameBase}

-- the machine after some commands and one more
pub after_more : (m : Machine) (cs : List Command) (c : Command) → after m (cs ++ c ∷ []) ≡ (step (after m cs) c).next
after_more m [] c = refl
after_more m (d ∷ cs) c = after_more (step m d).next cs c

-- the next one stands after the first
pub next_at : (ds : List Command) (d : Command) (more : List Command) → slice_get (ds ++ d ∷ more) (length ds) ≡ Some d
next_at [] d more = refl
next_at (e ∷ ds) d more = next_at ds d more

-- and so the history
answered_more : (cs : List Command) (c : Command) (h : History) → all_answered (cs ++ c ∷ []) h ≡ acked c (all_answered cs h)
answered_more [] c h = refl
answered_more (d ∷ cs) c h = answered_more cs c (acked d h)

-- the answers to these are out, and then a front of the reply to the next one
sends_next : (m : Machine) (ds : List Command) (d : Command) (more : List Command) (faults : List ℕ) (before mid now : Option (List ℕ)) → Appends before mid (replies_but m ds faults)
    → SendsReplyFront d (after m (unfaulted faults ds)) mid now → SendsNextFront m (ds ++ d ∷ more) (length ds) faults before now
sends_next m ds d more faults before mid now out sends =
    let seam : ds ≡ take (length ds) (ds ++ d ∷ more) = sym (take-append_seam ds (d ∷ more)) in
    record {
      next = d;
      is_next = next_at ds d more;
      mid = mid;
      answers = subst (λ l. Appends before mid (replies_but m l faults)) seam out;
      front = subst (λ l. SendsReplyFront d (after m (unfaulted faults l)) mid now) seam sends;
    }

module _ (before : Progress) where
  -- nothing was performed
  none_performed : PerformsAll [] [] before before
  none_performed = record {
    each = λ h keeps. record {
      done = [];
      is_done = record { as_many = refl; spoken = λ spoken. spoken; are_done = tt };
      performed = record { stands = leads_none before.session h keeps; out = Appends-nil before.taken };
    };
  }

  -- for a history: this was done so far, and then one thing more
  module _ (mid now : Progress) (ds : List Command) (d : Command) (faults : List ℕ) (numbers : AreFaults (length ds) faults) (h : History) (so_far : ArePerformed ds faults h before mid) where
    -- what was kept of it
    abbrev kept : List Command
    kept = unfaulted faults ds

    -- it leads on to a history
    one_leads : (g : History) → KeepsTo now.session g → (ComesToTell d mid.session (after h.machine kept) → Tells now.session g.machine) → StaysOnce d mid.session (after h.machine kept) now.session
        → LeadTo (kept ++ d ∷ []) before.session h.machine now.session g
    one_leads g keeps tells stays =
        leads_on kept (d ∷ []) before.session h.machine mid.session (all_answered kept h) now.session g refl so_far.stands (leads_one d mid.session (after h.machine kept) now.session g keeps tells stays)

    -- after the answers so far this went out
    one_out : (text : List ℕ) → Appends mid.taken now.taken text → Appends before.taken now.taken (replies_but h.machine ds faults ++ text)
    one_out text out = Appends-trans before.taken mid.taken now.taken (replies_but h.machine ds faults) text so_far.out out

    -- where it is done for a command, all of this is done for the commands so far and this one
    one_done : (cs : List Command) (c : Command) → DoneForKept before.session h.machine cs ds faults → IsDoneFor (Tells mid.session (after h.machine kept)) c (after h.machine kept) d
        → DoneForKept before.session h.machine (cs ++ c ∷ []) (ds ++ d ∷ []) faults
    one_done cs c so is = done_kept_on before.session h.machine cs ds faults so numbers (c ∷ []) (d ∷ []) refl (done_where right c (after h.machine kept) d is, tt)
      where
        right : Tells before.session h.machine ⊎ IsTrue (has_rebuild (unfaulted faults cs)) → Tells mid.session (after h.machine kept)
        right (inl told) = so_far.stands.tells (inl told)
        right (inr rebuilt) = so_far.stands.tells (inr (sym (done_rebuild (Tells before.session h.machine) h.machine (unfaulted faults cs) kept so.are_done) ∙ rebuilt))

    -- it was performed
    went_on : (o : Verdict) → PerformsAndKeeps d (all_answered kept h) (Ok o) mid.session now.session mid.taken now.taken → StaysOnce d mid.session (after h.machine kept) now.session
        → ArePerformed (ds ++ d ∷ []) faults h before now
    went_on o next stays =
        let goes = faults_are_in_front h.machine ds (d ∷ []) faults numbers in
        record {
          stands = subst (λ l. LeadTo l before.session h.machine now.session (all_answered l h)) (sym goes.kept)
              (subst (λ x. LeadTo (kept ++ d ∷ []) before.session h.machine now.session x) (sym (answered_more kept d h))
              (one_leads (acked d (all_answered kept h)) next.keeps.next (next.performs.tells tt) stays));
          out = subst (Appends before.taken now.taken) (sym (goes.replies ∙ ap (λ l. replies_but h.machine ds faults ++ l) (append-nil (reply_text (step (after h.machine kept) d).reply))))
              (one_out (reply_text (step (after h.machine kept) d).reply) next.performs.printed);
        }

    -- it failed
    broke_off : (f : StoreFault) → IsSpoken d → PerformsAndKeeps d (all_answered kept h) (Err f) mid.session now.session mid.taken now.taken → (f ≡ fault.Sink → StaysOnce d mid.session (after h.machine kept) now.session)
        → (f ≡ fault.Disk → LastFails now.disk_counts ⊎ (LastLookFails now.disk_counts × SendsReplyFront d (after h.machine kept) mid.taken now.taken)) → IsCutOff ds faults d f h before now
    broke_off f spoken next stays good = record {
      safe = next.keeps.safe;
      cut =
          let tail = next.performs.cut (step_spoken (after h.machine kept) d spoken) in
          record { cut = tail.0; short = tail.1.0; out = one_out (take tail.0 (reply_text (step (after h.machine kept) d).reply)) tail.1.1 };
      effect = λ sink. one_leads (unanswered d (all_answered kept h)) (next.keeps.unanswered sink) (next.performs.tells sink) (stays sink);
      for_good = λ more disk. ⊎_elim (λ last. inl last) (λ sends. inr (sends.0, sends_next h.machine ds d more faults before.taken mid.taken now.taken so_far.out sends.1)) (good disk);
    }

    -- the disk failed in a look, and all is as it was
    module _ (stays : StaysAs mid.session now.session) (base : SameBase mid.session.open_store.index.map now.session.open_store.index.map) where
      still_leads : LeadTo kept before.session h.machine now.session (all_answered kept h)
      still_leads = leads_still kept before.session h.machine mid.session now.session (all_answered kept h) so_far.stands stays base

      -- so it was answered by the line
      faulted_on : Appends mid.taken now.taken fault_line → ArePerformed (ds ++ d ∷ []) (with_next (length ds) faults) h before now
      faulted_on said =
          let next = next_may_fault h.machine ds d faults numbers in
          record {
            stands = subst (λ l. LeadTo l before.session h.machine now.session (all_answered l h)) (sym next.kept) still_leads;
            out = subst (Appends before.taken now.taken) (sym next.replies)
                (Appends-trans before.taken mid.taken now.taken (replies_but h.machine ds faults) fault_line so_far.out said);
          }

      -- or by a part of it
      faulted_off : IsCut mid.taken now.taken fault_line
          → (n : ℕ) × ((n < length fault_line) × Appends before.taken now.taken (replies_but h.machine ds faults ++ take n fault_line))
      faulted_off (n, (short, out)) = (n, (short, Appends-trans before.taken mid.taken now.taken (replies_but h.machine ds faults) (take n fault_line) so_far.out out))

  -- one command more was performed
  module _ (mid now : Progress) (cs : List Command) (c : Command) (faults : List ℕ) (numbers : AreFaults (length cs) faults) (performs : PerformsAll cs faults before mid) where
    one_performed : (o : Verdict) → PerformsFor c (Ok o) mid.session now.session mid.taken now.taken → StaysFor {T = Verdict} c (Ok o) mid.session now.session → PerformsAll (cs ++ c ∷ []) faults before now
    one_performed o next stays = record {
      each = λ h keeps.
          let some = performs.each h keeps in
          let stands = some.performed.stands.keeps in
          let at = after h.machine (unfaulted faults some.done) in
          let numbers_done = subst (λ n. AreFaults n faults) (sym some.is_done.as_many) numbers in
          let does = next.crash (all_answered (unfaulted faults some.done) h) stands in
          let did = done_right mid.session c at does.0 does.1.0 in
          let stays_once = stays_done (Tells mid.session at) c mid.session at now.session does.0 did (stays at (represents stands) tt) in
          record {
            done = some.done ++ does.0 ∷ [];
            is_done = one_done mid now some.done does.0 faults numbers_done h some.performed cs c some.is_done did;
            performed = went_on mid now some.done does.0 faults numbers_done h some.performed o does.1.1 stays_once;
          };
    }

    -- it failed
    one_failed : (f : StoreFault) → IsSpoken c → PerformsFor c (Err f) mid.session now.session mid.taken now.taken → StaysFor {T = Verdict} c (Err f) mid.session now.session
        → (f ≡ fault.Disk → LastCallFails now.disk_counts × FailsForGood now.disk_counts c (cache_of mid.session) mid.taken now.taken)
        → IfSome (origin_cleared c (standing mid.session.disk Clear)) (λ origin. ClearsUnderMark origin mid.session now.session.disk) → FailsAfter cs faults c f before now
    one_failed f spoken next stays good stopped = record {
      each = λ h keeps.
          let some = performs.each h keeps in
          let stands = some.performed.stands.keeps in
          let at = after h.machine (unfaulted faults some.done) in
          let numbers_done = subst (λ n. AreFaults n faults) (sym some.is_done.as_many) numbers in
          let does = next.crash (all_answered (unfaulted faults some.done) h) stands in
          let did = done_right mid.session c at does.0 does.1.0 in
          let stays_once : f ≡ fault.Sink → StaysOnce does.0 mid.session at now.session = λ sink. stays_done (Tells mid.session at) c mid.session at now.session does.0 did (stays at (represents stands) sink) in
          record {
            done = some.done;
            last = does.0;
            is_done = one_done mid now some.done does.0 faults numbers_done h some.performed cs c some.is_done did;
            as_long = some.is_done.as_many;
            cut_off = broke_off mid now some.done does.0 faults numbers_done h some.performed f (done_spoken (Tells mid.session at) c at does.0 did spoken) does.1.1 stays_once
                (λ disk. stops_for_good (Tells mid.session at) c at does.0 did now.disk_counts mid.taken now.taken (cache_of mid.session) (represents stands).stands (good disk).0 (good disk).1);
            clearing = λ origin clears right.
                cleared_by origin (all_answered (unfaulted faults some.done) h) mid.session now.session stands (some.performed.stands.tells right) does.0 (subst (λ x. IsDoneFor (Tells mid.session at) x at does.0) clears did) (Err f) (status_in (Err f))
                (subst (λ x. IfSome (origin_cleared x (standing mid.session.disk Clear)) (λ o. ClearsUnderMark o mid.session now.session.disk)) clears stopped) does.1.1.keeps (closes_after f);
          };
    }

    -- it was answered by the line
    module _ (stays : StaysAs mid.session now.session) (base : SameBase mid.session.open_store.index.map now.session.open_store.index.map) where
      one_faulted : Appends mid.taken now.taken fault_line → PerformsAll (cs ++ c ∷ []) (with_next (length cs) faults) before now
      one_faulted said = record {
        each = λ h keeps.
            let some = performs.each h keeps in
            let numbers_done = subst (λ n. AreFaults n faults) (sym some.is_done.as_many) numbers in
            record {
              done = some.done ++ c ∷ [];
              is_done = subst (λ n. DoneForKept before.session h.machine (cs ++ c ∷ []) (some.done ++ c ∷ []) (with_next n faults)) some.is_done.as_many (done_kept_but before.session h.machine cs some.done faults some.is_done numbers_done c);
              performed = subst (λ n. ArePerformed (some.done ++ c ∷ []) (with_next n faults) h before now) some.is_done.as_many (faulted_on mid now some.done c faults numbers_done h some.performed stays base said);
            };
      }

      -- or by a part of it
      one_faulted_cut : IsCut mid.taken now.taken fault_line → FaultsAfter cs faults before now
      one_faulted_cut cut = record {
        each = λ h keeps.
            let some = performs.each h keeps in
            let numbers_done = subst (λ n. AreFaults n faults) (sym some.is_done.as_many) numbers in
            record {
              done = some.done;
              is_done = some.is_done;
              stands = still_leads mid now some.done c faults numbers_done h some.performed stays base;
              cut = faulted_off mid now some.done c faults numbers_done h some.performed stays base cut;
            };
      }

-- ---- one turn

-- what a call of the reader leaves
pub gives_one : (r q : Reader) (left now : Option (List ℕ)) (answer : Result (Option Given) ScriptFault) (o : Option Given) (c : Given) → answer ≡ Ok o → o ≡ Some c → LeavesReader r q left now answer
    → Gives r q left now (command_of c)
gives_one r q left now answer o c is some leaves = subst (λ a. LeavesReader r q left now a) (is ∙ ap Ok some) leaves

pub gives_none : (r q : Reader) (left now : Option (List ℕ)) (answer : Result (Option Given) ScriptFault) (o : Option Given) → answer ≡ Ok o → o ≡ None → LeavesReader r q left now answer
    → Ends r q left now
gives_none r q left now answer o is none leaves = subst (λ a. LeavesReader r q left now a) (is ∙ ap Ok none) leaves

pub starts : (tells : Bool) (r : Reader) (before : Progress) → held_in r ≡ [] → given_in r ≡ 0 → used_in r ≡ 0 → HasPerformed tells r before before
starts tells r before held given used = record {
  commands = [];
  read = nothing_read before.source.left (held_in r) held;
  given = given;
  used = used;
  faults = [];
  counts = record { numbers = tt; counted = refl };
  performs = λ told. none_performed before;
  mark = λ told. none_change_mark [] before.session.disk before.session.disk refl;
  syncs = λ told. omega arith;
}

module _ (tells : Bool) (r q : Reader) (mid now : Progress) (c : Command) (gives : Gives r q mid.source.left now.source.left c)
    (at_clear : IsTrue tells → ChangesAtClear c mid.session.disk now.session.disk)
    (clearing : IsTrue tells → IfSome (origin_cleared c (standing mid.session.disk Clear)) (λ origin. ClearsUnderMark origin mid.session now.session.disk)) (synced : IsTrue tells → SyncsWithin (most_syncs c) mid.disk_counts now.disk_counts) where
  module _ (before : Progress) (goes : HasPerformed tells r before mid) where
    -- this was read so far
    so_read : AreRead before.source.left now.source.left (goes.commands ++ c ∷ []) (held_in q)
    so_read = read_on r q before.source.left mid.source.left now.source.left goes.commands c goes.read goes.used gives

    so_given : given_in q ≡ length (goes.commands ++ c ∷ [])
    so_given = omega (arith, goes.given, gives.given, length-append goes.commands (c ∷ []))

    so_used : used_in q ≡ length (script_bytes (goes.commands ++ c ∷ []))
    so_used = gives.used ∙ omega (arith, goes.used, more_length goes.commands c)

    still_counted : now.disk_faults ≡ mid.disk_faults → FailedTimes (length goes.faults) before now
    still_counted calm = calm ∙ goes.counts.counted

    once_more : RoseOnce mid.disk_faults now.disk_faults → FailedTimes (suc (length goes.faults)) before now
    once_more rose = raised_more (length goes.faults) before.disk_faults mid.disk_faults now.disk_faults rose goes.counts.counted

    more_numbers : AreFaults (length (goes.commands ++ c ∷ [])) goes.faults
    more_numbers = faults_are_within (length goes.commands) (length (goes.commands ++ c ∷ [])) goes.faults (omega (arith, length-append goes.commands (c ∷ []))) goes.counts.numbers

    -- its reply is printed
    spoken_next : IsSpoken c
    spoken_next = (spoken_parts goes.commands (c ∷ []) (script_is_spoken (goes.commands ++ c ∷ []) so_read.commands)).1.0

    -- it has begun
    begun_mark : IsTrue tells → ChangeMarkBut goes.faults (goes.commands ++ c ∷ []) before now
    begun_mark told =
        subst (λ l. ChangeMark l before.session.disk now.session.disk) (sym (kept_next goes.commands c goes.faults goes.counts.numbers))
        (next_changes_mark (unfaulted goes.faults goes.commands) c before.session.disk mid.session.disk now.session.disk spoken_next (goes.mark told)
        (may_mark c mid.session.disk now.session.disk (at_clear told)))

    begun_syncs : IsTrue tells → SyncsFor (goes.commands ++ c ∷ []) before.disk_counts now.disk_counts
    begun_syncs told = syncs_next goes.commands c before.disk_counts mid.disk_counts now.disk_counts (goes.syncs told) (synced told)

    -- or it changed nothing
    left_mark : (IsTrue tells → StaysAs mid.session now.session) → IsTrue tells → ChangeMarkBut goes.faults goes.commands before now
    left_mark stays told = same_changes_mark (unfaulted goes.faults goes.commands) before.session.disk mid.session.disk now.session.disk (stays told).disk (goes.mark told)

  -- a command was performed
  replied_on : (o : Verdict) → (IsTrue tells → PerformsFor c (Ok o) mid.session now.session mid.taken now.taken) → (IsTrue tells → StaysFor {T = Verdict} c (Ok o) mid.session now.session)
      → now.disk_faults ≡ mid.disk_faults → PerformsNext tells (Ok None) r q mid now
  replied_on o performs stays calm = record {
    on = λ before goes. record {
      commands = goes.commands ++ c ∷ [];
      read = so_read before goes;
      given = so_given before goes;
      used = so_used before goes;
      faults = goes.faults;
      counts = record { numbers = more_numbers before goes; counted = still_counted before goes calm };
      performs = λ told. one_performed before mid now goes.commands c goes.faults goes.counts.numbers (goes.performs told) o (performs told) (stays told);
      mark = begun_mark before goes;
      syncs = begun_syncs before goes;
    };
  }

  -- it was answered by the line
  faulted_turn : RoseOnce mid.disk_faults now.disk_faults → (IsTrue tells → StaysAs mid.session now.session) → SameBase mid.session.open_store.index.map now.session.open_store.index.map
      → Appends mid.taken now.taken fault_line → PerformsNext tells (Ok None) r q mid now
  faulted_turn rose stays base said = record {
    on = λ before goes. record {
      commands = goes.commands ++ c ∷ [];
      read = so_read before goes;
      given = so_given before goes;
      used = so_used before goes;
      faults = with_next (length goes.commands) goes.faults;
      counts = record {
        numbers = next_numbers goes.commands c goes.faults goes.counts.numbers;
        counted = subst (λ n. FailedTimes n before now) (one_longer goes.faults (suc (length goes.commands))) (once_more before goes rose);
      };
      performs = λ told. one_faulted before mid now goes.commands c goes.faults goes.counts.numbers (goes.performs told) (stays told) base said;
      mark = λ told. subst (λ l. ChangeMark l before.session.disk now.session.disk) (sym (but_next goes.commands c goes.faults goes.counts.numbers)) (left_mark before goes stays told);
      syncs = begun_syncs before goes;
    };
  }

  pub turn_on : (v : Verdict) → AnswersNext tells c (Ok v) (sitting_of mid) (sitting_of now) → PerformsNext tells (Ok None) r q mid now
  turn_on v (inl reply) = replied_on v reply.performs reply.stays (reply.kept (λ e. absurd (cc e)))
  turn_on v (inr line) = faulted_turn line.rose line.stays line.base line.printed

  -- a command failed
  turn_off : (f : StoreFault) → AnswersNext tells c (Err f) (sitting_of mid) (sitting_of now) → PerformsNext tells (Err f) r q mid now
  turn_off f answer = record {
    on = λ before goes. record {
      commands = goes.commands;
      last = c;
      front = read_front before.source.left now.source.left (goes.commands ++ c ∷ []) (held_in q) (so_read before goes);
      faults = goes.faults;
      numbers = goes.counts.numbers;
      fails = failed before goes answer;
      syncs = begun_syncs before goes;
    };
  }
    where
      failed : (before : Progress) (goes : HasPerformed tells r before mid) → AnswersByReply tells c (Err f) (sitting_of mid) (sitting_of now) ⊎ AnswersByFault tells (Err f) (sitting_of mid) (sitting_of now)
          → FailsInReply tells goes.commands goes.faults c f before now
          ⊎ FailsInLine tells goes.commands goes.faults f before now
      failed before goes (inl reply) =
          let spoken = spoken_next before goes in
          inl (record {
            disk = λ is. once_more before goes (reply.rose (ap (λ x. Err x) is));
            calm = λ other. still_counted before goes (reply.kept (λ e. let is : f ≡ fault.Disk = cc e in other is));
            each = λ told.
                one_failed before mid now goes.commands c goes.faults goes.counts.numbers (goes.performs told) f spoken (reply.performs told) (reply.stays told)
                (λ disk. (reply.last (ap (λ x. Err x) disk) told, reply.for_good (no_resume c spoken) (ap (λ x. Err x) disk) told)) (clearing told);
            mark = begun_mark before goes;
          })
      failed before goes (inr line) = inr (record {
        no_disk = λ e. line.no_disk (ap (λ x. Err x) e);
        counted = once_more before goes line.rose;
        each = λ told. one_faulted_cut before mid now goes.commands c goes.faults goes.counts.numbers (goes.performs told) (line.stays told) line.base line.cut;
        mark = left_mark before goes line.stays;
      })

  -- which is the answer
  pub turn_err : (f : StoreFault) (final : Result (Option ScriptEnd) StoreFault) → IsErrAnd final (λ e. e ≡ f) → AnswersNext tells c (Err f) (sitting_of mid) (sitting_of now) → PerformsNext tells final r q mid now
  turn_err f (Ok e) is answers = absurd is
  turn_err f (Err e) is answers = subst (λ x. PerformsNext tells (Err x) r q mid now) (sym is) (turn_off f answers)

module _ (tells : Bool) (r q : Reader) (mid : Progress) (source : Supply) where
  -- there was none
  stopped : (e : ScriptEnd) → ((before : Progress) → (goes : HasPerformed tells r before mid) → EndsScript e before.source.left source.left goes.commands)
      → PerformsNext tells (Ok (Some e)) r q mid (with_source mid source)
  stopped e ends = record {
    on = λ before goes. record {
      commands = goes.commands;
      ends = ends before goes;
      faults = goes.faults;
      counts = record { numbers = goes.counts.numbers; counted = goes.counts.counted };
      performs = λ told. record {
        each = λ h keeps.
            let some = (goes.performs told).each h keeps in
            record { done = some.done; is_done = some.is_done; performed = record { stands = some.performed.stands; out = some.performed.out } };
      };
      mark = goes.mark;
      syncs = goes.syncs;
    };
  }

  pub turn_whole : Ends r q mid.source.left source.left → PerformsNext tells (Ok (Some ended.Whole)) r q mid (with_source mid source)
  turn_whole ends = stopped ended.Whole (λ before goes. (ends.after, read_whole before.source.left mid.source.left goes.commands (held_in r) goes.read ends.before))

  pub turn_failed : BreaksOff r mid.source.left source.left → PerformsNext tells (Ok (Some ended.Failed)) r q mid (with_source mid source)
  turn_failed fails = stopped ended.Failed (λ before goes. read_taken r before.source.left mid.source.left source.left goes.commands goes.read fails)

  pub turn_bad : (n : ℕ) → n ≡ given_in r + 1 → IsBadScript (used_in r) (rest_of r mid.source.left) → PerformsNext tells (Ok (Some (ended.Bad n))) r q mid (with_source mid source)
  turn_bad n number bad = stopped (ended.Bad n) (λ before goes. (
    number ∙ ap (λ k. k + 1) goes.given,
    read_bad before.source.left mid.source.left goes.commands (held_in r) (used_in r) goes.read goes.used bad,
  ))
