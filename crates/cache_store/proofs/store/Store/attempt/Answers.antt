use Rattle.std.proofs.Common.{◌≡◌, ◌∙◌, [], Err, IfOk, IsTrue, Ok, Result, ap, rules, subst, sym}
use Rattle.cache_script.specs.Command.{command_of}
use Rattle.index_theory.proofs.UncleanLaws.{unclean_leaves_honest}
use Rattle.cache_replies.specs.Answers.{left_to_say}
use Rattle.std.proofs.lemmas.Option.{IfSome_then}
use Rattle.cache_store.specs.Clearing.{LeavesResumed, LeavesUncleared, origin_cleared}
use Rattle.cache_store.specs.Performing.{HadEffect}
use Rattle.cache_replies.specs.declared.answered.Answered.{Answered}
use Rattle.cache_store.specs.Evicting.{LeavesOthers}
use Rattle.cache_store.specs.InMemory.{CutsPlainLine}
use Rattle.cache_store.specs.IndexCalls.{IsFresh}
use Rattle.file_handles.specs.Kept.{kept}
use Rattle.cache_store.specs.Reads.{LastIsFirst}
use Rattle.cache_replies.specs.Said.{saying}
use Rattle.cache_store.specs.Session.{Open, open_of, session}
use Rattle.cache_replies.specs.declared.answered.Answered.TheVariants as answered
use Rattle.cache_store.specs.declared.fault.StoreFault.{StoreFault}
use Rattle.cache_store.specs.declared.fault.StoreFault.TheVariants as fault
use Rattle.cache_replies.specs.declared.verdict.Verdict.{Verdict}
use Rattle.cache_replies.specs.declared.verdict.Verdict.TheVariants as outcome
use Rattle.context_clear.specs.Mark.{mark_of}
use Rattle.disk_theory.specs.State.{standing}
use Rattle.disk_theory.specs.declared.place.Place.TheVariants.{Clear}
use Rattle.cache_store.specs.Verifying.{PrintsFound}
use Rattle.cache_store.proofs.Evicting.EvictDoes.{had_handed}
use Rattle.cache_store.proofs.Performing.CalmAccounts.{sink_alone_accounts}
use Rattle.cache_store.proofs.Performing.HandedFaults.{handed_disk}
use Rattle.cache_store.proofs.Performing.Stays.{handed_fault}
use Rattle.cache_store.proofs.Performing.PerformOpen.{performs_open}
use Rattle.cache_store.proofs.Performing.PerformWhole.{does_performs, fails_performs}
use Rattle.cache_store.proofs.Saying.PrintedLaws.{prints_found, prints_outcome}
use Rattle.cache_store.proofs.Performing.RepliedInMemory.{cut_in_memory, cut_of, none_of_line, out_in_memory, part_of_line, plain_unsaid, when_err}
use Rattle.cache_replies.proofs.SaidMore.{of_ok, when_ok}
use Rattle.cache_store.proofs.Saying.TakenMore.{rest_takes}
use Rattle.cache_store.proofs.Reading.ReadsHeld.{outcome_ok}
use Rattle.cache_replies.specs.Answers.{outcome_in}
use Rattle.cache_store.specs.Reads.{PutsChunks}
use Rattle.cache_store.specs.Records.{KeepsRecords}
use Rattle.cache_store.proofs.Performing.PutChunks.{sent_chunks}
use Rattle.index_theory.specs.Ever.{entries_on}
use Rattle.cache_store.proofs.store.Store.attempt.Goals as goal

pub returns-in_err-answered-clause-always : goal.returns-in_err-answered-clause-always
returns-in_err-answered-clause-always g c = record {
  stays_open = λ told. performs_open (command_of c.args.c.now) _ _ _ _ c.from_residual.result (c.requires.told told)
      (fails_performs (command_of c.args.c.now) c.in_err-answered.field-0.0 c.from_residual.result _ _ _ _ c.from_residual.ensures.1 (c.in_err-answered.ensures.does told));
  grows = search rules;
  honest = λ told. unclean_leaves_honest (g.D.Disk.state c.perform.new.disk) (c.in_err-answered.ensures.unclean told);
  stopped = c.in_err-answered.ensures.stopped;
  ordered = c.in_err-answered.ensures.ordered;
  at_clear = c.in_err-answered.ensures.at_clear;
  takes = c.in_err-answered.ensures.takes;
  unsynced = c.in_err-answered.ensures.unsynced;
  syncs = c.in_err-answered.ensures.account.syncs;
  looks = c.in_err-answered.ensures.looks;
  held = c.in_err-answered.ensures.held;
  unfinished = c.in_err-answered.ensures.unfinished;
  chunks = c.in_err-answered.ensures.chunks;
  sink = search rules;
}

pub returns-in_err-answered-clause-does : goal.returns-in_err-answered-clause-does
returns-in_err-answered-clause-does g c =
    let command = command_of c.args.c.now in
    let before = session g.D.Disk c.args.self.now c.args.disk.now in
    let had = had_handed c.from_residual.result c.in_err-answered.field-0.0 c.from_residual.ensures.1 in
    record {
      reply = record {
        performs = λ told. fails_performs command c.in_err-answered.field-0.0 c.from_residual.result _ _ _ _ c.from_residual.ensures.1 (c.in_err-answered.ensures.does told);
        prints = search rules;
        verifies = search rules;
        in_memory = λ idle.
            cut_in_memory _ command c.in_err-answered.field-0.0 c.from_residual.result _ _ (saying g.K.Sink c.perform.new.self.reply c.perform.new.sink) c.from_residual.ensures.1 (c.in_err-answered.ensures.in_memory idle);
        cut = λ plain.
            when_err c.from_residual.result _ (subst (CutsPlainLine (g.K.Sink.taken c.args.sink.now)) (sym (ap g.K.Sink.taken (c.in_err-answered.ensures.plainly plain))) (none_of_line (g.K.Sink.taken c.args.sink.now)));
        bad_key = search rules;
        wordless = search rules;
      };
      files = record {
        index = search rules;
        base = λ spares effect. c.in_err-answered.ensures.base spares (had effect);
        flushed = search rules;
        flushes = λ flush effect. c.in_err-answered.ensures.flushes flush (had effect);
        rebuilt = search rules;
        rebuilds = λ rebuild effect. c.in_err-answered.ensures.rebuilds rebuild (had effect);
        quiet = λ syncs effect. c.in_err-answered.ensures.quiet syncs (had effect);
      };
      others = record {
        evicts = λ kb is effect told. c.in_err-answered.ensures.evicts kb is (had effect) told;
        clears =
            IfSome_then (origin_cleared command (standing (g.D.Disk.state c.args.disk.now) Clear))
            {P = λ origin. HadEffect {T = Answered} (Err c.in_err-answered.field-0.0) → IsTrue g.D.Disk.tells → LeavesUncleared before origin c.perform.new.self.index.map}
            {Q = λ origin. HadEffect c.from_residual.result → IsTrue g.D.Disk.tells → LeavesUncleared before origin c.perform.new.self.index.map}
            c.in_err-answered.ensures.clears (λ origin clears effect told. clears (had effect) told);
        unmarked = λ clearing effect. c.in_err-answered.ensures.unmarked clearing (had effect);
        resumes = λ is effect told. c.in_err-answered.ensures.resumes is (had effect) told;
        synced = λ is effect told. c.in_err-answered.ensures.synced is (had effect) told;
      };
      memory = record {
        records = search rules;
        recent = search rules;
        alt_chunks = search rules;
      };
      calls = record {
        idle = search rules;
        looking = search rules;
        looks_first = search rules;
        resumes_first = search rules;
        once = search rules;
        account = search rules;
      };
    }

pub returns-clause-always : goal.returns-clause-always
returns-clause-always g c = record {
  stays_open = λ told. performs_open (command_of c.args.c.now) _ _ _ _ c.finish_reply.result (c.requires.told told)
      (does_performs (command_of c.args.c.now) c.in_ok-answered.answered c.finish_reply.result _ (session g.D.Disk c.perform.new.self c.perform.new.disk) (open_of c.finish_reply.new.self) _
      (saying g.K.Sink c.perform.new.self.reply c.perform.new.sink) (g.K.Sink.taken c.finish_reply.new.sink) c.finish_reply.ensures.printed c.finish_reply.ensures.cut c.finish_reply.ensures.outcome
      c.finish_reply.ensures.open (c.in_ok-answered.ensures.does told));
  grows = λ told.
      rest_takes (left_to_say c.in_ok-answered.answered) (g.K.Sink.taken c.args.sink.now) (saying g.K.Sink c.perform.new.self.reply c.perform.new.sink) (g.K.Sink.taken c.finish_reply.new.sink) c.finish_reply.result
      (c.in_ok-answered.ensures.grows told) c.finish_reply.ensures.printed c.finish_reply.ensures.cut;
  honest = λ told. unclean_leaves_honest (g.D.Disk.state c.perform.new.disk) (c.in_ok-answered.ensures.unclean told);
  stopped = c.in_ok-answered.ensures.stopped;
  ordered = c.in_ok-answered.ensures.ordered;
  at_clear = c.in_ok-answered.ensures.at_clear;
  takes = c.in_ok-answered.ensures.takes;
  unsynced = c.in_ok-answered.ensures.unsynced;
  syncs = c.in_ok-answered.ensures.account.syncs;
  looks = c.in_ok-answered.ensures.looks;
  held = c.in_ok-answered.ensures.held;
  unfinished = c.in_ok-answered.ensures.unfinished;
  chunks = search rules;
  sink = search rules;
}

pub returns-clause-does : goal.returns-clause-does
returns-clause-does g c =
    let command = command_of c.args.c.now in
    let before = session g.D.Disk c.args.self.now c.args.disk.now in
    let files = standing (g.D.Disk.state c.args.disk.now) in
    let taken = g.K.Sink.taken c.args.sink.now in
    let mid = saying g.K.Sink c.perform.new.self.reply c.perform.new.sink in
    let now = g.K.Sink.taken c.finish_reply.new.sink in
    let same : open_of c.perform.new.self ≡ open_of c.finish_reply.new.self = sym c.finish_reply.ensures.open in
    record {
      reply = record {
        performs = λ told.
            does_performs command c.in_ok-answered.answered c.finish_reply.result _ (session g.D.Disk c.perform.new.self c.perform.new.disk) (open_of c.finish_reply.new.self) _
            mid now c.finish_reply.ensures.printed c.finish_reply.ensures.cut c.finish_reply.ensures.outcome c.finish_reply.ensures.open (c.in_ok-answered.ensures.does told);
        prints =
            prints_outcome command c.in_ok-answered.answered c.finish_reply.result _ _ _ (λ n. ap g.K.Sink.taken (c.in_ok-answered.ensures.unsaid.out n)) c.in_ok-answered.ensures.unsaid.held
            c.in_ok-answered.ensures.plain c.in_ok-answered.ensures.unsaid.lists c.finish_reply.ensures.printed c.finish_reply.ensures.outcome;
        verifies = λ verify.
            of_ok c.finish_reply.result _ _ (λ sends told.
            subst (λ (o : Open). PrintsFound before o.index.map taken now) same
            (prints_found before (open_of c.perform.new.self).index.map c.in_ok-answered.answered (c.in_ok-answered.ensures.found verify told) taken mid now
            (λ n. ap g.K.Sink.taken (c.in_ok-answered.ensures.unsaid.out n)) c.in_ok-answered.ensures.unsaid.held sends))
            c.finish_reply.ensures.printed;
        in_memory = λ idle.
            out_in_memory _ command c.in_ok-answered.answered c.finish_reply.result _ mid now c.finish_reply.ensures.printed c.finish_reply.ensures.cut (c.in_ok-answered.ensures.in_memory idle);
        cut = λ plain.
            cut_of c.finish_reply.result (part_of_line c.in_ok-answered.answered taken mid now
            (c.in_ok-answered.ensures.plain plain) (ap g.K.Sink.taken (c.in_ok-answered.ensures.plainly plain)) (c.in_ok-answered.ensures.unsaid.held (plain_unsaid c.in_ok-answered.answered (c.in_ok-answered.ensures.plain plain))))
            c.finish_reply.ensures.cut;
        bad_key = search rules;
        wordless = λ is.
            let words = c.in_ok-answered.ensures.wordless is in
            let resumed : c.in_ok-answered.answered ≡ answered.Resumed = words.1.1 in
            let held = c.in_ok-answered.ensures.unsaid.held (λ all. let no : answered.Resumed ≡ answered.All = sym resumed ∙ all in cc) in
            let done = c.finish_reply.ensures.resumed resumed held in
            (done.1 ∙ words.0, λ failed. let no : ◌≡◌ {A = Result Verdict StoreFault} (Ok outcome.Ok) (Err fault.Sink) = sym done.0 ∙ failed in cc);
      };
      files = record {
        index = search rules;
        base = search rules;
        flushed = λ flush.
            when_ok c.finish_reply.result _ (subst (λ (o : Open). o.index.update ≡ [] → IsFresh o.index.map) same (c.in_ok-answered.ensures.flushed flush));
        flushes = λ flush had. c.in_ok-answered.ensures.flushes flush tt;
        rebuilt = search rules;
        rebuilds = search rules;
        quiet = λ syncs had. c.in_ok-answered.ensures.quiet syncs tt;
      };
      others = record {
        evicts = λ kb is had told. subst (λ (o : Open). LeavesOthers before kb o.index.map) same (c.in_ok-answered.ensures.evicts kb is tt told);
        clears =
            IfSome_then (origin_cleared command (files Clear))
            {P = λ origin. HadEffect {T = Answered} (Ok c.in_ok-answered.answered) → IsTrue g.D.Disk.tells → LeavesUncleared before origin c.perform.new.self.index.map}
            {Q = λ origin. HadEffect c.finish_reply.result → IsTrue g.D.Disk.tells → LeavesUncleared before origin c.finish_reply.new.self.index.map}
            c.in_ok-answered.ensures.clears (λ origin clears had told. subst (λ (o : Open). LeavesUncleared before origin o.index.map) same (clears tt told));
        unmarked = λ clearing had. c.in_ok-answered.ensures.unmarked clearing tt;
        resumes = λ is had told. subst (λ (o : Open). LeavesResumed (mark_of (files Clear)) before o.index) same (c.in_ok-answered.ensures.resumes is tt told);
        synced = λ is had told. c.in_ok-answered.ensures.synced is tt told;
      };
      memory = record {
        records =
            when_ok c.finish_reply.result _ (λ told.
            subst (λ (o : Open). KeepsRecords command (entries_on (g.D.Disk.state c.args.disk.now)) c.args.self.now.index o.index) same (c.in_ok-answered.ensures.records told));
        recent = λ slot from len is ok told.
            subst (λ (o : Open). LastIsFirst (kept c.args.self.now.handles) slot from len o.handles) same
            (c.in_ok-answered.ensures.recent slot from len is (outcome_ok c.finish_reply.result c.in_ok-answered.answered ok c.finish_reply.ensures.outcome) told);
        alt_chunks = λ slot kind bytes is.
            subst (λ (o : Open). IfOk c.finish_reply.result (λ v. PutsChunks v slot (kept c.args.self.now.handles) o.handles)) same
            (sent_chunks c.finish_reply.result (outcome_in c.in_ok-answered.answered) slot (kept c.args.self.now.handles) (kept c.perform.new.self.handles) c.finish_reply.ensures.outcome
            (c.in_ok-answered.ensures.alt_chunks slot kind bytes is));
      };
      calls = record {
        idle = search rules;
        looking = search rules;
        looks_first = search rules;
        resumes_first = search rules;
        once = search rules;
        account = sink_alone_accounts g.D.Disk c.finish_reply.result c.args.disk.now c.perform.new.disk c.finish_reply.ensures.sink.no_disk c.in_ok-answered.ensures.account;
      };
    }

pub returns-in_err-answered-clause-faulted : goal.returns-in_err-answered-clause-faulted
returns-in_err-answered-clause-faulted g c = λ faulting.
    handed_fault c.from_residual.result c.in_err-answered.field-0.0 c.perform.result c.from_residual.ensures.1 c.in_err-answered.was (c.perform.ensures.faulted faulting)

pub returns-in_err-answered-clause-fails : goal.returns-in_err-answered-clause-fails
returns-in_err-answered-clause-fails g c = λ calm other failed told.
    c.perform.ensures.change calm other (handed_disk c.from_residual.result c.in_err-answered.field-0.0 c.perform.result c.from_residual.ensures.1 c.in_err-answered.was failed) told
