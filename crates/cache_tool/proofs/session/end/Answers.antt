-- What the store's closing ensures is what the end of a session ensures.
use Rattle.std.proofs.Common.{◌≡◌, ◌≢◌, ◌∙◌, [], Err, Result, ap, subst, sym, refl}
use Rattle.cache_base.specs.declared.status.Status.{Status}
use Rattle.cache_base.specs.declared.status.Status.TheVariants as status
use Rattle.cache_store.specs.Faults.{ending, fault_ending}
use Rattle.cache_store.specs.Open.{KeepsTo}
use Rattle.cache_store.specs.Session.{Session, open_of}
use Rattle.cache_store.specs.declared.fault.StoreFault.{StoreFault}
use Rattle.cache_store.specs.declared.fault.StoreFault.TheVariants as fault
use Rattle.cache_store.proofs.Performing.Represented.{represents}
use Rattle.cache_theory.specs.History.{History}
use Rattle.cache_tool.specs.Dated.{MayBeWritten}
use Rattle.cache_tool.specs.Ending.{IsEnded}
use Rattle.cache_tool.specs.Statuses.{IsClosing, status_in}
use Rattle.cache_tool.proofs.Dated.{at_where, closes_at}
use Rattle.cache_tool.proofs.MarkLeft.{stays_mark, kept_mark}
use Rattle.cache_tool.proofs.OneCommand.{disk_failed}
use Rattle.cache_tool.proofs.RightLaws.{open_leaves_honest}
use Rattle.cache_tool.proofs.StayingLaws.{ends_in_use, ends_short, ends_untrusted, rest_left}
use Rattle.index_update.specs.Rest.{name_bytes}
use Rattle.cache_tool.proofs.session.end.Goals as goal
use Rattle.cache_tool.proofs.session.end.Goals.{in-Err-Sink, in-Ok}

-- a store that failed to close was not closed
not_closed : (answer : Result (Unit {0}) StoreFault) (f : StoreFault) (ended : Status) → answer ≡ Err f → answer ≢ Err fault.Sink → ended ≡ status_in (Err f) → IsClosing ended → ⊥
not_closed answer fault.Memory ended failed not_sink is closing = subst IsClosing is closing
not_closed answer fault.Disk ended failed not_sink is closing = subst IsClosing is closing
not_closed answer fault.Sink ended failed not_sink is closing = not_sink failed

-- and ended in a failure of the disk, or out of memory
not_other : (answer : Result (Unit {0}) StoreFault) (f : StoreFault) (ended : Status) → answer ≡ Err f → answer ≢ Err fault.Sink → ended ≡ status_in (Err f) → ended ≢ status.Disk → ended ≢ status.Memory → ⊥
not_other answer fault.Memory ended failed not_sink is not_disk not_memory = not_memory is
not_other answer fault.Disk ended failed not_sink is not_disk not_memory = not_disk is
not_other answer fault.Sink ended failed not_sink is not_disk not_memory = not_sink failed

-- a store that is only dropped
dropped : (ended : Status) → ¬ (IsClosing ended) → (now : Session) (h : History) → KeepsTo now h → IsEnded ended h now now.disk
dropped ended still now h keeps = record {
  safe = keeps.stands.crash_kept.safe;
  shut = λ closing. absurd (still closing);
  images = λ right. open_leaves_honest now (h.machine, represents keeps);
  honest = λ closing right. absurd (still closing);
  journal = λ closing over. absurd (still closing);
  in_use = λ records closing. absurd (still closing);
  unended = λ closing. absurd (still closing);
  untrusted = λ closing. absurd (still closing);
  dated = λ closing. absurd (still closing);
}

pub close-requires : goal.close-requires
close-requires g c = record {
  told = λ told. elim c.match-came.branch [
    | in-Ok w ↦ c.requires.told told (ap ending w.in-Ok.is)
    | in-Err-Sink w ↦
        let sink : w.in-Err-Sink.field-0 ≡ fault.Sink = rw w.in-Err-Sink.is at w.in-Err-Sink.field-0-is in
        c.requires.told told (ap ending w.in-Err-Sink.is ∙ ap fault_ending sink)
  ];
}

pub returns-in-Err-Disk-clause-ends : goal.returns-in-Err-Disk-clause-ends
returns-in-Err-Disk-clause-ends g c = λ tells. record { each = λ h keeps. dropped status.Disk (λ x. x) _ h keeps; mark = stays_mark refl }

pub returns-in-Err-Memory-clause-ends : goal.returns-in-Err-Memory-clause-ends
returns-in-Err-Memory-clause-ends g c = λ tells. record { each = λ h keeps. dropped status.Memory (λ x. x) _ h keeps; mark = stays_mark refl }

pub returns-in-Ok-close-clause-ends : goal.returns-in-Ok-close-clause-ends
returns-in-Ok-close-clause-ends g c = λ tells. record {
  each = λ h keeps.
      let closed = c.in-Ok-close.ensures.closes tells in
      let honest = c.in-Ok-close.ensures.honest tells in
      let closes = c.in-Ok-close.ensures.journal tells in
      record {
        safe = closed.crash h keeps;
        shut = λ closing. closed.shut h.machine (represents keeps);
        images = λ right. honest.images h.machine (represents keeps) right;
        honest = λ closing right. honest.honest h.machine (represents keeps) right;
        journal = λ closing over. ends_short _ _ h keeps closes over;
        in_use = λ records closing right holds ends. ends_in_use _ _ h keeps closes records right holds ends;
        unended = λ closing rest. c.in-Ok-close.ensures.spares (rest_left _ h keeps rest) tells;
        untrusted = λ closing rest. ends_untrusted _ _ h keeps (c.in-Ok-close.ensures.spares (rest_left _ h keeps rest) tells);
        dated = λ closing.
            subst (λ n. MayBeWritten (h.machine.rest ≡ []) n (g.D.Disk.state c.args.disk.now) (g.D.Disk.state c.close.new.disk)) (sym keeps.matches.moment)
            (at_where (open_of c.args.store).moment _ _ (λ none. keeps.matches.rest ∙ ap name_bytes none)
            (closes_at (open_of c.args.store).index (open_of c.args.store).moment _ _ (g.met.D.Disk.sound c.args.disk.now tells) keeps.matches.holds.files (c.in-Ok-close.ensures.whole tells)));
      };
  mark = kept_mark _ _ (c.in-Ok-close.ensures.at_clear tells);
}

pub returns-in-Err-clause-ends : goal.returns-in-Err-clause-ends
returns-in-Err-clause-ends g c = λ tells. record {
  each = λ h keeps.
      let closed = c.in-Err.ensures.closes tells in
      let honest = c.in-Err.ensures.honest tells in
      let still = not_closed c.close.result c.in-Err.fault c.status_of_fault.result c.in-Err.is c.close.ensures.no_sink c.status_of_fault.ensures in
      record {
        safe = closed.crash h keeps;
        shut = λ closing. absurd (still closing);
        images = λ right. honest.images h.machine (represents keeps) right;
        honest = λ closing right. absurd (still closing);
        journal = λ closing over. absurd (still closing);
        in_use = λ records closing. absurd (still closing);
        unended = λ closing. absurd (still closing);
        untrusted = λ closing. absurd (still closing);
        dated = λ closing. absurd (still closing);
      };
  mark = kept_mark _ _ (c.in-Err.ensures.at_clear tells);
}

pub returns-in-Err-clause-quiet : goal.returns-in-Err-clause-quiet
returns-in-Err-clause-quiet g c = λ closing.
    absurd (not_closed c.close.result c.in-Err.fault c.status_of_fault.result c.in-Err.is c.close.ensures.no_sink c.status_of_fault.ensures closing)

pub returns-in-Err-clause-went_on : goal.returns-in-Err-clause-went_on
returns-in-Err-clause-went_on g c = λ not_disk not_memory.
    absurd (not_other c.close.result c.in-Err.fault c.status_of_fault.result c.in-Err.is c.close.ensures.no_sink c.status_of_fault.ensures not_disk not_memory)

pub returns-in-Err-clause-last : goal.returns-in-Err-clause-last
returns-in-Err-clause-last g c = λ closing disk. c.in-Err.ensures.disk.change (disk_failed c.in-Err.fault c.status_of_fault.result c.status_of_fault.ensures disk)
