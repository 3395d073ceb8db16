-- The line that tells of a failed look is printed, and the store is closed.
use Rattle.std.proofs.Common.{◌∙◌, ◌≡◌, ⊎_elim, ap, inl, inr, refl, subst, sym}
use Rattle.cache_base.specs.declared.status.Status.TheVariants as status
use Rattle.cache_store.specs.Session.{Open, open_of}
use Rattle.cache_theory.specs.Faulted.{fault_line}
use Rattle.cache_tool.specs.Ending.{EndsSession}
use Rattle.cache_tool.specs.Statuses.{IsClosing, status_in}
use Rattle.cache_tool.proofs.Faulting.{closed_or, drops_by_memory, ends_by_disk, no_or_memory}
use Rattle.cache_tool.proofs.ForGood.{line_said}
use Rattle.cache_tool.proofs.OneCommand.{said_part}
use Rattle.cache_tool.proofs.StatusLaws.{closes_or_not}
use Rattle.cache_tool.proofs.session.end_faulted.Goals as goal

pub returns-in-Memory-clause-part : goal.returns-in-Memory-clause-part
returns-in-Memory-clause-part g c = said_part c.say_fault.result (g.K.Sink.taken c.args.sink.now) (g.K.Sink.taken c.say_fault.new.sink) fault_line c.say_fault.ensures.printed c.say_fault.ensures.cut

pub returns-in-Memory-clause-closed : goal.returns-in-Memory-clause-closed
returns-in-Memory-clause-closed g c = elim (closes_or_not (status_in c.after_line-came.result)) [
  | inl closing ↦ inl ((c.end.ensures.cause closing).kept (λ disk. let both : status.Memory ≡ status.Disk = sym c.in-Memory.is ∙ disk in cc), λ is. absurd (let e : status.Memory ≡ status.Disk = is in cc))
  | inr still ↦ inl (ap (λ d. g.D.Disk.faults d) (c.end.ensures.dropped still).1, λ is. absurd (let e : status.Memory ≡ status.Disk = is in cc))
]

pub returns-in_default : goal.returns-in_default
returns-in_default g c = record {
  failed = inl refl;
  ends = λ told. subst (λ (x : Open). EndsSession status.Disk (record { open_store = x; disk = g.D.Disk.state c.args.disk.now }) (g.D.Disk.state c.end.new.disk)) c.say_fault.ensures.open
      (ends_by_disk c.end.result (record { open_store = open_of c.say_fault.new.self; disk = g.D.Disk.state c.args.disk.now }) (g.D.Disk.state c.end.new.disk) (c.end.ensures.ends told));
  closed = closed_or c.after_line-came.result c.end.result c.after_line-came.ensures.cases c.end.ensures.same
      (λ closing shut. (
        (c.end.ensures.cause closing).kept (λ disk. no_or_memory c.end.result shut disk),
        λ is told.
            let nay = ⊎_elim (λ nay. nay) (λ memory. absurd (c.in_default.not-Memory memory)) shut in (
              subst (λ (x : Open). EndsSession status.No (record { open_store = x; disk = g.D.Disk.state c.args.disk.now }) (g.D.Disk.state c.end.new.disk)) c.say_fault.ensures.open
                  (subst (λ s. EndsSession s (record { open_store = open_of c.say_fault.new.self; disk = g.D.Disk.state c.args.disk.now }) (g.D.Disk.state c.end.new.disk)) nay (c.end.ensures.ends told)),
              c.end.ensures.went_on (λ disk. no_or_memory c.end.result shut disk) c.in_default.not-Memory told,
            ),
      ))
      (λ closing disk. ((c.end.ensures.cause closing).rose disk, λ told. c.end.ensures.last closing disk told))
      (λ not_closing. absurd (c.in_default.not-Memory (drops_by_memory c.after_line-came.result c.after_line-came.ensures.cases not_closing (c.end.ensures.dropped not_closing).0)));
  part = said_part c.say_fault.result (g.K.Sink.taken c.args.sink.now) (g.K.Sink.taken c.say_fault.new.sink) fault_line c.say_fault.ensures.printed c.say_fault.ensures.cut;
  said = λ is. line_said c.say_fault.result c.after_line-came.result (g.K.Sink.taken c.args.sink.now) (g.K.Sink.taken c.say_fault.new.sink) fault_line (g.K.Sink.faults c.args.sink.now) (g.K.Sink.faults c.say_fault.new.sink)
      c.say_fault.ensures.printed c.say_fault.ensures.sink.no_disk c.say_fault.ensures.sink.cause c.after_line-came.ensures.memory
      (λ memory. c.in_default.not-Memory ((c.end.ensures.dropped (subst (λ x. IsClosing (status_in x)) memory)).0 ∙ ap status_in memory));
  no_entry = c.end.ensures.no_entry;
  later = c.end.ensures.later;
  stops = c.end.ensures.stops;
  syncs = c.end.ensures.syncs;
}
