use Rattle.std.proofs.Common.{◌<◌, ap, arith, length, refl, subst, sym, ◌∙◌}
use Rattle.cache_theory.specs.Step.{released}
use Rattle.handle_table.specs.Kept.{Kept, kept_in, use_at}
use Rattle.file_handles.specs.Cache.{cache_at}
use Rattle.file_handles.specs.Kept.{kept}
use Rattle.file_handles.specs.Stands.{KeepsWhere}
use Rattle.file_handles.proofs.Closing.ReleasedSlot.{last_given_or, safe_may_go, shared_given}
use Rattle.file_handles.proofs.Histories.{history_of}
use Rattle.file_handles.proofs.IndexLeft.{let_go_left}
use Rattle.file_handles.proofs.Reading.ClosedChunks.{given_up}
use Rattle.file_handles.proofs.handles.Handles.give_up.Goals as goal

pub returns-in_default-clause-gives_up : goal.returns-in_default-clause-gives_up
returns-in_default-clause-gives_up g c tells = record {
  leaves = λ b h reads is. record {
    safe = λ on. (is.crash_kept on).safe;
    next = subst (λ (k : Kept). KeepsWhere b (cache_at k (g.D.Disk.state c.args.disk.now)) (history_of (released h.machine c.args.slot) h.marks)) (sym c.in_default.ensures.1)
        (shared_given (g.D.Disk.state c.args.disk.now) (kept c.args.self.now) c.args.slot c.args.place c.args.slot c.requires.slot c.has_rows.ensures.slots (c.requires.told tells).placed refl
        h.machine h.marks reads is c.in_default.ensures.0);
  };
}

pub returns-clause-gives_up : goal.returns-clause-gives_up
returns-clause-gives_up g c tells = record {
  leaves = λ b h reads is. record {
    safe = λ on. safe_may_go c.let_go.result (g.D.Disk.state c.args.disk.now) (g.D.Disk.state c.let_go.new.disk) h.marks c.in-Some.object (c.let_go.ensures.state tells) (is.crash_kept on).safe;
    next = last_given_or (g.D.Disk.state c.args.disk.now) (kept c.args.self.now) c.args.slot c.args.place c.args.slot c.requires.slot c.has_rows.ensures.slots (c.requires.told tells).placed refl
        h.machine h.marks reads is c.in-Some.object (g.D.Disk.state c.let_go.new.disk) (kept_in c.leave.new.self) c.let_go.result c.in-Some.ensures.0 c.in-Some.ensures.1.0 (c.let_go.ensures.state tells)
        c.in-Some.ensures.1.1;
  };
}

pub returns-clause-index : goal.returns-clause-index
returns-clause-index g c told = let_go_left c.let_go.result _ _ c.in-Some.object (c.let_go.ensures.state told)

pub returns-in_default-clause-given_up : goal.returns-in_default-clause-given_up
returns-in_default-clause-given_up g c =
    let k = kept c.args.self.now in
    let within : c.args.slot < length k.slots = let small = c.requires.slot in let rows = c.has_rows.ensures.slots in omega (arith, small, rows) in
    ap (λ (after : Kept). use_at after c.args.slot) c.in_default.ensures.1 ∙ given_up k c.args.slot c.args.slot refl within

pub returns-clause-given_up : goal.returns-clause-given_up
returns-clause-given_up g c =
    let k = kept c.args.self.now in
    let within : c.args.slot < length k.slots = let small = c.requires.slot in let rows = c.has_rows.ensures.slots in omega (arith, small, rows) in
    ap (λ (after : Kept). use_at after c.args.slot) c.in-Some.ensures.1.1 ∙ given_up k c.args.slot c.args.slot refl within
