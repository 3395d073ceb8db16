use Rattle.std.proofs.Common.{◌∙◌, ap, not, subst, sym}
use Rattle.cache_store.specs.Clearing.{LeavesResumed}
use Rattle.cache_store.specs.Session.{session}
use Rattle.cache_store.specs.StoppedClearing.{ClearsUnderMark}
use Rattle.cache_store.proofs.Clearing.ClearCommands.{cleared_from, ended_index, found_mark, mark_not_resumed, mark_resumed, no_size, none_told, nothing_resumed, of_each, of_marked, other_removed, other_stays, resume_looks, stopped_from, uncleared_from}
use Rattle.cache_store.proofs.Clearing.ClearDoes.{looks_stopped}
use Rattle.cache_store.proofs.Clearing.LooksFirst.{changed_last, looked_then, only_looked}
use Rattle.cache_store.proofs.Performing.Stays.{change_handed}
use Rattle.context_clear.specs.Mark.{mark_of}
use Rattle.disk_theory.specs.State.{standing}
use Rattle.disk_theory.specs.declared.place.Place.TheVariants.{Clear}
use Rattle.file_handles.specs.Kept.{kept}
use Rattle.cache_store.specs.AtClear.{ClearsAt, ClearsInOrder}
use Rattle.cache_store.proofs.Clearing.ClearPart.{clears_from, none_at, none_in_order, of_unmarked, ordered_from, removed_at}
use Rattle.cache_store.proofs.store.Store.resume.Goals as goal

-- ---- a look failed, or no file stands

pub returns-in_err-size-clause-does : goal.returns-in_err-size-clause-does
returns-in_err-size-clause-does g c = λ told.
    resume_looks c.from_residual.result _ c.from_residual.ensures.1 (kept c.args.self.now.handles) c.args.self.now.moment (g.D.Disk.state c.args.disk.now) (g.D.Disk.state c.size.new.self)
    c.args.self.now.index c.args.self.now.index (c.size.ensures.state told)

pub returns-in_err-size-clause-stopped : goal.returns-in_err-size-clause-stopped
returns-in_err-size-clause-stopped g c =
    of_each (mark_of (standing (g.D.Disk.state c.args.disk.now) Clear)) (λ origin told.
    looks_stopped origin (kept c.args.self.now.handles) c.args.self.now.moment (g.D.Disk.state c.args.disk.now) (g.D.Disk.state c.size.new.self) c.args.self.now.index (c.size.ensures.state told))

pub returns-then-is_none-clause-does : goal.returns-then-is_none-clause-does
returns-then-is_none-clause-does g c = λ told.
    let s = g.D.Disk.state c.args.disk.now in
    let none = no_size (standing s Clear) c.in_ok-size.field-0 (c.in_ok-size.ensures.size told) (c.is_none.ensures ∙ ap not c.if-is_none.true) in
    nothing_resumed (kept c.args.self.now.handles) c.args.self.now.moment s (g.D.Disk.state c.size.new.self) c.args.self.now.index (ap mark_of none) none (c.size.ensures.state told)

pub returns-in_err-origin-clause-does : goal.returns-in_err-origin-clause-does
returns-in_err-origin-clause-does g c = λ told.
    resume_looks c.from_residual-in_err-origin.result _ c.from_residual-in_err-origin.ensures.1 (kept c.args.self.now.handles) c.args.self.now.moment (g.D.Disk.state c.args.disk.now)
    (g.D.Disk.state c.stored.new.disk) c.args.self.now.index c.args.self.now.index (c.stored.ensures.looks.state told ∙ c.size.ensures.state told)

pub returns-in_err-origin-clause-stopped : goal.returns-in_err-origin-clause-stopped
returns-in_err-origin-clause-stopped g c =
    of_each (mark_of (standing (g.D.Disk.state c.args.disk.now) Clear)) (λ origin told.
    looks_stopped origin (kept c.args.self.now.handles) c.args.self.now.moment (g.D.Disk.state c.args.disk.now) (g.D.Disk.state c.stored.new.disk) c.args.self.now.index
    (c.stored.ensures.looks.state told ∙ c.size.ensures.state told))

-- ---- a mark stands

pub returns-in_err-cleared-in-Some-clause-does : goal.returns-in_err-cleared-in-Some-clause-does
returns-in_err-cleared-in-Some-clause-does g c = λ told.
    let k = kept c.args.self.now.handles in
    let s = g.D.Disk.state c.args.disk.now in
    let v = g.D.Disk.state c.stored.new.disk in
    let looked = c.size.ensures.state told in
    mark_not_resumed c.in-Some.origin (session g.D.Disk c.args.self.now c.args.disk.now) _
    (found_mark k c.args.self.now.moment s (g.D.Disk.state c.size.new.self) c.args.self.now.index looked c.in_ok-origin.field-0 _ (c.in_ok-origin.ensures.origin told) c.in-Some.is)
    c.in_err-cleared-in-Some.field-0.0 c.from_residual-in_err-cleared-in-Some.result _ c.from_residual-in_err-cleared-in-Some.ensures.1
    (cleared_from k c.args.self.now.moment s v c.args.self.now.index (c.stored.ensures.looks.state told ∙ looked) c.in-Some.origin _ _ (c.in_err-cleared-in-Some.ensures.does told))

pub returns-in_err-cleared-in-Some-clause-stopped : goal.returns-in_err-cleared-in-Some-clause-stopped
returns-in_err-cleared-in-Some-clause-stopped g c =
    let k = kept c.args.self.now.handles in
    let s = g.D.Disk.state c.args.disk.now in
    of_marked (mark_of (standing s Clear)) c.in-Some.origin _ (λ origin. ClearsUnderMark origin (session g.D.Disk c.args.self.now c.args.disk.now) (g.D.Disk.state c.clear_origin-cleared.new.disk))
    (λ told. found_mark k c.args.self.now.moment s (g.D.Disk.state c.size.new.self) c.args.self.now.index (c.size.ensures.state told) c.in_ok-origin.field-0 _ (c.in_ok-origin.ensures.origin told) c.in-Some.is)
    (λ told. stopped_from k c.args.self.now.moment s (g.D.Disk.state c.stored.new.disk) c.args.self.now.index (c.stored.ensures.looks.state told ∙ c.size.ensures.state told) c.in-Some.origin
    (g.D.Disk.state c.clear_origin-cleared.new.disk) (c.clear_origin-cleared.ensures.stopped told))

pub returns-in_ok-cleared-in-Some-clause-does : goal.returns-in_ok-cleared-in-Some-clause-does
returns-in_ok-cleared-in-Some-clause-does g c = λ told.
    let k = kept c.args.self.now.handles in
    let s = g.D.Disk.state c.args.disk.now in
    let v = g.D.Disk.state c.stored.new.disk in
    let looked = c.size.ensures.state told in
    mark_resumed c.in-Some.origin (session g.D.Disk c.args.self.now c.args.disk.now) _
    (found_mark k c.args.self.now.moment s (g.D.Disk.state c.size.new.self) c.args.self.now.index looked c.in_ok-origin.field-0 _ (c.in_ok-origin.ensures.origin told) c.in-Some.is)
    c.in_ok-cleared-in-Some.field-0
    (cleared_from k c.args.self.now.moment s v c.args.self.now.index (c.stored.ensures.looks.state told ∙ looked) c.in-Some.origin _ _ (c.in_ok-cleared-in-Some.ensures.does told))

pub returns-in_ok-cleared-in-Some-clause-resumes : goal.returns-in_ok-cleared-in-Some-clause-resumes
returns-in_ok-cleared-in-Some-clause-resumes g c = λ had told.
    let k = kept c.args.self.now.handles in
    let s = g.D.Disk.state c.args.disk.now in
    let looked = c.size.ensures.state told in
    subst (λ mark. LeavesResumed mark (session g.D.Disk c.args.self.now c.args.disk.now) c.clear_origin-cleared.new.self.index)
    (sym (found_mark k c.args.self.now.moment s (g.D.Disk.state c.size.new.self) c.args.self.now.index looked c.in_ok-origin.field-0 _ (c.in_ok-origin.ensures.origin told) c.in-Some.is))
    (uncleared_from k c.args.self.now.moment s (g.D.Disk.state c.stored.new.disk) c.args.self.now.index (c.stored.ensures.looks.state told ∙ looked) c.in-Some.origin
    c.clear_origin-cleared.new.self.index.map (c.in_ok-cleared-in-Some.ensures.clears told))

pub returns-in_ok-cleared-in-Some-clause-stopped : goal.returns-in_ok-cleared-in-Some-clause-stopped
returns-in_ok-cleared-in-Some-clause-stopped g c =
    let k = kept c.args.self.now.handles in
    let s = g.D.Disk.state c.args.disk.now in
    of_marked (mark_of (standing s Clear)) c.in-Some.origin _ (λ origin. ClearsUnderMark origin (session g.D.Disk c.args.self.now c.args.disk.now) (g.D.Disk.state c.clear_origin-cleared.new.disk))
    (λ told. found_mark k c.args.self.now.moment s (g.D.Disk.state c.size.new.self) c.args.self.now.index (c.size.ensures.state told) c.in_ok-origin.field-0 _ (c.in_ok-origin.ensures.origin told) c.in-Some.is)
    (λ told. stopped_from k c.args.self.now.moment s (g.D.Disk.state c.stored.new.disk) c.args.self.now.index (c.stored.ensures.looks.state told ∙ c.size.ensures.state told) c.in-Some.origin
    (g.D.Disk.state c.clear_origin-cleared.new.disk) (c.clear_origin-cleared.ensures.stopped told))

-- ---- another file stands

pub returns-in_err-end-in-None-clause-does : goal.returns-in_err-end-in-None-clause-does
returns-in_err-end-in-None-clause-does g c = λ told.
    let k = kept c.args.self.now.handles in
    let s = g.D.Disk.state c.args.disk.now in
    let looked = c.size.ensures.state told in
    other_stays k c.args.self.now.moment s (g.D.Disk.state c.end.new.disk) c.args.self.now.index
    (found_mark k c.args.self.now.moment s (g.D.Disk.state c.size.new.self) c.args.self.now.index looked c.in_ok-origin.field-0 _ (c.in_ok-origin.ensures.origin told) c.in-None.is)
    (g.D.Disk.state c.stored.new.disk) (c.stored.ensures.looks.state told ∙ looked) (g.met.D.Disk.sound c.stored.new.disk told)
    c.from_residual-in_err-end-in-None.result _ c.from_residual-in_err-end-in-None.ensures.1 (c.end.ensures.amid told)

pub returns-in_err-end-in-None-clause-index : goal.returns-in_err-end-in-None-clause-index
returns-in_err-end-in-None-clause-index g c = λ told.
    ended_index (kept c.args.self.now.handles) c.args.self.now.moment (g.D.Disk.state c.args.disk.now) (g.D.Disk.state c.stored.new.disk) c.args.self.now.index
    (c.stored.ensures.looks.state told ∙ c.size.ensures.state told) (g.D.Disk.state c.end.new.disk) (g.met.D.Disk.sound c.stored.new.disk told) (c.end.ensures.amid told)

pub returns-in_ok-end-in-None-clause-does : goal.returns-in_ok-end-in-None-clause-does
returns-in_ok-end-in-None-clause-does g c = λ told.
    let k = kept c.args.self.now.handles in
    let s = g.D.Disk.state c.args.disk.now in
    let v = g.D.Disk.state c.stored.new.disk in
    let looked = c.size.ensures.state told in
    let same = c.stored.ensures.looks.state told ∙ looked in
    let sound = g.met.D.Disk.sound c.stored.new.disk told in
    other_removed k c.args.self.now.moment s (g.D.Disk.state c.end.new.disk) c.args.self.now.index
    (found_mark k c.args.self.now.moment s (g.D.Disk.state c.size.new.self) c.args.self.now.index looked c.in_ok-origin.field-0 _ (c.in_ok-origin.ensures.origin told) c.in-None.is)
    v same sound (c.end.ensures.amid told) (c.in_ok-end-in-None.ensures.ended told)
    (ended_index k c.args.self.now.moment s v c.args.self.now.index same (g.D.Disk.state c.end.new.disk) sound (c.end.ensures.amid told))

pub returns-in_ok-end-in-None-clause-index : goal.returns-in_ok-end-in-None-clause-index
returns-in_ok-end-in-None-clause-index g c = λ told.
    ended_index (kept c.args.self.now.handles) c.args.self.now.moment (g.D.Disk.state c.args.disk.now) (g.D.Disk.state c.stored.new.disk) c.args.self.now.index
    (c.stored.ensures.looks.state told ∙ c.size.ensures.state told) (g.D.Disk.state c.end.new.disk) (g.met.D.Disk.sound c.stored.new.disk told) (c.end.ensures.amid told)

-- ---- where no file stands, the length of one is asked for alone

pub returns-in_err-size-clause-once : goal.returns-in_err-size-clause-once
returns-in_err-size-clause-once g c = λ told none. (c.size.ensures.state told, (c.size.result, c.size.ensures.counts told))

pub returns-then-is_none-clause-once : goal.returns-then-is_none-clause-once
returns-then-is_none-clause-once g c = λ told none. (c.size.ensures.state told, (c.size.result, c.size.ensures.counts told))

pub returns-in_err-origin-clause-once : goal.returns-in_err-origin-clause-once
returns-in_err-origin-clause-once g c = λ told none.
    absurd (none_told (standing (g.D.Disk.state c.args.disk.now) Clear) c.in_ok-size.field-0 (c.in_ok-size.ensures.size told) (c.is_none.ensures ∙ ap not c.if-is_none.false) none)

pub returns-in_err-cleared-in-Some-clause-once : goal.returns-in_err-cleared-in-Some-clause-once
returns-in_err-cleared-in-Some-clause-once g c = λ told none.
    absurd (none_told (standing (g.D.Disk.state c.args.disk.now) Clear) c.in_ok-size.field-0 (c.in_ok-size.ensures.size told) (c.is_none.ensures ∙ ap not c.if-is_none.false) none)

pub returns-in_ok-cleared-in-Some-clause-once : goal.returns-in_ok-cleared-in-Some-clause-once
returns-in_ok-cleared-in-Some-clause-once g c = λ told none.
    absurd (none_told (standing (g.D.Disk.state c.args.disk.now) Clear) c.in_ok-size.field-0 (c.in_ok-size.ensures.size told) (c.is_none.ensures ∙ ap not c.if-is_none.false) none)

pub returns-in_err-end-in-None-clause-once : goal.returns-in_err-end-in-None-clause-once
returns-in_err-end-in-None-clause-once g c = λ told none.
    absurd (none_told (standing (g.D.Disk.state c.args.disk.now) Clear) c.in_ok-size.field-0 (c.in_ok-size.ensures.size told) (c.is_none.ensures ∙ ap not c.if-is_none.false) none)

pub returns-in_ok-end-in-None-clause-once : goal.returns-in_ok-end-in-None-clause-once
returns-in_ok-end-in-None-clause-once g c = λ told none.
    absurd (none_told (standing (g.D.Disk.state c.args.disk.now) Clear) c.in_ok-size.field-0 (c.in_ok-size.ensures.size told) (c.is_none.ensures ∙ ap not c.if-is_none.false) none)

-- ---- no look follows a change

pub returns-in_err-size-clause-looks_first : goal.returns-in_err-size-clause-looks_first
returns-in_err-size-clause-looks_first g c = only_looked g.D.Disk _ c.args.disk.now c.size.new.self c.size.ensures.state

pub returns-in_err-origin-clause-looks_first : goal.returns-in_err-origin-clause-looks_first
returns-in_err-origin-clause-looks_first g c =
    only_looked g.D.Disk _ c.args.disk.now c.stored.new.disk (λ told. c.stored.ensures.looks.state told ∙ c.size.ensures.state told)

pub returns-in_err-cleared-in-Some-clause-looks_first : goal.returns-in_err-cleared-in-Some-clause-looks_first
returns-in_err-cleared-in-Some-clause-looks_first g c =
    looked_then g.D.Disk c.from_residual-in_err-cleared-in-Some.result c.in_err-cleared-in-Some.field-0.0 c.clear_origin-cleared.new.self.faulting c.args.disk.now c.stored.new.disk c.clear_origin-cleared.new.disk
    c.from_residual-in_err-cleared-in-Some.ensures.1 (λ told. c.stored.ensures.looks.state told ∙ c.size.ensures.state told) c.in_err-cleared-in-Some.ensures.looked c.in_err-cleared-in-Some.ensures.change

pub returns-in_err-end-in-None-clause-looks_first : goal.returns-in_err-end-in-None-clause-looks_first
returns-in_err-end-in-None-clause-looks_first g c =
    changed_last g.D.Disk _ c.args.disk.now c.end.new.disk
    (change_handed g.D.Disk c.from_residual-in_err-end-in-None.result c.in_err-end-in-None.field-0.0 c.end.new.disk c.from_residual-in_err-end-in-None.ensures.1 c.in_err-end-in-None.ensures.disk.change)

-- ---- the changes in their order, and what they leave at `clear`

pub returns-in_err-size-clause-ordered : goal.returns-in_err-size-clause-ordered
returns-in_err-size-clause-ordered g c = of_each (mark_of (standing (g.D.Disk.state c.args.disk.now) Clear)) (λ origin told. none_in_order origin (g.D.Disk.state c.args.disk.now) (g.D.Disk.state c.size.new.self) (c.size.ensures.state told))

pub returns-in_err-size-clause-at_clear : goal.returns-in_err-size-clause-at_clear
returns-in_err-size-clause-at_clear g c = λ told. none_at (mark_of (standing (g.D.Disk.state c.args.disk.now) Clear)) (g.D.Disk.state c.args.disk.now) (g.D.Disk.state c.size.new.self) (c.size.ensures.state told)

pub returns-then-is_none-clause-ordered : goal.returns-then-is_none-clause-ordered
returns-then-is_none-clause-ordered g c = of_each (mark_of (standing (g.D.Disk.state c.args.disk.now) Clear)) (λ origin told. none_in_order origin (g.D.Disk.state c.args.disk.now) (g.D.Disk.state c.size.new.self) (c.size.ensures.state told))

pub returns-then-is_none-clause-at_clear : goal.returns-then-is_none-clause-at_clear
returns-then-is_none-clause-at_clear g c = λ told. none_at (mark_of (standing (g.D.Disk.state c.args.disk.now) Clear)) (g.D.Disk.state c.args.disk.now) (g.D.Disk.state c.size.new.self) (c.size.ensures.state told)

pub returns-in_err-origin-clause-ordered : goal.returns-in_err-origin-clause-ordered
returns-in_err-origin-clause-ordered g c = of_each (mark_of (standing (g.D.Disk.state c.args.disk.now) Clear)) (λ origin told. none_in_order origin (g.D.Disk.state c.args.disk.now) (g.D.Disk.state c.stored.new.disk) (c.stored.ensures.looks.state told ∙ c.size.ensures.state told))

pub returns-in_err-origin-clause-at_clear : goal.returns-in_err-origin-clause-at_clear
returns-in_err-origin-clause-at_clear g c = λ told. none_at (mark_of (standing (g.D.Disk.state c.args.disk.now) Clear)) (g.D.Disk.state c.args.disk.now) (g.D.Disk.state c.stored.new.disk) (c.stored.ensures.looks.state told ∙ c.size.ensures.state told)

pub returns-in_err-cleared-in-Some-clause-ordered : goal.returns-in_err-cleared-in-Some-clause-ordered
returns-in_err-cleared-in-Some-clause-ordered g c =
    of_marked (mark_of (standing (g.D.Disk.state c.args.disk.now) Clear)) c.in-Some.origin _ (λ origin. ClearsInOrder origin (g.D.Disk.state c.args.disk.now) (g.D.Disk.state c.clear_origin-cleared.new.disk))
    (λ told. found_mark (kept c.args.self.now.handles) c.args.self.now.moment (g.D.Disk.state c.args.disk.now) (g.D.Disk.state c.size.new.self) c.args.self.now.index (c.size.ensures.state told) c.in_ok-origin.field-0 _ (c.in_ok-origin.ensures.origin told) c.in-Some.is)
    (λ told. ordered_from c.in-Some.origin (g.D.Disk.state c.args.disk.now) (g.D.Disk.state c.stored.new.disk) (g.D.Disk.state c.clear_origin-cleared.new.disk) (c.stored.ensures.looks.state told ∙ c.size.ensures.state told) (c.clear_origin-cleared.ensures.ordered told))

pub returns-in_err-cleared-in-Some-clause-at_clear : goal.returns-in_err-cleared-in-Some-clause-at_clear
returns-in_err-cleared-in-Some-clause-at_clear g c = λ told.
    subst (λ mark. ClearsAt mark (g.D.Disk.state c.args.disk.now) (g.D.Disk.state c.clear_origin-cleared.new.disk)) (sym (found_mark (kept c.args.self.now.handles) c.args.self.now.moment (g.D.Disk.state c.args.disk.now) (g.D.Disk.state c.size.new.self) c.args.self.now.index (c.size.ensures.state told) c.in_ok-origin.field-0 _ (c.in_ok-origin.ensures.origin told) c.in-Some.is))
    (clears_from c.in-Some.origin (g.D.Disk.state c.args.disk.now) (g.D.Disk.state c.stored.new.disk) (g.D.Disk.state c.clear_origin-cleared.new.disk) (c.stored.ensures.looks.state told ∙ c.size.ensures.state told) (c.clear_origin-cleared.ensures.at_clear told))

pub returns-in_ok-cleared-in-Some-clause-ordered : goal.returns-in_ok-cleared-in-Some-clause-ordered
returns-in_ok-cleared-in-Some-clause-ordered g c =
    of_marked (mark_of (standing (g.D.Disk.state c.args.disk.now) Clear)) c.in-Some.origin _ (λ origin. ClearsInOrder origin (g.D.Disk.state c.args.disk.now) (g.D.Disk.state c.clear_origin-cleared.new.disk))
    (λ told. found_mark (kept c.args.self.now.handles) c.args.self.now.moment (g.D.Disk.state c.args.disk.now) (g.D.Disk.state c.size.new.self) c.args.self.now.index (c.size.ensures.state told) c.in_ok-origin.field-0 _ (c.in_ok-origin.ensures.origin told) c.in-Some.is)
    (λ told. ordered_from c.in-Some.origin (g.D.Disk.state c.args.disk.now) (g.D.Disk.state c.stored.new.disk) (g.D.Disk.state c.clear_origin-cleared.new.disk) (c.stored.ensures.looks.state told ∙ c.size.ensures.state told) (c.clear_origin-cleared.ensures.ordered told))

pub returns-in_ok-cleared-in-Some-clause-at_clear : goal.returns-in_ok-cleared-in-Some-clause-at_clear
returns-in_ok-cleared-in-Some-clause-at_clear g c = λ told.
    subst (λ mark. ClearsAt mark (g.D.Disk.state c.args.disk.now) (g.D.Disk.state c.clear_origin-cleared.new.disk)) (sym (found_mark (kept c.args.self.now.handles) c.args.self.now.moment (g.D.Disk.state c.args.disk.now) (g.D.Disk.state c.size.new.self) c.args.self.now.index (c.size.ensures.state told) c.in_ok-origin.field-0 _ (c.in_ok-origin.ensures.origin told) c.in-Some.is))
    (clears_from c.in-Some.origin (g.D.Disk.state c.args.disk.now) (g.D.Disk.state c.stored.new.disk) (g.D.Disk.state c.clear_origin-cleared.new.disk) (c.stored.ensures.looks.state told ∙ c.size.ensures.state told) (c.clear_origin-cleared.ensures.at_clear told))

pub returns-in_err-end-in-None-clause-ordered : goal.returns-in_err-end-in-None-clause-ordered
returns-in_err-end-in-None-clause-ordered g c =
    of_unmarked (mark_of (standing (g.D.Disk.state c.args.disk.now) Clear)) _ (λ origin. ClearsInOrder origin (g.D.Disk.state c.args.disk.now) (g.D.Disk.state c.end.new.disk)) (λ told. found_mark (kept c.args.self.now.handles) c.args.self.now.moment (g.D.Disk.state c.args.disk.now) (g.D.Disk.state c.size.new.self) c.args.self.now.index (c.size.ensures.state told) c.in_ok-origin.field-0 _ (c.in_ok-origin.ensures.origin told) c.in-None.is)

pub returns-in_err-end-in-None-clause-at_clear : goal.returns-in_err-end-in-None-clause-at_clear
returns-in_err-end-in-None-clause-at_clear g c = λ told. removed_at (mark_of (standing (g.D.Disk.state c.args.disk.now) Clear)) (g.D.Disk.state c.args.disk.now) (g.D.Disk.state c.stored.new.disk) (g.D.Disk.state c.end.new.disk) (c.stored.ensures.looks.state told ∙ c.size.ensures.state told) (c.end.ensures.amid told)

pub returns-in_ok-end-in-None-clause-ordered : goal.returns-in_ok-end-in-None-clause-ordered
returns-in_ok-end-in-None-clause-ordered g c =
    of_unmarked (mark_of (standing (g.D.Disk.state c.args.disk.now) Clear)) _ (λ origin. ClearsInOrder origin (g.D.Disk.state c.args.disk.now) (g.D.Disk.state c.end.new.disk)) (λ told. found_mark (kept c.args.self.now.handles) c.args.self.now.moment (g.D.Disk.state c.args.disk.now) (g.D.Disk.state c.size.new.self) c.args.self.now.index (c.size.ensures.state told) c.in_ok-origin.field-0 _ (c.in_ok-origin.ensures.origin told) c.in-None.is)

pub returns-in_ok-end-in-None-clause-at_clear : goal.returns-in_ok-end-in-None-clause-at_clear
returns-in_ok-end-in-None-clause-at_clear g c = λ told. removed_at (mark_of (standing (g.D.Disk.state c.args.disk.now) Clear)) (g.D.Disk.state c.args.disk.now) (g.D.Disk.state c.stored.new.disk) (g.D.Disk.state c.end.new.disk) (c.stored.ensures.looks.state told ∙ c.size.ensures.state told) (c.end.ensures.amid told)
