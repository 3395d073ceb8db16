use Rattle.std.proofs.Common.{◌∙◌, Result, refl, sym, subst, arith}
use Rattle.cache_theory.specs.Command.Command.{OpenKey}
use Rattle.disk_theory.specs.State.{State, standing}
use Rattle.disk_theory.specs.declared.place.Place.TheVariants.{Entry}
use Rattle.entry_file.specs.EntryFile.{read_for}
use Rattle.entry_metadata.specs.declared.meta.Meta.{Meta}
use Rattle.file_handles.specs.Answers.{done_or}
use Rattle.file_handles.specs.Cache.{cache_at}
use Rattle.file_handles.specs.Carries.{CarriesOut}
use Rattle.handle_table.specs.Kept.{kept_in, use_at}
use Rattle.file_handles.specs.Kept.{kept}
use Rattle.file_handles.specs.Loading.{LoadsAs}
use Rattle.file_handles.specs.declared.fault.HandleFault.{HandleFault}
use Rattle.file_handles.proofs.Finding.FoundUser.{unused_same}
use Rattle.file_handles.proofs.Joining.JoinedOpen.{added_leaves, bad_key_leaves, joins_leaves, taken_leaves, unread_answer, used_none}
use Rattle.file_handles.proofs.handles.Handles.open.Goals as goal

pub returns-then-is_ok-clause-carried : goal.returns-then-is_ok-clause-carried
returns-then-is_ok-clause-carried g c = λ told.
    taken_leaves (g.D.Disk.state c.args.disk.now) (kept c.args.self.now) c.args.slot c.args.key.now c.requires.slot c.use_of.result c.use_of.ensures (sym c.is_ok.ensures.value ∙ c.if-is_ok.true)

pub returns-then-not-may_write-clause-carried : goal.returns-then-not-may_write-clause-carried
returns-then-not-may_write-clause-carried g c = λ told.
    let k = kept c.args.self.now in
    bad_key_leaves (g.D.Disk.state c.args.disk.now) k c.args.slot c.args.key.now c.requires.slot (used_none (use_at k c.args.slot) c.use_of.result c.use_of.ensures (sym c.is_ok.ensures.value ∙ c.if-is_ok.false))
    (sym c.may_write.ensures ∙ c.if-not-may_write.true)

pub returns-in-Some-clause-carried : goal.returns-in-Some-clause-carried
returns-in-Some-clause-carried g c = λ told.
    let k = kept c.args.self.now in
    joins_leaves (g.D.Disk.state c.args.disk.now) k c.args.slot c.args.key.now c.requires.slot (used_none (use_at k c.args.slot) c.use_of.result c.use_of.ensures (sym c.is_ok.ensures.value ∙ c.if-is_ok.false))
    (sym c.may_write.ensures ∙ c.if-not-may_write.false) c.name_of-name.result c.name_of-name.ensures (omega arith) (kept_in c.join.new.self) c.in-Some.place (sym c.used_by.ensures.found ∙ c.in-Some.is) c.join.ensures.joins

pub returns-in_err-meta-clause-carried : goal.returns-in_err-meta-clause-carried
returns-in_err-meta-clause-carried g c = λ told.
    let k = kept c.args.self.now in
    let s = g.D.Disk.state c.args.disk.now in
    let P : Result Meta HandleFault → Type 0 = λ r. LoadsAs (read_for c.args.key.now (standing s (Entry c.name_of-name.result))) r in
    subst (λ (t : State). CarriesOut (OpenKey c.args.slot c.args.key.now) (done_or c.from_residual.result) (cache_at k s) (cache_at k t)) (sym (c.load.ensures.looks.state told))
    (unread_answer s k c.args.slot c.args.key.now c.requires.slot (used_none (use_at k c.args.slot) c.use_of.result c.use_of.ensures (sym c.is_ok.ensures.value ∙ c.if-is_ok.false))
    (sym c.may_write.ensures ∙ c.if-not-may_write.false) c.name_of-name.result c.name_of-name.ensures (omega arith) (sym c.used_by.ensures.found ∙ c.in_default.is)
    c.from_residual.result c.in_err-meta.field-0.0 c.from_residual.ensures.1 (subst P c.in_err-meta.was (c.load.ensures.loads told)))

pub returns-clause-carried : goal.returns-clause-carried
returns-clause-carried g c = λ told.
    let k = kept c.args.self.now in
    let s = g.D.Disk.state c.args.disk.now in
    let P : Result Meta HandleFault → Type 0 = λ r. LoadsAs (read_for c.args.key.now (standing s (Entry c.name_of-name.result))) r in
    subst (λ (t : State). CarriesOut (OpenKey c.args.slot c.args.key.now) (done_or c.add.result) (cache_at k s) (cache_at (kept c.add.new.self) t)) (sym (c.load.ensures.looks.state told))
    (added_leaves s k c.args.slot c.args.key.now c.requires.slot (used_none (use_at k c.args.slot) c.use_of.result c.use_of.ensures (sym c.is_ok.ensures.value ∙ c.if-is_ok.false))
    (sym c.may_write.ensures ∙ c.if-not-may_write.false) c.name_of-name.result c.name_of-name.ensures (omega arith) (sym c.used_by.ensures.found ∙ c.in_default.is)
    c.in_ok-meta.meta _ refl (subst P c.in_ok-meta.was (c.load.ensures.loads told))
    c.add.result (kept c.add.new.self) c.add.ensures.adds (λ p lt. omega arith))

pub returns-in_err-meta-clause-in_use : goal.returns-in_err-meta-clause-in_use
returns-in_err-meta-clause-in_use g c = λ m number proper stand some.
    absurd (unused_same (kept c.args.self.now) c.name_of-name.result c.args.key.now m number proper stand c.name_of-name.ensures (sym c.used_by.ensures.found ∙ c.in_default.is) some)

pub returns-clause-in_use : goal.returns-clause-in_use
returns-clause-in_use g c = λ m number proper stand some.
    absurd (unused_same (kept c.args.self.now) c.name_of-name.result c.args.key.now m number proper stand c.name_of-name.ensures (sym c.used_by.ensures.found ∙ c.in_default.is) some)

pub join-requires-clause-free : goal.join-requires-clause-free
join-requires-clause-free g c = used_none (use_at (kept c.args.self.now) c.args.slot) c.use_of.result c.use_of.ensures (sym c.is_ok.ensures.value ∙ c.if-is_ok.false)

pub add-requires-clause-free : goal.add-requires-clause-free
add-requires-clause-free g c = used_none (use_at (kept c.args.self.now) c.args.slot) c.use_of.result c.use_of.ensures (sym c.is_ok.ensures.value ∙ c.if-is_ok.false)

pub returns-in_err-meta-clause-no_memory : goal.returns-in_err-meta-clause-no_memory
returns-in_err-meta-clause-no_memory g c = λ m number proper stand some.
    absurd (unused_same (kept c.args.self.now) c.name_of-name.result c.args.key.now m number proper stand c.name_of-name.ensures (sym c.used_by.ensures.found ∙ c.in_default.is) some)

pub returns-clause-no_memory : goal.returns-clause-no_memory
returns-clause-no_memory g c = λ m number proper stand some.
    absurd (unused_same (kept c.args.self.now) c.name_of-name.result c.args.key.now m number proper stand c.name_of-name.ensures (sym c.used_by.ensures.found ∙ c.in_default.is) some)
