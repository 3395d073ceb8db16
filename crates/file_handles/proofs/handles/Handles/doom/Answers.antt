use Rattle.std.proofs.Common.{◌≡◌, ap, inl, ◌∙◌, rules}
use Rattle.std.proofs.lemmas.Result.{IfOk-weaker}
use Rattle.cache_theory.specs.Command.Command.{Doom}
use Rattle.file_handles.specs.Effects.{HasEffect}
use Rattle.file_handles.specs.Kept.{kept}
use Rattle.file_handles.specs.declared.fault.Effect.TheVariants.{Gone}
use Rattle.file_handles.proofs.Dooming.DoomedCommand.{dooming_leaves, refused_on_leaves, still_represents, unused_stands}
use Rattle.file_handles.proofs.Dooming.Unmoved.{takes_of, unfinished_at}
use Rattle.file_handles.proofs.Where.{carries_out}
use Rattle.file_handles.proofs.IndexLeft.{same_left, then_left}
use Rattle.file_handles.proofs.TakingSteps.{takes_after}
use Rattle.file_handles.proofs.UnsyncedLaws.{same_unsynced, then_unsynced}
use Rattle.file_handles.proofs.handles.Handles.doom.Goals as goal

pub returns-in_err-name-clause-carried : goal.returns-in_err-name-clause-carried
returns-in_err-name-clause-carried g c = λ tells. carries_out (λ b m w stand.
    refused_on_leaves c.from_residual.result c.in_err-name.field-0.0 (g.D.Disk.state c.args.disk.now) (g.D.Disk.state c.may_doom.new.disk) (kept c.args.self.now) (Doom c.args.key.now)
    c.from_residual.ensures.1 (λ refusal same. c.in_err-name.ensures.refuses refusal same tells) (c.may_doom.ensures.looks.state tells) m w stand)

pub returns-in_err-name-clause-looks : goal.returns-in_err-name-clause-looks
returns-in_err-name-clause-looks g c = record {
  read = search rules;
  change = search rules;
  unsynced = λ told. same_unsynced (c.may_doom.ensures.looks.state told);
  index = λ told. same_left (c.may_doom.ensures.looks.state told);
  account = search rules;
}

pub doom_name-requires : goal.doom_name-requires
doom_name-requires g c = record {
  told = λ tells.
      let s = g.D.Disk.state c.args.disk.now in
      let u = g.D.Disk.state c.may_doom.new.disk in
      let k = kept c.args.self.now in
      let name = c.in_ok-name.name in
      let passes = c.in_ok-name.ensures.passes tells in
      let same = c.may_doom.ensures.looks.state tells in (
        still_represents s u k c.args.key.now name c.in_ok-name.ensures.named passes same (c.requires.told tells),
        unused_stands s u k c.args.key.now name c.in_ok-name.ensures.named passes same (c.requires.told tells),
      );
}

pub returns-clause-carried : goal.returns-clause-carried
returns-clause-carried g c = λ tells. carries_out (λ b m w stand.
    dooming_leaves (g.D.Disk.state c.args.disk.now) (g.D.Disk.state c.may_doom.new.disk) (kept c.args.self.now) c.args.key.now c.in_ok-name.name c.in_ok-name.ensures.named (c.in_ok-name.ensures.passes tells)
    (c.may_doom.ensures.looks.state tells) (g.D.Disk.state c.doom_name.new.disk) (kept c.doom_name.new.self) m w stand
    c.doom_name.result c.doom_name.ensures.aside.refused (c.doom_name.ensures.dooms tells))

pub returns-clause-looks : goal.returns-clause-looks
returns-clause-looks g c = record {
  read = search rules;
  change = search rules;
  unsynced = λ told. then_unsynced (g.D.Disk.state c.args.disk.now) (g.D.Disk.state c.may_doom.new.disk) (g.D.Disk.state c.doom_name.new.disk) (same_unsynced (c.may_doom.ensures.looks.state told)) (c.doom_name.ensures.aside.unsynced told);
  index = λ told. then_left (g.D.Disk.state c.args.disk.now) (g.D.Disk.state c.may_doom.new.disk) (g.D.Disk.state c.doom_name.new.disk) (same_left (c.may_doom.ensures.looks.state told)) (c.doom_name.ensures.aside.index told);
  account = search rules;
}

pub returns-clause-effect : goal.returns-clause-effect
returns-clause-effect g c =
    IfOk-weaker c.doom_name.result (λ e. e ≡ Gone c.in_ok-name.name) (HasEffect (kept c.args.self.now) (Doom c.args.key.now)) (λ e is.
    λ m number proper stand. is ∙ ap (λ n. Gone (record { 0 = n })) c.in_ok-name.ensures.named) c.doom_name.ensures.effect

pub returns-in_err-name-clause-takes : goal.returns-in_err-name-clause-takes
returns-in_err-name-clause-takes g c told = inl (c.may_doom.ensures.looks.state told)

pub returns-clause-takes : goal.returns-clause-takes
returns-clause-takes g c told =
    let s = g.D.Disk.state c.may_doom.new.disk in
    let t = g.D.Disk.state c.doom_name.new.disk in
    takes_of c.args.key.now c.in_ok-name.name c.in_ok-name.ensures.named (g.D.Disk.state c.args.disk.now) t
    (takes_after c.in_ok-name.name (g.D.Disk.state c.args.disk.now) s t (c.may_doom.ensures.looks.state told) (c.doom_name.ensures.aside.takes told))

pub returns-in_err-name-clause-unmoved : goal.returns-in_err-name-clause-unmoved
returns-in_err-name-clause-unmoved g c place number is = (c.may_doom.ensures.in_use place is.used, is.aside)

pub returns-clause-unmoved : goal.returns-clause-unmoved
returns-clause-unmoved g c place number is =
    let there = unfinished_at (kept c.args.self.now) c.args.key.now c.in_ok-name.name c.in_ok-name.ensures.named place number is in
    let moved = c.doom_name.ensures.aside.unmoved place number there in
    (moved.0 ∙ c.may_doom.ensures.in_use place is.used, moved.1)
