-- The words tell which part of the program answers them; and where nothing fails, a script that the source spells is
-- performed.
use Rattle.std.proofs.Common.{arith, rules, ◌≡◌, ◌∙◌, None, Some, ap, refl, subst, sym}
use Rattle.std.specs.Option.{option_map}
use Rattle.cache_tool.proofs.Counting.{rose_once}
use Rattle.cache_tool.proofs.Loads.LoadEnds.{dump_is_not_bad}
use Rattle.cache_tool.proofs.MarkLeft.{idle_leaves_mark}
use Rattle.cache_tool.proofs.RunComplete.{nothing_failed, script_is_not_bad}
use Rattle.cache_tool.proofs.program.run.Goals as goal
use Rattle.cache_tool.specs.Asked.{asked}
use Rattle.cache_tool.specs.ByVerb.{IsWhole, Performs}
use Rattle.cache_tool.specs.Load.{IsDumpOf}
use Rattle.cache_tool.specs.MarkLeft.{LeavesMarkOf}
use Rattle.cache_tool.specs.Script.{IsScript}
use Rattle.cache_tool.specs.Syncs.{SyncsBy}
use Rattle.cache_tool.specs.World.{world}
use Rattle.cache_tool.specs.Words.{Asked, asked_in}
use Rattle.cache_script.specs.Command.{command_of}

pub returns-in-Some-Run-clause-complete : goal.returns-in-Some-Run-clause-complete
returns-in-Some-Run-clause-complete g c = λ some whole source sink disk.
    let words : asked_in c.args.words.now ≡ Some (Asked.Run c.in-Some-Run.now) = sym c.read_words.ensures.asked ∙ ap (λ r. option_map asked r) (c.in-Some-Run.is ∙ ap (λ a. Some a) c.in-Some-Run.field-0-is) in
    let spelled : IsScript (g.S.Source.left c.args.source.now) = subst (λ words. IsWhole words (g.S.Source.left c.args.source.now)) words whole in
    nothing_failed c.run_script.result c.run_script.ensures.others.0
    (λ is. script_is_not_bad (g.S.Source.left c.args.source.now) spelled (c.run_script.ensures.bad is))
    (λ is. source (c.run_script.ensures.source is)) (λ is. sink (c.run_script.ensures.sink is)) (λ is. disk (c.run_script.ensures.disk is))

pub returns-in-Some-One-clause-performs : goal.returns-in-Some-One-clause-performs
returns-in-Some-One-clause-performs g c =
    let words : asked_in c.args.words.now ≡ Some (Asked.One c.in-Some-One.now (command_of c.in-Some-One.command)) =
    sym c.read_words.ensures.asked ∙ ap (λ r. option_map asked r) (c.in-Some-One.is ∙ ap (λ a. Some a) c.in-Some-One.field-0-is) in
    let before = world g.S.Source g.K.Sink g.D.Disk c.args.source.now c.args.sink.now c.args.disk.now in
    let after = world g.S.Source g.K.Sink g.D.Disk c.args.source.now c.perform_one.new.sink c.perform_one.new.disk in
    λ tells. subst (λ asks. Performs asks c.perform_one.result before after) (sym words) (c.perform_one.ensures.answers tells)

pub returns-in-Some-Put-clause-performs : goal.returns-in-Some-Put-clause-performs
returns-in-Some-Put-clause-performs g c =
    let words : asked_in c.args.words.now ≡ Some (Asked.Put c.in-Some-Put.now c.in-Some-Put.key.now) =
    sym c.read_words.ensures.asked ∙ ap (λ r. option_map asked r) (c.in-Some-Put.is ∙ ap (λ a. Some a) c.in-Some-Put.field-0-is) in
    let before = world g.S.Source g.K.Sink g.D.Disk c.args.source.now c.args.sink.now c.args.disk.now in
    let after = world g.S.Source g.K.Sink g.D.Disk c.put.new.source c.put.new.sink c.put.new.disk in
    λ tells. subst (λ asks. Performs asks c.put.result before after) (sym words) (c.put.ensures.stores tells)

pub returns-in-Some-Load-clause-complete : goal.returns-in-Some-Load-clause-complete
returns-in-Some-Load-clause-complete g c = λ some whole source sink disk.
    let words : asked_in c.args.words.now ≡ Some (Asked.Load c.in-Some-Load.now) = sym c.read_words.ensures.asked ∙ ap (λ r. option_map asked r) (c.in-Some-Load.is ∙ ap (λ a. Some a) c.in-Some-Load.field-0-is) in
    let spelled : IsDumpOf (g.S.Source.left c.args.source.now) = subst (λ words. IsWhole words (g.S.Source.left c.args.source.now)) words whole in
    nothing_failed c.load.result c.load.ensures.others.0 (λ is. dump_is_not_bad (g.S.Source.left c.args.source.now) spelled (c.load.ensures.undumped is))
    (λ is. source (c.load.ensures.source is)) (λ is. sink (c.load.ensures.sink is)) (λ is. disk (rose_once (g.D.Disk.faults c.args.disk.now) (g.D.Disk.faults c.load.new.disk) (c.load.ensures.disk.rose is)))

-- what a crash may leave of a mark
pub returns-in-Some-One-clause-mark : goal.returns-in-Some-One-clause-mark
returns-in-Some-One-clause-mark g c =
    let words : asked_in c.args.words.now ≡ Some (Asked.One c.in-Some-One.now (command_of c.in-Some-One.command)) =
    sym c.read_words.ensures.asked ∙ ap (λ r. option_map asked r) (c.in-Some-One.is ∙ ap (λ a. Some a) c.in-Some-One.field-0-is) in
    λ told. subst (λ asks. LeavesMarkOf asks (g.D.Disk.state c.args.disk.now) (g.D.Disk.state c.perform_one.new.disk)) (sym words) (c.perform_one.ensures.mark told)

pub returns-in-Some-Put-clause-mark : goal.returns-in-Some-Put-clause-mark
returns-in-Some-Put-clause-mark g c =
    let words : asked_in c.args.words.now ≡ Some (Asked.Put c.in-Some-Put.now c.in-Some-Put.key.now) =
    sym c.read_words.ensures.asked ∙ ap (λ r. option_map asked r) (c.in-Some-Put.is ∙ ap (λ a. Some a) c.in-Some-Put.field-0-is) in
    λ told. subst (λ asks. LeavesMarkOf asks (g.D.Disk.state c.args.disk.now) (g.D.Disk.state c.put.new.disk)) (sym words) (c.put.ensures.mark told)

pub returns-in-None-clause-mark : goal.returns-in-None-clause-mark
returns-in-None-clause-mark g c =
    let words : asked_in c.args.words.now ≡ None = sym c.read_words.ensures.asked ∙ ap (λ r. option_map asked r) c.in-None.is in
    λ told.
    let s = g.D.Disk.state c.args.disk.now in
    subst (λ asks. LeavesMarkOf asks s s) (sym words) (idle_leaves_mark s s (g.met.D.Disk.sound c.args.disk.now told) refl)

pub returns-in-Some-Fill-clause-mark : goal.returns-in-Some-Fill-clause-mark
returns-in-Some-Fill-clause-mark g c =
    let words : asked_in c.args.words.now ≡ Some (Asked.Fill c.in-Some-Fill.now c.in-Some-Fill.count c.in-Some-Fill.first) = sym c.read_words.ensures.asked ∙ ap (λ r. option_map asked r) (c.in-Some-Fill.is ∙ ap (λ a. Some a) c.in-Some-Fill.field-0-is) in
    λ told. subst (λ asks. LeavesMarkOf asks (g.D.Disk.state c.args.disk.now) (g.D.Disk.state c.fill.new.disk)) (sym words) (c.fill.ensures.mark told)

pub returns-in-Some-Load-clause-mark : goal.returns-in-Some-Load-clause-mark
returns-in-Some-Load-clause-mark g c =
    let words : asked_in c.args.words.now ≡ Some (Asked.Load c.in-Some-Load.now) = sym c.read_words.ensures.asked ∙ ap (λ r. option_map asked r) (c.in-Some-Load.is ∙ ap (λ a. Some a) c.in-Some-Load.field-0-is) in
    λ told. subst (λ asks. LeavesMarkOf asks (g.D.Disk.state c.args.disk.now) (g.D.Disk.state c.load.new.disk)) (sym words) (c.load.ensures.mark told)

-- what failed, and how many syncs were made
pub returns-in-Some-Run-clause-account : goal.returns-in-Some-Run-clause-account
returns-in-Some-Run-clause-account g c =
    let words : asked_in c.args.words.now ≡ Some (Asked.Run c.in-Some-Run.now) = sym c.read_words.ensures.asked ∙ ap (λ r. option_map asked r) (c.in-Some-Run.is ∙ ap (λ a. Some a) c.in-Some-Run.field-0-is) in
    record {
      source = search rules;
      sink = search rules;
      disk = search rules;
      went_on = search rules;
      calm = search rules;
      stops = search rules;
      syncs = λ told. subst (λ asks. SyncsBy asks (g.D.Disk.counts c.args.disk.now) (g.D.Disk.counts c.run_script.new.disk)) (sym words) tt;
    }

pub returns-in-Some-Put-clause-account : goal.returns-in-Some-Put-clause-account
returns-in-Some-Put-clause-account g c =
    let words : asked_in c.args.words.now ≡ Some (Asked.Put c.in-Some-Put.now c.in-Some-Put.key.now) = sym c.read_words.ensures.asked ∙ ap (λ r. option_map asked r) (c.in-Some-Put.is ∙ ap (λ a. Some a) c.in-Some-Put.field-0-is) in
    record {
      source = search rules;
      sink = search rules;
      disk = search rules;
      went_on = search rules;
      calm = search rules;
      stops = search rules;
      syncs = λ told. subst (λ asks. SyncsBy asks (g.D.Disk.counts c.args.disk.now) (g.D.Disk.counts c.put.new.disk)) (sym words) (c.put.ensures.syncs told);
    }

pub returns-in-Some-One-clause-account : goal.returns-in-Some-One-clause-account
returns-in-Some-One-clause-account g c =
    let words : asked_in c.args.words.now ≡ Some (Asked.One c.in-Some-One.now (command_of c.in-Some-One.command)) = sym c.read_words.ensures.asked ∙ ap (λ r. option_map asked r) (c.in-Some-One.is ∙ ap (λ a. Some a) c.in-Some-One.field-0-is) in
    record {
      source = search rules;
      sink = search rules;
      disk = search rules;
      went_on = search rules;
      calm = search rules;
      stops = search rules;
      syncs = λ told. subst (λ asks. SyncsBy asks (g.D.Disk.counts c.args.disk.now) (g.D.Disk.counts c.perform_one.new.disk)) (sym words) (c.perform_one.ensures.syncs told);
    }

pub returns-in-Some-Fill-clause-account : goal.returns-in-Some-Fill-clause-account
returns-in-Some-Fill-clause-account g c =
    let words : asked_in c.args.words.now ≡ Some (Asked.Fill c.in-Some-Fill.now c.in-Some-Fill.count c.in-Some-Fill.first) = sym c.read_words.ensures.asked ∙ ap (λ r. option_map asked r) (c.in-Some-Fill.is ∙ ap (λ a. Some a) c.in-Some-Fill.field-0-is) in
    record {
      source = search rules;
      sink = search rules;
      disk = search rules;
      went_on = search rules;
      calm = search rules;
      stops = search rules;
      syncs = λ told. subst (λ asks. SyncsBy asks (g.D.Disk.counts c.args.disk.now) (g.D.Disk.counts c.fill.new.disk)) (sym words) (c.fill.ensures.syncs told);
    }

pub returns-in-Some-Load-clause-account : goal.returns-in-Some-Load-clause-account
returns-in-Some-Load-clause-account g c =
    let words : asked_in c.args.words.now ≡ Some (Asked.Load c.in-Some-Load.now) = sym c.read_words.ensures.asked ∙ ap (λ r. option_map asked r) (c.in-Some-Load.is ∙ ap (λ a. Some a) c.in-Some-Load.field-0-is) in
    record {
      source = search rules;
      sink = search rules;
      disk = search rules;
      went_on = search rules;
      calm = search rules;
      stops = search rules;
      syncs = λ told. subst (λ asks. SyncsBy asks (g.D.Disk.counts c.args.disk.now) (g.D.Disk.counts c.load.new.disk)) (sym words) tt;
    }

pub returns-in-None-clause-account : goal.returns-in-None-clause-account
returns-in-None-clause-account g c =
    let words : asked_in c.args.words.now ≡ None = sym c.read_words.ensures.asked ∙ ap (λ r. option_map asked r) c.in-None.is in
    record {
      source = search rules;
      sink = search rules;
      disk = search rules;
      went_on = search rules;
      calm = search rules;
      stops = search rules;
      syncs = λ told. subst (λ asks. SyncsBy asks (g.D.Disk.counts c.args.disk.now) (g.D.Disk.counts c.args.disk.now)) (sym words) (omega arith);
    }
