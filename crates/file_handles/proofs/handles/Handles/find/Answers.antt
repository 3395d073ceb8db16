use Rattle.std.proofs.Common.{◌∙◌, sym}
use Rattle.std.specs.Bool.{IsTrue}
use Rattle.file_handles.specs.Kept.{kept}
use Rattle.file_handles.proofs.Finding.Found.{finds_bad_key, finds_loaded, finds_unfinished}
use Rattle.file_handles.proofs.Finding.FoundLoad.{held_for}
use Rattle.file_handles.proofs.handles.Handles.find.Goals as goal

pub returns-then-not-may_write-clause-finds : goal.returns-then-not-may_write-clause-finds
returns-then-not-may_write-clause-finds g c = λ told. finds_bad_key c.args.key.now (g.D.Disk.state c.args.disk.now) (kept c.args.self.now) (sym c.may_write.ensures ∙ c.if-not-may_write.true)

pub returns-then-is_writing-clause-finds : goal.returns-then-is_writing-clause-finds
returns-then-is_writing-clause-finds g c = λ told.
    finds_unfinished c.args.key.now (g.D.Disk.state c.args.disk.now) (kept c.args.self.now) c.name_of-name.result c.name_of-name.ensures (sym c.may_write.ensures ∙ c.if-not-may_write.false)
    (sym c.is_writing.ensures ∙ c.if-is_writing.true)

pub returns-clause-finds : goal.returns-clause-finds
returns-clause-finds g c = λ told.
    finds_loaded c.args.key.now (g.D.Disk.state c.args.disk.now) (kept c.args.self.now) c.name_of-name.result c.name_of-name.ensures (sym c.may_write.ensures ∙ c.if-not-may_write.false)
    (sym c.is_writing.ensures ∙ c.if-is_writing.false) c.load.result (c.load.ensures.loads told)

pub returns-clause-held : goal.returns-clause-held
returns-clause-held g c =
    held_for c.load.result c.name_of-name.result c.args.key.now (g.D.Disk.state c.args.disk.now) c.load.new.chunk (IsTrue g.D.Disk.tells) c.name_of-name.ensures c.load.ensures.held
