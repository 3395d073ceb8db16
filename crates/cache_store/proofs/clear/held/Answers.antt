use Rattle.std.proofs.Common.{List, ap, filter, ◌∙◌}
use Rattle.cache_base.specs.declared.name.Name.{Name}
use Rattle.cache_store.specs.Clearing.{is_user_or_among}
use Rattle.file_handles.specs.Kept.{kept}
use Rattle.cache_store.proofs.Clearing.FilesAmong.{those_held}
use Rattle.cache_store.proofs.clear.held.Goals as goal

pub returns-clause-held : goal.returns-clause-held
returns-clause-held g c = λ told.
    c.in_ok-held_among.ensures ∙ ap (λ (es : List Name). filter (is_user_or_among (kept c.args.handles.now) es) c.args.names.now) c.as_slice.ensures
    ∙ those_held (g.D.Disk.state c.args.disk.now) c.entries.new.out (c.in_ok-entries.ensures.names told) (kept c.args.handles.now) c.args.names.now
