use Rattle.std.proofs.Common.{◌≡◌, ◌∙◌, ◌∷◌, [], List, ap, false, filter, refl}
use Rattle.cache_base.specs.Names.{has_name}
use Rattle.cache_base.specs.declared.name.Name.{Name}
use Rattle.cache_store.proofs.Clearing.FilesAmong.{those_with_files}
use Rattle.cache_store.proofs.evict.standing.Goals as goal

-- none of some names
none_picked : (names : List Name) → ◌≡◌ {A = List Name} [] (filter (λ name. false) names)
none_picked [] = refl
none_picked (name ∷ names) = none_picked names

pub returns-then-is_empty-clause-picked : goal.returns-then-is_empty-clause-picked
returns-then-is_empty-clause-picked g c = (λ name. false, c.new-entries.ensures ∙ none_picked c.args.names.now)

pub returns-clause-picked : goal.returns-clause-picked
returns-clause-picked g c = (has_name c.as_slice.result.now, c.in_ok-common.ensures)

pub returns-clause-stand : goal.returns-clause-stand
returns-clause-stand g c = λ told.
    c.in_ok-common.ensures ∙ ap (λ (es : List Name). filter (has_name es) c.args.names.now) c.as_slice.ensures
    ∙ those_with_files (g.D.Disk.state c.args.disk.now) c.entries.new.out (c.in_ok-entries.ensures.names told) c.args.names.now
