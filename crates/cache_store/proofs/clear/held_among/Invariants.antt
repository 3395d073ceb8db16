use Rattle.std.proofs.Common.{◌≡◌, filter, take}
use Rattle.cache_store.specs.Clearing.{is_user_or_among}
use Rattle.file_handles.specs.Kept.{kept}
use Rattle.cache_store.proofs.clear.held_among.Given as goal

abbrev pub invariant-loop-name : goal.invariant-loop-name
invariant-loop-name l = l.list ≡ filter (is_user_or_among (kept l.handles) l.rising) (take l.name-index l.names)
