-- How many syncs a command makes at the most.
use Rattle.std.specs.Prelude.{List, [], false, true, ℕ, ◌+◌, ◌∷◌}
use Rattle.cache_base.specs.declared.name.Name.{Name}
use Rattle.cache_theory.specs.Command.{Command}
use Rattle.cache_theory.specs.Command.Command.{ClearOrigin, Close, Finish, FinishAs, Flush, Rebuild, Resume}
use Rattle.disk_theory.specs.Account.{no_sync, one_sync}
use Rattle.file_handles.specs.Closing.{close_syncs}
use Rattle.file_handles.specs.Finishing.{finish_syncs}
use Rattle.handle_table.specs.Kept.{Kept, object_in}
use Rattle.startup_read.specs.Closing.{closing_syncs}

-- a clearing syncs its mark, and then all with the mark's removal
abbrev pub clearing_syncs : ℕ
clearing_syncs = 2

-- an index is synced before it gets its name, and then all is
abbrev pub writing_syncs : ℕ
writing_syncs = 2

-- closing the cache, by the names whose files are not read yet
abbrev pub syncs_of_closing : List Name → ℕ
syncs_of_closing [] = closing_syncs true
syncs_of_closing (name ∷ names) = closing_syncs false

-- by what the handles keep: a doomed entry is not synced, nor is one that is finished when its slot is closed
abbrev pub syncs_of : Kept → Command → ℕ
syncs_of k (Finish s) = finish_syncs (object_in k s)
syncs_of k (FinishAs s header elements) = finish_syncs (object_in k s)
syncs_of k (Close s) = close_syncs k s
syncs_of k (ClearOrigin origin) = clearing_syncs
syncs_of k Resume = clearing_syncs
syncs_of k Flush = writing_syncs
syncs_of k Rebuild = writing_syncs
syncs_of k c = no_sync

-- whatever they keep
abbrev pub most_syncs : Command → ℕ
most_syncs (Finish s) = one_sync
most_syncs (FinishAs s header elements) = one_sync
most_syncs (Close s) = one_sync
most_syncs (ClearOrigin origin) = clearing_syncs
most_syncs Resume = clearing_syncs
most_syncs Flush = writing_syncs
most_syncs Rebuild = writing_syncs
most_syncs c = no_sync

-- all of these together
abbrev pub all_syncs : List Command → ℕ
all_syncs [] = no_sync
all_syncs (c ∷ cs) = most_syncs c + all_syncs cs
