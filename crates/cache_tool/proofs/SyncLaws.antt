-- How many syncs the parts of a run make together.
use Rattle.std.proofs.Common.{◌≤◌, ◌++◌, ◌∷◌, [], ℕ, List, length, take, arith}
use Rattle.cache_store.proofs.SyncLaws.{all_append, all_front}
use Rattle.cache_store.specs.Syncs.{most_syncs}
use Rattle.cache_theory.specs.Command.{Command}
use Rattle.cache_tool.specs.Syncs.{SyncsFor, SyncsWithin, ending_syncs, opening_syncs, run_syncs}
use Rattle.disk_theory.specs.Calls.{Counts}

-- some commands more
pub syncs_then : (cs ds : List Command) (before mid now : Counts) → SyncsFor cs before mid → SyncsFor ds mid now → SyncsFor (cs ++ ds) before now
syncs_then cs ds before mid now first more = omega (arith, first, more, all_append cs ds)

-- one more
pub syncs_next : (cs : List Command) (c : Command) (before mid now : Counts) → SyncsFor cs before mid → SyncsWithin (most_syncs c) mid now → SyncsFor (cs ++ c ∷ []) before now
syncs_next cs c before mid now first more = syncs_then cs (c ∷ []) before mid now first (omega (arith, more))

-- of the first of more commands
pub syncs_front : (read rest : List Command) (n : ℕ) (before now : Counts) → length read ≤ n → SyncsFor read before now → SyncsFor (take n (read ++ rest)) before now
syncs_front read rest n before now long few = let among = all_front read rest n long in omega (arith, among, few)

-- of an opening, of what follows, and of a closing
pub syncs_run : (n : ℕ) (before begun mid now : Counts) → SyncsWithin opening_syncs before begun → SyncsWithin n begun mid → SyncsWithin ending_syncs mid now → SyncsWithin (run_syncs n) before now
syncs_run n before begun mid now opened done closed = omega (arith, opened, done, closed)
