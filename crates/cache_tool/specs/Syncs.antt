-- How many syncs a run makes at the most.
use Rattle.std.specs.Prelude.{List, None, Option, Some, [], true, ℕ, ⊤, ◌+◌, ◌∷◌, ◌≤◌}
use Rattle.cache_store.specs.Syncs.{all_syncs, clearing_syncs, writing_syncs}
use Rattle.cache_theory.specs.Command.{Command}
use Rattle.cache_tool.specs.Words.{Asked}
use Rattle.disk_theory.specs.Account.{one_sync}
use Rattle.disk_theory.specs.Calls.{Counts}
use Rattle.disk_theory.specs.declared.disk.Disk.{Ghosts}
use Rattle.startup_read.specs.Closing.{closing_syncs}

-- an opening: of the files of the index, and of a clearing that is resumed
abbrev pub opening_syncs : ℕ
opening_syncs = one_sync + clearing_syncs

-- a closing
abbrev pub ending_syncs : ℕ
ending_syncs = closing_syncs true

-- an item of a dump, whose entry is finished and whose slot is closed
abbrev pub item_syncs : ℕ
item_syncs = one_sync + one_sync

-- as many as were made: what bounds them is said of the items
abbrev pub as_made : {Self : _} → Ghosts Self → Self → ℕ
as_made D now = (D.counts now).syncs

-- a whole run, of which its commands take so many
abbrev pub run_syncs : ℕ → ℕ
run_syncs commands = opening_syncs + commands + ending_syncs

-- no more syncs were made than that
abbrev pub SyncsWithin : ℕ → Counts → Counts → Type 0
SyncsWithin most before now = now.syncs ≤ before.syncs + most

-- no more than these commands take
abbrev pub SyncsFor : List Command → Counts → Counts → Type 0
SyncsFor cs before now = SyncsWithin (all_syncs cs) before now

-- no more than a run takes for its words; of a script and of a dump the clauses on their replies say it
abbrev pub SyncsBy : Option Asked → Counts → Counts → Type 0
SyncsBy (Some (Asked.Run moment)) before now = ⊤
SyncsBy (Some (Asked.Put moment key)) before now = SyncsWithin (run_syncs one_sync) before now
SyncsBy (Some (Asked.One moment c)) before now =
    SyncsWithin (run_syncs (all_syncs (c ∷ []))) before now
SyncsBy (Some (Asked.Fill moment count first)) before now =
    SyncsWithin (run_syncs (count + writing_syncs)) before now
SyncsBy (Some (Asked.Load moment)) before now = ⊤
SyncsBy None before now = SyncsWithin 0 before now
