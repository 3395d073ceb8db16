-- A table of names and files in memory, as the definitions see it.
use Rattle.disk_theory.specs.State.{State}
use Rattle.disk_model.specs.MemState.{state_from}
use Rattle.disk_model.specs.declared.mem_table.Table.{Table}

-- the state that a table stands for
abbrev pub state_of : Table → State
state_of t = state_from t.slots t.steps.items t.files.items
