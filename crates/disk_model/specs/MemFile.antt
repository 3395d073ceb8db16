-- Files in memory, as the definitions see them.
use Rattle.std.specs.Prelude.{ℕ, List, [], map, get_or}
use Rattle.disk_theory.specs.State.{File, empty_file, content}
use Rattle.disk_model.specs.MemWrite.{history, synced_in}
use Rattle.disk_model.specs.declared.mem_file.MemFile.{MemFile}

-- the file that a file in memory stands for
abbrev pub file_of : MemFile → File
file_of f = history (synced_in f.current.items f.synced) f.writes.items

-- the file of this number, or an empty one where there is none
abbrev pub nth_file : List MemFile → ℕ → File
nth_file files k = get_or (map file_of files) k empty_file

-- a file with nothing pending
abbrev pub at_rest : File → File
at_rest f = record { synced = content f; writes = [] }
