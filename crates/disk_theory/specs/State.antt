-- What a disk holds: what was synced, and the steps since, of which the newest comes first. What stands now is all
-- steps done.
use Rattle.std.specs.Prelude.{ℕ, ◌+◌, ◌==◌, if◌then◌else◌, List, [], ◌∷◌, ◌++◌, length, take, drop, Option, Some, None, option_map}
use Rattle.disk_theory.specs.declared.place.Place.{Place}
use Rattle.disk_theory.specs.declared.place.NameStep.{NameStep}
use Rattle.disk_theory.specs.declared.place.NameStep.TheVariants.{Create, Rename, Remove}
use Rattle.disk_theory.specs.Place.{is_same}

-- a write step: the file then ends after these bytes, or it keeps what lies after them
pub data Write : Type 0 where
  End : (from : ℕ) (bytes : List ℕ) → Write
  Patch : (from : ℕ) (bytes : List ℕ) → Write

-- a content after one write
abbrev pub written : Write → List ℕ → List ℕ
written (End from bytes) content = take from content ++ bytes
written (Patch from bytes) content = take from content ++ bytes ++ drop (from + length bytes) content

-- a file: its content at the last sync, which is empty for a file made since, and its write steps since
pub record File : Type 0 where
  pub synced : List ℕ
  pub writes : List Write

-- a content after these writes
abbrev pub content_after : List ℕ → List Write → List ℕ
content_after synced [] = synced
content_after synced (write ∷ earlier) = written write (content_after synced earlier)

-- what a file holds now
abbrev pub content : File → List ℕ
content file = content_after file.synced file.writes

-- which file stands at each place
abbrev pub Names : Type 0
Names = Place → Option ℕ

-- the names with another file, or none, at one place
abbrev pub with_name : Place → Option ℕ → Names → Names
with_name place file names = λ q. if is_same q place then file else names q

-- the names after one name step
abbrev pub named : NameStep → Names → Names
named (Create place file) names = with_name place (Some file) names
named (Rename from to) names = with_name from None (with_name to (names from) names)
named (Remove place) names = with_name place None names

-- the names after these name steps
abbrev pub names_after : Names → List NameStep → Names
names_after names [] = names
names_after names (step ∷ earlier) = named step (names_after names earlier)

-- the state of a disk: what was synced, and the steps since
pub record State : Type 0 where
  -- the names at the last sync
  pub names : Names
  -- the name steps since
  pub steps : List NameStep
  pub files : ℕ → File
  -- so many files were made; their numbers are those below it
  pub made : ℕ

-- the names now
abbrev pub names_now : State → Names
names_now s = names_after s.names s.steps

-- what a file holds, if there is one
abbrev pub content_of : (ℕ → File) → Option ℕ → Option (List ℕ)
content_of files None = None
content_of files (Some file) = Some (content (files file))

-- what stands at a place now
abbrev pub standing : State → Place → Option (List ℕ)
standing s place = content_of s.files (names_now s place)

-- what stood at a place at the last sync
abbrev pub synced_at : State → Place → Option (List ℕ)
synced_at s place = option_map (λ file. (s.files file).synced) (s.names place)

-- a file with nothing in it
abbrev pub empty_file : File
empty_file = record { synced = []; writes = [] }

-- the files with another one of this number
abbrev pub with_file : ℕ → File → (ℕ → File) → ℕ → File
with_file file new files = λ k. if k == file then new else files k

-- a file after one write step more
abbrev pub add_write : Write → File → File
add_write write file = record file { writes = write ∷ file.writes }

-- the files after a write step of one of them, if there is one
abbrev pub write_to : Option ℕ → Write → (ℕ → File) → ℕ → File
write_to None write files = files
write_to (Some file) write files = with_file file (add_write write (files file)) files

-- a write to the file of this number
abbrev pub written_to : ℕ → Write → State → State
written_to file write s = record s { files = with_file file (add_write write (s.files file)) s.files }

-- What the calls of a disk do.

-- a new file takes the place, and this is what it holds
abbrev pub added : Place → File → State → State
added place file s = record s { steps = Create place s.made ∷ s.steps; files = with_file s.made file s.files; made = s.made + 1 }

-- a new empty file takes the place
abbrev pub created : Place → State → State
created place s = added place empty_file s

-- the file that stands at the place is written to
abbrev pub wrote : Place → Write → State → State
wrote place write s = record s { files = write_to (names_now s place) write s.files }

-- the file of the first place takes the second
abbrev pub renamed : Place → Place → State → State
renamed from to s = record s { steps = Rename from to ∷ s.steps }

-- no file stands at the place any more
abbrev pub removed : Place → State → State
removed place s = record s { steps = Remove place ∷ s.steps }

-- what stands now is synced, and no step is left
abbrev pub settled : State → State
settled s = record { names = names_now s; steps = []; files = λ k. record { synced = content (s.files k); writes = [] }; made = s.made }

-- the bytes from `from` on, n at most; none where no file stands
abbrev pub part_of : ℕ → ℕ → Option (List ℕ) → List ℕ
part_of from n None = []
part_of from n (Some content) = take n (drop from content)
