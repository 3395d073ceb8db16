-- What a load of a dump does: the entry of each item is written, one after the other.
use Rattle.std.specs.List.{AllByRecursion, Any, range_with_len}
use Rattle.std.specs.Prelude.{List, None, Some, [], filter, flat_map, map, length, true, false, ℕ, ◌++◌, ◌∷◌, ◌≡◌, ◌≢◌}
use Rattle.cache_base.specs.Bytes.{AreBytes}
use Rattle.cache_base.specs.Limits.{chunks}
use Rattle.cache_export.specs.Dump.{AreItems}
use Rattle.cache_export.specs.Dumped.{dumped, may_dump, versions_in}
use Rattle.cache_theory.specs.Command.{Command}
use Rattle.cache_theory.specs.Command.Command.{Append, Close, Create, FinishAs}
use Rattle.cache_theory.specs.Command.Reply.{Done}
use Rattle.cache_theory.specs.Machine.{Machine, is_slot}
use Rattle.cache_theory.specs.Proper.{IsProper}
use Rattle.cache_theory.specs.Step.{after, replies}
use Rattle.cache_theory.specs.Table.{IsTable, Table, get, insert}
use Rattle.chunk_store.specs.Chunks.{chunk}
use Rattle.entry_file.specs.EntryFile.{found}
use Rattle.entry_file.specs.Version.{Version, file_of}
use Rattle.entry_name.specs.EntryName.{file_name}

-- the pieces of a body: its chunks
abbrev pub pieces_of : List ℕ → List (List ℕ)
pieces_of body = map (chunk body) (range_with_len 0 (chunks (length body)))

-- an entry of this key is begun in slot 0, with these pieces so far
abbrev pub item_begun : List ℕ → List (List ℕ) → List Command
item_begun key pieces = Create 0 key ∷ map (λ piece. Append 0 piece) pieces

-- and the entry of a version is written whole
abbrev pub item_written : Version → List Command
item_written v = item_begun v.key (pieces_of v.body) ++ FinishAs 0 v.header v.elements ∷ Close 0 ∷ []

-- so are those of all
abbrev pub items_written : List Version → List Command
items_written vs = flat_map item_written vs

-- the shelf with the files of these versions
abbrev pub stocked : Table (List ℕ) → List Version → Table (List ℕ)
stocked shelf [] = shelf
stocked shelf (v ∷ vs) = stocked (insert shelf (file_name v.key) (file_of v)) vs

-- all that was done answered `ok`, the shelf has the files, and the slot is free again
pub record IsStocked (m : Machine) (vs : List Version) : Type 0 where
  pub replies_ok : replies m (items_written vs) ≡ map (λ c. Done) (items_written vs)
  pub shelf : (name : List ℕ)
      → get (after m (items_written vs)).shelf name ≡ get (stocked m.shelf vs) name
  pub free : is_slot (after m (items_written vs)) 0 ≡ false

-- the items of a dump are written so
abbrev pub ItemsAreStocked : Type 0
ItemsAreStocked = (m : Machine) (vs : List Version) → IsProper m → is_slot m 0 ≡ false → AreItems None vs → IsStocked m vs

-- the names of these versions leave out that of the key
abbrev pub IsNoneNamed : List ℕ → List Version → Type 0
IsNoneNamed key vs = AllByRecursion (λ v. file_name v.key ≢ file_name key) vs

-- then each of them is found, and each key of another name is found as before
pub record FindsStock (shelf : Table (List ℕ)) (vs : List Version) : Type 0 where
  pub items : (v : Version) → Any (λ w. w ≡ v) vs → found (get (stocked shelf vs)) v.key ≡ Some v
  pub others : (key : List ℕ) → IsNoneNamed key vs
      → found (get (stocked shelf vs)) key ≡ found (get shelf) key

-- so it is on each shelf, of the items of each dump
abbrev pub StockIsFound : Type 0
StockIsFound = (shelf : Table (List ℕ)) (vs : List Version) → IsTable shelf → AreItems None vs → FindsStock shelf vs

-- the dump of a shelf leaves nothing out for its length
abbrev pub DumpsAll : Table (List ℕ) → Type 0
DumpsAll shelf = dumped shelf ≡ filter may_dump (versions_in shelf)

-- and into an empty shelf it brings back what may be dumped, and nothing else
pub record LoadsBack (shelf : Table (List ℕ)) : Type 0 where
  pub found_again : (key : List ℕ) (v : Version) → found (get shelf) key ≡ Some v
      → may_dump v ≡ true
      → found (get (stocked [] (dumped shelf))) key ≡ Some v
  pub nothing_else : (key : List ℕ) (v : Version)
      → found (get (stocked [] (dumped shelf))) key ≡ Some v → found (get shelf) key ≡ Some v

-- so it is of each shelf whose dump leaves nothing out
abbrev pub DumpLoadsBack : Type 0
DumpLoadsBack = (shelf : Table (List ℕ)) → IsTable shelf → ((name c : List ℕ) → get shelf name ≡ Some c → AreBytes c)
    → DumpsAll shelf → LoadsBack shelf
