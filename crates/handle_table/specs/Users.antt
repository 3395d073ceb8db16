-- The entries in use, by their names.
use Rattle.std.specs.Prelude.{Bool, List, None, Option, Some, false, filter, length, map, not, true, ℕ, ◌&&◌, ◌≡◌}
use Rattle.std.specs.Str.{bytes_eq}
use Rattle.cache_base.specs.declared.name.Name.{Name}
use Rattle.cache_theory.specs.Covers.{covered_open, covers}
use Rattle.cache_theory.specs.Machine.{Machine, open_names, writing_names}
use Rattle.cache_theory.specs.Proper.{IsProper}
use Rattle.cache_theory.specs.Table.{name_of}
use Rattle.handle_table.specs.Seats.{is_use_of}
use Rattle.handle_table.specs.Held.{header_in, is_draft, key_in}
use Rattle.handle_table.specs.Kept.{Kept}
use Rattle.handle_table.specs.Finding.{user_place}
use Rattle.handle_table.specs.Standing.{HandlesStand}
use Rattle.handle_table.specs.declared.object.Entry.{Entry}
use Rattle.handle_table.specs.declared.object.Object.{Object}
use Rattle.handle_table.specs.declared.users.Asked.{Asked}
use Rattle.handle_table.specs.declared.users.Asked.TheVariants as asked

-- the number of slots that use a place, if there is one
abbrev pub users_at : Kept → Option ℕ → ℕ
users_at k None = 0
users_at k (Some p) = length (filter (is_use_of p) k.slots)

-- the number of slots that use the undoomed entry of a name
abbrev pub users_of : Kept → Name → ℕ
users_of k name = users_at k (user_place k name)

-- the names that are open in every machine that the handles stand for
abbrev pub AreOpenNames : Kept → List Name → Type 0
AreOpenNames k names =
    (m : Machine) (number : ℕ → ℕ) → IsProper m → HandlesStand k m number → names ≡ open_names m

-- and those that are being written there
abbrev pub AreWritingNames : Kept → List Name → Type 0
AreWritingNames k names =
    (m : Machine) (number : ℕ → ℕ) → IsProper m → HandlesStand k m number → names ≡ writing_names m

-- and those of the origin with this hash that are not pinned there
abbrev pub AreCoveredNames : Kept → ℕ → List Name → Type 0
AreCoveredNames k origin names =
    (m : Machine) (number : ℕ → ℕ) → IsProper m → HandlesStand k m number
    → names ≡ map name_of (covered_open m origin)

-- whether such entries are asked for
abbrev pub asks : Asked → Entry → Bool
asks asked.All e = true
asks asked.Drafts e = is_draft e
asks (asked.Of origin) e = covers origin (key_in e) (header_in e)

-- an undoomed object that is asked for
abbrev pub counts : Asked → Object → Bool
counts which x = asks which x.entry && not x.doomed

-- such a one of the name is there
abbrev pub is_counted : Asked → Name → Option Object → Bool
is_counted which name None = false
is_counted which name (Some x) = counts which x && bytes_eq x.name.0 name.0
