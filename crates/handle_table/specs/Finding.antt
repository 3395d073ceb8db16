-- Places of the table.
use Rattle.std.specs.Prelude.{Bool, None, Option, Some, false, is_none, not, ◌&&◌, List, if◌then◌else◌, option_and_then, option_map, unwrap_or, ℕ}
use Rattle.std.specs.Str.{bytes_eq}
use Rattle.cache_base.specs.declared.name.Name.{Name}
use Rattle.handle_table.specs.declared.object.Object.{Object}
use Rattle.std.specs.List.{position}
use Rattle.handle_table.specs.Held.{is_draft, key_in}
use Rattle.handle_table.specs.Kept.{Kept, object_at}

-- no object is there
abbrev pub is_free : Option Object → Bool
is_free object = is_none object

-- an undoomed object of the name is there
abbrev pub is_user : Name → Option Object → Bool
is_user name None = false
is_user name (Some x) = not x.doomed && bytes_eq x.name.0 name.0

-- the place of the undoomed object in use of a name
abbrev pub user_place : Kept → Name → Option ℕ
user_place k name = position (is_user name) k.objects

-- the place, if the object there has the key
abbrev pub if_key : Kept → List ℕ → ℕ → Option ℕ
if_key k key p =
    option_and_then (λ x. if bytes_eq (key_in x.entry) key then Some p else None) (object_at k p)

-- the place of the undoomed object in use of a name, if it has the key
abbrev pub used_place : Kept → Name → List ℕ → Option ℕ
used_place k name key = option_and_then (if_key k key) (user_place k name)

-- it is a draft
abbrev pub is_draft_at : Kept → ℕ → Bool
is_draft_at k p = unwrap_or (option_map (λ x. is_draft x.entry) (object_at k p)) false

-- the object in use of the name has the key, and is a draft
abbrev pub is_writing : Kept → Name → List ℕ → Bool
is_writing k name key = unwrap_or (option_map (is_draft_at k) (used_place k name key)) false
