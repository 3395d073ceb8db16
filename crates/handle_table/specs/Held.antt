-- What is held of an object, and what it has to do with the machine's.
use Rattle.std.specs.Prelude.{Bool, List, [], None, Option, Some, is_some, false, true, ℕ, ◌≡◌}
use Rattle.cache_theory.specs.Machine.{Object as MachineObject}
use Rattle.cache_theory.specs.Stands.{is_aside}
use Rattle.disk_theory.specs.declared.place.Place.{Place}
use Rattle.disk_theory.specs.declared.place.Place.TheVariants as place
use Rattle.entry_file.specs.Held.{held}
use Rattle.entry_file.specs.NewEntry.{HasBody, grown_len}
use Rattle.entry_file.specs.Version.{Version, version_meta}
use Rattle.entry_metadata.specs.Meta.{meta_of}
use Rattle.entry_name.specs.EntryName.{file_name}
use Rattle.entry_parts.specs.Elements.{Element}
use Rattle.entry_parts.specs.declared.header.Header.{Header}
use Rattle.cache_base.specs.declared.name.Name.{Name}
use Rattle.handle_table.specs.declared.object.Draft.{Draft}
use Rattle.handle_table.specs.declared.object.Entry.{Entry}
use Rattle.handle_table.specs.declared.object.Entry.TheVariants as entry
use Rattle.handle_table.specs.declared.object.Label.{Label}
use Rattle.handle_table.specs.declared.object.Object.{Object}

-- where a file stands: under its name, or aside, under its number among the doomed
abbrev pub place_of : Name → Option ℕ → Place
place_of name None = place.Entry name
place_of name (Some number) = place.Doomed number

-- where the file of an object stands
abbrev pub object_place : Object → Place
object_place x = place_of x.name x.aside

-- an object of these parts
abbrev pub object_with : ℕ → Name → Bool → Option ℕ → Entry → Object
object_with number name doomed aside e = record { number = number; name = name; doomed = doomed; aside = aside; entry = e }

-- an object of this label and entry
abbrev pub labelled : Label → Entry → Object
labelled l e = object_with l.number l.name l.doomed l.aside e

-- whether it is being written
abbrev pub is_draft : Entry → Bool
is_draft (entry.Draft d) = true
is_draft (entry.Finished meta) = false

-- the key of an entry
abbrev pub key_in : Entry → List ℕ
key_in (entry.Draft d) = d.key
key_in (entry.Finished meta) = meta.key

-- its elements
abbrev pub elements_in : Entry → List Element
elements_in (entry.Draft d) = d.elements
elements_in (entry.Finished meta) = meta.elements

-- its header
abbrev pub header_in : Entry → Header
header_in (entry.Draft d) = d.header
header_in (entry.Finished meta) = meta.header

-- what of the body is not on the disk yet
abbrev pub rest_in : Entry → List ℕ
rest_in (entry.Draft d) = (held d.body).rest
rest_in (entry.Finished meta) = []

-- the length of its body
abbrev pub body_len_in : Entry → ℕ
body_len_in (entry.Draft d) = grown_len (held d.body)
body_len_in (entry.Finished meta) = meta.offset

-- the draft is that of the version so far
pub record IsDraftOf (d : Draft) (v : Version) : Type 0 where
  pub body : HasBody (held d.body) v.body
  pub header : d.header ≡ v.header
  pub key : d.key ≡ v.key
  pub elements : d.elements ≡ v.elements

-- the entry is the machine's object
abbrev pub IsEntryOf : Entry → MachineObject → Type 0
IsEntryOf (entry.Draft d) o = (o.finished ≡ false) × IsDraftOf d o.version
IsEntryOf (entry.Finished meta) o = (o.finished ≡ true) × (meta_of meta ≡ version_meta o.version)

-- the object that is held is this one of the machine
pub record IsHeldAs (x : Object) (o : MachineObject) : Type 0 where
  pub named : x.name.0 ≡ file_name o.version.key
  pub doomed : x.doomed ≡ o.doomed
  pub aside : is_some x.aside ≡ is_aside o
  pub held_entry : IsEntryOf x.entry o
