-- What stands over a disk: what was changed, and else what stands below.
use Rattle.std.specs.Prelude.{◌≡◌, ◌≢◌, ℕ, if◌then◌else◌, List, [], ◌++◌, take, Option, Some, None, IsSome}
use Rattle.std.specs.BTreeMap.{BTreeMap, get}
use Rattle.disk_theory.specs.declared.place.Place.{Place}
use Rattle.disk_theory.specs.contracts.place.PlaceOrd.TheImpl as place_ord
use Rattle.disk_theory.specs.Place.{is_same}
use Rattle.disk_theory.specs.Image.{Files}
use Rattle.overlay_disk.specs.declared.over.Over.{Over}
use Rattle.overlay_disk.specs.declared.over.Over.TheVariants.{Below, Gone, File}
use Rattle.overlay_disk.specs.declared.over.OverFile.{OverFile}

-- the bytes of a file, or none where there is no file
abbrev pub held : Option (List ℕ) → List ℕ
held None = []
held (Some content) = content

-- the beginning of a file, which stands below
abbrev pub beginning : Files → OverFile → List ℕ
beginning below file = take file.kept (held (below file.from))

-- what a file holds
abbrev pub content_over : Files → OverFile → List ℕ
content_over below file = beginning below file ++ file.tail.items

-- what stands at a place, over these files
abbrev pub seen_as : Files → Place → Over → Option (List ℕ)
seen_as below place Below = below place
seen_as below place Gone = None
seen_as below place (File file) = Some (content_over below file)

-- what is known of each place
abbrev pub Overs : Type 0
Overs = Place → Over

-- the slots of places
abbrev pub Slots : Type 0
Slots = BTreeMap Place Over

-- where there is no slot, what stands below does
abbrev pub over_of : Option Over → Over
over_of None = Below
over_of (Some over) = over

-- the slot of a place
abbrev pub slot_at : Slots → Place → Option Over
slot_at slots place = get place_ord.ghosts.cmp slots place

-- what the slots tell of each place
abbrev pub overs_in : Slots → Overs
overs_in slots = λ place. over_of (slot_at slots place)

-- the place has a slot
abbrev pub HasSlot : Slots → Place → Type 0
HasSlot slots place = IsSome (slot_at slots place)

-- with this at one place
abbrev pub with_over : Place → Over → Overs → Overs
with_over place over overs = λ q. if is_same q place then over else overs q

-- what stands at each place, over these files
abbrev pub seen : Files → Overs → Files
seen below overs = λ place. seen_as below place (overs place)

-- the content stands at the place, or no file where it is none, and what stands elsewhere is as before
pub record PutsAt (place : Place) (content : Option (List ℕ)) (before now : Files) : Type 0 where
  pub here : now place ≡ content
  pub others : (other : Place) → other ≢ place → now other ≡ before other

-- the file of the first place stands at the second, and what stands elsewhere is as before
pub record MovesTo (from to : Place) (before now : Files) : Type 0 where
  pub stood : IsSome (before from)
  pub moved : now to ≡ before from
  pub gone : from ≢ to → now from ≡ None
  pub others : (other : Place) → other ≢ from → other ≢ to → now other ≡ before other

-- what stands is as before
abbrev pub SameFiles : Files → Files → Type 0
SameFiles before now = (place : Place) → now place ≡ before place
