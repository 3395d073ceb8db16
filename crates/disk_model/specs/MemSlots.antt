-- The places of a disk in memory, as the definitions see them.
use Rattle.std.specs.Prelude.{◌≡◌, ◌⊎◌, ℕ, List, [], ◌∷◌, Option, Some, None, IsSome}
use Rattle.std.specs.BTreeMap.{BTreeMap, get}
use Rattle.disk_theory.specs.declared.place.Place.{Place}
use Rattle.disk_theory.specs.declared.place.NameStep.{NameStep}
use Rattle.disk_theory.specs.declared.place.NameStep.TheVariants.{Create, Rename, Remove}
use Rattle.disk_theory.specs.contracts.place.PlaceOrd.TheImpl as place_ord
use Rattle.disk_theory.specs.State.{Names}
use Rattle.disk_model.specs.declared.mem_slots.Slot.{Slot}

-- the slots of places
abbrev pub Slots : Type 0
Slots = BTreeMap Place Slot

-- the slot of a place
abbrev pub slot_at : Slots → Place → Option Slot
slot_at slots place = get place_ord.ghosts.cmp slots place

-- the file that stands now, if there is a slot
abbrev pub now_of : Option Slot → Option ℕ
now_of None = None
now_of (Some slot) = slot.now

-- the file that stood at the last sync
abbrev pub synced_of : Option Slot → Option ℕ
synced_of None = None
synced_of (Some slot) = slot.synced

-- which file stands at each place now
abbrev pub names_in : Slots → Names
names_in slots = λ place. now_of (slot_at slots place)

-- which file stood at each place at the last sync
abbrev pub synced_names_in : Slots → Names
synced_names_in slots = λ place. synced_of (slot_at slots place)

-- the place has a slot
abbrev pub HasSlot : Slots → Place → Type 0
HasSlot slots place = IsSome (slot_at slots place)

-- each place of the step has a slot
abbrev pub HasSlots : Slots → NameStep → Type 0
HasSlots slots (Create place file) = HasSlot slots place
HasSlots slots (Rename from to) = HasSlot slots from × HasSlot slots to
HasSlots slots (Remove place) = HasSlot slots place

-- the names of both times are the same
pub record SameNames (before after : Slots) : Type 0 where
  pub current : names_in after ≡ names_in before
  pub synced : synced_names_in after ≡ synced_names_in before

-- the step names the place
abbrev pub NamesPlace : Place → NameStep → Type 0
NamesPlace p (Create place file) = p ≡ place
NamesPlace p (Rename from to) = (p ≡ from) ⊎ (p ≡ to)
NamesPlace p (Remove place) = p ≡ place

-- one of these steps does
abbrev pub IsNamedBy : Place → List NameStep → Type 0
IsNamedBy p [] = ⊥
IsNamedBy p (step ∷ steps) = NamesPlace p step ⊎ IsNamedBy p steps

-- at the places of a step the files that stand are synced, and at the others what was
abbrev pub AreSettled : Slots → Slots → NameStep → Type 0
AreSettled before after step = (p : Place) → (synced_names_in after p ≡ names_in before p) ⊎ ((synced_names_in after p ≡ synced_names_in before p) × (NamesPlace p step → ⊥))
