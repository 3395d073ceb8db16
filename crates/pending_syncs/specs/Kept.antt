-- The files that are kept open, as a map from places.
use Rattle.std.specs.Prelude.{◌≡◌, ◌⊎◌, Bool, Option, Some, None, IfSome, option_map, false}
use Rattle.std.specs.BTreeMap.{get, is_at}
use Rattle.disk_theory.specs.declared.place.Place.{Place}
use Rattle.disk_theory.specs.contracts.place.PlaceOrd.TheImpl as place_ord
use Rattle.pending_syncs.specs.declared.kept.Kept.{Kept}
use Rattle.pending_syncs.specs.declared.kept.Opened.{Opened}
use Rattle.machine_files.specs.declared.machine.Machine.{Ghosts}

-- the open file that is kept of a place, with what is known of it
abbrev pub opened_at : {F : Type 0} → Kept F → Place → Option (Opened F)
opened_at kept place = get place_ord.ghosts.cmp kept.files place

-- that file alone
abbrev pub file_at : {F : Type 0} → Kept F → Place → Option F
file_at kept place = option_map (λ opened. opened.file) (opened_at kept place)

-- no file is kept of any place
abbrev pub KeepsNone : {F : Type 0} → Kept F → Type 0
KeepsNone kept = (place : Place) → opened_at kept place ≡ None

-- whether the file that is kept of the place, if any, waits for a sync
abbrev pub waits : {F : Type 0} → Option (Opened F) → Bool
waits None = false
waits (Some opened) = opened.unsynced

abbrev pub waits_at : {F : Type 0} → Kept F → Place → Bool
waits_at kept place = waits (opened_at kept place)

-- what is kept of the place stays, or is closed, and may be
abbrev pub Closes : {F : Type 0} → (Opened F → Type 0) → Place → Kept F → Kept F → Type 0
Closes MayBe place before now = (opened_at now place ≡ opened_at before place)
    ⊎ ((opened_at now place ≡ None) × IfSome (opened_at before place) MayBe)

-- so it is at each place
abbrev pub ClosesAll : {F : Type 0} → (Opened F → Type 0) → Kept F → Kept F → Type 0
ClosesAll MayBe before now = (place : Place) → Closes MayBe place before now

-- so it is at every other place
abbrev pub ClosesElsewhere : {F : Type 0} → (Opened F → Type 0) → Place → Kept F → Kept F → Type 0
ClosesElsewhere MayBe place before now = (other : Place) → is_at (place_ord.ghosts.cmp place) other ≡ false → Closes MayBe other before now

-- it waits for no sync
abbrev pub IsIdle : {F : Type 0} → Opened F → Type 0
IsIdle opened = opened.unsynced ≡ false

-- it waits for none, or was synced
abbrev pub IsSettled : {R File Dir : Type 0} → Ghosts R File Dir → R → Opened File → Type 0
IsSettled M rt opened = IsIdle opened ⊎ M.synced rt opened.file

-- what is kept of every other place stays
abbrev pub SameElsewhere : {F : Type 0} → Place → Kept F → Kept F → Type 0
SameElsewhere place before now = (other : Place) → is_at (place_ord.ghosts.cmp place) other ≡ false → opened_at now other ≡ opened_at before other

-- of each place the same file is kept, or none any more
abbrev pub SameFiles : {F : Type 0} → Kept F → Kept F → Type 0
SameFiles before now = (place : Place) → (file_at now place ≡ file_at before place) ⊎ (file_at now place ≡ None)

-- what was kept of the place stays, or none is kept any more
abbrev pub StaysOrGoes : {F : Type 0} → Place → Kept F → Kept F → Type 0
StaysOrGoes place before now = (opened_at now place ≡ opened_at before place) ⊎ (opened_at now place ≡ None)

-- what was kept of the first place is kept of the second, or closed, and nothing else is kept of either
pub record MovesKept {F : Type 0} (from to : Place) (before now : Kept F) : Type 0 where
  pub moved : (opened_at now to ≡ opened_at before from) ⊎ (opened_at now to ≡ None)
  pub left : is_at (place_ord.ghosts.cmp to) from ≡ false → opened_at now from ≡ None
  pub others : (other : Place) → is_at (place_ord.ghosts.cmp from) other ≡ false → is_at (place_ord.ghosts.cmp to) other ≡ false → Closes IsIdle other before now
