-- What a reader of a dump shows, and what one call of it does.
use Rattle.std.specs.Prelude.{◌≡◌, ℕ, ◌+◌, ◌<◌, ◌≤◌, List, ◌++◌, length, take, drop, Option, Result, Ok, Err, IfSome, IsErrOf}
use Rattle.std.specs.Io.KnownBytes.{Consumes, IsAtEnd, prepend_known}
use Rattle.entry_metadata.specs.Meta.{meta_of}
use Rattle.cache_export.specs.Front.{front_at}
use Rattle.cache_export.specs.Parts.{NoPart, Part, Spells, SpellsEnd, Stage, after, left_of}
use Rattle.cache_export.specs.PartRead.{IfPart, IsWholePart, completed_by}
use Rattle.cache_export.specs.Progress.{stage_of}
use Rattle.cache_io.specs.Window.{items}
use Rattle.cache_export.specs.declared.front.Front.TheVariants.{More}
use Rattle.cache_export.specs.declared.item.DumpFault.{DumpFault}
use Rattle.cache_export.specs.declared.item.DumpFault.TheVariants as faults
use Rattle.cache_export.specs.declared.item.Item.{Item}
use Rattle.cache_export.specs.declared.item.Item.TheVariants as item
use Rattle.cache_export.specs.declared.limits.TheConstants.{DUMP_MAX}
use Rattle.cache_export.specs.declared.reader.DumpReader.{DumpReader}

-- the bytes that were read from the source and are no part of what was given so far
abbrev pub held_in : DumpReader → List ℕ
held_in r = items r.window

-- how many whole items were given
abbrev pub given_in : DumpReader → ℕ
given_in r = r.given

-- how many bytes of the dump the parts had that were given
abbrev pub used_in : DumpReader → ℕ
used_in r = r.used

-- what is due
abbrev pub stage_in : DumpReader → Stage
stage_in r = stage_of r.progress

-- the bytes that are held have neither the whole part that is due nor show that it is bad
abbrev pub WantsMore : DumpReader → List ℕ → Type 0
WantsMore r bytes = front_at r.progress.due (left_of r.progress.len (length r.progress.hashes)) r.used bytes ≡ More

-- a part that is due, and keeps the dump within its length, is held whole
pub record HoldsPart (r : DumpReader) : Type 0 where
  pub part : Part
  pub own : List ℕ
  pub more : List ℕ
  pub spelled : Spells (stage_in r) part own
  pub fits : used_in r + length own ≤ DUMP_MAX
  pub held : held_in r ≡ own ++ more

-- the rest of the dump, where the source tells what it has left
abbrev pub rest_of : DumpReader → Option (List ℕ) → Option (List ℕ)
rest_of r left = prepend_known (held_in r) left

-- a part that is due, or a bad one of its length, stands whole up to the place
pub record StandsWhole (r : DumpReader) (end : ℕ) : Type 0 where
  pub there : end ≤ length (held_in r)
  pub some : 0 < end
  pub fits : used_in r + end ≤ DUMP_MAX
  pub whole : IsWholePart r.progress.due (left_of r.progress.len (length r.progress.hashes))
      (take end (held_in r))

-- the part up to the place was taken, and it was this one
pub record Takes (old new : DumpReader) (end : ℕ) (item : Item) : Type 0 where
  pub part : IfPart item (λ p. Spells (stage_in old) p (take end (held_in old)))
  pub stage : IfPart item (λ p. stage_in new ≡ after (stage_in old) p (take end (held_in old)))
  pub held : held_in new ≡ drop end (held_in old)
  pub given : given_in new ≡ given_in old + completed_by item
  pub used : used_in new ≡ used_in old + end

-- the bytes up to the place are no part that is due
abbrev pub RefusesPart : DumpReader → ℕ → DumpFault → Type 0
RefusesPart old end (faults.Bad number) = (number ≡ given_in old + 1) × ((p : Part) → ¬ (Spells (stage_in old) p (take end (held_in old))))
RefusesPart old end faults.Source = ⊥
RefusesPart old end faults.Memory = Unit {0}

-- A part was given, and with it so many whole items. The bytes that were held and those that were read are the part's
-- and those that are held now.
pub record Gives (old new : DumpReader) (left now : Option (List ℕ)) (p : Part) (count : ℕ)
    : Type 0 where
  pub own : List ℕ
  pub part : Spells (stage_in old) p own
  pub stage : stage_in new ≡ after (stage_in old) p own
  pub read : List ℕ
  pub taken : Consumes left now read
  pub spelled : held_in old ++ read ≡ own ++ held_in new
  pub told : Consumes (rest_of old left) (rest_of new now) own
  pub given : given_in new ≡ given_in old + count
  pub used : used_in new ≡ used_in old + length own
  pub short : used_in new ≤ DUMP_MAX

-- The dump has ended: the bytes that were held and those that were read end it, and no byte is left.
pub record Ends (old : DumpReader) (left now : Option (List ℕ)) : Type 0 where
  pub read : List ℕ
  pub taken : Consumes left now read
  pub ending : SpellsEnd (stage_in old) (held_in old ++ read)
  pub told : IfSome (rest_of old left) (λ bytes. bytes ≡ held_in old ++ read)
  pub over : IsAtEnd now
  pub short : used_in old + length (held_in old ++ read) ≤ DUMP_MAX

-- what a call leaves, by its answer
abbrev pub LeavesReader : DumpReader → DumpReader → Option (List ℕ) → Option (List ℕ) → Result Item DumpFault → Type 0
LeavesReader old new left now (Ok (item.Key key)) = Gives old new left now (Part.KeyPart key) 0
LeavesReader old new left now (Ok (item.Piece bytes)) = Gives old new left now (Part.PiecePart bytes) 0
LeavesReader old new left now (Ok (item.Block meta)) = Gives old new left now (Part.BlockPart (meta_of meta)) 1
LeavesReader old new left now (Ok item.End) = Ends old left now
LeavesReader old new left now (Err fault) = Unit {0}

-- the fault names the item that is bad
abbrev pub Refuses : DumpReader → Option (List ℕ) → DumpFault → Type 0
Refuses old left (faults.Bad number) = (number ≡ given_in old + 1) × IfSome (rest_of old left) (NoPart (stage_in old) (used_in old))
Refuses old left faults.Source = Unit {0}
Refuses old left faults.Memory = Unit {0}

-- the answer is that the source failed
abbrev pub SourceFailed : Result Item DumpFault → Type 0
SourceFailed result = IsErrOf result faults.Source

-- where the source failed, what was held and what was read have neither the whole part that is due nor show that it
-- is bad
abbrev pub BreaksOff : DumpReader → Option (List ℕ) → Option (List ℕ) → DumpFault → Type 0
BreaksOff old left now (faults.Bad number) = Unit {0}
BreaksOff old left now faults.Source = (read : List ℕ) × (Consumes left now read × WantsMore old (held_in old ++ read))
BreaksOff old left now faults.Memory = Unit {0}
