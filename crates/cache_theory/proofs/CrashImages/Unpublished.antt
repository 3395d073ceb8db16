-- A file that is not published stood at no entry place, whatever changes come.
use Rattle.std.proofs.Common.{◌≡◌, inl, inr, sym, ◌∙◌, arith}
use Rattle.disk_theory.specs.declared.place.Place.TheVariants.{Doomed}
use Rattle.cache_theory.specs.Ever.{entry_place}
use Rattle.cache_theory.specs.Keeps.{CreateLeavesUnpublished, CreateUnpublished, PublishLeavesUnpublished, QuietUnpublished, RemoveLeavesUnpublished, RenameLeavesUnpublished, SyncLeavesUnpublished, WriteLeavesUnpublished}
use Rattle.cache_theory.proofs.CrashImages.EverSteps.{ever_created, ever_made, ever_removed, ever_renamed, ever_settled, ever_wrote, quiet_names}
use Rattle.cache_theory.proofs.CrashImages.FiledOnce.{entry_stays}

pub create_unpublished : CreateUnpublished
create_unpublished s k sound name at = elim (ever_created s (Doomed k) (entry_place name) s.made at) [
  | inl new ↦ cc new.0
  | inr old ↦ let lt = ever_made s (entry_place name) s.made sound old in omega (arith, lt)
]

pub create_leaves_unpublished : CreateLeavesUnpublished
create_leaves_unpublished s k file aside name at = elim (ever_created s (Doomed k) (entry_place name) file at) [
  | inl new ↦ cc new.0
  | inr old ↦ aside name old
]

pub write_leaves_unpublished : WriteLeavesUnpublished
write_leaves_unpublished s t written file writes aside name at = aside name (ever_wrote s t written (λ c. Unit {0}) writes (entry_place name) file at)

pub rename_leaves_unpublished : RenameLeavesUnpublished
rename_leaves_unpublished s name k file aside other at = aside other (entry_stays s name k other file at)

pub publish_leaves_unpublished : PublishLeavesUnpublished
publish_leaves_unpublished s k name file other aside m at = elim (ever_renamed s (Doomed k) (entry_place name) (entry_place m) file at) [
  | inl new ↦ other new.1
  | inr old ↦ aside m old
]

pub remove_leaves_unpublished : RemoveLeavesUnpublished
remove_leaves_unpublished s place file aside name at = aside name (ever_removed s place (entry_place name) file at)

pub sync_leaves_unpublished : SyncLeavesUnpublished
sync_leaves_unpublished s file aside name at = aside name (0, ever_settled s (entry_place name) file at)

pub quiet_unpublished : QuietUnpublished
quiet_unpublished s k file quiet sound now name at =
    let one : Doomed k ≡ entry_place name = sound.one_place 0 (Doomed k) (entry_place name) file now (sym (quiet_names s at.0 (entry_place name) quiet) ∙ at.1) in
    cc one
