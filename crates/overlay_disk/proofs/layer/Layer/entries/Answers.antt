use Rattle.std.proofs.Common.{◌≡◌, ◌∙◌, ap, refl}
use Rattle.std.specs.BTreeMap.{is_at}
use Rattle.std.specs.List.{list_any}
use Rattle.cache_base.specs.Names.{name_cmp}
use Rattle.cache_base.proofs.NameLaws.{name_cmp_total}
use Rattle.overlay_disk.proofs.ListLaws.{names_exact}
use Rattle.disk_theory.specs.declared.place.Place.TheVariants.{Entry}
use Rattle.disk_theory.proofs.KindsOfPlaces.{entry_in, only_entry}
use Rattle.overlay_disk.specs.Listed.{stands_after}
use Rattle.overlay_disk.specs.Seen.{overs_in}
use Rattle.overlay_disk.specs.Shown.{files_below}
use Rattle.overlay_disk.proofs.ListLaws.{lists_seen}
use Rattle.overlay_disk.proofs.layer.Layer.entries.Goals as goal

pub returns-clause-names : goal.returns-clause-names
returns-clause-names g c = λ told.
    let files = files_below g.D.Disk c.args.self.now in
    let overs = overs_in c.args.self.now.slots in
    let below = c.entries.new.out in
    let lent : c.as_slice.result.now ≡ below = c.as_slice.ensures in
    lists_seen entry_in Entry (λ x. refl) only_entry name_cmp (λ a b. refl) name_cmp_total names_exact files overs below c.in_ok-out.field-0 (c.in_ok-entries.ensures.names told)
    (λ q. c.in_ok-out.ensures.names q ∙ ap (λ list. stands_after (overs (Entry q)) (list_any (is_at (name_cmp q)) list)) lent)
