use Rattle.std.proofs.Common.{◌≡◌, ◌∙◌, ap, refl}
use Rattle.std.specs.BTreeMap.{is_at}
use Rattle.std.specs.List.{list_any}
use Rattle.std.specs.Ordering.{nat_cmp}
use Rattle.overlay_disk.proofs.ListLaws.{numbers_exact, numbers_total}
use Rattle.disk_theory.specs.declared.place.Place.TheVariants.{Doomed}
use Rattle.disk_theory.proofs.KindsOfPlaces.{doomed_in, only_doomed}
use Rattle.overlay_disk.specs.Listed.{stands_after}
use Rattle.overlay_disk.specs.Seen.{overs_in}
use Rattle.overlay_disk.specs.Shown.{files_below}
use Rattle.overlay_disk.proofs.ListLaws.{lists_seen}
use Rattle.overlay_disk.proofs.layer.Layer.doomed.Goals as goal

pub returns-clause-numbers : goal.returns-clause-numbers
returns-clause-numbers g c = λ told.
    let files = files_below g.D.Disk c.args.self.now in
    let overs = overs_in c.args.self.now.slots in
    let below = c.doomed.new.out in
    let lent : c.as_slice.result.now ≡ below = c.as_slice.ensures in
    lists_seen doomed_in Doomed (λ x. refl) only_doomed nat_cmp (λ a b. refl) numbers_total numbers_exact files overs below c.in_ok-out.field-0 (c.in_ok-doomed.ensures.numbers told)
    (λ q. c.in_ok-out.ensures.numbers q ∙ ap (λ list. stands_after (overs (Doomed q)) (list_any (is_at (nat_cmp q)) list)) lent)
