use Rattle.std.proofs.Common.{◌≡◌, sym, subst, Option}
use Rattle.std.specs.Prelude.{IfSome}
use Rattle.disk_theory.specs.State.{State, standing}
use Rattle.disk_theory.specs.declared.place.Place.TheVariants.{Entry}
use Rattle.chunk_store.specs.declared.damage.Damage.{Damage}
use Rattle.cache_base.specs.Limits.{chunks}
use Rattle.entry_file.proofs.Damaged.{held_along}
use Rattle.entry_file.specs.Damages.{HasMeta, first_damage}
use Rattle.entry_file.specs.Rewriting.{StoresBody}
use Rattle.entry_metadata.specs.Meta.{meta_of}
use Rattle.file_handles.proofs.Finding.FoundLoad.{loads_damaged, loads_whole, meta_has}
use Rattle.file_handles.proofs.find.load.Goals as goal

pub check_under-requires : goal.check_under-requires
check_under-requires g c = λ told.
    let P : State → Type 0 = λ s. HasMeta (standing s (Entry c.args.name.now)) (meta_of c.in_ok-meta.meta) in
    subst P (sym (c.in_ok-meta.ensures.looks.state told)) (meta_has c.args.key.now (standing (g.D.Disk.state c.args.disk.now) (Entry c.args.name.now)) c.in_ok-meta.meta (c.in_ok-meta.ensures.found told))

pub returns-in-None-clause-loads : goal.returns-in-None-clause-loads
returns-in-None-clause-loads g c = λ told.
    let place = Entry c.args.name.now in
    let m = meta_of c.in_ok-meta.meta in
    let same = c.in_ok-meta.ensures.looks.state told in
    let P : State → Type 0 = λ s. IfSome (standing s place) (λ d. c.in_ok-check_under.field-0 ≡ first_damage m d) in
    let Q : State → Type 0 = λ s. StoresBody (standing s place) m in
    let R : Option Damage → Type 0 = λ f. IfSome (standing (g.D.Disk.state c.args.disk.now) place) (λ d. f ≡ first_damage m d) in
    loads_whole c.args.key.now (standing (g.D.Disk.state c.args.disk.now) place) c.in_ok-meta.meta (c.in_ok-meta.ensures.found told)
    (subst R c.in-None.is (subst P same (c.in_ok-check_under.ensures.damage told)))
    (subst Q same (c.in_ok-check_under.ensures.stores told c.in-None.is))

pub returns-in-Some-clause-loads : goal.returns-in-Some-clause-loads
returns-in-Some-clause-loads g c = λ told.
    let place = Entry c.args.name.now in
    let m = meta_of c.in_ok-meta.meta in
    let same = c.in_ok-meta.ensures.looks.state told in
    let P : State → Type 0 = λ s. IfSome (standing s place) (λ d. c.in_ok-check_under.field-0 ≡ first_damage m d) in
    let R : Option Damage → Type 0 = λ f. IfSome (standing (g.D.Disk.state c.args.disk.now) place) (λ d. f ≡ first_damage m d) in
    loads_damaged c.args.key.now (standing (g.D.Disk.state c.args.disk.now) place) c.in_ok-meta.meta c.in-Some.damage (c.in_ok-meta.ensures.found told)
    (subst R c.in-Some.is (subst P same (c.in_ok-check_under.ensures.damage told)))

pub returns-in-None-clause-held : goal.returns-in-None-clause-held
returns-in-None-clause-held g c = λ told. held_along _ (chunks c.in_ok-meta.meta.offset) (Entry c.args.name.now) c.in_ok-meta.meta.offset
    (c.in_ok-meta.ensures.looks.state told) (c.in_ok-check_under.ensures.held told c.in-None.is)
