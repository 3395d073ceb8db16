-- Where the file of an object stands.
use Rattle.std.proofs.Common.{◌≡◌, ℕ, List, Option, Some, None, is_some, true, false, refl, sym, ap, subst, ◌∙◌}
use Rattle.cache_theory.specs.Ever.{entry_place}
use Rattle.cache_theory.specs.Machine.{Machine, object}
use Rattle.cache_theory.specs.Stands.{HasObjectFile, IsHeldAside, is_aside}
use Rattle.cache_theory.proofs.EntryFiles.{entry_used}
use Rattle.cache_theory.proofs.ObjectLaws.HeldAside.{published_is}
use Rattle.cache_theory.proofs.ObjectLaws.Objects.{object_at as machine_object_at}
use Rattle.cache_theory.proofs.ObjectLaws.Users.{undoomed_user}
use Rattle.disk_theory.specs.State.{State, standing}
use Rattle.disk_theory.specs.declared.place.Place.TheVariants.{Doomed}
use Rattle.entry_name.specs.EntryName.{file_name}
use Rattle.file_handles.specs.Cache.{cache_at}
use Rattle.file_handles.specs.Changes.{IsFiledAs, IsFiledAt}
use Rattle.handle_table.specs.Held.{object_place, place_of}
use Rattle.handle_table.specs.Kept.{Kept, object_at}
use Rattle.handle_table.specs.Standing.{IsObjectOf}
use Rattle.file_handles.specs.Stands.{IsAt, RepresentsSome, Stands}
use Rattle.handle_table.specs.declared.object.Object.{Object}

module _ (s : State) (k : Kept) (m : Machine) (number : ℕ → ℕ) (stands : Stands (standing s) k m number) (p : ℕ) (x : Object) (at : object_at k p ≡ Some x) where
  is_object : IsObjectOf m (number p) x
  is_object = stands.handles.objects p x at

  -- an undoomed object is the machine's under the name
  pub undoomed_is : x.doomed ≡ false → (object m (number p)).doomed ≡ false
  undoomed_is undoomed = sym is_object.as_held.doomed ∙ undoomed

  -- one that does not stand aside is finished, undoomed and under its name
  pub not_aside : x.aside ≡ None → is_aside (object m (number p)) ≡ false
  not_aside none = sym is_object.as_held.aside ∙ ap is_some none

  pub published_there : x.aside ≡ None → ((object m (number p)).finished ≡ true) × ((object m (number p)).doomed ≡ false)
  published_there none = published_is (object m (number p)) (not_aside none)

  pub published_place : x.aside ≡ None → object_place x ≡ entry_place (file_name (object m (number p)).version.key)
  published_place none = ap (place_of x.name) none ∙ ap entry_place is_object.as_held.named

  -- one that stands aside has its number
  pub aside_at : (d : ℕ) → x.aside ≡ Some d → IsAt k number d (number p)
  aside_at d e = record { place = p; object = x; at_place = at; set_aside = e; numbered = refl }

  pub aside_is : (d : ℕ) → x.aside ≡ Some d → IsHeldAside m (number p)
  aside_is d e = record { slots = is_object.in_use.slots; aside = sym is_object.as_held.aside ∙ ap is_some e }

  -- its file stands there
  pub file_stands : HasObjectFile (object m (number p)) (standing s (object_place x))
  file_stands = go x.aside refl
    where
      go : (d : Option ℕ) → x.aside ≡ d → HasObjectFile (object m (number p)) (standing s (object_place x))
      go None none =
          let name : List ℕ = file_name (object m (number p)).version.key in
          subst (HasObjectFile (object m (number p))) (sym (ap (standing s) (published_place none) ∙ stands.entries name))
          (entry_used m name (number p) stands.proper (undoomed_user m stands.proper (number p) is_object.in_use (published_there none).1) (published_there none).0)
      go (Some d) e =
          let held = stands.aside.held (number p) (aside_is d e) in
          subst (HasObjectFile (object m (number p)))
          (sym (ap (λ n. standing s (place_of x.name n)) e ∙ ap (λ n. standing s (Doomed n)) (stands.aside.one_number d held.0 (number p) (aside_at d e) held.1.0))) held.1.1

  -- so it is the machine's object, with its file
  pub is_filed : IsFiledAs x (object m (number p)) s
  is_filed = record {
    as_held = is_object.as_held;
    object = machine_object_at m.objects stands.proper.objects (number p) is_object.in_use.number;
    file = file_stands;
  }

pub filed_somehow : (s : State) (k : Kept) (p : ℕ) → RepresentsSome (cache_at k s) → IsFiledAt (cache_at k s) p
filed_somehow s k p (m, (number, stands)) x at = (object m (number p), is_filed s k m number stands p x at)
