-- The places of entry files and of doomed ones.
use Rattle.std.proofs.Common.{◌≡◌, ℕ, false, Option, Some, None, is_some, refl, ap}
use Rattle.std.specs.declared.cmp.Ordering.TheVariants.{Less}
use Rattle.std.specs.Ordering.{nat_cmp}
use Rattle.cache_base.specs.declared.name.Name.{Name}
use Rattle.cache_base.specs.Names.{name_cmp}
use Rattle.disk_theory.specs.declared.place.Place.{Place}
use Rattle.disk_theory.specs.declared.place.Place.TheVariants.{Entry, Doomed}
use Rattle.disk_theory.specs.contracts.place.PlaceOrd.TheImpl as place_ord

abbrev pub entry_in : Place → Option Name
entry_in (Entry name) = Some name
entry_in _ = None

abbrev pub doomed_in : Place → Option ℕ
doomed_in (Doomed number) = Some number
doomed_in _ = None

pub only_entry : (p : Place) (name : Name) → entry_in p ≡ Some name → p ≡ Entry name
only_entry (Entry n) name is = let same : n ≡ name = cc in ap Entry same
only_entry p name is = cc

pub only_doomed : (p : Place) (number : ℕ) → doomed_in p ≡ Some number → p ≡ Doomed number
only_doomed (Doomed n) number is = let same : n ≡ number = cc in ap Doomed same
only_doomed p number is = cc

pub entries_rise : (a b : Name) → place_ord.ghosts.cmp (Entry a) (Entry b) ≡ Less → name_cmp a b ≡ Less
entries_rise a b is = is

pub doomed_rise : (a b : ℕ) → place_ord.ghosts.cmp (Doomed a) (Doomed b) ≡ Less → nat_cmp a b ≡ Less
doomed_rise a b is = is

pub none_there : {X : Type 0} (o : Option X) → is_some o ≡ false → o ≡ None
none_there None is = refl
none_there (Some x) is = cc
