-- What holds of all that a listing has found.
use Rattle.std.proofs.Common.{◌≡◌, sym, subst, inl, inr}
use Rattle.std.proofs.lemmas.Map.Views.{All-insert_key}
use Rattle.std.specs.BTreeSet.{BTreeSet}
use Rattle.std.specs.List.{All}
use Rattle.std.specs.declared.cmp.Ordering.{Ordering}
use Rattle.machine_files.specs.Listed.{GainsAtMost}
use Rattle.machine_files.specs.declared.listing.Found.{Found}

-- it holds of one more where it holds of that one
pub gains : {T : Type 0} (cmp : T → T → Ordering) (P : T → Type 0) (item : T) (before now : BTreeSet T) → All P before.keys → P item → GainsAtMost cmp item before now → All P now.keys
gains cmp P item before now all holds (inl same) = subst (All P) (sym same) all
gains cmp P item before now all holds (inr more) = subst (All P) (sym more) (All-insert_key cmp item P before.keys all holds)

-- it holds of all, whatever else is known of them
pub of_found : {T : Type 0} (P : T → Type 0) (found was : Found T) → found ≡ was → All P was.files.keys → All P was.folders.keys → All P found.files.keys × All P found.folders.keys
of_found P found was same files folders = subst (λ (f : Found _). All P f.files.keys × All P f.folders.keys) (sym same) (files, folders)
