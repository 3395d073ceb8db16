-- The index in memory as its update begins.
use Rattle.std.proofs.Common.{◌≡◌, ◌≢◌, ◌∙◌, ℕ, List, [], Result, Ok, Err, sym, ap, subst}
use Rattle.std.specs.Prelude.{IfOk, option_and_then}
use Rattle.cache_base.specs.Names.{AreSorted}
use Rattle.cache_base.specs.declared.name.Name.{Name}
use Rattle.disk_theory.specs.Listing.{AreEntries}
use Rattle.disk_theory.specs.State.{State, standing}
use Rattle.index_map.specs.Known.{Known, SameBase}
use Rattle.index_theory.specs.Apart.{IsApart}
use Rattle.index_theory.specs.Ever.{entries_on}
use Rattle.index_theory.specs.Honest.{Honest}
use Rattle.index_theory.specs.Scan.{record_of}
use Rattle.index_theory.specs.Start.{start_of}
use Rattle.index_theory.specs.Unclean.{IsUnclean}
use Rattle.index_theory.specs.declared.kinds.Start.{Start}
use Rattle.index_theory.specs.declared.kinds.Start.TheVariants.{Ready, Update, Build}
use Rattle.startup_read.specs.Kept.{KeepsIndex}
use Rattle.startup_read.specs.Opening.{OpensHonest}
use Rattle.startup_read.proofs.KeptLaws.{same_base_keeps_index}
use Rattle.cache_store.specs.Kept.{HoldsIndex}
use Rattle.cache_store.specs.Open.{IsRest}
use Rattle.memory_index.specs.Records.{SeesNone, TellsOf}
use Rattle.memory_index.specs.declared.memory_index.MemoryIndex.{MemoryIndex}
use Rattle.cache_store.proofs.Sessions.RestIsOne.{no_names}
use Rattle.cache_store.proofs.Sessions.StartAlong.{listed_along}
use Rattle.memory_index.proofs.TellsAlike.{tells_alike}

pub update_unready : (given start : Start) → given ≡ Update → given ≡ start → start ≢ Ready
update_unready given start is same ready = let both : Update ≡ Ready = sym is ∙ same ∙ ready in cc

pub build_unready : (given start : Start) → given ≡ Build → given ≡ start → start ≢ Ready
build_unready given start is same ready = let both : Build ≡ Ready = sym is ∙ same ∙ ready in cc

-- where the index is trusted nothing is left to read
pub ready_rest : (s : State) (rest : List Name) → start_of (standing s) ≡ Ready → rest ≡ [] → IsRest s rest
ready_rest s rest ready none = record { ready = λ e. none; unready = λ no. absurd (no ready); rising = subst AreSorted (sym none) no_names }

-- otherwise all entries are; they are listed once the index is opened, in a state t with the same entries
module _ {E : Type 0} (r : Result MemoryIndex E) (A : Type 0) (s t : State) (same : A → (name : List ℕ) → entries_on t name ≡ entries_on s name) where
  pub begun_rest : (A → start_of (standing s) ≢ Ready) → IfOk r (λ index. A → AreEntries t index.update) → IfOk r (λ index. AreSorted index.update)
      → IfOk r (λ index. A → IsRest s index.update)
  begun_rest unready all rising = go r all rising
    where
      go : (q : Result MemoryIndex E) → IfOk q (λ index. A → AreEntries t index.update) → IfOk q (λ index. AreSorted index.update) → IfOk q (λ index. A → IsRest s index.update)
      go (Ok index) all rising = λ a. record { ready = λ ready. absurd (unready a ready); unready = λ no. listed_along s t (same a) index.update (all a); rising = rising }
      go (Err e) all rising = tt

  pub begun_tells : (map : Known) → (A → SeesNone map) → IfOk r (λ index. A → SeesNone map → TellsOf (entries_on t) index)
      → IfOk r (λ index. A → Honest (standing s) → TellsOf (entries_on s) index)
  begun_tells map none tells = go r tells
    where
      go : (q : Result MemoryIndex E) → IfOk q (λ index. A → SeesNone map → TellsOf (entries_on t) index) → IfOk q (λ index. A → Honest (standing s) → TellsOf (entries_on s) index)
      go (Ok index) tells = λ a honest. tells_alike (entries_on t) (entries_on s) index (λ name. ap (option_and_then (record_of name)) (sym (same a name.0))) (tells a (none a))
      go (Err e) tells = tt

-- the disk then holds the index
pub begun_holds : {E : Type 0} (r : Result MemoryIndex E) (A : Type 0) (t u : State) (map : Known) → (A → u ≡ t) → (A → KeepsIndex t map) → (A → IsApart t) → (A → IsUnclean t)
    → IfOk r (λ index. SameBase map index.map) → IfOk r (λ index. A → HoldsIndex u index.map)
begun_holds (Ok index) A t u map same keeps apart unclean base = λ a.
    subst (λ v. HoldsIndex v index.map) (sym (same a)) (record { files = same_base_keeps_index t map index.map base (keeps a); apart = apart a; unclean = unclean a })
begun_holds (Err e) A t u map same keeps apart unclean base = tt

pub same_opens_honest : (s t u : State) → u ≡ t → OpensHonest s t → OpensHonest s u
same_opens_honest s t u same opens = subst (OpensHonest s) (sym same) opens
