-- What an opening goes by is the same where the same files stand.
use Rattle.std.proofs.Common.{◌≡◌, ◌+◌, ◌||◌, if◌then◌else◌, List, Option, ap, subst, sym, ◌∙◌}
use Rattle.std.specs.Prelude.{IsSome, is_some, ℕ}
use Rattle.cache_base.specs.declared.name.Name.{Name}
use Rattle.disk_theory.specs.Listing.{AreEntries}
use Rattle.disk_theory.specs.State.{State, standing}
use Rattle.disk_theory.specs.declared.place.Place.{Place}
use Rattle.disk_theory.specs.declared.place.Place.TheVariants.{Index, Log, Tmp}
use Rattle.index_map.specs.Known.{BeginsAfter, Known}
use Rattle.index_theory.specs.Apart.{IsOfIndex}
use Rattle.index_theory.specs.Ever.{entries_on}
use Rattle.index_theory.specs.Honest.{Honest, index_records, journal_records}
use Rattle.index_theory.specs.IndexKind.{index_kind}
use Rattle.index_theory.specs.LogKind.{log_kind}
use Rattle.index_theory.specs.Start.{decide, start_of}
use Rattle.index_theory.proofs.StartLaws.{agrees_along}
use Rattle.cache_store.specs.InUse.{HoldsBase, OpensInUse}
use Rattle.cache_store.specs.Open.{BeginsOn, IsRest, listings, opening_behind}
use Rattle.cache_store.proofs.Records.SameIndex.{is_same, same_then}

-- the same entries are listed
pub listed_along : (s t : State) → ((name : List ℕ) → entries_on t name ≡ entries_on s name) → (names : List Name) → AreEntries t names → AreEntries s names
listed_along s t same names all name = (λ has. subst IsSome (same name.0) ((all name).0 has), λ stands. (all name).1 (subst IsSome (sym (same name.0)) stands))

module _ (s t : State) (index : (p : Place) → IsOfIndex p → standing t p ≡ standing s p) where
  pub start_along : start_of (standing t) ≡ start_of (standing s)
  start_along = λ i. decide (index_kind (index Index tt i)) (log_kind (index Log tt i)) (is_some (index Tmp tt i))

  pub behind_along : opening_behind t ≡ opening_behind s
  behind_along = λ i. (if is_some (index Tmp tt i) || is_some (index Log tt i) then 1 else 0) + listings (start_along i)

  pub in_use_along : (map : Known) (u : State) → OpensInUse t map u → OpensInUse s map u
  in_use_along map u opens found =
      let was = opens (λ build. found (sym start_along ∙ build)) in
      record {
        base = subst (λ (file : Option (List ℕ)). HoldsBase (index_records file) map) (index Index tt) was.base;
        same = same_then s t u (is_same s t (index Index tt)) was.same;
      }

  pub begins_along : (map : Known) → BeginsOn (standing t) map → BeginsOn (standing s) map
  begins_along map begins = record {
    ready = λ is.
        subst (λ (file : Option (List ℕ)). BeginsAfter (index_records file) (journal_records (standing s Log)) map) (index Index tt)
        (subst (λ (file : Option (List ℕ)). BeginsAfter (index_records (standing t Index)) (journal_records file) map) (index Log tt) (begins.ready (start_along ∙ is)));
    build = λ is. begins.build (start_along ∙ is);
  }

  module _ (same : (name : List ℕ) → entries_on t name ≡ entries_on s name) where
    pub honest_along : Honest (standing s) → Honest (standing t)
    honest_along honest ready =
        agrees_along (standing t) (standing s) (ap index_records (index Index tt)) (ap journal_records (index Log tt)) same (honest (sym start_along ∙ ready))

    pub rest_along : (rest : List Name) → IsRest t rest → IsRest s rest
    rest_along rest is = record {
      ready = λ ready. is.ready (start_along ∙ ready);
      unready = λ no. listed_along s t same rest (is.unready (λ ready. no (sym start_along ∙ ready)));
      rising = is.rising;
    }
