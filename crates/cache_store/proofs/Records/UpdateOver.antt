-- How the update is ended.
use Rattle.std.proofs.Common.{Bool, true, false, ◌≡◌, ◌∙◌, ℕ, [], Result, Ok, Err, IsErrAnd, refl, sym, ap, subst}
use Rattle.cache_store.specs.EndsUpdate.{EndsUpdate, IsTotal, update_over}
use Rattle.cache_store.specs.Kept.{HoldsIndex}
use Rattle.cache_store.specs.Open.{IsOpen, KeepsTo, KeepsWhere, LeavesOpen}
use Rattle.cache_store.specs.declared.fault.StoreFault.{StoreFault}
use Rattle.memory_index.specs.declared.memory_index.MemoryIndex.{MemoryIndex}
use Rattle.cache_store.proofs.Records.IndexAchieves.{goes_on_telling, holds_same_base, session_at, spares_same}
use Rattle.cache_store.proofs.Records.ListDoes.{Finishes}
use Rattle.cache_store.proofs.Performing.Represented.{keeps_bare, keeps_marked, keeps_to, represented}
use Rattle.cache_store.proofs.Evicting.SameTotals.{sums_scan}
use Rattle.cache_store.proofs.Spared.{rested_in, spared_in}
use Rattle.cache_theory.specs.Crash.{IsSafe}
use Rattle.cache_theory.specs.History.{History, settled_at}
use Rattle.disk_theory.specs.State.{State, standing}
use Rattle.disk_theory.specs.declared.place.Place.TheVariants.{Clear}
use Rattle.evictor.specs.Evict.{total_kb}
use Rattle.handle_table.specs.Kept.{Kept}
use Rattle.index_map.specs.Known.{IsKnown}
use Rattle.index_theory.specs.Honest.{LeavesHonest}
use Rattle.index_theory.proofs.UncleanLaws.{unclean_leaves_honest}
use Rattle.index_update.specs.Rest.{name_bytes}

-- the disk was only looked at, so a crash loses no more
looks_safe : (k : Kept) (now : ℕ) (s t : State) (old : MemoryIndex) → t ≡ s → (h : History) → KeepsTo (session_at k now old s) h → IsSafe t h.marks
looks_safe k now s t old same h is = ((spared_in k s t h (spares_same s t same) (keeps_marked is).stands).crash_kept refl).safe

module _ (k : Kept) (now : ℕ) (s t : State) (old new : MemoryIndex) (finishes : Finishes s t old new) where
  over_keeps : {b : Bool} (h : History) → KeepsWhere b (session_at k now old s) h → KeepsWhere b (session_at k now new t) (update_over h)
  over_keeps h is = record {
    stands = rested_in [] (record { handles = k; disk = t }) h (spared_in k s t h (spares_same s t finishes.same) is.stands);
    matches = record {
      moment = is.matches.moment;
      rest = ap name_bytes (sym finishes.ended);
      mark = is.matches.mark ∙ ap (λ (u : State). standing u Clear) (sym finishes.same);
      holds = subst (λ (u : State). HoldsIndex u new.map) (sym finishes.same) (holds_same_base s old.map new.map finishes.base is.matches.holds);
    };
  }

  pub ends_update : {T : Type 0} (answer : T) → EndsUpdate (Ok answer) (session_at k now old s) (session_at k now new t)
  ends_update answer = record {
    stands = λ m is. represented (over_keeps {b = false} (settled_at m) (keeps_bare is));
    keeps = λ h is. keeps_to (over_keeps {b = true} h (keeps_marked is));
    safe = looks_safe k now s t old finishes.same;
    tells = λ m is told. record {
      rest = ap name_bytes (sym finishes.ended);
      tells = goes_on_telling k s m old new is.stands finishes.tells told.tells;
    };
  }

  pub stays_open : {T : Type 0} (answer : T) → IsOpen (session_at k now old s) → LeavesOpen (Ok answer) (session_at k now new t)
  stays_open answer (m, is) ended = (_, (ends_update answer).stands m is)

  pub is_total : (kb : ℕ) → IsKnown new.map → kb ≡ total_kb new.map.records → IsTotal (session_at k now old s) kb
  is_total kb known sum m is told =
      sum ∙ sums_scan m new.map is.stands.1.proper ((goes_on_telling k s m old new is.stands finishes.tells told.tells).all finishes.ended) known.names

-- the names were not all read
pub update_fails : {T : Type 0} (answer : Result T StoreFault) (P : StoreFault → Type 0) → IsErrAnd answer P
    → (k : Kept) (now : ℕ) (s t : State) (old new : MemoryIndex) → t ≡ s → EndsUpdate answer (session_at k now old s) (session_at k now new t)
update_fails (Ok x) P failed k now s t old new same = absurd failed
update_fails (Err f) P failed k now s t old new same = record {
  stands = λ m is. tt;
  keeps = λ h is. tt;
  safe = looks_safe k now s t old same;
  tells = λ m is told. tt;
}

-- no crash leaves a trusted index
pub look_leaves_honest : (k : Kept) (now : ℕ) (s t : State) (old : MemoryIndex) → t ≡ s → IsOpen (session_at k now old s) → LeavesHonest t
look_leaves_honest k now s t old same (m, is) = subst LeavesHonest (sym same) (unclean_leaves_honest s is.matches.holds.unclean)
