-- What the handles and the disk represent, where the entries are spared, and where the update has read other names.
use Rattle.std.proofs.Common.{Bool, ◌∙◌, ℕ, List, [], None, sym, subst}
use Rattle.cache_theory.specs.Ever.{entry_place}
use Rattle.cache_theory.specs.History.{History}
use Rattle.cache_theory.specs.Machine.{object}
use Rattle.cache_theory.specs.Stands.{HasObjectFile}
use Rattle.cache_theory.specs.Step.{unmarked, update_ended}
use Rattle.cache_theory.proofs.Rested.{proper_rested, proper_unmarked, with_rest}
use Rattle.disk_theory.specs.State.{State}
use Rattle.disk_theory.specs.declared.place.Place.TheVariants.{Doomed}
use Rattle.file_handles.specs.Cache.{Cache, cache_at}
use Rattle.handle_table.specs.Kept.{Kept}
use Rattle.file_handles.specs.Stands.{IsAt, KeepsWhere}
use Rattle.index_keeps.proofs.KeepsLaws.{spared_is_crash_kept}
use Rattle.startup_read.specs.Spares.{SparesEntries}
use Rattle.startup_read.proofs.SparesLaws.{spared_stands}
use Rattle.cache_store.proofs.Beside.{beside_in}

-- ---- the entries are spared

pub spared_in : {b : Bool} (k : Kept) (s t : State) (h : History) → SparesEntries s t → KeepsWhere b (cache_at k s) h → KeepsWhere b (cache_at k t) h
spared_in k s t h spares is = record {
  number = is.number;
  stands = record {
    proper = is.stands.proper;
    handles = is.stands.handles;
    entries = λ name. spared_stands s t spares (entry_place name) (λ of. of) ∙ is.stands.entries name;
    aside = record {
      held = λ i has. let there = is.stands.aside.held i has in (there.0, (there.1.0, subst (HasObjectFile (object h.machine i)) (sym (spared_stands s t spares (Doomed there.0) (λ of. of))) there.1.1));
      only = λ d some. is.stands.aside.only d (λ none. some (spared_stands s t spares (Doomed d) (λ of. of) ∙ none));
      one_object = is.stands.aside.one_object;
      one_number = is.stands.aside.one_number;
    };
  };
  crash_kept = λ on. spared_is_crash_kept s t h.machine h.marks (IsAt k is.number) spares (is.crash_kept on);
}

-- ---- another rest, and no mark

pub rested_in : {b : Bool} (rest : List (List ℕ)) (at : Cache) (h : History) → KeepsWhere b at h → KeepsWhere b at (record { machine = with_rest h.machine rest; marks = h.marks })
rested_in rest at h is = beside_in h.machine.moment rest h.machine.mark at h (proper_rested h.machine rest is.stands.proper) is

-- without a mark
pub unmarked_in : {b : Bool} (at : Cache) (h : History) → KeepsWhere b at h → KeepsWhere b at (record { machine = unmarked h.machine; marks = h.marks })
unmarked_in at h is = beside_in h.machine.moment h.machine.rest None at h (proper_unmarked h.machine is.stands.proper) is

-- and with the update ended
pub ended_in : {b : Bool} (at : Cache) (h : History) → KeepsWhere b at h → KeepsWhere b at (record { machine = update_ended (unmarked h.machine); marks = h.marks })
ended_in at h is = rested_in [] at (record { machine = unmarked h.machine; marks = h.marks }) (unmarked_in at h is)
