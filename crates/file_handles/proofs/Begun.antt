-- What the handles and the disk stand for, as a command begins.
use Rattle.std.proofs.Common.{◌≡◌, ℕ, ◌≤◌, List, [], length, sym, ap, subst, ◌∙◌, Bool}
use Rattle.cache_theory.specs.Command.{Command}
use Rattle.cache_theory.specs.Crash.{WasUnder}
use Rattle.cache_theory.specs.Machine.{Machine, Object as MachineObject}
use Rattle.cache_theory.specs.Marks.{Marks, begun, is_buried}
use Rattle.cache_theory.proofs.Begins.{begin_keeps, begun_marked, begun_touched}
use Rattle.disk_theory.specs.State.{State}
use Rattle.file_handles.specs.Cache.{cache_at}
use Rattle.handle_table.specs.Kept.{Kept}
use Rattle.file_handles.specs.Stands.{KeepsWhere}
use Rattle.file_handles.proofs.Histories.{history_of}

-- the same objects were doomed at the mark
pub begun_buried : (m : Machine) (c : Command) (w : Marks) (i : ℕ) → is_buried (begun m c w) i ≡ is_buried w i
begun_buried m c w i = ap (λ (marked : Machine). is_buried (record { marked = marked; touched = []; since = []; in_place = [] }) i) (begun_marked m c w)

begun_under : (m : Machine) (c : Command) (w : Marks) (i : ℕ) (o : MachineObject) (name : List ℕ) → WasUnder w i o name → WasUnder (begun m c w) i o name
begun_under m c w i o name was =
    record { finished = was.finished; unburied = begun_buried m c w i ∙ was.unburied; named = was.named; touched = begun_touched m c w name was.touched }

-- all stands as before, under the marks of the command
pub begun_in : {b : Bool} (s : State) (k : Kept) (m : Machine) (c : Command) (w : Marks) → KeepsWhere b (cache_at k s) (history_of m w) → KeepsWhere b (cache_at k s) (history_of m (begun m c w))
begun_in s k m c w is =
    record {
      number = is.number;
      stands = is.stands;
      crash_kept = λ on.
          let kept = is.crash_kept on in
          record {
            safe = begin_keeps s m c w kept.safe;
            once = kept.once;
            aside = λ d i file name at held now ever. begun_under m c w i _ name (kept.aside d i file name at held now ever);
            unburied = λ i o at un. begun_buried m c w i ∙ kept.unburied i o at un;
            young = subst (λ (marked : Machine). length marked.objects ≤ length m.objects) (sym (begun_marked m c w)) kept.young;
          };
    }
