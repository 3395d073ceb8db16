-- Handles that hold other chunks stand for what they stood for.
use Rattle.std.proofs.Common.{ℕ, Bool, List, sym, subst}
use Rattle.cache_theory.specs.Crash.{IsCrashKept}
use Rattle.cache_theory.specs.History.{History}
use Rattle.cache_theory.specs.Machine.{Machine}
use Rattle.cache_theory.specs.Marks.{Marks}
use Rattle.chunk_cache.specs.Cached.{CachedChunk}
use Rattle.disk_theory.specs.State.{State, standing}
use Rattle.file_handles.specs.Cache.{cache_at}
use Rattle.handle_table.specs.HeldChunks.{ChunksStand}
use Rattle.handle_table.specs.Kept.{Kept}
use Rattle.file_handles.specs.Reading.{HoldsAsBefore, SameButChunks}
use Rattle.file_handles.specs.Stands.{IsAt, KeepsWhere, Represents, Stands}
use Rattle.file_handles.proofs.Reading.ReadChunks.{with_list}

module _ (s : State) (k : Kept) (chunks : List CachedChunk) (m : Machine) (number : ℕ → ℕ) where
  at_on : (d i : ℕ) → IsAt k number d i → IsAt (with_list k chunks) number d i
  at_on d i a = record { place = a.place; object = a.object; at_place = a.at_place; set_aside = a.set_aside; numbered = a.numbered }

  at_off : (d i : ℕ) → IsAt (with_list k chunks) number d i → IsAt k number d i
  at_off d i a = record { place = a.place; object = a.object; at_place = a.at_place; set_aside = a.set_aside; numbered = a.numbered }

  stands_with : ChunksStand (with_list k chunks) m number → Stands (standing s) k m number → Stands (standing s) (with_list k chunks) m number
  stands_with held is = record {
    proper = is.proper;
    handles = record {
      slots = is.handles.slots;
      used = is.handles.used;
      objects = is.handles.objects;
      apart = is.handles.apart;
      chunks = held;
    };
    entries = is.entries;
    aside = record {
      held = λ i h. let old = is.aside.held i h in (old.0, (at_on old.0 i old.1.0, old.1.1));
      only = λ d some. let old = is.aside.only d some in (old.0, (at_on d old.0 old.1.0, old.1.1));
      one_object = λ d i j a b. is.aside.one_object d i j (at_off d i a) (at_off d j b);
      one_number = λ d e i a b. is.aside.one_number d e i (at_off d i a) (at_off e i b);
    };
  }

  crash_with : (w : Marks) → IsCrashKept s m w (IsAt k number) → IsCrashKept s m w (IsAt (with_list k chunks) number)
  crash_with w is = record {
    safe = is.safe;
    once = is.once;
    aside = λ d i file name a held names ever. is.aside d i file name (at_off d i a) held names ever;
    unburied = is.unburied;
    young = is.young;
  }

-- the chunks that handles hold, of the same objects
module _ (s : State) (k after : Kept) (same : SameButChunks k after) (holds : HoldsAsBefore (cache_at k s) after) where
  held_with : (m : Machine) (number : ℕ → ℕ) → Stands (standing s) k m number → ChunksStand (with_list k after.chunks) m number
  held_with m number is = subst (λ j. ChunksStand j m number) same (holds m number is)

  pub read_stands : (m : Machine) (number : ℕ → ℕ) → Stands (standing s) k m number → Stands (standing s) after m number
  read_stands m number is = subst (λ j. Stands (standing s) j m number) (sym same) (stands_with s k after.chunks m number (held_with m number is) is)

  pub read_represents : (m : Machine) → Represents (cache_at k s) m → Represents (cache_at after s) m
  read_represents m is = (is.0, read_stands m is.0 is.1)

  pub read_keeps : {b : Bool} (h : History) → KeepsWhere b (cache_at k s) h → KeepsWhere b (cache_at after s) h
  read_keeps {b} h is =
      subst (λ j. KeepsWhere b (cache_at j s) h) (sym same) (record {
        number = is.number;
        stands = stands_with s k after.chunks h.machine is.number (held_with h.machine is.number is.stands) is.stands;
        crash_kept = λ on. crash_with s k after.chunks h.machine is.number h.marks (is.crash_kept on);
      })
