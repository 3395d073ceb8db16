-- What the handles and the disk represent hangs neither on the moment, nor on the names that the update has still to
-- read, nor on what stands at `clear`.
use Rattle.std.proofs.Common.{Bool, ℕ, List, Option, refl}
use Rattle.cache_theory.specs.Crash.{IsCrashKept}
use Rattle.cache_theory.specs.History.{History}
use Rattle.cache_theory.specs.Machine.{Machine}
use Rattle.cache_theory.specs.Marks.{Marks}
use Rattle.cache_theory.specs.Proper.{IsProper}
use Rattle.cache_theory.specs.Stands.{AsideStand, IsHeldAside}
use Rattle.disk_theory.specs.Image.{Files}
use Rattle.disk_theory.specs.State.{State, standing}
use Rattle.file_handles.proofs.Reading.HeldChunkLaws.{chunks_on}
use Rattle.file_handles.specs.Cache.{Cache}
use Rattle.handle_table.specs.Kept.{Kept}
use Rattle.handle_table.specs.Standing.{HandlesStand}
use Rattle.file_handles.specs.Stands.{IsAt, KeepsWhere}

-- the machine with another moment, another rest and another mark
abbrev pub with_beside : Machine → ℕ → List (List ℕ) → Option (List ℕ) → Machine
with_beside m now rest mark = record m { moment = now; rest = rest; mark = mark }

module _ (m : Machine) (now : ℕ) (rest : List (List ℕ)) (mark : Option (List ℕ)) where
  held_after : (i : ℕ) → IsHeldAside m i → IsHeldAside (with_beside m now rest mark) i
  held_after i h = record { slots = h.slots; aside = h.aside }

  held_before : (i : ℕ) → IsHeldAside (with_beside m now rest mark) i → IsHeldAside m i
  held_before i h = record { slots = h.slots; aside = h.aside }

  beside_handles : (k : Kept) (number : ℕ → ℕ) → HandlesStand k m number → HandlesStand k (with_beside m now rest mark) number
  beside_handles k number stand = record {
    slots = stand.slots;
    used = stand.used;
    objects = λ p x at.
        let old = stand.objects p x at in
        record { in_use = record { number = old.in_use.number; slots = old.in_use.slots }; as_held = old.as_held };
    apart = stand.apart;
    chunks = chunks_on k k m (with_beside m now rest mark) number (λ q y at. at) (λ q y at. at) (λ i. refl) refl refl refl stand.chunks;
  }

  beside_aside : (files : Files) (At : ℕ → ℕ → Type 0) → AsideStand files m At → AsideStand files (with_beside m now rest mark) At
  beside_aside files At stand = record {
    held = λ i h. stand.held i (held_before i h);
    only = λ k some. let there = stand.only k some in (there.0, (there.1.0, held_after there.0 there.1.1));
    one_object = stand.one_object;
    one_number = stand.one_number;
  }

  beside_kept : (s : State) (w : Marks) (At : ℕ → ℕ → Type 0) → IsCrashKept s m w At → IsCrashKept s (with_beside m now rest mark) w At
  beside_kept s w At kept = record {
    safe = kept.safe;
    once = kept.once;
    aside = λ k i file name at h names ever. kept.aside k i file name at (held_before i h) names ever;
    unburied = kept.unburied;
    young = kept.young;
  }

pub beside_in : {b : Bool} (now : ℕ) (rest : List (List ℕ)) (mark : Option (List ℕ)) (at : Cache) (h : History) → IsProper (with_beside h.machine now rest mark) → KeepsWhere b at h
    → KeepsWhere b at (record { machine = with_beside h.machine now rest mark; marks = h.marks })
beside_in now rest mark at h proper is =
    let m = h.machine in
    record {
      number = is.number;
      stands = record {
        proper = proper;
        handles = beside_handles m now rest mark at.handles is.number is.stands.handles;
        entries = is.stands.entries;
        aside = beside_aside m now rest mark (standing at.disk) (IsAt at.handles is.number) is.stands.aside;
      };
      crash_kept = λ on. beside_kept m now rest mark at.disk h.marks (IsAt at.handles is.number) (is.crash_kept on);
    }
