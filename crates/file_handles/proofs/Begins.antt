-- The handles at an opening.
use Rattle.std.proofs.Common.{◌≡◌, ◌∙◌, ℕ, List, [], Option, Some, None, sym, ap, subst, arith}
use Rattle.std.specs.Prelude.{option_map}
use Rattle.std.specs.List.{All}
use Rattle.std.proofs.lemmas.List.Elements.{All-nil}
use Rattle.cache_theory.specs.Machine.{opened}
use Rattle.cache_theory.specs.Proper.{OpensProper}
use Rattle.cache_theory.specs.Stands.{IsHeldAside}
use Rattle.cache_theory.specs.Table.{Table}
use Rattle.cache_theory.proofs.ObjectLaws.Slots.{slot_of as slot_with}
use Rattle.file_handles.specs.Carries.{StandsForOpening}
use Rattle.handle_table.specs.HeldChunks.{IsChunkInUse}
use Rattle.handle_table.specs.Kept.{Kept, object_at, use_at}
use Rattle.handle_table.specs.Standing.{HandlesStand}
use Rattle.file_handles.specs.Stands.{IsAt, Stands}
use Rattle.handle_table.specs.declared.object.Object.{Object}
use Rattle.handle_table.specs.declared.object.Use.{Use}
use Rattle.cache_theory.specs.Crash.{IsCrashKept, IsSafe}
use Rattle.cache_theory.specs.Ever.{IsFiledOnce}
use Rattle.cache_theory.specs.Marks.{marks_of}
use Rattle.disk_theory.specs.State.{standing}

never_some : {X : Type 0} (P : Type 0) (x : X) → None ≡ Some x → P
never_some P x e = absurd (cc)

-- handles without objects and uses
module _ (k : Kept) (objects : (p : ℕ) → object_at k p ≡ None) (uses : (t : ℕ) → use_at k t ≡ None) (none_made : k.made ≡ 0) (no_chunks : k.chunks ≡ []) (proper_opens : OpensProper) where
  no_object : (p : ℕ) (x : Object) → object_at k p ≡ Some x → ⊥
  no_object p x at = never_some ⊥ x (sym (objects p) ∙ at)

  no_use : (t : ℕ) (u : Use) → use_at k t ≡ Some u → ⊥
  no_use t u at = never_some ⊥ u (sym (uses t) ∙ at)

  none_held : (now : ℕ) (shelf : Table (List ℕ)) (mark : Option (List ℕ)) (rest : List (List ℕ)) (i : ℕ) → IsHeldAside (opened now shelf mark rest) i → ⊥
  none_held now shelf mark rest i h = let slot = slot_with (opened now shelf mark rest) i h.slots in never_some ⊥ _ slot.at

  none_there : (now : ℕ) (shelf : Table (List ℕ)) (mark : Option (List ℕ)) (rest : List (List ℕ)) → HandlesStand k (opened now shelf mark rest) (λ p. 0)
  none_there now shelf mark rest = record {
    slots = λ t lt. ap (option_map (λ (u : Use). record { object = 0; writes = u.writes })) (sym (uses t));
    used = λ t u at. absurd (no_use t u at);
    objects = λ p x at. absurd (no_object p x at);
    apart = λ p q x y at also same. absurd (no_object p x at);
    chunks = record { numbered = λ p x at. absurd (no_object p x at); made = none_made; held = subst (All (IsChunkInUse k (opened now shelf mark rest))) (sym no_chunks) (All-nil (IsChunkInUse k (opened now shelf mark rest))) };
  }

  pub begins : StandsForOpening k
  begins s now shelf mark rest small is no_doomed = record { stands = (λ p. 0, stands); crash = λ once safe. record { number = λ p. 0; stands = stands; crash_kept = crash_kept once safe } }
    where
      stands : Stands (standing s) k (opened now shelf mark rest) (λ p. 0)
      stands = record {
        proper = proper_opens now shelf mark rest small is.table is.bytes;
        handles = none_there now shelf mark rest;
        entries = is.entries_are;
        aside = record {
          held = λ i h. absurd (none_held now shelf mark rest i h);
          only = λ d some. absurd (some (no_doomed d));
          one_object = λ d i j a b. absurd (no_object a.place a.object a.at_place);
          one_number = λ d e i a b. absurd (no_object a.place a.object a.at_place);
        };
      }

      crash_kept : IsFiledOnce s → IsSafe s (marks_of (opened now shelf mark rest)) → IsCrashKept s (opened now shelf mark rest) (marks_of (opened now shelf mark rest)) (IsAt k (λ p. 0))
      crash_kept once safe = record {
        safe = safe;
        once = once;
        aside = λ d i file name a h now ever. absurd (no_object a.place a.object a.at_place);
        unburied = λ i o at un. never_some _ o at;
        young = omega arith;
      }
