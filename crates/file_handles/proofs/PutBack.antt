-- An object that is taken out of the table, changed, and put back.
use Rattle.std.proofs.Common.{◌≡◌, ◌⊎◌, ℕ, Option, Some, None, Result, Ok, Err, sym, ap, subst, ◌∙◌, set-set}
use Rattle.std.specs.Prelude.{IsOkAnd, OnOk}
use Rattle.std.specs.Result.{IsErr}
use Rattle.std.proofs.lemmas.Result.{IfOk-from_err}
use Rattle.cache_theory.specs.Machine.{Object as MachineObject}
use Rattle.cache_theory.specs.Stands.{object_file}
use Rattle.disk_theory.specs.Sound.{IsSound}
use Rattle.disk_theory.specs.State.{State, standing}
use Rattle.disk_theory.specs.Writes.{WritesAt}
use Rattle.file_handles.specs.Cache.{cache_at}
use Rattle.file_handles.specs.Changes.{Becomes, ChangesAt, IsFiledAs, IsMomentOf}
use Rattle.handle_table.specs.Held.{object_place}
use Rattle.handle_table.specs.Kept.{Kept, object_at, with_object}
use Rattle.file_handles.specs.Publishing.{BecomesWhole, CompletesAt, IsAmidPublishing, published_by}
use Rattle.file_handles.specs.declared.fault.HandleFault.{HandleFault}
use Rattle.file_handles.specs.declared.fault.HandleFault.TheVariants as fault
use Rattle.handle_table.specs.declared.object.Object.{Object}

-- it is put where it was taken
pub put_back : (k mid after : Kept) (p : ℕ) (x : Option Object) → mid ≡ with_object k p None → after ≡ with_object mid p x → after ≡ with_object k p x
put_back k mid after p x taken put = put ∙ ap (λ j. with_object j p x) taken ∙ ap (λ objects. record k { objects = objects }) (set-set k.objects p None x)

pub one_object : (k : Kept) (p : ℕ) (x y : Object) → object_at k p ≡ Some x → object_at k p ≡ Some y → x ≡ y
one_object k p x y at also = let both : Some x ≡ Some y = sym at ∙ also in cc

module _ {T : Type 0} (p : ℕ) (change : MachineObject → MachineObject) (answer : Result T HandleFault) (s t : State) (before after : Kept) (x : Object) (at : object_at before p ≡ Some x)
    (writes : (o : MachineObject) → IsFiledAs x o s → WritesAt (object_place x) (IsMomentOf (change o)) s t) where
  -- a call that failed puts nothing back
  pub changes_failed : IsErr answer → (z : Object) → object_at before p ≡ Some z → ChangesAt p change answer (cache_at before s) (cache_at after t) z
  changes_failed failed z also = subst (ChangesAt p change answer (cache_at before s) (cache_at after t)) (one_object before p x z at also) (record {
    changed = Err fault.Memory;
    changes = record { writes = writes; becomes = tt };
    put_back = IfOk-from_err answer (λ v. IsOkAnd {E = HandleFault} (Err fault.Memory) (λ y. after ≡ with_object before p (Some y))) failed;
  })

  -- and else the changed object
  pub changes_done : (y : Object) → ((o : MachineObject) → IsFiledAs x o s → Becomes before.chunks x y o (change o) t) → after ≡ with_object before p (Some y) → (z : Object) → object_at before p ≡ Some z
      → ChangesAt p change answer (cache_at before s) (cache_at after t) z
  changes_done y becomes put z also = subst (ChangesAt p change answer (cache_at before s) (cache_at after t)) (one_object before p x z at also) (record {
    changed = Ok y;
    changes = record { writes = writes; becomes = becomes };
    put_back = on_ok answer;
  })
    where
      on_ok : (r : Result T HandleFault) → OnOk r (IsOkAnd {E = HandleFault} (Ok y) (λ y. after ≡ with_object before p (Some y)))
      on_ok (Ok v) = put
      on_ok (Err e) = tt

-- The same of a call that finishes it.
module _ {T : Type 0} (p : ℕ) (change : MachineObject → MachineObject) (answer : Result T HandleFault) (s t u : State) (before after : Kept) (x : Object) (at : object_at before p ≡ Some x)
    (writes : (o : MachineObject) → IsFiledAs x o s → WritesAt (object_place x) (IsMomentOf (change o)) s u) (sound : IsSound u)
    (amid : (t ≡ u) ⊎ (IsAmidPublishing x.name x.doomed x.aside u t × ((o : MachineObject) → IsFiledAs x o s → standing u (object_place x) ≡ Some (object_file (change o))))) where
  pub completes_failed : IsErr answer → (z : Object) → object_at before p ≡ Some z → CompletesAt p change answer (cache_at before s) (cache_at after t) z
  completes_failed failed z also = subst (CompletesAt p change answer (cache_at before s) (cache_at after t)) (one_object before p x z at also) (record {
    changed = Err fault.Memory;
    completes = record { written = u; writes = writes; sound = sound; amid = amid; becomes = tt };
    put_back = IfOk-from_err answer (λ v. IsOkAnd {E = HandleFault} (Err fault.Memory) (λ y. after ≡ with_object before p (Some y))) failed;
  })

  pub completes_done : (y : Object) → t ≡ published_by x.name x.doomed x.aside u → ((o : MachineObject) → IsFiledAs x o s → BecomesWhole change x y o u) → after ≡ with_object before p (Some y) → (z : Object) → object_at before p ≡ Some z
      → CompletesAt p change answer (cache_at before s) (cache_at after t) z
  completes_done y is becomes put z also = subst (CompletesAt p change answer (cache_at before s) (cache_at after t)) (one_object before p x z at also) (record {
    changed = Ok y;
    completes = record { written = u; writes = writes; sound = sound; amid = amid; becomes = (is, becomes) };
    put_back = on_ok answer;
  })
    where
      on_ok : (r : Result T HandleFault) → OnOk r (IsOkAnd {E = HandleFault} (Ok y) (λ y. after ≡ with_object before p (Some y)))
      on_ok (Ok v) = put
      on_ok (Err e) = tt
