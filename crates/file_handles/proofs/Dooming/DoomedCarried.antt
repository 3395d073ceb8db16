-- What a command leaves that is refused, that fails, or that is done.
use Rattle.std.proofs.Common.{◌≡◌, ℕ, List, [], ◌∷◌, ◌++◌, true, Some, None, refl, sym, ap, subst, ◌∙◌, Bool, IsTrue}
use Rattle.std.specs.Prelude.{◌||◌}
use Rattle.std.specs.List.{list_any}
use Rattle.std.specs.Str.{bytes_eq}
use Rattle.std.specs.Cmp.Lexicographic.{bytes_decides}
use Rattle.cache_base.specs.Checks.{first_failing}
use Rattle.cache_theory.specs.Checks.{checks}
use Rattle.cache_theory.specs.Command.{Command}
use Rattle.cache_theory.specs.Command.Reply.{Done, Refused}
use Rattle.cache_theory.specs.Crash.{IsSafe}
use Rattle.cache_theory.specs.Machine.{Machine}
use Rattle.cache_theory.specs.Marks.{Marks, acked, begun, begun_by, is_touched, touches}
use Rattle.cache_theory.specs.Step.{effect, step, stepped}
use Rattle.cache_theory.specs.declared.refusal.Refusal.{Refusal}
use Rattle.disk_theory.specs.State.{State}
use Rattle.file_handles.specs.Cache.{cache_at}
use Rattle.handle_table.specs.Kept.{Kept}
use Rattle.file_handles.specs.Stands.{KeepsWhere}
use Rattle.file_handles.proofs.Begun.{begun_in}
use Rattle.file_handles.proofs.Histories.{history_of}
use Rattle.file_handles.proofs.Refused.{acked_refused}
use Rattle.file_handles.proofs.Where.{LeavesWhere}

-- a refusal in this state of the machine
pub refused_in : {b : Bool} (s : State) (k : Kept) (c : Command) (r : Refusal) (m : Machine) (w : Marks) → KeepsWhere b (cache_at k s) (history_of m w) → first_failing (checks m c) ≡ Some r → LeavesWhere b c (history_of m w) (Some (Refused r)) (cache_at k s)
refused_in {b} s k c r m w is fails = record {
  safe = λ on. ((begun_in s k m c w is).crash_kept on).safe;
  replies = ap (λ o. (stepped m c o).reply) (sym fails);
  next = subst (λ (v : Marks). KeepsWhere b (cache_at k s) (history_of (step m c).next v)) (sym (acked_refused m c w r fails)) (subst (λ (n : Machine). KeepsWhere b (cache_at k s) (history_of n w)) (ap (λ o. (stepped m c o).next) (sym fails)) is);
}

-- no reply
pub failed_in : {b : Bool} (t : State) (after : Kept) (c : Command) (m : Machine) (w : Marks) → (IsTrue b → IsSafe t (begun m c w)) → LeavesWhere b c (history_of m w) None (cache_at after t)
failed_in t after c m w safe = record { safe = safe; replies = tt; next = tt }

-- it is done
pub done_in : {b : Bool} (t : State) (after : Kept) (c : Command) (m : Machine) (w : Marks) → first_failing (checks m c) ≡ None → acked m c w ≡ begun m c w → (effect m c).reply ≡ Done
    → KeepsWhere b (cache_at after t) (history_of (effect m c).next (begun m c w)) → LeavesWhere b c (history_of m w) (Some Done) (cache_at after t)
done_in {b} t after c m w passes acks replies is = record {
  safe = λ on. (is.crash_kept on).safe;
  replies = sym (ap (λ o. (stepped m c o).reply) passes ∙ replies);
  next = subst (λ (v : Marks). KeepsWhere b (cache_at after t) (history_of (step m c).next v)) (sym acks) (subst (λ (n : Machine). KeepsWhere b (cache_at after t) (history_of n (begun m c w))) (ap (λ o. (stepped m c o).next) (sym passes)) is);
}

pub touched_first : (name : List ℕ) (names : List (List ℕ)) → list_any (bytes_eq name) (name ∷ names) ≡ true
touched_first name names = ap (λ b. b || list_any (bytes_eq name) names) ((bytes_decides name name).1 refl)

-- the name that a command touches first
pub touches_name : (m : Machine) (c : Command) (w : Marks) (name : List ℕ) → first_failing (checks m c) ≡ None → touches m c ≡ name ∷ [] → is_touched (begun m c w) name ≡ true
touches_name m c w name passes names =
    ap (λ o. is_touched (begun_by o m c w) name) passes ∙ ap (λ (l : List (List ℕ)). list_any (bytes_eq name) (l ++ w.touched)) names ∙ touched_first name w.touched
