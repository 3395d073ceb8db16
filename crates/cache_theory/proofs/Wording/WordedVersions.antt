-- The marks say which versions commands wrote.
use Rattle.std.proofs.Common.{◌≡◌, ◌⊎◌, inl, inr, ℕ, zero, suc, ◌<◌, List, [], ◌∷◌, ◌++◌, get_or, Bool, true, false, Some, None, refl, sym, ap, subst, ◌∙◌, arith}
use Rattle.std.specs.List.{Any}
use Rattle.std.specs.Prelude.{Option, if◌then◌else◌, option_map, slice_get, unwrap_or}
use Rattle.cache_base.specs.Checks.{first_failing}
use Rattle.cache_theory.specs.Checks.{checks}
use Rattle.cache_theory.specs.Command.{Command}
use Rattle.cache_theory.specs.Machine.{Machine, object}
use Rattle.cache_theory.specs.Marks.{IsSince, Marks, Written, begun, begun_by, is_buried, put_out, rewritten, rewritten_in_place, touches, unburied_name}
use Rattle.cache_theory.specs.Step.{effect, step, stepped}
use Rattle.cache_theory.specs.declared.refusal.Refusal.{Refusal}
use Rattle.cache_theory.proofs.Begins.{since_later}
use Rattle.cache_theory.proofs.Wording.WordedNames.{any_either}
use Rattle.cache_theory.proofs.Wording.WordedSteps.{IsDoneWith, IsOfCommands}
use Rattle.entry_file.specs.Version.{Version}
use Rattle.entry_name.specs.EntryName.{file_name}

-- the command writes the version under the name, through an object that was not doomed at the mark
pub record Writes (mark : Machine) (name : List ℕ) (v : Version) (m : Machine) (c : Command) : Type 0 where
  pub number : ℕ
  pub rewrites : rewritten m c ≡ Some number
  pub version : (object (step m c).next number).version ≡ v
  pub named : file_name v.key ≡ name
  pub undoomed : unwrap_or (option_map (λ o. o.doomed) (slice_get mark.objects number)) false ≡ false

abbrev IsWritten : List ℕ → Version → Written → Type 0
IsWritten name v = λ written. (written.name ≡ name) × (written.version ≡ v)

only_one : (k : ℕ) (x y : Written) → k < 1 → get_or (x ∷ []) k y ≡ y → x ≡ y
only_one zero x y lt is = is
only_one (suc k) x y lt is = absurd (omega arith)

-- what goes out of an object
from_out : (name : List ℕ) (v u : Version) (buried : Bool) → Any (IsWritten name v) (if buried then [] else record { name = file_name u.key; version = u } ∷ [])
    → (buried ≡ false) × ((u ≡ v) × (file_name v.key ≡ name))
from_out name v u true any = absurd (let lt = any.2 in omega (arith, lt))
from_out name v u false any =
    let one : record { name = file_name u.key; version = u } ≡ any.1 = only_one any.0 (record { name = file_name u.key; version = u }) any.1 any.2 any.3 in
    let version : u ≡ v = ap (λ (x : Written). x.version) one ∙ any.4.1 in
    (refl, (version, sym (ap (λ (x : Version). file_name x.key) version) ∙ ap (λ (x : Written). x.name) one ∙ any.4.0))

put_from : (mark : Machine) (name : List ℕ) (v : Version) (m : Machine) (c : Command) (w : Marks) (o : Option ℕ) → w.marked ≡ mark
    → first_failing (checks m c) ≡ None → rewritten m c ≡ o → Any (IsWritten name v) (put_out w (effect m c).next o) → IsDoneWith (Writes mark name v) m c
put_from mark name v m c w None marked passes rewrites any = absurd (let lt = any.2 in omega (arith, lt))
put_from mark name v m c w (Some i) marked passes rewrites any =
    let out = from_out name v (object (effect m c).next i).version (is_buried w i) any in
    record {
      passes = passes;
      has = record {
        number = i;
        rewrites = rewrites;
        version = ap (λ r. (object (stepped m c r).next i).version) passes ∙ out.1.0;
        named = out.1.1;
        undoomed = subst (λ (n : Machine). unwrap_or (option_map (λ o. o.doomed) (slice_get n.objects i)) false ≡ false) marked out.0;
      };
    }

since_from : (mark : Machine) (name : List ℕ) (v : Version) (m : Machine) (c : Command) (w : Marks) (r : Option Refusal) → w.marked ≡ mark
    → first_failing (checks m c) ≡ r → IsSince (begun_by r m c w) name v → IsSince w name v ⊎ IsDoneWith (Writes mark name v) m c
since_from mark name v m c w (Some r) marked checked since = inl since
since_from mark name v m c w None marked checked since =
    elim (any_either (IsWritten name v) (put_out w (effect m c).next (rewritten m c)) w.since since) [
      | inl here ↦ inr (put_from mark name v m c w (rewritten m c) marked checked refl here)
      | inr there ↦ inl there
    ]

since_kept : (name : List ℕ) (v : Version) (m : Machine) (c : Command) (w : Marks) (r : Option Refusal) → IsSince w name v → IsSince (begun_by r m c w) name v
since_kept name v m c w (Some r) since = since
since_kept name v m c w None since = since_later w (touches m c) (put_out w (effect m c).next (rewritten m c)) (unburied_name w m (rewritten_in_place m c)) name v since

put_new : (name : List ℕ) (v u : Version) (buried : Bool) (more : List Written) → buried ≡ false → u ≡ v → file_name v.key ≡ name
    → Any (IsWritten name v) ((if buried then [] else record { name = file_name u.key; version = u } ∷ []) ++ more)
put_new name v u true more un same named = absurd (cc)
put_new name v u false more un same named =
    (0, record { name = file_name u.key; version = u }, omega arith, refl, (ap (λ (x : Version). file_name x.key) same ∙ named, same))

since_new : (mark : Machine) (name : List ℕ) (v : Version) (m : Machine) (c : Command) (w : Marks) → w.marked ≡ mark → IsDoneWith (Writes mark name v) m c
    → IsSince (begun m c w) name v
since_new mark name v m c w marked done =
    let i : ℕ = done.has.number in
    let version : (object (effect m c).next i).version ≡ v = sym (ap (λ r. (object (stepped m c r).next i).version) done.passes) ∙ done.has.version in
    let unburied : is_buried w i ≡ false =
    subst (λ (n : Machine). unwrap_or (option_map (λ o. o.doomed) (slice_get n.objects i)) false ≡ false) (sym marked) done.has.undoomed in
    subst (λ r. IsSince (begun_by r m c w) name v) (sym done.passes)
    (subst (λ o. Any (IsWritten name v) (put_out w (effect m c).next o ++ w.since)) (sym done.has.rewrites)
    (put_new name v (object (effect m c).next i).version (is_buried w i) w.since unburied version done.has.named))

pub since_of_commands : (mark : Machine) (name : List ℕ) (v : Version) → IsOfCommands mark (Writes mark name v) (λ w. IsSince w name v)
since_of_commands mark name v = record {
  from = λ m c w marked. since_from mark name v m c w (first_failing (checks m c)) marked refl;
  kept = λ m c w. since_kept name v m c w (first_failing (checks m c));
  new = since_new mark name v;
}
