-- The refusal of a slot that has no object.
use Rattle.std.proofs.Common.{◌≡◌, ◌∙◌, ℕ, List, Bool, true, false, cond, Option, Some, None, IsSome, Result, Ok, Err, IsErrAnd, refl, sym, ap, subst}
use Rattle.std.specs.Prelude.{codes, is_none, nat_le, ◌+◌}
use Rattle.alt_data.specs.AltData.{is_kind}
use Rattle.cache_base.specs.declared.limits.TheConstants.{BODY_MAX}
use Rattle.cache_theory.specs.declared.refusal.Refusal.{Refusal}
use Rattle.cache_theory.specs.declared.refusal.Refusal.TheVariants as refused
use Rattle.entry_file.specs.Held.{held}
use Rattle.entry_file.specs.NewEntry.{grown_len}
use Rattle.entry_parts.specs.Elements.{element}
use Rattle.file_handles.specs.Answers.{OnRefused}
use Rattle.file_handles.specs.Growing.{grow_fault}
use Rattle.handle_table.specs.Kept.{Kept, live_use, object_in, used, writing}
use Rattle.file_handles.specs.PuttingAlt.{are_small_with, put_fault, with_alt_at}
use Rattle.handle_table.specs.Refuses.{ChecksNoSlot}
use Rattle.file_handles.specs.Refuses.{TellsNoSlot}
use Rattle.file_handles.specs.declared.fault.HandleFault.{HandleFault}
use Rattle.file_handles.specs.declared.fault.HandleFault.TheVariants as fault
use Rattle.handle_table.specs.declared.object.Entry.{Entry}
use Rattle.handle_table.specs.declared.object.Entry.TheVariants as entry
use Rattle.handle_table.specs.declared.object.Use.{Use}
use Rattle.file_handles.proofs.LiveUses.{live_there, no_live}

none_or_some : {X T : Type 0} (o : Option X) → o ≡ None → IsSome o → T
none_or_some None none some = absurd (let never : false ≡ true = some in cc)
none_or_some (Some x) none some = absurd (cc)

module _ (k : Kept) (s : ℕ) where
  -- the first check, of the use
  pub use_checks : (out : Result Use Refusal) → out ≡ used (live_use k s) → ChecksNoSlot k s out
  use_checks out is = subst (ChecksNoSlot k s) (sym is) (go (live_use k s) refl)
    where
      go : (o : Option Use) → live_use k s ≡ o → ChecksNoSlot k s (used o)
      go None none = (λ same. no_live k s none, λ none. refl)
      go (Some u) some = (λ same. absurd (let never : ◌≡◌ {A = Result Use Refusal} (Ok u) (Err refused.NoSlot) = same in cc), λ none. none_or_some (object_in k s) none (live_there k s u some))

  -- and that of a writer
  pub writer_checks : (out : Result Use Refusal) → out ≡ writing (live_use k s) → ChecksNoSlot k s out
  writer_checks out is = subst (ChecksNoSlot k s) (sym is) (go (live_use k s) refl)
    where
      by_use : (u : Use) → live_use k s ≡ Some u → (b : Bool) → ChecksNoSlot k s (cond b (Ok u) (Err refused.NotWriter))
      by_use u some true = (λ same. absurd (let never : ◌≡◌ {A = Result Use Refusal} (Ok u) (Err refused.NoSlot) = same in cc), λ none. none_or_some (object_in k s) none (live_there k s u some))
      by_use u some false = (λ same. absurd (let never : ◌≡◌ {A = Result Use Refusal} (Err refused.NotWriter) (Err refused.NoSlot) = same in cc), λ none. none_or_some (object_in k s) none (live_there k s u some))

      go : (o : Option Use) → live_use k s ≡ o → ChecksNoSlot k s (writing o)
      go None none = (λ same. no_live k s none, λ none. refl)
      go (Some u) some = by_use u some u.writes

  -- what a check before it ended with
  pub check_handed_on : {X T : Type 0} (r : Refusal) (check : Result X Refusal) (out : Result T Refusal) → check ≡ Err r → IsErrAnd out (λ e. e ≡ r) → ChecksNoSlot k s check → ChecksNoSlot k s out
  check_handed_on {X = X} r check (Ok value) ended is checks = absurd is
  check_handed_on {X = X} r check (Err e) ended is checks = (
    λ same. checks.0 (ended ∙ ap Err (sym is ∙ (let one : e ≡ refused.NoSlot = cc in one))),
    λ none. ap Err (let both : ◌≡◌ {A = Result X Refusal} (Err r) (Err refused.NoSlot) = sym ended ∙ checks.1 none in let one : r ≡ refused.NoSlot = cc in is ∙ one),
  )

  -- that it did not end, and this one ends otherwise
  pub check_passed : {X T : Type 0} (x : X) (check : Result X Refusal) (out : Result T Refusal) → check ≡ Ok x → ChecksNoSlot k s check → (out ≡ Err refused.NoSlot → ⊥) → ChecksNoSlot k s out
  check_passed {X = X} x check out passed checks other = (
    λ same. absurd (other same),
    λ none. absurd (let both : ◌≡◌ {A = Result X Refusal} (Ok x) (Err refused.NoSlot) = sym passed ∙ checks.1 none in cc),
  )

  -- the same of a call
  pub call_handed_on : {X T : Type 0} (r : Refusal) (check : Result X Refusal) (out : Result T HandleFault) → check ≡ Err r → IsErrAnd out (λ e. e ≡ fault.Refused r) → ChecksNoSlot k s check → TellsNoSlot k s out
  call_handed_on {X = X} r check (Ok value) ended is checks = absurd is
  call_handed_on {X = X} r check (Err e) ended is checks = (
    λ same. checks.0 (ended ∙ ap Err (let one : e ≡ fault.Refused refused.NoSlot = cc in let both : fault.Refused r ≡ fault.Refused refused.NoSlot = sym is ∙ one in let last : r ≡ refused.NoSlot = cc in last)),
    λ none. ap Err (let both : ◌≡◌ {A = Result X Refusal} (Err r) (Err refused.NoSlot) = sym ended ∙ checks.1 none in let one : r ≡ refused.NoSlot = cc in is ∙ ap fault.Refused one),
  )

  pub call_passed : {X T : Type 0} (x : X) (check : Result X Refusal) (out : Result T HandleFault) → check ≡ Ok x → ChecksNoSlot k s check → OnRefused out (λ r. ⊥) → TellsNoSlot k s out
  call_passed {X = X} x check (Ok value) passed checks never_refuses = (
    λ same. absurd (cc),
    λ none. absurd (let both : ◌≡◌ {A = Result X Refusal} (Ok x) (Err refused.NoSlot) = sym passed ∙ checks.1 none in cc),
  )
  call_passed {X = X} x check (Err e) passed checks never_refuses = (
    λ same. absurd (never_refuses refused.NoSlot (let one : e ≡ fault.Refused refused.NoSlot = cc in one)),
    λ none. absurd (let both : ◌≡◌ {A = Result X Refusal} (Ok x) (Err refused.NoSlot) = sym passed ∙ checks.1 none in cc),
  )

-- a fault that is no refusal, handed on
pub never_refused : {T : Type 0} (f : HandleFault) (out : Result T HandleFault) → IsErrAnd out (λ e. e ≡ f) → ((r : Refusal) → f ≡ fault.Refused r → ⊥) → OnRefused out (λ r. ⊥)
never_refused f (Ok value) is never = absurd is
never_refused f (Err e) is never = λ r same. never r (sym is ∙ same)

-- what an entry may not grow for is another refusal
pub grows_otherwise : {T : Type 0} (x : Entry) (more : ℕ) (r : Refusal) (out : Result T Refusal) → ◌≡◌ {A = Result (Unit {0}) Refusal} (Err r) (grow_fault x more) → IsErrAnd out (λ e. e ≡ r) → out ≡ Err refused.NoSlot → ⊥
grows_otherwise x more r (Ok value) at is same = is
grows_otherwise (entry.Finished meta) more r (Err e) at is same =
    let one : r ≡ refused.Finished = cc in let other : e ≡ refused.NoSlot = cc in let never : refused.NoSlot ≡ refused.Finished = sym other ∙ is ∙ one in cc
grows_otherwise (entry.Draft d) more r (Err e) at is same = go (nat_le (grown_len (held d.body) + more) BODY_MAX) at
  where
    go : (b : Bool) → ◌≡◌ {A = Result (Unit {0}) Refusal} (Err r) (cond b (Ok tt) (Err refused.TooLarge)) → ⊥
    go true at = cc
    go false at = let one : r ≡ refused.TooLarge = cc in let other : e ≡ refused.NoSlot = cc in let never : refused.NoSlot ≡ refused.TooLarge = sym other ∙ is ∙ one in cc

-- and so is what alternative data may not be put for
pub puts_otherwise : (x : Entry) (kind : List ℕ) (len : ℕ) (r : Refusal) → put_fault x kind len ≡ Some r → r ≡ refused.NoSlot → ⊥
puts_otherwise (entry.Draft d) kind len r is same = let one : r ≡ refused.Unfinished = cc in let never : refused.NoSlot ≡ refused.Unfinished = sym same ∙ one in cc
puts_otherwise (entry.Finished meta) kind len r is same =
    go (is_none (element (codes "alt-data") meta.elements)) (is_kind kind) (nat_le (meta.offset + len) BODY_MAX) (are_small_with (with_alt_at meta.offset kind meta.elements) meta.key (meta.offset + len)) is
  where
    other : (f : Refusal) → Some f ≡ Some r → f ≡ refused.NoSlot
    other f is = let one : f ≡ r = cc in one ∙ same

    go : (a b c d : Bool) → cond a (cond b (cond c (cond d None (Some refused.TooLarge)) (Some refused.TooLarge)) (Some refused.BadElement)) (Some refused.HasAlt) ≡ Some r → ⊥
    go false b c d is = let never = other refused.HasAlt is in cc
    go true false c d is = let never = other refused.BadElement is in cc
    go true true false d is = let never = other refused.TooLarge is in cc
    go true true true false is = let never = other refused.TooLarge is in cc
    go true true true true is = let never : None ≡ Some r = is in cc
