-- A use whose object is there.
use Rattle.std.proofs.Common.{◌≡◌, ◌∙◌, ℕ, Bool, true, false, cond, Option, Some, None, IsSome, Result, Ok, Err, refl, sym, ap}
use Rattle.std.specs.Prelude.{is_some, option_and_then}
use Rattle.cache_theory.specs.Command.{Command}
use Rattle.cache_theory.specs.Machine.{Machine}
use Rattle.cache_theory.specs.declared.refusal.Refusal.{Refusal}
use Rattle.handle_table.specs.Kept.{Kept, if_there, live_use, object_at, object_in, use_at, used, writing}
use Rattle.handle_table.specs.Refuses.{HasNoObject, Refuses}
use Rattle.handle_table.specs.Standing.{HandlesStand}
use Rattle.handle_table.specs.declared.object.Object.{Object}
use Rattle.handle_table.specs.declared.object.Use.{Use}
use Rattle.file_handles.proofs.Setting.ElementSlots.{no_use_found, use_found}
use Rattle.file_handles.proofs.Finishing.Writers.{writer_found}

module _ (k : Kept) where
  live_of : (o : Option Use) (u : Use) → option_and_then (if_there k) o ≡ Some u → o ≡ Some u
  live_of None u is = absurd (let never : None ≡ Some u = is in cc)
  live_of (Some v) u is = go (is_some (object_at k v.place)) is
    where
      go : (b : Bool) → cond b (Some v) None ≡ Some u → Some v ≡ Some u
      go true is = is
      go false is = absurd (let never : None ≡ Some u = is in cc)

  all_live : (o : Option Use) → ((u : Use) → o ≡ Some u → IsSome (object_at k u.place)) → option_and_then (if_there k) o ≡ o
  all_live None there = refl
  all_live (Some u) there = ap (λ b. cond b (Some u) None) (there u refl)

  none_there : (x : Option Object) (u : Use) → cond (is_some x) (Some u) None ≡ None → x ≡ None
  none_there None u is = refl
  none_there (Some x) u is = absurd (let never : Some u ≡ None = is in cc)

  no_object : (o : Option Use) → option_and_then (if_there k) o ≡ None → option_and_then (λ (u : Use). object_at k u.place) o ≡ None
  no_object None is = refl
  no_object (Some u) is = none_there (object_at k u.place) u is

  some_there : (o : Option Use) (u : Use) → option_and_then (if_there k) o ≡ Some u → IsSome (option_and_then (λ (v : Use). object_at k v.place) o)
  some_there None u is = absurd (let never : None ≡ Some u = is in cc)
  some_there (Some v) u is = go (object_at k v.place) is
    where
      go : (x : Option Object) → cond (is_some x) (Some v) None ≡ Some u → IsSome x
      go None is = absurd (let never : None ≡ Some u = is in cc)
      go (Some x) is = refl

module _ (k : Kept) (s : ℕ) where
  -- a slot without one has no object, and one that has it has an object
  pub no_live : live_use k s ≡ None → object_in k s ≡ None
  no_live is = no_object k (use_at k s) is

  pub live_there : (u : Use) → live_use k s ≡ Some u → IsSome (object_in k s)
  live_there u is = some_there k (use_at k s) u is

  pub none_live : (r : Refusal) → used (live_use k s) ≡ Err r → HasNoObject k s r
  none_live r is = let parts = no_use_found (live_use k s) r is in (parts.1, no_live parts.0)

  pub some_live : (u : Use) → used (live_use k s) ≡ Ok u → IsSome (object_in k s)
  some_live u is = live_there u (use_found (live_use k s) u is)

  -- it is the use of the slot
  pub live_at : (u : Use) → live_use k s ≡ Some u → use_at k s ≡ Some u
  live_at u is = live_of k (use_at k s) u is

  pub used_at : (u : Use) → used (live_use k s) ≡ Ok u → used (use_at k s) ≡ Ok u
  used_at u is = ap used (live_at u (use_found (live_use k s) u is))

  pub writes_at : (u : Use) → writing (live_use k s) ≡ Ok u → writing (use_at k s) ≡ Ok u
  writes_at u is = let at = (writer_found (live_use k s) u is).0 in ap writing (live_at u at) ∙ ap writing (sym at) ∙ is

  -- where the handles stand for a machine, each use is such a one
  pub live_same : (m : Machine) (number : ℕ → ℕ) → HandlesStand k m number → live_use k s ≡ use_at k s
  live_same m number stand = all_live k (use_at k s) (λ u at. stand.used s u at)

  -- so what the use of a slot refuses, that one refuses
  pub live_refuses : (c : Command) (r : Refusal) (read : Option Use → Result Use Refusal) → read (live_use k s) ≡ Err r → (read (use_at k s) ≡ Err r → Refuses k c r) → Refuses k c r
  live_refuses c r read is then m number proper stand = then (sym (ap read (live_same m number stand)) ∙ is) m number proper stand
