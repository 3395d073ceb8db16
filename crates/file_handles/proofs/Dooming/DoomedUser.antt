-- The object in use of a name is doomed, or the disk failed on the way.
use Rattle.std.proofs.Common.{◌≡◌, ◌⊎◌, inl, inr, ℕ, zero, suc, ◌+◌, ◌<◌, List, length, Option, Some, None, IsSome, Contains, Ok, Err, true, eqb, refl, sym, ap, subst, ◌∙◌, arith, Bool, IsTrue}
use Rattle.std.specs.List.{list_any, position}
use Rattle.std.proofs.lemmas.Bool.{cases_Bool, eqb-true}
use Rattle.std.proofs.lemmas.Cmp.{nat_eq_equiv}
use Rattle.std.proofs.lemmas.List.{set-set}
use Rattle.std.proofs.lemmas.Map.Views.{Contains-from_any, list_any-from_Contains}
use Rattle.cache_base.specs.declared.name.Name.{Name}
use Rattle.cache_theory.specs.Crash.{IsSafe}
use Rattle.cache_theory.specs.Machine.{Machine, object}
use Rattle.cache_theory.specs.Marks.{Marks, is_touched}
use Rattle.cache_theory.specs.Step.{doomed_under}
use Rattle.cache_theory.proofs.CrashImages.DiskChanges.{rename_keeps}
use Rattle.cache_theory.proofs.EntryFiles.{entry_used, file_there}
use Rattle.disk_theory.specs.Calls.{if_done}
use Rattle.disk_theory.specs.declared.disk.DiskFault.{DiskFault}
use Rattle.disk_theory.specs.declared.disk.DiskFault.TheVariants.{Failed, Memory}
use Rattle.disk_theory.specs.declared.place.Place.TheVariants.{Doomed, Entry}
use Rattle.disk_theory.specs.Sound.{IsSound}
use Rattle.disk_theory.specs.State.{State, renamed, standing}
use Rattle.doom_area.specs.DoomArea.{IsLeastFree}
use Rattle.doom_area.proofs.LeastFree.{lesser_more, long_enough}
use Rattle.file_handles.specs.Cache.{cache_at}
use Rattle.handle_table.specs.Aside.{numbers_in}
use Rattle.file_handles.specs.Dooming.{SetsAside}
use Rattle.handle_table.specs.Finding.{is_user}
use Rattle.handle_table.specs.Kept.{Kept, object_at, with_object}
use Rattle.file_handles.specs.Stands.{KeepsWhere, RepresentsSome}
use Rattle.handle_table.specs.declared.object.Object.{Object}
use Rattle.file_handles.proofs.Dooming.DoomedKeeps.{dooms_aside, dooms_user}
use Rattle.file_handles.proofs.Dooming.DoomedStands.{doomed_as}
use Rattle.file_handles.proofs.Histories.{history_of}
use Rattle.file_handles.proofs.Places.{published_there}
use Rattle.handle_table.proofs.User.{user_is_used}

-- the file of the object in use of a name stands there, if it does not stand aside
pub user_stands : (s : State) (k : Kept) (name : Name) (p : ℕ) (x : Object) → position (is_user name) k.objects ≡ Some p → object_at k p ≡ Some x → x.aside ≡ None → RepresentsSome (cache_at k s) → IsSome (standing s (Entry name))
user_stands s k name p x is at none (m, (number, stands)) =
    let used = user_is_used k m number stands.proper stands.handles name p is in
    subst (λ (o : Option (List ℕ)). IsSome o) (sym (stands.entries name.0))
    (file_there (object m (number p)) _ (entry_used m name.0 (number p) stands.proper used (published_there s k m number stands p x at none).0))

-- There is a least free number.

contains_or_not : (xs : List ℕ) (n : ℕ) → Contains xs n ⊎ (Contains xs n → ⊥)
contains_or_not xs n = elim (cases_Bool (list_any (eqb n) xs)) [
  | inl has ↦ inl (Contains-from_any eqb-true n xs has)
  | inr lacks ↦ inr (λ h. let has = list_any-from_Contains nat_eq_equiv n xs h in cc)
]

least_from : (xs : List ℕ) (left n : ℕ) → n + left ≡ length xs + 1 → ((k : ℕ) → k < n → Contains xs k) → (l : ℕ) × IsLeastFree xs l
least_from xs zero n e lesser = absurd (let le = long_enough xs n lesser in omega (arith, le, e))
least_from xs (suc left) n e lesser = elim (contains_or_not xs n) [
  | inl has ↦ least_from xs left (n + 1) (omega (arith, e)) (lesser_more xs n lesser has)
  | inr lacks ↦ (n, record { free = lacks; lesser = lesser })
]

pub least_free : (xs : List ℕ) → (l : ℕ) × IsLeastFree xs l
least_free xs = least_from xs (length xs + 1) 0 (omega arith) (λ k lt. absurd (omega (arith, lt)))

-- The answers of the move.

moved_or_not : (s t : State) (w : Marks) (name : Name) (n : ℕ) (f : DiskFault) → t ≡ if_done {T = ℕ} (Err f) (renamed (Entry name) (Doomed n) s) s → is_touched w name.0 ≡ true → IsSafe s w → IsSafe t w
moved_or_not s t w name n Failed is touched safe = subst (λ u. IsSafe u w) (sym is) (rename_keeps s w name.0 n touched safe)
moved_or_not s t w name n Memory is touched safe = subst (λ u. IsSafe u w) (sym is) safe

-- it failed: a crash may lose no more
pub dooms_not : (s t : State) (w : Marks) (name : Name) (xs : List ℕ) (f : DiskFault) → ((n : ℕ) → IsLeastFree xs n → t ≡ if_done {T = ℕ} (Err f) (renamed (Entry name) (Doomed n) s) s)
    → is_touched w name.0 ≡ true → IsSafe s w → IsSafe t w
dooms_not s t w name xs f is touched safe = let l = least_free xs in moved_or_not s t w name l.0 f (is l.0 l.1) touched safe

-- it was done: the object was taken out and put back

object_again : (k : Kept) (p : ℕ) (x y : Option Object) → with_object (with_object k p x) p y ≡ with_object k p y
object_again k p x y = ap (λ objects. record k { objects = objects }) (set-set k.objects p x y)

pub dooms_there : {d : Bool} (s t : State) (k a b : Kept) (name : Name) (p : ℕ) (x : Object) (n : ℕ) → IsSound s → position (is_user name) k.objects ≡ Some p → object_at k p ≡ Some x → x.aside ≡ None → IsLeastFree (numbers_in k.objects) n
    → t ≡ renamed (Entry name) (Doomed n) s → a ≡ with_object k p None → b ≡ with_object a p (Some (doomed_as x n))
    → (m : Machine) (w : Marks) → is_touched w name.0 ≡ true → KeepsWhere d (cache_at k s) (history_of m w) → (IsTrue d → IsSafe t w) × KeepsWhere d (cache_at b t) (history_of (doomed_under m name.0) w)
dooms_there {d} s t k a b name p x n sound is at none free moved taken put m w touched stand =
    let same : b ≡ with_object k p (Some (doomed_as x n)) = put ∙ ap (λ c. with_object c p (Some (doomed_as x n))) taken ∙ object_again k p None (Some (doomed_as x n)) in
    let done = dooms_user s k name p x n sound is at none free m w touched stand in
    let all : KeepsWhere d (cache_at b t) (history_of (doomed_under m name.0) w) = subst (λ u. KeepsWhere d (cache_at b u) (history_of (doomed_under m name.0) w)) (sym moved) (subst (λ c. KeepsWhere d (cache_at c (renamed (Entry name) (Doomed n) s)) (history_of (doomed_under m name.0) w)) (sym same) done) in
    (λ on. (all.crash_kept on).safe, all)

-- and where its file stands aside already, nothing is called
pub dooms_aside_there : {d : Bool} (s : State) (k a b : Kept) (name : Name) (p : ℕ) (x : Object) (n : ℕ) → position (is_user name) k.objects ≡ Some p → object_at k p ≡ Some x → x.aside ≡ Some n
    → a ≡ with_object k p None → b ≡ with_object a p (Some (doomed_as x n))
    → (m : Machine) (w : Marks) → KeepsWhere d (cache_at k s) (history_of m w) → (IsTrue d → IsSafe s w) × KeepsWhere d (cache_at b s) (history_of (doomed_under m name.0) w)
dooms_aside_there {d} s k a b name p x n is at numbered taken put m w stand =
    let same : b ≡ with_object k p (Some (doomed_as x n)) = put ∙ ap (λ c. with_object c p (Some (doomed_as x n))) taken ∙ object_again k p None (Some (doomed_as x n)) in
    let done = dooms_aside s k name p x n is at numbered m w stand in
    let all : KeepsWhere d (cache_at b s) (history_of (doomed_under m name.0) w) = subst (λ c. KeepsWhere d (cache_at c s) (history_of (doomed_under m name.0) w)) (sym same) done in
    (λ on. (all.crash_kept on).safe, all)

-- Whether its file stands aside already or is moved.

module _ (s t : State) (k a : Kept) (name : Name) (p : ℕ) (x : Object) (is : position (is_user name) k.objects ≡ Some p) (at : object_at k p ≡ Some x) where
  -- where the file that stands under the name is to be moved it is there
  pub user_there_or_aside : RepresentsSome (cache_at k s) → x.aside ≡ None → IsSome (standing s (Entry name))
  user_there_or_aside somehow none = user_stands s k name p x is at none somehow

  pub not_set_aside : (xs : List ℕ) (f : DiskFault) → SetsAside name x.aside xs (Err f) s t → (w : Marks) → is_touched w name.0 ≡ true → IsSafe s w → IsSafe t w
  not_set_aside xs f sets w touched safe = go x.aside refl
    where
      go : (n : Option ℕ) → x.aside ≡ n → IsSafe t w
      go None e = dooms_not s t w name xs f (sets.moves e) touched safe
      go (Some n) e = let done = (sets.stays n e).0 in absurd (cc)

  module _ (b : Kept) (xs : List ℕ) (n : ℕ) (sound : IsSound s) (same : x.aside ≡ None → xs ≡ numbers_in k.objects) (sets : SetsAside name x.aside xs (Ok n) s t) (taken : a ≡ with_object k p None) (put : b ≡ with_object a p (Some (doomed_as x n))) where
    pub set_aside_there : {d : Bool} (m : Machine) (w : Marks) → is_touched w name.0 ≡ true → KeepsWhere d (cache_at k s) (history_of m w) → (IsTrue d → IsSafe t w) × KeepsWhere d (cache_at b t) (history_of (doomed_under m name.0) w)
    set_aside_there {d} m w touched stand = go x.aside refl
      where
        go : (o : Option ℕ) → x.aside ≡ o → (IsTrue d → IsSafe t w) × KeepsWhere d (cache_at b t) (history_of (doomed_under m name.0) w)
        go None e = dooms_there s t k a b name p x n sound is at e (subst (λ ys. IsLeastFree ys n) (same e) (sets.number e)) (sets.moves e n (sets.number e)) taken put m w touched stand
        go (Some c) e =
            let stays = sets.stays c e in
            let both : Ok n ≡ Ok c = stays.0 in
            let one : n ≡ c = cc in
            subst (λ u. (IsTrue d → IsSafe u w) × KeepsWhere d (cache_at b u) (history_of (doomed_under m name.0) w)) (sym stays.1)
            (dooms_aside_there s k a b name p x n is at (e ∙ ap (λ i. Some i) (sym one)) taken put m w stand)
