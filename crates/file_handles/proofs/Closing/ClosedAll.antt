-- All slots are given up: the files that do not outlast the handles are removed.
use Rattle.std.proofs.Common.{◌≡◌, ◌≢◌, inl, inr, ◌⊎◌, ℕ, ◌+◌, ◌<◌, ◌≤◌, List, length, Bool, true, false, get_or, Option, Some, None, IsSome, Result, Ok, Err, refl, sym, ap, subst, ◌∙◌, arith}
use Rattle.std.specs.Prelude.{IsErrOf, is_none, unwrap_or}
use Rattle.std.proofs.lemmas.Bool.{cases_Bool, cases_eq}
use Rattle.std.proofs.lemmas.Option.{slice_get-get_or}
use Rattle.cache_theory.specs.Crash.{IsSafe}
use Rattle.cache_theory.specs.Ever.{entries, entry_place}
use Rattle.cache_theory.specs.Machine.{Machine, object}
use Rattle.cache_theory.specs.Marks.{Marks}
use Rattle.cache_theory.specs.Table.{get}
use Rattle.cache_theory.proofs.CrashImages.DiskChanges.{remove_keeps}
use Rattle.cache_theory.proofs.EntryFiles.{file_there, no_file_there}
use Rattle.cache_theory.proofs.CrashImages.FiledOnce.{one_name as one_place_name}
use Rattle.cache_theory.proofs.ObjectLaws.Users.{same_number, undoomed_user}
use Rattle.disk_theory.specs.Calls.{if_done}
use Rattle.disk_theory.specs.Place.{is_same}
use Rattle.disk_theory.specs.Standing.{PutsContent}
use Rattle.disk_theory.specs.State.{State, removed, standing}
use Rattle.disk_theory.specs.declared.disk.DiskFault.{DiskFault}
use Rattle.disk_theory.specs.declared.disk.DiskFault.TheVariants.{Failed, Memory}
use Rattle.disk_theory.specs.declared.place.Place.{Place}
use Rattle.disk_theory.specs.declared.place.Place.TheVariants.{Doomed}
use Rattle.disk_theory.proofs.Places.{never, one_same}
use Rattle.disk_theory.proofs.Standing.{removed_puts}
use Rattle.doom_area.specs.DoomArea.{RemovesDoomed}
use Rattle.doom_area.proofs.ClearedTo.{removes_done}
use Rattle.entry_name.specs.EntryName.{file_name}
use Rattle.file_handles.specs.Cache.{cache_at}
use Rattle.file_handles.specs.Closing.{ClosesAll, IsClosed, let_go_by, without_doomed}
use Rattle.handle_table.specs.Held.{object_place, place_of}
use Rattle.handle_table.specs.Kept.{Kept, object_at}
use Rattle.file_handles.specs.Stands.{KeepsTo, RepresentsSome, Stands}
use Rattle.handle_table.specs.declared.object.Object.{Object}
use Rattle.file_handles.proofs.Histories.{history_of}
use Rattle.handle_table.proofs.KeptLaws.{place_within}
use Rattle.file_handles.proofs.Places.{aside_at, file_stands, published_place, published_there}

-- the file of an object outlasts the handles: it does not stand aside
abbrev pub stays : Object → Bool
stays x = is_none x.aside

-- the files that stand aside of the objects before this place are gone, and all else is as before
pub record IsDroppedTo (k : Kept) (i : ℕ) (before now : State) : Type 0 where
  pub gone : (j : ℕ) (x : Object) → j < i → object_at k j ≡ Some x → stays x ≡ false → standing now (object_place x) ≡ None
  pub others : (q : Place) → ((j : ℕ) (x : Object) → j < i → object_at k j ≡ Some x → stays x ≡ false → q ≢ object_place x) → standing now q ≡ standing before q
  pub safe : (w : Marks) → IsSafe before w → IsSafe now w

pub dropped_none : (k : Kept) (s : State) → IsDroppedTo k 0 s s
dropped_none k s = record { gone = λ j x lt at no_stay. absurd (omega (arith, lt)); others = λ q apart. refl; safe = λ w safe. safe }

dropped_is : (x : Object) (s : State) → stays x ≡ false → let_go_by x s ≡ removed (object_place x) s
dropped_is x s not_stays = go x.aside not_stays
  where
    go : (n : Option ℕ) → is_none n ≡ false → without_doomed n s ≡ removed (place_of x.name n) s
    go None e = absurd (cc)
    go (Some d) e = refl

stays_is : (x : Object) (s : State) → stays x ≡ true → let_go_by x s ≡ s
stays_is x s stay = go x.aside stay
  where
    go : (n : Option ℕ) → is_none n ≡ true → without_doomed n s ≡ s
    go None e = refl
    go (Some d) e = absurd (cc)

-- no entry stands there
no_entry : (x : Object) (name : List ℕ) → stays x ≡ false → object_place x ≡ entry_place name → ⊥
no_entry x name not_stays = go x.aside not_stays
  where
    go : (n : Option ℕ) → is_none n ≡ false → place_of x.name n ≡ entry_place name → ⊥
    go None e same = cc
    go (Some d) e same = cc

-- one place more, where nothing is removed
same_at : (k : Kept) (i : ℕ) (s t : State) → ((x : Object) → object_at k i ≡ Some x → stays x ≡ true) → IsDroppedTo k i s t → IsDroppedTo k (i + 1) s t
same_at k i s t stay before = record {
  gone = λ j x lt at no_stay. before.gone j x (earlier j x lt at no_stay) at no_stay;
  others = λ q apart. before.others q (λ j x lt at no_stay. apart j x (omega (arith, lt)) at no_stay);
  safe = before.safe;
}
  where
    earlier : (j : ℕ) (x : Object) → j < i + 1 → object_at k j ≡ Some x → stays x ≡ false → j < i
    earlier j x lt at no_stay = elim (cases_eq j i) [
      | inl same ↦ absurd (let stay = stay x (ap (object_at k) (sym same) ∙ at) in let both : true ≡ false = sym stay ∙ no_stay in cc)
      | inr apart ↦ omega (arith, lt, apart)
    ]

-- the object at a place of the list
pub item_at : (k : Kept) (i : ℕ) (d x : Option Object) → i < length k.objects → get_or k.objects i d ≡ x → object_at k i ≡ x
item_at k i d x lt is = ap (λ o. unwrap_or o None) (slice_get-get_or k.objects i d lt) ∙ is

pub none_dropped : (k : Kept) (i : ℕ) (s t : State) → object_at k i ≡ None → IsDroppedTo k i s t → IsDroppedTo k (i + 1) s t
none_dropped k i s t none before = same_at k i s t (λ x at. absurd (let both : None ≡ Some x = sym none ∙ at in cc)) before

one_place : (p q : Place) → (p ≡ q) ⊎ (p ≢ q)
one_place p q = elim (cases_Bool (is_same p q)) [
  | inl same ↦ inl (one_same p q same)
  | inr other ↦ inr (λ same. never q p same other)
]

-- and where one is
removed_one : (k : Kept) (i : ℕ) (x : Object) (s t : State) → object_at k i ≡ Some x → stays x ≡ false → IsDroppedTo k i s t → IsDroppedTo k (i + 1) s (removed (object_place x) t)
removed_one k i x s t at_x not_stays before = record {
  gone = λ j y lt at no_stay. elim (one_place (object_place y) (object_place x)) [
    | inl same ↦ ap (standing (removed (object_place x) t)) same ∙ puts.here
    | inr apart ↦ puts.others (object_place y) apart ∙ before.gone j y (earlier j y lt at apart) at no_stay
  ];
  others = λ q apart. puts.others q (apart i x (omega arith) at_x not_stays) ∙ before.others q (λ j y lt at no_stay. apart j y (omega (arith, lt)) at no_stay);
  safe = λ w safe. remove_keeps t w (object_place x) (λ name same. absurd (no_entry x name not_stays same)) (before.safe w safe);
}
  where
    puts : PutsContent (object_place x) None t (removed (object_place x) t)
    puts = removed_puts (object_place x) t

    earlier : (j : ℕ) (y : Object) → j < i + 1 → object_at k j ≡ Some y → object_place y ≢ object_place x → j < i
    earlier j y lt at apart = elim (cases_eq j i) [
      | inl same ↦ absurd (apart (let both : Some y ≡ Some x = sym at ∙ ap (object_at k) same ∙ at_x in let one : y ≡ x = cc in ap object_place one))
      | inr other ↦ omega (arith, lt, other)
    ]

pub one_dropped : (k : Kept) (i : ℕ) (x : Object) (s t u : State) → object_at k i ≡ Some x → u ≡ let_go_by x t → IsDroppedTo k i s t → IsDroppedTo k (i + 1) s u
one_dropped k i x s t u at_x is before = subst (IsDroppedTo k (i + 1) s) (sym is) (elim (cases_Bool (stays x)) [
  | inl stay ↦ subst (IsDroppedTo k (i + 1) s) (sym (stays_is x t stay))
      (same_at k i s t (λ y at. let both : Some x ≡ Some y = sym at_x ∙ at in let one : x ≡ y = cc in ap stays (sym one) ∙ stay) before)
  | inr not_stays ↦ subst (IsDroppedTo k (i + 1) s) (sym (dropped_is x t not_stays)) (removed_one k i x s t at_x not_stays before)
])

-- an Ok is no fault
pub no_fault : {T : Type 0} (value : T) → IsErrOf {T = T} (Ok value) Failed → ⊥
no_fault value is = cc

-- A call that may have failed is one of the two.
pub safe_done : {T : Type 0} (k : Kept) (i : ℕ) (x : Object) (r : Result T DiskFault) (s t u : State) → object_at k i ≡ Some x → u ≡ if_done r (let_go_by x t) t → IsDroppedTo k i s t
    → (w : Marks) → IsSafe s w → IsSafe u w
safe_done k i x (Ok value) s t u at_x is before w safe = (one_dropped k i x s t u at_x is before).safe w safe
safe_done k i x (Err Failed) s t u at_x is before w safe = (one_dropped k i x s t u at_x is before).safe w safe
safe_done k i x (Err Memory) s t u at_x is before w safe = subst (λ (v : State). IsSafe v w) (sym is) (before.safe w safe)

-- The places of the objects, by what they stand for.
module _ (s : State) (k : Kept) (m : Machine) (number : ℕ → ℕ) (stands : Stands (standing s) k m number) where
  -- an entry's place is that of the user of its name
  entry_user : (p : ℕ) (x : Object) (name : List ℕ) → object_at k p ≡ Some x → object_place x ≡ entry_place name → get m.in_use name ≡ Some (number p)
  entry_user p x name at place = go x.aside refl
    where
      go : (n : Option ℕ) → x.aside ≡ n → get m.in_use name ≡ Some (number p)
      go None e =
          let named : file_name (object m (number p)).version.key ≡ name = one_place_name (file_name (object m (number p)).version.key) name (sym (published_place s k m number stands p x at e) ∙ place) in
          ap (get m.in_use) (sym named) ∙ undoomed_user m stands.proper (number p) (stands.handles.objects p x at).in_use (published_there s k m number stands p x at e).1
      go (Some d) e = absurd (let both : Doomed d ≡ entry_place name = sym (ap (place_of x.name) e) ∙ place in cc)

  -- two objects have two places
  two_places : (p q : ℕ) (x y : Object) → object_at k p ≡ Some x → object_at k q ≡ Some y → object_place x ≡ object_place y → p ≡ q
  two_places p q x y at_x at_y same = stands.handles.apart p q x y at_x at_y (go x.aside refl)
    where
      go : (n : Option ℕ) → x.aside ≡ n → number p ≡ number q
      go None e =
          let name : List ℕ = file_name (object m (number p)).version.key in
          let place : object_place x ≡ entry_place name = published_place s k m number stands p x at_x e in
          same_number (number p) (number q) (sym (entry_user p x name at_x place) ∙ entry_user q y name at_y (sym same ∙ place))
      go (Some d) e = other y.aside refl
        where
          other : (n : Option ℕ) → y.aside ≡ n → number p ≡ number q
          other None f =
              absurd (let both : Doomed d ≡ entry_place (file_name (object m (number q)).version.key) = sym (ap (place_of x.name) e) ∙ same ∙ published_place s k m number stands q y at_y f in cc)
          other (Some c) f =
              let both : Doomed c ≡ Doomed d = sym (ap (place_of y.name) f) ∙ sym same ∙ ap (place_of x.name) e in
              let one : c ≡ d = cc in
              stands.aside.one_object d (number p) (number q) (aside_at s k m number stands p x at_x d e) (aside_at s k m number stands q y at_y d (f ∙ ap (λ n. Some n) one))

  -- the file of the next object stands
  pub next_stands : (i : ℕ) (x : Object) (t : State) → object_at k i ≡ Some x → IsDroppedTo k i s t → IsSome (standing t (object_place x))
  next_stands i x t at to =
      let same : standing t (object_place x) ≡ standing s (object_place x) =
      to.others (object_place x) (λ j y lt at_y no_stay same. let one = two_places i j x y at at_y same in omega (arith, lt, one)) in
      subst IsSome (sym same) (file_there (object m (number i)) _ (file_stands s k m number stands i x at))

  module _ (t : State) (n : ℕ) (all : length k.objects ≤ n) (to : IsDroppedTo k n s t) where
    within : (p : ℕ) (x : Object) → object_at k p ≡ Some x → p < n
    within p x at = let lt = place_within k p x at in omega (arith, lt, all)

    entries_left : (name : List ℕ) → entries (standing t) name ≡ get m.shelf name
    entries_left name = to.others (entry_place name) (λ j x lt at no_stay same. no_entry x name no_stay (sym same)) ∙ stands.entries name

    none_doomed : (d : ℕ) → standing t (Doomed d) ≡ None
    none_doomed d = go (standing s (Doomed d)) refl
      where
        go : (o : Option (List ℕ)) → standing s (Doomed d) ≡ o → standing t (Doomed d) ≡ None
        go None e =
            to.others (Doomed d) (λ j x lt at no_stay same. no_file_there (object m (number j)) _ (file_stands s k m number stands j x at) (sym (ap (standing s) same) ∙ e))
            ∙ e
        go (Some c) e =
            let a = (stands.aside.only d (λ none. let both : None ≡ Some c = sym none ∙ e in cc)).1.0 in
            ap (λ o. standing t (place_of a.object.name o)) (sym a.set_aside)
            ∙ to.gone a.place a.object (within a.place a.object a.at_place) a.at_place (ap (λ o. is_none o) a.set_aside)

    pub closed : IsClosed (standing t) m
    closed = record { entries_are = entries_left; no_doomed = none_doomed }

-- All that is closed.

pub all_closed : (s t : State) (k : Kept) (n : ℕ) → length k.objects ≤ n → IsDroppedTo k n s t → ClosesAll (Ok tt) (cache_at k s) t
all_closed s t k n all to = record {
  closed = λ m stand. closed s k m stand.0 stand.1 t n all to;
  crash = λ h is. to.safe h.marks is.crash_kept.safe;
}

pub all_failed : {T : Type 0} (k : Kept) (i : ℕ) (x : Object) (r : Result T DiskFault) (s t u : State) → object_at k i ≡ Some x → u ≡ if_done r (let_go_by x t) t → IsDroppedTo k i s t
    → (m : Machine) (w : Marks) → KeepsTo (cache_at k s) (history_of m w) → IsSafe u w
all_failed k i x r s t u at_x is to m w stands = safe_done k i x r s t u at_x is to w stands.crash_kept.safe

-- the next file stands, whatever the machine is
pub next_somehow : (s t : State) (k : Kept) (i : ℕ) (x : Object) → RepresentsSome (cache_at k s) → object_at k i ≡ Some x → IsDroppedTo k i s t → IsSome (standing t (object_place x))
next_somehow s t k i x (m, (number, stands)) at to = next_stands s k m number stands i x t at to

same_or_same : {T : Type 0} (r : Result T DiskFault) (s : State) → if_done r s s ≡ s
same_or_same (Ok value) s = refl
same_or_same (Err Failed) s = refl
same_or_same (Err Memory) s = refl

-- of an object that is let go a doomed file is removed, if it has one, and nothing else is done
pub let_go_removes : {T : Type 0} (r : Result T DiskFault) (x : Object) (s t u : State) → RemovesDoomed s t → u ≡ if_done r (let_go_by x t) t → RemovesDoomed s u
let_go_removes r x s t u removes is = go x.aside is
  where
    go : (aside : Option ℕ) → u ≡ if_done r (without_doomed aside t) t → RemovesDoomed s u
    go None is = subst (RemovesDoomed s) (sym (is ∙ same_or_same r t)) removes
    go (Some number) is = removes_done r number s t u removes is
