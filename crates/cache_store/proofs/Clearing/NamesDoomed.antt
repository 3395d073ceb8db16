-- Names whose files are removed one after the other.
use Rattle.std.proofs.Common.{◌≡◌, ◌≢◌, true, false, List, [], ◌∷◌, None, Result, Ok, Err, sym, ap, subst, ◌∙◌}
use Rattle.std.specs.List.{AllByRecursion}
use Rattle.std.specs.Prelude.{IsErrAnd, IsSome}
use Rattle.std.specs.Str.{bytes_eq}
use Rattle.std.proofs.lemmas.Bool.{or_left}
use Rattle.std.proofs.lemmas.Map.Keys.{IsDistinct-head, IsDistinct-tail}
use Rattle.std.proofs.lemmas.Slice.Eq.{bytes_eq-Decides}
use Rattle.cache_base.specs.declared.name.Name.{Name}
use Rattle.cache_store.specs.Evicting.{AreUnused, DoomsAll, HoldsFiles}
use Rattle.cache_theory.specs.History.{History}
use Rattle.cache_theory.specs.Machine.{Machine}
use Rattle.cache_theory.specs.Marks.{is_touched}
use Rattle.cache_theory.specs.Step.{doomed_under}
use Rattle.cache_theory.specs.Table.{get}
use Rattle.cache_theory.proofs.Names.{get-remove_other}
use Rattle.disk_theory.specs.State.{standing}
use Rattle.disk_theory.specs.declared.disk.DiskFault.{DiskFault}
use Rattle.disk_theory.specs.declared.place.Place.TheVariants.{Entry}
use Rattle.file_handles.specs.Cache.{Cache}
use Rattle.file_handles.specs.Dooming.{DoomsUnder}
use Rattle.handle_table.specs.Kept.{Kept}
use Rattle.file_handles.specs.Stands.{Represents}
use Rattle.handle_table.specs.Users.{users_of}
use Rattle.handle_table.proofs.SlotUsers.{unused_none}
use Rattle.handle_table.proofs.User.{no_user_there}
use Rattle.file_handles.proofs.Where.{bare_in, stand_for}
use Rattle.record_list.specs.Lists.{same_name}
use Rattle.record_list.proofs.NameLaws.{same_itself}

-- ---- the dooming of all is that of one after the other

-- what is left completes the whole
abbrev pub Completes : List Name → List Name → Cache → Cache → Type 0
Completes left names before now =
    (answer : Result (Unit {0}) DiskFault) (after : Cache) → DoomsAll left answer now after → DoomsAll names answer before after

pub completes_all : (names : List Name) (now : Cache) → Completes names names now now
completes_all names now answer after dooms = dooms

-- with none left all is done
pub none_left : (names left : List Name) (before now : Cache) → left ≡ [] → Completes left names before now → DoomsAll names (Ok tt) before now
none_left names left before now none completes = completes (Ok tt) now (subst (λ (ns : List Name). DoomsAll ns (Ok tt) now now) (sym none) (record {
  leaves = λ crash h touched keeps. record { safe = λ on. (keeps.crash_kept on).safe; next = keeps };
}))

module _ (name : Name) (left names : List Name) (before now next : Cache) (completes : Completes (name ∷ left) names before now) where
  pub next_done : (x : Unit {0}) → DoomsUnder {E = DiskFault} name.0 (Ok x) now next → Completes left names before next
  next_done x dooms answer after rest = completes answer after (record {
    leaves = λ crash h touched keeps.
        rest.leaves crash (record h { machine = doomed_under h.machine name.0 }) touched.1 (dooms.leaves crash h touched.0 keeps).next;
  })

  pub next_fails : (r : Result (Unit {0}) DiskFault) → DoomsUnder name.0 r now next → (answer : Result (Unit {0}) DiskFault) (P : DiskFault → Type 0) → IsErrAnd answer P
      → DoomsAll names answer before next
  next_fails r dooms (Ok x) P failed = absurd failed
  next_fails r dooms (Err f) P failed = completes (Err f) next (record {
    leaves = λ crash h touched keeps. record { safe = (dooms.leaves crash h touched.0 keeps).safe; next = tt };
  })

-- ---- the others still stand

module _ (now : Cache) (m : Machine) (is : Represents now m) (name : Name) (unused : users_of now.handles name ≡ 0) where
  -- a name that no slot uses is not in use
  pub not_in_use : get m.in_use name.0 ≡ None
  not_in_use =
      let bare = unused_none now.handles m is.0 is.1.proper is.1.handles name unused in
      no_user_there now.handles m is.0 is.1.proper is.1.handles name bare

  -- and has what is on the shelf
  pub shelf_there : standing now.disk (Entry name) ≡ get m.shelf name.0
  shelf_there = is.1.entries name.0

pub apart : (name q : Name) → same_name name q ≡ false → name.0 ≢ q.0
apart name q differs same = let eq : same_name name q ≡ true = (bytes_eq-Decides name.0 q.0).1 same in absurd (cc)

-- a history in whose marks the name is touched
abbrev pub alone : Name → Machine → History
alone name m = record { machine = m; marks = record { marked = m; touched = name.0 ∷ []; since = []; in_place = [] } }

pub own : (name : Name) (m : Machine) → is_touched (alone name m).marks name.0 ≡ true
own name m = or_left (bytes_eq name.0 name.0) false (same_itself name)

module _ (name : Name) (now next : Cache) (x : Unit {0}) (same : next.handles ≡ now.handles) (dooms : DoomsUnder {E = DiskFault} name.0 (Ok x) now next) where
  reached : (m : Machine) → Represents now m → Represents next (doomed_under m name.0)
  reached m is =
      stand_for {h = record (alone name m) { machine = doomed_under m name.0 }} (dooms.leaves false (alone name m) (own name m) (bare_in {h = alone name m} is)).next

  still : (m : Machine) → Represents now m → (q : Name) → same_name name q ≡ false → users_of now.handles q ≡ 0 → IsSome (standing now.disk (Entry q)) → IsSome (standing next.disk (Entry q))
  still m is q differs unused stands =
      let before = shelf_there now m is q unused in
      let after = shelf_there next (doomed_under m name.0) (reached m is) q (ap (λ (k : Kept). users_of k q) same ∙ unused) in
      subst IsSome (sym (after ∙ get-remove_other m.shelf name.0 q.0 (apart name q differs) ∙ sym before)) stands

  all_still : (m : Machine) → Represents now m → (qs : List Name) → AllByRecursion (λ q. same_name name q ≡ false) qs → AllByRecursion (λ q. users_of now.handles q ≡ 0) qs
      → AllByRecursion (λ q. IsSome (standing now.disk (Entry q))) qs → AllByRecursion (λ q. IsSome (standing next.disk (Entry q))) qs
  all_still m is [] differ unused stand = tt
  all_still m is (q ∷ qs) differ unused stand = (still m is q differ.0 unused.0 stand.0, all_still m is qs differ.1 unused.1 stand.1)

  pub rest_holds : (left : List Name) → AreUnused now.handles (name ∷ left) → HoldsFiles now (name ∷ left) → HoldsFiles next left
  rest_holds left unused holds = record {
    stands = (doomed_under holds.stands.0 name.0, reached holds.stands.0 holds.stands.1);
    files = all_still holds.stands.0 holds.stands.1 left (IsDistinct-head same_name name left unused.distinct) unused.unused.1 holds.files.1;
  }

pub rest_unused : (name : Name) (left : List Name) (k : Kept) → AreUnused k (name ∷ left) → AreUnused k left
rest_unused name left k unused = record { distinct = IsDistinct-tail same_name name left unused.distinct; unused = unused.unused.1 }
