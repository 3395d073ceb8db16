-- A disk in memory holds finitely many entry files, with bytes in them.
use Rattle.std.specs.Prelude.{◌≡◌, ℕ, zero, suc, ◌&&◌, Bool, true, false, cond, T, List, [], ◌∷◌, reverse, map, Option, Some, None, is_some, IsSome, Contains, ◌↔◌}
use Rattle.std.specs.List.{AllByRecursion, list_any}
use Rattle.std.specs.List.Sorted.{IsStrictlySortedBy}
use Rattle.std.specs.declared.cmp.Ordering.{Ordering}
use Rattle.std.specs.declared.cmp.Ordering.TheVariants.{Less, Equal, Greater}
use Rattle.std.specs.Ordering.{is_lt, eq_by_cmp}
use Rattle.std.specs.Cmp.{IsTotalOrder, eq_by_cmp_equiv}
use Rattle.std.specs.Map.{lookup}
use Rattle.std.specs.BTreeMap.{is_at}
use Rattle.std.specs.FinMap.{FinMap, empty, get, insert, remove, keys, entries, entries_sorted, contains_key-keys, get-empty, get-insert, get-remove}
use Rattle.std.specs.FinMap.Entries.{below_all, is_sorted}
use Rattle.std.proofs.Common.{refl, sym, ◌∙◌, ap, subst}
use Rattle.std.proofs.lemmas.Cmp.{on_total, nat_list_cmp_total}
use Rattle.std.proofs.lemmas.Map.Lookups.{exact_bytes}
use Rattle.std.proofs.lemmas.Map.Views.{tells_apart, Contains-from_any, list_any-from_Contains}
use Rattle.cache_base.specs.Bytes.{AreBytes}
use Rattle.cache_base.specs.Names.{name_cmp}
use Rattle.cache_base.specs.declared.name.Name.{Name}
use Rattle.disk_theory.specs.declared.place.Place.{Place}
use Rattle.disk_theory.specs.declared.place.Place.TheVariants.{Entry, Doomed, Index, Log, Tmp, Clear}
use Rattle.disk_theory.specs.declared.place.NameStep.{NameStep}
use Rattle.disk_theory.specs.contracts.place.PlaceOrd.TheImpl as place_ord
use Rattle.disk_theory.specs.State.{File, content, content_of, names_now, names_after}
use Rattle.disk_theory.specs.Listing.{IsFinite}
use Rattle.disk_model.specs.MemFile.{nth_file}
use Rattle.disk_model.specs.MemSlots.{Slots, now_of, names_in, synced_names_in}
use Rattle.disk_model.specs.MemState.{state_from}
use Rattle.disk_model.specs.MemDisk.{state_in}
use Rattle.disk_model.specs.declared.mem_disk.MemDisk.{MemDisk}
use Rattle.disk_model.specs.declared.mem_file.MemFile.{MemFile}
use Rattle.disk_model.specs.declared.mem_slots.Slot.{Slot}

-- both parts of a test
less_and : (r : Ordering) (b : Bool) → T (is_lt r && b) → (r ≡ Less) × T b
less_and Less b h = (refl, h)
less_and Equal b h = absurd h
less_and Greater b h = absurd h

both : (a b : Bool) → T (a && b) → T a × T b
both true b h = (tt, h)
both false b h = absurd h

-- the keys of a list in order rise
module _ {K X : Type 0} (R : K → K → Ordering) where
  below : (k : K) (es : List (K × X)) → T (below_all R k es) → AllByRecursion (λ y. R k y ≡ Less) (map (λ e. e.0) es)
  below k [] h = tt
  below k (e ∷ es) h = let parts = less_and (R k e.0) (below_all R k es) h in (parts.0, below k es parts.1)

  keys_rise : (es : List (K × X)) → T (is_sorted R es) → IsStrictlySortedBy R (map (λ e. e.0) es)
  unfolding IsStrictlySortedBy
  keys_rise [] h = tt
  keys_rise (e ∷ es) h = let parts = both (below_all R e.0 es) (is_sorted R es) h in (below e.0 es parts.0, keys_rise es parts.1)

-- names tie with themselves alone
names_total : IsTotalOrder name_cmp
names_total = on_total (λ (n : Name). n.0) nat_list_cmp_total

names_apart : (a b : Name) → eq_by_cmp name_cmp a b ≡ true → a ≡ b
names_apart = tells_apart (λ a b e. ap (λ bytes. record { 0 = bytes }) (exact_bytes a.0 b.0 e))

-- the entry files by name, with that of one place more, or without it where none stands there
abbrev with_place : Place → Option ℕ → FinMap name_cmp ℕ → FinMap name_cmp ℕ
with_place (Entry name) (Some file) files = insert files name file
with_place (Entry name) None files = remove files name
with_place (Doomed number) now files = files
with_place Index now files = files
with_place Log now files = files
with_place Tmp now files = files
with_place Clear now files = files

-- the entry files that stand, by name
abbrev entry_files : List (Place × Slot) → FinMap name_cmp ℕ
entry_files [] = empty
entry_files (e ∷ es) = with_place e.0 e.1.now (entry_files es)

module _ (name : Name) where
  abbrev is_there : Place → Bool
  is_there place = is_at (place_ord.ghosts.cmp (Entry name)) place

  -- what a place adds is there under its own name alone
  at_place : (place : Place) (now : Option ℕ) (files : FinMap name_cmp ℕ) → get (with_place place now files) name ≡ cond (is_there place) now (get files name)
  at_place (Entry other) (Some file) files = get-insert names_total files other file name
  at_place (Entry other) None files = get-remove names_total files other name
  at_place (Doomed number) now files = refl
  at_place Index now files = refl
  at_place Log now files = refl
  at_place Tmp now files = refl
  at_place Clear now files = refl

  now_first : (b : Bool) (slot : Slot) (rest : Option Slot) → now_of (cond b (Some slot) rest) ≡ cond b slot.now (now_of rest)
  now_first true slot rest = refl
  now_first false slot rest = refl

  -- the map has what a look-up finds
  found : (es : List (Place × Slot)) → get (entry_files es) name ≡ now_of (lookup is_there es)
  found [] = get-empty name_cmp name
  found (e ∷ es) = at_place e.0 e.1.now (entry_files es) ∙ ap (cond (is_there e.0) e.1.now) (found es) ∙ sym (now_first (is_there e.0) e.1 (lookup is_there es))

  -- its keys are the names of all entry files
  listed : (slots : Slots) → Contains (keys (entry_files slots.entries)) name ↔ IsSome (names_in slots (Entry name))
  listed slots =
      let files = entry_files slots.entries in
      let told : list_any (eq_by_cmp name_cmp name) (keys files) ≡ is_some (names_in slots (Entry name)) = sym (contains_key-keys files name) ∙ ap is_some (found slots.entries) in
      (λ has. sym told ∙ list_any-from_Contains (eq_by_cmp_equiv names_total) name (keys files) has, λ some. Contains-from_any names_apart name (keys files) (told ∙ some))

-- what stands has a content
holds : (files : ℕ → File) (file : Option ℕ) → is_some (content_of files file) ≡ is_some file
holds files None = refl
holds files (Some file) = refl

-- the content of a file is bytes
file_bytes : (files : List MemFile) (k : ℕ) → AreBytes (content (nth_file files k))
file_bytes [] zero = tt
file_bytes [] (suc k) = tt
file_bytes (f ∷ files) zero = subst AreBytes f.is_current f.are_bytes
file_bytes (f ∷ files) (suc k) = file_bytes files k

held_bytes : (files : List MemFile) (file : Option ℕ) (c : List ℕ) → content_of (nth_file files) file ≡ Some c → AreBytes c
held_bytes files None c is = cc
held_bytes files (Some k) c is = let same : content (nth_file files k) ≡ c = cc in subst AreBytes same (file_bytes files k)

-- the names and files of a table
finite_state : (slots : Slots) (steps : List NameStep) (files : List MemFile) → names_in slots ≡ names_after (synced_names_in slots) (reverse steps) → IsFinite (state_from slots steps files)
finite_state slots steps files names = record {
  names = keys (entry_files slots.entries);
  rising = keys_rise name_cmp (entries (entry_files slots.entries)) (entries_sorted (entry_files slots.entries));
  entries = λ name.
      let there = listed name slots in
      let same = ap (λ ns. is_some (ns (Entry name))) names ∙ sym (holds (nth_file files) (names_now (state_from slots steps files) (Entry name))) in
      (λ has. sym same ∙ there.0 has, λ some. there.1 (same ∙ some));
  bytes = λ name c is. held_bytes files (names_now (state_from slots steps files) (Entry name)) c is;
}

-- the law of a disk, for one in memory
pub finite_in : (d : MemDisk) → IsFinite (state_in d)
finite_in d = finite_state d.table.slots d.table.steps.items d.table.files.items d.table.names
