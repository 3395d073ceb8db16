-- What the disk keeps as the cache is opened.
use Rattle.std.proofs.Common.{◌≡◌, ◌∙◌, ℕ, ◌<◌, ◌^◌, List, [], ◌∷◌, Option, refl, sym, ap, subst}
use Rattle.std.specs.Prelude.{None, option_and_then}
use Rattle.cache_theory.specs.Crash.{IsSafe}
use Rattle.cache_theory.specs.Ever.{entry_place}
use Rattle.cache_theory.specs.History.{settled_at}
use Rattle.cache_theory.specs.Machine.{Machine, opened}
use Rattle.cache_theory.specs.Marks.{Marks, marks_of}
use Rattle.cache_theory.specs.Table.{Table, get}
use Rattle.cache_theory.proofs.CrashImages.Crashes.{quiet_is_safe, safe_is_crash_safe}
use Rattle.cache_theory.proofs.CrashImages.DiskChanges.{remove_keeps}
use Rattle.cache_theory.proofs.CrashImages.FiledOnce.{quiet_files_once}
use Rattle.disk_theory.specs.Listing.{IsFinite}
use Rattle.disk_theory.specs.Sound.{IsQuiet, IsSound}
use Rattle.disk_theory.specs.State.{State, removed, standing}
use Rattle.disk_theory.specs.declared.place.Place.{Place}
use Rattle.disk_theory.specs.declared.place.Place.TheVariants.{Clear, Doomed}
use Rattle.disk_theory.proofs.Sound.{sound_settled}
use Rattle.doom_area.specs.DoomArea.{IsCleared, RemovesDoomed, removed_each}
use Rattle.entry_file.specs.EntryFile.{found, read_for, whole_in}
use Rattle.entry_name.specs.EntryName.{file_name}
use Rattle.file_handles.specs.Cache.{cache_at}
use Rattle.file_handles.specs.Carries.{StandsForOpening, IsShelf}
use Rattle.handle_table.specs.Kept.{Kept}
use Rattle.file_handles.specs.Stands.{KeepsTo as CacheKeepsTo}
use Rattle.file_handles.proofs.IndexLeft.{cleared_left}
use Rattle.index_keeps.proofs.KeepsLaws.{spared_is_filed_once, spared_is_safe}
use Rattle.index_theory.specs.Apart.{IsApart, IsOfIndex}
use Rattle.index_theory.specs.Ever.{entries_on}
use Rattle.index_theory.specs.Honest.{Honest}
use Rattle.index_theory.specs.Opening.{IsOpening}
use Rattle.index_theory.specs.Scan.{record_of}
use Rattle.index_theory.proofs.ApartLaws.{quiet_is_apart}
use Rattle.index_theory.proofs.OpeningLaws.{opening_begins, opening_clears, opening_leaves_honest}
use Rattle.index_update.specs.Rest.{name_bytes}
use Rattle.startup_read.specs.Opening.{OpensHonest, marked, opened as opened_index, opening_at, set_aside}
use Rattle.startup_read.specs.Opening.OpeningMoment.{Synced}
use Rattle.startup_read.specs.Spares.{SparesEntries}
use Rattle.startup_read.proofs.OpeningLaws.{sound_aside, sound_marked}
use Rattle.cache_store.specs.Kept.{HoldsIndex}
use Rattle.cache_store.specs.Open.{IsOpen, IsRest, KeepsFound, Opens, OpensHonestly, OpensSafely, StartsOn}
use Rattle.memory_index.specs.Records.{TellsOf}
use Rattle.cache_store.specs.Session.{Open, Session}
use Rattle.cache_store.proofs.Sessions.Closed.{settled_quiet}
use Rattle.cache_store.proofs.Sessions.OpenedIndex.{opened_spares, opened_stands, synced_stands}
use Rattle.cache_store.proofs.Performing.Represented.{represents}
use Rattle.cache_store.proofs.Sessions.RestIsOne.{rest_exists, rest_is_one}
use Rattle.cache_store.proofs.Shelves.{shelf_exists}
use Rattle.cache_store.proofs.Sessions.StartAlong.{honest_along, rest_along}
use Rattle.memory_index.proofs.TellsAlike.{tells_alike}

-- ---- at every exit, with nothing pending at the call

-- doomed files are removed one after the other
each_safe : (numbers : List ℕ) (s : State) (w : Marks) → IsSafe s w → IsSafe (removed_each numbers s) w
each_safe [] s w safe = safe
each_safe (n ∷ ns) s w safe = each_safe ns (removed (Doomed n) s) w (remove_keeps s w (Doomed n) (λ name same. absurd (cc)) safe)

-- a disk at rest is safe at the opening
shelf_safe : (s : State) (now : ℕ) (shelf : Table (List ℕ)) (mark : Option (List ℕ)) (rest : List (List ℕ)) → IsQuiet s → IsShelf s shelf → IsSafe s (marks_of (opened now shelf mark rest))
shelf_safe s now shelf mark rest quiet is = quiet_is_safe s (opened now shelf mark rest) quiet (λ key. ap (λ c. whole_in (read_for key c)) (is.entries_are (file_name key)))

pub opened_safe : (s : State) (now : ℕ) → OpensSafely now s s
opened_safe s now m starts quiet = subst (λ n. IsSafe s (marks_of n)) (sym starts.is_opened) (shelf_safe s now starts.shelf (standing s Clear) (name_bytes starts.rest) quiet starts.is_shelf)

-- so it is while it is cleared
pub cleared_safe : (s d : State) (now : ℕ) → RemovesDoomed s d → OpensSafely now s d
cleared_safe s d now (numbers, is) m starts quiet = subst (λ u. IsSafe u (marks_of m)) (sym is) (each_safe numbers s (marks_of m) (opened_safe s now m starts quiet))

-- and while the index is opened
pub begun_safe : (s d t : State) (now : ℕ) → IsSound s → RemovesDoomed s d → (IsApart d → SparesEntries d t) → OpensSafely now s t
begun_safe s d t now sound removes spares m starts quiet =
    spared_is_safe d t (marks_of m) (spares ((cleared_left s d removes).index.apart (quiet_is_apart s quiet sound))) (cleared_safe s d now removes m starts quiet)

-- a machine at an opening
pub starts_on : (now : ℕ) (s : State) → IsFinite s → (m : Machine) × StartsOn now s m
starts_on now s finite =
    let shelf = shelf_exists s finite in
    let rest = rest_exists s finite in
    (opened now shelf.0 (standing s Clear) (name_bytes rest.0), record { shelf = shelf.0; rest = rest.0; is_shelf = shelf.1; is_rest = rest.1; is_opened = refl })

-- after a crash at any exit each key is found as it was
pub keeps_found : (s t : State) (now : ℕ) → IsFinite s → OpensSafely now s t → KeepsFound s t
keeps_found s t now finite safe quiet image is key =
    let starts = starts_on now s finite in
    (safe_is_crash_safe t (marks_of starts.0) (safe starts.0 starts.1 quiet) image is).untouched key refl
    ∙ ap (λ (n : Machine). found (get n.shelf) key) starts.1.is_opened
    ∙ ap (λ c. whole_in (read_for key c)) (sym (starts.1.is_shelf.entries_are (file_name key)))

-- ---- honest directories

each_opening : (numbers : List ℕ) (s t : State) → IsOpening s t → IsOpening s (removed_each numbers t)
each_opening [] s t o = o
each_opening (n ∷ ns) s t o = each_opening ns s (removed (Doomed n) t) (opening_clears s t n o)

cleared_opening : (s d : State) → IsQuiet s → RemovesDoomed s d → IsOpening s d
cleared_opening s d quiet (numbers, is) = subst (IsOpening s) (sym is) (each_opening numbers s s (opening_begins s quiet))

pub cleared_honest : (s d : State) → IsSound s → RemovesDoomed s d → OpensHonestly s d
cleared_honest s d sound removes quiet honest = opening_leaves_honest s d quiet sound honest (cleared_opening s d quiet removes)

pub nothing_removed : (s : State) → RemovesDoomed s s
nothing_removed s = ([], refl)

pub begun_honest : (s d t : State) → IsSound s → RemovesDoomed s d → OpensHonest d t → OpensHonestly s t
begun_honest s d t sound removes opens quiet honest = opens s quiet sound honest (cleared_opening s d quiet removes)

-- ---- after an Ok

shelf_along : (s t : State) (shelf : Table (List ℕ)) → ((name : List ℕ) → entries_on t name ≡ entries_on s name) → IsShelf s shelf → IsShelf t shelf
shelf_along s t shelf same is = record { table = is.table; bytes = is.bytes; entries_are = λ name. same name ∙ is.entries_are name }

-- the handles and the disk then keep to the machine at the opening
opened_keeps : (d : State) (now : ℕ) (k : Kept) (shelf : Table (List ℕ)) (mark : Option (List ℕ)) (rest : List (List ℕ)) → IsSound d → now < 2 ^ 32 → StandsForOpening k → IsShelf d shelf → ((n : ℕ) → standing d (Doomed n) ≡ None)
    → CacheKeepsTo (cache_at k (opened_index d)) (settled_at (opened now shelf mark rest))
opened_keeps d now k shelf mark rest sound small begins is none =
    let u : State = opening_at Synced d in
    let quiet : IsQuiet u = settled_quiet (marked (set_aside d)) in
    let sound_u : IsSound u = sound_settled (marked (set_aside d)) (sound_marked (set_aside d) (sound_aside d sound)) in
    let is_u : IsShelf u shelf = shelf_along d u shelf (λ name. synced_stands d (entry_place name) sound (λ of. of)) is in
    let is_t : IsShelf (opened_index d) shelf = shelf_along d (opened_index d) shelf (λ name. opened_stands d (entry_place name) sound (λ of. of)) is in
    (begins (opened_index d) now shelf mark rest small is_t (λ n. opened_stands d (Doomed n) sound (λ of. of) ∙ none n)).crash
    (spared_is_filed_once u (opened_index d) (opened_spares d) (quiet_files_once u quiet sound_u))
    (spared_is_safe u (opened_index d) (marks_of (opened now shelf mark rest)) (opened_spares d) (shelf_safe u now shelf mark rest quiet is_u))

-- the store stands for the machine at the opening, and its records are right
module _ (s d t : State) (now : ℕ) (o : Open) (removes : RemovesDoomed s d) (cleared : IsCleared s d) where
  same_index : (p : Place) → IsOfIndex p → standing d p ≡ standing s p
  same_index = (cleared_left s d removes).index.stands

  same_entries : (name : List ℕ) → entries_on d name ≡ entries_on s name
  same_entries name = cleared.others (entry_place name) (λ n same. cc)

  pub opens : IsSound d → t ≡ opened_index d → o.moment ≡ now → now < 2 ^ 32 → StandsForOpening o.handles → IsRest d o.index.update
      → (Honest (standing d) → TellsOf (entries_on d) o.index) → HoldsIndex t o.index.map → Opens now s (record { open_store = o; disk = t })
  opens sound is moment small begins rest tells holds = record {
    keeps = λ m starts. record {
      stands = subst (λ n. CacheKeepsTo (cache_at o.handles t) (settled_at n)) (sym starts.is_opened)
          (subst (λ u. CacheKeepsTo (cache_at o.handles u) (settled_at (opened now starts.shelf (standing s Clear) (name_bytes starts.rest)))) (sym is)
          (opened_keeps d now o.handles starts.shelf (standing s Clear) (name_bytes starts.rest) sound small begins (shelf_along s d starts.shelf same_entries starts.is_shelf) cleared.none));
      matches = record {
        moment = ap (λ n. n.moment) starts.is_opened ∙ sym moment;
        rest = same_rest m starts;
        mark = ap (λ n. n.mark) starts.is_opened ∙ sym (cleared.others Clear (λ n same. cc)) ∙ sym (opened_stands d Clear sound (λ of. of))
            ∙ sym (ap (λ (u : State). standing u Clear) is);
        holds = holds;
      };
    };
    tells = λ m starts honest. record {
      rest = same_rest m starts;
      tells = tells_alike (entries_on d) (get m.shelf) o.index (λ name. ap (option_and_then (record_of name)) (same_shelf m starts name.0)) (tells (honest_along s d same_index same_entries honest));
    };
  }
    where
      same_rest : (m : Machine) → StartsOn now s m → m.rest ≡ name_bytes o.index.update
      same_rest m starts = ap (λ n. n.rest) starts.is_opened ∙ ap name_bytes (rest_is_one s starts.rest o.index.update starts.is_rest (rest_along s d same_index same_entries o.index.update rest))

      same_shelf : (m : Machine) → StartsOn now s m → (name : List ℕ) → get m.shelf name ≡ entries_on d name
      same_shelf m starts name = ap (λ n. get n.shelf name) starts.is_opened ∙ sym (starts.is_shelf.entries_are name) ∙ sym (same_entries name)

-- so it is open
pub opens_open : (s : State) (now : ℕ) (after : Session) → IsFinite s → Opens now s after → IsOpen after
opens_open s now after finite opens_ =
    let starts = starts_on now s finite in
    (starts.0, represents (opens_.keeps starts.0 starts.1))
