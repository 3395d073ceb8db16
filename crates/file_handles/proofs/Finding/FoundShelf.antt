-- What stands at the place of a key, and what the machine has on the shelf.
use Rattle.std.proofs.Common.{◌≡◌, ◌∙◌, ℕ, List, true, Some, sym, ap}
use Rattle.std.specs.Str.{bytes_eq}
use Rattle.cache_theory.specs.Ever.{entries}
use Rattle.cache_theory.specs.Machine.{Machine, object, on_shelf, used_by}
use Rattle.cache_theory.specs.Proper.{IsProper}
use Rattle.cache_theory.specs.Stands.{EntriesStand}
use Rattle.cache_theory.specs.Table.{get}
use Rattle.cache_theory.proofs.ObjectLaws.Objects.{object_at as machine_object_at}
use Rattle.cache_theory.proofs.CrashImages.Reading.{key_of_file, same_key, some_of, used_by_is}
use Rattle.disk_theory.specs.Image.{Files}
use Rattle.entry_file.specs.EntryFile.{read, read_for}
use Rattle.entry_file.specs.EntryFile.Reading.{Whole}
use Rattle.entry_file.specs.Version.{IsVersion, Version}
use Rattle.entry_file.proofs.EntryLaws.{file_reads_whole}
use Rattle.entry_name.specs.EntryName.{file_name}

module _ (files : Files) (m : Machine) (stand : EntriesStand files m) where
  -- a file of the shelf stands under its name
  pub shelf_stands : (name c : List ℕ) → get m.shelf name ≡ Some c → entries files name ≡ Some c
  shelf_stands name c shelved = stand name ∙ shelved

  -- what stands reads as what is on the shelf
  pub shelf_read : (key : List ℕ) → read_for key (entries files (file_name key)) ≡ on_shelf m key
  shelf_read key = ap (read_for key) (stand (file_name key))

-- a finished object in use of a key is read from the shelf
pub used_on_shelf : (m : Machine) (key : List ℕ) (i : ℕ) → IsProper m → used_by m key ≡ Some i → (object m i).finished ≡ true → on_shelf m key ≡ Whole (object m i).version
used_on_shelf m key i proper used done =
    let is = used_by_is m key i used in
    let v : Version = (object m i).version in
    let version : IsVersion v = (machine_object_at m.objects proper.objects i (proper.user (file_name key) i is.at).in_use.number).version done in
    let there = some_of (get m.shelf (file_name key)) (proper.stored (file_name key) i is.at done) in
    ap (read_for key) there.1.0
    ∙ same_key key there.0 (ap (λ own. bytes_eq own key) (key_of_file v there.0 version there.1.1) ∙ is.has_key)
    ∙ ap (λ name. read name there.0) (sym (proper.user (file_name key) i is.at).named)
    ∙ file_reads_whole v there.0 version there.1.1
