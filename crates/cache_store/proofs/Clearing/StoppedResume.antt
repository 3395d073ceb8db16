-- Where a clearing stops that is resumed, its mark still stands, or all of it is done.
use Rattle.std.proofs.Common.{◌≡◌, ◌∙◌, inl, inr, ℕ, true, false, List, None, Option, Some, ap, subst, sym}
use Rattle.std.specs.Prelude.{if◌then◌else◌, is_some}
use Rattle.cache_base.specs.declared.name.Name.{Name}
use Rattle.cache_store.specs.Open.{Represents, Tells}
use Rattle.cache_store.specs.Session.{Session}
use Rattle.cache_store.specs.StoppedClearing.{ClearsUnderMark, HasNoneOf, IsLeftByClearing, IsMarkedOrCleared, StoppedResumeKeepsMark}
use Rattle.cache_store.specs.StoppedClearing.IsLeftByClearing.{Marked, Unbegun, Whole}
use Rattle.cache_store.proofs.Clearing.ClearedLaws.{left_under}
use Rattle.cache_store.proofs.Records.GoesBy.{goes_by}
use Rattle.cache_theory.specs.Checks.{checks}
use Rattle.cache_theory.specs.Command.Command.{Resume}
use Rattle.cache_theory.specs.Covers.{covered_by, covers, resumed, resumed_by, taken_for_by}
use Rattle.cache_theory.specs.Ever.{entries}
use Rattle.cache_theory.specs.Laws.{AreLost}
use Rattle.cache_theory.specs.Machine.{Machine}
use Rattle.cache_theory.specs.Step.{cleared_of, effect, step, unmarked}
use Rattle.cache_theory.specs.Table.{get, name_of}
use Rattle.cache_theory.proofs.Clears.ClearedNames.{resumed_leaves_none}
use Rattle.cache_theory.proofs.Clears.Clearing.{resume_goes_by_scan}
use Rattle.cache_theory.proofs.Evictions.Evicting.{cleared_are_lost}
use Rattle.context_clear.specs.Mark.{IsMark, mark_bytes, mark_of}
use Rattle.context_clear.proofs.MarkLaws.{mark_read}
use Rattle.disk_theory.specs.Image.{Files, IsImage}
use Rattle.disk_theory.specs.State.{State}
use Rattle.disk_theory.specs.declared.place.Place.TheVariants.{Clear}
use Rattle.entry_file.specs.EntryFile.{found, read_for, whole_in}
use Rattle.entry_file.specs.Version.{Version}
use Rattle.entry_name.specs.EntryName.{file_name}
use Rattle.index_record.specs.declared.record.IndexRecord.{IndexRecord}
use Rattle.index_theory.specs.Scan.{scan}

-- what it takes, by records that are those of all entries
pub resumed_by_scan : (m : Machine) (origin : ℕ) → mark_of m.mark ≡ Some origin → resumed m ≡ covered_by (scan m.shelf) m origin
unfolding resumed_by
resumed_by_scan m origin is = resume_goes_by_scan m ∙ ap (taken_for_by (scan m.shelf) m) is

resumed_next : (m : Machine) → is_some (mark_of m.mark) ≡ true → (step m Resume).next ≡ cleared_of m (resumed m)
unfolding checks effect
resumed_next m some = ap (λ b. if b then cleared_of m (resumed m) else unmarked m) some

module _ (origin : ℕ) (before : Session) (t : State) (m : Machine) (is : Represents before m) (tells : Tells before m) (marked : IsMark origin m.mark)
    (stood : (image : Files) → IsImage before.disk image → image Clear ≡ Some (mark_bytes origin)) (stops : ClearsUnderMark origin before t) where
  mark : mark_of m.mark ≡ Some origin
  mark = ap mark_of marked.1 ∙ (mark_read origin marked.0).1

  abbrev names : List Name
  names = covered_by (stops m is).0 m origin

  abbrev next : Machine
  next = (step m Resume).next

  own : names ≡ resumed m
  own =
      ap (λ (rs : List IndexRecord). covered_by rs m origin)
      ((goes_by before.open_store.handles before.open_store.moment before.disk before.open_store.index m is.stands (stops m is).0 (stops m is).1.0).right tells)
      ∙ sym (resumed_by_scan m origin mark)

  lost : AreLost m next names
  lost =
      subst (λ (ns : List Name). AreLost m next ns) (sym own)
      (subst (λ (n : Machine). AreLost m n (resumed m)) (sym (resumed_next m (ap is_some mark))) (cleared_are_lost m (resumed m)))

  none_found : (image : Files) → HasNoneOf before.disk names image → (key : List ℕ) (v : Version) → found (entries image) key ≡ Some v → covers origin v.key v.header ≡ false
  none_found image none key v at = elim (left_under before.disk m next names image (name_of (file_name key)) none lost (is.stands.1.entries (file_name key))) [
    | inl gone ↦ absurd (let no : None ≡ Some v = there None gone in cc)
    | inr same ↦ resumed_leaves_none m origin key v mark (there (get next.shelf (file_name key)) same)
  ]
    where
      there : (o : Option (List ℕ)) → entries image (file_name key) ≡ o → whole_in (read_for key o) ≡ Some v
      there o same = sym (ap (λ (c : Option (List ℕ)). whole_in (read_for key c)) same) ∙ at

  mark_or_none : (image : Files) → IsLeftByClearing before.disk origin names image → IsMarkedOrCleared origin image
  mark_or_none image (Unbegun could) = inl (could.1.1 Clear tt ∙ stood could.0 could.1.0)
  mark_or_none image (Marked there) = inl there
  mark_or_none image (Whole none) = inr (none_found image none)

pub stopped_resume_keeps_mark : StoppedResumeKeepsMark
stopped_resume_keeps_mark origin before t m is tells marked stood stops image of = mark_or_none origin before t m is tells marked stood stops image ((stops m is).1.1 image of)
