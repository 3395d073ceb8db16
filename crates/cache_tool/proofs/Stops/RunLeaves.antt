-- What a run leaves of the index, and of a clearing that was stopped before it, whatever its words are.
use Rattle.std.proofs.Common.{◌≡◌, ◌⊎◌, inl, inr, ℕ, IsTrue, List, [], ◌∷◌, false, true≢false, Option, Some, None, refl, sym, ap, subst, ◌∙◌}
use Rattle.std.specs.Prelude.{IfSome, IsSome, IsSomeAnd}
use Rattle.cache_base.specs.Bytes.{AreBytes}
use Rattle.cache_base.specs.declared.status.Status.{Status}
use Rattle.cache_base.specs.declared.status.Status.TheVariants as status
use Rattle.cache_store.specs.DoneFor.{AreOfShelf, IsDoneBy, IsDoneFor, IsOfShelf, IsResumedBy}
use Rattle.cache_script.proofs.ScriptLaws.{bytes_have_commands}
use Rattle.cache_theory.specs.Command.{Command}
use Rattle.cache_theory.specs.Command.Command.{ClearOrigin, Evict, HasEntry, ListRecords, Resume, Verify}
use Rattle.cache_theory.specs.Covers.{covers}
use Rattle.cache_theory.specs.Machine.{Machine}
use Rattle.cache_theory.specs.Marks.{rewritten}
use Rattle.cache_theory.specs.Proper.{IsProper}
use Rattle.cache_theory.specs.Step.{after, step}
use Rattle.cache_theory.specs.Table.{get}
use Rattle.cache_theory.proofs.Clears.ClearedNames.{resumed_leaves_none}
use Rattle.cache_theory.proofs.Clears.MarkStays.{no_mark_is_left}
use Rattle.cache_theory.proofs.Proper.{stays_proper}
use Rattle.cache_theory.proofs.ShelfSteps.{IsShelvedBy, shelved_by}
use Rattle.cache_theory.proofs.ShelfSteps.IsShelvedBy.{Comes, Goes, Stays}
use Rattle.cache_tool.specs.Beginning.{AreAtOpening, AreOnResumed}
use Rattle.cache_tool.specs.Right.{is_rebuild}
use Rattle.cache_tool.specs.Statuses.{IsClosing}
use Rattle.cache_tool.specs.Theorem.{Call, IndexIsScan, CleanCall, StoppedClearingIsDone, TrustedIndexIsScan, UpdatedIndexIsTrusted}
use Rattle.cache_tool.specs.Verbs.{HasNotBegun, LeavesDisk, Reach, all_begun_none_acked, none_begun, none_performed, one_begun_after}
use Rattle.cache_tool.specs.Words.{Asked}
use Rattle.cache_tool.specs.World.{World, output_of}
use Rattle.cache_tool.proofs.DoneLaws.{done_where, resumed_where}
use Rattle.cache_tool.proofs.SameLaws.{done_is_same}
use Rattle.cache_tool.proofs.Stops.StoppedScripts.{starts_proper}
use Rattle.cache_tool.proofs.Stops.WrittenSince.{no_mark_after}
use Rattle.context_clear.specs.Mark.{mark_of}
use Rattle.disk_theory.specs.State.{State, standing}
use Rattle.disk_theory.specs.declared.place.Place.TheVariants.{Clear}
use Rattle.entry_file.specs.EntryFile.{found, read_for, whole_in}
use Rattle.entry_file.specs.Version.{Version}
use Rattle.entry_name.specs.EntryName.{file_name}
use Rattle.index_theory.specs.Ever.{entries}
use Rattle.index_theory.specs.Honest.{Honest}
use Rattle.index_theory.specs.Start.{start_of}
use Rattle.index_theory.specs.declared.kinds.Start.TheVariants.{Ready}
use Rattle.index_theory.proofs.StartLaws.{ready_is_scan}

-- ---- any words

-- some commands were done, and this is what they left
abbrev Leaves : Machine → Status → World → World → Type 0
Leaves m ended before now = (r : Reach) × LeavesDisk m r ended before.disk now.disk

unbegun_leaves : (m : Machine) (ended : Status) (before now : World) → HasNotBegun m ended (output_of before) (output_of now) → Leaves m ended before now
unbegun_leaves m ended before now failed = elim failed.leaves [
  | inl leaves ↦ (none_begun m, leaves)
  | inr first ↦ (none_performed m first.0, first.1.1)
]

of_some : {P : List ℕ → Type 0} (o : Option (List ℕ)) → IsSomeAnd o AreBytes → IfSome o P → (bytes : List ℕ) × (AreBytes bytes × P bytes)
of_some None some all = absurd some
of_some (Some bytes) some all = (bytes, (some, all))

pub is_some_of : (o : Option (List ℕ)) → IsSomeAnd o AreBytes → IsSome o
is_some_of None some = absurd some
is_some_of (Some bytes) some = refl

run_leaves : (asked : Asked) (m : Machine) (ended : Status) (before now : World) → Call asked m ended before now → IsSomeAnd before.source.left AreBytes → Leaves m ended before now
run_leaves (Asked.Run moment) m ended before now called source =
    let came = of_some before.source.left source called.performs in
    let script = bytes_have_commands came.0 came.1.0 in
    elim (came.1.1 m script.0 called.opened script.1) [
      | inl ran ↦ (one_begun_after m ran.0 ran.1.1.acked ran.1.1.with_last ended ran.1.1.done, ran.1.1.leaves)
      | inr failed ↦ unbegun_leaves m ended before now failed.0
    ]
run_leaves (Asked.Put moment key) m ended before now called source =
    elim (called.performs (is_some_of before.source.left source) m called.opened) [
      | inl ran ↦ elim ran.1.1 [
        | inl put ↦ (all_begun_none_acked m ran.0 put.0, put.1.1.leaves)
        | inr faulted ↦ (none_performed m ran.0, faulted.0.leaves)
      ]
      | inr failed ↦ unbegun_leaves m ended before now failed.0
    ]
run_leaves (Asked.One moment c) m ended before now called source =
    elim (called.performs m called.opened) [
      | inl ran ↦ elim ran.1.1 [
        | inl one ↦ (all_begun_none_acked m ran.0 (one.0 ∷ []), one.1.1.0.leaves)
        | inr faulted ↦ (none_performed m ran.0, faulted.leaves)
      ]
      | inr failed ↦ unbegun_leaves m ended before now failed
    ]
run_leaves (Asked.Fill moment count first) m ended before now called source =
    elim (called.performs m called.opened) [
      | inl ran ↦ (_, ran.1.1.leaves)
      | inr failed ↦ unbegun_leaves m ended before now failed
    ]
run_leaves (Asked.Load moment) m ended before now called source =
    let came = of_some before.source.left source called.performs in
    elim (came.1.1 m called.opened) [
      | inl ran ↦ (_, ran.1.1.leaves)
      | inr failed ↦ unbegun_leaves m ended before now failed.0
    ]

pub trusted_index_is_scan : TrustedIndexIsScan
trusted_index_is_scan asked m ended before now ran image is ready records applied =
    let leaves = run_leaves asked m ended before now ran.call ran.source in
    (ready_is_scan image records ready applied).0 (leaves.1.images ran.quiet ran.honest image is)

-- ---- one command, after which the store was closed

pub unclosed : (ended : Status) → (ended ≡ status.Disk) ⊎ (ended ≡ status.Memory) → IsClosing ended → ⊥
unclosed ended (inl disk) closing = subst IsClosing disk closing
unclosed ended (inr memory) closing = subst IsClosing memory closing

-- what goes by the records after `Resume` goes by those of the shelf, where the directory is honest
of_resumed : (s : State) (m : Machine) (d c e : Command) → IsDoneBy (AreOnResumed s m d) (IsOfShelf (Honest (standing s)) (step m d).next) c (step m d).next e
    → IsDoneFor (Honest (standing s)) c (step m d).next e
of_resumed s m d (Evict kb) e is = (is.0, (is.1.0, is.1.1.honest))
of_resumed s m d (ClearOrigin origin) e is = (is.0, (is.1.0, is.1.1.honest))
of_resumed s m d Verify e is = (is.0, (is.1.0, is.1.1.honest))
of_resumed s m d ListRecords e is = (is.0, (is.1.0, is.1.1.honest))
of_resumed s m d (HasEntry key) e is = is
of_resumed s m d Resume e is =
    resumed_where (AreOnResumed s m d) (AreOfShelf (Honest (standing s)) (step m d).next) (λ records goes. goes.honest) (mark_of (step m d).next.mark) (step m d).next e is
of_resumed s m d c e is = is

module _ (moment : ℕ) (c : Command) (m : Machine) (ended : Status) (before now : World) (ran : CleanCall (Asked.One moment c) m ended before now) (closing : IsClosing ended) where
  abbrev right : Type 0
  right = Honest (standing before.disk)

  -- what was done for the two
  record WasDone : Type 0 where
    first : Command
    second : Command
    leaves : LeavesDisk m (all_begun_none_acked m first (second ∷ [])) ended before.disk now.disk
    same : after m (first ∷ second ∷ []) ≡ (step (step m Resume).next c).next

  was_done : (d e : Command) → IsResumedBy (AreAtOpening before.disk m) (mark_of m.mark) m d
      → IsDoneBy (AreOnResumed before.disk m d) (IsOfShelf right (step m d).next) c (step m d).next e
      → LeavesDisk m (all_begun_none_acked m d (e ∷ [])) ended before.disk now.disk → WasDone
  was_done d e resumed is leaves =
      let first : IsDoneFor right Resume m d = resumed_where (AreAtOpening before.disk m) (AreOfShelf right m) (λ records at. at.honest) (mark_of m.mark) m d resumed in
      let second : IsDoneFor (right ⊎ IsTrue (is_rebuild Resume)) c (step m d).next e =
      done_where (λ either. elim either [ inl here ↦ here | inr never ↦ absurd (true≢false (sym never)) ]) c (step m d).next e (of_resumed before.disk m d c e is) in
      record {
        first = d;
        second = e;
        leaves = leaves;
        same = (done_is_same before.disk m (Resume ∷ c ∷ []) (d ∷ e ∷ []) ran.honest (first, (second, tt))).states;
      }

  one_was_done : WasDone
  one_was_done = elim (ran.call.performs m ran.call.opened) [
    | inl first ↦ elim first.1.1 [
      | inl one ↦ was_done first.0 one.0 first.1.0 one.1.0 one.1.1.0.leaves
      | inr faulted ↦ absurd (unclosed ended faulted.failed closing)
    ]
    | inr failed ↦ absurd (unclosed ended failed.failed closing)
  ]

  abbrev resumed_first : Machine
  resumed_first = (step m Resume).next

  index_trusted : ((t : Machine) → (step t c).next.rest ≡ []) → (start_of (standing now.disk) ≡ Ready) × IndexIsScan (standing now.disk)
  index_trusted ends =
      let done = one_was_done in
      let honest = done.leaves.honest closing (inl ran.honest) in
      let ready = honest.trusted (ap (λ (t : Machine). t.rest) done.same ∙ ends resumed_first) in
      (ready, λ records applied. (ready_is_scan (standing now.disk) records ready applied).0 honest.honest)

  module _ (origin : ℕ) (marked : mark_of (standing before.disk Clear) ≡ Some origin) (none : (t : Machine) → rewritten t c ≡ None) where
    proper : IsProper resumed_first
    proper = stays_proper m Resume tt (starts_proper moment before.disk m ran.call.small ran.call.opened)

    mark_is : mark_of m.mark ≡ Some origin
    mark_is = ap (λ (t : Machine). mark_of t.mark) ran.call.opened.is_opened ∙ marked

    none_found : (key : List ℕ) (v : Version) → found (get resumed_first.shelf) key ≡ Some v → covers origin v.key v.header ≡ false
    none_found key v is = resumed_leaves_none m origin key v mark_is is

    none_after : (key : List ℕ) (v : Version) → found (get (step resumed_first c).next.shelf) key ≡ Some v → IsShelvedBy resumed_first c (step resumed_first c).next (file_name key)
        → covers origin v.key v.header ≡ false
    none_after key v is (Stays same) = none_found key v (ap (λ o. whole_in (read_for key o)) (sym same) ∙ is)
    none_after key v is (Goes gone) = absurd (let never : None ≡ Some v = sym (ap (λ o. whole_in (read_for key o)) gone) ∙ is in cc)
    none_after key v is (Comes i passes writes filed) = absurd (let never : None ≡ Some i = sym (none resumed_first) ∙ writes in cc)

    clearing_done : (standing now.disk Clear ≡ None) × ((key : List ℕ) (v : Version) → found (entries (standing now.disk)) key ≡ Some v → covers origin v.key v.header ≡ false)
    clearing_done =
        let done = one_was_done in
        let shut = done.leaves.shut closing in (
          shut.mark ∙ ap (λ (t : Machine). t.mark) done.same ∙ no_mark_after resumed_first c (no_mark_is_left m Resume (λ keeps. keeps)),
          λ key v is.
              none_after key v
              (ap (λ o. whole_in (read_for key o)) (sym (shut.closed.entries_are (file_name key) ∙ ap (λ (t : Machine). get t.shelf (file_name key)) done.same)) ∙ is)
              (shelved_by resumed_first c (file_name key) proper),
        )

pub updated_index_is_trusted : UpdatedIndexIsTrusted
updated_index_is_trusted (Asked.Run moment) m ended before now ran ends closing = absurd ends
updated_index_is_trusted (Asked.Put moment key) m ended before now ran ends closing = absurd ends
updated_index_is_trusted (Asked.One moment c) m ended before now ran ends closing = index_trusted moment c m ended before now ran closing ends
updated_index_is_trusted (Asked.Fill moment count first) m ended before now ran ends closing = absurd ends
updated_index_is_trusted (Asked.Load moment) m ended before now ran ends closing = absurd ends

pub stopped_clearing_is_done : StoppedClearingIsDone
stopped_clearing_is_done (Asked.Run moment) m ended before now ran none closing origin marked = absurd none
stopped_clearing_is_done (Asked.Put moment key) m ended before now ran none closing origin marked = absurd none
stopped_clearing_is_done (Asked.One moment c) m ended before now ran none closing origin marked = clearing_done moment c m ended before now ran closing origin marked none
stopped_clearing_is_done (Asked.Fill moment count first) m ended before now ran none closing origin marked = absurd none
stopped_clearing_is_done (Asked.Load moment) m ended before now ran none closing origin marked = absurd none
