-- A `put` leaves the files of other names alone, so that a clearing which was stopped is done by it, too.
use Rattle.std.proofs.Common.{◌≡◌, ◌≢◌, inl, inr, ℕ, zero, suc, ◌≤◌, List, [], ◌∷◌, ◌++◌, length, map, take, drop, Bool, true, false, cond, Option, Some, None, refl, sym, ap, subst, ◌∙◌, arith}
use Rattle.std.specs.Io.KnownBytes.{Consumes}
use Rattle.std.specs.Prelude.{IsSomeAnd}
use Rattle.std.proofs.lemmas.List.{append-nil, length-drop}
use Rattle.cache_base.proofs.ByteLaws.{bytes_drop, bytes_take}
use Rattle.cache_base.specs.Bytes.{AreBytes}
use Rattle.cache_base.specs.declared.limits.TheConstants.{PIECE_MAX}
use Rattle.cache_base.specs.declared.status.Status.{Status}
use Rattle.cache_store.specs.DoneFor.{AreOfShelf, IsResumedBy}
use Rattle.cache_theory.specs.Command.{Command}
use Rattle.cache_theory.specs.Command.Command.{Append, Close, Create, Resume}
use Rattle.cache_theory.specs.Covers.{covers}
use Rattle.cache_theory.specs.Machine.{Machine}
use Rattle.cache_theory.specs.Proper.{IsProper}
use Rattle.cache_theory.specs.Step.{after, step}
use Rattle.cache_theory.specs.Table.{get}
use Rattle.cache_theory.proofs.Clears.ClearedNames.{resumed_leaves_none}
use Rattle.cache_theory.proofs.Names.{one_name}
use Rattle.cache_theory.proofs.Touching.{changes_are_touched}
use Rattle.cache_tool.specs.Beginning.{AreAtOpening}
use Rattle.cache_tool.specs.Pieces.{pieces_of}
use Rattle.cache_tool.specs.Put.{ArePut, appends}
use Rattle.cache_tool.specs.Put.ArePut.{Broken, Whole}
use Rattle.cache_tool.specs.Replies.{is_done, until_refused}
use Rattle.cache_tool.specs.Statuses.{IsClosing}
use Rattle.cache_tool.specs.Theorem.{CleanCall, PutDoesStoppedClearing}
use Rattle.cache_tool.specs.Verbs.{PrintsLast}
use Rattle.cache_tool.specs.Words.{Asked}
use Rattle.cache_tool.specs.World.{World, output_of}
use Rattle.cache_tool.proofs.DoneLaws.{resumed_where}
use Rattle.cache_tool.proofs.SameLaws.{done_is_same}
use Rattle.cache_tool.proofs.Stops.PutFiled.{IsDrafted, drafted_append, drafted_create, less_left}
use Rattle.cache_tool.proofs.Stops.PutGot.{is_resumed}
use Rattle.cache_tool.proofs.Stops.PutOnly.{given_bytes, only_append, only_close, only_create, tail_of}
use Rattle.cache_tool.proofs.Stops.RunLeaves.{is_some_of, unclosed}
use Rattle.cache_tool.proofs.Stops.StoppedScripts.{starts_proper}
use Rattle.cache_tool.proofs.Stops.WrittenSince.{no_mark_after_all}
use Rattle.context_clear.specs.Mark.{mark_of}
use Rattle.disk_theory.specs.State.{standing}
use Rattle.disk_theory.specs.declared.place.Place.TheVariants.{Clear}
use Rattle.entry_file.specs.EntryFile.{found, read_for, whole_in}
use Rattle.entry_file.specs.Version.{Version}
use Rattle.entry_name.specs.EntryName.{file_name}
use Rattle.index_theory.specs.Ever.{entries}
use Rattle.index_theory.specs.Honest.{Honest}

-- ---- the files of other names

module _ (key name : List ℕ) (apart : name ≢ file_name key) where
  -- those after a command come only where it is done
  if_done : (b : Bool) (next : Machine) (rest : List Command) (was : Option (List ℕ)) → get next.shelf name ≡ was → (b ≡ true → get (after next rest).shelf name ≡ was) → get (after next (cond b rest [])).shelf name ≡ was
  if_done true next rest was here more = more refl
  if_done false next rest was here more = here

  kept_tail : (closing : Bool) (t : Machine) (body : List ℕ) → IsDrafted t key body → get (after t (until_refused t (tail_of closing))).shelf name ≡ get t.shelf name
  kept_tail false t body d = refl
  kept_tail true t body d =
      let one = changes_are_touched t (Close 0) name ((only_close t key body t body d refl).names name apart) in
      if_done (is_done (step t (Close 0)).reply) (step t (Close 0)).next [] (get t.shelf name) one (λ done. one)

  kept_pieces : (size : ℕ) → 1 ≤ size → (closing : Bool) (n : ℕ) (xs : List ℕ) (t : Machine) (before : List ℕ) → length xs ≤ n → AreBytes xs → IsDrafted t key before
      → get (after t (until_refused t (map (λ piece. Append 0 piece) (pieces_of size n xs) ++ tail_of closing))).shelf name ≡ get t.shelf name
  kept_pieces size some closing zero [] t before short bytes d = kept_tail closing t before d
  kept_pieces size some closing zero (x ∷ xs) t before short bytes d = absurd (omega (arith, short))
  kept_pieces size some closing (suc n) [] t before short bytes d = kept_tail closing t before d
  kept_pieces size some closing (suc n) (x ∷ xs) t before short bytes d =
      let all : List ℕ = x ∷ xs in
      let piece : List ℕ = take size all in
      let next : Machine = (step t (Append 0 piece)).next in
      let one = changes_are_touched t (Append 0 piece) name ((only_append t key before t before d piece).names name apart) in
      if_done (is_done (step t (Append 0 piece)).reply) next (until_refused next (map (λ p. Append 0 p) (pieces_of size n (drop size all)) ++ tail_of closing)) (get t.shelf name) one
      (λ done.
      kept_pieces size some closing n (drop size all) next (before ++ piece) (less_left n size (length all) (length (drop size all)) some (length-drop size all) short) (bytes_drop size all bytes)
      (drafted_append t key before d piece (bytes_take size all bytes) done)
      ∙ one)

  kept_commands : (closing : Bool) (given : List ℕ) (t : Machine) → IsProper t → t.mark ≡ None → AreBytes key → AreBytes given
      → get (after t (until_refused t (Create 0 key ∷ (appends given ++ tail_of closing)))).shelf name ≡ get t.shelf name
  kept_commands closing given t proper unmarked key_bytes bytes =
      let next : Machine = (step t (Create 0 key)).next in
      let one = changes_are_touched t (Create 0 key) name ((only_create t key given t).names name apart) in
      if_done (is_done (step t (Create 0 key)).reply) next (until_refused next (appends given ++ tail_of closing)) (get t.shelf name) one
      (λ done. kept_pieces PIECE_MAX (omega arith) closing (length given) given next [] (omega arith) bytes (drafted_create t key proper key_bytes unmarked done) ∙ one)

-- ---- the call

bytes_in : (o : Option (List ℕ)) (given : List ℕ) → IsSomeAnd o AreBytes → o ≡ Some given → AreBytes given
bytes_in None given some is = absurd some
bytes_in (Some all) given some is = let same : all ≡ given = cc in subst AreBytes same some

bytes_of_part : (o p : Option (List ℕ)) (given : List ℕ) → IsSomeAnd o AreBytes → Consumes o p given → AreBytes given
bytes_of_part None p given some taken = absurd some
bytes_of_part (Some all) p given some taken = given_bytes (Some all) p all given refl some taken

module _ (key : List ℕ) (moment : ℕ) (m : Machine) (ended : Status) (before now : World) (clean : CleanCall (Asked.Put moment key) m ended before now) (key_bytes : AreBytes key) (closing : IsClosing ended)
    (origin : ℕ) (marked : mark_of (standing before.disk Clear) ≡ Some origin) where
  abbrev Cleared : Type 0
  Cleared = (standing now.disk Clear ≡ None)
      × ((other : List ℕ) (v : Version) → found (entries (standing now.disk)) other ≡ Some v → covers origin v.key v.header ≡ true → file_name other ≡ file_name key)

  mark_is : mark_of m.mark ≡ Some origin
  mark_is = ap (λ (t : Machine). mark_of t.mark) clean.call.opened.is_opened ∙ marked

  module _ (d : Command) (resumed : IsResumedBy (AreAtOpening before.disk m) (mark_of m.mark) m d) where
    abbrev n : Machine
    n = (step m d).next

    after_resume : (step m d).next ≡ (step m Resume).next
    after_resume =
        let are = resumed_where (AreAtOpening before.disk m) (AreOfShelf (Honest (standing before.disk)) m) (λ records at. at.honest) (mark_of m.mark) m d resumed in
        (done_is_same before.disk m (Resume ∷ []) (d ∷ []) clean.honest (are, tt)).states

    kept : (cs : List Command) → ArePut (step m d).next key before.source now.source ended cs → (name : List ℕ) → name ≢ file_name key
        → get (after (step m d).next cs).shelf name ≡ get (step m d).next.shelf name
    kept cs (Whole given gives is) name apart =
        let first = is_resumed (AreAtOpening before.disk m) (mark_of m.mark) m d (starts_proper moment before.disk m clean.call.small clean.call.opened) resumed in
        ap (λ l. get (after n l).shelf name) is
        ∙ kept_commands key name apart true given n first.proper first.unmarked key_bytes (bytes_in before.source.left given clean.source gives.whole)
    kept cs (Broken given gives no_answer is) name apart =
        let first = is_resumed (AreAtOpening before.disk m) (mark_of m.mark) m d (starts_proper moment before.disk m clean.call.small clean.call.opened) resumed in
        ap (λ l. get (after n l).shelf name) (is ∙ ap (λ l. until_refused n (Create 0 key ∷ l)) (sym (append-nil (appends given))))
        ∙ kept_commands key name apart false given n first.proper first.unmarked key_bytes (bytes_of_part before.source.left now.source.left given clean.source gives.given)

    cleared : (cs : List Command) → ArePut (step m d).next key before.source now.source ended cs → PrintsLast m d cs ended (output_of before) (output_of now) → Cleared
    cleared cs are last =
        let shut = last.leaves.shut closing in
        let first = is_resumed (AreAtOpening before.disk m) (mark_of m.mark) m d (starts_proper moment before.disk m clean.call.small clean.call.opened) resumed in (
          shut.mark ∙ no_mark_after_all n cs first.unmarked,
          λ other v is covered.
              elim (one_name (file_name other) (file_name key)) [
                | inl same ↦ same
                | inr apart ↦
                    let there : found (get (step m Resume).next.shelf) other ≡ Some v =
                    ap (λ o. whole_in (read_for other o))
                    (sym (shut.closed.entries_are (file_name other) ∙ kept cs are (file_name other) apart ∙ ap (λ (t : Machine). get t.shelf (file_name other)) after_resume)) ∙ is in
                    absurd (let none = resumed_leaves_none m origin other v mark_is there in let both : true ≡ false = sym covered ∙ none in cc)
              ],
        )

  clears : Cleared
  clears = elim (clean.call.performs (is_some_of before.source.left clean.source) m clean.call.opened) [
    | inl first ↦ elim first.1.1 [
      | inl put ↦ cleared first.0 first.1.0 put.0 put.1.0 put.1.1
      | inr faulted ↦ absurd (unclosed ended faulted.0.failed closing)
    ]
    | inr failed ↦ absurd (unclosed ended failed.0.failed closing)
  ]

pub put_does_stopped_clearing : PutDoesStoppedClearing
put_does_stopped_clearing key moment m ended before now clean bytes closing origin marked = clears key moment m ended before now clean bytes closing origin marked
