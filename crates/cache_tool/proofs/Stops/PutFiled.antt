-- Once all commands of a `put` are done, the file of a version with that body stands under the name of the key.
use Rattle.std.proofs.Common.{◌≡◌, ℕ, zero, suc, ◌-◌, ◌<◌, ◌≤◌, List, [], ◌∷◌, ◌++◌, length, map, take, drop, Bool, true, false, not, ◌&&◌, cond, Some, None, refl, sym, ap, subst, ◌∙◌, arith, append_assoc, length-set}
use Rattle.std.specs.List.{AllByRecursion}
use Rattle.std.specs.Prelude.{slice_get, slice_set}
use Rattle.std.proofs.lemmas.List.{append-nil, length-drop, take-append-drop}
use Rattle.cache_base.proofs.ByteLaws.{bytes_drop, bytes_take}
use Rattle.cache_base.specs.Bytes.{AreBytes}
use Rattle.cache_base.specs.declared.limits.TheConstants.{PIECE_MAX}
use Rattle.cache_replies.specs.Answers.{outcome_of}
use Rattle.cache_replies.specs.declared.verdict.Verdict.TheVariants as outcome
use Rattle.cache_theory.specs.Command.{Command}
use Rattle.cache_theory.specs.Command.Command.{Append, Close, Create}
use Rattle.cache_theory.specs.Machine.{Machine, Object, is_writer, number_of, object_of}
use Rattle.cache_theory.specs.Proper.{IsDraft, IsProper}
use Rattle.cache_theory.specs.Step.{after, doomed_under, effect, entered, finished_by, fresh, released, step, stored}
use Rattle.cache_theory.specs.Table.{Table, get, insert}
use Rattle.cache_theory.proofs.Clears.MarkStays.{mark_stays}
use Rattle.cache_theory.proofs.InTurn.{after-append}
use Rattle.cache_theory.proofs.Names.{get-insert_same}
use Rattle.cache_theory.proofs.ObjectLaws.Entering.{object_of_entered}
use Rattle.cache_theory.proofs.ObjectLaws.Objects.{nth-set_same, nth_there}
use Rattle.cache_theory.proofs.ObjectLaws.Slots.{is_writer_of, use_of, with_slot_same, writer_is_slot}
use Rattle.cache_theory.proofs.ObjectLaws.Storing.{object_of_stored}
use Rattle.cache_theory.proofs.ObjectLaws.Users.{slot_in_use}
use Rattle.cache_theory.proofs.Proper.{stays_proper}
use Rattle.cache_theory.proofs.Refiling.{is_released}
use Rattle.cache_tool.specs.Pieces.{pieces_of}
use Rattle.cache_tool.specs.Put.{appends, put_commands}
use Rattle.cache_tool.specs.PutProgress.{AreDone}
use Rattle.cache_tool.specs.Replies.{is_done, last_reply, until_refused}
use Rattle.cache_tool.proofs.Puts.PutCommands.{until_all, until_done, until_not}
use Rattle.cache_tool.proofs.Puts.PutMachine.{IsPlain, append_is_plain, close_is_plain, create_is_plain, does, done_by}
use Rattle.entry_file.specs.Version.{IsVersion, Version, file_of}
use Rattle.entry_key.specs.Writing.{may_write}
use Rattle.entry_name.specs.EntryName.{file_name}

-- ---- all commands are done where the last reply is no refusal

first_done : (m : Machine) (c : Command) (more : List Command) (b : Bool) → is_done (step m c).reply ≡ b → IsPlain c
    → outcome_of (last_reply m (until_refused m (c ∷ more))) ≡ outcome.Ok → is_done (step m c).reply ≡ true
first_done m c more true done plain ok = done
first_done m c more false not_done plain ok =
    let here : outcome_of (step m c).reply ≡ outcome.Ok = ap (λ l. outcome_of (last_reply m l)) (sym (until_not m c more not_done)) ∙ ok in
    done_by m c plain here

all_done_by : (m : Machine) (cs : List Command) → AllByRecursion IsPlain cs → outcome_of (last_reply m (until_refused m cs)) ≡ outcome.Ok → AreDone m cs
all_done_by m [] plain ok = tt
all_done_by m (c ∷ []) plain ok = (first_done m c [] (is_done (step m c).reply) refl plain.0 ok, tt)
all_done_by m (c ∷ (d ∷ ds)) plain ok =
    let done = first_done m c (d ∷ ds) (is_done (step m c).reply) refl plain.0 ok in
    (done, all_done_by (step m c).next (d ∷ ds) plain.1 (ap (λ l. outcome_of (last_reply m l)) (sym (until_done m c (d ∷ ds) done)) ∙ ok))

done_parts : (m : Machine) (cs ds : List Command) → AreDone m (cs ++ ds) → AreDone m cs × AreDone (after m cs) ds
done_parts m [] ds all = (tt, all)
done_parts m (c ∷ cs) ds all = let rest = done_parts (step m c).next cs ds all.1 in ((all.0, rest.0), rest.1)

plain_appends : (pieces : List (List ℕ)) (more : List Command) → AllByRecursion IsPlain more → AllByRecursion IsPlain (map (λ piece. Append 0 piece) pieces ++ more)
plain_appends [] more plain = plain
plain_appends (piece ∷ pieces) more plain = (append_is_plain 0 piece, plain_appends pieces more plain)

-- ---- the entry as it is written

-- slot 0 writes an unfinished entry of the key, with this body so far, and no mark of a clearing stands
pub record IsDrafted (t : Machine) (key body : List ℕ) : Type 0 where
  pub proper : IsProper t
  pub writes : is_writer t 0 ≡ true
  pub unfinished : (object_of t 0).finished ≡ false
  pub undoomed : (object_of t 0).doomed ≡ false
  pub key_is : (object_of t 0).version.key ≡ key
  pub body_is : (object_of t 0).version.body ≡ body
  pub unmarked : t.mark ≡ None

pub drafted_create : (m : Machine) (key : List ℕ) → IsProper m → AreBytes key → m.mark ≡ None → is_done (step m (Create 0 key)).reply ≡ true → IsDrafted (step m (Create 0 key)).next key []
unfolding effect
drafted_create m key proper bytes unmarked done =
    let d : Machine = doomed_under m (file_name key) in
    let o : Object = fresh m.moment key in
    let made : Machine = entered d 0 true o in
    let next : (step m (Create 0 key)).next ≡ made = does m (Create 0 key) done in
    let is : object_of made 0 ≡ o = object_of_entered d 0 true o in
    subst (λ t. IsDrafted t key []) (sym next) (record {
      proper = subst IsProper next (stays_proper m (Create 0 key) (omega arith, bytes) proper);
      writes = is_writer_of made 0 (length d.objects) true (with_slot_same d.slots 0 0 (use_of (length d.objects) true) refl);
      unfinished = ap (λ (x : Object). x.finished) is;
      undoomed = ap (λ (x : Object). x.doomed) is;
      key_is = ap (λ (x : Object). x.version.key) is;
      body_is = ap (λ (x : Object). x.version.body) is;
      unmarked = unmarked;
    })

module _ (t : Machine) (key body : List ℕ) (w : IsDrafted t key body) where
  within : number_of t 0 < length t.objects
  within = (slot_in_use t w.proper 0 (writer_is_slot t 0 w.writes)).number

  pub drafted_append : (piece : List ℕ) → AreBytes piece → is_done (step t (Append 0 piece)).reply ≡ true → IsDrafted (step t (Append 0 piece)).next key (body ++ piece)
  unfolding effect
  drafted_append piece bytes done =
      let longer : Version → Version = λ v. record v { body = v.body ++ piece } in
      let o : Object = record (object_of t 0) { version = record (object_of t 0).version { body = (object_of t 0).version.body ++ piece } } in
      let made : Machine = stored t (number_of t 0) o in
      let next : (step t (Append 0 piece)).next ≡ made = does t (Append 0 piece) done in
      let is : object_of made 0 ≡ o = object_of_stored t 0 o within in
      subst (λ u. IsDrafted u key (body ++ piece)) (sym next) (record {
        proper = subst IsProper next (stays_proper t (Append 0 piece) (omega arith, bytes) w.proper);
        writes = w.writes;
        unfinished = ap (λ (x : Object). x.finished) is ∙ w.unfinished;
        undoomed = ap (λ (x : Object). x.doomed) is ∙ w.undoomed;
        key_is = ap (λ (x : Object). x.version.key) is ∙ w.key_is;
        body_is = ap (λ (x : Object). x.version.body) is ∙ ap (λ l. l ++ piece) w.body_is;
        unmarked = w.unmarked;
      })

pub less_left : (n size long left : ℕ) → 1 ≤ size → left ≡ long - size → long ≤ suc n → left ≤ n
less_left n size long left some is most = omega (arith, some, is, most)

drafted_appends : (size : ℕ) → 1 ≤ size → (n : ℕ) (xs : List ℕ) (t : Machine) (key body : List ℕ) → length xs ≤ n → AreBytes xs → IsDrafted t key body
    → AreDone t (map (λ piece. Append 0 piece) (pieces_of size n xs)) → IsDrafted (after t (map (λ piece. Append 0 piece) (pieces_of size n xs))) key (body ++ xs)
drafted_appends size some zero [] t key body short bytes w done = subst (IsDrafted t key) (sym (append-nil body)) w
drafted_appends size some zero (x ∷ xs) t key body short bytes w done = absurd (omega (arith, short))
drafted_appends size some (suc n) [] t key body short bytes w done = subst (IsDrafted t key) (sym (append-nil body)) w
drafted_appends size some (suc n) (x ∷ xs) t key body short bytes w done =
    let whole : List ℕ = x ∷ xs in
    let piece : List ℕ = take size whole in
    let next : Machine = (step t (Append 0 piece)).next in
    let one = drafted_append t key body w piece (bytes_take size whole bytes) done.0 in
    let rest =
    drafted_appends size some n (drop size whole) next key (body ++ piece) (less_left n size (length whole) (length (drop size whole)) some (length-drop size whole) short)
    (bytes_drop size whole bytes) one done.1 in
    subst (IsDrafted (after next (map (λ p. Append 0 p) (pieces_of size n (drop size whole)))) key)
    (append_assoc body piece (drop size whole) ∙ ap (λ l. body ++ l) (take-append-drop size whole)) rest

-- ---- the entry as it stands

-- the file of a version of the key, with this body, stands under the name, and no mark of a clearing does
pub record IsFiledFor (t : Machine) (key body : List ℕ) : Type 0 where
  pub version : Version
  pub is : IsVersion version
  pub key_is : version.key ≡ key
  pub body_is : version.body ≡ body
  pub may : may_write key ≡ true
  pub filed : get t.shelf (file_name key) ≡ Some (file_of version)
  pub unmarked : t.mark ≡ None

module _ (t : Machine) (key body : List ℕ) (w : IsDrafted t key body) where
  abbrev pub o : Object
  o = record (object_of t 0) { finished = true }

  abbrev pub v : Version
  v = (object_of t 0).version

  abbrev pub filed_in : Machine
  filed_in = stored t (number_of t 0) o

  abbrev pub last : Machine
  last = released (finished_by t 0) 0

  next_is : is_done (step t (Close 0)).reply ≡ true → (step t (Close 0)).next ≡ last
  unfolding effect
  next_is done = does t (Close 0) done

  finished_is : finished_by t 0 ≡ filed_in
  finished_is = ap (λ b. cond b filed_in t) (λ i. w.writes i && not (w.unfinished i))

  shelf_is : filed_in.shelf ≡ insert t.shelf (file_name v.key) (file_of v)
  shelf_is = ap (λ b. cond b (insert t.shelf (file_name v.key) (file_of v)) t.shelf) (ap not w.undoomed)

  filed_there : get last.shelf (file_name key) ≡ Some (file_of v)
  filed_there =
      ap (λ (s : Table (List ℕ)). get s (file_name key)) ((is_released (finished_by t 0) 0).shelf ∙ ap (λ (u : Machine). u.shelf) finished_is ∙ shelf_is)
      ∙ get-insert_same t.shelf (file_name v.key) (file_of v) (file_name key) (ap file_name (sym w.key_is))

  pub object_there : slice_get last.objects (number_of t 0) ≡ Some o
  object_there =
      let objects : last.objects ≡ slice_set t.objects (number_of t 0) o = (is_released (finished_by t 0) 0).objects ∙ ap (λ (u : Machine). u.objects) finished_is in
      let there = within t key body w in
      ap (λ l. slice_get l (number_of t 0)) objects
      ∙ nth_there (slice_set t.objects (number_of t 0) o) (number_of t 0) (let long = length-set t.objects (number_of t 0) o in omega (arith, there, long))
      ∙ ap Some (nth-set_same t.objects (number_of t 0) (number_of t 0) o there refl)

  draft : IsDraft v
  draft = (w.proper.objects (number_of t 0) (object_of t 0) (nth_there t.objects (number_of t 0) (within t key body w))).draft w.unfinished

  filed_closed : is_done (step t (Close 0)).reply ≡ true → IsFiledFor (step t (Close 0)).next key body
  filed_closed done =
      let proper : IsProper last = subst IsProper (next_is done) (stays_proper t (Close 0) (omega arith) w.proper) in
      subst (λ u. IsFiledFor u key body) (sym (next_is done)) (record {
        version = v;
        is = (proper.objects (number_of t 0) o object_there).version refl;
        key_is = w.key_is;
        body_is = w.body_is;
        may = ap may_write (sym w.key_is) ∙ draft.key;
        filed = filed_there;
        unmarked = ap (λ (u : Machine). u.mark) (sym (next_is done)) ∙ mark_stays t (Close 0) tt ∙ w.unmarked;
      })

pub put_is_filed : (m : Machine) (key body : List ℕ) → IsProper m → m.mark ≡ None → AreBytes key → AreBytes body
    → outcome_of (last_reply m (put_commands m key body)) ≡ outcome.Ok → IsFiledFor (after m (put_commands m key body)) key body
put_is_filed m key body proper unmarked key_bytes bytes ok =
    let pieces = pieces_of PIECE_MAX (length body) body in
    let cs : List Command = Create 0 key ∷ (appends body ++ Close 0 ∷ []) in
    let done = all_done_by m cs (create_is_plain 0 key, plain_appends pieces (Close 0 ∷ []) (close_is_plain 0, tt)) ok in
    let first : Machine = (step m (Create 0 key)).next in
    let parts = done_parts first (appends body) (Close 0 ∷ []) done.1 in
    let begun = drafted_create m key proper key_bytes unmarked done.0 in
    let written = drafted_appends PIECE_MAX (omega arith) (length body) body first key [] (omega arith) bytes begun parts.0 in
    let closed = filed_closed (after first (appends body)) key body written parts.1.0 in
    subst (λ u. IsFiledFor u key body)
    (sym (ap (after m) (until_all m cs done) ∙ after-append first (appends body) (Close 0 ∷ []))) closed
