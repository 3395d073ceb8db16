-- The commands that write an item are all done, and leave its file on the shelf and the slot free.
use Rattle.std.proofs.Common.{◌≡◌, inl, inr, ℕ, zero, suc, ◌+◌, ◌<◌, ◌≤◌, List, [], ◌∷◌, ◌++◌, length, map, take, drop, Bool, true, false, not, ◌&&◌, refl, sym, ap, subst, ◌∙◌, arith, append_assoc, length-append, cond}
use Rattle.std.specs.List.{AllByRecursion, range_with_len}
use Rattle.std.specs.Prelude.{◌-◌, ◌*◌, ◌||◌, Option, None, Some, nat_le}
use Rattle.std.proofs.lemmas.Bool.{cond_both, le-leb}
use Rattle.std.proofs.lemmas.List.{append-nil, length-drop, take-append-drop}
use Rattle.cache_base.proofs.ByteLaws.{bytes_drop, bytes_take}
use Rattle.cache_base.proofs.CheckLaws.{AllHold, none_fails}
use Rattle.cache_base.specs.Bytes.{AreBytes}
use Rattle.cache_base.specs.Limits.{chunks}
use Rattle.cache_base.specs.declared.limits.TheConstants.{BLOCK_MAX, BODY_MAX}
use Rattle.cache_export.specs.Dump.{AreItems, MayDump}
use Rattle.cache_theory.specs.Checks.{checks}
use Rattle.cache_theory.specs.Command.{Command, Reply}
use Rattle.cache_theory.specs.Command.Command.{Append, Close, Create, FinishAs}
use Rattle.cache_theory.specs.Command.Reply.{Done}
use Rattle.cache_theory.specs.Given.{IsGiven}
use Rattle.cache_theory.specs.Loading.{ItemsAreStocked, item_written, items_written, pieces_of, stocked}
use Rattle.cache_theory.specs.Machine.{Machine, Object, has_slots, is_slot, is_writer, number_of, object_of}
use Rattle.cache_theory.specs.Proper.{IsProper}
use Rattle.cache_theory.specs.Step.{Answer, after, answer, changed, doomed_under, effect, entered, finished_as, finished_by, fresh, released, replies, step, stepped, stored, with_slot}
use Rattle.cache_theory.specs.Table.{Table, get, insert, remove}
use Rattle.cache_theory.proofs.Changes.{read_object}
use Rattle.cache_theory.proofs.ObjectLaws.Entering.{object_of_entered}
use Rattle.cache_theory.proofs.InTurn.{after-append}
use Rattle.cache_theory.proofs.Names.{get-insert_other, get-insert_same, get-remove_other, one_name}
use Rattle.cache_theory.proofs.Proper.{stays_proper}
use Rattle.cache_theory.proofs.Refiling.{is_released}
use Rattle.cache_theory.proofs.ObjectLaws.Slots.{is_writer_of, use_of, with_slot_same, writer_is_slot}
use Rattle.cache_theory.proofs.ObjectLaws.Storing.{object_of_stored}
use Rattle.cache_theory.proofs.ObjectLaws.Users.{slot_in_use}
use Rattle.cache_theory.proofs.Versions.{length_hashes_of}
use Rattle.chunk_store.specs.Chunks.{chunk}
use Rattle.chunk_store.proofs.EachChunk.{first_chunk}
use Rattle.entry_file.specs.Version.{Version, file_of, version_meta}
use Rattle.entry_key.specs.Writing.{may_write}
use Rattle.entry_metadata.proofs.PrintedBlock.{length-block}
use Rattle.entry_metadata.specs.Metadata.{block_length}
use Rattle.entry_name.specs.EntryName.{file_name}
use Rattle.entry_parts.specs.Elements.{elements_bytes}
use Rattle.entry_parts.specs.Header.{fresh_header}

-- Runs of commands.

-- the commands are all done, and lead to this machine
record LeadsTo (m : Machine) (cs : List Command) (next : Machine) : Type 0 where
  next_is : after m cs ≡ next
  replies_ok : replies m cs ≡ map (λ c. Done) cs

leads_none : (m : Machine) → LeadsTo m [] m
leads_none m = record { next_is = refl; replies_ok = refl }

leads_first : (m t next : Machine) (c : Command) (cs : List Command) → step m c ≡ answer t Done → LeadsTo t cs next → LeadsTo m (c ∷ cs) next
leads_first m t next c cs e h = record {
  next_is = ap (λ (a : Answer). after a.next cs) e ∙ h.next_is;
  replies_ok = ap (λ (a : Answer). a.reply ∷ replies a.next cs) e ∙ ap (λ (rs : List Reply). Done ∷ rs) h.replies_ok;
}

replies-append : (m : Machine) (cs ds : List Command) → replies m (cs ++ ds) ≡ replies m cs ++ replies (after m cs) ds
replies-append m [] ds = refl
replies-append m (c ∷ cs) ds = ap (λ (rs : List Reply). (step m c).reply ∷ rs) (replies-append (step m c).next cs ds)

done-append : (cs ds : List Command) → map (λ c. Done) (cs ++ ds) ≡ map (λ c. Done) cs ++ map (λ c. Done) ds
done-append [] ds = refl
done-append (c ∷ cs) ds = ap (λ (rs : List Reply). Done ∷ rs) (done-append cs ds)

leads_then : (m t next : Machine) (cs ds : List Command) → LeadsTo m cs t → LeadsTo t ds next → LeadsTo m (cs ++ ds) next
leads_then m t next cs ds h k = record {
  next_is = after-append m cs ds ∙ ap (λ (u : Machine). after u ds) h.next_is ∙ k.next_is;
  replies_ok = replies-append m cs ds ∙ (λ i. h.replies_ok i ++ (ap (λ (u : Machine). replies u ds) h.next_is ∙ k.replies_ok) i) ∙ sym (done-append cs ds);
}

-- a command whose checks hold has its effect
step_done : (m : Machine) (c : Command) → AllHold (checks m c) → step m c ≡ effect m c
step_done m c hold = ap (stepped m c) (none_fails (checks m c) hold)

proper_after : (m next : Machine) (c : Command) → IsGiven c → IsProper m → step m c ≡ answer next Done → IsProper next
proper_after m next c given proper e = subst (λ (a : Answer). IsProper a.next) e (stays_proper m c given proper)

-- An entry that is being written in slot 0.

abbrev begun : ℕ → List ℕ → List ℕ → Object
begun now key body = record {
  version = record { header = fresh_header now (length key); key = key; elements = []; body = body };
  finished = false;
  doomed = false;
}

-- the machine t writes the entry that was begun on m, and the body has come so far
record IsWriting (m t : Machine) (key body : List ℕ) : Type 0 where
  proper : IsProper t
  writes : is_writer t 0 ≡ true
  object : object_of t 0 ≡ begun m.moment key body
  shelf : t.shelf ≡ remove m.shelf (file_name key)

-- it is begun
record BeginsItem (m t : Machine) (key : List ℕ) : Type 0 where
  step_is : step m (Create 0 key) ≡ answer t Done
  writing : IsWriting m t key []

abbrev created : Machine → List ℕ → Machine
created m key = entered (doomed_under m (file_name key)) 0 true (fresh m.moment key)

create_is : (m : Machine) (key : List ℕ) → is_slot m 0 ≡ false → may_write key ≡ true → step m (Create 0 key) ≡ answer (created m key) Done
unfolding checks effect
create_is m key free may = step_done m (Create 0 key) (ap not free, (may, tt))

begins : (m : Machine) (key : List ℕ) → IsProper m → is_slot m 0 ≡ false → may_write key ≡ true → AreBytes key → BeginsItem m (created m key) key
begins m key proper free may bytes =
    let d = doomed_under m (file_name key) in
    let e = create_is m key free may in
    record {
      step_is = e;
      writing = record {
        proper = proper_after m (created m key) (Create 0 key) (omega arith, bytes) proper e;
        writes = is_writer_of (created m key) 0 (length d.objects) true (with_slot_same d.slots 0 0 (use_of (length d.objects) true) refl);
        object = object_of_entered d 0 true (fresh m.moment key);
        shelf = refl;
      };
    }

-- a piece is appended
abbrev appended : Machine → List ℕ → Machine
appended t piece = changed t 0 (λ v. record v { body = v.body ++ piece })

record Appends (m t next : Machine) (key body piece : List ℕ) : Type 0 where
  step_is : step t (Append 0 piece) ≡ answer next Done
  writing : IsWriting m next key (body ++ piece)

module _ (m t : Machine) (key body piece : List ℕ) (w : IsWriting m t key body) where
  append_is : length body + length piece ≤ BODY_MAX → step t (Append 0 piece) ≡ answer (appended t piece) Done
  unfolding checks effect
  append_is room =
      step_done t (Append 0 piece) (
        writer_is_slot t 0 w.writes,
        (
          w.writes,
          (
            ap (λ (o : Object). not o.finished) w.object,
            (
              ap (λ (o : Object). nat_le (length o.version.body + length piece) BODY_MAX) w.object ∙ le-leb (length body + length piece) BODY_MAX room,
              tt,
            ),
          ),
        ),
      )

  appended_is : appended t piece ≡ stored t (number_of t 0) (begun m.moment key (body ++ piece))
  appended_is = ap (λ (o : Object). stored t (number_of t 0) (record o { version = record o.version { body = o.version.body ++ piece } })) w.object

  appends : AreBytes piece → length body + length piece ≤ BODY_MAX → Appends m t (appended t piece) key body piece
  appends bytes room =
      let e = append_is room in
      let within = (slot_in_use t w.proper 0 (writer_is_slot t 0 w.writes)).number in
      record {
        step_is = e;
        writing = record {
          proper = proper_after t (appended t piece) (Append 0 piece) (omega arith, bytes) w.proper e;
          writes = w.writes;
          object = ap (λ (u : Machine). object_of u 0) appended_is ∙ object_of_stored t 0 (begun m.moment key (body ++ piece)) within;
          shelf = ap (λ (u : Machine). u.shelf) appended_is ∙ w.shelf;
        };
      }

-- and so are pieces
joined : List (List ℕ) → List ℕ
joined [] = []
joined (piece ∷ pieces) = piece ++ joined pieces

record AppendsAll (m t : Machine) (key body : List ℕ) (pieces : List (List ℕ)) : Type 0 where
  next : Machine
  leads : LeadsTo t (map (λ piece. Append 0 piece) pieces) next
  writing : IsWriting m next key (body ++ joined pieces)

room_first : (a p r n : ℕ) (all : ℕ) → all ≡ p + r → a + all ≤ n → a + p ≤ n
room_first a p r n all e h = omega (arith, e, h)

room_rest : (a p r n all long : ℕ) → all ≡ p + r → long ≡ a + p → a + all ≤ n → long + r ≤ n
room_rest a p r n all long e l h = omega (arith, e, l, h)

appends_all : (m t : Machine) (key body : List ℕ) (pieces : List (List ℕ)) → IsWriting m t key body → AllByRecursion AreBytes pieces → length body + length (joined pieces) ≤ BODY_MAX
    → AppendsAll m t key body pieces
unfolding joined
appends_all m t key body [] w bytes room = record { next = t; leads = leads_none t; writing = subst (IsWriting m t key) (sym (append-nil body)) w }
appends_all m t key body (piece ∷ pieces) w bytes room =
    let all = length-append piece (joined pieces) in
    let one = appends m t key body piece w bytes.0 (room_first (length body) (length piece) (length (joined pieces)) BODY_MAX (length (piece ++ joined pieces)) all room) in
    let long = length-append body piece in
    let rest = appends_all m (appended t piece) key (body ++ piece) pieces one.writing bytes.1
    (room_rest (length body) (length piece) (length (joined pieces)) BODY_MAX (length (piece ++ joined pieces)) (length (body ++ piece)) all long room) in
    record {
      next = rest.next;
      leads = leads_first t (appended t piece) rest.next (Append 0 piece) (map (λ p. Append 0 p) pieces) one.step_is rest.leads;
      writing = subst (IsWriting m rest.next key) (append_assoc body piece (joined pieces)) rest.writing;
    }

-- the pieces of a body join to the body
some_cons : (x : ℕ) (xs : List ℕ) → 0 < length (x ∷ xs)
some_cons x xs = omega arith

none_short : (x : ℕ) (xs : List ℕ) → length (x ∷ xs) ≤ 0 → ⊥
none_short x xs h = omega (arith, h)

less_left : (n a b : ℕ) → b ≡ a - 262144 → a ≤ suc n → b ≤ n
less_left n a b e h = omega (arith, e, h)

joined_pieces : (n : ℕ) (body : List ℕ) → length body ≤ n → joined (pieces_of body) ≡ body
unfolding joined
joined_pieces n [] short = refl
joined_pieces zero (x ∷ body) short = absurd (none_short x body short)
joined_pieces (suc n) (x ∷ body) short =
    let whole : List ℕ = x ∷ body in
    ap joined (first_chunk (λ (p : List ℕ). p) whole (some_cons x body))
    ∙ ap (λ (l : List ℕ). take 262144 whole ++ l) (joined_pieces n (drop 262144 whole) (less_left n (length whole) (length (drop 262144 whole)) (length-drop 262144 whole) short))
    ∙ take-append-drop 262144 whole

bytes_pieces : (body : List ℕ) (a n : ℕ) → AreBytes body → AllByRecursion AreBytes (map (chunk body) (range_with_len a n))
bytes_pieces body a zero bytes = tt
bytes_pieces body a (suc n) bytes = (bytes_take 262144 (drop (a * 262144) body) (bytes_drop (a * 262144) body bytes), bytes_pieces body (a + 1) n bytes)

-- It is finished.

-- the machine t has the entry of the version in slot 0, finished, and its file on the shelf
record IsWritten (m t : Machine) (v : Version) : Type 0 where
  proper : IsProper t
  used : is_slot t 0 ≡ true
  object : object_of t 0 ≡ read_object v
  shelf : (name : List ℕ) → get t.shelf name ≡ get (insert m.shelf (file_name v.key) (file_of v)) name

record Finishes (m t next : Machine) (v : Version) : Type 0 where
  step_is : step t (FinishAs 0 v.header v.elements) ≡ answer next Done
  written : IsWritten m next v

-- a removal under the name of an insertion is not seen
inserted_again : (s : Table (List ℕ)) (n x q : List ℕ) → get (insert (remove s n) n x) q ≡ get (insert s n x) q
inserted_again s n x q = elim (one_name q n) [
  | inl e ↦ get-insert_same (remove s n) n x q e ∙ sym (get-insert_same s n x q e)
  | inr apart ↦ get-insert_other (remove s n) n x q apart ∙ get-remove_other s n q (λ e. apart (sym e)) ∙ sym (get-insert_other s n x q apart)
]

abbrev finished_in : Machine → Version → Machine
finished_in t v = stored t (number_of t 0) (finished_as v.header v.elements (object_of t 0))

module _ (m t : Machine) (v : Version) (may : MayDump v) (w : IsWriting m t v.key v.body) where
  small_enough : nat_le (block_length (chunks (length v.body)) (length v.key) (length (elements_bytes v.elements))) BLOCK_MAX ≡ true
  small_enough =
      let long = length-block (version_meta v) in
      let count = length_hashes_of v.body in
      let small = may.version.meta.small in
      le-leb (block_length (chunks (length v.body)) (length v.key) (length (elements_bytes v.elements))) BLOCK_MAX (omega (arith, long, count, small))

  finish_is : step t (FinishAs 0 v.header v.elements) ≡ answer (finished_in t v) Done
  unfolding checks effect
  finish_is =
      step_done t (FinishAs 0 v.header v.elements) (
        writer_is_slot t 0 w.writes,
        (
          w.writes,
          (
            ap (λ (o : Object). not o.finished) w.object,
            (
              ap (λ (o : Object). nat_le (block_length (chunks (length o.version.body)) (length o.version.key) (length (elements_bytes v.elements))) BLOCK_MAX) w.object ∙ small_enough,
              tt,
            ),
          ),
        ),
      )

  -- the header has version 3 and the key's length already
  finished_is : finished_as v.header v.elements (object_of t 0) ≡ read_object v
  finished_is =
      ap (finished_as v.header v.elements) w.object
      ∙ (λ i. record {
        version = record {
          header = record v.header { version = sym may.version.meta.version i; key_size = sym may.version.meta.key_size i };
          key = v.key;
          elements = v.elements;
          body = v.body;
        };
        finished = true;
        doomed = false;
      })

  finishes : Finishes m t (finished_in t v) v
  finishes =
      let within = (slot_in_use t w.proper 0 (writer_is_slot t 0 w.writes)).number in
      let same : finished_in t v ≡ stored t (number_of t 0) (read_object v) = ap (stored t (number_of t 0)) finished_is in
      let meta = may.version.meta in
      record {
        step_is = finish_is;
        written = record {
          proper = proper_after t (finished_in t v) (FinishAs 0 v.header v.elements) (omega arith, (meta.header, (meta.elements, meta.element_bytes))) w.proper finish_is;
          used = writer_is_slot t 0 w.writes;
          object = ap (λ (u : Machine). object_of u 0) same ∙ object_of_stored t 0 (read_object v) within;
          shelf = λ name.
              ap (λ (u : Machine). get u.shelf name) same
              ∙ ap (λ (s : Table (List ℕ)). get (insert s (file_name v.key) (file_of v)) name) w.shelf
              ∙ inserted_again m.shelf (file_name v.key) (file_of v) name;
        };
      }

-- The slot is given up.

-- the machine t has the file of the version on the shelf besides, and slot 0 is free
record HasItem (m t : Machine) (v : Version) : Type 0 where
  proper : IsProper t
  free : is_slot t 0 ≡ false
  shelf : (name : List ℕ) → get t.shelf name ≡ get (insert m.shelf (file_name v.key) (file_of v)) name

abbrev given_up : Machine → Machine
given_up t = released (finished_by t 0) 0

close_is : (t : Machine) → is_slot t 0 ≡ true → step t (Close 0) ≡ answer (given_up t) Done
unfolding checks effect
close_is t used = step_done t (Close 0) (used, tt)

not_again : (writes finished : Bool) → finished ≡ true → (writes && not finished) ≡ false
not_again true finished done = ap not done
not_again false finished done = refl

-- one that is finished is not finished again
finished_stays : (t : Machine) → (object_of t 0).finished ≡ true → finished_by t 0 ≡ t
finished_stays t done =
    ap (λ (b : Bool). cond b (stored t (number_of t 0) (record (object_of t 0) { finished = true })) t) (not_again (is_writer t 0) (object_of t 0).finished done)

free_released : (t : Machine) → is_slot (released t 0) 0 ≡ false
free_released t =
    let after : Machine = record t { slots = with_slot 0 None t.slots } in
    cond_both (has_slots after (number_of t 0) || (object_of t 0).doomed) after (record after { in_use = remove t.in_use (file_name (object_of t 0).version.key) }) (λ (u : Machine). is_slot u 0 ≡ false)
    (λ held. refl) (λ gone. refl)

has_item : (m t : Machine) (v : Version) → IsWritten m t v → HasItem m (given_up t) v
has_item m t v w =
    let stays = finished_stays t (ap (λ (o : Object). o.finished) w.object) in
    record {
      proper = proper_after t (given_up t) (Close 0) (omega arith) w.proper (close_is t w.used);
      free = free_released (finished_by t 0);
      shelf = λ name. ap (λ (s : Table (List ℕ)). get s name) ((is_released (finished_by t 0) 0).shelf ∙ ap (λ (u : Machine). u.shelf) stays) ∙ w.shelf name;
    }

-- One item, from its beginning to its end.

record Writes (m : Machine) (v : Version) : Type 0 where
  next : Machine
  leads : LeadsTo m (item_written v) next
  item : HasItem m next v

body_room : (v : Version) (pieces : List (List ℕ)) → joined pieces ≡ v.body → length v.body ≤ BODY_MAX → 0 + length (joined pieces) ≤ BODY_MAX
body_room v pieces e short = subst (λ (body : List ℕ). 0 + length body ≤ BODY_MAX) (sym e) (omega (arith, short))

writes_item : (m : Machine) (v : Version) → IsProper m → is_slot m 0 ≡ false → MayDump v → Writes m v
writes_item m v proper free may =
    let pieces = pieces_of v.body in
    let whole : joined pieces ≡ v.body = joined_pieces (length v.body) v.body (omega arith) in
    let first = begins m v.key proper free may.key may.version.meta.key_bytes in
    let t = created m v.key in
    let all = appends_all m t v.key [] pieces first.writing (bytes_pieces v.body 0 (chunks (length v.body)) may.version.body) (body_room v pieces whole may.body) in
    let u = all.next in
    let writing : IsWriting m u v.key v.body = subst (IsWriting m u v.key) whole all.writing in
    let last = finishes m u v may writing in
    let done = finished_in u v in
    let item = has_item m done v last.written in
    record {
      next = given_up done;
      leads =
          leads_first m t (given_up done) (Create 0 v.key) (map (λ piece. Append 0 piece) pieces ++ FinishAs 0 v.header v.elements ∷ Close 0 ∷ []) first.step_is
          (leads_then t u (given_up done) (map (λ piece. Append 0 piece) pieces) (FinishAs 0 v.header v.elements ∷ Close 0 ∷ []) all.leads
          (leads_first u done (given_up done) (FinishAs 0 v.header v.elements) (Close 0 ∷ []) last.step_is
          (leads_first done (given_up done) (given_up done) (Close 0) [] (close_is done last.written.used) (leads_none (given_up done)))));
      item = item;
    }

-- And all items.

-- what is stocked goes by what the shelf has under each name
stocked_alike : (s t : Table (List ℕ)) (vs : List Version) → ((name : List ℕ) → get s name ≡ get t name) → (name : List ℕ) → get (stocked s vs) name ≡ get (stocked t vs) name
stocked_alike s t [] same name = same name
stocked_alike s t (v ∷ vs) same name =
    stocked_alike (insert s (file_name v.key) (file_of v)) (insert t (file_name v.key) (file_of v)) vs
    (λ q. elim (one_name q (file_name v.key)) [
      | inl e ↦ get-insert_same s (file_name v.key) (file_of v) q e ∙ sym (get-insert_same t (file_name v.key) (file_of v) q e)
      | inr apart ↦ get-insert_other s (file_name v.key) (file_of v) q apart ∙ same q ∙ sym (get-insert_other t (file_name v.key) (file_of v) q apart)
    ])
    name

record WritesAll (m : Machine) (vs : List Version) : Type 0 where
  next : Machine
  leads : LeadsTo m (items_written vs) next
  free : is_slot next 0 ≡ false
  shelf : (name : List ℕ) → get next.shelf name ≡ get (stocked m.shelf vs) name

writes_all : (m : Machine) (before : Option (List ℕ)) (vs : List Version) → IsProper m → is_slot m 0 ≡ false → AreItems before vs → WritesAll m vs
writes_all m before [] proper free are = record { next = m; leads = leads_none m; free = free; shelf = λ name. refl }
writes_all m before (v ∷ vs) proper free are =
    let one = writes_item m v proper free are.0 in
    let rest = writes_all one.next (Some v.key) vs one.item.proper one.item.free are.1.1 in
    record {
      next = rest.next;
      leads = leads_then m one.next rest.next (item_written v) (items_written vs) one.leads rest.leads;
      free = rest.free;
      shelf = λ name. rest.shelf name ∙ stocked_alike one.next.shelf (insert m.shelf (file_name v.key) (file_of v)) vs one.item.shelf name;
    }

pub items_are_stocked : ItemsAreStocked
items_are_stocked m vs proper free are =
    let all = writes_all m None vs proper free are in
    record {
      replies_ok = all.leads.replies_ok;
      shelf = λ name. ap (λ (u : Machine). get u.shelf name) all.leads.next_is ∙ all.shelf name;
      free = ap (λ (u : Machine). is_slot u 0) all.leads.next_is ∙ all.free;
    }
