-- The command that puts alternative data after the body of an entry.
use Rattle.std.proofs.Common.{◌≡◌, inl, ◌-◌, ◌≤◌, ◌<◌, ◌^◌, ℕ, List, ◌++◌, length, length-append, take, drop, append_assoc, Bool, true, not, Option, None, Some, Result, Ok, Err, IfSome, refl, sym, ap, subst, ◌∙◌, arith}
use Rattle.std.specs.Prelude.{IfOk, IsErrAnd, IsOkAnd, OnOk, if◌then◌else◌, option_and_then}
use Rattle.std.specs.Int.{w32, from_be_bytes}
use Rattle.std.proofs.lemmas.List.{drop_at}
use Rattle.std.proofs.lemmas.Nat.{from_be_bytes-to_be_bytes_4}
use Rattle.alt_data.proofs.PutAfterBody.{alt_put}
use Rattle.cache_base.specs.Bytes.{AreBytes, be32, be32_at}
use Rattle.cache_base.specs.Checks.{first_failing}
use Rattle.cache_base.specs.declared.limits.TheConstants.{BODY_MAX, SLOTS}
use Rattle.cache_base.proofs.CheckLaws.{all_hold}
use Rattle.cache_theory.specs.Checks.{checks, with_alt_data}
use Rattle.cache_theory.specs.Command.{Command}
use Rattle.cache_theory.specs.Command.Command.{PutAlt}
use Rattle.cache_theory.specs.Stands.{object_file}
use Rattle.cache_theory.specs.Machine.{Machine, Object as MachineObject, number_of, object_of}
use Rattle.cache_theory.specs.Marks.{Marks}
use Rattle.cache_theory.specs.Proper.{IsProper}
use Rattle.cache_theory.specs.Step.{effect}
use Rattle.cache_theory.proofs.AltData.{object_with_alt}
use Rattle.cache_theory.proofs.Changes.{object_is}
use Rattle.cache_theory.proofs.EntryFiles.{finished_file_is}
use Rattle.cache_theory.proofs.CrashImages.Reading.{some_of}
use Rattle.chunk_cache.specs.Cached.{CachedChunk, without_entry}
use Rattle.chunk_cache.proofs.Properties.{All-without_entry}
use Rattle.disk_theory.specs.Prefixes.{BeginsInImages, IsUnreachedBelow, KeepsPrefix}
use Rattle.disk_theory.specs.Sound.{IsSound}
use Rattle.disk_theory.specs.State.{State, content, content_of, names_now, standing}
use Rattle.disk_theory.proofs.Prefixes.{unreached_is_kept}
use Rattle.entry_file.specs.Version.{IsFileOf, IsVersion, Version, file_of, version_meta}
use Rattle.entry_file.proofs.EntryLaws.{file_begins, fits_meta, is_file_of, joined_file}
use Rattle.entry_metadata.specs.Metadata.{Meta as Said, Third, block_as}
use Rattle.entry_metadata.specs.declared.meta.Meta.{Meta}
use Rattle.entry_metadata.proofs.BlockLaws.{length-block_as}
use Rattle.entry_metadata.proofs.FormatLaws.{bytes_within}
use Rattle.entry_name.specs.EntryName.{file_name}
use Rattle.index_theory.specs.Leaves.{LeavesBeside}
use Rattle.file_handles.specs.Answers.{OnRefused, done_or, reply_in}
use Rattle.file_handles.specs.Cache.{cache_at}
use Rattle.file_handles.specs.Carries.{CarriesOut}
use Rattle.file_handles.specs.Changes.{Becomes, ChangesAt, ChangesThere, IsFiledAs, IsFiledAt}
use Rattle.file_handles.specs.Effects.{HasEffect, IsLearntOf}
use Rattle.handle_table.specs.Held.{IsHeldAs, body_len_in, is_draft, object_place}
use Rattle.handle_table.specs.HeldChunks.{IsChunkInUse}
use Rattle.handle_table.specs.Kept.{Kept, object_at, object_in, with_object, without_chunks}
use Rattle.file_handles.specs.PuttingAlt.{HasVersion, IsPutBehind, KeepsMainBody, MayPut, PutsAlt, PutsThere, put_fault}
use Rattle.handle_table.specs.Refuses.{HasAt, Passes}
use Rattle.handle_table.specs.Standing.{HandlesStand}
use Rattle.file_handles.specs.Stands.{KeepsWhere}
use Rattle.file_handles.specs.Unsynced.{SyncsNothing}
use Rattle.file_handles.specs.declared.fault.Effect.{Effect}
use Rattle.file_handles.specs.declared.fault.HandleFault.{HandleFault}
use Rattle.file_handles.specs.declared.fault.HandleFault.TheVariants as fault
use Rattle.handle_table.specs.declared.object.Entry.{Entry}
use Rattle.handle_table.specs.declared.object.Entry.TheVariants.{Draft, Finished}
use Rattle.handle_table.specs.declared.object.Object.{Object}
use Rattle.handle_table.specs.declared.object.Use.{Use}
use Rattle.file_handles.proofs.PuttingAlt.AltChecks.{MayPutOf, may_put_of}
use Rattle.file_handles.proofs.Carried.{MakesChangeAt, change_where}
use Rattle.file_handles.proofs.Changed.{MayGoOut}
use Rattle.file_handles.proofs.EffectLaws.{change_effect}
use Rattle.file_handles.proofs.Setting.ElementChecks.{if_object}
use Rattle.file_handles.proofs.Setting.ElementCommands.{IsFinished}
use Rattle.file_handles.proofs.Setting.ElementEntries.{body_len_is, finished_is}
use Rattle.file_handles.proofs.Setting.ElementMarks.{goes_out}
use Rattle.file_handles.proofs.Setting.ElementSlots.{use_there}
use Rattle.file_handles.proofs.Histories.{history_of}
use Rattle.file_handles.proofs.IndexLeft.{change_left}
use Rattle.file_handles.proofs.PuttingAlt.LongerEntry.{behind}
use Rattle.file_handles.proofs.PutBack.{one_object}
use Rattle.file_handles.proofs.Reading.ReadChunks.{list_stands}
use Rattle.file_handles.proofs.Reading.ReadKept.{read_keeps}
use Rattle.file_handles.proofs.Refused.{faulted_same}
use Rattle.file_handles.proofs.UnsyncedLaws.{change_unsynced}
use Rattle.file_handles.proofs.Where.{carries_out}

-- What it does to the machine's object.

pub put_makes : (At : Machine → Type 0) (k : Kept) (slot : ℕ) (kind alt : List ℕ) → AreBytes kind → AreBytes alt
    → ((m : Machine) (number : ℕ → ℕ) → IsProper m → HandlesStand k m number → At m → first_failing (checks m (PutAlt slot kind alt)) ≡ None)
    → MakesChangeAt At MayGoOut k (PutAlt slot kind alt) slot (behind kind alt) IsFinished
unfolding checks effect
put_makes At k slot kind alt kind_bytes alt_bytes passes = record {
  passes = passes;
  acks = λ m w. refl;
  effects = λ m number stand at fine. refl;
  objects = λ m proper fine.
      let all = all_hold (checks m (PutAlt slot kind alt)) fine in
      object_with_alt (object_of m slot) kind alt all.1.1.0 kind_bytes alt_bytes all.1.1.1.1.0 all.1.1.1.1.1.0 all.1.1.1.1.1.1.0 (object_is m slot proper all.0);
  key = λ o. refl;
  doomed = λ o. refl;
  unfinished = λ o un. un;
  out = λ m w number stand fine done becomes.
      goes_out m (PutAlt slot kind alt) w fine (number_of m slot) (behind kind alt (object_of m slot))
      (ap (λ (b : Bool). if b then Some (number_of m slot) else None) done) refl refl becomes refl refl;
}

pub put_effect : (k : Kept) (slot : ℕ) → slot < SLOTS → (p : ℕ) (x : Object) → HasAt k slot p x → (kind alt : List ℕ) → AreBytes kind → AreBytes alt → Passes k (PutAlt slot kind alt)
    → (e : Effect) → IsLearntOf (behind kind alt) (object_at k p) e → HasEffect k (PutAlt slot kind alt) e
put_effect k slot small p x has kind alt kind_bytes alt_bytes passes e is =
    change_effect k (PutAlt slot kind alt) slot small p x has (behind kind alt) IsFinished
    (put_makes (λ m. Unit {0}) k slot kind alt kind_bytes alt_bytes (λ m number proper stand at. passes m number proper stand)) e (λ m. refl) (λ m number stand. refl) is

-- The entry is a finished one.

pub finished_entry : (e : Entry) (kind : List ℕ) (len : ℕ) → put_fault e kind len ≡ None → (meta : Meta) × ((e ≡ Finished meta) × MayPutOf meta kind len)
finished_entry (Draft d) kind len fine = absurd (cc)
finished_entry (Finished meta) kind len fine = (meta, (refl, may_put_of meta kind len fine))

finished_object : (x : Object) (kind : List ℕ) (len : ℕ) → MayPut kind len x → (o : MachineObject) → IsHeldAs x o → o.finished ≡ true
finished_object x kind len may o held =
    let entry = finished_entry x.entry kind len may in
    finished_is x.entry o held.held_entry ∙ ap (λ (e : Entry). not (is_draft e)) entry.1.0

-- Handles that hold no chunk of an object stand for what they stood for.

pub forgotten_keeps : {b : Bool} (s : State) (k : Kept) (n : ℕ) (m : Machine) (w : Marks) → KeepsWhere b (cache_at k s) (history_of m w) → KeepsWhere b (cache_at (without_chunks k n) s) (history_of m w)
forgotten_keeps s k n m w is =
    read_keeps s k (without_chunks k n) refl
    (λ m number stands. list_stands k m number stands.handles.chunks (without_entry n k.chunks) (All-without_entry (IsChunkInUse k m) n k.chunks stands.handles.chunks.held))
    (history_of m w) is

-- Which version a file is of.

-- a file is of one version alone
one_version : (v w : Version) (c : List ℕ) → IsVersion v → IsVersion w → IsFileOf v c → IsFileOf w c → v ≡ w
one_version v w c v_is w_is f g =
    let meta : version_meta v ≡ version_meta w =
    sym (fits_meta (file_name v.key) c (version_meta v) (joined_file v c v_is f)) ∙ fits_meta (file_name w.key) c (version_meta w) (joined_file w c w_is g) in
    let body : v.body ≡ w.body = sym (file_begins v c f).1 ∙ ap (λ (m : Said). take m.offset c) meta ∙ (file_begins w c g).1 in
    λ i. record { header = (meta i).header; key = (meta i).key; elements = (meta i).elements; body = body i }

-- a file ends in the length of its body
end_is : (body block c : List ℕ) → c ≡ body ++ (block ++ be32 (length body)) → length body < 2 ^ 32 → be32_at c (length c - 4) ≡ length body
end_is body block c is small =
    let one = length-append body (block ++ be32 (length body)) in
    let two = length-append block (be32 (length body)) in
    let front = length-append body block in
    let long : length c ≡ length (body ++ (block ++ be32 (length body))) = ap length is in
    let place : length c - 4 ≡ length (body ++ block) = omega (arith, one, two, front, long) in
    ap (λ (n : ℕ). be32_at c n) place
    ∙ ap (λ (xs : List ℕ). from_be_bytes w32 (drop (length (body ++ block)) xs)) (is ∙ sym (append_assoc body block (be32 (length body))))
    ∙ ap (from_be_bytes w32) (drop_at (body ++ block) (be32 (length body)) _ refl)
    ∙ from_be_bytes-to_be_bytes_4 (length body) small

-- so the bodies of the versions of a file that is not too long are of one length
one_length : (v w : Version) (c : List ℕ) → length c < 2 ^ 32 → IsFileOf v c → IsFileOf w c → length v.body ≡ length w.body
one_length v w c short f g =
    let v_long = (file_begins v c f).0 in
    let w_long = (file_begins w c g).0 in
    sym (end_is v.body (block_as f.format (version_meta v)) c f.bytes (omega (arith, short, v_long))) ∙ end_is w.body (block_as g.format (version_meta w)) c g.bytes (omega (arith, short, w_long))

file_short : (v : Version) (c : List ℕ) → IsVersion v → length v.body ≤ BODY_MAX → IsFileOf v c → length c < 2 ^ 32
file_short v c is low f =
    let block : List ℕ = block_as f.format (version_meta v) in
    let one = length-append v.body (block ++ be32 (length v.body)) in
    let two = length-append block (be32 (length v.body)) in
    let long = ap length f.bytes in
    let here = length-block_as f.format (version_meta v) in
    let third = length-block_as Third (version_meta v) in
    let within = bytes_within f.format in
    let small = is.meta.small in
    omega (arith, one, two, long, here, third, within.0, within.1, small, low)

-- What stands in the images.

begins_as : (s t : State) (x : Object) (v : Version) (file : ℕ) → HasVersion s x v → names_now s (object_place x) ≡ Some file → KeepsPrefix (object_place x) (length v.body) s t → IsUnreachedBelow (length v.body) (s.files file)
    → BeginsInImages file v.body t
begins_as s t x v file stands named keeps unreached =
    let both : Some (content (s.files file)) ≡ Some (file_of v) = ap (content_of s.files) (sym named) ∙ stands in
    let holds : content (s.files file) ≡ file_of v = cc in
    let prefix : take (length v.body) (content (s.files file)) ≡ v.body = ap (take (length v.body)) holds ∙ (file_begins v (file_of v) (is_file_of v)).1 in
    subst (λ (bytes : List ℕ). BeginsInImages file bytes t) prefix (keeps file named unreached)

-- where nothing changed
same_main : (s : State) → IsSound s → (k : Kept) (slot : ℕ) → KeepsMainBody k slot s s
same_main s sound k slot = go (object_in k slot)
  where
    go : (o : Option Object) → IfSome o (λ x. (v : Version) (file : ℕ) → HasVersion s x v → names_now s (object_place x) ≡ Some file → IsUnreachedBelow (length v.body) (s.files file) → BeginsInImages file v.body s)
    go None = tt
    go (Some x) = λ v file stands named unreached.
        begins_as s s x v file stands named (unreached_is_kept s sound (object_place x) (file_of v) (length v.body) stands (file_begins v (file_of v) (is_file_of v)).0) unreached

pub kept_main : {s t : State} → IsSound s → (k : Kept) (slot : ℕ) → t ≡ s → KeepsMainBody k slot s t
kept_main {s} {t} sound k slot same = subst (KeepsMainBody k slot s) (sym same) (same_main s sound k slot)

object_in_is : (k : Kept) (slot p : ℕ) (x : Object) → HasAt k slot p x → object_in k slot ≡ Some x
object_in_is k slot p x has =
    let there = use_there k slot p x has in
    ap (option_and_then (λ (u : Use). object_at k u.place)) there.1.0 ∙ ap (object_at k) there.1.1 ∙ has.found

-- what holds after an Ok where the disk tells
pub told_if : {T E B : Type 0} (r : Result T E) (P : Type 0) → (B → OnOk r P) → OnOk r (B → P)
told_if (Ok v) P f = f
told_if (Err e) P f = tt

-- a fault that is handed on, and is no refusal
pub faulted_answer : {T X : Type 0} (a : Result T HandleFault) (q : Result X HandleFault) (f : HandleFault) (s t : State) (k : Kept) (c : Command) → q ≡ Err f → OnRefused q (λ r. ⊥) → IsErrAnd a (λ e. e ≡ f) → t ≡ s
    → CarriesOut c (done_or a) (cache_at k s) (cache_at k t)
faulted_answer (Ok v) q f s t k c at none is same = absurd is
faulted_answer {T} {X} (Err e) q f s t k c at none is same =
    subst (λ o. CarriesOut c o (cache_at k s) (cache_at k t)) (ap reply_in (sym is)) (go f (subst (λ z. OnRefused z (λ r. ⊥)) at none))
  where
    go : (f : HandleFault) → OnRefused {T = X} (Err f) (λ r. ⊥) → CarriesOut c (reply_in f) (cache_at k s) (cache_at k t)
    go (fault.Refused r) none = absurd (none r refl)
    go fault.Read none = faulted_same same
    go fault.Disk none = faulted_same same
    go fault.Memory none = faulted_same same

-- the file of the object that the call changed
becomes_file : (held : List CachedChunk) (x : Object) (change : MachineObject → MachineObject) (s t : State) (changed : Result Object HandleFault) (Q : Object → Type 0)
    → IfOk changed (λ y. (o : MachineObject) → IsFiledAs x o s → Becomes held x y o (change o) t) → IsOkAnd changed Q
    → (o : MachineObject) → IsFiledAs x o s → standing t (object_place x) ≡ Some (object_file (change o))
becomes_file held x change s t (Ok y) Q becomes put o filed = (becomes o filed).file
becomes_file held x change s t (Err f) Q becomes put o filed = absurd put

module _ (s t : State) (sound : IsSound s) (k after : Kept) (slot : ℕ) (small : slot < SLOTS) (p : ℕ) (x : Object) (has : HasAt k slot p x) (kind alt : List ℕ)
    (may : MayPut kind (length alt) x) {T : Type 0} (r : Result T HandleFault) (puts : PutsThere p kind alt r (cache_at k s) (cache_at after t)) where
  pub changes : ChangesAt p (behind kind alt) r (cache_at (without_chunks k x.number) s) (cache_at after t) x
  changes = if_object (object_at k p) x (λ x. ChangesAt p (behind kind alt) r (cache_at (without_chunks k x.number) s) (cache_at after t) x) has.found puts

  pub changes_there : ChangesThere p (behind kind alt) r (cache_at (without_chunks k x.number) s) (cache_at after t)
  changes_there z at = subst (ChangesAt p (behind kind alt) r (cache_at (without_chunks k x.number) s) (cache_at after t)) (one_object k p x z has.found at) changes

  -- it is carried out
  pub put_leaves : AreBytes kind → AreBytes alt → Passes k (PutAlt slot kind alt) → OnRefused r (λ _. ⊥) → CarriesOut (PutAlt slot kind alt) (done_or r) (cache_at k s) (cache_at after t)
  put_leaves kind_bytes alt_bytes passes none = carries_out (λ b m w is.
      let passed = passes m is.number is.stands.proper is.stands.handles in
      change_where (λ m. first_failing (checks m (PutAlt slot kind alt)) ≡ None) s t sound (without_chunks k x.number) after (PutAlt slot kind alt) slot small p x
      (record { ranged = has.ranged; place = has.place; found = has.found }) (behind kind alt) IsFinished
      (put_makes (λ m. first_failing (checks m (PutAlt slot kind alt)) ≡ None) (without_chunks k x.number) slot kind alt kind_bytes alt_bytes (λ m number proper stand at. at))
      r changes (λ o held. inl (finished_object x kind (length alt) may o held)) none b m w passed (forgotten_keeps s k x.number m w is))

  -- what it leaves alone
  module _ (filed : IsFiledAt (cache_at k s) p) where
    pub put_left : LeavesBeside s t
    put_left = change_left s t (without_chunks k x.number) after p x (behind kind alt) r sound has.found filed changes_there

    pub put_unsynced : SyncsNothing s t
    put_unsynced = change_unsynced s t (without_chunks k x.number) after p x (behind kind alt) r has.found filed changes_there

    -- the machine's object, and its file
    o : MachineObject
    o = (filed x has.found).0

    filed_as : IsFiledAs x o s
    unfolding o
    filed_as = (filed x has.found).1

    done : o.finished ≡ true
    done = finished_object x kind (length alt) may o filed_as.as_held

    file_is : (v : Version) → HasVersion s x v → IsFileOf o.version (file_of v)
    file_is v stands =
        let there = some_of (standing s (object_place x)) filed_as.file in
        let both : Some there.0 ≡ Some (file_of v) = sym there.1.0 ∙ stands in
        let same : there.0 ≡ file_of v = cc in
        subst (IsFileOf o.version) same (there.1.1.finished done)

    told_by : IsOkAnd changes.changed (λ y. after ≡ with_object (without_chunks k x.number) p (Some y)) → PutsAlt k slot kind alt s t
    told_by put =
        subst (λ z. IfSome z (λ x. (v : Version) → IsVersion v → HasVersion s x v → IsPutBehind kind alt t x v)) (sym (object_in_is k slot p x has)) (λ v v_is stands.
        let same : o.version ≡ v = one_version o.version v (file_of v) (filed_as.object.version done) v_is (file_is v stands) (is_file_of v) in
        let low = v_is.meta.offset in
        record {
          stands =
              becomes_file (without_chunks k x.number).chunks x (behind kind alt) s t changes.changed (λ y. after ≡ with_object (without_chunks k x.number) p (Some y)) changes.changes.becomes put o filed_as
              ∙ ap Some (finished_file_is (behind kind alt o) done) ∙ ap (λ (w : Version). Some (file_of (with_alt_data kind alt w))) same;
          told = alt_put v.elements v.body kind alt (omega (arith, low)) (finished_entry x.entry kind (length alt) may).1.1.good;
        })

    -- what was put is told of
    pub put_told : OnOk r (PutsAlt k slot kind alt s t)
    put_told = go r changes.put_back
      where
        go : (q : Result T HandleFault) → OnOk q (IsOkAnd changes.changed (λ y. after ≡ with_object (without_chunks k x.number) p (Some y))) → OnOk q (PutsAlt k slot kind alt s t)
        go (Ok v) put = told_by put
        go (Err e) put = tt

    -- and the main body is in every image what it was
    pub put_main : KeepsPrefix (object_place x) (body_len_in x.entry) s t → KeepsMainBody k slot s t
    put_main keeps =
        subst (λ z. IfSome z (λ x. (v : Version) (file : ℕ) → HasVersion s x v → names_now s (object_place x) ≡ Some file → IsUnreachedBelow (length v.body) (s.files file) → BeginsInImages file v.body t))
        (sym (object_in_is k slot p x has)) (λ v file stands named unreached.
        let entry = finished_entry x.entry kind (length alt) may in
        let own : body_len_in x.entry ≡ length o.version.body = body_len_is x.entry o filed_as.as_held.held_entry in
        let offset : body_len_in x.entry ≡ entry.0.offset = ap body_len_in entry.1.0 in
        let limit = entry.1.1.limit in
        let short = file_short o.version (file_of v) (filed_as.object.version done) (omega (arith, own, offset, limit)) (file_is v stands) in
        let len : body_len_in x.entry ≡ length v.body = own ∙ one_length o.version v (file_of v) short (file_is v stands) (is_file_of v) in
        begins_as s t x v file stands named (subst (λ (n : ℕ). KeepsPrefix (object_place x) n s t) len keeps) unreached)
