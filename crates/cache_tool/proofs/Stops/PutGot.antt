-- What was put is got, where nothing touched the key in between.
use Rattle.std.proofs.Common.{◌≡◌, ◌⊎◌, inl, inr, ℕ, List, [], ◌∷◌, ◌||◌, true, Option, Some, None, refl, sym, ap, subst, ◌∙◌}
use Rattle.std.specs.Str.{bytes_eq}
use Rattle.std.specs.Prelude.{if◌then◌else◌, is_some, option_and_then, option_map, unwrap_or}
use Rattle.std.specs.Io.KnownBytes.{Appends}
use Rattle.cache_base.proofs.CheckLaws.{AllHold, none_fails}
use Rattle.cache_base.specs.declared.status.Status.{Status}
use Rattle.cache_base.specs.declared.status.Status.TheVariants as status
use Rattle.cache_replies.specs.Answers.{outcome_of}
use Rattle.cache_store.specs.DoneFor.{IsResumedBy}
use Rattle.cache_replies.specs.declared.verdict.Verdict.{Verdict}
use Rattle.cache_replies.specs.declared.verdict.Verdict.TheVariants as outcome
use Rattle.cache_theory.specs.Checks.{checks, undamaged}
use Rattle.cache_theory.specs.Command.{Command}
use Rattle.cache_theory.specs.Command.Command.{Get, Resume, ResumeNames}
use Rattle.cache_theory.specs.Command.Reply.{Found}
use Rattle.cache_theory.specs.Machine.{Machine, is_entry, object, on_shelf, used_by}
use Rattle.cache_theory.specs.Proper.{IsProper}
use Rattle.cache_theory.specs.Step.{after, effect, found_reply, step, stepped}
use Rattle.cache_theory.specs.Table.{get}
use Rattle.cache_theory.specs.Text.{reply_text, version_text}
use Rattle.cache_theory.proofs.Clears.Clearing.{resume_without_mark}
use Rattle.cache_theory.proofs.Clears.MarkStays.{no_mark_is_left}
use Rattle.cache_theory.proofs.CrashImages.Readings.{whole_found}
use Rattle.cache_theory.proofs.Proper.{stays_proper}
use Rattle.cache_tool.specs.Put.{ArePut, put_commands}
use Rattle.cache_tool.specs.Put.ArePut.{Broken, Whole as WholeBody}
use Rattle.cache_tool.specs.Replies.{last_reply}
use Rattle.cache_tool.specs.Statuses.{IsAnswer, status_of}
use Rattle.cache_tool.specs.Theorem.{PutThenGet, PutIsGot}
use Rattle.cache_tool.specs.Verbs.{PrintsLast}
use Rattle.cache_tool.specs.World.{World, output_of}
use Rattle.cache_tool.proofs.Stops.PutFiled.{put_is_filed}
use Rattle.cache_tool.proofs.Stops.StoppedScripts.{starts_proper}
use Rattle.context_clear.specs.Mark.{mark_of}
use Rattle.disk_theory.specs.State.{standing}
use Rattle.disk_theory.specs.declared.place.Place.TheVariants.{Clear}
use Rattle.entry_file.proofs.EntryLaws.{read-file_of}
use Rattle.entry_file.specs.EntryFile.{Reading, read_for, whole_in}
use Rattle.entry_file.specs.EntryFile.Reading.{Damaged, Nothing, Whole}
use Rattle.entry_file.specs.Version.{IsVersion, Version, file_of}
use Rattle.entry_key.specs.Writing.{may_write}
use Rattle.entry_name.specs.EntryName.{file_name}
use Rattle.index_theory.specs.Ever.{entry_place}
use Rattle.index_record.specs.declared.record.IndexRecord.{IndexRecord}

-- ---- the machine finds it

whole_of : (r : Reading) (v : Version) → whole_in r ≡ Some v → r ≡ Whole v
whole_of (Whole u) v is = let same : u ≡ v = cc in ap (λ x. Whole x) same
whole_of (Damaged d) v is = absurd (cc)
whole_of Nothing v is = absurd (cc)

read_filed : (v : Version) (key : List ℕ) → IsVersion v → v.key ≡ key → read_for key (Some (file_of v)) ≡ Whole v
read_filed v key is same =
    subst (λ k. read_for k (Some (file_of v)) ≡ Whole v) same
    (whole_of (read_for v.key (Some (file_of v))) v (whole_found (file_name v.key) (file_of v) v (read-file_of v is)))

get_found : (t : Machine) (key : List ℕ) (v : Version) → may_write key ≡ true → get t.in_use (file_name key) ≡ None → on_shelf t key ≡ Whole v → (step t (Get key)).reply ≡ Found v
unfolding checks effect
get_found t key v may unused on =
    let used : used_by t key ≡ None = ap (λ o. option_and_then (λ i. if bytes_eq (object t i).version.key key then Some i else None) o) unused in
    let hold : AllHold (checks t (Get key)) = (
      may,
      (
        ap (λ o. unwrap_or (option_map (λ i. (object t i).finished) o) true) used,
        ((λ i. is_some (used i) || is_entry (on i)), (ap (λ r. (undamaged r).0) on, tt)),
      ),
    ) in
    ap (λ r. (stepped t (Get key) r).reply) (none_fails (checks t (Get key)) hold) ∙ ap found_reply on

-- ---- the two runs

unanswered : (ended : Status) → (ended ≡ status.Disk) ⊎ (ended ≡ status.Memory) → IsAnswer ended → ⊥
unanswered ended (inl disk) (inl done) = cc
unanswered ended (inl disk) (inr refused) = cc
unanswered ended (inr memory) (inl done) = cc
unanswered ended (inr memory) (inr refused) = cc

ok_of : (o : Verdict) → status.Done ≡ status_of o → o ≡ outcome.Ok
ok_of outcome.Ok is = refl
ok_of outcome.Refused is = absurd (cc)

-- where no mark stands nothing is cleared
pub resumed_itself : (Holds : List IndexRecord → Type 0) (o : Option ℕ) (m : Machine) (d : Command) → o ≡ None → IsResumedBy Holds o m d → d ≡ Resume
resumed_itself Holds None m d none is = is
resumed_itself Holds (Some origin) m d none is = absurd (cc)

-- in any case what was done for `Resume` leaves a proper machine, and no mark
pub record Resumed (m : Machine) (d : Command) : Type 0 where
  pub proper : IsProper (step m d).next
  pub unmarked : (step m d).next.mark ≡ None

pub is_resumed : (Holds : List IndexRecord → Type 0) (o : Option ℕ) (m : Machine) (d : Command) → IsProper m → IsResumedBy Holds o m d → Resumed m d
is_resumed Holds None m d proper is =
    subst (Resumed m) (sym is) (record { proper = stays_proper m Resume tt proper; unmarked = no_mark_is_left m Resume (λ keeps. keeps) })
is_resumed Holds (Some origin) m d proper is =
    subst (Resumed m) (sym is.1.0) (record { proper = stays_proper m (ResumeNames _) tt proper; unmarked = no_mark_is_left m (ResumeNames _) (λ keeps. keeps) })

module _ (key body : List ℕ) (ended : Status) (w x y z : World) (r : PutThenGet key body ended w x y z) where
  -- what the `put` left
  record Filed : Type 0 where
    version : Version
    is : IsVersion version
    key_is : version.key ≡ key
    body_is : version.body ≡ body
    may : may_write key ≡ true
    stands : standing x.disk (entry_place (file_name key)) ≡ Some (file_of version)
    unmarked : standing x.disk Clear ≡ None

  body_of : (d : Command) (cs : List Command) → ArePut (step r.opens_put d).next key w.source x.source status.Done cs → cs ≡ put_commands (step r.opens_put d).next key body
  body_of d cs (WholeBody given gives is) =
      let some : Some given ≡ Some body = sym gives.whole ∙ r.given in
      let same : given ≡ body = cc in
      is ∙ ap (put_commands (step r.opens_put d).next key) same
  body_of d cs (Broken given gives no_answer is) = absurd (no_answer (inl refl))

  was_put : (d : Command) (cs : List Command) → Resumed r.opens_put d → ArePut (step r.opens_put d).next key w.source x.source status.Done cs
      → PrintsLast r.opens_put d cs status.Done (output_of w) (output_of x) → Filed
  was_put d cs resumed are last =
      let n : Machine = (step r.opens_put d).next in
      let commands : cs ≡ put_commands n key body = body_of d cs are in
      let ok = ok_of (outcome_of (last_reply n cs)) (last.answer (inl refl)) in
      let filed = put_is_filed n key body resumed.proper resumed.unmarked r.bytes.0 r.bytes.1 (subst (λ l. outcome_of (last_reply n l) ≡ outcome.Ok) commands ok) in
      let shut = last.leaves.shut tt in
      record {
        version = filed.version;
        is = filed.is;
        key_is = filed.key_is;
        body_is = filed.body_is;
        may = filed.may;
        stands = shut.closed.entries_are (file_name key) ∙ ap (λ l. get (after n l).shelf (file_name key)) commands ∙ filed.filed;
        unmarked = shut.mark ∙ ap (λ l. (after n l).mark) commands ∙ filed.unmarked;
      }

  filed : Filed
  filed = elim (r.put.performs (ap is_some r.given) r.opens_put r.put.opened) [
    | inl first ↦ elim first.1.1 [
      | inl put ↦ was_put first.0 put.0 (is_resumed _ (mark_of r.opens_put.mark) r.opens_put first.0 (starts_proper r.now w.disk r.opens_put r.put.small r.put.opened) first.1.0) put.1.0 put.1.1
      | inr faulted ↦ absurd (unanswered status.Done faulted.0.failed (inl refl))
    ]
    | inr failed ↦ absurd (unanswered status.Done failed.0.failed (inl refl))
  ]

  -- what the `get` finds

  unmarked_there : mark_of r.opens_get.mark ≡ None
  unmarked_there = ap (λ (m : Machine). mark_of m.mark) r.got.opened.is_opened ∙ ap mark_of (r.between.clear ∙ filed.unmarked)

  shelved_there : get r.opens_get.shelf (file_name key) ≡ Some (file_of filed.version)
  shelved_there =
      ap (λ (m : Machine). get m.shelf (file_name key)) r.got.opened.is_opened
      ∙ sym (r.got.opened.is_shelf.entries_are (file_name key)) ∙ r.between.entry ∙ filed.stands

  found_there : (step (step r.opens_get Resume).next (Get key)).reply ≡ Found filed.version
  found_there =
      let next = (resume_without_mark r.opens_get unmarked_there).0 in
      let n : Machine = (step r.opens_get Resume).next in
      get_found n key filed.version filed.may
      (ap (λ (m : Machine). get m.in_use (file_name key)) next ∙ ap (λ (m : Machine). get m.in_use (file_name key)) r.got.opened.is_opened)
      (ap (λ (m : Machine). read_for key (get m.shelf (file_name key))) next ∙ ap (read_for key) shelved_there ∙ read_filed filed.version key filed.is filed.key_is)

  abbrev Got : Type 0
  Got = (ended ≡ status.Done) × ((v : Version) × ((v.key ≡ key) × ((v.body ≡ body) × Appends y.taken z.taken (version_text v))))

  was_got : (d e : Command) → d ≡ Resume → e ≡ Get key → PrintsLast r.opens_get d (e ∷ []) ended (output_of y) (output_of z) → IsAnswer ended → Got
  unfolding reply_text
  was_got d e first second last answered =
      let reply : (step (step r.opens_get d).next e).reply ≡ Found filed.version =
      (λ i. (step (step r.opens_get (first i)).next (second i)).reply) ∙ found_there in (
        last.answer answered ∙ ap (λ p. status_of (outcome_of p)) reply,
        (filed.version, (filed.key_is, (filed.body_is, subst (λ p. Appends y.taken z.taken (reply_text p)) reply (last.text.printed answered)))),
      )

  got : IsAnswer ended → Got
  got answered = elim (r.got.performs r.opens_get r.got.opened) [
    | inl first ↦ elim first.1.1 [
      | inl one ↦ was_got first.0 one.0 (resumed_itself _ (mark_of r.opens_get.mark) r.opens_get first.0 unmarked_there first.1.0) one.1.0 one.1.1.0 answered
      | inr faulted ↦ absurd (unanswered ended faulted.failed answered)
    ]
    | inr failed ↦ absurd (unanswered ended failed.failed answered)
  ]

pub put_is_got : PutIsGot
put_is_got key body ended w x y z r answered = got key body ended w x y z r answered
