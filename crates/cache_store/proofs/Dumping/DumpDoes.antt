-- How all entries are dumped.
use Rattle.std.proofs.Common.{◌≡◌, ◌≢◌, ◌++◌, ◌∷◌, ◌∙◌, ℕ, List, [], Option, Result, Ok, Err, IsErrAnd, append-nil, arith, take, refl, sym, ap, subst}
use Rattle.std.specs.Io.KnownBytes.{Appends}
use Rattle.std.proofs.KnownBytes.{Appends-trans}
use Rattle.cache_base.specs.Names.{AreSorted}
use Rattle.cache_base.specs.declared.name.Name.{Name}
use Rattle.cache_check.specs.Checks.{files_of}
use Rattle.cache_check.proofs.Tables.{is_table_of, only_one_table}
use Rattle.cache_export.specs.Dump.{dump_bytes, head}
use Rattle.cache_export.specs.Dumped.{dumped}
use Rattle.cache_store.specs.Answering.{AnswersTo}
use Rattle.cache_replies.specs.Answers.{outcome_of}
use Rattle.cache_store.specs.Dumping.{items_from}
use Rattle.cache_store.specs.Faulting.{SendsFrontFor, reply_front}
use Rattle.cache_store.specs.Kept.{HoldsIndex}
use Rattle.cache_store.specs.Open.{KeepsWhere}
use Rattle.cache_store.specs.Performing.{DoesFor}
use Rattle.cache_replies.specs.Said.{Saying}
use Rattle.cache_replies.specs.Saying.{CutsAll, CutsIn, SaysMore, SendsAll, StopsIn}
use Rattle.cache_replies.specs.declared.answered.Answered.{Answered}
use Rattle.cache_replies.specs.declared.answered.Answered.TheVariants as answered
use Rattle.cache_store.specs.declared.fault.StoreFault.{StoreFault}
use Rattle.cache_store.specs.declared.fault.StoreFault.TheVariants as fault
use Rattle.memory_index.specs.declared.memory_index.MemoryIndex.{MemoryIndex}
use Rattle.cache_store.proofs.Records.IndexAchieves.{RestsWith, begun_spared, comes_from, goes_on_telling, holds_same_base, rests_next, rests_tells, session_at, spares_same}
use Rattle.cache_store.proofs.Records.ListDoes.{Finishes}
use Rattle.cache_store.proofs.Saying.SaidWhole.{fails_unsaid, if_err, on_ok, whole_cut, whole_said}
use Rattle.cache_replies.proofs.SayingLaws.{cuts_front, cuts_then, said_nothing, says_then, stops_cut}
use Rattle.cache_theory.specs.Checks.{checks}
use Rattle.cache_theory.specs.Command.Command.{Dump}
use Rattle.cache_theory.specs.Command.Reply.{Dumped}
use Rattle.cache_theory.specs.History.{acked}
use Rattle.cache_theory.specs.Machine.{Machine}
use Rattle.cache_theory.specs.Step.{effect, step}
use Rattle.cache_theory.specs.Text.{reply_text}
use Rattle.disk_theory.specs.Listing.{AreEntries}
use Rattle.disk_theory.specs.State.{State}
use Rattle.file_handles.specs.Cache.{Cache, cache_at}
use Rattle.handle_table.specs.Kept.{Kept}
use Rattle.file_handles.specs.Stands.{Represents as CacheRepresents}
use Rattle.file_handles.proofs.Where.{stand_for}
use Rattle.index_theory.specs.Ever.{entries_on}
use Rattle.index_update.specs.Rest.{name_bytes}

-- ---- the reply

dump_rests : RestsWith Dump (λ m. [])
unfolding checks effect
dump_rests = record { next = λ m. refl; marks = λ m w. refl }

pub dump_reply_is : (m : Machine) → (step m Dump).reply ≡ Dumped (dumped m.shelf)
unfolding checks effect
dump_reply_is m = refl

-- the text of a dump, by the files of these names
abbrev pub text_of : State → List Name → List ℕ
text_of s names = head ++ (items_from 8 (files_of s names) ++ 0 ∷ [])

module _ (at : Cache) (m : Machine) (is : CacheRepresents at m) (names : List Name) (rising : AreSorted names) (entries : AreEntries at.disk names) where
  files_are : files_of at.disk names ≡ m.shelf
  files_are =
      only_one_table (entries_on at.disk) (files_of at.disk names) m.shelf (is_table_of at.disk names rising entries)
      (record { table = is.1.proper.shelf; stands = λ name. is.1.entries name })

  pub text_is : text_of at.disk names ≡ reply_text (step m Dump).reply
  unfolding reply_text
  text_is = ap (λ files. dump_bytes (dumped files)) files_are ∙ ap reply_text (sym (dump_reply_is m))

-- ---- what the command does

-- nothing of it was said
pub dump_fails : (answer : Result Answered StoreFault) (P : StoreFault → Type 0) → IsErrAnd answer P → ((f : StoreFault) → P f → f ≢ fault.Sink)
    → (k : Kept) (now : ℕ) (s t : State) (old new : MemoryIndex) (was : Saying) → t ≡ s
    → DoesFor Dump answer (session_at k now old s) (session_at k now new t) was.taken was
dump_fails answer P failed other k now s t old new was same crash h is =
    fails_unsaid crash Dump h answer P failed other (session_at k now old s) (session_at k now new t) was
    (λ on. ((begun_spared Dump (session_at k now old s) t h is (λ apart. spares_same s t same)).crash_kept on).safe)

module _ (k : Kept) (now : ℕ) (s t : State) (old new : MemoryIndex) (finishes : Finishes s t old new) (names : List Name) (rising : AreSorted names) (entries : AreEntries s names) where
  -- it has had its effect, and this is the answer to each machine
  dump_by : (answer : Result Answered StoreFault) (was later : Saying)
      → ((m : Machine) → CacheRepresents (cache_at k s) m → AnswersTo (step m Dump).reply answer was.taken later)
      → DoesFor Dump answer (session_at k now old s) (session_at k now new t) was.taken later
  dump_by answer was later answers b h is =
      let m = h.machine in
      let ended : [] ≡ name_bytes new.update = ap name_bytes (sym finishes.ended) in
      let next : KeepsWhere b (session_at k now new t) (acked Dump h) =
      rests_next Dump (λ m. []) dump_rests k now s t old new h is (λ apart. spares_same s t finishes.same)
      (λ holds. subst (λ (u : State). HoldsIndex u new.map) (sym finishes.same) (holds_same_base s old.map new.map finishes.base holds)) ended in
      record {
        safe = λ on. ((begun_spared Dump (session_at k now old s) t h is (λ apart. spares_same s t finishes.same)).crash_kept on).safe;
        answers = answers m (stand_for is.stands);
        next = on_ok answer next;
        effect = if_err answer (λ f same. next);
        tells = λ had. comes_from Dump (session_at k now old s) m _ (λ e. cc) (λ was_told.
            rests_tells Dump (λ m. []) dump_rests k now s t old new m ended (goes_on_telling k s m old new (stand_for is.stands) finishes.tells was_told.tells));
      }

  module _ (was later : Saying) (empty : was.held ≡ []) where
    pub dump_does : SaysMore was later (text_of s names) → DoesFor Dump (Ok answered.All) (session_at k now old s) (session_at k now new t) was.taken later
    dump_does says =
        dump_by (Ok answered.All) was later (λ m stands.
        whole_said (step m Dump).reply (text_of s names) (text_is (cache_at k s) m stands names rising entries) (ap outcome_of (dump_reply_is m)) was later empty says)

    -- the reply was cut
    pub dump_stops : (answer : Result Answered StoreFault) (P : StoreFault → Type 0) → IsErrAnd answer P → CutsIn was later.taken (text_of s names)
        → DoesFor Dump answer (session_at k now old s) (session_at k now new t) was.taken later
    dump_stops (Ok a) P failed cuts = absurd failed
    dump_stops (Err f) P failed cuts =
        dump_by (Err f) was later (λ m stands.
        whole_cut (step m Dump).reply (text_of s names) (text_is (cache_at k s) m stands names rising entries) (ap outcome_of (dump_reply_is m)) was later empty f cuts)

-- ---- how far it is said

-- all that was said went out
pub sent_says : (was now : Saying) → now.held ≡ [] → SendsAll was now.taken → SaysMore was now []
sent_says was now none sends before text said = record { front = text; out = sends before text said; is = ap (λ h. text ++ h) (sym none) }

-- a prefix was said, and cut as it went out
pub cuts_sent : (was mid : Saying) (out : Option (List ℕ)) (front more : List ℕ) → SaysMore was mid front → CutsAll mid out → CutsIn was out (front ++ more)
cuts_sent was mid out front more says cuts =
    cuts_front was out front more (λ before text said. cuts before (text ++ front) (says before text said))

module _ (was put sent : Saying) (s : State) (names : List Name) (first : SaysMore was put head) (second : SaysMore put sent []) where
  -- the head is out
  pub head_said : SaysMore was sent head
  head_said = subst (SaysMore was sent) (append-nil head) (says_then was put sent head [] first second)

  -- the items were cut
  pub items_cut : (out : Option (List ℕ)) → StopsIn sent out (items_from 8 (files_of s names)) → CutsIn was out (text_of s names)
  items_cut out stops =
      cuts_then was sent out head (items_from 8 (files_of s names) ++ 0 ∷ []) head_said
      (stops_cut sent out (items_from 8 (files_of s names)) (0 ∷ []) (omega arith) stops)

  module _ (said : Saying) (third : SaysMore sent said (items_from 8 (files_of s names))) where
    -- the last byte was not said
    pub end_cut : (out : Option (List ℕ)) → CutsIn said out (0 ∷ []) → CutsIn was out (text_of s names)
    end_cut out cuts =
        cuts_then was sent out head (items_from 8 (files_of s names) ++ 0 ∷ []) head_said
        (cuts_then sent said out (items_from 8 (files_of s names)) (0 ∷ []) third cuts)

    -- it was
    pub all_said : (now : Saying) → SaysMore said now (0 ∷ []) → SaysMore was now (text_of s names)
    all_said now last =
        says_then was sent now head (items_from 8 (files_of s names) ++ 0 ∷ []) head_said
        (says_then sent said now (items_from 8 (files_of s names)) (0 ∷ []) third last)

  -- where a look fails then, the head is out, and maybe more
  module _ (empty : was.held ≡ []) (none : sent.held ≡ []) (out : Option (List ℕ)) (items : List ℕ) (stops : StopsIn sent out items) where
    head_out : Appends was.taken sent.taken head
    head_out =
        let said = head_said was.taken [] (said_nothing was empty) in
        subst (Appends was.taken sent.taken) (sym (append-nil said.front) ∙ ap (λ h. said.front ++ h) (sym none) ∙ sym said.is) said.out

    pub front_sent : (at : Cache) → SendsFrontFor at Dump was.taken out
    front_sent at m is =
        let part = stops sent.taken [] (said_nothing sent none) in
        record {
          front = head;
          is_front = ap (reply_front Dump) (dump_reply_is m);
          more = take part.0 items;
          out = Appends-trans was.taken sent.taken out head (take part.0 items) head_out part.1.1;
        }

-- the handles keep what they kept
pub does_keeping : {k after : Kept} {now : ℕ} {s t : State} {old new : MemoryIndex} {answer : Result Answered StoreFault} {taken : Option (List ℕ)} {later : Saying} → after ≡ k
    → DoesFor Dump answer (session_at k now old s) (session_at k now new t) taken later → DoesFor Dump answer (session_at k now old s) (session_at after now new t) taken later
does_keeping {k} {after} {now} {s} {t} {old} {new} {answer} {taken} {later} same =
    subst (λ (j : Kept). DoesFor Dump answer (session_at k now old s) (session_at j now new t) taken later) (sym same)
