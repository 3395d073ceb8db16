-- The answer to a `get` that finds an entry.
use Rattle.std.proofs.Common.{◌≡◌, ◌≤◌, ◌++◌, ◌-◌, ◌∙◌, ◌∷◌, [], ℕ, List, Ok, Err, Option, Some, Result, IsErrAnd, length, take, sym, ap, subst, arith}
use Rattle.std.proofs.lemmas.List.{append-nil}
use Rattle.cache_base.specs.declared.name.Name.{Name}
use Rattle.cache_store.specs.Answering.{AnswersTo}
use Rattle.cache_replies.specs.Answers.{outcome_of}
use Rattle.cache_store.specs.Faulting.{SendsReplyFront, reply_front}
use Rattle.cache_store.specs.Prefix.{ForPrefix, range_of}
use Rattle.cache_replies.specs.Said.{IsCut, Saying}
use Rattle.cache_replies.specs.Saying.{CutsIn, SaysMore, SendsFront}
use Rattle.cache_replies.specs.Showing.{ShownPart}
use Rattle.cache_replies.specs.declared.answered.Answered.TheVariants as answered
use Rattle.cache_store.specs.declared.fault.StoreFault.{StoreFault}
use Rattle.cache_theory.specs.Command.{Command}
use Rattle.cache_theory.specs.Ever.{entries}
use Rattle.cache_theory.specs.Machine.{Machine}
use Rattle.cache_theory.proofs.CrashImages.Reading.{some_of}
use Rattle.cache_theory.specs.Step.{step}
use Rattle.cache_theory.specs.Text.{reply_text}
use Rattle.disk_theory.specs.State.{State, standing}
use Rattle.disk_theory.specs.declared.place.Place.TheVariants.{Entry}
use Rattle.entry_file.specs.Version.{IsFileOf}
use Rattle.entry_file.proofs.EntryLaws.{file_begins}
use Rattle.entry_metadata.specs.Metadata.{Meta as MetaSaid}
use Rattle.entry_metadata.specs.declared.meta.Meta.{Meta}
use Rattle.entry_name.specs.EntryName.{file_name}
use Rattle.file_handles.specs.Found.{IsFound}
use Rattle.file_handles.specs.Reading.{part_of_body}
use Rattle.cache_replies.proofs.SayingLaws.{said_nothing}
use Rattle.cache_store.proofs.Reading.ShownParts.{Shows}

-- where the machine finds an entry of these metadata, and the file was read at the place of the name
module _ (m : Machine) (key : List ℕ) (meta : Meta) (s t : State) (same : t ≡ s) (name : Name) (named : name.0 ≡ file_name key) (is : IsFound m key meta s) where
  len_is : meta.offset ≡ length is.version.body
  len_is = ap (λ (n : MetaSaid). n.offset) is.of_meta

  -- the file that stands
  there : (c : List ℕ) × ((entries (standing s) (file_name key) ≡ Some c) × IsFileOf is.version c)
  there = some_of (entries (standing s) (file_name key)) is.file

  file : List ℕ
  file = there.0

  stands : standing t (Entry name) ≡ Some file
  unfolding file
  stands = ap (λ (u : State). standing u (Entry name)) same ∙ ap (λ n. standing s (Entry (record { 0 = n }))) named ∙ there.1.0

  begins : (length is.version.body ≤ length file) × (take (length is.version.body) file ≡ is.version.body)
  unfolding file
  begins = file_begins is.version there.0 there.1.1

  fits : meta.offset ≤ length file
  fits = let long = begins.0 in omega (arith, len_is, long)

  body_is : take meta.offset file ≡ is.version.body
  body_is = ap (λ n. take n file) len_is ∙ begins.1

  -- what holds of what the file begins with holds of the version's body
  pub of_body : (P : List ℕ → Type 0) → ForPrefix t (Entry name) meta.offset P → P is.version.body
  of_body P all = subst P body_is (all file stands fits)

-- what was said to be the reply to a command, and how it was cut, or is out in part
module _ (c : Command) (m : Machine) (body : List ℕ) (p : ShownPart) (shows : Shows c m body p) (was : Saying) (empty : was.held ≡ []) where
  pub answers_shown : (now : Saying) → SaysMore was now (p.head ++ (range_of p.from p.to body ++ 10 ∷ [])) → AnswersTo (step m c).reply (Ok answered.All) was.taken now
  answers_shown now says =
      let text = p.head ++ (range_of p.from p.to body ++ 10 ∷ []) in
      record {
        says = record {
          front = text;
          said = says was.taken [] (said_nothing was empty);
          whole = append-nil text ∙ shows.text ∙ ap reply_text (sym shows.is);
        };
        outcome = sym shows.outcome ∙ ap outcome_of (sym shows.is);
        cut = tt;
      }

  pub answers_cut : (e : StoreFault) (now : Saying) → CutsIn was now.taken (p.head ++ (range_of p.from p.to body ++ 10 ∷ [])) → AnswersTo (step m c).reply (Err e) was.taken now
  answers_cut e now cuts = record {
    says = tt;
    outcome = tt;
    cut = λ some. subst (λ (text : List ℕ). IsCut was.taken now.taken text) (shows.text ∙ ap reply_text (sym shows.is)) (cuts was.taken [] (said_nothing was empty));
  }

  pub front_shown : (now : Option (List ℕ)) → SendsFront was now (p.head ++ part_of_body body p.from (p.to - p.from)) → SendsReplyFront c m was.taken now
  front_shown now sends =
      let sent = sends was.taken [] (said_nothing was empty) in
      record {
        front = p.head ++ part_of_body body p.from (p.to - p.from);
        is_front = ap (reply_front c) shows.is ∙ shows.front;
        more = sent.0;
        out = sent.1;
      }

-- what holds of any fault holds of one
pub by_fault : {A E : Type 0} (r : Result A E) (Q : E → Type 0) (P : Result A E → Type 0) → IsErrAnd r Q → ((e : E) → P (Err e)) → P r
by_fault (Ok a) Q P is all = absurd is
by_fault (Err e) Q P is all = all e
