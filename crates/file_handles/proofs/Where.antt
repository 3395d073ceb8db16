-- What a command leaves, where a crash is spoken of and where it is not.
use Rattle.std.proofs.Common.{◌≡◌, Bool, true, false, Option, Some, None, IsTrue, refl}
use Rattle.std.specs.Prelude.{IfSome, ℕ}
use Rattle.cache_theory.specs.Command.{Command, Reply}
use Rattle.cache_theory.specs.Crash.{IsSafe}
use Rattle.cache_theory.specs.History.{History, acked, begun, settled_at}
use Rattle.cache_theory.specs.Machine.{Machine}
use Rattle.cache_theory.specs.Marks.{Marks, marks_of}
use Rattle.cache_theory.specs.Step.{step}
use Rattle.file_handles.specs.Cache.{Cache}
use Rattle.file_handles.specs.Carries.{CarriesOut, CarriesOutAt, LeavesHistory, Replies}
use Rattle.file_handles.specs.Stands.{KeepsTo, KeepsWhere, Represents}
use Rattle.file_handles.proofs.Histories.{history_of}

pub record LeavesWhere (crash : Bool) (c : Command) (h : History) (replied : Option Reply) (after : Cache) : Type 0 where
  pub safe : IsTrue crash → IsSafe after.disk (begun c h).marks
  pub replies : IfSome replied (λ r. r ≡ (step h.machine c).reply)
  pub next : IfSome replied (λ r. KeepsWhere crash after (acked c h))

abbrev pub CarriesOutWhere : Command → Option Reply → Cache → Cache → Type 0
CarriesOutWhere c replied before after =
    (crash : Bool) (m : Machine) (w : Marks) → KeepsWhere crash before (history_of m w) → LeavesWhere crash c (history_of m w) replied after

abbrev pub CarriesOutAtWhere : ℕ → Command → Option Reply → Cache → Cache → Type 0
CarriesOutAtWhere now c replied before after =
    (crash : Bool) (m : Machine) (w : Marks) → m.moment ≡ now → KeepsWhere crash before (history_of m w) → LeavesWhere crash c (history_of m w) replied after

-- Between what stands alone, and what is kept under marks.

never_on : {P : Type 0} → IsTrue false → P
never_on on = absurd (let never : false ≡ true = on in cc)

pub bare_in : {now : Cache} {h : History} → Represents now h.machine → KeepsWhere false now h
bare_in stand = record { number = stand.0; stands = stand.1; crash_kept = λ on. never_on on }

pub stand_for : {b : Bool} {now : Cache} {h : History} → KeepsWhere b now h → Represents now h.machine
stand_for is = (is.number, is.stands)

pub marked_in : {now : Cache} {h : History} → KeepsTo now h → KeepsWhere true now h
marked_in is = record { number = is.number; stands = is.stands; crash_kept = λ on. is.crash_kept }

pub is_in : {now : Cache} {h : History} → KeepsWhere true now h → KeepsTo now h
is_in is = record { number = is.number; stands = is.stands; crash_kept = is.crash_kept refl }

if_some : {X P Q : Type 0} (o : Option X) → (P → Q) → IfSome o (λ r. P) → IfSome o (λ r. Q)
if_some None f p = tt
if_some (Some x) f p = f p

-- what is left with a crash and without makes up what is promised
module _ {c : Command} {replied : Option Reply} {after : Cache} {h : History} where
  replies_of : LeavesWhere false c h replied after → Replies c h.machine replied after
  replies_of left = record { reply = left.replies; next = if_some replied stand_for left.next }

  leaves_of : LeavesWhere true c h replied after → LeavesHistory c h replied after
  leaves_of left = record { safe = left.safe refl; next = if_some replied is_in left.next }

  -- and is made up of it
  bare_leaves : Replies c h.machine replied after → LeavesWhere false c h replied after
  bare_leaves said = record { safe = λ on. never_on on; replies = said.reply; next = if_some replied bare_in said.next }

  marked_leaves : Replies c h.machine replied after → LeavesHistory c h replied after → LeavesWhere true c h replied after
  marked_leaves said left = record { safe = λ on. left.safe; replies = said.reply; next = if_some replied marked_in left.next }

module _ {c : Command} {replied : Option Reply} {before after : Cache} where
  pub carries_out : CarriesOutWhere c replied before after → CarriesOut c replied before after
  carries_out does = record {
    answers = λ m stand. replies_of {h = settled_at m} (does false m (marks_of m) (bare_in {h = settled_at m} stand));
    crash = λ h is. leaves_of {h = h} (does true h.machine h.marks (marked_in is));
  }

  pub carried_out : CarriesOut c replied before after → CarriesOutWhere c replied before after
  carried_out carried true m w is = marked_leaves {h = history_of m w} (carried.answers m (stand_for is)) (carried.crash (history_of m w) (is_in is))
  carried_out carried false m w is = bare_leaves {h = history_of m w} (carried.answers m (stand_for is))

  module _ {now : ℕ} where
    pub carries_out_at : CarriesOutAtWhere now c replied before after → CarriesOutAt now c replied before after
    carries_out_at does = record {
      answers = λ m moment stand. replies_of {h = settled_at m} (does false m (marks_of m) moment (bare_in {h = settled_at m} stand));
      crash = λ h moment is. leaves_of {h = h} (does true h.machine h.marks moment (marked_in is));
    }

    pub carried_out_at : CarriesOutAt now c replied before after → CarriesOutAtWhere now c replied before after
    carried_out_at carried true m w moment is = marked_leaves {h = history_of m w} (carried.answers m moment (stand_for is)) (carried.crash (history_of m w) moment (is_in is))
    carried_out_at carried false m w moment is = bare_leaves {h = history_of m w} (carried.answers m moment (stand_for is))

    -- what is carried out at every moment is at this one
    pub at_moment : CarriesOut c replied before after → CarriesOutAt now c replied before after
    at_moment carried = record { answers = λ m moment stand. carried.answers m stand; crash = λ h moment is. carried.crash h is }
