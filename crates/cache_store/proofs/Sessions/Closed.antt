-- What the disk keeps as the cache is closed.
use Rattle.std.proofs.Common.{◌≡◌, ◌∙◌, Bool, true, false, Result, Ok, Err, IsErrAnd, [], refl, sym, ap}
use Rattle.std.specs.Prelude.{IsTrue, OnOk, option_and_then, ◌↔◌}
use Rattle.cache_theory.specs.Crash.{IsSafe}
use Rattle.cache_theory.specs.Ever.{entry_place}
use Rattle.cache_theory.specs.History.{History}
use Rattle.cache_theory.specs.Machine.{Machine}
use Rattle.disk_theory.specs.Sound.{IsQuiet}
use Rattle.disk_theory.specs.State.{State, settled, standing}
use Rattle.disk_theory.specs.declared.disk.DiskFault.{DiskFault}
use Rattle.disk_theory.specs.declared.place.Place.TheVariants.{Clear, Doomed}
use Rattle.file_handles.specs.Closing.{ClosesAll, IsClosed}
use Rattle.index_keeps.proofs.KeepsLaws.{spared_is_safe}
use Rattle.index_theory.specs.Apart.{IsApart}
use Rattle.index_theory.specs.Ever.{entries_on}
use Rattle.index_theory.specs.Honest.{LeavesHonest}
use Rattle.index_theory.specs.Leaves.{LeavesIndex}
use Rattle.index_theory.specs.Scan.{TellsScan, record_of}
use Rattle.index_theory.specs.Unclean.{IsUnclean}
use Rattle.index_theory.proofs.UncleanLaws.{unclean_leaves_honest, unclean_stands_honest}
use Rattle.index_update.proofs.TellLaws.{bytes_end}
use Rattle.startup_read.specs.Closing.{ClosesHonest, LeavesTrusted}
use Rattle.startup_read.specs.Spares.{SparesEntries}
use Rattle.startup_read.proofs.SparesLaws.{spared_stands}
use Rattle.cache_store.specs.Open.{Closes, ClosesHonestly, IsHonest, IsShut, KeepsTo, Represents, Tells}
use Rattle.cache_store.specs.Session.{Session, cache_of}
use Rattle.cache_store.specs.declared.fault.StoreFault.{StoreFault}

pub settled_quiet : (s : State) → IsQuiet (settled s)
settled_quiet s = record { steps = refl; writes = λ file. refl }

-- a result that is an error says nothing of an answer
pub on_ok_err : {T E : Type 0} (r : Result T E) (P : E → Type 0) (Q : Type 0) → IsErrAnd r P → OnOk r Q
on_ok_err (Ok x) P Q is = absurd is
on_ok_err (Err e) P Q is = tt

-- all slots of the store are given up, and its index is left alone
module _ (before : Session) (d : State) (left : LeavesIndex before.disk d) where
  apart_left : (m : Machine) → Represents before m → IsApart d
  apart_left m is = left.apart is.matches.holds.apart

  unclean_left : (m : Machine) → Represents before m → IsUnclean d
  unclean_left m is = left.unclean is.matches.holds.apart is.matches.holds.unclean

  pub left_honest : (m : Machine) → Represents before m → LeavesHonest d
  left_honest m is = unclean_leaves_honest d (unclean_left m is)

  module _ (t : State) (spares : IsApart d → SparesEntries d t) where
    -- what may be lost is no more after the closing of the index
    pub spared_crash : (answer : Result (Unit {0}) DiskFault) → ClosesAll answer (cache_of before) d → (h : History) → KeepsTo before h → IsSafe t h.marks
    spared_crash answer all h is = spared_is_safe d t h.marks (spares (left.apart is.matches.holds.apart)) (all.crash h is.stands)

    -- and the same entries stand, and the same mark
    pub shut : standing d Clear ≡ standing before.disk Clear → IsQuiet t → (m : Machine) → Represents before m → IsClosed (standing d) m → IsShut t m
    shut marked quiet m is closed = record {
      quiet = quiet;
      closed = record {
        entries_are = λ name. spared_stands d t (spares (apart_left m is)) (entry_place name) (λ of. of) ∙ closed.entries_are name;
        no_doomed = λ k. spared_stands d t (spares (apart_left m is)) (Doomed k) (λ of. of) ∙ closed.no_doomed k;
      };
      mark = spared_stands d t (spares (apart_left m is)) Clear (λ of. of) ∙ (marked ∙ sym is.matches.mark);
    }

  -- where the update has ended the records are the scan of what stands then
  tells_closed : (m : Machine) → Tells before m → before.open_store.index.update ≡ [] → IsClosed (standing d) m → TellsScan (entries_on d) before.open_store.index.map.records
  tells_closed m tells none closed name = tells.tells.all none name ∙ ap (option_and_then (record_of name)) (sym (closed.entries_are name.0))

  module _ (t : State) (ended : Bool) (ends : IsTrue ended ↔ (before.open_store.index.update ≡ [])) where
    pub images_honest : ClosesHonest ended before.open_store.index.map.records d t → (m : Machine) → Represents before m → Tells before m → IsClosed (standing d) m → LeavesHonest t
    images_honest honest m is tells closed = honest (apart_left m is) (unclean_left m is) (λ e. tells_closed m tells (ends.0 e) closed)

    pub is_honest : (ended ≡ true → LeavesTrusted before.open_store.index.map.records d t) → (ended ≡ false → IsUnclean d → IsUnclean t)
        → (m : Machine) → Represents before m → Tells before m → IsClosed (standing d) m → IsHonest t m
    is_honest trusted unclean m is tells closed = go ended refl
      where
        go : (b : Bool) → ended ≡ b → IsHonest t m
        go true e =
            let trusts = trusted e (apart_left m is) (tells_closed m tells (ends.0 e) closed) in
            record { honest = trusts.1; trusted = λ none. trusts.0 }
        go false e = record {
          honest = unclean_stands_honest t (unclean e (unclean_left m is));
          trusted = λ none. absurd (let both : true ≡ false = sym (ends.1 ((bytes_end before.open_store.index.update).0 (sym is.matches.rest ∙ none))) ∙ e in cc);
        }

-- a closing that failed
pub closes_failed : (answer : Result (Unit {0}) StoreFault) (P : StoreFault → Type 0) (before : Session) (t : State) → IsErrAnd answer P → ((h : History) → KeepsTo before h → IsSafe t h.marks)
    → Closes answer before t
closes_failed answer P before t failed safe = record { shut = λ m is. on_ok_err answer P _ failed; crash = safe }

pub failed_honestly : (answer : Result (Unit {0}) StoreFault) (P : StoreFault → Type 0) (before : Session) (t : State) → IsErrAnd answer P
    → ((m : Machine) → Represents before m → Tells before m → LeavesHonest t) → ClosesHonestly answer before t
failed_honestly answer P before t failed images = record { images = images; honest = λ m is tells. on_ok_err answer P _ failed }
