-- What the commands do that have the update read names, or the index written.
use Rattle.std.proofs.Common.{Bool, ◌≡◌, ◌≢◌, ◌∙◌, ℕ, List, [], drop, Option, Some, Result, Ok, Err, IsErrAnd, inl, inr, refl, sym, ap, subst}
use Rattle.std.specs.Prelude.{IfSome}
use Rattle.cache_store.specs.Kept.{HoldsIndex}
use Rattle.cache_store.specs.Open.{KeepsWhere, Tells}
use Rattle.cache_store.specs.Performing.{AchievesFor, ComesToTell}
use Rattle.cache_store.specs.Records.{RecordsTell}
use Rattle.memory_index.specs.Records.{TellsOf}
use Rattle.cache_replies.specs.Answers.{reply_of}
use Rattle.cache_store.specs.Session.{Session}
use Rattle.cache_replies.specs.declared.answered.Answered.{Answered}
use Rattle.cache_store.specs.declared.fault.StoreFault.{StoreFault}
use Rattle.memory_index.specs.declared.memory_index.MemoryIndex.{MemoryIndex}
use Rattle.cache_store.proofs.Records.ScanAlike.{tells_on_disk, tells_on_shelf}
use Rattle.cache_store.proofs.Spared.{rested_in, spared_in}
use Rattle.cache_theory.specs.Checks.{checks}
use Rattle.cache_theory.specs.Command.{Command, Reply}
use Rattle.cache_theory.specs.Command.Command.{ListGiven, Rebuild, StepUpdate}
use Rattle.cache_theory.specs.History.{History, acked, begun}
use Rattle.cache_theory.specs.Machine.{Machine}
use Rattle.cache_theory.specs.Marks.{Marks, acked as acked_marks, begun as begun_marks}
use Rattle.cache_theory.specs.Step.{effect, state_reply, step}
use Rattle.cache_theory.specs.Table.{get}
use Rattle.cache_theory.proofs.Rested.{with_rest}
use Rattle.disk_theory.specs.State.{State}
use Rattle.disk_theory.specs.declared.place.Place.TheVariants.{Clear}
use Rattle.file_handles.specs.Cache.{cache_at}
use Rattle.handle_table.specs.Kept.{Kept}
use Rattle.file_handles.specs.Stands.{KeepsWhere as CacheKeepsWhere, Represents as CacheRepresents}
use Rattle.file_handles.proofs.Begun.{begun_in}
use Rattle.file_handles.proofs.Where.{stand_for}
use Rattle.index_map.specs.Known.{Known, SameBase}
use Rattle.index_record.specs.declared.record.IndexRecord.{IndexRecord}
use Rattle.index_theory.specs.Apart.{IsApart}
use Rattle.index_theory.specs.Ever.{entries_on}
use Rattle.index_update.specs.Rest.{name_bytes}
use Rattle.index_update.proofs.TellLaws.{bytes_drop}
use Rattle.startup_read.specs.Spares.{SparesEntries}
use Rattle.startup_read.proofs.KeptLaws.{same_base_keeps_index}
use Rattle.startup_read.proofs.SparesLaws.{spared_stands, spares_nothing}

-- the store and its disk, by their parts
abbrev pub session_at : Kept → ℕ → MemoryIndex → State → Session
session_at k now index s = record { open_store = record { handles = k; moment = now; index = index }; disk = s }

-- where the disk is the same its entries are spared
pub spares_same : (s t : State) → t ≡ s → SparesEntries s t
spares_same s t same = subst (SparesEntries s) (sym same) (spares_nothing s)

-- and where a call that spared them was made after a look, or before one
pub spares_from : (s t u : State) → t ≡ s → (IsApart t → SparesEntries t u) → IsApart s → SparesEntries s u
spares_from s t u same spares = subst (λ (v : State). IsApart v → SparesEntries v u) same spares

pub spared_in_same : (s t u : State) → (IsApart s → SparesEntries s t) → u ≡ t → IsApart s → SparesEntries s u
spared_in_same s t u spares same apart = subst (SparesEntries s) (sym same) (spares apart)

-- the disk holds the index of other records over the same base
pub holds_same_base : (s : State) (old new : Known) → SameBase old new → HoldsIndex s old → HoldsIndex s new
holds_same_base s old new same holds = record { files = same_base_keeps_index s old new same holds.files; apart = holds.apart; unclean = holds.unclean }

-- ---- a fault

-- at every exit a crash loses no more than the marks of the begun command allow
pub begun_spared : {b : Bool} (c : Command) (before : Session) (t : State) (h : History) → KeepsWhere b before h → (IsApart before.disk → SparesEntries before.disk t)
    → CacheKeepsWhere b (cache_at before.open_store.handles t) (begun c h)
begun_spared c before t h is spares =
    spared_in before.open_store.handles before.disk t (begun c h) (spares is.matches.holds.apart) (begun_in before.disk before.open_store.handles h.machine c h.marks is.stands)

pub fails_sparing : (c : Command) (answer : Result Answered StoreFault) (P : StoreFault → Type 0) (before after : Session) → IsErrAnd answer P
    → (IsApart before.disk → SparesEntries before.disk after.disk) → AchievesFor c answer before after
fails_sparing c (Ok a) P before after failed spares b h is = absurd failed
fails_sparing c (Err f) P before after failed spares b h is = record {
  safe = λ on. ((begun_spared c before after.disk h is spares).crash_kept on).safe;
  replies = tt;
  next = tt;
  tells = tt;
}

-- ---- a command that gives the machine another rest, and changes nothing else of it

pub record RestsWith (c : Command) (rest : Machine → List (List ℕ)) : Type 0 where
  pub next : (m : Machine) → (step m c).next ≡ with_rest m (rest m)
  pub marks : (m : Machine) (w : Marks) → acked_marks m c w ≡ begun_marks m c w

pub list_rests : (records : List IndexRecord) → RestsWith (ListGiven records) (λ m. [])
unfolding checks effect
list_rests records = record { next = λ m. refl; marks = λ m w. refl }

pub rebuild_rests : RestsWith Rebuild (λ m. [])
unfolding checks effect
rebuild_rests = record { next = λ m. refl; marks = λ m w. refl }

pub step_rests : (n : ℕ) → RestsWith (StepUpdate n) (λ m. drop n m.rest)
unfolding checks effect
step_rests n = record { next = λ m. refl; marks = λ m w. refl }

module _ (c : Command) (rest : Machine → List (List ℕ)) (rests : RestsWith c rest) (k : Kept) (now : ℕ) (s t : State) (old new : MemoryIndex) where
  -- what holds of the machine with another rest holds of the next
  next_is : (P : Machine → Type 0) (m : Machine) → P (with_rest m (rest m)) → P (step m c).next
  next_is P m is = subst P (sym (rests.next m)) is

  pub rests_next : {b : Bool} (h : History) → KeepsWhere b (session_at k now old s) h → (IsApart s → SparesEntries s t) → (HoldsIndex s old.map → HoldsIndex t new.map)
      → rest h.machine ≡ name_bytes new.update → KeepsWhere b (session_at k now new t) (acked c h)
  rests_next {b} h is spares holds rest_is =
      subst (λ (v : Marks). KeepsWhere b (session_at k now new t) (record { machine = (step h.machine c).next; marks = v })) (sym (rests.marks h.machine h.marks))
      (next_is (λ n. KeepsWhere b (session_at k now new t) (record { machine = n; marks = begun_marks h.machine c h.marks })) h.machine (record {
        stands = rested_in (rest h.machine) (cache_at k t) (begun c h) (begun_spared c (session_at k now old s) t h is spares);
        matches = record {
          moment = is.matches.moment;
          rest = rest_is;
          mark = is.matches.mark ∙ sym (spared_stands s t (spares is.matches.holds.apart) Clear (λ of. of));
          holds = holds is.matches.holds;
        };
      }))

  pub rests_tells : (h : Machine) → rest h ≡ name_bytes new.update → TellsOf (get h.shelf) new → Tells (session_at k now new t) (step h c).next
  rests_tells m rest_is tells = next_is (RecordsTell new) m (record { rest = rest_is; tells = tells })

  pub rests_achieves : (a : Answered) → (IsApart s → SparesEntries s t) → (HoldsIndex s old.map → HoldsIndex t new.map)
      → ((m : Machine) → m.rest ≡ name_bytes old.update → rest m ≡ name_bytes new.update)
      → ((m : Machine) → CacheRepresents (cache_at k s) m → m.rest ≡ name_bytes old.update → IfSome (reply_of a) (λ q. q ≡ (step m c).reply))
      → ((m : Machine) → CacheRepresents (cache_at k s) m → ComesToTell c (session_at k now old s) m → TellsOf (get m.shelf) new)
      → AchievesFor c (Ok a) (session_at k now old s) (session_at k now new t)
  rests_achieves a spares holds rest_is replies tells b h is = record {
    safe = λ on. ((begun_spared c (session_at k now old s) t h is spares).crash_kept on).safe;
    replies = replies h.machine (stand_for is.stands) is.matches.rest;
    next = rests_next h is spares holds (rest_is h.machine is.matches.rest);
    tells = λ comes. rests_tells h.machine (rest_is h.machine is.matches.rest) (tells h.machine (stand_for is.stands) comes);
  }

-- the records go on to tell, where the calls kept what they tell of the entries that stood
pub goes_on_telling : (k : Kept) (s : State) (m : Machine) (old new : MemoryIndex) → CacheRepresents (cache_at k s) m
    → (TellsOf (entries_on s) old → TellsOf (entries_on s) new) → TellsOf (get m.shelf) old → TellsOf (get m.shelf) new
goes_on_telling k s m old new is goes_on tells = tells_on_shelf (cache_at k s) m new is (goes_on (tells_on_disk (cache_at k s) m old is tells))

-- what is so whatever was told before
pub comes_from : (c : Command) (before : Session) (m : Machine) (P : Type 0) → c ≢ Rebuild → (RecordsTell before.open_store.index m → P) → ComesToTell c before m → P
comes_from c before m P other then (inl told) = then told
comes_from c before m P other then (inr is) = absurd (other is)

-- ---- some names are read

step_reply_is : (n : ℕ) (m : Machine) → (step m (StepUpdate n)).reply ≡ state_reply (drop n m.rest)
unfolding checks effect
step_reply_is n m = refl

pub step_achieves : (n : ℕ) (a : Answered) (k : Kept) (now : ℕ) (s t : State) (old new : MemoryIndex) → t ≡ s → SameBase old.map new.map → new.update ≡ drop n old.update
    → (TellsOf (entries_on s) old → TellsOf (entries_on s) new) → reply_of a ≡ Some (state_reply (name_bytes new.update))
    → AchievesFor (StepUpdate n) (Ok a) (session_at k now old s) (session_at k now new t)
step_achieves n a k now s t old new same base dropped goes_on reply =
    rests_achieves (StepUpdate n) (λ m. drop n m.rest) (step_rests n) k now s t old new a (λ apart. spares_same s t same)
    (λ holds. subst (λ (u : State). HoldsIndex u new.map) (sym same) (holds_same_base s old.map new.map base holds))
    rest_is
    (λ m is rest. subst (λ (o : Option Reply). IfSome o (λ q. q ≡ (step m (StepUpdate n)).reply)) (sym reply) (reply_is m rest))
    (λ m is. comes_from (StepUpdate n) (session_at k now old s) m _ (λ e. cc) (λ told. goes_on_telling k s m old new is goes_on told.tells))
  where
    rest_is : (m : Machine) → m.rest ≡ name_bytes old.update → drop n m.rest ≡ name_bytes new.update
    rest_is m rest = ap (drop n) rest ∙ sym (bytes_drop n old.update) ∙ ap name_bytes (sym dropped)

    reply_is : (m : Machine) → m.rest ≡ name_bytes old.update → state_reply (name_bytes new.update) ≡ (step m (StepUpdate n)).reply
    reply_is m rest = ap state_reply (sym (rest_is m rest)) ∙ sym (step_reply_is n m)
