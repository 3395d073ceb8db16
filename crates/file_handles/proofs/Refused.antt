-- A command that is refused changes nothing.
use Rattle.std.proofs.Common.{◌≡◌, inl, inr, [], Option, Some, None, Result, Ok, Err, IsErrAnd, sym, ap, subst}
use Rattle.cache_base.specs.Checks.{first_failing}
use Rattle.cache_theory.specs.Checks.{checks}
use Rattle.cache_theory.specs.Command.{Command}
use Rattle.cache_theory.specs.Command.Command.{ClearNames, ClearOrigin, Flush}
use Rattle.cache_theory.specs.Command.Reply.{Refused}
use Rattle.cache_theory.specs.Crash.{IsAsMarked, IsSafe, MayBeFiled}
use Rattle.cache_theory.specs.Ever.{entry_place}
use Rattle.cache_theory.specs.Machine.{Machine}
use Rattle.cache_theory.specs.Marks.{Marks, acked, begun, begun_by}
use Rattle.cache_theory.specs.Step.{step, stepped}
use Rattle.cache_theory.specs.declared.refusal.Refusal.{Refusal}
use Rattle.cache_theory.proofs.CrashImages.EverSteps.{ever_created, ever_made}
use Rattle.cache_theory.proofs.CrashImages.Kept.{kept_created}
use Rattle.disk_theory.specs.Sound.{IsSound}
use Rattle.disk_theory.specs.State.{File, State, created, empty_file}
use Rattle.disk_theory.specs.declared.place.Place.TheVariants.{Index}
use Rattle.disk_theory.proofs.Files.{with_file-below}
use Rattle.file_handles.specs.Answers.{done_or, done_or_none, reply_in}
use Rattle.file_handles.specs.Cache.{cache_at}
use Rattle.file_handles.specs.Carries.{CarriesOut}
use Rattle.handle_table.specs.Kept.{Kept}
use Rattle.handle_table.specs.Refuses.{Refuses}
use Rattle.file_handles.specs.Stands.{KeepsWhere}
use Rattle.file_handles.specs.declared.fault.HandleFault.{HandleFault}
use Rattle.file_handles.specs.declared.fault.HandleFault.TheVariants as fault
use Rattle.file_handles.proofs.Begun.{begun_in}
use Rattle.file_handles.proofs.Histories.{history_of}
use Rattle.file_handles.proofs.Where.{CarriesOutWhere, carries_out}

begun_refused : (m : Machine) (c : Command) (w : Marks) (r : Refusal) → first_failing (checks m c) ≡ Some r → begun m c w ≡ w
begun_refused m c w r e = ap (λ o. begun_by o m c w) e

-- and no mark: neither a flush nor a clearing is refused
pub acked_refused : (m : Machine) (c : Command) (w : Marks) (r : Refusal) → first_failing (checks m c) ≡ Some r → acked m c w ≡ w
unfolding checks
acked_refused m Flush w r e = absurd (cc)
acked_refused m (ClearOrigin origin) w r e = absurd (cc)
acked_refused m (ClearNames names) w r e = absurd (cc)
acked_refused m c w r e = begun_refused m c w r e

-- so it is carried out, whatever the state of the machine and the marks
pub refused_where : (s : State) (k : Kept) (c : Command) (r : Refusal) → Refuses k c r → CarriesOutWhere c (Some (Refused r)) (cache_at k s) (cache_at k s)
refused_where s k c r refuses b m w is =
    let fails : first_failing (checks m c) ≡ Some r = refuses m is.number is.stands.proper is.stands.handles in
    record {
      safe = λ on. ((begun_in s k m c w is).crash_kept on).safe;
      replies = ap (λ o. (stepped m c o).reply) (sym fails);
      next = subst (λ (v : Marks). KeepsWhere b (cache_at k s) (history_of (step m c).next v)) (sym (acked_refused m c w r fails)) (subst (λ (n : Machine). KeepsWhere b (cache_at k s) (history_of n w)) (ap (λ o. (stepped m c o).next) (sym fails)) is);
    }

pub refused_leaves : (s : State) (k : Kept) (c : Command) (r : Refusal) → Refuses k c r → CarriesOut c (Some (Refused r)) (cache_at k s) (cache_at k s)
refused_leaves s k c r refuses = carries_out (refused_where s k c r refuses)

-- the same where the disk was only looked at
pub refused_same : {s t : State} {k : Kept} {c : Command} {r : Refusal} → Refuses k c r → t ≡ s → CarriesOut c (Some (Refused r)) (cache_at k s) (cache_at k t)
refused_same {s} {t} {k} {c} {r} refuses same = subst (λ u. CarriesOut c (Some (Refused r)) (cache_at k s) (cache_at k u)) (sym same) (refused_leaves s k c r refuses)

-- and a fault without a change is allowed to any command
pub faulted_same : {s t : State} {k : Kept} {c : Command} → t ≡ s → CarriesOut c None (cache_at k s) (cache_at k t)
faulted_same {s} {t} {k} {c} same = carries_out (λ b m w is. record {
  safe = λ on. subst (λ u. IsSafe u (begun m c w)) (sym same) ((begun_in s k m c w is).crash_kept on).safe;
  replies = tt;
  next = tt;
})

-- a refusal that is handed on as the answer
pub refused_answer : {T : Type 0} (a : Result T HandleFault) (s : State) (k : Kept) (c : Command) (r : Refusal) → IsErrAnd a (λ e. e ≡ fault.Refused r) → Refuses k c r → CarriesOut c (done_or a) (cache_at k s) (cache_at k s)
refused_answer (Ok x) s k c r is refuses = absurd is
refused_answer (Err e) s k c r is refuses = subst (λ o. CarriesOut c o (cache_at k s) (cache_at k s)) (ap reply_in (sym is)) (refused_leaves s k c r refuses)

pub refused_answer_or_none : {T : Type 0} (a : Result (Option T) HandleFault) (s : State) (k : Kept) (c : Command) (r : Refusal) → IsErrAnd a (λ e. e ≡ fault.Refused r) → Refuses k c r
    → CarriesOut c (done_or_none a) (cache_at k s) (cache_at k s)
refused_answer_or_none (Ok x) s k c r is refuses = absurd is
refused_answer_or_none (Err e) s k c r is refuses = subst (λ o. CarriesOut c o (cache_at k s) (cache_at k s)) (ap reply_in (sym is)) (refused_leaves s k c r refuses)

-- nor does a fault after a new file at `index` lose an entry
index_safe : (s : State) (w : Marks) → IsSound s → IsSafe s w → IsSafe (created Index s) w
index_safe s w sound safe = record {
  untouched = λ name un. kept_created s Index (entry_place name) (IsAsMarked w name) (λ same. cc) sound (safe.untouched name un);
  touched = λ name is f at. elim (ever_created s Index (entry_place name) f at) [
    | inl new ↦ absurd (let same = new.0 in cc)
    | inr old ↦ subst (MayBeFiled w name) (sym (with_file-below s.made f empty_file s.files (ever_made s (entry_place name) f sound old))) (safe.touched name is f old)
  ];
  published = λ name is out f at. elim (ever_created s Index (entry_place name) f at) [
    | inl new ↦ absurd (let same = new.0 in cc)
    | inr old ↦ subst (λ (file : File). file.writes ≡ []) (sym (with_file-below s.made f empty_file s.files (ever_made s (entry_place name) f sound old))) (safe.published name is out f old)
  ];
}

pub faulted_index : {s t : State} {k : Kept} {c : Command} → IsSound s → t ≡ created Index s → CarriesOut c None (cache_at k s) (cache_at k t)
faulted_index {s} {t} {k} {c} sound made = carries_out (λ b m w is. record {
  safe = λ on. subst (λ u. IsSafe u (begun m c w)) (sym made) (index_safe s (begun m c w) sound ((begun_in s k m c w is).crash_kept on).safe);
  replies = tt;
  next = tt;
})
