-- How a session ends whose disk failed for good.
use Rattle.std.proofs.Common.{◌≡◌, ◌≢◌, ◌⊎◌, ◌∙◌, inl, inr, ℕ, List, [], ◌∷◌, Option, Some, None, Result, Ok, Err, refl, sym, subst}
use Rattle.std.specs.Io.KnownBytes.{Appends}
use Rattle.std.specs.Prelude.{IfOk, IsErrOf, OnOk}
use Rattle.cache_base.specs.Causes.{HasCause, Rose}
use Rattle.cache_base.specs.declared.status.Status.{Status}
use Rattle.cache_base.specs.declared.status.Status.TheVariants as status
use Rattle.cache_store.specs.DoneFor.{IsDoneFor}
use Rattle.cache_store.specs.Faulting.{FailsForGood, SendsReplyFront}
use Rattle.cache_store.specs.Faults.{ending}
use Rattle.cache_store.specs.Open.{IsOpen}
use Rattle.cache_store.specs.Session.{Session, cache_of}
use Rattle.cache_store.specs.declared.fault.StoreFault.{StoreFault}
use Rattle.cache_store.specs.declared.fault.StoreFault.TheVariants as fault
use Rattle.cache_replies.specs.declared.verdict.Verdict.{Verdict}
use Rattle.cache_theory.specs.Command.{Command}
use Rattle.cache_theory.specs.Command.Command.{ClearOrigin, Evict, HasEntry, ListRecords, Resume, Verify}
use Rattle.cache_theory.specs.Machine.{Machine}
use Rattle.cache_theory.specs.Step.{step}
use Rattle.cache_theory.specs.Text.{IsSpoken}
use Rattle.cache_tool.specs.PutProgress.{HasNoFront}
use Rattle.cache_tool.specs.Statuses.{IsAnswer, IsClosing, status_in}
use Rattle.cache_tool.specs.Verbs.{StopsForGood}
use Rattle.cache_tool.specs.World.{Output}
use Rattle.cache_tool.proofs.OneCommand.{CameBy}
use Rattle.cache_tool.proofs.StatusLaws.{answer_closes}
use Rattle.disk_theory.specs.Account.{Ending}
use Rattle.disk_theory.specs.Calls.{Counts, LastCallFails, LastFails, LastLookFails}
use Rattle.file_handles.specs.Cache.{Cache}
use Rattle.file_handles.specs.Stands.{Represents as CacheRepresents}

-- the disk failed in the call
pub disk_of : {T : Type 0} (r : Result T StoreFault) → ending r ≡ Ending.OneFailed → r ≡ Err fault.Disk
disk_of (Ok value) failed = absurd (cc)
disk_of (Err fault.Disk) failed = refl
disk_of (Err fault.Memory) failed = absurd (cc)
disk_of (Err fault.Sink) failed = absurd (cc)

-- of a reply without bytes of a body nothing can be out
pub no_front : (counts : Counts) (c : Command) (before : Session) (taken now : Option (List ℕ)) → HasNoFront c → IsOpen before → FailsForGood counts c (cache_of before) taken now → LastFails counts
no_front counts c before taken now bare is (inl last) = last
no_front counts c before taken now bare is (inr sends) =
    let sent = sends is.0 is.1.stands in
    let both : ◌≡◌ {A = Option (List ℕ)} None (Some sent.front) = sym (bare (step is.0 c).reply) ∙ sent.is_front in
    absurd (cc)

-- where the last call failed so
pub stops_last : (m : Machine) (cs : List Command) (before now : Output) → LastFails now.disk_counts → StopsForGood m cs before now
stops_last m [] before now last = last
stops_last m (c ∷ []) before now last = inl last
stops_last m (c ∷ d ∷ cs) before now last = last

-- the commands failed so, or the closing did
pub ended_last : (P : Counts → Type 0) (came : Result Status StoreFault) (ended : Status) (mid now : Counts) → (LastFails now → P now) → IfOk came IsClosing → (IsClosing (status_in came) → ended ≡ status.Disk → LastFails now)
    → (¬ (IsClosing (status_in came)) → (ended ≡ status_in came) × (now ≡ mid)) → (ending came ≡ Ending.OneFailed → P mid) → ended ≡ status.Disk → P now
ended_last P (Ok s) ended mid now so closes closed dropped failed disk = so (closed closes disk)
ended_last P (Err fault.Sink) ended mid now so closes closed dropped failed disk = so (closed tt disk)
ended_last P (Err fault.Disk) ended mid now so closes closed dropped failed disk = subst P (sym (dropped (λ h. h)).1) (failed refl)
ended_last P (Err fault.Memory) ended mid now so closes closed dropped failed disk =
    absurd (let both : status.Memory ≡ status.Disk = sym (dropped (λ h. h)).0 ∙ disk in cc)

-- what a put comes to closes the store
pub only_came : (came : Result Status StoreFault) → IfOk came (λ s. IsAnswer s ⊎ (s ≡ status.Source)) → IfOk came IsClosing
only_came (Ok s) (inl answer) = answer_closes s answer
only_came (Ok s) (inr source) = subst IsClosing (sym source) tt
only_came (Err f) only = tt

-- the front of a reply is that to what is done for the command
pub front_done : (right : Type 0) (c : Command) (m : Machine) (d : Command) (taken now : Option (List ℕ)) → IsDoneFor right c m d → SendsReplyFront c m taken now → SendsReplyFront d m taken now
front_done right (Evict kb) m d taken now is sent = absurd (let e : ◌≡◌ {A = Option (List ℕ)} None (Some sent.front) = sent.is_front in cc)
front_done right (ClearOrigin origin) m d taken now is sent = absurd (let e : ◌≡◌ {A = Option (List ℕ)} None (Some sent.front) = sent.is_front in cc)
front_done right Verify m d taken now is sent = absurd (let e : ◌≡◌ {A = Option (List ℕ)} None (Some sent.front) = sent.is_front in cc)
front_done right ListRecords m d taken now is sent = absurd (let e : ◌≡◌ {A = Option (List ℕ)} None (Some sent.front) = sent.is_front in cc)
front_done right (HasEntry key) m d taken now is sent = absurd (let e : ◌≡◌ {A = Option (List ℕ)} None (Some sent.front) = sent.is_front in cc)
front_done right Resume m d taken now is sent = absurd (let e : ◌≡◌ {A = Option (List ℕ)} None (Some sent.front) = sent.is_front in cc)
front_done right c m d taken now is sent = subst (λ x. SendsReplyFront x m taken now) (sym is) sent

-- what failed for good is what is done for the command
pub stops_for_good : (right : Type 0) (c : Command) (m : Machine) (d : Command) → IsDoneFor right c m d → (counts : Counts) (taken now : Option (List ℕ)) (at : Cache) → CacheRepresents at m
    → LastCallFails counts → FailsForGood counts c at taken now → LastFails counts ⊎ (LastLookFails counts × SendsReplyFront d m taken now)
stops_for_good right c m d is counts taken now at stands call (inl last) = inl last
stops_for_good right c m d is counts taken now at stands (inl last) (inr sends) = inl last
stops_for_good right c m d is counts taken now at stands (inr look) (inr sends) = inr (look, front_done right c m d taken now is (sends m stands))

pub no_resume : (c : Command) → IsSpoken c → c ≢ Resume
no_resume c spoken is = subst IsSpoken is spoken

-- a store whose command failed by the disk is not closed
pub disk_drops : (answer : Result Verdict StoreFault) (came : Result Status StoreFault) → CameBy answer came → answer ≡ Err fault.Disk → ¬ (IsClosing (status_in came))
disk_drops (Ok o) came by failed closing = let both : ◌≡◌ {A = Result Verdict StoreFault} (Ok o) (Err fault.Disk) = failed in absurd (cc)
disk_drops (Err fault.Disk) came by failed closing = subst (λ x. IsClosing (status_in x)) by closing
disk_drops (Err fault.Memory) came by failed closing = let both : ◌≡◌ {A = Result Verdict StoreFault} (Err fault.Memory) (Err fault.Disk) = failed in absurd (cc)
disk_drops (Err fault.Sink) came by failed closing = let both : ◌≡◌ {A = Result Verdict StoreFault} (Err fault.Sink) (Err fault.Disk) = failed in absurd (cc)

-- the line was said whole, or the sink failed, unless memory ran out
pub line_said : {T : Type 0} (said : Result T StoreFault) (came : Result Status StoreFault) (before now : Option (List ℕ)) (line : List ℕ) (a b : ℕ) → OnOk said (Appends before now line)
    → said ≢ Err fault.Disk → HasCause (IsErrOf said fault.Sink) a b → (said ≡ Err fault.Memory → came ≡ Err fault.Memory) → came ≢ Err fault.Memory → Appends before now line ⊎ Rose a b
line_said (Ok value) came before now line a b printed no_disk cause memory other = inl printed
line_said (Err fault.Sink) came before now line a b printed no_disk cause memory other = inr (cause.rose refl)
line_said (Err fault.Disk) came before now line a b printed no_disk cause memory other = absurd (no_disk refl)
line_said (Err fault.Memory) came before now line a b printed no_disk cause memory other = absurd (other (memory refl))
