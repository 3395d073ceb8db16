-- Of the statuses of an answer, and of those with which the store was closed.
use Rattle.std.proofs.Common.{◌≡◌, ◌≢◌, ◌⊎◌, inl, inr, sym, subst}
use Rattle.cache_base.specs.declared.status.Status.{Status}
use Rattle.cache_base.specs.declared.status.Status.TheVariants as status
use Rattle.cache_tool.specs.Statuses.{IsAnswer, IsClosing}

pub answer_closes : (s : Status) → IsAnswer s → IsClosing s
answer_closes s (inl e) = subst IsClosing (sym e) tt
answer_closes s (inr e) = subst IsClosing (sym e) tt

pub no_answer : (s : Status) → s ≢ status.Done → s ≢ status.No → ¬ (IsAnswer s)
no_answer s not_done not_no (inl e) = not_done e
no_answer s not_done not_no (inr e) = not_no e

pub closes_or_not : (s : Status) → IsClosing s ⊎ (¬ (IsClosing s))
closes_or_not status.Done = inl tt
closes_or_not status.No = inl tt
closes_or_not status.Script = inl tt
closes_or_not status.Source = inl tt
closes_or_not status.Sink = inl tt
closes_or_not status.Disk = inr (λ h. h)
closes_or_not status.Memory = inr (λ h. h)
closes_or_not status.Words = inr (λ h. h)

-- a session ends as its commands did, unless the disk failed or memory ran out in the closing
abbrev pub EndsAs : Status → Status → Type 0
EndsAs ended came = (ended ≡ came) ⊎ ((ended ≡ status.Disk) ⊎ (ended ≡ status.Memory))

-- a status with which the store was closed is that of the commands
pub closing_same : (ended came : Status) → EndsAs ended came → IsClosing ended → ended ≡ came
closing_same ended came (inl same) closing = same
closing_same ended came (inr (inl disk)) closing = absurd (subst IsClosing disk closing)
closing_same ended came (inr (inr memory)) closing = absurd (subst IsClosing memory closing)
