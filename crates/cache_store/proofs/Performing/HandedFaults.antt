-- Faults that are handed on, and what is out before a failure of the disk.
use Rattle.std.proofs.Common.{◌≡◌, ◌++◌, ◌∙◌, ℕ, List, Result, Ok, Err, IsErrAnd, subst, sym, ap, append_assoc}
use Rattle.std.specs.Io.KnownBytes.{Appends}
use Rattle.cache_io.specs.declared.sink.SinkFault.{SinkFault}
use Rattle.cache_io.specs.declared.sink.SinkFault.TheVariants as sink_faults
use Rattle.cache_store.specs.Faults.{of_sink}
use Rattle.cache_store.specs.declared.fault.StoreFault.{StoreFault}
use Rattle.cache_store.specs.declared.fault.StoreFault.TheVariants as fault
use Rattle.std.specs.declared.option.Option.{Option}
use Rattle.cache_replies.specs.Said.{Saying}
use Rattle.cache_replies.specs.Saying.{SaysMore, SendsFront}

-- a fault of the sink is none of the disk
pub sink_not_disk : {T : Type 0} (r : Result T StoreFault) (f : SinkFault) → IsErrAnd r (λ e. e ≡ of_sink f) → r ≡ Err fault.Disk → ⊥
sink_not_disk (Ok x) f is failed = is
sink_not_disk {T = T} (Err e) f is failed = go f (let both : ◌≡◌ {A = Result T StoreFault} (Err e) (Err fault.Disk) = failed in let one : e ≡ fault.Disk = cc in sym is ∙ one)
  where
    go : (f : SinkFault) → of_sink f ≡ fault.Disk → ⊥
    go sink_faults.Failed e = cc
    go sink_faults.Memory e = cc

-- the answer that is handed on is the one that failed
pub handed_disk : {T X : Type 0} (r : Result T StoreFault) (e : StoreFault) (call : Result X StoreFault) → IsErrAnd r (λ f. f ≡ e) → call ≡ Err e → r ≡ Err fault.Disk → call ≡ Err fault.Disk
handed_disk (Ok x) e call is was failed = absurd is
handed_disk {T = T} (Err d) e call is was failed =
    let both : ◌≡◌ {A = Result T StoreFault} (Err d) (Err fault.Disk) = failed in
    let one : d ≡ fault.Disk = cc in
    was ∙ ap (λ f. Err f) (sym is ∙ one)

-- with what was said before
pub front_then : (a b : Saying) (now : Option (List ℕ)) (first second : List ℕ) → SaysMore a b first → SendsFront b now second → SendsFront a now (first ++ second)
front_then a b now first second says out before text said =
    let sent = out before (text ++ first) (says before text said) in
    (sent.0, subst (Appends before now) (ap (λ t. t ++ sent.0) (append_assoc text first second)) sent.1)
