-- The line `fault`, whole or cut.
use Rattle.std.proofs.Common.{◌≡◌, [], ◌∷◌, List, ℕ, Result, OnErr, refl, sym, subst}
use Rattle.std.specs.Io.KnownBytes.{Appends}
use Rattle.std.specs.Prelude.{Option, codes}
use Rattle.cache_replies.specs.Said.{IsCut, Saying}
use Rattle.cache_replies.specs.Saying.{CutsAll, CutsIn, SaysMore, SendsAll}
use Rattle.cache_store.specs.declared.fault.StoreFault.{StoreFault}
use Rattle.cache_replies.proofs.SaidMore.{when_err}
use Rattle.cache_replies.proofs.SayingLaws.{said_nothing}
use Rattle.cache_theory.specs.Faulted.{fault_line}
use Rattle.cache_theory.specs.Text.{line}

pub fault_bytes : fault_line ≡ line (codes "fault" ∷ [])
unfolding fault_line
fault_bytes = refl

-- a part of it went out
pub fault_cut : {T : Type 0} (r : Result T StoreFault) (was : Saying) → was.held ≡ [] → (now : Option (List ℕ)) → CutsIn was now (line (codes "fault" ∷ [])) → OnErr r (IsCut was.taken now fault_line)
fault_cut r was none now cut = when_err r _ (subst (IsCut was.taken now) (sym fault_bytes) (cut was.taken [] (said_nothing was none)))

pub fault_cut_all : {T : Type 0} (r : Result T StoreFault) (was : Saying) → was.held ≡ [] → (mid : Saying) (now : Option (List ℕ)) → SaysMore was mid (line (codes "fault" ∷ [])) → CutsAll mid now
    → OnErr r (IsCut was.taken now fault_line)
fault_cut_all r was none mid now says cut =
    when_err r _ (subst (IsCut was.taken now) (sym fault_bytes) (cut was.taken (line (codes "fault" ∷ [])) (says was.taken [] (said_nothing was none))))

-- all of it did
pub fault_sent : (was : Saying) → was.held ≡ [] → (mid : Saying) (now : Option (List ℕ)) → SaysMore was mid (line (codes "fault" ∷ [])) → SendsAll mid now → Appends was.taken now fault_line
fault_sent was none mid now says sends = subst (Appends was.taken now) (sym fault_bytes) (sends was.taken (line (codes "fault" ∷ [])) (says was.taken [] (said_nothing was none)))
