-- What a stop in a run of a script may bring back of an origin that was cleared.
use Rattle.std.proofs.Common.{◌≤◌, ◌+◌, ℕ, zero, suc, Bool, true, false, List, [], ◌∷◌, cond, length, take, subst, arith}
use Rattle.std.specs.List.{AllByRecursion}
use Rattle.std.specs.Prelude.{min}
use Rattle.cache_theory.specs.Command.{Command}
use Rattle.cache_theory.specs.Crash.{IsLeft}
use Rattle.cache_theory.specs.Faulted.{is_faulted, unfaulted_from}
use Rattle.cache_theory.specs.Given.{IsGiven}
use Rattle.cache_theory.proofs.Clears.ClearedGone.{cleared_stay_gone}
use Rattle.cache_tool.specs.SameAsScript.{ClearedStayGoneInRun, acked_in, begun_in}
use Rattle.cache_tool.proofs.SameLaws.{run_is_of_script}

-- ---- commands without some of them

all_by : (P : Command → Type 0) (left_out : Bool) (c : Command) (cs : List Command) → P c → AllByRecursion P cs → AllByRecursion P (cond left_out cs (c ∷ cs))
all_by P true c cs one all = all
all_by P false c cs one all = (one, all)

pub all_kept : (P : Command → Type 0) (faults : List ℕ) (n b : ℕ) (cs : List Command) → AllByRecursion P cs → AllByRecursion P (unfaulted_from n faults (take b cs))
all_kept P faults n zero cs all = tt
all_kept P faults n (suc b) [] all = tt
all_kept P faults n (suc b) (c ∷ cs) all = all_by P (is_faulted faults n) c (unfaulted_from (suc n) faults (take b cs)) all.0 (all_kept P faults (suc n) b cs all.1)

more_by : (left_out : Bool) (c : Command) (cs ds : List Command) → length cs ≤ length ds → length (cond left_out cs (c ∷ cs)) ≤ length (cond left_out ds (c ∷ ds))
more_by true c cs ds more = more
more_by false c cs ds more = omega (arith, more)

-- more commands, and no fewer are kept
pub more_kept : (faults : List ℕ) (n a b : ℕ) (cs : List Command) → min a (length cs) ≤ b → length (unfaulted_from n faults (take a cs)) ≤ length (unfaulted_from n faults (take b cs))
more_kept faults n zero b cs within = omega arith
more_kept faults n (suc a) b [] within = none b
  where
    none : (b : ℕ) → 0 ≤ length (unfaulted_from n faults (take b []))
    none b = omega arith
more_kept faults n (suc a) zero (c ∷ cs) within = absurd (omega (arith, within))
more_kept faults n (suc a) (suc b) (c ∷ cs) within =
    more_by (is_faulted faults n) c (unfaulted_from (suc n) faults (take a cs)) (unfaulted_from (suc n) faults (take b cs)) (more_kept faults (suc n) a b cs (omega (arith, within)))

-- ---- the law

pub cleared_stay_gone_in_run : ClearedStayGoneInRun
cleared_stay_gone_in_run m d bytes cs ended before now proper given honest quiet resumed run origin at clears key v back covered =
    let begun : List Command = begun_in cs run.with_last run.acked in
    let a : ℕ = acked_in cs run.with_last run.acked in
    let same = (run_is_of_script before.disk m d cs run.done run.with_last honest resumed run.as_many run.are_done ended run.acked).marks in
    cleared_stay_gone m begun a (length begun) at origin
    (record {
      proper = proper;
      given = (tt, all_kept IsGiven run.with_last 1 (min (run.acked + 1) (length cs)) cs given);
      acknowledged = let more = more_kept run.with_last 1 run.acked (min (run.acked + 1) (length cs)) cs (omega arith) in omega (arith, more);
      begun = omega arith;
    })
    clears now.disk back.image key v
    (record { left = subst (λ w. IsLeft now.disk w back.image) same (run.leaves.crash quiet back.image back.is_image); found = back.found; no_chance = back.no_chance }) covered
