-- The changes of an opening, one after the other.
use Rattle.std.proofs.Common.{◌≡◌, ℕ, Bool, List, false, true, if◌then◌else◌, is_some, ◌||◌, OnOk, Option, None, Some, Result, Ok, Err, refl, ap, subst, sym, ◌∙◌, arith}
use Rattle.disk_theory.specs.Calls.{Counts, HoldsPart, IsBehindSync, counted_change, counted_sync, if_done}
use Rattle.disk_theory.specs.State.{State, settled, standing}
use Rattle.disk_theory.specs.declared.disk.DiskFault.{DiskFault}
use Rattle.disk_theory.specs.declared.disk.DiskFault.TheVariants.{Failed, Memory}
use Rattle.disk_theory.specs.declared.place.Place.TheVariants.{Tmp}
use Rattle.index_theory.specs.declared.kinds.IndexKind.{IndexKind}
use Rattle.index_theory.specs.IndexKind.{index_kind}
use Rattle.index_theory.specs.declared.kinds.IndexKind.TheVariants.{Missing as NoIndex, Invalid as BadIndex, Dirty, Clean}
use Rattle.index_theory.proofs.FlagLaws.{long_index}
use Rattle.index_theory.proofs.StartLaws.{clean_parts}
use Rattle.startup_read.specs.Opening.{IsAmidOpening, calls_behind, cleared, marked, set_aside}
use Rattle.startup_read.specs.Opening.OpeningMoment.{Cleared, Synced}
use Rattle.startup_read.specs.Starts.{IsSeen, is_clean}

pub clean_is : (k : IndexKind) → is_clean k ≡ true → k ≡ Clean
clean_is NoIndex e = absurd (cc)
clean_is BadIndex e = absurd (cc)
clean_is Dirty e = absurd (cc)
clean_is Clean e = refl

-- a clean index has room for its flag
pub clean_holds : (file : Option (List ℕ)) (n : ℕ) → n ≡ 4 → is_clean (index_kind file) ≡ true → HoldsPart file 8 n
clean_holds None n four e = absurd (cc)
clean_holds (Some c) n four e =
    let long = long_index c (clean_parts c (clean_is (index_kind (Some c)) e)).0 in
    omega (arith, long, four)

-- whatever the last call answered
pub amid_end : {T : Type 0} (r : Result T DiskFault) (s a b c d : State) → a ≡ set_aside s → b ≡ marked a → c ≡ settled b → d ≡ if_done r (cleared c) c
    → IsAmidOpening s d
amid_end r s a b c d one two three four = go r four
  where
    synced : c ≡ settled (marked (set_aside s))
    synced = three ∙ ap settled (two ∙ ap marked one)

    go : {T : Type 0} (r : Result T DiskFault) → d ≡ if_done r (cleared c) c → IsAmidOpening s d
    go (Ok value) e = (Cleared, e ∙ ap cleared synced)
    go (Err Failed) e = (Cleared, e ∙ ap cleared synced)
    go (Err Memory) e = (Synced, e ∙ synced)

-- one call at the most follows the sync
pub behind_end : {T U : Type 0} (q : Result T DiskFault) (r : Result U DiskFault) (tmp : Bool) (before synced now : Counts)
    → synced ≡ counted_sync q before → now ≡ (if tmp then counted_change r synced else synced)
    → IsBehindSync (if tmp then 1 else 0) now
behind_end q r tmp before synced now is_synced is_now =
    subst (IsBehindSync (if tmp then 1 else 0)) (sym (is_now ∙ ap (λ (c : Counts). if tmp then counted_change r c else c) is_synced)) (go r tmp)
  where
    go : {U : Type 0} (r : Result U DiskFault) (tmp : Bool)
        → IsBehindSync (if tmp then 1 else 0) (if tmp then counted_change r (counted_sync q before) else counted_sync q before)
    go r false = omega arith
    go (Ok value) true = omega arith
    go (Err Failed) true = omega arith
    go (Err Memory) true = omega arith

-- by what decides on the changes
pub seen_behind : (s : State) (clean log tmp stands : Bool) → IsSeen s clean log tmp → stands ≡ (tmp || log) → (if stands then 1 else 0) ≡ calls_behind s
seen_behind s clean log tmp stands seen is =
    ap (λ (b : Bool). if b then 1 else 0) (is ∙ ap (λ (b : Bool). b || log) seen.has_tmp ∙ ap (λ (b : Bool). is_some (standing s Tmp) || b) seen.has_log)

pub on_ok : {T E : Type 0} (r : Result T E) {P : Type 0} → P → OnOk r P
on_ok (Ok value) p = p
on_ok (Err e) p = tt
