-- How the disk fails before any command, where the store did not open or a clearing was not resumed.
use Rattle.std.proofs.Common.{◌≡◌, ◌≤◌, ◌+◌, ◌⊎◌, inl, inr, None, ap, arith, subst, sym, ◌∙◌}
use Rattle.cache_store.specs.IndexCalls.{LooksOnceAt}
use Rattle.cache_store.specs.Open.{FailsInOpening, IsBehindOpening, opening_behind}
use Rattle.cache_store.proofs.Sessions.BehindOpening.{look_behind}
use Rattle.cache_tool.specs.Beginning.{FailsBeforeCommands}
use Rattle.disk_theory.specs.Calls.{Counts, LastFails}
use Rattle.disk_theory.specs.State.{State, standing}
use Rattle.disk_theory.specs.declared.disk.Disk.{Ghosts}
use Rattle.disk_theory.specs.declared.place.Place.TheVariants.{Clear}

-- the store did not open
pub unopened_before : (s t : State) (before now : Counts) → now.syncs ≤ before.syncs + 1 → FailsInOpening s t before now → FailsBeforeCommands s t before now
unopened_before s t before now one fails = elim fails [
  | inl stops ↦ inl stops
  | inr (inl none) ↦ inr (inl none)
  | inr (inr at) ↦ inr (inr (record { mark = at.mark; calls = λ none. (one, let few = at.calls in omega (arith, few)) }))
]

-- it did, and then a look failed, or a change or a sync
pub unresumed_before : {Self : _} (D : Ghosts Self) (s : State) (before : Counts) (first now : Self) → (D.counts first).syncs ≤ before.syncs + 1 → IsBehindOpening s (D.state first) (D.counts first)
    → (standing (D.state first) Clear ≡ None → LooksOnceAt D Clear first now) → (D.state now ≡ D.state first) ⊎ LastFails (D.counts now)
    → FailsBeforeCommands s (D.state now) before (D.counts now)
unresumed_before D s before first now one at once looks = elim looks [
  | inl same ↦ inr (inr (record {
    mark = ap (λ u. standing u Clear) same ∙ at.mark;
    calls = λ none.
        let (answer, is) = (once (at.mark ∙ none)).1 in
        (subst (λ (c : Counts). c.syncs ≤ before.syncs + 1) (sym is) one, look_behind answer (D.counts first) (D.counts now) is (opening_behind s) at.calls);
  }))
  | inr stops ↦ inl stops
]
