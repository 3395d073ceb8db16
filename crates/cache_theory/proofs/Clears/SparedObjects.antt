-- An object in use that a clearing leaves undoomed is not covered.
use Rattle.std.proofs.Common.{◌≡◌, inl, inr, ℕ, suc, ◌<◌, ◌≤◌, List, [], ◌∷◌, length, true, false, cond, Some, None, refl, sym, ap, subst, ◌∙◌, arith}
use Rattle.std.specs.Prelude.{option_map, unwrap_or}
use Rattle.std.specs.Str.{bytes_eq}
use Rattle.std.proofs.lemmas.Bool.{cases_Bool}
use Rattle.cache_base.specs.declared.name.Name.{Name}
use Rattle.cache_theory.specs.Cleared.{WrittenAreSpared}
use Rattle.cache_theory.specs.Checks.{checks}
use Rattle.cache_theory.specs.Command.{Command}
use Rattle.cache_theory.specs.Command.Command.{ClearOrigin}
use Rattle.cache_theory.specs.Covers.{cleared, covers_object}
use Rattle.cache_theory.specs.Laws.{is_among}
use Rattle.cache_theory.specs.Machine.{Machine, Object, object}
use Rattle.cache_theory.specs.Proper.{IsInUse, IsProper}
use Rattle.cache_theory.specs.Step.{all_doomed, doomed_under, effect, step, unmarked, update_ended}
use Rattle.cache_theory.specs.Table.{get}
use Rattle.cache_theory.specs.Wording.{state_at}
use Rattle.cache_theory.proofs.Clears.ClearedNames.{object_among}
use Rattle.cache_theory.proofs.Clears.ClearedSessions.{proper_at}
use Rattle.cache_theory.proofs.ObjectLaws.Dooming.{doomed_here, doomed_there, proper_doomed_under}
use Rattle.cache_theory.proofs.Evictions.Evicting.{get_removed_or, off_either}
use Rattle.cache_theory.proofs.ObjectLaws.HeldAside.{used_or_not}
use Rattle.cache_theory.proofs.ObjectLaws.Objects.{nth_there}
use Rattle.cache_theory.proofs.Rested.{proper_all_doomed, proper_rested, proper_unmarked}
use Rattle.cache_theory.proofs.ObjectLaws.Slots.{has_slots_of}
use Rattle.cache_theory.proofs.ObjectLaws.SlotsBefore.{had_slot, written_has_slot}
use Rattle.cache_theory.proofs.ObjectLaws.Users.{undoomed_user}
use Rattle.cache_theory.proofs.Wording.Worded.{state_next}
use Rattle.entry_key.specs.Tags.{value_hash}
use Rattle.entry_name.specs.EntryName.{file_name}

-- no object is in use under the names that are doomed, and the others are as they were
users_without : (m : Machine) (names : List Name) (q : List ℕ) → get (all_doomed m names).in_use q ≡ cond (is_among q names) None (get m.in_use q)
users_without m [] q = refl
users_without m (n ∷ names) q =
    users_without (doomed_under m n.0) names q
    ∙ ap (λ o. cond (is_among q names) None o) (get_removed_or m.in_use n.0 q)
    ∙ off_either (bytes_eq q n.0) (is_among q names) (get m.in_use q)

-- an object that is undoomed afterwards is as it was
undoomed_same : (m : Machine) (names : List Name) (i : ℕ) → IsProper m → (object (all_doomed m names) i).doomed ≡ false
    → object (all_doomed m names) i ≡ object m i
undoomed_same m [] i proper un = refl
undoomed_same m (n ∷ names) i proper un =
    let next : Machine = doomed_under m n.0 in
    let later : object (all_doomed next names) i ≡ object next i = undoomed_same next names i (proper_doomed_under m n.0 proper) un in
    later ∙ elim (used_or_not (get m.in_use n.0) i) [
      | inl at ↦
          let never : true ≡ false = sym (ap (λ (o : Object). o.doomed) (later ∙ doomed_here m n.0 i proper at)) ∙ un in
          absurd (cc)
      | inr apart ↦ doomed_there m n.0 i apart
    ]

-- so it is right after a clearing
spared_object : (m : Machine) (origin : List ℕ) (i : ℕ) → IsProper m → IsInUse (step m (ClearOrigin origin)).next i
    → (object (step m (ClearOrigin origin)).next i).doomed ≡ false
    → covers_object (value_hash origin) (object (step m (ClearOrigin origin)).next i) ≡ false
unfolding checks effect
spared_object m origin i proper used un =
    let ended : Machine = update_ended (unmarked m) in
    let names : List Name = cleared m origin in
    let next : Machine = all_doomed ended names in
    let ended_proper : IsProper ended = proper_rested (unmarked m) [] (proper_unmarked m proper) in
    let name : List ℕ = file_name (object next i).version.key in
    let at : get next.in_use name ≡ Some i = undoomed_user next (proper_all_doomed ended names ended_proper) i used un in
    let same : object next i ≡ object m i = undoomed_same ended names i ended_proper un in
    let user = sym (users_without ended names name) ∙ at in
    elim (cases_Bool (is_among name names)) [
      | inl among ↦ let never : None ≡ Some i = sym (ap (λ b. cond b None (get m.in_use name)) among) ∙ user in absurd (cc)
      | inr other ↦ elim (cases_Bool (covers_object (value_hash origin) (object next i))) [
        | inr spared ↦ spared
        | inl covered ↦
            let was : get m.in_use name ≡ Some i = sym (ap (λ b. cond b None (get m.in_use name)) other) ∙ user in
            let among = object_among m origin name i was (sym (ap (covers_object (value_hash origin)) same) ∙ covered) in
            absurd (cc)
      ]
    ]

pub written_are_spared : WrittenAreSpared
written_are_spared m cs a b at origin session clearing name v w within =
    let c : Command = ClearOrigin origin in
    let before : Machine = state_at m cs at in
    let cleared_now : Machine = state_at m cs (suc at) in
    let i : ℕ = w.number in
    let next : cleared_now ≡ (step before c).next = state_next m cs at c clearing.clears in
    let below : w.at < b = w.before in
    let begun : b ≤ length cs = session.begun in
    let held = written_has_slot (state_at m cs w.at) w.command i (proper_at m cs w.at session.given session.proper) w.done.passes w.rewrites in
    let had = had_slot m cs (suc at) i session.given session.proper within w.at w.behind (omega (arith, below, begun)) held in
    let used : IsInUse cleared_now i = record { number = within; slots = has_slots_of cleared_now i had } in
    let un : (object cleared_now i).doomed ≡ false =
    sym (ap (λ o. unwrap_or (option_map (λ (x : Object). x.doomed) o) false) (nth_there cleared_now.objects i within)) ∙ w.undoomed in
    subst (λ (t : Machine). covers_object (value_hash origin) (object t i) ≡ false) (sym next)
    (spared_object before origin i (proper_at m cs at session.given session.proper)
    (subst (λ (t : Machine). IsInUse t i) next used)
    (sym (ap (λ (t : Machine). (object t i).doomed) next) ∙ un))
