-- What some commands say by the records in memory, and where these come to be right.
use Rattle.std.proofs.Common.{◌≡◌, inl, inr, ℕ, List, [], ◌∷◌, ◌++◌, true, IsTrue, refl, sym, subst, ◌∙◌, true≢false}
use Rattle.std.proofs.lemmas.Bool.{or_cases}
use Rattle.std.proofs.lemmas.List.Folds.{list_any-append}
use Rattle.cache_store.specs.Faulting.{StaysAs}
use Rattle.cache_store.specs.InUse.{HoldsBase, IsSameIndex}
use Rattle.cache_store.specs.Open.{IsOpen, KeepsTo, Opens, StartsOn, Tells}
use Rattle.cache_store.specs.Performing.{ComesToTell}
use Rattle.cache_store.specs.Session.{Session}
use Rattle.cache_store.proofs.Performing.PerformWhole.{begun_stands}
use Rattle.cache_store.proofs.Records.SameIndex.{is_same, same_then}
use Rattle.cache_store.proofs.Performing.Represented.{keeps_marked, keeps_to, represents}
use Rattle.cache_theory.specs.Command.{Command}
use Rattle.cache_theory.specs.Command.Command.{Rebuild}
use Rattle.cache_theory.specs.Crash.{IsSafe}
use Rattle.cache_theory.specs.History.{History, acked, begun, unanswered}
use Rattle.cache_theory.specs.Machine.{Machine}
use Rattle.cache_theory.specs.Step.{after}
use Rattle.cache_tool.proofs.Dated.{none_dated, one_dated, dated_on}
use Rattle.cache_tool.specs.Dated.{AreDatedBy}
use Rattle.cache_tool.specs.Right.{AreRight, ComesRight, LeadTo, has_rebuild, is_rebuild}
use Rattle.cache_tool.specs.Staying.{AreSpared, IsInUse, StaysOnce, StaysOverAll}
use Rattle.cache_tool.proofs.StayingLaws.{both_in_use, none_in_use, same_in_use, spared_split, stays_split}
use Rattle.disk_theory.specs.State.{State}
use Rattle.index_map.specs.Known.{SameBase}
use Rattle.index_record.specs.declared.record.IndexRecord.{IndexRecord}
use Rattle.index_theory.specs.Honest.{LeavesHonest}
use Rattle.index_theory.proofs.UncleanLaws.{unclean_leaves_honest}

-- a store that is open leaves no image whose index is trusted
pub open_leaves_honest : (now : Session) → IsOpen now → LeavesHonest now.disk
open_leaves_honest now open_still = unclean_leaves_honest now.disk open_still.1.matches.holds.unclean

-- ---- where the records come to be right

rebuild_is : (c : Command) → IsTrue (has_rebuild (c ∷ [])) → c ≡ Rebuild
rebuild_is Rebuild is = refl
rebuild_is c is = absurd (true≢false (sym is))

pub one_is_right : (c : Command) (before : Session) (m : Machine) → AreRight (c ∷ []) before m → ComesToTell c before m
one_is_right c before m (inl told) = inl told
one_is_right c before m (inr rebuilt) = inr (rebuild_is c rebuilt)

-- no command
pub leads_none : (now : Session) (h : History) → KeepsTo now h → LeadTo [] now h.machine now h
leads_none now h keeps = record { keeps = keeps; tells = tells; in_use = λ records told holds over. none_in_use records now holds; unended = λ spared. is_same now.disk now.disk refl; dated = none_dated h.machine now.disk }
  where
    tells : AreRight [] now h.machine → Tells now h.machine
    tells (inl told) = told
    tells (inr none) = absurd (true≢false (sym none))

-- one
pub leads_one : (c : Command) (before : Session) (m : Machine) (now : Session) (h : History) → KeepsTo now h → (ComesToTell c before m → Tells now h.machine) → StaysOnce c before m now
    → LeadTo (c ∷ []) before m now h
leads_one c before m now h keeps tells stays = record {
  keeps = keeps;
  tells = λ right. tells (one_is_right c before m right);
  in_use = λ records told holds over. stays.in_use records told holds over.0;
  unended = λ spared. stays.unended spared.0;
  dated = one_dated m c before.disk now.disk stays.dated;
}

-- one that is acknowledged has begun for whoever saw no reply
pub leads_begun : (c : Command) (h : History) (before now : Session) → KeepsTo before h → IsSafe now.disk (begun c h).marks → LeadTo (c ∷ []) before h.machine now (acked c h)
    → LeadTo (c ∷ []) before h.machine now (unanswered c h)
leads_begun c h before now keeps safe leads = record {
  keeps = begun_stands c h before now keeps safe leads.keeps;
  tells = leads.tells;
  in_use = leads.in_use;
  unended = leads.unended;
  dated = leads.dated;
}

-- some, and then more
pub leads_on : (cs ds : List Command) (before : Session) (m : Machine) (mid : Session) (g : History) (now : Session) (h : History) → g.machine ≡ after m cs → LeadTo cs before m mid g → LeadTo ds mid g.machine now h
    → LeadTo (cs ++ ds) before m now h
leads_on cs ds before m mid g now h same first second = record { keeps = second.keeps; tells = tells; in_use = in_use; unended = unended; dated = dated_on m g.machine cs ds before.disk mid.disk now.disk same first.dated second.dated }
  where
    in_use : (records : List IndexRecord) → Tells before m → HoldsBase records before.open_store.index.map → StaysOverAll records m (cs ++ ds) → IsInUse records before now
    in_use records told holds over =
        let parts = stays_split records m cs ds over in
        let here = first.in_use records told holds parts.0 in
        both_in_use records before mid now here (second.in_use records (first.tells (inl told)) here.base (subst (λ x. StaysOverAll records x ds) (sym same) parts.1))

    unended : AreSpared m (cs ++ ds) → IsSameIndex before.disk now.disk
    unended spared =
        let parts = spared_split m cs ds spared in
        same_then before.disk mid.disk now.disk (first.unended parts.0) (second.unended (subst (λ x. AreSpared x ds) (sym same) parts.1))

    tells : AreRight (cs ++ ds) before m → Tells now h.machine
    tells (inl told) = second.tells (inl (first.tells (inl told)))
    tells (inr rebuilt) = elim (or_cases (has_rebuild cs) (has_rebuild ds) (sym (list_any-append is_rebuild cs ds) ∙ rebuilt)) [
      | inl here ↦ second.tells (inl (first.tells (inr here)))
      | inr later ↦ second.tells (inr later)
    ]

-- where all is as it was they lead to the same
pub leads_still : (cs : List Command) (before : Session) (m : Machine) (mid now : Session) (h : History) → LeadTo cs before m mid h → StaysAs mid now → SameBase mid.open_store.index.map now.open_store.index.map
    → LeadTo cs before m now h
leads_still cs before m mid now h leads stays base = record {
  keeps = keeps_to (stays.keeps true h (keeps_marked leads.keeps));
  tells = λ right. stays.tells h.machine (represents leads.keeps) (leads.tells right);
  in_use = λ records told holds over.
      let here = leads.in_use records told holds over in
      both_in_use records before mid now here (same_in_use records mid now base stays.disk here.base);
  unended = λ spared. subst (IsSameIndex before.disk) (sym stays.disk) (leads.unended spared);
  dated = subst (AreDatedBy m cs before.disk) (sym stays.disk) leads.dated;
}

-- ---- after an opening

module _ {moment : ℕ} {s : State} {now : Session} {m : Machine} (opens : Opens moment s now) (is : StartsOn moment s m) (cs : List Command) where
  -- the records are right where the directory was honest
  pub opened_right : ComesRight s cs → AreRight cs now m
  opened_right (inl honest) = inl (opens.tells m is honest)
  opened_right (inr rebuilt) = inr rebuilt
