-- An index that stays in use: over one command, over more, and over a session from its opening to its end.
use Rattle.std.proofs.Common.{◌≡◌, ◌≢◌, ℕ, List, [], ◌∷◌, ◌++◌, true, true≢false, refl, ap, inl, subst, sym, ◌∙◌}
use Rattle.std.specs.List.{list_any}
use Rattle.std.specs.Prelude.{Result}
use Rattle.std.specs.Str.{bytes_eq}
use Rattle.std.proofs.lemmas.Bool.{or_left}
use Rattle.std.proofs.lemmas.Slice.Eq.{bytes_eq-Decides}
use Rattle.cache_base.specs.declared.status.Status.{Status}
use Rattle.cache_store.specs.DoneFor.{IsDoneFor}
use Rattle.cache_store.specs.InUse.{ClosesInUse, HasJournalOf, HasShortJournal, HoldsBase, OpensInUse, SparesIndex, StaysInUse, StaysOver}
use Rattle.cache_store.specs.Open.{KeepsTo, Opens, Represents, StartsOn, Tells}
use Rattle.cache_store.specs.Performing.{HadEffect}
use Rattle.cache_store.specs.Session.{Session}
use Rattle.cache_store.specs.declared.fault.StoreFault.{StoreFault}
use Rattle.cache_store.proofs.Records.InUseLaws.{few_are_spared, few_stay_in_use}
use Rattle.cache_store.proofs.Records.SameIndex.{is_same, same_then}
use Rattle.cache_store.proofs.Performing.Represented.{represents}
use Rattle.cache_theory.specs.Command.{Command}
use Rattle.cache_theory.specs.Command.Command.{ClearOrigin, Evict, Flush, HasEntry, ListRecords, Rebuild, Resume, Verify}
use Rattle.cache_theory.specs.History.{History}
use Rattle.cache_theory.specs.Machine.{Machine}
use Rattle.cache_theory.specs.Checks.{checks}
use Rattle.cache_theory.specs.Step.{after, effect, step}
use Rattle.cache_theory.proofs.Waiting.{changes_leave_rest}
use Rattle.cache_tool.proofs.Dated.{written_done, written_where}
use Rattle.cache_tool.specs.Verbs.{KeepsIndex}
use Rattle.cache_tool.specs.Dated.{IsWrittenBy}
use Rattle.cache_tool.specs.Ending.{IsEnded}
use Rattle.cache_tool.specs.Right.{LeadTo}
use Rattle.cache_tool.specs.Statuses.{IsClosing}
use Rattle.cache_tool.specs.Staying.{AreSpared, EndsInUse, IsInUse, IsLeftUntrusted, IsSpared, StaysFor, StaysOnce, StaysOverAll}
use Rattle.disk_theory.specs.State.{State, standing}
use Rattle.disk_theory.specs.declared.place.Place.TheVariants.{Index, Log, Tmp}
use Rattle.index_map.specs.Known.{Known, SameBase}
use Rattle.index_record.specs.declared.record.IndexRecord.{IndexRecord}
use Rattle.index_theory.specs.Honest.{index_records}
use Rattle.index_theory.specs.Leaves.{LeavesIndex}
use Rattle.index_theory.specs.Scan.{scan}
use Rattle.index_theory.specs.Start.{start_of}
use Rattle.index_theory.specs.declared.kinds.Start.TheVariants.{Build}
use Rattle.index_update.specs.Rest.{name_bytes}
use Rattle.index_update.proofs.TellLaws.{bytes_end}

-- ---- over commands

-- over commands that are joined it stays over the first, and then over the others
pub stays_split : (records : List IndexRecord) (m : Machine) (cs ds : List Command) → StaysOverAll records m (cs ++ ds) → StaysOverAll records m cs × StaysOverAll records (after m cs) ds
stays_split records m [] ds over = (tt, over)
stays_split records m (c ∷ cs) ds over = let rest = stays_split records (step m c).next cs ds over.1 in ((over.0, rest.0), rest.1)

pub none_in_use : (records : List IndexRecord) (now : Session) → HoldsBase records now.open_store.index.map → IsInUse records now now
none_in_use records now holds = record { base = holds; same = is_same now.disk now.disk refl }

pub both_in_use : (records : List IndexRecord) (before mid now : Session) → IsInUse records before mid → IsInUse records mid now → IsInUse records before now
both_in_use records before mid now first second = record { base = second.base; same = same_then before.disk mid.disk now.disk first.same second.same }

-- ---- while the update has not ended

-- a list of which nothing is waited for any more has no name
none_waits : (old new : List (List ℕ)) → ((name : List ℕ) → list_any (bytes_eq name) new ≡ true → list_any (bytes_eq name) old ≡ true) → old ≡ [] → new ≡ []
none_waits old [] less none = refl
none_waits old (x ∷ xs) less none =
    let here : list_any (bytes_eq x) (x ∷ xs) ≡ true = or_left (bytes_eq x x) (list_any (bytes_eq x) xs) ((bytes_eq-Decides x x).1 refl) in
    absurd (true≢false (sym (less x here) ∙ ap (list_any (bytes_eq x)) none))

-- once it has ended it stays so
pub step_ended : (m : Machine) (c : Command) → m.rest ≡ [] → (step m c).next.rest ≡ []
step_ended m c = none_waits m.rest (step m c).next.rest (λ name waits. (changes_leave_rest m c name waits).waited)

after_ended : (m : Machine) (cs : List Command) → m.rest ≡ [] → (after m cs).rest ≡ []
after_ended m [] ended = ended
after_ended m (c ∷ cs) ended = after_ended (step m c).next cs (step_ended m c ended)

one_spared : (m : Machine) (c : Command) → (step m c).next.rest ≢ [] → IsSpared m c
unfolding checks effect
one_spared m Flush rest = λ ended. rest (step_ended m Flush ended)
one_spared m Rebuild rest = rest refl
one_spared m c rest = tt

pub are_spared : (m : Machine) (cs : List Command) → (after m cs).rest ≢ [] → AreSpared m cs
are_spared m [] rest = tt
are_spared m (c ∷ cs) rest = (one_spared m c (λ ended. rest (after_ended (step m c).next cs ended)), are_spared (step m c).next cs rest)

pub spared_split : (m : Machine) (cs ds : List Command) → AreSpared m (cs ++ ds) → AreSpared m cs × AreSpared (after m cs) ds
spared_split m [] ds spared = (tt, spared)
spared_split m (c ∷ cs) ds spared = let rest = spared_split (step m c).next cs ds spared.1 in ((spared.0, rest.0), rest.1)

-- so the command does not write the index
spares_unended : (before : Session) (m : Machine) (c : Command) → Represents before m → IsSpared m c → SparesIndex c before.open_store.index
spares_unended before m Flush stands spared = λ ended. absurd (spared (stands.matches.rest ∙ ap name_bytes ended))
spares_unended before m Rebuild stands spared = spared
spares_unended before m c stands spared = tt

-- ---- over one command

-- another map with the same base
holds_as : (records : List IndexRecord) {old new : Known} → SameBase old new → HoldsBase records old → HoldsBase records new
holds_as records base holds = record { has_base = base.has_base ∙ holds.has_base; same = λ name. base.records name ∙ holds.same name }

-- it leaves the files of the index and the base in memory as they are
pub stays_for : {T : Type 0} (c : Command) (answer : Result T StoreFault) (before now : Session) → (SparesIndex c before.open_store.index → LeavesIndex before.disk now.disk)
    → (SparesIndex c before.open_store.index → HadEffect answer → SameBase before.open_store.index.map now.open_store.index.map)
    → (HadEffect answer → IsWrittenBy c (before.open_store.index.update ≡ []) before.open_store.moment before.disk now.disk) → StaysFor c answer before now
stays_for c answer before now leaves same dated = λ m stands had. record {
  in_use = λ records told holds over.
      let spares = few_are_spared records before m c stands told holds over in
      record { base = holds_as records (same spares had) holds; same = is_same before.disk now.disk ((leaves spares).stands Index tt) };
  unended = λ spared. is_same before.disk now.disk ((leaves (spares_unended before m c stands spared)).stands Index tt);
  dated = subst (λ n. IsWrittenBy c (m.rest ≡ []) n before.disk now.disk) (sym stands.matches.moment)
      (written_where c before.open_store.moment before.disk now.disk (λ none. stands.matches.rest ∙ ap name_bytes none) (dated had));
}

-- and so it does where all is as it was
pub same_in_use : (records : List IndexRecord) (before now : Session) → SameBase before.open_store.index.map now.open_store.index.map → now.disk ≡ before.disk → HoldsBase records before.open_store.index.map
    → IsInUse records before now
same_in_use records before now base same holds = record {
  base = holds_as records base holds;
  same = is_same before.disk now.disk (ap (λ s. standing s Index) same);
}

-- and so it is of what is done for it
stays_over : (right : Type 0) (records : List IndexRecord) (c : Command) (m : Machine) (d : Command) → IsDoneFor right c m d → StaysOver records m d → StaysOver records m c
stays_over right records (Evict kb) m d is over = tt
stays_over right records (ClearOrigin origin) m d is over = tt
stays_over right records Verify m d is over = tt
stays_over right records ListRecords m d is over = tt
stays_over right records (HasEntry key) m d is over = tt
stays_over right records Resume m d is over = tt
stays_over right records c m d is over = subst (StaysOver records m) is over

spared_over : (right : Type 0) (c : Command) (m : Machine) (d : Command) → IsDoneFor right c m d → IsSpared m d → IsSpared m c
spared_over right (Evict kb) m d is spared = tt
spared_over right (ClearOrigin origin) m d is spared = tt
spared_over right Verify m d is spared = tt
spared_over right ListRecords m d is spared = tt
spared_over right (HasEntry key) m d is spared = tt
spared_over right Resume m d is spared = tt
spared_over right c m d is spared = subst (IsSpared m) is spared

pub stays_done : (right : Type 0) (c : Command) (before : Session) (m : Machine) (now : Session) (d : Command) → IsDoneFor right c m d → StaysOnce c before m now → StaysOnce d before m now
stays_done right c before m now d is stays = record {
  in_use = λ records told holds over. stays.in_use records told holds (stays_over right records c m d is over);
  unended = λ spared. stays.unended (spared_over right c m d is spared);
  dated = written_done (m.rest ≡ []) right c m d m.moment before.disk now.disk is stays.dated;
}

-- ---- at the end of a session

-- where it has not ended the update has names to read still
pub rest_left : (before : Session) (h : History) → KeepsTo before h → h.machine.rest ≢ [] → before.open_store.index.update ≢ []
rest_left before h keeps rest = λ none. rest (keeps.matches.rest ∙ ap name_bytes none)

module _ (before : Session) (t : State) (h : History) (keeps : KeepsTo before h) (closes : ClosesInUse before.open_store.index before.disk t) where
  pub ends_short : h.machine.rest ≡ [] → HasShortJournal (standing t)
  ends_short ended = closes.short ((bytes_end before.open_store.index.update).0 (sym keeps.matches.rest ∙ ended))

  pub ends_in_use : (records : List IndexRecord) → Tells before h.machine → HoldsBase records before.open_store.index.map → EndsInUse records h.machine
      → StaysInUse records (scan h.machine.shelf) before.disk t
  ends_in_use records told holds ends = few_stay_in_use records before h.machine t (represents keeps) told holds ends.ended ends.few closes

-- before the update has ended no index is trusted then, as none is while the store is open
pub ends_untrusted : (before : Session) (t : State) (h : History) → KeepsTo before h → LeavesIndex before.disk t → IsLeftUntrusted t
ends_untrusted before t h keeps left = record {
  unclean = left.unclean keeps.matches.holds.apart keeps.matches.holds.unclean;
  no_log = left.stands Log tt ∙ keeps.matches.holds.files.no_log;
  no_tmp = left.stands Tmp tt ∙ keeps.matches.holds.files.no_tmp;
}

-- ---- over a whole session

-- an index that could be read stays in use in an honest directory, where few records come to differ from it
abbrev pub StaysWhole : Status → Machine → List Command → State → State → Type 0
StaysWhole ended m cs s t = IsClosing ended → start_of (standing s) ≢ Build → KeepsIndex m cs s t

pub stays_whole : {moment : ℕ} (s t : State) (m : Machine) (first last : Session) (cs : List Command) (h : History) (ended : Status) → Opens moment s first → StartsOn moment s m
    → OpensInUse s first.open_store.index.map first.disk → LeadTo cs first m last h → IsEnded ended h last t → h.machine ≡ after m cs → StaysWhole ended m cs s t
stays_whole s t m first last cs h ended opens is based leads closed same = λ closing some.
    let base : List IndexRecord = index_records (standing s Index) in
    let begins = based some in
    record {
      in_use = λ honest over ends.
          let told = opens.tells m is honest in
          let on = leads.in_use base told begins.base over in
          let last_stays = closed.in_use base closing (leads.tells (inl told)) on.base (subst (EndsInUse base) (sym same) ends) in
          record {
            same = same_then s first.disk t begins.same (same_then first.disk last.disk t on.same last_stays.same);
            journal = subst (λ (x : Machine). HasJournalOf base (scan x.shelf) (standing t)) same last_stays.journal;
          };
      unended = λ rest.
          let left = closed.unended closing (λ none. rest (ap (λ (x : Machine). x.rest) (sym same) ∙ none)) in
          same_then s first.disk t begins.same (same_then first.disk last.disk t (leads.unended (are_spared m cs rest)) (is_same last.disk t (left.stands Index tt)));
    }
