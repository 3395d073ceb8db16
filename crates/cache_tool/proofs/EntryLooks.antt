-- Commands that look at no entry.
use Rattle.std.proofs.Common.{◌≡◌, ◌∙◌, inl, inr, ℕ, List, [], Option, None, Some, length, sym, ap, subst}
use Rattle.std.specs.Prelude.{IfSome}
use Rattle.cache_base.specs.declared.name.Name.{Name}
use Rattle.cache_store.specs.IndexCalls.{names_read, names_resumed}
use Rattle.cache_store.specs.Open.{Opens, StartsOn}
use Rattle.cache_store.specs.Session.{Session}
use Rattle.cache_store.proofs.Sessions.Opened.{starts_on}
use Rattle.cache_theory.specs.Command.{Command}
use Rattle.cache_theory.specs.Command.Command.{ClearOrigin, Evict, Flush, ListRecords}
use Rattle.cache_theory.specs.Machine.{Machine}
use Rattle.cache_tool.specs.Beginning.{BeginsRun, ReadsNoEntry}
use Rattle.cache_tool.specs.Verbs.{LooksAtNone}
use Rattle.cache_tool.proofs.StayingLaws.{step_ended}
use Rattle.context_clear.specs.Mark.{mark_of}
use Rattle.disk_theory.specs.Listing.{IsFinite}
use Rattle.disk_theory.specs.State.{State, standing}
use Rattle.disk_theory.specs.declared.place.Place.TheVariants.{Clear}
use Rattle.index_theory.specs.Start.{start_of}
use Rattle.index_theory.specs.declared.kinds.Start.{Start}
use Rattle.index_theory.specs.declared.kinds.Start.TheVariants.{Ready}
use Rattle.index_update.specs.Rest.{name_bytes}
use Rattle.index_update.proofs.TellLaws.{bytes_end}

-- it reads the files of no names, where the update has nothing to read
pub reads_none : (P : ℕ → Type 0) (c : Command) (mark now : Option ℕ) (start : Start) (rest : List Name) → LooksAtNone c mark start → (start ≡ Ready → rest ≡ []) → IfSome (names_read c now rest) P → P 0
reads_none P Flush mark now start rest none ready reads = reads
reads_none P ListRecords mark now start rest none ready reads = subst P (ap length (ready none)) reads
reads_none P (Evict kb) mark now start rest none ready reads = subst P (ap length (ready none)) reads
reads_none P (ClearOrigin origin) mark now start rest none ready reads = subst P (ap length (ready none)) reads
reads_none P c mark now start rest none ready reads = absurd none

-- and so it is before it
pub looks_none : (c : Command) (mark : Option ℕ) (start : Start) → LooksAtNone c mark start → ReadsNoEntry mark start
looks_none Flush mark start none = none
looks_none ListRecords mark start none = inr none
looks_none (Evict kb) mark start none = inr none
looks_none (ClearOrigin origin) mark start none = inr none
looks_none c mark start none = absurd none

-- a clearing that is resumed reads none, where it is none or the update has nothing to read
resumes_none : (P : ℕ → Type 0) (mark : Option ℕ) (start : Start) (rest : List Name) → ReadsNoEntry mark start → (start ≡ Ready → rest ≡ []) → P (names_resumed mark rest) → P 0
resumes_none P mark start rest (inl none) ready reads = subst (λ x. P (names_resumed x rest)) none reads
resumes_none P None start rest (inr trusted) ready reads = reads
resumes_none P (Some origin) start rest (inr trusted) ready reads = subst P (ap length (ready trusted)) reads

-- ---- at an opening

-- the update has nothing to read where the index is trusted
nothing_left : (moment : ℕ) (s : State) (m : Machine) → StartsOn moment s m → start_of (standing s) ≡ Ready → m.rest ≡ []
nothing_left moment s m is ready = ap (λ (x : Machine). x.rest) is.is_opened ∙ ap name_bytes (is.is_rest.ready ready)

pub opened_to_read : (moment : ℕ) (s : State) (first : Session) → IsFinite s → Opens moment s first → start_of (standing s) ≡ Ready → first.open_store.index.update ≡ []
opened_to_read moment s first finite opens ready =
    let (m, is) = starts_on moment s finite in
    (bytes_end first.open_store.index.update).0 (sym (opens.keeps m is).matches.rest ∙ nothing_left moment s m is ready)

-- nor has it after what is done for `Resume`
pub nothing_to_read : (moment : ℕ) (s : State) (mid : Session) → IsFinite s → BeginsRun moment s mid → start_of (standing s) ≡ Ready → mid.open_store.index.update ≡ []
nothing_to_read moment s mid finite begins ready =
    let (m, is) = starts_on moment s finite in
    let resumed = begins.resumed m is in
    (bytes_end mid.open_store.index.update).0 (sym resumed.leads.keeps.matches.rest ∙ step_ended m resumed.done (nothing_left moment s m is ready))

-- the mark stands there that stood
pub mark_opened : (moment : ℕ) (s : State) (first : Session) → Opens moment s first → (m : Machine) → StartsOn moment s m → m.mark ≡ standing first.disk Clear
mark_opened moment s first opens m is = (opens.keeps m is).matches.mark

-- so a clearing that is resumed reads the files of no names
pub resume_reads : (moment : ℕ) (s : State) (first : Session) (P : ℕ → Type 0) → IsFinite s → Opens moment s first → ReadsNoEntry (mark_of (standing s Clear)) (start_of (standing s))
    → P (names_resumed (mark_of (standing first.disk Clear)) first.open_store.index.update) → P 0
resume_reads moment s first P finite opens none reads =
    let (m, is) = starts_on moment s finite in
    let same : standing first.disk Clear ≡ standing s Clear = sym (mark_opened moment s first opens m is) ∙ ap (λ (x : Machine). x.mark) is.is_opened in
    resumes_none P (mark_of (standing s Clear)) (start_of (standing s)) first.open_store.index.update none (opened_to_read moment s first finite opens)
    (subst (λ x. P (names_resumed (mark_of x) first.open_store.index.update)) same reads)
