-- A turn: the first row is checked, and both lists are left without it.
use Rattle.std.proofs.Common.{◌≡◌, ◌++◌, ◌<◌, ◌+◌, List, Bool, length, Some, sym, ap, subst, ◌∙◌, append_assoc, arith}
use Rattle.std.specs.Prelude.{is_some}
use Rattle.cache_base.specs.Names.{AreSorted, has_name}
use Rattle.cache_base.specs.declared.name.Name.{Name}
use Rattle.cache_check.specs.Findings.{findings}
use Rattle.cache_check.specs.declared.finding.Finding.{Finding}
use Rattle.disk_theory.specs.State.{State, standing}
use Rattle.index_record.specs.declared.record.IndexRecord.{IndexRecord}
use Rattle.record_list.specs.Lists.{AreSorted as AreByName}
use Rattle.cache_check.specs.Checks.{looks_over, table_of}
use Rattle.cache_check.specs.Rows.{first_row, without_first, turn_findings, turn_looks}
use Rattle.cache_check.specs.declared.rows.Row.{Row}
use Rattle.cache_check.proofs.RowSteps.{AddsRow, Stand, adds, leaves}

-- the row is the first, and these lists are left after it
pub record Turns (names : List Name) (rs : List IndexRecord) (row : Row) (more : List Name) (ss : List IndexRecord) : Type 0 where
  pub first : Some row ≡ first_row names rs
  pub names_left : more ≡ without_first names row.filed
  pub records_left : ss ≡ without_first rs (is_some row.known)

module _ (names : List Name) (rs : List IndexRecord) (row : Row) (more : List Name) (ss : List IndexRecord) (turns : Turns names rs row more ss) (rising : AreSorted names) (by_name : AreByName rs) where
  pub still_rising : AreSorted more
  still_rising = subst (λ (ns : List Name). AreSorted ns) (sym turns.names_left) (leaves names rs row rising by_name turns.first).rising

  pub still_by_name : AreByName ss
  still_by_name = subst (λ (qs : List IndexRecord). AreByName qs) (sym turns.records_left) (leaves names rs row rising by_name turns.first).by_name

  pub fewer : length more + length ss < length names + length rs
  fewer =
      let m : length more ≡ length (without_first names row.filed) = ap length turns.names_left in
      let n : length ss ≡ length (without_first rs (is_some row.known)) = ap length turns.records_left in
      let f = (leaves names rs row rising by_name turns.first).fewer in
      omega (arith, m, n, f)

  module _ (s t : State) (writing : List Name) (stand : Stand (standing s) names) (b : Bool) (same : t ≡ s) (written : b ≡ has_name writing row.name) where
    parts : AddsRow (standing s) writing names rs row
    parts = adds (standing s) writing names rs row rising by_name stand turns.first

    pub still_stand : Stand (standing s) more
    still_stand = subst (λ (ns : List Name). Stand (standing s) ns) (sym turns.names_left) parts.stand

    pub still_complete : (out next whole : List Finding) → next ≡ out ++ turn_findings (standing t) b row
        → out ++ findings (table_of (standing s) names) rs writing ≡ whole
        → next ++ findings (table_of (standing s) more) ss writing ≡ whole
    still_complete out next whole grown so_far =
        let here = turn_findings (standing s) (has_name writing row.name) row in
        let left = findings (table_of (standing s) (without_first names row.filed)) (without_first rs (is_some row.known)) writing in
        let grown_here : next ≡ out ++ here =
        grown ∙ ap (λ (u : State). out ++ turn_findings (standing u) b row) same ∙ ap (λ (c : Bool). out ++ turn_findings (standing s) c row) written in
        ap (λ ns. next ++ findings (table_of (standing s) ns) ss writing) turns.names_left
        ∙ ap (λ qs. next ++ findings (table_of (standing s) (without_first names row.filed)) qs writing) turns.records_left
        ∙ ap (λ fs. fs ++ left) grown_here
        ∙ append_assoc out here left
        ∙ ap (λ fs. out ++ fs) (sym parts.found)
        ∙ so_far

    pub looks_parts : looks_over (table_of (standing s) names) writing ≡ turn_looks (standing t) b row + looks_over (table_of (standing s) more) writing
    looks_parts =
        parts.looks
        ∙ ap (λ (c : Bool). turn_looks (standing s) c row + looks_over (table_of (standing s) (without_first names row.filed)) writing) (sym written)
        ∙ ap (λ (u : State). turn_looks (standing u) b row + looks_over (table_of (standing s) (without_first names row.filed)) writing) (sym same)
        ∙ ap (λ ns. turn_looks (standing t) b row + looks_over (table_of (standing s) ns) writing) (sym turns.names_left)
