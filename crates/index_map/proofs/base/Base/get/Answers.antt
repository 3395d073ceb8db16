use Rattle.std.proofs.Common.{ap, subst, sym, ◌∙◌, get_or}
use Rattle.std.specs.Map.{lookup}
use Rattle.record_list.specs.Lists.{same_name}
use Rattle.index_map.specs.Slots.{IsBase, IsTable, marked, marked_in}
use Rattle.index_map.proofs.Marked.{absent, base_table, got}
use Rattle.index_map.proofs.Steps.{no_record}
use Rattle.index_map.proofs.base.Base.get.Goals as goal

pub returns-in-Some-clause-slot : goal.returns-in-Some-clause-slot
returns-in-Some-clause-slot c =
    let rs = c.as_slice-records.result.now in
    let ms = c.self.inside.marks.items in
    let name = c.args.name.now in
    let i = c.in-Some.i in
    let is = subst (λ l. IsBase l ms c.self.inside.counts) (sym c.as_slice-records.ensures) c.self.invariant in
    got rs ms c.self.inside.counts is i no_record c.index.result.now name c.in-Some.ensures.within (c.in-Some.ensures.found no_record) c.held_of.result
    (c.held_of.ensures ∙ ap (marked (get_or rs i no_record)) c.index.ensures)
    ∙ ap (λ l. lookup (same_name name) (marked_in l ms)) c.as_slice-records.ensures ∙ ap (lookup (same_name name)) c.self.view_is

pub returns-in-Some-clause-table : goal.returns-in-Some-clause-table
returns-in-Some-clause-table c = subst IsTable c.self.view_is (base_table c.self.inside.records c.self.inside.marks.items c.self.inside.counts c.self.invariant c.self.inside.marks.items)

pub returns-in-None-clause-slot : goal.returns-in-None-clause-slot
returns-in-None-clause-slot c =
    let name = c.args.name.now in
    sym (absent name c.as_slice-records.result.now c.self.inside.marks.items c.in-None.ensures.none)
    ∙ ap (λ l. lookup (same_name name) (marked_in l c.self.inside.marks.items)) c.as_slice-records.ensures ∙ ap (lookup (same_name name)) c.self.view_is

pub returns-in-None-clause-table : goal.returns-in-None-clause-table
returns-in-None-clause-table c = subst IsTable c.self.view_is (base_table c.self.inside.records c.self.inside.marks.items c.self.inside.counts c.self.invariant c.self.inside.marks.items)
