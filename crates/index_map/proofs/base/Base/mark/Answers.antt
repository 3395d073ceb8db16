use Rattle.std.proofs.Common.{ap, subst, sym, ◌∙◌, ◌≡◌, ◌≤◌, ◌-◌, get_or, set}
use Rattle.std.specs.Map.{lookup}
use Rattle.std.specs.Prelude.{IsSome, option_and_then}
use Rattle.record_list.specs.Lists.{same_name}
use Rattle.index_map.specs.Slots.{IsBase, IsTable, PutsSlot, changed_of, kilobytes_of, marked, marked_in, records_of, remarked, weigh}
use Rattle.index_map.proofs.Marked.{base_marked, base_small, base_table, changed_there, kilobytes_there, marked_at, not_there, records_there}
use Rattle.index_map.proofs.Steps.{no_record}
use Rattle.index_map.proofs.base.Base.mark.Goals as goal

pub with_marked-counts-requires-clause-records : goal.with_marked-counts-requires-clause-records
with_marked-counts-requires-clause-records c = (base_small c.self.inside.records c.self.inside.marks.items c.self.inside.counts c.self.invariant).records

pub with_marked-counts-requires-clause-kilobytes : goal.with_marked-counts-requires-clause-kilobytes
with_marked-counts-requires-clause-kilobytes c = (base_small c.self.inside.records c.self.inside.marks.items c.self.inside.counts c.self.invariant).kilobytes

pub with_marked-counts-requires-clause-changed : goal.with_marked-counts-requires-clause-changed
with_marked-counts-requires-clause-changed c = (base_small c.self.inside.records c.self.inside.marks.items c.self.inside.counts c.self.invariant).changed

pub without_marked-self-inside-requires-clause-records : goal.without_marked-self-inside-requires-clause-records
without_marked-self-inside-requires-clause-records c =
    let rs = c.as_slice-records.result.now in
    let ms = c.self.inside.marks.items in
    let n = c.self.inside.counts in
    let i = c.in-Some.i in
    let is = subst (λ l. IsBase l ms n) (sym c.as_slice-records.ensures) c.self.invariant in
    subst (λ x. weigh records_of (marked (get_or rs i no_record) x) ≤ c.with_marked-counts.result.records) (sym c.index.ensures)
    (records_there rs ms n is i no_record c.index.result.now c.args.name.now c.in-Some.ensures.within (c.in-Some.ensures.found no_record) c.args.mark c.with_marked-counts.result
    c.with_marked-counts.ensures.records c.with_marked-counts.ensures.kilobytes c.with_marked-counts.ensures.changed)

pub without_marked-self-inside-requires-clause-kilobytes : goal.without_marked-self-inside-requires-clause-kilobytes
without_marked-self-inside-requires-clause-kilobytes c =
    let rs = c.as_slice-records.result.now in
    let ms = c.self.inside.marks.items in
    let n = c.self.inside.counts in
    let i = c.in-Some.i in
    let is = subst (λ l. IsBase l ms n) (sym c.as_slice-records.ensures) c.self.invariant in
    subst (λ x. weigh kilobytes_of (marked (get_or rs i no_record) x) ≤ c.with_marked-counts.result.kilobytes) (sym c.index.ensures)
    (kilobytes_there rs ms n is i no_record c.index.result.now c.args.name.now c.in-Some.ensures.within (c.in-Some.ensures.found no_record) c.args.mark c.with_marked-counts.result
    c.with_marked-counts.ensures.records c.with_marked-counts.ensures.kilobytes c.with_marked-counts.ensures.changed)

pub without_marked-self-inside-requires-clause-changed : goal.without_marked-self-inside-requires-clause-changed
without_marked-self-inside-requires-clause-changed c =
    let rs = c.as_slice-records.result.now in
    let ms = c.self.inside.marks.items in
    let n = c.self.inside.counts in
    let i = c.in-Some.i in
    let is = subst (λ l. IsBase l ms n) (sym c.as_slice-records.ensures) c.self.invariant in
    subst (λ x. weigh changed_of (marked (get_or rs i no_record) x) ≤ c.with_marked-counts.result.changed) (sym c.index.ensures)
    (changed_there rs ms n is i no_record c.index.result.now c.args.name.now c.in-Some.ensures.within (c.in-Some.ensures.found no_record) c.args.mark c.with_marked-counts.result
    c.with_marked-counts.ensures.records c.with_marked-counts.ensures.kilobytes c.with_marked-counts.ensures.changed)

pub invariant_of-self : goal.invariant_of-self
invariant_of-self c =
    let rs = c.as_slice-records.result.now in
    let ms = c.self.inside.marks.items in
    let n = c.self.inside.counts in
    let i = c.in-Some.i in
    let is = subst (λ l. IsBase l ms n) (sym c.as_slice-records.ensures) c.self.invariant in
    let m = c.with_marked-counts.result in
    subst (λ l. IsBase l (set ms i c.args.mark) c.without_marked-self-inside.result) c.as_slice-records.ensures
    (base_marked rs ms n is i no_record c.index.result.now c.args.name.now c.in-Some.ensures.within (c.in-Some.ensures.found no_record) c.args.mark m
    c.with_marked-counts.ensures.records c.with_marked-counts.ensures.kilobytes c.with_marked-counts.ensures.changed c.without_marked-self-inside.result
    (c.without_marked-self-inside.ensures.records ∙ ap (λ x. m.records - weigh records_of (marked (get_or rs i no_record) x)) c.index.ensures)
    (c.without_marked-self-inside.ensures.kilobytes ∙ ap (λ x. m.kilobytes - weigh kilobytes_of (marked (get_or rs i no_record) x)) c.index.ensures)
    (c.without_marked-self-inside.ensures.changed ∙ ap (λ x. m.changed - weigh changed_of (marked (get_or rs i no_record) x)) c.index.ensures))

pub returns-in-Some-clause-marked : goal.returns-in-Some-clause-marked
returns-in-Some-clause-marked c =
    let rs = c.as_slice-records.result.now in
    let ms = c.self.inside.marks.items in
    let n = c.self.inside.counts in
    let i = c.in-Some.i in
    let is = subst (λ l. IsBase l ms n) (sym c.as_slice-records.ensures) c.self.invariant in
    let name = c.args.name.now in
    let view : marked_in rs ms ≡ c.args.self.now = ap (λ l. marked_in l ms) c.as_slice-records.ensures ∙ c.self.view_is in
    subst (λ t. PutsSlot t (marked_in c.self.inside.records (set ms i c.args.mark)) name (option_and_then (remarked c.args.mark) (lookup (same_name name) t))) view
    (subst (λ l. PutsSlot (marked_in rs ms) (marked_in l (set ms i c.args.mark)) name (option_and_then (remarked c.args.mark) (lookup (same_name name) (marked_in rs ms)))) c.as_slice-records.ensures
    (marked_at rs ms n is i no_record c.index.result.now c.args.name.now c.in-Some.ensures.within (c.in-Some.ensures.found no_record) c.args.mark (subst (λ t. IsSome (lookup (same_name name) t)) (sym view) c.requires)))

pub returns-in-Some-clause-table : goal.returns-in-Some-clause-table
returns-in-Some-clause-table c = base_table c.self.inside.records c.self.inside.marks.items c.self.inside.counts c.self.invariant (set c.self.inside.marks.items c.in-Some.i c.args.mark)

pub returns-in-None-clause-marked : goal.returns-in-None-clause-marked
returns-in-None-clause-marked c =
    let rs = c.as_slice-records.result.now in
    let ms = c.self.inside.marks.items in
    let view : marked_in rs ms ≡ c.args.self.now = ap (λ l. marked_in l ms) c.as_slice-records.ensures ∙ c.self.view_is in
    not_there rs ms c.args.name.now c.in-None.ensures.none (subst (λ t. IsSome (lookup (same_name c.args.name.now) t)) (sym view) c.requires)

pub returns-in-None-clause-table : goal.returns-in-None-clause-table
returns-in-None-clause-table c = subst IsTable c.self.view_is (base_table c.self.inside.records c.self.inside.marks.items c.self.inside.counts c.self.invariant c.self.inside.marks.items)
