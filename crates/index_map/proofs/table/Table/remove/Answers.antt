use Rattle.std.proofs.Common.{Some, None, ap, subst, false}
use Rattle.std.specs.Option.{option_map}
use Rattle.std.specs.Prelude.{OnOk, Option}
use Rattle.index_record.specs.declared.record.IndexRecord.{IndexRecord}
use Rattle.index_map.specs.Slots.{PutsSlot, Slot, record_of}
use Rattle.index_map.proofs.Steps.{base_fits}
use Rattle.index_map.proofs.table.Table.remove.Goals as goal

abbrev gone : Option IndexRecord → Option Slot
gone b = option_map (λ b. record { current = None; seen = false; base = Some b }) b

pub put-requires : goal.put-requires
put-requires c = record {
  current = tt;
  base = base_fits c.args.self.now c.args.name.now (Some (record_of c.args.name.now c.in-Some.base)) c.in-Some.ensures.table c.in-Some.ensures.base;
}

pub returns-in-None-clause-removes : goal.returns-in-None-clause-removes
returns-in-None-clause-removes c =
    subst (λ s. PutsSlot c.args.self.now c.take.new.self c.args.name.now s) (ap gone c.in-None.ensures.base) c.take.ensures.taken

pub returns-in-Some-clause-removes : goal.returns-in-Some-clause-removes
returns-in-Some-clause-removes c =
    let puts = subst (λ r. OnOk r (PutsSlot c.args.self.now c.put.new.self c.args.name.now (Some (record { current = None; seen = false; base = Some (record_of c.args.name.now c.in-Some.base) })))) c.unwrap.ensures c.put.ensures.ok in
    subst (λ s. PutsSlot c.args.self.now c.put.new.self c.args.name.now s) (ap gone c.in-Some.ensures.base) puts
