use Rattle.std.specs.Option.{option_map}
use Rattle.index_map.specs.Slots.{record_of}
use Rattle.index_map.proofs.Steps.{base_fits, named_fits}
use Rattle.index_map.proofs.filling.put_record.Goals as goal

pub put-requires : goal.put-requires
put-requires c = record {
  current = named_fits c.args.r.now c.facts_of.result c.facts_of.ensures c.requires;
  base = base_fits c.args.table.now c.args.r.now.name (option_map (record_of c.args.r.now.name) c.base_at-base.result) c.base_at-base.ensures.table c.base_at-base.ensures.base;
}
