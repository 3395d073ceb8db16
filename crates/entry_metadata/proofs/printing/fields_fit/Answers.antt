use Rattle.std.proofs.Common.{◌^◌, arith}
use Rattle.cache_base.proofs.ByteLaws.{all_below}
use Rattle.entry_metadata.proofs.printing.fields_fit.Goals as goal

pub returns : goal.returns
returns c = record {
  hashes = all_below (2 ^ 16) c.args.hashes.now (λ i. omega (arith, c.type_inv.hashes i));
  key = all_below 256 c.args.key.now (λ i. omega (arith, c.type_inv.key i));
  elements = all_below 256 c.args.elements.now (λ i. omega (arith, c.type_inv.elements i));
}
