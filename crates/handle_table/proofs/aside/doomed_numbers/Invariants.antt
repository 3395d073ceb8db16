use Rattle.std.proofs.Common.{◌≡◌, ◌≤◌, take, length}
use Rattle.cache_base.specs.declared.limits.TheConstants.{SLOTS}
use Rattle.handle_table.specs.Aside.{numbers_in}
use Rattle.handle_table.proofs.aside.doomed_numbers.Given as goal

-- the numbers of the objects so far
abbrev pub invariant-loop-object : goal.invariant-loop-object
invariant-loop-object l = record {
  few : l.count ≤ l.object-index;
  long : length l.numbers ≡ SLOTS;
  so_far : take l.count l.numbers ≡ numbers_in (take l.object-index l.objects);
}
