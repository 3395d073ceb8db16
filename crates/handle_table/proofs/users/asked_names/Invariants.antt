use Rattle.std.proofs.Common.{◌≡◌, take}
use Rattle.std.specs.List.{list_any}
use Rattle.cache_base.specs.Names.{has_name}
use Rattle.cache_base.specs.declared.name.Name.{Name}
use Rattle.handle_table.specs.Users.{is_counted}
use Rattle.handle_table.proofs.users.asked_names.Given as goal

abbrev pub invariant-loop-object : goal.invariant-loop-object
invariant-loop-object l = (q : Name) → has_name l.names q ≡ list_any (is_counted l.asked q) (take l.object-index l.objects)
