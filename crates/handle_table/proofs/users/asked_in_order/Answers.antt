use Rattle.std.proofs.Common.{ap, ◌∙◌}
use Rattle.std.specs.List.{list_any}
use Rattle.cache_base.specs.Names.{has_name}
use Rattle.handle_table.specs.Users.{is_counted}
use Rattle.handle_table.proofs.OpenNames.{listed_has}
use Rattle.handle_table.proofs.users.asked_in_order.Goals as goal

pub returns-clause-names : goal.returns-clause-names
returns-clause-names c =
    listed_has (λ q. list_any (is_counted c.args.asked q) c.args.objects.now) c.in_ok-name_set.field-0.keys
    (λ q. c.in_ok-name_set.ensures.has q ∙ ap (λ ns. has_name ns q) c.as_slice.ensures ∙ c.in_ok-names.ensures q)
    c.listed.result c.listed.ensures.names
