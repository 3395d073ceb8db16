-- Names in the order of their bytes, and in lists.
use Rattle.std.specs.Prelude.{Bool, List}
use Rattle.std.specs.declared.cmp.Ordering.{Ordering}
use Rattle.std.specs.Cmp.Lexicographic.{slice_cmp}
use Rattle.std.specs.List.{list_any}
use Rattle.std.specs.List.Sorted.{IsStrictlySortedBy}
use Rattle.std.specs.Ordering.{is_eq, nat_cmp}
use Rattle.cache_base.specs.declared.name.Name.{Name}

-- the order of two names, which is that of their bytes
abbrev pub name_cmp : Name → Name → Ordering
name_cmp a b = slice_cmp nat_cmp a.0 b.0

-- each name is below those after it
abbrev pub AreSorted : List Name → Type 0
AreSorted names = IsStrictlySortedBy name_cmp names

-- whether a name is in a list
abbrev pub has_name : List Name → Name → Bool
has_name names name = list_any (λ one. is_eq (name_cmp name one)) names
