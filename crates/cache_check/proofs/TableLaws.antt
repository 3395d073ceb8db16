-- What a table has after a change, and that its names still rise.
use Rattle.std.proofs.Common.{◌≡◌, ℕ, List, cond}
use Rattle.std.specs.Prelude.{Some}
use Rattle.std.specs.Ordering.{eq_by_cmp}
use Rattle.std.specs.Cmp.Lexicographic.{nat_list_cmp_total}
use Rattle.std.specs.FinMap.Entries.{find-put, is_sorted-put, same_entries}
use Rattle.std.specs.FinMap.{slice_cmp-IsAntisymmetric, nat_cmp-IsAntisymmetric}
use Rattle.cache_check.specs.Table.{Table, IsTable, bytes_cmp, get, insert}

pub get-insert : {X : Type 0} (t : Table X) (name : List ℕ) (x : X) (q : List ℕ) → get (insert t name x) q ≡ cond (eq_by_cmp bytes_cmp q name) (Some x) (get t q)
get-insert t name x q = find-put bytes_cmp nat_list_cmp_total q name x t

pub insert_is_table : {X : Type 0} (t : Table X) (name : List ℕ) (x : X) → IsTable t → IsTable (insert t name x)
insert_is_table t name x h = record { rising = is_sorted-put bytes_cmp nat_list_cmp_total name x t h.rising }

-- tables with the same contents are one
pub same_table : {X : Type 0} (s t : Table X) → IsTable s → IsTable t → ((q : List ℕ) → get s q ≡ get t q) → s ≡ t
same_table s t hs ht same = same_entries bytes_cmp nat_list_cmp_total (slice_cmp-IsAntisymmetric nat_cmp-IsAntisymmetric) s t hs.rising ht.rising same
