-- An index that is printed spells its records.
use Rattle.std.proofs.Common.{◌≡◌, ℕ, ◌<◌, ◌^◌, List, [], ◌∷◌, Bool, true, false, not, cond, refl, sym, ap, ◌∙◌, arith}
use Rattle.std.specs.Prelude.{◌==◌, IfOk, Ok, Err, Result}
use Rattle.std.proofs.lemmas.List.Elements.{All-from_recursion, recursion_from_All}
use Rattle.std.proofs.lemmas.List.Sorted.{All-permutation}
use Rattle.cache_base.specs.Numbers.{one_if}
use Rattle.index_record.specs.Record.{is_removed}
use Rattle.index_record.specs.declared.record.IndexRecord.{IndexRecord}
use Rattle.record_list.specs.Change.{HasNoRemoved}
use Rattle.record_list.specs.Lists.{IsByName}
use Rattle.record_list.specs.Stored as records
use Rattle.record_list.proofs.ReadingLaws.{clean_reads_same}
use Rattle.index_file.specs.Index.{header_bytes}
use Rattle.index_file.specs.Printed.{IsPrinted}

-- where no record is removed, none is left out
all_present : (rs : List IndexRecord) → HasNoRemoved rs → records.present rs ≡ rs
all_present [] h = refl
all_present (r ∷ rs) h = ap (λ b. cond (not b) (r ∷ records.present rs) (records.present rs)) h.0 ∙ ap (λ xs. r ∷ xs) (all_present rs h.1)

none_removed : (rs sorted : List IndexRecord) → IsByName rs sorted → HasNoRemoved rs → HasNoRemoved sorted
none_removed rs sorted by h =
    recursion_from_All (λ r. is_removed r ≡ false) sorted (All-permutation (λ r. is_removed r ≡ false) rs sorted by.same (All-from_recursion (λ r. is_removed r ≡ false) rs h))

flag_read : (dirty : Bool) → dirty ≡ not (one_if dirty == 0)
flag_read true = refl
flag_read false = refl

flag_small : (dirty : Bool) → one_if dirty < 2 ^ 32
flag_small true = omega arith
flag_small false = omega arith

pub printed : (rs : List IndexRecord) (t : ℕ) (dirty : Bool) (bytes : List ℕ) → HasNoRemoved rs → t < 2 ^ 32
    → records.IsPrinted (header_bytes t (one_if dirty) 0) rs bytes → IsPrinted rs t dirty bytes
printed rs t dirty bytes present small h =
    let same : records.read_as (records.present h.sorted) ≡ h.sorted =
    ap records.read_as (all_present h.sorted (none_removed rs h.sorted h.by_name present)) ∙ clean_reads_same h.sorted h.clean in
    record {
      sorted = h.sorted;
      by_name = h.by_name;
      printed = h.spelled;
      spelled = record {
        stored = h.sorted;
        flag = one_if dirty;
        kilobytes = 0;
        are_stored = h.stored;
        same = sym same;
        is_dirty = flag_read dirty;
        small = (small, flag_small dirty, omega arith);
        spelled = h.spelled;
      };
    }

-- the same of an answer
pub printed_answer : {F : Type 0} (rs : List IndexRecord) (t : ℕ) (dirty : Bool) (answer : Result (List ℕ) F) → HasNoRemoved rs → t < 2 ^ 32
    → IfOk answer (records.IsPrinted (header_bytes t (one_if dirty) 0) rs) → IfOk answer (IsPrinted rs t dirty)
printed_answer rs t dirty (Ok bytes) present small h = printed rs t dirty bytes present small h
printed_answer rs t dirty (Err f) present small h = tt
