-- Records by rising name after the beginning of a file, and their hash.
use Rattle.std.proofs.Common.{◌≡◌, ℕ, List, ◌++◌, Result, Ok, Err, IfOk, length, drop, refl, ap, ◌∙◌, append_assoc}
use Rattle.std.specs.Prelude.{OnOk}
use Rattle.std.proofs.lemmas.List.{drop_at}
use Rattle.std.proofs.lemmas.List.Elements.{All-from_recursion, recursion_from_All}
use Rattle.std.proofs.lemmas.List.Sorted.{All-permutation, IsPermutation-map}
use Rattle.cache_base.specs.Bytes.{be32}
use Rattle.jenkins_hash.specs.Hash.{hash_of}
use Rattle.index_record.specs.declared.record.IndexRecord.{IndexRecord}
use Rattle.record_list.specs.Lists.{HasNames, IsByName, records_bytes}
use Rattle.record_list.specs.Stored.{AreClean, AreStored, IsClean, IsPrinted, read_as, stored_bytes}
use Rattle.record_list.proofs.ReadingLaws.{clean_reads_same}
use Rattle.record_list.proofs.OrderLaws.{distinct_permutation}

-- records by name are still clean, and no name stands twice
pub clean_by_name : (rs sorted : List IndexRecord) → IsByName rs sorted → AreClean rs → AreClean sorted
clean_by_name rs sorted by clean = recursion_from_All IsClean sorted (All-permutation IsClean rs sorted by.same (All-from_recursion IsClean rs clean))

pub names_by_name : (rs sorted : List IndexRecord) → IsByName rs sorted → HasNames rs → HasNames sorted
names_by_name rs sorted by distinct = distinct_permutation _ _ (IsPermutation-map (λ r. r.name) rs sorted by.same) distinct

-- records are spelled as they stand, after the beginning of a file
pub spelled : (front : List ℕ) (rs : List IndexRecord) → AreClean rs
    → (a b c : List ℕ) → a ≡ front → b ≡ a ++ records_bytes (read_as rs) → c ≡ b ++ be32 (hash_of (drop (length front) b)) → c ≡ front ++ stored_bytes rs
unfolding stored_bytes
spelled front rs clean a b c ea eb ec =
    let body : b ≡ front ++ records_bytes rs = eb ∙ (λ i. ea i ++ records_bytes (clean_reads_same rs clean i)) in
    let hash : be32 (hash_of (drop (length front) b)) ≡ be32 (hash_of (records_bytes rs)) =
    ap (λ ys. be32 (hash_of ys)) (ap (drop (length front)) body ∙ drop_at front (records_bytes rs) (length front) refl) in
    ec ∙ (λ i. body i ++ hash i) ∙ append_assoc front (records_bytes rs) (be32 (hash_of (records_bytes rs)))

-- records by name are printed where they are spelled
pub printed : {E : Type 0} (front : List ℕ) (rs sorted : List IndexRecord) → IsByName rs sorted → AreClean rs
    → (r : Result (List ℕ) E) → OnOk r (AreStored sorted) → IfOk r (λ bytes. bytes ≡ front ++ stored_bytes sorted) → IfOk r (IsPrinted front rs)
printed front rs sorted by clean (Err e) stored is = tt
printed front rs sorted by clean (Ok bytes) stored is =
    record { sorted = sorted; by_name = by; stored = stored; clean = clean_by_name rs sorted by clean; spelled = is }
