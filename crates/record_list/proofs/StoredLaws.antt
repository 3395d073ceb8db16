-- Records and their hash: what is spelled is read, and bytes that pass the checks spell records.
use Rattle.std.proofs.Common.{◌≡◌, ℕ, zero, suc, ◌+◌, ◌-◌, ◌*◌, ◌/◌, ◌%◌, ◌≤◌, List, [], ◌∷◌, ◌++◌, length, take, drop, true, refl, sym, ap, subst, ◌∙◌, arith, length-append, length-take, length-drop}
use Rattle.std.specs.Prelude.{None, map}
use Rattle.std.specs.List.{AllByRecursion}
use Rattle.std.specs.Int.{w32, from_be_bytes}
use Rattle.std.specs.Simd.{first_chunks}
use Rattle.std.proofs.Math.Seq.{take-length}
use Rattle.std.proofs.lemmas.Bool.{eq-eqb, eqb-true}
use Rattle.std.proofs.lemmas.List.{drop_at, take-append-drop, take_at}
use Rattle.std.proofs.lemmas.Nat.{from_be_bytes-to_be_bytes_4}
use Rattle.cache_base.specs.Bytes.{AreBytes, be32, be32_at}
use Rattle.cache_base.proofs.ByteLaws.{bytes_drop, bytes_take, four, take_more}
use Rattle.cache_base.proofs.CheckLaws.{all_hold, none_fails}
use Rattle.jenkins_hash.specs.Hash.{hash_of}
use Rattle.jenkins_hash.proofs.HashLaws.{hash_of-lt}
use Rattle.index_record.specs.Record.{IsRecord, record_bytes, record_in}
use Rattle.index_record.specs.declared.record.IndexRecord.{IndexRecord}
use Rattle.index_record.proofs.RecordLaws.{record_reads_back, record_spells}
use Rattle.record_list.specs.Laws.{StoredFitsExactly, StoredReadsBack}
use Rattle.record_list.specs.Lists.{names_of, records_bytes, records_in}
use Rattle.record_list.specs.Stored.{AreStored, are_distinct, body_of, records_checks, records_fault, stored_bytes, stored_in}
use Rattle.record_list.proofs.OrderLaws.{are_apart, distinct_are}

records_long : (rs : List IndexRecord) → AllByRecursion IsRecord rs → length (records_bytes rs) ≡ 41 * length rs
records_long [] h = refl
records_long (r ∷ rs) h =
    length-append (record_bytes r) (records_bytes rs)
    ∙ (let one = (record_reads_back r h.0).0 in let more = records_long rs h.1 in omega (arith, one, more))

groups_in : (rs : List IndexRecord) → AllByRecursion IsRecord rs → map record_in (first_chunks 41 (length rs) (records_bytes rs)) ≡ rs
groups_in [] h = refl
groups_in (r ∷ rs) h =
    let one = record_reads_back r h.0 in
    let head : record_in (take 41 (record_bytes r ++ records_bytes rs)) ≡ r = ap record_in (take_at (record_bytes r) (records_bytes rs) 41 one.0) ∙ one.1 in
    let tail : map record_in (first_chunks 41 (length rs) (drop 41 (record_bytes r ++ records_bytes rs))) ≡ rs =
    ap (λ ys. map record_in (first_chunks 41 (length rs) ys)) (drop_at (record_bytes r) (records_bytes rs) 41 one.0) ∙ groups_in rs h.1 in
    λ i. head i ∷ tail i

records_in-records_bytes : (rs : List IndexRecord) → AllByRecursion IsRecord rs → records_in (records_bytes rs) ≡ rs
records_in-records_bytes rs h =
    let count : length (records_bytes rs) / 41 ≡ length rs = let n = records_long rs h in omega (arith, n) in
    ap (λ n. map record_in (first_chunks 41 n (records_bytes rs))) count ∙ groups_in rs h

module _ (rs : List IndexRecord) (are : AreStored rs) where
  whole_long : length (stored_bytes rs) ≡ length (records_bytes rs) + 4
  unfolding stored_bytes
  whole_long = length-append (records_bytes rs) (be32 (hash_of (records_bytes rs)))

  body_is : body_of (stored_bytes rs) ≡ records_bytes rs
  unfolding stored_bytes
  body_is = take_at (records_bytes rs) (be32 (hash_of (records_bytes rs))) _ (let n = whole_long in omega (arith, n))

  hash_is : be32_at (stored_bytes rs) (length (stored_bytes rs) - 4) ≡ hash_of (records_bytes rs)
  unfolding stored_bytes
  hash_is =
      ap (from_be_bytes w32) (drop_at (records_bytes rs) (be32 (hash_of (records_bytes rs))) _ (let n = whole_long in omega (arith, n)))
      ∙ from_be_bytes-to_be_bytes_4 (hash_of (records_bytes rs)) (hash_of-lt (records_bytes rs))

  stored_is : stored_in (stored_bytes rs) ≡ rs
  stored_is = ap records_in body_is ∙ records_in-records_bytes rs are.records

  passes : records_fault (stored_bytes rs) ≡ None
  unfolding records_checks
  passes =
      let whole : length (body_of (stored_bytes rs)) % 41 ≡ 0 = let b = ap length body_is in let n = records_long rs are.records in omega (arith, b, n) in
      let hashed : be32_at (stored_bytes rs) (length (stored_bytes rs) - 4) ≡ hash_of (body_of (stored_bytes rs)) = hash_is ∙ ap hash_of (sym body_is) in
      let apart : are_distinct (names_of (stored_in (stored_bytes rs))) ≡ true = ap (λ ss. are_distinct (names_of ss)) stored_is ∙ are_apart (names_of rs) are.distinct in
      none_fails (records_checks (stored_bytes rs)) (eq-eqb _ _ whole, (eq-eqb _ _ hashed, (apart, tt)))

pub stored_reads_back : StoredReadsBack
stored_reads_back rs are = (passes rs are, stored_is rs are)

groups_spelled : (n : ℕ) (ys : List ℕ) → AreBytes ys → 41 * n ≤ length ys → records_bytes (map record_in (first_chunks 41 n ys)) ≡ take (41 * n) ys
groups_spelled zero ys bytes long = refl
groups_spelled (suc n) ys bytes long =
    let group : length (take 41 ys) ≡ 41 = length-take 41 ys ∙ omega (arith, long) in
    let more : 41 * n ≤ length (drop 41 ys) = let l = length-drop 41 ys in omega (arith, l, long) in
    (λ i. (record_spells (take 41 ys) (bytes_take 41 ys bytes) group).1 i ++ groups_spelled n (drop 41 ys) (bytes_drop 41 ys bytes) more i)
    ∙ take_more 41 (41 * n) ys
    ∙ (let e : 41 + 41 * n ≡ 41 * suc n = omega arith in ap (λ k. take k ys) e)

groups_small : (n : ℕ) (ys : List ℕ) → AreBytes ys → 41 * n ≤ length ys → AllByRecursion IsRecord (map record_in (first_chunks 41 n ys))
groups_small zero ys bytes long = tt
groups_small (suc n) ys bytes long =
    let group : length (take 41 ys) ≡ 41 = length-take 41 ys ∙ omega (arith, long) in
    let more : 41 * n ≤ length (drop 41 ys) = let l = length-drop 41 ys in omega (arith, l, long) in
    ((record_spells (take 41 ys) (bytes_take 41 ys bytes) group).0, groups_small n (drop 41 ys) (bytes_drop 41 ys bytes) more)

-- whole groups of bytes are the bytes of the records in them
all_spelled : (ys : List ℕ) → AreBytes ys → length ys % 41 ≡ 0 → records_bytes (records_in ys) ≡ ys
all_spelled ys bytes whole =
    let count : 41 * (length ys / 41) ≡ length ys = omega (arith, whole) in
    groups_spelled (length ys / 41) ys bytes (omega (arith, count)) ∙ ap (λ n. take n ys) count ∙ take-length ys

last_bytes : (part : List ℕ) → AreBytes part → 4 ≤ length part → be32 (be32_at part (length part - 4)) ≡ drop (length part - 4) part
last_bytes part bytes long =
    let left : length (drop (length part - 4) part) ≡ 4 = length-drop (length part - 4) part ∙ omega (arith, long) in
    four (drop (length part - 4) part) (bytes_drop (length part - 4) part bytes) (omega (arith, left))
    ∙ ap (λ n. take n (drop (length part - 4) part)) (sym left) ∙ take-length (drop (length part - 4) part)

module _ (part : List ℕ) (bytes : AreBytes part) (long : 4 ≤ length part) (fits : records_fault part ≡ None) where
  rows : (length (body_of part) % 41 ≡ 0) × (be32_at part (length part - 4) ≡ hash_of (body_of part)) × (are_distinct (names_of (stored_in part)) ≡ true)
  unfolding records_checks
  rows = let hold = all_hold (records_checks part) fits in (eqb-true _ _ hold.0, eqb-true _ _ hold.1.0, hold.1.1.0)

  body_bytes : AreBytes (body_of part)
  body_bytes = bytes_take (length part - 4) part bytes

  body_spelled : records_bytes (stored_in part) ≡ body_of part
  body_spelled = all_spelled (body_of part) body_bytes rows.0

  stored_are : AreStored (stored_in part)
  stored_are =
      let whole = rows.0 in
      record {
        records = groups_small (length (body_of part) / 41) (body_of part) body_bytes (omega (arith, whole));
        distinct = distinct_are (names_of (stored_in part)) rows.2;
      }

  part_spelled : part ≡ stored_bytes (stored_in part)
  unfolding stored_bytes
  part_spelled = sym (
      (λ i. body_spelled i ++ (ap (λ ys. be32 (hash_of ys)) body_spelled ∙ ap be32 (sym rows.1) ∙ last_bytes part bytes long) i)
      ∙ take-append-drop (length part - 4) part)

pub stored_fits_exactly : StoredFitsExactly
stored_fits_exactly part bytes long = (
  λ fits. (stored_in part, stored_are part bytes long fits, part_spelled part bytes long fits),
  λ spelled. subst (λ ys. records_fault ys ≡ None) (sym spelled.2) (stored_reads_back spelled.0 spelled.1).0,
)
