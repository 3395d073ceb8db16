-- The parts of a large file, and what rules out an index or a journal before it is read whole.
use Rattle.std.proofs.Common.{◌≡◌, ◌≢◌, ℕ, zero, suc, List, [], Bool, false, true, Some, Result, Ok, Err, ap, append-nil, arith, length-drop, refl, sym, subst, ◌∙◌, ◌+◌, ◌∷◌, take-add}
use Rattle.std.proofs.lemmas.Bool.{eqb-true, ne_eqb, not-true}
use Rattle.std.proofs.lemmas.List.{drop-drop, drop-take, length-take-le, nil_from_length, take-take}
use Rattle.std.proofs.lemmas.Slice.Eq.{bytes_eq-Decides}
use Rattle.std.specs.Int.{from_be_bytes, w32}
use Rattle.std.specs.List.{list_any}
use Rattle.std.specs.Option.{option_or}
use Rattle.std.specs.Prelude.{IfOk, IfSome, None, Option, drop, take, if◌then◌else◌, length, map, nat_le, not, option_map, ◌%◌, ◌&&◌, ◌*◌, ◌++◌, ◌-◌, ◌/◌, ◌==◌, ◌||◌, ◌≤◌}
use Rattle.std.specs.Simd.{first_chunks}
use Rattle.cache_base.specs.Bytes.{be32_at}
use Rattle.cache_base.specs.declared.name.Name.{Name}
use Rattle.disk_theory.specs.State.{part_of}
use Rattle.index_file.specs.Checks.{header_checks}
use Rattle.index_file.specs.RecordsFault as index
use Rattle.index_file.specs.declared.fault.IndexFault.TheVariants as index_faults
use Rattle.index_journal.specs.RecordsFault as journals
use Rattle.index_journal.specs.declared.fault.JournalFault.TheVariants as journal_faults
use Rattle.index_record.specs.Record.{record_in}
use Rattle.index_theory.proofs.StartLaws.{faulty_index_is, faulty_journal_is}
use Rattle.index_theory.specs.IndexKind.{index_kind}
use Rattle.index_theory.specs.LogKind.{log_kind}
use Rattle.index_theory.specs.declared.kinds.IndexKind.TheVariants.{Invalid}
use Rattle.index_theory.specs.declared.kinds.LogKind.TheVariants.{Invalid as BadLog}
use Rattle.jenkins_hash.specs.Hash.{hash_of}
use Rattle.jenkins_hash.specs.Hasher.{WasFedBytes}
use Rattle.jenkins_hash.specs.declared.hasher.Hasher.{Hasher}
use Rattle.record_list.specs.Lists.{names_of, same_name}
use Rattle.record_list.specs.Stored.{are_distinct, body_of, records_checks, records_fault, stored_in}
use Rattle.record_list.specs.declared.fault.RecordsFault.TheVariants as records_faults
use Rattle.startup_read.specs.Large.{IsFaulty, IsPairAt, is_hashed}
use Rattle.startup_read.proofs.ReadKinds.{a_check_fails, inside, some_is_one}

-- a part and the one that comes after it, joined
joined_parts : (file : Option (List ℕ)) (from at len : ℕ) → from ≤ at
    → part_of from (at - from) file ++ part_of at len file ≡ part_of from (at + len - from) file
joined_parts None from at len ordered = refl
joined_parts (Some c) from at len ordered =
    let there : from + (at - from) ≡ at = omega (arith, ordered) in
    let whole : at - from + len ≡ at + len - from = omega (arith, ordered) in
    sym (ap (λ n. take n (drop from c)) (sym whole) ∙ take-add (at - from) len (drop from c)
    ∙ ap (λ (xs : List ℕ). take (at - from) (drop from c) ++ take len xs) (drop-drop (at - from) from c ∙ ap (λ n. drop n c) there))

-- a hasher that was fed a part, and then the piece that comes after it
pub fed_on : (h : Hasher) (file there : Option (List ℕ)) (from at len n : ℕ) → from ≤ at → there ≡ file → n ≡ len
    → WasFedBytes h (part_of from (at - from) file ++ part_of at n there) → WasFedBytes h (part_of from (at + len - from) file)
fed_on h file there from at len n ordered same long fed =
    subst (λ (xs : List ℕ). WasFedBytes h xs)
    (ap (λ (o : Option (List ℕ)). part_of from (at - from) file ++ part_of at n o) same
    ∙ ap (λ k. part_of from (at - from) file ++ part_of at k file) long ∙ joined_parts file from at len ordered) fed

-- what was found of a file, and what is stored at its end
pub hashed_file : (file : Option (List ℕ)) (from size stored hash : ℕ) → Some size ≡ option_map length file → from + 4 ≤ size
    → IfSome file (λ c. stored ≡ be32_at c (size - 4)) → hash ≡ hash_of (part_of from (size - 4 - from) file)
    → IfSome file (λ c. (stored == hash) ≡ is_hashed (drop from c))
hashed_file None from size stored hash told room is found = tt
hashed_file (Some c) from size stored hash told room is found =
    let long : size ≡ length c = ap (inside) told in
    let d = length-drop from c in
    let at : size - 4 ≡ from + (length (drop from c) - 4) = omega (arith, room, long, d) in
    let body : size - 4 - from ≡ length (drop from c) - 4 = omega (arith, room, long, d) in
    let number : stored ≡ be32_at (drop from c) (length (drop from c) - 4) =
    is ∙ ap (λ n. from_be_bytes w32 (drop n c)) at ∙ sym (ap (λ (xs : List ℕ). from_be_bytes w32 xs) (drop-drop (length (drop from c) - 4) from c)) in
    ap (λ n. n == hash) number
    ∙ ap (λ n. be32_at (drop from c) (length (drop from c) - 4) == n) (found ∙ ap (λ n. hash_of (take n (drop from c))) body)

-- where the second of two checks fails there is a fault
second_fails : {F : Type 0} (x y : Bool) (f g : F) (more : Option F) → y ≡ false
    → (h : F) × (option_or (if x then (if y then None else Some g) else Some f) more ≡ Some h)
second_fails false y f g more fails = (f, refl)
second_fails true y f g more fails = (g, ap (λ (b : Bool). option_or (if b then None else Some g) more) fails)

-- of two checks and what comes after them, the second fails
middle_fails : {F : Type 0} (x y : Bool) (f g : F) (more : Option F) → y ≡ false
    → (h : F) × ((if x then (if y then more else Some g) else Some f) ≡ Some h)
middle_fails false y f g more fails = (f, refl)
middle_fails true y f g more fails = (g, ap (λ (b : Bool). if b then more else Some g) fails)

-- of three checks, the last fails where the first holds
last_fails : {F : Type 0} (x y z : Bool) (f g h : F) → (x ≡ true → z ≡ false)
    → (k : F) × ((if x then (if y then (if z then None else Some h) else Some g) else Some f) ≡ Some k)
last_fails false y z f g h fails = (f, refl)
last_fails true false z f g h fails = (g, refl)
last_fails true true z f g h fails = (h, ap (λ (b : Bool). if b then None else Some h) (fails refl))

-- records whose hash is another
unhashed : (part : List ℕ) → is_hashed part ≡ false → IsFaulty part
unfolding records_checks
unhashed part wrong = middle_fails (length (body_of part) % 41 == 0) (is_hashed part) records_faults.Length records_faults.Hash
    (if are_distinct (names_of (stored_in part)) then None else Some records_faults.Repeated) wrong

pub unhashed_file : (file : Option (List ℕ)) (from : ℕ) (hashed : Bool) → IfSome file (λ c. hashed ≡ is_hashed (drop from c)) → not hashed ≡ true
    → IfSome file (λ c. IsFaulty (drop from c))
unhashed_file None from hashed is wrong = tt
unhashed_file (Some c) from hashed is wrong = unhashed (drop from c) (sym is ∙ not-true hashed wrong)

-- names of which one stands twice
and_false : (b : Bool) → (b && false) ≡ false
and_false true = refl
and_false false = refl

first_twice : (a b : Name) (names : List Name) → a.0 ≡ b.0 → are_distinct (a ∷ b ∷ names) ≡ false
first_twice a b names same =
    ap (λ t. not (t || list_any (same_name a) names) && are_distinct (b ∷ names)) ((bytes_eq-Decides a.0 b.0).1 same)

later_twice : (a : Name) (names : List Name) → are_distinct names ≡ false → are_distinct (a ∷ names) ≡ false
later_twice a names twice = ap (λ t. not (list_any (same_name a) names) && t) twice ∙ and_false (not (list_any (same_name a) names))

-- the last two of some records have one name
pair_twice : (k : ℕ) (xs : List ℕ) → IsPairAt (k * 41) xs → are_distinct (names_of (map record_in (first_chunks 41 (suc (suc k)) xs))) ≡ false
pair_twice zero xs same = first_twice (record { 0 = take 20 (take 41 xs) }) (record { 0 = take 20 (take 41 (drop 41 xs)) }) []
    (take-take 20 41 xs (omega arith) ∙ same ∙ sym (take-take 20 41 (drop 41 xs) (omega arith)))
pair_twice (suc k) xs same =
    let here : 41 + k * 41 ≡ suc k * 41 = omega arith in
    let next : 41 + (k * 41 + 41) ≡ suc k * 41 + 41 = omega arith in
    let first : take 20 (drop (k * 41) (drop 41 xs)) ≡ take 20 (drop (suc k * 41) xs) =
    ap (take 20) (drop-drop (k * 41) 41 xs ∙ ap (λ n. drop n xs) here) in
    let second : take 20 (drop (k * 41 + 41) (drop 41 xs)) ≡ take 20 (drop (suc k * 41 + 41) xs) =
    ap (take 20) (drop-drop (k * 41 + 41) 41 xs ∙ ap (λ n. drop n xs) next) in
    later_twice (record { 0 = take 20 (take 41 xs) }) (names_of (map record_in (first_chunks 41 (suc (suc k)) (drop 41 xs))))
    (pair_twice k (drop 41 xs) (first ∙ same ∙ sym second))

-- records that end in two of one name
paired : (part : List ℕ) (at : ℕ) → at + 86 ≡ length part → IsPairAt at part → IsFaulty part
unfolding records_checks
paired part at long pair =
    last_fails (length (body_of part) % 41 == 0) (is_hashed part) (are_distinct (names_of (stored_in part)))
    records_faults.Length records_faults.Hash records_faults.Repeated (λ whole. repeated (eqb-true _ _ whole))
  where
    repeated : length (body_of part) % 41 ≡ 0 → are_distinct (names_of (stored_in part)) ≡ false
    repeated whole =
        let body = body_of part in
        let cut : length part - 4 ≡ at + 82 = omega (arith, long) in
        let count : length body ≡ at + 82 = length-take-le (length part - 4) part (omega arith) ∙ cut in
        let even : at / 41 * 41 ≡ at = omega (arith, whole, count) in
        let all : length body / 41 ≡ suc (suc (at / 41)) = omega (arith, whole, count) in
        let is : body ≡ take (at + 82) part = ap (λ n. take n part) cut in
        let two : at + 82 ≡ at + 41 + 41 = omega arith in
        let first : take 20 (drop (at / 41 * 41) body) ≡ take 20 (drop at part) =
        ap (λ n. take 20 (drop n body)) even ∙ ap (λ (xs : List ℕ). take 20 (drop at xs)) is
        ∙ ap (take 20) (drop-take at 82 part) ∙ take-take 20 82 (drop at part) (omega arith) in
        let second : take 20 (drop (at / 41 * 41 + 41) body) ≡ take 20 (drop (at + 41) part) =
        ap (λ n. take 20 (drop (n + 41) body)) even ∙ ap (λ (xs : List ℕ). take 20 (drop (at + 41) xs)) (is ∙ ap (λ n. take n part) two)
        ∙ ap (take 20) (drop-take (at + 41) 41 part) ∙ take-take 20 41 (drop (at + 41) part) (omega arith) in
        ap (λ n. are_distinct (names_of (map record_in (first_chunks 41 n body)))) all ∙ pair_twice (at / 41) body (first ∙ pair ∙ sym second)

pub paired_file : (file : Option (List ℕ)) (from size : ℕ) → Some size ≡ option_map length file → from + 86 ≤ size
    → IfSome file (IsPairAt (size - 86)) → IfSome file (λ c. IsFaulty (drop from c))
paired_file None from size told room pair = tt
paired_file (Some c) from size told room pair =
    let long : size ≡ length c = ap (inside) told in
    let d = length-drop from c in
    let at = size - 86 - from in
    let first : from + at ≡ size - 86 = omega (arith, room) in
    let second : from + (at + 41) ≡ size - 86 + 41 = omega (arith, room) in
    paired (drop from c) at (omega (arith, long, d, room))
    (ap (take 20) (drop-drop at from c ∙ ap (λ n. drop n c) first) ∙ pair ∙ sym (ap (take 20) (drop-drop (at + 41) from c ∙ ap (λ n. drop n c) second)))

-- the names of the last two records, as they were read
pub pair_read : (file : Option (List ℕ)) (size n : ℕ) (read zeros : List ℕ) → Some size ≡ option_map length file → 86 ≤ size
    → (n ≡ length (part_of (size - 86) 61 file)) × (read ≡ part_of (size - 86) 61 file ++ drop n zeros) → length zeros ≡ 61
    → take 20 read ≡ take 20 (drop 41 read) → IfSome file (IsPairAt (size - 86))
pair_read None size n read zeros told room got long same = tt
pair_read (Some c) size n read zeros told room got long same =
    let rest = drop (size - 86) c in
    let there : size ≡ length c = ap (inside) told in
    let d = length-drop (size - 86) c in
    let whole : length (take 61 rest) ≡ 61 = length-take-le 61 rest (omega (arith, d, there, room)) in
    let count = got.0 in
    let none : drop n zeros ≡ [] = nil_from_length (drop n zeros) (omega (arith, length-drop n zeros, count, whole, long)) in
    let is : read ≡ take 61 rest = got.1 ∙ ap (λ (xs : List ℕ). take 61 rest ++ xs) none ∙ append-nil (take 61 rest) in
    sym (take-take 20 61 rest (omega arith)) ∙ ap (take 20) (sym is) ∙ same ∙ ap (λ (xs : List ℕ). take 20 (drop 41 xs)) is
    ∙ ap (take 20) (drop-take 41 20 rest) ∙ take-take 20 20 (drop 41 rest) (omega arith) ∙ ap (take 20) (drop-drop 41 (size - 86) c)

-- a file of another version is no index
pub other_version : (file : Option (List ℕ)) (size version : ℕ) → Some size ≡ option_map length file
    → IfSome file (λ c. version ≡ be32_at c 0) → version ≢ 0xA → index_kind file ≡ Invalid
unfolding header_checks
other_version None size version told is other = absurd (some_is_one size told)
other_version (Some c) size version told is other =
    let found = second_fails (nat_le 20 (length c)) (be32_at c 0 == 0xA) index_faults.Short index_faults.Version
    (option_map index.fault_of (records_fault (drop 16 c))) (ap (λ n. n == 0xA) (sym is) ∙ ne_eqb version 0xA other) in
    faulty_index_is c found.0 found.1

-- records that fail a check make no index
faulty_index : (file : Option (List ℕ)) (size : ℕ) → Some size ≡ option_map length file → IfSome file (λ c. IsFaulty (drop 16 c)) → index_kind file ≡ Invalid
unfolding header_checks
faulty_index None size told fault = absurd (some_is_one size told)
faulty_index (Some c) size told fault =
    let found = a_check_fails (nat_le 20 (length c)) (be32_at c 0 == 0xA) index_faults.Short index_faults.Version
    (option_map index.fault_of (records_fault (drop 16 c))) (λ long. (index.fault_of fault.0, ap (option_map index.fault_of) fault.1)) in
    faulty_index_is c found.0 found.1

-- and no journal
faulty_journal : (file : Option (List ℕ)) (size : ℕ) → Some size ≡ option_map length file → IfSome file (λ c. IsFaulty (drop 0 c)) → log_kind file ≡ BadLog
faulty_journal None size told fault = absurd (some_is_one size told)
faulty_journal (Some c) size told fault = go (nat_le 4 (length c)) refl
  where
    go : (b : Bool) → nat_le 4 (length c) ≡ b → log_kind (Some c) ≡ BadLog
    go false short = faulty_journal_is c journal_faults.Short
        (ap (λ (b : Bool). if b then option_map journals.fault_of (records_fault c) else Some journal_faults.Short) short)
    go true long = faulty_journal_is c (journals.fault_of fault.0)
        (ap (λ (b : Bool). if b then option_map journals.fault_of (records_fault c) else Some journal_faults.Short) long ∙ ap (option_map journals.fault_of) fault.1)

-- what an answer says of a file, where the disk tells
pub answer_index : {E T : Type 0} (answer : Result Bool E) (file there : Option (List ℕ)) (size : ℕ) → (T → Some size ≡ option_map length file) → (T → there ≡ file)
    → IfOk answer (λ fails. T → fails ≡ true → IfSome there (λ c. IsFaulty (drop 16 c))) → IfOk answer (λ fails. T → fails ≡ true → index_kind file ≡ Invalid)
answer_index (Ok fails) file there size told same is = λ t set.
    faulty_index file size (told t) (subst (λ (o : Option (List ℕ)). IfSome o (λ c. IsFaulty (drop 16 c))) (same t) (is t set))
answer_index (Err e) file there size told same is = tt

pub answer_journal : {E T : Type 0} (answer : Result Bool E) (file : Option (List ℕ)) (size : ℕ) → (T → Some size ≡ option_map length file)
    → IfOk answer (λ fails. T → fails ≡ true → IfSome file (λ c. IsFaulty (drop 0 c))) → IfOk answer (λ fails. T → fails ≡ true → log_kind file ≡ BadLog)
answer_journal (Ok fails) file size told is = λ t set. faulty_journal file size (told t) (is t set)
answer_journal (Err e) file size told is = tt
