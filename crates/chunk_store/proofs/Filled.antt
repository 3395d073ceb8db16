-- What a read into zeros leaves.
use Rattle.std.proofs.Common.{◌≡◌, ℕ, ◌+◌, ◌-◌, ◌*◌, ◌<◌, ◌≤◌, List, ◌++◌, length, take, drop, Option, Some, None, Result, Ok, Err, sym, ap, ◌∙◌, arith}
use Rattle.std.specs.Prelude.{min, replicate, IfSome, OnOk}
use Rattle.std.proofs.lemmas.Grind.{common_steps}
use Rattle.std.proofs.lemmas.List.{drop-take, take_at}
use Rattle.cache_base.specs.Limits.{chunk_size, chunks}
use Rattle.disk_theory.specs.State.{part_of}
use Rattle.disk_theory.specs.declared.disk.DiskFault.{DiskFault}
use Rattle.chunk_store.specs.Chunks.{chunk}
use Rattle.chunk_store.specs.Stored.{filled_up, read_as, chunk_len}

-- a part with all bytes is not filled up
filled_whole : (n : ℕ) (part : List ℕ) → length part ≡ n → part ++ replicate (n - length part) 0 ≡ part
filled_whole n part e = grind (arith, common_steps)

-- the first bytes of a prefix, by the shorter of both
take_front : (size m : ℕ) (xs : List ℕ) → take size (take m xs) ≡ take (min size m) xs
take_front size m xs = grind (arith, common_steps)

-- a part within the prefix of a content
part_in_front : (size from len : ℕ) (content : List ℕ) → from ≤ len → take (min size (len - from)) (drop from content) ≡ take size (drop from (take len content))
part_in_front size from len content low =
    sym (take_front size (len - from) (drop from content))
    ∙ ap (λ (xs : List ℕ). take size xs) (sym (drop-take from (len - from) content) ∙ ap (λ (j : ℕ). drop from (take j content)) (omega (arith, low)))

length_part : (n from : ℕ) (content : List ℕ) → from + n ≤ length content → length (take n (drop from content)) ≡ n
length_part n from content low = grind (arith, common_steps)

-- a chunk of a body that the file has in full, read at its offset
chunk_read : (size from len : ℕ) (content : List ℕ) → from ≤ len → len ≤ length content → filled_up (min size (len - from)) (take (min size (len - from)) (drop from content)) ≡ take size (drop from (take len content))
chunk_read size from len content low all =
    filled_whole (min size (len - from)) (take (min size (len - from)) (drop from content)) (length_part (min size (len - from)) from content (omega (arith, low, all)))
    ∙ part_in_front size from len content low

-- so is chunk i
pub chunk_read_whole : (len i : ℕ) (content : List ℕ) → i < chunks len → len ≤ length content → read_as len i (Some content) ≡ chunk (take len content) i
chunk_read_whole len i content below all = chunk_read 262144 (i * 262144) len content (omega (arith, below)) all

-- where a file stands that has the body in full
pub chunk_of_file : (len i n : ℕ) (file : Option (List ℕ)) (bytes : List ℕ) → i < chunks len → n ≡ chunk_len len i → bytes ≡ filled_up n (part_of (i * chunk_size) n file) → IfSome file (λ content. len ≤ length content → bytes ≡ chunk (take len content) i)
chunk_of_file len i n None bytes below is e = tt
chunk_of_file len i n (Some content) bytes below is e = λ all.
    e ∙ ap (λ (k : ℕ). filled_up k (part_of (i * chunk_size) k (Some content))) is ∙ chunk_read_whole len i content below all

-- what is known of an answer that was done
pub if_read : {P Q : Type 0} → (r : Result Unit DiskFault) → (P → Q) → OnOk r P → OnOk r Q
if_read (Ok value) f p = f p
if_read (Err fault) f p = tt

-- a list with a tail, cut back to its length
pub cut_back : (n : ℕ) (old tail : List ℕ) → length old ≡ n → take n (old ++ tail) ++ replicate (n - length (old ++ tail)) 0 ≡ old
cut_back n old tail e = grind (arith, common_steps)

-- a part that is read over any bytes, of which the rest is made zeros
pub read_over_any : (k m : ℕ) (old part now : List ℕ) → k ≡ length part → m ≡ length now → now ≡ part ++ drop k old → take k now ++ replicate (m - k) 0 ≡ filled_up m part
read_over_any k m old part now e l is =
    ap (λ xs. take k xs ++ replicate (m - k) 0) is ∙ ap (λ xs. xs ++ replicate (m - k) 0) (take_at part (drop k old) k (sym e)) ∙ ap (λ j. part ++ replicate (m - j) 0) e

-- so a chunk is read over any bytes
pub chunk_over_any : (len i k : ℕ) (file : Option (List ℕ)) (old now after : List ℕ) → i < chunks len → length old ≡ chunk_len len i → length now ≡ length old
    → k ≡ length (part_of (i * chunk_size) (length old) file) → now ≡ part_of (i * chunk_size) (length old) file ++ drop k old → after ≡ take k now ++ replicate (length now - k) 0
    → IfSome file (λ content. len ≤ length content → after ≡ chunk (take len content) i)
chunk_over_any len i k file old now after below long same e is z =
    chunk_of_file len i (length old) file after below long
    (z ∙ ap (λ m. take k now ++ replicate (m - k) 0) same ∙ read_over_any k (length old) old (part_of (i * chunk_size) (length old) file) now e (sym same) is)
