-- A block that is spelled says what it spells, and passes its checks.
use Rattle.std.proofs.Common.{◌≡◌, ℕ, ◌+◌, ◌-◌, ◌*◌, ◌^◌, ◌<◌, ◌≤◌, List, [], ◌∷◌, ◌++◌, length, take, drop, true, refl, sym, ap, ◌∙◌, arith, append_assoc, length-append}
use Rattle.std.specs.Prelude.{◌==◌, ◌&&◌, nat_le, nat_lt, map, flat_map, slice_index, slice_range}
use Rattle.std.specs.List.{AllByRecursion, range_with_len}
use Rattle.std.specs.Int.{w16, from_be_bytes}
use Rattle.std.proofs.lemmas.Bool.{and_from, eq-eqb, lt-ltb, le-leb}
use Rattle.std.proofs.lemmas.List.{take_at, drop_at}
use Rattle.std.proofs.Math.Seq.{get_or-append_seam}
use Rattle.cache_base.specs.Bytes.{be32, be16, be16_at, be32_at}
use Rattle.cache_base.specs.Limits.{chunks}
use Rattle.cache_base.proofs.ByteLaws.{be32_front, be16_front}
use Rattle.cache_base.proofs.CheckLaws.{AllHold}
use Rattle.jenkins_hash.specs.Hash.{hash_of}
use Rattle.jenkins_hash.proofs.HashLaws.{hash_of-lt}
use Rattle.entry_key.specs.Walk.{read_key, reads}
use Rattle.entry_key.proofs.KeyLaws.{reads_exactly}
use Rattle.entry_parts.specs.declared.header.Header.{Header}
use Rattle.entry_parts.specs.Elements.{elements_bytes, elements_of, have_form}
use Rattle.entry_parts.proofs.ElementLaws.{elements_of-elements_bytes, have_form-elements_bytes}
use Rattle.entry_metadata.specs.Metadata.{CanSay, Format, Third, Meta, header_as, block_rest_as, block_as, IsMeta}
use Rattle.entry_metadata.specs.Checks.{block_max, header_len, header_place, is_version, meta_in, checks_of, stored_header}
use Rattle.entry_metadata.proofs.FormatLaws.{bytes_of, bytes_within, header_len-number, is_version-number, length-header_as, number, small_in, stored_front}

pub length_hashes : (hs : List ℕ) → length (flat_map be16 hs) ≡ 2 * length hs
length_hashes [] = refl
length_hashes (h ∷ hs) = let more = length_hashes hs in omega (arith, more)

hashes_at : (front hs rest : List ℕ) (a : ℕ) → length front ≡ 4 + 2 * a → AllByRecursion (λ h. h < 2 ^ 16) hs
    → map (λ i. be16_at (front ++ (flat_map be16 hs ++ rest)) (4 + 2 * i)) (range_with_len a (length hs)) ≡ hs
hashes_at front [] rest a long small = refl
hashes_at front (h ∷ hs) rest a long small =
    let tail : List ℕ = flat_map be16 hs ++ rest in
    let regroup : front ++ (be16 h ++ tail) ≡ (front ++ be16 h) ++ tail = sym (append_assoc front (be16 h) tail) in
    let head : be16_at (front ++ (be16 h ++ tail)) (4 + 2 * a) ≡ h =
    ap (from_be_bytes w16) (drop_at front (be16 h ++ tail) (4 + 2 * a) long) ∙ be16_front h tail small.0 in
    let longer : length (front ++ be16 h) ≡ 4 + 2 * (a + 1) = rw length-append (omega (arith, long)) in
    let more : map (λ i. be16_at (front ++ (be16 h ++ tail)) (4 + 2 * i)) (range_with_len (a + 1) (length hs)) ≡ hs =
    ap (λ xs. map (λ i. be16_at xs (4 + 2 * i)) (range_with_len (a + 1) (length hs))) regroup
    ∙ hashes_at (front ++ be16 h) hs rest (a + 1) longer small.1 in
    λ i. head i ∷ more i

-- the length of a block
pub length-block_as : (f : Format) (m : Meta) → length (block_as f m) ≡ 4 + 2 * length m.hashes + bytes_of f + length m.key + 1 + length (elements_bytes m.elements)
length-block_as f m =
    let a = length-append (flat_map be16 m.hashes) (header_as f m.header ++ (m.key ++ 0 ∷ elements_bytes m.elements)) in
    let b = length-append (header_as f m.header) (m.key ++ 0 ∷ elements_bytes m.elements) in
    let c = length-append m.key (0 ∷ elements_bytes m.elements) in
    let d = length_hashes m.hashes in
    let e = length-header_as f m.header in
    omega (arith, a, b, c, d, e)

-- a block of this version
module _ (f : Format) (m : Meta) (is : IsMeta m) (can : CanSay f m.header) where
  count : ℕ
  count = chunks m.offset

  block : List ℕ
  block = block_as f m

  front1 : List ℕ
  front1 = be32 (hash_of (block_rest_as f m)) ++ flat_map be16 m.hashes

  front2 : List ℕ
  front2 = front1 ++ header_as f m.header

  front3 : List ℕ
  front3 = front2 ++ m.key

  rest3 : List ℕ
  rest3 = 0 ∷ elements_bytes m.elements

  -- where the key begins
  place : ℕ
  place = 4 + 2 * count + bytes_of f

  cut1 : block ≡ front1 ++ (header_as f m.header ++ (m.key ++ rest3))
  unfolding block front1 rest3
  cut1 = sym (append_assoc (be32 (hash_of (block_rest_as f m))) (flat_map be16 m.hashes) _)

  cut2 : block ≡ front2 ++ (m.key ++ rest3)
  unfolding front2
  cut2 = cut1 ∙ sym (append_assoc front1 (header_as f m.header) _)

  cut3 : block ≡ front3 ++ rest3
  unfolding front3
  cut3 = cut2 ∙ sym (append_assoc front2 m.key rest3)

  long1 : length front1 ≡ header_place count
  unfolding front1 count
  long1 = let n = length_hashes m.hashes in let c = is.hashes in omega (arith, n, c)

  long2 : length front2 ≡ place
  unfolding front2 place
  long2 = let a = length-append front1 (header_as f m.header) in let b = length-header_as f m.header in omega (arith, long1, a, b)

  long3 : length front3 ≡ place + length m.key
  unfolding front3
  long3 = rw length-append (omega (arith, long2))

  long : length block ≡ place + length m.key + 1 + length (elements_bytes m.elements)
  unfolding rest3
  long = ap length cut3 ∙ length-append front3 rest3 ∙ (let more = long3 in omega (arith, more))

  header_is : stored_header (drop (header_place count) block) ≡ record m.header { version = number f }
  header_is =
      ap (λ xs. stored_header (drop (header_place count) xs)) cut1
      ∙ ap stored_header (drop_at front1 _ (header_place count) long1)
      ∙ stored_front f m.header (m.key ++ rest3) is.header is.version can

  key_is : slice_range block place (place + length m.key) ≡ m.key
  key_is =
      ap (λ xs. take (place + length m.key - place) (drop place xs)) cut2
      ∙ ap (take (place + length m.key - place)) (drop_at front2 _ place long2)
      ∙ take_at m.key rest3 _ (omega arith)

  elements_are : drop (place + length m.key + 1) block ≡ elements_bytes m.elements
  unfolding rest3
  elements_are =
      ap (drop (place + length m.key + 1)) (cut3 ∙ sym (append_assoc front3 (0 ∷ []) (elements_bytes m.elements)))
      ∙ drop_at (front3 ++ 0 ∷ []) (elements_bytes m.elements) _ (rw length-append (omega (arith, long3)))

  zero_is : slice_index block (place + length m.key) ≡ 0
  unfolding rest3
  zero_is =
      ap (λ n. slice_index block n) (sym long3)
      ∙ ap (λ xs. slice_index xs (length front3)) cut3
      ∙ get_or-append_seam front3 0 (elements_bytes m.elements) 0

  hashes_are : map (λ i. be16_at block (4 + 2 * i)) (range_with_len 0 count) ≡ m.hashes
  unfolding block count
  hashes_are =
      ap (λ n. map (λ i. be16_at (block_as f m) (4 + 2 * i)) (range_with_len 0 n)) (sym is.hashes)
      ∙ hashes_at (be32 (hash_of (block_rest_as f m))) m.hashes _ 0 refl is.hash_words

  -- the header's length, and the key's
  len_is : header_len (stored_header (drop (header_place count) block)).version ≡ bytes_of f
  len_is = ap (λ (h : Header). header_len h.version) header_is ∙ header_len-number f

  size_is : (stored_header (drop (header_place count) block)).key_size ≡ length m.key
  size_is = ap (λ (h : Header). h.key_size) header_is ∙ is.key_size

  version_is : be32_at block (header_place count) ≡ number f
  version_is = ap (λ (h : Header). h.version) header_is

  pub meta_is : meta_in (block_as f m) m.offset ≡ m
  unfolding meta_in count block place
  meta_is = λ i. record {
    header = ((λ j. record (header_is j) { version = 3 }) ∙ (λ j. record m.header { version = sym is.version j })) i;
    key = ((λ j. slice_range (block_as f m) (4 + 2 * chunks m.offset + len_is j) (4 + 2 * chunks m.offset + len_is j + size_is j)) ∙ key_is) i;
    elements = ((λ j. elements_of (drop (4 + 2 * chunks m.offset + len_is j + size_is j + 1) (block_as f m)))
        ∙ ap elements_of elements_are ∙ elements_of-elements_bytes m.elements is.elements) i;
    hashes = hashes_are i;
    offset = m.offset;
  }

  -- where the key ends
  end_is : 4 + 2 * count + header_len (be32_at block (header_place count)) + m.header.key_size ≡ place + length m.key
  unfolding place
  end_is = λ i. 4 + 2 * count + len_is i + is.key_size i

  key_reads : reads (read_key m.key) ≡ true
  key_reads = ap reads ((reads_exactly m.key is.key.0 is.key.1).1 is.key.2)

  small : length (block_as f m) ≤ block_max (number f)
  small = let a = length-block_as f m in let b = length-block_as Third m in let c = is.small in small_in f (length (block_as f m)) (omega (arith, a, b, c))

  enough_is : 4 + 2 * count + 29 ≤ length block
  unfolding place
  enough_is = let a : 28 ≤ bytes_of f = (bytes_within f).0 in omega (arith, long, a)

  ends_within : place + length m.key < length block
  ends_within = omega (arith, long)

  pub block_passes : AllHold (checks_of (block_as f m) m)
  unfolding checks_of count block
  block_passes = (
    le-leb _ _ enough_is,
    (
      ap (λ n. nat_le (length (block_as f m)) (block_max n)) version_is ∙ le-leb _ _ small,
      (
        ap is_version version_is ∙ is_version-number f,
        (
          ap (λ n. nat_lt n (length (block_as f m)) && slice_index (block_as f m) n == 0) end_is ∙ and_from _ _ (lt-ltb _ _ ends_within) (ap (λ n. n == 0) zero_is),
          (
            ap (λ n. n == hash_of (block_rest_as f m)) (be32_front (hash_of (block_rest_as f m)) (block_rest_as f m) (hash_of-lt (block_rest_as f m))) ∙ eq-eqb (hash_of (block_rest_as f m)) _ refl,
            (
              key_reads,
              (
                ap (λ n. have_form (drop (n + 1) (block_as f m))) end_is ∙ ap have_form elements_are ∙ have_form-elements_bytes m.elements is.elements,
                tt,
              ),
            ),
          ),
        ),
      ),
    ),
  )
