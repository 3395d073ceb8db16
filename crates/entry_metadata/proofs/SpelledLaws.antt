-- A block that passes its checks is spelled.
use Rattle.std.proofs.Common.{◌⊎◌, inl, inr, ◌≡◌, ℕ, zero, suc, ◌+◌, ◌-◌, ◌*◌, ◌^◌, ◌<◌, ◌≤◌, List, ◌∷◌, ◌++◌, length, take, drop, get_or, true, refl, sym, ap, subst, ◌∙◌, arith, length-take, length-drop, drop-cons}
use Rattle.std.specs.Prelude.{◌==◌, ◌&&◌, nat_lt, map, flat_map, slice_index, slice_range, None}
use Rattle.std.specs.List.{AllByRecursion, range_with_len}
use Rattle.std.proofs.lemmas.Bool.{and_parts, eqb-true, leb-true, ltb-true}
use Rattle.std.proofs.lemmas.List.{take-append-drop, drop-drop}
use Rattle.cache_base.specs.Checks.{first_failing}
use Rattle.std.proofs.lemmas.List.FromFn.{length-map-range_with_len}
use Rattle.cache_base.specs.Bytes.{AreBytes, be32, be16, be32_at, be16_at}
use Rattle.cache_base.specs.Limits.{chunks}
use Rattle.cache_base.specs.declared.limits.TheConstants.{BLOCK_MAX}
use Rattle.cache_base.proofs.ByteLaws.{bytes_take, bytes_drop, cut, four, small16, take_more, two}
use Rattle.cache_base.proofs.CheckLaws.{AllHold, all_hold, none_fails}
use Rattle.jenkins_hash.specs.Hash.{hash_of}
use Rattle.entry_key.specs.declared.key_fault.KeyFault.{KeyFault}
use Rattle.entry_key.specs.Key.{KeyReads, Tag}
use Rattle.entry_key.specs.Walk.{read_key, reads}
use Rattle.entry_key.proofs.KeyLaws.{fails_exactly, reads_or_fails}
use Rattle.entry_key.specs.Faults.{HasFault}
use Rattle.entry_parts.specs.Elements.{AreElements, elements_bytes, elements_of, have_form}
use Rattle.entry_parts.proofs.SpelledLaws.{elements_are, elements_spelled}
use Rattle.entry_metadata.specs.Metadata.{CanSay, Format, Third, Meta, header_as, block_rest_as, block_as, block_bytes, IsMeta, Spells}
use Rattle.entry_metadata.specs.Checks.{block_fault, block_max, checks_of, header_len, meta_in}
use Rattle.entry_metadata.specs.Laws.{BlockReadsBack, BlockFitsExactly}
use Rattle.entry_metadata.proofs.FormatLaws.{bytes_of, format_of, header_len-number, number, small_out, stored_can, stored_small, stored_spelled}
use Rattle.entry_metadata.proofs.BlockLaws.{block_passes, length-block_as, meta_is}

-- a key without a fault reads as some tags and an address
pub reading : (key : List ℕ) → reads (read_key key) ≡ true → (tags : List Tag) × (address : List ℕ) × KeyReads key tags address
reading key h = go (reads_or_fails key)
  where
    go : ((tags : List Tag) × (address : List ℕ) × KeyReads key tags address) ⊎ ((f : KeyFault) × HasFault key f) → (tags : List Tag) × (address : List ℕ) × KeyReads key tags address
    go (inl r) = r
    go (inr f) = absurd (let refused = sym h ∙ ap reads ((fails_exactly key f.0).1 f.1) in cc refused)

hashes_spelled : (block : List ℕ) → AreBytes block → (a n : ℕ) → 4 + 2 * (a + n) ≤ length block
    → flat_map be16 (map (λ i. be16_at block (4 + 2 * i)) (range_with_len a n)) ≡ take (2 * n) (drop (4 + 2 * a) block)
hashes_spelled block bytes a zero long = refl
hashes_spelled block bytes a (suc n) long =
    let here : List ℕ = drop (4 + 2 * a) block in
    let enough : 2 ≤ length here = let l = length-drop (4 + 2 * a) block in omega (arith, l, long) in
    let next : drop (4 + 2 * (a + 1)) block ≡ drop 2 here = (let e : 4 + 2 * (a + 1) ≡ 4 + 2 * a + 2 = omega arith in ap (λ k. drop k block) e) ∙ sym (drop-drop 2 (4 + 2 * a) block) in
    let more : flat_map be16 (map (λ i. be16_at block (4 + 2 * i)) (range_with_len (a + 1) n)) ≡ take (2 * n) (drop 2 here) =
    hashes_spelled block bytes (a + 1) n (omega (arith, long)) ∙ ap (take (2 * n)) next in
    (λ i. two here (bytes_drop (4 + 2 * a) block bytes) enough i ++ more i) ∙ take_more 2 (2 * n) here ∙ (let e : 2 + 2 * n ≡ 2 * suc n = omega arith in ap (λ k. take k here) e)

hashes_small : (block : List ℕ) → AreBytes block → (a n : ℕ) → AllByRecursion (λ h. h < 2 ^ 16) (map (λ i. be16_at block (4 + 2 * i)) (range_with_len a n))
hashes_small block bytes a zero = tt
hashes_small block bytes a (suc n) = (small16 (drop (4 + 2 * a) block) (bytes_drop (4 + 2 * a) block bytes), hashes_small block bytes (a + 1) n)

module _ (block : List ℕ) (o : ℕ) (bytes : AreBytes block) (hold : AllHold (checks_of block (meta_in block o))) where
  h : ℕ
  h = chunks o

  m : Meta
  m = meta_in block o

  header_bytes_in : List ℕ
  header_bytes_in = drop (4 + 2 * chunks o) block

  size : ℕ
  size = be32_at (drop (4 + 2 * chunks o) block) 24

  -- its version, and the length of its header
  version : ℕ
  version = be32_at block (4 + 2 * chunks o)

  format : (f : Format) × (number f ≡ version)
  unfolding checks_of meta_in version
  format = format_of version hold.1.1.0

  k : ℕ
  k = bytes_of format.0

  len_is : header_len version ≡ k
  unfolding k
  len_is = sym (ap header_len format.1) ∙ header_len-number format.0

  -- where the key begins
  place : ℕ
  place = 4 + 2 * chunks o + k

  at_place : 4 + 2 * chunks o + header_len version ≡ place
  unfolding place
  at_place = ap (λ n. 4 + 2 * chunks o + n) len_is

  key_is : m.key ≡ slice_range block place (place + size)
  unfolding meta_in m size version
  key_is = ap (λ n. slice_range block n (n + size)) at_place

  elements_in : m.elements ≡ elements_of (drop (place + size + 1) block)
  unfolding meta_in m size version
  elements_in = ap (λ n. elements_of (drop (n + size + 1) block)) at_place

  small : length block + 32 ≤ BLOCK_MAX + k
  unfolding checks_of meta_in version k
  small = small_out format.0 (length block) (subst (λ v. length block ≤ block_max v) (sym format.1) (leb-true _ _ hold.1.0))

  ends : (nat_lt (place + size) (length block) && slice_index block (place + size) == 0) ≡ true
  unfolding checks_of meta_in m size version
  ends = ap (λ n. nat_lt (n + size) (length block) && slice_index block (n + size) == 0) (sym at_place) ∙ hold.1.1.1.0

  form : have_form (drop (place + size + 1) block) ≡ true
  unfolding checks_of meta_in m size version
  form = ap (λ n. have_form (drop (n + size + 1) block)) (sym at_place) ∙ hold.1.1.1.1.1.1.0

  hash_is : be32_at block 0 ≡ hash_of (drop 4 block)
  unfolding checks_of meta_in
  hash_is = eqb-true _ _ hold.1.1.1.1.0

  key_reads : reads (read_key m.key) ≡ true
  unfolding checks_of meta_in m
  key_reads = hold.1.1.1.1.1.0

  end_parts : (place + size < length block) × (slice_index block (place + size) ≡ 0)
  end_parts = let both : _ × _ = and_parts _ _ ends in (ltb-true _ _ both.0, eqb-true _ _ both.1)

  long : place + size < length block
  long = end_parts.0

  hashes_there : flat_map be16 m.hashes ≡ take (2 * h) (drop 4 block)
  unfolding meta_in m h place
  hashes_there = let l = long in hashes_spelled block bytes 0 (chunks o) (omega (arith, l))

  header_long : k ≤ length header_bytes_in
  unfolding place header_bytes_in
  header_long = let l = long in let n = length-drop (4 + 2 * chunks o) block in omega (arith, l, n)

  header_are : AreBytes header_bytes_in
  unfolding header_bytes_in
  header_are = bytes_drop (4 + 2 * chunks o) block bytes

  header_there : header_as format.0 m.header ≡ take k (drop (4 + 2 * chunks o) block)
  unfolding meta_in m k version header_bytes_in
  header_there = stored_spelled header_bytes_in header_are format.0 format.1 header_long

  key_there : m.key ≡ take size (drop place block)
  key_there = key_is ∙ (let e : place + size - place ≡ size = omega arith in ap (λ n. take n (drop place block)) e)

  elements_there : elements_bytes m.elements ≡ drop (place + size + 1) block
  elements_there = ap elements_bytes elements_in ∙ elements_spelled (drop (place + size + 1) block) form

  rest_there : 0 ∷ elements_bytes m.elements ≡ drop (place + size) block
  rest_there =
      let zero_is : 0 ≡ get_or block (place + size) 0 = sym end_parts.1 in
      let next : drop (place + size + 1) block ≡ drop (suc (place + size)) block =
      let e : place + size + 1 ≡ suc (place + size) = omega arith in ap (λ n. drop n block) e in
      (λ i. zero_is i ∷ (elements_there ∙ next) i) ∙ sym (drop-cons block (place + size) 0 end_parts.0)

  rest_spelled : block_rest_as format.0 m ≡ drop 4 block
  unfolding h place
  rest_spelled =
      (λ i. hashes_there i ++ (header_there i ++ (key_there i ++ rest_there i)))
      ∙ ap (λ ys. take (2 * h) (drop 4 block) ++ (take k (drop (4 + 2 * chunks o) block) ++ ys)) (cut block place size)
      ∙ ap (λ ys. take (2 * h) (drop 4 block) ++ ys) (cut block (4 + 2 * chunks o) k)
      ∙ cut block 4 (2 * h)

  four_long : 4 ≤ length block
  unfolding place
  four_long = let l = long in omega (arith, l)

  block_spelled : block_as format.0 m ≡ block
  block_spelled =
      (λ i. be32 (hash_of (rest_spelled i)) ++ rest_spelled i)
      ∙ ap (λ n. be32 n ++ drop 4 block) (sym hash_is)
      ∙ ap (λ ys. ys ++ drop 4 block) (four block bytes four_long)
      ∙ take-append-drop 4 block

  key_long : m.header.key_size ≡ length m.key
  unfolding meta_in m size
  key_long =
      let l = long in let n = length-drop place block in let t = length-take size (drop place block) in
      sym (ap length key_there ∙ t ∙ (omega (arith, l, n)))

  small_written : length (block_bytes m) ≤ BLOCK_MAX
  unfolding k
  small_written =
      let a = length-block_as format.0 m in let b = length-block_as Third m in let c = ap length block_spelled in let s = small in
      omega (arith, a, b, c, s)

  can_say : CanSay format.0 m.header
  unfolding meta_in m version header_bytes_in
  can_say = stored_can header_bytes_in header_are format.0 format.1

  is_meta : o < 2 ^ 32 - 1 → IsMeta m
  unfolding meta_in m
  is_meta low = record {
    header = stored_small (drop (4 + 2 * chunks o) block) (bytes_drop (4 + 2 * chunks o) block bytes);
    version = refl;
    key_size = key_long;
    key = reading m.key key_reads;
    key_bytes = subst AreBytes (sym key_there) (bytes_take size (drop place block) (bytes_drop place block bytes));
    elements = subst AreElements (sym elements_in) (elements_are (drop (place + size + 1) block));
    element_bytes = subst AreBytes (sym elements_there) (bytes_drop (place + size + 1) block bytes);
    hashes = length-map-range_with_len (λ i. be16_at block (4 + 2 * i)) 0 (chunks o);
    hash_words = hashes_small block bytes 0 (chunks o);
    offset = low;
    small = small_written;
  }

  -- what it says is written as the block
  pub spelled : o < 2 ^ 32 - 1 → Spells block o (meta_in block o)
  unfolding m meta_in
  spelled low = record { meta = is_meta low; at = refl; format = format.0; can = can_say; bytes = sym block_spelled }

pub block_reads_back : BlockReadsBack
block_reads_back f m is can =
    let passes : AllHold (checks_of (block_as f m) m) = block_passes f m is can in
    (ap (λ (n : Meta). first_failing (checks_of (block_as f m) n)) (meta_is f m is can) ∙ none_fails _ passes, meta_is f m is can)

-- a block that passes its checks spells what it says
pub passes-Spells : (block : List ℕ) (offset : ℕ) → AreBytes block → offset < 2 ^ 32 - 1 → block_fault block offset ≡ None → Spells block offset (meta_in block offset)
passes-Spells block offset bytes low e = spelled block offset bytes (all_hold _ e) low

-- and what it spells is what it says
pub Spells-passes : (block : List ℕ) (offset : ℕ) (m : Meta) → Spells block offset m → block_fault block offset ≡ None
Spells-passes block offset m s =
    subst (λ b. block_fault b offset ≡ None) (sym s.bytes) (subst (λ o. block_fault (block_as s.format m) o ≡ None) s.at (block_reads_back s.format m s.meta s.can).0)

pub Spells-says : (block : List ℕ) (offset : ℕ) (m : Meta) → Spells block offset m → meta_in block offset ≡ m
Spells-says block offset m s = (λ i. meta_in (s.bytes i) (sym s.at i)) ∙ (block_reads_back s.format m s.meta s.can).1

pub block_fits_exactly : BlockFitsExactly
block_fits_exactly block offset bytes low = (
  λ e. (meta_in block offset, passes-Spells block offset bytes low e),
  λ s. Spells-passes block offset s.0 s.1,
)
