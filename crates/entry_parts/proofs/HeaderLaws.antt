-- A header and its bytes.
use Rattle.std.proofs.Common.{◌≡◌, ℕ, ◌+◌, ◌≤◌, List, [], ◌++◌, length, take, drop, refl, sym, ap, ◌∙◌, arith, length-drop}
use Rattle.std.proofs.lemmas.List.{append-nil}
use Rattle.std.proofs.lemmas.Nat.{from_be_bytes-to_be_bytes_4}
use Rattle.cache_base.specs.Bytes.{AreBytes, be32, be32_at}
use Rattle.cache_base.proofs.ByteLaws.{bytes_drop, four, small32, take_more}
use Rattle.entry_parts.specs.declared.header.Header.{Header}
use Rattle.entry_parts.specs.Header.{header_bytes, header_in, short_header_bytes, short_header_in, IsHeader, HeaderReadsBack, HeaderSpells, ShortHeaderReadsBack, ShortHeaderSpells}

pub header_front : (h : Header) (rest : List ℕ) → IsHeader h → header_in (header_bytes h ++ rest) ≡ h
header_front h rest r = λ i. record {
  version = from_be_bytes-to_be_bytes_4 h.version r.version i;
  fetch_count = from_be_bytes-to_be_bytes_4 h.fetch_count r.fetch_count i;
  last_fetched = from_be_bytes-to_be_bytes_4 h.last_fetched r.last_fetched i;
  last_modified = from_be_bytes-to_be_bytes_4 h.last_modified r.last_modified i;
  frecency = from_be_bytes-to_be_bytes_4 h.frecency r.frecency i;
  expiration = from_be_bytes-to_be_bytes_4 h.expiration r.expiration i;
  key_size = from_be_bytes-to_be_bytes_4 h.key_size r.key_size i;
  flags = from_be_bytes-to_be_bytes_4 h.flags r.flags i;
}

-- the same without flags
pub short_header_front : (h : Header) (rest : List ℕ) → IsHeader h → h.flags ≡ 0 → short_header_in (short_header_bytes h ++ rest) ≡ h
short_header_front h rest r none = λ i. record {
  version = from_be_bytes-to_be_bytes_4 h.version r.version i;
  fetch_count = from_be_bytes-to_be_bytes_4 h.fetch_count r.fetch_count i;
  last_fetched = from_be_bytes-to_be_bytes_4 h.last_fetched r.last_fetched i;
  last_modified = from_be_bytes-to_be_bytes_4 h.last_modified r.last_modified i;
  frecency = from_be_bytes-to_be_bytes_4 h.frecency r.frecency i;
  expiration = from_be_bytes-to_be_bytes_4 h.expiration r.expiration i;
  key_size = from_be_bytes-to_be_bytes_4 h.key_size r.key_size i;
  flags = sym none i;
}

-- bytes of which the first n are numbers
module _ (xs : List ℕ) (bytes : AreBytes xs) where
  grown : (n a : ℕ) (front : List ℕ) → n ≤ length xs → a + 4 ≤ n → front ≡ take a xs → front ++ be32 (be32_at xs a) ≡ take (a + 4) xs
  grown n a front long within is =
      let enough : 4 ≤ length (drop a xs) = let l = length-drop a xs in omega (arith, l, long, within) in
      (λ i. is i ++ four (drop a xs) (bytes_drop a xs bytes) enough i) ∙ take_more a 4 xs

  pub short_header_spelled : 28 ≤ length xs → short_header_bytes (short_header_in xs) ≡ take 28 xs
  short_header_spelled long =
      grown 28 24 _ long (omega arith) (grown 28 20 _ long (omega arith) (grown 28 16 _ long (omega arith)
      (grown 28 12 _ long (omega arith) (grown 28 8 _ long (omega arith) (grown 28 4 _ long (omega arith) (four xs bytes (omega (arith, long))))))))

  pub header_spelled : 32 ≤ length xs → header_bytes (header_in xs) ≡ take 32 xs
  header_spelled long = grown 32 28 _ long (omega arith) (short_header_spelled (omega (arith, long)))

  pub short_header_small : IsHeader (short_header_in xs)
  short_header_small = record {
    version = small32 xs bytes;
    fetch_count = small32 (drop 4 xs) (bytes_drop 4 xs bytes);
    last_fetched = small32 (drop 8 xs) (bytes_drop 8 xs bytes);
    last_modified = small32 (drop 12 xs) (bytes_drop 12 xs bytes);
    frecency = small32 (drop 16 xs) (bytes_drop 16 xs bytes);
    expiration = small32 (drop 20 xs) (bytes_drop 20 xs bytes);
    key_size = small32 (drop 24 xs) (bytes_drop 24 xs bytes);
    flags = omega arith;
  }

  pub header_small : IsHeader (header_in xs)
  header_small = record {
    version = small32 xs bytes;
    fetch_count = small32 (drop 4 xs) (bytes_drop 4 xs bytes);
    last_fetched = small32 (drop 8 xs) (bytes_drop 8 xs bytes);
    last_modified = small32 (drop 12 xs) (bytes_drop 12 xs bytes);
    frecency = small32 (drop 16 xs) (bytes_drop 16 xs bytes);
    expiration = small32 (drop 20 xs) (bytes_drop 20 xs bytes);
    key_size = small32 (drop 24 xs) (bytes_drop 24 xs bytes);
    flags = small32 (drop 28 xs) (bytes_drop 28 xs bytes);
  }

-- the first 32 bytes have the same header
pub header_taken : (xs : List ℕ) → AreBytes xs → 32 ≤ length xs → header_in (take 32 xs) ≡ header_in xs
header_taken xs bytes long =
    ap header_in (sym (header_spelled xs bytes long) ∙ sym (append-nil (header_bytes (header_in xs))))
    ∙ header_front (header_in xs) [] (header_small xs bytes)

-- and the first 28 bytes the same header without flags
pub short_header_taken : (xs : List ℕ) → AreBytes xs → 28 ≤ length xs → short_header_in (take 28 xs) ≡ short_header_in xs
short_header_taken xs bytes long =
    ap short_header_in (sym (short_header_spelled xs bytes long) ∙ sym (append-nil (short_header_bytes (short_header_in xs))))
    ∙ short_header_front (short_header_in xs) [] (short_header_small xs bytes) refl

pub header_reads_back : HeaderReadsBack
header_reads_back = header_front

pub header_spells : HeaderSpells
header_spells xs bytes long = (header_small xs bytes, header_spelled xs bytes long)

pub short_header_reads_back : ShortHeaderReadsBack
short_header_reads_back = short_header_front

pub short_header_spells : ShortHeaderSpells
short_header_spells xs bytes long = (short_header_small xs bytes, short_header_spelled xs bytes long)
