-- A record and its bytes.
use Rattle.std.proofs.Common.{◌≡◌, ℕ, ◌+◌, ◌≤◌, List, ◌∷◌, ◌++◌, length, take, drop, sym, ap, ◌∙◌, arith, length-append, length-drop, drop-cons, take_all}
use Rattle.std.specs.Prelude.{slice_index}
use Rattle.std.specs.Int.{w16, w32, w64, from_be_bytes, to_be_bytes}
use Rattle.std.proofs.lemmas.List.{drop-drop, drop_at, get_or-append_right, length-take-le, take-append-drop, take_at}
use Rattle.std.proofs.lemmas.Nat.{from_be_bytes-to_be_bytes_2, from_be_bytes-to_be_bytes_4, from_be_bytes-to_be_bytes_8}
use Rattle.cache_base.specs.Bytes.{AreBytes, be16, be16_at, be32, be32_at}
use Rattle.cache_base.proofs.ByteLaws.{byte_at, bytes_drop, bytes_take, cut, eight, four, small16, small32, small64, two}
use Rattle.index_record.specs.declared.record.IndexRecord.{IndexRecord}
use Rattle.index_record.specs.Record.{IsRecord, RecordReadsBack, RecordSpells, record_bytes, record_in}

module _ (r : IndexRecord) (is : IsRecord r) where
  -- the bytes past the name
  tail : List ℕ
  tail = be32 r.frecency ++ (to_be_bytes w64 r.origin ++ (be16 r.on_start ++ (be16 r.on_stop ++ r.content ∷ be32 r.flags)))

  past : (k : ℕ) → drop (20 + k) (record_bytes r) ≡ drop k tail
  unfolding tail
  past k = sym (drop-drop k 20 (record_bytes r)) ∙ ap (drop k) (drop_at r.name.0 tail 20 is.name.0)

  content_is : slice_index (record_bytes r) 36 ≡ r.content
  unfolding tail
  content_is = get_or-append_right r.name.0 tail 20 36 0 is.name.0 (omega arith)

  record_same : record_in (record_bytes r) ≡ r
  unfolding tail
  record_same = λ i. record {
    name = record { 0 = take_at r.name.0 tail 20 is.name.0 i };
    frecency = (ap (from_be_bytes w32) (past 0) ∙ from_be_bytes-to_be_bytes_4 r.frecency is.frecency) i;
    origin = (ap (from_be_bytes w64) (past 4) ∙ from_be_bytes-to_be_bytes_8 r.origin is.origin) i;
    on_start = (ap (from_be_bytes w16) (past 12) ∙ from_be_bytes-to_be_bytes_2 r.on_start is.on_start) i;
    on_stop = (ap (from_be_bytes w16) (past 14) ∙ from_be_bytes-to_be_bytes_2 r.on_stop is.on_stop) i;
    content = content_is i;
    flags = (ap (from_be_bytes w32) (past 17) ∙ from_be_bytes-to_be_bytes_4 r.flags is.flags) i;
  }

  record_long : length (record_bytes r) ≡ 41
  unfolding tail
  record_long = length-append r.name.0 tail ∙ (let h = is.name.0 in omega (arith, h))

module _ (xs : List ℕ) (bytes : AreBytes xs) (long : length xs ≡ 41) where
  -- what stands in the k bytes from the place n on, before what follows them
  onto : (n k : ℕ) (front rest : List ℕ) → front ≡ take k (drop n xs) → rest ≡ drop (n + k) xs → front ++ rest ≡ drop n xs
  onto n k front rest is more = (λ i. is i ++ more i) ∙ cut xs n k

  enough : (n k : ℕ) → n + k ≤ 41 → k ≤ length (drop n xs)
  enough n k within = let l = length-drop n xs in omega (arith, l, long, within)

  flags_spelled : be32 (be32_at xs 37) ≡ drop 37 xs
  flags_spelled =
      four (drop 37 xs) (bytes_drop 37 xs bytes) (enough 37 4 (omega arith))
      ∙ take_all 4 (drop 37 xs) (let l = length-drop 37 xs in omega (arith, l, long))

  content_spelled : slice_index xs 36 ∷ be32 (be32_at xs 37) ≡ drop 36 xs
  content_spelled = ap (λ ys. slice_index xs 36 ∷ ys) flags_spelled ∙ sym (drop-cons xs 36 0 (omega (arith, long)))

  tail_spelled : be32 (be32_at xs 20) ++ (to_be_bytes w64 (from_be_bytes w64 (drop 24 xs)) ++ (be16 (be16_at xs 32) ++ (be16 (be16_at xs 34) ++ slice_index xs 36 ∷ be32 (be32_at xs 37)))) ≡ drop 20 xs
  tail_spelled =
      onto 20 4 _ _ (four (drop 20 xs) (bytes_drop 20 xs bytes) (enough 20 4 (omega arith)))
      (onto 24 8 _ _ (eight (drop 24 xs) (bytes_drop 24 xs bytes) (enough 24 8 (omega arith)))
      (onto 32 2 _ _ (two (drop 32 xs) (bytes_drop 32 xs bytes) (enough 32 2 (omega arith)))
      (onto 34 2 _ _ (two (drop 34 xs) (bytes_drop 34 xs bytes) (enough 34 2 (omega arith))) content_spelled)))

  record_spelled : record_bytes (record_in xs) ≡ xs
  record_spelled = ap (λ ys. take 20 xs ++ ys) tail_spelled ∙ take-append-drop 20 xs

  record_small : IsRecord (record_in xs)
  record_small = record {
    name = (length-take-le 20 xs (omega (arith, long)), bytes_take 20 xs bytes);
    frecency = small32 (drop 20 xs) (bytes_drop 20 xs bytes);
    origin = small64 (drop 24 xs) (bytes_drop 24 xs bytes);
    on_start = small16 (drop 32 xs) (bytes_drop 32 xs bytes);
    on_stop = small16 (drop 34 xs) (bytes_drop 34 xs bytes);
    content = byte_at xs bytes 36;
    flags = small32 (drop 37 xs) (bytes_drop 37 xs bytes);
  }

pub record_reads_back : RecordReadsBack
record_reads_back r is = (record_long r is, record_same r is)

pub record_spells : RecordSpells
record_spells xs bytes long = (record_small xs bytes long, record_spelled xs bytes long)
