-- An index that is spelled is read back, and bytes that pass its checks spell one.
use Rattle.std.proofs.Common.{◌≡◌, ℕ, ◌+◌, ◌<◌, ◌≤◌, ◌^◌, List, ◌++◌, length, take, drop, not, refl, sym, ap, ◌∙◌, arith, length-append, length-drop}
use Rattle.std.specs.Option.{option_or}
use Rattle.std.specs.Prelude.{◌==◌, Option, Some, None}
use Rattle.std.proofs.lemmas.Bool.{eqb-true, leb-true}
use Rattle.std.proofs.lemmas.List.{drop_at, drop-drop, take-append-drop}
use Rattle.std.proofs.lemmas.Nat.{from_be_bytes-to_be_bytes_4}
use Rattle.cache_base.specs.Bytes.{AreBytes, be32, be32_at}
use Rattle.cache_base.proofs.ByteLaws.{bytes_drop, four, small32, take_more}
use Rattle.cache_base.proofs.CheckLaws.{all_hold, none_from_map}
use Rattle.jenkins_hash.specs.Hash.{hash_of}
use Rattle.index_record.specs.declared.record.IndexRecord.{IndexRecord}
use Rattle.record_list.specs.Lists.{records_bytes}
use Rattle.record_list.specs.Stored.{AreStored, present, read_as, records_fault, stored_bytes, stored_in}
use Rattle.record_list.proofs.StoredLaws.{stored_fits_exactly, stored_reads_back}
use Rattle.index_file.specs.Checks.{header_checks, index_fault, index_in, is_dirty_in, timestamp_in}
use Rattle.index_file.specs.Index.{IndexSpells, header_bytes, index_bytes}
use Rattle.index_file.specs.Laws.{IndexFitsExactly, IndexReadsBack}
use Rattle.index_file.specs.RecordsFault.{fault_of}
use Rattle.index_file.proofs.FirstFault.{behind, fits}

module _ (t flag kb : ℕ) (stored : List IndexRecord) where
  stored_long : length (stored_bytes stored) ≡ length (records_bytes stored) + 4
  unfolding stored_bytes
  stored_long = length-append (records_bytes stored) (be32 (hash_of (records_bytes stored)))

  whole_long : 20 ≤ length (index_bytes t flag kb stored)
  unfolding header_bytes
  whole_long = let n = stored_long in let m = length-append (header_bytes t flag kb) (stored_bytes stored) in omega (arith, n, m)

  records_behind : drop 16 (index_bytes t flag kb stored) ≡ stored_bytes stored
  unfolding header_bytes
  records_behind = drop_at (header_bytes t flag kb) (stored_bytes stored) 16 refl

  version_is : be32_at (index_bytes t flag kb stored) 0 ≡ 0xA
  unfolding header_bytes
  version_is = refl

  timestamp_is : t < 2 ^ 32 → be32_at (index_bytes t flag kb stored) 4 ≡ t
  unfolding header_bytes
  timestamp_is small = from_be_bytes-to_be_bytes_4 t small

  flag_is : flag < 2 ^ 32 → be32_at (index_bytes t flag kb stored) 8 ≡ flag
  unfolding header_bytes
  flag_is small = from_be_bytes-to_be_bytes_4 flag small

  pub index_sound : AreStored stored → index_fault (index_bytes t flag kb stored) ≡ None
  index_sound are = fits (index_bytes t flag kb stored) whole_long version_is (ap records_fault records_behind ∙ (stored_reads_back stored are).0)

  index_same : AreStored stored → index_in (index_bytes t flag kb stored) ≡ read_as (present stored)
  index_same are = ap (λ part. read_as (present (stored_in part))) records_behind ∙ ap (λ rs. read_as (present rs)) (stored_reads_back stored are).1

pub index_reads_back : IndexReadsBack
index_reads_back bytes t dirty rs s = (
  ap index_fault s.spelled ∙ index_sound t s.flag s.kilobytes s.stored s.are_stored,
  ap timestamp_in s.spelled ∙ timestamp_is t s.flag s.kilobytes s.stored s.small.0,
  ap is_dirty_in s.spelled ∙ ap (λ n. not (n == 0)) (flag_is t s.flag s.kilobytes s.stored s.small.1) ∙ sym s.is_dirty,
  ap index_in s.spelled ∙ index_same t s.flag s.kilobytes s.stored s.are_stored ∙ sym s.same,
)

none_from_or : {F : Type 0} (o p : Option F) → option_or o p ≡ None → o ≡ None
none_from_or None p h = refl
none_from_or (Some f) p h = absurd (cc)

module _ (xs : List ℕ) (bytes : AreBytes xs) (passes : index_fault xs ≡ None) where
  rows : (20 ≤ length xs) × (be32_at xs 0 ≡ 0xA)
  unfolding header_checks
  rows = let hold = all_hold (header_checks xs) (none_from_or _ _ passes) in (leb-true _ _ hold.0, eqb-true _ _ hold.1.0)

  records_pass : records_fault (drop 16 xs) ≡ None
  records_pass = none_from_map fault_of (records_fault (drop 16 xs)) (sym (behind xs rows.0 rows.1) ∙ passes)

  spelled_records : (rs : List IndexRecord) × AreStored rs × (drop 16 xs ≡ stored_bytes rs)
  spelled_records =
      let long = rows.0 in let left = length-drop 16 xs in
      (stored_fits_exactly (drop 16 xs) (bytes_drop 16 xs bytes) (omega (arith, long, left))).0 records_pass

  number_there : (i : ℕ) → i + 4 ≤ 20 → be32 (be32_at xs i) ≡ take 4 (drop i xs)
  number_there i h = let long = rows.0 in let left = length-drop i xs in four (drop i xs) (bytes_drop i xs bytes) (omega (arith, h, long, left))

  joined : header_bytes (be32_at xs 4) (be32_at xs 8) (be32_at xs 12) ≡ take 16 xs
  unfolding header_bytes
  joined =
      (λ i. (ap be32 (sym rows.1) ∙ number_there 0 (omega arith)) i ++ (number_there 4 (omega arith) i ++ (number_there 8 (omega arith) i ++ number_there 12 (omega arith) i)))
      ∙ ap (λ ys. take 4 xs ++ (take 4 (drop 4 xs) ++ ys)) (ap (λ ys. take 4 (drop 8 xs) ++ take 4 ys) (sym (drop-drop 4 8 xs)) ∙ take_more 4 4 (drop 8 xs))
      ∙ ap (λ ys. take 4 xs ++ ys) (ap (λ ys. take 4 (drop 4 xs) ++ take 8 ys) (sym (drop-drop 4 4 xs)) ∙ take_more 4 8 (drop 4 xs))
      ∙ take_more 4 12 xs

  pub spells : IndexSpells xs (timestamp_in xs) (is_dirty_in xs) (index_in xs)
  spells =
      let part = spelled_records in
      record {
        stored = part.0;
        flag = be32_at xs 8;
        kilobytes = be32_at xs 12;
        are_stored = part.1;
        same = ap (λ ys. read_as (present (stored_in ys))) part.2 ∙ ap (λ rs. read_as (present rs)) (stored_reads_back part.0 part.1).1;
        is_dirty = refl;
        small = (small32 (drop 4 xs) (bytes_drop 4 xs bytes), small32 (drop 8 xs) (bytes_drop 8 xs bytes), small32 (drop 12 xs) (bytes_drop 12 xs bytes));
        spelled = sym ((λ i. joined i ++ (sym part.2) i) ∙ take-append-drop 16 xs);
      }

pub index_fits_exactly : IndexFitsExactly
index_fits_exactly xs bytes = (
  λ passes. (timestamp_in xs, is_dirty_in xs, index_in xs, spells xs bytes passes),
  λ s. (index_reads_back xs s.0 s.1 s.2 s.3).0,
)
