-- A file of a version reads as that version, whole.
use Rattle.std.proofs.Common.{◌≡◌, ℕ, zero, suc, ◌+◌, ◌-◌, ◌^◌, ◌<◌, List, [], ◌++◌, length, take, drop, Bool, true, cond, refl, sym, ap, subst, ◌∙◌, arith, append_assoc, length-append}
use Rattle.std.specs.Prelude.{◌==◌, slice_index, Option, None, Some, filter_map, is_none}
use Rattle.std.specs.List.{range_with_len, cons_option}
use Rattle.std.specs.Int.{w32, from_be_bytes}
use Rattle.std.proofs.lemmas.Bool.{eq-eqb}
use Rattle.std.proofs.lemmas.Nat.{from_be_bytes-to_be_bytes_4}
use Rattle.std.proofs.lemmas.List.{take_at, drop_at}
use Rattle.std.proofs.lemmas.List.FromFn.{get_or-map-range_with_len}
use Rattle.std.proofs.lemmas.Slice.Eq.{bytes_eq-Decides}
use Rattle.cache_base.specs.Bytes.{be32, be32_at}
use Rattle.cache_base.specs.Limits.{chunks}
use Rattle.jenkins_hash.specs.Hash.{hash16_of}
use Rattle.chunk_store.specs.declared.damage.Damage.{Damage}
use Rattle.chunk_store.specs.Chunks.{chunk, chunk_hashes, damage_at, damages}
use Rattle.entry_name.specs.EntryName.{file_name}
use Rattle.entry_metadata.specs.Checks.{block_fault, meta_in}
use Rattle.entry_metadata.specs.Metadata.{Meta, Spells, Third, block_as}
use Rattle.entry_metadata.proofs.SpelledLaws.{Spells-passes, Spells-says}
use Rattle.entry_file.specs.declared.entry_read.Unfit.{Unfit}
use Rattle.entry_file.specs.EntryFile.{offset_in, block_in, body_in, file_fault, file_meta, FileReadsWhole, Whole, by_damages, by_fault, read, fits, Fits}
use Rattle.entry_file.specs.Version.{FileBegins, Version, version_meta, IsFileOf, IsVersion, file_of}
use Rattle.entry_file.proofs.Faults.{has_one, passes}

-- the chunks of a body have their own hashes
undamaged_from : (v : Version) (a n : ℕ) → a + n ≡ chunks (length v.body) → filter_map (damage_at (chunk_hashes v.body) v.body) (range_with_len a n) ≡ []
undamaged_from v a zero h = refl
undamaged_from v a (suc n) h =
    let same : slice_index (chunk_hashes v.body) a ≡ hash16_of (chunk v.body a) =
    get_or-map-range_with_len (λ i. hash16_of (chunk v.body i)) 0 (chunks (length v.body)) a a 0 (omega (arith, h)) (omega arith) in
    let test : (hash16_of (chunk v.body a) == slice_index (chunk_hashes v.body) a) ≡ true = eq-eqb _ _ (sym same) in
    let more : filter_map (damage_at (chunk_hashes v.body) v.body) (range_with_len (a + 1) n) ≡ [] = undamaged_from v (a + 1) n (omega (arith, h)) in
    let none : damage_at (chunk_hashes v.body) v.body a ≡ None = ap (λ (b : Bool). cond b None (Some (record { chunk = a; stored = slice_index (chunk_hashes v.body) a; found = hash16_of (chunk v.body a) }))) test in
    ap (λ (o : Option Damage). cons_option o (filter_map (damage_at (chunk_hashes v.body) v.body) (range_with_len (a + 1) n))) none ∙ more

is_none_of : (o : Option Unfit) → is_none o ≡ true → o ≡ None
is_none_of None h = refl
is_none_of (Some f) h = absurd (cc)

-- a content that is a join of a body, a block and the block's offset
module _ (m : Meta) (body block : List ℕ) (s : Spells block (length body) m) where
  content : List ℕ
  content = body ++ (block ++ be32 (length body))

  low : length body < 2 ^ 32 - 1
  low = subst (λ n. n < 2 ^ 32 - 1) s.at s.meta.offset

  content_long : length content ≡ length body + length block + 4
  unfolding content
  content_long = length-append body _ ∙ (let h = length-append block (be32 (length body)) in omega (arith, h))

  offset_is : offset_in content ≡ length body
  unfolding content
  offset_is =
      let place : length content - 4 ≡ length (body ++ block) =
      let joined = length-append body block in
      let whole = content_long in
      omega (arith, whole, joined) in
      ap (λ n. be32_at content n) place
      ∙ ap (λ xs. from_be_bytes w32 (drop (length (body ++ block)) xs)) (sym (append_assoc body block (be32 (length body))))
      ∙ ap (from_be_bytes w32) (drop_at (body ++ block) (be32 (length body)) _ refl)
      ∙ from_be_bytes-to_be_bytes_4 (length body) (let h = low in omega (arith, h))

  content_body : body_in content ≡ body
  unfolding content
  content_body = ap (λ n. take n content) offset_is ∙ take_at body _ _ refl

  block_is : block_in content ≡ block
  unfolding content
  block_is =
      ap (λ n. take (length content - 4 - n) (drop n content)) offset_is
      ∙ ap (take (length content - 4 - length body)) (drop_at body (block ++ be32 (length body)) _ refl)
      ∙ take_at block (be32 (length body)) _ (omega (arith, content_long))

  content_meta : file_meta content ≡ m
  content_meta = (λ i. meta_in (block_is i) (offset_is i)) ∙ Spells-says block (length body) m s

  content_passes : file_fault (file_name m.key) content ≡ None
  content_passes =
      let long = content_long in
      let at = offset_is in
      let small = low in
      passes (file_name m.key) content (has_one content (omega (arith, long)) (λ e. let stop = sym at ∙ e in omega (arith, small, stop)) (omega (arith, long, at)))
      ((λ i. block_fault (block_is i) (offset_is i)) ∙ Spells-passes block (length body) m s)
      ((bytes_eq-Decides (file_name (file_meta content).key) (file_name m.key)).1 (ap (λ (n : Meta). file_name n.key) content_meta))

-- a join of the parts of a file passes its checks
pub fits-Fits : (name c : List ℕ) (m : Meta) → Fits name c m → fits name c ≡ true
unfolding content
fits-Fits name c m f =
    let passed : file_fault (file_name m.key) c ≡ None =
    subst (λ x. file_fault (file_name m.key) x ≡ None) (sym f.bytes) (content_passes m f.body f.block f.spells) in
    subst (λ n. is_none (file_fault n c) ≡ true) f.named (ap is_none passed)

pub fits_meta : (name c : List ℕ) (m : Meta) → Fits name c m → file_meta c ≡ m
unfolding content
fits_meta name c m f = ap file_meta f.bytes ∙ content_meta m f.body f.block f.spells

fits_body : (name c : List ℕ) (m : Meta) → (f : Fits name c m) → body_in c ≡ f.body
unfolding content
fits_body name c m f = ap body_in f.bytes ∙ content_body m f.body f.block f.spells

-- a file of a version
pub joined_file : (v : Version) (c : List ℕ) → IsVersion v → IsFileOf v c → Fits (file_name v.key) c (version_meta v)
joined_file v c is f = record {
  body = v.body;
  block = block_as f.format (version_meta v);
  spells = record { meta = is.meta; at = refl; format = f.format; can = f.can; bytes = refl };
  bytes = f.bytes;
  named = refl;
}

pub is_file_of : (v : Version) → IsFileOf v (file_of v)
unfolding file_of
is_file_of v = record { format = Third; can = tt; bytes = refl }

pub file_begins : FileBegins
file_begins v c f =
    let tail : List ℕ = block_as f.format (version_meta v) ++ be32 (length v.body) in
    let long = ap length f.bytes ∙ length-append v.body tail in
    (omega (arith, long), ap (take (length v.body)) f.bytes ∙ take_at v.body tail (length v.body) refl)

undamaged : (v : Version) → damages (chunk_hashes v.body) (length v.body) v.body ≡ []
unfolding damages
undamaged v = undamaged_from v 0 (chunks (length v.body)) (omega arith)

pub file_reads_whole : FileReadsWhole
unfolding read joined_file
file_reads_whole v c is f =
    let fit : Fits (file_name v.key) c (version_meta v) = joined_file v c is f in
    let passes : file_fault (file_name v.key) c ≡ None = is_none_of (file_fault (file_name v.key) c) (fits-Fits (file_name v.key) c (version_meta v) fit) in
    let meta : file_meta c ≡ version_meta v = fits_meta (file_name v.key) c (version_meta v) fit in
    let body : body_in c ≡ v.body = fits_body (file_name v.key) c (version_meta v) fit in
    ap (λ (o : Option Unfit). by_fault o c) passes
    ∙ (λ i. by_damages (meta i) (body i) (damages (meta i).hashes (meta i).offset (body i)))
    ∙ ap (by_damages (version_meta v) v.body) (undamaged v)

-- the file as it is written
pub read-file_of : (v : Version) → IsVersion v → read (file_name v.key) (file_of v) ≡ Whole v
read-file_of v is = file_reads_whole v (file_of v) is (is_file_of v)
