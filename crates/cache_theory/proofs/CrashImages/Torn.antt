-- A torn content that fits, with the tail and the good chunks of a whole file, reads as that file or as damaged.
use Rattle.std.proofs.Common.{◌≡◌, ◌⊎◌, inl, inr, ℕ, ◌+◌, ◌-◌, ◌*◌, ◌/◌, ◌%◌, ◌<◌, ◌≤◌, List, [], ◌∷◌, length, take, drop, get_or, true, cond, not, ◌&&◌, refl, sym, ap, subst, ◌∙◌, arith, get_or-drop, get_or-take, length-take}
use Rattle.std.specs.Int.{from_be_bytes, w32}
use Rattle.std.specs.Prelude.{None, Option, Some, is_none, nat_le, ◌==◌}
use Rattle.std.specs.Str.{bytes_eq}
use Rattle.std.proofs.lemmas.List.{drop-drop, ext_get_or}
use Rattle.cache_base.specs.Bytes.{be32_at}
use Rattle.cache_base.specs.Limits.{chunk_size, chunks}
use Rattle.cache_theory.specs.Crash.{SameChunks, SameTail}
use Rattle.cache_theory.proofs.CrashImages.Readings.{made, whole_made}
use Rattle.chunk_store.specs.Chunks.{chunk, damages}
use Rattle.chunk_store.specs.declared.damage.Damage.{Damage}
use Rattle.chunk_store.proofs.ChunkLaws.{chunk_good}
use Rattle.entry_file.specs.EntryFile.{block_in, body_in, by_damages, by_fault, file_fault, file_meta, fits, named_fault, offset_in, read, whole_in}
use Rattle.entry_file.specs.EntryFile.Reading.{Whole}
use Rattle.entry_file.specs.Version.{Version}
use Rattle.entry_file.specs.declared.entry_read.Unfit.{Unfit}
use Rattle.entry_file.specs.declared.entry_read.Unfit.TheVariants as unfit
use Rattle.entry_file.proofs.Faults.{has_parts, passed}
use Rattle.entry_metadata.specs.Checks.{block_fault, meta_in}
use Rattle.entry_name.specs.EntryName.{file_name}

-- bodies with the same chunks are one
same_chunks_same : (xs ys : List ℕ) → length xs ≡ length ys → ((i : ℕ) → i < chunks (length xs) → chunk xs i ≡ chunk ys i) → xs ≡ ys
same_chunks_same xs ys long same =
    ext_get_or 0 xs ys long (λ j h.
    let i : ℕ = j / 262144 in
    let r : ℕ = j % 262144 in
    let place : i * 262144 + r ≡ j = omega arith in
    let low : r < chunk_size = omega arith in
    let one : j / 262144 < chunks (length xs) = omega (arith, h) in
    let at : (zs : List ℕ) → get_or zs j 0 ≡ get_or (chunk zs i) r 0 =
    λ zs. sym (get_or-take chunk_size (drop (i * chunk_size) zs) r 0 low ∙ get_or-drop (i * chunk_size) zs r 0 ∙ ap (λ n. get_or zs n 0) place) in
    at xs ∙ ap (λ zs. get_or zs r 0) (same i one) ∙ sym (at ys))

pub no_fault : (name c : List ℕ) → fits name c ≡ true → file_fault name c ≡ None
no_fault name c fit = go (file_fault name c) fit
  where
    go : (o : Option Unfit) → is_none o ≡ true → o ≡ None
    go None h = refl
    go (Some f) h = absurd (cc)

-- a content that ends as another one does
module _ (c other : List ℕ) (long : length other ≡ length c) (enough : 4 ≤ length c) (within : offset_in c ≤ length c - 4)
    (tail : drop (offset_in c) other ≡ drop (offset_in c) c) where
  further : (n : ℕ) → offset_in c ≤ n → drop n other ≡ drop n c
  further n le =
      let sum : n ≡ offset_in c + (n - offset_in c) = omega (arith, le) in
      ap (λ k. drop k other) sum ∙ sym (drop-drop (n - offset_in c) (offset_in c) other)
      ∙ ap (drop (n - offset_in c)) tail
      ∙ drop-drop (n - offset_in c) (offset_in c) c ∙ ap (λ k. drop k c) (sym sum)

  offset_same : offset_in other ≡ offset_in c
  offset_same = ap (λ n. be32_at other (n - 4)) long ∙ ap (from_be_bytes w32) (further (length c - 4) within)

  block_same : block_in other ≡ block_in c
  block_same =
      (λ i. take (long i - 4 - offset_same i) (drop (offset_same i) other))
      ∙ ap (take (length c - 4 - offset_in c)) tail

  meta_same : file_meta other ≡ file_meta c
  meta_same = λ i. meta_in (block_same i) (offset_same i)

  fault_same : (name : List ℕ) → file_fault name other ≡ file_fault name c
  unfolding file_fault
  fault_same name = λ i. cond (nat_le 4 (long i) && not (offset_same i == 0xFFFFFFFF) && nat_le (offset_same i) (long i - 4))
      (named_fault (block_fault (block_same i) (offset_same i)) (bytes_eq (file_name (meta_same i).key) name)) (Some unfit.Short)

  -- the metadata of the one, and the body of the other, make what the other is
  made_same : made (file_meta c) (take (offset_in c) other) ≡ made (file_meta other) (body_in other)
  made_same = λ i. made (sym meta_same i) (take (sym offset_same i) other)

  -- with the same good chunks, a body without damage is the other's
  body_same : SameChunks (file_meta c) c other → damages (file_meta c).hashes (file_meta c).offset (body_in c) ≡ [] → body_in c ≡ take (offset_in c) other
  unfolding meta_in
  body_same same none =
      let here : length (body_in c) ≡ offset_in c = length-take (offset_in c) c ∙ (omega (arith, within)) in
      let there : length (take (offset_in c) other) ≡ offset_in c = length-take (offset_in c) other ∙ (omega (arith, within, long)) in
      same_chunks_same (body_in c) (take (offset_in c) other) (here ∙ sym there)
      (λ i below. let lt : i < chunks (offset_in c) = subst (λ n. i < chunks n) here below in
      same i lt (chunk_good (file_meta c).hashes (file_meta c).offset (body_in c) none i lt))

-- where the content fits, so does the moment
pub moment_fits : (name c old : List ℕ) → fits name c ≡ true → SameTail (file_meta c) c old → fits name old ≡ true
unfolding meta_in
moment_fits name c old fit tail =
    let parts = has_parts c (passed name c (no_fault name c fit)).0 in
    ap is_none (fault_same c old tail.0 parts.0 parts.2 tail.1 name) ∙ fit

-- and where the moment is a whole file, the content reads as that file, or as damaged
pub torn_reads : (name c old : List ℕ) (v : Version) → fits name c ≡ true → read name old ≡ Whole v → SameTail (file_meta c) c old → SameChunks (file_meta c) c old
    → (read name c ≡ Whole v) ⊎ (whole_in (read name c) ≡ None)
unfolding read meta_in
torn_reads name c old v fit whole tail same =
    subst (λ o. (by_fault o c ≡ Whole v) ⊎ (whole_in (by_fault o c) ≡ None)) (sym (no_fault name c fit)) (go (damages (file_meta c).hashes (file_meta c).offset (body_in c)) refl)
  where
    within : (4 ≤ length c) × (offset_in c ≤ length c - 4)
    within = let parts = has_parts c (passed name c (no_fault name c fit)).0 in (parts.0, parts.2)

    go : (ds : List Damage) → damages (file_meta c).hashes (file_meta c).offset (body_in c) ≡ ds
        → (by_damages (file_meta c) (body_in c) ds ≡ Whole v) ⊎ (whole_in (by_damages (file_meta c) (body_in c) ds) ≡ None)
    go [] none =
        let body : body_in c ≡ take (offset_in c) old = body_same c old tail.0 within.0 within.1 tail.1 same none in
        inl (ap Whole (ap (made (file_meta c)) body ∙ made_same c old tail.0 within.0 within.1 tail.1 ∙ (whole_made name old v whole).1))
    go (d ∷ ds) some = inr refl
