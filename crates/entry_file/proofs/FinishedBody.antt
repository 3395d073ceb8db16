-- What a finished body has, and its file.
use Rattle.std.proofs.Common.{◌≡◌, ℕ, zero, suc, ◌+◌, ◌*◌, ◌/◌, ◌^◌, ◌<◌, ◌≤◌, List, [], ◌∷◌, ◌++◌, length, drop, Option, Some, Result, Bool, true, false, cond, refl, sym, ap, ◌∙◌, arith, take-append-drop}
use Rattle.std.specs.Prelude.{◌==◌, map}
use Rattle.std.specs.List.{AllByRecursion, range_with_len}
use Rattle.std.proofs.lemmas.Bool.{eqb-true, eqb-false}
use Rattle.std.proofs.lemmas.List.{drop-append-le, take-append-le, take_all}
use Rattle.std.proofs.lemmas.List.FromFn.{length-map-range_with_len, map-range_with_len_more}
use Rattle.cache_base.specs.Bytes.{AreBytes, be32}
use Rattle.cache_base.specs.Limits.{chunks}
use Rattle.cache_base.specs.declared.limits.TheConstants.{BLOCK_MAX, BODY_MAX}
use Rattle.chunk_store.specs.Chunks.{chunk, chunk_hashes}
use Rattle.chunk_store.specs.Stored.{unfinished_file, whole_len}
use Rattle.disk_theory.specs.declared.disk.DiskFault.{DiskFault}
use Rattle.disk_theory.specs.declared.place.Place.{Place}
use Rattle.disk_theory.specs.Calls.{if_done}
use Rattle.disk_theory.specs.State.{State, Write, written, wrote}
use Rattle.disk_theory.specs.State.Write.{End}
use Rattle.entry_key.specs.Walk.{read_key, reads}
use Rattle.entry_metadata.specs.Metadata.{Meta, block_bytes, block_length}
use Rattle.entry_metadata.proofs.PrintedBlock.{is_meta}
use Rattle.entry_parts.specs.Elements.{AreElements, Element, elements_bytes}
use Rattle.entry_parts.specs.Header.{IsHeader}
use Rattle.entry_parts.specs.declared.header.Header.{Header}
use Rattle.entry_file.specs.NewEntry.{Growing, HasBody, finished, grown_len, last_write}
use Rattle.entry_file.specs.Version.{IsVersion, Version, file_of, version_meta}
use Rattle.entry_file.proofs.Writing.{written_same}
use Rattle.entry_file.proofs.Bodies.{count, first_hashes, grown, rest_long, unfinished_front}
use Rattle.jenkins_hash.specs.Hash.{hash16_of}

-- the hashes of the whole chunks, and that of the rest, where there is one
abbrev pub hashes_with : List ℕ → List ℕ → List ℕ
hashes_with hashes rest = cond (length rest == 0) hashes (hashes ++ hash16_of rest ∷ [])

-- each hash fits two bytes
hash_words : (body : List ℕ) (a n : ℕ) → AllByRecursion (λ h. h < 2 ^ 16) (map (λ i. hash16_of (chunk body i)) (range_with_len a n))
hash_words body a zero = tt
hash_words body a (suc n) = (omega arith, hash_words body (a + 1) n)

module _ (e : Growing) (body : List ℕ) (has : HasBody e body) (short : length e.rest < 262144) where
  pub all_hashed : hashes_with e.hashes e.rest ≡ chunk_hashes body
  all_hashed = go (length e.rest == 0) refl
    where
      n : ℕ
      n = length body / 262144

      last_chunk : e.rest ≡ chunk body (length body / 262144)
      last_chunk = has.rest ∙ sym (take_all 262144 (drop (whole_len body) body) (let h = ap length has.rest in omega (arith, h, short)))

      go : (b : Bool) → (length e.rest == 0) ≡ b → cond b e.hashes (e.hashes ++ hash16_of e.rest ∷ []) ≡ chunk_hashes body
      go true t =
          let none = eqb-true _ _ t in
          let r = rest_long e body has in
          let same : length body / 262144 ≡ chunks (length body) = omega (arith, none, r) in
          has.hashes ∙ ap (first_hashes body) same
      go false t =
          let some = eqb-false _ _ t in
          let r = rest_long e body has in
          let more : length body / 262144 + 1 ≡ chunks (length body) = omega (arith, some, short, r) in
          (λ i. has.hashes i ++ hash16_of (last_chunk i) ∷ [])
          ∙ sym (map-range_with_len_more (λ i. hash16_of (chunk body i)) 0 (length body / 262144) (length body / 262144) (omega arith))
          ∙ ap (first_hashes body) more

  -- the parts make a version
  module _ (header : Header) (key : List ℕ) (elements : List Element) where
    abbrev pub meta_with : List ℕ → ℕ → Meta
    meta_with hashes offset = record { header = header; key = key; elements = elements; hashes = hashes; offset = offset }

    pub meta_is : (rest hashes : List ℕ) (offset : ℕ) → rest ≡ e.rest → hashes ≡ hashes_with e.hashes rest → offset ≡ grown_len e → meta_with hashes offset ≡ version_meta (finished header key elements body)
    meta_is rest hashes offset same all long =
        let every : hashes ≡ chunk_hashes body = all ∙ ap (hashes_with e.hashes) same ∙ all_hashed in
        let whole : offset ≡ length body = long ∙ grown e body has in
        λ i. meta_with (every i) (whole i)

    pub is_version : IsHeader header → header.version ≡ 3 → header.key_size ≡ length key → reads (read_key key) ≡ true → AreBytes key → AreElements elements → AreBytes (elements_bytes elements)
        → block_length (chunks (grown_len e)) (length key) (length (elements_bytes elements)) ≤ BLOCK_MAX → grown_len e ≤ BODY_MAX → AreBytes body → IsVersion (finished header key elements body)
    is_version numbers version size grammar key_bytes are element_bytes small bounded bytes =
        let g = grown e body has in
        let c : length (chunk_hashes body) ≡ chunks (length body) = length-map-range_with_len (λ i. hash16_of (chunk body i)) 0 (chunks (length body)) in
        record {
          meta = is_meta (version_meta (finished header key elements body)) numbers version size grammar
              (record { hashes = hash_words body 0 (chunks (length body)); key = key_bytes; elements = element_bytes }) are c
              (omega (arith, g, bounded)) (omega (arith, g, c, small));
          body = bytes;
        }

-- the last write makes the file of a version
pub last_written : (v : Version) → written (last_write v) (unfinished_file v.body) ≡ file_of v
unfolding file_of
last_written v =
    ap (λ front. front ++ drop (whole_len v.body) (file_of v)) (unfinished_front v.body ∙ sym (take-append-le (whole_len v.body) v.body (block_bytes (version_meta v) ++ be32 (length v.body)) (omega arith)))
    ∙ take-append-drop (whole_len v.body) (file_of v)

-- and it is of what is held, with the block and its offset
pub last_write_is : (e : Growing) (v : Version) → HasBody e v.body → (m : Meta) → m ≡ version_meta v → (at : ℕ) (tail : List ℕ) → at ≡ length e.hashes * 262144 → tail ≡ e.rest ++ (block_bytes m ++ be32 m.offset)
    → End at tail ≡ last_write v
unfolding file_of
last_write_is e v has m same at tail place is =
    let whole : at ≡ whole_len v.body = place ∙ ap (λ n. n * 262144) (count e v.body has) in
    let bytes : tail ≡ drop (whole_len v.body) (file_of v) =
    is ∙ (λ i. has.rest i ++ (block_bytes (same i) ++ be32 (same i).offset))
    ∙ sym (drop-append-le (whole_len v.body) v.body (block_bytes (version_meta v) ++ be32 (length v.body)) (omega arith)) in
    λ i. End (whole i) (bytes i)

-- what a write did, under another name
pub done_along : {T : Type 0} (place : Place) (s t : State) (r : Result T DiskFault) (w v : Write) → w ≡ v → t ≡ if_done r (wrote place w s) s → t ≡ if_done r (wrote place v s) s
done_along place s t r w v same is = is ∙ ap (λ (x : Write). if_done r (wrote place x s) s) same

-- and what it adds to the file that stood there
pub will_be : (v : Version) (w : Write) → w ≡ last_write v → (o : Option (List ℕ)) → o ≡ Some (unfinished_file v.body) → (c : List ℕ) → o ≡ Some c → written w c ≡ file_of v
will_be v w same o stood c is = written_same w (last_write v) same o (unfinished_file v.body) stood c is ∙ last_written v

-- so it is the write of what is held and of these parts
pub write_is : (e : Growing) (body : List ℕ) → HasBody e body → length e.rest < 262144 → (header : Header) (key : List ℕ) (elements : List Element) (hashes : List ℕ) (offset : ℕ) (chunks rest tail bytes : List ℕ)
    → chunks ≡ e.hashes → rest ≡ e.rest → hashes ≡ hashes_with e.hashes rest → offset ≡ grown_len e
    → bytes ≡ tail → tail ≡ rest ++ (block_bytes (record { header = header; key = key; elements = elements; hashes = hashes; offset = offset }) ++ be32 offset)
    → End (length chunks * 262144) bytes ≡ last_write (finished header key elements body)
write_is e body has short header key elements hashes offset chunks rest tail bytes count_is rest_is all long same is =
    let m : Meta = record { header = header; key = key; elements = elements; hashes = hashes; offset = offset } in
    last_write_is e (finished header key elements body) has m (meta_is e body has short header key elements rest hashes offset rest_is all long)
    (length chunks * 262144) bytes (ap (λ hs. length hs * 262144) count_is) (same ∙ is ∙ ap (λ r. r ++ (block_bytes m ++ be32 offset)) rest_is)
