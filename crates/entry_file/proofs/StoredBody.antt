-- A file that stores the body of its metadata, and its version.
use Rattle.std.proofs.Common.{◌≡◌, ◌<◌, ℕ, List, [], ◌∷◌, ◌++◌, length, take, Option, None, Some, Result, refl, sym, ap, subst, ◌∙◌, arith}
use Rattle.std.specs.Prelude.{IfSome}
use Rattle.std.proofs.lemmas.List.{length-take-le, take_at}
use Rattle.std.proofs.lemmas.List.FromFn.{fill_by_all}
use Rattle.cache_base.specs.Bytes.{AreBytes, be32}
use Rattle.cache_base.specs.Limits.{chunks}
use Rattle.chunk_store.specs.Chunks.{chunk, chunk_hashes, damages}
use Rattle.chunk_store.specs.declared.damage.Damage.{Damage}
use Rattle.chunk_store.proofs.ChunkLaws.{chunk_good}
use Rattle.disk_theory.specs.Calls.{if_done}
use Rattle.disk_theory.specs.Sound.{IsSound}
use Rattle.disk_theory.specs.State.{State, Write, standing, written, wrote}
use Rattle.disk_theory.specs.Writes.{WritesAt}
use Rattle.disk_theory.specs.declared.disk.DiskFault.{DiskFault}
use Rattle.disk_theory.specs.declared.place.Place.{Place}
use Rattle.disk_theory.proofs.Standing.{wrote_puts}
use Rattle.entry_metadata.specs.Metadata.{Meta, IsMeta, block_as, block_bytes}
use Rattle.entry_file.specs.Damages.{HasMeta, first, first_damage}
use Rattle.entry_file.specs.Rewriting.{StoresBody, StoresWhole, RewritesToVersion, block_write, rewritten}
use Rattle.entry_file.specs.Version.{version_meta, IsVersion, file_of}
use Rattle.entry_file.proofs.EntryLaws.{file_begins}
use Rattle.entry_file.proofs.Writing.{written_by, written_same}
use Rattle.jenkins_hash.specs.Hash.{hash16_of}

-- without damage the stored hashes are those of the body
pub hashes_same : (m : Meta) (body : List ℕ) → length m.hashes ≡ chunks m.offset → length body ≡ m.offset → damages m.hashes m.offset body ≡ [] → m.hashes ≡ chunk_hashes body
hashes_same m body count ends none =
    let long : length m.hashes ≡ chunks (length body) = count ∙ ap chunks (sym ends) in
    fill_by_all (λ i. hash16_of (chunk body i)) m.hashes (chunks (length body)) 0 long
    (λ i below. sym (chunk_good m.hashes m.offset body none i (subst (λ n. i < chunks n) ends below)))

none_first : (ds : List Damage) → None ≡ first ds → ds ≡ []
none_first [] e = refl
none_first (d ∷ ds) e = absurd (cc)

-- a body in which no damage is found is stored
pub undamaged_stores : (o : Option (List ℕ)) (m : Meta) → length m.hashes ≡ chunks m.offset → HasMeta o m → IfSome o (λ c. None ≡ first_damage m c) → StoresBody o m
undamaged_stores None m count has none = has
undamaged_stores (Some c) m count has none = (has.1, hashes_same m (take m.offset c) count (length-take-le m.offset c has.1) (none_first _ none))

-- a content that stores the body of these metadata
module _ (m : Meta) (c : List ℕ) (stores : StoresBody (Some c) m) where
  ends : length (take m.offset c) ≡ m.offset
  ends = length-take-le m.offset c stores.0

  pub same_meta : version_meta (rewritten m c) ≡ m
  same_meta = λ i. record { header = m.header; key = m.key; elements = m.elements; hashes = sym stores.1 i; offset = ends i }

  pub is_version : IsMeta m → AreBytes (take m.offset c) → IsVersion (rewritten m c)
  is_version is bytes = record { meta = subst IsMeta (sym same_meta) is; body = bytes }

  -- its body, with the block and the offset after it, is the file of the version
  pub block_written : written (block_write m) c ≡ file_of (rewritten m c)
  unfolding file_of
  block_written = λ i. take m.offset c ++ (block_bytes (sym same_meta i) ++ be32 (sym ends i))

  -- a call that writes them there makes the file of the version
  pub writes_file : {T : Type 0} (place : Place) (write : Write) (s t : State) (r : Result T DiskFault) → write ≡ block_write m → t ≡ if_done r (wrote place write s) s → standing s place ≡ Some c
      → WritesAt place (λ d. d ≡ file_of (rewritten m c)) s t
  writes_file place write s t r same is stood =
      written_by place (λ d. d ≡ file_of (rewritten m c)) write s t r is (λ d at. written_same write (block_write m) same (standing s place) c stood d at ∙ block_written)

  pub file_stands : (place : Place) (write : Write) (s t : State) → IsSound s → write ≡ block_write m → t ≡ wrote place write s → standing s place ≡ Some c → standing t place ≡ Some (file_of (rewritten m c))
  file_stands place write s t sound same is stood =
      ap (λ (u : State). standing u place) (is ∙ ap (λ (w : Write). wrote place w s) same) ∙ (wrote_puts place (block_write m) s c sound stood).here ∙ ap Some block_written

pub stores_whole : StoresWhole
stores_whole name c m fits stores =
    let ends : length fits.body ≡ m.offset = sym fits.spells.at in
    let front : fits.body ≡ take m.offset c = sym (ap (take m.offset) fits.bytes ∙ take_at fits.body (fits.block ++ be32 (length fits.body)) m.offset ends) in
    record {
      format = fits.spells.format;
      can = fits.spells.can;
      bytes = fits.bytes ∙ (λ i. front i ++ ((fits.spells.bytes ∙ ap (block_as fits.spells.format) (sym (same_meta m c stores))) i ++ be32 (length (front i))));
    }

pub rewrites_to_version : RewritesToVersion
rewrites_to_version v w c same f =
    let begins = file_begins w c f in
    let lengths : length v.body ≡ length w.body = ap length same in
    let front : take (length v.body) c ≡ v.body = ap (λ n. take n c) lengths ∙ begins.1 ∙ sym same in
    let long = begins.0 in (
      (omega (arith, long, lengths), ap chunk_hashes (sym front)),
      (λ i. record { header = v.header; key = v.key; elements = v.elements; body = front i }),
    )
