-- A content reads as a whole version exactly where it is a file of that version.
use Rattle.std.proofs.Common.{◌≡◌, ℕ, ◌≤◌, List, [], ◌∷◌, length, take, refl, ap, subst, ◌∙◌}
use Rattle.std.specs.Prelude.{Option, None, Some, is_none}
use Rattle.std.proofs.lemmas.List.{length-take-le}
use Rattle.cache_base.specs.Bytes.{AreBytes}
use Rattle.cache_base.proofs.ByteLaws.{bytes_take}
use Rattle.chunk_store.specs.declared.damage.Damage.{Damage}
use Rattle.chunk_store.specs.Chunks.{damages}
use Rattle.entry_name.specs.EntryName.{file_name}
use Rattle.entry_metadata.specs.Checks.{meta_in}
use Rattle.entry_metadata.specs.Metadata.{Meta}
use Rattle.entry_file.specs.declared.entry_read.Unfit.{Unfit}
use Rattle.entry_file.specs.EntryFile.{body_in, offset_in, file_fault, file_meta, Fits, Reading, Whole, Damaged, Nothing, by_damages, by_fault, read, ReadsWholeExactly}
use Rattle.entry_file.specs.Damages.{first}
use Rattle.entry_file.specs.Rewriting.{ReadsByDamage, StoresBody, whole_or}
use Rattle.entry_file.specs.Version.{Version, IsFileOf, IsVersion}
use Rattle.entry_file.proofs.EntryLaws.{file_reads_whole, fits-Fits, fits_meta}
use Rattle.entry_file.proofs.Faults.{offset_within}
use Rattle.entry_file.proofs.FitLaws.{Fits-fits, none_of}
use Rattle.entry_file.proofs.StoredBody.{hashes_same, is_version, stores_whole}

-- the version that metadata and a body make
abbrev made : Meta → List ℕ → Version
made m body = record { header = m.header; key = m.key; elements = m.elements; body = body }

whole_of : Version → Reading → Version
whole_of d (Whole v) = v
whole_of d (Damaged e) = d
whole_of d Nothing = d

-- a whole reading comes of no damage
undamaged : (m : Meta) (body : List ℕ) (ds : List Damage) (v : Version) → by_damages m body ds ≡ Whole v → (ds ≡ []) × (made m body ≡ v)
unfolding whole_of
undamaged m body [] v e = (refl, ap (whole_of v) e)
undamaged m body (d ∷ ds) v e = absurd (cc)

-- and of no fault
faultless : (c : List ℕ) (o : Option Unfit) (v : Version) → by_fault o c ≡ Whole v → (o ≡ None) × (damages (file_meta c).hashes (file_meta c).offset (body_in c) ≡ []) × (made (file_meta c) (body_in c) ≡ v)
faultless c None v e = let parts = undamaged (file_meta c) (body_in c) _ v e in (refl, parts.0, parts.1)
faultless c (Some f) v e = absurd (cc)

whole_is_file : (name c : List ℕ) (v : Version) → AreBytes c → read name c ≡ Whole v → IsVersion v × (file_name v.key ≡ name) × IsFileOf v c
unfolding read meta_in
whole_is_file name c v bytes e =
    let parts = faultless c (file_fault name c) v e in
    let fit : Fits name c (file_meta c) = Fits-fits name c bytes (ap is_none parts.0) in
    let m : Meta = file_meta c in
    let front : List ℕ = body_in c in
    let within : offset_in c ≤ length c = offset_within name c parts.0 in
    let stores : StoresBody (Some c) m = (within, hashes_same m front fit.spells.meta.hashes (length-take-le (offset_in c) c within) parts.1) in
    subst (λ w. IsVersion w × (file_name w.key ≡ name) × IsFileOf w c) parts.2
    (is_version m c stores fit.spells.meta (bytes_take (offset_in c) c bytes), fit.named, stores_whole name c m fit stores)

pub reads_whole_exactly : ReadsWholeExactly
reads_whole_exactly name c v bytes = (
  whole_is_file name c v bytes,
  λ h. subst (λ n. read n c ≡ Whole v) h.1 (file_reads_whole v c h.0 h.2),
)

-- ---- by the first damage

by_first : (m : Meta) (body : List ℕ) (ds : List Damage) → by_damages m body ds ≡ whole_or (first ds) (made m body)
by_first m body [] = refl
by_first m body (d ∷ ds) = refl

pub reads_by_damage : ReadsByDamage
unfolding read meta_in
reads_by_damage name c m f =
    ap (λ (o : Option Unfit). by_fault o c) (none_of (file_fault name c) (fits-Fits name c m f))
    ∙ (λ i. by_damages (fits_meta name c m f i) (take (fits_meta name c m f i).offset c)
    (damages (fits_meta name c m f i).hashes (fits_meta name c m f i).offset (take (fits_meta name c m f i).offset c)))
    ∙ by_first m (take m.offset c) (damages m.hashes m.offset (take m.offset c))
