-- A content that passes the checks of a file is a join of a body, a block and the block's offset.
use Rattle.std.proofs.Common.{◌≡◌, ℕ, ◌+◌, ◌-◌, ◌^◌, ◌<◌, ◌≤◌, List, ◌++◌, length, take, drop, true, refl, sym, ap, subst, ◌∙◌, arith, length-take, length-drop}
use Rattle.std.specs.Prelude.{Option, None, Some, is_none}
use Rattle.std.proofs.lemmas.List.{take-append-drop}
use Rattle.std.proofs.lemmas.Slice.Eq.{bytes_eq-Decides}
use Rattle.std.proofs.Math.Seq.{take-length}
use Rattle.cache_base.specs.Bytes.{AreBytes, be32}
use Rattle.cache_base.proofs.ByteLaws.{bytes_take, bytes_drop, cut, four, small32}
use Rattle.entry_name.specs.EntryName.{file_name}
use Rattle.entry_metadata.specs.Checks.{meta_in}
use Rattle.entry_metadata.specs.Metadata.{Spells}
use Rattle.entry_metadata.proofs.SpelledLaws.{passes-Spells}
use Rattle.entry_file.specs.declared.entry_read.Unfit.{Unfit}
use Rattle.entry_file.specs.EntryFile.{offset_in, block_in, file_fault, file_meta, fits, Fits, FitsExactly}
use Rattle.entry_file.proofs.EntryLaws.{fits-Fits}
use Rattle.entry_file.proofs.Faults.{has_parts, passed}

pub none_of : (o : Option Unfit) → is_none o ≡ true → o ≡ None
none_of None h = refl
none_of (Some f) h = absurd (cc)

-- a content that passes its checks, whose block spells its metadata and which ends in bytes
pub joined : (name c : List ℕ) → file_fault name c ≡ None → AreBytes (drop (length c - 4) c) → Spells (block_in c) (offset_in c) (file_meta c) → Fits name c (file_meta c)
unfolding meta_in
joined name c none tail_bytes spelled =
    let rows = passed name c none in
    let ending = has_parts c rows.0 in
    let enough : 4 ≤ length c = ending.0 in
    let within : offset_in c ≤ length c - 4 = ending.2 in
    let tail : List ℕ = drop (length c - 4) c in
    let tail_long : length tail ≡ 4 = length-drop (length c - 4) c ∙ omega (arith, enough) in
    let tail_spelled : be32 (offset_in c) ≡ tail =
    four tail tail_bytes (omega (arith, tail_long)) ∙ ap (λ n. take n tail) (sym tail_long) ∙ take-length tail in
    let place : offset_in c + (length c - 4 - offset_in c) ≡ length c - 4 = omega (arith, within) in
    let ends : length (take (offset_in c) c) ≡ offset_in c = length-take (offset_in c) c ∙ omega (arith, within) in
    record {
      body = take (offset_in c) c;
      block = block_in c;
      spells = subst (λ n. Spells (block_in c) n (file_meta c)) (sym ends) spelled;
      named = (bytes_eq-Decides (file_name (file_meta c).key) name).0 rows.2;
      bytes = sym (
          (λ i. take (offset_in c) c ++ (block_in c ++ (ap be32 ends ∙ tail_spelled) i))
          ∙ ap (λ n. take (offset_in c) c ++ (block_in c ++ drop n c)) (sym place)
          ∙ ap (λ ys. take (offset_in c) c ++ ys) (cut c (offset_in c) (length c - 4 - offset_in c))
          ∙ take-append-drop (offset_in c) c);
    }

pub Fits-fits : (name c : List ℕ) → AreBytes c → fits name c ≡ true → Fits name c (file_meta c)
Fits-fits name c bytes fit =
    let none = none_of (file_fault name c) fit in
    let rows = passed name c none in
    let ending = has_parts c rows.0 in
    let tail_bytes : AreBytes (drop (length c - 4) c) = bytes_drop (length c - 4) c bytes in
    let word : offset_in c < 2 ^ 32 = small32 (drop (length c - 4) c) tail_bytes in
    let low : offset_in c < 2 ^ 32 - 1 = let other = ending.1 in omega (arith, word, other) in
    let block_bytes_are : AreBytes (block_in c) = bytes_take (length c - 4 - offset_in c) (drop (offset_in c) c) (bytes_drop (offset_in c) c bytes) in
    joined name c none tail_bytes (passes-Spells (block_in c) (offset_in c) block_bytes_are low rows.1)

pub fits_exactly : FitsExactly
fits_exactly name c bytes = (λ fit. (file_meta c, Fits-fits name c bytes fit), λ f. fits-Fits name c f.0 f.1)
