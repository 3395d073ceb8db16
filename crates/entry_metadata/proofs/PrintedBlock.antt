-- What is printed is the block of what may stand in one.
use Rattle.std.proofs.Common.{◌≡◌, ℕ, ◌-◌, ◌^◌, ◌<◌, ◌≤◌, List, ◌∷◌, ◌++◌, length, true, subst, ◌∙◌, arith}
use Rattle.std.specs.Prelude.{IfOk, Result, Ok, Err, flat_map}
use Rattle.std.specs.List.{AllByRecursion}
use Rattle.cache_base.specs.Bytes.{AreBytes, be16}
use Rattle.cache_base.specs.Limits.{chunks}
use Rattle.cache_base.specs.declared.limits.TheConstants.{BLOCK_MAX}
use Rattle.cache_base.specs.declared.items.NoMemory.{NoMemory}
use Rattle.entry_key.specs.Walk.{read_key, reads}
use Rattle.entry_parts.specs.Elements.{AreElements, elements_bytes}
use Rattle.entry_parts.specs.Header.{IsHeader, header_bytes}
use Rattle.entry_metadata.specs.Fields.{FieldsFit}
use Rattle.entry_metadata.specs.Metadata.{IsMeta, Meta, Third, block_bytes, block_length, block_rest}
use Rattle.entry_metadata.proofs.BlockLaws.{length-block_as}
use Rattle.entry_metadata.proofs.SpelledLaws.{reading}

pub length-block : (m : Meta) → length (block_bytes m) ≡ block_length (length m.hashes) (length m.key) (length (elements_bytes m.elements))
length-block m =
    let a = length-block_as Third m in
    omega (arith, a)

-- numbers that fit, under other names
pub fit_along : {h k e h' k' e' : List ℕ} → h ≡ h' → k ≡ k' → e ≡ e' → FieldsFit h k e → FieldsFit h' k' e'
fit_along p q r s = record {
  hashes = subst (AllByRecursion (λ h. h < 2 ^ 16)) p s.hashes;
  key = subst AreBytes q s.key;
  elements = subst AreBytes r s.elements;
}

pub is_meta : (m : Meta) → IsHeader m.header → m.header.version ≡ 3 → m.header.key_size ≡ length m.key → reads (read_key m.key) ≡ true → FieldsFit m.hashes m.key (elements_bytes m.elements)
    → AreElements m.elements → length m.hashes ≡ chunks m.offset
    → m.offset < 2 ^ 32 - 1 → block_length (length m.hashes) (length m.key) (length (elements_bytes m.elements)) ≤ BLOCK_MAX → IsMeta m
is_meta m header version size grammar fit elements count offset small = record {
  header = header;
  version = version;
  key_size = size;
  key = reading m.key grammar;
  key_bytes = fit.key;
  elements = elements;
  element_bytes = fit.elements;
  hashes = count;
  hash_words = fit.hashes;
  offset = offset;
  small = let l = length-block m in omega (arith, l, small);
}

-- a join of these parts is the block past its hash
pub is_rest : (m : Meta) (r : Result (List ℕ) NoMemory) {hs h k es : List ℕ} → hs ≡ m.hashes → h ≡ header_bytes m.header → k ≡ m.key → es ≡ elements_bytes m.elements
    → IfOk r (λ out. out ≡ flat_map be16 hs ++ (h ++ (k ++ 0 ∷ es))) → IfOk r (λ rest. rest ≡ block_rest m)
is_rest m (Ok out) p q s t joined = joined ∙ (λ i. flat_map be16 (p i) ++ (q i ++ (s i ++ 0 ∷ t i)))
is_rest m (Err e) p q s t joined = tt
