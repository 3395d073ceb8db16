-- What is read of a block that passes its checks.
use Rattle.std.proofs.Common.{◌≡◌, ℕ, ◌+◌, ◌-◌, ◌*◌, ◌^◌, ◌<◌, ◌≤◌, List, length, length-drop, length-take, drop, Bool, true, false, cond, refl, sym, ap, subst, ◌∙◌, arith}
use Rattle.std.specs.Prelude.{IfOk, IfErr, OnOk, Some, None, Result, Ok, Err, if◌then◌else◌, slice_range, map}
use Rattle.std.specs.List.{range_with_len}
use Rattle.std.proofs.lemmas.List.FromFn.{length-map-range_with_len}
use Rattle.cache_base.specs.Bytes.{AreBytes, be16_at}
use Rattle.cache_base.specs.Limits.{chunks}
use Rattle.cache_base.specs.declared.limits.TheConstants.{BLOCK_MAX}
use Rattle.entry_key.specs.Walk.{read_key, reads}
use Rattle.entry_parts.specs.declared.header.Header.{Header}
use Rattle.entry_parts.specs.declared.fault.PartsFault.{PartsFault}
use Rattle.entry_parts.specs.declared.fault.PartsFault.TheVariants as parts
use Rattle.entry_parts.specs.Elements.{Element, elements_bytes, elements_of, have_form}
use Rattle.entry_parts.proofs.SpelledLaws.{elements_spelled}
use Rattle.entry_metadata.specs.declared.fault.MetaFault.{MetaFault}
use Rattle.entry_metadata.specs.declared.fault.MetaFault.TheVariants as faults
use Rattle.entry_metadata.specs.declared.meta.Meta.{Meta}
use Rattle.entry_metadata.specs.Checks.{IsFirstFault, block_fault, block_max, header_len, meta_in}
use Rattle.entry_metadata.specs.Meta.{meta_of}
use Rattle.entry_metadata.specs.Metadata.{Format, Meta as Said, Spells, block_length}
use Rattle.entry_metadata.specs.Passed.{PassedAt}
use Rattle.entry_metadata.proofs.FormatLaws.{bytes_of, format_of, header_len-number, number, small_out}
use Rattle.entry_metadata.proofs.FirstFault.{all_behind}
use Rattle.entry_metadata.proofs.SpelledLaws.{Spells-passes, passes-Spells}

-- bytes that were read as elements have the form
formed : (b : List ℕ) (es : List Element) → (have_form b ≡ false → ◌≡◌ {A = Result (List Element) PartsFault} (Ok es) (Err parts.BadForm)) → have_form b ≡ true
formed b es bad = go (have_form b) refl
  where
    go : (t : Bool) → have_form b ≡ t → have_form b ≡ true
    go true e = e
    go false e = absurd (cc (bad e))

-- what is known of the parts that were read of a block
pub record Read (block : List ℕ) (o : ℕ) (h : Header) (key : List ℕ) (es : List Element) (hs : List ℕ) : Type 0 where
  pub passes : block_fault block o ≡ None
  pub says : record { header = h; key = key; elements = es; hashes = hs; offset = o } ≡ meta_in block o
  pub key_size : h.key_size ≡ length key
  pub grammar : reads (read_key key) ≡ true
  pub hash_count : length hs ≡ chunks o
  pub small : block_length (length hs) (length key) (length (elements_bytes es)) ≤ BLOCK_MAX

-- a header of k bytes
module _ (block : List ℕ) (o n k : ℕ) (h : Header) (e : n ≡ chunks o) (len : k ≡ header_len h.version) (p : PassedAt block o (chunks o) h) where
  at_n : PassedAt block o n h
  at_n = subst (λ c. PassedAt block o c h) (sym e) p

  within : 4 + 2 * n + k + h.key_size < length block
  within = subst (λ j. 4 + 2 * n + j + h.key_size < length block) (sym len) at_n.within

  -- its version
  format : (f : Format) × (number f ≡ h.version)
  format = format_of h.version at_n.version

  module _ (key : List ℕ) (es : List Element) (hs : List ℕ)
      (c : key ≡ slice_range block (4 + 2 * n + k) (4 + 2 * n + k + h.key_size))
      (y : es ≡ elements_of (slice_range block (4 + 2 * n + k + h.key_size + 1) (length block)))
      (bad : have_form (slice_range block (4 + 2 * n + k + h.key_size + 1) (length block)) ≡ false → ◌≡◌ {A = Result (List Element) PartsFault} (Ok es) (Err parts.BadForm))
      (s : hs ≡ map (λ i. be16_at block (4 + 2 * i)) (range_with_len 0 n)) where
    form : have_form (drop (4 + 2 * n + k + h.key_size + 1) block) ≡ true
    form = ap have_form (sym (all_behind block (4 + 2 * n + k + h.key_size + 1))) ∙ formed (slice_range block (4 + 2 * n + k + h.key_size + 1) (length block)) es bad

    elements_behind : es ≡ elements_of (drop (4 + 2 * n + k + h.key_size + 1) block)
    elements_behind = y ∙ ap elements_of (all_behind block (4 + 2 * n + k + h.key_size + 1))

    says : record { header = record h { version = 3 }; key = key; elements = es; hashes = hs; offset = o } ≡ meta_in block o
    unfolding meta_in
    says = λ i. record {
      header = record (p.header i) { version = 3 };
      key = (c ∙ (λ j. slice_range block (4 + 2 * e j + len j) (4 + 2 * e j + len j + h.key_size))
          ∙ (λ j. slice_range block (4 + 2 * chunks o + header_len (p.header j).version) (4 + 2 * chunks o + header_len (p.header j).version + (p.header j).key_size))) i;
      elements = (elements_behind ∙ (λ j. elements_of (drop (4 + 2 * e j + len j + h.key_size + 1) block))
          ∙ (λ j. elements_of (drop (4 + 2 * chunks o + header_len (p.header j).version + (p.header j).key_size + 1) block))) i;
      hashes = (s ∙ ap (λ m. map (λ i. be16_at block (4 + 2 * i)) (range_with_len 0 m)) e) i;
      offset = o;
    }

    key_size_is : h.key_size ≡ length key
    key_size_is =
        let l = within in let a = length-drop (4 + 2 * n + k) block in
        let b = length-take (4 + 2 * n + k + h.key_size - (4 + 2 * n + k)) (drop (4 + 2 * n + k) block) in
        let d = ap length c in
        omega (arith, l, a, b, d)

    small_is : block_length (length hs) (length key) (length (elements_bytes es)) ≤ BLOCK_MAX
    small_is =
        let a = ap length s ∙ length-map-range_with_len (λ i. be16_at block (4 + 2 * i)) 0 n in
        let b = key_size_is in
        let d = ap length (ap elements_bytes elements_behind ∙ elements_spelled _ form) ∙ length-drop (4 + 2 * n + k + h.key_size + 1) block in
        let l = within in
        let own : k ≡ bytes_of format.0 = len ∙ sym (ap header_len format.1) ∙ header_len-number format.0 in
        let m : length block + 32 ≤ BLOCK_MAX + bytes_of format.0 = small_out format.0 (length block) (subst (λ v. length block ≤ block_max v) (sym format.1) at_n.small) in
        omega (arith, a, b, d, l, m, own)

    pub read : Read block o (record h { version = 3 }) key es hs
    read = record {
      passes = at_n.fault ∙ ap (λ j. if have_form (drop (4 + 2 * n + j + h.key_size + 1) block) then None else Some faults.Elements) (sym len) ∙ ap (λ (b : Bool). cond b None (Some faults.Elements)) form;
      says = says;
      key_size = key_size_is;
      grammar = ap (λ ys. reads (read_key ys)) (c ∙ (λ i. slice_range block (4 + 2 * n + len i) (4 + 2 * n + len i + h.key_size))) ∙ at_n.grammar;
      hash_count = ap length s ∙ length-map-range_with_len (λ i. be16_at block (4 + 2 * i)) 0 n ∙ e;
      small = small_is;
    }

-- ---- the answer of reading

pub spelled : (block : List ℕ) (o : ℕ) (r : Result Meta MetaFault) → AreBytes block → o < 2 ^ 32 - 1
    → OnOk r (block_fault block o ≡ None) → IfOk r (λ m. meta_of m ≡ meta_in block o) → IfOk r (λ m. Spells block o (meta_of m))
spelled block o (Ok m) bytes low passes said = subst (Spells block o) (sym said) (passes-Spells block o bytes low passes)
spelled block o (Err f) bytes low passes said = tt

pub refused : (block : List ℕ) (o : ℕ) (r : Result Meta MetaFault) (said : Said) → Spells block o said → IfErr r (IsFirstFault block o) → IfErr r (λ f. f ≡ faults.Memory)
refused block o (Ok m) said s first = tt
refused block o (Err f) said s first = only_memory block o f (Spells-passes block o said s) first
  where
    only_memory : (block : List ℕ) (o : ℕ) (f : MetaFault) → block_fault block o ≡ None → IsFirstFault block o f → f ≡ faults.Memory
    only_memory block o faults.Memory passes first = refl
    only_memory block o faults.Short passes first = absurd (cc (sym passes ∙ first))
    only_memory block o faults.TooBig passes first = absurd (cc (sym passes ∙ first))
    only_memory block o faults.Version passes first = absurd (cc (sym passes ∙ first))
    only_memory block o faults.KeyEnd passes first = absurd (cc (sym passes ∙ first))
    only_memory block o faults.Hash passes first = absurd (cc (sym passes ∙ first))
    only_memory block o faults.KeyForm passes first = absurd (cc (sym passes ∙ first))
    only_memory block o faults.Elements passes first = absurd (cc (sym passes ∙ first))
