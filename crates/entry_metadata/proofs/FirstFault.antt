-- The first failing check of a block.
use Rattle.std.proofs.Common.{◌≡◌, ◌≢◌, ℕ, ◌+◌, ◌-◌, ◌*◌, ◌<◌, ◌≤◌, List, [], ◌∷◌, length, length-drop, take, drop, Bool, true, false, not, ◌&&◌, refl, sym, ap, subst, ◌∙◌, arith}
use Rattle.std.specs.Prelude.{Option, Some, None, Result, Ok, Err, IfOk, IfErr, is_err, nat_le, nat_lt, ◌==◌, slice_index, slice_range, if◌then◌else◌}
use Rattle.std.proofs.lemmas.Bool.{and_from, and_left, and_right, eq-eqb, le-leb, le-ltb, lt-leb, lt-ltb, ne_eqb}
use Rattle.std.proofs.Math.Seq.{take-length}
use Rattle.cache_base.specs.Bytes.{be32_at}
use Rattle.cache_base.specs.Checks.{first_failing}
use Rattle.cache_base.specs.Limits.{chunks}
use Rattle.cache_base.specs.declared.limits.TheConstants.{BLOCK_MAX}
use Rattle.jenkins_hash.specs.Hash.{hash_of}
use Rattle.entry_key.specs.declared.key_fault.KeyFault.{KeyFault}
use Rattle.entry_key.specs.declared.tags.KeyTags.{KeyTags}
use Rattle.entry_key.specs.KeyTags.{KeySays}
use Rattle.entry_key.specs.Tags.{tags_of}
use Rattle.entry_key.specs.Walk.{read_key, reads}
use Rattle.entry_key.proofs.KeyLaws.{reads_exactly}
use Rattle.entry_parts.specs.declared.header.Header.{Header}
use Rattle.entry_parts.specs.Elements.{have_form}
use Rattle.entry_metadata.specs.declared.fault.MetaFault.{MetaFault}
use Rattle.entry_metadata.specs.declared.fault.MetaFault.TheVariants as faults
use Rattle.entry_metadata.specs.Checks.{block_fault, block_max, checks_of, header_len, is_version, meta_in, stored_header}
use Rattle.entry_metadata.specs.Passed.{PassedAt}
use Rattle.entry_metadata.proofs.FormatLaws.{block_max_less}

-- all that stands from a place on
pub all_behind : (xs : List ℕ) (n : ℕ) → take (length xs - n) (drop n xs) ≡ drop n xs
all_behind xs n = ap (λ k. take k (drop n xs)) (sym (length-drop n xs)) ∙ take-length (drop n xs)

-- the fault of the first of seven tests that fails
first_of : Bool → Bool → Bool → Bool → Bool → Bool → Bool → Option MetaFault
first_of a b c d e f g = first_failing
    ((a, faults.Short) ∷ (b, faults.TooBig) ∷ (c, faults.Version) ∷ (d, faults.KeyEnd) ∷ (e, faults.Hash) ∷ (f, faults.KeyForm) ∷ (g, faults.Elements) ∷ [])

-- the same of a block with n hashes and this header of k bytes
abbrev first_at : List ℕ → ℕ → ℕ → Header → Option MetaFault
first_at block n k x = first_of
    (nat_le (4 + 2 * n + 29) (length block))
    (nat_le (length block) (block_max x.version))
    (is_version x.version)
    (nat_lt (4 + 2 * n + k + x.key_size) (length block) && slice_index block (4 + 2 * n + k + x.key_size) == 0)
    (be32_at block 0 == hash_of (drop 4 block))
    (reads (read_key (slice_range block (4 + 2 * n + k) (4 + 2 * n + k + x.key_size))))
    (have_form (drop (4 + 2 * n + k + x.key_size + 1) block))

as_rows : (block : List ℕ) (o n k : ℕ) (x : Header) → n ≡ chunks o → stored_header (drop (4 + 2 * n) block) ≡ x → k ≡ header_len x.version → block_fault block o ≡ first_at block n k x
unfolding checks_of meta_in first_of
as_rows block o n k x e h l =
    ap (λ j. first_at block j (header_len (stored_header (drop (4 + 2 * j) block)).version) (stored_header (drop (4 + 2 * j) block))) (sym e)
    ∙ ap (λ (y : Header). first_at block n (header_len y.version) y) h ∙ ap (λ j. first_at block n j x) (sym l)

first_fails : (a b c d e f g : Bool) → a ≡ false → first_of a b c d e f g ≡ Some faults.Short
unfolding first_of
first_fails a b c d e f g ha = λ i. first_of (ha i) b c d e f g

second_fails : (a b c d e f g : Bool) → a ≡ true → b ≡ false → first_of a b c d e f g ≡ Some faults.TooBig
unfolding first_of
second_fails a b c d e f g ha hb = λ i. first_of (ha i) (hb i) c d e f g

third_fails : (a b c d e f g : Bool) → a ≡ true → b ≡ true → c ≡ false → first_of a b c d e f g ≡ Some faults.Version
unfolding first_of
third_fails a b c d e f g ha hb hc = λ i. first_of (ha i) (hb i) (hc i) d e f g

fourth_fails : (a b c d e f g : Bool) → a ≡ true → b ≡ true → c ≡ true → d ≡ false → first_of a b c d e f g ≡ Some faults.KeyEnd
unfolding first_of
fourth_fails a b c d e f g ha hb hc hd = λ i. first_of (ha i) (hb i) (hc i) (hd i) e f g

fifth_fails : (a b c d e f g : Bool) → a ≡ true → b ≡ true → c ≡ true → d ≡ true → e ≡ false → first_of a b c d e f g ≡ Some faults.Hash
unfolding first_of
fifth_fails a b c d e f g ha hb hc hd he = λ i. first_of (ha i) (hb i) (hc i) (hd i) (he i) f g

sixth_fails : (a b c d e f g : Bool) → a ≡ true → b ≡ true → c ≡ true → d ≡ true → e ≡ true → f ≡ false → first_of a b c d e f g ≡ Some faults.KeyForm
unfolding first_of
sixth_fails a b c d e f g ha hb hc hd he hf = λ i. first_of (ha i) (hb i) (hc i) (hd i) (he i) (hf i) g

six_pass : (a b c d e f g : Bool) → a ≡ true → b ≡ true → c ≡ true → d ≡ true → e ≡ true → f ≡ true → first_of a b c d e f g ≡ (if g then None else Some faults.Elements)
unfolding first_of
six_pass a b c d e f g ha hb hc hd he hf = λ i. first_of (ha i) (hb i) (hc i) (hd i) (he i) (hf i) g

module _ (block : List ℕ) (o n : ℕ) (e : n ≡ chunks o) where
  -- the rows of the header that stands in the block
  rows : block_fault block o ≡ first_at block n (header_len (be32_at block (4 + 2 * n))) (stored_header (drop (4 + 2 * n) block))
  rows = as_rows block o n _ _ e refl refl

  pub short : length block < 4 + 2 * n + 29 → block_fault block o ≡ Some faults.Short
  short lt = rows ∙ first_fails _ _ _ _ _ _ _ (lt-leb _ _ lt)

  module _ (v : ℕ) (there : v ≡ be32_at block (4 + 2 * n)) (a : 4 + 2 * n + 29 ≤ length block) where
    pub too_big : block_max v < length block → block_fault block o ≡ Some faults.TooBig
    too_big lt = rows ∙ second_fails _ _ _ _ _ _ _ (le-leb _ _ a) (ap (λ w. nat_le (length block) (block_max w)) (sym there) ∙ lt-leb _ _ lt)

    module _ (b : length block ≤ block_max v) where
      small : nat_le (length block) (block_max (be32_at block (4 + 2 * n))) ≡ true
      small = ap (λ w. nat_le (length block) (block_max w)) (sym there) ∙ le-leb _ _ b

      pub version : is_version v ≡ false → block_fault block o ≡ Some faults.Version
      version none = rows ∙ third_fails _ _ _ _ _ _ _ (le-leb _ _ a) small (ap is_version (sym there) ∙ none)

      module _ (one : is_version v ≡ true) (k : ℕ) (len : k ≡ header_len v) where
        known : is_version (be32_at block (4 + 2 * n)) ≡ true
        known = ap is_version (sym there) ∙ one

        -- the same with the length of the header
        rows_at : (x : Header) → x ≡ stored_header (drop (4 + 2 * n) block) → block_fault block o ≡ first_at block n k x
        rows_at x is = as_rows block o n k x e (sym is) (len ∙ ap header_len (there ∙ ap (λ (h : Header). h.version) (sym is)))

        before : (size : ℕ) → length block < 4 + 2 * n + k + 1 → length block ≤ 4 + 2 * n + k + size
        before size lt = omega (arith, lt)

        pub key_end_short : length block < 4 + 2 * n + k + 1 → block_fault block o ≡ Some faults.KeyEnd
        key_end_short lt = rows_at _ refl ∙ fourth_fails _ _ _ _ _ _ _ (le-leb _ _ a) small known (and_left _ _ (le-ltb _ _ (before (stored_header (drop (4 + 2 * n) block)).key_size lt)))

        module _ (h : Header) (is : h ≡ stored_header (drop (4 + 2 * n) block)) where
          version_is : h.version ≡ v
          version_is = ap (λ (x : Header). x.version) is ∙ sym there

          small_h : nat_le (length block) (block_max h.version) ≡ true
          small_h = ap (λ w. nat_le (length block) (block_max w)) version_is ∙ le-leb _ _ b

          known_h : is_version h.version ≡ true
          known_h = ap is_version version_is ∙ one

          pub key_end_out : length block ≤ 4 + 2 * n + k + h.key_size → block_fault block o ≡ Some faults.KeyEnd
          key_end_out le = rows_at h is ∙ fourth_fails _ _ _ _ _ _ _ (le-leb _ _ a) small_h known_h (and_left _ _ (le-ltb _ _ le))

          pub key_end_other : 4 + 2 * n + k + h.key_size < length block → slice_index block (4 + 2 * n + k + h.key_size) ≢ 0 → block_fault block o ≡ Some faults.KeyEnd
          key_end_other lt z = rows_at h is ∙ fourth_fails _ _ _ _ _ _ _ (le-leb _ _ a) small_h known_h (and_right _ _ (ne_eqb _ _ z))

          module _ (lt : 4 + 2 * n + k + h.key_size < length block) (z : slice_index block (4 + 2 * n + k + h.key_size) ≡ 0) where
            ends : (nat_lt (4 + 2 * n + k + h.key_size) (length block) && slice_index block (4 + 2 * n + k + h.key_size) == 0) ≡ true
            ends = and_from _ _ (lt-ltb _ _ lt) (eq-eqb _ _ z)

            pub other_hash : be32_at block 0 ≢ hash_of (drop 4 block) → block_fault block o ≡ Some faults.Hash
            other_hash m = rows_at h is ∙ fifth_fails _ _ _ _ _ _ _ (le-leb _ _ a) small_h known_h ends (ne_eqb _ _ m)

            pub key_form : be32_at block 0 ≡ hash_of (drop 4 block) → reads (read_key (slice_range block (4 + 2 * n + k) (4 + 2 * n + k + h.key_size))) ≡ false → block_fault block o ≡ Some faults.KeyForm
            key_form m r = rows_at h is ∙ sixth_fails _ _ _ _ _ _ _ (le-leb _ _ a) small_h known_h ends (eq-eqb _ _ m) r

            -- the facts of a header of k bytes
            passed_at : be32_at block 0 ≡ hash_of (drop 4 block) → reads (read_key (slice_range block (4 + 2 * n + k) (4 + 2 * n + k + h.key_size))) ≡ true
                → (reads (read_key (slice_range block (4 + 2 * n + k) (4 + 2 * n + k + h.key_size))) ≡ true)
                × (block_fault block o ≡ (if have_form (drop (4 + 2 * n + k + h.key_size + 1) block) then None else Some faults.Elements))
            passed_at m r = (r, rows_at h is ∙ six_pass _ _ _ _ _ _ _ (le-leb _ _ a) small_h known_h ends (eq-eqb _ _ m) r)

            pub passed : be32_at block 0 ≡ hash_of (drop 4 block) → reads (read_key (slice_range block (4 + 2 * n + k) (4 + 2 * n + k + h.key_size))) ≡ true → PassedAt block o (chunks o) h
            passed m r =
                let facts = passed_at m r in
                let own : k ≡ header_len h.version = len ∙ ap header_len (sym version_is) in
                subst (λ c. PassedAt block o c h) e (record {
                  header = is;
                  version = known_h;
                  within = subst (λ j. 4 + 2 * n + j + h.key_size < length block) own lt;
                  small = subst (λ w. length block ≤ block_max w) (sym version_is) b;
                  grammar = subst (λ j. reads (read_key (slice_range block (4 + 2 * n + j) (4 + 2 * n + j + h.key_size))) ≡ true) own facts.0;
                  fault = subst (λ j. block_fault block o ≡ (if have_form (drop (4 + 2 * n + j + h.key_size + 1) block) then None else Some faults.Elements)) own facts.1;
                })

-- what the code's tests say
pub above : {n most max : ℕ} → most ≡ max → most < n → max < n
above {n} e lt = subst (λ m. m < n) e lt

pub below : {n most max : ℕ} → most ≡ max → n ≤ most → n ≤ max
below {n} e le = subst (λ m. n ≤ m) e le

-- too many bytes for any version
pub larger : (block : List ℕ) (o n : ℕ) → n ≡ chunks o → 4 + 2 * n + 29 ≤ length block → BLOCK_MAX < length block → block_fault block o ≡ Some faults.TooBig
larger block o n e a lt = too_big block o n e _ refl a (let most = block_max_less (be32_at block (4 + 2 * n)) in omega (arith, most, lt))

-- a key reads exactly where it is parsed
pub is_err-reads : (key : List ℕ) (r : Result KeyTags KeyFault) (b : Bool) → b ≡ is_err r → IfOk r (KeySays key) → IfErr r (λ f. read_key key ≡ Err f) → reads (read_key key) ≡ not b
is_err-reads key (Ok t) b e says fault = ap reads ((reads_exactly key (tags_of key) t.address.now).1 says.reads) ∙ ap not (sym e)
is_err-reads key (Err f) b e says fault = ap reads fault ∙ ap not (sym e)
