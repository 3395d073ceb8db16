-- The versions of the format, and their headers.
use Rattle.std.proofs.Common.{◌≡◌, ◌≢◌, ℕ, zero, suc, ◌+◌, ◌<◌, ◌≤◌, ◌^◌, List, ◌++◌, length, take, Bool, true, false, cond, refl, sym, ap, ◌∙◌, arith}
use Rattle.std.specs.Prelude.{◌==◌, if◌then◌else◌, nat_le}
use Rattle.std.proofs.lemmas.Bool.{and_parts, leb-true, ne_eqb}
use Rattle.cache_base.specs.Bytes.{AreBytes, be32_at}
use Rattle.cache_base.specs.declared.limits.TheConstants.{BLOCK_MAX}
use Rattle.entry_parts.specs.declared.header.Header.{Header}
use Rattle.entry_parts.specs.Header.{IsHeader, header_bytes, header_in, short_header_bytes, short_header_in}
use Rattle.entry_parts.proofs.HeaderLaws.{header_front, header_small, header_spelled, short_header_front, short_header_spelled}
use Rattle.entry_metadata.specs.Metadata.{CanSay, Format, First, Second, Third, header_as}
use Rattle.entry_metadata.specs.Checks.{block_max, header_len, is_version, stored_header}

-- the number that stands for a version, and the bytes of its header
abbrev pub number : Format → ℕ
number First = 1
number Second = 2
number Third = 3

abbrev pub bytes_of : Format → ℕ
bytes_of First = 28
bytes_of Second = 32
bytes_of Third = 32

pub header_len-number : (f : Format) → header_len (number f) ≡ bytes_of f
unfolding header_len
header_len-number First = refl
header_len-number Second = refl
header_len-number Third = refl

pub bytes_within : (f : Format) → (28 ≤ bytes_of f) × (bytes_of f ≤ 32)
bytes_within First = (omega arith, omega arith)
bytes_within Second = (omega arith, omega arith)
bytes_within Third = (omega arith, omega arith)

pub length-header_as : (f : Format) (h : Header) → length (header_as f h) ≡ bytes_of f
length-header_as First h = refl
length-header_as Second h = refl
length-header_as Third h = refl

pub is_version-number : (f : Format) → is_version (number f) ≡ true
unfolding is_version
is_version-number First = refl
is_version-number Second = refl
is_version-number Third = refl

pub format_of : (version : ℕ) → is_version version ≡ true → (f : Format) × (number f ≡ version)
unfolding is_version
format_of zero h = absurd (cc)
format_of (suc zero) h = (First, refl)
format_of (suc (suc zero)) h = (Second, refl)
format_of (suc (suc (suc zero))) h = (Third, refl)
format_of (suc (suc (suc (suc n)))) h =
    let parts : (nat_le 1 (suc (suc (suc (suc n)))) ≡ true) × (nat_le (suc (suc (suc (suc n)))) 3 ≡ true) = and_parts _ _ h in
    let small : suc (suc (suc (suc n))) ≤ 3 = leb-true (suc (suc (suc (suc n)))) 3 parts.1 in
    absurd (omega (arith, small))

-- a block is small enough for its version exactly where it is so as version 3
pub small_in : (f : Format) (n : ℕ) → n + 32 ≤ BLOCK_MAX + bytes_of f → n ≤ block_max (number f)
unfolding block_max
small_in First n le = omega (arith, le)
small_in Second n le = omega (arith, le)
small_in Third n le = omega (arith, le)

pub small_out : (f : Format) (n : ℕ) → n ≤ block_max (number f) → n + 32 ≤ BLOCK_MAX + bytes_of f
unfolding block_max
small_out First n le = omega (arith, le)
small_out Second n le = omega (arith, le)
small_out Third n le = omega (arith, le)

pub block_max_less : (version : ℕ) → block_max version ≤ BLOCK_MAX
unfolding block_max
block_max_less version = go (version == 1)
  where
    go : (b : Bool) → cond b 262140 262144 ≤ 262144
    go true = omega arith
    go false = omega arith

-- the header of version 1, and the others
pub first_len : (version : ℕ) → version ≡ 1 → header_len version ≡ 28
unfolding header_len
first_len version e = ap (λ (v : ℕ). if v == 1 then 28 else 32) e

pub other_len : (version : ℕ) → version ≢ 1 → header_len version ≡ 32
unfolding header_len
other_len version other = ap (λ b. cond b 28 32) (ne_eqb _ _ other)

pub first_stored : (xs : List ℕ) → be32_at xs 0 ≡ 1 → short_header_in xs ≡ stored_header xs
first_stored xs e = λ i. record (header_in xs) { flags = if sym e i == 1 then 0 else be32_at xs 28 }

pub other_stored : (xs : List ℕ) → be32_at xs 0 ≢ 1 → header_in xs ≡ stored_header xs
other_stored xs other = λ i. record (header_in xs) { flags = cond (sym (ne_eqb _ _ other) i) 0 (be32_at xs 28) }

-- a header is read from its bytes
pub stored_front : (f : Format) (h : Header) (rest : List ℕ) → IsHeader h → h.version ≡ 3 → CanSay f h → stored_header (header_as f h ++ rest) ≡ record h { version = number f }
stored_front First h rest r version none = short_header_front (record h { version = 1 }) rest (along r (omega arith)) none
  where
    along : IsHeader h → 1 < 2 ^ 32 → IsHeader (record h { version = 1 })
    along r small = record {
      version = small;
      fetch_count = r.fetch_count;
      last_fetched = r.last_fetched;
      last_modified = r.last_modified;
      frecency = r.frecency;
      expiration = r.expiration;
      key_size = r.key_size;
      flags = r.flags;
    }
stored_front Second h rest r version any = header_front (record h { version = 2 }) rest (along r (omega arith))
  where
    along : IsHeader h → 2 < 2 ^ 32 → IsHeader (record h { version = 2 })
    along r small = record {
      version = small;
      fetch_count = r.fetch_count;
      last_fetched = r.last_fetched;
      last_modified = r.last_modified;
      frecency = r.frecency;
      expiration = r.expiration;
      key_size = r.key_size;
      flags = r.flags;
    }
stored_front Third h rest r version any =
    (λ i. stored_header (header_bytes (record h { version = version i }) ++ rest))
    ∙ header_front (record h { version = 3 }) rest (along r (omega arith))
  where
    along : IsHeader h → 3 < 2 ^ 32 → IsHeader (record h { version = 3 })
    along r small = record {
      version = small;
      fetch_count = r.fetch_count;
      last_fetched = r.last_fetched;
      last_modified = r.last_modified;
      frecency = r.frecency;
      expiration = r.expiration;
      key_size = r.key_size;
      flags = r.flags;
    }

-- and what is read is spelled by them
module _ (xs : List ℕ) (bytes : AreBytes xs) where
  -- as version 3
  abbrev said : Header
  said = record (stored_header xs) { version = 3 }

  pub stored_small : IsHeader (record (stored_header xs) { version = 3 })
  stored_small =
      let r = header_small xs bytes in
      record {
        version = omega arith;
        fetch_count = r.fetch_count;
        last_fetched = r.last_fetched;
        last_modified = r.last_modified;
        frecency = r.frecency;
        expiration = r.expiration;
        key_size = r.key_size;
        flags = go (be32_at xs 0 == 1) (be32_at xs 28) r.flags;
      }
    where
      go : (b : Bool) (n : ℕ) → n < 2 ^ 32 → cond b 0 n < 2 ^ 32
      go true n small = omega arith
      go false n small = small

  pub stored_can : (f : Format) → number f ≡ be32_at xs 0 → CanSay f (record (stored_header xs) { version = 3 })
  stored_can First e = ap (λ v. if v == 1 then 0 else be32_at xs 28) (sym e)
  stored_can Second e = tt
  stored_can Third e = tt

  with_flags : (v : ℕ) → v ≡ be32_at xs 0 → (if v == 1 then 0 else be32_at xs 28) ≡ be32_at xs 28 → 32 ≤ length xs → header_bytes (record (stored_header xs) { version = v }) ≡ take 32 xs
  with_flags v e flags long =
      (λ i. header_bytes (record (header_in xs) { version = e i; flags = (ap (λ v. if v == 1 then 0 else be32_at xs 28) (sym e) ∙ flags) i }))
      ∙ header_spelled xs bytes long

  pub stored_spelled : (f : Format) → number f ≡ be32_at xs 0 → bytes_of f ≤ length xs → header_as f (record (stored_header xs) { version = 3 }) ≡ take (bytes_of f) xs
  stored_spelled First e long = ap (λ v. short_header_bytes (record (short_header_in xs) { version = v })) e ∙ short_header_spelled xs bytes long
  stored_spelled Second e long = with_flags 2 e refl long
  stored_spelled Third e long = with_flags 3 e refl long
