-- A finished entry with alternative data after its body is an entry as before.
use Rattle.std.proofs.Common.{◌≡◌, ◌≢◌, ℕ, ◌+◌, ◌<◌, ◌^◌, ◌≤◌, List, [], ◌∷◌, ◌++◌, codes, decimal, length, Bool, true, false, ◌||◌, not, refl, arith, length-append, leb-true}
use Rattle.std.specs.Prelude.{◌==◌, nat_le, nat_lt}
use Rattle.std.specs.Str.Parse.{AllDigits}
use Rattle.std.proofs.lemmas.Bool.{and_parts, eqb-true}
use Rattle.std.proofs.lemmas.Fmt.{digits_decimal}
use Rattle.std.proofs.lemmas.Str.Parse.{digit_from_value}
use Rattle.alt_data.specs.AltData.{alt_value, is_kind, with_alt}
use Rattle.cache_base.specs.Bytes.{AreBytes}
use Rattle.cache_base.specs.Limits.{chunks}
use Rattle.cache_base.specs.declared.limits.TheConstants.{BLOCK_MAX, BODY_MAX, ELEMENTS_MAX}
use Rattle.cache_base.proofs.NumberLaws.{own}
use Rattle.cache_theory.specs.Checks.{small_parts, with_alt_data}
use Rattle.cache_theory.specs.Machine.{Object}
use Rattle.cache_theory.specs.Proper.{IsObject}
use Rattle.cache_theory.proofs.Elements.{bytes_with, elements_with}
use Rattle.cache_theory.proofs.CrashImages.FileBytes.{bytes-append}
use Rattle.cache_theory.proofs.Versions.{hash_words, length_hashes_of}
use Rattle.entry_file.specs.Version.{IsVersion, Version, version_meta}
use Rattle.entry_metadata.specs.Metadata.{block_length}
use Rattle.entry_metadata.proofs.PrintedBlock.{length-block}
use Rattle.entry_parts.specs.Elements.{AreElements, Element, elements_bytes}
use Rattle.entry_parts.specs.Setting.{has_zero}

-- Digits are bytes, and none of them is zero.

digit_bytes : (ds : List ℕ) → AllDigits 10 ds → AreBytes ds
digit_bytes [] h = tt
digit_bytes (d ∷ ds) h = let range = digit_from_value d h.0 in (omega (arith, range), digit_bytes ds h.1)

behind_byte : (x : ℕ) (xs : List ℕ) (b : Bool) → (x == 0) ≡ b → x ≢ 0 → not (has_zero xs) ≡ true → not (b || has_zero xs) ≡ true
behind_byte x xs true is apart rest = absurd (apart (eqb-true x 0 is))
behind_byte x xs false is apart rest = rest

behind_digits : (ds xs : List ℕ) → AllDigits 10 ds → not (has_zero xs) ≡ true → not (has_zero (ds ++ xs)) ≡ true
behind_digits [] xs h rest = rest
behind_digits (d ∷ ds) xs h rest =
    let range = digit_from_value d h.0 in
    behind_byte d (ds ++ xs) (d == 0) refl (λ is. omega (arith, range, is)) (behind_digits ds xs h.1 rest)

-- So is the value of the element.

value_bytes : (n : ℕ) (kind : List ℕ) → n < 2 ^ 64 → AreBytes kind → AreBytes (alt_value n kind)
value_bytes n kind small bytes =
    (omega arith, (omega arith, bytes-append (decimal n) (44 ∷ kind) (digit_bytes (decimal n) (digits_decimal own n small)) (omega arith, bytes)))

name_bytes : AreBytes (codes "alt-data")
name_bytes = (omega arith, (omega arith, (omega arith, (omega arith, (omega arith, (omega arith, (omega arith, (omega arith, tt))))))))

-- its value has no zero byte
pub value_fine : (n : ℕ) (kind : List ℕ) → n < 2 ^ 64 → is_kind kind ≡ true → not (has_zero (alt_value n kind)) ≡ true
value_fine n kind small fine =
    behind_digits (decimal n) (44 ∷ kind) (digits_decimal own n small) (and_parts (nat_lt 0 (length kind)) (not (has_zero kind)) fine).1

-- A version whose body grows, and whose elements are others.

version_grown : (v : Version) (more : List ℕ) (es : List Element) → AreBytes more → length v.body + length more ≤ BODY_MAX
    → AreElements es → AreBytes (elements_bytes es)
    → block_length (chunks (length (v.body ++ more))) (length v.key) (length (elements_bytes es)) ≤ BLOCK_MAX
    → IsVersion v → IsVersion (record v { body = v.body ++ more; elements = es })
version_grown v more es bytes short are element_bytes room h =
    let body : List ℕ = v.body ++ more in
    let w : Version = record v { body = body; elements = es } in
    let long = length-block (version_meta w) in
    let count = length_hashes_of body in
    let grown = length-append v.body more in
    record {
      meta = record {
        header = h.meta.header;
        version = h.meta.version;
        key_size = h.meta.key_size;
        key = h.meta.key;
        key_bytes = h.meta.key_bytes;
        elements = are;
        element_bytes = element_bytes;
        hashes = count;
        hash_words = hash_words body 0 (chunks (length body));
        offset = omega (arith, grown, short);
        small = omega (arith, long, count, room);
      };
      body = bytes-append v.body more h.body bytes;
    }

pub object_with_alt : (o : Object) (kind bytes : List ℕ) → o.finished ≡ true → AreBytes kind → AreBytes bytes → is_kind kind ≡ true
    → nat_le (length o.version.body + length bytes) BODY_MAX ≡ true → (small_parts (with_alt_data kind bytes o.version)).0 ≡ true
    → IsObject o → IsObject (record o { version = with_alt_data kind bytes o.version })
object_with_alt o kind bytes done k b fine room small h =
    let v : Version = o.version in
    let es : List Element = with_alt v.body kind v.elements in
    let is = h.version done in
    let short = leb-true (length v.body + length bytes) BODY_MAX room in
    let bounded : length v.body < 2 ^ 64 = omega (arith, short) in
    let parts = and_parts (nat_le (length (elements_bytes es)) ELEMENTS_MAX) (nat_le (block_length (chunks (length (v.body ++ bytes))) (length v.key) (length (elements_bytes es))) BLOCK_MAX) small in
    record {
      draft = λ un. absurd (cc);
      version = λ f. version_grown v bytes es b short
          (elements_with (codes "alt-data") (alt_value (length v.body) kind) v.elements (value_fine (length v.body) kind bounded fine) is.meta.elements)
          (bytes_with (codes "alt-data") (alt_value (length v.body) kind) v.elements name_bytes (value_bytes (length v.body) kind bounded k) is.meta.element_bytes)
          (leb-true (block_length (chunks (length (v.body ++ bytes))) (length v.key) (length (elements_bytes es))) BLOCK_MAX parts.1) is;
    }
