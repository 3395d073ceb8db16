-- Entries that are written are drafts up to their end, and then versions.
use Rattle.std.proofs.Common.{◌≡◌, ℕ, zero, suc, ◌*◌, ◌+◌, ◌/◌, ◌^◌, ◌<◌, ◌≤◌, List, ◌++◌, length, map, Bool, true, false, ◌&&◌, refl, arith, length-append, leb-true}
use Rattle.std.specs.List.{AllByRecursion, list_all, range_with_len}
use Rattle.std.specs.Prelude.{nat_le, nat_lt}
use Rattle.std.proofs.lemmas.Bool.{and_parts}
use Rattle.std.proofs.lemmas.List.FromFn.{length-map-range_with_len}
use Rattle.cache_base.specs.Bytes.{AreBytes}
use Rattle.cache_base.specs.Limits.{chunks}
use Rattle.cache_base.specs.declared.limits.TheConstants.{BLOCK_MAX, BODY_MAX, ELEMENTS_MAX}
use Rattle.cache_theory.specs.Checks.{good_element, small_block, small_parts, with_parts, with_value}
use Rattle.cache_theory.specs.Machine.{Object}
use Rattle.cache_theory.specs.Proper.{IsDraft, IsObject}
use Rattle.cache_theory.specs.Step.{finished_as, fresh, used, with_pin}
use Rattle.cache_theory.proofs.Elements.{bytes_with, bytes_without, elements_with, elements_without, without_no_longer}
use Rattle.cache_theory.proofs.CrashImages.FileBytes.{bytes-append}
use Rattle.chunk_store.specs.Chunks.{chunk, chunk_hashes}
use Rattle.entry_file.specs.Version.{Version, version_meta, IsVersion}
use Rattle.entry_key.specs.Walk.{read_key, reads}
use Rattle.entry_key.specs.Writing.{is_plain_byte, may_write}
use Rattle.entry_metadata.specs.Metadata.{block_length}
use Rattle.entry_metadata.proofs.PrintedBlock.{is_meta, length-block}
use Rattle.entry_parts.specs.Elements.{AreElements, Element, elements_bytes}
use Rattle.entry_parts.specs.Header.{IsHeader, used_header}
use Rattle.entry_parts.specs.Setting.{with_element, without_element}
use Rattle.entry_parts.specs.declared.header.Header.{Header}
use Rattle.frecency.specs.Frecency.{next}
use Rattle.index_record.specs.Filling.{bit_if}
use Rattle.jenkins_hash.specs.Hash.{hash16_of}

-- A key that may be written.

pub record IsKey (key : List ℕ) : Type 0 where
  pub short : length key ≤ 16384
  pub grammar : reads (read_key key) ≡ true

pub is_key : (key : List ℕ) → may_write key ≡ true → IsKey key
unfolding may_write
is_key key h =
    let outer = and_parts (nat_lt 0 (length key) && nat_le (length key) 16384 && list_all is_plain_byte key) (reads (read_key key)) h in
    let inner = and_parts (nat_lt 0 (length key) && nat_le (length key) 16384) (list_all is_plain_byte key) outer.0 in
    let lengths = and_parts (nat_lt 0 (length key)) (nat_le (length key) 16384) inner.0 in
    record { short = leb-true (length key) 16384 lengths.1; grammar = outer.1 }

-- The hashes of a body's chunks.

pub hash_words : (body : List ℕ) (a n : ℕ) → AllByRecursion (λ h. h < 2 ^ 16) (map (λ i. hash16_of (chunk body i)) (range_with_len a n))
hash_words body a zero = tt
hash_words body a (suc n) = (omega arith, hash_words body (a + 1) n)

pub length_hashes_of : (body : List ℕ) → length (chunk_hashes body) ≡ chunks (length body)
length_hashes_of body = length-map-range_with_len (λ i. hash16_of (chunk body i)) 0 (chunks (length body))

-- A draft that is finished.

pub draft_finished : (v : Version) → IsDraft v → IsVersion v
draft_finished v d =
    let key = is_key v.key d.key in
    let count = length_hashes_of v.body in
    let short = key.short in
    let small = d.small in
    let bounded = d.short in
    record {
      meta = is_meta (version_meta v) d.header d.version d.key_size key.grammar
          (record { hashes = hash_words v.body 0 (chunks (length v.body)); key = d.key_bytes; elements = d.element_bytes }) d.elements count
          (omega (arith, bounded)) (omega (arith, short, small, bounded, count));
      body = d.body;
    }

-- A new entry.

pub fresh_draft : (now : ℕ) (key : List ℕ) → now < 2 ^ 32 → may_write key ≡ true → AreBytes key → IsDraft (fresh now key).version
fresh_draft now key moment may bytes =
    let short = (is_key key may).short in
    record {
      header = record { version = omega arith; fetch_count = omega arith; last_fetched = moment; last_modified = moment; frecency = moment; expiration = omega arith; key_size = omega (arith, short); flags = omega arith };
      version = refl;
      key_size = refl;
      key = may;
      key_bytes = bytes;
      elements = tt;
      element_bytes = tt;
      small = omega arith;
      body = tt;
      short = omega arith;
    }

-- A draft with bytes appended.

pub draft_appended : (v : Version) (bytes : List ℕ) → IsDraft v → AreBytes bytes → nat_le (length v.body + length bytes) BODY_MAX ≡ true → IsDraft (record v { body = v.body ++ bytes })
draft_appended v bytes d more room =
    let long = length-append v.body bytes in
    let bounded = leb-true (length v.body + length bytes) BODY_MAX room in
    record {
      header = d.header;
      version = d.version;
      key_size = d.key_size;
      key = d.key;
      key_bytes = d.key_bytes;
      elements = d.elements;
      element_bytes = d.element_bytes;
      small = d.small;
      body = bytes-append v.body bytes d.body more;
      short = omega (arith, long, bounded);
    }

-- With other elements.

draft_elements : (v : Version) (es : List Element) → AreElements es → AreBytes (elements_bytes es) → length (elements_bytes es) ≤ ELEMENTS_MAX → IsDraft v → IsDraft (record v { elements = es })
draft_elements v es are bytes small d = record {
  header = d.header;
  version = d.version;
  key_size = d.key_size;
  key = d.key;
  key_bytes = d.key_bytes;
  elements = are;
  element_bytes = bytes;
  small = small;
  body = d.body;
  short = d.short;
}

version_elements : (v : Version) (es : List Element) → AreElements es → AreBytes (elements_bytes es) → block_length (chunks (length v.body)) (length v.key) (length (elements_bytes es)) ≤ BLOCK_MAX
    → IsVersion v → IsVersion (record v { elements = es })
version_elements v es are bytes room h =
    let w : Version = record v { elements = es } in
    let long = length-block (version_meta w) in
    let count = length_hashes_of v.body in
    record {
      meta = record {
        header = h.meta.header;
        version = h.meta.version;
        key_size = h.meta.key_size;
        key = h.meta.key;
        key_bytes = h.meta.key_bytes;
        elements = are;
        element_bytes = bytes;
        hashes = h.meta.hashes;
        hash_words = h.meta.hash_words;
        offset = h.meta.offset;
        small = omega (arith, long, count, room);
      };
      body = h.body;
    }

version_without : (name : List ℕ) (v : Version) → IsVersion v → IsVersion (record v { elements = without_element name v.elements })
version_without name v h =
    let long = length-block (version_meta v) in
    let count = length_hashes_of v.body in
    let fewer = without_no_longer name v.elements in
    let small = h.meta.small in
    version_elements v (without_element name v.elements) (elements_without name v.elements h.meta.elements) (bytes_without name v.elements h.meta.element_bytes) (omega (arith, long, count, fewer, small)) h

draft_without : (name : List ℕ) (v : Version) → IsDraft v → IsDraft (record v { elements = without_element name v.elements })
draft_without name v d =
    let fewer = without_no_longer name v.elements in
    let small = d.small in
    draft_elements v (without_element name v.elements) (elements_without name v.elements d.elements) (bytes_without name v.elements d.element_bytes) (omega (arith, fewer, small)) d

-- With the header of one more use.

next_small : (f now : ℕ) → next f now < 2 ^ 32
unfolding next
next_small f now = omega arith

used_is_header : (h : Header) (now frecency : ℕ) → now < 2 ^ 32 → frecency < 2 ^ 32 → IsHeader h
    → IsHeader (used_header h now frecency)
used_is_header h now frecency moment small is = record {
  version = is.version;
  fetch_count = omega arith;
  last_fetched = moment;
  last_modified = is.last_modified;
  frecency = small;
  expiration = is.expiration;
  key_size = is.key_size;
  flags = is.flags;
}

draft_used : (now : ℕ) (v : Version) → now < 2 ^ 32 → IsDraft v → IsDraft (used now v)
draft_used now v moment d = record {
  header =
      used_is_header v.header now (next v.header.frecency now) moment
      (next_small v.header.frecency now) d.header;
  version = d.version;
  key_size = d.key_size;
  key = d.key;
  key_bytes = d.key_bytes;
  elements = d.elements;
  element_bytes = d.element_bytes;
  small = d.small;
  body = d.body;
  short = d.short;
}

version_used : (now : ℕ) (v : Version) → now < 2 ^ 32 → IsVersion v → IsVersion (used now v)
version_used now v moment h =
    let long = length-block (version_meta (used now v)) in
    let was = length-block (version_meta v) in
    let small = h.meta.small in
    record {
      meta = record {
        header =
            used_is_header v.header now (next v.header.frecency now) moment
            (next_small v.header.frecency now) h.meta.header;
        version = h.meta.version;
        key_size = h.meta.key_size;
        key = h.meta.key;
        key_bytes = h.meta.key_bytes;
        elements = h.meta.elements;
        element_bytes = h.meta.element_bytes;
        hashes = h.meta.hashes;
        hash_words = h.meta.hash_words;
        offset = h.meta.offset;
        small = omega (arith, long, was, small);
      };
      body = h.body;
    }

-- the flags of a header with the pinned bit set or not
pinned_small : (flags : ℕ) (pinned : Bool) → flags < 2 ^ 32 → flags / 2 * 2 + bit_if pinned 0 < 2 ^ 32
pinned_small flags true small = omega (arith, small)
pinned_small flags false small = omega (arith, small)

pinned_is_header : (pinned : Bool) (v : Version) → IsHeader v.header → IsHeader (with_pin pinned v).header
pinned_is_header pinned v h = record {
  version = h.version;
  fetch_count = h.fetch_count;
  last_fetched = h.last_fetched;
  last_modified = h.last_modified;
  frecency = h.frecency;
  expiration = h.expiration;
  key_size = h.key_size;
  flags = pinned_small v.header.flags pinned h.flags;
}

draft_pinned : (pinned : Bool) (v : Version) → IsDraft v → IsDraft (with_pin pinned v)
draft_pinned pinned v d = record {
  header = pinned_is_header pinned v d.header;
  version = d.version;
  key_size = d.key_size;
  key = d.key;
  key_bytes = d.key_bytes;
  elements = d.elements;
  element_bytes = d.element_bytes;
  small = d.small;
  body = d.body;
  short = d.short;
}

version_pinned : (pinned : Bool) (v : Version) → IsVersion v → IsVersion (with_pin pinned v)
version_pinned pinned v h =
    let long = length-block (version_meta (with_pin pinned v)) in
    let was = length-block (version_meta v) in
    let small = h.meta.small in
    record {
      meta = record {
        header = pinned_is_header pinned v h.meta.header;
        version = h.meta.version;
        key_size = h.meta.key_size;
        key = h.meta.key;
        key_bytes = h.meta.key_bytes;
        elements = h.meta.elements;
        element_bytes = h.meta.element_bytes;
        hashes = h.meta.hashes;
        hash_words = h.meta.hash_words;
        offset = h.meta.offset;
        small = omega (arith, long, was, small);
      };
      body = h.body;
    }

-- Objects.

pub object_finished : (o : Object) → o.finished ≡ false → IsObject o → IsObject (record o { finished = true })
object_finished o un h = record { draft = λ no. absurd (cc); version = λ done. draft_finished o.version (h.draft un) }

-- with a header and elements that are given
version_finished_as : (header : Header) (elements : List Element) (v : Version) → IsHeader header → AreElements elements → AreBytes (elements_bytes elements)
    → (small_block (with_parts header elements v)).0 ≡ true → IsDraft v → IsVersion (with_parts header elements v)
version_finished_as header elements v is are bytes room d =
    let key = is_key v.key d.key in
    let count = length_hashes_of v.body in
    let short = key.short in
    let bounded = d.short in
    let small = leb-true (block_length (chunks (length v.body)) (length v.key) (length (elements_bytes elements))) BLOCK_MAX room in
    record {
      meta = is_meta (version_meta (with_parts header elements v))
          (record {
            version = omega arith;
            fetch_count = is.fetch_count;
            last_fetched = is.last_fetched;
            last_modified = is.last_modified;
            frecency = is.frecency;
            expiration = is.expiration;
            key_size = omega (arith, short);
            flags = is.flags;
          })
          refl refl key.grammar (record { hashes = hash_words v.body 0 (chunks (length v.body)); key = d.key_bytes; elements = bytes }) are count
          (omega (arith, bounded)) (omega (arith, small, count));
      body = d.body;
    }

pub object_finished_as : (o : Object) (header : Header) (elements : List Element) → o.finished ≡ false
    → IsHeader header × (AreElements elements × AreBytes (elements_bytes elements)) → (small_block (with_parts header elements o.version)).0 ≡ true
    → IsObject o → IsObject (finished_as header elements o)
object_finished_as o header elements un is room h = record {
  draft = λ no. absurd (cc);
  version = λ done. version_finished_as header elements o.version is.0 is.1.0 is.1.1 room (h.draft un);
}

pub object_appended : (o : Object) (bytes : List ℕ) → o.finished ≡ false → AreBytes bytes → nat_le (length o.version.body + length bytes) BODY_MAX ≡ true → IsObject o
    → IsObject (record o { version = record o.version { body = o.version.body ++ bytes } })
object_appended o bytes un more room h = record { draft = λ f. draft_appended o.version bytes (h.draft f) more room; version = λ f. absurd (cc) }

pub object_with : (o : Object) (name value : List ℕ) → AreBytes name → AreBytes value → (good_element name value).0 ≡ true → (small_parts (with_value name value o.version)).0 ≡ true → IsObject o
    → IsObject (record o { version = with_value name value o.version })
object_with o name value n x good small h =
    let es : List Element = with_element name value o.version.elements in
    let parts = and_parts (nat_le (length (elements_bytes es)) ELEMENTS_MAX) (nat_le (block_length (chunks (length o.version.body)) (length o.version.key) (length (elements_bytes es))) BLOCK_MAX) small in
    record {
      draft = λ f. let d = h.draft f in
          draft_elements o.version es (elements_with name value o.version.elements good d.elements) (bytes_with name value o.version.elements n x d.element_bytes)
          (leb-true (length (elements_bytes es)) ELEMENTS_MAX parts.0) d;
      version = λ f. let v = h.version f in
          version_elements o.version es (elements_with name value o.version.elements good v.meta.elements) (bytes_with name value o.version.elements n x v.meta.element_bytes)
          (leb-true (block_length (chunks (length o.version.body)) (length o.version.key) (length (elements_bytes es))) BLOCK_MAX parts.1) v;
    }

pub object_without : (o : Object) (name : List ℕ) → IsObject o → IsObject (record o { version = record o.version { elements = without_element name o.version.elements } })
object_without o name h = record { draft = λ f. draft_without name o.version (h.draft f); version = λ f. version_without name o.version (h.version f) }

pub object_used : (now : ℕ) (o : Object) → now < 2 ^ 32 → IsObject o
    → IsObject (record o { version = used now o.version })
object_used now o moment h = record {
  draft = λ f. draft_used now o.version moment (h.draft f);
  version = λ f. version_used now o.version moment (h.version f);
}

pub object_pinned : (pinned : Bool) (o : Object) → IsObject o → IsObject (record o { version = with_pin pinned o.version })
object_pinned pinned o h = record {
  draft = λ f. draft_pinned pinned o.version (h.draft f);
  version = λ f. version_pinned pinned o.version (h.version f);
}
