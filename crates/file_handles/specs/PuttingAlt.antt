-- When alternative data are put after the body of an entry.
use Rattle.std.specs.Prelude.{Bool, IfSome, List, None, Option, Result, Some, [], codes, is_none, length, nat_le, option_map, ℕ, ◌&&◌, ◌+◌, ◌∷◌, ◌≡◌}
use Rattle.alt_data.specs.AltData.{IsPut, alt_value, is_kind}
use Rattle.cache_base.specs.Checks.{first_failing}
use Rattle.cache_base.specs.Limits.{chunks}
use Rattle.cache_base.specs.declared.limits.TheConstants.{BLOCK_MAX, BODY_MAX, ELEMENTS_MAX}
use Rattle.cache_theory.specs.Checks.{with_alt_data}
use Rattle.cache_theory.specs.declared.refusal.Refusal.{Refusal}
use Rattle.cache_theory.specs.declared.refusal.Refusal.TheVariants as refused
use Rattle.chunk_cache.specs.Cached.{CachedChunk}
use Rattle.chunk_store.specs.Prefixes.{HasChunksWith}
use Rattle.disk_theory.specs.Prefixes.{BeginsInImages, IsUnreachedBelow}
use Rattle.disk_theory.specs.State.{State, names_now, standing}
use Rattle.entry_file.specs.Version.{IsVersion, Version, file_of}
use Rattle.entry_metadata.specs.Metadata.{block_length}
use Rattle.entry_parts.specs.Elements.{Element, element, elements_bytes}
use Rattle.entry_parts.specs.Setting.{with_element}
use Rattle.file_handles.specs.Cache.{Cache, cache_at}
use Rattle.file_handles.specs.Changes.{ChangesAt, with_version}
use Rattle.file_handles.specs.Closing.{without_object}
use Rattle.handle_table.specs.Held.{body_len_in, object_place}
use Rattle.handle_table.specs.Kept.{Kept, object_at, object_in, without_chunks}
use Rattle.file_handles.specs.declared.fault.HandleFault.{HandleFault}
use Rattle.handle_table.specs.declared.object.Entry.{Entry}
use Rattle.handle_table.specs.declared.object.Entry.TheVariants as entry
use Rattle.handle_table.specs.declared.object.Object.{Object}

-- the file of the object is that of this version
abbrev pub HasVersion : State → Object → Version → Type 0
HasVersion s x v = standing s (object_place x) ≡ Some (file_of v)

-- the file is then that of the version with the data, whose main body is the body of before and whose alternative data
-- are these, of this kind
pub record IsPutBehind (kind alt : List ℕ) (t : State) (x : Object) (v : Version) : Type 0 where
  pub stands : HasVersion t x (with_alt_data kind alt v)
  pub told : IsPut v.elements v.body kind alt

-- so it is of the entry of the slot, whose file is that of a version which may have one: other parts, as a key with
-- zero bytes, may spell the same file
abbrev pub PutsAlt : Kept → ℕ → List ℕ → List ℕ → State → State → Type 0
PutsAlt k slot kind alt s t =
    IfSome (object_in k slot)
    (λ x. (v : Version) → IsVersion v → HasVersion s x v → IsPutBehind kind alt t x v)

-- in every image, wherever the file of the slot's entry stands, it begins with the body of before, where no write
-- reached into that body since the last sync
abbrev pub KeepsMainBody : Kept → ℕ → State → State → Type 0
KeepsMainBody k slot s t =
    IfSome (object_in k slot) (λ x. (v : Version) (file : ℕ) → HasVersion s x v
    → names_now s (object_place x) ≡ Some file → IsUnreachedBelow (length v.body) (s.files file)
    → BeginsInImages file v.body t)

-- What is checked of the slot's entry, and what is computed from it before the write.

-- the elements of an entry with a body of this length, once they tell of alternative data of this kind
abbrev pub with_alt_at : ℕ → List ℕ → List Element → List Element
with_alt_at offset kind es = with_element (codes "alt-data") (alt_value offset kind) es

-- these elements are small, and so is the block of an entry with this key and a body of this length
abbrev pub are_small_with : List Element → List ℕ → ℕ → Bool
are_small_with es key len =
    nat_le (length (elements_bytes es)) ELEMENTS_MAX
    && nat_le (block_length (chunks len) (length key) (length (elements_bytes es))) BLOCK_MAX

-- the first reason why data of this kind and length may not be put after the body of an entry that a slot writes
abbrev pub put_fault : Entry → List ℕ → ℕ → Option Refusal
put_fault (entry.Draft d) kind len = Some refused.Unfinished
put_fault (entry.Finished meta) kind len = first_failing (
    (is_none (element (codes "alt-data") meta.elements), refused.HasAlt)
    ∷ (is_kind kind, refused.BadElement)
    ∷ (nat_le (meta.offset + len) BODY_MAX, refused.TooLarge)
    ∷ (
      are_small_with (with_alt_at meta.offset kind meta.elements) meta.key (meta.offset + len),
      refused.TooLarge,
    )
    ∷ [])

-- data of this kind and length may be put
abbrev pub MayPut : List ℕ → ℕ → Object → Type 0
MayPut kind len x = put_fault x.entry kind len ≡ None

-- these are as many hashes as the longer body has chunks
abbrev pub AreAsMany : List ℕ → ℕ → Object → Type 0
AreAsMany hashes len x = length hashes ≡ chunks (body_len_in x.entry + len)

-- and its chunks have them
abbrev pub AreHashesWith : State → List ℕ → List ℕ → Object → Type 0
AreHashesWith s alt hashes x =
    HasChunksWith (standing s (object_place x)) (body_len_in x.entry) alt hashes

-- the object at a place gets the data, and nothing else of the handles changes but that none of its chunks is held
abbrev pub PutsThere : {T : Type 0} → ℕ → List ℕ → List ℕ → Result T HandleFault → Cache → Cache
    → Type 0
PutsThere p kind alt answer before after = IfSome (object_at before.handles p) (λ x.
    ChangesAt p (with_version (with_alt_data kind alt)) answer
    (cache_at (without_chunks before.handles x.number) before.disk) after x)

-- the chunks that are held but those of the slot's object
abbrev pub chunks_but_own : Kept → ℕ → List CachedChunk
chunks_but_own k slot =
    without_object (option_map (λ x. x.number) (object_in k slot)) k.chunks
