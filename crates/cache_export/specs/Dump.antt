-- A dump: the entries of a cache, one after another in one stream of bytes.
use Rattle.std.specs.Prelude.{◌≡◌, ℕ, ◌≤◌, true, List, [], ◌∷◌, ◌++◌, length, flat_map, codes, Option, None, Some, IfSome}
use Rattle.std.specs.Cmp.Lexicographic.{slice_cmp}
use Rattle.std.specs.Ordering.{nat_cmp}
use Rattle.std.specs.declared.cmp.Ordering.TheVariants.{Less}
use Rattle.cache_base.specs.Bytes.{be32}
use Rattle.cache_base.specs.declared.limits.TheConstants.{BODY_MAX}
use Rattle.entry_file.specs.Version.{IsVersion, Version, version_meta}
use Rattle.entry_key.specs.Writing.{may_write}
use Rattle.entry_metadata.specs.Metadata.{block_bytes}
use Rattle.entry_name.specs.EntryName.{file_name}
use Rattle.cache_export.specs.declared.limits.TheConstants.{DUMP_MAX}

-- what a dump begins with
abbrev pub head : List ℕ
head = codes "C2DUMP01"

-- how many bytes that has
abbrev pub head_len : ℕ
head_len = 8

-- what stands in an item before the body: a byte 1, the key after its length, and the body's length
unfoldable pub front_bytes : List ℕ → ℕ → List ℕ
front_bytes key len = 1 ∷ (be32 (length key) ++ (key ++ be32 len))

-- what stands after it: the metadata block after its length
unfoldable pub back_bytes : List ℕ → List ℕ
back_bytes block = be32 (length block) ++ block

-- the item of a version, whose block is as it is written, in version 3 of the format
abbrev pub item_bytes : Version → List ℕ
item_bytes v = front_bytes v.key (length v.body) ++ (v.body ++ back_bytes (block_bytes (version_meta v)))

-- a version may be dumped where its key may be written, and its body is not too long
pub record MayDump (v : Version) : Type 0 where
  pub version : IsVersion v
  pub key : may_write v.key ≡ true
  pub body : length v.body ≤ BODY_MAX

-- the key's name comes after that of the key before it, where there is one
abbrev pub IsAbove : Option (List ℕ) → List ℕ → Type 0
IsAbove before key = IfSome before (λ last. slice_cmp nat_cmp (file_name last) (file_name key) ≡ Less)

-- versions that may be dumped, in the order of their names, each name once; they follow the item of this key
abbrev pub AreItems : Option (List ℕ) → List Version → Type 0
AreItems before [] = Unit {0}
AreItems before (v ∷ vs) = MayDump v × (IsAbove before v.key × AreItems (Some v.key) vs)

-- the bytes of a dump of these versions
abbrev pub dump_bytes : List Version → List ℕ
dump_bytes vs = head ++ (flat_map item_bytes vs ++ 0 ∷ [])

-- the bytes are a dump of these versions
pub record IsDump (bytes : List ℕ) (vs : List Version) : Type 0 where
  pub items : AreItems None vs
  pub spelled : bytes ≡ dump_bytes vs
  pub short : length bytes ≤ DUMP_MAX

-- a dump has one list of versions
abbrev pub DumpsAreOne : Type 0
DumpsAreOne = (bytes : List ℕ) (vs ws : List Version) → IsDump bytes vs → IsDump bytes ws → vs ≡ ws
