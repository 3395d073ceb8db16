-- A version of an entry, and its file.
use Rattle.std.specs.Prelude.{ℕ, ◌≡◌, ◌≤◌, List, ◌++◌, length, take}
use Rattle.cache_base.specs.Bytes.{AreBytes, be32}
use Rattle.chunk_store.specs.Chunks.{chunk_hashes}
use Rattle.entry_metadata.specs.Metadata.{CanSay, Format, Third, IsMeta, Meta, block_as}
use Rattle.entry_parts.specs.Elements.{Element}
use Rattle.entry_parts.specs.declared.header.Header.{Header}

-- an entry's body and metadata, as they were at some time
pub record Version : Type 0 where
  pub header : Header
  pub key : List ℕ
  pub elements : List Element
  pub body : List ℕ

-- its metadata: the header, the key and the elements, the hash of each chunk of the body, and the body's length
abbrev pub version_meta : Version → Meta
version_meta v = record {
  header = v.header;
  key = v.key;
  elements = v.elements;
  hashes = chunk_hashes v.body;
  offset = length v.body;
}

-- what has a file
pub record IsVersion (v : Version) : Type 0 where
  pub meta : IsMeta (version_meta v)
  pub body : AreBytes v.body

-- a finished file: the body, the metadata block in this version of the format, and the block's offset
abbrev pub file_as : Format → Version → List ℕ
file_as format v = v.body ++ (block_as format (version_meta v) ++ be32 (length v.body))

-- the same as it is written
unfoldable pub file_of : Version → List ℕ
file_of v = file_as Third v

-- the content is a file of the version, in some version of the format
pub record IsFileOf (v : Version) (c : List ℕ) : Type 0 where
  pub format : Format
  pub can : CanSay format v.header
  pub bytes : c ≡ file_as format v

-- a file of a version begins with its body
abbrev pub FileBegins : Type 0
FileBegins = (v : Version) (c : List ℕ) → IsFileOf v c → (length v.body ≤ length c) × (take (length v.body) c ≡ v.body)
