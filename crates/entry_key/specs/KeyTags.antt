-- What a value of `KeyTags` says of a key.
use Rattle.std.specs.Prelude.{ℕ, ◌≡◌, List}
use Rattle.entry_key.specs.declared.tags.KeyTags.{KeyTags}
use Rattle.entry_key.specs.Key.{KeyReads, doubled}
use Rattle.entry_key.specs.Tags.{has_tag, tag_value, tags_of}

-- the key reads as its tags and this address, and these are what its tags say, with values as they are spelled
pub record KeySays (key : List ℕ) (t : KeyTags) : Type 0 where
  pub reads : KeyReads key (tags_of key) t.address.now
  pub anonymous : t.anonymous ≡ has_tag 97 (tags_of key)
  pub origin : t.origin.now ≡ doubled (tag_value 79 (tags_of key))
  pub extra : t.extra.now ≡ doubled (tag_value 126 (tags_of key))
