-- What a value of `Meta` says.
use Rattle.entry_metadata.specs.Metadata.{Meta as Said}
use Rattle.entry_metadata.specs.declared.meta.Meta.{Meta}

-- the parts of a value, without the facts that it keeps
abbrev pub meta_of : Meta → Said
meta_of m = record { header = m.header; key = m.key; elements = m.elements; hashes = m.hashes; offset = m.offset }
