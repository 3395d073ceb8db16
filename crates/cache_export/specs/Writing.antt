-- What a call has written.
use Rattle.std.specs.Prelude.{ℕ, ◌<◌, List, length, take, Result, Ok, Err}
use Rattle.std.specs.declared.option.Option.{Option}
use Rattle.std.specs.Io.KnownBytes.{Appends}
use Rattle.entry_metadata.specs.Meta.{meta_of}
use Rattle.entry_metadata.specs.Metadata.{block_bytes}
use Rattle.entry_metadata.specs.declared.meta.Meta.{Meta}
use Rattle.cache_export.specs.Dump.{back_bytes}

-- a proper prefix of the bytes went out
abbrev pub Cut : Option (List ℕ) → Option (List ℕ) → List ℕ → Type 0
Cut was now bytes = (n : ℕ) × (n < length bytes) × Appends was now (take n bytes)

-- all the bytes went out, or with a fault a proper prefix of them
abbrev pub GoesOut : {T E : Type 0} → Result T E → Option (List ℕ) → Option (List ℕ) → List ℕ → Type 0
GoesOut (Ok done) was now bytes = Appends was now bytes
GoesOut (Err fault) was now bytes = Cut was now bytes

-- what stands after a body whose block says this
abbrev pub back_of : Meta → List ℕ
back_of meta = back_bytes (block_bytes (meta_of meta))
