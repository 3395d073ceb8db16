-- What a file that fits is joined of, as it was read.
use Rattle.std.proofs.Common.{◌-◌, ℕ, List, length, drop, Option, None, Some, sym, subst}
use Rattle.cache_base.specs.Bytes.{AreBytes}
use Rattle.entry_metadata.specs.Metadata.{Meta, Spells}
use Rattle.entry_file.specs.Damages.{HasMeta}
use Rattle.entry_file.specs.EntryFile.{Fits, block_in, offset_in}
use Rattle.entry_file.specs.EntryRead.{IfFits, Joins, ReadsAs}
use Rattle.entry_file.specs.declared.entry_read.EntryRead.{EntryRead}
use Rattle.entry_file.specs.declared.entry_read.EntryRead.TheVariants as reads
use Rattle.entry_file.proofs.Faults.{fit_has_meta}
use Rattle.entry_file.proofs.FitLaws.{joined}

-- a file that fits has its metadata
pub has_meta : (name : List ℕ) (o : Option (List ℕ)) (read : EntryRead) → ReadsAs name o read → IfFits read (HasMeta o)
has_meta name o reads.Absent h = tt
has_meta name o (reads.Unfit check) h = tt
has_meta name None (reads.Fits meta size) h = absurd h
has_meta name (Some c) (reads.Fits meta size) h = fit_has_meta name c _ h.0 h.1

-- and where it ends in bytes, and its block spells them, it is a join
pub joins : (name c : List ℕ) (read : EntryRead) → ReadsAs name (Some c) read → AreBytes (drop (length c - 4) c) → IfFits read (Spells (block_in c) (offset_in c)) → IfFits read (Joins name (Some c))
joins name c reads.Absent h tail spelled = tt
joins name c (reads.Unfit check) h tail spelled = tt
joins name c (reads.Fits meta size) h tail spelled =
    subst (λ (m : Meta). Fits name c m) (sym h.1) (joined name c h.0 tail (subst (Spells (block_in c) (offset_in c)) h.1 spelled))
