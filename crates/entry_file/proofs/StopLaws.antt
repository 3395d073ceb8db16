-- A content that ends in the stop tail fits under no name.
use Rattle.std.proofs.Common.{◌≡◌, ℕ, ◌-◌, ◌*◌, ◌/◌, List, [], ◌++◌, length, take, Bool, true, false, cond, refl, sym, ap, ◌∙◌, arith, length-append, append_assoc}
use Rattle.std.specs.Prelude.{◌==◌, Option, Some, is_none}
use Rattle.std.specs.Int.{w32, from_be_bytes}
use Rattle.std.proofs.lemmas.List.{drop_at}
use Rattle.cache_base.specs.Bytes.{be32_at}
use Rattle.chunk_store.specs.Stored.{chunk_write, stop_tail, whole_len}
use Rattle.disk_theory.specs.State.{written}
use Rattle.entry_file.specs.EntryFile.{file_fault, fits, offset_in}
use Rattle.entry_file.specs.declared.entry_read.Unfit.{Unfit}
use Rattle.entry_file.specs.declared.entry_read.Unfit.TheVariants as unfit
use Rattle.entry_file.specs.Unfinished.{IsUnfinished, StopTailIsShort, UnfinishedIsShort}
use Rattle.entry_file.proofs.Faults.{short, too_short, unfinished}

-- bytes that end in the stop tail end in no offset
no_offset : (front : List ℕ) → offset_in (front ++ stop_tail) ≡ 0xFFFFFFFF
no_offset front =
    let place : length (front ++ stop_tail) - 4 ≡ length front = let h = length-append front stop_tail in omega (arith, h) in
    ap (λ n. be32_at (front ++ stop_tail) n) place ∙ ap (from_be_bytes w32) (drop_at front stop_tail (length front) refl)

pub short_tail : StopTailIsShort
short_tail name front = short name (front ++ stop_tail) (unfinished (front ++ stop_tail) (no_offset front))

pub unfinished_is_short : UnfinishedIsShort
unfinished_is_short name body = go (length body / 262144 == 0)
  where
    go : (b : Bool) → file_fault name (cond b [] (take (whole_len body) body ++ stop_tail)) ≡ Some unfit.Short
    go true = short name [] (too_short [] (omega arith))
    go false = short_tail name (take (whole_len body) body)

-- a chunk that is written leaves such a content, whatever the file held
pub unfinished_write : (index : ℕ) (chunk c : List ℕ) → IsUnfinished (written (chunk_write index chunk) c)
unfinished_write index chunk c =
    let front : List ℕ = take (index * 262144) c ++ chunk in
    let same : take (index * 262144) c ++ (chunk ++ stop_tail) ≡ front ++ stop_tail = sym (append_assoc (take (index * 262144) c) chunk stop_tail) in
    record { front = front; tail = same; unfit = λ name. ap (λ (content : List ℕ). fits name content) same ∙ ap (λ (o : Option Unfit). is_none o) (short_tail name front) }
