-- What the bytes at the end of a file tell of it.
use Rattle.std.proofs.Common.{◌≡◌, ℕ, ◌+◌, ◌-◌, ◌≤◌, List, None, Option, Some, length, length-drop, drop, ap, subst, ◌∙◌, arith}
use Rattle.std.specs.Prelude.{IfSome}
use Rattle.std.specs.Int.{w32, from_be_bytes}
use Rattle.std.proofs.lemmas.List.{drop-drop}
use Rattle.cache_base.specs.Bytes.{AreBytes}
use Rattle.entry_file.specs.EntryFile.{offset_in}
use Rattle.entry_file.specs.Tail.{IsTail}

-- its last four bytes are those of the content
same_end : (tail content : List ℕ) → IsTail tail content → 4 ≤ length tail → drop (length tail - 4) tail ≡ drop (length content - 4) content
same_end tail content is long =
    let left = length-drop (length content - length tail) content in
    let whole = ap length is in
    let there : length content - length tail + (length tail - 4) ≡ length content - 4 = omega (arith, long, left, whole) in
    ap (drop (length tail - 4)) is ∙ drop-drop (length tail - 4) (length content - length tail) content ∙ ap (λ k. drop k content) there

-- the offset in them is that of the file
pub offset_read : (o : Option (List ℕ)) (tail slice : List ℕ) (offset : ℕ) → slice ≡ tail → 4 ≤ length tail → IfSome o (IsTail tail) → offset ≡ offset_in slice → IfSome o (λ c. offset ≡ offset_in c)
offset_read None tail slice offset same long is at = tt
offset_read (Some c) tail slice offset same long is at = at ∙ ap offset_in same ∙ ap (from_be_bytes w32) (same_end tail c is long)

-- and they are bytes where these are
pub bytes_read : (o : Option (List ℕ)) (tail slice : List ℕ) → slice ≡ tail → 4 ≤ length tail → IfSome o (IsTail tail) → AreBytes (drop (length slice - 4) slice) → IfSome o (λ c. AreBytes (drop (length c - 4) c))
bytes_read None tail slice same long is fit = tt
bytes_read (Some c) tail slice same long is fit = subst AreBytes (ap (λ (x : List ℕ). drop (length x - 4) x) same ∙ same_end tail c is long) fit
