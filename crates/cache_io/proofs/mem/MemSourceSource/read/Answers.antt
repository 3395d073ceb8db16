use Rattle.std.proofs.Common.{◌≡◌, ℕ, ◌<◌, ◌-◌, ◌++◌, List, [], length, take, drop, sym, ◌+◌, arith, min, drop-drop, length-drop}
use Rattle.std.proofs.lemmas.Grind.{common_steps}
use Rattle.std.proofs.lemmas.List.{take-append-drop}
use Rattle.std.proofs.Math.ListN.{drop_of_length-le}
use Rattle.cache_io.proofs.mem.MemSourceSource.read.Goals as goal

-- the bytes from a place on, as a range of the slice has them
to_end : (bytes : List ℕ) (at : ℕ) → take (length bytes - at) (drop at bytes) ≡ drop at bytes
to_end bytes at = grind (arith, common_steps)

-- what is left is what was given, and what is left n bytes further on
consumed : (bytes given : List ℕ) (at n : ℕ) → take n given ≡ take n (drop at bytes) → drop at bytes ≡ take n given ++ drop (at + n) bytes
consumed bytes given at n same = rw (same, ← drop-drop n at bytes) (sym (take-append-drop n (drop at bytes)))

-- nothing is given only where nothing is left
ended : (bytes : List ℕ) (at n room : ℕ) → n ≡ min (length (drop at bytes)) room → n ≡ 0 → 0 < room → drop (at + n) bytes ≡ []
ended bytes at n room count none some = drop_of_length-le bytes (omega (arith, length-drop at bytes))

pub returns-clause-bytes : goal.returns-clause-bytes
returns-clause-bytes c =
    let bytes = c.args.self.now.bytes in
    let at = c.args.self.now.at in
    let rest = c.as_slice.ensures in
    let front = rw (rest, to_end bytes at) at c.fill-n.ensures.front in
    let count = rw (rest, to_end bytes at) at c.fill-n.ensures.count in
    let buffer : 0 < length c.args.buf.now = c.requires in
    let piece : 0 < c.args.self.now.piece = c.args.self.now.some in
    let room : 0 < min (length c.args.buf.now) c.args.self.now.piece = omega arith in
    (consumed bytes c.fill-n.new.buf at c.fill-n.result front, λ none _. ended bytes at c.fill-n.result _ count none room)
