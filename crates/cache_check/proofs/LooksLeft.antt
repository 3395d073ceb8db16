-- The looks that a check still takes, of all that it takes.
use Rattle.std.proofs.Common.{◌≡◌, ◌≤◌, ◌+◌, ℕ, refl, ◌∙◌, arith}
use Rattle.disk_theory.specs.Calls.{Counts}
use Rattle.entry_file.specs.Looks.{LooksAtMost}

-- with those that are left the calls come to no more than these
pub record LooksLeft (left all : ℕ) (before now : Counts) : Type 0 where
  pub calls : now.calls + left ≤ before.calls + all
  pub entry_reads : now.entry_reads + left ≤ before.entry_reads + all
  pub no_change : now.failed ≡ before.failed
  pub unsynced : now.syncs ≡ before.syncs

pub looks_first : (all : ℕ) (c : Counts) → LooksLeft all all c c
looks_first all c = record { calls = omega arith; entry_reads = omega arith; no_change = refl; unsynced = refl }

pub looks_more : (n left rest all : ℕ) (before mid now : Counts) → left ≡ n + rest → LooksLeft left all before mid → LooksAtMost n mid now → LooksLeft rest all before now
looks_more n left rest all before mid now parts so_far looks =
    let c = so_far.calls in
    let d = looks.calls in
    let e = so_far.entry_reads in
    let f = looks.entry_reads in
    record {
      calls = omega (arith, parts, c, d);
      entry_reads = omega (arith, parts, e, f);
      no_change = looks.no_change ∙ so_far.no_change;
      unsynced = looks.unsynced ∙ so_far.unsynced;
    }

pub looks_done : (left all : ℕ) (before now : Counts) → LooksLeft left all before now → LooksAtMost all before now
looks_done left all before now so_far =
    let c = so_far.calls in
    let e = so_far.entry_reads in
    record { calls = omega (arith, c); entry_reads = omega (arith, e); no_change = so_far.no_change; unsynced = so_far.unsynced }
