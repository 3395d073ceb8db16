use Rattle.std.proofs.Common.{◌≡◌, ◌≤◌, ⊎_elim, refl, sym, ap, subst, arith}
use Rattle.disk_model.specs.MemWrite.{newest_first, least_end, IsPatched}
use Rattle.disk_model.proofs.MemReached.{reached_from_least, reached_from_patched, least_or_patched}
use Rattle.disk_model.proofs.mem_file.MemFile.is_reached.Goals as goal

pub returns-then-self-at : goal.returns-then-self-at
returns-then-self-at c =
    let f = c.args.self.now in
    let least : least_end (newest_first f.writes.items) ≤ c.args.at = omega (arith, f.is_least, c.if-self-at.true) in
    (λ _. reached_from_least c.args.at c.requires (newest_first f.writes.items) least, λ _. refl)

pub returns : goal.returns
returns c =
    let f = c.args.self.now in
    let ws = newest_first f.writes.items in
    let read : newest_first c.deref.result.now ≡ ws = ap newest_first c.deref.ensures.value in (
      λ is. reached_from_patched c.args.at ws (subst (IsPatched c.args.at) read (c.is_patched.ensures.0 is)),
      λ reached. ⊎_elim (λ least. absurd (omega (arith, f.is_least, least, c.if-self-at.false))) (λ patched. c.is_patched.ensures.1 (subst (IsPatched c.args.at) (sym read) patched))
          (least_or_patched c.args.at ws reached),
    )
