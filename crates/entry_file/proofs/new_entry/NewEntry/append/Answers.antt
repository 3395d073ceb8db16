use Rattle.std.proofs.Common.{◌++◌, length, ap, ◌∙◌, arith, refl, take-append-drop}
use Rattle.entry_file.specs.Held.{held}
use Rattle.entry_file.specs.Unfinished.{IsUnfinished}
use Rattle.entry_file.proofs.Midway.{has_whole, stands_whole, went_on}
use Rattle.entry_file.proofs.Writing.{written_twice}
use Rattle.entry_file.proofs.new_entry.NewEntry.append.Goals as goal

pub put_chunk-requires-clause-told : goal.put_chunk-requires-clause-told
put_chunk-requires-clause-told g c = λ told.
    let its = c.requires.told told in
    let midway = c.loop-left.invariant.midway its.0 its.1 in
    (midway.now, midway.has, midway.stands (told, its.2))

pub returns-in_err-put_chunk-clause-writes : goal.returns-in_err-put_chunk-clause-writes
returns-in_err-put_chunk-clause-writes g c = λ told.
    written_twice c.args.place.now IsUnfinished _ _ _ (c.loop-left.invariant.writes told) (c.put_chunk.ensures.writes told)

pub loop-left-preserved : goal.loop-left-preserved
loop-left-preserved g c =
    let old = c.loop-left.invariant in
    let long = ap length c.as_slice-in-loop-left.ensures.bytes in
    let test_long = ap length c.as_slice.ensures.bytes in
    let test = c.loop-left-test.true in
    let short = c.loop-left.self.short in
    let none = ap length c.in_ok-put_chunk.ensures.rest in
    let behind = c.split_at.ensures.back_len in
    let sum = c.in_ok-put_chunk.ensures.len in
    let front = c.split_at.ensures.front_len in
    record {
      held_less = omega (arith, old.held_less, long, none, behind);
      limit = omega (arith, old.limit, sum, front, behind);
      untouched = λ within. absurd (omega (arith, within, old.held_less, test, test_long, short));
      midway = λ body has. went_on (held c.loop-left.self) c.loop-left.left.now _ _ _ (old.midway body has) (held c.put_chunk.new.self) _ c.split_at.result.0.now c.split_at.result.1.now
          ((λ i. c.split_at.ensures.front i ++ c.split_at.ensures.back i) ∙ take-append-drop _ c.loop-left.left.now)
          c.in_ok-put_chunk.ensures.body (λ s. c.in_ok-put_chunk.ensures.stands s.0);
      writes = λ told. written_twice c.args.place.now IsUnfinished _ _ _ (old.writes told) (c.put_chunk.ensures.writes told);
      calls = λ told. let before = old.calls told in let one = c.put_chunk.ensures.calls told in omega (arith, before, one, long, short, test, test_long, none, behind);
      went_on = λ told. c.in_ok-put_chunk.ensures.disk.account.went_on refl told ∙ old.went_on told;
      faults = c.in_ok-put_chunk.ensures.disk.account.cause.kept (λ e. cc) ∙ old.faults;
      syncs = λ told. let before = old.syncs told in let one = c.in_ok-put_chunk.ensures.disk.account.syncs told in omega (arith, before, one);
      no_entry = λ told. c.in_ok-put_chunk.ensures.disk.no_entry told ∙ old.no_entry told;
    }

pub returns-clause-body : goal.returns-clause-body
returns-clause-body g c = λ body has.
    let long = ap length c.as_slice.ensures.bytes in
    let test = c.loop-left-test.false in
    has_whole (held c.loop-left.self) c.loop-left.left.now _ _ _ (c.loop-left.invariant.midway body has) (omega (arith, long, test)) c.extend.new.self c.extend.ensures

pub returns-clause-stands : goal.returns-clause-stands
returns-clause-stands g c = λ told body has stood.
    let long = ap length c.as_slice.ensures.bytes in
    let test = c.loop-left-test.false in
    stands_whole (held c.loop-left.self) c.loop-left.left.now _ _ _ (c.loop-left.invariant.midway body has) (omega (arith, long, test)) (told, stood)
