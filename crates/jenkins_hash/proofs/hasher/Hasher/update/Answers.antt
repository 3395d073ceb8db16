use Rattle.std.proofs.Common.{◌≡◌, ◌++◌, arith, refl, ap, ◌∙◌}
use Rattle.jenkins_hash.specs.declared.words.Words.{Words}
use Rattle.jenkins_hash.specs.Hash.{absorb_all}
use Rattle.jenkins_hash.proofs.Pieces.{fed_kept, fed_filled}
use Rattle.jenkins_hash.proofs.hasher.Hasher.update.Goals as goal

pub returns-then-b-room : goal.returns-then-b-room
returns-then-b-room c = λ m holds.
    fed_kept c.args.self.now _ m c.args.b.now holds (omega arith) (omega arith) refl c.put-self.ensures refl refl

pub returns : goal.returns
returns c = λ m holds.
    let cut : c.args.b.now ≡ c.split_at.result.0.now ++ c.split_at.result.1.now = c.split_at.ensures.by_index.0 in
    fed_filled c.args.self.now _ m c.args.b.now c.split_at.result.0.now c.split_at.result.1.now c.put-full.result c.absorb_all.result.1.now holds (omega arith) (omega arith) cut
    (omega arith) (omega arith) c.put-full.ensures (c.absorb_all.ensures.words ∙ ap (λ (w : Words). absorb_all w c.split_at.result.1.now) c.absorb.ensures) c.absorb_all.ensures.left refl c.put-self-2.ensures refl
