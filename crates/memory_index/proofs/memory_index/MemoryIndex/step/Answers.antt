use Rattle.std.proofs.Common.{refl, rules}
use Rattle.memory_index.proofs.memory_index.MemoryIndex.step.Goals as goal

pub returns-then-ended-clause-steps : goal.returns-then-ended-clause-steps
returns-then-ended-clause-steps g c = λ told. record {
  rest = search rules;
  ended = λ over. refl;
  read = λ left. absurd (left (c.ended.ensures.ended.0 c.if-ended.true));
  last = λ left. absurd (left (c.ended.ensures.ended.0 c.if-ended.true));
}

pub returns-clause-steps : goal.returns-clause-steps
returns-clause-steps g c = λ told. record {
  rest = c.in_ok-step.ensures.rest;
  ended = λ over. let ended = c.ended.ensures.ended.1 over in absurd (let not = c.if-ended.false in cc);
  read = λ left. c.in_ok-step.ensures.slice told;
  last = λ left. c.in_ok-step.ensures.ended;
}
