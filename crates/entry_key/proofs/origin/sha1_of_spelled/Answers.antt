use Rattle.std.proofs.Common.{[], ◌+◌, ◌-◌, take, drop, length, sym, ap, subst, ◌∙◌, refl, rules, arith}
use Rattle.sha1.specs.Sha1.{sha1}
use Rattle.entry_key.proofs.Runs.{Hashing, run_hashed, rest_hashed, behind_run}
use Rattle.entry_key.proofs.origin.sha1_of_spelled.Goals as goal

pub loop-comma-init : goal.loop-comma-init
loop-comma-init c = record {
  short = search rules;
  hashing = λ value e. record { front = []; left = value; holds = c.new-hasher.ensures; spelled = e; joined = refl };
}

pub loop-comma-preserved : goal.loop-comma-preserved
loop-comma-preserved c = record {
  short = search rules;
  hashing = λ value e.
      let rest = c.loop-comma.rest.now in
      let behind = ap (λ n. take (length rest - n) (drop n rest)) c.min.ensures ∙ behind_run rest (c.in-Some.comma + 2) in
      subst (λ ys. Hashing c.update.new.self ys value) (sym behind)
      (run_hashed c.loop-comma.hasher c.update.new.self _ rest value c.in-Some.comma (c.loop-comma.invariant.hashing value e)
      (sym c.first_comma.ensures.first ∙ c.in-Some.is) (grind arith) c.update.ensures);
}

pub returns : goal.returns
returns c = λ value e.
    let h = c.loop-comma.invariant.hashing value e in
    c.finalize.ensures _ (c.update-2.ensures h.front h.holds)
    ∙ ap sha1 (rest_hashed c.loop-comma.hasher c.loop-comma.rest.now value h (sym c.first_comma.ensures.first ∙ c.in_default.is))
