use Rattle.std.proofs.Common.{◌≤◌, ◌∙◌, sym, ap, subst, length, arith, List, ℕ}
use Rattle.entry_key.specs.Walk.{read_key, reads}
use Rattle.entry_parts.specs.Elements.{Element, elements_bytes}
use Rattle.entry_parts.specs.declared.header.Header.{Header}
use Rattle.cache_theory.proofs.Versions.{is_key}
use Rattle.file_handles.proofs.create.drafted.Goals as goal

pub overflow_cast-key : goal.overflow_cast-key
overflow_cast-key g c = let short = (is_key c.args.key.now c.requires.good).short in omega (arith, short)

pub invariant_of-draft : goal.invariant_of-draft
invariant_of-draft g c =
    let key = is_key c.args.key.now c.requires.good in
    let same = c.in_ok-bytes.ensures in
    record {
      version = ap (λ (h : Header). h.version) c.fresh.ensures;
      key_size = ap (λ (h : Header). h.key_size) c.fresh.ensures ∙ ap length (sym same);
      grammar = ap (λ (k : List ℕ). reads (read_key k)) same ∙ key.grammar;
      short_key = subst (λ (k : List ℕ). length k ≤ 16384) (sym same) key.short;
      short_elements = subst (λ (es : List Element). length (elements_bytes es) ≤ 65536) (sym c.new.ensures) (omega arith);
    }
