use Rattle.std.proofs.Common.{arith, codes, length, ap, ◌∙◌, sym, subst, ◌≤◌}
use Rattle.cache_base.specs.declared.limits.TheConstants.{BLOCK_MAX}
use Rattle.entry_metadata.specs.Metadata.{block_length}
use Rattle.entry_parts.specs.Elements.{elements_bytes}
use Rattle.entry_parts.specs.Setting.{with_element}
use Rattle.file_handles.proofs.PuttingAlt.AltChecks.{block_small, may_put_of, told_settable}
use Rattle.file_handles.proofs.put_alt.grown_meta.Goals as goal

pub changed_elements-requires : goal.changed_elements-requires
changed_elements-requires c =
    told_settable c.args.meta c.args.kind.now c.args.len (may_put_of c.args.meta c.args.kind.now c.args.len c.requires.may) c.as_slice.result.now (c.as_slice.ensures ∙ c.in_ok-value.ensures)

pub invariant_of-result : goal.invariant_of-result
invariant_of-result c =
    let may = may_put_of c.args.meta c.args.kind.now c.args.len c.requires.may in
    let limit = may.limit in
    record {
      version = c.args.meta.version;
      key_size = c.args.meta.key_size;
      grammar = c.args.meta.grammar;
      hash_count = c.requires.hashes;
      finished = omega (arith, limit);
      small = subst (λ es. block_length (length c.args.hashes) (length c.args.meta.key) (length (elements_bytes es)) ≤ BLOCK_MAX) (sym (c.in_ok-elements.ensures ∙ ap (λ v. with_element (codes "alt-data") v c.args.meta.elements) (c.as_slice.ensures ∙ c.in_ok-value.ensures)))
          (block_small c.args.meta c.args.kind.now c.args.len (length c.args.hashes) may c.requires.hashes);
    }
