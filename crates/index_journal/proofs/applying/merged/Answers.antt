use Rattle.std.proofs.Common.{◌≡◌, ◌++◌, not, sym, ap, ◌∙◌}
use Rattle.std.specs.Prelude.{filter}
use Rattle.std.proofs.lemmas.List.Elements.{filter_agree}
use Rattle.std.proofs.lemmas.List.Sorted.{list_any-IsPermutation}
use Rattle.std.specs.Ordering.{is_eq}
use Rattle.cache_base.specs.Names.{has_name, name_cmp}
use Rattle.cache_base.specs.declared.name.Name.{Name}
use Rattle.index_record.specs.declared.record.IndexRecord.{IndexRecord}
use Rattle.record_list.specs.Lists.{names_of}
use Rattle.record_list.specs.Stored.{present}
use Rattle.index_journal.proofs.applying.merged.Goals as goal

pub returns : goal.returns
returns c =
    let index = c.args.index.now in
    let journal = c.args.journal.now in
    let names = c.in_ok-names.names.items in
    let alike : (r : IndexRecord) → not (has_name names r.name) ≡ not (has_name (names_of journal) r.name) =
    λ r. ap not (sym (list_any-IsPermutation (λ (one : Name). is_eq (name_cmp r.name one)) (names_of journal) names c.in_ok-names.ensures.same)) in
    let others : c.push_others.new.out.items ≡ filter (λ r. not (has_name (names_of journal) r.name)) index =
    c.in_ok-push_others.ensures
    ∙ (λ i. c.in_ok-records.ensures.items i ++ filter (λ r. not (has_name (c.as_slice.ensures.value i) r.name)) index)
    ∙ filter_agree (λ r. not (has_name names r.name)) (λ r. not (has_name (names_of journal) r.name)) alike index in
    c.in_ok-push_present.ensures ∙ ap (λ rs. rs ++ present journal) others
