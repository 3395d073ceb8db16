use Rattle.std.proofs.Common.{◌++◌, refl, sym, ◌∙◌, append_assoc}
use Rattle.std.proofs.lemmas.Result.{err_from_is_err_and}
use Rattle.cache_export.specs.Dump.{front_bytes}
use Rattle.cache_export.proofs.WritingLaws.{both_out, first_cut, front_cut, last_out, next_cut}
use Rattle.cache_export.proofs.writing.item_front.Goals as goal

pub returns-in_err-write_whole-clause-out : goal.returns-in_err-write_whole-clause-out
returns-in_err-write_whole-clause-out g c =
    let key = c.args.key.now in
    let failed = err_from_is_err_and c.from_residual.result c.from_residual.ensures.1 in
    rw failed.1 (first_cut _ _ (front_bytes key c.args.len) c.key_lead-lead.result (key ++ _) (front_cut key c.key_lead-lead.result _ c.args.len c.key_lead-lead.ensures refl) c.in_err-write_whole.ensures.part)

pub returns-in_err-write_whole-2-clause-out : goal.returns-in_err-write_whole-2-clause-out
returns-in_err-write_whole-2-clause-out g c =
    let key = c.args.key.now in
    let failed = err_from_is_err_and c.from_residual-in_err-write_whole-2.result c.from_residual-in_err-write_whole-2.ensures.1 in
    rw failed.1
    (next_cut _ _ _ (front_bytes key c.args.len) c.key_lead-lead.result (key ++ _) (front_cut key c.key_lead-lead.result _ c.args.len c.key_lead-lead.ensures refl) c.in_ok-write_whole.ensures.all
    (first_cut _ _ (key ++ _) key _ refl c.in_err-write_whole-2.ensures.part))

pub returns-clause-out : goal.returns-clause-out
returns-clause-out g c =
    let key = c.args.key.now in
    let both = both_out _ _ _ (c.key_lead-lead.result ++ key) c.key_lead-lead.result key refl c.in_ok-write_whole.ensures.all c.in_ok-write_whole-2.ensures.all in
    last_out c.write_whole-3.result _ _ _ (front_bytes key c.args.len) (c.key_lead-lead.result ++ key) c.to_be_bytes-last.result
    (front_cut key c.key_lead-lead.result c.to_be_bytes-last.result c.args.len c.key_lead-lead.ensures c.to_be_bytes-last.ensures ∙ sym (append_assoc c.key_lead-lead.result key c.to_be_bytes-last.result))
    both c.write_whole-3.ensures.all c.write_whole-3.ensures.part
