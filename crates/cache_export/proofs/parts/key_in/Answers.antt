use Rattle.std.proofs.Common.{◌+◌, ◌++◌, ℕ, drop, refl, sym, ap, subst, ◌∙◌}
use Rattle.std.proofs.lemmas.Bool.{false≢true}
use Rattle.cache_export.specs.PartRead.{MayFollow, before_at}
use Rattle.cache_export.specs.Parts.{key_bytes, lead}
use Rattle.cache_export.proofs.PartLaws.{key_none, key_spelled}
use Rattle.cache_export.proofs.parts.key_in.Goals as goal

pub returns-else-may_follow-clause-bad : goal.returns-else-may_follow-clause-bad
returns-else-may_follow-clause-bad c =
    let d = c.args.due in
    let last = c.args.last.now in
    let place = ap (λ (n : ℕ). drop (n + 5) c.args.part.now) c.lead.ensures in
    key_none d last c.args.part.now c.requires (λ follows. false≢true (c.if-may_follow.ensures.1 (subst (MayFollow (before_at d last)) (sym (c.bytes_after-key.ensures ∙ place)) follows)))

pub returns-in-Ok-clause-ok : goal.returns-in-Ok-clause-ok
returns-in-Ok-clause-ok c =
    let d = c.args.due in
    let part = c.args.part.now in
    let last = c.args.last.now in
    let place = ap (λ (n : ℕ). drop (n + 5) part) c.lead.ensures in
    let read = c.in-Ok.ensures in
    let mine = subst (MayFollow (before_at d last)) (sym read) (c.if-may_follow.ensures.0 refl) in
    (mine.0, (mine.1, key_spelled d last part c.bytes_fit.ensures c.requires ∙ ap (λ l. lead (before_at d last) ++ key_bytes l) (sym (read ∙ c.bytes_after-key.ensures ∙ place))))
