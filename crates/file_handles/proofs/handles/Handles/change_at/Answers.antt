use Rattle.std.proofs.Common.{◌≡◌, Option, Some, Ok, sym, ap, subst, ◌∙◌}
use Rattle.disk_theory.specs.State.{State}
use Rattle.entry_file.proofs.Writing.{not_written}
use Rattle.file_handles.specs.Cache.{cache_at}
use Rattle.file_handles.specs.Changes.{ChangesThere, with_version}
use Rattle.file_handles.specs.Effects.{IsLearntOf, learnt_of_held}
use Rattle.handle_table.specs.Held.{labelled}
use Rattle.handle_table.specs.Kept.{kept_in, with_object}
use Rattle.file_handles.specs.Kept.{kept}
use Rattle.file_handles.specs.Setting.{changed_by, header_by, with_change}
use Rattle.handle_table.specs.declared.object.Entry.{Entry}
use Rattle.handle_table.specs.declared.object.Entry.TheVariants.{Draft, Finished}
use Rattle.handle_table.specs.declared.object.Object.{Object}
use Rattle.file_handles.proofs.Accounting.{changes_handed_on}
use Rattle.file_handles.proofs.EffectLaws.{held_is_learnt}
use Rattle.file_handles.proofs.Setting.ElementChecks.{is_there}
use Rattle.file_handles.proofs.Setting.EntryChanged.{IsDraftWith, IsMetaWith, draft_becomes, draft_held, meta_becomes, meta_held, meta_writes, stores}
use Rattle.file_handles.proofs.PutBack.{changes_done, changes_failed, put_back}
use Rattle.file_handles.proofs.handles.Handles.change_at.Goals as goal
use Rattle.file_handles.proofs.handles.Handles.change_at.Goals.{in-Draft+in_ok-changed_draft-in-Draft, in-Finished+in_ok-meta-in-Finished+in_ok-rewrite_meta-in-Finished}

pub take_apart-entry-requires-clause-there : goal.take_apart-entry-requires-clause-there
take_apart-entry-requires-clause-there g c = is_there _ _ c.requires.room

pub returns-in_err-changed_draft-in-Draft-clause-changes :
    goal.returns-in_err-changed_draft-in-Draft-clause-changes
returns-in_err-changed_draft-in-Draft-clause-changes g c told =
    let s = g.D.Disk.state c.args.disk.now in
    changes_failed c.args.place (with_version (with_change c.args.change)) c.from_residual.result s s (kept c.args.self.now) (kept_in c.take_apart-entry.new.self) (labelled c.take_apart-entry.result.0 c.take_apart-entry.result.1) c.take_apart-entry.ensures.found
    (λ o filed. not_written _ _ s) c.from_residual.ensures.0

pub returns-in_err-meta-in-Finished-clause-changes :
    goal.returns-in_err-meta-in-Finished-clause-changes
returns-in_err-meta-in-Finished-clause-changes g c told =
    let s = g.D.Disk.state c.args.disk.now in
    changes_failed c.args.place (with_version (with_change c.args.change)) c.from_residual-in_err-meta-in-Finished.result s s (kept c.args.self.now) (kept_in c.take_apart-entry.new.self) (labelled c.take_apart-entry.result.0 c.take_apart-entry.result.1) c.take_apart-entry.ensures.found
    (λ o filed. not_written _ _ s) c.from_residual-in_err-meta-in-Finished.ensures.0

pub rewrite_meta-requires : goal.rewrite_meta-requires
rewrite_meta-requires g c told =
    let s = g.D.Disk.state c.args.disk.now in
    let x = labelled c.take_apart-entry.result.0 c.take_apart-entry.result.1 in
    let filed = c.requires.told told x c.take_apart-entry.ensures.found in
    let new = c.in_ok-meta-in-Finished.ensures in
    let with : IsMetaWith (header_by c.args.change) (changed_by c.args.change) c.in-Finished.meta c.in_ok-meta-in-Finished.meta =
    record { header = new.header; key = new.others.0; elements = new.elements; hashes = new.others.1.0; offset = new.others.1.1 } in
    stores (header_by c.args.change) (changed_by c.args.change) x filed.0 s filed.1 c.in-Finished.meta c.in_ok-meta-in-Finished.meta c.in-Finished.is with c.file_place-file.result c.file_place-file.ensures

pub returns-in_err-rewrite_meta-in-Finished-clause-changes :
    goal.returns-in_err-rewrite_meta-in-Finished-clause-changes
returns-in_err-rewrite_meta-in-Finished-clause-changes g c told =
    let s = g.D.Disk.state c.args.disk.now in
    let t = g.D.Disk.state c.rewrite_meta.new.disk in
    let x = labelled c.take_apart-entry.result.0 c.take_apart-entry.result.1 in
    let new = c.in_ok-meta-in-Finished.ensures in
    let with : IsMetaWith (header_by c.args.change) (changed_by c.args.change) c.in-Finished.meta c.in_ok-meta-in-Finished.meta =
    record { header = new.header; key = new.others.0; elements = new.elements; hashes = new.others.1.0; offset = new.others.1.1 } in
    changes_failed c.args.place (with_version (with_change c.args.change)) c.from_residual-in_err-rewrite_meta-in-Finished.result s t (kept c.args.self.now) (kept_in c.take_apart-entry.new.self) x c.take_apart-entry.ensures.found
    (λ o filed. meta_writes (header_by c.args.change) (changed_by c.args.change) x o s filed c.in-Finished.meta c.in_ok-meta-in-Finished.meta c.in-Finished.is with t c.file_place-file.result c.file_place-file.ensures (c.rewrite_meta.ensures.writes told))
    c.from_residual-in_err-rewrite_meta-in-Finished.ensures.0

pub returns-in_err-rewrite_meta-in-Finished-clause-disk : goal.returns-in_err-rewrite_meta-in-Finished-clause-disk
returns-in_err-rewrite_meta-in-Finished-clause-disk g c =
    changes_handed_on g.D.Disk c.rewrite_meta.result c.in_err-rewrite_meta-in-Finished.field-0.0 c.from_residual-in_err-rewrite_meta-in-Finished.result _ _
    c.in_err-rewrite_meta-in-Finished.was c.from_residual-in_err-rewrite_meta-in-Finished.ensures.1 c.rewrite_meta.ensures.disk

pub returns-clause-changes : goal.returns-clause-changes
returns-clause-changes g c told =
    let s = g.D.Disk.state c.args.disk.now in
    let k = kept c.args.self.now in
    let after = kept_in c.put_entry.new.self in
    let x = labelled c.take_apart-entry.result.0 c.take_apart-entry.result.1 in
    elim c.match-entry.branch [
      | in-Draft+in_ok-changed_draft-in-Draft w ↦
          let new = w.in_ok-changed_draft-in-Draft.ensures in
          let with : IsDraftWith (header_by c.args.change) (changed_by c.args.change) w.in-Draft.draft w.in_ok-changed_draft-in-Draft.field-0 =
          record { body = new.others.0; header = new.header; key = new.others.1; elements = new.elements } in
          let t_is : g.D.Disk.state c.match-entry.disk ≡ s = ap g.D.Disk.state w.disk-is in
          let y : Object = record { number = x.number; name = x.name; doomed = x.doomed; aside = x.aside; entry = Draft w.in_ok-changed_draft-in-Draft.field-0 } in
          let put = put_back k (kept_in c.take_apart-entry.new.self) after c.args.place _ c.take_apart-entry.ensures.kept c.put_entry.ensures ∙ ap (λ (e : Entry). with_object k c.args.place (Some (record { number = x.number; name = x.name; doomed = x.doomed; aside = x.aside; entry = e }))) w.entry-is in
          subst (λ (u : State). ChangesThere c.args.place (with_version (with_change c.args.change)) (Ok c.learnt_of-effect.result) (cache_at k s) (cache_at after u)) (sym t_is)
          (changes_done c.args.place (with_version (with_change c.args.change)) (Ok c.learnt_of-effect.result) s s k after x c.take_apart-entry.ensures.found (λ o filed. not_written _ _ s)
          y (λ o filed. draft_becomes (header_by c.args.change) (changed_by c.args.change) x o s filed w.in-Draft.draft w.in_ok-changed_draft-in-Draft.field-0 w.in-Draft.is with) put)
      | in-Finished+in_ok-meta-in-Finished+in_ok-rewrite_meta-in-Finished w ↦
          let new = w.in_ok-meta-in-Finished.ensures in
          let with : IsMetaWith (header_by c.args.change) (changed_by c.args.change) w.in-Finished.meta w.in_ok-meta-in-Finished.meta =
          record { header = new.header; key = new.others.0; elements = new.elements; hashes = new.others.1.0; offset = new.others.1.1 } in
          let t : State = g.D.Disk.state w.rewrite_meta.new.disk in
          let t_is : g.D.Disk.state c.match-entry.disk ≡ t = ap g.D.Disk.state w.disk-is in
          let y : Object = record { number = x.number; name = x.name; doomed = x.doomed; aside = x.aside; entry = Finished w.in_ok-meta-in-Finished.meta } in
          let put = put_back k (kept_in c.take_apart-entry.new.self) after c.args.place _ c.take_apart-entry.ensures.kept c.put_entry.ensures ∙ ap (λ (e : Entry). with_object k c.args.place (Some (record { number = x.number; name = x.name; doomed = x.doomed; aside = x.aside; entry = e }))) w.entry-is in
          subst (λ (u : State). ChangesThere c.args.place (with_version (with_change c.args.change)) (Ok c.learnt_of-effect.result) (cache_at k s) (cache_at after u)) (sym t_is)
          (changes_done c.args.place (with_version (with_change c.args.change)) (Ok c.learnt_of-effect.result) s t k after x c.take_apart-entry.ensures.found
          (λ o filed. meta_writes (header_by c.args.change) (changed_by c.args.change) x o s filed w.in-Finished.meta w.in_ok-meta-in-Finished.meta w.in-Finished.is with t c.file_place-file.result c.file_place-file.ensures (w.rewrite_meta.ensures.writes told))
          y (λ o filed. meta_becomes (header_by c.args.change) (changed_by c.args.change) x o s filed w.in-Finished.meta w.in_ok-meta-in-Finished.meta w.in-Finished.is with t c.file_place-file.result c.file_place-file.ensures
          (w.in_ok-rewrite_meta-in-Finished.ensures.stands told)) put)
    ]

pub returns-clause-effect : goal.returns-clause-effect
returns-clause-effect g c =
    let x = labelled c.take_apart-entry.result.0 c.take_apart-entry.result.1 in
    let change = with_version (with_change c.args.change) in
    subst (λ (o : Option Object). IsLearntOf change o c.learnt_of-effect.result) (sym c.take_apart-entry.ensures.found) (λ o held new.
    c.learnt_of-effect.ensures.held
    ∙ elim c.match-entry.branch [
      | in-Draft+in_ok-changed_draft-in-Draft w ↦
          let after = w.in_ok-changed_draft-in-Draft.ensures in
          let with : IsDraftWith (header_by c.args.change) (changed_by c.args.change) w.in-Draft.draft w.in_ok-changed_draft-in-Draft.field-0 =
          record { body = after.others.0; header = after.header; key = after.others.1; elements = after.elements } in
          ap (λ (e : Entry). learnt_of_held x.name x.doomed e) w.entry-is
          ∙ held_is_learnt x.number x.name x.doomed x.aside (Draft w.in_ok-changed_draft-in-Draft.field-0) (change o) (draft_held (header_by c.args.change) (changed_by c.args.change) x o held w.in-Draft.draft w.in_ok-changed_draft-in-Draft.field-0 w.in-Draft.is with) new
      | in-Finished+in_ok-meta-in-Finished+in_ok-rewrite_meta-in-Finished w ↦
          let after = w.in_ok-meta-in-Finished.ensures in
          let with : IsMetaWith (header_by c.args.change) (changed_by c.args.change) w.in-Finished.meta w.in_ok-meta-in-Finished.meta =
          record { header = after.header; key = after.others.0; elements = after.elements; hashes = after.others.1.0; offset = after.others.1.1 } in
          ap (λ (e : Entry). learnt_of_held x.name x.doomed e) w.entry-is
          ∙ held_is_learnt x.number x.name x.doomed x.aside (Finished w.in_ok-meta-in-Finished.meta) (change o) (meta_held (header_by c.args.change) (changed_by c.args.change) x o held w.in-Finished.meta w.in_ok-meta-in-Finished.meta w.in-Finished.is with) new
    ])
