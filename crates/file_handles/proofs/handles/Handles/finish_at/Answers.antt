use Rattle.std.proofs.Common.{ℕ, Ok, Option, Some, ap, inl, inr, is_some, refl, sym, subst, ◌∙◌}
use Rattle.file_handles.specs.Effects.{IsLearntOf}
use Rattle.file_handles.specs.Finishing.{completed_by}
use Rattle.handle_table.specs.Held.{labelled, object_with}
use Rattle.handle_table.specs.Kept.{kept_in, with_object}
use Rattle.file_handles.specs.Kept.{kept}
use Rattle.file_handles.specs.Publishing.IsAmidPublishing.{Published}
use Rattle.handle_table.specs.declared.object.Entry.TheVariants.{Finished}
use Rattle.handle_table.specs.declared.object.Object.{Object}
use Rattle.file_handles.proofs.Reading.ClosedChunks.{same_number}
use Rattle.file_handles.proofs.Finishing.Completed.{completed_becomes, completed_held, completed_stands, completed_writes}
use Rattle.file_handles.proofs.Finishing.Completions.{completion, version_made}
use Rattle.file_handles.proofs.EffectLaws.{held_is_learnt}
use Rattle.file_handles.proofs.Setting.ElementChecks.{is_there}
use Rattle.file_handles.proofs.PutBack.{completes_done, completes_failed, put_back}
use Rattle.file_handles.proofs.handles.Handles.finish_at.Goals as goal

pub take_apart-entry-requires-clause-there : goal.take_apart-entry-requires-clause-there
take_apart-entry-requires-clause-there g c = is_there _ _ c.requires.draft

-- the file that was written whole stands

pub publish-requires : goal.publish-requires
publish-requires g c tells =
    let x = labelled c.take_apart-entry.result.0 c.take_apart-entry.result.1 in
    let d = c.in-Draft.draft in
    let given = c.args.given in
    let parts = c.parts_by-parts.result in
    let made = version_made given d parts c.parts_by-parts.ensures.parts in
    let s = g.D.Disk.state c.args.disk.now in
    let u = g.D.Disk.state c.finish.new.disk in
    let filed = c.requires.told tells x c.take_apart-entry.ensures.found in
    ap is_some (completed_stands (completed_by given) (completion given) x d c.in-Draft.is parts.header parts.elements made s u c.file_place-file.result c.file_place-file.ensures (c.in_ok-meta.ensures.stands tells) filed.0 filed.1)

pub returns-in_err-meta-clause-changes : goal.returns-in_err-meta-clause-changes
returns-in_err-meta-clause-changes g c tells =
    let x = labelled c.take_apart-entry.result.0 c.take_apart-entry.result.1 in
    let d = c.in-Draft.draft in
    let given = c.args.given in
    let parts = c.parts_by-parts.result in
    let made = version_made given d parts c.parts_by-parts.ensures.parts in
    let s = g.D.Disk.state c.args.disk.now in
    let t = g.D.Disk.state c.finish.new.disk in
    completes_failed c.args.place (completed_by given) c.from_residual.result s t t (kept c.args.self.now) (kept_in c.take_apart-entry.new.self) x c.take_apart-entry.ensures.found
    (completed_writes (completed_by given) (completion given) x d c.in-Draft.is parts.header parts.elements made s t c.file_place-file.result c.file_place-file.ensures (c.in_err-meta.ensures.writes tells))
    (g.met.D.Disk.sound c.finish.new.disk tells) (inl refl)
    c.from_residual.ensures.0

pub returns-in_err-aside-clause-changes : goal.returns-in_err-aside-clause-changes
returns-in_err-aside-clause-changes g c tells =
    let x = labelled c.take_apart-entry.result.0 c.take_apart-entry.result.1 in
    let d = c.in-Draft.draft in
    let given = c.args.given in
    let parts = c.parts_by-parts.result in
    let made = version_made given d parts c.parts_by-parts.ensures.parts in
    let s = g.D.Disk.state c.args.disk.now in
    let u = g.D.Disk.state c.finish.new.disk in
    let t = g.D.Disk.state c.publish.new.disk in
    completes_failed c.args.place (completed_by given) c.from_residual-in_err-aside.result s t u (kept c.args.self.now) (kept_in c.take_apart-entry.new.self) x c.take_apart-entry.ensures.found
    (completed_writes (completed_by given) (completion given) x d c.in-Draft.is parts.header parts.elements made s u c.file_place-file.result c.file_place-file.ensures (c.in_ok-meta.ensures.writes tells))
    (g.met.D.Disk.sound c.finish.new.disk tells)
    (inr ((c.in_err-aside.ensures.state tells).amid, completed_stands (completed_by given) (completion given) x d c.in-Draft.is parts.header parts.elements made s u c.file_place-file.result c.file_place-file.ensures (c.in_ok-meta.ensures.stands tells)))
    c.from_residual-in_err-aside.ensures.0

pub returns-clause-changes : goal.returns-clause-changes
returns-clause-changes g c tells =
    let x = labelled c.take_apart-entry.result.0 c.take_apart-entry.result.1 in
    let d = c.in-Draft.draft in
    let given = c.args.given in
    let parts = c.parts_by-parts.result in
    let made = version_made given d parts c.parts_by-parts.ensures.parts in
    let s = g.D.Disk.state c.args.disk.now in
    let u = g.D.Disk.state c.finish.new.disk in
    let t = g.D.Disk.state c.publish.new.disk in
    let done = (c.in_ok-aside.ensures.state tells).done in
    let stands = completed_stands (completed_by given) (completion given) x d c.in-Draft.is parts.header parts.elements made s u c.file_place-file.result c.file_place-file.ensures (c.in_ok-meta.ensures.stands tells) in
    completes_done c.args.place (completed_by given) (Ok c.learnt_of-effect.result) s t u (kept c.args.self.now) (kept_in c.put_entry.new.self) x c.take_apart-entry.ensures.found
    (completed_writes (completed_by given) (completion given) x d c.in-Draft.is parts.header parts.elements made s u c.file_place-file.result c.file_place-file.ensures (c.in_ok-meta.ensures.writes tells))
    (g.met.D.Disk.sound c.finish.new.disk tells)
    (inr (Published done.1, stands))
    _
    done.1
    (completed_becomes (completed_by given) (completion given) x d c.in-Draft.is parts.header parts.elements made s u c.file_place-file.result c.file_place-file.ensures c.in_ok-meta.meta c.in_ok-meta.ensures.meta (c.in_ok-meta.ensures.stands tells))
    (put_back (kept c.args.self.now) (kept_in c.take_apart-entry.new.self) (kept_in c.put_entry.new.self) c.args.place (Some _) c.take_apart-entry.ensures.kept c.put_entry.ensures
    ∙ ap (λ (a : Option ℕ). with_object (kept c.args.self.now) c.args.place (Some (object_with x.number x.name x.doomed a (Finished c.in_ok-meta.meta)))) done.0)

pub returns-clause-effect : goal.returns-clause-effect
returns-clause-effect g c =
    let x = labelled c.take_apart-entry.result.0 c.take_apart-entry.result.1 in
    let d = c.in-Draft.draft in
    let given = c.args.given in
    let parts = c.parts_by-parts.result in
    let made = version_made given d parts c.parts_by-parts.ensures.parts in
    subst (λ (o : Option Object). IsLearntOf (completed_by given) o c.learnt_of-effect.result) (sym c.take_apart-entry.ensures.found) (λ o held new.
    c.learnt_of-effect.ensures.held
    ∙ held_is_learnt x.number x.name x.doomed _ (Finished c.in_ok-meta.meta) (completed_by given o) (completed_held (completed_by given) (completion given) x d c.in-Draft.is parts.header parts.elements made c.in_ok-meta.meta c.in_ok-meta.ensures.meta o held) new)

pub returns-clause-numbered : goal.returns-clause-numbered
returns-clause-numbered g c =
    same_number (kept c.args.self.now) (kept_in c.put_entry.new.self) c.args.place (labelled c.take_apart-entry.result.0 c.take_apart-entry.result.1) _ c.take_apart-entry.ensures.found
    (put_back (kept c.args.self.now) (kept_in c.take_apart-entry.new.self) (kept_in c.put_entry.new.self) c.args.place (Some _) c.take_apart-entry.ensures.kept c.put_entry.ensures) refl
