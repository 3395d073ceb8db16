use Rattle.std.proofs.Common.{◌≡◌, Option, None, Some, Ok, sym, ap, subst, ◌∙◌, IfSome}
use Rattle.cache_theory.specs.Checks.{with_alt_data}
use Rattle.chunk_cache.specs.Cached.{without_entry}
use Rattle.chunk_cache.proofs.Properties.{others_left}
use Rattle.disk_theory.specs.Prefixes.{KeepsPrefix}
use Rattle.entry_file.proofs.Writing.{not_written}
use Rattle.file_handles.specs.Cache.{cache_at}
use Rattle.file_handles.specs.Changes.{ChangesAt, with_version}
use Rattle.file_handles.specs.Effects.{IsLearntOf}
use Rattle.handle_table.specs.Held.{body_len_in, labelled, object_place}
use Rattle.handle_table.specs.Kept.{Kept, kept_in, object_at, with_object, without_chunks}
use Rattle.file_handles.specs.Kept.{kept}
use Rattle.file_handles.specs.PuttingAlt.{AreHashesWith}
use Rattle.handle_table.specs.declared.object.Entry.TheVariants.{Finished}
use Rattle.handle_table.specs.declared.object.Object.{Object}
use Rattle.file_handles.proofs.Accounting.{changes_handed_on}
use Rattle.file_handles.proofs.Setting.ElementChecks.{if_object}
use Rattle.file_handles.proofs.PuttingAlt.LongerEntry.{IsMetaBehind, behind, behind_becomes, behind_learnt, behind_writes, prefix_kept, prefix_same, stores_shorter}
use Rattle.file_handles.proofs.PutBack.{changes_done, changes_failed, put_back}
use Rattle.file_handles.proofs.handles.Handles.put_at.Goals as goal

pub returns-in_err-meta-clause-changes : goal.returns-in_err-meta-clause-changes
returns-in_err-meta-clause-changes g c told =
    let s = g.D.Disk.state c.args.disk.now in
    let k = kept c.args.self.now in
    let after = kept_in c.take_apart-entry.new.self in
    let x = labelled c.take_apart-entry.result.0 c.take_apart-entry.result.1 in
    let change = with_version (with_alt_data c.args.kind.now c.args.alt.now) in
    subst (λ (o : Option Object). IfSome o (λ x. ChangesAt c.args.place change c.from_residual.result (cache_at (without_chunks k x.number) s) (cache_at after s) x)) (sym c.take_apart-entry.ensures.found)
    (changes_failed c.args.place change c.from_residual.result s s (without_chunks k x.number) after x c.take_apart-entry.ensures.found (λ o filed. not_written _ _ s) c.from_residual.ensures.0 x c.take_apart-entry.ensures.found)

pub returns-in_err-meta-clause-prefix : goal.returns-in_err-meta-clause-prefix
returns-in_err-meta-clause-prefix g c told =
    let s = g.D.Disk.state c.args.disk.now in
    let k = kept c.args.self.now in
    let x = labelled c.take_apart-entry.result.0 c.take_apart-entry.result.1 in
    let alt = c.args.alt.now in
    let has = if_object (object_at k c.args.place) x (AreHashesWith s alt c.args.hashes) c.take_apart-entry.ensures.found (c.requires.hashes told) in
    subst (λ (o : Option Object). IfSome o (λ x. KeepsPrefix (object_place x) (body_len_in x.entry) s s)) (sym c.take_apart-entry.ensures.found)
    (prefix_same s (g.met.D.Disk.sound c.args.disk.now told) (object_place x) (body_len_in x.entry) alt c.args.hashes has)

pub grow_body-requires-clause-told : goal.grow_body-requires-clause-told
grow_body-requires-clause-told g c told =
    let s = g.D.Disk.state c.args.disk.now in
    let k = kept c.args.self.now in
    let x = labelled c.take_apart-entry.result.0 c.take_apart-entry.result.1 in
    let alt = c.args.alt.now in
    let new = c.in_ok-meta.ensures in
    let grown : IsMetaBehind c.args.kind.now alt c.args.hashes c.in-Finished.old c.in_ok-meta.meta =
    record { header = new.header; key = new.key; elements = new.elements; hashes_are = new.hashes; offset = new.offset } in
    stores_shorter c.args.kind.now alt c.args.hashes x c.in-Finished.old c.in_ok-meta.meta c.in-Finished.is grown s c.file_place-file.result c.file_place-file.ensures
    (if_object (object_at k c.args.place) x (AreHashesWith s alt c.args.hashes) c.take_apart-entry.ensures.found (c.requires.hashes told))

pub returns-in_err-grow_body-clause-changes : goal.returns-in_err-grow_body-clause-changes
returns-in_err-grow_body-clause-changes g c told =
    let s = g.D.Disk.state c.args.disk.now in
    let t = g.D.Disk.state c.grow_body.new.disk in
    let k = kept c.args.self.now in
    let mid : Kept = record (kept_in c.take_apart-entry.new.self) { chunks = c.forget.new.self } in
    let x = labelled c.take_apart-entry.result.0 c.take_apart-entry.result.1 in
    let alt = c.args.alt.now in
    let change = with_version (with_alt_data c.args.kind.now alt) in
    let new = c.in_ok-meta.ensures in
    let grown : IsMetaBehind c.args.kind.now alt c.args.hashes c.in-Finished.old c.in_ok-meta.meta =
    record { header = new.header; key = new.key; elements = new.elements; hashes_are = new.hashes; offset = new.offset } in
    let has = if_object (object_at k c.args.place) x (AreHashesWith s alt c.args.hashes) c.take_apart-entry.ensures.found (c.requires.hashes told) in
    subst (λ (o : Option Object). IfSome o (λ x. ChangesAt c.args.place change c.from_residual-in_err-grow_body.result (cache_at (without_chunks k x.number) s) (cache_at mid t) x)) (sym c.take_apart-entry.ensures.found)
    (changes_failed c.args.place change c.from_residual-in_err-grow_body.result s t (without_chunks k x.number) mid x c.take_apart-entry.ensures.found
    (λ o filed. behind_writes c.args.kind.now alt c.args.hashes x c.in-Finished.old c.in_ok-meta.meta c.in-Finished.is grown s o filed has t c.file_place-file.result c.file_place-file.ensures (c.grow_body.ensures.writes told))
    c.from_residual-in_err-grow_body.ensures.0 x c.take_apart-entry.ensures.found)

pub returns-in_err-grow_body-clause-prefix : goal.returns-in_err-grow_body-clause-prefix
returns-in_err-grow_body-clause-prefix g c told =
    let s = g.D.Disk.state c.args.disk.now in
    let t = g.D.Disk.state c.grow_body.new.disk in
    let x = labelled c.take_apart-entry.result.0 c.take_apart-entry.result.1 in
    let alt = c.args.alt.now in
    let new = c.in_ok-meta.ensures in
    let grown : IsMetaBehind c.args.kind.now alt c.args.hashes c.in-Finished.old c.in_ok-meta.meta =
    record { header = new.header; key = new.key; elements = new.elements; hashes_are = new.hashes; offset = new.offset } in
    subst (λ (o : Option Object). IfSome o (λ x. KeepsPrefix (object_place x) (body_len_in x.entry) s t)) (sym c.take_apart-entry.ensures.found)
    (prefix_kept c.args.kind.now alt c.args.hashes x c.in-Finished.old c.in_ok-meta.meta c.in-Finished.is grown s t c.file_place-file.result c.file_place-file.ensures (c.grow_body.ensures.prefix told))

pub returns-clause-changes : goal.returns-clause-changes
returns-clause-changes g c told =
    let s = g.D.Disk.state c.args.disk.now in
    let t = g.D.Disk.state c.grow_body.new.disk in
    let k = kept c.args.self.now in
    let after = kept_in c.put_entry.new.self in
    let x = labelled c.take_apart-entry.result.0 c.take_apart-entry.result.1 in
    let alt = c.args.alt.now in
    let change = with_version (with_alt_data c.args.kind.now alt) in
    let new = c.in_ok-meta.ensures in
    let grown : IsMetaBehind c.args.kind.now alt c.args.hashes c.in-Finished.old c.in_ok-meta.meta =
    record { header = new.header; key = new.key; elements = new.elements; hashes_are = new.hashes; offset = new.offset } in
    let has = if_object (object_at k c.args.place) x (AreHashesWith s alt c.args.hashes) c.take_apart-entry.ensures.found (c.requires.hashes told) in
    let y : Object = record { number = x.number; name = x.name; doomed = x.doomed; aside = x.aside; entry = Finished c.in_ok-meta.meta } in
    let mid : Kept = record (kept_in c.take_apart-entry.new.self) { chunks = c.forget.new.self } in
    let taken : mid ≡ with_object (without_chunks k x.number) c.args.place None =
    (λ i. record (c.take_apart-entry.ensures.kept i) { chunks = c.forget.ensures.chunks i })
    ∙ ap (λ (j : Kept). record (with_object k c.args.place None) { chunks = without_entry x.number j.chunks }) c.take_apart-entry.ensures.kept in
    subst (λ (o : Option Object). IfSome o (λ x. ChangesAt c.args.place change (Ok c.learnt_of-effect.result) (cache_at (without_chunks k x.number) s) (cache_at after t) x)) (sym c.take_apart-entry.ensures.found)
    (changes_done c.args.place change (Ok c.learnt_of-effect.result) s t (without_chunks k x.number) after x c.take_apart-entry.ensures.found
    (λ o filed. behind_writes c.args.kind.now alt c.args.hashes x c.in-Finished.old c.in_ok-meta.meta c.in-Finished.is grown s o filed has t c.file_place-file.result c.file_place-file.ensures (c.grow_body.ensures.writes told))
    y
    (λ o filed. behind_becomes c.args.kind.now alt c.args.hashes x c.in-Finished.old c.in_ok-meta.meta c.in-Finished.is grown s o filed has t c.file_place-file.result c.file_place-file.ensures
    (without_entry x.number k.chunks) (others_left x.number k.chunks) c.grow_body.ensures.meta (c.in_ok-grow_body.ensures.stands told))
    (put_back (without_chunks k x.number) mid after c.args.place (Some y) taken c.put_entry.ensures) x c.take_apart-entry.ensures.found)

pub returns-clause-prefix : goal.returns-clause-prefix
returns-clause-prefix g c told =
    let s = g.D.Disk.state c.args.disk.now in
    let t = g.D.Disk.state c.grow_body.new.disk in
    let x = labelled c.take_apart-entry.result.0 c.take_apart-entry.result.1 in
    let alt = c.args.alt.now in
    let new = c.in_ok-meta.ensures in
    let grown : IsMetaBehind c.args.kind.now alt c.args.hashes c.in-Finished.old c.in_ok-meta.meta =
    record { header = new.header; key = new.key; elements = new.elements; hashes_are = new.hashes; offset = new.offset } in
    subst (λ (o : Option Object). IfSome o (λ x. KeepsPrefix (object_place x) (body_len_in x.entry) s t)) (sym c.take_apart-entry.ensures.found)
    (prefix_kept c.args.kind.now alt c.args.hashes x c.in-Finished.old c.in_ok-meta.meta c.in-Finished.is grown s t c.file_place-file.result c.file_place-file.ensures (c.grow_body.ensures.prefix told))

pub returns-clause-effect : goal.returns-clause-effect
returns-clause-effect g c =
    let x = labelled c.take_apart-entry.result.0 c.take_apart-entry.result.1 in
    let alt = c.args.alt.now in
    let new = c.in_ok-meta.ensures in
    let grown : IsMetaBehind c.args.kind.now alt c.args.hashes c.in-Finished.old c.in_ok-meta.meta =
    record { header = new.header; key = new.key; elements = new.elements; hashes_are = new.hashes; offset = new.offset } in
    subst (λ (o : Option Object). IsLearntOf (behind c.args.kind.now alt) o c.learnt_of-effect.result) (sym c.take_apart-entry.ensures.found) (λ o held object.
    c.learnt_of-effect.ensures.held ∙ behind_learnt c.args.kind.now alt c.args.hashes x c.in-Finished.old c.in_ok-meta.meta c.in-Finished.is grown o held object)

pub returns-in_err-grow_body-clause-disk : goal.returns-in_err-grow_body-clause-disk
returns-in_err-grow_body-clause-disk g c =
    changes_handed_on g.D.Disk c.grow_body.result c.in_err-grow_body.field-0.0 c.from_residual-in_err-grow_body.result _ _
    c.in_err-grow_body.was c.from_residual-in_err-grow_body.ensures.1 c.grow_body.ensures.disk
