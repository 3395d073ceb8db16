use Rattle.std.proofs.Common.{refl}
use Rattle.file_handles.proofs.Setting.ElementChecks.{is_there}
use Rattle.file_handles.proofs.Setting.EntryChanged.{IsMetaWith, stores}
use Rattle.file_handles.proofs.handles.Handles.hashes_at.Goals as goal

pub hashes_with-requires-clause-told : goal.hashes_with-requires-clause-told
hashes_with-requires-clause-told g c told =
    let s = g.D.Disk.state c.args.disk.now in
    let x = c.object_at-object.result.now in
    let meta = c.in-Finished.meta in
    let filed = c.requires.told told x c.object_at-object.ensures in
    let same : IsMetaWith (λ h. h) (λ es. es) meta meta = record { header = refl; key = refl; elements = refl; hashes = refl; offset = refl } in
    stores (λ h. h) (λ es. es) x filed.0 s filed.1 meta meta c.in-Finished.is same c.file_place-file.result c.file_place-file.ensures

pub object_at-object-requires-clause-there : goal.object_at-object-requires-clause-there
object_at-object-requires-clause-there g c = is_there _ _ c.requires.may
