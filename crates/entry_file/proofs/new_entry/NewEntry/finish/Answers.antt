use Rattle.std.proofs.Common.{◌≡◌, ◌*◌, ℕ, List, length, Some, rules, sym, ap, subst, ◌∙◌}
use Rattle.disk_theory.specs.Calls.{MayWriteAt}
use Rattle.disk_theory.specs.State.{State, Write, standing, wrote}
use Rattle.disk_theory.proofs.Standing.{wrote_puts}
use Rattle.entry_file.specs.Held.{held}
use Rattle.entry_file.specs.NewEntry.{finished, last_write}
use Rattle.entry_file.specs.Version.{file_of}
use Rattle.entry_file.proofs.Bodies.{may_write}
use Rattle.entry_file.proofs.FinishedBody.{done_along, last_written, meta_is, will_be, write_is}
use Rattle.entry_file.proofs.Writing.{written_by}
use Rattle.entry_file.proofs.new_entry.NewEntry.finish.Goals as goal

pub write_end-requires-clause-told : goal.write_end-requires-clause-told
write_end-requires-clause-told g c = λ told.
    subst (λ (hashes : List ℕ). MayWriteAt (standing (g.D.Disk.state c.args.disk.now) c.args.place.now) (length hashes * 262144)) (sym c.as_slice.ensures) (may_write (held c.args.self) _ (c.requires.told told))

pub returns-in_err-write_end-clause-state : goal.returns-in_err-write_end-clause-state
returns-in_err-write_end-clause-state g c = λ told body has stood.
    let write = write_is (held c.args.self) body has c.args.self.short c.args.header c.args.key c.args.elements c.all_hashes-hashes.result c.len-offset.result _ _ _ _
    c.as_slice.ensures c.as_slice-rest.ensures.bytes c.all_hashes-hashes.ensures c.len-offset.ensures c.as_slice-2.ensures c.in_ok-tail.ensures.bytes in
    done_along c.args.place.now _ _ c.from_residual-in_err-write_end.result _ _ write (search rules)

pub returns-in_err-write_end-clause-writes : goal.returns-in_err-write_end-clause-writes
returns-in_err-write_end-clause-writes g c = λ told body has stood.
    let v = finished c.args.header c.args.key c.args.elements body in
    let write = write_is (held c.args.self) body has c.args.self.short c.args.header c.args.key c.args.elements c.all_hashes-hashes.result c.len-offset.result _ _ _ _
    c.as_slice.ensures c.as_slice-rest.ensures.bytes c.all_hashes-hashes.ensures c.len-offset.ensures c.as_slice-2.ensures c.in_ok-tail.ensures.bytes in
    written_by c.args.place.now (λ content. content ≡ file_of v) _ _ _ c.write_end.result (c.write_end.ensures.state told) (will_be v _ write _ stood)

pub returns-clause-meta : goal.returns-clause-meta
returns-clause-meta g c = λ body has.
    meta_is (held c.args.self) body has c.args.self.short c.args.header c.args.key c.args.elements c.as_slice-rest.result.now c.all_hashes-hashes.result c.len-offset.result c.as_slice-rest.ensures.bytes c.all_hashes-hashes.ensures c.len-offset.ensures

pub returns-clause-state : goal.returns-clause-state
returns-clause-state g c = λ told body has stood.
    let write = write_is (held c.args.self) body has c.args.self.short c.args.header c.args.key c.args.elements c.all_hashes-hashes.result c.len-offset.result _ _ _ _
    c.as_slice.ensures c.as_slice-rest.ensures.bytes c.all_hashes-hashes.ensures c.len-offset.ensures c.as_slice-2.ensures c.in_ok-tail.ensures.bytes in
    c.in_ok-write_end.ensures.state told ∙ ap (λ (w : Write). wrote c.args.place.now w (g.D.Disk.state c.args.disk.now)) write

pub returns-clause-writes : goal.returns-clause-writes
returns-clause-writes g c = λ told body has stood.
    let v = finished c.args.header c.args.key c.args.elements body in
    let write = write_is (held c.args.self) body has c.args.self.short c.args.header c.args.key c.args.elements c.all_hashes-hashes.result c.len-offset.result _ _ _ _
    c.as_slice.ensures c.as_slice-rest.ensures.bytes c.all_hashes-hashes.ensures c.len-offset.ensures c.as_slice-2.ensures c.in_ok-tail.ensures.bytes in
    written_by c.args.place.now (λ content. content ≡ file_of v) _ _ _ c.write_end.result (c.write_end.ensures.state told) (will_be v _ write _ stood)

pub returns-clause-stands : goal.returns-clause-stands
returns-clause-stands g c = λ told body has stood.
    let v = finished c.args.header c.args.key c.args.elements body in
    let write = write_is (held c.args.self) body has c.args.self.short c.args.header c.args.key c.args.elements c.all_hashes-hashes.result c.len-offset.result _ _ _ _
    c.as_slice.ensures c.as_slice-rest.ensures.bytes c.all_hashes-hashes.ensures c.len-offset.ensures c.as_slice-2.ensures c.in_ok-tail.ensures.bytes in
    ap (λ (t : State). standing t c.args.place.now) (c.in_ok-write_end.ensures.state told ∙ ap (λ (w : Write). wrote c.args.place.now w (g.D.Disk.state c.args.disk.now)) write)
    ∙ (wrote_puts c.args.place.now (last_write v) (g.D.Disk.state c.args.disk.now) _ (g.met.D.Disk.sound c.args.disk.now told) stood).here ∙ ap Some (last_written v)
