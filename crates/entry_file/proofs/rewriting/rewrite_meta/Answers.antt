use Rattle.std.proofs.Common.{◌≡◌, List, Option, subst, ◌∙◌}
use Rattle.std.specs.Prelude.{ℕ}
use Rattle.disk_theory.specs.State.Write.{End}
use Rattle.entry_metadata.specs.Meta.{meta_of}
use Rattle.entry_file.specs.Rewriting.{StoresBody, block_write}
use Rattle.entry_file.proofs.StoredBody.{file_stands, writes_file}
use Rattle.entry_file.proofs.rewriting.rewrite_meta.Goals as goal

pub returns-in_err-write_end-clause-writes : goal.returns-in_err-write_end-clause-writes
returns-in_err-write_end-clause-writes g c = λ told content stood.
    let m = meta_of c.args.meta.now in
    let write : End c.from.result c.as_slice.result.now ≡ block_write m = λ i. End (c.from.ensures i) ((c.as_slice.ensures ∙ c.in_ok-tail.ensures.bytes) i) in
    writes_file m content (subst (λ (file : Option (List ℕ)). StoresBody file m) stood (c.requires told)) c.args.place.now _ _ _ c.write_end.result write (c.write_end.ensures.state told) stood

pub returns-clause-writes : goal.returns-clause-writes
returns-clause-writes g c = λ told content stood.
    let m = meta_of c.args.meta.now in
    let write : End c.from.result c.as_slice.result.now ≡ block_write m = λ i. End (c.from.ensures i) ((c.as_slice.ensures ∙ c.in_ok-tail.ensures.bytes) i) in
    writes_file m content (subst (λ (file : Option (List ℕ)). StoresBody file m) stood (c.requires told)) c.args.place.now _ _ _ c.write_end.result write (c.write_end.ensures.state told) stood

pub returns-clause-stands : goal.returns-clause-stands
returns-clause-stands g c = λ told content stood.
    let m = meta_of c.args.meta.now in
    let write : End c.from.result c.as_slice.result.now ≡ block_write m = λ i. End (c.from.ensures i) ((c.as_slice.ensures ∙ c.in_ok-tail.ensures.bytes) i) in
    file_stands m content (subst (λ (file : Option (List ℕ)). StoresBody file m) stood (c.requires told)) c.args.place.now _ (g.D.Disk.state c.args.disk.now) _ (g.met.D.Disk.sound c.args.disk.now told) write
    (c.in_ok-write_end.ensures.state told) stood
