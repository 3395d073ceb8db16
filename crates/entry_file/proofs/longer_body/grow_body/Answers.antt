use Rattle.std.proofs.Common.{◌≡◌, ◌-◌, ◌++◌, ℕ, List, length, Option, ap, subst, ◌∙◌}
use Rattle.disk_theory.specs.State.Write.{End}
use Rattle.cache_base.specs.Bytes.{be32}
use Rattle.entry_metadata.specs.Meta.{meta_of}
use Rattle.entry_metadata.specs.Metadata.{block_bytes}
use Rattle.entry_file.specs.LongerBody.{StoresShorter, len_before, longer_write}
use Rattle.entry_file.proofs.LongerBody.{longer_stands, longer_version, prefix_kept, prefix_unmade, writes_longer}
use Rattle.entry_file.proofs.longer_body.grow_body.Goals as goal

pub returns-in_err-tail-clause-version : goal.returns-in_err-tail-clause-version
returns-in_err-tail-clause-version g c = λ content stores bytes. longer_version (meta_of c.args.meta.now) c.args.more.now content c.requires.more stores c.tail_of.ensures.meta bytes c.bytes_fit.ensures

pub returns-in_err-tail-clause-prefix : goal.returns-in_err-tail-clause-prefix
returns-in_err-tail-clause-prefix g c = λ told.
    prefix_unmade c.args.place.now (meta_of c.args.meta.now) c.args.more.now (g.D.Disk.state c.args.disk.now) (g.met.D.Disk.sound c.args.disk.now told) (c.requires.told told)

pub returns-in_err-write_end-clause-version : goal.returns-in_err-write_end-clause-version
returns-in_err-write_end-clause-version g c = λ content stores bytes. longer_version (meta_of c.args.meta.now) c.args.more.now content c.requires.more stores c.tail_of.ensures.meta bytes c.bytes_fit.ensures

pub returns-in_err-write_end-clause-writes : goal.returns-in_err-write_end-clause-writes
returns-in_err-write_end-clause-writes g c = λ told content stood.
    let at : c.from.result - length c.args.more.now ≡ len_before (meta_of c.args.meta.now) c.args.more.now = ap (λ (n : ℕ). n - length c.args.more.now) c.from.ensures in
    let tail : c.as_slice.result.now ≡ c.args.more.now ++ (block_bytes (meta_of c.args.meta.now) ++ be32 c.args.meta.now.offset) = c.as_slice.ensures ∙ c.in_ok-tail.ensures.bytes in
    let write : End (c.from.result - length c.args.more.now) c.as_slice.result.now ≡ longer_write (meta_of c.args.meta.now) c.args.more.now = λ i. End (at i) (tail i) in
    writes_longer (meta_of c.args.meta.now) c.args.more.now content c.requires.more (subst (λ (file : Option (List ℕ)). StoresShorter file (meta_of c.args.meta.now) c.args.more.now) stood (c.requires.told told))
    c.args.place.now _ _ _ c.write_end.result write (c.write_end.ensures.state told) stood

pub returns-in_err-write_end-clause-prefix : goal.returns-in_err-write_end-clause-prefix
returns-in_err-write_end-clause-prefix g c = λ told.
    let at : c.from.result - length c.args.more.now ≡ len_before (meta_of c.args.meta.now) c.args.more.now = ap (λ (n : ℕ). n - length c.args.more.now) c.from.ensures in
    prefix_kept c.args.place.now (meta_of c.args.meta.now) c.args.more.now c.as_slice.result.now (c.from.result - length c.args.more.now) _ _ c.write_end.result
    (g.met.D.Disk.sound c.args.disk.now told) (g.met.D.Disk.sound c.write_end.new.self told) at (c.write_end.ensures.state told) (c.requires.told told)

pub returns-clause-version : goal.returns-clause-version
returns-clause-version g c = λ content stores bytes. longer_version (meta_of c.args.meta.now) c.args.more.now content c.requires.more stores c.tail_of.ensures.meta bytes c.bytes_fit.ensures

pub returns-clause-writes : goal.returns-clause-writes
returns-clause-writes g c = λ told content stood.
    let at : c.from.result - length c.args.more.now ≡ len_before (meta_of c.args.meta.now) c.args.more.now = ap (λ (n : ℕ). n - length c.args.more.now) c.from.ensures in
    let tail : c.as_slice.result.now ≡ c.args.more.now ++ (block_bytes (meta_of c.args.meta.now) ++ be32 c.args.meta.now.offset) = c.as_slice.ensures ∙ c.in_ok-tail.ensures.bytes in
    let write : End (c.from.result - length c.args.more.now) c.as_slice.result.now ≡ longer_write (meta_of c.args.meta.now) c.args.more.now = λ i. End (at i) (tail i) in
    writes_longer (meta_of c.args.meta.now) c.args.more.now content c.requires.more (subst (λ (file : Option (List ℕ)). StoresShorter file (meta_of c.args.meta.now) c.args.more.now) stood (c.requires.told told))
    c.args.place.now _ _ _ c.write_end.result write (c.write_end.ensures.state told) stood

pub returns-clause-stands : goal.returns-clause-stands
returns-clause-stands g c = λ told content stood.
    let at : c.from.result - length c.args.more.now ≡ len_before (meta_of c.args.meta.now) c.args.more.now = ap (λ (n : ℕ). n - length c.args.more.now) c.from.ensures in
    let tail : c.as_slice.result.now ≡ c.args.more.now ++ (block_bytes (meta_of c.args.meta.now) ++ be32 c.args.meta.now.offset) = c.as_slice.ensures ∙ c.in_ok-tail.ensures.bytes in
    let write : End (c.from.result - length c.args.more.now) c.as_slice.result.now ≡ longer_write (meta_of c.args.meta.now) c.args.more.now = λ i. End (at i) (tail i) in
    longer_stands (meta_of c.args.meta.now) c.args.more.now content c.requires.more (subst (λ (file : Option (List ℕ)). StoresShorter file (meta_of c.args.meta.now) c.args.more.now) stood (c.requires.told told))
    c.args.place.now _ (g.D.Disk.state c.args.disk.now) _ (g.met.D.Disk.sound c.args.disk.now told) write (c.in_ok-write_end.ensures.state told) stood

pub returns-clause-prefix : goal.returns-clause-prefix
returns-clause-prefix g c = λ told.
    let at : c.from.result - length c.args.more.now ≡ len_before (meta_of c.args.meta.now) c.args.more.now = ap (λ (n : ℕ). n - length c.args.more.now) c.from.ensures in
    prefix_kept c.args.place.now (meta_of c.args.meta.now) c.args.more.now c.as_slice.result.now (c.from.result - length c.args.more.now) _ _ c.write_end.result
    (g.met.D.Disk.sound c.args.disk.now told) (g.met.D.Disk.sound c.write_end.new.self told) at (c.write_end.ensures.state told) (c.requires.told told)
