use Rattle.std.proofs.Common.{ap, refl, sym, subst, ◌∙◌}
use Rattle.std.specs.List.{All}
use Rattle.std.specs.Prelude.{IsSome}
use Rattle.std.proofs.lemmas.List.Elements.{All-take}
use Rattle.chunk_cache.specs.Cached.{bytes_of, with_chunk, with_room}
use Rattle.chunk_cache.proofs.Properties.{All-looked_at, All-with_chunk}
use Rattle.handle_table.specs.HeldChunks.{IsChunkInUse}
use Rattle.file_handles.specs.Kept.{kept}
use Rattle.file_handles.proofs.Reading.ChunkLists.{kept_put}
use Rattle.file_handles.proofs.Setting.ElementReads.{mapped_none}
use Rattle.file_handles.proofs.Reading.ReadChunks.{list_stands, looked_finds, new_in_use}
use Rattle.file_handles.proofs.handles.Handles.hold.Goals as goal

pub returns-then-is_some-clause-holds : goal.returns-then-is_some-clause-holds
returns-then-is_some-clause-holds g c = λ place x from len told at is m number stands.
    let k = kept c.args.self.now in
    let n = c.args.chunk.now.number in
    let i = c.args.chunk.now.index in
    let P = IsChunkInUse k m in
    list_stands k m number stands.handles.chunks c.look.follows.lender-at-none
    (subst (All P) (sym c.look.follows.holds-at-none) (All-looked_at P n i k.chunks stands.handles.chunks.held))

pub returns-then-is_some-clause-held : goal.returns-then-is_some-clause-held
returns-then-is_some-clause-held g c = λ some.
    let k = kept c.args.self.now in (
      refl,
      (
        refl,
        λ n i found.
            subst (λ chunks. IsSome (bytes_of n i chunks)) (sym c.look.follows.holds-at-none)
            (looked_finds c.args.chunk.now.number c.args.chunk.now.index n i k.chunks found),
      ),
    )

pub returns-in_err-read_over-clause-holds : goal.returns-in_err-read_over-clause-holds
returns-in_err-read_over-clause-holds g c = λ place x from len told at is m number stands.
    let k = kept c.args.self.now in
    let n = c.args.chunk.now.number in
    let i = c.args.chunk.now.index in
    let P = IsChunkInUse k m in
    list_stands k m number stands.handles.chunks c.look.follows.lender-at-none
    (subst (All P) (sym c.look.follows.holds-at-none) (All-looked_at P n i k.chunks stands.handles.chunks.held))

pub returns-in_err-keep-clause-holds : goal.returns-in_err-keep-clause-holds
returns-in_err-keep-clause-holds g c = λ place x from len told at is m number stands.
    let k = kept c.args.self.now in
    let n = c.args.chunk.now.number in
    let i = c.args.chunk.now.index in
    let P = IsChunkInUse k m in
    list_stands k m number stands.handles.chunks c.keep.new.self
    (subst (All P) (sym (c.in_err-keep.ensures.err ∙ c.evict.ensures.chunks)) (All-take P 31 _ (subst (All P) (sym c.look.follows.holds-at-none) (All-looked_at P n i k.chunks stands.handles.chunks.held))))

pub returns-clause-holds : goal.returns-clause-holds
returns-clause-holds g c = λ place x from len told at is m number stands.
    let s = g.D.Disk.state c.args.disk.now in
    let k = kept c.args.self.now in
    let n = c.args.chunk.now.number in
    let i = c.args.chunk.now.index in
    let P = IsChunkInUse k m in
    let room : All P c.evict.new.self = subst (All P) (sym c.evict.ensures.chunks) (All-take P 31 _ (subst (All P) (sym c.look.follows.holds-at-none) (All-looked_at P n i k.chunks stands.handles.chunks.held))) in
    list_stands k m number stands.handles.chunks c.keep.new.self
    (subst (All P) (sym c.in_ok-keep.ensures.ok)
    (All-with_chunk P n i c.read_over.new.bytes c.evict.new.self room
    (new_in_use s k m number stands place x at from len c.args.chunk.now is c.read_over.new.bytes (c.in_ok-read_over.ensures.chunk told))))

pub returns-clause-put : goal.returns-clause-put
returns-clause-put g c =
    let n = c.args.chunk.now.number in
    let i = c.args.chunk.now.index in
    let bytes = c.read_over.new.bytes in
    kept_put n i c.args.self.now.table.chunks c.keep.new.self bytes (mapped_none _ c.look.result _ c.look.ensures.bytes (sym c.if-is_some.ensures))
    (c.in_ok-keep.ensures.ok ∙ ap (with_chunk n i bytes) (c.evict.ensures.chunks ∙ ap with_room c.look.follows.holds-at-none))
