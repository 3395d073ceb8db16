use Rattle.std.proofs.Common.{◌≡◌, ◌⊎◌, ◌∙◌, inl, inr, ℕ, List, Bor, Err, Option, Some, None, refl, sym, subst, ap}
use Rattle.std.specs.Prelude.{IfSome}
use Rattle.std.specs.Bool.{IsTrue}
use Rattle.cache_theory.specs.Command.Command.{ReadPart}
use Rattle.cache_theory.specs.declared.refusal.Refusal.{Refusal}
use Rattle.chunk_cache.specs.Cached.{StandsFirst}
use Rattle.chunk_cache.proofs.Properties.{look_puts_first}
use Rattle.disk_theory.specs.Account.{Ending, Looks}
use Rattle.file_handles.specs.Answers.{ending}
use Rattle.file_handles.specs.Cache.{cache_at}
use Rattle.handle_table.specs.HeldChunks.{MayLoseLast, PutsFirst}
use Rattle.handle_table.specs.Kept.{Kept, object_at, use_at, used}
use Rattle.file_handles.specs.Kept.{kept}
use Rattle.file_handles.specs.Reading.{ForBody, HasChunkOf, part_of_body, rest_part}
use Rattle.handle_table.specs.Refuses.{HasNoObject, Refuses}
use Rattle.file_handles.specs.declared.fault.HandleFault.{HandleFault}
use Rattle.file_handles.specs.declared.fault.HandleFault.TheVariants as fault
use Rattle.file_handles.specs.declared.read.StoredChunk.{StoredChunk}
use Rattle.file_handles.proofs.Accounting.{looks_nowhere}
use Rattle.file_handles.proofs.Reading.ChunkLists.{put_again}
use Rattle.file_handles.proofs.Setting.ElementSlots.{use_found}
use Rattle.file_handles.proofs.LiveUses.{live_refuses, none_live, some_live, used_at}
use Rattle.file_handles.proofs.Reading.PartsSlots.{err_is, error_changes, error_reads, error_says, error_unread, never_both, on_err, on_error, part_no_slot, part_passes}
use Rattle.file_handles.proofs.Reading.ReadChunks.{chunk_held, chunk_lent, for_chunk, for_none, in_slot, looked_loses_none, looked_stands, one_there, rest_lent, same_looked}
use Rattle.file_handles.proofs.handles.Handles.read_part.Goals as goal

pub returns-in_err-used : goal.returns-in_err-used
returns-in_err-used g c =
    let s = g.D.Disk.state c.args.disk.now in
    let k = kept c.args.self.now in
    let f : Refusal = c.in_err-used.field-0.0 in
    let is = err_is c.from_residual.result (fault.Refused f) c.from_residual.ensures.1 in
    let says = error_says c.from_residual.result (fault.Refused f)
    (λ (part : Bor (List ℕ)). IsTrue g.D.Disk.tells → ForBody (cache_at k s) c.args.slot (λ body. part.now ≡ part_of_body body c.args.from c.args.len))
    (λ (r : Refusal). Refuses k (ReadPart c.args.slot c.args.from c.args.len) r) is
    (λ r same.
    let one : f ≡ r = cc in
    subst (λ (q : Refusal). Refuses k (ReadPart c.args.slot c.args.from c.args.len) q) one (live_refuses k c.args.slot (ReadPart c.args.slot c.args.from c.args.len) f used (sym c.live_use.ensures.used ∙ c.in_err-used.was)
    (λ at. part_no_slot k c.args.slot c.requires.slot f at c.args.from c.args.len))) in (
      (
        refl,
        λ _. tt,
        record {
          has_read = record {
            same = refl;
            put = on_err _ c.from_residual.result (fault.Refused f) is;
            either = λ x number index own of_chunk. inr (inl refl);
            first = on_err _ c.from_residual.result (fault.Refused f) is;
            none_lost = λ held n i some. some;
            unread = λ none. refl;
            holds = λ told m number stands. stands.handles.chunks;
          };
          failed = on_error _ c.from_residual.result (fault.Refused f) is (inl refl);
          unread = error_reads c.from_residual.result (fault.Refused f) _ is (λ never. refl);
        },
      ),
      record {
        part = says.0;
        refused = says.1;
        no_object = (error_says c.from_residual.result (fault.Refused f) (λ (part : Bor (List ℕ)). Unit {0}) (HasNoObject k c.args.slot) is
            (λ r same.
            let one : f ≡ r = cc in
            subst (HasNoObject k c.args.slot) one (none_live k c.args.slot f (sym c.live_use.ensures.used ∙ c.in_err-used.was)))).1;
        object = on_err _ c.from_residual.result (fault.Refused f) is;
        passes = on_err _ c.from_residual.result (fault.Refused f) is;
        read = tt;
        held = λ _. (refl, error_unread c.from_residual.result (fault.Refused f) is (λ never. cc));
        no_change = error_changes c.from_residual.result (fault.Refused f) is (λ never. cc);
        looks = looks_nowhere g.D.Disk _ _ (ap ending is);
      },
    )

pub returns-in_err-hold-in-Some : goal.returns-in_err-hold-in-Some
returns-in_err-hold-in-Some g c =
    let s = g.D.Disk.state c.args.disk.now in
    let k = kept c.args.self.now in
    let u = c.in_ok-used.used in
    let found : use_at k c.args.slot ≡ Some u = use_found (use_at k c.args.slot) u (used_at k c.args.slot u (sym c.live_use.ensures.used ∙ c.in_ok-used.was)) in
    let chunk : StoredChunk = c.in-Some.chunk in
    let there = one_there (object_at k u.place) (λ x. HasChunkOf x c.args.from c.args.len (Some chunk)) c.in_ok-used.ensures.there
    (subst (λ (o : Option StoredChunk). IfSome (object_at k u.place) (λ x. HasChunkOf x c.args.from c.args.len o)) c.in-Some.is c.chunk_of_part.ensures.chunk) in
    let e = c.in_err-hold-in-Some.field-0.0 in
    let is = err_is c.from_residual-in_err-hold-in-Some.result e c.from_residual-in_err-hold-in-Some.ensures.1 in
    let says = error_says c.from_residual-in_err-hold-in-Some.result e
    (λ (part : Bor (List ℕ)). IsTrue g.D.Disk.tells → ForBody (cache_at k s) c.args.slot (λ body. part.now ≡ part_of_body body c.args.from c.args.len))
    (λ (r : Refusal). Refuses k (ReadPart c.args.slot c.args.from c.args.len) r) is
    (λ r same. absurd (c.in_err-hold-in-Some.ensures.refused r same)) in (
      (
        refl,
        λ _. tt,
        record {
          has_read = record {
            same = c.hold.ensures.same;
            put = on_err _ c.from_residual-in_err-hold-in-Some.result e is;
            either = λ x number index own of_chunk. inr c.in_err-hold-in-Some.ensures.failed;
            first = on_err _ c.from_residual-in_err-hold-in-Some.result e is;
            none_lost = λ held. (c.hold.ensures.held (chunk_held k c.args.slot u found there.0 there.1.0 c.args.from c.args.len chunk there.1.1 held)).1.1;
            unread = λ none. absurd (none there.0 chunk.number chunk.index (in_slot k c.args.slot u found there.0 there.1.0 c.args.from c.args.len) there.1.1.of_chunk);
            holds = λ told. c.hold.ensures.holds u.place there.0 c.args.from c.args.len told there.1.0 there.1.1;
          };
          failed = on_error _ c.from_residual-in_err-hold-in-Some.result e is c.in_err-hold-in-Some.ensures.failed;
          unread = error_reads c.from_residual-in_err-hold-in-Some.result e _ is (λ read. c.in_err-hold-in-Some.ensures.read read);
        },
      ),
      record {
        part = says.0;
        refused = says.1;
        no_object = (error_says c.from_residual-in_err-hold-in-Some.result e (λ (part : Bor (List ℕ)). Unit {0}) (HasNoObject k c.args.slot) is (λ r same. absurd (c.in_err-hold-in-Some.ensures.refused r same))).1;
        object = on_err _ c.from_residual-in_err-hold-in-Some.result e is;
        passes = on_err _ c.from_residual-in_err-hold-in-Some.result e is;
        read = tt;
        held = λ held.
            let done = c.hold.ensures.held (chunk_held k c.args.slot u found there.0 there.1.0 c.args.from c.args.len chunk there.1.1 held) in
            (done.1.0, absurd (never_both c.hold.result tt c.in_err-hold-in-Some.field-0.0 done.0 c.in_err-hold-in-Some.was));
        no_change = error_changes c.from_residual-in_err-hold-in-Some.result e is (λ failed. c.hold.ensures.no_change (c.in_err-hold-in-Some.was ∙ ap (λ (x : HandleFault). Err x) failed));
        looks = subst (λ (a : Ending). Looks g.D.Disk a c.args.disk.now c.hold.new.disk) (ap ending c.in_err-hold-in-Some.was ∙ sym (ap ending is)) c.hold.ensures.looks;
      },
    )

pub returns-in_ok-hold-in-Some : goal.returns-in_ok-hold-in-Some
returns-in_ok-hold-in-Some g c =
    let k = kept c.args.self.now in
    let u = c.in_ok-used.used in
    let found : use_at k c.args.slot ≡ Some u = use_found (use_at k c.args.slot) u (used_at k c.args.slot u (sym c.live_use.ensures.used ∙ c.in_ok-used.was)) in
    let chunk : StoredChunk = c.in-Some.chunk in
    let there = one_there (object_at k u.place) (λ x. HasChunkOf x c.args.from c.args.len (Some chunk)) c.in_ok-used.ensures.there
    (subst (λ (o : Option StoredChunk). IfSome (object_at k u.place) (λ x. HasChunkOf x c.args.from c.args.len o)) c.in-Some.is c.chunk_of_part.ensures.chunk) in
    let mid = kept c.hold.new.self in
    let after = kept c.lend_chunk.follows.lender-at-none in
    let looked = c.lend_chunk.follows.holds-at-none in
    let Put : ℕ → ℕ → Type 0 = λ number index. PutsFirst number index k.chunks after.chunks in
    let put : PutsFirst chunk.number chunk.index k.chunks after.chunks = put_again chunk.number chunk.index k.chunks mid.chunks after.chunks c.in_ok-hold-in-Some.ensures.put (ap (λ (j : Kept). j.chunks) looked) in (
      (
        refl,
        λ _. tt,
        record {
          has_read = record {
            same = same_looked k mid after _ c.hold.ensures.same looked;
            put = for_chunk k c.args.slot u found there.0 there.1.0 c.args.from c.args.len chunk there.1.1 Put put;
            either = for_chunk k c.args.slot u found there.0 there.1.0 c.args.from c.args.len chunk there.1.1 (λ number index. Put number index ⊎ MayLoseLast k.chunks after.chunks) (inl put);
            first = for_chunk k c.args.slot u found there.0 there.1.0 c.args.from c.args.len chunk there.1.1 (λ number index. StandsFirst number index after.chunks)
                (subst (λ (j : Kept). StandsFirst chunk.number chunk.index j.chunks) (sym looked) (look_puts_first chunk.number chunk.index mid.chunks c.in_ok-hold-in-Some.ensures.found));
            none_lost = λ held.
                looked_loses_none k mid after chunk.number chunk.index
                (c.hold.ensures.held (chunk_held k c.args.slot u found there.0 there.1.0 c.args.from c.args.len chunk there.1.1 held)).1.1 looked;
            unread = λ none. absurd (none there.0 chunk.number chunk.index (in_slot k c.args.slot u found there.0 there.1.0 c.args.from c.args.len) there.1.1.of_chunk);
            holds = λ told m number stands.
                looked_stands mid after m number chunk.number chunk.index looked (c.hold.ensures.holds u.place there.0 c.args.from c.args.len told there.1.0 there.1.1 m number stands);
          };
          failed = tt;
          unread = tt;
        },
      ),
      record {
        part = λ told m stand.
            chunk_lent k c.args.slot u found there.0 there.1.0 c.args.from c.args.len m stand.0 stand.1.handles c.requires.slot chunk there.1.1 mid
            (c.hold.ensures.holds u.place there.0 c.args.from c.args.len told there.1.0 there.1.1 m stand.0 stand.1) c.in_ok-hold-in-Some.ensures.found c.lend_chunk.result.now c.lend_chunk.ensures.part;
        refused = tt;
        no_object = tt;
        object = some_live k c.args.slot u (sym c.live_use.ensures.used ∙ c.in_ok-used.was);
        passes = part_passes k c.args.slot c.requires.slot u found c.args.from c.args.len;
        read = tt;
        held = λ held. ((c.hold.ensures.held (chunk_held k c.args.slot u found there.0 there.1.0 c.args.from c.args.len chunk there.1.1 held)).1.0, λ e. cc);
        no_change = λ e. cc;
        looks = subst (λ (a : Ending). Looks g.D.Disk a c.args.disk.now c.hold.new.disk) (ap ending c.in_ok-hold-in-Some.was) c.hold.ensures.looks;
      },
    )

pub returns-in-None : goal.returns-in-None
returns-in-None g c =
    let k = kept c.args.self.now in
    let u = c.in_ok-used.used in
    let found : use_at k c.args.slot ≡ Some u = use_found (use_at k c.args.slot) u (used_at k c.args.slot u (sym c.live_use.ensures.used ∙ c.in_ok-used.was)) in
    let there = one_there (object_at k u.place) (λ x. HasChunkOf x c.args.from c.args.len None) c.in_ok-used.ensures.there
    (subst (λ (o : Option StoredChunk). IfSome (object_at k u.place) (λ x. HasChunkOf x c.args.from c.args.len o)) c.in-None.is c.chunk_of_part.ensures.chunk) in
    let lent = subst (λ o. IfSome o (λ x. c.lend_rest.result.now ≡ rest_part x.entry c.args.from c.args.len)) there.1.0 c.lend_rest.ensures in (
      (
        refl,
        λ _. tt,
        record {
          has_read = record {
            same = refl;
            put = for_none k c.args.slot u found there.0 there.1.0 c.args.from c.args.len there.1.1 (λ number index. PutsFirst number index k.chunks k.chunks);
            either = λ x number index own of_chunk. inr (inl refl);
            first = for_none k c.args.slot u found there.0 there.1.0 c.args.from c.args.len there.1.1 (λ number index. StandsFirst number index k.chunks);
            none_lost = λ held n i some. some;
            unread = λ none. refl;
            holds = λ told m number stands. stands.handles.chunks;
          };
          failed = tt;
          unread = tt;
        },
      ),
      record {
        part = λ told m stand. rest_lent k c.args.slot u found there.0 there.1.0 c.args.from c.args.len m stand.0 stand.1.handles c.requires.slot there.1.1 c.lend_rest.result.now lent;
        refused = tt;
        no_object = tt;
        object = some_live k c.args.slot u (sym c.live_use.ensures.used ∙ c.in_ok-used.was);
        passes = part_passes k c.args.slot c.requires.slot u found c.args.from c.args.len;
        read = tt;
        held = λ _. (refl, λ e. cc);
        no_change = λ e. cc;
        looks = looks_nowhere g.D.Disk _ _ refl;
      },
    )
