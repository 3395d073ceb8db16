-- What a call of a reader gives, and why it gives nothing.
use Rattle.std.proofs.Common.{◌≡◌, ℕ, ◌+◌, ◌<◌, ◌≤◌, Bool, true, false, List, [], ◌∷◌, ◌++◌, cond, length, take, drop, ltb, Option, None, Some, IfSome, refl, sym, ap, ◌∙◌, subst, arith}
use Rattle.std.proofs.lemmas.Bool.{ltb-true, ltb-false}
use Rattle.std.proofs.lemmas.List.{append_assoc, append-nil, length-take-le, take_at, take-append-drop, take-append-le}
use Rattle.std.specs.Prelude.{Result, Ok, Err, IfOk, IfErr}
use Rattle.std.specs.Io.KnownBytes.{Consumes, IsAtEnd, prepend_known}
use Rattle.cache_export.specs.Front.{front_at, head_front, item_front, lead_len}
use Rattle.cache_export.specs.Parts.{NoPart, Part, Spells, SpellsEnd, Stage, after, left_of}
use Rattle.cache_export.specs.Progress.{stage_of}
use Rattle.cache_export.specs.Reader.{Ends, Gives, HoldsPart, LeavesReader, Refuses, RefusesPart, StandsWhole, Takes, WantsMore, given_in, held_in, rest_of, stage_in, used_in}
use Rattle.cache_export.specs.Reading.{IsEnd, IsStuck, Shown, Cut}
use Rattle.cache_export.specs.Stages.{stage_at}
use Rattle.cache_io.specs.Window.{Grew}
use Rattle.cache_io.proofs.WindowLaws.{of_rest}
use Rattle.cache_export.specs.declared.front.Due.{Due}
use Rattle.cache_export.specs.declared.front.Due.TheVariants as due
use Rattle.cache_export.specs.declared.front.Front.{Front}
use Rattle.cache_export.specs.declared.front.Front.TheVariants.{Whole, More, Bad}
use Rattle.cache_export.specs.declared.limits.TheConstants.{DUMP_MAX}
use Rattle.cache_export.specs.declared.item.DumpFault.{DumpFault}
use Rattle.cache_export.specs.declared.item.DumpFault.TheVariants as faults
use Rattle.cache_export.specs.declared.item.Item.{Item}
use Rattle.cache_export.specs.declared.item.Item.TheVariants as item
use Rattle.cache_export.specs.declared.reader.DumpReader.{DumpReader}
use Rattle.entry_metadata.specs.Meta.{meta_of}
use Rattle.cache_export.proofs.FrontLaws.{end_is_more, front_stays, head_found, item_some, part_found}

pub past : (n : ℕ) → (n ≤ DUMP_MAX → ⊥) → DUMP_MAX < n
past n h = go (ltb DUMP_MAX n) refl
  where
    go : (t : Bool) → ltb DUMP_MAX n ≡ t → DUMP_MAX < n
    go true e = ltb-true DUMP_MAX n e
    go false e = absurd (h (ltb-false DUMP_MAX n e))

bad_is_whole : (n : ℕ) → Bad ≡ Whole n → ⊥
bad_is_whole n e = cc

bad_is_more : Bad ≡ More → ⊥
bad_is_more e = cc

more_is_whole : (n : ℕ) → More ≡ Whole n → ⊥
more_is_whole n e = cc

whole_len : Front → ℕ
whole_len (Whole n) = n
whole_len More = 0
whole_len Bad = 0

ends_so : (d : Due) (key : List ℕ) (len : ℕ) (hashes bytes : List ℕ) → SpellsEnd (stage_at d key len hashes) bytes → IsEnd d bytes
ends_so due.Head key len hashes bytes h = h
ends_so due.Item key len hashes bytes h = h
ends_so due.Length key len hashes bytes h = h
ends_so due.Body key len hashes bytes h = h

pub so_ends : (d : Due) (key : List ℕ) (len : ℕ) (hashes bytes : List ℕ) → IsEnd d bytes → SpellsEnd (stage_at d key len hashes) bytes
so_ends due.Head key len hashes bytes h = h
so_ends due.Item key len hashes bytes h = h
so_ends due.Length key len hashes bytes h = h
so_ends due.Body key len hashes bytes h = h

module _ (d : Due) (key : List ℕ) (len : ℕ) (hashes : List ℕ) (used : ℕ) where
  -- a bad front, whatever follows
  pub bad_no_part : (new rest : List ℕ) → front_at d (left_of len (length hashes)) used new ≡ Bad → NoPart (stage_at d key len hashes) used (new ++ rest)
  bad_no_part new rest bad =
      let left = left_of len (length hashes) in
      let still : front_at d left used (new ++ rest) ≡ Bad = front_stays d left used new rest (λ m. bad_is_more (sym bad ∙ m)) ∙ bad in
      record {
        part = λ p own more s e. past (used + length own) (λ fits.
            let f = part_found d key len hashes used p own more s fits in
            bad_is_whole f.len (sym still ∙ ap (front_at d left used) e ∙ f.found));
        ending = λ s. past (used + length (new ++ rest)) (λ fits. bad_is_more (sym still ∙ end_is_more d key len hashes left used (new ++ rest) s fits));
      }

  -- more is wanted, and there is no more
  pub cut_no_part : (new : List ℕ) → front_at d (left_of len (length hashes)) used new ≡ More → ¬ (IsEnd d new) → NoPart (stage_at d key len hashes) used new
  cut_no_part new more none =
      let left = left_of len (length hashes) in
      record {
        part = λ p own after s e. past (used + length own) (λ fits.
            let f = part_found d key len hashes used p own after s fits in
            more_is_whole f.len (sym more ∙ ap (front_at d left used) e ∙ f.found));
        ending = λ s. absurd (none (ends_so d key len hashes new s));
      }

  -- the bytes that are whole are those of no part
  pub whole_no_part : (new rest : List ℕ) (n : ℕ) → front_at d (left_of len (length hashes)) used new ≡ Whole n → lead_len d + n ≤ length new
      → ((p : Part) → ¬ (Spells (stage_at d key len hashes) p (take (lead_len d + n) new))) → NoPart (stage_at d key len hashes) used (new ++ rest)
  unfolding whole_len
  whole_no_part new rest n whole long none =
      let left = left_of len (length hashes) in
      let still : front_at d left used (new ++ rest) ≡ Whole n = front_stays d left used new rest (λ m. more_is_whole n (sym m ∙ whole)) ∙ whole in
      record {
        part = λ p own more s e. past (used + length own) (λ fits.
            let f = part_found d key len hashes used p own more s fits in
            let same : n ≡ f.len = ap whole_len (sym still ∙ ap (front_at d left used) e ∙ f.found) in
            let size : length own ≡ lead_len d + n = omega (arith, f.size, same) in
            let mine : take (lead_len d + n) new ≡ own = sym (take-append-le (lead_len d + n) new rest long) ∙ ap (take (lead_len d + n)) e ∙ take_at own more (lead_len d + n) size in
            none p (subst (Spells (stage_at d key len hashes) p) (sym mine) s));
        ending = λ s. past (used + length (new ++ rest)) (λ fits. more_is_whole n (sym (end_is_more d key len hashes left used (new ++ rest) s fits) ∙ still));
      }

every : (P : List ℕ → Type 0) (now : Option (List ℕ)) → ((rest : List ℕ) → P rest) → IfSome now P
every P None h = tt
every P (Some rest) h = h rest

at_end : (P : List ℕ → Type 0) (new : List ℕ) (now : Option (List ℕ)) → IsAtEnd now → P new → IfSome now (λ rest. P (new ++ rest))
at_end P new None over h = tt
at_end P new (Some rest) over h = subst P (sym (append-nil new) ∙ ap (λ l. new ++ l) (sym over)) h

-- ---- what a call gives, and why it gives nothing

-- bytes that were held and read are a part's and others: so it is with all that is left
told_rest : (held own rest piece : List ℕ) (left now : Option (List ℕ)) → Consumes left now piece → held ++ piece ≡ own ++ rest → Consumes (prepend_known held left) (prepend_known rest now) own
told_rest held own rest piece None now read e = tt
told_rest held own rest piece (Some xs) None read e = absurd read
told_rest held own rest piece (Some xs) (Some ys) read e =
    ap (λ l. held ++ l) read ∙ sym (append_assoc held piece ys) ∙ ap (λ l. l ++ ys) e ∙ append_assoc own rest ys

-- where a part is held, no more is wanted
pub none_wanted : (r : DumpReader) → HoldsPart r → ¬ (WantsMore r (held_in r))
none_wanted r h more =
    let f = part_found r.progress.due r.progress.key r.progress.len r.progress.hashes r.used h.part h.own h.more h.spelled h.fits in
    more_is_whole f.len (sym more ∙ ap (front_at r.progress.due (left_of r.progress.len (length r.progress.hashes)) r.used) h.held ∙ f.found)

-- the end of a dump keeps it within its length
item_short : (used : ℕ) → item_front used (0 ∷ []) ≡ More → used + 1 ≤ DUMP_MAX
item_short used more = go (ltb DUMP_MAX (used + 1)) refl (sym (item_some used 0 []) ∙ more)
  where
    go : (t : Bool) → ltb DUMP_MAX (used + 1) ≡ t → cond t Bad More ≡ More → used + 1 ≤ DUMP_MAX
    go true e m = absurd (bad_is_more m)
    go false e m = ltb-false DUMP_MAX (used + 1) e

end_short : (d : Due) (left used : ℕ) (bytes : List ℕ) → IsEnd d bytes → front_at d left used bytes ≡ More → used + length bytes ≤ DUMP_MAX
end_short due.Head left used bytes h more =
    let size : length bytes ≡ 9 = ap length h in
    let fits = item_short (used + 8) (sym (head_found used (0 ∷ [])) ∙ ap (head_front used) (sym h) ∙ more) in
    omega (arith, size, fits)
end_short due.Item left used bytes h more =
    let size : length bytes ≡ 1 = ap length h in
    let fits = item_short used (ap (item_front used) (sym h) ∙ more) in
    omega (arith, size, fits)
end_short due.Length left used bytes h more = absurd h
end_short due.Body left used bytes h more = absurd h

-- of a reader before a call, and the same one after it has read on
module _ (old mid : DumpReader) (left now : Option (List ℕ)) (same : mid.progress ≡ old.progress) (given : mid.given ≡ old.given) (used : mid.used ≡ old.used) (g : Grew (held_in old) (held_in mid) left now) where
  gives : (new : DumpReader) (end items : ℕ) (p : Part) → StandsWhole mid end → Spells (stage_in mid) p (take end (held_in mid)) → stage_in new ≡ after (stage_in mid) p (take end (held_in mid))
      → held_in new ≡ drop end (held_in mid) → given_in new ≡ given_in mid + items → used_in new ≡ used_in mid + end → Gives old new left now p items
  gives new end items p stands part stage held count size =
      let own : List ℕ = take end (held_in mid) in
      let due : stage_in mid ≡ stage_in old = ap stage_of same in
      let long : length own ≡ end = length-take-le end (held_in mid) stands.there in
      let spelled : held_in old ++ g.piece ≡ own ++ held_in new = sym g.grown ∙ sym (take-append-drop end (held_in mid)) ∙ ap (λ l. own ++ l) (sym held) in
      record {
        own = own;
        part = subst (λ (s : Stage). Spells s p own) due part;
        stage = stage ∙ ap (λ (s : Stage). after s p own) due;
        read = g.piece;
        taken = g.read;
        spelled = spelled;
        told = told_rest (held_in old) own (held_in new) g.piece left now g.read spelled;
        given = count ∙ ap (λ n. n + items) given;
        used = omega (arith, size, used, long);
        short = omega (arith, size, stands.fits);
      }

  pub leaves_taken : (new : DumpReader) (end : ℕ) (r : Result Item DumpFault) → StandsWhole mid end → IfOk r (Takes mid new end) → LeavesReader old new left now r
  leaves_taken new end (Ok (item.Key key)) stands t = gives new end 0 (Part.KeyPart key) stands t.part t.stage t.held t.given t.used
  leaves_taken new end (Ok (item.Piece bytes)) stands t = gives new end 0 (Part.PiecePart bytes) stands t.part t.stage t.held t.given t.used
  leaves_taken new end (Ok (item.Block meta)) stands t = gives new end 1 (Part.BlockPart (meta_of meta)) stands t.part t.stage t.held t.given t.used
  leaves_taken new end (Ok item.End) stands t = absurd t.part
  leaves_taken new end (Err fault) stands t = tt

  -- the rest of the dump begins with no part
  no_part_before : IfSome now (λ rest. NoPart (stage_in mid) (used_in mid) (held_in mid ++ rest)) → IfSome (rest_of old left) (NoPart (stage_in old) (used_in old))
  no_part_before h =
      subst (λ (n : ℕ). IfSome (rest_of old left) (NoPart (stage_in old) n)) used
      (subst (λ (s : Stage). IfSome (rest_of old left) (NoPart s (used_in mid))) (ap stage_of same) (of_rest (NoPart (stage_in mid) (used_in mid)) (held_in old) (held_in mid) left now g h))

  pub bad_taken : (n : ℕ) (r : Result Item DumpFault) → front_at mid.progress.due (left_of mid.progress.len (length mid.progress.hashes)) mid.used (held_in mid) ≡ Whole n
      → StandsWhole mid (lead_len mid.progress.due + n) → IfErr r (RefusesPart mid (lead_len mid.progress.due + n)) → IfErr r (Refuses old left)
  bad_taken n (Ok item) whole stands h = tt
  bad_taken n (Err (faults.Bad number)) whole stands h = (
    h.0 ∙ ap (λ n. n + 1) given,
    no_part_before (every _ now (λ rest. whole_no_part mid.progress.due mid.progress.key mid.progress.len mid.progress.hashes mid.used (held_in mid) rest n whole stands.there h.1)),
  )
  bad_taken n (Err faults.Source) whole stands h = absurd h
  bad_taken n (Err faults.Memory) whole stands h = tt

  pub stuck_bad : IsStuck mid.progress.due (left_of mid.progress.len (length mid.progress.hashes)) mid.used (held_in mid) now → IfSome (rest_of old left) (NoPart (stage_in old) (used_in old))
  stuck_bad (Shown bad) = no_part_before (every _ now (λ rest. bad_no_part mid.progress.due mid.progress.key mid.progress.len mid.progress.hashes mid.used (held_in mid) rest bad))
  stuck_bad (Cut more over none) =
      no_part_before (at_end (NoPart (stage_in mid) (used_in mid)) (held_in mid) now over (cut_no_part mid.progress.due mid.progress.key mid.progress.len mid.progress.hashes mid.used (held_in mid) more none))

  pub has_ended : front_at mid.progress.due (left_of mid.progress.len (length mid.progress.hashes)) mid.used (held_in mid) ≡ More → IsEnd mid.progress.due (held_in mid) → IsAtEnd now → Ends old left now
  has_ended more ends over = record {
    read = g.piece;
    taken = g.read;
    ending = subst (SpellsEnd (stage_in old)) g.grown (subst (λ (s : Stage). SpellsEnd s (held_in mid)) (ap stage_of same) (so_ends mid.progress.due mid.progress.key mid.progress.len mid.progress.hashes (held_in mid) ends));
    told = of_rest (λ bytes. bytes ≡ held_in old ++ g.piece) (held_in old) (held_in mid) left now g (at_end (λ bytes. bytes ≡ held_in old ++ g.piece) (held_in mid) now over g.grown);
    over = over;
    short = omega (arith, end_short mid.progress.due (left_of mid.progress.len (length mid.progress.hashes)) mid.used (held_in mid) ends more, used, ap length g.grown);
  }
