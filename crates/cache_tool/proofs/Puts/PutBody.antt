-- A body that is appended piece by piece.
use Rattle.std.proofs.Common.{◌≡◌, ◌≢◌, ◌⊎◌, inl, inr, ℕ, ◌+◌, ◌<◌, ◌≤◌, List, [], ◌++◌, length, take, length-take-le, Some, None, refl, sym, ap, subst, ◌∙◌, arith, length-append}
use Rattle.std.specs.Prelude.{Err, IsSome, Ok, Option, Result}
use Rattle.std.specs.Io.KnownBytes.{Consumes, IsAtEnd}
use Rattle.std.proofs.KnownBytes.{Consumes-nil, Consumes-trans}
use Rattle.std.proofs.lemmas.List.{append-nil}
use Rattle.cache_base.specs.Causes.{HasCause, Rose}
use Rattle.cache_base.specs.declared.limits.TheConstants.{BODY_MAX, PIECE_MAX}
use Rattle.cache_base.specs.declared.status.Status.{Status}
use Rattle.cache_base.specs.declared.status.Status.TheVariants as status
use Rattle.cache_theory.specs.Command.{Command}
use Rattle.cache_theory.specs.History.{History}
use Rattle.cache_theory.specs.Step.{after}
use Rattle.cache_store.specs.Open.{KeepsTo}
use Rattle.cache_store.specs.Session.{Session}
use Rattle.cache_replies.specs.declared.verdict.Verdict.{Verdict}
use Rattle.cache_replies.specs.declared.verdict.Verdict.TheVariants as outcome
use Rattle.cache_store.specs.declared.fault.StoreFault.{StoreFault}
use Rattle.cache_tool.specs.declared.piece.PieceEnd.{PieceEnd}
use Rattle.cache_tool.specs.declared.piece.PieceEnd.TheVariants as ended
use Rattle.cache_tool.specs.AnyDisk.{TakesAtMost}
use Rattle.cache_tool.specs.Right.{LeadTo}
use Rattle.cache_tool.specs.Put.{GivesPart, GivesWhole, appends}
use Rattle.cache_tool.specs.PutProgress.{AgreesWith, AppendsPiece, AppendsSoFar, AreSent, BodyIsAppended, BodyIsSent, BodyOf, IsWriting, all_unanswered, piece_commands}
use Rattle.cache_tool.specs.Statuses.{status_of}
use Rattle.cache_tool.specs.World.{Supply}
use Rattle.cache_tool.proofs.MarkLeft.{stays_mark, then_stays}
use Rattle.cache_tool.proofs.RightLaws.{leads_none, leads_on}
use Rattle.cache_tool.proofs.Puts.PutPieces.{leads_more, leads_step}
use Rattle.cache_tool.proofs.Puts.PutCommands.{done-append, sent_more, sent_same, sent_then, unanswered-append, until_all}

-- nothing was appended yet
pub so_far_none : (tells : Type 0) (left : Option (List ℕ)) (now : Session) → AppendsSoFar tells BODY_MAX left left now now
so_far_none tells left now = record {
  body = [];
  commands = [];
  read = Consumes-nil left;
  leads = λ rest. refl;
  room_is = omega arith;
  sent = λ told h keeps writes. record { stands = leads_none now h keeps; done = tt; writes = writes };
  mark = λ told. stays_mark refl;
}

-- commands that were performed where others were done
body_more : (h : History) (cs ds : List Command) (first body : List ℕ) (before mid now : Session) (said : List ℕ) → BodyIsSent first cs h before mid
    → AreSent ds (all_unanswered cs h) (Ok outcome.Ok) mid now said → IsWriting (after (after h.machine cs) ds) body → BodyIsSent body (cs ++ ds) h before now
body_more h cs ds first body before mid now said sent ran writes =
    let done = ran.done refl in
    let all = until_all (after h.machine cs) ds done in
    let same = unanswered-append cs ds h in
    record {
      stands = subst (λ x. LeadTo (cs ++ ds) before h.machine now x) (sym same)
          (leads_on cs ds before h.machine mid (all_unanswered cs h) now (all_unanswered ds (all_unanswered cs h)) refl sent.stands
          (subst (λ l. LeadTo l mid (after h.machine cs) now (all_unanswered l (all_unanswered cs h))) all ran.stands));
      done = done-append h.machine cs ds sent.done done;
      writes = subst (λ (x : History). IsWriting x.machine body) (sym same) writes;
    }

module _ (tells : Type 0) (room : ℕ) (left mid left_now : Option (List ℕ)) (before between now : Session) (piece : List ℕ) (said : List ℕ)
    (so : AppendsSoFar tells room left mid before between) (given : Consumes mid left_now piece) where
  -- a full piece more
  pub so_far_more : (less : ℕ) → length piece ≡ PIECE_MAX → less + length piece ≡ room → (tells → AppendsPiece piece room (Ok outcome.Ok) between now said)
      → AppendsSoFar tells less left left_now before now
  so_far_more less full left_over appends_piece = record {
    body = so.body ++ piece;
    commands = so.commands ++ piece_commands piece;
    read = Consumes-trans left mid left_now so.body piece so.read given;
    leads = leads_more so.body piece so.commands so.leads full;
    room_is = let is = so.room_is in let joined = length-append so.body piece in omega (arith, is, joined, left_over);
    sent = λ told h stands writes.
        let done = so.sent told h stands writes in
        let p = (appends_piece told).each (all_unanswered so.commands h) so.body done.stands.keeps done.writes so.room_is in
        body_more h so.commands (piece_commands piece) so.body (so.body ++ piece) before between now said done p.sent (p.writes refl);
    mark = λ told. then_stays before.disk between.disk now.disk (so.mark told) (appends_piece told).mark;
  }

-- What the source has after a piece.

-- the whole body, or what was given before the source failed
abbrev pub BodyBy : PieceEnd → Supply → Supply → List ℕ → Type 0
BodyBy ended.Full from to body = GivesWhole from to body
BodyBy ended.End from to body = GivesWhole from to body
BodyBy ended.Failed from to body = GivesPart from to body

pub record Ahead (from to : Supply) (how : PieceEnd) (body piece : List ℕ) : Type 0 where
  pub rest : List ℕ
  pub short : length piece < PIECE_MAX → rest ≡ []
  pub last : how ≢ ended.Full → rest ≡ []
  pub body_by : BodyBy how from to (body ++ (piece ++ rest))

whole_of : (left mid now : Option (List ℕ)) (body piece : List ℕ) → IsSome left → Consumes left mid body → Consumes mid now piece
    → (rest : List ℕ) × ((now ≡ Some rest) × (left ≡ Some (body ++ (piece ++ rest))))
whole_of None mid now body piece some first second = absurd (cc)
whole_of (Some xs) None now body piece some first second = absurd first
whole_of (Some xs) (Some ys) None body piece some first second = absurd second
whole_of (Some xs) (Some ys) (Some zs) body piece some first second = (zs, (refl, ap (λ l. Some l) (first ∙ ap (λ l. body ++ l) second)))

pub ahead : (from to : Supply) (mid : Option (List ℕ)) (how : PieceEnd) (body piece : List ℕ) → IsSome from.left → Consumes from.left mid body → Consumes mid to.left piece
    → (how ≡ ended.Full → length piece ≡ PIECE_MAX) → (how ≡ ended.End → IsAtEnd to.left) → (how ≡ ended.Failed → Rose from.faults to.faults)
    → (how ≢ ended.Failed → to.faults ≡ from.faults) → Ahead from to how body piece
ahead from to mid ended.Full body piece some first second full end fail calm =
    let whole = whole_of from.left mid to.left body piece some first second in
    let same = full refl in
    record {
      rest = whole.0;
      short = λ less. absurd (omega (arith, less, same));
      last = λ other. absurd (other refl);
      body_by = record { calm = calm (λ e. cc); whole = whole.1.1 };
    }
ahead from to mid ended.End body piece some first second full end fail calm =
    let whole = whole_of from.left mid to.left body piece some first second in
    let none : whole.0 ≡ [] = subst IsAtEnd whole.1.0 (end refl) in
    record {
      rest = [];
      short = λ less. refl;
      last = λ other. refl;
      body_by = record { calm = calm (λ e. cc); whole = whole.1.1 ∙ ap (λ l. Some (body ++ (piece ++ l))) none };
    }
ahead from to mid ended.Failed body piece some first second full end fail calm =
    record {
      rest = [];
      short = λ less. refl;
      last = λ other. refl;
      body_by = record {
        failed = fail refl;
        given = subst (λ l. Consumes from.left to.left (body ++ l)) (sym (append-nil piece)) (Consumes-trans from.left mid to.left body piece first second);
      };
    }

pub either_by : (how : PieceEnd) (from to : Supply) (body : List ℕ) → BodyBy how from to body → GivesWhole from to body ⊎ GivesPart from to body
either_by ended.Full from to body by = inl by
either_by ended.End from to body by = inl by
either_by ended.Failed from to body by = inr by

-- the commands of what is ahead, where no piece was refused only if nothing is
sent_ahead : (h : History) (cs ds : List Command) (answer : Result Verdict StoreFault) (before now : Session) (said : List ℕ) → (answer ≡ Ok outcome.Ok → ds ≡ [])
    → AreSent cs h answer before now said → AreSent (cs ++ ds) h answer before now said
sent_ahead h cs ds (Ok outcome.Ok) before now said none ran = sent_same h cs (cs ++ ds) (Ok outcome.Ok) before now said (sym (ap (λ l. cs ++ l) (none refl) ∙ append-nil cs)) ran
sent_ahead h cs ds (Ok outcome.Refused) before now said none ran = sent_more h cs ds (Ok outcome.Refused) before now said (λ e. absurd (cc)) ran
sent_ahead h cs ds (Err f) before now said none ran = sent_more h cs ds (Err f) before now said (λ e. absurd (cc)) ran

module _ (from to : Supply) {tells : Type 0} {room : ℕ} {mid : Option (List ℕ)} {before between now : Session} {piece said : List ℕ} {how : PieceEnd} {answer : Result Verdict StoreFault}
    (so : AppendsSoFar tells room from.left mid before between) (next : Ahead from to how so.body piece) (fits : length piece ≤ PIECE_MAX)
    (told : tells) (appends_piece : AppendsPiece piece room answer between now said) (h : History) (stands : KeepsTo before h) (writes : IsWriting h.machine []) where
  -- the last piece
  last_went : (came : Result Status StoreFault) → BodyOf came from to (so.body ++ (piece ++ next.rest)) → AgreesWith came answer
      → (answer ≡ Ok outcome.Ok → how ≢ ended.Full) → BodyIsAppended h from to came before now said
  last_went came body_of by none =
      let done = so.sent told h stands writes in
      let p = appends_piece.each (all_unanswered so.commands h) so.body done.stands.keeps done.writes so.room_is in
      record {
        body = so.body ++ (piece ++ next.rest);
        body_of = body_of;
        answer = answer;
        sent = sent_same h _ _ answer before now said (sym (leads_step so.body piece so.commands so.leads next.rest fits next.short))
            (sent_then h so.commands (piece_commands piece ++ appends next.rest) answer before between now said done.done done.stands
            (sent_ahead (all_unanswered so.commands h) (piece_commands piece) (appends next.rest) answer between now said (λ e. ap appends (next.last (none e))) p.sent));
        same = by;
      }

  -- with a fault of the disk, or out of memory
  pub last_failed : (f : StoreFault) → answer ≡ Err f → BodyIsAppended h from to (Err f) before now said
  last_failed f is = last_went (Err f) (either_by how from to _ next.body_by) is (λ e. absurd (cc))

  -- with a source that failed
  pub last_broken : (o : Verdict) → answer ≡ Ok o → how ≡ ended.Failed → BodyIsAppended h from to (Ok status.Source) before now said
  last_broken o is broken =
      last_went (Ok status.Source) (subst (λ x. BodyBy x from to (so.body ++ (piece ++ next.rest))) broken next.body_by) (o, is) (λ e full. absurd (cc))

  -- with a source that is at its end
  pub last_ended : (o : Verdict) → answer ≡ Ok o → how ≡ ended.End → BodyIsAppended h from to (Ok (status_of o)) before now said
  last_ended outcome.Ok is end =
      last_went (Ok status.Done) (subst (λ x. BodyBy x from to (so.body ++ (piece ++ next.rest))) end next.body_by) is (λ e full. absurd (cc))
  last_ended outcome.Refused is end =
      last_went (Ok status.No) (subst (λ x. BodyBy x from to (so.body ++ (piece ++ next.rest))) end next.body_by) is (λ e full. absurd (cc))

  -- with a full piece that is refused
  pub last_refused : answer ≡ Ok outcome.Refused → how ≡ ended.Full → BodyIsAppended h from to (Ok status.No) before now said
  last_refused is full =
      last_went (Ok status.No) (subst (λ x. BodyBy x from to (so.body ++ (piece ++ next.rest))) full next.body_by) is (λ e. absurd (cc))

-- What the filling of a piece says.

module _ (count : ℕ) (bytes : List ℕ) (within : count ≤ length bytes) (size : length bytes ≡ PIECE_MAX) where
  pub filled_length : length (take count bytes) ≡ count
  filled_length = length-take-le count bytes within

  pub filled_fits : length (take count bytes) ≤ PIECE_MAX
  filled_fits = let len = filled_length in omega (arith, len, within, size)

  pub filled_full : count ≡ length bytes → length (take count bytes) ≡ PIECE_MAX
  filled_full same = let len = filled_length in omega (arith, len, same, size)

pub filled_ahead : {left mid : Option (List ℕ)} {tells : Type 0} {room : ℕ} {old new : Session} (so : AppendsSoFar tells room left mid old new)
    (left_now : Option (List ℕ)) (before between later : ℕ) (how : PieceEnd) (count : ℕ) (bytes : List ℕ) → count ≤ length bytes → length bytes ≡ PIECE_MAX
    → IsSome left → Consumes mid left_now (take count bytes) → (how ≡ ended.Full → count ≡ length bytes) → (how ≡ ended.End → IsAtEnd left_now)
    → between ≡ before → HasCause (how ≡ ended.Failed) between later
    → Ahead (record { left = left; faults = before }) (record { left = left_now; faults = later }) how so.body (take count bytes)
filled_ahead {left} {mid} so left_now before between later how count bytes within size some given full end same cause =
    ahead (record { left = left; faults = before }) (record { left = left_now; faults = later }) mid how so.body (take count bytes) some so.read given
    (λ is. filled_full count bytes within size (full is)) end (λ is. subst (λ n. Rose n later) same (cause.rose is)) (λ other. cause.kept other ∙ same)

-- How much of the source was taken with one piece more.

module _ {tells : Type 0} {room : ℕ} {left mid : Option (List ℕ)} {before between : Session} (so : AppendsSoFar tells room left mid before between)
    (now : Option (List ℕ)) (piece : List ℕ) (given : Consumes mid now piece) where
  pub takes_at_most : length piece ≤ PIECE_MAX → TakesAtMost (BODY_MAX + PIECE_MAX) left now
  takes_at_most fits =
      let is = so.room_is in
      let joined = length-append so.body piece in
      (so.body ++ piece, (Consumes-trans left mid now so.body piece so.read given, omega (arith, is, joined, fits)))

-- a status by an outcome is `No` for a refusal alone
pub no_is_refused : (o : Verdict) (came : Status) → came ≡ status_of o → ◌≡◌ {A = Result Status StoreFault} (Ok came) (Ok status.No) → o ≡ outcome.Refused
no_is_refused outcome.Ok came is said = absurd (let one : came ≡ status.No = cc in let never : status.Done ≡ status.No = sym is ∙ one in cc)
no_is_refused outcome.Refused came is said = refl
