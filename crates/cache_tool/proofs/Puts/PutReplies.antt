-- One command of a put, whose reply is held.
use Rattle.std.proofs.Common.{◌≡◌, ◌≢◌, ℕ, ◌<◌, ◌+◌, List, [], ◌∷◌, ◌++◌, length, Some, refl, sym, ap, subst, ◌∙◌, arith}
use Rattle.std.specs.Prelude.{Bool, Err, Ok, OnOk, Result, false, true, ◌==◌}
use Rattle.std.proofs.lemmas.Bool.{eqb-true}
use Rattle.std.proofs.lemmas.List.{nil_from_length}
use Rattle.cache_base.specs.declared.limits.TheConstants.{BODY_MAX}
use Rattle.cache_store.specs.Open.{KeepsTo, Tells}
use Rattle.cache_store.specs.Performing.{ComesToTell, HadEffect, KeepsHistory, Performs, goes_by_records}
use Rattle.cache_store.specs.Session.{Session}
use Rattle.cache_replies.specs.declared.verdict.Verdict.{Verdict}
use Rattle.cache_replies.specs.declared.verdict.Verdict.TheVariants as outcome
use Rattle.cache_store.specs.declared.fault.StoreFault.{StoreFault}
use Rattle.cache_theory.specs.Command.{Command}
use Rattle.cache_theory.specs.Command.Command.{Append}
use Rattle.cache_theory.specs.History.{History, acked}
use Rattle.cache_theory.specs.Step.{step}
use Rattle.cache_theory.specs.Text.{reply_text}
use Rattle.cache_tool.specs.AnyDisk.{too_large_line}
use Rattle.cache_tool.specs.MarkLeft.{KeepsMark}
use Rattle.cache_tool.specs.PutProgress.{IsSent, IsWriting, PieceIsSent, SendsCommand}
use Rattle.cache_tool.specs.Right.{LeadTo}
use Rattle.cache_tool.specs.Staying.{StaysOnce}
use Rattle.cache_tool.proofs.DoneLaws.{done_itself}
use Rattle.cache_tool.proofs.MarkLeft.{bare_keeps}
use Rattle.cache_tool.proofs.Puts.PutMachine.{piece_none, piece_over, piece_sent, piece_too_large}
use Rattle.cache_tool.proofs.RightLaws.{leads_one}

-- what went out to a sink that held nothing is what it holds
pub sends_of : (c : Command) (h : History) (answer : Result Verdict StoreFault) (first now : Session) (before said : List ℕ) → before ≡ []
    → Performs c h.machine answer first now (Some before) (Some said) → KeepsHistory c h answer now → (HadEffect answer → StaysOnce c first h.machine now) → IsSent c h answer first now said
sends_of c h answer first now before said none p kept stays = record {
  safe = kept.safe;
  next = leads answer kept.next p.tells stays;
  outcome = p.outcome;
  replied = held answer p.printed;
}
  where
    leads : (a : Result Verdict StoreFault) → OnOk a (KeepsTo now (acked c h)) → (HadEffect a → ComesToTell c first h.machine → Tells now (step h.machine c).next)
        → (HadEffect a → StaysOnce c first h.machine now) → OnOk a (LeadTo (c ∷ []) first h.machine now (acked c h))
    leads (Ok r) keeps tells on = leads_one c first h.machine now (acked c h) keeps (tells tt) (on tt)
    leads (Err f) keeps tells on = tt

    held : (a : Result Verdict StoreFault) → OnOk a (said ≡ before ++ reply_text (step h.machine c).reply) → OnOk a (said ≡ reply_text (step h.machine c).reply)
    held (Ok r) is = is ∙ ap (λ l. l ++ reply_text (step h.machine c).reply) none
    held (Err f) is = tt

-- a command whose reply does not go by the records is done itself
pub sent_itself : (c : Command) (answer : Result Verdict StoreFault) (before now : Session) (said : List ℕ) → goes_by_records c ≡ false → SendsCommand c answer before now said
    → (h : History) → KeepsTo before h → IsSent c h answer before now said
sent_itself c answer before now said bare sends h keeps =
    let does = sends.each h keeps in
    subst (λ d. IsSent d h answer before now said) (done_itself (Tells before h.machine) c h.machine does.0 bare does.1.0) does.1.1

-- and the place of the mark is left alone by a command that is none of a clearing
pub sent_keeps : (c : Command) (answer : Result Verdict StoreFault) (before now : Session) (said : List ℕ) → goes_by_records c ≡ false → SendsCommand c answer before now said → KeepsMark before.disk now.disk
sent_keeps c answer before now said bare sends = bare_keeps c before.disk now.disk bare sends.mark

-- an empty piece
pub empty_went : (h : History) (body piece : List ℕ) (now : Session) (said : List ℕ) → piece ≡ [] → KeepsTo now h → IsWriting h.machine body
    → PieceIsSent body piece h (Ok outcome.Ok) now now said
empty_went h body piece now said empty stands writes = subst (λ p. PieceIsSent body p h (Ok outcome.Ok) now now said) (sym empty) (piece_none h body now said stands writes)

-- another one
pub piece_went : (h : History) (body piece : List ℕ) (answer : Result Verdict StoreFault) (before now : Session) (said : List ℕ) → piece ≢ []
    → IsWriting h.machine body → IsSent (Append 0 piece) h answer before now said → PieceIsSent body piece h answer before now said
piece_went h body [] answer before now said some writes sends = absurd (some refl)
piece_went h body (x ∷ xs) answer before now said some writes sends = piece_sent h body x xs answer before now said writes sends

-- one for which there is no room, after which the refusal is held
pub over_went : (h : History) (body piece : List ℕ) (room : ℕ) (r : Verdict) (before now : Session) (said held : List ℕ) → piece ≢ [] → room < length piece
    → room + length body ≡ BODY_MAX → IsWriting h.machine body → held ≡ too_large_line → IsSent (Append 0 piece) h (Ok r) before now said
    → PieceIsSent body piece h (Ok outcome.Refused) before now held
over_went h body piece room r before now said held some long is writes line sends =
    let over : BODY_MAX < length body + length piece = omega (arith, long, is) in
    let refused = piece_over h body piece r before now said writes over sends in
    let told : said ≡ held = sends.replied ∙ piece_too_large h.machine body piece writes over ∙ sym line in
    subst (λ text. PieceIsSent body piece h (Ok outcome.Refused) before now text) told
    (subst (λ x. PieceIsSent body piece h (Ok x) before now said) refused (piece_went h body piece (Ok r) before now said some writes sends))

-- and one after which memory runs out before the refusal is held
pub unsaid_went : (h : History) (body piece : List ℕ) (answer : Result Verdict StoreFault) (f : StoreFault) (before now : Session) (said held : List ℕ) → piece ≢ []
    → IsWriting h.machine body → IsSent (Append 0 piece) h answer before now said → PieceIsSent body piece h (Err f) before now held
unsaid_went h body piece answer f before now said held some writes sends = piece_went h body piece (Err f) before now held some writes (record {
  safe = sends.safe;
  next = tt;
  outcome = tt;
  replied = tt;
})

-- whether a piece is empty
pub is_empty_of : (piece : List ℕ) (b : Bool) → b ≡ (length piece == 0) → b ≡ true → piece ≡ []
is_empty_of piece b is yes_empty = nil_from_length piece (eqb-true (length piece) 0 (sym is ∙ yes_empty))

pub not_empty_of : (piece : List ℕ) (b : Bool) → b ≡ (length piece == 0) → b ≡ false → piece ≢ []
not_empty_of piece b is not_empty none = let e : true ≡ false = ap (λ (p : List ℕ). length p == 0) (sym none) ∙ sym is ∙ not_empty in absurd (cc)
