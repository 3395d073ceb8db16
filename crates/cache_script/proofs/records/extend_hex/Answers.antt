use Rattle.std.proofs.Common.{◌≡◌, ◌∙◌, ◌++◌, Result, Ok, Err, false, List, ℕ, ap, subst, sym}
use Rattle.std.specs.Prelude.{OnOk, is_err, map}
use Rattle.std.specs.Char.{to_ascii_uppercase}
use Rattle.cache_base.specs.Bytes.{AreBytes}
use Rattle.cache_script.proofs.HexCase.{capitals}
use Rattle.cache_script.proofs.records.extend_hex.Goals as goal

-- what holds of an answer that is no error
of_answer : {T E : Type 0} (r : Result T E) (P : Type 0) → is_err r ≡ false → OnOk r P → P
of_answer (Ok x) P e h = h
of_answer (Err x) P e h = absurd (cc)

pub returns : goal.returns
returns c = λ d.
    let written = of_answer d.encode_to_slice.result _ (sym d.is_err.ensures.value ∙ d.if-is_err.false) d.encode_to_slice.ensures.written in
    subst (λ (digits : List ℕ). OnOk d.extend.result (d.extend.new.self ≡ d.args.line.now ++ digits))
    (d.make_ascii_uppercase.ensures.after ∙ ap (map to_ascii_uppercase) written ∙ capitals d.args.bytes (subst AreBytes d.as_slice.ensures d.bytes_fit.ensures)) d.extend.ensures.ok
