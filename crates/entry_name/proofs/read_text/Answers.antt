use Rattle.std.proofs.Common.{◌≡◌, Some, sym, subst, ◌∙◌}
use Rattle.std.proofs.lemmas.List.Sums.{list_all-from_AllPass}
use Rattle.entry_name.specs.EntryName.{is_upper_digit, IsTextOf}
use Rattle.entry_name.proofs.Spelling.{decodes, decoded, decodes_back, digits_alone}
use Rattle.entry_name.proofs.read_text.Goals as goal

pub returns-then-not-has_upper_digits-clause-name : goal.returns-then-not-has_upper_digits-clause-name
returns-then-not-has_upper_digits-clause-name c = λ name. (
  λ e. cc e,
  λ is.
      cc (c.has_upper_digits.ensures, c.if-not-has_upper_digits.true, digits_alone name.0 c.args.text.now is),
)

pub returns-then-not-has_upper_digits-clause-digits : goal.returns-then-not-has_upper_digits-clause-digits
returns-then-not-has_upper_digits-clause-digits c = (
  λ e. cc e,
  λ is.
      cc (c.has_upper_digits.ensures, c.if-not-has_upper_digits.true, list_all-from_AllPass is_upper_digit c.args.text.now is.digits),
)

pub returns-in-Ok-clause-name : goal.returns-in-Ok-clause-name
returns-in-Ok-clause-name c = λ name.
    let digits = sym c.has_upper_digits.ensures ∙ c.if-not-has_upper_digits.false in
    let is = decoded c.args.text.now c.in-Ok.bytes digits (sym c.from_hex.ensures ∙ c.in-Ok.is) in (
      λ e. let same : c.in-Ok.bytes ≡ name.0 = cc in subst (λ bytes. IsTextOf bytes c.args.text.now) same is,
      λ of.
          let again = decodes_back name.0 c.args.text.now of in
          let same : c.in-Ok.bytes ≡ name.0 = cc in
          λ i. Some (record { 0 = same i }),
    )

pub returns-in-Err-clause-name : goal.returns-in-Err-clause-name
returns-in-Err-clause-name c = λ name. (
  λ e. cc e,
  λ of. cc (sym c.in-Err.is ∙ c.from_hex.ensures ∙ decodes_back name.0 c.args.text.now of),
)

pub returns-in-Err-clause-digits : goal.returns-in-Err-clause-digits
returns-in-Err-clause-digits c = (
  λ e. cc e,
  λ is.
      let d = decodes c.args.text.now (list_all-from_AllPass is_upper_digit c.args.text.now is.digits) is.long in
      cc (sym c.in-Err.is ∙ c.from_hex.ensures ∙ d.1),
)
