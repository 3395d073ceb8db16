-- The pieces of a body, one after the other.
use Rattle.std.proofs.Common.{◌≡◌, inl, inr, ℕ, zero, suc, ◌<◌, ◌≤◌, List, [], ◌∷◌, ◌++◌, length, map, take, drop, refl, sym, ap, ◌∙◌, arith, append_assoc, length-append, length-drop}
use Rattle.std.proofs.lemmas.Bool.{cases_lt}
use Rattle.std.proofs.lemmas.List.{append-nil, take_all}
use Rattle.std.proofs.Math.ListN.{drop_of_length-le}
use Rattle.std.proofs.Math.Seq.{take-append_seam, drop-append_seam}
use Rattle.cache_base.specs.declared.limits.TheConstants.{PIECE_MAX}
use Rattle.cache_theory.specs.Command.{Command}
use Rattle.cache_theory.specs.Command.Command.{Append}
use Rattle.cache_tool.specs.Pieces.{pieces_of}
use Rattle.cache_tool.specs.Put.{appends}
use Rattle.cache_tool.specs.PutProgress.{piece_commands}

-- with fuel enough it does not matter how much there is
pieces_fuel : (size : ℕ) → 0 < size → (f g : ℕ) (xs : List ℕ) → length xs ≤ f → length xs ≤ g → pieces_of size f xs ≡ pieces_of size g xs
pieces_fuel size some zero zero xs first second = refl
pieces_fuel size some zero (suc g) [] first second = refl
pieces_fuel size some zero (suc g) (x ∷ xs) first second = absurd (omega arith)
pieces_fuel size some (suc f) zero [] first second = refl
pieces_fuel size some (suc f) zero (x ∷ xs) first second = absurd (omega arith)
pieces_fuel size some (suc f) (suc g) [] first second = refl
pieces_fuel size some (suc f) (suc g) (x ∷ xs) first second =
    let rest = length-drop size (x ∷ xs) in
    ap (λ l. take size (x ∷ xs) ∷ l) (pieces_fuel size some f g (drop size (x ∷ xs)) (omega (arith, rest, first, some)) (omega (arith, rest, second, some)))

-- a piece, and what comes after it: a piece that is not full is the last
module _ (size : ℕ) (piece rest : List ℕ) (fits : length piece ≤ size) (short : length piece < size → rest ≡ []) where
  front_is : take size (piece ++ rest) ≡ piece
  front_is = elim (cases_lt (length piece) size) [
    | inl less ↦ ap (λ l. take size (piece ++ l)) (short less) ∙ ap (take size) (append-nil piece) ∙ take_all size piece fits
    | inr full ↦ let same : size ≡ length piece = omega (arith, full, fits) in ap (λ n. take n (piece ++ rest)) same ∙ take-append_seam piece rest
  ]

  rest_is : drop size (piece ++ rest) ≡ rest
  rest_is = elim (cases_lt (length piece) size) [
    | inl less ↦ ap (λ l. drop size (piece ++ l)) (short less) ∙ ap (drop size) (append-nil piece) ∙ drop_of_length-le piece fits ∙ sym (short less)
    | inr full ↦ let same : size ≡ length piece = omega (arith, full, fits) in ap (λ n. drop n (piece ++ rest)) same ∙ drop-append_seam piece rest
  ]

pieces_step : (size x : ℕ) (xs rest : List ℕ) → 0 < size → length (x ∷ xs) ≤ size → (length (x ∷ xs) < size → rest ≡ [])
    → pieces_of size (length ((x ∷ xs) ++ rest)) ((x ∷ xs) ++ rest) ≡ (x ∷ xs) ∷ pieces_of size (length rest) rest
pieces_step size x xs rest some fits short =
    let joined = length-append xs rest in
    ap (λ l. l ∷ pieces_of size (length (xs ++ rest)) (drop size (x ∷ (xs ++ rest)))) (front_is size (x ∷ xs) rest fits short)
    ∙ ap (λ l. (x ∷ xs) ∷ pieces_of size (length (xs ++ rest)) l) (rest_is size (x ∷ xs) rest fits short)
    ∙ ap (λ l. (x ∷ xs) ∷ l) (pieces_fuel size some (length (xs ++ rest)) (length rest) rest (omega (arith, joined)) (omega arith))

-- the commands of a body that begins with a piece
abbrev commands_of : ℕ → List ℕ → List Command
commands_of size body = map (λ piece. Append 0 piece) (pieces_of size (length body) body)

commands_step : (size : ℕ) (piece rest : List ℕ) → 0 < size → length piece ≤ size → (length piece < size → rest ≡ [])
    → commands_of size (piece ++ rest) ≡ piece_commands piece ++ commands_of size rest
commands_step size [] rest some fits short = refl
commands_step size (x ∷ xs) rest some fits short = ap (map (λ piece. Append 0 piece)) (pieces_step size x xs rest some fits short)

pub appends_step : (piece rest : List ℕ) → length piece ≤ PIECE_MAX → (length piece < PIECE_MAX → rest ≡ []) → appends (piece ++ rest) ≡ piece_commands piece ++ appends rest
appends_step piece rest fits short = commands_step PIECE_MAX piece rest (omega arith) fits short

-- after commands that lead so far
pub leads_step : (body piece : List ℕ) (cs : List Command) → ((rest : List ℕ) → appends (body ++ rest) ≡ cs ++ appends rest)
    → (rest : List ℕ) → length piece ≤ PIECE_MAX → (length piece < PIECE_MAX → rest ≡ []) → appends (body ++ (piece ++ rest)) ≡ cs ++ (piece_commands piece ++ appends rest)
leads_step body piece cs leads rest fits short = leads (piece ++ rest) ∙ ap (λ l. cs ++ l) (appends_step piece rest fits short)

pub leads_more : (body piece : List ℕ) (cs : List Command) → ((rest : List ℕ) → appends (body ++ rest) ≡ cs ++ appends rest) → length piece ≡ PIECE_MAX
    → (rest : List ℕ) → appends ((body ++ piece) ++ rest) ≡ (cs ++ piece_commands piece) ++ appends rest
leads_more body piece cs leads full rest =
    ap appends (append_assoc body piece rest) ∙ leads_step body piece cs leads rest (omega (arith, full)) (λ less. absurd (omega (arith, less, full)))
    ∙ sym (append_assoc cs (piece_commands piece) (appends rest))
