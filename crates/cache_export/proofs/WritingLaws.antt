-- Bytes that go out in pieces.
use Rattle.std.proofs.Common.{◌≡◌, ℕ, ◌+◌, ◌<◌, List, ◌∷◌, ◌++◌, length, take, Option, Result, Ok, Err, sym, ap, ◌∙◌, subst, arith}
use Rattle.std.specs.Prelude.{OnOk, OnErr}
use Rattle.std.specs.Io.KnownBytes.{Appends}
use Rattle.std.proofs.KnownBytes.{Appends-nil, Appends-trans}
use Rattle.std.proofs.lemmas.List.{length-append, take-append-le}
use Rattle.std.proofs.Math.Seq.{take-append-add}
use Rattle.cache_base.specs.Bytes.{be32}
use Rattle.cache_export.specs.Dump.{back_bytes, front_bytes}
use Rattle.cache_export.specs.Writing.{Cut, GoesOut}

pub no_cut : (was : Option (List ℕ)) (bytes : List ℕ) → 0 < length bytes → Cut was was bytes
no_cut was bytes some = (0, some, Appends-nil was)

pub first_cut : (s t : Option (List ℕ)) (whole a b : List ℕ) → whole ≡ a ++ b → Cut s t a → Cut s t whole
first_cut s t whole a b e h =
    subst (Cut s t) (sym e) (h.0, omega (arith, h.1, length-append a b), subst (Appends s t) (sym (take-append-le h.0 a b (omega (arith, h.1)))) h.2)

pub next_cut : (s t u : Option (List ℕ)) (whole a b : List ℕ) → whole ≡ a ++ b → Appends s t a → Cut t u b → Cut s u whole
next_cut s t u whole a b e p h =
    subst (Cut s u) (sym e) (length a + h.0, omega (arith, h.1, length-append a b), subst (Appends s u) (sym (take-append-add a b h.0)) (Appends-trans s t u a (take h.0 b) p h.2))

pub both_out : (s t u : Option (List ℕ)) (whole a b : List ℕ) → whole ≡ a ++ b → Appends s t a → Appends t u b → Appends s u whole
both_out s t u whole a b e p q = subst (Appends s u) (sym e) (Appends-trans s t u a b p q)

-- the first bytes are out, and the answer of the last call tells of the others
pub last_out : {X E : Type 0} (r : Result X E) (s t u : Option (List ℕ)) (whole a b : List ℕ) → whole ≡ a ++ b → Appends s t a → OnOk r (Appends t u b) → OnErr r (Cut t u b) → GoesOut r s u whole
last_out (Ok x) s t u whole a b e p all part = both_out s t u whole a b e p all
last_out (Err f) s t u whole a b e p all part = next_cut s t u whole a b e p part

pub front_cut : (key lead last : List ℕ) (len : ℕ) → lead ≡ 1 ∷ be32 (length key) → last ≡ be32 len → front_bytes key len ≡ lead ++ (key ++ last)
unfolding front_bytes
front_cut key lead last len e k = sym (ap (λ l. l ++ (key ++ last)) e ∙ ap (λ l. 1 ∷ (be32 (length key) ++ (key ++ l))) k)

pub back_cut : (block lead last : List ℕ) → lead ≡ be32 (length block) → last ≡ block → back_bytes block ≡ lead ++ last
unfolding back_bytes
back_cut block lead last e k = sym (ap (λ l. l ++ last) e ∙ ap (λ l. be32 (length block) ++ l) k)

pub back_some : (block : List ℕ) → 0 < length (back_bytes block)
unfolding back_bytes
back_some block = omega arith
