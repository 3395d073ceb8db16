-- How paths begin, and that no two places have one path.
use Rattle.std.proofs.Common.{arith, ◌≡◌, ◌≢◌, ◌==◌, ◌<◌, drop, slice_index, Result, Ok, Err, ◌-◌, ℕ, List, [], ◌∷◌, ◌++◌, length, take, false, inl, inr, ap, ◌∙◌, sym, Some, None, refl}
use Rattle.std.specs.Str.Pattern.{CutsSuffixes, FindsTextSuffix, IsFullyTrimmed, IsTrimEndMatches}
use Rattle.std.proofs.lemmas.Bool.{eqb-false}
use Rattle.std.proofs.lemmas.Bool.Decides.{eqb_tells}
use Rattle.std.specs.Prelude.{if◌then◌else◌}
use Rattle.std.specs.Prelude.{decimal}
use Rattle.std.proofs.lemmas.Fmt.{decimal_injective}
use Rattle.std.proofs.lemmas.List.{append_cancel_left}
use Rattle.hex.specs.Hex.{IsBytes, encode_upper, decode_of}
use Rattle.hex.specs.declared.error.FromHexError.{FromHexError}
use Rattle.hex.proofs.HexLemmas.{decode_of-encode_upper}
use Rattle.disk_theory.specs.declared.place.Place.{Place}
use Rattle.disk_theory.specs.declared.place.Place.TheVariants.{Entry, Doomed as InDoomed, Index, Log, Tmp, Clear}
use Rattle.folder_paths.specs.declared.numbers.Folders.{Folders}
use Rattle.folder_paths.specs.Numbers.{folder_numbers, named}
use Rattle.folder_paths.specs.Paths.{before_trimmed, trimmed, base_text, name_of, HasName, IsPathOf}
use Rattle.folder_paths.proofs.NumberLaws.{named_apart}

abbrev slash : List ℕ
slash = 47 ∷ []

trimmed_slash : (text : List ℕ) → trimmed (text ++ slash) ≡ trimmed text
trimmed_slash [] = refl
trimmed_slash (byte ∷ rest) = ap (before_trimmed byte) (trimmed_slash rest)

trimmed_same : (text : List ℕ) → ((front : List ℕ) → text ≢ front ++ slash) → trimmed text ≡ text
trimmed_same [] ends = refl
trimmed_same (byte ∷ []) ends = elim (eqb_tells byte 47) [
  | inl same ↦ absurd (ends [] (ap (λ b. b ∷ []) same.1))
  | inr apart ↦ ap (λ b. if b then [] else byte ∷ []) apart.0
]
trimmed_same (byte ∷ next ∷ rest) ends =
    ap (before_trimmed byte) (trimmed_same (next ∷ rest) (λ front is. ends (byte ∷ front) (ap (λ text. byte ∷ text) is)))

trimmed_cut : (ns text base : List ℕ) → CutsSuffixes (FindsTextSuffix slash) text ns base → trimmed text ≡ trimmed base
trimmed_cut [] text base same = ap trimmed (sym same)
trimmed_cut (n ∷ ns) text base (m, cut, found, is) =
    trimmed_cut ns text m cut ∙ ap trimmed found.1 ∙ trimmed_slash (take (length m - n) m) ∙ ap trimmed (sym is)

no_slash : (base : List ℕ) → IsFullyTrimmed (FindsTextSuffix slash) base → (front : List ℕ) → base ≢ front ++ slash
no_slash base (None, lacks, none) = lacks
no_slash base (Some n, found, zero) = λ front is. omega (arith, found.0, zero)

-- what is left once each slash is cut off the end
pub cut_is_trimmed : (text base : List ℕ) → IsTrimEndMatches (FindsTextSuffix slash) text base → base ≡ trimmed text
cut_is_trimmed text base ((ns, cut), full) = sym (trimmed_cut ns text base cut ∙ trimmed_same base (no_slash base full))

pub base_is : (dir base : List ℕ) → false ≡ (length dir == 0) → IsTrimEndMatches (FindsTextSuffix slash) dir base → base ≡ base_text dir
base_is [] base empty cut = absurd cc
base_is (byte ∷ rest) base empty cut = cut_is_trimmed (byte ∷ rest) base cut

abbrev digest_of : Result (List ℕ) FromHexError → List ℕ
digest_of (Ok digest) = digest
digest_of (Err error) = []

digests_apart : (a b : List ℕ) → IsBytes a → IsBytes b → encode_upper a ≡ encode_upper b → a ≡ b
digests_apart a b one other same = ap digest_of (sym (decode_of-encode_upper a one) ∙ ap decode_of same ∙ decode_of-encode_upper b other)

numbers_apart : (folders : List ℕ) (a b : ℕ) → named folders a < 4294967296 → named folders b < 4294967296 → decimal (named folders a) ≡ decimal (named folders b) → a ≡ b
numbers_apart folders a b one other same =
    named_apart folders a b (decimal_injective (named folders a) (named folders b) (omega (arith, one)) (omega (arith, other)) same)

-- texts with different bytes at one place are two
clash : (at m n : ℕ) (a b : List ℕ) → slice_index a at ≡ m → slice_index b at ≡ n → (m == n) ≡ false → a ≡ b → ⊥
clash at m n a b is_a is_b apart same = eqb-false m n apart (sym is_a ∙ ap (λ text. slice_index text at) same ∙ is_b)

-- no two places have one name
names_apart : (numbers : Folders) (a b : Place) → HasName numbers a → HasName numbers b → name_of numbers a ≡ name_of numbers b → a ≡ b
names_apart numbers (Entry a) (Entry b) one other same = ap (λ (digest : List ℕ). Entry (record { 0 = digest })) (digests_apart a.0 b.0 one other (ap (drop 8) same))
names_apart numbers (Entry a) (InDoomed b) one other same = absurd (clash 0 101 100 _ _ refl refl refl same)
names_apart numbers (Entry a) Index one other same = absurd (clash 0 101 105 _ _ refl refl refl same)
names_apart numbers (Entry a) Log one other same = absurd (clash 0 101 105 _ _ refl refl refl same)
names_apart numbers (Entry a) Tmp one other same = absurd (clash 0 101 105 _ _ refl refl refl same)
names_apart numbers (Entry a) Clear one other same = absurd (clash 0 101 99 _ _ refl refl refl same)
names_apart numbers (InDoomed a) (Entry b) one other same = absurd (clash 0 100 101 _ _ refl refl refl same)
names_apart numbers (InDoomed a) (InDoomed b) one other same = ap InDoomed (numbers_apart (folder_numbers numbers) a b one other (ap (drop 7) same))
names_apart numbers (InDoomed a) Index one other same = absurd (clash 0 100 105 _ _ refl refl refl same)
names_apart numbers (InDoomed a) Log one other same = absurd (clash 0 100 105 _ _ refl refl refl same)
names_apart numbers (InDoomed a) Tmp one other same = absurd (clash 0 100 105 _ _ refl refl refl same)
names_apart numbers (InDoomed a) Clear one other same = absurd (clash 0 100 99 _ _ refl refl refl same)
names_apart numbers Index (Entry b) one other same = absurd (clash 0 105 101 _ _ refl refl refl same)
names_apart numbers Index (InDoomed b) one other same = absurd (clash 0 105 100 _ _ refl refl refl same)
names_apart numbers Index Index one other same = refl
names_apart numbers Index Log one other same = absurd (clash 6 0 108 _ _ refl refl refl same)
names_apart numbers Index Tmp one other same = absurd (clash 6 0 116 _ _ refl refl refl same)
names_apart numbers Index Clear one other same = absurd (clash 0 105 99 _ _ refl refl refl same)
names_apart numbers Log (Entry b) one other same = absurd (clash 0 105 101 _ _ refl refl refl same)
names_apart numbers Log (InDoomed b) one other same = absurd (clash 0 105 100 _ _ refl refl refl same)
names_apart numbers Log Index one other same = absurd (clash 6 108 0 _ _ refl refl refl same)
names_apart numbers Log Log one other same = refl
names_apart numbers Log Tmp one other same = absurd (clash 6 108 116 _ _ refl refl refl same)
names_apart numbers Log Clear one other same = absurd (clash 0 105 99 _ _ refl refl refl same)
names_apart numbers Tmp (Entry b) one other same = absurd (clash 0 105 101 _ _ refl refl refl same)
names_apart numbers Tmp (InDoomed b) one other same = absurd (clash 0 105 100 _ _ refl refl refl same)
names_apart numbers Tmp Index one other same = absurd (clash 6 116 0 _ _ refl refl refl same)
names_apart numbers Tmp Log one other same = absurd (clash 6 116 108 _ _ refl refl refl same)
names_apart numbers Tmp Tmp one other same = refl
names_apart numbers Tmp Clear one other same = absurd (clash 0 105 99 _ _ refl refl refl same)
names_apart numbers Clear (Entry b) one other same = absurd (clash 0 99 101 _ _ refl refl refl same)
names_apart numbers Clear (InDoomed b) one other same = absurd (clash 0 99 100 _ _ refl refl refl same)
names_apart numbers Clear Index one other same = absurd (clash 0 99 105 _ _ refl refl refl same)
names_apart numbers Clear Log one other same = absurd (clash 0 99 105 _ _ refl refl refl same)
names_apart numbers Clear Tmp one other same = absurd (clash 0 99 105 _ _ refl refl refl same)
names_apart numbers Clear Clear one other same = refl

-- no two places have one path
pub paths_apart : (dir : List ℕ) (numbers : Folders) (a b : Place) (path : List ℕ) → IsPathOf dir numbers a path → IsPathOf dir numbers b path → a ≡ b
paths_apart dir numbers a b path one other =
    let same : base_text dir ++ (47 ∷ name_of numbers a) ≡ base_text dir ++ (47 ∷ name_of numbers b) =
    ap (λ base. base ++ (47 ∷ name_of numbers a)) (sym one.is_in.is_base) ∙ sym one.is_in.path_is ∙ other.is_in.path_is
    ∙ ap (λ base. base ++ (47 ∷ name_of numbers b)) other.is_in.is_base in
    let after : (47 ∷ name_of numbers a) ≡ (47 ∷ name_of numbers b) = append_cancel_left (base_text dir) (47 ∷ name_of numbers a) (47 ∷ name_of numbers b) same in
    names_apart numbers a b one.has_name other.has_name (ap (drop 1) after)
