-- The first failing check of records and their hash.
use Rattle.std.proofs.Common.{◌≡◌, ◌≢◌, ℕ, ◌-◌, ◌%◌, List, ◌∷◌, [], length, Bool, true, false, refl, sym, ap, ◌∙◌}
use Rattle.std.specs.Prelude.{Option, Some, None, if◌then◌else◌, ◌==◌}
use Rattle.std.proofs.lemmas.Bool.{eq-eqb, ne_eqb}
use Rattle.cache_base.specs.Bytes.{be32_at}
use Rattle.cache_base.specs.Checks.{first_failing}
use Rattle.jenkins_hash.specs.Hash.{hash_of}
use Rattle.record_list.specs.Lists.{names_of}
use Rattle.record_list.specs.Stored.{are_distinct, body_of, records_checks, records_fault, stored_in}
use Rattle.record_list.specs.declared.fault.RecordsFault.{RecordsFault}
use Rattle.record_list.specs.declared.fault.RecordsFault.TheVariants as faults

-- the fault of the first of three tests that fails
first_of : Bool → Bool → Bool → Option RecordsFault
first_of a b c = first_failing ((a, faults.Length) ∷ (b, faults.Hash) ∷ (c, faults.Repeated) ∷ [])

first_fails : (a b c : Bool) → a ≡ false → first_of a b c ≡ Some faults.Length
unfolding first_of
first_fails a b c ha = λ i. first_of (ha i) b c

second_fails : (a b c : Bool) → a ≡ true → b ≡ false → first_of a b c ≡ Some faults.Hash
unfolding first_of
second_fails a b c ha hb = λ i. first_of (ha i) (hb i) c

two_pass : (a b c : Bool) → a ≡ true → b ≡ true → first_of a b c ≡ (if c then None else Some faults.Repeated)
unfolding first_of
two_pass a b c ha hb = λ i. first_of (ha i) (hb i) c

as_rows : (part : List ℕ)
    → records_fault part ≡ first_of (length (body_of part) % 41 == 0) (be32_at part (length part - 4) == hash_of (body_of part)) (are_distinct (names_of (stored_in part)))
unfolding records_checks first_of
as_rows part = refl

-- the part's body is cut into groups, with so many bytes left
module _ (part body : List ℕ) (left : ℕ) (is_empty : Bool) (is : body ≡ body_of part) (n : left ≡ length body % 41) (e : is_empty ≡ (left == 0)) where
  whole_is : (length (body_of part) % 41 == 0) ≡ is_empty
  whole_is = ap (λ ys. length ys % 41 == 0) (sym is) ∙ ap (λ k. k == 0) (sym n) ∙ sym e

  pub other_length : is_empty ≡ false → records_fault part ≡ Some faults.Length
  other_length h = as_rows part ∙ first_fails _ _ _ (whole_is ∙ h)

  module _ (whole : is_empty ≡ true) (number hash : ℕ) (at : number ≡ be32_at part (length part - 4)) (h : hash ≡ hash_of body) where
    hash_of_body : hash ≡ hash_of (body_of part)
    hash_of_body = h ∙ ap hash_of is

    pub other_hash : number ≢ hash → records_fault part ≡ Some faults.Hash
    other_hash differ = as_rows part ∙ second_fails _ _ _ (whole_is ∙ whole) (ne_eqb _ _ (λ same. differ (at ∙ same ∙ sym hash_of_body)))

    pub names_left : number ≡ hash
        → records_fault part ≡ (if are_distinct (names_of (stored_in part)) then None else Some faults.Repeated)
    names_left hashed = as_rows part ∙ two_pass _ _ _ (whole_is ∙ whole) (eq-eqb _ _ (sym at ∙ hashed ∙ hash_of_body))
