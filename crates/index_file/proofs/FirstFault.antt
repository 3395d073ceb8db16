-- The first failing check of an index.
use Rattle.std.proofs.Common.{◌≡◌, ◌≢◌, ℕ, ◌<◌, ◌≤◌, List, [], ◌∷◌, length, drop, Bool, true, false, refl, ap, ◌∙◌}
use Rattle.std.specs.Option.{option_or}
use Rattle.std.specs.Prelude.{◌==◌, Option, Some, None, nat_le, option_map}
use Rattle.std.proofs.lemmas.Bool.{eq-eqb, le-leb, lt-leb, ne_eqb}
use Rattle.cache_base.specs.Bytes.{be32_at}
use Rattle.cache_base.specs.Checks.{first_failing}
use Rattle.index_file.specs.Checks.{IsFirstFault, header_checks, index_fault}
use Rattle.index_file.specs.RecordsFault.{fault_of}
use Rattle.index_file.specs.declared.fault.IndexFault.{IndexFault}
use Rattle.index_file.specs.declared.fault.IndexFault.TheVariants as faults
use Rattle.record_list.specs.Stored as records
use Rattle.record_list.specs.declared.fault.RecordsFault.{RecordsFault}
use Rattle.record_list.specs.declared.fault.RecordsFault.TheVariants as parts

-- the fault of the first of two tests that fails, or else of what follows them
first_of : Bool → Bool → Option IndexFault → Option IndexFault
first_of a b rest = option_or (first_failing ((a, faults.Short) ∷ (b, faults.Version) ∷ [])) rest

as_rows : (xs : List ℕ) → index_fault xs ≡ first_of (nat_le 20 (length xs)) (be32_at xs 0 == 0xA) (option_map fault_of (records.records_fault (drop 16 xs)))
unfolding header_checks first_of
as_rows xs = refl

first_fails : (a b : Bool) (rest : Option IndexFault) → a ≡ false → first_of a b rest ≡ Some faults.Short
unfolding first_of
first_fails a b rest ha = λ i. first_of (ha i) b rest

second_fails : (a b : Bool) (rest : Option IndexFault) → a ≡ true → b ≡ false → first_of a b rest ≡ Some faults.Version
unfolding first_of
second_fails a b rest ha hb = λ i. first_of (ha i) (hb i) rest

both_pass : (a b : Bool) (rest : Option IndexFault) → a ≡ true → b ≡ true → first_of a b rest ≡ rest
unfolding first_of
both_pass a b rest ha hb = λ i. first_of (ha i) (hb i) rest

module _ (xs : List ℕ) where
  pub short : length xs < 20 → index_fault xs ≡ Some faults.Short
  short lt = as_rows xs ∙ first_fails _ _ _ (lt-leb _ _ lt)

  module _ (long : 20 ≤ length xs) where
    pub version : be32_at xs 0 ≢ 0xA → index_fault xs ≡ Some faults.Version
    version differs = as_rows xs ∙ second_fails _ _ _ (le-leb _ _ long) (ne_eqb _ _ differs)

    module _ (same : be32_at xs 0 ≡ 0xA) where
      pub behind : index_fault xs ≡ option_map fault_of (records.records_fault (drop 16 xs))
      behind = as_rows xs ∙ both_pass _ _ _ (le-leb _ _ long) (eq-eqb _ _ same)

      pub of_records : (f : RecordsFault) → records.IsFirstFault (drop 16 xs) f → IsFirstFault xs (fault_of f)
      of_records parts.Length h = behind ∙ ap (option_map fault_of) h
      of_records parts.Hash h = behind ∙ ap (option_map fault_of) h
      of_records parts.Repeated h = behind ∙ ap (option_map fault_of) h
      of_records parts.Memory h = tt

      pub fits : records.records_fault (drop 16 xs) ≡ None → index_fault xs ≡ None
      fits h = behind ∙ ap (option_map fault_of) h
