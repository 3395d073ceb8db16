-- What is read is what the bytes spell.
use Rattle.std.proofs.Common.{◌≡◌, ℕ, List, Bool, refl, sym, subst, ◌∙◌}
use Rattle.std.specs.Prelude.{IfErr, IfOk, None, OnOk, Ok, Err, Result}
use Rattle.cache_base.specs.Bytes.{AreBytes}
use Rattle.index_file.specs.Checks.{IsFirstFault, index_fault, index_in, is_dirty_in, timestamp_in}
use Rattle.index_file.specs.Index.{IndexSpells}
use Rattle.index_file.specs.declared.fault.IndexFault.{IndexFault}
use Rattle.index_file.specs.declared.fault.IndexFault.TheVariants.{Hash, Length, Memory, Repeated, Short, Version}
use Rattle.index_file.specs.declared.image.IndexImage.{IndexImage}
use Rattle.index_record.specs.declared.record.IndexRecord.{IndexRecord}
use Rattle.index_file.proofs.IndexLaws.{index_reads_back, spells}

pub spelled : (xs : List ℕ) → AreBytes xs → (answer : Result IndexImage IndexFault) → OnOk answer (index_fault xs ≡ None)
    → IfOk answer (λ image. image.timestamp ≡ timestamp_in xs) → IfOk answer (λ image. image.dirty ≡ is_dirty_in xs) → IfOk answer (λ image. image.records ≡ index_in xs)
    → IfOk answer (λ image. IndexSpells xs image.timestamp image.dirty image.records)
spelled xs bytes (Ok image) passes t d rs =
    subst (λ n. IndexSpells xs n image.dirty image.records) (sym t)
    (subst (λ b. IndexSpells xs (timestamp_in xs) b image.records) (sym d)
    (subst (λ list. IndexSpells xs (timestamp_in xs) (is_dirty_in xs) list) (sym rs) (spells xs bytes passes)))
spelled xs bytes (Err f) passes t d rs = tt

pub refused : (xs : List ℕ) (answer : Result IndexImage IndexFault) (t : ℕ) (dirty : Bool) (rs : List IndexRecord) → IndexSpells xs t dirty rs
    → IfErr answer (IsFirstFault xs) → IfErr answer (λ f. f ≡ Memory)
refused xs (Ok image) t dirty rs s h = tt
refused xs (Err f) t dirty rs s h = go f h
  where
    passes : index_fault xs ≡ None
    passes = (index_reads_back xs t dirty rs s).0

    go : (f : IndexFault) → IsFirstFault xs f → f ≡ Memory
    go Memory h = refl
    go Short h = absurd (let both = sym passes ∙ h in cc both)
    go Version h = absurd (let both = sym passes ∙ h in cc both)
    go Length h = absurd (let both = sym passes ∙ h in cc both)
    go Hash h = absurd (let both = sym passes ∙ h in cc both)
    go Repeated h = absurd (let both = sym passes ∙ h in cc both)
