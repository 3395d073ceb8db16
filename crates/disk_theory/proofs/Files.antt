-- The files of a disk, one of which is changed.
use Rattle.std.proofs.Common.{◌≡◌, ◌⊎◌, inl, inr, ℕ, ◌<◌, Option, Some, None, refl, ap, ◌∙◌, ⊎_elim, arith}
use Rattle.std.proofs.lemmas.Bool.{cases_eq}
use Rattle.std.proofs.lemmas.Bool.Decides.{nat_tests}
use Rattle.disk_theory.specs.State.{File, content, content_of, with_file}

pub with_file-same : (n : ℕ) (file : File) (files : ℕ → File) → with_file n file files n ≡ file
with_file-same n file files = grind (arith, nat_tests)

pub with_file-apart : (n k : ℕ) (file : File) (files : ℕ → File) → (k ≡ n → ⊥) → with_file n file files k ≡ files k
with_file-apart n k file files apart = grind (arith, nat_tests)

pub with_file-below : (n k : ℕ) (file : File) (files : ℕ → File) → k < n → with_file n file files k ≡ files k
with_file-below n k file files lt = grind (arith, nat_tests)

pub with_file-cases : (n k : ℕ) (file : File) (files : ℕ → File) → ((k ≡ n) × (with_file n file files k ≡ file)) ⊎ (with_file n file files k ≡ files k)
with_file-cases n k file files =
    ⊎_elim (λ e. inl (e, ap (with_file n file files) e ∙ with_file-same n file files)) (λ apart. inr (with_file-apart n k file files apart)) (cases_eq k n)

-- where the file that stands is the same, so is what it holds
pub content_of-same : (files new : ℕ → File) (at : Option ℕ) → ((f : ℕ) → at ≡ Some f → new f ≡ files f) → content_of new at ≡ content_of files at
content_of-same files new None same = refl
content_of-same files new (Some f) same = ap (λ (file : File). Some (content file)) (same f refl)
