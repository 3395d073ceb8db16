-- What is read of a file, step by step.
use Rattle.std.proofs.Common.{◌≡◌, ◌≢◌, ℕ, ◌+◌, ◌-◌, ◌^◌, ◌<◌, ◌≤◌, List, length, length-drop, length-take, drop, true, refl, sym, ap, subst, ◌∙◌, arith}
use Rattle.std.specs.Prelude.{IfOk, IfSome, Option, None, Some, Result, Ok, Err, slice_range}
use Rattle.std.specs.Option.{option_map}
use Rattle.std.specs.Str.{bytes_eq}
use Rattle.cache_base.specs.Bytes.{AreBytes}
use Rattle.cache_base.specs.Limits.{chunks}
use Rattle.cache_base.specs.declared.limits.TheConstants.{BLOCK_MAX}
use Rattle.disk_theory.specs.State.{State, standing}
use Rattle.disk_theory.specs.declared.disk.DiskFault.{DiskFault}
use Rattle.disk_theory.specs.declared.place.Place.{Place}
use Rattle.entry_name.specs.EntryName.{file_name}
use Rattle.entry_metadata.specs.declared.fault.MetaFault.{MetaFault}
use Rattle.entry_metadata.specs.declared.fault.MetaFault.TheVariants as faults
use Rattle.entry_metadata.specs.Checks.{block_fault}
use Rattle.entry_metadata.specs.Metadata.{Spells}
use Rattle.entry_metadata.proofs.FirstFault as first
use Rattle.entry_file.specs.declared.entry_read.EntryRead.{EntryRead}
use Rattle.entry_file.specs.declared.entry_read.EntryRead.TheVariants as reads
use Rattle.entry_file.specs.declared.entry_read.Unfit.TheVariants as unfit
use Rattle.entry_file.specs.EntryFile.{block_in, file_meta, has_offset, named_fault, offset_in}
use Rattle.entry_file.specs.EntryRead.{IfFits, Joins, ReadsAs}
use Rattle.entry_file.specs.BlockRead.{BlockReadsAs}
use Rattle.entry_file.proofs.ReadJoin.{joins}
use Rattle.entry_file.proofs.Faults.{beyond, by_block, has_one, short, too_short, unfinished}

-- a file of a known size
module _ (name : List ℕ) (o : Option (List ℕ)) (size : ℕ) (told : Some size ≡ option_map length o) where
  -- what holds of each content of this size
  of_each : (P : Option (List ℕ) → Type 0) → ((c : List ℕ) → o ≡ Some c → size ≡ length c → P (Some c)) → P o
  of_each P f = go o told f
    where
      go : (p : Option (List ℕ)) → Some size ≡ option_map length p → ((c : List ℕ) → p ≡ Some c → size ≡ length c → P (Some c)) → P p
      go None e f = absurd (cc)
      go (Some c) e f = f c refl (cc)

  of_content : (read : EntryRead) → ((c : List ℕ) → o ≡ Some c → size ≡ length c → ReadsAs name (Some c) read) → ReadsAs name o read
  of_content read f = of_each (λ p. ReadsAs name p read) f

  pub small : size < 4 → ReadsAs name o (reads.Unfit unfit.Short)
  small lt = of_content _ (λ c at long. short name c (too_short c (omega (arith, lt, long))))

  module _ (enough : 4 ≤ size) (offset : ℕ) (is : IfSome o (λ c. offset ≡ offset_in c)) where
    offset_at : (c : List ℕ) → o ≡ Some c → offset ≡ offset_in c
    offset_at c at = subst (λ (p : Option (List ℕ)). IfSome p (λ c. offset ≡ offset_in c)) at is

    pub no_offset : offset ≡ 0xFFFFFFFF → ReadsAs name o (reads.Unfit unfit.Short)
    no_offset e = of_content _ (λ c at long. short name c (unfinished c (sym (offset_at c at) ∙ e)))

    pub outside : size - 4 < offset → ReadsAs name o (reads.Unfit unfit.Short)
    outside lt = of_content _ (λ c at long. short name c (beyond c (let e = offset_at c at in omega (arith, lt, long, e))))

    module _ (other : offset ≢ 0xFFFFFFFF) (within : offset ≤ size - 4) where
      has : (c : List ℕ) → o ≡ Some c → size ≡ length c → has_offset c ≡ true
      has c at long =
          let e = offset_at c at in
          has_one c (omega (arith, enough, long)) (λ s. other (e ∙ s)) (omega (arith, within, long, e))

      block_long : (c : List ℕ) → o ≡ Some c → size ≡ length c → length (block_in c) ≡ size - 4 - offset
      block_long c at long =
          let e = offset_at c at in
          let t = length-take (length c - 4 - offset_in c) (drop (offset_in c) c) in
          let d = length-drop (offset_in c) c in
          omega (arith, t, d, e, long, within, enough)

      pub large : offset < 2 ^ 32 → BLOCK_MAX < size - 4 - offset → ReadsAs name o (reads.Unfit unfit.TooBig)
      large word big = of_content _ (λ c at long.
          let e = offset_at c at in
          let long_block = block_long c at long in
          let fault : block_fault (block_in c) (offset_in c) ≡ Some faults.TooBig =
          first.larger (block_in c) (offset_in c) (chunks (offset_in c)) refl (omega (arith, long_block, big, word, e)) (omega (arith, long_block, big)) in
          by_block name c (has c at long) ∙ ap (λ (f : Option MetaFault). named_fault f (bytes_eq (file_name (file_meta c).key) name)) fault)

      -- a block that is read is not too large
      pub not_large : size - 4 - offset ≤ BLOCK_MAX → (c : List ℕ) → o ≡ Some c → BLOCK_MAX < length (block_in c) → ⊥
      not_large few c at big =
          let long : size ≡ length c = let sizes : Some size ≡ Some (length c) = told ∙ ap (option_map length) at in cc in
          let long_block = block_long c at long in
          omega (arith, few, long_block, big)

      -- what the block reads as, the file reads as
      module _ (len : ℕ) (rest : len ≡ size - 4 - offset) (block : List ℕ) (part : IfSome o (λ c. block ≡ slice_range c offset (offset + len))) where
        block_at : (c : List ℕ) → o ≡ Some c → size ≡ length c → block ≡ block_in c
        block_at c at long =
            let e = offset_at c at in
            let end : offset + len ≡ length c - 4 = omega (arith, rest, within, long) in
            subst (λ (p : Option (List ℕ)). IfSome p (λ c. block ≡ slice_range c offset (offset + len))) at part
            ∙ (λ i. slice_range c (e i) (end i))

        as_block_of : (c : List ℕ) → o ≡ Some c → size ≡ length c → (read : EntryRead) → BlockReadsAs name block offset size read → ReadsAs name (Some c) read
        as_block_of c at long read h =
            let h2 = subst (λ (b : List ℕ). BlockReadsAs name b offset size read) (block_at c at long) h in
            let h3 = subst (λ (n : ℕ). BlockReadsAs name (block_in c) n size read) (offset_at c at) h2 in
            of_read c (has c at long) long read h3
          where
            of_read : (c : List ℕ) → has_offset c ≡ true → size ≡ length c → (read : EntryRead) → BlockReadsAs name (block_in c) (offset_in c) size read → ReadsAs name (Some c) read
            of_read c one long reads.Absent h = absurd h
            of_read c one long (reads.Unfit check) h = by_block name c one ∙ h
            of_read c one long (reads.Fits meta n) h = (by_block name c one ∙ h.0, h.1, h.2 ∙ long)

        pub as_block : (read : EntryRead) → BlockReadsAs name block offset size read → ReadsAs name o read
        as_block read h = of_content read (λ c at long. as_block_of c at long read h)

        -- and so do its metadata
        pub as_join : IfSome o (λ c. AreBytes (drop (length c - 4) c)) → (read : EntryRead) → BlockReadsAs name block offset size read → IfFits read (Spells block offset) → IfFits read (Joins name o)
        as_join tail read h spelled = of_each (λ p. IfFits read (Joins name p)) (λ c at long.
            joins name c read (as_block_of c at long read h)
            (subst (λ (p : Option (List ℕ)). IfSome p (λ c. AreBytes (drop (length c - 4) c))) at tail)
            (subst (λ (n : ℕ). IfFits read (Spells (block_in c) n)) (offset_at c at) (subst (λ (b : List ℕ). IfFits read (Spells b offset)) (block_at c at long) spelled)))

-- what a later call of the disk read
pub part_along : (s t : State) (place : Place) (items block : List ℕ) (from offset len : ℕ) → t ≡ s → from ≡ offset → block ≡ items
    → IfSome (standing t place) (λ c. items ≡ slice_range c from (from + len)) → IfSome (standing s place) (λ c. block ≡ slice_range c offset (offset + len))
part_along s t place items block from offset len same at is h =
    let h2 = subst (λ (u : State). IfSome (standing u place) (λ c. items ≡ slice_range c from (from + len))) same h in
    let h3 = subst (λ (n : ℕ). IfSome (standing s place) (λ c. items ≡ slice_range c n (n + len))) at h2 in
    subst (λ (b : List ℕ). IfSome (standing s place) (λ c. b ≡ slice_range c offset (offset + len))) (sym is) h3

-- the same of an answer
pub of_answers : (T : Type 0) (P Q R : EntryRead → Type 0) (r : Result EntryRead DiskFault) → (T → (read : EntryRead) → P read → Q read → R read) → IfOk r P → IfOk r Q → IfOk r (λ read. T → R read)
of_answers T P Q R (Ok read) f p q = λ told. f told read p q
of_answers T P Q R (Err fault) f p q = tt

pub of_answer : (T : Type 0) (P Q : EntryRead → Type 0) (r : Result EntryRead DiskFault) → (T → (read : EntryRead) → P read → Q read) → IfOk r P → IfOk r (λ read. T → Q read)
of_answer T P Q r f h = of_answers T P P Q r (λ told read p again. f told read p) h h
