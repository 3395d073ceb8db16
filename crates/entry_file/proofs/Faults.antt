-- The first failing check of a file.
use Rattle.std.proofs.Common.{◌≡◌, ◌≢◌, ℕ, ◌-◌, ◌<◌, ◌≤◌, List, [], ◌∷◌, length, Bool, true, false, cond, not, ◌&&◌, refl, sym, ap, subst, ◌∙◌, arith}
use Rattle.std.specs.Prelude.{Option, None, Some}
use Rattle.std.specs.List.{AllByRecursion}
use Rattle.std.specs.Str.{bytes_eq}
use Rattle.std.proofs.lemmas.Bool.{and_left, and_parts, and_right, eq-eqb, eqb-false, le-leb, leb-true, lt-leb, ne_eqb, not-true}
use Rattle.cache_base.specs.Checks.{first_failing}
use Rattle.entry_name.specs.EntryName.{file_name}
use Rattle.entry_metadata.specs.declared.fault.MetaFault.{MetaFault}
use Rattle.entry_metadata.specs.declared.fault.MetaFault.TheVariants as faults
use Rattle.entry_metadata.specs.Checks.{block_fault, checks_of, meta_in}
use Rattle.entry_metadata.specs.Metadata.{Meta}
use Rattle.entry_file.specs.Damages.{HasMeta}
use Rattle.entry_file.specs.declared.entry_read.Unfit.TheVariants as unfit
use Rattle.entry_file.specs.EntryFile.{block_in, file_fault, file_meta, has_offset, named_fault, offset_in, unfit_of}

-- ---- what ends in an offset, and what does not

pub has_one : (c : List ℕ) → 4 ≤ length c → offset_in c ≢ 0xFFFFFFFF → offset_in c ≤ length c - 4 → has_offset c ≡ true
has_one c enough other within = λ i. le-leb _ _ enough i && not (ne_eqb _ _ other i) && le-leb _ _ within i

pub has_parts : (c : List ℕ) → has_offset c ≡ true → (4 ≤ length c) × (offset_in c ≢ 0xFFFFFFFF) × (offset_in c ≤ length c - 4)
has_parts c h =
    let front : _ × _ = and_parts _ _ h in
    let first : _ × _ = and_parts _ _ front.0 in
    (leb-true _ _ first.0, eqb-false _ _ (not-true _ first.1), leb-true _ _ front.1)

pub too_short : (c : List ℕ) → length c < 4 → has_offset c ≡ false
too_short c lt = and_left _ _ (and_left _ _ (lt-leb _ _ lt))

pub unfinished : (c : List ℕ) → offset_in c ≡ 0xFFFFFFFF → has_offset c ≡ false
unfinished c e = and_left _ _ (and_right _ _ (ap not (eq-eqb _ _ e)))

pub beyond : (c : List ℕ) → length c - 4 < offset_in c → has_offset c ≡ false
beyond c lt = and_right _ _ (lt-leb _ _ lt)

-- ---- the checks, by whether there is an offset

pub short : (name c : List ℕ) → has_offset c ≡ false → file_fault name c ≡ Some unfit.Short
unfolding file_fault
short name c h = ap (λ b. cond b (named_fault (block_fault (block_in c) (offset_in c)) (bytes_eq (file_name (file_meta c).key) name)) (Some unfit.Short)) h

pub by_block : (name c : List ℕ) → has_offset c ≡ true → file_fault name c ≡ named_fault (block_fault (block_in c) (offset_in c)) (bytes_eq (file_name (file_meta c).key) name)
unfolding file_fault
by_block name c h = ap (λ b. cond b (named_fault (block_fault (block_in c) (offset_in c)) (bytes_eq (file_name (file_meta c).key) name)) (Some unfit.Short)) h

-- a row with another fault before it
not_first : (b : Bool) (rest : Option MetaFault) (f : MetaFault) → rest ≢ Some faults.Memory → f ≢ faults.Memory → cond b rest (Some f) ≢ Some faults.Memory
not_first true rest f sure own e = sure e
not_first false rest f sure own e = own (cc)

never : (rows : List (Bool × MetaFault)) → AllByRecursion (λ row. row.1 ≢ faults.Memory) rows → first_failing rows ≢ Some faults.Memory
never [] h e = absurd (cc)
never (row ∷ rows) h e = not_first row.0 (first_failing rows) row.1 (never rows h.1) h.0 e

-- that memory ran out is no fault of a block
never_memory : (block : List ℕ) (offset : ℕ) → block_fault block offset ≢ Some faults.Memory
unfolding checks_of
never_memory block offset = never (checks_of block (meta_in block offset)) (λ e. cc, (λ e. cc, (λ e. cc, (λ e. cc, (λ e. cc, (λ e. cc, (λ e. cc, tt)))))))

-- and each other fault names a check
memory_alone : (f : MetaFault) → unfit_of f ≡ None → f ≡ faults.Memory
memory_alone faults.Short e = cc
memory_alone faults.TooBig e = cc
memory_alone faults.Version e = cc
memory_alone faults.KeyEnd e = cc
memory_alone faults.Hash e = cc
memory_alone faults.KeyForm e = cc
memory_alone faults.Elements e = cc
memory_alone faults.Memory e = refl

no_fault : (o : Option MetaFault) (b : Bool) → o ≢ Some faults.Memory → named_fault o b ≡ None → (o ≡ None) × (b ≡ true)
no_fault None true sure e = (refl, refl)
no_fault None false sure e = absurd (cc)
no_fault (Some f) b sure e = absurd (sure (ap Some (memory_alone f e)))

pub passes : (name c : List ℕ) → has_offset c ≡ true → block_fault (block_in c) (offset_in c) ≡ None → bytes_eq (file_name (file_meta c).key) name ≡ true → file_fault name c ≡ None
passes name c h p b = by_block name c h ∙ (λ i. named_fault (p i) (b i))

pub passed : (name c : List ℕ) → file_fault name c ≡ None
    → (has_offset c ≡ true) × (block_fault (block_in c) (offset_in c) ≡ None) × (bytes_eq (file_name (file_meta c).key) name ≡ true)
passed name c e = go (has_offset c) refl
  where
    go : (b : Bool) → has_offset c ≡ b → (has_offset c ≡ true) × (block_fault (block_in c) (offset_in c) ≡ None) × (bytes_eq (file_name (file_meta c).key) name ≡ true)
    go true h =
        let both = no_fault (block_fault (block_in c) (offset_in c)) (bytes_eq (file_name (file_meta c).key) name) (never_memory (block_in c) (offset_in c)) (sym (by_block name c h) ∙ e) in
        (h, both.0, both.1)
    go false h = absurd (let bad = sym e ∙ short name c h in cc bad)

-- the body of a content that fits stands before its offset
pub offset_within : (name c : List ℕ) → file_fault name c ≡ None → offset_in c ≤ length c
offset_within name c none =
    let ending = has_parts c (passed name c none).0 in
    let within : offset_in c ≤ length c - 4 = ending.2 in
    omega (arith, within)

pub fit_has_meta : (name c : List ℕ) (m : Meta) → file_fault name c ≡ None → m ≡ file_meta c → HasMeta (Some c) m
unfolding meta_in
fit_has_meta name c m none says = (says, subst (λ n. n ≤ length c) (sym (ap (λ (s : Meta). s.offset) says)) (offset_within name c none))
