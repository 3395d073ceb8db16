-- What the bytes of a whole part spell.
use Rattle.std.proofs.Common.{◌≡◌, ℕ, ◌+◌, ◌*◌, ◌≤◌, List, [], ◌∷◌, ◌++◌, length, drop, Result, Ok, Err, refl, sym, ap, ◌∙◌, subst, arith}
use Rattle.std.specs.Prelude.{IfErr, flat_map}
use Rattle.std.proofs.lemmas.List.{append_assoc, drop-drop, drop_at, length-drop, take-append-drop}
use Rattle.cache_base.proofs.ByteLaws.{be32_front, bytes_drop, four}
use Rattle.cache_base.specs.Bytes.{AreBytes, be16, be32, be32_at}
use Rattle.entry_metadata.specs.Metadata.{CanSay, Format, First, Second, Third, IsMeta, Meta, Spells as SpellsBlock, block_as, block_bytes, block_rest_as, header_as}
use Rattle.entry_metadata.specs.declared.fault.MetaFault.{MetaFault}
use Rattle.entry_metadata.specs.declared.fault.MetaFault.TheVariants as meta
use Rattle.entry_parts.specs.Elements.{elements_bytes}
use Rattle.entry_parts.specs.declared.header.Header.{Header}
use Rattle.jenkins_hash.specs.Hash.{hash_of}
use Rattle.entry_metadata.proofs.BlockLaws.{length-block_as, length_hashes}
use Rattle.entry_metadata.proofs.FormatLaws.{bytes_within, number, stored_front}
use Rattle.entry_metadata.proofs.SpelledLaws.{Spells-says}
use Rattle.cache_export.specs.Dump.{back_bytes, head}
use Rattle.cache_export.specs.Front.{lead_len}
use Rattle.cache_export.specs.PartRead.{IsBlockOf, IsItemDue, IsKeyField, IsWholeBlock, IsWholeKey, MayFollow, SpellsNoRest, SpellsNone, before_at, part_fault_of}
use Rattle.cache_export.specs.Parts.{Part, Spells, SpellsRest, Stage, key_bytes, lead, left_of}
use Rattle.cache_export.specs.Stages.{stage_at}
use Rattle.cache_export.specs.declared.front.Due.{Due}
use Rattle.cache_export.specs.declared.front.Due.TheVariants as due
use Rattle.cache_export.specs.declared.parts.PartFault.{PartFault}
use Rattle.cache_export.specs.declared.parts.PartFault.TheVariants as faults

-- a field after its length
field_spelled : (xs : List ℕ) → AreBytes xs → length xs ≡ 4 + be32_at xs 0 → be32 (length (drop 4 xs)) ++ drop 4 xs ≡ xs
field_spelled xs are size =
    let len : length (drop 4 xs) ≡ be32_at xs 0 = omega (arith, size, length-drop 4 xs) in
    ap (λ n. be32 n ++ drop 4 xs) len ∙ ap (λ l. l ++ drop 4 xs) (four xs are (omega (arith, size))) ∙ take-append-drop 4 xs

field_is_key : (xs : List ℕ) → AreBytes xs → IsKeyField xs → xs ≡ key_bytes (drop 5 xs)
unfolding key_bytes
field_is_key [] are h = absurd (omega (arith, h.1))
field_is_key (x ∷ xs) are h = ap (λ y. y ∷ xs) h.0 ∙ ap (λ l. 1 ∷ l) (sym (field_spelled xs are.1 (omega (arith, h.1))))

pub key_spelled : (d : Due) (last part : List ℕ) → AreBytes part → IsWholeKey d part → part ≡ lead (before_at d last) ++ key_bytes (drop (lead_len d + 5) part)
key_spelled due.Head last part are h =
    sym (take-append-drop 8 part) ∙ ap (λ l. l ++ drop 8 part) h.0
    ∙ ap (λ l. head ++ l) (field_is_key (drop 8 part) (bytes_drop 8 part are) h.1 ∙ ap key_bytes (drop-drop 5 8 part))
key_spelled due.Item last part are h = field_is_key part are h
key_spelled due.Length last part are h = absurd h
key_spelled due.Body last part are h = absurd h

key_read : (d : Due) (last part key : List ℕ) → IsWholeKey d part → part ≡ lead (before_at d last) ++ key_bytes key → drop (lead_len d + 5) part ≡ key
unfolding key_bytes
key_read due.Head last part key h e = ap (drop 13) e
key_read due.Item last part key h e = ap (drop 5) e
key_read due.Length last part key h e = absurd h
key_read due.Body last part key h e = absurd h

pub key_none : (d : Due) (last part : List ℕ) → IsWholeKey d part → ¬ (MayFollow (before_at d last) (drop (lead_len d + 5) part)) → (p : Part) → ¬ (Spells (Stage.AtItem (before_at d last)) p part)
key_none d last part whole none (Part.KeyPart key) h = none (subst (MayFollow (before_at d last)) (sym (key_read d last part key whole h.1.1)) (h.0, h.1.0))
key_none d last part whole none (Part.PiecePart piece) h = h
key_none d last part whole none (Part.BlockPart said) h = h

-- ---- blocks

pub block_spelled : (part block : List ℕ) → AreBytes part → IsWholeBlock part → drop 4 part ≡ block → part ≡ back_bytes block
unfolding back_bytes
block_spelled part block are whole e = sym (field_spelled part are whole) ∙ ap (λ l. be32 (length l) ++ l) e

block_read : (part block : List ℕ) → part ≡ back_bytes block → drop 4 part ≡ block
unfolding back_bytes
block_read part block e = ap (drop 4) e

-- the block spells what the part would
block_of_part : (key : List ℕ) (len : ℕ) (hashes part : List ℕ) (said : Meta) → SpellsRest key len hashes (Part.BlockPart said) part → SpellsBlock (drop 4 part) len said
block_of_part key len hashes part said h = record { meta = h.1.0; at = h.1.1.1.0; format = Third; can = tt; bytes = block_read part (block_bytes said) h.1.1.1.1.1 }

bad_none : (key : List ℕ) (len : ℕ) (hashes part : List ℕ) (f : MetaFault) → left_of len (length hashes) ≡ 0 → (f ≡ meta.Memory → ⊥) → ((said : Meta) → SpellsBlock (drop 4 part) len said → f ≡ meta.Memory) → (p : Part) → ¬ (SpellsRest key len hashes p part)
bad_none key len hashes part f none other h (Part.KeyPart k) s = s
bad_none key len hashes part f none other h (Part.PiecePart piece) s = absurd (omega (arith, s.0, none))
bad_none key len hashes part f none other h (Part.BlockPart said) s = other (h said (block_of_part key len hashes part said s))

pub none_refused : (key : List ℕ) (len : ℕ) (hashes part : List ℕ) (f : MetaFault) → left_of len (length hashes) ≡ 0 → ((said : Meta) → SpellsBlock (drop 4 part) len said → f ≡ meta.Memory) → SpellsNoRest key len hashes part (part_fault_of f)
none_refused key len hashes part meta.Memory none h = tt
none_refused key len hashes part meta.Short none h = bad_none key len hashes part meta.Short none (λ e. cc) h
none_refused key len hashes part meta.TooBig none h = bad_none key len hashes part meta.TooBig none (λ e. cc) h
none_refused key len hashes part meta.Version none h = bad_none key len hashes part meta.Version none (λ e. cc) h
none_refused key len hashes part meta.KeyEnd none h = bad_none key len hashes part meta.KeyEnd none (λ e. cc) h
none_refused key len hashes part meta.Hash none h = bad_none key len hashes part meta.Hash none (λ e. cc) h
none_refused key len hashes part meta.KeyForm none h = bad_none key len hashes part meta.KeyForm none (λ e. cc) h
none_refused key len hashes part meta.Elements none h = bad_none key len hashes part meta.Elements none (λ e. cc) h

-- the version of a block stands after its hash and those of the chunks
version_at : (f : Format) (m : Meta) → IsMeta m → CanSay f m.header → be32_at (block_as f m) (4 + 2 * length m.hashes) ≡ number f
version_at f m is can =
    let front : List ℕ = be32 (hash_of (block_rest_as f m)) ++ flat_map be16 m.hashes in
    let tail : List ℕ = m.key ++ 0 ∷ elements_bytes m.elements in
    let parts : block_as f m ≡ front ++ (header_as f m.header ++ tail) = sym (append_assoc (be32 (hash_of (block_rest_as f m))) (flat_map be16 m.hashes) (header_as f m.header ++ tail)) in
    let size : length front ≡ 4 + 2 * length m.hashes = omega (arith, length_hashes m.hashes) in
    ap (λ l. be32_at l (4 + 2 * length m.hashes)) parts
    ∙ ap (λ l. be32_at l 0) (drop_at front (header_as f m.header ++ tail) (4 + 2 * length m.hashes) size)
    ∙ ap (λ (h : Header). h.version) (stored_front f m.header tail is.header is.version can)

third_only : (f : Format) (m : Meta) (block : List ℕ) → number f ≡ 3 → block ≡ block_as f m → block ≡ block_bytes m
third_only First m block e h = absurd (omega (arith, e))
third_only Second m block e h = absurd (omega (arith, e))
third_only Third m block e h = h

version_in : (block hashes : List ℕ) (len : ℕ) (m : Meta) (s : SpellsBlock block len m) → m.hashes ≡ hashes → be32_at block (4 + 2 * length hashes) ≡ number s.format
version_in block hashes len m s same =
    ap (λ (l : List ℕ). be32_at block (4 + 2 * length l)) (sym same) ∙ ap (λ l. be32_at l (4 + 2 * length m.hashes)) s.bytes ∙ version_at s.format m s.meta s.can

-- there is a version in a block
pub version_there : (block hashes : List ℕ) (len : ℕ) (m : Meta) → SpellsBlock block len m → m.hashes ≡ hashes → 8 + 2 * length hashes ≤ length block
version_there block hashes len m s same =
    omega (arith, ap (λ (l : List ℕ). length l) same, ap length s.bytes, length-block_as s.format m, (bytes_within s.format).0)

-- a block that says version 3 is written so
pub is_third : (block hashes : List ℕ) (len : ℕ) (m : Meta) → SpellsBlock block len m → m.hashes ≡ hashes → be32_at block (4 + 2 * length hashes) ≡ 3 → block ≡ block_bytes m
is_third block hashes len m s same third = third_only s.format m block (sym (version_in block hashes len m s same) ∙ third) s.bytes

-- a block of another key, other hashes or another version is that of no part
pub none_other : (key : List ℕ) (len : ℕ) (hashes part : List ℕ) (said : Meta) → left_of len (length hashes) ≡ 0 → SpellsBlock (drop 4 part) len said → ¬ (IsBlockOf said (drop 4 part) key hashes) → (p : Part) → ¬ (SpellsRest key len hashes p part)
unfolding block_of_part
none_other key len hashes part said none s other (Part.KeyPart k) h = h
none_other key len hashes part said none s other (Part.PiecePart piece) h = absurd (omega (arith, h.0, none))
none_other key len hashes part said none s other (Part.BlockPart m) h =
    let k = block_of_part key len hashes part m h in
    let same : m ≡ said = sym (Spells-says (drop 4 part) len m k) ∙ Spells-says (drop 4 part) len said s in
    other (subst (λ (x : Meta). IsBlockOf x (drop 4 part) key hashes) same (h.1.1.0, (h.1.1.1.1.0, version_in (drop 4 part) hashes len m k h.1.1.1.1.0)))

-- ---- after a length

length_none : (key part : List ℕ) (f : PartFault) → SpellsNoRest key (be32_at part 0) [] (drop 4 part) f → SpellsNone (Stage.AtLength key) part f
length_none key part faults.Memory h = tt
length_none key part faults.Bad h = λ p s.
    let len : be32_at part 0 ≡ s.0 = ap (λ l. be32_at l 0) s.1.1.1.0 ∙ be32_front s.0 s.1.0 (omega (arith, s.1.1.0)) in
    let rest : drop 4 part ≡ s.1.0 = ap (drop 4) s.1.1.1.0 in
    h p (subst (λ (n : ℕ). SpellsRest key n [] p (drop 4 part)) (sym len) (subst (λ (l : List ℕ). SpellsRest key s.0 [] p l) (sym rest) s.1.1.1.1))

pub lengths_none : {X : Type 0} (r : Result X PartFault) (key part rest : List ℕ) (n : ℕ) → n ≡ be32_at part 0 → rest ≡ drop 4 part → IfErr r (SpellsNoRest key n [] rest) → IfErr r (SpellsNone (Stage.AtLength key) part)
lengths_none (Ok x) key part rest n is same h = tt
lengths_none (Err f) key part rest n is same h =
    length_none key part f (subst (λ (k : ℕ). SpellsNoRest key k [] (drop 4 part) f) is (subst (λ (l : List ℕ). SpellsNoRest key n [] l f) same h))

pub item_stage : (d : Due) (last : List ℕ) (len : ℕ) (hashes : List ℕ) → IsItemDue d → Stage.AtItem (before_at d last) ≡ stage_at d last len hashes
item_stage due.Head last len hashes h = refl
item_stage due.Item last len hashes h = refl
item_stage due.Length last len hashes h = absurd h
item_stage due.Body last len hashes h = absurd h
