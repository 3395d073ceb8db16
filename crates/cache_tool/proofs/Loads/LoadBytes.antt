-- What the bytes of a source are, by how a load of them ended.
use Rattle.std.proofs.Common.{◌≡◌, ◌∙◌, ℕ, ◌+◌, ◌<◌, ◌≤◌, List, [], ◌∷◌, ◌++◌, length, drop, get_or, Option, None, Some, refl, sym, ap, subst, arith}
use Rattle.std.specs.Prelude.{flat_map}
use Rattle.std.proofs.lemmas.List.{append_assoc, append_cancel_left, append-nil, length-append}
use Rattle.cache_base.proofs.ByteLaws.{be32_front}
use Rattle.cache_base.specs.Bytes.{be32, be32_at}
use Rattle.cache_export.proofs.FieldLaws.{key_sizes, same_field, same_split}
use Rattle.cache_export.proofs.JoinedLaws.{dump_is_parts}
use Rattle.cache_export.specs.Dump.{IsDump, back_bytes, head, item_bytes}
use Rattle.cache_export.specs.Joined.{AreParts, parts_of}
use Rattle.cache_export.specs.Parts.{NoPart, Part, Spells, SpellsEnd, SpellsRest, Stage, after as due_after, key_bytes, lead}
use Rattle.cache_export.specs.declared.limits.TheConstants.{DUMP_MAX}
use Rattle.cache_tool.specs.Load.{ArePartsTo, BeginsLoaded, Begun, IsNoDump, Loaded, begun_parts, loaded_parts}
use Rattle.cache_tool.specs.LoadProgress.{AreLoaded, last_key}
use Rattle.cache_tool.proofs.Loads.LoadParts.{begun_is_of, no_end_within, parts_then}
use Rattle.entry_file.specs.Version.{Version}
use Rattle.entry_metadata.specs.Metadata.{block_bytes}
use Rattle.jenkins_hash.specs.Hash.{hash16_of}

-- ---- parts are read in one way

key_cut : (k c : List ℕ) → key_bytes k ++ c ≡ 1 ∷ (be32 (length k) ++ (k ++ c))
unfolding key_bytes
key_cut k c = refl

back_cut : (block c : List ℕ) → back_bytes block ++ c ≡ be32 (length block) ++ (block ++ c)
unfolding back_bytes
back_cut block c = refl

-- the same part at the beginning, or one that asks for the same
record IsSame (s : Stage) (p q : Part) (a b c d : List ℕ) : Type 0 where
  own : a ≡ b
  rest : c ≡ d
  next : due_after s p a ≡ due_after s q b

same_key : (before : Option (List ℕ)) (k l a b c d : List ℕ) → Spells (Stage.AtItem before) (Part.KeyPart k) a → Spells (Stage.AtItem before) (Part.KeyPart l) b → a ++ c ≡ b ++ d
    → IsSame (Stage.AtItem before) (Part.KeyPart k) (Part.KeyPart l) a b c d
same_key before k l a b c d s t e =
    let bytes : lead before ++ (key_bytes k ++ c) ≡ lead before ++ (key_bytes l ++ d) =
    sym (append_assoc (lead before) (key_bytes k) c) ∙ ap (λ x. x ++ c) (sym s.1.1) ∙ e ∙ ap (λ x. x ++ d) t.1.1 ∙ append_assoc (lead before) (key_bytes l) d in
    let cut = append_cancel_left (lead before) (key_bytes k ++ c) (key_bytes l ++ d) bytes in
    let fields = sym (key_cut k c) ∙ cut ∙ key_cut l d in
    let small = key_sizes k s.0 in
    let low = key_sizes l t.0 in
    let same = same_field k l c d (omega (arith, small.1)) (omega (arith, low.1)) (ap (drop 1) fields) in
    record { own = s.1.1 ∙ ap (λ x. lead before ++ key_bytes x) same.0 ∙ sym t.1.1; rest = same.1; next = ap (λ (x : List ℕ). Stage.AtLength x) same.0 }

-- a part of a body, or its block
record IsSameRest (p q : Part) (a b c d : List ℕ) : Type 0 where
  own : a ≡ b
  rest : c ≡ d
  next : (key key2 : List ℕ) (len : ℕ) (hashes : List ℕ) → due_after (Stage.InBody key len hashes) p a ≡ due_after (Stage.InBody key len hashes) q b

same_rest : (key : List ℕ) (len : ℕ) (hashes : List ℕ) (p q : Part) (a b c d : List ℕ) → SpellsRest key len hashes p a → SpellsRest key len hashes q b → a ++ c ≡ b ++ d → IsSameRest p q a b c d
same_rest key len hashes (Part.KeyPart k) q a b c d s t e = absurd s
same_rest key len hashes (Part.PiecePart x) (Part.KeyPart k) a b c d s t e = absurd t
same_rest key len hashes (Part.BlockPart m) (Part.KeyPart k) a b c d s t e = absurd t
same_rest key len hashes (Part.PiecePart x) (Part.BlockPart n) a b c d s t e = absurd (omega (arith, s.0, t.0))
same_rest key len hashes (Part.BlockPart m) (Part.PiecePart y) a b c d s t e = absurd (omega (arith, s.0, t.0))
same_rest key len hashes (Part.PiecePart x) (Part.PiecePart y) a b c d s t e =
    let size : length a ≡ length b = ap length s.1.1.1 ∙ s.1.0 ∙ sym t.1.0 ∙ sym (ap length t.1.1.1) in
    let same = same_split a b c d size e in
    let pieces : x ≡ y = sym s.1.1.1 ∙ same.0 ∙ t.1.1.1 in
    record { own = same.0; rest = same.1; next = λ k l n hs. ap (λ (z : List ℕ). Stage.InBody k n (hs ++ hash16_of z ∷ [])) pieces }
same_rest key len hashes (Part.BlockPart m) (Part.BlockPart n) a b c d s t e =
    let x = block_bytes m in
    let y = block_bytes n in
    let fields = sym (back_cut x c) ∙ ap (λ l. l ++ c) (sym s.1.1.1.1.1) ∙ e ∙ ap (λ l. l ++ d) t.1.1.1.1.1 ∙ back_cut y d in
    let small = s.1.0.small in
    let low = t.1.0.small in
    let same = same_field x y c d (omega (arith, small)) (omega (arith, low)) fields in
    record { own = s.1.1.1.1.1 ∙ ap back_bytes same.0 ∙ sym t.1.1.1.1.1; rest = same.1; next = λ k l n hs. refl }

-- the part after a length
next_at : (key : List ℕ) (p q : Part) (a b : List ℕ) (x y : List ℕ) (len : ℕ) → a ≡ b → SpellsRest key len [] p x → SpellsRest key len [] q y → IsSameRest p q x y [] [] → due_after (Stage.AtLength key) p a ≡ due_after (Stage.AtLength key) q b
next_at key (Part.KeyPart k) q a b x y len own s t same = absurd s
next_at key (Part.PiecePart z) (Part.KeyPart k) a b x y len own s t same = absurd t
next_at key (Part.BlockPart m) (Part.KeyPart k) a b x y len own s t same = absurd t
next_at key (Part.PiecePart z) (Part.BlockPart n) a b x y len own s t same = absurd (omega (arith, s.0, t.0))
next_at key (Part.BlockPart m) (Part.PiecePart w) a b x y len own s t same = absurd (omega (arith, s.0, t.0))
next_at key (Part.PiecePart z) (Part.PiecePart w) a b x y len own s t same =
    let pieces : z ≡ w = sym s.1.1.1 ∙ same.own ∙ t.1.1.1 in
    (λ i. Stage.InBody key (be32_at (own i) 0) (hash16_of (pieces i) ∷ []))
next_at key (Part.BlockPart m) (Part.BlockPart n) a b x y len own s t same = refl

same_length : (key : List ℕ) (p q : Part) (a b c d : List ℕ) → Spells (Stage.AtLength key) p a → Spells (Stage.AtLength key) q b → a ++ c ≡ b ++ d → IsSame (Stage.AtLength key) p q a b c d
same_length key p q a b c d s t e =
    let x = s.1.0 in
    let y = t.1.0 in
    let bytes : be32 s.0 ++ (x ++ c) ≡ be32 t.0 ++ (y ++ d) =
    sym (append_assoc (be32 s.0) x c) ∙ ap (λ l. l ++ c) (sym s.1.1.1.0) ∙ e ∙ ap (λ l. l ++ d) t.1.1.1.0 ∙ append_assoc (be32 t.0) y d in
    let small = s.1.1.0 in
    let low = t.1.1.0 in
    let len : s.0 ≡ t.0 = sym (be32_front s.0 (x ++ c) (omega (arith, small))) ∙ ap (λ l. be32_at l 0) bytes ∙ be32_front t.0 (y ++ d) (omega (arith, low)) in
    let other : SpellsRest key s.0 [] q y = subst (λ n. SpellsRest key n [] q y) (sym len) t.1.1.1.1 in
    let same = same_rest key s.0 [] p q x y c d s.1.1.1.1 other (ap (drop 4) bytes) in
    let own : a ≡ b = s.1.1.1.0 ∙ (λ i. be32 (len i) ++ same.own i) ∙ sym t.1.1.1.0 in
    record {
      own = own;
      rest = same.rest;
      next = next_at key p q a b x y s.0 own s.1.1.1.1 other (record { own = same.own; rest = refl; next = same.next });
    }

same_part : (s : Stage) (p q : Part) (a b c d : List ℕ) → Spells s p a → Spells s q b → a ++ c ≡ b ++ d → IsSame s p q a b c d
same_part (Stage.AtItem before) (Part.KeyPart k) (Part.KeyPart l) a b c d s t e = same_key before k l a b c d s t e
same_part (Stage.AtItem before) (Part.KeyPart k) (Part.PiecePart y) a b c d s t e = absurd t
same_part (Stage.AtItem before) (Part.KeyPart k) (Part.BlockPart n) a b c d s t e = absurd t
same_part (Stage.AtItem before) (Part.PiecePart x) q a b c d s t e = absurd s
same_part (Stage.AtItem before) (Part.BlockPart m) q a b c d s t e = absurd s
same_part (Stage.AtLength key) p q a b c d s t e = same_length key p q a b c d s t e
same_part (Stage.InBody key len hashes) p q a b c d s t e =
    let same = same_rest key len hashes p q a b c d s t e in
    record { own = same.own; rest = same.rest; next = same.next key key len hashes }

-- no part stands where a dump ends
no_end_at : (s : Stage) (p : Part) (a c : List ℕ) → Spells s p a → SpellsEnd s (a ++ c) → ⊥
no_end_at (Stage.AtItem before) (Part.KeyPart k) a c s e =
    let bytes : lead before ++ (key_bytes k ++ c) ≡ lead before ++ 0 ∷ [] = sym (append_assoc (lead before) (key_bytes k) c) ∙ ap (λ x. x ++ c) (sym s.1.1) ∙ e in
    let cut = sym (key_cut k c) ∙ append_cancel_left (lead before) (key_bytes k ++ c) (0 ∷ []) bytes in
    let first : 1 ≡ 0 = ap (λ (l : List ℕ). get_or l 0 0) cut in
    omega (arith, first)
no_end_at (Stage.AtItem before) (Part.PiecePart x) a c s e = s
no_end_at (Stage.AtItem before) (Part.BlockPart m) a c s e = s
no_end_at (Stage.AtLength key) p a c s e = e
no_end_at (Stage.InBody key len hashes) p a c s e = e

-- what follows parts that were read is what follows them in the dump
walk : (s t : Stage) (ps qs : List Part) (bytes own more : List ℕ) → ArePartsTo s ps own t → bytes ≡ own ++ more → AreParts s qs bytes → (rs : List Part) × AreParts t rs more
walk s t [] qs bytes own more h e are =
    let same : bytes ≡ more = e ∙ ap (λ l. l ++ more) h.0 in
    (qs, subst (λ (x : Stage). AreParts x qs more) (sym h.1) (subst (AreParts s qs) same are))
walk s t (p ∷ ps) [] bytes own more h e are =
    absurd (no_end_at s p h.0 (h.1.0 ++ more) h.1.1.0 (subst (SpellsEnd s) (e ∙ ap (λ l. l ++ more) h.1.1.1.0 ∙ append_assoc h.0 h.1.0 more) are))
walk s t (p ∷ ps) (q ∷ qs) bytes own more h e are =
    let both : h.0 ++ (h.1.0 ++ more) ≡ are.0 ++ are.1.0 = sym (append_assoc h.0 h.1.0 more) ∙ ap (λ l. l ++ more) (sym h.1.1.1.0) ∙ sym e ∙ are.1.1.1.0 in
    let same = same_part s p q h.0 are.0 (h.1.0 ++ more) are.1.0 h.1.1.0 are.1.1.0 both in
    walk (due_after s p h.0) t ps qs (h.1.0 ++ more) h.1.0 more h.1.1.1.1 refl
    (subst (λ (x : Stage). AreParts x qs (h.1.0 ++ more)) (sym same.next) (subst (AreParts (due_after s q are.0) qs) (sym same.rest) are.1.1.1.1))

none_left : (t : Stage) (used : ℕ) (rs : List Part) (more : List ℕ) → NoPart t used more → AreParts t rs more → DUMP_MAX < used + length more
none_left t used [] more none are = none.ending are
none_left t used (p ∷ rs) more none are =
    let past = none.part p are.0 are.1.0 are.1.1.0 are.1.1.1.0 in
    omega (arith, past, ap length are.1.1.1.0, length-append are.0 are.1.0)

-- bytes that go on with no part are no dump
pub no_dump : (t : Stage) (ps : List Part) (bytes own more : List ℕ) → ArePartsTo (Stage.AtItem None) ps own t → bytes ≡ own ++ more → NoPart t (length own) more → IsNoDump bytes
no_dump t ps bytes own more h e none = λ vs d.
    let are = (dump_is_parts bytes (flat_map parts_of vs) d.short).1 (vs, (d, refl)) in
    let rest = walk (Stage.AtItem None) t ps (flat_map parts_of vs) bytes own more h e are in
    let past = none_left t (length own) rest.0 more none rest.1 in
    let short = d.short in
    absurd (omega (arith, past, short, ap length e, length-append own more))

-- ---- the bytes begin with what was read

pub loaded_are : (l : Loaded) (own : List ℕ) (stage : Stage) → AreLoaded l own stage → ArePartsTo (Stage.AtItem None) (loaded_parts l) own stage
loaded_are l own stage are =
    let at = Stage.AtItem (last_key None l.items) in
    subst (λ (b : List ℕ). ArePartsTo (Stage.AtItem None) (loaded_parts l) b stage) (sym are.both)
    (parts_then (Stage.AtItem None) at stage (flat_map parts_of l.items) (begun_parts l.begun) are.front are.tail are.whole are.begun)

abbrev pub begins : (l : Loaded) (own more bytes : List ℕ) (stage : Stage) → AreLoaded l own stage → bytes ≡ own ++ more → length own ≤ DUMP_MAX → BeginsLoaded bytes l
begins l own more bytes stage are spelled short = record {
  own = own;
  more = more;
  stage = stage;
  items = are.items;
  parts = loaded_are l own stage are;
  spelled = spelled;
  short = short;
}

pub loaded_no_dump : (l : Loaded) (own more bytes : List ℕ) (stage : Stage) → AreLoaded l own stage → bytes ≡ own ++ more → NoPart stage (length own) more → IsNoDump bytes
loaded_no_dump l own more bytes stage are spelled none = no_dump stage (loaded_parts l) bytes own more (loaded_are l own stage are) spelled none

-- with the end after them they are a dump of the items
ends_whole : (items : List Version) (begun : Option Begun) (own end : List ℕ) (stage : Stage) → AreLoaded (record { items = items; begun = begun }) own stage → SpellsEnd stage end
    → length (own ++ end) ≤ DUMP_MAX → IsDump (own ++ end) items × (begun ≡ None)
ends_whole items (Some b) own end stage are e short = absurd (no_end_within b.key stage end (begun_is_of (last_key None items) b.key stage b.pieces are.tail are.begun) e)
ends_whole items None own end stage are e short =
    let before = last_key None items in
    let at : end ≡ lead before ++ 0 ∷ [] = subst (λ (x : Stage). SpellsEnd x end) are.begun.1 e in
    let front : own ≡ are.front = are.both ∙ ap (λ l. are.front ++ l) are.begun.0 ∙ append-nil are.front in (
      record {
        items = are.items;
        spelled = (λ i. front i ++ at i) ∙ sym (append_assoc are.front (lead before) (0 ∷ [])) ∙ ap (λ l. l ++ 0 ∷ []) are.spelled ∙ append_assoc head (flat_map item_bytes items) (0 ∷ []);
        short = short;
      },
      refl,
    )

pub whole_dump : (l : Loaded) (own end : List ℕ) (stage : Stage) → AreLoaded l own stage → SpellsEnd stage end → length (own ++ end) ≤ DUMP_MAX → IsDump (own ++ end) l.items × (l.begun ≡ None)
whole_dump l own end stage are e short = ends_whole l.items l.begun own end stage are e short
