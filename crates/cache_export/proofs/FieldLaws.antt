-- Fields after their lengths, and the items of dumps.
use Rattle.std.proofs.Common.{◌≡◌, ℕ, ◌<◌, ◌≤◌, ◌^◌, true, List, [], ◌∷◌, ◌++◌, length, drop, get_or, refl, sym, ap, ◌∙◌, arith, Some, None, Option}
use Rattle.std.specs.Prelude.{flat_map, nat_lt, nat_le, ◌&&◌}
use Rattle.std.specs.List.{list_all}
use Rattle.std.proofs.lemmas.Bool.{and_parts, leb-true, ltb-true}
use Rattle.std.proofs.lemmas.List.{append_assoc, append_cancel_left}
use Rattle.cache_base.proofs.ByteLaws.{be32_front}
use Rattle.cache_base.specs.Bytes.{be32, be32_at}
use Rattle.entry_file.specs.Version.{Version, version_meta}
use Rattle.entry_key.specs.Walk.{read_key, reads}
use Rattle.entry_key.specs.Writing.{is_plain_byte, may_write}
use Rattle.entry_metadata.specs.Checks.{meta_in}
use Rattle.entry_metadata.specs.Metadata.{Meta, Third, block_bytes}
use Rattle.entry_metadata.proofs.SpelledLaws.{block_reads_back}
use Rattle.cache_export.specs.Dump.{AreItems, DumpsAreOne, MayDump, back_bytes, front_bytes, head, item_bytes}

pub same_split : (a b c d : List ℕ) → length a ≡ length b → a ++ c ≡ b ++ d → (a ≡ b) × (c ≡ d)
same_split [] [] c d e h = (refl, h)
same_split [] (y ∷ b) c d e h = absurd (omega (arith, e))
same_split (x ∷ a) [] c d e h = absurd (omega (arith, e))
same_split (x ∷ a) (y ∷ b) c d e h =
    let tails = same_split a b c d (omega (arith, e)) (ap (drop 1) h) in
    let heads : x ≡ y = ap (λ (l : List ℕ). get_or l 0 0) h in
    (ap (λ z. z ∷ a) heads ∙ ap (λ l. y ∷ l) tails.0, tails.1)

-- a field after its length is read in one way
pub same_field : (a b c d : List ℕ) → length a < 2 ^ 32 → length b < 2 ^ 32 → be32 (length a) ++ (a ++ c) ≡ be32 (length b) ++ (b ++ d) → (a ≡ b) × (c ≡ d)
same_field a b c d low below h =
    let len : length a ≡ length b = sym (be32_front (length a) (a ++ c) low) ∙ ap (λ l. be32_at l 0) h ∙ be32_front (length b) (b ++ d) below in
    same_split a b c d len (ap (drop 4) h)

-- the length of a key that may be written
pub key_sizes : (key : List ℕ) → may_write key ≡ true → (0 < length key) × (length key ≤ 16384)
unfolding may_write
key_sizes key h =
    let outer = and_parts (nat_lt 0 (length key) && nat_le (length key) 16384 && list_all is_plain_byte key) (reads (read_key key)) h in
    let inner = and_parts (nat_lt 0 (length key) && nat_le (length key) 16384) (list_all is_plain_byte key) outer.0 in
    let lengths = and_parts (nat_lt 0 (length key)) (nat_le (length key) 16384) inner.0 in
    (ltb-true 0 (length key) lengths.0, leb-true (length key) 16384 lengths.1)

pub item_cut : (v : Version) (rest : List ℕ) → item_bytes v ++ rest
    ≡ 1 ∷ (be32 (length v.key) ++ (v.key ++ (be32 (length v.body) ++ (v.body ++ (be32 (length (block_bytes (version_meta v))) ++ (block_bytes (version_meta v) ++ rest))))))
unfolding front_bytes back_bytes
item_cut v rest =
    let block = block_bytes (version_meta v) in
    let tail : List ℕ = v.body ++ (be32 (length block) ++ (block ++ rest)) in
    let back : List ℕ = be32 (length block) ++ block in
    append_assoc (front_bytes v.key (length v.body)) (v.body ++ back) rest
    ∙ ap (λ l. front_bytes v.key (length v.body) ++ l) (append_assoc v.body back rest)
    ∙ ap (λ l. 1 ∷ (be32 (length v.key) ++ l)) (append_assoc v.key (be32 (length v.body)) tail)

made : Meta → List ℕ → Version
made m body = record { header = m.header; key = m.key; elements = m.elements; body = body }

-- an item is read in one way, whatever follows it
pub same_item : (v w : Version) (c d : List ℕ) → MayDump v → MayDump w → item_bytes v ++ c ≡ item_bytes w ++ d → (v ≡ w) × (c ≡ d)
unfolding made
same_item v w c d may can h =
    let cut = sym (item_cut v c) ∙ h ∙ item_cut w d in
    let small = key_sizes v.key may.key in
    let smaller = key_sizes w.key can.key in
    let keys = same_field v.key w.key _ _ (omega (arith, small.1)) (omega (arith, smaller.1)) (ap (drop 1) cut) in
    let bodies = same_field v.body w.body _ _ (omega (arith, may.body)) (omega (arith, can.body)) keys.1 in
    let blocks = same_field (block_bytes (version_meta v)) (block_bytes (version_meta w)) c d (omega (arith, may.version.meta.small)) (omega (arith, can.version.meta.small)) bodies.1 in
    let metas : version_meta v ≡ version_meta w =
    sym (block_reads_back Third (version_meta v) may.version.meta tt).1
    ∙ ap (λ b. meta_in b (length v.body)) blocks.0 ∙ ap (λ (l : List ℕ). meta_in (block_bytes (version_meta w)) (length l)) bodies.0
    ∙ (block_reads_back Third (version_meta w) can.version.meta tt).1 in
    (ap (λ m. made m v.body) metas ∙ ap (made (version_meta w)) bodies.0, blocks.1)

begins_item : (v : Version) (rest : List ℕ) → get_or (item_bytes v ++ rest) 0 0 ≡ 1
unfolding front_bytes
begins_item v rest = refl

same_items : (before other : Option (List ℕ)) (vs ws : List Version) → AreItems before vs → AreItems other ws
    → flat_map item_bytes vs ++ 0 ∷ [] ≡ flat_map item_bytes ws ++ 0 ∷ [] → vs ≡ ws
same_items before other [] [] are is h = refl
same_items before other [] (w ∷ ws) are is h =
    let first : 0 ≡ 1 = ap (λ (l : List ℕ). get_or l 0 0) (h ∙ append_assoc (item_bytes w) (flat_map item_bytes ws) (0 ∷ [])) ∙ begins_item w (flat_map item_bytes ws ++ 0 ∷ []) in
    absurd (omega (arith, first))
same_items before other (v ∷ vs) [] are is h =
    let first : 0 ≡ 1 = ap (λ (l : List ℕ). get_or l 0 0) (sym h ∙ append_assoc (item_bytes v) (flat_map item_bytes vs) (0 ∷ [])) ∙ begins_item v (flat_map item_bytes vs ++ 0 ∷ []) in
    absurd (omega (arith, first))
same_items before other (v ∷ vs) (w ∷ ws) are is h =
    let both = same_item v w (flat_map item_bytes vs ++ 0 ∷ []) (flat_map item_bytes ws ++ 0 ∷ []) are.0 is.0
    (sym (append_assoc (item_bytes v) (flat_map item_bytes vs) (0 ∷ [])) ∙ h ∙ append_assoc (item_bytes w) (flat_map item_bytes ws) (0 ∷ [])) in
    ap (λ x. x ∷ vs) both.0 ∙ ap (λ l. w ∷ l) (same_items (Some v.key) (Some w.key) vs ws are.1.1 is.1.1 both.1)

pub dumps_are_one : DumpsAreOne
dumps_are_one bytes vs ws d e =
    same_items None None vs ws d.items e.items (append_cancel_left head (flat_map item_bytes vs ++ 0 ∷ []) (flat_map item_bytes ws ++ 0 ∷ []) (sym d.spelled ∙ e.spelled))
