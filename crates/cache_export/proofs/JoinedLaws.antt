-- A dump is its parts, one after another.
use Rattle.std.proofs.Common.{◌≡◌, ℕ, zero, suc, ◌+◌, ◌-◌, ◌<◌, ◌≤◌, true, min, List, [], ◌∷◌, ◌++◌, length, take, drop, Option, None, Some, refl, sym, ap, ◌∙◌, subst, arith}
use Rattle.std.specs.Prelude.{flat_map}
use Rattle.std.proofs.lemmas.List.{append_assoc, append-nil, length-append, length-drop, length-take, take-append-drop}
use Rattle.cache_base.proofs.ByteLaws.{be32_front, bytes_drop, bytes_take}
use Rattle.cache_base.specs.Bytes.{AreBytes, be32, be32_at}
use Rattle.cache_base.specs.declared.limits.TheConstants.{BODY_MAX}
use Rattle.chunk_store.specs.Chunks.{chunk_hashes}
use Rattle.chunk_store.proofs.EachChunk.{first_chunk}
use Rattle.entry_file.specs.Version.{IsVersion, Version, version_meta}
use Rattle.entry_key.specs.Writing.{may_write}
use Rattle.entry_metadata.specs.Metadata.{IsMeta, Meta, block_bytes}
use Rattle.jenkins_hash.specs.Hash.{hash16_of}
use Rattle.cache_export.specs.Dump.{AreItems, IsAbove, back_bytes, item_bytes}
use Rattle.cache_export.specs.Joined.{AreParts, DumpIsParts, parts_of, pieces}
use Rattle.cache_export.specs.Parts.{Part, Spells, SpellsRest, Stage, after, key_bytes, lead, left_of}
use Rattle.cache_export.proofs.FieldLaws.{item_cut}
use Rattle.cache_export.proofs.ChunkLaws.{chunk_joined}

-- the bytes of items and of the end
abbrev pub items_end : List Version → List ℕ
items_end vs = flat_map item_bytes vs ++ 0 ∷ []

-- ---- what parts make up

-- items, and the end
record IsItems (before : Option (List ℕ)) (ps : List Part) (bytes : List ℕ) : Type 0 where
  pub vs : List Version
  pub items : AreItems before vs
  pub spelled : bytes ≡ lead before ++ items_end vs
  pub parts : ps ≡ flat_map parts_of vs

-- the rest of a body, its block, and items
record IsRest (key : List ℕ) (len : ℕ) (hashes : List ℕ) (ps : List Part) (bytes : List ℕ) : Type 0 where
  pub body : List ℕ
  pub are : AreBytes body
  pub size : length body ≡ left_of len (length hashes)
  pub said : Meta
  pub meta : IsMeta said
  pub key_is : said.key ≡ key
  pub at : said.offset ≡ len
  pub hashes_are : said.hashes ≡ hashes ++ chunk_hashes body
  pub vs : List Version
  pub items : AreItems (Some key) vs
  pub spelled : bytes ≡ body ++ (back_bytes (block_bytes said) ++ items_end vs)
  pub parts : ps ≡ pieces body ++ (Part.BlockPart said ∷ flat_map parts_of vs)

-- an item after its key, and items
record IsVersionOf (key : List ℕ) (ps : List Part) (bytes : List ℕ) : Type 0 where
  pub v : Version
  pub is : IsVersion v
  pub key_is : v.key ≡ key
  pub short : length v.body ≤ BODY_MAX
  pub vs : List Version
  pub items : AreItems (Some key) vs
  pub spelled : bytes ≡ be32 (length v.body) ++ (v.body ++ (back_bytes (block_bytes (version_meta v)) ++ items_end vs))
  pub parts : ps ≡ pieces v.body ++ (Part.BlockPart (version_meta v) ∷ flat_map parts_of vs)

abbrev MakeUp : Stage → List Part → List ℕ → Type 0
MakeUp (Stage.AtItem before) ps bytes = IsItems before ps bytes
MakeUp (Stage.AtLength key) ps bytes = IsVersionOf key ps bytes
MakeUp (Stage.InBody key len hashes) ps bytes = IsRest key len hashes ps bytes

both_bytes : (a b : List ℕ) → AreBytes a → AreBytes b → AreBytes (a ++ b)
both_bytes [] b is are = are
both_bytes (x ∷ a) b is are = (is.0, both_bytes a b is.1 are)

-- a part of a body before what others make up
rest_step : (key : List ℕ) (len : ℕ) (hashes : List ℕ) (p : Part) (ps : List Part) (own rest : List ℕ) → SpellsRest key len hashes p own
    → MakeUp (after (Stage.InBody key len hashes) p own) ps rest → IsRest key len hashes (p ∷ ps) (own ++ rest)
rest_step key len hashes (Part.KeyPart k) ps own rest s made = absurd s
rest_step key len hashes (Part.PiecePart piece) ps own rest s made =
    let count = length-append hashes (hash16_of piece ∷ []) in
    let size : length (piece ++ made.body) ≡ left_of len (length hashes) = omega (arith, length-append piece made.body, made.size, count, s.1.0) in
    let whole : length piece ≡ min 262144 (length piece + length made.body) = omega (arith, made.size, count, s.0, s.1.0) in
    let some : 0 < length piece = omega (arith, s.0, s.1.0) in
    record {
      body = piece ++ made.body;
      are = both_bytes piece made.body s.1.1.0 made.are;
      size = size;
      said = made.said;
      meta = made.meta;
      key_is = made.key_is;
      at = made.at;
      hashes_are = made.hashes_are ∙ append_assoc hashes (hash16_of piece ∷ []) (chunk_hashes made.body)
          ∙ ap (λ (l : List ℕ). hashes ++ l) (sym (chunk_joined hash16_of piece made.body some whole));
      vs = made.vs;
      items = made.items;
      spelled = ap (λ l. l ++ rest) s.1.1.1 ∙ ap (λ l. piece ++ l) made.spelled ∙ sym (append_assoc piece made.body (back_bytes (block_bytes made.said) ++ items_end made.vs));
      parts = ap (λ l. Part.PiecePart piece ∷ l) made.parts ∙ ap (λ (l : List Part). l ++ (Part.BlockPart made.said ∷ flat_map parts_of made.vs)) (sym (chunk_joined Part.PiecePart piece made.body some whole));
    }
rest_step key len hashes (Part.BlockPart said) ps own rest s made = record {
  body = [];
  are = tt;
  size = sym s.0;
  said = said;
  meta = s.1.0;
  key_is = s.1.1.0;
  at = s.1.1.1.0;
  hashes_are = s.1.1.1.1.0 ∙ sym (append-nil hashes);
  vs = made.vs;
  items = made.items;
  spelled = ap (λ l. l ++ rest) s.1.1.1.1.1 ∙ ap (λ l. back_bytes (block_bytes said) ++ l) made.spelled;
  parts = ap (λ l. Part.BlockPart said ∷ l) made.parts;
}

-- a body that follows its length
version_made : (key : List ℕ) (len : ℕ) (ps : List Part) (bytes : List ℕ) → len ≤ BODY_MAX → IsRest key len [] ps bytes → IsVersionOf key ps (be32 len ++ bytes)
version_made key len ps bytes short r =
    let v : Version = record { header = r.said.header; key = r.said.key; elements = r.said.elements; body = r.body } in
    let size : length r.body ≡ len = omega (arith, r.size) in
    let same : r.said ≡ version_meta v = λ i. record { header = r.said.header; key = r.said.key; elements = r.said.elements; hashes = r.hashes_are i; offset = (r.at ∙ sym size) i } in
    record {
      v = v;
      is = record { meta = subst IsMeta same r.meta; body = r.are };
      key_is = r.key_is;
      short = omega (arith, size, short);
      vs = r.vs;
      items = r.items;
      spelled = ap (λ l. be32 len ++ l) r.spelled ∙ (λ i. be32 (sym size i) ++ (r.body ++ (back_bytes (block_bytes (same i)) ++ items_end r.vs)));
      parts = r.parts ∙ ap (λ (m : Meta). pieces r.body ++ (Part.BlockPart m ∷ flat_map parts_of r.vs)) same;
    }

-- the part after a length is a part of the body
number_own : (own rest : List ℕ) (len : ℕ) → len ≤ BODY_MAX → own ≡ be32 len ++ rest → be32_at own 0 ≡ len
number_own own rest len short is = ap (λ l. be32_at l 0) is ∙ be32_front len rest (omega (arith, short))

length_after : (key : List ℕ) (len : ℕ) (p : Part) (own rest : List ℕ) → len ≤ BODY_MAX → own ≡ be32 len ++ rest → SpellsRest key len [] p rest → after (Stage.AtLength key) p own ≡ after (Stage.InBody key len []) p rest
length_after key len (Part.KeyPart k) own rest short is s = absurd s
length_after key len (Part.PiecePart piece) own rest short is s = ap (λ n. Stage.InBody key n (hash16_of piece ∷ [])) (number_own own rest len short is)
length_after key len (Part.BlockPart said) own rest short is s = refl

version_step : (key : List ℕ) (p : Part) (ps : List Part) (own rest : List ℕ) → Spells (Stage.AtLength key) p own → MakeUp (after (Stage.AtLength key) p own) ps rest → IsVersionOf key (p ∷ ps) (own ++ rest)
version_step key p ps own rest s made =
    let len = s.0 in
    let mine = s.1.0 in
    let inner = rest_step key len [] p ps mine rest s.1.1.1.1 (subst (λ (t : Stage). MakeUp t ps rest) (length_after key len p own mine s.1.1.0 s.1.1.1.0 s.1.1.1.1) made) in
    subst (IsVersionOf key (p ∷ ps)) (sym (ap (λ l. l ++ rest) s.1.1.1.0)) (version_made key len (p ∷ ps) (mine ++ rest) s.1.1.0 inner)

-- the bytes of a key and of what follows it in an item
item_spelled : (before : Option (List ℕ)) (v : Version) (vs : List Version) → (lead before ++ key_bytes v.key) ++ (be32 (length v.body) ++ (v.body ++ (back_bytes (block_bytes (version_meta v)) ++ items_end vs))) ≡ lead before ++ items_end (v ∷ vs)
unfolding key_bytes back_bytes
item_spelled before v vs =
    let block = block_bytes (version_meta v) in
    append_assoc (lead before) (key_bytes v.key) (be32 (length v.body) ++ (v.body ++ (back_bytes block ++ items_end vs)))
    ∙ ap (λ l. lead before ++ l) (sym (item_cut v (items_end vs)) ∙ sym (append_assoc (item_bytes v) (flat_map item_bytes vs) (0 ∷ [])))

item_step : (before : Option (List ℕ)) (p : Part) (ps : List Part) (own rest : List ℕ) → Spells (Stage.AtItem before) p own → MakeUp (after (Stage.AtItem before) p own) ps rest → IsItems before (p ∷ ps) (own ++ rest)
item_step before (Part.PiecePart piece) ps own rest s made = absurd s
item_step before (Part.BlockPart said) ps own rest s made = absurd s
item_step before (Part.KeyPart key) ps own rest s made =
    let v = made.v in
    let may : may_write v.key ≡ true = subst (λ (k : List ℕ). may_write k ≡ true) (sym made.key_is) s.0 in
    record {
      vs = v ∷ made.vs;
      items = (record { version = made.is; key = may; body = made.short }, (subst (IsAbove before) (sym made.key_is) s.1.0, subst (λ (k : List ℕ). AreItems (Some k) made.vs) (sym made.key_is) made.items));
      spelled = (λ i. (s.1.1 ∙ ap (λ k. lead before ++ key_bytes k) (sym made.key_is)) i ++ made.spelled i) ∙ item_spelled before v made.vs;
      parts = (λ i. Part.KeyPart (sym made.key_is i) ∷ made.parts i) ∙ ap (λ (l : List Part). Part.KeyPart v.key ∷ l) (sym (append_assoc (pieces v.body) (Part.BlockPart (version_meta v) ∷ []) (flat_map parts_of made.vs)));
    }

make_up : (stage : Stage) (ps : List Part) (bytes : List ℕ) → AreParts stage ps bytes → MakeUp stage ps bytes
make_up (Stage.AtItem before) [] bytes h = record { vs = []; items = tt; spelled = h; parts = refl }
make_up (Stage.AtLength key) [] bytes h = absurd h
make_up (Stage.InBody key len hashes) [] bytes h = absurd h
make_up (Stage.AtItem before) (p ∷ ps) bytes h =
    subst (IsItems before (p ∷ ps)) (sym h.1.1.1.0) (item_step before p ps h.0 h.1.0 h.1.1.0 (make_up (after (Stage.AtItem before) p h.0) ps h.1.0 h.1.1.1.1))
make_up (Stage.AtLength key) (p ∷ ps) bytes h =
    subst (IsVersionOf key (p ∷ ps)) (sym h.1.1.1.0) (version_step key p ps h.0 h.1.0 h.1.1.0 (make_up (after (Stage.AtLength key) p h.0) ps h.1.0 h.1.1.1.1))
make_up (Stage.InBody key len hashes) (p ∷ ps) bytes h =
    subst (IsRest key len hashes (p ∷ ps)) (sym h.1.1.1.0) (rest_step key len hashes p ps h.0 h.1.0 h.1.1.0 (make_up (after (Stage.InBody key len hashes) p h.0) ps h.1.0 h.1.1.1.1))

-- ---- and a dump is made of parts

less_left : (n a b : ℕ) → b ≡ a - 262144 → a ≤ suc n → b ≤ n
less_left n a b e h = omega (arith, e, h)

next_left : (len k c a b : ℕ) → b ≡ a - 262144 → a ≡ left_of len k → c ≡ k + 1 → b ≡ left_of len c
next_left len k c a b e h f = omega (arith, e, h, f)

some_cons : (x : ℕ) (xs : List ℕ) → 0 < length (x ∷ xs)
some_cons x xs = omega arith

none_short : (x : ℕ) (xs : List ℕ) → length (x ∷ xs) ≤ 0 → ⊥
none_short x xs h = omega (arith, h)

-- a body of at most n bytes, its block, and what follows
body_apart : (n : ℕ) (body : List ℕ) (key : List ℕ) (len : ℕ) (hashes : List ℕ) (said : Meta) (ps : List Part) (more : List ℕ) → length body ≤ n → AreBytes body → length body ≡ left_of len (length hashes)
    → IsMeta said → said.key ≡ key → said.offset ≡ len → said.hashes ≡ hashes ++ chunk_hashes body → AreParts (Stage.AtItem (Some key)) ps more
    → AreParts (Stage.InBody key len hashes) (pieces body ++ (Part.BlockPart said ∷ ps)) (body ++ (back_bytes (block_bytes said) ++ more))
body_apart n [] key len hashes said ps more short are size meta key_is at hashes_are later = (
  back_bytes (block_bytes said),
  (more, ((sym size, (meta, (key_is, (at, (hashes_are ∙ append-nil hashes, refl))))), (refl, later))),
)
body_apart zero (x ∷ body) key len hashes said ps more short are size meta key_is at hashes_are later = absurd (none_short x body short)
body_apart (suc n) (x ∷ body) key len hashes said ps more short are size meta key_is at hashes_are later =
    let whole : List ℕ = x ∷ body in
    let piece : List ℕ = take 262144 whole in
    let rest : List ℕ = drop 262144 whole in
    let block = back_bytes (block_bytes said) in
    let some : 0 < length whole = some_cons x body in
    let taken : length piece ≡ min 262144 (length whole) = length-take 262144 whole in
    let left : length rest ≡ length whole - 262144 = length-drop 262144 whole in
    let count = length-append hashes (hash16_of piece ∷ []) in
    let hashed : said.hashes ≡ (hashes ++ hash16_of piece ∷ []) ++ chunk_hashes rest =
    hashes_are ∙ ap (λ (l : List ℕ). hashes ++ l) (first_chunk hash16_of whole some) ∙ sym (append_assoc hashes (hash16_of piece ∷ []) (chunk_hashes rest)) in
    let others : AreParts (Stage.InBody key len (hashes ++ hash16_of piece ∷ [])) (pieces rest ++ (Part.BlockPart said ∷ ps)) (rest ++ (block ++ more)) =
    body_apart n rest key len (hashes ++ hash16_of piece ∷ []) said ps more (less_left n (length whole) (length rest) left short) (bytes_drop 262144 whole are) (next_left len (length hashes) (length (hashes ++ hash16_of piece ∷ [])) (length whole) (length rest) left size count) meta key_is at hashed later in
    let joined : whole ++ (block ++ more) ≡ piece ++ (rest ++ (block ++ more)) = ap (λ l. l ++ (block ++ more)) (sym (take-append-drop 262144 whole)) ∙ append_assoc piece rest (block ++ more) in
    subst (λ (l : List Part). AreParts (Stage.InBody key len hashes) (l ++ (Part.BlockPart said ∷ ps)) (whole ++ (block ++ more))) (sym (first_chunk Part.PiecePart whole some))
    (piece, (rest ++ (block ++ more), ((subst (λ (m : ℕ). 0 < m) size some, (taken ∙ ap (min 262144) size, (bytes_take 262144 whole are, refl))), (joined, others))))

-- a body after its length
length_apart : (key : List ℕ) (len : ℕ) (ps : List Part) (bytes : List ℕ) → len ≤ BODY_MAX → AreParts (Stage.InBody key len []) ps bytes → AreParts (Stage.AtLength key) ps (be32 len ++ bytes)
length_apart key len [] bytes short h = absurd h
length_apart key len (p ∷ ps) bytes short h =
    let own : List ℕ = be32 len ++ h.0 in (
      own,
      (
        h.1.0,
        (
          (len, (h.0, (short, (refl, h.1.1.0)))),
          (
            ap (λ l. be32 len ++ l) h.1.1.1.0 ∙ sym (append_assoc (be32 len) h.0 h.1.0),
            subst (λ (t : Stage). AreParts t ps h.1.0) (sym (length_after key len p own h.0 short refl h.1.1.0)) h.1.1.1.1,
          ),
        ),
      ),
    )

items_apart : (before : Option (List ℕ)) (vs : List Version) → AreItems before vs → AreParts (Stage.AtItem before) (flat_map parts_of vs) (lead before ++ items_end vs)
items_apart before [] items = refl
items_apart before (v ∷ vs) items =
    let key = v.key in
    let block = back_bytes (block_bytes (version_meta v)) in
    let others = items_apart (Some key) vs items.1.1 in
    let size : length v.body ≡ left_of (length v.body) 0 = omega arith in
    let short : length v.body ≤ BODY_MAX = items.0.body in
    let body = body_apart (length v.body) v.body key (length v.body) [] (version_meta v) (flat_map parts_of vs) (items_end vs) (omega arith) items.0.version.body size items.0.version.meta refl refl refl others in
    let after_key = length_apart key (length v.body) (pieces v.body ++ (Part.BlockPart (version_meta v) ∷ flat_map parts_of vs)) (v.body ++ (block ++ items_end vs)) short body in
    subst (λ (l : List Part). AreParts (Stage.AtItem before) (Part.KeyPart key ∷ l) (lead before ++ items_end (v ∷ vs))) (sym (append_assoc (pieces v.body) (Part.BlockPart (version_meta v) ∷ []) (flat_map parts_of vs)))
    (lead before ++ key_bytes key, (be32 (length v.body) ++ (v.body ++ (block ++ items_end vs)), ((items.0.key, (items.1.0, refl)), (sym (item_spelled before v vs), after_key))))

pub dump_is_parts : DumpIsParts
dump_is_parts bytes ps short = (
  λ h.
      let m = make_up (Stage.AtItem None) ps bytes h in
      (m.vs, (record { items = m.items; spelled = m.spelled; short = short }, m.parts)),
  λ d.
      subst (λ (l : List Part). AreParts (Stage.AtItem None) l bytes) (sym d.1.1)
      (subst (AreParts (Stage.AtItem None) (flat_map parts_of d.0)) (sym d.1.0.spelled) (items_apart None d.0 d.1.0.items)),
)
