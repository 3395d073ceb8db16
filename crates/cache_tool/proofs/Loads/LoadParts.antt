-- The parts of a dump, as far as they were read.
use Rattle.std.proofs.Common.{◌≡◌, ◌∙◌, ℕ, ◌+◌, ◌≤◌, true, List, [], ◌∷◌, ◌++◌, length, map, drop, Option, None, Some, refl, sym, ap, subst, arith}
use Rattle.std.specs.List.{range_with_len}
use Rattle.std.specs.Prelude.{flat_map}
use Rattle.std.proofs.lemmas.Grind.{flat_map-append}
use Rattle.std.proofs.lemmas.List.{append_assoc, append_cancel_left, append_cancel_right, append-nil, length-append, map-append}
use Rattle.cache_base.proofs.ByteLaws.{be32_front}
use Rattle.cache_base.specs.Bytes.{be32, be32_at}
use Rattle.cache_base.specs.Limits.{chunks}
use Rattle.cache_base.specs.declared.limits.TheConstants.{BLOCK_MAX, BODY_MAX}
use Rattle.cache_export.proofs.FieldLaws.{key_sizes}
use Rattle.cache_export.proofs.FrontLaws.{key_size}
use Rattle.cache_export.proofs.JoinedLaws.{dump_is_parts}
use Rattle.cache_export.specs.Dump.{AreItems, IsAbove, IsDump, MayDump, back_bytes, head, item_bytes}
use Rattle.cache_export.specs.Joined.{AreParts, parts_of, pieces}
use Rattle.cache_export.specs.Parts.{Part, Spells, SpellsEnd, Stage, after as due_after, key_bytes, lead, left_of}
use Rattle.cache_export.specs.declared.limits.TheConstants.{DUMP_MAX}
use Rattle.cache_theory.specs.Command.{Command}
use Rattle.cache_theory.specs.Command.Command.{Append, Close, Create, FinishAs}
use Rattle.cache_theory.specs.Loading.{item_written, items_written, pieces_of}
use Rattle.cache_tool.specs.Load.{ArePartsTo, Begun, Loaded, loaded_commands}
use Rattle.cache_tool.specs.LoadProgress.{AreLoaded, last_key, part_commands}
use Rattle.chunk_store.specs.Chunks.{chunk}
use Rattle.entry_file.specs.Version.{Version, version_meta}
use Rattle.entry_key.specs.Writing.{may_write}
use Rattle.entry_metadata.specs.Metadata.{Meta, block_bytes}
use Rattle.jenkins_hash.specs.Hash.{hash16_of}

-- ---- parts one after another

pub parts_then : (s t u : Stage) (ps qs : List Part) (a b : List ℕ) → ArePartsTo s ps a t → ArePartsTo t qs b u → ArePartsTo s (ps ++ qs) (a ++ b) u
parts_then s t u [] qs a b h k = subst (λ (x : Stage). ArePartsTo x qs (a ++ b) u) h.1 (subst (λ (l : List ℕ). ArePartsTo t qs (l ++ b) u) (sym h.0) k)
parts_then s t u (p ∷ ps) qs a b h k =
    (h.0, (h.1.0 ++ b, (h.1.1.0, (ap (λ l. l ++ b) h.1.1.1.0 ∙ append_assoc h.0 h.1.0 b, parts_then (due_after s p h.0) t u ps qs h.1.0 b h.1.1.1.1 k))))

part_one : (s : Stage) (p : Part) (own : List ℕ) → Spells s p own → ArePartsTo s (p ∷ []) own (due_after s p own)
part_one s p own spells = (own, ([], (spells, (sym (append-nil own), (refl, refl)))))

parts_end : (s t : Stage) (ps : List Part) (a b : List ℕ) → ArePartsTo s ps a t → SpellsEnd t b → AreParts s ps (a ++ b)
parts_end s t [] a b h k = subst (λ (x : Stage). SpellsEnd x (a ++ b)) h.1 (subst (λ (l : List ℕ). SpellsEnd t (l ++ b)) (sym h.0) k)
parts_end s t (p ∷ ps) a b h k =
    (h.0, (h.1.0 ++ b, (h.1.1.0, (ap (λ l. l ++ b) h.1.1.1.0 ∙ append_assoc h.0 h.1.0 b, parts_end (due_after s p h.0) t ps h.1.0 b h.1.1.1.1 k))))

-- ---- within an item

-- a part of the body under this key is due, or its block
abbrev IsOf : List ℕ → Stage → Type 0
IsOf key (Stage.AtItem before) = ⊥
IsOf key (Stage.AtLength k) = k ≡ key
IsOf key (Stage.InBody k len hashes) = k ≡ key

piece_of : (key : List ℕ) (s : Stage) (piece own : List ℕ) → IsOf key s → Spells s (Part.PiecePart piece) own → IsOf key (due_after s (Part.PiecePart piece) own)
piece_of key (Stage.AtItem before) piece own of s = absurd of
piece_of key (Stage.AtLength k) piece own of s = of
piece_of key (Stage.InBody k len hashes) piece own of s = of

pieces_are_of : (key : List ℕ) (s t : Stage) (ps : List (List ℕ)) (a : List ℕ) → IsOf key s → ArePartsTo s (map (λ piece. Part.PiecePart piece) ps) a t → IsOf key t
pieces_are_of key s t [] a of h = subst (IsOf key) (sym h.1) of
pieces_are_of key s t (p ∷ ps) a of h = pieces_are_of key (due_after s (Part.PiecePart p) h.0) t ps h.1.0 (piece_of key s p h.0 of h.1.1.0) h.1.1.1.1

pub begun_is_of : (before : Option (List ℕ)) (key : List ℕ) (t : Stage) (ps : List (List ℕ)) (a : List ℕ)
    → ArePartsTo (Stage.AtItem before) (Part.KeyPart key ∷ map (λ piece. Part.PiecePart piece) ps) a t → IsOf key t
begun_is_of before key t ps a h = pieces_are_of key (Stage.AtLength key) t ps h.1.0 refl h.1.1.1.1

no_key_within : (key : List ℕ) (s : Stage) (k own : List ℕ) → IsOf key s → Spells s (Part.KeyPart k) own → ⊥
no_key_within key (Stage.AtItem before) k own of s = of
no_key_within key (Stage.AtLength l) k own of s = s.1.1.1.1
no_key_within key (Stage.InBody l len hashes) k own of s = s

pub no_end_within : (key : List ℕ) (s : Stage) (bytes : List ℕ) → IsOf key s → SpellsEnd s bytes → ⊥
no_end_within key (Stage.AtItem before) bytes of e = of
no_end_within key (Stage.AtLength k) bytes of e = e
no_end_within key (Stage.InBody k len hashes) bytes of e = e

block_ends : (key : List ℕ) (s : Stage) (said : Meta) (own : List ℕ) → IsOf key s → due_after s (Part.BlockPart said) own ≡ Stage.AtItem (Some key)
block_ends key (Stage.AtItem before) said own of = absurd of
block_ends key (Stage.AtLength k) said own of = ap (λ (l : List ℕ). Stage.AtItem (Some l)) of
block_ends key (Stage.InBody k len hashes) said own of = ap (λ (l : List ℕ). Stage.AtItem (Some l)) of

-- ---- how long an item is

pub back_size : (block : List ℕ) → length (back_bytes block) ≡ 4 + length block
unfolding back_bytes
back_size block = omega arith

rest_size : (key : List ℕ) (len : ℕ) (hashes : List ℕ) (ps : List (List ℕ)) (said : Meta) (bytes : List ℕ) (t : Stage)
    → ArePartsTo (Stage.InBody key len hashes) (map (λ piece. Part.PiecePart piece) ps ++ Part.BlockPart said ∷ []) bytes t → length bytes ≤ left_of len (length hashes) + (4 + BLOCK_MAX)
rest_size key len hashes [] said bytes t h =
    let s = h.1.1.0 in
    omega (arith, ap length h.1.1.1.0, length-append h.0 h.1.0, ap length h.1.1.1.1.0, ap length s.1.1.1.1.1, back_size (block_bytes said), s.1.0.small)
rest_size key len hashes (p ∷ ps) said bytes t h =
    let s = h.1.1.0 in
    let more = rest_size key len (hashes ++ hash16_of p ∷ []) ps said h.1.0 t h.1.1.1.1 in
    omega (arith, ap length h.1.1.1.0, length-append h.0 h.1.0, more, length-append hashes (hash16_of p ∷ []), s.1.0, ap length s.1.1.1, s.0)

number_own : (own rest : List ℕ) (len : ℕ) → len ≤ BODY_MAX → own ≡ be32 len ++ rest → be32_at own 0 ≡ len
number_own own rest len short is = ap (λ l. be32_at l 0) is ∙ be32_front len rest (omega (arith, short))

pub number_long : (n : ℕ) (xs : List ℕ) → length (be32 n ++ xs) ≡ 4 + length xs
number_long n xs = omega arith

body_size : (key : List ℕ) (ps : List (List ℕ)) (said : Meta) (bytes : List ℕ) (t : Stage)
    → ArePartsTo (Stage.AtLength key) (map (λ piece. Part.PiecePart piece) ps ++ Part.BlockPart said ∷ []) bytes t → length bytes ≤ 4 + BODY_MAX + (4 + BLOCK_MAX)
body_size key [] said bytes t h =
    let n = h.1.1.0 in
    let s = n.1.1.1.1 in
    omega (arith, ap length h.1.1.1.0, length-append h.0 h.1.0, ap length h.1.1.1.1.0, ap length n.1.1.1.0, number_long n.0 n.1.0, ap length s.1.1.1.1.1, back_size (block_bytes said), s.1.0.small)
body_size key (p ∷ ps) said bytes t h =
    let n = h.1.1.0 in
    let s = n.1.1.1.1 in
    let small = n.1.1.0 in
    let more = rest_size key (be32_at h.0 0) (hash16_of p ∷ []) ps said h.1.0 t h.1.1.1.1 in
    let len : be32_at h.0 0 ≡ n.0 = number_own h.0 n.1.0 n.0 small n.1.1.1.0 in
    omega (arith, ap length h.1.1.1.0, length-append h.0 h.1.0, more, len, small, ap length n.1.1.1.0, number_long n.0 n.1.0, s.1.0, ap length s.1.1.1, s.0)

-- ---- a whole item

map_pieces : (body : List ℕ) (is : List ℕ) → map (λ i. Part.PiecePart (chunk body i)) is ≡ map (λ piece. Part.PiecePart piece) (map (chunk body) is)
map_pieces body [] = refl
map_pieces body (i ∷ is) = ap (λ l. Part.PiecePart (chunk body i) ∷ l) (map_pieces body is)

-- the pieces, the block and the rest are the same
same_pieces : (xs ys : List (List ℕ)) (a m : Meta) (rest : List Part)
    → ◌≡◌ {A = List Part} (map (λ piece. Part.PiecePart piece) xs ++ Part.BlockPart a ∷ []) (map (λ piece. Part.PiecePart piece) ys ++ Part.BlockPart m ∷ rest) → (xs ≡ ys) × ((a ≡ m) × (rest ≡ []))
same_pieces [] [] a m rest e = (refl, ((let one : a ≡ m = cc in one), (let none : rest ≡ [] = cc in none)))
same_pieces [] (y ∷ ys) a m rest e = absurd (cc)
same_pieces (x ∷ xs) [] a m rest e = absurd (cc)
same_pieces (x ∷ xs) (y ∷ ys) a m rest e =
    let one : x ≡ y = cc in
    let more = same_pieces xs ys a m rest (ap (drop 1) e) in
    ((λ i. one i ∷ more.0 i), more.1)

-- the parts from a key to a block are those of this version
record IsItem (before : Option (List ℕ)) (key : List ℕ) (ps : List (List ℕ)) (said : Meta) (bytes : List ℕ) : Type 0 where
  v : Version
  key_is : v.key ≡ key
  pieces_are : pieces_of v.body ≡ ps
  said_is : version_meta v ≡ said
  may : MayDump v
  above : IsAbove before v.key
  spelled : bytes ≡ lead before ++ item_bytes v

module _ (before : Option (List ℕ)) (key : List ℕ) (ps : List (List ℕ)) (said : Meta) (rest : List ℕ) (above : IsAbove before key) where
  abbrev its_parts : List Part
  its_parts = Part.KeyPart key ∷ (map (λ piece. Part.PiecePart piece) ps ++ Part.BlockPart said ∷ [])

  abbrev alone : List ℕ
  alone = (head ++ key_bytes key) ++ (rest ++ 0 ∷ [])

  -- the parts are those of a first version, and no others
  record IsFirst (v : Version) (ws : List Version) : Type 0 where
    key_is : key ≡ v.key
    same : ps ≡ pieces_of v.body
    said_is : said ≡ version_meta v
    none : flat_map parts_of ws ≡ []

  is_first : (v : Version) (ws : List Version) → its_parts ≡ flat_map parts_of (v ∷ ws) → IsFirst v ws
  is_first v ws e =
      let e2 : ◌≡◌ {A = List Part} its_parts (Part.KeyPart v.key ∷ ((pieces v.body ++ Part.BlockPart (version_meta v) ∷ []) ++ flat_map parts_of ws)) = e in
      let key_is : key ≡ v.key = cc in
      let joined = append_assoc (pieces v.body) (Part.BlockPart (version_meta v) ∷ []) (flat_map parts_of ws) in
      let mapped = map_pieces v.body (range_with_len 0 (chunks (length v.body))) in
      let same = same_pieces ps (pieces_of v.body) said (version_meta v) (flat_map parts_of ws)
      (ap (drop 1) e2 ∙ joined ∙ ap (λ (l : List Part). l ++ (Part.BlockPart (version_meta v) ∷ flat_map parts_of ws)) mapped) in
      record { key_is = key_is; same = same.0; said_is = same.1.0; none = same.1.1 }

  -- in a dump that has no other item
  one_version : (vs : List Version) → IsDump alone vs → its_parts ≡ flat_map parts_of vs → IsItem before key ps said ((lead before ++ key_bytes key) ++ rest)
  one_version [] d e = absurd (cc)
  one_version (v ∷ (w ∷ ws)) d e = absurd (let none = (is_first v (w ∷ ws) e).none in cc)
  one_version (v ∷ []) d e =
      let first = is_first v [] e in
      let cut : (key_bytes key ++ rest) ++ 0 ∷ [] ≡ (item_bytes v ++ []) ++ 0 ∷ [] =
      append_cancel_left head ((key_bytes key ++ rest) ++ 0 ∷ []) ((item_bytes v ++ []) ++ 0 ∷ [])
      (ap (λ (l : List ℕ). head ++ l) (append_assoc (key_bytes key) rest (0 ∷ [])) ∙ sym (append_assoc head (key_bytes key) (rest ++ 0 ∷ [])) ∙ d.spelled) in
      let mine : key_bytes key ++ rest ≡ item_bytes v = append_cancel_right (key_bytes key ++ rest) (item_bytes v ++ []) (0 ∷ []) cut ∙ append-nil (item_bytes v) in
      record {
        v = v;
        key_is = sym first.key_is;
        pieces_are = sym first.same;
        said_is = sym first.said_is;
        may = d.items.0;
        above = subst (IsAbove before) first.key_is above;
        spelled = append_assoc (lead before) (key_bytes key) rest ∙ ap (λ l. lead before ++ l) mine;
      }

  alone_size : may_write key ≡ true → length rest ≤ 4 + BODY_MAX + (4 + BLOCK_MAX) → length alone ≤ DUMP_MAX
  alone_size may small =
      let sizes = key_sizes key may in
      omega (arith, length-append (head ++ key_bytes key) (rest ++ 0 ∷ []), length-append head (key_bytes key), key_size key, sizes.1, length-append rest (0 ∷ []), small)

item_is : (before : Option (List ℕ)) (key : List ℕ) (ps : List (List ℕ)) (said : Meta) (bytes : List ℕ) (t : Stage) → t ≡ Stage.AtItem (Some key)
    → ArePartsTo (Stage.AtItem before) (Part.KeyPart key ∷ (map (λ piece. Part.PiecePart piece) ps ++ Part.BlockPart said ∷ [])) bytes t → IsItem before key ps said bytes
item_is before key ps said bytes t at h =
    let s = h.1.1.0 in
    let body = map (λ piece. Part.PiecePart piece) ps ++ Part.BlockPart said ∷ [] in
    let one = alone before key ps said h.1.0 s.1.0 in
    let parts : AreParts (Stage.AtItem None) (Part.KeyPart key ∷ body) one =
    (head ++ key_bytes key, (h.1.0 ++ 0 ∷ [], ((s.0, (tt, refl)), (refl, parts_end (Stage.AtLength key) t body h.1.0 (0 ∷ []) h.1.1.1.1 (subst (λ (x : Stage). SpellsEnd x (0 ∷ [])) (sym at) refl))))) in
    let small = alone_size before key ps said h.1.0 s.1.0 s.0 (body_size key ps said h.1.0 t h.1.1.1.1) in
    let dump = (dump_is_parts one (Part.KeyPart key ∷ body) small).0 parts in
    subst (IsItem before key ps said) (sym (h.1.1.1.0 ∙ ap (λ l. l ++ h.1.0) s.1.1)) (one_version before key ps said h.1.0 s.1.0 dump.0 dump.1.0 dump.1.1)

-- ---- one part more

-- how many items are whole with it
abbrev pub whole_by : Part → ℕ
whole_by (Part.KeyPart key) = 0
whole_by (Part.PiecePart piece) = 0
whole_by (Part.BlockPart said) = 1

pub record AddsPart (l : Loaded) (own : List ℕ) (stage : Stage) (p : Part) : Type 0 where
  pub next : Loaded
  pub are : AreLoaded next own stage
  pub commands : loaded_commands next ≡ loaded_commands l ++ part_commands p
  pub counted : length next.items ≡ length l.items + whole_by p

last_of : (before : Option (List ℕ)) (vs : List Version) (v : Version) → last_key before (vs ++ v ∷ []) ≡ Some v.key
last_of before [] v = refl
last_of before (w ∷ vs) v = last_of (Some w.key) vs v

items_then : (before : Option (List ℕ)) (vs : List Version) (v : Version) → AreItems before vs → MayDump v → IsAbove (last_key before vs) v.key → AreItems before (vs ++ v ∷ [])
items_then before [] v are may above = (may, (above, tt))
items_then before (w ∷ vs) v are may above = (are.0, (are.1.0, items_then (Some w.key) vs v are.1.1 may above))

flat_one : {A X : Type 0} (f : X → List A) (xs : List X) (x : X) → flat_map f (xs ++ x ∷ []) ≡ flat_map f xs ++ f x
flat_one f xs x = flat_map-append f xs (x ∷ []) ∙ ap (λ l. flat_map f xs ++ l) (append-nil (f x))

-- a key begins an item
adds_key : (items : List Version) (own : List ℕ) (stage : Stage) (key mine : List ℕ) → AreLoaded (record { items = items; begun = None }) own stage → Spells stage (Part.KeyPart key) mine
    → AddsPart (record { items = items; begun = None }) (own ++ mine) (due_after stage (Part.KeyPart key) mine) (Part.KeyPart key)
adds_key items own stage key mine are s =
    let at = Stage.AtItem (last_key None items) in
    let here = subst (λ (x : Stage). Spells x (Part.KeyPart key) mine) are.begun.1 s in
    record {
      next = record { items = items; begun = Some (record { key = key; pieces = [] }) };
      are = record {
        front = are.front;
        tail = mine;
        both = ap (λ l. l ++ mine) (are.both ∙ ap (λ l. are.front ++ l) are.begun.0 ∙ append-nil are.front);
        items = are.items;
        whole = are.whole;
        begun = subst (λ (x : Stage). ArePartsTo at (Part.KeyPart key ∷ []) mine (due_after x (Part.KeyPart key) mine)) (sym are.begun.1) (part_one at (Part.KeyPart key) mine here);
        spelled = are.spelled;
      };
      commands = ap (λ (l : List Command). l ++ Create 0 key ∷ []) (sym (append-nil (items_written items)));
      counted = omega arith;
    }

-- a piece goes on with it
adds_piece : (items : List Version) (b : Begun) (own : List ℕ) (stage : Stage) (piece mine : List ℕ) → AreLoaded (record { items = items; begun = Some b }) own stage
    → Spells stage (Part.PiecePart piece) mine → AddsPart (record { items = items; begun = Some b }) (own ++ mine) (due_after stage (Part.PiecePart piece) mine) (Part.PiecePart piece)
adds_piece items b own stage piece mine are s =
    let at = Stage.AtItem (last_key None items) in
    let p = Part.PiecePart piece in
    let parts = map (λ piece. Part.PiecePart piece) b.pieces in
    let appends = map (λ piece. Append 0 piece) b.pieces in
    record {
      next = record { items = items; begun = Some (record { key = b.key; pieces = b.pieces ++ piece ∷ [] }) };
      are = record {
        front = are.front;
        tail = are.tail ++ mine;
        both = ap (λ l. l ++ mine) are.both ∙ append_assoc are.front are.tail mine;
        items = are.items;
        whole = are.whole;
        begun = subst (λ (l : List Part). ArePartsTo at (Part.KeyPart b.key ∷ l) (are.tail ++ mine) (due_after stage p mine)) (sym (map-append (λ piece. Part.PiecePart piece) b.pieces (piece ∷ [])))
            (parts_then at stage (due_after stage p mine) (Part.KeyPart b.key ∷ parts) (p ∷ []) are.tail mine are.begun (part_one stage p mine s));
        spelled = are.spelled;
      };
      commands = ap (λ (l : List Command). items_written items ++ (Create 0 b.key ∷ l)) (map-append (λ piece. Append 0 piece) b.pieces (piece ∷ []))
          ∙ sym (append_assoc (items_written items) (Create 0 b.key ∷ appends) (Append 0 piece ∷ []));
      counted = omega arith;
    }

-- a block ends it
adds_block : (items : List Version) (b : Begun) (own : List ℕ) (stage : Stage) (said : Meta) (mine : List ℕ) → AreLoaded (record { items = items; begun = Some b }) own stage
    → Spells stage (Part.BlockPart said) mine → AddsPart (record { items = items; begun = Some b }) (own ++ mine) (due_after stage (Part.BlockPart said) mine) (Part.BlockPart said)
adds_block items b own stage said mine are s =
    let before = last_key None items in
    let at = Stage.AtItem before in
    let p = Part.BlockPart said in
    let parts = map (λ piece. Part.PiecePart piece) b.pieces in
    let appends = map (λ piece. Append 0 piece) b.pieces in
    let end = due_after stage p mine in
    let ends : end ≡ Stage.AtItem (Some b.key) = block_ends b.key stage said mine (begun_is_of before b.key stage b.pieces are.tail are.begun) in
    let all : ArePartsTo at (Part.KeyPart b.key ∷ (parts ++ p ∷ [])) (are.tail ++ mine) end = parts_then at stage end (Part.KeyPart b.key ∷ parts) (p ∷ []) are.tail mine are.begun (part_one stage p mine s) in
    let is = item_is before b.key b.pieces said (are.tail ++ mine) end ends all in
    let v = is.v in
    let last : last_key None (items ++ v ∷ []) ≡ Some v.key = last_of None items v in
    let its : parts_of v ≡ Part.KeyPart b.key ∷ (parts ++ p ∷ []) =
    (λ i. Part.KeyPart (is.key_is i) ∷ ((map_pieces v.body (range_with_len 0 (chunks (length v.body))) ∙ ap (map (λ piece. Part.PiecePart piece)) is.pieces_are) i ++ Part.BlockPart (is.said_is i) ∷ [])) in
    let stands : end ≡ Stage.AtItem (last_key None (items ++ v ∷ [])) = ends ∙ ap (λ (k : List ℕ). Stage.AtItem (Some k)) (sym is.key_is) ∙ ap (λ (k : Option (List ℕ)). Stage.AtItem k) (sym last) in
    let written : item_written v ≡ (Create 0 b.key ∷ appends) ++ (FinishAs 0 said.header said.elements ∷ (Close 0 ∷ [])) =
    (λ i. (Create 0 (is.key_is i) ∷ map (λ piece. Append 0 piece) (is.pieces_are i)) ++ (FinishAs 0 (is.said_is i).header (is.said_is i).elements ∷ (Close 0 ∷ []))) in
    record {
      next = record { items = items ++ v ∷ []; begun = None };
      are = record {
        front = are.front ++ (are.tail ++ mine);
        tail = [];
        both = ap (λ l. l ++ mine) are.both ∙ append_assoc are.front are.tail mine ∙ sym (append-nil (are.front ++ (are.tail ++ mine)));
        items = items_then None items v are.items is.may is.above;
        whole = subst (λ (l : List Part). ArePartsTo (Stage.AtItem None) l (are.front ++ (are.tail ++ mine)) (Stage.AtItem (last_key None (items ++ v ∷ [])))) (sym (flat_one parts_of items v))
            (parts_then (Stage.AtItem None) at (Stage.AtItem (last_key None (items ++ v ∷ []))) (flat_map parts_of items) (parts_of v) are.front (are.tail ++ mine) are.whole
            (subst (ArePartsTo at (parts_of v) (are.tail ++ mine)) stands (subst (λ (l : List Part). ArePartsTo at l (are.tail ++ mine) end) (sym its) all)));
        begun = (refl, stands);
        spelled = ap (λ (k : Option (List ℕ)). (are.front ++ (are.tail ++ mine)) ++ lead k) last ∙ append-nil (are.front ++ (are.tail ++ mine)) ∙ ap (λ l. are.front ++ l) is.spelled
            ∙ sym (append_assoc are.front (lead before) (item_bytes v)) ∙ ap (λ l. l ++ item_bytes v) are.spelled
            ∙ append_assoc head (flat_map item_bytes items) (item_bytes v) ∙ ap (λ (l : List ℕ). head ++ l) (sym (flat_one item_bytes items v));
      };
      commands = append-nil (items_written (items ++ v ∷ [])) ∙ flat_one item_written items v ∙ ap (λ (l : List Command). items_written items ++ l) written
          ∙ sym (append_assoc (items_written items) (Create 0 b.key ∷ appends) (FinishAs 0 said.header said.elements ∷ (Close 0 ∷ [])));
      counted = length-append items (v ∷ []);
    }

adds : (items : List Version) (begun : Option Begun) (own : List ℕ) (stage : Stage) (p : Part) (mine : List ℕ) → AreLoaded (record { items = items; begun = begun }) own stage → Spells stage p mine
    → AddsPart (record { items = items; begun = begun }) (own ++ mine) (due_after stage p mine) p
adds items None own stage (Part.KeyPart key) mine are s = adds_key items own stage key mine are s
adds items None own stage (Part.PiecePart piece) mine are s = absurd (subst (λ (x : Stage). Spells x (Part.PiecePart piece) mine) are.begun.1 s)
adds items None own stage (Part.BlockPart said) mine are s = absurd (subst (λ (x : Stage). Spells x (Part.BlockPart said) mine) are.begun.1 s)
adds items (Some b) own stage (Part.KeyPart key) mine are s = absurd (no_key_within b.key stage key mine (begun_is_of (last_key None items) b.key stage b.pieces are.tail are.begun) s)
adds items (Some b) own stage (Part.PiecePart piece) mine are s = adds_piece items b own stage piece mine are s
adds items (Some b) own stage (Part.BlockPart said) mine are s = adds_block items b own stage said mine are s

pub adds_part : (l : Loaded) (own : List ℕ) (stage : Stage) (p : Part) (mine : List ℕ) → AreLoaded l own stage → Spells stage p mine → AddsPart l (own ++ mine) (due_after stage p mine) p
adds_part l own stage p mine are s = adds l.items l.begun own stage p mine are s
