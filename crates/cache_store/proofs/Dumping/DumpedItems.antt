-- What files add to a dump, one after another.
use Rattle.std.proofs.Common.{◌≡◌, ◌≤◌, ◌+◌, ◌-◌, ◌++◌, ◌∷◌, ◌∙◌, ℕ, Bool, true, false, cond, List, [], Option, Some, None, length, length-append, ◌^◌, IsSome, take, take-take, length-take-le, append-nil, append_assoc, flat_map, not, refl, sym, ap, subst, arith, ◌&&◌}
use Rattle.std.specs.Prelude.{filter, nat_le, nat_lt, unwrap_or}
use Rattle.std.specs.List.{cons_option}
use Rattle.cache_base.specs.Bytes.{be32}
use Rattle.cache_base.specs.declared.limits.TheConstants.{BODY_MAX}
use Rattle.cache_base.specs.declared.name.Name.{Name}
use Rattle.cache_check.specs.Checks.{AllStand, file_at, files_of, table_of}
use Rattle.cache_export.specs.Dump.{back_bytes, front_bytes, item_bytes}
use Rattle.cache_export.specs.Dumped.{may_dump, versions_in, within}
use Rattle.cache_export.specs.declared.limits.TheConstants.{DUMP_MAX}
use Rattle.cache_export.proofs.FrontLaws.{number_size}
use Rattle.cache_store.specs.Dumping.{TakesTurn, Turn, adds_nothing, item_length, item_with, items_from, may_dump_as, turn_at, turn_for, turn_of}
use Rattle.cache_store.specs.Prefix.{range_of}
use Rattle.cache_replies.specs.Said.{Said, Saying}
use Rattle.cache_replies.specs.Saying.{SaysMore, StopsIn}
use Rattle.cache_replies.proofs.SayingLaws.{says_then, stops_front, stops_then}
use Rattle.cache_theory.proofs.Versions.{is_key}
use Rattle.cache_theory.specs.Table.{Table}
use Rattle.disk_theory.specs.Image.{Files}
use Rattle.disk_theory.specs.State.{State, standing}
use Rattle.disk_theory.specs.declared.place.Place.TheVariants.{Entry}
use Rattle.entry_file.specs.EntryFile.{read, whole_in}
use Rattle.entry_file.specs.Rewriting.{rewritten}
use Rattle.entry_file.specs.Version.{Version}
use Rattle.entry_key.specs.Writing.{may_write}
use Rattle.entry_metadata.specs.Meta.{meta_of}
use Rattle.entry_metadata.specs.Metadata.{Meta, block_bytes}
use Rattle.entry_metadata.proofs.PrintedBlock.{length-block}
use Rattle.entry_metadata.specs.declared.meta.Meta.{Meta as MetaHeld}
use Rattle.file_handles.specs.Found.{IsFoundUnder, IsWholeOf}

-- ---- lengths

number_long : (n : ℕ) → length (be32 n) ≡ 4
number_long n = ap length (sym (append-nil (be32 n))) ∙ number_size n []

pub front_long : (key : List ℕ) (len : ℕ) → length (front_bytes key len) ≡ 9 + length key
unfolding front_bytes
front_long key len =
    let first = number_size (length key) (key ++ be32 len) in
    let rest = length-append key (be32 len) in
    let last = number_long len in
    omega (arith, first, rest, last)

pub back_long : (block : List ℕ) → length (back_bytes block) ≡ 4 + length block
unfolding back_bytes
back_long block = number_size (length block) block

-- ---- the text of an item

all_of_body : (n : ℕ) (content : List ℕ) → range_of 0 n (take n content) ≡ take n content
all_of_body n content =
    let same : n - 0 ≡ n = omega arith in
    ap (λ k. take k (take n content)) same ∙ take-take n n content (omega arith)

pub item_text : (m : Meta) (head tail content : List ℕ) → head ≡ front_bytes m.key m.offset → tail ≡ back_bytes (block_bytes m)
    → head ++ (range_of 0 m.offset (take m.offset content) ++ tail) ≡ item_with m (take m.offset content)
item_text m head tail content h t = λ i. h i ++ (all_of_body m.offset content i ++ t i)

-- ---- a file that is found whole

-- the file that stands
pub found_file : (name : List ℕ) (file : Option (List ℕ)) (meta : MetaHeld) → IsFoundUnder name file (Some meta) → (c : List ℕ) × ((file ≡ Some c) × IsWholeOf name c meta)
found_file name None meta is = absurd (let never : ◌≡◌ {A = Option MetaHeld} (Some meta) None = is in cc)
found_file name (Some c) meta is = (c, (refl, is))

-- nothing is found there
pub none_there : (used : ℕ) (name : List ℕ) (file : Option (List ℕ)) → IsFoundUnder name file None → turn_at used name file ≡ adds_nothing
none_there used name None is = refl
none_there used name (Some c) is = ap (turn_for used) is

module _ (used : ℕ) (name c : List ℕ) (meta : MetaHeld) (is : IsWholeOf name c meta) where
  abbrev pub found_version : Version
  found_version = rewritten (meta_of meta) c

  body_long : length found_version.body ≡ meta.offset
  body_long = length-take-le meta.offset c is.long

  found_is : turn_at used name (Some c) ≡ turn_of used found_version
  found_is = ap (λ r. turn_for used (whole_in r)) is.reads

  may_is : may_dump found_version ≡ may_dump_as (meta_of meta)
  may_is = ap (λ n. may_write meta.key && nat_le n BODY_MAX) body_long

  pub item_is : item_with (meta_of meta) (take meta.offset c) ≡ item_bytes found_version
  item_is = λ i. front_bytes meta.key (sym body_long i) ++ (take meta.offset c ++ back_bytes (block_bytes (sym is.meta i)))

  pub item_long : length (item_bytes found_version) ≡ item_length (meta_of meta)
  item_long =
      let m = meta_of meta in
      let body = take meta.offset c in
      let all = length-append (front_bytes m.key m.offset) (body ++ back_bytes (block_bytes m)) in
      let rest = length-append body (back_bytes (block_bytes m)) in
      let is_body : length body ≡ meta.offset = body_long in
      ap length (sym item_is) ∙ omega (arith, all, rest, is_body)

  -- what it adds, by what its metadata tell
  turn_by : Bool → Bool → Turn
  turn_by may long =
      cond (not may) adds_nothing
      (cond long (record { len = None; text = [] })
      (record { len = Some (item_length (meta_of meta)); text = item_with (meta_of meta) (take meta.offset c) }))

  turn_is : turn_at used name (Some c) ≡ turn_by (may_dump_as (meta_of meta)) (nat_lt DUMP_MAX (used + item_length (meta_of meta) + 1))
  unfolding turn_by
  turn_is = found_is ∙ (λ i.
      cond (not (may_is i)) adds_nothing
      (cond (nat_lt DUMP_MAX (used + item_long i + 1)) (record { len = None; text = [] })
      (record { len = Some (item_long i); text = sym item_is i })))

  pub not_dumped : may_dump_as (meta_of meta) ≡ false → turn_at used name (Some c) ≡ adds_nothing
  unfolding turn_by
  not_dumped left = turn_is ∙ ap (λ b. turn_by b (nat_lt DUMP_MAX (used + item_length (meta_of meta) + 1))) left

  module _ (may : may_dump_as (meta_of meta) ≡ true) where
    pub too_long : nat_lt DUMP_MAX (used + item_length (meta_of meta) + 1) ≡ true → turn_at used name (Some c) ≡ record { len = None; text = [] }
    unfolding turn_by
    too_long long = turn_is ∙ (λ i. turn_by (may i) (long i))

    pub item_added : nat_lt DUMP_MAX (used + item_length (meta_of meta) + 1) ≡ false
        → turn_at used name (Some c) ≡ record { len = Some (item_length (meta_of meta)); text = item_with (meta_of meta) (take meta.offset c) }
    unfolding turn_by
    item_added short = turn_is ∙ (λ i. turn_by (may i) (short i))

-- ---- a turn that was taken

pub takes_turn : (turn is : Turn) (len : Option ℕ) (was now : Saying) → turn ≡ is → len ≡ is.len → SaysMore was now is.text → TakesTurn turn len was now
takes_turn turn is len was now same told says = record {
  told = told ∙ ap (λ (t : Turn). t.len) (sym same);
  says = subst (SaysMore was now) (ap (λ (t : Turn). t.text) (sym same)) says;
}

-- ---- the files one after another

-- what follows a turn
abbrev pub after_turn : Option ℕ → ℕ → Table (List ℕ) → List ℕ
after_turn None used files = []
after_turn (Some n) used files = items_from (used + n) files

module _ (used : ℕ) (files : Table (List ℕ)) where
  others : List Version
  others = filter may_dump (versions_in files)

  here : items_from used files ≡ items_from (used + 0) files
  here = ap (λ n. items_from n files) (omega arith)

  by_length : (v : Version) (long : Bool)
      → let t : Turn = cond long (record { len = None; text = [] }) (record { len = Some (length (item_bytes v)); text = item_bytes v }) in
      flat_map item_bytes (cond long [] (v ∷ within (used + length (item_bytes v)) others)) ≡ t.text ++ after_turn t.len used files
  unfolding others
  by_length v true = refl
  by_length v false = refl

  by_may : (v : Version) (may : Bool)
      → let t : Turn = cond (not may) adds_nothing (cond (nat_lt DUMP_MAX (used + length (item_bytes v) + 1)) (record { len = None; text = [] }) (record { len = Some (length (item_bytes v)); text = item_bytes v })) in
      flat_map item_bytes (within used (cond may (v ∷ others) others)) ≡ t.text ++ after_turn t.len used files
  unfolding others
  by_may v true = by_length v (nat_lt DUMP_MAX (used + length (item_bytes v) + 1))
  by_may v false = here

  by_version : (o : Option Version) → flat_map item_bytes (within used (filter may_dump (cons_option o (versions_in files)))) ≡ (turn_for used o).text ++ after_turn (turn_for used o).len used files
  unfolding others
  by_version None = here
  by_version (Some v) = by_may v (may_dump v)

  pub items_step : (name c : List ℕ) → items_from used ((name, c) ∷ files) ≡ (turn_at used name (Some c)).text ++ after_turn (turn_at used name (Some c)).len used files
  items_step name c = by_version (whole_in (read name c))

-- nothing more was said
pub says_nothing : (was : Saying) → SaysMore was was []
says_nothing was before text said = subst (Said before was) (sym (append-nil text)) said

-- an item is short
pub item_short : (meta : MetaHeld) → may_write meta.key ≡ true → item_length (meta_of meta) ≤ 2 ^ 33
item_short meta may =
    let key = (is_key meta.key may).short in
    let front = front_long meta.key meta.offset in
    let back = back_long (block_bytes (meta_of meta)) in
    let long = length-block (meta_of meta) in
    let small = meta.small in
    let offset = meta.finished in
    omega (arith, key, front, back, long, small, offset)

-- what goes out of the items
pub record IsLeft (was now : Saying) (rest whole : List ℕ) : Type 0 where
  pub said : List ℕ
  pub says : SaysMore was now said
  pub completes : said ++ rest ≡ whole

pub all_left : (was : Saying) (whole : List ℕ) → IsLeft was was whole whole
all_left was whole = record { said = []; says = says_nothing was; completes = refl }

-- all of them were said
pub none_left : (was now : Saying) (rest whole : List ℕ) → rest ≡ [] → IsLeft was now rest whole → SaysMore was now whole
none_left was now rest whole none left =
    subst (SaysMore was now) (sym (append-nil left.said) ∙ ap (λ r. left.said ++ r) (sym none) ∙ left.completes) left.says

-- a turn more was taken
pub turn_left : (was now next : Saying) (text rest whole : List ℕ) → IsLeft was now (text ++ rest) whole → SaysMore now next text → IsLeft was next rest whole
turn_left was now next text rest whole left says = record {
  said = left.said ++ text;
  says = says_then was now next left.said text left.says says;
  completes = append_assoc left.said text rest ∙ left.completes;
}

-- or was cut
pub turn_stops : (was now : Saying) (out : Option (List ℕ)) (text rest whole : List ℕ) → IsLeft was now (text ++ rest) whole → StopsIn now out text → StopsIn was out whole
turn_stops was now out text rest whole left stops =
    subst (StopsIn was out) left.completes (stops_then was now out left.said (text ++ rest) left.says (stops_front now out text rest stops))

-- the file of the next name is at the head
pub files_first : (files : Files) (n : Name) (names : List Name) (c : List ℕ) → files (Entry n) ≡ Some c → table_of files (n ∷ names) ≡ (n.0, c) ∷ table_of files names
files_first files n names c is = ap (λ o. (n.0, unwrap_or o []) ∷ table_of files names) is

-- and what it adds is
pub next_turn : (used : ℕ) (s : State) (n : Name) (names : List Name) (c : List ℕ) → file_at s n ≡ Some c
    → items_from used (files_of s (n ∷ names)) ≡ (turn_at used n.0 (file_at s n)).text ++ after_turn (turn_at used n.0 (file_at s n)).len used (files_of s names)
next_turn used s n names c is =
    ap (items_from used) (files_first (standing s) n names c is)
    ∙ items_step used (files_of s names) n.0 c
    ∙ ap (λ o. (turn_at used n.0 o).text ++ after_turn (turn_at used n.0 o).len used (files_of s names)) (sym is)

-- a file stands under the first name
pub first_stands : (s : State) (n : Name) (names : List Name) → AllStand s (n ∷ names) → (c : List ℕ) × (file_at s n ≡ Some c)
first_stands s n names all = go (file_at s n) all.0
  where
    go : (o : Option (List ℕ)) → IsSome o → (c : List ℕ) × (o ≡ Some c)
    go None some = absurd (cc)
    go (Some c) some = (c, refl)

module _ (s : State) (used : ℕ) (n : Name) (rest : List Name) (was now : Saying) (whole : List ℕ) (stand : AllStand s (n ∷ rest))
    (left : IsLeft was now (items_from used (files_of s (n ∷ rest))) whole) where
  in_turn : let turn = turn_at used n.0 (file_at s n) in IsLeft was now (turn.text ++ after_turn turn.len used (files_of s rest)) whole
  in_turn = let f = first_stands s n rest stand in subst (λ (r : List ℕ). IsLeft was now r whole) (next_turn used s n rest f.0 f.1) left

  -- the turn of the first file was taken
  pub took_turn : (len : Option ℕ) (next : Saying) → TakesTurn (turn_at used n.0 (file_at s n)) len now next → IsLeft was next (after_turn len used (files_of s rest)) whole
  took_turn len next takes =
      subst (λ l. IsLeft was next (after_turn l used (files_of s rest)) whole) (sym takes.told)
      (turn_left was now next _ _ whole in_turn takes.says)

  -- or was cut
  pub cut_turn : (out : Option (List ℕ)) → StopsIn now out (turn_at used n.0 (file_at s n)).text → StopsIn was out whole
  cut_turn out stops = turn_stops was now out _ _ whole in_turn stops

-- what was looked at is what stood
pub takes_on : {s t : State} (used : ℕ) (n : Name) (len : Option ℕ) (now next : Saying) → t ≡ s → TakesTurn (turn_at used n.0 (file_at t n)) len now next → TakesTurn (turn_at used n.0 (file_at s n)) len now next
takes_on used n len now next same = subst (λ (u : State). TakesTurn (turn_at used n.0 (file_at u n)) len now next) same

pub stops_on : {s t : State} (used : ℕ) (n : Name) (now : Saying) (out : Option (List ℕ)) → t ≡ s → StopsIn now out (turn_at used n.0 (file_at t n)).text → StopsIn now out (turn_at used n.0 (file_at s n)).text
stops_on used n now out same = subst (λ (u : State). StopsIn now out (turn_at used n.0 (file_at u n)).text) same
