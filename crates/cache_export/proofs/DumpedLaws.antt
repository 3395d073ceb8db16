-- The dump of a directory is a dump.
use Rattle.std.proofs.Common.{◌≡◌, ℕ, ◌+◌, ◌≤◌, Bool, true, false, cond, ◌&&◌, List, [], ◌∷◌, ◌++◌, length, Option, None, Some, refl, sym, ap, ◌∙◌, subst, arith}
use Rattle.std.specs.Prelude.{IfSome, T, filter, flat_map, nat_le, nat_lt}
use Rattle.std.specs.Cmp.Lexicographic.{slice_cmp}
use Rattle.std.specs.FinMap.{is_sorted}
use Rattle.std.specs.FinMap.Entries.{below_all}
use Rattle.std.specs.List.{AllByRecursion, cons_option}
use Rattle.std.specs.Ordering.{is_lt, nat_cmp}
use Rattle.std.specs.declared.cmp.Ordering.{Ordering}
use Rattle.std.specs.declared.cmp.Ordering.TheVariants.{Less, Equal, Greater}
use Rattle.std.proofs.lemmas.Bool.{and_parts, leb-true, ltb-false}
use Rattle.std.proofs.lemmas.List.{length-append}
use Rattle.cache_base.specs.Bytes.{AreBytes}
use Rattle.cache_base.specs.declared.limits.TheConstants.{BODY_MAX}
use Rattle.entry_file.proofs.WholeLaws.{reads_whole_exactly}
use Rattle.entry_file.specs.EntryFile.{Damaged, Nothing, Reading, Whole, read, whole_in}
use Rattle.entry_file.specs.Version.{Version}
use Rattle.entry_key.specs.Writing.{may_write}
use Rattle.entry_name.specs.EntryName.{file_name}
use Rattle.cache_export.specs.Dump.{AreItems, IsAbove, MayDump, dump_bytes, item_bytes}
use Rattle.cache_export.specs.Dumped.{DumpOfIsDump, dumped, may_dump, versions_in, within}
use Rattle.cache_export.proofs.FrontLaws.{head_size}
use Rattle.cache_export.specs.declared.limits.TheConstants.{DUMP_MAX}

pub first : (a b : Bool) → T (a && b) → T a
first true b h = tt
first false b h = absurd h

pub second : (a b : Bool) → T (a && b) → T b
second true b h = h
second false b h = absurd h

pub less : (o : Ordering) → T (is_lt o) → o ≡ Less
less Less h = refl
less Equal h = absurd h
less Greater h = absurd h

joined : (own used all rest : ℕ) → all ≡ own + rest → used + own + (rest + 1) ≤ DUMP_MAX → used + (all + 1) ≤ DUMP_MAX
joined own used all rest e h = omega (arith, e, h)

dump_short : (vs : List Version) → 8 + (length (flat_map item_bytes vs) + 1) ≤ DUMP_MAX → length (dump_bytes vs) ≤ DUMP_MAX
dump_short vs h = omega (arith, h, head_size (flat_map item_bytes vs ++ 0 ∷ []), length-append (flat_map item_bytes vs) (0 ∷ []))

-- the files have names after that of the key before
abbrev Follow : Option (List ℕ) → List (List ℕ × List ℕ) → Type 0
Follow before files = IfSome before (λ last. T (below_all (slice_cmp nat_cmp) (file_name last) files))

follow_rest : (before : Option (List ℕ)) (file : List ℕ × List ℕ) (files : List (List ℕ × List ℕ)) → Follow before (file ∷ files) → Follow before files
follow_rest None file files h = tt
follow_rest (Some last) file files h = second (is_lt (slice_cmp nat_cmp (file_name last) file.0)) (below_all (slice_cmp nat_cmp) (file_name last) files) h

follow_first : (before : Option (List ℕ)) (key : List ℕ) (file : List ℕ × List ℕ) (files : List (List ℕ × List ℕ)) → file_name key ≡ file.0 → Follow before (file ∷ files) → IsAbove before key
follow_first None key file files named h = tt
follow_first (Some last) key file files named h =
    ap (slice_cmp nat_cmp (file_name last)) named ∙ less (slice_cmp nat_cmp (file_name last) file.0) (first (is_lt (slice_cmp nat_cmp (file_name last) file.0)) (below_all (slice_cmp nat_cmp) (file_name last) files) h)

-- one more version before others
one_more : (before : Option (List ℕ)) (used : ℕ) (v : Version) (vs : List Version) → (may_dump v ≡ true → MayDump v × IsAbove before v.key) → ((n : ℕ) → AreItems before (within n vs))
    → ((n : ℕ) → AreItems (Some v.key) (within n vs)) → AreItems before (within used (cond (may_dump v) (v ∷ vs) vs))
one_more before used v vs may skipped after = go (may_dump v) refl
  where
    whole : may_dump v ≡ true → (s : Bool) → AreItems before (cond s [] (v ∷ within (used + length (item_bytes v)) vs))
    whole e true = tt
    whole e false = let m = may e in (m.0, (m.1, after (used + length (item_bytes v))))

    go : (t : Bool) → may_dump v ≡ t → AreItems before (within used (cond t (v ∷ vs) vs))
    go true e = whole e (nat_lt DUMP_MAX (used + length (item_bytes v) + 1))
    go false e = skipped used

-- one more file before others
by_reading : (before : Option (List ℕ)) (used : ℕ) (file : List ℕ × List ℕ) (files : List (List ℕ × List ℕ)) (r : Reading) → read file.0 file.1 ≡ r → AreBytes file.1 → Follow before (file ∷ files)
    → ((n : ℕ) → AreItems before (within n (filter may_dump (versions_in files)))) → ((key : List ℕ) → file_name key ≡ file.0 → (n : ℕ) → AreItems (Some key) (within n (filter may_dump (versions_in files))))
    → AreItems before (within used (filter may_dump (cons_option (whole_in r) (versions_in files))))
by_reading before used file files (Damaged d) is bytes follow skipped after = skipped used
by_reading before used file files Nothing is bytes follow skipped after = skipped used
by_reading before used file files (Whole v) is bytes follow skipped after =
    let of_v = (reads_whole_exactly file.0 file.1 v bytes).0 is in
    let named : file_name v.key ≡ file.0 = of_v.1 in
    one_more before used v (filter may_dump (versions_in files))
    (λ may.
    let both = and_parts (may_write v.key) (nat_le (length v.body) BODY_MAX) may in
    (record { version = of_v.0; key = both.0; body = leb-true (length v.body) BODY_MAX both.1 }, follow_first before v.key file files named follow))
    skipped (after v.key named)

dumped_items : (files : List (List ℕ × List ℕ)) (before : Option (List ℕ)) (used : ℕ) → T (is_sorted (slice_cmp nat_cmp) files) → AllByRecursion (λ file. AreBytes file.1) files → Follow before files
    → AreItems before (within used (filter may_dump (versions_in files)))
dumped_items [] before used sorted bytes follow = tt
dumped_items (file ∷ files) before used sorted bytes follow =
    let above = first (below_all (slice_cmp nat_cmp) file.0 files) (is_sorted (slice_cmp nat_cmp) files) sorted in
    let others = second (below_all (slice_cmp nat_cmp) file.0 files) (is_sorted (slice_cmp nat_cmp) files) sorted in
    by_reading before used file files (read file.0 file.1) refl bytes.0 follow (λ n. dumped_items files before n others bytes.1 (follow_rest before file files follow))
    (λ key named n. dumped_items files (Some key) n others bytes.1 (subst (λ (name : List ℕ). T (below_all (slice_cmp nat_cmp) name files)) (sym named) above))

-- what is within the longest dump has its length
within_step : (v : Version) (vs : List Version) (used : ℕ) → used + 1 ≤ DUMP_MAX
    → (used + length (item_bytes v) + 1 ≤ DUMP_MAX → used + length (item_bytes v) + (length (flat_map item_bytes (within (used + length (item_bytes v)) vs)) + 1) ≤ DUMP_MAX)
    → used + (length (flat_map item_bytes (within used (v ∷ vs))) + 1) ≤ DUMP_MAX
within_step v vs used fits later = go (nat_lt DUMP_MAX (used + length (item_bytes v) + 1)) refl
  where
    go : (s : Bool) → nat_lt DUMP_MAX (used + length (item_bytes v) + 1) ≡ s → used + (length (flat_map item_bytes (cond s [] (v ∷ within (used + length (item_bytes v)) vs))) + 1) ≤ DUMP_MAX
    go true e = omega (arith, fits)
    go false e = joined (length (item_bytes v)) used _ _ (length-append (item_bytes v) (flat_map item_bytes (within (used + length (item_bytes v)) vs))) (later (ltb-false DUMP_MAX (used + length (item_bytes v) + 1) e))

within_short : (vs : List Version) (used : ℕ) → used + 1 ≤ DUMP_MAX → used + (length (flat_map item_bytes (within used vs)) + 1) ≤ DUMP_MAX
within_short [] used fits = omega (arith, fits)
within_short (v ∷ vs) used fits = within_step v vs used fits (within_short vs (used + length (item_bytes v)))

pub dump_of_is_dump : DumpOfIsDump
dump_of_is_dump files are = record {
  items = dumped_items files None 8 are.sorted are.bytes tt;
  spelled = refl;
  short = dump_short (dumped files) (within_short (filter may_dump (versions_in files)) 8 (omega arith));
}
