-- The places of a journal, and the slots that they stand for.
use Rattle.std.proofs.Common.{◌≡◌, ℕ, zero, suc, ◌+◌, ◌<◌, ◌^◌, Bool, true, false, cond, List, [], ◌∷◌, ◌++◌, length, get_or, set, take, refl, sym, ap, ◌∙◌, subst, arith}
use Rattle.std.specs.List.{All, AllByRecursion, IsDistinct, cons_option, filter_map, sum_by}
use Rattle.std.specs.List.Sorted.{IsStrictlySortedBy}
use Rattle.std.specs.Map.{keys_of, lookup, values_of}
use Rattle.std.specs.Option.{option_map}
use Rattle.std.specs.Prelude.{IsSome, None, Option, Some, map, is_some, option_and_then, option_to_list, ◌||◌}
use Rattle.std.proofs.lemmas.List.{append_assoc, get_or-map, length-map, length-set, map-set, set-get_or, take_more}
use Rattle.std.proofs.lemmas.List.Elements.{All-cons, All-head, All-nil, All-set, All-tail, filter_map-append}
use Rattle.std.proofs.lemmas.List.Sums.{sum_by-cons, sum_by-set}
use Rattle.std.proofs.lemmas.Map.Keys.{IsDistinct-cons, IsDistinct-head, IsDistinct-tail}
use Rattle.cache_base.specs.Names.{AreSorted}
use Rattle.cache_base.specs.declared.name.Name.{Name}
use Rattle.index_record.specs.declared.record.IndexRecord.{IndexRecord}
use Rattle.record_list.specs.Lists.{same_name}
use Rattle.record_list.proofs.NameLaws.{rising_distinct, same_back, same_is, same_itself}
use Rattle.index_map.specs.Slots.{AreFew, ArePlaces, AreSmall, IsSlotOf, IsTable, PutsHeld, PutsSlot, Slot, bare, base_over, change_in, changed_of, counts_of, is_used, kept_slot, kilobytes_of, new_place, record_of, records_of, rewritten, seen_held, seen_only, slot_of, slots_of, used_in, written, written_held}
use Rattle.index_map.specs.declared.counts.Counts.{Counts}
use Rattle.index_map.specs.declared.slot.Held.{Held}
use Rattle.index_map.proofs.Held.{counts_bare, counts_more, distinct_slots, lookup_slots, none_held, seen_same}
use Rattle.index_map.proofs.Joined.{first_of, lookup_join, none_left}
use Rattle.index_map.proofs.Puts.{rewritten_table, seen_only_fits, written_fits}
use Rattle.index_map.proofs.Steps.{crossed}
use Rattle.index_map.proofs.Sums.{AreThere, Exchanged, IsWith, IsWithout, counts_after, few, small, there}

abbrev pub same_slot : Slot → Slot
same_slot slot = slot

abbrev slot_entry : Name × Held → Name × Slot
slot_entry e = (e.0, slot_of e.0 e.1)

abbrev named : Name → Option Slot → Option (Name × Slot)
named name o = option_map (λ slot. (name, slot)) o

-- ---- what stands under a name in a table that is rewritten

-- a name that no key is, has nothing
absent : {X : Type 0} (q : Name) (es : List (Name × X)) → AllByRecursion (λ y. same_name q y ≡ false) (keys_of es) → lookup (same_name q) es ≡ None
absent q [] h = refl
absent q (e ∷ es) h = ap (λ b. cond b (Some e.1) (lookup (same_name q) es)) h.0 ∙ absent q es h.1

pub lookup_rewritten : (w : Slot → Slot) (q : Name) (t : List (Name × Slot)) → IsDistinct same_name (keys_of t)
    → lookup (same_name q) (rewritten w t) ≡ option_and_then (kept_slot w) (lookup (same_name q) t)
lookup_rewritten w q [] distinct = refl
lookup_rewritten w q (e ∷ t) distinct = go (same_name q e.0) refl (kept_slot w e.1) refl (lookup_rewritten w q t (IsDistinct-tail same_name e.0 (keys_of t) distinct))
  where
    none : same_name q e.0 ≡ true → lookup (same_name q) (rewritten w t) ≡ None
    none is = none_left w (same_name q) t
        (absent q t (subst (λ n. AllByRecursion (λ y. same_name n y ≡ false) (keys_of t)) (sym (same_is q e.0 is)) (IsDistinct-head same_name e.0 (keys_of t) distinct)))

    go : (b : Bool) → same_name q e.0 ≡ b → (o : Option Slot) → kept_slot w e.1 ≡ o
        → lookup (same_name q) (rewritten w t) ≡ option_and_then (kept_slot w) (lookup (same_name q) t)
        → lookup (same_name q) (cons_option (named e.0 o) (rewritten w t)) ≡ option_and_then (kept_slot w) (cond b (Some e.1) (lookup (same_name q) t))
    go true is None kept rest = none is ∙ sym kept
    go true is (Some s) kept rest = ap (λ b. cond b (Some s) (lookup (same_name q) (rewritten w t))) is ∙ sym kept
    go false is None kept rest = rest
    go false is (Some s) kept rest = ap (λ b. cond b (Some s) (lookup (same_name q) (rewritten w t))) is ∙ rest

-- ---- a table that is rewritten is a table

apart_rewritten : (w : Slot → Slot) (name : Name) (t : List (Name × Slot)) → AllByRecursion (λ y. same_name name y ≡ false) (keys_of t)
    → AllByRecursion (λ y. same_name name y ≡ false) (keys_of (rewritten w t))
apart_rewritten w name [] h = tt
apart_rewritten w name (e ∷ t) h = go (kept_slot w e.1) (apart_rewritten w name t h.1)
  where
    go : (o : Option Slot) → AllByRecursion (λ y. same_name name y ≡ false) (keys_of (rewritten w t))
        → AllByRecursion (λ y. same_name name y ≡ false) (keys_of (cons_option (named e.0 o) (rewritten w t)))
    go None rest = rest
    go (Some s) rest = (h.0, rest)

distinct_rewritten : (w : Slot → Slot) (t : List (Name × Slot)) → IsDistinct same_name (keys_of t) → IsDistinct same_name (keys_of (rewritten w t))
distinct_rewritten w [] distinct = distinct
distinct_rewritten w (e ∷ t) distinct = go (kept_slot w e.1) (distinct_rewritten w t (IsDistinct-tail same_name e.0 (keys_of t) distinct))
  where
    go : (o : Option Slot) → IsDistinct same_name (keys_of (rewritten w t)) → IsDistinct same_name (keys_of (cons_option (named e.0 o) (rewritten w t)))
    go None rest = rest
    go (Some s) rest = IsDistinct-cons same_name e.0 (keys_of (rewritten w t)) (apart_rewritten w e.0 t (IsDistinct-head same_name e.0 (keys_of t) distinct)) rest

pub used_table : (es : List (Name × Held)) → IsTable (slots_of es) → IsTable (used_in es)
used_table es is = rewritten_table same_slot (λ name slot h. h) (slots_of es) (used_in es) refl (distinct_rewritten same_slot (slots_of es) is.distinct) is

pub used_at : (es : List (Name × Held)) (q : Name) → IsTable (slots_of es)
    → lookup (same_name q) (used_in es) ≡ option_and_then (kept_slot same_slot) (option_map (slot_of q) (lookup (same_name q) es))
used_at es q is = lookup_rewritten same_slot q (slots_of es) is.distinct ∙ ap (option_and_then (kept_slot same_slot)) (lookup_slots q es)

-- ---- slots that hold no record say nothing

unused_current : (s : Slot) → is_used s ≡ false → s.current ≡ None
unused_current s h = go s.current s.base h
  where
    go : (c b : Option IndexRecord) → (is_some c || is_some b) ≡ false → c ≡ None
    go None b h = refl
    go (Some r) b h = absurd (cc)

unused_base : (s : Slot) → is_used s ≡ false → s.base ≡ None
unused_base s h = go s.current s.base h
  where
    go : (c b : Option IndexRecord) → (is_some c || is_some b) ≡ false → b ≡ None
    go None None h = refl
    go None (Some r) h = absurd (cc)
    go (Some r) b h = absurd (cc)

pub listed_used : {X : Type 0} (f : Slot → Option X) → ((s : Slot) → is_used s ≡ false → f s ≡ None) → (t : List (Name × Slot))
    → filter_map f (values_of (rewritten same_slot t)) ≡ filter_map f (values_of t)
listed_used f nothing [] = refl
listed_used {X} f nothing (e ∷ t) = go (is_used e.1) refl (listed_used f nothing t)
  where
    go : (b : Bool) → is_used e.1 ≡ b → filter_map f (values_of (rewritten same_slot t)) ≡ filter_map f (values_of t)
        → filter_map f (values_of (cons_option (named e.0 (cond b (Some e.1) None)) (rewritten same_slot t))) ≡ cons_option (f e.1) (filter_map f (values_of t))
    go true is rest = ap (cons_option (f e.1)) rest
    go false is rest = rest ∙ ap (λ o. cons_option o (filter_map f (values_of t))) (sym (nothing e.1 is))

pub current_nothing : (s : Slot) → is_used s ≡ false → s.current ≡ None
current_nothing = unused_current

pub change_nothing : (s : Slot) → is_used s ≡ false → change_in s ≡ None
change_nothing s h = go s.current s.base h
  where
    go : (c b : Option IndexRecord) → (is_some c || is_some b) ≡ false → change_in (record { current = c; seen = s.seen; base = b }) ≡ None
    go None None h = refl
    go None (Some r) h = absurd (cc)
    go (Some r) b h = absurd (cc)

sum_used : (g : Slot → ℕ) → ((s : Slot) → is_used s ≡ false → g s ≡ 0) → (t : List (Name × Slot)) → sum_by g (values_of (rewritten same_slot t)) ≡ sum_by g (values_of t)
sum_used g nothing [] = refl
sum_used g nothing (e ∷ t) = go (is_used e.1) refl (sum_used g nothing t)
  where
    go : (b : Bool) → is_used e.1 ≡ b → sum_by g (values_of (rewritten same_slot t)) ≡ sum_by g (values_of t)
        → sum_by g (values_of (cons_option (named e.0 (cond b (Some e.1) None)) (rewritten same_slot t))) ≡ sum_by g (e.1 ∷ values_of t)
    go true is rest = sum_by-cons g e.1 (values_of (rewritten same_slot t)) ∙ ap (λ n. g e.1 + n) rest ∙ sym (sum_by-cons g e.1 (values_of t))
    go false is rest = omega (arith, rest, sum_by-cons g e.1 (values_of t), nothing e.1 is)

records_nothing : (s : Slot) → is_used s ≡ false → records_of s ≡ 0
records_nothing s h = go s.current s.base h
  where
    go : (c b : Option IndexRecord) → (is_some c || is_some b) ≡ false → records_of (record { current = c; seen = s.seen; base = b }) ≡ 0
    go None None h = refl
    go None (Some r) h = absurd (cc)
    go (Some r) b h = absurd (cc)

kilobytes_nothing : (s : Slot) → is_used s ≡ false → kilobytes_of s ≡ 0
kilobytes_nothing s h = go s.current s.base h
  where
    go : (c b : Option IndexRecord) → (is_some c || is_some b) ≡ false → kilobytes_of (record { current = c; seen = s.seen; base = b }) ≡ 0
    go None None h = refl
    go None (Some r) h = absurd (cc)
    go (Some r) b h = absurd (cc)

changed_nothing : (s : Slot) → is_used s ≡ false → changed_of s ≡ 0
changed_nothing s h = go s.current s.base h
  where
    go : (c b : Option IndexRecord) → (is_some c || is_some b) ≡ false → changed_of (record { current = c; seen = s.seen; base = b }) ≡ 0
    go None None h = refl
    go None (Some r) h = absurd (cc)
    go (Some r) b h = absurd (cc)

pub counts_used : (es : List (Name × Held)) → counts_of (map bare (values_of es)) ≡ counts_of (values_of (used_in es))
counts_used es = counts_bare es ∙ (λ i. record {
  records = sym (sum_used records_of records_nothing (slots_of es)) i;
  kilobytes = sym (sum_used kilobytes_of kilobytes_nothing (slots_of es)) i;
  changed = sym (sum_used changed_of changed_nothing (slots_of es)) i;
})

-- ---- all places are changed

changed_all : (w : Slot → Slot) (v : Held → Held) → ((k : Name) (h : Held) → slot_of k (v h) ≡ w (slot_of k h)) → ((s : Slot) → is_used s ≡ false → is_used (w s) ≡ false)
    → (es : List (Name × Held)) → used_in (map (λ e. (e.0, v e.1)) es) ≡ rewritten w (used_in es)
changed_all w v same stays [] = refl
changed_all w v same stays (e ∷ es) =
    ap (λ s. cons_option (named e.0 (kept_slot same_slot s)) (used_in (map (λ e. (e.0, v e.1)) es))) (same e.0 e.1)
    ∙ go (is_used (slot_of e.0 e.1)) refl (changed_all w v same stays es)
  where
    s : Slot
    s = slot_of e.0 e.1

    go : (b : Bool) → is_used (slot_of e.0 e.1) ≡ b → used_in (map (λ e. (e.0, v e.1)) es) ≡ rewritten w (used_in es)
        → cons_option (named e.0 (kept_slot same_slot (w (slot_of e.0 e.1)))) (used_in (map (λ e. (e.0, v e.1)) es))
        ≡ rewritten w (cons_option (named e.0 (cond b (Some (slot_of e.0 e.1)) None)) (used_in es))
    go true is rest = ap (cons_option (named e.0 (kept_slot w (slot_of e.0 e.1)))) rest
    go false is rest =
        ap (λ b. cons_option (named e.0 (cond b (Some (w (slot_of e.0 e.1))) None)) (used_in (map (λ e. (e.0, v e.1)) es))) (stays (slot_of e.0 e.1) is) ∙ rest

seen_stays : (s : Slot) → is_used s ≡ false → is_used (seen_only s) ≡ false
seen_stays s h = go s.seen s.current s.base h
  where
    go : (b : Bool) (c d : Option IndexRecord) → (is_some c || is_some d) ≡ false → (is_some (cond b c None) || is_some d) ≡ false
    go true c d h = h
    go false None d h = h
    go false (Some r) d h = absurd (cc)

written_stays : (s : Slot) → is_used s ≡ false → is_used (written s) ≡ false
written_stays s h = go s.current s.base h
  where
    go : (c d : Option IndexRecord) → (is_some c || is_some d) ≡ false → (is_some c || is_some c) ≡ false
    go None d h = refl
    go (Some r) d h = absurd (cc)

pub all_seen : (es : List (Name × Held)) → used_in (map (λ e. (e.0, seen_held e.1)) es) ≡ rewritten seen_only (used_in es)
all_seen = changed_all seen_only seen_held seen_same seen_stays

pub all_written : (es : List (Name × Held)) → used_in (map (λ e. (e.0, written_held e.1)) es) ≡ rewritten written (used_in es)
all_written = changed_all written written_held (λ k h. refl) written_stays

pub keys_changed : (v : Held → Held) (es : List (Name × Held)) → keys_of (map (λ e. (e.0, v e.1)) es) ≡ keys_of es
keys_changed v [] = refl
keys_changed v (e ∷ es) = ap (λ l. e.0 ∷ l) (keys_changed v es)

-- ---- new places

pub new_unused : (rs : List IndexRecord) → used_in (map new_place rs) ≡ []
new_unused [] = refl
new_unused (r ∷ rs) = new_unused rs

pub new_keys : (rs : List IndexRecord) → keys_of (map new_place rs) ≡ map (λ (r : IndexRecord). r.name) rs
new_keys [] = refl
new_keys (r ∷ rs) = ap (λ l. r.name ∷ l) (new_keys rs)

-- ---- one place is written

apart_at : (name : Name) (es : List (Name × Held)) (i : ℕ) (d : Name × Held) → i < length es → AllByRecursion (λ y. same_name name y ≡ false) (keys_of es) → same_name name (get_or es i d).0 ≡ false
apart_at name [] i d low h = absurd (omega arith)
apart_at name (e ∷ es) zero d low h = h.0
apart_at name (e ∷ es) (suc i) d low h = apart_at name es i d (omega arith) h.1

set_at : (es : List (Name × Held)) (i : ℕ) (name : Name) (h : Held) (d : Name × Held) → IsDistinct same_name (keys_of es) → i < length es → (get_or es i d).0 ≡ name
    → PutsHeld es (set es i (name, h)) name h
set_at [] i name h d distinct low own q = absurd (omega arith)
set_at (e ∷ es) zero name h d distinct low own q =
    ap (λ b. cond b (Some h) (lookup (same_name q) es)) (same_back q name) ∙ go (same_name name q) refl
  where
    go : (b : Bool) → same_name name q ≡ b → cond b (Some h) (lookup (same_name q) es) ≡ cond b (Some h) (cond (same_name q e.0) (Some e.1) (lookup (same_name q) es))
    go true is = refl
    go false is = sym (ap (λ b. cond b (Some e.1) (lookup (same_name q) es)) (ap (same_name q) own ∙ same_back q name ∙ is))
set_at (e ∷ es) (suc i) name h d distinct low own q =
    let apart : same_name e.0 name ≡ false = ap (same_name e.0) (sym own) ∙ apart_at e.0 es i d (omega arith) (IsDistinct-head same_name e.0 (keys_of es) distinct) in
    ap (cond (same_name q e.0) (Some e.1)) (set_at es i name h d (IsDistinct-tail same_name e.0 (keys_of es) distinct) (omega arith) own q)
    ∙ crossed (same_name q e.0) (same_name name q) (Some e.1) (Some h) (lookup (same_name q) es)
    (λ a b. let one : same_name e.0 name ≡ true = ap (λ n. same_name n name) (sym (same_is q e.0 a)) ∙ same_back q name ∙ b in cc)

-- what stands at the place of a name
pub held_there : (es : List (Name × Held)) (i : ℕ) (x : Name × Held) (name : Name) → IsDistinct same_name (keys_of es) → i < length es → x ≡ get_or es i x → (get_or es i x).0 ≡ name
    → Some x.1 ≡ lookup (same_name name) es
held_there es i x name distinct low at own =
    let same : set es i (name, x.1) ≡ es = ap (set es i) ((λ j. (sym own j, (at j).1))) ∙ set-get_or es i x in
    ap (λ b. cond b (Some x.1) (lookup (same_name name) es)) (sym (same_itself name))
    ∙ sym (set_at es i name x.1 x distinct low own name) ∙ ap (lookup (same_name name)) same

pub no_place : (es : List (Name × Held)) (name : Name) → AllByRecursion (λ n. same_name name n ≡ false) (keys_of es) → None ≡ lookup (same_name name) es
no_place es name h = sym (absent name es h)

module _ (es : List (Name × Held)) (n : Counts) (is : ArePlaces es n) where
  pub places_distinct : IsDistinct same_name (keys_of es)
  places_distinct = rising_distinct (keys_of es) is.rising

  pub places_table : IsTable (slots_of es)
  places_table = record { distinct = distinct_slots es places_distinct; own = is.own }

  pub places_small : AreSmall n
  places_small = small n (map bare (values_of es)) is.counted (omega (arith, length-map (values_of es) bare, length-map es (λ (e : Name × Held). e.1), is.few))

  pub places_few : AreFew n
  places_few = few n (map bare (values_of es)) is.counted (omega (arith, length-map (values_of es) bare, length-map es (λ (e : Name × Held). e.1), is.few))

  module _ (i : ℕ) (x : Name × Held) (name : Name) (h : Held) (low : i < length es) (at : x ≡ get_or es i x) (own : (get_or es i x).0 ≡ name) where
    weigh_set : (g : Slot → ℕ) → sum_by g (map bare (values_of (set es i (name, h)))) + g (bare x.1) ≡ sum_by g (map bare (values_of es)) + g (bare h)
    weigh_set g =
        let hs = map bare (values_of es) in
        let one : map bare (values_of (set es i (name, h))) ≡ set hs i (bare h) = ap (map bare) (map-set (λ (e : Name × Held). e.1) es i (name, h)) ∙ map-set bare (values_of es) i h in
        let long : length (values_of es) ≡ length es = length-map es (λ (e : Name × Held). e.1) in
        let there : get_or hs i (bare x.1) ≡ bare x.1 =
        get_or-map bare (values_of es) i x.1 (bare x.1) (omega (arith, long, low)) ∙ ap bare (get_or-map (λ (e : Name × Held). e.1) es i x x.1 low ∙ (λ j. (sym at j).1)) in
        omega (arith, ap (sum_by g) one, ap g there, sum_by-set g hs i (bare h) (bare x.1) (omega (arith, long, low, length-map (values_of es) bare)))

    exchanged : Exchanged (map bare (values_of es)) (map bare (values_of (set es i (name, h)))) (bare x.1) (bare h)
    exchanged = record { records = weigh_set records_of; kilobytes = weigh_set kilobytes_of; changed = weigh_set changed_of }

    keys_set : keys_of (set es i (name, h)) ≡ keys_of es
    keys_set =
        map-set (λ (e : Name × Held). e.0) es i (name, h)
        ∙ ap (set (keys_of es) i) (sym own ∙ sym (get_or-map (λ (e : Name × Held). e.0) es i x x.0 low)) ∙ set-get_or (keys_of es) i x.0

    own_set : IsSlotOf name (slot_of name h) → All (λ e. IsSlotOf e.0 e.1) (slots_of (set es i (name, h)))
    own_set fits = subst (All (λ e. IsSlotOf e.0 e.1)) (sym (map-set slot_entry es i (name, h))) (All-set (λ e. IsSlotOf e.0 e.1) (slots_of es) i (name, slot_of name h) fits is.own)

    pub puts_place : PutsHeld es (set es i (name, h)) name h
    puts_place = set_at es i name h x places_distinct low own

    pub place_table : IsSlotOf name (slot_of name h) → IsTable (slots_of (set es i (name, h)))
    place_table fits = record { distinct = distinct_slots (set es i (name, h)) (subst (IsDistinct same_name) (sym keys_set) places_distinct); own = own_set fits }

    module _ (m : Counts) (w : IsWith n (bare h) m) where
      pub place_there : AreThere m (bare x.1)
      place_there = there (map bare (values_of es)) (map bare (values_of (set es i (name, h)))) (bare x.1) (bare h) n m is.counted exchanged w

      pub place_put : (l : Counts) → IsWithout m (bare x.1) l → IsSlotOf name (slot_of name h) → ArePlaces (set es i (name, h)) l
      place_put l o fits = record {
        rising = subst AreSorted (sym keys_set) is.rising;
        own = own_set fits;
        few = subst (λ k. k < 2 ^ 62) (sym (length-set es i (name, h))) is.few;
        counted = counts_after (map bare (values_of es)) (map bare (values_of (set es i (name, h)))) (bare x.1) (bare h) n m l is.counted exchanged w o;
      }

pub not_placed : (es : List (Name × Held)) (name : Name) → AllByRecursion (λ n. same_name name n ≡ false) (keys_of es) → {P : Type 0} → IsSome (lookup (same_name name) es) → P
not_placed es name apart some = absurd (let none = absent name es apart in cc)

-- ---- one place after another

abbrev pub no_entry : Name × Held
no_entry = (record { 0 = [] }, none_held)

pub placed_more : {X : Type 0} (f : Slot → Option X) (es : List (Name × Held)) (i : ℕ) (d : Name × Held) (first before after : List X) → i < length es
    → before ≡ first ++ filter_map f (values_of (slots_of (take i es))) → after ≡ before ++ option_to_list (f (slot_of (get_or es i d).0 (get_or es i d).1))
    → after ≡ first ++ filter_map f (values_of (slots_of (take (i + 1) es)))
placed_more {X} f es i d first before after low was is =
    is ∙ ap (λ l. l ++ option_to_list (f (slot_of (get_or es i d).0 (get_or es i d).1))) was
    ∙ append_assoc first (filter_map f (values_of (slots_of (take i es)))) (option_to_list (f (slot_of (get_or es i d).0 (get_or es i d).1)))
    ∙ ap (λ l. first ++ l) (ap (λ l. filter_map f (values_of (slots_of (take i es))) ++ l) (go (f (slot_of (get_or es i d).0 (get_or es i d).1)))
    ∙ sym (filter_map-append f (values_of (slots_of (take i es))) (slot_of (get_or es i d).0 (get_or es i d).1 ∷ []))
    ∙ ap (filter_map f) (more ∙ ap (λ l. values_of (slots_of l)) (sym (take_more es i d low))))
  where
    go : (o : Option X) → option_to_list o ≡ cons_option o []
    go None = refl
    go (Some x) = refl

    joined : (xs : List (Name × Held)) (e : Name × Held) → values_of (slots_of xs) ++ slot_of e.0 e.1 ∷ [] ≡ values_of (slots_of (xs ++ e ∷ []))
    joined [] e = refl
    joined (x ∷ xs) e = ap (λ l. slot_of x.0 x.1 ∷ l) (joined xs e)

    more : values_of (slots_of (take i es)) ++ slot_of (get_or es i d).0 (get_or es i d).1 ∷ [] ≡ values_of (slots_of (take i es ++ get_or es i d ∷ []))
    more = joined (take i es) (get_or es i d)

-- the counts of one place more
pub counted_place : (es : List (Name × Held)) (i : ℕ) (d : Name × Held) (n m : Counts) → i < length es → n ≡ counts_of (map bare (take i (values_of es))) → IsWith n (bare (get_or es i d).1) m
    → m ≡ counts_of (map bare (take (i + 1) (values_of es)))
counted_place es i d n m low counted w =
    let long : length (values_of es) ≡ length es = length-map es (λ (e : Name × Held). e.1) in
    let at : get_or (values_of es) i d.1 ≡ (get_or es i d).1 = get_or-map (λ (e : Name × Held). e.1) es i d d.1 low in
    counts_more (values_of es) i d.1 n m (omega (arith, long, low)) counted (subst (λ h. IsWith n (bare h) m) (sym at) w)

-- ---- places from the start, and after a change of all

abbrev pub none : Counts
none = record { records = 0; kilobytes = 0; changed = 0 }

no_names : AreSorted []
unfolding IsStrictlySortedBy
no_names = tt

pub no_places : ArePlaces [] none
no_places = record { rising = no_names; own = All-nil (λ e. IsSlotOf e.0 e.1); few = omega arith; counted = refl }

none_new : (rs : List IndexRecord) → none ≡ counts_of (map bare (values_of (map new_place rs)))
none_new rs = λ i. record { records = none_of records_of refl rs i; kilobytes = none_of kilobytes_of refl rs i; changed = none_of changed_of refl rs i }
  where
    none_of : (g : Slot → ℕ) → g (bare none_held) ≡ 0 → (rs : List IndexRecord) → 0 ≡ sum_by g (map bare (values_of (map new_place rs)))
    none_of g is [] = refl
    none_of g is (r ∷ rs) = omega (arith, none_of g is rs, is, sum_by-cons g (bare none_held) (map bare (values_of (map new_place rs))))

own_new : (rs : List IndexRecord) → All (λ e. IsSlotOf e.0 e.1) (slots_of (map new_place rs))
own_new [] = All-nil (λ e. IsSlotOf e.0 e.1)
own_new (r ∷ rs) = All-cons (λ e. IsSlotOf e.0 e.1) (r.name, slot_of r.name none_held) (slots_of (map new_place rs)) (record { current = tt; base = tt }) (own_new rs)

pub new_places : (rs : List IndexRecord) → AreSorted (map (λ (r : IndexRecord). r.name) rs) → length rs < 2 ^ 62 → ArePlaces (map new_place rs) none
new_places rs rising few = record {
  rising = subst AreSorted (sym (new_keys rs)) rising;
  own = own_new rs;
  few = subst (λ n. n < 2 ^ 62) (sym (length-map rs new_place)) few;
  counted = none_new rs;
}

own_changed : (w : Slot → Slot) (v : Held → Held) → ((k : Name) (h : Held) → slot_of k (v h) ≡ w (slot_of k h)) → ((name : Name) (slot : Slot) → IsSlotOf name slot → IsSlotOf name (w slot))
    → (es : List (Name × Held)) → All (λ e. IsSlotOf e.0 e.1) (slots_of es) → All (λ e. IsSlotOf e.0 e.1) (slots_of (map (λ e. (e.0, v e.1)) es))
own_changed w v same keeps [] own = All-nil (λ e. IsSlotOf e.0 e.1)
own_changed w v same keeps (e ∷ es) own = All-cons (λ e. IsSlotOf e.0 e.1) (e.0, slot_of e.0 (v e.1)) (slots_of (map (λ e. (e.0, v e.1)) es))
    (subst (IsSlotOf e.0) (sym (same e.0 e.1)) (keeps e.0 (slot_of e.0 e.1) (All-head (λ e. IsSlotOf e.0 e.1) (slot_entry e) (slots_of es) own)))
    (own_changed w v same keeps es (All-tail (λ e. IsSlotOf e.0 e.1) (slot_entry e) (slots_of es) own))

places_changed : (w : Slot → Slot) (v : Held → Held) → ((k : Name) (h : Held) → slot_of k (v h) ≡ w (slot_of k h)) → ((name : Name) (slot : Slot) → IsSlotOf name slot → IsSlotOf name (w slot))
    → (es after : List (Name × Held)) (n m : Counts) → ArePlaces es n → after ≡ map (λ e. (e.0, v e.1)) es → m ≡ counts_of (map bare (values_of after)) → ArePlaces after m
places_changed w v same keeps es after n m is e counted = record {
  rising = subst AreSorted (sym (ap keys_of e ∙ keys_changed v es)) is.rising;
  own = subst (λ l. All (λ e. IsSlotOf e.0 e.1) (slots_of l)) (sym e) (own_changed w v same keeps es is.own);
  few = subst (λ k. k < 2 ^ 62) (sym (ap length e ∙ length-map es (λ (e : Name × Held). (e.0, v e.1)))) is.few;
  counted = counted;
}

pub places_seen : (es after : List (Name × Held)) (n m : Counts) → ArePlaces es n → after ≡ map (λ e. (e.0, seen_held e.1)) es → m ≡ counts_of (map bare (values_of after)) → ArePlaces after m
places_seen = places_changed seen_only seen_held seen_same seen_only_fits

pub places_written : (es after : List (Name × Held)) (n m : Counts) → ArePlaces es n → after ≡ map (λ e. (e.0, written_held e.1)) es → m ≡ counts_of (map bare (values_of after)) → ArePlaces after m
places_written = places_changed written written_held (λ k h. refl) written_fits

-- ---- the slots after one place is written

pub none_placed : (es : List (Name × Held)) (name : Name) → IsTable (slots_of es) → None ≡ lookup (same_name name) es → lookup (same_name name) (used_in es) ≡ None
none_placed es name is none = used_at es name is ∙ ap (λ o. option_and_then (kept_slot same_slot) (option_map (slot_of name) o)) (sym none)

pub placed : (es after : List (Name × Held)) (name : Name) (h : Held) → IsTable (slots_of es) → IsTable (slots_of after) → PutsHeld es after name h
    → PutsSlot (used_in es) (used_in after) name (kept_slot same_slot (slot_of name h))
placed es after name h was is puts q =
    used_at after q is ∙ ap (λ o. option_and_then (kept_slot same_slot) (option_map (slot_of q) o)) (puts q) ∙ go (same_name name q) refl
  where
    go : (b : Bool) → same_name name q ≡ b → option_and_then (kept_slot same_slot) (option_map (slot_of q) (cond b (Some h) (lookup (same_name q) es)))
        ≡ cond b (kept_slot same_slot (slot_of name h)) (lookup (same_name q) (used_in es))
    go true same = ap (λ n. kept_slot same_slot (slot_of n h)) (sym (same_is name q same))
    go false same = sym (used_at es q was)

pub kept_gone : (b : Option IndexRecord) → kept_slot same_slot (record { current = None; seen = false; base = b }) ≡ option_map (λ b. record { current = None; seen = false; base = Some b }) b
kept_gone None = refl
kept_gone (Some b) = refl

pub used_found : (es : List (Name × Held)) (name : Name) (held x : Option Held) → IsTable (slots_of es) → held ≡ lookup (same_name name) es
    → option_map (slot_of name) x ≡ option_and_then (kept_slot same_slot) (option_map (slot_of name) held) → option_map (slot_of name) x ≡ lookup (same_name name) (used_in es)
used_found es name held x is at e = e ∙ ap (λ o. option_and_then (kept_slot same_slot) (option_map (slot_of name) o)) at ∙ sym (used_at es name is)

-- the base's record of a name that has a place
pub base_is : (o : List (Name × Slot)) (es : List (Name × Held)) (name : Name) (p : Held) (below : Option Held) → IsTable (slots_of es) → Some p ≡ lookup (same_name name) es
    → option_map (slot_of name) below ≡ lookup (same_name name) o
    → option_map (record_of name) (base_over p below) ≡ option_and_then (λ (s : Slot). s.base) (lookup (same_name name) (o ++ used_in es))
base_is o es name p below is at under =
    go below ∙ sym (ap (option_and_then (λ (s : Slot). s.base))
    (lookup_join (same_name name) o (used_in es)
    ∙ (λ i. first_of (sym under i) ((used_at es name is ∙ ap (λ h. option_and_then (kept_slot same_slot) (option_map (slot_of name) h)) (sym at)) i))))
  where
    kept : (u : Bool) → is_used (slot_of name p) ≡ u → option_map (record_of name) p.base ≡ option_and_then (λ (s : Slot). s.base) (cond u (Some (slot_of name p)) None)
    kept true h = refl
    kept false h = unused_base (slot_of name p) h

    go : (b : Option Held) → option_map (record_of name) (base_over p b) ≡ option_and_then (λ (s : Slot). s.base) (first_of (option_map (slot_of name) b) (kept_slot same_slot (slot_of name p)))
    go None = kept (is_used (slot_of name p)) refl
    go (Some h) = refl
