-- Slots that are held without their names, and the slots that they are.
use Rattle.std.proofs.Common.{◌≡◌, ℕ, zero, suc, ◌+◌, ◌-◌, ◌<◌, ◌≤◌, Bool, true, false, cond, not, List, [], ◌∷◌, ◌++◌, length, get_or, set, take, refl, sym, ap, ◌∙◌, subst}
use Rattle.std.specs.List.{IsDistinct, cons_option, filter_map, sum_by, swap_remove}
use Rattle.std.specs.Map.{keys_of, lookup, values_of}
use Rattle.std.specs.Option.{option_eq, option_map, option_map_or}
use Rattle.std.specs.Prelude.{Err, None, Ok, OnErr, Option, Result, Some, is_some, map, option_to_list, position, unwrap_or, ◌&&◌, ◌==◌, ◌||◌}
use Rattle.std.proofs.lemmas.List.{append-nil, append_assoc, length-map, map-set, map_more, take-map}
use Rattle.std.proofs.lemmas.List.Sums.{sum_by-cons, sum_by_push}
use Rattle.cache_base.specs.Numbers.{one_if}
use Rattle.cache_base.specs.declared.name.Name.{Name}
use Rattle.index_record.specs.Record.{size_kb}
use Rattle.index_record.specs.declared.record.IndexRecord.{IndexRecord}
use Rattle.indexmap.specs.IndexMap.{insert_entry, swap_remove_entry}
use Rattle.record_list.specs.Change.{record_eq}
use Rattle.record_list.specs.Lists.{same_name}
use Rattle.record_list.proofs.NameLaws.{same_is, same_itself}
use Rattle.index_map.specs.Slots.{Slot, bare, changed_of, counts_of, is_held, is_used, kilobytes_of, record_of, records_of, seen_held, seen_only, slot_of, slots_of}
use Rattle.index_map.specs.declared.slot.Facts.{Facts}
use Rattle.index_map.specs.declared.counts.Counts.{Counts}
use Rattle.index_map.specs.declared.slot.Held.{Held}
use Rattle.index_map.proofs.Sums.{AreThere, IsWith, IsWithout, empty}

-- the slot without records
abbrev pub none_held : Held
none_held = record { current = None; base = None; seen = false }

pub on_err : {T E P : Type 0} (r : Result T E) → P → OnErr r P
on_err (Ok x) h = tt
on_err (Err e) h = h

-- ---- one slot

some_named : (f : Facts → IndexRecord) (o : Option Facts) → is_some o ≡ is_some (option_map f o)
some_named f None = refl
some_named f (Some x) = refl

pub held_used : (k : Name) (h : Held) → is_held h ≡ is_used (slot_of k h)
held_used k h = λ i. some_named (record_of k) h.current i || some_named (record_of k) h.base i

pub seen_same : (k : Name) (h : Held) → slot_of k (seen_held h) ≡ seen_only (slot_of k h)
seen_same k h = λ i. record { current = go h.seen h.current i; seen = h.seen; base = option_map (record_of k) h.base }
  where
    go : (b : Bool) (o : Option Facts) → option_map (record_of k) (cond b o None) ≡ cond b (option_map (record_of k) o) None
    go true o = refl
    go false o = refl

-- the two orders in which the fields of records are compared
and_all : (x : Bool) → (x && true) ≡ x
and_all true = refl
and_all false = refl

and_none : (x : Bool) → (x && false) ≡ false
and_none true = refl
and_none false = refl

reordered : (f o s p c g : Bool) → (true && f && o && s && p && c && g) ≡ (o && f && g && s && p && c)
reordered false true s p c g = refl
reordered false false s p c g = refl
reordered true false s p c g = refl
reordered true true s p c true = and_all (s && p && c)
reordered true true s p c false = and_none (s && p && c)

abbrev pub facts_eq : Facts → Facts → Bool
facts_eq a b = a.origin == b.origin && a.frecency == b.frecency && a.flags == b.flags && a.on_start == b.on_start && a.on_stop == b.on_stop && a.content == b.content

-- records of one name are compared by the rest
pub named_eq : (k : Name) (a b : Facts) → record_eq (record_of k a) (record_of k b) ≡ facts_eq a b
named_eq k a b =
    ap (λ t. t && a.frecency == b.frecency && a.origin == b.origin && a.on_start == b.on_start && a.on_stop == b.on_stop && a.content == b.content && a.flags == b.flags) (same_itself k)
    ∙ reordered (a.frecency == b.frecency) (a.origin == b.origin) (a.on_start == b.on_start) (a.on_stop == b.on_stop) (a.content == b.content) (a.flags == b.flags)

pub options_eq : (k : Name) (a b : Option Facts) → option_eq record_eq (option_map (record_of k) a) (option_map (record_of k) b) ≡ option_eq facts_eq a b
options_eq k None None = refl
options_eq k None (Some b) = refl
options_eq k (Some a) None = refl
options_eq k (Some a) (Some b) = named_eq k a b

-- ---- what a slot adds to the counts

abbrev no_name : Name
no_name = record { 0 = [] }

records_bare : (k : Name) (h : Held) → records_of (slot_of k h) ≡ records_of (bare h)
records_bare k h = go h.current
  where
    go : (o : Option Facts) → one_if (is_some (option_map (record_of k) o)) ≡ one_if (is_some (option_map (record_of no_name) o))
    go None = refl
    go (Some f) = refl

kilobytes_bare : (k : Name) (h : Held) → kilobytes_of (slot_of k h) ≡ kilobytes_of (bare h)
kilobytes_bare k h = go h.current
  where
    go : (o : Option Facts) → option_map_or size_kb (option_map (record_of k) o) 0 ≡ option_map_or size_kb (option_map (record_of no_name) o) 0
    go None = refl
    go (Some f) = refl

changed_bare : (k : Name) (h : Held) → changed_of (slot_of k h) ≡ changed_of (bare h)
changed_bare k h = ap (λ t. one_if (not t)) (options_eq k h.base h.current ∙ sym (options_eq no_name h.base h.current))

sums_bare : (g : Slot → ℕ) → ((k : Name) (h : Held) → g (slot_of k h) ≡ g (bare h)) → (es : List (Name × Held)) → sum_by g (map bare (values_of es)) ≡ sum_by g (values_of (slots_of es))
sums_bare g same [] = refl
sums_bare g same (e ∷ es) =
    sum_by-cons g (bare e.1) (map bare (values_of es)) ∙ (λ i. sym (same e.0 e.1) i + sums_bare g same es i) ∙ sym (sum_by-cons g (slot_of e.0 e.1) (values_of (slots_of es)))

pub counts_bare : (es : List (Name × Held)) → counts_of (map bare (values_of es)) ≡ counts_of (values_of (slots_of es))
counts_bare es = λ i. record {
  records = sums_bare records_of records_bare es i;
  kilobytes = sums_bare kilobytes_of kilobytes_bare es i;
  changed = sums_bare changed_of changed_bare es i;
}

-- what is known of the counts with a bare slot is known of them with the slot
pub with_named : (n : Counts) (k : Name) (h : Held) (m : Counts) → IsWith n (bare h) m → IsWith n (slot_of k h) m
with_named n k h m w = record {
  records = w.records ∙ ap (λ x. n.records + x) (sym (records_bare k h));
  kilobytes = w.kilobytes ∙ ap (λ x. n.kilobytes + x) (sym (kilobytes_bare k h));
  changed = w.changed ∙ ap (λ x. n.changed + x) (sym (changed_bare k h));
}

pub without_named : (n : Counts) (k : Name) (h : Held) (m : Counts) → IsWithout n (bare h) m → IsWithout n (slot_of k h) m
without_named n k h m w = record {
  records = w.records ∙ ap (λ x. n.records - x) (sym (records_bare k h));
  kilobytes = w.kilobytes ∙ ap (λ x. n.kilobytes - x) (sym (kilobytes_bare k h));
  changed = w.changed ∙ ap (λ x. n.changed - x) (sym (changed_bare k h));
}

pub there_bare : (n : Counts) (k : Name) (h : Held) → AreThere n (slot_of k h) → AreThere n (bare h)
there_bare n k h t = record {
  records = subst (λ x. x ≤ n.records) (records_bare k h) t.records;
  kilobytes = subst (λ x. x ≤ n.kilobytes) (kilobytes_bare k h) t.kilobytes;
  changed = subst (λ x. x ≤ n.changed) (changed_bare k h) t.changed;
}

more_bare : (g : Slot → ℕ) (hs : List Held) (i : ℕ) (d : Held) → i < length hs → sum_by g (map bare (take (i + 1) hs)) ≡ sum_by g (map bare (take i hs)) + g (bare (get_or hs i d))
more_bare g hs i d low = ap (sum_by g) (map_more bare hs i d low) ∙ sum_by_push g (map bare (take i hs)) (bare (get_or hs i d))

-- the counts of one slot more
pub counts_more : (hs : List Held) (i : ℕ) (d : Held) (n m : Counts) → i < length hs → n ≡ counts_of (map bare (take i hs)) → IsWith n (bare (get_or hs i d)) m
    → m ≡ counts_of (map bare (take (i + 1) hs))
counts_more hs i d n m low counted w = λ j. record {
  records = (w.records ∙ ap (λ (c : Counts). c.records + records_of (bare (get_or hs i d))) counted ∙ sym (more_bare records_of hs i d low)) j;
  kilobytes = (w.kilobytes ∙ ap (λ (c : Counts). c.kilobytes + kilobytes_of (bare (get_or hs i d))) counted ∙ sym (more_bare kilobytes_of hs i d low)) j;
  changed = (w.changed ∙ ap (λ (c : Counts). c.changed + changed_of (bare (get_or hs i d))) counted ∙ sym (more_bare changed_of hs i d low)) j;
}

-- ---- the slots of a table

abbrev slot_entry : Name × Held → Name × Slot
slot_entry e = (e.0, slot_of e.0 e.1)

pub keys_slots : (es : List (Name × Held)) → keys_of (slots_of es) ≡ keys_of es
keys_slots [] = refl
keys_slots (e ∷ es) = λ i. e.0 ∷ keys_slots es i

pub length_slots : (es : List (Name × Held)) → length (slots_of es) ≡ length es
length_slots es = length-map es slot_entry

pub distinct_slots : (es : List (Name × Held)) → IsDistinct same_name (keys_of es) → IsDistinct same_name (keys_of (slots_of es))
distinct_slots es h = subst (IsDistinct same_name) (sym (keys_slots es)) h

pub lookup_slots : (q : Name) (es : List (Name × Held)) → lookup (same_name q) (slots_of es) ≡ option_map (slot_of q) (lookup (same_name q) es)
lookup_slots q [] = refl
lookup_slots q (e ∷ es) = go (same_name q e.0) refl (lookup_slots q es)
  where
    go : (b : Bool) → same_name q e.0 ≡ b → lookup (same_name q) (slots_of es) ≡ option_map (slot_of q) (lookup (same_name q) es)
        → cond b (Some (slot_of e.0 e.1)) (lookup (same_name q) (slots_of es)) ≡ option_map (slot_of q) (cond b (Some e.1) (lookup (same_name q) es))
    go true h rest = ap (λ n. Some (slot_of n e.1)) (sym (same_is q e.0 h))
    go false h rest = rest

-- what is held after a slot is put, in terms of slots
pub puts_slots : (k : Name) (h : Held) (es after : List (Name × Held)) (q : Name) → lookup (same_name q) after ≡ cond (same_name k q) (Some h) (lookup (same_name q) es)
    → lookup (same_name q) (slots_of after) ≡ cond (same_name k q) (Some (slot_of k h)) (lookup (same_name q) (slots_of es))
puts_slots k h es after q is = lookup_slots q after ∙ ap (option_map (slot_of q)) is ∙ go (same_name k q) refl
  where
    go : (b : Bool) → same_name k q ≡ b → option_map (slot_of q) (cond b (Some h) (lookup (same_name q) es)) ≡ cond b (Some (slot_of k h)) (lookup (same_name q) (slots_of es))
    go true same = ap (λ n. Some (slot_of n h)) (sym (same_is k q same))
    go false same = sym (lookup_slots q es)

pub takes_slots : (k : Name) (es after : List (Name × Held)) (q : Name) → lookup (same_name q) after ≡ cond (same_name k q) None (lookup (same_name q) es)
    → lookup (same_name q) (slots_of after) ≡ cond (same_name k q) None (lookup (same_name q) (slots_of es))
takes_slots k es after q is = lookup_slots q after ∙ ap (option_map (slot_of q)) is ∙ go (same_name k q)
  where
    go : (b : Bool) → option_map (slot_of q) (cond b None (lookup (same_name q) es)) ≡ cond b None (lookup (same_name q) (slots_of es))
    go true = refl
    go false = sym (lookup_slots q es)

-- what was held under the name, or the empty slot
pub lookup_or_slots : (q : Name) (es : List (Name × Held)) → slot_of q (unwrap_or (lookup (same_name q) es) none_held) ≡ unwrap_or (lookup (same_name q) (slots_of es)) empty
lookup_or_slots q es = go (lookup (same_name q) es) ∙ ap (λ o. unwrap_or o empty) (sym (lookup_slots q es))
  where
    go : (o : Option Held) → slot_of q (unwrap_or o none_held) ≡ unwrap_or (option_map (slot_of q) o) empty
    go None = refl
    go (Some h) = refl

pub insert_slots : (k : Name) (h : Held) (es : List (Name × Held)) → slots_of (insert_entry same_name es k h) ≡ insert_entry same_name (slots_of es) k (slot_of k h)
insert_slots k h [] = refl
insert_slots k h (e ∷ es) = go (same_name k e.0) refl (insert_slots k h es)
  where
    go : (b : Bool) → same_name k e.0 ≡ b → slots_of (insert_entry same_name es k h) ≡ insert_entry same_name (slots_of es) k (slot_of k h)
        → slots_of (cond b ((e.0, h) ∷ es) (e ∷ insert_entry same_name es k h)) ≡ cond b ((e.0, slot_of k h) ∷ slots_of es) ((e.0, slot_of e.0 e.1) ∷ insert_entry same_name (slots_of es) k (slot_of k h))
    go true same rest = λ i. (e.0, slot_of (sym (same_is k e.0 same) i) h) ∷ slots_of es
    go false same rest = λ i. (e.0, slot_of e.0 e.1) ∷ rest i

get_or_slots : (es : List (Name × Held)) (i : ℕ) (d : Name × Held) → get_or (slots_of es) i (slot_entry d) ≡ slot_entry (get_or es i d)
get_or_slots [] i d = refl
get_or_slots (e ∷ es) zero d = refl
get_or_slots (e ∷ es) (suc i) d = get_or_slots es i d

removed_slots : (es : List (Name × Held)) (i : ℕ) (d : Name × Held) → slots_of (swap_remove es i d) ≡ swap_remove (slots_of es) i (slot_entry d)
removed_slots es i d =
    let last = length es - 1 in
    sym (take-map slot_entry last (set es i (get_or es last d)))
    ∙ ap (take last) (map-set slot_entry es i (get_or es last d) ∙ ap (set (slots_of es) i) (sym (get_or_slots es last d)))
    ∙ ap (λ n. take (n - 1) (set (slots_of es) i (get_or (slots_of es) (n - 1) (slot_entry d)))) (sym (length-map es slot_entry))

pub take_slots : (t : Name → Bool) (es : List (Name × Held)) → slots_of (swap_remove_entry t es) ≡ swap_remove_entry t (slots_of es)
take_slots t [] = refl
take_slots t (e ∷ es) =
    go (position t (keys_of (e ∷ es)))
    ∙ ap (λ ks. option_map_or (λ i. swap_remove (slots_of (e ∷ es)) i (slot_entry e)) (position t ks) (slots_of (e ∷ es))) (sym (keys_slots (e ∷ es)))
  where
    go : (o : Option ℕ) → slots_of (option_map_or (λ i. swap_remove (e ∷ es) i e) o (e ∷ es)) ≡ option_map_or (λ i. swap_remove (slots_of (e ∷ es)) i (slot_entry e)) o (slots_of (e ∷ es))
    go None = refl
    go (Some i) = removed_slots (e ∷ es) i e

-- ---- lists made of the slots

pub listed_all : {X : Type 0} (f : Slot → Option X) (out : List X) (rest es : List (Name × Held)) → rest ≡ []
    → out ++ filter_map f (values_of (slots_of rest)) ≡ filter_map f (values_of (slots_of es)) → out ≡ filter_map f (values_of (slots_of es))
listed_all f out rest es end is = sym (append-nil out) ∙ ap (λ l. out ++ filter_map f (values_of (slots_of l))) (sym end) ∙ is

pub listed_more : {X : Type 0} (f : Slot → Option X) (out now : List X) (k : Name) (h : Held) (rest left : List (Name × Held)) (whole : List X)
    → rest ≡ (k, h) ∷ left → now ≡ out ++ option_to_list (f (slot_of k h)) → out ++ filter_map f (values_of (slots_of rest)) ≡ whole
    → now ++ filter_map f (values_of (slots_of left)) ≡ whole
listed_more {X} f out now k h rest left whole first is was =
    ap (λ l. l ++ filter_map f (values_of (slots_of left))) is
    ∙ append_assoc out (option_to_list (f (slot_of k h))) (filter_map f (values_of (slots_of left)))
    ∙ ap (λ l. out ++ l) (go (f (slot_of k h)) (filter_map f (values_of (slots_of left))))
    ∙ ap (λ l. out ++ filter_map f (values_of (slots_of l))) (sym first)
    ∙ was
  where
    go : (o : Option X) (xs : List X) → option_to_list o ++ xs ≡ cons_option o xs
    go None xs = refl
    go (Some x) xs = refl
