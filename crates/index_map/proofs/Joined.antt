-- The slots of two layers, none of whose names stands in both.
use Rattle.std.proofs.Common.{◌≡◌, ℕ, ◌+◌, Bool, true, false, cond, not, List, [], ◌∷◌, ◌++◌, refl, sym, ap, ◌∙◌, subst}
use Rattle.std.specs.List.{AllByRecursion, IsDistinct, cons_option, filter_map, sum_by}
use Rattle.std.specs.Map.{keys_of, lookup, values_of}
use Rattle.std.specs.Option.{option_eq, option_map}
use Rattle.std.specs.Prelude.{Err, IfSome, Ok, OnErr, OnOk, Result, IsSome, None, Option, Some, option_and_then, ◌&&◌, ◌==◌}
use Rattle.std.proofs.lemmas.Bool.{and_parts, eqb-true}
use Rattle.std.proofs.lemmas.List.Elements.{All-append, filter_map-append}
use Rattle.std.proofs.lemmas.List.Sums.{sum_by-append}
use Rattle.std.proofs.lemmas.Map.Keys.{IsDistinct-cons, IsDistinct-head, IsDistinct-tail}
use Rattle.cache_base.specs.declared.name.Name.{Name}
use Rattle.index_record.specs.declared.record.IndexRecord.{IndexRecord}
use Rattle.record_list.specs.Change.{record_eq}
use Rattle.record_list.specs.Lists.{same_name}
use Rattle.record_list.proofs.NameLaws.{same_is, same_itself}
use Rattle.index_map.specs.Slots.{AreApart, IsSlotOf, IsTable, PutsSlot, Slot, changed_of, counts_of, facts_of, gone_slot, kept_slot, kilobytes_of, marked, record_of, record_slot, records_of, remarked, rewritten, slot_of}
use Rattle.index_map.specs.declared.counts.Counts.{Counts}
use Rattle.index_map.specs.declared.mark.Mark.TheVariants.{Away, Gone, Seen}
use Rattle.index_map.specs.declared.slot.Facts.{Facts}
use Rattle.index_map.specs.declared.slot.Held.{Held}

abbrev pub first_of : Option Slot → Option Slot → Option Slot
first_of None o = o
first_of (Some s) o = Some s

first_none : (o : Option Slot) → first_of o None ≡ o
first_none None = refl
first_none (Some s) = refl

pub lookup_join : (t : Name → Bool) (a b : List (Name × Slot)) → lookup t (a ++ b) ≡ first_of (lookup t a) (lookup t b)
lookup_join t [] b = refl
lookup_join t (e ∷ a) b = go (t e.0) (lookup_join t a b)
  where
    go : (u : Bool) → lookup t (a ++ b) ≡ first_of (lookup t a) (lookup t b) → cond u (Some e.1) (lookup t (a ++ b)) ≡ first_of (cond u (Some e.1) (lookup t a)) (lookup t b)
    go true h = refl
    go false h = h

pub values_join : (a b : List (Name × Slot)) → values_of (a ++ b) ≡ values_of a ++ values_of b
values_join [] b = refl
values_join (e ∷ a) b = ap (λ l. e.1 ∷ l) (values_join a b)

pub listed_join : {X : Type 0} (f : Slot → Option X) (a b : List (Name × Slot)) → filter_map f (values_of (a ++ b)) ≡ filter_map f (values_of a) ++ filter_map f (values_of b)
listed_join f a b = ap (filter_map f) (values_join a b) ∙ filter_map-append f (values_of a) (values_of b)

sum_join : (g : Slot → ℕ) (a b : List (Name × Slot)) → sum_by g (values_of (a ++ b)) ≡ sum_by g (values_of a) + sum_by g (values_of b)
sum_join g a b = ap (sum_by g) (values_join a b) ∙ sum_by-append g (values_of a) (values_of b)

pub counts_join : (a b : List (Name × Slot)) (n m l : Counts) → n ≡ counts_of (values_of a) → m ≡ counts_of (values_of b)
    → l.records ≡ n.records + m.records → l.kilobytes ≡ n.kilobytes + m.kilobytes → l.changed ≡ n.changed + m.changed → l ≡ counts_of (values_of (a ++ b))
counts_join a b n m l x y records kilobytes changed = λ i. record {
  records = (records ∙ (λ j. (x j).records + (y j).records) ∙ sym (sum_join records_of a b)) i;
  kilobytes = (kilobytes ∙ (λ j. (x j).kilobytes + (y j).kilobytes) ∙ sym (sum_join kilobytes_of a b)) i;
  changed = (changed ∙ (λ j. (x j).changed + (y j).changed) ∙ sym (sum_join changed_of a b)) i;
}

pub rewritten_join : (w : Slot → Slot) (a b : List (Name × Slot)) → rewritten w (a ++ b) ≡ rewritten w a ++ rewritten w b
rewritten_join w a b = filter_map-append (λ e. option_map (λ slot. (e.0, slot)) (kept_slot w e.1)) a b

-- ---- the join is a table

none_keys : (t : Name → Bool) (b : List (Name × Slot)) → lookup t b ≡ None → AllByRecursion (λ y. t y ≡ false) (keys_of b)
none_keys t [] h = tt
none_keys t (e ∷ b) h = go (t e.0) refl h (none_keys t b)
  where
    go : (u : Bool) → t e.0 ≡ u → cond u (Some e.1) (lookup t b) ≡ None → (lookup t b ≡ None → AllByRecursion (λ y. t y ≡ false) (keys_of b)) → AllByRecursion (λ y. t y ≡ false) (keys_of (e ∷ b))
    go true is h rest = absurd (cc)
    go false is h rest = (is, rest h)

tail_apart : (e : Name × Slot) (a b : List (Name × Slot)) → AreApart (e ∷ a) b → AreApart a b
tail_apart e a b apart q = go (same_name q e.0) (lookup (same_name q) a) (apart q)
  where
    go : (u : Bool) (o : Option Slot) → IfSome (cond u (Some e.1) o) (λ slot. lookup (same_name q) b ≡ None) → IfSome o (λ slot. lookup (same_name q) b ≡ None)
    go u None h = tt
    go true (Some s) h = h
    go false (Some s) h = h

head_apart : (e : Name × Slot) (a b : List (Name × Slot)) → AreApart (e ∷ a) b → lookup (same_name e.0) b ≡ None
head_apart e a b apart = subst (λ u. IfSome (cond u (Some e.1) (lookup (same_name e.0) a)) (λ slot. lookup (same_name e.0) b ≡ None)) (same_itself e.0) (apart e.0)

all_both : (name : Name) (a b : List (Name × Slot)) → AllByRecursion (λ y. same_name name y ≡ false) (keys_of a) → AllByRecursion (λ y. same_name name y ≡ false) (keys_of b)
    → AllByRecursion (λ y. same_name name y ≡ false) (keys_of (a ++ b))
all_both name [] b h k = k
all_both name (e ∷ a) b h k = (h.0, all_both name a b h.1 k)

distinct_join : (a b : List (Name × Slot)) → IsDistinct same_name (keys_of a) → IsDistinct same_name (keys_of b) → AreApart a b → IsDistinct same_name (keys_of (a ++ b))
distinct_join [] b x y apart = y
distinct_join (e ∷ a) b x y apart =
    IsDistinct-cons same_name e.0 (keys_of (a ++ b))
    (all_both e.0 a b (IsDistinct-head same_name e.0 (keys_of a) x) (none_keys (same_name e.0) b (head_apart e a b apart)))
    (distinct_join a b (IsDistinct-tail same_name e.0 (keys_of a) x) y (tail_apart e a b apart))

pub join_table : (a b : List (Name × Slot)) → IsTable a → IsTable b → AreApart a b → IsTable (a ++ b)
join_table a b x y apart = record {
  distinct = distinct_join a b x.distinct y.distinct apart;
  own = All-append (λ e. IsSlotOf e.0 e.1) a b x.own y.own;
}

-- ---- one slot is put

module _ (o b : List (Name × Slot)) (apart : AreApart o b) (name : Name) where
  -- a slot of the list is none of the table
  pub none_of : (s : Slot) → lookup (same_name name) b ≡ Some s → lookup (same_name name) o ≡ None
  none_of s is = go (lookup (same_name name) o) refl (apart name)
    where
      go : (x : Option Slot) → lookup (same_name name) o ≡ x → IfSome x (λ slot. lookup (same_name name) b ≡ None) → lookup (same_name name) o ≡ None
      go None e h = e
      go (Some t) e h = absurd (cc)

  pub from_list : (s : Slot) → lookup (same_name name) b ≡ Some s → lookup (same_name name) (o ++ b) ≡ Some s
  from_list s is = lookup_join (same_name name) o b ∙ (λ i. first_of (none_of s is i) (is i))

  pub from_table : lookup (same_name name) b ≡ None → lookup (same_name name) (o ++ b) ≡ lookup (same_name name) o
  from_table is = lookup_join (same_name name) o b ∙ ap (first_of (lookup (same_name name) o)) is ∙ first_none (lookup (same_name name) o)

  -- in the table, where the list has none of the name
  module _ (p : List (Name × Slot)) (slot : Option Slot) (none : lookup (same_name name) b ≡ None) (puts : PutsSlot o p name slot) where
    pub puts_other : PutsSlot (o ++ b) (p ++ b) name slot
    puts_other q =
        lookup_join (same_name q) p b ∙ ap (λ x. first_of x (lookup (same_name q) b)) (puts q)
        ∙ go (same_name name q) refl ∙ ap (cond (same_name name q) slot) (sym (lookup_join (same_name q) o b))
      where
        go : (u : Bool) → same_name name q ≡ u → first_of (cond u slot (lookup (same_name q) o)) (lookup (same_name q) b) ≡ cond u slot (first_of (lookup (same_name q) o) (lookup (same_name q) b))
        go true is = ap (first_of slot) (ap (λ n. lookup (same_name n) b) (sym (same_is name q is)) ∙ none) ∙ first_none slot
        go false is = refl

    pub apart_other : AreApart p b
    apart_other q = subst (λ x. IfSome x (λ s. lookup (same_name q) b ≡ None)) (sym (puts q)) (go (same_name name q) refl)
      where
        any : (x : Option Slot) → lookup (same_name q) b ≡ None → IfSome x (λ s. lookup (same_name q) b ≡ None)
        any None h = tt
        any (Some s) h = h

        go : (u : Bool) → same_name name q ≡ u → IfSome (cond u slot (lookup (same_name q) o)) (λ s. lookup (same_name q) b ≡ None)
        go true is = any slot (ap (λ n. lookup (same_name n) b) (sym (same_is name q is)) ∙ none)
        go false is = apart q

  -- in the list
  module _ (c : List (Name × Slot)) (slot : Option Slot) (none : lookup (same_name name) o ≡ None) (puts : PutsSlot b c name slot) where
    pub puts_list : PutsSlot (o ++ b) (o ++ c) name slot
    puts_list q =
        lookup_join (same_name q) o c ∙ ap (first_of (lookup (same_name q) o)) (puts q)
        ∙ go (same_name name q) refl ∙ ap (cond (same_name name q) slot) (sym (lookup_join (same_name q) o b))
      where
        go : (u : Bool) → same_name name q ≡ u → first_of (lookup (same_name q) o) (cond u slot (lookup (same_name q) b)) ≡ cond u slot (first_of (lookup (same_name q) o) (lookup (same_name q) b))
        go true is = ap (λ x. first_of x slot) (ap (λ n. lookup (same_name n) o) (sym (same_is name q is)) ∙ none)
        go false is = refl

    pub apart_list : AreApart o c
    apart_list q = subst (λ x. IfSome (lookup (same_name q) o) (λ s. x ≡ None)) (sym (puts q)) (go (same_name name q) refl)
      where
        go : (u : Bool) → same_name name q ≡ u → IfSome (lookup (same_name q) o) (λ s. cond u slot (lookup (same_name q) b) ≡ None)
        go true is = subst (λ x. IfSome x (λ s. slot ≡ None)) (sym (ap (λ n. lookup (same_name n) o) (sym (same_is name q is)) ∙ none)) tt
        go false is = apart q

  -- from the list into the table
  module _ (p c : List (Name × Slot)) (s : Slot) (puts : PutsSlot o p name (Some s)) (takes : PutsSlot b c name None) where
    pub puts_over : PutsSlot (o ++ b) (p ++ c) name (Some s)
    puts_over q =
        lookup_join (same_name q) p c ∙ (λ i. first_of (puts q i) (takes q i))
        ∙ go (same_name name q) ∙ ap (cond (same_name name q) (Some s)) (sym (lookup_join (same_name q) o b))
      where
        go : (u : Bool) → first_of (cond u (Some s) (lookup (same_name q) o)) (cond u None (lookup (same_name q) b)) ≡ cond u (Some s) (first_of (lookup (same_name q) o) (lookup (same_name q) b))
        go true = refl
        go false = refl

    pub apart_over : AreApart p c
    apart_over q =
        subst (λ x. IfSome x (λ t. lookup (same_name q) c ≡ None)) (sym (puts q))
        (subst (λ y. IfSome (cond (same_name name q) (Some s) (lookup (same_name q) o)) (λ t. y ≡ None)) (sym (takes q)) (go (same_name name q)))
      where
        go : (u : Bool) → IfSome (cond u (Some s) (lookup (same_name q) o)) (λ t. cond u None (lookup (same_name q) b) ≡ None)
        go true = refl
        go false = apart q

  -- from the first into the second
  module _ (p c : List (Name × Slot)) (slot : Option Slot) (takes : PutsSlot o p name None) (puts : PutsSlot b c name slot) where
    pub puts_back : PutsSlot (o ++ b) (p ++ c) name slot
    puts_back q =
        lookup_join (same_name q) p c ∙ (λ i. first_of (takes q i) (puts q i))
        ∙ go (same_name name q) ∙ ap (cond (same_name name q) slot) (sym (lookup_join (same_name q) o b))
      where
        go : (u : Bool) → first_of (cond u None (lookup (same_name q) o)) (cond u slot (lookup (same_name q) b)) ≡ cond u slot (first_of (lookup (same_name q) o) (lookup (same_name q) b))
        go true = refl
        go false = refl

    pub apart_back : AreApart p c
    apart_back q =
        subst (λ x. IfSome x (λ t. lookup (same_name q) c ≡ None)) (sym (takes q))
        (subst (λ y. IfSome (cond (same_name name q) None (lookup (same_name q) o)) (λ t. y ≡ None)) (sym (puts q)) (go (same_name name q)))
      where
        go : (u : Bool) → IfSome (cond u None (lookup (same_name q) o)) (λ t. cond u slot (lookup (same_name q) b) ≡ None)
        go true = tt
        go false = apart q

pub apart_empty : (a b : List (Name × Slot)) → b ≡ [] → AreApart a b
apart_empty a b none q = go (lookup (same_name q) a)
  where
    go : (o : Option Slot) → IfSome o (λ s. lookup (same_name q) b ≡ None)
    go None = tt
    go (Some s) = ap (lookup (same_name q)) none

-- ---- all slots are rewritten

pub none_left : (w : Slot → Slot) (t : Name → Bool) (a : List (Name × Slot)) → lookup t a ≡ None → lookup t (rewritten w a) ≡ None
none_left w t [] h = refl
none_left w t (e ∷ a) h = go (t e.0) refl h (none_left w t a)
  where
    kept : (o : Option Slot) → t e.0 ≡ false → lookup t (rewritten w a) ≡ None → lookup t (cons_option (option_map (λ slot. (e.0, slot)) o) (rewritten w a)) ≡ None
    kept None is h = h
    kept (Some s) is h = ap (λ u. cond u (Some s) (lookup t (rewritten w a))) is ∙ h

    go : (u : Bool) → t e.0 ≡ u → cond u (Some e.1) (lookup t a) ≡ None → (lookup t a ≡ None → lookup t (rewritten w a) ≡ None) → lookup t (rewritten w (e ∷ a)) ≡ None
    go true is h rest = absurd (cc)
    go false is h rest = kept (kept_slot w e.1) is (rest h)

pub rewritten_apart : (w : Slot → Slot) (a b c d : List (Name × Slot)) → c ≡ rewritten w a → d ≡ rewritten w b → AreApart a b → AreApart c d
rewritten_apart w a b c d x y apart q = subst (λ l. IfSome (lookup (same_name q) l) (λ s. lookup (same_name q) d ≡ None)) (sym x)
    (subst (λ l. IfSome (lookup (same_name q) (rewritten w a)) (λ s. lookup (same_name q) l ≡ None)) (sym y) (go (lookup (same_name q) a) refl (apart q)))
  where
    any : (x : Option Slot) → lookup (same_name q) (rewritten w b) ≡ None → IfSome x (λ s. lookup (same_name q) (rewritten w b) ≡ None)
    any None h = tt
    any (Some s) h = h

    go : (o : Option Slot) → lookup (same_name q) a ≡ o → IfSome o (λ s. lookup (same_name q) b ≡ None) → IfSome (lookup (same_name q) (rewritten w a)) (λ s. lookup (same_name q) (rewritten w b) ≡ None)
    go None is h = subst (λ x. IfSome x (λ s. lookup (same_name q) (rewritten w b) ≡ None)) (sym (none_left w (same_name q) a is)) tt
    go (Some s) is h = any (lookup (same_name q) (rewritten w a)) (none_left w (same_name q) b h)

-- ---- marks

abbrev no_name : Name
no_name = record { 0 = [] }

facts_same : (a b : Facts) → record_eq (record_of no_name a) (record_of no_name b) ≡ true → a ≡ b
facts_same a b h =
    let n = same_name no_name no_name in
    let f = a.frecency == b.frecency in
    let o = a.origin == b.origin in
    let s = a.on_start == b.on_start in
    let p = a.on_stop == b.on_stop in
    let t = a.content == b.content in
    let p6 = and_parts (n && f && o && s && p && t) (a.flags == b.flags) h in
    let p5 = and_parts (n && f && o && s && p) t p6.0 in
    let p4 = and_parts (n && f && o && s) p p5.0 in
    let p3 = and_parts (n && f && o) s p4.0 in
    let p2 = and_parts (n && f) o p3.0 in
    let p1 = and_parts n f p2.0 in
    λ i. record {
      origin = eqb-true a.origin b.origin p2.1 i;
      frecency = eqb-true a.frecency b.frecency p1.1 i;
      flags = eqb-true a.flags b.flags p6.1 i;
      on_start = eqb-true a.on_start b.on_start p3.1 i;
      on_stop = eqb-true a.on_stop b.on_stop p4.1 i;
      content = eqb-true a.content b.content p5.1 i;
    }

is_true : (t : Bool) → not t ≡ false → t ≡ true
is_true true h = refl
is_true false h = absurd (cc)

-- the record of the base that is the record now
pub marked_seen : (name : Name) (r : IndexRecord) (kept : Held) → r.name ≡ name
    → not (option_eq record_eq (option_map (record_of no_name) kept.base) (Some (record_of no_name (facts_of r)))) ≡ false
    → option_and_then (remarked Seen) (Some (slot_of name kept)) ≡ Some (record_slot r true (Some (slot_of name kept)))
marked_seen name r kept own same = go kept.base same
  where
    go : (o : Option Facts) → not (option_eq record_eq (option_map (record_of no_name) o) (Some (record_of no_name (facts_of r)))) ≡ false
        → option_and_then (λ b. marked b Seen) (option_map (record_of name) o) ≡ Some (record { current = Some r; seen = true; base = option_map (record_of name) o })
    go None h = absurd (cc)
    go (Some f) h =
        let facts : f ≡ facts_of r = facts_same f (facts_of r) (is_true (record_eq (record_of no_name f) (record_of no_name (facts_of r))) h) in
        let same : record_of name f ≡ r = (λ i. record_of (sym own i) (facts i)) in
        λ i. Some (record { current = Some (same i); seen = true; base = Some (record_of name f) })

pub marked_gone : (s : Slot) → option_and_then (remarked Gone) (Some s) ≡ gone_slot (Some s)
marked_gone s = go s.base
  where
    go : (o : Option IndexRecord) → option_and_then (λ b. marked b Gone) o ≡ option_map (λ b. record { current = None; seen = false; base = Some b }) o
    go None = refl
    go (Some b) = refl

pub marked_away : (s : Slot) → option_and_then (remarked Away) (Some s) ≡ None
marked_away s = go s.base
  where
    go : (o : Option IndexRecord) → option_and_then (λ b. marked b Away) o ≡ None
    go None = refl
    go (Some b) = refl

pub base_named : (name : Name) (o : Option Facts) → IfSome (option_map (record_of name) o) (λ b. b.name ≡ name)
base_named name None = tt
base_named name (Some f) = refl

pub is_some_slot : (name : Name) (kept : Held) (t : List (Name × Slot)) → Some (slot_of name kept) ≡ lookup (same_name name) t → IsSome (lookup (same_name name) t)
is_some_slot name kept t h = subst IsSome h refl

pub found_first : (o b : List (Name × Slot)) (name : Name) (held : Held) → option_map (slot_of name) (Some held) ≡ lookup (same_name name) o
    → option_map (slot_of name) (Some held) ≡ lookup (same_name name) (o ++ b)
found_first o b name held h = ap (λ x. first_of x (lookup (same_name name) b)) h ∙ sym (lookup_join (same_name name) o b)

pub found_second : (o b : List (Name × Slot)) (name : Name) (kept : Option Held) → option_map (slot_of name) None ≡ lookup (same_name name) o → option_map (slot_of name) kept ≡ lookup (same_name name) b
    → option_map (slot_of name) kept ≡ lookup (same_name name) (o ++ b)
found_second o b name kept none h = h ∙ ap (λ x. first_of x (lookup (same_name name) b)) none ∙ sym (lookup_join (same_name name) o b)

-- a slot is put into the table, or the table is as it was
pub apart_none : {T E : Type 0} (o b : List (Name × Slot)) → AreApart o b → (name : Name) (p : List (Name × Slot)) (slot : Option Slot) → lookup (same_name name) b ≡ None
    → (r : Result T E) → OnOk r (PutsSlot o p name slot) → OnErr r (p ≡ o) → AreApart p b
apart_none o b apart name p slot none (Ok x) ok err = apart_other o b apart name p slot none ok
apart_none o b apart name p slot none (Err x) ok err = subst (λ l. AreApart l b) (sym err) apart
