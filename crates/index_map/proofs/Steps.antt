-- Records that are put into a table one after another.
use Rattle.std.proofs.Common.{◌≡◌, ℕ, ◌+◌, ◌<◌, Bool, true, false, cond, List, [], ◌∷◌, ◌++◌, length, get_or, take, refl, sym, ap, ◌∙◌, subst, arith}
use Rattle.std.specs.List.{AllByRecursion, IsDistinct}
use Rattle.std.specs.Map.{lookup}
use Rattle.std.specs.Prelude.{IfSome, None, Option, Some, option_and_then}
use Rattle.std.proofs.lemmas.List.{get_or-take, length-take, take-map, take_more}
use Rattle.std.proofs.lemmas.Map.Keys.{IsDistinct-from_apart, IsDistinct-head, IsDistinct-tail, apart_from_distinct}
use Rattle.cache_base.specs.declared.name.Name.{Name}
use Rattle.index_record.specs.declared.record.IndexRecord.{IndexRecord}
use Rattle.record_list.specs.Change.{journal_or, kept}
use Rattle.record_list.specs.Lists.{HasNames, names_of, record_at, same_name}
use Rattle.record_list.proofs.NameLaws.{same_is}
use Rattle.index_map.specs.Known.{Applies, IsPlain, Known, Sets}
use Rattle.index_map.specs.Slots.{IsTable, IsSlotOf, facts_of, record_of, Slot}
use Rattle.index_map.specs.declared.slot.Facts.{Facts}
use Rattle.index_map.proofs.Lookups.{slot_at}
use Rattle.index_map.proofs.Shown.{base_of}

last_apart : (name : Name) (xs : List IndexRecord) (y : IndexRecord) → AllByRecursion (λ n. same_name name n ≡ false) (names_of (xs ++ y ∷ [])) → same_name name y.name ≡ false
last_apart name [] y h = h.0
last_apart name (x ∷ xs) y h = last_apart name xs y h.1

pub not_both : (x y q : Name) → same_name x y ≡ false → same_name x q ≡ true → same_name y q ≡ true → ⊥
not_both x y q apart a b =
    let same : same_name x y ≡ true = ap (same_name x) (same_is y q b) ∙ a in
    cc

pub crossed : {X : Type 0} (a b : Bool) (x y r : X) → (a ≡ true → b ≡ true → ⊥) → cond a x (cond b y r) ≡ cond b y (cond a x r)
crossed true true x y r apart = absurd (apart refl refl)
crossed true false x y r apart = refl
crossed false true x y r apart = refl
crossed false false x y r apart = refl

record_at-push : (xs : List IndexRecord) (y : IndexRecord) (q : Name) → HasNames (xs ++ y ∷ []) → record_at (xs ++ y ∷ []) q ≡ cond (same_name y.name q) (Some y) (record_at xs q)
record_at-push [] y q names = refl
record_at-push (x ∷ xs) y q names =
    let apart = last_apart x.name xs y (IsDistinct-head same_name x.name (names_of (xs ++ y ∷ [])) names) in
    ap (λ o. cond (same_name x.name q) (Some x) o) (record_at-push xs y q (IsDistinct-tail same_name x.name (names_of (xs ++ y ∷ [])) names))
    ∙ crossed (same_name x.name q) (same_name y.name q) (Some x) (Some y) (record_at xs q) (not_both x.name y.name q apart)

-- names none of which stands twice, cut at an end
distinct_front : (n : ℕ) (names : List Name) → IsDistinct same_name names → IsDistinct same_name (take n names)
distinct_front n names apart = IsDistinct-from_apart same_name (take n names) (λ i j d less low.
    let below : j < n = omega (arith, low, length-take n names) in
    let within : j < length names = omega (arith, low, length-take n names) in
    (λ z. same_name (get_or-take n names i d (omega (arith, less, below)) z) (get_or-take n names j d below z)) ∙ apart_from_distinct same_name names i j d apart less within)

pub record_at-more : (rs : List IndexRecord) (i : ℕ) (d : IndexRecord) (q : Name) → HasNames rs → i < length rs
    → record_at (take (i + 1) rs) q ≡ cond (same_name (get_or rs i d).name q) (Some (get_or rs i d)) (record_at (take i rs) q)
record_at-more rs i d q names low =
    let more = take_more rs i d low in
    let front : HasNames (take (i + 1) rs) = subst (IsDistinct same_name) (take-map (λ (r : IndexRecord). r.name) (i + 1) rs) (distinct_front (i + 1) (names_of rs) names) in
    ap (λ l. record_at l q) more ∙ record_at-push (take i rs) (get_or rs i d) q (subst HasNames more front)

-- what is held of a record is the record
pub named_fits : (r : IndexRecord) (facts : Facts) → facts ≡ facts_of r → IsPlain r → (record_of r.name facts).name ≡ r.name × IsPlain (record_of r.name facts)
named_fits r facts is plain = (refl, subst (λ f. IsPlain (record_of r.name f)) (sym is) plain)

-- ---- changes of a journal

kept_under : (b : Bool) (r : IndexRecord) (said old : Option IndexRecord) → cond b (kept r) (journal_or said old) ≡ journal_or (cond b (Some r) said) old
kept_under true r said old = refl
kept_under false r said old = refl

-- one change more
change_step : (rs : List IndexRecord) (i : ℕ) (d : IndexRecord) (q : Name) (first before after : Option IndexRecord) → HasNames rs → i < length rs
    → before ≡ journal_or (record_at (take i rs) q) first → after ≡ cond (same_name (get_or rs i d).name q) (kept (get_or rs i d)) before
    → after ≡ journal_or (record_at (take (i + 1) rs) q) first
change_step rs i d q first before after names low was is =
    is ∙ ap (λ o. cond (same_name (get_or rs i d).name q) (kept (get_or rs i d)) o) was
    ∙ kept_under (same_name (get_or rs i d).name q) (get_or rs i d) (record_at (take i rs) q) first
    ∙ ap (λ o. journal_or o first) (sym (record_at-more rs i d q names low))

pub applies_more : (rs : List IndexRecord) (i : ℕ) (d : IndexRecord) (first before after : Known) → HasNames rs → i < length rs
    → Applies (take i rs) first before → Sets before after (get_or rs i d).name (kept (get_or rs i d)) → Applies (take (i + 1) rs) first after
applies_more rs i d first before after names low was sets = record {
  records = λ q. change_step rs i d q (record_at first.records q) (record_at before.records q) (record_at after.records q) names low (was.records q) (sets.records q);
  seen = λ q. change_step rs i d q (record_at first.seen q) (record_at before.seen q) (record_at after.seen q) names low (was.seen q) (sets.seen q);
  base = record {
    records = λ q. sets.base.records q ∙ was.base.records q;
    has_base = sets.base.has_base ∙ was.base.has_base;
  };
}

pub applies_none : (m : Known) → Applies [] m m
applies_none m = record { records = λ q. refl; seen = λ q. refl; base = record { records = λ q. refl; has_base = refl } }

-- ---- a slot for a record

pub base_fits : (table : List (Name × Slot)) (name : Name) (base : Option IndexRecord) → IsTable table → base ≡ option_and_then base_of (lookup (same_name name) table)
    → IfSome base (λ b. b.name ≡ name)
base_fits table name base is e = subst (λ o. IfSome o (λ b. b.name ≡ name)) (sym e) (go (lookup (same_name name) table) (slot_at IsSlotOf table is.own name))
  where
    go : (o : Option Slot) → IfSome o (IsSlotOf name) → IfSome (option_and_then base_of o) (λ b. b.name ≡ name)
    go None h = tt
    go (Some slot) h = h.base

-- a record, for lists that may be empty
abbrev pub no_record : IndexRecord
no_record = record { name = record { 0 = [] }; frecency = 0; origin = 0; on_start = 0; on_stop = 0; content = 0; flags = 0 }
