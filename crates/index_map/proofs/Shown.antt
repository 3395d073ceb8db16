-- What a map with a table shows.
use Rattle.std.proofs.Common.{◌≡◌, Bool, true, false, cond, List, [], ◌∷◌, refl, sym, ap, ◌∙◌, subst}
use Rattle.std.specs.List.{cons_option, filter_map}
use Rattle.std.specs.Map.{lookup, values_of}
use Rattle.std.specs.Option.{option_map}
use Rattle.std.specs.Prelude.{Err, IfSome, None, Ok, OnErr, OnOk, Option, Result, Some, option_and_then, is_some}
use Rattle.std.proofs.lemmas.Bool.{or_parts}
use Rattle.std.proofs.lemmas.List.Elements.{All-weaker}
use Rattle.cache_base.specs.declared.name.Name.{Name}
use Rattle.index_record.specs.Record.{is_removed}
use Rattle.index_record.specs.declared.record.IndexRecord.{IndexRecord}
use Rattle.record_list.specs.Change.{record_eq}
use Rattle.record_list.specs.Lists.{record_at, same_name}
use Rattle.record_list.specs.Stored.{AreClean, IsClean}
use Rattle.record_list.proofs.NameLaws.{same_is, same_itself}
use Rattle.index_map.specs.Known.{BeginsOver, IsKnown, IsPlain, Known, SameBase, Sets}
use Rattle.index_map.specs.Slots.{IsSlotOf, IsTable, PutsSlot, base_in, base_slot, change_in, change_of, is_used, rewritten, seen_of, seen_only, shown, written, Slot}
use Rattle.index_map.proofs.Lookups.{Own, all-part, names-part, record_at-part}

-- ---- the parts of a slot

abbrev pub current_of : Slot → Option IndexRecord
current_of slot = slot.current

abbrev pub base_of : Slot → Option IndexRecord
base_of slot = slot.base

some_weaker : {X : Type 0} (P Q : X → Type 0) → ((x : X) → P x → Q x) → (o : Option X) → IfSome o P → IfSome o Q
some_weaker P Q f None h = tt
some_weaker P Q f (Some x) h = f x h

current_own : (name : Name) (slot : Slot) → IsSlotOf name slot → IfSome slot.current (λ r. r.name ≡ name)
current_own name slot h = some_weaker (λ r. (r.name ≡ name) × IsPlain r) (λ r. r.name ≡ name) (λ r p. p.0) slot.current h.current

seen_own : (name : Name) (slot : Slot) → IsSlotOf name slot → IfSome (seen_of slot) (λ r. r.name ≡ name)
seen_own name slot h = go slot.seen
  where
    go : (b : Bool) → IfSome (cond b slot.current None) (λ r. r.name ≡ name)
    go true = current_own name slot h
    go false = tt

-- what a journal has to say of a slot is of its name, and neither dirty nor fresh
change_fits : (name : Name) (base current : Option IndexRecord) → IfSome base (λ r. r.name ≡ name) → IfSome current (λ r. (r.name ≡ name) × IsPlain r)
    → IfSome (change_of base current) (λ r. (r.name ≡ name) × IsClean r)
change_fits name None None b c = tt
change_fits name (Some x) None b c = (b, (refl, refl))
change_fits name None (Some y) b c = (c.0, c.1.clean)
change_fits name (Some x) (Some y) b c = go (record_eq x y)
  where
    go : (t : Bool) → IfSome (cond t None (Some y)) (λ r. (r.name ≡ name) × IsClean r)
    go true = tt
    go false = (c.0, c.1.clean)

module _ (table : List (Name × Slot)) (is : IsTable table) where
  pub own_current : Own current_of table
  own_current = All-weaker (λ e. IsSlotOf e.0 e.1) (λ e. IfSome e.1.current (λ r. r.name ≡ e.0)) (λ e h. current_own e.0 e.1 h) table is.own

  pub own_seen : Own seen_of table
  own_seen = All-weaker (λ e. IsSlotOf e.0 e.1) (λ e. IfSome (seen_of e.1) (λ r. r.name ≡ e.0)) (λ e h. seen_own e.0 e.1 h) table is.own

  pub own_base : Own base_of table
  own_base = All-weaker (λ e. IsSlotOf e.0 e.1) (λ e. IfSome e.1.base (λ r. r.name ≡ e.0)) (λ e h. h.base) table is.own

  pub own_change : Own change_in table
  own_change = All-weaker (λ e. IsSlotOf e.0 e.1) (λ e. IfSome (change_in e.1) (λ r. r.name ≡ e.0))
      (λ e h. some_weaker (λ r. (r.name ≡ e.0) × IsClean r) (λ r. r.name ≡ e.0) (λ r p. p.0) (change_in e.1) (change_fits e.0 e.1.base e.1.current h.base h.current)) table is.own

  pub clean_changes : AreClean (filter_map change_in (values_of table))
  clean_changes = all-part IsClean change_in table (All-weaker (λ e. IsSlotOf e.0 e.1) (λ e. IfSome (change_in e.1) IsClean)
      (λ e h. some_weaker (λ r. (r.name ≡ e.0) × IsClean r) IsClean (λ r p. p.1) (change_in e.1) (change_fits e.0 e.1.base e.1.current h.base h.current)) table is.own)

  pub current_at : (q : Name) → record_at (filter_map current_of (values_of table)) q ≡ option_and_then current_of (lookup (same_name q) table)
  current_at = record_at-part current_of table is.distinct own_current

  pub seen_at : (q : Name) → record_at (filter_map seen_of (values_of table)) q ≡ option_and_then seen_of (lookup (same_name q) table)
  seen_at = record_at-part seen_of table is.distinct own_seen

  pub base_at : (q : Name) → record_at (filter_map base_of (values_of table)) q ≡ option_and_then base_of (lookup (same_name q) table)
  base_at = record_at-part base_of table is.distinct own_base

-- ---- what is true of every map

seen_is_current : (o : Option Slot) → IfSome (option_and_then seen_of o) (λ r. option_and_then current_of o ≡ Some r)
seen_is_current None = tt
seen_is_current (Some slot) = go slot.seen slot.current
  where
    go : (b : Bool) (o : Option IndexRecord) → IfSome (cond b o None) (λ r. o ≡ Some r)
    go true None = tt
    go true (Some r) = refl
    go false o = tt

pub is_known : (table : List (Name × Slot)) (has_base : Bool) → (has_base ≡ false → base_in (values_of table) ≡ []) → IsTable table → IsKnown (shown table has_base)
is_known table has_base none is = record {
  names = names-part current_of table is.distinct (own_current table is);
  base_names = names-part base_of table is.distinct (own_base table is);
  present = all-part (λ r. is_removed r ≡ false) current_of table (All-weaker (λ e. IsSlotOf e.0 e.1) (λ e. IfSome e.1.current (λ r. is_removed r ≡ false))
      (λ e h. some_weaker (λ r. (r.name ≡ e.0) × IsPlain r) (λ r. is_removed r ≡ false) (λ r p. p.1.present) e.1.current h.current) table is.own);
  clean = all-part IsClean current_of table (All-weaker (λ e. IsSlotOf e.0 e.1) (λ e. IfSome e.1.current IsClean)
      (λ e h. some_weaker (λ r. (r.name ≡ e.0) × IsPlain r) IsClean (λ r p. p.1.clean) e.1.current h.current) table is.own);
  seen = λ q.
      let s = seen_at table is q in
      let c = current_at table is q in
      let have = seen_is_current (lookup (same_name q) table) in
      let P : Option IndexRecord → Option IndexRecord → Type 0 = λ x y. IfSome x (λ r. y ≡ Some r) in
      subst (λ x. P x (record_at (filter_map current_of (values_of table)) q)) (sym s) (subst (λ y. P (option_and_then seen_of (lookup (same_name q) table)) y) (sym c) have);
  no_base = none;
}

-- ---- without a base there are no records of one

none_at_all : (rs : List IndexRecord) → ((q : Name) → record_at rs q ≡ None) → rs ≡ []
none_at_all [] h = refl
none_at_all (r ∷ rs) h =
    let here : record_at (r ∷ rs) r.name ≡ Some r = ap (λ b. cond b (Some r) (record_at rs r.name)) (same_itself r.name) in
    let none = h r.name in
    absurd (cc)

-- none where the base holds the same as before
pub still_no_base : (old new : Known) → SameBase old new → (old.has_base ≡ false → old.base ≡ []) → new.has_base ≡ false → new.base ≡ []
still_no_base old new same none without =
    none_at_all new.base (λ q. same.records q ∙ ap (λ rs. record_at rs q) (none (sym same.has_base ∙ without)))

-- a record was put, or the slots are as they were
pub put_no_base : {T E : Type 0} (old new : List (Name × Slot)) (has_base : Bool) (name : Name) (r : Option IndexRecord) (answer : Result T E)
    → OnOk answer (Sets (shown old has_base) (shown new has_base) name r) → OnErr answer (new ≡ old)
    → (has_base ≡ false → base_in (values_of old) ≡ []) → has_base ≡ false → base_in (values_of new) ≡ []
put_no_base old new has_base name r (Ok x) sets err none = still_no_base (shown old has_base) (shown new has_base) sets.base none
put_no_base old new has_base name r (Err e) sets same none = λ without. ap (λ t. base_in (values_of t)) same ∙ none without

-- ---- one slot is put or taken

then_under : (f : Slot → Option IndexRecord) (b : Bool) (slot old : Option Slot) → option_and_then f (cond b slot old) ≡ cond b (option_and_then f slot) (option_and_then f old)
then_under f true slot old = refl
then_under f false slot old = refl

kept_under : (b : Bool) (x y : Option IndexRecord) → (b ≡ true → x ≡ y) → cond b x y ≡ y
kept_under true x y h = h refl
kept_under false x y h = refl

pub puts_sets : (old new : List (Name × Slot)) (has_base : Bool) (name : Name) (slot : Option Slot) (r : Option IndexRecord) → IsTable old → IsTable new
    → PutsSlot old new name slot → option_and_then current_of slot ≡ r → option_and_then seen_of slot ≡ r
    → option_and_then base_of slot ≡ option_and_then base_of (lookup (same_name name) old) → Sets (shown old has_base) (shown new has_base) name r
puts_sets old new has_base name slot r was is puts current seen base = record {
  records = λ q. current_at new is q ∙ ap (option_and_then current_of) (puts q) ∙ then_under current_of (same_name name q) slot (lookup (same_name q) old)
      ∙ (λ i. cond (same_name name q) (current i) (sym (current_at old was q) i));
  seen = λ q. seen_at new is q ∙ ap (option_and_then seen_of) (puts q) ∙ then_under seen_of (same_name name q) slot (lookup (same_name q) old)
      ∙ (λ i. cond (same_name name q) (seen i) (sym (seen_at old was q) i));
  base = record {
    records = λ q. base_at new is q ∙ ap (option_and_then base_of) (puts q) ∙ then_under base_of (same_name name q) slot (lookup (same_name q) old)
        ∙ kept_under (same_name name q) (option_and_then base_of slot) (option_and_then base_of (lookup (same_name q) old))
        (λ same. base ∙ ap (λ n. option_and_then base_of (lookup (same_name n) old)) (same_is name q same))
        ∙ sym (base_at old was q);
    has_base = refl;
  };
}

-- ---- the map begins

begun_current : (seen : Bool) (b : Option IndexRecord) → option_and_then current_of (option_map (base_slot seen) b) ≡ b
begun_current seen None = refl
begun_current seen (Some b) = refl

begun_seen : (seen : Bool) (b : Option IndexRecord) → option_and_then seen_of (option_map (base_slot seen) b) ≡ cond seen b None
begun_seen true None = refl
begun_seen false None = refl
begun_seen seen (Some b) = refl

begun_base : (seen : Bool) (b : Option IndexRecord) → option_and_then base_of (option_map (base_slot seen) b) ≡ b
begun_base seen None = refl
begun_base seen (Some b) = refl

pub begins : (base : List IndexRecord) (seen : Bool) (table : List (Name × Slot)) → IsTable table
    → ((q : Name) → lookup (same_name q) table ≡ option_map (base_slot seen) (record_at base q)) → BeginsOver base base seen (shown table true)
begins base seen table is slots = record {
  records = λ q. current_at table is q ∙ ap (option_and_then current_of) (slots q) ∙ begun_current seen (record_at base q);
  seen = λ q. seen_at table is q ∙ ap (option_and_then seen_of) (slots q) ∙ begun_seen seen (record_at base q);
  base = λ q. base_at table is q ∙ ap (option_and_then base_of) (slots q) ∙ begun_base seen (record_at base q);
  has_base = refl;
}

-- ---- all slots are rewritten

reread : (w : Slot → Slot) (g h : Slot → Option IndexRecord) → ((s : Slot) → g (w s) ≡ h s) → ((s : Slot) → is_used s ≡ false → g s ≡ None)
    → (table : List (Name × Slot)) → filter_map g (values_of (rewritten w table)) ≡ filter_map h (values_of table)
reread w g h same unused [] = refl
reread w g h same unused (e ∷ table) = go (is_used (w e.1)) refl (reread w g h same unused table)
  where
    go : (b : Bool) → is_used (w e.1) ≡ b → filter_map g (values_of (rewritten w table)) ≡ filter_map h (values_of table)
        → filter_map g (values_of (cons_option (option_map (λ slot. (e.0, slot)) (cond b (Some (w e.1)) None)) (rewritten w table)))
        ≡ cons_option (h e.1) (filter_map h (values_of table))
    go true used rest = λ i. cons_option (same e.1 i) (rest i)
    go false used rest = rest ∙ ap (λ o. cons_option o (filter_map h (values_of table))) (sym (unused (w e.1) used) ∙ same e.1)

not_some : (o : Option IndexRecord) → is_some o ≡ false → o ≡ None
not_some None h = refl
not_some (Some r) h = cc

no_current : (s : Slot) → is_used s ≡ false → s.current ≡ None
no_current s h = not_some s.current (or_parts (is_some s.current) (is_some s.base) h).0

no_base : (s : Slot) → is_used s ≡ false → s.base ≡ None
no_base s h = not_some s.base (or_parts (is_some s.current) (is_some s.base) h).1

under_seen : (b : Bool) (o : Option IndexRecord) → o ≡ None → cond b o None ≡ None
under_seen true o h = h
under_seen false o h = refl

no_seen : (s : Slot) → is_used s ≡ false → seen_of s ≡ None
no_seen s h = under_seen s.seen s.current (no_current s h)

seen_twice : (b : Bool) (o : Option IndexRecord) → cond b (cond b o None) None ≡ cond b o None
seen_twice true o = refl
seen_twice false o = refl

pub shown-seen_only : (table : List (Name × Slot)) (has_base : Bool) → shown (rewritten seen_only table) has_base ≡ record (shown table has_base) { records = (shown table has_base).seen }
shown-seen_only table has_base =
    let c = reread seen_only current_of seen_of (λ s. refl) no_current table in
    let s = reread seen_only seen_of seen_of (λ s. seen_twice s.seen s.current) no_seen table in
    let b = reread seen_only base_of base_of (λ s. refl) no_base table in
    λ i. record { records = c i; seen = s i; base = b i; has_base = has_base }

pub shown-written : (table : List (Name × Slot)) (has_base : Bool) → shown (rewritten written table) true ≡ record (shown table has_base) { base = (shown table has_base).records; has_base = true }
shown-written table has_base =
    let c = reread written current_of current_of (λ s. refl) no_current table in
    let s = reread written seen_of seen_of (λ s. refl) no_seen table in
    let b = reread written base_of current_of (λ s. refl) no_base table in
    λ i. record { records = c i; seen = s i; base = b i; has_base = true }
