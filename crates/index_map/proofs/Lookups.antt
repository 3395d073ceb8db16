-- The records in slots, name by name.
use Rattle.std.proofs.Common.{◌≡◌, Bool, true, false, cond, List, [], ◌∷◌, refl, sym, ap, ◌∙◌, subst}
use Rattle.std.specs.Cmp.{IsEquivalence}
use Rattle.std.specs.List.{All, AllByRecursion, IsDistinct, cons_option, filter_map}
use Rattle.std.specs.List.Sorted.{IsPermutation}
use Rattle.std.specs.Map.{keys_of, lookup, values_of}
use Rattle.std.specs.Prelude.{IfSome, None, Option, Some, option_and_then}
use Rattle.std.proofs.lemmas.Cmp.{on_equiv}
use Rattle.std.proofs.lemmas.List.Elements.{All-from_recursion, All-head, All-tail, recursion_from_All}
use Rattle.std.proofs.lemmas.List.Sorted.{All-permutation}
use Rattle.std.proofs.lemmas.Map.{lookup-none}
use Rattle.std.proofs.lemmas.Map.Entries.{none_past_head}
use Rattle.std.proofs.lemmas.Map.Keys.{IsDistinct-cons, IsDistinct-head, IsDistinct-tail}
use Rattle.std.specs.Cmp.Lexicographic.{nat_list_eq_equiv}
use Rattle.cache_base.specs.declared.name.Name.{Name}
use Rattle.index_record.specs.declared.record.IndexRecord.{IndexRecord}
use Rattle.record_list.specs.Lists.{HasNames, names_of, record_at, same_name}
use Rattle.record_list.proofs.NameLaws.{same_back, same_is}
use Rattle.index_map.specs.Slots.{Slot}

pub same_name_equiv : IsEquivalence same_name
same_name_equiv = on_equiv (λ (n : Name). n.0) nat_list_eq_equiv

-- a part of each slot is a record of the slot's name
abbrev pub Own : (Slot → Option IndexRecord) → List (Name × Slot) → Type 0
Own f table = All (λ e. IfSome (f e.1) (λ r. r.name ≡ e.0)) table

abbrev pub part_in : (Slot → Option IndexRecord) → List (Name × Slot) → List IndexRecord
part_in f table = filter_map f (values_of table)

at_slot : (o : Option IndexRecord) (b : Bool) (name q : Name) (rest : List IndexRecord) (later : Option IndexRecord)
    → same_name q name ≡ b → IfSome o (λ r. r.name ≡ name) → record_at rest q ≡ later → (b ≡ true → later ≡ None)
    → record_at (cons_option o rest) q ≡ cond b o later
at_slot None true name q rest later e own h none = h ∙ none refl
at_slot None false name q rest later e own h none = h
at_slot (Some r) true name q rest later e own h none =
    ap (λ b. cond b (Some r) (record_at rest q)) (ap (λ n. same_name n q) own ∙ same_back name q ∙ e)
at_slot (Some r) false name q rest later e own h none =
    ap (λ b. cond b (Some r) (record_at rest q)) (ap (λ n. same_name n q) own ∙ same_back name q ∙ e) ∙ h

then_cond : (f : Slot → Option IndexRecord) (b : Bool) (slot : Slot) (later : Option Slot)
    → cond b (f slot) (option_and_then f later) ≡ option_and_then f (cond b (Some slot) later)
then_cond f true slot later = refl
then_cond f false slot later = refl

-- the record of a name is that of its slot
pub record_at-part : (f : Slot → Option IndexRecord) (table : List (Name × Slot)) → IsDistinct same_name (keys_of table) → Own f table
    → (q : Name) → record_at (part_in f table) q ≡ option_and_then f (lookup (same_name q) table)
record_at-part f [] distinct own q = refl
record_at-part f (e ∷ table) distinct own q =
    at_slot (f e.1) (same_name q e.0) e.0 q (part_in f table) (option_and_then f (lookup (same_name q) table)) refl
    (All-head (λ e. IfSome (f e.1) (λ r. r.name ≡ e.0)) e table own)
    (record_at-part f table (IsDistinct-tail same_name e.0 (keys_of table) distinct) (All-tail (λ e. IfSome (f e.1) (λ r. r.name ≡ e.0)) e table own) q)
    (λ same. ap (option_and_then f) (lookup-none (same_name q) table (none_past_head same_name_equiv q e table distinct same)))
    ∙ then_cond f (same_name q e.0) e.1 (lookup (same_name q) table)

apart_cons : (name : Name) (o : Option IndexRecord) (own : Name) (rest : List IndexRecord) → IfSome o (λ r. r.name ≡ own) → same_name name own ≡ false
    → AllByRecursion (λ y. same_name name y ≡ false) (names_of rest) → AllByRecursion (λ y. same_name name y ≡ false) (names_of (cons_option o rest))
apart_cons name None own rest e apart h = h
apart_cons name (Some r) own rest e apart h = (ap (λ n. same_name name n) e ∙ apart, h)

apart-part : (f : Slot → Option IndexRecord) (name : Name) (table : List (Name × Slot)) → Own f table → AllByRecursion (λ y. same_name name y ≡ false) (keys_of table)
    → AllByRecursion (λ y. same_name name y ≡ false) (names_of (part_in f table))
apart-part f name [] own h = tt
apart-part f name (e ∷ table) own h =
    apart_cons name (f e.1) e.0 (part_in f table) (All-head (λ e. IfSome (f e.1) (λ r. r.name ≡ e.0)) e table own) h.0
    (apart-part f name table (All-tail (λ e. IfSome (f e.1) (λ r. r.name ≡ e.0)) e table own) h.1)

names_cons : (o : Option IndexRecord) (own : Name) (rest : List IndexRecord) → IfSome o (λ r. r.name ≡ own)
    → AllByRecursion (λ y. same_name own y ≡ false) (names_of rest) → HasNames rest → HasNames (cons_option o rest)
names_cons None own rest e apart h = h
names_cons (Some r) own rest e apart h = IsDistinct-cons same_name r.name (names_of rest) (subst (λ n. AllByRecursion (λ y. same_name n y ≡ false) (names_of rest)) (sym e) apart) h

names_none : HasNames []
unfolding IsDistinct
names_none = tt

-- no name stands twice
pub names-part : (f : Slot → Option IndexRecord) (table : List (Name × Slot)) → IsDistinct same_name (keys_of table) → Own f table → HasNames (part_in f table)
names-part f [] distinct own = names_none
names-part f (e ∷ table) distinct own =
    let rest = All-tail (λ e. IfSome (f e.1) (λ r. r.name ≡ e.0)) e table own in
    names_cons (f e.1) e.0 (part_in f table) (All-head (λ e. IfSome (f e.1) (λ r. r.name ≡ e.0)) e table own)
    (apart-part f e.0 table rest (IsDistinct-head same_name e.0 (keys_of table) distinct))
    (names-part f table (IsDistinct-tail same_name e.0 (keys_of table) distinct) rest)

-- what holds of that part of each slot holds of each record
pub all-part : (P : IndexRecord → Type 0) (f : Slot → Option IndexRecord) (table : List (Name × Slot)) → All (λ e. IfSome (f e.1) P) table → AllByRecursion P (part_in f table)
all-part P f [] all = tt
all-part P f (e ∷ table) all = go (f e.1) (All-head (λ e. IfSome (f e.1) P) e table all) (all-part P f table (All-tail (λ e. IfSome (f e.1) P) e table all))
  where
    go : (o : Option IndexRecord) → IfSome o P → AllByRecursion P (part_in f table) → AllByRecursion P (cons_option o (part_in f table))
    go None h rest = rest
    go (Some r) h rest = (h, rest)

-- what holds of each slot holds of the one of a name
pub slot_at : (P : Name → Slot → Type 0) (table : List (Name × Slot)) → All (λ e. P e.0 e.1) table → (q : Name) → IfSome (lookup (same_name q) table) (P q)
slot_at P [] all q = tt
slot_at P (e ∷ table) all q = go (same_name q e.0) refl (slot_at P table (All-tail (λ e. P e.0 e.1) e table all) q)
  where
    go : (b : Bool) → same_name q e.0 ≡ b → IfSome (lookup (same_name q) table) (P q) → IfSome (cond b (Some e.1) (lookup (same_name q) table)) (P q)
    go true h rest = subst (λ n. P n e.1) (sym (same_is q e.0 h)) (All-head (λ e. P e.0 e.1) e table all)
    go false h rest = rest

-- ---- a list in another order

pub all_moved : (P : IndexRecord → Type 0) (rs out : List IndexRecord) → IsPermutation rs out → AllByRecursion P rs → AllByRecursion P out
all_moved P rs out moved all = recursion_from_All P out (All-permutation P rs out moved (All-from_recursion P rs all))
