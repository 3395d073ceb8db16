-- Records that are read: no name stands twice, and two bits are clear.
use Rattle.std.proofs.Common.{◌≡◌, ℕ, ◌+◌, ◌*◌, ◌/◌, ◌%◌, ◌^◌, List, [], ◌∷◌, Bool, true, false, not, cond, refl, sym, ap, subst, ◌∙◌, arith}
use Rattle.std.specs.Prelude.{◌==◌, None, filter}
use Rattle.std.specs.List.{AllByRecursion, IsDistinct}
use Rattle.std.proofs.lemmas.Bool.{eqb-false}
use Rattle.cache_base.proofs.CheckLaws.{all_hold}
use Rattle.cache_base.specs.Names as names
use Rattle.cache_base.specs.declared.name.Name.{Name}
use Rattle.index_record.specs.declared.record.IndexRecord.{IndexRecord}
use Rattle.index_record.specs.Record.{cleared, has_bit, is_removed}
use Rattle.record_list.specs.Change.{HasNoRemoved}
use Rattle.record_list.specs.Laws.{CleanReadsSame}
use Rattle.record_list.specs.Lists.{AreSorted, HasNames, names_of, same_name}
use Rattle.record_list.specs.Stored.{AreClean, are_distinct, present, read_as, records_checks, records_fault, stored_in}
use Rattle.record_list.proofs.OrderLaws.{are_apart, distinct_are}
use Rattle.record_list.proofs.NameLaws.{rising_distinct}
use Rattle.record_list.proofs.Present.{still_removed}

pub fits_distinct : (part : List ℕ) → records_fault part ≡ None → HasNames (stored_in part)
unfolding records_checks
fits_distinct part fits = distinct_are (names_of (stored_in part)) (all_hold (records_checks part) fits).1.1.0

pub names_read : (rs : List IndexRecord) → names_of (read_as rs) ≡ names_of rs
names_read [] = refl
names_read (r ∷ rs) = ap (λ ns. r.name ∷ ns) (names_read rs)

pub read_distinct : (rs : List IndexRecord) → HasNames rs → HasNames (read_as rs)
read_distinct rs h = subst (IsDistinct same_name) (sym (names_read rs)) h

pub all_left : (P : Name → Type 0) (p : IndexRecord → Bool) (rs : List IndexRecord) → AllByRecursion P (names_of rs) → AllByRecursion P (names_of (filter p rs))
all_left P p [] h = tt
all_left P p (r ∷ rs) h = elim (p r) as (λ b. AllByRecursion P (names_of (cond b (r ∷ filter p rs) (filter p rs)))) [
  | true ↦ (h.0, all_left P p rs h.1)
  | false ↦ all_left P p rs h.1
]

-- what is left of a list has no name twice where the list has none
pub filter_distinct : (p : IndexRecord → Bool) (rs : List IndexRecord) → HasNames rs → HasNames (filter p rs)
unfolding IsDistinct
filter_distinct p [] h = tt
filter_distinct p (r ∷ rs) h = elim (p r) as (λ b. IsDistinct same_name (names_of (cond b (r ∷ filter p rs) (filter p rs)))) [
  | true ↦ (all_left (λ n. same_name r.name n ≡ false) p rs h.0, filter_distinct p rs h.1)
  | false ↦ filter_distinct p rs h.1
]

dirty_clear : (f : ℕ) → has_bit 28 (f / 2 ^ 29 * 2 ^ 29 + f % 2 ^ 27) ≡ false
dirty_clear f = let even : (f / 2 ^ 29 * 2 ^ 29 + f % 2 ^ 27) / 2 ^ 28 % 2 ≡ 0 = omega arith in ap (λ n. n == 1) even

fresh_clear : (f : ℕ) → has_bit 27 (f / 2 ^ 29 * 2 ^ 29 + f % 2 ^ 27) ≡ false
fresh_clear f = let even : (f / 2 ^ 29 * 2 ^ 29 + f % 2 ^ 27) / 2 ^ 27 % 2 ≡ 0 = omega arith in ap (λ n. n == 1) even

pub read_clean : (rs : List IndexRecord) → AreClean (read_as rs)
read_clean [] = tt
read_clean (r ∷ rs) = ((dirty_clear r.flags, fresh_clear r.flags), read_clean rs)

one_more : (r : IndexRecord) (rs : List IndexRecord) → HasNoRemoved (read_as (present rs)) → HasNoRemoved (read_as (present (r ∷ rs)))
one_more r rs h = go (is_removed r) refl
  where
    go : (b : Bool) → is_removed r ≡ b → HasNoRemoved (read_as (cond (not b) (r ∷ present rs) (present rs)))
    go true e = h
    go false e = (still_removed r ∙ e, h)

pub read_present : (rs : List IndexRecord) → HasNoRemoved (read_as (present rs))
read_present [] = tt
read_present (r ∷ rs) = one_more r rs (read_present rs)

flags_same : (f : ℕ) → has_bit 28 f ≡ false → has_bit 27 f ≡ false → f / 2 ^ 29 * 2 ^ 29 + f % 2 ^ 27 ≡ f
flags_same f dirty fresh =
    let a = eqb-false (f / 2 ^ 28 % 2) 1 dirty in let b = eqb-false (f / 2 ^ 27 % 2) 1 fresh in
    omega (arith, a, b)

cleared_same : (r : IndexRecord) → has_bit 28 r.flags ≡ false → has_bit 27 r.flags ≡ false → cleared r ≡ r
cleared_same r dirty fresh = ap (λ f. record r { flags = f }) (flags_same r.flags dirty fresh)

-- where no record has the dirty or the fresh bit, the records are read as they are
pub clean_reads_same : CleanReadsSame
clean_reads_same [] h = refl
clean_reads_same (r ∷ rs) h = λ i. cleared_same r h.0.0 h.0.1 i ∷ clean_reads_same rs h.1 i

-- where the names of the records that were read rise, none stands twice in the part
pub read_rising : (rs out : List IndexRecord) → out ≡ read_as rs → AreSorted out → are_distinct (names_of rs) ≡ true
read_rising rs out is rising =
    let same : names_of out ≡ names_of rs = ap names_of is ∙ names_read rs in
    are_apart (names_of rs) (rising_distinct (names_of rs) (subst names.AreSorted same rising))
