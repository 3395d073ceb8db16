-- Records can be put in name order, and then say the same under each name.
use Rattle.std.proofs.Common.{◌≡◌, Bool, true, false, cond, List, [], ◌∷◌, refl, sym, ap, ◌∙◌, subst}
use Rattle.std.specs.List.{AllByRecursion, IsDistinct}
use Rattle.std.specs.List.Sorted.{IsPermutation, IsStrictlySortedBy}
use Rattle.std.specs.Prelude.{Some}
use Rattle.std.specs.declared.cmp.Ordering.{Ordering}
use Rattle.std.specs.declared.cmp.Ordering.TheVariants.{Less, Equal, Greater}
use Rattle.std.proofs.lemmas.List.Sorted.{IsPermutation-cons, IsPermutation-middle, IsPermutation-refl, IsPermutation-sym, IsPermutation-trans}
use Rattle.cache_base.specs.Names.{name_cmp}
use Rattle.cache_base.specs.declared.name.Name.{Name}
use Rattle.index_record.specs.declared.record.IndexRecord.{IndexRecord}
use Rattle.record_list.specs.Change.{applied, journal_or}
use Rattle.record_list.specs.Lists.{AreSorted, HasNames, IsByName, names_of, record_at, same_name}
use Rattle.record_list.proofs.NameLaws.{above_below, below_apart, below_trans, same_itself, tied_same}
use Rattle.index_map.specs.Known.{Applies, BeginsOver, BeginsAfter, Known}
use Rattle.index_map.proofs.Steps.{crossed, not_both}

-- r before x, in its place, or after it
abbrev placed : Ordering → IndexRecord → IndexRecord → List IndexRecord → List IndexRecord → List IndexRecord
placed Less r x xs behind = r ∷ x ∷ xs
placed Equal r x xs behind = r ∷ xs
placed Greater r x xs behind = x ∷ behind

abbrev put : IndexRecord → List IndexRecord → List IndexRecord
put r [] = r ∷ []
put r (x ∷ xs) = placed (name_cmp r.name x.name) r x xs (put r xs)

abbrev pub sorted : List IndexRecord → List IndexRecord
sorted [] = []
sorted (x ∷ xs) = put x (sorted xs)

-- ---- the names rise

all_put : (P : Name → Type 0) (r : IndexRecord) (xs : List IndexRecord) → P r.name → AllByRecursion P (names_of xs) → AllByRecursion P (names_of (put r xs))
all_put P r [] p all = (p, tt)
all_put P r (x ∷ xs) p all = go (name_cmp r.name x.name) (all_put P r xs p all.1)
  where
    go : (o : Ordering) → AllByRecursion P (names_of (put r xs)) → AllByRecursion P (names_of (placed o r x xs (put r xs)))
    go Less rest = (p, all)
    go Equal rest = (p, all.1)
    go Greater rest = (all.0, rest)

below_all : (a b : Name) (names : List Name) → name_cmp a b ≡ Less → AllByRecursion (λ y. name_cmp b y ≡ Less) names → AllByRecursion (λ y. name_cmp a y ≡ Less) names
below_all a b [] less all = tt
below_all a b (n ∷ names) less all = (below_trans a b n less all.0, below_all a b names less all.1)

same_below : (a b : Name) (names : List Name) → a ≡ b → AllByRecursion (λ y. name_cmp b y ≡ Less) names → AllByRecursion (λ y. name_cmp a y ≡ Less) names
same_below a b names same all = subst (λ n. AllByRecursion (λ y. name_cmp n y ≡ Less) names) (sym same) all

put_rises : (r : IndexRecord) (xs : List IndexRecord) → AreSorted xs → AreSorted (put r xs)
unfolding IsStrictlySortedBy
put_rises r [] rising = (tt, tt)
put_rises r (x ∷ xs) rising = go (name_cmp r.name x.name) refl (put_rises r xs rising.1)
  where
    go : (o : Ordering) → name_cmp r.name x.name ≡ o → AreSorted (put r xs) → AreSorted (placed o r x xs (put r xs))
    go Less e rest = ((e, below_all r.name x.name (names_of xs) e rising.0), rising)
    go Equal e rest = (same_below r.name x.name (names_of xs) (tied_same r.name x.name e) rising.0, rising.1)
    go Greater e rest = (all_put (λ y. name_cmp x.name y ≡ Less) r xs (above_below r.name x.name e) rising.0, rest)

sorted_none : AreSorted []
unfolding IsStrictlySortedBy
sorted_none = tt

pub sorted_rises : (xs : List IndexRecord) → AreSorted (sorted xs)
sorted_rises [] = sorted_none
sorted_rises (x ∷ xs) = put_rises x (sorted xs) (sorted_rises xs)

-- ---- the same records, where no name stands twice

all_sorted : (P : Name → Type 0) (xs : List IndexRecord) → AllByRecursion P (names_of xs) → AllByRecursion P (names_of (sorted xs))
all_sorted P [] all = tt
all_sorted P (x ∷ xs) all = all_put P x (sorted xs) all.0 (all_sorted P xs all.1)

moved_put : (r : IndexRecord) (xs : List IndexRecord) → AllByRecursion (λ y. same_name r.name y ≡ false) (names_of xs) → IsPermutation (r ∷ xs) (put r xs)
moved_put r [] apart = IsPermutation-refl (r ∷ [])
moved_put r (x ∷ xs) apart = go (name_cmp r.name x.name) refl (moved_put r xs apart.1)
  where
    go : (o : Ordering) → name_cmp r.name x.name ≡ o → IsPermutation (r ∷ xs) (put r xs) → IsPermutation (r ∷ x ∷ xs) (placed o r x xs (put r xs))
    go Less e moved = IsPermutation-refl (r ∷ x ∷ xs)
    go Equal e moved =
        let same : same_name r.name x.name ≡ true = ap (λ n. same_name r.name n) (sym (tied_same r.name x.name e)) ∙ same_itself r.name in
        let other = apart.0 in
        absurd (cc)
    go Greater e moved = IsPermutation-trans _ _ _ (IsPermutation-sym _ _ (IsPermutation-middle (x ∷ []) r xs)) (IsPermutation-cons x _ _ moved)

moved_sorted : (xs : List IndexRecord) → HasNames xs → IsPermutation xs (sorted xs)
unfolding IsDistinct
moved_sorted [] distinct = IsPermutation-refl []
moved_sorted (x ∷ xs) distinct =
    IsPermutation-trans _ _ _ (IsPermutation-cons x _ _ (moved_sorted xs distinct.1))
    (moved_put x (sorted xs) (all_sorted (λ y. same_name x.name y ≡ false) xs distinct.0))

pub sorted_by_name : (xs : List IndexRecord) → HasNames xs → IsByName xs (sorted xs)
sorted_by_name xs distinct = record { rising = sorted_rises xs; same = moved_sorted xs distinct }

-- ---- what stands under a name

covered : {X : Type 0} (a b : Bool) (x y r : X) → a ≡ b → cond a x r ≡ cond a x (cond b y r)
covered true b x y r e = refl
covered false false x y r e = refl
covered false true x y r e = absurd (cc)

put_at : (r : IndexRecord) (xs : List IndexRecord) (q : Name) → record_at (put r xs) q ≡ cond (same_name r.name q) (Some r) (record_at xs q)
put_at r [] q = refl
put_at r (x ∷ xs) q = go (name_cmp r.name x.name) refl (put_at r xs q)
  where
    go : (o : Ordering) → name_cmp r.name x.name ≡ o → record_at (put r xs) q ≡ cond (same_name r.name q) (Some r) (record_at xs q)
        → record_at (placed o r x xs (put r xs)) q ≡ cond (same_name r.name q) (Some r) (cond (same_name x.name q) (Some x) (record_at xs q))
    go Less e rest = refl
    go Equal e rest = covered (same_name r.name q) (same_name x.name q) (Some r) (Some x) (record_at xs q) (ap (λ n. same_name n q) (tied_same r.name x.name e))
    go Greater e rest =
        ap (λ o. cond (same_name x.name q) (Some x) o) rest
        ∙ crossed (same_name x.name q) (same_name r.name q) (Some x) (Some r) (record_at xs q) (not_both x.name r.name q (below_apart x.name r.name (above_below r.name x.name e)))

pub sorted_at : (xs : List IndexRecord) (q : Name) → record_at (sorted xs) q ≡ record_at xs q
sorted_at [] q = refl
sorted_at (x ∷ xs) q = put_at x (sorted xs) q ∙ ap (λ o. cond (same_name x.name q) (Some x) o) (sorted_at xs q)

-- ---- a map that begins with a journal

pub begins_after : (base changes : List IndexRecord) (first now : Known) → BeginsOver base base true first → Applies changes first now → BeginsAfter base changes now
begins_after base changes first now begins applies = (
  sorted now.records,
  (
    record {
      rising = sorted_rises now.records;
      same = λ q. sorted_at now.records q ∙ is q;
    },
    record {
      records = λ q. sym (sorted_at now.records q);
      seen = λ q. applies.seen q ∙ ap (journal_or (record_at changes q)) (begins.seen q) ∙ sym (sorted_at now.records q ∙ is q);
      base = λ q. applies.base.records q ∙ begins.base q;
      has_base = applies.base.has_base ∙ begins.has_base;
    },
  ),
)
  where
    is : (q : Name) → record_at now.records q ≡ applied base changes q
    is q = applies.records q ∙ ap (journal_or (record_at changes q)) (begins.records q)
