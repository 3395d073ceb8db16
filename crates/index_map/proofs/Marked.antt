-- The list of the base, each record with its mark.
use Rattle.std.proofs.Common.{◌≡◌, ℕ, zero, suc, ◌+◌, ◌-◌, ◌<◌, ◌≤◌, Bool, true, false, cond, List, [], ◌∷◌, ◌++◌, length, get_or, set, take, replicate, refl, sym, ap, ◌∙◌, subst, arith}
use Rattle.std.specs.List.{All, AllByRecursion, IsDistinct, cons_option, filter_map, sum_by}
use Rattle.std.specs.Map.{keys_of, lookup, values_of}
use Rattle.std.specs.Option.{option_map}
use Rattle.std.specs.Prelude.{IfSome, IsSome, None, Option, Some, map, option_and_then, option_to_list}
use Rattle.std.proofs.lemmas.List.Elements.{All-cons, All-nil}
use Rattle.std.proofs.lemmas.List.Sums.{sum_by-cons}
use Rattle.std.proofs.lemmas.List.{append_assoc, length-set, set-get_or}
use Rattle.std.proofs.lemmas.Map.Keys.{IsDistinct-cons, IsDistinct-head, IsDistinct-tail}
use Rattle.cache_base.specs.declared.name.Name.{Name}
use Rattle.index_record.specs.declared.record.IndexRecord.{IndexRecord}
use Rattle.std.specs.List.Sorted.{IsStrictlySortedBy}
use Rattle.record_list.specs.Lists.{AreSorted, HasNames, names_of, record_at, same_name}
use Rattle.record_list.proofs.NameLaws.{rising_distinct, same_back, same_is, same_itself}
use Rattle.index_map.specs.Known.{ArePlain, IsPlain}
use Rattle.index_map.specs.Slots.{AreFew, AreSmall, IsBase, IsSlotOf, IsTable, PutsSlot, Slot, base_slot, changed_of, counts_of, first_mark, gone_slot, kept_slot, kilobytes_of, marked, marked_in, records_of, remarked, rewritten, seen_mark, seen_of, seen_only, slot_of, weigh, written, written_mark}
use Rattle.index_map.specs.declared.counts.Counts.{Counts}
use Rattle.index_map.specs.declared.slot.Held.{Held}
use Rattle.index_map.proofs.Sums.{few, small}
use Rattle.index_map.specs.declared.mark.Mark.{Mark}
use Rattle.index_map.specs.declared.mark.Mark.TheVariants.{Away, Gone, Seen, Unseen}

-- ---- a name without a record now

abbrev base_of : Slot → Option IndexRecord
base_of slot = slot.base

abbrev gone : Option IndexRecord → Option Slot
gone b = option_map (λ b. record { current = None; seen = false; base = Some b }) b

pub gone_current : (old : Option Slot) → option_and_then (λ (s : Slot). s.current) (gone_slot old) ≡ None
gone_current old = go (option_and_then base_of old)
  where
    go : (b : Option IndexRecord) → option_and_then (λ (s : Slot). s.current) (gone b) ≡ None
    go None = refl
    go (Some b) = refl

pub gone_seen : (old : Option Slot) → option_and_then seen_of (gone_slot old) ≡ None
gone_seen old = go (option_and_then base_of old)
  where
    go : (b : Option IndexRecord) → option_and_then seen_of (gone b) ≡ None
    go None = refl
    go (Some b) = refl

pub gone_base : (old : Option Slot) → option_and_then base_of (gone_slot old) ≡ option_and_then base_of old
gone_base old = go (option_and_then base_of old)
  where
    go : (b : Option IndexRecord) → option_and_then base_of (gone b) ≡ b
    go None = refl
    go (Some b) = refl

-- ---- what stands under a name

abbrev named : Name → Option Slot → Option (Name × Slot)
named name o = option_map (λ slot. (name, slot)) o

abbrev headed : Bool → Option Slot → Option Slot → Option Slot
headed b None later = later
headed b (Some s) later = cond b (Some s) later

lookup_headed : (q name : Name) (o : Option Slot) (rest : List (Name × Slot)) → lookup (same_name q) (cons_option (named name o) rest) ≡ headed (same_name q name) o (lookup (same_name q) rest)
lookup_headed q name None rest = refl
lookup_headed q name (Some s) rest = refl

passed : (o later : Option Slot) → headed false o later ≡ later
passed None later = refl
passed (Some s) later = refl

found : (o later : Option Slot) → later ≡ None → headed true o later ≡ o
found None later h = h
found (Some s) later h = refl

-- a name that no record has, has no slot
pub absent : (q : Name) (rs : List IndexRecord) (ms : List Mark) → AllByRecursion (λ n. same_name q n ≡ false) (names_of rs) → lookup (same_name q) (marked_in rs ms) ≡ None
absent q [] ms h = refl
absent q (r ∷ rs) [] h = refl
absent q (r ∷ rs) (m ∷ ms) h =
    lookup_headed q r.name (marked r m) (marked_in rs ms)
    ∙ (λ i. headed (h.0 i) (marked r m) (absent q rs ms h.1 i))
    ∙ passed (marked r m) None

apart_at : (name : Name) (rs : List IndexRecord) (i : ℕ) (d : IndexRecord) → i < length rs → AllByRecursion (λ n. same_name name n ≡ false) (names_of rs) → same_name name (get_or rs i d).name ≡ false
apart_at name [] i d low h = absurd (omega arith)
apart_at name (r ∷ rs) zero d low h = h.0
apart_at name (r ∷ rs) (suc i) d low h = apart_at name rs i d (omega arith) h.1

at_head : (b c : Bool) (o x later : Option Slot) → b ≡ c → (b ≡ true → later ≡ None) → headed b o later ≡ cond c o (headed b x later)
at_head true true o x later e none = found o later (none refl)
at_head false false o x later e none = passed o later ∙ sym (passed x later)
at_head true false o x later e none = absurd (cc)
at_head false true o x later e none = absurd (cc)

behind_head : (b c : Bool) (o s later : Option Slot) → (b ≡ true → c ≡ true → ⊥) → headed b o (cond c s later) ≡ cond c s (headed b o later)
behind_head true true o s later apart = absurd (apart refl refl)
behind_head false true o s later apart = passed o s
behind_head b false o s later apart = refl

-- one record has another mark
pub remark_at : (rs : List IndexRecord) (ms : List Mark) (i : ℕ) (m : Mark) (d : IndexRecord) (q : Name) → HasNames rs → length ms ≡ length rs → i < length rs
    → lookup (same_name q) (marked_in rs (set ms i m)) ≡ cond (same_name (get_or rs i d).name q) (marked (get_or rs i d) m) (lookup (same_name q) (marked_in rs ms))
remark_at [] ms i m d q names long low = absurd (omega arith)
remark_at (r ∷ rs) [] i m d q names long low = absurd (omega arith)
remark_at (r ∷ rs) (x ∷ ms) zero m d q names long low =
    lookup_headed q r.name (marked r m) (marked_in rs ms)
    ∙ at_head (same_name q r.name) (same_name r.name q) (marked r m) (marked r x) (lookup (same_name q) (marked_in rs ms)) (same_back q r.name)
    (λ same. absent q rs ms (subst (λ n. AllByRecursion (λ y. same_name n y ≡ false) (names_of rs)) (sym (same_is q r.name same)) (IsDistinct-head same_name r.name (names_of rs) names)))
    ∙ ap (cond (same_name r.name q) (marked r m)) (sym (lookup_headed q r.name (marked r x) (marked_in rs ms)))
remark_at (r ∷ rs) (x ∷ ms) (suc i) m d q names long low =
    let name = (get_or rs i d).name in
    let apart : same_name r.name name ≡ false = apart_at r.name rs i d (omega arith) (IsDistinct-head same_name r.name (names_of rs) names) in
    lookup_headed q r.name (marked r x) (marked_in rs (set ms i m))
    ∙ ap (headed (same_name q r.name) (marked r x)) (remark_at rs ms i m d q (IsDistinct-tail same_name r.name (names_of rs) names) (omega arith) (omega arith))
    ∙ behind_head (same_name q r.name) (same_name name q) (marked r x) (marked (get_or rs i d) m) (lookup (same_name q) (marked_in rs ms))
    (λ a b. let one : same_name r.name name ≡ true = ap (λ n. same_name n name) (sym (same_is q r.name a)) ∙ same_back q name ∙ b in cc)
    ∙ ap (cond (same_name name q) (marked (get_or rs i d) m)) (sym (lookup_headed q r.name (marked r x) (marked_in rs ms)))

pub at_place : (rs : List IndexRecord) (ms : List Mark) (i : ℕ) (d : IndexRecord) (e : Mark) → HasNames rs → length ms ≡ length rs → i < length rs
    → lookup (same_name (get_or rs i d).name) (marked_in rs ms) ≡ marked (get_or rs i d) (get_or ms i e)
at_place rs ms i d e names long low =
    let r = get_or rs i d in
    ap (λ l. lookup (same_name r.name) (marked_in rs l)) (sym (set-get_or ms i e))
    ∙ remark_at rs ms i (get_or ms i e) d r.name names long low
    ∙ ap (λ b. cond b (marked r (get_or ms i e)) (lookup (same_name r.name) (marked_in rs ms))) (same_itself r.name)

-- ---- the counts

sum_headed : (g : Slot → ℕ) (name : Name) (o : Option Slot) (rest : List (Name × Slot)) → sum_by g (values_of (cons_option (named name o) rest)) ≡ weigh g o + sum_by g (values_of rest)
sum_headed g name None rest = omega arith
sum_headed g name (Some s) rest = sum_by-cons g s (values_of rest)

pub weigh_remark : (g : Slot → ℕ) (rs : List IndexRecord) (ms : List Mark) (i : ℕ) (m : Mark) (d : IndexRecord) (e : Mark) → length ms ≡ length rs → i < length rs
    → sum_by g (values_of (marked_in rs (set ms i m))) + weigh g (marked (get_or rs i d) (get_or ms i e)) ≡ sum_by g (values_of (marked_in rs ms)) + weigh g (marked (get_or rs i d) m)
weigh_remark g [] ms i m d e long low = absurd (omega arith)
weigh_remark g (r ∷ rs) [] i m d e long low = absurd (omega arith)
weigh_remark g (r ∷ rs) (x ∷ ms) zero m d e long low =
    omega (arith, sum_headed g r.name (marked r m) (marked_in rs ms), sum_headed g r.name (marked r x) (marked_in rs ms))
weigh_remark g (r ∷ rs) (x ∷ ms) (suc i) m d e long low =
    let rest = weigh_remark g rs ms i m d e (omega arith) (omega arith) in
    omega (arith, rest, sum_headed g r.name (marked r x) (marked_in rs (set ms i m)), sum_headed g r.name (marked r x) (marked_in rs ms))

-- ---- one record more

more_suc : (rs : List IndexRecord) (ms : List Mark) (i : ℕ) (d : IndexRecord) (e : Mark) → length ms ≡ length rs → i < length rs
    → marked_in (take (suc i) rs) (take (suc i) ms) ≡ marked_in (take i rs) (take i ms) ++ option_to_list (named (get_or rs i d).name (marked (get_or rs i d) (get_or ms i e)))
more_suc [] ms i d e long low = absurd (omega arith)
more_suc (r ∷ rs) [] i d e long low = absurd (omega arith)
more_suc (r ∷ rs) (x ∷ ms) zero d e long low = go (named r.name (marked r x))
  where
    go : (o : Option (Name × Slot)) → cons_option o [] ≡ option_to_list o
    go None = refl
    go (Some y) = refl
more_suc (r ∷ rs) (x ∷ ms) (suc i) d e long low =
    go (named r.name (marked r x)) (more_suc rs ms i d e (omega arith) (omega arith))
  where
    go : (o : Option (Name × Slot)) → marked_in (take (suc i) rs) (take (suc i) ms) ≡ marked_in (take i rs) (take i ms) ++ option_to_list (named (get_or rs i d).name (marked (get_or rs i d) (get_or ms i e)))
        → cons_option o (marked_in (take (suc i) rs) (take (suc i) ms)) ≡ cons_option o (marked_in (take i rs) (take i ms)) ++ option_to_list (named (get_or rs i d).name (marked (get_or rs i d) (get_or ms i e)))
    go None h = h
    go (Some y) h = ap (λ l. y ∷ l) h

pub marked_more : (rs : List IndexRecord) (ms : List Mark) (i : ℕ) (d : IndexRecord) (e : Mark) → length ms ≡ length rs → i < length rs
    → marked_in (take (i + 1) rs) (take (i + 1) ms) ≡ marked_in (take i rs) (take i ms) ++ option_to_list (named (get_or rs i d).name (marked (get_or rs i d) (get_or ms i e)))
marked_more rs ms i d e long low =
    let next : i + 1 ≡ suc i = omega arith in
    ap (λ n. marked_in (take n rs) (take n ms)) next ∙ more_suc rs ms i d e long low

part_push : {X : Type 0} (f : Slot → Option X) (name : Name) (o : Option Slot) (es : List (Name × Slot))
    → filter_map f (values_of es) ++ option_to_list (option_and_then f o) ≡ filter_map f (values_of (es ++ option_to_list (named name o)))
part_push {X} f name None [] = refl
part_push {X} f name (Some s) [] = go (f s)
  where
    go : (x : Option X) → option_to_list x ≡ cons_option x []
    go None = refl
    go (Some x) = refl
part_push {X} f name o (e ∷ es) = go (f e.1) (part_push f name o es)
  where
    go : (x : Option X) → filter_map f (values_of es) ++ option_to_list (option_and_then f o) ≡ filter_map f (values_of (es ++ option_to_list (named name o)))
        → cons_option x (filter_map f (values_of es)) ++ option_to_list (option_and_then f o) ≡ cons_option x (filter_map f (values_of (es ++ option_to_list (named name o))))
    go None h = h
    go (Some x) h = ap (λ l. x ∷ l) h

-- a list made of a part of each slot, with one slot more
pub listed : {X : Type 0} (f : Slot → Option X) (rs : List IndexRecord) (ms : List Mark) (i : ℕ) (d : IndexRecord) (e : Mark) (first before after : List X)
    → length ms ≡ length rs → i < length rs → before ≡ first ++ filter_map f (values_of (marked_in (take i rs) (take i ms)))
    → after ≡ before ++ option_to_list (option_and_then f (marked (get_or rs i d) (get_or ms i e)))
    → after ≡ first ++ filter_map f (values_of (marked_in (take (i + 1) rs) (take (i + 1) ms)))
listed f rs ms i d e first before after long low was is =
    let r = get_or rs i d in
    let o = marked r (get_or ms i e) in
    let front = marked_in (take i rs) (take i ms) in
    is ∙ ap (λ l. l ++ option_to_list (option_and_then f o)) was
    ∙ append_assoc first (filter_map f (values_of front)) (option_to_list (option_and_then f o))
    ∙ ap (λ l. first ++ l) (part_push f r.name o front ∙ ap (λ t. filter_map f (values_of t)) (sym (marked_more rs ms i d e long low)))

sum_push : (g : Slot → ℕ) (name : Name) (o : Option Slot) (es : List (Name × Slot)) → sum_by g (values_of (es ++ option_to_list (named name o))) ≡ sum_by g (values_of es) + weigh g o
sum_push g name None [] = omega arith
sum_push g name (Some s) [] = omega (arith, sum_by-cons g s [])
sum_push g name o (e ∷ es) =
    omega (arith, sum_push g name o es, sum_by-cons g e.1 (values_of (es ++ option_to_list (named name o))), sum_by-cons g e.1 (values_of es))

-- the counts with one record more
pub counted_more : (rs : List IndexRecord) (ms : List Mark) (i : ℕ) (d : IndexRecord) (e : Mark) (n m : Counts) → length ms ≡ length rs → i < length rs
    → n ≡ counts_of (values_of (marked_in (take i rs) (take i ms)))
    → m.records ≡ n.records + weigh records_of (marked (get_or rs i d) (get_or ms i e))
    → m.kilobytes ≡ n.kilobytes + weigh kilobytes_of (marked (get_or rs i d) (get_or ms i e))
    → m.changed ≡ n.changed + weigh changed_of (marked (get_or rs i d) (get_or ms i e))
    → m ≡ counts_of (values_of (marked_in (take (i + 1) rs) (take (i + 1) ms)))
counted_more rs ms i d e n m long low was records kilobytes changed =
    let r = get_or rs i d in
    let o = marked r (get_or ms i e) in
    let front = marked_in (take i rs) (take i ms) in
    let more = marked_more rs ms i d e long low in
    λ j. record {
      records = (records ∙ ap (λ (c : Counts). c.records + weigh records_of o) was ∙ sym (ap (λ t. sum_by records_of (values_of t)) more ∙ sum_push records_of r.name o front)) j;
      kilobytes = (kilobytes ∙ ap (λ (c : Counts). c.kilobytes + weigh kilobytes_of o) was ∙ sym (ap (λ t. sum_by kilobytes_of (values_of t)) more ∙ sum_push kilobytes_of r.name o front)) j;
      changed = (changed ∙ ap (λ (c : Counts). c.changed + weigh changed_of o) was ∙ sym (ap (λ t. sum_by changed_of (values_of t)) more ∙ sum_push changed_of r.name o front)) j;
    }

pub marked_long : (rs : List IndexRecord) (ms : List Mark) → length (values_of (marked_in rs ms)) ≤ length rs
marked_long [] ms = omega arith
marked_long (r ∷ rs) [] = omega arith
marked_long (r ∷ rs) (m ∷ ms) = go (marked r m) (marked_long rs ms)
  where
    go : (o : Option Slot) → length (values_of (marked_in rs ms)) ≤ length rs → length (values_of (cons_option (named r.name o) (marked_in rs ms))) ≤ length (r ∷ rs)
    go None h = omega (arith, h)
    go (Some s) h = omega (arith, h)

-- ---- all marks are changed

pub remarked_all : (w : Slot → Slot) (f : Mark → Mark) → ((r : IndexRecord) (m : Mark) → marked r (f m) ≡ option_and_then (kept_slot w) (marked r m))
    → (rs : List IndexRecord) (ms : List Mark) → marked_in rs (map f ms) ≡ rewritten w (marked_in rs ms)
remarked_all w f same [] ms = refl
remarked_all w f same (r ∷ rs) [] = refl
remarked_all w f same (r ∷ rs) (m ∷ ms) = (λ i. cons_option (named r.name (same r m i)) (remarked_all w f same rs ms i)) ∙ go (marked r m)
  where
    go : (o : Option Slot) → cons_option (named r.name (option_and_then (kept_slot w) o)) (rewritten w (marked_in rs ms)) ≡ rewritten w (cons_option (named r.name o) (marked_in rs ms))
    go None = refl
    go (Some s) = refl

pub all_seen : (rs : List IndexRecord) (ms : List Mark) → marked_in rs (map seen_mark ms) ≡ rewritten seen_only (marked_in rs ms)
all_seen = remarked_all seen_only seen_mark same
  where
    same : (r : IndexRecord) (m : Mark) → marked r (seen_mark m) ≡ option_and_then (kept_slot seen_only) (marked r m)
    same r Unseen = refl
    same r Seen = refl
    same r Gone = refl
    same r Away = refl

pub all_written : (rs : List IndexRecord) (ms : List Mark) → marked_in rs (map written_mark ms) ≡ rewritten written (marked_in rs ms)
all_written = remarked_all written written_mark same
  where
    same : (r : IndexRecord) (m : Mark) → marked r (written_mark m) ≡ option_and_then (kept_slot written) (marked r m)
    same r Unseen = refl
    same r Seen = refl
    same r Gone = refl
    same r Away = refl

-- ---- it is a table

apart_names : (name : Name) (rs : List IndexRecord) (ms : List Mark) → AllByRecursion (λ y. same_name name y ≡ false) (names_of rs) → AllByRecursion (λ y. same_name name y ≡ false) (keys_of (marked_in rs ms))
apart_names name [] ms h = tt
apart_names name (r ∷ rs) [] h = tt
apart_names name (r ∷ rs) (m ∷ ms) h = go (marked r m) (apart_names name rs ms h.1)
  where
    go : (o : Option Slot) → AllByRecursion (λ y. same_name name y ≡ false) (keys_of (marked_in rs ms)) → AllByRecursion (λ y. same_name name y ≡ false) (keys_of (cons_option (named r.name o) (marked_in rs ms)))
    go None rest = rest
    go (Some s) rest = (h.0, rest)

no_keys : IsDistinct same_name []
unfolding IsDistinct
no_keys = tt

distinct_names : (rs : List IndexRecord) (ms : List Mark) → HasNames rs → IsDistinct same_name (keys_of (marked_in rs ms))
distinct_names [] ms names = no_keys
distinct_names (r ∷ rs) [] names = no_keys
distinct_names (r ∷ rs) (m ∷ ms) names = go (marked r m) (distinct_names rs ms (IsDistinct-tail same_name r.name (names_of rs) names))
  where
    go : (o : Option Slot) → IsDistinct same_name (keys_of (marked_in rs ms)) → IsDistinct same_name (keys_of (cons_option (named r.name o) (marked_in rs ms)))
    go None rest = rest
    go (Some s) rest = IsDistinct-cons same_name r.name (keys_of (marked_in rs ms)) (apart_names r.name rs ms (IsDistinct-head same_name r.name (names_of rs) names)) rest

marked_fits : (r : IndexRecord) (m : Mark) → IsPlain r → IfSome (marked r m) (IsSlotOf r.name)
marked_fits r Unseen plain = record { current = (refl, plain); base = refl }
marked_fits r Seen plain = record { current = (refl, plain); base = refl }
marked_fits r Gone plain = record { current = tt; base = refl }
marked_fits r Away plain = tt

own_names : (rs : List IndexRecord) (ms : List Mark) → ArePlain rs → All (λ e. IsSlotOf e.0 e.1) (marked_in rs ms)
own_names [] ms plain = All-nil (λ e. IsSlotOf e.0 e.1)
own_names (r ∷ rs) [] plain = All-nil (λ e. IsSlotOf e.0 e.1)
own_names (r ∷ rs) (m ∷ ms) plain = go (marked r m) (marked_fits r m plain.0) (own_names rs ms plain.1)
  where
    go : (o : Option Slot) → IfSome o (IsSlotOf r.name) → All (λ e. IsSlotOf e.0 e.1) (marked_in rs ms) → All (λ e. IsSlotOf e.0 e.1) (cons_option (named r.name o) (marked_in rs ms))
    go None fits rest = rest
    go (Some s) fits rest = All-cons (λ e. IsSlotOf e.0 e.1) (r.name, s) (marked_in rs ms) fits rest

pub marked_table : (rs : List IndexRecord) (ms : List Mark) → HasNames rs → ArePlain rs → IsTable (marked_in rs ms)
marked_table rs ms names plain = record { distinct = distinct_names rs ms names; own = own_names rs ms plain }

-- ---- the first marks

first_at : (seen b c : Bool) (r : IndexRecord) (o : Option IndexRecord) → b ≡ c
    → headed b (marked r (first_mark seen)) (option_map (base_slot seen) o) ≡ option_map (base_slot seen) (cond c (Some r) o)
first_at true true true r o e = refl
first_at false true true r o e = refl
first_at true false false r o e = refl
first_at false false false r o e = refl
first_at seen true false r o e = absurd (cc)
first_at seen false true r o e = absurd (cc)

pub first_marks : (seen : Bool) (rs : List IndexRecord) (n : ℕ) (q : Name) → n ≡ length rs
    → lookup (same_name q) (marked_in rs (replicate n (first_mark seen))) ≡ option_map (base_slot seen) (record_at rs q)
first_marks seen [] n q e = refl
first_marks seen (r ∷ rs) zero q e = absurd (omega arith)
first_marks seen (r ∷ rs) (suc n) q e =
    lookup_headed q r.name (marked r (first_mark seen)) (marked_in rs (replicate n (first_mark seen)))
    ∙ ap (headed (same_name q r.name) (marked r (first_mark seen))) (first_marks seen rs n q (omega arith))
    ∙ first_at seen (same_name q r.name) (same_name r.name q) r (record_at rs q) (same_back q r.name)

-- ---- a base

pub get_or_any : {X : Type 0} (xs : List X) (i : ℕ) (d e : X) → i < length xs → get_or xs i d ≡ get_or xs i e
get_or_any [] i d e low = absurd (omega arith)
get_or_any (x ∷ xs) zero d e low = refl
get_or_any (x ∷ xs) (suc i) d e low = get_or_any xs i d e (omega arith)

module _ (rs : List IndexRecord) (ms : List Mark) (counts : Counts) (is : IsBase rs ms counts) where
  pub base_names : HasNames rs
  base_names = rising_distinct (names_of rs) is.rising

  pub base_table : (marks : List Mark) → IsTable (marked_in rs marks)
  base_table marks = marked_table rs marks base_names is.plain

  pub base_small : AreSmall counts
  base_small = small counts (values_of (marked_in rs ms)) is.counted (omega (arith, marked_long rs ms, is.few))

  pub base_few : AreFew counts
  base_few = few counts (values_of (marked_in rs ms)) is.counted (omega (arith, marked_long rs ms, is.few))

  module _ (i : ℕ) (d : IndexRecord) (e : Mark) (name : Name) (low : i < length rs) (own : (get_or rs i d).name ≡ name) where
    -- what is held at the place of a name
    pub held_at : lookup (same_name name) (marked_in rs ms) ≡ marked (get_or rs i d) (get_or ms i e)
    held_at = ap (λ n. lookup (same_name n) (marked_in rs ms)) (sym own) ∙ at_place rs ms i d e base_names is.long low

    pub got : (x : Option Held) → option_map (slot_of (get_or rs i d).name) x ≡ marked (get_or rs i d) (get_or ms i e) → option_map (slot_of name) x ≡ lookup (same_name name) (marked_in rs ms)
    got x h = ap (λ n. option_map (slot_of n) x) (sym own) ∙ h ∙ sym held_at

    -- another mark at the place of a name
    pub marked_at : (m : Mark) → IsSome (lookup (same_name name) (marked_in rs ms))
        → PutsSlot (marked_in rs ms) (marked_in rs (set ms i m)) name (option_and_then (remarked m) (lookup (same_name name) (marked_in rs ms)))
    marked_at m some q =
        remark_at rs ms i m d q base_names is.long low
        ∙ (λ k. cond (same_name (own k) q) (same k) (lookup (same_name q) (marked_in rs ms)))
      where
        go : (o : Mark) → IsSome (marked (get_or rs i d) o) → marked (get_or rs i d) m ≡ option_and_then (remarked m) (marked (get_or rs i d) o)
        go Unseen h = refl
        go Seen h = refl
        go Gone h = refl
        go Away h = absurd (cc)

        same : marked (get_or rs i d) m ≡ option_and_then (remarked m) (lookup (same_name name) (marked_in rs ms))
        same = go (get_or ms i e) (subst IsSome held_at some) ∙ ap (option_and_then (remarked m)) (sym held_at)

    module _ (m : Mark) (n : Counts)
        (records : n.records ≡ counts.records + weigh records_of (marked (get_or rs i d) m))
        (kilobytes : n.kilobytes ≡ counts.kilobytes + weigh kilobytes_of (marked (get_or rs i d) m))
        (changed : n.changed ≡ counts.changed + weigh changed_of (marked (get_or rs i d) m)) where
      records_are : counts.records ≡ sum_by records_of (values_of (marked_in rs ms))
      records_are = ap (λ (c : Counts). c.records) is.counted

      kilobytes_are : counts.kilobytes ≡ sum_by kilobytes_of (values_of (marked_in rs ms))
      kilobytes_are = ap (λ (c : Counts). c.kilobytes) is.counted

      changed_are : counts.changed ≡ sum_by changed_of (values_of (marked_in rs ms))
      changed_are = ap (λ (c : Counts). c.changed) is.counted

      pub records_there : weigh records_of (marked (get_or rs i d) (get_or ms i e)) ≤ n.records
      records_there = omega (arith, records, records_are, weigh_remark records_of rs ms i m d e is.long low)

      pub kilobytes_there : weigh kilobytes_of (marked (get_or rs i d) (get_or ms i e)) ≤ n.kilobytes
      kilobytes_there = omega (arith, kilobytes, kilobytes_are, weigh_remark kilobytes_of rs ms i m d e is.long low)

      pub changed_there : weigh changed_of (marked (get_or rs i d) (get_or ms i e)) ≤ n.changed
      changed_there = omega (arith, changed, changed_are, weigh_remark changed_of rs ms i m d e is.long low)

      pub base_marked : (l : Counts) → l.records ≡ n.records - weigh records_of (marked (get_or rs i d) (get_or ms i e))
          → l.kilobytes ≡ n.kilobytes - weigh kilobytes_of (marked (get_or rs i d) (get_or ms i e))
          → l.changed ≡ n.changed - weigh changed_of (marked (get_or rs i d) (get_or ms i e)) → IsBase rs (set ms i m) l
      base_marked l x y z =
          let r : l.records ≡ sum_by records_of (values_of (marked_in rs (set ms i m))) = omega (arith, x, records, records_are, weigh_remark records_of rs ms i m d e is.long low) in
          let k : l.kilobytes ≡ sum_by kilobytes_of (values_of (marked_in rs (set ms i m))) = omega (arith, y, kilobytes, kilobytes_are, weigh_remark kilobytes_of rs ms i m d e is.long low) in
          let c : l.changed ≡ sum_by changed_of (values_of (marked_in rs (set ms i m))) = omega (arith, z, changed, changed_are, weigh_remark changed_of rs ms i m d e is.long low) in
          record {
            rising = is.rising;
            plain = is.plain;
            long = length-set ms i m ∙ is.long;
            few = is.few;
            counted = λ j. record { records = r j; kilobytes = k j; changed = c j };
          }

pub not_there : (rs : List IndexRecord) (ms : List Mark) (name : Name) → AllByRecursion (λ n. same_name name n ≡ false) (names_of rs) → {P : Type 0} → IsSome (lookup (same_name name) (marked_in rs ms)) → P
not_there rs ms name apart some = absurd (let none = absent name rs ms apart in cc)

no_names : AreSorted []
unfolding IsStrictlySortedBy
no_names = tt

pub no_base : IsBase [] [] (record { records = 0; kilobytes = 0; changed = 0 })
no_base = record { rising = no_names; plain = tt; long = refl; few = omega arith; counted = refl }
