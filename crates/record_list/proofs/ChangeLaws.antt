-- A difference, applied to its base; lists by rising names that have the same records.
use Rattle.std.proofs.Common.{◌≡◌, List, [], ◌∷◌, Bool, true, false, refl, sym, ap, subst, ◌∙◌, cond}
use Rattle.std.specs.Prelude.{Option, None, Some, IfSome, unwrap_or}
use Rattle.std.specs.List.{AllByRecursion}
use Rattle.std.specs.List.Sorted.{IsStrictlySortedBy}
use Rattle.std.specs.declared.cmp.Ordering.{Ordering}
use Rattle.std.specs.declared.cmp.Ordering.TheVariants.{Less, Equal, Greater}
use Rattle.std.proofs.lemmas.Bool.{and_parts, eqb-true}
use Rattle.cache_base.specs.Names.{name_cmp}
use Rattle.cache_base.specs.declared.name.Name.{Name}
use Rattle.index_record.specs.declared.record.IndexRecord.{IndexRecord}
use Rattle.index_record.specs.Record.{is_removed}
use Rattle.record_list.specs.Lists.{AreSorted, names_of, record_at, same_name}
use Rattle.record_list.specs.Change.{DiffThenApply, HasNoRemoved, IsDiff, applied, change, journal_or, kept, record_eq}
use Rattle.record_list.proofs.NameLaws.{above_below, below_apart_back, below_trans, same_is, same_itself, tied_same}

-- records that agree are equal
pub record_eq-same : (r s : IndexRecord) → record_eq r s ≡ true → r ≡ s
record_eq-same r s h =
    let p6 : _ × _ = and_parts _ _ h in
    let p5 : _ × _ = and_parts _ _ p6.0 in
    let p4 : _ × _ = and_parts _ _ p5.0 in
    let p3 : _ × _ = and_parts _ _ p4.0 in
    let p2 : _ × _ = and_parts _ _ p3.0 in
    let p1 : _ × _ = and_parts _ _ p2.0 in
    let name : r.name ≡ s.name = same_is _ _ p1.0 in
    let frecency : r.frecency ≡ s.frecency = eqb-true _ _ p1.1 in
    let origin : r.origin ≡ s.origin = eqb-true _ _ p2.1 in
    let on_start : r.on_start ≡ s.on_start = eqb-true _ _ p3.1 in
    let on_stop : r.on_stop ≡ s.on_stop = eqb-true _ _ p4.1 in
    let content : r.content ≡ s.content = eqb-true _ _ p5.1 in
    let flags : r.flags ≡ s.flags = eqb-true _ _ p6.1 in
    λ i. record {
      name = name i;
      frecency = frecency i;
      origin = origin i;
      on_start = on_start i;
      on_stop = on_stop i;
      content = content i;
      flags = flags i;
    }

-- what the list has under a name is not removed
at_not_removed : (rs : List IndexRecord) (name : Name) → HasNoRemoved rs → IfSome (record_at rs name) (λ r. is_removed r ≡ false)
at_not_removed [] name h = tt
at_not_removed (r ∷ rs) name h =
    elim (same_name r.name name) as (λ b. IfSome (cond b (Some r) (record_at rs name)) (λ x. is_removed x ≡ false)) [
      | true ↦ h.0
      | false ↦ at_not_removed rs name h.1
    ]

kept_same : (s : IndexRecord) → is_removed s ≡ false → kept s ≡ Some s
kept_same s h = ap (λ b. cond b None (Some s)) h

-- at each name, the change applied to what was gives what is
change_then_apply : (name : Name) (old new : Option IndexRecord) → IfSome new (λ r. is_removed r ≡ false)
    → journal_or (change name old new) old ≡ new
change_then_apply name None None h = refl
change_then_apply name (Some r) None h = refl
change_then_apply name None (Some s) h = kept_same s h
change_then_apply name (Some r) (Some s) h = go (record_eq r s) refl
  where
    go : (b : Bool) → record_eq r s ≡ b → journal_or (cond b None (Some s)) (Some r) ≡ Some s
    go true e = ap Some (record_eq-same r s e)
    go false e = kept_same s h

-- the same for whole lists, name by name
pub applied_diff : (base now js : List IndexRecord) → HasNoRemoved now → IsDiff base now js → (name : Name) → applied base js name ≡ record_at now name
applied_diff base now js h d name =
    ap (λ o. journal_or o (record_at base name)) (d.same name)
    ∙ change_then_apply name (record_at base name) (record_at now name) (at_not_removed now name h)

-- a name below all has no record
pub below_all : (name : Name) (rs : List IndexRecord) → AllByRecursion (λ y. name_cmp name y ≡ Less) (names_of rs) → record_at rs name ≡ None
below_all name [] h = refl
below_all name (r ∷ rs) h =
    ap (λ b. cond b (Some r) (record_at rs name)) (below_apart_back name r.name h.0) ∙ below_all name rs h.1

-- the first record is the one of its name
first_at : (r : IndexRecord) (rs : List IndexRecord) → record_at (r ∷ rs) r.name ≡ Some r
first_at r rs = ap (λ b. cond b (Some r) (record_at rs r.name)) (same_itself r.name)

-- all of the names that are above b are above an a below b
still_below : (a b : Name) (names : List Name) → name_cmp a b ≡ Less → AllByRecursion (λ z. name_cmp b z ≡ Less) names
    → AllByRecursion (λ z. name_cmp a z ≡ Less) names
still_below a b [] less h = tt
still_below a b (n ∷ names) less h = (below_trans a b n less h.0, still_below a b names less h.1)

some_not_none : (r : IndexRecord) → Some r ≡ None → ⊥
some_not_none r e = absurd (cc)

pub some_same : (r s : IndexRecord) → Some r ≡ Some s → r ≡ s
some_same r s e = ap (λ o. unwrap_or o r) e

-- the records after the first, at a name that is not the first's
behind : (x : IndexRecord) (xs : List IndexRecord) (name : Name) → same_name x.name name ≡ false → record_at (x ∷ xs) name ≡ record_at xs name
behind x xs name apart = ap (λ c. cond c (Some x) (record_at xs name)) apart

-- lists by rising names that have the same record under each name are one
pub same_records : (a b : List IndexRecord) → AreSorted a → AreSorted b → ((name : Name) → record_at a name ≡ record_at b name) → a ≡ b
unfolding IsStrictlySortedBy
same_records [] [] ra rb same = refl
same_records [] (y ∷ ys) ra rb same = absurd (some_not_none y (sym (first_at y ys) ∙ sym (same y.name)))
same_records (x ∷ xs) [] ra rb same = absurd (some_not_none x (sym (first_at x xs) ∙ same x.name))
same_records (x ∷ xs) (y ∷ ys) ra rb same =
    let tails : (name : Name) → x ≡ y → record_at xs name ≡ record_at ys name =
    λ name e.
    let go : (b : Bool) → same_name x.name name ≡ b → record_at xs name ≡ record_at ys name =
    λ b. elim b as (λ b. same_name x.name name ≡ b → record_at xs name ≡ record_at ys name) [
      | true ↦ λ t.
          let n : x.name ≡ name = same_is x.name name t in
          let m : y.name ≡ name = ap (λ (r : IndexRecord). r.name) (sym e) ∙ n in
          below_all name xs (subst (λ z. AllByRecursion (λ w. name_cmp z w ≡ Less) (names_of xs)) n ra.0)
          ∙ sym (below_all name ys (subst (λ z. AllByRecursion (λ w. name_cmp z w ≡ Less) (names_of ys)) m rb.0))
      | false ↦ λ t.
          let u : same_name y.name name ≡ false = ap (λ (r : IndexRecord). same_name r.name name) (sym e) ∙ t in
          sym (behind x xs name t) ∙ same name ∙ behind y ys name u
    ] in
    go (same_name x.name name) refl in
    let heads : (o : Ordering) → name_cmp x.name y.name ≡ o → x ≡ y =
    λ o. elim o as (λ o. name_cmp x.name y.name ≡ o → x ≡ y) [
      | Less ↦ λ e. absurd (some_not_none x (sym (first_at x xs) ∙ same x.name
          ∙ below_all x.name (y ∷ ys) (e, still_below x.name y.name (names_of ys) e rb.0)))
      | Equal ↦ λ e.
          let n : x.name ≡ y.name = tied_same x.name y.name e in
          some_same x y (sym (first_at x xs) ∙ same x.name ∙ ap (record_at (y ∷ ys)) n ∙ first_at y ys)
      | Greater ↦ λ e.
          let less : name_cmp y.name x.name ≡ Less = above_below x.name y.name e in
          absurd (some_not_none y (sym (first_at y ys) ∙ sym (same y.name)
          ∙ below_all y.name (x ∷ xs) (less, still_below y.name x.name (names_of xs) less ra.0)))
    ] in
    let head : x ≡ y = heads (name_cmp x.name y.name) refl in
    let tail : xs ≡ ys = same_records xs ys ra.1 rb.1 (λ name. tails name head) in
    λ i. head i ∷ tail i

pub diff_then_apply : DiffThenApply
diff_then_apply base now js out clean rising d a =
    same_records out now a.rising rising (λ name. a.same name ∙ applied_diff base now js clean d name)
