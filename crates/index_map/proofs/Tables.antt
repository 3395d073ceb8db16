-- The entries of a table after one slot is put or taken, and after all are rewritten.
use Rattle.std.proofs.Common.{◌≡◌, ℕ, ◌+◌, ◌-◌, ◌<◌, Bool, true, false, cond, List, [], ◌∷◌, length, get_or, refl, sym, ap, ◌∙◌, subst, arith}
use Rattle.std.specs.List.{All, cons_option, sum_by, swap_remove}
use Rattle.std.specs.Map.{lookup, keys_of, values_of}
use Rattle.std.specs.Map.Calls.{RetainsPairs}
use Rattle.std.specs.Option.{option_map, option_map_or}
use Rattle.std.specs.Prelude.{Option, None, Some, position, slice_get}
use Rattle.std.proofs.lemmas.List.Elements.{All-cons, All-head, All-nil, All-tail, All-take, All-set, All-get_or}
use Rattle.std.proofs.lemmas.List.Sums.{sum_by-cons, sum_by-swap_remove}
use Rattle.std.proofs.lemmas.Option.{slice_get-get_or, slice_get-map}
use Rattle.cache_base.specs.declared.name.Name.{Name}
use Rattle.index_map.specs.Slots.{is_held, is_used, rewritten, slot_of, slots_of, Slot}
use Rattle.index_map.specs.declared.slot.Held.{Held}
use Rattle.index_map.proofs.Held.{held_used}
use Rattle.indexmap.specs.IndexMap.{insert_entry, swap_remove_entry}
use Rattle.indexmap.proofs.MapLemmas.{Found-position, Missing-position, swap_remove_entry-found, swap_remove_entry-missing}

-- ---- one slot is put

pub sum_put : {K V : Type 0} (eq : K → K → Bool) (g : V → ℕ) (k : K) (v : V) (es : List (K × V))
    → sum_by g (values_of (insert_entry eq es k v)) + option_map_or g (lookup (eq k) es) 0 ≡ sum_by g (values_of es) + g v
sum_put eq g k v [] = omega (arith, sum_by-cons g v [])
sum_put eq g k v (e ∷ es) = go (eq k e.0) (sum_put eq g k v es)
  where
    go : (b : Bool) → sum_by g (values_of (insert_entry eq es k v)) + option_map_or g (lookup (eq k) es) 0 ≡ sum_by g (values_of es) + g v
        → sum_by g (values_of (cond b ((e.0, v) ∷ es) (e ∷ insert_entry eq es k v))) + option_map_or g (cond b (Some e.1) (lookup (eq k) es)) 0
        ≡ sum_by g (values_of (e ∷ es)) + g v
    go true h = omega (arith, sum_by-cons g v (values_of es), sum_by-cons g e.1 (values_of es))
    go false h = omega (arith, h, sum_by-cons g e.1 (values_of (insert_entry eq es k v)), sum_by-cons g e.1 (values_of es))

pub all_put : {K V : Type 0} (eq : K → K → Bool) (same : (a b : K) → eq a b ≡ true → a ≡ b) (P : K × V → Type 0) (k : K) (v : V) (es : List (K × V))
    → All P es → P (k, v) → All P (insert_entry eq es k v)
all_put eq same P k v [] all p = All-cons P (k, v) [] p all
all_put eq same P k v (e ∷ es) all p = go (eq k e.0) refl (all_put eq same P k v es (All-tail P e es all) p)
  where
    go : (b : Bool) → eq k e.0 ≡ b → All P (insert_entry eq es k v) → All P (cond b ((e.0, v) ∷ es) (e ∷ insert_entry eq es k v))
    go true h rest = All-cons P (e.0, v) es (subst (λ n. P (n, v)) (same k e.0 h) p) (All-tail P e es all)
    go false h rest = All-cons P e (insert_entry eq es k v) (All-head P e es all) rest

-- ---- one slot is taken

pub sum_values : {K V : Type 0} (g : V → ℕ) (es : List (K × V)) → sum_by g (values_of es) ≡ sum_by (λ e. g e.1) es
sum_values g [] = refl
sum_values g (e ∷ es) = sum_by-cons g e.1 (values_of es) ∙ ap (λ n. g e.1 + n) (sum_values g es) ∙ sym (sum_by-cons (λ e. g e.1) e es)

value_at : {K V : Type 0} (es : List (K × V)) (i : ℕ) (d : K × V) → i < length es → slice_get (values_of es) i ≡ Some ((get_or es i d).1)
value_at es i d low = slice_get-map (λ e. e.1) es i ∙ ap (option_map (λ e. e.1)) (slice_get-get_or es i d low)

sum_taken_at : {K V : Type 0} (t : K → Bool) (g : V → ℕ) (es : List (K × V)) (i : ℕ) (d : K × V) → position t (keys_of es) ≡ Some i
    → sum_by g (values_of (swap_remove_entry t es)) + option_map_or g (lookup t es) 0 ≡ sum_by g (values_of es)
sum_taken_at t g es i d h =
    let found = Found-position t es i h in
    let value : option_map_or g (lookup t es) 0 ≡ g (get_or es i d).1 = ap (λ o. option_map_or g o 0) (found.value ∙ value_at es i d found.within) in
    let after : sum_by g (values_of (swap_remove_entry t es)) ≡ sum_by (λ e. g e.1) (swap_remove es i d) =
    ap (λ l. sum_by g (values_of l)) (swap_remove_entry-found t es i d h) ∙ sum_values g (swap_remove es i d) in
    omega (arith, value, after, sum_by-swap_remove (λ e. g e.1) es i d found.within, sum_values g es)

pub sum_taken : {K V : Type 0} (t : K → Bool) (g : V → ℕ) (es : List (K × V)) (d : K × V)
    → sum_by g (values_of (swap_remove_entry t es)) + option_map_or g (lookup t es) 0 ≡ sum_by g (values_of es)
sum_taken {K} {V} t g es d = go (position t (keys_of es)) refl
  where
    go : (o : Option ℕ) → position t (keys_of es) ≡ o → sum_by g (values_of (swap_remove_entry t es)) + option_map_or g (lookup t es) 0 ≡ sum_by g (values_of es)
    go (Some i) h = sum_taken_at t g es i d h
    go None h =
        let none : option_map_or g (lookup t es) 0 ≡ 0 = ap (λ o. option_map_or g o 0) (Missing-position t es h).value in
        omega (arith, none, ap (λ l. sum_by g (values_of l)) (swap_remove_entry-missing t es h))

pub all_taken : {K V : Type 0} (t : K → Bool) (P : K × V → Type 0) (es : List (K × V)) (d : K × V) → All P es → All P (swap_remove_entry t es)
all_taken {K} {V} t P es d all = go (position t (keys_of es)) refl
  where
    go : (o : Option ℕ) → position t (keys_of es) ≡ o → All P (swap_remove_entry t es)
    go None h = subst (All P) (sym (swap_remove_entry-missing t es h)) all
    go (Some i) h =
        let found = Found-position t es i h in
        let last = All-get_or P es (length es - 1) d (omega (arith, found.within)) all in
        subst (All P) (sym (swap_remove_entry-found t es i d h)) (All-take P (length es - 1) _ (All-set P es i _ last all))

-- ---- all slots are rewritten

-- what is left of a table whose held slots are rewritten, in terms of its slots
pub retained : {F : Type 0} (T : F → Name → Held → Bool → Held → F → Type 0) (w : Held → Held) (v : Slot → Slot) (f : F)
    → ((k : Name) (h : Held) → slot_of k (w h) ≡ v (slot_of k h))
    → ((k : Name) (h : Held) (b : Bool) (x : Held) (g : F) → T f k h b x g → (x ≡ w h) × (b ≡ is_held (w h)) × (g ≡ f))
    → (es kept : List (Name × Held)) → RetainsPairs T f es kept → slots_of kept ≡ rewritten v (slots_of es)
retained T w v f same says [] kept h = ap slots_of h
retained T w v f same says (e ∷ es) kept h =
    let s = says e.0 e.1 h.0 h.1 h.2 h.4 in
    let rest = retained T w v f same says es h.3 (subst (λ g. RetainsPairs T g es h.3) s.2 h.5) in
    let used : is_held (w e.1) ≡ is_used (v (slot_of e.0 e.1)) = held_used e.0 (w e.1) ∙ ap is_used (same e.0 e.1) in
    ap slots_of (h.6 ∙ (λ j. cond (s.1 j) ((e.0, s.0 j) ∷ h.3) h.3))
    ∙ ap (λ b. slots_of (cond b ((e.0, w e.1) ∷ h.3) h.3)) used
    ∙ go (is_used (v (slot_of e.0 e.1))) (same e.0 e.1) rest
  where
    go : (b : Bool) → slot_of e.0 (w e.1) ≡ v (slot_of e.0 e.1) → slots_of h.3 ≡ rewritten v (slots_of es)
        → slots_of (cond b ((e.0, w e.1) ∷ h.3) h.3) ≡ cons_option (option_map (λ slot. (e.0, slot)) (cond b (Some (v (slot_of e.0 e.1))) None)) (rewritten v (slots_of es))
    go true one rest = λ j. (e.0, one j) ∷ rest j
    go false one rest = rest

pub all_rewritten : (P : Name × Slot → Type 0) (w : Slot → Slot) → ((n : Name) (s : Slot) → P (n, s) → P (n, w s))
    → (es : List (Name × Slot)) → All P es → All P (rewritten w es)
all_rewritten P w keeps [] all = All-nil P
all_rewritten P w keeps (e ∷ es) all = go (is_used (w e.1)) (all_rewritten P w keeps es (All-tail P e es all))
  where
    go : (b : Bool) → All P (rewritten w es) → All P (cons_option (option_map (λ s. (e.0, s)) (cond b (Some (w e.1)) None)) (rewritten w es))
    go true rest = All-cons P (e.0, w e.1) (rewritten w es) (keeps e.0 e.1 (All-head P e es all)) rest
    go false rest = rest
