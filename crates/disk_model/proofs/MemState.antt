-- The state of a table, and what its changes make of it.
use Rattle.std.proofs.Common.{◌≡◌, ◌⊎◌, inl, inr, ℕ, ◌<◌, ◌≤◌, ◌==◌, List, [], ◌∷◌, ◌++◌, length, take, reverse, get_or, set, map, Vec, Global, Bool, true, false, Option, Some, None, IfSome, refl, sym, ◌∙◌, ap, subst, arith, if◌then◌else◌}
use Rattle.std.specs.Vec.{with_items}
use Rattle.std.proofs.lemmas.List.{reverse-append, map_push, map-set, length-map, length-set, length_push, drop_all, take_all, append-nil, get_or-map}
use Rattle.std.proofs.lemmas.Bool.Decides.{nat_tests}
use Rattle.std.proofs.lemmas.Grind.{common_steps}
use Rattle.disk_theory.specs.declared.place.Place.{Place}
use Rattle.disk_theory.specs.declared.place.NameStep.{NameStep}
use Rattle.disk_theory.specs.declared.place.NameStep.TheVariants.{Create, Rename, Remove}
use Rattle.disk_theory.specs.Place.{is_same}
use Rattle.disk_theory.specs.State.{Names, File, State, with_name, named, names_after, empty_file, with_file, add_write, added, settled, Write}
use Rattle.disk_theory.specs.Sound.{IsSound, names_before}
use Rattle.disk_model.specs.MemFile.{file_of, nth_file, at_rest}
use Rattle.disk_model.specs.MemSlots.{Slots, names_in, synced_names_in, SameNames, NamesPlace, IsNamedBy}
use Rattle.disk_model.specs.MemState.{state_from, stepped}
use Rattle.disk_theory.specs.State.{written_to}
use Rattle.disk_model.specs.declared.mem_file.MemFile.{MemFile}
use Rattle.disk_theory.proofs.Places.{one_same}
use Rattle.disk_theory.proofs.Sound.{names_settled}

-- The files.

files_from : (f g : ℕ → File) → ((k : ℕ) → f k ≡ g k) → f ≡ g
files_from f g same = λ i k. same k i

pub nth_pushed : (fs : List MemFile) (f : MemFile) → nth_file (fs ++ f ∷ []) ≡ with_file (length fs) (file_of f) (nth_file fs)
nth_pushed fs f = files_from _ _ each
  where
    one : (xs : List File) (g : File) (k : ℕ) → get_or (xs ++ g ∷ []) k empty_file ≡ (if k == length xs then g else get_or xs k empty_file)
    one xs g k = grind (arith, nat_tests, common_steps)

    each : (k : ℕ) → nth_file (fs ++ f ∷ []) k ≡ with_file (length fs) (file_of f) (nth_file fs) k
    each k =
        ap (λ (xs : List File). get_or xs k empty_file) (map_push file_of fs f)
        ∙ one (map file_of fs) (file_of f) k ∙ ap (λ n. if k == n then file_of f else get_or (map file_of fs) k empty_file) (length-map fs file_of)

pub nth_set : (fs : List MemFile) (i : ℕ) (f : MemFile) → i < length fs → nth_file (set fs i f) ≡ with_file i (file_of f) (nth_file fs)
nth_set fs i f lt = files_from _ _ each
  where
    one : (xs : List File) (k : ℕ) (g : File) → i < length xs → get_or (set xs i g) k empty_file ≡ (if k == i then g else get_or xs k empty_file)
    one xs k g lt = grind (arith, nat_tests, common_steps)

    each : (k : ℕ) → nth_file (set fs i f) k ≡ with_file i (file_of f) (nth_file fs) k
    each k = ap (λ (xs : List File). get_or xs k empty_file) (map-set file_of fs i f) ∙ one (map file_of fs) k (file_of f) (omega (arith, length-map fs file_of))

pub with_file-same_there : (i : ℕ) (files : ℕ → File) → with_file i (files i) files ≡ files
with_file-same_there i files = files_from _ _ (λ k. grind (arith, nat_tests))

pub here_file : (fs : List MemFile) (i : ℕ) (x : MemFile) → i < length fs → x ≡ get_or fs i x → file_of x ≡ nth_file fs i
here_file fs i x lt is = ap file_of is ∙ sym (get_or-map file_of fs i x empty_file lt)

pub read_file : (fs : List MemFile) (i : ℕ) (x : MemFile) → i < length fs → file_of (get_or fs i x) ≡ nth_file fs i
read_file fs i x lt = sym (get_or-map file_of fs i x empty_file lt)

-- a list that was lent and changed, as the vector then has it
pub lent_items : (v : Vec MemFile Global) (new : List MemFile) → length new ≡ length v.items → (with_items v new).items ≡ new
lent_items v new same =
    ap (λ rest. take v.len (new ++ rest)) (drop_all (length new) v.items (omega (arith, same))) ∙ ap (take v.len) (append-nil new) ∙ take_all v.len new (omega (arith, same, v.ok.0))

-- there is no file of this number, and one with nothing in it is at rest
pub nth_beyond : (fs : List MemFile) (i : ℕ) → length fs ≤ i → nth_file fs ≡ with_file i (at_rest (nth_file fs i)) (nth_file fs)
nth_beyond fs i le = sym (ap (λ (f : File). with_file i f (nth_file fs)) (ap at_rest none ∙ sym none) ∙ with_file-same_there i (nth_file fs))
  where
    past : (xs : List File) → length xs ≤ i → get_or xs i empty_file ≡ empty_file
    past xs le = grind (arith, common_steps)

    none : nth_file fs i ≡ empty_file
    none = past (map file_of fs) (omega (arith, length-map fs file_of))

-- The names.

-- a place that no step names has the file that it had
newest_unnamed : (names : Names) (steps : List NameStep) (p : Place) → IsNamedBy p steps ⊎ (names_after names steps p ≡ names p)
newest_unnamed names [] p = inr refl
newest_unnamed names (step ∷ earlier) p =
    elim (newest_unnamed names earlier p) [
      | inl named_before ↦ inl (inr named_before)
      | inr same ↦ elim (by_step step) [ inl this ↦ inl (inl this) | inr kept ↦ inr (kept ∙ same) ]
    ]
  where
    before : Names
    before = names_after names earlier

    one : (q : Place) (file : Option ℕ) (ns : Names) → (p ≡ q) ⊎ (with_name q file ns p ≡ ns p)
    one q file ns = go (is_same p q) refl
      where
        go : (same : Bool) → is_same p q ≡ same → (p ≡ q) ⊎ (with_name q file ns p ≡ ns p)
        go true is = inl (one_same p q is)
        go false is = inr (ap (λ (b : Bool). if b then file else ns p) is)

    by_step : (s : NameStep) → NamesPlace p s ⊎ (named s before p ≡ before p)
    by_step (Create q file) = one q (Some file) before
    by_step (Rename a b) =
        elim (one a None (with_name b (before a) before)) [
          | inl here ↦ inl (inl here)
          | inr kept ↦ elim (one b (before a) before) [ inl here ↦ inl (inr here) | inr also ↦ inr (kept ∙ also) ]
        ]
    by_step (Remove q) = one q None before

named_in_one : (p : Place) (xs ys : List NameStep) → IsNamedBy p (xs ++ ys) → IsNamedBy p xs ⊎ IsNamedBy p ys
named_in_one p [] ys is = inr is
named_in_one p (x ∷ xs) ys is =
    elim is [
      | inl this ↦ inl (inl this)
      | inr later ↦ elim (named_in_one p xs ys later) [ inl one ↦ inl (inr one) | inr two ↦ inr two ]
    ]

named_either_way : (p : Place) (steps : List NameStep) → IsNamedBy p (reverse steps) → IsNamedBy p steps
named_either_way p [] is = is
named_either_way p (x ∷ xs) is =
    elim (named_in_one p (reverse xs) (x ∷ []) (subst (IsNamedBy p) (reverse-append (x ∷ []) xs) is)) [
      | inl later ↦ inr (named_either_way p xs later)
      | inr this ↦ elim this [ inl here ↦ inl here | inr none ↦ absurd none ]
    ]

pub unnamed : (slots : Slots) (steps : List NameStep) → names_in slots ≡ names_after (synced_names_in slots) (reverse steps)
    → (p : Place) → IsNamedBy p steps ⊎ (synced_names_in slots p ≡ names_in slots p)
unnamed slots steps names p =
    elim (newest_unnamed (synced_names_in slots) (reverse steps) p) [
      | inl is ↦ inl (named_either_way p steps is)
      | inr same ↦ inr (sym (ap (λ (ns : Names). ns p) names ∙ same))
    ]

-- what a look-up found is one of the files
pub is_made : (slots : Slots) (steps : List NameStep) (files : List MemFile) (left : ℕ) (place : Place) (r : Option ℕ)
    → IsSound (state_from slots steps files) → r ≡ names_before (state_from slots steps files) left place → IfSome r (λ file. file < length files)
is_made slots steps files left place None sound is = tt
is_made slots steps files left place (Some file) sound is = sound.made left place file (sym is)

-- before all steps
pub all_before : (s : State) → names_before s (length s.steps) ≡ s.names
all_before s = ap (names_after s.names) (drop_all (length s.steps) s.steps (omega arith))

-- The state after each change.

pub same_state : (m n : Slots) (steps : List NameStep) (files : List MemFile) → SameNames m n → state_from n steps files ≡ state_from m steps files
same_state m n steps files same = λ i. record (state_from m steps files) { names = same.synced i }

pub same_names : (m n : Slots) (steps : List NameStep) → SameNames m n → names_in m ≡ names_after (synced_names_in m) (reverse steps) → names_in n ≡ names_after (synced_names_in n) (reverse steps)
same_names m n steps same names = same.current ∙ names ∙ ap (λ (ns : Names). names_after ns (reverse steps)) (sym same.synced)

-- slots with room, and then with the names after the step
module _ (m n o : Slots) (steps : List NameStep) (step : NameStep) (same : SameNames m n) (synced : synced_names_in o ≡ synced_names_in n) where
  newest : reverse (steps ++ step ∷ []) ≡ step ∷ reverse steps
  newest = reverse-append steps (step ∷ [])

  pub stepped_state : (files : List MemFile) → state_from o (steps ++ step ∷ []) files ≡ stepped step (state_from m steps files)
  stepped_state files = λ i. record (state_from m steps files) { names = (synced ∙ same.synced) i; steps = newest i }

  pub stepped_names : names_in o ≡ named step (names_in n) → names_in m ≡ names_after (synced_names_in m) (reverse steps)
      → names_in o ≡ names_after (synced_names_in o) (reverse (steps ++ step ∷ []))
  stepped_names now before =
      now ∙ ap (named step) (same_names m n steps same before) ∙ ap (λ (ns : Names). named step (names_after ns (reverse steps))) (sym synced)
      ∙ ap (names_after (synced_names_in o)) (sym newest)

pub added_state : (m n o : Slots) (steps : List NameStep) (fs : List MemFile) (p : Place) (f : MemFile) → SameNames m n → synced_names_in o ≡ synced_names_in n
    → state_from o (steps ++ Create p (length fs) ∷ []) (fs ++ f ∷ []) ≡ added p (file_of f) (state_from m steps fs)
added_state m n o steps fs p f same synced =
    stepped_state m n o steps (Create p (length fs)) same synced (fs ++ f ∷ [])
    ∙ (λ i. record { names = synced_names_in m; steps = Create p (length fs) ∷ reverse steps; files = nth_pushed fs f i; made = length_push fs f i })

-- a synced file, with nothing pending
pub put_state : (m n o : Slots) (steps : List NameStep) (fs : List MemFile) (p : Place) (f : MemFile) → SameNames m n → synced_names_in o ≡ with_name p (Some (length fs)) (synced_names_in n)
    → reverse steps ≡ [] → state_from o steps (fs ++ f ∷ []) ≡ names_settled (added p (file_of f) (state_from m steps fs))
put_state m n o steps fs p f same synced none =
    let names : synced_names_in o ≡ with_name p (Some (length fs)) (names_after (synced_names_in m) (reverse steps)) =
    synced ∙ ap (with_name p (Some (length fs))) (same.synced ∙ ap (names_after (synced_names_in m)) (sym none)) in
    λ i. record { names = names i; steps = none i; files = nth_pushed fs f i; made = length_push fs f i }

pub put_names : (m n o : Slots) (steps : List NameStep) (p : Place) (k : ℕ) → SameNames m n → names_in o ≡ with_name p (Some k) (names_in n) → synced_names_in o ≡ with_name p (Some k) (synced_names_in n)
    → reverse steps ≡ [] → names_in m ≡ names_after (synced_names_in m) (reverse steps) → names_in o ≡ names_after (synced_names_in o) (reverse steps)
put_names m n o steps p k same now synced none names =
    now ∙ ap (with_name p (Some k)) (same.current ∙ names ∙ ap (names_after (synced_names_in m)) none ∙ sym same.synced) ∙ sym synced ∙ ap (names_after (synced_names_in o)) (sym none)

pub wrote_state : (slots : Slots) (steps : List NameStep) (fs : List MemFile) (i : ℕ) (f : MemFile) (w : Write) → i < length fs → file_of f ≡ add_write w (nth_file fs i)
    → state_from slots steps (set fs i f) ≡ written_to i w (state_from slots steps fs)
wrote_state slots steps fs i f w lt is =
    λ j. record (state_from slots steps fs) { files = (nth_set fs i f lt ∙ ap (λ (g : File). with_file i g (nth_file fs)) is) j; made = length-set fs i f j }

pub unwritten_state : (slots : Slots) (steps : List NameStep) (fs : List MemFile) (i : ℕ) (f : MemFile) → i < length fs → file_of f ≡ nth_file fs i
    → state_from slots steps (set fs i f) ≡ state_from slots steps fs
unwritten_state slots steps fs i f lt is =
    λ j. record (state_from slots steps fs) { files = (nth_set fs i f lt ∙ ap (λ (g : File). with_file i g (nth_file fs)) is ∙ with_file-same_there i (nth_file fs)) j; made = length-set fs i f j }

pub settled_state : (m n : Slots) (steps : List NameStep) (fs new : List MemFile) → synced_names_in n ≡ names_in m → names_in m ≡ names_after (synced_names_in m) (reverse steps)
    → length new ≡ length fs → ((k : ℕ) → nth_file new k ≡ at_rest (nth_file fs k)) → state_from n [] new ≡ settled (state_from m steps fs)
settled_state m n steps fs new synced names count all = λ i. record { names = (synced ∙ names) i; steps = []; files = λ k. all k i; made = count i }
