-- What a sync takes off, key by key.
use Rattle.std.proofs.Common.{rules, IsTrue, Bool, ◌≡◌, sym, ap, subst, ◌∙◌, [], ◌∷◌, ◌++◌, Option, Some, None}
use Rattle.std.specs.Option.{IfSome, IsSome}
use Rattle.std.specs.List.{All, slice_get}
use Rattle.std.specs.BTreeSet.{BTreeSet, btree_set_len}
use Rattle.std.proofs.lemmas.List.{append-nil, append_assoc, nil_from_length}
use Rattle.std.proofs.lemmas.List.Elements.{All-append, All-cons, All-nil}
use Rattle.machine_files.specs.Taken.{TakesOff}

module _ {K : Type 0} (P : K → Type 0) where
  pub takes_none : (keys : BTreeSet K) → TakesOff P keys keys
  takes_none keys = record { taken = []; first = search rules; each = All-nil P }

  -- one key more
  pub takes_one : (before mid now : BTreeSet K) (first popped : K) → TakesOff P before mid → slice_get mid.keys 0 ≡ Some first → P first → mid.keys ≡ popped ∷ now.keys → TakesOff P before now
  takes_one before mid now first popped t at holds removal =
      let same : Some popped ≡ Some first = ap (λ keys. slice_get keys 0) (sym removal) ∙ at in
      let is : popped ≡ first = cc same in
      record {
        taken = t.taken ++ (popped ∷ []);
        first = t.first ∙ ap (λ keys. t.taken ++ keys) removal ∙ sym (append_assoc t.taken (popped ∷ []) now.keys);
        each = All-append P t.taken (popped ∷ []) t.each (All-cons P popped [] (subst P (sym is) holds) (All-nil P));
      }

  -- the first key, where the set has one
  pub takes_first : (before mid now : BTreeSet K) (first : K) (r : Option K) → TakesOff P before mid → slice_get mid.keys 0 ≡ Some first → P first → IsSome r → IfSome r (λ k. mid.keys ≡ k ∷ now.keys) → TakesOff P before now
  takes_first before mid now first (Some popped) t at holds there removal = takes_one before mid now first popped t at holds removal
  takes_first before mid now first None t at holds there removal = absurd (search rules)

  -- all keys, where none is left
  pub takes_all : (before now : BTreeSet K) → TakesOff P before now → btree_set_len now ≡ 0 → All P before.keys
  takes_all before now t none = subst (All P) (sym (t.first ∙ ap (λ keys. t.taken ++ keys) (nil_from_length now.keys none) ∙ append-nil t.taken)) t.each

-- one key more, of which Q holds too where a flag stays
pub takes_flagged : {K : Type 0} (P Q : K → Type 0) (before mid now : BTreeSet K) (first : K) (r : Option K) (flag stays : Bool)
    → TakesOff P before mid × (IsTrue flag → TakesOff Q before mid) → (IsTrue stays → IsTrue flag × Q first)
    → slice_get mid.keys 0 ≡ Some first → P first → IsSome r → IfSome r (λ k. mid.keys ≡ k ∷ now.keys)
    → TakesOff P before now × (IsTrue stays → TakesOff Q before now)
takes_flagged P Q before mid now first r flag stays t both at holds there removal =
    (takes_first P before mid now first r t.0 at holds there removal, λ is. takes_first Q before mid now first r (t.1 (both is).0) at (both is).1 there removal)
