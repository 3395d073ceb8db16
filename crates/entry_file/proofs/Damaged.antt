-- The first damage of a body whose chunks are checked in order.
use Rattle.std.proofs.Common.{◌≡◌, ◌≤◌, ◌<◌, ◌+◌, ◌-◌, ◌==◌, ℕ, suc, List, take, Option, Some, None, true, false, cond, refl, sym, ap, subst, ◌∙◌, arith}
use Rattle.std.specs.Prelude.{filter_map, slice_index, IfSome}
use Rattle.std.specs.List.{cons_option, range_with_len}
use Rattle.cache_base.specs.Limits.{chunks}
use Rattle.chunk_store.specs.Chunks.{chunk, damage_at, damages}
use Rattle.chunk_store.specs.declared.damage.Damage.{Damage}
use Rattle.entry_file.specs.Damages.{HasMeta, first, first_damage}
use Rattle.disk_theory.specs.State.{State, standing}
use Rattle.disk_theory.specs.declared.place.Place.{Place}
use Rattle.entry_file.specs.Held.{IsLastOf}
use Rattle.entry_metadata.specs.Metadata.{Meta}
use Rattle.jenkins_hash.specs.Hash.{hash16_of}

-- the first of the damages of the chunks from i on, of n
abbrev pub first_from : (ℕ → Option Damage) → ℕ → ℕ → Option Damage
first_from f i n = first (filter_map f (range_with_len i (n - i)))

-- the first chunk's, if it has one, or that of those after it
first_step : (f : ℕ → Option Damage) (i left : ℕ) → first (filter_map f (range_with_len i (suc left))) ≡ first (cons_option (f i) (filter_map f (range_with_len (i + 1) left)))
first_step f i left = refl

module _ (f : ℕ → Option Damage) (i n : ℕ) (lt : i < n) where
  step : first_from f i n ≡ first (cons_option (f i) (filter_map f (range_with_len (i + 1) (n - (i + 1)))))
  step = let one : n - i ≡ suc (n - (i + 1)) = omega (arith, lt) in ap (λ left. first (filter_map f (range_with_len i left))) one ∙ first_step f i (n - (i + 1))

  pub from_next : None ≡ f i → first_from f i n ≡ first_from f (i + 1) n
  from_next none = step ∙ ap (λ o. first (cons_option o (filter_map f (range_with_len (i + 1) (n - (i + 1)))))) (sym none)

  pub from_here : (d : Damage) → Some d ≡ f i → first_from f i n ≡ Some d
  from_here d some = step ∙ ap (λ o. first (cons_option o (filter_map f (range_with_len (i + 1) (n - (i + 1)))))) (sym some)

pub from_end : (f : ℕ → Option Damage) (i n : ℕ) → n ≤ i → first_from f i n ≡ None
from_end f i n le = let none : n - i ≡ 0 = omega (arith, le) in ap (λ left. first (filter_map f (range_with_len i left))) none

-- The damages are looked for from the first chunk on.
pub from_first : (m : Meta) (c : List ℕ) → first_damage m c ≡ first_from (damage_at m.hashes (take m.offset c)) 0 (chunks m.offset)
unfolding damages
from_first m c =
    let n = chunks m.offset in
    let all : n ≡ n - 0 = omega arith in
    ap (λ k. first (filter_map (damage_at m.hashes (take m.offset c)) (range_with_len 0 k))) all

-- the chunk that a damage names, or else this one
abbrev named_chunk : ℕ → Option Damage → ℕ
named_chunk i None = i
named_chunk i (Some damage) = damage.chunk

named_at : (hashes body : List ℕ) (i : ℕ) → named_chunk i (damage_at hashes body i) ≡ i
named_at hashes body i =
    elim (hash16_of (chunk body i) == slice_index hashes i) as (λ b. named_chunk i (cond b None (Some (record { chunk = i; stored = slice_index hashes i; found = hash16_of (chunk body i) }))) ≡ i) [ true ↦ refl | false ↦ refl ]

-- what the check of a chunk gave, as the file stood before
pub found_here : (s t : State) (place : Place) (m : Meta) (i : ℕ) (found : Option Damage) (damage : Damage) → t ≡ s → found ≡ Some damage
    → IfSome (standing t place) (λ c. found ≡ damage_at m.hashes (take m.offset c) i) → IfSome (standing s place) (λ c. Some damage ≡ damage_at m.hashes (take m.offset c) i)
found_here s t place m i found damage same is checked =
    subst (λ (o : Option Damage). IfSome (standing s place) (λ c. o ≡ damage_at m.hashes (take m.offset c) i)) is
    (subst (λ (u : State). IfSome (standing u place) (λ c. found ≡ damage_at m.hashes (take m.offset c) i)) same checked)

-- the damage of a chunk of a file that stands names that chunk
pub names_own : (file : Option (List ℕ)) (m : Meta) (damage : Damage) (i : ℕ) → HasMeta file m → IfSome file (λ c. Some damage ≡ damage_at m.hashes (take m.offset c) i) → damage.chunk ≡ i
names_own None m damage i has is = absurd has
names_own (Some c) m damage i has is = ap (named_chunk i) is ∙ named_at m.hashes (take m.offset c) i

-- what is known of a content, if there is one, and follows from what is known
pub of_content : (o : Option (List ℕ)) (P Q R : List ℕ → Type 0) → ((c : List ℕ) → P c → Q c → R c) → IfSome o P → IfSome o Q → IfSome o R
of_content None P Q R f p q = tt
of_content (Some c) P Q R f p q = f c p q

pub each_content : (o : Option (List ℕ)) (P : List ℕ → Type 0) → ((c : List ℕ) → P c) → IfSome o P
each_content None P f = tt
each_content (Some c) P f = f c

-- a chunk that is held of a file is held of it while the state is the same
pub held_along : {s t : State} (bytes : List ℕ) (n : ℕ) (place : Place) (offset : ℕ) → s ≡ t → IsLastOf n (standing s place) offset bytes → IsLastOf n (standing t place) offset bytes
held_along bytes n place offset same held = subst (λ (s : State). IsLastOf n (standing s place) offset bytes) same held
