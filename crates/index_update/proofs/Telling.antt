-- What the records tell of the entries as names leave the rest.
use Rattle.std.proofs.Common.{◌≡◌, ◌⊎◌, ◌<◌, ℕ, Bool, true, false, Contains, List, [], drop, length, get_or, take, inl, inr, refl, sym, ap, subst, ◌∙◌, arith}
use Rattle.std.specs.Bool.{Decides}
use Rattle.std.specs.Set.{is_member}
use Rattle.std.proofs.lemmas.List.{get_or-map, length-map, take-append-drop}
use Rattle.std.proofs.lemmas.List.Elements.{Contains-append_cases, Contains-append_left}
use Rattle.std.proofs.lemmas.Map.Made.{is_member-Decides}
use Rattle.cache_base.specs.declared.name.Name.{Name}
use Rattle.index_map.specs.Known.{Known, SameBase}
use Rattle.index_record.specs.declared.record.IndexRecord.{IndexRecord}
use Rattle.index_theory.specs.Scan.{scanned}
use Rattle.record_list.specs.Lists.{record_at, same_name}
use Rattle.record_list.proofs.NameLaws.{same_is, same_itself}
use Rattle.index_theory.specs.Ever.{Entries}
use Rattle.index_update.specs.Reads.{Reads, ReadsIn, ReadsSome}
use Rattle.index_update.specs.Rest.{name_bytes}
use Rattle.index_update.specs.Tells.{TellsAll, TellsSeen}

-- a name is in the list where its bytes are in the list of bytes
pub as_bytes : (names : List Name) (name : Name) → Contains names name → Contains (name_bytes names) name.0
as_bytes names name (k, low, is) =
    let long : length (name_bytes names) ≡ length names = length-map names (λ n. n.0) in
    (k, omega arith, get_or-map (λ n. n.0) names k name name.0 low ∙ ap (λ (n : Name). n.0) is)

pub from_bytes : (names : List Name) (name : Name) → Contains (name_bytes names) name.0 → Contains names name
from_bytes names name (k, low, is) =
    let long : length (name_bytes names) ≡ length names = length-map names (λ n. n.0) in
    let within : k < length names = omega arith in
    let same : (get_or names k name).0 ≡ name.0 = sym (get_or-map (λ n. n.0) names k name name.0 within) ∙ is in
    (k, within, λ i. record { 0 = same i })

same_decides : (a b : Name) → Decides (same_name a b) (a ≡ b)
same_decides a b = (same_is a b, λ e. ap (same_name a) (sym e) ∙ same_itself a)

-- a name is in the list or it is not
pub in_or_out : (names : List Name) (name : Name) → Contains names name ⊎ (Contains names name → ⊥)
in_or_out names name = go (is_member same_name names name) refl
  where
    go : (b : Bool) → is_member same_name names name ≡ b → Contains names name ⊎ (Contains names name → ⊥)
    go true e = inl ((is_member-Decides same_decides names name).0 e)
    go false e = inr (λ has. let found : is_member same_name names name ≡ true = (is_member-Decides same_decides names name).1 has in cc)

-- some names of the rest were read, and stay in it
pub tells_some : (es : Entries) (rest names : List Name) (old new : List IndexRecord) → ((name : Name) → Contains names name → Contains rest name) → ReadsIn es names old new
    → ((name : Name) → (Contains (name_bytes rest) name.0 → ⊥) → record_at old name ≡ scanned es name)
    → (name : Name) → (Contains (name_bytes rest) name.0 → ⊥) → record_at new name ≡ scanned es name
tells_some es rest names old new sub read tells name out = read.others name (λ has. out (as_bytes rest name (sub name has))) ∙ tells name out

-- the first n names of the rest were read, and leave it
pub tells_dropped : (es : Entries) (n : ℕ) (rest : List Name) (old new : List IndexRecord) → ReadsIn es (take n rest) old new
    → ((name : Name) → (Contains (name_bytes rest) name.0 → ⊥) → record_at old name ≡ scanned es name)
    → (name : Name) → (Contains (name_bytes (drop n rest)) name.0 → ⊥) → record_at new name ≡ scanned es name
tells_dropped es n rest old new read tells name out =
    elim (in_or_out (take n rest) name) [
      | inl has ↦ read.here name has
      | inr hasnt ↦ read.others name hasnt ∙ tells name (λ has. neither hasnt (from_bytes rest name has))
    ]
  where
    neither : (Contains (take n rest) name → ⊥) → Contains rest name → ⊥
    neither hasnt has =
        elim (Contains-append_cases (take n rest) (drop n rest) name (subst (λ ns. Contains ns name) (sym (take-append-drop n rest)) has)) [
          | inl first ↦ hasnt first
          | inr behind ↦ out (as_bytes (drop n rest) name behind)
        ]

-- the first k of the first n are among all
pub first_within : (k n : ℕ) (rest : List Name) (name : Name) → Contains (take k (take n rest)) name → Contains rest name
first_within k n rest name has =
    let some : Contains (take n rest) name = subst (λ ns. Contains ns name) (take-append-drop k (take n rest)) (Contains-append_left (take k (take n rest)) (drop k (take n rest)) name has) in
    subst (λ ns. Contains ns name) (take-append-drop n rest) (Contains-append_left (take n rest) (drop n rest) name some)

-- a slice that failed leaves the rest, and what was seen tells on
pub tells_failed : (es : Entries) (n : ℕ) (rest first : List Name) (k l : Known) → first ≡ take n rest → ReadsSome es first k l → TellsSeen es k (name_bytes rest) → TellsSeen es l (name_bytes rest)
tells_failed es n rest first k l same (j, read) tells =
    tells_some es rest (take j first) k.seen l.seen (λ name has. first_within j n rest name (subst (λ ns. Contains (take j ns) name) same has)) read.seen tells

-- and so it does after a slice
pub tells_taken : (es : Entries) (n : ℕ) (rest first left : List Name) (k l m : Known) → first ≡ take n rest → left ≡ drop n rest → Reads es first k l → m.seen ≡ l.seen
    → TellsSeen es k (name_bytes rest) → TellsSeen es m (name_bytes left)
tells_taken es n rest first left k l m same behind read seen tells name out =
    ap (λ rs. record_at rs name) seen
    ∙ tells_dropped es n rest k.seen l.seen (subst (λ ns. ReadsIn es ns k.seen l.seen) same read.seen) tells name (λ has. out (subst (λ ns. Contains (name_bytes ns) name.0) (sym behind) has))

-- with an empty rest and no other records, all is told
pub told_all : (es : Entries) (left : List Name) (m : Known) → left ≡ [] → m.records ≡ m.seen → TellsSeen es m (name_bytes left) → TellsAll es m
told_all es left m none same tells name =
    ap (λ rs. record_at rs name) same ∙ tells name (λ has. nothing (subst (λ ns. Contains (name_bytes ns) name.0) none has))
  where
    nothing : Contains [] name.0 → ⊥
    nothing has = omega (arith, has.1)

pub base_through : (k l m : Known) → SameBase k l → m.base ≡ l.base → m.has_base ≡ l.has_base → SameBase k m
base_through k l m kept base has = record {
  records = λ name. ap (λ rs. record_at rs name) base ∙ kept.records name;
  has_base = has ∙ kept.has_base;
}
