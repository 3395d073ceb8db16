-- The records tell what stands outside the rest.
use Rattle.std.proofs.Common.{◌≡◌, ◌≢◌, ℕ, zero, suc, Bool, true, false, cond, not, ◌||◌, Contains, List, [], ◌∷◌, Option, None, Some, refl, sym, ap, ◌∙◌, arith}
use Rattle.std.specs.List.{filter}
use Rattle.std.specs.Prelude.{IsSome, bytes_eq, option_and_then}
use Rattle.std.proofs.lemmas.List.{drop-map}
use Rattle.cache_base.specs.declared.name.Name.{Name}
use Rattle.disk_theory.specs.State.{standing}
use Rattle.disk_theory.specs.declared.place.Place.TheVariants.{Entry}
use Rattle.index_map.specs.Known.{Known, Sets}
use Rattle.index_record.specs.declared.record.IndexRecord.{IndexRecord}
use Rattle.index_theory.specs.Scan.{record_of, scanned}
use Rattle.record_list.specs.Lists.{record_at, same_name}
use Rattle.record_list.proofs.NameLaws.{equal_same, same_is, same_itself}
use Rattle.record_list.proofs.SortedLaws.{by_name_keeps}
use Rattle.index_theory.specs.Ever.{Entries}
use Rattle.index_update.specs.Rest.{BytesDrop, BytesEnd, BytesWait, BytesWithout, name_bytes, without}
use Rattle.index_update.specs.Tells.{BeginTells, EndTells, SameBut, SeenTells, SetTellsAll, TellsAll, TellsSeen, ToldIsScan}
use Rattle.index_update.proofs.Telling.{as_bytes, from_bytes}

none_from : (o : Option (List ℕ)) → (IsSome o → ⊥) → o ≡ None
none_from None h = refl
none_from (Some c) h = absurd (h refl)

pub begin_tells : BeginTells
begin_tells s k rest all none name out =
    let gone : standing s (Entry name) ≡ None = none_from (standing s (Entry name)) (λ stands. out (as_bytes rest name ((all name).1 stands))) in
    none name ∙ sym (ap (option_and_then (record_of name)) gone)

push : (n q : Name) (names : List Name) → Contains names q → Contains (n ∷ names) q
push n q names (k, low, is) = (suc k, omega (arith, low), is)

kept_first : (test : Name → Bool) (n : Name) (names kept : List Name) (q : Name) → test q ≡ true → (Contains names q → Contains kept q) → (b : Bool) → test n ≡ b
    → Contains (n ∷ names) q → Contains (cond b (n ∷ kept) kept) q
kept_first test n names kept q passes more true e (zero, low, is) = (zero, omega arith, is)
kept_first test n names kept q passes more true e (suc k, low, is) = push n q kept (more (k, omega (arith, low), is))
kept_first test n names kept q passes more false e (zero, low, is) = let both : test n ≡ true = ap test is ∙ passes in absurd (cc)
kept_first test n names kept q passes more false e (suc k, low, is) = more (k, omega (arith, low), is)

-- a name that passes stays
kept_in : (test : Name → Bool) (names : List Name) (q : Name) → test q ≡ true → Contains names q → Contains (filter test names) q
kept_in test [] q passes has = absurd (omega (arith, has.1))
kept_in test (n ∷ names) q passes has = kept_first test n names (filter test names) q passes (kept_in test names q passes) (test n) refl has

apart_test : (q name : Name) → q ≢ name → not (same_name q name) ≡ true
apart_test q name apart = go (same_name q name) refl
  where
    go : (b : Bool) → same_name q name ≡ b → not b ≡ true
    go false e = refl
    go true e = absurd (apart (same_is q name e))

module _ (before now : Entries) (k l : Known) (name : Name) (r : Option IndexRecord) (rest : List Name) (sets : Sets k l name r) (is : r ≡ scanned now name)
    (others : (q : Name) → q ≢ name → now q.0 ≡ before q.0) (tells : TellsSeen before k (name_bytes rest)) where
  tell_one : (q : Name) → (Contains (name_bytes (without name rest)) q.0 → ⊥) → (b : Bool) → same_name name q ≡ b → record_at l.seen q ≡ scanned now q
  tell_one q out true e =
      sets.seen q ∙ ap (λ b. cond b r (record_at k.seen q)) e ∙ is ∙ ap (scanned now) (same_is name q e)
  tell_one q out false e =
      let apart : q ≢ name = λ same. (let own : same_name name q ≡ true = ap (same_name name) same ∙ same_itself name in absurd (cc)) in
      sets.seen q ∙ ap (λ b. cond b r (record_at k.seen q)) e
      ∙ tells q (λ has. out (as_bytes (without name rest) q (kept_in (λ n. not (same_name n name)) rest q (apart_test q name apart) (from_bytes rest q has))))
      ∙ ap (option_and_then (record_of q)) (sym (others q apart))

pub seen_tells : SeenTells
seen_tells before now k l name r rest sets is others tells q out = tell_one before now k l name r rest sets is others tells q out (same_name name q) refl

pub end_tells : EndTells
end_tells es k tells name = tells name (λ has. omega (arith, has.1))

-- the record of one name by the test of names
set_one : (before now : Entries) (k l : Known) (name : Name) (r : Option IndexRecord) → Sets k l name r → r ≡ scanned now name
    → SameBut name before now → TellsAll before k → (q : Name) (b : Bool) → same_name name q ≡ b → record_at l.records q ≡ scanned now q
set_one before now k l name r sets is others told q true e =
    sets.records q ∙ ap (λ b. cond b r (record_at k.records q)) e ∙ is ∙ ap (scanned now) (same_is name q e)
set_one before now k l name r sets is others told q false e =
    let apart : q ≢ name = λ same. (let own : same_name name q ≡ true = ap (same_name name) same ∙ same_itself name in absurd (cc)) in
    sets.records q ∙ ap (λ b. cond b r (record_at k.records q)) e ∙ told q ∙ ap (option_and_then (record_of q)) (sym (others q apart))

pub set_tells_all : SetTellsAll
set_tells_all before now k l name r sets is others told q = set_one before now k l name r sets is others told q (same_name name q) refl

pub told_is_scan : ToldIsScan
told_is_scan es k sorted tells names by = record {
  rising = by.rising;
  same = λ name. by_name_keeps k.records sorted names by name ∙ tells name;
}

pub bytes_wait : BytesWait
bytes_wait name [] = refl
bytes_wait name (n ∷ rest) = λ i. sym (equal_same name n) i || bytes_wait name rest i

first_bytes : (b : Bool) (n : Name) (kept : List Name) (bytes : List (List ℕ)) → name_bytes kept ≡ bytes → name_bytes (cond b (n ∷ kept) kept) ≡ cond b (n.0 ∷ bytes) bytes
first_bytes true n kept bytes same = ap (λ ns. n.0 ∷ ns) same
first_bytes false n kept bytes same = same

pub bytes_without : BytesWithout
bytes_without name [] = refl
bytes_without name (n ∷ rest) = first_bytes (not (bytes_eq n.0 name.0)) n (without name rest) (filter (λ m. not (bytes_eq m name.0)) (name_bytes rest)) (bytes_without name rest)

pub bytes_drop : BytesDrop
bytes_drop n rest = sym (drop-map (λ (name : Name). name.0) n rest)

pub bytes_end : BytesEnd
bytes_end [] = (λ e. refl, λ e. refl)
bytes_end (n ∷ rest) = (λ e. absurd (cc), λ e. absurd (cc))
