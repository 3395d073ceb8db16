-- One more entry is read.
use Rattle.std.proofs.Common.{◌≡◌, ◌+◌, ◌*◌, ◌<◌, ℕ, Bool, true, false, cond, Contains, List, [], ◌∷◌, ◌++◌, length, get_or, take, inl, inr, refl, sym, ap, subst, ◌∙◌, arith}
use Rattle.std.proofs.lemmas.List.{take_more}
use Rattle.std.proofs.lemmas.List.Elements.{Contains-append_left, Contains-push, Contains-push_cases}
use Rattle.cache_base.specs.declared.name.Name.{Name}
use Rattle.disk_theory.specs.Calls.{Counts}
use Rattle.disk_theory.specs.State.{State, standing}
use Rattle.entry_file.specs.Looks.{LooksAtMost}
use Rattle.index_map.specs.Known.{Known, SameBase, Sets}
use Rattle.index_record.specs.declared.record.IndexRecord.{IndexRecord}
use Rattle.index_theory.specs.Ever.{entries}
use Rattle.index_theory.specs.Scan.{scanned}
use Rattle.record_list.specs.Lists.{record_at, same_name}
use Rattle.record_list.proofs.NameLaws.{same_is, same_itself}
use Rattle.index_theory.specs.Ever.{Entries}
use Rattle.index_update.specs.Reads.{Reads, ReadsIn}

none_in : (name : Name) → Contains [] name → ⊥
none_in name has = omega (arith, has.1)

-- nothing is read yet
pub reads_none : (es : Entries) (names : List Name) (m : Known) → Reads es (take 0 names) m m
reads_none es names m = record {
  records = record { here = λ name has. absurd (none_in name has); others = λ name hasnt. refl };
  seen = record { here = λ name has. absurd (none_in name has); others = λ name hasnt. refl };
}

module _ (es : Entries) (names : List Name) (n : Name) (xs ys zs : List IndexRecord)
    (read : ReadsIn es names xs ys) (put : (q : Name) → record_at zs q ≡ cond (same_name n q) (scanned es n) (record_at ys q)) where
  at_once : (q : Name) → n ≡ q → record_at zs q ≡ scanned es q
  at_once q is =
      let test : same_name n q ≡ true = ap (λ m. same_name n m) (sym is) ∙ same_itself n in
      put q ∙ ap (λ b. cond b (scanned es n) (record_at ys q)) test ∙ ap (scanned es) is

  apart_from : (q : Name) → (n ≡ q → ⊥) → record_at zs q ≡ record_at ys q
  apart_from q apart = put q ∙ ap (λ b. cond b (scanned es n) (record_at ys q)) (go (same_name n q) refl)
    where
      go : (b : Bool) → same_name n q ≡ b → b ≡ false
      go false e = refl
      go true e = absurd (apart (same_is n q e))

  here_more : (q : Name) → (b : Bool) → same_name n q ≡ b → Contains (names ++ n ∷ []) q → record_at zs q ≡ scanned es q
  here_more q true e has = at_once q (same_is n q e)
  here_more q false e has =
      elim (Contains-push_cases names n q has) [
        | inl before ↦ put q ∙ ap (λ b. cond b (scanned es n) (record_at ys q)) e ∙ read.here q before
        | inr is ↦ at_once q is
      ]

  reads_in_more : ReadsIn es (names ++ n ∷ []) xs zs
  reads_in_more = record {
    here = λ q has. here_more q (same_name n q) refl has;
    others = λ q hasnt.
        apart_from q (λ is. hasnt (subst (Contains (names ++ n ∷ [])) is (Contains-push names n)))
        ∙ read.others q (λ has. hasnt (Contains-append_left names (n ∷ []) q has));
  }

pub reads_more : (es : Entries) (names : List Name) (i : ℕ) (d : Name) (old mid new : Known) → i < length names → Reads es (take i names) old mid
    → Sets mid new (get_or names i d) (scanned es (get_or names i d)) → Reads es (take (i + 1) names) old new
reads_more es names i d old mid new low read sets =
    let n : Name = get_or names i d in
    subst (λ ns. Reads es ns old new) (sym (take_more names i d low)) (record {
      records = reads_in_more es (take i names) n old.records mid.records new.records read.records sets.records;
      seen = reads_in_more es (take i names) n old.seen mid.seen new.seen read.seen sets.seen;
    })

pub base_kept : (k : Known) → SameBase k k
base_kept k = record { records = λ name. refl; has_base = refl }

pub base_then : (k l m : Known) → SameBase k l → SameBase l m → SameBase k m
base_then k l m one two = record { records = λ name. two.records name ∙ one.records name; has_base = two.has_base ∙ one.has_base }

pub looks_none : (c : Counts) → LooksAtMost (4 * 0) c c
looks_none c = record { calls = omega arith; entry_reads = omega arith; no_change = refl; unsynced = refl }

pub looks_more : (i : ℕ) (before mid now : Counts) → LooksAtMost (4 * i) before mid → LooksAtMost 4 mid now → LooksAtMost (4 * (i + 1)) before now
looks_more i before mid now one more = record {
  calls = let a = one.calls in let b = more.calls in omega (arith, a, b);
  entry_reads = let a = one.entry_reads in let b = more.entry_reads in omega (arith, a, b);
  no_change = more.no_change ∙ one.no_change;
  unsynced = more.unsynced ∙ one.unsynced;
}

-- at a call that fails there were at most so many as for all names
pub looks_all : (i n : ℕ) (before mid now : Counts) → i < n → LooksAtMost (4 * i) before mid → LooksAtMost 4 mid now → LooksAtMost (4 * n) before now
looks_all i n before mid now low one more = record {
  calls = let a = one.calls in let b = more.calls in omega (arith, a, b, low);
  entry_reads = let a = one.entry_reads in let b = more.entry_reads in omega (arith, a, b, low);
  no_change = more.no_change ∙ one.no_change;
  unsynced = more.unsynced ∙ one.unsynced;
}

-- the same over a disk that is read meanwhile
pub reads_turn : (s t : State) (names : List Name) (i : ℕ) (d : Name) (old mid new : Known) → i < length names → t ≡ s → Reads (entries (standing s)) (take i names) old mid
    → Sets mid new (get_or names i d) (scanned (entries (standing t)) (get_or names i d)) → Reads (entries (standing s)) (take (i + 1) names) old new
reads_turn s t names i d old mid new low same read sets =
    reads_more (entries (standing s)) names i d old mid new low read
    (subst (λ u. Sets mid new (get_or names i d) (scanned (entries (standing u)) (get_or names i d))) same sets)
