-- How many syncs commands make at the most.
use Rattle.std.proofs.Common.{◌≡◌, ◌≤◌, ◌+◌, ◌++◌, ℕ, zero, suc, Bool, true, false, List, [], ◌∷◌, length, take, None, Some, Option, arith, refl}
use Rattle.std.specs.Prelude.{IsTrue, if◌then◌else◌, ◌↔◌}
use Rattle.cache_store.specs.Syncs.{all_syncs, most_syncs, syncs_of, syncs_of_closing}
use Rattle.cache_base.specs.declared.name.Name.{Name}
use Rattle.cache_theory.specs.Command.{Command}
use Rattle.cache_theory.specs.Command.Command.{ClearOrigin, Close, Finish, FinishAs, Flush, Rebuild, Resume}
use Rattle.disk_theory.specs.Account.{Accounts, Ending}
use Rattle.disk_theory.specs.declared.disk.Disk.{Ghosts}
use Rattle.file_handles.specs.Closing.{writes_draft}
use Rattle.file_handles.specs.Finishing.{finish_syncs}
use Rattle.handle_table.specs.Kept.{Kept, object_in}
use Rattle.handle_table.specs.declared.object.Object.{Object}
use Rattle.startup_read.specs.Closing.{closing_syncs}

-- a bound is one where another is that is no larger
pub accounts_within : {Self : _} (D : Ghosts Self) (e : Ending) (n m : ℕ) (a b : Self) → n ≤ m → Accounts D e n a b → Accounts D e m a b
accounts_within D e n m a b few account = record {
  cause = account.cause;
  went_on = account.went_on;
  stops = account.stops;
  last = account.last;
  syncs = λ told. let made = account.syncs told in omega (arith, few, made);
}

at_most_one : (b : Bool) → (if b then 0 else 1) ≤ 1
at_most_one true = omega arith
at_most_one false = omega arith

finishing : (o : Option Object) → finish_syncs o ≤ 1
finishing None = omega arith
finishing (Some x) = at_most_one x.doomed

closing : (b : Bool) (n : ℕ) → n ≤ 1 → (if b then n else 0) ≤ 1
closing true n few = few
closing false n few = omega arith

-- the most are enough for what any handles keep
pub of_most : (k : Kept) (c : Command) → syncs_of k c ≤ most_syncs c
of_most k (Finish s) = finishing (object_in k s)
of_most k (FinishAs s header elements) = finishing (object_in k s)
of_most k (Close s) = closing (writes_draft k s) (finish_syncs (object_in k s)) (finishing (object_in k s))
of_most k (ClearOrigin origin) = omega arith
of_most k Resume = omega arith
of_most k Flush = omega arith
of_most k Rebuild = omega arith
of_most k c = omega arith

-- and so are those of a closing that writes the index, its journal and its flag
pub closing_most : (names : List Name) → syncs_of_closing names ≤ closing_syncs true
closing_most [] = omega arith
closing_most (name ∷ names) = omega arith

pub all_append : (xs ys : List Command) → all_syncs (xs ++ ys) ≡ all_syncs xs + all_syncs ys
all_append [] ys = omega arith
all_append (x ∷ xs) ys = let rest = all_append xs ys in omega (arith, rest)

-- those of the first commands are among those of more of them
pub all_front : (read rest : List Command) (n : ℕ) → length read ≤ n → all_syncs read ≤ all_syncs (take n (read ++ rest))
all_front [] rest n long = omega arith
all_front (c ∷ read) rest zero long = absurd (omega (arith, long))
all_front (c ∷ read) rest (suc n) long = let more = all_front read rest n (omega (arith, long)) in omega (arith, more)

-- whether any name is left
pub closing_of : (b : Bool) (names : List Name) → IsTrue b ↔ (names ≡ []) → closing_syncs b ≡ syncs_of_closing names
closing_of true [] ended = refl
closing_of true (name ∷ names) ended = absurd (let none = ended.0 refl in cc)
closing_of false [] ended = absurd (let both = ended.1 refl in cc)
closing_of false (name ∷ names) ended = refl
