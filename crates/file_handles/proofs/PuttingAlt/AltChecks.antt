-- The checks of the command that puts alternative data, by what the handles have.
use Rattle.std.proofs.Common.{◌≡◌, ◌<◌, ◌≤◌, ℕ, ◌+◌, List, [], ◌∷◌, ◌++◌, codes, decimal, length, true, false, cond, not, Option, Some, None, Ok, Err, sym, ap, ◌∙◌, arith, length-append, leb-true}
use Rattle.std.specs.Prelude.{is_none, nat_le}
use Rattle.std.proofs.lemmas.Bool.{and_left, and_parts, cond-false, cond-true, le-leb, lt-leb}
use Rattle.alt_data.specs.AltData.{alt_value, is_kind}
use Rattle.cache_base.specs.Checks.{first_failing}
use Rattle.cache_base.specs.Limits.{chunks}
use Rattle.cache_base.specs.declared.limits.TheConstants.{BLOCK_MAX, BODY_MAX, ELEMENTS_MAX, SLOTS}
use Rattle.cache_base.proofs.CheckLaws.{all_hold}
use Rattle.cache_theory.proofs.AltData.{value_fine}
use Rattle.cache_theory.specs.Checks.{checks, finished, good_kind, no_alt, room_for, small_parts, with_alt_data}
use Rattle.cache_theory.specs.Command.Command.{PutAlt}
use Rattle.cache_theory.specs.Machine.{Object as MachineObject, object, object_of}
use Rattle.cache_theory.specs.declared.refusal.Refusal.{Refusal}
use Rattle.cache_theory.specs.declared.refusal.Refusal.TheVariants as refused
use Rattle.entry_metadata.specs.Metadata.{Meta as Said, block_length}
use Rattle.entry_metadata.specs.declared.meta.Meta.{Meta}
use Rattle.entry_parts.specs.Elements.{Element, element, elements_bytes}
use Rattle.entry_parts.specs.Setting.{has_zero, set_fault}
use Rattle.handle_table.specs.Held.{IsEntryOf}
use Rattle.handle_table.specs.Kept.{Kept, object_at, use_at, writing}
use Rattle.file_handles.specs.PuttingAlt.{are_small_with, put_fault, with_alt_at}
use Rattle.handle_table.specs.Refuses.{EndsIn, Refuses}
use Rattle.handle_table.specs.declared.object.Entry.{Entry}
use Rattle.handle_table.specs.declared.object.Entry.TheVariants as entry
use Rattle.handle_table.specs.declared.object.Object.{Object}
use Rattle.handle_table.specs.declared.object.Use.{Use}
use Rattle.file_handles.proofs.Setting.ElementLengths.{added_length}
use Rattle.file_handles.proofs.Finishing.Writers.{is_writing, no_writer, object_is}

-- The element's value.

pub value_length : (n : ℕ) (kind : List ℕ) → length (alt_value n kind) ≡ 3 + length (decimal n) + length kind
value_length n kind =
    let whole = length-append (codes "1;") (decimal n ++ 44 ∷ kind) in
    let tail = length-append (decimal n) (44 ∷ kind) in
    omega (arith, whole, tail)

pub told_length : (meta : Meta) (kind : List ℕ) → element (codes "alt-data") meta.elements ≡ None
    → length (elements_bytes (with_alt_at meta.offset kind meta.elements)) ≡ length (elements_bytes meta.elements) + length (decimal meta.offset) + length kind + 13
told_length meta kind none =
    let added = added_length (codes "alt-data") (alt_value meta.offset kind) meta.elements none in
    let long = value_length meta.offset kind in
    omega (arith, added, long)

pub small_elements : (meta : Meta) → length (elements_bytes meta.elements) ≤ BLOCK_MAX
small_elements meta = let small = meta.small in omega (arith, small)

-- elements with data of a long kind are not small
pub long_kind : (meta : Meta) (kind : List ℕ) (len : ℕ) → element (codes "alt-data") meta.elements ≡ None → ELEMENTS_MAX < length kind
    → are_small_with (with_alt_at meta.offset kind meta.elements) meta.key len ≡ false
long_kind meta kind len none long =
    let told = told_length meta kind none in
    and_left (nat_le (length (elements_bytes (with_alt_at meta.offset kind meta.elements))) ELEMENTS_MAX) _
    (lt-leb (length (elements_bytes (with_alt_at meta.offset kind meta.elements))) ELEMENTS_MAX (omega (arith, told, long)))

-- What the checks say.

pub record MayPutOf (meta : Meta) (kind : List ℕ) (len : ℕ) : Type 0 where
  pub none : is_none (element (codes "alt-data") meta.elements) ≡ true
  pub good : is_kind kind ≡ true
  pub limit : meta.offset + len ≤ BODY_MAX
  pub small : length (elements_bytes (with_alt_at meta.offset kind meta.elements)) ≤ ELEMENTS_MAX
  pub block : are_small_with (with_alt_at meta.offset kind meta.elements) meta.key (meta.offset + len) ≡ true

pub may_put_of : (meta : Meta) (kind : List ℕ) (len : ℕ) → put_fault (entry.Finished meta) kind len ≡ None → MayPutOf meta kind len
may_put_of meta kind len fine =
    let es : List Element = with_alt_at meta.offset kind meta.elements in
    let all = all_hold ((is_none (element (codes "alt-data") meta.elements), refused.HasAlt) ∷ (is_kind kind, refused.BadElement)
    ∷ (nat_le (meta.offset + len) BODY_MAX, refused.TooLarge) ∷ (are_small_with es meta.key (meta.offset + len), refused.TooLarge) ∷ []) fine in
    record {
      none = all.0;
      good = all.1.0;
      limit = leb-true (meta.offset + len) BODY_MAX all.1.1.0;
      small = leb-true (length (elements_bytes es)) ELEMENTS_MAX (and_parts (nat_le (length (elements_bytes es)) ELEMENTS_MAX) _ all.1.1.1.0).0;
      block = all.1.1.1.0;
    }

-- the block of the longer body is small
pub block_small : (meta : Meta) (kind : List ℕ) (len hashes : ℕ) → MayPutOf meta kind len → hashes ≡ chunks (meta.offset + len)
    → block_length hashes (length meta.key) (length (elements_bytes (with_alt_at meta.offset kind meta.elements))) ≤ BLOCK_MAX
block_small meta kind len hashes may count =
    let es : List Element = with_alt_at meta.offset kind meta.elements in
    let small = leb-true (block_length (chunks (meta.offset + len)) (length meta.key) (length (elements_bytes es))) BLOCK_MAX (and_parts (nat_le (length (elements_bytes es)) ELEMENTS_MAX) _ may.block).1 in
    omega (arith, small, count)

-- the element may be set
pub told_settable : (meta : Meta) (kind : List ℕ) (len : ℕ) → MayPutOf meta kind len → (value : List ℕ) → value ≡ alt_value meta.offset kind → set_fault (codes "alt-data") value meta.elements ≡ None
told_settable meta kind len may value same =
    let es : List Element = with_alt_at meta.offset kind meta.elements in
    let limit = may.limit in
    ap (λ (v : List ℕ). set_fault (codes "alt-data") v meta.elements) same
    ∙ cond-true (not (has_zero (alt_value meta.offset kind))) _ _ (value_fine meta.offset kind (omega (arith, limit)) may.good)
    ∙ cond-true (nat_le (length (elements_bytes es)) ELEMENTS_MAX) _ _ (le-leb (length (elements_bytes es)) ELEMENTS_MAX may.small)

-- The checks of the machine.

module _ (kind bytes : List ℕ) where
  by_parts : List Element → List ℕ → ℕ → ℕ → Option Refusal
  by_parts es key offset longer = first_failing (
      (is_none (element (codes "alt-data") es), refused.HasAlt) ∷ (is_kind kind, refused.BadElement) ∷ (nat_le (offset + length bytes) BODY_MAX, refused.TooLarge)
      ∷ (are_small_with (with_alt_at offset kind es) key longer, refused.TooLarge) ∷ [])

  abbrev ends_of : MachineObject → Option Refusal
  ends_of o = cond o.finished (by_parts o.version.elements o.version.key (length o.version.body) (length (o.version.body ++ bytes))) (Some refused.Unfinished)

  ends_is : (e : Entry) (o : MachineObject) → IsEntryOf e o → ends_of o ≡ put_fault e kind (length bytes)
  unfolding by_parts
  ends_is (entry.Draft d) o is = cond-false o.finished _ (Some refused.Unfinished) is.0
  ends_is (entry.Finished meta) o is =
      let said = is.1 in
      let offset : length o.version.body ≡ meta.offset = sym (ap (λ (m : Said). m.offset) said) in
      let longer : length (o.version.body ++ bytes) ≡ meta.offset + length bytes = length-append o.version.body bytes ∙ ap (λ n. n + length bytes) offset in
      cond-true o.finished _ (Some refused.Unfinished) is.0
      ∙ (λ i. by_parts (sym said i).elements (sym said i).key (offset i) (longer i))

  module _ (k : Kept) (s : ℕ) (small : s < SLOTS) where
    pub put_no_writer : (r : Refusal) → writing (use_at k s) ≡ Err r → Refuses k (PutAlt s kind bytes) r
    unfolding checks
    put_no_writer r is m number proper stand =
        no_writer k s small r is m number stand
        (finished m s ∷ no_alt m s ∷ good_kind kind ∷ room_for m s (length bytes) ∷ small_parts (with_alt_data kind bytes (object_of m s).version) ∷ [])

    pub put_ends : (u : Use) (x : Object) → writing (use_at k s) ≡ Ok u → object_at k u.place ≡ Some x → EndsIn k (PutAlt s kind bytes) (put_fault x.entry kind (length bytes))
    unfolding checks by_parts
    put_ends u x is found m number proper stand =
        is_writing k s small u x is found m number stand
        (finished m s ∷ no_alt m s ∷ good_kind kind ∷ room_for m s (length bytes) ∷ small_parts (with_alt_data kind bytes (object_of m s).version) ∷ [])
        ∙ ap ends_of (object_is k s small u x is found m number stand)
        ∙ ends_is x.entry (object m (number u.place)) (stand.objects u.place x found).as_held.held_entry
