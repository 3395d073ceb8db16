-- The tags that were read before a place.
use Rattle.std.proofs.Common.{◌≡◌, ◌≢◌, ℕ, suc, ◌+◌, ◌<◌, ◌≤◌, List, [], ◌∷◌, ◌++◌, length, length-drop, take, drop, Bool, true, false, cond, refl, sym, ap, subst, ◌∙◌, arith, append_assoc}
use Rattle.std.specs.Prelude.{Result, Ok, Err, ◌==◌, nat_lt, slice_index, slice_range}
use Rattle.std.proofs.lemmas.List.{append-nil, drop_all, drop_more}
use Rattle.std.proofs.Math.Seq.{take-length}
use Rattle.entry_key.specs.declared.key_fault.KeyFault.{KeyFault}
use Rattle.entry_key.specs.declared.key_fault.KeyFault.TheVariants.{NoAddress, Order}
use Rattle.entry_key.specs.declared.tags.KeyTags.{KeyTags}
use Rattle.entry_key.specs.Key.{Tag, doubled, KeyReads}
use Rattle.entry_key.specs.KeyTags.{KeySays}
use Rattle.entry_key.specs.Tags.{has_tag, tag_value, tags_in, tags_of}
use Rattle.entry_key.specs.ValueEnds.{put_value, ValueEnds}
use Rattle.entry_key.specs.Walk.{Letter, Parts, behind_letter, read_from, read_key, with_tag}
use Rattle.entry_key.proofs.KeyLaws.{KeyReads-read_key}
use Rattle.entry_key.proofs.Said.{Low, low_more, Tells}
use Rattle.entry_key.proofs.Walking.{letter_reads, order_reads}

-- what was read after these tags, with them before it
abbrev pub behind : List Tag → Result Parts KeyFault → Result Parts KeyFault
behind tags (Ok p) = Ok (record p { tags = tags ++ p.tags })
behind tags (Err f) = Err f

behind_none : (r : Result Parts KeyFault) → r ≡ behind [] r
behind_none (Ok p) = refl
behind_none (Err f) = refl

-- where a letter is due, no rest of a value stands
NoValue : Result Parts KeyFault → Type 0
NoValue (Ok p) = p.value ≡ []
NoValue (Err f) = Unit {0}

letter_no_value : (l at : ℕ) (xs : List ℕ) → NoValue (read_from (Letter l) at xs)
unfolding NoValue read_from
letter_no_value l at [] = tt
letter_no_value l at (x ∷ xs) = go (x == 58) (nat_lt l x) (read_from (behind_letter x) (suc at) xs)
  where
    tag : (r : Result Parts KeyFault) → NoValue (with_tag x r)
    tag (Ok p) = refl
    tag (Err f) = tt

    go : (b c : Bool) (r : Result Parts KeyFault) → NoValue (cond b (Ok (record { value = []; tags = []; address = xs })) (cond c (with_tag x r) (Err (Order at))))
    go true c r = refl
    go false true r = tag r
    go false false r = tt

-- a tag that was read is one more of those before it
joined : (tags : List Tag) (x : ℕ) (v : List ℕ) (r : Result Parts KeyFault) → NoValue r
    → behind tags (with_tag x (put_value v r)) ≡ behind (tags ++ record { letter = x; value = v } ∷ []) r
unfolding NoValue
joined tags x v (Ok p) h = λ i. Ok (record {
  value = sym h i;
  tags = (ap (λ ys. tags ++ record { letter = x; value = ys } ∷ p.tags) (ap (λ ys. v ++ ys) h ∙ append-nil v) ∙ sym (append_assoc tags (record { letter = x; value = v } ∷ []) p.tags)) i;
  address = p.address;
})
joined tags x v (Err f) h = refl

-- before the place `at`, where a letter above `last` is due, these tags were read
pub record Seen (key : List ℕ) (last at : ℕ) (tags : List Tag) : Type 0 where
  pub low : Low last tags
  pub within : at ≤ length key
  pub reads : read_key key ≡ behind tags (read_from (Letter last) at (drop at key))

pub none_seen : (key : List ℕ) → Seen key 44 0 []
none_seen key = record { low = tt; within = omega arith; reads = behind_none _ }

-- after a letter that may stand there, what follows decides
letter_seen : (key : List ℕ) (last at : ℕ) (tags : List Tag) → Seen key last at tags → at < length key → slice_index key at ≢ 58 → last < slice_index key at
    → read_key key ≡ behind tags (with_tag (slice_index key at) (read_from (behind_letter (slice_index key at)) (at + 1) (drop (at + 1) key)))
letter_seen key last at tags s lt colon above =
    let next : suc at ≡ at + 1 = omega arith in
    s.reads
    ∙ ap (behind tags) (ap (read_from (Letter last) at) (drop_more key at 0 lt)
    ∙ letter_reads last at (slice_index key at) (drop (at + 1) key) colon above
    ∙ ap (λ k. with_tag (slice_index key at) (read_from (behind_letter (slice_index key at)) k (drop (at + 1) key))) next)

pub one_seen : (key : List ℕ) (last at end : ℕ) (tags : List Tag) → Seen key last at tags → at < length key → slice_index key at ≢ 58 → last < slice_index key at
    → (e : ValueEnds key (slice_index key at) (at + 1) end)
    → Seen key (slice_index key at) (end + 1) (tags ++ record { letter = slice_index key at; value = e.value } ∷ [])
one_seen key last at end tags s lt colon above e = record {
  low = low_more last tags (record { letter = slice_index key at; value = e.value }) s.low (omega (arith, above));
  within = let w = e.within in omega (arith, w);
  reads =
      letter_seen key last at tags s lt colon above ∙ ap (λ r. behind tags (with_tag (slice_index key at) r)) e.reads
      ∙ joined tags (slice_index key at) e.value _ (letter_no_value (slice_index key at) (end + 1) (drop (end + 1) key));
}

-- ---- faults

pub order_fault : (key : List ℕ) (last at : ℕ) (tags : List Tag) → Seen key last at tags → at < length key → slice_index key at ≢ 58 → slice_index key at ≤ last → read_key key ≡ Err (Order at)
order_fault key last at tags s lt colon le =
    s.reads ∙ ap (behind tags) (ap (read_from (Letter last) at) (drop_more key at 0 lt) ∙ order_reads last at (slice_index key at) (drop (at + 1) key) colon le)

pub value_fault : (key : List ℕ) (last at : ℕ) (tags : List Tag) (f : KeyFault) → Seen key last at tags → at < length key → slice_index key at ≢ 58 → last < slice_index key at
    → read_from (behind_letter (slice_index key at)) (at + 1) (drop (at + 1) key) ≡ Err f → read_key key ≡ Err f
value_fault key last at tags f s lt colon above e =
    letter_seen key last at tags s lt colon above ∙ ap (λ r. behind tags (with_tag (slice_index key at) r)) e

pub no_address : (key : List ℕ) (last at : ℕ) (tags : List Tag) → Seen key last at tags → length key ≤ at → read_key key ≡ Err NoAddress
unfolding read_from
no_address key last at tags s le = s.reads ∙ ap (λ ys. behind tags (read_from (Letter last) at ys)) (drop_all at key le)

-- ---- the address

all_behind : (key : List ℕ) (n : ℕ) → slice_range key n (length key) ≡ drop n key
all_behind key n = ap (λ k. take k (drop n key)) (sym (length-drop n key)) ∙ take-length (drop n key)

pub says : (key : List ℕ) (last at : ℕ) (tags : List Tag) (t : KeyTags) → Seen key last at tags → Tells t.anonymous t.origin.now t.extra.now tags
    → at < length key → slice_index key at ≡ 58 → t.address.now ≡ slice_range key (at + 1) (length key) → KeySays key t
unfolding read_from
says key last at tags t s told lt colon address =
    let found : read_key key ≡ Ok (record { value = []; tags = tags; address = drop (at + 1) key }) =
    s.reads ∙ ap (λ ys. behind tags (read_from (Letter last) at ys)) (drop_more key at 0 lt ∙ (λ i. colon i ∷ drop (at + 1) key))
    ∙ ap (λ ts. Ok (record { value = []; tags = ts; address = drop (at + 1) key })) (append-nil tags) in
    let same = ap tags_in (sym found) in
    record {
      reads = subst (λ ys. KeyReads key (tags_of key) ys) (sym (address ∙ all_behind key (at + 1)))
          (subst (λ ts. KeyReads key ts (drop (at + 1) key)) same (KeyReads-read_key key _ found));
      anonymous = told.anonymous ∙ ap (has_tag 97) same;
      origin = told.origin ∙ ap (λ ts. doubled (tag_value 79 ts)) same;
      extra = told.extra ∙ ap (λ ts. doubled (tag_value 126 ts)) same;
    }
