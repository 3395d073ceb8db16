-- Words are read exactly where they are those of the table.
use Rattle.std.proofs.Common.{◌≡◌, ◌⊎◌, inl, inr, ℕ, ◌<◌, ◌≤◌, ◌^◌, List, [], ◌∷◌, Bool, true, false, cond, ◌&&◌, Option, None, Some, IfSome, decimal, nat_eq, nat_le, nat_lt, refl, sym, ap, ◌∙◌, arith, le-leb, leb-true, lt-ltb, ltb-true}
use Rattle.std.specs.Cmp.Lexicographic.{pointwise}
use Rattle.std.specs.Option.{option_and_then, option_map}
use Rattle.std.specs.Prelude.{codes}
use Rattle.std.proofs.lemmas.Bool.{and_parts}
use Rattle.std.proofs.lemmas.Slice.Eq.{bytes_eq-Decides}
use Rattle.cache_base.specs.Numbers.{number_in}
use Rattle.cache_base.proofs.NumberLaws.{number_read, number_spelled}
use Rattle.cache_theory.specs.Command.Command.{ClearOrigin, Doom, Dump, Evict, Flush, Get, GetAlt, ListRecords, MainBody, Rebuild, Verify}
use Rattle.cache_tool.specs.Words.{AreOfOne, AreWords, Asked, IsCount, WordsAreOfTable, alone, asked_by, fill_limit, fill_of, verbs, with_word, with_words}

-- one test of a chain
tested_some : (verb name : List ℕ) (some : Option Asked) (asked : Asked) (rest : Option Asked) → cond (pointwise nat_eq verb name) some rest ≡ Some asked
    → ((verb ≡ name) × (some ≡ Some asked)) ⊎ (rest ≡ Some asked)
tested_some verb name some asked rest = go (pointwise nat_eq verb name) (bytes_eq-Decides verb name).0
  where
    go : (b : Bool) → (b ≡ true → verb ≡ name) → cond b some rest ≡ Some asked → ((verb ≡ name) × (some ≡ Some asked)) ⊎ (rest ≡ Some asked)
    go true is e = inl (is refl, e)
    go false is e = inr e

-- where it asks for something
tested : (verb name : List ℕ) (x asked : Asked) (rest : Option Asked) → cond (pointwise nat_eq verb name) (Some x) rest ≡ Some asked
    → ((verb ≡ name) × (asked ≡ x)) ⊎ (rest ≡ Some asked)
tested verb name x asked rest e = elim (tested_some verb name (Some x) asked rest e) [
  | inl here ↦ inl (here.0, (let one : Some x ≡ Some asked = here.1 in cc))
  | inr others ↦ inr others
]

alone_is : (now : ℕ) (verb : List ℕ) (asked : Asked) → alone now verb ≡ Some asked → AreOfOne (verb ∷ []) now asked verbs
alone_is now verb asked e = elim (tested verb (codes "run") (Asked.Run now) asked _ e) [
  | inl run ↦ inl (ap (λ w. w ∷ []) run.0, run.1)
  | inr more ↦ elim (tested verb (codes "flush") (Asked.One now Flush) asked _ more) [
    | inl flush ↦ inr (inr (inr (inr (inr (inr (inr (inr (inl (ap (λ w. w ∷ []) flush.0, flush.1)))))))))
    | inr others ↦ elim (tested verb (codes "list") (Asked.One now ListRecords) asked _ others) [
      | inl list ↦ inr (inr (inr (inr (inr (inr (inr (inr (inr (inl (ap (λ w. w ∷ []) list.0, list.1))))))))))
      | inr further ↦ elim (tested verb (codes "verify") (Asked.One now Verify) asked _ further) [
        | inl verify ↦ inr (inr (inr (inr (inr (inr (inr (inr (inr (inr (inl (ap (λ w. w ∷ []) verify.0, verify.1)))))))))))
        | inr next ↦ elim (tested verb (codes "rebuild") (Asked.One now Rebuild) asked _ next) [
          | inl rebuild ↦ inr (inr (inr (inr (inr (inr (inr (inr (inr (inr (inr (inl (ap (λ w. w ∷ []) rebuild.0, rebuild.1))))))))))))
          | inr after ↦ elim (tested verb (codes "dump") (Asked.One now Dump) asked _ after) [
            | inl dump ↦ inr (inr (inr (inr (inr (inr (inr (inr (inr (inr (inr (inr (inr (inl (ap (λ w. w ∷ []) dump.0, dump.1))))))))))))))
            | inr last ↦ elim (tested verb (codes "load") (Asked.Load now) asked None last) [
              | inl load ↦ inr (inr (inr (inr (inr (inr (inr (inr (inr (inr (inr (inr (inr (inr (inl (ap (λ w. w ∷ []) load.0, load.1)))))))))))))))
              | inr none ↦ absurd (cc)
            ]
          ]
        ]
      ]
    ]
  ]
]

-- a word that is the number of a verb
number_is : (now : ℕ) (word : List ℕ) (asked : Asked) → option_map (λ kb. Asked.One now (Evict kb)) (number_in word) ≡ Some asked
    → (n : ℕ) × ((n < 2 ^ 32) × ((word ≡ decimal n) × (asked ≡ Asked.One now (Evict n))))
number_is now word asked = go (number_in word) (number_spelled word)
  where
    go : (r : Option ℕ) → IfSome r (λ n. (word ≡ decimal n) × (n < 2 ^ 32)) → option_map (λ kb. Asked.One now (Evict kb)) r ≡ Some asked
        → (n : ℕ) × ((n < 2 ^ 32) × ((word ≡ decimal n) × (asked ≡ Asked.One now (Evict n))))
    go None spelled e = absurd (cc)
    go (Some n) spelled e = (n, (spelled.1, (spelled.0, cc)))

with_word_is : (now : ℕ) (verb word : List ℕ) (asked : Asked) → with_word now verb word ≡ Some asked → AreOfOne (verb ∷ (word ∷ [])) now asked verbs
with_word_is now verb word asked e = elim (tested verb (codes "put") (Asked.Put now word) asked _ e) [
  | inl put ↦ inr (inl (word, (ap (λ w. w ∷ (word ∷ [])) put.0, put.1)))
  | inr more ↦ elim (tested verb (codes "get") (Asked.One now (Get word)) asked _ more) [
    | inl get ↦ inr (inr (inl (word, (ap (λ w. w ∷ (word ∷ [])) get.0, get.1))))
    | inr others ↦ elim (tested verb (codes "getalt") (Asked.One now (GetAlt word)) asked _ others) [
      | inl alt ↦ inr (inr (inr (inl (word, (ap (λ w. w ∷ (word ∷ [])) alt.0, alt.1)))))
      | inr further ↦ elim (tested verb (codes "main") (Asked.One now (MainBody word)) asked _ further) [
        | inl main ↦ inr (inr (inr (inr (inl (word, (ap (λ w. w ∷ (word ∷ [])) main.0, main.1))))))
        | inr left ↦ elim (tested verb (codes "doom") (Asked.One now (Doom word)) asked _ left) [
          | inl doom ↦ inr (inr (inr (inr (inr (inl (word, (ap (λ w. w ∷ (word ∷ [])) doom.0, doom.1)))))))
          | inr next ↦ elim (tested verb (codes "clear") (Asked.One now (ClearOrigin word)) asked _ next) [
            | inl clear ↦ inr (inr (inr (inr (inr (inr (inl (word, (ap (λ w. w ∷ (word ∷ [])) clear.0, clear.1))))))))
            | inr last ↦ elim (tested_some verb (codes "evict") (option_map (λ kb. Asked.One now (Evict kb)) (number_in word)) asked None last) [
              | inl evict ↦
                  let of = number_is now word asked evict.1 in
                  inr (inr (inr (inr (inr (inr (inr (inl (of.0, (of.1.0, (ap (λ w. w ∷ (word ∷ [])) evict.0 ∙ ap (λ w. codes "evict" ∷ (w ∷ [])) of.1.1.0, of.1.1.1))))))))))
              | inr none ↦ absurd (cc)
            ]
          ]
        ]
      ]
    ]
  ]
]

-- two words that are the numbers of a `fill`
fill_is : (now count first : ℕ) (asked : Asked) → fill_of now count first ≡ Some asked → IsCount fill_limit count × (asked ≡ Asked.Fill now count first)
fill_is now count first asked = go (nat_lt 0 count && nat_le count fill_limit) refl
  where
    go : (b : Bool) → nat_lt 0 count && nat_le count fill_limit ≡ b → cond b (Some (Asked.Fill now count first)) None ≡ Some asked
        → IsCount fill_limit count × (asked ≡ Asked.Fill now count first)
    go true e some = let parts = and_parts (nat_lt 0 count) (nat_le count fill_limit) e in ((ltb-true 0 count parts.0, leb-true count fill_limit parts.1), cc)
    go false e some = absurd (cc)

numbers_are : (now : ℕ) (count first : List ℕ) (asked : Asked)
    → option_and_then (λ n. option_and_then (λ x. fill_of now n x) (number_in first)) (number_in count) ≡ Some asked
    → (n : ℕ) × ((x : ℕ) × (IsCount fill_limit n × ((x < 2 ^ 32) × (((count ≡ decimal n) × (first ≡ decimal x)) × (asked ≡ Asked.Fill now n x)))))
numbers_are now count first asked = go (number_in count) (number_in first) (number_spelled count) (number_spelled first)
  where
    go : (r s : Option ℕ) → IfSome r (λ n. (count ≡ decimal n) × (n < 2 ^ 32)) → IfSome s (λ x. (first ≡ decimal x) × (x < 2 ^ 32))
        → option_and_then (λ n. option_and_then (λ x. fill_of now n x) s) r ≡ Some asked
        → (n : ℕ) × ((x : ℕ) × (IsCount fill_limit n × ((x < 2 ^ 32) × (((count ≡ decimal n) × (first ≡ decimal x)) × (asked ≡ Asked.Fill now n x)))))
    go None s of other e = absurd (cc)
    go (Some n) None of other e = absurd (cc)
    go (Some n) (Some x) of other e = let fills = fill_is now n x asked e in (n, (x, (fills.0, (other.1, ((of.0, other.0), fills.1)))))

with_words_is : (now : ℕ) (verb count first : List ℕ) (asked : Asked) → with_words now verb count first ≡ Some asked
    → AreOfOne (verb ∷ (count ∷ (first ∷ []))) now asked verbs
with_words_is now verb count first asked e =
    elim (tested_some verb (codes "fill") (option_and_then (λ n. option_and_then (λ x. fill_of now n x) (number_in first)) (number_in count)) asked None e) [
      | inl fill ↦
          let of = numbers_are now count first asked fill.1 in
          let is = of.1.1.1.1 in
          inr (inr (inr (inr (inr (inr (inr (inr (inr (inr (inr (inr (inl (
            of.0,
            (
              of.1.0,
              (
                of.1.1.0,
                (
                  of.1.1.1.0,
                  (ap (λ w. w ∷ (count ∷ (first ∷ []))) fill.0 ∙ ap (λ w. codes "fill" ∷ (w ∷ (first ∷ []))) is.0.0 ∙ ap (λ w. codes "fill" ∷ (decimal of.0 ∷ (w ∷ []))) is.0.1, is.1),
                ),
              ),
            ),
          )))))))))))))
      | inr none ↦ absurd (cc)
    ]

-- and such numbers are read
counted : (now n x : ℕ) → IsCount fill_limit n → fill_of now n x ≡ Some (Asked.Fill now n x)
counted now n x count =
    ap (λ b. cond b (Some (Asked.Fill now n x)) None) (ap (λ b. b && nat_le n fill_limit) (lt-ltb 0 n count.0) ∙ le-leb n fill_limit count.1)

-- what follows a number
module _ (word : List ℕ) (rest : List (List ℕ)) (asked : Asked) (asks : ℕ → Option Asked) (is : (now : ℕ) → asks now ≡ Some asked → AreOfOne rest now asked verbs) where
  numbered : option_and_then asks (number_in word) ≡ Some asked → AreWords (word ∷ rest) asked
  numbered = go (number_in word) (number_spelled word)
    where
      go : (r : Option ℕ) → IfSome r (λ n. (word ≡ decimal n) × (n < 2 ^ 32)) → option_and_then asks r ≡ Some asked → AreWords (word ∷ rest) asked
      go None spelled e = absurd (cc)
      go (Some n) spelled e = record { now = n; small = spelled.1; rest = rest; words_are = ap (λ w. w ∷ rest) spelled.0; of_table = is n e }

read_is : (words : List (List ℕ)) (asked : Asked) → asked_by words ≡ Some asked → AreWords words asked
read_is [] asked e = absurd (cc)
read_is (now ∷ []) asked e = absurd (cc)
read_is (now ∷ (verb ∷ [])) asked e = numbered now (verb ∷ []) asked (λ n. alone n verb) (λ n is. alone_is n verb asked is) e
read_is (now ∷ (verb ∷ (word ∷ []))) asked e = numbered now (verb ∷ (word ∷ [])) asked (λ n. with_word n verb word) (λ n is. with_word_is n verb word asked is) e
read_is (now ∷ (verb ∷ (count ∷ (first ∷ [])))) asked e =
    numbered now (verb ∷ (count ∷ (first ∷ []))) asked (λ n. with_words n verb count first) (λ n is. with_words_is n verb count first asked is) e
read_is (now ∷ (verb ∷ (key ∷ (x ∷ (y ∷ more))))) asked e = absurd (cc)

-- and the words of the table are read
below_limit : (n : ℕ) → n ≤ fill_limit → n < 2 ^ 32
below_limit n le = omega (arith, le)

table_read : (now : ℕ) → now < 2 ^ 32 → (rest : List (List ℕ)) (asked : Asked) → AreOfOne rest now asked verbs → asked_by (decimal now ∷ rest) ≡ Some asked
table_read now small rest asked (inl run) =
    ap (λ r. asked_by (decimal now ∷ r)) run.0 ∙ ap (option_and_then (λ n. alone n (codes "run"))) (number_read now small) ∙ ap Some (sym run.1)
table_read now small rest asked (inr (inl put)) =
    ap (λ r. asked_by (decimal now ∷ r)) put.1.0 ∙ ap (option_and_then (λ n. with_word n (codes "put") put.0)) (number_read now small) ∙ ap Some (sym put.1.1)
table_read now small rest asked (inr (inr (inl get))) =
    ap (λ r. asked_by (decimal now ∷ r)) get.1.0 ∙ ap (option_and_then (λ n. with_word n (codes "get") get.0)) (number_read now small) ∙ ap Some (sym get.1.1)
table_read now small rest asked (inr (inr (inr (inl alt)))) =
    ap (λ r. asked_by (decimal now ∷ r)) alt.1.0 ∙ ap (option_and_then (λ n. with_word n (codes "getalt") alt.0)) (number_read now small) ∙ ap Some (sym alt.1.1)
table_read now small rest asked (inr (inr (inr (inr (inl main))))) =
    ap (λ r. asked_by (decimal now ∷ r)) main.1.0 ∙ ap (option_and_then (λ n. with_word n (codes "main") main.0)) (number_read now small) ∙ ap Some (sym main.1.1)
table_read now small rest asked (inr (inr (inr (inr (inr (inl doom)))))) =
    ap (λ r. asked_by (decimal now ∷ r)) doom.1.0 ∙ ap (option_and_then (λ n. with_word n (codes "doom") doom.0)) (number_read now small) ∙ ap Some (sym doom.1.1)
table_read now small rest asked (inr (inr (inr (inr (inr (inr (inl clear))))))) =
    ap (λ r. asked_by (decimal now ∷ r)) clear.1.0 ∙ ap (option_and_then (λ n. with_word n (codes "clear") clear.0)) (number_read now small) ∙ ap Some (sym clear.1.1)
table_read now small rest asked (inr (inr (inr (inr (inr (inr (inr (inl evict)))))))) =
    ap (λ r. asked_by (decimal now ∷ r)) evict.1.1.0 ∙ ap (option_and_then (λ n. with_word n (codes "evict") (decimal evict.0))) (number_read now small)
    ∙ ap (option_map (λ kb. Asked.One now (Evict kb))) (number_read evict.0 evict.1.0) ∙ ap Some (sym evict.1.1.1)
table_read now small rest asked (inr (inr (inr (inr (inr (inr (inr (inr (inl flush))))))))) =
    ap (λ r. asked_by (decimal now ∷ r)) flush.0 ∙ ap (option_and_then (λ n. alone n (codes "flush"))) (number_read now small) ∙ ap Some (sym flush.1)
table_read now small rest asked (inr (inr (inr (inr (inr (inr (inr (inr (inr (inl list)))))))))) =
    ap (λ r. asked_by (decimal now ∷ r)) list.0 ∙ ap (option_and_then (λ n. alone n (codes "list"))) (number_read now small) ∙ ap Some (sym list.1)
table_read now small rest asked (inr (inr (inr (inr (inr (inr (inr (inr (inr (inr (inl verify))))))))))) =
    ap (λ r. asked_by (decimal now ∷ r)) verify.0 ∙ ap (option_and_then (λ n. alone n (codes "verify"))) (number_read now small) ∙ ap Some (sym verify.1)
table_read now small rest asked (inr (inr (inr (inr (inr (inr (inr (inr (inr (inr (inr (inl rebuild)))))))))))) =
    ap (λ r. asked_by (decimal now ∷ r)) rebuild.0 ∙ ap (option_and_then (λ n. alone n (codes "rebuild"))) (number_read now small) ∙ ap Some (sym rebuild.1)
table_read now small rest asked (inr (inr (inr (inr (inr (inr (inr (inr (inr (inr (inr (inr (inl (n, (x, (count, (bound, (words, is)))))))))))))))))) =
    ap (λ r. asked_by (decimal now ∷ r)) words ∙ ap (option_and_then (λ k. with_words k (codes "fill") (decimal n) (decimal x))) (number_read now small)
    ∙ ap (option_and_then (λ k. option_and_then (λ y. fill_of now k y) (number_in (decimal x)))) (number_read n (below_limit n count.1))
    ∙ ap (option_and_then (λ y. fill_of now n y)) (number_read x bound) ∙ counted now n x count ∙ ap Some (sym is)
table_read now small rest asked (inr (inr (inr (inr (inr (inr (inr (inr (inr (inr (inr (inr (inr (inl dump)))))))))))))) =
    ap (λ r. asked_by (decimal now ∷ r)) dump.0 ∙ ap (option_and_then (λ n. alone n (codes "dump"))) (number_read now small) ∙ ap Some (sym dump.1)
table_read now small rest asked (inr (inr (inr (inr (inr (inr (inr (inr (inr (inr (inr (inr (inr (inr (inl load))))))))))))))) =
    ap (λ r. asked_by (decimal now ∷ r)) load.0 ∙ ap (option_and_then (λ n. alone n (codes "load"))) (number_read now small) ∙ ap Some (sym load.1)
table_read now small rest asked (inr (inr (inr (inr (inr (inr (inr (inr (inr (inr (inr (inr (inr (inr (inr none))))))))))))))) = absurd none

pub words_are_of_table : WordsAreOfTable
words_are_of_table = λ words asked. (
  λ read. read_is words asked read,
  λ are. ap asked_by are.words_are ∙ table_read are.now are.small are.rest asked are.of_table,
)
