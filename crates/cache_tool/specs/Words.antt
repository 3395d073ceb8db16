-- The words of the command line, each as its bytes.
use Rattle.std.specs.Cmp.Lexicographic.{pointwise}
use Rattle.std.specs.Prelude.{List, None, Some, [], codes, decimal, if◌then◌else◌, map, nat_eq, nat_le, nat_lt, string_bytes, ℕ, ◌&&◌, ◌∷◌, ◌≡◌, ◌⊎◌, ◌<◌, ◌≤◌, ◌^◌, ◌↔◌}
use Rattle.std.specs.Option.{option_and_then, option_map}
use Rattle.std.specs.declared.alloc.Global.{Global}
use Rattle.std.specs.declared.option.Option.{Option}
use Rattle.std.specs.declared.string.String.{String}
use Rattle.cache_base.specs.Numbers.{number_in}
use Rattle.cache_theory.specs.Command.{Command}
use Rattle.cache_theory.specs.Command.Command.{ClearOrigin, Doom, Dump, Evict, Flush, Get, GetAlt, ListRecords, MainBody, Rebuild, Verify}

-- what the words ask for, at a moment
pub data Asked : Type 0 where
  -- the commands of the script that the source has
  Run : (now : ℕ) → Asked
  -- an entry of the key, with the bytes of the source as its body
  Put : (now : ℕ) (key : List ℕ) → Asked
  -- one command
  One : (now : ℕ) (command : Command) → Asked
  -- so many entries are made, the sizes of whose bodies follow from a first number; half of all is evicted, and all
  -- checked
  Fill : (now count first : ℕ) → Asked
  -- the entries of the dump that the source has
  Load : (now : ℕ) → Asked

-- The table of the verbs, and which words are those of the table.

-- a verb that stands alone, one with a key, an origin or a number after it, or one with two numbers, of which the
-- first is from 1 up to a limit; and what it asks for at a moment
pub data Verb : Type 0 where
  Alone : (name : List ℕ) (asks : ℕ → Asked) → Verb
  WithKey : (name : List ℕ) (asks : ℕ → List ℕ → Asked) → Verb
  WithNumber : (name : List ℕ) (asks : ℕ → ℕ → Asked) → Verb
  WithNumbers : (name : List ℕ) (limit : ℕ) (asks : ℕ → ℕ → ℕ → Asked) → Verb

-- a `fill` makes at most so many entries
abbrev pub fill_limit : ℕ
fill_limit = 100000

-- all verbs of the program
abbrev pub verbs : List Verb
verbs =
    Verb.Alone (codes "run") (λ now. Asked.Run now)
    ∷ (Verb.WithKey (codes "put") (λ now key. Asked.Put now key)
    ∷ (Verb.WithKey (codes "get") (λ now key. Asked.One now (Get key))
    ∷ (Verb.WithKey (codes "getalt") (λ now key. Asked.One now (GetAlt key))
    ∷ (Verb.WithKey (codes "main") (λ now key. Asked.One now (MainBody key))
    ∷ (Verb.WithKey (codes "doom") (λ now key. Asked.One now (Doom key))
    ∷ (Verb.WithKey (codes "clear") (λ now origin. Asked.One now (ClearOrigin origin))
    ∷ (Verb.WithNumber (codes "evict") (λ now kb. Asked.One now (Evict kb))
    ∷ (Verb.Alone (codes "flush") (λ now. Asked.One now Flush)
    ∷ (Verb.Alone (codes "list") (λ now. Asked.One now ListRecords)
    ∷ (Verb.Alone (codes "verify") (λ now. Asked.One now Verify)
    ∷ (Verb.Alone (codes "rebuild") (λ now. Asked.One now Rebuild)
    ∷ (Verb.WithNumbers (codes "fill") fill_limit (λ now count first. Asked.Fill now count first)
    ∷ (Verb.Alone (codes "dump") (λ now. Asked.One now Dump)
    ∷ (Verb.Alone (codes "load") (λ now. Asked.Load now)
    ∷ []))))))))))))))

-- a number from 1 up to the limit
abbrev pub IsCount : ℕ → ℕ → Type 0
IsCount limit n = (0 < n) × (n ≤ limit)

-- these words are the verb with what follows it, and ask for this
abbrev pub AreOfVerb : List (List ℕ) → ℕ → Asked → Verb → Type 0
AreOfVerb words now asked (Verb.Alone name asks) = (words ≡ name ∷ []) × (asked ≡ asks now)
AreOfVerb words now asked (Verb.WithKey name asks) =
    (key : List ℕ) × ((words ≡ name ∷ (key ∷ [])) × (asked ≡ asks now key))
AreOfVerb words now asked (Verb.WithNumber name asks) =
    (n : ℕ) × ((n < 2 ^ 32) × ((words ≡ name ∷ (decimal n ∷ [])) × (asked ≡ asks now n)))
AreOfVerb words now asked (Verb.WithNumbers name limit asks) =
    (n : ℕ) × ((first : ℕ) × (IsCount limit n × ((first < 2 ^ 32)
    × ((words ≡ name ∷ (decimal n ∷ (decimal first ∷ []))) × (asked ≡ asks now n first)))))

-- so it is for one of these verbs
abbrev pub AreOfOne : List (List ℕ) → ℕ → Asked → List Verb → Type 0
AreOfOne words now asked [] = ⊥
AreOfOne words now asked (verb ∷ more) =
    AreOfVerb words now asked verb ⊎ AreOfOne words now asked more

-- a number below 2 ^ 32 in decimal, and after it a verb of the table with what follows it
pub record AreWords (words : List (List ℕ)) (asked : Asked) : Type 0 where
  pub now : ℕ
  pub small : now < 2 ^ 32
  pub rest : List (List ℕ)
  pub words_are : words ≡ decimal now ∷ rest
  pub of_table : AreOfOne rest now asked verbs

-- How the words are read.

-- a verb that stands alone
abbrev pub alone : ℕ → List ℕ → Option Asked
alone now verb =
    if pointwise nat_eq verb (codes "run") then Some (Asked.Run now)
    else if pointwise nat_eq verb (codes "flush") then Some (Asked.One now Flush)
    else if pointwise nat_eq verb (codes "list") then Some (Asked.One now ListRecords)
    else if pointwise nat_eq verb (codes "verify") then Some (Asked.One now Verify)
    else if pointwise nat_eq verb (codes "rebuild") then Some (Asked.One now Rebuild)
    else if pointwise nat_eq verb (codes "dump") then Some (Asked.One now Dump)
    else if pointwise nat_eq verb (codes "load") then Some (Asked.Load now)
    else None

-- a verb with a key, an origin or a number
abbrev pub with_word : ℕ → List ℕ → List ℕ → Option Asked
with_word now verb word =
    if pointwise nat_eq verb (codes "put") then Some (Asked.Put now word)
    else if pointwise nat_eq verb (codes "get") then Some (Asked.One now (Get word))
    else if pointwise nat_eq verb (codes "getalt") then Some (Asked.One now (GetAlt word))
    else if pointwise nat_eq verb (codes "main") then Some (Asked.One now (MainBody word))
    else if pointwise nat_eq verb (codes "doom") then Some (Asked.One now (Doom word))
    else if pointwise nat_eq verb (codes "clear") then Some (Asked.One now (ClearOrigin word))
    else if pointwise nat_eq verb (codes "evict") then option_map (λ kb. Asked.One now (Evict kb)) (number_in word)
    else None

-- a `fill` of so many entries, if there may be so many
abbrev pub fill_of : ℕ → ℕ → ℕ → Option Asked
fill_of now count first = if nat_lt 0 count && nat_le count fill_limit then Some (Asked.Fill now count first) else None

-- a verb with two numbers
abbrev pub with_words : ℕ → List ℕ → List ℕ → List ℕ → Option Asked
with_words now verb count first =
    if pointwise nat_eq verb (codes "fill")
    then option_and_then (λ n. option_and_then (λ x. fill_of now n x) (number_in first)) (number_in count)
    else None

-- the words NOW and a verb that stands alone, and NOW, a verb and one word or two after it
abbrev pub asked_by : List (List ℕ) → Option Asked
asked_by (now ∷ (verb ∷ [])) = option_and_then (λ n. alone n verb) (number_in now)
asked_by (now ∷ (verb ∷ (word ∷ []))) = option_and_then (λ n. with_word n verb word) (number_in now)
asked_by (now ∷ (verb ∷ (count ∷ (first ∷ [])))) = option_and_then (λ n. with_words n verb count first) (number_in now)
asked_by _ = None

-- words ask for something exactly where they are those of the table
abbrev pub WordsAreOfTable : Type 0
WordsAreOfTable =
    (words : List (List ℕ)) (asked : Asked) → (asked_by words ≡ Some asked) ↔ AreWords words asked

-- the same of the words as texts
abbrev pub asked_in : List (String Global) → Option Asked
asked_in words = asked_by (map (λ w. string_bytes w) words)

-- where the words ask for one command: P of its moment and the command
abbrev pub WhenOne : Option Asked → (ℕ → Command → Type 0) → Type 0
WhenOne (Some (Asked.One now c)) P = P now c
WhenOne _ P = Unit {0}
