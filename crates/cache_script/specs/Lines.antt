-- The lines of commands.
use Rattle.std.specs.Prelude.{◌≡◌, ℕ, ◌+◌, ◌<◌, ◌≤◌, List, [], ◌∷◌, length, Option, None, Some, codes, decimal, nat_eq, nat_lt, ◌==◌, if◌then◌else◌}
use Rattle.std.specs.Cmp.Lexicographic.{pointwise}
use Rattle.std.specs.Option.{option_map, option_and_then}
use Rattle.cache_base.specs.Bytes.{AreBytes}
use Rattle.cache_base.specs.declared.limits.TheConstants.{ALT_MAX, ELEMENTS_MAX, PIECE_MAX, SLOTS}
use Rattle.cache_theory.specs.Command.{Command}
use Rattle.cache_theory.specs.Command.Command.{At, Create, OpenKey, Append, Finish, SetElement, UnsetElement, ElementOf, PutAlt, UseEntry, Pin, Unpin, ReadPart, Close, Doom, Get, GetAlt, MainBody, HasEntry, ListRecords, Evict, ClearOrigin, Flush, StepUpdate, UpdateState, Verify, Rebuild}
use Rattle.cache_theory.specs.Text.{FieldsFit, IsOneLine, command_data, command_words, spaced}
use Rattle.cache_script.specs.Command.{command_of}
use Rattle.cache_base.specs.Numbers.{number_in}
use Rattle.cache_script.specs.declared.lines.Line.{Line}
use Rattle.cache_script.specs.declared.lines.Line.TheVariants as line

-- what a line tells: a whole command, or one after whose line so many bytes follow
pub data Form : Type 0 where
  WholeLine : (command : Command) → Form
  AppendLine : (slot len : ℕ) → Form
  SetLine : (slot len : ℕ) (name : List ℕ) → Form
  AltLine : (slot len : ℕ) (kind : List ℕ) → Form

-- what the line of a command tells
abbrev pub form_of : Command → Form
form_of (Append s bytes) = Form.AppendLine s (length bytes)
form_of (SetElement s name value) = Form.SetLine s (length value) name
form_of (PutAlt s kind bytes) = Form.AltLine s (length bytes) kind
form_of c = Form.WholeLine c

-- the same of a line of the code
abbrev pub line_form : Line → Form
line_form (line.Whole c) = Form.WholeLine (command_of c)
line_form (line.Append s len) = Form.AppendLine s len
line_form (line.Set s len name) = Form.SetLine s len name.now
line_form (line.PutAlt s len kind) = Form.AltLine s len kind.now

-- what stands before the first such byte and what after it, where there is one
abbrev pub cut : ℕ → List ℕ → Option (List ℕ × List ℕ)
cut byte [] = None
cut byte (x ∷ xs) = if x == byte then Some ([], xs) else option_map (λ parts. (x ∷ parts.0, parts.1)) (cut byte xs)

-- a number below a limit
abbrev pub number_below : ℕ → List ℕ → Option ℕ
number_below limit word = option_and_then (λ n. if nat_lt n limit then Some n else None) (number_in word)

-- the number of a slot
abbrev pub slot_in : List ℕ → Option ℕ
slot_in word = number_below SLOTS word

-- the words of these two bytes after each other, where they are numbers
abbrev pub read_in : ℕ → List ℕ → List ℕ → Option Form
read_in s from len = option_and_then (λ f. option_map (λ n. Form.WholeLine (ReadPart s f n)) (number_in len)) (number_in from)

-- a length below a limit, and what follows it
abbrev pub len_in : ℕ → List ℕ → Option (ℕ × List ℕ)
len_in limit text = option_and_then (λ parts. option_map (λ n. (n, parts.1)) (number_below limit parts.0)) (cut 32 text)

-- a verb, a slot, and what follows them
unfoldable pub slot_form : List ℕ → ℕ → List ℕ → Option Form
slot_form verb s rest =
    if pointwise nat_eq verb (codes "create") then Some (Form.WholeLine (Create s rest))
    else if pointwise nat_eq verb (codes "open") then Some (Form.WholeLine (OpenKey s rest))
    else if pointwise nat_eq verb (codes "unset") then Some (Form.WholeLine (UnsetElement s rest))
    else if pointwise nat_eq verb (codes "element") then Some (Form.WholeLine (ElementOf s rest))
    else if pointwise nat_eq verb (codes "append") then option_map (λ n. Form.AppendLine s n) (number_below (PIECE_MAX + 1) rest)
    else if pointwise nat_eq verb (codes "set") then option_map (λ parts. Form.SetLine s parts.0 parts.1) (len_in (ELEMENTS_MAX + 1) rest)
    else if pointwise nat_eq verb (codes "putalt") then option_map (λ parts. Form.AltLine s parts.0 parts.1) (len_in (ALT_MAX + 1) rest)
    else if pointwise nat_eq verb (codes "read") then option_and_then (λ parts. read_in s parts.0 parts.1) (cut 32 rest)
    else None

-- a verb and a slot, and maybe more
unfoldable pub first_slot_form : List ℕ → List ℕ → Option Form
first_slot_form verb rest =
    if pointwise nat_eq verb (codes "finish") then option_map (λ s. Form.WholeLine (Finish s)) (slot_in rest)
    else if pointwise nat_eq verb (codes "close") then option_map (λ s. Form.WholeLine (Close s)) (slot_in rest)
    else if pointwise nat_eq verb (codes "use") then option_map (λ s. Form.WholeLine (UseEntry s)) (slot_in rest)
    else if pointwise nat_eq verb (codes "pin") then option_map (λ s. Form.WholeLine (Pin s)) (slot_in rest)
    else if pointwise nat_eq verb (codes "unpin") then option_map (λ s. Form.WholeLine (Unpin s)) (slot_in rest)
    else option_and_then (λ parts. option_and_then (λ s. slot_form verb s parts.1) (slot_in parts.0)) (cut 32 rest)

-- a verb and a number, or a slot and maybe more
unfoldable pub number_form : List ℕ → List ℕ → Option Form
number_form verb rest =
    if pointwise nat_eq verb (codes "at") then option_map (λ n. Form.WholeLine (At n)) (number_in rest)
    else if pointwise nat_eq verb (codes "evict") then option_map (λ n. Form.WholeLine (Evict n)) (number_in rest)
    else if pointwise nat_eq verb (codes "step")
    then option_map (λ n. Form.WholeLine (StepUpdate n)) (number_in rest)
    else first_slot_form verb rest

-- a verb, and what follows it
unfoldable pub verb_form : List ℕ → List ℕ → Option Form
verb_form verb rest =
    if pointwise nat_eq verb (codes "doom") then Some (Form.WholeLine (Doom rest))
    else if pointwise nat_eq verb (codes "get") then Some (Form.WholeLine (Get rest))
    else if pointwise nat_eq verb (codes "getalt") then Some (Form.WholeLine (GetAlt rest))
    else if pointwise nat_eq verb (codes "main") then Some (Form.WholeLine (MainBody rest))
    else if pointwise nat_eq verb (codes "has") then Some (Form.WholeLine (HasEntry rest))
    else if pointwise nat_eq verb (codes "clear") then Some (Form.WholeLine (ClearOrigin rest))
    else number_form verb rest

-- what a line tells, if it is the line of a command
unfoldable pub form_in : List ℕ → Option Form
form_in text =
    if pointwise nat_eq text (codes "flush") then Some (Form.WholeLine Flush)
    else if pointwise nat_eq text (codes "list") then Some (Form.WholeLine ListRecords)
    else if pointwise nat_eq text (codes "state") then Some (Form.WholeLine UpdateState)
    else if pointwise nat_eq text (codes "verify") then Some (Form.WholeLine Verify)
    else if pointwise nat_eq text (codes "rebuild") then Some (Form.WholeLine Rebuild)
    else option_and_then (λ parts. verb_form parts.0 parts.1) (cut 32 text)

-- the words of such a line
abbrev pub form_words : Form → List (List ℕ)
form_words (Form.WholeLine c) = command_words c
form_words (Form.AppendLine s len) = codes "append" ∷ decimal s ∷ decimal len ∷ []
form_words (Form.SetLine s len name) = codes "set" ∷ decimal s ∷ decimal len ∷ name ∷ []
form_words (Form.AltLine s len kind) = codes "putalt" ∷ decimal s ∷ decimal len ∷ kind ∷ []

-- its fields are within their limits, and a whole command has no bytes after its line
abbrev pub FormFits : Form → Type 0
FormFits (Form.WholeLine c) = FieldsFit c × (command_data c ≡ [])
FormFits (Form.AppendLine s len) = (s < SLOTS) × (len ≤ PIECE_MAX)
FormFits (Form.SetLine s len name) = (s < SLOTS) × ((AreBytes name × IsOneLine name) × (len ≤ ELEMENTS_MAX))
FormFits (Form.AltLine s len kind) = (s < SLOTS) × ((AreBytes kind × IsOneLine kind) × (len ≤ ALT_MAX))

-- the text is the line of what it tells
abbrev pub Tells : List ℕ → Form → Type 0
Tells text form = (text ≡ spaced (form_words form)) × FormFits form

-- how many bytes of the command stand after its line
abbrev pub data_len : Form → ℕ
data_len (Form.WholeLine c) = 0
data_len (Form.AppendLine s len) = len + 1
data_len (Form.SetLine s len name) = len + 1
data_len (Form.AltLine s len kind) = len + 1
