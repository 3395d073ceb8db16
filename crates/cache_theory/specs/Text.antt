-- The text of commands and of replies.
use Rattle.std.specs.List.{AllByRecursion, join_with_byte}
use Rattle.std.specs.Prelude.{List, [], codes, decimal, flat_map, length, ℕ, ⊤, ◌+◌, ◌++◌, ◌<◌, ◌^◌, ◌∷◌, ◌≡◌, ◌≢◌, ◌≤◌}
use Rattle.std.specs.Int.{to_be_bytes, w64}
use Rattle.cache_base.specs.Bytes.{AreBytes, be16, be32}
use Rattle.cache_base.specs.declared.limits.TheConstants.{ALT_MAX, ELEMENTS_MAX, LINE_MAX, PIECE_MAX, SCRIPT_MAX, SLOTS}
use Rattle.cache_base.specs.declared.name.Name.{Name}
use Rattle.cache_check.specs.declared.finding.Finding.{Finding}
use Rattle.cache_check.specs.declared.finding.What.{What}
use Rattle.cache_check.specs.declared.finding.What.TheVariants as what
use Rattle.cache_export.specs.Dump.{dump_bytes}
use Rattle.cache_theory.specs.Command.{Command, Reply}
use Rattle.cache_theory.specs.Command.Command.{At, Create, OpenKey, Append, Finish, FinishAs, SetElement, UnsetElement, ElementOf, UseEntry, Pin, Unpin, PutAlt, ReadPart, Close, Doom, Get, GetAlt, MainBody, HasEntry, HasGiven, ListRecords, ListGiven, Evict, EvictNames, ClearOrigin, ClearNames, Resume, ResumeNames, Flush, StepUpdate, UpdateState, Verify, VerifyRecords, Rebuild, Dump}
use Rattle.cache_theory.specs.Command.Reply.{Done, Refused, NoneThere, Value, Part, Found, AltData, Main, Yes, No, Unknown, Records, Evicted, Cleared, Resumed, Ready, Updating, Findings, Rebuilt, Dumped}
use Rattle.cache_theory.specs.Machine.{Machine}
use Rattle.cache_theory.specs.Step.{replies}
use Rattle.cache_theory.specs.declared.refusal.Refusal.{Refusal}
use Rattle.cache_theory.specs.declared.refusal.Refusal.TheVariants as refused
use Rattle.chunk_store.specs.declared.damage.Damage.{Damage}
use Rattle.entry_file.specs.Version.{Version, version_meta}
use Rattle.entry_file.specs.declared.entry_read.Unfit.{Unfit}
use Rattle.entry_file.specs.declared.entry_read.Unfit.TheVariants as unfit
use Rattle.entry_metadata.specs.Metadata.{Meta}
use Rattle.entry_parts.specs.Elements.{elements_bytes}
use Rattle.hex.specs.Hex.{encode_upper}
use Rattle.index_record.specs.declared.record.IndexRecord.{IndexRecord}

-- words with a space between each two
abbrev pub spaced : List (List ℕ) → List ℕ
spaced words = join_with_byte 32 words

-- the same, and a newline
abbrev pub line : List (List ℕ) → List ℕ
line words = spaced words ++ 10 ∷ []

-- the words of a damage
abbrev pub damage_words : Damage → List (List ℕ)
damage_words d = codes "damaged" ∷ decimal d.chunk ∷ encode_upper (be16 d.stored) ∷ encode_upper (be16 d.found) ∷ []

-- the words of a refusal
abbrev pub refusal_words : Refusal → List (List ℕ)
refusal_words refused.SlotTaken = codes "slot taken" ∷ []
refusal_words refused.NoSlot = codes "no slot" ∷ []
refusal_words refused.Absent = codes "absent" ∷ []
refusal_words refused.Unfinished = codes "unfinished" ∷ []
refusal_words (refused.Damaged d) = damage_words d
refusal_words refused.NotWriter = codes "not writer" ∷ []
refusal_words refused.Finished = codes "finished" ∷ []
refusal_words refused.TooLarge = codes "too large" ∷ []
refusal_words refused.BadKey = codes "bad key" ∷ []
refusal_words refused.BadElement = codes "bad element" ∷ []
refusal_words refused.HasAlt = codes "has alt" ∷ []
refusal_words refused.NoAlt = codes "no alt" ∷ []

-- a word, the number of bytes that follow, the bytes and a newline
abbrev pub with_bytes : List ℕ → List ℕ → List ℕ
with_bytes word bytes = line (word ∷ decimal (length bytes) ∷ []) ++ (bytes ++ 10 ∷ [])

-- the line of alternative data: their length and their kind
abbrev pub alt_line : List ℕ → ℕ → List ℕ
alt_line kind len = line (codes "alt" ∷ decimal len ∷ kind ∷ [])

-- the same, and the bytes
abbrev pub alt_text : List ℕ → List ℕ → List ℕ
alt_text kind bytes = alt_line kind (length bytes) ++ (bytes ++ 10 ∷ [])

-- the line of an entry's numbers
unfoldable pub found_line : Meta → List ℕ
found_line m =
    line (codes "found" ∷ decimal m.header.fetch_count ∷ decimal m.header.last_fetched ∷ decimal m.header.last_modified
    ∷ decimal m.header.frecency ∷ decimal m.header.expiration ∷ decimal m.header.flags
    ∷ decimal (length (elements_bytes m.elements)) ∷ decimal m.offset ∷ [])

-- a whole entry: its numbers, its elements and its body
abbrev pub version_text : Version → List ℕ
version_text v = found_line (version_meta v) ++ (elements_bytes v.elements ++ 10 ∷ (v.body ++ 10 ∷ []))

-- the words of a record
abbrev pub record_words : IndexRecord → List (List ℕ)
record_words r =
    encode_upper r.name.0 ∷ decimal r.frecency ∷ encode_upper (to_be_bytes w64 r.origin)
    ∷ decimal r.on_start ∷ decimal r.on_stop ∷ decimal r.content
    ∷ encode_upper (be32 r.flags) ∷ []

-- the word of a check that a file fails
abbrev pub unfit_word : Unfit → List ℕ
unfit_word unfit.Short = codes "short"
unfit_word unfit.TooBig = codes "too-big"
unfit_word unfit.Version = codes "version"
unfit_word unfit.KeyEnd = codes "key-end"
unfit_word unfit.Hash = codes "hash"
unfit_word unfit.KeyForm = codes "key-form"
unfit_word unfit.Elements = codes "elements"
unfit_word unfit.WrongName = codes "wrong-name"

-- the words of what is wrong
abbrev pub what_words : What → List (List ℕ)
what_words (what.Unfit check) = codes "unfit" ∷ unfit_word check ∷ []
what_words (what.Damaged d) = damage_words d
what_words what.Missing = codes "missing" ∷ []
what_words what.Extra = codes "extra" ∷ []
what_words what.Differs = codes "differs" ∷ []

-- the words of a finding
abbrev pub finding_words : Finding → List (List ℕ)
finding_words f = encode_upper f.name.0 ∷ what_words f.what

-- a word and a number
abbrev pub with_number : List ℕ → ℕ → List ℕ
with_number word n = line (word ∷ decimal n ∷ [])

-- the number of some records, and a line of each
abbrev pub records_text : List IndexRecord → List ℕ
records_text records =
    with_number (codes "records") (length records) ++ flat_map (λ r. line (record_words r)) records

-- the number of some names, and a line of each
abbrev pub names_text : List Name → List ℕ
names_text names =
    with_number (codes "evicted") (length names) ++ flat_map (λ name. line (encode_upper name.0 ∷ [])) names

-- the number of some findings, and a line of each
abbrev pub findings_text : List Finding → List ℕ
findings_text findings =
    with_number (codes "findings") (length findings) ++ flat_map (λ f. line (finding_words f)) findings

-- what a reply prints
unfoldable pub reply_text : Reply → List ℕ
reply_text Done = line (codes "ok" ∷ [])
reply_text (Refused r) = line (refusal_words r)
reply_text NoneThere = line (codes "none" ∷ [])
reply_text (Value value) = with_bytes (codes "value") value
reply_text (Part bytes) = with_bytes (codes "data") bytes
reply_text (Found v) = version_text v
reply_text (AltData alt bytes) = alt_text alt.kind bytes
reply_text (Main bytes) = with_bytes (codes "main") bytes
reply_text Yes = line (codes "yes" ∷ [])
reply_text No = line (codes "no" ∷ [])
reply_text Unknown = line (codes "unknown" ∷ [])
reply_text (Records records) = records_text records
reply_text (Evicted names) = names_text names
reply_text (Cleared names) = with_number (codes "cleared") names
reply_text Resumed = []
reply_text Ready = line (codes "ready" ∷ [])
reply_text (Updating names) = with_number (codes "updating") names
reply_text (Findings findings) = findings_text findings
reply_text (Rebuilt records) = with_number (codes "rebuilt") records
reply_text (Dumped versions) = dump_bytes versions

-- the reply to the command is printed; that to a clearing that is resumed is empty
abbrev pub IsSpoken : Command → Type 0
IsSpoken Resume = ⊥
IsSpoken (ResumeNames names) = ⊥
IsSpoken _ = ⊤

-- the reply to each of these commands is printed
abbrev pub AreSpoken : List Command → Type 0
AreSpoken cs = AllByRecursion IsSpoken cs

-- each reply to such a command has some bytes
abbrev pub ReplyIsNotEmpty : Type 0
ReplyIsNotEmpty = (r : Reply) → r ≢ Resumed → 0 < length (reply_text r)

-- what the replies to some commands print
abbrev pub replies_text : Machine → List Command → List ℕ
replies_text m cs = flat_map reply_text (replies m cs)

-- the words of a command's line; those that no script spells have none
abbrev pub command_words : Command → List (List ℕ)
command_words (At now) = codes "at" ∷ decimal now ∷ []
command_words (Create s key) = codes "create" ∷ decimal s ∷ key ∷ []
command_words (OpenKey s key) = codes "open" ∷ decimal s ∷ key ∷ []
command_words (Append s bytes) = codes "append" ∷ decimal s ∷ decimal (length bytes) ∷ []
command_words (Finish s) = codes "finish" ∷ decimal s ∷ []
command_words (FinishAs s header elements) = []
command_words (SetElement s name value) = codes "set" ∷ decimal s ∷ decimal (length value) ∷ name ∷ []
command_words (UnsetElement s name) = codes "unset" ∷ decimal s ∷ name ∷ []
command_words (ElementOf s name) = codes "element" ∷ decimal s ∷ name ∷ []
command_words (UseEntry s) = codes "use" ∷ decimal s ∷ []
command_words (Pin s) = codes "pin" ∷ decimal s ∷ []
command_words (Unpin s) = codes "unpin" ∷ decimal s ∷ []
command_words (PutAlt s kind bytes) = codes "putalt" ∷ decimal s ∷ decimal (length bytes) ∷ kind ∷ []
command_words (ReadPart s from len) = codes "read" ∷ decimal s ∷ decimal from ∷ decimal len ∷ []
command_words (Close s) = codes "close" ∷ decimal s ∷ []
command_words (Doom key) = codes "doom" ∷ key ∷ []
command_words (Get key) = codes "get" ∷ key ∷ []
command_words (GetAlt key) = codes "getalt" ∷ key ∷ []
command_words (MainBody key) = codes "main" ∷ key ∷ []
command_words (HasEntry key) = codes "has" ∷ key ∷ []
command_words ListRecords = codes "list" ∷ []
command_words (Evict kb) = codes "evict" ∷ decimal kb ∷ []
command_words (HasGiven key there) = []
command_words (ListGiven records) = []
command_words (EvictNames names) = []
command_words (ClearOrigin origin) = codes "clear" ∷ origin ∷ []
command_words (ClearNames names) = []
command_words Resume = []
command_words (ResumeNames names) = []
command_words Flush = codes "flush" ∷ []
command_words (StepUpdate n) = codes "step" ∷ decimal n ∷ []
command_words UpdateState = codes "state" ∷ []
command_words Verify = codes "verify" ∷ []
command_words (VerifyRecords records) = []
command_words Rebuild = codes "rebuild" ∷ []
command_words Dump = []

-- the bytes after a command's line, with their newline
abbrev pub command_data : Command → List ℕ
command_data (Append s bytes) = bytes ++ 10 ∷ []
command_data (SetElement s name value) = value ++ 10 ∷ []
command_data (PutAlt s kind bytes) = bytes ++ 10 ∷ []
command_data _ = []

-- the bytes of a command
unfoldable pub command_bytes : Command → List ℕ
command_bytes c = line (command_words c) ++ command_data c

-- bytes with no newline
abbrev pub IsOneLine : List ℕ → Type 0
IsOneLine xs = AllByRecursion (λ x. x ≢ 10) xs

-- a number of a script
abbrev pub IsNumber : ℕ → Type 0
IsNumber n = n < 2 ^ 32

-- the fields of a command are within their limits, and a script can spell it
abbrev pub FieldsFit : Command → Type 0
FieldsFit (At now) = IsNumber now
FieldsFit (Create s key) = (s < SLOTS) × (AreBytes key × IsOneLine key)
FieldsFit (OpenKey s key) = (s < SLOTS) × (AreBytes key × IsOneLine key)
FieldsFit (Append s bytes) = (s < SLOTS) × (AreBytes bytes × (length bytes ≤ PIECE_MAX))
FieldsFit (Finish s) = s < SLOTS
FieldsFit (FinishAs s header elements) = ⊥
FieldsFit (SetElement s name value) = (s < SLOTS) × ((AreBytes name × IsOneLine name) × (AreBytes value × (length value ≤ ELEMENTS_MAX)))
FieldsFit (UnsetElement s name) = (s < SLOTS) × (AreBytes name × IsOneLine name)
FieldsFit (ElementOf s name) = (s < SLOTS) × (AreBytes name × IsOneLine name)
FieldsFit (UseEntry s) = s < SLOTS
FieldsFit (Pin s) = s < SLOTS
FieldsFit (Unpin s) = s < SLOTS
FieldsFit (PutAlt s kind bytes) = (s < SLOTS) × ((AreBytes kind × IsOneLine kind) × (AreBytes bytes × (length bytes ≤ ALT_MAX)))
FieldsFit (ReadPart s from len) = (s < SLOTS) × (IsNumber from × IsNumber len)
FieldsFit (Close s) = s < SLOTS
FieldsFit (Doom key) = AreBytes key × IsOneLine key
FieldsFit (Get key) = AreBytes key × IsOneLine key
FieldsFit (GetAlt key) = AreBytes key × IsOneLine key
FieldsFit (MainBody key) = AreBytes key × IsOneLine key
FieldsFit (HasEntry key) = AreBytes key × IsOneLine key
FieldsFit (Evict kb) = IsNumber kb
FieldsFit (HasGiven key there) = ⊥
FieldsFit (ListGiven records) = ⊥
FieldsFit (EvictNames names) = ⊥
FieldsFit (ClearOrigin origin) = AreBytes origin × IsOneLine origin
FieldsFit (ClearNames names) = ⊥
FieldsFit Resume = ⊥
FieldsFit (ResumeNames names) = ⊥
FieldsFit (VerifyRecords records) = ⊥
FieldsFit (StepUpdate n) = IsNumber n
FieldsFit Dump = ⊥
-- the others have no fields
FieldsFit _ = ⊤

-- a command that a script may have
pub record IsCommand (c : Command) : Type 0 where
  pub fields : FieldsFit c
  pub line : length (spaced (command_words c)) ≤ LINE_MAX

-- the bytes of a script
abbrev pub script_bytes : List Command → List ℕ
script_bytes cs = flat_map command_bytes cs

-- these are the commands that a prefix of the bytes spells, within the length of a script, and what follows them
pub record SpellsFront (bytes : List ℕ) (cs : List Command) (rest : List ℕ) : Type 0 where
  pub commands : AllByRecursion IsCommand cs
  pub spelled : bytes ≡ script_bytes cs ++ rest
  pub short : length (script_bytes cs) ≤ SCRIPT_MAX

-- no command more that would keep the script within its length begins the bytes after so many of a script
abbrev pub NoMore : ℕ → List ℕ → Type 0
NoMore before rest = (c : Command) (more : List ℕ) → IsCommand c → rest ≡ command_bytes c ++ more → SCRIPT_MAX < before + length (command_bytes c)

-- the longest list of commands that a prefix of the bytes spells
pub record CommandsIn (bytes : List ℕ) (cs : List Command) : Type 0 where
  pub rest : List ℕ
  pub front : SpellsFront bytes cs rest
  pub longest : NoMore (length (script_bytes cs)) rest

-- the bytes spell a script of these commands
abbrev pub ScriptSpells : List ℕ → List Command → Type 0
ScriptSpells bytes cs = SpellsFront bytes cs []

-- no command's bytes begin another's
abbrev pub NoneBeginsAnother : Type 0
NoneBeginsAnother = (c d : Command) (more after : List ℕ) → IsCommand c → IsCommand d → command_bytes c ++ more ≡ command_bytes d ++ after → c ≡ d

-- and so the longest list of commands in some bytes is one
abbrev pub CommandsAreOne : Type 0
CommandsAreOne = (bytes : List ℕ) (cs ds : List Command) → CommandsIn bytes cs → CommandsIn bytes ds → cs ≡ ds
