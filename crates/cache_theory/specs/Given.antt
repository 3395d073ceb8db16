-- Commands as a program can give them.
use Rattle.std.specs.Prelude.{⊤, ◌<◌, ◌^◌}
use Rattle.cache_base.specs.Bytes.{AreBytes}
use Rattle.cache_base.specs.declared.limits.TheConstants.{SLOTS}
use Rattle.cache_theory.specs.Command.{Command}
use Rattle.cache_theory.specs.Command.Command.{At, Create, OpenKey, Append, Finish, FinishAs, SetElement, UnsetElement, ElementOf, UseEntry, Pin, Unpin, PutAlt, ReadPart, Close, Doom, Get, GetAlt, MainBody, HasEntry, Evict, ClearOrigin, StepUpdate}
use Rattle.entry_parts.specs.Elements.{AreElements, elements_bytes}
use Rattle.entry_parts.specs.Header.{IsHeader}

-- numbers fit their types, slots are those that there are, and texts are bytes
abbrev pub IsGiven : Command → Type 0
IsGiven (At now) = now < 2 ^ 32
IsGiven (Create s key) = (s < SLOTS) × AreBytes key
IsGiven (OpenKey s key) = (s < SLOTS) × AreBytes key
IsGiven (Append s bytes) = (s < SLOTS) × AreBytes bytes
IsGiven (Finish s) = s < SLOTS
IsGiven (FinishAs s header elements) = (s < SLOTS) × (IsHeader header × (AreElements elements × AreBytes (elements_bytes elements)))
IsGiven (SetElement s name value) = (s < SLOTS) × (AreBytes name × AreBytes value)
IsGiven (UnsetElement s name) = (s < SLOTS) × AreBytes name
IsGiven (ElementOf s name) = (s < SLOTS) × AreBytes name
IsGiven (UseEntry s) = s < SLOTS
IsGiven (Pin s) = s < SLOTS
IsGiven (Unpin s) = s < SLOTS
IsGiven (PutAlt s kind bytes) = (s < SLOTS) × (AreBytes kind × AreBytes bytes)
IsGiven (ReadPart s from len) = s < SLOTS
IsGiven (Close s) = s < SLOTS
IsGiven (Doom key) = AreBytes key
IsGiven (Get key) = AreBytes key
IsGiven (GetAlt key) = AreBytes key
IsGiven (MainBody key) = AreBytes key
IsGiven (HasEntry key) = AreBytes key
IsGiven (Evict kb) = kb < 2 ^ 32
IsGiven (ClearOrigin origin) = AreBytes origin
IsGiven (StepUpdate n) = n < 2 ^ 32
-- the others have no numbers and no texts
IsGiven _ = ⊤
