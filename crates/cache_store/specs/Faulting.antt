-- How a command ends in a look at the disk that failed before anything of its reply was said: all is as it was. And how
-- the disk fails otherwise.
use Rattle.std.specs.Io.KnownBytes.{Appends}
use Rattle.std.specs.Prelude.{Bool, Err, IsTrue, List, None, Ok, Option, Result, Some, codes, false, length, take, true, ℕ, ⊤, ◌%◌, ◌++◌, ◌-◌, ◌≡◌, ◌⊎◌}
use Rattle.cache_base.specs.Limits.{chunk_size}
use Rattle.cache_export.specs.Dump.{head as dump_head}
use Rattle.cache_replies.specs.EntryText.{head_text}
use Rattle.cache_store.specs.Open.{KeepsWhere, Represents, Tells}
use Rattle.cache_store.specs.Session.{Session}
use Rattle.cache_store.specs.declared.fault.StoreFault.{StoreFault}
use Rattle.cache_store.specs.declared.fault.StoreFault.TheVariants as fault
use Rattle.cache_theory.specs.Command.{Command, Reply}
use Rattle.cache_theory.specs.Command.Command.{Append, At, Close, Dump, ElementOf, Finish, FinishAs, Flush, Get, GetAlt, HasEntry, MainBody, Pin, ReadPart, SetElement, Unpin, UnsetElement, UpdateState, UseEntry}
use Rattle.cache_theory.specs.Command.Reply.{AltData, Dumped, Found, Main, Part}
use Rattle.cache_theory.specs.History.{History}
use Rattle.cache_theory.specs.Machine.{Machine}
use Rattle.cache_theory.specs.Step.{step}
use Rattle.cache_theory.specs.Text.{alt_line, with_number}
use Rattle.disk_theory.specs.Account.{Ending}
use Rattle.disk_theory.specs.Calls.{Counts, LastFails}
use Rattle.disk_theory.specs.declared.disk.Disk.{Ghosts}
use Rattle.disk_theory.specs.declared.disk.DiskFault.{DiskFault}
use Rattle.disk_theory.specs.declared.disk.DiskFault.TheVariants as disk
use Rattle.entry_file.specs.Version.{version_meta}
use Rattle.file_handles.specs.Cache.{Cache}
use Rattle.file_handles.specs.Stands.{Represents as CacheRepresents}
use Rattle.file_handles.specs.declared.fault.HandleFault.{HandleFault}
use Rattle.file_handles.specs.declared.fault.HandleFault.TheVariants as handle

-- the disk failed, and memory did not run out
abbrev pub is_failure : DiskFault → Bool
is_failure disk.Failed = true
is_failure disk.Memory = false

-- the handles tell that a look failed
abbrev pub is_failed_look : HandleFault → Bool
is_failed_look (handle.Refused r) = false
is_failed_look handle.Read = true
is_failed_look handle.Disk = false
is_failed_look handle.Memory = false

-- an answer of the handles tells it
abbrev pub has_failed_look : {T : Type 0} → Result T HandleFault → Bool
has_failed_look (Ok value) = false
has_failed_look (Err f) = is_failed_look f

-- the handles refuse
abbrev pub is_refusal : HandleFault → Bool
is_refusal (handle.Refused r) = true
is_refusal handle.Read = false
is_refusal handle.Disk = false
is_refusal handle.Memory = false

-- the store's fault for one of the handles that is no refusal
abbrev pub of_handles : HandleFault → StoreFault
of_handles (handle.Refused r) = fault.Memory
of_handles handle.Read = fault.Disk
of_handles handle.Disk = fault.Disk
of_handles handle.Memory = fault.Memory

-- the store stands for the same machine, and the disk holds the same and keeps to the same history; of the records in
-- memory some may have been read, and those that were right are so
pub record StaysAs (before after : Session) : Type 0 where
  pub stands : (m : Machine) → Represents before m → Represents after m
  pub keeps : (crash : Bool) (h : History) → KeepsWhere crash before h → KeepsWhere crash after h
  pub tells : (m : Machine) → Represents before m → Tells before m → Tells after m
  pub disk : after.disk ≡ before.disk

-- a command that makes no look at the disk
abbrev pub LooksAtNothing : Command → Type 0
LooksAtNothing (At now) = ⊤
LooksAtNothing (Append s bytes) = ⊤
LooksAtNothing (Finish s) = ⊤
LooksAtNothing (FinishAs s header elements) = ⊤
LooksAtNothing (SetElement s name value) = ⊤
LooksAtNothing (UnsetElement s name) = ⊤
LooksAtNothing (ElementOf s name) = ⊤
LooksAtNothing (UseEntry s) = ⊤
LooksAtNothing (Pin s) = ⊤
LooksAtNothing (Unpin s) = ⊤
LooksAtNothing (Close s) = ⊤
LooksAtNothing (HasEntry key) = ⊤
LooksAtNothing Flush = ⊤
LooksAtNothing UpdateState = ⊤
LooksAtNothing _ = ⊥

-- every look at the disk stands before the first change: where the disk failed, it holds the same as before, or its last
-- call was a change or a sync that failed
abbrev pub LooksFirst : {Self : _} → Ghosts Self → Ending → Self → Self → Type 0
LooksFirst D answer before now =
    answer ≡ Ending.OneFailed → IsTrue D.tells
    → (D.state now ≡ D.state before) ⊎ LastFails (D.counts now)

-- a reply with bytes of a body up to the end of those of its first chunk, and that to a dump up to the end of its head
abbrev pub reply_front : Command → Reply → Option (List ℕ)
reply_front (ReadPart s from len) (Part bytes) =
    Some (with_number (codes "data") (length bytes) ++ take (chunk_size - from % chunk_size) bytes)
reply_front (Get key) (Found v) = Some (head_text (version_meta v) ++ take chunk_size v.body)
reply_front (GetAlt key) (AltData alt bytes) =
    Some (alt_line alt.kind (length bytes) ++ take (chunk_size - alt.offset % chunk_size) bytes)
reply_front (MainBody key) (Main bytes) =
    Some (with_number (codes "main") (length bytes) ++ take chunk_size bytes)
reply_front Dump (Dumped versions) = Some dump_head
reply_front _ _ = None

-- so much of the machine's reply is out, and maybe more
pub record SendsReplyFront (c : Command) (m : Machine) (taken now : Option (List ℕ)) : Type 0 where
  pub front : List ℕ
  pub is_front : reply_front c (step m c).reply ≡ Some front
  pub more : List ℕ
  pub out : Appends taken now (front ++ more)

-- whatever machine the handles stand for
abbrev pub SendsFrontFor : Cache → Command → Option (List ℕ) → Option (List ℕ) → Type 0
SendsFrontFor at c taken now = (m : Machine) → CacheRepresents at m → SendsReplyFront c m taken now

-- where the disk failed for good, its last call was a change or a sync that failed, or so much of the reply is out
abbrev pub FailsForGood : Counts → Command → Cache → Option (List ℕ) → Option (List ℕ) → Type 0
FailsForGood counts c before taken now = LastFails counts ⊎ SendsFrontFor before c taken now
