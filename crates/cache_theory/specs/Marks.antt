-- What a stop may lose: the state of the last acknowledged flush or clearing, the names that were touched since, what
-- was written since, and where metadata were rewritten in place since.
use Rattle.std.specs.List.{list_any}
use Rattle.std.specs.Prelude.{Any, Bool, List, None, Option, Some, [], false, if◌then◌else◌, is_some, map, not, option_map, slice_get, unwrap_or, ℕ, ◌&&◌, ◌++◌, ◌∷◌, ◌≡◌, ◌⊎◌}
use Rattle.std.specs.Str.{bytes_eq}
use Rattle.cache_base.specs.Checks.{first_failing}
use Rattle.cache_theory.specs.Checks.{checks}
use Rattle.cache_theory.specs.Command.{Command}
use Rattle.cache_theory.specs.Command.Command.{Create, Append, Finish, FinishAs, SetElement, UnsetElement, UseEntry, Pin, Unpin, PutAlt, Close, Doom, Evict, EvictNames, ClearOrigin, ClearNames, Resume, ResumeNames, Flush}
use Rattle.cache_theory.specs.Covers.{cleared, resumed}
use Rattle.cache_theory.specs.Machine.{Machine, Object, is_writer, number_of, object, object_of}
use Rattle.cache_theory.specs.Step.{effect, evicted, step}
use Rattle.cache_theory.specs.Table.{get}
use Rattle.cache_theory.specs.declared.refusal.Refusal.{Refusal}
use Rattle.entry_file.specs.EntryFile.{found}
use Rattle.entry_file.specs.Version.{Version}
use Rattle.entry_name.specs.EntryName.{file_name}
use Rattle.entry_parts.specs.Elements.{element}

-- a version that was written under a name
pub record Written : Type 0 where
  pub name : List ℕ
  pub version : Version

-- what decides on promises about a stop
pub record Marks : Type 0 where
  -- the machine at the last acknowledged flush or clearing, or at the opening
  pub marked : Machine
  -- the names that commands touched since
  pub touched : List (List ℕ)
  -- the versions that were written since, through objects that were undoomed then or came later
  pub since : List Written
  -- the names of such objects whose metadata were rewritten since, after they were finished
  pub in_place : List (List ℕ)

-- at a flush, at a clearing, and at the opening
abbrev pub marks_of : Machine → Marks
marks_of m = record { marked = m; touched = []; since = []; in_place = [] }

-- the object was doomed at the mark
abbrev pub is_buried : Marks → ℕ → Bool
is_buried w i = unwrap_or (option_map (λ o. o.doomed) (slice_get w.marked.objects i)) false

-- the number of the object whose file a command finishes or rewrites
abbrev pub rewritten : Machine → Command → Option ℕ
rewritten m (Finish s) = Some (number_of m s)
rewritten m (FinishAs s header elements) = Some (number_of m s)
rewritten m (SetElement s name value) = if (object_of m s).finished then Some (number_of m s) else None
rewritten m (UnsetElement s name) = if (object_of m s).finished && is_some (element name (object_of m s).version.elements) then Some (number_of m s) else None
rewritten m (UseEntry s) = if (object_of m s).finished then Some (number_of m s) else None
rewritten m (Pin s) = if (object_of m s).finished then Some (number_of m s) else None
rewritten m (Unpin s) = if (object_of m s).finished then Some (number_of m s) else None
rewritten m (PutAlt s kind bytes) = if (object_of m s).finished then Some (number_of m s) else None
rewritten m (Close s) = if is_writer m s && not (object_of m s).finished then Some (number_of m s) else None
rewritten m _ = None

-- the number of the finished object whose metadata a command rewrites
abbrev pub rewritten_in_place : Machine → Command → Option ℕ
rewritten_in_place m (SetElement s name value) = rewritten m (SetElement s name value)
rewritten_in_place m (UnsetElement s name) = rewritten m (UnsetElement s name)
rewritten_in_place m (UseEntry s) = rewritten m (UseEntry s)
rewritten_in_place m (Pin s) = rewritten m (Pin s)
rewritten_in_place m (Unpin s) = rewritten m (Unpin s)
rewritten_in_place m (PutAlt s kind bytes) = rewritten m (PutAlt s kind bytes)
rewritten_in_place m _ = None

-- the name of an object, if it is undoomed
abbrev pub undoomed_name : Object → List (List ℕ)
undoomed_name o = if o.doomed then [] else file_name o.version.key ∷ []

-- so of the object of this number, if there is one
abbrev pub name_of_some : Machine → Option ℕ → List (List ℕ)
name_of_some m None = []
name_of_some m (Some i) = undoomed_name (object m i)

-- the names that a command touches: it creates, appends to, finishes, rewrites, dooms or evicts there
abbrev pub touches : Machine → Command → List (List ℕ)
touches m (Create s key) = file_name key ∷ []
touches m (Doom key) = file_name key ∷ []
touches m (Evict kb) = map (λ name. name.0) (evicted m kb)
touches m (EvictNames names) = map (λ name. name.0) names
touches m (ClearOrigin origin) = map (λ name. name.0) (cleared m origin)
touches m (ClearNames names) = map (λ name. name.0) names
touches m Resume = map (λ name. name.0) (resumed m)
touches m (ResumeNames names) = map (λ name. name.0) names
touches m (Append s bytes) = undoomed_name (object_of m s)
touches m (Finish s) = name_of_some m (rewritten m (Finish s))
touches m (FinishAs s header elements) = name_of_some m (rewritten m (FinishAs s header elements))
touches m (SetElement s name value) = name_of_some m (rewritten m (SetElement s name value))
touches m (UnsetElement s name) = name_of_some m (rewritten m (UnsetElement s name))
touches m (UseEntry s) = name_of_some m (rewritten m (UseEntry s))
touches m (Pin s) = name_of_some m (rewritten m (Pin s))
touches m (Unpin s) = name_of_some m (rewritten m (Unpin s))
touches m (PutAlt s kind bytes) = name_of_some m (rewritten m (PutAlt s kind bytes))
touches m (Close s) = name_of_some m (rewritten m (Close s))
touches m _ = []

-- a version that goes out through an object, unless the object was doomed at the mark
abbrev pub put_out : Marks → Machine → Option ℕ → List Written
put_out w next None = []
put_out w next (Some i) =
    let v = (object next i).version in
    if is_buried w i then [] else record { name = file_name v.key; version = v } ∷ []

-- the name of an object, unless the object was doomed at the mark
abbrev pub unburied_name : Marks → Machine → Option ℕ → List (List ℕ)
unburied_name w m None = []
unburied_name w m (Some i) = if is_buried w i then [] else file_name (object m i).version.key ∷ []

-- the marks when a command whose checks hold has begun
abbrev pub went_out : Machine → Command → Marks → Marks
went_out m c w = record w {
  touched = touches m c ++ w.touched;
  since = put_out w (effect m c).next (rewritten m c) ++ w.since;
  in_place = unburied_name w m (rewritten_in_place m c) ++ w.in_place;
}

-- a command that is refused leaves them as they are
abbrev pub begun_by : Option Refusal → Machine → Command → Marks → Marks
begun_by None m c w = went_out m c w
begun_by (Some r) m c w = w

-- the marks when a command has begun
abbrev pub begun : Machine → Command → Marks → Marks
begun m c w = begun_by (first_failing (checks m c)) m c w

-- and when it is acknowledged: all is on the disk then after a flush, and after a clearing
abbrev pub acked : Machine → Command → Marks → Marks
acked m Flush w = marks_of m
acked m (ClearOrigin origin) w = marks_of (effect m (ClearOrigin origin)).next
acked m (ClearNames names) w = marks_of (effect m (ClearNames names)).next
acked m c w = begun m c w

-- the marks where these commands are acknowledged
abbrev pub all_acked : Machine → List Command → Marks → Marks
all_acked m [] w = w
all_acked m (c ∷ cs) w = all_acked (step m c).next cs (acked m c w)

-- the marks where these commands have begun
abbrev pub all_begun : Machine → List Command → Marks → Marks
all_begun m [] w = w
all_begun m (c ∷ cs) w = all_begun (step m c).next cs (begun m c w)

-- the name was touched since the mark
abbrev pub is_touched : Marks → List ℕ → Bool
is_touched w name = list_any (bytes_eq name) w.touched

-- metadata were rewritten in place under the name since the mark
abbrev pub is_in_place : Marks → List ℕ → Bool
is_in_place w name = list_any (bytes_eq name) w.in_place

-- the version was written under the name since the mark
abbrev pub IsSince : Marks → List ℕ → Version → Type 0
IsSince w name v = Any (λ written. (written.name ≡ name) × (written.version ≡ v)) w.since

-- the version may be found under a touched name: it was found at the mark, or was written since
abbrev pub MayFind : Marks → List ℕ → Version → Type 0
MayFind w name v = (found (get w.marked.shelf) v.key ≡ Some v) ⊎ IsSince w name v
