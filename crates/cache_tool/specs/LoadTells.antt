-- What a `load` tells of a dump.
use Rattle.std.specs.Io.KnownBytes.{Keeps}
use Rattle.std.specs.Prelude.{List, None, Option, length, ℕ, ◌≡◌, ◌⊎◌}
use Rattle.cache_base.specs.declared.status.Status.{Status}
use Rattle.cache_base.specs.declared.status.Status.TheVariants as status
use Rattle.cache_export.specs.Dump.{IsDump}
use Rattle.cache_replies.specs.Saying.{IsPart}
use Rattle.cache_tool.specs.Load.{BeginsLoaded, Loaded, PrintsLoadLine, loaded_line}
use Rattle.entry_file.specs.Version.{Version}

-- of a dump nothing is printed, or the line with the number of its items, or a part of that; and where the sink failed
-- all of it was loaded
pub record TellsTrue (vs : List Version) (l : Loaded) (ended : Status) (before now : Option (List ℕ))
    : Type 0 where
  pub part : Keeps before now ⊎ IsPart before now (loaded_line (length vs))
  pub sink : ended ≡ status.Sink → (l.items ≡ vs) × (l.begun ≡ None)

-- so it is with every status
abbrev pub LoadTellsTrue : Type 0
LoadTellsTrue = (bytes : List ℕ) (vs : List Version) (l : Loaded) (read : BeginsLoaded bytes l) (ended : Status)
    (before now : Option (List ℕ))
    → IsDump bytes vs → PrintsLoadLine bytes l read ended before now → TellsTrue vs l ended before now
