-- How an opening starts.
use Rattle.std.specs.Prelude.{Bool, false, is_some, true}
use Rattle.index_theory.specs.declared.kinds.Start.{Start}
use Rattle.index_theory.specs.declared.kinds.Start.TheVariants.{Ready, Update, Build}
use Rattle.disk_theory.specs.Image.{Files}
use Rattle.disk_theory.specs.declared.place.Place.TheVariants.{Index, Log, Tmp}
use Rattle.index_theory.specs.declared.kinds.IndexKind.{IndexKind}
use Rattle.index_theory.specs.IndexKind.{index_kind}
use Rattle.index_theory.specs.declared.kinds.IndexKind.TheVariants.{Missing as NoIndex, Invalid as BadIndex, Dirty, Clean}
use Rattle.index_theory.specs.declared.kinds.LogKind.{LogKind}
use Rattle.index_theory.specs.LogKind.{log_kind}
use Rattle.index_theory.specs.declared.kinds.LogKind.TheVariants.{Missing as NoLog, Invalid as BadLog, Valid}

-- by the index, the journal, and whether a file stands at `index.tmp`
abbrev pub decide : IndexKind → LogKind → Bool → Start
decide NoIndex journal tmp = Build
decide BadIndex journal tmp = Build
decide Dirty journal tmp = Update
decide Clean NoLog tmp = Update
decide Clean BadLog tmp = Update
decide Clean Valid true = Update
decide Clean Valid false = Ready

-- how an opening of a directory starts
abbrev pub start_of : Files → Start
start_of files = decide (index_kind (files Index)) (log_kind (files Log)) (is_some (files Tmp))
