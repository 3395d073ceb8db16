-- The machine, and what a stop may lose from here on.
use Rattle.cache_theory.specs.Command.{Command}
use Rattle.cache_theory.specs.Machine.{Machine}
use Rattle.cache_theory.specs.Marks.{Marks, acked as acked_marks, begun as begun_marks, marks_of}
use Rattle.cache_theory.specs.Step.{step}

-- the machine now, and the marks that decide on promises about a stop
pub record History : Type 0 where
  pub machine : Machine
  pub marks : Marks

-- at an opening, and after an acknowledged flush
abbrev pub settled_at : Machine → History
settled_at m = record { machine = m; marks = marks_of m }

-- a command has begun
abbrev pub begun : Command → History → History
begun c h = record h { marks = begun_marks h.machine c h.marks }

-- it has had its effect, and its reply was not seen
abbrev pub unanswered : Command → History → History
unanswered c h = record { machine = (step h.machine c).next; marks = begun_marks h.machine c h.marks }

-- it is acknowledged
abbrev pub acked : Command → History → History
acked c h = record { machine = (step h.machine c).next; marks = acked_marks h.machine c h.marks }
