-- A store that stands for a machine, alone and under marks.
use Rattle.std.proofs.Common.{Bool, true, false}
use Rattle.cache_store.specs.Open.{KeepsTo, KeepsWhere, Represents}
use Rattle.cache_store.specs.Session.{Session}
use Rattle.cache_theory.specs.History.{History}
use Rattle.file_handles.proofs.Where.{bare_in, is_in, marked_in, stand_for}

module _ {now : Session} {h : History} where
  pub represents : KeepsTo now h → Represents now h.machine
  represents is = record { stands = (is.stands.number, is.stands.stands); matches = is.matches }

  pub represented : {b : Bool} → KeepsWhere b now h → Represents now h.machine
  represented is = record { stands = stand_for is.stands; matches = is.matches }

  pub keeps_bare : Represents now h.machine → KeepsWhere false now h
  keeps_bare is = record { stands = bare_in is.stands; matches = is.matches }

  pub keeps_marked : KeepsTo now h → KeepsWhere true now h
  keeps_marked is = record { stands = marked_in is.stands; matches = is.matches }

  pub keeps_to : KeepsWhere true now h → KeepsTo now h
  keeps_to is = record { stands = is_in is.stands; matches = is.matches }
