use Rattle.std.proofs.Common.{refl}
use Rattle.machine_files.specs.Listed.{IsReadFrom}
use Rattle.machine_files.proofs.ListedLaws.{gains, of_found}
use Rattle.machine_files.proofs.listing.read_names.Goals.{in-Some-read+in_ok-file_type-in-Ok-name+in_ok-add-in-Ok-name, in_default}
use Rattle.machine_files.proofs.listing.read_names.Goals as goal

pub names-preserved-in-Ok-name : goal.names-preserved-in-Ok-name
names-preserved-in-Ok-name g c =
    let v = c.names.invariant in
    elim c.match-read.branch [
      | in-Some-read+in_ok-file_type-in-Ok-name+in_ok-add-in-Ok-name w ↦
          let is : IsReadFrom g.P.Fn c.args.read w.in-Some-read.item = record { name = c.file_name.result.now; read = record { shown = c.file_name.result; shows = refl; says = record { met = w.in-Some-read.ensures } } } in
          let files = gains g.T.Ord.cmp (IsReadFrom g.P.Fn c.args.read) w.in-Some-read.item c.names.found.files w.add.new.self.files v.2 is w.in_ok-add-in-Ok-name.ensures.files in
          let folders = gains g.T.Ord.cmp (IsReadFrom g.P.Fn c.args.read) w.in-Some-read.item c.names.found.folders w.add.new.self.folders v.3 is w.in_ok-add-in-Ok-name.ensures.folders in
          let all = of_found (IsReadFrom g.P.Fn c.args.read) c.match-read.found w.add.new.self w.found-is files folders in
          (tt, tt, all.0, all.1)
      | in_default w ↦
          let all = of_found (IsReadFrom g.P.Fn c.args.read) c.match-read.found c.names.found w.found-is v.2 v.3 in
          (tt, tt, all.0, all.1)
    ]
