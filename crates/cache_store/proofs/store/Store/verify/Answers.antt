use Rattle.std.proofs.Common.{◌≡◌, ◌∙◌, Err, subst}
use Rattle.cache_store.specs.Faults.{of_disk}
use Rattle.cache_check.specs.Checks.{table_of}
use Rattle.cache_check.specs.Findings.{AreFindings}
use Rattle.cache_check.proofs.Tables.{is_table_of}
use Rattle.disk_theory.specs.State.{State, standing}
use Rattle.file_handles.specs.Kept.{kept}
use Rattle.index_theory.specs.Ever.{entries_on}
use Rattle.record_list.proofs.NameLaws.{rising_distinct}
use Rattle.record_list.specs.Lists.{names_of}
use Rattle.memory_index.specs.declared.memory_index.MemoryIndex.{MemoryIndex}
use Rattle.memory_index.proofs.RecordsAtEnd.{ended_stays}
use Rattle.cache_store.proofs.Performing.Stays.{look_stays, noted_exactly}
use Rattle.cache_store.proofs.Verifying.VerifyDoes.{verify_does, verify_fails, verify_finds}
use Rattle.cache_store.proofs.store.Store.verify.Goals as goal

pub returns-in-Err-clause-does : goal.returns-in-Err-clause-does
returns-in-Err-clause-does g c = λ told.
    verify_fails (Err c.look_fault.result) (λ f. f ≡ of_disk c.in-Err.fault) c.look_fault.ensures.fault (kept c.args.self.now.handles) c.args.self.now.moment
    (g.D.Disk.state c.args.disk.now) (g.D.Disk.state c.finish_apart.new.disk) c.args.self.now.index c.finish_apart.new.self (c.in-Err.ensures.looks.state told)

pub returns-in-Err-clause-stays : goal.returns-in-Err-clause-stays
returns-in-Err-clause-stays g c = λ noted told.
    look_stays (kept c.args.self.now.handles) c.args.self.now.moment (g.D.Disk.state c.args.disk.now) (g.D.Disk.state c.finish_apart.new.disk) c.args.self.now.index c.finish_apart.new.self
    (c.in-Err.ensures.looks.state told) c.in-Err.ensures.base c.in-Err.ensures.rest (c.in-Err.ensures.stays told)

pub returns-in-Err-clause-faulted : goal.returns-in-Err-clause-faulted
returns-in-Err-clause-faulted g c = noted_exactly c.in-Err.fault c.look_fault.result c.look_fault.new.faulting c.look_fault.ensures.fault c.look_fault.ensures.faulting

pub returns-in_err-records-clause-does : goal.returns-in_err-records-clause-does
returns-in_err-records-clause-does g c = λ told.
    verify_fails c.from_residual.result _ c.from_residual.ensures.1 (kept c.args.self.now.handles) c.args.self.now.moment
    (g.D.Disk.state c.args.disk.now) (g.D.Disk.state c.finish_apart.new.disk) c.args.self.now.index c.finish_apart.new.self (c.in-Ok.ensures.looks.state told)

pub returns-in_err-writing-clause-does : goal.returns-in_err-writing-clause-does
returns-in_err-writing-clause-does g c = λ told.
    verify_fails c.from_residual-in_err-writing.result _ c.from_residual-in_err-writing.ensures.1 (kept c.args.self.now.handles) c.args.self.now.moment
    (g.D.Disk.state c.args.disk.now) (g.D.Disk.state c.finish_apart.new.disk) c.args.self.now.index c.finish_apart.new.self (c.in-Ok.ensures.looks.state told)

pub returns-in-Err-findings-clause-does : goal.returns-in-Err-findings-clause-does
returns-in-Err-findings-clause-does g c = λ told.
    verify_fails (Err c.look_fault-in-Err-findings.result) (λ f. f ≡ of_disk c.in-Err-findings.fault) c.look_fault-in-Err-findings.ensures.fault (kept c.args.self.now.handles) c.args.self.now.moment
    (g.D.Disk.state c.args.disk.now) (g.D.Disk.state c.findings.new.disk) c.args.self.now.index c.finish_apart.new.self
    (c.in-Err-findings.ensures.looks.state told ∙ c.in-Ok.ensures.looks.state told)

pub returns-in-Err-findings-clause-stays : goal.returns-in-Err-findings-clause-stays
returns-in-Err-findings-clause-stays g c = λ noted told.
    look_stays (kept c.args.self.now.handles) c.args.self.now.moment (g.D.Disk.state c.args.disk.now) (g.D.Disk.state c.findings.new.disk) c.args.self.now.index c.finish_apart.new.self
    (c.in-Err-findings.ensures.looks.state told ∙ c.in-Ok.ensures.looks.state told) c.in-Ok.ensures.base c.in-Ok.ensures.rest (c.in-Ok.ensures.stays told)

pub returns-in-Err-findings-clause-faulted : goal.returns-in-Err-findings-clause-faulted
returns-in-Err-findings-clause-faulted g c = noted_exactly c.in-Err-findings.fault c.look_fault-in-Err-findings.result c.look_fault-in-Err-findings.new.faulting c.look_fault-in-Err-findings.ensures.fault c.look_fault-in-Err-findings.ensures.faulting

pub findings-requires : goal.findings-requires
findings-requires g c = rising_distinct (names_of c.in_ok-records.records) c.in_ok-records.ensures.by_name.rising

pub returns-clause-does : goal.returns-clause-does
returns-clause-does g c = λ told.
    let s = g.D.Disk.state c.args.disk.now in
    let looked = c.in-Ok.ensures.looks.state told in
    let new : MemoryIndex = record { map = c.finish_apart.new.self.map; update = c.in-Ok.ended } in
    let finite = g.met.D.Disk.finite c.args.disk.now told in
    verify_does (kept c.args.self.now.handles) c.args.self.now.moment s (g.D.Disk.state c.findings.new.disk) c.args.self.now.index new
    (record {
      same = c.in-Ok-findings.ensures.looks.state told ∙ looked;
      ended = c.in-Ok.ensures.ended;
      base = c.in-Ok.ensures.base;
      records = c.in-Ok.ensures.records told;
      tells = λ was. ended_stays (entries_on s) new (c.in-Ok.ensures.tells told was);
    })
    c.in_ok-records.records c.in_ok-records.ensures.known c.in_ok-records.ensures.by_name c.in_ok-writing.writing c.in_ok-writing.ensures
    (table_of (standing s) finite.names) (is_table_of s finite.names finite.rising finite.entries) c.in-Ok-findings.found
    (subst (λ (x : State). AreFindings (entries_on x) c.in_ok-records.records c.in_ok-writing.writing c.in-Ok-findings.found) looked (c.in-Ok-findings.ensures.findings told))

pub returns-clause-found : goal.returns-clause-found
returns-clause-found g c = λ told.
    let s = g.D.Disk.state c.args.disk.now in
    let looked = c.in-Ok.ensures.looks.state told in
    let new : MemoryIndex = record { map = c.finish_apart.new.self.map; update = c.in-Ok.ended } in
    let finite = g.met.D.Disk.finite c.args.disk.now told in
    verify_finds (kept c.args.self.now.handles) c.args.self.now.moment s (g.D.Disk.state c.findings.new.disk) c.args.self.now.index new
    (record {
      same = c.in-Ok-findings.ensures.looks.state told ∙ looked;
      ended = c.in-Ok.ensures.ended;
      base = c.in-Ok.ensures.base;
      records = c.in-Ok.ensures.records told;
      tells = λ was. ended_stays (entries_on s) new (c.in-Ok.ensures.tells told was);
    })
    c.in_ok-records.records c.in_ok-records.ensures.known c.in_ok-records.ensures.by_name c.in_ok-writing.writing c.in_ok-writing.ensures
    (table_of (standing s) finite.names) (is_table_of s finite.names finite.rising finite.entries) c.in-Ok-findings.found
    (subst (λ (x : State). AreFindings (entries_on x) c.in_ok-records.records c.in_ok-writing.writing c.in-Ok-findings.found) looked (c.in-Ok-findings.ensures.findings told))
