use Rattle.std.proofs.Common.{◌≡◌, ◌≢◌, ◌∙◌, [], refl, subst, sym}
use Rattle.index_theory.specs.Ever.{entries_on}
use Rattle.index_update.specs.Rest.{name_bytes}
use Rattle.index_update.specs.Tells.{TellsSeen}
use Rattle.memory_index.proofs.RecordsAtEnd.{apart_ends, broken_stays, ended_stays}
use Rattle.memory_index.proofs.memory_index.MemoryIndex.finish_apart.Goals as goal

pub returns-in_err-finish-clause-stays : goal.returns-in_err-finish-clause-stays
returns-in_err-finish-clause-stays g c = λ told was.
    let es = entries_on (g.D.Disk.state c.args.disk.now) in
    let old = c.args.self.now in
    let copied : c.in_ok-update.update ≡ old.update = c.in_ok-update.ensures in
    let some : old.update ≢ [] = λ over. let ended = c.ended.ensures.ended.1 (copied ∙ over) in absurd (let not = c.if-ended.false in cc) in
    let before = subst (λ names. TellsSeen es old.map (name_bytes names)) (sym copied) was.seen in
    let after = subst (λ names. TellsSeen es c.finish.new.map (name_bytes names)) (c.in_err-finish.ensures.kept ∙ copied) (c.in_err-finish.ensures.tells told before) in
    broken_stays es old (record { map = c.finish.new.map; update = old.update }) some refl after

pub returns-clause-tells : goal.returns-clause-tells
returns-clause-tells g c = λ told was.
    let old = c.args.self.now in
    let copied : c.in_ok-update.update ≡ old.update = c.in_ok-update.ensures in
    let some : old.update ≢ [] = λ over. let ended = c.ended.ensures.ended.1 (copied ∙ over) in absurd (let not = c.if-ended.false in cc) in
    apart_ends (entries_on (g.D.Disk.state c.args.disk.now)) old c.in_ok-update.update c.finish.new.self c.finish.new.map copied some (c.in_ok-finish.ensures.slice told) c.in_ok-finish.ensures.ended was

pub returns-clause-stays : goal.returns-clause-stays
returns-clause-stays g c = λ told was.
    let old = c.args.self.now in
    let copied : c.in_ok-update.update ≡ old.update = c.in_ok-update.ensures in
    let some : old.update ≢ [] = λ over. let ended = c.ended.ensures.ended.1 (copied ∙ over) in absurd (let not = c.if-ended.false in cc) in
    let es = entries_on (g.D.Disk.state c.args.disk.now) in
    ended_stays es (record { map = c.finish.new.map; update = old.update })
    (apart_ends es old c.in_ok-update.update c.finish.new.self c.finish.new.map copied some (c.in_ok-finish.ensures.slice told) c.in_ok-finish.ensures.ended was)
