use Rattle.std.proofs.Common.{◌≡◌, ◌-◌, ◌≤◌, List, Result, Ok, Err, IsErrAnd, length, reverse, sym, ◌∙◌, ap, subst, arith, rules}
use Rattle.std.proofs.lemmas.List.{length-reverse}
use Rattle.disk_theory.specs.State.{Names}
use Rattle.disk_theory.specs.Sound.{names_before}
use Rattle.disk_model.specs.MemSlots.{names_in}
use Rattle.disk_model.specs.MemTable.{state_of}
use Rattle.disk_model.specs.MemFill.{AreMade, MayStandAll}
use Rattle.disk_model.specs.MemImage.{Given}
use Rattle.disk_model.specs.declared.mem_file.MemFile.{MemFile}
use Rattle.disk_model.specs.declared.mem_table.Table.{Table}
use Rattle.disk_model.specs.declared.mem_image.ImageFault.{ImageFault}
use Rattle.disk_model.specs.declared.mem_image.ImageFault.TheVariants.{NotAnImage}
use Rattle.disk_model.proofs.MemReplay.{replayed_made}
use Rattle.disk_model.proofs.MemFill.{may_stand_all, missing_one}
use Rattle.disk_model.proofs.mem_image.image.Goals as goal

same_fault : (r : Result Table ImageFault) (fault : ImageFault) → IsErrAnd r (λ f. f ≡ fault) → r ≡ Err NotAnImage → ◌≡◌ {A = Result Table ImageFault} (Err fault) (Err NotAnImage)
same_fault (Ok table) fault and is = cc
same_fault (Err f) fault and is = ap Err (sym and) ∙ is

-- the files and the names that the loop reads
read : (files fs : List MemFile) (names stands : Names) (given : Given) → fs ≡ files → stands ≡ names → MayStandAll files names given → MayStandAll fs stands given
read files fs names stands given same is all = subst (λ (gs : List MemFile). MayStandAll gs stands given) (sym same) (subst (λ (ns : Names). MayStandAll files ns given) (sym is) all)

pub fill-requires : goal.fill-requires
fill-requires c =
    let t = c.args.table.now in
    let left = length (reverse t.steps.items) - c.args.names in
    subst (λ (fs : List MemFile). AreMade fs (names_in c.in_ok-stands.stands)) (sym c.deref.ensures.value) (replayed_made t.slots t.steps.items t.files.items left (names_in c.in_ok-stands.stands) c.in_ok-stands.ensures t.sound)

pub returns-in_err-left-clause-refused : goal.returns-in_err-left-clause-refused
returns-in_err-left-clause-refused c = λ is may.
    let t = c.args.table.now in
    let left = length (reverse t.steps.items) - c.args.names in
    let fault : c.fill.result ≡ Err NotAnImage = c.in_err-left.was ∙ same_fault c.from_residual-in_err-left.result c.in_err-left.field-0.0 c.from_residual-in_err-left.ensures.1 is in
    c.fill.ensures.refused fault may.0
    (read t.files.items c.deref.result.now (names_before (state_of t) left) (names_in c.in_ok-stands.stands) c.args.contents.now c.deref.ensures.value c.in_ok-stands.ensures may.1.1)

pub returns-then-any_stands-clause-refused : goal.returns-then-any_stands-clause-refused
returns-then-any_stands-clause-refused c = λ _ may.
    let t = c.args.table.now in
    let left = length (reverse t.steps.items) - c.args.names in
    missing_one c.deref.result.now (names_in c.in_ok-stands.stands) (names_in c.fill.new.stands) c.args.contents.now c.in_ok-left.ensures.taken c.if-any_stands.ensures
    (read t.files.items c.deref.result.now (names_before (state_of t) left) (names_in c.in_ok-stands.stands) c.args.contents.now c.deref.ensures.value c.in_ok-stands.ensures may.1.1)

pub returns-clause-image : goal.returns-clause-image
returns-clause-image c =
    let t = c.args.table.now in
    let left = length (reverse t.steps.items) - c.args.names in
    let few : c.args.names ≤ length t.steps.items = search rules in
    let all = may_stand_all c.deref.result.now (names_in c.in_ok-stands.stands) (names_in c.fill.new.stands) c.args.contents.now c.in_ok-left.ensures.taken c.if-any_stands.ensures in (
      c.in_ok-left.ensures.apart,
      (
        omega (arith, few, length-reverse t.steps.items),
        read c.deref.result.now t.files.items (names_in c.in_ok-stands.stands) (names_before (state_of t) left) c.args.contents.now (sym c.deref.ensures.value) (sym c.in_ok-stands.ensures) all,
      ),
    )
