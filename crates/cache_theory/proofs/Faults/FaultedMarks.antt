-- The marks of commands of which some are answered `fault`.
use Rattle.std.proofs.Common.{◌≡◌, ℕ, ◌+◌, ◌-◌, List, ◌++◌, length, take, drop, refl, sym, ap, ap₂, subst, ◌∙◌, arith, length-append, length-take-le, length-drop, take-append-drop, take-take}
use Rattle.std.proofs.Math.Seq.{take-add, take-append-add, take-append_seam}
use Rattle.std.proofs.lemmas.List.{drop_at}
use Rattle.cache_theory.specs.Command.{Command}
use Rattle.cache_theory.specs.Faulted.{AreFaults, unfaulted}
use Rattle.cache_theory.specs.Machine.{Machine}
use Rattle.cache_theory.specs.Marks.{Marks, all_acked, all_begun, marks_of}
use Rattle.cache_theory.specs.Session.{MarksAreOfKept, marks_between}
use Rattle.cache_theory.specs.Step.{after}
use Rattle.cache_theory.proofs.Faults.FaultedOn.{faults_are_in_front, kept_are_counted}

-- the marks where some commands are acknowledged, and so many of those after them have begun
marks_behind : Machine → List Command → List Command → Marks
marks_behind m acked more = all_begun (after m acked) more (all_acked m acked (marks_of m))

marks_joined : (m : Machine) (acked more : List Command) (k : ℕ) → marks_between m (acked ++ more) (length acked) (length acked + k) ≡ marks_behind m acked (take k more)
unfolding marks_behind
marks_joined m acked more k =
    let front : take (length acked) (acked ++ more) ≡ acked = take-append_seam acked more in
    let rest : drop (length acked) (take (length acked + k) (acked ++ more)) ≡ take k more =
    ap (drop (length acked)) (take-append-add acked more k) ∙ drop_at acked (take k more) (length acked) refl in
    ap₂ (λ cs ds. all_begun (after m cs) ds (all_acked m cs (marks_of m))) front rest

pub marks_are_of_kept : MarksAreOfKept
marks_are_of_kept m cs faults a b within most rising =
    let first : List Command = take a cs in
    let others : List Command = drop a cs in
    let k : ℕ = b - a in
    let kept : List Command = unfaulted faults first in
    let long : length first ≡ a = length-take-le a cs (omega (arith, within, most)) in
    let are_faults : AreFaults (length first) faults = subst (λ n. AreFaults n faults) (sym long) rising in
    let counted = kept_are_counted first faults are_faults in
    let number : length kept ≡ a - length faults = omega (arith, counted, long) in
    let last : b ≡ a + k = omega (arith, within) in
    let taken : take b cs ≡ first ++ take k others = ap (λ n. take n cs) last ∙ take-add a k cs in
    let some : unfaulted faults (take b cs) ≡ kept ++ take k others = ap (unfaulted faults) taken ∙ (faults_are_in_front m first (take k others) faults are_faults).kept in
    let all : unfaulted faults cs ≡ kept ++ others = ap (unfaulted faults) (sym (take-append-drop a cs)) ∙ (faults_are_in_front m first others faults are_faults).kept in
    let size : length others ≡ length cs - a = length-drop a cs in
    let begun : length (take k others) ≡ k = length-take-le k others (omega (arith, size, within, most)) in
    let whole : length (unfaulted faults (take b cs)) ≡ length kept + k = ap length some ∙ length-append kept (take k others) ∙ ap (λ n. length kept + n) begun in
    let end : length kept + k ≡ b - length faults = omega (arith, counted, long, within) in
    ap₂ (λ ds n. marks_between m ds (length kept) n) some whole
    ∙ marks_joined m kept (take k others) k
    ∙ ap (marks_behind m kept) (take-take k k others (omega arith))
    ∙ sym (marks_joined m kept others k)
    ∙ ap₂ (λ n j. marks_between m (kept ++ others) n j) number end
    ∙ ap (λ ds. marks_between m ds (a - length faults) (b - length faults)) (sym all)
