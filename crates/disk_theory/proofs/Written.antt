-- What stands after a file was written to.
use Rattle.std.proofs.Common.{◌≡◌, ◌≢◌, ℕ, List, Option, Some, None, refl, ap, ◌∙◌}
use Rattle.disk_theory.specs.declared.place.Place.{Place}
use Rattle.disk_theory.specs.State.{State, Names, names_after, names_now, content_of, standing}
use Rattle.disk_theory.specs.Sound.{IsSound}
use Rattle.disk_theory.specs.Standing.{PutsContent}
use Rattle.disk_theory.specs.Writes.{WritesTo, WritesAt}
use Rattle.disk_theory.proofs.Files.{content_of-same}

same_names : (file : ℕ) (P : List ℕ → Type 0) (s t : State) → WritesTo file P s t → names_now t ≡ names_now s
same_names file P s t writes = λ i. names_after (writes.names i) (writes.steps i)

pub writes_puts : (place : Place) (P : List ℕ → Type 0) (s t : State) (c d : List ℕ) → IsSound s → standing s place ≡ Some c → WritesAt place P s t → standing t place ≡ Some d
    → PutsContent place (Some d) s t
writes_puts place P s t c d sound stands writes now = go (names_now s place) refl
  where
    go : (at : Option ℕ) → names_now s place ≡ at → PutsContent place (Some d) s t
    go None is = let none : standing s place ≡ None = ap (content_of s.files) is in cc
    go (Some file) is = record { here = now; others = others }
      where
        others : (other : Place) → other ≢ place → standing t other ≡ standing s other
        others other apart =
            let wrote = writes file is in
            ap (λ (names : Names). content_of t.files (names other)) (same_names file P s t wrote)
            ∙ content_of-same s.files t.files (names_now s other) (λ k at. wrote.others k (λ same. apart (sound.one_place 0 other place file (at ∙ ap Some same) is)))
