-- Contents that are laid over names, one after another.
use Rattle.std.proofs.Common.{◌≡◌, inl, inr, ℕ, ◌+◌, ◌<◌, List, [], ◌∷◌, ◌++◌, length, take, get_or, Option, Some, None, IsSome, Bool, true, false, refl, sym, ◌∙◌, ap, subst, if◌then◌else◌}
use Rattle.std.proofs.lemmas.List.{take_more}
use Rattle.std.proofs.lemmas.Bool.{cases_Bool}
use Rattle.disk_theory.specs.declared.place.Place.{Place}
use Rattle.disk_theory.specs.Place.{is_same}
use Rattle.disk_theory.specs.State.{File, Names, State, with_name, standing}
use Rattle.disk_theory.specs.Image.{MayStand}
use Rattle.disk_theory.specs.Standing.{PutsContent}
use Rattle.disk_model.specs.MemFile.{nth_file}
use Rattle.disk_model.specs.MemImage.{Given, image_of, ArePlacesApart}
use Rattle.disk_model.specs.MemFill.{IsAnywhere, IsNowhere, AreMade, MayStandAll, IsTaken, AreTaken}
use Rattle.disk_model.specs.declared.mem_file.MemFile.{MemFile}
use Rattle.disk_theory.proofs.Places.{one_same, never}
use Rattle.disk_model.proofs.MemSlots.{none_stands}
use Rattle.disk_model.proofs.MemImages.{image_here, image_late, image_beside, apart_pushed, none_before, image_at}

none_may_hold : (files : ℕ → File) (at : Option ℕ) (content : List ℕ) → at ≡ None → MayStand files at (Some content) → ⊥
none_may_hold files None content is may = may
none_may_hold files (Some f) content is may = cc

some_may_not : (files : ℕ → File) (at : Option ℕ) → IsSome at → MayStand files at None → ⊥
some_may_not files None some may = cc
some_may_not files (Some f) some may = may

module _ (files : List MemFile) (before now : Names) (done : Given) (taken : AreTaken files before now done) where
  pub made_still : AreMade files before → AreMade files now
  made_still made place file is = go (image_of done place) (taken place)
    where
      go : (o : Option (List ℕ)) → IsTaken (nth_file files) (before place) (now place) o → file < length files
      go None same = made place file (sym same ∙ is)
      go (Some c) gone = let never_so : None ≡ Some file = sym gone.0 ∙ is in cc

  -- a place at which something may still stand was not met
  pub unmet : (place : Place) (content : List ℕ) → MayStand (nth_file files) (now place) (Some content) → (image_of done place ≡ None) × (now place ≡ before place)
  unmet place content may = go (image_of done place) refl (taken place)
    where
      go : (o : Option (List ℕ)) → image_of done place ≡ o → IsTaken (nth_file files) (before place) (now place) o → (image_of done place ≡ None) × (now place ≡ before place)
      go None is same = (is, same)
      go (Some c) is gone = absurd (none_may_hold (nth_file files) (now place) content gone.0 may)

  pub same_if_unmet : (place : Place) → image_of done place ≡ None → now place ≡ before place
  same_if_unmet place none = subst (IsTaken (nth_file files) (before place) (now place)) none (taken place)

  -- one more is taken off
  pub taken_more : (next : Names) (place : Place) (content : List ℕ) → next ≡ with_name place None now → MayStand (nth_file files) (now place) (Some content)
      → AreTaken files before next (done ++ (place, content) ∷ [])
  taken_more next place content is may q = elim (cases_Bool (is_same q place)) [ inl same ↦ here same | inr other ↦ elsewhere other ]
    where
      read : (b : Bool) → is_same q place ≡ b → next q ≡ (if b then None else now q)
      read b same = ap (λ (names : Names). names q) is ∙ ap (λ (c : Bool). if c then None else now q) same

      met : (image_of done place ≡ None) × (now place ≡ before place)
      met = unmet place content may

      here : is_same q place ≡ true → IsTaken (nth_file files) (before q) (next q) (image_of (done ++ (place, content) ∷ []) q)
      here same =
          let at : place ≡ q = sym (one_same q place same) in
          let image : image_of (done ++ (place, content) ∷ []) q ≡ Some content =
          ap (image_of (done ++ (place, content) ∷ [])) (sym at) ∙ image_late done ((place, content) ∷ []) place met.0 ∙ image_here place content [] in
          let stands : MayStand (nth_file files) (before q) (Some content) =
          subst (λ (r : Place). MayStand (nth_file files) (before r) (Some content)) at (subst (λ (o : Option ℕ). MayStand (nth_file files) o (Some content)) met.1 may) in
          subst (IsTaken (nth_file files) (before q) (next q)) (sym image) (read true same, stands)

      elsewhere : is_same q place ≡ false → IsTaken (nth_file files) (before q) (next q) (image_of (done ++ (place, content) ∷ []) q)
      elsewhere other = go
        where
          image : image_of (done ++ (place, content) ∷ []) q ≡ image_of done q
          image = image_beside done place q content (λ e. never place q e other)

          go : IsTaken (nth_file files) (before q) (next q) (image_of (done ++ (place, content) ∷ []) q)
          go = subst (IsTaken (nth_file files) (before q) (next q)) (sym image) (subst (λ (o : Option ℕ). IsTaken (nth_file files) (before q) o (image_of done q)) (sym (read false other)) (taken q))

  -- what is refused may not stand
  pub refused_at : (given : Given) (place : Place) (content : List ℕ) → image_of done place ≡ None → image_of given place ≡ Some content
      → (MayStand (nth_file files) (now place) (Some content) → ⊥) → MayStandAll files before given → ⊥
  refused_at given place content none image refuses all =
      refuses (subst (λ (o : Option ℕ). MayStand (nth_file files) o (Some content)) (sym (same_if_unmet place none)) (subst (MayStand (nth_file files) (before place)) image (all place)))

-- all are taken off
module _ (files : List MemFile) (before now : Names) (given : Given) (taken : AreTaken files before now given) where
  pub may_stand_all : IsNowhere now → MayStandAll files before given
  may_stand_all nowhere place = go (image_of given place) (taken place)
    where
      go : (o : Option (List ℕ)) → IsTaken (nth_file files) (before place) (now place) o → MayStand (nth_file files) (before place) o
      go None same = subst (λ (o : Option ℕ). MayStand (nth_file files) o None) (sym (nowhere place) ∙ same) tt
      go (Some c) gone = gone.1

  pub missing_one : IsAnywhere now → MayStandAll files before given → ⊥
  missing_one anywhere all = go (image_of given anywhere.0) (taken anywhere.0) (all anywhere.0)
    where
      go : (o : Option (List ℕ)) → IsTaken (nth_file files) (before anywhere.0) (now anywhere.0) o → MayStand (nth_file files) (before anywhere.0) o → ⊥
      go None same may = some_may_not (nth_file files) (before anywhere.0) (subst IsSome same anywhere.1) may
      go (Some c) gone may = none_stands (now anywhere.0) gone.0 anywhere.1

-- the table with one more
pub stands_more : (old new : State) (done : Given) (place : Place) (content : List ℕ) → image_of done place ≡ None → PutsContent place (Some content) old new
    → ((q : Place) → standing old q ≡ image_of done q) → (q : Place) → standing new q ≡ image_of (done ++ (place, content) ∷ []) q
stands_more old new done place content none puts stands q = elim (cases_Bool (is_same q place)) [ inl same ↦ here same | inr other ↦ elsewhere other ]
  where
    here : is_same q place ≡ true → standing new q ≡ image_of (done ++ (place, content) ∷ []) q
    here same =
        let at : q ≡ place = one_same q place same in
        ap (standing new) at ∙ puts.here ∙ sym (image_late done ((place, content) ∷ []) place none ∙ image_here place content []) ∙ ap (image_of (done ++ (place, content) ∷ [])) (sym at)

    elsewhere : is_same q place ≡ false → standing new q ≡ image_of (done ++ (place, content) ∷ []) q
    elsewhere other =
        let apart : q ≡ place → ⊥ = λ e. never place q e other in
        puts.others q apart ∙ stands q ∙ sym (image_beside done place q content apart)

-- The loop, by the number of the pair.

module _ (files : List MemFile) (before now : Names) (given : Given) (i : ℕ) (e : Place × List ℕ) (lt : i < length given) (is : e ≡ get_or given i e) where
  abbrev done : Given
  done = take i given

  grown : take (i + 1) given ≡ done ++ e ∷ []
  grown = take_more given i e lt ∙ ap (λ (f : Place × List ℕ). done ++ f ∷ []) (sym is)

  pub loop_refused : AreTaken files before now done → (MayStand (nth_file files) (now e.0) (Some e.1) → ⊥) → ArePlacesApart given → MayStandAll files before given → ⊥
  loop_refused taken refuses apart all =
      let none : image_of done e.0 ≡ None = subst (λ (f : Place × List ℕ). image_of done f.0 ≡ None) (sym is) (none_before given i e lt apart) in
      let image : image_of given e.0 ≡ Some e.1 =
      subst (λ (f : Place × List ℕ). image_of given f.0 ≡ Some f.1) (sym is) (image_at given i e lt (subst (λ (f : Place × List ℕ). image_of done f.0 ≡ None) is none)) in
      refused_at files before now done taken given e.0 e.1 none image refuses all

  module _ (taken : AreTaken files before now done) (may : MayStand (nth_file files) (now e.0) (Some e.1)) where
    none_yet : image_of done e.0 ≡ None
    none_yet = (unmet files before now done taken e.0 e.1 may).0

    pub loop_apart : ArePlacesApart done → ArePlacesApart (take (i + 1) given)
    loop_apart apart = subst ArePlacesApart (sym grown) (apart_pushed done e.0 e.1 none_yet apart)

    pub loop_taken : (next : Names) → next ≡ with_name e.0 None now → AreTaken files before next (take (i + 1) given)
    loop_taken next set = subst (AreTaken files before next) (sym grown) (taken_more files before now done taken next e.0 e.1 set may)

    pub loop_stands : (old new : State) → PutsContent e.0 (Some e.1) old new → ((q : Place) → standing old q ≡ image_of done q) → (q : Place) → standing new q ≡ image_of (take (i + 1) given) q
    loop_stands old new puts stands = subst (λ (g : Given). (q : Place) → standing new q ≡ image_of g q) (sym grown) (stands_more old new done e.0 e.1 none_yet puts stands)
