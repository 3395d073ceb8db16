-- The marks where the file of an object is finished or written anew.
use Rattle.std.proofs.Common.{◌≡◌, ℕ, List, [], ◌∷◌, ◌++◌, Bool, true, false, Some, None, refl, sym, ap, subst, ◌∙◌, arith}
use Rattle.std.specs.Prelude.{Any, if◌then◌else◌}
use Rattle.std.specs.List.{list_any}
use Rattle.std.specs.Str.{bytes_eq}
use Rattle.std.proofs.lemmas.Bool.{or_left}
use Rattle.std.proofs.lemmas.Slice.Eq.{bytes_eq-Decides}
use Rattle.cache_base.specs.Checks.{first_failing}
use Rattle.cache_theory.specs.Checks.{checks}
use Rattle.cache_theory.specs.Command.{Command}
use Rattle.cache_theory.specs.Machine.{Machine, Object as MachineObject, object}
use Rattle.cache_theory.specs.Marks.{IsSince, Marks, Written, begun, begun_by, is_buried, is_in_place, is_touched, name_of_some, put_out, rewritten, rewritten_in_place, touches, unburied_name, undoomed_name}
use Rattle.cache_theory.specs.Step.{effect}
use Rattle.entry_file.specs.Version.{Version}
use Rattle.entry_name.specs.EntryName.{file_name}
use Rattle.file_handles.proofs.Changed.{MayGoOut}
use Rattle.file_handles.proofs.Finishing.Published.{MayFinish}

-- a name that a command touches
pub named_here : (o : MachineObject) (more : List (List ℕ)) → o.doomed ≡ false → list_any (bytes_eq (file_name o.version.key)) (undoomed_name o ++ more) ≡ true
named_here o more un =
    let name : List ℕ = file_name o.version.key in
    ap (λ (b : Bool). list_any (bytes_eq name) ((if b then [] else name ∷ []) ++ more)) un
    ∙ or_left (bytes_eq name name) (list_any (bytes_eq name) more) ((bytes_eq-Decides name name).1 refl)

-- and one under which it rewrites metadata
unburied_here : (buried : Bool) (name : List ℕ) (more : List (List ℕ)) → buried ≡ false → list_any (bytes_eq name) ((if buried then [] else name ∷ []) ++ more) ≡ true
unburied_here true name more un = absurd (cc)
unburied_here false name more un = or_left (bytes_eq name name) (list_any (bytes_eq name) more) ((bytes_eq-Decides name name).1 refl)

-- a version that it puts out
put_here : (buried : Bool) (v : Version) (more : List Written) → buried ≡ false
    → Any (λ (written : Written). (written.name ≡ file_name v.key) × (written.version ≡ v)) ((if buried then [] else record { name = file_name v.key; version = v } ∷ []) ++ more)
put_here true v more un = absurd (cc)
put_here false v more un = (0, record { name = file_name v.key; version = v }, omega arith, refl, (refl, refl))

module _ (m : Machine) (c : Command) (w : Marks) (passes : first_failing (checks m c) ≡ None) (i : ℕ) (o : MachineObject) (writes : rewritten m c ≡ Some i) where
  begun_is : begun m c w ≡ begun_by None m c w
  begun_is = ap (λ r. begun_by r m c w) passes

  touched_out : touches m c ≡ name_of_some m (rewritten m c) → o.version.key ≡ (object m i).version.key → o.doomed ≡ (object m i).doomed → o.doomed ≡ false
      → is_touched (begun_by None m c w) (file_name o.version.key) ≡ true
  touched_out touched key doomed un =
      ap (λ names. list_any (bytes_eq (file_name o.version.key)) (names ++ w.touched)) (touched ∙ ap (name_of_some m) writes)
      ∙ ap (λ k. list_any (bytes_eq (file_name k)) (undoomed_name (object m i) ++ w.touched)) key
      ∙ named_here (object m i) w.touched (sym doomed ∙ un)

  since_out : object (effect m c).next i ≡ o → is_buried w i ≡ false → IsSince (begun_by None m c w) (file_name o.version.key) o.version
  since_out becomes unburied =
      let out : put_out w (effect m c).next (rewritten m c) ≡ (if is_buried w i then [] else record { name = file_name o.version.key; version = o.version } ∷ []) =
      ap (put_out w (effect m c).next) writes ∙ ap (λ (v : MachineObject). if is_buried w i then [] else record { name = file_name v.version.key; version = v.version } ∷ []) becomes in
      subst (λ new. Any (λ (written : Written). (written.name ≡ file_name o.version.key) × (written.version ≡ o.version)) (new ++ w.since)) (sym out)
      (put_here (is_buried w i) o.version w.since unburied)

  in_place_out : rewritten_in_place m c ≡ rewritten m c → o.version.key ≡ (object m i).version.key → is_buried w i ≡ false → is_in_place (begun_by None m c w) (file_name o.version.key) ≡ true
  in_place_out same key unburied =
      ap (λ names. list_any (bytes_eq (file_name o.version.key)) (names ++ w.in_place)) (ap (unburied_name w m) (same ∙ writes))
      ∙ ap (λ k. list_any (bytes_eq (file_name k)) (unburied_name w m (Some i) ++ w.in_place)) key
      ∙ unburied_here (is_buried w i) (file_name (object m i).version.key) w.in_place unburied

  -- an object whose metadata a command rewrites in place
  pub goes_out : rewritten_in_place m c ≡ rewritten m c → touches m c ≡ name_of_some m (rewritten m c) → object (effect m c).next i ≡ o → o.version.key ≡ (object m i).version.key → o.doomed ≡ (object m i).doomed
      → MayGoOut (begun m c w) i o
  goes_out same touched becomes key doomed = subst (λ v. MayGoOut v i o) (sym begun_is) (record {
    touched = touched_out touched key doomed;
    since = λ done unburied. since_out becomes unburied;
    in_place = λ done unburied. in_place_out same key unburied;
  })

  -- and one that a command finishes
  pub finishes_out : touches m c ≡ name_of_some m (rewritten m c) → object (effect m c).next i ≡ o → o.version.key ≡ (object m i).version.key → o.doomed ≡ (object m i).doomed → MayFinish (begun m c w) i o
  finishes_out touched becomes key doomed =
      subst (λ v. MayFinish v i o) (sym begun_is) (record { touched = touched_out touched key doomed; since = λ unburied. since_out becomes unburied })
