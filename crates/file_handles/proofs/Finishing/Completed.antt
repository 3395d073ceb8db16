-- A draft that is finished.
use Rattle.std.proofs.Common.{◌≡◌, inr, ℕ, List, Bool, true, false, ◌||◌, not, Some, is_some, refl, sym, ap, subst, ◌∙◌}
use Rattle.cache_theory.specs.Machine.{Object as MachineObject}
use Rattle.cache_theory.specs.Stands.{is_aside, object_file}
use Rattle.cache_theory.proofs.EntryFiles.{finished_file_is, unfinished_there}
use Rattle.cache_theory.proofs.ObjectLaws.HeldAside.{doomed_aside}
use Rattle.chunk_store.specs.Stored.{unfinished_file}
use Rattle.disk_theory.specs.State.{State, names_now, standing}
use Rattle.disk_theory.specs.Writes.{WritesAt}
use Rattle.disk_theory.specs.declared.place.Place.{Place}
use Rattle.entry_file.specs.Held.{held}
use Rattle.entry_file.specs.NewEntry.{HasBody, finished}
use Rattle.entry_file.specs.Version.{file_of, version_meta}
use Rattle.entry_metadata.specs.Meta.{meta_of}
use Rattle.entry_metadata.specs.declared.meta.Meta.{Meta}
use Rattle.entry_name.specs.EntryName.{file_name}
use Rattle.entry_parts.specs.Elements.{Element}
use Rattle.entry_parts.specs.declared.header.Header.{Header}
use Rattle.file_handles.specs.Changes.{IsFiledAs, IsMomentOf}
use Rattle.file_handles.specs.Publishing.{BecomesWhole, aside_by}
use Rattle.handle_table.specs.Held.{IsDraftOf, IsEntryOf, IsHeldAs, object_place, object_with}
use Rattle.handle_table.specs.declared.object.Draft.{Draft}
use Rattle.handle_table.specs.declared.object.Entry.TheVariants as entry
use Rattle.handle_table.specs.declared.object.Object.{Object}
use Rattle.file_handles.proofs.Finishing.Completions.{IsCompletion}
use Rattle.file_handles.proofs.Reading.HeldChunkLaws.{keeps_completed}
use Rattle.file_handles.proofs.Changed.{writes_weaker}

-- by a change, with the header and the elements that are written
module _ (change : MachineObject → MachineObject) (finishes : IsCompletion change) (x : Object) (d : Draft) (is : x.entry ≡ entry.Draft d) (h : Header) (es : List Element)
    (version_is : (o : MachineObject) → IsDraftOf d o.version → finished h d.key es o.version.body ≡ (change o).version) where
  draft_of : (o : MachineObject) → IsHeldAs x o → IsEntryOf (entry.Draft d) o
  draft_of o held = subst (λ z. IsEntryOf z o) is held.held_entry

  was_draft : (o : MachineObject) (s : State) → IsFiledAs x o s → IsEntryOf (entry.Draft d) o
  was_draft o s filed = draft_of o filed.as_held

  -- it stands aside where it is doomed
  aside_then : (o : MachineObject) → IsHeldAs x o → is_some (aside_by x.doomed x.aside) ≡ is_aside (change o)
  aside_then o as_held = go x.doomed refl
    where
      doomed_is : x.doomed ≡ (change o).doomed
      doomed_is = as_held.doomed ∙ sym (finishes.doomed o)

      go : (b : Bool) → x.doomed ≡ b → is_some (aside_by b x.aside) ≡ is_aside (change o)
      go true e = as_held.aside ∙ doomed_aside o (sym as_held.doomed ∙ e) ∙ sym (doomed_aside (change o) (sym doomed_is ∙ e))
      go false e = sym ((λ i. (sym doomed_is ∙ e) i || not (finishes.done o i)))

  -- it is held as the finished object
  pub completed_held : (meta : Meta) → ((body : List ℕ) → HasBody (held d.body) body → meta_of meta ≡ version_meta (finished h d.key es body)) → (o : MachineObject) → IsHeldAs x o
      → IsHeldAs (object_with x.number x.name x.doomed (aside_by x.doomed x.aside) (entry.Finished meta)) (change o)
  completed_held meta metas o as_held =
      let was = draft_of o as_held in
      record {
        named = as_held.named ∙ ap file_name (sym (finishes.key o));
        doomed = as_held.doomed ∙ sym (finishes.doomed o);
        aside = aside_then o as_held;
        held_entry = (finishes.done o, metas o.version.body was.1.body ∙ ap version_meta (version_is o was.1));
      }

  module _ (s t : State) (place : Place) (at : place ≡ object_place x) where
    stood : (o : MachineObject) → IsFiledAs x o s → standing s place ≡ Some (unfinished_file o.version.body)
    stood o filed = ap (standing s) at ∙ unfinished_there o (standing s (object_place x)) (was_draft o s filed).0 filed.file

    -- its file gets the moment of that version
    pub completed_writes : ((body : List ℕ) → HasBody (held d.body) body → standing s place ≡ Some (unfinished_file body) → WritesAt place (λ c. c ≡ file_of (finished h d.key es body)) s t)
        → (o : MachineObject) → IsFiledAs x o s → WritesAt (object_place x) (IsMomentOf (change o)) s t
    completed_writes writes o filed file now =
        let was = was_draft o s filed in
        writes_weaker s t file (λ c. c ≡ file_of (finished h d.key es o.version.body)) (IsMomentOf (change o)) (λ c e. inr (finishes.done o, e ∙ ap file_of (version_is o was.1)))
        (writes o.version.body was.1.body (stood o filed) file (ap (names_now s) at ∙ now))

    -- which it then is
    pub completed_stands : ((body : List ℕ) → HasBody (held d.body) body → standing s place ≡ Some (unfinished_file body) → standing t place ≡ Some (file_of (finished h d.key es body)))
        → (o : MachineObject) → IsFiledAs x o s → standing t (object_place x) ≡ Some (object_file (change o))
    completed_stands stands o filed =
        let was = was_draft o s filed in
        ap (standing t) (sym at)
        ∙ stands o.version.body was.1.body (stood o filed)
        ∙ ap (λ v. Some (file_of v)) (version_is o was.1)
        ∙ ap (λ c. Some c) (sym (finished_file_is (change o) (finishes.done o)))

    -- and it is the finished entry
    pub completed_becomes : (meta : Meta) → ((body : List ℕ) → HasBody (held d.body) body → meta_of meta ≡ version_meta (finished h d.key es body))
        → ((body : List ℕ) → HasBody (held d.body) body → standing s place ≡ Some (unfinished_file body) → standing t place ≡ Some (file_of (finished h d.key es body)))
        → (o : MachineObject) → IsFiledAs x o s → BecomesWhole change x (object_with x.number x.name x.doomed (aside_by x.doomed x.aside) (entry.Finished meta)) o t
    completed_becomes meta metas stands o filed =
        let was = was_draft o s filed in
        record {
          same_object = refl;
          keeps_chunks = keeps_completed change finishes o was.0;
          same_name = refl;
          aside = refl;
          as_held = completed_held meta metas o filed.as_held;
          file = completed_stands stands o filed;
        }
