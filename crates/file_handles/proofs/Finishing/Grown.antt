-- A draft that gets bytes more.
use Rattle.std.proofs.Common.{◌≡◌, refl, inl, inr, List, ◌++◌, Some, sym, ap, subst, ◌∙◌, ℕ}
use Rattle.cache_theory.specs.Machine.{Object as MachineObject}
use Rattle.cache_theory.proofs.EntryFiles.{unfinished_file_is, unfinished_there}
use Rattle.chunk_cache.specs.Cached.{CachedChunk}
use Rattle.chunk_store.specs.Stored.{unfinished_file}
use Rattle.disk_theory.specs.State.{State, names_now, standing}
use Rattle.disk_theory.specs.Writes.{WritesAt}
use Rattle.disk_theory.specs.declared.place.Place.{Place}
use Rattle.entry_file.specs.Held.{held}
use Rattle.entry_file.specs.NewEntry.{HasBody}
use Rattle.entry_file.specs.Unfinished.{IsUnfinished}
use Rattle.file_handles.specs.Changes.{Becomes, IsFiledAs, IsMomentOf, appended}
use Rattle.handle_table.specs.Held.{IsDraftOf, IsEntryOf, object_place}
use Rattle.handle_table.specs.declared.object.Draft.{Draft}
use Rattle.handle_table.specs.declared.object.Entry.TheVariants as entry
use Rattle.handle_table.specs.declared.object.Object.{Object}
use Rattle.file_handles.proofs.Reading.HeldChunkLaws.{keeps_appended}
use Rattle.file_handles.proofs.Changed.{writes_weaker}

module _ (x : Object) (d : Draft) (is : x.entry ≡ entry.Draft d) (b : List ℕ) (s t : State) (place : Place) (at : place ≡ object_place x) where
  -- its file gets no moment that fits
  pub grown_writes : WritesAt place IsUnfinished s t → (o : MachineObject) → IsFiledAs x o s → WritesAt (object_place x) (IsMomentOf (appended b o)) s t
  grown_writes writes o filed file now = writes_weaker s t file IsUnfinished (IsMomentOf (appended b o)) (λ c un. inl un.unfit) (writes file (ap (names_now s) at ∙ now))

  -- and it is the draft of the longer body
  pub grown_becomes : {held_chunks : List CachedChunk} (e : Draft) → e.header ≡ d.header → e.key ≡ d.key → e.elements ≡ d.elements
      → ((body : List ℕ) → HasBody (held d.body) body → HasBody (held e.body) (body ++ b))
      → ((body : List ℕ) → HasBody (held d.body) body → standing s place ≡ Some (unfinished_file body) → standing t place ≡ Some (unfinished_file (body ++ b)))
      → (o : MachineObject) → IsFiledAs x o s → Becomes held_chunks x (record { number = x.number; name = x.name; doomed = x.doomed; aside = x.aside; entry = entry.Draft e }) o (appended b o) t
  grown_becomes e header key elements body stands o filed =
      let was : IsEntryOf (entry.Draft d) o = subst (λ z. IsEntryOf z o) is filed.as_held.held_entry in
      let now : IsDraftOf e (appended b o).version = record {
        body = body o.version.body was.1.body;
        header = header ∙ was.1.header;
        key = key ∙ was.1.key;
        elements = elements ∙ was.1.elements;
      } in
      record {
        same_object = refl;
        keeps_chunks = inr (keeps_appended b o was.0);
        same_place = refl;
        same_name = refl;
        same_number = refl;
        as_held = record { named = filed.as_held.named; doomed = filed.as_held.doomed; aside = filed.as_held.aside; held_entry = (was.0, now) };
        file =
            ap (standing t) (sym at)
            ∙ stands o.version.body was.1.body (ap (standing s) at ∙ unfinished_there o (standing s (object_place x)) was.0 filed.file)
            ∙ ap (λ c. Some c) (sym (unfinished_file_is (appended b o) was.0));
      }
