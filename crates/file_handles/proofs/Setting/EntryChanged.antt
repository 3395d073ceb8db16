-- An entry whose header and elements are changed, and its file.
use Rattle.std.proofs.Common.{◌≡◌, inr, ℕ, List, Option, Some, true, refl, sym, ap, subst, ◌∙◌, arith}
use Rattle.cache_theory.specs.Machine.{Object as MachineObject}
use Rattle.cache_theory.specs.Stands.{IsObjectFile, object_file}
use Rattle.cache_theory.proofs.EntryFiles.{finished_file_is, unfinished_file_is, unfinished_there}
use Rattle.cache_theory.proofs.CrashImages.Reading.{some_of}
use Rattle.chunk_cache.specs.Cached.{CachedChunk}
use Rattle.disk_theory.specs.State.{State, standing}
use Rattle.disk_theory.specs.Writes.{WritesAt}
use Rattle.disk_theory.specs.declared.place.Place.{Place}
use Rattle.entry_file.specs.Held.{held as held_of}
use Rattle.entry_file.specs.NewEntry.{HasBody}
use Rattle.entry_file.specs.Rewriting.{StoresBody, rewritten}
use Rattle.entry_file.specs.Version.{Version, file_of, version_meta}
use Rattle.entry_file.specs.declared.new_entry.NewEntry.{NewEntry}
use Rattle.entry_file.proofs.StoredBody.{rewrites_to_version}
use Rattle.entry_metadata.specs.Meta.{meta_of}
use Rattle.entry_metadata.specs.Metadata.{Meta as Said}
use Rattle.entry_metadata.specs.declared.meta.Meta.{Meta}
use Rattle.entry_parts.specs.Elements.{Element}
use Rattle.entry_parts.specs.declared.header.Header.{Header}
use Rattle.file_handles.specs.Changes.{Becomes, IsFiledAs, IsMomentOf, with_version}
use Rattle.handle_table.specs.Held.{IsEntryOf, IsHeldAs, object_place, object_with}
use Rattle.handle_table.specs.declared.object.Draft.{Draft as DraftOf}
use Rattle.handle_table.specs.declared.object.Entry.{Entry}
use Rattle.handle_table.specs.declared.object.Entry.TheVariants.{Draft, Finished}
use Rattle.handle_table.specs.declared.object.Object.{Object}
use Rattle.file_handles.proofs.Changed.{writes_weaker}

-- the object with other elements
abbrev pub with_elements : (List Element → List Element) → MachineObject → MachineObject
with_elements es o = with_version (λ v. record v { elements = es v.elements }) o

-- the metadata with another header and other elements
pub record IsMetaWith (hs : Header → Header) (es : List Element → List Element) (old new : Meta) : Type 0 where
  pub header : new.header ≡ hs old.header
  pub key : new.key ≡ old.key
  pub elements : new.elements ≡ es old.elements
  pub hashes : new.hashes ≡ old.hashes
  pub offset : new.offset ≡ old.offset

-- and the draft
pub record IsDraftWith (hs : Header → Header) (es : List Element → List Element) (old new : DraftOf) : Type 0 where
  pub body : new.body ≡ old.body
  pub header : new.header ≡ hs old.header
  pub key : new.key ≡ old.key
  pub elements : new.elements ≡ es old.elements

writes_at_weaker : (place : Place) (P Q : List ℕ → Type 0) (s t : State) → ((c : List ℕ) → P c → Q c) → WritesAt place P s t → WritesAt place Q s t
writes_at_weaker place P Q s t all writes file at = writes_weaker s t file P Q all (writes file at)

module _ (hs : Header → Header) (es : List Element → List Element) where
  abbrev pub with_parts : Version → Version
  with_parts v = record v { header = hs v.header; elements = es v.elements }

  abbrev pub with_changed : MachineObject → MachineObject
  with_changed o = with_version with_parts o

  -- the object is held as it is with these
  pub meta_held : (x : Object) (o : MachineObject) → IsHeldAs x o → (old new : Meta) → x.entry ≡ Finished old → IsMetaWith hs es old new → IsHeldAs (object_with x.number x.name x.doomed x.aside (Finished new)) (with_changed o)
  meta_held x o held old new is with =
      let was : IsEntryOf (Finished old) o = subst (λ (e : Entry). IsEntryOf e o) is held.held_entry in
      let old_is = was.1 in
      record {
        named = held.named;
        doomed = held.doomed;
        aside = held.aside;
        held_entry = (
          was.0,
          λ i. record {
            header = (with.header ∙ ap (λ (m : Said). hs m.header) old_is) i;
            key = (with.key ∙ ap (λ (m : Said). m.key) old_is) i;
            elements = (with.elements ∙ ap (λ (m : Said). es m.elements) old_is) i;
            hashes = (with.hashes ∙ ap (λ (m : Said). m.hashes) old_is) i;
            offset = (with.offset ∙ ap (λ (m : Said). m.offset) old_is) i;
          },
        );
      }

  pub draft_held : (x : Object) (o : MachineObject) → IsHeldAs x o → (old new : DraftOf) → x.entry ≡ Draft old → IsDraftWith hs es old new → IsHeldAs (object_with x.number x.name x.doomed x.aside (Draft new)) (with_changed o)
  draft_held x o held old new is with =
      let was : IsEntryOf (Draft old) o = subst (λ (e : Entry). IsEntryOf e o) is held.held_entry in
      record {
        named = held.named;
        doomed = held.doomed;
        aside = held.aside;
        held_entry = (
          was.0,
          record {
            body = subst (λ (b : NewEntry). HasBody (held_of b) o.version.body) (sym with.body) was.1.body;
            header = with.header ∙ ap hs was.1.header;
            key = with.key ∙ was.1.key;
            elements = with.elements ∙ ap es was.1.elements;
          },
        );
      }

  -- what becomes of an object with another entry
  entry_becomes : {held : List CachedChunk} (x : Object) (o : MachineObject) (s t : State) (e : Entry) → IsFiledAs x o s → IsEntryOf e (with_changed o) → standing t (object_place x) ≡ Some (object_file (with_changed o))
      → Becomes held x (record { number = x.number; name = x.name; doomed = x.doomed; aside = x.aside; entry = e }) o (with_changed o) t
  entry_becomes x o s t e filed is file = record {
    same_object = refl;
    keeps_chunks = inr (record { more = omega arith; same = λ i lt. refl });
    same_place = refl;
    same_name = refl;
    same_number = refl;
    as_held = record { named = filed.as_held.named; doomed = filed.as_held.doomed; aside = filed.as_held.aside; held_entry = is };
    file = file;
  }

  -- an object whose entry is finished
  module _ (x : Object) (o : MachineObject) (s : State) (filed : IsFiledAs x o s) (old new : Meta) (is : x.entry ≡ Finished old) (with : IsMetaWith hs es old new) where
    entry_is : (o.finished ≡ true) × (meta_of old ≡ version_meta o.version)
    entry_is = subst (λ (e : Entry). IsEntryOf e o) is filed.as_held.held_entry

    pub meta_is : meta_of new ≡ version_meta (with_parts o.version)
    meta_is = (meta_held x o filed.as_held old new is with).held_entry.1

    -- a file of it stands, in some version of the format
    its_file : (c : List ℕ) × ((standing s (object_place x) ≡ Some c) × IsObjectFile o c)
    its_file = some_of (standing s (object_place x)) filed.file

    old_file : List ℕ
    old_file = its_file.0

    stands_whole : standing s (object_place x) ≡ Some old_file
    unfolding old_file
    stands_whole = its_file.1.0

    becomes_new : StoresBody (Some old_file) (version_meta (with_parts o.version)) × (rewritten (version_meta (with_parts o.version)) old_file ≡ with_parts o.version)
    unfolding old_file
    becomes_new = rewrites_to_version (with_parts o.version) o.version its_file.0 refl (its_file.1.1.finished entry_is.0)

    -- its file has the body of the new metadata
    pub stores : (place : Place) → place ≡ object_place x → StoresBody (standing s place) (meta_of new)
    stores place same =
        subst (λ (c : Option (List ℕ)). StoresBody c (meta_of new)) (sym (ap (standing s) same ∙ stands_whole))
        (subst (λ (m : Said). StoresBody (Some old_file) m) (sym meta_is) becomes_new.0)

    whole : file_of (rewritten (meta_of new) old_file) ≡ file_of (with_parts o.version)
    whole = ap file_of (ap (λ (m : Said). rewritten m old_file) meta_is ∙ becomes_new.1)

    module _ (t : State) (place : Place) (same : place ≡ object_place x) where
      pub meta_writes : ((content : List ℕ) → standing s place ≡ Some content → WritesAt place (λ c. c ≡ file_of (rewritten (meta_of new) content)) s t)
          → WritesAt (object_place x) (IsMomentOf (with_changed o)) s t
      meta_writes writes =
          subst (λ (q : Place). WritesAt q (IsMomentOf (with_changed o)) s t) same
          (writes_at_weaker place (λ c. c ≡ file_of (rewritten (meta_of new) old_file)) (IsMomentOf (with_changed o)) s t (λ c is. inr (entry_is.0, is ∙ whole))
          (writes old_file (ap (standing s) same ∙ stands_whole)))

      pub meta_becomes : {held : List CachedChunk} → ((content : List ℕ) → standing s place ≡ Some content → standing t place ≡ Some (file_of (rewritten (meta_of new) content)))
          → Becomes held x (record { number = x.number; name = x.name; doomed = x.doomed; aside = x.aside; entry = Finished new }) o (with_changed o) t
      meta_becomes stands =
          entry_becomes x o s t (Finished new) filed (entry_is.0, meta_is)
          (ap (standing t) (sym same) ∙ stands old_file (ap (standing s) same ∙ stands_whole) ∙ ap Some (whole ∙ sym (finished_file_is (with_changed o) entry_is.0)))

  -- one that is being written
  pub draft_becomes : {held : List CachedChunk} (x : Object) (o : MachineObject) (s : State) → IsFiledAs x o s → (old new : DraftOf) → x.entry ≡ Draft old → IsDraftWith hs es old new
      → Becomes held x (record { number = x.number; name = x.name; doomed = x.doomed; aside = x.aside; entry = Draft new }) o (with_changed o) s
  draft_becomes x o s filed old new is with =
      let was = subst (λ (e : Entry). IsEntryOf e o) is filed.as_held.held_entry in
      entry_becomes x o s s (Draft new) filed (draft_held x o filed.as_held old new is with).held_entry
      (unfinished_there o (standing s (object_place x)) was.0 filed.file ∙ ap Some (sym (unfinished_file_is (with_changed o) was.0)))
