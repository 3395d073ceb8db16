-- A finished entry that gets alternative data after its body, and its file.
use Rattle.std.proofs.Common.{◌≡◌, inl, inr, ◌+◌, ◌-◌, ℕ, List, ◌++◌, length, length-append, take, Bool, true, false, Option, None, Some, IfSome, refl, sym, ap, subst, ◌∙◌, arith}
use Rattle.cache_base.specs.Limits.{chunks}
use Rattle.cache_base.specs.declared.name.Name.{Name}
use Rattle.cache_theory.specs.Checks.{with_alt_data}
use Rattle.cache_theory.specs.Machine.{Object as MachineObject}
use Rattle.cache_theory.specs.Proper.{IsObject}
use Rattle.cache_theory.specs.Stands.{IsObjectFile}
use Rattle.cache_theory.proofs.EntryFiles.{finished_file_is}
use Rattle.cache_theory.proofs.CrashImages.Reading.{some_of}
use Rattle.cache_theory.proofs.Versions.{length_hashes_of}
use Rattle.chunk_cache.specs.Cached.{CachedChunk}
use Rattle.chunk_store.specs.Prefixes.{HasChunksWith}
use Rattle.disk_theory.specs.Prefixes.{KeepsPrefix}
use Rattle.disk_theory.specs.Sound.{IsSound}
use Rattle.disk_theory.specs.State.{State, standing}
use Rattle.disk_theory.specs.Writes.{WritesAt}
use Rattle.disk_theory.specs.declared.place.Place.{Place}
use Rattle.disk_theory.proofs.Prefixes.{unreached_is_kept}
use Rattle.entry_file.specs.LongerBody.{StoresShorter, len_before, lengthened}
use Rattle.entry_file.specs.Version.{file_of, version_meta}
use Rattle.entry_file.proofs.EntryLaws.{file_begins}
use Rattle.entry_metadata.specs.Meta.{meta_of}
use Rattle.entry_metadata.specs.Metadata.{Meta as Said, block_length}
use Rattle.entry_metadata.specs.declared.meta.Meta.{Meta}
use Rattle.entry_metadata.proofs.PrintedBlock.{length-block}
use Rattle.entry_parts.specs.Elements.{elements_bytes}
use Rattle.index_record.specs.Filling.{record_of_meta}
use Rattle.file_handles.specs.Changes.{Becomes, IsFiledAs, IsMomentOf, with_version}
use Rattle.file_handles.specs.Effects.{file_len, learnt_of, learnt_of_held}
use Rattle.handle_table.specs.Held.{IsEntryOf, IsHeldAs, body_len_in, object_place}
use Rattle.handle_table.specs.HeldChunks.{HasNoneOf}
use Rattle.file_handles.specs.PuttingAlt.{AreAsMany, AreHashesWith, with_alt_at}
use Rattle.file_handles.specs.declared.fault.Effect.TheVariants as effect
use Rattle.handle_table.specs.declared.object.Entry.{Entry}
use Rattle.handle_table.specs.declared.object.Entry.TheVariants.{Finished}
use Rattle.handle_table.specs.declared.object.Object.{Object}
use Rattle.file_handles.proofs.Changed.{writes_weaker}
use Rattle.file_handles.proofs.EffectLaws.{learnt_doomed, learnt_whole}

-- the object with the data after its body
abbrev pub behind : List ℕ → List ℕ → MachineObject → MachineObject
behind kind alt o = with_version (with_alt_data kind alt) o

-- and its metadata
pub record IsMetaBehind (kind alt hashes : List ℕ) (old new : Meta) : Type 0 where
  pub header : new.header ≡ old.header
  pub key : new.key ≡ old.key
  pub elements : new.elements ≡ with_alt_at old.offset kind old.elements
  pub hashes_are : new.hashes ≡ hashes
  pub offset : new.offset ≡ old.offset + length alt

-- what is known of the hashes, of the object that is held
module _ (x : Object) (meta : Meta) (is : x.entry ≡ Finished meta) where
  pub held_len : body_len_in x.entry ≡ meta.offset
  held_len = ap body_len_in is

  pub hashes_of : (o : Option Object) → o ≡ Some x → (s : State) (place : Place) → place ≡ object_place x → (alt hashes : List ℕ) → HasChunksWith (standing s place) meta.offset alt hashes → IfSome o (AreHashesWith s alt hashes)
  hashes_of o at s place same alt hashes has =
      subst (λ z. IfSome z (AreHashesWith s alt hashes)) (sym at)
      (subst (λ (n : ℕ). HasChunksWith (standing s (object_place x)) n alt hashes) (sym held_len)
      (subst (λ (q : Place). HasChunksWith (standing s q) meta.offset alt hashes) same has))

  pub as_many_of : (o : Option Object) → o ≡ Some x → (hashes : List ℕ) (len : ℕ) → length hashes ≡ chunks (meta.offset + len) → IfSome o (AreAsMany hashes len)
  as_many_of o at hashes len count = subst (λ z. IfSome z (AreAsMany hashes len)) (sym at) (count ∙ ap (λ (n : ℕ). chunks (n + len)) (sym held_len))

-- a file of which nothing changes keeps its prefix
pub prefix_same : (s : State) → IsSound s → (place : Place) (n : ℕ) (alt hashes : List ℕ) → HasChunksWith (standing s place) n alt hashes → KeepsPrefix place n s s
prefix_same s sound place n alt hashes has = go (standing s place) refl has
  where
    go : (c : Option (List ℕ)) → standing s place ≡ c → HasChunksWith c n alt hashes → KeepsPrefix place n s s
    go None at has = absurd has
    go (Some c) at has = unreached_is_kept s sound place c n at has.0

module _ (kind alt hashes : List ℕ) (x : Object) (old new : Meta) (is : x.entry ≡ Finished old) (grown : IsMetaBehind kind alt hashes old new) where
  before_is : new.offset - length alt ≡ body_len_in x.entry
  before_is = let long = grown.offset in let held = held_len x old is in omega (arith, long, held)

  -- its file has the shorter body
  pub stores_shorter : (s : State) (place : Place) → place ≡ object_place x → AreHashesWith s alt hashes x → StoresShorter (standing s place) (meta_of new) alt
  stores_shorter s place same has =
      subst (λ (h : List ℕ). HasChunksWith (standing s place) (new.offset - length alt) alt h) (sym grown.hashes_are)
      (subst (λ (n : ℕ). HasChunksWith (standing s place) n alt hashes) (sym before_is)
      (subst (λ (q : Place). HasChunksWith (standing s q) (body_len_in x.entry) alt hashes) (sym same) has))

  -- and keeps it
  pub prefix_kept : (s t : State) (place : Place) → place ≡ object_place x → KeepsPrefix place (len_before (meta_of new) alt) s t → KeepsPrefix (object_place x) (body_len_in x.entry) s t
  prefix_kept s t place same keeps = subst (λ (n : ℕ). KeepsPrefix (object_place x) n s t) before_is (subst (λ (q : Place). KeepsPrefix q (new.offset - length alt) s t) same keeps)

  -- what is learnt of it does not go by the hashes
  module _ (o : MachineObject) (held : IsHeldAs x o) where
    pub entry_is : (o.finished ≡ true) × (meta_of old ≡ version_meta o.version)
    entry_is = subst (λ (e : Entry). IsEntryOf e o) is held.held_entry

    offset_is : old.offset ≡ length o.version.body
    offset_is = ap (λ (m : Said). m.offset) entry_is.1

    longer_is : new.offset ≡ length (o.version.body ++ alt)
    longer_is = grown.offset ∙ ap (λ n. n + length alt) offset_is ∙ sym (length-append o.version.body alt)

    after : Said
    after = version_meta (with_alt_data kind alt o.version)

    header_is : new.header ≡ o.version.header
    header_is = grown.header ∙ ap (λ (m : Said). m.header) entry_is.1

    key_is : new.key ≡ o.version.key
    key_is = grown.key ∙ ap (λ (m : Said). m.key) entry_is.1

    elements_is : new.elements ≡ (with_alt_data kind alt o.version).elements
    elements_is = grown.elements ∙ (λ i. with_alt_at (offset_is i) kind (entry_is.1 i).elements)

    count_is : length new.hashes ≡ length after.hashes
    unfolding after
    count_is = new.hash_count ∙ ap chunks longer_is ∙ sym (length_hashes_of (o.version.body ++ alt))

    size_is : file_len (meta_of new) ≡ file_len after
    unfolding after
    size_is =
        let one = length-block (meta_of new) in
        let two = length-block after in
        let same : block_length (length new.hashes) (length new.key) (length (elements_bytes new.elements)) ≡ block_length (length after.hashes) (length after.key) (length (elements_bytes after.elements)) =
        λ i. block_length (count_is i) (length (key_is i)) (length (elements_bytes (elements_is i))) in
        let long = longer_is in
        omega (arith, one, two, same, long)

    record_is : (name : Name) → record_of_meta name (meta_of new) (file_len (meta_of new)) ≡ record_of_meta name after (file_len after)
    unfolding record_of_meta after
    record_is name = λ i. record_of_meta name (record { header = header_is i; key = key_is i; elements = elements_is i; hashes = new.hashes; offset = longer_is i }) (size_is i)

    pub behind_learnt : IsObject (behind kind alt o) → learnt_of_held x.name x.doomed (Finished new) ≡ learnt_of (behind kind alt o)
    unfolding after
    behind_learnt object = go x.doomed refl
      where
        go : (b : Bool) → x.doomed ≡ b → learnt_of_held x.name b (Finished new) ≡ learnt_of (behind kind alt o)
        go true e = sym (learnt_doomed (behind kind alt o) (sym held.doomed ∙ e))
        go false e =
            ap (λ r. effect.Wrote r) (record_is x.name)
            ∙ (λ i. effect.Wrote (record_of_meta (record { 0 = held.named i }) after (file_len after)))
            ∙ sym (learnt_whole (behind kind alt o) entry_is.0 (sym held.doomed ∙ e) (object.version entry_is.0))

  -- the machine's object, with its file
  module _ (s : State) (o : MachineObject) (filed : IsFiledAs x o s) (has : AreHashesWith s alt hashes x) where
    done : o.finished ≡ true
    done = (entry_is o filed.as_held).0

    its_file : (c : List ℕ) × ((standing s (object_place x) ≡ Some c) × IsObjectFile o c)
    its_file = some_of (standing s (object_place x)) filed.file

    old_file : List ℕ
    old_file = its_file.0

    stood : standing s (object_place x) ≡ Some old_file
    unfolding old_file
    stood = its_file.1.0

    begins : take (length o.version.body) old_file ≡ o.version.body
    unfolding old_file
    begins = (file_begins o.version its_file.0 (its_file.1.1.finished done)).1

    lengthened_is : lengthened (meta_of new) alt old_file ≡ with_alt_data kind alt o.version
    lengthened_is = λ i. record {
      header = header_is o filed.as_held i;
      key = key_is o filed.as_held i;
      elements = elements_is o filed.as_held i;
      body = (ap (λ n. take n old_file) (before_is ∙ held_len x old is ∙ offset_is o filed.as_held) ∙ begins) i ++ alt;
    }

    module _ (t : State) (place : Place) (same : place ≡ object_place x) where
      pub behind_writes : ((c : List ℕ) → standing s place ≡ Some c → WritesAt place (λ d. d ≡ file_of (lengthened (meta_of new) alt c)) s t) → WritesAt (object_place x) (IsMomentOf (behind kind alt o)) s t
      behind_writes writes =
          let does = subst (λ (q : Place). WritesAt q (λ d. d ≡ file_of (lengthened (meta_of new) alt old_file)) s t) same (writes old_file (ap (standing s) same ∙ stood)) in
          λ file at. writes_weaker s t file (λ d. d ≡ file_of (lengthened (meta_of new) alt old_file)) (IsMomentOf (behind kind alt o)) (λ d at_d. inr (done, at_d ∙ ap file_of lengthened_is)) (does file at)

      pub behind_becomes : (held : List CachedChunk) → HasNoneOf x.number held
          → ((c : List ℕ) → StoresShorter (Some c) (meta_of new) alt → version_meta (lengthened (meta_of new) alt c) ≡ meta_of new)
          → ((c : List ℕ) → standing s place ≡ Some c → standing t place ≡ Some (file_of (lengthened (meta_of new) alt c)))
          → Becomes held x (record { number = x.number; name = x.name; doomed = x.doomed; aside = x.aside; entry = Finished new }) o (behind kind alt o) t
      behind_becomes held none meta stands =
          let at : standing s place ≡ Some old_file = ap (standing s) same ∙ stood in
          let shorter : StoresShorter (Some old_file) (meta_of new) alt = subst (λ (c : Option (List ℕ)). StoresShorter c (meta_of new) alt) at (stores_shorter s place same has) in
          record {
            same_object = refl;
            keeps_chunks = inl none;
            same_place = refl;
            same_name = refl;
            same_number = refl;
            as_held = record {
              named = filed.as_held.named;
              doomed = filed.as_held.doomed;
              aside = filed.as_held.aside;
              held_entry = (done, sym (meta old_file shorter) ∙ ap version_meta lengthened_is);
            };
            file = ap (standing t) (sym same) ∙ stands old_file at ∙ ap Some (ap file_of lengthened_is ∙ sym (finished_file_is (behind kind alt o) done));
          }
