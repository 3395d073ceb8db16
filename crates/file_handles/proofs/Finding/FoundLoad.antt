-- What a file of a key reads as, by its metadata and the first damage of its body.
use Rattle.std.proofs.Common.{◌≡◌, ◌≤◌, ◌∙◌, ℕ, length, List, [], ◌∷◌, take, Bool, true, Option, Some, None, Ok, Err, refl, sym, ap, subst}
use Rattle.std.specs.Prelude.{IfOk, IfSome, Result, if◌then◌else◌}
use Rattle.std.specs.Cmp.Lexicographic.{bytes_decides}
use Rattle.cache_base.specs.Limits.{chunks}
use Rattle.cache_base.specs.declared.name.Name.{Name}
use Rattle.cache_theory.specs.declared.refusal.Refusal.TheVariants as refused
use Rattle.chunk_store.specs.Chunks.{chunk, damages}
use Rattle.chunk_store.specs.declared.damage.Damage.{Damage}
use Rattle.disk_theory.specs.State.{State, standing}
use Rattle.disk_theory.specs.declared.place.Place.TheVariants.{Entry as EntryAt}
use Rattle.entry_file.specs.Damages.{HasMeta, first, first_damage}
use Rattle.entry_file.specs.EntryFile.{Reading, body_in, by_damages, by_fault, file_fault, file_meta, fits, offset_in, read, read_for}
use Rattle.entry_file.specs.EntryFile.Reading.{Whole, Damaged, Nothing}
use Rattle.entry_file.specs.Held.{IsLastOf}
use Rattle.entry_file.specs.NewEntry.{finished}
use Rattle.entry_file.specs.Rewriting.{StoresBody, rewritten, whole_or}
use Rattle.entry_file.specs.declared.entry_read.Unfit.{Unfit}
use Rattle.entry_file.proofs.Faults.{fit_has_meta}
use Rattle.entry_file.proofs.FitLaws.{none_of}
use Rattle.entry_file.proofs.StoredBody.{same_meta}
use Rattle.entry_metadata.specs.Checks.{meta_in}
use Rattle.entry_metadata.specs.Metadata.{Meta as Said}
use Rattle.entry_metadata.specs.Meta.{meta_of}
use Rattle.entry_metadata.specs.declared.meta.Meta.{Meta}
use Rattle.entry_name.specs.EntryName.{file_name}
use Rattle.file_handles.specs.Found.{HoldsLast}
use Rattle.file_handles.specs.Loading.{IsMetaFor, LoadsAs}
use Rattle.file_handles.specs.declared.fault.HandleFault.TheVariants as fault

offset_of_meta : (c : List ℕ) → (file_meta c).offset ≡ offset_in c
unfolding meta_in
offset_of_meta c = refl

by_first : (m : Said) (body : List ℕ) (ds : List Damage) → by_damages m body ds ≡ whole_or (first ds) (finished m.header m.key m.elements body)
by_first m body [] = refl
by_first m body (d ∷ ds) = refl

reads_body : (name c : List ℕ) → file_fault name c ≡ None → read name c ≡ by_damages (file_meta c) (body_in c) (damages (file_meta c).hashes (file_meta c).offset (body_in c))
unfolding read
reads_body name c none = ap (λ (o : Option Unfit). by_fault o c) none

-- a file that fits, with these metadata
pub reads_first : (name c : List ℕ) (m : Said) → file_fault name c ≡ None → m ≡ file_meta c → read name c ≡ whole_or (first_damage m c) (rewritten m c)
reads_first name c m fine is =
    let body : body_in c ≡ take (file_meta c).offset c = ap (λ n. take n c) (sym (offset_of_meta c)) in
    reads_body name c fine
    ∙ ap (λ (b : List ℕ). by_damages (file_meta c) b (damages (file_meta c).hashes (file_meta c).offset b)) body
    ∙ by_first (file_meta c) (take (file_meta c).offset c) (damages (file_meta c).hashes (file_meta c).offset (take (file_meta c).offset c))
    ∙ ap (λ (n : Said). whole_or (first_damage n c) (rewritten n c)) (sym is)

-- one of this key
reads_by : (key c : List ℕ) (m : Said) → fits (file_name key) c ≡ true → (file_meta c).key ≡ key → m ≡ file_meta c → read_for key (Some c) ≡ whole_or (first_damage m c) (rewritten m c)
reads_by key c m fine same is =
    ap (λ (b : Bool). if b then read (file_name key) c else Nothing) ((bytes_decides (file_meta c).key key).1 same)
    ∙ reads_first (file_name key) c m (none_of (file_fault (file_name key) c) fine) is

-- the body of a file of a key stands before its metadata
pub meta_has : (key : List ℕ) (o : Option (List ℕ)) (meta : Meta) → IsMetaFor key o meta → HasMeta o (meta_of meta)
meta_has key None meta is = absurd is
meta_has key (Some c) meta is = fit_has_meta (file_name key) c (meta_of meta) (none_of (file_fault (file_name key) c) is.0) is.1.1

-- without a damage the metadata are those of what is read
pub loads_whole : (key : List ℕ) (o : Option (List ℕ)) (meta : Meta) → IsMetaFor key o meta → IfSome o (λ c. None ≡ first_damage (meta_of meta) c) → StoresBody o (meta_of meta) → LoadsAs (read_for key o) (Ok meta)
loads_whole key None meta is none stores = absurd is
loads_whole key (Some c) meta is none stores =
    let whole : read_for key (Some c) ≡ Whole (rewritten (meta_of meta) c) =
    reads_by key c (meta_of meta) is.0 is.1.0 is.1.1 ∙ ap (λ d. whole_or d (rewritten (meta_of meta) c)) (sym none) in
    let P : Reading → Type 0 = λ r. LoadsAs r (Ok meta) in
    subst P (sym whole) (sym (same_meta (meta_of meta) c stores))

-- and with one it is damaged
pub loads_damaged : (key : List ℕ) (o : Option (List ℕ)) (meta : Meta) (d : Damage) → IsMetaFor key o meta → IfSome o (λ c. Some d ≡ first_damage (meta_of meta) c) → LoadsAs (read_for key o) (Err (fault.Refused (refused.Damaged d)))
loads_damaged key None meta d is some = absurd is
loads_damaged key (Some c) meta d is some =
    let damaged : read_for key (Some c) ≡ Damaged d =
    reads_by key c (meta_of meta) is.0 is.1.0 is.1.1 ∙ ap (λ d. whole_or d (rewritten (meta_of meta) c)) (sym some) in
    let P : Reading → Type 0 = λ r. LoadsAs r (Err (fault.Refused (refused.Damaged d))) in
    subst P (sym damaged) refl

-- the last chunk of the file under a name is held as that of the key of the name, unless nothing was found
pub held_for : {E : Type 0} (r : Result Meta E) (name : Name) (key : List ℕ) (s : State) (bytes : List ℕ) (told : Type 0) → name.0 ≡ file_name key
    → IfOk r (λ meta. told → IsLastOf (chunks meta.offset) (standing s (EntryAt name)) meta.offset bytes)
    → IfOk r (λ meta. told → HoldsLast s key meta.offset bytes)
held_for (Ok meta) name key s bytes told is held = λ t other same.
    subst (λ (d : List ℕ). IsLastOf (chunks meta.offset) (standing s (EntryAt (record { 0 = d }))) meta.offset bytes) (is ∙ sym same) (held t)
held_for (Err e) name key s bytes told is held = tt

-- the only chunk of a body is its first
pub only_chunk : (file : Option (List ℕ)) (len index : ℕ) (bytes : List ℕ) → index ≡ 0 → IfSome file (λ c. bytes ≡ chunk (take len c) 0)
    → IfSome file (λ c. len ≤ length c → bytes ≡ chunk (take len c) index)
only_chunk None len index bytes first held = tt
only_chunk (Some c) len index bytes first held = λ fits. held ∙ ap (chunk (take len c)) (sym first)
