-- A file whose body is made longer, and its version.
use Rattle.std.proofs.Common.{◌≡◌, ◌≤◌, ℕ, List, [], ◌∷◌, ◌++◌, length, length-append, take, append_assoc, Option, None, Some, Result, Ok, Err, refl, sym, ap, subst, ◌∙◌, arith}
use Rattle.std.proofs.lemmas.List.{length-take-le}
use Rattle.cache_base.specs.Bytes.{AreBytes, be32}
use Rattle.disk_theory.specs.Calls.{if_done}
use Rattle.disk_theory.specs.Prefixes.{KeepsPrefix}
use Rattle.disk_theory.specs.Sound.{IsSound}
use Rattle.disk_theory.specs.State.{State, Write, standing, written, wrote}
use Rattle.disk_theory.specs.State.Write.{End}
use Rattle.disk_theory.specs.Writes.{WritesAt}
use Rattle.disk_theory.specs.declared.disk.DiskFault.{DiskFault}
use Rattle.disk_theory.specs.declared.disk.DiskFault.TheVariants.{Failed, Memory}
use Rattle.disk_theory.specs.declared.place.Place.{Place}
use Rattle.disk_theory.proofs.Prefixes.{end_keeps_prefix, unreached_is_kept}
use Rattle.disk_theory.proofs.Standing.{wrote_puts}
use Rattle.entry_metadata.specs.Metadata.{Meta, IsMeta, block_bytes}
use Rattle.entry_file.specs.LongerBody.{StoresShorter, len_before, lengthened, longer_write}
use Rattle.entry_file.specs.Version.{version_meta, IsVersion, file_of}
use Rattle.entry_file.proofs.Writing.{written_by, written_same}

bytes_joined : (xs ys : List ℕ) → AreBytes xs → AreBytes ys → AreBytes (xs ++ ys)
bytes_joined [] ys h k = k
bytes_joined (x ∷ xs) ys h k = (h.0, bytes_joined xs ys h.1 k)

-- a content that stores the shorter body
module _ (m : Meta) (more c : List ℕ) (fits : length more ≤ m.offset) (stores : StoresShorter (Some c) m more) where
  ends : length (take (len_before m more) c ++ more) ≡ m.offset
  ends = let a = length-append (take (len_before m more) c) more in let b = length-take-le (len_before m more) c stores.0 in omega (arith, a, b, fits)

  pub longer_meta : version_meta (lengthened m more c) ≡ m
  longer_meta = λ i. record { header = m.header; key = m.key; elements = m.elements; hashes = sym stores.1 i; offset = ends i }

  pub longer_version : IsMeta m → AreBytes (take (len_before m more) c) → AreBytes more → IsVersion (lengthened m more c)
  longer_version is bytes added = record { meta = subst IsMeta (sym longer_meta) is; body = bytes_joined (take (len_before m more) c) more bytes added }

  -- the write makes the file of the version
  pub longer_written : written (longer_write m more) c ≡ file_of (lengthened m more c)
  unfolding file_of
  longer_written =
      sym (append_assoc (take (len_before m more) c) more (block_bytes m ++ be32 m.offset))
      ∙ (λ i. (take (len_before m more) c ++ more) ++ (block_bytes (sym longer_meta i) ++ be32 (sym ends i)))

  -- so does a call that writes so
  pub writes_longer : {T : Type 0} (place : Place) (write : Write) (s t : State) (r : Result T DiskFault) → write ≡ longer_write m more → t ≡ if_done r (wrote place write s) s → standing s place ≡ Some c
      → WritesAt place (λ d. d ≡ file_of (lengthened m more c)) s t
  writes_longer place write s t r same is stood =
      written_by place (λ d. d ≡ file_of (lengthened m more c)) write s t r is (λ d at. written_same write (longer_write m more) same (standing s place) c stood d at ∙ longer_written)

  pub longer_stands : (place : Place) (write : Write) (s t : State) → IsSound s → write ≡ longer_write m more → t ≡ wrote place write s → standing s place ≡ Some c
      → standing t place ≡ Some (file_of (lengthened m more c))
  longer_stands place write s t sound same is stood =
      ap (λ (u : State). standing u place) (is ∙ ap (λ (w : Write). wrote place w s) same) ∙ (wrote_puts place (longer_write m more) s c sound stood).here ∙ ap Some longer_written

-- what a call at n keeps, whatever it answers
kept_by : {T : Type 0} (place : Place) (n : ℕ) (bytes c : List ℕ) (s t : State) (r : Result T DiskFault) → IsSound s → IsSound t → t ≡ if_done r (wrote place (End n bytes) s) s
    → standing s place ≡ Some c → n ≤ length c → KeepsPrefix place n s t
kept_by place n bytes c s t (Ok value) before now is stands long =
    subst (KeepsPrefix place n s) (sym is) (end_keeps_prefix place n bytes s c (subst IsSound is now) stands long)
kept_by place n bytes c s t (Err Failed) before now is stands long =
    subst (KeepsPrefix place n s) (sym is) (end_keeps_prefix place n bytes s c (subst IsSound is now) stands long)
kept_by place n bytes c s t (Err Memory) before now is stands long =
    subst (KeepsPrefix place n s) (sym is) (unreached_is_kept s before place c n stands long)

kept_at : {T : Type 0} (place : Place) (m : Meta) (more bytes : List ℕ) (s t : State) (r : Result T DiskFault) → IsSound s → IsSound t → t ≡ if_done r (wrote place (End (len_before m more) bytes) s) s
    → (o : Option (List ℕ)) → standing s place ≡ o → StoresShorter o m more → KeepsPrefix place (len_before m more) s t
kept_at place m more bytes s t r before now is None stands stores = absurd stores
kept_at place m more bytes s t r before now is (Some c) stands stores = kept_by place (len_before m more) bytes c s t r before now is stands stores.0

-- a call that writes at the end of the shorter body keeps it
pub prefix_kept : {T : Type 0} (place : Place) (m : Meta) (more bytes : List ℕ) (from : ℕ) (s t : State) (r : Result T DiskFault) → IsSound s → IsSound t → from ≡ len_before m more
    → t ≡ if_done r (wrote place (End from bytes) s) s → StoresShorter (standing s place) m more → KeepsPrefix place (len_before m more) s t
prefix_kept place m more bytes from s t r before now at is stores =
    kept_at place m more bytes s t r before now (is ∙ ap (λ (k : ℕ). if_done r (wrote place (End k bytes) s) s) at) (standing s place) refl stores

unmade_at : (place : Place) (m : Meta) (more : List ℕ) (s : State) → IsSound s → (o : Option (List ℕ)) → standing s place ≡ o → StoresShorter o m more → KeepsPrefix place (len_before m more) s s
unmade_at place m more s sound None stands stores = absurd stores
unmade_at place m more s sound (Some c) stands stores = unreached_is_kept s sound place c (len_before m more) stands stores.0

-- so does one that makes no call
pub prefix_unmade : (place : Place) (m : Meta) (more : List ℕ) (s : State) → IsSound s → StoresShorter (standing s place) m more → KeepsPrefix place (len_before m more) s s
prefix_unmade place m more s sound stores = unmade_at place m more s sound (standing s place) refl stores
