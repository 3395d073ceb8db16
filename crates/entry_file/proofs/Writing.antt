-- What is added to the write steps of a file.
use Rattle.std.proofs.Common.{◌≡◌, ◌⊎◌, inl, inr, ℕ, zero, suc, ◌+◌, ◌-◌, ◌<◌, ◌≤◌, List, [], ◌∷◌, ◌++◌, length, length-append, append_assoc, drop, Option, Some, Result, Ok, Err, refl, sym, ap, subst, ◌∙◌, arith}
use Rattle.std.proofs.lemmas.Bool.{cases_lt}
use Rattle.std.proofs.lemmas.List.{drop_at, drop-drop}
use Rattle.disk_theory.specs.declared.disk.DiskFault.{DiskFault}
use Rattle.disk_theory.specs.declared.disk.DiskFault.TheVariants.{Failed, Memory}
use Rattle.disk_theory.specs.declared.place.Place.{Place}
use Rattle.disk_theory.specs.Calls.{if_done}
use Rattle.disk_theory.specs.Image.{moment}
use Rattle.disk_theory.specs.State.{File, State, Write, add_write, content, content_after, content_of, names_after, standing, with_file, write_to, written, wrote}
use Rattle.disk_theory.specs.Writes.{WritesAt, WritesTo}
use Rattle.disk_theory.proofs.Files.{with_file-apart, with_file-same}

-- nothing is added
pub not_written : (place : Place) (P : List ℕ → Type 0) (s : State) → WritesAt place P s s
not_written place P s file at = record {
  names = refl;
  steps = refl;
  made = refl;
  others = λ other apart. refl;
  synced = refl;
  added = [];
  writes = refl;
  moments = λ left lt. absurd (omega arith);
}

-- what comes after a prefix
drop_behind : {X : Type 0} (front rest : List X) (n : ℕ) → length front ≤ n → drop n (front ++ rest) ≡ drop (n - length front) rest
drop_behind front rest n le =
    let sum : n ≡ length front + (n - length front) = omega arith in
    ap (λ k. drop k (front ++ rest)) sum ∙ sym (drop-drop (n - length front) (length front) (front ++ rest)) ∙ ap (drop (n - length front)) (drop_at front rest (length front) refl)

-- what is added after what was added
pub written_twice : (place : Place) (P : List ℕ → Type 0) (s t u : State) → WritesAt place P s t → WritesAt place P t u → WritesAt place P s u
written_twice place P s t u first second file at =
    let one : WritesTo file P s t = first file at in
    let two : WritesTo file P t u = second file ((λ i. names_after (one.names i) (one.steps i) place) ∙ at) in
    record {
      names = two.names ∙ one.names;
      steps = two.steps ∙ one.steps;
      made = two.made ∙ one.made;
      others = λ other apart. two.others other apart ∙ one.others other apart;
      synced = two.synced ∙ one.synced;
      added = two.added ++ one.added;
      writes = two.writes ∙ ap (λ (ws : List Write). two.added ++ ws) one.writes ∙ sym (append_assoc two.added one.added (s.files file).writes);
      moments = λ left lt. each one two left lt (cases_lt left (length two.added));
    }
  where
    each : (one : WritesTo file P s t) (two : WritesTo file P t u) (left : ℕ) → left < length (two.added ++ one.added) → (left < length two.added) ⊎ (length two.added ≤ left) → P (moment (u.files file) left)
    each one two left lt (inl new) = two.moments left new
    each one two left lt (inr old) =
        let before : moment (u.files file) left ≡ moment (t.files file) (left - length two.added) =
        (λ i. content_after (two.synced i) (drop left (two.writes i))) ∙ ap (content_after (t.files file).synced) (drop_behind two.added (t.files file).writes left old) in
        subst P (sym before) (one.moments (left - length two.added) (let h = length-append two.added one.added in omega (arith, lt, old, h)))

-- one write is added
pub written_once : (place : Place) (P : List ℕ → Type 0) (write : Write) (s : State) → ((c : List ℕ) → standing s place ≡ Some c → P (written write c)) → WritesAt place P s (wrote place write s)
written_once place P write s will file at =
    let files : (wrote place write s).files ≡ with_file file (add_write write (s.files file)) s.files = ap (λ o. write_to o write s.files) at in
    let here : (wrote place write s).files file ≡ add_write write (s.files file) = ap (λ (fs : ℕ → File). fs file) files ∙ with_file-same file (add_write write (s.files file)) s.files in
    record {
      names = refl;
      steps = refl;
      made = refl;
      others = λ other apart. ap (λ (fs : ℕ → File). fs other) files ∙ with_file-apart file other (add_write write (s.files file)) s.files apart;
      synced = ap (λ (f : File). f.synced) here;
      added = write ∷ [];
      writes = ap (λ (f : File). f.writes) here;
      moments = λ left lt. each here left lt;
    }
  where
    each : (wrote place write s).files file ≡ add_write write (s.files file) → (left : ℕ) → left < 1 → P (moment ((wrote place write s).files file) left)
    each here zero lt = subst (λ (f : File). P (moment f zero)) (sym here) (will (content (s.files file)) (ap (content_of s.files) at))
    each here (suc left) lt = absurd (omega (arith, lt))

-- what a write makes of the file that stood there, under other names
pub written_same : (w x : Write) → w ≡ x → (o : Option (List ℕ)) (c : List ℕ) → o ≡ Some c → (d : List ℕ) → o ≡ Some d → written w d ≡ written x c
written_same w x same o c stood d is = let content : d ≡ c = cc in λ i. written (same i) (content i)

-- by a call of the disk
pub written_by : {T : Type 0} (place : Place) (P : List ℕ → Type 0) (write : Write) (s t : State) (r : Result T DiskFault) → t ≡ if_done r (wrote place write s) s
    → ((c : List ℕ) → standing s place ≡ Some c → P (written write c)) → WritesAt place P s t
written_by place P write s t (Ok value) is will = subst (WritesAt place P s) (sym is) (written_once place P write s will)
written_by place P write s t (Err Failed) is will = subst (WritesAt place P s) (sym is) (written_once place P write s will)
written_by place P write s t (Err Memory) is will = subst (WritesAt place P s) (sym is) (not_written place P s)
