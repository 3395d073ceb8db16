-- What stands over a disk after a change.
use Rattle.std.proofs.Common.{ℕ, List, length, take, ◌≡◌, ◌∙◌, Option, Some, None, IsSome, OnErr, OnOk, Result, Ok, Err, Bool, true, false, if◌then◌else◌, arith, refl, sym, ap, subst}
use Rattle.std.specs.Option.{option_map}
use Rattle.std.proofs.lemmas.List.{take_all}
use Rattle.disk_theory.specs.declared.place.Place.{Place}
use Rattle.disk_theory.specs.Image.{Files}
use Rattle.disk_theory.specs.Place.{is_same}
use Rattle.disk_theory.specs.State.{Write, written}
use Rattle.disk_theory.proofs.Places.{is_same-refl, is_same-apart, never, one_same}
use Rattle.overlay_disk.specs.Seen.{Overs, content_over, held, seen, seen_as, with_over, MovesTo, PutsAt, SameFiles}
use Rattle.overlay_disk.specs.declared.over.Over.{Over}
use Rattle.overlay_disk.specs.declared.over.Over.TheVariants.{Below, Gone, File}
use Rattle.overlay_disk.specs.declared.over.OverFile.{OverFile}
use Rattle.overlay_disk.proofs.SlotLaws.{with_over-same, with_over-twice}

pub on_err : {T E P : Type 0} (r : Result T E) → P → OnErr r P
on_err (Ok value) p = tt
on_err (Err error) p = p

pub on_err_then : {T E P Q : Type 0} (r : Result T E) → OnErr r P → (P → Q) → OnErr r Q
on_err_then (Ok value) p f = tt
on_err_then (Err error) p f = f p

pub on_ok_then : {T E P Q : Type 0} (r : Result T E) → OnOk r P → (P → Q) → OnOk r Q
on_ok_then (Ok value) p f = f p
on_ok_then (Err error) p f = tt

-- nothing has changed
pub shows_same : (before now : Files) (o n : Overs) → now ≡ before → n ≡ o → SameFiles (seen before o) (seen now n)
shows_same before now o n below is = λ p. ap (λ (files : Files). seen_as files p (n p)) below ∙ ap (λ (os : Overs). seen_as before p (os p)) is

-- what is known of one place has
pub shows_put : (before now : Files) (o n : Overs) (p : Place) (over : Over) (content : Option (List ℕ)) → now ≡ before → n ≡ with_over p over o
    → seen_as before p over ≡ content → PutsAt p content (seen before o) (seen now n)
shows_put before now o n p over content below is holds = record {
  here = shows_same before now (with_over p over o) n below is p ∙ ap (λ same. seen_as before p (if same then over else o p)) (is_same-refl p) ∙ holds;
  others = λ q apart. shows_same before now (with_over p over o) n below is q ∙ ap (λ same. seen_as before q (if same then over else o q)) (is_same-apart q p apart);
}

-- what was taken from a place is put back there
pub put_back : (o m t n : Overs) (p : Place) (over : Over) → m ≡ o → t ≡ with_over p Below m → n ≡ with_over p over t → m p ≡ over → n ≡ o
put_back o m t n p over made took put is =
    put ∙ ap (with_over p over) took ∙ with_over-twice p Below over m ∙ ap (λ one. with_over p one m) (sym is) ∙ with_over-same p m ∙ made

-- what stands below was taken
pub took_none : (o m t : Overs) (p : Place) → m ≡ o → t ≡ with_over p Below m → m p ≡ Below → t ≡ o
took_none o m t p made took is = took ∙ ap (λ one. with_over p one m) (sym is) ∙ with_over-same p m ∙ made

-- the file of a place, whole
pub whole_below : (file : Option (List ℕ)) (len : ℕ) → Some len ≡ option_map length file → Some (take len (held file)) ≡ file
whole_below (Some content) len is =
    let same : len ≡ length content = cc is in
    ap Some (take_all len content (omega (arith, same)))
whole_below None len is = cc

-- a file was taken, changed and put back
module _ (before mid now : Files) (o t n : Overs) (p : Place) (old new : OverFile) (looked : mid ≡ before) (read : now ≡ mid)
    (took : t ≡ with_over p Below o) (put : n ≡ with_over p (File new) t) (stood : Some (content_over before old) ≡ seen before o p) where
  pub is_put : n ≡ with_over p (File new) o
  is_put = put ∙ ap (with_over p (File new)) took ∙ with_over-twice p Below (File new) o

  pub wrote_over : (write : Write) → content_over mid new ≡ written write (content_over mid old) → PutsAt p (option_map (written write) (seen before o p)) (seen before o) (seen now n)
  wrote_over write wrote =
      let content : content_over before new ≡ written write (content_over before old) =
      subst (λ (files : Files). content_over files new ≡ written write (content_over files old)) looked wrote in
      shows_put before now o n p (File new) (option_map (written write) (seen before o p)) (read ∙ looked) is_put
      (ap Some content ∙ ap (option_map (written write)) stood)

  pub kept_over : ((files : Files) → content_over files new ≡ content_over files old) → SameFiles (seen before o) (seen now n)
  kept_over same = λ q. go q (is_same q p) refl
    where
      puts : PutsAt p (seen before o p) (seen before o) (seen now n)
      puts = shows_put before now o n p (File new) (seen before o p) (read ∙ looked) is_put (ap Some (same before) ∙ stood)

      go : (q : Place) (b : Bool) → is_same q p ≡ b → seen now n q ≡ seen before o q
      go q true is = subst (λ (r : Place). seen now n r ≡ seen before o r) (sym (one_same q p is)) puts.here
      go q false is = puts.others q (λ same. never p q same is)

-- a file was taken and put at another place
pub moved_over : (before now : Files) (o m t g n : Overs) (from to : Place) (file : OverFile) → now ≡ before → m ≡ o → t ≡ with_over from Below m
    → g ≡ with_over from Gone t → n ≡ with_over to (File file) g → Some (content_over before file) ≡ seen before m from
    → MovesTo from to (seen before o) (seen now n)
moved_over before now o m t g n from to file below made took gone put stood =
    let whole : n ≡ with_over to (File file) (with_over from Gone o) =
    put ∙ ap (with_over to (File file)) (gone ∙ ap (with_over from Gone) took ∙ with_over-twice from Below Gone m ∙ ap (with_over from Gone) made) in
    let was : Some (content_over before file) ≡ seen before o from = stood ∙ ap (λ (os : Overs). seen_as before from (os from)) made in
    let puts = shows_put before now (with_over from Gone o) n to (File file) (seen before o from) below whole was in
    record {
      stood = subst IsSome was refl;
      moved = puts.here;
      gone = λ apart. puts.others from apart ∙ ap (λ same. seen_as before from (if same then Gone else o from)) (is_same-refl from);
      others = λ q not_from not_to. puts.others q not_to ∙ ap (λ same. seen_as before q (if same then Gone else o q)) (is_same-apart q from not_from);
    }

-- no file stands where none has a length
pub none_below : (file : Option (List ℕ)) → None ≡ option_map length file → file ≡ None
none_below None is = refl
none_below (Some content) is = cc
