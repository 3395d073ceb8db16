-- What a crash leaves of the entries, wherever a script stopped.
use Rattle.std.proofs.Common.{◌≡◌, ◌⊎◌, inl, inr, ℕ, suc, ◌+◌, ◌≤◌, List, length, Bool, true, false, cond, Option, Some, None, refl, sym, ap, subst, ◌∙◌, arith}
use Rattle.std.specs.Prelude.{min}
use Rattle.std.specs.Str.{bytes_eq}
use Rattle.std.proofs.lemmas.Bool.{cases_Bool}
use Rattle.cache_theory.specs.Cleared.{IsClearedAt, IsCovered}
use Rattle.cache_theory.specs.Command.{Command}
use Rattle.cache_theory.specs.Crash.{IsLeft, NoChance}
use Rattle.cache_theory.specs.Machine.{Machine}
use Rattle.cache_theory.specs.Marks.{IsSince, Marks, is_in_place, is_touched}
use Rattle.cache_theory.specs.Session.{marks_between}
use Rattle.cache_theory.specs.Table.{get}
use Rattle.cache_theory.specs.Wording.{AreWorded, IsWrittenIn, state_at}
use Rattle.cache_theory.proofs.Clears.ClearedGone.{cleared_stay_gone}
use Rattle.cache_theory.proofs.Clears.ClearedNames.{found_by}
use Rattle.cache_theory.proofs.CrashImages.Readings.{whole_key}
use Rattle.cache_theory.proofs.Names.{same_bytes}
use Rattle.cache_theory.proofs.Wording.Worded.{marks_are_worded}
use Rattle.cache_tool.specs.Theorem.{ClearedStaysGone, IsOneVersion, NoChanceIn, StoppedScript, TouchedIsGoneOrWhole, UntouchedIsIntact, acked, begun, told}
use Rattle.cache_tool.specs.World.{World}
use Rattle.cache_tool.proofs.ClearedInRun.{all_kept}
use Rattle.cache_tool.proofs.Stops.StoppedScripts.{acked_within, all_given, script_commands, script_proper, stopped_marks}
use Rattle.cache_theory.specs.Given.{IsGiven}
use Rattle.disk_theory.specs.Image.{Files}
use Rattle.entry_file.specs.EntryFile.{file_meta, found, read, read_for, whole_in}
use Rattle.entry_file.specs.EntryFile.Reading.{Nothing, Whole}
use Rattle.entry_file.specs.Version.{Version}
use Rattle.entry_name.specs.EntryName.{file_name}
use Rattle.index_theory.specs.Ever.{entries}

-- what is found for a key has that key
found_key : (o : Option (List ℕ)) (key : List ℕ) (v : Version) → whole_in (read_for key o) ≡ Some v → v.key ≡ key
found_key None key v is = absurd (cc)
found_key (Some c) key v is = go (bytes_eq (file_meta c).key key) refl is
  where
    go : (b : Bool) → bytes_eq (file_meta c).key key ≡ b → whole_in (cond b (read (file_name key) c) Nothing) ≡ Some v → v.key ≡ key
    go true same here =
        let by = found_by (Some c) key v is in
        let content : by.content ≡ c = let some : Some c ≡ Some by.content = by.is in cc in
        sym (whole_key (file_name key) c v (subst (λ x. read (file_name key) x ≡ Whole v) content by.whole)) ∙ same_bytes (file_meta c).key key same
    go false other here = absurd (cc)

module _ (m : Machine) (cs : List Command) (out : List ℕ) (f : ℕ) (image : Files) (before now : World) (stop : StoppedScript m cs out f image before now) where
  abbrev done : List Command
  done = begun m cs out

  abbrev marks : Marks
  marks = marks_between m done (acked m cs out) (length done)

  within : acked m cs out ≤ length done
  within = acked_within cs (told m cs out)

  worded : AreWorded m done (acked m cs out) (length done) f
  worded = marks_are_worded m done (acked m cs out) (length done) f within (omega arith) stop.last

  left : IsLeft now.disk marks image
  left = stopped_marks m cs out before now stop.script image stop.left

  as_flushed : (key : List ℕ) → is_touched marks (file_name key) ≡ false → found (entries image) key ≡ found (get (state_at m done f).shelf) key
  as_flushed key un = left.untouched key un ∙ ap (λ (t : Machine). found (get t.shelf) key) worded.marked

  no_chance : (name : List ℕ) → NoChanceIn m done f now image name → (is_in_place marks name ≡ false) ⊎ NoChance now.disk image name
  no_chance name (inr none) = inr none
  no_chance name (inl not_rewritten) = elim (cases_Bool (is_in_place marks name)) [
    | inl torn ↦ absurd (not_rewritten ((worded.in_place name).0 torn))
    | inr whole ↦ inl whole
  ]

  one_version : (key : List ℕ) (v : Version) → NoChanceIn m done f now image (file_name key) → found (entries image) key ≡ Some v → IsOneVersion m done f key v
  one_version key v chance is = record {
    of_key = found_key (entries image (file_name key)) key v is;
    current = elim (cases_Bool (is_touched marks (file_name key))) [
      | inr un ↦ inl (sym (as_flushed key un) ∙ is)
      | inl touched ↦ elim (left.touched key touched (no_chance (file_name key) chance)) [
        | inl none ↦ absurd (let never : None ≡ Some v = sym none ∙ is in cc)
        | inr (inl was) ↦ inl (ap (λ (t : Machine). found (get t.shelf) key) (sym worded.marked) ∙ sym was ∙ is)
        | inr (inr new) ↦
            let some : Some new.0 ≡ Some v = sym new.1.0 ∙ is in
            let same : new.0 ≡ v = cc in
            inr ((worded.since (file_name key) v).0 (subst (λ u. IsSince marks (file_name key) u) same new.1.1.1))
      ]
    ];
  }

  gone : (key : List ℕ) (v : Version) → NoChanceIn m done f now image (file_name key) → found (entries image) key ≡ Some v
      → (origin : List ℕ) (at : ℕ) → IsClearedAt done (acked m cs out) origin at → IsCovered origin v → IsWrittenIn m done (suc at) (length done) (file_name key) v
  gone key v chance is origin at clears covered =
      let t = told m cs out in
      cleared_stay_gone m done (acked m cs out) (length done) at origin
      (record {
        proper = script_proper m cs out before now stop.script;
        given = (tt, all_kept IsGiven t.faults 1 (min (t.answered + 1) (length cs)) cs (all_given cs (script_commands m cs out before now stop.script)));
        acknowledged = within;
        begun = omega arith;
      })
      clears now.disk image key v (record { left = left; found = is; no_chance = λ touched. no_chance (file_name key) chance }) covered

pub untouched_is_intact : UntouchedIsIntact
untouched_is_intact m cs out f image before now stop key un =
    elim (cases_Bool (is_touched (marks m cs out f image before now stop) (file_name key))) [
      | inl touched ↦ absurd (un (((worded m cs out f image before now stop).touched (file_name key)).0 touched))
      | inr out_of ↦ as_flushed m cs out f image before now stop key out_of
    ]

pub touched_is_gone_or_whole : TouchedIsGoneOrWhole
touched_is_gone_or_whole m cs out f image before now stop key v chance is = one_version m cs out f image before now stop key v chance is

pub cleared_stays_gone : ClearedStaysGone
cleared_stays_gone m cs out f image before now stop key v chance is origin at clears covered =
    gone m cs out f image before now stop key v chance is origin at clears covered
