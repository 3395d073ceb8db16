use Rattle.std.proofs.Common.{◌≡◌, ◌∙◌, Some, ap, refl, rules, sym}
use Rattle.handle_table.specs.Aside.{number_in}
use Rattle.std.proofs.lemmas.Result.{IfOk-from_err}
use Rattle.cache_theory.specs.Step.{doomed_under}
use Rattle.file_handles.specs.Cache.{cache_at}
use Rattle.handle_table.specs.Held.{labelled}
use Rattle.handle_table.specs.Kept.{kept_in, object_at}
use Rattle.file_handles.specs.Kept.{kept}
use Rattle.file_handles.specs.Stands.{KeepsWhere}
use Rattle.handle_table.proofs.AsideNumbers.{few_left, numbers_left}
use Rattle.file_handles.proofs.Dooming.DoomedUser.{not_set_aside, set_aside_there, user_there_or_aside}
use Rattle.file_handles.proofs.Dooming.FirstFree.{takes_aside}
use Rattle.file_handles.proofs.Histories.{history_of}
use Rattle.handle_table.proofs.User.{user_is_there}
use Rattle.file_handles.proofs.IndexLeft.{doomed_left}
use Rattle.file_handles.proofs.Dooming.MarkLeft.{doomed_marked}
use Rattle.file_handles.proofs.UnsyncedLaws.{doomed_unsynced}
use Rattle.handle_table.proofs.KeptLaws.{object_set_here, place_within}
use Rattle.file_handles.proofs.PutBack.{put_back}
use Rattle.file_handles.proofs.handles.Handles.doom_at.Goals as goal

pub take_apart-entry-requires-clause-there : goal.take_apart-entry-requires-clause-there
take_apart-entry-requires-clause-there g c = user_is_there (kept c.args.self.now) c.args.name.now c.args.place c.requires.user

pub set_aside-requires-clause-told : goal.set_aside-requires-clause-told
set_aside-requires-clause-told g c = λ tells none.
    let x = labelled c.take_apart-entry.result.0 c.take_apart-entry.result.1 in
    let s = g.D.Disk.state c.args.disk.now in
    user_there_or_aside s s (kept c.args.self.now) (kept c.args.self.now) c.args.name.now c.args.place x c.requires.user c.take_apart-entry.ensures.found (c.requires.told tells) none

pub returns-in_err-moved_to-clause-dooms : goal.returns-in_err-moved_to-clause-dooms
returns-in_err-moved_to-clause-dooms g c = λ tells. record {
  leaves = λ b h touched stand.
      let x = labelled c.take_apart-entry.result.0 c.take_apart-entry.result.1 in
      let m = h.machine in
      let w = h.marks in
      let s = g.D.Disk.state c.args.disk.now in
      let t = g.D.Disk.state c.set_aside.new.disk in
      record {
        safe = λ on. not_set_aside s t (kept c.args.self.now) (kept_in c.take_apart-entry.new.self) c.args.name.now c.args.place x c.requires.user c.take_apart-entry.ensures.found _ c.in_err-moved_to.field-0.0
            (c.in_err-moved_to.ensures.moves tells) w touched (stand.crash_kept on).safe;
        next = IfOk-from_err c.from_residual.result (λ done. KeepsWhere b (cache_at (kept_in c.take_apart-entry.new.self) t) (history_of (doomed_under m c.args.name.now.0) w)) c.from_residual.ensures.0;
      };
}

pub returns-clause-dooms : goal.returns-clause-dooms
returns-clause-dooms g c = λ tells. record {
  leaves = λ b h touched stand.
      let x = labelled c.take_apart-entry.result.0 c.take_apart-entry.result.1 in
      let s = g.D.Disk.state c.args.disk.now in
      let t = g.D.Disk.state c.set_aside.new.disk in
      let done = set_aside_there s t (kept c.args.self.now) (kept_in c.take_apart-entry.new.self) c.args.name.now c.args.place x c.requires.user c.take_apart-entry.ensures.found
      (kept_in c.put_entry.new.self) _ c.in_ok-moved_to.moved_to (g.met.D.Disk.sound c.args.disk.now tells)
      (numbers_left (kept c.args.self.now) (kept_in c.take_apart-entry.new.self) c.args.place x c.take_apart-entry.ensures.found c.take_apart-entry.ensures.kept _ c.doomed_numbers-doomed.ensures.numbers) (c.in_ok-moved_to.ensures.moves tells)
      c.take_apart-entry.ensures.kept c.put_entry.ensures h.machine h.marks touched stand in
      record { safe = done.0; next = done.1 };
}

pub returns-in_err-moved_to-clause-aside : goal.returns-in_err-moved_to-clause-aside
returns-in_err-moved_to-clause-aside g c = record {
  takes = search rules;
  numbered = λ tells.
      let x = labelled c.take_apart-entry.result.0 c.take_apart-entry.result.1 in
      takes_aside (g.D.Disk.state c.args.disk.now) (g.D.Disk.state c.set_aside.new.disk) (kept c.args.self.now) (c.requires.told tells) c.args.name.now c.take_apart-entry.result.0.aside _
      (numbers_left (kept c.args.self.now) (kept_in c.take_apart-entry.new.self) c.args.place x c.take_apart-entry.ensures.found c.take_apart-entry.ensures.kept _ c.doomed_numbers-doomed.ensures.numbers)
      (few_left (kept c.args.self.now) (kept_in c.take_apart-entry.new.self) c.args.place x c.take_apart-entry.ensures.found c.take_apart-entry.ensures.kept _ c.doomed_numbers-doomed.ensures.numbers c.doomed_numbers-doomed.ensures.rows)
      c.set_aside.result (c.set_aside.ensures.moves tells);
  unmoved = λ place number is. search rules;
  slots = search rules;
  chunks = search rules;
  mark = λ told. doomed_marked c.set_aside.result (g.D.Disk.state c.args.disk.now) (g.D.Disk.state c.set_aside.new.disk) c.args.name.now c.take_apart-entry.result.0.aside _ (g.met.D.Disk.sound c.args.disk.now told) (c.set_aside.ensures.moves told);
  index = λ told. doomed_left c.set_aside.result (g.D.Disk.state c.args.disk.now) (g.D.Disk.state c.set_aside.new.disk) c.args.name.now c.take_apart-entry.result.0.aside _ (g.met.D.Disk.sound c.args.disk.now told) (c.set_aside.ensures.moves told);
  unsynced = λ told. doomed_unsynced c.set_aside.result (g.D.Disk.state c.args.disk.now) (g.D.Disk.state c.set_aside.new.disk) c.args.name.now c.take_apart-entry.result.0.aside _ (c.set_aside.ensures.moves told);
  refused = search rules;
  no_read = search rules;
  disk = search rules;
}

pub returns-clause-aside : goal.returns-clause-aside
returns-clause-aside g c = record {
  takes = search rules;
  numbered = λ tells.
      let x = labelled c.take_apart-entry.result.0 c.take_apart-entry.result.1 in
      takes_aside (g.D.Disk.state c.args.disk.now) (g.D.Disk.state c.set_aside.new.disk) (kept c.args.self.now) (c.requires.told tells) c.args.name.now c.take_apart-entry.result.0.aside _
      (numbers_left (kept c.args.self.now) (kept_in c.take_apart-entry.new.self) c.args.place x c.take_apart-entry.ensures.found c.take_apart-entry.ensures.kept _ c.doomed_numbers-doomed.ensures.numbers)
      (few_left (kept c.args.self.now) (kept_in c.take_apart-entry.new.self) c.args.place x c.take_apart-entry.ensures.found c.take_apart-entry.ensures.kept _ c.doomed_numbers-doomed.ensures.numbers c.doomed_numbers-doomed.ensures.rows)
      c.set_aside.result (c.set_aside.ensures.moves tells);
  unmoved = λ place number is.
      let k = kept c.args.self.now in
      let at : place ≡ c.args.place = let a = is.user in let b = c.requires.user in cc in
      let aside = sym (ap number_in (ap (object_at k) at ∙ c.take_apart-entry.ensures.found)) ∙ is.aside in
      let stays = c.set_aside.ensures.stays number aside in
      let put = ap (λ j. number_in (object_at j c.args.place)) (put_back k (kept_in c.take_apart-entry.new.self) (kept_in c.put_entry.new.self) c.args.place _ c.take_apart-entry.ensures.kept c.put_entry.ensures)
      ∙ ap number_in (object_set_here k c.args.place c.args.place _ (place_within k c.args.place _ c.take_apart-entry.ensures.found) refl) in
      let moved : c.in_ok-moved_to.moved_to ≡ number = let a = stays.0 in let b = c.in_ok-moved_to.was in cc in
      (stays.1, ap (λ q. number_in (object_at (kept_in c.put_entry.new.self) q)) at ∙ put ∙ ap (λ n. Some n) moved);
  slots = search rules;
  chunks = search rules;
  mark = λ told. doomed_marked c.set_aside.result (g.D.Disk.state c.args.disk.now) (g.D.Disk.state c.set_aside.new.disk) c.args.name.now c.take_apart-entry.result.0.aside _ (g.met.D.Disk.sound c.args.disk.now told) (c.set_aside.ensures.moves told);
  index = λ told. doomed_left c.set_aside.result (g.D.Disk.state c.args.disk.now) (g.D.Disk.state c.set_aside.new.disk) c.args.name.now c.take_apart-entry.result.0.aside _ (g.met.D.Disk.sound c.args.disk.now told) (c.set_aside.ensures.moves told);
  unsynced = λ told. doomed_unsynced c.set_aside.result (g.D.Disk.state c.args.disk.now) (g.D.Disk.state c.set_aside.new.disk) c.args.name.now c.take_apart-entry.result.0.aside _ (c.set_aside.ensures.moves told);
  refused = search rules;
  no_read = search rules;
  disk = search rules;
}

pub set_aside-requires-clause-few : goal.set_aside-requires-clause-few
set_aside-requires-clause-few g c =
    let x = labelled c.take_apart-entry.result.0 c.take_apart-entry.result.1 in
    few_left (kept c.args.self.now) (kept_in c.take_apart-entry.new.self) c.args.place x c.take_apart-entry.ensures.found c.take_apart-entry.ensures.kept _ c.doomed_numbers-doomed.ensures.numbers c.doomed_numbers-doomed.ensures.rows
