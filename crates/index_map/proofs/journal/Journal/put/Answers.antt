use Rattle.std.proofs.Common.{subst, sym, ◌∙◌, ◌≡◌, ◌<◌, get_or, length, set}
use Rattle.std.specs.Map.{lookup}
use Rattle.std.specs.Prelude.{IsSome}
use Rattle.record_list.specs.Lists.{same_name}
use Rattle.index_map.specs.Slots.{IsTable, PutsHeld, slots_of}
use Rattle.index_map.proofs.Places.{not_placed, place_put, place_table, place_there, places_small, places_table, puts_place}
use Rattle.index_map.proofs.journal.Journal.put.Goals as goal

pub with-counts-requires-clause-records : goal.with-counts-requires-clause-records
with-counts-requires-clause-records c = (places_small c.self.inside.places.items c.self.inside.counts c.self.invariant).records

pub with-counts-requires-clause-kilobytes : goal.with-counts-requires-clause-kilobytes
with-counts-requires-clause-kilobytes c = (places_small c.self.inside.places.items c.self.inside.counts c.self.invariant).kilobytes

pub with-counts-requires-clause-changed : goal.with-counts-requires-clause-changed
with-counts-requires-clause-changed c = (places_small c.self.inside.places.items c.self.inside.counts c.self.invariant).changed

pub without-self-inside-requires-clause-records : goal.without-self-inside-requires-clause-records
without-self-inside-requires-clause-records c =
    let es = c.self.inside.places.items in
    let x = c.index.result.now in
    let within = subst (λ l. c.in-Some.i < length l) c.as_slice.ensures.value c.in-Some.ensures.within in
    let own = subst (λ l. (get_or l c.in-Some.i x).0 ≡ c.args.name.now) c.as_slice.ensures.value (c.in-Some.ensures.found x) in
    (place_there es c.self.inside.counts c.self.invariant c.in-Some.i x c.args.name.now c.args.slot within c.index.ensures own c.with-counts.result
    (record { records = c.with-counts.ensures.records; kilobytes = c.with-counts.ensures.kilobytes; changed = c.with-counts.ensures.changed })).records

pub without-self-inside-requires-clause-kilobytes : goal.without-self-inside-requires-clause-kilobytes
without-self-inside-requires-clause-kilobytes c =
    let es = c.self.inside.places.items in
    let x = c.index.result.now in
    let within = subst (λ l. c.in-Some.i < length l) c.as_slice.ensures.value c.in-Some.ensures.within in
    let own = subst (λ l. (get_or l c.in-Some.i x).0 ≡ c.args.name.now) c.as_slice.ensures.value (c.in-Some.ensures.found x) in
    (place_there es c.self.inside.counts c.self.invariant c.in-Some.i x c.args.name.now c.args.slot within c.index.ensures own c.with-counts.result
    (record { records = c.with-counts.ensures.records; kilobytes = c.with-counts.ensures.kilobytes; changed = c.with-counts.ensures.changed })).kilobytes

pub without-self-inside-requires-clause-changed : goal.without-self-inside-requires-clause-changed
without-self-inside-requires-clause-changed c =
    let es = c.self.inside.places.items in
    let x = c.index.result.now in
    let within = subst (λ l. c.in-Some.i < length l) c.as_slice.ensures.value c.in-Some.ensures.within in
    let own = subst (λ l. (get_or l c.in-Some.i x).0 ≡ c.args.name.now) c.as_slice.ensures.value (c.in-Some.ensures.found x) in
    (place_there es c.self.inside.counts c.self.invariant c.in-Some.i x c.args.name.now c.args.slot within c.index.ensures own c.with-counts.result
    (record { records = c.with-counts.ensures.records; kilobytes = c.with-counts.ensures.kilobytes; changed = c.with-counts.ensures.changed })).changed

pub invariant_of-self : goal.invariant_of-self
invariant_of-self c =
    let es = c.self.inside.places.items in
    let x = c.index.result.now in
    let within = subst (λ l. c.in-Some.i < length l) c.as_slice.ensures.value c.in-Some.ensures.within in
    let own = subst (λ l. (get_or l c.in-Some.i x).0 ≡ c.args.name.now) c.as_slice.ensures.value (c.in-Some.ensures.found x) in
    place_put es c.self.inside.counts c.self.invariant c.in-Some.i x c.args.name.now c.args.slot within c.index.ensures own c.with-counts.result
    (record { records = c.with-counts.ensures.records; kilobytes = c.with-counts.ensures.kilobytes; changed = c.with-counts.ensures.changed })
    c.without-self-inside.result
    (record { records = c.without-self-inside.ensures.records; kilobytes = c.without-self-inside.ensures.kilobytes; changed = c.without-self-inside.ensures.changed })
    c.requires.fits

pub returns-in-Some-clause-puts : goal.returns-in-Some-clause-puts
returns-in-Some-clause-puts c =
    let es = c.self.inside.places.items in
    let x = c.index.result.now in
    let within = subst (λ l. c.in-Some.i < length l) c.as_slice.ensures.value c.in-Some.ensures.within in
    let own = subst (λ l. (get_or l c.in-Some.i x).0 ≡ c.args.name.now) c.as_slice.ensures.value (c.in-Some.ensures.found x) in
    subst (λ l. PutsHeld l (set es c.in-Some.i (c.args.name.now, c.args.slot)) c.args.name.now c.args.slot) c.self.view_is
    (puts_place es c.self.inside.counts c.self.invariant c.in-Some.i x c.args.name.now c.args.slot within c.index.ensures own)

pub returns-in-Some-clause-table : goal.returns-in-Some-clause-table
returns-in-Some-clause-table c =
    let es = c.self.inside.places.items in
    let x = c.index.result.now in
    let within = subst (λ l. c.in-Some.i < length l) c.as_slice.ensures.value c.in-Some.ensures.within in
    let own = subst (λ l. (get_or l c.in-Some.i x).0 ≡ c.args.name.now) c.as_slice.ensures.value (c.in-Some.ensures.found x) in
    place_table es c.self.inside.counts c.self.invariant c.in-Some.i x c.args.name.now c.args.slot within c.index.ensures own c.requires.fits

pub returns-in-None-clause-puts : goal.returns-in-None-clause-puts
returns-in-None-clause-puts c =
    not_placed c.as_slice.result.now c.args.name.now c.in-None.ensures.none
    (subst (λ l. IsSome (lookup (same_name c.args.name.now) l)) (sym (c.as_slice.ensures.value ∙ c.self.view_is)) c.requires.place)

pub returns-in-None-clause-table : goal.returns-in-None-clause-table
returns-in-None-clause-table c = subst (λ l. IsTable (slots_of l)) c.self.view_is (places_table c.self.inside.places.items c.self.inside.counts c.self.invariant)
