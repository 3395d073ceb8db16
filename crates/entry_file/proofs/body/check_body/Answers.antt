use Rattle.std.proofs.Common.{◌≡◌, ◌<◌, ◌+◌, ◌∙◌, List, Option, Some, None, arith, rules, sym, subst, take}
use Rattle.std.specs.Prelude.{ℕ, IfSome}
use Rattle.cache_base.specs.Limits.{chunks}
use Rattle.chunk_store.specs.Chunks.{damage_at}
use Rattle.chunk_store.specs.declared.damage.Damage.{Damage}
use Rattle.disk_theory.specs.State.{State, standing}
use Rattle.entry_file.specs.Damages.{first_damage}
use Rattle.entry_metadata.specs.Meta.{meta_of}
use Rattle.entry_file.proofs.Damaged.{each_content, first_from, found_here, from_end, from_first, from_here, from_next, held_along, names_own, of_content}
use Rattle.entry_file.proofs.LookLaws.{looks_then}
use Rattle.entry_file.proofs.StoredBody.{undamaged_stores}
use Rattle.entry_file.proofs.body.check_body.Goals as goal

pub loop-index-init : goal.loop-index-init
loop-index-init g c =
    let meta = meta_of c.args.meta.now in
    let content = standing (g.D.Disk.state c.args.disk.now) c.args.place.now in (
      (λ told. each_content content (λ b. first_damage meta b ≡ first_from (damage_at meta.hashes (take meta.offset b)) 0 (chunks meta.offset)) (λ b. from_first meta b)),
      (λ told none. absurd (search rules)),
      search rules,
      search rules,
      search rules,
    )

pub returns-in-Some-clause-damage : goal.returns-in-Some-clause-damage
returns-in-Some-clause-damage g c = λ told.
    let meta = meta_of c.args.meta.now in
    let place = c.args.place.now in
    let i = c.loop-index.index in
    let content = standing (g.D.Disk.state c.args.disk.now) place in
    let test = λ (b : List ℕ). damage_at meta.hashes (take meta.offset b) in
    let within : i < chunks meta.offset = search rules in
    of_content content (λ b. first_damage meta b ≡ first_from (test b) i (chunks meta.offset)) (λ b. Some c.in-Some.damage ≡ test b i) (λ b. Some c.in-Some.damage ≡ first_damage meta b)
    (λ b so_far is. sym (so_far ∙ from_here (test b) i (chunks meta.offset) within c.in-Some.damage is)) (c.loop-index.invariant.0 told)
    (found_here (g.D.Disk.state c.args.disk.now) (g.D.Disk.state c.loop-index.disk) place meta i c.in_ok-check_chunk_at.field-0 c.in-Some.damage (c.loop-index.invariant.2 told) c.in-Some.is (c.in_ok-check_chunk_at.ensures.damage told))

pub returns-in-Some-clause-calls : goal.returns-in-Some-clause-calls
returns-in-Some-clause-calls g c = λ told.
    let s = g.D.Disk.state c.args.disk.now in
    let meta = meta_of c.args.meta.now in
    let place = c.args.place.now in
    let i = c.loop-index.index in
    let named : c.in-Some.damage.chunk ≡ i =
    names_own (standing s place) meta c.in-Some.damage i (c.requires told)
    (found_here s (g.D.Disk.state c.loop-index.disk) place meta i c.in_ok-check_chunk_at.field-0 c.in-Some.damage (c.loop-index.invariant.2 told) c.in-Some.is (c.in_ok-check_chunk_at.ensures.damage told)) in
    looks_then i 1 (c.in-Some.damage.chunk + 1) (g.D.Disk.counts c.args.disk.now) (g.D.Disk.counts c.loop-index.disk) (g.D.Disk.counts c.check_chunk_at.new.disk)
    (omega (arith, named)) (c.loop-index.invariant.3 told) (c.check_chunk_at.ensures.calls told)

pub returns-clause-stores : goal.returns-clause-stores
returns-clause-stores g c = λ told none.
    let meta = meta_of c.args.meta.now in
    let i = c.loop-index.index in
    let content = standing (g.D.Disk.state c.args.disk.now) c.args.place.now in
    let SoFar = λ (b : List ℕ). first_damage meta b ≡ first_from (damage_at meta.hashes (take meta.offset b)) i (chunks meta.offset) in
    undamaged_stores content meta c.args.meta.now.hash_count (c.requires told)
    (of_content content SoFar SoFar (λ b. None ≡ first_damage meta b)
    (λ b so_far again. sym (so_far ∙ from_end (damage_at meta.hashes (take meta.offset b)) i (chunks meta.offset) (search rules))) (c.loop-index.invariant.0 told) (c.loop-index.invariant.0 told))

pub loop-index-preserved : goal.loop-index-preserved
loop-index-preserved g c =
    let meta = meta_of c.args.meta.now in
    let place = c.args.place.now in
    let i = c.loop-index.index in
    let content = standing (g.D.Disk.state c.args.disk.now) place in
    let test = λ (b : List ℕ). damage_at meta.hashes (take meta.offset b) in
    let within : i < chunks meta.offset = search rules in (
      (λ told.
          let none : IfSome content (λ b. None ≡ test b i) =
          subst (λ (o : Option Damage). IfSome content (λ b. o ≡ test b i)) c.in-None.is
          (subst (λ (s : State). IfSome (standing s place) (λ b. c.in_ok-check_chunk_at.field-0 ≡ test b i)) (c.loop-index.invariant.2 told) (c.in_ok-check_chunk_at.ensures.damage told)) in
          of_content content (λ b. first_damage meta b ≡ first_from (test b) i (chunks meta.offset)) (λ b. None ≡ test b i) (λ b. first_damage meta b ≡ first_from (test b) (i + 1) (chunks meta.offset))
          (λ b so_far is. so_far ∙ from_next (test b) i (chunks meta.offset) within is) (c.loop-index.invariant.0 told) none),
      (λ told. held_along _ (i + 1) place meta.offset (c.loop-index.invariant.2 told) (c.in_ok-check_chunk_at.ensures.held told)),
      search rules,
      search rules,
      search rules,
    )
