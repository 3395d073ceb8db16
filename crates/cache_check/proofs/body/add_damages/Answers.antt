use Rattle.std.proofs.Common.{◌≡◌, ◌<◌, ◌+◌, ◌++◌, List, ap, rules, subst, take}
use Rattle.std.specs.Prelude.{ℕ, IfSome}
use Rattle.cache_base.specs.Limits.{chunks}
use Rattle.cache_check.specs.declared.finding.Finding.{Finding}
use Rattle.chunk_store.specs.Chunks.{damage_at}
use Rattle.disk_theory.specs.State.{State, standing}
use Rattle.disk_theory.specs.declared.place.Place.TheVariants.{Entry}
use Rattle.entry_file.proofs.Damaged.{each_content, of_content}
use Rattle.entry_metadata.specs.Meta.{meta_of}
use Rattle.cache_check.specs.Checks.{named}
use Rattle.cache_check.specs.Findings.{damaged}
use Rattle.cache_check.proofs.Damages.{damages_from, from_first, listed, more}
use Rattle.cache_check.proofs.body.add_damages.Goals as goal

pub loop-index-init : goal.loop-index-init
loop-index-init g c =
    let name = c.args.name.now in
    let meta = meta_of c.args.meta.now in
    let out = c.args.out.now in
    let content = standing (g.D.Disk.state c.args.disk.now) (Entry name) in
    record {
      completes = λ told. each_content content
          (λ b. out ++ listed name (damages_from (damage_at meta.hashes (take meta.offset b)) 0 (chunks meta.offset)) ≡ out ++ named name (damaged meta b))
          (λ b. ap (λ (fs : List Finding). out ++ fs) (from_first name meta b));
      state = search rules;
      looks = search rules;
      faults = search rules;
    }

pub loop-index-preserved : goal.loop-index-preserved
loop-index-preserved g c =
    let name = c.args.name.now in
    let meta = meta_of c.args.meta.now in
    let i = c.loop-index.index in
    let n = chunks meta.offset in
    let content = standing (g.D.Disk.state c.args.disk.now) (Entry name) in
    let test = λ (b : List ℕ). damage_at meta.hashes (take meta.offset b) in
    let whole = λ (b : List ℕ). c.args.out.now ++ named name (damaged meta b) in
    let within : i < n = search rules in
    record {
      completes = λ told.
          let here : IfSome content (λ b. c.in_ok-damage.damage ≡ test b i) =
          subst (λ (s : State). IfSome (standing s (Entry name)) (λ b. c.in_ok-damage.damage ≡ test b i)) (c.loop-index.invariant.state told) (c.in_ok-damage.ensures.damage told) in
          of_content content (λ b. c.loop-index.out ++ listed name (damages_from (test b) i n) ≡ whole b) (λ b. c.in_ok-damage.damage ≡ test b i)
          (λ b. c.add_damage.new.out ++ listed name (damages_from (test b) (i + 1) n) ≡ whole b)
          (λ b so_far is. more (test b) i n name c.loop-index.out c.add_damage.new.out (whole b) c.in_ok-damage.damage within is c.in_ok-add_damage.ensures so_far)
          (c.loop-index.invariant.completes told) here;
      state = search rules;
      looks = search rules;
      faults = search rules;
    }
