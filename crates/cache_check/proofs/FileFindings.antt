-- What is wrong with a file that fits: the damages of its body.
use Rattle.std.proofs.Common.{arith, ◌+◌, ◌≤◌, ◌≡◌, ◌++◌, ℕ, List, Option, Some, None, sym, ap, subst, ◌∙◌}
use Rattle.std.specs.Prelude.{IfSome, if◌then◌else◌, is_none}
use Rattle.cache_base.specs.declared.name.Name.{Name}
use Rattle.cache_check.specs.Findings.{content_findings, damaged, file_findings}
use Rattle.cache_check.specs.declared.finding.Finding.{Finding}
use Rattle.disk_theory.specs.State.{State, standing}
use Rattle.disk_theory.specs.declared.place.Place.TheVariants.{Entry}
use Rattle.entry_file.specs.EntryFile.{file_fault, file_meta}
use Rattle.entry_file.specs.EntryRead.{ReadsAs}
use Rattle.entry_file.specs.declared.entry_read.EntryRead.{EntryRead}
use Rattle.entry_file.specs.declared.entry_read.EntryRead.TheVariants.{Fits}
use Rattle.entry_metadata.specs.Meta.{meta_of}
use Rattle.entry_metadata.specs.Metadata.{Meta as Said}
use Rattle.entry_metadata.specs.declared.meta.Meta.{Meta}
use Rattle.cache_base.specs.Limits.{chunks}
use Rattle.cache_check.specs.Checks.{looks_at, named}
use Rattle.disk_theory.specs.Calls.{Counts}
use Rattle.entry_file.specs.Looks.{LooksAtMost, meta_looks}

-- the findings of a content that fits are those of its body
fitting : (name : Name) (c : List ℕ) (m : Said) → file_fault name.0 c ≡ None → m ≡ file_meta c → damaged m c ≡ content_findings (file_fault name.0 c) c
fitting name c m fits same = ap (λ (k : Said). damaged k c) same ∙ ap (λ f. content_findings f c) (sym fits)

by_content : (name : Name) (o : Option (List ℕ)) (meta : Meta) (size : ℕ) (out next : List Finding)
    → ReadsAs name.0 o (Fits meta size)
    → IfSome o (λ c. next ≡ out ++ named name (damaged (meta_of meta) c))
    → next ≡ out ++ named name (file_findings name o)
by_content name None meta size out next reads adds = absurd reads
by_content name (Some c) meta size out next reads adds =
    adds ∙ ap (λ ws. out ++ named name ws) (fitting name c (meta_of meta) reads.0 reads.1)

-- after the damages of a file that was read as fitting all its findings are there
pub fits_adds : (name : Name) (s t : State) (read : EntryRead) (meta : Meta) (size : ℕ) (out next : List Finding)
    → t ≡ s → ReadsAs name.0 (standing s (Entry name)) read → read ≡ Fits meta size
    → IfSome (standing t (Entry name)) (λ c. next ≡ out ++ named name (damaged (meta_of meta) c))
    → next ≡ out ++ named name (file_findings name (standing s (Entry name)))
fits_adds name s t read meta size out next same reads is adds =
    by_content name (standing s (Entry name)) meta size out next
    (subst (λ (r : EntryRead). ReadsAs name.0 (standing s (Entry name)) r) is reads)
    (subst (λ (u : State). IfSome (standing u (Entry name)) (λ c. next ≡ out ++ named name (damaged (meta_of meta) c))) same adds)

-- ---- the looks at such a file

looks_by_content : (name : Name) (o : Option (List ℕ)) (meta : Meta) (size : ℕ) → ReadsAs name.0 o (Fits meta size) → looks_at name o ≡ meta_looks + chunks (meta_of meta).offset
looks_by_content name None meta size reads = absurd reads
looks_by_content name (Some c) meta size reads =
    ap (λ f. meta_looks + (if is_none f then chunks (file_meta c).offset else 0)) reads.0
    ∙ ap (λ (m : Said). meta_looks + chunks m.offset) (sym reads.1)

-- those of its metadata, and then those of its body
pub looks_at_both : (name : Name) (s : State) (read : EntryRead) (meta : Meta) (size : ℕ) (before mid now : Counts)
    → ReadsAs name.0 (standing s (Entry name)) read → read ≡ Fits meta size
    → mid.calls ≤ before.calls + meta_looks → mid.entry_reads ≤ before.entry_reads + meta_looks → mid.failed ≡ before.failed → mid.syncs ≡ before.syncs
    → LooksAtMost (chunks (meta_of meta).offset) mid now → LooksAtMost (looks_at name (standing s (Entry name))) before now
looks_at_both name s read meta size before mid now reads is calls entry_reads no_change unsynced body =
    let all = looks_by_content name (standing s (Entry name)) meta size (subst (λ (r : EntryRead). ReadsAs name.0 (standing s (Entry name)) r) is reads) in
    let more = body.calls in
    let further = body.entry_reads in
    record {
      calls = omega (arith, all, calls, more);
      entry_reads = omega (arith, all, entry_reads, further);
      no_change = body.no_change ∙ no_change;
      unsynced = body.unsynced ∙ unsynced;
    }
