-- What was found by the names that the disk listed, for any table of the files.
use Rattle.std.proofs.Common.{◌≡◌, ◌+◌, ◌-◌, ◌^◌, ℕ, List, ap, subst, sym, ◌∙◌, arith}
use Rattle.std.specs.Prelude.{Err, IfOk, Ok, Result, min}
use Rattle.cache_base.specs.Names.{AreSorted}
use Rattle.cache_base.specs.declared.name.Name.{Name}
use Rattle.cache_check.specs.Findings.{AreFindings, IsTableOf, findings}
use Rattle.cache_check.specs.Table.{Table}
use Rattle.cache_check.specs.declared.finding.Finding.{Finding}
use Rattle.disk_theory.specs.Calls.{Counts, counted_look}
use Rattle.disk_theory.specs.Listing.{AreEntries}
use Rattle.disk_theory.specs.State.{State, standing}
use Rattle.disk_theory.specs.declared.disk.DiskFault.{DiskFault}
use Rattle.entry_file.specs.Looks.{LooksAtMost}
use Rattle.index_record.specs.declared.record.IndexRecord.{IndexRecord}
use Rattle.index_theory.specs.Ever.{entries_on}
use Rattle.cache_check.specs.Checks.{AllStand, LooksOnce, looks_over, table_of}
use Rattle.cache_check.proofs.Tables.{entries_stand, is_table_of, only_one_table}

-- the lists that were passed on are these, and the state is as before
pub record Listed (s t : State) (names es : List Name) : Type 0 where
  pub state : t ≡ s
  pub same : es ≡ names
  pub rising : AreSorted names
  pub entries : AreEntries s names

pub listed_by : (s t : State) (names es : List Name) → t ≡ s → es ≡ names → AreSorted names → AreEntries s names → Listed s t names es
listed_by s t names es state same rising entries = record { state = state; same = same; rising = rising; entries = entries }

-- a file stands under each of them
pub listed_stand : (s t : State) (names es : List Name) → Listed s t names es → AllStand t es
listed_stand s t names es listed =
    subst (λ (u : State). AllStand u es) (sym listed.state)
    (subst (λ (ns : List Name). AllStand s ns) (sym listed.same) (entries_stand s names listed.entries))

module _ (s t : State) (names es : List Name) (files : Table (List ℕ)) (listed : Listed s t names es) (is_table : IsTableOf (entries_on s) files) where
  one_table : table_of (standing t) es ≡ files
  one_table =
      ap (λ ns. table_of (standing t) ns) listed.same
      ∙ ap (λ (u : State). table_of (standing u) names) listed.state
      ∙ only_one_table (entries_on s) (table_of (standing s) names) files (is_table_of s names listed.rising listed.entries) is_table

pub found_all : (Tells : Type 0) (s t : State) (names es : List Name) (rs qs : List IndexRecord) (w v : List Name) (r : Result (List Finding) DiskFault)
    → (Tells → Listed s t names es) → qs ≡ rs → v ≡ w
    → IfOk r (λ list. Tells → list ≡ findings (table_of (standing t) es) qs v)
    → IfOk r (λ list. Tells → AreFindings (entries_on s) rs w list)
found_all Tells s t names es rs qs w v (Err fault) listed records writing found = tt
found_all Tells s t names es rs qs w v (Ok list) listed records writing found = λ told files is_table.
    found told
    ∙ ap (λ f. findings f qs v) (one_table s t names es files (listed told) is_table)
    ∙ ap (λ ps. findings files ps v) records
    ∙ ap (λ ns. findings files rs ns) writing

-- after one look more
more_looks : {T : Type 0} (answer : Result T DiskFault) (n : ℕ) (before mid now : Counts) → mid ≡ counted_look answer before → LooksAtMost n mid now → LooksAtMost (1 + n) before now
more_looks answer n before mid now one looks =
    let c : mid.calls ≡ min (before.calls + 1) (2 ^ 64 - 1) = ap (λ (k : Counts). k.calls) one in
    let d : mid.entry_reads ≡ before.entry_reads = ap (λ (k : Counts). k.entry_reads) one in
    let f : mid.failed ≡ before.failed = ap (λ (k : Counts). k.failed) one in
    let h : mid.syncs ≡ before.syncs = ap (λ (k : Counts). k.syncs) one in
    let e = looks.calls in
    let g = looks.entry_reads in
    record { calls = omega (arith, c, e); entry_reads = omega (arith, d, g); no_change = looks.no_change ∙ f; unsynced = looks.unsynced ∙ h }

pub looked_once : (s t : State) (names es : List Name) (w v : List Name) (before mid now : Counts)
    → Listed s t names es → v ≡ w → {T : Type 0} (answer : Result T DiskFault) → mid ≡ counted_look answer before → LooksAtMost (looks_over (table_of (standing t) es) v) mid now → LooksOnce (entries_on s) w before now
looked_once s t names es w v before mid now listed writing answer one looks = λ files is_table.
    let n : looks_over (table_of (standing t) es) v ≡ looks_over files w =
    ap (λ f. looks_over f v) (one_table s t names es files listed is_table) ∙ ap (λ ns. looks_over files ns) writing in
    more_looks answer (looks_over files w) before mid now one (subst (λ k. LooksAtMost k mid now) n looks)
