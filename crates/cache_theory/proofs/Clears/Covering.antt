-- The record of an entry tells whether a clearing takes it, and so do the records of a scan.
use Rattle.std.proofs.Common.{◌≡◌, ℕ, ◌+◌, ◌^◌, ◌<◌, ◌/◌, ◌%◌, Bool, true, false, ◌&&◌, cond, Some, None, List, [], ◌∷◌, filter, map, refl, sym, ap, ◌∙◌, arith}
use Rattle.std.specs.List.{cons_option}
use Rattle.std.specs.Prelude.{◌==◌, is_some, length, min, not, codes}
use Rattle.std.proofs.lemmas.Bool.{eq-eqb, ne_eqb}
use Rattle.cache_base.specs.declared.name.Name.{Name}
use Rattle.cache_theory.specs.Covers.{covered_records, covered_there, covers, covers_content}
use Rattle.cache_theory.specs.Laws.{RecordTellsCovered}
use Rattle.cache_theory.specs.Table.{Table, keys, name_of}
use Rattle.cache_theory.proofs.Evictions.Evicting.{record_named}
use Rattle.context_clear.specs.Covered.{covers_record}
use Rattle.entry_file.specs.EntryFile.{file_meta, fits}
use Rattle.entry_key.specs.Tags.{has_tag, origin_hash, tags_of}
use Rattle.entry_parts.specs.Elements.{element}
use Rattle.index_record.specs.Filling.{bit_if, record_of_meta}
use Rattle.index_record.specs.Record.{has_bit}
use Rattle.index_record.specs.declared.record.IndexRecord.{IndexRecord}
use Rattle.index_theory.specs.Scan.{scan}

bit_set : (n : ℕ) → n / 2 ^ 26 % 2 ≡ 1 → has_bit 26 n ≡ true
bit_set n is = eq-eqb _ _ is

bit_clear : (n : ℕ) → n / 2 ^ 26 % 2 ≡ 0 → has_bit 26 n ≡ false
bit_clear n is = ne_eqb _ _ (λ one. omega (arith, is, one))

-- bit 26 of flags that are made of their parts
pinned_bit : (a p q : Bool) (k : ℕ) → k < 2 ^ 24 → has_bit 26 (2 ^ 31 + bit_if a 30 + bit_if p 26 + bit_if q 25 + k) ≡ p
pinned_bit true true true k small = bit_set (2 ^ 31 + 2 ^ 30 + 2 ^ 26 + 2 ^ 25 + k) (omega (arith, small))
pinned_bit true true false k small = bit_set (2 ^ 31 + 2 ^ 30 + 2 ^ 26 + 0 + k) (omega (arith, small))
pinned_bit true false true k small = bit_clear (2 ^ 31 + 2 ^ 30 + 0 + 2 ^ 25 + k) (omega (arith, small))
pinned_bit true false false k small = bit_clear (2 ^ 31 + 2 ^ 30 + 0 + 0 + k) (omega (arith, small))
pinned_bit false true true k small = bit_set (2 ^ 31 + 0 + 2 ^ 26 + 2 ^ 25 + k) (omega (arith, small))
pinned_bit false true false k small = bit_set (2 ^ 31 + 0 + 2 ^ 26 + 0 + k) (omega (arith, small))
pinned_bit false false true k small = bit_clear (2 ^ 31 + 0 + 0 + 2 ^ 25 + k) (omega (arith, small))
pinned_bit false false false k small = bit_clear (2 ^ 31 + 0 + 0 + 0 + k) (omega (arith, small))

pub record_tells_covered : RecordTellsCovered
unfolding record_of_meta
record_tells_covered origin name content fit =
    let m = file_meta content in
    let size : min ((length content + 1023) / 1024) 0xFFFFFF < 2 ^ 24 = omega arith in
    ap (λ (b : Bool). origin_hash (tags_of m.key) == origin && not b)
    (pinned_bit (has_tag 97 (tags_of m.key)) (has_bit 0 m.header.flags) (is_some (element (codes "alt-data") m.elements)) (min ((length content + 1023) / 1024) 0xFFFFFF) size)
    ∙ ap (λ (b : Bool). b && covers origin m.key m.header) (sym fit)

-- the first of a table, which is taken or not
first_taken : (e : List ℕ × List ℕ) (r : IndexRecord) (es : Table (List ℕ)) (rs : List IndexRecord) (taken : Bool) → r.name.0 ≡ e.0 → keys es ≡ map (λ s. s.name.0) rs
    → keys (cond taken (e ∷ es) es) ≡ map (λ s. s.name.0) (cond taken (r ∷ rs) rs)
first_taken e r es rs true name more = ap (λ n. n ∷ keys es) (sym name) ∙ ap (λ ns. r.name.0 ∷ ns) more
first_taken e r es rs false name more = more

-- what is covered on the shelf, by the records of its scan
pub covered_by_scan : (shelf : Table (List ℕ)) (origin : ℕ) → covered_there shelf origin ≡ covered_records origin (scan shelf)
covered_by_scan [] origin = refl
covered_by_scan (e ∷ es) origin = go (fits e.0 e.1) refl (covered_by_scan es origin)
  where
    new : IndexRecord
    new = record_of_meta (name_of e.0) (file_meta e.1) (length e.1)

    taken : Table (List ℕ)
    taken = filter (λ entry. covers_content origin entry.0 entry.1) es

    go : (b : Bool) → fits e.0 e.1 ≡ b → keys taken ≡ covered_records origin (scan es)
        → keys (cond (b && covers origin (file_meta e.1).key (file_meta e.1).header) (e ∷ taken) taken)
        ≡ covered_records origin (cons_option (cond b (Some new) None) (scan es))
    go true fit more =
        let tells : covers_record origin new ≡ covers origin (file_meta e.1).key (file_meta e.1).header =
        record_tells_covered origin (name_of e.0) e.1 fit ∙ ap (λ (b : Bool). b && covers origin (file_meta e.1).key (file_meta e.1).header) fit in
        first_taken e new taken (filter (covers_record origin) (scan es)) (covers origin (file_meta e.1).key (file_meta e.1).header)
        (ap (λ (n : Name). n.0) (record_named (name_of e.0) (file_meta e.1) (length e.1))) more
        ∙ ap (λ c. map (λ (s : IndexRecord). s.name.0) (cond c (new ∷ filter (covers_record origin) (scan es)) (filter (covers_record origin) (scan es)))) (sym tells)
    go false unfit more = more
