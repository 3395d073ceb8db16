-- The bytes of records that are written one after another.
use Rattle.std.proofs.Common.{◌≡◌, ℕ, ◌+◌, ◌<◌, List, [], ◌∷◌, ◌++◌, length, take, get_or, sym, ap, ◌∙◌, append_assoc}
use Rattle.std.proofs.lemmas.List.{append-nil, map_more}
use Rattle.std.proofs.lemmas.List.Concat.{flat_map-append}
use Rattle.index_record.specs.declared.record.IndexRecord.{IndexRecord}
use Rattle.index_record.specs.Record.{cleared, record_bytes}
use Rattle.record_list.specs.Lists.{records_bytes}
use Rattle.record_list.specs.Stored.{read_as}

-- one record more
bytes_more : (rs : List IndexRecord) (i : ℕ) (d : IndexRecord) → i < length rs
    → records_bytes (read_as (take (i + 1) rs)) ≡ records_bytes (read_as (take i rs)) ++ record_bytes (cleared (get_or rs i d))
bytes_more rs i d h =
    ap records_bytes (map_more cleared rs i d h)
    ∙ flat_map-append record_bytes (read_as (take i rs)) (cleared (get_or rs i d) ∷ [])
    ∙ ap (λ ys. records_bytes (read_as (take i rs)) ++ ys) (append-nil (record_bytes (cleared (get_or rs i d))))

pub pushed : (rs : List IndexRecord) (i : ℕ) (d : IndexRecord) → i < length rs → (before out more now : List ℕ)
    → out ≡ before ++ records_bytes (read_as (take i rs)) → more ≡ record_bytes (cleared (get_or rs i d)) → now ≡ out ++ more
    → now ≡ before ++ records_bytes (read_as (take (i + 1) rs))
pushed rs i d h before out more now eo em en =
    en ∙ (λ k. eo k ++ em k) ∙ append_assoc before (records_bytes (read_as (take i rs))) (record_bytes (cleared (get_or rs i d)))
    ∙ ap (λ ys. before ++ ys) (sym (bytes_more rs i d h))
