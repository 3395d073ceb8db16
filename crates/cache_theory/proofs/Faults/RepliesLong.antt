-- No reply is empty.
use Rattle.std.proofs.Common.{ℕ, ◌<◌, List, [], ◌∷◌, ◌++◌, codes, decimal, flat_map, length, arith, length-append, refl}
use Rattle.cache_base.specs.declared.name.Name.{Name}
use Rattle.cache_check.specs.declared.finding.Finding.{Finding}
use Rattle.cache_theory.specs.Command.Reply.{Done, Refused, NoneThere, Value, Part, Found, AltData, Main, Yes, No, Unknown, Records, Evicted, Cleared, Resumed, Ready, Updating, Findings, Rebuilt, Dumped}
use Rattle.cache_theory.specs.Text.{ReplyIsNotEmpty, finding_words, found_line, line, record_words, refusal_words, reply_text, version_text, with_bytes, with_number}
use Rattle.entry_file.specs.Version.{Version, version_meta}
use Rattle.entry_metadata.specs.Metadata.{Meta}
use Rattle.entry_parts.specs.Elements.{elements_bytes}
use Rattle.hex.specs.Hex.{encode_upper}
use Rattle.index_record.specs.declared.record.IndexRecord.{IndexRecord}
use Rattle.cache_export.specs.Dump.{head, item_bytes}

line_long : (words : List (List ℕ)) → 0 < length (line words)
line_long words = end_long _
  where
    end_long : (xs : List ℕ) → 0 < length (xs ++ 10 ∷ [])
    end_long xs = let joined = length-append xs (10 ∷ []) in omega (arith, joined)

longer : (xs ys : List ℕ) → 0 < length xs → 0 < length (xs ++ ys)
longer xs ys long = let joined = length-append xs ys in omega (arith, joined, long)

number_long : (word : List ℕ) (n : ℕ) → 0 < length (with_number word n)
number_long word n = line_long (word ∷ decimal n ∷ [])

bytes_long : (word bytes : List ℕ) → 0 < length (with_bytes word bytes)
bytes_long word bytes =
    longer (with_number word (length bytes)) (bytes ++ 10 ∷ []) (number_long word (length bytes))

found_line_long : (m : Meta) → 0 < length (found_line m)
unfolding found_line
found_line_long m =
    line_long
    (codes "found" ∷ decimal m.header.fetch_count ∷ decimal m.header.last_fetched
    ∷ decimal m.header.last_modified ∷ decimal m.header.frecency ∷ decimal m.header.expiration
    ∷ decimal m.header.flags ∷ decimal (length (elements_bytes m.elements)) ∷ decimal m.offset
    ∷ [])

found_long : (v : Version) → 0 < length (version_text v)
found_long v =
    longer (found_line (version_meta v)) (elements_bytes v.elements ++ 10 ∷ (v.body ++ 10 ∷ []))
    (found_line_long (version_meta v))

pub replies_are_not_empty : ReplyIsNotEmpty
unfolding reply_text
replies_are_not_empty Done some = line_long (codes "ok" ∷ [])
replies_are_not_empty (Refused r) some = line_long (refusal_words r)
replies_are_not_empty NoneThere some = line_long (codes "none" ∷ [])
replies_are_not_empty (Value value) some = bytes_long (codes "value") value
replies_are_not_empty (Part bytes) some = bytes_long (codes "data") bytes
replies_are_not_empty (Found v) some = found_long v
replies_are_not_empty (AltData alt bytes) some =
    longer (line (codes "alt" ∷ decimal (length bytes) ∷ alt.kind ∷ [])) (bytes ++ 10 ∷ [])
    (line_long (codes "alt" ∷ decimal (length bytes) ∷ alt.kind ∷ []))
replies_are_not_empty (Main bytes) some = bytes_long (codes "main") bytes
replies_are_not_empty Yes some = line_long (codes "yes" ∷ [])
replies_are_not_empty No some = line_long (codes "no" ∷ [])
replies_are_not_empty Unknown some = line_long (codes "unknown" ∷ [])
replies_are_not_empty (Records records) some =
    longer (with_number (codes "records") (length records))
    (flat_map (λ (r : IndexRecord). line (record_words r)) records)
    (number_long (codes "records") (length records))
replies_are_not_empty (Evicted names) some =
    longer (with_number (codes "evicted") (length names))
    (flat_map (λ (name : Name). line (encode_upper name.0 ∷ [])) names)
    (number_long (codes "evicted") (length names))
replies_are_not_empty (Cleared names) some = number_long (codes "cleared") names
replies_are_not_empty Resumed some = absurd (some refl)
replies_are_not_empty Ready some = line_long (codes "ready" ∷ [])
replies_are_not_empty (Updating names) some = number_long (codes "updating") names
replies_are_not_empty (Findings findings) some =
    longer (with_number (codes "findings") (length findings))
    (flat_map (λ (f : Finding). line (finding_words f)) findings)
    (number_long (codes "findings") (length findings))
replies_are_not_empty (Rebuilt records) some = number_long (codes "rebuilt") records
replies_are_not_empty (Dumped versions) some = longer head (flat_map item_bytes versions ++ 0 ∷ []) (omega arith)
