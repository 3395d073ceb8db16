-- What the records tell once those of some names are out.
use Rattle.std.proofs.Common.{◌≡◌, ◌∙◌, Bool, true, false, cond, List, [], ℕ, Option, None, sym, ap, subst, refl}
use Rattle.std.specs.Prelude.{Contains, option_and_then}
use Rattle.cache_base.specs.declared.name.Name.{Name}
use Rattle.cache_theory.specs.Laws.{AreLost, is_among}
use Rattle.cache_theory.specs.Machine.{Machine}
use Rattle.cache_theory.specs.Table.{get}
use Rattle.index_record.specs.declared.record.IndexRecord.{IndexRecord}
use Rattle.index_theory.specs.Scan.{record_of, scanned}
use Rattle.index_update.specs.Rest.{name_bytes}
use Rattle.memory_index.specs.Forgetting.{Forgets}
use Rattle.memory_index.specs.Records.{TellsOf}
use Rattle.memory_index.specs.declared.memory_index.MemoryIndex.{MemoryIndex}

scanned_off : (q : Name) (b : Bool) (o : Option (List ℕ)) → cond b None (option_and_then (record_of q) o) ≡ option_and_then (record_of q) (cond b None o)
scanned_off q true o = refl
scanned_off q false o = refl

module _ (m next : Machine) (names : List Name) (off : AreLost m next names) where
  off_scan : (q : Name) → cond (is_among q.0 names) None (scanned (get m.shelf) q) ≡ scanned (get next.shelf) q
  off_scan q = scanned_off q (is_among q.0 names) (get m.shelf q.0) ∙ sym (ap (option_and_then (record_of q)) (off.shelf q.0))

  tells_out : (q : Name) (o new : Option IndexRecord) → new ≡ cond (is_among q.0 names) None o → o ≡ scanned (get m.shelf) q → new ≡ scanned (get next.shelf) q
  tells_out q o new out told = out ∙ ap (λ x. cond (is_among q.0 names) None x) told ∙ off_scan q

  -- where they told of all entries they tell of all that are left
  pub forgotten_tells : (old new : MemoryIndex) → Forgets names old.map new.map → old.update ≡ [] → new.update ≡ old.update
      → TellsOf (get m.shelf) old → TellsOf (get next.shelf) new
  forgotten_tells old new forgets ended rest told = record {
    seen = λ q out. tells_out q _ _ (forgets.seen q) (told.seen q (λ has. out (subst (λ u. Contains (name_bytes u) q.0) (sym rest) has)));
    all = λ none q. tells_out q _ _ (forgets.records q) (told.all ended q);
  }
