-- The records of names that are taken out one after the other: those that are left complete the whole.
use Rattle.std.proofs.Common.{◌≡◌, ◌∙◌, Bool, true, cond, ◌||◌, List, [], ◌∷◌, Option, None, refl, sym, ap, subst}
use Rattle.cache_base.specs.declared.name.Name.{Name}
use Rattle.cache_theory.specs.Laws.{is_among}
use Rattle.cache_theory.proofs.Evictions.Evicting.{off_either}
use Rattle.index_map.specs.Known.{Known, Sets}
use Rattle.index_record.specs.declared.record.IndexRecord.{IndexRecord}
use Rattle.index_update.proofs.ReadMore.{base_kept, base_then}
use Rattle.memory_index.specs.Forgetting.{Forgets}
use Rattle.record_list.specs.Lists.{same_name}
use Rattle.record_list.proofs.NameLaws.{same_back}

abbrev pub ForgetsRest : List Name → List Name → Known → Known → Type 0
ForgetsRest left names before now = (new : Known) → Forgets left now new → Forgets names before new

pub forgets_all : (names : List Name) (now : Known) → ForgetsRest names names now now
forgets_all names now new forgets = forgets

module _ (name : Name) (left : List Name) where
  -- what is out with the first and with those left
  out_of : (q : Name) (o mid new : Option IndexRecord) → mid ≡ cond (same_name name q) None o → new ≡ cond (is_among q.0 left) None mid
      → new ≡ cond (is_among q.0 (name ∷ left)) None o
  out_of q o mid new first later =
      later ∙ ap (λ x. cond (is_among q.0 left) None x) first ∙ off_either (same_name name q) (is_among q.0 left) o
      ∙ ap (λ b. cond (b || is_among q.0 left) None o) (same_back name q)

  forgets_first : (now mid new : Known) → Sets now mid name None → Forgets left mid new → Forgets (name ∷ left) now new
  forgets_first now mid new sets forgets = record {
    records = λ q. out_of q _ _ _ (sets.records q) (forgets.records q);
    seen = λ q. out_of q _ _ _ (sets.seen q) (forgets.seen q);
    base = base_then now mid new sets.base forgets.base;
  }

  pub forgets_next : (names all : List Name) (before now mid : Known) → all ≡ name ∷ left → Sets now mid name None
      → ForgetsRest all names before now → ForgetsRest left names before mid
  forgets_next names all before now mid is sets completes new forgets =
      completes new (subst (λ (ns : List Name). Forgets ns now new) (sym is) (forgets_first now mid new sets forgets))

pub forgets_whole : (names left : List Name) (before now : Known) → left ≡ [] → ForgetsRest left names before now → Forgets names before now
forgets_whole names left before now none completes =
    completes now (subst (λ (ns : List Name). Forgets ns now now) (sym none) (record { records = λ q. refl; seen = λ q. refl; base = base_kept now }))
