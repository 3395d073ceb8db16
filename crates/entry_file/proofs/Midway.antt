-- A body on the way to a longer one.
use Rattle.std.proofs.Common.{◌≡◌, ℕ, ◌+◌, ◌<◌, List, ◌++◌, length, append_assoc, Option, Some, sym, ap, subst, ◌∙◌}
use Rattle.chunk_store.specs.Stored.{unfinished_file}
use Rattle.entry_file.specs.NewEntry.{Growing, HasBody}
use Rattle.entry_file.proofs.Bodies.{file_same, has_more}

-- the entry has a body by now that is made whole by what is left, and where the file stood, that body's stands
pub record IsMidway (e : Growing) (left whole : List ℕ) (stood : Type 0) (file : Option (List ℕ)) : Type 0 where
  pub now : List ℕ
  pub has : HasBody e now
  pub completes : now ++ left ≡ whole
  pub stands : stood → file ≡ Some (unfinished_file now)

module _ (e : Growing) (left whole : List ℕ) (stood : Type 0) (file : Option (List ℕ)) (m : IsMidway e left whole stood file) where
  -- a prefix of what is left was taken
  pub went_on : (new : Growing) (found : Option (List ℕ)) (front back : List ℕ) → front ++ back ≡ left
      → ((body : List ℕ) → HasBody e body → HasBody new (body ++ front))
      → (stood → (body : List ℕ) → HasBody e body → file ≡ Some (unfinished_file body) → found ≡ Some (unfinished_file (body ++ front)))
      → IsMidway new back whole stood found
  went_on new found front back cut has stands = record {
    now = m.now ++ front;
    has = has m.now m.has;
    completes = append_assoc m.now front back ∙ ap (λ xs. m.now ++ xs) cut ∙ m.completes;
    stands = λ s. stands s m.now m.has (m.stands s);
  }

  -- what is left is within the chunk
  module _ (within : length e.rest + length left < 262144) where
    pub has_whole : (rest : List ℕ) → rest ≡ e.rest ++ left → HasBody (record { hashes = e.hashes; rest = rest }) whole
    has_whole rest is =
        subst (λ body. HasBody (record { hashes = e.hashes; rest = rest }) body) m.completes
        (subst (λ r. HasBody (record { hashes = e.hashes; rest = r }) (m.now ++ left)) (sym is) (has_more e m.now m.has left within))

    pub stands_whole : stood → file ≡ Some (unfinished_file whole)
    stands_whole s = m.stands s ∙ ap Some (sym (file_same e m.now m.has left within) ∙ ap unfinished_file m.completes)
