-- What is found depends on what stands under the names that are not being written, and on their records.
use Rattle.std.proofs.Common.{◌≡◌, ◌++◌, ℕ, List, [], ◌∷◌, Bool, true, false, cond, not, ◌&&◌, map, filter, flat_map, Some, None, refl, sym, ap, subst, ◌∙◌, T}
use Rattle.std.proofs.lemmas.Bool.{not-true}
use Rattle.std.proofs.lemmas.Map.Text.{is_eq-slice_cmp}
use Rattle.std.specs.FinMap.Entries.{below_all, find-where_key, is_sorted, is_sorted-where_key}
use Rattle.std.specs.FinMap.{nat_cmp-IsAntisymmetric, slice_cmp-IsAntisymmetric}
use Rattle.std.specs.Option.{option_map}
use Rattle.std.specs.Ordering.{eq_by_cmp, is_lt}
use Rattle.std.specs.Prelude.{is_some}
use Rattle.cache_base.specs.Names.{has_name}
use Rattle.cache_base.specs.declared.name.Name.{Name}
use Rattle.cache_check.proofs.TableLaws.{get-insert, insert_is_table, same_table}
use Rattle.cache_check.specs.Findings.{findings, findings_at, findings_of, names_alone, names_of_both, with_names}
use Rattle.cache_check.specs.Table.{IsTable, Table, bytes_cmp, get, keys, name_of}
use Rattle.index_record.specs.declared.record.IndexRecord.{IndexRecord}
use Rattle.record_list.proofs.NameLaws.{same_back}
use Rattle.record_list.specs.Lists.{record_at, same_name}
use Rattle.cache_check.specs.Checks.{named}
use Rattle.cache_check.specs.Laws.{AgreeBeside, FindingsAgree}
use Rattle.cache_check.proofs.RowLaws.{at_parts, one}

-- Which names are in a table of names.

alone-get : (t : Table (List ℕ)) (q : List ℕ) → get (names_alone t) q ≡ option_map (λ c. one) (get t q)
alone-get [] q = refl
alone-get (e ∷ es) q =
    elim (eq_by_cmp bytes_cmp q e.0) as (λ b. cond b (Some one) (get (names_alone es) q) ≡ option_map (λ c. one) (cond b (Some e.1) (get es q))) [ true ↦ refl | false ↦ alone-get es q ]

same_test : (q : List ℕ) (n : Name) → eq_by_cmp bytes_cmp q n.0 ≡ same_name n (name_of q)
same_test q n = is_eq-slice_cmp q n.0 ∙ same_back (name_of q) n

with-get : (t : Table (Unit {0})) (rs : List IndexRecord) (q : List ℕ) → get (with_names t rs) q ≡ cond (is_some (record_at rs (name_of q))) (Some one) (get t q)
with-get t [] q = refl
with-get t (r ∷ rs) q =
    get-insert (with_names t rs) r.name.0 one q
    ∙ ap (λ b. cond b (Some one) (get (with_names t rs) q)) (same_test q r.name)
    ∙ go (same_name r.name (name_of q)) (with-get t rs q)
  where
    go : (b : Bool) → get (with_names t rs) q ≡ cond (is_some (record_at rs (name_of q))) (Some one) (get t q)
        → cond b (Some one) (get (with_names t rs) q) ≡ cond (is_some (cond b (Some r) (record_at rs (name_of q)))) (Some one) (get t q)
    go true more = refl
    go false more = more

below-alone : (k : List ℕ) (t : Table (List ℕ)) → below_all bytes_cmp k (names_alone t) ≡ below_all bytes_cmp k t
below-alone k [] = refl
below-alone k (e ∷ es) = ap (λ b. is_lt (bytes_cmp k e.0) && b) (below-alone k es)

sorted-alone : (t : Table (List ℕ)) → is_sorted bytes_cmp (names_alone t) ≡ is_sorted bytes_cmp t
sorted-alone [] = refl
sorted-alone (e ∷ es) = λ i. below-alone e.0 es i && sorted-alone es i

pub alone_is_table : (t : Table (List ℕ)) → IsTable t → IsTable (names_alone t)
alone_is_table t h = record { rising = subst T (sym (sorted-alone t)) h.rising }

pub with_is_table : (t : Table (Unit {0})) (rs : List IndexRecord) → IsTable t → IsTable (with_names t rs)
with_is_table t [] h = h
with_is_table t (r ∷ rs) h = insert_is_table (with_names t rs) r.name.0 one (with_is_table t rs h)

flat_where : {X Y : Type 0} (p : X → Bool) (f g : X → List Y) (xs : List X) → ((x : X) → p x ≡ true → f x ≡ g x) → flat_map f (filter p xs) ≡ flat_map g (filter p xs)
flat_where p f g [] same = refl
flat_where {X} {Y} p f g (x ∷ xs) same = go (p x) refl (flat_where p f g xs same)
  where
    go : (b : Bool) → p x ≡ b → flat_map f (filter p xs) ≡ flat_map g (filter p xs) → flat_map f (cond b (x ∷ filter p xs) (filter p xs)) ≡ flat_map g (cond b (x ∷ filter p xs) (filter p xs))
    go true passes more = λ i. same x passes i ++ more i
    go false fails more = more

-- The names that are read.
module _ (writing : List Name) where
  abbrev is_read : Name → Bool
  is_read n = not (has_name writing n)

  abbrev kept : Table (Unit {0}) → Table (Unit {0})
  kept t = filter (λ e. is_read (name_of e.0)) t

  read_names : (t : Table (Unit {0})) → filter is_read (map name_of (keys t)) ≡ map name_of (keys (kept t))
  read_names [] = refl
  read_names (e ∷ es) =
      elim (is_read (name_of e.0)) as (λ b. cond b (name_of e.0 ∷ filter is_read (map name_of (keys es))) (filter is_read (map name_of (keys es))) ≡ map name_of (keys (cond b (e ∷ kept es) (kept es)))) [
        | true ↦ ap (λ ns. name_of e.0 ∷ ns) (read_names es)
        | false ↦ read_names es
      ]

  kept-get : (t : Table (Unit {0})) (q : List ℕ) → get (kept t) q ≡ cond (is_read (name_of q)) (get t q) None
  kept-get t q =
      find-where_key bytes_cmp (λ k. is_read (name_of k)) q
      (λ x tied. ap (λ k. is_read (name_of k)) (sym (slice_cmp-IsAntisymmetric nat_cmp-IsAntisymmetric q x tied))) t

  kept_is_table : (t : Table (Unit {0})) → IsTable t → IsTable (kept t)
  kept_is_table t h = record { rising = is_sorted-where_key bytes_cmp (λ k. is_read (name_of k)) t h.rising }

  module _ (one_files two_files : Table (List ℕ)) (rs qs : List IndexRecord) (agree : AgreeBeside writing one_files two_files rs qs) where
    abbrev left : Table (Unit {0})
    left = with_names (names_alone one_files) rs

    abbrev right : Table (Unit {0})
    right = with_names (names_alone two_files) qs

    same_there : (q : List ℕ) → has_name writing (name_of q) ≡ false → get left q ≡ get right q
    same_there q unread =
        with-get (names_alone one_files) rs q
        ∙ ap (λ o. cond (is_some o) (Some one) (get (names_alone one_files) q)) (agree.records (name_of q) unread)
        ∙ ap (λ o. cond (is_some (record_at qs (name_of q))) (Some one) o)
        (alone-get one_files q ∙ ap (λ c. option_map (λ d. one) c) (agree.files (name_of q) unread) ∙ sym (alone-get two_files q))
        ∙ sym (with-get (names_alone two_files) qs q)

    same_kept_at : (q : List ℕ) → get (kept left) q ≡ get (kept right) q
    same_kept_at q = kept-get left q ∙ go (has_name writing (name_of q)) refl ∙ sym (kept-get right q)
      where
        go : (b : Bool) → has_name writing (name_of q) ≡ b → cond (not b) (get left q) None ≡ cond (not b) (get right q) None
        go true written = refl
        go false unread = same_there q unread

    same_at : (n : Name) → is_read n ≡ true → findings_at one_files rs n ≡ findings_at two_files qs n
    same_at n read =
        let unread = not-true (has_name writing n) read in
        at_parts one_files rs n
        ∙ ap (λ c. findings_of n c (record_at rs n)) (agree.files n unread)
        ∙ ap (λ r. findings_of n (get two_files n.0) r) (agree.records n unread)
        ∙ sym (at_parts two_files qs n)

    pub agreeing : IsTable one_files → IsTable two_files → findings one_files rs writing ≡ findings two_files qs writing
    unfolding findings
    agreeing h k =
        let ours = λ (n : Name). named n (findings_at one_files rs n) in
        let theirs = λ (n : Name). named n (findings_at two_files qs n) in
        let same_kept : kept left ≡ kept right =
        same_table (kept left) (kept right) (kept_is_table left (with_is_table (names_alone one_files) rs (alone_is_table one_files h)))
        (kept_is_table right (with_is_table (names_alone two_files) qs (alone_is_table two_files k))) same_kept_at in
        flat_where is_read ours theirs (names_of_both one_files rs) (λ n read. ap (λ ws. named n ws) (same_at n read))
        ∙ ap (λ ns. flat_map theirs ns) (read_names left ∙ ap (λ t. map name_of (keys t)) same_kept ∙ sym (read_names right))

pub findings_agree : FindingsAgree
findings_agree writing one_files two_files rs qs h k agree = agreeing writing one_files two_files rs qs agree h k
