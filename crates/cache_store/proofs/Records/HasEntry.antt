-- Whether there is an entry, by the records.
use Rattle.std.proofs.Common.{◌≡◌, ◌∙◌, Bool, true, false, cond, List, ℕ, Option, None, Some, length, refl, sym, ap}
use Rattle.std.specs.List.{list_any}
use Rattle.std.specs.Prelude.{bytes_eq, is_some, option_and_then}
use Rattle.std.proofs.lemmas.Map.Views.{list_any-from_Contains}
use Rattle.std.specs.Cmp.Lexicographic.{nat_list_eq_equiv}
use Rattle.cache_base.specs.Names.{has_name}
use Rattle.cache_base.specs.declared.name.Name.{Name}
use Rattle.cache_theory.specs.Checks.{checks}
use Rattle.cache_theory.specs.Command.{Reply}
use Rattle.cache_theory.specs.Command.Command.{HasEntry, HasGiven}
use Rattle.cache_theory.specs.Command.Reply.{Refused, Yes, No, Unknown}
use Rattle.cache_theory.specs.Machine.{Machine, waits_for}
use Rattle.cache_theory.specs.Step.{answer, effect, fits_there, has_reply, step, stepped}
use Rattle.cache_theory.specs.Table.{get}
use Rattle.cache_theory.specs.declared.refusal.Refusal.TheVariants as refused
use Rattle.entry_file.specs.EntryFile.{file_meta, fits}
use Rattle.entry_key.specs.Writing.{may_write}
use Rattle.entry_name.specs.EntryName.{file_name}
use Rattle.index_record.specs.Filling.{record_of_meta}
use Rattle.index_record.specs.declared.record.IndexRecord.{IndexRecord}
use Rattle.index_theory.specs.Scan.{record_of}
use Rattle.index_update.specs.Rest.{name_bytes}
use Rattle.index_update.proofs.TellLaws.{bytes_wait}
use Rattle.record_list.specs.Lists.{record_at}
use Rattle.cache_store.specs.Records.{AnswersHas, RecordsTell, has_record}
use Rattle.cache_replies.specs.Answers.{reply_of}
use Rattle.cache_replies.specs.declared.answered.Answered.{Answered}
use Rattle.cache_replies.specs.declared.answered.Answered.TheVariants as answered
use Rattle.memory_index.specs.declared.memory_index.MemoryIndex.{MemoryIndex}

-- a record is found where an entry fits
record_fits : (name : Name) (content : Option (List ℕ)) → is_some (option_and_then (record_of name) content) ≡ fits_there name.0 content
record_fits name None = refl
record_fits name (Some c) = go (fits name.0 c) (record_of_meta name (file_meta c) (length c))
  where
    go : (b : Bool) (r : IndexRecord) → is_some (cond b (Some r) None) ≡ b
    go true r = refl
    go false r = refl

module _ (key : List ℕ) (there : Bool) (m : Machine) where
  bad_reply : may_write key ≡ false → (step m (HasGiven key there)).reply ≡ Refused refused.BadKey
  unfolding checks effect
  bad_reply bad = ap (λ b. (stepped m (HasGiven key there) (cond b None (Some refused.BadKey))).reply) bad

  good_reply : may_write key ≡ true → (step m (HasGiven key there)).reply ≡ has_reply m (file_name key) there
  unfolding checks effect
  good_reply good = ap (λ b. (stepped m (HasGiven key there) (cond b None (Some refused.BadKey))).reply) good

-- The answers.

module _ (index : MemoryIndex) (m : Machine) (rest : m.rest ≡ name_bytes index.update) (name : Name) where
  waits_alike : waits_for m name.0 ≡ has_name index.update name
  waits_alike = ap (list_any (bytes_eq name.0)) rest ∙ bytes_wait name index.update

  reply_by : (waits there : Bool) → has_name index.update name ≡ waits → has_reply m name.0 there ≡ cond waits Unknown (cond there Yes No)
  reply_by waits there is = ap (λ b. cond b Unknown (cond there Yes No)) (waits_alike ∙ is)

module _ (key : List ℕ) (index : MemoryIndex) where
  abbrev there : Bool
  there = has_record index key

  pub has_bad : may_write key ≡ false → AnswersHas key index (answered.Refused refused.BadKey)
  has_bad bad m rest = ap Some (sym (bad_reply key there m bad))

  module _ (good : may_write key ≡ true) (name : Name) (named : name.0 ≡ file_name key) where
    seen_there : is_some (record_at index.map.seen name) ≡ there
    seen_there = λ i. is_some (record_at index.map.seen (record { 0 = named i }))

    by_name : (m : Machine) (a : Answered) (r : Reply) → reply_of a ≡ Some r → has_reply m name.0 there ≡ r → reply_of a ≡ Some (step m (HasGiven key there)).reply
    by_name m a r said is = said ∙ ap Some (sym (good_reply key there m good ∙ ap (λ n. has_reply m n there) (sym named) ∙ is))

    pub has_unknown : has_name index.update name ≡ true → AnswersHas key index answered.Unknown
    has_unknown waits m rest = by_name m answered.Unknown Unknown refl (reply_by index m rest name true there waits)

    pub has_yes : has_name index.update name ≡ false → is_some (record_at index.map.seen name) ≡ true → AnswersHas key index answered.Yes
    has_yes out is m rest =
        by_name m answered.Yes Yes refl (reply_by index m rest name false there out ∙ ap (λ b. cond b Yes No) (sym seen_there ∙ is))

    pub has_no : has_name index.update name ≡ false → is_some (record_at index.map.seen name) ≡ false → AnswersHas key index answered.No
    has_no out is m rest =
        by_name m answered.No No refl (reply_by index m rest name false there out ∙ ap (λ b. cond b Yes No) (sym seen_there ∙ is))

-- Where the records are right that is the machine's own answer.

same_answer : (key : List ℕ) (given own : Bool) (m : Machine) → has_reply m (file_name key) given ≡ has_reply m (file_name key) own → (good : Bool)
    → stepped m (HasGiven key given) (cond good None (Some refused.BadKey)) ≡ answer m (cond good (has_reply m (file_name key) own) (Refused refused.BadKey))
unfolding effect
same_answer key given own m same true = ap (answer m) same
same_answer key given own m same false = refl

module _ (key : List ℕ) (index : MemoryIndex) (m : Machine) (tell : RecordsTell index m) where
  abbrev name : Name
  name = record { 0 = file_name key }

  abbrev own : Bool
  own = fits_there (file_name key) (get m.shelf (file_name key))

  same_reply : has_reply m (file_name key) (has_record index key) ≡ has_reply m (file_name key) own
  same_reply = go (has_name index.update name) refl
    where
      go : (waits : Bool) → has_name index.update name ≡ waits → has_reply m (file_name key) (has_record index key) ≡ has_reply m (file_name key) own
      go true is = reply_by index m tell.rest name true (has_record index key) is ∙ sym (reply_by index m tell.rest name true own is)
      go false is = ap (has_reply m (file_name key)) (
          ap is_some (tell.tells.seen name (λ has.
          let waits : list_any (bytes_eq name.0) (name_bytes index.update) ≡ true = list_any-from_Contains nat_list_eq_equiv name.0 (name_bytes index.update) has in
          let wait = bytes_wait name index.update in
          absurd (cc)))
          ∙ record_fits name (get m.shelf name.0))

  pub has_is_right : step m (HasGiven key (has_record index key)) ≡ step m (HasEntry key)
  unfolding checks effect
  has_is_right =
      same_answer key (has_record index key) own m same_reply (may_write key) ∙ own_answer (may_write key)
    where
      own_answer : (good : Bool) → answer m (cond good (has_reply m (file_name key) own) (Refused refused.BadKey)) ≡ stepped m (HasEntry key) (cond good None (Some refused.BadKey))
      own_answer true = refl
      own_answer false = refl
