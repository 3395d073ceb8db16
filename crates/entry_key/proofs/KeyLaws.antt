-- A key reads as tags and an address, or has a fault, exactly where the walk over its bytes finds these.
use Rattle.std.proofs.Common.{◌≡◌, ◌⊎◌, inl, inr, ℕ, List, [], sym, ap, subst, ◌∙◌}
use Rattle.std.specs.Prelude.{Ok, Err}
use Rattle.entry_key.specs.declared.key_fault.KeyFault.{KeyFault}
use Rattle.entry_key.specs.Key.{Tag, KeyReads}
use Rattle.entry_key.specs.Faults.{HasFault}
use Rattle.entry_key.specs.Walk.{Parts, read_key}
use Rattle.entry_key.specs.Laws.{ReadsExactly, FailsExactly, ReadsOneWay, FailsOneWay, ReadsOrFails, NeverBoth}
use Rattle.entry_key.proofs.Found.{read_key-KeyReads, read_key-HasFault}
use Rattle.entry_key.proofs.Decided.{Decided, key_decided}

-- what is read of a key is what it reads as
pub KeyReads-read_key : (key : List ℕ) (p : Parts) → read_key key ≡ Ok p → KeyReads key p.tags p.address
KeyReads-read_key key p e = go (key_decided key)
  where
    go : Decided 44 0 key → KeyReads key p.tags p.address
    go (inl d) =
        let same : ◌≡◌ {A = Parts} (record { value = []; tags = d.0; address = d.1 }) p = cc (sym (read_key-KeyReads key d.0 d.1 d.2) ∙ e) in
        subst (λ (p : Parts). KeyReads key p.tags p.address) same d.2
    go (inr d) = absurd (cc (sym (read_key-HasFault key d.1 (d.0, d.2)) ∙ e))

HasFault-read_key : (key : List ℕ) (f : KeyFault) → read_key key ≡ Err f → HasFault key f
HasFault-read_key key f e = go (key_decided key)
  where
    go : Decided 44 0 key → HasFault key f
    go (inl d) = absurd (cc (sym (read_key-KeyReads key d.0 d.1 d.2) ∙ e))
    go (inr d) =
        let same : d.1 ≡ f = cc (sym (read_key-HasFault key d.1 (d.0, d.2)) ∙ e) in
        subst (λ f. HasFault key f) same (d.0, d.2)

pub reads_exactly : ReadsExactly
reads_exactly key tags address = (KeyReads-read_key key (record { value = []; tags = tags; address = address }), read_key-KeyReads key tags address)

pub fails_exactly : FailsExactly
fails_exactly key f = (HasFault-read_key key f, read_key-HasFault key f)

pub reads_one_way : ReadsOneWay
reads_one_way key tags tags' address address' h h' =
    let same = sym (read_key-KeyReads key tags address h) ∙ read_key-KeyReads key tags' address' h' in
    let parts : ◌≡◌ {A = Parts} (record { value = []; tags = tags; address = address }) (record { value = []; tags = tags'; address = address' }) = cc in
    (ap (λ (p : Parts). p.tags) parts, ap (λ (p : Parts). p.address) parts)

pub fails_one_way : FailsOneWay
fails_one_way key f f' h h' = cc (sym (read_key-HasFault key f h) ∙ read_key-HasFault key f' h')

pub reads_or_fails : ReadsOrFails
reads_or_fails key = go (key_decided key)
  where
    go : Decided 44 0 key → ((tags : List Tag) × (address : List ℕ) × KeyReads key tags address) ⊎ ((f : KeyFault) × HasFault key f)
    go (inl d) = inl d
    go (inr d) = inr (d.1, (d.0, d.2))

pub never_both : NeverBoth
never_both key tags address f h fault = cc (sym (read_key-KeyReads key tags address h) ∙ read_key-HasFault key f fault)
