-- What follows from the definitions of keys.
use Rattle.std.specs.Prelude.{ℕ, ◌≡◌, ◌↔◌, ◌⊎◌, List, [], Ok, Err}
use Rattle.entry_key.specs.declared.key_fault.KeyFault.{KeyFault}
use Rattle.entry_key.specs.Faults.{HasFault}
use Rattle.entry_key.specs.Key.{Tag, KeyReads}
use Rattle.entry_key.specs.Walk.{read_key}

-- a key reads as tags and an address exactly where its bytes are read as these
abbrev pub ReadsExactly : Type 0
ReadsExactly = (key : List ℕ) (tags : List Tag) (address : List ℕ)
    → (read_key key ≡ Ok (record { value = []; tags = tags; address = address })) ↔ KeyReads key tags address

-- a key has a fault exactly where its bytes are refused with it
abbrev pub FailsExactly : Type 0
FailsExactly = (key : List ℕ) (f : KeyFault) → (read_key key ≡ Err f) ↔ HasFault key f

-- a key reads in one way at most
abbrev pub ReadsOneWay : Type 0
ReadsOneWay = (key : List ℕ) (tags tags' : List Tag) (address address' : List ℕ)
    → KeyReads key tags address → KeyReads key tags' address' → (tags ≡ tags') × (address ≡ address')

-- a key has one fault at most
abbrev pub FailsOneWay : Type 0
FailsOneWay = (key : List ℕ) (f f' : KeyFault) → HasFault key f → HasFault key f' → f ≡ f'

-- each key reads or has a fault
abbrev pub ReadsOrFails : Type 0
ReadsOrFails = (key : List ℕ)
    → ((tags : List Tag) × (address : List ℕ) × KeyReads key tags address) ⊎ ((f : KeyFault) × HasFault key f)

-- no key both reads and has a fault
abbrev pub NeverBoth : Type 0
NeverBoth = (key : List ℕ) (tags : List Tag) (address : List ℕ) (f : KeyFault) → KeyReads key tags address → ¬ (HasFault key f)
