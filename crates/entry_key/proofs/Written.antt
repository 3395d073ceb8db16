-- When a key may be written.
use Rattle.std.proofs.Common.{◌≡◌, ℕ, ◌<◌, ◌≤◌, List, length, true, ◌&&◌, sym, ap}
use Rattle.std.specs.Prelude.{Result, Ok, Err, IfOk, IfErr, is_ok}
use Rattle.std.specs.List.{list_all}
use Rattle.std.proofs.lemmas.Bool.{lt-ltb, le-leb}
use Rattle.entry_key.specs.declared.key_fault.KeyFault.{KeyFault}
use Rattle.entry_key.specs.declared.tags.KeyTags.{KeyTags}
use Rattle.entry_key.specs.KeyTags.{KeySays}
use Rattle.entry_key.specs.Walk.{read_key, reads}
use Rattle.entry_key.specs.Writing.{is_plain_byte, may_write}
use Rattle.entry_key.proofs.Found.{read_key-KeyReads}

-- a key is parsed exactly where it reads
pub is_ok-reads : (key : List ℕ) (r : Result KeyTags KeyFault) → IfOk r (KeySays key) → IfErr r (λ f. read_key key ≡ Err f) → is_ok r ≡ reads (read_key key)
is_ok-reads key (Ok t) says fault = sym (ap reads (read_key-KeyReads key _ t.address.now says.reads))
is_ok-reads key (Err f) says fault = sym (ap reads fault)

-- once the other conditions hold, reading decides
pub may_write-reads : (key : List ℕ) → 0 < length key → length key ≤ 16384 → list_all is_plain_byte key ≡ true → may_write key ≡ reads (read_key key)
unfolding may_write
may_write-reads key some short plain =
    λ i. lt-ltb 0 (length key) some i && le-leb (length key) 16384 short i && plain i && reads (read_key key)
