-- What an entry has of the machine's object.
use Rattle.std.proofs.Common.{◌≡◌, ℕ, List, length, Bool, true, not, ◌&&◌, Option, Some, None, IfSome, ap, arith}
use Rattle.std.specs.Prelude.{nat_le}
use Rattle.std.proofs.lemmas.Bool.{and_parts, leb-true}
use Rattle.cache_base.specs.Limits.{chunks}
use Rattle.cache_base.specs.declared.limits.TheConstants.{BLOCK_MAX, ELEMENTS_MAX}
use Rattle.cache_theory.specs.Checks.{small_parts, with_value}
use Rattle.cache_theory.specs.Machine.{Object as MachineObject}
use Rattle.cache_theory.proofs.Elements.{without_no_longer}
use Rattle.entry_file.specs.Held.{held}
use Rattle.entry_file.proofs.Bodies.{grown}
use Rattle.entry_metadata.specs.Metadata.{Meta as Said, block_length}
use Rattle.entry_parts.specs.Elements.{Element, elements_bytes}
use Rattle.entry_parts.specs.Setting.{with_element, without_element}
use Rattle.handle_table.specs.Held.{IsEntryOf, body_len_in, elements_in, is_draft, key_in}
use Rattle.file_handles.specs.Setting.{HasRoom, are_small}
use Rattle.handle_table.specs.declared.object.Entry.{Entry}
use Rattle.handle_table.specs.declared.object.Entry.TheVariants.{Draft, Finished}
use Rattle.handle_table.specs.declared.object.Object.{Object}

pub finished_is : (e : Entry) (o : MachineObject) → IsEntryOf e o → o.finished ≡ not (is_draft e)
finished_is (Draft d) o is = is.0
finished_is (Finished meta) o is = is.0

pub elements_are : (e : Entry) (o : MachineObject) → IsEntryOf e o → elements_in e ≡ o.version.elements
elements_are (Draft d) o is = is.1.elements
elements_are (Finished meta) o is = ap (λ (m : Said). m.elements) is.1

pub key_is : (e : Entry) (o : MachineObject) → IsEntryOf e o → key_in e ≡ o.version.key
key_is (Draft d) o is = is.1.key
key_is (Finished meta) o is = ap (λ (m : Said). m.key) is.1

pub body_len_is : (e : Entry) (o : MachineObject) → IsEntryOf e o → body_len_in e ≡ length o.version.body
body_len_is (Draft d) o is = grown (held d.body) o.version.body is.1.body
body_len_is (Finished meta) o is = ap (λ (m : Said). m.offset) is.1

-- whether elements are small
small : List Element → List ℕ → ℕ → Bool
small es key body = nat_le (length (elements_bytes es)) ELEMENTS_MAX && nat_le (block_length (chunks body) (length key) (length (elements_bytes es))) BLOCK_MAX

pub small_is : (e : Entry) (o : MachineObject) (name value : List ℕ) → IsEntryOf e o → are_small e (with_element name value (elements_in e)) ≡ (small_parts (with_value name value o.version)).0
unfolding small
small_is e o name value is = λ i. small (with_element name value (elements_are e o is i)) (key_is e o is i) (body_len_is e o is i)

-- what is small has room
pub small_has_room : (e : Entry) (es : List Element) → are_small e es ≡ true → HasRoom e es
small_has_room (Draft d) es is = leb-true (length (elements_bytes es)) ELEMENTS_MAX (and_parts (nat_le (length (elements_bytes es)) ELEMENTS_MAX) _ is).0
small_has_room (Finished meta) es is =
    let room = leb-true (block_length (chunks meta.offset) (length meta.key) (length (elements_bytes es))) BLOCK_MAX (and_parts (nat_le (length (elements_bytes es)) ELEMENTS_MAX) _ is).1 in
    let count = meta.hash_count in
    omega arith

-- and an entry has room for its elements without one
without_room : (e : Entry) (name : List ℕ) → HasRoom e (without_element name (elements_in e))
without_room (Draft d) name = let fewer = without_no_longer name d.elements in let short = d.short_elements in omega (arith, fewer, short)
without_room (Finished meta) name = let fewer = without_no_longer name meta.elements in let room = meta.small in omega (arith, fewer, room)

pub room_without : (o : Option Object) (name : List ℕ) → IfSome o (λ x. HasRoom x.entry (without_element name (elements_in x.entry)))
room_without None name = tt
room_without (Some x) name = without_room x.entry name
