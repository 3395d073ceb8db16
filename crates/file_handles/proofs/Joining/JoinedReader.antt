-- A reader more of an object in use.
use Rattle.std.proofs.Common.{◌≡◌, inl, inr, ℕ, ◌<◌, length, Option, Some, None, true, IsSome, false, refl, sym, ap, subst, ◌∙◌, arith, Bool}
use Rattle.std.specs.Prelude.{option_map}
use Rattle.std.proofs.lemmas.Bool.{cases_eq}
use Rattle.cache_base.specs.declared.limits.TheConstants.{SLOTS}
use Rattle.cache_theory.specs.Machine.{Machine, has_slots}
use Rattle.cache_theory.specs.Marks.{Marks}
use Rattle.cache_theory.specs.Stands.{AsideStand}
use Rattle.cache_theory.proofs.ObjectLaws.Entering.{proper_reader, with_reader}
use Rattle.cache_theory.proofs.ObjectLaws.HeldAside.{held_before_reader, held_reader}
use Rattle.cache_theory.proofs.ObjectLaws.Slots.{free_is_none, slot_kept, use_of, with_slot_other, with_slot_same}
use Rattle.cache_theory.proofs.ObjectLaws.Users.{in_use_along}
use Rattle.disk_theory.specs.State.{State, standing}
use Rattle.file_handles.specs.Cache.{cache_at}
use Rattle.handle_table.specs.Kept.{Kept, object_at, with_use}
use Rattle.handle_table.specs.Standing.{HandlesStand, slot_of}
use Rattle.file_handles.specs.Stands.{IsAt, KeepsWhere}
use Rattle.handle_table.specs.declared.object.Object.{Object}
use Rattle.handle_table.specs.declared.object.Use.{Use}
use Rattle.file_handles.proofs.Reading.HeldChunkLaws.{chunks_on}
use Rattle.file_handles.proofs.Histories.{history_of}
use Rattle.file_handles.proofs.Joining.JoinedSlots.{same_place, use_set_here, use_set_other}

-- the slot is free, and reads the object at the place from now on
pub record MayRead (k : Kept) (m : Machine) (number : ℕ → ℕ) (slot p : ℕ) (u : Use) : Type 0 where
  pub small : slot < SLOTS
  pub within : slot < length k.slots
  pub free : m.slots slot ≡ None
  pub reader : Object
  pub at_place : object_at k p ≡ Some reader
  pub placed : u.place ≡ p
  pub reads : u.writes ≡ false

module _ {b : Bool} (s : State) (k : Kept) (m : Machine) (w : Marks) (is : KeepsWhere b (cache_at k s) (history_of m w)) (slot p : ℕ) (u : Use) (may : MayRead k m is.number slot p u) where
  abbrev pub after : Kept
  after = with_use k slot (Some u)

  abbrev pub next : Machine
  next = with_reader m slot (is.number p)

  stand : HandlesStand k m is.number
  stand = is.stands.handles

  handles_next : HandlesStand after next is.number
  handles_next = record {
    slots = λ t lt. elim (cases_eq t slot) [
      | inl e ↦
          with_slot_same m.slots slot t (use_of (is.number p) false) e ∙ (λ i. use_of (is.number (sym may.placed i)) (sym may.reads i))
          ∙ sym (ap (option_map (slot_of is.number)) (use_set_here k slot t (Some u) may.within e))
      | inr apart ↦
          with_slot_other m.slots slot t (use_of (is.number p) false) apart ∙ stand.slots t lt
          ∙ sym (ap (option_map (slot_of is.number)) (use_set_other k slot t (Some u) apart))
    ];
    used = λ t v at. elim (cases_eq t slot) [
      | inl e ↦
          let same = same_place u v (sym (use_set_here k slot t (Some u) may.within e) ∙ at) in
          subst (λ (o : Option Object). IsSome o) (sym (ap (object_at k) (sym same ∙ may.placed) ∙ may.at_place)) refl
      | inr apart ↦ stand.used t v (sym (use_set_other k slot t (Some u) apart) ∙ at)
    ];
    objects = λ q y at.
        let old = stand.objects q y at in
        record {
          in_use = in_use_along m next (is.number q) (omega arith) (slot_kept m.slots slot (use_of (is.number p) false) (is.number q) (free_is_none m.slots slot (is.number q) may.free)) old.in_use;
          as_held = old.as_held;
        };
    apart = stand.apart;
    chunks = chunks_on k after m next is.number (λ q y at. at) (λ q y at. at) (λ i. refl) refl refl refl stand.chunks;
  }

  at_on : (d i : ℕ) → IsAt k is.number d i → IsAt after is.number d i
  at_on d i a = record { place = a.place; object = a.object; at_place = a.at_place; set_aside = a.set_aside; numbered = a.numbered }

  at_off : (d i : ℕ) → IsAt after is.number d i → IsAt k is.number d i
  at_off d i a = record { place = a.place; object = a.object; at_place = a.at_place; set_aside = a.set_aside; numbered = a.numbered }

  used : has_slots m (is.number p) ≡ true
  used = (stand.objects p may.reader may.at_place).in_use.slots

  aside_next : AsideStand (standing s) next (IsAt after is.number)
  aside_next = record {
    held = λ i h. let old = is.stands.aside.held i (held_before_reader m slot (is.number p) used i h) in (old.0, (at_on old.0 i old.1.0, old.1.1));
    only = λ d some. let old = is.stands.aside.only d some in (old.0, (at_on d old.0 old.1.0, held_reader m slot (is.number p) may.free old.0 old.1.1));
    one_object = λ d i j a b. is.stands.aside.one_object d i j (at_off d i a) (at_off d j b);
    one_number = λ d e i a b. is.stands.aside.one_number d e i (at_off d i a) (at_off e i b);
  }

  pub reader_in : KeepsWhere b (cache_at after s) (history_of next w)
  reader_in = record {
    number = is.number;
    stands = record {
      proper = proper_reader m slot (is.number p) is.stands.proper may.small may.free (stand.objects p may.reader may.at_place).in_use;
      handles = handles_next;
      entries = is.stands.entries;
      aside = aside_next;
    };
    crash_kept = λ on.
        let was = is.crash_kept on in
        record {
          safe = was.safe;
          once = was.once;
          aside = λ d i file name a h now ever. was.aside d i file name (at_off d i a) (held_before_reader m slot (is.number p) used i h) now ever;
          unburied = was.unburied;
          young = was.young;
        };
  }
