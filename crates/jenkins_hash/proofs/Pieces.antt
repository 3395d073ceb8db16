-- What a hasher holds as it is fed.
use Rattle.std.proofs.Common.{◌≡◌, ℕ, ◌+◌, ◌-◌, ◌%◌, ◌^◌, ◌<◌, ◌≤◌, List, ◌++◌, length, take, refl, sym, ap, ◌∙◌, arith, zero-add, length-append}
use Rattle.std.proofs.lemmas.List.{take_all, length-take-le}
use Rattle.jenkins_hash.specs.declared.words.Words.{Words}
use Rattle.jenkins_hash.specs.declared.hasher.Hasher.{Hasher}
use Rattle.jenkins_hash.specs.Hash.{absorb, absorb_all, close, hash_of, start, tail}
use Rattle.jenkins_hash.specs.Hasher.{WasFedBytes}
use Rattle.jenkins_hash.proofs.Groups.{absorb_all_filled, absorb_all_kept, tail_filled, tail_kept}

-- the hash reads the low 32 bits of the length
close_len : (w : Words) (n : ℕ) (last : List ℕ) → close w (n % 2 ^ 32) last ≡ close w n last
unfolding close
close_len w n last = let same : n % 2 ^ 32 % 2 ^ 32 ≡ n % 2 ^ 32 = omega arith in rw same refl

pub fed_hash : (h : Hasher) (m : List ℕ) (w : Words) → WasFedBytes h m → w ≡ close h.words h.len (take h.held h.group) → w.c ≡ hash_of m
unfolding WasFedBytes hash_of
fed_hash h m w holds e =
    let whole : close h.words h.len (take h.held h.group) ≡ close (absorb_all start m) (length m) (tail m) =
    rw (holds.0, holds.1, holds.2) (close_len (absorb_all start m) (length m) (tail m)) in
    ap (λ (v : Words). v.c) (e ∙ whole)

-- the bytes that are kept are those after the groups
kept_is : (h : Hasher) (m : List ℕ) → WasFedBytes h m → h.held ≤ length h.group → length (tail m) ≡ h.held
unfolding WasFedBytes
kept_is h m holds fits = sym (ap length holds.1) ∙ length-take-le h.held h.group fits

-- a piece that fills no group
pub fed_kept : (s n : Hasher) (m d : List ℕ) → WasFedBytes s m → length s.group ≡ 12 → s.held + length d < 12
    → n.words ≡ s.words → take (s.held + length d) n.group ≡ take s.held s.group ++ d → n.held ≡ s.held + length d
    → n.len ≡ (s.len + length d % 2 ^ 32) % 2 ^ 32 → WasFedBytes n (m ++ d)
unfolding WasFedBytes
fed_kept s n m d holds size short words group at len =
    let kept : length (tail m) ≡ s.held = kept_is s m holds (omega arith) in
    let fits : length (tail m ++ d) < 12 = omega (arith, length-append (tail m) d) in
    let count : s.len ≡ length m % 2 ^ 32 = holds.2 in (
      words ∙ holds.0 ∙ sym (absorb_all_kept start m d fits),
      rw at (group ∙ ap (λ (t : List ℕ). t ++ d) holds.1 ∙ sym (tail_kept m d fits)),
      omega (arith, length-append m d),
    )

-- a piece whose prefix fills the group g, with the bytes t after the last of its groups
pub fed_filled : (s n : Hasher) (m d f r g t : List ℕ) → WasFedBytes s m → length s.group ≡ 12 → s.held < 12 → d ≡ f ++ r
    → length f ≡ 12 - s.held → length g ≡ 12 → take (s.held + length f) g ≡ take s.held s.group ++ f
    → n.words ≡ absorb_all (absorb s.words g) r → t ≡ tail r → n.held ≡ length t → take (0 + length t) n.group ≡ t
    → n.len ≡ (s.len + length d % 2 ^ 32) % 2 ^ 32 → WasFedBytes n (m ++ d)
unfolding WasFedBytes
fed_filled s n m d f r g t holds size in_group cut room full group words left at placed len =
    let kept : length (tail m) ≡ s.held = kept_is s m holds (omega arith) in
    let count : s.len ≡ length m % 2 ^ 32 = holds.2 in
    let filled : g ≡ tail m ++ f = sym (take_all (s.held + length f) g (omega arith)) ∙ group ∙ ap (λ (t : List ℕ). t ++ f) holds.1 in
    let ends : take n.held n.group ≡ tail r = rw (at, ← zero-add (length t)) (placed ∙ left) in (
      words ∙ ap (λ (w : Words). absorb_all (absorb w g) r) holds.0 ∙ sym (absorb_all_filled start m f r g filled full)
          ∙ ap (λ (s : List ℕ). absorb_all start (m ++ s)) (sym cut),
      ends ∙ sym (tail_filled m f r g filled full) ∙ ap (λ (s : List ℕ). tail (m ++ s)) (sym cut),
      omega (arith, length-append m d),
    )
