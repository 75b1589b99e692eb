-- Writing words: those in use stay as they are. Assumes nothing.
use mathlib.Core.Path.{◌≡◌, refl, sym, ◌∙◌, ap, ap₂}
use mathlib.Core.List.{List}
use mathlib.Core.Bool.{Bool, true, false, not, cond, ◌&&◌}
use Prim.Native.Nat.{ℕ, ◌+◌, ◌<◌, ◌≤◌}
use native.Mathlib.Omega.{arith}
use borrow.Author.Tests.{eq-eqb, ne_eqb}
use lib.Bits.{bit_or, or_zero_l, or_zero_r}
use lib.ListN.{length, set, length-set}
use lib.Seq.{get_or-set_same, get_or-set_other}
use Rattle.words.specs.Words.{quad, part0, part1, part2, part3}
use Rattle.rules.specs.Cells.{at, link, LinkAt, held_at}
use Rattle.rules.specs.Conditions.{Extends, Linked, HeldBoth}
use Rattle.words.proofs.Quads.{quad-0, quad-1, quad-2, quad-3}

pub extends-refl : (P : List ℕ) (c : ℕ) → Extends P c P c
extends-refl P c = record { long = refl; more = omega arith; kept = λ i l. refl }

pub extends-then : {P Q R : List ℕ} {c d e : ℕ} → Extends P c Q d → Extends Q d R e → Extends P c R e
extends-then a b =
    record { long = b.long ∙ a.long; more = omega (arith, a.more, b.more); kept = λ i l. b.kept i (omega (arith, a.more)) ∙ a.kept i l }

-- one word more
module _ (P : List ℕ) (c w : ℕ) (h : c < length P) where
  pub put-extends : Extends P c (set P c w) (c + 1)
  put-extends =
      record { long = length-set P c w; more = omega arith; kept = λ i l. get_or-set_other P c i w 0 (λ (e : i ≡ c). omega arith) }

  pub put-at : at (set P c w) c ≡ w
  put-at = get_or-set_same P c w 0 h

-- two words more
module _ (P : List ℕ) (c v w : ℕ) (h : c + 2 ≤ length P) where
  long : c + 1 < length (set P c v)
  long = rw (length-set P c v) (omega arith)

  pub put_both : Extends P c (set (set P c v) (c + 1) w) (c + 2)
  put_both =
      let x = extends-then (put-extends P c v (omega arith)) (put-extends (set P c v) (c + 1) w long) in
      record { long = x.long; more = omega arith; kept = x.kept }

  pub put_first : at (set (set P c v) (c + 1) w) c ≡ v
  put_first = (put-extends (set P c v) (c + 1) w long).kept c (omega arith) ∙ put-at P c v (omega arith)

  pub put_second : at (set (set P c v) (c + 1) w) (c + 1) ≡ w
  put_second = put-at (set P c v) (c + 1) w long

-- a link more, where there are fewer than two, and where there are two
module _ (P : List ℕ) (c tests last s lo width v : ℕ) (room : c + 2 ≤ length P) (small : length P ≤ 65535) (low : last < c) where
  pub link-put : tests ≤ 3 → (2 ≤ tests → ⊥) → s < 65536 → lo < 65536 → width < 65536
      → Linked P c tests last (link s lo width v) (c + 2) (tests + 1) c (set (set P c (quad s lo width last)) (c + 1) v)
  unfolding LinkAt
  link-put t n p q r =
      let head = put_first P c (quad s lo width last) v room in
      let d : last < 65536 = omega arith in
      record {
        extends = put_both P c (quad s lo width last) v room;
        few = omega arith;
        count = omega arith;
        cell = λ l. (
          (
            omega arith,
            ap part0 head ∙ quad-0 s lo width last p,
            ap part1 head ∙ quad-1 s lo width last q,
            ap part2 head ∙ quad-2 s lo width last r,
            put_second P c (quad s lo width last) v room,
            rw (ap part3 head ∙ quad-3 s lo width last d) low,
          ),
          ap part3 head ∙ quad-3 s lo width last d,
        );
        low = omega arith;
      }

  pub link-counted : tests ≤ 3 → 2 ≤ tests → Linked P c tests last (link s lo width v) c 3 0 P
  link-counted t n = record { extends = extends-refl P c; few = omega arith; count = omega arith; cell = λ l. absurd (omega arith); low = omega arith }

-- both agree, and their masks are compatible
pub not_own : (a b c : Bool) → not a ≡ true → false ≡ ((a && b) && c)
not_own true b c e = absurd (let z : ◌≡◌ {A = ℕ} 0 1 = cc in omega arith)
not_own false b c e = refl

pub not-other : (a b c : Bool) → not b ≡ true → false ≡ ((a && b) && c)
not-other true true c e = absurd (let z : ◌≡◌ {A = ℕ} 0 1 = cc in omega arith)
not-other true false c e = refl
not-other false b c e = refl

pub as-masks : (a b c : Bool) → not a ≡ false → not b ≡ false → c ≡ ((a && b) && c)
as-masks true true c d e = refl
as-masks true false c d e = absurd (let z : ◌≡◌ {A = ℕ} 0 1 = cc in omega arith)
as-masks false b c d e = absurd (let z : ◌≡◌ {A = ℕ} 0 1 = cc in omega arith)

-- ---- wires that must be as before

module _ (P : List ℕ) (i : ℕ) where
  pub held_none : i ≡ 0 → 0 ≡ held_at P i
  held_none e = sym (ap (λ (b : Bool). cond {A = ℕ} b 0 (at P i)) (eq-eqb i 0 e))

  pub held-some : (i ≡ 0 → ⊥) → at P i ≡ held_at P i
  held-some n = sym (ap (λ (b : Bool). cond {A = ℕ} b 0 (at P i)) (ne_eqb i 0 n))

-- those of one alone, and a word for those of both
module _ (P : List ℕ) (c one other : ℕ) where
  pub held_one : other ≡ 0 → one < c → HeldBoth P c one other c one P
  held_one e l =
      record { extends = extends-refl P c; few = omega arith; shared = λ z. refl; low = l; mask = sym (or_zero_r (held_at P one)) ∙ ap (bit_or (held_at P one)) (held_none P other e) }

  pub held-other : one ≡ 0 → other < c → HeldBoth P c one other c other P
  held-other e l =
      record { extends = extends-refl P c; few = omega arith; shared = λ z. refl; low = l; mask = sym (or_zero_l (held_at P other)) ∙ ap (λ (n : ℕ). bit_or n (held_at P other)) (held_none P one e) }

  pub held-put : (one ≡ 0 → ⊥) → (other ≡ 0 → ⊥) → one < c → c < length P
      → HeldBoth P c one other (c + 1) c (set P c (bit_or (at P one) (at P other)))
  held-put n m l h =
      let word = bit_or (at P one) (at P other) in
      record {
        extends = put-extends P c word h;
        few = omega arith;
        shared = λ z. absurd (n z);
        low = omega arith;
        mask = sym (held-some (set P c word) c (λ z. omega arith)) ∙ put-at P c word h ∙ ap₂ bit_or (held-some P one n) (held-some P other m);
      }
