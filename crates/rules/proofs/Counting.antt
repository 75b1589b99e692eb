-- Which limits count a letter, the letters of an expression, and those of all monitors. Assumes nothing.
use mathlib.Core.Path.{◌≡◌, refl, sym, ◌∙◌, ap}
use mathlib.Core.Bool.{Bool, true, false, ◌||◌}
use mathlib.Core.List.{List, [], ◌∷◌, ◌++◌, map-append, append_assoc, append-nil}
use Rattle.std.proofs.lemmas.List.{nil_from_length}
use Prim.Native.Nat.{ℕ, suc, ◌+◌, ◌*◌, ◌^◌, ◌<◌, ◌≤◌}
use native.Mathlib.Nat.{lt_of_lt_of_le}
use native.Mathlib.Omega.{arith}
use borrow.Author.Tests.{eq-eqb, ne_eqb}
use lib.ListN.{length, length-append, length-map, get_or, replicate, set}
use lib.Pow.{pow_mono}
use lib.Seq.{sets}
use Rattle.meaning.specs.Lists.{member, each, total}
use Rattle.meaning.specs.Expression.{Letter, Exp, letters, size}
use Rattle.words.specs.Words.{part0, part1, part2}
use Rattle.rules.specs.Cells.{at, flag, letter_kind}
use Rattle.rules.specs.Laying.{LetterAt, SomeLetter}
use Rattle.rules.specs.Monitors.{MonitorsAre, FewLetters}
use Rattle.rules.specs.Counted.{word_mask, masks_of, LettersAt, SomeLetters, MasksStored}
use Rattle.rules.proofs.PartLaws.{node_of, flag_small}
use Rattle.rules.proofs.Placing.{form, some-room, letters-long, letter_at, first-of, a-star, Two, two, two_size, two-letters}
use Rattle.rules.proofs.LongRun.{Ahead, Next, all-ahead, next-ahead, none_ahead}
use Rattle.rules.proofs.Overlay.{sets_behind}

-- ---- the productions of a letter

pub member-first : (n p : ℕ) → p ≡ n → (ps : List ℕ) → member n (p ∷ ps) ≡ true
member-first n p e ps = ap (λ (b : Bool). b || member n ps) (eq-eqb n p (sym e))

pub member-other : (n p : ℕ) → (p ≡ n → ⊥) → (ps : List ℕ) → member n (p ∷ ps) ≡ member n ps
member-other n p h ps = ap (λ (b : Bool). b || member n ps) (ne_eqb n p (λ (e : n ≡ p). h (sym e)))

-- ---- a letter

mask_below : (ws ps : List ℕ) → word_mask ws ps < 2 ^ length ws
unfolding word_mask
mask_below [] ps = omega arith
mask_below (w ∷ ws) ps = by (flag (member (part0 w) ps)) (word_mask ws ps) (length ws) (flag_small (member (part0 w) ps)) (mask_below ws ps)
  where
    by : (b m n : ℕ) → b ≤ 1 → m < 2 ^ n → b + 2 * m < 2 ^ suc n
    by b m n g h = omega arith

-- 8 limits have a byte
pub mask-small : (ws ps : List ℕ) → length ws ≤ 8 → word_mask ws ps < 256
mask-small ws ps l = lt_of_lt_of_le (mask_below ws ps) (pow_mono {j = 8} l)

-- of these limits all but the first of them, in `rest`, are asked whether they count the letter at a node
pub record Masked (P ws : List ℕ) (n : ℕ) (rest : List ℕ) (m : ℕ) : Type 0 where
  pub asked : List ℕ
  pub split : ws ≡ rest ++ asked
  pub mask : (c : ℕ) → (x : Letter) → LetterAt P c n x → m ≡ word_mask asked x.through

module _ (P ws : List ℕ) (n : ℕ) where
  pub mask_start : Masked P ws n ws 0
  unfolding word_mask
  mask_start = record { asked = []; split = sym (append-nil ws); mask = λ c x s. refl }

  module _ (rest : List ℕ) (m : ℕ) (a : Masked P ws n rest m) where
    pub mask_low : length ws ≤ 8 → SomeLetter P n → m < 256
    mask_low few (c, x, s) =
        let e : length ws ≡ length rest + length a.asked = ap length a.split ∙ length-append rest a.asked in
        omega (arith, a.mask c x s, mask-small a.asked x.through (omega (arith, e)))

    -- one limit more, before them
    pub mask-more : (fewer : List ℕ) (w : ℕ) → rest ≡ fewer ++ w ∷ [] → (k : ℕ) → k ≡ part0 w → (b : Bool)
        → ((c : ℕ) → (x : Letter) → LetterAt P c n x → b ≡ member k x.through) → (f : ℕ) → f ≡ flag b → Masked P ws n fewer (2 * m + f)
    unfolding word_mask
    mask-more fewer w e k q b h f g = record {
      asked = w ∷ a.asked;
      split = a.split ∙ ap (λ (xs : List ℕ). xs ++ a.asked) e ∙ append_assoc fewer (w ∷ []) a.asked;
      mask = λ c x s.
          let y : f ≡ flag (member (part0 w) x.through) = g ∙ ap flag (h c x s ∙ ap (λ (z : ℕ). member z x.through) q) in
          omega (arith, a.mask c x s, y);
    }

    -- all of them
    pub mask-whole : length rest ≡ 0 → (c : ℕ) → (x : Letter) → LetterAt P c n x → m ≡ word_mask ws x.through
    mask-whole z c x s =
        let e : ws ≡ a.asked = a.split ∙ ap (λ (xs : List ℕ). xs ++ a.asked) (nil_from_length rest z) in
        a.mask c x s ∙ ap (λ (vs : List ℕ). word_mask vs x.through) (sym e)

-- ---- an expression

-- whatever expression stands at a node, the masks of its letters are stored
abbrev pub Counts : (P ws : List ℕ) → (n l : ℕ) → (C C' : List ℕ) → (r : ℕ) → Type 0
Counts P ws n l C C' r = (c : ℕ) → (e : Exp) → LettersAt P c n l e → MasksStored ws l e C C' r

module _ (P : List ℕ) (n l : ℕ) where
  pub letters-inside : SomeLetters P n l → n < length P
  letters-inside (c, e, s) = omega (arith, (node_of P c n e s.denotes).1, s.within)

  pub letters-room : SomeLetters P n l → l < 256
  letters-room (c, e, s) = let (a, b) = some-room e in omega (arith, s.space)

-- a letter
module _ (P ws : List ℕ) (n l k : ℕ) (q : k ≡ part0 (at P n)) (z : letter_kind k ≡ true) where
  pub one-letter : SomeLetters P n l → SomeLetter P n
  one-letter (c, e, s) = let (x, d, t) = letter_at P n k q z c e s.within s.denotes in (c, x, t)

  pub letter-counts : (m : ℕ) → ((c : ℕ) → (x : Letter) → LetterAt P c n x → m ≡ word_mask ws x.through) → (C : List ℕ) → Counts P ws n l C (set C l m) (l + 1)
  unfolding letters size
  letter-counts m h C c e s =
      let (x, d, t) = letter_at P n k q z c e s.within s.denotes in
      rw d (record { stored = ap (set C l) (h c x t); next_letter = refl })

-- an operator's first operand
module _ (P ws : List ℕ) (n l k i : ℕ) (q : k ≡ part0 (at P n)) (b : i ≡ part1 (at P n)) where
  pub first-letters : letter_kind k ≡ false → SomeLetters P n l → (i < n) × SomeLetters P i l
  first-letters z (c, g, s) =
      let (f, (e, d, x, y)) = first-of P n k i q b c (form P c n g s.denotes) z in
      (f, (c, e, record { within = s.within; denotes = d; space = omega (arith, s.space) }))

  pub star-counts : k ≡ 3 → (C C' : List ℕ) (r : ℕ) → Counts P ws i l C C' r → Counts P ws n l C C' r
  unfolding letters size
  star-counts z C C' r a c g s =
      let (e, w, d) = a-star P n k i q b c (form P c n g s.denotes) z in
      let t = a c e (record { within = s.within; denotes = d; space = rw w at s.space }) in
      rw w (record { stored = t.stored; next_letter = t.next_letter })

-- and its second
module _ (P ws : List ℕ) (n l k i j : ℕ) (q : k ≡ part0 (at P n)) (b : i ≡ part1 (at P n)) (b' : j ≡ part2 (at P n)) (z : letter_kind k ≡ false) (y : k ≡ 3 → ⊥)
    (C C₁ : List ℕ) (next : ℕ) (a : Counts P ws i l C C₁ next) where
  module _ (c : ℕ) (g : Exp) (s : LettersAt P c n l g) (w : Two P c n k i j g) where
    whole-size : size g ≡ size w.e + size w.f
    whole-size = ap size w.whole ∙ two_size w.e w.f w.operator

    first-stored : MasksStored ws l w.e C C₁ next
    first-stored = a c w.e (record { within = s.within; denotes = w.first; space = omega (arith, s.space, whole-size) })

    second_at : LettersAt P c j next w.f
    second_at = record { within = s.within; denotes = w.second; space = omega (arith, s.space, whole-size, first-stored.next_letter) }

  pub second-letters : SomeLetters P n l → (j < n) × SomeLetters P j next
  second-letters (c, g, s) = let w = two P n k i j q b b' z y c (form P c n g s.denotes) in (w.falls, (c, w.f, second_at c g s w))

  pub two-counts : (C' : List ℕ) (r : ℕ) → Counts P ws j next C₁ C' r → Counts P ws n l C C' r
  two-counts C' r d c g s =
      let w = two P n k i j q b b' z y c (form P c n g s.denotes) in
      let t = first-stored c g s w in
      let u = d c w.f (second_at c g s w) in
      let m : masks_of ws (letters g) ≡ masks_of ws (letters w.e) ++ masks_of ws (letters w.f)
      = ap (λ (e : Exp). masks_of ws (letters e)) w.whole ∙ ap (masks_of ws) (two-letters w.e w.f w.operator) ∙ map-append _ (letters w.e) (letters w.f) in
      record {
        stored = u.stored ∙ ap (λ (A : List ℕ). sets A next (masks_of ws (letters w.f))) t.stored
            ∙ sets_behind C l next (masks_of ws (letters w.e)) (masks_of ws (letters w.f)) (masks_of ws (letters g))
            (omega (arith, t.next_letter, length-map (letters w.e) (λ (x : Letter). word_mask ws x.through), letters-long w.e)) m;
        next_letter = omega (arith, t.next_letter, u.next_letter, whole-size c g s w);
      }

-- ---- all monitors

-- those from number i on are still to come, and the next letter is l
pub record Going (P M ws : List ℕ) (c count : ℕ) (ms : List Exp) (C : List ℕ) (i l : ℕ) : Type 0 where
  pub rest : List Exp
  pub ahead : Ahead P c M count i rest
  pub same : sets C l (each rest (λ m. masks_of ws (letters m))) ≡ sets (replicate 256 0) 0 (each ms (λ m. masks_of ws (letters m)))
  pub sums : l + total size rest ≡ total size ms

abbrev pub AllGoing : (P M ws : List ℕ) → (count : ℕ) → (C : List ℕ) → (i l : ℕ) → Type 0
AllGoing P M ws count C i l = (c : ℕ) → (ms : List Exp) → MonitorsAre P c M count ms → total size ms ≤ 256 → Going P M ws c count ms C i l

module _ (P M ws : List ℕ) (count : ℕ) where
  pub counting-start : AllGoing P M ws count (replicate 256 0) 0 0
  counting-start c ms w b = record { rest = ms; ahead = all-ahead w; same = refl; sums = omega arith }

  module _ (C : List ℕ) (i l : ℕ) (a : AllGoing P M ws count C i l) where
    pub counting-end : (i < count → ⊥) → (c : ℕ) → (ms : List Exp) → MonitorsAre P c M count ms → total size ms ≤ 256
        → C ≡ sets (replicate 256 0) 0 (each ms (λ m. masks_of ws (letters m)))
    counting-end h c ms w b =
        let s = a c ms w b in
        sym (ap (λ (xs : List Exp). sets C l (each xs (λ m. masks_of ws (letters m)))) (none_ahead i s.rest s.ahead h)) ∙ s.same

    module _ (h : i < count) where
      pub next-cell : FewLetters P M count → get_or M i 0 + 2 < length P
      next-cell (c, ms, w, b) =
          let s = a c ms w b in
          let n = next-ahead i s.rest s.ahead h in
          omega (arith, n.production.used, w.within)

      module _ (k : ℕ) (q : k ≡ part0 (at P (get_or M i 0 + 1))) where
        next-at : (c : ℕ) (ms : List Exp) (w : MonitorsAre P c M count ms) (b : total size ms ≤ 256) (n : Next P c M count i (a c ms w b).rest) → LettersAt P c k l n.monitor
        next-at c ms w b n =
            let s = a c ms w b in
            let t : total size s.rest ≡ size n.monitor + total size n.others = ap (total size) n.split in
            record { within = w.within; denotes = rw q n.production.node; space = omega (arith, s.sums) }

        pub next-letters : FewLetters P M count → SomeLetters P k l
        next-letters (c, ms, w, b) =
            let s = a c ms w b in
            let n = next-ahead i s.rest s.ahead h in
            (c, n.monitor, next-at c ms w b n)

        pub counting-next : (C' : List ℕ) (r : ℕ) → Counts P ws k l C C' r → AllGoing P M ws count C' (i + 1) r
        counting-next C' r d c ms w b =
            let s = a c ms w b in
            let n = next-ahead i s.rest s.ahead h in
            let m = n.monitor in
            let u = d c m (next-at c ms w b n) in
            let t : total size s.rest ≡ size m + total size n.others = ap (total size) n.split in
            record {
              rest = n.others;
              ahead = n.ahead;
              same = ap (λ (A : List ℕ). sets A r (each n.others (λ m. masks_of ws (letters m)))) u.stored
                  ∙ sets_behind C l r (masks_of ws (letters m)) (each n.others (λ m. masks_of ws (letters m))) (each s.rest (λ m. masks_of ws (letters m)))
                  (omega (arith, u.next_letter, length-map (letters m) (λ (x : Letter). word_mask ws x.through), letters-long m))
                  (ap (λ (xs : List Exp). each xs (λ m. masks_of ws (letters m))) n.split)
                  ∙ s.same;
              sums = omega (arith, s.sums, u.next_letter);
            }
