-- The steps of the walk, each from what the calls before it answered: one law for each way out of a function of the walk. Assumes nothing.
use mathlib.Core.Path.{◌≡◌, ◌∙◌, ap}
use mathlib.Core.Bool.{Bool, true, false, not}
use mathlib.Core.List.{List}
use Prim.Native.Nat.{ℕ, suc, ◌+◌, ◌-◌, ◌<◌, ◌≤◌}
use native.Mathlib.Omega.{arith}
use borrow.Author.Tests.{eq-eqb, ne_eqb, le-leb, lt-leb, not-true, not-false}
use lib.ListN.{get_or, set}
use Rattle.words.specs.declared.rows.RowKind.{RowKind}
use Rattle.words.specs.Rows.{kind_number}
use Rattle.words.specs.Words.{part0, part1, part2, part3}
use Rattle.monitor.specs.Letters.{Given, letter_met}
use Rattle.monitor.specs.Walk.{Came, came, Told, told, Entry, enter_letter, enter_second, enter_on, enter_m, leave_to, leave_on, ask_m, leave_m}

-- ---- the kind of a row

-- looked up, and then found to be j
pub kind-told : (k j : RowKind) (n : ℕ) → n ≡ kind_number k → k ≡ j → n ≡ kind_number j
kind-told k j n e d = e ∙ ap kind_number d

-- ---- a letter is entered

module _ (g : Given) (l : ℕ) (M : List ℕ) where
  pub letter-far : 256 ≤ l → came 1 M ≡ enter_letter g l M
  letter-far h = rw (le-leb 256 l h)

  module _ (h : l < 256) (m : Bool) (e : m ≡ letter_met g l) where
    pub letter-unmet : not m ≡ true → came 1 M ≡ enter_letter g l M
    letter-unmet n = rw (lt-leb 256 l h, ← e, not-true m n)

    pub letter-marked : not m ≡ false → came 3 (set M (1024 + l) 1) ≡ enter_letter g l M
    letter-marked n = rw (lt-leb 256 l h, ← e, not-false m n)

-- ---- a row, with a count

one_less : (n : ℕ) → (n ≡ 0 → ⊥) → n ≡ suc (n - 1)
one_less n z = omega arith

module _ (n : ℕ) (g : Given) (r : ℕ) (M : List ℕ) where
  pub enter-spent : n ≡ 0 → came 1 M ≡ enter_m n g r M
  unfolding enter_m
  enter-spent e = rw e

  pub ask-spent : n ≡ 0 → told false M ≡ ask_m n g r M
  unfolding ask_m
  ask-spent e = rw e

  pub leave-spent : n ≡ 0 → told false M ≡ leave_m n g r M
  unfolding leave_m
  leave-spent e = rw e

  module _ (z : n ≡ 0 → ⊥) where
    pub enter-far : 1024 ≤ r → came 1 M ≡ enter_m n g r M
    unfolding enter_m
    enter-far h = rw (one_less n z, le-leb 1024 r h)

    pub leave-far : 1024 ≤ r → told false M ≡ leave_m n g r M
    unfolding leave_m
    leave-far h = rw (one_less n z, le-leb 1024 r h)

    module _ (h : r < 1024) where
      pub enter-known : (get_or M r 0 ≡ 0 → ⊥) → came (get_or M r 0) M ≡ enter_m n g r M
      unfolding enter_m
      enter-known e = rw (one_less n z, lt-leb 1024 r h, ne_eqb (get_or M r 0) 0 e)

      pub enter-found : get_or M r 0 ≡ 0 → (k : ℕ) (N : List ℕ) → came k N ≡ enter_on g (enter_m (n - 1) g) (get_or g.table r 0) M → came k (set N r k) ≡ enter_m n g r M
      unfolding enter_m
      enter-found e k N p = rw (one_less n z, lt-leb 1024 r h, e, ← p)

      -- u is the row above
      module _ (u : ℕ) (d : u ≡ part3 (get_or g.table r 0)) where
        pub leave_own : u ≡ r → (a : Told) → a ≡ ask_m (n - 1) g r M → a ≡ leave_m n g r M
        unfolding leave_m leave_on
        leave_own e a p = rw (one_less n z, lt-leb 1024 r h, ← d, eq-eqb u r e) p

        module _ (y : u ≡ r → ⊥) where
          pub leave-lost : 1024 ≤ u → told false M ≡ leave_m n g r M
          unfolding leave_m leave_on
          leave-lost f = rw (one_less n z, lt-leb 1024 r h, ← d, ne_eqb u r y, le-leb 1024 u f)

          -- k is its kind
          module _ (f : u < 1024) (k : ℕ) (q : k ≡ part0 (get_or g.table u 0)) where
            by-above : (a : Told) → a ≡ leave_to (enter_m (n - 1) g) (ask_m (n - 1) g) (leave_m (n - 1) g) (get_or g.table u 0) u r M → a ≡ leave_m n g r M
            unfolding leave_m leave_on
            by-above a p = rw (one_less n z, lt-leb 1024 r h, ← d, ne_eqb u r y, lt-leb 1024 u f) p

            pub to-alternative : k ≡ 2 → (a : Told) → a ≡ leave_m (n - 1) g u M → a ≡ leave_m n g r M
            unfolding leave_to
            to-alternative e a p = by-above a (rw (← q, e) p)

            pub to-star : k ≡ 3 → (a : Told) → a ≡ ask_m (n - 1) g u M → a ≡ leave_m n g r M
            unfolding leave_to
            to-star e a p = by-above a (rw (← q, e) p)

            to_none : (k ≡ 1 → ⊥) → (k ≡ 2 → ⊥) → (k ≡ 3 → ⊥) → (k ≡ 4 → ⊥) → told false M ≡ leave_m n g r M
            unfolding leave_to
            to_none m o s t = by-above (told false M) (rw (← q, ne_eqb k 1 m, ne_eqb k 2 o, ne_eqb k 3 s, ne_eqb k 4 t))

            pub to-letter : k ≡ 0 → told false M ≡ leave_m n g r M
            to-letter e = to_none (λ d. omega (arith, e, d)) (λ d. omega (arith, e, d)) (λ d. omega (arith, e, d)) (λ d. omega (arith, e, d))

            pub to-unknown : 4 < k → told false M ≡ leave_m n g r M
            to-unknown e = to_none (λ d. omega (arith, e, d)) (λ d. omega (arith, e, d)) (λ d. omega (arith, e, d)) (λ d. omega (arith, e, d))

            module _ (b : ℕ) (c : b ≡ part1 (get_or g.table u 0)) where
              pub to_end : k ≡ 1 → (b ≡ r → ⊥) → (a : Told) → a ≡ leave_m (n - 1) g u M → a ≡ leave_m n g r M
              unfolding leave_to
              to_end e t a p = by-above a (rw (← q, e, ← c, ne_eqb b r t) p)

              pub to-ended : k ≡ 4 → (b ≡ r → ⊥) → told true M ≡ leave_m n g r M
              unfolding leave_to
              to-ended e t = by-above (told true M) (rw (← q, e, ← c, ne_eqb b r t))

              module _ (t : b ≡ r) (i : ℕ) (j : i ≡ part2 (get_or g.table u 0)) where
                pub to-right : k ≡ 1 → (a : Told) → a ≡ ask_m (n - 1) g i M → a ≡ leave_m n g r M
                unfolding leave_to
                to-right e a p = by-above a (rw (← q, e, ← c, eq-eqb b r t, ← j) p)

                module _ (e : k ≡ 4) (v : ℕ) (N : List ℕ) (o : came v N ≡ enter_m (n - 1) g i M) where
                  pub thread-blocked : v ≡ 1 → told false N ≡ leave_m n g r M
                  unfolding leave_to
                  thread-blocked s = by-above (told false N) (rw (← q, e, ← c, eq-eqb b r t, ← j, ← o, s))

                  pub thread-starts : (v ≡ 1 → ⊥) → (a : Told) → a ≡ leave_m (n - 1) g u N → a ≡ leave_m n g r M
                  unfolding leave_to
                  thread-starts s a p = by-above a (rw (← q, e, ← c, eq-eqb b r t, ← j, ← o, ne_eqb v 1 s) p)

    module _ (k : ℕ) (N : List ℕ) (e : came k N ≡ enter_m (n - 1) g r M) where
      pub ask-met : k ≡ 3 → told true N ≡ ask_m n g r M
      unfolding ask_m
      ask-met h = rw (one_less n z, ← e, h)

      pub ask-blocked : (k ≡ 3 → ⊥) → (k ≡ 2 → ⊥) → told false N ≡ ask_m n g r M
      unfolding ask_m
      ask-blocked t p = rw (one_less n z, ← e, ne_eqb k 3 t, ne_eqb k 2 p)

      pub ask-passed : k ≡ 2 → (a : Told) → a ≡ leave_m (n - 1) g r N → a ≡ ask_m n g r M
      unfolding ask_m
      ask-passed h a p = rw (one_less n z, ← e, h) p

-- ---- a row's word, when the row is entered

module _ (g : Given) (enter : Entry) (x : ℕ) (M : List ℕ) (k : ℕ) (q : k ≡ part0 x) (b : ℕ) (d : b ≡ part1 x) (a : Came) where
  pub on-letter : k ≡ 0 → a ≡ enter_letter g b M → a ≡ enter_on g enter x M
  unfolding enter_on
  on-letter h p = rw (← q, h, ← d) p

  pub on-operands : (k ≡ 0 → ⊥) → (f : ℕ) (N : List ℕ) → came f N ≡ enter b M → a ≡ enter_second enter x (came f N) → a ≡ enter_on g enter x M
  unfolding enter_on
  on-operands h f N e p = rw (← q, ne_eqb k 0 h, ← d, ← e) (rw (← q) at p)

module _ (enter : Entry) (x f : ℕ) (M : List ℕ) (k : ℕ) (q : k ≡ part0 x) where
  pub sequence-ends : k ≡ 1 → (f ≡ 2 → ⊥) → came f M ≡ enter_second enter x (came f M)
  sequence-ends h n = rw (← q, h, ne_eqb f 2 n)

  pub star-met : k ≡ 3 → f ≡ 3 → came 3 M ≡ enter_second enter x (came f M)
  star-met h t = rw (← q, h, t)

  pub star-passed : k ≡ 3 → (f ≡ 3 → ⊥) → came 2 M ≡ enter_second enter x (came f M)
  star-passed h n = rw (← q, h, ne_eqb f 3 n)

  first-only : (k ≡ 1 → ⊥) → (k ≡ 3 → ⊥) → (k ≡ 2 → ⊥) → came f M ≡ enter_second enter x (came f M)
  first-only z m o = rw (← q, ne_eqb k 1 z, ne_eqb k 3 m, ne_eqb k 2 o)

  pub first-letter : k ≡ 0 → came f M ≡ enter_second enter x (came f M)
  first-letter e = first-only (λ d. omega (arith, e, d)) (λ d. omega (arith, e, d)) (λ d. omega (arith, e, d))

  pub first-pipe : k ≡ 4 → came f M ≡ enter_second enter x (came f M)
  first-pipe e = first-only (λ d. omega (arith, e, d)) (λ d. omega (arith, e, d)) (λ d. omega (arith, e, d))

  pub first-unknown : 4 < k → came f M ≡ enter_second enter x (came f M)
  first-unknown e = first-only (λ d. omega (arith, e, d)) (λ d. omega (arith, e, d)) (λ d. omega (arith, e, d))

  pub first-met : k ≡ 2 → f ≡ 3 → came f M ≡ enter_second enter x (came f M)
  first-met h t = rw (← q, h, t)

  module _ (i : ℕ) (d : i ≡ part2 x) (s : ℕ) (N : List ℕ) (e : came s N ≡ enter i M) where
    pub sequence-goes : k ≡ 1 → f ≡ 2 → came s N ≡ enter_second enter x (came f M)
    sequence-goes h t = rw (← q, h, t, ← d) e

    module _ (h : k ≡ 2) where
      pub second-met : (f ≡ 3 → ⊥) → s ≡ 3 → came 3 N ≡ enter_second enter x (came f M)
      second-met n t = rw (← q, h, ne_eqb f 3 n, ← d, ← e, t)

      module _ (v : s ≡ 3 → ⊥) where
        pub first-passed : f ≡ 2 → came 2 N ≡ enter_second enter x (came f M)
        first-passed t = rw (← q, h, t, ← d, ← e, ne_eqb s 3 v)

        pub second-only : (f ≡ 3 → ⊥) → (f ≡ 2 → ⊥) → came s N ≡ enter_second enter x (came f M)
        second-only n t = rw (← q, h, ne_eqb f 3 n, ← d, ← e, ne_eqb s 3 v, ne_eqb f 2 t)
