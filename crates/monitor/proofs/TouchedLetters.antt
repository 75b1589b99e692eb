-- Going over the letters met at the tick before, by the numbers that stand for the rows of expressions, counts what meaning's `sums` does, and going over the monitors at their start what asking them
-- touches. Assumes nothing.
use mathlib.Core.Path.{◌≡◌, refl, sym, ap, ap₂, ◌∙◌, subst}
use mathlib.Core.Bool.{Bool, true, false, not, cond, ◌&&◌, ◌||◌, and-true, and-false, or-true, or-false, or_comm, or_assoc}
use mathlib.Core.List.{List, [], ◌∷◌}
use mathlib.Core.Logic.{◌⊎◌, inl, inr, ⊎_elim}
use Prim.Native.Nat.{ℕ, zero, suc, ◌+◌, ◌-◌, ◌*◌, ◌/◌, ◌%◌, ◌<◌, ◌≤◌}
use native.Mathlib.Omega.{arith}
use borrow.Author.Tests.{ltb-true, lt-ltb, eqb-true, eqb-false, eq-eqb, ne_eqb}
use lib.Dec.{T, eqb, eqb→eq, eqb_refl, eqb-suc-zero, ltb}
use lib.ListN.{length, get_or, set, length-set, replicate, length-replicate}
use lib.Seq.{get_or-set_same, get_or-set_other}
use Rattle.meaning.specs.Lists.{total}
use Rattle.meaning.specs.Expression.{Exp, letter, seq, alt, star, pipe, letters, size, rows, Ordered}
use Rattle.meaning.specs.Shape.{nullable, last}
use Rattle.meaning.proofs.ListLaws.{or-T, T-or-left, T-or-right, is_true, is_false, by_cond}
use Rattle.meaning.proofs.Counting.{Place, asked_count, left_of_seq, right_of_seq, side_of_alt, body_of_star, left_of_pipe, thread_place, own_place, starts, sums, sums_after}
use Rattle.meaning.proofs.Levels.{starts-letter, starts-seq, starts-alt, starts-pipe}
use Rattle.words.specs.Words.{part0, part1, part2, part3}
use Rattle.rules.specs.declared.Watch.{Watch}
use Rattle.counts.specs.Counts.{count_in, key_in}
use Rattle.monitor.specs.Tally.{Counts, Tallied, tallied, and_tally, key_of, thread_of, ask_thread, ask_threads, next_of, touch_letter, touch_if, touch_marked, touch_starts}
use Rattle.monitor.proofs.Numbered.{InOrder}
use Rattle.monitor.proofs.Padded.{zeros-at}
use Rattle.monitor.proofs.Program.{LaidFrom}
use Rattle.monitor.proofs.CountRows.{RowStored, Stored, StoredAll}

-- ---- what stands for an expression

-- what asking the monitors touches that are at their start, from monitor i on
abbrev pub start_counts : (marks : List ℕ) → (i : ℕ) → List Exp → ℕ
start_counts marks i [] = 0
start_counts marks i (m ∷ ms) = cond (eqb (get_or marks (256 + i) 0) 0) 0 (asked_count m) + start_counts marks (suc i) ms

-- what stands at its first row
row-stored : (t cs ps L : List ℕ) (r k : ℕ) (c : Place) (n q : ℕ) (e : Exp) → Stored t cs ps L r k c n q e → RowStored (get_or cs r 0) (get_or ps r 0) c n q e
row-stored t cs ps L r k c n q (letter l) s = s.0
row-stored t cs ps L r k c n q (seq e f) s = s.0
row-stored t cs ps L r k c n q (alt e f) s = s.0
row-stored t cs ps L r k c n q (star e) s = s.0
row-stored t cs ps L r k c n q (pipe e f) s = s.0

-- ---- tests

-- what is asked twice is asked once
asked_twice : (f a b k : Bool) → ((f || (a && k)) || (b && k)) ≡ (f || ((b || a) && k))
asked_twice true a b k = refl
asked_twice false a true true = or-true (a && true)
asked_twice false a true false = ap (λ z. z || false) (and-false a)
asked_twice false a false k = or-false (a && k)

-- the number at j is not 0: of marks, letter j was met; of what is asked, the thread with this key is
abbrev flag : List ℕ → ℕ → Bool
flag A j = not (eqb (get_or A j 0) 0)

-- no thread with a key between k and k + i is asked
abbrev Fresh : (k i : ℕ) → List ℕ → Type 0
Fresh k i A = (j : ℕ) → k < j → j < k + i → flag A j ≡ false

-- every part has a letter
some-letter : (e : Exp) → 1 ≤ size e
unfolding size
some-letter (letter l) = omega arith
some-letter (seq e f) = omega (arith, some-letter e)
some-letter (alt e f) = omega (arith, some-letter e)
some-letter (star e) = some-letter e
some-letter (pipe e f) = omega (arith, some-letter e)

-- ---- asking the threads of a chain

-- a thread that has the key b and costs a is asked, and counted unless it was
abbrev ask_one : (b a : ℕ) → List ℕ → Tallied
ask_one b a A = cond (eqb (get_or A b 0) 0) (tallied a (set A b 1)) (tallied 0 A)

-- its count, and what is asked then
one-counted : (b a : ℕ) (A : List ℕ) → (ask_one b a A).count ≡ cond (flag A b) 0 a
one-counted b a A = by (eqb (get_or A b 0) 0)
  where
    by : (z : Bool) → (cond z (tallied a (set A b 1)) (tallied 0 A)).count ≡ cond (not z) 0 a
    by true = refl
    by false = refl

one-long : (b a : ℕ) (A : List ℕ) → length (ask_one b a A).asked ≡ length A
one-long b a A = by (eqb (get_or A b 0) 0)
  where
    by : (z : Bool) → length (cond z (tallied a (set A b 1)) (tallied 0 A)).asked ≡ length A
    by true = length-set A b 1
    by false = refl

one-asked : (b a : ℕ) (A : List ℕ) → b < length A → (j : ℕ) → flag (ask_one b a A).asked j ≡ (flag A j || eqb j b)
one-asked b a A h j = by (eqb (get_or A b 0) 0) refl (eqb j b) refl
  where
    by : (z : Bool) → eqb (get_or A b 0) 0 ≡ z → (y : Bool) → eqb j b ≡ y → flag (cond z (tallied a (set A b 1)) (tallied 0 A)).asked j ≡ (flag A j || y)
    by true p true q = ap (λ (i : ℕ). flag (set A b 1) i) (eqb-true j b q) ∙ ap (λ (x : ℕ). not (eqb x 0)) (get_or-set_same A b 1 0 h) ∙ sym (or-true (flag A j))
    by true p false q = ap (λ (x : ℕ). not (eqb x 0)) (get_or-set_other A b j 1 0 (eqb-false j b q)) ∙ sym (or-false (flag A j))
    by false p true q = ap (λ (i : ℕ). flag A i) (eqb-true j b q) ∙ ap not p ∙ sym (or-true (flag A j))
    by false p false q = sym (or-false (flag A j))

module _ (C : Counts) where
  -- behind a chain's end nothing is asked, by any bound
  no_more : (m : ℕ) (A : List ℕ) → ask_threads C m 0 A ≡ tallied 0 A
  unfolding ask_threads
  no_more zero A = refl
  no_more (suc m) A = refl

  -- any bound that is high enough will do: for one more, and so for all
  one_more : (m n i : ℕ) (A : List ℕ) → i ≤ suc m → i ≤ n → ((n j : ℕ) (B : List ℕ) → j ≤ m → j ≤ n → ask_threads C m j B ≡ ask_threads C n j B) → ask_threads C (suc m) i A ≡ ask_threads C n i A
  unfolding ask_threads
  one_more m n zero A h l more = sym (no_more n A)
  one_more m zero (suc i) A h l more = absurd (omega (arith, l))
  one_more m (suc n) (suc i) A h l more =
      let a = ask_thread C (suc i - 1) A in
      ap (λ (z : Tallied). cond (eqb (suc i) 0) (tallied 0 A) (tallied (a.count + z.count) z.asked)) (by (ltb (next_of C (suc i)) (suc i)) refl a.asked)
    where
      by : (b : Bool) → ltb (next_of C (suc i)) (suc i) ≡ b → (B : List ℕ)
          → cond b (ask_threads C m (next_of C (suc i)) B) (tallied 0 B) ≡ cond b (ask_threads C n (next_of C (suc i)) B) (tallied 0 B)
      by true e B = let s = ltb-true (next_of C (suc i)) (suc i) e in more n (next_of C (suc i)) B (omega (arith, s, h)) (omega (arith, s, l))
      by false e B = refl

  enough : (m n i : ℕ) (A : List ℕ) → i ≤ m → i ≤ n → ask_threads C m i A ≡ ask_threads C n i A
  unfolding ask_threads
  enough zero n i A h l = let z : i ≡ 0 = omega (arith, h) in sym (ap (λ (j : ℕ). ask_threads C n j A) z ∙ no_more n A)
  enough (suc m) n i A h l = one_more m n i A h l (λ n j B u v. enough m n j B u v)

  -- What asking the threads from chain n on comes to: they have these keys, none below d, and this price, where F tells which threads are asked before.
  record Chain (d n : ℕ) : Type 0 where
    keys : ℕ → Bool
    price : (ℕ → Bool) → ℕ
    beyond : (j : ℕ) → T (keys j) → d ≤ j
    counted : (A : List ℕ) → length A ≡ 256 → (ask_threads C n n A).count ≡ price (flag A)
    asks : (A : List ℕ) → length A ≡ 256 → (j : ℕ) → flag (ask_threads C n n A).asked j ≡ (flag A j || keys j)
    long : (A : List ℕ) → length A ≡ 256 → length (ask_threads C n n A).asked ≡ 256
    same : (F G : ℕ → Bool) → ((j : ℕ) → T (keys j) → F j ≡ G j) → price F ≡ price G
    free : (F : ℕ → Bool) → ((j : ℕ) → T (keys j) → F j ≡ true) → price F ≡ 0

  -- nothing is asked
  no-chain : (d : ℕ) → Chain d 0
  unfolding ask_threads
  no-chain d = record {
    keys = λ j. false;
    price = λ F. 0;
    beyond = λ j t. absurd t;
    counted = λ A l. refl;
    asks = λ A l j. sym (or-false (flag A j));
    long = λ A l. l;
    same = λ F G h. refl;
    free = λ F h. refl;
  }

  -- the `@` in row r, its thread's key b and cost a, and the chain behind it from n on
  module _ (r b a n : ℕ) (key : key_of C (thread_of C r) ≡ b) (costs : count_in (get_or C.costs (thread_of C r) 0) ≡ a) (next : part2 (get_or C.places r 0) ≡ n) (up : n ≤ r) where
    -- the thread is asked, and then those behind it
    chain-step : (A : List ℕ) → ask_threads C (suc r) (suc r) A ≡ and_tally (ask_one b a A) (ask_threads C n n)
    unfolding ask_threads
    chain-step A =
        let u : suc r - 1 ≡ r = omega arith in
        ap (λ z. cond z (tallied 0 A) (and_tally (ask_thread C (suc r - 1) A) (λ B. cond (ltb (next_of C (suc r)) (suc r)) (ask_threads C r (next_of C (suc r)) B) (tallied 0 B)))) (eqb-suc-zero r)
        ∙ ap (λ (i : ℕ). and_tally (ask_thread C i A) (λ B. cond (ltb (part2 (get_or C.places i 0)) (suc r)) (ask_threads C r (part2 (get_or C.places i 0)) B) (tallied 0 B))) u
        ∙ ap (λ (m : ℕ). and_tally (ask_thread C r A) (λ B. cond (ltb m (suc r)) (ask_threads C r m B) (tallied 0 B))) next
        ∙ ap (λ z. and_tally (ask_thread C r A) (λ B. cond z (ask_threads C r n B) (tallied 0 B))) (lt-ltb n (suc r) (omega (arith, up)))
        ∙ ap (λ (z : Tallied). tallied ((ask_thread C r A).count + z.count) z.asked) (enough r n n (ask_thread C r A).asked up (omega arith))
        ∙ ap₂ (λ (i x : ℕ). and_tally (ask_one i x A) (ask_threads C n n)) key costs

    -- so it comes to more by that thread
    longer : {d : ℕ} → b < 256 → b < d → Chain d n → Chain b (suc r)
    longer {d} l h ch = record {
      keys = λ j. eqb j b || ch.keys j;
      price = λ F. cond (F b) 0 a + ch.price F;
      beyond = λ j t. ⊎_elim (λ u. let e = eqb→eq j b u in omega (arith, e)) (λ u. let e = ch.beyond j u in omega (arith, e, h)) (or-T (eqb j b) (ch.keys j) t);
      counted = λ A m. ap (λ (z : Tallied). z.count) (chain-step A)
          ∙ ap₂ ◌+◌ (one-counted b a A)
          (ch.counted (ask_one b a A).asked (one-long b a A ∙ m)
          ∙ ch.same (flag (ask_one b a A).asked) (flag A)
          (λ j t. one-asked b a A (omega (arith, l, m)) j ∙ ap (λ z. flag A j || z) (ne_eqb j b (λ e. let u = ch.beyond j t in omega (arith, u, e, h))) ∙ or-false (flag A j)));
      asks = λ A m j. ap (λ (z : Tallied). flag z.asked j) (chain-step A)
          ∙ ch.asks (ask_one b a A).asked (one-long b a A ∙ m) j ∙ ap (λ z. z || ch.keys j) (one-asked b a A (omega (arith, l, m)) j) ∙ or_assoc (flag A j) (eqb j b) (ch.keys j);
      long = λ A m. ap (λ (z : Tallied). length z.asked) (chain-step A) ∙ ch.long (ask_one b a A).asked (one-long b a A ∙ m);
      same = λ F G p. ap₂ (λ (z : Bool) (x : ℕ). cond z 0 a + x) (p b (T-or-left (eqb b b) (ch.keys b) (eqb_refl b))) (ch.same F G (λ j t. p j (T-or-right (eqb j b) (ch.keys j) t)));
      free = λ F p. ap₂ (λ (z : Bool) (x : ℕ). cond z 0 a + x) (p b (T-or-left (eqb b b) (ch.keys b) (eqb_refl b))) (ch.free F (λ j t. p j (T-or-right (eqb j b) (ch.keys j) t)));
    }

  -- ---- what going over letters leaves

  -- t is what going over i letters from k on leaves of A: x touches, and the chain's threads asked where b; only the letters' own keys are asked besides
  record Done {d n : ℕ} (ch : Chain d n) (k i : ℕ) (A : List ℕ) (x : ℕ) (b : Bool) (t : Tallied) : Type 0 where
    counted : t.count ≡ x + cond b (ch.price (flag A)) 0
    asks : (j : ℕ) → (j ≤ k) ⊎ (k + i ≤ j) → flag t.asked j ≡ (flag A j || (b && ch.keys j))
    long : length t.asked ≡ 256

  module _ {d n : ℕ} (ch : Chain d n) where
    -- no thread of the chain has a lower key
    not_key : (j : ℕ) → j < d → ch.keys j ≡ false
    not_key j h = is_false (ch.keys j) (λ t. let u = ch.beyond j t in omega (arith, u, h))

    -- a key that is neither the letters' nor the chain's
    kept : (k i : ℕ) (A : List ℕ) (x : ℕ) (b : Bool) (t : Tallied) → Done ch k i A x b t → (j : ℕ) → (j ≤ k) ⊎ (k + i ≤ j) → ch.keys j ≡ false → flag t.asked j ≡ flag A j
    kept k i A x b t D j o h = D.asks j o ∙ ap (λ z. flag A j || (b && z)) h ∙ ap (λ z. flag A j || z) (and-false b) ∙ or-false (flag A j)

    -- by the same test, with the same outcome
    as-done : (k i : ℕ) (A : List ℕ) (x : ℕ) (a b : Bool) (t u : Tallied) → a ≡ b → t ≡ u → Done ch k i A x a t → Done ch k i A x b u
    as-done k i A x a b t u p q D = subst (λ (z : Tallied). Done ch k i A x b z) q (subst (λ (z : Bool). Done ch k i A x z t) p D)

    -- i letters, and then l more that have the same chain behind them
    both : (k i l : ℕ) → k + (i + l) ≤ d → (A : List ℕ) (x y : ℕ) (a b : Bool) (t u : Tallied) → Done ch k i A x a t → Done ch (k + i) l t.asked y b u
        → Done ch k (i + l) A (x + y) (b || a) (tallied (t.count + u.count) u.asked)
    both k i l h A x y a b t u D E = record {
      counted = ap₂ ◌+◌ D.counted E.counted ∙ by a b D.asks;
      asks = λ j o. E.asks j (⊎_elim (λ p. inl (omega (arith, p))) (λ p. inr (omega (arith, p))) o)
          ∙ ap (λ z. z || (b && ch.keys j)) (D.asks j (⊎_elim (λ p. inl p) (λ p. inr (omega (arith, p))) o)) ∙ asked_twice (flag A j) a b (ch.keys j);
      long = E.long;
    }
      where
        by : (a b : Bool) → ((j : ℕ) → (j ≤ k) ⊎ (k + i ≤ j) → flag t.asked j ≡ (flag A j || (a && ch.keys j)))
            → x + cond a (ch.price (flag A)) 0 + (y + cond b (ch.price (flag t.asked)) 0) ≡ x + y + cond (b || a) (ch.price (flag A)) 0
        by true true p =
            let z = ch.free (flag t.asked)
            (λ j s. p j (inr (let v = ch.beyond j s in omega (arith, v, h))) ∙ ap (λ w. flag A j || w) (is_true (ch.keys j) s) ∙ or-true (flag A j)) in
            omega (arith, z)
        by false true p = let z = ch.same (flag t.asked) (flag A) (λ j s. p j (inr (let v = ch.beyond j s in omega (arith, v, h))) ∙ or-false (flag A j)) in omega (arith, z)
        by true false p = omega arith
        by false false p = omega arith

    -- the chain behind letters that are left to it only where g
    abbrev cut : (g : Bool) → Chain d (cond g n 0)
    cut true = ch
    cut false = no-chain d

    -- is that chain, asked only where g
    uncut : (g : Bool) (k i : ℕ) (A : List ℕ) (x : ℕ) (a : Bool) (t : Tallied) → Done (cut g) k i A x a t → Done ch k i A x (g && a) t
    unfolding no-chain
    uncut true k i A x a t D = D
    uncut false k i A x a t D = record {
      counted = D.counted ∙ by a;
      asks = λ j o. D.asks j o ∙ ap (λ z. flag A j || z) (and-false a);
      long = D.long;
    }
      where
        by : (a : Bool) → x + cond a 0 0 ≡ x + 0
        by true = refl
        by false = refl

  -- i letters, and then the l letters of the thread behind them, which costs a and is the first of their chain
  thread-done : {d n b m : ℕ} (ch : Chain d n) (ch' : Chain b m) (k i l a : ℕ) → 1 ≤ i → 1 ≤ l
      → ((j : ℕ) → ch'.keys j ≡ (eqb j (k + i) || ch.keys j)) → ((F : ℕ → Bool) → ch'.price F ≡ cond (F (k + i)) 0 a + ch.price F)
      → (A : List ℕ) → flag A (k + i) ≡ false → (x y : ℕ) (s v : Bool) (t u : Tallied) → Done ch' k i A x s t → Done (no-chain d) (k + i) l t.asked y v u
      → Done ch k (i + l) A (x + (cond s a 0 + y)) s (tallied (t.count + u.count) u.asked)
  unfolding no-chain
  thread-done {d} ch ch' k i l a first some keys price A z x y s v t u D E = record {
    counted = ap₂ ◌+◌ (D.counted ∙ ap (λ (p : ℕ). x + cond s p 0) (price (flag A) ∙ ap (λ w. cond w 0 a + ch.price (flag A)) z)) E.counted ∙ by s v;
    asks = λ j o. kept (no-chain d) (k + i) l t.asked y v u E j (⊎_elim (λ p. inl (omega (arith, p))) (λ p. inr (omega (arith, p))) o) refl
        ∙ D.asks j (⊎_elim (λ p. inl p) (λ p. inr (omega (arith, p))) o)
        ∙ ap (λ w. flag A j || (s && w)) (keys j ∙ ap (λ w. w || ch.keys j) (ne_eqb j (k + i) (λ e. ⊎_elim (λ p. omega (arith, p, e, first)) (λ p. omega (arith, p, e, some)) o)));
    long = E.long;
  }
    where
      by : (s v : Bool) → x + cond s (a + ch.price (flag A)) 0 + (y + cond v 0 0) ≡ x + (cond s a 0 + y) + cond s (ch.price (flag A)) 0
      by true true = omega arith
      by true false = omega arith
      by false true = omega arith
      by false false = omega arith

  -- some letters, and then more
  touch-split : (marks : List ℕ) (a b l : ℕ) (A : List ℕ) → touch_marked C marks (a + b) l A ≡ and_tally (touch_marked C marks a l A) (touch_marked C marks b (l + a))
  unfolding touch_marked
  touch-split marks zero b l A =
      let d : 0 + b ≡ b = omega arith in
      let e : l ≡ l + 0 = omega arith in
      let z : (touch_marked C marks b (l + 0) A).count ≡ 0 + (touch_marked C marks b (l + 0) A).count = omega arith in
      ap₂ (λ (n k : ℕ). touch_marked C marks n k A) d e ∙ ap (λ (n : ℕ). tallied n (touch_marked C marks b (l + 0) A).asked) z
  touch-split marks (suc a) b l A =
      let d : suc a + b ≡ suc (a + b) = omega arith in
      let e : suc l + a ≡ l + suc a = omega arith in
      let I = touch_if C marks l A in
      let X = touch_marked C marks a (suc l) I.asked in
      let Y = touch_marked C marks b (l + suc a) X.asked in
      let z : I.count + (X.count + Y.count) ≡ I.count + X.count + Y.count = omega arith in
      ap (λ (n : ℕ). touch_marked C marks n l A) d
      ∙ ap (λ (w : Tallied). tallied (I.count + w.count) w.asked) (touch-split marks a b (suc l) I.asked ∙ ap (λ (k : ℕ). and_tally X (touch_marked C marks b k)) e)
      ∙ ap (λ (n : ℕ). tallied n Y.asked) z

-- ---- over an expression

-- a thread's key, from a place's last number
key-is : (b : Bool) (p q : ℕ) → p ≡ 2 * q + cond b 1 0 → q < 256 → p / 2 % 256 ≡ q
key-is true p q e h = omega (arith, e, h)
key-is false p q e h = omega (arith, e, h)

module _ (t cs ps L marks : List ℕ) where
  -- what they are counted by
  abbrev C : Counts
  C = record { table = t; places = ps; costs = cs; letters = L }

  -- which letters were met
  abbrev act : ℕ → Bool
  act = flag marks

  -- letter k, met at the tick before
  left-letter : (r k : ℕ) (c : Place) (n q : ℕ) (e : Exp) (A : List ℕ) → RowStored (get_or cs r 0) (get_or ps r 0) c n q e → get_or L k 0 ≡ r → q < 256
      → touch_letter C k A ≡ and_tally (tallied (cond (flag A q) c.rest c.whole) A) (ask_threads C n n)
  unfolding touch_letter
  left-letter r k c n q e A R p h =
      let w = get_or ps r 0 in
      ap (λ (i : ℕ). let v = get_or ps i 0 in and_tally (tallied (cond (eqb (get_or A (key_in v % 256) 0) 0) (part0 v) (part1 v)) A) (ask_threads C (part2 v) (part2 v))) p
      ∙ ap₂ (λ (i m : ℕ). and_tally (tallied (cond (eqb (get_or A i 0) 0) (part0 w) (part1 w)) A) (ask_threads C m m)) (key-is c.begins (part3 w) q R.key h) R.chain
      ∙ ap₂ (λ (x y : ℕ). and_tally (tallied (cond (eqb (get_or A q 0) 0) x y) A) (ask_threads C n n)) R.whole R.rest
      ∙ ap (λ (x : ℕ). and_tally (tallied x A) (ask_threads C n n)) (by (eqb (get_or A q 0) 0))
    where
      by : (z : Bool) → cond z c.whole c.rest ≡ cond (not z) c.rest c.whole
      by true = refl
      by false = refl

  -- letter k, met or not
  letter-done : {d n : ℕ} (ch : Chain C d n) (k x : ℕ) (A : List ℕ) → length A ≡ 256 → touch_letter C k A ≡ and_tally (tallied x A) (ask_threads C n n)
      → Done C ch k 1 A (cond (flag marks k) x 0) (flag marks k) (touch_marked C marks 1 k A)
  unfolding touch_marked
  letter-done {n} ch k x A l p = by (eqb (get_or marks k 0) 0)
    where
      more : (z : Tallied) → z ≡ and_tally (tallied x A) (ask_threads C n n) → Done C ch k 1 A x true (tallied (z.count + 0) z.asked)
      more z q = record {
        counted = ap (λ (w : Tallied). w.count + 0) q ∙ (let y = ch.counted A l in omega (arith, y));
        asks = λ j o. ap (λ (w : Tallied). flag w.asked j) q ∙ ch.asks A l j;
        long = ap (λ (w : Tallied). length w.asked) q ∙ ch.long A l;
      }

      by : (z : Bool) → Done C ch k 1 A (cond (not z) x 0) (not z) (and_tally (cond z (tallied 0 A) (touch_letter C k A)) (λ B. tallied 0 B))
      by true = record { counted = refl; asks = λ j o. sym (or-false (flag A j)); long = l }
      by false = more (touch_letter C k A) p

  -- two operands of z, where the left one's chain is cut unless g
  two : {d n : ℕ} (ch : Chain C d n) (g : Bool) (k q : ℕ) (z e f : Exp) (s : Bool) (A : List ℕ) (x y : ℕ) → k + (size e + size f) ≤ d → q ≤ k → Fresh k (size e + size f) A → flag A q ≡ s
      → starts act z ≡ (starts act f || (g && starts act e))
      → (Fresh k (size e) A → Done C (cut C ch g) k (size e) A x (starts act e) (touch_marked C marks (size e) k A))
      → ((B : List ℕ) → length B ≡ 256 → Fresh (k + size e) (size f) B → flag B q ≡ s → Done C ch (k + size e) (size f) B y (starts act f) (touch_marked C marks (size f) (k + size e) B))
      → Done C ch k (size e + size f) A (x + y) (starts act z) (touch_marked C marks (size e + size f) k A)
  two ch g k q z e f s A x y h i fr a same left right =
      let a-letter = some-letter e in
      let T = touch_marked C marks (size e) k A in
      let D = uncut C ch g k (size e) A x (starts act e) T (left (λ j u v. fr j u (omega (arith, v)))) in
      let E = right T.asked D.long
      (λ j u v. kept C ch k (size e) A x (g && starts act e) T D j (inr (omega (arith, u))) (not_key C ch j (omega (arith, v, h))) ∙ fr j (omega (arith, u)) (omega (arith, v)))
      (kept C ch k (size e) A x (g && starts act e) T D q (inl i) (not_key C ch q (omega (arith, i, h, a-letter))) ∙ a) in
      as-done C ch k (size e + size f) A (x + y) (starts act f || (g && starts act e)) (starts act z) _ (touch_marked C marks (size e + size f) k A)
      (sym same) (sym (touch-split C marks (size e) (size f) k A))
      (both C ch k (size e) (size f) h A x y (g && starts act e) (starts act f) T (touch_marked C marks (size f) (k + size e) T.asked) D E)

  -- the letters of e, whose place is c, chain n and key q; s: the thread that it stands in is asked
  touch : (d r k : ℕ) (c : Place) (n q : ℕ) (e : Exp) (s : Bool) (A : List ℕ) (ch : Chain C d n) → Stored t cs ps L r k c n q e → Ordered k e → k + size e ≤ 256 → k + size e ≤ d → n ≤ r → q ≤ k
      → length A ≡ 256 → Fresh k (size e) A → flag A q ≡ s → Done C ch k (size e) A (sums act e c s) (starts act e) (touch_marked C marks (size e) k A)
  unfolding sums size letters last longer
  touch d r k c n q (letter l) s A ch S o few low up i m fr a =
      let w = cond s c.rest c.whole in
      subst (λ (j : ℕ). Done C ch k 1 A (cond (flag marks j) w 0) (starts act (letter l)) (touch_marked C marks 1 k A)) (sym o)
      (as-done C ch k 1 A (cond (flag marks k) w 0) (flag marks k) (starts act (letter l)) (touch_marked C marks 1 k A) (touch_marked C marks 1 k A)
      (sym (starts-letter act l ∙ ap act o)) refl
      (letter-done ch k w A m
      (left-letter r k c n q (letter l) A S.0 S.1 (omega (arith, i, few)) ∙ ap (λ (z : Bool). and_tally (tallied (cond z c.rest c.whole) A) (ask_threads C n n)) a)))
  touch d r k c n q (seq e f) s A ch S o few low up i m fr a =
      two ch (nullable f) k q (seq e f) e f s A (sums act e (left_of_seq e f c) s) (sums act f (right_of_seq e f c) s) low i fr a (starts-seq act e f)
      (λ g. touch d (suc r) k (left_of_seq e f c) (cond (nullable f) n 0) q e s A (cut C ch (nullable f)) S.1 o.0 (omega (arith, few)) (omega (arith, low))
      (by_cond (λ (j : ℕ). j ≤ suc r) (nullable f) n 0 (λ z. omega (arith, up)) (λ z. omega arith)) i m g a)
      (λ B b g z. touch d (suc r + rows e) (k + size e) (right_of_seq e f c) n q f s B ch S.2 o.1 (omega (arith, few)) (omega (arith, low)) (omega (arith, up)) (omega (arith, i)) b g z)
  touch d r k c n q (alt e f) s A ch S o few low up i m fr a =
      two ch true k q (alt e f) e f s A (sums act e (side_of_alt e c) s) (sums act f (side_of_alt f c) s) low i fr a (starts-alt act e f ∙ or_comm (starts act e) (starts act f))
      (λ g. touch d (suc r) k (side_of_alt e c) n q e s A ch S.1 o.0 (omega (arith, few)) (omega (arith, low)) (omega (arith, up)) i m g a)
      (λ B b g z. touch d (suc r + rows e) (k + size e) (side_of_alt f c) n q f s B ch S.2 o.1 (omega (arith, few)) (omega (arith, low)) (omega (arith, up)) (omega (arith, i)) b g z)
  touch d r k c n q (star e) s A ch S o few low up i m fr a = touch d (suc r) k (body_of_star e c) n q e s A ch S.1 o few low (omega (arith, up)) i m fr a
  touch d r k c n q (pipe e f) s A ch S o few low up i m fr a =
      let u = some-letter e in
      let v = some-letter f in
      let b = k + size e in
      let R = row-stored t cs ps L (suc r + rows e) b (thread_place f) 0 b f S.3 in
      let ch' = longer C r b (asked_count f) n
      (ap (λ (j : ℕ). key_of C j) S.1 ∙ key-is true (part3 (get_or ps (suc r + rows e) 0)) b R.key (omega (arith, few, v)))
      (ap (λ (j : ℕ). count_in (get_or cs j 0)) S.1 ∙ R.count) S.0.chain up (omega (arith, few, v)) (omega (arith, low, v)) ch in
      let T = touch_marked C marks (size e) k A in
      let x = sums act e (left_of_pipe e c) s in
      let z : flag A b ≡ false = fr b (omega (arith, u)) (omega (arith, v)) in
      let D = touch b (suc r) k (left_of_pipe e c) (suc r) q e s A ch' S.2 o.0 (omega (arith, few)) (omega arith) (omega arith) i m (λ j g h. fr j g (omega (arith, h))) a in
      let E = touch d (suc r + rows e) b (thread_place f) 0 b f (starts act e) T.asked (no-chain C d) S.3 o.1 (omega (arith, few)) (omega (arith, low)) (omega arith) (omega arith) D.long
      (λ j g h. kept C ch' k (size e) A x (starts act e) T D j (inr (omega (arith, g)))
      (ap₂ ◌||◌ (ne_eqb j b (λ p. omega (arith, p, g))) (not_key C ch j (omega (arith, h, low)))) ∙ fr j (omega (arith, g)) (omega (arith, h)))
      (D.asks b (inr (omega arith)) ∙ ap₂ (λ (y w : Bool). y || (starts act e && (w || ch.keys b))) z (eq-eqb b b refl) ∙ and-true (starts act e)) in
      let y = sums act f (thread_place f) (starts act e) in
      as-done C ch k (size e + size f) A (x + (cond (starts act e) (asked_count f) 0 + y)) (starts act e) (starts act (pipe e f)) _ (touch_marked C marks (size e + size f) k A)
      (sym (starts-pipe act e f)) (sym (touch-split C marks (size e) (size f) k A))
      (thread-done C ch ch' k (size e) (size f) (asked_count f) u v (λ j. refl) (λ F. refl) A z x y (starts act e) (starts act f) T
      (touch_marked C marks (size f) b T.asked) D E)

  -- ---- over all monitors

  -- the monitors' letters from k on, where no thread with a key from there on is asked
  touch-all : (r k : ℕ) (ms : List Exp) (A : List ℕ) → StoredAll t cs ps L r k ms → InOrder k ms → k + total size ms ≤ 256 → length A ≡ 256 → flag A 0 ≡ false → ((j : ℕ) → k < j → flag A j ≡ false)
      → (touch_marked C marks (total size ms) k A).count ≡ total (λ m. sums_after act m) ms
  unfolding touch_marked no-chain
  touch-all r k [] A S o few l z fr = refl
  touch-all r k (m ∷ ms) A S o few l z fr =
      let T = touch_marked C marks (size m) k A in
      let b = starts act m in
      let x = sums_after act m in
      let ch = no-chain C 256 in
      let D = touch 256 r k (own_place m) 0 0 m false A ch S.0 o.0 (omega (arith, few)) (omega (arith, few)) (omega arith) (omega arith) l (λ j g h. fr j g) z in
      let more = touch-all (r + rows m) (k + size m) ms T.asked S.1 o.1 (omega (arith, few)) D.long
      (kept C ch k (size m) A x b T D 0 (inl (omega arith)) refl ∙ z)
      (λ j g. kept C ch k (size m) A x b T D j (inr (omega (arith, g))) refl ∙ fr j (omega (arith, g))) in
      ap (λ (w : Tallied). w.count) (touch-split C marks (size m) (total size ms) k A) ∙ ap₂ ◌+◌ (D.counted ∙ by x b) more
    where
      by : (x : ℕ) (b : Bool) → x + cond b 0 0 ≡ x
      by x true = omega arith
      by x false = omega arith

  -- Going over all letters counts what the letters met touch.
  pub letters-touched : (ms : List Exp) → StoredAll t cs ps L 0 0 ms → InOrder 0 ms → total size ms ≤ 256
      → (touch_marked C marks (total size ms) 0 (replicate 256 0)).count ≡ total (λ m. sums_after (λ n. not (eqb (get_or marks n 0) 0)) m) ms
  letters-touched ms S o few =
      let none : (j : ℕ) → flag (replicate 256 0) j ≡ false = λ j. ap (λ (x : ℕ). not (eqb x 0)) (zeros-at 256 j) in
      touch-all 0 0 ms (replicate 256 0) S o (omega (arith, few)) (length-replicate {A = ℕ} 256 0) (none 0) (λ j h. none j)

  -- Going over the monitors counts what asking those at their start touches.
  pub starts-touched : (v : Watch) (i r k : ℕ) (ms : List Exp) → LaidFrom v i r k ms → StoredAll t cs ps L r k ms → touch_starts C v.own marks (length ms) i ≡ start_counts marks i ms
  unfolding touch_starts
  starts-touched v i r k [] l S = refl
  starts-touched v i r k (m ∷ ms) l S =
      ap₂ (λ (x y : ℕ). cond (eqb (get_or marks (256 + i) 0) 0) 0 x + y)
      (ap (λ (j : ℕ). count_in (get_or cs j 0)) l.0.own ∙ (row-stored t cs ps L r k (own_place m) 0 0 m S.0).count) (starts-touched v (suc i) (r + rows m) (k + size m) ms l.1 S.1)
