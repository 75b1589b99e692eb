-- How many rows a tick touches, by the code's branches and loops. Assumes nothing.
use mathlib.Core.Path.{◌≡◌, refl, sym, ◌∙◌, ap, ap₂, subst}
use mathlib.Core.Bool.{Bool, true, false, cond}
use mathlib.Core.List.{List}
use Prim.Native.Nat.{ℕ, zero, suc, ◌+◌, ◌-◌, ◌%◌, ◌<◌, ◌≤◌, min}
use native.Mathlib.Omega.{arith}
use borrow.Author.Tests.{eq-eqb, ne_eqb, lt-ltb, le-ltb}
use lib.Dec.{eqb, ltb}
use lib.ListN.{get_or, set, replicate}
use Rattle.lexer.proofs.Bools.{taken, left}
use Rattle.words.specs.Words.{part0, part1, part2}
use Rattle.counts.specs.Counts.{count_in, key_in}
use Rattle.monitor.specs.Ticks.{first_marked}
use Rattle.monitor.specs.Tally.{Counts, Tallied, tallied, and_tally, key_of, thread_of, ask_thread, next_of, ask_threads, place_of, touch_letter, touch_if, touch_marked, touch_starts, touched_of}
use Rattle.monitor.proofs.Marked.{to-first, at_first}

-- ---- numbers added up, of which 65,535 is the largest that is told

-- n is told of the whole, and the rest is to be added
abbrev pub Toward : (whole n rest : ℕ) → Type 0
Toward t n r = (n ≤ 65535) × (min t 65535 ≡ min (n + r) 65535)

toward-first : (t r : ℕ) → t ≡ r → Toward t 0 r
toward-first t r e = (omega arith, omega (arith, e))

toward-more : (t n r a s b m : ℕ) → Toward t n r → r ≡ a + s → b ≡ min a 65535 → m ≡ min (n + b) 65535 → Toward t m s
toward-more t n r a s b m (h, e) p q d = (omega (arith, d), omega (arith, h, e, p, q, d))

toward-all : (t n r : ℕ) → Toward t n r → r ≡ 0 → n ≡ min t 65535
toward-all t n r (h, e) z = omega (arith, h, e, z)

sum_told : (a b x y n : ℕ) → a ≡ min x 65535 → b ≡ min y 65535 → n ≡ min (a + b) 65535 → n ≡ min (x + y) 65535
sum_told a b x y n p q d = omega (arith, p, q, d)

-- with the threads that are then asked
abbrev pub Ahead : (whole : Tallied) → (n : ℕ) → (rest : Tallied) → Type 0
Ahead t n r = (t.asked ≡ r.asked) × Toward t.count n r.count

ahead-first : (t r : Tallied) → t ≡ r → Ahead t 0 r
ahead-first t r e = (ap (λ (x : Tallied). x.asked) e, toward-first t.count r.count (ap (λ (x : Tallied). x.count) e))

ahead_more : (t r p : Tallied) (f : List ℕ → Tallied) (n b m : ℕ) → Ahead t n r → r ≡ and_tally p f → b ≡ min p.count 65535 → m ≡ min (n + b) 65535 → Ahead t m (f p.asked)
ahead_more t r p f n b m (a, h) e q d =
    (a ∙ ap (λ (x : Tallied). x.asked) e, toward-more t.count n r.count p.count (f p.asked).count b m h (ap (λ (x : Tallied). x.count) e) q d)

ahead-all : (t r : Tallied) (n : ℕ) (A : List ℕ) → Ahead t n r → r ≡ tallied 0 A → (A ≡ t.asked) × (n ≡ min t.count 65535)
ahead-all t r n A (a, h) e = (sym (a ∙ ap (λ (x : Tallied). x.asked) e), toward-all t.count n r.count h (ap (λ (x : Tallied). x.count) e))

-- ---- a thread, of the `@` in row u with the word w

module _ (c : Counts) (u w thread place key : ℕ) (A : List ℕ) (d : w ≡ get_or c.table u 0) (e : thread ≡ part2 w) (f : place ≡ get_or c.places thread 0)
    (g : key ≡ key_in place % 256) where
  the-thread : thread ≡ thread_of c u
  the-thread = e ∙ ap part2 d

  the-key : key ≡ key_of c (thread_of c u)
  the-key = g ∙ ap (λ (x : ℕ). key_in x % 256) f ∙ ap (key_of c) the-thread

  pub asked-before : (get_or A key 0 ≡ 0 → ⊥) → tallied 0 A ≡ ask_thread c u A
  asked-before z =
      sym (left (eqb (get_or A (key_of c (thread_of c u)) 0) 0) _ (tallied 0 A) (ap (λ (k : ℕ). eqb (get_or A k 0) 0) (sym the-key) ∙ ne_eqb (get_or A key 0) 0 z))

  pub asked-now : get_or A key 0 ≡ 0 → (n v : ℕ) → v ≡ get_or c.costs thread 0 → n ≡ count_in v → tallied n (set A key 1) ≡ ask_thread c u A
  asked-now z n v p q =
      ap (λ (x : ℕ). tallied x (set A key 1)) (q ∙ ap count_in p ∙ ap (λ (r : ℕ). count_in (get_or c.costs r 0)) the-thread)
      ∙ ap (λ (k : ℕ). tallied (count_in (get_or c.costs (thread_of c u) 0)) (set A k 1)) the-key
      ∙ sym (taken (eqb (get_or A (key_of c (thread_of c u)) 0) 0) _ (tallied 0 A) (ap (λ (k : ℕ). eqb (get_or A k 0) 0) (sym the-key) ∙ eq-eqb (get_or A key 0) 0 z))

pub thread-few : (c : Counts) (u n : ℕ) (A B : List ℕ) → tallied n B ≡ ask_thread c u A → n ≤ 65535
thread-few c u n A B e = by (eqb (get_or A (key_of c (thread_of c u)) 0) 0) (ap (λ (x : Tallied). x.count) e)
  where
    by : (b : Bool) → n ≡ (cond b (tallied (count_in (get_or c.costs (thread_of c u) 0)) (set A (key_of c (thread_of c u)) 1)) (tallied 0 A)).count → n ≤ 65535
    by true d = omega (arith, d)
    by false d = omega (arith, d)

-- ---- the threads of a chain

-- n is told, and the chain is to come: k bounds it
abbrev pub Chained : Counts → (whole : Tallied) → (n chain : ℕ) → List ℕ → Type 0
Chained c t n i A = (k : ℕ) × (i ≤ k) × Ahead t n (ask_threads c k i A)

pub chain_first : (c : Counts) (i : ℕ) (A : List ℕ) → Chained c (ask_threads c i i A) 0 i A
chain_first c i A = (i, omega arith, ahead-first _ _ refl)

module _ (c : Counts) (t : Tallied) (n i : ℕ) (A : List ℕ) where
  pub chain-few : Chained c t n i A → n ≤ 65535
  chain-few (k, h, a) = a.1.0

  pub chain-end : i ≤ 0 → Chained c t n i A → (A ≡ t.asked) × (n ≡ min t.count 65535)
  unfolding ask_threads
  chain-end z (zero, h, a) = ahead-all t (ask_threads c zero i A) n A a refl
  chain-end z (suc k, h, a) = ahead-all t (ask_threads c (suc k) i A) n A a (taken (eqb i 0) (tallied 0 A) _ (eq-eqb i 0 (omega (arith, z))))

  -- the next thread touches a; B are asked then
  module _ (a m place next : ℕ) (B : List ℕ) (l : 0 < i) (q : tallied a B ≡ ask_thread c (i - 1) A) (d : m ≡ min (n + a) 65535)
      (f : place ≡ get_or c.places (i - 1) 0) (g : next ≡ part2 place) where
    the-next : next ≡ next_of c i
    the-next = g ∙ ap part2 f

    abbrev rest : (k : ℕ) → List ℕ → Tallied
    rest k S = cond (ltb (next_of c i) i) (ask_threads c k (next_of c i) S) (tallied 0 S)

    chain_more : (k : ℕ) → Ahead t n (ask_threads c (suc k) i A) → Ahead t m (rest k B)
    unfolding ask_threads
    chain_more k h =
        let s = thread-few c (i - 1) a A B q in
        ahead_more t (ask_threads c (suc k) i A) (tallied a B) (rest k) n a m h
        (left (eqb i 0) (tallied 0 A) _ (ne_eqb i 0 (λ z. omega (arith, z, l))) ∙ ap (λ (x : Tallied). and_tally x (rest k)) (sym q)) (omega (arith, s)) d

    pub chain_next : next < i → Chained c t n i A → Chained c t m next B
    chain_next h (zero, b, x) = absurd (omega (arith, b, l))
    chain_next h (suc k, b, x) =
        let goes = taken (ltb (next_of c i) i) (ask_threads c k (next_of c i) B) (tallied 0 B) (lt-ltb (next_of c i) i (omega (arith, the-next, h))) in
        (k, omega (arith, h, b), subst (Ahead t m) (goes ∙ ap (λ (j : ℕ). ask_threads c k j B) (sym the-next)) (chain_more k x))

    pub chain-cut : i ≤ next → Chained c t n i A → (B ≡ t.asked) × (m ≡ min t.count 65535)
    chain-cut h (zero, b, x) = absurd (omega (arith, b, l))
    chain-cut h (suc k, b, x) =
        ahead-all t (rest k B) m B (chain_more k x) (left (ltb (next_of c i) i) _ (tallied 0 B) (le-ltb (next_of c i) i (omega (arith, the-next, h))))

-- ---- a letter, whose row r has this place: x is touched in its own thread, and n in those of the chain

module _ (c : Counts) (l r place key chain x n m : ℕ) (A B : List ℕ) (d : r ≡ get_or c.letters l 0) (e : place ≡ get_or c.places r 0) (f : key ≡ key_in place % 256)
    (g : chain ≡ part2 place) (h : (B ≡ (ask_threads c chain chain A).asked) × (n ≡ min (ask_threads c chain chain A).count 65535)) (q : m ≡ min (x + n) 65535) where
  the-place : place ≡ place_of c l
  the-place = e ∙ ap (λ (i : ℕ). get_or c.places i 0) d

  the-chain : chain ≡ part2 (place_of c l)
  the-chain = g ∙ ap part2 the-place

  seen : eqb (get_or A key 0) 0 ≡ eqb (get_or A (key_in (place_of c l) % 256) 0) 0
  seen = ap (λ (k : ℕ). eqb (get_or A k 0) 0) (f ∙ ap (λ (p : ℕ). key_in p % 256) the-place)

  letter-touched : x ≡ cond (eqb (get_or A key 0) 0) (part0 place) (part1 place) → (B ≡ (touch_letter c l A).asked) × (m ≡ min (touch_letter c l A).count 65535)
  unfolding touch_letter
  letter-touched z =
      let y = z ∙ ap₂ (λ (s : Bool) (p : ℕ). cond s (part0 p) (part1 p)) seen the-place in
      (h.0 ∙ ap (λ (i : ℕ). (ask_threads c i i A).asked) the-chain, told _ _ y (h.1 ∙ ap (λ (i : ℕ). min (ask_threads c i i A).count 65535) the-chain))
    where
      told : (y r : ℕ) → x ≡ y → n ≡ min r 65535 → m ≡ min (y + r) 65535
      told y r u v = omega (arith, q, u, v)

  pub letter-behind : (get_or A key 0 ≡ 0 → ⊥) → x ≡ part1 place → (B ≡ (touch_letter c l A).asked) × (m ≡ min (touch_letter c l A).count 65535)
  letter-behind z y = letter-touched (y ∙ sym (left (eqb (get_or A key 0) 0) (part0 place) (part1 place) (ne_eqb (get_or A key 0) 0 z)))

  pub letter-alone : get_or A key 0 ≡ 0 → x ≡ part0 place → (B ≡ (touch_letter c l A).asked) × (m ≡ min (touch_letter c l A).count 65535)
  letter-alone z y = letter-touched (y ∙ sym (taken (eqb (get_or A key 0) 0) (part0 place) (part1 place) (eq-eqb (get_or A key 0) 0 z)))

-- ---- letters that are marked

module _ (c : Counts) (K : List ℕ) where
  idle-touch : (A : List ℕ) (n l : ℕ) → get_or K l 0 ≡ 0 → touch_marked c K (suc n) l A ≡ touch_marked c K n (suc l) A
  unfolding touch_marked
  idle-touch A n l z =
      let d : 0 + (touch_marked c K n (suc l) A).count ≡ (touch_marked c K n (suc l) A).count = omega arith in
      ap (λ (x : Tallied). and_tally x (touch_marked c K n (suc l))) (taken (eqb (get_or K l 0) 0) (tallied 0 A) (touch_letter c l A) (eq-eqb (get_or K l 0) 0 z))
      ∙ ap (λ (x : ℕ). tallied x (touch_marked c K n (suc l) A).asked) d

  touch-first : (A : List ℕ) (to i j : ℕ) → j ≡ first_marked K (to - i) i → touch_marked c K (to - i) i A ≡ touch_marked c K (to - j) j A
  touch-first A = to-first K (λ n l. touch_marked c K n l A) (idle-touch A)

  -- n is told, and letter i is to come: it is marked
  abbrev pub Marked : (whole : Tallied) → (to n i : ℕ) → List ℕ → Type 0
  Marked t to n i A = (i < to → get_or K i 0 ≡ 0 → ⊥) × Ahead t n (touch_marked c K (to - i) i A)

  pub marked-first : (to j : ℕ) (A : List ℕ) → j ≡ first_marked K (to - 0) 0 → Marked (touch_marked c K to 0 A) to 0 j A
  marked-first to j A e =
      let d : to ≡ to - 0 = omega arith in
      (at_first K to 0 j e, ahead-first _ _ (ap (λ (n : ℕ). touch_marked c K n 0 A) d ∙ touch-first A to 0 j e))

  module _ (t : Tallied) (to n i : ℕ) (A : List ℕ) where
    pub marked-few : Marked t to n i A → n ≤ 65535
    marked-few (f, a) = a.1.0

    pub marked_all : to ≤ i → Marked t to n i A → n ≡ min t.count 65535
    unfolding touch_marked
    marked_all h (f, a) =
        let d : to - i ≡ 0 = omega (arith, h) in
        (ahead-all t (touch_marked c K (to - i) i A) n A a (ap (λ (k : ℕ). touch_marked c K k i A) d)).1

    module _ (h : i < to) (y : Marked t to n i A) where
      letter-met : touch_marked c K (to - i) i A ≡ and_tally (touch_letter c i A) (touch_marked c K (to - (i + 1)) (i + 1))
      unfolding touch_marked
      letter-met =
          let s : to - i ≡ suc (to - (i + 1)) = omega (arith, h) in
          let w : suc i ≡ i + 1 = omega arith in
          ap (λ (k : ℕ). touch_marked c K k i A) s ∙ ap (λ (k : ℕ). and_tally (touch_if c K i A) (touch_marked c K (to - (i + 1)) k)) w
          ∙ ap (λ (x : Tallied). and_tally x (touch_marked c K (to - (i + 1)) (i + 1))) (left (eqb (get_or K i 0) 0) (tallied 0 A) (touch_letter c i A) (ne_eqb (get_or K i 0) 0 (y.0 h)))

      pub marked_next : (B : List ℕ) (b m j : ℕ) → (B ≡ (touch_letter c i A).asked) × (b ≡ min (touch_letter c i A).count 65535)
          → m ≡ min (n + b) 65535 → j ≡ first_marked K (to - (i + 1)) (i + 1) → Marked t to m j B
      marked_next B b m j (p, q) d e =
          let a = ahead_more t (touch_marked c K (to - i) i A) (touch_letter c i A) (touch_marked c K (to - (i + 1)) (i + 1)) n b m y.1 letter-met q d in
          (at_first K to (i + 1) j e, subst (Ahead t m) (ap (touch_marked c K (to - (i + 1)) (i + 1)) (sym p) ∙ touch-first B to (i + 1) j e) a)

-- ---- monitors that are at their start

module _ (c : Counts) (O K : List ℕ) where
  pub starts_first : (n : ℕ) → Toward (touch_starts c O K n 0) 0 (touch_starts c O K (n - 0) 0)
  starts_first n = toward-first _ _ (let e : n ≡ n - 0 = omega arith in ap (λ (k : ℕ). touch_starts c O K k 0) e)

  module _ (i : ℕ) where
    pub not-at-start : get_or K (256 + i) 0 ≡ 0 → 0 ≡ touch_starts c O K 1 i
    unfolding touch_starts
    not-at-start z = let e = taken (eqb (get_or K (256 + i) 0) 0) 0 (count_in (get_or c.costs (get_or O i 0) 0)) (eq-eqb (get_or K (256 + i) 0) 0 z) in omega (arith, e)

    pub at_start : (get_or K (256 + i) 0 ≡ 0 → ⊥) → (r w n : ℕ) → r ≡ get_or O i 0 → w ≡ get_or c.costs r 0 → n ≡ count_in w → n ≡ touch_starts c O K 1 i
    unfolding touch_starts
    at_start f r w n p q s =
        let d = s ∙ ap count_in q ∙ ap (λ (k : ℕ). count_in (get_or c.costs k 0)) p in
        let e = left (eqb (get_or K (256 + i) 0) 0) 0 (count_in (get_or c.costs (get_or O i 0) 0)) (ne_eqb (get_or K (256 + i) 0) 0 f) in
        omega (arith, e, d)

    pub start-few : (n : ℕ) → n ≡ touch_starts c O K 1 i → n ≤ 65535
    unfolding touch_starts
    start-few n = by (eqb (get_or K (256 + i) 0) 0)
      where
        by : (b : Bool) → n ≡ cond b 0 (count_in (get_or c.costs (get_or O i 0) 0)) + 0 → n ≤ 65535
        by true e = omega (arith, e)
        by false e = omega (arith, e)

    -- of `to` monitors
    module _ (t to n : ℕ) (h : Toward t n (touch_starts c O K (to - i) i)) where
      pub starts-next : (b m : ℕ) → i < to → b ≡ touch_starts c O K 1 i → m ≡ min (n + b) 65535 → Toward t m (touch_starts c O K (to - (i + 1)) (i + 1))
      unfolding touch_starts
      starts-next b m l e d =
          let s : to - i ≡ suc (to - (i + 1)) = omega (arith, l) in
          let w : suc i ≡ i + 1 = omega arith in
          let f = start-few b e in
          toward-more t n (touch_starts c O K (to - i) i) b (touch_starts c O K (to - (i + 1)) (i + 1)) b m h
          (ap (λ (k : ℕ). touch_starts c O K k i) s ∙ ap (λ (k : ℕ). cond (eqb (get_or K (256 + i) 0) 0) 0 (count_in (get_or c.costs (get_or O i 0) 0)) + touch_starts c O K (to - (i + 1)) k) w
          ∙ omega (arith, e))
          (omega (arith, f)) d

      pub starts-all : to ≤ i → n ≡ min t 65535
      unfolding touch_starts
      starts-all l =
          let d : to - i ≡ 0 = omega (arith, l) in
          toward-all t n (touch_starts c O K (to - i) i) h (ap (λ (k : ℕ). touch_starts c O K k i) d)

-- ---- a tick

pub both-touched : (c : Counts) (O K : List ℕ) (m l i j a b n : ℕ) → i ≡ min m 32 → j ≡ min l 256 → a ≡ min (touch_starts c O K i 0) 65535
    → b ≡ min (touch_marked c K j 0 (replicate 256 0)).count 65535 → n ≡ min (a + b) 65535 → n ≡ min (touched_of c O K m l) 65535
unfolding touched_of
both-touched c O K m l i j a b n p q d e f =
    sum_told a b _ _ n (d ∙ ap (λ (k : ℕ). min (touch_starts c O K k 0) 65535) p) (e ∙ ap (λ (k : ℕ). min (touch_marked c K k 0 (replicate 256 0)).count 65535) q) f
