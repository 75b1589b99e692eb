-- The costs and the places that the code lays out for the rows of an accepted text are those of the parts of its expressions (meaning's Counting): no word cuts them, where every letter met alone
-- touches at most 65,535 rows (`Bounded`), which is asked for. Assumes nothing.
use mathlib.Core.Path.{◌≡◌, refl, sym, ap, ◌∙◌, subst}
use mathlib.Core.Bool.{Bool, true, false, not, cond, ◌&&◌, ◌||◌}
use mathlib.Core.List.{List, [], ◌∷◌, ◌++◌}
use Prim.Native.Nat.{ℕ, zero, suc, ◌+◌, ◌-◌, ◌*◌, ◌/◌, ◌%◌, ◌<◌, ◌≤◌, min}
use native.Mathlib.Omega.{arith}
use native.Mathlib.Nat.{mod-eq_of_lt}
use borrow.Author.Tests.{eqb-true, eqb-false, eq-eqb, ne_eqb, lt-ltb}
use lib.Dec.{T, eqb, eqb→eq, eqb_refl}
use lib.ListN.{length, get_or, set, length-set, length-replicate}
use lib.Seq.{get_or-set_same, get_or-set_other}
use Rattle.meaning.specs.Lists.{◌∈◌, total}
use Rattle.meaning.specs.Answers.{value}
use Rattle.meaning.specs.Expression.{Exp, letter, seq, alt, star, pipe, letters, size, rows, Ordered}
use Rattle.meaning.specs.Shape.{nullable, last}
use Rattle.meaning.specs.Positions.{has}
use Rattle.meaning.specs.Opening.{Opened}
use Rattle.meaning.specs.Table.{Row, Table, Holds, laid, laid_all, no_row}
use Rattle.meaning.proofs.ListLaws.{here, there, and_T, T-or-left, is_true, is_false, any-to}
use Rattle.meaning.proofs.Numbering.{between}
use Rattle.meaning.proofs.Threads.{among-left, among-right}
use Rattle.meaning.proofs.Walk.{a-row}
use Rattle.meaning.proofs.Rows.{Stands, laid-length}
use Rattle.meaning.proofs.Counting.{one, asked_count, Place, fresh, left_of_seq, right_of_seq, side_of_alt, body_of_star, left_of_pipe, thread_place, own_place, starts, sums}
use Rattle.words.specs.Words.{quad, part0, part1, part2, part3}
use Rattle.words.proofs.Quads.{quad-0, quad-1, quad-2, quad-3}
use Rattle.rules.specs.Watches.{watch_of}
use Rattle.counts.specs.Counts.{cost, count_in, nullable_in, seq_cost, alt_cost, cost_of, row_cost, costs_down, costs_of}
use Rattle.counts.specs.Counts.{operand_place, sibling, row_place, own_of_monitor, own_of_thread, only_operand, letters_before, places_up}
use Rattle.counts.specs.Counts.{left_of_seq as left_word, right_of_seq as right_word, body_of_star as body_word}
use Rattle.monitor.proofs.Stored.{stands_self, front, rear}
use Rattle.monitor.proofs.Numbered.{program_of, InOrder}
use Rattle.monitor.proofs.RowWords.{word_of, kind-is, left_is, right_is, up_is}
use Rattle.monitor.proofs.LetterRows.{HeldAll}
use Rattle.monitor.proofs.Shut.{two-laid}
use Rattle.monitor.proofs.Program.{Counted, table_of, in_order, program-rows, program-letters, program-held, words_right, rows-counted}

-- ---- what stands for a row, and for an expression's rows

-- the cost x is that of e
abbrev pub CostIs : (x : ℕ) → Exp → Type 0
CostIs x e = (count_in x ≡ asked_count e) × (nullable_in x ≡ nullable e)

-- the cost x and the place p are those of e, whose place is c, its chain n and its key q
pub record RowStored (x p : ℕ) (c : Place) (n q : ℕ) (e : Exp) : Type 0 where
  pub count : count_in x ≡ asked_count e
  pub null : nullable_in x ≡ nullable e
  pub whole : part0 p ≡ c.whole
  pub rest : part1 p ≡ c.rest
  pub chain : part2 p ≡ n
  pub key : part3 p ≡ 2 * q + cond c.begins 1 0

-- in the table t, the costs cs, the places ps and the letters' rows L
module _ (t cs ps L : List ℕ) where
  -- for e, from row r on, its letters numbered from k on
  abbrev pub Stored : (r k : ℕ) → Place → (n q : ℕ) → Exp → Type 0
  Stored r k c n q (letter l) = RowStored (get_or cs r 0) (get_or ps r 0) c n q (letter l) × (get_or L k 0 ≡ r)
  Stored r k c n q (seq e f) =
      RowStored (get_or cs r 0) (get_or ps r 0) c n q (seq e f) × Stored (suc r) k (left_of_seq e f c) (cond (nullable f) n 0) q e
      × Stored (suc r + rows e) (k + size e) (right_of_seq e f c) n q f
  Stored r k c n q (alt e f) =
      RowStored (get_or cs r 0) (get_or ps r 0) c n q (alt e f) × Stored (suc r) k (side_of_alt e c) n q e × Stored (suc r + rows e) (k + size e) (side_of_alt f c) n q f
  Stored r k c n q (star e) = RowStored (get_or cs r 0) (get_or ps r 0) c n q (star e) × Stored (suc r) k (body_of_star e c) n q e
  Stored r k c n q (pipe e f) =
      RowStored (get_or cs r 0) (get_or ps r 0) c n q (pipe e f) × (part2 (get_or t r 0) ≡ suc r + rows e) × Stored (suc r) k (left_of_pipe e c) (suc r) q e
      × Stored (suc r + rows e) (k + size e) (thread_place f) 0 (k + size e) f

  -- for monitors, one behind the other
  abbrev pub StoredAll : (r k : ℕ) → List Exp → Type 0
  StoredAll r k [] = Unit {0}
  StoredAll r k (m ∷ ms) = Stored r k (own_place m) 0 0 m × StoredAll (r + rows m) (k + size m) ms

-- ---- no number is cut

-- where one letter of e is met, and e's thread is not asked, 65,535 rows are touched at most
abbrev pub Bounded : Exp → Place → Type 0
Bounded e c = (n : ℕ) → T (has n e) → sums (λ k. eqb k n) e c false ≤ 65535

-- of the operands
bounded-seq : (e f : Exp) (c : Place) → Bounded (seq e f) c → Bounded e (left_of_seq e f c) × Bounded f (right_of_seq e f c)
unfolding sums letters
bounded-seq e f c b = (λ n h. omega (arith, b n (among-left (letters e) (letters f) n h)), λ n h. omega (arith, b n (among-right (letters e) (letters f) n h)))

bounded-alt : (e f : Exp) (c : Place) → Bounded (alt e f) c → Bounded e (side_of_alt e c) × Bounded f (side_of_alt f c)
unfolding sums letters
bounded-alt e f c b = (λ n h. omega (arith, b n (among-left (letters e) (letters f) n h)), λ n h. omega (arith, b n (among-right (letters e) (letters f) n h)))

bounded-star : (e : Exp) (c : Place) → Bounded (star e) c → Bounded e (body_of_star e c)
unfolding sums letters
bounded-star e c b = b

bounded-pipe : (e f : Exp) (c : Place) → Bounded (pipe e f) c → Bounded e (left_of_pipe e c)
unfolding sums letters
bounded-pipe e f c b n h = omega (arith, b n (among-left (letters e) (letters f) n h))

-- a letter behind those of e does not start the thread behind e
not-started : (k n : ℕ) (e f : Exp) → Ordered k e → Ordered (k + size e) f → T (has n f) → starts (λ i. eqb i n) e ≡ false
not-started k n e f o u h = is_false (starts (λ i. eqb i n) e) (λ s.
    let (x, i, v) = any-to (λ x. eqb x.number n && last x.number e) (letters e) s in
    let (y, j, w) = any-to (λ l. eqb n l.number) (letters f) h in
    omega (arith, eqb→eq x.number n (and_T (eqb x.number n) (last x.number e) v).0, eqb→eq n y.number w, (between k e o x i).1, (between (k + size e) f u y j).0))

-- so the thread is bounded where it is not asked
bounded-thread : (k : ℕ) (e f : Exp) (c : Place) → Ordered k e → Ordered (k + size e) f → Bounded (pipe e f) c → Bounded f (thread_place f)
unfolding sums letters
bounded-thread k e f c o u b n h =
    let act : ℕ → Bool = λ i. eqb i n in
    let a = subst (λ (s : Bool). sums act e (left_of_pipe e c) false + (cond s (asked_count f) 0 + sums act f (thread_place f) s) ≤ 65535) (not-started k n e f o u h)
    (b n (among-right (letters e) (letters f) n h)) in
    omega (arith, a)

-- its last letter alone touches what leaving e does
whole-bounded : (e : Exp) (c : Place) → Bounded e c → c.whole ≤ 65535
unfolding sums letters
whole-bounded (letter l) c b =
    let t = eqb_refl l.number in
    let a = b l.number (T-or-left (eqb l.number l.number) false t) in
    subst (λ (s : Bool). cond s c.whole 0 ≤ 65535) (is_true (eqb l.number l.number) t) a
whole-bounded (seq e f) c b = let h = whole-bounded f (right_of_seq e f c) (bounded-seq e f c b).1 in omega (arith, h)
whole-bounded (alt e f) c b = let h = whole-bounded f (side_of_alt f c) (bounded-alt e f c b).1 in omega (arith, h)
whole-bounded (star e) c b = let h = whole-bounded e (body_of_star e c) (bounded-star e c b) in omega (arith, h)
whole-bounded (pipe e f) c b = let h = whole-bounded e (left_of_pipe e c) (bounded-pipe e f c b) in omega (arith, h)

-- and what a row holds is low: the rest is not more than the whole
abbrev Low : (c : Place) → (n q : ℕ) → Exp → Type 0
Low c n q e = Bounded e c × (c.rest ≤ c.whole) × (n ≤ 1024) × (q ≤ 256)

-- the numbers that places are made of
fresh-low : (a b : Bool) → fresh a b ≤ 1
fresh-low true true = omega arith
fresh-low true false = omega arith
fresh-low false b = omega arith

cond-low : (b : Bool) (x y : ℕ) → x ≤ y → cond b x 0 ≤ cond b y 0
cond-low true x y h = h
cond-low false x y h = omega arith

unless-low : (b : Bool) (x : ℕ) → cond b 0 x ≤ x
unless-low true x = omega arith
unless-low false x = omega arith

-- so do the operands' rows
low-seq : (c : Place) (n q : ℕ) (e f : Exp) → Low c n q (seq e f) → Low (left_of_seq e f c) (cond (nullable f) n 0) q e × Low (right_of_seq e f c) n q f
low-seq c n q e f (b, l, h, k) =
    let (x, y) = bounded-seq e f c b in (
      (
        x,
        omega (arith, fresh-low c.begins (nullable e), unless-low (c.begins && nullable e) (asked_count f), cond-low (nullable f) c.rest c.whole l),
        by (nullable f),
        k,
      ),
      (y, omega (arith, fresh-low (c.begins && nullable e) (nullable f), l), h, k),
    )
  where
    by : (b : Bool) → cond b n 0 ≤ 1024
    by true = h
    by false = omega arith

low-alt : (c : Place) (n q : ℕ) (e f : Exp) → Low c n q (alt e f) → Low (side_of_alt e c) n q e × Low (side_of_alt f c) n q f
low-alt c n q e f (b, l, h, k) =
    let (x, y) = bounded-alt e f c b in
    ((x, omega (arith, fresh-low c.begins (nullable e), l), h, k), (y, omega (arith, fresh-low c.begins (nullable f), l), h, k))

low-star : (c : Place) (n q : ℕ) (e : Exp) → Low c n q (star e) → Low (body_of_star e c) n q e
low-star c n q e (b, l, h, k) = (bounded-star e c b, omega (arith, fresh-low c.begins (nullable e), unless-low c.begins (asked_count e), l), h, k)

low-pipe : (c : Place) (n q k r : ℕ) (e f : Exp) → Ordered k e → Ordered (k + size e) f → r < 1024 → k + size e ≤ 256 → Low c n q (pipe e f)
    → Low (left_of_pipe e c) (suc r) q e × Low (thread_place f) 0 (k + size e) f
low-pipe c n q k r e f o u g i (b, l, h, j) = (
  (bounded-pipe e f c b, omega (arith, fresh-low c.begins (nullable e), l), g, j),
  (bounded-thread k e f c o u b, fresh-low true (nullable f), omega arith, i),
)

-- ---- costs, as numbers

one-low : (b : Bool) → one b ≤ 1
one-low true = omega arith
one-low false = omega arith

only-low : (b : Bool) (x : ℕ) → cond b x 0 ≤ x
only-low true x = omega arith
only-low false x = omega arith

-- asking a row is a touch, and leaving it at once another
few-asked : (e : Exp) → asked_count e ≤ 2 * rows e
unfolding asked_count rows
few-asked (letter l) = omega arith
few-asked (seq e f) = omega (arith, few-asked e, few-asked f, one-low (nullable e && nullable f), only-low (nullable e) (asked_count f))
few-asked (alt e f) = omega (arith, few-asked e, few-asked f, one-low (nullable e || nullable f))
few-asked (star e) = omega (arith, few-asked e)
few-asked (pipe e f) = omega (arith, few-asked e)

-- a cost is what it was made of
cost-parts : (x : ℕ) (b : Bool) → x < 32767 → (count_in (cost x b) ≡ x) × (nullable_in (cost x b) ≡ b)
cost-parts x b h = let e : cost x b % 65536 ≡ cost x b = mod-eq_of_lt (omega (arith, one-low b, h)) in rw e (by b)
  where
    by : (b : Bool) → (cost x b / 2 ≡ x) × (not (eqb (cost x b % 2) 0) ≡ b)
    by true = let e : (2 * x + 1) % 2 ≡ 1 = omega arith in (omega arith, rw e refl)
    by false = let e : (2 * x + 0) % 2 ≡ 0 = omega arith in (omega arith, rw e refl)

-- of an operator, by those of its operands
seq-cost : (x y : ℕ) (e f : Exp) → CostIs x e → CostIs y f → asked_count (seq e f) < 32767 → CostIs (seq_cost x y) (seq e f)
unfolding asked_count nullable
seq-cost x y e f (a, b) (c, d) h = rw (a, b, c, d) (by (nullable e) (nullable f) (asked_count e) (asked_count f) h)
  where
    by : (a b : Bool) (x y : ℕ) → 1 + one (a && b) + x + cond a y 0 < 32767
        → let z = cond a (cond b (cost (2 + x + y) true) (cost (1 + x + y) false)) (cost (1 + x) false) in (count_in z ≡ 1 + one (a && b) + x + cond a y 0) × (nullable_in z ≡ (a && b))
    by true true x y h = let (p, q) = cost-parts (2 + x + y) true (omega (arith, h)) in (p ∙ omega arith, q)
    by true false x y h = let (p, q) = cost-parts (1 + x + y) false (omega (arith, h)) in (p ∙ omega arith, q)
    by false b x y h = let (p, q) = cost-parts (1 + x) false (omega (arith, h)) in (p ∙ omega arith, q)

alt-cost : (x y : ℕ) (e f : Exp) → CostIs x e → CostIs y f → asked_count (alt e f) < 32767 → CostIs (alt_cost x y) (alt e f)
unfolding asked_count nullable
alt-cost x y e f (a, b) (c, d) h = rw (a, b, c, d) (by (nullable e) (nullable f) (asked_count e) (asked_count f) h)
  where
    by : (a b : Bool) (x y : ℕ) → 1 + one (a || b) + x + y < 32767
        → let z = cond a (cost (2 + x + y) true) (cond b (cost (2 + x + y) true) (cost (1 + x + y) false)) in (count_in z ≡ 1 + one (a || b) + x + y) × (nullable_in z ≡ (a || b))
    by true b x y h = let (p, q) = cost-parts (2 + x + y) true (omega (arith, h)) in (p ∙ omega arith, q)
    by false true x y h = let (p, q) = cost-parts (2 + x + y) true (omega (arith, h)) in (p ∙ omega arith, q)
    by false false x y h = let (p, q) = cost-parts (1 + x + y) false (omega (arith, h)) in (p ∙ omega arith, q)

-- ---- the costs that are stored, from the last row to the first

module _ (t : List ℕ) (n : ℕ) where
  costs-long : (k : ℕ) → length (costs_down t n k) ≡ 1024
  unfolding costs_down
  costs-long zero = length-replicate {A = ℕ} 1024 0
  costs-long (suc k) = length-set (costs_down t n k) (n - suc k) (row_cost t (costs_down t n k) (n - suc k)) ∙ costs-long k

  -- once it is stored it stays
  costs-hold : (k j r : ℕ) → k + j ≤ n → n ≤ r + k → get_or (costs_down t n (k + j)) r 0 ≡ get_or (costs_down t n k) r 0
  unfolding costs_down
  costs-hold k zero r h l = let e : k + 0 ≡ k = omega arith in ap (λ (m : ℕ). get_or (costs_down t n m) r 0) e
  costs-hold k (suc j) r h l =
      let e : k + suc j ≡ suc (k + j) = omega arith in
      ap (λ (m : ℕ). get_or (costs_down t n m) r 0) e
      ∙ get_or-set_other (costs_down t n (k + j)) (n - suc (k + j)) r (row_cost t (costs_down t n (k + j)) (n - suc (k + j))) 0 (λ e. omega (arith, e, h, l))
      ∙ costs-hold k j r (omega (arith, h)) l

  module _ (few : n ≤ 1024) (r : ℕ) (h : r < n) where
    -- when row r is done, those behind it are
    behind : (i : ℕ) → r < i → get_or (costs_down t n (n - suc r)) i 0 ≡ get_or (costs_down t n n) i 0
    behind i l =
        let e : n - suc r + suc r ≡ n = omega (arith, h) in
        sym (costs-hold (n - suc r) (suc r) i (omega (arith, h)) (omega (arith, h, l))) ∙ ap (λ (m : ℕ). get_or (costs_down t n m) i 0) e

    -- and its own is stored then
    cost-at : get_or (costs_down t n n) r 0 ≡ row_cost t (costs_down t n (n - suc r)) r
    unfolding costs_down
    cost-at =
        let k = n - suc r in
        let C = costs_down t n k in
        let e : n ≡ suc k + r = omega (arith, h) in
        let d : n - suc k ≡ r = omega (arith, h) in
        ap (λ (m : ℕ). get_or (costs_down t n m) r 0) e ∙ costs-hold (suc k) r r (omega (arith, h)) (omega (arith, h))
        ∙ ap (λ (i : ℕ). get_or (set C i (row_cost t C i)) r 0) d ∙ get_or-set_same C r (row_cost t C r) 0 (omega (arith, costs-long k, few, h))

-- ---- the places that are stored, from the first row to the last

module _ (t cs : List ℕ) where
  abbrev place_at : ℕ → ℕ
  place_at r = row_place t cs (places_up t cs r) (letters_before t r) r

  places-long : (n : ℕ) → length (places_up t cs n) ≡ 1024
  unfolding places_up
  places-long zero = length-replicate {A = ℕ} 1024 0
  places-long (suc n) = length-set (places_up t cs n) n (place_at n) ∙ places-long n

  -- once it is stored it stays
  places-hold : (n r : ℕ) → n ≤ 1024 → r < n → get_or (places_up t cs n) r 0 ≡ place_at r
  unfolding places_up
  places-hold zero r h l = absurd (omega (arith, l))
  places-hold (suc n) r h l = by (eqb r n) refl (places-hold n r (omega (arith, h)))
    where
      by : (b : Bool) → eqb r n ≡ b → (r < n → get_or (places_up t cs n) r 0 ≡ place_at r) → get_or (set (places_up t cs n) n (place_at n)) r 0 ≡ place_at r
      by true e more =
          let q = eqb-true r n e in
          ap (λ (i : ℕ). get_or (set (places_up t cs n) n (place_at n)) i 0) q
          ∙ get_or-set_same (places_up t cs n) n (place_at n) 0 (omega (arith, places-long n, h)) ∙ ap place_at (sym q)
      by false e more = let q = eqb-false r n e in get_or-set_other (places_up t cs n) n r (place_at n) 0 q ∙ more (omega (arith, q, l))

  module _ (n r u : ℕ) (few : n ≤ 1024) (h : r < n) (a : part3 (get_or t r 0) ≡ u) where
    -- row u is above row r
    place-below : u < r → get_or (places_up t cs n) r 0
        ≡ operand_place (get_or t u 0) (get_or (places_up t cs n) u 0) (get_or cs r 0) (get_or cs (sibling (get_or t u 0) r) 0) u r (letters_before t r)
    place-below l =
        places-hold n r few h ∙ rw (a, ne_eqb u r (λ e. omega (arith, e, l)), lt-ltb u r l)
        (ap (λ (p : ℕ). operand_place (get_or t u 0) p (get_or cs r 0) (get_or cs (sibling (get_or t u 0) r) 0) u r (letters_before t r))
        (places-hold r u (omega (arith, few, h)) l ∙ sym (places-hold n u few (omega (arith, l, h)))))

    -- it is a monitor's own
    place-own : u ≡ r → get_or (places_up t cs n) r 0 ≡ own_of_monitor (get_or cs r 0)
    place-own e = places-hold n r few h ∙ rw (a, eq-eqb u r e) refl

-- ---- what these words hold

-- a word of four low numbers has them
row-stored : (x a b m g : ℕ) (c : Place) (n q : ℕ) (e : Exp) → CostIs x e → a ≡ c.whole → b ≡ c.rest → m ≡ n → g ≡ 2 * q + cond c.begins 1 0 → Low c n q e
    → RowStored x (quad a b m g) c n q e
row-stored x a b m g c n q e (u, v) aw br mn gq (i, l, h, k) =
    let w = whole-bounded e c i in
    let z = one-low c.begins in
    record {
      count = u;
      null = v;
      whole = quad-0 a b m g (omega (arith, aw, w)) ∙ aw;
      rest = quad-1 a b m g (omega (arith, br, l, w)) ∙ br;
      chain = quad-2 a b m g (omega (arith, mn, h)) ∙ mn;
      key = quad-3 a b m g (omega (arith, gq, k, z)) ∙ gq;
    }

-- the key of a place, and whether starting its thread asks it
key-parts : (z q : ℕ) (b : Bool) → z ≡ 2 * q + cond b 1 0 → (z / 2 ≡ q) × (not (eqb (z % 2) 0) ≡ b)
key-parts z q true h = let e : z % 2 ≡ 1 = omega (arith, h) in (omega (arith, h), rw e refl)
key-parts z q false h = let e : z % 2 ≡ 0 = omega (arith, h) in (omega (arith, h), rw e refl)

-- of the operands of a row whose place is p
module _ (y p : ℕ) (c : Place) (n q : ℕ) (g : Exp) (s : RowStored y p c n q g) where
  module _ (e f : Exp) (x z : ℕ) (u : CostIs x e) (v : CostIs z f) where
    stored-left : Low (left_of_seq e f c) (cond (nullable f) n 0) q e → RowStored x (left_word p x z) (left_of_seq e f c) (cond (nullable f) n 0) q e
    stored-left l =
        row-stored x _ _ _ _ (left_of_seq e f c) (cond (nullable f) n 0) q e u (rw (v.0, v.1, s.whole) refl)
        (rw (u.1, v.0, v.1, s.rest, (key-parts (part3 p) q c.begins s.key).1) refl) (rw (v.1, s.chain) refl) s.key l

    stored-right : Low (right_of_seq e f c) n q f → RowStored z (right_word p z x) (right_of_seq e f c) n q f
    stored-right l =
        let (i, b) = key-parts (part3 p) q c.begins s.key in
        row-stored z _ _ _ _ (right_of_seq e f c) n q f v (rw s.whole refl) (rw (u.1, v.1, s.rest, b) refl) s.chain (rw (i, b, u.1) refl) l

  module _ (e : Exp) (x : ℕ) (u : CostIs x e) where
    -- of a `||`, either one, and of an `@` the left one
    stored-only : (i m : ℕ) → i ≡ m → Low (side_of_alt e c) m q e → RowStored x (only_operand p x i) (side_of_alt e c) m q e
    stored-only i m h l = row-stored x _ _ _ _ (side_of_alt e c) m q e u (rw s.whole refl) (rw (u.1, s.rest, (key-parts (part3 p) q c.begins s.key).1) refl) h s.key l

    stored-body : Low (body_of_star e c) n q e → RowStored x (body_word p x) (body_of_star e c) n q e
    stored-body l =
        row-stored x _ _ _ _ (body_of_star e c) n q e u (rw (u.0, s.whole) refl) (rw (u.0, u.1, s.rest, (key-parts (part3 p) q c.begins s.key).1) refl) s.chain s.key l

-- of a thread, and of a monitor
stored-thread : (x k : ℕ) (f : Exp) → CostIs x f → Low (thread_place f) 0 k f → RowStored x (own_of_thread x k) (thread_place f) 0 k f
stored-thread x k f u l = row-stored x _ _ _ _ (thread_place f) 0 k f u refl (rw u.1 refl) refl refl l

stored-own : (x : ℕ) (m : Exp) → CostIs x m → Low (own_place m) 0 0 m → RowStored x (own_of_monitor x) (own_place m) 0 0 m
stored-own x m u l = row-stored x _ _ _ _ (own_place m) 0 0 m u (rw u.0 refl) (rw u.0 refl) refl refl l

-- ---- for an expression whose rows stand in the table

module _ (t : List ℕ) (R : Table) (n : ℕ) (few : n ≤ 1024) (words : (r : ℕ) → r < n → get_or t r 0 ≡ word_of (R r)) where
  abbrev costs : List ℕ
  costs = costs_down t n n

  abbrev places : List ℕ
  places = places_up t costs n

  -- an operator's row is no letter's
  operator-row : (r k left right up : ℕ) → r < n → word_of (R r) ≡ quad k left right up → 0 < k → k < 65536 → letters_before t (suc r) ≡ letters_before t r
  unfolding letters_before
  operator-row r k left right up h w z l = rw (kind-is k left right up (words r h ∙ w) l, ne_eqb k 0 (λ e. omega (arith, e, z))) (omega arith)

  -- an operator's cost, by that of its operands in rows i and j
  cost-by : (r i j : ℕ) → r < n → part1 (get_or t r 0) ≡ i → r < i → part2 (get_or t r 0) ≡ j → r < j → get_or costs r 0 ≡ cost_of (get_or t r 0) (get_or costs i 0) (get_or costs j 0)
  cost-by r i j h a l b m = cost-at t n few r h ∙ rw (a, b, behind t n few r h i l, behind t n few r h j m) refl

  -- in the next row and behind it, where F gives the cost of the kind j
  two-cost : (j r up : ℕ) (e f g : Exp) (F : ℕ → ℕ → ℕ) → j < 65536 → r + (1 + rows e + rows f) ≤ n → word_of (R r) ≡ quad j (suc r) (suc r + rows e) up
      → ((w a b : ℕ) → part0 w ≡ j → cost_of w a b ≡ F a b) → CostIs (F (get_or costs (suc r) 0) (get_or costs (suc r + rows e) 0)) g → CostIs (get_or costs r 0) g
  two-cost j r up e f g F l h w k c =
      let d : r < n = omega (arith, h) in
      let a = left_is j (suc r) (suc r + rows e) up (words r d ∙ w) (omega (arith, h, few)) in
      let b = right_is j (suc r) (suc r + rows e) up (words r d ∙ w) (omega (arith, h, few)) in
      subst (λ (x : ℕ). CostIs x g)
      (sym (cost-by r (suc r) (suc r + rows e) d a (omega arith) b (omega arith) ∙ k (get_or t r 0) _ _ (kind-is j (suc r) (suc r + rows e) up (words r d ∙ w) l))) c

  -- the cost of e
  pub costs-for : (r up : ℕ) (e : Exp) → r + rows e ≤ n → Stands R r (laid r up e) → CostIs (get_or costs r 0) e
  unfolding laid rows asked_count nullable
  costs-for r up (letter l) h s =
      let d : r < n = omega (arith, h) in
      let q : get_or costs r 0 ≡ cost 1 false = cost-at t n few r d ∙ rw (kind-is 0 (0 + l.number) 0 up (words r d ∙ ap word_of s.0) (omega arith)) refl in
      subst (λ (x : ℕ). CostIs x (letter l)) (sym q) (refl, refl)
  costs-for r up (seq e f) h s =
      let (a, b) = two-laid R r e f s.1 in
      two-cost 1 r up e f (seq e f) seq_cost (omega arith) h (ap word_of s.0) (λ w x y k. rw k refl)
      (seq-cost _ _ e f (costs-for (suc r) r e (omega (arith, h)) a) (costs-for (suc r + rows e) r f (omega (arith, h)) b) (omega (arith, few-asked (seq e f), h, few)))
  costs-for r up (alt e f) h s =
      let (a, b) = two-laid R r e f s.1 in
      two-cost 2 r up e f (alt e f) alt_cost (omega arith) h (ap word_of s.0) (λ w x y k. rw k refl)
      (alt-cost _ _ e f (costs-for (suc r) r e (omega (arith, h)) a) (costs-for (suc r + rows e) r f (omega (arith, h)) b) (omega (arith, few-asked (alt e f), h, few)))
  costs-for r up (star e) h s =
      let d : r < n = omega (arith, h) in
      let w = ap word_of s.0 in
      let u = costs-for (suc r) r e (omega (arith, h)) s.1 in
      let q : get_or costs r 0 ≡ cost (2 + asked_count e) true
      = cost-at t n few r d ∙ rw (kind-is 3 (suc r) 0 up (words r d ∙ w) (omega arith), left_is 3 (suc r) 0 up (words r d ∙ w) (omega (arith, h, few)), behind t n few r d (suc r) (omega arith), u.0) refl in
      subst (λ (x : ℕ). CostIs x (star e)) (sym q) (cost-parts (2 + asked_count e) true (omega (arith, few-asked e, h, few)))
  costs-for r up (pipe e f) h s =
      let u = costs-for (suc r) r e (omega (arith, h)) (two-laid R r e f s.1).0 in
      two-cost 4 r up e f (pipe e f) (λ x y. cost (1 + count_in x) false) (omega arith) h (ap word_of s.0) (λ w x y k. rw k refl)
      (rw u.0 (cost-parts (1 + asked_count e) false (omega (arith, few-asked e, h, few))))

  -- the letters before its rows and within them
  two-before : (r : ℕ) (e f : Exp) → letters_before t (suc r) ≡ letters_before t r → letters_before t (suc r + rows e) ≡ letters_before t (suc r) + size e
      → letters_before t (suc r + rows e + rows f) ≡ letters_before t (suc r + rows e) + size f → letters_before t (r + (1 + rows e + rows f)) ≡ letters_before t r + (size e + size f)
  two-before r e f a b c = let i : r + (1 + rows e + rows f) ≡ suc r + rows e + rows f = omega arith in ap (letters_before t) i ∙ omega (arith, a, b, c)

  before-for : (r up : ℕ) (e : Exp) → r + rows e ≤ n → Stands R r (laid r up e) → letters_before t (r + rows e) ≡ letters_before t r + size e
  unfolding laid rows size letters_before
  before-for r up (letter l) h s =
      let i : r + 1 ≡ suc r = omega arith in
      ap (letters_before t) i ∙ rw (kind-is 0 (0 + l.number) 0 up (words r (omega (arith, h)) ∙ ap word_of s.0) (omega arith)) refl
  before-for r up (seq e f) h s =
      let (a, b) = two-laid R r e f s.1 in
      two-before r e f (operator-row r 1 (suc r) (suc r + rows e) up (omega (arith, h)) (ap word_of s.0) (omega arith) (omega arith))
      (before-for (suc r) r e (omega (arith, h)) a) (before-for (suc r + rows e) r f (omega (arith, h)) b)
  before-for r up (alt e f) h s =
      let (a, b) = two-laid R r e f s.1 in
      two-before r e f (operator-row r 2 (suc r) (suc r + rows e) up (omega (arith, h)) (ap word_of s.0) (omega arith) (omega arith))
      (before-for (suc r) r e (omega (arith, h)) a) (before-for (suc r + rows e) r f (omega (arith, h)) b)
  before-for r up (star e) h s =
      let i : r + (1 + rows e) ≡ suc r + rows e = omega arith in
      ap (letters_before t) i ∙ before-for (suc r) r e (omega (arith, h)) s.1
      ∙ ap (λ (k : ℕ). k + size e) (operator-row r 3 (suc r) 0 up (omega (arith, h)) (ap word_of s.0) (omega arith) (omega arith))
  before-for r up (pipe e f) h s =
      let (a, b) = two-laid R r e f s.1 in
      two-before r e f (operator-row r 4 (suc r) (suc r + rows e) up (omega (arith, h)) (ap word_of s.0) (omega arith) (omega arith))
      (before-for (suc r) r e (omega (arith, h)) a) (before-for (suc r + rows e) r f (omega (arith, h)) b)

  -- the place of an operand's row, r', where the operator stands at row r
  abbrev place_under : (r r' : ℕ) → ℕ
  place_under r r' = operand_place (get_or t r 0) (get_or places r 0) (get_or costs r' 0) (get_or costs (sibling (get_or t r 0) r') 0) r r' (letters_before t r')

  under : (r r' : ℕ) (e : Exp) → r < r' → r' < n → Stands R r' (laid r' r e) → get_or places r' 0 ≡ place_under r r'
  under r r' e l h s = place-below t costs n r' r few h (up_is R t n few words r' r e h (omega (arith, l, h)) s) l

  -- by the operator's kind; i is the row of its other operand, or of its left one
  module _ (r r' : ℕ) where
    left-of-seq : (i : ℕ) → part0 (get_or t r 0) ≡ 1 → part1 (get_or t r 0) ≡ r' → part2 (get_or t r 0) ≡ i → place_under r r' ≡ left_word (get_or places r 0) (get_or costs r' 0) (get_or costs i 0)
    left-of-seq i a b c = rw (a, eq-eqb (part1 (get_or t r 0)) r' b, c) refl

    right-of-seq : (i : ℕ) → part0 (get_or t r 0) ≡ 1 → part1 (get_or t r 0) ≡ i → (i ≡ r' → ⊥) → place_under r r' ≡ right_word (get_or places r 0) (get_or costs r' 0) (get_or costs i 0)
    right-of-seq i a b c = rw (a, b, ne_eqb i r' c) refl

    side-of-alt : part0 (get_or t r 0) ≡ 2 → place_under r r' ≡ only_operand (get_or places r 0) (get_or costs r' 0) (part2 (get_or places r 0))
    side-of-alt a = rw a refl

    body-of-star : part0 (get_or t r 0) ≡ 3 → place_under r r' ≡ body_word (get_or places r 0) (get_or costs r' 0)
    body-of-star a = rw a refl

    left-of-pipe : part0 (get_or t r 0) ≡ 4 → part1 (get_or t r 0) ≡ r' → place_under r r' ≡ only_operand (get_or places r 0) (get_or costs r' 0) (suc r)
    left-of-pipe a b = rw (a, eq-eqb (part1 (get_or t r 0)) r' b) refl

    thread-of-pipe : (i k : ℕ) → part0 (get_or t r 0) ≡ 4 → part1 (get_or t r 0) ≡ i → (i ≡ r' → ⊥) → letters_before t r' ≡ k → place_under r r' ≡ own_of_thread (get_or costs r' 0) k
    thread-of-pipe i k a b c d = rw (a, b, ne_eqb i r' c, d) refl

  -- what is known of the two operands, e and f, of row r, of the kind j
  pub record Operands (j r : ℕ) (e f : Exp) : Type 0 where
    pub kind : part0 (get_or t r 0) ≡ j
    pub left : part1 (get_or t r 0) ≡ suc r
    pub right : part2 (get_or t r 0) ≡ suc r + rows e
    apart : suc r ≡ suc r + rows e → ⊥
    pub e-laid : Stands R (suc r) (laid (suc r) r e)
    pub f-laid : Stands R (suc r + rows e) (laid (suc r + rows e) r f)
    e-cost : CostIs (get_or costs (suc r) 0) e
    f-cost : CostIs (get_or costs (suc r + rows e) 0) f
    e-place : get_or places (suc r) 0 ≡ place_under r (suc r)
    f-place : get_or places (suc r + rows e) 0 ≡ place_under r (suc r + rows e)
    e-before : letters_before t (suc r) ≡ letters_before t r
    f-before : letters_before t (suc r + rows e) ≡ letters_before t r + size e

  pub operands : (j r up : ℕ) (e f : Exp) → 0 < j → j < 65536 → r + (1 + rows e + rows f) ≤ n → word_of (R r) ≡ quad j (suc r) (suc r + rows e) up
      → Stands R (suc r) (laid (suc r) r e ++ laid (suc r + rows e) r f) → Operands j r e f
  operands j r up e f z l h w s =
      let d : r < n = omega (arith, h) in
      let (a, b) = two-laid R r e f s in
      let o = operator-row r j (suc r) (suc r + rows e) up d w z l in
      record {
        kind = kind-is j (suc r) (suc r + rows e) up (words r d ∙ w) l;
        left = left_is j (suc r) (suc r + rows e) up (words r d ∙ w) (omega (arith, h, few));
        right = right_is j (suc r) (suc r + rows e) up (words r d ∙ w) (omega (arith, h, few));
        apart = λ i. omega (arith, i, a-row e);
        e-laid = a;
        f-laid = b;
        e-cost = costs-for (suc r) r e (omega (arith, h)) a;
        f-cost = costs-for (suc r + rows e) r f (omega (arith, h)) b;
        e-place = under r (suc r) e (omega arith) (omega (arith, h, a-row e)) a;
        f-place = under r (suc r + rows e) f (omega arith) (omega (arith, h, a-row f)) b;
        e-before = o;
        f-before = before-for (suc r) r e (omega (arith, h)) a ∙ ap (λ (k : ℕ). k + size e) o;
      }

  -- what stands in row r for e
  abbrev Here : (r : ℕ) → Place → (m q : ℕ) → Exp → Type 0
  Here r c m q e = RowStored (get_or costs r 0) (get_or places r 0) c m q e

  -- a row whose place is the word x
  here-by : (r x : ℕ) (c : Place) (m q : ℕ) (e : Exp) → get_or places r 0 ≡ x → RowStored (get_or costs r 0) x c m q e → Here r c m q e
  here-by r x c m q e p s = subst (λ (y : ℕ). RowStored (get_or costs r 0) y c m q e) (sym p) s

  -- with L for the letters' rows
  module _ (L : List ℕ) where
    abbrev Held : (r : ℕ) → Exp → Type 0
    Held r e = Holds R (λ i. get_or L i 0) r e

    -- e's rows, where its own is right
    stored-for : (r up k : ℕ) (c : Place) (m q : ℕ) (e : Exp) → r + rows e ≤ n → k + size e ≤ 256 → Ordered k e → Stands R r (laid r up e) → Held r e
        → Low c m q e → letters_before t r ≡ k → Here r c m q e → Stored t costs places L r k c m q e
    unfolding laid rows size
    stored-for r up k c m q (letter l) h z o s d b v x = (x, ap (λ (i : ℕ). get_or L i 0) (sym o) ∙ d.1)
    stored-for r up k c m q (seq e f) h z o s d b v x =
        let g = operands 1 r up e f (omega arith) (omega arith) h (ap word_of s.0) s.1 in
        let (low, low') = low-seq c m q e f b in
        let i = suc r + rows e in (
          x,
          stored-for (suc r) r k (left_of_seq e f c) (cond (nullable f) m 0) q e (omega (arith, h)) (omega (arith, z)) o.0 g.e-laid
              (subst (λ (y : Row). Held y.left e) s.0 d.4) low (g.e-before ∙ v)
              (here-by (suc r) _ (left_of_seq e f c) (cond (nullable f) m 0) q e
              (g.e-place ∙ left-of-seq r (suc r) i g.kind g.left g.right) (stored-left _ _ c m q (seq e f) x e f _ _ g.e-cost g.f-cost low)),
          stored-for i r (k + size e) (right_of_seq e f c) m q f (omega (arith, h)) (omega (arith, z)) o.1 g.f-laid
              (subst (λ (y : Row). Held y.right f) s.0 d.5) low' (g.f-before ∙ ap (λ (j : ℕ). j + size e) v)
              (here-by i _ (right_of_seq e f c) m q f
              (g.f-place ∙ right-of-seq r i (suc r) g.kind g.left g.apart) (stored-right _ _ c m q (seq e f) x e f _ _ g.e-cost g.f-cost low')),
        )
    stored-for r up k c m q (alt e f) h z o s d b v x =
        let g = operands 2 r up e f (omega arith) (omega arith) h (ap word_of s.0) s.1 in
        let (low, low') = low-alt c m q e f b in
        let i = suc r + rows e in (
          x,
          stored-for (suc r) r k (side_of_alt e c) m q e (omega (arith, h)) (omega (arith, z)) o.0 g.e-laid (subst (λ (y : Row). Held y.left e) s.0 d.3) low (g.e-before ∙ v)
              (here-by (suc r) _ (side_of_alt e c) m q e (g.e-place ∙ side-of-alt r (suc r) g.kind)
              (stored-only _ _ c m q (alt e f) x e _ g.e-cost _ m x.chain low)),
          stored-for i r (k + size e) (side_of_alt f c) m q f (omega (arith, h)) (omega (arith, z)) o.1 g.f-laid (subst (λ (y : Row). Held y.right f) s.0 d.4) low'
              (g.f-before ∙ ap (λ (j : ℕ). j + size e) v)
              (here-by i _ (side_of_alt f c) m q f (g.f-place ∙ side-of-alt r i g.kind)
              (stored-only _ _ c m q (alt e f) x f _ g.f-cost _ m x.chain low')),
        )
    stored-for r up k c m q (star e) h z o s d b v x =
        let i : r < n = omega (arith, h) in
        let w = ap word_of s.0 in
        let low = low-star c m q e b in (
          x,
          stored-for (suc r) r k (body_of_star e c) m q e (omega (arith, h)) z o s.1 (subst (λ (y : Row). Held y.left e) s.0 d.2) low
              (operator-row r 3 (suc r) 0 up i w (omega arith) (omega arith) ∙ v)
              (here-by (suc r) _ (body_of_star e c) m q e
              (under r (suc r) e (omega arith) (omega (arith, h, a-row e)) s.1 ∙ body-of-star r (suc r) (kind-is 3 (suc r) 0 up (words r i ∙ w) (omega arith)))
              (stored-body _ _ c m q (star e) x e _ (costs-for (suc r) r e (omega (arith, h)) s.1) low)),
        )
    stored-for r up k c m q (pipe e f) h z o s d b v x =
        let g = operands 4 r up e f (omega arith) (omega arith) h (ap word_of s.0) s.1 in
        let (low, low') = low-pipe c m q k r e f o.0 o.1 (omega (arith, h, few)) (omega (arith, z)) b in
        let i = suc r + rows e in
        let j : letters_before t i ≡ k + size e = g.f-before ∙ ap (λ (j : ℕ). j + size e) v in (
          x,
          g.right,
          stored-for (suc r) r k (left_of_pipe e c) (suc r) q e (omega (arith, h)) (omega (arith, z)) o.0 g.e-laid (subst (λ (y : Row). Held y.left e) s.0 d.4) low (g.e-before ∙ v)
              (here-by (suc r) _ (left_of_pipe e c) (suc r) q e (g.e-place ∙ left-of-pipe r (suc r) g.kind g.left)
              (stored-only _ _ c m q (pipe e f) x e _ g.e-cost _ (suc r) refl low)),
          stored-for i r (k + size e) (thread_place f) 0 (k + size e) f (omega (arith, h)) (omega (arith, z)) o.1 g.f-laid (subst (λ (y : Row). Held y.right f) s.0 d.5) low' j
              (here-by i _ (thread_place f) 0 (k + size e) f
              (g.f-place ∙ thread-of-pipe r i (suc r) (k + size e) g.kind g.left g.apart j)
              (stored-thread _ (k + size e) f g.f-cost low')),
        )

    -- for all monitors
    stored-for-all : (r k : ℕ) (ms : List Exp) → r + total rows ms ≤ n → k + total size ms ≤ 256 → InOrder k ms → Stands R r (laid_all r ms) → HeldAll R (λ i. get_or L i 0) r ms
        → ((m : Exp) → m ∈ ms → Bounded m (own_place m)) → letters_before t r ≡ k → StoredAll t costs places L r k ms
    unfolding laid_all
    stored-for-all r k [] h z o s d b v = tt
    stored-for-all r k (m ∷ ms) h z o s d b v =
        let a = front R r (laid r r m) (laid_all (r + rows m) ms) s in
        let i : r < n = omega (arith, h, a-row m) in
        let x = costs-for r r m (omega (arith, h)) a in
        let low : Low (own_place m) 0 0 m = (b m (here refl), omega arith, omega arith, omega arith) in (
          stored-for r r k (own_place m) 0 0 m (omega (arith, h)) (omega (arith, z)) o.0 a d.0 low v
              (here-by r _ (own_place m) 0 0 m (place-own t costs n r r few i (up_is R t n few words r r m i i a) refl) (stored-own _ m x low)),
          stored-for-all (r + rows m) (k + size m) ms (omega (arith, h)) (omega (arith, z)) o.1
              (rear R r (r + rows m) (laid r r m) (laid_all (r + rows m) ms) (omega (arith, laid-length r r m)) s) d.2 (λ y j. b y (there j))
              (before-for r r m (omega (arith, h)) a ∙ ap (λ (j : ℕ). j + size m) v),
        )

-- ---- in the watch of an accepted text

module _ (o : Opened) (c : Counted o) where
  -- Each row of an accepted text has the cost and the place of the part that it stands for.
  pub counts-stored : ((m : Exp) → m ∈ program_of o → Bounded m (own_place m))
      → let v = watch_of (value o) in StoredAll v.table (costs_of v.table v.rows) (places_up v.table (costs_of v.table v.rows) (min v.rows 1024)) v.places 0 0 (program_of o)
  unfolding letters_before
  counts-stored b =
      let v = watch_of (value o) in
      let r = program-rows o c in
      let i : o.row_count ≡ min v.rows 1024 = omega (arith, rows-counted o c, c.few_rows) in
      subst (λ (n : ℕ). StoredAll v.table (costs_down v.table n n) (places_up v.table (costs_down v.table n n) n) v.places 0 0 (program_of o)) i
      (stored-for-all v.table (table_of o) o.row_count (omega (arith, c.few_rows)) (words_right o c) v.places 0 0 (program_of o) (omega (arith, r))
      (omega (arith, program-letters o c, c.few_letters)) (in_order o c) (stands_self no_row (laid_all 0 (program_of o))) (program-held o c) b refl)
