-- The calls that a walk makes over rows that hold an expression, counted: entering an expression makes no more than asking it touches, and leaving the letters met no more than walks from them may
-- spend (meaning's Spent). Assumes nothing.
use mathlib.Core.Path.{◌≡◌, refl, sym, ◌∙◌, subst}
use mathlib.Core.Bool.{Bool, true, false, not, cond, ◌&&◌, ◌||◌}
use mathlib.Core.List.{List}
use mathlib.Core.Logic.{⊎_elim}
use Prim.Native.Nat.{ℕ, zero, suc, ◌+◌, ◌*◌, ◌-◌, ◌<◌, ◌≤◌}
use native.Mathlib.Omega.{arith}
use lib.Dec.{T, T_not, eqb, leb}
use borrow.Author.Tests.{eqb-true, eqb-false, eq-eqb, ne_eqb, leb-false, lt-leb}
use lib.ListN.{length, get_or, set, length-set}
use Rattle.meaning.specs.Expression.{Letter, Exp, letter, seq, alt, star, pipe, size, rows, Ordered}
use Rattle.meaning.specs.Shape.{nullable}
use Rattle.meaning.proofs.ListLaws.{is_true, is_false, T-or-left, T-or-right}
use Rattle.meaning.proofs.Walk.{a-row}
use Rattle.meaning.proofs.Step.{Solid}
use Rattle.meaning.proofs.Counting.{one, asked_count, Place, left_of_seq, right_of_seq, side_of_alt, body_of_star, left_of_pipe, thread_place, own_place}
use Rattle.meaning.proofs.Spent.{spent, spent_after}
use Rattle.words.specs.Words.{part0, part1, part2, part3}
use Rattle.monitor.specs.Letters.{Given, letter_met}
use Rattle.monitor.specs.Walk.{Came, came, Told, told, Entry, or_enter_code, enter_on, kept_entry, enter_m, leave_to, leave_on, ask_m, leave_m}
use Rattle.monitor.specs.Ticks.{steps, Layout, and_then, letters_go, letters_end, monitor_goes}
use Rattle.monitor.specs.Visits.{Visits, enter_on_visits, enter_visits, leave_to_visits, ask_visits, leave_visits, and_visits, letters_visits, monitor_visits}
use Rattle.monitor.proofs.Memory.{after-set, Begun}

-- ---- numbers

-- an expression that is asked is touched, and again where it is left at once
pub asked-some : (e : Exp) → 1 + one (nullable e) ≤ asked_count e
unfolding asked_count nullable
asked-some (letter l) = omega arith
asked-some (seq e f) = omega arith
asked-some (alt e f) = omega arith
asked-some (star e) = omega arith
asked-some (pipe e f) = omega arith

-- the right operand of a `,` is entered where the left one passed
seq-few : (a b : Bool) (v w x y : ℕ) → T a → v + one a ≤ x → w + one b ≤ y → 1 + (v + w) + one (a && b) ≤ 1 + one (a && b) + x + cond a y 0
seq-few true b v w x y t p q = omega (arith, p, q)
seq-few false b v w x y t p q = absurd t

-- a row is asked: entering it came to v, and where it passed leaving it to u
ask-few : (n d : Bool) (v u x w : ℕ) → (T d → T n × (u ≤ w)) → v + one n ≤ x → 1 + v + cond d u 0 ≤ cond n (x + w) (1 + x)
ask-few true true v u x w h p = let (_, q) = h tt in omega (arith, p, q)
ask-few true false v u x w h p = omega (arith, p)
ask-few false true v u x w h p = absurd (h tt).0
ask-few false false v u x w h p = omega (arith, p)

-- the left operand of a `,` is left, where asking the right one, which touches x, is x and the way on, q and p
left-few : (n : Bool) (x q p : ℕ) → 1 ≤ x → 1 + cond n (x + (2 * (1 + q) + p)) (1 + x) ≤ 2 * (1 + x + cond n q 0) + cond n p 0
left-few true x q p h = omega (arith, h)
left-few false x q p h = omega (arith, h)

-- the body of a `*` is left, and the `*` asked again
body-few : (e : Exp) (q p : ℕ) → 1 + cond (nullable (star e)) (asked_count (star e) + (2 * q + p)) (1 + asked_count (star e)) ≤ 2 * (1 + asked_count e + q) + p
unfolding asked_count nullable
body-few e q p = let h = asked-some e in omega (arith, h)

-- ---- nul tells which rows are nullable

module _ (g : Given) (nul : ℕ → Bool) where
  abbrev pub word : ℕ → ℕ
  word r = get_or g.table r 0

  -- only such a row is kept as passed
  pub record Sane (M : List ℕ) : Type 0 where
    pub long : length M ≡ 1280
    pub rows : (r : ℕ) → r < 1024 → get_or M r 0 ≡ 2 → T (nul r)

  -- something is stored
  sane-set : (r k : ℕ) {M : List ℕ} → r < 1280 → (r < 1024 → k ≡ 2 → T (nul r)) → Sane M → Sane (set M r k)
  sane-set r k {M} h p m = record {
    long = length-set M r k ∙ m.long;
    rows = λ i l. ⊎_elim (λ y. rw (y.1, y.0) (p (omega (arith, l, y.0)))) (λ y. rw y (m.rows i l)) (after-set M r i k (omega (arith, h, m.long)));
  }

  -- as at a tick's start
  pub begun-sane : (M : List ℕ) → Begun M → Sane M
  begun-sane M b = record { long = b.long; rows = λ r h e. absurd (let x = b.rows r h in omega (arith, x, e)) }

  -- ---- entering

  -- e was entered with v calls, and came to a
  record Enters (e : Exp) (v : ℕ) (a : Came) : Type 0 where
    few : v + one (nullable e) ≤ asked_count e
    null : a.code ≡ 2 → T (nullable e)
    sane : Sane a.memory

  -- a row that is kept is visited alone
  remembered : (e : Exp) (r v : ℕ) (a : Came) (M : List ℕ) → r < 1024 → nul r ≡ nullable e → Sane M → Enters e (1 + v) a
      → Enters e (1 + cond (leb 1024 r) 0 (cond (eqb (get_or M r 0) 0) v 0)) (cond (leb 1024 r) (came 1 M) (cond (eqb (get_or M r 0) 0) (kept_entry r a) (came (get_or M r 0) M)))
  remembered e r v a M h n m p = rw (lt-leb 1024 r h) (by (eqb (get_or M r 0) 0))
    where
      by : (b : Bool) → Enters e (1 + cond b v 0) (cond b (kept_entry r a) (came (get_or M r 0) M))
      by true = record { few = p.few; null = p.null; sane = sane-set r a.code (omega (arith, h)) (λ l q. subst T (sym n) (p.null q)) p.sane }
      by false = record { few = asked-some e; null = λ q. subst T n (m.rows r h q); sane = m }

  -- one row, whose operands are entered by these
  module _ (enter : Entry) (visit : Visits) where
    abbrev EntersAt : ℕ → Exp → Type 0
    EntersAt r e = (M : List ℕ) → Sane M → Enters e (visit r M) (enter r M)

    -- the row with the word x
    abbrev EntersBy : ℕ → Exp → Type 0
    EntersBy x e = (M : List ℕ) → Sane M → Enters e (1 + enter_on_visits visit enter x M) (enter_on g enter x M)

    -- by the row's kind
    enters-letter : (l : Letter) (x : ℕ) → part0 x ≡ 0 → EntersBy x (letter l)
    unfolding enter_on asked_count nullable
    enters-letter l x k M m = rw k (by (leb 256 (part1 x)) refl (letter_met g (part1 x)))
      where
        blocks : Enters (letter l) 1 (came 1 M)
        blocks = record { few = omega arith; null = λ d. absurd (omega (arith, d)); sane = m }

        by : (b : Bool) → leb 256 (part1 x) ≡ b → (c : Bool) → Enters (letter l) 1 (cond b (came 1 M) (cond c (came 3 (set M (1024 + part1 x) 1)) (came 1 M)))
        by true h c = blocks
        by false h true =
            let low = leb-false 256 (part1 x) h in
            record { few = omega arith; null = λ d. absurd (omega (arith, d)); sane = sane-set (1024 + part1 x) 1 (omega (arith, low)) (λ l. absurd (omega (arith, l))) m }
        by false h false = blocks

    enters-seq : (e f : Exp) (x i j : ℕ) → part0 x ≡ 1 → part1 x ≡ i → part2 x ≡ j → EntersAt i e → EntersAt j f → EntersBy x (seq e f)
    unfolding enter_on asked_count nullable
    enters-seq e f x i j k a b p q M m = rw (k, a, b) (by (eqb (enter i M).code 2) refl)
      where
        y : Enters e (visit i M) (enter i M)
        y = p M m

        by : (c : Bool) → eqb (enter i M).code 2 ≡ c → Enters (seq e f) (1 + (visit i M + cond c (visit j (enter i M).memory) 0)) (cond c (enter j (enter i M).memory) (enter i M))
        by true h =
            let z = q (enter i M).memory y.sane in
            let t = y.null (eqb-true (enter i M).code 2 h) in
            record { few = seq-few (nullable e) (nullable f) _ _ _ _ t y.few z.few; null = λ d. rw (is_true (nullable e) t) (z.null d); sane = z.sane }
        by false h = record { few = (let w = y.few in omega (arith, w)); null = λ d. absurd (eqb-false (enter i M).code 2 h d); sane = y.sane }

    enters-alt : (e f : Exp) (x i j : ℕ) → part0 x ≡ 2 → part1 x ≡ i → part2 x ≡ j → EntersAt i e → EntersAt j f → EntersBy x (alt e f)
    unfolding enter_on asked_count nullable
    enters-alt e f x i j k a b p q M m = rw (k, a, b) (by (eqb (enter i M).code 3))
      where
        y : Enters e (visit i M) (enter i M)
        y = p M m

        z : Enters f (visit j (enter i M).memory) (enter j (enter i M).memory)
        z = q (enter i M).memory y.sane

        passes : (c d : ℕ) → (c ≡ 2 → T (nullable e)) → (d ≡ 2 → T (nullable f)) → or_enter_code c d ≡ 2 → T (nullable e || nullable f)
        passes c d s t = or (eqb d 3) (eqb c 2) refl
          where
            or : (a b : Bool) → eqb c 2 ≡ b → cond a 3 (cond b 2 d) ≡ 2 → T (nullable e || nullable f)
            or true b h u = absurd (omega (arith, u))
            or false true h u = T-or-left (nullable e) (nullable f) (s (eqb-true c 2 h))
            or false false h u = T-or-right (nullable e) (nullable f) (t u)

        by : (c : Bool) → Enters (alt e f) (1 + (visit i M + cond c 0 (visit j (enter i M).memory)))
            (cond c (enter i M) (came (or_enter_code (enter i M).code (enter j (enter i M).memory).code) (enter j (enter i M).memory).memory))
        by true = record { few = (let w = y.few in omega (arith, w)); null = λ d. T-or-left (nullable e) (nullable f) (y.null d); sane = y.sane }
        by false = record { few = (let w = y.few in let v = z.few in omega (arith, w, v)); null = passes _ _ y.null z.null; sane = z.sane }

    enters-star : (e : Exp) (x i : ℕ) → part0 x ≡ 3 → part1 x ≡ i → EntersAt i e → EntersBy x (star e)
    unfolding enter_on asked_count nullable
    enters-star e x i k a p M m = rw (k, a) (let y = p M m in record { few = (let w = y.few in omega (arith, w)); null = λ d. tt; sane = y.sane })

    enters-pipe : (e f : Exp) (x i : ℕ) → T (not (nullable e)) → part0 x ≡ 4 → part1 x ≡ i → EntersAt i e → EntersBy x (pipe e f)
    unfolding enter_on asked_count nullable
    enters-pipe e f x i n k a p M m =
        rw (k, a) (let y = p M m in record { few = (let w = y.few in omega (arith, w)); null = λ d. absurd (T_not (nullable e) n (y.null d)); sane = y.sane })

  -- ---- the rows that hold an expression; L tells each letter's row

  module _ (L : List ℕ) where
    -- row r, of kind k, is that of e, an operand of row up
    pub record RowIs (k r up : ℕ) (e : Exp) : Type 0 where
      pub below : r < 1024
      pub kind : part0 (word r) ≡ k
      pub above : part3 (word r) ≡ up
      pub null : nul r ≡ nullable e

    -- the rows of its operands
    abbrev pub Two : (r i j : ℕ) → Type 0
    Two r i j = (part1 (word r) ≡ i) × (part2 (word r) ≡ j)

    -- e and its rows, from r on
    abbrev pub Built : (r up : ℕ) → Exp → Type 0
    Built r up (letter l) = RowIs 0 r up (letter l) × (get_or L l.number 0 ≡ r)
    Built r up (seq e f) = RowIs 1 r up (seq e f) × Two r (suc r) (suc r + rows e) × Built (suc r) r e × Built (suc r + rows e) r f
    Built r up (alt e f) = RowIs 2 r up (alt e f) × Two r (suc r) (suc r + rows e) × Built (suc r) r e × Built (suc r + rows e) r f
    Built r up (star e) = RowIs 3 r up (star e) × (part1 (word r) ≡ suc r) × Built (suc r) r e
    Built r up (pipe e f) = RowIs 4 r up (pipe e f) × Two r (suc r) (suc r + rows e) × Built (suc r) r e × Built (suc r + rows e) r f

    -- its own row is there, and points up
    own_row : (r up : ℕ) (e : Exp) → Built r up e → (r < 1024) × (part3 (word r) ≡ up)
    own_row r up (letter l) b = (b.0.below, b.0.above)
    own_row r up (seq e f) b = (b.0.below, b.0.above)
    own_row r up (alt e f) b = (b.0.below, b.0.above)
    own_row r up (star e) b = (b.0.below, b.0.above)
    own_row r up (pipe e f) b = (b.0.below, b.0.above)

    -- entering e, whatever the count
    enters : (k r up : ℕ) (e : Exp) → Built r up e → Solid e → EntersAt (enter_m k g) (enter_visits k g) r e
    unfolding enter_m enter_visits
    enters zero r up e b s M m = record { few = asked-some e; null = λ d. absurd (omega (arith, d)); sane = m }
    enters (suc k) r up (letter l) (b, _) s M m = remembered (letter l) r _ _ M b.below b.null m (enters-letter (enter_m k g) (enter_visits k g) l (word r) b.kind M m)
    enters (suc k) r up (seq e f) (b, (i, j), c, d) (s, t) M m =
        remembered (seq e f) r _ _ M b.below b.null m
        (enters-seq (enter_m k g) (enter_visits k g) e f (word r) (suc r) (suc r + rows e) b.kind i j (enters k (suc r) r e c s) (enters k (suc r + rows e) r f d t) M m)
    enters (suc k) r up (alt e f) (b, (i, j), c, d) (s, t) M m =
        remembered (alt e f) r _ _ M b.below b.null m
        (enters-alt (enter_m k g) (enter_visits k g) e f (word r) (suc r) (suc r + rows e) b.kind i j (enters k (suc r) r e c s) (enters k (suc r + rows e) r f d t) M m)
    enters (suc k) r up (star e) (b, i, c) (_, s) M m =
        remembered (star e) r _ _ M b.below b.null m (enters-star (enter_m k g) (enter_visits k g) e (word r) (suc r) b.kind i (enters k (suc r) r e c s) M m)
    enters (suc k) r up (pipe e f) (b, (i, _), c, _) (n, _, s, _) M m =
        remembered (pipe e f) r _ _ M b.below b.null m (enters-pipe (enter_m k g) (enter_visits k g) e f (word r) (suc r) n b.kind i (enters k (suc r) r e c s) M m)

    -- ---- asking and leaving, in w calls at most, whatever the count

    abbrev Asks : (r w : ℕ) → Type 0
    Asks r w = (k : ℕ) (M : List ℕ) → Sane M → (ask_visits k g r M ≤ w) × Sane (ask_m k g r M).memory

    abbrev Leaves : (r w : ℕ) → Type 0
    Leaves r w = (k : ℕ) (M : List ℕ) → Sane M → (leave_visits k g r M ≤ w) × Sane (leave_m k g r M).memory

    -- or in more
    more : (r v w : ℕ) → v ≤ w → Leaves r v → Leaves r w
    more r v w h p k M m = let (a, b) = p k M m in (omega (arith, h, a), b)

    -- e is asked, where leaving it takes w calls
    asks : (r up : ℕ) (e : Exp) → Built r up e → Solid e → (w : ℕ) → (T (nullable e) → Leaves r w) → Asks r (cond (nullable e) (asked_count e + w) (1 + asked_count e))
    unfolding ask_visits ask_m
    asks r up e b s w p zero M m = (ask-few (nullable e) false 0 0 (asked_count e) w (λ t. absurd t) (let h = asked-some e in omega (arith, h)), m)
    asks r up e b s w p (suc k) M m = let a = enter_m k g r M in by (eqb a.code 3) (eqb a.code 2) refl
      where
        y : Enters e (enter_visits k g r M) (enter_m k g r M)
        y = enters k r up e b s M m

        left : eqb (enter_m k g r M).code 2 ≡ true → T (nullable e) × (leave_visits k g r (enter_m k g r M).memory ≤ w) × Sane (leave_m k g r (enter_m k g r M).memory).memory
        left h = let t = y.null (eqb-true (enter_m k g r M).code 2 h) in let (l, z) = p t k (enter_m k g r M).memory y.sane in (t, l, z)

        by : (c d : Bool) → eqb (enter_m k g r M).code 2 ≡ d
            → (1 + enter_visits k g r M + cond d (leave_visits k g r (enter_m k g r M).memory) 0 ≤ cond (nullable e) (asked_count e + w) (1 + asked_count e))
            × Sane (cond c (told true (enter_m k g r M).memory) (cond d (leave_m k g r (enter_m k g r M).memory) (told false (enter_m k g r M).memory))).memory
        by true true h = let (t, l, z) = left h in (ask-few (nullable e) true _ _ _ w (λ _. (t, l)) y.few, y.sane)
        by false true h = let (t, l, z) = left h in (ask-few (nullable e) true _ _ _ w (λ _. (t, l)) y.few, z)
        by true false h = (ask-few (nullable e) false _ 0 _ w (λ t. absurd t) y.few, y.sane)
        by false false h = (ask-few (nullable e) false _ 0 _ w (λ t. absurd t) y.few, y.sane)

    -- an operand, in row r, of row u is left: by the word of row u
    abbrev Toward : (u r w : ℕ) → Type 0
    Toward u r w = (k : ℕ) (M : List ℕ) → Sane M
        → (leave_to_visits (enter_visits k g) (ask_visits k g) (leave_visits k g) (enter_m k g) (word u) u r M ≤ w)
        × Sane (leave_to (enter_m k g) (ask_m k g) (leave_m k g) (word u) u r M).memory

    -- so it is left
    leaves_by : (u r w : ℕ) (e : Exp) → u < r → Built r u e → Toward u r w → Leaves r (1 + w)
    unfolding leave_visits leave_m leave_on
    leaves_by u r w e h b p zero M m = (omega arith, m)
    leaves_by u r w e h b p (suc k) M m =
        let (l, q) = own_row r u e b in
        rw (lt-leb 1024 r l, q, ne_eqb u r (λ d. omega (arith, d, h)), lt-leb 1024 u (omega (arith, l, h))) (let (x, y) = p k M m in (omega (arith, x), y))

    module _ (u r : ℕ) where
      -- the left operand of a `,`, whose right one is in row i
      toward-right : (i w : ℕ) → part0 (word u) ≡ 1 → part1 (word u) ≡ r → part2 (word u) ≡ i → Asks i w → Toward u r w
      unfolding leave_to
      toward-right i w a b c p k M m = rw (a, eq-eqb (part1 (word u)) r b, c) (p k M m)

      -- the right one
      toward-up : (i w : ℕ) → part0 (word u) ≡ 1 → part1 (word u) ≡ i → (i ≡ r → ⊥) → Leaves u w → Toward u r w
      unfolding leave_to
      toward-up i w a b d p k M m = rw (a, b, ne_eqb i r d) (p k M m)

      -- an operand of a `||`
      toward-side : (w : ℕ) → part0 (word u) ≡ 2 → Leaves u w → Toward u r w
      unfolding leave_to
      toward-side w a p k M m = rw a (p k M m)

      -- the body of a `*`
      toward-again : (w : ℕ) → part0 (word u) ≡ 3 → Asks u w → Toward u r w
      unfolding leave_to
      toward-again w a p k M m = rw a (p k M m)

      -- the left operand of an `@`, whose thread, f, is in row i
      toward-thread : (i w : ℕ) (f : Exp) → part0 (word u) ≡ 4 → part1 (word u) ≡ r → part2 (word u) ≡ i → Built i u f → Solid f → Leaves u w → Toward u r (asked_count f + w)
      unfolding leave_to
      toward-thread i w f a b c d s p k M m = rw (a, eq-eqb (part1 (word u)) r b, c) (by (eqb (enter_m k g i M).code 1))
        where
          y : Enters f (enter_visits k g i M) (enter_m k g i M)
          y = enters k i u f d s M m

          by : (o : Bool) → (enter_visits k g i M + cond o 0 (leave_visits k g u (enter_m k g i M).memory) ≤ asked_count f + w)
              × Sane (cond o (told false (enter_m k g i M).memory) (leave_m k g u (enter_m k g i M).memory)).memory
          by true = (let v = y.few in omega (arith, v), y.sane)
          by false = let (x, z) = p k (enter_m k g i M).memory y.sane in (let v = y.few in omega (arith, v, x), z)

      -- a thread
      toward-over : (i : ℕ) → part0 (word u) ≡ 4 → part1 (word u) ≡ i → (i ≡ r → ⊥) → Toward u r 0
      unfolding leave_to
      toward-over i a b d k M m = rw (a, b, ne_eqb i r d) (omega arith, m)

    -- ---- the letters met, by the marks

    module _ (marks : List ℕ) where
      -- letter n is marked
      abbrev pub act : ℕ → Bool
      act n = not (eqb (get_or marks n 0) 0)

      -- n letters from l on are left, if they are marked, in w calls at most
      abbrev Letters : (n l w : ℕ) → Type 0
      Letters n l w = (M : List ℕ) → Sane M → (letters_visits g L marks n l M ≤ w) × Sane (letters_go g L marks n l M).memory

      -- the same by other numbers
      letters-as : {n n' l l' w w' : ℕ} → n ≡ n' → l ≡ l' → w ≡ w' → Letters n l w → Letters n' l' w'
      letters-as p q r h M m = rw (← p, ← q, ← r) (h M m)

      -- none
      no-letters : (l : ℕ) → Letters 0 l 0
      unfolding letters_visits letters_go
      no-letters l M m = (omega arith, m)

      -- they are left behind an answer, where it is yes
      behind : (n l w : ℕ) → Letters n l w → (a : Told) → Sane a.memory → (and_visits a (letters_visits g L marks n l) ≤ w) × Sane (and_then a (letters_go g L marks n l)).memory
      behind n l w q a s = on a.yes
        where
          on : (b : Bool) → (cond b (letters_visits g L marks n l a.memory) 0 ≤ w) × Sane (cond b (letters_go g L marks n l a.memory) a).memory
          on true = q a.memory s
          on false = (omega arith, s)

      -- one, and those behind it
      one-letter : (n l v w : ℕ) → Leaves (get_or L l 0) v → Letters n (suc l) w → Letters (suc n) l (cond (act l) v 0 + w)
      unfolding letters_visits letters_go
      one-letter n l v w p q M m = by (eqb (get_or marks l 0) 0)
        where
          by : (b : Bool) → let a = cond b (told true M) (leave_m steps g (get_or L l 0) M) in
              (cond b 0 (leave_visits steps g (get_or L l 0) M) + and_visits a (letters_visits g L marks n (suc l)) ≤ cond (not b) v 0 + w) × Sane (and_then a (letters_go g L marks n (suc l))).memory
          by true = let (i, j) = q M m in (omega (arith, i), j)
          by false = let (x, y) = p steps M m in let (i, j) = behind n (suc l) w q (leave_m steps g (get_or L l 0) M) y in (omega (arith, x, i), j)

      -- those of e, whose place is c and whose row is left in no more calls than twice that and p; and n behind them
      letters-few : (k r up : ℕ) (e : Exp) (c : Place) (p n w : ℕ) → Ordered k e → Built r up e → Solid e → Leaves r (2 * c.whole + p) → Letters n (k + size e) w
          → Letters (size e + n) k (spent act e c p + w)
      unfolding spent size
      letters-few k r up (letter l) c p n w o (_, b) s h q =
          letters-as (omega arith) o refl
          (one-letter n l.number (2 * c.whole + p) w (subst (λ i. Leaves i (2 * c.whole + p)) (sym b) h) (letters-as refl (omega (arith, o)) refl q))
      letters-few k r up (seq e f) c p n w (o, u) (b, (i, j), d, t) (s, z) h q =
          let right = more (suc r + rows e) _ (2 * (1 + c.whole) + p) (omega arith)
          (leaves_by r (suc r + rows e) _ f (omega arith) t (toward-up r (suc r + rows e) (suc r) _ b.kind i (λ x. omega (arith, x, a-row e)) h)) in
          let left = more (suc r) _ (2 * (left_of_seq e f c).whole + cond (nullable f) p 0) (left-few (nullable f) (asked_count f) c.whole p (let x = asked-some f in omega (arith, x)))
          (leaves_by r (suc r) _ e (omega arith) d (toward-right r (suc r) (suc r + rows e) _ b.kind i j (asks (suc r + rows e) r f t z (2 * (1 + c.whole) + p) (λ _. right)))) in
          letters-as (omega arith) refl (omega arith)
          (letters-few k (suc r) r e (left_of_seq e f c) (cond (nullable f) p 0) (size f + n) _ o d s left
          (letters-few (k + size e) (suc r + rows e) r f (right_of_seq e f c) p n w u t z right (letters-as refl (omega arith) refl q)))
      letters-few k r up (alt e f) c p n w (o, u) (b, (i, j), d, t) (s, z) h q =
          let side : (i : ℕ) (a : Exp) → r < i → Built i r a → Leaves i (2 * (1 + c.whole) + p)
          = λ i a l x. more i _ (2 * (1 + c.whole) + p) (omega arith) (leaves_by r i _ a l x (toward-side r i _ b.kind h)) in
          letters-as (omega arith) refl (omega arith)
          (letters-few k (suc r) r e (side_of_alt e c) p (size f + n) _ o d s (side (suc r) e (omega arith) d)
          (letters-few (k + size e) (suc r + rows e) r f (side_of_alt f c) p n w u t z (side (suc r + rows e) f (omega arith) t) (letters-as refl (omega arith) refl q)))
      letters-few k r up (star e) c p n w o (b, i, d) (z, s) h q =
          letters-few k (suc r) r e (body_of_star e c) p n w o d s
          (more (suc r) _ (2 * (body_of_star e c).whole + p) (body-few e c.whole p)
          (leaves_by r (suc r) _ e (omega arith) d (toward-again r (suc r) _ b.kind (asks r up (star e) (b, i, d) (z, s) (2 * c.whole + p) (λ _. h))))) q
      letters-few k r up (pipe e f) c p n w (o, u) (b, (i, j), d, t) (_, _, s, z) h q =
          let left = more (suc r) _ (2 * (left_of_pipe e c).whole + (asked_count f + p)) (omega arith)
          (leaves_by r (suc r) _ e (omega arith) d (toward-thread r (suc r) (suc r + rows e) _ f b.kind i j t z h)) in
          let thread = more (suc r + rows e) _ (2 * 1 + 0) (omega arith)
          (leaves_by r (suc r + rows e) _ f (omega arith) t (toward-over r (suc r + rows e) (suc r) b.kind i (λ x. omega (arith, x, a-row e)))) in
          letters-as (omega arith) refl (omega arith)
          (letters-few k (suc r) r e (left_of_pipe e c) (asked_count f + p) (size f + n) _ o d s left
          (letters-few (k + size e) (suc r + rows e) r f (thread_place f) 0 n w u t z thread (letters-as refl (omega arith) refl q)))

    -- ---- a monitor, m, whose own row is r

    module _ (r : ℕ) (m : Exp) (b : Built r r m) (s : Solid (star m)) where
      -- it is not nullable, so it is asked and not left
      own-asks : Asks r (1 + asked_count m)
      own-asks =
          subst (λ (z : Bool). Asks r (cond z (asked_count m + 0) (1 + asked_count m))) (is_false (nullable m) (T_not (nullable m) s.0))
          (asks r r m b s.1 0 (λ t. absurd (T_not (nullable m) s.0 t)))

      -- where it is left, it is asked again
      own-leaves : Leaves r (2 * (1 + asked_count m) + 0)
      unfolding leave_visits leave_m leave_on
      own-leaves zero M p = (omega arith, p)
      own-leaves (suc k) M p = let (l, q) = own_row r r m b in rw (lt-leb 1024 r l, q, eq-eqb r r refl) (let (x, y) = own-asks k M p in (omega (arith, x), y))

      -- if it is at its start it is asked, and its letters are left
      module _ (y : Layout) (same : y.places ≡ L) (marks : List ℕ) (i l : ℕ) (o : Ordered l m) (own : get_or y.own i 0 ≡ r) (first : get_or y.firsts i 0 ≡ l)
          (end : letters_end y.firsts y.monitors y.letters i ≡ l + size m) where
        pub monitor-few : (M : List ℕ) → Sane M
            → (monitor_visits g y marks i M ≤ cond (eqb (get_or marks (256 + i) 0) 0) 0 (1 + asked_count m) + spent_after (act marks) m) × Sane (monitor_goes g y marks i M).memory
        unfolding monitor_visits monitor_goes
        monitor-few M p =
            let c : letters_end y.firsts y.monitors y.letters i - get_or y.firsts i 0 ≡ size m = omega (arith, end, first) in
            rw (c, first, own, same) (by (eqb (get_or marks (256 + i) 0) 0))
          where
            letters : Letters marks (size m) l (spent_after (act marks) m)
            letters = letters-as marks (omega arith) refl (omega arith) (letters-few marks l r r m (own_place m) 0 0 0 o b s.1 own-leaves (no-letters marks (l + size m)))

            by : (b : Bool) → let a = cond b (told true M) (ask_m steps g r M) in
                (cond b 0 (ask_visits steps g r M) + and_visits a (letters_visits g L marks (size m) l) ≤ cond b 0 (1 + asked_count m) + spent_after (act marks) m)
                × Sane (and_then a (letters_go g L marks (size m) l)).memory
            by true = let (v, w) = letters M p in (omega (arith, v), w)
            by false = let (v, w) = own-asks steps M p in let (x, z) = behind marks (size m) l _ letters (ask_m steps g r M) w in (omega (arith, v, x), z)
