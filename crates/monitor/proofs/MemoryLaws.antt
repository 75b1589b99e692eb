-- The walk with a memory is right: what entering a row comes to, and each answer, is that of the walk without one; and the letters that it marks are those of the way, wherever there is one. Assumes nothing.
use mathlib.Core.Bool.{Bool, true, false, cond}
use mathlib.Core.List.{List, [], ◌∷◌}
use mathlib.Core.Option.{Option, none, some}
use mathlib.Core.Path.{◌≡◌, refl, sym, ap, ◌∙◌}
use mathlib.Core.Logic.{◌⊎◌, inl, inr, ⊎_elim}
use Prim.Native.Nat.{ℕ, zero, suc, ◌+◌, ◌<◌, ◌≤◌}
use native.Mathlib.Omega.{arith}
use lib.Dec.{eqb, leb}
use borrow.Author.Tests.{eqb-true, eqb-false, ne_eqb, lt-leb}
use lib.ListN.{get_or, set, length-set}
use lib.Seq.{get_or-set_same, get_or-set_other}
use Rattle.meaning.specs.Fit.{Tick, meets}
use Rattle.meaning.specs.Positions.{joined, Entered, met, passed, blocked, then_enter, or_enter, or_pass, goes_by}
use Rattle.meaning.specs.Table.{Under, Kind, is_letter, is_seq, is_alt, is_star, is_pipe, Table}
use Rattle.meaning.specs.RowWalk.{enter_by, leave_by, enter_row, ask_row, leave_row}
use Rattle.lexer.proofs.Bools.{eqb-sym}
use Rattle.meaning.proofs.ListLaws.{here, one-∈, is_false}
use Rattle.meaning.proofs.Ends.{EntersBy, LeavesBy, EnterEnds, AskEnds, LeaveEnds, goes_same, ends-enter, enter-calls, enter-unfolds, ask-unfolds, passes_on, leave-calls, leave-unfolds, own-calls, own-unfolds}
use Rattle.monitor.specs.Letters.{Given}
use Rattle.monitor.specs.Walk.{Came, came, told, Entry, Call, or_pass_code, or_enter_code, enter_on, remembered_entry, enter_m, ask_from, both, leave_to, leave_on, ask_m, leave_m}
use Rattle.monitor.proofs.Coded.{CodedAs, Coded}
use Rattle.monitor.proofs.Memory.{after-set, Rows, rows_of, entered-lit, Marked, Kept, Memory, Exactly, Enters, Goes, exactly-same, exactly-none, exactly-then, exactly-swapped, goes-not, goes_over}

-- ---- one thing after another, whatever Good says of every memory

module _ {Good : List ℕ → Type 0} where
  -- of `,`: the left operand, and where it passed the right one
  enter-then : (a : Entered) {b : Entered} {M : List ℕ} {x y : Came} → Enters Good a M x → Enters Good b x.memory y
      → Enters Good (then_enter a b) M (cond (eqb x.code 2) y x)
  enter-then (met l) p q = rw p.same (record { same = refl; marks = p.marks })
  enter-then passed p q = rw p.same (record { same = q.same; marks = exactly-then [] _ p.marks q.marks })
  enter-then blocked p q = rw p.same (record { same = refl; marks = p.marks })

  -- of `||`: the left operand, and where no letter was met the right one
  enter-or : (a b : Entered) {M : List ℕ} {x y : Came} → Enters Good a M x → Enters Good b x.memory y
      → Enters Good (or_enter a b) M (cond (eqb x.code 3) x (came (or_enter_code x.code y.code) y.memory))
  enter-or (met l) b p q = rw p.same (record { same = refl; marks = p.marks })
  enter-or passed (met l) p q = rw (p.same, q.same) (record { same = refl; marks = exactly-then [] _ p.marks q.marks })
  enter-or passed passed p q = rw (p.same, q.same) (record { same = refl; marks = exactly-then [] [] p.marks q.marks })
  enter-or passed blocked p q = rw (p.same, q.same) (record { same = refl; marks = exactly-then [] [] p.marks q.marks })
  enter-or blocked (met l) p q = rw (p.same, q.same) (record { same = refl; marks = exactly-then [] _ p.marks q.marks })
  enter-or blocked passed p q = rw (p.same, q.same) (record { same = refl; marks = exactly-then [] [] p.marks q.marks })
  enter-or blocked blocked p q = rw (p.same, q.same) (record { same = refl; marks = exactly-then [] [] p.marks q.marks })

  -- of a star, whose body is entered
  enter-star : (a : Entered) {M : List ℕ} {x : Came} → Enters Good a M x → Enters Good (or_pass a) M (came (or_pass_code x.code) x.memory)
  enter-star (met l) p = record { same = ap or_pass_code p.same; marks = p.marks }
  enter-star passed p = record { same = ap or_pass_code p.same; marks = p.marks }
  enter-star blocked p = record { same = ap or_pass_code p.same; marks = p.marks }

  -- a row is asked: it is entered, and left where it passed
  ask-from : (a : Entered) {o : Option (List ℕ)} {M : List ℕ} {x : Came} (leave : Call) (r : ℕ) → Enters Good a M x
      → (a ≡ passed → Goes Good o x.memory (leave r x.memory)) → Goes Good (goes_by a o) M (ask_from leave r x)
  ask-from (met l) leave r p q = rw p.same (record { yes = refl; marks = λ s. p.marks })
  ask-from passed leave r p q = rw p.same (record { yes = (q refl).yes; marks = λ s. exactly-then [] _ p.marks ((q refl).marks s) })
  ask-from blocked leave r p q = rw p.same (goes-not refl)

  -- a thread is entered, and with it the rest goes on, which has the way c; a thread that passed has ended
  enter-both : (a : Entered) (c : Option (List ℕ)) {M : List ℕ} {x : Came} (leave : Call) (u : ℕ) → Enters Good a M x → Goes Good c x.memory (leave u x.memory)
      → Goes Good (joined c (goes_by a (some []))) M (both leave u x)
  enter-both (met l) none leave u p q = rw p.same (goes-not q.yes)
  enter-both (met l) (some ns) leave u p q = rw p.same (record { yes = q.yes; marks = λ s. exactly-swapped (l ∷ []) ns (exactly-then (l ∷ []) ns p.marks (q.marks tt)) })
  enter-both passed none leave u p q = rw p.same (goes-not q.yes)
  enter-both passed (some ns) leave u p q = rw p.same (record { yes = q.yes; marks = λ s. exactly-swapped [] ns (exactly-then [] ns p.marks (q.marks tt)) })
  enter-both blocked none leave u p q = rw p.same (goes-not refl)
  enter-both blocked (some ns) leave u p q = rw p.same (goes-not refl)

-- ---- with a memory of n rows

module _ (shut : ℕ → Bool) (F : Rows) (lit : (r : ℕ) → (F r).code ≡ 0 → ⊥) (n : ℕ) (few : n ≤ 1024) where
  -- what is known of a row is stored
  stored : (r : ℕ) → r < n → {M ns N : List ℕ} (k : ℕ) → Kept (F r) k N → Exactly (Memory shut F n) M ns N → Exactly (Memory shut F n) M ns (set N r k)
  stored r h {M} {ns} {N} k c x =
      let m = x.good in
      let mark : (l : ℕ) → get_or (set N r k) (1024 + l) 0 ≡ get_or N (1024 + l) 0 = λ l. get_or-set_other N r (1024 + l) k 0 (λ e. omega arith) in
      record {
        good = record {
          long = length-set N r k ∙ m.long;
          rows = λ i j. ⊎_elim
              (λ z. rw (z.1, z.0) (λ u. record { same = c.same; marked = λ l w. mark l ∙ c.marked l w }))
              (λ z. rw z (λ u. let d = m.rows i j u in record { same = d.same; marked = λ l w. mark l ∙ d.marked l w }))
              (after-set N r i k (omega (arith, m.long)));
          kept = λ i j u. ⊎_elim
              (λ z. rw z.1 (λ q. lit r (sym c.same ∙ q)))
              (λ z. rw z (m.kept i j u))
              (after-set N r i k (omega (arith, m.long)));
          bits = λ l b. rw (mark l) (m.bits l b);
        };
        grows = λ l z. mark l ∙ x.grows l z;
        adds = λ l i. mark l ∙ x.adds l i;
        only = λ l z. x.only l (sym (mark l) ∙ z);
      }

  -- letter l is marked, and no other
  marked-now : (l : ℕ) → l < 256 → {M : List ℕ} → Memory shut F n M → Exactly (Memory shut F n) M (l ∷ []) (set M (1024 + l) 1)
  marked-now l small {M} m = record {
    good = record {
      long = length-set M (1024 + l) 1 ∙ m.long;
      rows = λ r h. rw (get_or-set_other M (1024 + l) r 1 0 (λ e. omega arith)) (λ u. let d = m.rows r h u in record { same = d.same; marked = λ k w. grown k (d.marked k w) });
      kept = λ r h u. rw (get_or-set_other M (1024 + l) r 1 0 (λ e. omega arith)) (m.kept r h u);
      bits = λ k b. ⊎_elim (λ y. omega (arith, y.1)) (λ y. omega (arith, y, m.bits k b)) (at k);
    };
    grows = grown;
    adds = λ k i. rw (one-∈ i) (get_or-set_same M (1024 + l) 1 0 (omega (arith, m.long)));
    only = λ k z. ⊎_elim (λ y. inr (here (omega (arith, y.0)))) (λ y. inl (sym y ∙ z)) (at k);
  }
    where
      at : (k : ℕ) → ((1024 + k ≡ 1024 + l) × Marked (set M (1024 + l) 1) k) ⊎ (get_or (set M (1024 + l) 1) (1024 + k) 0 ≡ get_or M (1024 + k) 0)
      at k = after-set M (1024 + l) (1024 + k) 1 (omega (arith, m.long))

      grown : (k : ℕ) → Marked M k → Marked (set M (1024 + l) 1) k
      grown k z = ⊎_elim (λ y. y.1) (λ y. y ∙ z) (at k)

  -- a letter is entered, and met or not
  letter-right : (l : ℕ) → l < 256 → (b : Bool) {M : List ℕ} → Memory shut F n M → Enters (Memory shut F n) (cond b (met l) blocked) M (cond b (came 3 (set M (1024 + l) 1)) (came 1 M))
  letter-right l h true m = record { same = refl; marks = marked-now l h m }
  letter-right l h false m = record { same = refl; marks = exactly-none m }

-- ---- the walk over a table

module _ (shut : ℕ → Bool) (R : Table) (g : Given) (t : Tick) (n : ℕ) (coded : Coded R g t n) (N : ℕ) where
  -- the memory is right; a call is, with any such memory: entering row r, asking it, leaving it
  abbrev Good : List ℕ → Type 0
  Good = Memory shut (rows_of shut N R t) n

  lit : (r : ℕ) → (rows_of shut N R t r).code ≡ 0 → ⊥
  lit r = entered-lit (enter_row shut N R r t)

  abbrev EnterRight : Entry → ℕ → Type 0
  EnterRight f r = (M : List ℕ) → Good M → Enters Good (enter_row shut N R r t) M (f r M)

  abbrev AskRight : Call → ℕ → Type 0
  AskRight f r = (M : List ℕ) → Good M → Goes Good (ask_row shut N R r t) M (f r M)

  abbrev LeaveRight : Call → ℕ → Type 0
  LeaveRight f r = (M : List ℕ) → Good M → Goes Good (leave_row shut N R r t) M (f r M)

  -- what is kept, or else what f comes to, which is kept from then on
  entry-remembered : (f : Entry) (r : ℕ) → r < n → (shut r ≡ false → EnterRight f r) → EnterRight (remembered_entry f) r
  entry-remembered f r h p M m = rw (lt-leb 1024 r (omega (arith, coded.few))) (go (eqb (get_or M r 0) 0) refl)
    where
      go : (b : Bool) → eqb (get_or M r 0) 0 ≡ b
          → Enters Good (enter_row shut N R r t) M (cond b (came (f r M).code (set (f r M).memory r (f r M).code)) (came (get_or M r 0) M))
      go true e =
          let q = p (is_false (shut r) (λ u. m.kept r h u (eqb-true (get_or M r 0) 0 e))) M m in
          record { same = q.same; marks = stored shut (rows_of shut N R t) lit n coded.few r h (f r M).code (record { same = q.same; marked = q.marks.adds }) q.marks }
      go false e = let c = m.rows r h (eqb-false (get_or M r 0) 0 e) in record { same = c.same; marks = exactly-same m c.marked }

  -- ---- one call by its row's kind, where the calls that it makes are right; a, b, c: what is known of each

  -- a row of kind k is entered
  enter_on-right : (enter : Entry) (k : Kind) (left right x : ℕ) {a b : Type 0} → CodedAs g t n left right x k
      → (left < n → a → EnterRight enter left) → (right < n → b → EnterRight enter right) → EntersBy k a b
      → (M : List ℕ) → Good M → Enters Good (enter_by k t (enter_row shut N R left t) (enter_row shut N R right t)) M (enter_on g enter x M)
  unfolding enter_on
  enter_on-right enter (is_letter l) left right x c f h e M m =
      rw (c.0, c.1, c.3, lt-leb 256 l.number c.2) (letter-right shut (rows_of shut N R t) lit n coded.few l.number c.2 (meets l t) m)
  enter_on-right enter is_seq left right x c f h e M m =
      let p = f c.3 e.0 M m in
      rw (c.0, c.1, c.2) (enter-then (enter_row shut N R left t) p (h c.4 e.1 (enter left M).memory p.marks.good))
  enter_on-right enter is_alt left right x c f h e M m =
      let p = f c.3 e.0 M m in
      rw (c.0, c.1, c.2) (enter-or (enter_row shut N R left t) (enter_row shut N R right t) p (h c.4 e.1 (enter left M).memory p.marks.good))
  enter_on-right enter is_star left right x c f h e M m = rw (c.0, c.1) (enter-star (enter_row shut N R left t) (f c.2 e M m))
  enter_on-right enter is_pipe left right x c f h e M m = rw (c.0, c.1) (f c.3 e M m)

  -- an operand of row u, of kind k, is left; o: it is the left one
  leave_to-right : (enter : Entry) (ask leave : Call) (k : Kind) (o : Bool) (left right x u r : ℕ) {a b c : Type 0} → eqb r left ≡ o → CodedAs g t n left right x k
      → (right < n → a → AskRight ask right) → (b → LeaveRight leave u) → (c → AskRight ask u)
      → (k ≡ is_pipe → o ≡ true → right < n → a → EnterRight enter right × (ask_row shut N R right t ≡ goes_by (enter_row shut N R right t) (some []))) → LeavesBy k o a b c
      → (M : List ℕ) → Good M → Goes Good (leave_by k o (ask_row shut N R right t) (leave_row shut N R u t) (ask_row shut N R u t)) M (leave_to enter ask leave x u r M)
  unfolding leave_to
  leave_to-right enter ask leave (is_letter l) o left right x u r d c f h i j e M m = rw c.0 (goes-not refl)
  leave_to-right enter ask leave is_seq true left right x u r d c f h i j e M m = rw (c.0, c.1, c.2, eqb-sym left r, d) (f c.4 e M m)
  leave_to-right enter ask leave is_seq false left right x u r d c f h i j e M m = rw (c.0, c.1, eqb-sym left r, d) (h e M m)
  leave_to-right enter ask leave is_alt o left right x u r d c f h i j e M m = rw c.0 (h e M m)
  leave_to-right enter ask leave is_star o left right x u r d c f h i j e M m = rw c.0 (i e M m)
  leave_to-right enter ask leave is_pipe true left right x u r d c f h i j e M m =
      let (p, q) = j refl refl c.4 e.1 in
      let s = p M m in
      rw (c.0, c.1, c.2, eqb-sym left r, d, q) (enter-both (enter_row shut N R right t) (leave_row shut N R u t) leave u s (h e.0 (enter right M).memory s.marks.good))
  leave_to-right enter ask leave is_pipe false left right x u r d c f h i j e M m = rw (c.0, c.1, eqb-sym left r, d) (goes_over m)

  -- ---- entering row r, k calls deep: where they are enough, it comes to what it does in the table

  enters-right : (k r : ℕ) → r < n → EnterEnds k R r → k ≤ N → EnterRight (enter_m k g) r
  unfolding enter_m EnterEnds
  enters-right zero r h e le = absurd e
  enters-right (suc k) r h e le =
      entry-remembered (λ q. enter_on g (enter_m k g) (get_or g.table q 0)) r h (λ u M m.
      rw (enter-unfolds shut R r (R r).kind refl (suc k) N e le t, u)
      (enter_on-right (enter_m k g) (R r).kind (R r).left (R r).right (get_or g.table r 0) (coded.rows r h).coded
      (λ j w. enters-right k (R r).left j w (omega arith)) (λ j w. enters-right k (R r).right j w (omega arith)) ((enter-calls shut R r (R r).kind refl k).0 e) M m))

  -- ---- leaving row r, where the calls that it makes are right with one call fewer; u is the row above it

  -- of row i, which is the thread of the `@` in row u: where entering it passes, it has ended
  thread-asked : (u i : ℕ) → (R u).kind ≡ is_pipe → Under R u i → (i ≡ (R u).left → ⊥) → (k : ℕ) → AskEnds shut k R i t → k ≤ N
      → EnterEnds k R i × (ask_row shut N R i t ≡ goes_by (enter_row shut N R i t) (some []))
  unfolding AskEnds
  thread-asked u i is under d zero e le = absurd e
  thread-asked u i is under d (suc k) e le = (
    (ends-enter shut R k (suc k) i e.0 (omega arith)).0,
    ask-unfolds shut R i (suc k) N t e le
        ∙ goes_same (enter_row shut N R i t) refl
        (λ p. leave-unfolds shut R u i is_pipe is under false (ne_eqb i (R u).left d) k N t (passes_on shut R i k N t e (omega arith) p) (omega arith)),
  )

  module _ (enter : Entry) (ask leave : Call) (k r : ℕ) (below : r < n) (enough : suc k ≤ N) (enters : (i : ℕ) → i < n → EnterEnds k R i → EnterRight enter i)
      (asks : (i : ℕ) → i < n → AskEnds shut k R i t → AskRight ask i) (leaves : (i : ℕ) → i < n → LeaveEnds shut k R i t → LeaveRight leave i)
      (e : LeaveEnds shut (suc k) R r t) (u : ℕ) (up : (R r).up ≡ u) (above : u < n) where
    -- an `@` whose left operand it is has a thread
    thread-right : (R u).kind ≡ is_pipe → eqb r (R u).left ≡ true → (R u).right < n → AskEnds shut k R (R u).right t
        → EnterRight enter (R u).right × (ask_row shut N R (R u).right t ≡ goes_by (enter_row shut N R (R u).right t) (some []))
    thread-right is o h w =
        let (p, q, s) = (coded.rows u above).threaded is in
        let v : (R (R u).left).up ≡ u = ap (λ i. (R i).up) (sym (eqb-true r (R u).left o)) ∙ up in
        let (x, y) = thread-asked u (R u).right is (p ∙ v, λ z. omega (arith, q, s, v, z)) (λ z. omega (arith, s, z)) k w (omega arith) in
        (enters (R u).right h x, y)

    -- it is an operand
    operand-right : (r ≡ u → ⊥) → LeaveRight (leave_to enter ask leave (get_or g.table u 0) u) r
    operand-right d M m =
        rw (leave-unfolds shut R u r (R u).kind refl (up, d) (eqb r (R u).left) refl (suc k) N t e enough)
        (leave_to-right enter ask leave (R u).kind (eqb r (R u).left) (R u).left (R u).right (get_or g.table u 0) u r refl
        (coded.rows u above).coded (asks (R u).right) (leaves u above) (asks u above) thread-right
        ((leave-calls shut R u r (R u).kind refl (up, d) (eqb r (R u).left) refl k t).0 e) M m)

    -- or a monitor's own row
    either-right : LeaveRight (leave_on g enter ask leave u) r
    unfolding leave_on
    either-right M m = go (eqb u r) refl
      where
        go : (o : Bool) → eqb u r ≡ o → Goes Good (leave_row shut N R r t) M (cond o (ask r M) (cond (leb 1024 u) (told false M) (leave_to enter ask leave (get_or g.table u 0) u r M)))
        go true z =
            let own = up ∙ eqb-true u r z in
            rw (own-unfolds shut R r own (suc k) N t e enough) (asks r below ((own-calls shut R r own k t).0 e) M m)
        go false z = rw (lt-leb 1024 u (omega (arith, coded.few))) (operand-right (λ d. eqb-false u r z (sym d)) M m)

  mutual
    unfolding ask_m AskEnds

    -- asking row r
    pub asks-right : (k r : ℕ) → r < n → AskEnds shut k R r t → k ≤ N → AskRight (ask_m k g) r
    asks-right zero r h e le = absurd e
    asks-right (suc k) r h e le = λ M m.
        let p = enters-right k r h e.0 (omega arith) M m in
        rw (ask-unfolds shut R r (suc k) N t e le)
        (ask-from (enter_row shut N R r t) (leave_m k g) r p (λ q. leaves-right k r h (passes_on shut R r k N t e (omega arith) q) (omega arith) (enter_m k g r M).memory p.marks.good))

    -- leaving it
    pub leaves-right : (k r : ℕ) → r < n → LeaveEnds shut k R r t → k ≤ N → LeaveRight (leave_m k g) r
    leaves-right zero r h e le = absurd e
    leaves-right (suc k) r h e le = λ M m.
        rw (lt-leb 1024 r (omega (arith, coded.few)), (coded.rows r h).up)
        (either-right (enter_m k g) (ask_m k g) (leave_m k g) k r h le (λ i j w. enters-right k i j w (omega arith)) (λ i j w. asks-right k i j w (omega arith))
        (λ i j w. leaves-right k i j w (omega arith)) e (R r).up refl (coded.rows r h).up_within M m)
