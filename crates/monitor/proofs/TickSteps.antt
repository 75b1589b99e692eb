-- A tick, by the code's loops and branches. Assumes nothing.
use mathlib.Core.Path.{◌≡◌, refl, sym, ◌∙◌, ap, ap₂}
use mathlib.Core.Bool.{Bool, true, false, not, cond}
use mathlib.Core.List.{List, [], ◌∷◌}
use Prim.Native.Nat.{ℕ, suc, ◌+◌, ◌-◌, ◌/◌, ◌^◌, ◌<◌, ◌≤◌, min}
use native.Mathlib.Omega.{arith}
use native.Mathlib.Nat.{div-lt_iff_lt-mul, div-eq_of_lt}
use borrow.Author.Tests.{eq-eqb, ne_eqb, lt-ltb, le-ltb, ltb-true, ltb-false, lt-leb, le-leb, leb-true, leb-false}
use lib.Dec.{eqb, leb, ltb}
use lib.ListN.{get_or, set}
use lib.Pow.{pow_pos, pow_mono}
use lib.Seq.{set-get_or}
use Rattle.lexer.proofs.Bools.{taken, left}
use Rattle.refusals.specs.declared.Refusal.{Refusal}
use Rattle.refusals.specs.declared.Refusal.TheVariants.{Overlong, Knot, Misplaced, Unknown, Twice, Oversize, Crowded, LongRun, Impossible, Hollow, OpenEnd, Fork, Torn, IdleByte, Stray, Stopped, Full, ShortBin, Stretch, NotSingle}
use Rattle.refusals.specs.Refusals.{number_of}
use Rattle.meaning.specs.Fit.{Verdict, ok as clean, bad as broken}
use Rattle.meaning.specs.Calls.{Reply, ok, bad, refused, is_stray, is_full, State, reply, after, reply_of as verdict_reply, touched_by}
use Rattle.words.specs.Words.{part1}
use Rattle.counts.specs.Counts.{counts_of}
use Rattle.monitor.specs.Letters.{Given, given, threaded, unthreaded}
use Rattle.monitor.specs.Walk.{Told, told, ask_m, leave_m}
use Rattle.monitor.specs.Ticks.{steps, Layout, layout, places_in, own_in, layout_in, first_marked, if_marked, each_marked, shut_row, shut_code, shut_for, shut_busy, and_then, letter_goes, letters_go, start_goes, letters_end, monitor_goes, Reached, reached, reached_by, monitors_go, marks_after, write_marked, count_met, writers, Move, move, move_by, step_within, step_of, within, stuck_at}
use Rattle.monitor.specs.Limited.{tick_mask, answer_by, fine, is_bad, verdict_by, windows_after, walk_of, mask_at, answer_at, Stepped, stepped, tick_of}
use Rattle.windows.specs.Windows.{counted_in, first_beyond}
use Rattle.rules.specs.declared.Watch.{Watch}
use Rattle.monitor.specs.Tally.{counts, touched_of}
use Rattle.monitor.specs.Calls.{Moving, tables_of, with_state, refused_by, state_of, judge, onward, answer_from, given_of, layout_of, LaidOut, reply_of, touched_on, touched_for, watch_after}
use Rattle.monitor.proofs.Marked.{each-split, past-some, to-first}

-- ---- what is done for marked letters; f is what is done for one

module _ (K : List ℕ) (f : ℕ → List ℕ → List ℕ) where
  pub not_done : (l : ℕ) (σ : List ℕ) → get_or K l 0 ≡ 0 → σ ≡ if_marked K f l σ
  not_done l σ z = sym (taken (eqb (get_or K l 0) 0) σ _ (eq-eqb (get_or K l 0) 0 z))

  pub done : (l : ℕ) (σ τ : List ℕ) → (get_or K l 0 ≡ 0 → ⊥) → τ ≡ f l σ → τ ≡ if_marked K f l σ
  done l σ τ z e = e ∙ sym (left (eqb (get_or K l 0) 0) σ _ (ne_eqb (get_or K l 0) 0 z))

  -- nothing for an unmarked one
  idle-done : (σ : List ℕ) (n l : ℕ) → get_or K l 0 ≡ 0 → each_marked K f (suc n) l σ ≡ each_marked K f n (suc l) σ
  unfolding each_marked
  idle-done σ n l z = ap (each_marked K f n (suc l)) (sym (not_done l σ z))

  -- unmarked ones are passed over
  pub done_none : (k n i : ℕ) (σ : List ℕ) → i + k ≤ n → ((j : ℕ) → j < k → get_or K (i + j) 0 ≡ 0) → each_marked K f (n - i) i σ ≡ each_marked K f (n - (i + k)) (i + k) σ
  done_none k n i σ = past-some K (λ m l. each_marked K f m l σ) (idle-done σ) k n i

  pub to-first-done : (n i : ℕ) (σ : List ℕ) (j : ℕ) → j ≡ first_marked K (n - i) i → each_marked K f (n - i) i σ ≡ each_marked K f (n - j) j σ
  to-first-done n i σ j = to-first K (λ m l. each_marked K f m l σ) (idle-done σ) n i j

  pub done_first : (n : ℕ) (σ : List ℕ) (j : ℕ) → j ≡ first_marked K (n - 0) 0 → each_marked K f n 0 σ ≡ each_marked K f (n - j) j σ
  done_first n σ j e = let d : n ≡ n - 0 = omega arith in ap (λ (m : ℕ). each_marked K f m 0 σ) d ∙ to-first-done n 0 σ j e

  -- done for m letters, and then for those that are left
  pub done-some : (m n i : ℕ) (σ τ : List ℕ) → i + m ≤ n → τ ≡ each_marked K f m i σ → each_marked K f (n - i) i σ ≡ each_marked K f (n - (i + m)) (i + m) τ
  done-some m n i σ τ h e =
      let d : n - i ≡ m + (n - (i + m)) = omega arith in
      ap (λ (k : ℕ). each_marked K f k i σ) d ∙ each-split K f m (n - (i + m)) i σ ∙ ap (each_marked K f (n - (i + m)) (i + m)) (sym e)

  pub done-one : (n i : ℕ) (σ τ : List ℕ) → i < n → τ ≡ if_marked K f i σ → each_marked K f (n - i) i σ ≡ each_marked K f (n - (i + 1)) (i + 1) τ
  unfolding each_marked
  done-one n i σ τ h e = done-some 1 n i σ τ (omega (arith, h)) e

  pub done_more : (n i : ℕ) (σ τ : List ℕ) → i < n → τ ≡ if_marked K f i σ → (j : ℕ) → j ≡ first_marked K (n - (i + 1)) (i + 1)
      → each_marked K f (n - i) i σ ≡ each_marked K f (n - j) j τ
  done_more n i σ τ h e j q = done-one n i σ τ h e ∙ to-first-done n (i + 1) τ j q

  -- the same, up to j
  pub done-to : (m n i j : ℕ) (σ τ : List ℕ) → j ≡ i + m → j ≤ n → τ ≡ each_marked K f m i σ → each_marked K f (n - i) i σ ≡ each_marked K f (n - j) j τ
  done-to m n i j σ τ q h e = done-some m n i σ τ (omega (arith, q, h)) e ∙ ap (λ (k : ℕ). each_marked K f (n - k) k τ) (sym q)

  pub not-yet : (l : ℕ) (σ : List ℕ) → σ ≡ each_marked K f 0 l σ
  unfolding each_marked
  not-yet l σ = refl

  -- done for n letters, and for the next one
  pub and-next : (n l : ℕ) (σ ρ τ : List ℕ) → ρ ≡ each_marked K f n l σ → τ ≡ if_marked K f (l + n) ρ → τ ≡ each_marked K f (n + 1) l σ
  unfolding each_marked
  and-next n l σ ρ τ p q = q ∙ ap (if_marked K f (l + n)) p ∙ sym (each-split K f n 1 l σ)

  -- all are done, and x is what was to be done
  pub done-up : (n i : ℕ) (x τ : List ℕ) → n ≤ i → x ≡ each_marked K f (n - i) i τ → τ ≡ x
  unfolding each_marked
  done-up n i x τ l e =
      let d : n - i ≡ 0 = omega arith in
      sym (e ∙ ap (λ (m : ℕ). each_marked K f m i τ) d)

-- ---- threads that are busy

pub no-such-row : (r : ℕ) (M : List ℕ) → 1024 ≤ r → M ≡ shut_row r M
no-such-row r M h = sym (left (eqb r 0) M _ (ne_eqb r 0 (λ z. omega (arith, z, h))) ∙ taken (leb 1024 r) M _ (le-leb 1024 r h))

pub shut-row : (r c : ℕ) (M : List ℕ) → r < 1024 → c ≡ shut_code r (get_or M r 0) → set M r c ≡ shut_row r M
shut-row r c M h e = ap (set M r) e ∙ by (eqb r 0) ∙ ap (cond (eqb r 0) M) (sym (left (leb 1024 r) M _ (lt-leb 1024 r h)))
  where
    by : (b : Bool) → set M r (cond b (get_or M r 0) 1) ≡ cond b M (set M r 1)
    by true = set-get_or M r 0
    by false = refl

-- ---- active positions go on

-- a mark that is not there
pub letter-stays : (g : Given) (P K : List ℕ) (l : ℕ) (M : List ℕ) → get_or K l 0 ≡ 0 → told true M ≡ letter_goes g P K l M
letter-stays g P K l M z = sym (taken (eqb (get_or K l 0) 0) (told true M) _ (eq-eqb (get_or K l 0) 0 z))

pub letter-left : (g : Given) (P K : List ℕ) (l r : ℕ) (M : List ℕ) (t : Told) → (get_or K l 0 ≡ 0 → ⊥) → r ≡ get_or P l 0 → t ≡ leave_m steps g r M
    → t ≡ letter_goes g P K l M
letter-left g P K l r M t z d e =
    e ∙ ap (λ (n : ℕ). leave_m steps g n M) d ∙ sym (left (eqb (get_or K l 0) 0) (told true M) _ (ne_eqb (get_or K l 0) 0 z))

pub start-stays : (g : Given) (O K : List ℕ) (i : ℕ) (M : List ℕ) → get_or K (256 + i) 0 ≡ 0 → told true M ≡ start_goes g O K i M
start-stays g O K i M z = sym (taken (eqb (get_or K (256 + i) 0) 0) (told true M) _ (eq-eqb (get_or K (256 + i) 0) 0 z))

pub start-asked : (g : Given) (O K : List ℕ) (i r : ℕ) (M : List ℕ) (t : Told) → (get_or K (256 + i) 0 ≡ 0 → ⊥) → r ≡ get_or O i 0 → t ≡ ask_m steps g r M
    → t ≡ start_goes g O K i M
start-asked g O K i r M t z d e =
    e ∙ ap (λ (n : ℕ). ask_m steps g n M) d ∙ sym (left (eqb (get_or K (256 + i) 0) 0) (told true M) _ (ne_eqb (get_or K (256 + i) 0) 0 z))

-- one told, and then the rest
told-yes : (t : Told) (b : Bool) (M : List ℕ) (f : List ℕ → Told) → told b M ≡ t → b ≡ true → and_then t f ≡ f M
told-yes t b M f e y = ap (λ (s : Told). and_then s f) (sym e) ∙ taken b (f M) (told b M) y

told-no : (t : Told) (b : Bool) (M : List ℕ) (f : List ℕ → Told) → told b M ≡ t → b ≡ false → and_then t f ≡ told false M
told-no t b M f e y = ap (λ (s : Told). and_then s f) (sym e) ∙ left b (f M) (told b M) y ∙ ap (λ (c : Bool). told c M) y

-- an unmarked letter is passed over
idle-letter : (g : Given) (P K M : List ℕ) (n l : ℕ) → get_or K l 0 ≡ 0 → letters_go g P K (suc n) l M ≡ letters_go g P K n (suc l) M
unfolding letters_go
idle-letter g P K M n l z = told-yes (letter_goes g P K l M) true M (letters_go g P K n (suc l)) (letter-stays g P K l M z) refl

pub letters-first : (g : Given) (P K : List ℕ) (to i : ℕ) (M : List ℕ) (j : ℕ) → j ≡ first_marked K (to - i) i → letters_go g P K (to - i) i M ≡ letters_go g P K (to - j) j M
letters-first g P K to i M j = to-first K (λ n l. letters_go g P K n l M) (idle-letter g P K M) to i j

module _ (g : Given) (P K : List ℕ) (to i : ℕ) (M : List ℕ) where
  pub letters-more : (b : Bool) (N : List ℕ) → i < to → told b N ≡ letter_goes g P K i M → b ≡ true → (j : ℕ) → j ≡ first_marked K (to - (i + 1)) (i + 1)
      → letters_go g P K (to - i) i M ≡ letters_go g P K (to - j) j N
  unfolding letters_go
  letters-more b N l e y j f =
      let d : to - i ≡ suc (to - (i + 1)) = omega arith in
      let s : suc i ≡ i + 1 = omega arith in
      ap (λ (m : ℕ). letters_go g P K m i M) d ∙ told-yes (letter_goes g P K i M) b N (letters_go g P K (to - (i + 1)) (suc i)) e y ∙ ap (λ (j : ℕ). letters_go g P K (to - (i + 1)) j N) s
      ∙ letters-first g P K to (i + 1) N j f

  pub letters-stop : (b : Bool) (N : List ℕ) (t : Told) → i < to → told b N ≡ letter_goes g P K i M → b ≡ false
      → t ≡ letters_go g P K (to - i) i M → told false N ≡ t
  unfolding letters_go
  letters-stop b N t l e y inv =
      let d : to - i ≡ suc (to - (i + 1)) = omega arith in
      sym (inv ∙ ap (λ (m : ℕ). letters_go g P K m i M) d ∙ told-no (letter_goes g P K i M) b N (letters_go g P K (to - (i + 1)) (suc i)) e y)

  pub letters-all : (t : Told) → to ≤ i → t ≡ letters_go g P K (to - i) i M → told true M ≡ t
  unfolding letters_go
  letters-all t l inv =
      let d : to - i ≡ 0 = omega arith in
      sym (inv ∙ ap (λ (m : ℕ). letters_go g P K m i M) d)

-- where a monitor's letters end
module _ (m l i x r : ℕ) where
  pub end-before : i < 31 → i + 1 < m → r ≡ min x 256 → (r ≡ cond (ltb (suc i) (min m 32)) (min x 256) (min l 256)) × (r ≤ 256)
  end-before g h e = (e ∙ sym (taken (ltb (suc i) (min m 32)) (min x 256) (min l 256) (lt-ltb (suc i) (min m 32) (omega arith))), omega (arith, e))

  pub end_last : min m 32 ≤ i + 1 → r ≡ min l 256 → (r ≡ cond (ltb (suc i) (min m 32)) (min x 256) (min l 256)) × (r ≤ 256)
  end_last h e = (e ∙ sym (left (ltb (suc i) (min m 32)) (min x 256) (min l 256) (le-ltb (suc i) (min m 32) (omega arith))), omega (arith, e))

  -- x is the first letter of the next one, j
  pub ends_by : (F : List ℕ) (j : ℕ) → j ≡ min i 30 + 1 → x ≡ get_or F j 0 → r ≡ cond (ltb (suc i) (min m 32)) (min x 256) (min l 256) → r ≡ letters_end F (min m 32) (min l 256) i
  ends_by F j q d e = e ∙ by (ltb (suc i) (min m 32)) refl
    where
      by : (b : Bool) → ltb (suc i) (min m 32) ≡ b → cond b (min x 256) (min l 256) ≡ cond b (min (get_or F (suc i) 0) 256) (min l 256)
      by true h =
          let s = ltb-true (suc i) (min m 32) h in
          let n : j ≡ suc i = omega (arith, q, s) in
          ap (λ (k : ℕ). min k 256) (d ∙ ap (λ (k : ℕ). get_or F k 0) n)
      by false h = refl

-- the same by the first letters of all
pub ends-before : (F : List ℕ) (m l i r x : ℕ) → i < 31 → i + 1 < m → x ≡ get_or F (i + 1) 0 → r ≡ min x 256 → (r ≡ letters_end F (min m 32) l i) × (r ≤ 256)
ends-before F m l i r x g h d e =
    let s : i + 1 ≡ suc i = omega arith in
    (e ∙ ap (λ (n : ℕ). min n 256) (d ∙ ap (λ (j : ℕ). get_or F j 0) s) ∙ sym (taken (ltb (suc i) (min m 32)) (min (get_or F (suc i) 0) 256) l (lt-ltb (suc i) (min m 32) (omega arith))), omega (arith, e))

pub ends_last : (F : List ℕ) (m l i r : ℕ) → min m 32 ≤ i + 1 → r ≡ min l 256 → (r ≡ letters_end F (min m 32) (min l 256) i) × (r ≤ 256)
ends_last F m l i r h e = (e ∙ sym (left (ltb (suc i) (min m 32)) (min (get_or F (suc i) 0) 256) (min l 256) (le-ltb (suc i) (min m 32) (omega arith))), omega (arith, e))

module _ (g : Given) (y : Layout) (K : List ℕ) (i : ℕ) (M : List ℕ) where
  abbrev then-letters : List ℕ → Told
  then-letters = letters_go g y.places K (letters_end y.firsts y.monitors y.letters i - get_or y.firsts i 0) (get_or y.firsts i 0)

  pub monitor-stops : (b : Bool) (N : List ℕ) → told b N ≡ start_goes g y.own K i M → b ≡ false → told false N ≡ monitor_goes g y K i M
  unfolding monitor_goes
  monitor-stops b N e f = sym (told-no (start_goes g y.own K i M) b N then-letters e f)

  pub monitor-on : (b : Bool) (N : List ℕ) (t : Told) (from to : ℕ) → told b N ≡ start_goes g y.own K i M → b ≡ true
      → from ≡ get_or y.firsts i 0 → y.monitors ≤ 32 → y.letters ≤ 256 → to ≡ letters_end y.firsts (min y.monitors 32) (min y.letters 256) i
      → t ≡ letters_go g y.places K (to - from) from N → t ≡ monitor_goes g y K i M
  unfolding monitor_goes
  monitor-on b N t from to e f p few short q h =
      let m : min y.monitors 32 ≡ y.monitors = omega (arith, few) in
      let l : min y.letters 256 ≡ y.letters = omega (arith, short) in
      h ∙ ap₂ (λ (u v : ℕ). letters_go g y.places K (v - u) u N) p (q ∙ ap₂ (λ (j k : ℕ). letters_end y.firsts j k i) m l) ∙ sym (told-yes (start_goes g y.own K i M) b N then-letters e f)

  reached-yes : (t : Told) (b : Bool) (N : List ℕ) (f : List ℕ → Reached) → told b N ≡ t → b ≡ true → reached_by i t f ≡ f N
  reached-yes t b N f e h = ap (λ (s : Told). reached_by i s f) (sym e) ∙ taken b (f N) (reached i N) h

  reached-no : (t : Told) (b : Bool) (N : List ℕ) (f : List ℕ → Reached) → told b N ≡ t → b ≡ false → reached_by i t f ≡ reached i N
  reached-no t b N f e h = ap (λ (s : Told). reached_by i s f) (sym e) ∙ left b (f N) (reached i N) h

  pub monitors-more : (n : ℕ) (b : Bool) (N : List ℕ) → i < n → told b N ≡ monitor_goes g y K i M → b ≡ true
      → monitors_go g y K (n - i) i M ≡ monitors_go g y K (n - (i + 1)) (i + 1) N
  unfolding monitors_go
  monitors-more n b N l e h =
      let d : n - i ≡ suc (n - (i + 1)) = omega arith in
      let s : suc i ≡ i + 1 = omega arith in
      ap (λ (m : ℕ). monitors_go g y K m i M) d ∙ reached-yes (monitor_goes g y K i M) b N (monitors_go g y K (n - (i + 1)) (suc i)) e h ∙ ap (λ (j : ℕ). monitors_go g y K (n - (i + 1)) j N) s

  pub monitors-stop : (n : ℕ) (b : Bool) (N : List ℕ) (t : Reached) → i < n → told b N ≡ monitor_goes g y K i M → b ≡ false
      → t ≡ monitors_go g y K (n - i) i M → reached i N ≡ t
  unfolding monitors_go
  monitors-stop n b N t l e h inv =
      let d : n - i ≡ suc (n - (i + 1)) = omega arith in
      sym (inv ∙ ap (λ (m : ℕ). monitors_go g y K m i M) d ∙ reached-no (monitor_goes g y K i M) b N (monitors_go g y K (n - (i + 1)) (suc i)) e h)

  pub monitors-all : (n : ℕ) (t : Reached) → n ≤ i → t ≡ monitors_go g y K (n - i) i M → reached i M ≡ t
  unfolding monitors_go
  monitors-all n t l inv =
      let d : n - i ≡ 0 = omega arith in
      sym (inv ∙ ap (λ (m : ℕ). monitors_go g y K m i M) d)

pub no-monitor : (g : Given) (y : Layout) (K : List ℕ) (n : ℕ) (M : List ℕ) → monitors_go g y K n 0 M ≡ monitors_go g y K (n - 0) 0 M
no-monitor g y K n M = let d : n ≡ n - 0 = omega arith in ap (λ (m : ℕ). monitors_go g y K m 0 M) d

-- ---- one tick

-- no more monitors and letters than there is room for
pub walk-within : (g : Given) (p o f : List ℕ) (m l : ℕ) (K : List ℕ) (M N : List ℕ) (t : Reached) (m' l' b q k : ℕ) → m' ≡ min m 32 → l' ≡ min l 256 → b ≡ unthreaded g → q ≡ threaded g → k ≡ min q l'
    → N ≡ each_marked K (shut_for g) (k - b) b M → t ≡ monitors_go g (layout p o f m' l') K m' 0 N
    → t ≡ monitors_go g (layout p o f (min m 32) (min l 256)) K (min m 32) 0 (shut_busy g K (min l 256) M)
walk-within g p o f m l K M N t m' l' b q k e d c u v n r =
    r ∙ ap (monitors_go g (layout p o f m' l') K m' 0) (n ∙ ap₂ (λ (i j : ℕ). each_marked K (shut_for g) (i - j) j M) (v ∙ ap₂ min u d) c)
    ∙ ap₂ (λ (a b : ℕ). monitors_go g (layout p o f a b) K a 0 (shut_busy g K (min l 256) M)) e d

module _ (g : Given) (y : Layout) (K : List ℕ) (i : ℕ) (M : List ℕ) (r : reached i M ≡ walk_of g y K) where
  step-any : move_by g (within y) K (reached i M) ≡ step_of g y K
  unfolding step_within
  step-any = ap (move_by g (within y) K) r

  -- the monitor reached, which is all that a look asks
  pub step-reached : i ≡ (step_of g y K).monitor
  step-reached = sym (either (stuck_at i y.monitors)) ∙ ap (λ (a : Move). a.monitor) step-any
    where
      either : (b : Bool) → (cond b (move i K g.values) (move i (marks_after 256 M) (write_marked g (marks_after 256 M) (writers g (within y).letters) 0 g.values))).monitor ≡ i
      either true = refl
      either false = refl

  -- where it goes on
  step-moved : stuck_at i y.monitors ≡ false → move i (marks_after 256 M) (write_marked g (marks_after 256 M) (writers g (within y).letters) 0 g.values) ≡ step_of g y K
  step-moved h = sym (left (stuck_at i y.monitors) (move i K g.values) _ h) ∙ step-any

  -- by the numbers of letters and monitors that were read
  module _ (C W : List ℕ) (n m : ℕ) (p : n ≡ y.letters) (q : m ≡ y.monitors) (x a : ℕ) (d : x ≡ tick_mask M C W n) (e : a ≡ answer_by i m W x) where
    same-mask : x ≡ mask_at g y K C W
    same-mask = d ∙ ap (tick_mask M C W) p ∙ ap (λ (z : Reached). tick_mask z.memory C W y.letters) r

    answered : a ≡ answer_by i y.monitors W x
    answered = e ∙ ap (λ (k : ℕ). answer_by i k W x) q

    pub answer-right : a ≡ answer_at g y K C W
    answer-right = answered ∙ ap₂ (λ (j n : ℕ). answer_by j y.monitors W n) step-reached same-mask

    module _ (b : Bool) (f : b ≡ is_bad a) where
      bad-told : is_bad (answer_at g y K C W) ≡ b
      bad-told = sym (f ∙ ap is_bad answer-right)

      pub step-stops : b ≡ true → stepped a K g.values W ≡ tick_of g y K C W
      step-stops h = ap (λ (n : ℕ). stepped n K g.values W) answer-right ∙ sym (taken (is_bad (answer_at g y K C W)) _ _ (bad-told ∙ h))

      -- a good tick is one at which every monitor goes on
      goes_on : b ≡ false → stuck_at i y.monitors ≡ false
      goes_on h = by (stuck_at i y.monitors) refl answered
        where
          by : (c : Bool) → stuck_at i y.monitors ≡ c → a ≡ cond c i (32 + first_beyond W x) → c ≡ false
          by true s t = let l = ltb-true i (min y.monitors 32) s in let n = ltb-false a fine (sym f ∙ h) in absurd (omega (arith, l, n, t))
          by false s t = refl

      pub step-moves : b ≡ false → (N σ U : List ℕ) → N ≡ marks_after 256 M → (j l k : ℕ) → j ≡ part1 (get_or g.letters 768 0) → l ≡ min n 256 → k ≡ min j l
          → σ ≡ write_marked g N k 0 g.values → U ≡ windows_after W x → stepped a N σ U ≡ tick_of g y K C W
      step-moves h N σ U o j l k u c v w z =
          let s = step-moved (goes_on h) in
          let few = c ∙ ap (λ (i : ℕ). min i 256) p in
          let marks : N ≡ (step_of g y K).marks = o ∙ ap (λ (t : Move). t.marks) s in
          let values : σ ≡ (step_of g y K).values = w ∙ ap₂ (λ (t : List ℕ) (i : ℕ). write_marked g t i 0 g.values) o (v ∙ ap₂ min u few) ∙ ap (λ (t : Move). t.values) s in
          ap₂ (λ (t ρ : List ℕ). stepped a t ρ U) marks values
          ∙ ap₂ (λ (j : ℕ) (X : List ℕ). stepped j (step_of g y K).marks (step_of g y K).values X) answer-right (z ∙ ap (windows_after W) same-mask)
          ∙ sym (left (is_bad (answer_at g y K C W)) _ _ (bad-told ∙ h))

-- the marks after a step at which every monitor goes on are those of the memory
pub marks-walked : (g : Given) (y : Layout) (K : List ℕ) → stuck_at (step_of g y K).monitor y.monitors ≡ false → (step_of g y K).marks ≡ marks_after 256 (walk_of g y K).memory
marks-walked g y K h =
    let a = walk_of g y K in
    let e = step-reached g y K a.monitor a.memory refl in
    sym (ap (λ (t : Move). t.marks) (step-moved g y K a.monitor a.memory refl (ap (λ (i : ℕ). stuck_at i y.monitors) e ∙ h)))

-- ---- refusals

pub no_stray : (k w : ℕ) → w < 2 ^ 64 → 64 ≤ k → false ≡ is_stray k w
no_stray k w h l = sym (lt-leb (2 ^ k) w (let p = pow_mono {i = 64} {j = k} l in omega (arith, p, h)))

pub stray-bit : (k w : ℕ) → not (eqb (w / 2 ^ k) 0) ≡ is_stray k w
stray-bit k w = by (leb (2 ^ k) w) refl
  where
    small : w / 2 ^ k ≡ 0 → w < 2 ^ k
    small z = let q = (div-lt_iff_lt-mul {k = 2 ^ k} {x = w} {y = 1} (pow_pos k)).0 (omega (arith, z)) in omega (arith, q)

    by : (b : Bool) → leb (2 ^ k) w ≡ b → not (eqb (w / 2 ^ k) 0) ≡ b
    by true e = ap not (ne_eqb (w / 2 ^ k) 0 (λ (z : w / 2 ^ k ≡ 0). let s = small z in let t = leb-true (2 ^ k) w e in omega (arith, s, t)))
    by false e = ap not (eq-eqb (w / 2 ^ k) 0 (div-eq_of_lt (leb-false (2 ^ k) w e)))

-- a refusal's number is not 0, which says that there is none
pub refusal-told : (r : Refusal) → number_of r ≡ 0 → ⊥
refusal-told Overlong z = cc
refusal-told Knot z = cc
refusal-told Misplaced z = cc
refusal-told Unknown z = cc
refusal-told Twice z = cc
refusal-told Oversize z = cc
refusal-told Crowded z = cc
refusal-told LongRun z = cc
refusal-told Impossible z = cc
refusal-told Hollow z = cc
refusal-told OpenEnd z = cc
refusal-told Fork z = cc
refusal-told Torn z = cc
refusal-told IdleByte z = cc
refusal-told Stray z = cc
refusal-told Stopped z = cc
refusal-told Full z = cc
refusal-told ShortBin z = cc
refusal-told Stretch z = cc
refusal-told NotSingle z = cc

-- ---- the watch after a take

-- with the tick count n
abbrev pub ticked_to : Watch → (marks values totals windows : List ℕ) → (word n : ℕ) → Watch
ticked_to v K σ N W w n = with_state v (record { inner = record { marks = K; values = σ; last = w; totals = N; windows = W }; oks = n; stopped = v.stopped })

pub one-tick : (v : Watch) (K σ N W : List ℕ) (w : ℕ) → ticked_to v K σ N W w (v.ticks + 1) ≡ ticked_to v K σ N W w (suc v.ticks)
one-tick v K σ N W w = let e : v.ticks + 1 ≡ suc v.ticks = omega arith in ap (ticked_to v K σ N W w) e

-- ---- calls

-- a tick on lent tables and a lent block is one of the watch whose they are
abbrev pub tick_from : Watch → Moving → ℕ → Stepped
tick_from v s w = tick_of (given_of v s.values (w ∷ s.last ∷ [])) (layout_of v) s.marks v.counted s.windows

module _ (v : Watch) (t : List (List ℕ)) (F : List ℕ) (e : t ≡ tables_of v) (y : LaidOut v F) where
  pub laid-step : (s : Moving) (w : ℕ) (a : Stepped) → a ≡ tick_of (given t s.values (w ∷ s.last ∷ [])) (layout_in F) s.marks (counted_in F) s.windows → a ≡ tick_from v s w
  laid-step s w a d =
      d ∙ ap₂ (λ (u : List (List ℕ)) (z : Layout). tick_of (given u s.values (w ∷ s.last ∷ [])) z s.marks (counted_in F) s.windows) e y.1
      ∙ ap (λ (C : List ℕ). tick_of (given_of v s.values (w ∷ s.last ∷ [])) (layout_of v) s.marks C s.windows) y.2

  pub laid-peek : (s : Moving) (w a : ℕ) → a ≡ answer_at (given t s.values (w ∷ s.last ∷ [])) (layout_in F) s.marks (counted_in F) s.windows → a ≡ answer_from v s w
  laid-peek s w a d =
      d ∙ ap₂ (λ (u : List (List ℕ)) (z : Layout). answer_at (given u s.values (w ∷ s.last ∷ [])) z s.marks (counted_in F) s.windows) e y.1
      ∙ ap (λ (C : List ℕ). answer_at (given_of v s.values (w ∷ s.last ∷ [])) (layout_of v) s.marks C s.windows) y.2

  -- and so are the rows touched, by lent counts
  pub laid-touched : (cs : List (List ℕ)) (n : ℕ) → cs ≡ counts_of v
      → n ≡ min (touched_of (counts (get_or t 0 []) cs (places_in F)) (own_in F) v.marks (get_or F 576 0) (get_or F 577 0)) 65535 → n ≡ touched_on v
  unfolding touched_on
  laid-touched cs n f d =
      d ∙ ap (λ (z : Layout). min (touched_of (counts (get_or t 0 []) cs z.places) z.own v.marks z.monitors z.letters) 65535) y.1
      ∙ ap₂ (λ (u z : List (List ℕ)). min (touched_of (counts (get_or u 0 []) z v.places) v.own v.marks v.monitors v.letters) 65535) e f

-- the same, with the arrays and numbers of the watch in place of the block, as `peek`, `step` and `touched` are lent them
pub lent-step : (v : Watch) (s : Moving) (w : ℕ) (t : List (List ℕ)) (a : Stepped) → t ≡ tables_of v
    → a ≡ tick_of (given t s.values (w ∷ s.last ∷ [])) (layout_of v) s.marks v.counted s.windows → a ≡ tick_from v s w
lent-step v s w t a e d = d ∙ ap (λ (u : List (List ℕ)). tick_of (given u s.values (w ∷ s.last ∷ [])) (layout_of v) s.marks v.counted s.windows) e

pub lent-peek : (v : Watch) (s : Moving) (w : ℕ) (t : List (List ℕ)) (a : ℕ) → t ≡ tables_of v
    → a ≡ answer_at (given t s.values (w ∷ s.last ∷ [])) (layout_of v) s.marks v.counted s.windows → a ≡ answer_from v s w
lent-peek v s w t a e d = d ∙ ap (λ (u : List (List ℕ)). answer_at (given u s.values (w ∷ s.last ∷ [])) (layout_of v) s.marks v.counted s.windows) e

pub lent-touched : (v : Watch) (t cs : List (List ℕ)) (n : ℕ) → t ≡ tables_of v → cs ≡ counts_of v
    → n ≡ min (touched_of (counts (get_or t 0 []) cs v.places) v.own v.marks v.monitors v.letters) 65535 → n ≡ touched_on v
unfolding touched_on
lent-touched v t cs n e f d =
    d ∙ ap₂ (λ (u z : List (List ℕ)). min (touched_of (counts (get_or u 0 []) z v.places) v.own v.marks v.monitors v.letters) 65535) e f

-- its answer is that of a look; where it is bad it leaves all as it was, and else what moves on
module _ (v : Watch) (s : Moving) (w a : ℕ) (K σ W : List ℕ) (t : stepped a K σ W ≡ tick_from v s w) where
  tick-answer : a ≡ answer_from v s w
  tick-answer = ap (λ (z : Stepped). z.answer) t ∙ either (is_bad (answer_from v s w))
    where
      either : (b : Bool) → (cond b (stepped (answer_from v s w) s.marks s.values s.windows) (stepped (answer_from v s w) (onward v s w).marks (onward v s w).values (onward v s w).windows)).answer
          ≡ answer_from v s w
      either true = refl
      either false = refl

  pub tick-kept : (b : Bool) → b ≡ is_bad a → b ≡ true → stepped a K σ W ≡ stepped (answer_from v s w) s.marks s.values s.windows
  tick-kept b f h = t ∙ taken (is_bad (answer_from v s w)) _ _ (sym (ap is_bad tick-answer) ∙ sym f ∙ h)

  tick-left : (b : Bool) → b ≡ is_bad a → b ≡ false → stepped a K σ W ≡ stepped (answer_from v s w) (onward v s w).marks (onward v s w).values (onward v s w).windows
  tick-left b f h = t ∙ left (is_bad (answer_from v s w)) _ _ (sym (ap is_bad tick-answer) ∙ sym f ∙ h)

-- what a take of a word tells, by its reply
pub told-by : (v : Watch) (w : ℕ) (r : Reply) → r ≡ reply_of v w → touched_by r (touched_on v) ≡ touched_for v w
told-by v w r e = ap (λ (t : Reply). touched_by t (touched_on v)) e

-- a call by the number that it is refused with: that refusal; or, where the number is 0, the verdict, and there is room for a tick more
module _ (by-judge : Moving → ℕ → Verdict) (wires : ℕ) (s : State Moving) (w n : ℕ) (e : n ≡ refused_by s.stopped s.oks wires w) where
  pub number-refused : (n ≡ 0 → ⊥) → reply by-judge wires s w ≡ refused n 0
  unfolding reply
  number-refused z = by s.stopped (is_full s.oks) (is_stray wires w) e
    where
      by : (a b d : Bool) → n ≡ cond a 16 (cond b 17 (cond d 15 0))
          → cond a (refused 16 0) (cond b (refused 17 0) (cond d (refused 15 0) (verdict_reply (by-judge s.inner w)))) ≡ refused n 0
      by true b d h = ap (λ (k : ℕ). refused k 0) (sym h)
      by false true d h = ap (λ (k : ℕ). refused k 0) (sym h)
      by false false true h = ap (λ (k : ℕ). refused k 0) (sym h)
      by false false false h = absurd (z h)

  pub number-room : n ≡ 0 → s.oks < 1000000
  number-room z = by s.stopped (is_full s.oks) refl (is_stray wires w) e
    where
      by : (a b : Bool) → is_full s.oks ≡ b → (d : Bool) → n ≡ cond a 16 (cond b 17 (cond d 15 0)) → s.oks < 1000000
      by true b f d h = omega (arith, h, z)
      by false true f d h = omega (arith, h, z)
      by false false f d h = leb-false 1000000 s.oks f

  pub number-judged : n ≡ 0 → reply by-judge wires s w ≡ verdict_reply (by-judge s.inner w)
  unfolding reply
  number-judged z = by s.stopped (is_full s.oks) (is_stray wires w) e
    where
      by : (a b d : Bool) → n ≡ cond a 16 (cond b 17 (cond d 15 0))
          → cond a (refused 16 0) (cond b (refused 17 0) (cond d (refused 15 0) (verdict_reply (by-judge s.inner w)))) ≡ verdict_reply (by-judge s.inner w)
      by true b d h = absurd (let q : 16 ≡ 0 = sym h ∙ z in omega (arith, q))
      by false true d h = absurd (let q : 17 ≡ 0 = sym h ∙ z in omega (arith, q))
      by false false true h = absurd (let q : 15 ≡ 0 = sym h ∙ z in omega (arith, q))
      by false false false h = refl

  -- by what the word is answered with
  pub number-reached : n ≡ 0 → (a : ℕ) → by-judge s.inner w ≡ verdict_by a → (b : Bool) → b ≡ is_bad a → reply by-judge wires s w ≡ verdict_reply (cond b (broken a) clean)
  number-reached z a j b f = number-judged z ∙ ap verdict_reply j ∙ ap (λ (c : Bool). verdict_reply (cond c (broken a) clean)) (sym f)

module _ (v : Watch) (w n : ℕ) (e : n ≡ refused_by v.stopped v.ticks v.wires w) where
  pub look-refused : (n ≡ 0 → ⊥) → refused n 0 ≡ reply_of v w
  unfolding reply_of
  look-refused z = sym (number-refused (judge v) v.wires (state_of v) w n e z)

  -- a refusal changes no watch
  pub take-refused : (n ≡ 0 → ⊥) → (refused n 0 ≡ reply_of v w) × (v ≡ watch_after v w)
  unfolding watch_after
  take-refused z =
      let h = look-refused z in
      (h, ap (λ (r : Reply). with_state v (after (onward v) (state_of v) w r)) h)

  pub few-ticks : n ≡ 0 → v.ticks < 1000000
  few-ticks = number-room (judge v) v.wires (state_of v) w n e

  module _ (z : n ≡ 0) (a : ℕ) (s : a ≡ answer_from v (state_of v).inner w) (b : Bool) (f : b ≡ is_bad a) where
    reply-reached : reply_of v w ≡ verdict_reply (cond b (broken a) clean)
    unfolding reply_of
    reply-reached = number-reached (judge v) v.wires (state_of v) w n e z a (ap verdict_by (sym s)) b f

    pub look-bad : b ≡ true → bad a ≡ reply_of v w
    look-bad h = sym (reply-reached ∙ ap verdict_reply (taken b (broken a) clean h))

    pub look-ok : b ≡ false → ok ≡ reply_of v w
    look-ok h = sym (reply-reached ∙ ap verdict_reply (left b (broken a) clean h))

  -- a take answers as a look does, and moves the watch on
  module _ (z : n ≡ 0) (a : ℕ) (K σ W : List ℕ) (s : stepped a K σ W ≡ tick_from v (state_of v).inner w) (b : Bool) (f : b ≡ is_bad a) (u : Watch) where
    pub take-bad : b ≡ true → u ≡ with_state v (record { inner = (state_of v).inner; oks = v.ticks; stopped = true })
        → (bad a ≡ reply_of v w) × (u ≡ watch_after v w)
    unfolding watch_after
    take-bad h q =
        let r = look-bad z a (tick-answer v (state_of v).inner w a K σ W s) b f h in
        (r, q ∙ ap (λ (t : Reply). with_state v (after (onward v) (state_of v) w t)) r)

    pub take-ok : b ≡ false → (N : List ℕ) → N ≡ count_met K (min v.letters 256) v.totals → u ≡ ticked_to v K σ N W w (suc v.ticks)
        → (ok ≡ reply_of v w) × (u ≡ watch_after v w)
    unfolding watch_after
    take-ok h N c q =
        let r = look-ok z a (tick-answer v (state_of v).inner w a K σ W s) b f h in (
          r,
          q ∙ ap (λ (M : List ℕ). ticked_to v K σ M W w (suc v.ticks)) c
              ∙ ap (λ (t : Stepped). ticked_to v t.marks t.values (count_met t.marks (min v.letters 256) v.totals) t.windows w (suc v.ticks)) (tick-left v (state_of v).inner w a K σ W s b f h)
              ∙ ap (λ (t : Reply). with_state v (after (onward v) (state_of v) w t)) r,
        )
