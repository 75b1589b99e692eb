-- Opening answers exactly as specs/Acceptance states: it accepts the acceptable texts, and refuses any other text of the grammar with 8 to 12 where that says. Assumes nothing.
use mathlib.Core.Path.{◌≡◌, refl, sym, ap, ◌∙◌, subst}
use mathlib.Core.Logic.{◌↔◌, inl, inr, ⊎_elim}
use mathlib.Core.Bool.{Bool, true, false, cond}
use mathlib.Core.List.{List, [], ◌∷◌, ◌++◌}
use Prim.Native.Nat.{ℕ, suc, ◌+◌, ◌≤◌, ◌<◌}
use native.Mathlib.Omega.{arith}
use lib.Dec.{ltb}
use lib.ListN.{length}
use borrow.Author.Tests.{lt-ltb, le-ltb}
use Rattle.lexer.specs.Tokens.{Placed, tokens, rule_words}
use Rattle.refusals.specs.Numbers.{overlong, long_run, impossible, hollow, open_end, fork}
use Rattle.meaning.specs.Lists.{◌∈◌, total}
use Rattle.meaning.specs.Answers.{Answer, value, refused, Place, byte, letter_of}
use Rattle.meaning.specs.Expression.{Exp, size}
use Rattle.meaning.specs.Names.{Names, no_names, Program}
use Rattle.meaning.specs.Reading.{Expect, statement, Step, go, finished, fault, step, and_then, read_on, read}
use Rattle.meaning.specs.ShapeTests.{SizedLetters, Shape, accepted, turned_away, first_of, shape, unsatisfiable, nullables, open_ends, ambiguous}
use Rattle.meaning.specs.Opening.{Opened, as_opened, too_long, by_shape, misshapen, open_program, and_open, open_text}
use Rattle.meaning.specs.Acceptance.{Written, WellShaped, Acceptable, FirstFault, by_9, by_10, by_11, by_12, FirstMisshapen, TurnedAway}
use Rattle.meaning.proofs.ListLaws.{clash, here, there, cons-∈, no-∈}
use Rattle.meaning.proofs.Shaped.{shape-9, shape-10, shape-11, shape-12, shape-accepted}
use Rattle.meaning.proofs.GrammarExact.{reads-exactly}
use Rattle.meaning.proofs.Openings.{Counting, few, many, counting, few_letters, letters-sized}

-- ---- one monitor

module _ (m : Exp) (sized : SizedLetters m) where
  well : shape m ≡ accepted ↔ WellShaped m
  well = (
    λ e. let (a, b, c, d) = (shape-accepted m sized).0 e in record { satisfiable = a; solid = b; closed = c; unambiguous = d },
    λ w. (shape-accepted m sized).1 (w.satisfiable, w.solid, w.closed, w.unambiguous),
  )

  -- an answer is this rule's, or comes from those behind it
  first-of : (rule : ℕ) (ns : List ℕ) (s : Shape) (r n : ℕ) → shape m ≡ turned_away r n → (shape m ≡ turned_away rule n → FirstFault m rule n)
      → (s ≡ turned_away r n → FirstFault m r n) → first_of rule ns s ≡ turned_away r n → FirstFault m r n
  first-of rule [] s r n f own rest e = rest e
  first-of rule (k ∷ ks) s r n f own rest e =
      let p : rule ≡ r = cc in subst (λ (q : ℕ). FirstFault m q n) p (own (f ∙ ap (λ (q : ℕ). turned_away q n) (sym p)))

  ill : (r n : ℕ) → shape m ≡ turned_away r n → FirstFault m r n
  unfolding shape
  ill r n f =
      first-of impossible (unsatisfiable m) _ r n f (λ g. by_9 ((shape-9 m sized n).0 g))
      (first-of hollow (nullables m) _ r n f (λ g. let (a, b) = (shape-10 m sized n).0 g in by_10 a b)
      (first-of open_end (open_ends m) _ r n f (λ g. let (a, b, c) = (shape-11 m sized n).0 g in by_11 a b c)
      (first-of fork (ambiguous m) accepted r n f (λ g. let (a, b, c, d) = (shape-12 m sized n).0 g in by_12 a b c d) (λ g. clash (cc))))) f

  faulty : {r n : ℕ} → FirstFault m r n → shape m ≡ turned_away r n
  faulty (by_9 a) = (shape-9 m sized _).1 a
  faulty (by_10 a b) = (shape-10 m sized _).1 (a, b)
  faulty (by_11 a b c) = (shape-11 m sized _).1 (a, b, c)
  faulty (by_12 a b c d) = (shape-12 m sized _).1 (a, b, c, d)

-- ---- too many letters

-- few letters are counted through
counted-through : (i n : ℕ) (ms : List Exp) (rest : Answer Opened) → n + total size ms ≤ 256 → too_long i n ms rest ≡ rest
unfolding too_long
counted-through i n [] rest h = refl
counted-through i n (m ∷ ms) rest h =
    ap (λ (t : Bool). cond t (refused long_run (letter_of i 0)) (too_long (suc i) (n + size m) ms rest)) (le-ltb 256 (n + size m) (omega (arith, h)))
    ∙ counted-through (suc i) (n + size m) ms rest (omega (arith, h))

-- the first monitor with which they are too many is named
counted-beyond : (i n : ℕ) (before after : List Exp) (m : Exp) (rest : Answer Opened) → n + total size before ≤ 256 → 256 < n + total size before + size m
    → too_long i n (before ++ (m ∷ after)) rest ≡ refused long_run (letter_of (i + length before) 0)
unfolding too_long
counted-beyond i n [] ds m rest h l =
    let q : i ≡ i + length {A = Exp} [] = omega arith in
    ap (λ (t : Bool). cond t (refused long_run (letter_of i 0)) (too_long (suc i) (n + size m) ds rest)) (lt-ltb 256 (n + size m) (omega (arith, l)))
    ∙ ap (λ (j : ℕ). refused long_run (letter_of j 0)) q
counted-beyond i n (b ∷ bs) ds m rest h l =
    let q : suc i + length bs ≡ i + length (b ∷ bs) = omega arith in
    ap (λ (t : Bool). cond t (refused long_run (letter_of i 0)) (too_long (suc i) (n + size b) (bs ++ (m ∷ ds)) rest)) (le-ltb 256 (n + size b) (omega (arith, h)))
    ∙ counted-beyond (suc i) (n + size b) bs ds m rest (omega (arith, h)) (omega (arith, l))
    ∙ ap (λ (j : ℕ). refused long_run (letter_of j 0)) q

-- ---- monitors out of shape

abbrev EachSized : List Exp → Type 0
EachSized ms = (m : Exp) → m ∈ ms → SizedLetters m

abbrev EachWell : List Exp → Type 0
EachWell ms = (m : Exp) → m ∈ ms → WellShaped m

one-more-well : (m : Exp) (ms : List Exp) → WellShaped m → EachWell ms → EachWell (m ∷ ms)
one-more-well m ms w h k i = ⊎_elim (λ p. subst WellShaped (sym p) w) (λ j. h k j) (cons-∈ i)

-- what comes of judging monitors, counted from i
data Judging (i : ℕ) (ms : List Exp) (rest : Answer Opened) : Answer Opened → Type 0 where
  all_well : EachWell ms → Judging i ms rest rest
  first_ill : (before after : List Exp) (m : Exp) (r n : ℕ) → ms ≡ before ++ (m ∷ after) → EachWell before → FirstFault m r n
      → Judging i ms rest (refused r (letter_of (i + length before) n))

judging : (i : ℕ) (ms : List Exp) (rest : Answer Opened) → EachSized ms → Judging i ms rest (misshapen i ms rest)
unfolding misshapen
judging i [] rest s = all_well (λ m j. absurd (no-∈ j))
judging i (m ∷ ms) rest s = by (shape m) refl (judging (suc i) ms rest (λ k j. s k (there j)))
  where
    sized : SizedLetters m
    sized = s m (here refl)

    later : (x : Answer Opened) → WellShaped m → Judging (suc i) ms rest x → Judging i (m ∷ ms) rest x
    later x w (all_well h) = all_well (one-more-well m ms w h)
    later x w (first_ill bs ds k r n e h f) =
        let q : i + length (m ∷ bs) ≡ suc i + length bs = omega arith in
        subst (λ (j : ℕ). Judging i (m ∷ ms) rest (refused r (letter_of j n))) q
        (first_ill (m ∷ bs) ds k r n (ap (λ (xs : List Exp). m ∷ xs) e) (one-more-well m bs w h) f)

    by : (t : Shape) → shape m ≡ t → Judging (suc i) ms rest (misshapen (suc i) ms rest) → Judging i (m ∷ ms) rest (by_shape i t (misshapen (suc i) ms rest))
    by accepted e ih = later _ ((well m sized).0 e) ih
    by (turned_away r n) e ih =
        let q : i + length {A = Exp} [] ≡ i = omega arith in
        subst (λ (j : ℕ). Judging i (m ∷ ms) rest (refused r (letter_of j n))) q
        (first_ill [] ms m r n refl (λ k j. absurd (no-∈ j)) (ill m sized r n e))

-- well-shaped monitors are passed
judged-well : (i : ℕ) (ms : List Exp) (rest : Answer Opened) → EachSized ms → EachWell ms → misshapen i ms rest ≡ rest
unfolding misshapen
judged-well i [] rest s h = refl
judged-well i (m ∷ ms) rest s h =
    ap (λ (t : Shape). by_shape i t (misshapen (suc i) ms rest)) ((well m (s m (here refl))).1 (h m (here refl)))
    ∙ judged-well (suc i) ms rest (λ k j. s k (there j)) (λ k j. h k (there j))

-- the first one that is not is named with its first fault
judged-ill : (i : ℕ) (before after : List Exp) (m : Exp) (r n : ℕ) (rest : Answer Opened) → EachSized (before ++ (m ∷ after)) → EachWell before → FirstFault m r n
    → misshapen i (before ++ (m ∷ after)) rest ≡ refused r (letter_of (i + length before) n)
unfolding misshapen
judged-ill i [] ds m r n rest s h f =
    let q : i ≡ i + length {A = Exp} [] = omega arith in
    ap (λ (t : Shape). by_shape i t (misshapen (suc i) ds rest)) (faulty m (s m (here refl)) f) ∙ ap (λ (j : ℕ). refused r (letter_of j n)) q
judged-ill i (b ∷ bs) ds m r n rest s h f =
    let q : suc i + length bs ≡ i + length (b ∷ bs) = omega arith in
    ap (λ (t : Shape). by_shape i t (misshapen (suc i) (bs ++ (m ∷ ds)) rest)) ((well b (s b (here refl))).1 (h b (here refl)))
    ∙ judged-ill (suc i) bs ds m r n rest (λ k j. s k (there j)) (λ k j. h k (there j)) f ∙ ap (λ (j : ℕ). refused r (letter_of j n)) q

-- ---- a program

abbrev at : (number i letter : ℕ) → Answer Opened
at n i l = refused n (letter_of i l)

module _ (p : Program) (sized : EachSized (as_opened p).monitors) where
  judged_monitors : Answer Opened
  judged_monitors = misshapen 0 (as_opened p).monitors (value (as_opened p))

  program-accepted : (o : Opened) → open_program p ≡ value o ↔ ((total size p.monitors ≤ 256) × EachWell (as_opened p).monitors × (as_opened p ≡ o))
  unfolding open_program judged_monitors
  program-accepted o = (
    λ e.
        let (f, r) = few_letters p.monitors judged_monitors o e in
        let (w, q) = shaped _ (judging 0 (as_opened p).monitors (value (as_opened p)) sized) r in
        (f, w, q),
    λ (f, w, q). counted-through 0 0 p.monitors judged_monitors (omega (arith, f)) ∙ judged-well 0 (as_opened p).monitors (value (as_opened p)) sized w ∙ ap value q,
  )
    where
      shaped : (x : Answer Opened) → Judging 0 (as_opened p).monitors (value (as_opened p)) x → x ≡ value o → EachWell (as_opened p).monitors × (as_opened p ≡ o)
      shaped x (all_well h) e = (h, cc)
      shaped x (first_ill bs ds m r n d h f) e = clash (cc)

  program-turned : (number i letter : ℕ) → open_program p ≡ refused number (letter_of i letter) ↔ TurnedAway p number i letter
  unfolding open_program judged_monitors
  program-turned number i letter = (
    λ e. long _ (counting 0 0 p.monitors judged_monitors (omega arith)) e,
    ⊎_elim
        (λ (a, b, l). let s = l.stands in
        ap (λ (ms : List Exp). too_long 0 0 ms judged_monitors) s.split
        ∙ counted-beyond 0 0 l.before s.after l.monitor judged_monitors (omega (arith, l.kept)) (omega (arith, l.passed)) ∙ named-so a b l.before s.number)
        (λ (f, t). let s = t.stands in
        counted-through 0 0 p.monitors judged_monitors (omega (arith, f))
        ∙ ap (λ (ms : List Exp). misshapen 0 ms (value (as_opened p))) s.split
        ∙ judged-ill 0 t.before s.after t.monitor number letter (value (as_opened p)) (subst EachSized s.split sized) t.kept t.fault
        ∙ ap (λ (j : ℕ). refused number (letter_of j letter)) (let z : 0 + length t.before ≡ i = omega (arith, s.number) in z)),
  )
    where
      named-so : number ≡ long_run → letter ≡ 0 → (bs : List Exp) → i ≡ length bs → at long_run (0 + length bs) 0 ≡ at number i letter
      named-so a b bs s = let z : 0 + length bs ≡ i = omega (arith, s) in rw (a, b, z) refl

      shaped : (x : Answer Opened) → Judging 0 (as_opened p).monitors (value (as_opened p)) x → x ≡ refused number (letter_of i letter)
          → FirstMisshapen (as_opened p).monitors i number letter
      shaped x (all_well h) e = clash (cc)
      shaped x (first_ill bs ds m r n d h f) e =
          let a : r ≡ number = cc in
          let b : n ≡ letter = cc in
          let c : 0 + length bs ≡ i = cc in
          record {
            before = bs;
            monitor = m;
            stands = record { after = ds; split = d; number = omega (arith, c) };
            kept = h;
            fault = subst (λ (k : ℕ). FirstFault m k letter) a (subst (FirstFault m r) b f);
          }

      long : (x : Answer Opened) → Counting 0 0 p.monitors judged_monitors x → x ≡ refused number (letter_of i letter) → TurnedAway p number i letter
      long x (few g) e = inr (omega (arith, g), shaped _ (judging 0 (as_opened p).monitors (value (as_opened p)) sized) e)
      long x (many bs ds m d h l) e =
          let a : long_run ≡ number = cc in
          let b : 0 ≡ letter = cc in
          let c : 0 + length bs ≡ i = cc in
          inl (sym a, sym b, record { before = bs; monitor = m; stands = record { after = ds; split = d; number = omega (arith, c) }; kept = omega (arith, h); passed = omega (arith, l) })

  -- no byte is named
  program-no-byte : (number place : ℕ) → open_program p ≡ refused number (byte place) → ⊥
  unfolding open_program judged_monitors
  program-no-byte number place e = long _ (counting 0 0 p.monitors judged_monitors (omega arith)) e
    where
      shaped : (x : Answer Opened) → Judging 0 (as_opened p).monitors (value (as_opened p)) x → x ≡ refused number (byte place) → ⊥
      shaped x (all_well h) e = clash (cc)
      shaped x (first_ill bs ds m r n d h f) e = clash (cc)

      long : (x : Answer Opened) → Counting 0 0 p.monitors judged_monitors x → x ≡ refused number (byte place) → ⊥
      long x (few g) e = shaped _ (judging 0 (as_opened p).monitors (value (as_opened p)) sized) e
      long x (many bs ds m d h l) e = clash (cc)

-- ---- a text

-- reading names bytes alone
reads_bytes : (ns : Names) (x : Expect) (ts : List Placed) (number i letter : ℕ) → read_on ns x ts ≡ refused number (letter_of i letter) → ⊥
unfolding read_on
reads_bytes ns x [] number i letter e = clash (cc)
reads_bytes ns x (t ∷ ts) number i letter e = by (step ns x t) e (λ ms y f. reads_bytes ms y ts number i letter f)
  where
    by : (s : Step) → and_then s (λ ms y. read_on ms y ts) ≡ refused number (letter_of i letter)
        → ((ms : Names) (y : Expect) → read_on ms y ts ≡ refused number (letter_of i letter) → ⊥) → ⊥
    by (go ms y) f ih = ih ms y f
    by (finished p) f ih = clash (cc)
    by (fault n q) f ih = clash (cc)

module _ (text : List ℕ) where
  no-letter : (number i letter : ℕ) → read text ≡ refused number (letter_of i letter) → ⊥
  unfolding read
  no-letter number i letter e = by (ltb 16384 (length text)) e
    where
      by : (t : Bool) → cond t (refused overlong (byte 0)) (read_on no_names statement (tokens rule_words text)) ≡ refused number (letter_of i letter) → ⊥
      by true f = clash (cc)
      by false f = reads_bytes no_names statement (tokens rule_words text) number i letter f

  module _ (p : Program) (e : read text ≡ value p) where
    written : Written text p
    written = let (a, b) = (reads-exactly text p).0 e in record { short = a; derived = b }

    program-sized : EachSized (as_opened p).monitors
    unfolding as_opened
    program-sized m i = letters-sized text p e m i

    opens : open_text text ≡ open_program p
    unfolding open_text
    opens = ap and_open e

  is_read : (p : Program) → Written text p → read text ≡ value p
  is_read p w = (reads-exactly text p).1 (w.short, w.derived)

  -- A text is accepted exactly if it is acceptable as a program, and is answered with that program opened.
  pub accepted-exactly : (o : Opened) → open_text text ≡ value o ↔ ((p : Program) × Acceptable text p × (as_opened p ≡ o))
  unfolding open_text
  accepted-exactly o = (
    λ e. by (read text) refl e,
    λ (p, a, q). let r = is_read p a.written in opens p r ∙ (program-accepted p (program-sized p r) o).1 (a.few, a.shaped, q),
  )
    where
      by : (x : Answer Program) → read text ≡ x → and_open x ≡ value o → (p : Program) × Acceptable text p × (as_opened p ≡ o)
      by (value p) r f =
          let (g, h, q) = (program-accepted p (program-sized p r) o).0 f in
          (p, record { written = written p r; few = g; shaped = h }, q)
      by (refused number place) r f = clash (cc)

  -- It is refused with a monitor and a letter exactly if it is a text of the grammar that is turned away there.
  pub turned-away-exactly : (number i letter : ℕ) → open_text text ≡ refused number (letter_of i letter) ↔ ((p : Program) × Written text p × TurnedAway p number i letter)
  unfolding open_text
  turned-away-exactly number i letter = (
    λ e. by (read text) refl e,
    λ (p, w, t). let r = is_read p w in opens p r ∙ (program-turned p (program-sized p r) number i letter).1 t,
  )
    where
      by : (x : Answer Program) → read text ≡ x → and_open x ≡ refused number (letter_of i letter) → (p : Program) × Written text p × TurnedAway p number i letter
      by (value p) r f = (p, written p r, (program-turned p (program-sized p r) number i letter).0 f)
      by (refused n place) r f =
          let a : n ≡ number = cc in
          let b : place ≡ letter_of i letter = cc in
          absurd (no-letter number i letter (subst (λ (q : Place). read text ≡ refused number q) b (subst (λ (k : ℕ). read text ≡ refused k place) a r)))

  -- It is refused at a byte exactly if reading refuses it there.
  pub at-byte-exactly : (number place : ℕ) → open_text text ≡ refused number (byte place) ↔ read text ≡ refused number (byte place)
  unfolding open_text
  at-byte-exactly number place = (λ e. by (read text) refl e, λ r. ap and_open r)
    where
      by : (x : Answer Program) → read text ≡ x → and_open x ≡ refused number (byte place) → read text ≡ refused number (byte place)
      by (value p) r f = absurd (program-no-byte p (program-sized p r) number place f)
      by (refused n q) r f =
          let a : n ≡ number = cc in
          let b : q ≡ byte place = cc in
          subst (λ (z : Place). read text ≡ refused number z) b (subst (λ (k : ℕ). read text ≡ refused k q) a r)

-- An overlong text is refused as that, and at its first byte.
pub overlong-refused : (text : List ℕ) → 16384 < length text → open_text text ≡ refused overlong (byte 0)
unfolding open_text read
overlong-refused text h = ap (λ (t : Bool). and_open (cond t (refused overlong (byte 0)) (read_on no_names statement (tokens rule_words text)))) (lt-ltb 16384 (length text) h)
