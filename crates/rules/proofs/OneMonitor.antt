-- Rules 9 to 12 for one monitor: the first two by what is known of its production, the others by its rows. Assumes nothing.
use mathlib.Core.Path.{◌≡◌, refl, sym, ◌∙◌, ap, subst}
use Rattle.std.specs.Prelude.{Result, Ok, Err}
use Rattle.std.proofs.lemmas.Result.{IfOk-weaker}
use Rattle.refusals.specs.declared.Refusal.{Refusal}
use Rattle.refusals.specs.declared.Refusal.TheVariants as refusal
use mathlib.Core.Bool.{Bool, true, false, cond}
use mathlib.Core.List.{List, ◌++◌}
use mathlib.Core.Logic.{⊎_elim}
use mathlib.Core.Option.{Option, none, some}
use Prim.Native.Nat.{ℕ, ◌+◌, ◌-◌, ◌<◌, ◌≤◌}
use native.Mathlib.Omega.{arith}
use lib.ListN.{length}
use lib.Seq.{length-sets}
use Rattle.meaning.specs.Lists.{◌∈◌}
use Rattle.meaning.specs.Expression.{Letter, Exp, letter, seq, alt, star, pipe, letters, size, rows, renumbered}
use Rattle.meaning.specs.Shape.{nullable}
use Rattle.meaning.specs.ShapeTests.{shape, AllSized, SizedLetters}
use Rattle.meaning.specs.Summary.{impossible_at, unless_nullable, hollow_at, turned_at}
use Rattle.meaning.proofs.ListLaws.{append-∈, ∈-left, ∈-right, one-∈, here}
use Rattle.meaning.proofs.Numbering.{renumbered-ordered, renumbered-size, renumbered-rows}
use Rattle.meaning.proofs.Summary.{Below, impossible-below, hollow-below, possible, rules11and12, shape-summary}
use Rattle.meaning.proofs.RowCount.{rows-summary}
use Rattle.shape.specs.Walk.{kinds, lefts, rights}
use Rattle.shape.specs.Judge.{judge_of, shown_judged}
use Rattle.shape.specs.declared.Fault.{Fault}
use Rattle.shape.specs.declared.Fault.TheVariants.{OpenEnd, Fork}
use Rattle.shape.proofs.Laid.{laid-held}
use Rattle.shape.proofs.Right.{judge-right}
use Rattle.words.specs.Words.{part0, part1, part2, part3}
use Rattle.rules.specs.Cells.{at, coded, flag}
use Rattle.rules.specs.declared.lay.Tables.{Tables}
use Rattle.rules.specs.declared.lay.Laid.{Laid}
use Rattle.rules.specs.declared.opening.LetterFault.{LetterFault}
use Rattle.rules.specs.Laying.{LetterLists, letters_in, ExpAt, SomeExp, Stored, StoredIn}
use Rattle.rules.specs.Monitors.{Arrays, ArraysIn, MonitorAt, SomeMonitor, letter_fault, Ruled, Opens}
use Rattle.rules.proofs.Placing.{LaysIn}
use Rattle.rules.proofs.RowsStand.{rows-laid}
use Rattle.rules.proofs.TableRows.{numbered-at}

-- ---- rules 11 and 12, asked of rows that were laid

module _ (P : List ℕ) (node row index : ℕ) (A A' : Tables) (x : Laid) (a : LaysIn P node row index row A A' x) (j : Result (Unit {0}) Fault)
    (q : shown_judged j ≡ judge_of (kinds A'.table) (lefts A'.table) (rights A'.table) A'.look A'.want row index x.letter) where
  -- whatever expression stands there
  abbrev Rules : Result Laid LetterFault → Type 0
  Rules r = (c : ℕ) → (e : Exp) → ExpAt P c node row index e → Ruled row index e A A' r

  pub ruled-fine : (u : Unit {0}) → j ≡ Ok u → Rules (Ok x)
  ruled-fine u z c e s = record { next = x; stored = a c e s; told = refl; answers = sym (ap shown_judged z) ∙ q }

  pub ruled-fault : (f : Fault) → j ≡ Err f → Rules (Err (letter_fault f))
  ruled-fault (OpenEnd n) z c e s = record { next = x; stored = a c e s; told = tt; answers = sym (ap shown_judged z) ∙ q }
  ruled-fault (Fork n) z c e s = record { next = x; stored = a c e s; told = tt; answers = sym (ap shown_judged z) ∙ q }

-- ---- what is stored keeps the arrays' lengths

pub stored-arrays : {row up index : ℕ} {e : Exp} {T T' : List ℕ} {L L' : LetterLists} {r l : ℕ} → Stored row up index e T T' L L' r l → Arrays T L → Arrays T' L'
stored-arrays s a = rw (s.rows_stored, s.letters_stored) record {
  table = simp length-sets a.table;
  looks = simp length-sets a.looks;
  wants = simp length-sets a.wants;
  helds = simp length-sets a.helds;
  links = simp length-sets a.links;
  numbers = simp length-sets a.numbers;
}

-- ---- letters as sized when they are numbered

two_sized : (e f : Exp) (g h : List Letter) → SizedLetters (seq e f) → (SizedLetters e → (l : Letter) → l ∈ g → AllSized l.literals)
    → (SizedLetters f → (l : Letter) → l ∈ h → AllSized l.literals) → (l : Letter) → l ∈ g ++ h → AllSized l.literals
unfolding letters
two_sized e f g h s p q l i = ⊎_elim
    (p (λ x j. s x (∈-left (letters f) j)) l)
    (q (λ x j. s x (∈-right (letters e) j)) l)
    (append-∈ g i)

sized-numbered : (k : ℕ) (e : Exp) → SizedLetters e → SizedLetters (renumbered k e)
unfolding renumbered letters
sized-numbered k (letter x) s l i = subst (λ (y : Letter). AllSized y.literals) (sym (one-∈ i)) (s x (here refl))
sized-numbered k (seq e f) s l i = two_sized e f _ _ s (sized-numbered k e) (sized-numbered (k + size e) f) l i
sized-numbered k (alt e f) s l i = two_sized e f _ _ s (sized-numbered k e) (sized-numbered (k + size e) f) l i
sized-numbered k (star e) s l i = sized-numbered k e s l i
sized-numbered k (pipe e f) s l i = two_sized e f _ _ s (sized-numbered k e) (sized-numbered (k + size e) f) l i

-- ---- codes and flags

named : (o : Option ℕ) (n k : ℕ) → Below n o → n ≤ 256 → k ≡ coded o → (k ≡ 0 → ⊥) → o ≡ some (k - 1)
named none n k b l e z = absurd (z e)
named (some a) n k b l e z = ap some (omega (arith, b))

unnamed : (o : Option ℕ) (k : ℕ) → k ≡ coded o → k ≡ 0 → o ≡ none
unnamed none k e z = refl
unnamed (some a) k e z = absurd (omega arith)

raised : (b : Bool) (k : ℕ) → k ≡ flag b → (k ≡ 0 → ⊥) → b ≡ true
raised true k e z = refl
raised false k e z = absurd (z e)

lowered : (b : Bool) (k : ℕ) → k ≡ flag b → k ≡ 0 → b ≡ false
lowered true k e z = absurd (omega arith)
lowered false k e z = refl

-- ---- rules 9 and 10

module _ (P : List ℕ) (cell row index : ℕ) where
  pub cell-inside : SomeMonitor P cell row index → cell + 2 < length P
  cell-inside (c, m, w) = omega (arith, w.production.used, w.within)

  -- whatever monitor has the cell
  abbrev pub OpensAs : (A A' : Tables) → Result Laid LetterFault → Type 0
  OpensAs A A' r = (c : ℕ) → (m : Exp) → MonitorAt P c cell row index m → Opens row index m A A' r

  -- a rule is broken
  abbrev pub Breaks : Tables → Refusal → ℕ → Type 0
  Breaks A f n = OpensAs A A (Err (record { rule = f; letter = n }))

  module _ (k : ℕ) (q : k ≡ part2 (at P (cell + 2))) where
    pub opens-impossible : (k ≡ 0 → ⊥) → (A : Tables) → Breaks A refusal.Impossible (k - 1)
    opens-impossible z A c m w =
        let e = named (impossible_at m) (size m) k (impossible-below m) (omega (arith, w.space)) (q ∙ w.production.impossible) z in
        record {
          answers = sym (shape-summary m ∙ ap (λ (o : Option ℕ). turned_at 9 o (turned_at 10 (unless_nullable m (hollow_at m)) (rules11and12 (renumbered 0 m)))) e);
          stored = tt;
        }

    module _ (z : k ≡ 0) where
      -- rule 9 is kept
      is-possible : (c : ℕ) (m : Exp) → MonitorAt P c cell row index m → impossible_at m ≡ none
      is-possible c m w = unnamed (impossible_at m) k (q ∙ w.production.impossible) z

      at-ten : (c : ℕ) (m : Exp) → MonitorAt P c cell row index m → (o : Option ℕ) → unless_nullable m (hollow_at m) ≡ o
          → shape (renumbered 0 m) ≡ turned_at 10 o (rules11and12 (renumbered 0 m))
      at-ten c m w o e =
          shape-summary m ∙ ap (λ (p : Option ℕ). turned_at 9 p (turned_at 10 (unless_nullable m (hollow_at m)) (rules11and12 (renumbered 0 m)))) (is-possible c m w)
          ∙ ap (λ (p : Option ℕ). turned_at 10 p (rules11and12 (renumbered 0 m))) e

      module _ (b : ℕ) (u : b ≡ part1 (at P (cell + 2))) where
        pub opens-null : (b ≡ 0 → ⊥) → (A : Tables) → Breaks A refusal.Hollow 0
        opens-null y A c m w =
            let e = raised (nullable m) b (u ∙ w.production.null) y in
            record {
              answers = sym (at-ten c m w (some 0) (ap (λ (t : Bool). cond t (some 0) (hollow_at m)) e));
              stored = tt;
            }

        module _ (y : b ≡ 0) (h : ℕ) (v : h ≡ part3 (at P (cell + 2))) where
          not_null : (c : ℕ) (m : Exp) → MonitorAt P c cell row index m → unless_nullable m (hollow_at m) ≡ hollow_at m
          not_null c m w = ap (λ (t : Bool). cond t (some 0) (hollow_at m)) (lowered (nullable m) b (u ∙ w.production.null) y)

          pub opens-hollow : (h ≡ 0 → ⊥) → (A : Tables) → Breaks A refusal.Hollow (h - 1)
          opens-hollow x A c m w =
              let e = named (hollow_at m) (size m) h (hollow-below m) (omega (arith, w.space)) (v ∙ w.production.hollow) x in
              record {
                answers = sym (at-ten c m w (some (h - 1)) (not_null c m w ∙ e));
                stored = tt;
              }

          -- ---- both are kept

          module _ (x : h ≡ 0) (node : ℕ) (d : node ≡ part0 (at P (cell + 1))) where
            solid : (c : ℕ) (m : Exp) → MonitorAt P c cell row index m → unless_nullable m (hollow_at m) ≡ none
            solid c m w = not_null c m w ∙ unnamed (hollow_at m) h (v ∙ w.production.hollow) x

            exp-at : (c : ℕ) (m : Exp) → MonitorAt P c cell row index m → ExpAt P c node row index m
            exp-at c m w = record {
              within = w.within;
              denotes = rw d w.production.node;
              room = omega (arith, w.low, w.space, rows-summary m (solid c m w));
              space = w.space;
            }

            pub some-exp : SomeMonitor P cell row index → SomeExp P node row index
            some-exp (c, m, w) = (c, m, exp-at c m w)

            module _ (A A' : Tables) (r : Result Laid LetterFault) (a : (c : ℕ) → (e : Exp) → ExpAt P c node row index e → Ruled row index e A A' r) (arrays : ArraysIn A) where
              pub opens-ruled : OpensAs A A' r
              opens-ruled c m w =
                  let s = exp-at c m w in
                  let t = a c (renumbered 0 m) (numbered-at P c node row index 0 m s) in
                  let u = a c m s in
                  let room : row + rows (renumbered 0 m) ≤ 1024 = omega (arith, s.room, renumbered-rows 0 m) in
                  let space : index + size (renumbered 0 m) ≤ 256 = omega (arith, s.space, renumbered-size 0 m) in
                  let laid = rows-laid A.table (letters_in A) arrays row row index (renumbered 0 m) A'.table (letters_in A') t.stored.rows_stored t.stored.letters_stored room space in
                  let right = judge-right (kinds A'.table) (lefts A'.table) (rights A'.table) A'.look A'.want row index (renumbered 0 m)
                  (laid-held (kinds A'.table) (lefts A'.table) (rights A'.table) A'.look A'.want (renumbered 0 m) row index laid) (renumbered-ordered 0 m)
                  (sized-numbered 0 m w.production.sized) (possible m (is-possible c m w)) (omega arith) in
                  record {
                    answers = t.answers ∙ ap (λ (z : ℕ). judge_of (kinds A'.table) (lefts A'.table) (rights A'.table) A'.look A'.want row index z) t.stored.next_letter
                        ∙ right ∙ sym (at-ten c m w none (solid c m w));
                    stored = IfOk-weaker r (λ x. x ≡ u.next) (λ x. StoredIn row row index m A A' x)
                        (λ x e. subst (λ (y : Laid). StoredIn row row index m A A' y) (sym e) u.stored) u.told;
                  }

              pub ruled-arrays : SomeMonitor P cell row index → ArraysIn A'
              ruled-arrays (c, m, w) = stored-arrays (a c m (exp-at c m w)).stored arrays
