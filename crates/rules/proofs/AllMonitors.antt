-- The monitors laid one behind the other, as long as rules 9 to 12 are kept. Assumes nothing.
use mathlib.Core.Path.{◌≡◌, refl, sym, ◌∙◌, ap, ap₂}
use Rattle.std.specs.Prelude.{Some, None, Result, Ok, Err, MatchResult, IsErrAnd}
use Rattle.std.proofs.lemmas.Result.{IfOk-at_ok}
use mathlib.Core.List.{List, ◌∷◌, map}
use Prim.Native.Nat.{ℕ, suc, ◌+◌, ◌*◌, ◌<◌, ◌≤◌}
use native.Mathlib.Numerals.{add-one}
use native.Mathlib.Omega.{arith}
use lib.ListN.{get_or, set}
use Rattle.meaning.specs.Lists.{each, total}
use Rattle.meaning.specs.Answers.{Answer, value}
use Rattle.meaning.specs.Expression.{Exp, letters, size, rows, renumbered}
use Rattle.meaning.specs.ShapeTests.{Shape, accepted, turned_away, shape}
use Rattle.meaning.specs.Opening.{Opened, as_opened, by_shape, misshapen, open_program}
use Rattle.meaning.specs.Names.{Program}
use Rattle.meaning.proofs.ListLaws.{clash}
use Rattle.meaning.proofs.Numbering.{renumbered-size, renumbered-rows}
use Rattle.meaning.proofs.RowCount.{rows_bound}
use Rattle.rules.specs.Laying.{row_codes, with_rows, LetterLists, letters_in, with_letters, Stored, StoredIn}
use Rattle.rules.specs.Monitors.{MonitorsAre, SomeMonitors, FewLetters, FirstLong, MonitorAt, SomeMonitor, codes_all, starts_by, Lists, lists, with_monitors, AllStored, shown_shape, refused_as, OpenedBy, by_shapes, by_rules}
use Rattle.refusals.specs.Refusals.{number_of}
use Rattle.refusals.specs.declared.Refusal.TheVariants.{LongRun}
use Rattle.rules.specs.declared.lay.Tables.{Tables}
use Rattle.rules.specs.declared.lay.Laid.{Laid}
use Rattle.rules.specs.declared.opening.LetterFault.{LetterFault}
use Rattle.rules.specs.declared.Counts.{Counts}
use Rattle.rules.specs.declared.Refused.{Refused}
use Rattle.rules.specs.declared.Refused.TheVariants.{AtLetter}
use Rattle.rules.proofs.Overlay.{rows_behind, letters-behind}
use Rattle.rules.proofs.Placing.{codes-long, letters-long}
use Rattle.rules.proofs.LongRun.{Ahead, Next, all-ahead, next-ahead, none_ahead}
use Rattle.rules.proofs.OneMonitor.{OpensAs}

-- ---- a fault told with its monitor

-- s is r, where each fault in r is told in some way
module _ (r : Result Laid LetterFault) (s : Result Laid Refused) (Tells : LetterFault → Refused → Type 0) (m : MatchResult r (λ x. s ≡ Ok x) (λ e. IsErrAnd s (Tells e))) where
  pub was-laid : (y : Laid) → s ≡ Ok y → r ≡ Ok y
  was-laid y z = by r m
    where
      by : (r : Result Laid LetterFault) → MatchResult r (λ x. s ≡ Ok x) (λ e. IsErrAnd s (Tells e)) → r ≡ Ok y
      by (Ok x) e = let p : ◌≡◌ {A = Result Laid Refused} (Ok y) (Ok x) = sym z ∙ e in cc
      by (Err e) h = absurd (rw z at h)

  pub was-fault : (y : Refused) → s ≡ Err y → (e : LetterFault) × (r ≡ Err e) × Tells e y
  was-fault y z = by r m
    where
      by : (r : Result Laid LetterFault) → MatchResult r (λ x. s ≡ Ok x) (λ e. IsErrAnd s (Tells e)) → (e : LetterFault) × (r ≡ Err e) × Tells e y
      by (Ok x) e = let p : ◌≡◌ {A = Result Laid Refused} (Err y) (Ok x) = sym z ∙ e in clash (cc)
      by (Err e) h = (e, refl, rw z at h)

-- ---- the monitors that are still ahead

same_lists : {T T' : List ℕ} {L L' : LetterLists} {S S' F F' : List ℕ} → T ≡ T' → L ≡ L' → S ≡ S' → F ≡ F' → lists T L S F ≡ lists T' L' S' F'
same_lists {T} {T'} {L} {L'} {S} {S'} {F} {F'} p q r s = ap₂ (λ (x : List ℕ) (y : LetterLists). lists x y S F) p q ∙ ap₂ (λ (x y : List ℕ). lists T' L' x y) r s

-- a monitor is stored, and then those behind it
one_more_lem : (T T' : List ℕ) (L L' : LetterLists) (S F : List ℕ) (i row index r l : ℕ) (m : Exp) (ms : List Exp) → Stored row row index m T T' L L' r l
    → with_monitors (lists T' L' (set S i row) (set F i index)) (i + 1) r l ms ≡ with_monitors (lists T L S F) i row index (m ∷ ms)
unfolding codes_all starts_by
one_more_lem T T' L L' S F i row index r l m ms s =
    let a = s.next_row in
    let b = s.next_letter in
    rw (a, b, add-one i) (same_lists
    (ap (λ (A : List ℕ). with_rows A (row + rows m) (codes_all (row + rows m) (index + size m) ms)) s.rows_stored
    ∙ rows_behind T row (row_codes row row index m) (row + rows m) (codes_all (row + rows m) (index + size m) ms) (omega (arith, codes-long row row index m)))
    (ap (λ (A : LetterLists). with_letters A (index + size m) (each ms letters)) s.letters_stored
    ∙ letters-behind L index (letters m) (index + size m) (each ms letters) (omega (arith, letters-long m)))
    refl refl)

-- the monitors before number i are stored: with those that are ahead, all are
pub record Going (P : List ℕ) (c : ℕ) (M : List ℕ) (count : ℕ) (ms : List Exp) (A₀ A : Lists) (i row index : ℕ) : Type 0 where
  pub rest : List Exp
  pub ahead : Ahead P c M count i rest
  pub same : (o : Answer Opened) → by_shapes ms o ≡ misshapen i (map (renumbered 0) rest) o
  pub tables : with_monitors A i row index rest ≡ with_monitors A₀ 0 0 0 ms
  pub rows_sum : row + total rows rest ≡ total rows ms
  pub letters_sum : index + total size rest ≡ total size ms
  pub low : row ≤ 4 * index

-- whatever monitors there are
abbrev pub AllGoing : (P M : List ℕ) → (count : ℕ) → (A₀ A : Lists) → (i row index : ℕ) → Type 0
AllGoing P M count A₀ A i row index = (c : ℕ) → (ms : List Exp) → MonitorsAre P c M count ms → total size ms ≤ 256 → Going P c M count ms A₀ A i row index

abbrev AllOpened : (P M : List ℕ) → (count : ℕ) → (A₀ A : Lists) → Result Counts Refused → Type 0
AllOpened P M count A₀ A r = (c : ℕ) → (ms : List Exp) → MonitorsAre P c M count ms → total size ms ≤ 256 → OpenedBy (by_shapes ms) ms A₀ A r

module _ (P M : List ℕ) (count : ℕ) (A₀ : Lists) where
  pub going_start : AllGoing P M count A₀ A₀ 0 0 0
  going_start c ms w b = record {
    rest = ms;
    ahead = all-ahead w;
    same = λ o. refl;
    tables = refl;
    rows_sum = omega arith;
    letters_sum = omega arith;
    low = omega arith;
  }

  module _ (T : List ℕ) (L : LetterLists) (S F : List ℕ) (i row index : ℕ) (a : AllGoing P M count A₀ (lists T L S F) i row index) where
    pub going_end : (i < count → ⊥) → AllOpened P M count A₀ (lists T L S F) (Ok (record { rows = row; letters = index }))
    unfolding OpenedBy misshapen codes_all starts_by
    going_end l c ms w b =
        let s = a c ms w b in
        let e = none_ahead i s.rest s.ahead l in
        let p : total rows s.rest ≡ 0 = ap (total rows) e in
        let q : total size s.rest ≡ 0 = ap (total size) e in (
          λ o. s.same o ∙ ap (λ (x : List Exp). misshapen i (map (renumbered 0) x) o) e,
          record {
            tables = sym (ap (λ (x : List Exp). with_monitors (lists T L S F) i row index x) e) ∙ s.tables;
            row_count = omega (arith, s.rows_sum);
            letter_count = omega (arith, s.letters_sum);
          },
        )

    module _ (l : i < count) where
      at_next : (c : ℕ) (ms : List Exp) (w : MonitorsAre P c M count ms) (b : total size ms ≤ 256) (n : Next P c M count i (a c ms w b).rest)
          → MonitorAt P c (get_or M i 0) row index n.monitor
      at_next c ms w b n =
          let s = a c ms w b in
          let t : total size s.rest ≡ size n.monitor + total size n.others = ap (total size) n.split in
          record { within = w.within; production = n.production; space = omega (arith, s.letters_sum); low = s.low }

      pub some_next : FewLetters P M count → SomeMonitor P (get_or M i 0) row index
      some_next (c, ms, w, b) =
          let s = a c ms w b in
          let n = next-ahead i s.rest s.ahead l in
          (c, n.monitor, at_next c ms w b n)

      -- the next monitor's shape is asked
      asked : (c : ℕ) (ms : List Exp) (w : MonitorsAre P c M count ms) (b : total size ms ≤ 256) (n : Next P c M count i (a c ms w b).rest) (x : Shape)
          → shape (renumbered 0 n.monitor) ≡ x → (o : Answer Opened) → by_shapes ms o ≡ by_shape i x (misshapen (suc i) (map (renumbered 0) n.others) o)
      unfolding misshapen
      asked c ms w b n x e o =
          (a c ms w b).same o ∙ ap (λ (y : List Exp). misshapen i (map (renumbered 0) y) o) n.split
          ∙ ap (λ (y : Shape). by_shape i y (misshapen (suc i) (map (renumbered 0) n.others) o)) e

      -- S is what stands in the tables before it, and B behind it
      module _ (A B : Tables) (x : Result Laid LetterFault) (d : OpensAs P (get_or M i 0) row index A B x) where
        pub going-refused : (e : LetterFault) → x ≡ Err e → (y : Refused) → y ≡ AtLetter e.rule i e.letter → (C : Lists) → AllOpened P M count A₀ C (Err y)
        unfolding OpenedBy
        going-refused e z y v C c ms w b =
            let s = a c ms w b in
            let n = next-ahead i s.rest s.ahead l in
            let t = d c n.monitor (at_next c ms w b n) in
            rw v (asked c ms w b n (turned_away (number_of e.rule) e.letter) (sym t.answers ∙ ap shown_shape z))

        pub going_next : (y : Laid) → x ≡ Ok y → A.table ≡ T → letters_in A ≡ L
            → AllGoing P M count A₀ (lists B.table (letters_in B) (set S i row) (set F i index)) (i + 1) y.row y.letter
        going_next y z p₀ q₀ c ms w b =
            let s = a c ms w b in
            let n = next-ahead i s.rest s.ahead l in
            let m = n.monitor in
            let t = d c m (at_next c ms w b n) in
            let e : shape (renumbered 0 m) ≡ accepted = sym t.answers ∙ ap shown_shape z in
            let h = IfOk-at_ok (λ k. StoredIn row row index m A B k) z t.stored in
            let g : Stored row row index m T B.table L (letters_in B) y.row y.letter = rw (p₀, q₀) at h in
            let p : total rows s.rest ≡ rows m + total rows n.others = ap (total rows) n.split in
            let q : total size s.rest ≡ size m + total size n.others = ap (total size) n.split in
            record {
              rest = n.others;
              ahead = n.ahead;
              same = λ o. asked c ms w b n accepted e o ∙ rw (add-one i);
              tables = one_more_lem T B.table L (letters_in B) S F i row index y.row y.letter m n.others g ∙ sym (ap (λ (x : List Exp). with_monitors (lists T L S F) i row index x) n.split)
                  ∙ s.tables;
              rows_sum = omega (arith, s.rows_sum, g.next_row);
              letters_sum = omega (arith, s.letters_sum, g.next_letter);
              low = omega (arith, s.low, g.next_row, g.next_letter, rows_bound (renumbered 0 m) e, renumbered-rows 0 m, renumbered-size 0 m);
            }

-- ---- rule 8, and then these

module _ (P M : List ℕ) (count : ℕ) where
  pub too_long : (i : ℕ) → ((c : ℕ) → (ms : List Exp) → MonitorsAre P c M count ms → FirstLong ms (Some i)) → (A A' : Lists) → (c : ℕ) → (ms : List Exp) → MonitorsAre P c M count ms
      → OpenedBy (by_rules ms) ms A A' (Err (AtLetter LongRun i 0))
  unfolding OpenedBy FirstLong
  too_long i a A A' c ms w = λ o. a c ms w (by_shapes ms o)

  module _ (a : (c : ℕ) → (ms : List Exp) → MonitorsAre P c M count ms → FirstLong ms None) where
    few : (c : ℕ) (ms : List Exp) → MonitorsAre P c M count ms → total size ms ≤ 256
    unfolding FirstLong
    few c ms w = (a c ms w).0

    pub few_letters : SomeMonitors P M count → FewLetters P M count
    few_letters (c, ms, w) = (c, ms, w, few c ms w)

    pub not-long : (A A' : Lists) (r : Result Counts Refused) → ((c : ℕ) → (ms : List Exp) → MonitorsAre P c M count ms → total size ms ≤ 256 → OpenedBy (by_shapes ms) ms A A' r)
        → (c : ℕ) → (ms : List Exp) → MonitorsAre P c M count ms → OpenedBy (by_rules ms) ms A A' r
    unfolding OpenedBy FirstLong
    not-long A A' r g c ms w = by r (g c ms w (few c ms w))
      where
        by : (r : Result Counts Refused) → OpenedBy (by_shapes ms) ms A A' r → OpenedBy (by_rules ms) ms A A' r
        by (Ok n) (p, q) = ((λ o. (a c ms w).1 (by_shapes ms o) ∙ p o), q)
        by (Err e) p = λ o. (a c ms w).1 (by_shapes ms o) ∙ p o

-- ---- a program's monitors

-- What opening them answers is what opening the program answers.
module _ (p : Program) (A A' : Lists) where
  pub program-ok : (n : Counts) → OpenedBy (by_rules p.monitors) p.monitors A A' (Ok n) → (open_program p ≡ value (as_opened p)) × AllStored p.monitors A A' n.rows n.letters
  unfolding OpenedBy open_program as_opened
  program-ok n (e, s) = (e (value (as_opened p)), s)

  pub program-refused : (e : Refused) → OpenedBy (by_rules p.monitors) p.monitors A A' (Err e) → open_program p ≡ refused_as e
  unfolding OpenedBy open_program as_opened
  program-refused e d = d (value (as_opened p))

  pub program-opened : (r : Result Counts Refused) → OpenedBy (by_rules p.monitors) p.monitors A A' r
      → MatchResult r (λ n. (open_program p ≡ value (as_opened p)) × AllStored p.monitors A A' n.rows n.letters) (λ e. open_program p ≡ refused_as e)
  program-opened (Ok n) a = program-ok n a
  program-opened (Err e) a = program-refused e a
