-- The literals of a condition with some more: masks and store tests. Assumes nothing.
use mathlib.Core.Path.{◌≡◌, refl, sym, ◌∙◌, ap, ap₂, subst}
use mathlib.Core.Bool.{Bool, true, false, ◌&&◌}
use mathlib.Core.Logic.{⊎_elim}
use mathlib.Core.List.{List, [], ◌∷◌, ◌++◌, append_assoc}
use Prim.Native.Nat.{ℕ, ◌+◌, ◌-◌, ◌*◌, ◌^◌, ◌<◌, ◌≤◌}
use native.Mathlib.Omega.{arith}
use lib.Bits.{bit_or, or_zero_r, and_zero_r}
use lib.ListN.{length}
use borrow.Author.Tests.{ne_eqb}
use Rattle.meaning.specs.Expression.{Literal, wire, wire_store, wire_past, store, store_tests}
use Rattle.meaning.specs.ShapeTests.{agree, AllSized, Sized}
use Rattle.meaning.proofs.ListLaws.{cons-∈, no-∈}
use Rattle.meaning.proofs.Within.{count-append}
use Rattle.masks.specs.Masks.{look, want, held, compatible}
use Rattle.masks.proofs.Masks.{compatible-apart, look-append, want-append, held-append, sized-append, agree-append, agree-one}
use Rattle.rules.specs.declared.literals.Condition.{Condition}
use Rattle.words.specs.Words.{part0, part1, part2}
use Rattle.rules.specs.Cells.{at, Link, link, LinkAt, Links, tests_on, held_at, HeldIs}
use Rattle.rules.specs.Conditions.{Extends, MasksAre, TestsAre, ConditionIs, Joined, Linked, LinkedBoth, HeldBoth}
use Rattle.rules.proofs.Put.{extends-refl}
use Rattle.rules.proofs.Kept.{links-kept, tests-kept, held_kept}

-- ---- store tests

tests-append : (xs : List Link) (ls ms : List Literal) → tests_on xs (ls ++ ms) ≡ tests_on (tests_on xs ls) ms
unfolding tests_on
tests-append xs [] ms = refl
tests-append xs (wire lo w v ∷ ls) ms = tests-append xs ls ms
tests-append xs (wire_store lo w s ∷ ls) ms = tests-append _ ls ms
tests-append xs (wire_past lo w ∷ ls) ms = tests-append xs ls ms
tests-append xs (store s v ∷ ls) ms = tests-append _ ls ms

tests-onto : (xs : List Link) (ls : List Literal) → tests_on xs ls ≡ tests_on [] ls ++ xs
unfolding tests_on
tests-onto xs [] = refl
tests-onto xs (wire lo w v ∷ ls) = tests-onto xs ls
tests-onto xs (wire_store lo w s ∷ ls) = tests-onto (link s lo w 0 ∷ xs) ls ∙ sym (ap (λ z. z ++ xs) (tests-onto (link s lo w 0 ∷ []) ls) ∙ append_assoc (tests_on [] ls) (link s lo w 0 ∷ []) xs)
tests-onto xs (wire_past lo w ∷ ls) = tests-onto xs ls
tests-onto xs (store s v ∷ ls) = tests-onto (link s 0 0 v ∷ xs) ls ∙ sym (ap (λ z. z ++ xs) (tests-onto (link s 0 0 v ∷ []) ls) ∙ append_assoc (tests_on [] ls) (link s 0 0 v ∷ []) xs)

pub tests-length : (xs : List Link) (ls : List Literal) → length (tests_on xs ls) ≡ store_tests ls + length xs
unfolding tests_on store_tests
tests-length xs [] = omega arith
tests-length xs (wire lo w v ∷ ls) = tests-length xs ls
tests-length xs (wire_store lo w s ∷ ls) = omega (arith, tests-length (link s lo w 0 ∷ xs) ls)
tests-length xs (wire_past lo w ∷ ls) = tests-length xs ls
tests-length xs (store s v ∷ ls) = omega (arith, tests-length (link s 0 0 v ∷ xs) ls)

none-tested : (ls : List Literal) → store_tests ls ≡ 0 → (xs : List Link) → tests_on xs ls ≡ xs
unfolding tests_on store_tests
none-tested [] e xs = refl
none-tested (wire lo w v ∷ ls) e xs = none-tested ls e xs
none-tested (wire_store lo w s ∷ ls) e xs = absurd (omega arith)
none-tested (wire_past lo w ∷ ls) e xs = none-tested ls e xs
none-tested (store s v ∷ ls) e xs = absurd (omega arith)

single : (xs : List Link) → length xs ≡ 1 → (y : Link) × (xs ≡ y ∷ [])
single [] e = absurd (omega arith)
single (y ∷ []) e = (y, refl)
single (y ∷ (z ∷ xs)) e = absurd (omega arith)

-- what a define's only link tells
pub only-link : (P : List ℕ) (c i : ℕ) (ds : List Literal) → TestsAre P c 1 i ds → (y : Link) × (tests_on [] ds ≡ y ∷ []) × LinkAt P c i y
unfolding Links
only-link P c i ds t =
    let n : store_tests ds ≡ 1 = omega (arith, t.count) in
    let (y, e) = single (tests_on [] ds) (tests-length [] ds ∙ (let z : store_tests ds + 0 ≡ 1 = omega arith in z)) in
    (y, e, (subst (Links P c i) e (t.links (omega arith))).0)

-- ---- the store tests of two lists

module _ (P : List ℕ) (c tests last more other : ℕ) where
  pub both-none : more ≡ 0 → LinkedBoth P c tests last more other c tests last P
  both-none z =
      record {
        extends = extends-refl P c;
        few = omega arith;
        shared = λ e. refl;
        both = λ ls ds a b.
            let n : store_tests ds ≡ 0 = omega (arith, b.count) in
            record {
              count = omega (arith, a.count, count-append ls ds);
              links = λ l. subst (Links P c last) (sym (tests-append [] ls ds ∙ none-tested ds n _)) (a.links (omega (arith, count-append ls ds)));
              low = a.low;
            };
      }

  pub both_first : tests ≡ 0 → LinkedBoth P c tests last more other c more other P
  both_first z =
      record {
        extends = extends-refl P c;
        few = omega arith;
        shared = λ e. refl;
        both = λ ls ds a b.
            let n : store_tests ls ≡ 0 = omega (arith, a.count) in
            record {
              count = omega (arith, b.count, count-append ls ds);
              links = λ l. subst (Links P c other) (sym (tests-append [] ls ds ∙ ap (λ xs. tests_on xs ds) (none-tested ls n []))) (b.links (omega (arith, count-append ls ds)));
              low = b.low;
            };
      }

  pub both-many : 2 < tests + more → 0 < c → LinkedBoth P c tests last more other c 3 0 P
  both-many l s =
      record {
        extends = extends-refl P c;
        few = omega arith;
        shared = λ e. refl;
        both = λ ls ds a b.
            let n : 2 < store_tests (ls ++ ds) = omega (arith, a.count, b.count, count-append ls ds) in
            record { count = omega arith; links = λ m. absurd (omega arith); low = s };
      }

  -- one test each: the second's link is written again behind the first's
  pub both_one : (free all new s lo width v : ℕ) (Q : List ℕ) → tests ≡ 1 → more ≡ 1
      → s ≡ part0 (at P other) → lo ≡ part1 (at P other) → width ≡ part2 (at P other) → v ≡ at P (other + 1)
      → Linked P c tests last (link s lo width v) free all new Q → LinkedBoth P c tests last more other free all new Q
  unfolding LinkAt Links
  both_one free all new s lo width v Q t m es el ew ev k =
      record {
        extends = k.extends;
        few = k.few;
        shared = λ e. absurd (omega arith);
        both = λ ls ds a b.
            let (y, e, z) = only-link P c other ds (subst (λ (n : ℕ). TestsAre P c n other ds) m b) in
            let (i, ps, pl, pw, pv, f) = z in
            let same : link s lo width v ≡ y = rw (es ∙ ps, el ∙ pl, ew ∙ pw, ev ∙ pv) in
            let (cell, back) = k.cell (omega arith) in
            record {
              count = omega (arith, a.count, b.count, k.count, count-append ls ds);
              links = λ l.
                  subst (Links Q free new) (sym (tests-append [] ls ds ∙ tests-onto (tests_on [] ls) ds ∙ ap (λ xs. xs ++ tests_on [] ls) e)) (
                    subst (λ z. LinkAt Q free new z) same cell,
                    subst (λ z. Links Q free z (tests_on [] ls)) (sym back) (links-kept P c Q free k.extends last (tests_on [] ls) (a.links (omega (arith, a.count)))),
                  );
              low = k.low;
            };
      }

-- ---- masks

-- masks besides are those of the literals that follow
pub masks-joined : (q r : Condition) (l w : ℕ) (a : Bool) (ls ds : List Literal) → MasksAre q ls → Joined q l w a r
    → l ≡ look ds → w ≡ want ds → a ≡ agree ds → AllSized ds → MasksAre r (ls ++ ds)
masks-joined q r l w a ls ds m j el ew ea sd =
    record {
      looks = j.looks ∙ ap₂ bit_or m.looks el ∙ sym (look-append ls ds m.sized sd);
      wants = j.wants ∙ ap₂ bit_or m.wants ew ∙ sym (want-append ls ds m.sized sd);
      agrees =
          j.agrees ∙ ap₂ (λ x y. (x && y) && compatible q.look q.want l w) m.agrees ea
          ∙ ap₂ (λ x y. (agree ls && agree ds) && compatible x y l w) m.looks m.wants
          ∙ ap₂ (λ x y. (agree ls && agree ds) && compatible (look ls) (want ls) x y) el ew
          ∙ sym (agree-append ls ds m.sized sd);
      sized = sized-append ls ds m.sized sd;
    }

-- one literal
one-sized : (l : Literal) → Sized l → AllSized (l ∷ [])
one-sized l s x i = ⊎_elim (λ e. subst Sized (sym e) s) (λ j. absurd (no-∈ j)) (cons-∈ i)

-- ---- wires that must be as before

-- a literal that holds none
pub held_same : (P : List ℕ) (c i : ℕ) (ls ds : List Literal) → AllSized ls → AllSized ds → held ds ≡ 0 → HeldIs P c i ls → HeldIs P c i (ls ++ ds)
held_same P c i ls ds sl sd e h = record { low = h.low; mask = h.mask ∙ sym (held-append ls ds sl sd ∙ ap (bit_or (held ls)) e ∙ or_zero_r _) }

-- those of two lists
pub held-joined : (P : List ℕ) (c one other free new : ℕ) (Q : List ℕ) (ls ds : List Literal) → AllSized ls → AllSized ds → HeldIs P c one ls → HeldIs P c other ds
    → HeldBoth P c one other free new Q → HeldIs Q free new (ls ++ ds)
held-joined P c one other free new Q ls ds sl sd a b k =
    record { low = k.low; mask = k.mask ∙ ap₂ bit_or a.mask b.mask ∙ sym (held-append ls ds sl sd) }

-- a wire literal more
pub wire-added : (P : List ℕ) (c : ℕ) (q r : Condition) (lo width v : ℕ) (ls : List Literal) → v < 2 ^ width → lo + width ≤ 64
    → ConditionIs P c q ls → Joined q ((2 ^ width - 1) * 2 ^ lo) (v * 2 ^ lo) true r → ConditionIs P c r (ls ++ (wire lo width v ∷ []))
unfolding look want held store_tests tests_on
wire-added P c q r lo width v ls h f k j =
    let t : TestsAre P c r.tests r.link ls = subst (λ n. TestsAre P c n r.link ls) (sym j.tests) (subst (λ n. TestsAre P c q.tests n ls) (sym j.link) k.tests) in
    record {
      masks = masks-joined q r _ _ true ls (wire lo width v ∷ []) k.masks j (sym (or_zero_r _)) (sym (or_zero_r _)) (sym (agree-one lo width v h)) (one-sized _ (h, f));
      tests = record {
        count = omega (arith, t.count, count-append ls (wire lo width v ∷ []));
        links = λ l. subst (Links P c r.link) (sym (tests-append [] ls (wire lo width v ∷ []))) (t.links (omega (arith, count-append ls (wire lo width v ∷ []))));
        low = t.low;
      };
      helds = held_same P c r.held ls (wire lo width v ∷ []) k.masks.sized (one-sized _ (h, f)) refl (subst (λ i. HeldIs P c i ls) (sym j.held) k.helds);
    }

-- ---- a store test more

-- the literal is a store test, and this is its link
pub record IsTest (l : Literal) (x : Link) : Type 0 where
  pub looks : look (l ∷ []) ≡ 0
  pub wants : want (l ∷ []) ≡ 0
  pub helds : held (l ∷ []) ≡ 0
  pub agrees : agree (l ∷ []) ≡ true
  pub sized : Sized l
  pub count : store_tests (l ∷ []) ≡ 1
  pub links : (xs : List Link) → tests_on xs (l ∷ []) ≡ x ∷ xs

pub wire-test : (lo width s : ℕ) → IsTest (wire_store lo width s) (link s lo width 0)
unfolding look want held agree store_tests tests_on
wire-test lo width s = record { looks = refl; wants = refl; helds = refl; agrees = refl; sized = tt; count = refl; links = λ xs. refl }

pub store-test : (s v : ℕ) → IsTest (store s v) (link s 0 0 v)
unfolding look want held agree store_tests tests_on
store-test s v = record { looks = refl; wants = refl; helds = refl; agrees = refl; sized = tt; count = refl; links = λ xs. refl }

-- the condition with other store tests
abbrev pub retested : Condition → (tests link : ℕ) → Condition
retested q n i = record { look = q.look; want = q.want; agrees = q.agrees; tests = n; link = i; held = q.held }

-- and with other wires to be as before
abbrev pub reheld : Condition → (held : ℕ) → Condition
reheld q k = record { look = q.look; want = q.want; agrees = q.agrees; tests = q.tests; link = q.link; held = k }

masks-same : (q : Condition) (n i : ℕ) (ls ds : List Literal) → MasksAre q ls → look ds ≡ 0 → want ds ≡ 0 → agree ds ≡ true → AllSized ds → MasksAre (retested q n i) (ls ++ ds)
masks-same q n i ls ds m el ew ea sd =
    record {
      looks = m.looks ∙ sym (look-append ls ds m.sized sd ∙ ap (bit_or (look ls)) el ∙ or_zero_r _);
      wants = m.wants ∙ sym (want-append ls ds m.sized sd ∙ ap (bit_or (want ls)) ew ∙ or_zero_r _);
      agrees =
          m.agrees
          ∙ sym (agree-append ls ds m.sized sd ∙ ap (λ x. (agree ls && x) && compatible (look ls) (want ls) (look ds) (want ds)) ea
          ∙ ap (λ x. (agree ls && true) && compatible (look ls) (want ls) x (want ds)) el ∙ always (agree ls) (look ls) (want ls) (want ds));
      sized = sized-append ls ds m.sized sd;
    }
  where
    always : (a : Bool) (x y z : ℕ) → ((a && true) && compatible x y 0 z) ≡ a
    always true x y z = compatible-apart x y 0 z (and_zero_r x)
    always false x y z = refl

pub test-added : (P : List ℕ) (c free n i : ℕ) (Q : List ℕ) (q : Condition) (l : Literal) (x : Link) (ls : List Literal) → IsTest l x
    → ConditionIs P c q ls → Linked P c q.tests q.link x free n i Q → ConditionIs Q free (retested q n i) (ls ++ (l ∷ []))
unfolding Links
test-added P c free n i Q q l x ls t k j =
    let a = k.tests in
    let s = count-append ls (l ∷ []) in
    record {
      masks = masks-same q n i ls (l ∷ []) k.masks t.looks t.wants t.agrees (one-sized l t.sized);
      tests = record {
        count = omega (arith, a.count, j.count, s, t.count);
        links = λ m.
            let (cell, back) = j.cell (omega (arith, a.count, s, t.count)) in
            subst (Links Q free i) (sym (tests-append [] ls (l ∷ []) ∙ t.links (tests_on [] ls)))
            (cell, subst (λ z. Links Q free z (tests_on [] ls)) (sym back) (links-kept P c Q free j.extends q.link (tests_on [] ls) (a.links (omega (arith, s, t.count)))));
        low = j.low;
      };
      helds = held_same Q free q.held ls (l ∷ []) k.masks.sized (one-sized l t.sized) t.helds (held_kept P c Q free j.extends q.held ls k.helds);
    }

-- a define more
pub define-added : (P : List ℕ) (c free n i : ℕ) (Q : List ℕ) (q r : Condition) (l w : ℕ) (b : Bool) (more other : ℕ) (ls ds : List Literal)
    → ConditionIs P c q ls → Joined q l w b r → l ≡ look ds → w ≡ want ds → b ≡ agree ds → AllSized ds
    → TestsAre P c more other ds → LinkedBoth P c q.tests q.link more other free n i Q
    → (own new last : ℕ) (R : List ℕ) → HeldIs P c own ds → HeldBoth Q free q.held own last new R → ConditionIs R last (reheld (retested r n i) new) (ls ++ ds)
define-added P c free n i Q q r l w b more other ls ds k j el ew eb sd td lb own new last R ho hb =
    let m = masks-joined q r l w b ls ds k.masks j el ew eb sd in
    record {
      masks = record { looks = m.looks; wants = m.wants; agrees = m.agrees; sized = m.sized };
      tests = tests-kept Q free R last hb.extends n i (ls ++ ds) (lb.both ls ds k.tests td);
      helds = held-joined Q free q.held own last new R ls ds k.masks.sized sd (held_kept P c Q free lb.extends q.held ls k.helds) (held_kept P c Q free lb.extends own ds ho) hb;
    }

-- a past literal more: its mask is written with that of the wires held before
pub past-added : (P : List ℕ) (c : ℕ) (q : Condition) (lo width : ℕ) (ls : List Literal) (Q : List ℕ) → lo + width ≤ 64 → Extends P c Q (c + 1) → 1 ≤ c
    → at Q c ≡ bit_or (held_at P q.held) ((2 ^ width - 1) * 2 ^ lo) → ConditionIs P c q ls → ConditionIs Q (c + 1) (reheld q c) (ls ++ (wire_past lo width ∷ []))
unfolding look want held agree store_tests tests_on
past-added P c q lo width ls Q f x one w k =
    let ds = wire_past lo width ∷ [] in
    let sd = one-sized (wire_past lo width) f in
    let m = masks-same q q.tests q.link ls ds k.masks refl refl refl sd in
    let t = tests-kept P c Q (c + 1) x q.tests q.link ls k.tests in
    record {
      masks = record { looks = m.looks; wants = m.wants; agrees = m.agrees; sized = m.sized };
      tests = record {
        count = omega (arith, t.count, count-append ls ds);
        links = λ l. subst (Links Q (c + 1) q.link) (sym (tests-append [] ls ds)) (t.links (omega (arith, count-append ls ds)));
        low = t.low;
      };
      helds = record {
        low = omega arith;
        mask = rw (ne_eqb c 0 (λ e. omega arith)) (w ∙ ap (λ (n : ℕ). bit_or n ((2 ^ width - 1) * 2 ^ lo)) k.helds.mask
            ∙ ap (bit_or (held ls)) (sym (or_zero_r _)) ∙ sym (held-append ls ds k.masks.sized sd));
      };
    }
