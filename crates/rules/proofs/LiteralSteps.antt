-- Reading one literal: what each function of the reader of literals comes to. Assumes nothing.
use mathlib.Core.Path.{◌≡◌, refl, sym, ◌∙◌, ap, ap₂, subst}
use mathlib.Core.Bool.{Bool, true, false, not, ◌&&◌}
use mathlib.Core.Option.{Option, none, some}
use mathlib.Core.List.{List, [], ◌∷◌, ◌++◌}
use Prim.Native.Nat.{ℕ, ◌+◌, ◌-◌, ◌*◌, ◌^◌, ◌<◌, ◌≤◌, min}
use native.Mathlib.Omega.{arith}
use borrow.Author.Tests.{le-leb, lt-leb, le-ltb, lt-ltb, ltb-true, ltb-false, ne_eqb, eq-eqb}
use lib.Dec.{leb, ltb, eqb}
use lib.Bits.{bit_or}
use lib.Pow.{pow_pos}
use lib.ListN.{length}
use Rattle.lexer.specs.Bytes.{same, lookup}
use Rattle.lexer.specs.Tokens.{Placed}
use Rattle.lexer.proofs.Bools.{and_left}
use Rattle.meaning.specs.Expression.{Literal, wire, wire_store, wire_past, store, Exp, store_tests}
use Rattle.meaning.specs.ShapeTests.{agree}
use Rattle.meaning.specs.Answers.{refused, byte}
use Rattle.refusals.specs.Numbers.{crowded}
use Rattle.meaning.specs.Reading.{Context, in_define, in_letter, sign, bit_index, store_equals, wire_equals, past_name, wire_more, negated, literal, literal_name, behind_literal, if_number, literal_more, too_many, with_literal, Step, step, go, fault, known, by_kind, choose, unless, not_here, on_name, if_name, at_token, no_pair, no_literals, no_exp}
use Rattle.meaning.specs.Names.{Names, Meaning, an_input, a_store, a_define, a_production}
use Rattle.meaning.proofs.Within.{count-append}
use Rattle.rules.specs.declared.literals.Condition.{Condition}
use Rattle.rules.specs.Conditions.{LiteralsTold}
use Rattle.lexer.specs.declared.Token.{Token as Seen}
use Rattle.lexer.specs.declared.Kind.TheVariants as kind
use Rattle.lexer.specs.declared.Sign.TheVariants as signs
use Rattle.lexer.specs.declared.Word.TheVariants as words
use Rattle.rules.specs.Seen.{fault_of, is_name, seen, Sees}
use Rattle.words.specs.Words.{part0, part1, part2, part3}
use Rattle.rules.specs.Cells
use Rattle.rules.specs.Cells.{at, link, Links, tests_on, held_at, HeldIs, Means, InputAt, StoreAt, DefineAt, Cells, Declared, Finds}
use Rattle.rules.specs.Picks.{kind_number, Only, spelt, bytes_of, Picks}
use Rattle.rules.specs.Reads.{read_from, Unless, fine, faulted, Past, Behind, NumberRead}
use Rattle.rules.specs.Conditions.{Extends, Spent, ConditionIs, most_of, From, Given, Added, Refuses, Adds, Joined, Linked, LinkedBoth, HeldBoth, TestsAre, behind, by_store, by_define, by_test, by_name}
use Rattle.rules.proofs.Stepping.{well, ill, wrong, right, yes, no, faults, since, past, inside-text, past-place, on_step, is-on, is-off, not-here, name-is, number_is, no_number, no_name, spelled, word-on, word-off, word-no-number, name-true, name-false}
use Rattle.rules.proofs.OnNumber.{Numeric, number_past, number-most, number-refused, number-on}
use Rattle.rules.proofs.Put.{extends-refl, extends-then}
use Rattle.rules.proofs.Kept.{cells-kept}
use Rattle.rules.proofs.PartLaws.{is-flag}
use Rattle.rules.proofs.Tested.{wire-added, retested, reheld, store-test, wire-test, test-added, define-added, past-added}
use Rattle.rules.proofs.Picking.{missing, present, known-name, cell-kind}

abbrev pub answered : (f pos free : ℕ) → Condition → LiteralsTold
answered f pos free q = record { fault = f; at = pos; free = free; condition = q }

-- a refusal, with words of the same length
pub refuse : (text : List ℕ) (from : From) (P : List ℕ) (pos c h : ℕ) (q : Condition) (most : ℕ) (r : LiteralsTold) → (r.fault ≡ 0 → ⊥)
    → Refuses text from P c h q most r.fault r.at → Adds text from P pos c h q most r P
refuse text from P pos c h q most r n f = record { long = refl; outcome = faulted n f }

-- a refusal is the same whatever stands for what it has not
pub adds-again : (text : List ℕ) (from : From) (P : List ℕ) (pos c h : ℕ) (q : Condition) (most : ℕ) (r w : LiteralsTold) (Q : List ℕ) → (r.fault ≡ 0 → ⊥)
    → Adds text from P pos c h q most r Q → r.fault ≡ w.fault → r.at ≡ w.at → Adds text from P pos c h q most w Q
adds-again text from P pos c h q most r w Q n a e p =
    record {
      long = a.long;
      outcome = faulted (λ z. n (e ∙ z)) (subst (λ (f : ℕ). Refuses text from P c h q most f w.at) e (subst (λ (i : ℕ). Refuses text from P c h q most r.fault i) p (ill a.outcome n)));
    }

-- ---- `i]`

module _ (text : List ℕ) (at free : ℕ) (q : Condition) (lo width v f a p i : ℕ) (w : 1 ≤ width) (num : NumberRead text at (width - 1) f a p i) (P : List ℕ) (h most : ℕ) where
  abbrev bits : From
  bits ns x ls = read_from text at ns (bit_index x ls lo width v)

  numeric : (ns : Names) (x : Context) (ls : List Literal) → Numeric ns (bit_index x ls lo width v) (leb width) (λ j. go ns (sign 9 (literal_more x (ls ++ (wire (lo + j) 1 v ∷ [])))))
  unfolding Numeric step
  numeric ns x ls t = refl

  pub bit-no-number : (f ≡ 0 → ⊥) → Adds text bits P at free h q most (answered f a free q) P
  bit-no-number n =
      refuse text bits P at free h q most _ n (λ ns k ls c x m. number-refused text at (width - 1) f a p i num n ns _ _ _ (numeric ns x ls) (λ j l. le-leb width j (omega arith)))

  pub bit-open : f ≡ 0 → (g b : ℕ) → Behind text a g b (sign 9) → (g ≡ 0 → ⊥) → Adds text bits P at free h q most (answered g b free q) P
  unfolding Behind
  bit-open z g b s n =
      let l : i < width = let m = number-most text at (width - 1) f a p i num z in omega arith in
      refuse text bits P at free h q most _ n (λ ns k ls c x m.
      number-on text at (width - 1) f a p i num z ns _ _ _ (numeric ns x ls) (lt-leb width i l) ∙ ill s n ns _)

  pub bit-read : f ≡ 0 → (g b : ℕ) → Behind text a g b (sign 9) → g ≡ 0 → (r : Condition) → lo + width ≤ 64 → v < 2
      → Joined q ((2 ^ 1 - 1) * 2 ^ (lo + i)) (v * 2 ^ (lo + i)) true r → Adds text bits P at free h q most (answered 0 b free r) P
  unfolding Behind
  bit-read z g b s y r s64 v2 j =
      let l : i < width = let m = number-most text at (width - 1) f a p i num z in omega arith in
      let (past, on) = well s y in
      let before = number_past text at (width - 1) f a p i num z in
      record {
        long = refl;
        outcome = fine refl (record {
          extends = extends-refl P free;
          spent = record { since = omega arith; inside = past.1; few = omega arith };
          few = λ l. omega (arith, j.tests);
          reads = λ ns k ls c. (
            ls ++ (wire (lo + i) 1 v ∷ []),
            wire-added P free q r (lo + i) 1 v ls v2 (omega arith) c j,
            λ x m.
                number-on text at (width - 1) f a p i num z ns _ _ _ (numeric ns x ls) (lt-leb width i l) ∙ on ns _,
          );
        });
      }

-- ---- what the functions are given

pub given-declared : {text P : List ℕ} {pos c h : ℕ} {q : Condition} → Given text P pos c h q → Declared text P h
given-declared {c = c} g = let r = g.room in let (ns, k) = g.names in (c, ns.declared, omega (arith, r.fits, r.inside), k)

-- the same further on
pub given-on : {text P : List ℕ} {pos next c h : ℕ} {q : Condition} → Given text P pos c h q → pos ≤ next → next ≤ length text → Given text P next c h q
given-on g l m =
    let r = g.room in
    record { room = record { some = r.some; fits = omega (arith, r.fits); inside = m; small = r.small }; names = g.names; condition = g.condition }

-- there is room for a link where a byte is left, and the condition's link is below
pub link-room : {text P : List ℕ} {pos c h : ℕ} {q : Condition} → Given text P pos c h q → (b : ℕ) → pos < b → b ≤ length text
    → (c + 2 ≤ length P) × (length P ≤ 65535) × (q.link < c) × (q.tests ≤ 3)
link-room g b l m = let r = g.room in let (ls, k) = g.condition in (omega (arith, r.fits), r.small, k.tests.low, omega (arith, k.tests.count))

-- words that were written for a link, where a byte was read
pub link-spent : (text : List ℕ) (pos c next d : ℕ) → pos < next → next ≤ length text → d ≤ c + 3 → Spent text pos c next d
link-spent text pos c next d l m n = record { since = omega arith; inside = m; few = omega arith }

-- too many store tests
many : (most n k a b : ℕ) (x : Context) (ls : List Literal) → most ≡ most_of x → n ≡ min 3 (store_tests ls) → k ≡ min 3 b → too_many x ls b ≡ ltb most (n + k)
many most n k a b (in_define s) ls m p q = sym (le-ltb most (n + k) (omega arith))
many most n k a b (in_letter o) ls m p q = by (ltb 2 (store_tests ls + b)) refl
  where
    by : (t : Bool) → ltb 2 (store_tests ls + b) ≡ t → t ≡ ltb most (n + k)
    by true e = sym (lt-ltb most (n + k) (let l = ltb-true 2 (store_tests ls + b) e in omega arith))
    by false e = sym (le-ltb most (n + k) (let l = ltb-false 2 (store_tests ls + b) e in omega arith))

pub too_many_lem : (most n k b : ℕ) (x : Context) (ls : List Literal) → most ≡ most_of x → n ≡ min 3 (store_tests ls) → k ≡ min 3 b → most < n + k → too_many x ls b ≡ true
too_many_lem most n k b x ls m p q l = many most n k 0 b x ls m p q ∙ lt-ltb most (n + k) l

pub not-many : (most n k b : ℕ) (x : Context) (ls : List Literal) → most ≡ most_of x → n ≡ min 3 (store_tests ls) → k ≡ min 3 b → n + k ≤ most → too_many x ls b ≡ false
not-many most n k b x ls m p q l = many most n k 0 b x ls m p q ∙ le-ltb most (n + k) l

-- ---- `== number` behind the name of a store

module _ (text P : List ℕ) (at c h : ℕ) (q : Condition) (s width f a : ℕ) (eq : Behind text at f a (sign 14)) (most : ℕ) where
  abbrev stores : From
  stores ns x ls = read_from text at ns (sign 14 (store_equals x ls s width))

  pub store-no-sign : (f ≡ 0 → ⊥) → Adds text stores P at c h q most (answered f a c q) P
  unfolding Behind
  store-no-sign n = refuse text stores P at c h q most _ n (λ ns k ls d x m. ill eq n ns _)

  stored : (ns : Names) (x : Context) (ls : List Literal) → Numeric ns (store_equals x ls s width) (leb (2 ^ width)) (λ v. with_literal ns x ls (store s v))
  unfolding Numeric step
  stored ns x ls t = refl

  module _ (z : f ≡ 0) (top g b p v : ℕ) (is : top ≡ 2 ^ width - 1) (num : NumberRead text a top g b p v) where
    pub store-no-number : (g ≡ 0 → ⊥) → Adds text stores P at c h q most (answered g b c q) P
    unfolding Behind
    store-no-number n =
        refuse text stores P at c h q most _ n (λ ns k ls d x m.
        (well eq z).1 ns _ ∙ number-refused text a top g b p v num n ns _ _ _ (stored ns x ls) (λ j l. le-leb (2 ^ width) j (omega arith)))

    pub store-read : g ≡ 0 → q.tests + 1 ≤ most → (free n i : ℕ) (Q : List ℕ) → Linked P c q.tests q.link (link s 0 0 v) free n i Q → Adds text stores P at c h q most (answered 0 b free (retested q n i)) Q
    unfolding Behind
    store-read y most-left free n i Q j =
        let (past, on) = well eq z in
        let after = number_past text a top g b p v num y in
        let small : v < 2 ^ width = let m = number-most text a top g b p v num y in let o = pow_pos width in omega arith in
        record {
          long = j.extends.long;
          outcome = fine refl (record {
            extends = j.extends;
            spent = link-spent text at c b free (omega arith) after.1 (omega (arith, j.few));
            few = λ l. omega (arith, j.count);
            reads = λ ns k ls d. (
              ls ++ (store s v ∷ []),
              test-added P c free n i Q q (store s v) _ ls (store-test s v) d j,
              λ x m.
                  on ns _ ∙ number-on text a top g b p v num y ns _ _ _ (stored ns x ls) (lt-leb (2 ^ width) v small),
            );
          });
        }

-- ---- the name of a store behind `wire ==`

-- the meaning of a cell by its kind
pub input_of : (P : List ℕ) (c h : ℕ) (m : Meaning) → Means P c h m → kind_number m ≡ 0 → (lo : ℕ) × (w : ℕ) × (m ≡ an_input lo w) × InputAt P c h lo w
unfolding Means
input_of P c h (an_input lo w) k e = (lo, w, refl, k)
input_of P c h (a_store n w) k e = absurd (omega arith)
input_of P c h (a_define ls) k e = absurd (omega arith)
input_of P c h (a_production x) k e = absurd (omega arith)

-- names of other kinds than stores, and than inputs
pub only_stores : (t : Placed) (s : ℕ → ℕ → Step) → Only 1 t (no_pair t) s (no_literals t) (no_exp t)
only_stores t s = record { inputs = λ n. refl; stores = λ n. absurd (n refl); defines = λ n. refl; productions = λ n. refl }

pub only-inputs : (t : Placed) (i : ℕ → ℕ → Step) → Only 0 t i (no_pair t) (no_literals t) (no_exp t)
only-inputs t i = record { inputs = λ n. absurd (n refl); stores = λ n. refl; defines = λ n. refl; productions = λ n. refl }

pub store_of : (P : List ℕ) (c h : ℕ) (m : Meaning) → Means P c h m → kind_number m ≡ 1 → (n : ℕ) × (w : ℕ) × (m ≡ a_store n w) × StoreAt P c h n w
unfolding Means
store_of P c h (an_input lo w) k e = absurd (omega arith)
store_of P c h (a_store n w) k e = (n, w, refl, k)
store_of P c h (a_define ls) k e = absurd (omega arith)
store_of P c h (a_production x) k e = absurd (omega arith)

-- what was picked: its cell, and what it leads to
module _ (text P : List ℕ) (c h pos : ℕ) (t : Seen) (sees : Sees text pos t) where
  pub picked-store : (f cell : ℕ) → Picks text P h t 1 f cell → f ≡ 0 → (ns : Names) → Cells text P c h ns.declared
      → (n : ℕ) × (w : ℕ) × StoreAt P c cell n w × (t.kind ≡ kind.Name) × ((i s : ℕ → ℕ → Step) (d : List Literal → Step) (p : Exp → Step) → known ns (seen text t) i s d p ≡ s n w)
  unfolding Picks by_kind
  picked-store f cell pick z ns k =
      let p = well (pick c ns k) z in
      let (n, w, e, st) = store_of P c cell p.meaning p.means p.of in
      (n, w, st, p.name, λ i s d o. known-name text pos t sees p.name ns (some (a_store n w)) (p.found ∙ ap some e) i s d o)

  pub picked-input : (f cell : ℕ) → Picks text P h t 0 f cell → f ≡ 0 → (ns : Names) → Cells text P c h ns.declared
      → (lo : ℕ) × (w : ℕ) × InputAt P c cell lo w × (t.kind ≡ kind.Name) × ((i s : ℕ → ℕ → Step) (d : List Literal → Step) (p : Exp → Step) → known ns (seen text t) i s d p ≡ i lo w)
  unfolding Picks by_kind
  picked-input f cell pick z ns k =
      let p = well (pick c ns k) z in
      let (lo, w, e, st) = input_of P c cell p.meaning p.means p.of in
      (lo, w, st, p.name, λ i s d o. known-name text pos t sees p.name ns (some (an_input lo w)) (p.found ∙ ap some e) i s d o)

module _ (text P : List ℕ) (c h pos : ℕ) (t : Seen) (sees : Sees text pos t) (q : Condition) (most lo width : ℕ) (f cell : ℕ) (pick : Picks text P h t 1 f cell)
    (g : Given text P t.place c h q) where
  pub no_store : (f ≡ 0 → ⊥) → Adds text (by_store text t lo width) P t.place c h q most (answered f t.place c q) P
  unfolding Picks
  no_store n =
      refuse text (by_store text t lo width) P t.place c h q most _ n (λ ns k ls d x m.
      ap (behind text t) (ill (pick c ns k) n _ _ _ _ (only_stores (seen text t) _)))

  pub store-past : f ≡ 0 → t.place < t.after
  unfolding Picks
  store-past z = let (ns, k) = g.names in let p = well (pick c ns k) z in past-place text pos t sees p.name

  pub store-inside : f ≡ 0 → cell + 1 < length P
  store-inside z = let (ns, k) = g.names in let (s, w, st, nm, on) = picked-store text P c h pos t sees f cell pick z ns k in let r = g.room in omega (arith, st.used, r.fits, r.inside)

  module _ (z : f ≡ 0) (wide : ℕ) (is : wide ≡ part1 (at P (cell + 1))) where
    pub store-unequal : (wide ≡ width → ⊥) → Adds text (by_store text t lo width) P t.place c h q most (answered 6 t.place c q) P
    unfolding seen
    store-unequal n =
        refuse text (by_store text t lo width) P t.place c h q most _ (λ y. omega arith) (λ ns k ls d x m.
        let (s, w, st, nm, on) = picked-store text P c h pos t sees f cell pick z ns k in
        ap (behind text t) (on _ _ _ _ ∙ wrong _ _ _ _ (ap not (ne_eqb w width (λ y. n (is ∙ st.wide ∙ y))))))

    module _ (e : wide ≡ width) where
      -- widths are equal, and the tests are counted
      same_width : (w n : ℕ) → StoreAt P c cell n w → not (eqb w width) ≡ false
      same_width w n st = ap not (eq-eqb w width (sym st.wide ∙ sym is ∙ e))

      pub store-crowded : most < q.tests + 1 → Adds text (by_store text t lo width) P t.place c h q most (answered 7 t.place c q) P
      unfolding seen
      store-crowded l =
          refuse text (by_store text t lo width) P t.place c h q most _ (λ y. omega arith) (λ ns k ls d x m.
          let (s, w, st, nm, on) = picked-store text P c h pos t sees f cell pick z ns k in
          ap (behind text t)
          (on _ _ _ _ ∙ right _ _ _ _ (same_width w s st) ∙ wrong _ _ _ _ (too_many_lem most q.tests 1 1 x ls m d.tests.count (omega arith) l)))

      pub wire-store-read : q.tests + 1 ≤ most → (own free n i : ℕ) (Q : List ℕ) → own ≡ part0 (at P (cell + 1))
          → Linked P c q.tests q.link (link own lo width 0) free n i Q → Adds text (by_store text t lo width) P t.place c h q most (answered 0 t.after free (retested q n i)) Q
      unfolding seen
      wire-store-read l own free n i Q o j =
          record {
            long = j.extends.long;
            outcome = fine refl (record {
              extends = j.extends;
              spent = link-spent text t.place c t.after free (store-past z) (inside-text text pos t sees).1 (omega (arith, j.few));
              few = λ o. omega (arith, j.count);
              reads = λ ns k ls d.
                  let (s, w, st, nm, on) = picked-store text P c h pos t sees f cell pick z ns k in (
                    ls ++ (wire_store lo width s ∷ []),
                    test-added P c free n i Q q (wire_store lo width s) _ ls (wire-test lo width s) d (subst (λ (u : ℕ). Linked P c q.tests q.link (link u lo width 0) free n i Q) (o ∙ st.own) j),
                    λ x m.
                        ap (behind text t) (on _ _ _ _ ∙ right _ _ _ _ (same_width w s st) ∙ right _ _ _ _ (not-many most q.tests 1 1 x ls m d.tests.count (omega arith) l)),
                  );
            });
          }

-- ---- what wires are compared with

-- the same from another place, where reading comes to the same; what stands there is known up to some i
module _ (text : List ℕ) (from : From) (I : Type 0) (there : I → From) (good : I → Type 0) (P : List ℕ) (pos next c h : ℕ) (q : Condition) (most : ℕ) (r : LiteralsTold) (Q : List ℕ) where
  pub from_each : pos ≤ next → (i : I) → good i → ((i : I) → good i → Adds text (there i) P next c h q most r Q)
      → ((ns : Names) → Cells text P c h ns.declared → (i : I) × good i × ((x : Context) (ls : List Literal) → ConditionIs P c q ls → most ≡ most_of x → from ns x ls ≡ there i ns x ls))
      → Adds text from P pos c h q most r Q
  from_each l i g a e = record { long = (a i g).long; outcome = by (a i g).outcome }
    where
      by : Unless r.fault (Added text (there i) P next c h q most r Q) (Refuses text (there i) P c h q most r.fault r.at)
          → Unless r.fault (Added text from P pos c h q most r Q) (Refuses text from P c h q most r.fault r.at)
      by (fine z d) =
          fine z (record {
            extends = d.extends;
            spent = let s = d.spent in record { since = omega (arith, s.since); inside = s.inside; few = omega (arith, s.few) };
            few = d.few;
            reads = λ ns k ls u.
                let (j, o, same) = e ns k in
                let (ms, m, on) = (well (a j o).outcome z).reads ns k ls u in
                (ms, m, λ x y. same x ls u y ∙ on x y);
          })
      by (faulted n f) = faulted n (λ ns k ls u x m. let (j, o, same) = e ns k in same x ls u m ∙ ill (a j o).outcome n ns k ls u x m)

pub from-cond : (text : List ℕ) (from there : From) (P : List ℕ) (pos next c h : ℕ) (q : Condition) (most : ℕ) (r : LiteralsTold) (Q : List ℕ)
    → pos ≤ next → ((ns : Names) → Cells text P c h ns.declared → (x : Context) (ls : List Literal) → ConditionIs P c q ls → most ≡ most_of x → from ns x ls ≡ there ns x ls)
    → Adds text there P next c h q most r Q → Adds text from P pos c h q most r Q
from-cond text from there P pos next c h q most r Q l e a =
    from_each text from (Unit {0}) (λ i. there) (λ i. Unit {0}) P pos next c h q most r Q l tt tt (λ i g. a) (λ ns k. (tt, tt, e ns k))

pub from-there : (text : List ℕ) (from there : From) (P : List ℕ) (pos next c h : ℕ) (q : Condition) (most : ℕ) (r : LiteralsTold) (Q : List ℕ)
    → pos ≤ next → ((ns : Names) → Cells text P c h ns.declared → (x : Context) (ls : List Literal) → from ns x ls ≡ there ns x ls)
    → Adds text there P next c h q most r Q → Adds text from P pos c h q most r Q
from-there text from there P pos next c h q most r Q l e = from-cond text from there P pos next c h q most r Q l (λ ns k x ls u m. e ns k x ls)

module _ (text P : List ℕ) (pos c h : ℕ) (t : Seen) (sees : Sees text pos t) (q : Condition) (most : ℕ) (name : List ℕ) (lo width : ℕ) (inside : pos ≤ length text) where
  abbrev equals : From
  equals ns x ls = read_from text pos ns (wire_equals x ls name lo width)

  -- `past`
  pub equals-past : t.kind ≡ kind.Word words.Past → (r : LiteralsTold) (Q : List ℕ) → Adds text (λ ns x ls. read_from text t.after ns (sign 6 (past_name x ls name lo width))) P t.after c h q most r Q
      → Adds text equals P pos c h q most r Q
  unfolding step
  equals-past k r Q =
      from-there text equals (λ ns x ls. read_from text t.after ns (sign 6 (past_name x ls name lo width))) P pos t.after c h q most r Q (let p = past text pos t sees k tt in omega arith) (λ ns d x ls.
      on_step text pos t sees ns (wire_equals x ls name lo width) _
      ((no_number text pos t sees (word-no-number k) _).1 _ ∙ yes _ _ _ (word-on text pos t sees words.Past k)))

  pub equals-store : (t.kind ≡ kind.Word words.Past → ⊥) → ((v : ℕ) → t.kind ≡ kind.Number v → ⊥) → (r : LiteralsTold) (Q : List ℕ) → Adds text (by_store text t lo width) P t.place c h q most r Q → Adds text equals P pos c h q most r Q
  unfolding step
  equals-store o n r Q =
      from-there text equals (by_store text t lo width) P pos t.place c h q most r Q (since text pos t sees inside) (λ ns d x ls.
      on_step text pos t sees ns (wire_equals x ls name lo width) _ ((no_number text pos t sees n _).1 _ ∙ no _ _ _ (word-off text pos t sees words.Past o)))

  module _ (v : ℕ) (k : t.kind ≡ kind.Number v) (top : ℕ) (is : top ≡ 2 ^ width - 1) where
    number_step : (ns : Names) (x : Context) (ls : List Literal) (b : Bool) → leb (2 ^ width) v ≡ b
        → equals ns x ls ≡ behind text t (choose b (fault 6 t.place) (with_literal ns x ls (wire lo width v)))
    unfolding step if_number unless at_token
    number_step ns x ls b e =
        on_step text pos t sees ns (wire_equals x ls name lo width) _
        (ap (step ns (wire_equals x ls name lo width)) (number_is text pos t sees k) ∙ ap (λ (d : Bool). choose d (fault 6 t.place) (with_literal ns x ls (wire lo width v))) e)

    pub equals-large : top < v → Adds text equals P pos c h q most (answered 6 t.place c q) P
    unfolding choose
    equals-large l = refuse text equals P pos c h q most _ (λ y. omega arith) (λ ns d ls e x m. number_step ns x ls true (le-leb (2 ^ width) v (omega arith)))

    pub equals-number : v ≤ top → lo + width ≤ 64 → (r : Condition) → Joined q ((2 ^ width - 1) * 2 ^ lo) (v * 2 ^ lo) true r → Adds text equals P pos c h q most (answered 0 t.after c r) P
    unfolding choose
    equals-number l s r j =
        let small : v < 2 ^ width = let o = pow_pos width in omega arith in
        let p = past text pos t sees k tt in
        record {
          long = refl;
          outcome = fine refl (record {
            extends = extends-refl P c;
            spent = record { since = omega arith; inside = p.1; few = omega arith };
            few = λ o. omega (arith, j.tests);
            reads = λ ns d ls e. (ls ++ (wire lo width v ∷ []), wire-added P c q r lo width v ls small s e j, λ x m. number_step ns x ls false (lt-leb (2 ^ width) v small));
          });
        }

-- ---- `(wire)` behind `past`

-- there is room for a word behind `(`
pub past_room : {text P : List ℕ} {at c h : ℕ} {q : Condition} (f a : ℕ) → Behind text at f a (sign 6) → f ≡ 0 → Given text P at c h q → c < length P
unfolding Behind
past_room f a paren z g = let p = (well paren z).0 in let r = g.room in omega (arith, p, r.fits)

module _ (text P : List ℕ) (at c h : ℕ) (q : Condition) (name : List ℕ) (lo width f a : ℕ) (paren : Behind text at f a (sign 6)) (most : ℕ) where
  abbrev pasts : From
  pasts ns x ls = read_from text at ns (sign 6 (past_name x ls name lo width))

  pub past-no-paren : (f ≡ 0 → ⊥) → Adds text pasts P at c h q most (answered f a c q) P
  unfolding Behind
  past-no-paren n = refuse text pasts P at c h q most _ n (λ ns k ls d x m. ill paren n ns _)

  module _ (z : f ≡ 0) (t : Seen) (sees : Sees text a t) where
    -- the token is the wire's name, or not
    named : (ns : Names) (x : Context) (ls : List Literal) (b : Bool) → (is_name t.kind && same (bytes_of text t) name) ≡ b
        → step ns (past_name x ls name lo width) (seen text t) ≡ choose b (go ns (sign 7 (literal_more x (ls ++ (wire_past lo width ∷ []))))) (fault (fault_of t.kind) t.place)
    unfolding step on_name if_name
    named ns x ls b e = by (is_name t.kind) refl e
      where
        by : (k : Bool) → is_name t.kind ≡ k → (k && same (bytes_of text t) name) ≡ b
            → step ns (past_name x ls name lo width) (seen text t) ≡ choose b (go ns (sign 7 (literal_more x (ls ++ (wire_past lo width ∷ []))))) (fault (fault_of t.kind) t.place)
        by true k f =
            let n = name-is text a t sees (name-true t.kind k) in
            ap (step ns (past_name x ls name lo width)) n
            ∙ ap₂ (λ (y : Bool) (s : Step). choose y (go ns (sign 7 (literal_more x (ls ++ (wire_past lo width ∷ []))))) s) f
            (ap not_here (sym n) ∙ not-here text a t sees)
        by false k f = no_name text a t sees (name-false t.kind k) _ ∙ sym (no b _ _ (sym f))

    pub past-other : (is_name t.kind && same (bytes_of text t) name) ≡ false → Adds text pasts P at c h q most (answered (fault_of t.kind) t.place c q) P
    unfolding Behind
    past-other e =
        refuse text pasts P at c h q most _ (faults text a t sees) (λ ns k ls d x m.
        (well paren z).1 ns _ ∙ on_step text a t sees ns (past_name x ls name lo width) _ (named ns x ls false e ∙ no _ _ _ refl))

    module _ (e : (is_name t.kind && same (bytes_of text t) name) ≡ true) (g b : ℕ) (close : Behind text t.after g b (sign 7)) where
      named-on : (ns : Names) (x : Context) (ls : List Literal) → pasts ns x ls ≡ read_from text t.after ns (sign 7 (literal_more x (ls ++ (wire_past lo width ∷ []))))
      unfolding Behind
      named-on ns x ls = (well paren z).1 ns _ ∙ on_step text a t sees ns (past_name x ls name lo width) _ (named ns x ls true e ∙ yes _ _ _ refl)

      pub past_open : (g ≡ 0 → ⊥) → Adds text pasts P at c h q most (answered g b c q) P
      unfolding Behind
      past_open n = refuse text pasts P at c h q most _ n (λ ns k ls d x m. named-on ns x ls ∙ ill close n ns _)

      pub past-read : g ≡ 0 → lo + width ≤ 64 → 1 ≤ c → (Q : List ℕ) → Extends P c Q (c + 1) → Cells.at Q c ≡ bit_or (held_at P q.held) ((2 ^ width - 1) * 2 ^ lo)
          → Adds text pasts P at c h q most (answered 0 b (c + 1) (reheld q c)) Q
      unfolding Behind
      past-read y s one Q u w =
          let (before, in-) = well paren z in
          let (behind, on) = well close y in
          let l = past-kind-name in
          record {
            long = u.long;
            outcome = fine refl (record {
              extends = u;
              spent = link-spent text at c b (c + 1) (omega (arith, before, behind, l)) behind.1 (omega arith);
              few = λ o. o;
              reads = λ ns k ls d. (ls ++ (wire_past lo width ∷ []), past-added P c q lo width ls Q s u one w d, λ x m. named-on ns x ls ∙ on ns _);
            });
          }
        where
          past-kind-name : a ≤ t.after
          past-kind-name = let p = past text a t sees (name-true t.kind (and_left (is_name t.kind) _ e)) tt in omega (arith, p)

-- ---- behind the name of wires

module _ (text P : List ℕ) (pos c h : ℕ) (t : Seen) (sees : Sees text pos t) (q : Condition) (most lo width v place : ℕ) (inside : pos ≤ length text) where
  abbrev name : List ℕ
  name = spelt text place pos

  abbrev wires : From
  wires ns x ls = read_from text pos ns (wire_more x ls name lo width v place)

  pub wires-bit : t.kind ≡ kind.Sign signs.LeftBracket → (r : LiteralsTold) (Q : List ℕ) → Adds text (λ ns x ls. read_from text t.after ns (bit_index x ls lo width v)) P t.after c h q most r Q → Adds text wires P pos c h q most r Q
  unfolding step
  wires-bit k r Q =
      from-there text wires (λ ns x ls. read_from text t.after ns (bit_index x ls lo width v)) P pos t.after c h q most r Q (let p = past text pos t sees k tt in omega arith) (λ ns d x ls.
      on_step text pos t sees ns (wire_more x ls name lo width v place) (go ns (bit_index x ls lo width v)) (yes _ _ _ (is-on text pos t sees signs.LeftBracket k)))

  module _ (no8 : t.kind ≡ kind.Sign signs.LeftBracket → ⊥) where
    pub wires-equals : t.kind ≡ kind.Sign signs.DoubleEquals → v ≡ 1 → (r : LiteralsTold) (Q : List ℕ) → Adds text (λ ns x ls. read_from text t.after ns (wire_equals x ls name lo width)) P t.after c h q most r Q → Adds text wires P pos c h q most r Q
    unfolding step
    wires-equals k e r Q =
        from-there text wires (λ ns x ls. read_from text t.after ns (wire_equals x ls name lo width)) P pos t.after c h q most r Q (let p = past text pos t sees k tt in omega arith) (λ ns d x ls.
        on_step text pos t sees ns (wire_more x ls name lo width v place) (go ns (wire_equals x ls name lo width))
        (no _ _ _ (is-off text pos t sees signs.LeftBracket no8) ∙ yes _ _ _ (is-on text pos t sees signs.DoubleEquals k) ∙ yes _ _ _ (eq-eqb v 1 e)))

    pub wires-negated : t.kind ≡ kind.Sign signs.DoubleEquals → (v ≡ 1 → ⊥) → Adds text wires P pos c h q most (answered (fault_of t.kind) t.place c q) P
    unfolding step
    wires-negated k n =
        refuse text wires P pos c h q most _ (faults text pos t sees) (λ ns d ls e x m.
        on_step text pos t sees ns (wire_more x ls name lo width v place) _
        (no _ _ _ (is-off text pos t sees signs.LeftBracket no8) ∙ yes _ _ _ (is-on text pos t sees signs.DoubleEquals k) ∙ no _ _ _ (ne_eqb v 1 n) ∙ not-here text pos t sees))

    module _ (no14 : t.kind ≡ kind.Sign signs.DoubleEquals → ⊥) where
      alone : (ns : Names) (x : Context) (ls : List Literal) (b : Bool) → eqb width 1 ≡ b
          → wires ns x ls ≡ behind text t (choose b (behind_literal ns x (ls ++ (wire lo 1 v ∷ [])) (seen text t)) (fault 6 place))
      unfolding step
      alone ns x ls b e =
          on_step text pos t sees ns (wire_more x ls name lo width v place) _
          (no _ _ _ (is-off text pos t sees signs.LeftBracket no8) ∙ no _ _ _ (is-off text pos t sees signs.DoubleEquals no14)
          ∙ ap (λ (d : Bool). choose d (behind_literal ns x (ls ++ (wire lo 1 v ∷ [])) (seen text t)) (fault 6 place)) e)

      pub wires-wide : (width ≡ 1 → ⊥) → Adds text wires P pos c h q most (answered 6 place c q) P
      unfolding choose
      wires-wide n = refuse text wires P pos c h q most _ (λ y. omega arith) (λ ns d ls e x m. alone ns x ls false (ne_eqb width 1 n))

      pub wires-one : width ≡ 1 → lo + width ≤ 64 → v < 2 → (r : Condition) → Joined q ((2 ^ 1 - 1) * 2 ^ lo) (v * 2 ^ lo) true r → Adds text wires P pos c h q most (answered 0 pos c r) P
      unfolding choose step
      wires-one w s v2 r j =
          record {
            long = refl;
            outcome = fine refl (record {
              extends = extends-refl P c;
              spent = record { since = omega arith; inside = inside; few = omega arith };
              few = λ o. omega (arith, j.tests);
              reads = λ ns d ls e. (
                ls ++ (wire lo 1 v ∷ []),
                wire-added P c q r lo 1 v ls v2 (omega arith) e j,
                λ x m.
                    alone ns x ls true (eq-eqb width 1 w) ∙ sym (on_step text pos t sees ns (literal_more x (ls ++ (wire lo 1 v ∷ []))) _ refl),
              );
            });
          }

-- ---- the name of wires behind `!`

pub define-of : (P : List ℕ) (c h : ℕ) (m : Meaning) → Means P c h m → kind_number m ≡ 2 → (ds : List Literal) × (m ≡ a_define ds) × DefineAt P c h ds
unfolding Means
define-of P c h (an_input lo w) k e = absurd (omega arith)
define-of P c h (a_store n w) k e = absurd (omega arith)
define-of P c h (a_define ls) k e = (ls, refl, k)
define-of P c h (a_production x) k e = absurd (omega arith)

module _ (text P : List ℕ) (pos c h : ℕ) (t : Seen) (sees : Sees text pos t) (q : Condition) (most f cell : ℕ) (pick : Picks text P h t 0 f cell) (g : Given text P pos c h q) where
  abbrev nots : From
  nots ns x ls = read_from text pos ns (negated x ls)

  pub no-input : (f ≡ 0 → ⊥) → Adds text nots P pos c h q most (answered f t.place c q) P
  unfolding Picks step
  no-input n =
      refuse text nots P pos c h q most _ n (λ ns k ls d x m. on_step text pos t sees ns (negated x ls) _ (ill (pick c ns k) n _ _ _ _ (only-inputs (seen text t) _)))

  pub input-past : f ≡ 0 → Past text pos t.after
  unfolding Picks
  input-past z = let (ns, k) = g.names in let p = well (pick c ns k) z in past text pos t sees p.name tt

  pub input-inside : f ≡ 0 → (cell + 1 < length P) × (1 ≤ part1 (at P (cell + 1))) × (part0 (at P (cell + 1)) + part1 (at P (cell + 1)) ≤ 64)
  input-inside z =
      let (ns, k) = g.names in
      let (lo, w, st, nm, on) = picked-input text P c h pos t sees f cell pick z ns k in
      let r = g.room in
      (omega (arith, st.used, r.fits, r.inside), rw st.wide st.some, rw (st.low, st.wide) st.inside)

  pub input-read : f ≡ 0 → (lo w : ℕ) → lo ≡ part0 (at P (cell + 1)) → w ≡ part1 (at P (cell + 1)) → (r : LiteralsTold) (Q : List ℕ)
      → Adds text (λ ns x ls. read_from text t.after ns (wire_more x ls (bytes_of text t) lo w 0 t.place)) P t.after c h q most r Q → Adds text nots P pos c h q most r Q
  unfolding step seen
  input-read z lo w el ew r Q =
      from-there text nots (λ ns x ls. read_from text t.after ns (wire_more x ls (bytes_of text t) lo w 0 t.place)) P pos t.after c h q most r Q (let p = input-past z in omega arith) (λ ns k x ls.
      let (l, u, st, nm, on) = picked-input text P c h pos t sees f cell pick z ns k in
      on_step text pos t sees ns (negated x ls) _ (on _ _ _ _ ∙ ap (λ (s : List ℕ). go ns (wire_more x ls s l u 0 t.place)) (spelled text pos t sees nm)
      ∙ ap₂ (λ (i j : ℕ). go ns (wire_more x ls (bytes_of text t) i j 0 t.place)) (sym st.low ∙ sym el) (sym st.wide ∙ sym ew)))

-- ---- the name of a define

module _ (text P : List ℕ) (pos c h : ℕ) (t : Seen) (sees : Sees text pos t) (name : t.kind ≡ kind.Name) (q : Condition) (most cell : ℕ) (g : Given text P t.place c h q) where
  pub define-inside : (ds : List Literal) → DefineAt P c cell ds → cell + 3 < length P
  define-inside ds d = let r = g.room in omega (arith, d.used, r.fits, r.inside)

  -- what the cell says of the define's store tests
  pub define-tests : (ds : List Literal) → DefineAt P c cell ds → (n i : ℕ) → n ≡ part1 (at P (cell + 1)) → i ≡ part2 (at P (cell + 1)) → TestsAre P c n i ds
  define-tests ds d n i en ei =
      record { count = en ∙ d.tests; links = λ l. subst (λ (z : ℕ). Links P c z (tests_on [] ds)) (sym ei) (d.links l); low = subst (λ (z : ℕ). z < c) (sym ei) d.low }

  module _ (n : ℕ) (en : n ≡ part1 (at P (cell + 1))) (ds : List Literal) (d : DefineAt P c cell ds) where
    pub define-crowded : most < q.tests + n → Adds text (by_define text t ds) P t.place c h q most (answered 7 t.place c q) P
    unfolding seen
    define-crowded l =
        refuse text (by_define text t ds) P t.place c h q most _ (λ y. omega arith) (λ ns k ls e x m.
        ap (behind text t) (wrong _ _ _ _ (too_many_lem most q.tests n (store_tests ds) x ls m e.tests.count (en ∙ d.tests) l)))

    pub define-read : q.tests + n ≤ most → (other a l w free all new : ℕ) (b : Bool) (r : Condition) (Q : List ℕ)
        → other ≡ part2 (at P (cell + 1)) → a ≡ part0 (at P (cell + 1)) → b ≡ eqb a 1 → l ≡ at P (cell + 2) → w ≡ at P (cell + 3)
        → Joined q l w b r → LinkedBoth P c q.tests q.link n other free all new Q
        → (own held last : ℕ) (R : List ℕ) → own ≡ part3 (at P (cell + 1)) → HeldBoth Q free q.held own last held R
        → Adds text (by_define text t ds) P t.place c h q most (answered 0 t.after last (reheld (retested r all new) held)) R
    define-read few other a l w free all new b r Q eo ea eb el ew j k own held last R eh u =
        let x = extends-then k.extends u.extends in
        record {
          long = x.long;
          outcome = fine refl (record {
            extends = x;
            spent = link-spent text t.place c t.after last (past-place text pos t sees name) (inside-text text pos t sees).1 (omega (arith, k.few, u.few));
            few = λ o.
                let (ls, e) = g.condition in
                let b = k.both ls ds e.tests (define-tests ds d n other en eo) in
                omega (arith, b.count, e.tests.count, en ∙ d.tests, count-append ls ds);
            reads = λ ns y ls e. (
              ls ++ ds,
              define-added P c free all new Q q r l w b n other ls ds e j (el ∙ d.looks) (ew ∙ d.wants) (eb ∙ ap (λ (z : ℕ). eqb z 1) (ea ∙ d.agrees) ∙ is-flag (agree ds)) d.sized (define-tests ds d n other en eo) k own held last R (subst (λ (z : ℕ). HeldIs P c z ds) (sym eh) d.helds) u,
              λ x m. ap (behind text t) (right _ _ _ _ (not-many most q.tests n (store_tests ds) x ls m e.tests.count (en ∙ d.tests) few)),
            );
          });
        }

-- ---- the name of a store

module _ (text P : List ℕ) (pos c h : ℕ) (t : Seen) (sees : Sees text pos t) (name : t.kind ≡ kind.Name) (q : Condition) (most cell : ℕ) (g : Given text P t.place c h q) where
  pub test-inside : (n w : ℕ) → StoreAt P c cell n w → (cell + 1 < length P) × (part0 (at P (cell + 1)) < 16) × (1 ≤ part1 (at P (cell + 1))) × (part1 (at P (cell + 1)) ≤ 64)
  test-inside n w s = let r = g.room in (omega (arith, s.used, r.fits, r.inside), rw s.own s.few, rw s.wide s.some, rw s.wide s.inside)

  pub test-crowded : most < q.tests + 1 → (n w : ℕ) → Adds text (by_test text t n w) P t.place c h q most (answered 7 t.place c q) P
  unfolding seen
  test-crowded l n w =
      refuse text (by_test text t n w) P t.place c h q most _ (λ y. omega arith) (λ ns k ls e x m.
      ap (behind text t) (wrong _ _ _ _ (too_many_lem most q.tests 1 1 x ls m e.tests.count (omega arith) l)))

  pub test_read : q.tests + 1 ≤ most → (own wide : ℕ) → own ≡ part0 (at P (cell + 1)) → wide ≡ part1 (at P (cell + 1)) → (r : LiteralsTold) (Q : List ℕ)
      → Adds text (λ ns x ls. read_from text t.after ns (sign 14 (store_equals x ls own wide))) P t.after c h q most r Q
      → (n w : ℕ) → StoreAt P c cell n w → Adds text (by_test text t n w) P t.place c h q most r Q
  test_read few own wide eo ew r Q a n w s =
      let there : From = λ ns x ls. read_from text t.after ns (sign 14 (store_equals x ls own wide)) in
      from-cond text (by_test text t n w) there P t.place t.after c h q most r Q (let l = past-place text pos t sees name in omega arith) (λ ns k x ls e m.
      ap (behind text t) (right _ _ _ _ (not-many most q.tests 1 1 x ls m e.tests.count (omega arith) few))
      ∙ ap₂ (λ (i j : ℕ). read_from text t.after ns (sign 14 (store_equals x ls i j))) (sym (eo ∙ s.own)) (sym (ew ∙ s.wide))) a

-- ---- a name

module _ (text P : List ℕ) (pos c h : ℕ) (t : Seen) (sees : Sees text pos t) (name : t.kind ≡ kind.Name) (q : Condition) (most cell : ℕ) (g : Given text P t.place c h q)
    (f : Finds text P h (bytes_of text t) cell) where
  -- what is read by what the name means
  by-meaning : (ns : Names) (x : Context) (ls : List Literal) (o : Option Meaning) → lookup (bytes_of text t) ns.declared ≡ o
      → by_name text t ns x ls ≡ behind text t (by_kind o
      (λ lo width. go ns (wire_more x ls (bytes_of text t) lo width 1 t.place))
      (λ s width. unless (too_many x ls 1) crowded (seen text t) (go ns (sign 14 (store_equals x ls s width))))
      (λ ds. unless (too_many x ls (store_tests ds)) crowded (seen text t) (go ns (literal_more x (ls ++ ds))))
      (no_exp (seen text t)) (fault 4 t.place))
  unfolding literal_name seen
  by-meaning ns x ls o e =
      ap (behind text t) (known-name text pos t sees name ns o e _ _ _ _
      ∙ ap (λ (s : List ℕ). by_kind o
      (λ lo width. go ns (wire_more x ls s lo width 1 t.place))
      (λ s width. unless (too_many x ls 1) crowded (seen text t) (go ns (sign 14 (store_equals x ls s width))))
      (λ ds. unless (too_many x ls (store_tests ds)) crowded (seen text t) (go ns (literal_more x (ls ++ ds))))
      (no_exp (seen text t)) (fault 4 t.place)) (spelled text pos t sees name))

  -- the meaning that the cell has
  pub meant : (cell ≡ 0 → ⊥) → (ns : Names) → Cells text P c h ns.declared → (m : Meaning) × (lookup (bytes_of text t) ns.declared ≡ some m) × Means P c cell m
  meant n ns k = present P c cell _ (f c ns.declared k) n

  pub cell-inside : (cell ≡ 0 → ⊥) → cell + 1 < length P
  unfolding Means
  cell-inside n = let (ns, k) = g.names in let (m, l, y) = meant n ns k in by m y
    where
      by : (m : Meaning) → Means P c cell m → cell + 1 < length P
      by (an_input lo w) y = let r = g.room in omega (arith, y.used, r.fits, r.inside)
      by (a_store s w) y = let r = g.room in omega (arith, y.used, r.fits, r.inside)
      by (a_define ds) y = let r = g.room in omega (arith, y.used, r.fits, r.inside)
      by (a_production e) y = let r = g.room in omega (arith, y.used, r.fits, r.inside)

  pub name-unknown : cell ≡ 0 → Adds text (by_name text t) P t.place c h q most (answered 4 t.place c q) P
  unfolding by_kind
  name-unknown z =
      refuse text (by_name text t) P t.place c h q most _ (λ y. omega arith) (λ ns k ls e x m. by-meaning ns x ls none (missing P c cell _ (f c ns.declared k) z))

  module _ (n : cell ≡ 0 → ⊥) (kind : ℕ) (is : kind ≡ part0 (at P cell)) where
    numbered : (m : Meaning) → Means P c cell m → kind_number m ≡ kind
    numbered m y = sym (cell-kind P c cell m y) ∙ sym is

    pub name-input : kind ≡ 0 → (1 ≤ part1 (at P (cell + 1))) × (part0 (at P (cell + 1)) + part1 (at P (cell + 1)) ≤ 64)
    name-input z =
        let (ns, k) = g.names in
        let (m, l, y) = meant n ns k in
        let (lo, w, e, i) = input_of P c cell m y (numbered m y ∙ z) in
        (rw i.wide i.some, rw (i.low, i.wide) i.inside)

    pub name-wires : kind ≡ 0 → (lo w : ℕ) → lo ≡ part0 (at P (cell + 1)) → w ≡ part1 (at P (cell + 1)) → (r : LiteralsTold) (Q : List ℕ)
        → Adds text (λ ns x ls. read_from text t.after ns (wire_more x ls (bytes_of text t) lo w 1 t.place)) P t.after c h q most r Q → Adds text (by_name text t) P t.place c h q most r Q
    unfolding by_kind
    name-wires z lo w el ew r Q =
        let there : From = λ ns x ls. read_from text t.after ns (wire_more x ls (bytes_of text t) lo w 1 t.place) in
        from-there text (by_name text t) there P t.place t.after c h q most r Q (let l = past-place text pos t sees name in omega arith) (λ ns k x ls.
        let (m, l, y) = meant n ns k in
        let (a, b, e, i) = input_of P c cell m y (numbered m y ∙ z) in
        by-meaning ns x ls (some (an_input a b)) (l ∙ ap some e)
        ∙ ap₂ (λ (u v : ℕ). read_from text t.after ns (wire_more x ls (bytes_of text t) u v 1 t.place)) (sym (el ∙ i.low)) (sym (ew ∙ i.wide)))

    pub define-at : kind ≡ 2 → (ds : List Literal) × DefineAt P c cell ds
    define-at z = let (ns, k) = g.names in let (m, l, y) = meant n ns k in let (ds, e, d) = define-of P c cell m y (numbered m y ∙ z) in (ds, d)

    pub name-define : kind ≡ 2 → (r : LiteralsTold) (Q : List ℕ) → ((ds : List Literal) → DefineAt P c cell ds → Adds text (by_define text t ds) P t.place c h q most r Q)
        → Adds text (by_name text t) P t.place c h q most r Q
    unfolding by_kind
    name-define z r Q a =
        let (ds, d) = define-at z in
        from_each text (by_name text t) (List Literal) (by_define text t) (DefineAt P c cell) P t.place t.place c h q most r Q (omega arith) ds d a (λ ns k.
        let (m, l, y) = meant n ns k in
        let (es, e, b) = define-of P c cell m y (numbered m y ∙ z) in
        (es, b, λ x ls u v. by-meaning ns x ls (some (a_define es)) (l ∙ ap some e)))

    pub test_at : kind ≡ 1 → (s : ℕ) × (w : ℕ) × StoreAt P c cell s w
    test_at z = let (ns, k) = g.names in let (m, l, y) = meant n ns k in let (s, w, e, d) = store_of P c cell m y (numbered m y ∙ z) in (s, w, d)

    pub name-store : kind ≡ 1 → (r : LiteralsTold) (Q : List ℕ) → ((s w : ℕ) → StoreAt P c cell s w → Adds text (by_test text t s w) P t.place c h q most r Q)
        → Adds text (by_name text t) P t.place c h q most r Q
    unfolding by_kind
    name-store z r Q a =
        let (s, w, d) = test_at z in
        from_each text (by_name text t) (ℕ × ℕ) (λ i. by_test text t i.0 i.1) (λ i. StoreAt P c cell i.0 i.1) P t.place t.place c h q most r Q (omega arith) (s, w) d (λ i. a i.0 i.1) (λ ns k.
        let (m, l, y) = meant n ns k in
        let (u, v, e, b) = store_of P c cell m y (numbered m y ∙ z) in
        ((u, v), b, λ x ls o p. by-meaning ns x ls (some (a_store u v)) (l ∙ ap some e)))

    pub name-other : (kind ≡ 0 → ⊥) → (kind ≡ 2 → ⊥) → (kind ≡ 1 → ⊥) → Adds text (by_name text t) P t.place c h q most (answered 4 t.place c q) P
    unfolding by_kind at_token seen
    name-other n0 n2 n1 =
        refuse text (by_name text t) P t.place c h q most _ (λ y. omega arith) (λ ns k ls e x m.
        let (a, l, y) = meant n ns k in
        by-meaning ns x ls (some a) l ∙ by ns x ls a (numbered a y))
      where
        by : (ns : Names) (x : Context) (ls : List Literal) (m : Meaning) → kind_number m ≡ kind → behind text t (by_kind (some m)
            (λ lo width. go ns (wire_more x ls (bytes_of text t) lo width 1 t.place))
            (λ s width. unless (too_many x ls 1) crowded (seen text t) (go ns (sign 14 (store_equals x ls s width))))
            (λ ds. unless (too_many x ls (store_tests ds)) crowded (seen text t) (go ns (literal_more x (ls ++ ds))))
            (no_exp (seen text t)) (fault 4 t.place)) ≡ refused 4 (byte t.place)
        by ns x ls (an_input lo w) e = absurd (n0 (sym e))
        by ns x ls (a_store s w) e = absurd (n1 (sym e))
        by ns x ls (a_define ds) e = absurd (n2 (sym e))
        by ns x ls (a_production z) e = refl

-- ---- one literal

module _ (text P : List ℕ) (pos c h : ℕ) (t : Seen) (sees : Sees text pos t) (q : Condition) (most : ℕ) (inside : pos ≤ length text) where
  abbrev literals : From
  literals ns x ls = read_from text pos ns (literal x ls)

  pub literal-not : t.kind ≡ kind.Sign signs.Bang → (r : LiteralsTold) (Q : List ℕ) → Adds text (λ ns x ls. read_from text t.after ns (negated x ls)) P t.after c h q most r Q → Adds text literals P pos c h q most r Q
  unfolding step
  literal-not k r Q =
      let there : From = λ ns x ls. read_from text t.after ns (negated x ls) in
      from-there text literals there P pos t.after c h q most r Q (let p = past text pos t sees k tt in omega arith) (λ ns d x ls.
      on_step text pos t sees ns (literal x ls) (go ns (negated x ls)) (yes _ _ _ (is-on text pos t sees signs.Bang k)))

  pub literal-none : (t.kind ≡ kind.Sign signs.Bang → ⊥) → (t.kind ≡ kind.Name → ⊥) → Adds text literals P pos c h q most (answered (fault_of t.kind) t.place c q) P
  unfolding step literal_name known
  literal-none n m =
      refuse text literals P pos c h q most _ (faults text pos t sees) (λ ns k ls e x o.
      on_step text pos t sees ns (literal x ls) _ (no _ _ _ (is-off text pos t sees signs.Bang n) ∙ no_name text pos t sees m _))

  pub literal-named : (t.kind ≡ kind.Sign signs.Bang → ⊥) → (r : LiteralsTold) (Q : List ℕ) → Adds text (by_name text t) P t.place c h q most r Q → Adds text literals P pos c h q most r Q
  unfolding step
  literal-named n r Q =
      from-there text literals (by_name text t) P pos t.place c h q most r Q (since text pos t sees inside) (λ ns d x ls.
      on_step text pos t sees ns (literal x ls) _ (no _ _ _ (is-off text pos t sees signs.Bang n)))

-- ---- the literals that follow

module _ (text : List ℕ) (from : From) (P : List ℕ) (pos c h : ℕ) (q : Condition) (most : ℕ) where
  -- what a function is given for the next literal
  pub given-next : (r : LiteralsTold) (Q : List ℕ) → Given text P pos c h q → Added text from P pos c h q most r Q → (next : ℕ) → r.at ≤ next → next ≤ length text → Given text Q next r.free h r.condition
  given-next r Q g a next l m =
      let o = g.room in
      let s = a.spent in
      let (ns, k) = g.names in
      let (ls, e) = g.condition in
      let (ms, d, on) = a.reads ns k ls e in
      record {
        room = record { some = omega (arith, o.some, a.extends.more); fits = omega (arith, o.fits, s.few, a.extends.long); inside = m; small = omega (arith, o.small, a.extends.long) };
        names = (ns, cells-kept P c Q r.free a.extends text h ns.declared k);
        condition = (ms, d);
      }

  -- literals, and then one behind `&`
  pub added_next : (r : LiteralsTold) (Q : List ℕ) → Added text from P pos c h q most r Q → (t : Seen) → Sees text r.at t → t.kind ≡ kind.Sign signs.Ampersand
      → (w : LiteralsTold) (R : List ℕ) → Adds text (λ ns x ls. read_from text t.after ns (literal x ls)) Q t.after r.free h r.condition most w R → Adds text from P pos c h q most w R
  unfolding step behind_literal
  added_next r Q a t sees k w R b = record { long = b.long ∙ a.extends.long; outcome = by b.outcome }
    where
      amp : (ns : Names) (x : Context) (ls : List Literal) → step ns (literal_more x ls) (seen text t) ≡ go ns (literal x ls)
      amp ns (in_define s) ls = yes _ _ _ (is-on text r.at t sees signs.Ampersand k)
      amp ns (in_letter o) ls = yes _ _ _ (is-on text r.at t sees signs.Ampersand k)

      onto : (ns : Names) (x : Context) (ls : List Literal) → read_from text r.at ns (literal_more x ls) ≡ read_from text t.after ns (literal x ls)
      onto ns x ls = on_step text r.at t sees ns (literal_more x ls) _ (amp ns x ls)

      by : Unless w.fault (Added text (λ ns x ls. read_from text t.after ns (literal x ls)) Q t.after r.free h r.condition most w R) (Refuses text (λ ns x ls. read_from text t.after ns (literal x ls)) Q r.free h r.condition most w.fault w.at)
          → Unless w.fault (Added text from P pos c h q most w R) (Refuses text from P c h q most w.fault w.at)
      by (fine z d) =
          let p = past text r.at t sees k tt in
          fine z (record {
            extends = extends-then a.extends d.extends;
            spent = let s = a.spent in let u = d.spent in record { since = omega (arith, s.since, u.since); inside = u.inside; few = omega (arith, s.few, u.few) };
            few = λ o. d.few (a.few o);
            reads = λ ns y ls e.
                let (ms, m, on) = a.reads ns y ls e in
                let (os, o, off) = d.reads ns (cells-kept P c Q r.free a.extends text h ns.declared y) ms m in
                (os, o, λ x v. on x v ∙ onto ns x ms ∙ off x v);
          })
      by (faulted n f) =
          faulted n (λ ns y ls e x v.
          let (ms, m, on) = a.reads ns y ls e in
          on x v ∙ onto ns x ms ∙ f ns (cells-kept P c Q r.free a.extends text h ns.declared y) ms m x v)

  -- nothing read yet
  pub added_none : Given text P pos c h q → (there : (ns : Names) (x : Context) (ls : List Literal) → from ns x ls ≡ read_from text pos ns (literal_more x ls)) → Added text from P pos c h q most (answered 0 pos c q) P
  added_none g e =
      record {
        extends = extends-refl P c;
        spent = record { since = omega arith; inside = g.room.inside; few = omega arith };
        few = λ o. o;
        reads = λ ns k ls d. (ls, d, λ x m. e ns x ls);
      }
