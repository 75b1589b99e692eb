-- What a define or a production stands for: its literals or its expression, up to before `;`, and its cell. Assumes nothing.
use mathlib.Core.Path.{◌≡◌, refl, sym, ◌∙◌, ap, subst}
use mathlib.Core.Bool.{Bool, true, false, ◌&&◌}
use mathlib.Core.List.{List, []}
use Prim.Native.Nat.{ℕ, ◌+◌, ◌<◌, ◌≤◌}
use native.Mathlib.Omega.{arith}
use borrow.Author.Tests.{ne_eqb, eqb-true}
use lib.ListN.{length, set, length-set}
use Rattle.lexer.specs.Tokens as token
use Rattle.lexer.specs.Tokens.{Token, Placed, token_at, rule_words}
use Rattle.meaning.specs.Expression.{Literal, Exp, as_production}
use Rattle.meaning.specs.Reading.{statement, define_name, new_level, Open, closing, in_define, literal, literal_more, operand, operand_more, Step, is_sign, is, choose, not_here, behind_literal, behind_operand, step}
use Rattle.meaning.specs.Names.{Names, a_define, a_production, new_define, new_production, declare}
use Rattle.std.specs.Prelude.{Result, Ok, Err}
use Rattle.rules.specs.declared.tokens.Misread.{Misread}
use Rattle.rules.specs.declared.literals.Literals.{Literals}
use Rattle.rules.specs.Misreads.{fault_in, at_in}
use Rattle.rules.specs.Conditions.{told_literals}
use Rattle.rules.specs.Defined.{DefineRead}
use Rattle.rules.proofs.Misreads as refusals
use Rattle.rules.specs.declared.literals.Condition.{Condition}
use Rattle.rules.specs.Conditions.{LiteralsTold}
use Rattle.rules.specs.Expressions.{ParsedTold}
use Rattle.rules.specs.declared.parts.Part.{Part}
use Rattle.words.specs.Words.{quad, part0, part1, part2, part3}
use Rattle.rules.specs.Cells.{at, flag, Links, tests_on, Denotes, Means, HeldIs}
use Rattle.rules.specs.Reads.{read_from, Unless, fine, faulted, placed}
use Rattle.rules.specs.Conditions.{Extends, ConditionIs, Given, Added, Refuses, Adds, AllAdded}
use Rattle.rules.specs.Parts.{PartIs, ProductionMade}
use Rattle.rules.specs.Tasks.{Gains, Fails}
use Rattle.rules.specs.Expressions.{Named, Closes, Outer, behind_whole, Whole}
use Rattle.rules.specs.Defined.{Begins, Defines, HeadAt, CellWritten}
use Rattle.lexer.proofs.Bools.{and-false}
use Rattle.rules.proofs.Stepping.{well, ill, no}
use Rattle.rules.proofs.OnNumber.{on-token}
use Rattle.words.proofs.Quads.{quad-0, quad-1, quad-2, quad-3}
use Rattle.rules.proofs.Put.{put-extends, put-at, extends-then}
use Rattle.rules.proofs.Kept.{cells-kept, tests-kept, held_kept}
use Rattle.rules.proofs.TaskLaws.{room_after, spent-then}
use Rattle.rules.proofs.Defining.{with_meaning}
use Rattle.rules.proofs.PartLaws.{part-kept, within, flag_small, put_three, first_word, second_word, third-word}

-- ---- the literals of a define

-- where no `&` follows, `;` is expected
literals_end : (text : List ℕ) (pos : ℕ) → is 4 (token_at rule_words text pos) ≡ false → (ns : Names) (s : List ℕ) (ls : List Literal)
    → read_from text pos ns (literal_more (in_define s) ls) ≡ read_from text pos ns (closing (new_define s ls))
unfolding step behind_literal
literals_end text pos l ns s ls = on-token text pos _ refl ns _ _ (no _ _ _ l) ∙ sym (on-token text pos _ refl ns (closing (new_define s ls)) _ refl)

module _ (text P : List ℕ) (pos c h : ℕ) (g : Named text P pos c h) (q : Condition) (none : (P : List ℕ) (c : ℕ) → 1 ≤ c → ConditionIs P c q []) where
  no-literals : ConditionIs P c q []
  no-literals = none P c g.room.some

  pub literals-given : Given text P pos c h q
  literals-given = record { room = g.room; names = g.names; condition = ([], no-literals) }

  module _ (l : LiteralsTold) (Q : List ℕ) (a : Adds text (λ ns x ls. read_from text pos ns (literal x ls)) P pos c h q 6 l Q) where
    pub first-fails : (l.fault ≡ 0 → ⊥)
        → Defines text P pos c h (List Literal) (ConditionIs Q l.free l.condition) (λ s. literal (in_define s) []) new_define l.fault l.at l.free Q
    first-fails n = record { long = a.long; outcome = faulted n (λ ns k u v s w. ill a.outcome n ns k [] no-literals (in_define s) refl) }

    module _ (z : l.fault ≡ 0) where
      pub rest-given : Given text Q l.at l.free h l.condition
      rest-given =
          let d = well a.outcome z in
          let (ns, k) = g.names in
          let (ms, b, on) = d.reads ns k [] no-literals in
          record { room = room_after g.room d.extends d.spent; names = (ns, cells-kept P c Q l.free d.extends text h ns.declared k); condition = (ms, b) }

      pub all_read : (m : LiteralsTold) (R : List ℕ) → AllAdded text (λ ns x ls. read_from text l.at ns (literal_more x ls)) Q l.at l.free h l.condition 6 m R
          → Defines text P pos c h (List Literal) (ConditionIs R m.free m.condition) (λ s. literal (in_define s) []) new_define m.fault m.at m.free R
      all_read m R b = record { long = b.adds.long ∙ a.long; outcome = by b.adds.outcome }
        where
          d : Added text (λ ns x ls. read_from text pos ns (literal x ls)) P pos c h q 6 l Q
          d = well a.outcome z

          by : Unless m.fault (Added text (λ ns x ls. read_from text l.at ns (literal_more x ls)) Q l.at l.free h l.condition 6 m R)
              (Refuses text (λ ns x ls. read_from text l.at ns (literal_more x ls)) Q l.free h l.condition 6 m.fault m.at)
              → Unless m.fault
              (Gains text P pos c h (Unit {0}) (List Literal) (List ℕ) (λ u. Unit {0}) (ConditionIs R m.free m.condition) (λ s. Unit {0})
              (λ ns s u. read_from text pos ns (literal (in_define s) [])) (λ s ls. closing (new_define s ls)) m.at m.free R)
              (Fails text P c h (Unit {0}) (List ℕ) (λ u. Unit {0}) (λ s. Unit {0}) (λ ns s u. read_from text pos ns (literal (in_define s) [])) m.fault m.at)
          by (fine y e) =
              fine y (record {
                extends = extends-then d.extends e.extends;
                spent = spent-then d.spent e.spent;
                reads = λ ns k u v.
                    let (ms, w, on) = d.reads ns k [] no-literals in
                    let (os, x, off) = e.reads ns (cells-kept P c Q l.free d.extends text h ns.declared k) ms w in
                    (os, x, λ s i. on (in_define s) refl ∙ off (in_define s) refl ∙ literals_end text m.at (b.last y) ns s os);
              })
          by (faulted n e) =
              faulted n (λ ns k u v s i.
              let (ms, w, on) = d.reads ns k [] no-literals in
              on (in_define s) refl ∙ e ns (cells-kept P c Q l.free d.extends text h ns.declared k) ms w (in_define s) refl)

-- ---- the expression of a production

abbrev pub new_open : List ℕ → Open
new_open s = record { name = s; level = new_level; outer = [] }

-- no token is two signs
one-sign : (j k : ℕ) → (j ≡ k → ⊥) → (t : Token) → is_sign j t ≡ true → is_sign k t ≡ false
one-sign j k n (token.name s) e = refl
one-sign j k n (token.word w) e = refl
one-sign j k n (token.number m) e = refl
one-sign j k n (token.sign m) e = ne_eqb k m (λ (q : k ≡ m). n (let p = eqb-true j m e in omega arith))
one-sign j k n token.end e = refl
one-sign j k n (token.refused m) e = refl

-- a `)` that closes nothing is refused as anything else is that is no `;`
no-paren : (t : Placed) (s : Step) → choose (is 7 t) (not_here t) (choose (is 0 t) s (not_here t)) ≡ choose (is 0 t) s (not_here t)
unfolding choose
no-paren t s = by (is 7 t) refl
  where
    by : (b : Bool) → is 7 t ≡ b → choose b (not_here t) (choose (is 0 t) s (not_here t)) ≡ choose (is 0 t) s (not_here t)
    by true e = sym (no _ _ _ (one-sign 7 0 (λ (q : ◌≡◌ {A = ℕ} 7 0). omega arith) t.token e))
    by false e = refl

-- where no operator follows, `;` is expected
closes : (ns : Names) (s : List ℕ) (e : Exp) (t : Placed) → is 2 t ≡ false → is 1 t ≡ false → is 15 t ≡ false
    → step ns (operand_more (new_open s) e true) t ≡ step ns (closing (new_production s e)) t
unfolding step behind_operand
closes ns s e t pipe comma bars =
    no (is 3 t && false) _ _ (and-false (is 3 t)) ∙ no (is 2 t && true) _ _ (ap (λ (b : Bool). b && true) pipe) ∙ no (is 1 t) _ _ comma ∙ no (is 15 t) _ _ bars ∙ no-paren t _

expression-end : (text : List ℕ) (pos : ℕ) → Closes text pos → (ns : Names) (s : List ℕ) (e : Exp)
    → read_from text pos ns (operand_more (new_open s) e true) ≡ read_from text pos ns (closing (new_production s e))
expression-end text pos l ns s e =
    on-token text pos _ refl ns _ _ (closes ns s e (token_at rule_words text pos) l.pipe l.comma l.bars) ∙ sym (on-token text pos _ refl ns (closing (new_production s e)) _ refl)

pub expression-read : (text P : List ℕ) (pos c h : ℕ) (r : ParsedTold) (Q : List ℕ) → Whole text P pos c h 32 r Q
    → Defines text P pos c h Exp (PartIs Q r.free r.part) (λ s. operand (new_open s)) new_production r.fault r.at r.free Q
expression-read text P pos c h r Q w = record { long = w.task.long; outcome = by w.task.outcome }
  where
    new : (s : List ℕ) → Outer 32 (new_open s)
    new s = record { level = refl; deep = refl }

    by : Unless r.fault
        (Gains text P pos c h (Unit {0}) Exp Open (λ u. Unit {0}) (PartIs Q r.free r.part) (Outer 32) (λ ns o u. read_from text pos ns (operand o)) behind_whole r.at r.free Q)
        (Fails text P c h (Unit {0}) Open (λ u. Unit {0}) (Outer 32) (λ ns o u. read_from text pos ns (operand o)) r.fault r.at)
        → Unless r.fault
        (Gains text P pos c h (Unit {0}) Exp (List ℕ) (λ u. Unit {0}) (PartIs Q r.free r.part) (λ s. Unit {0})
        (λ ns s u. read_from text pos ns (operand (new_open s))) (λ s e. closing (new_production s e)) r.at r.free Q)
        (Fails text P c h (Unit {0}) (List ℕ) (λ u. Unit {0}) (λ s. Unit {0}) (λ ns s u. read_from text pos ns (operand (new_open s))) r.fault r.at)
    by (fine z g) =
        fine z (record {
          extends = g.extends;
          spent = g.spent;
          reads = λ ns k u v.
              let (e, p, on) = g.reads ns k u v in
              (e, p, λ s i. on (new_open s) (new s) ∙ expression-end text r.at (w.closes z) ns s e);
        })
    by (faulted n g) = faulted n (λ ns k u v s i. g ns k u v (new_open s) (new s))

-- ---- the cells

-- four words more
module _ (P : List ℕ) (c t u v w : ℕ) (h : c + 4 ≤ length P) where
  abbrev three : List ℕ
  three = set (set (set P c t) (c + 1) u) (c + 2) v

  abbrev four : List ℕ
  four = set three (c + 3) w

  fits : c + 3 ≤ length P
  fits = omega arith

  long : c + 3 < length three
  long = simp length-set (omega arith)

  put_four : Extends P c four (c + 4)
  put_four =
      let x = extends-then (put_three P c t u v fits) (put-extends three (c + 3) w long) in
      record { long = x.long; more = omega arith; kept = x.kept }

  before : (i x : ℕ) → i < c + 3 → at three i ≡ x → at four i ≡ x
  before i x l e = (put-extends three (c + 3) w long).kept i l ∙ e

  word-0 : at four c ≡ t
  word-0 = before c t (omega arith) (first_word P c t u v fits)

  word-1 : at four (c + 1) ≡ u
  word-1 = before (c + 1) u (omega arith) (second_word P c t u v fits)

  word-2 : at four (c + 2) ≡ v
  word-2 = before (c + 2) v (omega arith) (third-word P c t u v fits)

  word-3 : at four (c + 3) ≡ w
  word-3 = put-at three (c + 3) w long

module _ (P : List ℕ) (c last place size : ℕ) (small : length P ≤ 65535) (l : last < 65536) (p : place < 65536) (s : size < 65536) where
  -- the first word
  headed : (Q : List ℕ) (kind : ℕ) → kind < 65536 → at Q c ≡ quad kind last place size → (part0 (at Q c) ≡ kind) × HeadAt Q c last place size
  headed Q kind k e = (
    ap part0 e ∙ quad-0 kind last place size k,
    record {
      back = ap part1 e ∙ quad-1 kind last place size l;
      from = ap part2 e ∙ quad-2 kind last place size p;
      long = ap part3 e ∙ quad-3 kind last place size s;
    },
  )

  module _ (q : Condition) (room : c + 4 ≤ length P) (some : (ls : List Literal) × ConditionIs P c q ls) (n : ℕ) (is : n ≡ flag q.agrees) where
    define-small : (n < 65536) × (q.tests < 65536) × (q.link < 65536) × (q.held < 65536)
    define-small = let f = flag_small q.agrees in let (ls, k) = some in (omega arith, omega (arith, k.tests.count), omega (arith, k.tests.low), omega (arith, k.helds.low))

    -- its four words
    define-cell : (Q : List ℕ) → Extends P c Q (c + 4) → at Q c ≡ quad 2 last place size → at Q (c + 1) ≡ quad n q.tests q.link q.held → at Q (c + 2) ≡ q.look → at Q (c + 3) ≡ q.want
        → CellWritten P c c 4 last place size (List Literal) (ConditionIs P c q) a_define Q
    unfolding Means
    define-cell Q x first body looks wants =
        let (kind, head) = headed Q 2 (omega arith) first in
        let (a, b, d, g) = define-small in
        let link = ap part2 body ∙ quad-2 n q.tests q.link q.held d in
        record {
          since = omega arith;
          few = omega arith;
          extends = x;
          head = head;
          means = λ ls k.
              let t = tests-kept P c Q (c + 4) x q.tests q.link ls k.tests in
              record {
                kind = kind;
                used = omega arith;
                agrees = ap part0 body ∙ quad-0 n q.tests q.link q.held a ∙ is ∙ ap flag k.masks.agrees;
                tests = ap part1 body ∙ quad-1 n q.tests q.link q.held b ∙ k.tests.count;
                links = λ m. subst (λ (i : ℕ). Links Q (c + 4) i (tests_on [] ls)) (sym link) (t.links m);
                low = omega (arith, link, t.low);
                looks = looks ∙ k.masks.looks;
                wants = wants ∙ k.masks.wants;
                helds = subst (λ (i : ℕ). HeldIs Q (c + 4) i ls) (sym (ap part3 body ∙ quad-3 n q.tests q.link q.held g)) (held_kept P c Q (c + 4) x q.held ls k.helds);
                sized = k.masks.sized;
              };
        }

    pub define-put : CellWritten P c c 4 last place size (List Literal) (ConditionIs P c q) a_define
        (set (set (set (set P c (quad 2 last place size)) (c + 1) (quad n q.tests q.link q.held)) (c + 2) q.look) (c + 3) q.want)
    define-put = define-cell _ (put_four P c _ _ _ _ room) (word-0 P c _ _ _ _ room) (word-1 P c _ _ _ _ room) (word-2 P c _ _ _ _ room) (word-3 P c _ _ _ _ room)

  module _ (y : Part) (room : c + 3 ≤ length P) (some : (e : Exp) × PartIs P c y e) (n : ℕ) (is : n ≡ flag y.nullable) where
    production-small : (y.node < 65536) × (y.letters < 65536) × (n < 65536) × (y.impossible < 65536) × (y.hollow < 65536)
    production-small =
        let (e, k) = some in
        let f = flag_small y.nullable in
        let w = within k in
        (omega (arith, k.low), omega (arith, w.letters), omega arith, omega (arith, w.impossible), omega (arith, w.hollow))

    -- its three words
    production-cell : (Q : List ℕ) → Extends P c Q (c + 3) → at Q c ≡ quad 3 last place size → at Q (c + 1) ≡ quad y.node 0 0 0
        → at Q (c + 2) ≡ quad y.letters n y.impossible y.hollow → CellWritten P c c 3 last place size Exp (PartIs P c y) a_production Q
    unfolding Means
    production-cell Q x first body sums =
        let (kind, head) = headed Q 3 (omega arith) first in
        let (a, b, d, f, g) = production-small in
        record {
          since = omega arith;
          few = omega arith;
          extends = x;
          head = head;
          means = λ e k.
              record {
                kind = kind;
                used = omega arith;
                node = subst (λ (i : ℕ). Denotes Q (c + 3) i e) (sym (ap part0 body ∙ quad-0 y.node 0 0 0 a)) (part-kept P c Q (c + 3) x y e k).denotes;
                letters = ap part0 sums ∙ quad-0 y.letters n y.impossible y.hollow b ∙ k.letters;
                null = ap part1 sums ∙ quad-1 y.letters n y.impossible y.hollow d ∙ is ∙ ap flag k.null;
                impossible = ap part2 sums ∙ quad-2 y.letters n y.impossible y.hollow f ∙ k.impossible;
                hollow = ap part3 sums ∙ quad-3 y.letters n y.impossible y.hollow g ∙ k.hollow;
                sized = k.sized;
              };
        }

    pub production-put : CellWritten P c c 3 last place size Exp (PartIs P c y) a_production
        (set (set (set P c (quad 3 last place size)) (c + 1) (quad y.node 0 0 0)) (c + 2) (quad y.letters n y.impossible y.hollow))
    production-put = production-cell _ (put_three P c _ _ _ room) (first_word P c _ _ _ room) (second_word P c _ _ _ room) (third-word P c _ _ _ room)

-- behind the node of a single letter
pub numbered-put : (P : List ℕ) (c h k last place size : ℕ) (p r : Part) (Q R : List ℕ) → ProductionMade P c k p Q h r
    → CellWritten Q h h 3 last place size Exp (PartIs Q h r) a_production R → CellWritten P c h 3 last place size Exp (PartIs P c p) (λ e. a_production (as_production k e)) R
numbered-put P c h k last place size p r Q R a b = record {
  since = a.extends.more;
  few = omega (arith, a.few);
  extends = extends-then a.extends b.extends;
  head = b.head;
  means = λ e y. b.means (as_production k e) (a.part e y);
}

-- ---- where they begin

pub define-begins : (text : List ℕ) (pos : ℕ) (ns : Names) → Begins text pos 13 ns define_name (λ s. literal (in_define s) [])
unfolding step
define-begins text pos ns = refl

pub production-begins : (text : List ℕ) (pos : ℕ) → (s : List ℕ) × (place : ℕ) × (after : ℕ) × (token_at rule_words text pos ≡ placed (token.name s) place after)
    → (ns : Names) → Begins text pos 16 ns statement (λ s. operand (new_open s))
unfolding step
production-begins text pos (s, place, after, e) ns = rw e

-- ---- and what they declare

pub define-declares : (k : ℕ) (s : List ℕ) (ls : List Literal) (ns : Names) → k ≡ length ns.declared → declare (new_define s ls) ns ≡ with_meaning s (a_define ls) ns
unfolding declare
define-declares k s ls ns z = refl

pub production-declares : (k : ℕ) (s : List ℕ) (e : Exp) (ns : Names) → k ≡ length ns.declared → declare (new_production s e) ns ≡ with_meaning s (a_production (as_production k e)) ns
unfolding declare
production-declares k s e ns z = rw z

-- a refusal is the same whatever stands for what it has not
pub define-from : (text P : List ℕ) (pos c h d : ℕ) (q : Condition) (r : Result Literals Misread) (Q : List ℕ)
    → Defines text P pos c h (List Literal) (ConditionIs Q (told_literals d q r).free (told_literals d q r).condition) (λ s. literal (in_define s) []) new_define (fault_in r) (at_in (λ l. l.at) r)
    (told_literals d q r).free Q → DefineRead text P pos c h r Q
define-from text P pos c h d q (Ok l) Q a = a
define-from text P pos c h d q (Err e) Q a = record { long = a.long; outcome = faulted (refusals.some e.why) (ill a.outcome (refusals.some e.why)) }
