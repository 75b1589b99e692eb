-- What words stand for stays as it is while more words are written. Assumes nothing.
use mathlib.Core.Path.{◌≡◌, refl, sym, ◌∙◌, ap, subst}
use mathlib.Core.Bool.{cond}
use mathlib.Core.List.{List, [], ◌∷◌}
use Prim.Native.Nat.{ℕ, ◌+◌, ◌<◌, ◌≤◌}
use native.Mathlib.Omega.{arith}
use lib.Dec.{eqb}
use lib.ListN.{length, take, drop}
use Rattle.lexer.specs.Bytes.{Entry}
use Rattle.meaning.specs.Expression.{Literal, Write, Exp, letter, seq, alt, star, pipe}
use Rattle.meaning.specs.Names.{Meaning, an_input, a_store, a_define, a_production}
use Rattle.words.specs.Words.{part0, part1, part2, part3}
use Rattle.rules.specs.Cells.{at, Link, LinkAt, Links, HeldIs, tests_on, writes_on, Node, LetterNode, CameNode, Denotes, Means, Cells}
use Rattle.rules.specs.Conditions.{Extends, TestsAre}

module _ (P : List ℕ) (c : ℕ) (Q : List ℕ) (d : ℕ) (x : Extends P c Q d) where
  -- a part of a word in use
  same : (f : ℕ → ℕ) (i n : ℕ) → i < c → f (at P i) ≡ n → f (at Q i) ≡ n
  same f i n l e = ap f (x.kept i l) ∙ e

  -- what holds of a part of a word in use
  moved : (f : ℕ → ℕ) (R : ℕ → Type 0) (i : ℕ) → i < c → R (f (at P i)) → R (f (at Q i))
  moved f R i l r = subst (λ (w : ℕ). R (f w)) (sym (x.kept i l)) r

  pub link-kept : (i : ℕ) (y : Link) → LinkAt P c i y → LinkAt Q d i y
  unfolding LinkAt
  link-kept i y (l, s, lo, w, n, p) =
      let m : i < c = omega arith in
      (omega (arith, x.more), same part0 i _ m s, same part1 i _ m lo, same part2 i _ m w, x.kept (i + 1) l ∙ n, moved part3 (λ z. z < i) i m p)

  pub links-kept : (i : ℕ) (ys : List Link) → Links P c i ys → Links Q d i ys
  unfolding Links LinkAt
  links-kept i [] e = e
  links-kept i (y ∷ ys) (l, r) =
      let m : i < c = let k = l.0 in omega arith in
      (link-kept i y l, subst (λ z. Links Q d z ys) (sym (same part3 i _ m refl)) (links-kept (part3 (at P i)) ys r))

  pub tests-kept : (n i : ℕ) (ls : List Literal) → TestsAre P c n i ls → TestsAre Q d n i ls
  tests-kept n i ls t = record { count = t.count; links = λ l. links-kept i _ (t.links l); low = omega (arith, t.low, x.more) }

  pub held_kept : (i : ℕ) (ls : List Literal) → HeldIs P c i ls → HeldIs Q d i ls
  held_kept i ls h = record { low = omega (arith, h.low, x.more); mask = ap (cond (eqb i 0) 0) (x.kept i h.low) ∙ h.mask }

  node_kept : (k kind : ℕ) → Node P c k kind → Node Q d k kind
  unfolding Node
  node_kept k kind (p, l, e) = (p, omega (arith, x.more), same part0 k _ l e)

  under : (k kind : ℕ) → Node P c k kind → k < c
  unfolding Node
  under k kind (p, l, e) = l

  letter-kept : (k : ℕ) (ls : List Literal) (ws : List Write) → LetterNode P c k ls ws → LetterNode Q d k ls ws
  unfolding LetterNode
  letter-kept k ls ws (n, l, a, b, t, w, h) =
      let m = under k 0 n in (
        node_kept k 0 n,
        omega (arith, x.more),
        x.kept (k + 1) (omega arith) ∙ a,
        x.kept (k + 2) l ∙ b,
        subst (λ z. Links Q d z (tests_on [] ls)) (sym (ap part1 (x.kept k m))) (links-kept _ _ t),
        subst (λ z. Links Q d z (writes_on [] ws)) (sym (ap part2 (x.kept k m))) (links-kept _ _ w),
        subst (λ z. HeldIs Q d z ls) (sym (ap part3 (x.kept k m))) (held_kept _ _ h),
      )

  came-kept : (k : ℕ) (ps : List ℕ) (ls : List Literal) (ws : List Write) → CameNode P c k ps ls ws → CameNode Q d k ps ls ws
  unfolding CameNode
  came-kept k [] ls ws n = letter-kept k ls ws n
  came-kept k (p ∷ ps) ls ws (n, i, e, r) =
      let m = under k 5 n in (
        node_kept k 5 n,
        moved part1 (λ z. z < k) k m i,
        same part2 k _ m e,
        subst (λ z. CameNode Q d z ps ls ws) (sym (ap part1 (x.kept k m))) (came-kept (part1 (at P k)) ps ls ws r),
      )

  -- an operand of a node
  operand : (f : ℕ → ℕ) (k : ℕ) (e : Exp) → k < c → Denotes Q d (f (at P k)) e → Denotes Q d (f (at Q k)) e
  operand f k e l r = subst (λ z. Denotes Q d z e) (sym (ap f (x.kept k l))) r

  pub denotes-kept : (k : ℕ) (e : Exp) → Denotes P c k e → Denotes Q d k e
  unfolding Denotes
  denotes-kept k (letter y) n = came-kept k y.through y.literals y.writes n
  denotes-kept k (seq e f) (n, i, j, p, q) =
      let m = under k 1 n in
      (node_kept k 1 n, moved part1 (λ z. z < k) k m i, moved part2 (λ z. z < k) k m j, operand part1 k e m (denotes-kept (part1 (at P k)) e p), operand part2 k f m (denotes-kept (part2 (at P k)) f q))
  denotes-kept k (alt e f) (n, i, j, p, q) =
      let m = under k 2 n in
      (node_kept k 2 n, moved part1 (λ z. z < k) k m i, moved part2 (λ z. z < k) k m j, operand part1 k e m (denotes-kept (part1 (at P k)) e p), operand part2 k f m (denotes-kept (part2 (at P k)) f q))
  denotes-kept k (star e) (n, i, p) = let m = under k 3 n in (node_kept k 3 n, moved part1 (λ z. z < k) k m i, operand part1 k e m (denotes-kept (part1 (at P k)) e p))
  denotes-kept k (pipe e f) (n, i, j, p, q) =
      let m = under k 4 n in
      (node_kept k 4 n, moved part1 (λ z. z < k) k m i, moved part2 (λ z. z < k) k m j, operand part1 k e m (denotes-kept (part1 (at P k)) e p), operand part2 k f m (denotes-kept (part2 (at P k)) f q))

  pub means-kept : (h : ℕ) (m : Meaning) → Means P c h m → Means Q d h m
  unfolding Means
  means-kept h (an_input lo width) m =
      let u = m.used in
      record {
        kind = same part0 h _ (omega arith) m.kind;
        used = omega (arith, x.more);
        low = same part0 (h + 1) _ u m.low;
        wide = same part1 (h + 1) _ u m.wide;
        some = m.some;
        inside = m.inside;
      }
  means-kept h (a_store n width) m =
      let u = m.used in
      record {
        kind = same part0 h _ (omega arith) m.kind;
        used = omega (arith, x.more);
        own = same part0 (h + 1) _ u m.own;
        wide = same part1 (h + 1) _ u m.wide;
        few = m.few;
        some = m.some;
        inside = m.inside;
      }
  means-kept h (a_define ls) m =
      let u = m.used in
      let l : h + 1 < c = omega arith in
      record {
        kind = same part0 h _ (omega arith) m.kind;
        used = omega (arith, x.more);
        agrees = same part0 (h + 1) _ l m.agrees;
        tests = same part1 (h + 1) _ l m.tests;
        links = λ f. subst (λ z. Links Q d z (tests_on [] ls)) (sym (ap part2 (x.kept (h + 1) l))) (links-kept _ _ (m.links f));
        low = moved part2 (λ z. z < d) (h + 1) l (omega (arith, m.low, x.more));
        looks = x.kept (h + 2) (omega arith) ∙ m.looks;
        wants = x.kept (h + 3) u ∙ m.wants;
        helds = subst (λ z. HeldIs Q d z ls) (sym (ap part3 (x.kept (h + 1) l))) (held_kept _ _ m.helds);
        sized = m.sized;
      }
  means-kept h (a_production e) m =
      let u = m.used in
      let l : h + 1 < c = omega arith in
      record {
        kind = same part0 h _ (omega arith) m.kind;
        used = omega (arith, x.more);
        node = operand part0 (h + 1) e l (denotes-kept _ e m.node);
        letters = same part0 (h + 2) _ u m.letters;
        null = same part1 (h + 2) _ u m.null;
        impossible = same part2 (h + 2) _ u m.impossible;
        hollow = same part3 (h + 2) _ u m.hollow;
        sized = m.sized;
      }

  pub cells-kept : (text : List ℕ) (h : ℕ) (es : List (Entry Meaning)) → Cells text P c h es → Cells text Q d h es
  unfolding Cells
  cells-kept text h [] e = e
  cells-kept text h (e ∷ es) (p, l, s, m, f, r) =
      let k = x.kept h l in (
        p,
        omega (arith, x.more),
        record { inside = subst (λ w. part2 w + part3 w ≤ length text) (sym k) s.inside; bytes = ap (λ w. take (part3 w) (drop (part2 w) text)) k ∙ s.bytes },
        means-kept h e.meaning m,
        moved part1 (λ z. z < h) h l f,
        subst (λ z. Cells text Q d z es) (sym (ap part1 k)) (cells-kept text (part1 (at P h)) es r),
      )
