-- What follows an operand: `*`, an operator, or the end of its level. Assumes nothing.
use mathlib.Core.Path.{◌≡◌, refl, sym, ◌∙◌, ap, ap₂, subst}
use mathlib.Core.Bool.{Bool, true, false, not, ◌&&◌}
use mathlib.Core.List.{List, [], ◌∷◌}
use mathlib.Core.Option.{Option, none, some}
use Prim.Native.Nat.{ℕ, ◌+◌, ◌≤◌}
use native.Mathlib.Omega.{arith}
use lib.ListN.{length}
use Rattle.lexer.specs.Tokens.{token_at, rule_words}
use Rattle.meaning.specs.Expression.{Exp, star}
use Rattle.meaning.specs.Answers.{refused, byte}
use Rattle.meaning.specs.Reading.{Open, Level, new_level, on_level, is_none, sequenced, whole, behind_at, behind_comma, behind_bars, operand, operand_more, go, step, is, choose, not_here, behind_operand, on_right_paren, on_semicolon}
use Rattle.meaning.specs.Names.{Names}
use Rattle.lexer.specs.declared.Token.{Token as Seen}
use Rattle.lexer.specs.declared.Kind.TheVariants as kind
use Rattle.lexer.specs.declared.Sign.{Sign}
use Rattle.lexer.specs.declared.Sign.TheVariants as signs
use Rattle.rules.specs.declared.parts.Part.{Part}
use Rattle.rules.specs.Expressions.{ParsedTold}
use Rattle.rules.specs.declared.expression.Depth.{Depth}
use Rattle.rules.specs.Expressions.{TurnTold}
use Rattle.rules.specs.Seen.{fault_of, seen, Sees}
use Rattle.rules.specs.Reads.{read_from, fine, faulted, Past}
use Rattle.rules.specs.Conditions.{Extends}
use Rattle.rules.specs.Parts.{PartIs, OptionIs, present, StarMade}
use Rattle.rules.specs.Expressions.{LevelIs, pending, Joined, Closes, Ends, goes, ends, stops, Turned, Behind, Starring, Starred, in_parens, around, ClosedBy}
use Rattle.lexer.proofs.Bools.{and-false}
use Rattle.rules.proofs.Stepping.{yes, no, faults, past, on_step, is-on, is-off, not-here, no-sign-at, other-sign}
use Rattle.rules.proofs.Put.{extends-refl}
use Rattle.std.specs.Prelude as code
use Rattle.rules.proofs.PartLaws.{present-none}
use Rattle.rules.proofs.Operating.{level-kept}

-- ---- `*`

module _ (text P : List ℕ) (pos c : ℕ) (t : Seen) (sees : Sees text pos t) (p : Part) (g : Starring text P pos c p) where
  pub star-none : (t.kind ≡ kind.Sign signs.Star → ⊥) → Starred text P pos c p (record { at = pos; free = c; part = p }) P
  star-none n =
      record {
        extends = extends-refl P c;
        spent = record { since = omega arith; inside = g.room.inside; few = omega arith };
        reads = λ e k. (e, false, k, (λ z. no-sign-at text pos t sees signs.Star n), λ ns o. refl);
      }

  pub star-room : t.kind ≡ kind.Sign signs.Star → (c + 1 ≤ length P) × (length P ≤ 65535)
  star-room q = let r = g.room in let s = past text pos t sees q tt in (omega (arith, r.fits), r.small)

  pub star-some : t.kind ≡ kind.Sign signs.Star → (Q : List ℕ) (d : ℕ) (m : Part) → StarMade P c p Q d m → Starred text P pos c p (record { at = t.after; free = d; part = m }) Q
  unfolding step behind_operand
  star-some q Q d m s =
      let l = past text pos t sees q tt in
      record {
        extends = s.extends;
        spent = record { since = omega arith; inside = l.1; few = omega (arith, s.few) };
        reads = λ e k. (
          star e,
          true,
          s.part e k,
          (λ z. absurd (let y : ◌≡◌ {A = ℕ} 0 1 = cc in omega arith)),
          λ ns o.
              on_step text pos t sees ns (operand_more o e false) _ (yes _ _ _ (ap (λ (b : Bool). b && true) (is-on text pos t sees signs.Star q))),
        );
      }

-- ---- behind an operand

module _ (text : List ℕ) (pos : ℕ) (t : Seen) (sees : Sees text pos t) (ns : Names) (o : Open) (e : Exp) (b : Bool) where
  -- what is left of the step where there is no `*`, no `@`, no `,` and no `||` to take
  rest : (is 3 (seen text t) && not b) ≡ false → (is 2 (seen text t) && is_none o.level.left) ≡ false → (t.kind ≡ kind.Sign signs.Comma → ⊥) → (t.kind ≡ kind.Sign signs.DoubleBar → ⊥)
      → behind_operand ns o e b (seen text t)
      ≡ choose (is 7 (seen text t)) (on_right_paren ns o e o.outer (seen text t)) (choose (is 0 (seen text t)) (on_semicolon ns o e o.outer (seen text t)) (not_here (seen text t)))
  unfolding behind_operand
  rest s a n m = no _ _ _ s ∙ no _ _ _ a ∙ no _ _ _ (is-off text pos t sees signs.Comma n) ∙ no _ _ _ (is-off text pos t sees signs.DoubleBar m)

  -- it is `*` or `@`, and neither `)` nor `;`
  refused-here : (is 3 (seen text t) && not b) ≡ false → (is 2 (seen text t) && is_none o.level.left) ≡ false → (t.kind ≡ kind.Sign signs.Comma → ⊥) → (t.kind ≡ kind.Sign signs.DoubleBar → ⊥) → (t.kind ≡ kind.Sign signs.RightParen → ⊥) → (t.kind ≡ kind.Sign signs.Semicolon → ⊥)
      → read_from text pos ns (operand_more o e b) ≡ refused (fault_of t.kind) (byte t.place)
  unfolding step
  refused-here s a n m r z =
      on_step text pos t sees ns (operand_more o e b) _
      (rest s a n m ∙ no _ _ _ (is-off text pos t sees signs.RightParen r) ∙ no _ _ _ (is-off text pos t sees signs.Semicolon z) ∙ not-here text pos t sees)

starless : (text : List ℕ) (pos : ℕ) (t : Seen) → Sees text pos t → (t.kind ≡ kind.Sign signs.Star → ⊥) → (b : Bool) → (is 3 (seen text t) && not b) ≡ false
starless text pos t sees n b = ap (λ (x : Bool). x && not b) (is-off text pos t sees signs.Star n)

atless : (text : List ℕ) (pos : ℕ) (t : Seen) → Sees text pos t → (t.kind ≡ kind.Sign signs.At → ⊥) → (x : Option Exp) → (is 2 (seen text t) && is_none x) ≡ false
atless text pos t sees n x = ap (λ (y : Bool). y && is_none x) (is-off text pos t sees signs.At n)

module _ (text P : List ℕ) (pos c : ℕ) (t : Seen) (sees : Sees text pos t) (p : Part) (l : Depth) (g : Behind text P pos c l p) where
  -- a second `*`
  pub turn-star : t.kind ≡ kind.Sign signs.Star → (r : TurnTold) → r.more ≡ false → r.parsed.fault ≡ (fault_of t.kind) → r.parsed.at ≡ t.place → Turned text P pos c p l r P
  turn-star q r m f a =
      record {
        extends = λ z. absurd (faults text pos t sees (sym f ∙ z));
        long = refl;
        turn = stops m (λ z. faults text pos t sees (sym f ∙ z)) (λ L k e j b s ns o.
            refused-here text pos t sees ns (on_level o L) e b (once b s) (atless text pos t sees (other-sign q (λ z. omega arith)) L.left) (other-sign q (λ z. omega arith)) (other-sign q (λ z. omega arith)) (other-sign q (λ z. omega arith)) (other-sign q (λ z. omega arith))
            ∙ ap₂ (λ (i j : ℕ). refused i (byte j)) (sym f) (sym a));
      }
    where
      once : (b : Bool) → (b ≡ false → is 3 (token_at rule_words text pos) ≡ false) → (is 3 (seen text t) && not b) ≡ false
      once true s = and-false (is 3 (seen text t))
      once false s = ap (λ (x : Bool). x && true) (ap (is 3) sees.token ∙ s refl)

  -- a second `@`
  pub turn-again : t.kind ≡ kind.Sign signs.At → (l.left ≡ code.None → ⊥) → (r : TurnTold) → r.more ≡ false → r.parsed.fault ≡ (fault_of t.kind) → r.parsed.at ≡ t.place → Turned text P pos c p l r P
  unfolding OptionIs
  turn-again q n r m f a =
      record {
        extends = λ z. absurd (faults text pos t sees (sym f ∙ z));
        long = refl;
        turn = stops m (λ z. faults text pos t sees (sym f ∙ z)) (λ L k e j b s ns o.
            refused-here text pos t sees ns (on_level o L) e b (starless text pos t sees (other-sign q (λ z. omega arith)) b) (taken l.left n L.left k.left) (other-sign q (λ z. omega arith)) (other-sign q (λ z. omega arith)) (other-sign q (λ z. omega arith)) (other-sign q (λ z. omega arith))
            ∙ ap₂ (λ (i j : ℕ). refused i (byte j)) (sym f) (sym a));
      }
    where
      taken : (m : code.Option Part) → (m ≡ code.None → ⊥) → (x : Option Exp) → OptionIs P c m x → (is 2 (seen text t) && is_none x) ≡ false
      taken code.None n x k = absurd (n refl)
      taken (code.Some p) n none k = absurd k
      taken (code.Some p) n (some d) k = and-false (is 2 (seen text t))

  -- an operator: the level that it leads to
  module _ (r : TurnTold) (m : r.more ≡ true) (f : r.parsed.fault ≡ 0) (a : r.parsed.at ≡ t.after) where
    pub turn_at : t.kind ≡ kind.Sign signs.At → l.left ≡ code.None → r.level ≡ record { alts = l.alts; seqs = l.seqs; left = code.Some p } → r.parsed.free ≡ c → Turned text P pos c p l r P
    unfolding OptionIs step behind_operand
    turn_at q n v w =
        let s = past text pos t sees q tt in
        record {
          extends = λ z. subst (λ (d : ℕ). Extends P c P d) (sym w) (extends-refl P c);
          long = refl;
          turn = goes m f (record {
            further = rw a s.0;
            inside = rw a s.1;
            few = let x = present-none l.left n in rw (v, w, a) (omega arith);
            reads = λ L k e j b u. (
              behind_at L e,
              subst (λ (d : ℕ). LevelIs P d r.level (behind_at L e)) (sym w) (subst (λ (d : Depth). LevelIs P c d (behind_at L e)) (sym v) (record { alts = k.alts; seqs = k.seqs; left = j })),
              λ ns o.
                  on_step text pos t sees ns (operand_more (on_level o L) e b) _
                  (no _ _ _ (starless text pos t sees (other-sign q (λ z. omega arith)) b) ∙ yes _ _ _ (free-left L.left (subst (λ (m : code.Option Part). OptionIs P c m L.left) n k.left)))
                  ∙ ap (λ (d : ℕ). read_from text d ns (operand (on_level o (behind_at L e)))) (sym a),
            );
          });
        }
      where
        free-left : (x : Option Exp) → OptionIs P c code.None x → (is 2 (seen text t) && is_none x) ≡ true
        free-left none k = ap (λ (y : Bool). y && true) (is-on text pos t sees signs.At q)
        free-left (some d) k = absurd k

    -- the words grow, and the level behind the operator is as given
    module _ (Q : List ℕ) (d : ℕ) (w : r.parsed.free ≡ d) (x : Extends P c Q d) (v : Depth) (is-level : r.level ≡ v) where
      onto : {g : Sign} → (to : Level → Exp → Level) → t.kind ≡ kind.Sign g → d + pending v ≤ c + pending l + 3
          → ((L : Level) (e : Exp) → LevelIs P c l L → PartIs P c p e → LevelIs Q d v (to L e))
          → ((L : Level) (e : Exp) (b : Bool) (ns : Names) (o : Open) → step ns (operand_more (on_level o L) e b) (seen text t) ≡ go ns (operand (on_level o (to L e)))) → Turned text P pos c p l r Q
      onto to q few lev on =
          let s = past text pos t sees q tt in
          record {
            extends = λ z. subst (λ (n : ℕ). Extends P c Q n) (sym w) x;
            long = x.long;
            turn = goes m f (record {
              further = rw a s.0;
              inside = rw a s.1;
              few = rw (is-level, w, a) (omega arith);
              reads = λ L k e j b u. (
                to L e,
                subst (λ (n : ℕ). LevelIs Q n r.level (to L e)) (sym w) (subst (λ (n : Depth). LevelIs Q d n (to L e)) (sym is-level) (lev L e k j)),
                λ ns o.
                    on_step text pos t sees ns (operand_more (on_level o L) e b) _ (on L e b ns o)
                    ∙ ap (λ (n : ℕ). read_from text n ns (operand (on_level o (to L e)))) (sym a),
              );
            });
          }

    pub turn-comma : t.kind ≡ kind.Sign signs.Comma → (Q : List ℕ) (d : ℕ) (s : Part) → r.parsed.free ≡ d → r.level ≡ record { alts = l.alts; seqs = code.Some s; left = code.None }
        → Joined P c l p (present l.seqs + present l.left) sequenced Q d s → Turned text P pos c p l r Q
    unfolding OptionIs step behind_operand
    turn-comma q Q d s w v j =
        onto Q d w j.extends (record { alts = l.alts; seqs = code.Some s; left = code.None }) v behind_comma q
        (omega (arith, j.few))
        (λ L e k i. record { alts = (level-kept P c Q d j.extends l L k).alts; seqs = j.part L e k i; left = tt })
        (λ L e b ns o.
        no _ _ _ (starless text pos t sees (other-sign q (λ u. omega arith)) b) ∙ no _ _ _ (atless text pos t sees (other-sign q (λ u. omega arith)) L.left) ∙ yes _ _ _ (is-on text pos t sees signs.Comma q))

    pub turn-bars : t.kind ≡ kind.Sign signs.DoubleBar → (Q : List ℕ) (d : ℕ) (s : Part) → r.parsed.free ≡ d → r.level ≡ record { alts = code.Some s; seqs = code.None; left = code.None }
        → Joined P c l p (pending l) whole Q d s → Turned text P pos c p l r Q
    unfolding OptionIs step behind_operand
    turn-bars q Q d s w v j =
        onto Q d w j.extends (record { alts = code.Some s; seqs = code.None; left = code.None }) v behind_bars q
        (omega (arith, j.few))
        (λ L e k i. record { alts = j.part L e k i; seqs = tt; left = tt })
        (λ L e b ns o.
        no _ _ _ (starless text pos t sees (other-sign q (λ u. omega arith)) b) ∙ no _ _ _ (atless text pos t sees (other-sign q (λ u. omega arith)) L.left) ∙ no _ _ _ (is-off text pos t sees signs.Comma (other-sign q (λ u. omega arith)))
        ∙ yes _ _ _ (is-on text pos t sees signs.DoubleBar q))

  -- the end of the level
  pub turn-ends : (t.kind ≡ kind.Sign signs.Star → ⊥) → (t.kind ≡ kind.Sign signs.At → ⊥) → (t.kind ≡ kind.Sign signs.Comma → ⊥) → (t.kind ≡ kind.Sign signs.DoubleBar → ⊥) → (Q : List ℕ) (d : ℕ) (s : Part) → Joined P c l p (pending l) whole Q d s
      → (r : TurnTold) → r.more ≡ false → r.parsed ≡ record { fault = 0; at = pos; free = d; part = s } → Turned text P pos c p l r Q
  unfolding step
  turn-ends n3 n2 n1 n15 Q d s j r m v =
      record {
        extends = λ z. subst (λ (u : ParsedTold). Extends P c Q u.free) (sym v) j.extends;
        long = j.extends.long;
        turn = ends m (ap (λ (u : ParsedTold). u.fault) v) (subst (λ (u : ParsedTold). Ends text P pos c p l u Q) (sym v) (record {
          here = refl;
          few = j.few;
          closes = record { pipe = no-sign-at text pos t sees signs.At n2; comma = no-sign-at text pos t sees signs.Comma n1; bars = no-sign-at text pos t sees signs.DoubleBar n15 };
          reads = λ L k e i b u. (
            j.part L e k i,
            λ ns o.
                on_step text pos t sees ns (operand_more (on_level o L) e b) _ (rest text pos t sees ns (on_level o L) e b (starless text pos t sees n3 b) (atless text pos t sees n2 L.left) n1 n15 ∙ same ns o L e o.outer)
                ∙ sym (on_step text pos t sees ns (operand_more (on_level o new_level) (whole L e) true) _
                (rest text pos t sees ns (on_level o new_level) (whole L e) true (and-false (is 3 (seen text t))) (atless text pos t sees n2 none) n1 n15)),
          );
        }));
      }
    where
      -- both levels end alike
      same : (ns : Names) (o : Open) (L : Level) (e : Exp) (outer : List Level)
          → choose (is 7 (seen text t)) (on_right_paren ns (on_level o L) e outer (seen text t)) (choose (is 0 (seen text t)) (on_semicolon ns (on_level o L) e outer (seen text t)) (not_here (seen text t)))
          ≡ choose (is 7 (seen text t)) (on_right_paren ns (on_level o new_level) (whole L e) outer (seen text t)) (choose (is 0 (seen text t)) (on_semicolon ns (on_level o new_level) (whole L e) outer (seen text t)) (not_here (seen text t)))
      same ns o L e [] = refl
      same ns o L e (k ∷ ks) = refl

-- ---- `)`

module _ (text : List ℕ) (p : ParsedTold) (t : Seen) (sees : Sees text p.at t) where
  -- what is left of the step
  inner : Closes text p.at → (ns : Names) (n : List ℕ) (l : Level) (ls : List Level) (e : Exp)
      → step ns (operand_more (in_parens n l ls) e true) (seen text t) ≡ choose (is 7 (seen text t)) (go ns (operand_more (around n l ls) e false)) (choose (is 0 (seen text t)) (not_here (seen text t)) (not_here (seen text t)))
  unfolding step behind_operand
  inner c ns n l ls e =
      no _ _ _ (and-false (is 3 (seen text t))) ∙ no _ _ _ (ap (λ (y : Bool). y && true) (ap (is 2) sees.token ∙ c.pipe))
      ∙ no _ _ _ (ap (is 1) sees.token ∙ c.comma) ∙ no _ _ _ (ap (is 15) sees.token ∙ c.bars)

  pub closed-not : (t.kind ≡ kind.Sign signs.RightParen → ⊥) → (r : ParsedTold) → r.fault ≡ (fault_of t.kind) → r.at ≡ t.place → ClosedBy text p r
  closed-not q r f a c =
      faulted (λ z. faults text p.at t sees (sym f ∙ z)) (λ ns n l ls e.
      on_step text p.at t sees ns (operand_more (in_parens n l ls) e true) _
      (inner c ns n l ls e ∙ no _ _ _ (is-off text p.at t sees signs.RightParen q) ∙ either (is 0 (seen text t)) ∙ not-here text p.at t sees)
      ∙ ap₂ (λ (i j : ℕ). refused i (byte j)) (sym f) (sym a))
    where
      either : (b : Bool) → choose b (not_here (seen text t)) (not_here (seen text t)) ≡ not_here (seen text t)
      either true = yes _ _ _ refl
      either false = no _ _ _ refl

  pub closed-by : t.kind ≡ kind.Sign signs.RightParen → (r : ParsedTold) → r.fault ≡ 0 → r.at ≡ t.after → r.part ≡ p.part → r.free ≡ p.free → ClosedBy text p r
  closed-by q r f a s u c =
      fine f (record {
        part = s;
        free = u;
        past = subst (λ (n : ℕ). Past text p.at n) (sym a) (past text p.at t sees q tt);
        reads = λ ns n l ls e.
            on_step text p.at t sees ns (operand_more (in_parens n l ls) e true) _ (inner c ns n l ls e ∙ yes _ _ _ (is-on text p.at t sees signs.RightParen q))
            ∙ ap (λ (k : ℕ). read_from text k ns (operand_more (around n l ls) e false)) (sym a);
      })
