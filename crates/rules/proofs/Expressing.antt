-- Operands and whole expressions, which call each other on what a parenthesis holds. Assumes nothing.
use mathlib.Core.Path.{◌≡◌, refl, sym, ◌∙◌, ap, ap₂, subst}
use mathlib.Core.Bool.{Bool, true, false}
use mathlib.Core.List.{List}
use Prim.Native.Nat.{ℕ, ◌+◌, ◌-◌, ◌<◌, ◌≤◌}
use native.Mathlib.Omega.{arith}
use borrow.Author.Tests.{le-leb, lt-leb}
use lib.ListN.{length}
use Rattle.lexer.specs.Tokens.{token_at, rule_words}
use Rattle.meaning.specs.Expression.{Exp}
use Rattle.meaning.specs.Answers.{Answer, refused, byte}
use Rattle.meaning.specs.Reading.{Open, Level, new_level, on_level, whole, operand, operand_more, step, is}
use Rattle.meaning.specs.Names.{Names, Program}
use Rattle.lexer.specs.declared.Token.{Token as Seen}
use Rattle.lexer.specs.declared.Kind.TheVariants as kind
use Rattle.lexer.specs.declared.Sign.TheVariants as signs
use Rattle.rules.specs.declared.parts.Part.{Part}
use Rattle.rules.specs.Expressions.{ParsedTold, told_parsed}
use Rattle.rules.specs.declared.expression.Parsed.{Parsed}
use Rattle.std.specs.Prelude.{Result, Ok, Err}
use Rattle.rules.specs.declared.tokens.Misread.{Misread}
use Rattle.rules.specs.declared.expression.Turn.{Turn}
use Rattle.rules.proofs.Misreads as refusals
use Rattle.rules.specs.declared.expression.Depth.{Depth}
use Rattle.rules.specs.Expressions.{TurnTold, told_turn}
use Rattle.rules.specs.Seen.{seen, Sees}
use Rattle.rules.specs.Cells.{Cells}
use Rattle.rules.specs.Reads.{read_from, Unless, fine, faulted}
use Rattle.rules.specs.Conditions.{Extends, Spent}
use Rattle.rules.specs.Parts.{PartIs, OptionIs}
use Rattle.rules.specs.Tasks.{Gains, Fails}
use Rattle.rules.specs.Expressions.{Named, by_simple, AnyOpen, behind_one, Expresses, LevelIs, pending, Closes, TurnIs, goes, ends, stops, Turned, Behind, Outer, Within, Whole, Starring, Starred, in_parens, ClosesBy, Unclosed, ClosedBy, Operand}
use Rattle.rules.proofs.Stepping.{well, ill, wrong, right, yes, since, past, on_step, is-on}
use Rattle.rules.proofs.Put.{extends-refl, extends-then}
use Rattle.rules.proofs.Kept.{cells-kept}
use Rattle.rules.proofs.TaskLaws.{room-on, room_after, task-from}
use Rattle.std.specs.Prelude as code
use Rattle.rules.proofs.PartLaws.{present-none}
use Rattle.rules.proofs.Operating.{level-kept}

pub named-on : {text P : List ℕ} {pos next c h : ℕ} → Named text P pos c h → pos ≤ next → next ≤ length text → Named text P next c h
named-on g l m = record { room = room-on g.room l m; names = g.names }

-- ---- an operand

module _ (text P : List ℕ) (pos c h levels : ℕ) (t : Seen) (sees : Sees text pos t) (g : Named text P pos c h) where
  abbrev operands : Names → Open → Unit {0} → Answer Program
  operands ns o s = read_from text pos ns (operand o)

  pub operand-simple : (r : ParsedTold) (Q : List ℕ) → Expresses text P t.place c h AnyOpen (by_simple text t) r Q × (r.fault ≡ 0 → t.place < r.at) → Operand text P pos c h levels r Q
  operand-simple r Q (e, l) =
      let s = since text pos t sees g.room.inside in
      record {
        task = task-from text P pos c h (Unit {0}) Exp Open (λ s. Unit {0}) (PartIs Q r.free r.part) (Within levels) operands behind_one (by_simple text t) t.place r.fault r.at r.free Q s
            (λ ns k s b o w. on_step text pos t sees ns (operand o) _ refl) (record { long = e.long; outcome = narrow e.outcome });
        further = λ z. let u = l z in omega arith;
      }
    where
      narrow : Unless r.fault (Gains text P t.place c h (Unit {0}) Exp Open (λ s. Unit {0}) (PartIs Q r.free r.part) AnyOpen (by_simple text t) behind_one r.at r.free Q)
          (Fails text P c h (Unit {0}) Open (λ s. Unit {0}) AnyOpen (by_simple text t) r.fault r.at)
          → Unless r.fault (Gains text P t.place c h (Unit {0}) Exp Open (λ s. Unit {0}) (PartIs Q r.free r.part) (Within levels) (by_simple text t) behind_one r.at r.free Q)
          (Fails text P c h (Unit {0}) Open (λ s. Unit {0}) (Within levels) (by_simple text t) r.fault r.at)
      narrow (fine z a) = fine z (record { extends = a.extends; spent = a.spent; reads = λ ns k s b. let (e, p, on) = a.reads ns k s b in (e, p, λ o w. on o tt) })
      narrow (faulted n f) = faulted n (λ ns k s b o w. f ns k s b o tt)

  module _ (paren : t.kind ≡ kind.Sign signs.LeftParen) where
    -- one level too many
    pub operand-deep : levels ≡ 0 → (p : Part) → Operand text P pos c h levels (record { fault = 7; at = t.place; free = c; part = p }) P
    unfolding step seen
    operand-deep z p =
        record {
          task = record {
            long = refl;
            outcome = faulted (λ y. omega arith) (λ ns k s b o w.
                on_step text pos t sees ns (operand o) _
                (yes _ _ _ (is-on text pos t sees signs.LeftParen paren) ∙ wrong _ _ _ _ (le-leb 32 (length o.outer) (omega (arith, w.deep)))));
          };
          further = λ y. absurd (omega arith);
        }

    module _ (some : levels ≡ 0 → ⊥) where
      abbrev inner : Open → Open
      inner o = in_parens o.name o.level o.outer

      -- what the parenthesis holds is read
      opened : (ns : Names) (o : Open) → Within levels o → operands ns o tt ≡ read_from text t.after ns (operand (inner o))
      unfolding step
      opened ns o w =
          on_step text pos t sees ns (operand o) _
          (yes _ _ _ (is-on text pos t sees signs.LeftParen paren) ∙ right _ _ _ _ (lt-leb 32 (length o.outer) (omega (arith, w.deep))))

      deeper : (o : Open) → Within levels o → Outer (levels - 1) (inner o)
      deeper o w = record { level = refl; deep = omega (arith, w.deep) }

      pub inner-given : Named text P t.after c h
      inner-given = let p = past text pos t sees paren tt in named-on g (omega arith) p.1

      module _ (e : ParsedTold) (Q : List ℕ) (w : Whole text P t.after c h (levels - 1) e Q) where
        pub operand-fails : (e.fault ≡ 0 → ⊥) → Operand text P pos c h levels e Q
        operand-fails n =
            record {
              task = record { long = w.task.long; outcome = faulted n (λ ns k s b o v. opened ns o v ∙ ill w.task.outcome n ns k tt tt (inner o) (deeper o v)) };
              further = λ z. absurd (n z);
            }

        pub operand-closed : e.fault ≡ 0 → (r : ParsedTold) → ClosedBy text e r → Operand text P pos c h levels r Q
        operand-closed z r d = by (d (w.closes z))
          where
            by : Unless r.fault (ClosesBy text e r) (Unclosed text e.at r.fault r.at) → Operand text P pos c h levels r Q
            by (fine y b) =
                let a = well w.task.outcome z in
                let p = past text pos t sees paren tt in
                let u = a.spent in
                let l = b.past in
                record {
                  task = record {
                    long = w.task.long;
                    outcome = fine y (record {
                      extends = subst (λ (n : ℕ). Extends P c Q n) (sym b.free) a.extends;
                      spent = record { since = omega (arith, u.since); inside = l.1; few = omega (arith, u.few, b.free) };
                      reads = λ ns k s v.
                          let (x, q, on) = a.reads ns k tt tt in (
                            x,
                            subst (λ (n : ℕ). PartIs Q n r.part x) (sym b.free) (subst (λ (n : Part). PartIs Q e.free n x) (sym b.part) q),
                            λ o i.
                                opened ns o i ∙ on (inner o) (deeper o i) ∙ b.reads ns o.name o.level o.outer x,
                          );
                    });
                  };
                  further = λ v. omega (arith, u.since);
                }
            by (faulted n b) =
                let a = well w.task.outcome z in
                record {
                  task = record {
                    long = w.task.long;
                    outcome = faulted n (λ ns k s v o i.
                        let (x, q, on) = a.reads ns k tt tt in
                        opened ns o i ∙ on (inner o) (deeper o i) ∙ b ns o.name o.level o.outer x);
                  };
                  further = λ v. absurd (n v);
                }

-- ---- a whole expression

-- a refusal is the same whatever stands for what it has not
pub whole-again : (text P : List ℕ) (pos c h levels : ℕ) (r w : ParsedTold) (Q : List ℕ) → (r.fault ≡ 0 → ⊥) → Whole text P pos c h levels r Q → r.fault ≡ w.fault → r.at ≡ w.at
    → Whole text P pos c h levels w Q
whole-again text P pos c h levels r w Q n a e p =
    record {
      task = record {
        long = a.task.long;
        outcome = faulted (λ z. n (e ∙ z)) (λ ns k s b o g. ill a.task.outcome n ns k s b o g ∙ ap₂ (λ (i j : ℕ). refused i (byte j)) e p);
      };
      closes = λ z. absurd (n (e ∙ z));
      further = λ z. absurd (n (e ∙ z));
    }

-- operands and operators that are read so far
pub record Loop (text P : List ℕ) (start c h levels : ℕ) (Q : List ℕ) (l : Depth) (pos used : ℕ) : Type 0 where
  pub extends : Extends P c Q used
  pub spent : Spent text start c pos (used + pending l)
  pub reads : (ns : Names) → Cells text P c h ns.declared
      → (L : Level) × LevelIs Q used l L × ((o : Open) → Outer levels o → read_from text start ns (operand o) ≡ read_from text pos ns (operand (on_level o L)))

module _ (text P : List ℕ) (start c h levels : ℕ) (g : Named text P start c h) where
  pub loop-start : (l : Depth) → (l.alts ≡ code.None) × (l.seqs ≡ code.None) × (l.left ≡ code.None) → Loop text P start c h levels P l start c
  unfolding OptionIs
  loop-start l (a, b, d) =
      record {
        extends = extends-refl P c;
        spent = let x = present-none l.alts a in let y = present-none l.seqs b in let z = present-none l.left d in record { since = omega arith; inside = g.room.inside; few = omega arith };
        reads = λ ns k. (new_level, record { alts = rw a tt; seqs = rw b tt; left = rw d tt }, λ o w. ap (λ (v : Level). read_from text start ns (operand (on_level o v))) w.level);
      }

  module _ (Q : List ℕ) (l : Depth) (pos used : ℕ) (i : Loop text P start c h levels Q l pos used) where
    pub operand-given : Named text Q pos used h
    operand-given =
        let r = g.room in
        let x = i.extends in
        let s = i.spent in
        let (ns, k) = g.names in
        record {
          room = record { some = omega (arith, r.some, x.more); fits = omega (arith, r.fits, s.few, x.long); inside = s.inside; small = omega (arith, r.small, x.long) };
          names = (ns, cells-kept P c Q used x text h ns.declared k);
        }

    module _ (p : ParsedTold) (R : List ℕ) (a : Operand text Q pos used h levels p R) where
      pub whole-fails : (p.fault ≡ 0 → ⊥) → Whole text P start c h levels p R
      whole-fails n =
          record {
            task = record {
              long = a.task.long ∙ i.extends.long;
              outcome = faulted n (λ ns k s b o w.
                  let (L, m, on) = i.reads ns k in
                  on o w ∙ ill a.task.outcome n ns (cells-kept P c Q used i.extends text h ns.declared k) tt tt (on_level o L) (record { deep = w.deep }));
            };
            closes = λ z. absurd (n z);
            further = λ z. absurd (n z);
          }

      module _ (z : p.fault ≡ 0) where
        pub star-given : Starring text R p.at p.free p.part
        star-given =
            let d = well a.task.outcome z in
            let (ns, k) = operand-given.names in
            let (e, q, on) = d.reads ns k tt tt in
            record { room = room_after operand-given.room d.extends d.spent; part = (e, q) }

        module _ (s : Parsed) (T : List ℕ) (b : Starred text R p.at p.free p.part s T) where
          all : Extends P c T s.free
          all = let d = well a.task.outcome z in extends-then i.extends (extends-then d.extends b.extends)

          paid : Spent text start c s.at (s.free + pending l)
          paid =
              let d = well a.task.outcome z in
              let u = d.spent in
              let v = b.spent in
              let w = i.spent in
              record { since = omega (arith, w.since, u.since, v.since); inside = v.inside; few = omega (arith, w.few, u.few, v.few) }

          -- where the operand ends
          there : (ns : Names) → Cells text P c h ns.declared
              → (L : Level) × (e : Exp) × (f : Bool) × LevelIs T s.free l L × PartIs T s.free s.part e × (f ≡ false → is 3 (token_at rule_words text s.at) ≡ false)
              × ((o : Open) → Outer levels o → read_from text start ns (operand o) ≡ read_from text s.at ns (operand_more (on_level o L) e f))
          there ns k =
              let d = well a.task.outcome z in
              let (L, m, on) = i.reads ns k in
              let (e, q, off) = d.reads ns (cells-kept P c Q used i.extends text h ns.declared k) tt tt in
              let (x, f, y, w, go_on) = b.reads e q in (
                L,
                x,
                f,
                level-kept Q used T s.free (extends-then d.extends b.extends) l L m,
                y,
                w,
                λ o v.
                    on o v ∙ off (on_level o L) (record { deep = v.deep }) ∙ go_on ns (on_level o L),
              )

          pub turn-given : Behind text T s.at s.free l s.part
          turn-given =
              let r = g.room in
              let x = all in
              let u = paid in
              let (ns, k) = g.names in
              let (L, e, f, m, q, w, on) = there ns k in
              record {
                room = record { some = omega (arith, r.some, x.more); fits = omega (arith, r.fits, u.few, x.long); inside = u.inside; small = omega (arith, r.small, x.long) };
                level = (L, m);
                part = (e, q);
              }

          module _ (r : TurnTold) (U : List ℕ) (v : Turned text T s.at s.free s.part l r U) where
            pub loop-long : length U ≡ length P
            loop-long = v.long ∙ all.long

            pub loop-on : r.more ≡ true → Loop text P start c h levels U r.level r.parsed.at r.parsed.free × (pos < r.parsed.at) × (r.parsed.at ≤ length text)
            loop-on m = by v.turn
              where
                by : TurnIs text T s.at s.free s.part l r U → Loop text P start c h levels U r.level r.parsed.at r.parsed.free × (pos < r.parsed.at) × (r.parsed.at ≤ length text)
                by (goes y f d) =
                    let u = paid in
                    let o = a.further z in
                    let w = b.spent in (
                      record {
                        extends = extends-then all (v.extends f);
                        spent = record { since = omega (arith, u.since, d.further); inside = d.inside; few = omega (arith, u.few, d.few) };
                        reads = λ ns k.
                            let (L, e, q, x, j, n, on) = there ns k in
                            let (M, y, off) = d.reads L x e j q n in
                            (M, y, λ o w. on o w ∙ off ns o);
                      },
                      omega (arith, d.further, w.since),
                      d.inside,
                    )
                by (ends y f d) = absurd (let q : true ≡ false = sym m ∙ y in let n : ◌≡◌ {A = ℕ} 0 1 = cc in omega arith)
                by (stops y f d) = absurd (let q : true ≡ false = sym m ∙ y in let n : ◌≡◌ {A = ℕ} 0 1 = cc in omega arith)

            pub whole-ends : r.more ≡ false → Whole text P start c h levels r.parsed U
            whole-ends m = by v.turn
              where
                by : TurnIs text T s.at s.free s.part l r U → Whole text P start c h levels r.parsed U
                by (goes y f d) = absurd (let q : true ≡ false = sym y ∙ m in let n : ◌≡◌ {A = ℕ} 0 1 = cc in omega arith)
                by (ends y f d) =
                    let u = paid in
                    let o = a.further z in
                    let w = b.spent in
                    let k = i.spent in
                    record {
                      task = record {
                        long = loop-long;
                        outcome = fine f (record {
                          extends = extends-then all (v.extends f);
                          spent = record { since = omega (arith, u.since, d.here); inside = omega (arith, u.inside, d.here); few = omega (arith, u.few, d.few, d.here) };
                          reads = λ ns k u₁ u₂.
                              let (L, e, q, x, j, n, on) = there ns k in
                              let (pt, off) = d.reads L x e j q n in (
                                whole L e,
                                pt,
                                λ o w.
                                    on o w ∙ off ns o ∙ ap (λ (l : Level). read_from text s.at ns (operand_more (on_level o l) (whole L e) true)) (sym w.level) ∙ ap (λ (n : ℕ). read_from text n ns (operand_more o (whole L e) true)) (sym d.here),
                              );
                        });
                      };
                      closes = λ y. subst (Closes text) (sym d.here) d.closes;
                      further = λ y. omega (arith, w.since, d.here, k.since);
                    }
                by (stops y f d) =
                    record {
                      task = record {
                        long = loop-long;
                        outcome = faulted f (λ ns k s b o w. let (L, e, q, x, j, n, on) = there ns k in on o w ∙ d L x e j q n ns o);
                      };
                      closes = λ y. absurd (f y);
                      further = λ y. absurd (f y);
                    }

-- a turn by the value that was matched
pub turned-at : (text P : List ℕ) (pos c d : ℕ) (p : Part) (l m : Depth) (u v : Turn) (Q : List ℕ) → u ≡ v → Turned text P pos c p l (told_turn d m (Ok u)) Q
    → Turned text P pos c p l (told_turn d m (Ok v)) Q
turned-at text P pos c d p l m u v Q e a = subst (λ (w : Turn). Turned text P pos c p l (told_turn d m (Ok w)) Q) e a

-- a refusal is the same whatever stands for what it has not
pub operand-from : (text P : List ℕ) (pos c h levels d e : ℕ) (r : Result Parsed Misread) (Q : List ℕ) → Operand text P pos c h levels (told_parsed d r) Q
    → Operand text P pos c h levels (told_parsed e r) Q
operand-from text P pos c h levels d e (Ok p) Q a = a
operand-from text P pos c h levels d e (Err m) Q a =
    record { task = record { long = a.task.long; outcome = faulted (refusals.some m.why) (ill a.task.outcome (refusals.some m.why)) }; further = λ z. absurd (refusals.some m.why z) }
