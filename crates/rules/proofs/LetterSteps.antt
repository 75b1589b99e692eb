-- Reading a letter: its literals, its writes, and its own words. Assumes nothing.
use mathlib.Core.Path.{◌≡◌, refl, sym, ◌∙◌, ap, ap₂}
use mathlib.Core.Bool.{Bool, true, false, not, ◌&&◌}
use mathlib.Core.Option.{Option, none, some}
use borrow.Author.Tests.{eq-eqb, ne_eqb, eqb-true, eqb-false}
use lib.Dec.{eqb}
use mathlib.Core.List.{List, []}
use Prim.Native.Nat.{ℕ, ◌+◌, ◌*◌, ◌<◌, ◌≤◌}
use native.Mathlib.Omega.{arith}
use lib.ListN.{length}
use Rattle.meaning.specs.Expression.{Literal, Exp, a_letter, store_tests}
use Rattle.lexer.specs.Bytes.{lookup}
use Rattle.masks.specs.Masks.{look, want, held}
use Rattle.meaning.specs.ShapeTests.{agree}
use Rattle.meaning.proofs.ListLaws.{no-∈}
use Rattle.meaning.specs.Answers.{Answer, refused, byte}
use Rattle.meaning.specs.Reading.{by_kind, known, no_exp, fault, literal_name, negated, operand, Open, in_letter, Step, go, step, is, choose, behind_literal, literal_more, write_store, operand_more}
use Rattle.meaning.specs.Names.{Meaning, an_input, a_store, a_define, a_production, Names, Program}
use Rattle.lexer.specs.declared.Token.{Token as Seen}
use Rattle.lexer.specs.declared.Kind.TheVariants as kind
use Rattle.lexer.specs.declared.Sign.TheVariants as signs
use Rattle.rules.specs.declared.literals.Condition.{Condition}
use Rattle.rules.specs.Expressions.{ParsedTold, told_parsed}
use Rattle.rules.specs.declared.expression.Parsed.{Parsed}
use Rattle.rules.specs.declared.tokens.Misread.{Misread}
use Rattle.std.specs.Prelude.{Result, Ok, Err}
use Rattle.rules.proofs.Misreads as refusals
use Rattle.rules.specs.declared.parts.Part.{Part}
use Rattle.rules.specs.Seen.{fault_of, seen, Sees}
use Rattle.rules.specs.Cells.{at, Links, tests_on, Means, ProductionAt, Cells, Declared, Found, Finds}
use Rattle.words.specs.Words.{part0}
use Rattle.rules.specs.Picks.{kind_number, bytes_of}
use Rattle.rules.specs.Reads.{read_from, Unless, fine, faulted}
use Rattle.rules.specs.Conditions.{LiteralsTold}
use Rattle.rules.specs.Conditions.{Extends, Room, ConditionIs, From, Given, Added, Refuses, Adds, AllAdded, behind, by_name}
use Rattle.rules.specs.Parts.{PartIs, LetterMade}
use Rattle.rules.specs.Tasks.{Fails, AllWritten}
use Rattle.rules.specs.Expressions.{Named, by_simple, Expresses, AnyOpen, LetterBegun, LetterGiven, behind_literals, LetterEnded, EndsLetter}
use Rattle.rules.proofs.Stepping.{well, ill, yes, no, faults, no_name, past, past-place, inside-text, on_step, is-on, is-off}
use Rattle.rules.proofs.Picking.{present, known-name, cell-kind}
use Rattle.rules.proofs.Put.{extends-refl, extends-then}
use Rattle.rules.proofs.Kept.{cells-kept, tests-kept, held_kept}
use Rattle.rules.proofs.TaskLaws.{room-on}
use Rattle.rules.proofs.WriteSteps.{none_yet}

pub condition-kept : (P : List ℕ) (c : ℕ) (Q : List ℕ) (d : ℕ) → Extends P c Q d → (q : Condition) (ls : List Literal) → ConditionIs P c q ls → ConditionIs Q d q ls
condition-kept P c Q d x q ls k = record { masks = k.masks; tests = tests-kept P c Q d x q.tests q.link ls k.tests; helds = held_kept P c Q d x q.held ls k.helds }

pub two-tests : (P : List ℕ) (c : ℕ) (q : Condition) (ls : List Literal) → ConditionIs P c q ls → q.tests ≤ 2 → store_tests ls ≤ 2
two-tests P c q ls k l = omega (arith, k.tests.count)

-- a refusal is the same whatever stands for what it has not
pub ends-from : (text P : List ℕ) (pos c h : ℕ) (q : Condition) (d e : ℕ) (r : Result Parsed Misread) (Q : List ℕ) → EndsLetter text P pos c h q (told_parsed d r) Q
    → EndsLetter text P pos c h q (told_parsed e r) Q
ends-from text P pos c h q d e (Ok p) Q a = a
ends-from text P pos c h q d e (Err m) Q a = record { long = a.long; outcome = faulted (refusals.some m.why) (ill a.outcome (refusals.some m.why)) }

module _ (text P : List ℕ) (pos c h : ℕ) (q : Condition) (t : Seen) (sees : Sees text pos t) (g : LetterGiven text P pos c h q) where
  not-and : is 4 (seen text t) ≡ false
  not-and = ap (is 4) sees.token ∙ g.last

  -- room for the letter's own words
  pub own_room : (c + 3 ≤ length P) × (length P ≤ 65535) × (1 ≤ c) × (q.link < c) × (0 < c) × (q.held < c)
  own_room = let r = g.room in let (ls, k) = g.condition in (omega (arith, r.fits, r.inside), r.small, g.some, k.tests.low, g.some, k.helds.low)

  pub letter-bare : (t.kind ≡ kind.Sign signs.LeftBrace → ⊥) → (Q : List ℕ) (r : ParsedTold) → r.fault ≡ 0 → r.at ≡ pos → LetterMade P c q 0 Q r.free r.part → EndsLetter text P pos c h q r Q
  unfolding step behind_literal
  letter-bare n Q r z e l =
      record {
        long = l.extends.long;
        outcome = fine z (record {
          extends = l.extends;
          spent = record { since = omega arith; inside = omega (arith, g.room.inside); few = omega (arith, l.few) };
          reads = λ ns k ls d. (
            a_letter ls [],
            l.part ls [] 0 d (two-tests P c q ls d g.few) (none_yet P c g.some),
            λ o.
                on_step text pos t sees ns (literal_more (in_letter o) ls) _ (no _ _ _ not-and ∙ no _ _ _ (is-off text pos t sees signs.LeftBrace n))
                ∙ sym (on_step text pos t sees ns (operand_more o (a_letter ls []) false) _ refl)
                ∙ ap (λ (k : ℕ). read_from text k ns (operand_more o (a_letter ls []) false)) (sym e),
          );
        });
      }

  module _ (b : t.kind ≡ kind.Sign signs.LeftBrace) where
    -- writes begin
    brace : (ns : Names) (o : Open) (ls : List Literal) → behind_literals text pos ns o ls ≡ read_from text t.after ns (write_store o ls [])
    unfolding step behind_literal
    brace ns o ls = on_step text pos t sees ns (literal_more (in_letter o) ls) _ (no _ _ _ not-and ∙ yes _ _ _ (is-on text pos t sees signs.LeftBrace b))

    pub writes-given : Room text P t.after c × ((ns : Names) × Cells text P c h ns.declared)
    writes-given = let r = g.room in let p = past text pos t sees b tt in (record { some = g.some; fits = omega (arith, r.fits); inside = p.1; small = r.small }, g.names)

    module _ (f next free m j : ℕ) (Q : List ℕ) (w : AllWritten text P t.after c h f next free m j Q) where
      pub letter-fails : (f ≡ 0 → ⊥) → (d : ℕ) → (p : Part) → EndsLetter text P pos c h q (record { fault = f; at = next; free = d; part = p }) Q
      letter-fails n d p =
          record { long = w.long; outcome = faulted n (λ ns k ls d o u. brace ns o ls ∙ ill w.outcome n ns k tt tt (record { within = o; literals = ls }) tt) }

      pub written-room : f ≡ 0 → (free + 3 ≤ length Q) × (length Q ≤ 65535) × (1 ≤ free) × (q.link < free) × (j < free) × (q.held < free)
      written-room z =
          let a = well w.outcome z in
          let r = g.room in
          let s = a.spent in
          let x = a.extends in
          let (ls, k) = g.condition in
          let (ns, y) = g.names in
          let (ws, v, on) = a.reads ns y tt tt in
          let p = past text pos t sees b tt in
          (omega (arith, r.fits, r.inside, s.few, s.inside, x.long), omega (arith, r.small, x.long), omega (arith, g.some, x.more), omega (arith, k.tests.low, x.more), v.low, omega (arith, k.helds.low, x.more))

      pub letter-written : f ≡ 0 → (R : List ℕ) (r : ParsedTold) → r.fault ≡ 0 → r.at ≡ next → LetterMade Q free q j R r.free r.part → EndsLetter text P pos c h q r R
      letter-written z R r y e l =
          let a = well w.outcome z in
          let s = a.spent in
          let p = past text pos t sees b tt in
          record {
            long = l.extends.long ∙ a.extends.long;
            outcome = fine y (record {
              extends = extends-then a.extends l.extends;
              spent = record { since = omega (arith, s.since); inside = omega (arith, s.inside); few = omega (arith, s.few, l.few) };
              reads = λ ns k ls d.
                  let (ws, v, on) = a.reads ns k tt tt in (
                    a_letter ls ws,
                    l.part ls ws m (condition-kept P c Q free a.extends q ls d) (two-tests P c q ls d g.few) v,
                    λ o.
                        brace ns o ls ∙ on (record { within = o; literals = ls }) tt ∙ ap (λ (k : ℕ). read_from text k ns (operand_more o (a_letter ls ws) false)) (sym e),
                  );
            });
          }

-- ---- the literals that follow

module _ (text P : List ℕ) (pos c h : ℕ) (q : Condition) (g : LetterBegun text P pos c h q) where
  abbrev mores : From
  mores ns x ls = read_from text pos ns (literal_more x ls)

  pub more_given : Given text P pos c h q
  more_given = let r = g.room in record { room = record { some = g.some; fits = omega (arith, r.fits); inside = r.inside; small = r.small }; names = g.names; condition = g.condition }

  module _ (m : LiteralsTold) (Q : List ℕ) (a : AllAdded text mores P pos c h q 2 m Q) where
    pub more-fails : (m.fault ≡ 0 → ⊥) → (d : ℕ) → (p : Part) → EndsLetter text P pos c h q (record { fault = m.fault; at = m.at; free = d; part = p }) Q
    more-fails n d p = record { long = a.adds.long; outcome = faulted n (λ ns k ls d o u. ill a.adds.outcome n ns k ls d (in_letter o) refl) }

    pub end-given : m.fault ≡ 0 → LetterGiven text Q m.at m.free h m.condition
    end-given z =
        let d = well a.adds.outcome z in
        let s = d.spent in
        let x = d.extends in
        let r = g.room in
        let (ns, k) = g.names in
        let (ls, e) = g.condition in
        let (ms, b, on) = d.reads ns k ls e in
        record {
          some = omega (arith, g.some, x.more);
          room = record { some = omega arith; fits = omega (arith, r.fits, s.few, x.long); inside = s.inside; small = omega (arith, r.small, x.long) };
          names = (ns, cells-kept P c Q m.free x text h ns.declared k);
          condition = (ms, b);
          few = d.few g.few;
          last = a.last z;
        }

    pub more-ended : m.fault ≡ 0 → (r : ParsedTold) (R : List ℕ) → EndsLetter text Q m.at m.free h m.condition r R → EndsLetter text P pos c h q r R
    more-ended z r R e = record { long = e.long ∙ a.adds.long; outcome = by e.outcome }
      where
        by : Unless r.fault (LetterEnded text Q m.at m.free h m.condition r R) (Fails text Q m.free h (List Literal) Open (ConditionIs Q m.free m.condition) AnyOpen (behind_literals text m.at) r.fault r.at)
            → Unless r.fault (LetterEnded text P pos c h q r R) (Fails text P c h (List Literal) Open (ConditionIs P c q) AnyOpen (behind_literals text pos) r.fault r.at)
        by (fine y b) =
            let d = well a.adds.outcome z in
            fine y (record {
              extends = extends-then d.extends b.extends;
              spent = let s = d.spent in let u = b.spent in record { since = omega (arith, s.since, u.since); inside = u.inside; few = omega (arith, s.few, u.few) };
              reads = λ ns k ls v.
                  let (ms, w, on) = d.reads ns k ls v in
                  let (x, p, off) = b.reads ns (cells-kept P c Q m.free d.extends text h ns.declared k) ms w in
                  (x, p, λ o. on (in_letter o) refl ∙ off o);
            })
        by (faulted n b) =
            let d = well a.adds.outcome z in
            faulted n (λ ns k ls v o u.
            let (ms, w, on) = d.reads ns k ls v in
            on (in_letter o) refl ∙ b ns (cells-kept P c Q m.free d.extends text h ns.declared k) ms w o u)

-- ---- no literals yet

pub none-asked : (P : List ℕ) (c : ℕ) → 1 ≤ c → ConditionIs P c (record { look = 0; want = 0; agrees = true; tests = 0; link = 0; held = 0 }) []
unfolding look want held agree store_tests tests_on Links
none-asked P c l =
    record {
      masks = record { looks = refl; wants = refl; agrees = refl; sized = λ x i. absurd (no-∈ i) };
      tests = record { count = refl; links = λ m. refl; low = l };
      helds = record { low = l; mask = refl };
    }

-- ---- an operand that is no parenthesis

pub production-of : (P : List ℕ) (c h : ℕ) (m : Meaning) → Means P c h m → kind_number m ≡ 3 → (e : Exp) × (m ≡ a_production e) × ProductionAt P c h e
unfolding Means
production-of P c h (an_input lo w) k e = absurd (omega arith)
production-of P c h (a_store n w) k e = absurd (omega arith)
production-of P c h (a_define ls) k e = absurd (omega arith)
production-of P c h (a_production x) k e = (x, refl, k)

-- the test for a production's cell
both_true : (cell kind : ℕ) → (not (eqb cell 0) && eqb kind 3) ≡ true → (cell ≡ 0 → ⊥) × (kind ≡ 3)
both_true cell kind e = by (eqb cell 0) (eqb kind 3) refl refl e
  where
    by : (a b : Bool) → eqb cell 0 ≡ a → eqb kind 3 ≡ b → (not a && b) ≡ true → (cell ≡ 0 → ⊥) × (kind ≡ 3)
    by false true p q r = (eqb-false cell 0 p, eqb-true kind 3 q)
    by false false p q r = absurd (let z : ◌≡◌ {A = ℕ} 0 1 = cc in omega arith)
    by true b p q r = absurd (let z : ◌≡◌ {A = ℕ} 0 1 = cc in omega arith)

never : (cell kind : ℕ) → 0 < cell → kind ≡ 3 → (not (eqb cell 0) && eqb kind 3) ≡ false → ⊥
never cell kind l k e =
    let a : eqb cell 0 ≡ false = ne_eqb cell 0 (λ (z : cell ≡ 0). omega arith) in
    let b : eqb kind 3 ≡ true = eq-eqb kind 3 k in
    let q : (not false && true) ≡ false = ap₂ (λ x y. not x && y) (sym a) (sym b) ∙ e in
    let z : ◌≡◌ {A = ℕ} 0 1 = cc in omega arith

module _ (text P : List ℕ) (pos c h : ℕ) (t : Seen) (sees : Sees text pos t) (g : Named text P t.place c h) (not-paren : t.kind ≡ kind.Sign signs.LeftParen → ⊥) where
  abbrev simples : Names → Open → Unit {0} → Answer Program
  simples = by_simple text t

  -- what stands there, past the test for a parenthesis
  on-simple : (ns : Names) (o : Open) → step ns (operand o) (seen text t)
      ≡ choose (is 5 (seen text t)) (go ns (negated (in_letter o) [])) (literal_name ns (in_letter o) [] (seen text t) (λ e. go ns (operand_more o e false)))
  unfolding step
  on-simple ns o = no _ _ _ (is-off text pos t sees signs.LeftParen not-paren)

  pub named-declared : Declared text P h
  named-declared = let r = g.room in let (ns, k) = g.names in (c, ns.declared, omega (arith, r.fits, r.inside), k)

  -- no literals yet, further on
  module _ (q : Condition) (none : (P : List ℕ) (c : ℕ) → 1 ≤ c → ConditionIs P c q []) (zero : q.tests ≡ 0) where
    pub first-given : (next : ℕ) → t.place ≤ next → next ≤ length text → Given text P next c h q
    first-given next l m = let r = g.room in record { room = room-on r l m; names = g.names; condition = ([], none P c r.some) }

    -- the first literal is read, from a token behind which three words a byte are left
    module _ (from : From) (first at : ℕ) (low : t.place ≤ at) (paid : t.place < first) (l : LiteralsTold) (Q : List ℕ) (a : Adds text from P at c h q 2 l Q)
        (frugal : l.fault ≡ 0 → l.free + 3 * first ≤ c + 3 * l.at)
        (same : (ns : Names) → Cells text P c h ns.declared → (o : Open) → simples ns o tt ≡ from ns (in_letter o) []) where
      pub begun : l.fault ≡ 0 → LetterBegun text Q l.at l.free h l.condition
      begun z =
          let d = well a.outcome z in
          let s = d.spent in
          let x = d.extends in
          let r = g.room in
          let (ns, k) = g.names in
          let (ms, b, on) = d.reads ns k [] (none P c r.some) in
          record {
            some = omega (arith, r.some, x.more);
            room = record { some = omega arith; fits = omega (arith, r.fits, frugal z, x.long); inside = s.inside; small = omega (arith, r.small, x.long) };
            names = (ns, cells-kept P c Q l.free x text h ns.declared k);
            condition = (ms, b);
            few = d.few (omega arith);
          }

      module _ (r : ParsedTold) (R : List ℕ) (long : length R ≡ length Q) (refusal : (l.fault ≡ 0 → ⊥) → (r.fault ≡ l.fault) × (r.at ≡ l.at))
          (ends : l.fault ≡ 0 → EndsLetter text Q l.at l.free h l.condition r R) where
        pub letter-read : Expresses text P t.place c h AnyOpen simples r R × (r.fault ≡ 0 → t.place < r.at)
        letter-read = by a.outcome
          where
            failing : (l.fault ≡ 0 → ⊥) → Refuses text from P c h q 2 l.fault l.at → Expresses text P t.place c h AnyOpen simples r R × (r.fault ≡ 0 → t.place < r.at)
            failing n f =
                let (e, p) = refusal n in (
                  record {
                    long = long ∙ a.long;
                    outcome = faulted (λ z. n (sym e ∙ z)) (λ ns k s b o u. same ns k o ∙ f ns k [] (none P c g.room.some) (in_letter o) refl ∙ ap₂ (λ (i j : ℕ). refused i (byte j)) (sym e) (sym p));
                  },
                  λ z. absurd (n (sym e ∙ z)),
                )

            going : (z : l.fault ≡ 0) → Added text from P at c h q 2 l Q
                → Unless r.fault (LetterEnded text Q l.at l.free h l.condition r R) (Fails text Q l.free h (List Literal) Open (ConditionIs Q l.free l.condition) AnyOpen (behind_literals text l.at) r.fault r.at)
                → Expresses text P t.place c h AnyOpen simples r R × (r.fault ≡ 0 → t.place < r.at)
            going z d (fine y b) =
                let s = d.spent in
                let u = b.spent in (
                  record {
                    long = long ∙ a.long;
                    outcome = fine y (record {
                      extends = extends-then d.extends b.extends;
                      spent = record { since = omega (arith, s.since, u.since); inside = u.inside; few = omega (arith, frugal z, u.few) };
                      reads = λ ns k v w.
                          let (ms, m, on) = d.reads ns k [] (none P c g.room.some) in
                          let (e, p, off) = b.reads ns (cells-kept P c Q l.free d.extends text h ns.declared k) ms m in
                          (e, p, λ o i. same ns k o ∙ on (in_letter o) refl ∙ off o);
                    });
                  },
                  λ j. omega (arith, frugal z, u.since, d.extends.more),
                )
            going z d (faulted n b) = (
              record {
                long = long ∙ a.long;
                outcome = faulted n (λ ns k v w o i.
                    let (ms, m, on) = d.reads ns k [] (none P c g.room.some) in
                    same ns k o ∙ on (in_letter o) refl ∙ b ns (cells-kept P c Q l.free d.extends text h ns.declared k) ms m o i);
              },
              λ j. absurd (n j),
            )

            by : Unless l.fault (Added text from P at c h q 2 l Q) (Refuses text from P c h q 2 l.fault l.at) → Expresses text P t.place c h AnyOpen simples r R × (r.fault ≡ 0 → t.place < r.at)
            by (fine z d) = going z d (ends z).outcome
            by (faulted n f) = failing n f

  -- behind `!`
  pub not_same : t.kind ≡ kind.Sign signs.Bang → (ns : Names) → Cells text P c h ns.declared → (o : Open) → simples ns o tt ≡ read_from text t.after ns (negated (in_letter o) [])
  not_same b ns k o = ap (behind text t) (on-simple ns o ∙ yes _ _ _ (is-on text pos t sees signs.Bang b))

  module _ (not-bang : t.kind ≡ kind.Sign signs.Bang → ⊥) where
    on-name : (ns : Names) (o : Open) → step ns (operand o) (seen text t) ≡ literal_name ns (in_letter o) [] (seen text t) (λ e. go ns (operand_more o e false))
    on-name ns o = on-simple ns o ∙ no _ _ _ (is-off text pos t sees signs.Bang not-bang)

    pub simple-fails : (t.kind ≡ kind.Name → ⊥) → (p : Part) → Expresses text P t.place c h AnyOpen simples (record { fault = (fault_of t.kind); at = t.place; free = c; part = p }) P × ((fault_of t.kind) ≡ 0 → t.place < t.place)
    unfolding literal_name known
    simple-fails n p =
        (record { long = refl; outcome = faulted (faults text pos t sees) (λ ns k s b o u. ap (behind text t) (on-name ns o ∙ no_name text pos t sees n _)) }, λ z. absurd (faults text pos t sees z))

    module _ (name : t.kind ≡ kind.Name) (cell : ℕ) (f : Finds text P h (bytes_of text t) cell) where
      -- what the name means
      abbrev Meant : Names → Type 0
      Meant ns = (m : Meaning) × (lookup (bytes_of text t) ns.declared ≡ some m) × Means P c cell m

      meant : (cell ≡ 0 → ⊥) → (ns : Names) → Cells text P c h ns.declared → Meant ns
      meant n ns k = present P c cell _ (f c ns.declared k) n

      pub found-low : cell < length P
      found-low = let r = g.room in let (ns, k) = g.names in by (lookup (bytes_of text t) ns.declared) (f c ns.declared k)
        where
          by : (o : Option Meaning) → Found P c cell o → cell < length P
          by none e = let r = g.room in omega (arith, r.some, r.fits, r.inside)
          by (some m) (p, u, y) = let r = g.room in omega (arith, r.fits, r.inside)

      -- a production
      pub production-at : (b : Bool) → b ≡ (not (eqb cell 0) && eqb (part0 (at P cell)) 3) → b ≡ true → (d : ℕ) × (e : Exp) × (d ≤ length P) × ProductionAt P d cell e
      production-at b is yes =
          let (ns, k) = g.names in
          let (n, q) = both_true cell (part0 (at P cell)) (sym is ∙ yes) in
          let (m, l, y) = meant n ns k in
          let (e, eq, p) = production-of P c cell m y (sym (cell-kind P c cell m y) ∙ q) in
          (c, e, (let r = g.room in omega (arith, r.fits, r.inside)), p)

      pub simple-production : (b : Bool) → b ≡ (not (eqb cell 0) && eqb (part0 (at P cell)) 3) → b ≡ true → (p : Part) → ((d : ℕ) (e : Exp) → ProductionAt P d cell e → PartIs P d p e)
          → Expresses text P t.place c h AnyOpen simples (record { fault = 0; at = t.after; free = c; part = p }) P × (◌≡◌ {A = ℕ} 0 0 → t.place < t.after)
      unfolding literal_name by_kind
      simple-production b is yes p isp = (
        record {
          long = refl;
          outcome = fine refl (record {
            extends = extends-refl P c;
            spent = let l = past-place text pos t sees name in record { since = omega arith; inside = (inside-text text pos t sees).1; few = omega arith };
            reads = λ ns k s w.
                let (n, q) = both_true cell (part0 (at P cell)) (sym is ∙ yes) in
                let (m, l, y) = meant n ns k in
                let (e, eq, pr) = production-of P c cell m y (sym (cell-kind P c cell m y) ∙ q) in
                (e, isp c e pr, λ o i. ap (behind text t) (on-name ns o ∙ known-name text pos t sees name ns (some (a_production e)) (l ∙ ap some eq) _ _ _ _));
          });
        },
        λ z. past-place text pos t sees name,
      )

      -- no production: the name is judged as a literal's
      pub name-same : (b : Bool) → b ≡ (not (eqb cell 0) && eqb (part0 (at P cell)) 3) → b ≡ false → (ns : Names) → Cells text P c h ns.declared → (o : Open) → simples ns o tt ≡ by_name text t ns (in_letter o) []
      unfolding literal_name by_kind
      name-same b is no ns k o = ap (behind text t) (on-name ns o ∙ by (lookup (bytes_of text t) ns.declared) refl (f c ns.declared k))
        where
          alike : (x : Option Meaning) → lookup (bytes_of text t) ns.declared ≡ x → ((i s : ℕ → ℕ → Step) (d : List Literal → Step) (p : Exp → Step) → by_kind x i s d p (fault 4 t.place) ≡ by_kind x i s d (no_exp (seen text t)) (fault 4 t.place))
              → literal_name ns (in_letter o) [] (seen text t) (λ e. go ns (operand_more o e false)) ≡ literal_name ns (in_letter o) [] (seen text t) (no_exp (seen text t))
          alike x l w = known-name text pos t sees name ns x l _ _ _ _ ∙ w _ _ _ _ ∙ sym (known-name text pos t sees name ns x l _ _ _ _)

          by : (x : Option Meaning) → lookup (bytes_of text t) ns.declared ≡ x → Found P c cell x
              → literal_name ns (in_letter o) [] (seen text t) (λ e. go ns (operand_more o e false)) ≡ literal_name ns (in_letter o) [] (seen text t) (no_exp (seen text t))
          by none l e = alike none l (λ i s d p. refl)
          by (some (an_input lo w)) l e = alike (some (an_input lo w)) l (λ i s d p. refl)
          by (some (a_store a w)) l e = alike (some (a_store a w)) l (λ i s d p. refl)
          by (some (a_define ls)) l e = alike (some (a_define ls)) l (λ i s d p. refl)
          by (some (a_production x)) l (p, u, y) = absurd (never cell (part0 (at P cell)) p (cell-kind P c cell (a_production x) y) (sym is ∙ no))
