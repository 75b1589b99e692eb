-- Every literal and every write of a program that reading gives lies within it: its wires are the text's, its stores are declared, a number that a wire is compared with
-- fits it, and other numbers fit a word. A letter has two store tests and two writes at most. What holds of all that is kept while a text is read.
-- Assumes nothing.
use mathlib.Core.Path.{◌≡◌, sym, subst}
use mathlib.Core.Bool.{Bool, true, false}
use mathlib.Core.List.{List, [], ◌∷◌, ◌++◌}
use mathlib.Core.Option.{Option, none, some}
use Prim.Native.Nat.{ℕ, ◌+◌, ◌^◌, ◌≤◌, ◌<◌}
use native.Mathlib.Nat.{le_refl, lt_of_lt_of_le, zero-add}
use native.Mathlib.Omega.{arith}
use lib.ListN.{length, length-append}
use lib.Pow.{pow_mono}
use borrow.Author.Tests.{ltb-false}
use Rattle.lexer.specs.Bytes.{Entry, same, lookup}
use Rattle.lexer.specs.Tokens as token
use Rattle.lexer.specs.Tokens.{Token}
use Rattle.meaning.specs.Expression.{Literal, wire, wire_store, wire_past, store, Write, from_wire, from_number, Exp, letter, seq, alt, star, pipe, store_tests, as_production}
use Rattle.meaning.specs.Answers.{value}
use Rattle.meaning.specs.Reading
use Rattle.meaning.specs.Reading.{Level, Open, Context, in_define, in_letter, Expect, statement, sign, keyword, nought, closing, input_name, input_more, input_high, store_name, store_more, store_high, store_first, define_name, limit_name, limit_most, limit_window, operand, literal, negated, wire_more, bit_index, wire_equals, store_equals, past_name, literal_more, write_store, write_value, write_more, operand_more, monitor_name, monitor_more, text_end, read, too_many, whole}
use Rattle.meaning.specs.Names.{Meaning, an_input, a_store, a_define, a_production, Names, Declaration, new_input, new_store, new_define, new_production, new_limit, declare, Program}
use Rattle.meaning.specs.Grammar.{Stands}
use Rattle.meaning.proofs.ListLaws.{clash}
use Rattle.meaning.proofs.Outcomes.{LiteralNext, more_literals, first_literal, BehindLiterals, literals, one_wire, BehindOperand, operands, letters, WriteNext, first_write, more_writes, BySign, expected, closed, narrow_input, wide_input, narrow_store, wide_store, opened, negation, index, compared, joined, defined, writing, written, starred, piped, followed, or_else, level_closed, produced, more_monitors, all_monitors, ByNumber, zero_read, input_width, store_width, first_value, index_of_bit, wire_value, store_value, number_written, most_of_limit, window_of_limit, ByName, limited, name_of_input, name_of_store, name_of_define, name_of_production, of_wire, of_store, of_define, by_production, of_negated, equal_store, store_written, wire_written, monitored, Next, by_sign, by_number, by_name, by_word, kept, same_wire, ByWord, expected_word, begins_limit, begins_input, begins_store, begins_define, begins_monitor, compared_past}

-- ---- lists

abbrev pub Each : {A : Type 0} → (A → Type 0) → List A → Type 0
Each P [] = Unit {0}
Each P (x ∷ xs) = P x × Each P xs

each_append : {A : Type 0} (P : A → Type 0) (xs ys : List A) → Each P xs → Each P ys → Each P (xs ++ ys)
each_append P [] ys p q = q
each_append P (x ∷ xs) ys (p, ps) q = (p, each_append P xs ys ps q)

-- one more
each_more : {A : Type 0} (P : A → Type 0) (xs : List A) (x : A) → Each P xs → P x → Each P (xs ++ (x ∷ []))
each_more P xs x p q = each_append P xs (x ∷ []) p (q, tt)

each_weaken : {A : Type 0} (P Q : A → Type 0) → ((x : A) → P x → Q x) → (xs : List A) → Each P xs → Each Q xs
each_weaken P Q f [] p = tt
each_weaken P Q f (x ∷ xs) (p, ps) = (f x p, each_weaken P Q f xs ps)

-- ---- what lies within n wires and k stores

abbrev pub Within : (n k : ℕ) → Literal → Type 0
Within n k (wire lo w v) = (v < 2 ^ w) × (lo + w ≤ n)
Within n k (wire_store lo w s) = (lo + w ≤ n) × (s < k)
Within n k (wire_past lo w) = lo + w ≤ n
Within n k (store s v) = (s < k) × (v < 2 ^ 64)

abbrev pub WriteWithin : (n k : ℕ) → Write → Type 0
WriteWithin n k (from_wire s lo w) = (s < k) × (lo + w ≤ n)
WriteWithin n k (from_number s v) = (s < k) × (v < 2 ^ 64)

-- a letter's literals and writes
pub record LetterWithin (n k : ℕ) (ls : List Literal) (ws : List Write) : Type 0 where
  pub literals : Each (Within n k) ls
  pub writes : Each (WriteWithin n k) ws
  pub few_tests : store_tests ls ≤ 2
  pub few_writes : length ws ≤ 2

abbrev pub ExpWithin : (n k : ℕ) → Exp → Type 0
ExpWithin n k (letter l) = LetterWithin n k l.literals l.writes
ExpWithin n k (seq e f) = ExpWithin n k e × ExpWithin n k f
ExpWithin n k (alt e f) = ExpWithin n k e × ExpWithin n k f
ExpWithin n k (star e) = ExpWithin n k e
ExpWithin n k (pipe e f) = ExpWithin n k e × ExpWithin n k f

abbrev MeaningWithin : (n k : ℕ) → Meaning → Type 0
MeaningWithin n k (an_input lo w) = lo + w ≤ n
MeaningWithin n k (a_store s w) = (s < k) × (w ≤ 64)
MeaningWithin n k (a_define ls) = Each (Within n k) ls
MeaningWithin n k (a_production e) = ExpWithin n k e

abbrev stores_of : Names → ℕ
stores_of ns = length ns.initial

record NamesWithin (ns : Names) : Type 0 where
  wires : ns.wires ≤ 64
  names : Each (λ e. MeaningWithin ns.wires (stores_of ns) e.meaning) ns.declared
  stores : stores_of ns ≤ 16
  values : Each (λ v. v < 2 ^ 64) ns.initial

-- ---- more wires and more stores

module _ (n k m l : ℕ) (more : n ≤ m) (stores : k ≤ l) where
  literal-more : (x : Literal) → Within n k x → Within m l x
  literal-more (wire lo w v) (g, h) = (g, omega arith)
  literal-more (wire_store lo w s) (g, h) = (omega arith, omega arith)
  literal-more (wire_past lo w) g = omega arith
  literal-more (store s v) (g, h) = (omega arith, h)

  write-more : (x : Write) → WriteWithin n k x → WriteWithin m l x
  write-more (from_wire s lo w) (g, h) = (omega arith, omega arith)
  write-more (from_number s v) (g, h) = (omega arith, h)

  exp-more : (e : Exp) → ExpWithin n k e → ExpWithin m l e
  exp-more (letter x) g =
      record {
        literals = each_weaken (Within n k) (Within m l) literal-more x.literals g.literals;
        writes = each_weaken (WriteWithin n k) (WriteWithin m l) write-more x.writes g.writes;
        few_tests = g.few_tests;
        few_writes = g.few_writes;
      }
  exp-more (seq e f) (g, h) = (exp-more e g, exp-more f h)
  exp-more (alt e f) (g, h) = (exp-more e g, exp-more f h)
  exp-more (star e) g = exp-more e g
  exp-more (pipe e f) (g, h) = (exp-more e g, exp-more f h)

  meaning-more : (x : Meaning) → MeaningWithin n k x → MeaningWithin m l x
  meaning-more (an_input lo w) g = omega arith
  meaning-more (a_store s w) (g, h) = (omega arith, h)
  meaning-more (a_define ls) g = each_weaken (Within n k) (Within m l) literal-more ls g
  meaning-more (a_production e) g = exp-more e g

  entries-more : (es : List (Entry Meaning)) → Each (λ e. MeaningWithin n k e.meaning) es → Each (λ e. MeaningWithin m l e.meaning) es
  entries-more es g = each_weaken (λ e. MeaningWithin n k e.meaning) (λ e. MeaningWithin m l e.meaning) (λ e h. meaning-more e.meaning h) es g

-- ---- what is kept while a text is read

abbrev MaybeWithin : (n k : ℕ) → Option Exp → Type 0
MaybeWithin n k none = Unit {0}
MaybeWithin n k (some e) = ExpWithin n k e

abbrev LevelWithin : (n k : ℕ) → Level → Type 0
LevelWithin n k l = MaybeWithin n k l.alts × MaybeWithin n k l.seqs × MaybeWithin n k l.left

abbrev OpenWithin : (n k : ℕ) → Open → Type 0
OpenWithin n k o = LevelWithin n k o.level × Each (LevelWithin n k) o.outer

abbrev ContextWithin : (n k : ℕ) → Context → Type 0
ContextWithin n k (in_define s) = Unit {0}
ContextWithin n k (in_letter o) = OpenWithin n k o

-- so many store tests more are few enough for a letter
abbrev Few : Context → List Literal → (more : ℕ) → Type 0
Few (in_define s) ls more = Unit {0}
Few (in_letter o) ls more = store_tests ls + more ≤ 2

-- literals, behind which so many store tests may come
abbrev LiteralsWithin : (n k : ℕ) → Context → List Literal → (more : ℕ) → Type 0
LiteralsWithin n k c ls more = ContextWithin n k c × Each (Within n k) ls × Few c ls more

abbrev DeclarationWithin : (n k : ℕ) → Declaration → Type 0
DeclarationWithin n k (new_input s width) = n + width ≤ 64
DeclarationWithin n k (new_store s width v) = (k < 16) × (width ≤ 64) × (v < 2 ^ 64)
DeclarationWithin n k (new_define s ls) = Each (Within n k) ls
DeclarationWithin n k (new_production s e) = ExpWithin n k e
DeclarationWithin n k (new_limit p m w) = Unit {0}

abbrev ExpectWithin : (n k : ℕ) → Expect → Type 0
ExpectWithin n k statement = Unit {0}
ExpectWithin n k (sign i x) = ExpectWithin n k x
ExpectWithin n k (keyword w x) = ExpectWithin n k x
ExpectWithin n k (nought x) = ExpectWithin n k x
ExpectWithin n k (closing d) = DeclarationWithin n k d
ExpectWithin n k input_name = Unit {0}
ExpectWithin n k (input_more s) = n + 1 ≤ 64
ExpectWithin n k (input_high s) = Unit {0}
ExpectWithin n k store_name = Unit {0}
ExpectWithin n k (store_more s) = k < 16
ExpectWithin n k (store_high s) = k < 16
ExpectWithin n k (store_first s w) = (k < 16) × (w ≤ 64)
ExpectWithin n k define_name = Unit {0}
ExpectWithin n k limit_name = Unit {0}
ExpectWithin n k (limit_most p) = Unit {0}
ExpectWithin n k (limit_window p m) = Unit {0}
ExpectWithin n k (operand o) = OpenWithin n k o
ExpectWithin n k (literal c ls) = LiteralsWithin n k c ls 0
ExpectWithin n k (negated c ls) = LiteralsWithin n k c ls 0
ExpectWithin n k (wire_more c ls s lo w v p) = LiteralsWithin n k c ls 0 × (lo + w ≤ n) × (v < 2)
ExpectWithin n k (bit_index c ls lo w v) = LiteralsWithin n k c ls 0 × (lo + w ≤ n) × (v < 2)
ExpectWithin n k (wire_equals c ls s lo w) = LiteralsWithin n k c ls 0 × (lo + w ≤ n)
ExpectWithin n k (past_name c ls s lo w) = LiteralsWithin n k c ls 0 × (lo + w ≤ n)
ExpectWithin n k (store_equals c ls s w) = LiteralsWithin n k c ls 1 × (s < k) × (w ≤ 64)
ExpectWithin n k (literal_more c ls) = LiteralsWithin n k c ls 0
ExpectWithin n k (write_store o ls ws) = OpenWithin n k o × LetterWithin n k ls ws
ExpectWithin n k (write_value o ls ws s w) = OpenWithin n k o × LetterWithin n k ls ws × (length ws < 2) × (s < k) × (w ≤ 64)
ExpectWithin n k (write_more o ls ws) = OpenWithin n k o × LetterWithin n k ls ws
ExpectWithin n k (operand_more o e b) = OpenWithin n k o × ExpWithin n k e
ExpectWithin n k (monitor_name ms) = Each (ExpWithin n k) ms
ExpectWithin n k (monitor_more ms) = Each (ExpWithin n k) ms
ExpectWithin n k (text_end ms) = Each (ExpWithin n k) ms

pub record ProgramWithin (p : Program) : Type 0 where
  pub wires : p.wires ≤ 64
  pub monitors : Each (ExpWithin p.wires (length p.initial)) p.monitors
  pub stores : length p.initial ≤ 16
  pub values : Each (λ v. v < 2 ^ 64) p.initial

-- what is found among names lies within
found : (n k : ℕ) (name : List ℕ) (es : List (Entry Meaning)) (m : Meaning) → Each (λ e. MeaningWithin n k e.meaning) es → lookup name es ≡ some m
    → MeaningWithin n k m
unfolding lookup
found n k name [] m g e = clash (cc)
found n k name (x ∷ es) m (g, gs) e = at (same name x.spelling) e (λ f. found n k name es m gs f)
  where
    at : (t : Bool) → (elim t as (λ b. Option Meaning) [ true ↦ some x.meaning | false ↦ lookup name es ]) ≡ some m
        → (lookup name es ≡ some m → MeaningWithin n k m) → MeaningWithin n k m
    at true f rest = let q : x.meaning ≡ m = cc in subst (MeaningWithin n k) q g
    at false f rest = rest f

-- a production's letters are those of its expression
production-within : (n k i : ℕ) (e : Exp) → ExpWithin n k e → ExpWithin n k (as_production i e)
unfolding as_production
production-within n k i (letter l) g = g
production-within n k i (seq e f) g = g
production-within n k i (alt e f) g = g
production-within n k i (star e) g = g
production-within n k i (pipe e f) g = g

declared-within : (d : Declaration) (ns : Names) → NamesWithin ns → DeclarationWithin ns.wires (stores_of ns) d → NamesWithin (declare d ns)
unfolding declare
declared-within (new_input s w) ns g h =
    record {
      wires = h;
      names = (le_refl (ns.wires + w), entries-more ns.wires (stores_of ns) (ns.wires + w) (stores_of ns) (omega arith) (le_refl _) ns.declared g.names);
      stores = g.stores;
      values = g.values;
    }
declared-within (new_store s w v) ns g (few, wide, fits) =
    let l : length (ns.initial ++ (v ∷ [])) ≡ stores_of ns + 1 = length-append ns.initial (v ∷ []) in
    record {
      wires = g.wires;
      names = (
        (omega (arith, l), wide),
        entries-more ns.wires (stores_of ns) ns.wires (length (ns.initial ++ (v ∷ []))) (le_refl _) (omega (arith, l)) ns.declared g.names,
      );
      stores = omega (arith, l);
      values = each_more (λ x. x < 2 ^ 64) ns.initial v g.values fits;
    }
declared-within (new_define s ls) ns g h = record { wires = g.wires; names = (h, g.names); stores = g.stores; values = g.values }
declared-within (new_production s e) ns g h = record { wires = g.wires; names = (production-within ns.wires (stores_of ns) (length ns.declared) e h, g.names); stores = g.stores; values = g.values }
declared-within (new_limit p m w) ns g h = record { wires = g.wires; names = g.names; stores = g.stores; values = g.values }

-- ---- literals

pub count-append : (ls ds : List Literal) → store_tests (ls ++ ds) ≡ store_tests ls + store_tests ds
unfolding store_tests
count-append [] ds = sym (zero-add _)
count-append (wire lo w v ∷ ls) ds = count-append ls ds
count-append (wire_store lo w s ∷ ls) ds = omega (arith, count-append ls ds)
count-append (wire_past lo w ∷ ls) ds = omega (arith, count-append ls ds)
count-append (store s v ∷ ls) ds = omega (arith, count-append ls ds)

few-if : (c : Context) (ls : List Literal) (more : ℕ) → too_many c ls more ≡ false → Few c ls more
few-if (in_define s) ls more e = tt
few-if (in_letter o) ls more e = ltb-false 2 (store_tests ls + more) e

few-append : (c : Context) (ls ds : List Literal) → Few c ls (store_tests ds) → Few c (ls ++ ds) 0
few-append (in_define s) ls ds h = tt
few-append (in_letter o) ls ds h = omega (arith, count-append ls ds)

literals-append : (n k : ℕ) (c : Context) (ls ds : List Literal) → LiteralsWithin n k c ls (store_tests ds) → Each (Within n k) ds → LiteralsWithin n k c (ls ++ ds) 0
literals-append n k c ls ds (g, h, few) q = (g, each_append (Within n k) ls ds h q, few-append c ls ds few)

fits_word : {w v : ℕ} → w ≤ 64 → v < 2 ^ w → v < 2 ^ 64
fits_word l h = lt_of_lt_of_le h (pow_mono {j = 64} l)

-- ---- expressions

join-within : (n k : ℕ) (op : Exp → Exp → Exp) → ((d e : Exp) → ExpWithin n k d → ExpWithin n k e → ExpWithin n k (op d e)) → (m : Option Exp) (e : Exp)
    → MaybeWithin n k m → ExpWithin n k e → ExpWithin n k (Reading.join op m e)
join-within n k op both none e p q = q
join-within n k op both (some d) e p q = both d e p q

module _ (n k : ℕ) (l : Level) (e : Exp) (g : LevelWithin n k l) (h : ExpWithin n k e) where
  piped-within : ExpWithin n k (Reading.piped l e)
  piped-within = join-within n k pipe (λ d f p q. (p, q)) l.left e g.2 h

  sequenced-within : ExpWithin n k (Reading.sequenced l e)
  sequenced-within = join-within n k seq (λ d f p q. (p, q)) l.seqs (Reading.piped l e) g.1 piped-within

  whole-within : ExpWithin n k (whole l e)
  whole-within = join-within n k alt (λ d f p q. (p, q)) l.alts (Reading.sequenced l e) g.0 sequenced-within

-- ---- one token

-- the names lie within, and so does what is expected
abbrev Kept : Names → Expect → Type 0
Kept ns x = NamesWithin ns × ExpectWithin ns.wires (stores_of ns) x

module _ (ns : Names) (names : NamesWithin ns) where
  stands : (d : Declaration) → DeclarationWithin ns.wires (stores_of ns) d → Kept (declare d ns) statement
  stands d h = (declared-within d ns names h, tt)

  -- a literal more
  literal-behind : (c : Context) (ls : List Literal) (x : Literal) → LiteralsWithin ns.wires (stores_of ns) c ls (store_tests (x ∷ [])) → Within ns.wires (stores_of ns) x → LiteralsWithin ns.wires (stores_of ns) c (ls ++ (x ∷ [])) 0
  literal-behind c ls x g h = literals-append ns.wires (stores_of ns) c ls (x ∷ []) g (h, tt)

  -- a write more
  write-behind : (ls : List Literal) (ws : List Write) (x : Write) → LetterWithin ns.wires (stores_of ns) ls ws → length ws < 2 → WriteWithin ns.wires (stores_of ns) x → LetterWithin ns.wires (stores_of ns) ls (ws ++ (x ∷ []))
  write-behind ls ws x h few g =
      record {
        literals = h.literals;
        writes = each_more (WriteWithin ns.wires (stores_of ns)) ws x h.writes g;
        few_tests = h.few_tests;
        few_writes = omega (arith, length-append ws (x ∷ []));
      }

  unwritten : (o : Open) (ls : List Literal) → LiteralsWithin ns.wires (stores_of ns) (in_letter o) ls 0 → LetterWithin ns.wires (stores_of ns) ls []
  unwritten o ls (g, l, few) = record { literals = l; writes = tt; few_tests = omega arith; few_writes = omega arith }

  literal-next : {x : Expect} {c : Context} {ls : List Literal} → LiteralNext x c ls → ExpectWithin ns.wires (stores_of ns) x → LiteralsWithin ns.wires (stores_of ns) c ls 0
  unfolding store_tests
  literal-next more_literals g = g
  literal-next first_literal g = (g, tt, omega arith)

  behind-literals : {x : Expect} {c : Context} {ls : List Literal} → BehindLiterals x c ls → ExpectWithin ns.wires (stores_of ns) x → LiteralsWithin ns.wires (stores_of ns) c ls 0
  unfolding store_tests
  behind-literals literals g = g
  behind-literals (one_wire {c} {ls} {lo} {v} e) (g, h, b) = literal-behind c ls (wire lo 1 v) g (b, omega arith)

  behind-operand : {x : Expect} {o : Open} {e : Exp} {b : Bool} → BehindOperand x o e b → ExpectWithin ns.wires (stores_of ns) x → OpenWithin ns.wires (stores_of ns) o × ExpWithin ns.wires (stores_of ns) e
  behind-operand operands g = g
  behind-operand (letters {o} {ls} d) g = let h = behind-literals d g in (h.0, unwritten o ls h)

  write-next : {x : Expect} {o : Open} {ls : List Literal} {ws : List Write} → WriteNext x o ls ws → ExpectWithin ns.wires (stores_of ns) x → OpenWithin ns.wires (stores_of ns) o × LetterWithin ns.wires (stores_of ns) ls ws
  write-next first_write g = g
  write-next more_writes g = g

  by-sign-within : {k : ℕ} {x y : Expect} {ms : Names} → BySign ns k x ms y → ExpectWithin ns.wires (stores_of ns) x → Kept ms y
  by-sign-within expected g = (names, g)
  by-sign-within (closed {d}) g = stands d g
  by-sign-within (narrow_input {s}) g = stands (new_input s 1) g
  by-sign-within wide_input g = (names, tt)
  by-sign-within narrow_store g = (names, (g, omega arith))
  by-sign-within wide_store g = (names, g)
  by-sign-within (opened few) g = (names, ((tt, tt, tt), g))
  by-sign-within (negation d) g = (names, literal-next d g)
  by-sign-within index g = (names, g)
  by-sign-within (compared e) (g, h, b) = (names, (g, h))
  by-sign-within (joined d) g = (names, behind-literals d g)
  by-sign-within (defined {s} {ls} d) g = stands (new_define s ls) (behind-literals d g).1
  by-sign-within (writing {o} {ls} d) g = let h = behind-literals d g in (names, (h.0, unwritten o ls h))
  by-sign-within written g = (names, g)
  by-sign-within (starred d e) g = (names, behind-operand d g)
  by-sign-within (piped d e) g = let ((h, hs), x) = behind-operand d g in (names, ((h.0, h.1, x), hs))
  by-sign-within (followed {o} {e} d) g = let ((h, hs), x) = behind-operand d g in (names, ((h.0, sequenced-within ns.wires (stores_of ns) o.level e h x, tt), hs))
  by-sign-within (or_else {o} {e} d) g = let ((h, hs), x) = behind-operand d g in (names, ((whole-within ns.wires (stores_of ns) o.level e h x, tt, tt), hs))
  by-sign-within (level_closed {o} {e} d p) g =
      let ((h, hs), x) = behind-operand d g in (names, (subst (Each (LevelWithin ns.wires (stores_of ns))) p hs, whole-within ns.wires (stores_of ns) o.level e h x))
  by-sign-within (produced {o} {e} d p) g =
      let ((h, hs), x) = behind-operand d g in stands (new_production o.name (whole o.level e)) (whole-within ns.wires (stores_of ns) o.level e h x)
  by-sign-within more_monitors g = (names, g)
  by-sign-within all_monitors g = (names, g)

  by-number-within : {v : ℕ} {x y : Expect} → ByNumber ns v x y → ExpectWithin ns.wires (stores_of ns) x → ExpectWithin ns.wires (stores_of ns) y
  unfolding store_tests
  by-number-within zero_read g = g
  by-number-within (input_width h f) g = f
  by-number-within (store_width h) g = (g, omega arith)
  by-number-within (first_value h) (g, l) = (g, l, fits_word l h)
  by-number-within (index_of_bit {c} {ls} {i} {lo} {v} h) (g, k, b) = literal-behind c ls (wire (lo + i) 1 v) g (b, omega arith)
  by-number-within (wire_value {c} {ls} {lo} {w} {v} h) (g, k) = literal-behind c ls (wire lo w v) g (h, k)
  by-number-within (store_value {c} {ls} {n} {v} h) (g, b, l) = literal-behind c ls (store n v) g (b, fits_word l h)
  by-number-within (most_of_limit h) g = tt
  by-number-within (window_of_limit h f) g = tt
  by-number-within (number_written {ls} {ws} {n} {v} h) (o, g, few, b, l) = (o, write-behind ls ws (from_number n v) g few (b, fits_word l h))

  module _ (s : List ℕ) where
    -- what a name stands for lies within
    stands-within : (m : Meaning) → Stands ns s m → MeaningWithin ns.wires (stores_of ns) m
    stands-within m e = found ns.wires (stores_of ns) s ns.declared m names.names e

    by_name-within : {place : ℕ} {x y : Expect} → ByName ns place s x y → ExpectWithin ns.wires (stores_of ns) x → ExpectWithin ns.wires (stores_of ns) y
    unfolding store_tests
    by_name-within (name_of_input f h) g = omega arith
    by_name-within (name_of_store f h) g = h
    by_name-within (name_of_define f) g = (tt, tt, tt)
    by_name-within (name_of_production f) g = ((tt, tt, tt), tt)
    by_name-within (of_wire {lo} {w} d e) g = (literal-next d g, stands-within (an_input lo w) e, omega arith)
    by_name-within (of_store {c} {ls} {n} {w} d e f) g =
        let (h, l, few) = literal-next d g in let (i, j) = stands-within (a_store n w) e in ((h, l, few-if c ls 1 f), i, j)
    by_name-within (of_define {c} {ls} {ds} d e f) g =
        let (h, l, few) = literal-next d g in literals-append ns.wires (stores_of ns) c ls ds (h, l, few-if c ls (store_tests ds) f) (stands-within (a_define ds) e)
    by_name-within (by_production {e} h) g = (g, stands-within (a_production e) h)
    by_name-within (of_negated {lo} {w} e) g = (g, stands-within (an_input lo w) e, omega arith)
    by_name-within (equal_store {c} {ls} {lo} {w} {n} e f) ((g, l, few), k) =
        literal-behind c ls (wire_store lo w n) (g, l, few-if c ls 1 f) (k, (stands-within (a_store n w) e).0)
    by_name-within (same_wire {c} {ls} {lo} {w}) (g, k) = literal-behind c ls (wire_past lo w) g k
    by_name-within (store_written {n} {w} d e h) g = let (o, l) = write-next d g in let (i, j) = stands-within (a_store n w) e in (o, l, h, i, j)
    by_name-within (wire_written {ls} {ws} {n} {lo} {m} e h) (o, g, few, b, l) =
        (o, write-behind ls ws (from_wire n lo m) g few (b, stands-within (an_input lo m) e))
    by_name-within (limited e h) g = tt
    by_name-within (monitored {ms} {e} h f) g = each_more (ExpWithin ns.wires (stores_of ns)) ms e g (stands-within (a_production e) h)

within_word : (n k : ℕ) {ns : Names} {w : token.Word} {x y : Expect} → ByWord ns w x y → ExpectWithin n k x → ExpectWithin n k y
within_word n k begins_input g = tt
within_word n k begins_store g = tt
within_word n k begins_define g = tt
within_word n k begins_monitor g = tt
within_word n k compared_past g = g
within_word n k expected_word g = g
within_word n k (begins_limit few) g = tt

next-within : {ns : Names} {place : ℕ} {u : Token} {x y : Expect} {ms : Names} → Next ns place u x ms y → Kept ns x → Kept ms y
next-within (by_sign n) (names, g) = by-sign-within _ names n g
next-within (by_number n) (names, g) = (names, by-number-within _ names n g)
next-within (by_name {s} n) (names, g) = (names, by_name-within _ names s n g)
next-within (by_word n) (names, g) = (names, within_word _ _ n g)

-- ---- the whole text

-- A program that reading gives lies within its wires and its stores.
pub read-within : (text : List ℕ) (p : Program) → read text ≡ value p → ProgramWithin p
read-within text p e =
    kept Kept ProgramWithin (λ ns ms place u x y n k. next-within n k) (λ ns ms (names, g). record { wires = names.wires; monitors = g; stores = names.stores; values = names.values })
    text p (record { wires = omega arith; names = tt; stores = omega arith; values = tt }, tt) e
