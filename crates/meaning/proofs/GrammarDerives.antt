-- What is read is derived by the grammar: for each thing that reading may expect, what the tokens before it are, as far as they go. Assumes nothing.
use mathlib.Core.Path.{◌≡◌, refl, sym, subst}
use mathlib.Core.Bool.{Bool, false}
use mathlib.Core.List.{List, [], ◌∷◌, ◌++◌}
use mathlib.Core.Option.{none, some}
use Prim.Native.Nat.{ℕ, suc, ◌+◌, ◌-◌, ◌≤◌, ◌<◌}
use native.Mathlib.Omega.{arith}
use lib.ListN.{length, length-append}
use borrow.Author.Tests.{ltb-false}
use Rattle.lexer.specs.Tokens as token
use Rattle.lexer.specs.Tokens.{Token, Placed}
use Rattle.meaning.specs.Names.{new_input, new_production, an_input, a_store, a_production, Names, no_names, declare, Program, program_of}
use Rattle.meaning.specs.Expression.{Literal, wire, wire_store, wire_past, store, Write, from_wire, from_number, Exp, seq, alt, pipe, store_tests, single}
use Rattle.meaning.specs.Answers.{Answer, value}
use Rattle.lexer.specs.Signs
use Rattle.meaning.specs.Reading
use Rattle.meaning.specs.Reading.{Level, new_level, Open, Context, in_define, in_letter, Expect, statement, sign, keyword, nought, closing, input_name, input_more, input_high, store_name, store_more, store_high, store_first, define_name, limit_name, limit_most, limit_window, operand, literal, negated, wire_more, bit_index, wire_equals, store_equals, past_name, literal_more, write_store, write_value, write_more, operand_more, monitor_name, monitor_more, text_end, Step, and_then, read_on, too_many, join, whole}
use Rattle.meaning.specs.Grammar
use Rattle.meaning.specs.Grammar.{Stands, Free, IsBit, IsLiteral, IsLiterals, IsWrite, IsWrites, IsAtom, IsStarred, IsPiped, IsSequence, IsAlternative, IsWidth, IsMonitors, IsText, plain_tokens}
use Rattle.meaning.proofs.ListLaws.{clash}
use Rattle.meaning.proofs.Outcomes.{LiteralNext, more_literals, first_literal, BehindLiterals, literals, one_wire, BehindOperand, operands, letters, WriteNext, first_write, more_writes, BySign, expected, closed, narrow_input, wide_input, narrow_store, wide_store, opened, negation, index, compared, joined, defined, writing, written, starred, piped, followed, or_else, level_closed, produced, more_monitors, all_monitors, ByNumber, zero_read, input_width, store_width, first_value, most_of_limit, window_of_limit, index_of_bit, wire_value, store_value, number_written, ByName, name_of_input, name_of_store, name_of_define, name_of_production, limited, of_wire, of_store, of_define, by_production, of_negated, equal_store, store_written, wire_written, monitored, same_wire, ByWord, expected_word, begins_input, begins_store, begins_define, begins_limit, begins_monitor, compared_past, Next, by_sign, by_number, by_name, by_word, Outcome, refusal, late, ended, goes, outcome}
use Rattle.meaning.proofs.Within.{count-append}
use Rattle.meaning.proofs.GrammarReads.{Fits}

-- ---- one level of parentheses

-- The tokens ts are the next operand of the level l, which begins at `start`; its last sequence and the last term of that begin at `sequence` and `term`.
pub record LevelAt (ns : Names) (n : ℕ) (l : Level) (ts : List Token) : Type 0 where
  start : List Token
  sequence : List Token
  term : List Token
  in_alternative : (e : Exp) (us : List Token) → IsSequence ns n sequence us e → IsAlternative ns n start us (join alt l.alts e)
  in_sequence : (e : Exp) (us : List Token) → IsPiped ns n term us e → IsSequence ns n sequence us (join seq l.seqs e)
  in_term : (e : Exp) (us : List Token) → IsStarred ns n ts us e → IsPiped ns n term us (join pipe l.left e)
  first_term : l.left ≡ none → term ≡ ts

module _ {ns : Names} {n : ℕ} where
  new-level : (ts : List Token) → LevelAt ns n new_level ts
  new-level ts =
      record { start = ts; sequence = ts; term = ts; in_alternative = λ e us x. Grammar.one_way x; in_sequence = λ e us x. Grammar.one-term x; in_term = λ e us x. Grammar.unpiped x; first_term = λ e. refl }

  module _ {l : Level} {ts : List Token} (v : LevelAt ns n l ts) {e : Exp} where
    sequence-at : {us : List Token} → IsStarred ns n ts us e → IsSequence ns n v.sequence us (Reading.sequenced l e)
    sequence-at {us} x = v.in_sequence _ us (v.in_term e us x)

    whole-at : {us : List Token} → IsStarred ns n ts us e → IsAlternative ns n v.start us (whole l e)
    whole-at {us} x = v.in_alternative _ us (sequence-at x)

    at_level : {us : List Token} → l.left ≡ none → IsStarred ns n ts (token.sign Signs.at_sign ∷ us) e → LevelAt ns n (Reading.behind_at l e) us
    at_level {us} h x =
        let y : IsStarred ns n v.term (token.sign Signs.at_sign ∷ us) e = rw (v.first_term h) x in
        record { start = v.start; sequence = v.sequence; term = v.term; in_alternative = v.in_alternative; in_sequence = v.in_sequence; in_term = λ f ws z. Grammar.piped y z; first_term = λ k. clash (cc) }

    comma-level : {us : List Token} → IsStarred ns n ts (token.sign Signs.comma ∷ us) e → LevelAt ns n (Reading.behind_comma l e) us
    comma-level {us} x =
        record { start = v.start; sequence = v.sequence; term = us; in_alternative = v.in_alternative; in_sequence = λ f ws z. Grammar.followed (sequence-at x) z; in_term = λ f ws z. Grammar.unpiped z; first_term = λ k. refl }

    bars-level : {us : List Token} → IsStarred ns n ts (token.sign Signs.double_bar ∷ us) e → LevelAt ns n (Reading.behind_bars l e) us
    bars-level {us} x =
        record { start = v.start; sequence = us; term = us; in_alternative = λ f ws z. Grammar.either (whole-at x) z; in_sequence = λ f ws z. Grammar.one-term z; in_term = λ f ws z. Grammar.unpiped z; first_term = λ k. refl }

-- ---- the limit of store tests

fits_after : (c : Context) (ls ks : List Literal) → too_many c ls (store_tests ks) ≡ false → Fits c (ls ++ ks)
fits_after (in_define s) ls ks e = tt
fits_after (in_letter o) ls ks e = omega (arith, count-append ls ks, ltb-false 2 (store_tests ls + store_tests ks) e)

fits-untested : (c : Context) (ls : List Literal) (l : Literal) → store_tests (l ∷ []) ≡ 0 → Fits c ls → Fits c (ls ++ (l ∷ []))
fits-untested (in_define s) ls l e h = tt
fits-untested (in_letter o) ls l e h = omega (arith, count-append ls (l ∷ []))

fits-none : (c : Context) → Fits c []
unfolding store_tests
fits-none (in_define s) = tt
fits-none (in_letter o) = omega arith

-- ---- what has been read of the tokens T

module _ (T : List Token) where
  -- what the tokens ts are as a text, T is
  abbrev From : Names → List Token → Type 0
  From ns ts = (p : Program) → IsText ns ts p → IsText no_names T p

  -- the levels around an expression that begins with ts
  abbrev Around : Names → List ℕ → List Level → List Token → Type 0
  Around ns s [] ts = Free ns s × From ns (token.name s ∷ token.sign Signs.right_arrow ∷ ts)
  Around ns s (l ∷ ls) ts = (length ls < 32) × ((v : LevelAt ns (32 - length ls) l (token.sign Signs.left_paren ∷ ts)) × Around ns s ls v.start)

  -- ts are the next operand of the open expression
  abbrev OperandAt : Names → Open → List Token → Type 0
  OperandAt ns o ts = (v : LevelAt ns (32 - length o.outer) o.level ts) × Around ns o.name o.outer v.start

  -- ts are the literals of the context
  abbrev InContext : Names → Context → List Token → Type 0
  InContext ns (in_define s) ts = Free ns s × From ns (token.word token.define ∷ token.name s ∷ token.sign Signs.equals ∷ ts)
  InContext ns (in_letter o) ts = OperandAt ns o ts

  -- us stands behind the literals ls
  abbrev LiteralsAt : Names → Context → List Literal → List Token → Type 0
  LiteralsAt ns c ls us = (ts : List Token) × InContext ns c ts × IsLiterals ns ts us ls × Fits c ls

  -- ts are the next literal behind ls
  abbrev LiteralAt : Names → Context → List Literal → List Token → Type 0
  LiteralAt ns c ls ts = Fits c ls × ((ks : List Literal) (us : List Token) → IsLiteral ns ts us ks → Fits c (ls ++ ks) → LiteralsAt ns c (ls ++ ks) us)

  -- ts are the next bit, that is to be v
  abbrev BitAt : Names → Context → List Literal → ℕ → List Token → Type 0
  BitAt ns c ls v ts = (i : ℕ) (us : List Token) → IsBit ns ts us i → LiteralsAt ns c (ls ++ (wire i 1 v ∷ [])) us

  -- us stands behind the writes ws
  abbrev WritesAt : Names → Open → List Literal → List Write → List Token → Type 0
  WritesAt ns o ls ws us =
      (ts vs : List Token) × OperandAt ns o ts × IsLiterals ns ts (token.sign Signs.left_brace ∷ vs) ls × (store_tests ls ≤ 2) × IsWrites ns vs us ws × (length ws ≤ 2)

  -- ts are the next write
  abbrev WriteAt : Names → Open → List Literal → List Write → List Token → Type 0
  WriteAt ns o ls ws ts = (w : Write) (us : List Token) → IsWrite ns ts us w → length ws < 2 → WritesAt ns o ls (ws ++ (w ∷ [])) us

  -- ts stands behind `limit N to`, where N is the production with the number k, a single letter
  abbrev LimitAt : Names → ℕ → List Token → Type 0
  LimitAt ns k ts =
      (s : List ℕ) × (e : Exp) × (length ns.limits < 8) × Stands ns s (a_production e) × (single e ≡ some k)
      × From ns (token.word token.limit ∷ token.name s ∷ token.word token.to ∷ ts)

  -- the tokens before ts are what makes reading expect x
  abbrev pub Derived : Names → Expect → List Token → Type 0
  Derived ns statement ts = From ns ts
  Derived ns (sign k x) ts = (us : List Token) → ts ≡ token.sign k ∷ us → Derived ns x us
  Derived ns (keyword w x) ts = (us : List Token) → ts ≡ token.word w ∷ us → Derived ns x us
  Derived ns (nought x) ts = (us : List Token) → ts ≡ token.number 0 ∷ us → Derived ns x us
  Derived ns (closing d) ts = (us : List Token) → ts ≡ token.sign Signs.semicolon ∷ us → From (declare d ns) us
  Derived ns input_name ts = From ns (token.word token.input ∷ ts)
  Derived ns (input_more s) ts = Free ns s × (ns.wires < 64) × From ns (token.word token.input ∷ token.name s ∷ ts)
  Derived ns (input_high s) ts = Free ns s × From ns (token.word token.input ∷ token.name s ∷ token.sign Signs.left_bracket ∷ ts)
  Derived ns store_name ts = From ns (token.word token.internal ∷ ts)
  Derived ns (store_more s) ts = Free ns s × (length ns.initial < 16) × From ns (token.word token.internal ∷ token.name s ∷ ts)
  Derived ns (store_high s) ts =
      Free ns s × (length ns.initial < 16) × From ns (token.word token.internal ∷ token.name s ∷ token.sign Signs.left_bracket ∷ ts)
  Derived ns (store_first s w) ts =
      (vs : List Token) × Free ns s × (length ns.initial < 16) × From ns (token.word token.internal ∷ token.name s ∷ vs) × IsWidth vs (token.sign Signs.equals ∷ ts) w
  Derived ns define_name ts = From ns (token.word token.define ∷ ts)
  Derived ns limit_name ts = (length ns.limits < 8) × From ns (token.word token.limit ∷ ts)
  Derived ns (limit_most k) ts = LimitAt ns k ts
  Derived ns (limit_window k n) ts = (n ≤ 1023) × LimitAt ns k (token.number n ∷ token.word token.inside ∷ ts)
  Derived ns (operand o) ts = OperandAt ns o ts
  Derived ns (literal c ls) ts = LiteralAt ns c ls ts
  Derived ns (negated c ls) ts = BitAt ns c ls 0 ts
  Derived ns (wire_more c ls s lo w v n) ts =
      Stands ns s (an_input lo w) × BitAt ns c ls v (token.name s ∷ ts) × (v ≡ 1 → LiteralAt ns c ls (token.name s ∷ ts))
  Derived ns (bit_index c ls lo w v) ts = (s : List ℕ) × Stands ns s (an_input lo w) × BitAt ns c ls v (token.name s ∷ token.sign Signs.left_bracket ∷ ts)
  Derived ns (wire_equals c ls s lo w) ts = Stands ns s (an_input lo w) × LiteralAt ns c ls (token.name s ∷ token.sign Signs.double_equals ∷ ts)
  Derived ns (store_equals c ls n w) ts =
      (s : List ℕ) × Stands ns s (a_store n w) × (too_many c ls 1 ≡ false) × LiteralAt ns c ls (token.name s ∷ token.sign Signs.double_equals ∷ ts)
  Derived ns (past_name c ls s lo w) ts =
      Stands ns s (an_input lo w) × LiteralAt ns c ls (token.name s ∷ token.sign Signs.double_equals ∷ token.word token.past ∷ token.sign Signs.left_paren ∷ ts)
  Derived ns (literal_more c ls) ts = LiteralsAt ns c ls ts
  Derived ns (write_store o ls ws) ts = WriteAt ns o ls ws ts
  Derived ns (write_value o ls ws n w) ts =
      (s : List ℕ) × Stands ns s (a_store n w) × (length ws < 2) × WriteAt ns o ls ws (token.name s ∷ token.sign Signs.left_arrow ∷ ts)
  Derived ns (write_more o ls ws) ts = WritesAt ns o ls ws ts
  Derived ns (operand_more o e b) us =
      (ts : List Token) × OperandAt ns o ts × (b ≡ false → IsAtom ns (32 - length o.outer) ts us e) × IsStarred ns (32 - length o.outer) ts us e
  Derived ns (monitor_name ms) ts =
      (vs : List Token) × From ns (token.word token.monitor ∷ vs)
      × ((s : List ℕ) (e : Exp) (us : List Token) → ts ≡ token.name s ∷ us → Stands ns s (a_production e) → IsMonitors ns vs us (ms ++ (e ∷ [])))
  Derived ns (monitor_more ms) ts = (vs : List Token) × From ns (token.word token.monitor ∷ vs) × IsMonitors ns vs ts ms × (length ms ≤ 32)
  Derived ns (text_end ms) ts =
      (vs : List Token) × From ns (token.word token.monitor ∷ vs) × IsMonitors ns vs (token.sign Signs.semicolon ∷ ts) ms × (length ms ≤ 32)

  -- ---- one token, where us stands behind it

  module _ (ns : Names) (us : List Token) where
    next-literal : (c : Context) (ls : List Literal) → LiteralsAt ns c ls (token.sign Signs.ampersand ∷ us) → LiteralAt ns c ls us
    next-literal c ls (ts, at, x, h) = (h, λ ks ws y g. (ts, at, Grammar.and_literal x y, g))

    bits : (c : Context) (ls : List Literal) (ts : List Token) → LiteralAt ns c ls ts → BitAt ns c ls 1 ts
    unfolding store_tests
    bits c ls ts (h, f) i ws x = f (wire i 1 1 ∷ []) ws (Grammar.set_bit x) (fits-untested c ls (wire i 1 1) refl h)

    clear-bits : (c : Context) (ls : List Literal) → LiteralAt ns c ls (token.sign Signs.bang ∷ us) → BitAt ns c ls 0 us
    unfolding store_tests
    clear-bits c ls (h, f) i ws x = f (wire i 1 0 ∷ []) ws (Grammar.clear_bit x) (fits-untested c ls (wire i 1 0) refl h)

    begin-literals : (c : Context) (ts : List Token) → InContext ns c ts → LiteralAt ns c [] ts
    begin-literals c ts at = (fits-none c, λ ks ws x h. (ts, at, Grammar.one_literal x, h))

    literal-at : {x : Expect} {c : Context} {ls : List Literal} → LiteralNext x c ls → (ts : List Token) → Derived ns x ts → LiteralAt ns c ls ts
    literal-at more_literals ts d = d
    literal-at (first_literal {o}) ts d = begin-literals (in_letter o) ts d

    literals-at : {x : Expect} {c : Context} {ls : List Literal} → BehindLiterals x c ls → (ts : List Token) → Derived ns x ts → LiteralsAt ns c ls ts
    literals-at literals ts d = d
    literals-at (one_wire {s} {lo} e) ts (h, bit, lit) = bit lo ts (Grammar.one_bit (subst (λ m. Stands ns s (an_input lo m)) e h))

    -- literals are a letter, and that an operand
    operand_at : {x : Expect} {o : Open} {e : Exp} {b : Bool} → BehindOperand x o e b → (ts : List Token) → Derived ns x ts → Derived ns (operand_more o e b) ts
    operand_at operands ts d = d
    operand_at (letters g) ts d =
        let (vs, at, x, h) = literals-at g ts d in let y = Grammar.of_letter (Grammar.no_writes x h) in (vs, at, (λ e. y), Grammar.unstarred y)

    write-at : {x : Expect} {o : Open} {ls : List Literal} {ws : List Write} → WriteNext x o ls ws → (ts : List Token) → Derived ns x ts → WriteAt ns o ls ws ts
    write-at first_write ts d = d
    write-at (more_writes {ws}) vs (ts, bs, at, x, h, y, k) = λ w rs z g. (ts, bs, at, x, h, Grammar.next_write y z, omega (arith, length-append ws (w ∷ [])))

    rparen : (s : List ℕ) (l k : Level) (ls : List Level) (e : Exp) (b : Bool)
        → Derived ns (operand_more (record { name = s; level = l; outer = k ∷ ls }) e b) (token.sign Signs.right_paren ∷ us)
        → Derived ns (operand_more (record { name = s; level = k; outer = ls }) (whole l e) false) us
    rparen s l k ls e b (ts, (v, (h, (w, around))), atom, x) =
        let z : suc (32 - suc (length ls)) ≡ 32 - length ls = omega arith in
        let y : IsAtom ns (32 - length ls) (token.sign Signs.left_paren ∷ v.start) us (whole l e) = rw z at (Grammar.parens (whole-at v x)) in
        (token.sign Signs.left_paren ∷ v.start, (w, around), (λ g. y), Grammar.unstarred y)

    semicolon : (s : List ℕ) (l : Level) (e : Exp) (b : Bool)
        → Derived ns (operand_more (record { name = s; level = l; outer = [] }) e b) (token.sign Signs.semicolon ∷ us)
        → From (declare (new_production s (whole l e)) ns) us
    semicolon s l e b (ts, (v, (free, from)), atom, x) = λ p r. from p (Grammar.declares (Grammar.declares_production free (whole-at v x)) r)

    -- what is expected where an operand stands under these levels
    abbrev Under : Open → Exp → Bool → ℕ → List Level → Type 0
    Under o e b k ls = Derived ns (operand_more (record { name = o.name; level = o.level; outer = ls }) e b) (token.sign k ∷ us)

    sign-derived : {k : ℕ} {x y : Expect} {ms : Names} → BySign ns k x ms y → Derived ns x (token.sign k ∷ us) → Derived ms y us
    unfolding new-level at_level comma-level bars-level
    sign-derived expected d = d us refl
    sign-derived closed d = d us refl
    sign-derived narrow_input (free, k, from) = λ p r. from p (Grammar.declares (Grammar.declares_input free Grammar.no_field (omega arith)) r)
    sign-derived wide_input (free, k, from) = (free, from)
    sign-derived narrow_store (free, k, from) = (token.sign Signs.equals ∷ us, free, k, from, Grammar.no_field)
    sign-derived wide_store d = d
    sign-derived (opened few) d = (new-level us, (few, d))
    sign-derived (negation {c} {ls} n) d = clear-bits c ls (literal-at n _ d)
    sign-derived (index {s}) (e, bit, lit) = (s, e, bit)
    sign-derived (compared k) (e, bit, lit) = (e, lit k)
    sign-derived (joined {c} {ls} n) d = next-literal c ls (literals-at n _ d)
    sign-derived (defined n) d = let (ts, (free, from), x, h) = literals-at n _ d in λ p r. from p (Grammar.declares (Grammar.declares_define free x) r)
    sign-derived (writing n) d = let (ts, at, x, h) = literals-at n _ d in λ w ws y k. (ts, us, at, x, h, Grammar.one_write y, omega arith)
    sign-derived written (ts, vs, at, x, h, y, k) = let z = Grammar.of_letter (Grammar.with_writes x h y k) in (ts, at, (λ e. z), Grammar.unstarred z)
    sign-derived (starred n h) d = let (ts, at, atom, x) = operand_at n _ d in (ts, at, (λ k. clash (cc)), Grammar.starred (atom h))
    sign-derived (piped n h) d = let (ts, at, atom, x) = operand_at n _ d in (at_level at.0 h x, at.1)
    sign-derived (followed n) d = let (ts, at, atom, x) = operand_at n _ d in (comma-level at.0 x, at.1)
    sign-derived (or_else n) d = let (ts, at, atom, x) = operand_at n _ d in (bars-level at.0 x, at.1)
    sign-derived (level_closed {o} {e} {b} {l} {ls} n h) d = rparen o.name o.level l ls e b (subst (Under o e b Signs.right_paren) h (operand_at n _ d))
    sign-derived (produced {o} {e} {b} n h) d = semicolon o.name o.level e b (subst (Under o e b Signs.semicolon) h (operand_at n _ d))
    sign-derived (more_monitors {ms}) (vs, from, x, h) =
        (vs, from, λ s e ws z k. Grammar.next_monitor (subst (λ r. IsMonitors ns vs (token.sign Signs.comma ∷ r) ms) z x) k)
    sign-derived all_monitors d = d

    -- `:0]`
    zero-ends : (y : Expect)
        → ((vs : List Token) → us ≡ token.sign Signs.colon ∷ token.number 0 ∷ token.sign Signs.right_bracket ∷ vs → Derived ns y vs) → Derived ns (Reading.to_zero y) us
    zero-ends y f ts a vs b ws c = f ws (cc)

    number-derived : {n : ℕ} {x y : Expect} → ByNumber ns n x y → Derived ns x (token.number n ∷ us) → Derived ns y us
    unfolding store_tests
    number-derived zero_read d = d us refl
    number-derived (input_width {h} {s} k l) (free, from) =
        zero-ends (closing (new_input s (suc h))) (λ vs z ws y p r.
        from p (Grammar.declares (Grammar.declares_input free (rw (z, y) (Grammar.field_of k)) l) r))
    number-derived (store_width {h} {s} l) (free, k, from) =
        zero-ends (sign Signs.equals (store_first s (suc h))) (λ vs z ws y.
        (token.sign Signs.left_bracket ∷ token.number h ∷ us, free, k, from, rw (z, y) (Grammar.field_of l)))
    number-derived (first_value {v} {w} l) (vs, free, k, from, x) = λ ws z p r.
        from p (Grammar.declares (Grammar.declares_store free k (subst (λ r. IsWidth vs (token.sign Signs.equals ∷ token.number v ∷ r) w) z x) l) r)
    number-derived (most_of_limit {p} {n} h) d = λ vs z. (h, subst (λ r. LimitAt ns p (token.number n ∷ r)) z d)
    number-derived (window_of_limit {n} {w} l m) (k, (s, e, few, h, g, from)) = λ vs z p r.
        from p (rw z (Grammar.declares (Grammar.a_limit few h g k l m) r))
    number-derived (index_of_bit {i} {lo} h) (s, e, f) = λ vs z. f (lo + i) vs (rw z (Grammar.indexed e h))
    number-derived (wire_value {c} {ls} {lo} {w} {v} h) (e, lit) =
        lit.1 (wire lo w v ∷ []) us (Grammar.wire_equals_number e h) (fits-untested c ls (wire lo w v) refl lit.0)
    number-derived (store_value {c} {ls} {n} {v} h) (s, e, l, lit) =
        lit.1 (store n v ∷ []) us (Grammar.store_equals_number e h) (fits_after c ls (store n v ∷ []) l)
    number-derived (number_written {n} {v} h) (s, e, l, f) = λ vs z. f (from_number n v) vs (rw z (Grammar.write_number e h)) l

    name-derived : {place : ℕ} {n : List ℕ} {x y : Expect} → ByName ns place n x y → Derived ns x (token.name n ∷ us) → Derived ns y us
    unfolding new-level store_tests
    name-derived (name_of_input free h) d = (free, h, d)
    name-derived (name_of_store free h) d = (free, h, d)
    name-derived {n} (name_of_define free) d = λ vs z. begin-literals (in_define n) vs (free, subst (λ r. From ns (token.word token.define ∷ token.name n ∷ r)) z d)
    name-derived {n} (name_of_production free) d = λ vs z. (new-level vs, (free, subst (λ r. From ns (token.name n ∷ r)) z d))
    name-derived {n} (limited {e} h g) (few, from) = λ vs z. (n, e, few, h, g, subst (λ r. From ns (token.word token.limit ∷ token.name n ∷ r)) z from)
    name-derived {n} (of_wire {c} {ls} g e) d = (e, bits c ls (token.name n ∷ us) (literal-at g _ d), λ k. literal-at g _ d)
    name-derived {n} (of_store {c} {ls} g e k) d = λ ws z. (n, e, k, subst (λ r. LiteralAt ns c ls (token.name n ∷ r)) z (literal-at g _ d))
    name-derived (of_define {c} {ls} {ds} g e k) d = (literal-at g _ d).1 ds us (Grammar.defined e) (fits_after c ls ds k)
    name-derived {n} (by_production k) d = (token.name n ∷ us, d, (λ z. Grammar.copied k), Grammar.unstarred (Grammar.copied k))
    name-derived (of_negated e) d = (e, d, λ k. clash (cc))
    name-derived {n} (same_wire {c} {ls} {lo} {w}) (e, lit) = λ vs z.
        lit.1 (wire_past lo w ∷ []) vs (rw z (Grammar.wire_equals_past e)) (fits-untested c ls (wire_past lo w) refl lit.0)
    name-derived (equal_store {c} {ls} {lo} {w} {n = i} g k) (e, lit) =
        lit.1 (wire_store lo w i ∷ []) us (Grammar.wire_equals_store e g) (fits_after c ls (wire_store lo w i ∷ []) k)
    name-derived {n} (store_written {o} {ls} {ws} g e k) d = λ vs z. (n, e, k, subst (λ r. WriteAt ns o ls ws (token.name n ∷ r)) z (write-at g _ d))
    name-derived (wire_written {n = i} {lo} {m} g k) (s, e, l, f) =
        let y : Stands ns s (a_store i m) = subst (λ z. Stands ns s (a_store i z)) (sym k) e in
        λ vs z. f (from_wire i lo m) vs (rw z (Grammar.write_wire y g)) l
    name-derived {n} (monitored {ms} {e} k l) (vs, from, f) = (vs, from, f n e us refl k, omega (arith, length-append ms (e ∷ [])))

    word-derived : {w : token.Word} {x y : Expect} → ByWord ns w x y → Derived ns x (token.word w ∷ us) → Derived ns y us
    word-derived expected_word d = d us refl
    word-derived begins_input d = d
    word-derived begins_store d = d
    word-derived begins_define d = d
    word-derived (begins_limit few) d = (few, d)
    word-derived begins_monitor d = (us, d, λ s e vs z h. rw z (Grammar.one_monitor h))
    word-derived (compared_past {c} {ls} {s}) (e, lit) = λ vs z.
        (e, subst (λ r. LiteralAt ns c ls (token.name s ∷ token.sign Signs.double_equals ∷ token.word token.past ∷ r)) z lit)

    pub next-derived : {place : ℕ} {u : Token} {x y : Expect} {ms : Names} → Next ns place u x ms y → Derived ns x (u ∷ us) → Derived ms y us
    next-derived (by_sign n) d = sign-derived n d
    next-derived (by_number n) d = number-derived n d
    next-derived (by_name n) d = name-derived n d
    next-derived (by_word n) d = word-derived n d

-- ---- all tokens

-- nothing stands behind the end
abbrev pub Ended : List Placed → Type 0
Ended [] = Unit {0}
Ended (q ∷ ps) = (q.token ≡ token.end → plain_tokens ps ≡ []) × Ended ps

module _ (T : List Token) (p : Program) where
  by-outcome : {ns : Names} {q : Placed} {x : Expect} {s : Step} (us : List Token) (next : Names → Expect → Answer Program) → Outcome ns q x s
      → (q.token ≡ token.end → us ≡ []) → Derived T ns x (q.token ∷ us) → ((ms : Names) (y : Expect) → Derived T ms y us → next ms y ≡ value p → IsText no_names T p)
      → and_then s next ≡ value p → IsText no_names T p
  by-outcome us next refusal h d f e = clash (cc)
  by-outcome us next late h d f e = clash (cc)
  by-outcome {ns} us next (ended {ms} k) h (vs, from, x, few) f e =
      let q : program_of ns ms ≡ p = cc in
      subst (IsText no_names T) q
      (from (program_of ns ms) (Grammar.monitors (subst (λ r. IsMonitors ns vs (token.sign Signs.semicolon ∷ token.end ∷ r) ms) (h k)
      (subst (λ t. IsMonitors ns vs (token.sign Signs.semicolon ∷ t ∷ us) ms) k x)) few))
  by-outcome {ns} {x} us next (goes {y} {ms} k n) h d f e = f ms y (next-derived T ns us n (subst (λ t. Derived T ns x (t ∷ us)) k d)) e

  read-from : (ps : List Placed) (ns : Names) (x : Expect) → Ended ps → Derived T ns x (plain_tokens ps) → read_on ns x ps ≡ value p → IsText no_names T p
  unfolding read_on
  read-from [] ns x h d e = clash (cc)
  read-from (q ∷ ps) ns x (h, k) d e = by-outcome (plain_tokens ps) (λ ms y. read_on ms y ps) (outcome ns q x) h d (λ ms y g f. read-from ps ms y k g f) e

-- What is read is derived.
pub read-derived : (ps : List Placed) (p : Program) → Ended ps → read_on no_names statement ps ≡ value p → IsText no_names (plain_tokens ps) p
read-derived ps p h e = read-from (plain_tokens ps) p ps no_names statement h (λ r x. x) e
