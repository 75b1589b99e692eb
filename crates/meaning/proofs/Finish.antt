-- How a text can be ended from whatever is expected: the tokens to the end, each of which leads on. Where names and limits are not in the way (specs/Viable) there are such
-- tokens, and with what was read before them they are a text of the grammar. Assumes nothing.
use mathlib.Core.Path.{◌≡◌, refl, ap}
use mathlib.Core.Bool.{Bool, true}
use mathlib.Core.List.{List, [], ◌∷◌, map}
use mathlib.Core.Logic.{◌⊎◌, inl, inr}
use Prim.Native.Nat.{ℕ, ◌+◌, ◌≤◌, ◌<◌}
use native.Mathlib.Omega.{arith}
use lib.Dec.{ltb}
use lib.ListN.{length, get_or}
use borrow.Author.Tests.{ltb-true}
use lib.Pow.{pow_pos}
use Rattle.lexer.specs.Bytes.{bytes, run, same, lookup, is_white, is_digit, is_letter}
use Rattle.lexer.specs.Signs.{signs}
use Rattle.lexer.specs.Tokens as token
use Rattle.lexer.specs.Tokens.{Token, value_from, name_token, number_token, sign_token, first_token, next_token, token_at, rule_words}
use Rattle.lexer.proofs.Every.{every, every-at}
use Rattle.meaning.specs.Expression.{Literal, Write, Exp, store_tests}
use Rattle.meaning.specs.Reading.{Level, new_level, Open, Context, in_define, in_letter, Expect, statement, sign, keyword, nought, closing, input_name, input_more, input_high, store_name, store_more, store_high, store_first, define_name, limit_name, limit_most, limit_window, operand, literal, negated, wire_more, bit_index, wire_equals, store_equals, past_name, literal_more, write_store, write_value, write_more, operand_more, monitor_name, monitor_more, text_end, is_sign, to_zero}
use Rattle.meaning.specs.Names.{a_production, Names, no_names, Declaration, new_input, new_store, new_define, new_limit, declare, Program, program_of}
use Rattle.meaning.specs.Grammar
use Rattle.meaning.specs.Grammar.{Stands, IsText}
use Rattle.meaning.specs.Viable.{Spelled, AllSpelled, HasLiteral, Room, Ends, names_of, EndsIn, Spare}
use Rattle.meaning.proofs.Outcomes.{is-token, LiteralNext, more_literals, first_literal, literals, BehindOperand, operands, letters, first_write, BySign, expected, closed, narrow_input, narrow_store, defined, compared, index, written, level_closed, produced, all_monitors, ByNumber, zero_read, input_width, store_width, first_value, most_of_limit, window_of_limit, index_of_bit, wire_value, store_value, number_written, ByName, name_of_input, name_of_store, name_of_define, name_of_production, limited, of_wire, of_store, of_define, by_production, of_negated, store_written, monitored, Next, by_sign, by_number, by_name, by_word, same_wire, ByWord, expected_word, begins_input, begins_monitor}
use Rattle.meaning.proofs.GrammarDerives.{Derived, next-derived}
use Rattle.meaning.proofs.FreeName.{New, new-name}
use Rattle.meaning.proofs.Sound
use Rattle.meaning.proofs.Sound.{gives_input, gives_production, names_more, stands-itself, Root, NamesSound, DeclarationSound, NoProduction, still-stands, root, declare-sound, OpenSound, ContextSound, LiteralsSound, ExpectSound}

-- Tokens that lead from x to the end of a text, each of which a text can have. Their places do not matter: 0.
pub data Finish : Names → Expect → Type 0 where
  ends : {ns : Names} {ms : List Exp} → Finish ns (text_end ms)
  then : {ns ms : Names} {u : Token} {x y : Expect} → Spelled u → Next ns 0 u x ms y → Finish ms y → Finish ns x

abbrev pub tokens_of : {ns : Names} {x : Expect} → Finish ns x → List Token
tokens_of ends = token.end ∷ []
tokens_of (then {u} t n f) = u ∷ tokens_of f

-- Behind what was read they make a text.
pub finished : (T : List Token) {ns : Names} {x : Expect} (f : Finish ns x) → Derived T ns x (tokens_of f) → (p : Program) × IsText no_names T p
finished T (ends {ns} {ms}) (vs, from, x, few) = (program_of ns ms, from (program_of ns ms) (Grammar.monitors x few))
finished T (then {ns} t n f) d = finished T f (next-derived T ns (tokens_of f) n d)

-- ---- tokens that a text can have: signs, two numbers, words and the end, by computation

abbrev spelling_of : ℕ → List ℕ
spelling_of k = get_or (map (λ e. e.spelling) signs) k []

signs-spelled : every (λ k. is_sign k (token_at rule_words (spelling_of k) 0).token) 18 ≡ true
unfolding token_at next_token first_token sign_token run same lookup is_white is_digit is_letter
signs-spelled = refl

sign-spelled : (k : ℕ) → ltb k 18 ≡ true → Spelled (token.sign k)
sign-spelled k h = (spelling_of k, 0, is-token k _ (every-at (λ k. is_sign k (token_at rule_words (spelling_of k) 0).token) 18 signs-spelled k (ltb-true k 18 h)))

zero-spelled : Spelled (token.number 0)
unfolding token_at next_token first_token number_token value_from run same lookup is_white is_digit is_letter
zero-spelled = (bytes "0", 0, refl)

most-spelled : Spelled (token.number 1024)
unfolding token_at next_token first_token number_token value_from run same lookup is_white is_digit is_letter
most-spelled = (bytes "1024", 0, refl)

word-spelled : (w : token.Word) → Spelled (token.word w)
unfolding token_at next_token first_token name_token run same lookup is_white is_digit is_letter
word-spelled token.input = (bytes "input", 0, refl)
word-spelled token.internal = (bytes "internal", 0, refl)
word-spelled token.define = (bytes "define", 0, refl)
word-spelled token.monitor = (bytes "monitor", 0, refl)
word-spelled token.past = (bytes "past", 0, refl)
word-spelled token.limit = (bytes "limit", 0, refl)
word-spelled token.to = (bytes "to", 0, refl)
word-spelled token.inside = (bytes "in", 0, refl)

end-spelled : Spelled token.end
unfolding token_at next_token first_token run
end-spelled = ([], 0, refl)

pub all-spelled : {ns : Names} {x : Expect} (f : Finish ns x) → AllSpelled (tokens_of f)
all-spelled ends = (end-spelled, tt)
all-spelled (then t n f) = (t, all-spelled f)

-- ---- one token more

module _ {ns : Names} {x y : Expect} where
  name-then : {s : List ℕ} → Spelled (token.name s) → ByName ns 0 s x y → Finish ns y → Finish ns x
  name-then t n f = then t (by_name n) f

  zero-then : ByNumber ns 0 x y → Finish ns y → Finish ns x
  zero-then n f = then zero-spelled (by_number n) f

  sign-then : {k : ℕ} {ms : Names} → ltb k 18 ≡ true → BySign ns k x ms y → Finish ms y → Finish ns x
  sign-then {k} h n f = then (sign-spelled k h) (by_sign n) f

word-then : {ns : Names} {w : token.Word} {x y : Expect} → ByWord ns w x y → Finish ns y → Finish ns x
word-then {w} n f = then (word-spelled w) (by_word n) f

-- ---- from a statement on

-- monitor N;
monitor-ends : {ns : Names} (s : List ℕ) (e : Exp) → Spelled (token.name s) → Stands ns s (a_production e) → Finish ns statement
monitor-ends s e t h = word-then begins_monitor (name-then t (monitored h (omega arith)) (sign-then refl all_monitors ends))

-- behind an operand: a `)` for each level, and `;`; the production is the monitor
operand-ends : {ns : Names} (ls : List Level) {x : Expect} {o : Open} {e : Exp} {b : Bool} → OpenSound o → BehindOperand x o e b → o.outer ≡ ls → Finish ns x
operand-ends {ns} [] {o} t n h =
    sign-then refl (produced n h) (monitor-ends o.name _ t (stands-itself ns gives_production))
operand-ends (l ∷ ls) t n h = sign-then refl (level_closed n h) (operand-ends ls t operands refl)

module _ (ns : Names) (names : NamesSound ns) where
  letter-ends : (o : Open) (ls : List Literal) → OpenSound o → Finish ns (literal_more (in_letter o) ls)
  letter-ends o ls t = operand-ends o.outer t (letters literals) refl

  -- a wire or a store is compared with 0, or a define is named
  literal-ends : {x : Expect} {c : Context} {ls : List Literal} → LiteralNext x c ls → HasLiteral ns c ls → ((ks : List Literal) → Finish ns (literal_more c ks)) → Finish ns x
  literal-ends n (inl (s, lo, w, e)) f = name-then (names.spelled s _ e) (of_wire n e) (sign-then refl (compared refl) (zero-then (wire_value (pow_pos w)) (f _)))
  literal-ends n (inr (inl ((s, i, w, e), k))) f = name-then (names.spelled s _ e) (of_store n e k) (sign-then refl expected (zero-then (store_value (pow_pos w)) (f _)))
  literal-ends n (inr (inr (s, ds, e, k))) f = name-then (names.spelled s _ e) (of_define n e k) (f _)

  -- a new production of a declared wire or store is the monitor
  production-ends : Root ns → Room 1 ns → Finish ns statement
  unfolding store_tests
  production-ends r h = by r (new-name ns h)
    where
      from : (s : List ℕ) → New ns s → HasLiteral ns (in_letter (record { name = s; level = new_level; outer = [] })) [] → Finish ns statement
      from s (f, t) l =
          name-then t (name_of_production f) (sign-then refl expected (literal-ends first_literal l (λ ks. letter-ends (record { name = s; level = new_level; outer = [] }) ks t)))

      by : Root ns → (s : List ℕ) × New ns s → Finish ns statement
      by (Sound.declares_input i) (s, f) = from s f (inl i)
      by (Sound.declares_store i) (s, f) = from s f (inr (inl (i, refl)))
      by (Sound.declares_production (r, e, k)) f = monitor-ends r e (names.spelled r _ k) k

-- where nothing is declared, an input is first
statement-ends : (ns : Names) → NamesSound ns → Ends 0 ns → Finish ns statement
statement-ends ns names (inl (s, e, k)) = monitor-ends s e (names.spelled s _ k) k
statement-ends ns names (inr h) = by names.rooted (new-name ns h)
  where
    by : (ns ≡ no_names) ⊎ Root ns → (s : List ℕ) × New ns s → Finish ns statement
    by (inl e) (s, f) =
        let d : Declaration = new_input s 1 in
        let w : ns.wires < 64 = omega (arith, ap (λ (k : Names). k.wires) e) in
        let l : Room 1 (declare d ns) = omega (arith, names_more ns d, ap (λ (k : Names). length k.declared) e) in
        word-then begins_input (name-then f.1 (name_of_input f.0 w) (sign-then refl narrow_input
        (production-ends (declare d ns) (declare-sound ns names d (f, omega arith)) (Sound.declares_input (s, ns.wires, 1, stands-itself ns gives_input)) l)))
    by (inr r) f = production-ends ns names r h

-- ---- from whatever is expected on

module _ (ns : Names) (names : NamesSound ns) where
  -- behind a declaration
  ends-behind : (d : Declaration) → DeclarationSound ns d → NoProduction d → Ends (names_of d) ns → Ends 0 (declare d ns)
  ends-behind d g n (inr h) = inr (omega (arith, names_more ns d))
  ends-behind d g n (inl (r, e, k)) = inl (r, e, still-stands ns d g n r _ k)

  declared-ends : (d : Declaration) → DeclarationSound ns d → NoProduction d → Ends (names_of d) ns → Finish (declare d ns) statement
  declared-ends d g n h = statement-ends (declare d ns) (declare-sound ns names d g) (ends-behind d g n h)

  -- `1024;`, longer than any n
  window-ends : (p n : ℕ) → Root ns → n ≤ 1023 → Ends 0 ns → Finish ns (limit_window p n)
  window-ends p n r k h =
      then most-spelled (by_number (window_of_limit {n = n} {w = 1024} (omega arith) (omega arith))) (sign-then refl closed (declared-ends (new_limit p n 1024) r tt h))

  -- `0 in 1024;`
  most-ends : (p : ℕ) → Root ns → Ends 0 ns → Finish ns (limit_most p)
  most-ends p r h = zero-then (most_of_limit (omega arith)) (word-then expected_word (window-ends p 0 r (omega arith) h))

  -- behind literals
  literals_end : (c : Context) (ls : List Literal) → LiteralsSound ns c → EndsIn ns c → Finish ns (literal_more c ls)
  literals_end (in_define s) ls g h = sign-then refl (defined literals) (declared-ends (new_define s ls) g tt h)
  literals_end (in_letter o) ls (t, r) h = letter-ends ns names o ls t

  -- a name that can be a literal stands
  literal-root : (c : Context) (ls : List Literal) → HasLiteral ns c ls → Root ns
  literal-root c ls (inl i) = Sound.declares_input i
  literal-root c ls (inr (inl (i, k))) = Sound.declares_store i
  literal-root c ls (inr (inr (s, ds, e, k))) = root ns names s _ e

  -- a literal is next
  next-ends : {c : Context} {ls : List Literal} → ContextSound ns c → HasLiteral ns c ls → EndsIn ns c → Finish ns (literal c ls)
  next-ends {c} {ls} g l h = literal-ends ns names more_literals l (λ ks. literals_end c ks (g, literal-root c ls l) h)

  -- behind writes, and behind `<-`
  writes_end : (o : Open) (ls : List Literal) (ws : List Write) → OpenSound o → Finish ns (write_more o ls ws)
  writes_end o ls ws t = sign-then refl written (operand-ends o.outer t operands refl)

  write-ends : (o : Open) (ls : List Literal) (ws : List Write) (n w : ℕ) → OpenSound o → Finish ns (write_value o ls ws n w)
  write-ends o ls ws n w t = zero-then (number_written (pow_pos w)) (sign-then refl expected (writes_end o ls _ t))

  -- `0]` behind a `[`
  bit-ends : (c : Context) (ls : List Literal) (lo w v : ℕ) → LiteralsSound ns c → 0 < w → EndsIn ns c → Finish ns (bit_index c ls lo w v)
  bit-ends c ls lo w v g k h = zero-then (index_of_bit k) (sign-then refl expected (literals_end c _ g h))

  -- `:0]`
  zero-ends : {x : Expect} → Finish ns x → Finish ns (to_zero x)
  zero-ends f = sign-then refl expected (zero-then zero_read (sign-then refl expected f))

  first_ends : (s : List ℕ) (w : ℕ) → New ns s → Ends 1 ns → Finish ns (store_first s w)
  first_ends s w f h = zero-then (first_value (pow_pos w)) (sign-then refl closed (declared-ends (new_store s w 0) f tt h))

  -- Where names and limits are not in the way, a text can be ended.
  pub finish : (x : Expect) → ExpectSound ns x → Spare ns x → Finish ns x
  finish statement g h = statement-ends ns names h
  finish (sign k x) (t, g) h = sign-then t expected (finish x g h)
  finish (keyword w x) g h = word-then expected_word (finish x g h)
  finish (nought x) g h = zero-then zero_read (finish x g h)
  finish (closing d) (g, k) h = sign-then refl closed (declared-ends d g k h)
  finish input_name g (r, w, h) =
      let (s, f) = new-name ns r in
      name-then f.1 (name_of_input f.0 w) (sign-then refl narrow_input (declared-ends (new_input s 1) (f, omega arith) tt h))
  finish (input_more s) (f, w) h = sign-then refl narrow_input (declared-ends (new_input s 1) (f, omega arith) tt h)
  finish (input_high s) (f, w) h =
      let k : ns.wires + 1 ≤ 64 = omega arith in
      zero-then (input_width {h = 0} (omega arith) k) (zero-ends (sign-then refl closed (declared-ends (new_input s 1) (f, omega arith) tt h)))
  finish store_name g (r, k, h) = let (s, f) = new-name ns r in name-then f.1 (name_of_store f.0 k) (sign-then refl narrow_store (first_ends s 1 f h))
  finish (store_more s) f h = sign-then refl narrow_store (first_ends s 1 f h)
  finish (store_high s) f h = zero-then (store_width {h = 0} (omega arith)) (zero-ends (sign-then refl expected (first_ends s 1 f h)))
  finish (store_first s w) f h = first_ends s w f h
  finish define_name g (r, l, h) = let (s, f) = new-name ns r in name-then f.1 (name_of_define f.0) (sign-then refl expected (next-ends f l h))
  finish limit_name g (s, e, p, h, k) =
      name-then (names.spelled s _ h) (limited h k) (word-then expected_word (most-ends p (root ns names s _ h) (inl (s, e, h))))
  finish (limit_most p) r h = most-ends p r h
  finish (limit_window p n) r (k, h) = window-ends p n r k h
  finish (operand o) t (inl l) = literal-ends ns names first_literal l (λ ks. letter-ends ns names o ks t)
  finish (operand o) t (inr (s, e, h)) = name-then (names.spelled s _ h) (by_production h) (operand-ends o.outer t operands refl)
  finish (literal c ls) g (l, h) = next-ends g l h
  finish (negated c ls) g ((s, lo, w, e), h) =
      name-then (names.spelled s _ e) (of_negated e) (sign-then refl index (bit-ends c ls lo w 0 (g, root ns names s _ e) (names.inputs s lo w e) h))
  finish (wire_more c ls s lo w v p) (g, k, r) h = sign-then refl index (bit-ends c ls lo w v g k h)
  finish (bit_index c ls lo w v) (g, k) h = bit-ends c ls lo w v g k h
  finish (wire_equals c ls s lo w) (g, r) h = zero-then (wire_value (pow_pos w)) (literals_end c _ g h)
  finish (past_name c ls s lo w) (g, r) h = name-then r same_wire (sign-then refl expected (literals_end c _ g h))
  finish (store_equals c ls n w) g h = zero-then (store_value (pow_pos w)) (literals_end c _ g h)
  finish (literal_more c ls) g h = literals_end c ls g h
  finish (write_store o ls ws) (t, few) (s, n, w, e) = name-then (names.spelled s _ e) (store_written first_write e few) (sign-then refl expected (write-ends o ls ws n w t))
  finish (write_value o ls ws n w) t h = write-ends o ls ws n w t
  finish (write_more o ls ws) t h = writes_end o ls ws t
  finish (operand_more o e b) t h = operand-ends o.outer t operands refl
  finish (monitor_name ms) g ((s, e, h), few) = name-then (names.spelled s _ h) (monitored h few) (sign-then refl all_monitors ends)
  finish (monitor_more ms) g h = sign-then refl all_monitors ends
  finish (text_end ms) g h = ends
