-- All that can come of judging a token: it is refused itself, a wide wire before it is, the text ends, or reading goes on, by what the token is. A proof on every step of
-- reading goes by these cases. Assumes nothing.
use mathlib.Core.Path.{◌≡◌, refl, sym, ◌∙◌, ap, subst}
use mathlib.Core.Bool.{Bool, true, false, cond, ◌&&◌}
use mathlib.Core.List.{List, [], ◌∷◌, ◌++◌}
use mathlib.Core.Option.{Option, none, some}
use Prim.Native.Nat.{ℕ, suc, ◌+◌, ◌^◌, ◌≤◌, ◌<◌}
use lib.Dec.{eqb, leb, ltb}
use lib.ListN.{length, get_or}
use borrow.Author.Tests.{eqb-true, leb-false, ltb-false, not-true, not-false}
use Rattle.lexer.specs.Bytes.{same, lookup}
use Rattle.lexer.specs.Signs.{semicolon, comma, at_sign, star as asterisk, ampersand, bang, left_paren, right_paren, left_bracket, right_bracket, left_brace, right_brace, equals, double_equals, double_bar, right_arrow, left_arrow}
use Rattle.lexer.specs.Tokens as token
use Rattle.lexer.specs.Tokens.{Token, Placed, tokens, rule_words}
use Rattle.lexer.proofs.Spelling.{same-eq}
use Rattle.lexer.proofs.Bools.{and_left, and_right, or_left, or_right}
use Rattle.meaning.specs.Names.{Declaration, Meaning, an_input, a_store, a_define, a_production, Names, no_names, new_input, new_store, new_define, new_production, new_limit, declare, Program, program_of}
use Rattle.meaning.specs.Expression.{Literal, wire, wire_store, wire_past, store, Write, from_wire, from_number, Exp, star, store_tests, a_letter, single}
use Rattle.meaning.specs.Answers.{Answer, value, refused, byte}
use Rattle.refusals.specs.Numbers.{overlong, unknown, twice, oversize, crowded, stretch}
use Rattle.meaning.specs.Reading
use Rattle.meaning.specs.Reading.{Level, new_level, Open, on_level, Context, in_define, in_letter, Expect, statement, sign, keyword, nought, closing, input_name, input_more, input_high, store_name, store_more, store_high, store_first, define_name, limit_name, limit_most, limit_window, operand, literal, negated, wire_more, bit_index, wire_equals, store_equals, past_name, literal_more, write_store, write_value, write_more, operand_more, monitor_name, monitor_more, text_end, Step, go, finished, fault, choose, is, at_token, not_here, unless, if_name, if_number, on_name, on_number, by_kind, known, new_name, step, and_then, read_on, read, behind_operand, behind_literal, literal_name, too_many, to_zero, whole}
use Rattle.meaning.specs.Grammar.{Stands, Free}
use Rattle.meaning.proofs.ListLaws.{clash}
use Rattle.meaning.proofs.Steps.{of-choose, of-kind, of-unless}

-- ---- things that more than one expectation stands for

-- a literal behind ls
pub data LiteralNext : Expect → Context → List Literal → Type 0 where
  more_literals : {c : Context} {ls : List Literal} → LiteralNext (literal c ls) c ls
  first_literal : {o : Open} → LiteralNext (operand o) (in_letter o) []

-- what stands behind the literals ls
pub data BehindLiterals : Expect → Context → List Literal → Type 0 where
  literals : {c : Context} {ls : List Literal} → BehindLiterals (literal_more c ls) c ls
  one_wire : {c : Context} {ls : List Literal} {s : List ℕ} {lo w v p : ℕ} → w ≡ 1 → BehindLiterals (wire_more c ls s lo w v p) c (ls ++ (wire lo 1 v ∷ []))

-- what stands behind the operand e
pub data BehindOperand : Expect → Open → Exp → Bool → Type 0 where
  operands : {o : Open} {e : Exp} {b : Bool} → BehindOperand (operand_more o e b) o e b
  letters : {x : Expect} {o : Open} {ls : List Literal} → BehindLiterals x (in_letter o) ls → BehindOperand x o (a_letter ls []) false

-- a write behind ws
pub data WriteNext : Expect → Open → List Literal → List Write → Type 0 where
  first_write : {o : Open} {ls : List Literal} {ws : List Write} → WriteNext (write_store o ls ws) o ls ws
  more_writes : {o : Open} {ls : List Literal} {ws : List Write} → WriteNext (write_more o ls ws) o ls ws

-- ---- how reading goes on: from the expectation x, at a token, to names and what is expected next

pub data BySign (ns : Names) : ℕ → Expect → Names → Expect → Type 0 where
  -- the sign that had to come
  expected : {k : ℕ} {x : Expect} → BySign ns k (sign k x) ns x
  -- the end of a declaration
  closed : {d : Declaration} → BySign ns semicolon (closing d) (declare d ns) statement
  -- behind the name of an input or a store
  narrow_input : {s : List ℕ} → BySign ns semicolon (input_more s) (declare (new_input s 1) ns) statement
  wide_input : {s : List ℕ} → BySign ns left_bracket (input_more s) ns (input_high s)
  narrow_store : {s : List ℕ} → BySign ns equals (store_more s) ns (store_first s 1)
  wide_store : {s : List ℕ} → BySign ns left_bracket (store_more s) ns (store_high s)
  -- what begins an operand or a literal
  opened : {o : Open} → length o.outer < 32 → BySign ns left_paren (operand o) ns (operand (record { name = o.name; level = new_level; outer = o.level ∷ o.outer }))
  negation : {x : Expect} {c : Context} {ls : List Literal} → LiteralNext x c ls → BySign ns bang x ns (negated c ls)
  -- behind a wire's name
  index : {c : Context} {ls : List Literal} {s : List ℕ} {lo w v p : ℕ} → BySign ns left_bracket (wire_more c ls s lo w v p) ns (bit_index c ls lo w v)
  compared : {c : Context} {ls : List Literal} {s : List ℕ} {lo w v p : ℕ} → v ≡ 1 → BySign ns double_equals (wire_more c ls s lo w v p) ns (wire_equals c ls s lo w)
  -- behind literals, and behind writes
  joined : {x : Expect} {c : Context} {ls : List Literal} → BehindLiterals x c ls → BySign ns ampersand x ns (literal c ls)
  defined : {x : Expect} {s : List ℕ} {ls : List Literal} → BehindLiterals x (in_define s) ls → BySign ns semicolon x (declare (new_define s ls) ns) statement
  writing : {x : Expect} {o : Open} {ls : List Literal} → BehindLiterals x (in_letter o) ls → BySign ns left_brace x ns (write_store o ls [])
  written : {o : Open} {ls : List Literal} {ws : List Write} → BySign ns right_brace (write_more o ls ws) ns (operand_more o (a_letter ls ws) false)
  -- behind an operand
  starred : {x : Expect} {o : Open} {e : Exp} {b : Bool} → BehindOperand x o e b → b ≡ false → BySign ns asterisk x ns (operand_more o (star e) true)
  piped : {x : Expect} {o : Open} {e : Exp} {b : Bool} → BehindOperand x o e b → o.level.left ≡ none
      → BySign ns at_sign x ns (operand (on_level o (Reading.behind_at o.level e)))
  followed : {x : Expect} {o : Open} {e : Exp} {b : Bool} → BehindOperand x o e b → BySign ns comma x ns (operand (on_level o (Reading.behind_comma o.level e)))
  or_else : {x : Expect} {o : Open} {e : Exp} {b : Bool} → BehindOperand x o e b → BySign ns double_bar x ns (operand (on_level o (Reading.behind_bars o.level e)))
  level_closed : {x : Expect} {o : Open} {e : Exp} {b : Bool} {l : Level} {ls : List Level} → BehindOperand x o e b → o.outer ≡ l ∷ ls
      → BySign ns right_paren x ns (operand_more (record { name = o.name; level = l; outer = ls }) (whole o.level e) false)
  produced : {x : Expect} {o : Open} {e : Exp} {b : Bool} → BehindOperand x o e b → o.outer ≡ []
      → BySign ns semicolon x (declare (new_production o.name (whole o.level e)) ns) statement
  -- behind a monitor's name
  more_monitors : {ms : List Exp} → BySign ns comma (monitor_more ms) ns (monitor_name ms)
  all_monitors : {ms : List Exp} → BySign ns semicolon (monitor_more ms) ns (text_end ms)

pub data ByNumber (ns : Names) : ℕ → Expect → Expect → Type 0 where
  -- 0, a width and a store's first value
  zero_read : {x : Expect} → ByNumber ns 0 (nought x) x
  input_width : {h : ℕ} {s : List ℕ} → h ≤ 63 → ns.wires + suc h ≤ 64 → ByNumber ns h (input_high s) (to_zero (closing (new_input s (suc h))))
  store_width : {h : ℕ} {s : List ℕ} → h ≤ 63 → ByNumber ns h (store_high s) (to_zero (sign equals (store_first s (suc h))))
  first_value : {v w : ℕ} {s : List ℕ} → v < 2 ^ w → ByNumber ns v (store_first s w) (closing (new_store s w v))
  -- in a limit
  most_of_limit : {p n : ℕ} → n ≤ 1023 → ByNumber ns n (limit_most p) (keyword token.inside (limit_window p n))
  window_of_limit : {p n w : ℕ} → n < w → w ≤ 1024 → ByNumber ns w (limit_window p n) (closing (new_limit p n w))
  -- in a literal, and in a write
  index_of_bit : {c : Context} {ls : List Literal} {i lo w v : ℕ} → i < w → ByNumber ns i (bit_index c ls lo w v) (sign right_bracket (literal_more c (ls ++ (wire (lo + i) 1 v ∷ []))))
  wire_value : {c : Context} {ls : List Literal} {s : List ℕ} {lo w v : ℕ} → v < 2 ^ w → ByNumber ns v (wire_equals c ls s lo w) (literal_more c (ls ++ (wire lo w v ∷ [])))
  store_value : {c : Context} {ls : List Literal} {n w v : ℕ} → v < 2 ^ w → ByNumber ns v (store_equals c ls n w) (literal_more c (ls ++ (store n v ∷ [])))
  number_written : {o : Open} {ls : List Literal} {ws : List Write} {n w v : ℕ} → v < 2 ^ w
      → ByNumber ns v (write_value o ls ws n w) (sign semicolon (write_more o ls (ws ++ (from_number n v ∷ []))))

-- the name s that stands at a place
pub data ByName (ns : Names) (place : ℕ) (s : List ℕ) : Expect → Expect → Type 0 where
  -- a new name
  name_of_input : Free ns s → ns.wires < 64 → ByName ns place s input_name (input_more s)
  name_of_store : Free ns s → length ns.initial < 16 → ByName ns place s store_name (store_more s)
  name_of_define : Free ns s → ByName ns place s define_name (sign equals (literal (in_define s) []))
  name_of_production : Free ns s → ByName ns place s statement (sign right_arrow (operand (record { name = s; level = new_level; outer = [] })))
  -- of a limit
  limited : {e : Exp} {p : ℕ} → Stands ns s (a_production e) → single e ≡ some p → ByName ns place s limit_name (keyword token.to (limit_most p))
  -- what begins a literal or an operand
  of_wire : {x : Expect} {c : Context} {ls : List Literal} {lo w : ℕ} → LiteralNext x c ls → Stands ns s (an_input lo w)
      → ByName ns place s x (wire_more c ls s lo w 1 place)
  of_store : {x : Expect} {c : Context} {ls : List Literal} {n w : ℕ} → LiteralNext x c ls → Stands ns s (a_store n w) → too_many c ls 1 ≡ false
      → ByName ns place s x (sign double_equals (store_equals c ls n w))
  of_define : {x : Expect} {c : Context} {ls ds : List Literal} → LiteralNext x c ls → Stands ns s (a_define ds) → too_many c ls (store_tests ds) ≡ false
      → ByName ns place s x (literal_more c (ls ++ ds))
  by_production : {o : Open} {e : Exp} → Stands ns s (a_production e) → ByName ns place s (operand o) (operand_more o e false)
  -- behind `!` and behind `==`
  of_negated : {c : Context} {ls : List Literal} {lo w : ℕ} → Stands ns s (an_input lo w) → ByName ns place s (negated c ls) (wire_more c ls s lo w 0 place)
  equal_store : {c : Context} {ls : List Literal} {r : List ℕ} {lo w n : ℕ} → Stands ns s (a_store n w) → too_many c ls 1 ≡ false
      → ByName ns place s (wire_equals c ls r lo w) (literal_more c (ls ++ (wire_store lo w n ∷ [])))
  -- behind `past(`
  same_wire : {c : Context} {ls : List Literal} {lo w : ℕ} → ByName ns place s (past_name c ls s lo w) (sign right_paren (literal_more c (ls ++ (wire_past lo w ∷ []))))
  -- in a write, and of a monitor
  store_written : {x : Expect} {o : Open} {ls : List Literal} {ws : List Write} {n w : ℕ} → WriteNext x o ls ws → Stands ns s (a_store n w) → length ws < 2
      → ByName ns place s x (sign left_arrow (write_value o ls ws n w))
  wire_written : {o : Open} {ls : List Literal} {ws : List Write} {n w lo m : ℕ} → Stands ns s (an_input lo m) → m ≡ w
      → ByName ns place s (write_value o ls ws n w) (sign semicolon (write_more o ls (ws ++ (from_wire n lo m ∷ []))))
  monitored : {ms : List Exp} {e : Exp} → Stands ns s (a_production e) → length ms < 32 → ByName ns place s (monitor_name ms) (monitor_more (ms ++ (e ∷ [])))

pub data ByWord (ns : Names) : token.Word → Expect → Expect → Type 0 where
  -- the word that had to come
  expected_word : {w : token.Word} {x : Expect} → ByWord ns w (keyword w x) x
  -- what begins a statement
  begins_input : ByWord ns token.input statement input_name
  begins_store : ByWord ns token.internal statement store_name
  begins_define : ByWord ns token.define statement define_name
  begins_limit : length ns.limits < 8 → ByWord ns token.limit statement limit_name
  begins_monitor : ByWord ns token.monitor statement (monitor_name [])
  -- behind `wire ==`
  compared_past : {c : Context} {ls : List Literal} {s : List ℕ} {lo w : ℕ} → ByWord ns token.past (wire_equals c ls s lo w) (sign left_paren (past_name c ls s lo w))

-- The token u at a place leads from x to y, with the names ms. Neither the end nor a knot leads anywhere.
pub data Next (ns : Names) (place : ℕ) : Token → Expect → Names → Expect → Type 0 where
  by_sign : {k : ℕ} {x y : Expect} {ms : Names} → BySign ns k x ms y → Next ns place (token.sign k) x ms y
  by_number : {n : ℕ} {x y : Expect} → ByNumber ns n x y → Next ns place (token.number n) x ns y
  by_name : {s : List ℕ} {x y : Expect} → ByName ns place s x y → Next ns place (token.name s) x ns y
  by_word : {w : token.Word} {x y : Expect} → ByWord ns w x y → Next ns place (token.word w) x ns y

-- What can come of judging the token t where x is expected.
pub data Outcome (ns : Names) (t : Placed) : Expect → Step → Type 0 where
  -- the token is refused, or with 6 the wide wire before it
  refusal : {x : Expect} {number : ℕ} → Outcome ns t x (fault number t.place)
  late : {c : Context} {ls : List Literal} {s : List ℕ} {lo w v p : ℕ} → Outcome ns t (wire_more c ls s lo w v p) (fault oversize p)
  -- the text ends, or reading goes on
  ended : {ms : List Exp} → t.token ≡ token.end → Outcome ns t (text_end ms) (finished (program_of ns ms))
  goes : {u : Token} {x y : Expect} {ms : Names} → t.token ≡ u → Next ns t.place u x ms y → Outcome ns t x (go ms y)

-- ---- each step is one of these

pub is-token : (k : ℕ) (t : Token) → Reading.is_sign k t ≡ true → t ≡ token.sign k
is-token k (token.name s) e = clash (cc)
is-token k (token.word w) e = clash (cc)
is-token k (token.number n) e = clash (cc)
is-token k (token.sign n) e = let h : k ≡ n = eqb-true k n e in cc
is-token k token.end e = clash (cc)
is-token k (token.refused n) e = clash (cc)

-- a word is known by its number
word_at : (w : token.Word) → get_or rule_words (Reading.ordinal w) token.input ≡ w
word_at token.input = refl
word_at token.internal = refl
word_at token.define = refl
word_at token.monitor = refl
word_at token.past = refl
word_at token.limit = refl
word_at token.to = refl
word_at token.inside = refl

pub word-token : (w : token.Word) (t : Token) → Reading.is_word w t ≡ true → t ≡ token.word w
word-token w (token.name s) e = clash (cc)
word-token w (token.word v) e = ap token.word (sym (word_at v) ∙ ap (λ n. get_or rule_words n token.input) (sym (eqb-true (Reading.ordinal w) (Reading.ordinal v) e)) ∙ word_at w)
word-token w (token.number n) e = clash (cc)
word-token w (token.sign n) e = clash (cc)
word-token w token.end e = clash (cc)
word-token w (token.refused n) e = clash (cc)

-- where no `@` has been read
no-left : (m : Option Exp) → Reading.is_none m ≡ true → m ≡ none
no-left none h = refl
no-left (some e) h = clash (cc)

unknown-none : (m : Option Meaning) → Reading.is_known m ≡ false → m ≡ none
unknown-none none e = refl
unknown-none (some m) e = clash (cc)

module _ {ns : Names} {t : Placed} {x : Expect} where
  own : (number : ℕ) → Outcome ns t x (at_token number t)
  unfolding at_token
  own number = refusal

  elsewhere : Outcome ns t x (not_here t)
  unfolding not_here
  elsewhere = refusal

  right : (wrong : Bool) (number : ℕ) (next : Step) → (wrong ≡ false → Outcome ns t x next) → Outcome ns t x (unless wrong number t next)
  right wrong number next p = of-unless (Outcome ns t x) t own wrong number next p

  on-sign : (k : ℕ) (a b : Step) → (t.token ≡ token.sign k → Outcome ns t x a) → Outcome ns t x b → Outcome ns t x (choose (is k t) a b)
  on-sign k a b f g = of-choose (Outcome ns t x) (is k t) a b (λ e. f (is-token k t.token e)) (λ e. g)

  -- a sign with which reading goes on
  sign-to : (k : ℕ) (ms : Names) (y : Expect) (b : Step) → BySign ns k x ms y → Outcome ns t x b → Outcome ns t x (choose (is k t) (go ms y) b)
  sign-to k ms y b s g = on-sign k (go ms y) b (λ e. goes e (by_sign s)) g

  -- likewise a word
  word-to : (w : token.Word) (y : Expect) (b : Step) → ByWord ns w x y → Outcome ns t x b → Outcome ns t x (choose (Reading.is_word w t.token) (go ns y) b)
  word-to w y b n g = of-choose (Outcome ns t x) (Reading.is_word w t.token) (go ns y) b (λ e. goes (word-token w t.token e) (by_word n)) (λ e. g)

  -- by a sign where a test passes too
  sign-and : (k : ℕ) (c : Bool) (ms : Names) (y : Expect) (b : Step) → (c ≡ true → BySign ns k x ms y) → Outcome ns t x b → Outcome ns t x (choose (is k t && c) (go ms y) b)
  sign-and k c ms y b f g =
      of-choose (Outcome ns t x) (is k t && c) (go ms y) b
      (λ e. goes (is-token k t.token (and_left (is k t) c e)) (by_sign (f (and_right (is k t) c e)))) (λ e. g)

  on-name : (then : List ℕ → Step) → ((s : List ℕ) → t.token ≡ token.name s → Outcome ns t x (then s)) → Outcome ns t x (on_name t then)
  unfolding on_name if_name
  on-name then f = at t.token refl
    where
      at : (u : Token) → t.token ≡ u → Outcome ns t x (if_name u then (not_here t))
      at (token.name s) e = f s e
      at (token.word w) e = elsewhere
      at (token.number n) e = elsewhere
      at (token.sign n) e = elsewhere
      at token.end e = elsewhere
      at (token.refused n) e = elsewhere

  if-number : (then : ℕ → Step) (other : Step) → ((n : ℕ) → t.token ≡ token.number n → Outcome ns t x (then n)) → Outcome ns t x other → Outcome ns t x (if_number t.token then other)
  unfolding if_number
  if-number then other f g = at t.token refl
    where
      at : (u : Token) → t.token ≡ u → Outcome ns t x (if_number u then other)
      at (token.name s) e = g
      at (token.word w) e = g
      at (token.number n) e = f n e
      at (token.sign n) e = g
      at token.end e = g
      at (token.refused n) e = g

  on-number : (then : ℕ → Step) → ((n : ℕ) → t.token ≡ token.number n → Outcome ns t x (then n)) → Outcome ns t x (on_number t then)
  unfolding on_number
  on-number then f = if-number then (not_here t) f elsewhere

  on-known : (i s : ℕ → ℕ → Step) (ds : List Literal → Step) (p : Exp → Step)
      → ((n : List ℕ) → t.token ≡ token.name n → (a b : ℕ) → Stands ns n (an_input a b) → Outcome ns t x (i a b))
      → ((n : List ℕ) → t.token ≡ token.name n → (a b : ℕ) → Stands ns n (a_store a b) → Outcome ns t x (s a b))
      → ((n : List ℕ) → t.token ≡ token.name n → (ls : List Literal) → Stands ns n (a_define ls) → Outcome ns t x (ds ls))
      → ((n : List ℕ) → t.token ≡ token.name n → (e : Exp) → Stands ns n (a_production e) → Outcome ns t x (p e)) → Outcome ns t x (known ns t i s ds p)
  unfolding known
  on-known i s ds p pi ps pd pp =
      on-name (λ n. by_kind (lookup n ns.declared) i s ds p (at_token unknown t))
      (λ n h. of-kind (Outcome ns t x) (lookup n ns.declared) i s ds p (at_token unknown t) (pi n h) (ps n h) (pd n h) (pp n h) (own unknown))

  -- a wire's name keeps its bytes
  wire-goes : {c : Context} {ls : List Literal} {lo w v : ℕ} (n : List ℕ) → t.token ≡ token.name n → ByName ns t.place n x (wire_more c ls n lo w v t.place)
      → Outcome ns t x (go ns (wire_more c ls (Reading.spelling_of t.token) lo w v t.place))
  wire-goes {c} {ls} {lo} {w} {v} n h y =
      subst (λ s. Outcome ns t x (go ns (wire_more c ls s lo w v t.place))) (sym (ap Reading.spelling_of h)) (goes h (by_name y))

  on-new : (no_wire full : Bool) (y : List ℕ → Expect) → ((s : List ℕ) → Free ns s → no_wire ≡ false → full ≡ false → ByName ns t.place s x (y s))
      → Outcome ns t x (new_name ns t no_wire full (λ s. go ns (y s)))
  unfolding new_name
  on-new no_wire full y f =
      on-name _ (λ s h. right _ twice _ (λ e. right no_wire oversize _ (λ k. right _ crowded _ (λ g.
      goes h (by_name (f s (unknown-none (lookup s ns.declared) e, leb-false 128 (length ns.declared) (or_right full _ g)) k (or_left full _ g)))))))

  on-right-paren : (o : Open) (e : Exp) (b : Bool) (ls : List Level) → BehindOperand x o e b → o.outer ≡ ls → t.token ≡ token.sign right_paren
      → Outcome ns t x (Reading.on_right_paren ns o e ls t)
  on-right-paren o e b [] d h k = elsewhere
  on-right-paren o e b (l ∷ ls) d h k = goes k (by_sign (level_closed d h))

  on-semicolon : (o : Open) (e : Exp) (b : Bool) (ls : List Level) → BehindOperand x o e b → o.outer ≡ ls → t.token ≡ token.sign semicolon
      → Outcome ns t x (Reading.on_semicolon ns o e ls t)
  on-semicolon o e b [] d h k = goes k (by_sign (produced d h))
  on-semicolon o e b (l ∷ ls) d h k = elsewhere

  behind-operand : (o : Open) (e : Exp) (b : Bool) → BehindOperand x o e b → Outcome ns t x (behind_operand ns o e b t)
  unfolding behind_operand
  behind-operand o e b d =
      sign-and _ _ _ _ _ (λ h. starred d (not-true b h))
      (sign-and _ _ _ _ _ (λ h. piped d (no-left o.level.left h))
      (sign-to _ _ _ _ (followed d)
      (sign-to _ _ _ _ (or_else d)
      (on-sign _ _ _ (on-right-paren o e b o.outer d refl)
      (on-sign _ _ _ (on-semicolon o e b o.outer d refl) elsewhere)))))

  behind-literal : (c : Context) (ls : List Literal) → BehindLiterals x c ls → Outcome ns t x (behind_literal ns c ls t)
  unfolding behind_literal
  behind-literal (in_define s) ls d = sign-to _ _ _ _ (joined d) (sign-to _ _ _ _ (defined d) elsewhere)
  behind-literal (in_letter o) ls d = sign-to _ _ _ _ (joined d) (sign-to _ _ _ _ (writing d) (behind-operand o _ false (letters d)))

  literal-name : (c : Context) (ls : List Literal) (pr : Exp → Step) → LiteralNext x c ls
      → ((n : List ℕ) → t.token ≡ token.name n → (e : Exp) → Stands ns n (a_production e) → Outcome ns t x (pr e)) → Outcome ns t x (literal_name ns c ls t pr)
  unfolding literal_name
  literal-name c ls pr d f =
      on-known _ _ _ _ (λ n h lo w e. wire-goes n h (of_wire d e)) (λ n h i w e. right _ crowded _ (λ k. goes h (by_name (of_store d e k))))
      (λ n h ds e. right _ crowded _ (λ k. goes h (by_name (of_define d e k)))) f

  write-name : (o : Open) (ls : List Literal) (ws : List Write) → WriteNext x o ls ws → Outcome ns t x (Reading.written_store ns o ls ws t)
  write-name o ls ws d =
      on-known _ _ _ _ (λ n h a b e. own _) (λ n h i w e. right _ crowded _ (λ k. goes h (by_name (store_written d e (leb-false 2 (length ws) k)))))
      (λ n h ds e. own _) (λ n h p e. own _)

module _ {ns : Names} {t : Placed} where
  begins : (u : Token) → t.token ≡ u → Outcome ns t statement (Reading.begin ns t u)
  begins (token.name s) e = on-new false false _ (λ s f k l. name_of_production f)
  begins (token.word token.input) e = goes e (by_word begins_input)
  begins (token.word token.internal) e = goes e (by_word begins_store)
  begins (token.word token.define) e = goes e (by_word begins_define)
  begins (token.word token.monitor) e = goes e (by_word begins_monitor)
  begins (token.word token.past) e = elsewhere
  begins (token.word token.limit) e = right _ crowded _ (λ k. goes e (by_word (begins_limit (leb-false 8 (length ns.limits) k))))
  begins (token.word token.to) e = elsewhere
  begins (token.word token.inside) e = elsewhere
  begins (token.number n) e = elsewhere
  begins (token.sign n) e = elsewhere
  begins token.end e = elsewhere
  begins (token.refused n) e = elsewhere

  -- the name of a production with the expression e, that is limited
  of-single : (s : List ℕ) → t.token ≡ token.name s → (e : Exp) → Stands ns s (a_production e) → (m : Option ℕ) → single e ≡ m → Outcome ns t limit_name (Reading.of_single ns t m)
  of-single s h e k none f = own _
  of-single s h e k (some p) f = goes h (by_name (limited k f))

  ends : (ms : List Exp) (u : Token) → t.token ≡ u → Outcome ns t (text_end ms) (Reading.at_end ns ms t u)
  ends ms (token.name s) e = elsewhere
  ends ms (token.word w) e = elsewhere
  ends ms (token.number n) e = elsewhere
  ends ms (token.sign n) e = elsewhere
  ends ms token.end e = ended e
  ends ms (token.refused n) e = elsewhere

-- What comes of judging a token is one of these.
pub outcome : (ns : Names) (t : Placed) (x : Expect) → Outcome ns t x (step ns x t)
unfolding step
outcome ns t statement = begins t.token refl
outcome ns t (sign k x) = sign-to _ _ _ _ expected elsewhere
outcome ns t (keyword w x) = word-to _ _ _ expected_word elsewhere
outcome ns t (nought x) =
    on-number _ (λ n h.
    of-choose (Outcome ns t (nought x)) (eqb n 0) _ _
    (λ e. goes (subst (λ m. t.token ≡ token.number m) (eqb-true n 0 e) h) (by_number zero_read)) (λ e. elsewhere))
outcome ns t (closing d) = sign-to _ _ _ _ closed elsewhere
outcome ns t input_name = on-new _ _ _ (λ s f k l. name_of_input f (leb-false 64 ns.wires k))
outcome ns t (input_more s) = sign-to _ _ _ _ narrow_input (sign-to _ _ _ _ wide_input elsewhere)
outcome ns t (input_high s) =
    on-number _ (λ h e. right _ oversize _ (λ k.
    goes e (by_number (input_width (ltb-false 63 h (or_left (ltb 63 h) (ltb 64 (ns.wires + suc h)) k)) (ltb-false 64 (ns.wires + suc h) (or_right (ltb 63 h) (ltb 64 (ns.wires + suc h)) k))))))
outcome ns t store_name = on-new _ _ _ (λ s f k l. name_of_store f (leb-false 16 (length ns.initial) l))
outcome ns t (store_more s) = sign-to _ _ _ _ narrow_store (sign-to _ _ _ _ wide_store elsewhere)
outcome ns t (store_high s) =
    on-number _ (λ h e. right _ oversize _ (λ k. goes e (by_number (store_width (ltb-false 63 h k)))))
outcome ns t (store_first s w) =
    on-number _ (λ v e. right _ oversize _ (λ k. goes e (by_number (first_value (leb-false (2 ^ w) v k)))))
outcome ns t define_name = on-new _ _ _ (λ s f k l. name_of_define f)
outcome ns t limit_name = on-known _ _ _ _ (λ n h a b e. own _) (λ n h a b e. own _) (λ n h ds e. own _) (λ n h e k. of-single n h e k (single e) refl)
outcome ns t (limit_most p) =
    on-number _ (λ n e. right _ stretch _ (λ k. goes e (by_number (most_of_limit (ltb-false 1023 n k)))))
outcome ns t (limit_window p n) =
    on-number _ (λ w e. right _ stretch _ (λ k.
    goes e (by_number (window_of_limit (leb-false w n (or_left (leb w n) (ltb 1024 w) k)) (ltb-false 1024 w (or_right (leb w n) (ltb 1024 w) k))))))
outcome ns t (operand o) =
    on-sign _ _ _ (λ e. right _ crowded _ (λ k. goes e (by_sign (opened (leb-false 32 (length o.outer) k)))))
    (sign-to _ _ _ _ (negation first_literal)
    (literal-name (in_letter o) [] _ first_literal (λ n h e k. goes h (by_name (by_production k)))))
outcome ns t (literal c ls) =
    sign-to _ _ _ _ (negation more_literals) (literal-name c ls _ more_literals (λ n h e k. own _))
outcome ns t (negated c ls) =
    on-known _ _ _ _ (λ n h lo w e. wire-goes n h (of_negated e)) (λ n h a b e. own _)
    (λ n h ds e. own _) (λ n h p e. own _)
outcome ns t (wire_more c ls s lo w v p) =
    sign-to _ _ _ _ index
    (on-sign _ _ _ (λ e.
    of-choose (Outcome ns t (wire_more c ls s lo w v p)) (eqb v 1) _ _ (λ k. goes e (by_sign (compared (eqb-true v 1 k)))) (λ k. elsewhere))
    (of-choose (Outcome ns t (wire_more c ls s lo w v p)) (eqb w 1) _ _ (λ k. behind-literal c _ (one_wire (eqb-true w 1 k)))
    (λ k. late)))
outcome ns t (bit_index c ls lo w v) =
    on-number _ (λ i e. right _ oversize _ (λ k. goes e (by_number (index_of_bit (leb-false w i k)))))
outcome ns t (wire_equals c ls s lo w) =
    if-number _ _ (λ v e.
    right _ oversize _ (λ k. goes e (by_number (wire_value (leb-false (2 ^ w) v k)))))
    (word-to _ _ _ compared_past
    (on-known _ _ _ _ (λ n h a b e. own _)
    (λ n h i m e. right _ oversize _ (λ k. right _ crowded _ (λ l.
    goes h (by_name (equal_store (subst (λ z. Stands ns n (a_store i z)) (eqb-true m w (not-false (eqb m w) k)) e) l)))))
    (λ n h ds e. own _) (λ n h p e. own _)))
outcome ns t (past_name c ls s lo w) =
    on-name _ (λ n h.
    of-choose (Outcome ns t (past_name c ls s lo w)) (same n s) _ _
    (λ k. goes (subst (λ m. t.token ≡ token.name m) (same-eq n s k) h) (by_name same_wire)) (λ k. elsewhere))
outcome ns t (store_equals c ls i w) =
    on-number _ (λ v e. right _ oversize _ (λ k. goes e (by_number (store_value (leb-false (2 ^ w) v k)))))
outcome ns t (literal_more c ls) = behind-literal c ls literals
outcome ns t (write_store o ls ws) = write-name o ls ws first_write
outcome ns t (write_value o ls ws i w) =
    if-number _ _ (λ v e.
    right _ oversize _ (λ k. goes e (by_number (number_written (leb-false (2 ^ w) v k)))))
    (on-known _ _ _ _
    (λ n h lo m e. right _ oversize _ (λ k. goes h (by_name (wire_written e (eqb-true m w (not-false (eqb m w) k))))))
    (λ n h a b e. own _) (λ n h ds e. own _) (λ n h p e. own _))
outcome ns t (write_more o ls ws) = sign-to _ _ _ _ written (write-name o ls ws more_writes)
outcome ns t (operand_more o e b) = behind-operand o e b operands
outcome ns t (monitor_name ms) =
    on-known _ _ _ _ (λ n h a b e. own _) (λ n h a b e. own _) (λ n h ds e. own _)
    (λ n h e k. right _ crowded _ (λ l. goes h (by_name (monitored k (leb-false 32 (length ms) l)))))
outcome ns t (monitor_more ms) = sign-to _ _ _ _ more_monitors (sign-to _ _ _ _ all_monitors elsewhere)
outcome ns t (text_end ms) = ends ms t.token refl

-- ---- what each step keeps holds of what is read

module _ (Kept : Names → Expect → Type 0) (Got : Program → Type 0)
    (on : (ns ms : Names) (place : ℕ) (u : Token) (x y : Expect) → Next ns place u x ms y → Kept ns x → Kept ms y)
    (at-end : (ns : Names) (ms : List Exp) → Kept ns (text_end ms) → Got (program_of ns ms)) where
  by-outcome : {ns : Names} {t : Placed} {x : Expect} {s : Step} (next : Names → Expect → Answer Program) (p : Program) → Outcome ns t x s → Kept ns x
      → ((ms : Names) (y : Expect) → Kept ms y → next ms y ≡ value p → Got p) → and_then s next ≡ value p → Got p
  by-outcome next p refusal k f e = clash (cc)
  by-outcome next p late k f e = clash (cc)
  by-outcome {ns} next p (ended {ms} h) k f e = let q : program_of ns ms ≡ p = cc in subst Got q (at-end ns ms k)
  by-outcome next p (goes {y} {ms} h n) k f e = f ms y (on _ ms _ _ _ y n k) e

  kept_on : (ts : List Placed) (ns : Names) (x : Expect) (p : Program) → Kept ns x → read_on ns x ts ≡ value p → Got p
  unfolding read_on
  kept_on [] ns x p k e = clash (cc)
  kept_on (t ∷ ts) ns x p k e = by-outcome (λ ms y. read_on ms y ts) p (outcome ns t x) k (λ ms y h f. kept_on ts ms y p h f) e

  pub kept : (text : List ℕ) (p : Program) → Kept no_names statement → read text ≡ value p → Got p
  unfolding read
  kept text p k e = by (ltb 16384 (length text)) e
    where
      by : (b : Bool) → cond b (refused overlong (byte 0)) (read_on no_names statement (tokens rule_words text)) ≡ value p → Got p
      by true f = clash (cc)
      by false f = kept_on (tokens rule_words text) no_names statement p k f
