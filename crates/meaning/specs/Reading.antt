-- Reading a rule text (docs/REFERENCE.md, X2 to X8). X3: "Each token is judged by those before it alone": what is expected next, and what has been declared so far, is all
-- that reading keeps. So X2: "the earliest token with a fault is told". A wire that is bare (G10) is refused when the next token shows it.
-- Assumes nothing.
use Rattle.std.specs.Prelude.{Bool, true, false, not, cond, ◌&&◌, ◌||◌, List, [], ◌∷◌, ◌++◌, ℕ, suc, ◌+◌, ◌^◌, eqb, leb, ltb, length}
use Rattle.std.proofs.Math.Option.{Option, none, some}
use Rattle.lexer.specs.Bytes.{same, lookup}
use Rattle.lexer.specs.Signs.{semicolon, comma, at_sign, star as asterisk, ampersand, bang, left_paren, right_paren, left_bracket, right_bracket, left_brace, right_brace, colon, equals, double_equals, double_bar, right_arrow, left_arrow}
use Rattle.lexer.specs.Tokens as token
use Rattle.lexer.specs.Tokens.{Token, Placed, rule_words, tokens}
use Rattle.meaning.specs.Names.{Meaning, an_input, a_store, a_define, a_production, Names, no_names, Declaration, new_input, new_store, new_define, new_production, new_limit, declare, Program, program_of}
use Rattle.meaning.specs.Expression.{store_tests, a_letter, single, Literal, wire, wire_store, wire_past, store, Write, from_wire, from_number, Exp, seq, alt, star, pipe}
use Rattle.meaning.specs.Answers.{Answer, value, refused, byte}
use Rattle.refusals.specs.Numbers.{overlong, misplaced, unknown, twice, oversize, crowded, stretch, not_single}

-- ---- an expression that is being read

-- One level of parentheses: what stands left of the last `||`, of the last `,` behind that, and of an `@` behind that.
pub record Level : Type 0 where
  pub alts : Option Exp
  pub seqs : Option Exp
  pub left : Option Exp

abbrev pub new_level : Level
new_level = record { alts = none; seqs = none; left = none }

-- A production that is being read: its name, the innermost open level and those around it.
pub record Open : Type 0 where
  pub name : List ℕ
  pub level : Level
  pub outer : List Level

abbrev pub on_level : Open → Level → Open
on_level o l = record { name = o.name; level = l; outer = o.outer }

abbrev pub join : (Exp → Exp → Exp) → Option Exp → Exp → Exp
join op none e = e
join op (some d) e = op d e

-- what the operand e makes with an `@`, with the `,` and with the `||` before it; G17: "The last two group to the left"
abbrev pub piped : Level → Exp → Exp
piped l e = join pipe l.left e

abbrev pub sequenced : Level → Exp → Exp
sequenced l e = join seq l.seqs (piped l e)

abbrev pub whole : Level → Exp → Exp
whole l e = join alt l.alts (sequenced l e)

abbrev pub behind_at : Level → Exp → Level
behind_at l e = record { alts = l.alts; seqs = l.seqs; left = some e }

abbrev pub behind_comma : Level → Exp → Level
behind_comma l e = record { alts = l.alts; seqs = some (sequenced l e); left = none }

abbrev pub behind_bars : Level → Exp → Level
behind_bars l e = record { alts = some (whole l e); seqs = none; left = none }

-- ---- what is expected next

-- literals stand in a define or in a letter
pub data Context : Type 0 where
  in_define : List ℕ → Context
  in_letter : Open → Context

-- X8: the places of a text
pub data Expect : Type 0 where
  -- a declaration, or the monitor statement
  statement : Expect
  -- this sign, and then what follows it
  sign : ℕ → Expect → Expect
  -- this reserved word, and then what follows it
  keyword : token.Word → Expect → Expect
  -- the number 0, and then what follows it
  nought : Expect → Expect
  -- `;`, with which the declaration stands
  closing : Declaration → Expect
  -- behind `input`, behind its name, and h
  input_name : Expect
  input_more : List ℕ → Expect
  input_high : List ℕ → Expect
  -- behind `internal`, behind its name, h, and the first value
  store_name : Expect
  store_more : List ℕ → Expect
  store_high : List ℕ → Expect
  store_first : List ℕ → (width : ℕ) → Expect
  -- behind `define`
  define_name : Expect
  -- behind `limit`, and its two numbers
  limit_name : Expect
  limit_most : (production : ℕ) → Expect
  limit_window : (production most : ℕ) → Expect
  -- what an operator works on: a letter, a production's name or a parenthesis
  operand : Open → Expect
  -- a literal behind those there are, and its name behind `!`
  literal : Context → List Literal → Expect
  negated : Context → List Literal → Expect
  -- behind the name of a wire, which has its bytes and its place, and is to be `value` where it is a literal by itself
  wire_more : Context → List Literal → List ℕ → (lo width value place : ℕ) → Expect
  -- i of `N[i]`, and what a wire, whose name has these bytes, or a store is compared with
  bit_index : Context → List Literal → (lo width value : ℕ) → Expect
  wire_equals : Context → List Literal → List ℕ → (lo width : ℕ) → Expect
  store_equals : Context → List Literal → (number width : ℕ) → Expect
  -- the same wire's name behind `past(`
  past_name : Context → List Literal → List ℕ → (lo width : ℕ) → Expect
  -- behind a literal
  literal_more : Context → List Literal → Expect
  -- the name of a written store, what is written, and behind a write
  write_store : Open → List Literal → List Write → Expect
  write_value : Open → List Literal → List Write → (number width : ℕ) → Expect
  write_more : Open → List Literal → List Write → Expect
  -- behind an operand, which has its `*` or not
  operand_more : Open → Exp → (starred : Bool) → Expect
  -- a monitor's name, behind it, and the end of the text
  monitor_name : List Exp → Expect
  monitor_more : List Exp → Expect
  text_end : List Exp → Expect

-- what a token leads to; X1: "A refusal is a number and a place."
pub data Step : Type 0 where
  go : Names → Expect → Step
  finished : Program → Step
  fault : (number place : ℕ) → Step

-- ---- judging a token

-- X4: "A knot is refusal 2 wherever it is come to. Any other token that X8 does not allow where it stands is refusal 3, misplaced, and so is the end."
abbrev pub number_of : Token → ℕ
number_of (token.name s) = misplaced
number_of (token.word w) = misplaced
number_of (token.number n) = misplaced
number_of (token.sign n) = misplaced
number_of token.end = misplaced
number_of (token.refused n) = n

unfoldable pub not_here : Placed → Step
not_here t = fault (number_of t.token) t.place

-- X2: "The place is the token's first byte"
unfoldable pub at_token : ℕ → Placed → Step
at_token number t = fault number t.place

-- one step or another
unfoldable pub choose : Bool → Step → Step → Step
choose true a b = a
choose false a b = b

abbrev pub is_sign : ℕ → Token → Bool
is_sign k (token.name s) = false
is_sign k (token.word w) = false
is_sign k (token.number n) = false
is_sign k (token.sign n) = eqb k n
is_sign k token.end = false
is_sign k (token.refused n) = false

abbrev pub is : ℕ → Placed → Bool
is k t = is_sign k t.token

unfoldable pub if_name : Token → (List ℕ → Step) → Step → Step
if_name (token.name s) then other = then s
if_name (token.word w) then other = other
if_name (token.number n) then other = other
if_name (token.sign n) then other = other
if_name token.end then other = other
if_name (token.refused n) then other = other

-- the reserved words by number, in the order of T4
abbrev pub ordinal : token.Word → ℕ
ordinal token.input = 0
ordinal token.internal = 1
ordinal token.define = 2
ordinal token.monitor = 3
ordinal token.past = 4
ordinal token.limit = 5
ordinal token.to = 6
ordinal token.inside = 7

abbrev pub is_word : token.Word → Token → Bool
is_word w (token.name s) = false
is_word w (token.word v) = eqb (ordinal w) (ordinal v)
is_word w (token.number n) = false
is_word w (token.sign n) = false
is_word w token.end = false
is_word w (token.refused n) = false

-- X4: "A reserved word is no name: where a name is wanted it is 3."
unfoldable pub on_name : Placed → (List ℕ → Step) → Step
on_name t then = if_name t.token then (not_here t)

unfoldable pub if_number : Token → (ℕ → Step) → Step → Step
if_number (token.name s) then other = other
if_number (token.word w) then other = other
if_number (token.number n) then other = then n
if_number (token.sign n) then other = other
if_number token.end then other = other
if_number (token.refused n) then other = other

unfoldable pub on_number : Placed → (ℕ → Step) → Step
on_number t then = if_number t.token then (not_here t)

-- the first fault that holds, X2: "if it has several the lowest number", else what follows
unfoldable pub unless : Bool → ℕ → Placed → Step → Step
unless wrong number t next = choose wrong (at_token number t) next

abbrev pub is_known : Option Meaning → Bool
is_known none = false
is_known (some m) = true

-- A new name. X5: "A name to be declared that is declared already, as whatever kind, is refusal 5"; X6: 6 "at the name to be declared, if 64 wires stand already"; X7: 7 at
-- "the 129th name or the 17th store".
unfoldable pub new_name : Names → Placed → (no_wire full : Bool) → (List ℕ → Step) → Step
new_name ns t no_wire full next =
    on_name t (λ s.
    unless (is_known (lookup s ns.declared)) twice t
    (unless no_wire oversize t
    (unless (full || leb 128 (length ns.declared)) crowded t (next s))))

-- by the kind of a name (N1)
unfoldable pub by_kind : Option Meaning → (ℕ → ℕ → Step) → (ℕ → ℕ → Step) → (List Literal → Step) → (Exp → Step) → Step → Step
by_kind none i s d p other = other
by_kind (some (an_input lo width)) i s d p other = i lo width
by_kind (some (a_store n width)) i s d p other = s n width
by_kind (some (a_define ls)) i s d p other = d ls
by_kind (some (a_production e)) i s d p other = p e

-- X4: "a name of another kind, and one that is not declared, is refusal 4, unknown"
unfoldable pub known : Names → Placed → (ℕ → ℕ → Step) → (ℕ → ℕ → Step) → (List Literal → Step) → (Exp → Step) → Step
known ns t i s d p = on_name t (λ n. by_kind (lookup n ns.declared) i s d p (at_token unknown t))

-- a name of another kind than is allowed here (X4)
abbrev pub no_pair : Placed → ℕ → ℕ → Step
no_pair t a b = at_token unknown t

abbrev pub no_literals : Placed → List Literal → Step
no_literals t ls = at_token unknown t

abbrev pub no_exp : Placed → Exp → Step
no_exp t e = at_token unknown t

-- ---- literals

-- N7: so many more are too many for a letter, whose tests are counted "with those that its defines stand for". "A define by itself may hold any number of them".
abbrev pub too_many : Context → List Literal → ℕ → Bool
too_many (in_define s) ls more = false
too_many (in_letter o) ls more = ltb 2 (store_tests ls + more)

-- the bytes of a name; none for any other token, of which they are not asked
abbrev pub spelling_of : Token → List ℕ
spelling_of (token.name s) = s
spelling_of (token.word w) = []
spelling_of (token.number n) = []
spelling_of (token.sign n) = []
spelling_of token.end = []
spelling_of (token.refused n) = []

-- a literal more
abbrev pub with_literal : Names → Context → List Literal → Literal → Step
with_literal ns c ls l = go ns (literal_more c (ls ++ (l ∷ [])))

-- the name that begins a literal; `pr` is what a production's name leads to here. X7: "the name that takes a letter's store tests beyond two". G13: "Behind the name of
-- a store that begins a literal stands `==`".
unfoldable pub literal_name : Names → Context → List Literal → Placed → (Exp → Step) → Step
literal_name ns c ls t pr =
    known ns t
    (λ lo width. go ns (wire_more c ls (spelling_of t.token) lo width 1 t.place))
    (λ s width. unless (too_many c ls 1) crowded t (go ns (sign double_equals (store_equals c ls s width))))
    (λ ds. unless (too_many c ls (store_tests ds)) crowded t (go ns (literal_more c (ls ++ ds))))
    pr

-- ---- behind an operand

-- the levels around; G16: "a `)` if a parenthesis of this production is open, and the production's `;` if none is"
abbrev pub on_right_paren : Names → Open → Exp → List Level → Placed → Step
on_right_paren ns o e [] t = not_here t
on_right_paren ns o e (l ∷ ls) t = go ns (operand_more (record { name = o.name; level = l; outer = ls }) (whole o.level e) false)

abbrev pub on_semicolon : Names → Open → Exp → List Level → Placed → Step
on_semicolon ns o e [] t = go (declare (new_production o.name (whole o.level e)) ns) statement
on_semicolon ns o e (l ∷ ls) t = not_here t

abbrev pub is_none : Option Exp → Bool
is_none none = true
is_none (some e) = false

-- G16: "Behind an operand may stand `*`, `@`, `,`, `||`". G18: "An operand takes one `*`". G19: "one `@` at most".
unfoldable pub behind_operand : Names → Open → Exp → Bool → Placed → Step
behind_operand ns o e starred t =
    choose (is asterisk t && not starred) (go ns (operand_more o (star e) true))
    (choose (is at_sign t && is_none o.level.left) (go ns (operand (on_level o (behind_at o.level e))))
    (choose (is comma t) (go ns (operand (on_level o (behind_comma o.level e))))
    (choose (is double_bar t) (go ns (operand (on_level o (behind_bars o.level e))))
    (choose (is right_paren t) (on_right_paren ns o e o.outer t)
    (choose (is semicolon t) (on_semicolon ns o e o.outer t)
    (not_here t))))))

-- X8: "behind a literal (its name, `]`, or what is right of `==`) in a define | `&` `;`", "behind a literal in a letter | `&` `{`; as behind an operand"
unfoldable pub behind_literal : Names → Context → List Literal → Placed → Step
behind_literal ns (in_define s) ls t =
    choose (is ampersand t) (go ns (literal (in_define s) ls))
    (choose (is semicolon t) (go (declare (new_define s ls) ns) statement) (not_here t))
behind_literal ns (in_letter o) ls t =
    choose (is ampersand t) (go ns (literal (in_letter o) ls))
    (choose (is left_brace t) (go ns (write_store o ls [])) (behind_operand ns o (a_letter ls []) false t))

-- ---- one token

-- G20: "They nest 32 deep". X7: 7 "at the `(` that would be the 33rd open one".
abbrev pub open_paren : Names → Open → Placed → Step
open_paren ns o t =
    unless (leb 32 (length o.outer)) crowded t
    (go ns (operand (record { name = o.name; level = new_level; outer = o.level ∷ o.outer })))

-- G14: "one or two writes". X7: 7 "at the written store of a letter's third write".
abbrev pub written_store : Names → Open → List Literal → List Write → Placed → Step
written_store ns o ls ws t =
    known ns t (no_pair t)
    (λ s width. unless (leb 2 (length ws)) crowded t (go ns (sign left_arrow (write_value o ls ws s width))))
    (no_literals t) (no_exp t)

-- `:0]`, and then what follows; G5: "A number with another value is refusal 3 there."
abbrev pub to_zero : Expect → Expect
to_zero x = sign colon (nought (sign right_bracket x))

-- ---- limits

-- G22: "any other production is refusal 22, at its name"
abbrev pub of_single : Names → Placed → Option ℕ → Step
of_single ns t none = at_token not_single t
of_single ns t (some p) = go ns (keyword token.to (limit_most p))

-- X7: 7 "at the word `limit` of a ninth limit", whatever follows it
abbrev pub new_limit_name : Names → Placed → Step
new_limit_name ns t = unless (leb 8 (length ns.limits)) crowded t (go ns limit_name)

-- a word that begins a statement; `past`, `to` and `in` begin none
abbrev pub of_word : Names → Placed → token.Word → Step
of_word ns t token.input = go ns input_name
of_word ns t token.internal = go ns store_name
of_word ns t token.define = go ns define_name
of_word ns t token.monitor = go ns (monitor_name [])
of_word ns t token.past = not_here t
of_word ns t token.limit = new_limit_name ns t
of_word ns t token.to = not_here t
of_word ns t token.inside = not_here t

-- the name of a production begins its statement; X5: 5 "before it is seen whether `->` follows"
abbrev pub of_production : Names → Placed → Step
of_production ns t = new_name ns t false false (λ s. go ns (sign right_arrow (operand (record { name = s; level = new_level; outer = [] }))))

-- X8: "a statement's beginning | `input`, `internal`, `define`, `limit`, `monitor`; a name, for a production"
abbrev pub begin : Names → Placed → Token → Step
begin ns t (token.name s) = of_production ns t
begin ns t (token.word w) = of_word ns t w
begin ns t (token.number n) = not_here t
begin ns t (token.sign n) = not_here t
begin ns t token.end = not_here t
begin ns t (token.refused n) = not_here t

-- G2: "One monitor statement follows and ends the text."
abbrev pub at_end : Names → List Exp → Placed → Token → Step
at_end ns ms t (token.name s) = not_here t
at_end ns ms t (token.word w) = not_here t
at_end ns ms t (token.number n) = not_here t
at_end ns ms t (token.sign n) = not_here t
at_end ns ms t token.end = finished (program_of ns ms)
at_end ns ms t (token.refused n) = not_here t

-- X8: "What may stand at each place of a text, and the faults that an allowed token can have there". The places of 6 are those of X6. At `wire_more`, G10: "A wire wider
-- than one, with or without `!`, is bare if the next token, be it a knot or the end, is neither `[` nor `==`: refusal 6 at its name."; G9: "`!N == ..` is no literal". At
-- `past_name`, X4: "Behind `past(` X8 allows no kind but one spelling, and every other name is 3 there."
unfoldable pub step : Names → Expect → Placed → Step
step ns statement t = begin ns t t.token
step ns (sign k x) t = choose (is k t) (go ns x) (not_here t)
step ns (keyword w x) t = choose (is_word w t.token) (go ns x) (not_here t)
step ns (nought x) t = on_number t (λ n. choose (eqb n 0) (go ns x) (not_here t))
step ns (closing d) t = choose (is semicolon t) (go (declare d ns) statement) (not_here t)
step ns input_name t = new_name ns t (leb 64 ns.wires) false (λ s. go ns (input_more s))
step ns (input_more s) t =
    choose (is semicolon t) (go (declare (new_input s 1) ns) statement) (choose (is left_bracket t) (go ns (input_high s)) (not_here t))
step ns (input_high s) t =
    on_number t (λ h. unless (ltb 63 h || ltb 64 (ns.wires + suc h)) oversize t (go ns (to_zero (closing (new_input s (suc h))))))
step ns store_name t = new_name ns t false (leb 16 (length ns.initial)) (λ s. go ns (store_more s))
step ns (store_more s) t = choose (is equals t) (go ns (store_first s 1)) (choose (is left_bracket t) (go ns (store_high s)) (not_here t))
step ns (store_high s) t =
    on_number t (λ h. unless (ltb 63 h) oversize t (go ns (to_zero (sign equals (store_first s (suc h))))))
step ns (store_first s width) t = on_number t (λ v. unless (leb (2 ^ width) v) oversize t (go ns (closing (new_store s width v))))
step ns define_name t = new_name ns t false false (λ s. go ns (sign equals (literal (in_define s) [])))
step ns limit_name t = known ns t (no_pair t) (no_pair t) (no_literals t) (λ e. of_single ns t (single e))
step ns (limit_most p) t = on_number t (λ n. unless (ltb 1023 n) stretch t (go ns (keyword token.inside (limit_window p n))))
step ns (limit_window p n) t = on_number t (λ w. unless (leb w n || ltb 1024 w) stretch t (go ns (closing (new_limit p n w))))
step ns (operand o) t =
    choose (is left_paren t) (open_paren ns o t)
    (choose (is bang t) (go ns (negated (in_letter o) []))
    (literal_name ns (in_letter o) [] t (λ e. go ns (operand_more o e false))))
step ns (literal c ls) t = choose (is bang t) (go ns (negated c ls)) (literal_name ns c ls t (no_exp t))
step ns (negated c ls) t =
    known ns t (λ lo width. go ns (wire_more c ls (spelling_of t.token) lo width 0 t.place)) (no_pair t) (no_literals t) (no_exp t)
step ns (wire_more c ls s lo width v p) t =
    choose (is left_bracket t) (go ns (bit_index c ls lo width v))
    (choose (is double_equals t) (choose (eqb v 1) (go ns (wire_equals c ls s lo width)) (not_here t))
    (choose (eqb width 1) (behind_literal ns c (ls ++ (wire lo 1 v ∷ [])) t) (fault oversize p)))
step ns (bit_index c ls lo width v) t =
    on_number t (λ i. unless (leb width i) oversize t (go ns (sign right_bracket (literal_more c (ls ++ (wire (lo + i) 1 v ∷ []))))))
step ns (wire_equals c ls s lo width) t =
    if_number t.token (λ v. unless (leb (2 ^ width) v) oversize t (with_literal ns c ls (wire lo width v)))
    (choose (is_word token.past t.token) (go ns (sign left_paren (past_name c ls s lo width)))
    (known ns t (no_pair t)
    (λ n w. unless (not (eqb w width)) oversize t (unless (too_many c ls 1) crowded t (with_literal ns c ls (wire_store lo width n))))
    (no_literals t) (no_exp t)))
step ns (past_name c ls s lo width) t =
    on_name t (λ n. choose (same n s) (go ns (sign right_paren (literal_more c (ls ++ (wire_past lo width ∷ []))))) (not_here t))
step ns (store_equals c ls s width) t =
    on_number t (λ v. unless (leb (2 ^ width) v) oversize t (with_literal ns c ls (store s v)))
step ns (literal_more c ls) t = behind_literal ns c ls t
step ns (write_store o ls ws) t = written_store ns o ls ws t
step ns (write_value o ls ws s width) t =
    if_number t.token
    (λ v. unless (leb (2 ^ width) v) oversize t (go ns (sign semicolon (write_more o ls (ws ++ (from_number s v ∷ []))))))
    (known ns t
    (λ lo w. unless (not (eqb w width)) oversize t (go ns (sign semicolon (write_more o ls (ws ++ (from_wire s lo w ∷ []))))))
    (no_pair t) (no_literals t) (no_exp t))
step ns (write_more o ls ws) t = choose (is right_brace t) (go ns (operand_more o (a_letter ls ws) false)) (written_store ns o ls ws t)
step ns (operand_more o e starred) t = behind_operand ns o e starred t
step ns (monitor_name ms) t =
    known ns t (no_pair t) (no_pair t) (no_literals t) (λ e. unless (leb 32 (length ms)) crowded t (go ns (monitor_more (ms ++ (e ∷ [])))))
step ns (monitor_more ms) t = choose (is comma t) (go ns (monitor_name ms)) (choose (is semicolon t) (go ns (text_end ms)) (not_here t))
step ns (text_end ms) t = at_end ns ms t t.token

-- ---- the whole text

-- X3: "nothing behind a fault changes the answer"
abbrev pub and_then : Step → (Names → Expect → Answer Program) → Answer Program
and_then (go ns x) next = next ns x
and_then (finished p) next = value p
and_then (fault number place) next = refused number (byte place)

-- The last token is the end or a refusal, behind which nothing is read (proofs/Stops): the first line answers for a list without them, which no text has.
unfoldable pub read_on : Names → Expect → List Placed → Answer Program
read_on ns x [] = refused misplaced (byte 0)
read_on ns x (t ∷ ts) = and_then (step ns x t) (λ ms y. read_on ms y ts)

-- T1: "a text with more is refusal 1"; X2: "Refusal 1 comes before all others."
unfoldable pub read : List ℕ → Answer Program
read text = cond (ltb 16384 (length text)) (refused overlong (byte 0)) (read_on no_names statement (tokens rule_words text))
