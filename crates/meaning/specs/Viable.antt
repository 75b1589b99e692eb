-- Which token is refused (docs/REFERENCE.md, X2 and X3): whether the tokens of a text can still become one of specs/Grammar, by others behind them. proofs/Viable shows that
-- reading refuses a text at the first token with which they cannot, names and limits apart. `Spare` says what that means; the proof shows that it says no less and no more.
-- Assumes nothing.
use Rattle.std.specs.Prelude.{◌≡◌, false, List, [], ◌∷◌, ◌++◌, ◌⊎◌, ◌↔◌, ℕ, suc, ◌+◌, ◌≤◌, ◌<◌, length}
use Rattle.std.proofs.Math.Option.{some}
use Rattle.lexer.specs.Tokens.{Token, Word, Placed, rule_words, token_at, tokens}
use Rattle.refusals.specs.Numbers.{oversize}
use Rattle.meaning.specs.Expression.{Literal, Exp, store_tests, single}
use Rattle.meaning.specs.Reading.{Context, in_define, in_letter, Expect, statement, sign, keyword, nought, closing, input_name, input_more, input_high, store_name, store_more, store_high, store_first, define_name, limit_name, limit_most, limit_window, operand, literal, negated, wire_more, bit_index, wire_equals, store_equals, past_name, literal_more, write_store, write_value, write_more, operand_more, monitor_name, monitor_more, text_end, Step, go, finished, fault, too_many, step}
use Rattle.meaning.specs.Names.{an_input, a_store, a_define, a_production, Names, no_names, Declaration, new_input, new_store, new_define, new_production, new_limit, Program}
use Rattle.meaning.specs.Grammar.{Stands, IsText, plain_tokens}

-- A token that a text can have: it stands in one.
abbrev pub Spelled : Token → Type 0
Spelled u = (text : List ℕ) × (at : ℕ) × ((token_at rule_words text at).token ≡ u)

abbrev pub AllSpelled : List Token → Type 0
AllSpelled [] = Unit {0}
AllSpelled (u ∷ us) = Spelled u × AllSpelled us

-- These tokens can be followed by others, that a text can have, to a text of the grammar.
abbrev pub Viable : List Token → Type 0
Viable ts = (us : List Token) × AllSpelled us × (p : Program) × IsText no_names (ts ++ us) p

-- ---- what names and limits leave

-- declared above are an input; a store; a production; a define of literals that have a property
abbrev pub HasInput : Names → Type 0
HasInput ns = (s : List ℕ) × (lo width : ℕ) × Stands ns s (an_input lo width)

abbrev pub HasStore : Names → Type 0
HasStore ns = (s : List ℕ) × (number width : ℕ) × Stands ns s (a_store number width)

abbrev pub HasProduction : Names → Type 0
HasProduction ns = (s : List ℕ) × (e : Exp) × Stands ns s (a_production e)

-- a production of a single letter (G22)
abbrev pub HasSingle : Names → Type 0
HasSingle ns = (s : List ℕ) × (e : Exp) × (p : ℕ) × Stands ns s (a_production e) × (single e ≡ some p)

abbrev pub HasDefine : Names → (List Literal → Type 0) → Type 0
HasDefine ns P = (s : List ℕ) × (ds : List Literal) × Stands ns s (a_define ds) × P ds

-- a name is declared above that can be a literal behind ls: with it the store tests are not too many
abbrev pub HasLiteral : Names → Context → List Literal → Type 0
HasLiteral ns c ls = HasInput ns ⊎ (HasStore ns × (too_many c ls 1 ≡ false)) ⊎ HasDefine ns (λ ds. too_many c ls (store_tests ds) ≡ false)

-- so many names more may be declared (N6)
abbrev pub Room : ℕ → Names → Type 0
Room more ns = length ns.declared + more ≤ 128

-- Behind so many declarations more there can be a monitor: a production is declared, or there is room for the name of one.
abbrev pub Ends : ℕ → Names → Type 0
Ends more ns = HasProduction ns ⊎ Room (suc more) ns

-- how many names a declaration takes
abbrev pub names_of : Declaration → ℕ
names_of (new_input s width) = 1
names_of (new_store s width v) = 1
names_of (new_define s ls) = 1
names_of (new_production s e) = 1
names_of (new_limit p n w) = 0

-- Behind literals: a define is one declaration more; a production, in whose letter they stand, can be the monitor itself.
abbrev pub EndsIn : Names → Context → Type 0
EndsIn ns (in_define s) = Ends 1 ns
EndsIn ns (in_letter o) = Unit {0}

-- Names and limits are not in the way where x is expected: the names that are needed to end the text from there are declared or can be, and no limit forbids it.
abbrev pub Spare : Names → Expect → Type 0
-- a declaration, or the monitor statement
Spare ns statement = Ends 0 ns
-- what must come has to be followed
Spare ns (sign k x) = Spare ns x
Spare ns (keyword w x) = Spare ns x
Spare ns (nought x) = Spare ns x
-- in the declaration of an input, of a store and of a define: first a name that may be new, then what ends it
Spare ns (closing d) = Ends (names_of d) ns
Spare ns input_name = Room 1 ns × (ns.wires < 64) × Ends 1 ns
Spare ns (input_more s) = Ends 1 ns
Spare ns (input_high s) = Ends 1 ns
Spare ns store_name = Room 1 ns × (length ns.initial < 16) × Ends 1 ns
Spare ns (store_more s) = Ends 1 ns
Spare ns (store_high s) = Ends 1 ns
Spare ns (store_first s width) = Ends 1 ns
Spare ns define_name = Room 1 ns × HasLiteral ns (in_define []) [] × Ends 1 ns
-- in a limit: a single letter to name, and a stretch that is longer than n
Spare ns limit_name = HasSingle ns
Spare ns (limit_most p) = Ends 0 ns
Spare ns (limit_window p n) = (n ≤ 1023) × Ends 0 ns
-- in a production: a name to begin an operand or a literal with
Spare ns (operand o) = HasLiteral ns (in_letter o) [] ⊎ HasProduction ns
Spare ns (literal c ls) = HasLiteral ns c ls × EndsIn ns c
Spare ns (negated c ls) = HasInput ns × EndsIn ns c
-- within a literal and behind one nothing more is needed, since 0 is a bit and a value of every wire and every store, and behind `past(` the wire's own name can stand
Spare ns (wire_more c ls s lo width v place) = EndsIn ns c
Spare ns (bit_index c ls lo width v) = EndsIn ns c
Spare ns (wire_equals c ls s lo width) = EndsIn ns c
Spare ns (store_equals c ls number width) = EndsIn ns c
Spare ns (past_name c ls s lo width) = EndsIn ns c
Spare ns (literal_more c ls) = EndsIn ns c
-- a store to write
Spare ns (write_store o ls ws) = HasStore ns
Spare ns (write_value o ls ws number width) = Unit {0}
Spare ns (write_more o ls ws) = Unit {0}
Spare ns (operand_more o e starred) = Unit {0}
-- a production to name, and room for one more in the list (N6)
Spare ns (monitor_name ms) = HasProduction ns × (length ms < 32)
Spare ns (monitor_more ms) = Unit {0}
Spare ns (text_end ms) = Unit {0}

-- the same of what tokens have led to, which has to be no refusal
abbrev pub Spared : Step → Type 0
Spared (go ns x) = Spare ns x
Spared (finished p) = Unit {0}
Spared (fault number place) = ⊥

-- ---- enough of all

-- y is expected, perhaps behind signs, words and noughts that must come first
pub data Awaits : Expect → Expect → Type 0 where
  now : {x : Expect} → Awaits x x
  behind_sign : {k : ℕ} {x y : Expect} → Awaits x y → Awaits (sign k x) y
  behind_word : {w : Word} {x y : Expect} → Awaits x y → Awaits (keyword w x) y
  behind_nought : {x y : Expect} → Awaits x y → Awaits (nought x) y

-- An input, a store and a production of a single letter are declared, there is room for a name, a wire, a store and a monitor are left, and a limit's n is not too large.
-- Then names and limits are not in the way, whatever is expected (proofs/Spared).
pub record Ample (ns : Names) (x : Expect) : Type 0 where
  pub input : HasInput ns
  pub store : HasStore ns
  pub single : HasSingle ns
  pub room : Room 1 ns
  pub wires : ns.wires < 64
  pub stores : length ns.initial < 16
  pub monitors : (ms : List Exp) → Awaits x (monitor_name ms) → length ms < 32
  pub windows : (p n : ℕ) → Awaits x (limit_window p n) → n ≤ 1023

-- ---- the token that is refused

-- a step more, where the one before was no refusal and not the end
abbrev pub feed_on : Step → (Names → Expect → Step) → Step
feed_on (go ns x) next = next ns x
feed_on (finished p) next = finished p
feed_on (fault number place) next = fault number place

-- what tokens lead to, one after the other, up to a refusal or the end
unfoldable pub feed : Names → Expect → List Placed → Step
feed ns x [] = go ns x
feed ns x (t ∷ ts) = feed_on (step ns x t) (λ ms y. feed ms y ts)

-- the place of a wire's name that the next token may still blame
pub data Pending : Expect → ℕ → Type 0 where
  bare_wire : {c : Context} {ls : List Literal} {s : List ℕ} {lo w v p : ℕ} → Pending (wire_more c ls s lo w v p) p

-- A text is refused at a token: those before it are read on, and it is judged at fault.
pub record Refusal (text : List ℕ) (number place : ℕ) : Type 0 where
  pub before : List Placed
  pub at : Placed
  pub behind : List Placed
  pub splits : tokens rule_words text ≡ before ++ (at ∷ behind)
  pub names : Names
  pub expects : Expect
  pub reads : feed no_names statement before ≡ go names expects
  pub judged : step names expects at ≡ fault number place
  -- the place is its own, or with number 6 that of a wide wire before it
  pub blames : (place ≡ at.place) ⊎ ((number ≡ oversize) × Pending expects place)
  -- not too early: with it, nothing can follow that makes a text of the grammar
  pub unviable_with : Viable (plain_tokens (before ++ (at ∷ []))) → ⊥
  -- not too late: without it something can, names and limits apart
  pub viable_before : Viable (plain_tokens before) ↔ Spare names expects
