-- What names and limits are needed for: where a token leads from x to y, and they are not in the way of y, they are not in the way of x (specs/Viable). So they are in no way
-- of what becomes a text. And where there is enough of all they are in no way of anything. Assumes nothing.
use mathlib.Core.Path.{◌≡◌, refl, subst}
use mathlib.Core.Bool.{Bool}
use mathlib.Core.List.{List, [], ◌∷◌}
use mathlib.Core.Logic.{◌⊎◌, inl, inr}
use Prim.Native.Nat.{ℕ}
use native.Mathlib.Omega.{arith}
use Rattle.lexer.specs.Tokens as token
use Rattle.lexer.specs.Tokens.{Token, Placed}
use Rattle.meaning.specs.Expression.{Literal, Write, Exp}
use Rattle.meaning.specs.Answers.{value}
use Rattle.meaning.specs.Reading.{Open, Context, in_define, in_letter, Expect, statement, sign, keyword, nought, closing, input_name, input_more, input_high, store_name, store_more, store_high, store_first, define_name, limit_name, limit_most, limit_window, operand, literal, negated, wire_more, bit_index, wire_equals, store_equals, past_name, literal_more, write_store, write_value, write_more, operand_more, monitor_name, monitor_more, text_end, Step, and_then, read_on}
use Rattle.meaning.specs.Names.{a_production, Meaning, Names, Declaration, new_input, new_define, declare, Program}
use Rattle.meaning.specs.Grammar.{Stands, plain_tokens}
use Rattle.meaning.specs.Viable
use Rattle.meaning.specs.Viable.{Spelled, AllSpelled, HasProduction, HasLiteral, Ends, names_of, EndsIn, Spare, Awaits, Ample}
use Rattle.meaning.proofs.ListLaws.{clash}
use Rattle.meaning.proofs.Outcomes.{LiteralNext, more_literals, first_literal, BehindLiterals, literals, one_wire, BehindOperand, operands, letters, WriteNext, first_write, more_writes, BySign, expected, closed, narrow_input, wide_input, narrow_store, wide_store, opened, negation, index, compared, joined, defined, writing, written, starred, piped, followed, or_else, level_closed, produced, more_monitors, all_monitors, ByNumber, zero_read, input_width, store_width, first_value, most_of_limit, window_of_limit, index_of_bit, wire_value, store_value, number_written, ByName, name_of_input, name_of_store, name_of_define, name_of_production, limited, of_wire, of_store, of_define, by_production, of_negated, equal_store, store_written, wire_written, monitored, Next, by_sign, by_number, by_name, by_word, Outcome, refusal, late, ended, goes, outcome, same_wire, ByWord, expected_word, begins_input, begins_store, begins_define, begins_limit, begins_monitor, compared_past}
use Rattle.meaning.proofs.Sound.{Gives, gives_input, gives_store, gives_define, gives_production, names_more, stood, NoProduction, Sound, ExpectSound, next-sound}

module _ (ns : Names) where
  -- before a declaration that is no production's
  ends-before : (d : Declaration) → NoProduction d → Ends 0 (declare d ns) → Ends (names_of d) ns
  ends-before d n (inr h) = inr (omega (arith, names_more ns d))
  ends-before d n (inl (s, e, h)) = inl (s, e, by (stood ns d s (a_production e) h))
    where
      other : {d : Declaration} {m : Meaning} → Gives ns d s m → NoProduction d → m ≡ a_production e → ⊥
      other gives_input n k = clash (cc)
      other gives_store n k = clash (cc)
      other gives_define n k = clash (cc)
      other gives_production n k = n

      by : Gives ns d s (a_production e) ⊎ Stands ns s (a_production e) → Stands ns s (a_production e)
      by (inl g) = absurd (other g n refl)
      by (inr k) = k

  literal-spare : {x : Expect} {c : Context} {ls : List Literal} → LiteralNext x c ls → HasLiteral ns c ls → EndsIn ns c → Spare ns x
  literal-spare more_literals l h = (l, h)
  literal-spare first_literal l h = inl l

  literals-spare : {x : Expect} {c : Context} {ls : List Literal} → BehindLiterals x c ls → EndsIn ns c → Spare ns x
  literals-spare literals h = h
  literals-spare (one_wire e) h = h

  operand-spare : {x : Expect} {o : Open} {e : Exp} {b : Bool} → BehindOperand x o e b → Spare ns x
  operand-spare operands = tt
  operand-spare (letters n) = literals-spare n tt

  sign-spare : {k : ℕ} {x y : Expect} {ms : Names} → BySign ns k x ms y → ExpectSound ns x → Spare ms y → Spare ns x
  sign-spare expected g h = h
  sign-spare (closed {d}) (f, g) h = ends-before d g h
  sign-spare (narrow_input {s}) g h = ends-before (new_input s 1) tt h
  sign-spare wide_input g h = h
  sign-spare narrow_store g h = h
  sign-spare wide_store g h = h
  sign-spare (opened few) g h = h
  sign-spare (negation n) g (i, h) = literal-spare n (inl i) h
  sign-spare index g h = h
  sign-spare (compared e) g h = h
  sign-spare (joined n) g (l, h) = literals-spare n h
  sign-spare (defined {s} {ls} n) g h = literals-spare n (ends-before (new_define s ls) tt h)
  sign-spare (writing n) g h = literals-spare n tt
  sign-spare written g h = tt
  sign-spare (starred n e) g h = operand-spare n
  sign-spare (piped n e) g h = operand-spare n
  sign-spare (followed n) g h = operand-spare n
  sign-spare (or_else n) g h = operand-spare n
  sign-spare (level_closed n e) g h = operand-spare n
  sign-spare (produced n e) g h = operand-spare n
  sign-spare more_monitors g h = tt
  sign-spare all_monitors g h = tt

  number-spare : {n : ℕ} {x y : Expect} → ByNumber ns n x y → Spare ns y → Spare ns x
  number-spare zero_read h = h
  number-spare (input_width k l) h = h
  number-spare (store_width k) h = h
  number-spare (first_value k) h = h
  number-spare (most_of_limit k) (l, h) = h
  number-spare (window_of_limit k l) h = (omega arith, h)
  number-spare (index_of_bit k) h = h
  number-spare (wire_value k) h = h
  number-spare (store_value k) h = h
  number-spare (number_written k) h = tt

  name-spare : {place : ℕ} (s : List ℕ) {x y : Expect} → ByName ns place s x y → Spare ns y → Spare ns x
  name-spare s (name_of_input (e, k) w) h = (omega arith, w, h)
  name-spare s (name_of_store (e, k) w) h = (omega arith, w, h)
  name-spare s (name_of_define (e, k)) (l, h) = (omega arith, l, h)
  name-spare s (name_of_production (e, k)) h = inr (omega arith)
  name-spare s (limited {e} {p} k f) h = (s, e, p, k, f)
  name-spare s (of_wire {lo} {w} n e) h = literal-spare n (inl (s, lo, w, e)) h
  name-spare s (of_store {n = i} {w} n e k) h = literal-spare n (inr (inl ((s, i, w, e), k))) h
  name-spare s (of_define {ds} n e k) h = literal-spare n (inr (inr (s, ds, e, k))) h
  name-spare s (by_production {e} k) h = inr (s, e, k)
  name-spare s (of_negated {lo} {w} e) h = ((s, lo, w, e), h)
  name-spare s (equal_store e k) h = h
  name-spare s same_wire h = h
  name-spare s (store_written {n = i} {w} n e k) h = write-spare n
    where
      write-spare : {x : Expect} {o : Open} {ls : List Literal} {ws : List Write} → WriteNext x o ls ws → Spare ns x
      write-spare first_write = (s, i, w, e)
      write-spare more_writes = tt
  name-spare s (wire_written e k) h = tt
  name-spare s (monitored {e} k few) h = ((s, e, k), few)

  word-spare : {w : token.Word} {x y : Expect} → ByWord ns w x y → Spare ns y → Spare ns x
  word-spare expected_word h = h
  word-spare begins_input (r, w, h) = inr r
  word-spare begins_store (r, w, h) = inr r
  word-spare begins_define (r, l, h) = inr r
  word-spare (begins_limit few) (s, e, p, h, k) = inl (s, e, h)
  word-spare begins_monitor (p, few) = inl p
  word-spare compared_past h = h

next-spare : {ns ms : Names} {place : ℕ} {u : Token} {x y : Expect} → Next ns place u x ms y → ExpectSound ns x → Spare ms y → Spare ns x
next-spare (by_sign n) g h = sign-spare _ n g h
next-spare (by_number n) g h = number-spare _ n h
next-spare (by_name {s} n) g h = name-spare _ s n h
next-spare (by_word n) g h = word-spare _ n h

-- Names and limits are not in the way where what follows is read to the end.
pub read-spare : (ts : List Placed) (ns : Names) (x : Expect) (p : Program) → AllSpelled (plain_tokens ts) → Sound ns x → read_on ns x ts ≡ value p → Spare ns x
unfolding read_on
read-spare [] ns x p t g e = clash (cc)
read-spare (q ∷ ts) ns x p (t, l) g e = by (outcome ns q x) g (λ ms y k f. read-spare ts ms y p l k f) e
  where
    by : {x : Expect} {s : Step} → Outcome ns q x s → Sound ns x → ((ms : Names) (y : Expect) → Sound ms y → read_on ms y ts ≡ value p → Spare ms y)
        → and_then s (λ ms y. read_on ms y ts) ≡ value p → Spare ns x
    by refusal g f e = clash (cc)
    by late g f e = clash (cc)
    by (ended h) g f e = tt
    by (goes {y} {ms} h n) g f e = next-spare n g.1 (f ms y (next-sound n (subst Spelled h t) g) e)

-- ---- enough of all

module _ {ns : Names} where
  produces : {x : Expect} → Ample ns x → HasProduction ns
  produces a = let (s, e, p, h, k) = a.single in (s, e, h)

  in-context : {x : Expect} (c : Context) → Ample ns x → EndsIn ns c
  in-context (in_define s) a = inl (produces a)
  in-context (in_letter o) a = tt

  -- behind what must come first
  inner : {x y : Expect} → ((z : Expect) → Awaits x z → Awaits y z) → Ample ns y → Ample ns x
  inner f a =
      record {
        input = a.input;
        store = a.store;
        single = a.single;
        room = a.room;
        wires = a.wires;
        stores = a.stores;
        monitors = λ ms m. a.monitors ms (f _ m);
        windows = λ p n m. a.windows p n (f _ m);
      }

  -- Where there is enough of all, names and limits are not in the way of anything that is expected.
  pub ample : (x : Expect) → Ample ns x → Spare ns x
  ample statement a = inl (produces a)
  ample (sign k x) a = ample x (inner (λ z m. Viable.behind_sign m) a)
  ample (keyword w x) a = ample x (inner (λ z m. Viable.behind_word m) a)
  ample (nought x) a = ample x (inner (λ z m. Viable.behind_nought m) a)
  ample (closing d) a = inl (produces a)
  ample input_name a = (a.room, a.wires, inl (produces a))
  ample (input_more s) a = inl (produces a)
  ample (input_high s) a = inl (produces a)
  ample store_name a = (a.room, a.stores, inl (produces a))
  ample (store_more s) a = inl (produces a)
  ample (store_high s) a = inl (produces a)
  ample (store_first s w) a = inl (produces a)
  ample define_name a = (a.room, inl a.input, inl (produces a))
  ample limit_name a = a.single
  ample (limit_most p) a = inl (produces a)
  ample (limit_window p n) a = (a.windows p n Viable.now, inl (produces a))
  ample (operand o) a = inr (produces a)
  ample (literal c ls) a = (inl a.input, in-context c a)
  ample (negated c ls) a = (a.input, in-context c a)
  ample (wire_more c ls s lo w v p) a = in-context c a
  ample (bit_index c ls lo w v) a = in-context c a
  ample (wire_equals c ls s lo w) a = in-context c a
  ample (past_name c ls s lo w) a = in-context c a
  ample (store_equals c ls n w) a = in-context c a
  ample (literal_more c ls) a = in-context c a
  ample (write_store o ls ws) a = a.store
  ample (write_value o ls ws n w) a = tt
  ample (write_more o ls ws) a = tt
  ample (operand_more o e b) a = tt
  ample (monitor_name ms) a = (produces a, a.monitors ms Viable.now)
  ample (monitor_more ms) a = tt
  ample (text_end ms) a = tt
