-- What the grammar derives is read: the tokens of each form take reading from what is expected before it to what is expected behind it. Assumes nothing.
use mathlib.Core.Path.{◌≡◌, refl, sym, subst}
use mathlib.Core.Bool.{Bool, true, false, ◌&&◌}
use mathlib.Core.List.{List, [], ◌∷◌, ◌++◌}
use mathlib.Core.Option.{Option, none, some}
use Prim.Native.Nat.{ℕ, suc, ◌+◌, ◌^◌, ◌≤◌, ◌<◌}
use native.Mathlib.Omega.{arith}
use lib.ListN.{length, length-append}
use borrow.Author.Tests.{eq-eqb, le-ltb, lt-leb}
use Rattle.lexer.specs.Bytes.{lookup}
use Rattle.lexer.specs.Tokens as token
use Rattle.lexer.proofs.Spelling.{same_refl}
use Rattle.lexer.specs.Tokens.{Token, Placed}
use Rattle.meaning.specs.Names.{new_input, new_store, new_limit, Meaning, an_input, a_store, a_define, a_production, Names, Declaration, declare, Program, program_of}
use Rattle.meaning.specs.Expression.{Literal, wire, wire_store, store, Write, Exp, seq, alt, pipe, store_tests, a_letter}
use Rattle.meaning.specs.Answers.{Answer, value}
use Rattle.refusals.specs.Numbers.{unknown}
use Rattle.lexer.specs.Signs
use Rattle.meaning.specs.Reading
use Rattle.meaning.specs.Reading.{Level, Open, Context, in_define, in_letter, Expect, statement, sign, keyword, nought, closing, input_name, input_more, input_high, store_name, store_more, store_high, store_first, define_name, limit_name, limit_most, limit_window, operand, literal, negated, wire_more, bit_index, wire_equals, store_equals, past_name, literal_more, write_store, write_value, write_more, operand_more, monitor_name, monitor_more, text_end, Step, go, fault, choose, at_token, not_here, unless, if_name, if_number, on_name, on_number, by_kind, known, new_name, step, read_on, behind_operand, behind_literal, literal_name, too_many, join}
use Rattle.meaning.specs.Grammar
use Rattle.meaning.specs.Grammar.{Stands, IsBit, IsLiteral, IsLiterals, IsWrite, IsWrites, IsLetter, IsAtom, IsStarred, IsPiped, IsSequence, IsAlternative, IsWidth, IsDeclaration, IsMonitors, IsText, plain_tokens}
use Rattle.meaning.proofs.ListLaws.{clash}
use Rattle.meaning.proofs.Outcomes.{is-token}
use Rattle.meaning.proofs.Within.{count-append}

-- However the tokens ts are placed, reading them from x on gives p.
record Reads (p : Program) (ns : Names) (x : Expect) (ts : List Token) : Type 0 where
  run : (ps : List Placed) → plain_tokens ps ≡ ts → read_on ns x ps ≡ value p

abbrev placed : Token → ℕ → ℕ → Placed
placed t a b = record { token = t; place = a; after = b }

module _ {p : Program} where
  -- a token that leads from x to y, which may hold its place
  next : {ns ms : Names} {x : Expect} {t : Token} {ts : List Token} (y : ℕ → Expect) → ((n : ℕ) → Reads p ms (y n) ts)
      → ((a b : ℕ) → step ns x (placed t a b) ≡ go ms (y a)) → Reads p ns x (t ∷ ts)
  unfolding read_on
  next {ns} {ms} {x} {t} {ts} y r f = record { run = at }
    where
      at : (ps : List Placed) → plain_tokens ps ≡ t ∷ ts → read_on ns x ps ≡ value p
      at [] e = clash (cc)
      at (q ∷ qs) e =
          let h : q.token ≡ t = cc in
          let k : plain_tokens qs ≡ ts = cc in
          let g : step ns x q ≡ go ms (y q.place) = subst (λ u. step ns x (placed u q.place q.after) ≡ go ms (y q.place)) (sym h) (f q.place q.after) in
          rw g ((r q.place).run qs k)

  -- one that leads from x to y among the same names
  then : {ns : Names} {y : Expect} {t : Token} {ts : List Token} (x : Expect) → Reads p ns y ts
      → ((a b : ℕ) → step ns x (placed t a b) ≡ go ns y) → Reads p ns x (t ∷ ts)
  then {y} x r f = next (λ n. y) (λ n. r) f

  -- the sign that is expected
  signed : {ns : Names} {k : ℕ} {x : Expect} {ts : List Token} → Reads p ns x ts → Reads p ns (sign k x) (token.sign k ∷ ts)
  unfolding step choose
  signed {k} {x} r = then (sign k x) r (λ a b. rw (eq-eqb k k refl))

  -- the word
  worded : {ns : Names} {w : token.Word} {x : Expect} {ts : List Token} → Reads p ns x ts → Reads p ns (keyword w x) (token.word w ∷ ts)
  unfolding step choose
  worded {w} {x} r = then (keyword w x) r (λ a b. rw (eq-eqb (Reading.ordinal w) (Reading.ordinal w) refl))

-- ---- expecting more: where one state goes on, another goes on in the same way

data Refused (a : Step) : Type 0 where
  refuses : (number place : ℕ) → a ≡ fault number place → Refused a

-- the same, unless the first is a refusal
data Agrees (a b : Step) : Type 0 where
  same : a ≡ b → Agrees a b
  refused_first : Refused a → Agrees a b

refused-at : (ns : Names) (x : Expect) (k : ℕ) (q : Placed) → ((m n : ℕ) → Refused (step ns x (placed (token.sign k) m n))) → Reading.is k q ≡ true
    → Refused (step ns x q)
refused-at ns x k q h e = subst (λ u. Refused (step ns x (placed u q.place q.after))) (sym (is-token k q.token e)) (h q.place q.after)

-- one more choice, by a sign that the first refuses
skip : (ns : Names) (x : Expect) (k : ℕ) (q : Placed) (b c : Step) → ((m n : ℕ) → Refused (step ns x (placed (token.sign k) m n))) → Agrees (step ns x q) c
    → Agrees (step ns x q) (choose (Reading.is k q) b c)
unfolding choose
skip ns x k q b c h g = by (Reading.is k q) refl
  where
    by : (t : Bool) → Reading.is k q ≡ t → Agrees (step ns x q) (choose t b c)
    by true e = refused_first (refused-at ns x k q h e)
    by false e = g

-- a choice that the first lacks
lacks : (t : Bool) (a b c : Step) → (t ≡ true → Refused (choose (t && false) a c)) → Agrees (choose (t && false) a c) (choose (t && true) b c)
unfolding choose
lacks true a b c h = refused_first (h refl)
lacks false a b c h = same refl

-- the same choice before both
alike : (t : Bool) (a b c : Step) → Agrees b c → Agrees (choose t a b) (choose t a c)
unfolding choose
alike true a b c h = same refl
alike false a b c h = h

module _ {p : Program} {ns : Names} {x : Expect} (y : Expect) (wide : (q : Placed) → Agrees (step ns x q) (step ns y q)) where
  -- what is read from x on is read from y on, where y refuses no more
  wider : {ts : List Token} → Reads p ns x ts → Reads p ns y ts
  unfolding read_on
  wider {ts} r = record { run = λ ps e. at ps (r.run ps e) }
    where
      by : (a b : Step) (f : Names → Expect → Answer Program) → Agrees a b → Reading.and_then a f ≡ value p → Reading.and_then b f ≡ value p
      by a b f (same h) e = rw (← h) e
      by a b f (refused_first (refuses number place h)) e = let g : Reading.and_then (fault number place) f ≡ value p = rw h at e in clash (cc)

      at : (ps : List Placed) → read_on ns x ps ≡ value p → read_on ns y ps ≡ value p
      at [] e = clash (cc)
      at (q ∷ qs) e = by (step ns x q) (step ns y q) (λ ms z. read_on ms z qs) (wide q) e

-- ---- what has been read is told by what may not follow it

module _ (ns : Names) where
  -- a bare wire is a literal: neither `[` nor `==` follows a literal
  bare-wide : (c : Context) (ls : List Literal) (s : List ℕ) (lo v n : ℕ) (q : Placed)
      → Agrees (step ns (literal_more c (ls ++ (wire lo 1 v ∷ []))) q) (step ns (wire_more c ls s lo 1 v n) q)
  unfolding step choose behind_literal behind_operand not_here
  bare-wide c ls s lo v n q =
      let x : Expect = literal_more c (ls ++ (wire lo 1 v ∷ [])) in
      skip ns x Signs.left_bracket q _ _ (λ a b. (neither c a b).0) (skip ns x Signs.double_equals q _ _ (λ a b. (neither c a b).1) (same refl))
    where
      neither : (c : Context) (a b : ℕ)
          → Refused (step ns (literal_more c (ls ++ (wire lo 1 v ∷ []))) (placed (token.sign Signs.left_bracket) a b))
          × Refused (step ns (literal_more c (ls ++ (wire lo 1 v ∷ []))) (placed (token.sign Signs.double_equals) a b))
      neither (in_define s) a b = (refuses _ _ refl, refuses _ _ refl)
      neither (in_letter o) a b = (refuses _ _ refl, refuses _ _ refl)

  -- literals are a letter: neither `&` nor `{` follows an operand
  letter-wide : (o : Open) (ls : List Literal) (q : Placed) → Agrees (step ns (operand_more o (a_letter ls []) false) q) (step ns (literal_more (in_letter o) ls) q)
  unfolding step choose behind_literal behind_operand not_here
  letter-wide o ls q =
      let x : Expect = operand_more o (a_letter ls []) false in
      skip ns x Signs.ampersand q _ _ (λ a b. refuses _ _ refl) (skip ns x Signs.left_brace q _ _ (λ a b. refuses _ _ refl) (same refl))

  -- a production's name begins no literal
  no-production : (q : Placed) (i s : ℕ → ℕ → Step) (d : List Literal → Step) (e : Exp → Step) → Agrees (known ns q i s d (Reading.no_exp q)) (known ns q i s d e)
  unfolding known on_name if_name by_kind at_token
  no-production q i s d e = by_token q.token
    where
      of-kind : (m : Option Meaning) → Agrees (by_kind m i s d (Reading.no_exp q) (at_token unknown q)) (by_kind m i s d e (at_token unknown q))
      of-kind none = same refl
      of-kind (some (an_input a b)) = same refl
      of-kind (some (a_store a b)) = same refl
      of-kind (some (a_define ls)) = same refl
      of-kind (some (a_production f)) = refused_first (refuses _ _ refl)

      by_token : (t : Token)
          → Agrees (if_name t (λ n. by_kind (lookup n ns.declared) i s d (Reading.no_exp q) (at_token unknown q)) (not_here q))
          (if_name t (λ n. by_kind (lookup n ns.declared) i s d e (at_token unknown q)) (not_here q))
      by_token (token.name n) = of-kind (lookup n ns.declared)
      by_token (token.word w) = same refl
      by_token (token.number n) = same refl
      by_token (token.sign n) = same refl
      by_token token.end = same refl
      by_token (token.refused n) = same refl

  no-paren : (o : Open) (a b : ℕ) → Refused (step ns (literal (in_letter o) []) (placed (token.sign Signs.left_paren) a b))
  unfolding step choose not_here literal_name known on_name if_name
  no-paren o a b = refuses _ _ refl

  -- a letter is an operand: no `(` begins a literal either
  operand-wide : (o : Open) (q : Placed) → Agrees (step ns (literal (in_letter o) []) q) (step ns (operand o) q)
  unfolding step literal_name
  operand-wide o q =
      skip ns (literal (in_letter o) []) Signs.left_paren q _ _ (no-paren o) (alike (Reading.is Signs.bang q) _ _ _ (no-production q _ _ _ _))

  no-star : (o : Open) (e : Exp) (a b : ℕ) → Refused (step ns (operand_more o e true) (placed (token.sign Signs.star) a b))
  unfolding step choose behind_operand not_here
  no-star o e a b = refuses _ _ refl

  -- what has no `*` is an operand that may have one: no second `*` follows
  star-wide : (o : Open) (e : Exp) (q : Placed) → Agrees (step ns (operand_more o e true) q) (step ns (operand_more o e false) q)
  unfolding step behind_operand
  star-wide o e q = lacks (Reading.is Signs.star q) _ _ _ (refused-at ns (operand_more o e true) Signs.star q (no-star o e))

  -- a write may follow a write
  write-wide : (o : Open) (ls : List Literal) (ws : List Write) (q : Placed) → Agrees (step ns (write_store o ls ws) q) (step ns (write_more o ls ws) q)
  unfolding step choose not_here known on_name if_name
  write-wide o ls ws q = skip ns (write_store o ls ws) Signs.right_brace q _ _ (λ a b. refuses _ _ refl) (same refl)

-- ---- literals

-- the literals keep to the limit of their context
abbrev pub Fits : Context → List Literal → Type 0
Fits (in_define s) ls = Unit {0}
Fits (in_letter o) ls = store_tests ls ≤ 2

fits_more : (c : Context) (ks ls : List Literal) → Fits c (ks ++ ls) → too_many c ks (store_tests ls) ≡ false
fits_more (in_define s) ks ls h = refl
fits_more (in_letter o) ks ls h = le-ltb 2 (store_tests ks + store_tests ls) (omega (arith, count-append ks ls))

fits-before : (c : Context) (ks ls : List Literal) → Fits c (ks ++ ls) → Fits c ks
fits-before (in_define s) ks ls h = tt
fits-before (in_letter o) ks ls h = omega (arith, count-append ks ls)

module _ {p : Program} {ns : Names} {c : Context} where
  -- a bit behind whatever a wire's name leads from, that is to be v
  bit-reads : (ls : List Literal) (v : ℕ) {i : ℕ} {ts us : List Token} (x : Expect)
      → ((s : List ℕ) (lo w a b : ℕ) → Stands ns s (an_input lo w) → step ns x (placed (token.name s) a b) ≡ go ns (wire_more c ls s lo w v a))
      → IsBit ns ts us i → Reads p ns (literal_more c (ls ++ (wire i 1 v ∷ []))) us → Reads p ns x ts
  unfolding step choose on_number if_number unless
  bit-reads ls v x f (Grammar.one_bit {s} {lo} h) r = next (wire_more c ls s lo 1 v) (λ n. wider _ (bare-wide ns c ls s lo v n) r) (λ a b. f s lo 1 a b h)
  bit-reads ls v x f (Grammar.indexed {s} {lo} {width} {i} h k) r =
      next (wire_more c ls s lo width v)
      (λ n. then (wire_more c ls s lo width v n) (then (bit_index c ls lo width v) (signed r) (λ a b. rw (lt-leb width i k))) (λ a b. refl))
      (λ a b. f s lo width a b h)

  -- a wire's name, and `==` behind it
  wire-reads : (ls : List Literal) {s : List ℕ} {lo w : ℕ} {ts : List Token} → Stands ns s (an_input lo w) → Reads p ns (wire_equals c ls s lo w) ts
      → Reads p ns (literal c ls) (token.name s ∷ token.sign Signs.double_equals ∷ ts)
  unfolding step choose literal_name known on_name if_name by_kind
  wire-reads ls {s} {lo} {w} e r = next {ns = ns} {ms = ns} (wire_more c ls s lo w 1) (λ n. then (wire_more c ls s lo w 1 n) r (λ a b. refl)) (λ a b. rw e)

  literal-reads : (ls : List Literal) {ks : List Literal} {ts us : List Token} → IsLiteral ns ts us ks → Fits c (ls ++ ks) → Reads p ns (literal_more c (ls ++ ks)) us
      → Reads p ns (literal c ls) ts
  unfolding step choose literal_name known on_name if_name by_kind on_number if_number unless store_tests
  literal-reads ls (Grammar.set_bit b) h r = bit-reads ls 1 (literal c ls) (λ s lo w a b e. rw e) b r
  literal-reads ls (Grammar.clear_bit b) h r = then (literal c ls) (bit-reads ls 0 (negated c ls) (λ s lo w a b e. rw e) b r) (λ a b. refl)
  literal-reads ls (Grammar.wire_equals_number {s} {lo} {width} {v} e k) h r = wire-reads ls e (then (wire_equals c ls s lo width) r (λ a b. rw (lt-leb (2 ^ width) v k)))
  literal-reads ls (Grammar.wire_equals_store {s} {lo} {width} {n} e g) h r =
      wire-reads ls e (then (wire_equals c ls s lo width) r (λ a b. rw (g, eq-eqb width width refl, fits_more c ls (wire_store lo width n ∷ []) h)))
  literal-reads ls (Grammar.wire_equals_past {s} {lo} {width} e) h r =
      wire-reads ls e (then (wire_equals c ls s lo width) (signed (then (past_name c ls s lo width) (signed r) (λ a b. rw (same_refl s)))) (λ a b. refl))
  literal-reads ls (Grammar.store_equals_number {n} {width} {v} e k) h r =
      then (literal c ls) (signed (then (store_equals c ls n width) r (λ a b. rw (lt-leb (2 ^ width) v k)))) (λ a b. rw (e, fits_more c ls (store n v ∷ []) h))
  literal-reads ls (Grammar.defined {ls = ds} e) h r = then (literal c ls) r (λ a b. rw (e, fits_more c ls ds h))

  literals-reads : {ls : List Literal} {ts us : List Token} → IsLiterals ns ts us ls → Fits c ls → Reads p ns (literal_more c ls) us → Reads p ns (literal c []) ts
  unfolding step choose behind_literal
  literals-reads (Grammar.one_literal l) h r = literal-reads [] l h r
  literals-reads (Grammar.and_literal {ks} {ls} k l) h r =
      literals-reads k (fits-before c ks ls h) (then (literal_more c ks) (literal-reads ks l h r) (by c))
    where
      by : (c : Context) (a b : ℕ) → step ns (literal_more c ks) (placed (token.sign Signs.ampersand) a b) ≡ go ns (literal c ks)
      by (in_define s) a b = refl
      by (in_letter o) a b = refl

-- ---- letters and expressions

module _ {p : Program} {ns : Names} where
  -- a store's name, and `<-` behind it
  gets-reads : (o : Open) (ls : List Literal) (ws : List Write) {s : List ℕ} {n w : ℕ} {ts : List Token} → Stands ns s (a_store n w) → length ws < 2
      → Reads p ns (write_value o ls ws n w) ts → Reads p ns (write_store o ls ws) (token.name s ∷ token.sign Signs.left_arrow ∷ ts)
  unfolding step choose known on_name if_name by_kind unless
  gets-reads o ls ws e h r = then (write_store o ls ws) (signed r) (λ a b. rw (e, lt-leb 2 (length ws) h))

  write-reads : (o : Open) (ls : List Literal) (ws : List Write) {w : Write} {ts us : List Token} → IsWrite ns ts us w → length ws < 2
      → Reads p ns (write_more o ls (ws ++ (w ∷ []))) us → Reads p ns (write_store o ls ws) ts
  unfolding step choose known on_name if_name by_kind if_number unless
  write-reads o ls ws (Grammar.write_wire {n} {width} e g) h r =
      gets-reads o ls ws e h (then (write_value o ls ws n width) (signed r) (λ a b. rw (g, eq-eqb width width refl)))
  write-reads o ls ws (Grammar.write_number {n} {width} {v} e k) h r =
      gets-reads o ls ws e h (then (write_value o ls ws n width) (signed r) (λ a b. rw (lt-leb (2 ^ width) v k)))

  writes_reads : (o : Open) (ls : List Literal) {ws : List Write} {ts us : List Token} → IsWrites ns ts us ws → length ws ≤ 2
      → Reads p ns (write_more o ls ws) us → Reads p ns (write_store o ls []) ts
  writes_reads o ls (Grammar.one_write w) h r = write-reads o ls [] w (omega arith) r
  writes_reads o ls (Grammar.next_write {ws} {w} k l) h r =
      let g : suc (length ws) ≤ 2 = omega (arith, length-append ws (w ∷ [])) in
      writes_reads o ls k (omega arith) (wider _ (write-wide ns o ls ws) (write-reads o ls ws l g r))

  letter-reads : (o : Open) {e : Exp} {ts us : List Token} → IsLetter ns ts us e → Reads p ns (operand_more o e false) us → Reads p ns (operand o) ts
  unfolding step choose behind_literal
  letter-reads o (Grammar.no_writes {ls} l h) r = wider _ (operand-wide ns o) (literals-reads l h (wider _ (letter-wide ns o ls) r))
  letter-reads o (Grammar.with_writes {ls} {ws} l h w k) r =
      wider _ (operand-wide ns o)
      (literals-reads l h (then (literal_more (in_letter o) ls) (writes_reads o ls w k (then (write_more o ls ws) r (λ a b. refl))) (λ a b. refl)))

-- an expression that is being read, by its parts
abbrev opened : List ℕ → List Level → Option Exp → Option Exp → Option Exp → Open
opened s ls a b c = record { name = s; level = record { alts = a; seqs = b; left = c }; outer = ls }

module _ {p : Program} {ns : Names} where
  mutual
    unfolding step choose behind_operand unless literal_name known on_name if_name by_kind

    atom-reads : {n : ℕ} {e : Exp} {ts us : List Token} → IsAtom ns n ts us e → (o : Open) → n + length o.outer ≡ 32 → Reads p ns (operand_more o e false) us
        → Reads p ns (operand o) ts
    atom-reads (Grammar.of_letter l) o h r = letter-reads o l r
    atom-reads (Grammar.copied e) o h r = then (operand o) r (λ a b. rw e)
    atom-reads (Grammar.parens x) o h r =
        then (operand o)
        (alternative-reads x o.name (o.level ∷ o.outer) (omega arith) (λ a b c f q. then (operand_more (opened o.name (o.level ∷ o.outer) a b c) f true) (rw q r) (λ i j. refl)))
        (λ a b. rw (lt-leb 32 (length o.outer) (omega arith)))

    starred-reads : {n : ℕ} {e : Exp} {ts us : List Token} → IsStarred ns n ts us e → (o : Open) → n + length o.outer ≡ 32 → Reads p ns (operand_more o e true) us
        → Reads p ns (operand o) ts
    starred-reads (Grammar.unstarred {e} x) o h r = atom-reads x o h (wider _ (star-wide ns o e) r)
    starred-reads (Grammar.starred {e} x) o h r = atom-reads x o h (then (operand_more o e false) r (λ a b. refl))

    piped-reads : {n : ℕ} {e : Exp} {ts us : List Token} → IsPiped ns n ts us e → (s : List ℕ) (ls : List Level) → n + length ls ≡ 32 → (a b : Option Exp)
        → ((c : Option Exp) (f : Exp) → join pipe c f ≡ e → Reads p ns (operand_more (opened s ls a b c) f true) us) → Reads p ns (operand (opened s ls a b none)) ts
    piped-reads (Grammar.unpiped {e} x) s ls h a b r = starred-reads x (opened s ls a b none) h (r none e refl)
    piped-reads (Grammar.piped {e} {f} x y) s ls h a b r =
        starred-reads x (opened s ls a b none) h
        (then (operand_more (opened s ls a b none) e true) (starred-reads y (opened s ls a b (some e)) h (r (some e) f refl)) (λ i j. refl))

    sequence-reads : {n : ℕ} {e : Exp} {ts us : List Token} → IsSequence ns n ts us e → (s : List ℕ) (ls : List Level) → n + length ls ≡ 32 → (a : Option Exp)
        → ((b c : Option Exp) (f : Exp) → join seq b (join pipe c f) ≡ e → Reads p ns (operand_more (opened s ls a b c) f true) us)
        → Reads p ns (operand (opened s ls a none none)) ts
    sequence-reads (Grammar.one-term x) s ls h a r = piped-reads x s ls h a none (λ c f q. r none c f q)
    sequence-reads (Grammar.followed {e} x y) s ls h a r =
        sequence-reads x s ls h a
        (λ b c f q. then (operand_more (opened s ls a b c) f true)
        (piped-reads y s ls h a (some e) (λ d g u. r (some e) d g (cc))) (λ i j. rw q))

    alternative-reads : {n : ℕ} {e : Exp} {ts us : List Token} → IsAlternative ns n ts us e → (s : List ℕ) (ls : List Level) → n + length ls ≡ 32
        → ((a b c : Option Exp) (f : Exp) → join alt a (join seq b (join pipe c f)) ≡ e → Reads p ns (operand_more (opened s ls a b c) f true) us)
        → Reads p ns (operand (opened s ls none none none)) ts
    alternative-reads (Grammar.one_way x) s ls h r = sequence-reads x s ls h none (λ b c f q. r none b c f q)
    alternative-reads (Grammar.either {e} x y) s ls h r =
        alternative-reads x s ls h
        (λ a b c f q. then (operand_more (opened s ls a b c) f true)
        (sequence-reads y s ls h (some e) (λ b d g u. r (some e) b d g (cc))) (λ i j. rw q))

-- ---- declarations and the text

module _ {p : Program} {ns : Names} where
  -- the `;` with which a declaration stands
  closes : {t : Token} {ts : List Token} (d : Declaration) (x : Expect) → Reads p (declare d ns) statement ts
      → ((a b : ℕ) → step ns x (placed t a b) ≡ go (declare d ns) statement) → Reads p ns x (t ∷ ts)
  closes d x r f = next (λ n. statement) (λ n. r) f

  -- `h:0]` behind a `[`, and what follows
  to-zero-reads : {h : ℕ} {us : List Token} (x y : Expect) → Reads p ns y us
      → ((a b : ℕ) → step ns x (placed (token.number h) a b) ≡ go ns (Reading.to_zero y))
      → Reads p ns x (token.number h ∷ token.sign Signs.colon ∷ token.number 0 ∷ token.sign Signs.right_bracket ∷ us)
  unfolding step choose on_number if_number
  to-zero-reads x y r f = then x (signed (then (nought (sign Signs.right_bracket y)) (signed r) (λ a b. refl))) f

  input-reads : (s : List ℕ) {w : ℕ} {ts us : List Token} → IsWidth ts (token.sign Signs.semicolon ∷ us) w → ns.wires + w ≤ 64
      → Reads p (declare (new_input s w) ns) statement us → Reads p ns (input_more s) ts
  unfolding step choose on_number if_number unless
  input-reads s Grammar.no_field h r = closes _ (input_more s) r (λ a b. refl)
  input-reads s (Grammar.field_of {h = n} k) h r =
      then (input_more s)
      (to-zero-reads (input_high s) (closing (new_input s (suc n))) (closes _ (closing (new_input s (suc n))) r (λ a b. refl))
      (λ a b. rw (le-ltb 63 n k, le-ltb 64 (ns.wires + suc n) h)))
      (λ a b. refl)

  internal-reads : (s : List ℕ) {w : ℕ} {ts us : List Token} → IsWidth ts (token.sign Signs.equals ∷ us) w → Reads p ns (store_first s w) us
      → Reads p ns (store_more s) ts
  unfolding step choose on_number if_number unless
  internal-reads s Grammar.no_field r = then (store_more s) r (λ a b. refl)
  internal-reads s (Grammar.field_of {h = n} k) r =
      then (store_more s) (to-zero-reads (store_high s) (sign Signs.equals (store_first s (suc n))) (signed r) (λ a b. rw (le-ltb 63 n k))) (λ a b. refl)

  declaration-reads : {d : Declaration} {ts us : List Token} → IsDeclaration ns ts us d → Reads p (declare d ns) statement us → Reads p ns statement ts
  unfolding step choose new_name known by_kind on_name if_name on_number if_number unless behind_literal behind_operand
  declaration-reads (Grammar.declares_input {s} {width} (e, h) w k) r =
      then statement
      (then input_name (input-reads s w k r) (λ a b. rw (e, lt-leb 64 ns.wires (wires-left w k), lt-leb 128 (length ns.declared) h)))
      (λ a b. refl)
    where
      wires-left : {n : ℕ} {ts us : List Token} → IsWidth ts us n → ns.wires + n ≤ 64 → ns.wires < 64
      wires-left Grammar.no_field h = omega arith
      wires-left (Grammar.field_of k) h = omega arith
  declaration-reads (Grammar.declares_store {s} {width} {v} (e, h) k w l) r =
      then statement
      (then store_name
      (internal-reads s w
      (then (store_first s width) (closes _ (closing (new_store s width v)) r (λ a b. refl)) (λ a b. rw (lt-leb (2 ^ width) v l))))
      (λ a b. rw (e, lt-leb 16 (length ns.initial) k, lt-leb 128 (length ns.declared) h)))
      (λ a b. refl)
  declaration-reads (Grammar.declares_define {s} {ls} (e, h) l) r =
      then statement
      (then define_name (signed (literals-reads l tt (closes _ (literal_more (in_define s) ls) r (λ a b. refl)))) (λ a b. rw (e, lt-leb 128 (length ns.declared) h)))
      (λ a b. refl)
  declaration-reads (Grammar.declares_production {s} (e, h) x) r =
      then statement
      (signed (alternative-reads x s [] refl (λ a b c f q. closes _ (operand_more (opened s [] a b c) f true) r (λ i j. rw q))))
      (λ a b. rw (e, lt-leb 128 (length ns.declared) h))
  declaration-reads (Grammar.a_limit {p = i} {n} {w} few e h k l m) r =
      then statement
      (then limit_name
      (worded (then (limit_most i)
      (worded (then (limit_window i n) (closes _ (closing (new_limit i n w)) r (λ a b. refl)) (λ a b. rw (lt-leb w n l, le-ltb 1024 w m))))
      (λ a b. rw (le-ltb 1023 n k))))
      (λ a b. rw (e, h)))
      (λ a b. rw (lt-leb 8 (length ns.limits) few))

  monitors-reads : {ms : List Exp} {ts us : List Token} → IsMonitors ns ts us ms → length ms ≤ 32 → Reads p ns (monitor_more ms) us → Reads p ns (monitor_name []) ts
  unfolding step choose known on_name if_name by_kind unless
  monitors-reads (Grammar.one_monitor e) h r = then (monitor_name []) r (λ a b. rw e)
  monitors-reads (Grammar.next_monitor {ms} {e} k g) h r =
      let l : suc (length ms) ≤ 32 = omega (arith, length-append ms (e ∷ [])) in
      monitors-reads k (omega arith)
      (then (monitor_more ms) (then (monitor_name ms) r (λ a b. rw (g, lt-leb 32 (length ms) l))) (λ a b. refl))

end_reads : (ns : Names) (ms : List Exp) → Reads (program_of ns ms) ns (text_end ms) (token.end ∷ [])
unfolding read_on step
end_reads ns ms = record { run = at }
  where
    at : (ps : List Placed) → plain_tokens ps ≡ token.end ∷ [] → read_on ns (text_end ms) ps ≡ value (program_of ns ms)
    at [] e = clash (cc)
    at (q ∷ qs) e = let h : q.token ≡ token.end = cc in rw h

text-reads : {ns : Names} {ts : List Token} {p : Program} → IsText ns ts p → Reads p ns statement ts
unfolding step choose
text-reads (Grammar.declares d x) = declaration-reads d (text-reads x)
text-reads (Grammar.monitors {ns} {ms} x h) =
    then statement (monitors-reads x h (then (monitor_more ms) (end_reads ns ms) (λ a b. refl))) (λ a b. refl)

-- What the grammar derives is read, wherever the tokens are placed.
pub derived-read : {ns : Names} {p : Program} (ps : List Placed) → IsText ns (plain_tokens ps) p → read_on ns statement ps ≡ value p
derived-read ps x = (text-reads x).run ps refl
