-- What holds of the names and of what is expected while a text is read, as far as proofs/Finish needs it: every input has a wire, names are declared behind one that is no
-- define's, a name that is being declared is free, and all are names that a text can have. Assumes nothing.
use mathlib.Core.Path.{◌≡◌, refl, sym, ◌∙◌, subst}
use mathlib.Core.Bool.{Bool, true, false}
use mathlib.Core.List.{List, []}
use mathlib.Core.Option.{none, some}
use mathlib.Core.Logic.{◌⊎◌, inl, inr}
use Prim.Native.Nat.{ℕ, ◌+◌, ◌<◌}
use native.Mathlib.Omega.{arith}
use lib.Dec.{ltb}
use lib.ListN.{length}
use Rattle.lexer.specs.Bytes.{same, lookup}
use Rattle.lexer.specs.Tokens as token
use Rattle.lexer.specs.Tokens.{Token}
use Rattle.lexer.proofs.Spelling.{same-eq, same_refl, lookup-nil, lookup-hit, lookup-miss}
use Rattle.meaning.specs.Expression.{Literal, Write, Exp, as_production}
use Rattle.meaning.specs.Reading.{Open, Context, in_define, in_letter, Expect, statement, sign, keyword, nought, closing, input_name, input_more, input_high, store_name, store_more, store_high, store_first, define_name, limit_name, limit_most, limit_window, operand, literal, negated, wire_more, bit_index, wire_equals, store_equals, past_name, literal_more, write_store, write_value, write_more, operand_more, monitor_name, monitor_more, text_end, whole}
use Rattle.meaning.specs.Names.{Meaning, an_input, a_store, a_define, a_production, Names, no_names, Declaration, new_input, new_store, new_define, new_production, new_limit, declare, with_name}
use Rattle.meaning.specs.Grammar.{Stands, Free}
use Rattle.meaning.specs.Viable.{Spelled, HasInput, HasStore, HasProduction, names_of}
use Rattle.meaning.proofs.ListLaws.{clash}
use Rattle.meaning.proofs.FreeName.{New}
use Rattle.meaning.proofs.Outcomes.{LiteralNext, more_literals, first_literal, BehindLiterals, literals, one_wire, BehindOperand, operands, letters, WriteNext, first_write, more_writes, BySign, expected, closed, narrow_input, wide_input, narrow_store, wide_store, opened, negation, index, compared, joined, defined, writing, written, starred, piped, followed, or_else, level_closed, produced, more_monitors, all_monitors, ByNumber, zero_read, input_width, store_width, first_value, most_of_limit, window_of_limit, index_of_bit, wire_value, store_value, number_written, ByName, name_of_input, name_of_store, name_of_define, name_of_production, limited, of_wire, of_store, of_define, by_production, of_negated, equal_store, store_written, wire_written, monitored, Next, by_sign, by_number, by_name, by_word, same_wire, ByWord, expected_word, begins_input, begins_store, begins_define, begins_limit, begins_monitor, compared_past}

-- ---- a declaration more

-- the declaration declares this name, which stands for this; a limit declares none
pub data Gives (ns : Names) : Declaration → List ℕ → Meaning → Type 0 where
  gives_input : {s : List ℕ} {w : ℕ} → Gives ns (new_input s w) s (an_input ns.wires w)
  gives_store : {s : List ℕ} {w v : ℕ} → Gives ns (new_store s w v) s (a_store (length ns.initial) w)
  gives_define : {s : List ℕ} {ls : List Literal} → Gives ns (new_define s ls) s (a_define ls)
  gives_production : {s : List ℕ} {e : Exp} → Gives ns (new_production s e) s (a_production (as_production (length ns.declared) e))

module _ (ns : Names) where
  declared-as : {d : Declaration} {s : List ℕ} {m : Meaning} → Gives ns d s m → (declare d ns).declared ≡ with_name s m ns.declared
  unfolding declare
  declared-as gives_input = refl
  declared-as gives_store = refl
  declared-as gives_define = refl
  declared-as gives_production = refl

  -- what a declaration gives, if it is no limit
  given : (d : Declaration) → ((s : List ℕ) × (m : Meaning) × Gives ns d s m) ⊎ ((declare d ns).declared ≡ ns.declared)
  unfolding declare
  given (new_input s w) = inl (s, _, gives_input)
  given (new_store s w v) = inl (s, _, gives_store)
  given (new_define s ls) = inl (s, _, gives_define)
  given (new_production s e) = inl (s, _, gives_production)
  given (new_limit p n w) = inr refl

  pub names_more : (d : Declaration) → length (declare d ns).declared ≡ length ns.declared + names_of d
  unfolding declare
  names_more (new_input s w) = omega arith
  names_more (new_store s w v) = omega arith
  names_more (new_define s ls) = omega arith
  names_more (new_production s e) = omega arith
  names_more (new_limit p n w) = omega arith

  -- what is declared stands
  pub stands-itself : {d : Declaration} {s : List ℕ} {m : Meaning} → Gives ns d s m → Stands (declare d ns) s m
  stands-itself {s} g = rw (declared-as g) (lookup-hit s _ ns.declared (same_refl s))

  module _ (d : Declaration) (s : List ℕ) (m : Meaning) where
    -- and what stood above still does
    stands_on : ((r : List ℕ) (k : Meaning) → Gives ns d r k → Free ns r) → Stands ns s m → Stands (declare d ns) s m
    stands_on free e = by (given d)
      where
        by : ((r : List ℕ) × (k : Meaning) × Gives ns d r k) ⊎ ((declare d ns).declared ≡ ns.declared) → Stands (declare d ns) s m
        by (inl (r, k, g)) = rw (declared-as g) (at (same s r) refl (free r k g).0)
          where
            at : (t : Bool) → same s r ≡ t → lookup r ns.declared ≡ none → lookup s (with_name r k ns.declared) ≡ some m
            at true h f = let l : s ≡ r = same-eq s r h in clash (cc)
            at false h f = lookup-miss s _ ns.declared h ∙ e
        by (inr h) = rw h e

    -- a name that stands is the one declared, or stood above
    pub stood : Stands (declare d ns) s m → Gives ns d s m ⊎ Stands ns s m
    stood e = by (given d)
      where
        by : ((r : List ℕ) × (k : Meaning) × Gives ns d r k) ⊎ ((declare d ns).declared ≡ ns.declared) → Gives ns d s m ⊎ Stands ns s m
        by (inl (r, k, g)) = at (same s r) refl (rw (declared-as g) at e)
          where
            at : (t : Bool) → same s r ≡ t → lookup s (with_name r k ns.declared) ≡ some m → Gives ns d s m ⊎ Stands ns s m
            at true h f =
                let l : r ≡ s = sym (same-eq s r h) in
                let q : k ≡ m = cc (lookup-hit s (record { spelling = r; meaning = k }) ns.declared h) in
                inl (subst (Gives ns d s) q (subst (λ z. Gives ns d z k) l g))
            at false h f = inr (sym (lookup-miss s _ ns.declared h) ∙ f)
        by (inr h) = inr (rw h at e)

-- ---- the names

-- a name is declared that is no define's
pub data Root (ns : Names) : Type 0 where
  declares_input : HasInput ns → Root ns
  declares_store : HasStore ns → Root ns
  declares_production : HasProduction ns → Root ns

-- Every input has a wire, names are declared behind one that is no define's, and a text can have them.
pub record NamesSound (ns : Names) : Type 0 where
  pub inputs : (s : List ℕ) (lo width : ℕ) → Stands ns s (an_input lo width) → 0 < width
  pub rooted : (ns ≡ no_names) ⊎ Root ns
  pub spelled : (s : List ℕ) (m : Meaning) → Stands ns s m → Spelled (token.name s)

-- what a declaration needs
abbrev pub DeclarationSound : Names → Declaration → Type 0
DeclarationSound ns (new_input s width) = New ns s × (0 < width)
DeclarationSound ns (new_store s width v) = New ns s
DeclarationSound ns (new_define s ls) = New ns s × Root ns
DeclarationSound ns (new_production s e) = Spelled (token.name s)
DeclarationSound ns (new_limit p n w) = Root ns

-- a declaration of no production
abbrev pub NoProduction : Declaration → Type 0
NoProduction (new_input s width) = Unit {0}
NoProduction (new_store s width v) = Unit {0}
NoProduction (new_define s ls) = Unit {0}
NoProduction (new_production s e) = ⊥
NoProduction (new_limit p n w) = Unit {0}

module _ (ns : Names) where
  -- what stood above still does behind it
  pub still-stands : (d : Declaration) → DeclarationSound ns d → NoProduction d → (s : List ℕ) (m : Meaning) → Stands ns s m → Stands (declare d ns) s m
  still-stands d h n s m e = stands_on ns d s m (λ r k g. free g h n) e
    where
      free : {d : Declaration} {r : List ℕ} {k : Meaning} → Gives ns d r k → DeclarationSound ns d → NoProduction d → Free ns r
      free gives_input (f, h) n = f.0
      free gives_store f n = f.0
      free gives_define (f, h) n = f.0
      free gives_production h n = absurd n

module _ (ns : Names) (names : NamesSound ns) where
  -- where a name stands, one does that is no define's
  pub root : (s : List ℕ) (m : Meaning) → Stands ns s m → Root ns
  root s m e = by names.rooted
    where
      by : (ns ≡ no_names) ⊎ Root ns → Root ns
      by (inl h) = let f : lookup s [] ≡ some m = subst (λ (k : Names). lookup s k.declared ≡ some m) h e in clash (cc (lookup-nil {A = Meaning} s))
      by (inr r) = r

  root-on : (d : Declaration) → DeclarationSound ns d → NoProduction d → Root ns → Root (declare d ns)
  root-on d h n (declares_input (s, lo, w, e)) = declares_input (s, lo, w, still-stands ns d h n s _ e)
  root-on d h n (declares_store (s, i, w, e)) = declares_store (s, i, w, still-stands ns d h n s _ e)
  root-on d h n (declares_production (s, e, g)) = declares_production (s, e, still-stands ns d h n s _ g)

  pub declare-sound : (d : Declaration) → DeclarationSound ns d → NamesSound (declare d ns)
  declare-sound d h =
      record {
        inputs = λ s lo w e. wired s lo w (stood ns d s (an_input lo w) e);
        rooted = inr (rooted-by d h);
        spelled = λ s m e. spelled_by s m (stood ns d s m e);
      }
    where
      wide : {d : Declaration} {s : List ℕ} {m : Meaning} (lo w : ℕ) → Gives ns d s m → DeclarationSound ns d → m ≡ an_input lo w → 0 < w
      wide lo w (gives_input {w = width}) (f, h) e = let g : width ≡ w = cc in omega arith
      wide lo w gives_store h e = clash (cc)
      wide lo w gives_define h e = clash (cc)
      wide lo w gives_production h e = clash (cc)

      wired : (s : List ℕ) (lo w : ℕ) → Gives ns d s (an_input lo w) ⊎ Stands ns s (an_input lo w) → 0 < w
      wired s lo w (inl g) = wide lo w g h refl
      wired s lo w (inr e) = names.inputs s lo w e

      of-name : {d : Declaration} {s : List ℕ} {m : Meaning} → Gives ns d s m → DeclarationSound ns d → Spelled (token.name s)
      of-name gives_input (f, h) = f.1
      of-name gives_store f = f.1
      of-name gives_define (f, h) = f.1
      of-name gives_production h = h

      spelled_by : (s : List ℕ) (m : Meaning) → Gives ns d s m ⊎ Stands ns s m → Spelled (token.name s)
      spelled_by s m (inl g) = of-name g h
      spelled_by s m (inr e) = names.spelled s m e

      rooted-by : (d : Declaration) → DeclarationSound ns d → Root (declare d ns)
      rooted-by (new_input s width) h = declares_input (s, ns.wires, width, stands-itself ns gives_input)
      rooted-by (new_store s width v) h = declares_store (s, length ns.initial, width, stands-itself ns gives_store)
      rooted-by (new_define s ls) (f, r) = root-on (new_define s ls) (f, r) tt r
      rooted-by (new_production s e) h = declares_production (s, _, stands-itself ns gives_production)
      rooted-by (new_limit p n w) r = root-on (new_limit p n w) r tt r

-- ---- what is expected

-- the name of a production that is being read
abbrev pub OpenSound : Open → Type 0
OpenSound o = Spelled (token.name o.name)

abbrev pub ContextSound : Names → Context → Type 0
ContextSound ns (in_define s) = New ns s
ContextSound ns (in_letter o) = OpenSound o

-- behind a literal, or within one, a name stands
abbrev pub LiteralsSound : Names → Context → Type 0
LiteralsSound ns c = ContextSound ns c × Root ns

abbrev pub ExpectSound : Names → Expect → Type 0
ExpectSound ns statement = Unit {0}
ExpectSound ns (sign k x) = (ltb k 18 ≡ true) × ExpectSound ns x
ExpectSound ns (keyword w x) = ExpectSound ns x
ExpectSound ns (nought x) = ExpectSound ns x
ExpectSound ns (closing d) = DeclarationSound ns d × NoProduction d
ExpectSound ns input_name = Unit {0}
ExpectSound ns (input_more s) = New ns s × (ns.wires < 64)
ExpectSound ns (input_high s) = New ns s × (ns.wires < 64)
ExpectSound ns store_name = Unit {0}
ExpectSound ns (store_more s) = New ns s
ExpectSound ns (store_high s) = New ns s
ExpectSound ns (store_first s width) = New ns s
ExpectSound ns define_name = Unit {0}
ExpectSound ns limit_name = Unit {0}
ExpectSound ns (limit_most p) = Root ns
ExpectSound ns (limit_window p n) = Root ns
ExpectSound ns (operand o) = OpenSound o
ExpectSound ns (literal c ls) = ContextSound ns c
ExpectSound ns (negated c ls) = ContextSound ns c
ExpectSound ns (wire_more c ls s lo width v place) = LiteralsSound ns c × (0 < width) × Spelled (token.name s)
ExpectSound ns (bit_index c ls lo width v) = LiteralsSound ns c × (0 < width)
ExpectSound ns (wire_equals c ls s lo width) = LiteralsSound ns c × Spelled (token.name s)
ExpectSound ns (store_equals c ls number width) = LiteralsSound ns c
ExpectSound ns (past_name c ls s lo width) = LiteralsSound ns c × Spelled (token.name s)
ExpectSound ns (literal_more c ls) = LiteralsSound ns c
ExpectSound ns (write_store o ls ws) = OpenSound o × (length ws < 2)
ExpectSound ns (write_value o ls ws number width) = OpenSound o
ExpectSound ns (write_more o ls ws) = OpenSound o
ExpectSound ns (operand_more o e b) = OpenSound o
ExpectSound ns (monitor_name ms) = Unit {0}
ExpectSound ns (monitor_more ms) = Unit {0}
ExpectSound ns (text_end ms) = Unit {0}

abbrev pub Sound : Names → Expect → Type 0
Sound ns x = NamesSound ns × ExpectSound ns x

-- ---- one token

module _ (ns : Names) (names : NamesSound ns) where
  literal-next : {x : Expect} {c : Context} {ls : List Literal} → LiteralNext x c ls → ExpectSound ns x → ContextSound ns c
  literal-next more_literals g = g
  literal-next first_literal g = g

  behind-literals : {x : Expect} {c : Context} {ls : List Literal} → BehindLiterals x c ls → ExpectSound ns x → LiteralsSound ns c
  behind-literals literals g = g
  behind-literals (one_wire e) (g, h, r) = g

  behind-operand : {x : Expect} {o : Open} {e : Exp} {b : Bool} → BehindOperand x o e b → ExpectSound ns x → OpenSound o
  behind-operand operands g = g
  behind-operand (letters n) g = (behind-literals n g).0

  write-next : {x : Expect} {o : Open} {ls : List Literal} {ws : List Write} → WriteNext x o ls ws → ExpectSound ns x → OpenSound o
  write-next first_write (g, h) = g
  write-next more_writes g = g

  sign-sound : {k : ℕ} {x y : Expect} {ms : Names} → BySign ns k x ms y → ExpectSound ns x → Sound ms y
  sign-sound expected (k, g) = (names, g)
  sign-sound (closed {d}) (g, h) = (declare-sound ns names d g, tt)
  sign-sound (narrow_input {s}) (f, h) = (declare-sound ns names (new_input s 1) (f, omega arith), tt)
  sign-sound wide_input g = (names, g)
  sign-sound narrow_store g = (names, g)
  sign-sound wide_store g = (names, g)
  sign-sound (opened few) g = (names, g)
  sign-sound (negation n) g = (names, literal-next n g)
  sign-sound index (g, h, r) = (names, (g, h))
  sign-sound (compared e) (g, h, r) = (names, (g, r))
  sign-sound (joined n) g = (names, (behind-literals n g).0)
  sign-sound (defined {s} {ls} n) g = (declare-sound ns names (new_define s ls) (behind-literals n g), tt)
  sign-sound (writing n) g = (names, ((behind-literals n g).0, omega arith))
  sign-sound written g = (names, g)
  sign-sound (starred n h) g = (names, behind-operand n g)
  sign-sound (piped n h) g = (names, behind-operand n g)
  sign-sound (followed n) g = (names, behind-operand n g)
  sign-sound (or_else n) g = (names, behind-operand n g)
  sign-sound (level_closed n h) g = (names, behind-operand n g)
  sign-sound (produced {o} {e} n h) g = (declare-sound ns names (new_production o.name (whole o.level e)) (behind-operand n g), tt)
  sign-sound more_monitors g = (names, tt)
  sign-sound all_monitors g = (names, tt)

  number-sound : {n : ℕ} {x y : Expect} → ByNumber ns n x y → ExpectSound ns x → ExpectSound ns y
  number-sound zero_read g = g
  number-sound (input_width k l) (f, h) = (refl, (refl, ((f, omega arith), tt)))
  number-sound (store_width k) g = (refl, (refl, (refl, g)))
  number-sound (first_value k) g = (g, tt)
  number-sound (most_of_limit k) g = g
  number-sound (window_of_limit k l) g = (g, tt)
  number-sound (index_of_bit k) (g, h) = (refl, g)
  number-sound (wire_value k) (g, r) = g
  number-sound (store_value k) g = g
  number-sound (number_written k) g = (refl, g)

  module _ (s : List ℕ) (spelled : Spelled (token.name s)) where
    name-sound : {place : ℕ} {x y : Expect} → ByName ns place s x y → ExpectSound ns x → ExpectSound ns y
    name-sound (name_of_input f h) g = ((f, spelled), h)
    name-sound (name_of_store f h) g = (f, spelled)
    name-sound (name_of_define f) g = (refl, (f, spelled))
    name-sound (name_of_production f) g = (refl, spelled)
    name-sound (limited e k) g = root ns names s _ e
    name-sound (of_wire {lo} {w} n e) g = ((literal-next n g, root ns names s _ e), names.inputs s lo w e, spelled)
    name-sound (of_store n e k) g = (refl, (literal-next n g, root ns names s _ e))
    name-sound (of_define n e k) g = (literal-next n g, root ns names s _ e)
    name-sound (by_production e) g = g
    name-sound (of_negated {lo} {w} e) g = ((g, root ns names s _ e), names.inputs s lo w e, spelled)
    name-sound (equal_store e k) (g, r) = g
    name-sound same_wire (g, r) = (refl, g)
    name-sound (store_written n e k) g = (refl, write-next n g)
    name-sound (wire_written e k) g = (refl, g)
    name-sound (monitored e k) g = tt

  word_sound : {w : token.Word} {x y : Expect} → ByWord ns w x y → ExpectSound ns x → ExpectSound ns y
  word_sound expected_word g = g
  word_sound begins_input g = tt
  word_sound begins_store g = tt
  word_sound begins_define g = tt
  word_sound (begins_limit few) g = tt
  word_sound begins_monitor g = tt
  word_sound compared_past g = (refl, g)

-- It holds while the tokens of a text are read.
pub next-sound : {ns ms : Names} {place : ℕ} {u : Token} {x y : Expect} → Next ns place u x ms y → Spelled u → Sound ns x → Sound ms y
next-sound (by_sign n) t (names, g) = sign-sound _ names n g
next-sound (by_number n) t (names, g) = (names, number-sound _ names n g)
next-sound (by_name {s} n) t (names, g) = (names, name-sound _ names s t n g)
next-sound (by_word n) t (names, g) = (names, word_sound _ names n g)

pub none-sound : Sound no_names statement
none-sound = (
  record {
    inputs = λ s lo w e. clash (cc (lookup-nil {A = Meaning} s));
    rooted = inl refl;
    spelled = λ s m e. clash (cc (lookup-nil {A = Meaning} s));
  },
  tt,
)
