-- Reading on from a position by the token that stands there. Assumes nothing.
use mathlib.Core.Path.{◌≡◌, refl, sym, ◌∙◌, ap, subst}
use mathlib.Core.Bool.{Bool, true, false, cond, false≢true}
use mathlib.Core.List.{List}
use mathlib.Core.Logic.{inl, inr}
use Prim.Native.Nat.{ℕ, ◌-◌, ◌<◌, ◌≤◌}
use native.Mathlib.Omega.{arith}
use lib.Dec.{eqb}
use lib.ListN.{length, take, drop}
use borrow.Author.Tests.{eq-eqb, ne_eqb}
use Rattle.lexer.specs.Shown.{sign_number, word_shown, kind_shown}
use Rattle.lexer.specs.Tokens as token
use Rattle.lexer.specs.Tokens.{Placed, goes_on, token_at, rule_words}
use Rattle.lexer.specs.declared.Kind.{Kind}
use Rattle.lexer.specs.declared.Kind.TheVariants as kind
use Rattle.lexer.specs.declared.Sign.{Sign}
use Rattle.lexer.specs.declared.Sign.TheVariants as signs
use Rattle.lexer.specs.declared.Token.{Token as Seen}
use Rattle.lexer.specs.declared.Word.{Word}
use Rattle.lexer.specs.declared.Word.TheVariants as words
use Rattle.lexer.proofs.Sized.{lies}
use Rattle.meaning.specs.Reading.{Expect, sign, keyword, nought, Step, go, fault, is_sign, is, choose, unless, at_token, number_of, not_here, if_name, on_name, if_number, on_number, step, and_then, ordinal, is_word, spelling_of}
use Rattle.meaning.specs.Names.{Names}
use Rattle.meaning.proofs.Stops.{read-from}
use Rattle.rules.specs.Seen.{fault_of, is_name, seen, Sees}
use Rattle.rules.specs.Reads.{read_from, Unless, fine, faulted, Behind, Past, placed, NoNumber, NumberRead}

-- ---- answers

pub well : {A B : Type 0} {f : ℕ} → Unless f A B → f ≡ 0 → A
well (fine z a) e = a
well (faulted n b) e = absurd (n e)

pub ill : {A B : Type 0} {f : ℕ} → Unless f A B → (f ≡ 0 → ⊥) → B
ill (fine z a) n = absurd (n z)
ill (faulted m b) n = b

-- ---- the token at a position, by its kind

faulty : (k : Kind) → fault_of k ≡ 0 → ⊥
faulty kind.Name e = omega arith
faulty (kind.Word w) e = omega arith
faulty (kind.Number n) e = omega arith
faulty (kind.Sign g) e = omega arith
faulty kind.End e = omega arith
faulty kind.Knot e = omega arith

fault-number : (s : List ℕ) (k : Kind) → number_of (kind_shown s k) ≡ fault_of k
fault-number s kind.Name = refl
fault-number s (kind.Word w) = refl
fault-number s (kind.Number n) = refl
fault-number s (kind.Sign g) = refl
fault-number s kind.End = refl
fault-number s kind.Knot = refl

-- the sign of a number, and the word of one
sign_of : ℕ → Sign
sign_of n =
    cond (eqb n 0) signs.Semicolon
    (cond (eqb n 1) signs.Comma
    (cond (eqb n 2) signs.At
    (cond (eqb n 3) signs.Star
    (cond (eqb n 4) signs.Ampersand
    (cond (eqb n 5) signs.Bang
    (cond (eqb n 6) signs.LeftParen
    (cond (eqb n 7) signs.RightParen
    (cond (eqb n 8) signs.LeftBracket
    (cond (eqb n 9) signs.RightBracket
    (cond (eqb n 10) signs.LeftBrace
    (cond (eqb n 11) signs.RightBrace
    (cond (eqb n 12) signs.Colon
    (cond (eqb n 13) signs.Equals
    (cond (eqb n 14) signs.DoubleEquals
    (cond (eqb n 15) signs.DoubleBar
    (cond (eqb n 16) signs.RightArrow signs.LeftArrow))))))))))))))))

sign-back : (g : Sign) → sign_of (sign_number g) ≡ g
unfolding sign_of
sign-back signs.Semicolon = refl
sign-back signs.Comma = refl
sign-back signs.At = refl
sign-back signs.Star = refl
sign-back signs.Ampersand = refl
sign-back signs.Bang = refl
sign-back signs.LeftParen = refl
sign-back signs.RightParen = refl
sign-back signs.LeftBracket = refl
sign-back signs.RightBracket = refl
sign-back signs.LeftBrace = refl
sign-back signs.RightBrace = refl
sign-back signs.Colon = refl
sign-back signs.Equals = refl
sign-back signs.DoubleEquals = refl
sign-back signs.DoubleBar = refl
sign-back signs.RightArrow = refl
sign-back signs.LeftArrow = refl

sign-same : (g h : Sign) → sign_number g ≡ sign_number h → g ≡ h
sign-same g h e = sym (sign-back g) ∙ ap sign_of e ∙ sign-back h

word_of : ℕ → Word
word_of n =
    cond (eqb n 0) words.Input
    (cond (eqb n 1) words.Internal
    (cond (eqb n 2) words.Define
    (cond (eqb n 3) words.Monitor
    (cond (eqb n 4) words.Past
    (cond (eqb n 5) words.Limit
    (cond (eqb n 6) words.To words.In))))))

word-back : (w : Word) → word_of (ordinal (word_shown w)) ≡ w
unfolding word_of
word-back words.Input = refl
word-back words.Internal = refl
word-back words.Define = refl
word-back words.Monitor = refl
word-back words.Past = refl
word-back words.Limit = refl
word-back words.To = refl
word-back words.In = refl

word-same : (v w : Word) → ordinal (word_shown v) ≡ ordinal (word_shown w) → v ≡ w
word-same v w e = sym (word-back v) ∙ ap word_of e ∙ word-back w

-- a kind of token that takes bytes
abbrev pub Takes : Kind → Type 0
Takes kind.Name = Unit {0}
Takes (kind.Word w) = Unit {0}
Takes (kind.Number n) = Unit {0}
Takes (kind.Sign g) = Unit {0}
Takes kind.End = ⊥
Takes kind.Knot = ⊥

-- a token is a name or not
pub name-true : (k : Kind) → is_name k ≡ true → k ≡ kind.Name
name-true kind.Name e = refl
name-true (kind.Word w) e = absurd (false≢true e)
name-true (kind.Number n) e = absurd (false≢true e)
name-true (kind.Sign g) e = absurd (false≢true e)
name-true kind.End e = absurd (false≢true e)
name-true kind.Knot e = absurd (false≢true e)

pub name-false : (k : Kind) → is_name k ≡ false → k ≡ kind.Name → ⊥
name-false k e q = false≢true (sym e ∙ ap is_name q)

pub no-name-false : (k : Kind) → (k ≡ kind.Name → ⊥) → is_name k ≡ false
no-name-false kind.Name n = absurd (n refl)
no-name-false (kind.Word w) n = refl
no-name-false (kind.Number v) n = refl
no-name-false (kind.Sign g) n = refl
no-name-false kind.End n = refl
no-name-false kind.Knot n = refl

takes-on : (s : List ℕ) (k : Kind) → Takes k → goes_on (kind_shown s k) ≡ true
takes-on s kind.Name t = refl
takes-on s (kind.Word w) t = refl
takes-on s (kind.Number n) t = refl
takes-on s (kind.Sign g) t = refl
takes-on s kind.End t = absurd t
takes-on s kind.Knot t = absurd t

-- a kind is one kind: a sign is no other sign, and a word is no number
sign_in : Kind → ℕ
sign_in kind.Name = 18
sign_in (kind.Word w) = 18
sign_in (kind.Number n) = 18
sign_in (kind.Sign g) = sign_number g
sign_in kind.End = 18
sign_in kind.Knot = 18

pub other-sign : {k : Kind} {g h : Sign} → k ≡ kind.Sign g → (sign_number g ≡ sign_number h → ⊥) → k ≡ kind.Sign h → ⊥
unfolding sign_in
other-sign q n z = n (ap sign_in (sym q ∙ z))

word_in : Kind → ℕ
word_in kind.Name = 0
word_in (kind.Word w) = 1
word_in (kind.Number n) = 0
word_in (kind.Sign g) = 0
word_in kind.End = 0
word_in kind.Knot = 0

pub word-no-number : {k : Kind} {w : Word} → k ≡ kind.Word w → (v : ℕ) → k ≡ kind.Number v → ⊥
unfolding word_in
word-no-number q v z = let e : ◌≡◌ {A = ℕ} 1 0 = ap word_in (sym q ∙ z) in omega arith

pub word-no-name : {w : Word} → kind.Word w ≡ kind.Name → ⊥
unfolding word_in
word-no-name z = let e : ◌≡◌ {A = ℕ} 1 0 = ap word_in z in omega arith

-- a token of another kind
no-sign : (g : Sign) (s : List ℕ) (k : Kind) → (k ≡ kind.Sign g → ⊥) → is_sign (sign_number g) (kind_shown s k) ≡ false
no-sign g s kind.Name n = refl
no-sign g s (kind.Word w) n = refl
no-sign g s (kind.Number v) n = refl
no-sign g s (kind.Sign h) n = ne_eqb (sign_number g) (sign_number h) (λ z. n (ap kind.Sign (sign-same h g (sym z))))
no-sign g s kind.End n = refl
no-sign g s kind.Knot n = refl

no-word : (w : Word) (s : List ℕ) (k : Kind) → (k ≡ kind.Word w → ⊥) → is_word (word_shown w) (kind_shown s k) ≡ false
no-word w s kind.Name n = refl
no-word w s (kind.Word v) n = ne_eqb (ordinal (word_shown w)) (ordinal (word_shown v)) (λ z. n (ap kind.Word (word-same v w (sym z))))
no-word w s (kind.Number v) n = refl
no-word w s (kind.Sign h) n = refl
no-word w s kind.End n = refl
no-word w s kind.Knot n = refl

not-number : (s : List ℕ) (k : Kind) → ((v : ℕ) → k ≡ kind.Number v → ⊥) → (next : ℕ → Step) (other : Step) → if_number (kind_shown s k) next other ≡ other
unfolding if_number
not-number s kind.Name n next other = refl
not-number s (kind.Word w) n next other = refl
not-number s (kind.Number v) n next other = absurd (n v refl)
not-number s (kind.Sign g) n next other = refl
not-number s kind.End n next other = refl
not-number s kind.Knot n next other = refl

not-nought : (s : List ℕ) (k : Kind) → (k ≡ kind.Number 0 → ⊥) → (next other : Step) → if_number (kind_shown s k) (λ v. choose (eqb v 0) next other) other ≡ other
unfolding if_number choose
not-nought s kind.Name n next other = refl
not-nought s (kind.Word w) n next other = refl
not-nought s (kind.Number v) n next other = rw (ne_eqb v 0 (λ z. n (ap kind.Number z)))
not-nought s (kind.Sign g) n next other = refl
not-nought s kind.End n next other = refl
not-nought s kind.Knot n next other = refl

not-name : (s : List ℕ) (k : Kind) → (k ≡ kind.Name → ⊥) → (next : List ℕ → Step) (other : Step) → if_name (kind_shown s k) next other ≡ other
unfolding if_name
not-name s kind.Name n next other = absurd (n refl)
not-name s (kind.Word w) n next other = refl
not-name s (kind.Number v) n next other = refl
not-name s (kind.Sign g) n next other = refl
not-name s kind.End n next other = refl
not-name s kind.Knot n next other = refl

-- ---- reading on from a position

module _ (text : List ℕ) (at : ℕ) (t : Seen) (e : Sees text at t) where
  -- a token of a kind
  pub of : {k : Kind} → t.kind ≡ k → seen text t ≡ placed (kind_shown (take (t.after - t.place) (drop t.place text)) k) t.place t.after
  unfolding seen
  of q = rw q

  goes : {k : Kind} → t.kind ≡ k → Takes k → goes_on (token_at rule_words text at).token ≡ true
  goes {k} q y = sym (ap (λ (u : Placed). goes_on u.token) e.token) ∙ ap (λ (u : Placed). goes_on u.token) (of q) ∙ takes-on _ k y

  pub past : {k : Kind} → t.kind ≡ k → Takes k → Past text at t.after
  unfolding seen
  past q y =
      let z = lies rule_words text at in
      let g = z.grows (goes q y) in
      (omega (arith, ap (λ (u : Placed). u.place) e.token, ap (λ (u : Placed). u.after) e.token), omega (arith, z.high, ap (λ (u : Placed). u.after) e.token))

  pub since : at ≤ length text → at ≤ t.place
  unfolding seen
  since l = omega (arith, (lies rule_words text at).since l, ap (λ (u : Placed). u.place) e.token)

  pub inside-text : (t.place ≤ t.after) × (t.after ≤ length text)
  unfolding seen
  inside-text =
      let z = lies rule_words text at in
      (omega (arith, z.low, ap (λ (u : Placed). u.place) e.token, ap (λ (u : Placed). u.after) e.token), omega (arith, z.high, ap (λ (u : Placed). u.after) e.token))

  pub past-at : {k : Kind} → t.kind ≡ k → Takes k → t.place < t.after
  unfolding seen
  past-at q y =
      let z = lies rule_words text at in
      let g = z.grows (goes q y) in
      omega (arith, ap (λ (u : Placed). u.place) e.token, ap (λ (u : Placed). u.after) e.token)

  pub past-place : t.kind ≡ kind.Name → t.place < t.after
  past-place q = past-at q tt

  -- a step that is known
  pub on_step : (ns : Names) (x : Expect) (s : Step) → step ns x (seen text t) ≡ s → read_from text at ns x ≡ and_then s (λ ms y. read_from text t.after ms y)
  unfolding read_from seen
  on_step ns x s q =
      read-from text at ns x ∙ sym (ap (λ (u : Placed). and_then (step ns x u) (λ ms y. read_from text u.after ms y)) e.token)
      ∙ ap (λ (z : Step). and_then z (λ ms y. read_from text t.after ms y)) q

  pub is-on : (g : Sign) → t.kind ≡ kind.Sign g → is (sign_number g) (seen text t) ≡ true
  is-on g q = ap (is (sign_number g)) (of q) ∙ eq-eqb (sign_number g) (sign_number g) refl

  pub is-off : (g : Sign) → (t.kind ≡ kind.Sign g → ⊥) → is (sign_number g) (seen text t) ≡ false
  unfolding seen
  is-off g q = no-sign g _ t.kind q

  pub no-sign-at : (g : Sign) → (t.kind ≡ kind.Sign g → ⊥) → is (sign_number g) (token_at rule_words text at) ≡ false
  no-sign-at g q = sym (ap (is (sign_number g)) e.token) ∙ is-off g q

  -- it is not allowed here
  pub not-here : not_here (seen text t) ≡ fault (fault_of t.kind) t.place
  unfolding seen not_here
  not-here = ap (λ (n : ℕ). fault n t.place) (fault-number _ t.kind)

  pub faults : fault_of t.kind ≡ 0 → ⊥
  faults = faulty t.kind

  -- it is a name or no name, a number or no number, a word or not
  pub name-is : t.kind ≡ kind.Name → seen text t ≡ placed (token.name (take (t.after - t.place) (drop t.place text))) t.place t.after
  name-is q = of q

  pub spelled : t.kind ≡ kind.Name → spelling_of (seen text t).token ≡ take (t.after - t.place) (drop t.place text)
  spelled q = ap (λ (u : Placed). spelling_of u.token) (name-is q)

  pub word-on : (w : Word) → t.kind ≡ kind.Word w → is_word (word_shown w) (seen text t).token ≡ true
  word-on w q = ap (λ (u : Placed). is_word (word_shown w) u.token) (of q) ∙ eq-eqb (ordinal (word_shown w)) (ordinal (word_shown w)) refl

  pub word-off : (w : Word) → (t.kind ≡ kind.Word w → ⊥) → is_word (word_shown w) (seen text t).token ≡ false
  unfolding seen
  word-off w q = no-word w _ t.kind q

  pub no_name : (t.kind ≡ kind.Name → ⊥) → (next : List ℕ → Step) → on_name (seen text t) next ≡ fault (fault_of t.kind) t.place
  unfolding on_name seen
  no_name q next = not-name _ t.kind q next _ ∙ not-here

  pub number_is : {v : ℕ} → t.kind ≡ kind.Number v → seen text t ≡ placed (token.number v) t.place t.after
  number_is q = of q

-- one of two steps
pub yes : (t : Bool) (a b : Step) → t ≡ true → choose t a b ≡ a
unfolding choose
yes t a b e = rw e

pub no : (t : Bool) (a b : Step) → t ≡ false → choose t a b ≡ b
unfolding choose
no t a b e = rw e

-- a fault that holds, and one that does not
pub wrong : (b : Bool) (n : ℕ) (t : Placed) (s : Step) → b ≡ true → unless b n t s ≡ fault n t.place
unfolding unless choose at_token
wrong b n t s e = rw e

pub right : (b : Bool) (n : ℕ) (t : Placed) (s : Step) → b ≡ false → unless b n t s ≡ s
unfolding unless choose
right b n t s e = rw e

-- ---- a sign, a reserved word, a number, and `:0]`

module _ (text : List ℕ) (at : ℕ) (t : Seen) (e : Sees text at t) where
  pub sign-behind : (g : Sign) → t.kind ≡ kind.Sign g → Behind text at 0 t.after (sign (sign_number g))
  unfolding Behind step
  sign-behind g q = fine refl (past text at t e q tt, λ ns y. on_step text at t e ns (sign (sign_number g) y) (go ns y) (yes _ _ _ (is-on text at t e g q)))

  pub sign-not : (g : Sign) → (t.kind ≡ kind.Sign g → ⊥) → Behind text at (fault_of t.kind) t.place (sign (sign_number g))
  unfolding Behind step
  sign-not g q =
      faulted (faults text at t e) (λ ns y. on_step text at t e ns (sign (sign_number g) y) _ (no _ _ _ (is-off text at t e g q) ∙ not-here text at t e))

  pub word-behind : (w : Word) → t.kind ≡ kind.Word w → Behind text at 0 t.after (keyword (word_shown w))
  unfolding Behind step
  word-behind w q = fine refl (past text at t e q tt, λ ns y. on_step text at t e ns (keyword (word_shown w) y) (go ns y) (yes _ _ _ (word-on text at t e w q)))

  pub word-not : (w : Word) → (t.kind ≡ kind.Word w → ⊥) → Behind text at (fault_of t.kind) t.place (keyword (word_shown w))
  unfolding Behind step
  word-not w q =
      faulted (faults text at t e) (λ ns y. on_step text at t e ns (keyword (word_shown w) y) _ (no _ _ _ (word-off text at t e w q) ∙ not-here text at t e))

  -- a token that is no number, and one that is too large
  pub no_number : ((v : ℕ) → t.kind ≡ kind.Number v → ⊥) → NoNumber (seen text t) (fault_of t.kind)
  unfolding seen on_number
  no_number q next = (not-number _ t.kind q next _ ∙ not-here text at t e, not-number _ t.kind q next)

  pub number-not : (most : ℕ) → ((v : ℕ) → t.kind ≡ kind.Number v → ⊥) → NumberRead text at most (fault_of t.kind) t.place t.place 0
  unfolding NumberRead seen
  number-not most q =
      faulted (faults text at t e)
      (sym (ap (λ (u : Placed). u.place) e.token), inl (subst (λ (u : Placed). NoNumber u (fault_of t.kind)) e.token (no_number q)))

  pub number-large : (most v : ℕ) → t.kind ≡ kind.Number v → most < v → NumberRead text at most 6 t.place t.place 0
  unfolding NumberRead seen
  number-large most v q l =
      faulted (λ z. omega arith) (sym (ap (λ (u : Placed). u.place) e.token), inr (v, t.after, sym e.token ∙ number_is text at t e q, l, refl))

  pub number_read : (most v : ℕ) → t.kind ≡ kind.Number v → v ≤ most → NumberRead text at most 0 t.after t.place v
  unfolding NumberRead
  number_read most v q l = fine refl (past text at t e q tt, sym e.token ∙ number_is text at t e q, l)

  pub nought-behind : t.kind ≡ kind.Number 0 → Behind text at 0 t.after nought
  unfolding Behind step on_number if_number
  nought-behind q =
      fine refl (past text at t e q tt, λ ns y. on_step text at t e ns (nought y) (go ns y) (ap (step ns (nought y)) (number_is text at t e q) ∙ yes _ _ _ refl))

  pub nought-not : (t.kind ≡ kind.Number 0 → ⊥) → Behind text at (fault_of t.kind) t.place nought
  unfolding Behind step on_number seen
  nought-not q = faulted (faults text at t e) (λ ns y. on_step text at t e ns (nought y) _ (not-nought _ t.kind q _ _ ∙ not-here text at t e))

-- one thing behind another
module _ (text : List ℕ) (at b f c : ℕ) (x y : Expect → Expect) where
  pub behind-then : (g : ℕ) → Behind text at g b x → g ≡ 0 → Behind text b f c y → Behind text at f c (λ z. x (y z))
  unfolding Behind
  behind-then g first z (fine p (l, q)) = let (m, r) = well first z in fine p ((omega arith, omega arith), λ ns w. r ns (y w) ∙ q ns w)
  behind-then g first z (faulted n q) = let (m, r) = well first z in faulted n (λ ns w. r ns (y w) ∙ q ns w)

pub behind-not : (text : List ℕ) (at f c : ℕ) (x y : Expect → Expect) → Behind text at f c x → (f ≡ 0 → ⊥) → Behind text at f c (λ z. x (y z))
unfolding Behind
behind-not text at f c x y first n = faulted n (λ ns w. ill first n ns (y w))

pub behind-past : (text : List ℕ) (at f b : ℕ) (x : Expect → Expect) → Behind text at f b x → f ≡ 0 → Past text at b
unfolding Behind
behind-past text at f b x r z = (well r z).0
